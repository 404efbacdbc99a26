-- The whole command behind a chain: where it stands in what is decided. Read ../specs/Calls.antt before. Exports `whole_facts`, `data_is`, `data_length`,
-- `data_bytes`; `class_decided` (a whole command with a known pair comes to what its class says), `whole_from`, `Way` and `way` (every command stops, is a link, or is
-- such a whole command).
use Prim.Native.Nat.{ℕ, ◌+◌, ◌-◌, ◌/◌, ◌%◌, ◌≤◌}
use mathlib.Core.Path.{◌≡◌, refl, sym, ap, ap₂, subst, ◌∙◌}
use mathlib.Core.Bool.{Bool, true, false, ◌||◌}
use mathlib.Core.List.{List, [], ◌∷◌, ◌++◌}
use native.Mathlib.Omega.{arith}
use lib.ListN.{length, length-append}
use lib.Dec.{leb, ltb, eqb}
use borrow.Author.Tests.{eqb-true, leb-true, le-leb, eq-eqb}
use Rattle.base.specs.Choice.{if_else, all_of}
use Rattle.base.specs.Bytes.{part, AllBytes}
use Rattle.base.proofs.Cases.{by_cases, false-true, if_else_ind, all_of_facts, all_of_accepted}
use Rattle.base.proofs.Parts.{length_part}
use Rattle.machine_apdu.specs.Status.{normal, wrong_length}
use Rattle.machine_apdu.specs.Shape.{shape_of}
use Rattle.machine_apdu.specs.declared.Frame.{Frame}
use Rattle.machine_apdu.specs.declared.Header.{Header}
use Rattle.machine_apdu.proofs.Laws.{shape_facts}
use Rattle.machine_session.specs.Order.{in_order}
use Rattle.machine_session.specs.declared.Session.{Session}
use Rattle.machine_session.proofs.Steps.{in_order-each}
use Rattle.machine_action.specs.declared.Action.{Action}
use Rattle.machine_chain.specs.Chain.{Chain, NoChain, Links, is_amid, so_far, goes_on}
use Rattle.machine_link.specs.Link.{is_link, class_of, is_command, head_status, join_fits, last_turn, turn}
use Rattle.machine_link.specs.declared.Course.{Course}
use Rattle.machine_link.specs.declared.Course.TheVariants.{Extends, Goes}
use Rattle.machine_link.proofs.Turning.{Extending, Going, Turned, stopped, joined, gone, turn-told}
use Rattle.machine_dispatch.specs.Decide.{by_class, whole_frame, data_by, data_of, on_course, by_shape, decide}
use Rattle.machine_dispatch.proofs.Allowing.{From, class-from, bytes-part, bytes-append}
use Rattle.promises.specs.Calls.{is_pair, whole_by, whole_of}
use Rattle.promises.proofs.Wording.{is_refusing, Worded, class-word, Stopping, stopping, extending, going, turn-word}
use Rattle.std.specs.Prelude.{Option, Some, None}
use Rattle.std.specs.Prelude.{Result, Err}
use Rattle.std.specs.Prelude.{Ok}

-- CLA and INS
pub pair_facts : (f : Frame) (c i : ℕ) → is_pair f c i ≡ true → (f.header.cla ≡ c) × (f.header.ins ≡ i)
unfolding is_pair
pair_facts f c i p = let h = all_of_facts (eqb f.header.cla c ∷ eqb f.header.ins i ∷ []) p in (eqb-true _ _ h.0, eqb-true _ _ h.1.0)

-- ---- a whole command

-- f is the frame of the whole command behind the chain ch, of which g is the frame of its last link
pub record WholeBy (ch : Chain) (cmd : List ℕ) (f g : Frame) : Type 0 where
  pub shape : shape_of cmd ≡ Some g
  pub frame : f ≡ whole_frame ch g
  pub goes : goes_on ch g.header ≡ true
  pub few : length (so_far ch) + g.lc ≤ 1024

module _ (ch : Chain) (cmd : List ℕ) (f : Frame) where
  pub whole_facts : whole_of ch cmd ≡ Some f → (g : Frame) × WholeBy ch cmd f g
  unfolding whole_of
  whole_facts = go (shape_of cmd) refl
    where
      go : (a : Option Frame) → shape_of cmd ≡ a → whole_by ch a ≡ Some f → (g : Frame) × WholeBy ch cmd f g
      go None e z = let y : ◌≡◌ {A = ℕ} 0 1 = cc in absurd (omega arith)
      go (Some g) e z =
          by_cases (all_of (goes_on ch g.header ∷ leb (length (so_far ch) + g.lc) 1024 ∷ []))
          (λ t.
          let h = all_of_facts _ t in
          let y : Some (whole_frame ch g) ≡ Some f = rw t at z in
          let q : whole_frame ch g ≡ f = cc in
          (g, record { shape = e; frame = sym q; goes = h.0; few = leb-true _ _ h.1.0 }))
          (λ t. let y : None ≡ Some f = rw t at z in let q : ◌≡◌ {A = ℕ} 0 1 = cc in absurd (omega arith))

  module _ (e : whole_of ch cmd ≡ Some f) where
    abbrev own : Frame
    own = (whole_facts e).0

    abbrev by : WholeBy ch cmd f own
    by = (whole_facts e).1

    pub data_is : data_of ch cmd ≡ so_far ch ++ part cmd own.from own.lc
    unfolding data_of
    data_is = ap (data_by ch cmd) by.shape

    own_length : length (part cmd own.from own.lc) ≡ own.lc
    own_length = length_part cmd own.from own.lc (shape_facts cmd (shape_of cmd) own refl by.shape).inside

    pub data_length : length (data_of ch cmd) ≡ f.lc
    data_length =
        ap length data_is
        ∙ length-append (so_far ch) (part cmd own.from own.lc)
        ∙ ap (λ (k : ℕ). length (so_far ch) + k) own_length
        ∙ sym (ap (λ (x : Frame). x.lc) by.frame)

    -- the data of a command that is bytes, behind links that are, are bytes
    pub data_bytes : AllBytes (so_far ch) → AllBytes cmd → AllBytes (data_of ch cmd)
    data_bytes a b = subst AllBytes (sym data_is) (bytes-append (so_far ch) (part cmd own.from own.lc) a (bytes-part cmd own.from own.lc b))

    header-same : own.header ≡ f.header
    header-same = sym (ap (λ (x : Frame). x.header) by.frame)

    -- CLA is c and INS is i, which is the pair of a command
    module _ (c i : ℕ) (p : is_pair f c i ≡ true) (unlinked : eqb (c / 16 % 2) 1 ≡ false) (class : (eqb c 0x00 || eqb c 0x80) ≡ true) (command : is_command c i ≡ true) where
      abbrev h : Header
      h = own.header

      cla : h.cla ≡ c
      cla = ap (λ (x : Header). x.cla) header-same ∙ (pair_facts f c i p).0

      ins : h.ins ≡ i
      ins = ap (λ (x : Header). x.ins) header-same ∙ (pair_facts f c i p).1

      no_link : is_link h ≡ false
      unfolding is_link
      no_link = ap (λ (x : ℕ). eqb (x / 16 % 2) 1) cla ∙ unlinked

      same_class : class_of h ≡ c
      unfolding class_of
      same_class = rw no_link cla

      head : head_status ch h ≡ normal
      unfolding head_status in_order
      head = simp (same_class, ins, class, command, by.goes)

      turns : turn ch own ≡ (Ok Goes)
      unfolding turn last_turn in_order join_fits
      turns = rw no_link (by_cases (is_amid ch) (λ t. rw t (simp (head, le-leb (length (so_far ch) + own.lc) 1024 by.few))) (λ t. rw t refl))

      pub class_decided : (img : List ℕ) (s : Session) → decide img s ch cmd ≡ by_class img s f (data_of ch cmd)
      unfolding decide
      class_decided img s =
          ap (by_shape img s ch cmd) by.shape
          ∙ ap (λ (k : Result Course ℕ). on_course k img s (whole_frame ch own) (so_far ch ++ part cmd own.from own.lc)) turns
          ∙ ap₂ (λ (x : Frame) (d : List ℕ). by_class img s x d) (sym by.frame) (sym data_is)

      pub whole_from : (img : List ℕ) (s : Session) → From img s f (data_of ch cmd) (decide img s ch cmd)
      whole_from img s = subst (From img s f (data_of ch cmd)) (sym (class_decided img s)) (class-from img s f (data_of ch cmd) data_length)

-- ---- every command

-- a link that is taken, and a whole command
pub record LinkWay (img : List ℕ) (s : Session) (ch : Chain) (cmd : List ℕ) (f : Frame) : Type 0 where
  pub shape : shape_of cmd ≡ Some f
  pub turned : Extending ch f
  pub action : decide img s ch cmd ≡ Err normal

pub record WholeWay (img : List ℕ) (s : Session) (ch : Chain) (cmd : List ℕ) (f : Frame) : Type 0 where
  pub whole : whole_of ch cmd ≡ Some f
  pub no_link : is_link f.header ≡ false
  pub action : decide img s ch cmd ≡ by_class img s f (data_of ch cmd)
  pub from : From img s f (data_of ch cmd) (decide img s ch cmd)
  pub worded : Worded (decide img s ch cmd)

-- it stops with a word that refuses it, it is a link, or it is a whole command
pub data Way (img : List ℕ) (s : Session) (ch : Chain) (cmd : List ℕ) : Type 0 where
  stops : (w : ℕ) → is_refusing w ≡ true → decide img s ch cmd ≡ Err w → Way img s ch cmd
  links : (f : Frame) → LinkWay img s ch cmd f → Way img s ch cmd
  whole : (f : Frame) → WholeWay img s ch cmd f → Way img s ch cmd

-- steps 2 and 3 and the header held
head_goes : (ch : Chain) (h : Header) → head_status ch h ≡ normal → goes_on ch h ≡ true
unfolding head_status
head_goes ch h =
    in_order-each (λ (w : ℕ). w ≡ normal → goes_on ch h ≡ true) _ _ ((λ z. absurd (omega (arith, z))), ((λ z. absurd (omega (arith, z))), ((λ z. absurd (omega (arith, z))), tt)))
    (λ p z. p.1.1.0)

going_whole : (ch : Chain) (f : Frame) → f.lc ≤ 1024 → Going ch f → (goes_on ch f.header ≡ true) × (length (so_far ch) + f.lc ≤ 1024)
unfolding join_fits
going_whole NoChain f l g = (refl, omega arith)
going_whole (Links i p q bs) f l g = let k = g.last refl in (head_goes (Links i p q bs) f.header k.0, leb-true _ _ k.1)

pub way : (img : List ℕ) (s : Session) (ch : Chain) (cmd : List ℕ) → Way img s ch cmd
unfolding decide whole_of
way img s ch cmd = go (shape_of cmd) refl
  where
    course : (f : Frame) → shape_of cmd ≡ Some f → (k : Result Course ℕ) → turn ch f ≡ k → Turned ch f k → Stopping k → Way img s ch cmd
    course f e (Err w) t x (stopping v b) = stops w b (ap (by_shape img s ch cmd) e ∙ ap (λ (k : Result Course ℕ). on_course k img s (whole_frame ch f) (so_far ch ++ part cmd f.from f.lc)) t)
    course f e (Ok Extends) t (joined x) y =
        links f (record { shape = e; turned = x; action = ap (by_shape img s ch cmd) e ∙ ap (λ (k : Result Course ℕ). on_course k img s (whole_frame ch f) (so_far ch ++ part cmd f.from f.lc)) t })
    course f e (Ok Goes) t (gone x) y =
        let z = shape_facts cmd (shape_of cmd) f refl e in
        let g = going_whole ch f z.few x in
        let w : whole_of ch cmd ≡ Some (whole_frame ch f) =
        ap (whole_by ch) e ∙ ap (λ (b : Bool). if_else b (Some (whole_frame ch f)) None) (all_of_accepted (goes_on ch f.header ∷ leb (length (so_far ch) + f.lc) 1024 ∷ []) (g.0, (le-leb _ _ g.1, tt))) in
        let d : data_of ch cmd ≡ so_far ch ++ part cmd f.from f.lc = unfold data_of in ap (data_by ch cmd) e in
        let a : decide img s ch cmd ≡ by_class img s (whole_frame ch f) (data_of ch cmd) =
        ap (by_shape img s ch cmd) e
        ∙ ap (λ (k : Result Course ℕ). on_course k img s (whole_frame ch f) (so_far ch ++ part cmd f.from f.lc)) t
        ∙ ap (by_class img s (whole_frame ch f)) (sym d) in
        whole (whole_frame ch f)
        (record {
          whole = w;
          no_link = x.whole;
          action = a;
          from = subst (From img s (whole_frame ch f) (data_of ch cmd)) (sym a) (class-from img s (whole_frame ch f) (data_of ch cmd) (data_length ch cmd (whole_frame ch f) w));
          worded = subst Worded (sym a) (class-word img s (whole_frame ch f) (data_of ch cmd));
        })

    go : (a : Option Frame) → shape_of cmd ≡ a → Way img s ch cmd
    go None e = stops wrong_length refl (ap (by_shape img s ch cmd) e)
    go (Some f) e = course f e (turn ch f) refl (turn-told ch f) (turn-word ch f)

-- a command with CLA 00 or 80 is no link
pub not_both : (ch : Chain) (cmd : List ℕ) (f g : Frame) → whole_of ch cmd ≡ Some f → f.header.cla ≡ 0x00 → shape_of cmd ≡ Some g → is_link g.header ≡ true → ⊥
unfolding is_link
not_both ch cmd f g e c z l =
    let k = whole_facts ch cmd f e in
    let y : Some k.0 ≡ Some g = sym k.1.shape ∙ z in
    let q : k.0 ≡ g = cc in
    let h : g.header.cla ≡ 0x00 = ap (λ (x : Frame). x.header.cla) (sym q) ∙ sym (ap (λ (x : Frame). x.header.cla) k.1.frame) ∙ c in
    false-true (sym (ap (λ (x : ℕ). eqb (x / 16 % 2) 1) h) ∙ l)
