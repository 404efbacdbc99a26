-- Commands in links. Read ../specs/Links.antt before. Exports the theorems `link_answered`, `continues` and `links_as_whole`.
use Prim.Native.Nat.{ℕ, ◌+◌, ◌-◌, ◌/◌, ◌%◌, ◌≤◌}
use mathlib.Core.Path.{◌≡◌, refl, sym, ap, ap₂, subst, ◌∙◌}
use mathlib.Core.Bool.{Bool, true, false, ◌||◌}
use mathlib.Core.Logic.{◌⊎◌, inl, inr, ⊎_elim}
use mathlib.Core.List.Memᴰ
use mathlib.Core.List.{List, [], ◌∷◌, ◌++◌, append_assoc, append-nil, Memᴰ}
use native.Mathlib.Omega.{arith}
use lib.ListN.{length, length-append}
use lib.Dec.{ltb, eqb}
use borrow.Author.Tests.{eqb-true, eqb-false, eq-eqb, leb-true, le-leb, ltb-true, ltb-false, le-ltb}
use Rattle.base.specs.Choice.{if_else, all_of}
use Rattle.base.specs.Bytes.{part}
use Rattle.base.proofs.Cases.{by_cases, if_else_ind, false-true, all_of_facts, all_of_accepted}
use Rattle.base.proofs.Parts.{length_part}
use Rattle.machine_apdu.specs.Status.{normal, other_header}
use Rattle.machine_apdu.specs.Shape.{shape_of}
use Rattle.machine_apdu.specs.declared.Frame.{Frame}
use Rattle.machine_apdu.specs.declared.Header.{Header}
use Rattle.machine_apdu.proofs.Laws.{shape_facts}
use Rattle.machine_session.specs.Order.{in_order}
use Rattle.machine_session.specs.Session.{session_fits}
use Rattle.machine_session.specs.Verdict.{refusal_number, verdict_number, verdict}
use Rattle.machine_session.specs.declared.Refusal.{Refusal}
use Rattle.machine_session.specs.declared.Refusal.TheVariants.{ShortBuffer, BadImage, BadRights, BadSession}
use Rattle.machine_session.specs.declared.Session.{Session}
use Rattle.machine_session.proofs.Steps.{in_order-each}
use Rattle.machine_action.specs.Tests.{lc_only}
use Rattle.machine_action.specs.declared.Action.{Action}
use Rattle.machine_chain.specs.Chain.{Chain, NoChain, Links, is_amid, so_far, goes_on, extended}
use Rattle.machine_link.specs.Link.{is_link, class_of, is_command, head_status, join_fits, link_turn, last_turn, turn, chain_fits}
use Rattle.machine_link.specs.declared.Course.{Course}
use Rattle.machine_link.specs.declared.Course.TheVariants.{Extends, Goes}
use Rattle.machine_link.proofs.Turning.{Extending, Going, Turned, stopped, joined, gone, turn-told, extending_few, going_few}
use Rattle.machine_dispatch.specs.Decide.{by_class, whole_frame, on_course, decide, data_of, chain_on, chain_behind}
use Rattle.machine_dispatch.proofs.Early.{head_fits, early_word, early, same-frame}
use Rattle.machine_answer.specs.Outcome.{says}
use Rattle.machine.specs.Effects.{done}
use Rattle.machine.specs.Step.{verdict_on, step_by, step, chain_after_by, chain_after}
use Rattle.promises.specs.Calls.{whole_by, whole_of}
use Rattle.promises.specs.Links.{LinkPair, Takes, LinkAnswered, EachLinkAnswered, GoesOn, Between, after_sending, Link, after_links, pieces, IsLink, AllLinks, CutInto, LinksAsWhole}
use Rattle.std.specs.Prelude.{Some, Result, Ok, Err}

-- ---- CLA and INS of a link

-- x is y or one of ys
one_of : ℕ → ℕ → List ℕ → Bool
one_of x y [] = eqb x y
one_of x y (z ∷ zs) = eqb x y || one_of x z zs

among : (x y : ℕ) (ys : List ℕ) → one_of x y ys ≡ true → Memᴰ x (y ∷ ys)
unfolding one_of
among x y [] e = Memᴰ.head (eqb-true x y e)
among x y (z ∷ zs) e = by_cases (eqb x y) (λ a. Memᴰ.head (eqb-true x y a)) (λ a. Memᴰ.tail (among x z zs (simp a at e)))

found : (x y : ℕ) (ys : List ℕ) → Memᴰ x (y ∷ ys) → one_of x y ys ≡ true
unfolding one_of
found x y [] m = ⊎_elim (λ e. eq-eqb x y e) (λ n. absurd (Memᴰ.not-nil n)) (Memᴰ.cases_cons m)
found x y (z ∷ zs) m =
    by_cases (eqb x y) (λ a. simp a)
    (λ a. ⊎_elim (λ e. false-true (sym a ∙ eq-eqb x y e)) (λ n. rw a (found x z zs n)) (Memᴰ.cases_cons m))

-- steps 2 and 3 of a link
abbrev Known : Header → Type 0
Known h = ((eqb (class_of h) 0x00 || eqb (class_of h) 0x80) ≡ true) × (is_command (class_of h) h.ins ≡ true)

pair-known : (h : Header) → LinkPair h → Known h
unfolding class_of is_link is_command one_of
pair-known h (inl p) = (simp p.0, simp p.0 (found h.ins 0xA4 (0xB0 ∷ 0xB1 ∷ 0xD7 ∷ 0x44 ∷ 0xE2 ∷ 0xB2 ∷ 0xA2 ∷ []) p.1))
pair-known h (inr p) = (simp p.0, simp (p.0, p.1))

known-pair : (h : Header) → is_link h ≡ true → Known h → LinkPair h
known-pair h l k =
    let n : class_of h ≡ h.cla - 16 = unfold class_of in simp l in
    let b : h.cla / 16 % 2 ≡ 1 = unfold is_link in eqb-true (h.cla / 16 % 2) 1 l in
    by_cases (eqb (class_of h) 0x80)
    (λ e. inr (omega (arith, eqb-true (class_of h) 0x80 e), unfold is_command in eqb-true h.ins 0x5E (simp e at k.1)))
    (λ e.
    let z : class_of h ≡ 0 = eqb-true _ _ (or-first (eqb (class_of h) 0x00) (rw e at k.0)) in
    inl (omega arith, unfold is_command one_of in among h.ins 0xA4 (0xB0 ∷ 0xB1 ∷ 0xD7 ∷ 0x44 ∷ 0xE2 ∷ 0xB2 ∷ 0xA2 ∷ []) (simp e at k.1)))
  where
    or-first : (a : Bool) → (a || false) ≡ true → a ≡ true
    or-first true e = refl
    or-first false e = e

-- the tests of a header that is not stopped
head_facts : (ch : Chain) (h : Header) → head_status ch h ≡ normal → Known h × (goes_on ch h ≡ true)
unfolding head_status
head_facts ch h =
    in_order-each (λ (w : ℕ). w ≡ normal → Known h × (goes_on ch h ≡ true)) _ _ ((λ e. absurd (omega (arith, e))), ((λ e. absurd (omega (arith, e))), ((λ e. absurd (omega (arith, e))), tt)))
    (λ p e. ((p.0, p.1.0), p.1.1.0))

head-known : (ch : Chain) (h : Header) → Known h → head_status ch h ≡ if_else (goes_on ch h) normal other_header
unfolding head_status in_order
head-known ch h k = simp (k.0, k.1)

-- ---- a link but the last

module _ (ch : Chain) (f : Frame) (l : is_link f.header ≡ true) where
  -- where the chain takes it its course is to extend it, and the other way round
  taken : Takes ch f → turn ch f ≡ (Ok Extends)
  unfolding turn link_turn in_order lc_only all_of join_fits
  taken t =
      let h : head_status ch f.header ≡ normal = head-known ch f.header (pair-known f.header t.pair) ∙ simp t.continues in
      simp (l, h, t.parameters, le-leb 1 f.lc t.some, t.no_le, le-leb (length (so_far ch) + f.lc) 1024 t.fits)

  takes : Extending ch f → Takes ch f
  unfolding lc_only
  takes x =
      let h = head_facts ch f.header x.head in
      let n = all_of_facts _ x.some in
      record {
        pair = known-pair f.header l h.0;
        continues = h.1;
        parameters = x.parameters;
        some = leb-true 1 f.lc n.0;
        no_le = eqb-true f.le 0 n.1.0;
        fits = extending_few ch f x;
      }

  other : LinkPair f.header → goes_on ch f.header ≡ false → turn ch f ≡ Err other_header
  unfolding turn link_turn in_order
  other p g =
      let h : head_status ch f.header ≡ other_header = head-known ch f.header (pair-known f.header p) ∙ simp g in
      simp (l, h)

  course-answered : (img : List ℕ) (s : Session) (cmd d buf : List ℕ) (k : Result Course ℕ) → turn ch f ≡ k → Turned ch f k
      → LinkAnswered img s ch cmd f (done (on_course k img s (whole_frame ch f) d) img s d buf) (chain_on k ch f (part cmd f.from f.lc))
  unfolding done says
  course-answered img s cmd d buf (Err w) t (stopped v b) =
      let n : w ≡ 0x9000 → ⊥ = λ e. omega (arith, ltb-true w 0x9000 b, e) in
      record {
        taken_complete = λ x. let z : Err w ≡ (Ok Extends) = sym t ∙ taken x in let y : ◌≡◌ {A = ℕ} 0 1 = cc in absurd (omega arith);
        taken_sound = λ e. absurd (n e);
        joins = λ e. absurd (n e);
        image_kept = refl;
        session_kept = refl;
        nothing_told = refl;
        another_header = λ p g. let z : Err w ≡ Err other_header = sym t ∙ other p g in cc;
      }
  course-answered img s cmd d buf (Ok Extends) t (joined x) = record {
    taken_complete = λ y. refl;
    taken_sound = λ e. takes x;
    joins = λ e. refl;
    image_kept = refl;
    session_kept = refl;
    nothing_told = refl;
    another_header = λ p g. false-true (sym g ∙ (takes x).continues);
  }
  course-answered img s cmd d buf (Ok Goes) t (gone x) = false-true (sym x.whole ∙ l)

-- an accepted call
taken_accepted : (img : List ℕ) (s : Session) (ch : Chain) (cmd buf : List ℕ) → verdict_number (step img s ch cmd buf).answer.verdict ≡ 0
    → verdict_on img s ch (length buf) ≡ (Ok tt)
unfolding step step_by verdict_number refusal_number
taken_accepted img s ch cmd buf e = go (verdict_on img s ch (length buf)) e
  where
    go : (x : Result (Unit {0}) Refusal) → verdict_number (step_by x img s ch cmd buf).answer.verdict ≡ 0 → x ≡ (Ok tt)
    go (Ok tt) e = refl
    go (Err ShortBuffer) e = absurd (omega (arith, e))
    go (Err BadImage) e = absurd (omega (arith, e))
    go (Err BadRights) e = absurd (omega (arith, e))
    go (Err BadSession) e = absurd (omega (arith, e))

pub link_answered : EachLinkAnswered
unfolding step step_by chain_after decide data_of chain_behind
link_answered img s ch cmd buf f a e l =
    simp (taken_accepted img s ch cmd buf a, e)
    (course-answered ch f l img s cmd (so_far ch ++ part cmd f.from f.lc) buf (turn ch f) refl (turn-told ch f))

-- ---- a command that is no link

-- answered 9000 or 6282
abbrev Done : ℕ → Type 0
Done w = (w ≡ 0x9000) ⊎ (w ≡ 0x6282)

-- no chain stops a command with one of these
abbrev NotDone : Result Course ℕ → Type 0
NotDone (Err w) = Done w → ⊥
NotDone (Ok Extends) = Unit {0}
NotDone (Ok Goes) = Unit {0}

module _ (ch : Chain) (f : Frame) (l : is_link f.header ≡ false) where
  head-not-done : eqb (head_status ch f.header) normal ≡ false → Done (head_status ch f.header) → ⊥
  unfolding head_status
  head-not-done =
      in_order-each (λ (w : ℕ). eqb w normal ≡ false → Done w → ⊥) _ _ ((λ z. no 0x6E00 refl refl), ((λ z. no 0x6D00 refl refl), ((λ z. no 0x6883 refl refl), tt)))
      (λ p z. false-true (sym z))
    where
      no : (w : ℕ) → eqb w 0x9000 ≡ false → eqb w 0x6282 ≡ false → Done w → ⊥
      no w a b = ⊎_elim (λ e. false-true (sym a ∙ eq-eqb w 0x9000 e)) (λ e. false-true (sym b ∙ eq-eqb w 0x6282 e))

  turn-not-done : NotDone (turn ch f)
  unfolding turn last_turn in_order
  turn-not-done =
      rw l
      (if_else_ind NotDone (is_amid ch)
      (λ a. if_else_ind NotDone (eqb (head_status ch f.header) normal)
      (λ z. if_else_ind NotDone (join_fits ch f) (λ j. tt) (λ j. ⊎_elim (λ e. omega (arith, e)) (λ e. omega (arith, e))))
      head-not-done)
      (λ a. tt))

going_on : (ch : Chain) (f : Frame) → Going ch f → goes_on ch f.header ≡ true
going_on NoChain f g = refl
going_on (Links i p q bs) f g = (head_facts (Links i p q bs) f.header (g.last refl).0).1

course_goes : (img : List ℕ) (s : Session) (ch : Chain) (f : Frame) (d buf : List ℕ) (k : Result Course ℕ) → is_link f.header ≡ false → f.lc ≤ 1024
    → Turned ch f k → NotDone k → Done (done (on_course k img s (whole_frame ch f) d) img s d buf).answer.status
    → whole_by ch (Some f) ≡ Some (whole_frame ch f)
unfolding done says all_of
course_goes img s ch f d buf (Err w) l few t n x = absurd (n x)
course_goes img s ch f d buf (Ok Extends) l few (joined t) n x = false-true (sym l ∙ t.link)
course_goes img s ch f d buf (Ok Goes) l few (gone t) n x =
    simp (going_on ch f t, le-leb (length (so_far ch) + f.lc) 1024 (going_few ch f few t))

pub continues : GoesOn
unfolding step step_by decide data_of whole_of
continues img s ch cmd buf f e l x =
    ap (whole_by ch) e ∙ go (verdict_on img s ch (length buf)) x
  where
    go : (v : Result (Unit {0}) Refusal) → Done (step_by v img s ch cmd buf).answer.status → whole_by ch (Some f) ≡ Some (whole_frame ch f)
    go (Ok tt) x =
        course_goes img s ch f (so_far ch ++ part cmd f.from f.lc) buf (turn ch f) l (shape_facts cmd (shape_of cmd) f refl e).few
        (turn-told ch f) (turn-not-done ch f l) (simp e at x)
    go (Err r) x = absurd (⊎_elim (λ z. omega (arith, z)) (λ z. omega (arith, z)) x)

-- ---- a command in links

-- a link of a command with the header h
module _ (h : Header) (n : is_link h ≡ false) (l : Link) (x : IsLink h l) where
  abbrev g : Header
  g = x.frame.header

  link-is : is_link g ≡ true
  unfolding is_link
  link-is = eq-eqb (g.cla / 16 % 2) 1 (omega (arith, x.class, eqb-false (h.cla / 16 % 2) 1 n))

  link-class : class_of g ≡ h.cla
  unfolding class_of
  link-class = let z : h.cla + 16 - 16 ≡ h.cla = omega arith in simp (link-is, x.class, z)

  link-known : head_fits h ≡ true → Known g
  unfolding head_fits
  link-known e = let a = all_of_facts _ e in simp (link-class, x.ins) (a.0, a.1.0)

  link-goes-on : (ch : Chain) → goes_on ch g ≡ goes_on ch h
  link-goes-on NoChain = refl
  link-goes-on (Links i p q bs) = simp (x.ins, x.p1, x.p2)

  piece-length : length l.piece ≡ x.frame.lc
  piece-length = ap length (sym x.carries) ∙ length_part l.command x.frame.from x.frame.lc (shape_facts l.command (shape_of l.command) x.frame refl x.shape).inside

  -- steps 2 to 4 hold, and there is room: it is taken
  link-taken : (ch : Chain) → head_fits h ≡ true → goes_on ch h ≡ true → length (so_far ch) + length l.piece ≤ 1024 → turn ch x.frame ≡ (Ok Extends)
  unfolding head_fits
  link-taken ch e o r =
      taken ch x.frame link-is (record {
        pair = known-pair g link-is (link-known e);
        continues = link-goes-on ch ∙ o;
        parameters = simp (x.ins, x.p1, x.p2) (all_of_facts _ e).1.1.0;
        some = x.some;
        no_le = x.no_le;
        fits = omega (arith, r, piece-length);
      })

  -- only such a link is taken
  taken-fits : (ch : Chain) → Extending ch x.frame → head_fits h ≡ true
  unfolding head_fits
  taken-fits ch y =
      let k = (head_facts ch g y.head).0 in
      all_of_accepted _ (simp (link-class) at k.0, (simp (link-class, x.ins) at k.1, (simp (x.ins, x.p1, x.p2) at y.parameters, tt)))

  -- the chain behind it
  extended_fits : (ch : Chain) → head_fits h ≡ true → length (so_far ch) + length l.piece ≤ 1024 → chain_fits (extended ch g l.piece) ≡ true
  unfolding head_fits
  extended_fits ch e r =
      let m = length-append (so_far ch) l.piece in
      all_of_accepted _ (
        le-leb 1 (length (so_far ch ++ l.piece)) (omega (arith, m, piece-length, x.some)),
        (le-leb (length (so_far ch ++ l.piece)) 1024 (omega (arith, m, r)), (simp (x.ins, x.p1, x.p2) (all_of_facts _ e).1.1.0, tt)),
      )

  extended-goes-on : (ch : Chain) → goes_on (extended ch g l.piece) h ≡ true
  extended-goes-on ch = all_of_accepted _ (eq-eqb g.ins h.ins x.ins, (eq-eqb g.p1 h.p1 x.p1, (eq-eqb g.p2 h.p2 x.p2, tt)))

module _ (img : List ℕ) (s : Session) where
  abbrev at : Chain → Between
  at ch = record { image = img; session = s; chain = ch }

  -- a chain that fits does not change the verdict, nor does the length of a buffer that is long enough
  verdict_same : (ch : Chain) (n : ℕ) → chain_fits ch ≡ true → verdict_on img s ch n ≡ verdict_on img s NoChain n
  verdict_same ch n e = ap (λ (b : Bool). verdict img (all_of (session_fits img s ∷ b ∷ [])) n) e

  verdict-long : (n : ℕ) → 2050 ≤ n → verdict_on img s NoChain n ≡ verdict_on img s NoChain 2050
  unfolding verdict
  verdict-long n l = simp (le-ltb n 2050 l)

  -- what a link leaves that is refused, that is taken, that is stopped
  sent-refused : (ch : Chain) (cmd buf : List ℕ) {r : Refusal} → verdict_on img s ch (length buf) ≡ Err r → after_sending (at ch) cmd buf ≡ at ch
  unfolding step step_by chain_after
  sent-refused ch cmd buf e = simp e

  sent-taken : (ch : Chain) (cmd buf : List ℕ) (f : Frame) → verdict_on img s ch (length buf) ≡ (Ok tt) → shape_of cmd ≡ Some f → turn ch f ≡ (Ok Extends)
      → after_sending (at ch) cmd buf ≡ at (extended ch f.header (part cmd f.from f.lc))
  unfolding step step_by chain_after decide chain_behind done says
  sent-taken ch cmd buf f v e t = simp (v, e, t)

  sent-stopped : (ch : Chain) (cmd buf : List ℕ) (f : Frame) {w : ℕ} → verdict_on img s ch (length buf) ≡ (Ok tt) → shape_of cmd ≡ Some f → turn ch f ≡ Err w
      → after_sending (at ch) cmd buf ≡ at NoChain
  unfolding step step_by chain_after decide chain_behind done says
  sent-stopped ch cmd buf f v e t = simp (v, e, t)

  module _ (h : Header) (n : is_link h ≡ false) where
    -- links that leave everything as it was
    links-none : ((l : Link) → IsLink h l → after_sending (at NoChain) l.command l.buffer ≡ at NoChain)
        → (ls : List Link) → AllLinks h ls → after_links (at NoChain) ls ≡ at NoChain
    unfolding after_links
    links-none k [] x = refl
    links-none k (l ∷ ls) x = ap (λ (b : Between). after_links b ls) (k l x.0) ∙ links-none k ls x.1

    -- as do those whose header fails steps 2 to 4
    link-stopped : head_fits h ≡ false → (l : Link) → IsLink h l → after_sending (at NoChain) l.command l.buffer ≡ at NoChain
    link-stopped e l x = go (verdict_on img s NoChain (length l.buffer)) refl (turn NoChain x.frame) refl (turn-told NoChain x.frame)
      where
        go : (v : Result (Unit {0}) Refusal) → verdict_on img s NoChain (length l.buffer) ≡ v → (k : Result Course ℕ) → turn NoChain x.frame ≡ k → Turned NoChain x.frame k
            → after_sending (at NoChain) l.command l.buffer ≡ at NoChain
        go (Err r) v k t y = sent-refused NoChain l.command l.buffer v
        go (Ok tt) v (Err w) t y = sent-stopped NoChain l.command l.buffer x.frame v x.shape t
        go (Ok tt) v (Ok Extends) t (joined y) = false-true (sym e ∙ taken-fits h n l x NoChain y)
        go (Ok tt) v (Ok Goes) t (gone y) = false-true (sym y.whole ∙ link-is h n l x)

    -- others join: image and session stay, and a chain of this header holds the bytes bs
    record Stands (b : Between) (bs : List ℕ) : Type 0 where
      chain : Chain
      is : b ≡ at chain
      fits : chain_fits chain ≡ true
      continues : goes_on chain h ≡ true
      holds : so_far chain ≡ bs

    links-join : verdict_on img s NoChain 2050 ≡ (Ok tt) → head_fits h ≡ true → (ls : List Link) (ch : Chain) → AllLinks h ls → chain_fits ch ≡ true
        → goes_on ch h ≡ true → length (so_far ch) + length (pieces ls) ≤ 1024 → Stands (after_links (at ch) ls) (so_far ch ++ pieces ls)
    unfolding after_links pieces
    links-join v e [] ch x a o r = record { chain = ch; is = refl; fits = a; continues = o; holds = sym (append-nil (so_far ch)) }
    links-join v e (l ∷ ls) ch x a o r =
        let y = x.0 in
        let next = extended ch y.frame.header l.piece in
        let m = length-append l.piece (pieces ls) in
        let u : verdict_on img s ch (length l.buffer) ≡ (Ok tt) = verdict_same ch (length l.buffer) a ∙ verdict-long (length l.buffer) y.long ∙ v in
        let t = link-taken h n l y ch e o (omega (arith, m, r)) in
        let z : after_sending (at ch) l.command l.buffer ≡ at next =
        sent-taken ch l.command l.buffer y.frame u y.shape t ∙ ap (λ (d : List ℕ). at (extended ch y.frame.header d)) y.carries in
        subst (λ (b : Between). Stands (after_links b ls) (so_far ch ++ (l.piece ++ pieces ls))) (sym z)
        (subst (Stands (after_links (at next) ls)) (append_assoc (so_far ch) l.piece (pieces ls))
        (links-join v e ls next x.1 (extended_fits h n l y ch e (omega (arith, m, r))) (extended-goes-on h n l y ch)
        (omega (arith, m, r, length-append (so_far ch) l.piece))))

-- the last goes on with a chain of its header, where the join fits
last_goes : (ch : Chain) (f : Frame) → is_link f.header ≡ false → head_fits f.header ≡ true → goes_on ch f.header ≡ true
    → length (so_far ch) + f.lc ≤ 1024 → turn ch f ≡ (Ok Goes)
unfolding turn last_turn in_order join_fits class_of head_fits
last_goes NoChain f l e o r = simp l
last_goes (Links i p q bs) f l e o r =
    let a = all_of_facts _ e in
    let k : Known f.header = simp l (a.0, a.1.0) in
    let z : head_status (Links i p q bs) f.header ≡ normal = head-known (Links i p q bs) f.header k ∙ simp o in
    simp (l, z, le-leb (length bs + f.lc) 1024 r)

-- without a chain any command does that is no link
alone_goes : (f : Frame) → is_link f.header ≡ false → turn NoChain f ≡ (Ok Goes)
unfolding turn
alone_goes f l = simp l

module _ (img : List ℕ) (s : Session) (ch : Chain) (cmd : List ℕ) (f : Frame) (e : shape_of cmd ≡ Some f) (t : turn ch f ≡ (Ok Goes)) where
  gone-data : data_of ch cmd ≡ so_far ch ++ part cmd f.from f.lc
  unfolding data_of
  gone-data = simp e

  gone-decided : decide img s ch cmd ≡ by_class img s (whole_frame ch f) (so_far ch ++ part cmd f.from f.lc)
  unfolding decide
  gone-decided = simp (e, t)

  gone-ends : chain_behind ch cmd ≡ NoChain
  unfolding chain_behind
  gone-ends = simp (e, t)

module _ (img : List ℕ) (s : Session) (whole buf : List ℕ) (f : Frame) (ls : List Link) (last : List ℕ) (c : CutInto whole f ls last) where
  abbrev end : Frame
  end = c.frame

  abbrev own : List ℕ
  own = part last end.from end.lc

  abbrev all : List ℕ
  all = part whole f.from f.lc

  -- what is promised, of the last command behind b
  abbrev Ends : Between → Type 0
  Ends b =
      (step b.image b.session b.chain last buf ≡ step img s NoChain whole buf)
      × (2050 ≤ length buf → chain_after b.image b.session b.chain last (length buf) ≡ NoChain)

  last-no-link : is_link end.header ≡ false
  last-no-link = ap is_link c.last_header ∙ c.no_link

  own_length : length own ≡ end.lc
  own_length = length_part last end.from end.lc (shape_facts last (shape_of last) end refl c.last_shape).inside

  all-length : length all ≡ f.lc
  all-length = length_part whole f.from f.lc (shape_facts whole (shape_of whole) f refl c.shape).inside

  whole-decided : decide img s NoChain whole ≡ by_class img s (whole_frame NoChain f) all
  whole-decided = gone-decided img s NoChain whole f c.shape (alone_goes f c.no_link)

  -- the same answer, where the last is accepted exactly as the whole is and then does the same
  same_step : (ch : Chain) → chain_fits ch ≡ true
      → done (decide img s ch last) img s (data_of ch last) buf ≡ done (decide img s NoChain whole) img s (data_of NoChain whole) buf
      → step img s ch last buf ≡ step img s NoChain whole buf
  unfolding step step_by
  same_step ch a e = ap (λ (v : Result (Unit {0}) Refusal). step_by v img s ch last buf) (verdict_same img s ch (length buf) a) ∙ go (verdict_on img s NoChain (length buf))
    where
      go : (v : Result (Unit {0}) Refusal) → step_by v img s ch last buf ≡ step_by v img s NoChain whole buf
      go (Ok tt) = e
      go (Err r) = refl

  -- without a chain there is none afterwards
  none_after : chain_after img s NoChain last (length buf) ≡ NoChain
  unfolding chain_after
  none_after = go (verdict_on img s NoChain (length buf))
    where
      go : (v : Result (Unit {0}) Refusal) → chain_after_by v NoChain last ≡ NoChain
      go (Ok tt) = gone-ends img s NoChain last end c.last_shape (alone_goes end last-no-link)
      go (Err r) = refl

  -- steps 2 to 4 fail: the links are stopped, and the last gets the status word of the whole
  unfit-ends : head_fits f.header ≡ false → Ends (at img s NoChain)
  unfolding done
  unfit-ends n =
      let a : decide img s NoChain last ≡ Err (early_word f.header) =
      gone-decided img s NoChain last end c.last_shape (alone_goes end last-no-link)
      ∙ early img s (whole_frame NoChain end) own (ap head_fits c.last_header ∙ n)
      ∙ ap (λ (h : Header). Err (early_word h)) c.last_header in
      let b : decide img s NoChain whole ≡ Err (early_word f.header) = whole-decided ∙ early img s (whole_frame NoChain f) all n in
      (same_step NoChain refl (simp (a, b)), λ l. none_after)

  -- the links are refused, and so is the last
  refused-ends : {r : Refusal} → verdict_on img s NoChain 2050 ≡ Err r → Ends (at img s NoChain)
  unfolding step step_by
  refused-ends {r} e = (by_cases (ltb (length buf) 2050) short long, λ l. none_after)
    where
      refusing : {q : Refusal} → verdict_on img s NoChain (length buf) ≡ Err q → step img s NoChain last buf ≡ step img s NoChain whole buf
      refusing v = simp v

      short : ltb (length buf) 2050 ≡ true → step img s NoChain last buf ≡ step img s NoChain whole buf
      short z = refusing {q = ShortBuffer} (unfold verdict in simp z)

      long : ltb (length buf) 2050 ≡ false → step img s NoChain last buf ≡ step img s NoChain whole buf
      long z = refusing {q = r} (verdict-long img s (length buf) (ltb-false (length buf) 2050 z) ∙ e)

  -- the links are taken, and the last does what the whole does
  joined-ends : verdict_on img s NoChain 2050 ≡ (Ok tt) → head_fits f.header ≡ true → (ch : Chain) → chain_fits ch ≡ true → goes_on ch f.header ≡ true
      → so_far ch ≡ pieces ls → Ends (at img s ch)
  unfolding chain_after
  joined-ends v e ch a o k =
      let d : so_far ch ++ own ≡ all = ap (λ (l : List ℕ). l ++ own) k ∙ c.all_data in
      let m : length (so_far ch) + end.lc ≡ 0 + f.lc = omega (arith, sym (length-append (so_far ch) own), own_length, all-length, ap length d) in
      let t : turn ch end ≡ (Ok Goes) =
      last_goes ch end last-no-link (ap head_fits c.last_header ∙ e) (ap (goes_on ch) c.last_header ∙ o)
      (omega (arith, m, (shape_facts whole (shape_of whole) f refl c.shape).few)) in
      let x : decide img s ch last ≡ decide img s NoChain whole =
      gone-decided img s ch last end c.last_shape t
      ∙ same-frame img s (whole_frame ch end) (whole_frame NoChain f) (so_far ch ++ own) c.last_header m c.last_le c.last_ne
      ∙ ap (by_class img s (whole_frame NoChain f)) d
      ∙ sym whole-decided in
      let y : data_of ch last ≡ data_of NoChain whole = gone-data img s ch last end c.last_shape t ∙ d ∙ sym (gone-data img s NoChain whole f c.shape (alone_goes f c.no_link)) in (
        same_step ch a (ap₂ (λ (z : Result Action ℕ) (l : List ℕ). done z img s l buf) x y),
        λ l. ap (λ (w : Result (Unit {0}) Refusal). chain_after_by w ch last) (verdict_same img s ch (length buf) a ∙ verdict-long img s (length buf) l ∙ v)
            ∙ gone-ends img s ch last end c.last_shape t,
      )

  as-whole : Ends (after_links (at img s NoChain) ls)
  as-whole = by_cases (head_fits h) (λ e. fit e (verdict_on img s NoChain 2050) refl) (λ e. none (link-stopped img s h n e) (unfit-ends e))
    where
      h : Header
      h = f.header

      n : is_link h ≡ false
      n = c.no_link

      none : ((l : Link) → IsLink h l → after_sending (at img s NoChain) l.command l.buffer ≡ at img s NoChain) → Ends (at img s NoChain)
          → Ends (after_links (at img s NoChain) ls)
      none k = subst Ends (sym (links-none img s h n k ls c.links))

      fit : head_fits h ≡ true → (v : Result (Unit {0}) Refusal) → verdict_on img s NoChain 2050 ≡ v → Ends (after_links (at img s NoChain) ls)
      fit e (Err r) v =
          none (λ l x. sent-refused img s NoChain l.command l.buffer {r = r} (verdict-long img s (length l.buffer) x.long ∙ v)) (refused-ends {r = r} v)
      fit e (Ok tt) v =
          let r : length {A = ℕ} [] + length (pieces ls) ≤ 1024 =
          omega (arith, length-append (pieces ls) own, ap length c.all_data, all-length, (shape_facts whole (shape_of whole) f refl c.shape).few) in
          let b = links-join img s h n v e ls NoChain c.links refl refl r in
          subst Ends (sym b.is) (joined-ends v e b.chain b.fits b.continues b.holds)

pub links_as_whole : LinksAsWhole
links_as_whole = as-whole
