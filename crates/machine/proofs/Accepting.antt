-- From a command to what it comes to, and what is known of an accepted command. Read specs/Step.antt and specs/Lent.antt before. Exports
-- `slice_bytes`, `Known`, `verdict_accepted`; `judged-told` (what a judgement tells); `obey-…` (the whole
-- command); `command-…` (what the code answers is the definition's, case by case).
use Prim.Native.Nat.{ℕ, ◌+◌, ◌≤◌, ◌<◌}
use mathlib.Core.Path.{◌≡◌, refl, sym, ap, ap₂, ◌∙◌, subst}
use mathlib.Core.Bool.{Bool, true}
use mathlib.Core.List.{List, [], ◌∷◌, ◌++◌}
use native.Mathlib.Omega.{arith}
use lib.ListN.{length, get_or, length-append}
use lib.Dec.{ltb}
use borrow.Author.Tests.{ltb-false}
use Rattle.base.specs.Choice.{if_else, all_of}
use Rattle.base.specs.Bytes.{part, put, AllBytes}
use Rattle.base.proofs.Cases.{if_else_ind, all_of_facts}
use Rattle.base.proofs.Parts.{length_part}
use Rattle.store_image.specs.Image.{well_formed}
use Rattle.machine_apdu.specs.Status.{normal}
use Rattle.machine_apdu.specs.Shape.{shape_of}
use Rattle.machine_apdu.specs.declared.Frame.{Frame}
use Rattle.machine_apdu.proofs.Laws.{shape_facts}
use Rattle.machine_session.specs.Session.{session_fits}
use Rattle.machine_session.specs.Verdict.{verdict}
use Rattle.machine_session.specs.declared.Refusal.{Refusal}
use Rattle.machine_session.specs.declared.Session.{Session}
use Rattle.machine_chain.specs.Chain.{Chain, NoChain, is_amid, so_far, extended}
use Rattle.machine_chain.specs.Layout.{no_chain_bytes, is_chain, chain_in, join_into}
use Rattle.machine_chain.proofs.Laws.{extend-whole}
use Rattle.machine_chain.proofs.Joining.{joined_data, ended}
use Rattle.machine_link.specs.Link.{turn, lent_fits}
use Rattle.machine_link.specs.declared.Course.{Course}
use Rattle.machine_link.specs.declared.Course.TheVariants.{Extends, Goes}
use Rattle.machine_link.proofs.Turning.{Turned, joined, gone, turn-told, extending_few, going_few}
use Rattle.machine_dispatch.specs.Decide.{by_class, whole_frame, decide, data_of, chain_behind}
use Rattle.machine_dispatch.specs.Loops.{Allowed}
use Rattle.machine_dispatch.proofs.Allowing.{class-from, from_allowed}
use Rattle.machine_action.specs.declared.Action.{Action}
use Rattle.machine_answer.specs.Outcome.{Outcome, outcome, word, answered, refused, says}
use Rattle.machine_answer.specs.declared.Answer.{Answer}
use Rattle.machine.specs.Effects.{done}
use Rattle.machine.specs.Step.{step_by}
use Rattle.machine.specs.Lent.{verdict_lent, judged_course, judged_shape, judged_by, judged, step_lent, chain_into}
use Rattle.machine.specs.Loops.{Ready, obeyed}
use Rattle.machine.specs.declared.Judgement.{Judgement}
use Rattle.machine.specs.declared.Judgement.TheVariants.{Denied, Stopped, Linked, Obeyed}
use Rattle.std.specs.Prelude.{Option, Some, None, Result, Ok, Err}

-- a slice holds bytes
pub slice_bytes : (xs : List ℕ) → ((i : ℕ) → get_or xs i 0 < 256) → AllBytes xs
unfolding AllBytes
slice_bytes xs h = h

-- what is known of an accepted command
abbrev pub Known : List ℕ → Bool → ℕ → Result (Unit {0}) Refusal → Type 0
Known img fits n (Ok tt) = (well_formed img ≡ true) × (2050 ≤ n) × (fits ≡ true)
Known img fits n (Err r) = Unit {0}

pub verdict_accepted : (img : List ℕ) (fits : Bool) (n : ℕ) → Known img fits n (verdict img fits n)
unfolding verdict
verdict_accepted img fits n =
    if_else_ind (Known img fits n) (ltb n 2050)
    (λ e. tt)
    (λ e. if_else_ind (Known img fits n) (well_formed img) (λ w. if_else_ind (Known img fits n) fits (λ f. (w, ltb-false n 2050 e, f)) (λ f. tt)) (λ w. tt))

-- what a command comes to that stops, is a link, or is obeyed: its action, its data, the chain behind it
pub record StoppedBy (img : List ℕ) (s : Session) (ch : Chain) (cmd : List ℕ) (w : ℕ) : Type 0 where
  pub action : decide img s ch cmd ≡ Err w
  pub behind : chain_behind ch cmd ≡ NoChain

pub record LinkedBy (img : List ℕ) (s : Session) (ch : Chain) (cmd : List ℕ) (f : Frame) : Type 0 where
  pub action : decide img s ch cmd ≡ Err normal
  pub behind : chain_behind ch cmd ≡ extended ch f.header (part cmd f.from f.lc)
  pub few : length (so_far ch) + length (part cmd f.from f.lc) ≤ 1024

pub record ObeyedBy (img : List ℕ) (s : Session) (ch : Chain) (cmd : List ℕ) (f : Frame) : Type 0 where
  pub action : decide img s ch cmd ≡ by_class img s (whole_frame ch f) (so_far ch ++ part cmd f.from f.lc)
  pub data_is : data_of ch cmd ≡ so_far ch ++ part cmd f.from f.lc
  pub behind : chain_behind ch cmd ≡ NoChain
  pub size : length (part cmd f.from f.lc) ≡ f.lc
  pub few : length (so_far ch) + length (part cmd f.from f.lc) ≤ 1024

-- an accepted command, and bytes that are a chain
pub record Taken (img : List ℕ) (s : Session) (xs : List ℕ) (n : ℕ) : Type 0 where
  pub verdict-is : verdict_lent img s xs n ≡ (Ok tt)
  pub well : well_formed img ≡ true
  pub long : 2050 ≤ n
  pub chain : is_chain xs ≡ true

module _ (img : List ℕ) (s : Session) (xs cmd : List ℕ) (n : ℕ) where
  abbrev ch : Chain
  ch = chain_in xs

  abbrev pub Told : Judgement → Type 0
  Told (Denied r) = verdict_lent img s xs n ≡ Err r
  Told (Stopped w) = Taken img s xs n × StoppedBy img s ch cmd w
  Told (Linked f) = Taken img s xs n × LinkedBy img s ch cmd f
  Told (Obeyed f) = Taken img s xs n × ObeyedBy img s ch cmd f

  taken : verdict_lent img s xs n ≡ (Ok tt) → Taken img s xs n
  unfolding lent_fits
  taken e =
      let k = subst (Known img (all_of (session_fits img s ∷ lent_fits xs ∷ [])) n) e (verdict_accepted img (all_of (session_fits img s ∷ lent_fits xs ∷ [])) n) in
      record { verdict-is = e; well = k.0; long = k.1; chain = (all_of_facts _ (all_of_facts _ k.2).1.0).0 }

  module _ (f : Frame) (e : shape_of cmd ≡ Some f) where
    own-size : length (part cmd f.from f.lc) ≡ f.lc
    own-size = length_part cmd f.from f.lc (shape_facts cmd (shape_of cmd) f refl e).inside

    by-course : (k : Result Course ℕ) → turn ch f ≡ k → Turned ch f k → Taken img s xs n → Told (judged_course k f)
    unfolding decide data_of chain_behind
    by-course (Err w) t x a = (a, record { action = simp (e, t); behind = simp (e, t) })
    by-course (Ok Extends) t (joined x) a = (a, record { action = simp (e, t); behind = simp (e, t); few = omega (arith, own-size, extending_few ch f x) })
    by-course (Ok Goes) t (gone x) a =
        (a, record { action = simp (e, t); data_is = simp e; behind = simp (e, t); size = own-size; few = omega (arith, own-size, going_few ch f (shape_facts cmd (shape_of cmd) f refl e).few x) })

  by_shape : (a : Option Frame) → shape_of cmd ≡ a → Taken img s xs n → Told (judged_shape ch a)
  unfolding decide chain_behind
  by_shape None e a = (a, record { action = simp e; behind = simp e })
  by_shape (Some f) e a = by-course f e (turn ch f) refl (turn-told ch f) a

  by-verdict : (v : Result (Unit {0}) Refusal) → verdict_lent img s xs n ≡ v → Told (judged_by v ch cmd)
  by-verdict (Ok tt) e = by_shape (shape_of cmd) refl (taken e)
  by-verdict (Err r) e = e

  pub judged-told : {j : Judgement} → judged img s xs cmd n ≡ j → Told j
  unfolding judged
  judged-told e = subst Told e (by-verdict (verdict_lent img s xs n) refl)

  pub obey_ready : {f : Frame} {own : List ℕ} → judged img s xs cmd n ≡ Obeyed f → own ≡ part cmd f.from f.lc → Ready img xs f own n
  obey_ready {f} e x =
      let t = judged-told e in
      subst (λ (o : List ℕ). Ready img xs f o n) (sym x)
      (record { well = t.0.well; long = t.0.long; chain = t.0.chain; fits = t.1.few; size = t.1.size })

-- ---- the whole command: its data, its frame, and what it relies on

module _ (img : List ℕ) (s : Session) (xs : List ℕ) (f : Frame) (own : List ℕ) (n : ℕ) (r : Ready img xs f own n) {ys : List ℕ}
    (ey : ys ≡ if_else (is_amid (chain_in xs)) (join_into xs f.header own) xs) where
  abbrev whole : List ℕ
  whole = so_far (chain_in xs) ++ own

  pub obey_data : {d : List ℕ} → d ≡ if_else (is_amid (chain_in ys)) (so_far (chain_in ys)) own → d ≡ whole
  obey_data e =
      e ∙ ap (λ (l : List ℕ). if_else (is_amid (chain_in l)) (so_far (chain_in l)) own) ey ∙ joined_data xs r.chain f.header own r.fits

  pub obey_ended : {zs : List ℕ} → zs ≡ if_else (is_amid (chain_in ys)) (put ys 0 no_chain_bytes) ys → zs ≡ put xs 0 no_chain_bytes
  obey_ended e = e ∙ ap (λ (l : List ℕ). if_else (is_amid (chain_in l)) (put l 0 no_chain_bytes) l) ey ∙ ended xs r.chain f.header own r.fits

  whole_length : length whole ≡ length (so_far (chain_in xs)) + f.lc
  whole_length = length-append (so_far (chain_in xs)) own ∙ ap (λ (k : ℕ). length (so_far (chain_in xs)) + k) r.size

  module _ {d : List ℕ} (e : d ≡ if_else (is_amid (chain_in ys)) (so_far (chain_in ys)) own) where
    abbrev frame : Frame
    frame = record { header = f.header; from = f.from; lc = length d; le = f.le; ne = f.ne }

    frame_is : frame ≡ whole_frame (chain_in xs) f
    frame_is = λ i. record { header = f.header; from = f.from; lc = (ap length (obey_data e) ∙ whole_length) i; le = f.le; ne = f.ne }

    pub obey_allowed : {x : Result Action ℕ} → x ≡ by_class img s frame d → AllBytes d → (well_formed img ≡ true) × (2050 ≤ n) × Allowed img d x
    obey_allowed {x} ex b = (
      r.well,
      r.long,
      subst (Allowed img d) (sym ex) (from_allowed img s frame d (by_class img s frame d) b (class-from img s frame d refl)),
    )

    pub obey_done : {x : Result Action ℕ} (buf : List ℕ) {o : Outcome} → x ≡ by_class img s frame d → o ≡ done x img s d buf → o ≡ obeyed img s (chain_in xs) f own buf
    obey_done {x} buf ex eo =
        eo
        ∙ ap (λ (z : Result Action ℕ). done z img s d buf) (ex ∙ ap (λ (g : Frame). by_class img s g d) frame_is)
        ∙ ap (λ (l : List ℕ). done (by_class img s (whole_frame (chain_in xs) f) l) img s l buf) (obey_data e)

-- ---- a command, and its chain's bytes, from what it comes to

module _ (img : List ℕ) (s : Session) (xs cmd buf : List ℕ) where
  abbrev n : ℕ
  n = length buf

  -- answer, image and buffer; the chain's bytes
  abbrev Comes : Answer → List ℕ → List ℕ → List ℕ → Type 0
  Comes a img' buf' xs' = (outcome a img' buf' ≡ step_lent img s xs cmd buf) × (xs' ≡ chain_into img s xs cmd n)

  pub command_denied : (r : Refusal) {a : Answer} → judged img s xs cmd n ≡ Denied r → a ≡ refused r s → Comes a img buf xs
  unfolding step_lent step_by chain_into
  command_denied r e x = let t = judged-told img s xs cmd n e in (rw t (ap (λ (z : Answer). outcome z img buf) x), rw t refl)

  pub command_stopped : (w : ℕ) {a : Answer} {buf' xs' : List ℕ} → judged img s xs cmd n ≡ Stopped w
      → (a ≡ answered 0 w s) × (buf' ≡ put buf 0 (word w)) × (xs' ≡ put xs 0 no_chain_bytes) → Comes a img buf' xs'
  unfolding step_lent step_by chain_into done says
  command_stopped w e x =
      let t = judged-told img s xs cmd n e in (
        rw t.0.verdict-is (rw t.1.action (ap₂ (λ (z : Answer) (l : List ℕ). outcome z img l) x.0 x.1)),
        rw t.0.verdict-is (rw t.1.behind x.2),
      )

  pub command_linked : (f : Frame) {own : List ℕ} {a : Answer} {buf' xs' : List ℕ} → judged img s xs cmd n ≡ Linked f → own ≡ part cmd f.from f.lc
      → (a ≡ answered 0 normal s) × (buf' ≡ put buf 0 (word normal)) × (xs' ≡ join_into xs f.header own) → Comes a img buf' xs'
  unfolding step_lent step_by chain_into done says
  command_linked f e o x =
      let t = judged-told img s xs cmd n e in (
        rw t.0.verdict-is (rw t.1.action (ap₂ (λ (z : Answer) (l : List ℕ). outcome z img l) x.0 x.1)),
        rw t.0.verdict-is (rw t.1.behind (x.2 ∙ ap (join_into xs f.header) o ∙ extend-whole xs t.0.chain f.header _ t.1.few)),
      )

  pub command-obeyed : (f : Frame) {own : List ℕ} {a : Answer} {img' buf' xs' : List ℕ} → judged img s xs cmd n ≡ Obeyed f → own ≡ part cmd f.from f.lc
      → (outcome a img' buf' ≡ obeyed img s (chain_in xs) f own buf) × (xs' ≡ put xs 0 no_chain_bytes) → Comes a img' buf' xs'
  unfolding step_lent step_by chain_into
  command-obeyed f e o x =
      let t = judged-told img s xs cmd n e in (
        rw t.0.verdict-is
            (x.0 ∙ ap (λ (l : List ℕ). obeyed img s (chain_in xs) f l buf) o
            ∙ sym (ap₂ (λ (k : Result Action ℕ) (l : List ℕ). done k img s l buf) t.1.action t.1.data_is)),
        rw t.0.verdict-is (rw t.1.behind x.1),
      )
