-- A move's answer and its target, as the code tests for the one and writes the other.
-- Read before: specs/Moving.antt. Exports: `Says` (what the contract asks) with a law for each answer, `move_refusal_number-listed`,
-- `move_refusal_number-some`, `move_card_numbered` (the numbers), `Accepted` and `move_card_facts` (what holds where a move is not refused).
use Prim.Native.Nat.{ℕ, ◌≤◌, ◌<◌}
use mathlib.Core.Path.{◌≡◌, refl, sym, ap, ◌∙◌}
use mathlib.Core.Bool.{Bool, true, false}
use mathlib.Core.List.{List, [], ◌∷◌, ◌++◌, Memᴰ}
use native.Mathlib.Omega.{arith}
use lib.ListN.{length, drop}
use lib.Dec.{leb}
use borrow.Author.Tests.{le-leb, lt-leb, leb-true}
use Rattle.base.proofs.Cases.{by_cases, all_of_facts}
use Rattle.store_image.specs.Image.{well_formed}
use Rattle.store_move_plan.specs.Rooms.{no_content, blank, lays, plan}
use Rattle.store_move_plan.proofs.Search.{same_length}
use Rattle.store_move_plan.proofs.Blank.{none-fits}
use Rattle.store_move.specs.Moving.{content, moved, lists, roomy, move_refusal_number, refuse_unless, unless_unfit, target_after, move_card, move_card_into, Numbered}
use Rattle.store_move.specs.declared.MoveRefusal.{MoveRefusal}
use Rattle.store_move.specs.declared.MoveRefusal.TheVariants.{BadImage, BadList, MissingKind, SmallRoom, ShortTarget}
use Rattle.store_move.proofs.Fitting.{roomy-at}
use Rattle.std.specs.Prelude.{Some, None, Result, Ok, Err}

-- ---- the list's plan

pub plan_fit : (list : List ℕ) (n : ℕ) → plan list ≡ Some n → n ≡ length (blank list)
unfolding plan
plan_fit list n e =
    by_cases (lays list)
    (λ y. let z : Some (length (blank list)) ≡ Some n = simp y at e in cc)
    (λ f. absurd (let z : None ≡ Some n = simp f at e in let x : ◌≡◌ {A = ℕ} 0 1 = cc in omega arith))

-- contents that fit leave the image as long as the list says
pub moved_length : (old list : List ℕ) → roomy old list ≡ true → length (moved old list) ≡ length (blank list)
unfolding moved blank
moved_length old list r = same_length list no_content (content old) (none-fits list) (roomy-at old list r)

-- ---- the answer

module _ (old list t : List ℕ) where
  -- what the contract says of the answer r and of the target t' afterwards
  abbrev pub Says : Result ℕ MoveRefusal → List ℕ → Type 0
  Says r t' = (r ≡ move_card old list (length t)) × (t' ≡ move_card_into old list t)

  says : (r : Result ℕ MoveRefusal) → move_card old list (length t) ≡ r → Says r (target_after r (moved old list) t)
  unfolding move_card_into
  says r e = (sym e, ap (λ (x : Result ℕ MoveRefusal). target_after x (moved old list) t) (sym e))

  module _ (o : well_formed old ≡ true) where
    module _ (n : ℕ) (p : plan list ≡ Some n) where
      module _ (a : lists old list ≡ true) where
        module _ (r : roomy old list ≡ true) where
          pub moved-length-plan : length (moved old list) ≡ n
          moved-length-plan = moved_length old list r ∙ sym (plan_fit list n p)

          pub move_card_short_target : length t < n → Says (Err ShortTarget) t
          move_card_short_target h =
              says (Err ShortTarget) (unfold move_card in simp (o, p, a, r, lt-leb (length (moved old list)) (length t) (omega (arith, moved-length-plan))))

          pub move_card_accepted : n ≤ length t → (t' : List ℕ) → t' ≡ moved old list ++ drop (length (moved old list)) t → Says (Ok n) t'
          move_card_accepted h t' e =
              let s = says (Ok (length (moved old list))) (unfold move_card in simp (o, p, a, r, le-leb (length (moved old list)) (length t) (omega (arith, moved-length-plan)))) in
              (ap Ok (sym moved-length-plan) ∙ s.0, e ∙ s.1)

-- ---- the numbers that it answers

-- a refusal's number is one of five, none of which is 0
pub move_refusal_number-listed : (w : MoveRefusal) → Memᴰ (move_refusal_number w) (2 ∷ 10 ∷ 11 ∷ 12 ∷ 13 ∷ [])
move_refusal_number-listed BadImage = Memᴰ.head refl
move_refusal_number-listed BadList = Memᴰ.tail (Memᴰ.head refl)
move_refusal_number-listed MissingKind = Memᴰ.tail (Memᴰ.tail (Memᴰ.head refl))
move_refusal_number-listed SmallRoom = Memᴰ.tail (Memᴰ.tail (Memᴰ.tail (Memᴰ.head refl)))
move_refusal_number-listed ShortTarget = Memᴰ.tail (Memᴰ.tail (Memᴰ.tail (Memᴰ.tail (Memᴰ.head refl))))

pub move_refusal_number-some : (w : MoveRefusal) → 1 ≤ move_refusal_number w
move_refusal_number-some BadImage = omega arith
move_refusal_number-some BadList = omega arith
move_refusal_number-some MissingKind = omega arith
move_refusal_number-some SmallRoom = omega arith
move_refusal_number-some ShortTarget = omega arith

unless_ind : (P : Result ℕ MoveRefusal → Type 0) (t : Bool) (w : MoveRefusal) (m : Result ℕ MoveRefusal) → P (Err w) → (t ≡ true → P m) → P (refuse_unless t w m)
unless_ind P true w m r i = i refl
unless_ind P false w m r i = r

unfit_ind : (P : Result ℕ MoveRefusal → Type 0) (list : List ℕ) (m : Result ℕ MoveRefusal) → P (Err BadList) → (lays list ≡ true → P m) → P (unless_unfit (plan list) m)
unfolding plan
unfit_ind P list m r i = by_cases (lays list) (λ y. rw y (i y)) (λ n. rw n r)

pub lays-length : (list : List ℕ) → lays list ≡ true → length (blank list) ≤ 262144
unfolding lays well_formed
lays-length list e = leb-true _ _ (all_of_facts _ (all_of_facts _ e).1.0).0

pub move_card_numbered : (old list : List ℕ) (n : ℕ) → Numbered (move_card old list n)
unfolding move_card
move_card_numbered old list n =
    unless_ind Numbered (well_formed old) BadImage _ (omega arith)
    (λ o. unfit_ind Numbered list _ (omega arith)
    (λ y. unless_ind Numbered (lists old list) MissingKind _ (omega arith)
    (λ a. unless_ind Numbered (roomy old list) SmallRoom _ (omega arith)
    (λ r. unless_ind Numbered (leb (length (moved old list)) n) ShortTarget _ (omega arith)
    (λ h. let l : length (moved old list) ≤ 262144 = omega (arith, moved_length old list r, lays-length list y) in l)))))

-- ---- what a move knows that is not refused

unless_held : (t : Bool) (w : MoveRefusal) (m : Result ℕ MoveRefusal) (l : ℕ) → refuse_unless t w m ≡ Ok l → (t ≡ true) × (m ≡ Ok l)
unless_held true w m l e = (refl, e)
unless_held false w m l e = absurd (let z : ◌≡◌ {A = ℕ} 0 1 = cc in omega arith)

unfit_held : (list : List ℕ) (m : Result ℕ MoveRefusal) (l : ℕ) → unless_unfit (plan list) m ≡ Ok l → (lays list ≡ true) × (m ≡ Ok l)
unfolding plan
unfit_held list m l e =
    by_cases (lays list)
    (λ y. (y, simp y at e))
    (λ n. absurd (let z : Err BadList ≡ Ok l = simp n at e in let x : ◌≡◌ {A = ℕ} 0 1 = cc in omega arith))

pub record Accepted (old list : List ℕ) (n l : ℕ) : Type 0 where
  pub well : well_formed old ≡ true
  pub lay : lays list ≡ true
  pub all : lists old list ≡ true
  pub fit : roomy old list ≡ true
  pub long : length (moved old list) ≤ n
  pub is : length (moved old list) ≡ l

pub move_card_facts : (old list : List ℕ) (n l : ℕ) → move_card old list n ≡ Ok l → Accepted old list n l
unfolding move_card
move_card_facts old list n l e =
    let a = unless_held (well_formed old) BadImage _ l e in
    let b = unfit_held list _ l a.1 in
    let c = unless_held (lists old list) MissingKind _ l b.1 in
    let d = unless_held (roomy old list) SmallRoom _ l c.1 in
    let f = unless_held (leb (length (moved old list)) n) ShortTarget _ l d.1 in
    record { well = a.0; lay = b.0; all = c.0; fit = d.0; long = leb-true _ _ f.0; is = let g = f.1 in cc }
