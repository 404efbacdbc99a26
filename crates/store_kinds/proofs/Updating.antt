-- Biometrics bodies: what a write and an activation leave.
-- Read before: specs/Biometrics.antt. Exports: `BioOk`, `bio_ok-…` (the test taken apart and put together), `Updatable`, `updatable-…` (whether a
-- body can take a write), `update-…`, `updated-…`, `activate-…`, `activated-…` (what is answered, and the body afterwards).
use Prim.Native.Nat.{ℕ, ◌+◌, ◌-◌, ◌/◌, ◌%◌, ◌≤◌, ◌<◌, max}
use mathlib.Core.Path.{◌≡◌, refl, sym, ap, ap₂, ◌∙◌}
use mathlib.Core.Bool.{true, false}
use mathlib.Core.List.{List, [], ◌∷◌, ◌++◌, append_assoc}
use native.Mathlib.Omega.{arith}
use lib.ListN.{length, take, drop, set, length-set, length-drop, length-append}
use lib.Seq.{sets, length-sets, sets-eq, get_or-set_same, get_or-set_other, drop-set-lt, take-append-add, take-take, length-take-le}
use borrow.Author.Tests.{le-leb, lt-leb, leb-true}
use Rattle.base.specs.Choice.{all_of}
use Rattle.base.specs.Bytes.{splice, put}
use Rattle.base.proofs.Cases.{if_else_ind, all_of_facts, all_of_accepted}
use Rattle.base.proofs.Parts.{Agree, drop-take}
use Rattle.base.proofs.Runs.{get_d_sets_before, drop-sets_past, drop-sets_add, put_accepted}
use Rattle.store_records.specs.Little.{le32, bytes32}
use Rattle.store_kinds.specs.Biometrics.{state, written, room, written_bytes, largest_room, bio_ok, updatable, updated, update, activate}
use Rattle.store_records.proofs.Numbers.{le32_agree, le32-stored, length-bytes32}

-- ---- whether a body is one of biometrics

module _ (xs : List ℕ) where
  pub record BioOk : Type 0 where
    pub long : 5 ≤ length xs
    pub known : state xs ≤ 1
    pub small : room xs ≤ largest_room
    pub within : written xs ≤ room xs

  pub bio_ok_facts : bio_ok xs ≡ true → BioOk
  unfolding bio_ok
  bio_ok_facts e =
      let h = all_of_facts _ e in
      record { long = leb-true _ _ h.0; known = leb-true _ _ h.1.0; small = leb-true _ _ h.1.1.0; within = leb-true _ _ h.1.1.1.0 }

  pub bio_ok_accepted : BioOk → bio_ok xs ≡ true
  unfolding bio_ok
  bio_ok_accepted f = all_of_accepted _ (le-leb _ _ f.long, (le-leb _ _ f.known, (le-leb _ _ f.small, (le-leb _ _ f.within, tt))))

  pub bio_ok-short : length xs < 5 → bio_ok xs ≡ false
  unfolding bio_ok all_of
  bio_ok-short h = simp (lt-leb _ _ h)

-- ---- whether it can take a write

module _ (xs : List ℕ) (off n : ℕ) where
  pub record Updatable : Type 0 where
    pub body : BioOk xs
    pub behind : off ≤ written xs
    pub fits : off + n ≤ room xs

  pub updatable_facts : updatable xs off n ≡ true → Updatable
  unfolding updatable
  updatable_facts e = let h = all_of_facts _ e in record { body = bio_ok_facts xs h.0; behind = leb-true _ _ h.1.0; fits = leb-true _ _ h.1.1.0 }

  -- so what is written, before and after, ends within the largest room
  pub updatable_small : updatable xs off n ≡ true → (written xs ≤ largest_room) × (off + n ≤ largest_room)
  updatable_small e = let f = updatable_facts e in (omega (arith, f.body.small, f.body.within), omega (arith, f.body.small, f.fits))

  pub updatable_accepted : bio_ok xs ≡ true → off ≤ written xs → off + n ≤ room xs → updatable xs off n ≡ true
  unfolding updatable
  updatable_accepted e h i = all_of_accepted _ (e, (le-leb _ _ h, (le-leb _ _ i, tt)))

  pub updatable-refused : bio_ok xs ≡ false → updatable xs off n ≡ false
  unfolding updatable all_of
  updatable-refused e = simp e

-- what a write answers and leaves: where the body can take it, and where not
pub update_accepted : (xs : List ℕ) (off : ℕ) (d last : List ℕ) → updatable xs off (length d) ≡ true → last ≡ updated xs off d
    → (true ≡ updatable xs off (length d)) × (last ≡ update xs off d)
unfolding update
update_accepted xs off d last t e = (sym t, e ∙ simp t)

pub update-refused : (xs : List ℕ) (off : ℕ) (d : List ℕ) → updatable xs off (length d) ≡ false → (false ≡ updatable xs off (length d)) × (xs ≡ update xs off d)
unfolding update
update-refused xs off d t = (sym t, simp t)

-- the same of an activation
pub activate_accepted : (xs : List ℕ) → bio_ok xs ≡ true → activate xs ≡ set xs 0 1
unfolding activate
activate_accepted xs t = simp t

pub activate-refused : (xs : List ℕ) → bio_ok xs ≡ false → activate xs ≡ xs
unfolding activate
activate-refused xs t = simp t

-- a run stored over the end of what counts, or within it
run_over : (z d : List ℕ) (off w : ℕ) → off ≤ w → off + length d ≤ length z → take (max w (off + length d)) (sets z off d) ≡ splice (take w z) off d
unfolding splice
run_over z d off w h k =
    let p : List ℕ = take off z ++ d in
    let l : length p ≡ off + length d = length-append (take off z) d ∙ ap (λ (i : ℕ). i + length d) (length-take-le off z (omega arith)) in
    let e : max w (off + length d) ≡ length p + (w - (off + length d)) = omega arith in
    ap₂ take e (sets-eq d z off k)
    ∙ take-append-add p (drop (off + length d) z) (w - (off + length d))
    ∙ append_assoc (take off z) d (take (w - (off + length d)) (drop (off + length d) z))
    ∙ ap₂ (λ (a b : List ℕ). a ++ (d ++ b)) (sym (take-take off w z h)) (sym (drop-take z (off + length d) w))

-- ---- what a write leaves

module _ (xs : List ℕ) (off : ℕ) (d : List ℕ) (t : updatable xs off (length d) ≡ true) where
  facts : Updatable xs off (length d)
  facts = updatable_facts xs off (length d) t

  pub inside : 5 + off + length d ≤ length xs
  unfolding room
  inside = let f = facts in omega (arith, f.body.long, f.fits)

  -- the code's stores are those of the definition
  pub updated_by : (l₁ l₂ : List ℕ) (w n : ℕ) → w ≡ written xs → n ≡ max w (off + length d) → l₁ ≡ put xs (5 + off) d
      → l₂ ≡ put l₁ 1 (n % 256 ∷ n / 256 % 256 ∷ n / 65536 % 256 ∷ n / 16777216 % 256 ∷ []) → l₂ ≡ updated xs off d
  unfolding updated bytes32
  updated_by l₁ l₂ w n ew en e₁ e₂ =
      let k : n ≡ max (written xs) (off + length d) = en ∙ ap (λ (x : ℕ). max x (off + length d)) ew in
      let e : l₁ ≡ sets xs (5 + off) d = e₁ ∙ put_accepted xs (5 + off) d inside in
      let f = facts in
      let l : length l₁ ≡ length xs = ap length e ∙ length-sets xs (5 + off) d in
      e₂ ∙ put_accepted l₁ 1 _ (omega (arith, f.body.long)) ∙ ap₂ (λ (y : List ℕ) (j : ℕ). sets y 1 (bytes32 j)) e k

  pub updated-length : length (updated xs off d) ≡ length xs
  unfolding updated
  updated-length = simp length-sets

  pub updated-state : state (updated xs off d) ≡ state xs
  unfolding updated state
  updated-state =
      get_d_sets_before (sets xs (5 + off) d) 1 (bytes32 (max (written xs) (off + length d))) 0 (omega arith)
      ∙ get_d_sets_before xs (5 + off) d 0 (omega arith)

  pub updated-written : written (updated xs off d) ≡ max (written xs) (off + length d)
  unfolding updated written
  updated-written =
      let f = facts in
      le32-stored (sets xs (5 + off) d) 1 (max (le32 xs 1) (off + length d))
      (let l = length-sets xs (5 + off) d in omega (arith, f.body.long))
      (omega (arith, f.body.within, f.body.small, f.fits))

  -- the room: d is stored, and w lies before it
  stored : drop 5 (updated xs off d) ≡ sets (drop 5 xs) off d
  unfolding updated
  stored =
      drop-sets_past 5 (sets xs (5 + off) d) 1 (bytes32 (max (written xs) (off + length d))) (let l = length-bytes32 (max (written xs) (off + length d)) in omega arith)
      ∙ drop-sets_add 5 xs off d

  -- the bytes written: those of before, with d in its place
  pub updated-content : written_bytes (updated xs off d) ≡ splice (written_bytes xs) off d
  unfolding written_bytes
  updated-content =
      let l = length-drop 5 xs in
      ap₂ take updated-written stored ∙ run_over (drop 5 xs) d off (written xs) facts.behind (let i = inside in omega arith)

  pub updated-well_formed : bio_ok (updated xs off d) ≡ true
  unfolding room
  updated-well_formed =
      let f = facts in
      let l = updated-length in
      let s = updated-state in
      let w = updated-written in
      bio_ok_accepted (updated xs off d)
      (record {
        long = omega (arith, f.body.long);
        known = omega (arith, f.body.known);
        small = omega (arith, f.body.small);
        within = omega (arith, f.body.within, f.fits);
      })

-- ---- what an activation leaves

module _ (xs : List ℕ) (o : bio_ok xs ≡ true) where
  long : 5 ≤ length xs
  long = (bio_ok_facts xs o).long

  pub activated-length : length (set xs 0 1) ≡ length xs
  activated-length = length-set xs 0 1

  pub activated-state : state (set xs 0 1) ≡ 1
  unfolding state
  activated-state = get_or-set_same xs 0 1 0 (omega (arith, long))

  pub activated-written : written (set xs 0 1) ≡ written xs
  unfolding written
  activated-written = le32_agree xs (set xs 0 1) 1 5 1 agree (omega arith) (omega arith)
    where
      agree : Agree xs (set xs 0 1) 1 5
      agree = unfold Agree in (λ p h k. get_or-set_other xs 0 p 1 0 (λ e. omega arith))

  pub activated-content : written_bytes (set xs 0 1) ≡ written_bytes xs
  unfolding written_bytes
  activated-content = ap₂ take activated-written (drop-set-lt 5 xs 0 1 (omega arith))

  pub activated-well_formed : bio_ok (set xs 0 1) ≡ true
  unfolding room
  activated-well_formed =
      let f = bio_ok_facts xs o in
      let l = activated-length in
      let w = activated-written in
      bio_ok_accepted (set xs 0 1)
      (record {
        long = omega (arith, f.long);
        known = omega (arith, activated-state);
        small = omega (arith, f.small);
        within = omega (arith, f.within);
      })

-- ---- both, whether or not the body could take them

pub update-length : (xs : List ℕ) (off : ℕ) (d : List ℕ) → length (update xs off d) ≡ length xs
unfolding update
update-length xs off d = if_else_ind (λ (l : List ℕ). length l ≡ length xs) (updatable xs off (length d)) (λ t. updated-length xs off d t) (λ t. refl)

pub activate-length : (xs : List ℕ) → length (activate xs) ≡ length xs
unfolding activate
activate-length xs = if_else_ind (λ (l : List ℕ). length l ≡ length xs) (bio_ok xs) (λ t. activated-length xs t) (λ t. refl)

pub updatable_empty : (off n : ℕ) → updatable [] off n ≡ false
updatable_empty off n = updatable-refused [] off n (bio_ok-short [] (omega arith))
