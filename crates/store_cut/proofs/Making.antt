-- Stores made one after the other: a run of them, and a list behind a list. Read before: specs/Stores.antt. Exports: `make_stores-length`,
-- `made-behind`, `made-run`, `length_run` (what stores leave); `make-one`, `make_none`, `make-run` and `make-record` (the code's stores are those of
-- the definition); `length-record_stores`, `Makes`, `…-accepted` and `…-refused` (how many stores there are, and what the first k
-- leave, where the body can take what is written and where not).
use Prim.Native.Nat.{ℕ, zero, suc, ◌+◌, ◌-◌, ◌/◌, ◌%◌, ◌≤◌}
use mathlib.Core.Path.{◌≡◌, refl, sym, ap, ap₂, ◌∙◌}
use mathlib.Core.Bool.{true, false}
use mathlib.Core.List.{List, [], ◌∷◌, ◌++◌}
use native.Mathlib.Omega.{arith}
use native.Mathlib.Nat.{sub-zero, zero-sub, suc-sub-suc}
use lib.ListN.{length, take, set, length-set, length-append, length-take}
use lib.Seq.{sets, take-nil}
use Rattle.base.specs.Bytes.{put}
use Rattle.base.proofs.Runs.{put_accepted}
use Rattle.store_records.specs.Little.{bytes16}
use Rattle.store_records.specs.Body.{count, used, appendable, record_bytes}
use Rattle.store_kinds.specs.Biometrics.{bio_ok}
use Rattle.store_records.proofs.Appending.{length-record_bytes}
use Rattle.store_cut.specs.Stores.{Store, at, run, record_stores, stores, made, make_stores}
use Rattle.store_cut.specs.declared.Writing.{Writing}
use Rattle.store_cut.specs.declared.Writing.TheVariants.{Record, State}

-- ---- what stores leave

made-length : (ss : List Store) (xs : List ℕ) → length (made ss xs) ≡ length xs
unfolding made
made-length [] xs = refl
made-length (s ∷ ss) xs = made-length ss (set xs s.place s.byte) ∙ length-set xs s.place s.byte

pub make_stores-length : (k : ℕ) (w : Writing) (xs d : List ℕ) → length (make_stores k w xs d) ≡ length xs
unfolding make_stores
make_stores-length k w xs d = made-length (take k (stores w xs d)) xs

-- the first k stores of a list behind a list
pub made-behind : (k : ℕ) (ss ts : List Store) (xs : List ℕ) → made (take k (ss ++ ts)) xs ≡ made (take (k - length ss) ts) (made (take k ss) xs)
unfolding made
made-behind k [] ts xs = ap₂ (λ (n : ℕ) (l : List Store). made (take n ts) (made l xs)) (sym (sub-zero k)) (sym (take-nil k))
made-behind zero (s ∷ ss) ts xs = ap (λ (n : ℕ). made (take n ts) xs) (sym (zero-sub (suc (length ss))))
made-behind (suc k) (s ∷ ss) ts xs =
    made-behind k ss ts (set xs s.place s.byte)
    ∙ ap (λ (n : ℕ). made (take n ts) (made (take k ss) (set xs s.place s.byte))) (sym (suc-sub-suc k (length ss)))

-- a run is a run of bytes
pub length_run : (p : ℕ) (bs : List ℕ) → length (run p bs) ≡ length bs
unfolding run
length_run p [] = refl
length_run p (b ∷ bs) = ap suc (length_run (suc p) bs)

pub made-run : (k p : ℕ) (bs xs : List ℕ) → made (take k (run p bs)) xs ≡ sets xs p (take k bs)
unfolding made run
made-run k p [] xs = ap₂ (λ (l : List Store) (m : List ℕ). made l (sets xs p m)) (take-nil k) (sym (take-nil k))
made-run zero p (b ∷ bs) xs = refl
made-run (suc k) p (b ∷ bs) xs = made-run k (suc p) bs (set xs p b)

-- ---- the code's stores

pub make-run : (xs bs : List ℕ) (p k : ℕ) → p + length bs ≤ length xs → put xs p (take k bs) ≡ made (take k (run p bs)) xs
make-run xs bs p k h = put_accepted xs p (take k bs) (let l = length-take k bs in omega arith) ∙ sym (made-run k p bs xs)

pub make-one : (xs : List ℕ) (p b k : ℕ) → (k ≡ 0 → ⊥) → set xs p b ≡ made (take k (at p b ∷ [])) xs
unfolding made
make-one xs p b zero h = absurd (h refl)
make-one xs p b (suc k) h = ap (λ (ss : List Store). made ss (set xs p b)) (sym (take-nil k))

pub make_none : (xs : List ℕ) (ss : List Store) (k : ℕ) → k ≡ 0 → xs ≡ made (take k ss) xs
unfolding made
make_none xs ss k e = ap (λ (n : ℕ). made (take n ss) xs) (sym e)

-- stores, and behind them others with what the first left of k
behind : (ss ts : List Store) (m k j : ℕ) (xs l last : List ℕ) → length ss ≡ m → (j ≡ k - m) × (l ≡ made (take k ss) xs) → last ≡ made (take j ts) l
    → last ≡ made (take k (ss ++ ts)) xs
behind ss ts m k j xs l last em e f =
    f
    ∙ ap₂ (λ (n : ℕ) (y : List ℕ). made (take n ts) y) (e.0 ∙ ap (λ (n : ℕ). k - n) (sym em)) e.1
    ∙ sym (made-behind k ss ts xs)

-- a record: two stores, a run, and two stores
module _ (xs d : List ℕ) (p n k : ℕ) (ep : p ≡ used xs) (en : n ≡ count xs) where
  abbrev one : ℕ → ℕ → List Store
  one q b = at q b ∷ []

  abbrev low : ℕ
  low = length d % 256

  abbrev high : ℕ
  high = length d / 256 % 256

  abbrev count-high : ℕ
  count-high = (n + 1) / 256 % 256

  abbrev count_low : ℕ
  count_low = (n + 1) % 256

  as-runs : record_stores xs d ≡ one p low ++ (one (p + 1) high ++ (run (p + 2) d ++ (one 1 count-high ++ one 0 count_low)))
  unfolding record_stores record_bytes bytes16 run
  as-runs =
      let q : suc p ≡ p + 1 = omega arith in
      let r : suc (suc p) ≡ p + 2 = omega arith in
      ap₂ (λ (u m : ℕ). run u (low ∷ high ∷ d) ++ (at 1 ((m + 1) / 256 % 256) ∷ at 0 ((m + 1) % 256) ∷ [])) (sym ep) (sym en)
      ∙ ap₂ (λ (u v : ℕ). at p low ∷ at u high ∷ (run v d ++ (at 1 count-high ∷ at 0 count_low ∷ []))) q r

  -- b₁ and b₂ are the bytes of the length, b₄ and b₅ those of the count
  module _ (l₁ l₂ l₃ l₄ l₅ : List ℕ) (k₁ k₂ k₃ k₄ b₁ b₂ b₄ b₅ : ℕ) where
    pub make-record : b₁ ≡ low → b₂ ≡ high → b₄ ≡ count-high → b₅ ≡ count_low
        → (k₁ ≡ k - 1) × (l₁ ≡ made (take k (one p b₁)) xs)
        → (k₂ ≡ k₁ - 1) × (l₂ ≡ made (take k₁ (one (p + 1) b₂)) l₁)
        → (k₃ ≡ k₂ - length d) × (l₃ ≡ made (take k₂ (run (p + 2) d)) l₂)
        → (k₄ ≡ k₃ - 1) × (l₄ ≡ made (take k₃ (one 1 b₄)) l₃)
        → l₅ ≡ made (take k₄ (one 0 b₅)) l₄
        → l₅ ≡ made (take k (record_stores xs d)) xs
    make-record c₁ c₂ c₄ c₅ e₁ e₂ e₃ e₄ e₅ =
        behind (one p low) _ 1 k k₁ xs l₁ l₅ refl (rw c₁ at e₁)
        (behind (one (p + 1) high) _ 1 k₁ k₂ l₁ l₂ l₅ refl (rw c₂ at e₂)
        (behind (run (p + 2) d) _ (length d) k₂ k₃ l₂ l₃ l₅ (length_run (p + 2) d) e₃
        (behind (one 1 count-high) (one 0 count_low) 1 k₃ k₄ l₃ l₄ l₅ refl (rw c₄ at e₄) (rw c₅ at e₅))))
        ∙ ap (λ (ss : List Store). made (take k ss) xs) (sym as-runs)

-- ---- how many stores there are, and what the first k leave

pub length-record_stores : (xs d : List ℕ) → length (record_stores xs d) ≡ length d + 4
unfolding record_stores
length-record_stores xs d =
    let a = length-append (run (used xs) (record_bytes d)) (at 1 ((count xs + 1) / 256 % 256) ∷ at 0 ((count xs + 1) % 256) ∷ []) in
    omega (arith, length_run (used xs) (record_bytes d), length-record_bytes d)

-- what the code answers and leaves
abbrev pub Makes : ℕ → Writing → List ℕ → List ℕ → ℕ → List ℕ → Type 0
Makes k w xs d r last = (r ≡ length (stores w xs d)) × (last ≡ make_stores k w xs d)

module _ (k : ℕ) (xs d : List ℕ) where
  pub record_accepted : (last : List ℕ) → appendable xs (length d) ≡ true → last ≡ made (take k (record_stores xs d)) xs → Makes k Record xs d (length d + 4) last
  unfolding stores make_stores
  record_accepted last t e = (simp t (sym (length-record_stores xs d)), simp t e)

  pub record_refused : appendable xs (length d) ≡ false → Makes k Record xs d 0 xs
  unfolding stores make_stores made
  record_refused t = (simp t, simp (t, take-nil))

  pub state_accepted : (last : List ℕ) → bio_ok xs ≡ true → last ≡ made (take k (at 0 1 ∷ [])) xs → Makes k State xs d 1 last
  unfolding stores make_stores
  state_accepted last t e = (simp t, simp t e)

  pub state-refused : bio_ok xs ≡ false → Makes k State xs d 0 xs
  unfolding stores make_stores made
  state-refused t = (simp t, simp (t, take-nil))
