-- How far the place of a string may move on: by the least number that leaves the bytes standing that stood before. Read before:
-- specs/Loops.antt. Exports `Built` (the table so far) with `built-…`, one law for each branch of the loop that makes it, and `Trying` (the
-- place that is tried) with `try_…`, for the two loops that search.
use Prim.Native.Nat.{ℕ, zero, suc, ◌+◌, ◌-◌, ◌≤◌, ◌<◌}
use mathlib.Core.Path.{◌≡◌, refl, sym, ap, subst, ◌∙◌}
use mathlib.Core.Logic.{⊎_elim}
use mathlib.Core.Bool.{true, false}
use mathlib.Core.List.{List, [], ◌∷◌}
use native.Mathlib.Omega.{arith}
use native.Mathlib.Nat.{add_assoc, add-zero, le_refl, eq-or-lt_of_le}
use lib.ListN.{length, get_or, set, drop, get_or-append, length-drop}
use lib.Seq.{get_or-set_same, get_or-set_other, get_or-drop}
use lib.Dec.{ltb}
use borrow.Author.Count.{below_more}
use borrow.Author.Tests.{eq-eqb, ltb-true, ltb-false}
use Rattle.base.proofs.Cases.{by_cases}
use Rattle.machine_window.specs.Window.{begins, occurs_in}
use Rattle.machine_window.specs.Loops.{Stand, Clear, PassedTo, Ran, Least, Filled}
use Rattle.machine_window.proofs.Occurring.{begins_split, occurs_short, occurs_here, skip_to}

-- ---- bytes that stand at a place

-- where r bytes of t stand in w from p on, the first c of them stand again s places on, and at no place before that
module _ (w t : List ℕ) (p r c s : ℕ) (a : Stand w t p r) (h : c ≤ r) (l : Least t c s) where
  moved : Stand w t (p + s) (c - s)
  moved i b = ap (λ (x : ℕ). get_or w x 0) (add_assoc p s i) ∙ a (s + i) (omega arith) ∙ l.stands i b

  not-between : (d k : ℕ) → p < d → d < p + s → p + c ≤ d + k → Stand w t d k → ⊥
  not-between d k x y z b =
      let e = d - p in
      l.least e (omega arith) (omega arith)
      (λ i j. let f : p + (e + i) ≡ d + i = omega arith in
      sym (a (e + i) (omega arith)) ∙ ap (λ (x : ℕ). get_or w x 0) f ∙ b i (omega arith))

-- ---- the table of moves

-- p and q while the table is made: q bytes stand p places on, and no smaller move is left for one byte more
pub record Built (t table : List ℕ) (end p q : ℕ) : Type 0 where
  pub first : 1 ≤ p
  pub within : p + q ≤ end
  pub stands : Stand t t p q
  pub none : (d : ℕ) → 0 < d → d < p → Stand t t d (p + q + 1 - d) → ⊥
  pub filled : Filled t table (p + q)

filled_more : (t table : List ℕ) (k v : ℕ) → k + 1 < length table → Filled t table k → Least t (k + 1) v → Filled t (set table (k + 1) v) (k + 1)
filled_more t table k v h f l q a b =
    ⊎_elim
    (λ e. subst (λ (x : ℕ). Least t x (get_or (set table (k + 1) v) x 0)) (sym e) (rw (get_or-set_same table (k + 1) v 0 h) l))
    (λ z. rw (get_or-set_other table (k + 1) q v 0 (λ e. omega arith)) (f q a (omega arith)))
    (eq-or-lt_of_le b)

-- one byte can be moved by one place alone
pub least-one : (t : List ℕ) (q : ℕ) → 1 ≤ q → q ≤ 1 → Least t q 1
least-one t q a b = record {
  low = le_refl _;
  high = a;
  stands = λ i j. absurd (omega arith);
  least = λ d x y s. absurd (omega arith);
}

pub built_least : (t table : List ℕ) (end p q : ℕ) → Built t table end p q → (q ≡ 0 → ⊥) → Least t q (get_or table q 0)
built_least t table end p q b z = b.filled q (omega arith) (omega arith)

module _ (t table : List ℕ) (end p q : ℕ) (b : Built t table end p q) (room : end < length table) (h : p + q < end) where
  -- one byte more stands
  pub built_more : get_or t (p + q) 0 ≡ get_or t q 0 → Built t (set table (p + q + 1) p) end p (q + 1)
  built_more e =
      let s : Stand t t p (q + 1) = below_more (λ (i : ℕ). get_or t (p + i) 0 ≡ get_or t i 0) q b.stands e in
      let l : Least t (p + q + 1) p = record {
        low = b.first;
        high = omega arith;
        stands = λ i j. s i (omega arith);
        least = b.none;
      } in
      record {
        first = b.first;
        within = omega arith;
        stands = s;
        none = λ d x y a. b.none d x y (λ i j. a i (omega arith));
        filled = λ n x y. filled_more t table (p + q) p (omega arith) b.filled l n x (omega arith);
      }

  module _ (n : get_or t (p + q) 0 ≡ get_or t q 0 → ⊥) where
    -- the next byte does not stand there: this move is not left either
    none_here : (d : ℕ) → 0 < d → d ≤ p → Stand t t d (p + q + 1 - d) → ⊥
    none_here d x y a =
        ⊎_elim
        (λ e. n (ap (λ (x : ℕ). get_or t (x + q) 0) (sym e) ∙ a q (omega arith)))
        (λ z. b.none d x z a)
        (eq-or-lt_of_le y)

    -- no byte stands there
    pub built_none : q ≡ 0 → Built t (set table (p + 1) (p + 1)) end (p + 1) q
    built_none e =
        let l : Least t (p + 1) (p + 1) = record {
          low = omega arith;
          high = le_refl _;
          stands = λ i j. absurd (omega arith);
          least = λ d x y a. none_here d x (omega arith) (λ i j. a i (omega arith));
        } in
        record {
          first = omega arith;
          within = omega arith;
          stands = λ i j. absurd (omega arith);
          none = λ d x y a. none_here d x (omega arith) (λ i j. a i (omega arith));
          filled = λ k x y. filled_more t table p (p + 1) (omega arith) (λ m v w. b.filled m v (omega arith)) l k x (omega arith);
        }

    -- fewer bytes stand further on
    pub built_fall : (q ≡ 0 → ⊥) → Built t table end (p + get_or table q 0) (q - get_or table q 0)
    built_fall z =
        let s = get_or table q 0 in
        let l = built_least t table end p q b z in
        record {
          first = omega arith;
          within = omega arith;
          stands = moved t t p q q s b.stands (le_refl _) l;
          none = λ d x y a.
              let a' : Stand t t d (p + q + 1 - d) = λ i j. a i (omega arith) in
              by_cases (ltb p d)
              (λ g. not-between t t p q q s b.stands (le_refl _) l d (p + q + 1 - d) (ltb-true p d g) y (omega arith) a')
              (λ g. none_here d x (ltb-false p d g) a');
          filled = λ k x y. b.filled k x (omega arith);
        }

-- ---- the search

begins_stand : (t w : List ℕ) (k : ℕ) → begins t (drop k w) ≡ true → Stand w t k (length t)
begins_stand t w k e i j =
    sym (get_or-drop k w i 0)
    ∙ ap (λ (x : List ℕ). get_or x i 0) (begins_split t (drop k w) e)
    ∙ get_or-append t (drop (length t) (drop k w)) 0 i j

stand_list : (t l : List ℕ) → length t ≤ length l → ((i : ℕ) → i < length t → get_or l i 0 ≡ get_or t i 0) → begins t l ≡ true
unfolding begins
stand_list [] l h a = refl
stand_list (x ∷ t) [] h a = absurd (omega arith)
stand_list (x ∷ t) (y ∷ l) h a = simp (eq-eqb y x (a 0 (omega arith))) (stand_list t l (omega arith) (λ i j. a (suc i) (omega arith)))

stand_begins : (t w : List ℕ) (k : ℕ) → k + length t ≤ length w → Stand w t k (length t) → begins t (drop k w) ≡ true
stand_begins t w k h a = stand_list t (drop k w) (simp length-drop (omega arith)) (λ i j. get_or-drop k w i 0 ∙ a i j)

-- where the string stands at no place from `from` on before r, it occurs from r on if it occurs from there on
skip_clear : (w t : List ℕ) (from r : ℕ) → from ≤ r → Clear w t from r → occurs_in t (drop r w) ≡ occurs_in t (drop from w)
skip_clear w t from r h f =
    skip_to t w from r h (λ k a b. by_cases (begins t (drop k w)) (λ e. absurd (f.none k a b (begins_stand t w k e))) (λ e. e))

-- p is the place that is tried: q bytes stand there, and at no place from `from` on before it the whole string
pub record Trying (w t : List ℕ) (from p q : ℕ) : Type 0 where
  pub low : 1 ≤ q
  pub high : q ≤ length t
  pub stands : p + length t ≤ length w → Stand w t p q
  pub same : occurs_in t (drop p w) ≡ occurs_in t (drop from w)

stand_one : (w t : List ℕ) (p : ℕ) → get_or w p 0 ≡ get_or t 0 0 → Stand w t p 1
stand_one w t p e zero j = ap (λ (x : ℕ). get_or w x 0) (add-zero p) ∙ e
stand_one w t p e (suc i) j = absurd (omega arith)

module _ (w t : List ℕ) (from p : ℕ) where
  -- a place with the first byte was sought
  pub try_sought : (start : ℕ) → 0 < length t → PassedTo w t start p → occurs_in t (drop start w) ≡ occurs_in t (drop from w) → Trying w t from p 1
  try_sought start h s e = record {
    low = le_refl _;
    high = h;
    stands = λ z. stand_one w t p (s.found z);
    same = skip_clear w t start p s.low s.clear ∙ e;
  }

  module _ (q : ℕ) (y : Trying w t from p q) where
    -- too few bytes are left for the string
    pub try_none : length w < p + length t → 0 < length t → false ≡ occurs_in t (drop from w)
    try_none h k = sym (occurs_short t (drop p w) (simp length-drop (omega arith))) ∙ y.same

    module _ {k r : ℕ} (a : Ran w t p k r) where
      -- all of its bytes stand
      pub try_found : r ≡ length t → p + length t ≤ length w → true ≡ occurs_in t (drop from w)
      try_found e h = sym (occurs_here t (drop p w) (stand_begins t w p h (subst (Stand w t p) e a.stands))) ∙ y.same

      -- the string does not stand where only r of its bytes do: the place moves on as far as c of these allow
      module _ (c s : ℕ) (m : r < length t) (h : c ≤ r) (l : Least t c s) where
        pub try_same : occurs_in t (drop (p + s) w) ≡ occurs_in t (drop from w)
        try_same =
            skip_clear w t p (p + s) (omega arith) (record {
              none = λ k x z b. ⊎_elim
                  (λ f. a.stops m (ap (λ (x : ℕ). get_or w (x + r) 0) f ∙ b r m))
                  (λ f. not-between w t p r c s a.stands h l k (length t) f z (omega arith) b)
                  (eq-or-lt_of_le x);
            })
            ∙ y.same

        pub try_moved : (c - s ≡ 0 → ⊥) → Trying w t from (p + s) (c - s)
        try_moved z = record {
          low = omega arith;
          high = omega arith;
          stands = λ x. moved w t p r c s a.stands h l;
          same = try_same;
        }
