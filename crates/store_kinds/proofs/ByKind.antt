-- What a body must be by its kind: one of the kind's rule, or one of biometrics.
-- Read before: specs/Rules.antt, Table. Exports: `kind_ok-rule`, `kind_ok-refused`, `kind_ok-biometrics`; `OfRule`, `kind_ok-ruled` (the rule of
-- a kind that is no biometrics file's); `place_small` (in a body of a rule, records stand below 2^18).
use Prim.Native.Nat.{ℕ, zero, suc, ◌+◌, ◌*◌, ◌≤◌, ◌<◌}
use mathlib.Core.Path.{◌≡◌, refl, sym, ap, ◌∙◌}
use mathlib.Core.Bool.{true, false, ◌&&◌}
use mathlib.Core.List.{List}
use native.Mathlib.Omega.{arith}
use Rattle.base.proofs.Cases.{and_left, and_right, false-true}
use Rattle.store_records.specs.Body.{count, place, ok_at, ok_to, body_ok}
use Rattle.store_records.proofs.Bodies.{place-le, ok_at_facts, body_ok_facts}
use Rattle.store_kinds.specs.Biometrics.{bio_ok}
use Rattle.store_kinds.specs.Rules.{rule_of, is_biometrics, kind_ok_by, kind_ok}
use Rattle.store_kinds.specs.declared.rules.Key.{Key}
use Rattle.store_kinds.specs.declared.rules.Key.TheVariants.{Kind}
use Rattle.store_kinds.specs.declared.rules.Rule.{Rule}
use Rattle.store_kinds.proofs.Table.{rule_regular}
use Rattle.std.specs.Prelude.{Option, Some, None}

module _ (k : ℕ) (xs : List ℕ) where
  pub kind_ok-rule : (r : Rule) → rule_of (Kind k) ≡ Some r → kind_ok k xs ≡ body_ok r.longest r.most xs
  unfolding kind_ok
  kind_ok-rule r e = ap (λ (f : Option Rule). kind_ok_by f k xs) e

  module _ (e : rule_of (Kind k) ≡ None) where
    none : kind_ok k xs ≡ (is_biometrics k && bio_ok xs)
    unfolding kind_ok
    none = ap (λ (f : Option Rule). kind_ok_by f k xs) e

    pub kind_ok-refused : is_biometrics k ≡ false → kind_ok k xs ≡ false
    kind_ok-refused f = none ∙ simp f

    pub kind_ok-biometrics : is_biometrics k ≡ true → kind_ok k xs ≡ bio_ok xs
    kind_ok-biometrics t = none ∙ simp t

  -- a body that is right for a kind, where that is no biometrics file's, is right for the rule of its kind
  pub record OfRule : Type 0 where
    pub rule : Rule
    pub ruled : rule_of (Kind k) ≡ Some rule
    pub ok : body_ok rule.longest rule.most xs ≡ true

  pub kind_ok-ruled : is_biometrics k ≡ false → kind_ok k xs ≡ true → OfRule
  kind_ok-ruled b e = go (rule_of (Kind k)) refl
    where
      go : (f : Option Rule) → rule_of (Kind k) ≡ f → OfRule
      go None n = false-true (sym (kind_ok-refused n b) ∙ e)
      go (Some r) i = record { rule = r; ruled = i; ok = sym (kind_ok-rule r i) ∙ e }

-- ---- where records stand

-- a record has at most 929 bytes and two for its length
place_bound : (L : ℕ) (xs : List ℕ) (n : ℕ) → L ≤ 929 → ok_to L xs n ≡ true → place xs n ≤ 2 + n * 931
unfolding place ok_to
place_bound L xs zero l e = omega arith
place_bound L xs (suc n) l e =
    let h = place_bound L xs n l (and_left (ok_to L xs n) (ok_at L xs (place xs n)) e) in
    let k = (ok_at_facts L xs (place xs n) (and_right (ok_to L xs n) (ok_at L xs (place xs n)) e)).short in
    omega arith

pub place_small : (key : Key) (r : Rule) (xs : List ℕ) (n : ℕ) → rule_of key ≡ Some r → body_ok r.longest r.most xs ≡ true → n ≤ count xs → place xs n < 262144
place_small key r xs n e b h =
    let f = body_ok_facts r.longest r.most xs b in
    let g = rule_regular key r e in
    let s = place_bound r.longest xs (count xs) g.long f.all in
    let p = place-le xs n (count xs) h in
    omega (arith, f.few, g.many)
