-- An application that is present, by any test `has` of which kinds are there: a loop over the rule table, and what is there then. An image
-- and a list of rooms are two such tests.
-- Read before: specs/Rules.antt. Exports: `Left` with its laws (the loop), `present_by-has`,
-- `present_by-same`.
use Prim.Native.Nat.{ℕ, zero, suc, ◌+◌, ◌≤◌, ◌<◌}
use mathlib.Core.Path.{◌≡◌, refl, sym, ap, ◌∙◌}
use mathlib.Core.Bool.{Bool, true, false, ◌&&◌}
use mathlib.Core.List.{List, [], ◌∷◌}
use lib.ListN.{get_or, drop}
use lib.Dec.{lit<}
use borrow.Author.Tests.{eq-eqb, ne_eqb}
use Rattle.base.proofs.Cases.{all_of_facts}
use Rattle.store_kinds.specs.Rules.{rules, rule_of, all_rules, there, present_by}
use Rattle.store_kinds.specs.declared.rules.Key.{Key}
use Rattle.store_kinds.specs.declared.rules.Rule.{Rule}
use Rattle.store_kinds.proofs.Table.{no_rule, rules_cons, rules_end, rule-listed, all_rules-listed}
use Rattle.std.specs.Prelude.{Some}

module _ (has : ℕ → Bool) (a : ℕ) where
  -- a rule of another application, and one of this
  pub there-other : (r : Rule) → (r.application ≡ a → ⊥) → there has a r ≡ true
  unfolding there
  there-other r h = simp (ne_eqb _ _ h)

  pub there-own : (r : Rule) (b : Bool) → r.application ≡ a → b ≡ has r.kind → there has a r ≡ b
  unfolding there
  there-own r b e q = simp (eq-eqb _ _ e) (sym q)

  -- what is left of the table answers for the whole
  abbrev pub Left : ℕ → Type 0
  Left i = present_by has a ≡ all_rules (there has a) (drop i rules)

  module _ (i : ℕ) (q : Left i) where
    step : i < 6 → (t : Bool) → there has a (get_or rules i no_rule) ≡ t → present_by has a ≡ (t && all_rules (there has a) (drop (i + 1) rules))
    unfolding all_rules
    step h t e =
        q ∙ ap (all_rules (there has a)) (rules_cons i h) ∙ ap (λ (b : Bool). b && all_rules (there has a) (drop (i + 1) rules)) e

    pub left_next : i < 6 → there has a (get_or rules i no_rule) ≡ true → Left (i + 1)
    left_next h e = step h true e

    pub left_missing : i < 6 → there has a (get_or rules i no_rule) ≡ false → false ≡ present_by has a
    left_missing h e = sym (step h false e)

    pub left_end : 6 ≤ i → true ≡ present_by has a
    unfolding all_rules
    left_end h = sym (q ∙ ap (all_rules (there has a)) (rules_end i h))

-- a call with the kind of a rule can be made
pub kind_callable : (i : ℕ) → (get_or rules i no_rule).kind < 18446744073709551616
unfolding rules
kind_callable zero = lit< tt
kind_callable (suc zero) = lit< tt
kind_callable (suc (suc zero)) = lit< tt
kind_callable (suc (suc (suc zero))) = lit< tt
kind_callable (suc (suc (suc (suc zero)))) = lit< tt
kind_callable (suc (suc (suc (suc (suc zero))))) = lit< tt
kind_callable (suc (suc (suc (suc (suc (suc i)))))) = lit< tt

-- the record files of an application that is present are there
pub present_by-has : (has : ℕ → Bool) (key : Key) (r : Rule) → rule_of key ≡ Some r → present_by has r.application ≡ true → has r.kind ≡ true
unfolding present_by rule_of there
present_by-has has key r e p =
    let t : there has r.application r ≡ true = all_rules-listed (there has r.application) rules r (all_of_facts _ p).1.1.0 (rule-listed key r e) in
    simp (eq-eqb r.application r.application refl) at t

-- tests that say the same of each kind say the same of each application
module _ (has new : ℕ → Bool) (same : (k : ℕ) → new k ≡ has k) where
  all_rules-same : (a : ℕ) (rs : List Rule) → all_rules (there new a) rs ≡ all_rules (there has a) rs
  unfolding all_rules there
  all_rules-same a [] = refl
  all_rules-same a (r ∷ rs) = rw (same r.kind, all_rules-same a rs)

  pub present_by-same : (a : ℕ) → present_by new a ≡ present_by has a
  unfolding present_by
  present_by-same a = rw (all_rules-same a rules)
