-- The rule table: a look-up row by row finds what the definition finds, and each rule passes one computed test.
-- Read before: specs/Rules.antt. Exports: `rules_cons`, `rules_end` (the rows one by one), `Looking` with its laws (a look-up),
-- `rule-listed`, `rule_key` (what a key finds stands in the table and has the key), `all_rules-listed` (a test of all rules holds of each),
-- `Regular`, `listed_regular`, `rule_regular`.
use Prim.Native.Nat.{ℕ, ◌+◌, ◌/◌, ◌%◌, ◌≤◌, ◌<◌}
use mathlib.Core.Path.{◌≡◌, refl, sym, ap, ◌∙◌}
use mathlib.Core.Bool.{Bool, true, false}
use mathlib.Core.Logic.{⊎_elim}
use mathlib.Core.List.Memᴰ
use mathlib.Core.List.{List, [], ◌∷◌, Memᴰ}
use native.Mathlib.Omega.{arith}
use native.Mathlib.Numerals.{add-one}
use lib.ListN.{get_or, drop, drop_of_length-le}
use lib.Seq.{drop-cons}
use lib.Dec.{leb, eqb}
use borrow.Author.Tests.{leb-true, eqb-true}
use Rattle.base.specs.Choice.{if_else, all_of}
use Rattle.base.proofs.Cases.{by_cases, and_left, and_right, all_of_facts}
use Rattle.store_kinds.specs.Rules.{rule, rules, has_key, first_rule, rule_of, all_rules}
use Rattle.store_kinds.specs.declared.rules.Key.{Key}
use Rattle.store_kinds.specs.declared.rules.Key.TheVariants.{Kind, Id, Short}
use Rattle.store_kinds.specs.declared.rules.Rule.{Rule}
use Rattle.std.specs.Prelude.{Option, Some, None}

-- ---- a look-up: what is left of the table answers for the whole

-- what a read past the table's end would give
abbrev pub no_rule : Rule
no_rule = rule 0 0 0 0 0 0

pub rules_cons : (i : ℕ) → i < 6 → drop i rules ≡ get_or rules i no_rule ∷ drop (i + 1) rules
unfolding rules
rules_cons i h = rw add-one (drop-cons rules i no_rule h)

pub rules_end : (i : ℕ) → 6 ≤ i → drop i rules ≡ []
unfolding rules
rules_end i h = drop_of_length-le rules h

module _ (key : Key) where
  -- no rule of the first i has the key
  abbrev pub Looking : ℕ → Type 0
  Looking i = rule_of key ≡ first_rule key (drop i rules)

  pub looking_start : Looking 0
  unfolding rule_of
  looking_start = refl

  module _ (i : ℕ) (q : Looking i) where
    step : i < 6 → (t : Bool) → has_key key (get_or rules i no_rule) ≡ t
        → rule_of key ≡ if_else t (Some (get_or rules i no_rule)) (first_rule key (drop (i + 1) rules))
    unfolding first_rule
    step h t e =
        q ∙ ap (first_rule key) (rules_cons i h) ∙ ap (λ (b : Bool). if_else b (Some (get_or rules i no_rule)) (first_rule key (drop (i + 1) rules))) e

    pub looking_hit : i < 6 → has_key key (get_or rules i no_rule) ≡ true → Some (get_or rules i no_rule) ≡ rule_of key
    looking_hit h e = sym (step h true e)

    pub looking_next : i < 6 → has_key key (get_or rules i no_rule) ≡ false → Looking (i + 1)
    looking_next h e = step h false e

    pub looking_end : 6 ≤ i → None ≡ rule_of key
    unfolding first_rule
    looking_end h = sym (q ∙ ap (first_rule key) (rules_end i h))

-- ---- what holds of every rule of the table

-- what a key finds in a table stands there, and has the key
first_rule-found : (key : Key) (rs : List Rule) (r : Rule) → first_rule key rs ≡ Some r → Memᴰ r rs × (has_key key r ≡ true)
unfolding first_rule
first_rule-found key [] r e = absurd (let z : ◌≡◌ {A = ℕ} 0 1 = cc in omega arith)
first_rule-found key (q ∷ rs) r e =
    by_cases (has_key key q)
    (λ h. let f : Some q ≡ Some r = simp h at e in
    let g : r ≡ q = cc in (Memᴰ.head g, ap (has_key key) g ∙ h))
    (λ h. let f = first_rule-found key rs r (simp h at e) in (Memᴰ.tail f.0, f.1))

pub rule-listed : (key : Key) (r : Rule) → rule_of key ≡ Some r → Memᴰ r rules
unfolding rule_of
rule-listed key r e = (first_rule-found key rules r e).0

pub rule_key : (key : Key) (r : Rule) → rule_of key ≡ Some r → has_key key r ≡ true
unfolding rule_of
rule_key key r e = (first_rule-found key rules r e).1

-- a test that each rule of a table passes is passed by each that stands there
pub all_rules-listed : (p : Rule → Bool) (rs : List Rule) (r : Rule) → all_rules p rs ≡ true → Memᴰ r rs → p r ≡ true
unfolding all_rules
all_rules-listed p [] r a m = absurd (Memᴰ.not-nil m)
all_rules-listed p (q ∷ rs) r a m =
    ⊎_elim (λ e. ap p e ∙ and_left (p q) (all_rules p rs) a) (λ t. all_rules-listed p rs r (and_right (p q) (all_rules p rs) a) t) (Memᴰ.cases_cons m)

is_rule : Rule → Option Rule → Bool
is_rule r None = false
is_rule r (Some q) =
    all_of
    (eqb q.kind r.kind
    ∷ eqb q.application r.application
    ∷ eqb q.id r.id
    ∷ eqb q.short r.short
    ∷ eqb q.longest r.longest
    ∷ eqb q.most r.most
    ∷ [])

-- the table's rule: sizes within their bounds, an id of two bytes, the kind's high byte the application, the low three bits of the short id
-- not 000, and the kind, the id and the short id each find this rule and no other
regular : Rule → Bool
regular r =
    all_of
    (leb 1 r.longest
    ∷ leb r.longest 929
    ∷ leb r.most 254
    ∷ leb 1 r.application
    ∷ leb r.application 3
    ∷ eqb (r.kind / 256) r.application
    ∷ is_rule r (rule_of (Kind r.kind))
    ∷ is_rule r (rule_of (Id r.application r.id))
    ∷ is_rule r (rule_of (Short r.application r.short))
    ∷ leb r.id 0xFFFF
    ∷ leb 1 (r.short % 8)
    ∷ [])

pub record Regular (r : Rule) : Type 0 where
  pub some : 1 ≤ r.longest
  pub long : r.longest ≤ 929
  pub many : r.most ≤ 254
  pub first : 1 ≤ r.application
  pub last : r.application ≤ 3
  pub high : r.kind / 256 ≡ r.application
  pub by_kind : rule_of (Kind r.kind) ≡ Some r
  pub by_file_id : rule_of (Id r.application r.id) ≡ Some r
  pub by_short_id : rule_of (Short r.application r.short) ≡ Some r
  pub id_small : r.id ≤ 0xFFFF
  pub low_bits : 1 ≤ r.short % 8

is-rule : (r : Rule) (found : Option Rule) → is_rule r found ≡ true → found ≡ Some r
unfolding is_rule
is-rule r None e = absurd (let z : ◌≡◌ {A = ℕ} 0 1 = cc in omega arith)
is-rule r (Some q) e =
    let h = all_of_facts _ e in
    let k = eqb-true q.kind r.kind h.0 in
    let a = eqb-true q.application r.application h.1.0 in
    let i = eqb-true q.id r.id h.1.1.0 in
    let s = eqb-true q.short r.short h.1.1.1.0 in
    let l = eqb-true q.longest r.longest h.1.1.1.1.0 in
    let m = eqb-true q.most r.most h.1.1.1.1.1.0 in
    let z : rule q.kind q.application q.id q.short q.longest q.most ≡ rule r.kind r.application r.id r.short r.longest r.most = rw (k, a, i, s, l, m) in
    ap Some z

-- whatever stands in the table is regular: one test, computed over the whole of it
pub listed_regular : (r : Rule) → Memᴰ r rules → Regular r
unfolding regular
listed_regular r m =
    let t : regular r ≡ true = all_rules-listed regular rules r whole m in
    let h = all_of_facts _ t in
    record {
      some = leb-true _ _ h.0;
      long = leb-true _ _ h.1.0;
      many = leb-true _ _ h.1.1.0;
      first = leb-true _ _ h.1.1.1.0;
      last = leb-true _ _ h.1.1.1.1.0;
      high = eqb-true _ _ h.1.1.1.1.1.0;
      by_kind = is-rule r _ h.1.1.1.1.1.1.0;
      by_file_id = is-rule r _ h.1.1.1.1.1.1.1.0;
      by_short_id = is-rule r _ h.1.1.1.1.1.1.1.1.0;
      id_small = leb-true _ _ h.1.1.1.1.1.1.1.1.1.0;
      low_bits = leb-true _ _ h.1.1.1.1.1.1.1.1.1.1.0;
    }
  where
    whole : all_rules regular rules ≡ true
    whole = unfold all_rules regular is_rule rule_of first_rule rules all_of in refl

-- and so is whatever a key finds
pub rule_regular : (key : Key) (r : Rule) → rule_of key ≡ Some r → Regular r
rule_regular key r e = listed_regular r (rule-listed key r e)
