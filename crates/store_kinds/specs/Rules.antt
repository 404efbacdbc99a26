-- The rule table of the six record files, the kinds of all files, and what a section's body must be by its kind.
use Rattle.std.specs.Prelude.{ℕ, ◌+◌, Bool, true, not, ◌&&◌, ◌||◌, List, [], ◌∷◌, leb, ltb, eqb, Option, Some, None}
use Rattle.base.specs.Choice.{if_else, all_of}
use Rattle.store_records.specs.Body.{body_ok}
use Rattle.store_kinds.specs.Biometrics.{bio_ok}
use Rattle.store_kinds.specs.declared.rules.Key.{Key}
use Rattle.store_kinds.specs.declared.rules.Key.TheVariants.{Kind, Id, Short}
use Rattle.store_kinds.specs.declared.rules.Rule.{Rule}

-- the applications' numbers [K3]
abbrev pub travel : ℕ
travel = 1

-- [K3]
abbrev pub visa : ℕ
visa = 2

-- [K3]
abbrev pub biometrics : ℕ
biometrics = 3

-- a row of the rule table [K1]
abbrev pub rule : ℕ → ℕ → ℕ → ℕ → ℕ → ℕ → Rule
rule k a i s l m = record { kind = k; application = a; id = i; short = s; longest = l; most = m }

-- the rule table: kind, application, id, short id, longest record, most records [K1]
unfoldable pub rules : List Rule
rules =
    rule 0x0101 travel 0x0101 0x01 391 254
    ∷ rule 0x0102 travel 0x0102 0x02 391 254
    ∷ rule 0x011A travel 0x011A 0x1A 929 254
    ∷ rule 0x0203 visa 0x0103 0x03 512 254
    ∷ rule 0x021A visa 0x011A 0x1A 929 254
    ∷ rule 0x031A biometrics 0x011A 0x1A 929 64
    ∷ []

-- what a rule is looked up by: a kind; an application with an id, or with a short id [K4]
abbrev pub has_key : Key → Rule → Bool
has_key (Kind k) r = eqb r.kind k
has_key (Id a i) r = eqb r.application a && eqb r.id i
has_key (Short a s) r = eqb r.application a && eqb r.short s

-- the first rule of a table that a key finds [K4]
unfoldable pub first_rule : Key → List Rule → Option Rule
first_rule key [] = None
first_rule key (r ∷ rs) = if_else (has_key key r) (Some r) (first_rule key rs)

-- [K4]
unfoldable pub rule_of : Key → Option Rule
rule_of key = first_rule key rules

-- each rule of a table passes a test [I7]
unfoldable pub all_rules : (Rule → Bool) → List Rule → Bool
all_rules p [] = true
all_rules p (r ∷ rs) = p r && all_rules p rs

-- ---- kinds

-- the kinds of Biometrics 1 to 64 [K2]
unfoldable pub is_biometrics : ℕ → Bool
is_biometrics k = all_of (leb 0x0401 k ∷ leb k 0x0440 ∷ [])

-- the kind of Biometrics n [K2]
abbrev pub biometrics_kind : ℕ → ℕ
biometrics_kind n = 0x0400 + n

-- the application whose section kind k is: 01xx travel, 02xx visa, 031A and 04xx biometrics [I6]
unfoldable pub application_of : ℕ → ℕ
application_of k = if_else (ltb k 0x0200) travel (if_else (ltb k 0x0300) visa biometrics)

-- ---- an application that is present, where `has` says which kinds are there

-- the record file of rule r is there, or r is not one of application a [I7]
unfoldable pub there : (ℕ → Bool) → ℕ → Rule → Bool
there has a r = not (eqb r.application a) || has r.kind

-- all record files of application a are there [I7]
unfoldable pub present_by : (ℕ → Bool) → ℕ → Bool
present_by has a = all_of (leb travel a ∷ leb a biometrics ∷ all_rules (there has a) rules ∷ [])

-- ---- a body by its kind

-- a body by the rule of its kind, or where no rule has the kind, as a biometrics file's [I5]
abbrev pub kind_ok_by : Option Rule → ℕ → List ℕ → Bool
kind_ok_by (Some r) k xs = body_ok r.longest r.most xs
kind_ok_by None k xs = is_biometrics k && bio_ok xs

-- the kind is known, and the body is one of its kind [I5]
unfoldable pub kind_ok : ℕ → List ℕ → Bool
kind_ok k xs = kind_ok_by (rule_of (Kind k)) k xs
