-- What is known of a record file that stands in a well-formed image. Read store_records' specs/Body.antt before. Exports `records-listed`
-- and `records-first`, which tie the records of a body to those of the image, and `records_few`.
use Prim.Native.Nat.{ℕ, ◌≤◌}
use mathlib.Core.Path.{◌≡◌, refl, ap, ◌∙◌}
use mathlib.Core.Bool.{true}
use mathlib.Core.List.{List}
use native.Mathlib.Omega.{arith}
use lib.ListN.{length, take, length-take}
use Rattle.store_records.specs.Body.{records, body_ok}
use Rattle.store_image.specs.Image.{body, records_of, well_formed}
use Rattle.store_kinds.specs.declared.rules.Key.TheVariants.{Kind}
use Rattle.store_kinds.specs.declared.rules.Rule.{Rule}
use Rattle.store_files.specs.Loops.{Stored}
use Rattle.store_image.proofs.Laws.{record_file, rule_regular, records-take}

module _ (img : List ℕ) (r : Rule) (o : well_formed img ≡ true) (f : Stored img r) where
  body-well_formed : body_ok r.longest r.most (body img r.kind) ≡ true
  body-well_formed = record_file img r.kind r o f.by_kind f.stands

  -- the records of the body are the file's records
  pub records-listed : {xs : List ℕ} → xs ≡ body img r.kind → records xs ≡ records_of img r.kind
  unfolding records_of
  records-listed e = ap records e

  -- and the first 254 are all of them
  pub records-first : {xs : List ℕ} → xs ≡ body img r.kind → take 254 (records xs) ≡ records_of img r.kind
  unfolding records_of
  records-first e =
      ap (λ (l : List ℕ). take 254 (records l)) e
      ∙ records-take r.longest r.most (body img r.kind) body-well_formed 254 (rule_regular (Kind r.kind) r f.by_kind).many

  pub records_few : length (records_of img r.kind) ≤ 254
  records_few =
      let e : length (take 254 (records (body img r.kind))) ≡ length (records_of img r.kind) = ap length (records-first refl) in
      omega (arith, length-take 254 (records (body img r.kind)))
