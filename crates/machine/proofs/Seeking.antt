-- A search, from what the code finds to the outcome. Read machine_record's specs/SearchRecord.antt before. Exports `hits-listed`,
-- `reply-short`, `searched-refused`, `searched-found`.
use Prim.Native.Nat.{ℕ, ◌≤◌}
use mathlib.Core.Path.{◌≡◌, sym, ap, ap₂, ◌∙◌}
use mathlib.Core.Bool.{true}
use mathlib.Core.List.{List, []}
use native.Mathlib.Omega.{arith}
use lib.ListN.{length, take, get_or, replicate, length-replicate}
use borrow.Author.Tests.{eq-eqb, ne_eqb}
use Rattle.base.proofs.Runs.{part-sets}
use Rattle.store_image.specs.Image.{records_of, well_formed}
use Rattle.store_kinds.specs.declared.rules.Rule.{Rule}
use Rattle.store_files.specs.Loops.{Stored}
use Rattle.objects_templates.specs.declared.Search.{Search}
use Rattle.machine_session.specs.Session.{placed}
use Rattle.machine_session.specs.declared.Place.TheVariants.{OnRecord}
use Rattle.machine_session.specs.declared.Session.{Session}
use Rattle.machine_reply_search.specs.Found.{kept}
use Rattle.machine_reply_search.proofs.Matching.{hits-length}
use Rattle.machine_reply_search.proofs.Listing.{reply-whole, found_bound}
use Rattle.machine_record.specs.SearchRecord.{file_in, text_in, search_hits, search_reply, search_status}
use Rattle.machine_answer.specs.Outcome.{says}
use Rattle.machine.specs.Effects.{searched}
use Rattle.machine.proofs.Reaching.{records_few}

module _ (img d : List ℕ) (r : Rule) (q : Search) (o : well_formed img ≡ true) (f : Stored img r) where
  abbrev listed : List ℕ
  listed = search_hits (records_of img r.kind) d q

  hits_few : length listed ≤ 254
  unfolding search_hits
  hits_few =
      omega (arith, records_few img r o f, hits-length (records_of img r.kind) q.offset q.number (text_in d q) q.one)

  -- the numbers that are kept begin with those that are listed
  pub hits-listed : {n : ℕ} {numbers : List ℕ} → n ≡ length listed → numbers ≡ kept listed → take n numbers ≡ listed
  unfolding kept
  hits-listed e k =
      ap₂ take e k ∙ part-sets (replicate 254 0) 0 listed (omega (arith, hits_few, length-replicate {A = ℕ} 254 0))

  -- a reply is short enough for a response
  pub reply-short : length (file_in d q) ≤ 2 → length (search_reply (records_of img r.kind) d q) ≤ 2048
  unfolding search_reply
  reply-short small =
      let e = ap length (reply-whole (file_in d q) listed (omega (arith, small))) in
      omega (arith, e, found_bound (file_in d q) listed small hits_few)

-- which of the answers
module _ (img : List ℕ) (s : Session) (d buf : List ℕ) (r : Rule) (q : Search) (ne : ℕ) where
  abbrev rs : List (List ℕ)
  rs = records_of img r.kind

  pub searched-refused : {w : ℕ} → w ≡ search_status rs d q ne → (w ≡ 0x9000 → ⊥) → searched img s d buf r q ne ≡ says w [] s img buf
  unfolding searched
  searched-refused p z =
      simp (ne_eqb (search_status rs d q ne) 0x9000 (λ e. z (p ∙ e))) (ap (λ (x : ℕ). says x [] s img buf) (sym p))

  pub searched-found : 0x9000 ≡ search_status rs d q ne
      → searched img s d buf r q ne ≡ says 0x9000 (search_reply rs d q) (placed s (OnRecord r.id (get_or (search_hits rs d q) 0 0))) img buf
  unfolding searched
  searched-found p = simp (eq-eqb (search_status rs d q ne) 0x9000 (sym p))
