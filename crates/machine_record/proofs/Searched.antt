-- Step 10 of SEARCH RECORD, from what the code finds to the definition. Read specs/SearchRecord.antt before. Exports
-- `search_reply-same`, and `search_status-none`, `-over`, `-found`.
use Prim.Native.Nat.{ℕ, ◌≤◌}
use mathlib.Core.Path.{◌≡◌, ap₂}
use mathlib.Core.Bool.{true, false}
use mathlib.Core.List.{List}
use native.Mathlib.Omega.{arith}
use lib.ListN.{length}
use lib.Dec.{leb}
use borrow.Author.Tests.{le-leb, lt-leb}
use Rattle.objects_templates.specs.declared.Search.{Search}
use Rattle.machine_apdu.specs.Status.{normal, no_match, wrong_length}
use Rattle.machine_reply_search.specs.Found.{reply}
use Rattle.machine_session.specs.Order.{in_order}
use Rattle.machine_record.specs.SearchRecord.{file_in, search_hits, search_reply, search_status}

module _ (rs : List (List ℕ)) (d : List ℕ) (q : Search) where
  pub search_reply-same : {file ns : List ℕ} → file ≡ file_in d q → ns ≡ search_hits rs d q → reply file ns ≡ search_reply rs d q
  unfolding search_reply
  search_reply-same f n = ap₂ reply f n

  -- which of the three answers
  module _ (ne : ℕ) where
    pub search_status-none : length (search_hits rs d q) ≡ 0 → no_match ≡ search_status rs d q ne
    unfolding search_status in_order
    search_status-none e = simp (lt-leb 1 (length (search_hits rs d q)) (omega arith))

    pub search_status_over : 1 ≤ length (search_hits rs d q) → leb (length (search_reply rs d q)) ne ≡ false → wrong_length ≡ search_status rs d q ne
    unfolding search_status in_order
    search_status_over h e = simp (le-leb 1 (length (search_hits rs d q)) h, e)

    pub search_status-found : 1 ≤ length (search_hits rs d q) → leb (length (search_reply rs d q)) ne ≡ true → normal ≡ search_status rs d q ne
    unfolding search_status in_order
    search_status-found h e = simp (le-leb 1 (length (search_hits rs d q)) h, e)
