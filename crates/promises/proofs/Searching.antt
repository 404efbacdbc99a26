-- SEARCH RECORD names exactly the records of a file's history that match. Read ../specs/Promises.antt, section 3, before. Exports
-- `leaves-none_out`, and what is listed and replied (`numbers`, `hits_are`, `reply-is`, `file-short`).
use Prim.Native.Nat.{ℕ, ◌+◌, ◌-◌, ◌≤◌}
use mathlib.Core.Path.{◌≡◌, refl, sym, ap, ap₂, subst, ◌∙◌}
use mathlib.Core.Bool.{Bool, true, false}
use mathlib.Core.Logic.{◌⊎◌, inl, inr, ⊎_elim}
use mathlib.Core.List.{List, [], ◌∷◌, ◌++◌, append_assoc}
use mathlib.Core.List.Memᴰ
use mathlib.Core.List.{Memᴰ}
use native.Mathlib.Omega.{arith}
use lib.ListN.{length, take, drop, get_or, length-take, length-drop, length-append, take-append-drop}
use lib.Seq.{drop-append-le, take-append-add}
use lib.Dec.{leb, ltb, eqb}
use borrow.Author.Tests.{eqb-true, eqb-false, ltb-true, ltb-false, leb-true, le-leb}
use Rattle.base.specs.Choice.{if_else}
use Rattle.base.proofs.Cases.{by_cases, if_else_ind, false-true}
use Rattle.store_records.specs.Body.{nth}
use Rattle.store_image.specs.Image.{well_formed, records_of}
use Rattle.store_kinds.specs.declared.rules.Rule.{Rule}
use Rattle.machine_window.specs.Window.{occurs_in, window_of, matches_in}
use Rattle.machine_window.proofs.Occurring.{occurs_sound, occurs_complete}
use Rattle.objects_writer.specs.Number.{big}
use Rattle.objects_templates.specs.Search.{SearchFields, Searches}
use Rattle.objects_templates.specs.declared.Search.{Search}
use Rattle.store_files.specs.Loops.{Stored}
use Rattle.machine_session.specs.Session.{placed}
use Rattle.machine_session.specs.declared.Session.{Session}
use Rattle.machine_session.specs.declared.Place.TheVariants.{OnRecord}
use Rattle.machine_session.specs.declared.Access.TheVariants.{Read}
use Rattle.machine_session.proofs.Steps.{RecordResolved, RecordOk, resolve_record-well_formed}
use Rattle.machine_record.specs.SearchRecord.{file_in, search_named, search_hits, search_reply}
use Rattle.machine_record.proofs.Searched.{search_status-none, search_status_over, search_status-found}
use Rattle.machine_dispatch.specs.Decide.{data_of}
use Rattle.machine_reply_search.specs.Found.{matching, hits, found_data, reply}
use Rattle.machine_reply_search.proofs.Listing.{reply-whole}
use Rattle.machine_reply_search.proofs.Matching.{Up, matching_sound, matching_complete, matching_ascends, first_match, none-hits, hits-none}
use Rattle.machine_answer.specs.Outcome.{Outcome, says}
use Rattle.machine.specs.Effects.{searched, done}
use Rattle.machine.specs.Step.{step}
use Rattle.machine.proofs.Seeking.{reply-short, searched-refused, searched-found}
use Rattle.promises.specs.Calls.{after, history}
use Rattle.promises.specs.Matches.{Stands, Matches}
use Rattle.promises.specs.Promises.{data_in, Ascending, Names, LeavesNoneOut}
use Rattle.promises.proofs.Answering.{data_said, taken_accepted, accepted_room}
use Rattle.promises.proofs.Deciding.{searching_resolved, search_reached, reached-outcome}
use Rattle.promises.proofs.Growing.{calls_held}
use Rattle.promises.proofs.Reading.{stored-records}
use Rattle.std.specs.Prelude.{Ok}

-- ---- the string stands in the record, from the offset on and within the number, exactly where the test of a match says so

stands_tested : (r t : List ℕ) (o m : ℕ) → Stands r t o m → occurs_in t (window_of r o m) ≡ true
unfolding window_of
stands_tested r t o m h = if_else_ind (λ (w : List ℕ). occurs_in t w ≡ true) (eqb m 0) (λ _. whole) (λ n. ⊎_elim (λ z. absurd (eqb-false m 0 n z)) cut h.within)
  where
    x : List ℕ
    x = drop o h.before

    dropped : drop o r ≡ x ++ (t ++ h.behind)
    dropped = ap (drop o) h.is ∙ drop-append-le o h.before (t ++ h.behind) h.from

    whole : occurs_in t (drop o r) ≡ true
    whole = ap (occurs_in t) dropped ∙ occurs_complete t x h.behind

    cut : length h.before + length t ≤ o + m → occurs_in t (take m (drop o r)) ≡ true
    cut l =
        let k : ℕ = m - (length x + length t) in
        let e : m ≡ length x + (length t + k) = omega (arith, length-drop o h.before, h.from, l) in
        ap (occurs_in t)
        (ap₂ (λ (n : ℕ) (w : List ℕ). take n w) e dropped
        ∙ take-append-add x (t ++ h.behind) (length t + k)
        ∙ ap (λ (w : List ℕ). x ++ w) (take-append-add t h.behind k))
        ∙ occurs_complete t x (take k h.behind)

tested_stands : (r t : List ℕ) (o m : ℕ) → 1 ≤ length t → occurs_in t (window_of r o m) ≡ true → Stands r t o m
unfolding window_of
tested_stands r t o m l =
    if_else_ind (λ (w : List ℕ). occurs_in t w ≡ true → Stands r t o m) (eqb m 0)
    (λ z e. let h = occurs_sound t (drop o r) e in placed h.before h.after h.is (inl (eqb-true m 0 z)))
    (λ _ e. let h = occurs_sound t (take m (drop o r)) e in
    placed h.before (h.after ++ drop m (drop o r))
    (sym (take-append-drop m (drop o r)) ∙ ap (λ (w : List ℕ). w ++ drop m (drop o r)) h.is
    ∙ append_assoc h.before (t ++ h.after) (drop m (drop o r)) ∙ ap (λ (w : List ℕ). h.before ++ w) (append_assoc t h.after (drop m (drop o r))))
    (inr (let a = ap length h.is in let b = length-append h.before (t ++ h.after) in let c = length-append t h.after in
    omega (arith, a, b, c, length-take m (drop o r)))))
  where
    placed : (x c : List ℕ) → drop o r ≡ x ++ (t ++ c) → (m ≡ 0) ⊎ (length x + length t ≤ m) → Stands r t o m
    placed x c e w =
        let a = ap length e in
        let n : length (take o r) ≡ o = omega (arith, a, length-append x (t ++ c), length-append t c, length-drop o r, length-take o r) in
        let k : length (take o r ++ x) ≡ o + length x = length-append (take o r) x ∙ ap (λ (y : ℕ). y + length x) n in
        record {
          before = take o r ++ x;
          behind = c;
          is = sym (take-append-drop o r) ∙ ap (λ (y : List ℕ). take o r ++ y) e ∙ sym (append_assoc (take o r) x (t ++ c));
          from = omega (arith, k);
          within = ⊎_elim (λ z. inl z) (λ z. inr (omega (arith, k, z))) w;
        }

-- ---- the numbers that are listed

first_of : (l : List ℕ) (n : ℕ) → Memᴰ n (take 1 l) → Memᴰ n l
first_of [] n m = m
first_of (x ∷ l) n m = ⊎_elim (λ e. Memᴰ.head e) (λ t. absurd (Memᴰ.not-nil t)) (Memᴰ.cases_cons m)

up_ascending : (b : ℕ) (l : List ℕ) → Up b l → Ascending b l
up_ascending b [] u = tt
up_ascending b (x ∷ l) u = (u.0, up_ascending x l u.1)

first-ascending : (b : ℕ) (l : List ℕ) → Up b l → Ascending b (take 1 l)
first-ascending b [] u = tt
first-ascending b (x ∷ l) u = (u.0, tt)

module _ (rs : List (List ℕ)) (x : SearchFields) (some : 1 ≤ length x.text) where
  abbrev offset : ℕ
  offset = big x.offset

  abbrev number : ℕ
  number = big x.number

  abbrev found : List ℕ
  found = matching rs offset number x.text

  abbrev one : Bool
  one = eqb x.mode 0x30

  abbrev pub numbers : List ℕ
  numbers = hits rs offset number x.text one

  matches : (n : ℕ) → Memᴰ n found → Matches rs x n
  unfolding matches_in
  matches n m =
      let s = matching_sound rs offset number x.text n m in
      record { low = s.0; high = s.1; stands = tested_stands (nth rs n) x.text offset number some s.2 }

  tested : (n : ℕ) → Matches rs x n → matches_in (nth rs n) offset number x.text ≡ true
  unfolding matches_in
  tested n h = stands_tested (nth rs n) x.text offset number h.stands

  found_all : (n : ℕ) → Matches rs x n → Memᴰ n found
  found_all n h = matching_complete rs offset number x.text n h.low h.high (tested n h)

  abbrev all_listed : one ≡ false → numbers ≡ found
  all_listed e = unfold hits in ap (λ (b : Bool). if_else b (take 1 found) found) e

  abbrev first-listed : one ≡ true → numbers ≡ take 1 found
  first-listed e = unfold hits in ap (λ (b : Bool). if_else b (take 1 found) found) e

  ascends : Ascending 0 numbers
  ascends =
      let u = matching_ascends rs offset number x.text in
      by_cases one
      (λ e. subst (Ascending 0) (sym (first-listed e)) (first-ascending 0 found u))
      (λ e. subst (Ascending 0) (sym (all_listed e)) (up_ascending 0 found u))

  listed_sound : (n : ℕ) → Memᴰ n numbers → Matches rs x n
  listed_sound n m =
      by_cases one
      (λ e. matches n (first_of found n (subst (λ (l : List ℕ). Memᴰ n l) (first-listed e) m)))
      (λ e. matches n (subst (λ (l : List ℕ). Memᴰ n l) (all_listed e) m))

  listed_complete : x.mode ≡ 0x00 → (n : ℕ) → Matches rs x n → Memᴰ n numbers
  listed_complete e n h = subst (λ (l : List ℕ). Memᴰ n l) (sym (all_listed (ap (λ (k : ℕ). eqb k 0x30) e))) (found_all n h)

  first : x.mode ≡ 0x30 → (n : ℕ) → Matches rs x n → (length numbers ≡ 1) × (get_or numbers 0 0 ≤ n)
  first e n h = go found refl (found_all n h)
    where
      go : (l : List ℕ) → found ≡ l → Memᴰ n l → (length numbers ≡ 1) × (get_or numbers 0 0 ≤ n)
      go [] z m = absurd (Memᴰ.not-nil m)
      go (y ∷ l) z m =
          let w : numbers ≡ y ∷ [] = first-listed (ap (λ (k : ℕ). eqb k 0x30) e) ∙ ap (take 1) z in
          let f = first_match rs offset number x.text y l z in
          let least : y ≤ n = by_cases (ltb n y) (λ t. false-true (sym (f.3 n h.low (ltb-true n y t)) ∙ tested n h)) (λ t. ltb-false n y t) in
          (ap length w, subst (λ (k : List ℕ). get_or k 0 0 ≤ n) (sym w) least)

  -- some are listed where one matches, and none where none does
  listed-some : (n : ℕ) → Matches rs x n → 1 ≤ length numbers
  listed-some n h =
      by_cases (ltb 0 (length numbers))
      (λ t. ltb-true 0 (length numbers) t)
      (λ t. let z : length numbers ≡ 0 = (let k = ltb-false 0 (length numbers) t in omega arith) in
      absurd (Memᴰ.not-nil (subst (λ (l : List ℕ). Memᴰ n l) (hits-none rs offset number x.text one z) (found_all n h))))

  listed-none : ((n : ℕ) → Matches rs x n → ⊥) → length numbers ≡ 0
  listed-none f = ap length (none-hits rs offset number x.text one (empty found (λ n m. f n (matches n m))))
    where
      empty : (l : List ℕ) → ((n : ℕ) → Memᴰ n l → ⊥) → l ≡ []
      empty [] g = refl
      empty (x ∷ l) g = absurd (g x (Memᴰ.head refl))

-- ---- the answer

module _ (img : List ℕ) (s : Session) (d buf : List ℕ) (r : Rule) (q : Search) (ne : ℕ) (x : SearchFields) (w : Searches d q x) (o : well_formed img ≡ true) (room : 2050 ≤ length buf) (h : Stored img r) where
  abbrev here : List (List ℕ)
  here = records_of img r.kind

  abbrev some : 1 ≤ length x.text
  some = w.sized.text_size

  abbrev out : Outcome
  out = searched img s d buf r q ne

  pub file-short : length (file_in d q) ≤ 2
  file-short = let l = ap length w.file_placed.is in omega (arith, w.sized.file_size.1)

  -- what is listed and replied, in the words of the fields
  pub hits_are : search_hits here d q ≡ numbers here x some
  unfolding search_hits
  hits_are = cc

  pub reply-is : search_reply here d q ≡ found_data x.file (numbers here x some)
  unfolding search_reply
  reply-is = reply-whole (file_in d q) (search_hits here d q) (omega (arith, file-short)) ∙ ap₂ found_data w.file_placed.is hits_are

  -- which of the three answers
  fits : (b : Bool) → leb (length (found_data x.file (numbers here x some))) ne ≡ b → leb (length (search_reply here d q)) ne ≡ b
  fits b e = ap (λ (l : List ℕ). leb (length l) ne) reply-is ∙ e

  replied : 1 ≤ length (numbers here x some) → length (found_data x.file (numbers here x some)) ≤ ne → (out.answer.status ≡ 0x9000) × (data_in out ≡ found_data x.file (numbers here x some))
  unfolding says
  replied l f =
      let e = searched-found img s d buf r q ne (search_status-found here d q ne (rw hits_are l) (fits true (le-leb _ _ f))) in (
        ap (λ (y : Outcome). y.answer.status) e,
        ap data_in e
            ∙ data_said 0x9000 (search_reply here d q) (placed s (OnRecord r.id (get_or (search_hits here d q) 0 0))) img buf (reply-short img d r q o h file-short) room
            ∙ reply-is,
      )

  nothing : length (numbers here x some) ≡ 0 → (out.answer.status ≡ 0x6282) × (out.answer.length ≡ 2)
  unfolding says
  nothing z =
      let e = searched-refused img s d buf r q ne (search_status-none here d q ne (ap length hits_are ∙ z)) (λ y. omega (arith, y)) in
      (ap (λ (y : Outcome). y.answer.status) e, ap (λ (y : Outcome). y.answer.length) e)

  -- where some are listed the status is another
  something : 1 ≤ length (numbers here x some) → out.answer.status ≡ 0x6282 → ⊥
  unfolding says
  something l t =
      by_cases (leb (length (found_data x.file (numbers here x some))) ne)
      (λ b. let e = (replied l (leb-true _ _ b)).0 in omega (arith, e, t))
      (λ b. let e = ap (λ (y : Outcome). y.answer.status) (searched-refused img s d buf r q ne (search_status_over here d q ne (rw hits_are l) (fits false b)) (λ y. omega (arith, y))) in omega (arith, e, t))

  names-here : Names here x ne out
  names-here =
      record {
        numbers = numbers here x some;
        ascending = ascends here x some;
        listed_sound = listed_sound here x some;
        listed_complete = listed_complete here x some;
        first = first here x some;
        reply = λ n m f. replied (listed-some here x some n m) f;
        none_complete = λ f. nothing (listed-none here x some f);
        none_sound = λ t n m. something (listed-some here x some n m) t;
      }

pub leaves-none_out : LeavesNoneOut
leaves-none_out img calls s ch cmd buf f x r o t z =
    let now = after img calls in
    let h = calls_held img calls o in
    let a = taken_accepted now s ch cmd buf t in
    let c = search_reached now s ch cmd f x z.command in
    let q = c.query in
    let i = searching_resolved now s ch cmd buf f x r a z in
    let g : RecordResolved now s Read r = subst (RecordOk now s Read) i (resolve_record-well_formed now s Read (search_named x.file)) in
    let u : step now s ch cmd buf ≡ searched now s (data_of ch cmd) buf r q f.ne = reached-outcome now s ch cmd buf f x c (Ok r) a i ∙ (unfold done in refl) in
    let e : records_of now r.kind ≡ history r.kind img calls = h.records r.kind (stored-records now r g.file.ok) in
    subst (Names (history r.kind img calls) x f.ne) (sym u)
    (subst (λ (rs : List (List ℕ)). Names rs x f.ne (searched now s (data_of ch cmd) buf r q f.ne)) e
    (names-here now s (data_of ch cmd) buf r q f.ne x c.searches h.well (accepted_room now s ch buf a) g.file.ok))
