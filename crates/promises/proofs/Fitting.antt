-- A session that fits an image: it goes on to fit what calls make of the image, and so does each session that a command answers. Read
-- ../specs/Promises.antt, section 4, before. Exports `answer-fits`, `stays_accepted`, `opening-fits`.
use Prim.Native.Nat.{ℕ, ◌+◌, ◌-◌, ◌≤◌}
use mathlib.Core.Path.{◌≡◌, refl, sym, ap, ◌∙◌}
use mathlib.Core.Bool.{Bool, true, false, ◌&&◌}
use mathlib.Core.List.{List, [], ◌∷◌, ◌++◌}
use native.Mathlib.Omega.{arith}
use lib.ListN.{length, get_or, length-append}
use lib.Dec.{leb, eqb}
use borrow.Author.Tests.{eqb-true, leb-true, le-leb, le-ltb}
use Rattle.machine_chain.specs.Chain.{Chain, so_far}
use Rattle.base.specs.Choice.{all_of}
use Rattle.base.specs.Bytes.{part}
use Rattle.base.proofs.Cases.{by_cases, if_else_ind, false-true, and_left, and_right, all_of_facts, all_of_accepted}
use Rattle.store_records.specs.Body.{count}
use Rattle.store_kinds.specs.Rules.{biometrics, rules, rule_of, all_rules, there, present_by, is_biometrics, biometrics_kind}
use Rattle.store_kinds.specs.declared.rules.Key.TheVariants.{Kind, Id}
use Rattle.store_kinds.specs.declared.rules.Rule.{Rule}
use Rattle.store_image.specs.Image.{has, present, body, well_formed, records_of, append_to}
use Rattle.store_image.proofs.Laws.{biometrics_unruled, records-count, append-list}
use Rattle.objects_templates.specs.declared.Search.{Search}
use Rattle.machine_rights.proofs.Laws.{effective-cleared}
use Rattle.store_files.specs.Files.{ruled, biometrics_by_id, by_id, id_of}
use Rattle.store_files.specs.declared.Transparent.TheVariants.{Biometrics}
use Rattle.store_files.specs.declared.File.{File}
use Rattle.store_files.specs.declared.File.TheVariants.{RecordFile, TransparentFile}
use Rattle.store_files.proofs.Meant.{LookupOk, by_id_well_formed}
use Rattle.machine_session.specs.Session.{opened, placed, is_current, set_file, application_fits, is_known, is_record_of, record_fits, place_fits, session_fits}
use Rattle.machine_session.specs.Verdict.{verdict, verdict_number}
use Rattle.machine_session.specs.declared.Session.{Session}
use Rattle.machine_session.specs.declared.Place.{Place}
use Rattle.machine_session.specs.declared.Place.TheVariants.{Nowhere, OnFile, OnRecord}
use Rattle.machine_session.proofs.Steps.{in_order-each, Resolved}
use Rattle.machine_apdu.specs.Shape.{shape_of}
use Rattle.machine_apdu.specs.declared.Frame.{Frame}
use Rattle.machine_record.specs.SearchRecord.{text_in, search_hits, search_status}
use Rattle.machine_dispatch.specs.Decide.{decide, data_by, data_of, chain_on, chain_by, chain_behind, whole_frame}
use Rattle.machine_action.specs.declared.Action.{Action}
use Rattle.machine_action.specs.declared.Action.TheVariants.{SelectApplication, SelectFile, ReadBinary, UpdateBinary, Activate, AppendRecord, ReadRecord, SearchRecord, Report, ReadBinaryOdd}
use Rattle.machine_dispatch.proofs.Allowing.{From, FromShape, decide-from, FromCourse}
use Rattle.machine_reply_search.specs.Found.{matching, hits}
use Rattle.machine_reply_search.proofs.Matching.{first_match, hits-first, none-hits}
use Rattle.machine_answer.specs.Outcome.{Outcome, says}
use Rattle.machine.specs.Effects.{searched, done}
use Rattle.machine.specs.Step.{verdict_on, step_by, step, opening, chain_after_by, chain_after}
use Rattle.base.proofs.Parts.{length_part}
use Rattle.machine_apdu.specs.Status.{normal, wrong_length}
use Rattle.machine_apdu.proofs.Laws.{shape_facts}
use Rattle.machine_action.specs.Tests.{lc_only}
use Rattle.machine_link.specs.Parameters.{parameters_fit}
use Rattle.machine_link.specs.Link.{turn, chain_fits}
use Rattle.machine_link.specs.declared.Course.{Course}
use Rattle.machine_link.specs.declared.Course.TheVariants.{Extends, Goes}
use Rattle.machine_link.proofs.Turning.{Turned, joined, turn-told, extending_few}
use Rattle.promises.specs.Calls.{Call, Command, after_call, after, history}
use Rattle.promises.specs.Promises.{StaysAccepted, AnswerFits, OpeningFits}
use Rattle.promises.proofs.Growing.{accepts, call_grown, calls_held}
use Rattle.std.specs.Prelude.{Option, Some, None, Result, Ok, Err}
use Rattle.machine_session.specs.declared.Refusal.{Refusal}

-- ---- an image that has lost no file and no record

record Keeps (img new : List ℕ) : Type 0 where
  pub files : (k : ℕ) → has img k ≡ true → has new k ≡ true
  pub counts : (k : ℕ) → is_biometrics k ≡ false → count (body img k) ≤ count (body new k)

list_count : (img : List ℕ) (k : ℕ) → length (records_of img k) ≡ count (body img k)
unfolding records_of
list_count img k = records-count (body img k)

more_records : (img new : List ℕ) (k : ℕ) (more : List (List ℕ)) → records_of new k ≡ records_of img k ++ more → count (body img k) ≤ count (body new k)
more_records img new k more e =
    let l : length (records_of new k) ≡ length (records_of img k ++ more) = ap length e in
    omega (arith, list_count img k, list_count new k, length-append (records_of img k) more)

module _ {img new : List ℕ} (k : Keeps img new) where
  still-there : (a : ℕ) (r : Rule) → there (has img) a r ≡ true → there (has new) a r ≡ true
  unfolding there
  still-there a r e = by_cases (eqb r.application a) (λ y. simp y (k.files r.kind (simp y at e))) (λ n. simp n)

  still-all : (a : ℕ) (rs : List Rule) → all_rules (there (has img) a) rs ≡ true → all_rules (there (has new) a) rs ≡ true
  unfolding all_rules
  still-all a [] e = e
  still-all a (r ∷ rs) e =
      simp (still-there a r (and_left _ _ e)) (still-all a rs (and_right (there (has img) a r) (all_rules (there (has img) a) rs) e))

  same-application : (a : ℕ) → application_fits img a ≡ true → application_fits new a ≡ true
  unfolding application_fits present present_by
  same-application a e =
      by_cases (eqb a 0)
      (λ y. simp y)
      (λ n. let h = all_of_facts _ (simp n at e) in simp n (all_of_accepted _ (h.0, (h.1.0, (still-all a rules h.1.1.0, tt)))))

  -- a file that was there is what its id means still
  same-biometrics : (a i : ℕ) → is_known (biometrics_by_id img a i) ≡ true → biometrics_by_id new a i ≡ biometrics_by_id img a i
  unfolding biometrics_by_id
  same-biometrics a i t =
      by_cases (all_of (tests img))
      (λ y. let h = all_of_facts (tests img) y in
      let z : all_of (tests new) ≡ true = all_of_accepted (tests new) (h.0, (h.1.0, (h.1.1.0, (k.files (biometrics_kind (i - 0x0200)) h.1.1.1.0, tt)))) in simp (y, z))
      (λ n. false-true (simp n at t))
    where
      tests : List ℕ → List Bool
      tests im = eqb a biometrics ∷ leb 0x0201 i ∷ leb i 0x0240 ∷ has im (biometrics_kind (i - 0x0200)) ∷ []

  same-file : (a i : ℕ) → is_known (by_id img a i) ≡ true → by_id new a i ≡ by_id img a i
  unfolding by_id
  same-file a i e = by_cases (eqb a 0) (λ y. simp y) (λ n. simp n (go (rule_of (Id a i)) (simp n at e)))
    where
      go : (x : Option Rule) → is_known (ruled img x (biometrics_by_id img a i)) ≡ true → ruled new x (biometrics_by_id new a i) ≡ ruled img x (biometrics_by_id img a i)
      go (Some r) t =
          by_cases (has img r.kind)
          (λ y. simp (y, k.files r.kind y))
          (λ n. false-true (simp n at t))
      go None t = same-biometrics a i t

  -- a record file's kind is no biometrics file's
  no-biometrics : (r : Rule) → rule_of (Kind r.kind) ≡ Some r → is_biometrics r.kind ≡ false
  no-biometrics r e =
      by_cases (is_biometrics r.kind)
      (λ b. absurd (let z : None ≡ Some r = sym (biometrics_unruled r.kind b) ∙ e in
      let y : ◌≡◌ {A = ℕ} 0 1 = cc in omega arith))
      (λ b. b)

  same-record : (l : Option File) (n : ℕ) → LookupOk img l → record_fits img l n ≡ true → record_fits new l n ≡ true
  same-record None n o e = e
  same-record (Some (TransparentFile t)) n o e = e
  same-record (Some (RecordFile r)) n o e =
      let h = all_of_facts (leb 1 n ∷ leb n (count (body img r.kind)) ∷ []) e in
      let c : n ≤ count (body new r.kind) = omega (arith, leb-true n _ h.1.0, k.counts r.kind (no-biometrics r o.by_kind)) in
      all_of_accepted _ (h.0, (le-leb _ _ c, tt))

  record-known : (l : Option File) (n : ℕ) → record_fits img l n ≡ true → is_known l ≡ true
  record-known None n e = e
  record-known (Some f) n e = refl

  same_place : (a : ℕ) (p : Place) → place_fits img a p ≡ true → place_fits new a p ≡ true
  unfolding place_fits
  same_place a Nowhere e = e
  same_place a (OnFile i) e = ap is_known (same-file a i e) ∙ e
  same_place a (OnRecord i n) e =
      ap (λ (l : Option File). record_fits new l n) (same-file a i (record-known (by_id img a i) n e)) ∙ same-record (by_id img a i) n (by_id_well_formed img a i) e

  fits_on : (s : Session) → session_fits img s ≡ true → session_fits new s ≡ true
  unfolding session_fits
  fits_on s e =
      let h = all_of_facts _ e in
      all_of_accepted _ (same-application s.application h.0, (same_place s.application s.place h.1.0, (h.1.1.0, tt)))

-- ---- sessions that a command answers

module _ (img : List ℕ) (s : Session) (e : session_fits img s ≡ true) where
  at_place : (p : Place) → place_fits img s.application p ≡ true → session_fits img (placed s p) ≡ true
  unfolding session_fits
  at_place p h = let w = all_of_facts _ e in all_of_accepted _ (w.0, (h, (w.1.1.0, tt)))

  at-file : (f : File) → Resolved img s f → session_fits img (placed s (OnFile (id_of f))) ≡ true
  unfolding place_fits
  at-file f r = at_place (OnFile (id_of f)) (ap is_known r.own)

  at_set : (f : File) → Resolved img s f → session_fits img (set_file s f) ≡ true
  unfolding set_file
  at_set f r = if_else_ind (λ (x : Session). session_fits img x ≡ true) (is_current s.place (id_of f)) (λ z. e) (λ z. at-file f r)

  at-record : (r : Rule) (n : ℕ) → by_id img s.application r.id ≡ Some (RecordFile r) → is_record_of img r n ≡ true → session_fits img (placed s (OnRecord r.id n)) ≡ true
  unfolding place_fits
  at-record r n o h = at_place (OnRecord r.id n) (ap (λ (l : Option File). record_fits img l n) o ∙ h)

  -- the first that a search names is a record of the file
  first-hit : (d : List ℕ) (r : Rule) (q : Search) → let H = search_hits (records_of img r.kind) d q in 1 ≤ length H → is_record_of img r (get_or H 0 0) ≡ true
  unfolding search_hits
  first-hit d r q l = go (matching rs q.offset q.number text) refl
    where
      rs : List (List ℕ)
      rs = records_of img r.kind

      text : List ℕ
      text = text_in d q

      first : ℕ
      first = get_or (hits rs q.offset q.number text q.one) 0 0

      go : (m : List ℕ) → matching rs q.offset q.number text ≡ m → is_record_of img r first ≡ true
      go [] z = absurd (omega (arith, l, ap length (none-hits rs q.offset q.number text q.one z)))
      go (x ∷ m) z =
          let f : first ≡ x = hits-first rs q.offset q.number text q.one ∙ ap (λ (i : List ℕ). get_or i 0 0) z in
          let b = first_match rs q.offset q.number text x m z in
          all_of_accepted _ (le-leb 1 first (omega (arith, f, b.0)), (le-leb first (count (body img r.kind)) (omega (arith, f, b.1, list_count img r.kind)), tt))

  -- a search that answers 9000 lists some
  searched-some : (rs : List (List ℕ)) (d : List ℕ) (q : Search) (ne : ℕ) → search_status rs d q ne ≡ 0x9000 → 1 ≤ length (search_hits rs d q)
  unfolding search_status
  searched-some rs d q ne z =
      in_order-each (λ (w : ℕ). w ≡ 0x9000 → 1 ≤ length (search_hits rs d q)) _ _ ((λ y. absurd (omega (arith, y))), ((λ y. absurd (omega (arith, y))), tt)) (λ p y. leb-true _ _ p.0) z

  searched-fits : (d buf : List ℕ) (r : Rule) (q : Search) (ne : ℕ) → Resolved img s (RecordFile r) → session_fits img (searched img s d buf r q ne).answer.session ≡ true
  unfolding searched says id_of
  searched-fits d buf r q ne f =
      let rs = records_of img r.kind in
      if_else_ind (λ (o : Outcome). session_fits img o.answer.session ≡ true) (eqb (search_status rs d q ne) 0x9000)
      (λ y. at-record r _ f.own (first-hit d r q (searched-some rs d q ne (eqb-true _ _ y))))
      (λ n. e)

module _ (img : List ℕ) (s : Session) (ch : Chain) (cmd buf : List ℕ) (o : well_formed img ≡ true) (e : session_fits img s ≡ true) where
  done-fits : (f : Frame) (x : Result Action ℕ) → let d = (so_far ch ++ part cmd f.from f.lc) in From img s (whole_frame ch f) d x → Keeps img (done x img s d buf).image
      → session_fits (done x img s d buf).image (done x img s d buf).answer.session ≡ true
  unfolding done says id_of
  done-fits f (Err w) h k = e
  done-fits f (Ok (SelectApplication a)) h k = unfold session_fits place_fits in let w = all_of_facts _ e in all_of_accepted _ (h.1, (refl, (w.1.1.0, tt)))
  done-fits f (Ok (SelectFile g)) h k = at-file img s e g h.1.file
  done-fits f (Ok (ReadBinary t a n)) h k = at_set img s e (TransparentFile t) h.1.file
  done-fits f (Ok (UpdateBinary n w)) h k = fits_on k _ (at_set img s e (TransparentFile (Biometrics n)) h.1.file.file)
  done-fits f (Ok (Activate n)) h k = fits_on k s e
  done-fits f (Ok (AppendRecord r)) h k =
      let d = so_far ch ++ part cmd f.from f.lc in
      let l : length (records_of (append_to img r.kind d) r.kind) ≡ length (records_of img r.kind ++ (d ∷ [])) = ap length (append-list img r.kind r d o (accepts img s ch cmd buf o d r h.2)) in
      let m = length-append (records_of img r.kind) (d ∷ []) in
      let own = h.2.file.file.own in
      at-record _ s (fits_on k s e) r (count (body img r.kind) + 1) (same-file k s.application r.id (ap is_known own) ∙ own)
      (all_of_accepted (leb 1 (count (body img r.kind) + 1) ∷ leb (count (body img r.kind) + 1) (count (body (append_to img r.kind d) r.kind)) ∷ []) (
        le-leb 1 (count (body img r.kind) + 1) (omega arith),
        (le-leb (count (body img r.kind) + 1) (count (body (append_to img r.kind d) r.kind)) (omega (arith, l, m, list_count img r.kind, list_count (append_to img r.kind d) r.kind)), tt),
      ))
  done-fits f (Ok (ReadRecord r a b)) h k = at_set img s e (RecordFile r) h.file.file
  done-fits f (Ok (SearchRecord r q ne)) h k = fits_on k _ (searched-fits img s e _ buf r q ne h.file.file)
  done-fits f (Ok (Report g p2)) h k = at_set img s e g h.1.file
  done-fits f (Ok (ReadBinaryOdd t a n)) h k = at_set img s e (TransparentFile t) h.1.file

  abbrev Fits : List ℕ → Result Action ℕ → Type 0
  Fits d x = session_fits (done x img s d buf).image (done x img s d buf).answer.session ≡ true

  worded-fits : (d : List ℕ) (w : ℕ) (x : Result Action ℕ) → x ≡ Err w → Fits d x
  unfolding done says
  worded-fits d w x h = ap (λ (y : Result Action ℕ). session_fits (done y img s d buf).image (done y img s d buf).answer.session) h ∙ e

  course-fits : (f : Frame) (k : Result Course ℕ) (x : Result Action ℕ) → let d = so_far ch ++ part cmd f.from f.lc in FromCourse k img s (whole_frame ch f) d x → Keeps img (done x img s d buf).image → Fits d x
  course-fits f (Err w) x h k = worded-fits _ w x h.0
  course-fits f (Ok Extends) x h k = worded-fits _ normal x h
  course-fits f (Ok Goes) x h k = done-fits f x h k

  shape-fits : (a : Option Frame) (x : Result Action ℕ) → FromShape img s ch cmd a x → Keeps img (done x img s (data_by ch cmd a) buf).image → Fits (data_by ch cmd a) x
  shape-fits None x h k = worded-fits [] wrong_length x h
  shape-fits (Some f) x h k = course-fits f (turn ch f) x h k

  step_by-fits : (x : Result (Unit {0}) Refusal) → Keeps img (step_by x img s ch cmd buf).image → session_fits (step_by x img s ch cmd buf).image (step_by x img s ch cmd buf).answer.session ≡ true
  unfolding step_by data_of
  step_by-fits (Ok tt) k = shape-fits (shape_of cmd) (decide img s ch cmd) (decide-from img s ch cmd) k
  step_by-fits (Err r) k = e

-- the chain that a command leaves is one that links can have left
turned_fits : (ch : Chain) (f : Frame) (d : List ℕ) (k : Result Course ℕ) → length d ≡ f.lc → Turned ch f k → chain_fits (chain_on k ch f d) ≡ true
turned_fits ch f d (Err w) l t = refl
turned_fits ch f d (Ok Goes) l t = refl
turned_fits ch f d (Ok Extends) l (joined x) =
    unfold lc_only in
    let n = length-append (so_far ch) d in
    let m = leb-true 1 f.lc (all_of_facts (leb 1 f.lc ∷ eqb f.le 0 ∷ []) x.some).0 in
    let w = extending_few ch f x in
    all_of_accepted (leb 1 (length (so_far ch ++ d)) ∷ leb (length (so_far ch ++ d)) 1024 ∷ parameters_fit f.header.ins f.header.p1 f.header.p2 ∷ [])
    (le-leb 1 (length (so_far ch ++ d)) (omega (arith, n, m, l)), (le-leb (length (so_far ch ++ d)) 1024 (omega (arith, n, l, w)), (x.parameters, tt)))

pub chain_fits_lem : (img : List ℕ) (s : Session) (ch : Chain) (cmd : List ℕ) (n : ℕ) → chain_fits ch ≡ true → chain_fits (chain_after img s ch cmd n) ≡ true
unfolding chain_after chain_behind
chain_fits_lem img s ch cmd n e = by-verdict (verdict_on img s ch n)
  where
    by_shape : (a : Option Frame) → shape_of cmd ≡ a → chain_fits (chain_by ch cmd a) ≡ true
    by_shape None z = refl
    by_shape (Some f) z =
        turned_fits ch f (part cmd f.from f.lc) (turn ch f) (length_part cmd f.from f.lc (shape_facts cmd (shape_of cmd) f refl z).inside) (turn-told ch f)

    by-verdict : (v : Result (Unit {0}) Refusal) → chain_fits (chain_after_by v ch cmd) ≡ true
    by-verdict (Ok tt) = by_shape (shape_of cmd) refl
    by-verdict (Err r) = e

pub answer-fits : AnswerFits
unfolding step after_call
answer-fits img s ch cmd buf o e z =
    let g = call_grown img (Command s ch cmd buf) o in (
      step_by-fits img s ch cmd buf o e (verdict_on img s ch (length buf)) (record { files = g.files; counts = λ k b. more_records img _ k _ (g.records k b) }),
      chain_fits_lem img s ch cmd (length buf) z,
    )

-- a session that fits still fits after any call
pub call_fits : (img : List ℕ) (c : Call) (t : Session) → well_formed img ≡ true → session_fits img t ≡ true → session_fits (after_call img c) t ≡ true
call_fits img c t o e =
    let g = call_grown img c o in
    fits_on (record { files = g.files; counts = λ k b. more_records img _ k _ (g.records k b) }) t e

pub stays_accepted : StaysAccepted
unfolding verdict verdict_number history all_of
stays_accepted img calls s ch n o e z l =
    let h = calls_held img calls o in
    let k : Keeps img (after img calls) = record { files = h.files; counts = λ k b. more_records img _ k _ (h.records k b) } in
    simp (le-ltb n 2050 l, h.well, fits_on k s e, z)

pub opening-fits : OpeningFits
unfolding opening opened session_fits application_fits place_fits all_of
opening-fits img rights = ap (λ (b : Bool). b && true) (effective-cleared rights)
