-- An append behind a cut: what lies in the free room does not matter (`room-used`). Read ../specs/Cuts.antt before.
use Prim.Native.Nat.{ℕ, ◌+◌, ◌-◌, ◌/◌, ◌%◌, ◌<◌}
use mathlib.Core.Path.{◌≡◌, refl, sym, ap, ap₂, subst, ◌∙◌}
use mathlib.Core.Bool.{Bool, true}
use mathlib.Core.List.{List, [], ◌∷◌, ◌++◌}
use native.Mathlib.Omega.{arith}
use lib.ListN.{length, replicate}
use lib.Dec.{eqb, leb}
use borrow.Author.Tests.{eqb-true, eqb-false}
use Rattle.machine_chain.specs.Chain.{Chain}
use Rattle.base.specs.Choice.{if_else, all_of}
use Rattle.base.proofs.Cases.{by_cases}
use Rattle.base.proofs.Parts.{length_part}
use Rattle.store_records.specs.Body.{count, used, append_fits}
use Rattle.store_kinds.specs.Rules.{rule_of, present_by, biometrics_kind}
use Rattle.store_kinds.specs.declared.rules.Key.TheVariants.{Id, Short}
use Rattle.store_kinds.specs.declared.rules.Rule.{Rule}
use Rattle.store_cut.specs.declared.Writing.TheVariants.{Record, State}
use Rattle.store_image.specs.Image.{find, is_at, has, present, well_formed, body, records_of, make_stores_in}
use Rattle.store_image.proofs.Laws.{found_inside, found-body, has_missing, body_lacking, records-count, none_made, stores-find, cut_changes, cut_list, cut-used}
use Rattle.store_files.specs.Files.{ruled, biometrics_by_id, by_id, by_short}
use Rattle.store_files.specs.declared.File.TheVariants.{RecordFile, TransparentFile}
use Rattle.machine_apdu.specs.Shape.{shape_of}
use Rattle.machine_apdu.specs.declared.Frame.{Frame}
use Rattle.machine_session.specs.Resolve.{meant_by, meant_at, file_meant, record_by, resolve_record}
use Rattle.machine_session.specs.Session.{application_fits, record_fits, place_fits, session_fits}
use Rattle.machine_session.specs.Verdict.{verdict}
use Rattle.machine_session.specs.declared.Access.{Access}
use Rattle.machine_session.specs.declared.Named.{Named}
use Rattle.machine_session.specs.declared.Named.TheVariants.{Current, Short as ByShort, Id as ById}
use Rattle.machine_session.specs.declared.Place.{Place}
use Rattle.machine_session.specs.declared.Place.TheVariants.{Nowhere, OnFile, OnRecord}
use Rattle.machine_session.specs.declared.Session.{Session}
use Rattle.machine_apdu.specs.Status.{wrong_parameters, wrong_length}
use Rattle.machine_session.specs.Order.{in_order}
use Rattle.machine_session.specs.Session.{placed}
use Rattle.machine_session.specs.declared.Access.TheVariants.{Append}
use Rattle.machine_action.specs.Tests.{lc_only, or_current, on_record}
use Rattle.machine_action.specs.declared.Action.{Action}
use Rattle.machine_action.specs.declared.Action.TheVariants.{SelectApplication, SelectFile, ReadBinary, UpdateBinary, Activate, AppendRecord, ReadRecord, SearchRecord, Report, ReadBinaryOdd}
use Rattle.machine_record.specs.AppendRecord.{append_on, append_record}
use Rattle.machine_dispatch.specs.Decide.{by_ins, by_class, decide, data_of}
use Rattle.machine_dispatch.proofs.Allowing.{Pair, From, FromShape, decide-from}
use Rattle.machine_answer.specs.Outcome.{Outcome, answered, says}
use Rattle.machine_answer.specs.declared.Answer.{Answer}
use Rattle.machine.specs.Effects.{done}
use Rattle.machine.specs.Step.{step_by, step, verdict_on}
use Rattle.machine_cut.specs.Cutting.{cut}
use Rattle.machine_link.specs.Link.{is_command}
use Rattle.promises.specs.Calls.{Command, after_call, is_pair, added_by, added, whole_of}
use Rattle.promises.specs.Cuts.{RoomUsed}
use Rattle.promises.proofs.Whole.{pair_facts, class_decided, whole_from}
use Rattle.promises.proofs.Growing.{call_grown}
use Rattle.promises.proofs.Cuts.{Cutting, append-cut, activate-cut, no_cut, cutting, long, cut-leaves}
use Rattle.std.specs.Prelude.{Option, Some, None, Result, Ok, Err}
use Rattle.store_files.specs.declared.File.{File}
use Rattle.machine_session.specs.declared.Refusal.{Refusal}

-- ---- two images with the same files, in which each file has as many records and as much room

pub record Torn (img new : List ℕ) : Type 0 where
  pub places : (k : ℕ) → find new k ≡ find img k
  pub counts : (k : ℕ) → count (body new k) ≡ count (body img k)
  pub uses : (k : ℕ) → used (body new k) ≡ used (body img k)

size_by : Option (ℕ × ℕ) → ℕ
size_by (Some (s, n)) = n
size_by None = 0

body-size : (img : List ℕ) (k : ℕ) → length (body img k) ≡ size_by (find img k)
unfolding size_by
body-size img k = go (find img k) refl
  where
    go : (f : Option (ℕ × ℕ)) → find img k ≡ f → length (body img k) ≡ size_by f
    go (Some (s, n)) e = ap length (found-body img k s n e) ∙ length_part img s n (found_inside img k s n e)
    go None e = ap length (body_lacking img k (has_missing img k e))

module _ {img new : List ℕ} (t : Torn img new) where
  has_same : (k : ℕ) → has new k ≡ has img k
  unfolding has
  has_same k = ap is_at (t.places k)

  fits-same : (k n : ℕ) → append_fits (body new k) n ≡ append_fits (body img k) n
  unfolding append_fits
  fits-same k n = ap₂ (λ (u l : ℕ). leb (u + 2 + n) l) (t.uses k) (body-size new k ∙ ap size_by (t.places k) ∙ sym (body-size img k))

  -- the same files are meant
  ruled-same : (x : Option Rule) (l m : Option File) → l ≡ m → ruled new x l ≡ ruled img x m
  ruled-same (Some r) l m e = ap (λ (b : Bool). if_else b (Some (RecordFile r)) None) (has_same r.kind)
  ruled-same None l m e = e

  biometrics-same : (a i : ℕ) → biometrics_by_id new a i ≡ biometrics_by_id img a i
  unfolding biometrics_by_id
  biometrics-same a i = rw (has_same (biometrics_kind (i - 0x0200))) refl

  by_id-same : (a i : ℕ) → by_id new a i ≡ by_id img a i
  unfolding by_id
  by_id-same a i = by_cases (eqb a 0) (λ e. simp e) (λ e. simp e (ruled-same (rule_of (Id a i)) _ _ (biometrics-same a i)))

  by_short-same : (a i : ℕ) → by_short new a i ≡ by_short img a i
  unfolding by_short
  by_short-same a i = by_cases (eqb a 0) (λ e. simp e) (λ e. simp e (ruled-same (rule_of (Short a i)) None None refl))

  meant_at-same : (a : ℕ) (p : Place) → meant_at new a p ≡ meant_at img a p
  meant_at-same a Nowhere = refl
  meant_at-same a (OnFile i) = ap meant_by (by_id-same a i)
  meant_at-same a (OnRecord i n) = ap meant_by (by_id-same a i)

  file_meant-same : (s : Session) (n : Named) → file_meant new s n ≡ file_meant img s n
  unfolding file_meant
  file_meant-same s Current = meant_at-same s.application s.place
  file_meant-same s (ByShort x) = ap meant_by (by_short-same s.application x)
  file_meant-same s (ById i) = ap meant_by (by_id-same s.application i)

  resolve_same : (s : Session) (x : Access) (n : Named) → resolve_record new s x n ≡ resolve_record img s x n
  unfolding resolve_record
  resolve_same s x n = ap (record_by s x) (file_meant-same s n)

  -- the same sessions fit
  present-same : (a : ℕ) → present new a ≡ present img a
  unfolding present
  present-same a = ap (λ (h : ℕ → Bool). present_by h a) (λ i k. has_same k i)

  record_fits-same : (l : Option File) (n : ℕ) → record_fits new l n ≡ record_fits img l n
  record_fits-same (Some (RecordFile r)) n = ap (λ (c : ℕ). all_of (leb 1 n ∷ leb n c ∷ [])) (t.counts r.kind)
  record_fits-same (Some (TransparentFile f)) n = refl
  record_fits-same None n = refl

  place_same : (a : ℕ) (p : Place) → place_fits new a p ≡ place_fits img a p
  unfolding place_fits
  place_same a Nowhere = refl
  place_same a (OnFile i) = rw (by_id-same a i) refl
  place_same a (OnRecord i n) = ap (λ (l : Option File). record_fits new l n) (by_id-same a i) ∙ record_fits-same (by_id img a i) n

  session-same : (s : Session) → session_fits new s ≡ session_fits img s
  unfolding session_fits application_fits
  session-same s = rw (present-same s.application, place_same s.application s.place) refl

  -- an append is decided alike
  append_on-same : (n : ℕ) (r : Rule) → append_on new n r ≡ append_on img n r
  unfolding append_on
  append_on-same n r = rw (t.counts r.kind, fits-same r.kind n) refl

  append-same : (s : Session) (f : Frame) (d : List ℕ) → append_record new s f d ≡ append_record img s f d
  unfolding append_record
  append-same s f d =
      ap₂ (λ (x : Result Rule ℕ) (go : Rule → Result Action ℕ). in_order
      ((all_of (eqb f.header.p1 0 ∷ eqb (f.header.p2 % 8) 0 ∷ []), Err wrong_parameters)
      ∷ (lc_only f, Err wrong_length)
      ∷ [])
      (on_record x go)) (resolve_same s Append (or_current (f.header.p2 / 8))) (λ i r. append_on-same (length d) r i)

-- CLA 00 and INS E2 lead to APPEND RECORD
append_led : (img : List ℕ) (s : Session) (ch : Chain) (cmd : List ℕ) (f : Frame) → whole_of ch cmd ≡ Some f → is_pair f 0x00 0xE2 ≡ true → decide img s ch cmd ≡ append_record img s f (data_of ch cmd)
unfolding by_class by_ins is_command
append_led img s ch cmd f z p = let h = pair_facts f 0x00 0xE2 p in class_decided ch cmd f z 0x00 0xE2 p refl refl refl img s ∙ simp (h.0, h.1)

-- ---- what an append answers on both

module _ {img new : List ℕ} (t : Torn img new) (o : well_formed img ≡ true) (o' : well_formed new ≡ true) (s : Session) (ch : Chain) (cmd buf : List ℕ) (f : Frame)
    (z : whole_of ch cmd ≡ Some f) (p : is_pair f 0x00 0xE2 ≡ true) where
  abbrev d : List ℕ
  d = data_of ch cmd

  abbrev Same : Outcome → Outcome → Type 0
  Same x y = (y.answer ≡ x.answer) × (y.buffer ≡ x.buffer)

  not-append : {A : Type 0} (c i : ℕ) → Pair f c i → (c ≡ 0x00 → i ≡ 0xE2 → ⊥) → A
  not-append c i q ne = absurd (let h = pair_facts f 0x00 0xE2 p in ne (sym (eqb-true f.header.cla c q.0) ∙ h.0) (sym (eqb-true f.header.ins i q.1) ∙ h.1))

  done-same : (x : Result Action ℕ) → From img s f d x → Same (done x img s d buf) (done x new s d buf)
  unfolding done says
  done-same (Err w) h = (refl, refl)
  done-same (Ok (SelectApplication a)) h = not-append 0x00 0xA4 h.0 (λ c i. omega (arith, i))
  done-same (Ok (SelectFile g)) h = not-append 0x00 0xA4 h.0 (λ c i. omega (arith, i))
  done-same (Ok (ReadBinary u a n)) h = not-append 0x00 0xB0 h.0 (λ c i. omega (arith, i))
  done-same (Ok (UpdateBinary n w)) h = not-append 0x00 0xD7 h.0 (λ c i. omega (arith, i))
  done-same (Ok (Activate b)) h = not-append 0x00 0x44 h.0 (λ c i. omega (arith, i))
  done-same (Ok (AppendRecord r)) h = (ap (λ (n : ℕ). answered 0 0x9000 (placed s (OnRecord r.id (n + 1)))) (t.counts r.kind), refl)
  done-same (Ok (ReadRecord r a b)) h = not-append 0x00 0xB2 h.pair (λ c i. omega (arith, i))
  done-same (Ok (SearchRecord r q ne)) h = not-append 0x00 0xA2 h.pair (λ c i. omega (arith, i))
  done-same (Ok (Report g p2)) h = not-append 0x80 0x5E h.0 (λ c i. omega (arith, c))
  done-same (Ok (ReadBinaryOdd u a n)) h = not-append 0x00 0xB1 h.0 (λ c i. omega (arith, i))

  decide-same : decide new s ch cmd ≡ decide img s ch cmd
  decide-same = append_led new s ch cmd f z p ∙ append-same t s f d ∙ sym (append_led img s ch cmd f z p)

  from : From img s f d (decide img s ch cmd)
  unfolding is_command
  from = whole_from ch cmd f z 0x00 0xE2 p refl refl refl img s

  step_by-same : (v : Result (Unit {0}) Refusal) → Same (step_by v img s ch cmd buf) (step_by v new s ch cmd buf)
  unfolding step_by
  step_by-same (Ok tt) = subst (λ (x : Result Action ℕ). Same (done (decide img s ch cmd) img s d buf) (done x new s d buf)) (sym decide-same) (done-same (decide img s ch cmd) from)
  step_by-same (Err r) = (refl, refl)

  verdict_same : (n : ℕ) → verdict_on new s ch n ≡ verdict_on img s ch n
  unfolding verdict
  verdict_same n = rw (o, o', session-same t s) refl

  step_same : Same (step img s ch cmd buf) (step new s ch cmd buf)
  unfolding step
  step_same =
      subst (λ (v : Result (Unit {0}) Refusal). Same (step_by (verdict_on img s ch (length buf)) img s ch cmd buf) (step_by v new s ch cmd buf)) (sym (verdict_same (length buf)))
      (step_by-same (verdict_on img s ch (length buf)))

-- ---- a cut before the last store leaves such an image

torn : (img : List ℕ) (s : Session) (ch : Chain) (cmd : List ℕ) (n : ℕ) → n < (cut img s ch cmd n).answer.stores → Torn img (cut img s ch cmd n).image
torn img s ch cmd n l = go (cutting img s ch cmd n (replicate 2050 0) long)
  where
    same : (cut img s ch cmd n).image ≡ img → Torn img (cut img s ch cmd n).image
    same e = record { places = λ k. ap (λ (x : List ℕ). find x k) e; counts = λ k. ap (λ (x : List ℕ). count (body x k)) e; uses = λ k. ap (λ (x : List ℕ). used (body x k)) e }

    go : Cutting img s ch cmd n (replicate 2050 0) long → Torn img (cut img s ch cmd n).image
    go (append-cut w p r e a m i u) = subst (Torn img) (sym i) (record { places = stores-find img r.kind n Record (data_of ch cmd); counts = counts; uses = uses })
      where
        less : n < length (data_of ch cmd) + 4
        less = omega (arith, l, m)

        new : List ℕ
        new = make_stores_in n img r.kind Record (data_of ch cmd)

        by_kind : (P : List ℕ → ℕ) → P (body new r.kind) ≡ P (body img r.kind) → (k : ℕ) → P (body new k) ≡ P (body img k)
        by_kind P h k =
            by_cases (eqb k r.kind)
            (λ y. subst (λ (j : ℕ). P (body new j) ≡ P (body img j)) (sym (eqb-true k r.kind y)) h)
            (λ y. ap P ((cut_changes img r.kind r (data_of ch cmd) w a n less).others k (eqb-false k r.kind y)))

        counted : (x : List ℕ) (k : ℕ) → length (records_of x k) ≡ count (body x k)
        counted x k = unfold records_of in records-count (body x k)

        counts : (k : ℕ) → count (body new k) ≡ count (body img k)
        counts = by_kind count (sym (counted new r.kind) ∙ ap length (cut_list img r.kind r (data_of ch cmd) w a n less) ∙ counted img r.kind)

        uses : (k : ℕ) → used (body new k) ≡ used (body img k)
        uses = by_kind used (cut-used img r.kind r (data_of ch cmd) w a n less)
    go (activate-cut w p b q r m i u t) =
        let e : n ≡ 0 = omega (arith, l, m) in
        same (i ∙ ap (λ (j : ℕ). make_stores_in j img (biometrics_kind b) State (data_of ch cmd)) e ∙ none_made img (biometrics_kind b) State (data_of ch cmd))
    go (no_cut m i x y) = same i

pub room-used : RoomUsed
unfolding after_call added
room-used img s ch cmd n t c next buf f w l z p =
    let left = cut-leaves img s ch cmd n w in
    let same = step_same (torn img s ch cmd n l) w left.well t c next buf f z p in
    let new = (cut img s ch cmd n).image in
    record {
      answer_same = same.0;
      buffer_same = same.1;
      lists_same = λ k b. (call_grown new (Command t c next buf) left.well).records k b
          ∙ ap₂ (λ (x : List (List ℕ)) (a : Answer). x ++ added_by k t c next a.status (shape_of next)) ((left.before l).records k b) same.0
          ∙ sym ((call_grown img (Command t c next buf) w).records k b);
    }
