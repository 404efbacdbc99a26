-- What calls do to the records of each file. Read ../specs/Calls.antt before. Exports `call_grown`, `calls_held`, `number-kept`.
use Prim.Native.Nat.{ℕ, ◌+◌, ◌/◌, ◌≤◌, ◌<◌, ◌%◌}
use mathlib.Core.Path.{◌≡◌, refl, sym, ap, ap₂, subst, ◌∙◌}
use mathlib.Core.Bool.{Bool, true, false}
use mathlib.Core.List.{List, [], ◌∷◌, ◌++◌, append-nil, append_assoc}
use native.Mathlib.Omega.{arith}
use lib.ListN.{length, drop, length-take}
use lib.Dec.{leb, eqb, ltb}
use borrow.Author.Tests.{eqb-true, eqb-false, eq-eqb, leb-true, leb-false, ltb-true, le-leb}
use Rattle.machine_chain.specs.Chain.{Chain, so_far}
use Rattle.base.specs.Choice.{if_else, all_of}
use Rattle.base.specs.Bytes.{part}
use Rattle.base.proofs.Cases.{by_cases, if_else_ind, false-true, all_of_facts, all_of_accepted}
use Rattle.store_records.specs.Body.{nth}
use Rattle.store_kinds.specs.Biometrics.{room, updatable}
use Rattle.store_kinds.specs.Rules.{is_biometrics, biometrics_kind}
use Rattle.store_image.specs.Image.{has, body, well_formed, records_of, append_to, update_in, stores_in, make_stores_in}
use Rattle.store_kinds.specs.declared.rules.Rule.{Rule}
use Rattle.store_image.proofs.Laws.{Accepts, Changed, append_changes, append-list, records-kept, biometrics-file, update_changes, activate_changes, append_all, activate_all, none_made, append-stores, cut_changes, cut_list, nth-kept}
use Rattle.store_files.specs.declared.File.TheVariants.{RecordFile}
use Rattle.objects_templates.specs.declared.Writes.{Writes}
use Rattle.objects_templates.specs.declared.Search.{Search}
use Rattle.machine_record.specs.SearchRecord.{search_status}
use Rattle.machine_session.specs.Resolve.{resolve_record}
use Rattle.machine_session.specs.declared.Session.{Session}
use Rattle.machine_session.specs.declared.Access.TheVariants.{Append}
use Rattle.machine_apdu.specs.Shape.{shape_of}
use Rattle.machine_apdu.specs.declared.Frame.{Frame}
use Rattle.machine_action.specs.Tests.{or_current}
use Rattle.machine_dispatch.specs.Decide.{decide, data_by, data_of, whole_frame}
use Rattle.machine_action.specs.declared.Action.{Action}
use Rattle.machine_action.specs.declared.Action.TheVariants.{SelectApplication, SelectFile, ReadBinary, UpdateBinary, Activate, AppendRecord, ReadRecord, SearchRecord, Report, ReadBinaryOdd}
use Rattle.machine_dispatch.proofs.Allowing.{Pair, Appends, Writable, From, FromShape, decide-from, FromCourse}
use Rattle.machine_answer.specs.Outcome.{Outcome, says}
use Rattle.machine.specs.Effects.{searched, done}
use Rattle.machine.specs.Step.{verdict_on, step_by, step}
use Rattle.machine_session.specs.Session.{session_fits}
use Rattle.machine_session.specs.Verdict.{verdict}
use Rattle.store_cut.specs.declared.Writing.TheVariants.{Record, State}
use Rattle.machine_cut.specs.Cutting.{storing, cut_stores, cut_image, cut_by, cut}
use Rattle.store_move.specs.Moving.{move_card, move_card_into}
use Rattle.machine_apdu.specs.Status.{normal, wrong_length}
use Rattle.machine_link.specs.Link.{is_link, turn}
use Rattle.machine_link.specs.declared.Course.{Course}
use Rattle.machine_link.specs.declared.Course.TheVariants.{Extends, Goes}
use Rattle.machine_link.proofs.Turning.{Turned, joined, turn-told}
use Rattle.promises.specs.Calls.{Call, Open, Command, Move, Cut, image_after_move, after_call, after, is_pair, added_by, added, additions, history}
use Rattle.promises.specs.Files.{is_meant_kind}
use Rattle.promises.specs.Promises.{Holds, NumberKept}
use Rattle.promises.proofs.Naming.{record_meant, record_listed, p2-meant, kind-meant}
use Rattle.promises.proofs.Moving.{move_done}
use Rattle.std.specs.Prelude.{Option, Some, None, Result, Ok, Err}
use Rattle.store_move.specs.declared.MoveRefusal.{MoveRefusal}
use Rattle.machine_session.specs.declared.Refusal.{Refusal}

-- an image that has lost no file, in which each record file has some records more
pub record Grown (img new : List ℕ) (more : ℕ → List (List ℕ)) : Type 0 where
  pub well : well_formed new ≡ true
  pub files : (k : ℕ) → has img k ≡ true → has new k ≡ true
  pub records : (k : ℕ) → is_biometrics k ≡ false → records_of new k ≡ records_of img k ++ more k

module _ (img : List ℕ) (o : well_formed img ≡ true) where
  -- the same image, and a biometrics file that is changed
  grown-none : {new : List ℕ} {more : ℕ → List (List ℕ)} → new ≡ img → ((k : ℕ) → more k ≡ []) → Grown img new more
  grown-none e n =
      record {
        well = ap well_formed e ∙ o;
        files = λ k h. ap (λ (l : List ℕ). has l k) e ∙ h;
        records = λ k b. ap (λ (l : List ℕ). records_of l k) e ∙ sym (append-nil (records_of img k)) ∙ ap (λ (l : List (List ℕ)). records_of img k ++ l) (sym (n k));
      }

  grown-changed : (new : List ℕ) (j : ℕ) {more : ℕ → List (List ℕ)} → is_biometrics j ≡ true → Changed img new j → ((k : ℕ) → more k ≡ []) → Grown img new more
  grown-changed new j b c n =
      record {
        well = c.well;
        files = λ k h. c.same-files k ∙ h;
        records = λ k h. records-kept img new j c k (λ e. false-true (sym h ∙ ap is_biometrics e ∙ b))
            ∙ sym (append-nil (records_of img k)) ∙ ap (λ (l : List (List ℕ)). records_of img k ++ l) (sym (n k));
      }

-- ---- what a command appends

module _ (img : List ℕ) (s : Session) (ch : Chain) (cmd : List ℕ) (f : Frame) (w : ℕ) where
  abbrev tests : ℕ → List Bool
  tests k = is_pair f 0x00 0xE2 ∷ eqb w 0x9000 ∷ is_meant_kind s (f.header.p2 / 8) k ∷ []

  none : (k : ℕ) → (all_of (tests k) ≡ true → ⊥) → added_by k s ch cmd w (Some f) ≡ []
  none k h = if_else_ind (λ (l : List (List ℕ)). l ≡ []) (all_of (tests k)) (λ e. absurd (h e)) (λ e. refl)

  -- nothing by another command, and nothing by a status other than 9000
  by-pair : (c i : ℕ) → Pair f c i → all_of (eqb c 0x00 ∷ eqb i 0xE2 ∷ []) ≡ false → (k : ℕ) → added_by k s ch cmd w (Some f) ≡ []
  unfolding is_pair
  by-pair c i p e k =
      none k (λ h. false-true (sym e
      ∙ sym (ap₂ (λ (x y : ℕ). all_of (eqb x 0x00 ∷ eqb y 0xE2 ∷ [])) (eqb-true f.header.cla c p.0) (eqb-true f.header.ins i p.1))
      ∙ (all_of_facts (tests k) h).0))

  by-status : ltb w 0x9000 ≡ true → (k : ℕ) → added_by k s ch cmd w (Some f) ≡ []
  by-status e k = none k (λ h. absurd (omega (arith, ltb-true w 0x9000 e, eqb-true w 0x9000 (all_of_facts (tests k) h).1.0)))

  -- a link but the last has another CLA
  by-link : is_link f.header ≡ true → (k : ℕ) → added_by k s ch cmd w (Some f) ≡ []
  unfolding is_link is_pair
  by-link e k =
      none k
      (λ h.
      let c = eqb-true f.header.cla 0x00 (all_of_facts (eqb f.header.cla 0x00 ∷ eqb f.header.ins 0xE2 ∷ []) (all_of_facts (tests k) h).0).0 in
      false-true (sym (ap (λ (x : ℕ). eqb (x / 16 % 2) 1) c) ∙ e))

  -- its data, to the file that P2 means
  module _ (r : Rule) (p : Pair f 0x00 0xE2) (e : resolve_record img s Append (or_current (f.header.p2 / 8)) ≡ Ok r) (is : eqb w 0x9000 ≡ true) where
    of-kind : (k : ℕ) → is_meant_kind s (f.header.p2 / 8) k ≡ eqb r.kind k
    of-kind =
        kind-meant s (f.header.p2 / 8) r (record_listed img s Append (or_current (f.header.p2 / 8)) r e)
        (p2-meant s (f.header.p2 / 8) (RecordFile r) ∙ record_meant img s Append (or_current (f.header.p2 / 8)) r e)

    to-file : added_by r.kind s ch cmd w (Some f) ≡ (so_far ch ++ part cmd f.from f.lc) ∷ []
    to-file =
        let t : all_of (tests r.kind) ≡ true = all_of_accepted (tests r.kind) (unfold is_pair in all_of_accepted _ (p.0, (p.1, tt)), (is, (of-kind r.kind ∙ eq-eqb r.kind r.kind refl, tt))) in
        ap (λ (b : Bool). if_else b ((so_far ch ++ part cmd f.from f.lc) ∷ []) []) t

    to-another : (k : ℕ) → (k ≡ r.kind → ⊥) → added_by k s ch cmd w (Some f) ≡ []
    to-another k n = none k (λ h. n (sym (eqb-true r.kind k (sym (of-kind k) ∙ (all_of_facts (tests k) h).1.1.0))))

-- a refusal has status 0, and adds nothing
pub refused_none : (img : List ℕ) (s : Session) (ch : Chain) (cmd : List ℕ) (a : Option Frame) (k : ℕ) → added_by k s ch cmd 0 a ≡ []
refused_none img s ch cmd None k = refl
refused_none img s ch cmd (Some f) k = by-status img s ch cmd f 0 refl k

-- ---- an accepted command

module _ (img : List ℕ) (s : Session) (ch : Chain) (cmd buf : List ℕ) (o : well_formed img ≡ true) where
  -- an append
  pub accepts : (d : List ℕ) (r : Rule) → Appends img s (length d) r → Accepts img r.kind r (length d)
  accepts d r a =
      record {
        ruled = a.file.file.ok.by_kind;
        stands = a.file.file.ok.stands;
        some = a.some;
        short = leb-true _ _ a.short;
        few = ltb-true _ _ a.few;
        room = a.room;
      }

  appends-grown : (f : Frame) (r : Rule) → From img s (whole_frame ch f) (so_far ch ++ part cmd f.from f.lc) (Ok (AppendRecord r))
      → Grown img (append_to img r.kind (so_far ch ++ part cmd f.from f.lc)) (λ k. added_by k s ch cmd 0x9000 (Some f))
  appends-grown f r h =
      record { well = c.well; files = λ k h. c.same-files k ∙ h; records = λ k b. by_cases (eqb k r.kind) (λ e. here k (eqb-true k r.kind e)) (λ e. there k (eqb-false k r.kind e)) }
    where
      d : List ℕ
      d = (so_far ch ++ part cmd f.from f.lc)

      a : Accepts img r.kind r (length d)
      a = accepts d r h.2

      c : Changed img (append_to img r.kind d) r.kind
      c = append_changes img r.kind r d o a

      here : (k : ℕ) → k ≡ r.kind → records_of (append_to img r.kind d) k ≡ records_of img k ++ added_by k s ch cmd 0x9000 (Some f)
      here k e =
          subst (λ (j : ℕ). records_of (append_to img r.kind d) j ≡ records_of img j ++ added_by j s ch cmd 0x9000 (Some f)) (sym e)
          (append-list img r.kind r d o a ∙ ap (λ (l : List (List ℕ)). records_of img r.kind ++ l) (sym (to-file img s ch cmd f 0x9000 r h.0 h.1 refl)))

      there : (k : ℕ) → (k ≡ r.kind → ⊥) → records_of (append_to img r.kind d) k ≡ records_of img k ++ added_by k s ch cmd 0x9000 (Some f)
      there k n =
          records-kept img (append_to img r.kind d) r.kind c k n
          ∙ sym (append-nil (records_of img k))
          ∙ ap (λ (l : List (List ℕ)). records_of img k ++ l) (sym (to-another img s ch cmd f 0x9000 r h.0 h.1 refl k n))

  -- a search leaves the image
  searched-image : (d : List ℕ) (r : Rule) (q : Search) (ne : ℕ) → (searched img s d buf r q ne).image ≡ img
  unfolding searched says
  searched-image d r q ne = if_else_ind (λ (x : Outcome). x.image ≡ img) (eqb (search_status (records_of img r.kind) d q ne) 0x9000) (λ e. refl) (λ e. refl)

  -- a write is accepted
  module _ (n : ℕ) (w : Writes) (d : List ℕ) (a : Writable img s n w) where
    abbrev k : ℕ
    k = biometrics_kind n

    pub write_accepted : updatable (body img k) w.offset (length (part d w.bytes.at w.bytes.len)) ≡ true
    unfolding updatable
    write_accepted =
        let i = a.file.file.ok in
        let r : w.offset + w.bytes.len ≤ room (body img k) = leb-true _ _ a.room in
        let l : w.offset + length (part d w.bytes.at w.bytes.len) ≤ room (body img k) = omega (arith, length-take w.bytes.len (drop w.bytes.at d)) in
        all_of_accepted _ (biometrics-file img k o i.kind i.stands, (a.behind, (le-leb _ _ l, tt)))

    pub write_changes : Changed img (update_in img k w.offset (part d w.bytes.at w.bytes.len)) k
    write_changes =
        let i = a.file.file.ok in
        update_changes img k o i.kind i.stands w.offset (part d w.bytes.at w.bytes.len) write_accepted

  done-grown : (f : Frame) (x : Result Action ℕ) → From img s (whole_frame ch f) (so_far ch ++ part cmd f.from f.lc) x
      → let u = done x img s (so_far ch ++ part cmd f.from f.lc) buf in Grown img u.image (λ k. added_by k s ch cmd u.answer.status (Some f))
  unfolding done says all_of
  done-grown f (Err w) h = grown-none img o refl (by-status img s ch cmd f w h)
  done-grown f (Ok (SelectApplication a)) h = grown-none img o refl (by-pair img s ch cmd f 0x9000 0x00 0xA4 h.0 refl)
  done-grown f (Ok (SelectFile g)) h = grown-none img o refl (by-pair img s ch cmd f 0x9000 0x00 0xA4 h.0 refl)
  done-grown f (Ok (ReadBinary t a n)) h = grown-none img o refl (by-pair img s ch cmd f 0x9000 0x00 0xB0 h.0 refl)
  done-grown f (Ok (UpdateBinary n w)) h =
      grown-changed img o _ (biometrics_kind n) h.1.file.file.ok.kind (write_changes n w _ h.1) (by-pair img s ch cmd f 0x9000 0x00 0xD7 h.0 refl)
  done-grown f (Ok (Activate n)) h =
      let i = h.1.file.ok in
      grown-changed img o _ (biometrics_kind n) i.kind (activate_changes img (biometrics_kind n) o i.kind i.stands) (by-pair img s ch cmd f 0x9000 0x00 0x44 h.0 refl)
  done-grown f (Ok (AppendRecord r)) h = appends-grown f r h
  done-grown f (Ok (ReadRecord r a b)) h = grown-none img o refl (by-pair img s ch cmd f 0x9000 0x00 0xB2 h.pair refl)
  done-grown f (Ok (SearchRecord r q ne)) h = grown-none img o (searched-image _ r q ne) (by-pair img s ch cmd f (searched img s (so_far ch ++ part cmd f.from f.lc) buf r q ne).answer.status 0x00 0xA2 h.pair refl)
  done-grown f (Ok (Report g p2)) h = grown-none img o refl (by-pair img s ch cmd f 0x9000 0x80 0x5E h.0 refl)
  done-grown f (Ok (ReadBinaryOdd t a n)) h = grown-none img o refl (by-pair img s ch cmd f 0x9000 0x00 0xB1 h.0 refl)

  course-grown : (f : Frame) (k : Result Course ℕ) (x : Result Action ℕ) → let d = so_far ch ++ part cmd f.from f.lc in Turned ch f k → FromCourse k img s (whole_frame ch f) d x
      → let u = done x img s d buf in Grown img u.image (λ j. added_by j s ch cmd u.answer.status (Some f))
  unfolding done says
  course-grown f (Err w) x t h =
      let d = so_far ch ++ part cmd f.from f.lc in
      subst (λ (y : Result Action ℕ). let u = done y img s d buf in Grown img u.image (λ j. added_by j s ch cmd u.answer.status (Some f))) (sym h.0)
      (grown-none img o refl (by-status img s ch cmd f w h.1))
  course-grown f (Ok Extends) x (joined t) h =
      let d = so_far ch ++ part cmd f.from f.lc in
      subst (λ (y : Result Action ℕ). let u = done y img s d buf in Grown img u.image (λ j. added_by j s ch cmd u.answer.status (Some f))) (sym h)
      (grown-none img o refl (by-link img s ch cmd f 0x9000 t.link))
  course-grown f (Ok Goes) x t h = done-grown f x h

  shape-grown : (a : Option Frame) (x : Result Action ℕ) → FromShape img s ch cmd a x
      → let u = done x img s (data_by ch cmd a) buf in Grown img u.image (λ k. added_by k s ch cmd u.answer.status a)
  unfolding done says
  shape-grown None x h = grown-none img o (ap (λ (y : Result Action ℕ). (done y img s [] buf).image) h) (λ k. refl)
  shape-grown (Some f) x h = course-grown f (turn ch f) x (turn-told ch f) h

  step_by-grown : (x : Result (Unit {0}) Refusal) → let u = step_by x img s ch cmd buf in Grown img u.image (λ k. added_by k s ch cmd u.answer.status (shape_of cmd))
  unfolding step_by data_of
  step_by-grown (Ok tt) = shape-grown (shape_of cmd) (decide img s ch cmd) (decide-from img s ch cmd)
  step_by-grown (Err r) = grown-none img o refl (refused_none img s ch cmd (shape_of cmd))

-- ---- a move

move_grown : (img list t : List ℕ) → well_formed img ≡ true → Grown img (image_after_move (move_card img list (length t)) (move_card_into img list t) img) (λ k. [])
move_grown img list t o = go (move_card img list (length t)) refl
  where
    go : (m : Result ℕ MoveRefusal) → move_card img list (length t) ≡ m → Grown img (image_after_move m (move_card_into img list t) img) (λ k. [])
    go (Err w) e = grown-none img o refl (λ k. refl)
    go (Ok n) e =
        let c = move_done img list t n e in
        record { well = c.well; files = c.files; records = λ k b. c.records k b ∙ sym (append-nil (records_of img k)) }

-- ---- a command that is cut

grown_as : {img new last : List ℕ} {more most : ℕ → List (List ℕ)} → last ≡ new → ((k : ℕ) → most k ≡ more k) → Grown img new more → Grown img last most
grown_as {img} e n g =
    record {
      well = ap well_formed e ∙ g.well;
      files = λ k h. ap (λ (l : List ℕ). has l k) e ∙ g.files k h;
      records = λ k b. ap (λ (l : List ℕ). records_of l k) e ∙ g.records k b ∙ ap (λ (l : List (List ℕ)). records_of img k ++ l) (sym (n k));
    }

module _ (img : List ℕ) (s : Session) (ch : Chain) (cmd : List ℕ) (n : ℕ) (o : well_formed img ≡ true) where
  -- what is counted of a cut that has m stores, where the command has the shape a
  counted : ℕ → Option Frame → ℕ → List (List ℕ)
  counted m a k = if_else (all_of (leb 1 m ∷ leb m n ∷ [])) (added_by k s ch cmd 0x9000 a) []

  -- nothing where there are none, where the command adds nothing, and where the last is not made
  counted_none : (a : Option Frame) (k : ℕ) → counted 0 a k ≡ []
  unfolding counted all_of
  counted_none a k = refl

  counted-other : (m : ℕ) (a : Option Frame) (k : ℕ) → added_by k s ch cmd 0x9000 a ≡ [] → counted m a k ≡ []
  unfolding counted
  counted-other m a k e = if_else_ind (λ (l : List (List ℕ)). l ≡ []) (all_of (leb 1 m ∷ leb m n ∷ [])) (λ t. e) (λ t. refl)

  counted-less : (m : ℕ) (a : Option Frame) (k : ℕ) → n < m → counted m a k ≡ []
  unfolding counted
  counted-less m a k h =
      if_else_ind (λ (l : List (List ℕ)). l ≡ []) (all_of (leb 1 m ∷ leb m n ∷ []))
      (λ t. absurd (omega (arith, h, leb-true m n (all_of_facts _ t).1.0)))
      (λ t. refl)

  counted-all : (m : ℕ) (a : Option Frame) (k : ℕ) → 1 ≤ m → m ≤ n → counted m a k ≡ added_by k s ch cmd 0x9000 a
  unfolding counted
  counted-all m a k h i = ap (λ (b : Bool). if_else b (added_by k s ch cmd 0x9000 a) []) (all_of_accepted (leb 1 m ∷ leb m n ∷ []) (le-leb 1 m h, (le-leb m n i, tt)))

  -- an append: all of its stores are made, or the last is not
  append-cut-grown : (f : Frame) (r : Rule) → let d = (so_far ch ++ part cmd f.from f.lc) in From img s (whole_frame ch f) d (Ok (AppendRecord r))
      → Grown img (make_stores_in n img r.kind Record d) (counted (length (stores_in img r.kind Record d)) (Some f))
  append-cut-grown f r h =
      by_cases (leb (length d + 4) n)
      (λ e. grown_as (append_all img r.kind d n (leb-true (length d + 4) n e)) (λ k. counted-all m (Some f) k (omega (arith, many)) (omega (arith, many, leb-true (length d + 4) n e))) (appends-grown img s ch cmd [] o f r h))
      (λ e. grown-less (leb-false (length d + 4) n e))
    where
      d : List ℕ
      d = (so_far ch ++ part cmd f.from f.lc)

      m : ℕ
      m = length (stores_in img r.kind Record d)

      a : Accepts img r.kind r (length d)
      a = accepts img s ch cmd [] o d r h.2

      many : m ≡ length d + 4
      many = append-stores img r.kind r d o a

      grown-less : n < length d + 4 → Grown img (make_stores_in n img r.kind Record d) (counted m (Some f))
      grown-less l =
          let c = cut_changes img r.kind r d o a n l in
          let none : (k : ℕ) → records_of img k ++ [] ≡ records_of img k ++ counted m (Some f) k = λ k. ap (λ (x : List (List ℕ)). records_of img k ++ x) (sym (counted-less m (Some f) k (omega (arith, many, l)))) in
          record {
            well = c.well;
            files = λ k y. c.same-files k ∙ y;
            records = λ k b. by_cases (eqb k r.kind)
                (λ e. subst (λ (j : ℕ). records_of (make_stores_in n img r.kind Record d) j ≡ records_of img j) (sym (eqb-true k r.kind e)) (cut_list img r.kind r d o a n l))
                (λ e. records-kept img (make_stores_in n img r.kind Record d) r.kind c k (eqb-false k r.kind e))
                ∙ sym (append-nil (records_of img k)) ∙ none k;
          }

  -- an activation: its store is made or not
  activate-cut-grown : (f : Frame) (b : ℕ) → let d = (so_far ch ++ part cmd f.from f.lc) in From img s (whole_frame ch f) d (Ok (Activate b))
      → Grown img (make_stores_in n img (biometrics_kind b) State d) (counted (length (stores_in img (biometrics_kind b) State d)) (Some f))
  unfolding all_of
  activate-cut-grown f b h =
      let d = (so_far ch ++ part cmd f.from f.lc) in
      let i = h.1.file.ok in
      let none : (k : ℕ) → counted (length (stores_in img (biometrics_kind b) State d)) (Some f) k ≡ [] = λ k. counted-other (length (stores_in img (biometrics_kind b) State d)) (Some f) k (by-pair img s ch cmd f 0x9000 0x00 0x44 h.0 refl k) in
      by_cases (leb 1 n)
      (λ e. grown_as (activate_all img (biometrics_kind b) d n (leb-true 1 n e)) (λ k. refl) (grown-changed img o _ (biometrics_kind b) i.kind (activate_changes img (biometrics_kind b) o i.kind i.stands) none))
      (λ e. let z : n ≡ 0 = omega (arith, leb-false 1 n e) in
      grown-none img o (ap (λ (j : ℕ). make_stores_in j img (biometrics_kind b) State d) z ∙ none_made img (biometrics_kind b) State d) none)

  storing-grown : (f : Frame) (x : Result Action ℕ) → let d = (so_far ch ++ part cmd f.from f.lc) in From img s (whole_frame ch f) d x
      → Grown img (cut_image n (storing x) img d) (counted (cut_stores (storing x) img d) (Some f))
  storing-grown f (Err w) h = grown-none img o refl (counted_none (Some f))
  storing-grown f (Ok (SelectApplication a)) h = grown-none img o refl (counted_none (Some f))
  storing-grown f (Ok (SelectFile g)) h = grown-none img o refl (counted_none (Some f))
  storing-grown f (Ok (ReadBinary t a b)) h = grown-none img o refl (counted_none (Some f))
  storing-grown f (Ok (UpdateBinary b w)) h = grown-none img o refl (counted_none (Some f))
  storing-grown f (Ok (Activate b)) h = activate-cut-grown f b h
  storing-grown f (Ok (AppendRecord r)) h = append-cut-grown f r h
  storing-grown f (Ok (ReadRecord r a b)) h = grown-none img o refl (counted_none (Some f))
  storing-grown f (Ok (SearchRecord r q ne)) h = grown-none img o refl (counted_none (Some f))
  storing-grown f (Ok (Report g p2)) h = grown-none img o refl (counted_none (Some f))
  storing-grown f (Ok (ReadBinaryOdd t a b)) h = grown-none img o refl (counted_none (Some f))

  worded-cut-grown : (d : List ℕ) (w : ℕ) (a : Option Frame) (x : Result Action ℕ) → x ≡ Err w → Grown img (cut_image n (storing x) img d) (counted (cut_stores (storing x) img d) a)
  worded-cut-grown d w a x e =
      subst (λ (y : Result Action ℕ). Grown img (cut_image n (storing y) img d) (counted (cut_stores (storing y) img d) a)) (sym e) (grown-none img o refl (counted_none a))

  course-cut-grown : (f : Frame) (k : Result Course ℕ) (x : Result Action ℕ) → let d = so_far ch ++ part cmd f.from f.lc in FromCourse k img s (whole_frame ch f) d x
      → Grown img (cut_image n (storing x) img d) (counted (cut_stores (storing x) img d) (Some f))
  course-cut-grown f (Err w) x h = worded-cut-grown _ w (Some f) x h.0
  course-cut-grown f (Ok Extends) x h = worded-cut-grown _ normal (Some f) x h
  course-cut-grown f (Ok Goes) x h = storing-grown f x h

  shape-cut-grown : (a : Option Frame) (x : Result Action ℕ) → FromShape img s ch cmd a x → Grown img (cut_image n (storing x) img (data_by ch cmd a)) (counted (cut_stores (storing x) img (data_by ch cmd a)) a)
  shape-cut-grown None x h = worded-cut-grown [] wrong_length None x h
  shape-cut-grown (Some f) x h = course-cut-grown f (turn ch f) x h

  cut_by-grown : (v : Result (Unit {0}) Refusal) → let c = cut_by v img s ch cmd n in Grown img c.image (counted c.answer.stores (shape_of cmd))
  unfolding data_of
  cut_by-grown (Ok tt) = shape-cut-grown (shape_of cmd) (decide img s ch cmd) (decide-from img s ch cmd)
  cut_by-grown (Err r) = grown-none img o refl (counted_none (shape_of cmd))

-- ---- calls, one after the other

pub call_grown : (img : List ℕ) (c : Call) → well_formed img ≡ true → Grown img (after_call img c) (λ k. added k img c)
unfolding after_call added step cut counted
call_grown img (Open rights) o = grown-none img o refl (λ k. refl)
call_grown img (Command s ch cmd buf) o = step_by-grown img s ch cmd buf o (verdict_on img s ch (length buf))
call_grown img (Move list t) o = move_grown img list t o
call_grown img (Cut s ch cmd n) o = cut_by-grown img s ch cmd n o (verdict_on img s ch 2050)

pub calls_held : Holds
unfolding after additions history
calls_held img [] o = record { well = o; files = λ k h. h; records = λ k b. sym (append-nil (records_of img k)) }
calls_held img (c ∷ cs) o =
    let g = call_grown img c o in
    let h = calls_held (after_call img c) cs g.well in
    record {
      well = h.well;
      files = λ k y. h.files k (g.files k y);
      records = λ k b. h.records k b
          ∙ ap (λ (l : List (List ℕ)). l ++ additions k (after_call img c) cs) (g.records k b)
          ∙ append_assoc (records_of img k) (added k img c) (additions k (after_call img c) cs);
    }

after-append : (img : List ℕ) (cs ds : List Call) → after img (cs ++ ds) ≡ after (after img cs) ds
unfolding after
after-append img [] ds = refl
after-append img (c ∷ cs) ds = after-append (after_call img c) cs ds

pub number-kept : NumberKept
unfolding history
number-kept img calls later k n o b h =
    let e = (calls_held (after img calls) later (calls_held img calls o).well).records k b in
    ap (λ (l : List ℕ). nth (records_of l k) n) (after-append img calls later)
    ∙ ap (λ (rs : List (List ℕ)). nth rs n) e
    ∙ nth-kept (records_of (after img calls) k) (additions k (after img calls) later) n h
