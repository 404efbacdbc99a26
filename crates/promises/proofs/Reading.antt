-- READ RECORD returns the records of a file's history.
use Prim.Native.Nat.{ℕ, ◌/◌, ◌≤◌}
use mathlib.Core.Path.{◌≡◌, refl, sym, ap, ap₂, subst, ◌∙◌}
use mathlib.Core.Bool.{Bool, true, false}
use mathlib.Core.List.{List, [], ◌∷◌}
use native.Mathlib.Omega.{arith}
use lib.ListN.{length, take}
use lib.Seq.{take_all}
use lib.Dec.{leb, eqb}
use borrow.Author.Tests.{eqb-true, eq-eqb, ne_eqb, leb-true, ltb-true}
use Rattle.machine_chain.specs.Chain.{Chain}
use Rattle.base.specs.Choice.{if_else, all_of}
use Rattle.base.specs.Bytes.{part}
use Rattle.base.proofs.Cases.{by_cases, if_else_ind, false-true, all_of_facts}
use Rattle.store_records.specs.Body.{count, nth}
use Rattle.store_kinds.specs.Rules.{is_biometrics}
use Rattle.store_image.specs.Image.{body, well_formed, records_of}
use Rattle.store_kinds.specs.declared.rules.Key.TheVariants.{Kind}
use Rattle.store_kinds.specs.declared.rules.Rule.{Rule}
use Rattle.store_image.proofs.Laws.{rule_regular, biometrics_unruled, records-count, record_file, record_size}
use Rattle.store_files.specs.Loops.{Stored}
use Rattle.store_files.specs.declared.File.TheVariants.{RecordFile}
use Rattle.machine_session.specs.Session.{record_number_at, current_record}
use Rattle.machine_session.specs.declared.Place.{Place}
use Rattle.machine_session.specs.declared.Place.TheVariants.{Nowhere, OnFile, OnRecord}
use Rattle.machine_session.specs.declared.Access.TheVariants.{Read}
use Rattle.machine_session.specs.declared.Session.{Session}
use Rattle.machine_action.specs.Tests.{or_current}
use Rattle.machine_record.specs.ReadRecord.{record_named}
use Rattle.machine_apdu.specs.declared.Frame.{Frame}
use Rattle.machine_dispatch.specs.Decide.{decide, data_by, data_of}
use Rattle.machine_action.specs.declared.Action.{Action}
use Rattle.machine_action.specs.declared.Action.TheVariants.{SelectApplication, SelectFile, ReadBinary, UpdateBinary, Activate, AppendRecord, ReadRecord, SearchRecord, Report, ReadBinaryOdd}
use Rattle.machine_dispatch.proofs.Allowing.{Pair, From, FromShape, ReadBy, decide-from}
use Rattle.machine_reply_record.specs.Joined.{records_data}
use Rattle.machine_reply_record.proofs.Joining.{joined-one}
use Rattle.machine_reply_record.proofs.Joining.{records_bound}
use Rattle.machine_answer.specs.Outcome.{Outcome, says}
use Rattle.machine.specs.Effects.{done}
use Rattle.machine.specs.Step.{step}
use Rattle.promises.specs.Calls.{after, is_pair, history}
use Rattle.promises.specs.Promises.{data_in, Reads, ReadsHistory}
use Rattle.machine_link.specs.Link.{is_command}
use Rattle.promises.proofs.Whole.{whole_from}
use Rattle.promises.proofs.Answering.{data_said, step_accepted, accepted_room, status_accepted}
use Rattle.promises.proofs.Growing.{calls_held}
use Rattle.promises.proofs.Naming.{record_meant, record_permitted, p2-meant}
use Rattle.std.specs.Prelude.{Option, Some, None}
use Rattle.std.specs.Prelude.{Result, Ok, Err}

-- a record file is no biometrics file
pub stored-records : (img : List ℕ) (r : Rule) → Stored img r → is_biometrics r.kind ≡ false
stored-records img r f =
    by_cases (is_biometrics r.kind)
    (λ b. absurd (is-not (sym (biometrics_unruled r.kind b) ∙ f.by_kind)))
    (λ b. b)
  where
    is-not : None ≡ Some r → ⊥
    is-not e = let z : ◌≡◌ {A = ℕ} 0 1 = cc in omega arith

-- the number is P1, or the current record's
record-named : (s : Session) (r : Rule) (p n : ℕ) → record_named s r p ≡ Some n → ((p ≡ 0 → ⊥) → n ≡ p) × (p ≡ 0 → s.place ≡ OnRecord r.id n)
unfolding record_named current_record
record-named s r p n e = (
  λ z. let h : Some p ≡ Some n = simp (ne_eqb p 0 z) at e in let y : p ≡ n = cc in sym y,
  λ z. go s.place (simp (eq-eqb p 0 z) at e),
)
  where
    no : {A : Type 0} → None ≡ Some n → A
    no h = absurd (let z : ◌≡◌ {A = ℕ} 0 1 = cc in omega arith)

    go : (p : Place) → record_number_at p r.id ≡ Some n → p ≡ OnRecord r.id n
    go Nowhere = no
    go (OnFile j) = no
    go (OnRecord j m) =
        if_else_ind (λ (y : Option ℕ). y ≡ Some n → OnRecord j m ≡ OnRecord r.id n) (eqb j r.id)
        (λ t h. let y : m ≡ n = cc in ap₂ OnRecord (eqb-true j r.id t) y)
        (λ t h. no h)

module _ (img : List ℕ) (s : Session) (ch : Chain) (cmd buf : List ℕ) (f : Frame) (o : well_formed img ≡ true) (room : 2050 ≤ length buf) where
  abbrev d : List ℕ
  d = data_of ch cmd

  -- one record is shorter than the cut
  whole : (r : Rule) (n : ℕ) → Stored img r → 1 ≤ n → n ≤ count (body img r.kind) → records_data (records_of img r.kind) n n ≡ nth (records_of img r.kind) n
  unfolding records_data records_of
  whole r n g l h =
      let b = record_file img r.kind r o g.by_kind g.stands in
      let z = record_size r.longest r.most (body img r.kind) b n l h in
      let m = rule_regular (Kind r.kind) r g.by_kind in
      ap (take 2048) (joined-one (records_of img r.kind) n l) ∙ take_all 2048 (nth (records_of img r.kind) n) (omega (arith, z.1, m.long))

  -- what is answered, and of which records
  read-said : (r : Rule) (a b : ℕ) → data_in (done (Ok (ReadRecord r a b)) img s d buf) ≡ records_data (records_of img r.kind) a b
  unfolding done
  read-said r a b = data_said 0x9000 (records_data (records_of img r.kind) a b) _ img buf (records_bound (records_of img r.kind) a b) room

  -- by the records that the file has
  reads : (rs : ℕ → List (List ℕ)) → ((k : ℕ) → is_biometrics k ≡ false → records_of img k ≡ rs k) → (r : Rule) (a b : ℕ) → ReadBy img s f r a b → Reads s f rs (done (Ok (ReadRecord r a b)) img s d buf)
  unfolding records_of
  reads rs same r a b h =
      let g = h.file.file.ok in
      let t = all_of_facts (leb 1 a ∷ leb a (count (body img r.kind)) ∷ []) h.there in
      let e = same r.kind (stored-records img r g) in
      let c : length (records_of img r.kind) ≡ count (body img r.kind) = records-count (body img r.kind) in
      let l = leb-true 1 a t.0 in
      let m = leb-true a (count (body img r.kind)) t.1.0 in
      let n : length (records_of img r.kind) ≡ length (rs r.kind) = ap length e in
      record {
        rule = r;
        number = a;
        meant = p2-meant s (f.header.p2 / 8) (RecordFile r) ∙ record_meant img s Read (or_current (f.header.p2 / 8)) r h.at;
        permitted = record_permitted img s Read (or_current (f.header.p2 / 8)) r h.at;
        by_number = λ z. (record-named s r f.header.p1 a h.first).0 z;
        by_current = λ z. (record-named s r f.header.p1 a h.first).1 z;
        low = l;
        high = omega arith;
        one = λ t. let u : b ≡ a = h.last ∙ ap (λ (x : Bool). if_else x a (count (body img r.kind))) (eq-eqb _ _ t) in
            read-said r a b
            ∙ ap (records_data (records_of img r.kind) a) u
            ∙ whole r a g l m
            ∙ ap (λ (z : List (List ℕ)). nth z a) e;
        onward = λ t. let u : b ≡ length (rs r.kind) = h.last ∙ ap (λ (x : Bool). if_else x a (count (body img r.kind))) (ne_eqb _ _ t) ∙ sym c ∙ n in
            read-said r a b ∙ ap₂ (λ (z : List (List ℕ)) (k : ℕ). records_data z a k) e u;
      }

  -- a READ RECORD that is answered 9000 came to reading records
  other : {A : Type 0} (c i : ℕ) → Pair f c i → is_pair f 0x00 0xB2 ≡ true → all_of (eqb c 0x00 ∷ eqb i 0xB2 ∷ []) ≡ false → A
  unfolding is_pair
  other c i p q e =
      false-true
      (sym e ∙ sym (ap₂ (λ (x y : ℕ). all_of (eqb x 0x00 ∷ eqb y 0xB2 ∷ [])) (eqb-true f.header.cla c p.0) (eqb-true f.header.ins i p.1)) ∙ q)

  read-decided : (rs : ℕ → List (List ℕ)) → ((k : ℕ) → is_biometrics k ≡ false → records_of img k ≡ rs k) → is_pair f 0x00 0xB2 ≡ true → (x : Result Action ℕ) → From img s f d x
      → (done x img s d buf).answer.status ≡ 0x9000 → Reads s f rs (done x img s d buf)
  unfolding all_of
  read-decided rs same q (Err w) h e = let z : w ≡ 0x9000 = unfold done says in e in absurd (omega (arith, ltb-true w 0x9000 h))
  read-decided rs same q (Ok (SelectApplication a)) h e = other 0x00 0xA4 h.0 q refl
  read-decided rs same q (Ok (SelectFile g)) h e = other 0x00 0xA4 h.0 q refl
  read-decided rs same q (Ok (ReadBinary t a n)) h e = other 0x00 0xB0 h.0 q refl
  read-decided rs same q (Ok (UpdateBinary n w)) h e = other 0x00 0xD7 h.0 q refl
  read-decided rs same q (Ok (Activate n)) h e = other 0x00 0x44 h.0 q refl
  read-decided rs same q (Ok (AppendRecord r)) h e = other 0x00 0xE2 h.0 q refl
  read-decided rs same q (Ok (ReadRecord r a b)) h e = reads rs same r a b h
  read-decided rs same q (Ok (SearchRecord r x ne)) h e = other 0x00 0xA2 h.pair q refl
  read-decided rs same q (Ok (Report g n)) h e = other 0x80 0x5E h.0 q refl
  read-decided rs same q (Ok (ReadBinaryOdd t a n)) h e = other 0x00 0xB1 h.0 q refl

pub reads-history : ReadsHistory
reads-history img calls s ch cmd buf f o e q t =
    let now = after img calls in
    let h = calls_held img calls o in
    let x = status_accepted now s ch cmd buf t in
    let u : step now s ch cmd buf ≡ done (decide now s ch cmd) now s (data_of ch cmd) buf = step_accepted now s ch cmd buf x in
    subst (Reads s f (λ k. history k img calls)) (sym u)
    (read-decided now s ch cmd buf f h.well (accepted_room now s ch buf x) (λ k. history k img calls) h.records q (decide now s ch cmd)
    (whole_from ch cmd f e 0x00 0xB2 q refl refl (unfold is_command in refl) now s)
    (sym (ap (λ (v : Outcome). v.answer.status) u) ∙ t))
