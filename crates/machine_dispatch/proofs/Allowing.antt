-- What an action tells of the command that it comes from: that command's tests all held. Read specs/Decide.antt before. Exports `From`,
-- `decide-from`, and `decide_allowed` for the functions that do what a command comes to.
use Prim.Native.Nat.{ℕ, ◌+◌, ◌-◌, ◌/◌, ◌%◌, ◌≤◌}
use mathlib.Core.Path.{◌≡◌, refl, sym, ap, ◌∙◌, subst}
use mathlib.Core.Bool.{Bool, true, ◌||◌, or-true}
use mathlib.Core.List.{List, [], ◌++◌}
use native.Mathlib.Omega.{arith}
use lib.ListN.{length, get_or, length-append, length-take, length-drop, get_or-append, get_or-eq_default}
use lib.Seq.{get_or-append-add}
use lib.Dec.{leb, ltb, eqb, lit<}
use borrow.Author.Tests.{leb-true, ltb-true, ltb-false}
use Rattle.base.specs.Choice.{if_else}
use Rattle.base.specs.Bytes.{part, AllBytes}
use Rattle.base.proofs.Cases.{by_cases, if_else_ind, all_of_facts}
use Rattle.base.proofs.Parts.{get_d_part, length_part}
use Rattle.store_records.specs.Body.{count, append_fits}
use Rattle.store_kinds.specs.Biometrics.{written, room}
use Rattle.store_kinds.specs.Rules.{biometrics_kind}
use Rattle.store_image.specs.Image.{body}
use Rattle.store_kinds.specs.declared.rules.Rule.{Rule}
use Rattle.objects_templates.specs.Search.{read_search}
use Rattle.objects_writer.specs.Fitting.{object_length}
use Rattle.objects_templates.specs.OffsetObject.{read_offset_object}
use Rattle.objects_templates.specs.Update.{read_update}
use Rattle.objects_templates.specs.Reference.{read_reference}
use Rattle.objects_templates.specs.declared.Search.{Search}
use Rattle.objects_templates.specs.declared.Writes.{Writes}
use Rattle.objects_templates.proofs.Searches.{search_sound}
use Rattle.store_files.specs.Files.{file_bytes}
use Rattle.store_files.specs.Master.{aid_of}
use Rattle.store_files.specs.declared.Transparent.{Transparent}
use Rattle.store_files.specs.declared.File.{File}
use Rattle.machine_session.specs.Resolve.{resolve_record, resolve_transparent, resolve_biometrics, resolve_file}
use Rattle.machine_session.specs.Session.{application_fits, is_record_of}
use Rattle.machine_session.specs.declared.Session.{Session}
use Rattle.machine_session.specs.declared.Named.{Named}
use Rattle.machine_session.specs.declared.Named.TheVariants.{Current, Id}
use Rattle.machine_session.specs.declared.Access.{Access}
use Rattle.machine_session.specs.declared.Access.TheVariants.{Read, Append}
use Rattle.machine_session.proofs.Steps.{in_order-each, RecordResolved, TransparentResolved, BiometricsResolved, FileResolved, RecordOk, TransparentOk, BiometricsOk, AnyOk, resolve_record-well_formed, resolve_transparent-well_formed, resolve_biometrics-well_formed, resolve_file-well_formed}
use Rattle.machine_apdu.specs.Status.{normal, wrong_length}
use Rattle.machine_apdu.specs.Shape.{shape_of}
use Rattle.machine_apdu.specs.declared.Frame.{Frame}
use Rattle.machine_chain.specs.Chain.{Chain, so_far}
use Rattle.machine_link.specs.Link.{turn}
use Rattle.machine_link.specs.declared.Course.{Course}
use Rattle.machine_link.specs.declared.Course.TheVariants.{Extends, Goes}
use Rattle.machine_link.proofs.Turning.{Turned, stopped, joined, gone, turn-told}
use Rattle.machine_apdu.proofs.Laws.{shape_facts}
use Rattle.machine_action.specs.Tests.{lc_only, p1p2, id_in, or_current, id_or_current, on_record, on_transparent, on_biometrics, on_file}
use Rattle.machine_select.specs.Select.{select_aid, select_master, select_file, select_by, select}
use Rattle.machine_binary.specs.ReadBinary.{read_named, read_offset, read_binary_on, read_binary}
use Rattle.machine_binary.specs.ReadBinaryOdd.{read_odd_on, read_odd_by, read_binary_odd}
use Rattle.machine_binary.proofs.OddReading.{odd_bounds}
use Rattle.machine_binary.specs.UpdateBinary.{update_on, update_by, update_binary}
use Rattle.machine_binary.specs.Activate.{activate_file}
use Rattle.machine_record.specs.AppendRecord.{append_on, append_record}
use Rattle.machine_record.specs.ReadRecord.{record_named, read_from, read_record_on, read_record}
use Rattle.machine_record.specs.SearchRecord.{file_in, search_named, search_on, search_by, search_record}
use Rattle.machine_select.specs.Fmm.{fmm_on, fmm_named, fmm_file, fmm_by, fmm}
use Rattle.machine_dispatch.specs.Decide.{by_ins, by_own_ins, by_class, whole_frame, data_by, data_of, on_course, by_shape, decide}
use Rattle.machine_dispatch.specs.Loops.{Allowed}
use Rattle.machine_action.specs.declared.Action.{Action}
use Rattle.machine_action.specs.declared.Action.TheVariants.{SelectApplication, SelectFile, ReadBinary, UpdateBinary, Activate, AppendRecord, ReadRecord, SearchRecord, Report, ReadBinaryOdd}
use Rattle.std.specs.Prelude.{Option, Some, None, Result, Ok, Err}
use Rattle.objects_templates.specs.Span.{Span}

-- an append: the file is resolved, and the record has 1 to longest bytes, is not one too many, and fits
pub record Appends (img : List ℕ) (s : Session) (n : ℕ) (r : Rule) : Type 0 where
  pub file : RecordResolved img s Append r
  pub some : 1 ≤ n
  pub short : leb n r.longest ≡ true
  pub few : ltb (count (body img r.kind)) r.most ≡ true
  pub room : append_fits (body img r.kind) n ≡ true

-- a write: the file is resolved, and the bytes are not behind a gap and fit
pub record Writable (img : List ℕ) (s : Session) (n : ℕ) (w : Writes) : Type 0 where
  pub file : BiometricsResolved img s n
  pub behind : leb w.offset (written (body img (biometrics_kind n))) ≡ true
  pub room : leb (w.offset + w.bytes.len) (room (body img (biometrics_kind n))) ≡ true

-- CLA and INS
abbrev pub Pair : Frame → ℕ → ℕ → Type 0
Pair f c i = (eqb f.header.cla c ≡ true) × (eqb f.header.ins i ≡ true)

-- READ RECORD, from record a to record b of r
pub record ReadBy (img : List ℕ) (s : Session) (f : Frame) (r : Rule) (a b : ℕ) : Type 0 where
  pub pair : Pair f 0x00 0xB2
  pub at : resolve_record img s Read (or_current (f.header.p2 / 8)) ≡ Ok r
  pub first : record_named s r f.header.p1 ≡ Some a
  pub last : b ≡ if_else (eqb (f.header.p2 % 8) 4) a (count (body img r.kind))
  pub file : RecordResolved img s Read r
  pub there : is_record_of img r a ≡ true

-- SEARCH RECORD of r, as q asks, for a reply of up to ne bytes
pub record SearchBy (img : List ℕ) (s : Session) (f : Frame) (d : List ℕ) (r : Rule) (q : Search) (ne : ℕ) : Type 0 where
  pub pair : Pair f 0x00 0xA2
  pub asks : read_search d ≡ Some q
  pub at : resolve_record img s Read (search_named (file_in d q)) ≡ Ok r
  pub most : ne ≡ f.ne
  pub file : RecordResolved img s Read r

-- the command that an action comes from, and the tests of it that held; a status word alone is below 9000
abbrev pub From : List ℕ → Session → Frame → List ℕ → Result Action ℕ → Type 0
From img s f d (Err w) = ltb w 0x9000 ≡ true
From img s f d (Ok (SelectApplication a)) = Pair f 0x00 0xA4 × (application_fits img a ≡ true)
From img s f d (Ok (SelectFile g)) = Pair f 0x00 0xA4 × FileResolved img s g
From img s f d (Ok (ReadBinary t o n)) = Pair f 0x00 0xB0 × TransparentResolved img s t × (n ≤ 2048) × (o + n ≤ length (file_bytes img t))
From img s f d (Ok (UpdateBinary n w)) = Pair f 0x00 0xD7 × Writable img s n w
From img s f d (Ok (Activate n)) = Pair f 0x00 0x44 × BiometricsResolved img s n
From img s f d (Ok (AppendRecord r)) = Pair f 0x00 0xE2 × (resolve_record img s Append (or_current (f.header.p2 / 8)) ≡ Ok r) × Appends img s (length d) r
From img s f d (Ok (ReadRecord r a b)) = ReadBy img s f r a b
From img s f d (Ok (SearchRecord r q ne)) = SearchBy img s f d r q ne
From img s f d (Ok (Report g p2)) = Pair f 0x80 0x5E × FileResolved img s g
From img s f d (Ok (ReadBinaryOdd t o n)) = Pair f 0x00 0xB1 × TransparentResolved img s t × (object_length n ≤ 2048) × (o + n ≤ length (file_bytes img t))

module _ (img : List ℕ) (s : Session) (f : Frame) (d : List ℕ) where
  abbrev P : Result Action ℕ → Type 0
  P = From img s f d

  -- with the file that steps 7 to 9 answer
  on-record : (x : Access) (named : Named) (go : Rule → Result Action ℕ) → ((r : Rule) → resolve_record img s x named ≡ Ok r → RecordResolved img s x r → P (go r)) → P (on_record (resolve_record img s x named) go)
  on-record x named go h = by (resolve_record img s x named) refl (resolve_record-well_formed img s x named)
    where
      by : (a : Result Rule ℕ) → resolve_record img s x named ≡ a → RecordOk img s x a → P (on_record a go)
      by (Err w) e o = o
      by (Ok r) e o = h r e o

  on-transparent : (named : Named) (go : Transparent → Result Action ℕ) → ((t : Transparent) → TransparentResolved img s t → P (go t)) → P (on_transparent (resolve_transparent img s named) go)
  on-transparent named go h = by (resolve_transparent img s named) (resolve_transparent-well_formed img s named)
    where
      by : (a : Result Transparent ℕ) → TransparentOk img s a → P (on_transparent a go)
      by (Err w) o = o
      by (Ok t) o = h t o

  on-biometrics : (named : Named) (go : ℕ → Result Action ℕ) → ((n : ℕ) → BiometricsResolved img s n → P (go n)) → P (on_biometrics (resolve_biometrics img s named) go)
  on-biometrics named go h = by (resolve_biometrics img s named) (resolve_biometrics-well_formed img s named)
    where
      by : (a : Result ℕ ℕ) → BiometricsOk img s a → P (on_biometrics a go)
      by (Err w) o = o
      by (Ok n) o = h n o

  on-file : (named : Named) (go : File → Result Action ℕ) → ((g : File) → FileResolved img s g → P (go g)) → P (on_file (resolve_file img s named) go)
  on-file named go h = by (resolve_file img s named) (resolve_file-well_formed img s named)
    where
      by : (a : Result File ℕ) → AnyOk img s a → P (on_file a go)
      by (Err w) o = o
      by (Ok g) o = h g o

  select-from : Pair f 0x00 0xA4 → P (select img s f d)
  unfolding select
  select-from i = in_order-each P _ _ (refl, (refl, (refl, (refl, tt)))) (λ p. chosen f.header.p1)
    where
      master : (x : ℕ) → P (select_master x)
      master x = unfold select_master application_fits in if_else_ind P (eqb x 0x3F00) (λ e. (i, refl)) (λ e. refl)

      application : (a : ℕ) → P (select_aid img s (Some a))
      application a =
          unfold application_fits in
          in_order-each P _ _ (refl, (refl, tt)) (λ p. (i, ap (λ (b : Bool). eqb a 0 || b) p.0 ∙ or-true (eqb a 0)))

      aid : (a : Option ℕ) → P (select_aid img s a)
      aid None = refl
      aid (Some a) = application a

      file : (x : ℕ) → P (select_file img s x)
      file x = unfold select_file in on-file (Id x) (λ (g : File). Ok (SelectFile g)) (λ g r. (i, r))

      chosen : (p1 : ℕ) → P (select_by img s p1 d)
      chosen p1 = unfold select_by in if_else_ind P (eqb p1 0x04) (λ e. aid (aid_of d)) (λ e. if_else_ind P (eqb p1 0x02) (λ e. file (id_in d)) (λ e. master (id_in d)))

  read-binary-from : Pair f 0x00 0xB0 → P (read_binary img s f)
  unfolding read_binary
  read-binary-from i =
      in_order-each P _ _ (refl, (refl, tt)) (λ p. on-transparent (read_named f) _ (read (read_offset f) f.ne))
    where
      read : (o ne : ℕ) (t : Transparent) → TransparentResolved img s t → P (read_binary_on img o ne t)
      read o ne t r =
          unfold read_binary_on in in_order-each P _ _ (refl, tt) (λ p. let h = ltb-true o (length (file_bytes img t)) p.0 in (i, r, omega arith, omega arith))

  read-odd-from : Pair f 0x00 0xB1 → P (read_binary_odd img s f d)
  unfolding read_binary_odd
  read-odd-from i = in_order-each P _ _ (refl, tt) (λ p. data-field (read_offset_object d))
    where
      read : (o : ℕ) (t : Transparent) → TransparentResolved img s t → P (read_odd_on img o f.ne t)
      read o t r =
          unfold read_odd_on in
          in_order-each P _ _ (refl, (refl, tt))
          (λ p. let b = odd_bounds img o f.ne t p.0 p.1.0 in (i, r, b.short, b.inside))

      data-field : (x : Option ℕ) → P (read_odd_by img s f x)
      data-field None = refl
      data-field (Some o) = on-transparent (id_or_current (p1p2 f)) (read_odd_on img o f.ne) (read o)

  update-from : Pair f 0x00 0xD7 → P (update_binary img s f d)
  unfolding update_binary
  update-from i = in_order-each P _ _ (refl, tt) (λ p. data-field (read_update d))
    where
      write : (w : Writes) (n : ℕ) → BiometricsResolved img s n → P (update_on img w n)
      write w n r = unfold update_on in in_order-each P _ _ (refl, (refl, tt)) (λ p. (i, record { file = r; behind = p.0; room = p.1.0 }))

      data-field : (u : Option Writes) → P (update_by img s (p1p2 f) u)
      data-field None = refl
      data-field (Some w) = on-biometrics (id_or_current (p1p2 f)) (update_on img w) (write w)

  activate-from : Pair f 0x00 0x44 → P (activate_file img s f)
  unfolding activate_file
  activate-from i = in_order-each P _ _ (refl, (refl, tt)) (λ p. on-biometrics Current (λ (n : ℕ). Ok (Activate n)) (λ n r. (i, r)))

  append-from : length d ≡ f.lc → Pair f 0x00 0xE2 → P (append_record img s f d)
  unfolding append_record
  append-from l i =
      in_order-each P _ _ (refl, (refl, tt))
      (λ p. on-record Append (or_current (f.header.p2 / 8)) (append_on img (length d)) (λ r e o. on r e o (some p.1.0)))
    where
      some : lc_only f ≡ true → 1 ≤ length d
      some e = let h = leb-true 1 f.lc (unfold lc_only in (all_of_facts _ e).0) in omega arith

      on : (r : Rule) → resolve_record img s Append (or_current (f.header.p2 / 8)) ≡ Ok r → RecordResolved img s Append r → 1 ≤ length d → P (append_on img (length d) r)
      on r e o h =
          unfold append_on in
          in_order-each P _ _ (refl, (refl, (refl, tt))) (λ p. (i, e, record { file = o; some = h; short = p.0; few = p.1.0; room = p.1.1.0 }))

  read-record-from : Pair f 0x00 0xB2 → P (read_record img s f)
  unfolding read_record
  read-record-from i =
      in_order-each P _ _ (refl, (refl, tt)) (λ p. on-record Read (or_current (f.header.p2 / 8)) (read_record_on img s f) on)
    where
      on : (r : Rule) → resolve_record img s Read (or_current (f.header.p2 / 8)) ≡ Ok r → RecordResolved img s Read r → P (read_record_on img s f r)
      on r e o = unfold read_record_on in go (record_named s r f.header.p1) refl
        where
          go : (n : Option ℕ) → record_named s r f.header.p1 ≡ n → P (read_from img (eqb (f.header.p2 % 8) 4) r n)
          go None q = refl
          go (Some n) q =
              in_order-each P _ _ (refl, tt) (λ p. record { pair = i; at = e; first = q; last = refl; file = o; there = p.0 })

  search-from : Pair f 0x00 0xA2 → P (search_record img s f d)
  unfolding search_record
  search-from i = in_order-each P _ _ (refl, (refl, tt)) (λ p. data-field (read_search d) refl)
    where
      data-field : (q : Option Search) → read_search d ≡ q → P (search_by img s f.ne d q)
      data-field None e = refl
      data-field (Some q) e =
          on-record Read (search_named (file_in d q)) (search_on q f.ne) (λ r w o. record { pair = i; asks = e; at = w; most = refl; file = o })

  fmm-from : Pair f 0x80 0x5E → P (fmm img s f d)
  unfolding fmm
  fmm-from i =
      in_order-each P _ _ (refl, (refl, (refl, (refl, tt))))
      (λ p. if_else_ind P (eqb f.header.p1 0) (λ e. named f.header.p2 Current) (λ e. data-field f.header.p2 (read_reference d)))
    where
      report : (p2 : ℕ) (g : File) → FileResolved img s g → P (fmm_on p2 g)
      report p2 g r = unfold fmm_on in in_order-each P _ _ (refl, tt) (λ p. (i, r))

      named : (p2 : ℕ) (n : Named) → P (fmm_named img s p2 n)
      named p2 n = unfold fmm_named in on-file n (fmm_on p2) (report p2)

      file : (p2 : ℕ) (v : List ℕ) → P (fmm_file img s p2 v)
      file p2 v = unfold fmm_file in if_else_ind P (eqb (length v) 1) (λ e. in_order-each P _ _ (refl, tt) (λ p. named p2 _)) (λ e. named p2 (Id (id_in v)))

      data-field : (p2 : ℕ) (r : Option Span) → P (fmm_by img s p2 d r)
      data-field p2 None = refl
      data-field p2 (Some q) = file p2 (part d q.at q.len)

  -- steps 2 and 3
  pub class-from : length d ≡ f.lc → P (by_class img s f d)
  unfolding by_class by_ins by_own_ins
  class-from l =
      if_else_ind P (eqb f.header.cla 0x00)
      (λ c. if_else_ind P (eqb f.header.ins 0xA4) (λ e. select-from (c, e))
      (λ n. if_else_ind P (eqb f.header.ins 0xB0) (λ e. read-binary-from (c, e))
      (λ n. if_else_ind P (eqb f.header.ins 0xB1) (λ e. read-odd-from (c, e))
      (λ n. if_else_ind P (eqb f.header.ins 0xD7) (λ e. update-from (c, e))
      (λ n. if_else_ind P (eqb f.header.ins 0x44) (λ e. activate-from (c, e))
      (λ n. if_else_ind P (eqb f.header.ins 0xE2) (λ e. append-from l (c, e))
      (λ n. if_else_ind P (eqb f.header.ins 0xB2) (λ e. read-record-from (c, e))
      (λ n. if_else_ind P (eqb f.header.ins 0xA2) (λ e. search-from (c, e)) (λ n. refl)))))))))
      (λ n. if_else_ind P (eqb f.header.cla 0x80) (λ c. if_else_ind P (eqb f.header.ins 0x5E) (λ e. fmm-from (c, e)) (λ n. refl)) (λ n. refl))

-- what a command comes to tells of the command: a status word below 9000; a link that is taken; or the whole command
abbrev pub FromCourse : Result Course ℕ → List ℕ → Session → Frame → List ℕ → Result Action ℕ → Type 0
FromCourse (Err w) img s f d x = (x ≡ Err w) × (ltb w 0x9000 ≡ true)
FromCourse (Ok Extends) img s f d x = x ≡ Err normal
FromCourse (Ok Goes) img s f d x = From img s f d x

abbrev pub FromShape : List ℕ → Session → Chain → List ℕ → Option Frame → Result Action ℕ → Type 0
FromShape img s ch cmd None x = x ≡ Err wrong_length
FromShape img s ch cmd (Some f) x = FromCourse (turn ch f) img s (whole_frame ch f) (so_far ch ++ part cmd f.from f.lc) x

pub decide-from : (img : List ℕ) (s : Session) (ch : Chain) (cmd : List ℕ) → FromShape img s ch cmd (shape_of cmd) (decide img s ch cmd)
unfolding decide
decide-from img s ch cmd = go (shape_of cmd) refl
  where
    course : (g f : Frame) (d : List ℕ) (k : Result Course ℕ) → length d ≡ f.lc → Turned ch g k → FromCourse k img s f d (on_course k img s f d)
    course g f d (Err w) l (stopped v b) = (refl, b)
    course g f d (Ok Extends) l (joined x) = refl
    course g f d (Ok Goes) l (gone x) = class-from img s f d l

    go : (a : Option Frame) → shape_of cmd ≡ a → FromShape img s ch cmd a (by_shape img s ch cmd a)
    go None e = refl
    go (Some f) e =
        let h = shape_facts cmd (shape_of cmd) f refl e in
        let d = part cmd f.from f.lc in
        course f (whole_frame ch f) (so_far ch ++ d) (turn ch f)
        (length-append (so_far ch) d ∙ ap (λ (n : ℕ). length (so_far ch) + n) (length_part cmd f.from f.lc h.inside))
        (turn-told ch f)

-- the file reference of a search has at most two bytes
pub reference-short : (d : List ℕ) (q : Search) → read_search d ≡ Some q → AllBytes d → length (file_in d q) ≤ 2
reference-short d q e b =
    let z = search_sound d q e b in
    let x = z.0 in
    let l : length (part d q.file.at q.file.len) ≡ length x.file = ap length z.1.file_placed.is in
    omega (arith, z.1.sized.file_size.1)

pub from_allowed : (img : List ℕ) (s : Session) (f : Frame) (d : List ℕ) (x : Result Action ℕ) → AllBytes d → From img s f d x → Allowed img d x
from_allowed img s f d (Err w) b h = tt
from_allowed img s f d (Ok (SelectApplication a)) b h = tt
from_allowed img s f d (Ok (SelectFile g)) b h = tt
from_allowed img s f d (Ok (ReadBinary t o n)) b h = (h.2, h.3)
from_allowed img s f d (Ok (UpdateBinary n w)) b h = tt
from_allowed img s f d (Ok (Activate n)) b h = tt
from_allowed img s f d (Ok (AppendRecord r)) b h = tt
from_allowed img s f d (Ok (ReadRecord r a z)) b h = (h.file.file.ok, h.there)
from_allowed img s f d (Ok (SearchRecord r q ne)) b h = (h.file.file.ok, reference-short d q h.asks b)
from_allowed img s f d (Ok (Report g p2)) b h = tt
from_allowed img s f d (Ok (ReadBinaryOdd t o n)) b h = (h.2, h.3)

pub bytes-part : (c : List ℕ) (a n : ℕ) → AllBytes c → AllBytes (part c a n)
unfolding AllBytes
bytes-part c a n b i =
    by_cases (ltb i n)
    (λ e. rw (get_d_part c a n i (ltb-true i n e)) (b (a + i)))
    (λ e. let h = ltb-false i n e in rw (get_or-eq_default (part c a n) 0 {n = i} (simp (length-take, length-drop) (omega arith))) (lit< tt))

pub bytes-append : (a b : List ℕ) → AllBytes a → AllBytes b → AllBytes (a ++ b)
unfolding AllBytes
bytes-append a b p q i =
    by_cases (ltb i (length a))
    (λ e. rw (get_or-append a b 0 i (ltb-true i (length a) e)) (p i))
    (λ e.
    let h = ltb-false i (length a) e in
    let k : i ≡ length a + (i - length a) = omega arith in
    rw (ap (λ (j : ℕ). get_or (a ++ b) j 0) k ∙ get_or-append-add a b (i - length a) 0) (q (i - length a)))

-- whatever is decided, its tests held
pub decide_allowed : (img : List ℕ) (s : Session) (ch : Chain) (cmd : List ℕ) → AllBytes (so_far ch) → AllBytes cmd → Allowed img (data_of ch cmd) (decide img s ch cmd)
unfolding data_of
decide_allowed img s ch cmd a b = go (shape_of cmd) (decide-from img s ch cmd)
  where
    x : Result Action ℕ
    x = decide img s ch cmd

    course : (f : Frame) (d : List ℕ) (k : Result Course ℕ) → AllBytes d → FromCourse k img s f d x → Allowed img d x
    course f d (Err w) z h = subst (Allowed img d) (sym h.0) tt
    course f d (Ok Extends) z h = subst (Allowed img d) (sym h) tt
    course f d (Ok Goes) z h = from_allowed img s f d x z h

    go : (p : Option Frame) → FromShape img s ch cmd p x → Allowed img (data_by ch cmd p) x
    go None h = subst (Allowed img []) (sym h) tt
    go (Some f) h =
        course (whole_frame ch f) (so_far ch ++ part cmd f.from f.lc) (turn ch f) (bytes-append (so_far ch) _ a (bytes-part cmd f.from f.lc b)) h
