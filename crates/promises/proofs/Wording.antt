-- Every status word that a command comes to is one of the words, and neither 9000 nor 6282 (`decide-word`). Read before: ../specs/Words.antt.
use Prim.Native.Nat.{ℕ, ◌/◌, ◌%◌, ◌≤◌}
use mathlib.Core.Path.{◌≡◌, refl, sym, ap, ◌∙◌}
use mathlib.Core.Bool.{Bool, true, false, ◌||◌, ◌&&◌}
use mathlib.Core.Logic.{⊎_elim}
use mathlib.Core.List.Memᴰ
use mathlib.Core.List.{List, [], ◌∷◌, Memᴰ}
use native.Mathlib.Omega.{arith}
use lib.ListN.{length}
use lib.Dec.{leb, eqb}
use borrow.Author.Tests.{eqb-true, leb-true}
use Rattle.machine_chain.specs.Chain.{Chain}
use Rattle.base.specs.Bytes.{part}
use Rattle.base.proofs.Cases.{by_cases, if_else_ind, false-true, and_left, and_right}
use Rattle.objects_templates.specs.Search.{read_search}
use Rattle.objects_templates.specs.OffsetObject.{read_offset_object}
use Rattle.objects_templates.specs.Update.{read_update}
use Rattle.objects_templates.specs.Reference.{read_reference}
use Rattle.store_files.specs.Files.{by_id, by_short}
use Rattle.store_files.specs.Master.{aid_of}
use Rattle.store_files.specs.declared.Transparent.{Transparent}
use Rattle.store_files.specs.declared.Transparent.TheVariants.{Info, Dir, Biometrics}
use Rattle.store_files.specs.declared.File.{File}
use Rattle.store_files.specs.declared.File.TheVariants.{RecordFile, TransparentFile}
use Rattle.store_kinds.specs.declared.rules.Rule.{Rule}
use Rattle.machine_action.specs.Tests.{p1p2, id_in, or_current, id_or_current, on_record, on_transparent, on_biometrics, on_file}
use Rattle.machine_select.specs.Select.{select_aid, select_master, select_file, select_by, select}
use Rattle.machine_select.specs.Fmm.{fmm_on, fmm_named, fmm_file, fmm_by, fmm}
use Rattle.machine_binary.specs.ReadBinary.{read_named, read_offset, read_binary_on, read_binary}
use Rattle.machine_binary.specs.ReadBinaryOdd.{read_odd_on, read_odd_by, read_binary_odd}
use Rattle.machine_binary.specs.UpdateBinary.{update_on, update_by, update_binary}
use Rattle.machine_record.specs.AppendRecord.{append_on, append_record}
use Rattle.machine_record.specs.ReadRecord.{record_named, read_from, read_record_on, read_record}
use Rattle.machine_record.specs.SearchRecord.{file_in, search_named, search_on, search_by, search_record}
use Rattle.machine_session.specs.Resolve.{meant_by, meant_at, file_meant, may_record, may_read, may_inspect, record_by, resolve_record, transparent_by, resolve_transparent, writable, biometrics_by, resolve_biometrics, file_by, resolve_file}
use Rattle.machine_session.specs.declared.Access.{Access}
use Rattle.machine_session.specs.declared.Access.TheVariants.{Read, Append}
use Rattle.machine_session.specs.declared.Place.{Place}
use Rattle.machine_session.specs.declared.Place.TheVariants.{Nowhere, OnFile, OnRecord}
use Rattle.machine_session.specs.declared.Session.{Session}
use Rattle.machine_session.specs.declared.Named.{Named}
use Rattle.machine_session.specs.declared.Named.TheVariants.{Current, Short, Id}
use Rattle.machine_session.proofs.Steps.{in_order-each}
use Rattle.machine_apdu.specs.Shape.{shape_of}
use Rattle.machine_apdu.specs.declared.Frame.{Frame}
use Rattle.machine_action.specs.declared.Action.{Action}
use Rattle.machine_action.specs.declared.Action.TheVariants.{SelectApplication, SelectFile, ReadBinary, UpdateBinary, Activate, AppendRecord, ReadRecord, SearchRecord, Report, ReadBinaryOdd}
use Rattle.machine_binary.specs.Activate.{activate_file}
use Rattle.machine_dispatch.specs.Decide.{by_ins, by_own_ins, by_class, by_shape, decide}
use Rattle.machine_session.specs.Order.{in_order}
use Rattle.machine_apdu.specs.Status.{normal, wrong_length}
use Rattle.machine_action.specs.Tests.{lc_only}
use Rattle.machine_chain.specs.Chain.{is_amid}
use Rattle.machine_link.specs.Parameters.{parameters_fit}
use Rattle.machine_link.specs.Link.{is_link, head_status, join_fits, link_turn, last_turn, turn}
use Rattle.machine_link.specs.declared.Course.{Course}
use Rattle.machine_link.specs.declared.Course.TheVariants.{Extends, Goes}
use Rattle.promises.specs.Words.{words}
use Rattle.std.specs.Prelude.{Option, Some, None, Result, Ok, Err}
use Rattle.objects_templates.specs.declared.Search.{Search}
use Rattle.objects_templates.specs.declared.Writes.{Writes}
use Rattle.objects_templates.specs.Span.{Span}

-- ---- one of a list

abbrev pub among : ℕ → List ℕ → Bool
among w [] = false
among w (x ∷ l) = eqb w x || among w l

pub among_sound : (w : ℕ) (l : List ℕ) → among w l ≡ true → Memᴰ w l
among_sound w [] e = false-true e
among_sound w (x ∷ l) e =
    by_cases (eqb w x)
    (λ y. Memᴰ.head (eqb-true w x y))
    (λ n. Memᴰ.tail (among_sound w l (simp n at e)))

abbrev below : ℕ → List ℕ → Bool
below b [] = true
below b (x ∷ l) = leb x b && below b l

below_each : (b w : ℕ) (l : List ℕ) → below b l ≡ true → Memᴰ w l → w ≤ b
below_each b w [] h m = absurd (Memᴰ.not-nil m)
below_each b w (x ∷ l) h m =
    ⊎_elim
    (λ e. omega (arith, leb-true x b (and_left (leb x b) (below b l) h), e))
    (λ t. below_each b w l (and_right (leb x b) (below b l) h) t)
    (Memᴰ.cases_cons m)

-- no word is above 9000
pub word-most : (w : ℕ) → Memᴰ w words → w ≤ 0x9000
unfolding words
word-most w m = below_each 0x9000 w words refl m

-- the words that refuse a command: all but 9000 and 6282
abbrev pub refusing : List ℕ
refusing = 0x6700 ∷ 0x6E00 ∷ 0x6D00 ∷ 0x6A86 ∷ 0x6A80 ∷ 0x6986 ∷ 0x6A82 ∷ 0x6981 ∷ 0x6982 ∷ 0x6B00 ∷ 0x6A83 ∷ 0x6A84 ∷ 0x6883 ∷ []

abbrev pub is_refusing : ℕ → Bool
is_refusing w = among w refusing

pub refusing_word : (w : ℕ) → is_refusing w ≡ true → Memᴰ w words
unfolding words
refusing_word w e = Memᴰ.tail (Memᴰ.tail (among_sound w refusing e))

-- one that refuses is no other
pub refusing_not : (w v : ℕ) → is_refusing w ≡ true → is_refusing v ≡ false → w ≡ v → ⊥
refusing_not w v y n e = false-true (sym n ∙ ap is_refusing (sym e) ∙ y)

-- ---- steps 7 to 9

abbrev Means : Result File ℕ → Type 0
Means (Err w) = is_refusing w ≡ true
Means (Ok f) = Unit {0}

abbrev RecordStops : Result Rule ℕ → Type 0
RecordStops (Err w) = is_refusing w ≡ true
RecordStops (Ok r) = Unit {0}

abbrev TransparentStops : Result Transparent ℕ → Type 0
TransparentStops (Err w) = is_refusing w ≡ true
TransparentStops (Ok t) = Unit {0}

abbrev BiometricsStops : Result ℕ ℕ → Type 0
BiometricsStops (Err w) = is_refusing w ≡ true
BiometricsStops (Ok n) = Unit {0}

abbrev FileStops : Result File ℕ → Type 0
FileStops (Err w) = is_refusing w ≡ true
FileStops (Ok f) = Unit {0}

module _ (img : List ℕ) (s : Session) where
  lookup-word : (l : Option File) → Means (meant_by l)
  lookup-word (Some f) = tt
  lookup-word None = refl

  meant_word : (n : Named) → Means (file_meant img s n)
  unfolding file_meant
  meant_word Current = place s.place
    where
      place : (p : Place) → Means (meant_at img s.application p)
      place Nowhere = refl
      place (OnFile i) = lookup-word (by_id img s.application i)
      place (OnRecord i n) = lookup-word (by_id img s.application i)
  meant_word (Short x) = lookup-word (by_short img s.application x)
  meant_word (Id i) = lookup-word (by_id img s.application i)

  record-word : (x : Access) (n : Named) → RecordStops (resolve_record img s x n)
  unfolding resolve_record
  record-word x n = go (file_meant img s n) (meant_word n)
    where
      go : (m : Result File ℕ) → Means m → RecordStops (record_by s x m)
      go (Err w) h = h
      go (Ok (TransparentFile t)) h = refl
      go (Ok (RecordFile r)) h = if_else_ind RecordStops (may_record s x r) (λ e. tt) (λ e. refl)

  transparent-word : (n : Named) → TransparentStops (resolve_transparent img s n)
  unfolding resolve_transparent
  transparent-word n = go (file_meant img s n) (meant_word n)
    where
      go : (m : Result File ℕ) → Means m → TransparentStops (transparent_by img s m)
      go (Err w) h = h
      go (Ok (RecordFile r)) h = refl
      go (Ok (TransparentFile t)) h = if_else_ind TransparentStops (may_read img s t) (λ e. tt) (λ e. refl)

  biometrics-word : (n : Named) → BiometricsStops (resolve_biometrics img s n)
  unfolding resolve_biometrics
  biometrics-word n = go (file_meant img s n) (meant_word n)
    where
      of : (t : Transparent) → BiometricsStops (writable img s t)
      of Info = unfold writable in refl
      of Dir = unfold writable in refl
      of (Biometrics k) = unfold writable in in_order-each BiometricsStops _ _ (refl, (refl, tt)) (λ p. tt)

      go : (m : Result File ℕ) → Means m → BiometricsStops (biometrics_by img s m)
      go (Err w) h = h
      go (Ok (RecordFile r)) h = refl
      go (Ok (TransparentFile t)) h = of t

  file-word : (n : Named) → FileStops (resolve_file img s n)
  unfolding resolve_file
  file-word n = go (file_meant img s n) (meant_word n)
    where
      go : (m : Result File ℕ) → Means m → FileStops (file_by img s m)
      go (Err w) h = h
      go (Ok f) h = if_else_ind FileStops (may_inspect img s f) (λ e. tt) (λ e. refl)

-- ---- the commands

abbrev pub Worded : Result Action ℕ → Type 0
Worded (Err w) = is_refusing w ≡ true
Worded (Ok (SelectApplication a)) = Unit {0}
Worded (Ok (SelectFile g)) = Unit {0}
Worded (Ok (ReadBinary t o n)) = Unit {0}
Worded (Ok (UpdateBinary n w)) = Unit {0}
Worded (Ok (Activate n)) = Unit {0}
Worded (Ok (AppendRecord r)) = Unit {0}
Worded (Ok (ReadRecord r a b)) = Unit {0}
Worded (Ok (SearchRecord r q ne)) = Unit {0}
Worded (Ok (Report g p2)) = Unit {0}
Worded (Ok (ReadBinaryOdd t o n)) = Unit {0}

module _ (img : List ℕ) (s : Session) (f : Frame) (d : List ℕ) where
  on-record : (x : Access) (n : Named) (go : Rule → Result Action ℕ) → ((r : Rule) → Worded (go r)) → Worded (on_record (resolve_record img s x n) go)
  on-record x n go h = by (resolve_record img s x n) (record-word img s x n)
    where
      by : (a : Result Rule ℕ) → RecordStops a → Worded (on_record a go)
      by (Err w) o = o
      by (Ok r) o = h r

  on-transparent : (n : Named) (go : Transparent → Result Action ℕ) → ((t : Transparent) → Worded (go t)) → Worded (on_transparent (resolve_transparent img s n) go)
  on-transparent n go h = by (resolve_transparent img s n) (transparent-word img s n)
    where
      by : (a : Result Transparent ℕ) → TransparentStops a → Worded (on_transparent a go)
      by (Err w) o = o
      by (Ok t) o = h t

  on-biometrics : (n : Named) (go : ℕ → Result Action ℕ) → ((k : ℕ) → Worded (go k)) → Worded (on_biometrics (resolve_biometrics img s n) go)
  on-biometrics n go h = by (resolve_biometrics img s n) (biometrics-word img s n)
    where
      by : (a : Result ℕ ℕ) → BiometricsStops a → Worded (on_biometrics a go)
      by (Err w) o = o
      by (Ok k) o = h k

  on-file : (n : Named) (go : File → Result Action ℕ) → ((g : File) → Worded (go g)) → Worded (on_file (resolve_file img s n) go)
  on-file n go h = by (resolve_file img s n) (file-word img s n)
    where
      by : (a : Result File ℕ) → FileStops a → Worded (on_file a go)
      by (Err w) o = o
      by (Ok g) o = h g

  select_word : Worded (select img s f d)
  unfolding select select_by select_master select_file
  select_word =
      in_order-each Worded _ _ (refl, (refl, (refl, (refl, tt))))
      (λ p. if_else_ind Worded (eqb f.header.p1 0x04)
      (λ e. aid (aid_of d))
      (λ e. if_else_ind Worded (eqb f.header.p1 0x02)
      (λ e. on-file (Id (id_in d)) (λ (g : File). Ok (SelectFile g)) (λ g. tt))
      (λ e. if_else_ind Worded (eqb (id_in d) 0x3F00) (λ e. tt) (λ e. refl))))
    where
      aid : (a : Option ℕ) → Worded (select_aid img s a)
      aid None = refl
      aid (Some a) = in_order-each Worded _ _ (refl, (refl, tt)) (λ p. tt)

  read-binary-word : Worded (read_binary img s f)
  unfolding read_binary read_binary_on
  read-binary-word =
      in_order-each Worded _ _ (refl, (refl, tt))
      (λ p. on-transparent (read_named f) (read_binary_on img (read_offset f) f.ne) (λ t. in_order-each Worded _ _ (refl, tt) (λ p. tt)))

  read-odd-word : Worded (read_binary_odd img s f d)
  unfolding read_binary_odd
  read-odd-word = in_order-each Worded _ _ (refl, tt) (λ p. by (read_offset_object d))
    where
      by : (x : Option ℕ) → Worded (read_odd_by img s f x)
      by None = refl
      by (Some o) =
          unfold read_odd_on in
          on-transparent (id_or_current (p1p2 f)) (read_odd_on img o f.ne) (λ t. in_order-each Worded _ _ (refl, (refl, tt)) (λ p. tt))

  update_word : Worded (update_binary img s f d)
  unfolding update_binary
  update_word = in_order-each Worded _ _ (refl, tt) (λ p. by (read_update d))
    where
      by : (u : Option Writes) → Worded (update_by img s (p1p2 f) u)
      by None = refl
      by (Some w) =
          unfold update_on in
          on-biometrics (id_or_current (p1p2 f)) (update_on img w) (λ n. in_order-each Worded _ _ (refl, (refl, tt)) (λ p. tt))

  activate-word : Worded (activate_file img s f)
  unfolding activate_file
  activate-word = in_order-each Worded _ _ (refl, (refl, tt)) (λ p. on-biometrics Current (λ (n : ℕ). Ok (Activate n)) (λ n. tt))

  append-word : Worded (append_record img s f d)
  unfolding append_record append_on
  append-word =
      in_order-each Worded _ _ (refl, (refl, tt))
      (λ p. on-record Append (or_current (f.header.p2 / 8)) (append_on img (length d)) (λ r. in_order-each Worded _ _ (refl, (refl, (refl, tt))) (λ p. tt)))

  read-record-word : Worded (read_record img s f)
  unfolding read_record read_record_on
  read-record-word =
      in_order-each Worded _ _ (refl, (refl, tt))
      (λ p. on-record Read (or_current (f.header.p2 / 8)) (read_record_on img s f) (λ r. by r (record_named s r f.header.p1)))
    where
      by : (r : Rule) (n : Option ℕ) → Worded (read_from img (eqb (f.header.p2 % 8) 4) r n)
      by r None = refl
      by r (Some n) = in_order-each Worded _ _ (refl, tt) (λ p. tt)

  search_word : Worded (search_record img s f d)
  unfolding search_record
  search_word = in_order-each Worded _ _ (refl, (refl, tt)) (λ p. by (read_search d))
    where
      by : (q : Option Search) → Worded (search_by img s f.ne d q)
      by None = refl
      by (Some q) = on-record Read (search_named (file_in d q)) (search_on q f.ne) (λ r. tt)

  fmm-word : Worded (fmm img s f d)
  unfolding fmm
  fmm-word =
      in_order-each Worded _ _ (refl, (refl, (refl, (refl, tt))))
      (λ p. if_else_ind Worded (eqb f.header.p1 0) (λ e. named Current) (λ e. by (read_reference d)))
    where
      named : (n : Named) → Worded (fmm_named img s f.header.p2 n)
      named n = unfold fmm_named fmm_on in on-file n (fmm_on f.header.p2) (λ g. in_order-each Worded _ _ (refl, tt) (λ p. tt))

      by : (r : Option Span) → Worded (fmm_by img s f.header.p2 d r)
      by None = refl
      by (Some q) =
          unfold fmm_file in if_else_ind Worded (eqb (length (part d q.at q.len)) 1) (λ e. in_order-each Worded _ _ (refl, tt) (λ p. named _)) (λ e. named _)

  -- steps 2 and 3
  pub class-word : Worded (by_class img s f d)
  unfolding by_class by_ins by_own_ins
  class-word =
      if_else_ind Worded (eqb f.header.cla 0x00)
      (λ c. if_else_ind Worded (eqb f.header.ins 0xA4) (λ e. select_word)
      (λ n. if_else_ind Worded (eqb f.header.ins 0xB0) (λ e. read-binary-word)
      (λ n. if_else_ind Worded (eqb f.header.ins 0xB1) (λ e. read-odd-word)
      (λ n. if_else_ind Worded (eqb f.header.ins 0xD7) (λ e. update_word)
      (λ n. if_else_ind Worded (eqb f.header.ins 0x44) (λ e. activate-word)
      (λ n. if_else_ind Worded (eqb f.header.ins 0xE2) (λ e. append-word)
      (λ n. if_else_ind Worded (eqb f.header.ins 0xB2) (λ e. read-record-word)
      (λ n. if_else_ind Worded (eqb f.header.ins 0xA2) (λ e. search_word) (λ n. refl)))))))))
      (λ n. if_else_ind Worded (eqb f.header.cla 0x80) (λ c. if_else_ind Worded (eqb f.header.ins 0x5E) (λ e. fmm-word) (λ n. refl)) (λ n. refl))

-- ---- links

-- what stops a command amid a chain
pub data Stopping : Result Course ℕ → Type 0 where
  stopping : (w : ℕ) → is_refusing w ≡ true → Stopping (Err w)
  extending : Stopping (Ok Extends)
  going : Stopping (Ok Goes)

module _ (ch : Chain) (f : Frame) where
  abbrev w : ℕ
  w = head_status ch f.header

  head-word : eqb w normal ≡ false → Stopping (Err w)
  unfolding head_status
  head-word e =
      stopping _ (in_order-each (λ (x : ℕ). eqb x normal ≡ false → is_refusing x ≡ true) _ _ ((λ z. refl), ((λ z. refl), ((λ z. refl), tt))) (λ p z. false-true (sym z)) e)

  short : Stopping (Err wrong_length)
  short = stopping _ refl

  pub turn-word : Stopping (turn ch f)
  unfolding turn link_turn last_turn in_order
  turn-word =
      if_else_ind Stopping (is_link f.header)
      (λ e.
      if_else_ind Stopping (eqb w normal)
      (λ z.
      if_else_ind Stopping (parameters_fit f.header.ins f.header.p1 f.header.p2)
      (λ a. if_else_ind Stopping (lc_only f) (λ b. if_else_ind Stopping (join_fits ch f) (λ d. extending) (λ d. short)) (λ b. short))
      (λ a. stopping _ refl))
      head-word)
      (λ e. if_else_ind Stopping (is_amid ch) (λ z. if_else_ind Stopping (eqb w normal) (λ y. if_else_ind Stopping (join_fits ch f) (λ a. going) (λ a. short)) head-word) (λ z. going))
