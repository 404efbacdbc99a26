-- The bytes of a well-formed SEARCH RECORD come to what steps 7 to 9 answer of its reference (`search_reached`, `reached-outcome`), which for a
-- permitted one is its file (`searching_resolved`). Whatever is decided as a search is such a command (`search_decided_sound`). Read before: ../specs/Promises.antt, section 3.
use Prim.Native.Nat.{ℕ, ◌≤◌}
use mathlib.Core.Path.{◌≡◌, refl, sym, ap, subst, ◌∙◌}
use mathlib.Core.Bool.{Bool, true, false}
use mathlib.Core.Logic.{◌⊎◌, inl, ⊎_elim}
use mathlib.Core.List.{List, [], ◌∷◌, ◌++◌}
use native.Mathlib.Omega.{arith}
use lib.ListN.{length, length-append}
use lib.Dec.{leb, eqb, lit≤}
use borrow.Author.Tests.{eqb-true, le-leb, eq-eqb}
use Rattle.machine_chain.specs.Chain.{Chain, NoChain, so_far}
use Rattle.base.specs.Choice.{if_else, all_of}
use Rattle.base.specs.Bytes.{part, AllBytes}
use Rattle.base.proofs.Cases.{by_cases, false-true, all_of_facts, all_of_accepted}
use Rattle.base.proofs.Parts.{length_part}
use Rattle.store_kinds.specs.declared.rules.Rule.{Rule}
use Rattle.store_files.specs.declared.File.TheVariants.{RecordFile}
use Rattle.objects_writer.specs.Writing.{tlv, tag_bytes, length_bytes}
use Rattle.objects_reader.proofs.Unique.{length-tlv}
use Rattle.objects_templates.specs.Search.{SearchFields, search_data, read_search, SearchSized, Searches}
use Rattle.objects_templates.specs.declared.Search.{Search}
use Rattle.objects_templates.proofs.Searches.{search_sound, search_complete}
use Rattle.machine_session.specs.Order.{in_order}
use Rattle.machine_session.specs.Resolve.{resolve_record}
use Rattle.machine_session.specs.declared.Access.TheVariants.{Read}
use Rattle.machine_session.specs.declared.Session.{Session}
use Rattle.machine_session.proofs.Steps.{in_order-each}
use Rattle.machine_apdu.specs.Shape.{be16_at, or_most, header_of, framed, first_shape, shapes, shape_of}
use Rattle.machine_apdu.specs.declared.Frame.{Frame}
use Rattle.machine_apdu.specs.declared.Header.{Header}
use Rattle.machine_apdu.proofs.Laws.{shape_facts}
use Rattle.machine_action.specs.Tests.{all_le, on_record}
use Rattle.machine_action.specs.declared.Action.{Action}
use Rattle.machine_action.specs.declared.Action.TheVariants.{SelectApplication, SelectFile, ReadBinary, UpdateBinary, Activate, AppendRecord, ReadRecord, SearchRecord, Report, ReadBinaryOdd}
use Rattle.machine_binary.specs.ReadBinary.{read_binary}
use Rattle.machine_binary.specs.ReadBinaryOdd.{read_binary_odd}
use Rattle.machine_record.specs.SearchRecord.{file_in, search_named, search_on, search_by, search_record}
use Rattle.machine_dispatch.specs.Decide.{by_ins, by_class, by_shape, decide, data_by, data_of}
use Rattle.machine_dispatch.proofs.Allowing.{From, SearchBy}
use Rattle.machine_answer.specs.Outcome.{Outcome, says}
use Rattle.machine.specs.Effects.{done}
use Rattle.machine.specs.Step.{verdict_on, step_by, step}
use Rattle.machine_link.specs.Link.{is_command}
use Rattle.promises.specs.Calls.{is_pair, whole_of}
use Rattle.promises.specs.Promises.{SearchCommand, Searching, OnlySearches, SearchRefused}
use Rattle.promises.proofs.Answering.{step_accepted, accepted_facts, taken_accepted}
use Rattle.promises.proofs.Naming.{record_meant, record_permitted, search_meant, meant_resolved}
use Rattle.promises.proofs.Wording.{refusing_not, Worded}
use Rattle.promises.proofs.Whole.{pair_facts, data_length, data_bytes, class_decided, not_both, Way, stops, links, whole, way}
use Rattle.std.specs.Prelude.{Option, Some, None, Result, Ok, Err}
use Rattle.machine_session.specs.declared.Refusal.{Refusal}

-- ---- steps 1 to 3

module _ (ch : Chain) (cmd : List ℕ) (f : Frame) (e : whole_of ch cmd ≡ Some f) where
  -- CLA 00 and INS B0, or B1, lead to READ BINARY
  pub even_led : (img : List ℕ) (s : Session) → is_pair f 0x00 0xB0 ≡ true → decide img s ch cmd ≡ read_binary img s f
  unfolding by_class by_ins is_command
  even_led img s p = let h = pair_facts f 0x00 0xB0 p in class_decided ch cmd f e 0x00 0xB0 p refl refl refl img s ∙ simp (h.0, h.1)

  pub odd_led : (img : List ℕ) (s : Session) → is_pair f 0x00 0xB1 ≡ true → decide img s ch cmd ≡ read_binary_odd img s f (data_of ch cmd)
  unfolding by_class by_ins is_command
  odd_led img s p = let h = pair_facts f 0x00 0xB1 p in class_decided ch cmd f e 0x00 0xB1 p refl refl refl img s ∙ simp (h.0, h.1)

  -- CLA 00 and INS A2 lead to SEARCH RECORD
  led : (img : List ℕ) (s : Session) → f.header.cla ≡ 0x00 → f.header.ins ≡ 0xA2 → decide img s ch cmd ≡ search_record img s f (data_of ch cmd)
  unfolding by_class by_ins is_command is_pair
  led img s c i =
      class_decided ch cmd f e 0x00 0xA2 (all_of_accepted (eqb f.header.cla 0x00 ∷ eqb f.header.ins 0xA2 ∷ []) (eq-eqb _ _ c, (eq-eqb _ _ i, tt))) refl refl refl img s
      ∙ simp (c, i)

-- ---- the tests of SEARCH RECORD

-- step 4 and step 5
pub record Tests (f : Frame) : Type 0 where
  pub p1 : eqb f.header.p1 0 ≡ true
  pub p2 : eqb f.header.p2 0xF8 ≡ true
  pub lc : leb 1 f.lc ≡ true
  pub le : all_le f ≡ true

module _ (img : List ℕ) (s : Session) (f : Frame) (d : List ℕ) where
  passed : Tests f → search_record img s f d ≡ search_by img s f.ne d (read_search d)
  unfolding search_record in_order
  passed t = simp (all_of_accepted (eqb f.header.p1 0 ∷ eqb f.header.p2 0xF8 ∷ []) (t.p1, (t.p2, tt)), all_of_accepted (leb 1 f.lc ∷ all_le f ∷ []) (t.lc, (t.le, tt)))

  -- where a search is decided they held
  tested : (r : Rule) (q : Search) (ne : ℕ) → search_record img s f d ≡ Ok (SearchRecord r q ne) → Tests f
  unfolding search_record
  tested r q ne =
      in_order-each (λ (x : Result Action ℕ). x ≡ Ok (SearchRecord r q ne) → Tests f) _ _ (no 0x6A86, (no 0x6700, tt))
      (λ p e. let a = all_of_facts _ p.0 in let b = all_of_facts _ p.1.0 in record { p1 = a.0; p2 = a.1.0; lc = b.0; le = b.1.0 })
    where
      no : (w : ℕ) → Err w ≡ Ok (SearchRecord r q ne) → Tests f
      no w e = let z : ◌≡◌ {A = ℕ} 0 1 = cc in absurd (omega arith)

-- ---- the twins

header_is : (h : Header) → h.cla ≡ 0x00 → h.ins ≡ 0xA2 → h.p1 ≡ 0x00 → h.p2 ≡ 0xF8 → h ≡ record { cla = 0x00; ins = 0xA2; p1 = 0x00; p2 = 0xF8 }
header_is h a b c d = λ i. record { cla = a i; ins = b i; p1 = c i; p2 = d i }

some_data : (x : SearchFields) → SearchSized x → 1 ≤ length (search_data x)
unfolding search_data
some_data x z =
    let a = tlv 0x81 x.text in
    let b = tlv 0xB1 a in
    let d = tlv 0x51 x.file ++ tlv 0xA1 (tlv 0x80 (x.mode ∷ []) ++ tlv 0xB0 (tlv 0x02 x.offset ++ tlv 0x02 x.number)) in
    let k = z.text_size in
    omega (arith, length-tlv 0x81 x.text, length-tlv 0xB1 a, length-tlv 0xA3 b, length-append d (tlv 0xA3 b), length-tlv 0x7F76 (d ++ tlv 0xA3 b))

-- steps 7 to 9 answer the file of a search
pub searching_resolved : (img : List ℕ) (s : Session) (ch : Chain) (cmd buf : List ℕ) (f : Frame) (x : SearchFields) (r : Rule)
    → verdict_on img s ch (length buf) ≡ (Ok tt)
    → Searching s ch cmd f x r
    → resolve_record img s Read (search_named x.file) ≡ Ok r
searching_resolved img s ch cmd buf f x r a h =
    meant_resolved s r h.permitted.listed img (accepted_facts img s ch (length buf) a).1 Read h.permitted.right (search_named x.file)
    (sym (search_meant s x.file (RecordFile r) h.permitted.listed) ∙ h.meant)

-- a well-formed search comes to what steps 7 to 9 answer of its reference
pub record Reached (img : List ℕ) (s : Session) (ch : Chain) (cmd : List ℕ) (f : Frame) (x : SearchFields) : Type 0 where
  pub query : Search
  pub decided : decide img s ch cmd ≡ on_record (resolve_record img s Read (search_named x.file)) (search_on query f.ne)
  pub searches : Searches (data_of ch cmd) query x

pub search_reached : (img : List ℕ) (s : Session) (ch : Chain) (cmd : List ℕ) (f : Frame) (x : SearchFields) → SearchCommand ch cmd f x → Reached img s ch cmd f x
search_reached img s ch cmd f x c =
    let d = data_of ch cmd in
    let k = search_complete x c.sized in
    let q = k.0 in
    let w : Searches d q x = subst (λ (l : List ℕ). Searches l q x) (sym c.writes) k.2 in
    let n = data_length ch cmd f c.shape in
    let m = ap length c.writes in
    let t : Tests f = record {
      p1 = ap (λ (y : Header). eqb y.p1 0) c.header;
      p2 = ap (λ (y : Header). eqb y.p2 0xF8) c.header;
      lc = le-leb 1 f.lc (omega (arith, some_data x c.sized));
      le = c.le;
    } in
    record {
      query = q;
      decided =
          led ch cmd f c.shape img s (ap (λ (y : Header). y.cla) c.header) (ap (λ (y : Header). y.ins) c.header)
          ∙ passed img s f d t
          ∙ ap (search_by img s f.ne d) (ap read_search c.writes ∙ k.1)
          ∙ ap (λ (v : List ℕ). on_record (resolve_record img s Read (search_named v)) (search_on q f.ne)) w.file_placed.is;
      searches = w;
    }

-- and an accepted one has that outcome
pub reached-outcome : (img : List ℕ) (s : Session) (ch : Chain) (cmd buf : List ℕ) (f : Frame) (x : SearchFields) (k : Reached img s ch cmd f x) (z : Result Rule ℕ)
    → verdict_on img s ch (length buf) ≡ (Ok tt)
    → resolve_record img s Read (search_named x.file) ≡ z
    → step img s ch cmd buf ≡ done (on_record z (search_on k.query f.ne)) img s (data_of ch cmd) buf
reached-outcome img s ch cmd buf f x k z a e =
    step_accepted img s ch cmd buf a
    ∙ ap (λ (y : Result Action ℕ). done y img s (data_of ch cmd) buf) (k.decided ∙ ap (λ (y : Result Rule ℕ). on_record y (search_on k.query f.ne)) e)

pub search_decided_sound : (img : List ℕ) (s : Session) (ch : Chain) (cmd : List ℕ) (r : Rule) (q : Search) (ne : ℕ)
    → AllBytes (so_far ch)
    → AllBytes cmd
    → decide img s ch cmd ≡ Ok (SearchRecord r q ne)
    → (f : Frame) × (x : SearchFields) × Searching s ch cmd f x r × (ne ≡ f.ne) × Searches (data_of ch cmd) q x
search_decided_sound img s ch cmd r q ne a b e = go (way img s ch cmd)
  where
    d : List ℕ
    d = data_of ch cmd

    -- the reference of the fields is that of the data
    here : (x : SearchFields) → file_in d q ≡ x.file → resolve_record img s Read (search_named (file_in d q)) ≡ Ok r → resolve_record img s Read (search_named x.file) ≡ Ok r
    here x i e = ap (λ (l : List ℕ). resolve_record img s Read (search_named l)) (sym i) ∙ e

    go : Way img s ch cmd → (f : Frame) × (x : SearchFields) × Searching s ch cmd f x r × (ne ≡ f.ne) × Searches d q x
    go (stops w z y) = let y : ◌≡◌ {A = Result Action ℕ} (Err w) (Ok (SearchRecord r q ne)) = sym y ∙ e in let y : ◌≡◌ {A = ℕ} 0 1 = cc in absurd (omega arith)
    go (links f y) = let y : ◌≡◌ {A = Result Action ℕ} (Err 0x9000) (Ok (SearchRecord r q ne)) = sym y.action ∙ e in let y : ◌≡◌ {A = ℕ} 0 1 = cc in absurd (omega arith)
    go (whole f y) =
        let z = y.whole in
        let h : SearchBy img s f d r q ne = subst (From img s f d) e y.from in
        let k = search_sound d q h.asks (data_bytes ch cmd f z a b) in
        let x = k.0 in
        let c = eqb-true f.header.cla 0x00 h.pair.0 in
        let i = eqb-true f.header.ins 0xA2 h.pair.1 in
        let v = tested img s f d r q ne (sym (led ch cmd f z img s c i) ∙ e) in
        let l = header_is f.header c i (eqb-true f.header.p1 0x00 v.p1) (eqb-true f.header.p2 0xF8 v.p2) in
        let u = here x k.1.file_placed.is h.at in
        let o = record_permitted img s Read (search_named x.file) r u in (
          f,
          x,
          record {
            command = record { shape = z; header = l; le = v.le; writes = k.1.written; sized = k.1.sized };
            meant = search_meant s x.file (RecordFile r) o.listed ∙ record_meant img s Read (search_named x.file) r u;
            permitted = o;
          },
          h.most,
          k.1,
        )

-- ---- the same of what is answered

-- a call that gets 9000 or 6282 is accepted
two_accepted : (img : List ℕ) (s : Session) (ch : Chain) (cmd buf : List ℕ) → ((step img s ch cmd buf).answer.status ≡ 0x9000) ⊎ ((step img s ch cmd buf).answer.status ≡ 0x6282) → verdict_on img s ch (length buf) ≡ (Ok tt)
unfolding step step_by
two_accepted img s ch cmd buf w = go (verdict_on img s ch (length buf)) w
  where
    go : (x : Result (Unit {0}) Refusal) → ((step_by x img s ch cmd buf).answer.status ≡ 0x9000) ⊎ ((step_by x img s ch cmd buf).answer.status ≡ 0x6282) → x ≡ (Ok tt)
    go (Ok tt) w = refl
    go (Err r) w = absurd (⊎_elim (λ e. omega (arith, e)) (λ e. omega (arith, e)) w)

pub only_searches : OnlySearches
only_searches img s ch cmd buf f a b e p w = by_way (way img s ch cmd)
  where
    u : ((done (decide img s ch cmd) img s (data_of ch cmd) buf).answer.status ≡ 0x9000) ⊎ ((done (decide img s ch cmd) img s (data_of ch cmd) buf).answer.status ≡ 0x6282)
    u = subst (λ (o : Outcome). (o.answer.status ≡ 0x9000) ⊎ (o.answer.status ≡ 0x6282)) (step_accepted img s ch cmd buf (two_accepted img s ch cmd buf w)) w

    ins : f.header.ins ≡ 0xA2
    ins = (pair_facts f 0x00 0xA2 p).1

    -- another INS
    other : {A : Type 0} (i : ℕ) → eqb f.header.ins i ≡ true → eqb 0xA2 i ≡ false → A
    other i h n = false-true (sym n ∙ ap (λ (k : ℕ). eqb k i) (sym ins) ∙ h)

    same-frame : (g : Frame) → whole_of ch cmd ≡ Some g → g ≡ f
    same-frame g z = let y : Some g ≡ Some f = sym z ∙ e in cc

    go : (x : Result Action ℕ) → decide img s ch cmd ≡ x
        → ((done x img s (data_of ch cmd) buf).answer.status ≡ 0x9000) ⊎ ((done x img s (data_of ch cmd) buf).answer.status ≡ 0x6282)
        → From img s f (data_of ch cmd) x → Worded x
        → (x : SearchFields) × (r : Rule) × Searching s ch cmd f x r
    go (Err v) z w h k =
        unfold done says in absurd (⊎_elim (refusing_not v 0x9000 k refl) (refusing_not v 0x6282 k refl) w)
    go (Ok (SelectApplication a)) z w h k = other 0xA4 h.0.1 refl
    go (Ok (SelectFile g)) z w h k = other 0xA4 h.0.1 refl
    go (Ok (ReadBinary u a n)) z w h k = other 0xB0 h.0.1 refl
    go (Ok (UpdateBinary n v)) z w h k = other 0xD7 h.0.1 refl
    go (Ok (Activate n)) z w h k = other 0x44 h.0.1 refl
    go (Ok (AppendRecord r)) z w h k = other 0xE2 h.0.1 refl
    go (Ok (ReadRecord r a n)) z w h k = other 0xB2 h.pair.1 refl
    go (Ok (SearchRecord r q ne)) z w h k =
        let y = search_decided_sound img s ch cmd r q ne a b z in
        (y.1, r, subst (λ (g : Frame). Searching s ch cmd g y.1 r) (same-frame y.0 y.2.command.shape) y.2)
    go (Ok (Report g p2)) z w h k = other 0x5E h.0.1 refl
    go (Ok (ReadBinaryOdd u a n)) z w h k = other 0xB1 h.0.1 refl

    -- the whole command of frame f is no other
    by_way : Way img s ch cmd → (x : SearchFields) × (r : Rule) × Searching s ch cmd f x r
    by_way (stops v n y) =
        unfold done says in
        absurd (⊎_elim (refusing_not v 0x9000 n refl) (refusing_not v 0x6282 n refl)
        (subst (λ (x : Result Action ℕ). ((done x img s (data_of ch cmd) buf).answer.status ≡ 0x9000) ⊎ ((done x img s (data_of ch cmd) buf).answer.status ≡ 0x6282)) y u))
    by_way (links g y) = absurd (not_both ch cmd f g e (pair_facts f 0x00 0xA2 p).0 y.shape y.turned.link)
    by_way (whole g y) =
        let q = same-frame g y.whole in
        go (decide img s ch cmd) refl u (subst (λ (k : Frame). From img s k (data_of ch cmd) (decide img s ch cmd)) q y.from) y.worded

pub search_refused : SearchRefused
search_refused img s ch cmd buf f a b t e h n =
    ap (λ (o : Outcome). o.answer.status) (step_accepted img s ch cmd buf (taken_accepted img s ch cmd buf t) ∙ ap (λ (x : Result Action ℕ). done x img s (data_of ch cmd) buf) decided)
    ∙ said
  where
    five : Bool
    five = all_of (leb 1 f.lc ∷ all_le f ∷ [])

    no-query : read_search (data_of ch cmd) ≡ None
    no-query = go (read_search (data_of ch cmd)) refl
      where
        go : (q : Option Search) → read_search (data_of ch cmd) ≡ q → read_search (data_of ch cmd) ≡ None
        go None z = z
        go (Some q) z =
            let k = search_sound (data_of ch cmd) q z (data_bytes ch cmd f e a b) in
            absurd (n k.0 k.1.written k.1.sized)

    p1 : eqb f.header.p1 0 ≡ true
    p1 = ap (λ (y : Header). eqb y.p1 0) h

    p2 : eqb f.header.p2 0xF8 ≡ true
    p2 = ap (λ (y : Header). eqb y.p2 0xF8) h

    tests : search_record img s f (data_of ch cmd) ≡ if_else five (search_by img s f.ne (data_of ch cmd) (read_search (data_of ch cmd))) (Err 0x6700)
    tests = unfold search_record in_order in simp (all_of_accepted (eqb f.header.p1 0 ∷ eqb f.header.p2 0xF8 ∷ []) (p1, (p2, tt)))

    decided : decide img s ch cmd ≡ if_else five (Err 0x6A80) (Err 0x6700)
    decided =
        led ch cmd f e img s (ap (λ (y : Header). y.cla) h) (ap (λ (y : Header). y.ins) h)
        ∙ tests
        ∙ ap (λ (q : Option Search). if_else five (search_by img s f.ne (data_of ch cmd) q) (Err 0x6700)) no-query

    said : (done (if_else five (Err 0x6A80) (Err 0x6700)) img s (data_of ch cmd) buf).answer.status ≡ if_else five 0x6A80 0x6700
    said = unfold done says in by_cases five (λ y. simp y) (λ y. simp y)

-- ---- m6 of the card to try is such a command, in either spelling

abbrev m6_fields : ℕ → SearchFields
m6_fields b = record { file = b ∷ []; mode = 0x00; offset = 0x03 ∷ []; number = 0x03 ∷ []; text = 0x46 ∷ 0x52 ∷ 0x41 ∷ [] }

abbrev m6_frame : Frame
m6_frame = record { header = record { cla = 0x00; ins = 0xA2; p1 = 0x00; p2 = 0xF8 }; from = 5; lc = 28; le = 1; ne = 256 }

pub m6 : (b : ℕ) → SearchCommand NoChain (0x00 ∷ 0xA2 ∷ 0x00 ∷ 0xF8 ∷ 0x1C ∷ 0x7F ∷ 0x76 ∷ 0x19 ∷ 0x51 ∷ 0x01 ∷ b ∷ 0xA1 ∷ 0x0B ∷ 0x80 ∷ 0x01 ∷ 0x00 ∷ 0xB0 ∷ 0x06 ∷ 0x02 ∷ 0x01 ∷ 0x03 ∷ 0x02 ∷ 0x01 ∷ 0x03 ∷ 0xA3 ∷ 0x07 ∷ 0xB1 ∷ 0x05 ∷ 0x81 ∷ 0x03 ∷ 0x46 ∷ 0x52 ∷ 0x41 ∷ 0x00 ∷ []) m6_frame (m6_fields b)
unfolding whole_of shape_of shapes first_shape framed header_of or_most be16_at all_le all_of data_of search_data tlv tag_bytes length_bytes
m6 b = record {
  shape = refl;
  header = refl;
  le = refl;
  writes = refl;
  sized = record { file_size = (omega arith, omega arith); mode_is = inl refl; offset_size = (omega arith, omega arith); number_size = (omega arith, omega arith); text_size = omega arith; whole = lit≤ tt };
}
