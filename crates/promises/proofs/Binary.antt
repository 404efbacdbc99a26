-- READ BINARY in its two forms (`both_reads`, `odd_reaches`). Both come to the same file: whatever means it, step 7 looks for it as by its id. From
-- there on the two differ in step 10 alone. Read before: ../specs/Binary.antt.
use Prim.Native.Nat.{ℕ, ◌+◌, ◌-◌, ◌≤◌, ◌<◌, min}
use mathlib.Core.Path.{◌≡◌, refl, sym, ap, ap₂, subst, ◌∙◌}
use mathlib.Core.Bool.{true, false}
use mathlib.Core.List.{List, []}
use native.Mathlib.Omega.{arith}
use lib.ListN.{length, take, drop, length-take, length-drop}
use lib.Seq.{take-take, take_all, length-take-le}
use lib.Dec.{ltb, leb, eqb}
use borrow.Author.Tests.{eqb-true, eqb-false, eq-eqb, lt-ltb, le-ltb, lt-leb, le-leb, ltb-true, ltb-false, leb-true, leb-false}
use Rattle.machine_chain.specs.Chain.{Chain}
use Rattle.base.specs.Choice.{all_of}
use Rattle.base.specs.Bytes.{part}
use Rattle.base.proofs.Cases.{by_cases, all_of_accepted}
use Rattle.base.proofs.Parts.{length_part}
use Rattle.objects_writer.specs.Writing.{tlv}
use Rattle.objects_writer.specs.Fitting.{object_length}
use Rattle.objects_writer.proofs.Fitting.{length-tlv-part}
use Rattle.objects_templates.specs.OffsetObject.{read_offset_object}
use Rattle.objects_templates.proofs.Offsets.{offset_complete}
use Rattle.store_files.specs.Files.{file_bytes}
use Rattle.store_files.specs.declared.Transparent.{Transparent}
use Rattle.store_files.specs.declared.File.TheVariants.{TransparentFile}
use Rattle.machine_session.specs.Order.{in_order}
use Rattle.machine_session.specs.Session.{set_file}
use Rattle.machine_session.specs.Resolve.{transparent_by, resolve_transparent}
use Rattle.machine_session.specs.declared.Session.{Session}
use Rattle.machine_session.specs.declared.Named.{Named}
use Rattle.machine_session.proofs.Steps.{TransparentOk, resolve_transparent-well_formed}
use Rattle.machine_apdu.specs.declared.Frame.{Frame}
use Rattle.machine_action.specs.Tests.{le_only, lc_and_le, p1p2, id_or_current, on_transparent}
use Rattle.machine_action.specs.declared.Action.{Action}
use Rattle.machine_action.specs.declared.Action.TheVariants.{ReadBinary, ReadBinaryOdd}
use Rattle.machine_binary.specs.ReadBinary.{names_current, p1_fits, read_named, read_offset, read_binary_on, read_binary}
use Rattle.machine_binary.specs.ReadBinaryOdd.{read_odd_on, read_odd_by, read_binary_odd}
use Rattle.machine_binary.proofs.OddReading.{odd_count, odd_bounds}
use Rattle.machine_dispatch.specs.Decide.{decide, data_of}
use Rattle.machine_answer.specs.Outcome.{Outcome, says}
use Rattle.machine.specs.Effects.{done}
use Rattle.machine.specs.Step.{step}
use Rattle.promises.specs.Files.{is_meant, Inspected}
use Rattle.promises.specs.Promises.{data_in}
use Rattle.promises.specs.Binary.{EvenRead, OddRead, SameRead, BothReads, OddAnswered, OddReaches}
use Rattle.promises.proofs.Answering.{data_said, step_accepted, taken_accepted, accepted_facts, accepted_room}
use Rattle.promises.proofs.Naming.{by_its_id, meant-by_id, inspected_resolved}
use Rattle.promises.proofs.Deciding.{even_led, odd_led}
use Rattle.promises.proofs.Doing.{read_named_lem, id-or-current}
use Rattle.std.specs.Prelude.{Some, Result, Ok, Err}

-- two fronts of a list agree up to the shorter
fronts : (l : List ℕ) (m n : ℕ) → m ≤ length l → n ≤ length l → take (length (take m l)) (take n l) ≡ take (length (take n l)) (take m l)
fronts l m n h k =
    ap (λ (x : ℕ). take x (take n l)) (length-take-le m l h)
    ∙ by_cases (leb m n) (λ e. shorter m n h (leb-true m n e)) (λ e. sym (shorter n m k (let d = leb-false m n e in omega arith)))
    ∙ sym (ap (λ (x : ℕ). take x (take m l)) (length-take-le n l k))
  where
    shorter : (i j : ℕ) → i ≤ length l → i ≤ j → take i (take j l) ≡ take j (take i l)
    shorter i j a b = take-take i j l b ∙ sym (take_all j (take i l) (let e = length-take-le i l a in omega arith))

-- ---- step 10

-- how many bytes B0 returns
abbrev even_count : List ℕ → ℕ → ℕ → Transparent → ℕ
even_count img offset ne t = min ne (min 2048 (length (file_bytes img t) - offset))

module _ (img : List ℕ) (s : Session) (offset nf ng : ℕ) (d e buf other : List ℕ) (room : 2050 ≤ length buf) (space : 2050 ≤ length other) where
  abbrev Same : Result Action ℕ → Result Action ℕ → Type 0
  Same x y = SameRead ng (done x img s d buf) (done y img s e other)

  -- both get the same word
  stopped : (w : ℕ) → ltb w 0x9000 ≡ true → Same (Err w) (Err w)
  unfolding done says
  stopped w h = let l = ltb-true w 0x9000 h in record {
    status = λ _. refl;
    too_short = λ _ z. absurd (omega (arith, z));
    other_word = λ _. refl;
    bytes = λ z. absurd (omega (arith, z));
    session = λ z. absurd (omega (arith, z));
    image = refl;
  }

  -- Ne has no room for a byte in an object
  small : (t : Transparent) (n : ℕ) → ng < 3 → Same (Ok (ReadBinary t offset n)) (Err 0x6700)
  unfolding done says
  small t n h = record {
    status = λ k. absurd (omega arith);
    too_short = λ _ _. refl;
    other_word = λ z. absurd (z refl);
    bytes = λ z. absurd (omega (arith, z));
    session = λ z. absurd (omega (arith, z));
    image = refl;
  }

  -- both return bytes of the file
  read : (t : Transparent) (m n : ℕ) → n ≤ 2048 → object_length m ≤ 2048 → offset + n ≤ length (file_bytes img t) → offset + m ≤ length (file_bytes img t)
      → 3 ≤ ng → Same (Ok (ReadBinary t offset n)) (Ok (ReadBinaryOdd t offset m))
  unfolding done says
  read t m n h k i j g =
      let fb : List ℕ = file_bytes img t in
      let o = data_said 0x9000 (part fb offset n) (set_file s (TransparentFile t)) img buf (omega (arith, length_part fb offset n i)) room in
      let p = data_said 0x9000 (tlv 0x53 (part fb offset m)) (set_file s (TransparentFile t)) img other (omega (arith, k, length-tlv-part 0x53 fb offset m (omega arith) j)) space in
      let l = length-drop offset fb in
      record {
        status = λ _. refl;
        too_short = λ z. absurd (omega arith);
        other_word = λ z. absurd (z refl);
        bytes = λ _. (
          part fb offset m,
          p,
          subst (λ (x : List ℕ). take (length (part fb offset m)) x ≡ take (length x) (part fb offset m)) (sym o) (fronts (drop offset fb) m n (omega arith) (omega arith)),
        );
        session = λ _. refl;
        image = refl;
      }

  -- on the file that steps 7 to 9 answer
  on : (t : Transparent) → Same (read_binary_on img offset nf t) (read_odd_on img offset ng t)
  unfolding read_binary_on read_odd_on in_order
  on t =
      by_cases (ltb offset (length (file_bytes img t)))
      (λ a. simp a (by_cases (leb 3 ng)
      (λ b. simp b (let k = odd_bounds img offset ng t a b in let l = ltb-true offset (length (file_bytes img t)) a in
      read t (odd_count img offset ng t) (even_count img offset nf t) (omega arith) k.short (omega arith) k.inside (leb-true 3 ng b)))
      (λ b. simp b (small t (even_count img offset nf t) (leb-false 3 ng b)))))
      (λ a. simp a (stopped 0x6B00 refl))

  onward : (x : Result Transparent ℕ) → TransparentOk img s x → Same (on_transparent x (read_binary_on img offset nf)) (on_transparent x (read_odd_on img offset ng))
  onward (Err w) h = stopped w h
  onward (Ok t) h = on t

-- B1 on a file, by its size
answered : (img : List ℕ) (s : Session) (t : Transparent) (offset ne : ℕ) (d buf : List ℕ) → OddAnswered img t offset ne (done (read_odd_on img offset ne t) img s d buf)
unfolding read_odd_on in_order done says
answered img s t offset ne d buf = record {
  past_end = λ h. simp (le-ltb offset (length (file_bytes img t)) h);
  no_room = λ h k. simp (lt-ltb offset (length (file_bytes img t)) h, lt-leb 3 ne k);
  read = λ h k. simp (lt-ltb offset (length (file_bytes img t)) h, le-leb 3 ne k);
}

-- ---- steps 1 to 9

-- what steps 7 to 9 answer, by the file's id
module _ (img : List ℕ) (s : Session) (t : Transparent) where
  abbrev answer : Result Transparent ℕ
  answer = transparent_by img s (by_its_id img s t)

  resolved : (n : Named) → is_meant s n (TransparentFile t) ≡ true → resolve_transparent img s n ≡ answer
  unfolding resolve_transparent
  resolved n h = ap (transparent_by img s) (meant-by_id img s t n h)

-- B0
module _ (img : List ℕ) (s : Session) (ch : Chain) (cmd : List ℕ) (f : Frame) (t : Transparent) (offset : ℕ) (r : EvenRead s ch cmd f t offset) where
  even-named : (is_meant s (read_named f) (TransparentFile t) ≡ true) × (offset ≡ read_offset f) × (p1_fits f.header.p1 ≡ true)
  unfolding p1_fits names_current
  even-named =
      by_cases (ltb f.header.p1 0x80)
      (λ e. let h = ltb-true f.header.p1 0x80 e in let q = (read_named_lem f).0 h in let k = r.of_current h in
      (rw q.0 k.0, k.1 ∙ sym q.1, simp e))
      (λ e. let h = ltb-false f.header.p1 0x80 e in let q = (read_named_lem f).1 h in let k = r.of_short h in
      (rw q.0 k.1, k.2 ∙ sym q.1, simp (e, eq-eqb _ _ k.0)))

  even-lengths : le_only f ≡ true
  unfolding le_only
  even-lengths = all_of_accepted _ (eq-eqb f.lc 0 r.no_lc, (le-leb 1 f.le r.le, tt))

  even-decided : decide img s ch cmd ≡ on_transparent (answer img s t) (read_binary_on img offset f.ne)
  unfolding read_binary in_order
  even-decided =
      let n = even-named in
      even_led ch cmd f r.shape img s r.pair ∙ simp (n.2, even-lengths, resolved img s t (read_named f) n.0, n.1)

-- B1
module _ (img : List ℕ) (s : Session) (ch : Chain) (cmd : List ℕ) (f : Frame) (t : Transparent) (offset : ℕ) (r : OddRead s ch cmd f t offset) where
  odd-named : is_meant s (id_or_current (p1p2 f)) (TransparentFile t) ≡ true
  odd-named =
      by_cases (eqb (p1p2 f) 0)
      (λ e. let h = eqb-true (p1p2 f) 0 e in rw ((id-or-current (p1p2 f)).0 h) (r.of_current h))
      (λ e. let h = eqb-false (p1p2 f) 0 e in rw ((id-or-current (p1p2 f)).1 h) (r.of_id h))

  -- the data says the offset
  odd-offset : read_offset_object (data_of ch cmd) ≡ Some offset
  odd-offset = let x = offset_complete r.value r.size in ap read_offset_object r.asks ∙ x.1 ∙ ap Some (x.2.offset_is ∙ sym r.offset_is)

  odd-lengths : lc_and_le f ≡ true
  unfolding lc_and_le
  odd-lengths = all_of_accepted _ (le-leb 1 f.lc r.lc, (le-leb 1 f.le r.le, tt))

  odd-decided : decide img s ch cmd ≡ on_transparent (resolve_transparent img s (id_or_current (p1p2 f))) (read_odd_on img offset f.ne)
  unfolding read_binary_odd in_order
  odd-decided = odd_led ch cmd f r.shape img s r.pair ∙ simp (odd-lengths, odd-offset)

-- ---- the promises

pub both_reads : BothReads
both_reads img s ch c even odd buf other f g t offset v w x y =
    let a = taken_accepted img s ch even buf v in
    let b = taken_accepted img s c odd other w in
    let z = answer img s t in
    let o : step img s ch even buf ≡ done (on_transparent z (read_binary_on img offset f.ne)) img s (data_of ch even) buf =
    step_accepted img s ch even buf a ∙ ap (λ (q : Result Action ℕ). done q img s (data_of ch even) buf) (even-decided img s ch even f t offset x) in
    let p : step img s c odd other ≡ done (on_transparent z (read_odd_on img offset g.ne)) img s (data_of c odd) other =
    step_accepted img s c odd other b
    ∙ ap (λ (q : Result Action ℕ). done q img s (data_of c odd) other) (odd-decided img s c odd g t offset y)
    ∙ ap (λ (q : Result Transparent ℕ). done (on_transparent q (read_odd_on img offset g.ne)) img s (data_of c odd) other) (resolved img s t _ (odd-named img s c odd g t offset y)) in
    let k = subst (TransparentOk img s) (resolved img s t (read_named f) (even-named img s ch even f t offset x).0) (resolve_transparent-well_formed img s (read_named f)) in
    rw (o, p) (onward img s offset f.ne g.ne (data_of ch even) (data_of c odd) buf other (accepted_room img s ch buf a) (accepted_room img s c other b) z k)

pub odd_reaches : OddReaches
odd_reaches img s ch cmd buf f t offset v r there right =
    let a = taken_accepted img s ch cmd buf v in
    let i : Inspected img s (id_or_current (p1p2 f)) (TransparentFile t) = record { meant = odd-named img s ch cmd f t offset r; there = there; right = right } in
    let o : step img s ch cmd buf ≡ done (read_odd_on img offset f.ne t) img s (data_of ch cmd) buf =
    step_accepted img s ch cmd buf a
    ∙ ap (λ (q : Result Action ℕ). done q img s (data_of ch cmd) buf) (odd-decided img s ch cmd f t offset r)
    ∙ ap (λ (q : Result Transparent ℕ). done (on_transparent q (read_odd_on img offset f.ne)) img s (data_of ch cmd) buf) (inspected_resolved img s (accepted_facts img s ch (length buf) a).0 t _ i) in
    rw o (answered img s t offset f.ne (data_of ch cmd) buf)
