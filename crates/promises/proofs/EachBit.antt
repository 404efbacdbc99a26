-- Each bit of the rights counts. For each bit a command is tried twice, by computing: with this bit alone (and the flag of its application) it gets
-- 9000, with every bit but this one 6982. Whatever other rights there are, they lie between these two, so `fewer_rights` says the rest. Read before:
-- ../specs/FewerRights.antt, Fewer.antt. Exports the theorem `each-bit_counts`.
use Prim.Native.Nat.{ℕ, zero, suc, ◌+◌, ◌-◌, ◌*◌, ◌/◌, ◌%◌, ◌^◌, ◌≤◌, ◌<◌}
use mathlib.Core.Path.{◌≡◌, refl, sym, ap, subst, ◌∙◌}
use mathlib.Core.Bool.{Bool, true, false, not, ◌&&◌}
use mathlib.Core.Logic.{◌⊎◌, ⊎_elim}
use mathlib.Core.List.{List, [], ◌∷◌, ◌++◌}
use native.Mathlib.Omega.{arith}
use lib.ListN.{length, get_or, replicate}
use lib.Seq.{get_or-set_same, get_or-set_other}
use lib.Dec.{leb, eqb}
use borrow.Author.Tests.{not-true, eqb-true, eqb-false, le-ltb}
use Rattle.base.specs.Choice.{if_else, all_of}
use Rattle.base.proofs.Cases.{by_cases, false-true, and_left, and_right, all_of_facts, all_of_accepted}
use Rattle.store_image.specs.Image.{find_from, find, has, present, section_ok, sections_ok, well_formed, body}
use Rattle.base.specs.Bytes.{same_bytes}
use Rattle.store_records.specs.Body.{count, behind, place, used, append_fits, ok_at, ok_to, body_ok}
use Rattle.store_records.specs.Little.{le16, le32}
use Rattle.store_kinds.specs.Biometrics.{state, written, room, bio_ok}
use Rattle.store_kinds.specs.Rules.{rules, first_rule, rule_of, all_rules, is_biometrics, application_of, there, present_by, kind_ok}
use Rattle.store_files.specs.Files.{biometrics_by_id, master_by, by_id, by_short, id_of}
use Rattle.store_files.specs.Master.{aid_prefix, agrees_to, aid_of}
use Rattle.machine_rights.specs.Rights.{bit, flagged, biometrics_byte, record_bit, certificate_bit, may_records, file_bits, biometrics_bit, may_biometrics}
use Rattle.machine_rights.specs.Chain.{joined_bytes, joined, cleared_bytes, cleared, same, is_cleared}
use Rattle.machine_rights.specs.Joining.{BitsWithin, Subset, rights_byte, bits_of}
use Rattle.machine_rights.specs.declared.Rights.{Rights}
use Rattle.machine_rights.proofs.Bits.{bit-ones, bit_power, bit_but}
use Rattle.machine_rights.proofs.Laws.{bit-zero, all_alike, cleared-is, no_travel, no_visa, no_byte}
use Rattle.machine_rights.proofs.Subsets.{cleared_subset, nothing-within}
use Rattle.machine_apdu.specs.Shape.{be16_at, or_most, header_of, framed, first_shape, shapes, shape_of}
use Rattle.machine_session.specs.Order.{in_order}
use Rattle.machine_session.specs.Resolve.{file_meant, is_certificates, may_record, activated, may_read, may_inspect, resolve_record, resolve_file}
use Rattle.machine_session.specs.Session.{application_fits, place_fits, session_fits}
use Rattle.machine_session.specs.Verdict.{verdict}
use Rattle.machine_session.specs.declared.Session.{Session}
use Rattle.machine_action.specs.Tests.{lc_only, be16, or_current}
use Rattle.machine_record.specs.AppendRecord.{append_on, append_record}
use Rattle.machine_select.specs.Select.{select_file, select_by, one_of_three, length_fits, select}
use Rattle.machine_chain.specs.Chain.{NoChain}
use Rattle.machine_link.specs.Link.{is_link, turn}
use Rattle.machine_dispatch.specs.Decide.{by_ins, by_class, data_of, decide}
use Rattle.machine_answer.specs.Outcome.{Outcome, says}
use Rattle.machine.specs.Effects.{done}
use Rattle.machine.specs.Step.{verdict_on, step}
use Rattle.promises.specs.FewerRights.{with_byte, without_bit, just_entered, EachBitCounts}
use Rattle.promises.proofs.Answering.{step_accepted}
use Rattle.promises.proofs.Fewer.{fewer_rights}
use Rattle.std.specs.Prelude.{Ok}

-- ---- one bit alone, and every bit but one

-- the flag of the application whose byte i is, and nothing else; byte 0 is the flags themselves
flag_for : ℕ → ℕ
flag_for zero = 0
flag_for (suc zero) = 1
flag_for (suc (suc zero)) = 2
flag_for (suc (suc (suc j))) = 4

abbrev flag_only : ℕ → Rights
flag_only i = record { flags = flag_for i; travel = 0; visa = 0; biometrics = replicate 17 0 }

abbrev all_set : Rights
all_set = record { flags = 255; travel = 255; visa = 255; biometrics = replicate 17 255 }

-- bit b of byte i with that flag, and every bit but bit b of byte i
only : ℕ → ℕ → Rights
only i b = with_byte (flag_only i) i (2 ^ (b - 1))

all_but : ℕ → ℕ → Rights
all_but i b = with_byte all_set i (255 - 2 ^ (b - 1))

-- a byte after one byte has changed
module _ (r : Rights) (v : ℕ) where
  changed-byte : (i : ℕ) → i < 3 + length r.biometrics → rights_byte (with_byte r i v) i ≡ v
  unfolding rights_byte with_byte
  changed-byte zero h = refl
  changed-byte (suc zero) h = refl
  changed-byte (suc (suc zero)) h = refl
  changed-byte (suc (suc (suc i))) h = get_or-set_same r.biometrics i v 0 (omega arith)

  other_byte : (i j : ℕ) → (j ≡ i → ⊥) → rights_byte (with_byte r i v) j ≡ rights_byte r j
  unfolding rights_byte with_byte
  other_byte zero zero h = absurd (h refl)
  other_byte zero (suc zero) h = refl
  other_byte zero (suc (suc zero)) h = refl
  other_byte zero (suc (suc (suc j))) h = refl
  other_byte (suc zero) zero h = refl
  other_byte (suc zero) (suc zero) h = absurd (h refl)
  other_byte (suc zero) (suc (suc zero)) h = refl
  other_byte (suc zero) (suc (suc (suc j))) h = refl
  other_byte (suc (suc zero)) zero h = refl
  other_byte (suc (suc zero)) (suc zero) h = refl
  other_byte (suc (suc zero)) (suc (suc zero)) h = absurd (h refl)
  other_byte (suc (suc zero)) (suc (suc (suc j))) h = refl
  other_byte (suc (suc (suc i))) zero h = refl
  other_byte (suc (suc (suc i))) (suc zero) h = refl
  other_byte (suc (suc (suc i))) (suc (suc zero)) h = refl
  other_byte (suc (suc (suc i))) (suc (suc (suc j))) h = get_or-set_other r.biometrics i j v 0 (λ e. h (ap (λ (n : ℕ). suc (suc (suc n))) e))

-- a subset, byte by byte
bytes_subset : (few many : Rights) → ((i : ℕ) → i < 20 → BitsWithin (rights_byte few i) (rights_byte many i)) → Subset few many
unfolding rights_byte biometrics_byte
bytes_subset few many f =
    record { flags = f 0 (omega arith); travel = f 1 (omega arith); visa = f 2 (omega arith); biometrics = λ k h l. of k h l }
  where
    of : (k : ℕ) → 1 ≤ k → k ≤ 17 → BitsWithin (biometrics_byte few k) (biometrics_byte many k)
    of zero h l = absurd (omega arith)
    of (suc j) h l = let q : suc j - 1 ≡ j = omega arith in unfold biometrics_byte rights_byte in rw q (f (suc (suc (suc j))) (omega arith))

-- every byte lies within 255; a byte with bit b contains 2 ^ (b - 1), and one without it lies within the rest
within-ones : (x : ℕ) → BitsWithin x 255
within-ones x c l m e = bit-ones c l m

module _ (b : ℕ) (h : 1 ≤ b) (k : b ≤ 8) (x : ℕ) where
  power-within : bit x b ≡ true → BitsWithin (2 ^ (b - 1)) x
  power-within t c l m e = subst (λ (n : ℕ). bit x n ≡ true) (sym (eqb-true c b (sym (bit_power c l m b h k) ∙ e))) t

  within-but : bit x b ≡ false → BitsWithin x (255 - 2 ^ (b - 1))
  within-but t c l m e =
      bit_but c l m b h k ∙ by_cases (eqb c b) (λ q. false-true (sym t ∙ ap (bit x) (sym (eqb-true c b q)) ∙ e)) (λ q. ap not q)

ones-at : (n i : ℕ) → i < n → ◌≡◌ {A = ℕ} (get_or (replicate n 255) i 0) 255
ones-at zero i h = absurd (omega arith)
ones-at (suc n) zero h = refl
ones-at (suc n) (suc i) h = ones-at n i (omega arith)

module _ (i b : ℕ) (l : i < 20) (h : 1 ≤ b) (k : b ≤ 8) (r : Rights) (z : is_cleared r ≡ true) where
  -- rights with the bit: its application has its flag
  flag_set : (a x : ℕ) → (bit r.flags a ≡ false → x ≡ 0) → bit x b ≡ true → bit r.flags a ≡ true
  flag_set a x f t = by_cases (bit r.flags a) (λ e. e) (λ e. false-true (sym (bit-zero b) ∙ ap (λ (y : ℕ). bit y b) (sym (f e)) ∙ t))

  flag-within : (j : ℕ) → bit (rights_byte r j) b ≡ true → BitsWithin (flag_for j) r.flags
  unfolding flag_for rights_byte
  flag-within zero t = nothing-within r.flags
  flag-within (suc zero) t = power-within 1 (omega arith) (omega arith) r.flags (flag_set 1 r.travel (no_travel r z) t)
  flag-within (suc (suc zero)) t = power-within 2 (omega arith) (omega arith) r.flags (flag_set 2 r.visa (no_visa r z) t)
  flag-within (suc (suc (suc j))) t =
      let q : suc j - 1 ≡ j = omega arith in
      power-within 3 (omega arith) (omega arith) r.flags
      (flag_set 3 (get_or r.biometrics j 0) (λ f. ap (λ (n : ℕ). get_or r.biometrics n 0) (sym q) ∙ unfold biometrics_byte in no_byte r z (suc j) f) t)

  flag-alone : BitsWithin (flag_for i) r.flags → (j : ℕ)
      → BitsWithin (rights_byte (flag_only i) j) (rights_byte r j)
  unfolding rights_byte
  flag-alone w zero = w
  flag-alone w (suc zero) = nothing-within r.travel
  flag-alone w (suc (suc zero)) = nothing-within r.visa
  flag-alone w (suc (suc (suc j))) = rw (all_alike 17 j 0) (nothing-within (get_or r.biometrics j 0))

  only-subset : bit (rights_byte r i) b ≡ true → Subset (only i b) r
  unfolding only
  only-subset t =
      bytes_subset (only i b) r
      (λ j m.
      by_cases (eqb j i)
      (λ q. rw (eqb-true j i q, changed-byte (flag_only i) (2 ^ (b - 1)) i l) (power-within b h k (rights_byte r i) t))
      (λ q. rw (other_byte (flag_only i) (2 ^ (b - 1)) i j (eqb-false j i q)) (flag-alone (flag-within i t) j)))

  -- rights without it
  ones-byte : (j : ℕ) → j < 20 → rights_byte all_set j ≡ 255
  unfolding rights_byte
  ones-byte zero m = refl
  ones-byte (suc zero) m = refl
  ones-byte (suc (suc zero)) m = refl
  ones-byte (suc (suc (suc j))) m = ones-at 17 j (omega arith)

  but-subset : bit (rights_byte r i) b ≡ false → Subset r (cleared (all_but i b))
  unfolding all_but
  but-subset t =
      subst (λ (x : Rights). Subset x (cleared (all_but i b))) (cleared-is r z)
      (cleared_subset r (all_but i b)
      (bytes_subset r (all_but i b)
      (λ j m.
      by_cases (eqb j i)
      (λ q. rw (eqb-true j i q, changed-byte all_set (255 - 2 ^ (b - 1)) i l) (within-but b h k (rights_byte r i) t))
      (λ q. rw (other_byte all_set (255 - 2 ^ (b - 1)) i j (eqb-false j i q), ones-byte j m) (within-ones (rights_byte r j))))))

-- ---- the cards and the commands that are tried

abbrev section : ℕ → List ℕ → List ℕ
section k body = length body ∷ 0 ∷ 0 ∷ 0 ∷ k % 256 ∷ k / 256 ∷ body

-- the record files of an application, empty and with room for a record of one byte
record_files : ℕ → List ℕ
record_files zero = []
record_files (suc zero) = section 0x0101 (replicate 5 0) ++ (section 0x0102 (replicate 5 0) ++ section 0x011A (replicate 5 0))
record_files (suc (suc zero)) = section 0x0203 (replicate 5 0) ++ section 0x021A (replicate 5 0)
record_files (suc (suc (suc a))) = section 0x031A (replicate 5 0)

-- SELECT of an application, and of a file by its id
abbrev entering : ℕ → List ℕ
entering a = 0x00 ∷ 0xA4 ∷ 0x04 ∷ 0x0C ∷ 0x07 ∷ 0xA0 ∷ 0x00 ∷ 0x00 ∷ 0x02 ∷ 0x47 ∷ 0x20 ∷ a ∷ []

abbrev choosing : ℕ → ℕ → List ℕ
choosing high low = 0x00 ∷ 0xA4 ∷ 0x02 ∷ 0x0C ∷ 0x02 ∷ high ∷ low ∷ []

-- the odd bits of a record byte read, and the even ones append: SELECT of the file with this short id, which is the low byte of its id, and APPEND RECORD
abbrev reaching : ℕ → ℕ → List ℕ
reaching short b = if_else (eqb (b % 2) 1) (choosing 0x01 short) (0x00 ∷ 0xE2 ∷ 0x00 ∷ short * 8 ∷ 0x01 ∷ 0xAA ∷ [])

-- b1 and b2 are for records, b3 and b4 for certificates
abbrev file_for : ℕ → ℕ → ℕ
file_for short b = if_else (leb b 2) short 0x1A

-- from byte 4 on each byte has four files, from b8 down, and an odd bit is for an Activated one
abbrev file_number : ℕ → ℕ → ℕ
file_number j b = 4 * j + (8 - b) / 2 + 1

-- the image, the application and the command by byte and bit
image_for : ℕ → ℕ → List ℕ
image_for zero b = record_files b
image_for (suc zero) b = record_files 1
image_for (suc (suc zero)) b = record_files 2
image_for (suc (suc (suc zero))) b = record_files 3
image_for (suc (suc (suc (suc j)))) b = record_files 3 ++ section (0x0400 + file_number j b) (b % 2 ∷ 0 ∷ 0 ∷ 0 ∷ 0 ∷ [])

application_for : ℕ → ℕ
application_for zero = 0
application_for (suc zero) = 1
application_for (suc (suc zero)) = 2
application_for (suc (suc (suc j))) = 3

command_for : ℕ → ℕ → List ℕ
command_for zero b = entering b
command_for (suc zero) b = reaching (file_for 0x01 b) b
command_for (suc (suc zero)) b = reaching (file_for 0x03 b) b
command_for (suc (suc (suc zero))) b = reaching 0x1A b
command_for (suc (suc (suc (suc j)))) b = choosing 0x02 (file_number j b)

-- ---- the table

abbrev session_for : ℕ → Rights → Session
session_for i r = just_entered (application_for i) r

-- the word that a command comes to, once it is accepted; the response buffer does not matter
word_for : List ℕ → ℕ → ℕ → Rights → ℕ
word_for buf i b r =
    (done (decide (image_for i b) (session_for i r) NoChain (command_for i b)) (image_for i b) (session_for i r) (data_of NoChain (command_for i b)) buf).answer.status

decides : List ℕ → ℕ → ℕ → Bool
decides buf i b =
    all_of
    (bit (rights_byte (only i b) i) b
    ∷ is_cleared (without_bit (only i b) i b)
    ∷ not (bit (rights_byte (without_bit (only i b) i b) i) b)
    ∷ well_formed (image_for i b)
    ∷ session_fits (image_for i b) (session_for i (only i b))
    ∷ eqb (word_for buf i b (only i b)) 0x9000
    ∷ session_fits (image_for i b) (session_for i (cleared (all_but i b)))
    ∷ eqb (word_for buf i b (cleared (all_but i b))) 0x6982
    ∷ [])

every_below : ℕ → (ℕ → Bool) → Bool
every_below zero f = true
every_below (suc n) f = every_below n f && f n

every_at : (n : ℕ) (f : ℕ → Bool) → every_below n f ≡ true → (i : ℕ) → i < n → f i ≡ true
unfolding every_below
every_at zero f e i h = absurd (omega arith)
every_at (suc n) f e i h =
    by_cases (eqb i n)
    (λ q. rw (eqb-true i n q) (and_right (every_below n f) (f n) e))
    (λ q. let d = eqb-false i n q in every_at n f (and_left (every_below n f) (f n) e) i (omega (arith, d)))

-- for each bit that has a meaning
table : (buf : List ℕ) → every_below 20 (λ i. every_below (bits_of i) (λ c. decides buf i (suc c))) ≡ true
unfolding rights_byte bits_of with_byte flag_for only all_but record_files image_for application_for command_for word_for decides every_below same_bytes all_of count behind place used append_fits ok_at ok_to body_ok le16 le32 rules first_rule rule_of all_rules is_biometrics application_of there present_by kind_ok state written room bio_ok find_from find has present section_ok sections_ok well_formed body biometrics_by_id master_by by_id by_short id_of aid_prefix agrees_to aid_of joined_bytes joined cleared_bytes cleared same is_cleared bit flagged biometrics_byte record_bit certificate_bit may_records file_bits biometrics_bit may_biometrics be16_at or_most header_of framed first_shape shapes shape_of in_order file_meant is_certificates may_record activated may_read may_inspect resolve_record resolve_file application_fits place_fits session_fits lc_only be16 or_current append_on append_record select_file select_by one_of_three length_fits select by_ins by_class decide data_of is_link turn says done
table buf = refl

-- ---- what the table says of any rights

-- what one entry of the table says
record Tried (buf : List ℕ) (i b : ℕ) : Type 0 where
  has : bit (rights_byte (only i b) i) b ≡ true
  less-cleared : is_cleared (without_bit (only i b) i b) ≡ true
  gone : bit (rights_byte (without_bit (only i b) i b) i) b ≡ false
  well : well_formed (image_for i b) ≡ true
  only-fits : session_fits (image_for i b) (session_for i (only i b)) ≡ true
  only-word : word_for buf i b (only i b) ≡ 0x9000
  but-fits : session_fits (image_for i b) (session_for i (cleared (all_but i b))) ≡ true
  but-word : word_for buf i b (cleared (all_but i b)) ≡ 0x6982

tried : (buf : List ℕ) (i b : ℕ) → i < 20 → 1 ≤ b → b ≤ bits_of i → Tried buf i b
unfolding decides
tried buf i zero l h k = absurd (omega arith)
tried buf i (suc c) l h k =
    let t : decides buf i (suc c) ≡ true
    = every_at (bits_of i) (λ d. decides buf i (suc d)) (every_at 20 (λ j. every_below (bits_of j) (λ d. decides buf j (suc d))) (table buf) i l) c (omega arith) in
    let x = all_of_facts _ t in
    record {
      has = x.0;
      less-cleared = x.1.0;
      gone = not-true _ x.1.1.0;
      well = x.1.1.1.0;
      only-fits = x.1.1.1.1.0;
      only-word = eqb-true _ _ x.1.1.1.1.1.0;
      but-fits = x.1.1.1.1.1.1.0;
      but-word = eqb-true _ _ x.1.1.1.1.1.1.1.0;
    }

most_bits : (i : ℕ) → bits_of i ≤ 8
unfolding bits_of
most_bits zero = omega arith
most_bits (suc zero) = omega arith
most_bits (suc (suc zero)) = omega arith
most_bits (suc (suc (suc zero))) = omega arith
most_bits (suc (suc (suc (suc i)))) = omega arith

module _ (i b : ℕ) (n : i < 20) (h : 1 ≤ b) (m : b ≤ bits_of i) where
  abbrev img : List ℕ
  img = image_for i b

  abbrev cmd : List ℕ
  cmd = command_for i b

  eight : b ≤ 8
  eight = omega (arith, m, most_bits i)

  one_bit : (r : Rights) × ((is_cleared r ≡ true) × (bit (rights_byte r i) b ≡ true)) × ((is_cleared (without_bit r i b) ≡ true) × (bit (rights_byte (without_bit r i b) i) b ≡ false))
  unfolding session_fits
  one_bit = let t = tried [] i b n h m in (only i b, ((all_of_facts _ t.only-fits).1.1.0, t.has), (t.less-cleared, t.gone))

  module _ (r : Rights) (buf : List ℕ) (z : is_cleared r ≡ true) (l : 2050 ≤ length buf) where
    abbrev status_of : Rights → ℕ
    status_of q = (step img (session_for i q) NoChain cmd buf).answer.status

    t : Tried buf i b
    t = tried buf i b n h m

    -- whether the session fits is a matter of its rights alone, since another fits
    fits : session_fits img (session_for i r) ≡ true
    unfolding session_fits
    fits = let x = all_of_facts _ t.only-fits in all_of_accepted _ (x.0, (x.1.0, (z, tt)))

    word_of : (q : Rights) → session_fits img (session_for i q) ≡ true → status_of q ≡ word_for buf i b q
    unfolding word_for verdict all_of
    word_of q f =
        let v : verdict_on img (session_for i q) NoChain (length buf) ≡ (Ok tt) = rw (f, t.well, le-ltb (length buf) 2050 l) refl in
        ap (λ (o : Outcome). o.answer.status) (step_accepted img (session_for i q) NoChain cmd buf v)

    with_bit : bit (rights_byte r i) b ≡ true → status_of r ≡ 0x9000
    with_bit e =
        let w : status_of (only i b) ≡ 0x9000 = word_of (only i b) t.only-fits ∙ t.only-word in
        ⊎_elim
        (λ q. sym (ap (λ (o : Outcome). o.answer.status) q.reply) ∙ w)
        (λ q. let d : ◌≡◌ {A = ℕ} 0x6982 0x9000 = sym (ap (λ (o : Outcome). o.answer.status) q.reply) ∙ w in absurd (omega arith))
        (fewer_rights img (session_for i r) (only i b) NoChain cmd buf fits t.only-fits (only-subset i b n h eight r z e))

    lacks_bit : bit (rights_byte r i) b ≡ false → status_of r ≡ 0x6982
    lacks_bit e =
        ⊎_elim
        (λ q. ap (λ (o : Outcome). o.answer.status) q.reply ∙ word_of (cleared (all_but i b)) t.but-fits ∙ t.but-word)
        (λ q. ap (λ (o : Outcome). o.answer.status) q.reply)
        (fewer_rights img (session_for i (cleared (all_but i b))) r NoChain cmd buf t.but-fits fits (but-subset i b n h eight r z e))

pub each-bit_counts : EachBitCounts
each-bit_counts i b n h m =
    record {
      image = image_for i b;
      application = application_for i;
      command = command_for i b;
      one_bit = one_bit i b n h m;
      with_bit = with_bit i b n h m;
      lacks_bit = lacks_bit i b n h m;
    }
