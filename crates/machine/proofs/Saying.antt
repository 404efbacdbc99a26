-- A status word behind its data. Read machine_answer's specs/Outcome.antt before. Exports `said`, `stored`, `stored-records`, `stored_object`,
-- `object_end`, `same_report`, `same-file`.
use Prim.Native.Nat.{ℕ, ◌+◌, ◌≤◌, ◌<◌}
use mathlib.Core.Path.{◌≡◌, sym, ap, ap₂, ◌∙◌}
use mathlib.Core.Bool.{false}
use mathlib.Core.List.{List}
use native.Mathlib.Omega.{arith}
use native.Mathlib.Nat.{zero-add}
use lib.ListN.{length, length-append}
use lib.Seq.{sets}
use lib.Dec.{ltb}
use borrow.Author.Tests.{le-ltb}
use Rattle.base.specs.Choice.{if_else}
use Rattle.base.specs.Bytes.{part, put}
use Rattle.base.proofs.Parts.{length_part}
use Rattle.base.proofs.Runs.{put_fits_accepted, put_accepted, put-behind}
use Rattle.objects_writer.specs.Writing.{tlv}
use Rattle.objects_writer.specs.Writer.{head_bytes, put_end}
use Rattle.objects_writer.specs.Fitting.{object_length}
use Rattle.objects_writer.proofs.Writings.{put_end_accepted, head_bytes-value, put-tlv}
use Rattle.objects_writer.proofs.Fitting.{length-tlv-part}
use Rattle.machine_reply_record.specs.Joined.{records_data}
use Rattle.machine_reply_fmm.specs.Report.{report_data}
use Rattle.machine_reply_record.proofs.Joining.{records_bound}
use Rattle.machine_session.specs.Session.{placed}
use Rattle.machine_session.specs.declared.Place.TheVariants.{OnFile}
use Rattle.machine_session.specs.declared.Session.{Session}
use Rattle.machine_answer.specs.Outcome.{outcome, word, answered, says}
use Rattle.machine_answer.specs.declared.Answer.{Answer}

-- the data stands at the start of the buffer, the word comes behind it
pub said : (w : ℕ) (dat : List ℕ) (s : Session) (img buf : List ℕ) {t : Session} {n : ℕ} {mid new : List ℕ} {a : Answer} → length dat ≤ 2048 → 2050 ≤ length buf
    → t ≡ s → (n ≡ length dat) × (mid ≡ put buf 0 dat) → (a ≡ answered n w t) × (new ≡ put mid n (word w)) → outcome a img new ≡ says w dat s img buf
unfolding says word
said w dat s img buf {t} {n} {mid} {new} {a} h r o p e =
    ap₂ (λ (x : Answer) (l : List ℕ). outcome x img l)
    (e.0 ∙ ap₂ (λ (k : ℕ) (x : Session). answered k w x) p.0 o)
    (e.1
    ∙ ap₂ (λ (l : List ℕ) (k : ℕ). put l k (word w)) p.1 (p.0 ∙ sym (zero-add (length dat)))
    ∙ put-behind buf 0 dat (word w) (simp length-append (omega arith)))

-- a writer that answers the place behind what it stored has room for it
pub stored : (buf dat : List ℕ) {n : ℕ} {mid : List ℕ} → length dat ≤ 2048 → 2050 ≤ length buf → (n ≡ put_end buf 0 dat) × (mid ≡ put buf 0 dat)
    → (n ≡ length dat) × (mid ≡ put buf 0 dat)
stored buf dat h r e = (
  e.0 ∙ sym (put_end_accepted buf 0 dat (put_fits_accepted buf 0 dat (omega arith))) ∙ zero-add (length dat),
  e.1,
)

-- so does one that stores records
pub stored-records : (buf : List ℕ) (rs rs' : List (List ℕ)) (a b : ℕ) {n : ℕ} {mid : List ℕ} → rs ≡ rs' → 2050 ≤ length buf
    → (n ≡ if_else (ltb (length buf) 2048) 0 (length (records_data rs a b))) × (mid ≡ if_else (ltb (length buf) 2048) buf (sets buf 0 (records_data rs a b)))
    → (n ≡ length (records_data rs' a b)) × (mid ≡ put buf 0 (records_data rs' a b))
stored-records buf rs rs' a b s r e =
    let t : ltb (length buf) 2048 ≡ false = le-ltb (length buf) 2048 (omega arith) in
    let d : records_data rs a b ≡ records_data rs' a b = ap (λ (x : List (List ℕ)). records_data x a b) s in
    let n = (rw t at e).0 in
    let bytes = (rw t at e).1 in
    (n ∙ ap length d, bytes ∙ ap (sets buf 0) d ∙ sym (put_accepted buf 0 (records_data rs' a b) (omega (arith, records_bound rs' a b))))

-- so does one that stores an object, its head and behind that its value: n bytes of xs from a on
module _ (buf xs : List ℕ) (a n tag : ℕ) (p : tag < 256) (h : object_length n ≤ 2048) (i : a + n ≤ length xs) (r : 2050 ≤ length buf) where
  abbrev value : List ℕ
  value = part xs a n

  pub object_short : length (tlv tag value) ≤ 2048
  object_short = rw (length-tlv-part tag xs a n p i) h

  module _ {at : ℕ} {mid new : List ℕ} (w : (at ≡ put_end buf 0 (head_bytes tag n)) × (mid ≡ put buf 0 (head_bytes tag n))) (z : new ≡ put mid at value) where
    pub stored_object : (at + n ≡ length (tlv tag value)) × (new ≡ put buf 0 (tlv tag value))
    unfolding object_length
    stored_object =
        let l : length value ≡ n = length_part xs a n i in
        let b = head_bytes tag (length value) in
        let q : length b + length value ≡ length (tlv tag value) = sym (length-append b value) ∙ ap length (head_bytes-value tag value (omega arith) (omega arith)) in
        let f : (at ≡ put_end buf 0 b) × (mid ≡ put buf 0 b) = rw l w in (
          omega (arith, f.0, object_short, put_end_accepted buf 0 b (put_fits_accepted buf 0 b (omega (arith, object_short)))),
          z ∙ ap₂ (λ (x : List ℕ) (k : ℕ). put x k value) f.1 f.0 ∙ put-tlv buf 0 tag value (omega arith) (omega arith) (omega (arith, object_short)),
        )

    pub object_end : at + n ≤ 2048
    object_end = omega (arith, stored_object.0, object_short)

-- the same numbers, the same report
pub same_report : (p2 : ℕ) {t r e t' r' e' : ℕ} → t ≡ t' → r ≡ r' → e ≡ e' → report_data p2 t r e ≡ report_data p2 t' r' e'
same_report p2 {t} {r} {e} {t'} {r'} p q z =
    ap₂ (λ (x y : ℕ). report_data p2 x y e) p q ∙ ap (report_data p2 t' r') z

-- the session's new place, by equal numbers
pub same-file : (s : Session) {t : Session} {i i' : ℕ} → t ≡ placed s (OnFile i) → i ≡ i' → t ≡ placed s (OnFile i')
same-file s e n = e ∙ ap (λ (x : ℕ). placed s (OnFile x)) n
