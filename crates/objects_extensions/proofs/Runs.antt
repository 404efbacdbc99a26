-- A run gives the certificate of its extensions, or tells the fault of the first that has one; and each run of bytes is one or the other.
-- Read before: specs/Faults.antt. Exports `run_end`, `run_complete`,
-- `run-filled`, `certificate-length`, `run_fault`, `run_or_fault`.
use Prim.Native.Nat.{ℕ, zero, suc, ◌+◌, ◌≤◌}
use mathlib.Core.Path.{◌≡◌, refl, sym, ap, ◌∙◌}
use mathlib.Core.Bool.{true}
use mathlib.Core.Logic.{◌⊎◌, inl, inr, ⊎_elim}
use mathlib.Core.List.{List, [], ◌∷◌, ◌++◌, append-nil, append_assoc}
use native.Mathlib.Omega.{arith}
use lib.ListN.{length, drop, take, length-append, take-append-drop}
use lib.Seq.{take_at, drop_at}
use lib.Dec.{lit<}
use borrow.Author.Tests.{ne_eqb}
use Rattle.base.specs.Bytes.{part, AllBytes}
use Rattle.base.proofs.Cases.{by_cases, false-true}
use Rattle.objects_writer.specs.Writing.{tlv, tag_bytes}
use Rattle.objects_reader.specs.Head.{head_of, Head}
use Rattle.objects_reader.specs.Form.{is_clean, read_all}
use Rattle.objects_reader.specs.Encoding.{Values, encode, Sized, leaves, leaf_count, deep, Proper}
use Rattle.objects_reader.specs.Places.{Noted}
use Rattle.objects_reader.specs.declared.head.HeadFault.TheVariants.{NoTag, NoLength}
use Rattle.objects_reader.proofs.Heads.{head_size, same_place}
use Rattle.objects_reader.proofs.Unique.{length-tlv, object_head, object_rest}
use Rattle.objects_reader.proofs.Sayable.{AllSayable}
use Rattle.objects_reader.proofs.Exact.{bytes_drop, bytes_take, none_left, all_complete, all_sound}
use Rattle.objects_extensions.specs.declared.Known.TheVariants.{Travel, Visa, Biometrics}
use Rattle.objects_extensions.specs.declared.ExtensionFault.{ExtensionFault}
use Rattle.objects_extensions.specs.declared.ExtensionFault.TheVariants.{Malformed}
use Rattle.std.specs.Prelude.{Ok, Err}
use Rattle.objects_extensions.specs.Extensions.{Extension, extension_value, extension_data, Sayable, run_data, rights_for, certificate_data, RightSize, FirstTime, FaultFree, RunOf}
use Rattle.objects_extensions.specs.Faults.{FaultOf, NoExtension, RunFault, at-extension, at-bytes}
use Rattle.objects_extensions.specs.Read.{RunRead, RunResult, whole, faulty, on_whole, keeps, extension_form, extension_on, on_front, run_in, run_on, empty_certificate}
use Rattle.objects_extensions.proofs.Kept.{Filled, filled_none, filled_next, none-given, keep_free, keep_fault, free_or_fault}

-- ---- one extension

abbrev values : Extension → Values extension_form
values e = ((e.identifier, (e.rights, tt)), tt)

encoded : (e : Extension) → encode extension_form (values e) ≡ extension_data e
unfolding encode extension_value extension_data
encoded e = simp append-nil

leaves_are : (e : Extension) → leaves extension_form (values e) ≡ e.identifier ∷ e.rights ∷ []
unfolding leaves
leaves_are e = refl

proper : Proper extension_form
unfolding Proper
proper = (lit< tt, (lit< tt, (lit< tt, tt)), tt)

few : leaf_count extension_form ≤ 13
unfolding leaf_count
few = omega arith

flat : deep extension_form ≤ 4
unfolding deep
flat = omega arith

value-length : (e : Extension)
    → length (extension_value e) ≡ head_size 0x06 (length e.identifier) + length e.identifier + (head_size 0x53 (length e.rights) + length e.rights)
unfolding extension_value
value-length e = simp (length-append, length-tlv)

sized : (e : Extension) → Sayable e → Sized extension_form (values e)
unfolding Sized Sayable
sized e h = let l = value-length e in ((omega arith, omega arith, (omega arith, omega arith, tt)), tt)

sayable : (e : Extension) → Sayable e → AllSayable extension_form (values e)
unfolding AllSayable Sayable encode extension_value
sayable e h = let l = value-length e in (rw append-nil h, (omega arith, (omega arith, tt)), tt)

noted_extension : (e : Extension) → Sayable e → Noted (extension_data e) (read_all extension_form (extension_data e)) (e.identifier ∷ e.rights ∷ [])
noted_extension e h = rw (encoded e, leaves_are e) at (all_complete extension_form proper few flat (values e) (sized e h) (sayable e h))

extension_complete : (c : List ℕ) (e : Extension) → Sayable e → extension_on c (extension_data e) ≡ keeps c e
unfolding extension_on
extension_complete c e h =
    let n = noted_extension e h in
    let a = (n.each 0 (omega arith)).is in
    let b = (n.each 1 (omega arith)).is in
    simp (n.clean, a, b)

-- what is read clean is the bytes of an extension
extension_sound : (t : List ℕ) → AllBytes t → is_clean (read_all extension_form t).fault ≡ true → (e : Extension) × Sayable e × (t ≡ extension_data e)
unfolding AllSayable Sayable encode extension_value
extension_sound t b c =
    let o = all_sound extension_form proper few t b c in
    let e : Extension = record { identifier = o.values.0.0; rights = o.values.0.1.0 } in
    (e, rw append-nil at o.sayable.0, o.bytes ∙ encoded e)

-- ---- the extension that stands first

abbrev size : Extension → ℕ
size e = head_size 0x73 (length (extension_value e)) + length (extension_value e)

module _ (e : Extension) (b : List ℕ) where
  front-head : Sayable e → head_of 0x73 (extension_data e ++ b) ≡ Ok (head_size 0x73 (length (extension_value e)), length (extension_value e))
  unfolding extension_data Sayable
  front-head h = object_head 0x73 (extension_value e) b (lit< tt) h

  front-taken : take (size e) (extension_data e ++ b) ≡ extension_data e
  unfolding extension_data
  front-taken = take_at (tlv 0x73 (extension_value e)) b (size e) (length-tlv 0x73 (extension_value e))

  front-left : drop (size e) (extension_data e ++ b) ≡ b
  unfolding extension_data
  front-left = object_rest 0x73 (extension_value e) b

  front-some : 1 ≤ length (extension_data e ++ b)
  unfolding extension_data tlv tag_bytes
  front-some = omega arith

  front_less : (k : ℕ) → length (extension_data e ++ b) ≤ suc k → length b ≤ k
  unfolding extension_data tlv tag_bytes
  front_less k h = let l = length-append (extension_data e) b in omega arith

-- ---- what the reader makes of what stands first

pub run_end : (k : ℕ) (c : List ℕ) → run_in k c [] ≡ whole c
unfolding run_in
run_end zero c = refl
run_end (suc k) c = refl

run_next : (k : ℕ) (c : List ℕ) (e : Extension) (b : List ℕ) → Sayable e → run_in (suc k) c (extension_data e ++ b) ≡ on_whole (keeps c e) (λ d. run_in k d b)
unfolding run_in
run_next k c e b h =
    simp (ne_eqb (length (extension_data e ++ b)) 0 (let z = front-some e b in omega arith), front-head e b h, front-taken e b, front-left e b, extension_complete c e h)

-- where an extension stands first, the reader finds just it
front_clean : (e : Extension) (b s : List ℕ) → Sayable e → s ≡ extension_data e ++ b → (start len : ℕ) → head_of 0x73 s ≡ Ok (start, len)
    → is_clean (read_all extension_form (part s 0 (start + len))).fault ≡ true
front_clean e b s z w start len q =
    let a = extension_value e in
    let h : head_of 0x73 s ≡ Ok (head_size 0x73 (length a), length a) = rw w (front-head e b z) in
    let r = same_place (sym h ∙ q) in
    let i : start ≡ head_size 0x73 (length a) = sym r.0 in
    let j : len ≡ length a = sym r.1 in
    let v : part s 0 (start + len) ≡ extension_data e = rw (i, j, w) (front-taken e b) in
    rw v (noted_extension e z).clean

module _ (s : List ℕ) (b : AllBytes s) where
  -- what is read clean at the front is an extension, and the rest stands behind it
  clean-front : (n : ℕ) → is_clean (read_all extension_form (part s 0 n)).fault ≡ true → (e : Extension) × Sayable e × (s ≡ extension_data e ++ drop n s)
  clean-front n x =
      let o = extension_sound (part s 0 n) (bytes_take n s b) x in
      (o.0, o.1, sym (take-append-drop n s) ∙ ap (λ (y : List ℕ). y ++ drop n s) o.2)

  abbrev Begins : Type 0
  Begins = (e : Extension) × (rest : List ℕ) × Sayable e × (s ≡ extension_data e ++ rest)

  -- an extension stands first, or none does
  begins : Begins ⊎ NoExtension s
  begins = of (head_of 0x73 s) refl
    where
      of : (h : Head) → head_of 0x73 s ≡ h → Begins ⊎ NoExtension s
      of (Err NoTag) q = inr (λ e r z w. let h = sym (ap (head_of 0x73) w ∙ front-head e r z) ∙ q in let y : ◌≡◌ {A = ℕ} 0 1 = cc in omega arith)
      of (Err NoLength) q = inr (λ e r z w. let h = sym (ap (head_of 0x73) w ∙ front-head e r z) ∙ q in let y : ◌≡◌ {A = ℕ} 0 1 = cc in omega arith)
      of (Ok (start, len)) q =
          by_cases (is_clean (read_all extension_form (part s 0 (start + len))).fault)
          (λ x. let o = clean-front (start + len) x in inl (o.0, drop (start + len) s, o.1, o.2))
          (λ x. inr (λ e r z w. false-true (sym x ∙ front_clean e r s z w start len q)))

  -- where none does, the run is broken
  run-broken : (k : ℕ) (c : List ℕ) → (length s ≡ 0 → ⊥) → NoExtension s → run_in (suc k) c s ≡ faulty Malformed c
  unfolding run_in extension_on
  run-broken k c n m = simp (ne_eqb (length s) 0 n) (of (head_of 0x73 s))
    where
      of : (h : Head) → on_front h (λ start len. on_whole (extension_on c (part s 0 (start + len))) (λ d. run_in k d (drop (start + len) s))) (faulty Malformed c) ≡ faulty Malformed c
      of (Err NoTag) = refl
      of (Err NoLength) = refl
      of (Ok (start, len)) =
          by_cases (is_clean (read_all extension_form (part s 0 (start + len))).fault)
          (λ x. let o = clean-front (start + len) x in absurd (m o.0 (drop (start + len) s) o.1 o.2))
          (λ x. simp x)

-- ---- extensions without a fault, and what stands behind them

-- behind extensions without a fault the run goes on with the certificate that they give
record Skipped (k : ℕ) (p es : List Extension) (rest : List ℕ) : Type 0 where
  fuel : ℕ
  enough : length rest ≤ fuel
  same : run_in k (certificate_data p) (run_data es ++ rest) ≡ run_in fuel (certificate_data (p ++ es)) rest

skip : (k : ℕ) (p es : List Extension) (rest : List ℕ) → Filled p → FaultFree p es → length (run_data es ++ rest) ≤ k → Skipped k p es rest
unfolding run_data FaultFree
skip k p [] rest f o h = record { fuel = k; enough = h; same = rw append-nil refl }
skip zero p (e ∷ es) rest f o h = let z = front-some e (run_data es ++ rest) in let q = ap length (append_assoc (extension_data e) (run_data es) rest) in absurd (omega arith)
skip (suc k) p (e ∷ es) rest f o h =
    let q = append_assoc (extension_data e) (run_data es) rest in
    let l = ap length q in
    let r = skip k (p ++ (e ∷ [])) es rest (filled_next p e f o.1 o.2) o.3 (front_less e (run_data es ++ rest) k (omega arith)) in
    record {
      fuel = r.fuel;
      enough = r.enough;
      same = ap (run_in (suc k) (certificate_data p)) q
          ∙ run_next k (certificate_data p) e (run_data es ++ rest) o.0
          ∙ rw (keep_free p e f o.1 o.2) (r.same ∙ ap (λ (x : List Extension). run_in r.fuel (certificate_data x) rest) (append_assoc p (e ∷ []) es));
    }

-- a run of extensions without a fault gives their certificate
pub run_complete : (es : List Extension) (s : List ℕ) → RunOf es s → run_on empty_certificate s ≡ whole (certificate_data es)
unfolding run_on
run_complete es s w =
    let q : s ≡ run_data es ++ [] = w.written ∙ sym (append-nil (run_data es)) in
    let l = ap length q in
    let r = skip (length s) [] es [] filled_none w.fault_free (omega arith) in
    ap (run_in (length s) empty_certificate) q ∙ rw (← none-given) r.same ∙ run_end r.fuel (certificate_data es)

-- and that has 20 bytes
filled_all : (p es : List Extension) → Filled p → FaultFree p es → Filled (p ++ es)
unfolding FaultFree
filled_all p [] f o = rw append-nil f
filled_all p (e ∷ es) f o = rw append_assoc at (filled_all (p ++ (e ∷ [])) es (filled_next p e f o.1 o.2) o.3)

pub run-filled : (es : List Extension) (s : List ℕ) → RunOf es s → Filled es
run-filled es s w = filled_all [] es filled_none w.fault_free

pub certificate-length : (es : List Extension) (s : List ℕ) → RunOf es s → length (certificate_data es) ≡ 20
unfolding certificate_data
certificate-length es s w =
    let f = run-filled es s w in
    let l = length-append (rights_for Visa es) (rights_for Biometrics es) in
    let m = length-append (rights_for Travel es) (rights_for Visa es ++ rights_for Biometrics es) in
    omega (arith, f Travel, f Visa, f Biometrics)

-- ---- a fault

stop_at : (k : ℕ) (es : List Extension) (e : Extension) (rest : List ℕ) (w : ExtensionFault) → length (extension_data e ++ rest) ≤ k → Sayable e → FaultOf es e w
    → run_in k (certificate_data es) (extension_data e ++ rest) ≡ faulty w (certificate_data es)
stop_at zero es e rest w h z f = let y = front-some e rest in absurd (omega arith)
stop_at (suc k) es e rest w h z f = run_next k (certificate_data es) e rest z ∙ rw (keep_fault es e w f) refl

stop_here : (k : ℕ) (c s : List ℕ) → AllBytes s → length s ≤ k → (s ≡ [] → ⊥) → NoExtension s → run_in k c s ≡ faulty Malformed c
stop_here zero c s b h n m = absurd (n (none_left s (omega arith)))
stop_here (suc k) c s b h n m = run-broken s b k c (λ e. n (none_left s e)) m

abbrev fault : ExtensionFault → RunRead
fault w = Err w

-- a run with a fault tells it
pub run_fault : (s : List ℕ) (w : ExtensionFault) → AllBytes s → RunFault s w → (run_on empty_certificate s).read ≡ Err w
unfolding run_on
run_fault s w b (at-extension es e rest o z q f) =
    let l = ap length q in
    let r = skip (length s) [] es (extension_data e ++ rest) filled_none o (omega arith) in
    ap (λ (x : RunResult). x.read) (ap (run_in (length s) empty_certificate) q ∙ rw (← none-given) r.same ∙ stop_at r.fuel es e rest w r.enough z f)
run_fault s w b (at-bytes es rest o q n m i) =
    let l = ap length q in
    let r = skip (length s) [] es rest filled_none o (omega arith) in
    let c : AllBytes rest = rw (q, drop_at (run_data es) rest (length (run_data es)) refl) at (bytes_drop (length (run_data es)) s b) in
    ap (λ (x : RunResult). x.read) (ap (run_in (length s) empty_certificate) q ∙ rw (← none-given) r.same ∙ stop_here r.fuel (certificate_data es) rest c r.enough n m) ∙ ap fault (sym i)

-- ---- one or the other

-- a fault behind extensions without one, of which those of p come before s
data FaultBehind (p : List Extension) (s : List ℕ) (w : ExtensionFault) : Type 0 where
  behind-extension : (es : List Extension) (e : Extension) (rest : List ℕ)
      → FaultFree p es → Sayable e → s ≡ run_data es ++ (extension_data e ++ rest) → FaultOf (p ++ es) e w → FaultBehind p s w
  behind-bytes : (es : List Extension) (rest : List ℕ)
      → FaultFree p es → s ≡ run_data es ++ rest → (rest ≡ [] → ⊥) → NoExtension rest → w ≡ Malformed → FaultBehind p s w

of_behind : (s : List ℕ) (w : ExtensionFault) → FaultBehind [] s w → RunFault s w
of_behind s w (behind-extension es e rest o z q f) = at-extension es e rest o z q f
of_behind s w (behind-bytes es rest o q n m i) = at-bytes es rest o q n m i

-- a fault behind an extension without one is one behind those before it
fault_next : (p : List Extension) (e : Extension) (s rest : List ℕ) (w : ExtensionFault) → Sayable e → RightSize e → FirstTime p e → s ≡ extension_data e ++ rest
    → FaultBehind (p ++ (e ∷ [])) rest w → FaultBehind p s w
unfolding run_data FaultFree
fault_next p e s rest w z a n q (behind-extension es x r o y v f) =
    behind-extension (e ∷ es) x r (z, a, n, o) y
    (q ∙ ap (λ (l : List ℕ). extension_data e ++ l) v ∙ sym (append_assoc (extension_data e) (run_data es) (extension_data x ++ r)))
    (rw append_assoc at f)
fault_next p e s rest w z a n q (behind-bytes es r o v m y i) =
    behind-bytes (e ∷ es) r (z, a, n, o) (q ∙ ap (λ (l : List ℕ). extension_data e ++ l) v ∙ sym (append_assoc (extension_data e) (run_data es) r)) m y i

abbrev Decided : List Extension → List ℕ → Type 0
Decided p s = ((es : List Extension) × FaultFree p es × (s ≡ run_data es)) ⊎ ((w : ExtensionFault) × FaultBehind p s w)

decided_none : (p : List Extension) → Decided p []
unfolding run_data FaultFree
decided_none p = inl ([], tt, refl)

module _ (p : List Extension) (e : Extension) (s rest : List ℕ) (z : Sayable e) (q : s ≡ extension_data e ++ rest) where
  decided-fault : (w : ExtensionFault) × FaultOf p e w → Decided p s
  unfolding run_data FaultFree
  decided-fault f = inr (f.0, behind-extension [] e rest tt z q (rw append-nil f.1))

  decided-next : RightSize e × FirstTime p e → Decided (p ++ (e ∷ [])) rest → Decided p s
  unfolding run_data FaultFree
  decided-next o (inl x) = inl (e ∷ x.0, (z, o.0, o.1, x.1), q ∙ ap (λ (l : List ℕ). extension_data e ++ l) x.2)
  decided-next o (inr x) = inr (x.0, fault_next p e s rest x.0 z o.0 o.1 q x.1)

decided_broken : (p : List Extension) (s : List ℕ) → NoExtension s → Decided p s
unfolding run_data FaultFree
decided_broken p [] m = decided_none p
decided_broken p (a ∷ s) m = inr (Malformed, behind-bytes [] (a ∷ s) tt refl (λ e. let l = ap length e in omega arith) m refl)

decide : (k : ℕ) (p : List Extension) (s : List ℕ) → AllBytes s → length s ≤ k → Decided p s
decide zero p s b h = rw (none_left s (omega arith)) (decided_none p)
decide (suc k) p s b h =
    ⊎_elim
    (λ x.
    let l = ap length x.3 in
    let n = length (extension_data x.0) in
    let c : AllBytes x.1 = rw (x.3, drop_at (extension_data x.0) x.1 n refl) at (bytes_drop n s b) in
    ⊎_elim
    (λ o. decided-next p x.0 s x.1 x.2 x.3 o (decide k (p ++ (x.0 ∷ [])) x.1 c (front_less x.0 x.1 k (omega arith))))
    (decided-fault p x.0 s x.1 x.2 x.3)
    (free_or_fault p x.0))
    (decided_broken p s)
    (begins s b)

-- bytes are a run of extensions without a fault, or have one
pub run_or_fault : (s : List ℕ) → AllBytes s → ((es : List Extension) × RunOf es s) ⊎ ((w : ExtensionFault) × RunFault s w)
run_or_fault s b = ⊎_elim (λ x. inl (x.0, record { fault_free = x.1; written = x.2 })) (λ x. inr (x.0, of_behind s x.0 x.1)) (decide (length s) [] s b (omega arith))
