-- An object at the start of a part, and that a writing settles its values. Read before: specs/Encoding.antt. Exports `object-…` (what is read
-- of a written object) and `encode_unique`.
use Prim.Native.Nat.{ℕ, ◌+◌, ◌<◌}
use mathlib.Core.Path.{◌≡◌, refl, sym, ap, ap₂, ◌∙◌}
use mathlib.Core.List.{List, ◌++◌, append_assoc}
use mathlib.Core.Bool.{true}
use native.Mathlib.Omega.{arith}
use lib.ListN.{length, take, drop, length-append}
use lib.Seq.{drop_at, take_at}
use Rattle.objects_writer.specs.Writing.{length_bytes, tag_bytes, tlv}
use Rattle.objects_reader.specs.Head.{head_of}
use Rattle.objects_reader.specs.Form.{Form, done, plain, maybe, nested}
use Rattle.objects_reader.specs.Encoding.{Perhaps, absent, present, perhaps, Values, encode, apart, Follows, Proper}
use Rattle.objects_reader.specs.declared.head.HeadFault.TheVariants.{NoTag}
use Rattle.std.specs.Prelude.{Ok, Err}
use Rattle.objects_reader.proofs.Heads.{same_place, head_size, head_of_complete, head_of_apart, head_of_empty}

-- ---- an object at the start of a part

pub length-tlv : (t : ℕ) (a : List ℕ) → length (tlv t a) ≡ head_size t (length a) + length a
unfolding tlv
length-tlv t a = simp length-append

module _ (t : ℕ) (a e : List ℕ) where
  pub object_size : length (tlv t a ++ e) ≡ head_size t (length a) + length a + length e
  object_size = simp (length-append, length-tlv)

  pub object_head : t < 65536 → length a < 65536 → head_of t (tlv t a ++ e) ≡ Ok (head_size t (length a), length a)
  unfolding tlv
  object_head p q = simp append_assoc (head_of_complete t (length a) (a ++ e) p q (simp length-append (omega arith)))

  pub object_value : take (length a) (drop (head_size t (length a)) (tlv t a ++ e)) ≡ a
  unfolding tlv
  object_value = rw (append_assoc (tag_bytes t ++ length_bytes (length a)) a e, drop_at (tag_bytes t ++ length_bytes (length a)) (a ++ e) (head_size t (length a)) (length-append (tag_bytes t) (length_bytes (length a)))) (take_at a e (length a) refl)

  pub object_rest : drop (head_size t (length a) + length a) (tlv t a ++ e) ≡ e
  unfolding tlv
  object_rest = drop_at ((tag_bytes t ++ length_bytes (length a)) ++ a) e (head_size t (length a) + length a) (simp length-append)

-- what cannot be taken for an object of tag t
follows_tlv : (t t' : ℕ) (a e : List ℕ) → apart t t' ≡ true → head_of t (tlv t' a ++ e) ≡ Err NoTag
unfolding tlv
follows_tlv t t' a e p = simp append_assoc (head_of_apart t t' (length a) (a ++ e) p)

follows_maybe : (t t' : ℕ) (o : Perhaps) (e : List ℕ) → apart t t' ≡ true → head_of t e ≡ Err NoTag → head_of t (perhaps t' o ++ e) ≡ Err NoTag
unfolding perhaps
follows_maybe t t' absent e p q = q
follows_maybe t t' (present a) e p q = follows_tlv t t' a e p

pub follows_head : (t : ℕ) (f : Form) (v : Values f) → Follows t f → head_of t (encode f v) ≡ Err NoTag
unfolding encode Follows
follows_head t done v a = head_of_empty t
follows_head t (plain t' lo hi f) v a = follows_tlv t t' v.0 (encode f v.1) a
follows_head t (maybe t' lo hi f) v a = follows_maybe t t' v.0 (encode f v.1) a.0 (follows_head t f v.1 a.1)
follows_head t (nested t' g f) v a = follows_tlv t t' (encode g v.0) (encode f v.1) a

-- ---- a writing settles its values

same_object : (t : ℕ) (a b e g : List ℕ) → t < 65536 → length (tlv t a ++ e) < 65536 → tlv t a ++ e ≡ tlv t b ++ g → (a ≡ b) × (e ≡ g)
same_object t a b e g p q h =
    let k = ap length h in
    let l = object_size t a e in
    let m = object_size t b g in
    let x = object_head t a e p (omega arith) in
    let y = object_head t b g p (omega arith) in
    let n : length a ≡ length b = (same_place (sym x ∙ ap (head_of t) h ∙ y)).1 in
    let u = ap (head_size t) n in (
      sym (object_value t a e) ∙ cc (object_value t b g),
      sym (object_rest t a e) ∙ cc (object_rest t b g),
    )

no_object : {A : Type 0} (t : ℕ) (a e l : List ℕ) → t < 65536 → length (tlv t a ++ e) < 65536 → head_of t l ≡ Err NoTag → l ≡ tlv t a ++ e → A
no_object t a e l p q h k =
    let l = object_size t a e in
    let x = object_head t a e p (omega arith) in
    let y = ap (head_of t) k in
    let z : ◌≡◌ {A = ℕ} 0 1 = cc in absurd (omega arith)

unique_maybe : (t lo hi : ℕ) (f : Form) (o q : Perhaps) (v w : Values f) → t < 65536 → Follows t f → length (perhaps t o ++ encode f v) < 65536
    → (length (encode f v) < 65536 → encode f v ≡ encode f w → v ≡ w) → perhaps t o ++ encode f v ≡ perhaps t q ++ encode f w → ◌≡◌ {A = Values (maybe t lo hi f)} (o, v) (q, w)
unfolding perhaps
unique_maybe t lo hi f absent absent v w p a l ih e = ap (λ (x : Values f). (absent, x)) (ih l e)
unique_maybe t lo hi f absent (present b) v w p a l ih e =
    let k = ap length e in no_object t b (encode f w) (encode f v) p (omega arith) (follows_head t f v a) e
unique_maybe t lo hi f (present b) absent v w p a l ih e =
    let k = ap length e in no_object t b (encode f v) (encode f w) p l (follows_head t f w a) (sym e)
unique_maybe t lo hi f (present b) (present c) v w p a l ih e =
    let s = same_object t b c (encode f v) (encode f w) p l e in
    let z = object_size t b (encode f v) in
    ap₂ (λ (x : List ℕ) (y : Values f). (present x, y)) s.0 (ih (omega arith) s.1)

pub encode_unique : (f : Form) → Proper f → (v w : Values f) → length (encode f v) < 65536 → encode f v ≡ encode f w → v ≡ w
unfolding encode Proper
encode_unique done p v w l e = refl
encode_unique (plain t lo hi f) p v w l e =
    let s = same_object t v.0 w.0 (encode f v.1) (encode f w.1) p.0 l e in
    let z = object_size t v.0 (encode f v.1) in
    ap₂ (λ (x : List ℕ) (y : Values f). (x, y)) s.0 (encode_unique f p.1 v.1 w.1 (omega arith) s.1)
encode_unique (maybe t lo hi f) p v w l e =
    unique_maybe t lo hi f v.0 w.0 v.1 w.1 p.0 p.1 l (encode_unique f p.2 v.1 w.1) e
encode_unique (nested t g f) p v w l e =
    let s = same_object t (encode g v.0) (encode g w.0) (encode f v.1) (encode f w.1) p.0 l e in
    let z = object_size t (encode g v.0) (encode f v.1) in
    ap₂ (λ (x : Values g) (y : Values f). (x, y)) (encode_unique g p.1 v.0 w.0 (omega arith) s.0) (encode_unique f p.2 v.1 w.1 (omega arith) s.1)
