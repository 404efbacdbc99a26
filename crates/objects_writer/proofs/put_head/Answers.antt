-- The length's bytes stand behind the tag's two in a small array, and the part of it that is written is stored.
use mathlib.Core.Path.{sym}
use native.Mathlib.Omega.{arith}
use Rattle.objects_writer.proofs.Writings.{put_same, put-none, head_bytes-tag-refused, head_bytes-length-refused, head_bytes-part, length_bytes-short, length_bytes-one, length_bytes_two}
use Rattle.objects_writer.proofs.put_head.Goals as goal

pub returns-then-tag-gt65535 : goal.returns-then-tag-gt65535
returns-then-tag-gt65535 c = put_same _ _ (sym (head_bytes-tag-refused _ _ c.if-tag-gt65535.true)) (put-none _ _)

pub returns-then-len-gt65535 : goal.returns-then-len-gt65535
returns-then-len-gt65535 c = put_same _ _ (sym (head_bytes-length-refused _ _ c.if-len-gt65535.true)) (put-none _ _)

pub returns-then-len-lt128 : goal.returns-then-len-lt128
returns-then-len-lt128 c =
    let a = c.args in
    put_same _ _
    (head_bytes-part a.tag a.len (omega arith) (omega arith) _ _ c.unwritten-k.ensures.0 (length_bytes-short _ (omega arith)))
    c.store.ensures

pub returns-then-len-lt256 : goal.returns-then-len-lt256
returns-then-len-lt256 c =
    let a = c.args in
    put_same _ _
    (head_bytes-part a.tag a.len (omega arith) (omega arith) _ _ c.unwritten-k.ensures.0 (length_bytes-one _ (omega arith) (omega arith)))
    c.store-then-len-lt256.ensures

pub returns : goal.returns
returns c =
    let a = c.args in
    put_same _ _
    (head_bytes-part a.tag a.len (omega arith) (omega arith) _ _ c.unwritten-k.ensures.0 (length_bytes_two _ (omega arith)))
    c.store-2.ensures
