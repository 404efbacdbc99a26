-- `read_stamp` reads by the rows of Table 11, tells the first fault, and writes the places where there is none.
use native.Mathlib.Omega.{arith}
use Rattle.base.specs.Bytes.{AllBytes}
use Rattle.objects_reader.specs.Form.{form_in, form_of}
use Rattle.objects_stamp.proofs.Stamps.{told_fault}
use Rattle.objects_stamp.proofs.Writing.{small_places, read_right, read_wrong, read_short}
use Rattle.objects_stamp.proofs.read_stamp.Goals as goal

pub returns-then-places-lt26 : goal.returns-then-places-lt26
returns-then-places-lt26 c = read_short _ _ c.if-places-lt26.true

pub write-requires : goal.write-requires
unfolding AllBytes form_of form_in
write-requires c =
    let r = c.read_all-r.ensures in
    let f = small_places _ (told_fault _ r c.tell.ensures) r (λ i. omega (arith, c.type_inv.s i)) c.in-Ok.is in
    (c.if-places-lt26.false, f.0, f.1)

pub returns-in-Ok : goal.returns-in-Ok
unfolding form_of form_in
returns-in-Ok c =
    let r = c.read_all-r.ensures in
    read_right _ (told_fault _ r c.tell.ensures) r _ c.if-places-lt26.false c.in-Ok.is c.write.ensures

pub returns-in-Err : goal.returns-in-Err
unfolding form_of form_in
returns-in-Err c =
    let r = c.read_all-r.ensures in
    read_wrong _ (told_fault _ r c.tell.ensures) r _ c.if-places-lt26.false c.in-Err.is
