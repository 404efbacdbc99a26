use Prim.Native.Nat.{ℕ}
use mathlib.Core.Path.{◌≡◌, sym, ◌∙◌}
use mathlib.Core.List.{List}
use native.Mathlib.Omega.{arith}
use lib.ListN.{length}
use lib.Seq.{ext_get_or}
use Rattle.machine_rights.specs.Chain.{joined_bytes}
use Rattle.machine_rights.proofs.Elements.{get_d_joined, length-joined}
use Rattle.machine_rights.proofs.join_bytes.Goals as goal

pub returns : goal.returns
returns c =
    let x : List ℕ = c.args.x in
    let y : List ℕ = c.args.y in
    let e : length x ≡ length y = omega (arith, c.well_formed) in
    ext_get_or 0 c.loop-i.z (joined_bytes x y) (omega (arith, length-joined x y e, c.well_formed))
    (λ j h. c.loop-i.invariant.1 j (omega arith) ∙ sym (get_d_joined x y j))
