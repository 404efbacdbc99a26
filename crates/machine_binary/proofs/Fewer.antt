-- The binary commands and ACTIVATE with fewer rights: the same action, or 6982. Read before: Fewer.antt of machine_session. Exports
-- `read_binary_fewer`, `read_binary_odd_fewer`, `update_binary_fewer` and `activate_file_fewer`.
use Prim.Native.Nat.{ℕ}
use mathlib.Core.Path.{refl}
use mathlib.Core.Logic.{inl}
use mathlib.Core.List.{List}
use Rattle.objects_templates.specs.OffsetObject.{read_offset_object}
use Rattle.objects_templates.specs.Update.{read_update}
use Rattle.machine_apdu.specs.Status.{not_permitted}
use Rattle.machine_apdu.specs.declared.Frame.{Frame}
use Rattle.machine_session.specs.declared.Session.{Session}
use Rattle.machine_session.specs.declared.Named.TheVariants.{Current}
use Rattle.machine_session.proofs.Fewer.{SameOrStop, same_or_stop_in_order, same_or_stop_by, Weaker, resolve_transparent_fewer, resolve_biometrics_fewer}
use Rattle.machine_action.specs.Tests.{p1p2, id_or_current, on_transparent, on_biometrics}
use Rattle.machine_action.specs.declared.Action.TheVariants.{Activate}
use Rattle.machine_binary.specs.ReadBinary.{read_named, read_offset, read_binary_on, read_binary}
use Rattle.machine_binary.specs.ReadBinaryOdd.{read_odd_on, read_odd_by, read_binary_odd}
use Rattle.machine_binary.specs.UpdateBinary.{update_on, update_by, update_binary}
use Rattle.machine_binary.specs.Activate.{activate_file}
use Rattle.std.specs.Prelude.{Option, Some, None, Result}
use Rattle.store_files.specs.declared.Transparent.{Transparent}
use Rattle.objects_templates.specs.declared.Writes.{Writes}
use Rattle.std.specs.Prelude.{Ok, Err}

module _ (img : List ℕ) (s s' : Session) (h : Weaker s s') (f : Frame) where
  pub read_binary_fewer : SameOrStop (Err not_permitted) (read_binary img s f) (read_binary img s' f)
  unfolding read_binary
  read_binary_fewer =
      same_or_stop_in_order _
      (same_or_stop_by (λ (x : Result Transparent ℕ). on_transparent x (read_binary_on img (read_offset f) f.ne)) (resolve_transparent_fewer img s s' h (read_named f)))

  odd-fewer : (o : Option ℕ) → SameOrStop (Err not_permitted) (read_odd_by img s f o) (read_odd_by img s' f o)
  odd-fewer None = inl refl
  odd-fewer (Some n) =
      same_or_stop_by (λ (x : Result Transparent ℕ). on_transparent x (read_odd_on img n f.ne)) (resolve_transparent_fewer img s s' h (id_or_current (p1p2 f)))

  pub read_binary_odd_fewer : (d : List ℕ) → SameOrStop (Err not_permitted) (read_binary_odd img s f d) (read_binary_odd img s' f d)
  unfolding read_binary_odd
  read_binary_odd_fewer d = same_or_stop_in_order _ (odd-fewer (read_offset_object d))

  update-fewer : (i : ℕ) (u : Option Writes) → SameOrStop (Err not_permitted) (update_by img s i u) (update_by img s' i u)
  update-fewer i None = inl refl
  update-fewer i (Some w) = same_or_stop_by (λ (x : Result ℕ ℕ). on_biometrics x (update_on img w)) (resolve_biometrics_fewer img s s' h (id_or_current i))

  pub update_binary_fewer : (d : List ℕ) → SameOrStop (Err not_permitted) (update_binary img s f d) (update_binary img s' f d)
  unfolding update_binary
  update_binary_fewer d = same_or_stop_in_order _ (update-fewer (p1p2 f) (read_update d))

  pub activate_file_fewer : SameOrStop (Err not_permitted) (activate_file img s f) (activate_file img s' f)
  unfolding activate_file
  activate_file_fewer =
      same_or_stop_in_order _ (same_or_stop_by (λ (x : Result ℕ ℕ). on_biometrics x (λ (n : ℕ). Ok (Activate n))) (resolve_biometrics_fewer img s s' h Current))
