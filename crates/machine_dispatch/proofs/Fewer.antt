-- What a command comes to with fewer rights: the same, or 6982. Read before: specs/Decide.antt, Fewer.antt of machine_session. Exports `decide_fewer`.
use Prim.Native.Nat.{ℕ}
use mathlib.Core.Path.{refl}
use mathlib.Core.Logic.{inl}
use mathlib.Core.List.{List, ◌++◌}
use lib.Dec.{eqb}
use Rattle.base.specs.Bytes.{part}
use Rattle.machine_apdu.specs.Shape.{shape_of}
use Rattle.machine_apdu.specs.Status.{not_permitted}
use Rattle.machine_apdu.specs.declared.Frame.{Frame}
use Rattle.machine_session.specs.declared.Session.{Session}
use Rattle.machine_session.proofs.Fewer.{SameOrStop, same_or_stop_both, Weaker}
use Rattle.machine_record.proofs.Fewer.{append_record_fewer, read_record_fewer, search_record_fewer}
use Rattle.machine_binary.proofs.Fewer.{read_binary_fewer, read_binary_odd_fewer, update_binary_fewer, activate_file_fewer}
use Rattle.machine_select.proofs.Fewer.{select_fewer, fmm_fewer}
use Rattle.machine_chain.specs.Chain.{Chain, so_far}
use Rattle.machine_link.specs.Link.{turn}
use Rattle.machine_link.specs.declared.Course.{Course}
use Rattle.machine_link.specs.declared.Course.TheVariants.{Extends, Goes}
use Rattle.machine_dispatch.specs.Decide.{by_ins, by_own_ins, by_class, whole_frame, on_course, by_shape, decide}
use Rattle.std.specs.Prelude.{Option, Some, None}
use Rattle.std.specs.Prelude.{Err}
use Rattle.std.specs.Prelude.{Result, Ok}

module _ (img : List ℕ) (s s' : Session) (h : Weaker s s') where
  module _ (f : Frame) (d : List ℕ) where
    abbrev ins : ℕ
    ins = f.header.ins

    by_ins-fewer : SameOrStop (Err not_permitted) (by_ins img s f d) (by_ins img s' f d)
    unfolding by_ins
    by_ins-fewer =
        same_or_stop_both (eqb ins 0xA4) (select_fewer img s s' h f d)
        (same_or_stop_both (eqb ins 0xB0) (read_binary_fewer img s s' h f)
        (same_or_stop_both (eqb ins 0xB1) (read_binary_odd_fewer img s s' h f d)
        (same_or_stop_both (eqb ins 0xD7) (update_binary_fewer img s s' h f d)
        (same_or_stop_both (eqb ins 0x44) (activate_file_fewer img s s' h f)
        (same_or_stop_both (eqb ins 0xE2) (append_record_fewer img s s' h f d)
        (same_or_stop_both (eqb ins 0xB2) (read_record_fewer img s s' h f)
        (same_or_stop_both (eqb ins 0xA2) (search_record_fewer img s s' h f d)
        (inl refl))))))))

    by_class-fewer : SameOrStop (Err not_permitted) (by_class img s f d) (by_class img s' f d)
    unfolding by_class by_own_ins
    by_class-fewer =
        same_or_stop_both (eqb f.header.cla 0x00) by_ins-fewer
        (same_or_stop_both (eqb f.header.cla 0x80) (same_or_stop_both (eqb ins 0x5E) (fmm_fewer img s s' h f d) (inl refl)) (inl refl))

    on_course-fewer : (k : Result Course ℕ) → SameOrStop (Err not_permitted) (on_course k img s f d) (on_course k img s' f d)
    on_course-fewer (Err w) = inl refl
    on_course-fewer (Ok Extends) = inl refl
    on_course-fewer (Ok Goes) = by_class-fewer

  by_shape-fewer : (ch : Chain) (cmd : List ℕ) (a : Option Frame) → SameOrStop (Err not_permitted) (by_shape img s ch cmd a) (by_shape img s' ch cmd a)
  by_shape-fewer ch cmd None = inl refl
  by_shape-fewer ch cmd (Some f) = on_course-fewer (whole_frame ch f) (so_far ch ++ part cmd f.from f.lc) (turn ch f)

  pub decide_fewer : (ch : Chain) (cmd : List ℕ) → SameOrStop (Err not_permitted) (decide img s ch cmd) (decide img s' ch cmd)
  unfolding decide
  decide_fewer ch cmd = by_shape-fewer ch cmd (shape_of cmd)
