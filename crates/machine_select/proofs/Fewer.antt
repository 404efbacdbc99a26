-- SELECT and FMM with fewer rights: the same action, or 6982. Read before: Fewer.antt of machine_session. Exports `select_fewer` and `fmm_fewer`.
use Prim.Native.Nat.{ℕ, ◌/◌}
use mathlib.Core.Path.{refl}
use mathlib.Core.Logic.{inl}
use mathlib.Core.List.{List}
use lib.ListN.{length, get_or}
use lib.Dec.{eqb}
use Rattle.base.specs.Bytes.{part}
use Rattle.store_image.specs.Image.{present}
use Rattle.store_files.specs.Master.{aid_of}
use Rattle.objects_templates.specs.Reference.{read_reference}
use Rattle.machine_rights.specs.Rights.{flagged}
use Rattle.machine_apdu.specs.Status.{not_permitted}
use Rattle.machine_apdu.specs.declared.Frame.{Frame}
use Rattle.machine_session.specs.Order.{in_order}
use Rattle.machine_session.specs.declared.Session.{Session}
use Rattle.machine_session.specs.declared.Named.{Named}
use Rattle.machine_session.specs.declared.Named.TheVariants.{Current, Short, Id}
use Rattle.machine_session.proofs.Fewer.{SameOrStop, same_or_stop_both, same_or_stop_right, same_or_stop_in_order, same_or_stop_by, Weaker, resolve_file_fewer}
use Rattle.machine_action.specs.Tests.{id_in, on_file}
use Rattle.machine_action.specs.declared.Action.TheVariants.{SelectApplication, SelectFile}
use Rattle.machine_select.specs.Select.{select_aid, select_file, select_by, select}
use Rattle.machine_select.specs.Fmm.{fmm_on, fmm_named, fmm_file, fmm_by, fmm}
use Rattle.std.specs.Prelude.{Option, Some, None, Result}
use Rattle.store_files.specs.declared.File.{File}
use Rattle.objects_templates.specs.Span.{Span}
use Rattle.std.specs.Prelude.{Ok, Err}

module _ (img : List ℕ) (s s' : Session) (h : Weaker s s') where
  -- ---- SELECT

  aid-fewer : (a : Option ℕ) → SameOrStop (Err not_permitted) (select_aid img s a) (select_aid img s' a)
  unfolding in_order
  aid-fewer None = inl refl
  aid-fewer (Some a) =
      same_or_stop_both (present img a)
      (same_or_stop_right (Err not_permitted) (Ok (SelectApplication a)) (flagged s.rights a) (flagged s'.rights a) (h.grants.applications a))
      (inl refl)

  file-fewer : (i : ℕ) → SameOrStop (Err not_permitted) (select_file img s i) (select_file img s' i)
  unfolding select_file
  file-fewer i = same_or_stop_by (λ (x : Result File ℕ). on_file x (λ (f : File). Ok (SelectFile f))) (resolve_file_fewer img s s' h (Id i))

  pub select_fewer : (f : Frame) (d : List ℕ) → SameOrStop (Err not_permitted) (select img s f d) (select img s' f d)
  unfolding select select_by
  select_fewer f d =
      same_or_stop_in_order _
      (same_or_stop_both (eqb f.header.p1 0x04) (aid-fewer (aid_of d))
      (same_or_stop_both (eqb f.header.p1 0x02) (file-fewer (id_in d)) (inl refl)))

  -- ---- FMM

  module _ (p2 : ℕ) where
    named-fewer : (named : Named) → SameOrStop (Err not_permitted) (fmm_named img s p2 named) (fmm_named img s' p2 named)
    unfolding fmm_named
    named-fewer named = same_or_stop_by (λ (x : Result File ℕ). on_file x (fmm_on p2)) (resolve_file_fewer img s s' h named)

    reference-fewer : (v : List ℕ) → SameOrStop (Err not_permitted) (fmm_file img s p2 v) (fmm_file img s' p2 v)
    unfolding fmm_file
    reference-fewer v =
        same_or_stop_both (eqb (length v) 1)
        (same_or_stop_in_order _ (named-fewer (Short (get_or v 0 0 / 8))))
        (named-fewer (Id (id_in v)))

    by-fewer : (d : List ℕ) (r : Option Span) → SameOrStop (Err not_permitted) (fmm_by img s p2 d r) (fmm_by img s' p2 d r)
    by-fewer d None = inl refl
    by-fewer d (Some p) = reference-fewer (part d p.at p.len)

  pub fmm_fewer : (f : Frame) (d : List ℕ) → SameOrStop (Err not_permitted) (fmm img s f d) (fmm img s' f d)
  unfolding fmm
  fmm_fewer f d =
      same_or_stop_in_order _
      (same_or_stop_both (eqb f.header.p1 0) (named-fewer f.header.p2 Current) (by-fewer f.header.p2 d (read_reference d)))
