-- The commands on record files with fewer rights: the same action, or 6982. Read before: Fewer.antt of machine_session. Exports
-- `append_record_fewer`, `read_record_fewer` and `search_record_fewer`.
use Prim.Native.Nat.{ℕ, ◌/◌}
use mathlib.Core.Path.{◌≡◌, refl}
use mathlib.Core.Logic.{inl}
use mathlib.Core.List.{List}
use lib.ListN.{length}
use Rattle.store_kinds.specs.declared.rules.Rule.{Rule}
use Rattle.objects_templates.specs.Search.{read_search}
use Rattle.machine_apdu.specs.Status.{not_permitted}
use Rattle.machine_apdu.specs.declared.Frame.{Frame}
use Rattle.machine_session.specs.Resolve.{resolve_record}
use Rattle.machine_session.specs.declared.Session.{Session}
use Rattle.machine_session.specs.declared.Access.TheVariants.{Read, Append}
use Rattle.machine_session.proofs.Fewer.{SameOrStop, same_or_stop_in_order, same_or_stop_by, Weaker, current_record-same, resolve_record_fewer}
use Rattle.machine_action.specs.Tests.{or_current, on_record}
use Rattle.machine_record.specs.AppendRecord.{append_on, append_record}
use Rattle.machine_record.specs.ReadRecord.{record_named, read_record_on, read_record}
use Rattle.machine_record.specs.SearchRecord.{file_in, search_named, search_on, search_by, search_record}
use Rattle.std.specs.Prelude.{Option, Some, None, Result, Ok, Err}
use Rattle.objects_templates.specs.declared.Search.{Search}

module _ (img : List ℕ) (s s' : Session) (h : Weaker s s') (f : Frame) where
  pub append_record_fewer : (d : List ℕ) → SameOrStop (Err not_permitted) (append_record img s f d) (append_record img s' f d)
  unfolding append_record
  append_record_fewer d =
      same_or_stop_in_order _
      (same_or_stop_by (λ (x : Result Rule ℕ). on_record x (append_on img (length d))) (resolve_record_fewer img s s' h Append (or_current (f.header.p2 / 8))))

  -- the current record is the same
  read_on-same : (r : Rule) → read_record_on img s' f r ≡ read_record_on img s f r
  unfolding read_record_on record_named
  read_on-same r = rw (current_record-same img s s' h r) refl

  on_record-same : (x : Result Rule ℕ) → on_record x (read_record_on img s' f) ≡ on_record x (read_record_on img s f)
  on_record-same (Err w) = refl
  on_record-same (Ok r) = read_on-same r

  pub read_record_fewer : SameOrStop (Err not_permitted) (read_record img s f) (read_record img s' f)
  unfolding read_record
  read_record_fewer =
      same_or_stop_in_order _
      (rw (on_record-same (resolve_record img s' Read (or_current (f.header.p2 / 8))))
      (same_or_stop_by (λ (x : Result Rule ℕ). on_record x (read_record_on img s f)) (resolve_record_fewer img s s' h Read (or_current (f.header.p2 / 8)))))

  search_by-fewer : (d : List ℕ) (q : Option Search) → SameOrStop (Err not_permitted) (search_by img s f.ne d q) (search_by img s' f.ne d q)
  search_by-fewer d None = inl refl
  search_by-fewer d (Some q) = same_or_stop_by (λ (x : Result Rule ℕ). on_record x (search_on q f.ne)) (resolve_record_fewer img s s' h Read (search_named (file_in d q)))

  pub search_record_fewer : (d : List ℕ) → SameOrStop (Err not_permitted) (search_record img s f d) (search_record img s' f d)
  unfolding search_record
  search_record_fewer d = same_or_stop_in_order _ (search_by-fewer d (read_search d))
