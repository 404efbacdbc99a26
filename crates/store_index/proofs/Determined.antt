-- Every public function of this crate has one outcome: its contract leaves nothing open, no entry of the list, and not where in memory the
-- record that is returned stands. Read before: specs/Determined.antt of base.
use Prim.Native.Nat.{ℕ}
use mathlib.Core.Path.{◌≡◌, refl, sym, ◌∙◌}
use mathlib.Core.List.{List}
use denote.Ref.{Bor}
use Rattle.base.specs.Determined.{Determined, DeterminedAddress}
use Rattle.base.proofs.Lending.{part_of_same}
use Rattle.store_index.specs.Index.{measure, IndexedPart}
use Rattle.store_index.proofs.build.Kinds as build-kinds
use Rattle.store_index.proofs.build.Reads as build-reads
use Rattle.store_index.proofs.extend.Kinds as extend-kinds
use Rattle.store_index.proofs.extend.Reads as extend-reads
use Rattle.store_index.proofs.measure.Kinds as measure-kinds
use Rattle.store_index.proofs.measure.Reads as measure-reads
use Rattle.store_index.proofs.read.Kinds as read-kinds
use Rattle.store_index.proofs.read.Reads as read-reads
use Rattle.std.specs.Prelude.{Option, Some, None}

pub build_determined : Determined build-kinds.ps build-kinds.r build-reads.Post
build_determined κs a e f p q i = ((p.0 ∙ sym q.0) i, (tt, (tt, ((p.1 ∙ sym q.1) i, tt))))

pub extend_determined : Determined extend-kinds.ps extend-kinds.r extend-reads.Post
extend_determined κs a e f p q i = ((p.0 ∙ sym q.0) i, (tt, (tt, ((p.1 ∙ sym q.1) i, (tt, tt)))))

pub measure_determined : Determined measure-kinds.ps measure-kinds.r measure-reads.Post
measure_determined κs a e f p q i = ((p ∙ sym q) i, e.1)

-- two parts that are returned for one answer are the same part
same : (x : Option ℕ) (ps : List ℕ) (n : ℕ) (body r t : Bor (List ℕ)) → IndexedPart x ps n body r → IndexedPart x ps n body t → (r.now ≡ t.now) × (r.ref_ptr ≡ t.ref_ptr)
same (Some l) ps n body r t p q = part_of_same body _ l r t p q
same None ps n body r t p q = part_of_same body 0 0 r t p q

pub read_determined : DeterminedAddress read-kinds.ps read-reads.Post
read_determined κs a e f p q =
    let s = same (measure a.0.now a.1.0.now a.1.1.0) a.1.0.now a.1.1.0 a.0 e.0 f.0 p q in (s.0, s.1, refl)
