-- When a contract leaves nothing open: whoever fulfils it answers the same and leaves the same bytes.
--
-- Rattle makes three terms of a function and its contract: `ps`, the kinds of its parameters; `r`, the kind of its result; and `Post`, what its
-- `ensures` says. A theorem `F_determined` names those of the function F. So it is about the contract as it stands in the code, and it does
-- not hold of a contract that says too little.
use Rattle.std.specs.Prelude.{◌≡◌, List, ℕ, suc}
use Rattle.std.specs.Int.{w8}
use contract.Lifetimes.{Lfts}
use denote.Triple.Clauses.{Lasts, at_exit}
use borrow.Fn.Kinds.{ParamKind, ResultKind, Out, Dens, res_t, ended_of}
use borrow.Kind.ShrSlice.{r_shr_s}
use borrow.Table.Referent.{rt_f, f_int}

-- what a call with the arguments a ends in: its answer, and what then is in each `&mut` slice that it was lent; κs are the lifetimes [C1]
abbrev pub Ending : {n : ℕ} (ps : List (ParamKind n)) (r : ResultKind n) (κs : Lfts n) → Dens κs ps → Type 0
Ending {n} ps r κs a = (res_t r κs).Denot × Lasts (ended_of n ps r) κs a

-- it fulfils the contract [C1]
abbrev pub Fulfils : {n : ℕ} (ps : List (ParamKind n)) (r : ResultKind n) → Out n ps r → (κs : Lfts n) (a : Dens κs ps) → Ending ps r κs a → Type 0
Fulfils {n} ps r Post κs a e = Post κs a e.0 (at_exit (ended_of n ps r) κs a e.1)

-- two endings of the same call that fulfil the contract are equal [C1]
abbrev pub Determined : {n : ℕ} (ps : List (ParamKind n)) (r : ResultKind n) → Out n ps r → Type 0
Determined {n} ps r Post =
    (κs : Lfts n) (a : Dens κs ps) (e f : Ending ps r κs a) → Fulfils ps r Post κs a e → Fulfils ps r Post κs a f → e ≡ f

-- the kind of a result that is a part, as `&[u8]`, of a slice that is lent for the first of the lifetimes [C1]
abbrev pub PartLent : {n : ℕ} → ResultKind (suc n)
PartLent = r_shr_s (rt_f (f_int w8)) 0 tt

-- where such a part is returned, its bytes are equal; where in memory they stand is left open [C1]
abbrev pub DeterminedPart : {n : ℕ} (ps : List (ParamKind (suc n))) → Out (suc n) ps PartLent → Type 0
DeterminedPart {n} ps Post =
    (κs : Lfts (suc n)) (a : Dens κs ps) (e f : Ending ps PartLent κs a)
    → Fulfils ps PartLent Post κs a e
    → Fulfils ps PartLent Post κs a f
    → (e.0.now ≡ f.0.now) × (e.1 ≡ f.1)

-- where the contract tells where it stands in memory, too, both are equal [C1]
abbrev pub DeterminedAddress : {n : ℕ} (ps : List (ParamKind (suc n))) → Out (suc n) ps PartLent → Type 0
DeterminedAddress {n} ps Post =
    (κs : Lfts (suc n)) (a : Dens κs ps) (e f : Ending ps PartLent κs a)
    → Fulfils ps PartLent Post κs a e
    → Fulfils ps PartLent Post κs a f
    → (e.0.now ≡ f.0.now) × (e.0.ref_ptr ≡ f.0.ref_ptr) × (e.1 ≡ f.1)
