-- Steps 7 to 9 in two sessions that differ in their rights alone, where the second's grant no more: the second's answer is the first's, or that the
-- right is missing. Read before: specs/Resolve.antt, specs/Joining.antt of machine_rights. Exports `SameOrStop` with
-- its laws; `Weaker`, `current_record-same`; `resolve…_fewer` for each of the four answers.
use Prim.Native.Nat.{ℕ}
use mathlib.Core.Path.{◌≡◌, refl, ap}
use mathlib.Core.Bool.{Bool, true, false, not}
use mathlib.Core.Logic.{◌⊎◌, inl, inr}
use mathlib.Core.List.{List, [], ◌∷◌}
use Rattle.base.specs.Choice.{if_else}
use Rattle.base.proofs.Cases.{false-true}
use Rattle.store_kinds.specs.declared.rules.Rule.{Rule}
use Rattle.store_files.specs.declared.Transparent.{Transparent}
use Rattle.store_files.specs.declared.Transparent.TheVariants.{Info, Dir, Biometrics}
use Rattle.store_files.specs.declared.File.{File}
use Rattle.store_files.specs.declared.File.TheVariants.{RecordFile, TransparentFile}
use Rattle.machine_rights.specs.Joining.{GrantsNoMore}
use Rattle.machine_rights.specs.Rights.{may_biometrics}
use Rattle.machine_apdu.specs.Status.{not_permitted}
use Rattle.machine_session.specs.Order.{in_order}
use Rattle.machine_session.specs.Session.{current_record}
use Rattle.machine_session.specs.Resolve.{file_meant, is_certificates, appends, may_record, activated, may_read, may_inspect, record_by, resolve_record, transparent_by, resolve_transparent, writable, biometrics_by, resolve_biometrics, file_by, resolve_file}
use Rattle.machine_session.specs.declared.Session.{Session}
use Rattle.machine_session.specs.declared.Named.{Named}
use Rattle.machine_session.specs.declared.Named.TheVariants.{Current, Short, Id}
use Rattle.machine_session.specs.declared.Access.{Access}
use Rattle.machine_session.specs.declared.Access.TheVariants.{Read}
use Rattle.std.specs.Prelude.{Result, Ok, Err}

-- ---- the same answer, or the one that stops

-- b is a, or it is the answer `stop`
abbrev pub SameOrStop : {A : Type 0} → A → A → A → Type 0
SameOrStop stop a b = (b ≡ a) ⊎ (b ≡ stop)

-- a choice by a test that both make
pub same_or_stop_both : {A : Type 0} {stop : A} (t : Bool) {a b a' b' : A} → SameOrStop stop a a' → SameOrStop stop b b' → SameOrStop stop (if_else t a b) (if_else t a' b')
same_or_stop_both true p q = p
same_or_stop_both false p q = q

-- a test of a right: where the second passes it, so does the first
pub same_or_stop_right : {A : Type 0} (stop a : A) (t t' : Bool) → (t' ≡ true → t ≡ true) → SameOrStop stop (if_else t a stop) (if_else t' a stop)
same_or_stop_right stop a true true h = inl refl
same_or_stop_right stop a true false h = inr refl
same_or_stop_right stop a false false h = inl refl
same_or_stop_right stop a false true h = false-true (h refl)

-- behind tests that both make
pub same_or_stop_in_order : {A : Type 0} {stop : A} (cs : List (Bool × A)) {a b : A} → SameOrStop stop a b → SameOrStop stop (in_order cs a) (in_order cs b)
unfolding in_order
same_or_stop_in_order [] p = p
same_or_stop_in_order (c ∷ cs) p = same_or_stop_both c.0 (same_or_stop_in_order cs p) (inl refl)

-- what goes on from there
pub same_or_stop_by : {A B : Type 0} (f : A → B) {stop a b : A} → SameOrStop stop a b → SameOrStop (f stop) (f a) (f b)
same_or_stop_by f (inl e) = inl (ap f e)
same_or_stop_by f (inr e) = inr (ap f e)

-- ---- steps 7 to 9

-- s' is s with other rights, which grant no more
pub record Weaker (s s' : Session) : Type 0 where
  pub application-same : s'.application ≡ s.application
  pub place_same : s'.place ≡ s.place
  pub grants : GrantsNoMore s'.rights s.rights

module _ (img : List ℕ) (s s' : Session) (h : Weaker s s') where
  g : GrantsNoMore s'.rights s.rights
  g = h.grants

  -- which file is meant, and which record is the current one, has nothing to do with rights
  meant-same : (named : Named) → file_meant img s' named ≡ file_meant img s named
  unfolding file_meant
  meant-same Current = rw (h.application-same, h.place_same) refl
  meant-same (Short x) = rw h.application-same refl
  meant-same (Id i) = rw h.application-same refl

  pub current_record-same : (r : Rule) → current_record s' r ≡ current_record s r
  unfolding current_record
  current_record-same r = rw h.place_same refl

  may_record-fewer : (x : Access) (r : Rule) → may_record s' x r ≡ true → may_record s x r ≡ true
  unfolding may_record
  may_record-fewer x r = g.records r.application (is_certificates r) (appends x)

  may_read-fewer : (t : Transparent) → may_read img s' t ≡ true → may_read img s t ≡ true
  unfolding may_read
  may_read-fewer Info e = e
  may_read-fewer Dir e = e
  may_read-fewer (Biometrics n) e = g.files n (activated img n) e

  may_inspect-fewer : (f : File) → may_inspect img s' f ≡ true → may_inspect img s f ≡ true
  unfolding may_inspect
  may_inspect-fewer (RecordFile r) = may_record-fewer Read r
  may_inspect-fewer (TransparentFile t) = may_read-fewer t

  pub resolve_record_fewer : (x : Access) (named : Named)
      → SameOrStop (Err not_permitted) (resolve_record img s x named) (resolve_record img s' x named)
  unfolding resolve_record
  resolve_record_fewer x named = rw (meant-same named) (go (file_meant img s named))
    where
      go : (m : Result File ℕ) → SameOrStop (Err not_permitted) (record_by s x m) (record_by s' x m)
      go (Err w) = inl refl
      go (Ok (TransparentFile t)) = inl refl
      go (Ok (RecordFile r)) = same_or_stop_right (Err not_permitted) (Ok r) (may_record s x r) (may_record s' x r) (may_record-fewer x r)

  pub resolve_transparent_fewer : (named : Named)
      → SameOrStop (Err not_permitted) (resolve_transparent img s named) (resolve_transparent img s' named)
  unfolding resolve_transparent
  resolve_transparent_fewer named = rw (meant-same named) (go (file_meant img s named))
    where
      go : (m : Result File ℕ) → SameOrStop (Err not_permitted) (transparent_by img s m) (transparent_by img s' m)
      go (Err w) = inl refl
      go (Ok (RecordFile r)) = inl refl
      go (Ok (TransparentFile t)) = same_or_stop_right (Err not_permitted) (Ok t) (may_read img s t) (may_read img s' t) (may_read-fewer t)

  pub resolve_biometrics_fewer : (named : Named)
      → SameOrStop (Err not_permitted) (resolve_biometrics img s named) (resolve_biometrics img s' named)
  unfolding resolve_biometrics
  resolve_biometrics_fewer named = rw (meant-same named) (go (file_meant img s named))
    where
      of : (t : Transparent) → SameOrStop (Err not_permitted) (writable img s t) (writable img s' t)
      of Info = inl (unfold writable in refl)
      of Dir = inl (unfold writable in refl)
      of (Biometrics n) =
          unfold writable in_order in
          same_or_stop_both (not (activated img n))
          (same_or_stop_right (Err not_permitted) (Ok n) (may_biometrics s.rights n false) (may_biometrics s'.rights n false) (g.files n false))
          (inl refl)

      go : (m : Result File ℕ) → SameOrStop (Err not_permitted) (biometrics_by img s m) (biometrics_by img s' m)
      go (Err w) = inl refl
      go (Ok (RecordFile r)) = inl refl
      go (Ok (TransparentFile t)) = of t

  pub resolve_file_fewer : (named : Named) → SameOrStop (Err not_permitted) (resolve_file img s named) (resolve_file img s' named)
  unfolding resolve_file
  resolve_file_fewer named = rw (meant-same named) (go (file_meant img s named))
    where
      go : (m : Result File ℕ) → SameOrStop (Err not_permitted) (file_by img s m) (file_by img s' m)
      go (Err w) = inl refl
      go (Ok f) = same_or_stop_right (Err not_permitted) (Ok f) (may_inspect img s f) (may_inspect img s' f) (may_inspect-fewer f)
