-- Fewer rights, as a program in C sees it: two sessions as bytes that differ in their 20 rights bytes alone. Read before: ../specs/FewerRights.antt,
-- Fewer.antt, Linking.antt. Exports the theorem `c_fewer_rights`.
use Prim.Native.Nat.{ℕ, ◌+◌, ◌*◌, ◌≤◌}
use mathlib.Core.Path.{◌≡◌, refl, sym, ap, ap₂, ◌∙◌}
use mathlib.Core.Bool.{Bool, true, false}
use mathlib.Core.Logic.{◌⊎◌, inl, inr, ⊎_elim}
use mathlib.Core.List.{List, [], ◌∷◌, ◌++◌, append_assoc, append-nil}
use native.Mathlib.Omega.{arith}
use lib.ListN.{length, get_or, take, drop, length-append, length-drop}
use lib.Seq.{length-take-le, take-append-add, drop-append-add, get_or-append-add, drop-drop, take_at, drop_at, sets-eq}
use lib.Dec.{leb, eqb}
use borrow.Author.Tests.{le-ltb}
use Rattle.base.specs.Choice.{all_of}
use Rattle.base.specs.Bytes.{put}
use Rattle.base.proofs.Cases.{by_cases}
use Rattle.base.proofs.Runs.{put_accepted}
use Rattle.machine_rights.specs.Chain.{held}
use Rattle.machine_rights.specs.declared.Rights.{Rights}
use Rattle.machine_rights.proofs.Joining.{twenty, certificate_in}
use Rattle.machine_rights.proofs.Laws.{held-length}
use Rattle.machine_session.specs.Session.{session_fits}
use Rattle.machine_session.specs.Verdict.{verdict_number, verdict}
use Rattle.machine_session.specs.declared.Session.{Session}
use Rattle.machine_session_bytes.specs.Layout.{place_bytes, session_bytes, session_in}
use Rattle.machine_chain.specs.Chain.{Chain, NoChain}
use Rattle.machine_chain.specs.Layout.{no_chain_bytes, chain_bytes, is_chain, chain_in}
use Rattle.machine_chain.proofs.Laws.{put-start}
use Rattle.machine_chain.proofs.Joining.{blank-length}
use Rattle.machine_dispatch.specs.Decide.{chain_behind}
use Rattle.machine.specs.Step.{verdict_on, step}
use Rattle.machine.specs.Lent.{chain_into_by}
use Rattle.malquindo.specs.Face.{result_of, chain_part, is_session_c, chain_of_c, session_after, Called, called_as, called_by, malformed, called}
use Rattle.promises.specs.FewerRights.{with_rights, SameReply, Gets6982, called_with, called6982, CFewerRights}
use Rattle.promises.proofs.Fewer.{step-rights, same-verdict, fewer_rights, accepted_6982}
use Rattle.promises.proofs.Linking.{behind_accepted, session-long, session_alike, place_alike, stored_front, chain_left, called-session, called-malformed}
use Rattle.std.specs.Prelude.{Result, Ok}
use Rattle.machine_session.specs.declared.Refusal.{Refusal}

-- ---- 20 bytes of rights in front

-- the rights that they are, and back
held_twenty : (r rest : List ℕ) → length r ≡ 20 → held (r ++ rest) ≡ twenty r
unfolding held
held_twenty r rest h =
    rw (le-ltb (length (r ++ rest)) 20 (omega (arith, length-append r rest)))
    (certificate_in (r ++ rest) r 0 (take_at r rest 20 h))

held_alone : (r : List ℕ) → length r ≡ 20 → held r ≡ twenty r
held_alone r h = ap held (sym (append-nil r)) ∙ held_twenty r [] h

held_front : (r rest : List ℕ) → length r ≡ 20 → held (r ++ rest) ≡ held r
held_front r rest h = held_twenty r rest h ∙ sym (held_alone r h)

back_again : (r : List ℕ) → 3 ≤ length r → (get_or r 0 0 ∷ get_or r 1 0 ∷ get_or r 2 0 ∷ []) ++ drop 3 r ≡ r
back_again (a ∷ b ∷ c ∷ r) h = refl
back_again [] h = absurd (omega arith)
back_again (a ∷ []) h = absurd (omega arith)
back_again (a ∷ b ∷ []) h = absurd (omega arith)

-- a session's bytes are those of its rights and then those of its application and place
rights-first : (s : Session) (r : List ℕ) → length r ≡ 20 → session_bytes (with_rights s (held r)) ≡ r ++ place_bytes s.application s.place
unfolding session_bytes
rights-first s r h =
    let p = place_bytes s.application s.place in
    ap (λ (x : Rights). (x.flags ∷ x.travel ∷ x.visa ∷ []) ++ (x.biometrics ++ p)) (held_alone r h)
    ∙ ap (λ (l : List ℕ). l ++ p) (back_again r (omega arith))

-- ---- what stands behind them does not change

module _ (many few rest : List ℕ) (h : length many ≡ 20) (k : length few ≡ 20) where
  byte-behind : (i : ℕ) → get_or (few ++ rest) (20 + i) 0 ≡ get_or (many ++ rest) (20 + i) 0
  byte-behind i =
      ap (λ (n : ℕ). get_or (few ++ rest) (n + i) 0) (sym k) ∙ get_or-append-add few rest i 0
      ∙ sym (ap (λ (n : ℕ). get_or (many ++ rest) (n + i) 0) (sym h) ∙ get_or-append-add many rest i 0)

  same_length : length (few ++ rest) ≡ length (many ++ rest)
  same_length = omega (arith, length-append few rest, length-append many rest)

  chain-behind : chain_part (few ++ rest) ≡ chain_part (many ++ rest)
  chain-behind =
      ap (λ (n : ℕ). drop (n + 5) (few ++ rest)) (sym k) ∙ drop-append-add few rest 5
      ∙ sym (ap (λ (n : ℕ). drop (n + 5) (many ++ rest)) (sym h) ∙ drop-append-add many rest 5)

  same-long : leb 25 (length (few ++ rest)) ≡ leb 25 (length (many ++ rest))
  same-long = ap (leb 25) same_length

  whole-behind : is_session_c (few ++ rest) ≡ is_session_c (many ++ rest)
  unfolding is_session_c
  whole-behind = ap₂ (λ (a : Bool) (l : List ℕ). all_of (a ∷ is_chain l ∷ [])) (session_alike (many ++ rest) (few ++ rest) same-long (λ i _. byte-behind i)) chain-behind

  session-with : session_in (few ++ rest) ≡ with_rights (session_in (many ++ rest)) (held few)
  unfolding session_in
  session-with i = record { rights = held_front few rest k i; application = byte-behind 0 i; place = place_alike (many ++ rest) (few ++ rest) same-long (λ n _. byte-behind n) i }

-- ---- the buffer of a session after a command

-- the first 25 bytes: rights, and five more
module _ (r rest : List ℕ) (h : length r ≡ 20) where
  front_of : take 25 (r ++ rest) ≡ r ++ take 5 rest
  front_of = ap (λ (n : ℕ). take (n + 5) (r ++ rest)) (sym h) ∙ take-append-add r rest 5

  front_long : 5 ≤ length rest → length (take 25 (r ++ rest)) ≡ 25
  front_long l = length-take-le 25 (r ++ rest) (omega (arith, length-append r rest))

module _ (many few rest : List ℕ) (h : length many ≡ 20) (k : length few ≡ 20) (l : 5 ≤ length rest) (back : List ℕ) where
  after-with : (status : ℕ) (s : Session) → length s.rights.biometrics ≡ 17
      → session_after (take 25 (few ++ rest) ++ back) status (with_rights s (held few)) ≡ few ++ drop 20 (session_after (take 25 (many ++ rest) ++ back) status s)
  unfolding session_after
  after-with status s b =
      by_cases (eqb status 0x9000)
      (λ t.
      let p = place_bytes s.application s.place in
      let m : List ℕ = (s.rights.flags ∷ s.rights.travel ∷ s.rights.visa ∷ []) ++ s.rights.biometrics in
      let e : session_bytes s ≡ m ++ p = unfold session_bytes in sym (append_assoc (s.rights.flags ∷ s.rights.travel ∷ s.rights.visa ∷ []) s.rights.biometrics p) in
      simp t
      (stored_front (take 25 (few ++ rest)) back (with_rights s (held few)) (front_long few rest k l) (held-length few)
      ∙ ap (λ (x : List ℕ). x ++ back) (rights-first s few k)
      ∙ append_assoc few p back
      ∙ ap (λ (x : List ℕ). few ++ x)
      (sym
      (ap (drop 20) (stored_front (take 25 (many ++ rest)) back s (front_long many rest h l) b ∙ ap (λ (x : List ℕ). x ++ back) e ∙ append_assoc m p back)
      ∙ drop_at m (p ++ back) 20 (omega (arith, length-append (s.rights.flags ∷ s.rights.travel ∷ s.rights.visa ∷ []) s.rights.biometrics))))))
      (λ t.
      simp t
      (ap (λ (x : List ℕ). x ++ back) (front_of few rest k)
      ∙ append_assoc few (take 5 rest) back
      ∙ ap (λ (x : List ℕ). few ++ x)
      (sym
      (ap (λ (x : List ℕ). drop 20 (x ++ back)) (front_of many rest h)
      ∙ ap (drop 20) (append_assoc many (take 5 rest) back)
      ∙ drop_at many (take 5 rest ++ back) 20 h))))

-- a chain is dropped: its bytes are zero
dropped_in : (ses : List ℕ) → 1054 ≤ length ses → take 25 ses ++ put (chain_part ses) 0 no_chain_bytes ≡ put ses 25 no_chain_bytes
dropped_in ses h =
    let m = blank-length in
    ap (λ (x : List ℕ). take 25 ses ++ x) (put-start (drop 25 ses) no_chain_bytes (omega (arith, length-drop 25 ses)))
    ∙ ap (λ (x : List ℕ). take 25 ses ++ (no_chain_bytes ++ x)) (drop-drop (length no_chain_bytes) 25 ses)
    ∙ sym (put_accepted ses 25 no_chain_bytes (omega arith) ∙ sets-eq no_chain_bytes ses 25 (omega arith) ∙ append_assoc (take 25 ses) no_chain_bytes (drop (25 + length no_chain_bytes) ses))

-- ---- the theorem

module _ (img many few rest cmd buf : List ℕ) (h : length many ≡ 20) (k : length few ≡ 20)
    (f : session_fits img (session_in (many ++ rest)) ≡ true) (g : session_fits img (session_in (few ++ rest)) ≡ true) where
  abbrev s : Session
  s = session_in (many ++ rest)

  abbrev ch : Chain
  ch = chain_of_c (many ++ rest)

  abbrev back : List ℕ
  back = chain_left img (many ++ rest) cmd (length buf)

  fits-with : session_fits img (with_rights s (held few)) ≡ true
  fits-with = ap (session_fits img) (sym (session-with many few rest h k)) ∙ g

  -- what the second call does, said of the first's bytes
  second-called : is_session_c (many ++ rest) ≡ true → called img (few ++ rest) cmd buf ≡ called_by (take 25 (few ++ rest) ++ back) (step img (with_rights s (held few)) ch cmd buf)
  second-called y =
      called-session img (few ++ rest) cmd buf (whole-behind many few rest h k ∙ y)
      ∙ ap₂ (λ (t : Session) (xs : List ℕ). called_by (take 25 (few ++ rest) ++ chain_into_by (verdict_on img t (chain_in xs) (length buf)) xs cmd) (step img t (chain_in xs) cmd buf))
      (session-with many few rest h k) (chain-behind many few rest h k)
      ∙ ap (λ (v : Result (Unit {0}) Refusal). called_by (take 25 (few ++ rest) ++ chain_into_by v (chain_part (many ++ rest)) cmd) (step img (with_rights s (held few)) ch cmd buf))
      (same-verdict img s (held few) ch (length buf) f fits-with)

  same-called : is_session_c (many ++ rest) ≡ true → SameReply img s (held few) ch cmd buf → called img (few ++ rest) cmd buf ≡ called_with (called img (many ++ rest) cmd buf) few
  same-called y q =
      let o = step img s ch cmd buf in
      let l : 5 ≤ length rest = omega (arith, session-long (many ++ rest) y, length-append many rest) in
      let b : length o.answer.session.rights.biometrics ≡ 17 = ap (λ (r : Rights). length r.biometrics) (step-rights img s buf ch cmd) ∙ unfold session_in in held-length (many ++ rest) in
      second-called y
      ∙ ap (called_by (take 25 (few ++ rest) ++ back)) q.reply
      ∙ ap (λ (x : List ℕ). called_as (result_of o.answer.verdict o.answer.length o.answer.status) o.image x o.buffer) (after-with many few rest h k l back o.answer.status o.answer.session b)
      ∙ ap (λ (c : Called). called_with c few) (sym (called-session img (many ++ rest) cmd buf y))

  only-called : is_session_c (many ++ rest) ≡ true → Gets6982 img s (held few) ch cmd buf → called img (few ++ rest) cmd buf ≡ called6982 img (few ++ rest) buf
  unfolding session_after result_of verdict_number
  only-called y q =
      let t = with_rights s (held few) in
      let v = accepted_6982 img s (held few) ch cmd buf f fits-with q in
      let w : verdict_on img t ch (length buf) ≡ (Ok tt) = same-verdict img s (held few) ch (length buf) f fits-with ∙ v in
      let n : chain_behind ch cmd ≡ NoChain = sym (behind_accepted img t ch cmd (length buf) w) ∙ q.chain in
      let e : back ≡ put (chain_part (few ++ rest)) 0 no_chain_bytes
      = ap (λ (x : Result (Unit {0}) Refusal). chain_into_by x (chain_part (many ++ rest)) cmd) v
      ∙ ap (λ (c : Chain). put (chain_part (many ++ rest)) 0 (chain_bytes c)) n
      ∙ ap (λ (xs : List ℕ). put xs 0 no_chain_bytes) (sym (chain-behind many few rest h k)) in
      second-called y
      ∙ ap (called_by (take 25 (few ++ rest) ++ back)) q.reply
      ∙ ap (λ (x : List ℕ). called_as (2 * 65536 + 0x6982) img x (0x69 ∷ 0x82 ∷ drop 2 buf))
      (ap (λ (x : List ℕ). take 25 (few ++ rest) ++ x) e ∙ dropped_in (few ++ rest) (session-long (few ++ rest) (whole-behind many few rest h k ∙ y)))

  -- bytes that are no session get the same refusal
  malformed-called : is_session_c (many ++ rest) ≡ false → called img (few ++ rest) cmd buf ≡ called_with (called img (many ++ rest) cmd buf) few
  unfolding malformed
  malformed-called n =
      called-malformed img (few ++ rest) cmd buf (whole-behind many few rest h k ∙ n)
      ∙ ap (λ (x : List ℕ). called_as (result_of (verdict img false (length buf)) 0 0) img (few ++ x) buf) (sym (drop_at many rest 20 h))
      ∙ ap (λ (c : Called). called_with c few) (sym (called-malformed img (many ++ rest) cmd buf n))

pub c_fewer_rights : CFewerRights
c_fewer_rights img many few rest cmd buf h k f g u =
    let P : Type 0 = (called img (few ++ rest) cmd buf ≡ called_with (called img (many ++ rest) cmd buf) few) ⊎ (called img (few ++ rest) cmd buf ≡ called6982 img (few ++ rest) buf) in
    by_cases {P = P} (is_session_c (many ++ rest))
    (λ y.
    ⊎_elim {C = P}
    (λ q. inl (same-called img many few rest cmd buf h k f g y q))
    (λ q. inr (only-called img many few rest cmd buf h k f g y q))
    (fewer_rights img (session_in (many ++ rest)) (held few) (chain_of_c (many ++ rest)) cmd buf f (fits-with img many few rest cmd buf h k f g)
    (unfold session_in in rw (held_front many rest h) u)))
    (λ n. inl (malformed-called img many few rest cmd buf h k f g n))
