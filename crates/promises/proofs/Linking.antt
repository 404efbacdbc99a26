-- The functions for C: a session and its chain come back from their bytes, and the result has room for its numbers. Read malquindo's
-- specs/Face.antt before. Exports `behind_accepted`; `session-long`, `session_alike`, `place_alike`, `stored_front`; `called-session`,
-- `called-malformed`, `cut-session`, `cut-malformed`; `Left`, `session-left`, `left-chain`, `ChainLeft`, `back_left`, `back_refused`, `back_none` (the
-- buffer of a session after a command); `session-bytes`, `opening-bytes`, `chain-bytes`, `result-whole`.
use Prim.Native.Nat.{ℕ, ◌+◌, ◌*◌, ◌≤◌, ◌<◌}
use mathlib.Core.Path.{◌≡◌, refl, sym, ap, subst, ◌∙◌}
use mathlib.Core.Bool.{Bool, true, false}
use mathlib.Core.List.{List, [], ◌∷◌, ◌++◌, append_assoc}
use native.Mathlib.Omega.{arith}
use lib.ListN.{length, get_or, take, drop, length-append, length-drop, take-append-drop, get_or-append}
use lib.Seq.{length-take-le, get_or-take, get_or-drop, drop-drop, drop_at}
use lib.Dec.{leb, eqb, ltb}
use borrow.Author.Tests.{eqb-true, eqb-false, leb-true, le-leb, le-ltb}
use Rattle.base.specs.Choice.{all_of}
use Rattle.base.specs.Bytes.{AllBytes, part, put}
use Rattle.base.proofs.Cases.{by_cases, if_else_ind, all_of_facts, all_of_accepted}
use Rattle.base.proofs.Parts.{Agree, part-within}
use Rattle.base.proofs.Runs.{length-put}
use Rattle.store_records.specs.Little.{le16}
use Rattle.store_image.specs.Image.{well_formed}
use Rattle.machine_rights.specs.Chain.{certificate, held}
use Rattle.machine_rights.specs.declared.Rights.{Rights}
use Rattle.machine_rights.proofs.Laws.{effective-length, held-length}
use Rattle.machine_session.specs.Session.{opened, session_fits}
use Rattle.machine_session.specs.Verdict.{verdict_number, verdict}
use Rattle.machine_session.specs.declared.Refusal.{Refusal}
use Rattle.machine_session.specs.declared.Refusal.TheVariants.{ShortBuffer, BadImage, BadSession}
use Rattle.machine_session.specs.declared.Session.{Session}
use Rattle.machine_apdu.specs.Shape.{header_of, shape_of}
use Rattle.machine_apdu.specs.declared.Frame.{Frame}
use Rattle.machine_apdu.proofs.Laws.{shape_facts}
use Rattle.machine_chain.specs.Chain.{Chain, NoChain, is_amid, so_far}
use Rattle.machine_chain.specs.Layout.{no_chain_bytes, chain_bytes, is_chain, chain_in}
use Rattle.machine_chain.proofs.Reading.{so_far_is}
use Rattle.machine_chain.proofs.Laws.{put-start, chain-long, none-blank}
use Rattle.machine_chain.proofs.Joining.{blank-length}
use Rattle.machine_chain.proofs.Storing.{Held, held-size, stored-chain, stored_same}
use Rattle.machine_link.specs.Link.{turn, chain_fits, lent_fits}
use Rattle.machine_link.specs.declared.Course.{Course}
use Rattle.machine_link.specs.declared.Course.TheVariants.{Extends, Goes}
use Rattle.machine_dispatch.specs.Decide.{chain_on, chain_by, chain_behind}
use Rattle.machine_dispatch.proofs.Allowing.{bytes-part}
use Rattle.machine_answer.specs.Outcome.{Outcome}
use Rattle.machine_answer.specs.declared.Answer.{Answer}
use Rattle.machine.specs.Step.{verdict_on, step_by, step, chain_after_by, chain_after, opening}
use Rattle.machine.specs.Lent.{verdict_lent, step_lent, chain_into_by, chain_into}
use Rattle.machine.proofs.Accepting.{Known, verdict_accepted}
use Rattle.machine_cut.specs.Cutting.{cut_by, cut, cut_lent}
use Rattle.machine_session_bytes.specs.Layout.{session_bytes, place_in, unused_zero, is_session, session_in}
use Rattle.machine_session_bytes.proofs.Laws.{Storable, is_session-written, session_in-written, bytes-length, fits_storable, is_session-long}
use Rattle.malquindo.specs.Face.{result_of, whole_bytes, takes_session, opened_in, open_session, chain_part, is_session_c, chain_of_c, session_after, Called, called_by, called_as, malformed, called, cut_result, called_cut_as, called_cut_by, called_cut}
use Rattle.promises.specs.Calls.{Command, after_call}
use Rattle.promises.specs.Promises.{SessionBytes, OpeningBytes, ResultWhole}
use Rattle.promises.proofs.Answering.{status_accepted, accepted_facts}
use Rattle.promises.proofs.Keeping.{put_rest, step_kept}
use Rattle.promises.proofs.Saying.{step_small}
use Rattle.promises.proofs.Growing.{call_grown}
use Rattle.promises.proofs.Fitting.{answer-fits}
use Rattle.promises.proofs.Fewer.{step-rights}
use Rattle.std.specs.Prelude.{Option, Some, None, Result, Ok, Err}

-- ---- the session

-- an accepted command's chain fits, and the chain afterwards is the one behind the command
accepted_chain : (img : List ℕ) (s : Session) (ch : Chain) (n : ℕ) → verdict_on img s ch n ≡ (Ok tt) → chain_fits ch ≡ true
accepted_chain img s ch n e =
    let k = subst (Known img (all_of (session_fits img s ∷ chain_fits ch ∷ [])) n) e (verdict_accepted img (all_of (session_fits img s ∷ chain_fits ch ∷ [])) n) in
    (all_of_facts _ k.2).1.0

pub behind_accepted : (img : List ℕ) (s : Session) (ch : Chain) (cmd : List ℕ) (n : ℕ) → verdict_on img s ch n ≡ (Ok tt) → chain_after img s ch cmd n ≡ chain_behind ch cmd
unfolding chain_after
behind_accepted img s ch cmd n e = ap (λ (v : Result (Unit {0}) Refusal). chain_after_by v ch cmd) e

-- the session that a command answers 9000 in fits 25 bytes
module _ (img ses : List ℕ) (ch : Chain) (cmd buf : List ℕ) (e : (step img (session_in ses) ch cmd buf).answer.status ≡ 0x9000) where
  abbrev now : Outcome
  now = step img (session_in ses) ch cmd buf

  taken : verdict_on img (session_in ses) ch (length buf) ≡ (Ok tt)
  taken = status_accepted img (session_in ses) ch cmd buf e

  well : (well_formed img ≡ true) × (session_fits img (session_in ses) ≡ true)
  well = accepted_facts img (session_in ses) ch (length buf) taken

  storable : Storable now.answer.session
  unfolding step after_call session_in
  storable =
      fits_storable now.image (call_grown img (Command (session_in ses) ch cmd buf) well.0).well now.answer.session
      (answer-fits img (session_in ses) ch cmd buf well.0 well.1 (accepted_chain img (session_in ses) ch (length buf) taken)).0
      (ap (λ (r : Rights). length r.biometrics) (step-rights img (session_in ses) buf ch cmd) ∙ held-length ses)

-- ---- bytes that are a session with its chain, and bytes that are none

and_none : (b : Bool) → all_of (b ∷ false ∷ []) ≡ false
unfolding all_of
and_none true = refl
and_none false = refl

and_one : (b : Bool) → all_of (true ∷ b ∷ []) ≡ b
unfolding all_of
and_one true = refl
and_one false = refl

module _ (ses : List ℕ) where
  both-parts : is_session_c ses ≡ true → (is_session ses ≡ true) × (is_chain (chain_part ses) ≡ true)
  unfolding is_session_c
  both-parts y = let h = all_of_facts _ y in (h.0, h.1.0)

  no-chain : is_session_c ses ≡ false → is_session ses ≡ true → is_chain (chain_part ses) ≡ false
  unfolding is_session_c
  no-chain n y = sym (ap (λ (b : Bool). all_of (b ∷ is_chain (chain_part ses) ∷ [])) y ∙ and_one (is_chain (chain_part ses))) ∙ n

pub session-long : (ses : List ℕ) → is_session_c ses ≡ true → 1054 ≤ length ses
session-long ses y = let h = both-parts ses y in omega (arith, chain-long (chain_part ses) h.1, length-drop 25 ses)

-- a session that does not fit is refused
unfit_refused : (img : List ℕ) (n : ℕ) → (r : Refusal) × (verdict img false n ≡ Err r)
unfolding verdict
unfit_refused img n =
    let P : Result (Unit {0}) Refusal → Type 0 = λ x. (r : Refusal) × (x ≡ Err r) in
    if_else_ind P (ltb n 2050) (λ _. (ShortBuffer, refl)) (λ _. if_else_ind P (well_formed img) (λ _. (BadSession, refl)) (λ _. (BadImage, refl)))

module _ (img : List ℕ) (s : Session) (xs : List ℕ) (n : ℕ) where
  lent-verdict : is_chain xs ≡ true → verdict_lent img s xs n ≡ verdict_on img s (chain_in xs) n
  unfolding lent_fits
  lent-verdict c =
      ap (λ (b : Bool). verdict img (all_of (session_fits img s ∷ b ∷ [])) n)
      (ap (λ (b : Bool). all_of (b ∷ chain_fits (chain_in xs) ∷ [])) c ∙ and_one (chain_fits (chain_in xs)))

  unlent-verdict : is_chain xs ≡ false → verdict_lent img s xs n ≡ verdict img false n
  unfolding lent_fits all_of
  unlent-verdict c = ap (λ (b : Bool). verdict img b n) (ap (λ (b : Bool). all_of (session_fits img s ∷ all_of (b ∷ chain_fits (chain_in xs) ∷ []) ∷ [])) c ∙ and_none (session_fits img s))

-- what `malquindo_command` does where the bytes are a session with its chain, and where they are none
abbrev pub chain_left : List ℕ → List ℕ → List ℕ → ℕ → List ℕ
chain_left img ses cmd n = chain_into_by (verdict_on img (session_in ses) (chain_of_c ses) n) (chain_part ses) cmd

pub called-session : (img ses cmd buf : List ℕ) → is_session_c ses ≡ true
    → called img ses cmd buf ≡ called_by (take 25 ses ++ chain_left img ses cmd (length buf)) (step img (session_in ses) (chain_of_c ses) cmd buf)
unfolding called step_lent step chain_into
called-session img ses cmd buf y =
    let h = both-parts ses y in
    simp h.0
    (ap (λ (v : Result (Unit {0}) Refusal). called_by (take 25 ses ++ chain_into_by v (chain_part ses) cmd) (step_by v img (session_in ses) (chain_of_c ses) cmd buf))
    (lent-verdict img (session_in ses) (chain_part ses) (length buf) h.1))

-- a refusal, as the caller gets it
refused-called : (img ses cmd buf : List ℕ) (s : Session) (ch : Chain) (v : Result (Unit {0}) Refusal) (r : Refusal) → v ≡ Err r
    → called_by (take 25 ses ++ chain_into_by v (chain_part ses) cmd) (step_by v img s ch cmd buf) ≡ called_as (result_of v 0 0) img ses buf
unfolding step_by session_after
refused-called img ses cmd buf s ch v r e = rw e (ap (λ (l : List ℕ). called_as (result_of (Err r) 0 0) img l buf) (take-append-drop 25 ses))

pub called-malformed : (img ses cmd buf : List ℕ) → is_session_c ses ≡ false → called img ses cmd buf ≡ malformed img ses buf
unfolding called malformed step_lent chain_into
called-malformed img ses cmd buf n =
    by_cases (is_session ses)
    (λ y.
    let u = unlent-verdict img (session_in ses) (chain_part ses) (length buf) (no-chain ses n y) in
    let r = unfit_refused img (length buf) in
    simp y
    (refused-called img ses cmd buf (session_in ses) (chain_of_c ses) (verdict_lent img (session_in ses) (chain_part ses) (length buf)) r.0 (u ∙ r.1)
    ∙ ap (λ (v : Result (Unit {0}) Refusal). called_as (result_of v 0 0) img ses buf) u))
    (λ f. simp f)

-- the same of a cut
pub cut-session : (img ses cmd : List ℕ) (n : ℕ) → is_session_c ses ≡ true → called_cut img ses cmd n ≡ called_cut_by (cut img (session_in ses) (chain_of_c ses) cmd n)
unfolding called_cut cut cut_lent
cut-session img ses cmd n y =
    let h = both-parts ses y in
    simp h.0
    (ap (λ (v : Result (Unit {0}) Refusal). called_cut_by (cut_by v img (session_in ses) (chain_of_c ses) cmd n)) (lent-verdict img (session_in ses) (chain_part ses) 2050 h.1))

refused-cut : (img : List ℕ) (s : Session) (ch : Chain) (cmd : List ℕ) (n : ℕ) (v : Result (Unit {0}) Refusal) (r : Refusal) → v ≡ Err r
    → called_cut_by (cut_by v img s ch cmd n) ≡ called_cut_as (cut_result v 0) img
refused-cut img s ch cmd n v r e = rw e refl

pub cut-malformed : (img ses cmd : List ℕ) (n : ℕ) → is_session_c ses ≡ false → called_cut img ses cmd n ≡ called_cut_as (cut_result (verdict img false 2050) 0) img
unfolding called_cut cut_lent
cut-malformed img ses cmd n e =
    by_cases (is_session ses)
    (λ y.
    let u = unlent-verdict img (session_in ses) (chain_part ses) 2050 (no-chain ses e y) in
    let r = unfit_refused img 2050 in
    simp y
    (refused-cut img (session_in ses) (chain_of_c ses) cmd n (verdict_lent img (session_in ses) (chain_part ses) 2050) r.0 (u ∙ r.1)
    ∙ ap (λ (v : Result (Unit {0}) Refusal). called_cut_as (cut_result v 0) img) u))
    (λ f. simp f)

-- ---- a session's bytes with others behind them

-- bytes of a session, and the session that they are
abbrev Holds-session : List ℕ → Session → Type 0
Holds-session xs s = (is_session xs ≡ true) × (session_in xs ≡ s)

written : (s : Session) (rest : List ℕ) → Storable s → Holds-session (session_bytes s ++ rest) s
written s rest h =
    let b = session_bytes s in
    let n : length b ≡ 25 = bytes-length s h.biometrics in
    let l : 25 ≤ length (b ++ rest) = omega (arith, length-append b rest) in
    let e : put (b ++ rest) 0 b ≡ b ++ rest = put-start (b ++ rest) b (omega arith) ∙ ap (λ (x : List ℕ). b ++ x) (drop_at b rest (length b) refl) in
    (ap is_session (sym e) ∙ is_session-written s (b ++ rest) h l, ap session_in (sym e) ∙ session_in-written s (b ++ rest) h l)

-- whether bytes are a session, and its place, is a matter of bytes 20 to 24
module _ (xs ys : List ℕ) (l : leb 25 (length ys) ≡ leb 25 (length xs)) (e : (i : ℕ) → i < 5 → get_or ys (20 + i) 0 ≡ get_or xs (20 + i) 0) where
  pub session_alike : is_session ys ≡ is_session xs
  unfolding is_session unused_zero le16
  session_alike = simp (l, e 0 (omega arith), e 1 (omega arith), e 2 (omega arith), e 3 (omega arith), e 4 (omega arith))

  pub place_alike : place_in ys ≡ place_in xs
  unfolding place_in le16
  place_alike = simp (e 1 (omega arith), e 2 (omega arith), e 3 (omega arith), e 4 (omega arith))

-- the bytes of a session are stored over 25 others
pub stored_front : (front back : List ℕ) (s : Session) → length front ≡ 25 → length s.rights.biometrics ≡ 17 → put (front ++ back) 0 (session_bytes s) ≡ session_bytes s ++ back
stored_front front back s f b =
    let n = bytes-length s b in
    put-start (front ++ back) (session_bytes s) (omega (arith, length-append front back)) ∙ ap (λ (x : List ℕ). session_bytes s ++ x) (drop_at front back (length (session_bytes s)) (f ∙ sym n))

-- the first 25 bytes of a session are the session
module _ (ses back : List ℕ) (y : is_session ses ≡ true) where
  abbrev with_back : List ℕ
  with_back = take 25 ses ++ back

  front-size : length (take 25 ses) ≡ 25
  front-size = length-take-le 25 ses (is_session-long ses y)

  long-back : 25 ≤ length with_back
  long-back = omega (arith, front-size, length-append (take 25 ses) back)

  same_byte : (i : ℕ) → i < 25 → get_or with_back i 0 ≡ get_or ses i 0
  same_byte i h = get_or-append (take 25 ses) back 0 i (omega (arith, front-size)) ∙ get_or-take 25 ses i 0 h

  same-behind : (i : ℕ) → i < 5 → get_or with_back (20 + i) 0 ≡ get_or ses (20 + i) 0
  same-behind i h = same_byte (20 + i) (omega arith)

  same-long : leb 25 (length with_back) ≡ leb 25 (length ses)
  same-long = le-leb 25 (length with_back) long-back ∙ sym (le-leb 25 (length ses) (is_session-long ses y))

  same-rights : held with_back ≡ held ses
  unfolding held certificate Agree
  same-rights =
      simp (le-ltb (length with_back) 20 (omega (arith, long-back)), le-ltb (length ses) 20 (omega (arith, is_session-long ses y)), same_byte 0 (omega arith), same_byte 1 (omega arith), same_byte 2 (omega arith))
      (ap (λ (l : List ℕ). record { flags = get_or ses 0 0; travel = get_or ses 1 0; visa = get_or ses 2 0; biometrics = l })
      (part-within ses with_back 0 25 3 17 (is_session-long ses y) long-back (λ p _ h. same_byte p h) (omega arith) (omega arith)))

  front_read : Holds-session with_back (session_in ses)
  unfolding session_in
  front_read = (
    session_alike ses with_back same-long same-behind ∙ y,
    λ i. record { rights = same-rights i; application = same_byte 20 (omega arith) i; place = place_alike ses with_back same-long same-behind i },
  )

-- ---- the chain behind a command

-- its INS, P1 and P2 are bytes of the command
module _ (ch : Chain) (cmd : List ℕ) (b : AllBytes cmd) where
  course-held : (f : Frame) → f.header ≡ header_of cmd → (k : Result Course ℕ) (d : List ℕ) → chain_fits (chain_on k ch f d) ≡ true → Held (chain_on k ch f d)
  course-held f e (Err w) d h = tt
  course-held f e (Ok Goes) d h = tt
  course-held f e (Ok Extends) d h =
      let t = all_of_facts _ h in
      let x : (f.header.ins < 256) × (f.header.p1 < 256) × (f.header.p2 < 256) = rw e (unfold AllBytes header_of in (b 1, b 2, b 3)) in
      (x.0, x.1, x.2, leb-true 1 (length (so_far ch ++ d)) t.0, leb-true (length (so_far ch ++ d)) 1024 t.1.0)

  behind-held : chain_fits (chain_behind ch cmd) ≡ true → Held (chain_behind ch cmd)
  unfolding chain_behind
  behind-held = go (shape_of cmd) refl
    where
      go : (a : Option Frame) → shape_of cmd ≡ a → chain_fits (chain_by ch cmd a) ≡ true → Held (chain_by ch cmd a)
      go None e h = tt
      go (Some f) e h = course-held f (shape_facts cmd (shape_of cmd) f refl e).head (turn ch f) (part cmd f.from f.lc) h

-- its bytes were lent: they are that chain, as many as before, and behind 1,029 as before
pub record ChainLeft (xs ys : List ℕ) (ch : Chain) : Type 0 where
  pub still : is_chain ys ≡ true
  pub chain : chain_in ys ≡ ch
  pub size : length ys ≡ length xs
  pub rest : drop 1029 ys ≡ drop 1029 xs

chain-stored : (xs : List ℕ) (ch : Chain) → is_chain xs ≡ true → Held ch → ChainLeft xs (put xs 0 (chain_bytes ch)) ch
chain-stored xs ch c h =
    record {
      still = stored-chain ch xs h (chain-long xs c);
      chain = stored_same ch xs h (chain-long xs c);
      size = length-put xs 0 (chain_bytes ch);
      rest = subst (λ (n : ℕ). drop n (put xs 0 (chain_bytes ch)) ≡ drop n xs) (held-size ch h) (put_rest xs (chain_bytes ch));
    }

module _ (img : List ℕ) (s : Session) (xs cmd buf : List ℕ) (c : is_chain xs ≡ true) (b : AllBytes cmd) where
  abbrev before : Chain
  before = chain_in xs

  chain_left_lem : ChainLeft xs (chain_into_by (verdict_on img s before (length buf)) xs cmd) (chain_after img s before cmd (length buf))
  unfolding chain_after
  chain_left_lem = go (verdict_on img s before (length buf)) refl
    where
      go : (v : Result (Unit {0}) Refusal) → verdict_on img s before (length buf) ≡ v → ChainLeft xs (chain_into_by v xs cmd) (chain_after_by v before cmd)
      go (Err r) e = record { still = c; chain = refl; size = refl; rest = refl }
      go (Ok tt) e =
          let w = accepted_facts img s before (length buf) e in
          let f = (answer-fits img s before cmd buf w.0 w.1 (accepted_chain img s before (length buf) e)).1 in
          chain-stored xs (chain_behind before cmd) c (behind-held before cmd b (ap chain_fits (sym (behind_accepted img s before cmd (length buf) e)) ∙ f))

-- ---- the buffer of a session, after a command in it

-- the first 25 bytes, and then those of the chain
pub record Left (img ses cmd buf new : List ℕ) : Type 0 where
  pub front : List ℕ
  pub whole : new ≡ front ++ chain_left img ses cmd (length buf)
  pub front_long : length front ≡ 25
  pub reads : (is_session new ≡ true) × (session_in new ≡ (step img (session_in ses) (chain_of_c ses) cmd buf).answer.session)
  -- only 9000 writes them
  pub front_kept : ((step img (session_in ses) (chain_of_c ses) cmd buf).answer.status ≡ 0x9000 → ⊥) → front ≡ take 25 ses

module _ (img ses cmd buf : List ℕ) (y : is_session_c ses ≡ true) where
  abbrev s : Session
  s = session_in ses

  abbrev a : Answer
  a = (step img s (chain_of_c ses) cmd buf).answer

  abbrev back : List ℕ
  back = chain_left img ses cmd (length buf)

  mid-long : length (take 25 ses) ≡ 25
  mid-long = front-size ses back (both-parts ses y).0

  left_by : Left img ses cmd buf (session_after (take 25 ses ++ back) a.status a.session)
  unfolding session_after
  left_by =
      by_cases (eqb a.status 0x9000)
      (λ t.
      let d = eqb-true _ _ t in
      let h = storable img ses (chain_of_c ses) cmd buf d in
      let b = session_bytes a.session in
      let n : length b ≡ 25 = bytes-length a.session h.biometrics in
      let e : put (take 25 ses ++ back) 0 b ≡ b ++ back = stored_front (take 25 ses) back a.session mid-long h.biometrics in
      simp t
      (record {
        front = b;
        whole = e;
        front_long = n;
        reads = rw e (written a.session back h);
        front_kept = λ z. absurd (z d);
      }))
      (λ t.
      let d = eqb-false _ _ t in
      let r = front_read ses back (both-parts ses y).0 in
      simp t
      (record {
        front = take 25 ses;
        whole = refl;
        front_long = mid-long;
        reads = (r.0, r.1 ∙ sym ((step_kept img s (chain_of_c ses) cmd buf).session_kept d));
        front_kept = λ _. refl;
      }))

  pub session-left : Left img ses cmd buf (called img ses cmd buf).session
  session-left = subst (λ (c : Called). Left img ses cmd buf c.session) (sym (called-session img ses cmd buf y)) left_by

  -- the chain's bytes stand behind the first 25
  pub left-chain : drop 25 (called img ses cmd buf).session ≡ back
  left-chain = let l = session-left in ap (drop 25) l.whole ∙ drop_at l.front back 25 l.front_long

  pub back_left : AllBytes cmd → ChainLeft (chain_part ses) back (chain_after img s (chain_of_c ses) cmd (length buf))
  back_left b = chain_left_lem img s (chain_part ses) cmd buf (both-parts ses y).1 b

  -- a refusal leaves them, and so does every status but 9000 where there is no chain
  pub back_refused : (r : Refusal) → verdict_on img s (chain_of_c ses) (length buf) ≡ Err r → back ≡ chain_part ses
  back_refused r e = rw e refl

  pub back_none : chain_of_c ses ≡ NoChain → (a.status ≡ 0x9000 → ⊥) → back ≡ chain_part ses
  back_none z d = go (verdict_on img s (chain_of_c ses) (length buf)) refl
    where
      none : chain_after img s (chain_of_c ses) cmd (length buf) ≡ NoChain
      none = (step_kept img s (chain_of_c ses) cmd buf).chain_kept z d

      go : (v : Result (Unit {0}) Refusal) → verdict_on img s (chain_of_c ses) (length buf) ≡ v → chain_into_by v (chain_part ses) cmd ≡ chain_part ses
      go (Err r) e = refl
      go (Ok tt) e =
          let g : chain_behind (chain_of_c ses) cmd ≡ NoChain = sym (behind_accepted img s (chain_of_c ses) cmd (length buf) e) ∙ none in
          ap (λ (c : Chain). put (chain_part ses) 0 (chain_bytes c)) g ∙ sym (none-blank (chain_part ses) (both-parts ses y).1 (ap is_amid z))

pub session-bytes : SessionBytes
unfolding is_session_c
session-bytes img ses cmd buf bs b y =
    let l = session-left img ses cmd buf y in
    let e = left-chain img ses cmd buf y in
    let k = back_left img ses cmd buf y b in
    record {
      still = all_of_accepted _ (l.reads.0, (ap is_chain e ∙ k.still, tt));
      session = l.reads.1;
      chain = ap chain_in e ∙ k.chain;
    }

-- ---- an opening

module _ (s : Session) (ses : List ℕ) (h : Storable s) (l : 1054 ≤ length ses) where
  opened-whole : opened_in ses s ≡ session_bytes s ++ put (drop 25 ses) 0 no_chain_bytes
  unfolding opened_in takes_session whole_bytes
  opened-whole =
      let b = session_bytes s in
      let n : length b ≡ 25 = bytes-length s h.biometrics in
      let m = blank-length in
      let k : length (b ++ no_chain_bytes) ≡ 25 + 1029 = omega (arith, length-append b no_chain_bytes) in
      simp (le-leb 1054 (length ses) l)
      (put-start ses (b ++ no_chain_bytes) (omega arith)
      ∙ append_assoc b no_chain_bytes (drop (length (b ++ no_chain_bytes)) ses)
      ∙ ap (λ (x : List ℕ). b ++ (no_chain_bytes ++ x)) (ap (λ (i : ℕ). drop i ses) k ∙ sym (drop-drop 1029 25 ses) ∙ ap (λ (i : ℕ). drop i (drop 25 ses)) (sym m))
      ∙ ap (λ (x : List ℕ). b ++ x) (sym (put-start (drop 25 ses) no_chain_bytes (omega (arith, length-drop 25 ses)))))

  opened-read : (is_session_c (opened_in ses s) ≡ true) × (session_in (opened_in ses s) ≡ s) × (chain_of_c (opened_in ses s) ≡ NoChain)
  unfolding is_session_c
  opened-read =
      let r = written s (put (drop 25 ses) 0 no_chain_bytes) h in
      let e : drop 25 (opened_in ses s) ≡ put (drop 25 ses) 0 no_chain_bytes = ap (drop 25) opened-whole ∙ drop_at (session_bytes s) (put (drop 25 ses) 0 no_chain_bytes) 25 (bytes-length s h.biometrics) in
      let k : 1029 ≤ length (drop 25 ses) = omega (arith, length-drop 25 ses) in (
        all_of_accepted _ (ap is_session opened-whole ∙ r.0, (ap is_chain e ∙ stored-chain NoChain (drop 25 ses) tt k, tt)),
        ap session_in opened-whole ∙ r.1,
        ap chain_in e ∙ stored_same NoChain (drop 25 ses) tt k,
      )

pub opening-bytes : OpeningBytes
unfolding open_session opening opened
opening-bytes rights ses l =
    opened-read (opening rights).session ses (record { application = omega arith; biometrics = effective-length rights; place = tt }) l

-- ---- the result

result-sum : (v : Result (Unit {0}) Refusal) (l w : ℕ) → l ≤ 2050 → w ≤ 0x9000 → result_of v l w ≡ verdict_number v * 4294967296 + l * 65536 + w
unfolding result_of
result-sum v l w h k = omega (arith, h, k)

-- the links so far are bytes
pub chain-bytes : (ses : List ℕ) → AllBytes ses → AllBytes (so_far (chain_of_c ses))
chain-bytes ses b = subst AllBytes (sym (so_far_is (chain_part ses))) (bytes-part (chain_part ses) 5 (le16 (chain_part ses) 0) (unfold AllBytes in λ i. rw (get_or-drop 25 ses i 0) (b (25 + i))))

pub result-whole : ResultWhole
result-whole img ses cmd buf bs b y =
    let h = step_small img (session_in ses) (chain_of_c ses) cmd buf (chain-bytes ses bs) b in
    let e = ap (λ (c : Called). c.result) (called-session img ses cmd buf y) in
    record {
      length_small = omega (arith, h.0);
      status_small = omega (arith, h.1);
      sum = e ∙ result-sum _ _ _ h.0 h.1;
    }
