-- The promises for calls from C: each is the promise of the call that the bytes mean. Read before: ../specs/Linked.antt.
use Prim.Native.Nat.{ℕ, ◌*◌, ◌≤◌, ◌<◌}
use mathlib.Core.Path.{◌≡◌, refl, sym, ap, ap₂, subst, ◌∙◌}
use mathlib.Core.Bool.{Bool, true, false}
use mathlib.Core.Logic.{⊎_elim}
use mathlib.Core.List.Memᴰ
use mathlib.Core.List.{List, [], ◌∷◌, ◌++◌, Memᴰ}
use native.Mathlib.Omega.{arith}
use lib.ListN.{length, take, drop, length-append, length-drop, take-append-drop}
use lib.Seq.{drop-drop, take_at}
use lib.Dec.{eqb, ltb}
use borrow.Author.Tests.{eq-eqb, ne_eqb, le-leb, lt-leb}
use Rattle.base.specs.Choice.{if_else, all_of}
use Rattle.base.specs.Bytes.{AllBytes}
use Rattle.base.proofs.Cases.{by_cases, if_else_ind}
use Rattle.store_records.specs.Body.{nth}
use Rattle.store_image.specs.Image.{has, well_formed, records_of}
use Rattle.machine_session.specs.Verdict.{refusal_number, verdict_number, verdict, open_verdict}
use Rattle.machine_session.specs.declared.Refusal.{Refusal}
use Rattle.machine_session.specs.declared.Refusal.TheVariants.{ShortBuffer, BadImage, BadRights, BadSession}
use Rattle.machine_session.specs.declared.Session.{Session}
use Rattle.machine_apdu.specs.Shape.{shape_of}
use Rattle.machine_chain.specs.Chain.{Chain}
use Rattle.machine_answer.specs.Outcome.{Outcome}
use Rattle.machine.specs.Step.{step, opening}
use Rattle.machine_cut.specs.Cutting.{cut}
use Rattle.machine_cut.proofs.Cutting.{cut-stores_small}
use Rattle.machine_session_bytes.specs.Layout.{session_in}
use Rattle.malquindo.specs.Face.{result_of, opening_verdict, takes_session, opened_in, open_result, open_session, chain_part, is_session_c, chain_of_c, Called, malformed, called, cut_result, CalledCut, called_cut, move_result}
use Rattle.store_move.specs.Moving.{move_refusal_number, move_card, move_card_into, Numbered}
use Rattle.store_move.proofs.Moves.{move_refusal_number-listed, move_refusal_number-some, move_card_numbered}
use Rattle.promises.specs.Calls.{Call, Open, Command, Move, Cut, image_after_move, after_call, after, added_by, added_by_cut, added, additions, history}
use Rattle.promises.specs.Promises.{Whole, Kept, Answered, Reads, Names, MovedCard}
use Rattle.promises.specs.Cuts.{CCuts}
use Rattle.promises.specs.Linked.{refusal_in, length_in, status_in, moved_in, verdict_by, seen, CCall, OpenC, CommandC, MoveC, CutC, cut_stores_in, image_after_move_c, after_call_c, after_c, added_c, additions_c, history_c, CSees, MalformedC, CMalformed, KeptC, CSaysNo, CGetsWord, CHolds, CNumberKept, CReadsHistory, CLeavesNoneOut, COpens, MovedC, CMoves}
use Rattle.promises.proofs.Keeping.{step_kept}
use Rattle.promises.proofs.Saying.{gets_word, step-status}
use Rattle.promises.proofs.Growing.{refused_none, calls_held, number-kept}
use Rattle.promises.proofs.Reading.{reads-history}
use Rattle.promises.proofs.Searching.{leaves-none_out}
use Rattle.promises.proofs.Answering.{step-verdict}
use Rattle.promises.proofs.Linking.{session-long, called-session, called-malformed, cut-session, cut-malformed, chain_left, Left, session-left, left-chain, back_left, back_refused, back_none, session-bytes, opening-bytes, chain-bytes, result-whole}
use Rattle.promises.proofs.Moving.{move_done}
use Rattle.store_move_laws.proofs.Laws.{refused_target}
use Rattle.std.specs.Prelude.{Result, Ok, Err}
use Rattle.store_move.specs.declared.MoveRefusal.{MoveRefusal}

-- ---- the numbers of a result

verdict_back : (x : Result (Unit {0}) Refusal) → verdict_by (verdict_number x) ≡ x
unfolding verdict_by verdict_number refusal_number
verdict_back (Ok tt) = refl
verdict_back (Err ShortBuffer) = refl
verdict_back (Err BadImage) = refl
verdict_back (Err BadRights) = refl
verdict_back (Err BadSession) = refl

-- ---- bytes that are no session

-- a verdict on them is a refusal of a command
number-refused : (img : List ℕ) (n : ℕ) → Memᴰ (verdict_number (verdict img false n)) (1 ∷ 2 ∷ 4 ∷ [])
unfolding verdict verdict_number refusal_number
number-refused img n =
    let P : Result (Unit {0}) Refusal → Type 0 = λ x. Memᴰ (verdict_number x) (1 ∷ 2 ∷ 4 ∷ []) in
    if_else_ind P (ltb n 2050)
    (λ _. Memᴰ.head refl)
    (λ _. if_else_ind P (well_formed img) (λ _. Memᴰ.tail (Memᴰ.tail (Memᴰ.head refl))) (λ _. Memᴰ.tail (Memᴰ.head refl)))

refused-result : (v : Result (Unit {0}) Refusal) → (refusal_in (result_of v 0 0) ≡ verdict_number v) × (length_in (result_of v 0 0) ≡ 0) × (status_in (result_of v 0 0) ≡ 0)
unfolding result_of refusal_in length_in status_in
refused-result v = (omega arith, omega arith, omega arith)

pub c_malformed : CMalformed
c_malformed img ses cmd buf n =
    subst (MalformedC img ses buf) (sym (called-malformed img ses cmd buf n))
    (unfold malformed in
    let v = verdict img false (length buf) in
    let r = refused-result v in
    record {
      number = subst (λ (k : ℕ). Memᴰ k (1 ∷ 2 ∷ 4 ∷ [])) (sym r.0) (number-refused img (length buf));
      nothing = (r.1, r.2);
      kept = (refl, refl, refl);
    })

-- ---- bytes that are a session

module _ (img ses cmd buf : List ℕ) (y : is_session_c ses ≡ true) where
  -- the status needs no bound on the command's bytes
  status-seen : status_in (called img ses cmd buf).result ≡ (step img (session_in ses) (chain_of_c ses) cmd buf).answer.status
  status-seen =
      let e = ap (λ (c : Called). status_in c.result) (called-session img ses cmd buf y) in
      let h = step-status img (session_in ses) (chain_of_c ses) cmd buf in
      e ∙ (unfold result_of status_in in omega (arith, h))

  module _ (bs : AllBytes ses) (b : AllBytes cmd) where
    whole : Whole (called img ses cmd buf).result (step img (session_in ses) (chain_of_c ses) cmd buf).answer
    whole = result-whole img ses cmd buf bs b y

    refusal-seen : refusal_in (called img ses cmd buf).result ≡ verdict_number (step img (session_in ses) (chain_of_c ses) cmd buf).answer.verdict
    unfolding refusal_in
    refusal-seen = omega (arith, whole.sum, whole.length_small, whole.status_small)

    length_seen : length_in (called img ses cmd buf).result ≡ (step img (session_in ses) (chain_of_c ses) cmd buf).answer.length
    unfolding length_in
    length_seen = omega (arith, whole.sum, whole.length_small, whole.status_small)

-- what a caller sees is known by its parts
seen-is : (c : Called) (o : Outcome) → verdict_by (refusal_in c.result) ≡ o.answer.verdict → length_in c.result ≡ o.answer.length → status_in c.result ≡ o.answer.status
    → session_in c.session ≡ o.answer.session → c.image ≡ o.image → c.response ≡ o.buffer → seen c ≡ o
unfolding seen
seen-is c o e l w t i b = λ j. record { answer = record { verdict = e j; length = l j; status = w j; session = t j }; image = i j; buffer = b j }

pub c_sees : CSees
c_sees img ses cmd buf bs b y =
    let o = step img (session_in ses) (chain_of_c ses) cmd buf in
    seen-is (called img ses cmd buf) o
    (ap verdict_by (refusal-seen img ses cmd buf y bs b) ∙ verdict_back o.answer.verdict)
    (length_seen img ses cmd buf y bs b)
    (status-seen img ses cmd buf y)
    (session-bytes img ses cmd buf bs b y).session
    (ap (λ (c : Called). c.image) (called-session img ses cmd buf y))
    (ap (λ (c : Called). c.response) (called-session img ses cmd buf y))

-- ---- 1

-- a number above 0 is that of a refusal
some-refused : (v : Result (Unit {0}) Refusal) → 1 ≤ verdict_number v → (r : Refusal) × (v ≡ Err r)
unfolding verdict_number
some-refused (Ok tt) h = absurd (omega arith)
some-refused (Err r) h = (r, refl)

-- for a session
module _ (img ses cmd buf : List ℕ) (bs : AllBytes ses) (b : AllBytes cmd) (y : is_session_c ses ≡ true) where
  abbrev s : Session
  s = session_in ses

  abbrev ch : Chain
  ch = chain_of_c ses

  abbrev o : Outcome
  o = step img s ch cmd buf

  abbrev new : List ℕ
  new = (called img ses cmd buf).session

  left : Left img ses cmd buf new
  left = session-left img ses cmd buf y

  -- without 9000 the first 25 bytes stay, and all of them where those of the chain do
  front-stays : (status_in (called img ses cmd buf).result ≡ 0x9000 → ⊥) → left.front ≡ take 25 ses
  front-stays n = left.front_kept (λ z. n (status-seen img ses cmd buf y ∙ z))

  all_stay : (status_in (called img ses cmd buf).result ≡ 0x9000 → ⊥) → chain_left img ses cmd (length buf) ≡ chain_part ses → new ≡ ses
  all_stay n e = left.whole ∙ ap₂ (λ (l m : List ℕ). l ++ m) (front-stays n) e ∙ take-append-drop 25 ses

  refused-stay : 1 ≤ refusal_in (called img ses cmd buf).result → new ≡ ses
  refused-stay h =
      let v : 1 ≤ verdict_number o.answer.verdict = subst (λ (k : ℕ). 1 ≤ k) (refusal-seen img ses cmd buf y bs b) h in
      let z = ((step_kept img s ch cmd buf).refused v).1 in
      let r = some-refused o.answer.verdict v in
      all_stay (λ w. absurd (omega (arith, w, status-seen img ses cmd buf y, z)))
      (back_refused img ses cmd buf y r.0 (sym (step-verdict img s buf ch cmd) ∙ r.1))

  rest-stays : drop 1054 new ≡ drop 1054 ses
  rest-stays =
      sym (drop-drop 1029 25 new) ∙ ap (drop 1029) (left-chain img ses cmd buf y) ∙ (back_left img ses cmd buf y b).rest ∙ drop-drop 1029 25 ses

  size-stays : length new ≡ length ses
  size-stays =
      let m = length-append left.front (chain_left img ses cmd (length buf)) in
      let k = (back_left img ses cmd buf y b).size in
      let l = session-long ses y in
      ap length left.whole ∙ omega (arith, m, k, l, left.front_long, length-drop 25 ses)

  session-says-no : KeptC img ses buf (called img ses cmd buf)
  session-says-no =
      record {
        kept = subst (λ (u : Outcome). Kept img s ch buf u (chain_of_c new)) (sym (c_sees img ses cmd buf bs b y))
            (subst (Kept img s ch buf o) (sym (session-bytes img ses cmd buf bs b y).chain) (step_kept img s ch cmd buf));
        session_kept = λ n. ap (take 25) left.whole ∙ take_at left.front (chain_left img ses cmd (length buf)) 25 left.front_long ∙ front-stays n;
        refused_kept = refused-stay;
        no_chain_kept = λ e n. all_stay n (back_none img ses cmd buf y e (λ z. n (status-seen img ses cmd buf y ∙ z)));
        session_rest_kept = rest-stays;
        session_size_kept = size-stays;
      }

-- 1, 2 and 4 are numbers of a command's refusals
among_numbers : (n : ℕ) → Memᴰ n (1 ∷ 2 ∷ 4 ∷ []) → Memᴰ n (0 ∷ 1 ∷ 2 ∷ 4 ∷ [])
among_numbers n m = Memᴰ.tail m

-- and none of them is 0
some_number : (k : ℕ) → Memᴰ k (1 ∷ 2 ∷ 4 ∷ []) → k ≡ 0 → ⊥
some_number k m z =
    ⊎_elim (λ e. omega (arith, e, z)) (λ m.
    ⊎_elim (λ e. omega (arith, e, z)) (λ m.
    ⊎_elim (λ e. omega (arith, e, z)) (λ m. Memᴰ.not-nil m)
    (Memᴰ.cases_cons m)) (Memᴰ.cases_cons m)) (Memᴰ.cases_cons m)

-- what a caller sees of them
malformed-kept : (img ses buf : List ℕ) → Kept img (session_in ses) (chain_of_c ses) buf (seen (malformed img ses buf)) (chain_of_c ses)
unfolding seen malformed
malformed-kept img ses buf =
    let v = verdict img false (length buf) in
    let r = refused-result v in
    let e : verdict_by (refusal_in (result_of v 0 0)) ≡ v = ap verdict_by r.0 ∙ verdict_back v in
    let m = number-refused img (length buf) in
    record {
      image_kept = λ _. refl;
      session_kept = λ _. refl;
      chain_dropped = λ z. absurd (some_number (verdict_number v) m (sym (ap verdict_number e) ∙ z));
      chain_kept = λ z _. z;
      rest_kept = refl;
      size_kept = refl;
      number = subst (λ (x : Result (Unit {0}) Refusal). Memᴰ (verdict_number x) (0 ∷ 1 ∷ 2 ∷ 4 ∷ [])) (sym e) (among_numbers _ m);
      refused = λ _. (r.1, r.2, refl, refl, refl, refl);
    }

-- for bytes that are none
malformed-says_no : (img ses cmd buf : List ℕ) → is_session_c ses ≡ false → KeptC img ses buf (called img ses cmd buf)
malformed-says_no img ses cmd buf n =
    subst (KeptC img ses buf) (sym (called-malformed img ses cmd buf n))
    (unfold malformed in
    record {
      kept = malformed-kept img ses buf;
      session_kept = λ _. refl;
      refused_kept = λ _. refl;
      no_chain_kept = λ _ _. refl;
      session_rest_kept = refl;
      session_size_kept = refl;
    })

pub c_says_no : CSaysNo
c_says_no img ses cmd buf bs b =
    by_cases (is_session_c ses) (λ y. session-says-no img ses cmd buf bs b y) (λ n. malformed-says_no img ses cmd buf n)

-- bytes that are no session are refused
accepted_session : (img ses cmd buf : List ℕ) → refusal_in (called img ses cmd buf).result ≡ 0 → is_session_c ses ≡ true
accepted_session img ses cmd buf e =
    by_cases (is_session_c ses) (λ y. y) (λ n. absurd (some_number _ (c_malformed img ses cmd buf n).number e))

pub c_gets_word : CGetsWord
c_gets_word img ses cmd buf bs b e =
    let y = accepted_session img ses cmd buf e in
    subst Answered (sym (c_sees img ses cmd buf bs b y))
    (gets_word img (session_in ses) (chain_of_c ses) cmd buf (chain-bytes ses bs) b (sym (refusal-seen img ses cmd buf y bs b) ∙ e))

-- and have status 0
done-session : (img ses cmd buf : List ℕ) → status_in (called img ses cmd buf).result ≡ 0x9000 → is_session_c ses ≡ true
done-session img ses cmd buf e =
    by_cases (is_session_c ses)
    (λ y. y)
    (λ n. absurd (omega (arith, (c_malformed img ses cmd buf n).nothing.1, e)))

-- ---- a move

-- the two numbers of a result
image-refusal : (n : ℕ) → n ≤ 262144 → refusal_in n ≡ 0
unfolding refusal_in
image-refusal n h = omega (arith, h)

image-moved : (n : ℕ) → n ≤ 262144 → moved_in n ≡ n
unfolding moved_in
image-moved n h = omega (arith, h)

refused-refusal : (w : ℕ) → refusal_in (w * 4294967296) ≡ w
unfolding refusal_in
refused-refusal w = omega arith

refused-moved : (w : ℕ) → moved_in (w * 4294967296) ≡ 0
unfolding moved_in
refused-moved w = omega arith

pub c_moves : CMoves
c_moves old list t = go (move_card old list (length t)) refl (move_card_numbered old list (length t))
  where
    go : (m : Result ℕ MoveRefusal) → move_card old list (length t) ≡ m → Numbered m → MovedC old list t (move_result m)
    go (Ok n) e h =
        let z = image-refusal n h in
        let l = image-moved n h in
        record {
          number = Memᴰ.head z;
          refused = λ p. absurd (omega (arith, z, p));
          image = λ p. subst (λ (k : ℕ). MovedCard old list t k (take k (move_card_into old list t))) (sym l) (move_done old list t n e);
        }
    go (Err w) e h =
        let z = refused-refusal (move_refusal_number w) in
        record {
          number = subst (λ (k : ℕ). Memᴰ k (0 ∷ 2 ∷ 10 ∷ 11 ∷ 12 ∷ 13 ∷ [])) (sym z) (Memᴰ.tail (move_refusal_number-listed w));
          refused = λ p. (refused-moved (move_refusal_number w), refused_target old list t w e);
          image = λ p. absurd (omega (arith, z, p, move_refusal_number-some w));
        }

-- ---- 2. the calls that the bytes mean

-- a command with bytes that are no session does what an opening does: nothing to the image
meaning : CCall → Call
meaning (OpenC rights ses) = Open rights
meaning (CommandC ses cmd buf) = if_else (is_session_c ses) (Command (session_in ses) (chain_of_c ses) cmd buf) (Open [])
meaning (MoveC list t) = Move list t
meaning (CutC ses cmd n) = if_else (is_session_c ses) (Cut (session_in ses) (chain_of_c ses) cmd n) (Open [])

meanings : List CCall → List Call
meanings [] = []
meanings (c ∷ cs) = meaning c ∷ meanings cs

meanings_append : (cs ds : List CCall) → meanings (cs ++ ds) ≡ meanings cs ++ meanings ds
unfolding meanings
meanings_append [] ds = refl
meanings_append (c ∷ cs) ds = ap (λ (l : List Call). meaning c ∷ l) (meanings_append cs ds)

image_after_move-same : (m : Result ℕ MoveRefusal) (t img : List ℕ) → Numbered m → image_after_move_c (move_result m) t img ≡ image_after_move m t img
unfolding image_after_move_c
image_after_move-same (Ok n) t img h =
    ap₂ (λ (b : Bool) (k : ℕ). if_else b (take k t) img) (eq-eqb (refusal_in n) 0 (image-refusal n h)) (image-moved n h)
image_after_move-same (Err w) t img h =
    ap (λ (b : Bool). if_else b (take (moved_in (move_refusal_number w * 4294967296)) t) img)
    (ne_eqb (refusal_in (move_refusal_number w * 4294967296)) 0 (λ e. omega (arith, e, refused-refusal (move_refusal_number w), move_refusal_number-some w)))

-- a cut in the session that the bytes are, and where they are none
module _ (img ses cmd : List ℕ) (n : ℕ) where
  pub cut-image : is_session_c ses ≡ true → (called_cut img ses cmd n).image ≡ (cut img (session_in ses) (chain_of_c ses) cmd n).image
  cut-image y = ap (λ (c : CalledCut). c.image) (cut-session img ses cmd n y)

  pub cut-image-kept : is_session_c ses ≡ false → (called_cut img ses cmd n).image ≡ img
  cut-image-kept e = ap (λ (c : CalledCut). c.image) (cut-malformed img ses cmd n e)

  -- the result tells how many stores there are
  pub cut-told : is_session_c ses ≡ true → cut_stores_in (called_cut img ses cmd n).result ≡ (cut img (session_in ses) (chain_of_c ses) cmd n).answer.stores
  unfolding cut_stores_in cut_result
  cut-told y =
      let l = cut-stores_small img (session_in ses) (chain_of_c ses) cmd n in
      ap (λ (c : CalledCut). cut_stores_in c.result) (cut-session img ses cmd n y) ∙ omega (arith, l)

  pub cut-told-none : is_session_c ses ≡ false → cut_stores_in (called_cut img ses cmd n).result ≡ 0
  unfolding cut_stores_in cut_result
  cut-told-none e = ap (λ (c : CalledCut). cut_stores_in c.result) (cut-malformed img ses cmd n e) ∙ omega arith

pub c_cuts : CCuts
unfolding cut_result refusal_in verdict verdict_number refusal_number
c_cuts img ses cmd n =
    record {
      refusal = λ y. ap (λ (c : CalledCut). refusal_in c.result) (cut-session img ses cmd n y) ∙ omega arith;
      stores = cut-told img ses cmd n;
      image = cut-image img ses cmd n;
      malformed = λ e. (
        ap (λ (c : CalledCut). c.result) (cut-malformed img ses cmd n e) ∙ by_cases (well_formed img) (λ w. simp w) (λ w. simp w),
        cut-image-kept img ses cmd n e,
      );
    }

after_call_same : (img : List ℕ) (c : CCall) → after_call_c img c ≡ after_call img (meaning c)
unfolding after_call_c after_call meaning
after_call_same img (OpenC rights ses) = refl
after_call_same img (CommandC ses cmd buf) =
    by_cases (is_session_c ses)
    (λ y. simp y (ap (λ (c : Called). c.image) (called-session img ses cmd buf y)))
    (λ n. simp n (c_malformed img ses cmd buf n).kept.0)
after_call_same img (MoveC list t) = image_after_move-same (move_card img list (length t)) (move_card_into img list t) img (move_card_numbered img list (length t))
after_call_same img (CutC ses cmd n) = by_cases (is_session_c ses) (λ y. simp y (cut-image img ses cmd n y)) (λ e. simp e (cut-image-kept img ses cmd n e))

added-same : (k : ℕ) (img : List ℕ) (c : CCall) → added_c k img c ≡ added k img (meaning c)
unfolding added_c added meaning all_of
added-same k img (OpenC rights ses) = refl
added-same k img (CommandC ses cmd buf) =
    by_cases (is_session_c ses)
    (λ y. simp y (ap (λ (w : ℕ). added_by k (session_in ses) (chain_of_c ses) cmd w (shape_of cmd)) (status-seen img ses cmd buf y)))
    (λ n.
    simp n
    (ap (λ (w : ℕ). added_by k (session_in ses) (chain_of_c ses) cmd w (shape_of cmd)) (c_malformed img ses cmd buf n).nothing.1
    ∙ refused_none img (session_in ses) (chain_of_c ses) cmd (shape_of cmd) k))
added-same k img (MoveC list t) = refl
added-same k img (CutC ses cmd n) =
    by_cases (is_session_c ses)
    (λ y. simp y (ap (λ (m : ℕ). added_by_cut k (session_in ses) (chain_of_c ses) cmd m n) (cut-told img ses cmd n y)))
    (λ e. simp e (ap (λ (m : ℕ). added_by_cut k (session_in ses) (chain_of_c ses) cmd m n) (cut-told-none img ses cmd n e)))

after_same : (img : List ℕ) (cs : List CCall) → after_c img cs ≡ after img (meanings cs)
unfolding after_c after meanings
after_same img [] = refl
after_same img (c ∷ cs) = ap (λ (l : List ℕ). after_c l cs) (after_call_same img c) ∙ after_same (after_call img (meaning c)) cs

additions-same : (k : ℕ) (img : List ℕ) (cs : List CCall) → additions_c k img cs ≡ additions k img (meanings cs)
unfolding additions_c additions meanings
additions-same k img [] = refl
additions-same k img (c ∷ cs) =
    ap₂ (λ (a b : List (List ℕ)). a ++ b) (added-same k img c)
    (ap (λ (l : List ℕ). additions_c k l cs) (after_call_same img c) ∙ additions-same k (after_call img (meaning c)) cs)

history-same : (k : ℕ) (img : List ℕ) (cs : List CCall) → history_c k img cs ≡ history k img (meanings cs)
unfolding history_c history
history-same k img cs = ap (λ (l : List (List ℕ)). records_of img k ++ l) (additions-same k img cs)

pub c_holds : CHolds
c_holds img cs o =
    let h = calls_held img (meanings cs) o in
    let e = after_same img cs in
    record {
      well = ap well_formed e ∙ h.well;
      files = λ k y. ap (λ (l : List ℕ). has l k) e ∙ h.files k y;
      records = λ k b. ap (λ (l : List ℕ). records_of l k) e ∙ h.records k b ∙ sym (history-same k img cs);
    }

pub c_number-kept : CNumberKept
c_number-kept img cs ds k n o b h =
    let e = after_same img cs in
    let g : n ≤ length (records_of (after img (meanings cs)) k) = subst (λ (l : List ℕ). n ≤ length (records_of l k)) e h in
    ap (λ (l : List ℕ). nth (records_of l k) n) (after_same img (cs ++ ds) ∙ ap (after img) (meanings_append cs ds))
    ∙ number-kept img (meanings cs) (meanings ds) k n o b g
    ∙ ap (λ (l : List ℕ). nth (records_of l k) n) (sym e)

-- ---- 3. a command after calls, read from what the caller has

module _ (img : List ℕ) (cs : List CCall) (ses cmd buf : List ℕ) (bs : AllBytes ses) (b : AllBytes cmd) (y : is_session_c ses ≡ true) where
  abbrev then_seen : Outcome
  then_seen = seen (called (after_c img cs) ses cmd buf)

  seen_same : step (after img (meanings cs)) (session_in ses) (chain_of_c ses) cmd buf ≡ then_seen
  seen_same = ap (λ (l : List ℕ). step l (session_in ses) (chain_of_c ses) cmd buf) (sym (after_same img cs)) ∙ sym (c_sees (after_c img cs) ses cmd buf bs b y)

pub c_reads-history : CReadsHistory
c_reads-history img cs ses cmd buf f o bs b e p w =
    let s = session_in ses in
    let ch = chain_of_c ses in
    let a = after_same img cs in
    let old = after img (meanings cs) in
    let y = done-session (after_c img cs) ses cmd buf w in
    let t : (step old s ch cmd buf).answer.status ≡ 0x9000 = ap (λ (l : List ℕ). (step l s ch cmd buf).answer.status) (sym a) ∙ sym (status-seen (after_c img cs) ses cmd buf y) ∙ w in
    let h = reads-history img (meanings cs) s ch cmd buf f o e p t in
    subst (Reads s f (λ k. history_c k img cs)) (seen_same img cs ses cmd buf bs b y)
    (subst (λ (rs : ℕ → List (List ℕ)). Reads s f rs (step old s ch cmd buf)) (λ i k. sym (history-same k img cs) i) h)

pub c_leaves-none_out : CLeavesNoneOut
c_leaves-none_out img cs ses cmd buf f x r o bs b t z =
    let s = session_in ses in
    let ch = chain_of_c ses in
    let a = after_same img cs in
    let old = after img (meanings cs) in
    let y = accepted_session (after_c img cs) ses cmd buf t in
    let u : verdict_number (step old s ch cmd buf).answer.verdict ≡ 0 = ap (λ (l : List ℕ). verdict_number (step l s ch cmd buf).answer.verdict) (sym a) ∙ sym (refusal-seen (after_c img cs) ses cmd buf y bs b) ∙ t in
    let h = leaves-none_out img (meanings cs) s ch cmd buf f x r o u z in
    subst (Names (history_c r.kind img cs) x f.ne) (seen_same img cs ses cmd buf bs b y)
    (subst (λ (rs : List (List ℕ)). Names rs x f.ne (step (after img (meanings cs)) s ch cmd buf)) (sym (history-same r.kind img cs)) h)

-- ---- an opening

module _ (rights ses : List ℕ) where
  -- by whether there are 60 bytes of rights, and whether the buffer takes a session
  abbrev opens_by : Bool → Bool → ℕ
  opens_by a b = result_of (opening_verdict (if_else a (Ok tt) (Err BadRights)) b) 0 0

  result_by : open_result rights ses ≡ opens_by (eqb (length rights) 60) (takes_session ses)
  unfolding open_result opening open_verdict
  result_by = refl

  room : 1054 ≤ length ses → takes_session ses ≡ true
  unfolding takes_session
  room h = le-leb 1054 (length ses) h

  no_room : length ses < 1054 → takes_session ses ≡ false
  unfolding takes_session
  no_room h = lt-leb 1054 (length ses) h

  refused-both : (b : Bool) → opens_by false b ≡ 3 * 4294967296
  unfolding result_of verdict_number refusal_number
  refused-both b = refl

pub c_opens : COpens
unfolding result_of verdict_number refusal_number open_session opened_in opening
c_opens rights ses =
    record {
      taken = λ e h. (
        result_by rights ses ∙ ap₂ (opens_by rights ses) (eq-eqb _ _ e) (room rights ses h),
        (opening-bytes rights ses h).0,
        (opening-bytes rights ses h).1,
        (opening-bytes rights ses h).2,
      );
      refused = λ n. result_by rights ses ∙ ap (λ (a : Bool). opens_by rights ses a (takes_session ses)) (ne_eqb (length rights) 60 n) ∙ refused-both rights ses (takes_session ses);
      short = λ e h. result_by rights ses ∙ ap₂ (opens_by rights ses) (eq-eqb _ _ e) (no_room rights ses h);
      unwritten = λ h. rw (no_room rights ses h) refl;
    }
