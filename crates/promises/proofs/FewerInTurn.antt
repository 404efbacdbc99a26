-- Commands one after the other, with fewer rights. Read before: ../specs/FewerRights.antt, Fewer.antt. Exports the theorems `learns_no_more` and
-- `fewer_shown`.
use Prim.Native.Nat.{ℕ}
use mathlib.Core.Path.{◌≡◌, refl, sym, ap, ◌∙◌}
use mathlib.Core.Bool.{true}
use mathlib.Core.Logic.{◌⊎◌, inl, inr, ⊎_elim}
use mathlib.Core.List.{List, [], ◌∷◌}
use native.Mathlib.Omega.{arith}
use lib.ListN.{length}
use Rattle.store_image.specs.Image.{well_formed}
use Rattle.machine_rights.specs.Chain.{effective}
use Rattle.machine_rights.specs.Joining.{Subset}
use Rattle.machine_rights.specs.declared.Rights.{Rights}
use Rattle.machine_rights.proofs.Subsets.{fewer_bits}
use Rattle.machine_apdu.specs.Shape.{be16_at, or_most, header_of, framed, first_shape, shapes, shape_of}
use Rattle.machine_session.specs.Session.{opened, session_fits}
use Rattle.machine_session.specs.Verdict.{verdict_number}
use Rattle.machine_session.specs.declared.Session.{Session}
use Rattle.machine_chain.specs.Chain.{Chain, NoChain}
use Rattle.machine_link.specs.Link.{chain_fits}
use Rattle.machine_dispatch.specs.Decide.{decide}
use Rattle.machine_answer.specs.Outcome.{Outcome, says}
use Rattle.machine.specs.Effects.{done}
use Rattle.machine.specs.Step.{verdict_on, step, opening}
use Rattle.promises.specs.Calls.{Command, after_call}
use Rattle.promises.specs.Links.{Between, after_sending}
use Rattle.promises.specs.FewerRights.{with_rights, outcome_with, only6982, SameReply, Gets6982, Sent, outcome_of, after_one, after_sent, emptied, between_with, NoMoreLearnt, LearnsNoMore, FewerShown}
use Rattle.promises.proofs.Answering.{step_accepted, step-verdict}
use Rattle.promises.proofs.Keeping.{step_kept}
use Rattle.promises.proofs.Growing.{call_grown}
use Rattle.promises.proofs.Fitting.{answer-fits, opening-fits}
use Rattle.promises.proofs.Fewer.{step-rights, fewer_rights, accepted_6982}
use Rattle.std.specs.Prelude.{Ok}

-- ---- the empty command

-- it gets 6700, and so drops the chain and changes nothing else
module _ (img : List ℕ) (s : Session) (ch : Chain) (buf : List ℕ) (v : verdict_on img s ch (length buf) ≡ (Ok tt)) where
  blank-status : (step img s ch [] buf).answer.status ≡ 0x6700
  unfolding decide shape_of shapes first_shape framed header_of be16_at or_most done says
  blank-status = ap (λ (o : Outcome). o.answer.status) (step_accepted img s ch [] buf v)

  blank-not : (step img s ch [] buf).answer.status ≡ 0x9000 → ⊥
  blank-not z = let e : ◌≡◌ {A = ℕ} 0x6700 0x9000 = sym blank-status ∙ z in omega arith

  blank-left : after_sending (record { image = img; session = s; chain = ch }) [] buf ≡ record { image = img; session = s; chain = NoChain }
  blank-left =
      let k = step_kept img s ch [] buf in
      let n : verdict_number (step img s ch [] buf).answer.verdict ≡ 0 = ap verdict_number (step-verdict img s buf ch [] ∙ v) ∙ unfold verdict_number in refl in
      λ i. record { image = k.image_kept blank-not i; session = k.session_kept blank-not i; chain = k.chain_dropped n blank-not i }

-- ---- one command after the other

-- c is sent with the rights `few`, and d with more: c itself, or the empty command. Then both go on from states that are alike but for rights
module _ (b : Between) (few : Rights) (c : Sent) (cs : List Sent) where
  go_on : (d : Sent) (next : Between) → after_one b d ≡ next → after_one (between_with b few) c ≡ between_with next few
      → ((d ≡ c) × (outcome_of (between_with b few) c ≡ outcome_with (outcome_of b c) few)) ⊎ ((d ≡ emptied c) × (outcome_of (between_with b few) c ≡ only6982 b.image (with_rights b.session few) c.buffer))
      → NoMoreLearnt few next cs
      → NoMoreLearnt few b (c ∷ cs)
  unfolding after_sent
  go_on d next e f m h =
      record {
        with_more = d ∷ h.with_more;
        replies = (m, rw (e, f) h.replies);
        left = ap (λ (x : Between). after_sent x cs) f ∙ h.left ∙ ap (λ (x : Between). between_with (after_sent x h.with_more) few) (sym e);
      }

-- ---- the theorem

Claim : List Sent → Type 0
Claim cs =
    (b : Between) (few : Rights) → well_formed b.image ≡ true → session_fits b.image b.session ≡ true → session_fits b.image (with_rights b.session few) ≡ true
    → chain_fits b.chain ≡ true → Subset few b.session.rights → NoMoreLearnt few b cs

module _ (c : Sent) (cs : List Sent) (ih : Claim cs) (b : Between) (few : Rights) (w : well_formed b.image ≡ true) (h : session_fits b.image b.session ≡ true)
    (k : session_fits b.image (with_rights b.session few) ≡ true) (f : chain_fits b.chain ≡ true) (u : Subset few b.session.rights) where
  abbrev img : List ℕ
  img = b.image

  abbrev s : Session
  s = b.session

  abbrev ch : Chain
  ch = b.chain

  abbrev o : Outcome
  o = step img s ch c.command c.buffer

  abbrev p : Outcome
  p = step img (with_rights s few) ch c.command c.buffer

  same-reply : SameReply img s few ch c.command c.buffer → NoMoreLearnt few b (c ∷ cs)
  unfolding Claim after_call
  same-reply q =
      let a = answer-fits img s ch c.command c.buffer w h f in
      let d = answer-fits img (with_rights s few) ch c.command c.buffer w k f in
      let e : p.image ≡ o.image = ap (λ (x : Outcome). x.image) q.reply in
      let t : p.answer.session ≡ with_rights o.answer.session few = ap (λ (x : Outcome). x.answer.session) q.reply in
      let next : Between = after_sending b c.command c.buffer in
      go_on b few c cs c next refl (λ i. record { image = e i; session = t i; chain = q.chain i }) (inl (refl, q.reply))
      (ih next few (call_grown img (Command s ch c.command c.buffer) w).well a.0 (rw (e, t) at d.0) a.1
      (rw (step-rights img s c.buffer ch c.command) u))

  gets-6982 : Gets6982 img s few ch c.command c.buffer → NoMoreLearnt few b (c ∷ cs)
  unfolding Claim
  gets-6982 q =
      let v = accepted_6982 img s few ch c.command c.buffer h k q in
      let e : p.image ≡ img = ap (λ (x : Outcome). x.image) q.reply in
      let t : p.answer.session ≡ with_rights s few = ap (λ (x : Outcome). x.answer.session) q.reply in
      go_on b few c cs (emptied c) (record { image = img; session = s; chain = NoChain }) (blank-left img s ch c.buffer v)
      (λ i. record { image = e i; session = t i; chain = q.chain i }) (inr (refl, q.reply))
      (ih (record { image = img; session = s; chain = NoChain }) few w h k refl u)

  one_more : NoMoreLearnt few b (c ∷ cs)
  one_more = ⊎_elim same-reply gets-6982 (fewer_rights img s few ch c.command c.buffer h k u)

all_sent : (cs : List Sent) → Claim cs
unfolding Claim after_sent
all_sent [] b few w h k f u = record { with_more = []; replies = tt; left = refl }
all_sent (c ∷ cs) b few w h k f u = one_more c cs (all_sent cs) b few w h k f u

pub learns_no_more : LearnsNoMore
unfolding Claim
learns_no_more b few cs = all_sent cs b few

-- ---- two openings

pub fewer_shown : FewerShown
unfolding opening opened
fewer_shown img c d cs w e h =
    (refl, learns_no_more (record { image = img; session = opened c; chain = NoChain }) (effective d) cs w (opening-fits img c) (opening-fits img d) refl (fewer_bits c d e h))
