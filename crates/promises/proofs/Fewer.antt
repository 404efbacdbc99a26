-- One command in two sessions that are alike but for their rights. Read before: ../specs/FewerRights.antt, Fewer.antt of machine_dispatch. Exports the
-- theorem `fewer_rights`; `step-rights` (a session keeps its rights), `same-verdict`, and `accepted_6982` (a command that gets 6982 is accepted in both).
use Prim.Native.Nat.{ℕ, ◌≤◌}
use mathlib.Core.Path.{◌≡◌, refl, sym, ap, ◌∙◌}
use mathlib.Core.Bool.{Bool, true, false}
use mathlib.Core.Logic.{◌⊎◌, inl, inr, ⊎_elim}
use mathlib.Core.List.{List, [], ◌∷◌}
use native.Mathlib.Omega.{arith}
use lib.ListN.{length}
use lib.Dec.{eqb}
use Rattle.base.specs.Choice.{if_else, all_of}
use Rattle.base.proofs.Cases.{by_cases}
use Rattle.store_image.specs.Image.{records_of}
use Rattle.store_files.specs.Files.{id_of}
use Rattle.store_files.specs.declared.File.{File}
use Rattle.store_files.specs.declared.File.TheVariants.{RecordFile, TransparentFile}
use Rattle.store_files.specs.declared.Transparent.TheVariants.{Biometrics}
use Rattle.machine_rights.specs.Joining.{Subset}
use Rattle.machine_rights.specs.declared.Rights.{Rights}
use Rattle.machine_rights.proofs.Subsets.{subset_grants}
use Rattle.machine_apdu.specs.Status.{normal, not_permitted}
use Rattle.machine_session.specs.Session.{placed, is_current, set_file, session_fits}
use Rattle.machine_session.specs.Verdict.{verdict_number, verdict}
use Rattle.machine_session.specs.declared.Session.{Session}
use Rattle.machine_session.specs.declared.Place.TheVariants.{OnFile}
use Rattle.machine_session.proofs.Fewer.{SameOrStop, Weaker}
use Rattle.machine_action.specs.declared.Action.{Action}
use Rattle.machine_action.specs.declared.Action.TheVariants.{SelectApplication, SelectFile, ReadBinary, UpdateBinary, Activate, AppendRecord, ReadRecord, SearchRecord, Report, ReadBinaryOdd}
use Rattle.machine_record.specs.SearchRecord.{search_status}
use Rattle.machine_chain.specs.Chain.{Chain}
use Rattle.machine_chain.proofs.Laws.{put-start}
use Rattle.machine_link.specs.Link.{chain_fits}
use Rattle.machine_dispatch.specs.Decide.{data_of, decide}
use Rattle.machine_dispatch.proofs.Fewer.{decide_fewer}
use Rattle.machine_answer.specs.Outcome.{Outcome, outcome, answered, word, says}
use Rattle.machine.specs.Effects.{searched, done}
use Rattle.machine.specs.Step.{verdict_on, step_by, step, chain_after_by, chain_after}
use Rattle.promises.specs.FewerRights.{with_rights, outcome_with, only6982, Gets6982, FewerRights}
use Rattle.promises.proofs.Answering.{accepted_room, step-verdict}
use Rattle.promises.proofs.Keeping.{step_kept}
use Rattle.std.specs.Prelude.{Result, Ok, Err}
use Rattle.machine_session.specs.declared.Refusal.{Refusal}

-- ---- what is done does not ask for rights

module _ (img : List ℕ) (s : Session) (few : Rights) (buf : List ℕ) where
  set-with : (f : File) → set_file (with_rights s few) f ≡ with_rights (set_file s f) few
  unfolding set_file
  set-with f = go (is_current s.place (id_of f))
    where
      go : (t : Bool) → if_else t (with_rights s few) (placed (with_rights s few) (OnFile (id_of f))) ≡ with_rights (if_else t s (placed s (OnFile (id_of f)))) few
      go true = refl
      go false = refl

  done-with : (x : Result Action ℕ) (d : List ℕ) → done x img (with_rights s few) d buf ≡ outcome_with (done x img s d buf) few
  unfolding done searched says
  done-with (Err w) d = refl
  done-with (Ok (SelectApplication a)) d = refl
  done-with (Ok (SelectFile f)) d = refl
  done-with (Ok (ReadBinary t o n)) d = rw (set-with (TransparentFile t)) refl
  done-with (Ok (UpdateBinary n w)) d = rw (set-with (TransparentFile (Biometrics n))) refl
  done-with (Ok (Activate n)) d = refl
  done-with (Ok (AppendRecord r)) d = refl
  done-with (Ok (ReadRecord r a b)) d = rw (set-with (RecordFile r)) refl
  done-with (Ok (SearchRecord r q ne)) d = by_cases (eqb (search_status (records_of img r.kind) d q ne) normal) (λ e. rw e refl) (λ e. rw e refl)
  done-with (Ok (Report f p2)) d = rw (set-with f) refl
  done-with (Ok (ReadBinaryOdd t o n)) d = rw (set-with (TransparentFile t)) refl

-- so a session keeps its rights: with these in their place it is itself
module _ (img : List ℕ) (s : Session) (buf : List ℕ) where
  step_by-rights : (v : Result (Unit {0}) Refusal) (ch : Chain) (cmd : List ℕ) → (step_by v img s ch cmd buf).answer.session.rights ≡ s.rights
  unfolding step_by
  step_by-rights (Ok tt) ch cmd = ap (λ (o : Outcome). o.answer.session.rights) (done-with img s s.rights buf (decide img s ch cmd) (data_of ch cmd))
  step_by-rights (Err r) ch cmd = refl

  pub step-rights : (ch : Chain) (cmd : List ℕ) → (step img s ch cmd buf).answer.session.rights ≡ s.rights
  unfolding step
  step-rights ch cmd = step_by-rights (verdict_on img s ch (length buf)) ch cmd

-- ---- both sessions fit, so the verdict is the same

module _ (img : List ℕ) (s : Session) (few : Rights) (ch : Chain) (n : ℕ) (h : session_fits img s ≡ true) (k : session_fits img (with_rights s few) ≡ true) where
  pub same-verdict : verdict_on img (with_rights s few) ch n ≡ verdict_on img s ch n
  same-verdict = ap (λ (t : Bool). verdict img (all_of (t ∷ chain_fits ch ∷ [])) n) (k ∙ sym h)

  same-chain : (cmd : List ℕ) → chain_after img (with_rights s few) ch cmd n ≡ chain_after img s ch cmd n
  unfolding chain_after
  same-chain cmd = ap (λ (v : Result (Unit {0}) Refusal). chain_after_by v ch cmd) same-verdict

-- ---- the theorem

weaker : (s : Session) (few : Rights) → Subset few s.rights → Weaker s (with_rights s few)
weaker s few u = record { application-same = refl; place_same = refl; grants = subset_grants few s.rights u }

-- the word alone, in a buffer that is long enough
word-told : (img : List ℕ) (s : Session) (buf : List ℕ) → 2050 ≤ length buf → says not_permitted [] s img buf ≡ only6982 img s buf
unfolding says word
word-told img s buf h = ap (outcome (answered 0 0x6982 s) img) (put-start buf (0x69 ∷ 0x82 ∷ []) (omega arith))

module _ (img : List ℕ) (s : Session) (few : Rights) (ch : Chain) (cmd buf : List ℕ) (u : Subset few s.rights) where
  abbrev t : Session
  t = with_rights s few

  -- by the verdict, which is the same
  by-verdict : (v : Result (Unit {0}) Refusal) → (v ≡ (Ok tt) → 2050 ≤ length buf)
      → (step_by v img t ch cmd buf ≡ outcome_with (step_by v img s ch cmd buf) few) ⊎ (step_by v img t ch cmd buf ≡ only6982 img t buf)
  unfolding step_by
  by-verdict (Err r) l = inl refl
  by-verdict (Ok tt) l = go (decide_fewer img s t (weaker s few u) ch cmd)
    where
      go : SameOrStop (Err not_permitted) (decide img s ch cmd) (decide img t ch cmd)
          → (done (decide img t ch cmd) img t (data_of ch cmd) buf ≡ outcome_with (done (decide img s ch cmd) img s (data_of ch cmd) buf) few)
          ⊎ (done (decide img t ch cmd) img t (data_of ch cmd) buf ≡ only6982 img t buf)
      go (inl e) = inl (ap (λ (x : Result Action ℕ). done x img t (data_of ch cmd) buf) e ∙ done-with img s few buf (decide img s ch cmd) (data_of ch cmd))
      go (inr e) = inr (ap (λ (x : Result Action ℕ). done x img t (data_of ch cmd) buf) e ∙ unfold done in word-told img t buf (l refl))

pub fewer_rights : FewerRights
unfolding step
fewer_rights img s few ch cmd buf h k u =
    ⊎_elim
    (λ q. inl (record { reply = same ∙ q; chain = same-chain img s few ch (length buf) h k cmd }))
    (λ q.
    let r : step img (with_rights s few) ch cmd buf ≡ only6982 img (with_rights s few) buf = same ∙ q in
    let d = step_kept img (with_rights s few) ch cmd buf in
    inr (record {
      reply = r;
      chain = d.chain_dropped (ap (λ (o : Outcome). verdict_number o.answer.verdict) r ∙ unfold verdict_number in refl) (λ z. word-apart (sym (ap (λ (o : Outcome). o.answer.status) r) ∙ z));
    }))
    (by-verdict img s few ch cmd buf u (verdict_on img s ch (length buf)) (accepted_room img s ch buf))
  where
    same : step img (with_rights s few) ch cmd buf ≡ step_by (verdict_on img s ch (length buf)) img (with_rights s few) ch cmd buf
    same = unfold step in ap (λ (v : Result (Unit {0}) Refusal). step_by v img (with_rights s few) ch cmd buf) (same-verdict img s few ch (length buf) h k)

    word-apart : ◌≡◌ {A = ℕ} 0x6982 0x9000 → ⊥
    word-apart z = omega (arith, z)

pub accepted_6982 : (img : List ℕ) (s : Session) (few : Rights) (ch : Chain) (cmd buf : List ℕ) → session_fits img s ≡ true → session_fits img (with_rights s few) ≡ true
    → Gets6982 img s few ch cmd buf → verdict_on img s ch (length buf) ≡ (Ok tt)
accepted_6982 img s few ch cmd buf h k q =
    sym (same-verdict img s few ch (length buf) h k) ∙ sym (step-verdict img (with_rights s few) buf ch cmd) ∙ ap (λ (o : Outcome). o.answer.verdict) q.reply
