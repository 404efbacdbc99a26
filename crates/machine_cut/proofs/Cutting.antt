-- From a command to the stores that it has. Read specs/Cutting.antt before. Exports `cut_to`; `cut_denied`, `cut_stopped`, `cut_linked`, `cut-obeyed`
-- (what the code answers is the definition's, case by case); `cut-whole` (the copy that the join stands in);
-- `stored-append`, `stored-activate`, `stored-class`, `stored_other` (which commands store); `cut-stores_small`.
use Prim.Native.Nat.{ℕ, ◌+◌, ◌≤◌, ◌<◌}
use mathlib.Core.Path.{◌≡◌, refl, sym, ap, ap₂, subst, ◌∙◌}
use mathlib.Core.List.{List, ◌++◌}
use native.Mathlib.Omega.{arith}
use lib.ListN.{length, length-append}
use Rattle.base.specs.Choice.{if_else}
use Rattle.base.specs.Bytes.{part, put}
use Rattle.store_cut.specs.declared.Writing.{Writing}
use Rattle.store_image.specs.Image.{stores_in, make_stores_in}
use Rattle.store_image.proofs.Laws.{stores_small}
use Rattle.machine_apdu.specs.Status.{normal}
use Rattle.machine_apdu.specs.declared.Frame.{Frame}
use Rattle.machine_session.specs.declared.Refusal.{Refusal}
use Rattle.machine_session.specs.declared.Session.{Session}
use Rattle.machine_action.specs.declared.Action.{Action}
use Rattle.machine_action.specs.declared.Action.TheVariants.{SelectApplication, SelectFile, ReadBinary, UpdateBinary, Activate, AppendRecord, ReadRecord, SearchRecord, Report, ReadBinaryOdd}
use Rattle.machine_binary.specs.Activate.{activate_file}
use Rattle.machine_record.specs.AppendRecord.{append_record}
use Rattle.machine_dispatch.proofs.Allowing.{Pair, From, class-from}
use borrow.Author.Tests.{eqb-true}
use Rattle.machine_chain.specs.Chain.{Chain, is_amid, so_far}
use Rattle.machine_chain.specs.Layout.{chain_in, join_into}
use Rattle.machine_chain.proofs.Copying.{copy-chain, copy-same}
use Rattle.machine_chain.proofs.Joining.{joined_data}
use Rattle.machine_dispatch.specs.Decide.{by_ins, by_class, whole_frame, data_of, decide}
use Rattle.machine.specs.Step.{verdict_on}
use Rattle.machine.specs.Lent.{verdict_lent, judged}
use Rattle.machine.specs.Loops.{Ready}
use Rattle.machine.specs.declared.Judgement.TheVariants.{Denied, Stopped, Linked, Obeyed}
use Rattle.machine.proofs.Accepting.{judged-told}
use Rattle.machine_cut.specs.Cutting.{storing, cut_stores, cut_outcome, cut_by, cut, cut_lent}
use Rattle.machine_cut.specs.Loops.{Cuts}
use Rattle.std.specs.Prelude.{Option, Some, None, Result, Ok, Err}

module _ (n : ℕ) (img : List ℕ) where
  pub cut_to : (t : Option (ℕ × Writing)) (k : ℕ) (w : Writing) (d : List ℕ) (r : ℕ) (last : List ℕ) → t ≡ Some (k, w)
      → (r ≡ length (stores_in img k w d)) × (last ≡ make_stores_in n img k w d) → Cuts n t img d r last
  cut_to t k w d r last e = subst (λ (u : Option (ℕ × Writing)). Cuts n u img d r last) (sym e)

  module _ (s : Session) (xs cmd : List ℕ) where
    abbrev ch : Chain
    ch = chain_in xs

    pub cut_denied : (w : Refusal) → judged img s xs cmd 2050 ≡ Denied w → cut_outcome (record { verdict = Err w; stores = 0 }) img ≡ cut_lent img s xs cmd n
    unfolding cut_lent
    cut_denied w e = rw (judged-told img s xs cmd 2050 e) refl

    -- a status word alone has no stores
    worded : (w : ℕ) → verdict_lent img s xs 2050 ≡ (Ok tt) → decide img s ch cmd ≡ Err w → cut_outcome (record { verdict = (Ok tt); stores = 0 }) img ≡ cut_lent img s xs cmd n
    unfolding cut_lent
    worded w v e = rw v (rw e refl)

    pub cut_stopped : (w : ℕ) → judged img s xs cmd 2050 ≡ Stopped w → cut_outcome (record { verdict = (Ok tt); stores = 0 }) img ≡ cut_lent img s xs cmd n
    cut_stopped w e = let t = judged-told img s xs cmd 2050 e in worded w t.0.verdict-is t.1.action

    pub cut_linked : (f : Frame) → judged img s xs cmd 2050 ≡ Linked f → cut_outcome (record { verdict = (Ok tt); stores = 0 }) img ≡ cut_lent img s xs cmd n
    cut_linked f e = let t = judged-told img s xs cmd 2050 e in worded normal t.0.verdict-is t.1.action

    pub cut-obeyed : (f : Frame) {own : List ℕ} {r : ℕ} {last : List ℕ} → judged img s xs cmd 2050 ≡ Obeyed f → own ≡ part cmd f.from f.lc
        → Cuts n (storing (by_class img s (whole_frame ch f) (so_far ch ++ own))) img (so_far ch ++ own) r last
        → cut_outcome (record { verdict = (Ok tt); stores = r }) last ≡ cut_lent img s xs cmd n
    unfolding cut_lent
    cut-obeyed f {own} {r} {last} e o h =
        let t = judged-told img s xs cmd 2050 e in
        let z : Cuts n (storing (decide img s ch cmd)) img (data_of ch cmd) r last =
        subst (λ (l : List ℕ). Cuts n (storing (decide img s ch cmd)) img l r last) (sym t.1.data_is)
        (subst (λ (x : Result Action ℕ). Cuts n (storing x) img (so_far ch ++ part cmd f.from f.lc) r last) (sym t.1.action)
        (subst (λ (l : List ℕ). Cuts n (storing (by_class img s (whole_frame ch f) (so_far ch ++ l))) img (so_far ch ++ l) r last) o h)) in
        rw t.0.verdict-is (ap₂ (λ (m : ℕ) (l : List ℕ). cut_outcome (record { verdict = (Ok tt); stores = m }) l) z.0 z.1)

-- the join stands in a copy of the chain
module _ (n : ℕ) (img : List ℕ) (s : Session) (xs : List ℕ) (f : Frame) (own : List ℕ) (r : Ready img xs f own 2050) (zs : List ℕ) {ps cs : List ℕ} (l : length zs ≡ 1029)
    (ep : ps ≡ part xs 0 1029) (ec : cs ≡ put zs 0 ps) {ys d : List ℕ} (ey : ys ≡ if_else (is_amid (chain_in cs)) (join_into cs f.header own) cs)
    (ed : d ≡ if_else (is_amid (chain_in ys)) (so_far (chain_in ys)) own) where
  copied : cs ≡ put zs 0 (part xs 0 1029)
  copied = ec ∙ ap (put zs 0) ep

  same : chain_in cs ≡ chain_in xs
  same = copy-same xs r.chain zs cs l copied

  whole-data : d ≡ so_far (chain_in xs) ++ own
  whole-data =
      ed
      ∙ ap (λ (z : List ℕ). if_else (is_amid (chain_in z)) (so_far (chain_in z)) own) ey
      ∙ joined_data cs (copy-chain xs r.chain zs cs l copied) f.header own (subst (λ (c : Chain). length (so_far c) + length own ≤ 1024) (sym same) r.fits)
      ∙ ap (λ (c : Chain). so_far c ++ own) same

  abbrev frame : Frame
  frame = record { header = f.header; from = f.from; lc = length d; le = f.le; ne = f.ne }

  frame_is : frame ≡ whole_frame (chain_in xs) f
  frame_is =
      let e : length d ≡ length (so_far (chain_in xs)) + f.lc =
      ap length whole-data ∙ length-append (so_far (chain_in xs)) own ∙ ap (λ (k : ℕ). length (so_far (chain_in xs)) + k) r.size in
      λ i. record { header = f.header; from = f.from; lc = e i; le = f.le; ne = f.ne }

  pub cut-whole : {t : Option (ℕ × Writing)} {m : ℕ} {last : List ℕ} → t ≡ storing (by_class img s frame d) → Cuts n t img d m last
      → Cuts n (storing (by_class img s (whole_frame (chain_in xs) f) (so_far (chain_in xs) ++ own))) img (so_far (chain_in xs) ++ own) m last
  cut-whole {t} {m} {last} et h =
      subst (λ (z : List ℕ). Cuts n (storing (by_class img s (whole_frame (chain_in xs) f) z)) img z m last) whole-data
      (subst (λ (g : Frame). Cuts n (storing (by_class img s g d)) img d m last) frame_is
      (subst (λ (u : Option (ℕ × Writing)). Cuts n u img d m last) et h))

-- ---- which commands store

-- an action that comes from another command than CLA 00 with INS E2 or 44 stores nothing
none-stored : (img : List ℕ) (s : Session) (f : Frame) (d : List ℕ) (x : Result Action ℕ) → From img s f d x → (Pair f 0x00 0xE2 → ⊥) → (Pair f 0x00 0x44 → ⊥) → storing x ≡ None
none-stored img s f d (Err w) h a b = refl
none-stored img s f d (Ok (SelectApplication c)) h a b = refl
none-stored img s f d (Ok (SelectFile g)) h a b = refl
none-stored img s f d (Ok (ReadBinary t o n)) h a b = refl
none-stored img s f d (Ok (UpdateBinary n w)) h a b = refl
none-stored img s f d (Ok (Activate n)) h a b = absurd (b h.0)
none-stored img s f d (Ok (AppendRecord r)) h a b = absurd (a h.0)
none-stored img s f d (Ok (ReadRecord r c e)) h a b = refl
none-stored img s f d (Ok (SearchRecord r q ne)) h a b = refl
none-stored img s f d (Ok (Report g p2)) h a b = refl
none-stored img s f d (Ok (ReadBinaryOdd t o n)) h a b = refl

module _ (img : List ℕ) (s : Session) (f : Frame) (d : List ℕ) where
  pub stored-append : {x : Result Action ℕ} {t : Option (ℕ × Writing)} → f.header.cla ≡ 0x00 → f.header.ins ≡ 0xE2 → x ≡ append_record img s f d → t ≡ storing x → t ≡ storing (by_class img s f d)
  unfolding by_class by_ins
  stored-append c i e t = let q : by_class img s f d ≡ append_record img s f d = simp (c, i) in t ∙ ap storing (e ∙ sym q)

  pub stored-activate : {x : Result Action ℕ} {t : Option (ℕ × Writing)} → f.header.cla ≡ 0x00 → f.header.ins ≡ 0x44 → x ≡ activate_file img s f → t ≡ storing x → t ≡ storing (by_class img s f d)
  unfolding by_class by_ins
  stored-activate c i e t = let q : by_class img s f d ≡ activate_file img s f = simp (c, i) in t ∙ ap storing (e ∙ sym q)

  module _ (l : length d ≡ f.lc) where
    pub stored-class : (f.header.cla ≡ 0x00 → ⊥) → None ≡ storing (by_class img s f d)
    stored-class n = sym (none-stored img s f d (by_class img s f d) (class-from img s f d l) (λ p. n (eqb-true _ _ p.0)) (λ p. n (eqb-true _ _ p.0)))

    pub stored_other : (f.header.ins ≡ 0xE2 → ⊥) → (f.header.ins ≡ 0x44 → ⊥) → None ≡ storing (by_class img s f d)
    stored_other a b = sym (none-stored img s f d (by_class img s f d) (class-from img s f d l) (λ p. a (eqb-true _ _ p.1)) (λ p. b (eqb-true _ _ p.1)))

-- a command has fewer than 65,540 stores
pub cut-stores_small : (img : List ℕ) (s : Session) (ch : Chain) (cmd : List ℕ) (n : ℕ) → (cut img s ch cmd n).answer.stores < 65540
unfolding cut
cut-stores_small img s ch cmd n = by-verdict (verdict_on img s ch 2050)
  where
    by-stored : (t : Option (ℕ × Writing)) → cut_stores t img (data_of ch cmd) < 65540
    by-stored (Some (k, w)) = stores_small img k w (data_of ch cmd)
    by-stored None = omega arith

    by-verdict : (v : Result (Unit {0}) Refusal) → (cut_by v img s ch cmd n).answer.stores < 65540
    by-verdict (Ok tt) = by-stored (storing (decide img s ch cmd))
    by-verdict (Err r) = omega arith
