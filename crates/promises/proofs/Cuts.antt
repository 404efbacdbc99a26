-- What a cut leaves. Read ../specs/Cuts.antt before. Exports `cut-stores`, `cut-leaves`; `Cutting` and `cutting` (what a cut is: of an append, of an activation, or of a
-- command without stores), `append_or_activate`, `p2_of`, `long`.
use Prim.Native.Nat.{ℕ, ◌+◌, ◌/◌, ◌≤◌, ◌<◌}
use mathlib.Core.Path.{◌≡◌, refl, sym, ap, subst, ◌∙◌}
use mathlib.Core.Bool.{Bool, true, false}
use mathlib.Core.List.{List, [], ◌∷◌, Memᴰ}
use native.Mathlib.Omega.{arith}
use lib.ListN.{length, replicate, length-replicate}
use lib.Dec.{eqb, leb}
use borrow.Author.Tests.{eqb-true, eqb-false, ltb-true, le-ltb}
use Rattle.machine_link.specs.Link.{chain_fits}
use Rattle.base.specs.Choice.{all_of, if_else}
use Rattle.machine_chain.specs.Chain.{Chain, goes_on, so_far}
use Rattle.base.proofs.Cases.{by_cases, if_else_ind, false-true, all_of_accepted}
use Rattle.store_kinds.specs.Rules.{rule_of, is_biometrics, biometrics_kind}
use Rattle.store_kinds.specs.declared.rules.Key.TheVariants.{Kind}
use Rattle.store_kinds.specs.declared.rules.Rule.{Rule}
use Rattle.store_cut.specs.declared.Writing.TheVariants.{Record, State}
use Rattle.store_image.specs.Image.{find, has, well_formed, body, records_of, activate_in, make_stores_in}
use Rattle.store_image.proofs.Laws.{Accepts, biometrics_unruled, append_all, activate_all, none_made, append-stores, activate-stores, stores-find, cut_changes, cut_list, records-kept}
use Rattle.machine_apdu.specs.Shape.{shape_of}
use Rattle.machine_apdu.specs.declared.Frame.{Frame}
use Rattle.machine_session.specs.Session.{session_fits}
use Rattle.machine_session.specs.Verdict.{verdict, verdict_number, refusal_number}
use Rattle.machine_session.specs.declared.Refusal.{Refusal}
use Rattle.machine_session.specs.declared.Session.{Session}
use Rattle.machine_action.specs.declared.Action.{Action}
use Rattle.machine_action.specs.declared.Action.TheVariants.{SelectApplication, SelectFile, ReadBinary, UpdateBinary, Activate, AppendRecord, ReadRecord, SearchRecord, Report, ReadBinaryOdd}
use Rattle.machine_session.specs.Resolve.{resolve_record}
use Rattle.machine_session.specs.declared.Access.TheVariants.{Append}
use Rattle.machine_action.specs.Tests.{or_current}
use Rattle.machine_dispatch.specs.Decide.{decide, data_of, whole_frame}
use Rattle.machine_dispatch.proofs.Allowing.{Pair, From}
use Rattle.machine_session.proofs.Steps.{BiometricsResolved}
use Rattle.machine_answer.specs.Outcome.{Outcome, says}
use Rattle.machine.specs.Effects.{done}
use Rattle.machine.specs.Step.{verdict_on, step_by, step}
use Rattle.machine_cut.specs.Cutting.{storing, cut_stores, cut_image, CutOutcome, cut_by, cut}
use Rattle.promises.specs.Calls.{Cut, after_call, is_pair, whole_by, whole_of}
use Rattle.promises.specs.Cuts.{StoresThere, CutStores, SameContent, CutLeaves}
use Rattle.promises.proofs.Answering.{accepted_facts}
use Rattle.promises.proofs.Wording.{refusing_not}
use Rattle.promises.proofs.Whole.{pair_facts, not_both, Way, stops, links, whole, way}
use Rattle.promises.proofs.Growing.{accepts, call_grown}
use Rattle.promises.proofs.Fitting.{call_fits}
use Rattle.std.specs.Prelude.{Option, Some, None, Result, Ok, Err}
use Rattle.store_cut.specs.declared.Writing.{Writing}

-- ---- the whole command has the verdict of the cut

module _ (img : List ℕ) (s : Session) (ch : Chain) (cmd buf : List ℕ) (enough : 2050 ≤ length buf) where
  whole_by_lem : step img s ch cmd buf ≡ step_by (verdict_on img s ch 2050) img s ch cmd buf
  unfolding step verdict
  whole_by_lem = simp (le-ltb (length buf) 2050 enough)

  module _ (e : verdict_on img s ch 2050 ≡ (Ok tt)) where
    well : well_formed img ≡ true
    well = (accepted_facts img s ch 2050 e).0

    whole-at : step img s ch cmd buf ≡ done (decide img s ch cmd) img s (data_of ch cmd) buf
    unfolding step_by
    whole-at = whole_by_lem ∙ ap (λ (v : Result (Unit {0}) Refusal). step_by v img s ch cmd buf) e

    cut_at : (n : ℕ) → cut img s ch cmd n ≡ cut_by (Ok tt) img s ch cmd n
    unfolding cut
    cut_at n = ap (λ (v : Result (Unit {0}) Refusal). cut_by v img s ch cmd n) e

-- ---- what an action stores, by the command that it comes from

module _ (img : List ℕ) (s : Session) (f : Frame) (d buf : List ℕ) where
  -- an action answers 9000 to no command with CLA 00 and INS i
  abbrev Not : ℕ → Result Action ℕ → Type 0
  Not i x = is_pair f 0x00 i ≡ true → (done x img s d buf).answer.status ≡ 0x9000 → ⊥

  data StoringWay (x : Result Action ℕ) : Type 0 where
    appends : (r : Rule) → x ≡ Ok (AppendRecord r) → From img s f d (Ok (AppendRecord r)) → StoringWay x
    activates : (b : ℕ) → x ≡ Ok (Activate b) → From img s f d (Ok (Activate b)) → StoringWay x
    neither : storing x ≡ None → Not 0xE2 x → Not 0x44 x → StoringWay x

  other : (c i j : ℕ) (x : Result Action ℕ) → Pair f c i → (c ≡ 0x00 → i ≡ j → ⊥) → Not j x
  other c i j x p ne q z = let h = pair_facts f 0x00 j q in ne (sym (eqb-true f.header.cla c p.0) ∙ h.0) (sym (eqb-true f.header.ins i p.1) ∙ h.1)

  by-pair : (c i : ℕ) (x : Result Action ℕ) → storing x ≡ None → Pair f c i → (c ≡ 0x00 → i ≡ 0xE2 → ⊥) → (c ≡ 0x00 → i ≡ 0x44 → ⊥) → StoringWay x
  by-pair c i x e p m n = neither e (other c i 0xE2 x p m) (other c i 0x44 x p n)

  storing-way : (x : Result Action ℕ) → From img s f d x → StoringWay x
  unfolding done says
  storing-way (Err w) h = neither refl (λ p z. absurd (omega (arith, ltb-true w 0x9000 h, z))) (λ p z. absurd (omega (arith, ltb-true w 0x9000 h, z)))
  storing-way (Ok (SelectApplication a)) h = by-pair 0x00 0xA4 _ refl h.0 (λ c i. omega (arith, i)) (λ c i. omega (arith, i))
  storing-way (Ok (SelectFile g)) h = by-pair 0x00 0xA4 _ refl h.0 (λ c i. omega (arith, i)) (λ c i. omega (arith, i))
  storing-way (Ok (ReadBinary t a n)) h = by-pair 0x00 0xB0 _ refl h.0 (λ c i. omega (arith, i)) (λ c i. omega (arith, i))
  storing-way (Ok (UpdateBinary n w)) h = by-pair 0x00 0xD7 _ refl h.0 (λ c i. omega (arith, i)) (λ c i. omega (arith, i))
  storing-way (Ok (Activate b)) h = activates b refl h
  storing-way (Ok (AppendRecord r)) h = appends r refl h
  storing-way (Ok (ReadRecord r a b)) h = by-pair 0x00 0xB2 _ refl h.pair (λ c i. omega (arith, i)) (λ c i. omega (arith, i))
  storing-way (Ok (SearchRecord r q ne)) h = by-pair 0x00 0xA2 _ refl h.pair (λ c i. omega (arith, i)) (λ c i. omega (arith, i))
  storing-way (Ok (Report g p2)) h = by-pair 0x80 0x5E _ refl h.0 (λ c i. omega (arith, c)) (λ c i. omega (arith, c))
  storing-way (Ok (ReadBinaryOdd t a n)) h = by-pair 0x00 0xB1 _ refl h.0 (λ c i. omega (arith, i)) (λ c i. omega (arith, i))

-- ---- which commands have stores

-- a verdict on a cut: 2 or 4 or none
verdict-listed : (img : List ℕ) (fits : Bool) → Memᴰ (verdict_number (verdict img fits 2050)) (0 ∷ 2 ∷ 4 ∷ [])
unfolding verdict verdict_number refusal_number
verdict-listed img fits =
    let P : Result (Unit {0}) Refusal → Type 0 = λ x. Memᴰ (verdict_number x) (0 ∷ 2 ∷ 4 ∷ []) in
    if_else_ind P (well_formed img)
    (λ _. if_else_ind P fits (λ _. Memᴰ.head refl) (λ _. Memᴰ.tail (Memᴰ.tail (Memᴰ.head refl))))
    (λ _. Memᴰ.tail (Memᴰ.head refl))

-- P2's upper five bits, of a whole command
abbrev pub p2_of : Option Frame → ℕ
p2_of None = 0
p2_of (Some f) = f.header.p2 / 8

module _ (img : List ℕ) (s : Session) (ch : Chain) (cmd : List ℕ) (n : ℕ) (buf : List ℕ) (enough : 2050 ≤ length buf) where
  abbrev pub c : CutOutcome
  c = cut img s ch cmd n

  abbrev pub o : Outcome
  o = step img s ch cmd buf

  refused-or : {P : Type 0} → ((r : Refusal) → verdict_on img s ch 2050 ≡ Err r → P) → (verdict_on img s ch 2050 ≡ (Ok tt) → P) → P
  refused-or {P} f g = go (verdict_on img s ch 2050) refl
    where
      go : (v : Result (Unit {0}) Refusal) → verdict_on img s ch 2050 ≡ v → P
      go (Ok tt) e = g e
      go (Err r) e = f r e

  cut-verdict : c.answer.verdict ≡ verdict_on img s ch 2050
  unfolding cut
  cut-verdict = go (verdict_on img s ch 2050)
    where
      go : (v : Result (Unit {0}) Refusal) → (cut_by v img s ch cmd n).answer.verdict ≡ v
      go (Ok tt) = refl
      go (Err r) = refl

  refused-stores : (r : Refusal) → verdict_on img s ch 2050 ≡ Err r → c.answer.stores ≡ 0
  unfolding cut
  refused-stores r e = ap (λ (v : Result (Unit {0}) Refusal). (cut_by v img s ch cmd n).answer.stores) e

  refused-status : (r : Refusal) → verdict_on img s ch 2050 ≡ Err r → (o.answer.status ≡ 0x9000 → ⊥)
  unfolding step_by
  refused-status r e z = absurd (omega (arith, z, ap (λ (x : Outcome). x.answer.status) (whole_by_lem img s ch cmd buf enough ∙ ap (λ (v : Result (Unit {0}) Refusal). step_by v img s ch cmd buf) e)))

  stores_at : verdict_on img s ch 2050 ≡ (Ok tt) → c.answer.stores ≡ cut_stores (storing (decide img s ch cmd)) img (data_of ch cmd)
  stores_at e = ap (λ (x : CutOutcome). x.answer.stores) (cut_at img s ch cmd buf enough e n)

  image-at : verdict_on img s ch 2050 ≡ (Ok tt) → c.image ≡ cut_image n (storing (decide img s ch cmd)) img (data_of ch cmd)
  image-at e = ap (λ (x : CutOutcome). x.image) (cut_at img s ch cmd buf enough e n)

  status-at : verdict_on img s ch 2050 ≡ (Ok tt) → o.answer.status ≡ (done (decide img s ch cmd) img s (data_of ch cmd) buf).answer.status
  status-at e = ap (λ (x : Outcome). x.answer.status) (whole-at img s ch cmd buf enough e)

  same-frame : (f g : Frame) → whole_of ch cmd ≡ Some f → whole_of ch cmd ≡ Some g → (i : ℕ) → is_pair g 0x00 i ≡ true → is_pair f 0x00 i ≡ true
  same-frame f g y z i = subst (λ (a : Option Frame). pair_of a i ≡ true) (sym z ∙ y)
    where
      pair_of : Option Frame → ℕ → Bool
      pair_of None i = false
      pair_of (Some h) i = is_pair h 0x00 i

  -- CLA 00 and INS i, of a whole command
  abbrev pub PairOf : Option Frame → ℕ → Type 0
  PairOf None i = ⊥
  PairOf (Some f) i = Pair f 0x00 i

  abbrev pub d : List ℕ
  d = data_of ch cmd

  -- what a cut is: of an append, of an activation, or of a command without stores
  pub data Cutting : Type 0 where
    append-cut : well_formed img ≡ true → PairOf (whole_of ch cmd) 0xE2 → (r : Rule) → resolve_record img s Append (or_current (p2_of (whole_of ch cmd))) ≡ Ok r → Accepts img r.kind r (length d)
        → c.answer.stores ≡ length d + 4 → c.image ≡ make_stores_in n img r.kind Record d → o ≡ done (Ok (AppendRecord r)) img s d buf → Cutting
    activate-cut : well_formed img ≡ true → PairOf (whole_of ch cmd) 0x44 → (b : ℕ) → decide img s ch cmd ≡ Ok (Activate b) → BiometricsResolved img s b
        → c.answer.stores ≡ 1 → c.image ≡ make_stores_in n img (biometrics_kind b) State d → o.image ≡ activate_in img (biometrics_kind b)
        → o.answer.status ≡ 0x9000 → Cutting
    no_cut : c.answer.stores ≡ 0 → c.image ≡ img
        → ((f : Frame) → whole_of ch cmd ≡ Some f → is_pair f 0x00 0xE2 ≡ true → o.answer.status ≡ 0x9000 → ⊥)
        → ((f : Frame) → whole_of ch cmd ≡ Some f → is_pair f 0x00 0x44 ≡ true → o.answer.status ≡ 0x9000 → ⊥) → Cutting

  pub cutting : Cutting
  cutting = refused-or (λ r e. no_cut (refused-stores r e) (refused-image r e) (λ f z p w. refused-status r e w) (λ f z p w. refused-status r e w)) (λ e. by-command e (way img s ch cmd))
    where
      refused-image : (r : Refusal) → verdict_on img s ch 2050 ≡ Err r → c.image ≡ img
      refused-image r e = unfold cut in ap (λ (v : Result (Unit {0}) Refusal). (cut_by v img s ch cmd n).image) e

      decided-stores : (e : verdict_on img s ch 2050 ≡ (Ok tt)) (x : Result Action ℕ) → decide img s ch cmd ≡ x → c.answer.stores ≡ cut_stores (storing x) img d
      decided-stores e x q = stores_at e ∙ ap (λ (y : Result Action ℕ). cut_stores (storing y) img d) q

      decided-image : (e : verdict_on img s ch 2050 ≡ (Ok tt)) (x : Result Action ℕ) → decide img s ch cmd ≡ x → c.image ≡ cut_image n (storing x) img d
      decided-image e x q = image-at e ∙ ap (λ (y : Result Action ℕ). cut_image n (storing y) img d) q

      decided-outcome : (e : verdict_on img s ch 2050 ≡ (Ok tt)) (x : Result Action ℕ) → decide img s ch cmd ≡ x → o ≡ done x img s d buf
      decided-outcome e x q = whole-at img s ch cmd buf enough e ∙ ap (λ (y : Result Action ℕ). done y img s d buf) q

      by_way : verdict_on img s ch 2050 ≡ (Ok tt) → (f : Frame) → whole_of ch cmd ≡ Some f → StoringWay img s f d buf (decide img s ch cmd) → Cutting
      by_way e f z (appends r q h) =
          let w = well img s ch cmd buf enough e in
          let a = accepts img s ch cmd [] w d r h.2 in
          append-cut w (subst (λ (x : Option Frame). PairOf x 0xE2) (sym z) h.0) r (subst (λ (x : Option Frame). resolve_record img s Append (or_current (p2_of x)) ≡ Ok r) (sym z) h.1) a
          (decided-stores e (Ok (AppendRecord r)) q ∙ append-stores img r.kind r d w a) (decided-image e (Ok (AppendRecord r)) q) (decided-outcome e (Ok (AppendRecord r)) q)
      by_way e f z (activates b q h) =
          let w = well img s ch cmd buf enough e in
          let i = h.1.file.ok in
          let u = decided-outcome e (Ok (Activate b)) q in
          activate-cut w (subst (λ (x : Option Frame). PairOf x 0x44) (sym z) h.0) b q h.1
          (decided-stores e (Ok (Activate b)) q ∙ activate-stores img (biometrics_kind b) d w i.kind i.stands) (decided-image e (Ok (Activate b)) q)
          (unfold done says in ap (λ (x : Outcome). x.image) u) (unfold done says in ap (λ (x : Outcome). x.answer.status) u)
      by_way e f z (neither t m k) =
          no_cut (stores_at e ∙ ap (λ (y : Option (ℕ × Writing)). cut_stores y img d) t) (image-at e ∙ ap (λ (y : Option (ℕ × Writing)). cut_image n y img d) t)
          (λ g y p w. m (same-frame f g z y 0xE2 p) (sym (status-at e) ∙ w)) (λ g y p w. k (same-frame f g z y 0x44 p) (sym (status-at e) ∙ w))

      -- a status word alone, which is no whole command's 9000
      by_word : (e : verdict_on img s ch 2050 ≡ (Ok tt)) (w : ℕ) → decide img s ch cmd ≡ Err w
          → ((f : Frame) → whole_of ch cmd ≡ Some f → f.header.cla ≡ 0x00 → o.answer.status ≡ 0x9000 → ⊥) → Cutting
      by_word e w q x =
          no_cut (decided-stores e (Err w) q) (decided-image e (Err w) q)
          (λ f z p. x f z (pair_facts f 0x00 0xE2 p).0) (λ f z p. x f z (pair_facts f 0x00 0x44 p).0)

      by-command : verdict_on img s ch 2050 ≡ (Ok tt) → Way img s ch cmd → Cutting
      by-command e (stops w m q) =
          let u : o.answer.status ≡ w = unfold done says in ap (λ (x : Outcome). x.answer.status) (decided-outcome e (Err w) q) in
          by_word e w q (λ f z c y. refusing_not w 0x9000 m refl (sym u ∙ y))
      by-command e (links g y) = by_word e 0x9000 y.action (λ f z c w. not_both ch cmd f g z c y.shape y.turned.link)
      by-command e (whole f y) = by_way e f y.whole (storing-way img s f d buf (decide img s ch cmd) y.from)

  -- INS E2 is not 44
  pub append_or_activate : (f : Frame) (i j : ℕ) → whole_of ch cmd ≡ Some f → PairOf (whole_of ch cmd) i → is_pair f 0x00 j ≡ true → i ≡ j
  append_or_activate f i j z p q =
      let h : Pair f 0x00 i = subst (λ (a : Option Frame). PairOf a i) z p in
      sym (eqb-true f.header.ins i h.1) ∙ (pair_facts f 0x00 j q).1

  -- the last link has the pair of the whole
  pair-of : (f : Frame) (i : ℕ) → shape_of cmd ≡ Some f → PairOf (whole_of ch cmd) i → is_pair f 0x00 i ≡ true
  unfolding is_pair whole_of
  pair-of f i z p =
      by_cases (all_of (goes_on ch f.header ∷ leb (length (so_far ch) + f.lc) 1024 ∷ []))
      (λ t. let h : Pair f 0x00 i = subst (λ (b : Bool). PairOf (if_else b (Some (whole_frame ch f)) None) i) t (subst (λ (a : Option Frame). PairOf (whole_by ch a) i) z p) in all_of_accepted _ (h.0, (h.1, tt)))
      (λ t. absurd (subst (λ (b : Bool). PairOf (if_else b (Some (whole_frame ch f)) None) i) t (subst (λ (a : Option Frame). PairOf (whole_by ch a) i) z p)))

  stores_there : StoresThere img s ch cmd buf c
  stores_there =
      record {
        verdict_same = cut-verdict;
        number = subst (λ (v : Result (Unit {0}) Refusal). Memᴰ (verdict_number v) (0 ∷ 2 ∷ 4 ∷ [])) (sym cut-verdict) (verdict-listed img (all_of (session_fits img s ∷ chain_fits ch ∷ [])));
        none_refused = refused cutting;
        append = appended cutting;
        activate = activated cutting;
        none_other = others cutting;
        image_kept = kept cutting;
      }
    where
      refused : Cutting → (o.answer.status ≡ 0x9000 → ⊥) → c.answer.stores ≡ 0
      refused (append-cut w p r e a m i u) ne = absurd (ne (unfold done says in ap (λ (x : Outcome). x.answer.status) u))
      refused (activate-cut w p b e r m i u z) ne = absurd (ne z)
      refused (no_cut m i x y) ne = m

      appended : Cutting → (f : Frame) → whole_of ch cmd ≡ Some f → is_pair f 0x00 0xE2 ≡ true → o.answer.status ≡ 0x9000 → c.answer.stores ≡ length d + 4
      appended (append-cut w p r e a m i u) f z q t = m
      appended (activate-cut w p b e r m i u t) f z q _ = absurd (omega (arith, append_or_activate f 0x44 0xE2 z p q))
      appended (no_cut m i x y) f z q t = absurd (x f z q t)

      activated : Cutting → (f : Frame) → whole_of ch cmd ≡ Some f → is_pair f 0x00 0x44 ≡ true → o.answer.status ≡ 0x9000 → c.answer.stores ≡ 1
      activated (append-cut w p r e a m i u) f z q t = absurd (omega (arith, append_or_activate f 0xE2 0x44 z p q))
      activated (activate-cut w p b e r m i u t) f z q _ = m
      activated (no_cut m i x y) f z q t = absurd (y f z q t)

      others : Cutting → (f : Frame) → shape_of cmd ≡ Some f → is_pair f 0x00 0xE2 ≡ false → is_pair f 0x00 0x44 ≡ false → c.answer.stores ≡ 0
      others (append-cut w p r e a m i u) f z x y = false-true (sym x ∙ pair-of f 0xE2 z p)
      others (activate-cut w p b e r m i u t) f z x y = false-true (sym y ∙ pair-of f 0x44 z p)
      others (no_cut m i x y) f z _ _ = m

      kept : Cutting → c.answer.stores ≡ 0 → c.image ≡ img
      kept (append-cut w p r e a m i u) z = absurd (omega (arith, m, z))
      kept (activate-cut w p b e r m i u t) z = absurd (omega (arith, m, z))
      kept (no_cut m i x y) z = i

  -- ---- what a cut leaves

  same-content : img ≡ c.image → SameContent img c.image
  same-content e = record { records = λ k b. ap (λ (l : List ℕ). records_of l k) (sym e); biometrics = λ k b. ap (λ (l : List ℕ). body l k) (sym e) }

  left-before : Cutting → n < c.answer.stores → SameContent img c.image
  left-before (append-cut w p r e a m i u) l =
      let less : n < length d + 4 = omega (arith, l, m) in
      let changed = cut_changes img r.kind r d w a n less in
      record {
        records = λ k b. ap (λ (x : List ℕ). records_of x k) i
            ∙ by_cases (eqb k r.kind)
            (λ y. subst (λ (j : ℕ). records_of (make_stores_in n img r.kind Record d) j ≡ records_of img j) (sym (eqb-true k r.kind y)) (cut_list img r.kind r d w a n less))
            (λ y. records-kept img (make_stores_in n img r.kind Record d) r.kind changed k (eqb-false k r.kind y));
        biometrics = λ k b. ap (λ (x : List ℕ). body x k) i
            ∙ changed.others k (λ y. no-rule r.kind r a.ruled (ap is_biometrics (sym y) ∙ b));
      }
    where
      no-rule : (k : ℕ) (q : Rule) → rule_of (Kind k) ≡ Some q → is_biometrics k ≡ true → ⊥
      no-rule k q x b = let z : None ≡ Some q = sym (biometrics_unruled k b) ∙ x in let y : ◌≡◌ {A = ℕ} 0 1 = cc in omega (arith, y)
  left-before (activate-cut w p b e r m i u t) l =
      let z : n ≡ 0 = omega (arith, l, m) in
      same-content (sym (i ∙ ap (λ (j : ℕ). make_stores_in j img (biometrics_kind b) State d) z ∙ none_made img (biometrics_kind b) State d))
  left-before (no_cut m i x y) l = same-content (sym i)

  left_after : Cutting → 1 ≤ c.answer.stores → c.answer.stores ≤ n → c.image ≡ o.image
  left_after (append-cut w p r e a m i u) h l =
      i ∙ append_all img r.kind d n (omega (arith, m, l)) ∙ sym (unfold done says in ap (λ (x : Outcome). x.image) u)
  left_after (activate-cut w p b e r m i u t) h l = i ∙ activate_all img (biometrics_kind b) d n (omega (arith, m, l)) ∙ sym u
  left_after (no_cut m i x y) h l = absurd (omega (arith, h, m))

  left-places : Cutting → (k : ℕ) → find c.image k ≡ find img k
  left-places (append-cut w p r e a m i u) j = ap (λ (x : List ℕ). find x j) i ∙ stores-find img r.kind n Record d j
  left-places (activate-cut w p b e r m i u t) j = ap (λ (x : List ℕ). find x j) i ∙ stores-find img (biometrics_kind b) n State d j
  left-places (no_cut m i x y) j = ap (λ (z : List ℕ). find z j) i

-- a buffer that is long enough
pub long : 2050 ≤ length (replicate {A = ℕ} 2050 0)
long = let l = length-replicate {A = ℕ} 2050 0 in omega (arith, l)

pub cut-stores : CutStores
cut-stores img s ch cmd buf n = stores_there img s ch cmd n buf

pub cut-leaves : CutLeaves
unfolding after_call
cut-leaves img s ch cmd n w =
    let g = cutting img s ch cmd n (replicate 2050 0) long in
    record {
      well = (call_grown img (Cut s ch cmd n) w).well;
      places = left-places img s ch cmd n (replicate 2050 0) long g;
      before = left-before img s ch cmd n (replicate 2050 0) long g;
      after = λ buf h. left_after img s ch cmd n buf h (cutting img s ch cmd n buf h);
      sessions = λ t. call_fits img (Cut s ch cmd n) t w;
    }
