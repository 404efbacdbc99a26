-- The stores of a file's body as stores of the image: a place in the body is that place behind the body's start. Read ../specs/Cuts.antt before.
-- Exports `append_in_order`, `activate_in_order`.
use Prim.Native.Nat.{ℕ, zero, suc, ◌+◌, ◌/◌, ◌%◌, ◌≤◌, ◌<◌}
use mathlib.Core.Path.{◌≡◌, refl, sym, ap, ap₂, subst, ◌∙◌}
use mathlib.Core.Bool.{true}
use mathlib.Core.List.{List, [], ◌∷◌, ◌++◌}
use native.Mathlib.Omega.{arith}
use native.Mathlib.Nat.{add-zero, add-suc}
use lib.ListN.{length, take, drop, set, length-set}
use lib.Seq.{set-append_left, length-take-le}
use borrow.Author.Tests.{eq-eqb}
use Rattle.machine_chain.specs.Chain.{Chain}
use Rattle.base.specs.Bytes.{splice}
use Rattle.base.proofs.Cases.{false-true}
use Rattle.base.proofs.Parts.{length_part, splice-same}
use Rattle.store_records.specs.Body.{count, place, used, appendable, record_bytes}
use Rattle.store_records.proofs.Bodies.{place-low}
use Rattle.store_records.proofs.Appending.{appendable_facts, length-record_bytes}
use Rattle.store_kinds.specs.Rules.{biometrics_kind}
use Rattle.store_kinds.specs.Biometrics.{bio_ok}
use Rattle.store_cut.specs.Stores.{Store, at, run, record_stores, stores, made, make_stores}
use Rattle.store_cut.specs.declared.Writing.{Writing}
use Rattle.store_cut.specs.declared.Writing.TheVariants.{Record, State}
use Rattle.store_image.specs.Image.{find, is_at, has, body, with_body_by, with_body, make_stores_in}
use Rattle.store_image.proofs.Laws.{append_accepted, found_inside, found-body, biometrics-file, biometrics_facts}
use Rattle.store_files.specs.declared.File.TheVariants.{RecordFile}
use Rattle.machine_apdu.specs.Shape.{shape_of}
use Rattle.machine_apdu.specs.declared.Frame.{Frame}
use Rattle.machine_session.specs.Session.{session_fits}
use Rattle.machine_session.specs.declared.Session.{Session}
use Rattle.machine_session.specs.declared.Named.TheVariants.{Current}
use Rattle.machine_session.proofs.Steps.{in_order-each}
use Rattle.machine_session.specs.Resolve.{resolve_record, resolve_biometrics}
use Rattle.machine_session.specs.declared.Access.TheVariants.{Append}
use Rattle.machine_action.specs.Tests.{or_current, on_biometrics}
use Rattle.machine_action.specs.declared.Action.{Action}
use Rattle.machine_action.specs.declared.Action.TheVariants.{Activate}
use Rattle.machine_binary.specs.Activate.{activate_file}
use Rattle.machine_dispatch.specs.Decide.{by_ins, by_class, decide, data_of}
use Rattle.machine.specs.Step.{step}
use Rattle.machine_cut.specs.Cutting.{storing}
use Rattle.machine_link.specs.Link.{is_command}
use Rattle.promises.specs.Calls.{is_pair, whole_of}
use Rattle.promises.specs.Cuts.{append_list, AppendCut, AppendInOrder, ActivateCut, ActivateInOrder}
use Rattle.promises.proofs.Naming.{record_meant, record_listed, p2-meant, kind-meant, biometrics-writes}
use Rattle.promises.proofs.Answering.{status_accepted, accepted_room}
use Rattle.promises.proofs.Whole.{pair_facts, class_decided}
use Rattle.promises.proofs.Cuts.{p2_of, Cutting, append-cut, activate-cut, no_cut, cutting, append_or_activate}
use Rattle.std.specs.Prelude.{Option, Some, None, Result, Ok, Err}
use Rattle.store_files.specs.declared.File.{File}

-- ---- a store in the middle of a list

set-behind : (xs ys : List ℕ) (i a : ℕ) → set (xs ++ ys) (length xs + i) a ≡ xs ++ set ys i a
set-behind [] ys i a = ap (λ (j : ℕ). set ys j a) (omega arith)
set-behind (x ∷ xs) ys i a =
    let e : length (x ∷ xs) + i ≡ suc (length xs + i) = omega arith in
    ap (λ (j : ℕ). set (x ∷ (xs ++ ys)) j a) e ∙ ap (λ (l : List ℕ). x ∷ l) (set-behind xs ys i a)

set-splice : (xs : List ℕ) (s : ℕ) (b : List ℕ) (p a : ℕ) → s ≤ length xs → p < length b → set (splice xs s b) (s + p) a ≡ splice xs s (set b p a)
unfolding splice
set-splice xs s b p a h l =
    let t : length (take s xs) ≡ s = length-take-le s xs h in
    ap (λ (j : ℕ). set (take s xs ++ (b ++ drop (s + length b) xs)) (j + p) a) (sym t)
    ∙ set-behind (take s xs) (b ++ drop (s + length b) xs) p a
    ∙ ap (λ (y : List ℕ). take s xs ++ y) (set-append_left b (drop (s + length b) xs) p a l)
    ∙ ap (λ (m : ℕ). take s xs ++ (set b p a ++ drop (s + m) xs)) (sym (length-set b p a))

-- ---- stores behind a start

shifted : ℕ → List Store → List Store
shifted s [] = []
shifted s (x ∷ xs) = at (s + x.place) x.byte ∷ shifted s xs

-- every place is below n
data Within (n : ℕ) : List Store → Type 0 where
  none : Within n []
  more : {x : Store} {xs : List Store} → x.place < n → Within n xs → Within n (x ∷ xs)

made_shifted : (img : List ℕ) (s : ℕ) → s ≤ length img → (ss : List Store) (b : List ℕ) → Within (length b) ss → splice img s (made ss b) ≡ made (shifted s ss) (splice img s b)
unfolding made shifted
made_shifted img s h [] b none = refl
made_shifted img s h (x ∷ ss) b (more l w) =
    made_shifted img s h ss (set b x.place x.byte) (subst (λ (n : ℕ). Within n ss) (sym (length-set b x.place x.byte)) w)
    ∙ ap (made (shifted s ss)) (sym (set-splice img s b x.place x.byte h l))

take_shifted : (n s : ℕ) (ss : List Store) → shifted s (take n ss) ≡ take n (shifted s ss)
unfolding shifted
take_shifted zero s ss = refl
take_shifted (suc n) s [] = refl
take_shifted (suc n) s (x ∷ ss) = ap (λ (l : List Store). at (s + x.place) x.byte ∷ l) (take_shifted n s ss)

within-take : (m n : ℕ) (ss : List Store) → Within m ss → Within m (take n ss)
within-take m zero ss w = none
within-take m (suc n) [] w = none
within-take m (suc n) (x ∷ ss) (more l w) = more l (within-take m n ss w)

-- a list behind a run
shifted_run : (s p : ℕ) (bs : List ℕ) (ts : List Store) → shifted s (run p bs ++ ts) ≡ run (s + p) bs ++ shifted s ts
unfolding shifted run
shifted_run s p [] ts = refl
shifted_run s p (b ∷ bs) ts =
    ap (λ (l : List Store). at (s + p) b ∷ l) (shifted_run s (suc p) bs ts ∙ ap (λ (q : ℕ). run q bs ++ shifted s ts) (add-suc s p))

within-run : (m p : ℕ) (bs : List ℕ) (ts : List Store) → p + length bs ≤ m → Within m ts → Within m (run p bs ++ ts)
unfolding run
within-run m p [] ts h w = w
within-run m p (b ∷ bs) ts h w = let l : p < m = omega arith in more l (within-run m (suc p) bs ts (omega arith) w)

-- ---- the stores of a file's body, in the image

module _ (img : List ℕ) (k s m : ℕ) (e : find img k ≡ Some (s, m)) where
  body-size : length (body img k) ≡ m
  body-size = ap length (found-body img k s m e) ∙ length_part img s m (found_inside img k s m e)

  in_image : (n : ℕ) (w : Writing) (d : List ℕ) → Within m (stores w (body img k) d) → make_stores_in n img k w d ≡ made (take n (shifted s (stores w (body img k) d))) img
  unfolding make_stores_in make_stores with_body
  in_image n w d h =
      let b = body img k in
      let i = found_inside img k s m e in
      let ss = take n (stores w b d) in
      ap (λ (f : Option (ℕ × ℕ)). with_body_by f img (made ss b)) e
      ∙ made_shifted img s (omega (arith, i)) ss b (subst (λ (j : ℕ). Within j ss) (sym body-size) (within-take m n (stores w b d) h))
      ∙ ap₂ made (take_shifted n s (stores w b d)) (ap (splice img s) (found-body img k s m e) ∙ splice-same img s m i)

-- a file that is there stands somewhere
data Stands (img : List ℕ) (k : ℕ) : Type 0 where
  stands : (s m : ℕ) → find img k ≡ Some (s, m) → Stands img k

stands_at : (img : List ℕ) (k : ℕ) → has img k ≡ true → Stands img k
unfolding has
stands_at img k = go (find img k) refl
  where
    go : (f : Option (ℕ × ℕ)) → find img k ≡ f → is_at f ≡ true → Stands img k
    go (Some (s, m)) e h = stands s m e
    go None e h = false-true h

-- ---- an append

module _ (img : List ℕ) (k s m : ℕ) (e : find img k ≡ Some (s, m)) (d : List ℕ) (t : appendable (body img k) (length d) ≡ true) where
  abbrev b : List ℕ
  b = body img k

  record-list : shifted s (stores Record b d) ≡ append_list s b d
  unfolding stores record_stores shifted
  record-list =
      simp t (shifted_run s (used b) (record_bytes d) (at 1 ((count b + 1) / 256 % 256) ∷ at 0 ((count b + 1) % 256) ∷ [])
      ∙ ap (λ (p : ℕ). run (s + used b) (record_bytes d) ++ (at (s + 1) ((count b + 1) / 256 % 256) ∷ at p ((count b + 1) % 256) ∷ [])) (add-zero s))

  record_within : Within m (stores Record b d)
  unfolding stores record_stores
  record_within =
      let r = (appendable_facts b (length d) t).room in
      let z = body-size img k s m e in
      let u = low in
      let one : 1 < m = omega (arith, r, z, u) in
      let nought : 0 < m = omega (arith, one) in
      simp t (within-run m (used b) (record_bytes d) _ (omega (arith, r, z, length-record_bytes d)) (more one (more nought none)))
    where
      low : 2 ≤ used b
      low = unfold used in place-low b (count b)

-- 9000 needs a buffer that is long enough
enough : (img : List ℕ) (s : Session) (ch : Chain) (cmd buf : List ℕ) → (step img s ch cmd buf).answer.status ≡ 0x9000 → 2050 ≤ length buf
enough img s ch cmd buf w = accepted_room img s ch buf (status_accepted img s ch cmd buf w)

pub append_in_order : AppendInOrder
append_in_order img s ch cmd buf f n z p w = go (cutting img s ch cmd n buf long)
  where
    long : 2050 ≤ length buf
    long = enough img s ch cmd buf w

    go : Cutting img s ch cmd n buf long → AppendCut img s ch cmd f n
    go (append-cut o q r e a c i u) = by (stands_at img r.kind a.stands)
      where
        e' : resolve_record img s Append (or_current (f.header.p2 / 8)) ≡ Ok r
        e' = subst (λ (x : Option Frame). resolve_record img s Append (or_current (p2_of x)) ≡ Ok r) z e

        by : Stands img r.kind → AppendCut img s ch cmd f n
        by (stands at-s m h) =
            let t = append_accepted img r.kind r (data_of ch cmd) o a in
            record {
              kind = r.kind;
              start = at-s;
              room = m;
              meant = kind-meant s (f.header.p2 / 8) r (record_listed img s Append (or_current (f.header.p2 / 8)) r e')
                  (p2-meant s (f.header.p2 / 8) (RecordFile r) ∙ record_meant img s Append (or_current (f.header.p2 / 8)) r e') r.kind
                  ∙ eq-eqb r.kind r.kind refl;
              stands = h;
              stored = i ∙ in_image img r.kind at-s m h n Record (data_of ch cmd) (record_within img r.kind at-s m h (data_of ch cmd) t)
                  ∙ ap (λ (ss : List Store). made (take n ss) img) (record-list img r.kind at-s m h (data_of ch cmd) t);
            }
    go (activate-cut o q b e r c i u t) = absurd (omega (arith, append_or_activate img s ch cmd n buf long f 0x44 0xE2 z q p))
    go (no_cut m i x y) = absurd (x f z p w)

-- ---- an activation

-- an ACTIVATE that is decided is of the current file
activate-current : (img : List ℕ) (s : Session) (ch : Chain) (cmd : List ℕ) (f : Frame) (j : ℕ) → whole_of ch cmd ≡ Some f → is_pair f 0x00 0x44 ≡ true → decide img s ch cmd ≡ Ok (Activate j)
    → resolve_biometrics img s Current ≡ Ok j
activate-current img s ch cmd f j z p e = tests (sym led ∙ e)
  where
    led : decide img s ch cmd ≡ activate_file img s f
    led = let h = pair_facts f 0x00 0x44 p in class_decided ch cmd f z 0x00 0x44 p refl refl (unfold is_command in refl) img s ∙ (unfold by_class by_ins in simp (h.0, h.1))

    -- whatever is decided, an activation of j is that of the file resolved
    P : Result Action ℕ → Type 0
    P x = x ≡ Ok (Activate j) → resolve_biometrics img s Current ≡ Ok j

    kind_of : Option (ℕ × Writing) → ℕ
    kind_of (Some (k, w)) = k
    kind_of None = 0

    word : (w : ℕ) → P (Err w)
    word w y = absurd (let v : 0 ≡ biometrics_kind j = ap (λ (x : Result Action ℕ). kind_of (storing x)) y in omega (arith, v))

    on : (x : Result ℕ ℕ) → resolve_biometrics img s Current ≡ x → P (on_biometrics x (λ (n : ℕ). Ok (Activate n)))
    on (Err w) y v = word w v
    on (Ok n) y v = y ∙ ap Ok (let k : biometrics_kind n ≡ biometrics_kind j = ap (λ (x : Result Action ℕ). kind_of (storing x)) v in omega (arith, k))

    tests : P (activate_file img s f)
    tests = unfold activate_file in in_order-each P _ _ (word 0x6A86, (word 0x6700, tt)) (λ q. on (resolve_biometrics img s Current) refl)

pub activate_in_order : ActivateInOrder
activate_in_order img s ch cmd buf f n z p w = go (cutting img s ch cmd n buf long)
  where
    long : 2050 ≤ length buf
    long = enough img s ch cmd buf w

    go : Cutting img s ch cmd n buf long → ActivateCut img s ch cmd n
    go (append-cut o q r e a c i u) = absurd (omega (arith, append_or_activate img s ch cmd n buf long f 0xE2 0x44 z q p))
    go (activate-cut o q b e r c i u t) = by (stands_at img k r.file.ok.stands)
      where
        k : ℕ
        k = biometrics_kind b

        ok : bio_ok (body img k) ≡ true
        ok = biometrics-file img k o r.file.ok.kind r.file.ok.stands

        within : (q m : ℕ) → find img k ≡ Some (q, m) → Within m (stores State (body img k) (data_of ch cmd))
        within q m h =
            unfold stores in
            let l = (biometrics_facts (body img k) ok).long in
            let nought : 0 < m = omega (arith, l, body-size img k q m h) in
            simp ok (more nought none)

        alone : (q : ℕ) → shifted q (stores State (body img k) (data_of ch cmd)) ≡ at q 1 ∷ []
        alone q = unfold stores shifted in simp ok (ap (λ (j : ℕ). at j 1 ∷ []) (add-zero q))

        by : Stands img k → ActivateCut img s ch cmd n
        by (stands at-s m h) =
            record {
              number = b;
              start = at-s;
              room = m;
              of_current = biometrics-writes img s Current b (activate-current img s ch cmd f b z p e) r;
              stands = h;
              stored = i ∙ in_image img k at-s m h n State (data_of ch cmd) (within at-s m h) ∙ ap (λ (ss : List Store). made (take n ss) img) (alone at-s);
            }
    go (no_cut m i x y) = absurd (y f z p w)
