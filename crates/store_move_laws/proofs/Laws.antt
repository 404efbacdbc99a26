-- What the layers above rely on, and all that they cite of this crate's proofs: what is in the image after a move.
-- Read before: store_move's specs/Moving.antt, specs/Same.antt. Exports: `moved-…` (files that were there), `new-…` (files that were not), `same-…`
-- (the same rooms), `moved_twice`, `twice_moved`, `refused_target`, `image_target`, `image-first`.
use Prim.Native.Nat.{ℕ, zero, suc, ◌*◌, ◌%◌, ◌≤◌, ◌<◌}
use mathlib.Core.Path.{◌≡◌, refl, sym, ap, ap₂, subst, ◌∙◌}
use mathlib.Core.Bool.{true, false}
use mathlib.Core.List.{List, [], ◌++◌}
use native.Mathlib.Omega.{arith}
use lib.ListN.{length, take, drop, length-take}
use lib.Seq.{take-nil, take_at}
use borrow.Author.Tests.{le-leb, eqb-true, eq-eqb}
use Rattle.base.specs.Bytes.{part}
use Rattle.base.proofs.Cases.{by_cases, false-true, all_of_facts, all_of_accepted}
use Rattle.store_records.specs.Body.{records}
use Rattle.store_kinds.specs.Biometrics.{state, written}
use Rattle.store_kinds.specs.Biometrics.{written_bytes as bytes}
use Rattle.store_kinds.specs.Rules.{is_biometrics, kind_ok}
use Rattle.store_image.specs.Image.{has, well_formed, body, records_of}
use Rattle.store_image.proofs.Files.{body_lacking, body-well_formed}
use Rattle.store_move_plan.specs.Rooms.{rows, row_room, row_kind, zeros, filled, section, sections, laid, no_content, blank, lays, plan}
use Rattle.store_move_plan.proofs.Rows.{filled-length}
use Rattle.store_move_plan.proofs.Empty.{empty_state, empty_written}
use Rattle.store_move_plan.proofs.Blank.{filled_empty, none-fits}
use Rattle.store_move.specs.Moving.{content_length, content, moved, lists, roomy, target_after, move_card, move_card_into}
use Rattle.store_move_laws.specs.Same.{heads, FreeZero}
use Rattle.store_move.specs.declared.MoveRefusal.{MoveRefusal}
use Rattle.store_move.proofs.Fitting.{roomy-at}
use Rattle.store_move.proofs.Moves.{moved_length, Accepted, move_card_facts}
use Rattle.store_move_laws.proofs.Contents.{refit, refill, kept-records, kept-state, kept-written, kept-content, kept_busy, kept-well_formed, zero-records, zero-content}
use Rattle.store_move_laws.proofs.Refusals.{all_fit, listed, all_listed}
use Rattle.store_move_laws.proofs.Found.{has_same, filled-body, laid-well_formed}
use Rattle.store_move_laws.proofs.Heads.{laid-heads, own_rows}
use Rattle.store_move_laws.proofs.Same.{content-fits, empty_has, empty_length, blank-well_formed, own_moved}
use Rattle.std.specs.Prelude.{Result, Ok, Err}

-- a kind that is not in the old image has no content
no-content : (old : List ℕ) (k : ℕ) → has old k ≡ false → content old k ≡ []
unfolding content
no-content old k e = ap (take (content_length k (body old k))) (body_lacking old k e) ∙ take-nil (content_length k (body old k))

-- ---- the laws

-- of a move that is not refused
module _ (old list : List ℕ) {n l : ℕ} (g : Accepted old list n l) where
  -- the new image is well formed
  pub moved-well_formed : well_formed (moved old list) ≡ true
  unfolding moved lays blank content
  moved-well_formed = laid-well_formed list no_content (content old) (none-fits list) (roomy-at old list g.fit) right (all_of_facts _ g.lay).1.0
    where
      right : (i : ℕ) → i < rows list → kind_ok (row_kind list i) (filled (row_room list i) []) ≡ true
          → kind_ok (row_kind list i) (filled (row_room list i) (content old (row_kind list i))) ≡ true
      right i h z =
          by_cases (has old (row_kind list i))
          (λ y. kept-well_formed (row_kind list i) (body old (row_kind list i)) (row_room list i) (body-well_formed old (row_kind list i) g.well y) (roomy-at old list g.fit i h)
          (rw filled_empty at z))
          (λ n. rw (no-content old (row_kind list i) n) z)

  -- it has the rooms of the list
  pub moved-rooms : heads (moved old list) ≡ list
  unfolding moved lays
  moved-rooms = laid-heads (content old) list (roomy-at old list g.fit) (eqb-true (length list % 6) 0 (all_of_facts _ g.lay).0)

  -- it has the files of the list, and with them those of the old image
  pub moved-has : (k : ℕ) → has (moved old list) k ≡ has (blank list) k
  unfolding moved blank
  moved-has k = has_same list no_content (content old) (none-fits list) (roomy-at old list g.fit) k

  pub moved-files : (k : ℕ) → has old k ≡ true → has (moved old list) k ≡ true
  moved-files k h = moved-has k ∙ listed old list k g.all h

  -- the file of kind k, where there is one: its content with zeros behind it
  new-file : (k : ℕ) → has (moved old list) k ≡ true → (n : ℕ) × (length (content old k) ≤ n) × (body (moved old list) k ≡ filled n (content old k))
  unfolding moved
  new-file = filled-body list no_content (content old) (none-fits list) (roomy-at old list g.fit)

  -- ---- a kind that is not in the old image

  module _ (k : ℕ) (e : has old k ≡ false) where
    new-body : (n : ℕ) × (body (moved old list) k ≡ zeros n)
    new-body =
        by_cases (has (moved old list) k)
        (λ h. let q = new-file k h in (q.0, q.2 ∙ ap (filled q.0) (no-content old k e) ∙ filled_empty q.0))
        (λ h. (0, body_lacking (moved old list) k h))

    pub new_records : is_biometrics k ≡ false → records_of (moved old list) k ≡ []
    unfolding records_of
    new_records b = ap records new-body.1 ∙ zero-records new-body.0

    pub new_biometrics : is_biometrics k ≡ true
        → (state (body (moved old list) k) ≡ 0) × (written (body (moved old list) k) ≡ 0) × (bytes (body (moved old list) k) ≡ [])
    new_biometrics b = (
      ap state new-body.1 ∙ empty_state new-body.0,
      ap written new-body.1 ∙ empty_written new-body.0,
      ap bytes new-body.1 ∙ zero-content new-body.0,
    )

  -- ---- a kind that is

  old-file : (k : ℕ) → has old k ≡ true → (n : ℕ) × (length (content old k) ≤ n) × (body (moved old list) k ≡ filled n (content old k))
  old-file k h = new-file k (moved-files k h)

  -- all records under their old numbers. (A kind that is not in the old image has none in either.)
  pub moved-records : (k : ℕ) → is_biometrics k ≡ false → records_of (moved old list) k ≡ records_of old k
  unfolding records_of content
  moved-records k b =
      by_cases (has old k)
      (λ h. let f = old-file k h in ap records f.2 ∙ kept-records k (body old k) f.0 (body-well_formed old k g.well h) f.1 b)
      (λ e. new_records k e b ∙ sym (ap records (body_lacking old k e) ∙ zero-records 0))

  -- biometrics with state and w, and the bytes written
  module _ (k : ℕ) (b : is_biometrics k ≡ true) (h : has old k ≡ true) where
    pub moved-state : state (body (moved old list) k) ≡ state (body old k)
    unfolding content
    moved-state = let f = old-file k h in ap state f.2 ∙ kept-state k (body old k) f.0 (body-well_formed old k g.well h) f.1 b

    pub moved-written : written (body (moved old list) k) ≡ written (body old k)
    unfolding content
    moved-written = let f = old-file k h in ap written f.2 ∙ kept-written k (body old k) f.0 (body-well_formed old k g.well h) f.1 b

    pub moved-content : bytes (body (moved old list) k) ≡ bytes (body old k)
    unfolding content
    moved-content = let f = old-file k h in ap bytes f.2 ∙ kept-content k (body old k) f.0 (body-well_formed old k g.well h) f.1 b

  -- what is busy in a new body holds all the content
  all-busy : (k n : ℕ) → length (content old k) ≤ n → length (content old k) ≤ content_length k (filled n (content old k))
  unfolding content
  all-busy k n i =
      by_cases (has old k)
      (λ y. omega (arith, length-take (content_length k (body old k)) (body old k), kept_busy k (body old k) n (body-well_formed old k g.well y) i))
      (λ e. let z : length (take (content_length k (body old k)) (body old k)) ≡ 0 = ap length (no-content old k e) in omega (arith, z))

  -- the free bytes are zero
  pub moved-free : FreeZero (moved old list)
  unfolding FreeZero content
  moved-free k h =
      let f = new-file k h in
      let c : List ℕ = take (content_length k (body old k)) (body old k) in
      subst (λ (y : List ℕ). y ≡ filled (length y) (take (content_length k y) y)) (sym f.2)
      (sym (ap (λ (m : ℕ). filled m (take (content_length k (filled f.0 c)) (filled f.0 c))) (filled-length f.0 c f.1)
      ∙ refill c (content_length k (filled f.0 c)) f.0 (all-busy k f.0 f.1) f.1))

-- ---- the same sizes

module _ (old : List ℕ) (well : well_formed old ≡ true) where
  -- with the free bytes zero the new image is the old one
  pub same_sizes : FreeZero old → moved old (heads old) ≡ old
  same_sizes = own_moved old well

  -- with whatever free bytes, the move is not refused
  pub same_accepted : (lays (heads old) ≡ true) × (lists old (heads old) ≡ true) × (roomy old (heads old) ≡ true)
  unfolding lays
  same_accepted = (
    all_of_accepted _ (eq-eqb (length (heads old) % 6) 0 (omega (arith, own_rows old well)), (blank-well_formed old well, tt)),
    all_listed old (heads old) well (λ k h. empty_has old well k ∙ h),
    all_fit old (heads old) (content-fits old well),
  )

  pub same-moved : (n : ℕ) → length old ≤ n → move_card old (heads old) n ≡ Ok (length old)
  unfolding move_card plan
  same-moved n h =
      let l : length (moved old (heads old)) ≡ length old = moved_length old (heads old) same_accepted.2 ∙ empty_length old well in
      rw (well, same_accepted.0, same_accepted.1, same_accepted.2, l, le-leb _ _ h)

-- ---- a move of what was moved

sections-same : (c d : ℕ → List ℕ) (list : List ℕ) (n : ℕ) → ((i : ℕ) → i < n → filled (row_room list i) (c (row_kind list i)) ≡ filled (row_room list i) (d (row_kind list i)))
    → sections c list n ≡ sections d list n
unfolding sections section
sections-same c d list zero h = refl
sections-same c d list (suc n) h =
    ap₂ (λ (a b : List ℕ). a ++ (part list (6 * n) 6 ++ b)) (sections-same c d list n (λ i l. h i (omega arith))) (h n (omega arith))

module _ (old a b : List ℕ) {n l m j : ℕ} (g : Accepted old a n l) (q : Accepted (moved old a) b m j) where
  -- what is moved on from the new image fills a room as what was moved from the old one does
  same-room : (k r : ℕ) → length (content (moved old a) k) ≤ r
      → (length (content old k) ≤ r) × (filled r (content (moved old a) k) ≡ filled r (content old k))
  same-room k r i =
      by_cases (has (moved old a) k)
      (λ h. let f = new-file old a g k h in
      let c = content old k in
      let w = all-busy old a g k f.0 f.1 in
      let e : content (moved old a) k ≡ take (content_length k (filled f.0 c)) (filled f.0 c) = unfold content in ap (λ (y : List ℕ). take (content_length k y) y) f.2 in
      let u : length (content (moved old a) k) ≡ length (take (content_length k (filled f.0 c)) (filled f.0 c)) = ap length e in
      let v : length (take (content_length k (filled f.0 c)) (filled f.0 c)) ≤ r = omega (arith, u, i) in (
        omega (arith, v, w, f.1, length-take (content_length k (filled f.0 c)) (filled f.0 c), filled-length f.0 c f.1),
        ap (filled r) e ∙ refit c (content_length k (filled f.0 c)) f.0 r w f.1 v,
      ))
      (λ e. let z = no-content old k (by_cases (has old k) (λ y. false-true (sym e ∙ moved-files old a g k y)) (λ x. x)) in
      let y = no-content (moved old a) k e in
      (omega (arith, ap length z), ap (filled r) (y ∙ sym z)))

  pub moved_twice : moved (moved old a) b ≡ moved old b
  unfolding moved laid
  moved_twice = sections-same (content (moved old a)) (content old) b (rows b) (λ i h. (same-room (row_kind b i) (row_room b i) (roomy-at (moved old a) b q.fit i h)).1)

  -- and no refusal comes in between
  pub twice_moved : move_card old b m ≡ Ok j
  unfolding move_card plan
  twice_moved =
      let e : lists old b ≡ true = all_listed old b g.well (λ k h. listed (moved old a) b k q.all (moved-files old a g k h)) in
      let f : roomy old b ≡ true = all_fit old b (λ i h. (same-room (row_kind b i) (row_room b i) (roomy-at (moved old a) b q.fit i h)).0) in
      let z : length (moved old b) ≡ j = ap length (sym moved_twice) ∙ q.is in
      rw (g.well, q.lay, e, f, z, le-leb j m (omega (arith, q.long, q.is)))

-- ---- the target

module _ (old list t : List ℕ) where
  pub refused_target : (w : MoveRefusal) → move_card old list (length t) ≡ Err w → move_card_into old list t ≡ t
  unfolding move_card_into
  refused_target w e = ap (λ (m : Result ℕ MoveRefusal). target_after m (moved old list) t) e

  pub image_target : (n : ℕ) → move_card old list (length t) ≡ Ok n → move_card_into old list t ≡ moved old list ++ drop n t
  unfolding move_card_into
  image_target n e =
      ap (λ (m : Result ℕ MoveRefusal). target_after m (moved old list) t) e ∙ ap (λ (k : ℕ). moved old list ++ drop k t) (move_card_facts old list (length t) n e).is

  -- its first bytes are the new image
  pub image-first : (n : ℕ) → move_card old list (length t) ≡ Ok n → take n (move_card_into old list t) ≡ moved old list
  image-first n e =
      ap (take n) (image_target n e) ∙ take_at (moved old list) (drop n t) n (move_card_facts old list (length t) n e).is
