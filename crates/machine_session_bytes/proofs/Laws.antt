-- A session as bytes: what is written is a session and is read back, where 25 bytes can hold it; a session that fits an image is such a
-- one. Read specs/Layout.antt before. Exports `Storable`, `is_session-written`, `session_in-written`, `fits_storable`, `is_session-long`.
use Prim.Native.Nat.{ℕ, ◌+◌, ◌*◌, ◌/◌, ◌%◌, ◌≤◌, ◌<◌}
use mathlib.Core.Path.{◌≡◌, refl, sym, ap, ap₂, ◌∙◌, subst}
use mathlib.Core.Bool.{true}
use mathlib.Core.List.{List, [], ◌∷◌, ◌++◌, append_assoc}
use native.Mathlib.Omega.{arith}
use lib.ListN.{length, get_or, drop, length-append}
use lib.Seq.{sets-eq, get_or-append-add, take-append-le, take_all}
use lib.Dec.{leb, eqb, lit<}
use borrow.Author.Tests.{le-leb, leb-true, le-ltb, eqb-true}
use Rattle.base.specs.Choice.{all_of}
use Rattle.base.specs.Bytes.{put}
use Rattle.base.proofs.Cases.{by_cases, false-true, all_of_facts}
use Rattle.base.proofs.Runs.{put_accepted}
use Rattle.store_records.specs.Body.{count}
use Rattle.store_records.specs.Little.{le16}
use Rattle.store_kinds.specs.Rules.{is_biometrics, present_by}
use Rattle.store_kinds.specs.declared.rules.Key.TheVariants.{Kind}
use Rattle.store_image.specs.Image.{present, body, well_formed}
use Rattle.store_image.proofs.Laws.{rule_regular, body-count, record_file}
use Rattle.store_files.specs.Files.{by_id, transparent_id, id_of}
use Rattle.store_files.specs.declared.File.{File}
use Rattle.store_files.specs.declared.File.TheVariants.{RecordFile, TransparentFile}
use Rattle.store_files.specs.declared.Transparent.{Transparent}
use Rattle.store_files.specs.declared.Transparent.TheVariants.{Info, Dir, Biometrics}
use Rattle.store_files.proofs.Meant.{TransparentOk, FileOk, LookupOk, Found, by_id_well_formed, by_id_id}
use Rattle.machine_rights.specs.Chain.{certificate, held}
use Rattle.machine_rights.specs.declared.Rights.{Rights}
use Rattle.machine_session.specs.Session.{application_fits, is_known, has_record, record_fits, place_fits, session_fits}
use Rattle.machine_session.specs.declared.Place.{Place}
use Rattle.machine_session.specs.declared.Place.TheVariants.{Nowhere, OnFile, OnRecord}
use Rattle.machine_session.specs.declared.Session.{Session}
use Rattle.machine_session_bytes.specs.Layout.{place_bytes, session_bytes, place_in, unused_zero, is_session, session_in}
use Rattle.std.specs.Prelude.{Option, Some, None}

-- ---- a session that 25 bytes can hold

abbrev pub PlaceHeld : Place → Type 0
PlaceHeld Nowhere = Unit {0}
PlaceHeld (OnFile i) = i < 65536
PlaceHeld (OnRecord i n) = (i < 65536) × (n < 256)

pub record Storable (s : Session) : Type 0 where
  pub application : s.application ≤ 3
  pub biometrics : length s.rights.biometrics ≡ 17
  pub place : PlaceHeld s.place

-- bytes are a session, and it is s
abbrev Reads : List ℕ → Session → Type 0
Reads xs s = (is_session xs ≡ true) × (session_in xs ≡ s)

-- the bytes from the application on, by what stands there
module _ (xs : List ℕ) (a p lo hi n : ℕ) (l : 25 ≤ length xs) (h : a ≤ 3) (e₀ : get_or xs 20 0 ≡ a) (e₁ : get_or xs 21 0 ≡ p) (e₂ : get_or xs 22 0 ≡ lo) (e₃ : get_or xs 23 0 ≡ hi) (e₄ : get_or xs 24 0 ≡ n) where
  abbrev read : Place → Session
  read q = record { rights = held xs; application = a; place = q }

  nothing_read : p ≡ 0 → lo ≡ 0 → hi ≡ 0 → n ≡ 0 → Reads xs (read Nowhere)
  unfolding is_session session_in unused_zero place_in le16 all_of
  nothing_read x y z w = (simp (le-leb _ _ l, e₀, e₁, e₂, e₃, e₄, x, y, z, w, le-leb a 3 h), simp (e₀, e₁, e₂, e₃, e₄, x, y, z, w))

  file-read : p ≡ 1 → n ≡ 0 → Reads xs (read (OnFile (lo + 256 * hi)))
  unfolding is_session session_in unused_zero place_in le16 all_of
  file-read x w = (simp (le-leb _ _ l, e₀, e₁, e₂, e₃, e₄, x, w, le-leb a 3 h), simp (e₀, e₁, e₂, e₃, e₄, x, w))

  record-read : p ≡ 2 → Reads xs (read (OnRecord (lo + 256 * hi) n))
  unfolding is_session session_in unused_zero place_in le16 all_of
  record-read x = (simp (le-leb _ _ l, e₀, e₁, e₂, e₃, e₄, x, le-leb a 3 h), simp (e₀, e₁, e₂, e₃, e₄, x))

number : (i : ℕ) → i < 65536 → i % 256 + 256 * (i / 256 % 256) ≡ i
number i h = omega arith

low : (n : ℕ) → n < 256 → n % 256 ≡ n
low n h = omega arith

module _ (f t v : ℕ) (b tail : List ℕ) (j : length b ≡ 17) (long : 5 ≤ length tail) where
  abbrev xs : List ℕ
  xs = f ∷ t ∷ v ∷ (b ++ tail)

  size : 25 ≤ length xs
  size = omega (arith, length-append b tail)

  at : (i : ℕ) → get_or xs (20 + i) 0 ≡ get_or tail i 0
  at i =
      let e : length (f ∷ t ∷ v ∷ b) ≡ 20 = omega arith in
      ap (λ (k : ℕ). get_or xs (k + i) 0) (sym e) ∙ get_or-append-add (f ∷ t ∷ v ∷ b) tail i 0

  rights-read : held xs ≡ record { flags = f; travel = t; visa = v; biometrics = b }
  unfolding held certificate
  rights-read =
      let s = size in
      simp (le-ltb (length xs) 20 (omega arith))
      (ap (λ (l : List ℕ). record { flags = f; travel = t; visa = v; biometrics = l }) (take-append-le 17 b tail (omega arith) ∙ take_all 17 b (omega arith)))

-- what stands at the start of a buffer is read back
read-start : (s : Session) (rest : List ℕ) → Storable s → Reads (session_bytes s ++ rest) s
unfolding session_bytes place_bytes
read-start s rest h = go s.application s.place h.application h.place
  where
    f : ℕ
    f = s.rights.flags

    t : ℕ
    t = s.rights.travel

    v : ℕ
    v = s.rights.visa

    b : List ℕ
    b = s.rights.biometrics

    with_tail : List ℕ → List ℕ
    with_tail tail = f ∷ t ∷ v ∷ (b ++ tail)

    by-rights : Rights → ℕ → Place → Session
    by-rights r a p = record { rights = r; application = a; place = p }

    -- by the bytes behind the rights
    by : (a : ℕ) (p : Place) (tail : List ℕ) → 5 ≤ length tail → Reads (with_tail tail) (by-rights (held (with_tail tail)) a p) → Reads (with_tail tail) (by-rights s.rights a p)
    by a p tail l e = (e.0, e.1 ∙ ap (λ (r : Rights). by-rights r a p) (rights-read f t v b tail h.biometrics l))

    flat : (c : List ℕ) (q : Session) → Reads (with_tail (c ++ rest)) q → Reads ((f ∷ t ∷ v ∷ []) ++ (b ++ c) ++ rest) q
    flat c q e =
        let p = ap (λ (l : List ℕ). f ∷ t ∷ v ∷ l) (append_assoc b c rest) in
        (ap is_session p ∙ e.0, ap session_in p ∙ e.1)

    renamed : (xs : List ℕ) {q q' : Session} → Reads xs q → q ≡ q' → Reads xs q'
    renamed xs e p = (e.0, e.1 ∙ p)

    go : (a : ℕ) (p : Place) → a ≤ 3 → PlaceHeld p → Reads (f ∷ t ∷ v ∷ ((b ++ place_bytes a p) ++ rest)) (by-rights s.rights a p)
    go a Nowhere i j =
        let tail : List ℕ = a % 256 ∷ 0 ∷ 0 ∷ 0 ∷ 0 ∷ rest in
        let w = at f t v b tail h.biometrics (omega arith) in
        flat (place_bytes a Nowhere) _
        (by a Nowhere tail (omega arith)
        (nothing_read (with_tail tail) a 0 0 0 0 (size f t v b tail h.biometrics (omega arith)) i (w 0 ∙ low a (omega arith)) (w 1) (w 2) (w 3) (w 4) refl refl refl refl))
    go a (OnFile k) i j =
        let tail : List ℕ = a % 256 ∷ 1 ∷ k % 256 ∷ k / 256 % 256 ∷ 0 ∷ rest in
        let w = at f t v b tail h.biometrics (omega arith) in
        flat (place_bytes a (OnFile k)) _
        (by a (OnFile k) tail (omega arith)
        (renamed (with_tail tail)
        (file-read (with_tail tail) a 1 (k % 256) (k / 256 % 256) 0 (size f t v b tail h.biometrics (omega arith)) i (w 0 ∙ low a (omega arith)) (w 1) (w 2) (w 3) (w 4) refl refl)
        (ap (λ (x : ℕ). by-rights (held (with_tail tail)) a (OnFile x)) (number k j))))
    go a (OnRecord k n) i j =
        let tail : List ℕ = a % 256 ∷ 2 ∷ k % 256 ∷ k / 256 % 256 ∷ n % 256 ∷ rest in
        let w = at f t v b tail h.biometrics (omega arith) in
        flat (place_bytes a (OnRecord k n)) _
        (by a (OnRecord k n) tail (omega arith)
        (renamed (with_tail tail)
        (record-read (with_tail tail) a 2 (k % 256) (k / 256 % 256) (n % 256) (size f t v b tail h.biometrics (omega arith)) i (w 0 ∙ low a (omega arith)) (w 1) (w 2) (w 3) (w 4) refl)
        (ap₂ (λ (x y : ℕ). by-rights (held (with_tail tail)) a (OnRecord x y)) (number k j.0) (low n j.1))))

pub bytes-length : (s : Session) → length s.rights.biometrics ≡ 17 → length (session_bytes s) ≡ 25
unfolding session_bytes place_bytes
bytes-length s h = go s.application s.place
  where
    go : (a : ℕ) (p : Place) → length ((s.rights.flags ∷ s.rights.travel ∷ s.rights.visa ∷ []) ++ (s.rights.biometrics ++ place_bytes a p)) ≡ 25
    go a Nowhere = omega (arith, length-append s.rights.biometrics (place_bytes a Nowhere))
    go a (OnFile i) = omega (arith, length-append s.rights.biometrics (place_bytes a (OnFile i)))
    go a (OnRecord i n) = omega (arith, length-append s.rights.biometrics (place_bytes a (OnRecord i n)))

-- what is written is a session, and the one that was written
module _ (s : Session) (ses : List ℕ) (h : Storable s) (l : 25 ≤ length ses) where
  written_start : put ses 0 (session_bytes s) ≡ session_bytes s ++ drop (0 + length (session_bytes s)) ses
  written_start =
      let n = bytes-length s h.biometrics in
      put_accepted ses 0 (session_bytes s) (omega arith) ∙ sets-eq (session_bytes s) ses 0 (omega arith)

  pub is_session-written : is_session (put ses 0 (session_bytes s)) ≡ true
  is_session-written = ap is_session written_start ∙ (read-start s (drop (0 + length (session_bytes s)) ses) h).0

  pub session_in-written : session_in (put ses 0 (session_bytes s)) ≡ s
  session_in-written = ap session_in written_start ∙ (read-start s (drop (0 + length (session_bytes s)) ses) h).1

-- ---- a session that fits an image is one that 25 bytes can hold

module _ (img : List ℕ) where
  transparent_id-small : (t : Transparent) → TransparentOk img t → transparent_id t < 65536
  unfolding transparent_id is_biometrics
  transparent_id-small Info k = lit< tt
  transparent_id-small Dir k = lit< tt
  transparent_id-small (Biometrics n) k = omega (arith, leb-true (0x0400 + n) 0x0440 (all_of_facts _ k.kind).1.0)

  id_of-small : (f : File) → FileOk img f → id_of f < 65536
  unfolding id_of
  id_of-small (RecordFile r) k = omega (arith, (rule_regular (Kind r.kind) r k.by_kind).id_small)
  id_of-small (TransparentFile t) k = transparent_id-small t k

  file-held : (a i : ℕ) → is_known (by_id img a i) ≡ true → i < 65536
  file-held a i e = go (by_id img a i) (by_id_well_formed img a i) (by_id_id img a i) e
    where
      go : (l : Option File) → LookupOk img l → Found (λ f. id_of f ≡ i) l → is_known l ≡ true → i < 65536
      go None o n k = false-true k
      go (Some f) o n k = subst (λ (j : ℕ). j < 65536) n (id_of-small f o)

  module _ (o : well_formed img ≡ true) where
    record-held : (f : File) (n : ℕ) → FileOk img f → has_record img f n ≡ true → n < 256
    record-held (TransparentFile t) n k e = false-true e
    record-held (RecordFile r) n k e =
        let c = leb-true n (count (body img r.kind)) (all_of_facts (leb 1 n ∷ leb n (count (body img r.kind)) ∷ []) e).1.0 in
        let m = body-count r.longest r.most (body img r.kind) (record_file img r.kind r o k.by_kind k.stands) in
        omega (arith, c, m, (rule_regular (Kind r.kind) r k.by_kind).many)

    known-held : (l : Option File) (n : ℕ) → LookupOk img l → record_fits img l n ≡ true → (is_known l ≡ true) × (n < 256)
    known-held None n k e = false-true e
    known-held (Some f) n k e = (refl, record-held f n k e)

    place-held : (a : ℕ) (p : Place) → place_fits img a p ≡ true → PlaceHeld p
    unfolding place_fits
    place-held a Nowhere e = tt
    place-held a (OnFile i) e = file-held a i e
    place-held a (OnRecord i n) e = let h = known-held (by_id img a i) n (by_id_well_formed img a i) e in (file-held a i h.0, h.1)

    application-held : (a : ℕ) → application_fits img a ≡ true → a ≤ 3
    unfolding application_fits present present_by
    application-held a e =
        by_cases (eqb a 0)
        (λ z. omega (arith, eqb-true a 0 z))
        (λ z. leb-true a 3 (all_of_facts _ (simp z at e)).1.0)

    pub fits_storable : (s : Session) → session_fits img s ≡ true → length s.rights.biometrics ≡ 17 → Storable s
    unfolding session_fits
    fits_storable s e l =
        let h = all_of_facts _ e in
        record { application = application-held s.application h.0; biometrics = l; place = place-held s.application s.place h.1.0 }

-- ---- bytes that are a session are 25 at least

pub is_session-long : (ses : List ℕ) → is_session ses ≡ true → 25 ≤ length ses
unfolding is_session
is_session-long ses e = leb-true 25 (length ses) (all_of_facts _ e).0
