-- What the layers above rely on, and all that they cite of the proofs about an image; but the crates of the move, which is about sections,
-- cite Sections, Presence, Splicing and Files too. Of a body alone first, then of an image by its files.
-- Read before: specs/Image.antt. Exports: all that is public here; `Changed` and `Accepts` with their laws are what promises rest on.
use Prim.Native.Nat.{ℕ, zero, suc, ◌+◌, ◌-◌, ◌≤◌, ◌<◌, max}
use mathlib.Core.Path.{◌≡◌, refl, sym, ap, ◌∙◌}
use mathlib.Core.Bool.{true, false}
use mathlib.Core.List.{List, [], ◌∷◌, ◌++◌}
use mathlib.Core.Logic.{◌⊎◌}
use native.Mathlib.Omega.{arith}
use lib.ListN.{length, take, set, get_or-append}
use lib.Seq.{get_or-append_seam, take_all}
use native.Mathlib.Numerals.{add-one}
use borrow.Author.Tests.{leb-true, eqb-true}
use Rattle.base.specs.Bytes.{part, splice}
use Rattle.base.proofs.Cases.{all_of_facts}
use Rattle.base.proofs.Parts.{length_part}
use Rattle.store_records.specs.Little.{le16}
use Rattle.store_records.specs.Body.{count, behind, place, record_at, records, nth, used, append_fits, body_ok, appendable, appended, append}
use Rattle.store_kinds.specs.Biometrics.{state, written, written_bytes, bio_ok, updated, update, activate}
use Rattle.store_kinds.specs.Biometrics.{updatable as takes_at}
use Rattle.store_kinds.specs.Rules.{has_key, rule_of, is_biometrics, application_of, kind_ok}
use Rattle.store_cut.specs.Stores.{make_stores}
use Rattle.store_cut.specs.declared.Writing.{Writing}
use Rattle.store_cut.specs.declared.Writing.TheVariants.{Record, State}
use Rattle.store_image.specs.Image.{len_at, kind_at, find, has, present, well_formed, body, records_of, with_body, append_to, update_in, activate_in, stores_in, make_stores_in}
use Rattle.store_kinds.specs.declared.rules.Key.{Key}
use Rattle.store_kinds.specs.declared.rules.Key.TheVariants.{Kind}
use Rattle.store_kinds.specs.declared.rules.Rule.{Rule}
use Rattle.store_records.proofs.Bodies as bodies
use Rattle.store_records.proofs.Appending as appending
use Rattle.store_kinds.proofs.Updating as updating
use Rattle.store_kinds.proofs.Table as table
use Rattle.store_kinds.proofs.ByKind as by_kind
use Rattle.store_cut.proofs.Making as making
use Rattle.store_cut.proofs.Cuts as cuts
use Rattle.store_image.proofs.Presence as presence
use Rattle.store_image.proofs.Splicing as splicing
use Rattle.store_image.proofs.Files as files
use Rattle.std.specs.Prelude.{Option, Some, None}

-- ---- the rule table

-- what a key finds: sizes in their bounds, an application from 1 to 3 that is the kind's high byte, and a kind, an id and a short id
-- each of which finds this rule and no other
pub rule_regular : (key : Key) (r : Rule) → rule_of key ≡ Some r → table.Regular r
rule_regular = table.rule_regular

pub rule_key : (key : Key) (r : Rule) → rule_of key ≡ Some r → has_key key r ≡ true
rule_key = table.rule_key

-- no record file has the kind of a biometrics file
pub biometrics_unruled : (k : ℕ) → is_biometrics k ≡ true → rule_of (Kind k) ≡ None
unfolding is_biometrics
biometrics_unruled k b = go (rule_of (Kind k)) refl
  where
    go : (f : Option Rule) → rule_of (Kind k) ≡ f → rule_of (Kind k) ≡ None
    go None e = e
    go (Some r) e =
        let g = table.rule_regular (Kind k) r e in
        let same : r.kind ≡ k = eqb-true r.kind k (table.rule_key (Kind k) r e) in
        let low : 0x0401 ≤ k = leb-true _ _ (all_of_facts _ b).0 in
        absurd (omega (arith, g.high, g.last))

-- so a body of such a kind is right when it is one of biometrics
pub biometrics-kind : (k : ℕ) (xs : List ℕ) → is_biometrics k ≡ true → kind_ok k xs ≡ bio_ok xs
biometrics-kind k xs b = by_kind.kind_ok-biometrics k xs (biometrics_unruled k b) b

-- ---- a record body

-- the count is the number of records
pub records-count : (xs : List ℕ) → length (records xs) ≡ count xs
records-count = bodies.records-length

-- record n stands where the lengths before it say, and is the nth of the list
pub record_place : (xs : List ℕ) (n : ℕ) → 1 ≤ n → n ≤ count xs → nth (records xs) n ≡ record_at xs (place xs (n - 1))
record_place xs n h i = sym (bodies.nth-at xs n (place xs (n - 1)) h i refl)

-- there is no record 0 and none above the count
pub record_none : (xs : List ℕ) (n : ℕ) → count xs < n → nth (records xs) n ≡ []
record_none xs n h = bodies.nth_past (records xs) n (let l = records-count xs in omega arith)

-- what a well-formed body has: a count of at most `most`, its records within it, each of 1 to `longest` bytes
module _ (L M : ℕ) (xs : List ℕ) (o : body_ok L M xs ≡ true) where
  pub body-count : count xs ≤ M
  body-count = (bodies.body_ok_facts L M xs o).few

  pub body-long : 2 ≤ length xs
  body-long = (bodies.body_ok_facts L M xs o).long

  pub body-used : used xs ≤ length xs
  unfolding used
  body-used = bodies.body_ok-place L M xs (count xs) o (omega arith)

  pub body-place : (n : ℕ) → n ≤ count xs → place xs n ≤ length xs
  body-place n h = bodies.body_ok-place L M xs n o h

  -- a walk: the first record stands at place 0, and behind each stands the next
  pub walk_next : (n : ℕ) → n < count xs → behind xs (place xs n) ≡ place xs (n + 1)
  walk_next n h =
      let l = bodies.place_lt xs n (count xs) h in
      let w : place xs (count xs) ≤ length xs = bodies.body_ok-place L M xs (count xs) o (omega arith) in
      bodies.behind_next xs (place xs n) (omega arith) ∙ sym (bodies.place-suc xs n)

  -- a limit that the file has anyway leaves all of its records
  pub records-take : (n : ℕ) → M ≤ n → take n (records xs) ≡ records xs
  records-take n h = let l = records-count xs in let f = body-count in take_all n (records xs) (omega arith)

  pub record_size : (n : ℕ) → 1 ≤ n → n ≤ count xs → (1 ≤ length (nth (records xs) n)) × (length (nth (records xs) n) ≤ L)
  record_size n h i =
      let p = place xs (n - 1) in
      let f = bodies.body_ok_facts L M xs o in
      let g = bodies.ok_at_facts L xs p (bodies.ok_to-at L xs (n - 1) (count xs) (omega arith) f.all) in
      let l : length (nth (records xs) n) ≡ le16 xs p = ap length (record_place xs n h i) ∙ length_part xs (p + 2) (le16 xs p) g.whole in
      (omega (arith, g.some), omega (arith, g.short))

-- a list with one record more keeps the numbers of all before it, and the new one is the last
pub nth-kept : (rs : List (List ℕ)) (ds : List (List ℕ)) (n : ℕ) → n ≤ length rs → nth (rs ++ ds) n ≡ nth rs n
unfolding nth
nth-kept rs ds zero h = refl
nth-kept rs ds (suc n) h = get_or-append rs ds [] n h

pub nth_last : (rs : List (List ℕ)) (d : List ℕ) → nth (rs ++ (d ∷ [])) (length rs + 1) ≡ d
unfolding nth
nth_last rs d = rw add-one (get_or-append_seam rs d [] [])

-- an append that a body can take: the list with the record behind it, in as many bytes, every place kept
module _ (xs d : List ℕ) (t : appendable xs (length d) ≡ true) where
  appends : append xs d ≡ appended xs d
  appends = appending.append_accepted xs d t

  pub append-records : records (append xs d) ≡ records xs ++ (d ∷ [])
  append-records = ap records appends ∙ appending.appended-records xs d t

  pub append-count : count (append xs d) ≡ count xs + 1
  append-count = ap count appends ∙ appending.appended-count xs d t

  pub append-used : used (append xs d) ≡ used xs + 2 + length d
  append-used = ap used appends ∙ appending.appended-used xs d t

  pub append-place : (n : ℕ) → n ≤ count xs → place (append xs d) n ≡ place xs n
  append-place n h = ap (λ (ys : List ℕ). place ys n) appends ∙ appending.appended-place xs d t n h

  pub append-well_formed : (L M : ℕ) → body_ok L M xs ≡ true → count xs < M → 1 ≤ length d → length d ≤ L → body_ok L M (append xs d) ≡ true
  append-well_formed L M o few some short = ap (body_ok L M) appends ∙ appending.appended-well_formed xs d t L M o few some short

pub append-refused : (xs d : List ℕ) → appendable xs (length d) ≡ false → append xs d ≡ xs
append-refused = appending.append-refused

-- ---- a biometrics body

pub biometrics_facts : (xs : List ℕ) → bio_ok xs ≡ true → updating.BioOk xs
biometrics_facts = updating.bio_ok_facts

-- a write that a body can take: its state stays, w grows to the end of what was written, and the bytes written are those of before
-- with the data in their place
module _ (xs : List ℕ) (off : ℕ) (d : List ℕ) (t : takes_at xs off (length d) ≡ true) where
  updates : update xs off d ≡ updated xs off d
  updates = sym (updating.update_accepted xs off d (updated xs off d) t refl).1

  pub update-state : state (update xs off d) ≡ state xs
  update-state = ap state updates ∙ updating.updated-state xs off d t

  pub update-written : written (update xs off d) ≡ max (written xs) (off + length d)
  update-written = ap written updates ∙ updating.updated-written xs off d t

  pub update-content : written_bytes (update xs off d) ≡ splice (written_bytes xs) off d
  update-content = ap written_bytes updates ∙ updating.updated-content xs off d t

  pub update-well_formed : bio_ok (update xs off d) ≡ true
  update-well_formed = ap bio_ok updates ∙ updating.updated-well_formed xs off d t

pub update-refused : (xs : List ℕ) (off : ℕ) (d : List ℕ) → takes_at xs off (length d) ≡ false → update xs off d ≡ xs
update-refused xs off d t = sym (updating.update-refused xs off d t).1

-- an activation: the state becomes 1, and nothing else changes
module _ (xs : List ℕ) (o : bio_ok xs ≡ true) where
  activates : activate xs ≡ set xs 0 1
  activates = updating.activate_accepted xs o

  pub activate-state : state (activate xs) ≡ 1
  activate-state = ap state activates ∙ updating.activated-state xs o

  pub activate-written : written (activate xs) ≡ written xs
  activate-written = ap written activates ∙ updating.activated-written xs o

  pub activate-content : written_bytes (activate xs) ≡ written_bytes xs
  activate-content = ap written_bytes activates ∙ updating.activated-content xs o

  pub activate-well_formed : bio_ok (activate xs) ≡ true
  activate-well_formed = ap bio_ok activates ∙ updating.activated-well_formed xs o

-- ---- an image and its files

-- a section that is found lies within the image, and two of different kinds lie apart
pub found_inside : (img : List ℕ) (k s n : ℕ) → find img k ≡ Some (s, n) → s + n ≤ length img
found_inside = splicing.found_inside

-- its length and its kind stand in the six bytes before it
pub found-head : (img : List ℕ) (k s n : ℕ) → find img k ≡ Some (s, n) → (6 ≤ s) × (len_at img (s - 6) ≡ n) × (kind_at img (s - 6) ≡ k)
found-head = splicing.found-head

pub found-apart : (img : List ℕ) (k s n j t m : ℕ) → (j ≡ k → ⊥) → find img k ≡ Some (s, n) → find img j ≡ Some (t, m) → (t + m ≤ s) ⊎ (s + n ≤ t)
found-apart = splicing.found-apart

pub found-body : (img : List ℕ) (k s n : ℕ) → find img k ≡ Some (s, n) → body img k ≡ part img s n
found-body = files.body-found

-- a file is there where a section of its kind is found. One that is there is right for its kind; one that is not has no body
pub has-found : (img : List ℕ) (k s n : ℕ) → find img k ≡ Some (s, n) → has img k ≡ true
has-found = files.has-found

pub has_missing : (img : List ℕ) (k : ℕ) → find img k ≡ None → has img k ≡ false
has_missing = files.has_missing

pub body-well_formed : (img : List ℕ) (k : ℕ) → well_formed img ≡ true → has img k ≡ true → kind_ok k (body img k) ≡ true
body-well_formed = files.body-well_formed

pub body_lacking : (img : List ℕ) (k : ℕ) → has img k ≡ false → body img k ≡ []
body_lacking = files.body_lacking

-- the record files of an application that is present are there, and the application of a file that is there is present
pub present-has : (img : List ℕ) (key : Key) (r : Rule) → rule_of key ≡ Some r → present img r.application ≡ true → has img r.kind ≡ true
present-has = presence.present-has

pub has-present : (img : List ℕ) (k : ℕ) → well_formed img ≡ true → has img k ≡ true → present img (application_of k) ≡ true
has-present = files.has-present

-- the files of a well-formed image are well formed
pub record_file : (img : List ℕ) (k : ℕ) (r : Rule) → well_formed img ≡ true → rule_of (Kind k) ≡ Some r → has img k ≡ true → body_ok r.longest r.most (body img k) ≡ true
record_file img k r o e h = sym (by_kind.kind_ok-rule k (body img k) r e) ∙ files.body-well_formed img k o h

pub biometrics-file : (img : List ℕ) (k : ℕ) → well_formed img ≡ true → is_biometrics k ≡ true → has img k ≡ true → bio_ok (body img k) ≡ true
biometrics-file img k o b h = sym (biometrics-kind k (body img k) b) ∙ files.body-well_formed img k o h

-- a file that is changed: the image stays well formed and as long, the same files are there, and every other file stays byte for byte
pub record Changed (img new : List ℕ) (k : ℕ) : Type 0 where
  pub well : well_formed new ≡ true
  pub size : length new ≡ length img
  pub same-files : (j : ℕ) → has new j ≡ has img j
  pub others : (j : ℕ) → (j ≡ k → ⊥) → body new j ≡ body img j

changed : (img : List ℕ) (k : ℕ) (b : List ℕ) → well_formed img ≡ true → has img k ≡ true → length b ≡ length (body img k) → kind_ok k b ≡ true → Changed img (with_body img k b) k
changed img k b o h l r =
    record { well = files.with_body-well_formed img k b h l o r; size = files.with_body-length img k b h l; same-files = files.with_body-has img k b h l; others = files.with_body-body_other img k b h l }

-- what is asked of an append for it to be answered 9000: the file is there, the record has 1 to longest bytes, there are fewer than the
-- most records, and it fits
pub record Accepts (img : List ℕ) (k : ℕ) (r : Rule) (n : ℕ) : Type 0 where
  pub ruled : rule_of (Kind k) ≡ Some r
  pub stands : has img k ≡ true
  pub some : 1 ≤ n
  pub short : n ≤ r.longest
  pub few : count (body img k) < r.most
  pub room : append_fits (body img k) n ≡ true

module _ (img : List ℕ) (k : ℕ) (r : Rule) (d : List ℕ) (o : well_formed img ≡ true) (a : Accepts img k r (length d)) where
  pub append_accepted : appendable (body img k) (length d) ≡ true
  unfolding append_fits
  append_accepted =
      let g = table.rule_regular (Kind k) r a.ruled in
      appending.appendable_accepted (body img k) (length d) (leb-true _ _ a.room) (omega (arith, a.short, g.long)) (omega (arith, a.few, g.many))

  right : kind_ok k (append (body img k) d) ≡ true
  right =
      by_kind.kind_ok-rule k (append (body img k) d) r a.ruled
      ∙ append-well_formed (body img k) d append_accepted r.longest r.most (record_file img k r o a.ruled a.stands) a.few a.some a.short

  pub append_changes : Changed img (append_to img k d) k
  unfolding append_to
  append_changes = changed img k (append (body img k) d) o a.stands (appending.append-length (body img k) d) right

  -- the list of the file's records is the list with the record behind it
  pub append-list : records_of (append_to img k d) k ≡ records_of img k ++ (d ∷ [])
  unfolding records_of append_to
  append-list =
      ap records (files.with_body-body img k (append (body img k) d) a.stands (appending.append-length (body img k) d))
      ∙ append-records (body img k) d append_accepted

-- where it cannot be taken nothing changes
pub append_to-refused : (img : List ℕ) (k : ℕ) (d : List ℕ) → appendable (body img k) (length d) ≡ false → append_to img k d ≡ img
unfolding append_to
append_to-refused img k d t = ap (with_body img k) (append-refused (body img k) d t) ∙ files.with_body-same img k

-- the list of another file's records stays
pub records-kept : (img new : List ℕ) (k : ℕ) → Changed img new k → (j : ℕ) → (j ≡ k → ⊥) → records_of new j ≡ records_of img j
unfolding records_of
records-kept img new k c j ne = ap records (c.others j ne)

-- a write in a biometrics file and its activation
module _ (img : List ℕ) (k : ℕ) (o : well_formed img ≡ true) (b : is_biometrics k ≡ true) (h : has img k ≡ true) where
  module _ (off : ℕ) (d : List ℕ) where
    pub update-body : body (update_in img k off d) k ≡ update (body img k) off d
    unfolding update_in
    update-body = files.with_body-body img k (update (body img k) off d) h (updating.update-length (body img k) off d)

    pub update_changes : takes_at (body img k) off (length d) ≡ true → Changed img (update_in img k off d) k
    unfolding update_in
    update_changes t =
        changed img k (update (body img k) off d) o h (updating.update-length (body img k) off d)
        (biometrics-kind k (update (body img k) off d) b ∙ update-well_formed (body img k) off d t)

  pub activate-body : body (activate_in img k) k ≡ activate (body img k)
  unfolding activate_in
  activate-body = files.with_body-body img k (activate (body img k)) h (updating.activate-length (body img k))

  pub activate_changes : Changed img (activate_in img k) k
  unfolding activate_in
  activate_changes =
      changed img k (activate (body img k)) o h (updating.activate-length (body img k))
      (biometrics-kind k (activate (body img k)) b ∙ activate-well_formed (body img k) (biometrics-file img k o b h))

-- whatever is written, every body stays where it is
module _ (img : List ℕ) (k : ℕ) where
  pub append-find : (d : List ℕ) (j : ℕ) → find (append_to img k d) j ≡ find img j
  unfolding append_to
  append-find d = files.with_body-find-same img k (append (body img k) d) (appending.append-length (body img k) d)

  pub update-find : (off : ℕ) (d : List ℕ) (j : ℕ) → find (update_in img k off d) j ≡ find img j
  unfolding update_in
  update-find off d = files.with_body-find-same img k (update (body img k) off d) (updating.update-length (body img k) off d)

  pub activate-find : (j : ℕ) → find (activate_in img k) j ≡ find img j
  unfolding activate_in
  activate-find = files.with_body-find-same img k (activate (body img k)) (updating.activate-length (body img k))

  pub stores-find : (n : ℕ) (w : Writing) (d : List ℕ) (j : ℕ) → find (make_stores_in n img k w d) j ≡ find img j
  unfolding make_stores_in
  stores-find n w d = files.with_body-find-same img k (make_stores n w (body img k) d) (making.make_stores-length n w (body img k) d)

-- ---- the stores of an append and of an activation

-- all of them are the command, whether or not the file can take it
module _ (img : List ℕ) (k : ℕ) (d : List ℕ) (n : ℕ) where
  pub append_all : length d + 4 ≤ n → make_stores_in n img k Record d ≡ append_to img k d
  unfolding make_stores_in append_to
  append_all h = ap (with_body img k) (cuts.append-made n (body img k) d (let f = cuts.append-stores_few (body img k) d in omega arith))

  pub activate_all : 1 ≤ n → make_stores_in n img k State d ≡ activate_in img k
  unfolding make_stores_in activate_in
  activate_all h = ap (with_body img k) (cuts.activate-made n (body img k) d (let f = cuts.activate-stores_few (body img k) d in omega arith))

pub none_made : (img : List ℕ) (k : ℕ) (w : Writing) (d : List ℕ) → make_stores_in 0 img k w d ≡ img
unfolding make_stores_in
none_made img k w d = ap (with_body img k) (cuts.none_made w (body img k) d) ∙ files.with_body-same img k

-- there are fewer than 65,540
pub stores_small : (img : List ℕ) (k : ℕ) (w : Writing) (d : List ℕ) → length (stores_in img k w d) < 65540
unfolding stores_in
stores_small img k w d = cuts.stores_small w (body img k) d

-- an activation has one
pub activate-stores : (img : List ℕ) (k : ℕ) (d : List ℕ) → well_formed img ≡ true → is_biometrics k ≡ true → has img k ≡ true → length (stores_in img k State d) ≡ 1
unfolding stores_in
activate-stores img k d o b h = cuts.length-activate-stores (body img k) d (biometrics-file img k o b h)

-- an append of n bytes has n + 4. Fewer of them leave the list of the file's records, how many they are and the bytes they use, in an image
-- that is well formed
module _ (img : List ℕ) (k : ℕ) (r : Rule) (d : List ℕ) (o : well_formed img ≡ true) (a : Accepts img k r (length d)) where
  pub append-stores : length (stores_in img k Record d) ≡ length d + 4
  unfolding stores_in
  append-stores = cuts.length-append-stores (body img k) d (append_accepted img k r d o a)

  few : count (body img k) < 255
  few = let g = table.rule_regular (Kind k) r a.ruled in omega (arith, a.few, g.many)

  module _ (n : ℕ) (less : n < length d + 4) where
    cut-body : body (make_stores_in n img k Record d) k ≡ make_stores n Record (body img k) d
    unfolding make_stores_in
    cut-body = files.with_body-body img k (make_stores n Record (body img k) d) a.stands (making.make_stores-length n Record (body img k) d)

    pub cut_changes : Changed img (make_stores_in n img k Record d) k
    unfolding make_stores_in
    cut_changes =
        changed img k (make_stores n Record (body img k) d) o a.stands (making.make_stores-length n Record (body img k) d)
        (by_kind.kind_ok-rule k (make_stores n Record (body img k) d) r a.ruled
        ∙ cuts.cut-well_formed (body img k) d (append_accepted img k r d o a) few n less r.longest r.most (record_file img k r o a.ruled a.stands))

    pub cut_list : records_of (make_stores_in n img k Record d) k ≡ records_of img k
    unfolding records_of
    cut_list = ap records cut-body ∙ cuts.cut-records (body img k) d (append_accepted img k r d o a) few n less

    pub cut-used : used (body (make_stores_in n img k Record d) k) ≡ used (body img k)
    cut-used = ap used cut-body ∙ cuts.cut-used (body img k) d (append_accepted img k r d o a) few n less
