-- An index: what the three results tell, and that an index that is kept stays right over any calls.
-- Read before: ../specs/Index.antt, proofs/Keeping.antt of store_index. Exports `c_index_builds`, `c_index_extends`, `c_index_reads`, `c_index_kept`,
-- `c_index_room`, `c_index_replies`.
use Prim.Native.Nat.{ℕ, ◌+◌, ◌-◌, ◌*◌, ◌/◌, ◌≤◌, ◌<◌}
use mathlib.Core.Path.{◌≡◌, refl, sym, ap, ap₂, ◌∙◌, subst}
use mathlib.Core.Bool.{Bool, true, false}
use mathlib.Core.List.{List, [], ◌∷◌, ◌++◌, append_assoc, append-nil}
use native.Mathlib.Omega.{arith}
use lib.ListN.{length, get_or, take, drop, set, length-set, length-append}
use lib.Seq.{length-sets, get_or-set_same, get_or-set_other}
use lib.Dec.{leb, eqb}
use borrow.Author.Tests.{eqb-true, eqb-false}
use Rattle.base.specs.Choice.{if_else, all_of}
use Rattle.base.specs.Bytes.{part, AllBytes}
use Rattle.base.proofs.Cases.{false-true, by_cases, if_else_ind}
use Rattle.base.proofs.Runs.{drop-sets_past}
use Rattle.store_records.specs.Little.{le16}
use Rattle.store_records.specs.Body.{count, place, records, nth}
use Rattle.store_records.proofs.Numbers.{le16_small}
use Rattle.store_records.proofs.Bodies.{records-length}
use Rattle.store_kinds.specs.Rules.{is_biometrics}
use Rattle.store_image.specs.Image.{has, body, well_formed, records_of}
use Rattle.store_image.proofs.Laws.{biometrics_unruled, body-well_formed}
use Rattle.store_index.specs.Index.{places_to, record_file_ok, build_ok, build, build_into, extend_ok, extend, extend_into, read_ok, measure, IndexedPart}
use Rattle.store_index.proofs.Places.{length-places, record_file_ok-kind, record_file_ok_few, record_file_ok_row, row_record_file_ok}
use Rattle.store_index.proofs.Answering.{build_ok_facts, build_ok_accepted, build-refused, extend_ok_facts, extend_ok_accepted, extend-refused, extend-done, read_ok_facts, read_ok_accepted, measure-refused, measure-whole}
use Rattle.store_index.proofs.Keeping.{build_counts, build_list, build-holds, build-entry, Read, reads_record, reads_none, read_returns, count_later, build-same, extend_more}
use Rattle.machine_session.specs.Session.{place_record}
use Rattle.machine_session.specs.declared.Session.{Session}
use Rattle.machine_apdu.specs.Shape.{shape_of}
use Rattle.machine_apdu.specs.declared.Frame.{Frame}
use Rattle.machine_chain.specs.Chain.{Chain, so_far}
use Rattle.machine_answer.specs.Outcome.{Outcome}
use Rattle.machine_session_bytes.specs.Layout.{session_in}
use Rattle.malquindo.specs.Face.{chain_of_c, called, called_cut, index_result}
use Rattle.promises.specs.Files.{is_meant_row, is_meant_kind}
use Rattle.promises.specs.Calls.{is_pair, added_by}
use Rattle.promises.specs.Promises.{data_in, Reads}
use Rattle.promises.specs.Linked.{refusal_in, status_in, seen, CCall, OpenC, CommandC, MoveC, CutC, cut_stores_in, after_call_c, after_c, added_c, additions_c, history_c}
use Rattle.promises.specs.Bodies.{lent_body}
use Rattle.promises.specs.Index.{indexed_in, BuildC, CIndexBuilds, ExtendC, CIndexExtends, Readable, ReadC, CIndexReads, CallerIndex, built_c, extended_c, index_after_c, index_read_result, index_bytes, ReadsRecords, CIndexKept, CIndexRoom, number_asked, CIndexReplies}
use Rattle.promises.proofs.Naming.{kind-meant}
use Rattle.promises.proofs.Calling.{c_holds, c_reads-history}
use Rattle.promises.proofs.Bodies.{lent_body-is, lent_records, lent_grown}
use Rattle.std.specs.Prelude.{Option, Some, None}

-- ---- the halves of a result

-- the result r tells that n were counted
record Tells (r n : ℕ) : Type 0 where
  whole : r ≡ n
  refusal : refusal_in r ≡ 0
  low : indexed_in r ≡ n

tells : (r n : ℕ) → r ≡ index_result (Some n) → n < 4294967296 → Tells r n
unfolding index_result refusal_in indexed_in
tells r n e h = record { whole = omega arith; refusal = omega arith; low = omega arith }

-- the result r tells a refusal
record Refuses (r : ℕ) : Type 0 where
  six : r ≡ 6 * 4294967296
  refusal : refusal_in r ≡ 6
  low : indexed_in r ≡ 0

refuses : (r : ℕ) → r ≡ index_result None → Refuses r
unfolding index_result refusal_in indexed_in
refuses r e = record { six = e; refusal = omega arith; low = omega arith }

-- ---- build

module _ (k : ℕ) (xs ps : List ℕ) where
  built-tells : record_file_ok k xs ≡ true → count xs ≤ length ps → Tells (index_result (build k xs ps)) (count xs)
  built-tells e h =
      let few = record_file_ok_few k xs e in
      tells (index_result (build k xs ps)) (count xs) (ap index_result (build_counts k xs ps e h)) (omega arith)

  built : record_file_ok k xs ≡ true → count xs ≤ length ps → BuildC k xs ps (index_result (build k xs ps)) (build_into k xs ps)
  built e h =
      let t = built-tells e h in
      let l = build_list k xs ps e h in
      let c = records-length xs in
      record {
        refused_complete = λ f. absurd (f (record_file_ok_row k xs e) (omega arith));
        refused_sound = λ g. absurd (omega (arith, t.refusal));
        refused_kept = λ g. absurd (omega (arith, t.refusal));
        number = λ _. t.whole ∙ sym c;
        places = λ _ n i. build-entry k xs ps e h n i.0 (omega (arith, i.1));
        rest_kept = ap (drop (indexed_in (index_result (build k xs ps)))) l
            ∙ drop-sets_past (indexed_in (index_result (build k xs ps))) ps 0 (places_to xs (count xs)) (omega (arith, t.low, length-places xs (count xs)));
        size_kept = ap length l ∙ length-sets ps 0 (places_to xs (count xs));
      }

  not-built : build_ok k xs ps ≡ false → BuildC k xs ps (index_result (build k xs ps)) (build_into k xs ps)
  not-built f =
      let b = build-refused k xs ps f in
      let t = refuses (index_result (build k xs ps)) (ap index_result (sym b.0)) in
      let l : build_into k xs ps ≡ ps = sym b.1 in
      record {
        refused_complete = λ _. t.six;
        refused_sound = λ _ y h. false-true (sym f ∙ build_ok_accepted k xs ps (row_record_file_ok k xs y) (omega (arith, records-length xs)));
        refused_kept = λ _. l;
        number = λ z. absurd (omega (arith, t.refusal));
        places = λ z. absurd (omega (arith, t.refusal));
        rest_kept = ap (drop (indexed_in (index_result (build k xs ps)))) l;
        size_kept = ap length l;
      }

pub c_index_builds : CIndexBuilds
c_index_builds k xs ps = by_cases (build_ok k xs ps) (λ t. let h = build_ok_facts k xs ps t in built k xs ps h.0 h.1) (not-built k xs ps)

-- ---- extend

module _ (k : ℕ) (xs ps : List ℕ) (n : ℕ) where
  extended : record_file_ok k xs ≡ true → n + 1 ≡ count xs → n < length ps → ExtendC k xs ps n (index_result (extend k xs ps n)) (extend_into k xs ps n)
  extended e c h =
      let few = record_file_ok_few k xs e in
      let d = extend-done k xs ps n e c h in
      let t = tells (index_result (extend k xs ps n)) (n + 1) (ap index_result (sym d.0)) (omega arith) in
      let l : extend_into k xs ps n ≡ set ps n (place xs n) = sym d.1 in
      record {
        refused_complete = λ f. absurd (f (record_file_ok_row k xs e) (records-length xs ∙ sym c) h);
        refused_sound = λ g. absurd (omega (arith, t.refusal));
        refused_kept = λ g. absurd (omega (arith, t.refusal));
        number = λ _. t.whole;
        added = λ _. ap (λ (m : List ℕ). get_or m n 0) l ∙ get_or-set_same ps n (place xs n) 0 h;
        others_kept = λ i f. ap (λ (m : List ℕ). get_or m i 0) l ∙ get_or-set_other ps n i (place xs n) 0 f;
        size_kept = ap length l ∙ length-set ps n (place xs n);
      }

  not_extended : extend_ok k xs ps n ≡ false → ExtendC k xs ps n (index_result (extend k xs ps n)) (extend_into k xs ps n)
  not_extended f =
      let b = extend-refused k xs ps n f in
      let t = refuses (index_result (extend k xs ps n)) (ap index_result (sym b.0)) in
      let l : extend_into k xs ps n ≡ ps = sym b.1 in
      record {
        refused_complete = λ _. t.six;
        refused_sound = λ _ y c h. false-true (sym f ∙ extend_ok_accepted k xs ps n (row_record_file_ok k xs y) (sym c ∙ records-length xs) h);
        refused_kept = λ _. l;
        number = λ z. absurd (omega (arith, t.refusal));
        added = λ z. absurd (omega (arith, t.refusal));
        others_kept = λ i _. ap (λ (m : List ℕ). get_or m i 0) l;
        size_kept = ap length l;
      }

pub c_index_extends : CIndexExtends
c_index_extends k xs ps n =
    by_cases (extend_ok k xs ps n) (λ t. let h = extend_ok_facts k xs ps n t in extended k xs ps n h.0 h.1 h.2) (not_extended k xs ps n)

-- ---- read

module _ (xs ps : List ℕ) (n : ℕ) (b : AllBytes xs) where
  read : Readable xs ps n → ReadC xs ps n (index_result (measure xs ps n))
  read y =
      let t = tells (index_result (measure xs ps n)) (le16 xs (get_or ps (n - 1) 0)) (ap index_result (sym (measure-whole xs ps n y.first y.last y.within))) (omega (arith, le16_small xs (get_or ps (n - 1) 0) b)) in
      record {
        refused_complete = λ f. absurd (f y);
        refused_sound = λ g. absurd (omega (arith, t.refusal));
        size = λ _. t.whole;
        within = λ _. omega (arith, y.within, t.whole);
      }

  not-read : measure xs ps n ≡ None → (Readable xs ps n → ⊥) → ReadC xs ps n (index_result (measure xs ps n))
  not-read e f =
      let t = refuses (index_result (measure xs ps n)) (ap index_result e) in
      record {
        refused_complete = λ _. t.six;
        refused_sound = λ _. f;
        size = λ z. absurd (omega (arith, t.refusal));
        within = λ z. absurd (omega (arith, t.refusal));
      }

pub c_index_reads : CIndexReads
c_index_reads xs ps n b =
    by_cases (read_ok xs ps n)
    (λ t. let h = read_ok_facts xs ps n t in read xs ps n b (record { first = h.0; last = h.1; within = h.2 }))
    (λ f. not-read xs ps n b (sym (measure-refused xs ps n f)) (λ y. false-true (sym f ∙ read_ok_accepted xs ps n y.first y.last y.within)))

-- ---- an index over calls

one_or_none : (t : Bool) (d : List ℕ) → length (if_else t (d ∷ []) []) ≤ 1
one_or_none true d = omega arith
one_or_none false d = omega arith

added_by_few : (k : ℕ) (s : Session) (ch : Chain) (cmd : List ℕ) (w : ℕ) (a : Option Frame) → length (added_by k s ch cmd w a) ≤ 1
added_by_few k s ch cmd w None = omega arith
added_by_few k s ch cmd w (Some f) =
    one_or_none (all_of (is_pair f 0x00 0xE2 ∷ eqb w 0x9000 ∷ is_meant_kind s (f.header.p2 / 8) k ∷ [])) (so_far ch ++ part cmd f.from f.lc)

-- a call adds one record or none
added_few : (k : ℕ) (img : List ℕ) (c : CCall) → length (added_c k img c) ≤ 1
unfolding added_c
added_few k img (OpenC rights ses) = omega arith
added_few k img (CommandC ses cmd buf) = added_by_few k (session_in ses) (chain_of_c ses) cmd (status_in (called img ses cmd buf).result) (shape_of cmd)
added_few k img (MoveC list t) = omega arith
added_few k img (CutC ses cmd n) =
    let m = cut_stores_in (called_cut img ses cmd n).result in
    if_else_ind (λ (l : List (List ℕ)). length l ≤ 1) (all_of (leb 1 m ∷ leb m n ∷ [])) (λ t. added_by_few k (session_in ses) (chain_of_c ses) cmd 0x9000 (shape_of cmd)) (λ t. omega arith)

-- two indexes with the same list and as many places
kept_same : {l m : List ℕ} {i j : ℕ} → l ≡ m → i ≡ j → ◌≡◌ {A = CallerIndex} (record { entries = l; filled = i }) (record { entries = m; filled = j })
kept_same p q t = record { entries = p t; filled = q t }

module _ (k : ℕ) (ps : List ℕ) (b : is_biometrics k ≡ false) where
  file-ok : (img : List ℕ) → well_formed img ≡ true → has img k ≡ true → record_file_ok k (lent_body img k) ≡ true
  file-ok img o h = ap (record_file_ok k) (lent_body-is img k o) ∙ sym (record_file_ok-kind k (body img k) b) ∙ body-well_formed img k o h

  -- the body that is lent goes on by ds: what is built, and then extended where there is something new, is what would be built
  extended-built : (xs img : List ℕ) (ds : List (List ℕ)) → record_file_ok k xs ≡ true → record_file_ok k (lent_body img k) ≡ true
      → records (lent_body img k) ≡ records xs ++ ds → length ds ≤ 1 → count (lent_body img k) ≤ length ps
      → extended_c k img ds (record { entries = build_into k xs ps; filled = indexed_in (index_result (build k xs ps)) })
      ≡ record { entries = build_into k (lent_body img k) ps; filled = indexed_in (index_result (build k (lent_body img k) ps)) }
  extended-built xs img [] e f g few room =
      let new : List ℕ = lent_body img k in
      let c = count_later k xs new [] e f g in
      kept_same (sym (build-same k xs new [] e f g ps room refl)) ((built-tells k xs ps e (omega arith)).low ∙ sym ((built-tells k new ps f room).low ∙ c ∙ omega arith))
  extended-built xs img (d ∷ ds) e f g few room =
      let new : List ℕ = lent_body img k in
      let c = count_later k xs new (d ∷ ds) e f g in
      let i = (built-tells k xs ps e (omega arith)).low in
      let x = extend_more k xs new (d ∷ ds) e f g ps room (omega arith) in
      let small = record_file_ok_few k new f in
      kept_same
      (ap (extend_into k new (build_into k xs ps)) i ∙ x.1)
      (ap (λ (m : ℕ). indexed_in (index_result (extend k new (build_into k xs ps) m))) i
      ∙ (tells _ (count new) (ap index_result x.0) (omega arith)).low
      ∙ sym (built-tells k new ps f room).low)

  -- the history of what follows a call is that of the call and what follows
  history-step : (img : List ℕ) (c : CCall) (cs : List CCall) → well_formed img ≡ true → history_c k (after_call_c img c) cs ≡ history_c k img (c ∷ cs)
  unfolding history_c additions_c after_c
  history-step img c cs o =
      ap (λ (rs : List (List ℕ)). rs ++ additions_c k (after_call_c img c) cs)
      ((c_holds img (c ∷ []) o).records k b ∙ ap (λ (l : List (List ℕ)). records_of img k ++ l) (append-nil (added_c k img c)))
      ∙ append_assoc (records_of img k) (added_c k img c) (additions_c k (after_call_c img c) cs)

  -- the records of the body are among those of the history
  fits : (img : List ℕ) (cs : List CCall) → well_formed img ≡ true → length (history_c k img cs) ≤ length ps → count (lent_body img k) ≤ length ps
  unfolding history_c
  fits img cs o r =
      omega (arith, records-length (lent_body img k), ap length (lent_records img k o), length-append (records_of img k) (additions_c k img cs))

  step-built : (img : List ℕ) (c : CCall) → well_formed img ≡ true → has img k ≡ true → count (lent_body (after_call_c img c) k) ≤ length ps
      → extended_c k (after_call_c img c) (added_c k img c) (built_c k img ps) ≡ built_c k (after_call_c img c) ps
  unfolding built_c after_c additions_c
  step-built img c o h r =
      let w = c_holds img (c ∷ []) o in
      extended-built (lent_body img k) (after_call_c img c) (added_c k img c) (file-ok img o h)
      (file-ok (after_call_c img c) w.well (w.files k h))
      (lent_grown img k (c ∷ []) o b ∙ ap (λ (l : List (List ℕ)). records (lent_body img k) ++ l) (append-nil (added_c k img c)))
      (added_few k img c) r

  -- over calls
  kept-built : (img : List ℕ) (calls : List CCall) → well_formed img ≡ true → has img k ≡ true → length (history_c k img calls) ≤ length ps
      → index_after_c k img (built_c k img ps) calls ≡ built_c k (after_c img calls) ps
  unfolding index_after_c after_c
  kept-built img [] o h room = refl
  kept-built img (c ∷ cs) o h room =
      let new : List ℕ = after_call_c img c in
      let w = c_holds img (c ∷ []) o in
      let s = history-step img c cs o in
      ap (λ (x : CallerIndex). index_after_c k new x cs) (step-built img c o h (fits new cs w.well (omega (arith, ap length s))))
      ∙ kept-built new cs w.well (w.files k h) (omega (arith, ap length s))

  -- what was built on an image reads the records of its file
  built-reads : (img : List ℕ) → well_formed img ≡ true → has img k ≡ true → count (lent_body img k) ≤ length ps
      → ReadsRecords (lent_body img k) (records (lent_body img k)) (built_c k img ps)
  unfolding built_c index_read_result index_bytes
  built-reads img o h room =
      record {
        filled = i ∙ sym c;
        bytes = λ n f l. let r = reads_record k xs e n f (omega (arith, c)) in
            ap₂ (λ (p m : ℕ). part xs (p + 2) m) (build-entry k xs ps e room n f (omega (arith, c))) (tells _ _ (told n r) (omega (arith, r.small))).low ∙ r.bytes;
        size = λ n f l. let r = reads_record k xs e n f (omega (arith, c)) in (tells _ _ (told n r) (omega (arith, r.small))).whole;
        no_other = λ n f. (refuses _ (ap (λ (l : List ℕ). index_result (measure xs l n)) lent ∙ ap index_result (reads_none k xs e n (λ g l. f g (omega (arith, c)))))).six;
        returned = λ n f l body r b p. read_returns k xs e body r n b f (omega (arith, c)) (subst (λ (m : List ℕ). IndexedPart (measure xs m n) m n body r) lent p);
      }
    where
      xs : List ℕ
      xs = lent_body img k

      e : record_file_ok k xs ≡ true
      e = file-ok img o h

      c : length (records xs) ≡ count xs
      c = records-length xs

      i : indexed_in (index_result (build k xs ps)) ≡ count xs
      i = (built-tells k xs ps e room).low

      -- the places that are lent
      lent : take (indexed_in (index_result (build k xs ps))) (build_into k xs ps) ≡ places_to xs (count xs)
      lent = ap (λ (m : ℕ). take m (build_into k xs ps)) i ∙ build-holds k xs ps e room

      told : (n : ℕ) → Read k xs e n → index_result (measure xs (take (indexed_in (index_result (build k xs ps))) (build_into k xs ps)) n) ≡ index_result (Some (length (nth (records xs) n)))
      told n r = ap (λ (l : List ℕ). index_result (measure xs l n)) lent ∙ ap index_result r.counted

-- the records of the body that is lent are the history
lent_history : (k : ℕ) (img : List ℕ) (calls : List CCall) → well_formed img ≡ true → is_biometrics k ≡ false → records (lent_body (after_c img calls) k) ≡ history_c k img calls
lent_history k img calls o b = let w = c_holds img calls o in lent_records (after_c img calls) k w.well ∙ w.records k b

pub c_index_kept : CIndexKept
c_index_kept k img ps calls o h b room =
    let w = c_holds img calls o in
    let new : List ℕ = after_c img calls in
    let rs = lent_history k img calls o b in
    let built = kept-built k ps b img calls o h room in
    let r = built-reads k ps b new w.well (w.files k h) (omega (arith, records-length (lent_body new k), ap length rs)) in
    record {
      reads = subst (ReadsRecords (lent_body new k) (history_c k img calls)) (sym built) (subst (λ (l : List (List ℕ)). ReadsRecords (lent_body new k) l (built_c k new ps)) rs r);
      as_built = built;
    }

pub c_index_room : CIndexRoom
c_index_room k img calls o h b =
    let w = c_holds img calls o in
    let new : List ℕ = lent_body (after_c img calls) k in
    omega (arith, record_file_ok_few k new (file-ok k [] b (after_c img calls) w.well (w.files k h)), records-length new, ap length (lent_history k img calls o b))

-- ---- READ RECORD of one record

module _ (s : Session) (f : Frame) (rs : ℕ → List (List ℕ)) (o : Outcome) (q : Reads s f rs o) where
  asked : number_asked s f ≡ q.number
  unfolding number_asked
  asked =
      by_cases (eqb f.header.p1 0)
      (λ e. simp e (ap place_record (q.by_current (eqb-true _ _ e))))
      (λ e. simp e (sym (q.by_number (eqb-false _ _ e))))

-- a record file that P2 means is no biometrics file
meant-records : (s : Session) (x k : ℕ) → is_meant_kind s x k ≡ true → is_biometrics k ≡ false
unfolding is_meant_kind
meant-records s x k m =
    by_cases (is_biometrics k)
    (λ b. false-true (ap (is_meant_row s x) (sym (biometrics_unruled k b)) ∙ m))
    (λ b. b)

pub c_index_replies : CIndexReplies
c_index_replies k img ps calls ses cmd buf f o h room sb bytes e p one m w =
    let s = session_in ses in
    let u = seen (called (after_c img calls) ses cmd buf) in
    let x = index_after_c k img (built_c k img ps) calls in
    let xs = lent_body (after_c img calls) k in
    let q = c_reads-history img calls ses cmd buf f o sb bytes e p w in
    let kind : q.rule.kind ≡ k = eqb-true _ _ (sym (kind-meant s (f.header.p2 / 8) q.rule q.permitted.listed q.meant k) ∙ m) in
    let rs : history_c q.rule.kind img calls ≡ history_c k img calls = ap (λ (j : ℕ). history_c j img calls) kind in
    let told : data_in u ≡ nth (history_c k img calls) q.number = q.one one ∙ ap (λ (l : List (List ℕ)). nth l q.number) rs in
    let n = asked s f (λ j. history_c j img calls) u q in
    let last : q.number ≤ length (history_c k img calls) = omega (arith, q.high, ap length rs) in
    let r = (c_index_kept k img ps calls o h (meant-records s (f.header.p2 / 8) k m) room).reads in
    record {
      bytes = ap (index_bytes xs x) n ∙ r.bytes q.number q.low last ∙ sym told;
      size = ap (index_read_result xs x) n ∙ r.size q.number q.low last ∙ ap length (sym told);
    }
