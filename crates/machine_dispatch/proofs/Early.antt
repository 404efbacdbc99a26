-- What a command comes to by its header alone, and which fields of its frame it reads. Read specs/Decide.antt before. Exports `head_fits` (steps 2 to 4),
-- `early` (where one of them fails the header gives the answer, whatever the data) and `same-frame` (no command reads where its data begin).
use Prim.Native.Nat.{ℕ, ◌%◌}
use mathlib.Core.Path.{◌≡◌, refl, sym, ap, ◌∙◌}
use mathlib.Core.Bool.{Bool, true, false, ◌||◌}
use mathlib.Core.List.{List, [], ◌∷◌}
use lib.Dec.{eqb}
use borrow.Author.Tests.{eqb-true}
use Rattle.base.specs.Choice.{if_else, all_of}
use Rattle.base.proofs.Cases.{by_cases, false-true}
use Rattle.objects_templates.specs.OffsetObject.{read_offset_object}
use Rattle.machine_apdu.specs.Status.{wrong_class, wrong_instruction, wrong_parameters, wrong_length}
use Rattle.machine_apdu.specs.declared.Frame.{Frame}
use Rattle.machine_apdu.specs.declared.Header.{Header}
use Rattle.machine_session.specs.Order.{in_order}
use Rattle.machine_session.specs.declared.Session.{Session}
use Rattle.machine_action.specs.Tests.{lc_only, le_only, lc_and_le, neither, all_le}
use Rattle.machine_select.specs.Select.{select_p2, one_of_three, select}
use Rattle.machine_select.specs.Fmm.{fmm_p1, fmm_p2, fmm}
use Rattle.machine_binary.specs.ReadBinary.{p1_fits, read_named, read_offset, read_binary}
use Rattle.machine_binary.specs.ReadBinaryOdd.{read_odd_by, read_binary_odd}
use Rattle.machine_binary.specs.UpdateBinary.{update_binary}
use Rattle.machine_binary.specs.Activate.{activate_parameters, activate_file}
use Rattle.machine_record.specs.AppendRecord.{append_parameters, append_record}
use Rattle.machine_record.specs.ReadRecord.{four_or_five, read_record_on, all_of_record, read_record}
use Rattle.machine_record.specs.SearchRecord.{search_parameters, search_record}
use Rattle.machine_link.specs.Parameters.{parameters_fit}
use Rattle.machine_link.specs.Link.{is_command}
use Rattle.machine_dispatch.specs.Decide.{by_ins, by_own_ins, by_class}
use Rattle.std.specs.Prelude.{Option, Some, None}
use Rattle.std.specs.Prelude.{Err}

-- ---- where the data begin

module _ (img : List ℕ) (s : Session) (f : Frame) (a : ℕ) (d : List ℕ) where
  -- the same frame, but for where its data begin
  abbrev moved : Frame
  moved = record { header = f.header; from = a; lc = f.lc; le = f.le; ne = f.ne }

  odd-moved : read_binary_odd img s f d ≡ read_binary_odd img s moved d
  unfolding read_binary_odd lc_and_le
  odd-moved = ap (in_order ((lc_and_le f, Err wrong_length) ∷ [])) (go (read_offset_object d))
    where
      go : (x : Option ℕ) → read_odd_by img s f x ≡ read_odd_by img s moved x
      go None = refl
      go (Some o) = refl

  class-moved : by_class img s f d ≡ by_class img s moved d
  unfolding by_class by_ins by_own_ins select read_binary read_named read_offset update_binary activate_file append_record read_record read_record_on search_record fmm lc_only le_only neither all_le all_of_record
  class-moved = rw odd-moved refl

-- no command reads where its data begin
pub same-frame : (img : List ℕ) (s : Session) (f g : Frame) (d : List ℕ) → f.header ≡ g.header → f.lc ≡ g.lc → f.le ≡ g.le → f.ne ≡ g.ne
    → by_class img s f d ≡ by_class img s g d
same-frame img s f g d h a b c =
    class-moved img s f g.from d ∙ (λ i. by_class img s (record { header = h i; from = g.from; lc = a i; le = b i; ne = c i }) d)

-- ---- steps 2 to 4

-- CLA is known, CLA and INS are a command, P1 and P2 are its
unfoldable pub head_fits : Header → Bool
head_fits h = all_of ((eqb h.cla 0x00 || eqb h.cla 0x80) ∷ is_command h.cla h.ins ∷ parameters_fit h.ins h.p1 h.p2 ∷ [])

-- the status word where they fail
unfoldable pub early_word : Header → ℕ
early_word h = if_else (eqb h.cla 0x00 || eqb h.cla 0x80) (if_else (is_command h.cla h.ins) wrong_parameters wrong_instruction) wrong_class

-- the first of two tests that fails
two : {A : Type 0} (a b : Bool) (x y : A) → all_of (a ∷ b ∷ []) ≡ false → if_else a (if_else b y x) x ≡ x
unfolding all_of
two true true x y e = false-true (sym e)
two true false x y e = refl
two false b x y e = refl

module _ (img : List ℕ) (s : Session) (f : Frame) (d : List ℕ) where
  abbrev h : Header
  h = f.header

  -- step 4 of each command that has one
  select-early : all_of (select_p2 h.p2 ∷ one_of_three h.p1 ∷ []) ≡ false → select img s f d ≡ Err wrong_parameters
  unfolding select in_order
  select-early e = two (select_p2 h.p2) (one_of_three h.p1) _ _ e

  read-binary-early : p1_fits h.p1 ≡ false → read_binary img s f ≡ Err wrong_parameters
  unfolding read_binary in_order
  read-binary-early e = simp e

  activate-early : activate_parameters h.p1 h.p2 ≡ false → activate_file img s f ≡ Err wrong_parameters
  unfolding activate_file in_order
  activate-early e = simp e

  append-early : append_parameters h.p1 h.p2 ≡ false → append_record img s f d ≡ Err wrong_parameters
  unfolding append_record in_order
  append-early e = simp e

  read-record-early : four_or_five (h.p2 % 8) ≡ false → read_record img s f ≡ Err wrong_parameters
  unfolding read_record in_order
  read-record-early e = simp e

  search-early : search_parameters h.p1 h.p2 ≡ false → search_record img s f d ≡ Err wrong_parameters
  unfolding search_record in_order
  search-early e = simp e

  fmm-early : all_of (fmm_p1 h.p1 ∷ fmm_p2 h.p2 ∷ []) ≡ false → fmm img s f d ≡ Err wrong_parameters
  unfolding fmm in_order
  fmm-early e = two (fmm_p1 h.p1) (fmm_p2 h.p2) _ _ e

  -- P1 and P2 that are not the command's
  unfit : (c i : ℕ) → h.cla ≡ c → h.ins ≡ i → (eqb c 0x00 || eqb c 0x80) ≡ true → is_command c i ≡ true → head_fits h ≡ false
      → parameters_fit i h.p1 h.p2 ≡ false
  unfolding head_fits all_of
  unfit c i ec ei k m n =
      by_cases (parameters_fit i h.p1 h.p2) (λ e. false-true (sym n ∙ simp (ec, ei, k, m, e))) (λ e. e)

  -- CLA 00
  iso-early : h.cla ≡ 0x00 → head_fits h ≡ false → by_ins img s f d ≡ Err (if_else (is_command 0x00 h.ins) wrong_parameters wrong_instruction)
  unfolding by_ins is_command parameters_fit
  iso-early c n =
      by_cases (eqb h.ins 0xA4) (λ z. let i = eqb-true h.ins 0xA4 z in simp i (select-early (unfit 0x00 0xA4 c i refl refl n)))
      (λ a. by_cases (eqb h.ins 0xB0) (λ z. let i = eqb-true h.ins 0xB0 z in simp i (read-binary-early (unfit 0x00 0xB0 c i refl refl n)))
      (λ b. by_cases (eqb h.ins 0xB1) (λ z. false-true (sym (unfit 0x00 0xB1 c (eqb-true h.ins 0xB1 z) refl refl n)))
      (λ j. by_cases (eqb h.ins 0xD7) (λ z. false-true (sym (unfit 0x00 0xD7 c (eqb-true h.ins 0xD7 z) refl refl n)))
      (λ k. by_cases (eqb h.ins 0x44) (λ z. let i = eqb-true h.ins 0x44 z in simp i (activate-early (unfit 0x00 0x44 c i refl refl n)))
      (λ l. by_cases (eqb h.ins 0xE2) (λ z. let i = eqb-true h.ins 0xE2 z in simp i (append-early (unfit 0x00 0xE2 c i refl refl n)))
      (λ m. by_cases (eqb h.ins 0xB2) (λ z. let i = eqb-true h.ins 0xB2 z in simp i (read-record-early (unfit 0x00 0xB2 c i refl refl n)))
      (λ o. by_cases (eqb h.ins 0xA2) (λ z. let i = eqb-true h.ins 0xA2 z in simp i (search-early (unfit 0x00 0xA2 c i refl refl n)))
      (λ p. simp (a, b, j, k, l, m, o, p)))))))))

  -- CLA 80
  own-early : h.cla ≡ 0x80 → head_fits h ≡ false → by_own_ins img s f d ≡ Err (if_else (is_command 0x80 h.ins) wrong_parameters wrong_instruction)
  unfolding by_own_ins is_command parameters_fit
  own-early c n =
      by_cases (eqb h.ins 0x5E) (λ z. let i = eqb-true h.ins 0x5E z in simp i (fmm-early (unfit 0x80 0x5E c i refl refl n))) (λ a. simp a)

  pub early : head_fits h ≡ false → by_class img s f d ≡ Err (early_word h)
  unfolding by_class early_word
  early n =
      by_cases (eqb h.cla 0x00) (λ z. let c = eqb-true h.cla 0x00 z in simp c (iso-early c n))
      (λ a. by_cases (eqb h.cla 0x80) (λ z. let c = eqb-true h.cla 0x80 z in simp c (own-early c n)) (λ b. simp (a, b)))
