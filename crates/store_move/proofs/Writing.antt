-- The target while the new image is written: the sections of the first rows, and behind them the target as it was.
-- Read before: specs/Moving.antt. Exports: `section-written` (one section), `Turn`, `turn` (a turn of the loop), `write_start`, `write_end`,
-- `write_size`.
use Prim.Native.Nat.{ℕ, ◌+◌, ◌-◌, ◌*◌, ◌≤◌, ◌<◌}
use mathlib.Core.Path.{◌≡◌, refl, sym, ap, ap₂, ◌∙◌}
use mathlib.Core.Bool.{true}
use mathlib.Core.List.{List, [], ◌++◌, append-nil, append_assoc}
use native.Mathlib.Omega.{arith}
use native.Mathlib.Numerals.{add-one}
use lib.ListN.{length, take, drop, length-append, length-drop, drop_of_length-le}
use lib.Seq.{sets-eq, take_at, drop_at, drop-drop}
use Rattle.base.specs.Bytes.{part, put}
use Rattle.base.proofs.Parts.{length_part}
use Rattle.base.proofs.Runs.{put_accepted, put-behind}
use Rattle.store_move_plan.specs.Rooms.{rows, row_room, row_kind, zeros, filled, section, sections, laid}
use Rattle.store_move_plan.proofs.Rows.{place_next, end_inside}
use Rattle.store_move.specs.Moving.{content, moved, roomy}
use Rattle.store_move.proofs.Fitting.{roomy-at}

-- ---- one section, which was s: a with the head in it, b with the content too, and z where the rest is cleared

module _ (s head c a b z : List ℕ) (six : length head ≡ 6) (fits : 6 + length c ≤ length s) (ea : a ≡ put s 0 head) (eb : b ≡ put a 6 c) where
  abbrev front : List ℕ
  front = head ++ c

  front_length : length front ≡ 6 + length c
  front_length = length-append head c ∙ ap (λ (n : ℕ). n + length c) six

  both : b ≡ front ++ drop (6 + length c) s
  both =
      let l = front_length in
      let e : 6 ≡ 0 + length head = omega arith in
      eb
      ∙ ap₂ (λ (x : List ℕ) (n : ℕ). put x n c) ea e
      ∙ put-behind s 0 head c (omega arith)
      ∙ put_accepted s 0 front (omega arith)
      ∙ sets-eq front s 0 (omega arith)
      ∙ ap (λ (n : ℕ). front ++ drop n s) (let q : 0 + length front ≡ 6 + length c = omega arith in q)

  pub both_length : length b ≡ length s
  both_length = ap length both ∙ length-append front (drop (6 + length c) s) ∙ (let d = length-drop (6 + length c) s in omega (arith, front_length))

  behind : drop (6 + length c) b ≡ drop (6 + length c) s
  behind = ap (drop (6 + length c)) both ∙ drop_at front (drop (6 + length c) s) (6 + length c) front_length

  pub section-written : z ≡ zeros (length (part b (6 + length c) (length b - (6 + length c))))
      → take (6 + length c) b ++ (z ++ drop (length b - (6 + length c)) (drop (6 + length c) b)) ≡ head ++ filled (length s - 6) c
  unfolding filled
  section-written ez =
      let n : ℕ = 6 + length c in
      let room : length (part b n (length b - n)) ≡ length s - 6 - length c = length_part b n (length b - n) (omega (arith, both_length)) ∙ omega (arith, both_length) in
      let none : drop (length b - n) (drop n b) ≡ [] = drop_of_length-le (drop n b) {i = length b - n} (let d = length-drop n b in omega arith) in
      ap₂ (λ (x y : List ℕ). x ++ y)
      (ap (take n) both ∙ take_at front (drop n s) n front_length)
      (ap₂ (λ (x y : List ℕ). x ++ y) (ez ∙ ap zeros room) none ∙ append-nil (zeros (length s - 6 - length c)))
      ∙ append_assoc head c (zeros (length s - 6 - length c))

-- ---- the whole image

-- a turn of the loop, at row i: the target is t and was t₀, the place of the row's section is p, the length of its room l
pub record Turn (old list t₀ t : List ℕ) (i p l : ℕ) : Type 0 where
  pub fits : length (content old (row_kind list i)) ≤ l
  pub next_place : p + 6 + l ≡ length (sections (content old) list (i + 1))
  pub inside : p + 6 + l ≤ length t₀
  pub size : length t ≡ length t₀
  pub part-size : length (part t p (p + 6 + l - p)) ≡ 6 + l
  -- as the code has its head and its content, and the section that came back
  pub written : (head c sec : List ℕ) → head ≡ part list (6 * i) 6 → c ≡ content old (row_kind list i)
      → sec ≡ head ++ filled (length (part t p (p + 6 + l - p)) - 6) c
      → take p t ++ (sec ++ drop (p + 6 + l - p) (drop p t)) ≡ sections (content old) list (i + 1) ++ drop (length (sections (content old) list (i + 1))) t₀

module _ (old list t₀ : List ℕ) (fit : roomy old list ≡ true) (long : length (moved old list) ≤ length t₀) where
  -- the sections of the first i rows
  abbrev pub ready : ℕ → List ℕ
  ready i = sections (content old) list i

  pub write_start : t₀ ≡ ready 0 ++ drop (length (ready 0)) t₀
  unfolding sections
  write_start = refl

  pub write_end : (t : List ℕ) (i : ℕ) → i ≡ rows list → t ≡ ready i ++ drop (length (ready i)) t₀ → t ≡ moved old list ++ drop (length (moved old list)) t₀
  unfolding moved laid
  write_end t i e w = rw e at w

  pub write_size : (t : List ℕ) (i : ℕ) → i ≡ rows list → t ≡ ready i ++ drop (length (ready i)) t₀ → length t ≡ length t₀
  write_size t i e w =
      ap length (write_end t i e w) ∙ length-append (moved old list) (drop (length (moved old list)) t₀) ∙ (let d = length-drop (length (moved old list)) t₀ in omega arith)

  -- row i
  module _ (i p l : ℕ) (t : List ℕ) (h : i < rows list) (w : t ≡ ready i ++ drop (length (ready i)) t₀) (ep : p ≡ length (ready i)) (el : l ≡ row_room list i) where
    room_fits : length (content old (row_kind list i)) ≤ l
    room_fits = rw el (roomy-at old list fit i h)

    ready-next : p + 6 + l ≡ length (ready (i + 1))
    ready-next = omega (arith, place_next (content old) list i h (roomy-at old list fit i h))

    end-in : p + 6 + l ≤ length t₀
    unfolding moved
    end-in = omega (arith, ready-next, end_inside (content old) list i h (roomy-at old list fit i h))

    same_size : length t ≡ length t₀
    same_size =
        ap length w ∙ length-append (ready i) (drop (length (ready i)) t₀) ∙ (let d = length-drop (length (ready i)) t₀ in omega (arith, end-in))

    as_long : length (part t p (p + 6 + l - p)) ≡ 6 + l
    as_long = length_part t p (p + 6 + l - p) (omega (arith, end-in, same_size)) ∙ omega arith

    write-next : (head c sec : List ℕ) → head ≡ part list (6 * i) 6 → c ≡ content old (row_kind list i)
        → sec ≡ head ++ filled (length (part t p (p + 6 + l - p)) - 6) c
        → take p t ++ (sec ++ drop (p + 6 + l - p) (drop p t)) ≡ ready (i + 1) ++ drop (length (ready (i + 1))) t₀
    unfolding sections section
    write-next head c sec eh ec es =
        let room : length (part t p (p + 6 + l - p)) - 6 ≡ row_room list i = omega (arith, as_long) in
        let s : sec ≡ section (content old) list i = es ∙ ap₂ (λ (x y : List ℕ). x ++ y) eh (ap₂ filled room ec) in
        let front : take p t ≡ ready i = ap (take p) w ∙ take_at (ready i) (drop (length (ready i)) t₀) p (sym ep) in
        let back : drop p t ≡ drop (length (ready i)) t₀ = ap (drop p) w ∙ drop_at (ready i) (drop (length (ready i)) t₀) p (sym ep) in
        let far : length (ready i) + (p + 6 + l - p) ≡ length (ready (i + 1)) = omega (arith, ready-next) in
        let tail : drop (p + 6 + l - p) (drop p t) ≡ drop (length (ready (i + 1))) t₀ =
        ap (drop (p + 6 + l - p)) back ∙ drop-drop (p + 6 + l - p) (length (ready i)) t₀ ∙ ap (λ (n : ℕ). drop n t₀) far in
        ap₂ (λ (x y : List ℕ). x ++ y) front (ap₂ (λ (x y : List ℕ). x ++ y) s tail)
        ∙ sym (append_assoc (ready i) (section (content old) list i) (drop (length (ready (i + 1))) t₀))
        ∙ ap (λ (n : ℕ). sections (content old) list n ++ drop (length (ready (i + 1))) t₀) (sym (add-one i))

    pub turn : Turn old list t₀ t i p l
    turn = record { fits = room_fits; next_place = ready-next; inside = end-in; size = same_size; part-size = as_long; written = write-next }
