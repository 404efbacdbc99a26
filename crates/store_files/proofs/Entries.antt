-- Laws of EF.DIR's entries, as the code stores them one behind the other. Read specs/Master.antt before. Exports
-- `entry-some` for one entry, `dir-start`, `dir-turn` and `dir_end` for the loop over the applications.
use Prim.Native.Nat.{ℕ, zero, suc, ◌+◌, ◌*◌, ◌≤◌}
use mathlib.Core.Path.{◌≡◌, refl, sym, ap, ap₂, ◌∙◌}
use mathlib.Core.Bool.{true}
use mathlib.Core.List.{List, ◌++◌}
use native.Mathlib.Omega.{arith}
use native.Mathlib.Nat.{zero-add}
use native.Mathlib.Numerals.{add-one}
use lib.ListN.{length, take, replicate, length-append}
use lib.Seq.{sets}
use Rattle.base.specs.Bytes.{put}
use Rattle.base.proofs.Cases.{by_cases}
use Rattle.base.proofs.Runs.{put_accepted, part-sets, sets-append}
use Rattle.store_image.specs.Image.{present}
use Rattle.store_files.specs.Master.{aid_prefix, aid, entry, entry_of, entries, dir}

-- an application's entry as the code stores it
module _ (img out : List ℕ) (a at : ℕ) where
  pub entry-some : (b last : List ℕ) → present img a ≡ true → at + 11 ≤ length out → b ≡ entry 0x20 a → last ≡ put out at b
      → (at + 11 ≡ at + length (entry_of img a)) × (last ≡ sets out at (entry_of img a))
  unfolding entry_of entry aid aid_prefix
  entry-some b last e h f q = simp e (refl, q ∙ ap (put out at) f ∙ put_accepted out at _ h)

pub entry_length : (img : List ℕ) (a : ℕ) → length (entry_of img a) ≤ 11
unfolding entry_of entry aid aid_prefix
entry_length img a = by_cases (present img a) (λ e. simp e (omega arith)) (λ e. simp e (omega arith))

pub entries-length : (img : List ℕ) (n : ℕ) → length (entries img n) ≤ 11 + 11 * n
unfolding entries entry aid aid_prefix
entries-length img zero = omega arith
entries-length img (suc n) =
    omega (arith, length-append (entries img n) (entry_of img (suc n)), entries-length img n, entry_length img (suc n))

-- ---- EF.DIR as the code fills it

abbrev pub empty : List ℕ
empty = replicate 44 0

pub dir-start : (img b last : List ℕ) → b ≡ entry 0x10 0x01 → last ≡ put empty 0 b → last ≡ sets empty 0 (entries img 0)
unfolding entries entry aid aid_prefix
dir-start img b last f e = e ∙ ap (put empty 0) f ∙ put_accepted empty 0 _ (omega arith)

-- the entries of the applications before a stand there, n of them; then those up to a do
pub dir-turn : (img bytes last : List ℕ) (at r n a m : ℕ) → n + 1 ≡ a → n + 1 ≡ m → bytes ≡ sets empty 0 (entries img n)
    → at ≡ length (entries img n) → r ≡ at + length (entry_of img a) → last ≡ sets bytes at (entry_of img a)
    → (last ≡ sets empty 0 (entries img m)) × (r ≡ length (entries img m))
unfolding entries
dir-turn img bytes last at r n a m ea em e f g' h' =
    let g : r ≡ at + length (entry_of img (n + 1)) = rw ea g' in
    let h : last ≡ sets bytes at (entry_of img (n + 1)) = rw ea h' in
    rw (← em)
    (let E : List ℕ = entries img n in
    let one : entries img (n + 1) ≡ E ++ entry_of img (n + 1) = rw add-one in (
      h
          ∙ ap₂ (λ (b : List ℕ) (k : ℕ). sets b k (entry_of img (n + 1))) e f
          ∙ sym (ap (sets empty 0) one ∙ sets-append empty 0 E (entry_of img (n + 1)) ∙ ap (λ (k : ℕ). sets (sets empty 0 E) k (entry_of img (n + 1))) (zero-add (length E))),
      g ∙ ap (λ (k : ℕ). k + length (entry_of img (n + 1))) f ∙ sym (ap length one ∙ length-append E (entry_of img (n + 1))),
    ))

pub dir_end : (img bytes : List ℕ) (at n : ℕ) → 3 ≤ n → n ≤ 3 → bytes ≡ sets empty 0 (entries img n) → at ≡ length (entries img n) → (take at bytes ≡ dir img) × (at ≡ length (dir img))
unfolding dir
dir_end img bytes at n h k e f =
    let three : n ≡ 3 = omega arith in
    let E : List ℕ = entries img 3 in
    let l : at ≡ length E = f ∙ ap (λ (m : ℕ). length (entries img m)) three in
    (ap₂ take l (e ∙ ap (λ (m : ℕ). sets empty 0 (entries img m)) three) ∙ part-sets empty 0 E (let m = entries-length img 3 in omega arith), l)
