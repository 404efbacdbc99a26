-- A file's body that is lent to a function and comes back as f of it: what `make_stores` and `update` share.
-- Read before: specs/Image.antt. Exports: `Lent` (what the caller is told, and the image afterwards), `lent_missing`, `lent_found`.
use Prim.Native.Nat.{ℕ, ◌+◌, ◌-◌}
use mathlib.Core.Path.{◌≡◌, sym, ap, ◌∙◌}
use mathlib.Core.List.{List, [], ◌++◌}
use lib.ListN.{length, take, drop}
use Rattle.base.specs.Bytes.{part}
use Rattle.store_image.specs.Image.{find, body, with_body}
use Rattle.store_image.proofs.Files.{body_missing, with_body_missing, body_lent, with_body_lent}
use Rattle.std.specs.Prelude.{Some, None}

module _ {A : Type 0} (img : List ℕ) (k : ℕ) (told : List ℕ → A) (f : List ℕ → List ℕ) where
  abbrev pub Lent : A → List ℕ → Type 0
  Lent r after = (r ≡ told (body img k)) × (after ≡ with_body img k (f (body img k)))

  pub lent_missing : (r : A) → find img k ≡ None → told [] ≡ r → Lent r img
  lent_missing r e t = (sym (ap told (body_missing img k e) ∙ t), with_body_missing img k e (f (body img k)))

  pub lent_found : (s n : ℕ) (r : A) (last : List ℕ) → find img k ≡ Some (s, n) → ((xs : List ℕ) → length (f xs) ≡ length xs)
      → r ≡ told (part img s (s + n - s)) → last ≡ f (part img s (s + n - s))
      → Lent r (take s img ++ (last ++ drop (s + n - s) (drop s img)))
  lent_found s n r last e same a b = (a ∙ ap told (body_lent img k s n e), with_body_lent img k s n e f last same b)
