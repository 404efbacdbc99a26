-- What a move promises: the laws of the moved image, said of the target. Read ../specs/Promises.antt, section 7, before. Exports `move_done`,
-- `same`, `twice`.
use mathlib.Core.Path.{◌≡◌, sym, subst, ap, ◌∙◌}
use mathlib.Core.List.{List, ◌++◌}
use Prim.Native.Nat.{ℕ}
use lib.ListN.{length, drop}
use Rattle.store_move.specs.Moving.{moved, move_card, move_card_into}
use Rattle.store_move.proofs.Moves.{Accepted, move_card_facts}
use Rattle.store_move_laws.specs.Same.{heads}
use Rattle.store_move_laws.proofs.Laws.{moved-well_formed, moved-rooms, moved-files, moved-records, moved-state, moved-written, moved-content, moved-free, new_records, new_biometrics, same_sizes, same-moved, moved_twice, twice_moved, image_target, image-first}
use Rattle.promises.specs.Promises.{MovedCard, MoveDone, SameSizes, MoveTwice}
use Rattle.std.specs.Prelude.{Ok}

pub move_done : MoveDone
move_done old list t n e = subst (MovedCard old list t n) (sym (image-first old list t n e)) (go (move_card_facts old list (length t) n e))
  where
    go : Accepted old list (length t) n → MovedCard old list t n (moved old list)
    go g =
        record {
          whole = image_target old list t n e;
          size = g.is;
          well = moved-well_formed old list g;
          rooms = moved-rooms old list g;
          files = moved-files old list g;
          records = moved-records old list g;
          biometrics = λ k b h. (
            moved-state old list g k b h,
            moved-written old list g k b h,
            moved-content old list g k b h,
          );
          free = moved-free old list g;
          none = λ k b h. new_records old list g k h b;
          deactivated = λ k b h. new_biometrics old list g k h b;
        }

pub same : SameSizes
same old t o z h =
    let e = same-moved old o (length t) h in
    (e, image_target old (heads old) t (length old) e ∙ ap (λ (l : List ℕ). l ++ drop (length old) t) (same_sizes old o z))

pub twice : MoveTwice
twice old a b t u n m e f =
    let i = image-first old a t n e in
    let h : move_card (moved old a) b (length u) ≡ Ok m = ap (λ (l : List ℕ). move_card l b (length u)) (sym i) ∙ f in
    let g = move_card_facts old a (length t) n e in
    let q = move_card_facts (moved old a) b (length u) m h in
    let c = twice_moved old a b g q in (
      c,
      image_target old b u m c
          ∙ ap (λ (l : List ℕ). l ++ drop m u) (sym (moved_twice old a b g q))
          ∙ sym (image_target (moved old a) b u m h)
          ∙ ap (λ (l : List ℕ). move_card_into l b u) (sym i),
    )
