-- An opening answers nothing, and is refused for anything but 60 bytes. Read ../specs/Promises.antt, section 1, before. Exports
-- `zeros`, `opening-opened`.
use mathlib.Core.Path.{◌≡◌, refl, sym, ap, ◌∙◌}
use mathlib.Core.Bool.{Bool}
use mathlib.Core.List.{[], ◌∷◌, Memᴰ}
use lib.ListN.{length, replicate}
use lib.Dec.{eqb}
use borrow.Author.Tests.{eq-eqb, ne_eqb}
use Rattle.base.specs.Choice.{if_else}
use Rattle.base.proofs.Cases.{if_else_ind}
use Rattle.machine_rights.specs.Rights.{bit}
use Rattle.machine_rights.specs.Chain.{certificate, joined_bytes, joined, cleared_bytes, cleared, no_rights, effective}
use Rattle.machine_rights.specs.declared.Rights.{Rights}
use Rattle.machine_session.specs.Verdict.{refusal_number, verdict_number, open_verdict}
use Rattle.machine_session.specs.Session.{opened}
use Rattle.machine_session.specs.declared.Refusal.TheVariants.{BadRights}
use Rattle.machine_session.specs.declared.Place.TheVariants.{Nowhere}
use Rattle.machine.specs.Step.{opening}
use Rattle.promises.specs.Promises.{Opens}
use Rattle.std.specs.Prelude.{Result, Ok, Err}
use Rattle.machine_session.specs.declared.Refusal.{Refusal}

-- 60 zero bytes open with no rights
pub zeros : effective (replicate 60 0) ≡ no_rights
unfolding effective no_rights certificate joined joined_bytes cleared cleared_bytes bit
zeros = refl

pub opening-opened : Opens
unfolding opening open_verdict opened verdict_number refusal_number effective
opening-opened c =
    record {
      nothing = (refl, refl);
      number = if_else_ind (λ (x : Result (Unit {0}) Refusal). Memᴰ (verdict_number x) (0 ∷ 3 ∷ [])) (eqb (length c) 60)
          (λ _. Memᴰ.head refl)
          (λ _. Memᴰ.tail (Memᴰ.head refl));
      taken = λ e. (ap (λ (b : Bool). verdict_number (if_else b (Ok tt) (Err BadRights))) (eq-eqb _ _ e), refl);
      refused = λ n. let f = ne_eqb (length c) 60 n in (
        ap (λ (b : Bool). verdict_number (if_else b (Ok tt) (Err BadRights))) f,
        ap (λ (r : Rights). record { rights = r; application = 0; place = Nowhere })
            (ap (λ (b : Bool). if_else b (cleared (joined (joined (certificate c 0) (certificate c 1)) (certificate c 2))) no_rights) f ∙ sym zeros),
      );
    }
