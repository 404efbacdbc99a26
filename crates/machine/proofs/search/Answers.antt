-- `machine::search` meets its contract.
use Prim.Native.Nat.{ℕ}
use mathlib.Core.Path.{refl, sym, ap, ◌∙◌}
use mathlib.Core.List.{List}
use native.Mathlib.Omega.{arith}
use lib.ListN.{length, get_or}
use Rattle.objects_writer.proofs.Writings.{put_same}
use Rattle.machine_session.specs.Session.{placed}
use Rattle.machine_session.specs.declared.Place.TheVariants.{OnRecord}
use Rattle.machine_reply_search.specs.Found.{kept}
use Rattle.machine_record.specs.SearchRecord.{search_hits, search_status}
use Rattle.machine_record.proofs.Searched.{search_reply-same}
use Rattle.machine_answer.proofs.Saying.{says-only}
use Rattle.machine.proofs.Saying.{said, stored}
use Rattle.machine.proofs.Reaching.{records-first}
use Rattle.machine.proofs.Seeking.{hits-listed, reply-short, searched-refused, searched-found}
use Rattle.machine.proofs.search.Goals as goal

pub returns-then-found-ne-NORMAL : goal.returns-then-found-ne-NORMAL
returns-then-found-ne-NORMAL c = let a = c.args in let p = c.requires in let rs = records-first _ a.r p.0 p.2.0 c.body.ensures in let st = c.search_body-found.ensures.0 ∙ ap (λ (l : List (List ℕ)). search_status l a.«data».now a.q a.ne) rs in says-only _ _ _ _ refl refl c.status_only.ensures ∙ sym (searched-refused _ _ _ _ a.r a.q a.ne st c.if-found-ne-NORMAL.true)

pub overflow_cast-n : goal.overflow_cast-n
overflow_cast-n c = let a = c.args in let p = c.requires in let rs = records-first _ a.r p.0 p.2.0 c.body.ensures in let st = c.search_body-found.ensures.0 ∙ ap (λ (l : List (List ℕ)). search_status l a.«data».now a.q a.ne) rs in let hs = ap (λ (l : List (List ℕ)). search_hits l a.«data».now a.q) rs in let ns = hits-listed _ _ a.r a.q p.0 p.2.0 (c.search_body-found.ensures.1 ∙ ap length hs) (c.search_body-found.ensures.2 ∙ ap kept hs) in let m = reply-short _ _ a.r a.q p.0 p.2.0 p.2.1 in let g = search_reply-same _ _ a.q c.part-file.ensures ns in let e = stored _ _ m p.1 (put_same _ _ g c.put_found-n.ensures) in omega (arith, e.0, m)

pub returns : goal.returns
returns c = let a = c.args in let p = c.requires in let rs = records-first _ a.r p.0 p.2.0 c.body.ensures in let st = c.search_body-found.ensures.0 ∙ ap (λ (l : List (List ℕ)). search_status l a.«data».now a.q a.ne) rs in let hs = ap (λ (l : List (List ℕ)). search_hits l a.«data».now a.q) rs in let ns = hits-listed _ _ a.r a.q p.0 p.2.0 (c.search_body-found.ensures.1 ∙ ap length hs) (c.search_body-found.ensures.2 ∙ ap kept hs) in let m = reply-short _ _ a.r a.q p.0 p.2.0 p.2.1 in let g = search_reply-same _ _ a.q c.part-file.ensures ns in let t = c.placed.ensures ∙ ap (λ (k : ℕ). placed a.s (OnRecord a.r.id k)) (c.first-first.ensures ∙ ap (λ (x : List ℕ). get_or x 0 0) ns) in said 0x9000 _ _ _ _ m p.1 t (stored _ _ m p.1 (put_same _ _ g c.put_found-n.ensures)) c.status_behind.ensures ∙ sym (searched-found _ _ _ _ a.r a.q a.ne (sym c.if-found-ne-NORMAL.false ∙ st))
