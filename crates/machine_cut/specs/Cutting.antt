-- A command that is cut: how many stores it has, and what the first of them leave of the image.
use Rattle.std.specs.Prelude.{ℕ, List, length, Option, Some, None, Result, Ok, Err}
use Rattle.store_kinds.specs.Rules.{biometrics_kind}
use Rattle.store_cut.specs.declared.Writing.TheVariants.{Record, State}
use Rattle.store_image.specs.Image.{stores_in, make_stores_in}
use Rattle.machine_session.specs.declared.Session.{Session}
use Rattle.machine_chain.specs.Chain.{Chain}
use Rattle.machine_chain.specs.Layout.{chain_in}
use Rattle.machine_action.specs.declared.Action.{Action}
use Rattle.machine_action.specs.declared.Action.TheVariants.{SelectApplication, SelectFile, ReadBinary, UpdateBinary, Activate, AppendRecord, ReadRecord, SearchRecord, Report, ReadBinaryOdd}
use Rattle.machine_dispatch.specs.Decide.{data_of, decide}
use Rattle.machine.specs.Step.{verdict_on}
use Rattle.machine.specs.Lent.{verdict_lent}
use Rattle.machine_cut.specs.declared.CutAnswer.{CutAnswer}
use Rattle.machine_session.specs.declared.Refusal.{Refusal}
use Rattle.store_cut.specs.declared.Writing.{Writing}

-- what an action stores: APPEND RECORD a record, ACTIVATE a state, others nothing [CU5]
abbrev pub storing : Result Action ℕ → Option (ℕ × Writing)
storing (Err w) = None
storing (Ok (SelectApplication a)) = None
storing (Ok (SelectFile f)) = None
storing (Ok (ReadBinary t o n)) = None
storing (Ok (UpdateBinary n w)) = None
storing (Ok (Activate n)) = Some (biometrics_kind n, State)
storing (Ok (AppendRecord r)) = Some (r.kind, Record)
storing (Ok (ReadRecord r a b)) = None
storing (Ok (SearchRecord r q ne)) = None
storing (Ok (Report f p2)) = None
storing (Ok (ReadBinaryOdd t o n)) = None

-- how many stores that has, where d is the command's data field [CU5]
abbrev pub cut_stores : Option (ℕ × Writing) → List ℕ → List ℕ → ℕ
cut_stores (Some (k, w)) img d = length (stores_in img k w d)
cut_stores None img d = 0

-- the image after the first n of them [CU5]
abbrev pub cut_image : ℕ → Option (ℕ × Writing) → List ℕ → List ℕ → List ℕ
cut_image n (Some (k, w)) img d = make_stores_in n img k w d
cut_image n None img d = img

-- what a cut answers, and every byte of the image afterwards [CU5]
pub record CutOutcome : Type 0 where
  pub answer : CutAnswer
  pub image : List ℕ

-- [CU5]
abbrev pub cut_outcome : CutAnswer → List ℕ → CutOutcome
cut_outcome a img = record { answer = a; image = img }

-- a refusal touches nothing [CU6]
abbrev pub cut_by : Result (Unit {0}) Refusal → List ℕ → Session → Chain → List ℕ → ℕ → CutOutcome
cut_by (Ok tt) img s ch cmd n =
    let t = storing (decide img s ch cmd) in
    cut_outcome (record { verdict = (Ok tt); stores = cut_stores t img (data_of ch cmd) }) (cut_image n t img (data_of ch cmd))
cut_by (Err r) img s ch cmd n = cut_outcome (record { verdict = Err r; stores = 0 }) img

-- a command that is cut behind its first n stores, judged as one whose response buffer is long enough. Behind a chain it has the stores of the
-- join; a link but the last has none [CU6] [CU9]
unfoldable pub cut : List ℕ → Session → Chain → List ℕ → ℕ → CutOutcome
cut img s ch cmd n = cut_by (verdict_on img s ch 2050) img s ch cmd n

-- the same, where the chain stands in the bytes xs [CU9] [LK2]
unfoldable pub cut_lent : List ℕ → Session → List ℕ → List ℕ → ℕ → CutOutcome
cut_lent img s xs cmd n = cut_by (verdict_lent img s xs 2050) img s (chain_in xs) cmd n
