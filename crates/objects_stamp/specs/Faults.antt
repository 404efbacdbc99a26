-- What is wrong with a record: every fault of every object whose place can be told, the first and the others.
use Rattle.std.specs.Prelude.{ℕ, suc, ◌+◌, ◌≤◌, ◌<◌, ◌≡◌, List, Bool, true, false, ◌⊎◌, length, take, drop, Ok, Err}
use Rattle.objects_reader.specs.Head.{head_of, Head}
use Rattle.objects_reader.specs.Form.{Form, done, plain, maybe, nested, of_size}
use Rattle.objects_reader.specs.Encoding.{leaf_count}
use Rattle.objects_reader.specs.declared.head.HeadFault.TheVariants.{NoTag, NoLength}
use Rattle.objects_stamp.specs.declared.Reason.{Reason}
use Rattle.objects_stamp.specs.declared.Reason.TheVariants.{WrongTag, WrongLength, WrongContent}
use Rattle.objects_stamp.specs.Rules.{stamp_form, content_ok}

-- the number of a reason: tag, length, content [TR9] [C2]
abbrev pub reason_number : Reason → ℕ
reason_number WrongTag = 1
reason_number WrongLength = 2
reason_number WrongContent = 3

-- what is wrong: `F r p` says that something is, for the reason r, with the object at the place p [TR7]
abbrev pub Faults : Type 1
Faults = Reason → ℕ → Type 0

-- this reason, at this place, and no other [TR7]
abbrev pub OnlyAt : Reason → ℕ → Faults
OnlyAt a at r p = (r ≡ a) × (p ≡ at)

-- A field that should stand at `at`: its tag does not, or it has no length that can be read, and then what follows cannot be told; or it
-- stands there, and its size can be wrong, its content, and what follows. [TR7]
abbrev pub FieldFaults : Head → (lo hi at : ℕ) → (content : ℕ → ℕ → Bool) → (behind : ℕ → Faults) → (missing : Faults) → Faults
FieldFaults (Err NoTag) lo hi at content behind missing r p = missing r p
FieldFaults (Err NoLength) lo hi at content behind missing r p = OnlyAt WrongLength at r p
FieldFaults (Ok (start, len)) lo hi at content behind missing r p =
    ((of_size lo hi len true false ≡ false) × OnlyAt WrongLength at r p)
    ⊎ (((content (at + start) len ≡ false) × OnlyAt WrongContent at r p)
    ⊎ behind (start + len) r p)

-- an object of objects: what is wrong inside, and what is wrong behind [TR7]
abbrev pub NestFaults : Head → (at : ℕ) → (within : ℕ → ℕ → Faults) → (behind : ℕ → Faults) → Faults
NestFaults (Err NoTag) at within behind r p = OnlyAt WrongTag at r p
NestFaults (Err NoLength) at within behind r p = OnlyAt WrongLength at r p
NestFaults (Ok (start, len)) at within behind r p = within start len r p ⊎ behind (start + len) r p

-- What is wrong with s, which starts at `at` in the record and whose first field is the k-th of the table. Behind the last object nothing may
-- stand. `ok k start len` says whether the k-th field may have the len bytes from start on for its content. [TR7]
unfoldable pub FormFaults : (ok : ℕ → ℕ → ℕ → Bool) → Form → (k at : ℕ) → List ℕ → Faults
FormFaults ok done k at s r p = (1 ≤ length s) × OnlyAt WrongTag at r p
FormFaults ok (plain tag lo hi f) k at s r p =
    FieldFaults (head_of tag s) lo hi at (ok k) (λ n. FormFaults ok f (suc k) (at + n) (drop n s)) (OnlyAt WrongTag at) r p
FormFaults ok (maybe tag lo hi f) k at s r p =
    FieldFaults (head_of tag s) lo hi at (ok k) (λ n. FormFaults ok f (suc k) (at + n) (drop n s)) (FormFaults ok f (suc k) at s) r p
FormFaults ok (nested tag g f) k at s r p =
    NestFaults (head_of tag s) at (λ start len. FormFaults ok g k (at + start) (take len (drop start s))) (λ n. FormFaults ok f (k + leaf_count g) (at + n) (drop n s)) r p

-- with a record, by Table 11 [TR7]
abbrev pub StampFaults : List ℕ → Faults
StampFaults s = FormFaults (content_ok s) stamp_form 0 0 s

-- nothing is wrong [TR8]
abbrev pub NoFault : Faults → Type 0
NoFault F = (r : Reason) (p : ℕ) → F r p → ⊥

-- r at p is one of the faults, and every other one stands behind it or, at the same place, has no smaller number [TR8]
abbrev pub FirstOf : Faults → Reason → ℕ → Type 0
FirstOf F r p = F r p × ((r' : Reason) (p' : ℕ) → F r' p' → (p < p') ⊎ ((p ≡ p') × (reason_number r ≤ reason_number r')))
