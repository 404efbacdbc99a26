-- What a call answers: data, then SW1 SW2, from the start of the response buffer on; the length counts both.
use Rattle.std.specs.Prelude.{ℕ, ◌+◌, ◌/◌, ◌%◌, List, [], ◌∷◌, ◌++◌, length, Ok, Err}
use Rattle.base.specs.Bytes.{put}
use Rattle.machine_session.specs.declared.Session.{Session}
use Rattle.machine_session.specs.declared.Refusal.{Refusal}
use Rattle.machine_answer.specs.declared.Answer.{Answer}

-- an answer, and every byte of image and response buffer afterwards [U8]
pub record Outcome : Type 0 where
  pub answer : Answer
  pub image : List ℕ
  pub buffer : List ℕ

-- [U8]
abbrev pub outcome : Answer → List ℕ → List ℕ → Outcome
outcome a img buf = record { answer = a; image = img; buffer = buf }

-- SW1 SW2 [U8]
unfoldable pub word : ℕ → List ℕ
word w = w / 256 % 256 ∷ w % 256 ∷ []

-- an accepted command's answer with n bytes of data [U8]
abbrev pub answered : ℕ → ℕ → Session → Answer
answered n w s = record { verdict = (Ok tt); length = n + 2; status = w; session = s }

-- a refused call: length 0, status 0 and the session as it came [U6] [U7]
abbrev pub refused : Refusal → Session → Answer
refused r s = record { verdict = Err r; length = 0; status = 0; session = s }

-- a status word with data [U8]
unfoldable pub says : ℕ → List ℕ → Session → List ℕ → List ℕ → Outcome
says w dat s img buf = outcome (answered (length dat) w s) img (put buf 0 (dat ++ word w))
