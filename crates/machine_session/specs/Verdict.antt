-- Whether a call is accepted, or which refusal it gets.
use Rattle.std.specs.Prelude.{ℕ, Bool, List, length, ltb, eqb, Result, Ok, Err}
use Rattle.base.specs.Choice.{if_else}
use Rattle.store_image.specs.Image.{well_formed}
use Rattle.machine_session.specs.declared.Refusal.{Refusal}
use Rattle.machine_session.specs.declared.Refusal.TheVariants.{ShortBuffer, BadImage, BadRights, BadSession}

-- the number of a refusal [U5] [C2]
unfoldable pub refusal_number : Refusal → ℕ
refusal_number ShortBuffer = 1
refusal_number BadImage = 2
refusal_number BadRights = 3
refusal_number BadSession = 4

-- the number of a verdict: 0 where the call is accepted [U5] [C2]
unfoldable pub verdict_number : Result (Unit {0}) Refusal → ℕ
verdict_number (Ok tt) = 0
verdict_number (Err r) = refusal_number r

-- a command with a response buffer of n bytes: the buffer, the image, whether the session fits it [U1] [U2] [U4] [U5]
unfoldable pub verdict : List ℕ → Bool → ℕ → Result (Unit {0}) Refusal
verdict img fits n =
    if_else (ltb n 2050) (Err ShortBuffer) (if_else (well_formed img) (if_else fits (Ok tt) (Err BadSession)) (Err BadImage))

-- an opening: the rights of three certificates are 60 bytes [U3] [U5]
unfoldable pub open_verdict : List ℕ → Result (Unit {0}) Refusal
open_verdict c = if_else (eqb (length c) 60) (Ok tt) (Err BadRights)
