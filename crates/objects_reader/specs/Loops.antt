-- Not to be believed: only contracts of private functions and proofs cite this.
-- One step of the reader, as the code goes along the rows of a form.
use Rattle.std.specs.Prelude.{ℕ, List, length, ltb, eqb, Ok, Err}
use Rattle.base.specs.Choice.{if_else}
use Rattle.objects_reader.specs.Head.{Head, head_of}
use Rattle.objects_reader.specs.declared.head.HeadFault.TheVariants.{NoTag, NoLength}
use Rattle.objects_reader.specs.declared.reader.Fault.TheVariants.{Tag, Length, Depth}
use Rattle.objects_reader.specs.declared.reader.Step.{Step}
use Rattle.objects_reader.specs.declared.reader.Step.TheVariants.{Done, Absent, Bad, Plain, Nested}
use Rattle.objects_reader.specs.Form.{col, cut_of, of_size}

-- a value of len bytes from start on, by the first row
abbrev pub value_step : List (List ℕ) → ℕ → ℕ → Step
value_step rows start len =
    if_else (eqb (col rows 1) 0) (of_size (col rows 3) (col rows 4) len (Plain start len) (Bad Length)) (Nested start len (cut_of rows))

-- no object of the first row's tag
abbrev pub missing_of : List (List ℕ) → Step
missing_of rows = if_else (eqb (col rows 1) 0) (if_else (eqb (col rows 2) 0) Absent (Bad Tag)) (Bad Tag)

-- what the head found makes of the first row
abbrev pub step_at : Head → List (List ℕ) → Step
step_at (Ok (start, len)) rows = value_step rows start len
step_at (Err NoTag) rows = missing_of rows
step_at (Err NoLength) rows = Bad Length

-- what stands first in s: where no row is left nothing may stand there, nothing stands deeper than the depth, else the first row says it
unfoldable pub first_object : List (List ℕ) → ℕ → List ℕ → Step
first_object rows d s =
    if_else (ltb (length rows) 1)
    (if_else (eqb (length s) 0) Done (Bad Tag))
    (if_else (eqb d 0) (Bad Depth) (step_at (head_of (col rows 0) s) rows))
