-- What is wrong with a run of bytes, told by the first extension at fault. Nothing here knows of a reader. Read before: Extensions.antt.
use Rattle.std.specs.Prelude.{ℕ, ◌≡◌, true, List, [], ◌++◌, length}
use Rattle.objects_extensions.specs.declared.Known.{Known}
use Rattle.objects_extensions.specs.declared.ExtensionFault.{ExtensionFault}
use Rattle.objects_extensions.specs.declared.ExtensionFault.TheVariants.{Malformed, Twice}
use Rattle.objects_extensions.specs.Extensions.{Extension, extension_data, Sayable, run_data, size_of, is_for, has_for, RightSize, FaultFree, RunOf}

-- the number of a fault: 7 for bad nesting or size, 8 for a known one for the second time [CE8] [C2]
abbrev pub extension_fault_number : ExtensionFault → ℕ
extension_fault_number Malformed = 7
extension_fault_number Twice = 8

-- it is known, and its rights have another size [CE8]
abbrev pub WrongSize : Extension → Type 0
WrongSize e = (k : Known) × (is_for k e ≡ true) × (length e.rights ≡ size_of k → ⊥)

-- it is known, and one of those before it has its identifier [CE8]
abbrev pub SecondTime : List Extension → Extension → Type 0
SecondTime before e = (k : Known) × (is_for k e ≡ true) × (has_for k before ≡ true)

-- an extension with this fault behind those before it: 7 comes before 8 [CE8]
pub data FaultOf (before : List Extension) (e : Extension) (w : ExtensionFault) : Type 0 where
  by_size : WrongSize e → w ≡ Malformed → FaultOf before e w
  by-repeat : RightSize e → SecondTime before e → w ≡ Twice → FaultOf before e w

-- the bytes begin with no whole extension [CE8]
abbrev pub NoExtension : List ℕ → Type 0
NoExtension s = (e : Extension) (rest : List ℕ) → Sayable e → s ≡ extension_data e ++ rest → ⊥

-- the run s has this fault: behind extensions without one stands an extension that has it, or stand bytes that begin with none [CE8]
pub data RunFault (s : List ℕ) (w : ExtensionFault) : Type 0 where
  at-extension : (es : List Extension) (e : Extension) (rest : List ℕ)
      → FaultFree [] es → Sayable e → s ≡ run_data es ++ (extension_data e ++ rest) → FaultOf es e w → RunFault s w
  at-bytes : (es : List Extension) (rest : List ℕ)
      → FaultFree [] es → s ≡ run_data es ++ rest → (rest ≡ [] → ⊥) → NoExtension rest → w ≡ Malformed → RunFault s w

-- three runs have this fault: it is that of the first that has one [CE9]
pub data ChainFault (first second third : List ℕ) (w : ExtensionFault) : Type 0 where
  in-first : RunFault first w → ChainFault first second third w
  in-second : (a : List Extension) → RunOf a first → RunFault second w → ChainFault first second third w
  in-third : (a b : List Extension) → RunOf a first → RunOf b second → RunFault third w → ChainFault first second third w
