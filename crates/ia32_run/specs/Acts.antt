-- What the code says of the machine's act at an address. The project's own.
use Rattle.std.specs.Prelude.{◌≡◌, ℕ, Option, Some, None, slice_get}
use Rattle.image_map.specs.declared.region.Kind.{Kind}
use Rattle.image_map.specs.declared.region.Settings.{Settings}
use Rattle.image_map.specs.CallModel.{IsKind}
use Rattle.ia32_semantics.specs.Step.{Act, Executes, Answers}
use Rattle.ia32_run.specs.declared.acts.Act as code
use Rattle.ia32_run.specs.declared.acts.Act.TheVariants as act

-- the act that is meant at an address
abbrev pub act_of : ℕ → code.Act → Act
act_of at (act.Executes i) = Executes i
act_of at (act.Answers k) = Answers at k

abbrev pub act_meant : ℕ → Option code.Act → Option Act
act_meant at None = None
act_meant at (Some a) = Some (act_of at a)

-- an extern's kind is a kind
abbrev pub IsKnown : code.Act → Type 0
IsKnown (act.Executes i) = Unit {0}
IsKnown (act.Answers k) = IsKind k

-- and so is each of the settings
abbrev pub AreKnown : Settings → Type 0
AreKnown settings = (n : ℕ) (k : Kind) → slice_get settings.kinds n ≡ Some k → IsKind k
