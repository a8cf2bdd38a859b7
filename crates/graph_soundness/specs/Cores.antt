-- What the sets of a node say of registers and flags, in the words of an occurrence there. The project's own.
use Rattle.std.specs.Prelude.{◌≡◌, ℕ, ◌+◌, ◌<◌, true, List, ◌++◌, Contains}
use Rattle.ia32_semantics.specs.Machine.{Occurrence}
use Rattle.ia32_semantics.specs.State.{Location, InRegister, InFlag, AtByte}
use Rattle.ia32_semantics.specs.Step.{Act, reads as step_reads, writes as step_writes}
use Rattle.abs_semantics.specs.States.{AbsState}
use Rattle.abs_steps.specs.Places.{Content}
use Rattle.access_facts.specs.Cores.{registers_used, registers_defined, registers_always, flags_used, flags_defined, flags_always}
use Rattle.access_facts.specs.Places.{register_places, flag_places}

-- the places of registers and flags that the node may use, may define, and must define
abbrev pub core_used : Content → List ℕ
core_used content = register_places (registers_used content) ++ flag_places (flags_used content)

abbrev pub core_defined : Content → List ℕ
core_defined content = register_places (registers_defined content) ++ flag_places (flags_defined content)

abbrev pub core_always : AbsState → Content → List ℕ
core_always a content = register_places (registers_always a content) ++ flag_places (flags_always content)

-- the location is the register or the flag with this place
abbrev pub IsCore : Location → ℕ → Type 0
IsCore (InRegister n) place = (n < 8) × (place ≡ n)
IsCore (InFlag n) place = (n < 6) × (place ≡ n + 8)
IsCore (AtByte a) place = ⊥

-- What the occurrence reads and writes of registers and flags is in the sets of what stands there, and what must be defined is written.
pub record KeepsCores (a : AbsState) (content : Content) (o : Occurrence Act) : Type 0 where
  pub used : (l : Location) (place : ℕ) → IsCore l place → step_reads o l ≡ true → Contains (core_used content) place
  pub defined : (l : Location) (place : ℕ) → IsCore l place → step_writes o l ≡ true → Contains (core_defined content) place
  pub always : (l : Location) (place : ℕ) → IsCore l place → Contains (core_always a content) place → step_writes o l ≡ true
