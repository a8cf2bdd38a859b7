-- The registers and flags of a node as sets. The project's own.
use Rattle.std.specs.Prelude.{◌≡◌, Bool, true, false, [], ◌∷◌}
use Rattle.image_map.specs.declared.region.Kind.{Kind}
use Rattle.image_map.specs.declared.region.Kind.TheVariants as kind
use Rattle.ia32_types.specs.declared.Reg.TheVariants.{Eax, Ecx, Edx, Esp}
use Rattle.ia32_types.specs.Places.{arithmetic_flags}
use Rattle.ia32_types.specs.Sets.{HasRegs, HasFlags}
use Rattle.abs_semantics.specs.States.{AbsState}
use Rattle.abs_steps.specs.Places.{Content}
use Rattle.access_facts.specs.declared.core_sets.CoreSets.{CoreSets}
use Rattle.access_facts.specs.Cores as core

-- the sets are those of what stands at a node, in an abstract state
pub record AreCores (a : AbsState) (content : Content) (s : CoreSets) : Type 0 where
  pub registers_used : HasRegs s.registers_used (core.registers_used content)
  pub registers_defined : HasRegs s.registers_defined (core.registers_defined content)
  pub registers_always : HasRegs s.registers_always (core.registers_always a content)
  pub flags_used : HasFlags s.flags_used (core.flags_used content)
  pub flags_defined : HasFlags s.flags_defined (core.flags_defined content)
  pub flags_always : HasFlags s.flags_always (core.flags_always content)

-- every set is empty
pub record AreEmpty (s : CoreSets) : Type 0 where
  pub registers_used : HasRegs s.registers_used []
  pub registers_defined : HasRegs s.registers_defined []
  pub registers_always : HasRegs s.registers_always []
  pub flags_used : HasFlags s.flags_used []
  pub flags_defined : HasFlags s.flags_defined []
  pub flags_always : HasFlags s.flags_always []

-- the sets of an extern that returns
pub record IsReturning (s : CoreSets) : Type 0 where
  pub used : HasRegs s.registers_used (Esp ∷ []) × HasFlags s.flags_used []
  pub defined : HasRegs s.registers_defined (Eax ∷ Ecx ∷ Edx ∷ Esp ∷ []) × HasFlags s.flags_defined arithmetic_flags
  pub always : (s.registers_always ≡ s.registers_defined) × (s.flags_always ≡ s.flags_defined)

-- an extern that doesn't return
abbrev pub stops : Kind → Bool
stops kind.Stop = true
stops _ = false
