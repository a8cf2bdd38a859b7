-- What an instruction does to an abstract state, as a list of small changes made one after another. Each stands beside an effect of
-- the machine. The project's own.
use Rattle.std.specs.Prelude.{ℕ, Bool, List, [], ◌∷◌, Option, Some, None}
use Rattle.image_map.specs.declared.image.Image.{Image}
use Rattle.ia32_semantics.specs.Effects.{Part}
use Rattle.alocs.specs.Cells.{Division}
use Rattle.vset.specs.declared.facts.AbsFlags.{AbsFlags}
use Rattle.vset.specs.declared.facts.CmpFact.{CmpFact}
use Rattle.vset.specs.Values.{Values}
use Rattle.abs_semantics.specs.declared.parts.RangeValue.{RangeValue}
use Rattle.abs_semantics.specs.States.{AbsState}
use Rattle.abs_semantics.specs.Accesses.{write}
use Rattle.abs_semantics.specs.Ranges.{write_range}
use Rattle.abs_semantics.specs.Operands.{with_register}
use Rattle.abs_steps.specs.Flags.{with_five, any_five, with_direction}

pub data AbsEffect : Type 0 where
  -- a part of a register takes a value
  puts : Part → ℕ → Values → AbsEffect
  -- the five flags of arithmetic are written
  turns : AbsFlags → AbsEffect
  -- each of them may be either
  frees : AbsEffect
  -- DF is written
  steers : Bool → AbsEffect
  -- so many bytes at an address hold a value
  saves : Values → ℕ → Values → AbsEffect
  -- the same of many bytes; None: it isn't known how many
  fills : Values → Option ℕ → RangeValue → AbsEffect
  -- the flags are those of a comparison
  learns : CmpFact → AbsEffect

-- A write of a flag ends what is known of the last comparison, and so does one that may touch what was compared.
abbrev pub done : Division → Image → ℕ → AbsEffect → AbsState → AbsState
done d image p (puts part n v) a = with_register a part n v
done d image p (turns f) a = record a { flags = with_five f a.flags; fact = None }
done d image p frees a = record a { flags = any_five a.flags; fact = None }
done d image p (steers set) a = record a { flags = with_direction set a.flags; fact = None }
done d image p (saves at len v) a = write a d image p at len v
done d image p (fills at len v) a = write_range a d image p at len v
done d image p (learns f) a = record a { fact = Some f }

-- the state after some effects, the first of the list done first, at a node of procedure p
abbrev pub all_done : Division → Image → ℕ → List AbsEffect → AbsState → AbsState
all_done d image p [] a = a
all_done d image p (effect ∷ rest) a = all_done d image p rest (done d image p effect a)
