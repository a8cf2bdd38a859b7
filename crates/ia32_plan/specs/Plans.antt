-- What a plan stands for: the effects of its entries, one after another, and its outcome. The project's own.
use Rattle.std.specs.Prelude.{false, List, [], ◌∷◌, ◌++◌, None}
use Rattle.ia32_types.specs.Numbers.{reg_number, flag_number, size}
use Rattle.ia32_semantics.specs.Effects.{Effect, Whole, High as HighPart, sets, turns, stores}
use Rattle.ia32_semantics.specs.Operands.{part_of, number_bytes, flag_effects}
use Rattle.ia32_semantics.specs.Strings.{stepped, copied, filled}
use Rattle.ia32_semantics.specs.Rows.{halves, quotient_effects}
use Rattle.ia32_semantics.specs.Outcome.{Outcome, Move, keeps, enters, leaves}
use Rattle.ia32_plan.specs.declared.entries.Entry.{Entry}
use Rattle.ia32_plan.specs.declared.entries.Entry.TheVariants as entry
use Rattle.ia32_plan.specs.declared.entries.Effects.{Effects}
use Rattle.ia32_plan.specs.declared.entries.Effects.TheVariants as effects
use Rattle.ia32_plan.specs.declared.entries.Calls.{Calls}
use Rattle.ia32_plan.specs.declared.entries.Calls.TheVariants as calls
use Rattle.ia32_plan.specs.declared.entries.Plan.{Plan}

abbrev pub entry_effects : Entry → List Effect
entry_effects (entry.Set width reg value) = sets (part_of width) (reg_number reg) value ∷ []
entry_effects (entry.High reg value) = sets HighPart (reg_number reg) value ∷ []
entry_effects (entry.Turn flag value) = turns (flag_number flag) value ∷ []
entry_effects (entry.Flags flags) = flag_effects flags
entry_effects (entry.Store at width value) = stores at (number_bytes (size width) value) ∷ []
entry_effects (entry.Halves width low high) = halves width low high
entry_effects (entry.Quotient width quotient remainder) = quotient_effects width quotient remainder
entry_effects (entry.Copied down width count from to) =
    copied down (size width) count from to
    ++ (sets Whole 6 (stepped down (size width) count from) ∷ sets Whole 7 (stepped down (size width) count to) ∷ [])
entry_effects (entry.Filled down width value count to) =
    filled down (size width) value count to ++ (sets Whole 7 (stepped down (size width) count to) ∷ [])

abbrev pub all_effects : Effects → List Effect
all_effects effects.Nothing = []
all_effects (effects.One a) = entry_effects a
all_effects (effects.Two a b) = entry_effects a ++ entry_effects b

abbrev pub move_of : Calls → Move
move_of calls.Kept = keeps
move_of (calls.Entered activation) = enters activation
move_of calls.Left = leaves

abbrev pub outcome_of : Plan → Outcome
outcome_of plan =
    record {
      effects = all_effects plan.effects;
      place = plan.place;
      calls = move_of plan.calls;
      given = None;
      forgets = plan.forgets;
      reads_all = false;
    }
