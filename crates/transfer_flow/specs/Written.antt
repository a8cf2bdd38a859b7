-- The places of what is written. The project's own.
use Rattle.std.specs.Prelude.{ℕ, Bool, List, Option}
use Rattle.std.specs.List.{list_any}
use Rattle.abs_semantics.specs.declared.parts.Reason.{Reason}
use Rattle.abs_semantics.specs.Resolve.{Resolved, same_reason}
use Rattle.abs_steps.specs.declared.accesses.Access.{Access}
use Rattle.abs_steps.specs.Views.{View}
use Rattle.abs_steps.specs.Warnings.{resolved, writes_slot_in}
use Rattle.abs_state.specs.Reads.{told_by}
use Rattle.transfer_flow.specs.declared.written.Written.{Written}

-- an access with its places
pub record Met : Type 0 where
  pub places : Resolved
  pub len : Option ℕ

abbrev pub met_by : Written → Met
met_by w = record { places = told_by w.places; len = w.len }

abbrev pub met : View → Access → Met
met v x = record { places = resolved v x; len = x.len }

abbrev pub with_reason : Reason → List Met → Bool
with_reason r ms = list_any (λ (m : Met). list_any (same_reason r) m.places.reasons) ms

abbrev pub with_slot : List Met → Bool
with_slot ms = list_any (λ (m : Met). writes_slot_in m.places.entries m.len) ms
