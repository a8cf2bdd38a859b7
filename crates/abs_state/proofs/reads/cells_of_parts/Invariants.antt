use Rattle.std.proofs.Common.{◌≡◌, Some, drop}
use Rattle.abs_semantics.specs.Touching.{both_lists, cells_of_parts}
use Rattle.abs_state.proofs.reads.cells_of_parts.Given as goal

abbrev pub invariant-loop-x : goal.invariant-loop-x
invariant-loop-x l = both_lists (Some l.out.items) (cells_of_parts l.cells l.len (drop l.x-index l.xs)) ≡ cells_of_parts l.cells l.len l.xs
