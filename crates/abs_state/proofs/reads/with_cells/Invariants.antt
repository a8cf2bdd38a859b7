use Rattle.std.proofs.Common.{◌≡◌, ◌-◌, Some}
use Rattle.strided.specs.Interval.{member_after}
use Rattle.strided.specs.Operations.{count}
use Rattle.abs_semantics.specs.Touching.{both_lists, offsets, cells_at, members}
use Rattle.abs_state.proofs.reads.with_cells.Given as goal

abbrev pub invariant-loop-i : goal.invariant-loop-i
invariant-loop-i l =
    both_lists (Some l.out.items) (cells_at l.cells l.len l.x.region (offsets (count l.x.si - l.i) l.x.si.stride (member_after l.x.si l.i)))
    ≡ both_lists (Some l.fn.into.items) (cells_at l.cells l.len l.x.region (members l.x.si))
