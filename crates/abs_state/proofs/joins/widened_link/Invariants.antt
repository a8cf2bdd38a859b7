use Rattle.std.proofs.Common.{◌≡◌, drop}
use Rattle.abs_semantics.specs.Joins.{widened_link}
use Rattle.abs_state.proofs.joins.widened_link.Given as goal

abbrev pub invariant-loop-m : goal.invariant-loop-m
invariant-loop-m l = widened_link (drop l.m-index l.old) l.l ≡ widened_link l.old l.l
