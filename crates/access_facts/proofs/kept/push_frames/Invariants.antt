use Rattle.std.proofs.Common.{◌≡◌, ◌++◌, map, drop}
use Rattle.access_facts.specs.Kept.{frame_list}
use Rattle.access_facts.proofs.kept.push_frames.Given as goal

abbrev pub invariant-loop-procedure : goal.invariant-loop-procedure
invariant-loop-procedure l = l.lists.items ++ map frame_list (drop l.procedure-index l.procedures) ≡ l.initial.lists.items ++ map frame_list l.procedures
