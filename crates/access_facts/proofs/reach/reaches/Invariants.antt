use Rattle.std.proofs.Common.{◌≡◌, ◌++◌, map, drop}
use Rattle.abs_state.specs.Views.{seen}
use Rattle.access_facts.specs.Reach.{reach}
use Rattle.access_facts.proofs.reach.reaches.Given as goal

abbrev pub invariant-loop-access : goal.invariant-loop-access
invariant-loop-access l = l.found.items ++ map (reach (seen l.state) l.procedure) (drop l.access-index l.accesses) ≡ map (reach (seen l.state) l.procedure) l.accesses
