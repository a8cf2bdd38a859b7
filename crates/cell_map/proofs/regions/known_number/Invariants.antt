use Rattle.std.proofs.Common.{◌≡◌, drop}
use Rattle.abs_semantics.specs.States.{known_of}
use Rattle.cell_map.proofs.regions.known_number.Given as goal

abbrev pub invariant-loop-k : goal.invariant-loop-k
invariant-loop-k l = known_of l.region (drop l.k-index l.entries) ≡ known_of l.region l.entries
