use Rattle.std.proofs.Common.{◌≡◌, ℕ}
use Rattle.std.specs.Prelude.{◌↔◌, Contains}
use Rattle.chops.proofs.ChopLemmas.{IsBoth}
use Rattle.chops.proofs.slices.meet.Given as goal

abbrev pub invariant-loop-node : goal.invariant-loop-node
invariant-loop-node l = record {
  size : l.both.size ≡ l.initial.both.size;
  nodes : (n : ℕ) → Contains l.both.nodes n ↔ IsBoth l.first.nodes l.second.nodes l.node-index n;
}
