use Rattle.std.proofs.Common.{◌≡◌, length}
use Rattle.surf_base.proofs.TextLines.{Written}
use Rattle.surf_base.proofs.sink.write_lines.Given as goal

abbrev pub invariant-loop-rest : goal.invariant-loop-rest
invariant-loop-rest g l = record {
  lines : Written g.K.Sink.written g.K.Sink.faults l.fn.sink l.sink l.text l.rest;
  counts : g.K.Sink.faults l.sink ≡ g.K.Sink.faults l.fn.sink;
}

abbrev pub decreases-loop-rest : goal.decreases-loop-rest
decreases-loop-rest g l = length l.rest
