use Rattle.std.proofs.Common.{length, ◌≤◌}
use Rattle.surf_prog.proofs.RefusalLaws.{Numbered}
use Rattle.surf_prog.proofs.refusal.write_numbers.Given as goal

abbrev pub invariant-loop-number : goal.invariant-loop-number
invariant-loop-number g l = record {
  numbered : Numbered (g.E.Sink.written l.fn.err) (g.E.Sink.written l.err) l.numbers l.rest;
  counts : g.E.Sink.faults l.fn.err ≤ g.E.Sink.faults l.err;
}

abbrev pub decreases-loop-number : goal.decreases-loop-number
decreases-loop-number g l = length l.rest
