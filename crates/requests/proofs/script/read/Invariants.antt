use Rattle.std.proofs.Common.{length}
use Rattle.requests.proofs.ReadLemmas.{Resumes}
use Rattle.requests.proofs.script.read.Given as goal

abbrev pub invariant-lines : goal.invariant-lines
invariant-lines l = Resumes l.fn.sessions l.fn.programs l.fn.bytes l.rest l.lines l.number

abbrev pub decreases-lines : goal.decreases-lines
decreases-lines l = length l.rest
