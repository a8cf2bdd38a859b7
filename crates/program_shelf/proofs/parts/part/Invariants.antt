use Rattle.program_shelf.proofs.PartLemmas.{Done}
use Rattle.program_shelf.proofs.parts.part.Given as goal

abbrev pub invariant-loop-i : goal.invariant-loop-i
invariant-loop-i l = Done l.fn.program l.fn.script.lines l.lines l.i
