use Rattle.ia32_decode.proofs.instruction.+prefixed.Given as goal

abbrev pub decreases-prefixed : goal.decreases-prefixed
decreases-prefixed l = l.left
