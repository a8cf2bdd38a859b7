use Rattle.std.proofs.Common.{◌≡◌, ◌++◌, ◌+◌, ◌-◌}
use Rattle.abs_state.specs.Views.{seen}
use Rattle.abs_steps.specs.Accesses.{arguments_read, words_read}
use Rattle.transfer.proofs.externs.words_read.Given as goal

abbrev pub invariant-loop-before : goal.invariant-loop-before
invariant-loop-before l = l.out.items ++ arguments_read (seen l.a) (l.n - l.before) (l.before + 1) ≡ words_read (seen l.a) l.n
