use Rattle.std.proofs.Common.{◌≡◌, ◌-◌, ◌++◌}
use Rattle.surf_prog.specs.Tracing.{seed_words}
use Rattle.surf_prog.proofs.tracing.seed_words.Given as goal

abbrev pub invariant-loop : goal.invariant-loop
invariant-loop l = l.words.items ++ seed_words (l.fn.count - l.counter) l.word ≡ seed_words l.fn.count l.fn.seed
