use Rattle.std.proofs.Common.{◌≡◌, subst, arith}
use Rattle.ia32_run.specs.Writers.{WroteNumbers}
use Rattle.ia32_run.proofs.WriterLemmas.{no_numbers, one_number}
use Rattle.ia32_run.proofs.writers.write_numbers.Goals as goal

pub loop-n-init : goal.loop-n-init
loop-n-init c = no_numbers c.args.numbers c.args.range.0 c.args.step c.args.writers.now

pub loop-n-preserved : goal.loop-n-preserved
loop-n-preserved c = one_number c.args.numbers c.args.range.0 c.loop-n.n c.args.step c.args.writers.now c.loop-n.writers c.write_number.new.writers c.in_ok-write_number.ensures c.loop-n.invariant

pub returns : goal.returns
returns c = let all : c.loop-n.n ≡ c.args.range.1 = omega arith in subst (λ k. WroteNumbers c.args.numbers c.args.range.0 k c.args.step c.args.writers.now c.loop-n.writers) all c.loop-n.invariant
