use Rattle.std.proofs.Common.{◌≡◌, subst, arith}
use Rattle.ia32_run.proofs.WriterLemmas.{AddedNumbers, added_none, added_one}
use Rattle.ia32_run.proofs.writers.add_numbers.Goals as goal

pub loop-n-init : goal.loop-n-init
loop-n-init c = added_none c.args.writers.now c.args.set.0 c.args.set.1 c.args.range.0 c.args.found.now.items

pub loop-n-preserved : goal.loop-n-preserved
loop-n-preserved c = added_one c.args.writers.now c.args.set.0 c.args.set.1 c.args.range.0 c.loop-n.n c.args.found.now.items c.loop-n.found.items c.add_number.new.found.items c.in_ok-add_number.ensures c.loop-n.invariant

pub returns : goal.returns
returns c = λ i.
    let all : c.loop-n.n ≡ c.args.range.1 = omega arith in
    let added = subst (λ k. AddedNumbers c.args.writers.now c.args.set.0 c.args.set.1 c.args.range.0 k c.args.found.now.items c.loop-n.found.items) all c.loop-n.invariant in
    (added.forth i, added.back i)
