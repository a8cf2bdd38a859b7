use Rattle.std.proofs.Common.{append_assoc}
use Rattle.ia32_print.proofs.PartLemmas.{sum-none, sum-base, sum-index, sum-both}
use Rattle.ia32_print.proofs.print.push_sum.Goals as goal

pub returns-in-None-None-clause-text : goal.returns-in-None-None-clause-text
returns-in-None-None-clause-text c =
    rw (sum-none c.args.m.now c.in-None-None.is-0 c.in-None-None.is-1) c.push_address.ensures.text

pub returns-in-None-Some-clause-text : goal.returns-in-None-Some-clause-text
returns-in-None-Some-clause-text c =
    rw (sum-index c.args.m.now c.in-None-Some.index c.in-None-Some.is-0 c.in-None-Some.is-1, c.push_displacement.ensures.text, c.push_index.ensures.text) (simp append_assoc)

pub returns-in-Some-None-clause-text : goal.returns-in-Some-None-clause-text
returns-in-Some-None-clause-text c =
    rw (
      sum-base c.args.m.now c.in-Some-None.base c.in-Some-None.is-0 c.in-Some-None.is-1,
      c.push_displacement-in-Some-None.ensures.text,
      c.push.ensures,
      c.reg32.ensures.name,
    ) (simp append_assoc)

pub returns-in-Some-Some-clause-text : goal.returns-in-Some-Some-clause-text
returns-in-Some-Some-clause-text c =
    rw (
      sum-both c.args.m.now c.in-Some-Some.base c.in-Some-Some.index c.in-Some-Some.is-0 c.in-Some-Some.is-1,
      c.push_displacement-in-Some-Some.ensures.text,
      c.push_index-in-Some-Some.ensures.text,
      c.push-in-Some-Some-2.ensures,
      c.push-in-Some-Some.ensures,
      c.reg32-in-Some-Some.ensures.name,
    ) (simp append_assoc)
