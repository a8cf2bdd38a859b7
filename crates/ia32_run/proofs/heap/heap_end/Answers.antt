use Rattle.std.proofs.Common.{◌+◌, ap, ◌∙◌, arith}
use Rattle.std.specs.Prelude.{max}
use Rattle.ia32_run.proofs.HeapLemmas.{end_start, end_more, end_none, no_blocks}
use Rattle.ia32_run.proofs.heap.heap_end.Goals as goal

pub each-init : goal.each-init
each-init c = record { value = end_start c.args.blocks.now; low = omega arith; below = omega arith }

pub each-preserved : goal.each-preserved
each-preserved c = record {
  value = end_more c.args.blocks.now c.each.rest.now c.in-Some.after.now c.in-Some.block.now c.each.end c.max-end.result c.each.invariant.value c.in-Some.ensures.cases.0
      (c.max-end.ensures ∙ ap (λ n. max c.each.end (n + c.from-in-Some.result)) c.from.ensures ∙ ap (λ n. max c.each.end (c.in-Some.block.now.base + n)) c.from-in-Some.ensures);
  low = omega arith;
  below = omega arith;
}

pub returns-clause-value : goal.returns-clause-value
returns-clause-value c = end_none c.args.blocks.now c.each.rest.now c.each.end c.each.invariant.value c.each.invariant.low (no_blocks c.each.rest.now c.in_default.ensures.cases)
