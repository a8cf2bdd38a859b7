use Rattle.std.proofs.Common.{◌∙◌, ap, ◌++◌}
use Rattle.ia32_run.proofs.WriterLemmas.{spans_added}
use Rattle.ia32_run.proofs.writers.add_span.Goals as goal

pub returns-in_ok-extend_from_slice : goal.returns-in_ok-extend_from_slice
returns-in_ok-extend_from_slice c = λ i. spans_added c.args.found.now.items c.in_ok-steps.steps.items c.extend_from_slice.new.self.items i _
    (c.in_ok-extend_from_slice.ensures.items ∙ ap (λ l. c.args.found.now.items ++ l) c.as_slice.ensures.value) (c.in_ok-steps.ensures.all i)
