use Rattle.std.proofs.Common.{◌∙◌, sym}
use Rattle.ia32_run.specs.Writers.{is_wanted}
use Rattle.ia32_run.proofs.WriterLemmas.{number_added}
use Rattle.ia32_run.proofs.writers.add_number.Goals as goal

pub returns-in_ok-add_span : goal.returns-in_ok-add_span
returns-in_ok-add_span c = λ i. number_added c.args.found.now.items c.add_span.new.found.items c.args.place.0 c.args.place.1 i c.args.writers.now (is_wanted c.args.set.0 c.args.set.1 c.args.place.1)
    (sym c.is_wanted.ensures ∙ c.if-is_wanted.true) (c.in_ok-add_span.ensures i)
