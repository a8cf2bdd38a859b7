use Rattle.std.proofs.Common.{◌∙◌, ap, subst, List, drop}
use Rattle.last_writers.specs.declared.spans.Written.{Written}
use Rattle.last_writers.specs.Writers.{IsRising}
use Rattle.last_writers.specs.Cuts.{passed, steps_before}
use Rattle.last_writers.proofs.StepLemmas.{writers_are, writers_rise}
use Rattle.last_writers.proofs.writers.LastWriters.writers.Goals as goal

pub returns-clause-rising : goal.returns-clause-rising
returns-clause-rising c = writers_rise c.sort_unstable.new.self.items c.dedup.new.self.items c.sort_unstable.ensures.sorted c.dedup.ensures.filtered

pub returns-clause-all : goal.returns-clause-all
returns-clause-all c = λ step.
    writers_are c.args.start c.args.end c.args.self.now c.in_ok-steps.steps.items c.sort_unstable.new.self.items c.dedup.new.self.items step
    c.requires (subst (λ (v : List Written). IsRising v) c.self.view_is c.self.invariant)
    (c.in_ok-steps.ensures
    ∙ ap (λ (v : List Written). steps_before c.args.end v) (c.rest.ensures ∙ ap (λ n. drop n c.as_slice-spans.result.now) c.passed.ensures.value
    ∙ ap (λ (v : List Written). drop (passed c.args.start v) v) (c.as_slice-spans.ensures.value ∙ c.self.view_is)))
    c.sort_unstable.ensures.permutation c.dedup.ensures.filtered
