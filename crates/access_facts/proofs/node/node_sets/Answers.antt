use Rattle.std.proofs.Common.{◌∙◌}
use Rattle.access_facts.proofs.SetLemmas.{sure_are}
use Rattle.access_facts.proofs.node.node_sets.Goals as goal

pub returns : goal.returns
returns c = λ v content goes_on cores are.
    record {
      may_use = c.in_ok-may_use.ensures v content cores (c.as_slice.ensures.value ∙ are.reads);
      may_def = c.in_ok-may_def.ensures v content goes_on cores (c.as_slice-2.ensures.value ∙ are.writes);
      must_def =
          c.in_ok-must_def.ensures c.args.image.now v content goes_on cores (c.as_slice-3.ensures.value ∙ are.older)
          (c.sure_writes-sure.ensures ∙ sure_are c.args.image.now v content goes_on c.args.accesses.now.is_sure c.args.accesses.now.writes.items are.sure are.writes);
    }
