use Rattle.std.proofs.Common.{◌∙◌, ap, refl}
use Rattle.transfer.specs.Views.{view_by}
use Rattle.access_facts.specs.Reach.{reaches}
use Rattle.access_facts.proofs.accesses.of_call.Goals as goal

pub returns : goal.returns
returns c = λ goes_on on.
    let v = view_by c.args.view.now in
    c.call_accesses.ensures c.args.image.now v c.args.instr.now goes_on refl on (c.in_ok-reads.ensures ∙ ap (reaches v) (c.as_slice.ensures.value ∙ c.in_ok-listed.ensures)) (c.as_slice-2.ensures.value ∙ c.in_ok-targets.ensures)
    (c.as_slice-3.ensures.value ∙ c.in_ok-followed.ensures)
