use Rattle.std.proofs.Common.{◌∙◌, ap, refl}
use Rattle.transfer.specs.Views.{view_by}
use Rattle.access_facts.specs.Reach.{reaches}
use Rattle.access_facts.proofs.cuts.push_facts_of_instruction.Goals as goal

pub returns : goal.returns
returns c =
    let v = view_by c.args.view.now in
    c.push_instruction.ensures v refl (c.as_slice-3.ensures.value ∙ c.in_ok-reads.ensures ∙ ap (reaches v) (c.as_slice.ensures.value ∙ c.in_ok-read.ensures))
    (c.as_slice-4.ensures.value ∙ c.in_ok-writes.ensures ∙ ap (reaches v) (c.as_slice-2.ensures.value ∙ c.in_ok-written.ensures))
