use Rattle.std.proofs.Common.{◌∙◌, ap}
use Rattle.transfer.specs.Views.{view_by}
use Rattle.access_facts.specs.Reach.{reaches}
use Rattle.access_facts.proofs.cuts.push_facts_of_extern.Goals as goal

pub returns : goal.returns
returns c =
    let v = view_by c.args.view.now in
    c.push_extern.ensures v c.args.kind.now (c.as_slice-3.ensures.value ∙ c.in_ok-reads.ensures ∙ ap (reaches v) (c.as_slice.ensures.value ∙ c.in_ok-words.ensures))
    (c.as_slice-4.ensures.value ∙ c.in_ok-writes.ensures ∙ ap (reaches v) (c.as_slice-2.ensures.value ∙ c.in_ok-filled.ensures))
