use Rattle.std.proofs.Common.{◌∙◌, refl}
use Rattle.transfer.specs.Views.{view_by}
use Rattle.access_facts.proofs.accesses.of_plain.Goals as goal

pub returns : goal.returns
returns c = λ image goes_on plain.
    c.plain_accesses.ensures image (view_by c.args.view.now) goes_on (refl, refl) (c.as_slice.ensures.value ∙ c.in_ok-reads.ensures) (c.as_slice-2.ensures.value ∙ c.in_ok-writes.ensures) plain
