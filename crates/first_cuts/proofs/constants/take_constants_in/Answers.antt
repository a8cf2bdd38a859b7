use Rattle.std.proofs.Common.{◌∙◌, ap}
use Rattle.std.specs.Prelude.{option_to_list}
use Rattle.first_cuts.specs.Taking.{taken_from}
use Rattle.first_cuts.proofs.ScanLemmas.{constants_taken}
use Rattle.first_cuts.proofs.constants.take_constants_in.Goals as goal

pub returns : goal.returns
returns c =
    let image = c.args.image.now in
    constants_taken image c.args.instr.now c.args.taken.now.items c.take_if_some.new.taken.items c.take_if_some-2.new.taken.items c.take_immediates.new.taken.items
    (c.in_ok-take_if_some.ensures ∙ ap (λ o. taken_from image c.args.taken.now.items (option_to_list o)) c.displacement.ensures)
    (c.in_ok-take_if_some-2.ensures ∙ ap (λ o. taken_from image c.take_if_some.new.taken.items (option_to_list o)) c.displacement-2.ensures)
    c.in_ok-take_immediates.ensures
