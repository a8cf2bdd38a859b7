use Rattle.std.proofs.Common.{sym, ◌∙◌, arith}
use Rattle.std.proofs.lemmas.Int.{ints}
use Rattle.abs_state.proofs.StartLemmas.{image_value_is}
use Rattle.abs_state.proofs.initial.image_value.Goals as goal

pub returns-in-Some : goal.returns-in-Some
returns-in-Some c =
    c.number_or_top.ensures
    ∙ image_value_is c.args.image.now c.args.cell.now c.in-Some.bytes c.image_number.result c.image_number.ensures (sym c.number_length.ensures.value ∙ c.in-Some.is) (omega (arith, ints, c.requires))
