use Rattle.std.proofs.Common.{ap, arith}
use Rattle.std.specs.Prelude.{is_some}
use Rattle.std.specs.Option.{option_copied}
use Rattle.std.proofs.lemmas.Int.{ints}
use Rattle.first_cuts.proofs.ScanLemmas.{number_low, number_out, number_in}
use Rattle.first_cuts.proofs.constants.take_number.Goals as goal

pub offset_of-offset-requires : goal.offset_of-offset-requires
offset_of-offset-requires c =
    number_low c.args.image.now c.as_slice.result.now c.args.number (option_copied c.segment_holding.result) c.requires.segments c.as_slice.ensures c.segment_holding.ensures (ap (λ o. is_some (option_copied o)) c.in-Some.is)

pub returns-in-None : goal.returns-in-None
returns-in-None c =
    number_out c.args.image.now c.as_slice.result.now c.args.number (option_copied c.segment_holding.result) c.args.taken.now.items c.as_slice.ensures c.segment_holding.ensures (ap (λ o. is_some (option_copied o)) c.in-None.is)

pub returns : goal.returns
returns c =
    number_in c.args.image.now c.as_slice.result.now c.args.number _ (option_copied c.segment_holding.result) c.args.taken.now.items c.take_offset.new.taken.items c.as_slice.ensures c.segment_holding.ensures (ap (λ o. is_some (option_copied o)) c.in-Some.is)
    (omega (arith, ints, c.offset_of-offset.ensures)) c.in_ok-take_offset-in-Some.ensures
