use Rattle.std.proofs.Common.{sym, ◌∙◌}
use Rattle.first_cuts.proofs.ScanLemmas.{segment_passed}
use Rattle.first_cuts.proofs.constants.take_segment.Goals as goal

pub returns-then-not-has_code : goal.returns-then-not-has_code
returns-then-not-has_code c = segment_passed c.args.image.now c.args.segment.now c.args.taken.now.items (sym c.has_code.ensures ∙ c.if-not-has_code.true)
