use Rattle.first_cuts.proofs.TakingLemmas.{file_pushed}
use Rattle.first_cuts.proofs.cuts.file_cuts.Goals as goal

pub returns : goal.returns
returns c =
    file_pushed c.args.image.now c.as_slice.result.now c.new-cuts.result.items c.push_segments.new.cuts.items c.push_words.new.cuts.items c.as_slice-2.result.now c.as_slice.ensures c.as_slice-2.ensures c.new-cuts.ensures.items
    c.in_ok-push_segments.ensures c.in_ok-push_words.ensures
