-- All signed words are a canonical interval.
use Rattle.strided.proofs.MemberLemmas.{full_canonical}
use Rattle.strided.proofs.interval.Si.full.Goals as goal

pub made-requires : goal.made-requires
made-requires c = full_canonical
