use Rattle.chops.specs.Masks.{IsShared}
use Rattle.chops.proofs.MaskLemmas.{ShowsFirst}
use Rattle.chops.proofs.masks.shared_from.Given as goal

abbrev pub invariant-loop-y : goal.invariant-loop-y
invariant-loop-y l = ShowsFirst (IsShared l.rows.nodes.now l.rows.reaching.now l.rows.escaping.now l.x) l.others l.y-index l.word
