use Rattle.chops.specs.Masks.{IsSplit}
use Rattle.chops.proofs.MaskLemmas.{ShowsFirst}
use Rattle.chops.proofs.masks.split_by.Given as goal

abbrev pub invariant-loop-branch : goal.invariant-loop-branch
invariant-loop-branch l = ShowsFirst (IsSplit l.rows.nodes.now l.rows.reaching.now l.rows.escaping.now) l.branches l.branch-index l.word
