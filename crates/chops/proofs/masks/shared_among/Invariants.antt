use Rattle.std.proofs.Common.{ℕ}
use Rattle.std.specs.Prelude.{Contains}
use Rattle.chops.specs.Masks.{IsShared}
use Rattle.chops.proofs.MaskLemmas.{ShowsFirst}
use Rattle.chops.proofs.masks.shared_among.Given as goal

abbrev pub invariant-loop-x : goal.invariant-loop-x
invariant-loop-x l = ShowsFirst (λ x k. (y : ℕ) × Contains l.next y × IsShared l.rows.nodes.now l.rows.reaching.now l.rows.escaping.now x y k) l.next l.x-index l.word
