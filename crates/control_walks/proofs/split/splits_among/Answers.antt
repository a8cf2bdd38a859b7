use Rattle.std.proofs.Common.{ℕ}
use Rattle.std.specs.Prelude.{Contains}
use Rattle.control_walks.specs.Floods.{SplitsBy}
use Rattle.control_walks.proofs.SplitLemmas.{none-more, none-all}
use Rattle.control_walks.proofs.split.splits_among.Goals as goal

pub loop-x-preserved : goal.loop-x-preserved
loop-x-preserved c =
    none-more (λ x. (y : ℕ) × Contains c.args.next.now y × SplitsBy c.args.nodes.now c.args.reaching.now c.args.escaping.now x y) c.args.next.now c.loop-x.x-index
    (λ some. let is = c.splits_from.ensures.1 some in absurd (cc)) c.loop-x.invariant

pub returns : goal.returns
returns c = (
  λ never. absurd (cc),
  λ some. absurd (none-all (λ x. (y : ℕ) × Contains c.args.next.now y × SplitsBy c.args.nodes.now c.args.reaching.now c.args.escaping.now x y) c.args.next.now c.loop-x.x-index c.loop-x-test.false c.loop-x.invariant some),
)
