use Rattle.std.proofs.Common.{ℕ, arith}
use Rattle.std.specs.Prelude.{Contains}
use Rattle.chops.specs.Masks.{IsShared}
use Rattle.chops.proofs.MaskLemmas.{first-all, first-more, first-none}
use Rattle.chops.proofs.masks.shared_among.Goals as goal

pub loop-x-init : goal.loop-x-init
loop-x-init c = first-none (λ x k. (y : ℕ) × Contains c.args.next.now y × IsShared c.args.rows.now.nodes.now c.args.rows.now.reaching.now c.args.rows.now.escaping.now x y k) c.args.next.now

pub loop-x-preserved : goal.loop-x-preserved
loop-x-preserved c = first-more (λ x k. (y : ℕ) × Contains c.args.next.now y × IsShared c.args.rows.now.nodes.now c.args.rows.now.reaching.now c.args.rows.now.escaping.now x y k) c.args.next.now c.loop-x.x-index c.loop-x.word c.shared_from-word.result c.shared_from-word.ensures c.loop-x.invariant

pub returns : goal.returns
returns c = first-all (λ x k. (y : ℕ) × Contains c.args.next.now y × IsShared c.args.rows.now.nodes.now c.args.rows.now.reaching.now c.args.rows.now.escaping.now x y k) c.args.next.now c.loop-x.x-index c.loop-x.word (omega arith) c.loop-x.invariant
