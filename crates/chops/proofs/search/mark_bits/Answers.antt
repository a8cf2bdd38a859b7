use Rattle.std.proofs.Common.{◌≡◌, ◌∙◌, ◌<◌, ℕ, length, refl, subst, sym, arith}
use Rattle.std.specs.Prelude.{All}
use Rattle.chops.proofs.AlongLemmas.{bits_all, bits_more, bits_none}
use Rattle.chops.proofs.search.mark_bits.Goals as goal

pub loop-k-init : goal.loop-k-init
loop-k-init c = record { size = refl; adds = bits_none c.args.targets.now c.args.word c.args.queue.now.nodes }

pub loop-k-preserved : goal.loop-k-preserved
loop-k-preserved c = record {
  size = c.mark_if.ensures.size ∙ c.loop-k.invariant.size;
  adds = bits_more c.args.targets.now c.args.word c.loop-k.k c.loop-k.queue.size c.has_bit.result c.args.queue.now.nodes c.loop-k.queue.nodes c.mark_if.new.self.nodes c.loop-k-test.true
      (subst (λ (s : ℕ). All (λ n. n < s) c.args.targets.now) (sym c.loop-k.invariant.size) c.requires.room) c.has_bit.ensures c.loop-k.invariant.adds c.mark_if.ensures.adds;
}

pub returns-clause-adds : goal.returns-clause-adds
returns-clause-adds c = let all : length c.args.targets.now ≡ c.loop-k.k = omega arith in bits_all c.args.targets.now c.args.word c.loop-k.k c.args.queue.now.nodes c.loop-k.queue.nodes all c.loop-k.invariant.adds
