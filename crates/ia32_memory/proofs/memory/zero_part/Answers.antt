use Rattle.std.proofs.Common.{◌≡◌, ◌-◌, length, ap, ◌∙◌, arith}
use Rattle.ia32_memory.proofs.ClearLemmas.{zeroed_length, zeroed_next, zeroed_end}
use Rattle.ia32_memory.proofs.memory.zero_part.Goals as goal

pub set-requires : goal.set-requires
set-requires c =
    let same : length c.loop-at.bytes ≡ length c.args.bytes.now =
    ap length c.loop-at.invariant ∙ zeroed_length c.args.from (c.loop-at.at - c.args.from) c.args.bytes.now in omega arith

pub loop-at-preserved : goal.loop-at-preserved
loop-at-preserved c =
    c.set.ensures ∙ zeroed_next c.args.from c.loop-at.at c.args.bytes.now c.loop-at.bytes c.loop-at.auto.at c.loop-at.invariant

pub returns : goal.returns
returns c = zeroed_end c.args.from c.args.to c.max-last.result c.loop-at.at c.args.bytes.now c.loop-at.bytes c.max-last.ensures (omega arith) (omega arith) c.loop-at.invariant
