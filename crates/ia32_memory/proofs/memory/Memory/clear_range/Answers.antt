use Rattle.std.proofs.Common.{refl, ap, ◌∙◌, arith}
use Rattle.ia32_memory.specs.Mapped.{bytes_of}
use Rattle.ia32_memory.specs.Changes.{with_byte}
use Rattle.ia32_memory.proofs.StartLemmas.{range_more, range_all, range_start}
use Rattle.ia32_memory.proofs.memory.Memory.clear_range.Goals as goal

pub loop-address-init : goal.loop-address-init
loop-address-init c = record { bytes = range_start (bytes_of c.args.self.now) c.args.start; shapes = refl }

pub loop-address-preserved : goal.loop-address-preserved
loop-address-preserved c = record {
  bytes = c.put.ensures.bytes ∙ ap (λ m. with_byte m c.loop-address.address 0) c.loop-address.invariant.bytes
      ∙ range_more (bytes_of c.args.self.now) c.args.start c.loop-address.address c.loop-address.auto.address;
  shapes = c.put.ensures.shapes ∙ c.loop-address.invariant.shapes;
}

pub returns-clause-bytes : goal.returns-clause-bytes
returns-clause-bytes c =
    c.loop-address.invariant.bytes
    ∙ range_all (bytes_of c.args.self.now) c.args.start c.args.end c.max-last.result c.loop-address.address c.max-last.ensures (omega arith) (omega arith)
