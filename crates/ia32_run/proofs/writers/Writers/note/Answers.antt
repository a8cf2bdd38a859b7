use Rattle.std.proofs.Common.{subst}
use Rattle.ia32_run.specs.Writers.{WroteNumbers}
use Rattle.ia32_run.proofs.KnownLemmas.{noted}
use Rattle.ia32_run.proofs.writers.Writers.note.Goals as goal

pub returns : goal.returns
returns c = λ run o long is below knows.
    let p0 = c.args.self.now.places in let p1 = c.write_numbers.new.writers in let p2 = c.write_numbers-2.new.writers in
    noted c.args.out.now.writes c.args.out.now.forgets c.args.slot c.args.step c.args.self.now p1 p2 c.write_spans.new.writers c.forget.new.writers _
    (subst (λ k. WroteNumbers k 0 8 c.args.step p0 p1) c.numbers.ensures c.in_ok-write_numbers.ensures)
    (subst (λ k. WroteNumbers k 8 6 c.args.step p1 p2) c.numbers-2.ensures c.in_ok-write_numbers-2.ensures)
    c.as_slice.ensures.value c.in_ok-write_spans.ensures c.in_ok-forget.ensures run o long is below knows
