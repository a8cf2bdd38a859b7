use Rattle.std.proofs.Common.{arith}
use Rattle.surf_base.specs.Sink.{AppendsPart}
use Rattle.surf_prog.specs.Once.{numbers_text}
use Rattle.surf_prog.proofs.RefusalLaws.{on_err, numbered_next, numbered_part}
use Rattle.surf_prog.proofs.refusal.write_numbers.Goals as goal

pub returns-in_err-write_number-clause-part : goal.returns-in_err-write_number-clause-part
returns-in_err-write_number-clause-part g c =
    let written = g.E.Sink.written in
    on_err c.from_residual.result (AppendsPart (written c.args.err.now) (written c.write_number.new.err) (numbers_text c.args.numbers.now))
    (numbered_part (written c.args.err.now) (written c.loop-number.err) (written c.write_number.new.err) c.args.numbers.now c.loop-number.rest.now c.in-Some.after.now c.in-Some.number.now
    c.loop-number.invariant.numbered c.in-Some.ensures.cases.0 c.in_err-write_number.ensures.part)

pub loop-number-preserved : goal.loop-number-preserved
loop-number-preserved g c =
    let written = g.E.Sink.written in
    record {
      numbered = numbered_next (written c.args.err.now) (written c.loop-number.err) (written c.write_number.new.err) c.args.numbers.now c.loop-number.rest.now c.in-Some.after.now c.in-Some.number.now
          c.loop-number.invariant.numbered c.in-Some.ensures.cases.0 c.in_ok-write_number.ensures.ok;
      counts = omega (arith, c.write_number.ensures.counts, c.loop-number.invariant.counts);
    }
