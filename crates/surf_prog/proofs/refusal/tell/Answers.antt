use Rattle.std.proofs.Common.{◌++◌}
use Rattle.surf_prog.proofs.RefusalLaws.{tells}
use Rattle.surf_prog.proofs.refusal.tell.Goals as goal

pub returns : goal.returns
returns g c =
    tells c.write_parts.result (g.E.Sink.written c.args.err.now) (g.E.Sink.written c.write_parts.new.err) (g.E.Sink.faults c.args.err.now) (g.E.Sink.faults c.write_parts.new.err) (c.args.front.now ++ (c.args.middle.now ++ c.args.back.now))
    c.write_parts.ensures.ok c.write_parts.ensures.part c.write_parts.ensures.cause
