use Rattle.surf_base.specs.Sink.{AppendsPart}
use Rattle.std.proofs.Common.{◌++◌}
use Rattle.surf_base.proofs.Appending.{part_then}
use Rattle.surf_prog.proofs.RefusalLaws.{part_longer, on_err, on_err_then}
use Rattle.surf_prog.proofs.refusal.write_parts.Goals as goal

pub returns-in_err-write-clause-part : goal.returns-in_err-write-clause-part
returns-in_err-write-clause-part g c =
    let written = g.E.Sink.written in
    on_err c.from_residual.result (AppendsPart (written c.args.err.now) (written c.write.new.self) (c.args.front.now ++ (c.args.middle.now ++ c.args.back.now)))
    (part_longer (written c.args.err.now) (written c.write.new.self) c.args.front.now (c.args.middle.now ++ c.args.back.now) c.in_err-write.ensures.part)

pub returns-in_err-write-2-clause-part : goal.returns-in_err-write-2-clause-part
returns-in_err-write-2-clause-part g c =
    let written = g.E.Sink.written in
    let middle = part_longer (written c.write.new.self) (written c.write-2.new.self) c.args.middle.now c.args.back.now c.in_err-write-2.ensures.part in
    on_err c.from_residual-in_err-write-2.result (AppendsPart (written c.args.err.now) (written c.write-2.new.self) (c.args.front.now ++ (c.args.middle.now ++ c.args.back.now)))
    (part_then (written c.args.err.now) (written c.write.new.self) (written c.write-2.new.self) c.args.front.now (c.args.middle.now ++ c.args.back.now) c.in_ok-write.ensures.appended middle)

pub returns-clause-part : goal.returns-clause-part
returns-clause-part g c =
    let written = g.E.Sink.written in
    on_err_then c.write-3.result (AppendsPart (written c.write-2.new.self) (written c.write-3.new.self) c.args.back.now) (AppendsPart (written c.args.err.now) (written c.write-3.new.self) (c.args.front.now ++ (c.args.middle.now ++ c.args.back.now)))
    (λ part.
    let later = part_then (written c.write.new.self) (written c.write-2.new.self) (written c.write-3.new.self) c.args.middle.now c.args.back.now c.in_ok-write-2.ensures.appended part in
    part_then (written c.args.err.now) (written c.write.new.self) (written c.write-3.new.self) c.args.front.now (c.args.middle.now ++ c.args.back.now) c.in_ok-write.ensures.appended later)
    c.write-3.ensures.part
