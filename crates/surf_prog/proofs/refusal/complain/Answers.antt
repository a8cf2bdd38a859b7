use Rattle.std.proofs.Common.{◌≡◌, sym, ◌∙◌, eqb-true}
use Rattle.surf_prog.specs.Answer.{line_of}
use Rattle.surf_prog.proofs.RefusalLaws.{whole_line, told_at_once}
use Rattle.surf_prog.proofs.refusal.complain.Goals as goal

pub returns-then-is_whole : goal.returns-then-is_whole
returns-then-is_whole g c =
    let line = line_of c.args.refusal.now in
    let built = c.tell_refusal.new.err in
    let calm : built.faults ≡ 0 = eqb-true built.faults 0 (sym c.is_whole.ensures ∙ c.if-is_whole.true) in
    let whole = whole_line c.new-line.result.text.items built.text.items line c.new-line.result.faults built.faults c.new-line.ensures.empty c.new-line.ensures.calm calm c.tell_refusal.ensures in
    told_at_once c.write.result (g.E.Sink.written c.args.err.now) (g.E.Sink.written c.write.new.self) (g.E.Sink.faults c.args.err.now) (g.E.Sink.faults c.write.new.self) c.text.result.now line
    (c.text.ensures ∙ whole) c.write.ensures.appended c.write.ensures.part c.write.ensures.cause
