use Rattle.elf32.specs.declared.error.ElfError.TheVariants as errors
use Rattle.surf_prog.specs.Once.{TellsLine}
use Rattle.surf_prog.proofs.RefusalLaws.{cause_told}
use Rattle.surf_prog.proofs.refusal.complain_of_image.Goals as goal

pub returns-in-Machine : goal.returns-in-Machine
returns-in-Machine g c = cause_told
    (TellsLine (g.E.Sink.written c.args.err.now) (g.E.Sink.written c.tell_cause-in-Machine.new.err) (g.E.Sink.faults c.args.err.now) (g.E.Sink.faults c.tell_cause-in-Machine.new.err))
    c.args.cause errors.Machine c.in-Machine.is c.tell_cause-in-Machine.ensures

pub returns-in-Kind : goal.returns-in-Kind
returns-in-Kind g c = cause_told
    (TellsLine (g.E.Sink.written c.args.err.now) (g.E.Sink.written c.tell_cause-in-Kind.new.err) (g.E.Sink.faults c.args.err.now) (g.E.Sink.faults c.tell_cause-in-Kind.new.err))
    c.args.cause errors.Kind c.in-Kind.is c.tell_cause-in-Kind.ensures

pub returns-in-Header : goal.returns-in-Header
returns-in-Header g c = cause_told
    (TellsLine (g.E.Sink.written c.args.err.now) (g.E.Sink.written c.tell_cause-in-Header.new.err) (g.E.Sink.faults c.args.err.now) (g.E.Sink.faults c.tell_cause-in-Header.new.err))
    c.args.cause (errors.Header c.in-Header.index) c.in-Header.is c.tell_cause-in-Header.ensures

pub returns-in-Overlap : goal.returns-in-Overlap
returns-in-Overlap g c = cause_told
    (TellsLine (g.E.Sink.written c.args.err.now) (g.E.Sink.written c.tell_cause-in-Overlap.new.err) (g.E.Sink.faults c.args.err.now) (g.E.Sink.faults c.tell_cause-in-Overlap.new.err))
    c.args.cause (errors.Overlap c.in-Overlap.earlier c.in-Overlap.later) c.in-Overlap.is c.tell_cause-in-Overlap.ensures

pub returns-in-Range : goal.returns-in-Range
returns-in-Range g c = cause_told
    (TellsLine (g.E.Sink.written c.args.err.now) (g.E.Sink.written c.tell_cause-in-Range.new.err) (g.E.Sink.faults c.args.err.now) (g.E.Sink.faults c.tell_cause-in-Range.new.err))
    c.args.cause (errors.Range c.in-Range.index) c.in-Range.is c.tell_cause-in-Range.ensures

pub returns-in-WritableCode : goal.returns-in-WritableCode
returns-in-WritableCode g c = cause_told
    (TellsLine (g.E.Sink.written c.args.err.now) (g.E.Sink.written c.tell_cause-in-WritableCode.new.err) (g.E.Sink.faults c.args.err.now) (g.E.Sink.faults c.tell_cause-in-WritableCode.new.err))
    c.args.cause (errors.WritableCode c.in-WritableCode.index) c.in-WritableCode.is c.tell_cause-in-WritableCode.ensures

pub returns-in-Relocation : goal.returns-in-Relocation
returns-in-Relocation g c = cause_told
    (TellsLine (g.E.Sink.written c.args.err.now) (g.E.Sink.written c.tell_cause-in-Relocation.new.err) (g.E.Sink.faults c.args.err.now) (g.E.Sink.faults c.tell_cause-in-Relocation.new.err))
    c.args.cause (errors.Relocation c.in-Relocation.index c.in-Relocation.kind) c.in-Relocation.is c.tell_cause-in-Relocation.ensures

pub returns-in-TooMany : goal.returns-in-TooMany
returns-in-TooMany g c = cause_told
    (TellsLine (g.E.Sink.written c.args.err.now) (g.E.Sink.written c.tell_cause-in-TooMany.new.err) (g.E.Sink.faults c.args.err.now) (g.E.Sink.faults c.tell_cause-in-TooMany.new.err))
    c.args.cause errors.TooMany c.in-TooMany.is c.tell_cause-in-TooMany.ensures

pub returns-in-Memory : goal.returns-in-Memory
returns-in-Memory g c = cause_told
    (TellsLine (g.E.Sink.written c.args.err.now) (g.E.Sink.written c.tell_cause-in-Memory.new.err) (g.E.Sink.faults c.args.err.now) (g.E.Sink.faults c.tell_cause-in-Memory.new.err))
    c.args.cause errors.Memory c.in-Memory.is c.tell_cause-in-Memory.ensures
