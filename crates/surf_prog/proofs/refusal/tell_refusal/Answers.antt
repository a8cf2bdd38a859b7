use Rattle.std.proofs.Common.{List, [], ◌∷◌, ◌++◌, ℕ, refl, ap, ◌∙◌}
use Rattle.std.specs.Prelude.{codes}
use Rattle.surf_prog.specs.declared.refusal.Refusal.TheVariants as refusal
use Rattle.surf_prog.specs.Once.{TellsLine, image_line, entry_line, round_line, output_line, memory_line}
use Rattle.surf_prog.proofs.RefusalLaws.{told_of}
use Rattle.surf_prog.proofs.refusal.tell_refusal.Goals as goal

pub returns-in-Shelf : goal.returns-in-Shelf
returns-in-Shelf g c = told_of
    (TellsLine (g.E.Sink.written c.args.err.now) (g.E.Sink.written c.tell-in-Shelf.new.err) (g.E.Sink.faults c.args.err.now) (g.E.Sink.faults c.tell-in-Shelf.new.err))
    c.args.refusal.now (refusal.Shelf c.in-Shelf.name) (codes "surf: shelf " ++ (c.as_bytes.result.now ++ 10 ∷ [])) c.in-Shelf.is
    (ap (λ (l : List ℕ). codes "surf: shelf " ++ (l ++ 10 ∷ [])) (c.as_bytes.ensures.value ∙ c.as_str.ensures)) c.tell-in-Shelf.ensures

pub returns-in-TooLong : goal.returns-in-TooLong
returns-in-TooLong g c = told_of
    (TellsLine (g.E.Sink.written c.args.err.now) (g.E.Sink.written c.tell-in-TooLong.new.err) (g.E.Sink.faults c.args.err.now) (g.E.Sink.faults c.tell-in-TooLong.new.err))
    c.args.refusal.now (refusal.TooLong c.in-TooLong.name) (codes "surf: too long " ++ (c.as_bytes-in-TooLong.result.now ++ (codes " 16777216" ++ 10 ∷ []))) c.in-TooLong.is
    (ap (λ (l : List ℕ). codes "surf: too long " ++ (l ++ (codes " 16777216" ++ 10 ∷ []))) (c.as_bytes-in-TooLong.ensures.value ∙ c.as_str-in-TooLong.ensures)) c.tell-in-TooLong.ensures

pub returns-in-Image : goal.returns-in-Image
returns-in-Image g c = told_of
    (TellsLine (g.E.Sink.written c.args.err.now) (g.E.Sink.written c.complain_of_image.new.err) (g.E.Sink.faults c.args.err.now) (g.E.Sink.faults c.complain_of_image.new.err))
    c.args.refusal.now (refusal.Image c.in-Image.cause) (image_line c.in-Image.cause) c.in-Image.is refl c.complain_of_image.ensures

pub returns-in-Entry : goal.returns-in-Entry
returns-in-Entry g c = told_of
    (TellsLine (g.E.Sink.written c.args.err.now) (g.E.Sink.written c.tell-in-Entry.new.err) (g.E.Sink.faults c.args.err.now) (g.E.Sink.faults c.tell-in-Entry.new.err))
    c.args.refusal.now refusal.Entry entry_line c.in-Entry.is refl c.tell-in-Entry.ensures

pub returns-in-Round : goal.returns-in-Round
returns-in-Round g c = told_of
    (TellsLine (g.E.Sink.written c.args.err.now) (g.E.Sink.written c.tell_round.new.err) (g.E.Sink.faults c.args.err.now) (g.E.Sink.faults c.tell_round.new.err))
    c.args.refusal.now (refusal.Round c.in-Round.number) (round_line c.in-Round.number) c.in-Round.is refl c.tell_round.ensures

pub returns-in-Absent : goal.returns-in-Absent
returns-in-Absent g c = told_of
    (TellsLine (g.E.Sink.written c.args.err.now) (g.E.Sink.written c.tell-in-Absent.new.err) (g.E.Sink.faults c.args.err.now) (g.E.Sink.faults c.tell-in-Absent.new.err))
    c.args.refusal.now (refusal.Absent c.in-Absent.at) (codes "surf: absent " ++ (c.hex8.result ++ 10 ∷ [])) c.in-Absent.is
    (ap (λ (l : List ℕ). codes "surf: absent " ++ (l ++ 10 ∷ [])) c.hex8.ensures.digits) c.tell-in-Absent.ensures

pub returns-in-Output : goal.returns-in-Output
returns-in-Output g c = told_of
    (TellsLine (g.E.Sink.written c.args.err.now) (g.E.Sink.written c.tell-in-Output.new.err) (g.E.Sink.faults c.args.err.now) (g.E.Sink.faults c.tell-in-Output.new.err))
    c.args.refusal.now refusal.Output output_line c.in-Output.is refl c.tell-in-Output.ensures

pub returns-in-Memory : goal.returns-in-Memory
returns-in-Memory g c = told_of
    (TellsLine (g.E.Sink.written c.args.err.now) (g.E.Sink.written c.tell-in-Memory.new.err) (g.E.Sink.faults c.args.err.now) (g.E.Sink.faults c.tell-in-Memory.new.err))
    c.args.refusal.now refusal.Memory memory_line c.in-Memory.is refl c.tell-in-Memory.ensures
