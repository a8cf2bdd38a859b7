use Rattle.std.proofs.Common.{[], ◌∷◌, ◌++◌}
use Rattle.std.specs.Prelude.{codes}
use Rattle.surf_base.specs.Sink.{Appends, AppendsPart}
use Rattle.surf_base.proofs.Appending.{appends_then, part_then}
use Rattle.surf_prog.specs.Once.{numbers_text, numbered_line}
use Rattle.surf_prog.proofs.RefusalLaws.{part_longer, on_err, on_err_then, on_ok_then}
use Rattle.surf_prog.proofs.refusal.write_cause.Goals as goal

pub returns-in_err-write-clause-part : goal.returns-in_err-write-clause-part
returns-in_err-write-clause-part g c =
    let written = g.E.Sink.written in
    let old = written c.args.err.now in
    let front = codes "surf: image " in
    let name = c.args.name.now in
    let numbers = numbers_text c.args.numbers.now in
    let line = numbered_line c.args.name.now c.args.numbers.now in
    let one = written c.write.new.self in
    on_err c.from_residual.result (AppendsPart old one line)
    (part_longer old one front (name ++ (numbers ++ 10 ∷ [])) c.in_err-write.ensures.part)

pub returns-in_err-write-2-clause-part : goal.returns-in_err-write-2-clause-part
returns-in_err-write-2-clause-part g c =
    let written = g.E.Sink.written in
    let old = written c.args.err.now in
    let front = codes "surf: image " in
    let name = c.args.name.now in
    let numbers = numbers_text c.args.numbers.now in
    let line = numbered_line c.args.name.now c.args.numbers.now in
    let one = written c.write.new.self in
    let two = written c.write-2.new.self in
    on_err c.from_residual-in_err-write-2.result (AppendsPart old two line)
    (part_then old one two front (name ++ (numbers ++ 10 ∷ [])) c.in_ok-write.ensures.appended
    (part_longer one two name (numbers ++ 10 ∷ []) c.in_err-write-2.ensures.part))

pub returns-in_err-write_numbers-clause-part : goal.returns-in_err-write_numbers-clause-part
returns-in_err-write_numbers-clause-part g c =
    let written = g.E.Sink.written in
    let old = written c.args.err.now in
    let front = codes "surf: image " in
    let name = c.args.name.now in
    let numbers = numbers_text c.args.numbers.now in
    let line = numbered_line c.args.name.now c.args.numbers.now in
    let one = written c.write.new.self in
    let two = written c.write-2.new.self in
    let three = written c.write_numbers.new.err in
    on_err c.from_residual-in_err-write_numbers.result (AppendsPart old three line)
    (part_then old one three front (name ++ (numbers ++ 10 ∷ [])) c.in_ok-write.ensures.appended
    (part_then one two three name (numbers ++ 10 ∷ []) c.in_ok-write-2.ensures.appended
    (part_longer two three numbers (10 ∷ []) c.in_err-write_numbers.ensures.part)))

pub returns-clause-ok : goal.returns-clause-ok
returns-clause-ok g c =
    let written = g.E.Sink.written in
    let old = written c.args.err.now in
    let front = codes "surf: image " in
    let name = c.args.name.now in
    let numbers = numbers_text c.args.numbers.now in
    let line = numbered_line c.args.name.now c.args.numbers.now in
    let one = written c.write.new.self in
    let two = written c.write-2.new.self in
    let three = written c.write_numbers.new.err in
    let four = written c.write-3.new.self in
    on_ok_then c.write-3.result (Appends three four (10 ∷ [])) (Appends old four line)
    (λ last.
    appends_then old one four front (name ++ (numbers ++ 10 ∷ [])) c.in_ok-write.ensures.appended
    (appends_then one two four name (numbers ++ 10 ∷ []) c.in_ok-write-2.ensures.appended
    (appends_then two three four numbers (10 ∷ []) c.in_ok-write_numbers.ensures.ok last)))
    c.write-3.ensures.appended

pub returns-clause-part : goal.returns-clause-part
returns-clause-part g c =
    let written = g.E.Sink.written in
    let old = written c.args.err.now in
    let front = codes "surf: image " in
    let name = c.args.name.now in
    let numbers = numbers_text c.args.numbers.now in
    let line = numbered_line c.args.name.now c.args.numbers.now in
    let one = written c.write.new.self in
    let two = written c.write-2.new.self in
    let three = written c.write_numbers.new.err in
    let four = written c.write-3.new.self in
    on_err_then c.write-3.result (AppendsPart three four (10 ∷ [])) (AppendsPart old four line)
    (λ last.
    part_then old one four front (name ++ (numbers ++ 10 ∷ [])) c.in_ok-write.ensures.appended
    (part_then one two four name (numbers ++ 10 ∷ []) c.in_ok-write-2.ensures.appended
    (part_then two three four numbers (10 ∷ []) c.in_ok-write_numbers.ensures.ok last)))
    c.write-3.ensures.part
