use Rattle.std.proofs.Common.{◌≡◌, ◌<◌, ◌∷◌, length, map, sym, ap, ◌∙◌, rules, arith}
use Rattle.std.specs.String.{string_bytes}
use Rattle.surf_base.specs.Sink.{lines_of}
use Rattle.surf_base.proofs.TextLines.{line_split}
use Rattle.program_shelf.proofs.ListLemmas.{one_name, all_lines, no_line, refused}
use Rattle.program_shelf.proofs.list.read_list.Goals as goal

pub returns-in-Err : goal.returns-in-Err
returns-in-Err c =
    let some : 0 < length c.lines.rest.now = search rules in
    let split : lines_of c.lines.rest.now ≡ c.split_at.result.0.now ∷ lines_of c.split_at.result.1.now =
    line_split _ _ _ _ some c.first_line_len.ensures c.split_at.ensures.front c.split_at.ensures.back in
    record { told = refused c.args.bytes.now c.lines.rest.now c.split_at.result.0.now c.split_at.result.1.now (map string_bytes c.lines.names.items) c.lines.number c.in-Err.error split some c.lines.invariant c.in-Err.ensures }

pub lines-preserved : goal.lines-preserved
lines-preserved c =
    let some : 0 < length c.lines.rest.now = search rules in
    let split : lines_of c.lines.rest.now ≡ c.split_at.result.0.now ∷ lines_of c.split_at.result.1.now =
    line_split _ _ _ _ some c.first_line_len.ensures c.split_at.ensures.front c.split_at.ensures.back in
    one_name string_bytes c.args.bytes.now c.lines.rest.now c.split_at.result.0.now c.split_at.result.1.now c.lines.names.items c.add.new.names.items c.in-Ok.name c.lines.number split some
    (omega (arith, c.first_line_len.ensures, c.split_at.ensures.front_len, c.split_at.ensures.back_len)) (omega (arith, c.first_line_len.ensures, c.split_at.ensures.front_len)) c.in-Ok.ensures.0 c.in-Ok.ensures.1 c.in-Ok-add.ensures c.lines.invariant

pub returns-then-number-eq0 : goal.returns-then-number-eq0
returns-then-number-eq0 c =
    let none : length c.lines.rest.now ≡ 0 = search rules in
    record { told = no_line c.args.bytes.now (sym (ap length (c.lines.invariant.some c.if-number-eq0.true)) ∙ none) }

pub returns : goal.returns
returns c =
    let none : length c.lines.rest.now ≡ 0 = search rules in
    record { told = all_lines c.args.bytes.now c.lines.rest.now (map string_bytes c.lines.names.items) c.lines.number none (let room = c.lines.invariant.room in omega (arith, c.if-number-eq0.false)) c.lines.invariant }
