use Rattle.std.proofs.Common.{sym}
use Rattle.program_shelf.proofs.ListLemmas.{name_is_utf8}
use Rattle.program_shelf.proofs.list.name_of.Goals as goal

pub returns-in-Err : goal.returns-in-Err
returns-in-Err c = absurd (c.in-Err.ensures.cases.0 (name_is_utf8 c.args.line.now (sym c.if-not-is_name.ensures)))
