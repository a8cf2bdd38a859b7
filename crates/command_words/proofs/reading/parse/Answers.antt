use Rattle.std.proofs.Common.{map, sym, subst}
use Rattle.std.specs.String.{string_bytes}
use Rattle.clap.specs.Simple.{app_of}
use Rattle.command_words.specs.Reading.{Tells}
use Rattle.command_words.proofs.GrammarLemmas.{said_by, unsaid}
use Rattle.command_words.proofs.reading.parse.Goals as goal

pub returns-in-Ok : goal.returns-in-Ok
returns-in-Ok c =
    let words = map string_bytes c.args.words.now in
    let says = said_by (app_of c.in_ok-command.command) words c.in-Ok.matches c.in_ok-command.ensures c.in-Ok.ensures.matches c.in-Ok.ensures.kinds in
    subst (λ said. Tells c.line_from.result said) (sym says) c.line_from.ensures

pub returns-in-Err : goal.returns-in-Err
returns-in-Err c =
    unsaid (app_of c.in_ok-command.command) (map string_bytes c.args.words.now) c.in-Err.error c.reason.result c.in_ok-command.ensures c.in-Err.ensures.kinds c.reason.ensures
