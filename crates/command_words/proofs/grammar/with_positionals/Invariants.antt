use Rattle.std.proofs.Common.{◌≡◌, take}
use Rattle.clap.specs.Walk.{texts}
use Rattle.clap.specs.Simple.{app_of, new_rule}
use Rattle.command_words.specs.Grammar.{with_rules}
use Rattle.command_words.proofs.grammar.with_positionals.Given as goal

abbrev pub invariant-names : goal.invariant-names
invariant-names l = app_of l.command ≡ with_rules new_rule (app_of l.fn.command) (texts (take l.name-index l.names))
