use Rattle.std.proofs.Common.{◌≡◌, take}
use Rattle.clap.specs.Walk.{texts}
use Rattle.clap.specs.Simple.{app_of}
use Rattle.command_words.specs.Grammar.{option, with_rules}
use Rattle.command_words.proofs.grammar.with_options.Given as goal

abbrev pub invariant-names : goal.invariant-names
invariant-names l = app_of l.command ≡ with_rules option (app_of l.fn.command) (texts (take l.name-index l.names))
