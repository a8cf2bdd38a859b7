use Rattle.std.proofs.Common.{arith}
use Rattle.clap.specs.Simple.{app_of, new_rule}
use Rattle.command_words.proofs.GrammarLemmas.{one_more}
use Rattle.command_words.proofs.grammar.with_positionals.Goals as goal

pub names-preserved : goal.names-preserved
names-preserved c = one_more new_rule (app_of c.args.command) (app_of c.names.command) (app_of c.in_ok-command.command) c.args.names.now c.names.name-index _ (omega arith) c.names.invariant c.in_ok-command.ensures
