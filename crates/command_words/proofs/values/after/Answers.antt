use Rattle.command_words.proofs.TextLemmas.{after_is}
use Rattle.command_words.proofs.values.after.Goals as goal

pub returns : goal.returns
returns c = after_is c.args.front.now c.args.text.now c.strip_prefix.result c.strip_prefix.ensures.cases
