use Rattle.std.proofs.Common.{Some, None, lit<}
use Rattle.std.proofs.lemmas.Str.Pattern.{split_once_first}
use Rattle.command_words.proofs.ExternLemmas.{one_part, more_parts}
use Rattle.command_words.proofs.values.first_part.Goals as goal

pub returns-in-None-clause-parts : goal.returns-in-None-clause-parts
returns-in-None-clause-parts c = one_part c.args.text.now (split_once_first 44 c.args.text.now None c.in-None.ensures.cases (lit< tt))

pub returns-in-Some-clause-parts : goal.returns-in-Some-clause-parts
returns-in-Some-clause-parts c =
    let cut = split_once_first 44 c.args.text.now (Some (c.in-Some.part, c.in-Some.others)) c.in-Some.ensures.cases (lit< tt) in
    more_parts c.args.text.now c.in-Some.part.now c.in-Some.others.now cut.0 cut.1 cut.2
