use Rattle.std.proofs.lemmas.Result.{on_ok_weaker}
use Rattle.round_texts.proofs.JoinLemmas.{parts_pushed}
use Rattle.round_texts.proofs.nodes.push_parts.Goals as goal

pub returns-in_ok-push_part-in-Some : goal.returns-in_ok-push_part-in-Some
returns-in_ok-push_part-in-Some c =
    on_ok_weaker c.push_more_parts.result (λ more. parts_pushed c.args.text.now.items c.push_part.new.text.items c.push_more_parts.new.text.items c.args.parts.now c.in-Some.others.now c.in-Some.first.now c.in-Some.ensures.cases.0 c.in_ok-push_part-in-Some.ensures more) c.push_more_parts.ensures
