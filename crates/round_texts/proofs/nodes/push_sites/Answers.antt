use Rattle.std.proofs.lemmas.Result.{on_ok_weaker}
use Rattle.round_texts.proofs.JoinLemmas.{sites_pushed}
use Rattle.round_texts.proofs.nodes.push_sites.Goals as goal

pub returns-in_ok-push_digits-in-Some : goal.returns-in_ok-push_digits-in-Some
returns-in_ok-push_digits-in-Some c =
    on_ok_weaker c.push_newer_sites.result (λ more. sites_pushed c.args.text.now.items c.push_digits.new.text.items c.push_newer_sites.new.text.items c.args.sites.now c.in-Some.newer.now c.in-Some.oldest.now c.in-Some.ensures.cases.0 c.in_ok-push_digits-in-Some.ensures more) c.push_newer_sites.ensures
