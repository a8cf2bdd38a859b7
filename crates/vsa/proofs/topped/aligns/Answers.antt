use Rattle.std.proofs.Common.{◌∙◌, ap, rules}
use Rattle.std.proofs.lemmas.Fn.{filter_same}
use Rattle.std.specs.Prelude.{filter}
use Rattle.vsa.specs.Topped.{has_known}
use Rattle.vsa.proofs.topped.aligns.Goals as goal

pub returns : goal.returns
returns c = filter_same _ (has_known c.args.old.now) _ (λ x b q h. search rules) _ _ c.retain.ensures.filtered ∙ ap (filter (has_known c.args.old.now)) c.in_ok-out.ensures.items
