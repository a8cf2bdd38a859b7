use Rattle.std.proofs.Common.{[], ◌∷◌, ◌++◌, ap, decimal, codes}
use Rattle.surf_base.specs.Hex.{hex8_text}
use Rattle.requests.proofs.FilledLemmas.{filled_none, filled_same, first_parts}
use Rattle.requests.proofs.text.put_first_line.Goals as goal

pub returns-clause-text : goal.returns-clause-text
returns-clause-text c =
    let before = c.args.into.now in
    filled_same before c.put.new.into c.put.result _ _
    (ap (λ t. codes "slice " ++ t)
    (first_parts c.hex8.result (hex8_text c.args.at) (codes " round ") (decimal c.args.round) (codes " lane ") (decimal c.args.lane) (10 ∷ []) c.hex8.ensures.digits))
    (c.put.ensures.text before _ (c.put_number-end.ensures.text before _ (c.put_number-numbered.ensures.text before _
    (c.put-asked.ensures.text before _ (c.put-word.ensures.text before [] (filled_none before))))))
