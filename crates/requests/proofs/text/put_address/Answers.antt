use Rattle.std.proofs.Common.{[], ◌∷◌, ◌++◌, ap, ◌∙◌, append_assoc}
use Rattle.requests.proofs.FilledLemmas.{filled_same}
use Rattle.requests.proofs.text.put_address.Goals as goal

pub returns-clause-text : goal.returns-clause-text
returns-clause-text c before text filled =
    filled_same before c.put.new.into c.put.result _ _
    (append_assoc text c.hex8.result (10 ∷ []) ∙ ap (λ t. text ++ (t ++ 10 ∷ [])) c.hex8.ensures.digits)
    (c.put.ensures.text before _ (c.put-end.ensures.text before text filled))
