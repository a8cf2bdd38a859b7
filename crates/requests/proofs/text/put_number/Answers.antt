use Rattle.std.proofs.Common.{◌≡◌, ◌++◌, decimal, ap, ◌∙◌, append_assoc}
use Rattle.requests.proofs.FilledLemmas.{filled_same}
use Rattle.requests.proofs.text.put_number.Goals as goal

pub returns-clause-text : goal.returns-clause-text
returns-clause-text c before text filled =
    let digits : c.as_bytes-digits.result.now ≡ decimal c.args.number = c.as_bytes-digits.ensures.value ∙ c.format.ensures.text in
    filled_same before c.put.new.into c.put.result _ _
    (append_assoc text c.args.front.now c.as_bytes-digits.result.now ∙ ap (λ t. text ++ (c.args.front.now ++ t)) digits)
    (c.put.ensures.text before _ (c.put-end.ensures.text before text filled))
