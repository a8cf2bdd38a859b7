use Rattle.std.proofs.Common.{refl, append_assoc}
use Rattle.requests.proofs.FilledLemmas.{filled_same}
use Rattle.requests.proofs.text.put_last_line.Goals as goal

pub returns-clause-text : goal.returns-clause-text
returns-clause-text c before text filled =
    filled_same before c.put.new.into c.put.result _ _ (simp append_assoc refl)
    (c.put.ensures.text before _ (c.put_number-end.ensures.text before _ (c.put_number-counted.ensures.text before text filled)))
