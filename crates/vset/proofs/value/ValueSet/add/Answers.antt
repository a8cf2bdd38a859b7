use Rattle.std.proofs.Common.{sym, subst}
use Rattle.std.proofs.lemmas.Result.{IfOk-weaker}
use Rattle.vset.specs.declared.sums.Pairing.TheVariants.{Sum}
use Rattle.vset.specs.Members.{HasValue}
use Rattle.vset.proofs.SumLemmas.{add_has, made_of}
use Rattle.vset.specs.Operations.{add}
use Rattle.vset.proofs.value.ValueSet.add.Goals as goal

pub returns-clause-sound : goal.returns-clause-sound
unfolding add
returns-clause-sound c = λ lane w m n lt a b.
    IfOk-weaker c.combined.result _ _ (λ v e. subst (HasValue lane w (made_of Sum m n)) (sym e) (add_has lane w m n c.args.self.now c.args.other.now lt c.combined.ensures.forms.0 c.combined.ensures.forms.1 a b)) c.combined.ensures.value
