use Rattle.std.proofs.Common.{sym, subst}
use Rattle.std.proofs.lemmas.Result.{IfOk-weaker}
use Rattle.vset.specs.declared.sums.Pairing.TheVariants.{Difference}
use Rattle.vset.specs.Members.{HasValue}
use Rattle.vset.proofs.SumLemmas.{sub_has, made_of}
use Rattle.vset.specs.Operations.{sub}
use Rattle.vset.proofs.value.ValueSet.sub.Goals as goal

pub returns-clause-sound : goal.returns-clause-sound
unfolding sub
returns-clause-sound c = λ lane w m n lt a b.
    IfOk-weaker c.combined.result _ _ (λ v e. subst (HasValue lane w (made_of Difference m n)) (sym e) (sub_has lane w m n c.args.self.now c.args.other.now lt c.combined.ensures.forms.0 c.combined.ensures.forms.1 a b)) c.combined.ensures.value
