-- A difference from 0.
use Rattle.std.proofs.Common.{pos, sym, ap, subst, ◌∙◌}
use Rattle.strided.specs.Interval.{Interval, IsMember}
use Rattle.strided.specs.Operations.{neg, sub}
use Rattle.strided.proofs.SumLemmas.{member_one}
use Rattle.strided.proofs.interval.Si.neg.Goals as goal

pub returns-clause-value : goal.returns-clause-value
unfolding neg
returns-clause-value c = c.sub.ensures.value ∙ ap (λ (z : Interval). sub z c.args.self.now) c.one.ensures

pub returns-clause-sound : goal.returns-clause-sound
returns-clause-sound c v h =
    c.sub.ensures.sound (pos 0) v (subst (λ (z : Interval). IsMember (pos 0) z) (sym c.one.ensures) (member_one (pos 0))) h
