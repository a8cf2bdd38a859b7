-- The ends of the row; the laws on members do the rest.
use Rattle.std.proofs.Common.{◌≡◌, ℕ, ap, sym, subst, ◌∙◌, arith}
use Rattle.std.specs.Prelude.{◌≤ℤ◌}
use Rattle.std.proofs.lemmas.Int.{ints}
use Rattle.strided.specs.Interval.{Interval, IsBelow}
use Rattle.strided.specs.Operations.{widen, joint_stride, widened_lo, widened_hi}
use Rattle.strided.proofs.SpacedLemmas.{same_spaced}
use Rattle.strided.specs.Rows.{HasWidenedEnds}
use Rattle.strided.proofs.JoinLemmas.{member_widen_old, member_widen_new, widened_order, widen_ends}
use Rattle.strided.proofs.interval.Si.widen.Goals as goal

pub spaced-requires : goal.spaced-requires
spaced-requires c =
    let a : Interval = c.args.self.now in
    let b : Interval = c.args.other.now in
    let s : c.joint_stride-stride.result ≡ joint_stride a b = c.joint_stride-stride.ensures.value in
    let lo : c.widened_lo.result ≡ widened_lo (joint_stride a b) a b = c.widened_lo.ensures ∙ ap (λ (n : ℕ). widened_lo n a b) s in
    let up : widened_lo (joint_stride a b) a b ≤ℤ widened_hi a b = widened_order a b c.joint_stride-stride.ensures.forms.0 in
    omega (arith, ints)

pub returns-clause-value : goal.returns-clause-value
unfolding widen
returns-clause-value c =
    let a : Interval = c.args.self.now in
    let b : Interval = c.args.other.now in
    let s : c.joint_stride-stride.result ≡ joint_stride a b = c.joint_stride-stride.ensures.value in
    let lo : c.widened_lo.result ≡ widened_lo (joint_stride a b) a b = c.widened_lo.ensures ∙ ap (λ (n : ℕ). widened_lo n a b) s in
    same_spaced c.spaced.ensures (joint_stride a b) (widened_lo (joint_stride a b) a b) (widened_hi a b) s (omega (arith, ints)) (omega (arith, ints))

pub returns-clause-holds_self : goal.returns-clause-holds_self
returns-clause-holds_self c =
    let a : Interval = c.args.self.now in
    let b : Interval = c.args.other.now in
    subst (λ (r : Interval). IsBelow a r) (sym (returns-clause-value c)) (λ v h. member_widen_old v a b c.joint_stride-stride.ensures.forms.0 h)

pub returns-clause-holds_other : goal.returns-clause-holds_other
returns-clause-holds_other c =
    let a : Interval = c.args.self.now in
    let b : Interval = c.args.other.now in
    subst (λ (r : Interval). IsBelow b r) (sym (returns-clause-value c)) (λ v h. member_widen_new v a b c.joint_stride-stride.ensures.forms.1 h)

pub returns-clause-ends : goal.returns-clause-ends
returns-clause-ends c =
    let a : Interval = c.args.self.now in
    let b : Interval = c.args.other.now in
    let forms = c.joint_stride-stride.ensures.forms in
    subst (λ (r : Interval). HasWidenedEnds a b r) (sym (returns-clause-value c)) (widen_ends a b forms.0 forms.1)
