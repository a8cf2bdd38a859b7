-- The ends are the least and the greatest; the laws on members do the rest.
use Rattle.std.proofs.Common.{sym, subst, arith}
use Rattle.std.specs.Prelude.{◌≤ℤ◌}
use Rattle.std.specs.Int.{int_min, int_max}
use Rattle.std.proofs.lemmas.Int.{ints, clamps}
use Rattle.strided.specs.Interval.{Interval, IsBelow}
use Rattle.strided.specs.Operations.{join, joint_stride}
use Rattle.strided.proofs.MemberLemmas.{canonical_order}
use Rattle.strided.proofs.SpacedLemmas.{same_spaced}
use Rattle.strided.specs.Rows.{HasJoinedEnds}
use Rattle.strided.proofs.JoinLemmas.{member_join_left, member_join_right, join_ends}
use Rattle.strided.proofs.interval.Si.join.Goals as goal

pub returns-clause-value : goal.returns-clause-value
unfolding join
returns-clause-value c =
    let a : Interval = c.args.self.now in
    let b : Interval = c.args.other.now in
    same_spaced c.spaced.ensures (joint_stride a b) (int_min a.lo b.lo) (int_max a.hi b.hi)
    c.joint_stride.ensures.value (omega (arith, ints, clamps)) (omega (arith, ints, clamps))

pub returns-clause-holds_self : goal.returns-clause-holds_self
returns-clause-holds_self c =
    let a : Interval = c.args.self.now in
    let b : Interval = c.args.other.now in
    subst (λ (r : Interval). IsBelow a r) (sym (returns-clause-value c)) (λ v h. member_join_left v a b h)

pub returns-clause-holds_other : goal.returns-clause-holds_other
returns-clause-holds_other c =
    let a : Interval = c.args.self.now in
    let b : Interval = c.args.other.now in
    subst (λ (r : Interval). IsBelow b r) (sym (returns-clause-value c)) (λ v h. member_join_right v a b h)

pub spaced-requires : goal.spaced-requires
spaced-requires c =
    let a : Interval = c.args.self.now in
    let up : a.lo ≤ℤ a.hi = canonical_order a c.lo.ensures.canonical in
    omega (arith, ints, clamps)

pub returns-clause-ends : goal.returns-clause-ends
returns-clause-ends c =
    let a : Interval = c.args.self.now in
    let b : Interval = c.args.other.now in
    subst (λ (r : Interval). HasJoinedEnds a b r) (sym (returns-clause-value c)) (join_ends a b c.lo.ensures.canonical c.lo-2.ensures.canonical)
