-- The least member of an interval from a bound on.
use Rattle.std.proofs.Common.{◌≡◌, ℤ, Option, Some, None, subst, sym, ⊎_elim, arith}
use Rattle.std.specs.Prelude.{◌≤ℤ◌, ◌<ℤ◌}
use Rattle.std.specs.Int.{int_max}
use Rattle.std.proofs.lemmas.Int.{ints, clamps}
use Rattle.strided.specs.Interval.{Interval, IsMember, IsClipped}
use Rattle.strided.proofs.MemberLemmas.{member_above, int_either}
use Rattle.alocs.specs.Halves.{IsFirstFrom}

pub first_none : (a : Interval) (bound lo hi : ℤ) (r : Option Interval) → lo ≡ int_max bound a.lo → hi ≡ a.hi → r ≡ None → IsClipped a lo hi r → IsFirstFrom a bound None
first_none a bound lo hi r low high none clipped v m =
    let never : (w : ℤ) → IsMember w a × (lo ≤ℤ w) × (w ≤ℤ hi) → ⊥ = subst (λ o. IsClipped a lo hi o) none clipped in
    let up = member_above v a m in
    let below = m.in_range in
    ⊎_elim (λ (le : bound ≤ℤ v). absurd (never v (m, omega (arith, ints, clamps), omega (arith, ints)))) (λ (lt : v <ℤ bound). lt) (int_either bound v)

pub first_some : (a c : Interval) (bound lo hi first : ℤ) (r : Option Interval) → lo ≡ int_max bound a.lo → hi ≡ a.hi → r ≡ Some c → first ≡ c.lo → IsClipped a lo hi r → IsFirstFrom a bound (Some first)
first_some a c bound lo hi first r low high some is clipped =
    let both = subst (λ o. IsClipped a lo hi o) some clipped in
    let within = (both.1 c.lo).0 both.0 in
    let above = within.1 in
    subst (λ (f : ℤ). IsFirstFrom a bound (Some f)) (sym is) (
      within.0,
      omega (arith, ints, clamps),
      λ v m le.
          let up = member_above v a m in
          let below = m.in_range in
          member_above v c ((both.1 v).1 (m, omega (arith, ints, clamps), omega (arith, ints))),
    )
