-- Bounds that no member reaches.
use Rattle.std.proofs.Common.{◌≡◌, ◌⊎◌, refl, ◌∙◌, ⊎_elim, arith}
use Rattle.std.specs.Prelude.{ℤ, ◌≤ℤ◌, ◌<ℤ◌, Option, Some, None}
use Rattle.std.proofs.lemmas.Int.{ints}
use Rattle.strided.specs.Interval.{Interval, IsCanonical, IsMember, IsClipped}
use Rattle.strided.specs.Operations.{clip}
use Rattle.strided.proofs.BoundLemmas.{clip_exact}
use Rattle.strided.proofs.MemberLemmas.{member_above}

member_high : (v : ℤ) (a : Interval) → IsMember v a → v ≤ℤ a.hi
member_high v a m = m.in_range

nothing_clipped : (a : Interval) (lo hi : ℤ) (r : Option Interval) → IsClipped a lo hi r → (a.hi <ℤ lo) ⊎ (hi <ℤ a.lo) → None ≡ r
nothing_clipped a lo hi None h out = refl
nothing_clipped a lo hi (Some c) h out =
    let w = (h.1 c.lo).0 h.0 in
    let high = member_high c.lo a w.0 in
    let low = member_above c.lo a w.0 in
    ⊎_elim (λ above. absurd (omega (arith, ints, above, high, w.1))) (λ under. absurd (omega (arith, ints, under, low, w.2))) out

pub nothing_met : (a : Interval) (lo hi : ℤ) → IsCanonical a → (a.hi <ℤ lo) ⊎ (hi <ℤ a.lo) → None ≡ clip a lo hi
nothing_met a lo hi form out = nothing_clipped a lo hi (clip a lo hi) (clip_exact a lo hi form) out

pub same_clip : (r : Option Interval) (a : Interval) {x y : ℤ} → r ≡ clip a x y → (lo hi : ℤ) → x ≡ lo → y ≡ hi → r ≡ clip a lo hi
same_clip r a is lo hi p q = is ∙ (λ i. clip a (p i) (q i))
