-- Where a cut is moved to.
use Rattle.std.proofs.Common.{◌≡◌, ℕ, ◌<◌, Bool, true, false, ltb, refl, sym, subst, ap, ◌∙◌, arith}
use Rattle.std.specs.Prelude.{not}
use Rattle.std.proofs.lemmas.Bool.{true≢false, ltb-true}
use Rattle.image_map.specs.declared.region.RegionId.{RegionId}
use Rattle.image_map.specs.Regions.{same_region}
use Rattle.image_map.proofs.OrderLaws.{same_region-equal, same_region-itself}
use mir.Val.{bool_byte}

pub other_region : (a b : RegionId) → true ≡ not (same_region a b) → a ≡ b → ⊥
other_region a b other e =
    let s : same_region a b ≡ true = subst (λ (r : RegionId). same_region a r ≡ true) e (same_region-itself a) in
    absurd (true≢false (other ∙ ap not s))

not_not : (b : Bool) → false ≡ not b → b ≡ true
not_not true h = refl
not_not false h = absurd (true≢false (sym h))

pub alike : (a b : RegionId) → false ≡ not (same_region a b) → a ≡ b
alike a b h = same_region-equal a b (not_not (same_region a b) h)

byte_of : (b : Bool) (n : ℕ) → n ≡ bool_byte b → 0 < n → (b ≡ true) × (n ≡ 1)
byte_of true n is some = (refl, is)
byte_of false n is some = absurd (omega arith)

pub counted : (r a : RegionId) (shift len n : ℕ) → false ≡ not (same_region r a) → 0 < shift → n ≡ bool_byte (ltb shift len) → 0 < n → (r ≡ a) × (0 < shift) × (shift < len) × (n ≡ 1)
counted r a shift len n same more is some =
    let b = byte_of (ltb shift len) n is some in
    (alike r a same, more, ltb-true shift len b.0, b.1)
