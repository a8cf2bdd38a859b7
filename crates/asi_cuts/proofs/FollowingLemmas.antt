-- The forced cuts are the least set that follows; what a fact carries.
use Rattle.std.proofs.Common.{◌≡◌, ℕ, true, ◌⊎◌, inl, inr, ⊎_elim, ℤ, List, arith}
use Rattle.std.proofs.lemmas.Int.{ints}
use Rattle.image_map.specs.declared.image.Segment.{Segment}
use Rattle.image_map.specs.declared.region.RegionId.{RegionId}
use Rattle.alocs.specs.declared.cells.CutList.{CutList}
use Rattle.asi_cuts.specs.declared.facts.Constraint.{Constraint}
use Rattle.asi_cuts.specs.declared.facts.Constraint.TheVariants.{Bounds, Elements, Same}
use Rattle.asi_cuts.specs.Cuts.{Carries, IsCut, IsMoved, IsRepeated, keeps, makes, carries, lies_in}
use Rattle.asi_cuts.specs.Following.{Follows, IsWithin}

pub cuts_follow : (kept : List CutList) (facts : List Constraint) (segments : List Segment) → Follows kept facts segments (IsCut kept facts segments)
cuts_follow kept facts segments = record {
  kept_cuts = λ r offset has lies. keeps has lies;
  made_cuts = λ f r offset among by lies. makes among by lies;
  carried_cuts = λ f q cut r offset among by there lies. carries among by there lies;
}

pub fewest_cuts : (kept : List CutList) (facts : List Constraint) (segments : List Segment) (P : RegionId → ℤ → Type 0) → Follows kept facts segments P → (r : RegionId) (offset : ℤ) → IsCut kept facts segments r offset → P r offset
fewest_cuts kept facts segments P p r offset (keeps has lies) = p.kept_cuts r offset has lies
fewest_cuts kept facts segments P p r offset (makes {f = f} among by lies) = p.made_cuts f r offset among by lies
fewest_cuts kept facts segments P p r offset (carries {f = f} {q = q} {cut = cut} among by there lies) =
    p.carried_cuts f q cut r offset among by (fewest_cuts kept facts segments P p q cut there) lies

pub lies_inside : (kept : List CutList) (facts : List Constraint) (segments : List Segment) (r : RegionId) (offset : ℤ) → IsCut kept facts segments r offset → lies_in segments r offset ≡ true
lies_inside kept facts segments r offset (keeps has lies) = lies
lies_inside kept facts segments r offset (makes among by lies) = lies
lies_inside kept facts segments r offset (carries among by there lies) = lies

repeated_back : (start : ℤ) (stride count len : ℕ) (cut offset : ℤ) → IsRepeated start stride count len cut offset → IsRepeated start stride count len offset cut
repeated_back start stride count len cut offset m = record {
  from = m.to;
  to = m.from;
  distance = m.distance;
  from_counts = m.to_counts;
  to_counts = m.from_counts;
  inside = m.inside;
  from_reaches = m.to_reaches;
  to_reaches = m.from_reaches;
  at = m.is;
  is = m.at;
}

moved_back : (a : RegionId) (a_start : ℤ) (b : RegionId) (b_start : ℤ) (len : ℕ) (q : RegionId) (cut : ℤ) (r : RegionId) (offset : ℤ) → IsMoved a a_start b b_start len q cut r offset → IsMoved b b_start a a_start len r offset q cut
moved_back a a_start b b_start len q cut r offset m = record {
  distance = m.distance;
  inside = m.inside;
  reaches = m.reaches;
  there = m.here;
  at = m.is;
  here = m.there;
  is = m.at;
}

pub back : (f : Constraint) (q : RegionId) (cut : ℤ) (r : RegionId) (offset : ℤ) → Carries f q cut r offset → Carries f r offset q cut
back (Bounds region start end) q cut r offset h = absurd h
back (Elements region start stride count len) q cut r offset h = (h.1, h.0, repeated_back start stride count len cut offset h.2)
back (Same a a_start b b_start len) q cut r offset h =
    ⊎_elim (λ m. inr (moved_back a a_start b b_start len q cut r offset m)) (λ m. inl (moved_back b b_start a a_start len q cut r offset m)) h

moved_inside : (a : RegionId) (a_start : ℤ) (b : RegionId) (b_start : ℤ) (len : ℕ) (q : RegionId) (cut : ℤ) (r : RegionId) (offset : ℤ) → IsMoved a a_start b b_start len q cut r offset
    → (q ≡ a) × IsWithin a_start len cut × (r ≡ b) × IsWithin b_start len offset
moved_inside a a_start b b_start len q cut r offset m =
    let low = m.inside in
    let high = m.reaches in
    let from = m.at in
    let to = m.is in
    (m.there, (omega (arith, ints), omega (arith, ints)), m.here, (omega (arith, ints), omega (arith, ints)))

pub inside : (a : RegionId) (a_start : ℤ) (b : RegionId) (b_start : ℤ) (len : ℕ) (q : RegionId) (cut : ℤ) (r : RegionId) (offset : ℤ) → Carries (Same a a_start b b_start len) q cut r offset
    → ((q ≡ a) × IsWithin a_start len cut × (r ≡ b) × IsWithin b_start len offset) ⊎ ((q ≡ b) × IsWithin b_start len cut × (r ≡ a) × IsWithin a_start len offset)
inside a a_start b b_start len q cut r offset h =
    ⊎_elim (λ m. inl (moved_inside a a_start b b_start len q cut r offset m)) (λ m. inr (moved_inside b b_start a a_start len q cut r offset m)) h
