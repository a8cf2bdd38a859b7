-- Values in a world in which things stand elsewhere or have aged.
use Rattle.std.proofs.Common.{◌≡◌, inl, inr, ℕ, List, [], ◌∷◌, refl, sym, ◌∙◌, ap, subst, pos}
use Rattle.std.specs.Prelude.{ℤ, ◌+ℤ◌, ◌≤ℤ◌}
use Rattle.strided.specs.Concrete.{signed}
use Rattle.strided.specs.Interval.{least, greatest}
use Rattle.vset.specs.declared.part.Part.{Part}
use Rattle.vset.specs.Members.{IsInParts, HasValue, IsOffset, HasOffset}
use Rattle.vset.specs.Values.{Values, Top, Parts}
use Rattle.vset.specs.World.{World, Thing, IsIn, base_of, region_of}

-- a word as an offset from a thing
pub record Points (lane : ℕ) (w : World) (n : ℕ) (v : Values) : Type 0 where
  pub thing : Thing
  pub is_in : IsIn w thing
  pub offset : ℤ
  pub low : least ≤ℤ offset
  pub high : offset ≤ℤ greatest
  pub reached : signed (pos n) ≡ signed (pos (base_of thing) +ℤ offset)
  pub has : HasOffset (region_of lane thing) offset v

pub points_of : (lane : ℕ) (w : World) (n : ℕ) (ps : List Part) → IsInParts lane w n ps → Points lane w n (Parts ps)
points_of lane w n [] h = absurd h
points_of lane w n (x ∷ ps) (inl h) =
    record { thing = h.thing; is_in = h.is_in; offset = h.offset; low = h.low; high = h.high; reached = h.reached; has = inl (sym h.region, h.within) }
points_of lane w n (x ∷ ps) (inr h) =
    let rest = points_of lane w n ps h in
    record { thing = rest.thing; is_in = rest.is_in; offset = rest.offset; low = rest.low; high = rest.high; reached = rest.reached; has = inr rest.has }

module _ (lane : ℕ) (w : World) (n : ℕ) (t : Thing) (is_in : IsIn w t) (offset : ℤ) (low : least ≤ℤ offset) (high : offset ≤ℤ greatest) (reached : signed (pos n) ≡ signed (pos (base_of t) +ℤ offset)) where
  in_parts : (ps : List Part) → IsOffset (region_of lane t) offset ps → IsInParts lane w n ps
  in_parts [] h = absurd h
  in_parts (x ∷ ps) (inl h) = inl (record { thing = t; is_in = is_in; region = sym h.0; offset = offset; within = h.1; low = low; high = high; reached = reached })
  in_parts (x ∷ ps) (inr h) = inr (in_parts ps h)

  pub value_from : (v : Values) → HasOffset (region_of lane t) offset v → HasValue lane w n v
  value_from Top h = tt
  value_from (Parts ps) h = in_parts ps h

-- a thing of another world that stands in its place
pub record Stands (lane : ℕ) (w : World) (t : Thing) (v u : Values) : Type 0 where
  pub now : Thing
  pub is_in : IsIn w now
  pub base : base_of now ≡ base_of t
  pub has : (o : ℤ) → HasOffset (region_of lane t) o v → HasOffset (region_of lane now) o u

pub moved_value : (lane : ℕ) (w x : World) (n : ℕ) (v u : Values) → ((t : Thing) → IsIn w t → Stands lane x t v u) → (v ≡ Top → u ≡ Top) → HasValue lane w n v → HasValue lane x n u
moved_value lane w x n Top u move top h = subst (HasValue lane x n) (sym (top refl)) tt
moved_value lane w x n (Parts ps) u move top h =
    let at = points_of lane w n ps h in
    let there = move at.thing at.is_in in
    value_from lane x n there.now there.is_in at.offset at.low at.high (at.reached ∙ ap (λ b. signed (pos b +ℤ at.offset)) (sym there.base)) u (there.has at.offset at.has)
