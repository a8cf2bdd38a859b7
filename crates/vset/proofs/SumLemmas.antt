-- Members of sums and differences.

use Rattle.std.proofs.Common.{◌≡◌, ℕ, ◌+◌, ◌-◌, ◌%◌, ◌^◌, ◌<◌, ◌==◌, Bool, true, false, cond, ◌⊎◌, inl, inr, List, [], ◌∷◌, ◌++◌, map, Option, Some, None, refl, ◌∙◌, ap, subst, ℤ, pos, ◌+ℤ◌, arith}
use Rattle.std.specs.Prelude.{◌≤ℤ◌, ◌-ℤ◌}
use Rattle.std.proofs.lemmas.Int.{ints}
use Rattle.std.proofs.lemmas.Bool.{eqb-true}
use Rattle.image_map.specs.declared.region.RegionId.{RegionId}
use Rattle.image_map.specs.declared.region.RegionId.TheVariants.{Global, Frame, OldFrame, Heap, OldHeap}
use Rattle.strided.specs.Concrete.{signed, sum_of}
use Rattle.strided.specs.Interval.{Interval, IsMember, IsCanonical, least, greatest}
use Rattle.strided.specs.Operations as interval
use Rattle.strided.proofs.SumLemmas.{member_add, member_sub, add_canonical, sub_canonical, signed_fits}
use Rattle.vset.specs.declared.part.Part.{Part}
use Rattle.vset.specs.declared.part.Both.TheVariants.{Joined}
use Rattle.vset.specs.declared.sums.Pairing.{Pairing}
use Rattle.vset.specs.declared.sums.Pairing.TheVariants.{Sum, Difference}
use Rattle.vset.specs.Values.{Values, Top, Parts, AreCanonical, CanonicalValues}
use Rattle.vset.specs.Operations.{part, with_part, sum_region, difference_region, frame_difference, in_region, pair_of, pairs, gathered, settled_or_top, combined, add, sub}
use Rattle.vset.specs.World.{World, Thing, TheImage, IsIn, base_of, region_of}
use Rattle.vset.specs.Members.{IsPartMember, IsInParts, HasValue}
use Rattle.vset.proofs.WordLemmas.{sum_reached, difference_reached, distance_reached}
use Rattle.vset.proofs.WorldLemmas.{global_base, newest_of_frame, one_newest}
use Rattle.vset.proofs.MemberLemmas.{put_keeps, put_has, put_canonical, settled_has}

-- -- Pairs of parts

-- a pair's intervals are canonical where its parts' are
pair_canonical : (pairing : Pairing) (x y p : Part) → IsCanonical x.si → IsCanonical y.si → pair_of pairing x y ≡ Some p → IsCanonical p.si
pair_canonical Sum x y p cx cy e = made (sum_region x.region y.region) e
  where
    made : (r : Option RegionId) → in_region r (interval.add x.si y.si) ≡ Some p → IsCanonical p.si
    made None e = cc
    made (Some r) e = let is : part r (interval.add x.si y.si) ≡ p = cc in subst (λ (v : Part). IsCanonical v.si) is (add_canonical x.si y.si cx cy)
pair_canonical Difference x y p cx cy e = made (difference_region x.region y.region) e
  where
    made : (r : Option RegionId) → in_region r (interval.sub x.si y.si) ≡ Some p → IsCanonical p.si
    made None e = cc
    made (Some r) e = let is : part r (interval.sub x.si y.si) ≡ p = cc in subst (λ (v : Part). IsCanonical v.si) is (sub_canonical x.si y.si cx cy)

module _ (lane : ℕ) (w : World) where
  -- a word at an offset from a thing, in a part of these offsets
  at_thing : (k : ℕ) (t : Thing) (r : RegionId) (si : Interval) (offset : ℤ) → IsIn w t → region_of lane t ≡ r → IsMember (signed offset) si → signed (pos k) ≡ signed (pos (base_of t) +ℤ signed offset) → IsPartMember lane w k (part r si)
  at_thing k t r si offset is_in region within reached =
      let fits = signed_fits offset in
      let low : least ≤ℤ signed offset = omega (arith, ints) in
      let high : signed offset ≤ℤ greatest = omega (arith, ints) in
      record { thing = t; is_in = is_in; region = region; offset = signed offset; within = within; low = low; high = high; reached = reached }

  module _ (m n : ℕ) (x y : Part) (a : IsPartMember lane w m x) (b : IsPartMember lane w n y) where
    number_and : x.region ≡ Global → IsPartMember lane w ((m + n) % 2 ^ 32) (part y.region (interval.add x.si y.si))
    number_and is =
        let zero_base : base_of a.thing ≡ 0 = global_base lane a.thing (a.region ∙ is) in
        let reached = sum_reached m n (base_of a.thing) (base_of b.thing) a.offset b.offset a.reached b.reached in
        let same : base_of a.thing + base_of b.thing ≡ base_of b.thing = omega arith in
        at_thing ((m + n) % 2 ^ 32) b.thing y.region (interval.add x.si y.si) (a.offset +ℤ b.offset) b.is_in b.region (member_add a.offset b.offset x.si y.si a.within b.within)
        (reached ∙ ap (λ v. signed (pos v +ℤ sum_of a.offset b.offset)) same)

    and_number : y.region ≡ Global → IsPartMember lane w ((m + n) % 2 ^ 32) (part x.region (interval.add x.si y.si))
    and_number is =
        let zero_base : base_of b.thing ≡ 0 = global_base lane b.thing (b.region ∙ is) in
        let reached = sum_reached m n (base_of a.thing) (base_of b.thing) a.offset b.offset a.reached b.reached in
        let same : base_of a.thing + base_of b.thing ≡ base_of a.thing = omega arith in
        at_thing ((m + n) % 2 ^ 32) a.thing x.region (interval.add x.si y.si) (a.offset +ℤ b.offset) a.is_in a.region (member_add a.offset b.offset x.si y.si a.within b.within)
        (reached ∙ ap (λ v. signed (pos v +ℤ sum_of a.offset b.offset)) same)

    less_number : n < 2 ^ 32 → IsCanonical y.si → y.region ≡ Global → IsPartMember lane w ((m + 2 ^ 32 - n) % 2 ^ 32) (part x.region (interval.sub x.si y.si))
    less_number lt cy is =
        let zero_base : base_of b.thing ≡ 0 = global_base lane b.thing (b.region ∙ is) in
        let from_zero : signed (pos n) ≡ signed (pos 0 +ℤ b.offset) = b.reached ∙ ap (λ v. signed (pos v +ℤ b.offset)) zero_base in
        at_thing ((m + 2 ^ 32 - n) % 2 ^ 32) a.thing x.region (interval.sub x.si y.si) (a.offset -ℤ b.offset) a.is_in a.region (member_sub a.offset b.offset x.si y.si cy a.within b.within)
        (difference_reached m n (base_of a.thing) a.offset b.offset lt a.reached from_zero)

    less_frame : (p : ℕ) → n < 2 ^ 32 → IsCanonical y.si → x.region ≡ Frame p → y.region ≡ Frame p → IsPartMember lane w ((m + 2 ^ 32 - n) % 2 ^ 32) (part Global (interval.sub x.si y.si))
    less_frame p lt cy is_x is_y =
        let same : base_of b.thing ≡ base_of a.thing = one_newest w p (base_of b.thing) (base_of a.thing) (newest_of_frame lane w b.thing p b.is_in (b.region ∙ is_y)) (newest_of_frame lane w a.thing p a.is_in (a.region ∙ is_x)) in
        let from_same : signed (pos n) ≡ signed (pos (base_of a.thing) +ℤ b.offset) = b.reached ∙ ap (λ v. signed (pos v +ℤ b.offset)) same in
        at_thing ((m + 2 ^ 32 - n) % 2 ^ 32) TheImage Global (interval.sub x.si y.si) (a.offset -ℤ b.offset) tt refl (member_sub a.offset b.offset x.si y.si cy a.within b.within)
        (distance_reached m n (base_of a.thing) a.offset b.offset lt a.reached from_same)

-- -- All pairs

-- what a pairing makes of words
abbrev pub made_of : Pairing → ℕ → ℕ → ℕ
made_of Sum m n = (m + n) % 2 ^ 32
made_of Difference m n = (m + 2 ^ 32 - n) % 2 ^ 32

module _ (lane : ℕ) (w : World) (m n : ℕ) (lt : n < 2 ^ 32) where
  sum_member : (x y p : Part) → IsPartMember lane w m x → IsPartMember lane w n y → (a b : RegionId) → x.region ≡ a → y.region ≡ b → in_region (sum_region a b) (interval.add x.si y.si) ≡ Some p → IsPartMember lane w ((m + n) % 2 ^ 32) p
  sum_member x y p hx hy Global b is_x is_y e = subst (IsPartMember lane w ((m + n) % 2 ^ 32)) (let is : part y.region (interval.add x.si y.si) ≡ p = cc in is) (number_and lane w m n x y hx hy is_x)
  sum_member x y p hx hy (Frame q) Global is_x is_y e = subst (IsPartMember lane w ((m + n) % 2 ^ 32)) (let is : part x.region (interval.add x.si y.si) ≡ p = cc in is) (and_number lane w m n x y hx hy is_y)
  sum_member x y p hx hy (OldFrame q) Global is_x is_y e = subst (IsPartMember lane w ((m + n) % 2 ^ 32)) (let is : part x.region (interval.add x.si y.si) ≡ p = cc in is) (and_number lane w m n x y hx hy is_y)
  sum_member x y p hx hy (Heap q) Global is_x is_y e = subst (IsPartMember lane w ((m + n) % 2 ^ 32)) (let is : part x.region (interval.add x.si y.si) ≡ p = cc in is) (and_number lane w m n x y hx hy is_y)
  sum_member x y p hx hy (OldHeap q) Global is_x is_y e = subst (IsPartMember lane w ((m + n) % 2 ^ 32)) (let is : part x.region (interval.add x.si y.si) ≡ p = cc in is) (and_number lane w m n x y hx hy is_y)
  sum_member x y p hx hy a b is_x is_y e = cc

  frame_member : (x y p : Part) → IsCanonical y.si → IsPartMember lane w m x → IsPartMember lane w n y → (a : RegionId) (q : ℕ) → x.region ≡ a → y.region ≡ Frame q → in_region (frame_difference q a) (interval.sub x.si y.si) ≡ Some p → IsPartMember lane w ((m + 2 ^ 32 - n) % 2 ^ 32) p
  frame_member x y p cy hx hy (Frame o) q is_x is_y e = by_test (o == q) refl e
    where
      by_test : (t : Bool) → (o == q) ≡ t → in_region (cond t (Some Global) None) (interval.sub x.si y.si) ≡ Some p → IsPartMember lane w ((m + 2 ^ 32 - n) % 2 ^ 32) p
      by_test true same e =
          let is : part Global (interval.sub x.si y.si) ≡ p = cc in
          subst (IsPartMember lane w ((m + 2 ^ 32 - n) % 2 ^ 32)) is (less_frame lane w m n x y hx hy q lt cy (is_x ∙ ap (λ v. Frame v) (eqb-true o q same)) is_y)
      by_test false other e = cc
  frame_member x y p cy hx hy Global q is_x is_y e = cc
  frame_member x y p cy hx hy (OldFrame o) q is_x is_y e = cc
  frame_member x y p cy hx hy (Heap o) q is_x is_y e = cc
  frame_member x y p cy hx hy (OldHeap o) q is_x is_y e = cc

  difference_member : (x y p : Part) → IsCanonical y.si → IsPartMember lane w m x → IsPartMember lane w n y → (b : RegionId) → y.region ≡ b → in_region (difference_region x.region b) (interval.sub x.si y.si) ≡ Some p → IsPartMember lane w ((m + 2 ^ 32 - n) % 2 ^ 32) p
  difference_member x y p cy hx hy Global is_y e = subst (IsPartMember lane w ((m + 2 ^ 32 - n) % 2 ^ 32)) (let is : part x.region (interval.sub x.si y.si) ≡ p = cc in is) (less_number lane w m n x y hx hy lt cy is_y)
  difference_member x y p cy hx hy (Frame q) is_y e = frame_member x y p cy hx hy x.region q refl is_y e
  difference_member x y p cy hx hy (OldFrame q) is_y e = cc
  difference_member x y p cy hx hy (Heap q) is_y e = cc
  difference_member x y p cy hx hy (OldHeap q) is_y e = cc

  pair_member : (pairing : Pairing) (x y p : Part) → IsCanonical y.si → IsPartMember lane w m x → IsPartMember lane w n y → pair_of pairing x y ≡ Some p → IsPartMember lane w (made_of pairing m n) p
  pair_member Sum x y p cy hx hy e = sum_member x y p hx hy x.region y.region refl refl e
  pair_member Difference x y p cy hx hy e = difference_member x y p cy hx hy y.region refl e

-- a word is among the results, or one of them is none
abbrev HasResult : ℕ → World → ℕ → List (Option Part) → Type 0
HasResult lane w k [] = ⊥
HasResult lane w k (None ∷ rest) = Unit {0}
HasResult lane w k (Some p ∷ rest) = IsPartMember lane w k p ⊎ HasResult lane w k rest

abbrev AreCanonicalResults : List (Option Part) → Type 0
AreCanonicalResults [] = Unit {0}
AreCanonicalResults (None ∷ rest) = AreCanonicalResults rest
AreCanonicalResults (Some p ∷ rest) = IsCanonical p.si × AreCanonicalResults rest

module _ (lane : ℕ) (w : World) (k : ℕ) where
  result_here : (o : Option Part) (rest : List (Option Part)) → ((p : Part) → o ≡ Some p → IsPartMember lane w k p) → HasResult lane w k (o ∷ rest)
  result_here None rest h = tt
  result_here (Some p) rest h = inl (h p refl)

  result_later : (o : Option Part) (rest : List (Option Part)) → HasResult lane w k rest → HasResult lane w k (o ∷ rest)
  result_later None rest h = tt
  result_later (Some p) rest h = inr h

  result_before : (r rest : List (Option Part)) → HasResult lane w k r → HasResult lane w k (r ++ rest)
  result_before [] rest h = absurd h
  result_before (None ∷ r) rest h = tt
  result_before (Some p ∷ r) rest (inl here) = inl here
  result_before (Some p ∷ r) rest (inr later) = inr (result_before r rest later)

  result_after : (r rest : List (Option Part)) → HasResult lane w k rest → HasResult lane w k (r ++ rest)
  result_after [] rest h = h
  result_after (o ∷ r) rest h = result_later o (r ++ rest) (result_after r rest h)

  gathered_keeps : (into : List Part) (os : List (Option Part)) (ps : List Part) → AreCanonical into → AreCanonicalResults os → gathered into os ≡ Some ps → IsInParts lane w k into → IsInParts lane w k ps
  unfolding gathered
  gathered_keeps into [] ps ci co e m = let is : into ≡ ps = cc in subst (IsInParts lane w k) is m
  gathered_keeps into (None ∷ os) ps ci co e m = cc
  gathered_keeps into (Some p ∷ os) ps ci co e m =
      gathered_keeps (with_part Joined p into) os ps (put_canonical Joined p into co.0 ci) co.1 e (put_keeps lane w k Joined p into ci m)

  gathered_has : (into : List Part) (os : List (Option Part)) (ps : List Part) → AreCanonical into → AreCanonicalResults os → gathered into os ≡ Some ps → HasResult lane w k os → IsInParts lane w k ps
  unfolding gathered
  gathered_has into [] ps ci co e h = absurd h
  gathered_has into (None ∷ os) ps ci co e h = cc
  gathered_has into (Some p ∷ os) ps ci co e (inl here) =
      gathered_keeps (with_part Joined p into) os ps (put_canonical Joined p into co.0 ci) co.1 e (put_has lane w k Joined p into co.0 here)
  gathered_has into (Some p ∷ os) ps ci co e (inr later) = gathered_has (with_part Joined p into) os ps (put_canonical Joined p into co.0 ci) co.1 e later

  settled_all : (o : Option (List Part)) → ((ps : List Part) → o ≡ Some ps → IsInParts lane w k ps) → HasValue lane w k (settled_or_top o)
  settled_all None h = tt
  settled_all (Some ps) h = settled_has lane w k ps (h ps refl)

canonical_here : (o : Option Part) (rest : List (Option Part)) → ((p : Part) → o ≡ Some p → IsCanonical p.si) → AreCanonicalResults rest → AreCanonicalResults (o ∷ rest)
canonical_here None rest h c = c
canonical_here (Some p) rest h c = (h p refl, c)

canonical_append : (r rest : List (Option Part)) → AreCanonicalResults r → AreCanonicalResults rest → AreCanonicalResults (r ++ rest)
canonical_append [] rest a b = b
canonical_append (None ∷ r) rest a b = canonical_append r rest a b
canonical_append (Some p ∷ r) rest a b = (a.0, canonical_append r rest a.1 b)

row_canonical : (pairing : Pairing) (x : Part) (ys : List Part) → IsCanonical x.si → AreCanonical ys → AreCanonicalResults (map (pair_of pairing x) ys)
row_canonical pairing x [] cx cy = tt
row_canonical pairing x (y ∷ ys) cx cy =
    canonical_here (pair_of pairing x y) (map (pair_of pairing x) ys) (λ p e. pair_canonical pairing x y p cx cy.0 e) (row_canonical pairing x ys cx cy.1)

pairs_canonical : (pairing : Pairing) (xs ys : List Part) → AreCanonical xs → AreCanonical ys → AreCanonicalResults (pairs pairing xs ys)
pairs_canonical pairing [] ys cx cy = tt
pairs_canonical pairing (x ∷ xs) ys cx cy =
    canonical_append (map (pair_of pairing x) ys) (pairs pairing xs ys) (row_canonical pairing x ys cx.0 cy) (pairs_canonical pairing xs ys cx.1 cy)

module _ (lane : ℕ) (w : World) (m n : ℕ) (lt : n < 2 ^ 32) (pairing : Pairing) where
  row_has : (x : Part) (ys : List Part) → AreCanonical ys → IsPartMember lane w m x → IsInParts lane w n ys → HasResult lane w (made_of pairing m n) (map (pair_of pairing x) ys)
  row_has x [] cy hx hy = absurd hy
  row_has x (y ∷ ys) cy hx (inl here) =
      result_here lane w (made_of pairing m n) (pair_of pairing x y) (map (pair_of pairing x) ys) (λ p e. pair_member lane w m n lt pairing x y p cy.0 hx here e)
  row_has x (y ∷ ys) cy hx (inr later) =
      result_later lane w (made_of pairing m n) (pair_of pairing x y) (map (pair_of pairing x) ys) (row_has x ys cy.1 hx later)

  pairs_have : (xs ys : List Part) → AreCanonical ys → IsInParts lane w m xs → IsInParts lane w n ys → HasResult lane w (made_of pairing m n) (pairs pairing xs ys)
  pairs_have [] ys cy hx hy = absurd hx
  pairs_have (x ∷ xs) ys cy (inl here) hy =
      result_before lane w (made_of pairing m n) (map (pair_of pairing x) ys) (pairs pairing xs ys) (row_has x ys cy here hy)
  pairs_have (x ∷ xs) ys cy (inr later) hy =
      result_after lane w (made_of pairing m n) (map (pair_of pairing x) ys) (pairs pairing xs ys) (pairs_have xs ys cy later hy)

  combined_has : (a b : Values) → CanonicalValues a → CanonicalValues b → HasValue lane w m a → HasValue lane w n b → HasValue lane w (made_of pairing m n) (combined pairing a b)
  combined_has Top b ca cb ha hb = tt
  combined_has (Parts xs) Top ca cb ha hb = tt
  combined_has (Parts xs) (Parts ys) ca cb ha hb =
      settled_all lane w (made_of pairing m n) (gathered [] (pairs pairing xs ys))
      (λ ps e. gathered_has lane w (made_of pairing m n) [] (pairs pairing xs ys) ps tt (pairs_canonical pairing xs ys ca cb) e (pairs_have xs ys cb ha hb))

-- -- Sums and differences

pub add_has : (lane : ℕ) (w : World) (m n : ℕ) (a b : Values) → n < 2 ^ 32 → CanonicalValues a → CanonicalValues b → HasValue lane w m a → HasValue lane w n b → HasValue lane w ((m + n) % 2 ^ 32) (add a b)
unfolding add
add_has lane w m n a b lt ca cb ha hb = combined_has lane w m n lt Sum a b ca cb ha hb

pub sub_has : (lane : ℕ) (w : World) (m n : ℕ) (a b : Values) → n < 2 ^ 32 → CanonicalValues a → CanonicalValues b → HasValue lane w m a → HasValue lane w n b → HasValue lane w ((m + 2 ^ 32 - n) % 2 ^ 32) (sub a b)
unfolding sub
sub_has lane w m n a b lt ca cb ha hb = combined_has lane w m n lt Difference a b ca cb ha hb
