-- An address in a frame leads to the activation that owns its bytes.
use Rattle.std.proofs.Common.{◌≡◌, ℕ, zero, suc, ◌+◌, ◌^◌, ◌<◌, ◌≤◌, ◌==◌, Bool, true, List, [], ◌∷◌, ◌++◌, map, refl, sym, ◌∙◌, ap, subst, arith, ℤ, pos, negsuc, ◌+ℤ◌}
use Rattle.std.specs.Prelude.{◌≤ℤ◌, ◌-ℤ◌, FitsSigned, nat_lt, is_some}
use Rattle.std.specs.Int.{w32}
use Rattle.std.specs.List.{flat_map}
use Rattle.std.proofs.lemmas.Int.{ints, int_wrap_fits}
use Rattle.std.proofs.lemmas.List.{append_assoc}
use Rattle.std.proofs.lemmas.Bool.{eq-eqb, lt-ltb, true≢false}
use Rattle.image_map.specs.declared.image.Image.{Image}
use Rattle.image_map.specs.declared.region.Activation.{Activation}
use Rattle.ia32_semantics.specs.Outcome.{is_in_stack}
use Rattle.ia32_semantics.specs.State.{State}
use Rattle.strided.specs.Concrete.{sum_of}
use Rattle.strided.specs.Interval.{IsMember}
use Rattle.strided.specs.Operations as interval
use Rattle.strided.proofs.MemberLemmas.{member_above}
use Rattle.strided.proofs.SumLemmas.{member_add}
use Rattle.vset.specs.declared.part.Part.{Part}
use Rattle.vset.specs.Operations.{part}
use Rattle.vset.specs.World.{ActivationAt, region_of, is_called}
use Rattle.abs_semantics.specs.States.{AbsState}
use Rattle.abs_semantics.specs.StandsFor.{EndsAbove}
use Rattle.abs_semantics.specs.Resolve.{Follows, end_of, most_links, frame_verdict, verdict_in, verdict, parent_regions, through, links_of_region, next_by, next_of, rising_onto, met_after, levels, is_listed}
use Rattle.abs_semantics.specs.Ownership.{IsKnown, IsOwnedAt}
use Rattle.abs_semantics.proofs.StackLemmas.{raised, mapped_near}
use Rattle.abs_semantics.proofs.VerdictLemmas.{Passes, Way, StaysBelow, StaysOldest, Leads, FrameFacts, frame_facts}
use Rattle.abs_semantics.proofs.LevelLemmas.{IsAmong, among_before, among_after, among_flat, among_map, rising_new, IsMet, AllPass}
use Rattle.abs_semantics.proofs.ChainLemmas.{Joins, joins, no_link, frame_verdict_is, frame_links_are, Found, bounds, lower, parent_region}

pub fits_word : (z : ℤ) → negsuc 2147483647 ≤ℤ z → z ≤ℤ pos 2147483647 → FitsSigned w32 z
fits_word z low high = omega (arith, ints)

module _ (a : AbsState) (p len : ℕ) where
  pub met_here : (fuel n : ℕ) (xs : List Part) (z : Part) → IsAmong z xs → IsMet n z (levels a p len fuel n xs)
  unfolding levels
  met_here zero n xs z among = among_map (met_after n) z xs among
  met_here (suc fuel) n xs z among = among_before (met_after n z) (map (met_after n) xs) (levels a p len fuel (n + 1) (rising_onto [] (flat_map (next_of a p len n) xs))) (among_map (met_after n) z xs among)

  met_next : (fuel n m : ℕ) (xs : List Part) (w : Part) → IsMet m w (levels a p len fuel (n + 1) (rising_onto [] (flat_map (next_of a p len n) xs))) → IsMet m w (levels a p len (suc fuel) n xs)
  unfolding levels
  met_next fuel n m xs w met = among_after (met_after m w) (map (met_after n) xs) (levels a p len fuel (n + 1) (rising_onto [] (flat_map (next_of a p len n) xs))) met

module _ (image : Image) (lane : ℕ) (a : AbsState) (p : ℕ) (s : State) (known : IsKnown image lane a p s) (at count len : ℕ) (within : count ≤ len) (mapped : (k : ℕ) → k < count → is_some (s.memory (at + k)) ≡ true) where
  -- one activation, and a part that means it
  module _ (newer : List Activation) (x : Activation) (older : List Activation) (split : s.activations ≡ newer ++ (x ∷ older)) (z : Part) (region : z.region ≡ region_of lane (ActivationAt newer x older)) (o : ℤ) (member : IsMember o z.si) (is : pos at ≡ pos x.base +ℤ o) (n : ℕ) (passes : Passes (verdict a p len n z)) where
    verdict_is : verdict a p len n z ≡ frame_verdict a p len n x.callee (is_called x.callee newer) z.si
    unfolding verdict
    verdict_is = ap (verdict_in a p len n z.si) region ∙ frame_verdict_is a p len n x.callee z.si (is_called x.callee newer)

    facts : FrameFacts a p len n x.callee (is_called x.callee newer) z.si
    facts = frame_facts a p len n x.callee (is_called x.callee newer) z.si (subst Passes verdict_is passes)

    in_stack : (k : ℕ) → k < count → is_in_stack s.slot (at + k) ≡ true
    in_stack k lt =
        let base = bounds image lane a p s known newer x older split in
        let base_low : s.slot ≤ x.base + 2 ^ 20 = base.1 in
        let base_high : x.base ≤ s.slot = base.0 in
        let from : z.si.lo ≤ℤ o = member_above o z.si member in
        let to : o ≤ℤ z.si.hi = member.in_range in
        let low : negsuc 1048575 ≤ℤ z.si.lo = facts.low in
        let high : (z.si.hi +ℤ pos len) ≤ℤ pos 65536 = facts.high in
        mapped_near image s known.image_is known.whole.laid_out (at + k) (mapped k lt) (omega (arith, ints)) (omega (arith, ints))

    owned_if : ((k : ℕ) → k < count → EndsAbove (at + k) x older) → IsOwnedAt lane s at count z
    owned_if ends =
        record {
          thing = ActivationAt newer x older;
          is_in = split;
          region = sym region;
          offset = o;
          within = member;
          reached = is;
          owned = λ k lt. (
            in_stack k lt,
            raised at (at + k) newer (omega arith) (lower image lane a p s known newer x older split at o z.si len n (member_above o z.si member) is facts),
            ends k lt,
          );
        }

    -- a range below the return slot's end
    ends_below : (end_of z.si len) ≤ℤ pos 4 → (k : ℕ) → k < count → (l : List Activation) → EndsAbove (at + k) x l
    ends_below high k lt [] = tt
    ends_below high k lt (y ∷ l) =
        let to : o ≤ℤ z.si.hi = member.in_range in
        let top : (z.si.hi +ℤ pos len) ≤ℤ pos 4 = high in
        let here : at + k < x.base + 4 = omega (arith, ints) in
        here

    found_here : is_listed (verdict a p len n z) ≡ true → ((k : ℕ) → k < count → EndsAbove (at + k) x older) → (fuel : ℕ) (xs : List Part) → IsAmong z xs → Found a p lane s at count len (levels a p len fuel n xs)
    found_here listed ends fuel xs among = record { followed = n; place = z; met = met_here a p len fuel n xs z among; listed = listed; owned = owned_if ends }

  -- the oldest activation
  oldest : (newer : List Activation) (x : Activation) (split : s.activations ≡ newer ++ (x ∷ [])) (fuel n : ℕ) (xs : List Part) (z : Part) → IsAmong z xs → z.region ≡ region_of lane (ActivationAt newer x []) → (o : ℤ) → IsMember o z.si → pos at ≡ pos x.base +ℤ o
      → Passes (verdict a p len n z) → Found a p lane s at count len (levels a p len fuel n xs)
  oldest newer x split fuel n xs z among region o member is passes = by_way (facts newer x [] split z region o member is n passes).way
    where
      v_is : verdict a p len n z ≡ frame_verdict a p len n x.callee (is_called x.callee newer) z.si
      v_is = verdict_is newer x [] split z region o member is n passes

      found : is_listed (verdict a p len n z) ≡ true → Found a p lane s at count len (levels a p len fuel n xs)
      found listed = found_here newer x [] split z region o member is n passes listed (λ k lt. tt) fuel xs among

      by_way : Way a len n x.callee (is_called x.callee newer) z.si (frame_verdict a p len n x.callee (is_called x.callee newer) z.si) → Found a p lane s at count len (levels a p len fuel n xs)
      by_way (StaysBelow stays below) = found (ap is_listed (v_is ∙ stays))
      by_way (StaysOldest stays none) = found (ap is_listed (v_is ∙ stays))
      by_way (Leads leads low few) = found (ap is_listed (v_is ∙ leads) ∙ eq-eqb x.callee a.root (known.stands.root newer x split))

  -- the way on to the parent
  module _ (newer : List Activation) (x y : Activation) (rest : List Activation) (split : s.activations ≡ newer ++ (x ∷ y ∷ rest)) (n : ℕ) (xs : List Part) (z : Part) (among : IsAmong z xs) (region : z.region ≡ region_of lane (ActivationAt newer x (y ∷ rest))) (o : ℤ) (member : IsMember o z.si) (is : pos at ≡ pos x.base +ℤ o) (passes : Passes (verdict a p len n z)) where
    abbrev link : Joins a x.callee (is_called x.callee newer) y.callee (pos x.base -ℤ pos y.base)
    link = joins x.callee (is_called x.callee newer) y.callee (pos x.base -ℤ pos y.base) a (known.stands.links newer rest x y split)

    abbrev next_split : s.activations ≡ (newer ++ (x ∷ [])) ++ (y ∷ rest)
    next_split = split ∙ sym (append_assoc newer (x ∷ []) (y ∷ rest))

    abbrev next_part : Part
    next_part = part (region_of lane (ActivationAt (newer ++ (x ∷ [])) y rest)) (interval.add z.si link.link.off)

    next_among : (v : Bool) → verdict a p len n z ≡ Follows v → IsAmong next_part (rising_onto [] (flat_map (next_of a p len n) xs))
    next_among v follows =
        rising_new next_part [] (flat_map (next_of a p len n) xs) (among_flat (next_of a p len n) z next_part xs among
        (subst (λ w. IsAmong next_part (next_by w (flat_map (through a p z) (links_of_region a z.region)))) (sym follows)
        (among_flat (through a p z) link.link next_part (links_of_region a z.region)
        (subst (IsAmong link.link) (sym (ap (links_of_region a) region ∙ frame_links_are a x.callee (is_called x.callee newer))) link.listed)
        (among_map (λ r. part r (interval.add z.si link.link.off)) (region_of lane (ActivationAt (newer ++ (x ∷ [])) y rest)) (parent_regions a p z.region link.link)
        (parent_region image lane a p s known newer x (y ∷ rest) split y rest refl link.link link.child_is link.parent_is z.region region)))))

    -- the offset from the parent's base
    next_is : pos at ≡ pos y.base +ℤ sum_of o (pos x.base -ℤ pos y.base)
    next_is =
        let base = bounds image lane a p s known newer x (y ∷ rest) split in
        let parent = bounds image lane a p s known (newer ++ (x ∷ [])) y rest next_split in
        let base_low : s.slot ≤ x.base + 2 ^ 20 = base.1 in
        let base_high : x.base ≤ s.slot = base.0 in
        let parent_low : s.slot ≤ y.base + 2 ^ 20 = parent.1 in
        let parent_high : y.base ≤ s.slot = parent.0 in
        let f = facts newer x (y ∷ rest) split z region o member is n passes in
        let from : z.si.lo ≤ℤ o = member_above o z.si member in
        let to : o ≤ℤ z.si.hi = member.in_range in
        let low : negsuc 1048575 ≤ℤ z.si.lo = f.low in
        let high : (z.si.hi +ℤ pos len) ≤ℤ pos 65536 = f.high in
        let whole : sum_of o (pos x.base -ℤ pos y.base) ≡ o +ℤ (pos x.base -ℤ pos y.base) = int_wrap_fits w32 (o +ℤ (pos x.base -ℤ pos y.base)) (fits_word (o +ℤ (pos x.base -ℤ pos y.base)) (omega (arith, ints)) (omega (arith, ints))) in
        omega (arith, ints)

    goes_up : (fuel : ℕ) → fuel + n ≡ most_links a + 1
        → ((m : ℕ) → m + (n + 1) ≡ most_links a + 1 → fuel ≡ suc m → (v : Bool) → verdict a p len n z ≡ Follows v → Found a p lane s at count len (levels a p len m (n + 1) (rising_onto [] (flat_map (next_of a p len n) xs))))
        → Found a p lane s at count len (levels a p len fuel n xs)
    goes_up fuel e up = by_way fuel e up (facts newer x (y ∷ rest) split z region o member is n passes).way
      where
        v_is : verdict a p len n z ≡ frame_verdict a p len n x.callee (is_called x.callee newer) z.si
        v_is = verdict_is newer x (y ∷ rest) split z region o member is n passes

        by_way : (k : ℕ) → k + n ≡ most_links a + 1
            → ((m : ℕ) → m + (n + 1) ≡ most_links a + 1 → k ≡ suc m → (v : Bool) → verdict a p len n z ≡ Follows v → Found a p lane s at count len (levels a p len m (n + 1) (rising_onto [] (flat_map (next_of a p len n) xs))))
            → Way a len n x.callee (is_called x.callee newer) z.si (frame_verdict a p len n x.callee (is_called x.callee newer) z.si) → Found a p lane s at count len (levels a p len k n xs)
        by_way k e up (StaysBelow stays below) =
            found_here newer x (y ∷ rest) split z region o member is n passes (ap is_listed (v_is ∙ stays)) (λ i lt. ends_below newer x (y ∷ rest) split z region o member is n passes below i lt (y ∷ rest)) k xs among
        by_way k e up (StaysOldest stays none) = absurd (no_link a x.callee (is_called x.callee newer) link.link link.listed none)
        by_way zero e up (Leads leads low few) =
            let over : nat_lt (most_links a) n ≡ true = lt-ltb (most_links a) n (omega arith) in
            absurd (true≢false (sym over ∙ few))
        by_way (suc k) e up (Leads leads low few) =
            let above = up k (omega arith) refl (x.callee == a.root) (v_is ∙ leads) in
            record { followed = above.followed; place = above.place; met = met_next a p len k n above.followed xs above.place above.met; listed = above.listed; owned = above.owned }

  pub climb : (older newer : List Activation) (x : Activation) (split : s.activations ≡ newer ++ (x ∷ older)) (fuel n : ℕ) (xs : List Part) → fuel + n ≡ most_links a + 1
      → (z : Part) → IsAmong z xs → z.region ≡ region_of lane (ActivationAt newer x older) → (o : ℤ) → IsMember o z.si → pos at ≡ pos x.base +ℤ o
      → AllPass a p len (levels a p len fuel n xs) → Found a p lane s at count len (levels a p len fuel n xs)
  climb [] newer x split fuel n xs e z among region o member is pass = oldest newer x split fuel n xs z among region o member is (pass n z (met_here a p len fuel n xs z among))
  climb (y ∷ rest) newer x split fuel n xs e z among region o member is pass =
      let passes = pass n z (met_here a p len fuel n xs z among) in
      let w = next_part newer x y rest split n xs z among region o member is passes in
      let l = link newer x y rest split n xs z among region o member is passes in
      goes_up newer x y rest split n xs z among region o member is passes fuel e
      (λ m e' fuel_is v follows.
      climb rest (newer ++ (x ∷ [])) y (next_split newer x y rest split n xs z among region o member is passes) m (n + 1) (rising_onto [] (flat_map (next_of a p len n) xs)) e'
      w (next_among newer x y rest split n xs z among region o member is passes v follows) refl
      (sum_of o (pos x.base -ℤ pos y.base)) (member_add o (pos x.base -ℤ pos y.base) z.si l.link.off member l.within)
      (next_is newer x y rest split n xs z among region o member is passes)
      (λ m' z' met. pass m' z' (subst (λ f. IsMet m' z' (levels a p len f n xs)) (sym fuel_is) (met_next a p len m n m' xs z' met))))
