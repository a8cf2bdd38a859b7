-- After an allocation the abstract state after the abstract allocation stands for the state.
use Rattle.std.proofs.Common.{◌≡◌, ◌⊎◌, inl, inr, ⊎_elim, ℕ, ◌+◌, ◌-◌, ◌%◌, ◌<◌, ◌≤◌, ◌==◌, ◌||◌, Bool, true, false, not, cond, List, [], ◌∷◌, ◌++◌, Option, Some, None, refl, sym, ◌∙◌, ap, subst, arith, pos, negsuc}
use Rattle.std.specs.Prelude.{nat_le, filter, ℤ, ◌+ℤ◌, ◌≤ℤ◌, int_lt, unsigned_abs}
use Rattle.std.proofs.lemmas.Int.{ints}
use Rattle.std.proofs.lemmas.Bool.{false≢true, true≢false, cond_both, eqb-true, eq-eqb, cases_lt, leb-true, leb-false}
use Rattle.std.proofs.lemmas.List.Folds.{list_any-append}
use Rattle.std.proofs.lemmas.Option.{none-some, same_Some}
use Rattle.image_map.specs.declared.region.Cell.{Cell}
use Rattle.image_map.specs.declared.region.RegionId.{RegionId}
use Rattle.image_map.specs.declared.region.RegionId.TheVariants.{Frame, OldFrame, Heap, OldHeap}
use Rattle.image_map.specs.Regions.{same_region, region_before}
use Rattle.image_map.proofs.OrderLaws.{same_region-equal, same_region-itself}
use Rattle.ia32_semantics.specs.declared.state.Allocation.{Allocation}
use Rattle.ia32_semantics.specs.Outcome.{is_in_stack}
use Rattle.ia32_semantics.specs.State.{State, bytes_at, little_endian}
use Rattle.alocs.proofs.CellLemmas.{int_lt_false}
use Rattle.si_bits.specs.Concrete as concrete
use Rattle.si_bits.proofs.SignLemmas.{number-low, number-high}
use Rattle.strided.specs.Interval.{Interval, IsMember}
use Rattle.strided.proofs.MemberLemmas.{member_above}
use Rattle.vset.specs.Members.{HasValue, HasOffset}
use Rattle.vset.specs.Operations.{age}
use Rattle.vset.specs.Values.{Values, Top, only_number}
use Rattle.vset.specs.World.{Thing, TheImage, ActivationAt, BlockAt, IsIn, base_of, region_of, is_called, has_key, key_of}
use Rattle.vset.proofs.MemberLemmas.{join_has_left, join_has_right}
use Rattle.vset.proofs.OffsetLemmas.{age_keeps, age_renames}
use Rattle.abs_alu.proofs.WordLemmas.{only_has}
use Rattle.abs_semantics.specs.declared.parts.Known.{Known}
use Rattle.abs_semantics.specs.States.{AbsState, HasCanonical, CellsAreCanonical, value_at, known_of}
use Rattle.abs_semantics.specs.StandsFor.{StandsFor, world_of, Owns, IsCellOf, IsSized, HoldsFact}
use Rattle.abs_semantics.specs.Joins.{lesser, put_known}
use Rattle.abs_semantics.proofs.CellLemmas.{value_canonical, rebuilt_value}
use Rattle.abs_semantics.proofs.FormLemmas.{rebuilt_form}
use Rattle.abs_semantics.proofs.JoinLemmas.{held_has}
use Rattle.abs_semantics.proofs.StoreLemmas.{same_bytes}
use Rattle.abs_steps.specs.Calls.{as_of, is_in, with_values, with_only, moved, older_block_value, older_size, with_older_block, size_of, sizes_after, allocated}
use Rattle.call_soundness.specs.Calls.{IsAllocated}
use Rattle.call_soundness.specs.Laws.{AllocatedStatesStand}
use Rattle.call_soundness.proofs.CallLaws.{apart_from, age_form, age_top}
use Rattle.call_soundness.proofs.ListLaws.{put_known_value}
use Rattle.call_soundness.proofs.ThingLaws.{as_itself}
use Rattle.call_soundness.proofs.ValueLaws.{Stands, moved_value}

-- -- Numbers of regions

left_stays : (r q : RegionId) (ks : List Known) → same_region q r ≡ false → known_of r (filter (λ (k : Known). not (same_region k.region q)) ks) ≡ known_of r ks
left_stays r q [] apart = refl
left_stays r q (k ∷ ks) apart = by (left_stays r q ks apart) (same_region k.region q) refl
  where
    by : known_of r (filter (λ (k : Known). not (same_region k.region q)) ks) ≡ known_of r ks → (b : Bool) → same_region k.region q ≡ b
        → known_of r (cond (not b) (k ∷ filter (λ (k : Known). not (same_region k.region q)) ks) (filter (λ (k : Known). not (same_region k.region q)) ks)) ≡ known_of r (k ∷ ks)
    by rest true f =
        let other : same_region k.region r ≡ false = ap (λ x. same_region x r) (same_region-equal k.region q f) ∙ apart in
        rest ∙ sym (ap (λ t. cond t (Some k.number) (known_of r ks)) other)
    by rest false f = ap (cond (same_region k.region r) (Some k.number)) rest

other_stays : (r q : RegionId) (o : Option ℕ) (ks : List Known) → same_region q r ≡ false → known_of r (with_only q o ks) ≡ known_of r ks
other_stays r q None ks apart = left_stays r q ks apart
other_stays r q (Some m) ks apart =
    put_known_value (λ o. o ≡ known_of r ks) r (record { region = q; number = m }) (filter (λ (k : Known). not (same_region k.region q)) ks) (left_stays r q ks apart)
    (λ same. absurd (true≢false (sym (same_region-itself r) ∙ ap (λ x. same_region x r) (sym same) ∙ apart)))

put_has : (r : RegionId) (m : ℕ) (xs : List Known) → known_of r (put_known (record { region = r; number = m }) xs) ≡ Some m
put_has r m [] = ap (λ b. cond b (Some m) None) (same_region-itself r)
put_has r m (x ∷ xs) =
    cond_both (same_region x.region r) (record { region = r; number = m } ∷ xs) (cond (region_before x.region r) (x ∷ put_known (record { region = r; number = m }) xs) (record { region = r; number = m } ∷ x ∷ xs))
    (λ ys. known_of r ys ≡ Some m)
    (λ _. ap (λ b. cond b (Some m) (known_of r xs)) (same_region-itself r))
    (λ other. cond_both (region_before x.region r) (x ∷ put_known (record { region = r; number = m }) xs) (record { region = r; number = m } ∷ x ∷ xs) (λ ys. known_of r ys ≡ Some m)
    (λ _. ap (λ b. cond b (Some x.number) (known_of r (put_known (record { region = r; number = m }) xs))) other ∙ put_has r m xs)
    (λ _. ap (λ b. cond b (Some m) (known_of r (x ∷ xs))) (same_region-itself r)))

own_put : (r : RegionId) (m : ℕ) (ks : List Known) → known_of r (with_only r (Some m) ks) ≡ Some m
own_put r m ks = put_has r m (filter (λ (k : Known). not (same_region k.region r)) ks)

-- -- Sizes

lesser_first : (m : ℕ) (o : Option ℕ) → lesser m o ≤ m
lesser_first m None = omega arith
lesser_first m (Some n) = cond_both (nat_le m n) m n (λ k. k ≤ m) (λ _. omega arith) (λ other. let less : n < m = leb-false m n other in omega (arith, less))

lesser_second : (m n : ℕ) → lesser m (Some n) ≤ n
lesser_second m n = cond_both (nat_le m n) m n (λ k. k ≤ n) (λ yes. leb-true m n yes) (λ _. omega arith)

size_at : (z : ℤ) (n : ℕ) → pos 0 ≤ℤ z → z ≤ℤ pos n → unsigned_abs z ≤ n
size_at (pos k) n low high = omega (arith, ints)
size_at (negsuc k) n low high = absurd (omega (arith, ints))

size_below : (lane : ℕ) (s : State) (n : ℕ) → n < 4294967296 → (v : Values) → HasValue lane (world_of s) n v → size_of (only_number v) ≤ n
size_below lane s n lt v h = by (only_number v) refl
  where
    in_range : (si : Interval) → only_number v ≡ Some si → int_lt si.lo (pos 0) ≡ false → unsigned_abs si.lo ≤ n
    in_range si e above =
        let low : pos 0 ≤ℤ si.lo = int_lt_false si.lo (pos 0) above in
        let member : IsMember (concrete.number n) si = only_has lane (world_of s) n lt v si e h in
        let from : si.lo ≤ℤ concrete.number n = member_above (concrete.number n) si member in
        ⊎_elim
        (λ (small : n < 2147483648). let is : concrete.number n ≡ pos n = number-low n small in size_at si.lo n low (omega (arith, ints)))
        (λ (big : 2147483648 ≤ n).
        let is : concrete.number n ≡ negsuc (4294967295 - n) = number-high n (4294967295 - n) (omega (arith, big)) (omega (arith, lt)) in
        absurd (omega (arith, ints)))
        (cases_lt n 2147483648)

    by : (o : Option Interval) → only_number v ≡ o → size_of o ≤ n
    by None e = omega arith
    by (Some si) e = cond_both (int_lt si.lo (pos 0)) 0 (unsigned_abs si.lo) (λ k. k ≤ n) (λ _. omega arith) (λ above. in_range si e above)

-- -- Things after an allocation

-- where a list with one element more at its end is split
snoc_split : (new x : Allocation) (xs before later : List Allocation) → xs ++ (new ∷ []) ≡ before ++ (x ∷ later)
    → ((later ≡ []) × (x ≡ new) × (before ≡ xs)) ⊎ ((rest : List Allocation) × (later ≡ rest ++ (new ∷ [])) × (xs ≡ before ++ (x ∷ rest)))
snoc_split new x [] [] later e = inl (tail later e, first later e, refl)
  where
    first : (later : List Allocation) → new ∷ [] ≡ x ∷ later → x ≡ new
    first later e = cc

    tail : (later : List Allocation) → new ∷ [] ≡ x ∷ later → later ≡ []
    tail later e = cc
snoc_split new x [] (y ∷ before) later e = absurd (none before e)
  where
    none : (before : List Allocation) → new ∷ [] ≡ y ∷ (before ++ (x ∷ later)) → ⊥
    none [] e = cc
    none (z ∷ zs) e = cc
snoc_split new x (w ∷ xs) [] later e = inr (xs, tail e, (λ i. first e i ∷ xs))
  where
    first : w ∷ (xs ++ (new ∷ [])) ≡ x ∷ later → w ≡ x
    first e = cc

    tail : w ∷ (xs ++ (new ∷ [])) ≡ x ∷ later → later ≡ xs ++ (new ∷ [])
    tail e = cc
snoc_split new x (w ∷ xs) (y ∷ before) later e = by (snoc_split new x xs before later (tail e))
  where
    first : w ∷ (xs ++ (new ∷ [])) ≡ y ∷ (before ++ (x ∷ later)) → w ≡ y
    first e = cc

    tail : w ∷ (xs ++ (new ∷ [])) ≡ y ∷ (before ++ (x ∷ later)) → xs ++ (new ∷ []) ≡ before ++ (x ∷ later)
    tail e = cc

    by : ((later ≡ []) × (x ≡ new) × (before ≡ xs)) ⊎ ((rest : List Allocation) × (later ≡ rest ++ (new ∷ [])) × (xs ≡ before ++ (x ∷ rest)))
        → ((later ≡ []) × (x ≡ new) × (y ∷ before ≡ w ∷ xs)) ⊎ ((rest : List Allocation) × (later ≡ rest ++ (new ∷ [])) × (w ∷ xs ≡ (y ∷ before) ++ (x ∷ rest)))
    by (inl h) = inl (h.0, h.1, (λ i. sym (first e) i ∷ h.2 i))
    by (inr h) = inr (h.0, h.1, (λ i. first e i ∷ h.2 i))

pub append_split : (new x : Allocation) (xs before later : List Allocation) → xs ≡ before ++ (x ∷ later) → xs ++ (new ∷ []) ≡ before ++ (x ∷ (later ++ (new ∷ [])))
append_split new x xs [] later e = ap (λ ys. ys ++ (new ∷ [])) e
append_split new x [] (y ∷ before) later e = absurd (cc)
append_split new x (w ∷ xs) (y ∷ before) later e = (λ i. first e i ∷ append_split new x xs before later (tail e) i)
  where
    first : w ∷ xs ≡ y ∷ (before ++ (x ∷ later)) → w ≡ y
    first e = cc

    tail : w ∷ xs ≡ y ∷ (before ++ (x ∷ later)) → xs ≡ before ++ (x ∷ later)
    tail e = cc

module _ (lane : ℕ) (a : AbsState) (s t : State) (new : Allocation) (got : IsAllocated s t new) (stands : StandsFor lane a s) where
  abbrev key : ℕ
  key = key_of lane new

  -- a thing that was there before
  abbrev lift : Thing → Thing
  lift TheImage = TheImage
  lift (ActivationAt newer x older) = ActivationAt newer x older
  lift (BlockAt before x later) = BlockAt before x (later ++ (new ∷ []))

  lift_base : (u : Thing) → base_of (lift u) ≡ base_of u
  lift_base TheImage = refl
  lift_base (ActivationAt newer x older) = refl
  lift_base (BlockAt before x later) = refl

  lift_in : (u : Thing) → IsIn (world_of s) u → IsIn (world_of t) (lift u)
  lift_in TheImage h = tt
  lift_in (ActivationAt newer x older) h = got.activations ∙ h
  lift_in (BlockAt before x later) h = (got.allocs ∙ append_split new x s.allocs before later h.0, h.1)

  -- a thing is the new block, or was there before
  which : (u : Thing) → IsIn (world_of t) u → (u ≡ BlockAt s.allocs new []) ⊎ ((v : Thing) × IsIn (world_of s) v × (lift v ≡ u))
  which TheImage h = inr (TheImage, tt, refl)
  which (ActivationAt newer x older) h = inr (ActivationAt newer x older, sym got.activations ∙ h, refl)
  which (BlockAt before x later) h = by (snoc_split new x s.allocs before later (sym got.allocs ∙ h.0))
    where
      by : ((later ≡ []) × (x ≡ new) × (before ≡ s.allocs)) ⊎ ((rest : List Allocation) × (later ≡ rest ++ (new ∷ [])) × (s.allocs ≡ before ++ (x ∷ rest)))
          → (BlockAt before x later ≡ BlockAt s.allocs new []) ⊎ ((v : Thing) × IsIn (world_of s) v × (lift v ≡ BlockAt before x later))
      by (inl e) = inl (λ i. BlockAt (e.2 i) (e.1 i) (e.0 i))
      by (inr e) = inr (BlockAt before x e.0, (e.2, h.1), (λ i. BlockAt before x (sym e.1 i)))

  -- whether the key comes later, when the new one has
  key_later : (k : ℕ) (later : List Allocation) → has_key lane k (later ++ (new ∷ [])) ≡ (has_key lane k later || ((key == k) || false))
  key_later k later = list_any-append (λ (x : Allocation). key_of lane x == k) later (new ∷ [])

  region_cases : (u : Thing) → (region_of lane (lift u) ≡ region_of lane u) ⊎ ((region_of lane u ≡ Heap key) × (region_of lane (lift u) ≡ OldHeap key))
  region_cases TheImage = inl refl
  region_cases (ActivationAt newer x older) = inl refl
  region_cases (BlockAt before x later) = by (has_key lane (key_of lane x) later) (key == key_of lane x) refl (key_later (key_of lane x) later)
    where
      by : (had hit : Bool) → (key == key_of lane x) ≡ hit → has_key lane (key_of lane x) (later ++ (new ∷ [])) ≡ (had || (hit || false))
          → (cond (has_key lane (key_of lane x) (later ++ (new ∷ []))) (OldHeap (key_of lane x)) (Heap (key_of lane x)) ≡ cond had (OldHeap (key_of lane x)) (Heap (key_of lane x)))
          ⊎ ((cond had (OldHeap (key_of lane x)) (Heap (key_of lane x)) ≡ Heap key) × (cond (has_key lane (key_of lane x) (later ++ (new ∷ []))) (OldHeap (key_of lane x)) (Heap (key_of lane x)) ≡ OldHeap key))
      by true hit e f = inl (ap (λ b. cond b (OldHeap (key_of lane x)) (Heap (key_of lane x))) f)
      by false true e f =
          let same : key_of lane x ≡ key = sym (eqb-true key (key_of lane x) e) in
          inr (ap Heap same, ap (λ b. cond b (OldHeap (key_of lane x)) (Heap (key_of lane x))) f ∙ ap OldHeap same)
      by false false e f = inl (ap (λ b. cond b (OldHeap (key_of lane x)) (Heap (key_of lane x))) f)

  -- none that was there before is the newest block of the key
  not_newest : (u : Thing) → region_of lane (lift u) ≡ Heap key → ⊥
  not_newest TheImage e = cc
  not_newest (ActivationAt newer x older) e = by (is_called x.callee newer) e
    where
      by : (b : Bool) → cond b (OldFrame x.callee) (Frame x.callee) ≡ Heap key → ⊥
      by true e = cc
      by false e = cc
  not_newest (BlockAt before x later) e = by (has_key lane (key_of lane x) (later ++ (new ∷ []))) (has_key lane (key_of lane x) later) (key == key_of lane x) refl (key_later (key_of lane x) later) e
    where
      by : (b had hit : Bool) → (key == key_of lane x) ≡ hit → b ≡ (had || (hit || false)) → cond b (OldHeap (key_of lane x)) (Heap (key_of lane x)) ≡ Heap key → ⊥
      by true had hit f g e = cc
      by false true hit f g e = false≢true g
      by false false true f g e = false≢true g
      by false false false f g e = let same : key_of lane x ≡ key = cc in true≢false (sym (eq-eqb key (key_of lane x) (sym same)) ∙ f)

  -- -- Values

  aged_thing : (v : Values) (u : Thing) → IsIn (world_of s) u → Stands lane (world_of t) u v (age (Heap key) (OldHeap key) v)
  aged_thing v u h = record { now = lift u; is_in = lift_in u h; base = lift_base u; has = λ o k. by (region_cases u) o k }
    where
      by : (region_of lane (lift u) ≡ region_of lane u) ⊎ ((region_of lane u ≡ Heap key) × (region_of lane (lift u) ≡ OldHeap key)) → (o : ℤ) → HasOffset (region_of lane u) o v
          → HasOffset (region_of lane (lift u)) o (age (Heap key) (OldHeap key) v)
      by (inl same) o k =
          age_keeps (Heap key) (OldHeap key) (region_of lane (lift u)) o v (apart_from (region_of lane (lift u)) (Heap key) (not_newest u)) (subst (λ r. HasOffset r o v) (sym same) k)
      by (inr young) o k =
          subst (λ r. HasOffset r o (age (Heap key) (OldHeap key) v)) (sym young.1) (age_renames (Heap key) (OldHeap key) o v (subst (λ r. HasOffset r o v) young.0 k))

  aged_value : (n : ℕ) (v : Values) → HasValue lane (world_of s) n v → HasValue lane (world_of t) n (age (Heap key) (OldHeap key) v)
  aged_value n v h = moved_value lane (world_of s) (world_of t) n v (age (Heap key) (OldHeap key) v) (aged_thing v) (age_top (Heap key) (OldHeap key) v) h

  -- -- Cells

  module _ (form : HasCanonical a) (argument : Values) (size : HasValue lane (world_of s) new.size argument) (word : new.size < 4294967296) (no_fact : a.fact ≡ None)
      (unaligned : (known_of (Heap key) a.aligns ≡ None) × (known_of (OldHeap key) a.aligns ≡ None)) where
    abbrev aged : AbsState
    aged = with_values (age (Heap key) (OldHeap key)) a

    aged_form : CellsAreCanonical aged.cells
    aged_form = rebuilt_form (λ y. age (Heap key) (OldHeap key) (value_at a y)) a.cells (λ y. age_form (Heap key) (OldHeap key) (value_at a y) (value_canonical y a.cells form.cells))

    aged_cell : (n : ℕ) (x : Cell) → HasValue lane (world_of s) n (value_at a x) → HasValue lane (world_of t) n (value_at aged x)
    aged_cell n x h = rebuilt_value (HasValue lane (world_of t) n) x (λ y. age (Heap key) (OldHeap key) (value_at a y)) a.cells tt (aged_value n (value_at a x) h)

    owns_back : (u : Thing) (y : ℕ) → Owns t (lift u) y → Owns s u y
    owns_back TheImage y h = h
    owns_back (ActivationAt newer x older) y h = (subst (λ n. is_in_stack n y ≡ true) got.slot h.0, h.1, h.2)
    owns_back (BlockAt before x later) y h = h

    old_value : (u : Thing) → IsIn (world_of s) u → (x : Cell) (at len : ℕ) (bytes : List ℕ) → IsCellOf lane t (lift u) x at len → bytes_at t.memory at len ≡ Some bytes
        → HasValue lane (world_of s) (little_endian bytes) (value_at a (as_of (region_of lane u) x))
    old_value u h x at len bytes of is =
        stands.cells u (as_of (region_of lane u) x) at len bytes
        (record {
          is_in = h;
          region = refl;
          lies = record { start = of.lies.start ∙ ap (λ b. pos b +ℤ x.start) (lift_base u); end = of.lies.end; owned = λ k lt. owns_back u (at + k) (of.lies.owned k lt) };
        })
        (same_bytes s.memory t.memory at at len (λ k lt. sym (got.bytes u h (at + k) (owns_back u (at + k) (of.lies.owned k lt)))) ∙ is)

    -- a block's size is known
    size_known : (u : Thing) → IsIn (world_of s) u → (k : ℕ) → (region_of lane u ≡ Heap k) ⊎ (region_of lane u ≡ OldHeap k) → (m : ℕ) × (known_of (region_of lane u) a.blocks ≡ Some m)
    size_known (BlockAt before x later) h k e = let is = stands.blocks before later x h in (is.least, is.known)
    size_known TheImage h k (inl e) = absurd (cc)
    size_known TheImage h k (inr e) = absurd (cc)
    size_known (ActivationAt newer x older) h k e = absurd (by (is_called x.callee newer) e)
      where
        by : (b : Bool) → (cond b (OldFrame x.callee) (Frame x.callee) ≡ Heap k) ⊎ (cond b (OldFrame x.callee) (Frame x.callee) ≡ OldHeap k) → ⊥
        by true (inl e) = cc
        by true (inr e) = cc
        by false (inl e) = cc
        by false (inr e) = cc

    -- a cell of older blocks: one that was older, and one that was the newest
    was_older : (x : Cell) (n m : ℕ) (o : Option ℕ) → HasValue lane (world_of t) n (value_at aged x) → HasValue lane (world_of t) n (older_block_value o (Some m) aged key x)
    was_older x n m None h = h
    was_older x n m (Some k) h =
        held_has lane t n x _ (join_has_left lane (world_of t) n (value_at aged x) (value_at aged (as_of (Heap key) x)) (value_canonical x aged.cells aged_form) (value_canonical (as_of (Heap key) x) aged.cells aged_form) h)

    was_newest : (x : Cell) (n m : ℕ) (o : Option ℕ) → HasValue lane (world_of t) n (value_at aged (as_of (Heap key) x)) → HasValue lane (world_of t) n (older_block_value (Some m) o aged key x)
    was_newest x n m None h = h
    was_newest x n m (Some k) h =
        held_has lane t n x _ (join_has_right lane (world_of t) n (value_at aged x) (value_at aged (as_of (Heap key) x)) (value_canonical x aged.cells aged_form) (value_canonical (as_of (Heap key) x) aged.cells aged_form) h)

    older_has : (u : Thing) → IsIn (world_of s) u → (region_of lane (lift u) ≡ region_of lane u) ⊎ ((region_of lane u ≡ Heap key) × (region_of lane (lift u) ≡ OldHeap key)) → (x : Cell) (n : ℕ) → region_of lane (lift u) ≡ x.region
        → x.region ≡ OldHeap key → HasValue lane (world_of s) n (value_at a (as_of (region_of lane u) x))
        → HasValue lane (world_of t) n (older_block_value (known_of (Heap key) a.blocks) (known_of (OldHeap key) a.blocks) aged key x)
    older_has u h (inl same) x n here old value =
        let region : region_of lane u ≡ OldHeap key = sym same ∙ here ∙ old in
        let known_ = size_known u h key (inr region) in
        subst (λ o. HasValue lane (world_of t) n (older_block_value (known_of (Heap key) a.blocks) o aged key x)) (sym (ap (λ r. known_of r a.blocks) (sym region) ∙ known_.1))
        (was_older x n known_.0 (known_of (Heap key) a.blocks)
        (aged_cell n x (subst (λ y. HasValue lane (world_of s) n (value_at a y)) (as_itself (region_of lane u) x (sym same ∙ here)) value)))
    older_has u h (inr young) x n here old value =
        let known_ = size_known u h key (inl young.0) in
        subst (λ o. HasValue lane (world_of t) n (older_block_value o (known_of (OldHeap key) a.blocks) aged key x)) (sym (ap (λ r. known_of r a.blocks) (sym young.0) ∙ known_.1))
        (was_newest x n known_.0 (known_of (OldHeap key) a.blocks)
        (aged_cell n (as_of (Heap key) x) (subst (λ r. HasValue lane (world_of s) n (value_at a (as_of r x))) young.0 value)))

    other_has : (u : Thing) → (region_of lane (lift u) ≡ region_of lane u) ⊎ ((region_of lane u ≡ Heap key) × (region_of lane (lift u) ≡ OldHeap key)) → (x : Cell) (n : ℕ) → region_of lane (lift u) ≡ x.region
        → is_in (OldHeap key) x ≡ false → HasValue lane (world_of s) n (value_at a (as_of (region_of lane u) x)) → HasValue lane (world_of t) n (value_at aged x)
    other_has u (inl same) x n here other value = aged_cell n x (subst (λ y. HasValue lane (world_of s) n (value_at a y)) (as_itself (region_of lane u) x (sym same ∙ here)) value)
    other_has u (inr young) x n here other value =
        absurd (true≢false (sym (same_region-itself (OldHeap key)) ∙ ap (λ r. same_region r (OldHeap key)) (sym young.1 ∙ here) ∙ other))

    abbrev older_cells : AbsState
    older_cells = with_older_block key aged

    abbrev final : AbsState
    final = allocated key argument a

    old_cell : (u : Thing) → IsIn (world_of s) u → (x : Cell) (at len : ℕ) (bytes : List ℕ) → IsCellOf lane t (lift u) x at len → bytes_at t.memory at len ≡ Some bytes → HasValue lane (world_of t) (little_endian bytes) (value_at older_cells x)
    old_cell u h x at len bytes of is =
        let n = little_endian bytes in
        let value = old_value u h x at len bytes of is in
        rebuilt_value (HasValue lane (world_of t) n) x (λ y. cond (is_in (OldHeap key) y) (older_block_value (known_of (Heap key) a.blocks) (known_of (OldHeap key) a.blocks) aged key y) (value_at aged y))
        (aged.cells ++ moved (Heap key) (OldHeap key) aged.cells) tt
        (cond_both (is_in (OldHeap key) x) (older_block_value (known_of (Heap key) a.blocks) (known_of (OldHeap key) a.blocks) aged key x) (value_at aged x) (HasValue lane (world_of t) n)
        (λ yes. older_has u h (region_cases u) x n of.region (same_region-equal x.region (OldHeap key) yes) value)
        (λ other. other_has u (region_cases u) x n of.region other value))

    all_cells : (u : Thing) (x : Cell) (at len : ℕ) (bytes : List ℕ) → IsCellOf lane t u x at len → bytes_at t.memory at len ≡ Some bytes → HasValue lane (world_of t) (little_endian bytes) (value_at final x)
    unfolding allocated
    all_cells u x at len bytes of is =
        rebuilt_value (HasValue lane (world_of t) (little_endian bytes)) x (λ y. cond (is_in (Heap key) y) Top (value_at older_cells y)) older_cells.cells tt
        (cond_both (is_in (Heap key) x) Top (value_at older_cells x) (HasValue lane (world_of t) (little_endian bytes)) (λ _. tt) (λ other. by (which u of.is_in) other))
      where
        by : (u ≡ BlockAt s.allocs new []) ⊎ ((v : Thing) × IsIn (world_of s) v × (lift v ≡ u)) → is_in (Heap key) x ≡ false → HasValue lane (world_of t) (little_endian bytes) (value_at older_cells x)
        by (inl e) other =
            absurd (true≢false (sym (same_region-itself (Heap key)) ∙ ap (λ r. same_region r (Heap key)) (sym (ap (region_of lane) e) ∙ of.region) ∙ other))
        by (inr old) other = old_cell old.0 old.1 x at len bytes (subst (λ z. IsCellOf lane t z x at len) (sym old.2) of) is

    -- -- Sizes and alignments

    abbrev sizes : List Known
    sizes = sizes_after key (size_of (only_number argument)) a.blocks

    heap_apart : same_region (Heap key) (OldHeap key) ≡ false
    heap_apart = apart_from (Heap key) (OldHeap key) (λ e. cc)

    -- sizes of regions of older blocks
    old_size : (o p : Option ℕ) (n size : ℕ) → (o ≡ Some n) ⊎ (p ≡ Some n) → n ≤ size → (m : ℕ) × (older_size o p ≡ Some m) × (m ≤ size)
    old_size None p n size (inl e) le = absurd (none-some n e)
    old_size None p n size (inr e) le = (n, e, le)
    old_size (Some m) p n size (inl e) le =
        (lesser m p, refl, (let small = lesser_first m p in let same : m ≡ n = same_Some m n e in omega (arith, small, same, le)))
    old_size (Some m) None n size (inr e) le = absurd (none-some n e)
    old_size (Some m) (Some k) n size (inr e) le =
        (lesser m (Some k), refl, (let small = lesser_second m k in let same : k ≡ n = same_Some k n e in omega (arith, small, same, le)))

    sized_old : (u : Thing) → (region_of lane (lift u) ≡ region_of lane u) ⊎ ((region_of lane u ≡ Heap key) × (region_of lane (lift u) ≡ OldHeap key)) → (size : ℕ) → IsSized (known_of (region_of lane u) a.blocks) size
        → (b : Bool) → same_region (OldHeap key) (region_of lane (lift u)) ≡ b → IsSized (known_of (region_of lane (lift u)) sizes) size
    sized_old u cases size is true f =
        let here : OldHeap key ≡ region_of lane (lift u) = same_region-equal (OldHeap key) (region_of lane (lift u)) f in
        let found = old_size (known_of (Heap key) a.blocks) (known_of (OldHeap key) a.blocks) is.least size (source cases here) is.below in
        subst (λ r. IsSized (known_of r sizes) size) here
        (record {
          least = found.0;
          known = other_stays (OldHeap key) (Heap key) (Some (size_of (only_number argument))) (with_only (OldHeap key) (older_size (known_of (Heap key) a.blocks) (known_of (OldHeap key) a.blocks)) a.blocks) heap_apart
              ∙ ap (λ o. known_of (OldHeap key) (with_only (OldHeap key) o a.blocks)) found.1 ∙ own_put (OldHeap key) found.0 a.blocks;
          below = found.2;
        })
      where
        source : (region_of lane (lift u) ≡ region_of lane u) ⊎ ((region_of lane u ≡ Heap key) × (region_of lane (lift u) ≡ OldHeap key)) → OldHeap key ≡ region_of lane (lift u)
            → (known_of (Heap key) a.blocks ≡ Some is.least) ⊎ (known_of (OldHeap key) a.blocks ≡ Some is.least)
        source (inl same) here = inr (ap (λ r. known_of r a.blocks) (here ∙ same) ∙ is.known)
        source (inr young) here = inl (ap (λ r. known_of r a.blocks) (sym young.0) ∙ is.known)
    sized_old u (inr young) size is false f = absurd (true≢false (sym (same_region-itself (OldHeap key)) ∙ ap (same_region (OldHeap key)) (sym young.1) ∙ f))
    sized_old u (inl same) size is false f =
        record {
          least = is.least;
          known =
              other_stays (region_of lane (lift u)) (Heap key) (Some (size_of (only_number argument))) (with_only (OldHeap key) (older_size (known_of (Heap key) a.blocks) (known_of (OldHeap key) a.blocks)) a.blocks)
              (apart_from (Heap key) (region_of lane (lift u)) (λ e. not_newest u (sym e)))
              ∙ other_stays (region_of lane (lift u)) (OldHeap key) (older_size (known_of (Heap key) a.blocks) (known_of (OldHeap key) a.blocks)) a.blocks f ∙ ap (λ r. known_of r a.blocks) same ∙ is.known;
          below = is.below;
        }

    all_sizes : (before later : List Allocation) (x : Allocation) → IsIn (world_of t) (BlockAt before x later) → IsSized (known_of (region_of lane (BlockAt before x later)) sizes) x.size
    all_sizes before later x h = by (snoc_split new x s.allocs before later (sym got.allocs ∙ h.0))
      where
        by : ((later ≡ []) × (x ≡ new) × (before ≡ s.allocs)) ⊎ ((rest : List Allocation) × (later ≡ rest ++ (new ∷ [])) × (s.allocs ≡ before ++ (x ∷ rest))) → IsSized (known_of (region_of lane (BlockAt before x later)) sizes) x.size
        by (inl e) =
            subst (λ k. IsSized (known_of (region_of lane (BlockAt before x k)) sizes) x.size) (sym e.0)
            (subst (λ (y : Allocation). IsSized (known_of (region_of lane (BlockAt before y [])) sizes) y.size) (sym e.1)
            (record {
              least = size_of (only_number argument);
              known = own_put (Heap key) (size_of (only_number argument)) (with_only (OldHeap key) (older_size (known_of (Heap key) a.blocks) (known_of (OldHeap key) a.blocks)) a.blocks);
              below = size_below lane s new.size word argument size;
            }))
        by (inr e) =
            subst (λ k. IsSized (known_of (region_of lane (BlockAt before x k)) sizes) x.size) (sym e.1)
            (sized_old (BlockAt before x e.0) (region_cases (BlockAt before x e.0)) x.size (stands.blocks before e.0 x (e.2, h.1)) (same_region (OldHeap key) (region_of lane (lift (BlockAt before x e.0)))) refl)

    all_aligns : (u : Thing) (n : ℕ) → IsIn (world_of t) u → known_of (region_of lane u) a.aligns ≡ Some n → base_of u % 16 ≡ n
    all_aligns u n h e = by (which u h)
      where
        old : (v : Thing) → IsIn (world_of s) v → (region_of lane (lift v) ≡ region_of lane v) ⊎ ((region_of lane v ≡ Heap key) × (region_of lane (lift v) ≡ OldHeap key)) → known_of (region_of lane (lift v)) a.aligns ≡ Some n → base_of (lift v) % 16 ≡ n
        old v within (inl same) f = ap (λ k. k % 16) (lift_base v) ∙ stands.aligns v n within (ap (λ r. known_of r a.aligns) (sym same) ∙ f)
        old v within (inr young) f = absurd (none-some n (sym unaligned.1 ∙ ap (λ r. known_of r a.aligns) (sym young.1) ∙ f))

        by : (u ≡ BlockAt s.allocs new []) ⊎ ((v : Thing) × IsIn (world_of s) v × (lift v ≡ u)) → base_of u % 16 ≡ n
        by (inl same) = absurd (none-some n (sym unaligned.0 ∙ ap (λ r. known_of r a.aligns) (sym (ap (region_of lane) same)) ∙ e))
        by (inr was) =
            ap (λ z. base_of z % 16) (sym was.2) ∙ old was.0 was.1 (region_cases was.0) (ap (λ z. known_of (region_of lane z) a.aligns) was.2 ∙ e)

    pub allocated_stands : StandsFor lane (allocated key argument a) t
    unfolding allocated
    allocated_stands =
        record {
          registers = λ n lt. subst (λ k. HasValue lane (world_of t) k (age (Heap key) (OldHeap key) (a.registers n))) (sym (ap (λ f. f n) got.registers)) (aged_value (s.registers n) (a.registers n) (stands.registers n lt));
          flags = λ n lt. subst (λ f. a.flags n (f n) ≡ true) (sym got.flags) (stands.flags n lt);
          cells = all_cells;
          root = λ newer oldest split. stands.root newer oldest (sym got.activations ∙ split);
          live = λ newer older x split. stands.live newer older x (sym got.activations ∙ split);
          older = λ newer older x split h. stands.older newer older x (sym got.activations ∙ split) h;
          links = λ newer older child parent split. stands.links newer older child parent (sym got.activations ∙ split);
          aligns = all_aligns;
          blocks = all_sizes;
          fact = subst (λ f. HoldsFact lane t f) (sym no_fact) tt;
        }

pub allocated_states_stand : AllocatedStatesStand
allocated_states_stand lane a s t new argument form stands got size word no_fact unaligned = allocated_stands lane a s t new got stands form argument size word no_fact unaligned
