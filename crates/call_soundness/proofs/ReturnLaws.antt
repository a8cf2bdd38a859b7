-- After a return the abstract state after the abstract return stands for the state.
use Rattle.std.proofs.Common.{◌≡◌, ◌⊎◌, inl, inr, ℕ, ◌+◌, ◌%◌, ◌^◌, ◌<◌, ◌≤◌, ◌==◌, ◌&&◌, ◌||◌, Bool, true, false, not, cond, List, [], ◌∷◌, ◌++◌, Some, None, refl, sym, ◌∙◌, ap, subst, arith, pos}
use Rattle.std.specs.Prelude.{map, filter, ℤ, ◌+ℤ◌, ◌-ℤ◌, ◌≤ℤ◌, int_lt, FitsSigned}
use Rattle.std.specs.Int.{w32}
use Rattle.std.specs.List.{list_any}
use Rattle.std.proofs.lemmas.Int.{ints, int_wrap_fits}
use Rattle.std.proofs.lemmas.Bool.{false≢true, true≢false, cond_both, eqb-true, eq-eqb, or_left, or_right, or_cases, and_from}
use Rattle.image_map.specs.declared.region.Activation.{Activation}
use Rattle.image_map.specs.declared.region.Cell.{Cell}
use Rattle.image_map.specs.declared.region.RegionId.{RegionId}
use Rattle.image_map.specs.declared.region.RegionId.TheVariants.{Frame, OldFrame}
use Rattle.image_map.specs.Regions.{same_region}
use Rattle.image_map.proofs.OrderLaws.{same_region-equal, same_region-itself}
use Rattle.ia32_semantics.specs.CallModel.{AreActivations}
use Rattle.ia32_semantics.specs.Outcome.{is_in_stack}
use Rattle.ia32_semantics.specs.State.{State, put, bytes_at, little_endian}
use Rattle.alocs.proofs.CellLemmas.{int_lt_false}
use Rattle.strided.specs.Concrete.{signed}
use Rattle.strided.specs.Interval.{Interval, IsMember, one}
use Rattle.strided.specs.Operations as interval
use Rattle.strided.proofs.SumLemmas.{member_one, member_add}
use Rattle.vset.specs.declared.part.Part.{Part}
use Rattle.vset.specs.Members.{HasValue, IsOffset, HasOffset}
use Rattle.vset.specs.Operations.{part, drop_region, also}
use Rattle.vset.specs.Values.{Values, Top, Parts}
use Rattle.vset.specs.World.{Thing, TheImage, ActivationAt, BlockAt, IsIn, base_of, region_of, is_called}
use Rattle.vset.proofs.MemberLemmas.{settled_has}
use Rattle.vset.proofs.OffsetLemmas.{drop_keeps, also_keeps, also_young}
use Rattle.abs_semantics.specs.declared.parts.Link.{Link}
use Rattle.abs_semantics.specs.States.{AbsState, value_at, has_procedure, known_of}
use Rattle.abs_semantics.specs.StandsFor.{StandsFor, world_of, Owns, IsCellOf, IsLinked, HasLinks, IsSized}
use Rattle.abs_semantics.proofs.CellLemmas.{rebuilt_value}
use Rattle.abs_semantics.proofs.StackLemmas.{base_bounds}
use Rattle.abs_semantics.proofs.StoreLemmas.{same_bytes}
use Rattle.abs_steps.specs.Calls.{as_of, is_in, lies_below, with_values, with_only, links_as, without_young, is_of_age, moved, ended, revived, ended_or_revived, esp_after, gone_back, returned}
use Rattle.abs_semantics.specs.Joins.{links_of}
use Rattle.call_soundness.specs.Calls.{IsReturned}
use Rattle.call_soundness.specs.Laws.{ReturnedStatesStand}
use Rattle.call_soundness.proofs.CallLaws.{stack_owner}
use Rattle.call_soundness.proofs.ListLaws.{links_keep, links_have, without_keeps, only_other, only_same}
use Rattle.call_soundness.proofs.ThingLaws.{as_itself, lift, lift_base, lift_in, which, region_cases, not_newest, was_older}
use Rattle.call_soundness.proofs.ValueLaws.{points_of, value_from}

-- -- Values that lose a region

has_region : (r : RegionId) (o : ℤ) (ps : List Part) → IsOffset r o ps → list_any (λ (x : Part). same_region x.region r) ps ≡ true
has_region r o [] h = absurd h
has_region r o (x ∷ ps) (inl here) =
    or_left (same_region x.region r) (list_any (λ (x : Part). same_region x.region r) ps) (ap (λ q. same_region q r) here.0 ∙ same_region-itself r)
has_region r o (x ∷ ps) (inr later) = or_right (same_region x.region r) (list_any (λ (x : Part). same_region x.region r) ps) (has_region r o ps later)

drop_loses : (r : RegionId) (o : ℤ) (v : Values) → HasOffset r o v → drop_region r v ≡ Top
unfolding drop_region
drop_loses r o Top h = refl
drop_loses r o (Parts ps) h = ap (λ b. cond b Top (Parts ps)) (has_region r o ps h)

-- -- Lists without a procedure

kept_procedure : (c q : ℕ) (xs : List ℕ) → (q == c) ≡ false → has_procedure c xs ≡ true → has_procedure c (filter (λ (t : ℕ). not (t == q)) xs) ≡ true
kept_procedure c q [] apart has = absurd (false≢true has)
kept_procedure c q (x ∷ xs) apart has = by (kept_procedure c q xs apart) (x == q) refl (or_cases (x == c) (has_procedure c xs) has)
  where
    by : (has_procedure c xs ≡ true → has_procedure c (filter (λ (t : ℕ). not (t == q)) xs) ≡ true) → (b : Bool) → (x == q) ≡ b → ((x == c) ≡ true) ⊎ (has_procedure c xs ≡ true)
        → has_procedure c (cond (not b) (x ∷ filter (λ (t : ℕ). not (t == q)) xs) (filter (λ (t : ℕ). not (t == q)) xs)) ≡ true
    by rest true f (inl is) =
        let same : q ≡ c = sym (eqb-true x q f) ∙ eqb-true x c is in
        absurd (true≢false (sym (eq-eqb q c same) ∙ apart))
    by rest true f (inr later) = rest later
    by rest false f (inl is) = or_left (x == c) (has_procedure c (filter (λ (t : ℕ). not (t == q)) xs)) is
    by rest false f (inr later) = or_right (x == c) (has_procedure c (filter (λ (t : ℕ). not (t == q)) xs)) (rest later)

module _ (child : ℕ) (aged : Bool) (parent : ℕ) (distance : ℤ) where
  other_links : (q : ℕ) → (q == child) ≡ false → (ls : List Link) → IsLinked ls child aged parent distance → IsLinked (filter (λ (l : Link). not (l.child == q)) ls) child aged parent distance
  other_links q apart [] is = absurd is
  other_links q apart (l ∷ ls) (inr later) =
      cond_both (not (l.child == q)) (l ∷ filter (λ (l : Link). not (l.child == q)) ls) (filter (λ (l : Link). not (l.child == q)) ls) (λ xs. IsLinked xs child aged parent distance)
      (λ _. inr (other_links q apart ls later)) (λ _. other_links q apart ls later)
  other_links q apart (l ∷ ls) (inl h) =
      cond_both (not (l.child == q)) (l ∷ filter (λ (l : Link). not (l.child == q)) ls) (filter (λ (l : Link). not (l.child == q)) ls) (λ xs. IsLinked xs child aged parent distance)
      (λ _. inl h)
      (λ hit.
      let same : q ≡ child = sym (eqb-true l.child q (not_of (l.child == q) hit)) ∙ h.0 in
      absurd (true≢false (sym (eq-eqb q child same) ∙ apart)))
    where
      not_of : (b : Bool) → not b ≡ false → b ≡ true
      not_of true e = refl
      not_of false e = absurd (true≢false e)

-- the links of older activations become those of the newest
links_young : (child parent : ℕ) (distance : ℤ) (ls : List Link) → IsLinked ls child true parent distance → IsLinked (links_as child true false ls) child false parent distance
links_young child parent distance [] is = absurd is
links_young child parent distance (l ∷ ls) (inr later) =
    cond_both (is_of_age child true l) (l ∷ filter (is_of_age child true) ls) (filter (is_of_age child true) ls) (λ xs. IsLinked (map (λ (m : Link). record m { aged = false }) xs) child false parent distance)
    (λ _. inr (links_young child parent distance ls later)) (λ _. links_young child parent distance ls later)
links_young child parent distance (l ∷ ls) (inl h) =
    cond_both (is_of_age child true l) (l ∷ filter (is_of_age child true) ls) (filter (is_of_age child true) ls) (λ xs. IsLinked (map (λ (m : Link). record m { aged = false }) xs) child false parent distance)
    (λ _. inl (h.0, refl, h.2, h.3))
    (λ other. absurd (true≢false (sym (and_from (l.child == child) l.aged (eq-eqb l.child child h.0) h.1) ∙ other)))

-- -- What is left

module _ (lane : ℕ) (a : AbsState) (s t : State) (ending parent : Activation) (others : List Activation) (extra : ℕ) (gone : IsReturned s t ending parent others extra) (stands : StandsFor lane a s) where
  abbrev q : ℕ
  q = ending.callee

  all_before : s.activations ≡ ending ∷ t.activations
  all_before = gone.before ∙ ap (λ xs. ending ∷ xs) (sym gone.activations)

  in_s : (u : Thing) → IsIn (world_of t) u → IsIn (world_of s) (lift ending u)
  in_s u h = lift_in ending (world_of t) (world_of s) all_before (sym gone.allocs) u h

  split_up : (xs : List Activation) → t.activations ≡ xs → s.activations ≡ ending ∷ xs
  split_up xs e = all_before ∙ ap (λ ys. ending ∷ ys) e

  -- values that forget the activation that ends, and have what is in others
  module _ (f : Values → Values) (top : f Top ≡ Top) (loses : (o : ℤ) (v : Values) → HasOffset (Frame q) o v → f v ≡ Top)
      (keeps : (u : Thing) → IsIn (world_of t) u → (o : ℤ) (v : Values) → HasOffset (region_of lane (lift ending u)) o v → HasOffset (region_of lane u) o (f v)) where
    left_value : (n : ℕ) (v : Values) → HasValue lane (world_of s) n v → HasValue lane (world_of t) n (f v)
    left_value n Top h = subst (HasValue lane (world_of t) n) (sym top) tt
    left_value n (Parts ps) h = by (which ending (world_of t) (world_of s) all_before (sym gone.allocs) (points_of lane (world_of s) n ps h).thing (points_of lane (world_of s) n ps h).is_in)
      where
        by : ((points_of lane (world_of s) n ps h).thing ≡ ActivationAt [] ending t.activations) ⊎ ((u : Thing) × IsIn (world_of t) u × (lift ending u ≡ (points_of lane (world_of s) n ps h).thing))
            → HasValue lane (world_of t) n (f (Parts ps))
        by (inl e) =
            let at = points_of lane (world_of s) n ps h in
            subst (HasValue lane (world_of t) n) (sym (loses at.offset (Parts ps) (subst (λ r. HasOffset r at.offset (Parts ps)) (ap (region_of lane) e) at.has))) tt
        by (inr old) =
            let at = points_of lane (world_of s) n ps h in
            value_from lane (world_of t) n old.0 old.1 at.offset at.low at.high (at.reached ∙ ap (λ b. signed (pos b +ℤ at.offset)) (ap base_of (sym old.2) ∙ lift_base ending old.0)) (f (Parts ps))
            (keeps old.0 old.1 at.offset (Parts ps) (subst (λ r. HasOffset r at.offset (Parts ps)) (ap (region_of lane) (sym old.2)) at.has))

  -- An abstract state that stands for what is left, but for ESP and the caller's bytes below it.
  record IsLeft (b : AbsState) : Type 0 where
    pub registers : (n : ℕ) → n < 8 → HasValue lane (world_of t) (s.registers n) (b.registers n)
    pub cells : (u : Thing) → IsIn (world_of t) u → (x : Cell) (n : ℕ) → region_of lane u ≡ x.region → HasValue lane (world_of s) n (value_at a (as_of (region_of lane (lift ending u)) x))
        → HasValue lane (world_of t) n (value_at b x)
    pub flags : b.flags ≡ a.flags
    pub root : b.root ≡ a.root
    pub blocks : b.blocks ≡ a.blocks
    pub older : b.older ≡ a.older
    pub live : (newer older : List Activation) (x : Activation) → t.activations ≡ newer ++ (x ∷ older) → has_procedure x.callee b.live ≡ true
    pub links : HasLinks b t
    pub aligns : (u : Thing) (n : ℕ) → IsIn (world_of t) u → known_of (region_of lane u) b.aligns ≡ Some n → base_of u % 16 ≡ n

  abbrev dropped : AbsState
  dropped = with_values (drop_region (Frame q)) a

  align_back : (u : Thing) (n : ℕ) → IsIn (world_of t) u → known_of (region_of lane (lift ending u)) a.aligns ≡ Some n → base_of u % 16 ≡ n
  align_back u n h e = ap (λ k. k % 16) (sym (lift_base ending u)) ∙ stands.aligns (lift ending u) n (in_s u h) e

  -- -- The activation was the only one of its procedure

  module _ (alone : has_procedure q a.older ≡ false) where
    same_here : (u : Thing) → IsIn (world_of t) u → region_of lane (lift ending u) ≡ region_of lane u
    same_here u h = by (region_cases ending lane u)
      where
        by : (region_of lane (lift ending u) ≡ region_of lane u) ⊎ ((region_of lane u ≡ Frame q) × (region_of lane (lift ending u) ≡ OldFrame q)) → region_of lane (lift ending u) ≡ region_of lane u
        by (inl same) = same
        by (inr young) = absurd (true≢false (sym (was_older lane a s stands q (lift ending u) (in_s u h) young.1) ∙ alone))

    not_hit : (newer older : List Activation) (x : Activation) → t.activations ≡ newer ++ (x ∷ older) → (q == x.callee) ≡ false
    not_hit newer older x split = by (q == x.callee) refl
      where
        by : (b : Bool) → (q == x.callee) ≡ b → b ≡ false
        by true e =
            let has = stands.older (ending ∷ newer) older x (split_up (newer ++ (x ∷ older)) split) (or_left (q == x.callee) (is_called x.callee newer) e) in
            absurd (true≢false (sym (subst (λ c. has_procedure c a.older ≡ true) (sym (eqb-true q x.callee e)) has) ∙ alone))
        by false e = refl

    dropped_value : (n : ℕ) (v : Values) → HasValue lane (world_of s) n v → HasValue lane (world_of t) n (drop_region (Frame q) v)
    unfolding drop_region
    dropped_value =
        left_value (drop_region (Frame q)) refl (drop_loses (Frame q))
        (λ u h o v has. drop_keeps (Frame q) (region_of lane u) o v (subst (λ r. HasOffset r o v) (same_here u h) has))

    ended_left : IsLeft (ended q dropped)
    ended_left =
        record {
          registers = λ n lt. dropped_value (s.registers n) (a.registers n) (stands.registers n lt);
          cells = λ u h x n here value.
              rebuilt_value (HasValue lane (world_of t) n) x (λ y. cond (is_in (Frame q) y) Top (value_at dropped y)) dropped.cells tt
              (cond_both (is_in (Frame q) x) Top (value_at dropped x) (HasValue lane (world_of t) n) (λ _. tt)
              (λ _. rebuilt_value (HasValue lane (world_of t) n) x (λ y. drop_region (Frame q) (value_at a y)) a.cells tt
              (dropped_value n (value_at a x) (subst (λ y. HasValue lane (world_of s) n (value_at a y)) (as_itself (region_of lane (lift ending u)) x (same_here u h ∙ here)) value))));
          flags = refl;
          root = refl;
          blocks = refl;
          older = refl;
          live = λ newer older x split. kept_procedure x.callee q a.live (not_hit newer older x split) (stands.live (ending ∷ newer) older x (split_up (newer ++ (x ∷ older)) split));
          links = λ newer older child parent split.
              other_links child.callee (is_called child.callee newer) parent.callee (pos child.base -ℤ pos parent.base) q (not_hit newer (parent ∷ older) child split) a.links
              (subst (λ b. IsLinked a.links child.callee (b || is_called child.callee newer) parent.callee (pos child.base -ℤ pos parent.base)) (not_hit newer (parent ∷ older) child split)
              (stands.links (ending ∷ newer) older child parent (split_up (newer ++ (child ∷ parent ∷ older)) split)));
          aligns = λ u n h e. align_back u n h (ap (λ r. known_of r a.aligns) (same_here u h) ∙ only_other (region_of lane u) (Frame q) None a.aligns n (apart u h) e);
        }
      where
        apart : (u : Thing) → IsIn (world_of t) u → same_region (Frame q) (region_of lane u) ≡ false
        apart u h = by (same_region (Frame q) (region_of lane u)) refl
          where
            by : (b : Bool) → same_region (Frame q) (region_of lane u) ≡ b → b ≡ false
            by true e = absurd (not_newest ending lane u (same_here u h ∙ sym (same_region-equal (Frame q) (region_of lane u) e)))
            by false e = refl

  -- -- One of the older activations becomes the newest

  abbrev renewed : AbsState
  renewed = with_values (also (OldFrame q) (Frame q)) dropped

  renewed_value : (n : ℕ) (v : Values) → HasValue lane (world_of s) n v → HasValue lane (world_of t) n (also (OldFrame q) (Frame q) (drop_region (Frame q) v))
  unfolding drop_region also
  renewed_value =
      left_value (λ v. also (OldFrame q) (Frame q) (drop_region (Frame q) v)) refl (λ o v h. ap (also (OldFrame q) (Frame q)) (drop_loses (Frame q) o v h)) (λ u h o v has. by u o v (region_cases ending lane u) has)
    where
      by : (u : Thing) (o : ℤ) (v : Values) → (region_of lane (lift ending u) ≡ region_of lane u) ⊎ ((region_of lane u ≡ Frame q) × (region_of lane (lift ending u) ≡ OldFrame q))
          → HasOffset (region_of lane (lift ending u)) o v → HasOffset (region_of lane u) o (also (OldFrame q) (Frame q) (drop_region (Frame q) v))
      by u o v (inl same) has =
          also_keeps (OldFrame q) (Frame q) (region_of lane u) o (drop_region (Frame q) v) (drop_keeps (Frame q) (region_of lane u) o v (subst (λ r. HasOffset r o v) same has))
      by u o v (inr young) has =
          subst (λ r. HasOffset r o (also (OldFrame q) (Frame q) (drop_region (Frame q) v))) (sym young.0)
          (also_young (OldFrame q) (Frame q) o (drop_region (Frame q) v) (drop_keeps (Frame q) (OldFrame q) o v (subst (λ r. HasOffset r o v) young.1 has)))

  renewed_cell : (n : ℕ) (y : Cell) → HasValue lane (world_of s) n (value_at a y) → HasValue lane (world_of t) n (value_at renewed y)
  unfolding also
  renewed_cell n y h =
      rebuilt_value (HasValue lane (world_of t) n) y (λ z. also (OldFrame q) (Frame q) (value_at dropped z)) dropped.cells tt
      (rebuilt_value (λ v. HasValue lane (world_of t) n (also (OldFrame q) (Frame q) v)) y (λ z. drop_region (Frame q) (value_at a z)) a.cells tt (renewed_value n (value_at a y) h))

  revived_left : IsLeft (revived q dropped)
  revived_left =
      record {
        registers = λ n lt. renewed_value (s.registers n) (a.registers n) (stands.registers n lt);
        cells = λ u h x n here value.
            rebuilt_value (HasValue lane (world_of t) n) x (λ y. cond (is_in (Frame q) y) (value_at renewed (as_of (OldFrame q) y)) (value_at renewed y)) (renewed.cells ++ moved (OldFrame q) (Frame q) renewed.cells) tt
            (cond_both (is_in (Frame q) x) (value_at renewed (as_of (OldFrame q) x)) (value_at renewed x) (HasValue lane (world_of t) n)
            (λ yes. young_cell u (region_cases ending lane u) x n (here ∙ same_region-equal x.region (Frame q) yes) value)
            (λ other. other_cell u (region_cases ending lane u) x n here other value));
        flags = refl;
        root = refl;
        blocks = refl;
        older = refl;
        live = λ newer older x split. stands.live (ending ∷ newer) older x (split_up (newer ++ (x ∷ older)) split);
        links = λ newer older child parent split.
            revived_link child (q == child.callee) refl (is_called child.callee newer) parent.callee (pos child.base -ℤ pos parent.base)
            (stands.links (ending ∷ newer) older child parent (split_up (newer ++ (child ∷ parent ∷ older)) split));
        aligns = λ u n h e. revived_align u (region_cases ending lane u) n h (same_region (Frame q) (region_of lane u)) refl e;
      }
    where
      young_cell : (u : Thing) → (region_of lane (lift ending u) ≡ region_of lane u) ⊎ ((region_of lane u ≡ Frame q) × (region_of lane (lift ending u) ≡ OldFrame q)) → (x : Cell) (n : ℕ) → region_of lane u ≡ Frame q
          → HasValue lane (world_of s) n (value_at a (as_of (region_of lane (lift ending u)) x)) → HasValue lane (world_of t) n (value_at renewed (as_of (OldFrame q) x))
      young_cell u (inl same) x n own value = absurd (not_newest ending lane u (same ∙ own))
      young_cell u (inr young) x n own value = renewed_cell n (as_of (OldFrame q) x) (subst (λ r. HasValue lane (world_of s) n (value_at a (as_of r x))) young.1 value)

      other_cell : (u : Thing) → (region_of lane (lift ending u) ≡ region_of lane u) ⊎ ((region_of lane u ≡ Frame q) × (region_of lane (lift ending u) ≡ OldFrame q)) → (x : Cell) (n : ℕ) → region_of lane u ≡ x.region
          → is_in (Frame q) x ≡ false → HasValue lane (world_of s) n (value_at a (as_of (region_of lane (lift ending u)) x)) → HasValue lane (world_of t) n (value_at renewed x)
      other_cell u (inl same) x n here other value =
          renewed_cell n x (subst (λ y. HasValue lane (world_of s) n (value_at a y)) (as_itself (region_of lane (lift ending u)) x (same ∙ here)) value)
      other_cell u (inr young) x n here other value =
          absurd (true≢false (sym (same_region-itself (Frame q)) ∙ ap (λ r. same_region r (Frame q)) (sym young.0 ∙ here) ∙ other))

      revived_link : (child : Activation) (hit : Bool) → (q == child.callee) ≡ hit → (called : Bool) (parent : ℕ) (distance : ℤ) → IsLinked a.links child.callee (hit || called) parent distance
          → IsLinked (links_of (links_as q true false a.links) (without_young q a.links)) child.callee called parent distance
      revived_link child true e true parent distance is =
          links_keep child.callee true parent distance (links_as q true false a.links) (without_young q a.links) (without_keeps child.callee true parent distance q (λ _. refl) a.links is)
      revived_link child true e false parent distance is =
          links_have child.callee false parent distance (links_as q true false a.links) (without_young q a.links)
          (subst (λ c. IsLinked (links_as c true false a.links) child.callee false parent distance) (sym (eqb-true q child.callee e)) (links_young child.callee parent distance a.links is))
      revived_link child false e called parent distance is =
          links_keep child.callee called parent distance (links_as q true false a.links) (without_young q a.links)
          (without_keeps child.callee called parent distance q (λ same. absurd (true≢false (sym same ∙ e))) a.links is)

      revived_align : (u : Thing) → (region_of lane (lift ending u) ≡ region_of lane u) ⊎ ((region_of lane u ≡ Frame q) × (region_of lane (lift ending u) ≡ OldFrame q)) → (n : ℕ) → IsIn (world_of t) u
          → (b : Bool) → same_region (Frame q) (region_of lane u) ≡ b → known_of (region_of lane u) (with_only (Frame q) (known_of (OldFrame q) a.aligns) a.aligns) ≡ Some n → base_of u % 16 ≡ n
      revived_align u (inl same) n h true f e = absurd (not_newest ending lane u (same ∙ sym (same_region-equal (Frame q) (region_of lane u) f)))
      revived_align u (inl same) n h false f e =
          align_back u n h (ap (λ r. known_of r a.aligns) same ∙ only_other (region_of lane u) (Frame q) (known_of (OldFrame q) a.aligns) a.aligns n f e)
      revived_align u (inr young) n h true f e =
          align_back u n h (ap (λ r. known_of r a.aligns) young.1
          ∙ only_same (Frame q) (known_of (OldFrame q) a.aligns) a.aligns n (subst (λ r. known_of r (with_only (Frame q) (known_of (OldFrame q) a.aligns) a.aligns) ≡ Some n) young.0 e))
      revived_align u (inr young) n h false f e = absurd (true≢false (sym (same_region-itself (Frame q)) ∙ ap (same_region (Frame q)) (sym young.0) ∙ f))

  left_of : IsLeft (ended_or_revived q dropped)
  left_of = by (has_procedure q a.older) refl
    where
      by : (k : Bool) → has_procedure q a.older ≡ k → IsLeft (cond k (revived q dropped) (ended q dropped))
      by true e = revived_left
      by false e = ended_left e

  -- -- The caller goes on

  module _ (apart : (u : Thing) → IsIn (world_of s) u → (y : ℕ) → Owns s u y → is_in_stack s.slot y ≡ true → (newer older : List Activation) × (x : Activation) × (u ≡ ActivationAt newer x older))
      (off : Interval) (distance : IsMember (pos ending.base -ℤ pos parent.base) off) (below : ending.base + 4 + extra ≤ parent.base) (near : parent.base ≤ ending.base + 2 ^ 20) (b : AbsState) (g : IsLeft b) where
    abbrev p : ℕ
    p = parent.callee

    abbrev end : ℤ
    end = off.hi +ℤ pos 4 +ℤ pos extra

    head_base : (z x : Activation) (zs older : List Activation) → t.activations ≡ z ∷ (zs ++ (x ∷ older)) → z.base ≡ parent.base
    head_base z x zs older e = let both : parent ∷ others ≡ z ∷ (zs ++ (x ∷ older)) = sym gone.activations ∙ e in cc

    own_base : (x : Activation) (older : List Activation) → t.activations ≡ x ∷ older → x ≡ parent
    own_base x older e = let both : parent ∷ others ≡ x ∷ older = sym gone.activations ∙ e in cc

    -- the caller's bytes that are kept lie above
    above : (u : Thing) → IsIn (world_of t) u → (x : Cell) → region_of lane u ≡ x.region → lies_below (Frame p) end x ≡ false → (at k : ℕ) → pos at ≡ pos (base_of u) +ℤ x.start → Owns t u (at + k) → is_in_stack s.slot (at + k) ≡ true
        → ending.base + 4 + extra ≤ at + k
    above TheImage h x here kept at k start own stack =
        let is = apart TheImage tt (at + k) own stack in
        let e : TheImage ≡ ActivationAt is.0 is.2 is.1 = is.3 in
        absurd (cc)
    above (BlockAt before y later) h x here kept at k start own stack =
        let is = apart (BlockAt before y later) (in_s (BlockAt before y later) h) (at + k) own stack in
        let e : BlockAt before y later ≡ ActivationAt is.0 is.2 is.1 = is.3 in
        absurd (cc)
    above (ActivationAt (z ∷ zs) y older) h x here kept at k start own stack =
        let base : z.base ≡ parent.base = head_base z y zs older h in
        let over : z.base + 4 ≤ at + k = own.1.0 in
        let limit = below in
        omega (arith, base, over, limit)
    above (ActivationAt [] y older) h x here kept at k start own stack =
        let same : y ≡ parent = own_base y older h in
        let base : y.base ≡ parent.base = ap (λ (z : Activation). z.base) same in
        let region : x.region ≡ Frame p = sym here ∙ ap (λ (z : Activation). Frame z.callee) same in
        let inside : is_in (Frame p) x ≡ true = ap (λ r. same_region r (Frame p)) region ∙ same_region-itself (Frame p) in
        let high : end ≤ℤ x.start = int_lt_false x.start end (sym (ap (λ b. b && int_lt x.start end) inside) ∙ kept) in
        let far : (pos ending.base -ℤ pos parent.base) ≤ℤ off.hi = distance.in_range in
        let from : pos at ≡ pos y.base +ℤ x.start = start in
        omega (arith, ints)

    owns_up : (u : Thing) (y : ℕ) → (is_in_stack s.slot y ≡ true → ending.base + 4 ≤ y) → Owns t u y → Owns s (lift ending u) y
    owns_up TheImage y over own = own
    owns_up (BlockAt before x later) y over own = own
    owns_up (ActivationAt newer x older) y over own = let stack = subst (λ n. is_in_stack n y ≡ true) gone.slot own.0 in (stack, (over stack, own.1), own.2)

    old_value : (u : Thing) (x : Cell) (at len : ℕ) (bytes : List ℕ) → IsCellOf lane t u x at len → lies_below (Frame p) end x ≡ false → bytes_at t.memory at len ≡ Some bytes
        → HasValue lane (world_of s) (little_endian bytes) (value_at a (as_of (region_of lane (lift ending u)) x))
    old_value u x at len bytes of kept is =
        stands.cells (lift ending u) (as_of (region_of lane (lift ending u)) x) at len bytes
        (record {
          is_in = in_s u of.is_in;
          region = refl;
          lies = record {
            start = of.lies.start ∙ ap (λ b. pos b +ℤ x.start) (sym (lift_base ending u));
            end = of.lies.end;
            owned = λ k lt. owns_up u (at + k) (λ stack. let over = above u of.is_in x of.region kept at k of.lies.start (of.lies.owned k lt) stack in omega (arith, over)) (of.lies.owned k lt);
          };
        })
        (same_bytes s.memory t.memory at at len (λ k lt. sym (gone.bytes (at + k) (λ stack. above u of.is_in x of.region kept at k of.lies.start (of.lies.owned k lt) stack))) ∙ is)

    esp_has : HasValue lane (world_of t) (ending.base + 4 + extra) (esp_after p off extra)
    esp_has =
        let d : ℤ = pos ending.base -ℤ pos parent.base in
        let limit = below in
        let once : FitsSigned w32 ((pos ending.base -ℤ pos parent.base) +ℤ pos 4) = omega (arith, ints) in
        let twice : FitsSigned w32 (((pos ending.base -ℤ pos parent.base) +ℤ pos 4) +ℤ pos extra) = omega (arith, ints) in
        let first : signed (d +ℤ pos 4) ≡ d +ℤ pos 4 = int_wrap_fits w32 (d +ℤ pos 4) once in
        let second : signed ((d +ℤ pos 4) +ℤ pos extra) ≡ (d +ℤ pos 4) +ℤ pos extra = int_wrap_fits w32 ((d +ℤ pos 4) +ℤ pos extra) twice in
        let one_step : IsMember (d +ℤ pos 4) (interval.add off (one (pos 4))) = subst (λ z. IsMember z (interval.add off (one (pos 4)))) first (member_add d (pos 4) off (one (pos 4)) distance (member_one (pos 4))) in
        let both_steps : IsMember ((d +ℤ pos 4) +ℤ pos extra) (interval.add (interval.add off (one (pos 4))) (one (pos extra))) =
        subst (λ z. IsMember z (interval.add (interval.add off (one (pos 4))) (one (pos extra)))) second
        (member_add (d +ℤ pos 4) (pos extra) (interval.add off (one (pos 4))) (one (pos extra)) one_step (member_one (pos extra))) in
        settled_has lane (world_of t) (ending.base + 4 + extra) (part (Frame p) (interval.add (interval.add off (one (pos 4))) (one (pos extra))) ∷ [])
        (inl (record {
          thing = ActivationAt [] parent others;
          is_in = gone.activations;
          region = refl;
          offset = (d +ℤ pos 4) +ℤ pos extra;
          within = both_steps;
          low = omega (arith, ints);
          high = omega (arith, ints);
          reached = ap signed (let e : pos (ending.base + 4 + extra) ≡ pos parent.base +ℤ (((pos ending.base -ℤ pos parent.base) +ℤ pos 4) +ℤ pos extra) = omega (arith, ints) in e);
        }))

    all_registers : (n : ℕ) → n < 8 → HasValue lane (world_of t) (t.registers n) (put b.registers 4 (esp_after p off extra) n)
    all_registers n lt = by (4 == n) refl
      where
        by : (k : Bool) → (4 == n) ≡ k → HasValue lane (world_of t) (t.registers n) (cond k (esp_after p off extra) (b.registers n))
        by true e = subst (λ k. HasValue lane (world_of t) (t.registers k) (esp_after p off extra)) (eqb-true 4 n e) (subst (λ k. HasValue lane (world_of t) k (esp_after p off extra)) (sym gone.esp) esp_has)
        by false e = subst (λ k. HasValue lane (world_of t) k (b.registers n)) (sym (gone.registers n e)) (g.registers n lt)

    gone_stands : StandsFor lane (gone_back p off extra b) t
    gone_stands =
        record {
          registers = all_registers;
          flags = λ n lt. subst (λ f. f n (t.flags n) ≡ true) (sym g.flags) (subst (λ f. a.flags n (f n) ≡ true) (sym gone.flags) (stands.flags n lt));
          cells = λ u x at len bytes of is.
              rebuilt_value (HasValue lane (world_of t) (little_endian bytes)) x (λ y. cond (lies_below (Frame p) end y) Top (value_at b y)) b.cells tt
              (cond_both (lies_below (Frame p) end x) Top (value_at b x) (HasValue lane (world_of t) (little_endian bytes)) (λ _. tt)
              (λ kept. g.cells u of.is_in x (little_endian bytes) of.region (old_value u x at len bytes of kept is)));
          root = λ newer oldest split. stands.root (ending ∷ newer) oldest (split_up (newer ++ (oldest ∷ [])) split) ∙ sym g.root;
          live = g.live;
          older = λ newer older x split h.
              subst (λ xs. has_procedure x.callee xs ≡ true) (sym g.older) (stands.older (ending ∷ newer) older x (split_up (newer ++ (x ∷ older)) split) (or_right (q == x.callee) (is_called x.callee newer) h));
          links = g.links;
          aligns = g.aligns;
          blocks = λ before later x within.
              subst (λ ks. IsSized (known_of (region_of lane (BlockAt before x later)) ks) x.size) (sym g.blocks) (stands.blocks before later x (sym gone.allocs ∙ within.0, within.1));
          fact = tt;
        }

pub returned_states_stand : ReturnedStatesStand
unfolding returned
returned_states_stand image lane a s t ending parent others off extra good whole stands gone distance below =
    gone_stands lane a s t ending parent others extra gone stands (stack_owner image s good whole.laid_out) off distance below near (ended_or_revived ending.callee (with_values (drop_region (Frame ending.callee)) a))
    (left_of lane a s t ending parent others extra gone stands)
  where
    chain : AreActivations image s.memory s.slot (ending ∷ parent ∷ others)
    chain = subst (AreActivations image s.memory s.slot) gone.before whole.activations

    near : parent.base ≤ ending.base + 2 ^ 20
    near =
        let first : (ending.base ≤ s.slot) × (s.slot ≤ ending.base + 2 ^ 20) = base_bounds image s.memory s.slot ending (parent ∷ others) chain in
        let low : s.slot ≤ ending.base + 2 ^ 20 = first.1 in
        let second : (parent.base ≤ s.slot) × (s.slot ≤ parent.base + 2 ^ 20) = base_bounds image s.memory s.slot parent others chain.3 in
        let high : parent.base ≤ s.slot = second.0 in
        (omega arith)
