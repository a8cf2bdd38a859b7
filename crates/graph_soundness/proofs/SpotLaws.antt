-- Where a byte lies is with the thing that owns it.
use Rattle.std.proofs.Common.{◌≡◌, ◌<◌, ◌≤◌, ℕ, ◌+◌, ◌^◌, Bool, true, false, cond, not, ◌&&◌, List, [], ◌∷◌, ◌++◌, Option, Some, None, refl, sym, ap, subst, ◌∙◌, ltb-true, leb-true}
use Rattle.std.specs.Prelude.{find, nat_lt, nat_le, ◌==◌}
use Rattle.std.specs.Option.{option_map}
use Rattle.std.proofs.lemmas.Bool.{true≢false, and_parts, and_from, lt-ltb, le-leb, ltb-false, cond_both}
use Rattle.std.proofs.lemmas.Option.{none-some, same_Some}
use Rattle.image_map.specs.declared.image.Image.{Image}
use Rattle.image_map.specs.declared.region.Activation.{Activation}
use Rattle.image_map.specs.declared.region.RegionId.TheVariants.{Frame, OldFrame, Heap, OldHeap}
use Rattle.image_map.specs.Whole.{IsImage}
use Rattle.ia32_semantics.specs.declared.state.Allocation.{Allocation}
use Rattle.ia32_semantics.specs.CallModel.{IsWhole, AreActivations}
use Rattle.ia32_semantics.specs.Outcome.{is_in_stack}
use Rattle.ia32_semantics.specs.State.{State}
use Rattle.alocs.specs.Extents.{home}
use Rattle.vset.specs.World.{Thing, TheImage, ActivationAt, BlockAt, IsIn, base_of, region_of, key_of, is_called, has_key}
use Rattle.abs_semantics.specs.StandsFor.{Owns, IsAboveAll, EndsAbove, world_of}
use Rattle.abs_semantics.proofs.ThingLemmas.{one_owner}
use Rattle.slice_soundness.specs.Located.{Spot, owner_of, is_in_allocation, frame_spot, block_spot, global_spot, spot_by, spot_of}

-- the spot of a thing's bytes
abbrev pub thing_spot : ℕ → Thing → Spot
thing_spot lane TheImage = global_spot
thing_spot lane (ActivationAt newer x older) = frame_spot x
thing_spot lane (BlockAt before x later) = block_spot (key_of lane) x

pub spot_region : (lane : ℕ) (u : Thing) → (thing_spot lane u).region ≡ home (region_of lane u)
spot_region lane TheImage = refl
spot_region lane (ActivationAt newer x older) = cond_both (is_called x.callee newer) (OldFrame x.callee) (Frame x.callee) (λ r. Frame x.callee ≡ home r) (λ _. refl) (λ _. refl)
spot_region lane (BlockAt before x later) = cond_both (has_key lane (key_of lane x) later) (OldHeap (key_of lane x)) (Heap (key_of lane x)) (λ r. Heap (key_of lane x) ≡ home r) (λ _. refl) (λ _. refl)

pub spot_base : (lane : ℕ) (u : Thing) → (thing_spot lane u).base ≡ base_of u
spot_base lane TheImage = refl
spot_base lane (ActivationAt newer x older) = refl
spot_base lane (BlockAt before x later) = refl

-- -- Lists

-- the activation that owns a byte, among all
record IsOwner (a : ℕ) (xs : List Activation) (x : Activation) : Type 0 where
  pub newer : List Activation
  pub older : List Activation
  pub is : xs ≡ newer ++ (x ∷ older)
  pub above : IsAboveAll a newer
  pub ends : EndsAbove a x older

owner_split : (a : ℕ) (xs : List Activation) (x : Activation) → owner_of xs a ≡ Some x → IsOwner a xs x
unfolding owner_of
owner_split a [] x e = absurd (none-some x e)
owner_split a (oldest ∷ []) x e = let same = same_Some oldest x e in record { newer = []; older = []; is = ap (λ (y : Activation). y ∷ []) same; above = tt; ends = tt }
owner_split a (newest ∷ before ∷ others) x e = by (nat_lt a (newest.base + 4)) refl (owner_split a (before ∷ others) x) e
  where
    behind : newest.base + 4 ≤ a → IsOwner a (before ∷ others) x → IsOwner a (newest ∷ before ∷ others) x
    behind le h = record { newer = newest ∷ h.newer; older = h.older; is = ap (λ (ys : List Activation). newest ∷ ys) h.is; above = (le, h.above); ends = h.ends }

    by : (b : Bool) → nat_lt a (newest.base + 4) ≡ b → (owner_of (before ∷ others) a ≡ Some x → IsOwner a (before ∷ others) x) → cond b (Some newest) (owner_of (before ∷ others) a) ≡ Some x
        → IsOwner a (newest ∷ before ∷ others) x
    by true low rest e =
        let same = same_Some newest x e in
        record {
          newer = [];
          older = before ∷ others;
          is = ap (λ (y : Activation). y ∷ before ∷ others) same;
          above = tt;
          ends = subst (λ (y : Activation). a < y.base + 4) same (ltb-true a (newest.base + 4) low);
        }
    by false high rest e = behind (ltb-false a (newest.base + 4) high) (rest e)

owner_some : (a : ℕ) (x : Activation) (xs : List Activation) → (y : Activation) × (owner_of (x ∷ xs) a ≡ Some y)
unfolding owner_of
owner_some a x [] = (x, refl)
owner_some a x (z ∷ zs) = by (nat_lt a (x.base + 4)) (owner_some a z zs)
  where
    by : (b : Bool) → (y : Activation) × (owner_of (z ∷ zs) a ≡ Some y) → (y : Activation) × (cond b (Some x) (owner_of (z ∷ zs) a) ≡ Some y)
    by true rest = (x, refl)
    by false rest = rest

record IsSplit {A : Type 0} (test : A → Bool) (xs : List A) (x : A) : Type 0 where
  pub front : List A
  pub back : List A
  pub is : xs ≡ front ++ (x ∷ back)
  pub passes : test x ≡ true

found_split : {A : Type 0} (test : A → Bool) (xs : List A) (x : A) → find test xs ≡ Some x → IsSplit test xs x
found_split test [] x e = absurd (none-some x e)
found_split {A} test (y ∷ ys) x e = by (test y) refl (found_split test ys x) e
  where
    behind : IsSplit test ys x → IsSplit test (y ∷ ys) x
    behind h = record { front = y ∷ h.front; back = h.back; is = ap (λ (zs : List A). y ∷ zs) h.is; passes = h.passes }

    by : (b : Bool) → test y ≡ b → (find test ys ≡ Some x → IsSplit test ys x) → cond b (Some y) (find test ys) ≡ Some x → IsSplit test (y ∷ ys) x
    by true is rest e = let same = same_Some y x e in record { front = []; back = ys; is = ap (λ (z : A). z ∷ ys) same; passes = sym (ap test same) ∙ is }
    by false is rest e = behind (rest e)

found_some : {A : Type 0} (test : A → Bool) (front : List A) (x : A) (back : List A) → test x ≡ true → (y : A) × (find test (front ++ (x ∷ back)) ≡ Some y)
found_some test [] x back is = (x, ap (λ b. cond b (Some x) (find test back)) is)
found_some {A} test (z ∷ front) x back is = by (test z) (found_some test front x back is)
  where
    by : (b : Bool) → (y : A) × (find test (front ++ (x ∷ back)) ≡ Some y) → (y : A) × (cond b (Some z) (find test (front ++ (x ∷ back))) ≡ Some y)
    by true rest = (z, refl)
    by false rest = rest

-- -- Spots

pub record HasOwner (lane : ℕ) (s : State) (a : ℕ) (spot : Spot) : Type 0 where
  pub thing : Thing
  pub is_in : IsIn (world_of s) thing
  pub owns : Owns s thing a
  pub is : spot ≡ thing_spot lane thing

module _ (lane : ℕ) (s : State) (a : ℕ) where
  abbrev frame : Option Spot
  frame = option_map frame_spot (owner_of s.activations a)

  abbrev block : Option Spot
  block = option_map (block_spot (key_of lane)) (find (is_in_allocation a) s.allocs)

  of_frame : (o : Option Activation) → owner_of s.activations a ≡ o → is_in_stack s.slot a ≡ true → (spot : Spot) → option_map frame_spot o ≡ Some spot → HasOwner lane s a spot
  of_frame None is stack spot e = absurd (none-some spot e)
  of_frame (Some x) is stack spot e =
      let h = owner_split a s.activations x is in
      record { thing = ActivationAt h.newer x h.older; is_in = h.is; owns = (stack, h.above, h.ends); is = sym (same_Some (frame_spot x) spot e) }

  of_block : (o : Option Allocation) → find (is_in_allocation a) s.allocs ≡ o → (spot : Spot) → option_map (block_spot (key_of lane)) o ≡ Some spot → HasOwner lane s a spot
  of_block None is spot e = absurd (none-some spot e)
  of_block (Some x) is spot e =
      let h = found_split (is_in_allocation a) s.allocs x is in
      let given = and_parts (not (x.base == 0)) (nat_le x.base a && nat_lt a (x.base + x.size)) h.passes in
      let bounds = and_parts (nat_le x.base a) (nat_lt a (x.base + x.size)) given.1 in
      record {
        thing = BlockAt h.front x h.back;
        is_in = (h.is, given.0);
        owns = (leb-true x.base a bounds.0, ltb-true a (x.base + x.size) bounds.1);
        is = sym (same_Some (block_spot (key_of lane) x) spot e);
      }

  -- a byte that lies somewhere has an owner
  pub spot_owner : (spot : Spot) → spot_of (key_of lane) s a ≡ Some spot → HasOwner lane s a spot
  spot_owner spot e = by (nat_lt a (2 ^ 31)) (is_in_stack s.slot a) refl refl e
    where
      by : (low stack : Bool) → nat_lt a (2 ^ 31) ≡ low → is_in_stack s.slot a ≡ stack → spot_by low stack frame block ≡ Some spot → HasOwner lane s a spot
      by true stack l t e = record { thing = TheImage; is_in = tt; owns = ltb-true a (2 ^ 31) l; is = sym (same_Some global_spot spot e) }
      by false true l t e = of_frame (owner_of s.activations a) refl t spot e
      by false false l t e = of_block (find (is_in_allocation a) s.allocs) refl spot e

  some_frame : (xs : List Activation) → s.activations ≡ xs → (image : Image) → AreActivations image s.memory s.slot xs → (spot : Spot) × (frame ≡ Some spot)
  some_frame [] e image are = absurd are
  some_frame (x ∷ xs) e image are =
      let o = owner_some a x xs in
      (frame_spot o.0, ap (option_map frame_spot) (ap (λ ys. owner_of ys a) e ∙ o.1))

  block_test : (x : Allocation) → not (x.base == 0) ≡ true → x.base ≤ a → a < x.base + x.size → is_in_allocation a x ≡ true
  block_test x given low high =
      and_from (not (x.base == 0)) (nat_le x.base a && nat_lt a (x.base + x.size)) given
      (and_from (nat_le x.base a) (nat_lt a (x.base + x.size)) (le-leb x.base a low) (lt-ltb a (x.base + x.size) high))

  some_block : (u : Thing) → IsIn (world_of s) u → Owns s u a → nat_lt a (2 ^ 31) ≡ false → is_in_stack s.slot a ≡ false → (spot : Spot) × (block ≡ Some spot)
  some_block TheImage is_in own high out = absurd (true≢false (sym (lt-ltb a (2 ^ 31) own) ∙ high))
  some_block (ActivationAt newer x older) is_in own high out = absurd (true≢false (sym own.0 ∙ out))
  some_block (BlockAt before x later) is_in own high out =
      let f = found_some (is_in_allocation a) before x later (block_test x is_in.1 own.0 own.1) in
      (block_spot (key_of lane) f.0, ap (option_map (block_spot (key_of lane))) (ap (find (is_in_allocation a)) is_in.0 ∙ f.1))

  -- a byte that something owns lies with it
  pub owner_spot : (image : Image) → IsImage image → IsWhole image s → (u : Thing) → IsIn (world_of s) u → Owns s u a → spot_of (key_of lane) s a ≡ Some (thing_spot lane u)
  owner_spot image good whole u is_in own = by (nat_lt a (2 ^ 31)) (is_in_stack s.slot a) refl refl
    where
      found : (spot : Spot) → spot_of (key_of lane) s a ≡ Some spot → spot_of (key_of lane) s a ≡ Some (thing_spot lane u)
      found spot e =
          let h = spot_owner spot e in
          e ∙ ap (λ x. Some x) (h.is ∙ ap (thing_spot lane) (one_owner image s good whole.laid_out a h.thing u h.is_in is_in h.owns own))

      by : (low stack : Bool) → nat_lt a (2 ^ 31) ≡ low → is_in_stack s.slot a ≡ stack → spot_of (key_of lane) s a ≡ Some (thing_spot lane u)
      by true stack l t = found global_spot (ap (λ b. spot_by b (is_in_stack s.slot a) frame block) l)
      by false true l t = let f = some_frame s.activations refl image whole.activations in found f.0 ((λ i. spot_by (l i) (t i) frame block) ∙ f.1)
      by false false l t = let f = some_block u is_in own l t in found f.0 ((λ i. spot_by (l i) (t i) frame block) ∙ f.1)
