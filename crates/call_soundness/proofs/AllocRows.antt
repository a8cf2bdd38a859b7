-- An extern that allocates: the state in which it returns, with the new block, and the abstract state that stands for it.
use Rattle.std.proofs.Common.{◌≡◌, ◌⊎◌, inl, inr, ℕ, ◌+◌, ◌-◌, ◌^◌, ◌<◌, ◌≤◌, ◌==◌, ◌&&◌, ◌||◌, Bool, true, false, not, cond, List, [], ◌∷◌, ◌++◌, Some, None, refl, sym, ◌∙◌, ap, subst, arith, lit<, pos}
use Rattle.std.specs.Prelude.{nat_le, nat_lt, is_some, option_map, ◌+ℤ◌}
use Rattle.std.specs.List.{list_any}
use Rattle.std.proofs.lemmas.Int.{ints}
use Rattle.std.proofs.lemmas.Bool.{false≢true, true≢false, and_parts, and_from, le-leb, lt-ltb, leb-true, ltb-true, eqb-true, eq-eqb}
use Rattle.image_map.specs.declared.image.Image.{Image}
use Rattle.image_map.specs.declared.region.Activation.{Activation}
use Rattle.image_map.specs.declared.region.Block.{Block}
use Rattle.image_map.specs.declared.region.RegionId.TheVariants.{Heap, OldHeap}
use Rattle.image_map.specs.Queries.{is_in_segment}
use Rattle.image_map.specs.Whole.{IsImage}
use Rattle.ia32_semantics.specs.declared.state.Allocation.{Allocation}
use Rattle.ia32_semantics.specs.CallModel.{IsWhole, IsLaidOut, IsEntrySlot, AreActivations, AreBlocks}
use Rattle.ia32_semantics.specs.Effects.{Whole}
use Rattle.ia32_semantics.specs.Outcome.{Given, IsFarFrom, IsBlock, is_in_stack, is_in_block, is_given, block_given, allocation_of}
use Rattle.ia32_semantics.specs.State.{State, Bytes, little_endian}
use Rattle.alocs.specs.Cells.{Division}
use Rattle.strided.specs.Concrete.{signed}
use Rattle.strided.proofs.SumLemmas.{member_one}
use Rattle.vset.specs.Values.{Values}
use Rattle.vset.specs.Members.{HasValue}
use Rattle.vset.specs.World.{Thing, TheImage, ActivationAt, BlockAt, IsIn, key_of}
use Rattle.abs_semantics.specs.States.{AbsState, HasCanonical, known_of}
use Rattle.abs_semantics.specs.StandsFor.{StandsFor, world_of, Owns}
use Rattle.abs_semantics.specs.Operands.{with_register}
use Rattle.abs_semantics.proofs.StackLemmas.{base_bounds}
use Rattle.abs_semantics.proofs.StoreLemmas.{same_bytes}
use Rattle.abs_semantics.proofs.ThingLemmas.{one_owner}
use Rattle.abs_steps.specs.Calls.{allocated, block_or_none}
use Rattle.step_soundness.proofs.CoreLaws.{puts_stands}
use Rattle.step_soundness.proofs.StringRows.{set_same}
use Rattle.call_soundness.specs.Calls.{IsAllocated}
use Rattle.call_soundness.proofs.AllocLaws.{append_split, allocated_states_stand}
use Rattle.call_soundness.proofs.CallLaws.{age_form}

-- -- Return slots lie in the stack

word_in_stack : (slot base k : ℕ) → IsEntrySlot slot → base ≤ slot → slot ≤ base + 2 ^ 20 → k < 4 → is_in_stack slot (base + k) ≡ true
word_in_stack slot base k entry high low lt =
    let above : 0xB0000000 + 2 ^ 20 ≤ slot = entry.above in
    and_from (nat_le (slot - 2 ^ 20) (base + k)) (nat_lt (base + k) (slot + 2 ^ 16)) (le-leb (slot - 2 ^ 20) (base + k) (omega (arith, high, low, lt, above))) (lt-ltb (base + k) (slot + 2 ^ 16) (omega (arith, high, low, lt, above)))

-- they hold what they held where no byte of the stack changes
stack_slots : (image : Image) (m n : Bytes) (slot : ℕ) → IsEntrySlot slot → ((y : ℕ) → is_in_stack slot y ≡ true → n y ≡ m y) → (xs : List Activation) → AreActivations image m slot xs → AreActivations image n slot xs
stack_slots image m n slot entry same [] chain = absurd chain
stack_slots image m n slot entry same (x ∷ []) chain =
    (chain.0, ap (option_map little_endian) (same_bytes n m slot slot 4 (λ k lt. same (slot + k) (word_in_stack slot slot k entry (omega arith) (omega arith) lt))) ∙ chain.1)
stack_slots image m n slot entry same (x ∷ y ∷ ys) chain =
    let bounds = base_bounds image m slot x (y ∷ ys) chain in (
      chain.0,
      chain.1,
      (chain.2.0, chain.2.1, ap (option_map little_endian) (same_bytes n m x.base x.base 4 (λ k lt. same (x.base + k) (word_in_stack slot x.base k entry bounds.0 bounds.1 lt))) ∙ chain.2.2),
      stack_slots image m n slot entry same (y ∷ ys) chain.3,
    )

later_of : Thing → List Allocation
later_of TheImage = []
later_of (ActivationAt newer x older) = []
later_of (BlockAt before x later) = later

some_more : (xs : List Allocation) (x : Allocation) → xs ++ (x ∷ []) ≡ [] → ⊥
some_more [] x e = cc
some_more (y ∷ xs) x e = cc

module _ (image : Image) (lane : ℕ) (good : IsImage image) (m end : State) (b : AbsState) (whole : IsWhole image m) (stands : StandsFor lane b m) (form : HasCanonical b) (g : Given) (site : ℕ)
    (others : List Block) (lies : (g.base ≡ 0) ⊎ IsBlock m.slot others (block_given site g)) (laid : IsLaidOut image end) (slot : end.slot ≡ m.slot) (allocs : end.allocs ≡ m.allocs ++ (allocation_of site g ∷ []))
    (agrees : (y : ℕ) → is_given (Some g) y ≡ false → is_some (end.memory y) ≡ is_some (m.memory y)) where
  abbrev pub new : Allocation
  new = allocation_of site g

  -- the state with the block, before control goes back
  abbrev pub with_new : State
  with_new = record m { memory = λ y. cond (is_given (Some g) y) (end.memory y) (m.memory y); blocks = end.blocks; allocs = end.allocs }

  -- -- The block

  block_lies : (g.base == 0) ≡ false → IsBlock m.slot others (block_given site g)
  block_lies other = by lies
    where
      by : (g.base ≡ 0) ⊎ IsBlock m.slot others (block_given site g) → IsBlock m.slot others (block_given site g)
      by (inl none) = absurd (true≢false (sym (eq-eqb g.base 0 none) ∙ other))
      by (inr block) = block

  pub base_word : g.base < 4294967296
  base_word = by lies
    where
      by : (g.base ≡ 0) ⊎ IsBlock m.slot others (block_given site g) → g.base < 4294967296
      by (inl none) = omega (arith, none)
      by (inr block) = let below : g.base + g.size ≤ 0xB0000000 = block.below in omega (arith, below)

  is_other : (t : Bool) → not t ≡ true → t ≡ false
  is_other true e = absurd (false≢true e)
  is_other false e = refl

  -- a byte of it
  record InBlock (y : ℕ) : Type 0 where
    nonzero : (g.base == 0) ≡ false
    is_in : is_in_block y (block_given site g) ≡ true
    low : g.base ≤ y
    high : y < g.base + g.size

  in_block : (y : ℕ) → is_given (Some g) y ≡ true → InBlock y
  in_block y e =
      let both = and_parts (not (g.base == 0)) (nat_le g.base y && nat_lt y (g.base + g.size)) e in
      let ends = and_parts (nat_le g.base y) (nat_lt y (g.base + g.size)) both.1 in
      record { nonzero = is_other (g.base == 0) both.0; is_in = both.1; low = leb-true g.base y ends.0; high = ltb-true y (g.base + g.size) ends.1 }

  stack_apart : (y : ℕ) → is_in_stack m.slot y ≡ true → is_given (Some g) y ≡ false
  stack_apart y stack = by (is_given (Some g) y) refl
    where
      bounds : (m.slot - 2 ^ 20 ≤ y) × (y < m.slot + 2 ^ 16)
      bounds = let both = and_parts (nat_le (m.slot - 2 ^ 20) y) (nat_lt y (m.slot + 2 ^ 16)) stack in (leb-true (m.slot - 2 ^ 20) y both.0, ltb-true y (m.slot + 2 ^ 16) both.1)

      near : IsFarFrom m.slot y → ⊥
      near (inl below) = let far : y + 2 ^ 24 + 2 ^ 20 < m.slot = below in omega (arith, bounds, far)
      near (inr above) = let far : m.slot + 2 ^ 16 + 2 ^ 24 ≤ y = above in omega (arith, bounds, far)

      by : (t : Bool) → is_given (Some g) y ≡ t → t ≡ false
      by true e = let there = in_block y e in absurd (near ((block_lies there.nonzero).far y there.is_in))
      by false e = refl

  -- -- All lies as it should

  same_mapped : (y : ℕ) → is_some (cond (is_given (Some g) y) (end.memory y) (m.memory y)) ≡ is_some (end.memory y)
  same_mapped y = by (is_given (Some g) y) refl
    where
      by : (t : Bool) → is_given (Some g) y ≡ t → is_some (cond t (end.memory y) (m.memory y)) ≡ is_some (end.memory y)
      by true e = refl
      by false e = sym (agrees y e)

  pub new_laid : IsLaidOut image with_new
  new_laid =
      record {
        slot = whole.laid_out.slot;
        sized = record { registers = whole.laid_out.sized.registers; eip = whole.laid_out.sized.eip; memory = λ y byte. small y byte (is_given (Some g) y) };
        mapped = λ y. same_mapped y ∙ laid.mapped y ∙ ap (λ k. is_in_segment image y || is_in_stack k y || list_any (is_in_block y) end.blocks) slot;
        apart = whole.laid_out.apart;
        placed = subst (λ k. AreBlocks k end.blocks) slot laid.placed;
        given = laid.given;
      }
    where
      small : (y byte : ℕ) (t : Bool) → cond t (end.memory y) (m.memory y) ≡ Some byte → byte < 256
      small y byte true e = laid.sized.memory y byte e
      small y byte false e = whole.laid_out.sized.memory y byte e

  pub new_whole : IsWhole image with_new
  new_whole =
      record {
        laid_out = new_laid;
        activations = stack_slots image m.memory with_new.memory m.slot whole.laid_out.slot (λ y stack. ap (λ t. cond t (end.memory y) (m.memory y)) (stack_apart y stack)) m.activations whole.activations;
      }

  -- -- No byte changes that something owned

  is_new : (y : ℕ) → InBlock y → IsIn (world_of with_new) (BlockAt m.allocs (allocation_of site g) [])
  is_new y there = (allocs, ap not there.nonzero)

  old_apart : (u : Thing) → IsIn (world_of m) u → (y : ℕ) → Owns m u y → InBlock y → ⊥
  unfolding later_of
  old_apart TheImage h y owns there =
      let same : TheImage ≡ BlockAt m.allocs (allocation_of site g) [] =
      one_owner image with_new good new_laid y TheImage (BlockAt m.allocs (allocation_of site g) []) tt (is_new y there) owns (there.low, there.high) in
      cc
  old_apart (ActivationAt newer x older) h y owns there =
      let same : ActivationAt newer x older ≡ BlockAt m.allocs (allocation_of site g) [] =
      one_owner image with_new good new_laid y (ActivationAt newer x older) (BlockAt m.allocs (allocation_of site g) []) h (is_new y there) owns (there.low, there.high) in
      cc
  old_apart (BlockAt before x later) h y owns there =
      some_more later (allocation_of site g)
      (ap later_of (one_owner image with_new good new_laid y (BlockAt before x (later ++ (allocation_of site g ∷ []))) (BlockAt m.allocs (allocation_of site g) [])
      (allocs ∙ append_split (allocation_of site g) x m.allocs before later h.0, h.1) (is_new y there) owns (there.low, there.high)))

  is_allocated : IsAllocated m with_new (allocation_of site g)
  is_allocated =
      record { allocs = allocs; activations = refl; slot = refl; flags = refl; registers = refl; bytes = λ u h y owns. by u h y owns (is_given (Some g) y) refl }
    where
      by : (u : Thing) → IsIn (world_of m) u → (y : ℕ) → Owns m u y → (t : Bool) → is_given (Some g) y ≡ t → cond t (end.memory y) (m.memory y) ≡ m.memory y
      by u h y owns true e = absurd (old_apart u h y owns (in_block y e))
      by u h y owns false e = refl

  -- -- What stands for it

  module _ (argument : Values) (size : HasValue lane (world_of m) g.size argument) (small : g.size < 4294967296) (fact : b.fact ≡ None) (key : ℕ) (key_is : key ≡ key_of lane (allocation_of site g))
      (unaligned : (known_of (Heap key) b.aligns ≡ None) × (known_of (OldHeap key) b.aligns ≡ None)) (eax : m.registers 0 ≡ g.base) (d : Division) (p : ℕ) where
    grown_stands : StandsFor lane (allocated key argument b) with_new
    grown_stands =
        subst (λ k. StandsFor lane (allocated k argument b) with_new) (sym key_is)
        (allocated_states_stand lane b m with_new (allocation_of site g) argument form stands is_allocated size small fact
        (subst (λ k. (known_of (Heap k) b.aligns ≡ None) × (known_of (OldHeap k) b.aligns ≡ None)) key_is unaligned))

    -- EAX is 0, or the block's base
    eax_has : HasValue lane (world_of with_new) g.base (block_or_none key)
    eax_has = by (g.base == 0) refl
      where
        by : (t : Bool) → (g.base == 0) ≡ t → HasValue lane (world_of with_new) g.base (block_or_none key)
        by true e =
            inl (record {
              thing = TheImage;
              is_in = tt;
              region = refl;
              offset = pos 0;
              within = member_one (pos 0);
              low = omega (arith, ints);
              high = omega (arith, ints);
              reached = ap (λ n. signed (pos n)) (eqb-true g.base 0 e);
            })
        by false e =
            inr (inl (record {
              thing = BlockAt m.allocs (allocation_of site g) [];
              is_in = (allocs, ap not e);
              region = ap Heap (sym key_is);
              offset = pos 0;
              within = member_one (pos 0);
              low = omega (arith, ints);
              high = omega (arith, ints);
              reached = ap signed (let plain : pos g.base ≡ pos g.base +ℤ pos 0 = omega (arith, ints) in plain);
            }))

    pub new_stands : StandsFor lane (with_register (allocated key argument b) Whole 0 (block_or_none key)) with_new
    unfolding allocated
    new_stands =
        subst (StandsFor lane (with_register (allocated key argument b) Whole 0 (block_or_none key))) (set_same with_new 0 g.base (sym eax) (whole.laid_out.sized.registers 0))
        (puts_stands lane d image p (allocated key argument b) with_new grown_stands Whole 0 g.base (block_or_none key) (age_form (Heap key) (OldHeap key) (b.registers 0) (form.registers 0)) (lit< tt)
        (whole.laid_out.sized.registers 0) base_word base_word eax_has)
