-- Where activations, blocks and mapped bytes lie in a whole state.
use Rattle.std.proofs.Common.{◌≡◌, ℕ, ◌+◌, ◌-◌, ◌^◌, ◌<◌, ◌≤◌, ◌⊎◌, inl, inr, ⊎_elim, Bool, true, false, cond, ◌||◌, List, [], ◌∷◌, ◌++◌, Some, refl, sym, ◌∙◌, arith, ℤ, pos, length}
use Rattle.std.specs.Prelude.{◌≤ℤ◌, ◌<ℤ◌, nat_le, nat_lt, is_some}
use Rattle.std.specs.List.{list_any}
use Rattle.std.proofs.lemmas.Int.{ints}
use Rattle.std.proofs.lemmas.Bool.{and_parts, or_cases, leb-true, ltb-true, false≢true}
use Rattle.image_map.specs.declared.image.Image.{Image}
use Rattle.image_map.specs.declared.image.Segment.{Segment}
use Rattle.image_map.specs.declared.region.Activation.{Activation}
use Rattle.image_map.specs.declared.region.Block.{Block}
use Rattle.image_map.specs.Memory.{holds, segment_at}
use Rattle.image_map.specs.Queries.{is_in_segment}
use Rattle.image_map.specs.Whole.{IsImage, ArePlaced}
use Rattle.ia32_semantics.specs.CallModel.{IsLaidOut, AreBlocks, AreActivations}
use Rattle.ia32_semantics.specs.Outcome.{IsFarFrom, is_in_stack, is_in_block}
use Rattle.ia32_semantics.specs.State.{State, Bytes}
use Rattle.strided.specs.Concrete.{signed}
use Rattle.strided.specs.Rows.{turned}
use Rattle.strided.proofs.SumLemmas.{signed_is_turned}
use Rattle.abs_semantics.specs.StandsFor.{IsAboveAll}

-- -- Addresses

-- a word and an integer among the words that are the same modulo 2^32 are equal
pub exact : (a : ℕ) (z : ℤ) → a < 2 ^ 32 → pos 0 ≤ℤ z → z <ℤ pos 4294967296 → signed (pos a) ≡ signed z → pos a ≡ z
exact a z word low high same =
    let l = signed_is_turned (pos a) in
    let r = signed_is_turned z in
    let e : turned (pos a) l.0 ≡ turned z r.0 = sym l.1 ∙ same ∙ r.1 in
    omega (arith, ints)

-- -- Activations

module _ (image : Image) (memory : Bytes) (slot : ℕ) where
  pub base_bounds : (x : Activation) (older : List Activation) → AreActivations image memory slot (x ∷ older) → (x.base ≤ slot) × (slot ≤ x.base + 2 ^ 20)
  base_bounds x [] chain = (omega arith, omega arith)
  base_bounds x (y ∷ older) chain =
      let parent = base_bounds y older chain.3 in
      let low : slot ≤ x.base + 2 ^ 20 = chain.0 in
      let step : x.base + 4 ≤ y.base = chain.1 in
      (omega arith, low)

  pub chain_of : (newer : List Activation) (x : Activation) (older : List Activation) → AreActivations image memory slot (newer ++ (x ∷ older)) → AreActivations image memory slot (x ∷ older)
  chain_of [] x older chain = chain
  chain_of (n ∷ []) x older chain = chain.3
  chain_of (n ∷ m ∷ newer) x older chain = chain_of (m ∷ newer) x older chain.3

  head_below : (n : Activation) (newer : List Activation) (x : Activation) (older : List Activation) → AreActivations image memory slot (n ∷ (newer ++ (x ∷ older))) → n.base + 4 ≤ x.base
  head_below n [] x older chain = chain.1
  head_below n (m ∷ newer) x older chain =
      let next : n.base + 4 ≤ m.base = chain.1 in
      let rest = head_below m newer x older chain.3 in
      omega arith

  rest_of : (n : Activation) (newer : List Activation) (x : Activation) (older : List Activation) → AreActivations image memory slot (n ∷ (newer ++ (x ∷ older))) → AreActivations image memory slot (newer ++ (x ∷ older))
  rest_of n [] x older chain = chain.3
  rest_of n (m ∷ newer) x older chain = chain.3

  -- the newer return slots end below an activation's own
  pub newer_below : (newer : List Activation) (x : Activation) (older : List Activation) → AreActivations image memory slot (newer ++ (x ∷ older)) → IsAboveAll x.base newer
  newer_below [] x older chain = tt
  newer_below (n ∷ newer) x older chain = (head_below n newer x older chain, newer_below newer x older (rest_of n newer x older chain))

pub raised : (y z : ℕ) (newer : List Activation) → y ≤ z → IsAboveAll y newer → IsAboveAll z newer
raised y z [] le above = tt
raised y z (n ∷ newer) le above = (let here : n.base + 4 ≤ y = above.0 in omega arith, raised y z newer le above.1)

pub above_both : (y : ℕ) (newer more : List Activation) → IsAboveAll y newer → IsAboveAll y more → IsAboveAll y (newer ++ more)
above_both y [] more above others = others
above_both y (n ∷ newer) more above others = (above.0, above_both y newer more above.1 others)

-- -- Segments and blocks

found_holds : (y : ℕ) (segments : List Segment) → ArePlaced segments → is_some (segment_at segments y) ≡ true → y < 2 ^ 31
found_holds y [] placed e = absurd (false≢true e)
found_holds y (s ∷ ss) placed e = by_test (found_holds y ss placed.2) (holds y s) refl e
  where
    by_test : (is_some (segment_at ss y) ≡ true → y < 2 ^ 31) → (t : Bool) → holds y s ≡ t → is_some (cond t (Some s) (segment_at ss y)) ≡ true → y < 2 ^ 31
    by_test rest true is found =
        let both = and_parts (nat_le s.start y) (nat_lt (y - s.start) (length s.bytes)) is in
        let low : s.start ≤ y = leb-true s.start y both.0 in
        let high : y - s.start < length s.bytes = ltb-true (y - s.start) (length s.bytes) both.1 in
        let end : s.start + length s.bytes ≤ 0x7FFFFFFF = placed.0.high in
        omega arith
    by_test rest false other found = rest found

pub in_block : (slot y : ℕ) (blocks : List Block) → AreBlocks slot blocks → list_any (is_in_block y) blocks ≡ true
    → (0x90000000 ≤ y) × (y < 0xB0000000) × IsFarFrom slot y
in_block slot y [] placed e = absurd (false≢true e)
in_block slot y (b ∷ bs) placed e = by_cases (in_block slot y bs placed.1) (or_cases (is_in_block y b) (list_any (is_in_block y) bs) e)
  where
    by_cases : (list_any (is_in_block y) bs ≡ true → (0x90000000 ≤ y) × (y < 0xB0000000) × IsFarFrom slot y) → (is_in_block y b ≡ true) ⊎ (list_any (is_in_block y) bs ≡ true) → (0x90000000 ≤ y) × (y < 0xB0000000) × IsFarFrom slot y
    by_cases rest (inl here) =
        let both = and_parts (nat_le b.base y) (nat_lt y (b.base + b.size)) here in
        let low : b.base ≤ y = leb-true b.base y both.0 in
        let high : y < b.base + b.size = ltb-true y (b.base + b.size) both.1 in
        let above : 0x90000000 ≤ b.base = placed.0.above in
        let below : b.base + b.size ≤ 0xB0000000 = placed.0.below in
        (omega arith, omega arith, placed.0.far y here)
    by_cases rest (inr later) = rest later

module _ (image : Image) (s : State) (good : IsImage image) (laid : IsLaidOut image s) where
  pub segment_low : (y : ℕ) → is_in_segment image y ≡ true → y < 2 ^ 31
  segment_low y e = found_holds y image.segments good.segments e

  pub stack_bounds : (y : ℕ) → is_in_stack s.slot y ≡ true → (0xB0000000 ≤ y) × (y < 0xC0000000)
  stack_bounds y e =
      let both = and_parts (nat_le (s.slot - 2 ^ 20) y) (nat_lt y (s.slot + 2 ^ 16)) e in
      let low : s.slot - 2 ^ 20 ≤ y = leb-true (s.slot - 2 ^ 20) y both.0 in
      let high : y < s.slot + 2 ^ 16 = ltb-true y (s.slot + 2 ^ 16) both.1 in
      let above : 0xB0000000 + 2 ^ 20 ≤ s.slot = laid.slot.above in
      let below : s.slot + 2 ^ 16 ≤ 0xC0000000 = laid.slot.below in
      (omega arith, omega arith)

  -- a mapped byte lies in a segment, in the stack, or in a block
  pub mapped_byte : (y : ℕ) → is_some (s.memory y) ≡ true → (is_in_segment image y ≡ true) ⊎ ((is_in_stack s.slot y ≡ true) ⊎ (list_any (is_in_block y) s.blocks ≡ true))
  mapped_byte y mapped =
      ⊎_elim
      (λ both. ⊎_elim (λ segment. inl segment) (λ stack. inr (inl stack)) (or_cases (is_in_segment image y) (is_in_stack s.slot y) both))
      (λ block. inr (inr block))
      (or_cases (is_in_segment image y || is_in_stack s.slot y) (list_any (is_in_block y) s.blocks) (sym (laid.mapped y) ∙ mapped))

  -- mapped bytes of the upper half are those of the heap and of the stack
  pub mapped_high : (y : ℕ) → is_some (s.memory y) ≡ true → 2 ^ 31 ≤ y → (0x90000000 ≤ y) × (y < 0xC0000000)
  mapped_high y mapped high =
      ⊎_elim
      (λ segment. let low = segment_low y segment in absurd (omega arith))
      (λ other. ⊎_elim (λ stack. let b = stack_bounds y stack in (omega arith, b.1)) (λ block. let b = in_block s.slot y s.blocks laid.placed block in (b.0, omega arith)) other)
      (mapped_byte y mapped)

  -- those of the lower half are the image's
  pub mapped_low : (y : ℕ) → is_some (s.memory y) ≡ true → y < 2 ^ 31 → is_in_segment image y ≡ true
  mapped_low y mapped low =
      ⊎_elim
      (λ segment. segment)
      (λ other. ⊎_elim (λ stack. let b = stack_bounds y stack in absurd (omega arith)) (λ block. let b = in_block s.slot y s.blocks laid.placed block in absurd (omega arith)) other)
      (mapped_byte y mapped)

  -- those near the stack are the stack's
  pub mapped_near : (y : ℕ) → is_some (s.memory y) ≡ true → s.slot ≤ y + 2 ^ 22 → y < s.slot + 2 ^ 20 → is_in_stack s.slot y ≡ true
  mapped_near y mapped low high =
      ⊎_elim
      (λ segment. absurd (near (laid.apart y segment)))
      (λ other. ⊎_elim (λ stack. stack) (λ block. absurd (near (in_block s.slot y s.blocks laid.placed block).2)) other)
      (mapped_byte y mapped)
    where
      near : IsFarFrom s.slot y → ⊥
      near (inl below) = let b : y + 2 ^ 24 + 2 ^ 20 < s.slot = below in omega arith
      near (inr above) = let b : s.slot + 2 ^ 16 + 2 ^ 24 ≤ y = above in omega arith
