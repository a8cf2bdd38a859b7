-- An address that is resolved without a reason lies where it is told.
use Rattle.std.proofs.Common.{◌≡◌, ℕ, ◌+◌, ◌^◌, ◌<◌, ◌≤◌, ◌⊎◌, inl, inr, ⊎_elim, Bool, true, false, cond, List, [], ◌∷◌, ◌++◌, map, refl, sym, ◌∙◌, ap, subst, arith, pos, negsuc, ◌+ℤ◌}
use Rattle.std.specs.Prelude.{◌≤ℤ◌, ◌<ℤ◌, filter, if◌then◌else◌}
use Rattle.std.proofs.lemmas.Int.{ints}
use Rattle.std.proofs.lemmas.Bool.{true≢false}
use Rattle.image_map.specs.declared.image.Image.{Image}
use Rattle.image_map.specs.declared.region.Activation.{Activation}
use Rattle.image_map.specs.declared.region.RegionId.{RegionId}
use Rattle.image_map.specs.declared.region.RegionId.TheVariants.{Global, Heap, OldHeap}
use Rattle.ia32_semantics.specs.declared.state.Allocation.{Allocation}
use Rattle.ia32_semantics.specs.CallModel.{AreBlocks, gives_block, block_of, blocks_given}
use Rattle.ia32_semantics.specs.State.{State}
use Rattle.strided.specs.Concrete.{signed}
use Rattle.strided.specs.Rows.{turned}
use Rattle.strided.specs.Interval.{Interval}
use Rattle.strided.proofs.MemberLemmas.{member_above, int_either}
use Rattle.strided.proofs.SumLemmas.{signed_turned}
use Rattle.vset.specs.declared.part.Part.{Part}
use Rattle.vset.specs.Members.{HasValue, IsInParts, IsPartMember}
use Rattle.vset.specs.Values.{Values, Top, Parts}
use Rattle.vset.specs.World.{Thing, TheImage, ActivationAt, BlockAt, IsIn, base_of, region_of, is_called, has_key, key_of, is_given}
use Rattle.abs_semantics.specs.declared.parts.Reason.TheVariants.{UnknownWrite}
use Rattle.abs_semantics.specs.States.{AbsState, known_of}
use Rattle.abs_semantics.specs.StandsFor.{world_of}
use Rattle.abs_semantics.specs.Resolve.{Stays, end_of, most_links, block_verdict, size_or_none, verdict_in, verdict, rising_onto, Met, levels, is_listed, verdict_on, places, told, told_of_few, Resolved, resolve}
use Rattle.abs_semantics.specs.Ownership.{IsKnown, IsRange, IsOwnedAt, IsOwnedAmong}
use Rattle.abs_semantics.specs.Laws.{ResolvedBytesAreOwned}
use Rattle.abs_semantics.proofs.StackLemmas.{exact, mapped_high}
use Rattle.abs_semantics.proofs.VerdictLemmas.{Passes, NumberFacts, number_facts, BlockFacts, block_facts, FrameFacts, frame_facts}
use Rattle.abs_semantics.proofs.LevelLemmas.{IsAmong, rising_new, AllPass, listed_entry, few_told}
use Rattle.abs_semantics.proofs.ChainLemmas.{frame_verdict_is, Found, bounds}
use Rattle.abs_semantics.proofs.ClimbLemmas.{met_here, climb}

-- -- Blocks

-- a block that was given lies among the heap's addresses
placed_block : (slot : ℕ) (before : List Allocation) (x : Allocation) (later : List Allocation) → is_given x ≡ true → AreBlocks slot (blocks_given (before ++ (x ∷ later))) → x.base + x.size ≤ 0xB0000000
placed_block slot [] x later given placed = first (gives_block x) given placed
  where
    first : (t : Bool) → t ≡ true → AreBlocks slot (map block_of (cond t (x ∷ filter gives_block later) (filter gives_block later))) → x.base + x.size ≤ 0xB0000000
    first true is placed = placed.0.below
    first false is placed = absurd (true≢false (sym is))
placed_block slot (y ∷ before) x later given placed = passed (placed_block slot before x later given) (gives_block y) placed
  where
    passed : (AreBlocks slot (blocks_given (before ++ (x ∷ later))) → x.base + x.size ≤ 0xB0000000) → (t : Bool) → AreBlocks slot (map block_of (cond t (y ∷ filter gives_block (before ++ (x ∷ later))) (filter gives_block (before ++ (x ∷ later))))) → x.base + x.size ≤ 0xB0000000
    passed rest true placed = rest placed.1
    passed rest false placed = rest placed

block_verdict_is : (a : AbsState) (p len n key : ℕ) (si : Interval) (old : Bool) → verdict_in a p len n si (if old then OldHeap key else Heap key) ≡ block_verdict a len (if old then OldHeap key else Heap key) si
block_verdict_is a p len n key si true = refl
block_verdict_is a p len n key si false = refl

-- -- Entries

owned_among : (lane : ℕ) (s : State) (at count : ℕ) (z : Part) (xs : List Part) → IsAmong z xs → IsOwnedAt lane s at count z → IsOwnedAmong lane s at count xs
owned_among lane s at count z [] h owned = absurd h
owned_among lane s at count z (x ∷ xs) (inl here) owned = inl (subst (IsOwnedAt lane s at count) (sym here) owned)
owned_among lane s at count z (x ∷ xs) (inr later) owned = inr (owned_among lane s at count z xs later owned)

module _ (image : Image) (lane : ℕ) (a : AbsState) (p : ℕ) (s : State) (known : IsKnown image lane a p s) (v : Values) (at count len : ℕ) (range : IsRange lane s v at count len) (xs : List Part) where
  abbrev met : List Met
  met = levels a p len (most_links a + 1) 0 xs

  within : count ≤ len
  within = range.within

  some : 1 ≤ count
  some = range.some

  -- a place that stays
  stays : (z : Part) → IsAmong z xs → verdict a p len 0 z ≡ Stays → IsOwnedAt lane s at count z → Found a p lane s at count len met
  stays z among is owned = record { followed = 0; place = z; met = met_here a p len (most_links a + 1) 0 xs z among; listed = ap is_listed is; owned = owned }

  module _ (z : Part) (among : IsAmong z xs) (m : IsPartMember lane (world_of s) at z) (pass : AllPass a p len met) where
    passes : Passes (verdict a p len 0 z)
    passes = pass 0 z (met_here a p len (most_links a + 1) 0 xs z among)

    in_region : (r : RegionId) → r ≡ z.region → verdict a p len 0 z ≡ verdict_in a p len 0 z.si r
    unfolding verdict
    in_region r is = ap (verdict_in a p len 0 z.si) (sym is)

    -- numbers
    module _ (region : Global ≡ z.region) (reached : signed (pos at) ≡ signed (pos 0 +ℤ m.offset)) where
      number : NumberFacts len z.si
      number = number_facts len z.si (subst Passes (in_region Global region) passes)

      -- a negative number is no address of the image, and nothing else is mapped where it may lie
      not_negative : m.offset <ℤ pos 0 → ⊥
      not_negative negative = by_side number.outside
        where
          is : pos at ≡ turned m.offset (pos 1)
          is =
              let low : negsuc 2147483647 ≤ℤ m.offset = m.low in
              let same : signed (pos at) ≡ signed (turned m.offset (pos 1)) = reached ∙ ap signed (let e : pos 0 +ℤ m.offset ≡ m.offset = omega (arith, ints) in e) ∙ sym (signed_turned m.offset (pos 1)) in
              exact at (turned m.offset (pos 1)) range.word (omega (arith, ints)) (omega (arith, ints)) same

          lies : (0x90000000 ≤ at + 0) × (at + 0 < 0xC0000000)
          lies =
              let low : negsuc 2147483647 ≤ℤ m.offset = m.low in
              let e = is in
              mapped_high image s known.image_is known.whole.laid_out (at + 0) (range.mapped 0 (omega arith)) (omega (arith, ints))

          by_side : (negsuc 1073741823 ≤ℤ z.si.lo) ⊎ (end_of z.si len ≤ℤ negsuc 1879048191) → ⊥
          by_side (inl above) =
              let from : z.si.lo ≤ℤ m.offset = member_above m.offset z.si m.within in
              let e = is in
              let l = lies.1 in
              omega (arith, ints)
          by_side (inr below) =
              let to : m.offset ≤ℤ z.si.hi = m.within.in_range in
              let e = is in
              let l = lies.0 in
              omega (arith, ints)

      at_number : pos at ≡ pos 0 +ℤ m.offset
      at_number =
          let high : m.offset ≤ℤ pos 2147483647 = m.high in
          ⊎_elim
          (λ up. exact at (pos 0 +ℤ m.offset) range.word (omega (arith, ints)) (omega (arith, ints)) reached)
          (λ down. absurd (not_negative down))
          (int_either (pos 0) m.offset)

      of_image : Found a p lane s at count len met
      of_image =
          stays z among (in_region Global region ∙ number.stays)
          (record {
            thing = TheImage;
            is_in = tt;
            region = region;
            offset = m.offset;
            within = m.within;
            reached = at_number;
            owned = λ k lt.
                (let to : m.offset ≤ℤ z.si.hi = m.within.in_range in
                let top : (z.si.hi +ℤ pos len) ≤ℤ pos 2147483647 = number.below in
                let e = at_number in
                let here : at + k < 2 ^ 31 = omega (arith, ints) in
                here);
          })

    -- frames
    module _ (newer : List Activation) (x : Activation) (older : List Activation) (split : s.activations ≡ newer ++ (x ∷ older)) (region : region_of lane (ActivationAt newer x older) ≡ z.region) (reached : signed (pos at) ≡ signed (pos x.base +ℤ m.offset)) where
      frame : FrameFacts a p len 0 x.callee (is_called x.callee newer) z.si
      frame = frame_facts a p len 0 x.callee (is_called x.callee newer) z.si (subst Passes (in_region (region_of lane (ActivationAt newer x older)) region ∙ frame_verdict_is a p len 0 x.callee z.si (is_called x.callee newer)) passes)

      at_frame : pos at ≡ pos x.base +ℤ m.offset
      at_frame =
          let base = bounds image lane a p s known newer x older split in
          let base_low : s.slot ≤ x.base + 2 ^ 20 = base.1 in
          let base_high : x.base ≤ s.slot = base.0 in
          let above : 0xB0000000 + 2 ^ 20 ≤ s.slot = known.whole.laid_out.slot.above in
          let below : s.slot + 2 ^ 16 ≤ 0xC0000000 = known.whole.laid_out.slot.below in
          let from : z.si.lo ≤ℤ m.offset = member_above m.offset z.si m.within in
          let to : m.offset ≤ℤ z.si.hi = m.within.in_range in
          let low : negsuc 1048575 ≤ℤ z.si.lo = frame.low in
          let high : (z.si.hi +ℤ pos len) ≤ℤ pos 65536 = frame.high in
          exact at (pos x.base +ℤ m.offset) range.word (omega (arith, ints)) (omega (arith, ints)) reached

      of_activation : Found a p lane s at count len met
      of_activation =
          climb image lane a p s known at count len range.within range.mapped older newer x split (most_links a + 1) 0 xs (omega arith) z among (sym region) m.offset m.within at_frame pass

    -- blocks
    module _ (before : List Allocation) (x : Allocation) (later : List Allocation) (is_in : IsIn (world_of s) (BlockAt before x later)) (region : region_of lane (BlockAt before x later) ≡ z.region) (reached : signed (pos at) ≡ signed (pos x.base +ℤ m.offset)) where
      v_is : verdict a p len 0 z ≡ block_verdict a len (region_of lane (BlockAt before x later)) z.si
      v_is = in_region (region_of lane (BlockAt before x later)) region ∙ block_verdict_is a p len 0 (key_of lane x) z.si (has_key lane (key_of lane x) later)

      block : BlockFacts a len (region_of lane (BlockAt before x later)) z.si
      block = block_facts a len (region_of lane (BlockAt before x later)) z.si (subst Passes v_is passes)

      ends : end_of z.si len ≤ℤ pos x.size
      ends =
          let sized = known.stands.blocks before later x is_in in
          let least : sized.least ≤ x.size = sized.below in
          let high : end_of z.si len ≤ℤ pos (size_or_none (known_of (region_of lane (BlockAt before x later)) a.blocks)) = block.high in
          let size : size_or_none (known_of (region_of lane (BlockAt before x later)) a.blocks) ≡ sized.least = ap size_or_none sized.known in
          omega (arith, ints)

      placed : x.base + x.size ≤ 0xB0000000
      placed =
          placed_block s.slot before x later is_in.1
          (subst (λ l. AreBlocks s.slot (blocks_given l)) is_in.0 (subst (AreBlocks s.slot) known.whole.laid_out.given known.whole.laid_out.placed))

      at_block : pos at ≡ pos x.base +ℤ m.offset
      at_block =
          let from : z.si.lo ≤ℤ m.offset = member_above m.offset z.si m.within in
          let to : m.offset ≤ℤ z.si.hi = m.within.in_range in
          let low : pos 0 ≤ℤ z.si.lo = block.low in
          let high : (z.si.hi +ℤ pos len) ≤ℤ pos x.size = ends in
          let p = placed in
          exact at (pos x.base +ℤ m.offset) range.word (omega (arith, ints)) (omega (arith, ints)) reached

      of_block : Found a p lane s at count len met
      of_block =
          stays z among (v_is ∙ block.stays)
          (record {
            thing = BlockAt before x later;
            is_in = is_in;
            region = region;
            offset = m.offset;
            within = m.within;
            reached = at_block;
            owned = λ k lt.
                (let from : z.si.lo ≤ℤ m.offset = member_above m.offset z.si m.within in
                let to : m.offset ≤ℤ z.si.hi = m.within.in_range in
                let low : pos 0 ≤ℤ z.si.lo = block.low in
                let high : (z.si.hi +ℤ pos len) ≤ℤ pos x.size = ends in
                let e = at_block in
                let first : x.base ≤ at + k = omega (arith, ints) in
                let last : at + k < x.base + x.size = omega (arith, ints) in
                (first, last));
          })

    found_by : (t : Thing) → IsIn (world_of s) t → region_of lane t ≡ z.region → signed (pos at) ≡ signed (pos (base_of t) +ℤ m.offset) → Found a p lane s at count len met
    found_by TheImage is_in region reached = of_image region reached
    found_by (ActivationAt newer x older) is_in region reached = of_activation newer x older is_in region reached
    found_by (BlockAt before x later) is_in region reached = of_block before x later is_in region reached

-- a member of some parts is one of one of them
one_part : (lane : ℕ) (s : State) (at : ℕ) (ys : List Part) → IsInParts lane (world_of s) at ys → (z : Part) × IsAmong z ys × IsPartMember lane (world_of s) at z
one_part lane s at [] h = absurd h
one_part lane s at (y ∷ ys) (inl here) = (y, inl refl, here)
one_part lane s at (y ∷ ys) (inr later) = let rest = one_part lane s at ys later in (rest.0, inr rest.1, rest.2)

pub resolved_bytes : ResolvedBytesAreOwned
unfolding resolve
resolved_bytes image lane a p s v at count len known range quiet = by_value v refl quiet
  where
    listed : (ms : List Met) → Found a p lane s at count len ms → IsOwnedAmong lane s at count (told a p len ms).entries
    listed ms f =
        owned_among lane s at count f.place (told a p len ms).entries
        (rising_new f.place [] (places (filter (λ (m : Met). is_listed (verdict_on a p len m)) ms)) (listed_entry a p len f.followed f.place ms f.met f.listed)) f.owned

    of_parts : (ys : List Part) → HasValue lane (world_of s) at (Parts ys) → (told_of_few a p len (levels a p len (most_links a + 1) 0 (rising_onto [] ys))).reasons ≡ []
        → IsOwnedAmong lane s at count (told_of_few a p len (levels a p len (most_links a + 1) 0 (rising_onto [] ys))).entries
    of_parts ys member quiet =
        let ms = levels a p len (most_links a + 1) 0 (rising_onto [] ys) in
        let few = few_told a p len (levels a p len (most_links a + 1) 0 (rising_onto [] ys)) quiet in
        let one = one_part lane s at ys member in
        let m = one.2 in
        subst (λ (r : Resolved). IsOwnedAmong lane s at count r.entries) (sym few.0)
        (listed (levels a p len (most_links a + 1) 0 (rising_onto [] ys))
        (found_by image lane a p s known v at count len range (rising_onto [] ys) one.0 (rising_new one.0 [] ys one.1) one.2 few.1 m.thing m.is_in m.region m.reached))

    by_value : (w : Values) → w ≡ v → (resolve a p w len).reasons ≡ [] → IsOwnedAmong lane s at count (resolve a p w len).entries
    by_value Top is quiet = absurd (let e : UnknownWrite ∷ [] ≡ [] = quiet in cc)
    by_value (Parts ys) is quiet = of_parts ys (subst (HasValue lane (world_of s) at) (sym is) range.member) quiet
