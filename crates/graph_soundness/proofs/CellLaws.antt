-- The graph has a cell wherever a byte lies that was written.
use Rattle.std.proofs.Common.{◌≡◌, ◌<◌, ◌≤◌, inl, inr, ⊎_elim, ℕ, zero, suc, ◌+◌, ◌-◌, ◌^◌, Bool, true, false, cond, ◌&&◌, List, [], ◌∷◌, ◌++◌, length, map, Some, ℤ, pos, refl, sym, ap, subst, ◌∙◌, arith, ltb-true, leb-true}
use Rattle.std.specs.Prelude.{◌-ℤ◌, ◌<ℤ◌, ◌≤ℤ◌, nat_le, nat_lt, int_le, int_lt, is_some, find, slice_get, Contains}
use Rattle.std.specs.List.{list_any, flat_map}
use Rattle.std.proofs.lemmas.Bool.{false≢true, and_parts, and_from, or_left, or_right, cond_both, le-leb, lt-ltb}
use Rattle.std.proofs.lemmas.Int.{ints}
use Rattle.std.proofs.lemmas.Option.{none-some, same_Some}
use Rattle.image_map.specs.declared.image.Image.{Image}
use Rattle.image_map.specs.declared.image.Segment.{Segment}
use Rattle.image_map.specs.declared.region.Activation.{Activation}
use Rattle.image_map.specs.declared.region.RegionId.{RegionId}
use Rattle.image_map.specs.declared.region.RegionId.TheVariants.{Global, Frame, Heap, OldHeap}
use Rattle.image_map.specs.declared.region.Settings.{Settings}
use Rattle.image_map.specs.CallModel.{AreSettings}
use Rattle.image_map.specs.Memory.{holds}
use Rattle.image_map.specs.Regions.{same_region, number}
use Rattle.image_map.specs.Whole.{IsImage, end_of}
use Rattle.image_map.proofs.OrderLaws.{same_region-equal}
use Rattle.ia32_semantics.specs.declared.state.Allocation.{Allocation}
use Rattle.ia32_semantics.specs.CallModel.{IsWhole, AreBlocks, AreActivations, blocks_given}
use Rattle.ia32_semantics.specs.Effects.{effects_fit}
use Rattle.ia32_semantics.specs.Ia32.{machine}
use Rattle.ia32_semantics.specs.Machine.{Occurrence}
use Rattle.ia32_semantics.specs.Outcome.{is_in_block, can_move}
use Rattle.ia32_semantics.specs.State.{State, AtByte}
use Rattle.ia32_semantics.specs.Step.{Act, writes as step_writes}
use Rattle.ia32_semantics.proofs.EffectLemmas.{written_is_open}
use Rattle.ia32_semantics.proofs.StepLemmas.{writes_are}
use Rattle.strided.proofs.MemberLemmas.{le_int_le}
use Rattle.alocs.specs.declared.extents.Extent.{Extent}
use Rattle.alocs.specs.Cells.{cells_of, cuts_of}
use Rattle.alocs.specs.Extents.{extents, has_offset, frame_extent, heap_extent, Takes, AreOfImage}
use Rattle.alocs.proofs.CellLemmas.{lt_int_lt}
use Rattle.alocs.proofs.MemberLaws.{contains-cases, contains-head, contains-tail, contains-none}
use Rattle.vset.specs.World.{Thing, TheImage, ActivationAt, BlockAt, IsIn, key_of, region_of, has_key}
use Rattle.call_strings.specs.declared.context.Node.{Node}
use Rattle.abs_semantics.specs.declared.parts.Known.{Known}
use Rattle.abs_semantics.specs.States.{AbsState, known_of}
use Rattle.abs_semantics.specs.StandsFor.{Owns, EndsAbove, world_of}
use Rattle.abs_semantics.proofs.StackLemmas.{base_bounds, chain_of, in_block, mapped_low}
use Rattle.abs_semantics.proofs.ThingLemmas.{given_holds}
use Rattle.abs_steps.specs.Successors.{Placed, States, at_node}
use Rattle.slice_soundness.specs.Located.{Spot}
use Rattle.slice_soundness.specs.Maps.{here}
use Rattle.slice_soundness.specs.Premises.{GoesOn, IsClean, IsReady, Follows}
use Rattle.slice_soundness.proofs.ArchitectureLemmas.{architecture_meets_laws}
use Rattle.slice_soundness.proofs.LocatedLemmas.{live_has_node}
use Rattle.slice_soundness.proofs.StateLemmas.{ready_after}
use Rattle.call_soundness.specs.Maps.{IsListed, state_in}
use Rattle.call_soundness.proofs.RowLaws.{abstract_steps}
use Rattle.call_soundness.proofs.StayLaws.{listed_left, listed_right}
use Rattle.access_facts.specs.Places.{procedures, keys_in, keys, nodes_of, states_of, graph_regions, graph_cells}
use Rattle.graph_soundness.specs.Drawn.{number_in, map_drawn, drawn_of, division_of}
use Rattle.graph_soundness.specs.Forms.{HaveCells}
use Rattle.graph_soundness.proofs.CellPlaces.{listed_map, listed_flat, number_listed, offset_held, cell_among, place_there}
use Rattle.graph_soundness.proofs.SpotLaws.{thing_spot, spot_owner}
use Rattle.graph_soundness.proofs.GraphLaws.{row_there}

-- -- Segments

-- an address that a segment holds has an extent
segment_found : (y : ℕ) (segments : List Segment) → is_some (find (holds y) segments) ≡ true → (s : Segment) × Contains segments s × (holds y s ≡ true)
segment_found y [] e = absurd (false≢true e)
segment_found y (s ∷ ss) e = by (holds y s) refl (segment_found y ss) e
  where
    by : (b : Bool) → holds y s ≡ b → (is_some (find (holds y) ss) ≡ true → (t : Segment) × Contains ss t × (holds y t ≡ true)) → is_some (cond b (Some s) (find (holds y) ss)) ≡ true
        → (t : Segment) × Contains (s ∷ ss) t × (holds y t ≡ true)
    by true is rest e = (s, contains-head s ss, is)
    by false is rest e = let found = rest e in (found.0, contains-tail s ss found.0 found.1, found.2)

extent_has : (offset : ℤ) (x : Extent) (xs : List Extent) → Contains xs x → x.start ≤ℤ offset → offset <ℤ x.end → has_offset xs offset ≡ true
extent_has offset x [] has low high = absurd (contains-none x has)
extent_has offset x (y ∷ ys) has low high =
    ⊎_elim
    (λ (e : y ≡ x).
    or_left (int_le y.start offset && int_lt offset y.end) (has_offset ys offset)
    (subst (λ (z : Extent). (int_le z.start offset && int_lt offset z.end) ≡ true) (sym e) (and_from (int_le x.start offset) (int_lt offset x.end) (le_int_le x.start offset low) (lt_int_lt offset x.end high))))
    (λ later. or_right (int_le y.start offset && int_lt offset y.end) (has_offset ys offset) (extent_has offset x ys later low high))
    (contains-cases y ys x has)

segment_offset : (segments : List Segment) (xs : List Extent) (y : ℕ) → AreOfImage segments xs → is_some (find (holds y) segments) ≡ true → has_offset xs (pos y -ℤ pos 0) ≡ true
segment_offset segments xs y are in_segment =
    let found = segment_found y segments in_segment in
    let s = found.0 in
    let both = and_parts (nat_le s.start y) (nat_lt (y - s.start) (length s.bytes)) found.2 in
    let low : s.start ≤ y = leb-true s.start y both.0 in
    let high : y - s.start < length s.bytes = ltb-true (y - s.start) (length s.bytes) both.1 in
    let x : Extent = record { start = pos s.start; end = pos (end_of s) } in
    let takes : Takes s x = record { bytes = omega (arith, low, high); start = refl; end = refl } in
    extent_has (pos y -ℤ pos 0) x xs ((are.each x).1 (s, found.1, takes)) (omega (arith, ints)) (omega (arith, ints))

-- -- Activations and blocks

module _ (image : Image) (s : State) (whole : IsWhole image s) (byte : ℕ) where
  -- an activation's bytes lie among its region's offsets
  frame_offset : (newer : List Activation) (x : Activation) (older : List Activation) → s.activations ≡ newer ++ (x ∷ older) → Owns s (ActivationAt newer x older) byte → has_offset (frame_extent ∷ []) (pos byte -ℤ pos x.base) ≡ true
  frame_offset newer x older is_in own =
      let chain : AreActivations image s.memory s.slot (x ∷ older) = chain_of image s.memory s.slot newer x older (subst (AreActivations image s.memory s.slot) is_in whole.activations) in
      let bounds = base_bounds image s.memory s.slot x older chain in
      let both = and_parts (nat_le (s.slot - 2 ^ 20) byte) (nat_lt byte (s.slot + 2 ^ 16)) own.0 in
      let low : s.slot - 2 ^ 20 ≤ byte = leb-true (s.slot - 2 ^ 20) byte both.0 in
      let high : byte < s.slot + 2 ^ 16 = ltb-true byte (s.slot + 2 ^ 16) both.1 in
      let base : x.base ≤ s.slot = bounds.0 in
      let ends : byte < x.base + 2 ^ 16 = end_of_all older chain own.2 high in
      extent_has (pos byte -ℤ pos x.base) frame_extent (frame_extent ∷ []) (contains-head frame_extent []) (omega (arith, ints)) (omega (arith, ints))
    where
      end_of_all : (others : List Activation) → AreActivations image s.memory s.slot (x ∷ others) → EndsAbove byte x others → byte < s.slot + 2 ^ 16 → byte < x.base + 2 ^ 16
      end_of_all [] chain ends high = let same : x.base ≡ s.slot = chain.0 in omega (arith, same, high)
      end_of_all (y ∷ others) chain ends high = let less : byte < x.base + 4 = ends in omega (arith, less)

  placed : AreBlocks s.slot (blocks_given s.allocs)
  placed = subst (AreBlocks s.slot) whole.laid_out.given whole.laid_out.placed

  -- and so do a block's
  block_offset : (before : List Allocation) (x : Allocation) (later : List Allocation) → IsIn (world_of s) (BlockAt before x later) → Owns s (BlockAt before x later) byte → has_offset (heap_extent ∷ []) (pos byte -ℤ pos x.base) ≡ true
  block_offset before x later is_in own =
      let from : x.base ≤ byte = own.0 in
      let to : byte < x.base + x.size = own.1 in
      let first = lies x.base (omega arith) (omega (arith, from, to)) in
      let there = lies byte from to in
      let low : 0x90000000 ≤ x.base = first.0 in
      let high : byte < 0xB0000000 = there.1 in
      extent_has (pos byte -ℤ pos x.base) heap_extent (heap_extent ∷ []) (contains-head heap_extent []) (omega (arith, ints)) (omega (arith, ints))
    where
      lies : (y : ℕ) → x.base ≤ y → y < x.base + x.size → (0x90000000 ≤ y) × (y < 0xB0000000)
      lies y low high =
          let found = in_block s.slot y (blocks_given s.allocs) placed
          (subst (λ l. list_any (is_in_block y) (blocks_given l) ≡ true) (sym is_in.0)
          (given_holds y before x later is_in.1 (and_from (nat_le x.base y) (nat_lt y (x.base + x.size)) (le-leb x.base y low) (lt-ltb y (x.base + x.size) high)))) in
          (found.0, found.1)

-- -- What the graph lists

slice_listed : {A : Type 0} (xs : List A) (k : ℕ) (x : A) → slice_get xs k ≡ Some x → IsListed x xs
slice_listed [] k x e = absurd (none-some x e)
slice_listed (y ∷ ys) zero x e = inl (same_Some y x e)
slice_listed (y ∷ ys) (suc k) x e = inr (slice_listed ys k x e)

known_listed : (r : RegionId) (ks : List Known) (n : ℕ) → known_of r ks ≡ Some n → IsListed (number r) (map (λ (k : Known). number k.region) ks)
known_listed r [] n e = absurd (none-some n e)
known_listed r (k ∷ ks) n e = by (same_region k.region r) refl (known_listed r ks n) e
  where
    by : (b : Bool) → same_region k.region r ≡ b → (known_of r ks ≡ Some n → IsListed (number r) (map (λ (j : Known). number j.region) ks)) → cond b (Some k.number) (known_of r ks) ≡ Some n
        → IsListed (number r) (map (λ (j : Known). number j.region) (k ∷ ks))
    by true is rest e = inl (ap number (same_region-equal k.region r is))
    by false is rest e = inr (rest e)

module _ (states : States) where
  row_listed : (n : Node) (a : AbsState) → state_in n states.placed ≡ Some a → IsListed (at_node n a) states.placed
  row_listed n a e = slice_listed states.placed (number_in states.placed n) (at_node n a) (row_there states.placed n a e)

  frame_listed : (n : Node) (a : AbsState) → state_in n states.placed ≡ Some a → IsListed (Frame n.context.proc) (graph_regions states)
  unfolding graph_regions procedures
  frame_listed n a e =
      inr (listed_left (Frame n.context.proc) (map Frame (procedures (nodes_of states))) (map Heap (keys (states_of states)))
      (listed_map Frame n.context.proc (procedures (nodes_of states))
      (number_listed n.context.proc (map (λ (m : Node). m.context.proc) (nodes_of states)) []
      (listed_map (λ (m : Node). m.context.proc) n (nodes_of states) (listed_map (λ (p : Placed). p.node) (at_node n a) states.placed (row_listed n a e))))))

  heap_listed : (n : Node) (a : AbsState) (key : ℕ) → state_in n states.placed ≡ Some a → IsListed key (keys_in a) → IsListed (Heap key) (graph_regions states)
  unfolding graph_regions keys
  heap_listed n a key e has =
      inr (listed_right (Heap key) (map Frame (procedures (nodes_of states))) (map Heap (keys (states_of states)))
      (listed_map Heap key (keys (states_of states))
      (number_listed key (flat_map keys_in (states_of states)) []
      (listed_flat keys_in key a (states_of states) (listed_map (λ (p : Placed). p.state) (at_node n a) states.placed (row_listed n a e)) has))))

  global_listed : IsListed Global (graph_regions states)
  unfolding graph_regions
  global_listed = inl refl

  -- an offset of a region that is listed has a cell
  divided : (region : RegionId) (offset : ℤ) → IsListed region (graph_regions states) → has_offset (extents states.cells.image region) offset ≡ true → (division_of states).IsDivided region offset
  unfolding graph_cells
  divided region offset listed has =
      place_there 14 (graph_cells states) region offset
      (cell_among (cells_of states.cells) region offset (graph_regions states) listed (offset_held region offset (extents states.cells.image region) (cuts_of states.cells.lists region) has))

  -- the key of a block is that of its region
  block_key : (before : List Allocation) (x : Allocation) (later : List Allocation) → number (region_of states.lane (BlockAt before x later)) ≡ key_of states.lane x
  block_key before x later =
      cond_both (has_key states.lane (key_of states.lane x) later) (OldHeap (key_of states.lane x)) (Heap (key_of states.lane x)) (λ r. number r ≡ key_of states.lane x) (λ _. refl) (λ _. refl)

-- -- All

module _ (image : Image) (settings : Settings) (states : States) (is : IsImage image) (are : AreSettings (length image.externs) settings)
    (clean : IsClean (machine image settings) (map_drawn image settings states)) (cells : AreOfImage image.segments states.cells.image) where
  follows : Follows (machine image settings) (map_drawn image settings states)
  follows = record { machine = architecture_meets_laws image settings is; steps = abstract_steps image settings states (drawn_of image settings states) is are; clean = clean }

  module _ (o : Occurrence Act) (goes : GoesOn (machine image settings) (map_drawn image settings states) o) (byte : ℕ) where
    ready : IsReady (machine image settings) (map_drawn image settings states) o.after
    ready = (ready_after (machine image settings) (map_drawn image settings states) follows o goes).ready

    -- what is written is mapped
    mapped : step_writes o (AtByte byte) ≡ true → is_some (o.before.memory byte) ≡ true
    mapped written =
        let st = goes.comes.happens.step in
        (and_parts (is_some (o.before.memory byte)) _
        (written_is_open image o.before.memory st.done.effects byte (and_parts (effects_fit image o.before.memory st.done.effects) (can_move st.done.calls o.before.activations) st.possible).0
        (sym (writes_are image o st (AtByte byte)) ∙ written))).0

    by_thing : step_writes o (AtByte byte) ≡ true → (u : Thing) → IsIn (world_of o.after) u → Owns o.after u byte
        → (division_of states).IsDivided (thing_spot states.lane u).region (pos byte -ℤ pos (thing_spot states.lane u).base)
    by_thing written TheImage is_in own =
        divided states Global (pos byte -ℤ pos 0) (global_listed states)
        (segment_offset image.segments states.cells.image byte cells (mapped_low image o.before is goes.comes.ready.whole.laid_out byte (mapped written) own))
    by_thing written (ActivationAt newer x older) is_in own =
        let found = live_has_node (machine image settings) (map_drawn image settings states) o.after ready newer x older is_in in
        divided states (Frame x.callee) (pos byte -ℤ pos x.base) (subst (λ p. IsListed (Frame p) (graph_regions states)) found.2 (frame_listed states found.0 found.1.0 found.1.1))
        (frame_offset image o.after ready.whole byte newer x older is_in own)
    by_thing written (BlockAt before x later) is_in own =
        let sized = ready.stands.blocks before later x is_in in
        let has : IsListed (key_of states.lane x) (keys_in ready.value) =
        subst (λ k. IsListed k (keys_in ready.value)) (block_key states before x later) (known_listed (region_of states.lane (BlockAt before x later)) ready.value.blocks sized.least sized.known) in
        divided states (Heap (key_of states.lane x)) (pos byte -ℤ pos x.base) (heap_listed states (here (map_drawn image settings states) o.after) ready.value (key_of states.lane x) ready.has_value has)
        (block_offset image o.after ready.whole byte before x later is_in own)

  pub have_cells : HaveCells image settings states
  have_cells o goes byte spot written kept lies =
      let owner = spot_owner states.lane o.after byte spot lies in
      subst (λ (p : Spot). (division_of states).IsDivided p.region (pos byte -ℤ pos p.base)) (sym owner.is) (by_thing o goes byte written owner.thing owner.is_in owner.owns)
