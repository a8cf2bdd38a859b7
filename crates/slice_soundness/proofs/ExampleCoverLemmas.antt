-- The premises on places hold of the example: its bytes lie in frames, its graph's sets are those of its accesses, and calls and
-- returns take and give up the stack.
use Rattle.std.proofs.Common.{◌≡◌, ◌⊎◌, inl, inr, ⊎_elim, ℕ, zero, suc, ◌+◌, ◌-◌, ◌<◌, ◌≤◌, List, [], ◌∷◌, ◌++◌, length, refl, sym, ap, subst, ◌∙◌, arith, eqb-true, eq-eqb, leb-true, le-leb, ltb-true, lt-ltb, ltb-false}
use Rattle.std.specs.Prelude.{◌↔◌, ◌==◌, ◌^◌, nat_le, nat_lt, if◌then◌else◌, ℤ, pos, negsuc, ◌-ℤ◌, Bool, true, false, Option, Some, None, Contains, find}
use Rattle.std.specs.Option.{option_map}
use Rattle.std.proofs.lemmas.Option.{none-some, same_Some}
use Rattle.std.proofs.lemmas.Bool.{false≢true, cases_Bool, or_right, or_left, or_cases, le-ltb, and_parts}
use Rattle.std.proofs.lemmas.Int.{ints}
use Rattle.std.proofs.lemmas.List.{append-nil}
use Rattle.image_map.specs.declared.region.Activation.{Activation}
use Rattle.image_map.specs.declared.region.RegionId.{RegionId}
use Rattle.image_map.specs.declared.region.RegionId.TheVariants.{Global, Frame, OldFrame, Heap, OldHeap}
use Rattle.flow_graph.specs.declared.graph.FlowNode.{FlowNode}
use Rattle.flow_graph.specs.FlowGraph.{Has}
use Rattle.call_strings.specs.declared.context.Node.{Node}
use Rattle.ia32_semantics.specs.declared.state.Allocation.{Allocation}
use Rattle.ia32_semantics.specs.State.{State, Location, InRegister, InFlag, AtByte}
use Rattle.ia32_semantics.specs.Outcome.{is_in_stack}
use Rattle.ia32_semantics.specs.Runs.{OccurrenceOf}
use Rattle.slice_soundness.specs.Maps.{here, number_of}
use Rattle.slice_soundness.specs.Premises.{Comes, Covers, KeepsSlots, SlotsAreKept}
use Rattle.slice_soundness.specs.Tables.{value_in, number_in}
use Rattle.slice_soundness.specs.Located.{Spot, owner_of, is_in_allocation, frame_spot, block_spot, global_spot, spot_by, spot_of, IsDivision, Part, OfCore, OfRegion, IsPartAt, IsThere, HasPlace, HasSets, AccessLaws, Takes, GivesUp, IsLocated}
use Rattle.slice_soundness.specs.Example.{Act, calls, stops, stores, chooses, loads, returns, address_of, entry_base, inner_base, stored_at, entry_activation, inner_activation, all_but_newest, done, is_register, is_flag, is_byte, is_in_word, reads_of, writes_of, forgets_of, machine, Known, outside, inside, activations_of, esp_of, node_in, rows, callee_cell, entry_cell, cell_of, division, IsSlotByte, IsStoredByte, ReadsPart, WritesPart, accesses, uses_at, defines_at, flow, same_known, example}
use Rattle.slice_soundness.proofs.PlaceLemmas.{both_are}
use Rattle.slice_soundness.proofs.RunLemmas.{not_both}
use Rattle.slice_soundness.proofs.TableLemmas.{row_in}
use Rattle.slice_soundness.proofs.LocatedLemmas.{places_are_covered}
use Rattle.slice_soundness.proofs.ExampleLemmas.{act_at, act_is, known_at, Placed, placed, after_is, slot_after}
use Rattle.slice_soundness.proofs.ReturnLemmas.{same_first}

-- -- Tests

-- the ends of a word
word_of : (low a : ℕ) → is_in_word low a ≡ true → (low ≤ a) × (a < low + 4)
word_of low a is = let both = and_parts (nat_le low a) (nat_lt a (low + 4)) is in (leb-true low a both.0, ltb-true a (low + 4) both.1)

-- -- Cells

by_word : {P : Type 0} (low a : ℕ) → (is_in_word low a ≡ true → P) → (is_in_word low a ≡ false → P) → P
by_word low a in_it out = ⊎_elim in_it out (cases_Bool (is_in_word low a))

-- -- What an act leaves

known_after : Act → Known
known_after calls = inside
known_after stops = outside
known_after stores = inside
known_after chooses = inside
known_after loads = inside
known_after returns = outside

activations_done : (act : Act) (s : State) → s.activations ≡ activations_of (known_at act) → (done act s).activations ≡ activations_of (known_after act)
unfolding known_after
activations_done calls s same = ap (λ activations. inner_activation ∷ activations) same
activations_done stops s same = same
activations_done stores s same = same
activations_done chooses s same = same
activations_done loads s same = same
activations_done returns s same = ap all_but_newest same

activations_after : (act : Act) (o : OccurrenceOf machine) → o.act ≡ act → Comes machine example o → o.after.activations ≡ activations_of (known_after act)
activations_after act o is comes = ap (λ s. s.activations) (after_is act o is comes) ∙ activations_done act o.before (placed act o is comes).activations

pub in_one : (x p : ℕ) → Contains (x ∷ []) p → p ≡ x
in_one x p (zero, within, is) = sym is
in_one x p (suc k, within, is) = absurd (omega arith)

pub in_two : (x y p : ℕ) → Contains (x ∷ y ∷ []) p → (p ≡ x) ⊎ (p ≡ y)
in_two x y p (zero, within, is) = inl (sym is)
in_two x y p (suc zero, within, is) = inr (sym is)
in_two x y p (suc (suc k), within, is) = absurd (omega arith)

in_none : (p : ℕ) → Contains [] p → ⊥
in_none p has = omega (arith, has.1)

-- -- The graph's nodes

node_by : (act : Act) (P : FlowNode → Type 0) → P (flow (node_in (known_at act) (address_of act)) (known_at act)) ↔ Has example.graph (number_in rows (node_in (known_at act) (address_of act))) P
unfolding rows number_in
node_by calls P = (λ h. h, λ h. h)
node_by stops P = (λ h. h, λ h. h)
node_by stores P = (λ h. h, λ h. h)
node_by chooses P = (λ h. h, λ h. h)
node_by loads P = (λ h. h, λ h. h)
node_by returns P = (λ h. h, λ h. h)

to_node : (act : Act) (s : State) (P : FlowNode → Type 0) → Placed act s → P (flow (node_in (known_at act) (address_of act)) (known_at act)) → Has example.graph (number_of example s) P
to_node act s P p holds = subst (λ n. Has example.graph (number_in rows n) P) (sym p.node) ((node_by act P).0 holds)

of_node : (act : Act) (s : State) (P : FlowNode → Type 0) → Placed act s → Has example.graph (number_of example s) P → P (flow (node_in (known_at act) (address_of act)) (known_at act))
of_node act s P p has = (node_by act P).1 (subst (λ n. Has example.graph (number_in rows n) P) p.node has)

-- -- Where bytes lie

key_of : Allocation → ℕ
key_of x = 0

in_stack : (a : ℕ) → stored_at ≤ a → a < entry_base + 4 → is_in_stack entry_base a ≡ true
in_stack a low high = both_are (nat_le (entry_base - 2 ^ 20) a) (nat_lt a (entry_base + 2 ^ 16)) (le-leb (entry_base - 2 ^ 20) a (omega arith)) (lt-ltb a (entry_base + 2 ^ 16) (omega arith))

-- a byte of the callee's frame lies there
callee_spot : (s : State) (a : ℕ) → s.activations ≡ activations_of inside → s.slot ≡ entry_base → stored_at ≤ a → a < inner_base + 4 → spot_of division.key s a ≡ Some (frame_spot inner_activation)
unfolding owner_of
callee_spot s a same slot low high =
    (λ i. spot_by (nat_lt a (2 ^ 31)) (is_in_stack (slot i) a) (option_map frame_spot (owner_of (same i) a)) (option_map (block_spot division.key) (find (is_in_allocation a) s.allocs)))
    ∙ ap (λ b. spot_by b (is_in_stack entry_base a) (option_map frame_spot (owner_of (activations_of inside) a)) (option_map (block_spot division.key) (find (is_in_allocation a) s.allocs))) (le-ltb a (2 ^ 31) (omega arith))
    ∙ ap (λ b. spot_by false b (option_map frame_spot (owner_of (activations_of inside) a)) (option_map (block_spot division.key) (find (is_in_allocation a) s.allocs))) (in_stack a low (omega arith))
    ∙ ap (λ b. option_map frame_spot (if b then Some inner_activation else Some entry_activation)) (lt-ltb a (inner_base + 4) high)

-- whatever lies in the callee's frame lies above its base
found_frame : (low stack own : Bool) (block : Option Allocation) (spot : Spot) → spot_by low stack (option_map frame_spot (if own then Some inner_activation else Some entry_activation)) (option_map (block_spot division.key) block) ≡ Some spot → spot.region ≡ Frame 20 → spot.base ≡ inner_base
found_frame true stack own block spot is region = absurd (let same : global_spot ≡ spot = same_Some global_spot spot is in not_global (ap (λ x. x.region) same ∙ region))
  where
    not_global : Global ≡ Frame 20 → ⊥
    not_global e = cc
found_frame false true true block spot is region = sym (ap (λ x. x.base) (same_Some (frame_spot inner_activation) spot is))
found_frame false true false block spot is region = absurd (not_entry (ap (λ x. x.region) (same_Some (frame_spot entry_activation) spot is) ∙ region))
  where
    not_entry : Frame 10 ≡ Frame 20 → ⊥
    not_entry e = let f : ◌≡◌ {A = ℕ} 10 20 = cc in omega (arith, f)
found_frame false false own None spot is region = absurd (none-some spot is)
found_frame false false own (Some x) spot is region = absurd (not_heap (ap (λ y. y.region) (same_Some (block_spot division.key x) spot is) ∙ region))
  where
    not_heap : Heap 0 ≡ Frame 20 → ⊥
    not_heap e = cc

callee_base : (s : State) (a : ℕ) (spot : Spot) → s.activations ≡ activations_of inside → spot_of division.key s a ≡ Some spot → spot.region ≡ Frame 20 → spot.base ≡ inner_base
unfolding owner_of
callee_base s a spot same is region =
    found_frame (nat_lt a (2 ^ 31)) (is_in_stack s.slot a) (nat_lt a (inner_base + 4)) (find (is_in_allocation a) s.allocs) spot
    (sym (ap (λ activations. spot_by (nat_lt a (2 ^ 31)) (is_in_stack s.slot a) (option_map frame_spot (owner_of activations a)) (option_map (block_spot division.key) (find (is_in_allocation a) s.allocs))) same) ∙ is)
    region

-- -- Parts

same_core : (n r : ℕ) → OfCore n ≡ OfCore r → n ≡ r
same_core n r same = cc

core_region : (n : ℕ) (region : RegionId) (offset : ℤ) → OfCore n ≡ OfRegion region offset → ⊥
core_region n region offset same = cc

same_region_of : (region other : RegionId) (x y : ℤ) → OfRegion region x ≡ OfRegion other y → (region ≡ other) × (x ≡ y)
same_region_of region other x y same = (cc, cc)

register_part : (r : ℕ) (s : State) (l : Location) (part : Part) → is_register r l ≡ true → IsPartAt division s l part → part ≡ OfCore r
register_part r s (InRegister n) part is at = at ∙ ap OfCore (eqb-true n r is)
register_part r s (InFlag n) part is at = absurd (false≢true is)
register_part r s (AtByte a) part is at = absurd (false≢true is)

flag_part : (f : ℕ) (s : State) (l : Location) (part : Part) → is_flag f l ≡ true → IsPartAt division s l part → part ≡ OfCore (f + 8)
flag_part f s (InRegister n) part is at = absurd (false≢true is)
flag_part f s (InFlag n) part is at = at ∙ ap (λ k. OfCore (k + 8)) (eqb-true n f is)
flag_part f s (AtByte a) part is at = absurd (false≢true is)

part_register : (s : State) (l : Location) (r : ℕ) (part : Part) → r < 8 → IsPartAt division s l part → part ≡ OfCore r → is_register r l ≡ true
part_register s (InRegister n) r part low at is = eq-eqb n r (same_core n r (sym at ∙ is))
part_register s (InFlag n) r part low at is = absurd (let e : n + 8 ≡ r = same_core (n + 8) r (sym at ∙ is) in omega arith)
part_register s (AtByte a) r part low at is = absurd (core_region r at.0.region (pos a -ℤ pos at.0.base) (sym is ∙ at.2))

-- a byte of the callee's frame at an offset
byte_part : (s : State) (a : ℕ) (offset : ℤ) (part : Part) → s.activations ≡ activations_of inside → s.slot ≡ entry_base → stored_at ≤ a → a < inner_base + 4 → pos a -ℤ pos inner_base ≡ offset → IsPartAt division s (AtByte a) part → part ≡ OfRegion (Frame 20) offset
byte_part s a offset part same slot low high far at =
    let spot : at.0 ≡ frame_spot inner_activation = same_Some at.0 (frame_spot inner_activation) (sym at.1 ∙ callee_spot s a same slot low high) in
    at.2 ∙ ap (λ x. OfRegion x.region (pos a -ℤ pos x.base)) spot ∙ ap (OfRegion (Frame 20)) far

part_byte : (s : State) (a : ℕ) (offset : ℤ) (part : Part) → s.activations ≡ activations_of inside → IsPartAt division s (AtByte a) part → part ≡ OfRegion (Frame 20) offset → pos a -ℤ pos inner_base ≡ offset
part_byte s a offset part same at is =
    let both = same_region_of at.0.region (Frame 20) (pos a -ℤ pos at.0.base) offset (sym at.2 ∙ is) in
    ap (λ base. pos a -ℤ pos base) (sym (callee_base s a at.0 same at.1 both.0)) ∙ both.1

slot_offset : (a : ℕ) → is_in_word inner_base a ≡ true → (k : ℕ) × (k < 4) × (pos a -ℤ pos inner_base ≡ pos k)
slot_offset a is = let ends = word_of inner_base a is in let low = ends.0 in let high = ends.1 in (a - inner_base, omega arith, omega (arith, ints))

slot_part : (s : State) (l : Location) (part : Part) → s.activations ≡ activations_of inside → s.slot ≡ entry_base → is_byte (is_in_word inner_base) l ≡ true → IsPartAt division s l part → IsSlotByte part
slot_part s (InRegister n) part same slot is at = absurd (false≢true is)
slot_part s (InFlag n) part same slot is at = absurd (false≢true is)
slot_part s (AtByte a) part same slot is at =
    let ends = word_of inner_base a is in
    let low : inner_base ≤ a = ends.0 in
    let offset = slot_offset a is in
    (offset.0, offset.1, byte_part s a (pos offset.0) part same slot (omega arith) ends.1 offset.2 at)

stored_part : (s : State) (l : Location) (part : Part) → s.activations ≡ activations_of inside → s.slot ≡ entry_base → is_byte (λ a. a == stored_at) l ≡ true → IsPartAt division s l part → IsStoredByte part
stored_part s (InRegister n) part same slot is at = absurd (false≢true is)
stored_part s (InFlag n) part same slot is at = absurd (false≢true is)
stored_part s (AtByte a) part same slot is at =
    let e : a ≡ stored_at = eqb-true a stored_at is in
    byte_part s a (negsuc 0) part same slot (omega arith) (omega arith) (omega (arith, ints)) at

part_slot : (s : State) (l : Location) (part : Part) → s.activations ≡ activations_of inside → IsPartAt division s l part → IsSlotByte part → is_byte (is_in_word inner_base) l ≡ true
part_slot s (InRegister n) part same at byte = absurd (core_region n (Frame 20) (pos byte.0) (sym at ∙ byte.2))
part_slot s (InFlag n) part same at byte = absurd (core_region (n + 8) (Frame 20) (pos byte.0) (sym at ∙ byte.2))
part_slot s (AtByte a) part same at byte =
    let far = part_byte s a (pos byte.0) part same at byte.2 in
    let small = byte.1 in
    let e : a ≡ inner_base + byte.0 = omega (arith, ints, far) in
    both_are (nat_le inner_base a) (nat_lt a (inner_base + 4)) (le-leb inner_base a (omega arith)) (lt-ltb a (inner_base + 4) (omega (arith, small)))

part_stored : (s : State) (l : Location) (part : Part) → s.activations ≡ activations_of inside → IsPartAt division s l part → IsStoredByte part → is_byte (λ a. a == stored_at) l ≡ true
part_stored s (InRegister n) part same at byte = absurd (core_region n (Frame 20) (negsuc 0) (sym at ∙ byte))
part_stored s (InFlag n) part same at byte = absurd (core_region (n + 8) (Frame 20) (negsuc 0) (sym at ∙ byte))
part_stored s (AtByte a) part same at byte =
    let far = part_byte s a (negsuc 0) part same at byte in
    let e : a ≡ stored_at = omega (arith, ints, far) in
    eq-eqb a stored_at e

-- -- Accesses

reads_are : (act : Act) (s : State) (l : Location) (part : Part) → Placed act s → s.slot ≡ entry_base → reads_of act (esp_of (known_at act)) l ≡ true → IsPartAt division s l part → ReadsPart act part
reads_are calls s l part p slot is at = register_part 4 s l part is at
reads_are stops s l part p slot is at = register_part 0 s l part is at
reads_are stores s l part p slot is at = ⊎_elim (λ one. inl (register_part 1 s l part one at)) (λ other. inr (register_part 4 s l part other at)) (or_cases (is_register 1 l) _ is)
reads_are chooses s l part p slot is at = flag_part 2 s l part is at
reads_are loads s l part p slot is at = ⊎_elim (λ one. inl (register_part 4 s l part one at)) (λ other. inr (stored_part s l part p.activations slot other at)) (or_cases (is_register 4 l) _ is)
reads_are returns s l part p slot is at = ⊎_elim (λ one. inl (register_part 4 s l part one at)) (λ other. inr (slot_part s l part p.activations slot other at)) (or_cases (is_register 4 l) _ is)

-- what a location with a place has as a part
Found : Act → State → Location → Type 0
Found act s l = (part : Part) × IsPartAt division s l part × WritesPart act part × IsThere division part

register_found : (act : Act) (s : State) (l : Location) (r : ℕ) → r < 14 → is_register r l ≡ true → WritesPart act (OfCore r) → Found act s l
unfolding Found
register_found act s (InRegister n) r low is writes = (OfCore r, ap OfCore (sym (eqb-true n r is)), writes, low)
register_found act s (InFlag n) r low is writes = absurd (false≢true is)
register_found act s (AtByte a) r low is writes = absurd (false≢true is)

slot_cell : (k : ℕ) → k < 4 → cell_of (Frame 20) (pos k) ≡ Some 16
unfolding cell_of callee_cell
slot_cell k small = ap (λ b. if b then Some 16 else None) (lt-ltb k 4 small)

stored_cell : cell_of (Frame 20) (negsuc 0) ≡ Some 15
unfolding cell_of callee_cell
stored_cell = refl

slot_found : (act : Act) (s : State) (l : Location) → s.activations ≡ activations_of inside → s.slot ≡ entry_base → is_byte (is_in_word inner_base) l ≡ true → ((k : ℕ) → k < 4 → WritesPart act (OfRegion (Frame 20) (pos k))) → Found act s l
unfolding Found
slot_found act s (InRegister n) same slot is writes = absurd (false≢true is)
slot_found act s (InFlag n) same slot is writes = absurd (false≢true is)
slot_found act s (AtByte a) same slot is writes =
    let ends = word_of inner_base a is in
    let low : inner_base ≤ a = ends.0 in
    let offset = slot_offset a is in (
      OfRegion (Frame 20) (pos offset.0),
      (frame_spot inner_activation, callee_spot s a same slot (omega arith) ends.1, ap (OfRegion (Frame 20)) (sym offset.2)),
      writes offset.0 offset.1,
      (16, slot_cell offset.0 offset.1),
    )

stored_found : (act : Act) (s : State) (l : Location) → s.activations ≡ activations_of inside → s.slot ≡ entry_base → is_byte (λ a. a == stored_at) l ≡ true → WritesPart act (OfRegion (Frame 20) (negsuc 0)) → Found act s l
unfolding Found
stored_found act s (InRegister n) same slot is writes = absurd (false≢true is)
stored_found act s (InFlag n) same slot is writes = absurd (false≢true is)
stored_found act s (AtByte a) same slot is writes =
    let e : a ≡ stored_at = eqb-true a stored_at is in
    let far : pos a -ℤ pos inner_base ≡ negsuc 0 = omega (arith, ints) in (
      OfRegion (Frame 20) (negsuc 0),
      (frame_spot inner_activation, callee_spot s a same slot (omega arith) (omega arith), ap (OfRegion (Frame 20)) (sym far)),
      writes,
      (15, stored_cell),
    )

writes_are : (act : Act) (s : State) (l : Location) → s.activations ≡ activations_of (known_after act) → s.slot ≡ entry_base → writes_of act (esp_of (known_at act)) l ≡ true → Found act s l
unfolding known_after
writes_are calls s l same slot is =
    ⊎_elim (λ one. register_found calls s l 4 (omega arith) one (inl refl)) (λ other. slot_found calls s l same slot other (λ k small. inr (k, small, refl))) (or_cases (is_register 4 l) _ is)
writes_are stops s l same slot is = absurd (false≢true is)
writes_are stores s l same slot is = stored_found stores s l same slot is refl
writes_are chooses s l same slot is = absurd (false≢true is)
writes_are loads s l same slot is = register_found loads s l 0 (omega arith) is refl
writes_are returns s l same slot is = register_found returns s l 4 (omega arith) is refl

must_write : (act : Act) (s : State) (l : Location) (part : Part) → s.activations ≡ activations_of (known_after act) → IsPartAt division s l part → WritesPart act part → writes_of act (esp_of (known_at act)) l ≡ true
unfolding known_after
must_write calls s l part same at writes =
    ⊎_elim (λ one. or_left (is_register 4 l) _ (part_register s l 4 part (omega arith) at one)) (λ other. or_right (is_register 4 l) _ (part_slot s l part same at other)) writes
must_write stops s l part same at writes = absurd writes
must_write stores s l part same at writes = part_stored s l part same at writes
must_write chooses s l part same at writes = absurd writes
must_write loads s l part same at writes = part_register s l 0 part (omega arith) at writes
must_write returns s l part same at writes = part_register s l 4 part (omega arith) at writes

-- the act at an occurrence's node is its own
own_act : (o : OccurrenceOf machine) → Comes machine example o → (act : Act) → (here example o.before).at ≡ address_of act → act ≡ o.act
own_act o comes act at = sym (act_is act) ∙ ap act_at (sym at ∙ comes.happens.at) ∙ act_is o.act

access_laws : AccessLaws machine example division accesses
unfolding Found
access_laws = record {
  reads = λ o l part comes location reads at.
      let p = placed o.act o refl comes in
      (o.act, comes.happens.at, reads_are o.act o.before l part p comes.ready.whole.slot (sym (ap (λ esp. reads_of o.act esp l) p.esp) ∙ reads) at);
  writes = λ o l goes location writes kept.
      let p = placed o.act o refl goes.comes in
      let found = writes_are o.act o.after l (activations_after o.act o refl goes.comes) (slot_after o goes.comes ∙ goes.comes.ready.whole.slot) (sym (ap (λ esp. writes_of o.act esp l) p.esp) ∙ writes) in
      (found.0, found.1, (o.act, goes.comes.happens.at, found.2), found.3);
  always = λ o l part goes location kept at writes.
      let p = placed o.act o refl goes.comes in
      let own : WritesPart o.act part = subst (λ act. WritesPart act part) (own_act o goes.comes writes.0 writes.1) writes.2 in
      ap (λ esp. writes_of o.act esp l) p.esp ∙ must_write o.act o.after l part (activations_after o.act o refl goes.comes) at own;
}

-- -- The graph's sets

by_row : (n : Node) (known : Known) → Contains rows (n, known) → (act : Act) × (n ≡ node_in (known_at act) (address_of act))
unfolding rows
by_row n known (zero, within, same) = (calls, ap (λ row. row.0) (sym same))
by_row n known (suc zero, within, same) = (stops, ap (λ row. row.0) (sym same))
by_row n known (suc (suc zero), within, same) = (stores, ap (λ row. row.0) (sym same))
by_row n known (suc (suc (suc zero)), within, same) = (chooses, ap (λ row. row.0) (sym same))
by_row n known (suc (suc (suc (suc zero))), within, same) = (loads, ap (λ row. row.0) (sym same))
by_row n known (suc (suc (suc (suc (suc zero)))), within, same) = (returns, ap (λ row. row.0) (sym same))
by_row n known (suc (suc (suc (suc (suc (suc k))))), within, same) = absurd (omega arith)

node_act : (n : Node) (known : Known) → value_in rows n ≡ Some known → (act : Act) × (n ≡ node_in (known_at act) (address_of act))
node_act n known is = by_row n known (row_in rows n known is)

-- the node of an act has its address alone
one_act_at : (n : Node) (act other : Act) → n.at ≡ address_of act → n ≡ node_in (known_at other) (address_of other) → act ≡ other
one_act_at n act other at is = sym (act_is act) ∙ ap act_at (sym at ∙ ap (λ m. m.at) is) ∙ act_is other

to_number : (n : Node) (act : Act) (P : FlowNode → Type 0) → n ≡ node_in (known_at act) (address_of act) → P (flow (node_in (known_at act) (address_of act)) (known_at act)) → Has example.graph (number_in rows n) P
to_number n act P is holds = subst (λ m. Has example.graph (number_in rows m) P) (sym is) ((node_by act P).0 holds)

of_number : (n : Node) (act : Act) (P : FlowNode → Type 0) → n ≡ node_in (known_at act) (address_of act) → Has example.graph (number_in rows n) P → P (flow (node_in (known_at act) (address_of act)) (known_at act))
of_number n act P is has = (node_by act P).1 (subst (λ m. Has example.graph (number_in rows m) P) is has)

core_place : (r : ℕ) (part : Part) (place : ℕ) → part ≡ OfCore r → HasPlace division part place → place ≡ r
core_place r part place is has = (subst (λ p. HasPlace division p place) is has).0

slot_place : (part : Part) (place : ℕ) → IsSlotByte part → HasPlace division part place → 16 ≡ place
slot_place part place byte has = same_Some 16 place (sym (slot_cell byte.0 byte.1) ∙ subst (λ p. HasPlace division p place) byte.2 has)

stored_place : (part : Part) (place : ℕ) → IsStoredByte part → HasPlace division part place → 15 ≡ place
stored_place part place byte has = same_Some 15 place (sym stored_cell ∙ subst (λ p. HasPlace division p place) byte has)

uses : (act : Act) (part : Part) (place : ℕ) → ReadsPart act part → HasPlace division part place → Contains (uses_at (address_of act)) place
unfolding uses_at
uses calls part place reads has = (0, omega arith, sym (core_place 4 part place reads has))
uses stops part place reads has = (0, omega arith, sym (core_place 0 part place reads has))
uses stores part place reads has = ⊎_elim (λ one. (0, omega arith, sym (core_place 1 part place one has))) (λ other. (1, omega arith, sym (core_place 4 part place other has))) reads
uses chooses part place reads has = (0, omega arith, sym (core_place 10 part place reads has))
uses loads part place reads has = ⊎_elim (λ one. (0, omega arith, sym (core_place 4 part place one has))) (λ other. (1, omega arith, stored_place part place other has)) reads
uses returns part place reads has = ⊎_elim (λ one. (0, omega arith, sym (core_place 4 part place one has))) (λ other. (1, omega arith, slot_place part place other has)) reads

defines : (act : Act) (part : Part) (place : ℕ) → WritesPart act part → HasPlace division part place → Contains (defines_at (address_of act)) place
unfolding defines_at
defines calls part place writes has = ⊎_elim (λ one. (0, omega arith, sym (core_place 4 part place one has))) (λ other. (1, omega arith, slot_place part place other has)) writes
defines stops part place writes has = absurd writes
defines stores part place writes has = (0, omega arith, stored_place part place writes has)
defines chooses part place writes has = absurd writes
defines loads part place writes has = (0, omega arith, sym (core_place 0 part place writes has))
defines returns part place writes has = (0, omega arith, sym (core_place 4 part place writes has))

-- what lies in a cell
data InCell (region : RegionId) (offset : ℤ) (place : ℕ) : Type 0 where
  in_slot : place ≡ 16 → IsSlotByte (OfRegion region offset) → InCell region offset place
  in_byte : place ≡ 15 → IsStoredByte (OfRegion region offset) → InCell region offset place
  in_entry : place ≡ 14 → InCell region offset place
  in_word : place ≡ 17 → InCell region offset place

slot_case : (k place : ℕ) → (if nat_lt k 4 then Some 16 else None) ≡ Some place → (k < 4) × (16 ≡ place)
slot_case k place is = by_bool (nat_lt k 4) (λ low. ltb-true k 4 low) is
  where
    by_bool : (b : Bool) → (b ≡ true → k < 4) → (if b then Some 16 else None) ≡ Some place → (k < 4) × (16 ≡ place)
    by_bool true small found = (small refl, same_Some 16 place found)
    by_bool false small found = absurd (none-some place found)

byte_case : (k place : ℕ) → (if k == 0 then Some 15 else None) ≡ Some place → (k ≡ 0) × (15 ≡ place)
byte_case k place is = by_bool (k == 0) (λ zero_is. eqb-true k 0 zero_is) is
  where
    by_bool : (b : Bool) → (b ≡ true → k ≡ 0) → (if b then Some 15 else None) ≡ Some place → (k ≡ 0) × (15 ≡ place)
    by_bool true none found = (none refl, same_Some 15 place found)
    by_bool false none found = absurd (none-some place found)

word_case : (b : Bool) (c place : ℕ) → (if b then Some c else None) ≡ Some place → c ≡ place
word_case true c place is = same_Some c place is
word_case false c place is = absurd (none-some place is)

callee_case : (p : ℕ) (offset : ℤ) (place : ℕ) → p ≡ 20 → callee_cell offset ≡ Some place → InCell (Frame p) offset place
unfolding callee_cell
callee_case p (pos k) place is found = let by = slot_case k place found in in_slot (sym by.1) (k, by.0, ap (λ q. OfRegion (Frame q) (pos k)) is)
callee_case p (negsuc k) place is found = let by = byte_case k place found in in_byte (sym by.1) (λ i. OfRegion (Frame (is i)) (negsuc (by.0 i)))

entry_case : (p : ℕ) (offset : ℤ) (place : ℕ) → entry_cell offset ≡ Some place → InCell (Frame p) offset place
unfolding entry_cell
entry_case p (pos k) place found = in_entry (sym (word_case (nat_lt k 4) 14 place found))
entry_case p (negsuc k) place found = in_word (sym (word_case (nat_lt k 4) 17 place found))

frame_case : (b c : Bool) (p : ℕ) (offset : ℤ) (place : ℕ) → (b ≡ true → p ≡ 20) → (if b then callee_cell offset else (if c then entry_cell offset else None)) ≡ Some place → InCell (Frame p) offset place
frame_case true c p offset place is found = callee_case p offset place (is refl) found
frame_case false true p offset place is found = entry_case p offset place found
frame_case false false p offset place is found = absurd (none-some place found)

cell_case : (region : RegionId) (offset : ℤ) (place : ℕ) → cell_of region offset ≡ Some place → InCell region offset place
unfolding cell_of
cell_case Global offset place found = absurd (none-some place found)
cell_case (Frame p) offset place found = frame_case (p == 20) (p == 10) p offset place (λ is. eqb-true p 20 is) found
cell_case (OldFrame p) offset place found = absurd (none-some place found)
cell_case (Heap key) offset place found = absurd (none-some place found)
cell_case (OldHeap key) offset place found = absurd (none-some place found)

-- a part with the place of a register is that register
core_is : (r : ℕ) (part : Part) (place : ℕ) → r < 14 → place ≡ r → HasPlace division part place → part ≡ OfCore r
core_is r (OfCore n) place low is has = ap OfCore (sym has.0 ∙ is)
core_is r (OfRegion region offset) place low is has = by_cell (cell_case region offset place has)
  where
    by_cell : InCell region offset place → OfRegion region offset ≡ OfCore r
    by_cell (in_slot e byte) = absurd (omega arith)
    by_cell (in_byte e byte) = absurd (omega arith)
    by_cell (in_entry e) = absurd (omega arith)
    by_cell (in_word e) = absurd (omega arith)

slot_is_there : (part : Part) (place : ℕ) → place ≡ 16 → HasPlace division part place → IsSlotByte part
slot_is_there (OfCore n) place is has = absurd (let e : place ≡ n = has.0 in let low = has.1 in omega (arith, low))
slot_is_there (OfRegion region offset) place is has = by_cell (cell_case region offset place has)
  where
    by_cell : InCell region offset place → IsSlotByte (OfRegion region offset)
    by_cell (in_slot e byte) = byte
    by_cell (in_byte e byte) = absurd (omega arith)
    by_cell (in_entry e) = absurd (omega arith)
    by_cell (in_word e) = absurd (omega arith)

stored_is_there : (part : Part) (place : ℕ) → place ≡ 15 → HasPlace division part place → IsStoredByte part
stored_is_there (OfCore n) place is has = absurd (let e : place ≡ n = has.0 in let low = has.1 in omega (arith, low))
stored_is_there (OfRegion region offset) place is has = by_cell (cell_case region offset place has)
  where
    by_cell : InCell region offset place → IsStoredByte (OfRegion region offset)
    by_cell (in_slot e byte) = absurd (omega arith)
    by_cell (in_byte e byte) = byte
    by_cell (in_entry e) = absurd (omega arith)
    by_cell (in_word e) = absurd (omega arith)

must_define : (act : Act) (part : Part) (place : ℕ) → Contains (defines_at (address_of act)) place → HasPlace division part place → WritesPart act part
unfolding defines_at
must_define calls part place must has = ⊎_elim (λ one. inl (core_is 4 part place (omega arith) one has)) (λ other. inr (slot_is_there part place other has)) (in_two 4 16 place must)
must_define stops part place must has = absurd (in_none place must)
must_define stores part place must has = stored_is_there part place (in_one 15 place must) has
must_define chooses part place must has = absurd (in_none place must)
must_define loads part place must has = core_is 0 part place (omega arith) (in_one 0 place must) has
must_define returns part place must has = core_is 4 part place (omega arith) (in_one 4 place must) has

sets : HasSets example division accesses
sets = record {
  used = λ n known part place is reads has.
      let act = node_act n known is in
      let own = subst (λ x. ReadsPart x part) (one_act_at n reads.0 act.0 reads.1 act.1) reads.2 in
      to_number n act.0 (λ node. Contains node.may_use place) act.1 (uses act.0 part place own has);
  defined = λ n known part place is writes has.
      let act = node_act n known is in
      let own = subst (λ x. WritesPart x part) (one_act_at n writes.0 act.0 writes.1 act.1) writes.2 in
      to_number n act.0 (λ node. Contains node.may_def place) act.1 (defines act.0 part place own has);
  always = λ n known part place is must has.
      let act = node_act n known is in
      (act.0, ap (λ m. m.at) act.1, must_define act.0 part place (of_number n act.0 (λ node. Contains node.must_def place) act.1 must) has);
}

far : (region : RegionId) (offset : ℤ) (place : ℕ) → InCell region offset place → 14 ≤ place
far region offset place (in_slot e byte) = omega arith
far region offset place (in_byte e byte) = omega arith
far region offset place (in_entry e) = omega arith
far region offset place (in_word e) = omega arith

is_division : IsDivision division
is_division = record {
  fills = λ region offset there. there;
  behind = λ region offset place found. far region offset place (cell_case region offset place found);
}

-- -- The stack

allocs_done : (act : Act) (s : State) → (done act s).allocs ≡ s.allocs
allocs_done calls s = refl
allocs_done stops s = refl
allocs_done stores s = refl
allocs_done chooses s = refl
allocs_done loads s = refl
allocs_done returns s = refl

below_of : (a : ℕ) → a < inner_base + 4 → is_in_word inner_base a ≡ false → a < inner_base
below_of a low out =
    ⊎_elim (λ is. ltb-true a inner_base is)
    (λ high.
    let above : inner_base ≤ a = ltb-false a inner_base high in
    absurd (not_both (is_in_word inner_base a) (both_are (nat_le inner_base a) (nat_lt a (inner_base + 4)) (le-leb inner_base a above) (lt-ltb a (inner_base + 4) low)) out))
    (cases_Bool (nat_lt a inner_base))

Moves : OccurrenceOf machine → Type 0
Moves o = (o.after.activations ≡ o.before.activations) ⊎ (Takes machine o ⊎ GivesUp machine o)

moves_by : (act : Act) (o : OccurrenceOf machine) → o.act ≡ act → Comes machine example o → Moves o
unfolding Moves known_after
moves_by calls o is comes =
    let p = placed calls o is comes in
    inr (inl (record {
      new = inner_activation;
      grown = ap (λ s. s.activations) (after_is calls o is comes);
      taken = λ a stack low unwritten.
          (λ i. forgets_of (is i) (p.esp i) (AtByte a)) ∙ lt-ltb a inner_base (below_of a low (sym (λ i. writes_of (is i) (p.esp i) (AtByte a)) ∙ unwritten));
    }))
moves_by stops o is comes = inl (ap (λ s. s.activations) (after_is stops o is comes))
moves_by stores o is comes = inl (ap (λ s. s.activations) (after_is stores o is comes))
moves_by chooses o is comes = inl (ap (λ s. s.activations) (after_is chooses o is comes))
moves_by loads o is comes = inl (ap (λ s. s.activations) (after_is loads o is comes))
moves_by returns o is comes =
    let p = placed returns o is comes in
    inr (inr (record {
      ending = inner_activation;
      parent = entry_activation;
      older = [];
      were = p.activations;
      are = activations_after returns o is comes;
      given = λ a stack low. (λ i. forgets_of (is i) (p.esp i) (AtByte a)) ∙ lt-ltb a (inner_base + 4) low;
    }))

pub located : IsLocated machine example division accesses
unfolding Moves
located = record {
  cells = λ s a place has. has;
  cells_back = λ s a place has. has;
  division = is_division;
  sets = sets;
  accesses = access_laws;
  moves = λ o goes. record {
    slot = slot_after o goes.comes;
    more = [];
    allocs = ap (λ s. s.allocs) goes.comes.happens.after ∙ allocs_done o.act o.before ∙ sym (append-nil o.before.allocs);
    calls = moves_by o.act o refl goes.comes;
  };
}

pub covers : Covers machine example
covers = places_are_covered machine example division accesses located

-- -- Return slots

tail_of : List Activation → List Activation
tail_of [] = []
tail_of (x ∷ xs) = xs

nothing_split : (newer older : List Activation) (live : Activation) → [] ≡ newer ++ live ∷ older → ⊥
nothing_split [] older live same = let e : 0 ≡ suc (length older) = ap {A = List Activation} {B = ℕ} length same in omega (arith, e)
nothing_split (x ∷ newer) older live same = let e : 0 ≡ suc (length (newer ++ live ∷ older)) = ap {A = List Activation} {B = ℕ} length same in omega (arith, e)

one_split : (x : Activation) (newer older : List Activation) (live : Activation) → x ∷ [] ≡ newer ++ live ∷ older → live ≡ x
unfolding tail_of
one_split x [] older live same = sym (same_first x live [] older same)
one_split x (y ∷ newer) older live same = absurd (nothing_split newer older live (ap tail_of same))

pub record IsNewest (x y : Activation) (newer older : List Activation) (live : Activation) : Type 0 where
  pub none_newer : newer ≡ []
  pub is : live ≡ x
  pub others : older ≡ y ∷ []

two_split : (x y : Activation) (newer older : List Activation) (live : Activation) → x ∷ y ∷ [] ≡ newer ++ live ∷ older → IsNewest x y newer older live ⊎ (live ≡ y)
unfolding tail_of
two_split x y [] older live same = inl (record { none_newer = refl; is = sym (same_first x live (y ∷ []) older same); others = sym (ap tail_of same) })
two_split x y (z ∷ newer) older live same = inr (one_split y newer older live (ap tail_of same))

-- where the live slots lie
data Slot (known : Known) (newer older : List Activation) (live : Activation) : Type 0 where
  of_entry : live ≡ entry_activation → Slot known newer older live
  of_inner : known ≡ inside → IsNewest inner_activation entry_activation newer older live → Slot known newer older live

slot_of : (known : Known) (newer older : List Activation) (live : Activation) → activations_of known ≡ newer ++ live ∷ older → Slot known newer older live
slot_of outside newer older live same = of_entry (one_split entry_activation newer older live same)
slot_of inside newer older live same = ⊎_elim (λ newest. of_inner refl newest) (λ is. of_entry is) (two_split inner_activation entry_activation newer older live same)

not_in_word : (low a : ℕ) → low + 4 ≤ a → is_in_word low a ≡ false
not_in_word low a above = by_word low a (λ is. absurd (let ends = word_of low a is in omega (arith, ends.1))) (λ out. out)

not_byte : (a : ℕ) → inner_base ≤ a → (a == stored_at) ≡ false
not_byte a above = ⊎_elim (λ is. absurd (let e : a ≡ stored_at = eqb-true a stored_at is in omega arith)) (λ out. out) (cases_Bool (a == stored_at))

-- a slot lies above what is written and forgotten
above_slot : (known : Known) (newer older : List Activation) (live : Activation) (k : ℕ) → Slot known newer older live → inner_base ≤ live.base + k
above_slot known newer older live k (of_entry is) = let e : live.base ≡ entry_base = ap (λ a. a.base) is in omega arith
above_slot known newer older live k (of_inner here_is newest) = let e : live.base ≡ inner_base = ap (λ a. a.base) newest.is in omega arith

outside_slot : (newer older : List Activation) (live : Activation) (k : ℕ) → Slot outside newer older live → entry_base ≤ live.base + k
outside_slot newer older live k (of_entry is) = let e : live.base ≡ entry_base = ap (λ a. a.base) is in omega arith
outside_slot newer older live k (of_inner here_is newest) = absurd (not_inside here_is)
  where
    not_inside : outside ≡ inside → ⊥
    not_inside same = false≢true (ap {A = Known} {B = Bool} (same_known inside) same)

slot_unwritten : (act : Act) (newer older : List Activation) (live : Activation) (k : ℕ) → Slot (known_at act) newer older live → writes_of act (esp_of (known_at act)) (AtByte (live.base + k)) ≡ false
slot_unwritten calls newer older live k slot = not_in_word inner_base (live.base + k) (outside_slot newer older live k slot)
slot_unwritten stops newer older live k slot = refl
slot_unwritten stores newer older live k slot = not_byte (live.base + k) (above_slot inside newer older live k slot)
slot_unwritten chooses newer older live k slot = refl
slot_unwritten loads newer older live k slot = refl
slot_unwritten returns newer older live k slot = refl

slot_forgotten : (act : Act) (newer older : List Activation) (live : Activation) (k : ℕ) → Slot (known_at act) newer older live → forgets_of act (esp_of (known_at act)) (AtByte (live.base + k)) ≡ true → (newer ≡ []) × (activations_of (known_after act) ≡ older)
unfolding known_after
slot_forgotten calls newer older live k slot is = absurd (let below : live.base + k < inner_base = ltb-true (live.base + k) inner_base is in let above = outside_slot newer older live k slot in omega (arith, above))
slot_forgotten stops newer older live k slot is = absurd (false≢true is)
slot_forgotten stores newer older live k slot is = absurd (false≢true is)
slot_forgotten chooses newer older live k slot is = absurd (false≢true is)
slot_forgotten loads newer older live k slot is = absurd (false≢true is)
slot_forgotten returns newer older live k (of_entry at) is = absurd (let below : live.base + k < entry_base = ltb-true (live.base + k) entry_base is in let e : live.base ≡ entry_base = ap (λ a. a.base) at in omega (arith, below))
slot_forgotten returns newer older live k (of_inner here_is newest) is = (newest.none_newer, sym newest.others)

keeps_slots : (act : Act) (o : OccurrenceOf machine) → o.act ≡ act → Comes machine example o → KeepsSlots machine o
keeps_slots act o is comes =
    let p = placed act o is comes in
    record {
      unwritten = λ newer older live k same low.
          (λ i. writes_of (is i) (p.esp i) (AtByte (live.base + k))) ∙ slot_unwritten act newer older live k (slot_of (known_at act) newer older live (sym p.activations ∙ same));
      own = λ newer older live k same low forgotten.
          let own = slot_forgotten act newer older live k (slot_of (known_at act) newer older live (sym p.activations ∙ same)) (sym (λ i. forgets_of (is i) (p.esp i) (AtByte (live.base + k))) ∙ forgotten) in
          (own.0, activations_after act o is comes ∙ own.1);
    }

pub slots_are_kept : SlotsAreKept machine example
slots_are_kept o comes = keeps_slots o.act o refl comes
