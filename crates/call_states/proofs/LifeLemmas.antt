-- Values that are renamed, and cells that a region takes over, in calls, returns and allocations.
use Rattle.std.proofs.Common.{◌≡◌, ℕ, zero, suc, Bool, true, false, cond, List, [], ◌∷◌, Option, Some, None, refl, sym, ◌∙◌, ap}
use Rattle.std.specs.Prelude.{map}
use Rattle.image_map.specs.declared.region.Cell.{Cell}
use Rattle.image_map.specs.declared.region.RegionId.TheVariants.{Frame, OldFrame, Heap, OldHeap}
use Rattle.vset.specs.Values.{Values, Top}
use Rattle.vset.specs.Operations.{join, age, also, drop_region}
use Rattle.abs_semantics.specs.States.{AbsState as State, has_procedure, value_at, known_of}
use Rattle.abs_semantics.specs.Joins.{held_by}
use Rattle.abs_steps.specs.Calls.{as_of, with_cells, with_older_cells, older_block_value, with_older_block}
use Rattle.abs_state.specs.Registers.{register_in}
use Rattle.call_states.specs.declared.values.Renaming.{Renaming}
use Rattle.call_states.specs.declared.values.Renaming.TheVariants as renaming
use Rattle.call_states.specs.declared.moving.Taking.{Taking}
use Rattle.call_states.specs.declared.moving.Taking.TheVariants as taking
use Rattle.call_states.specs.Values.{renamed}
use Rattle.call_states.specs.Moving.{taken, taken_value}
use Rattle.call_states.specs.Lists.{taken_by_older, taken_by_blocks}

-- -- Renaming

renamed_top : (r : Renaming) → renamed r Top ≡ Top
unfolding age also drop_region
renamed_top (renaming.Aged young old) = refl
renamed_top (renaming.Also old young) = refl
renamed_top (renaming.Dropped r) = refl

register_renamed : (r : Renaming) (vs : List Values) (n : ℕ) → register_in (map (renamed r) vs) n ≡ renamed r (register_in vs n)
register_renamed r [] n = sym (renamed_top r)
register_renamed r (v ∷ vs) zero = refl
register_renamed r (v ∷ vs) (suc n) = register_renamed r vs n

pub registers_renamed : (r : Renaming) (vs ws : List Values) → ws ≡ map (renamed r) vs → register_in ws ≡ (λ n. renamed r (register_in vs n))
registers_renamed r vs ws is = λ i n. (ap (λ (t : List Values). register_in t n) is ∙ register_renamed r vs n) i

-- -- Taking over

by_older : (b : Bool) (c : Cell) (own other : Values) → taken (cond b taking.Joined taking.Replaced) c own other ≡ cond b (held_by c (join own other)) other
by_older true c own other = refl
by_older false c own other = refl

pub aged_cells : (t : ℕ) (a : State) (k : Taking) → k ≡ taken_by_older t a.older
    → with_cells (OldFrame t) (Frame t) (taken_value a.cells (record { to = OldFrame t; from = Frame t; taking = k })) a ≡ with_older_cells t a
aged_cells t a k is =
    (λ i. with_cells (OldFrame t) (Frame t) (taken_value a.cells (record { to = OldFrame t; from = Frame t; taking = is i })) a)
    ∙ (λ i. with_cells (OldFrame t) (Frame t) (λ c. by_older (has_procedure t a.older) c (value_at a c) (value_at a (as_of (Frame t) c)) i) a)

by_blocks : (m n : Option ℕ) (a : State) (key : ℕ) (c : Cell) → taken (taken_by_blocks m n) c (value_at a c) (value_at a (as_of (Heap key) c)) ≡ older_block_value m n a key c
by_blocks None n a key c = refl
by_blocks (Some m) None a key c = refl
by_blocks (Some m) (Some n) a key c = refl

pub older_blocks : (key : ℕ) (a : State) (k : Taking) → k ≡ taken_by_blocks (known_of (Heap key) a.blocks) (known_of (OldHeap key) a.blocks)
    → with_cells (OldHeap key) (Heap key) (taken_value a.cells (record { to = OldHeap key; from = Heap key; taking = k })) a ≡ with_older_block key a
older_blocks key a k is =
    (λ i. with_cells (OldHeap key) (Heap key) (taken_value a.cells (record { to = OldHeap key; from = Heap key; taking = is i })) a)
    ∙ (λ i. with_cells (OldHeap key) (Heap key) (λ c. by_blocks (known_of (Heap key) a.blocks) (known_of (OldHeap key) a.blocks) a key c i) a)
