-- The laws of one step: which locations it changes, what they follow from, and that it keeps sizes and the layout of memory.
use Rattle.std.proofs.Common.{◌≡◌, ℕ, ◌%◌, ◌^◌, ◌<◌, List, [], ◌∷◌, ◌++◌, refl, sym, ap, subst, ◌∙◌, arith, inl, inr}
use Rattle.std.specs.Prelude.{Bool, true, false, cond, not, ◌&&◌, ◌||◌, ◌==◌, ◌⊎◌, filter, map, Option, Some, None, is_some, if◌then◌else◌}
use Rattle.std.specs.List.{list_any}
use Rattle.std.proofs.lemmas.Bool.{false≢true, or_right, or_left}
use Rattle.std.proofs.lemmas.Option.{same_Some}
use Rattle.std.proofs.lemmas.List.{map-append}
use Rattle.std.proofs.lemmas.List.Elements.{filter-append}
use Rattle.std.proofs.lemmas.List.Folds.{list_any-append}
use Rattle.image_map.specs.declared.image.Image.{Image}
use Rattle.image_map.specs.declared.region.Block.{Block}
use Rattle.image_map.specs.Queries.{is_in_segment}
use Rattle.ia32_semantics.specs.declared.state.Allocation.{Allocation}
use Rattle.ia32_semantics.specs.State.{State, Location, InRegister, InFlag, AtByte, SameAt, newest_site}
use Rattle.ia32_semantics.specs.Machine.{Occurrence}
use Rattle.ia32_semantics.specs.Reading.{outcome, asks}
use Rattle.ia32_semantics.specs.Effects.{all_changed, effects_write, effects_take, effects_fit}
use Rattle.ia32_semantics.specs.Outcome.{Outcome, Given, made, can_move, is_in_stack, is_in_block, IsBlock, IsFarFrom, block_given, allocation_of, with_allocation, with_block, LiesWell, is_forgotten, is_given, is_any, AgreesBut}
use Rattle.ia32_semantics.specs.Step.{Act, Step, act_row, outcome_takes, outcome_writes, outcome_forgets, reads, writes, forgets}
use Rattle.ia32_semantics.specs.CallModel.{IsEntrySlot, IsLaidOut, AreBlocks, block_of, gives_block, blocks_given}
use Rattle.ia32_semantics.specs.Laws.{ChangesOnlyWrites, WritesFollowReads, StepsStaySized, StepsStayLaidOut}
use Rattle.ia32_semantics.proofs.ReadingLemmas.{AgreeOn, same_outcome}
use Rattle.ia32_semantics.proofs.EffectLemmas.{by_test, and_left, effects_keep, effects_agree, effects_map, written_is_open, effects_sizes, same_slot}

-- -- What a step did

pub writes_are : (image : Image) (o : Occurrence Act) (st : Step image o) (l : Location) → writes o l ≡ effects_write st.done.effects l
writes_are image o st l = ap (λ r. outcome_writes r l) st.row

pub forgets_are : (image : Image) (o : Occurrence Act) (st : Step image o) (a : ℕ) → forgets o (AtByte a) ≡ is_forgotten st.done o.before a
forgets_are image o st a = ap (λ r. outcome_forgets r o.before (AtByte a)) st.row

any_where_mapped : (done : Outcome) (s : State) (a : ℕ) → is_some (s.memory a) ≡ true → is_any done s a ≡ is_forgotten done s a
any_where_mapped done s a mapped = ap (λ b. if b then is_forgotten done s a else is_given done.given a) mapped

-- a byte that was mapped and isn't forgotten is as the effects made it
pub byte_made : (image : Image) (o : Occurrence Act) (st : Step image o) (a : ℕ) → is_some (o.before.memory a) ≡ true → forgets o (AtByte a) ≡ false
    → o.after.memory a ≡ (all_changed st.done.effects o.before).memory a
byte_made image o st a mapped kept =
    st.memory.others a (any_where_mapped st.done o.before a mapped ∙ sym (forgets_are image o st a) ∙ kept)

-- -- A step changes only what it writes or forgets

pub changes_only_writes : ChangesOnlyWrites
changes_only_writes image o st (InRegister n) there unwritten kept =
    effects_keep st.done.effects o.before (InRegister n) (sym (writes_are image o st (InRegister n)) ∙ unwritten)
    ∙ sym (ap (λ (s : State). s.registers n) st.after)
changes_only_writes image o st (InFlag n) there unwritten kept =
    effects_keep st.done.effects o.before (InFlag n) (sym (writes_are image o st (InFlag n)) ∙ unwritten)
    ∙ sym (ap (λ (s : State). s.flags n) st.after)
changes_only_writes image o st (AtByte a) there unwritten kept =
    effects_keep st.done.effects o.before (AtByte a) (sym (writes_are image o st (AtByte a)) ∙ unwritten)
    ∙ sym (byte_made image o st a there kept)

-- -- What is written follows from what is read

-- what the first step read in full
takes_are : (image : Image) (o : Occurrence Act) (st : Step image o) (l : Location) → effects_take st.done.effects l ≡ true → reads o l ≡ true
takes_are image o st l taken =
    or_right (asks (act_row o.act) o.before o.choices l) _ (ap (λ r. outcome_takes r o.before l) st.row ∙ or_left _ _ taken)

-- the second step has the first one's outcome
same_done : (image : Image) (o p : Occurrence Act) (st : Step image o) (other : Step image p)
    → o.act ≡ p.act → o.choices ≡ p.choices → AgreeOn (reads o) o.before p.before → st.done ≡ other.done
same_done image o p st other act choices agree =
    let asked : AgreeOn (asks (act_row o.act) o.before o.choices) o.before p.before = record { same = λ l e. agree.same l (or_left _ _ e) } in
    let outcomes : outcome (act_row o.act) o.before o.choices ≡ outcome (act_row p.act) p.before p.choices =
    same_outcome (act_row o.act) o.before p.before o.choices asked
    ∙ ap (λ a. outcome (act_row a) p.before o.choices) act ∙ ap (λ c. outcome (act_row p.act) p.before c) choices in
    ap (λ (r : Outcome × List ℕ). r.0) (same_Some (st.done, []) (other.done, []) (sym st.row ∙ outcomes ∙ other.row))

mapped_where_written : (image : Image) (o : Occurrence Act) (st : Step image o) (a : ℕ) → effects_write st.done.effects (AtByte a) ≡ true → is_some (o.before.memory a) ≡ true
mapped_where_written image o st a written =
    and_left (is_some (o.before.memory a)) _
    (written_is_open image o.before.memory st.done.effects a (and_left (effects_fit image o.before.memory st.done.effects) _ st.possible) written)

same_after : (image : Image) (o p : Occurrence Act) (st : Step image o) (other : Step image p)
    → st.done ≡ other.done → AgreeOn (reads o) o.before p.before
    → (l : Location) → effects_write st.done.effects l ≡ true → forgets o l ≡ false → forgets p l ≡ false → SameAt l o.after p.after
same_after image o p st other same agree l written kept other_kept = at l written kept other_kept
  where
    made_same : (l : Location) → effects_write st.done.effects l ≡ true → SameAt l (all_changed st.done.effects o.before) (all_changed other.done.effects p.before)
    made_same l written =
        subst (λ (d : Outcome). SameAt l (all_changed st.done.effects o.before) (all_changed d.effects p.before)) same
        ((effects_agree st.done.effects o.before p.before (reads o) agree (takes_are image o st)).same l (or_left _ _ written))

    at : (l : Location) → effects_write st.done.effects l ≡ true → forgets o l ≡ false → forgets p l ≡ false → SameAt l o.after p.after
    at (InRegister n) written kept other_kept =
        ap (λ (s : State). s.registers n) st.after ∙ made_same (InRegister n) written ∙ sym (ap (λ (s : State). s.registers n) other.after)
    at (InFlag n) written kept other_kept =
        ap (λ (s : State). s.flags n) st.after ∙ made_same (InFlag n) written ∙ sym (ap (λ (s : State). s.flags n) other.after)
    at (AtByte a) written kept other_kept =
        byte_made image o st a (mapped_where_written image o st a written) kept
        ∙ made_same (AtByte a) written
        ∙ sym (byte_made image p other a
        (mapped_where_written image p other a (sym (ap (λ (d : Outcome). effects_write d.effects (AtByte a)) same) ∙ written)) other_kept)

pub writes_follow_reads : WritesFollowReads
writes_follow_reads image o p st other act choices agree =
    let agreed : AgreeOn (reads o) o.before p.before = record { same = agree } in
    let same : st.done ≡ other.done = same_done image o p st other act choices agreed in (
      ap (λ (s : State). s.eip) st.after ∙ ap (λ (d : Outcome). d.place % 2 ^ 32) same ∙ sym (ap (λ (s : State). s.eip) other.after),
      (λ l. writes_are image o st l ∙ ap (λ (d : Outcome). effects_write d.effects l) same ∙ sym (writes_are image p other l)),
      (λ l written. same_after image o p st other same agreed l (sym (writes_are image o st l) ∙ written)),
    )

-- -- Sizes

free_below : (f : ℕ → Bool) (made new : ℕ → Option ℕ) → AgreesBut f made new → ((a byte : ℕ) → made a ≡ Some byte → byte < 256)
    → (a byte : ℕ) → new a ≡ Some byte → byte < 256
free_below f made new agrees below a byte e =
    by_test (f a)
    (λ free. let other = agrees.free a free in subst (λ v. v < 256) (same_Some other.0 byte (sym other.2 ∙ e)) other.1)
    (λ bound. below a byte (sym (agrees.others a bound) ∙ e))

pub steps_stay_sized : StepsStaySized
steps_stay_sized image o st sized =
    let sizes = effects_sizes st.done.effects o.before (record { registers = sized.registers; memory = sized.memory }) in
    record {
      registers = λ n. subst (λ (s : State). s.registers n < 2 ^ 32) (sym st.after) (sizes.registers n);
      eip = let cut : st.done.place % 2 ^ 32 < 2 ^ 32 = omega arith in subst (λ (s : State). s.eip < 2 ^ 32) (sym st.after) cut;
      memory = free_below (is_any st.done o.before) (all_changed st.done.effects o.before).memory o.after.memory st.memory sizes.memory;
    }

-- -- The layout of memory

pub slot_stays : (image : Image) (o : Occurrence Act) → Step image o → o.after.slot ≡ o.before.slot
slot_stays image o st = ap (λ (s : State). s.slot) st.after ∙ same_slot st.done.effects o.before

blocks_after : (image : Image) (o : Occurrence Act) (st : Step image o)
    → o.after.blocks ≡ with_block (newest_site o.before.activations) st.done.given o.before.blocks
blocks_after image o st = ap (λ (s : State). s.blocks) st.after

allocs_after : (image : Image) (o : Occurrence Act) (st : Step image o)
    → o.after.allocs ≡ with_allocation (newest_site o.before.activations) st.done.given o.before.allocs
allocs_after image o st = ap (λ (s : State). s.allocs) st.after

or_none : (a : Bool) → a ≡ (a || false)
or_none true = refl
or_none false = refl

-- the bytes of the blocks and of what is given
any_block : (a site : ℕ) (g : Option Given) (blocks : List Block) → list_any (is_in_block a) (with_block site g blocks) ≡ (list_any (is_in_block a) blocks || is_given g a)
any_block a site None blocks = or_none _
any_block a site (Some g) blocks =
    by_test (g.base == 0)
    (λ none. ap (λ b. list_any (is_in_block a) (cond b blocks (blocks ++ (block_given site g ∷ [])))) none
    ∙ or_none _ ∙ sym (ap (λ b. list_any (is_in_block a) blocks || (not b && is_in_block a (block_given 0 g))) none))
    (λ some. ap (λ b. list_any (is_in_block a) (cond b blocks (blocks ++ (block_given site g ∷ [])))) some
    ∙ list_any-append (is_in_block a) blocks (block_given site g ∷ [])
    ∙ ap (λ b. list_any (is_in_block a) blocks || b) (sym (or_none (is_in_block a (block_given site g))))
    ∙ sym (ap (λ b. list_any (is_in_block a) blocks || (not b && is_in_block a (block_given 0 g))) some))

-- mapped after the step: what was mapped before, and what is given
mapped_by : (was given forgotten : Bool) (made new : Option ℕ)
    → is_some made ≡ was
    → ((if was then forgotten else given) ≡ true → (byte : ℕ) × (byte < 256) × (new ≡ Some byte))
    → ((if was then forgotten else given) ≡ false → new ≡ made)
    → is_some new ≡ (was || given)
mapped_by true given true made new is free others = ap is_some (free refl).2
mapped_by true given false made new is free others = ap is_some (others refl) ∙ is
mapped_by false true forgotten made new is free others = ap is_some (free refl).2
mapped_by false false forgotten made new is free others = ap is_some (others refl) ∙ is

or_joined : (a b c d : Bool) → (a || b || c || d) ≡ (a || b || (c || d))
or_joined true b c d = refl
or_joined false true c d = refl
or_joined false false c d = refl

mapped_after : (image : Image) (o : Occurrence Act) (st : Step image o) (lies : IsLaidOut image o.before) (a : ℕ)
    → is_some (o.after.memory a) ≡ (is_in_segment image a || is_in_stack o.after.slot a || list_any (is_in_block a) o.after.blocks)
mapped_after image o st lies a =
    let fits = and_left (effects_fit image o.before.memory st.done.effects) (can_move st.done.calls o.before.activations) st.possible in
    mapped_by (is_some (o.before.memory a)) (is_given st.done.given a) (is_forgotten st.done o.before a) ((all_changed st.done.effects o.before).memory a) (o.after.memory a)
    ((effects_map image st.done.effects o.before fits).same a) (st.memory.free a) (st.memory.others a)
    ∙ ap (λ b. b || is_given st.done.given a) (lies.mapped a)
    ∙ or_joined (is_in_segment image a) (is_in_stack o.before.slot a) (list_any (is_in_block a) o.before.blocks) (is_given st.done.given a)
    ∙ ap (λ b. is_in_segment image a || is_in_stack o.before.slot a || b)
    (sym (any_block a (newest_site o.before.activations) st.done.given o.before.blocks) ∙ ap (λ blocks. list_any (is_in_block a) blocks) (sym (blocks_after image o st)))
    ∙ ap (λ slot. is_in_segment image a || is_in_stack slot a || list_any (is_in_block a) o.after.blocks) (sym (slot_stays image o st))

-- a block that is new lies apart from an earlier one
apart_from_new : (slot : ℕ) (later : List Block) (block new : Block) (a : ℕ)
    → list_any (is_in_block a) later ≡ false → (is_in_block a new ≡ true → (is_in_block a block || list_any (is_in_block a) later) ≡ false)
    → is_in_block a block ≡ true → list_any (is_in_block a) (later ++ (new ∷ [])) ≡ false
apart_from_new slot later block new a old apart inside =
    list_any-append (is_in_block a) later (new ∷ []) ∙ ap (λ b. b || (is_in_block a new || false)) old
    ∙ by_test (is_in_block a new)
    (λ both. absurd (false≢true (sym (apart both) ∙ or_left (is_in_block a block) (list_any (is_in_block a) later) inside)))
    (λ out. ap (λ b. b || false) out)

placed_after : (slot : ℕ) (blocks : List Block) (new : Block) → AreBlocks slot blocks → IsBlock slot blocks new → AreBlocks slot (blocks ++ (new ∷ []))
placed_after slot [] new placed lies = (lies, tt)
placed_after slot (block ∷ later) new placed lies =
    let first = placed.0 in (
      record {
        aligned = first.aligned;
        above = first.above;
        below = first.below;
        far = first.far;
        apart = λ a inside. apart_from_new slot later block new a (first.apart a inside) (lies.apart a) inside;
      },
      placed_after slot later new placed.1 (record {
        aligned = lies.aligned;
        above = lies.above;
        below = lies.below;
        far = lies.far;
        apart = λ a inside. by_test (list_any (is_in_block a) later) (λ some. absurd (false≢true (sym (lies.apart a inside) ∙ or_right _ _ some))) (λ none. none);
      }),
    )

blocks_placed : (s : State) (g : Option Given) → AreBlocks s.slot s.blocks → LiesWell s g → AreBlocks s.slot (with_block (newest_site s.activations) g s.blocks)
blocks_placed s None placed lies = placed
blocks_placed s (Some g) placed lies =
    by_test (g.base == 0)
    (λ none. subst (λ b. AreBlocks s.slot (cond b s.blocks (s.blocks ++ (block_given (newest_site s.activations) g ∷ [])))) (sym none) placed)
    (λ some. subst (λ b. AreBlocks s.slot (cond b s.blocks (s.blocks ++ (block_given (newest_site s.activations) g ∷ [])))) (sym some) (new some lies))
  where
    new : (g.base == 0) ≡ false → (g.base ≡ 0) ⊎ IsBlock s.slot s.blocks (block_given (newest_site s.activations) g)
        → AreBlocks s.slot (s.blocks ++ (block_given (newest_site s.activations) g ∷ []))
    new some (inl zero) = absurd (false≢true (sym some ∙ ap (λ n. n == 0) zero))
    new some (inr block) = placed_after s.slot s.blocks (block_given (newest_site s.activations) g) placed block

-- the blocks are those that were given
given_after : (site : ℕ) (g : Option Given) (blocks : List Block) (allocs : List Allocation) → blocks ≡ blocks_given allocs
    → with_block site g blocks ≡ blocks_given (with_allocation site g allocs)
given_after site None blocks allocs given = given
given_after site (Some g) blocks allocs given =
    by_test (g.base == 0)
    (λ none. ap (λ b. cond b blocks (blocks ++ (block_given site g ∷ []))) none ∙ given ∙ sym (append-none (blocks_given allocs))
    ∙ ap (λ b. blocks_given allocs ++ map block_of (cond (not b) (allocation_of site g ∷ []) [])) (sym none)
    ∙ sym split)
    (λ some. ap (λ b. cond b blocks (blocks ++ (block_given site g ∷ []))) some ∙ ap (λ bs. bs ++ (block_given site g ∷ [])) given
    ∙ ap (λ b. blocks_given allocs ++ map block_of (cond (not b) (allocation_of site g ∷ []) [])) (sym some)
    ∙ sym split)
  where
    append-none : (bs : List Block) → bs ++ [] ≡ bs
    append-none [] = refl
    append-none (b ∷ bs) = ap (λ l. b ∷ l) (append-none bs)

    split : blocks_given (allocs ++ (allocation_of site g ∷ [])) ≡ blocks_given allocs ++ blocks_given (allocation_of site g ∷ [])
    split = ap (map block_of) (filter-append gives_block allocs (allocation_of site g ∷ []))
        ∙ map-append block_of (filter gives_block allocs) (filter gives_block (allocation_of site g ∷ []))

pub steps_stay_laid_out : StepsStayLaidOut
steps_stay_laid_out image o st lies =
    let slot = slot_stays image o st in
    record {
      slot = subst IsEntrySlot (sym slot) lies.slot;
      sized = steps_stay_sized image o st lies.sized;
      mapped = mapped_after image o st lies;
      apart = λ a inside. subst (λ n. IsFarFrom n a) (sym slot) (lies.apart a inside);
      placed = subst (λ n. AreBlocks n o.after.blocks) (sym slot)
          (subst (AreBlocks o.before.slot) (sym (blocks_after image o st)) (blocks_placed o.before st.done.given lies.placed st.given));
      given = blocks_after image o st ∙ given_after (newest_site o.before.activations) st.done.given o.before.blocks o.before.allocs lies.given
          ∙ ap blocks_given (sym (allocs_after image o st));
    }
