-- From what a row gives to what a step leaves.
use Rattle.std.proofs.Common.{◌≡◌, ℕ, ◌+◌, ◌%◌, ◌^◌, ◌&&◌, ◌||◌, Bool, true, false, cond, List, [], ◌∷◌, Option, Some, None, refl, sym, ◌∙◌, ap, subst, arith}
use Rattle.std.specs.Prelude.{is_some}
use Rattle.image_map.specs.declared.image.Image.{Image}
use Rattle.image_map.specs.declared.region.Block.{Block}
use Rattle.image_map.specs.declared.region.Cell.{Cell}
use Rattle.ia32_types.specs.declared.Instr.{Instr}
use Rattle.ia32_semantics.specs.CallModel.{IsWhole, AreActivations}
use Rattle.ia32_semantics.specs.Effects.{Effect, sets, turns, stores, copies, all_changed, effects_fit, effects_take, effects_write}
use Rattle.ia32_semantics.specs.Machine.{Occurrence}
use Rattle.ia32_semantics.specs.Outcome.{Outcome, going, made, can_move, is_in_stack, is_any, is_forgotten}
use Rattle.ia32_semantics.specs.Reading.{outcome, asks}
use Rattle.ia32_semantics.specs.Rows as rows
use Rattle.ia32_semantics.specs.Rows.{next_place}
use Rattle.ia32_semantics.specs.State.{State, AtByte}
use Rattle.ia32_semantics.specs.Step.{Act, Executes, Step, act_row, reads as step_reads, writes as step_writes, outcome_takes, forgets}
use Rattle.ia32_semantics.proofs.EffectLemmas.{and_left, or_true}
use Rattle.ia32_semantics.proofs.StepLemmas.{writes_are, steps_stay_laid_out, forgets_are}
use Rattle.alocs.specs.Cells.{Division}
use Rattle.vset.specs.World.{Thing, TheImage, ActivationAt, BlockAt}
use Rattle.vset.specs.declared.facts.CmpFact.{CmpFact}
use Rattle.vset.specs.declared.facts.CmpPlace.{CmpPlace}
use Rattle.vset.specs.declared.facts.CmpPlace.TheVariants as place
use Rattle.abs_semantics.specs.States.{AbsState}
use Rattle.abs_semantics.specs.StandsFor.{StandsFor, Owns, IsCellOf, IsTrueAt, HoldsFact}
use Rattle.abs_steps.specs.declared.accesses.Access.{Access}
use Rattle.abs_steps.specs.Effects.{AbsEffect, all_done}
use Rattle.step_soundness.specs.Accessed.{IsAccessed, AreFilled}
use Rattle.step_soundness.proofs.EndLaws.{Goes, Ends, filled_more}
use Rattle.step_soundness.proofs.GivenLaws.{Gives}

-- -- Another place, and other blocks

module _ (lane : ℕ) (a : AbsState) (s : State) (stands : StandsFor lane a s) (eip : ℕ) (blocks : List Block) where
  abbrev there : State
  there = record s { eip = eip; blocks = blocks }

  owns_here : (t : Thing) (x : ℕ) → Owns there t x → Owns s t x
  owns_here TheImage x h = h
  owns_here (ActivationAt newer b older) x h = h
  owns_here (BlockAt before b later) x h = h

  owns_there : (t : Thing) (x : ℕ) → Owns s t x → Owns there t x
  owns_there TheImage x h = h
  owns_there (ActivationAt newer b older) x h = h
  owns_there (BlockAt before b later) x h = h

  cell_here : (t : Thing) (c : Cell) (at len : ℕ) → IsCellOf lane there t c at len → IsCellOf lane s t c at len
  cell_here t c at len of =
      record { is_in = of.is_in; region = of.region; lies = record { start = of.lies.start; end = of.lies.end; owned = λ k lt. owns_here t (at + k) (of.lies.owned k lt) } }

  cell_there : (t : Thing) (c : Cell) (at len : ℕ) → IsCellOf lane s t c at len → IsCellOf lane there t c at len
  cell_there t c at len of =
      record { is_in = of.is_in; region = of.region; lies = record { start = of.lies.start; end = of.lies.end; owned = λ k lt. owns_there t (at + k) (of.lies.owned k lt) } }

  fact_there : (f : CmpFact) (q : CmpPlace) → IsTrueAt lane s f q → IsTrueAt lane there f q
  fact_there f (place.Reg r) is = is
  fact_there f (place.Cell c) is =
      record { thing = is.thing; at = is.at; of_thing = cell_there is.thing c is.at 4 is.of_thing; word = is.word; is_word = is.is_word; compared = is.compared }

  known_there : (o : Option CmpFact) → HoldsFact lane s o → HoldsFact lane there o
  known_there None h = tt
  known_there (Some f) h = fact_there f f.place h

  pub elsewhere_stands : StandsFor lane a there
  elsewhere_stands =
      record {
        registers = stands.registers;
        flags = stands.flags;
        cells = λ t c at len bytes of is. stands.cells t c at len bytes (cell_here t c at len of) is;
        root = stands.root;
        live = stands.live;
        older = stands.older;
        links = stands.links;
        aligns = stands.aligns;
        blocks = stands.blocks;
        fact = known_there a.fact stands.fact;
      }

-- -- Effects keep calls and blocks

-- all but registers, flags and memory
pub record SameRest (s t : State) : Type 0 where
  pub activations : t.activations ≡ s.activations
  pub blocks : t.blocks ≡ s.blocks
  pub allocs : t.allocs ≡ s.allocs
  pub slot : t.slot ≡ s.slot

pub same_rest : (es : List Effect) (s : State) → SameRest s (all_changed es s)
same_rest [] s = record { activations = refl; blocks = refl; allocs = refl; slot = refl }
same_rest (sets part n v ∷ es) s = let h = same_rest es _ in record { activations = h.activations; blocks = h.blocks; allocs = h.allocs; slot = h.slot }
same_rest (turns n v ∷ es) s = let h = same_rest es _ in record { activations = h.activations; blocks = h.blocks; allocs = h.allocs; slot = h.slot }
same_rest (stores at bytes ∷ es) s = let h = same_rest es _ in record { activations = h.activations; blocks = h.blocks; allocs = h.allocs; slot = h.slot }
same_rest (copies to from n ∷ es) s = let h = same_rest es _ in record { activations = h.activations; blocks = h.blocks; allocs = h.allocs; slot = h.slot }

-- -- The state after a step that goes on

module _ (image : Image) (o : Occurrence Act) (st : Step image o) (next : ℕ) (is : st.done ≡ going st.done.effects next) where
  abbrev changed_state : State
  changed_state = all_changed st.done.effects o.before

  nothing_any : (a : ℕ) → is_any st.done o.before a ≡ false
  nothing_any a = ap (λ (x : Outcome). is_any x o.before a) is ∙ by (is_some (o.before.memory a)) (is_in_stack o.before.slot a)
    where
      by : (b c : Bool) → cond b (c && false) false ≡ false
      by true true = refl
      by true false = refl
      by false c = refl

  pub memory_is : o.after.memory ≡ changed_state.memory
  memory_is = λ i a. st.memory.others a (nothing_any a) i

  -- it is the state after the effects, but for the place
  pub after_is : o.after ≡ record changed_state { eip = next % 2 ^ 32 }
  after_is =
      let rest = same_rest st.done.effects o.before in
      st.after
      ∙ (λ i. record (made st.done o.before) { memory = memory_is i })
      ∙ ap (λ (x : Outcome). record (made x o.before) { memory = changed_state.memory }) is
      ∙ (λ i. record changed_state { eip = next % 2 ^ 32; activations = sym rest.activations i; blocks = sym rest.blocks i; allocs = sym rest.allocs i })

  pub same_after : o.after.activations ≡ o.before.activations
  same_after = ap (λ (t : State). t.activations) after_is ∙ (same_rest st.done.effects o.before).activations

  pub slot_after : o.after.slot ≡ o.before.slot
  slot_after = ap (λ (t : State). t.slot) after_is ∙ (same_rest st.done.effects o.before).slot

  pub eip_after : o.after.eip ≡ next % 2 ^ 32
  eip_after = ap (λ (t : State). t.eip) after_is

-- the place after an instruction is a word
pub place_word : (i : Instr) → next_place i % 2 ^ 32 ≡ next_place i
place_word i = omega arith

module _ (image : Image) (lane p : ℕ) (a : AbsState) (d : Division) (i : Instr) (o : Occurrence Act) (whole : IsWhole image o.before) (act : o.act ≡ Executes i) (st : Step image o)
    (reads writes sure : List Access) (given : List AbsEffect)
    (row : Gives o.before (IsAccessed lane o.before reads) (Goes image lane p a o.before d (next_place i) reads writes sure given) (rows.row i.op i)) where
  row_is : outcome (rows.row i.op i) o.before o.choices ≡ Some (st.done, [])
  row_is = subst (λ (c : Act). outcome (act_row c) o.before o.choices ≡ Some (st.done, [])) act st.row

  goes : Goes image lane p a o.before d (next_place i) reads writes sure given st.done
  goes = row.given o.choices [] st.done row_is

  fits : effects_fit image o.before.memory st.done.effects ≡ true
  fits = and_left (effects_fit image o.before.memory st.done.effects) (can_move st.done.calls o.before.activations) st.possible

  ends : Ends image lane p a o.before d writes sure given st.done.effects
  ends = goes.ends fits

  pub row_whole : IsWhole image o.after
  row_whole =
      record {
        laid_out = steps_stay_laid_out image o st whole.laid_out;
        activations = subst (λ m. AreActivations image m o.after.slot o.after.activations) (sym (memory_is image o st (next_place i) goes.is))
            (subst (λ n. AreActivations image (all_changed st.done.effects o.before).memory n o.after.activations) (sym (slot_after image o st (next_place i) goes.is))
            (subst (λ xs. AreActivations image (all_changed st.done.effects o.before).memory o.before.slot xs) (sym (same_after image o st (next_place i) goes.is)) ends.slots));
      }

  pub row_same : o.after.activations ≡ o.before.activations
  row_same = same_after image o st (next_place i) goes.is

  pub row_eip : o.after.eip ≡ next_place i
  row_eip = eip_after image o st (next_place i) goes.is ∙ place_word i

  pub row_stands : StandsFor lane (all_done d image p given a) o.after
  row_stands =
      subst (λ t. StandsFor lane (all_done d image p given a) t) (sym (after_is image o st (next_place i) goes.is))
      (elsewhere_stands lane (all_done d image p given a) (all_changed st.done.effects o.before) ends.stands (next_place i % 2 ^ 32) (all_changed st.done.effects o.before).blocks)

  -- -- Accesses

  pub row_reads : (byte : ℕ) → step_reads o (AtByte byte) ≡ true → IsAccessed lane o.before reads byte
  row_reads byte e =
      or_true (asks (act_row o.act) o.before o.choices (AtByte byte)) _ e
      (λ f. row.asked o.choices [] st.done row_is byte (subst (λ (c : Act). asks (act_row c) o.before o.choices (AtByte byte) ≡ true) act f))
      (λ f. goes.taken byte fits (taken_only (effects_take st.done.effects (AtByte byte)) (sym (ap (λ r. outcome_takes r o.before (AtByte byte)) st.row ∙ none) ∙ f)))
    where
      none : outcome_takes (Some (st.done, [])) o.before (AtByte byte) ≡ (effects_take st.done.effects (AtByte byte) || false)
      none = ap (λ (x : Outcome). effects_take st.done.effects (AtByte byte) || (x.reads_all && is_some (o.before.memory byte))) goes.is

      taken_only : (b : Bool) → (b || false) ≡ true → b ≡ true
      taken_only true e = refl
      taken_only false e = e

  pub row_writes : (byte : ℕ) → step_writes o (AtByte byte) ≡ true → IsAccessed lane o.before writes byte
  row_writes byte e = ends.written byte (sym (writes_are image o st (AtByte byte)) ∙ e)

  pub row_fills : AreFilled lane o.before (λ byte. step_writes o (AtByte byte)) sure
  row_fills = filled_more lane o.before (λ byte. effects_write st.done.effects (AtByte byte)) (λ byte. step_writes o (AtByte byte)) (λ byte e. writes_are image o st (AtByte byte) ∙ e) sure ends.filled

  -- nothing is forgotten
  pub row_forgets : (byte : ℕ) → forgets o (AtByte byte) ≡ false
  row_forgets byte = forgets_are image o st byte ∙ ap (λ (x : Outcome). is_forgotten x o.before byte) goes.is ∙ none (is_in_stack o.before.slot byte)
    where
      none : (b : Bool) → (b && false) ≡ false
      none true = refl
      none false = refl
