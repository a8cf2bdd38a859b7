-- What is planned and performed is a step, and where it isn't, there is none.
use Rattle.std.proofs.Common.{◌≡◌, ℕ, ◌<◌, List, [], ◌∷◌, ◌++◌, ◌%◌, ◌^◌, refl, sym, ap, subst, ◌∙◌, arith}
use Rattle.std.specs.Prelude.{Bool, true, false, cond, not, ◌&&◌, ◌||◌, Option, Some, None, is_some, if◌then◌else◌}
use Rattle.std.proofs.lemmas.Bool.{false≢true}
use Rattle.std.proofs.lemmas.Option.{none-some, same_Some}
use mathlib.Core.Path.{fun_ext}
use Rattle.image_map.specs.declared.image.Image.{Image}
use Rattle.image_map.specs.declared.region.Activation.{Activation}
use Rattle.image_map.specs.declared.region.Block.{Block}
use Rattle.image_map.specs.Queries.{is_in_segment, is_writable}
use Rattle.ia32_semantics.specs.declared.state.Allocation.{Allocation}
use Rattle.ia32_types.specs.declared.Instr.{Instr}
use Rattle.ia32_semantics.specs.State.{State, AtByte}
use Rattle.ia32_semantics.specs.Reading.{outcome, asks}
use Rattle.ia32_semantics.specs.Effects.{Effect, sets, turns, stores, copies, changed, all_changed, effects_fit}
use Rattle.ia32_semantics.specs.Outcome.{Outcome, Given, Move, moved, made, can_move, is_possible, is_in_stack, is_below, is_any, is_forgotten, is_given, LiesWell}
use Rattle.ia32_semantics.specs.Rows.{row}
use Rattle.ia32_semantics.specs.Step.{Step}
use Rattle.ia32_semantics.proofs.EffectLemmas.{and_left, effects_map}
use Rattle.ia32_memory.specs.Mapped.{Mapped, bytes_of}
use Rattle.ia32_memory.specs.Changes.{cleared}
use Rattle.ia32_memory.proofs.ShapeLaws.{same_open}
use Rattle.ia32_memory.proofs.WrittenLaws.{cleared_maps}
use Rattle.image_map.specs.Shapes.{shapes}
use Rattle.ia32_machine.specs.Opens.{KnowsOpen}
use Rattle.ia32_machine.specs.Steps.{executes, Faults, performed, gone_on}
use Rattle.ia32_machine.proofs.WordLemmas.{more_words, used_words, asks_more}

free_go : (mapped forgotten given : Bool) (old made_ : Option ℕ) → is_some old ≡ mapped → is_some made_ ≡ mapped → given ≡ false
    → (if mapped then forgotten else given) ≡ true → cond (forgotten && is_some made_) (Some 0) made_ ≡ Some 0
free_go true true given old made_ was is none any = ap (λ b. cond b (Some 0) made_) is
free_go true false given old made_ was is none any = absurd (false≢true any)
free_go false forgotten given old made_ was is none any = absurd (false≢true (sym none ∙ any))

other_go : (mapped forgotten given : Bool) (made_ : Option ℕ) → is_some made_ ≡ mapped → (if mapped then forgotten else given) ≡ false
    → cond (forgotten && is_some made_) (Some 0) made_ ≡ made_
other_go true true given made_ is any = absurd (false≢true (sym any))
other_go true false given made_ is any = refl
other_go false true given made_ is any = ap (λ b. cond b (Some 0) made_) is
other_go false false given made_ is any = refl

zero_byte : 0 < 256
zero_byte = omega arith

none_given : (done : Outcome) (a : ℕ) → done.given ≡ None → is_given done.given a ≡ false
none_given done a none = ap (λ (g : Option Given). is_given g a) none

none_lies : (s : State) (done : Outcome) → done.given ≡ None → LiesWell s done.given
none_lies s done none = subst (LiesWell s) (sym none) tt

-- a step was made with the first of some words, and what may be any of memory is 0
pub record IsStepped (image : Image) (i : Instr) (words left : List ℕ) (done : Outcome) (s after : State) : Type 0 where
  pub used : List ℕ
  pub are : words ≡ used ++ left
  pub step : Step image (executes i used s after)
  pub is : step.done ≡ done
  pub zeros : (a : ℕ) → is_any step.done s a ≡ true → after.memory a ≡ Some 0
  pub asked : (a : ℕ) → asks (row i.op i) s words (AtByte a) ≡ asks (row i.op i) s used (AtByte a)

pub performed_is_stepped : (image : Image) (i : Instr) (s after : State) (words rest : List ℕ) (done : Outcome)
    → outcome (row i.op i) s words ≡ Some (done, rest) → is_possible image done s ≡ true → done.given ≡ None → after ≡ performed done s
    → IsStepped image i words rest done s after
performed_is_stepped image i s after words rest done is possible given after_is =
    let u = used_words (row i.op i) s words rest done is in
    let maps = effects_map image done.effects s (and_left (effects_fit image s.memory done.effects) (can_move done.calls s.activations) possible) in
    let byte : (a : ℕ) → after.memory a ≡ (performed done s).memory a = λ a. ap (λ (t : State). t.memory a) after_is in
    record {
      used = u.used;
      are = u.are;
      step = record {
        done = done;
        row = u.gives_it;
        possible = possible;
        given = none_lies s done given;
        after = after_is ∙ ap (λ m. record (made done s) { memory = m }) (sym (ap (λ (t : State). t.memory) after_is));
        memory = record {
          others = λ a bound. byte a ∙ other_go (is_some (s.memory a)) (is_forgotten done s a) (is_given done.given a) ((made done s).memory a) (maps.same a) bound;
          free = λ a free. (0, zero_byte, byte a ∙ free_go (is_some (s.memory a)) (is_forgotten done s a) (is_given done.given a) (s.memory a) ((made done s).memory a) refl (maps.same a) (none_given done a given) free);
        };
      };
      zeros = λ a free. byte a ∙ free_go (is_some (s.memory a)) (is_forgotten done s a) (is_given done.given a) (s.memory a) ((made done s).memory a) refl (maps.same a) (none_given done a given) free;
      is = refl;
      asked = λ a. ap (λ w. asks (row i.op i) s w (AtByte a)) u.are ∙ asks_more (row i.op i) s u.used rest [] done (AtByte a) u.gives_it;
    }

-- the row's outcome with all words, where there is a step with the first of them
stepped_outcome : (image : Image) (i : Instr) (s after : State) (words used left : List ℕ) → words ≡ used ++ left → (st : Step image (executes i used s after))
    → outcome (row i.op i) s words ≡ Some (st.done, left)
stepped_outcome image i s after words used left are st =
    ap (outcome (row i.op i) s) are ∙ more_words (row i.op i) s used left [] st.done st.row

pub unplanned_faults : (image : Image) (i : Instr) (s : State) (words : List ℕ) → outcome (row i.op i) s words ≡ None → Faults image i words s
unplanned_faults image i s words none used left after are = λ st.
    none-some (st.done, left) (sym none ∙ stepped_outcome image i s after words used left are st)

pub impossible_faults : (image : Image) (i : Instr) (s : State) (words rest : List ℕ) (done : Outcome) → outcome (row i.op i) s words ≡ Some (done, rest) → is_possible image done s ≡ false
    → Faults image i words s
impossible_faults image i s words rest done is impossible used left after are = λ st.
    let same : done ≡ st.done = ap (λ (r : Outcome × List ℕ). r.0) (same_Some (done, rest) (st.done, left) (sym is ∙ stepped_outcome image i s after words used left are st)) in
    false≢true (sym impossible ∙ ap (λ d. is_possible image d s) same ∙ st.possible)

-- -- From the core's state to the machine's

abbrev pub with_calls : State → List Activation → List Block → List Allocation → ℕ → State
with_calls t activations blocks allocs slot = record t { activations = activations; blocks = blocks; allocs = allocs; slot = slot }

changed_with : (es : List Effect) (t : State) (activations : List Activation) (blocks : List Block) (allocs : List Allocation) (slot : ℕ)
    → all_changed es (with_calls t activations blocks allocs slot) ≡ with_calls (all_changed es t) activations blocks allocs slot
changed_with [] t activations blocks allocs slot = refl
changed_with (sets part n value ∷ es) t activations blocks allocs slot = changed_with es (changed (sets part n value) t) activations blocks allocs slot
changed_with (turns n value ∷ es) t activations blocks allocs slot = changed_with es (changed (turns n value) t) activations blocks allocs slot
changed_with (stores a bytes ∷ es) t activations blocks allocs slot = changed_with es (changed (stores a bytes) t) activations blocks allocs slot
changed_with (copies to from n ∷ es) t activations blocks allocs slot = changed_with es (changed (copies to from n) t) activations blocks allocs slot

-- an outcome that gives no block
abbrev pub outcome_with : List Effect → ℕ → Move → Option ℕ → Outcome
outcome_with es place calls forgets = record { effects = es; place = place; calls = calls; given = None; forgets = forgets; reads_all = false }

pub performed_state : (t0 t1 t2 : State) (es : List Effect) (place : ℕ) (forgets : Option ℕ) (first : ℕ → Bool) (calls : Move)
    (before after : List Activation) (blocks : List Block) (allocs : List Allocation) (slot : ℕ)
    → t1 ≡ all_changed es t0 → t2 ≡ gone_on place forgets first t1 → after ≡ moved calls before → ((a : ℕ) → first a ≡ is_in_stack slot a) → place < 2 ^ 32
    → with_calls t2 after blocks allocs slot ≡ performed (outcome_with es place calls forgets) (with_calls t0 before blocks allocs slot)
performed_state t0 t1 t2 es place forgets first calls before after blocks allocs slot one two acts stack fits =
    let cut : place ≡ place % 2 ^ 32 = omega arith in
    ap (λ t. with_calls t after blocks allocs slot) two
    ∙ ap (λ acts_. with_calls (gone_on place forgets first t1) acts_ blocks allocs slot) acts
    ∙ ap (λ t. with_calls (gone_on place forgets first t) (moved calls before) blocks allocs slot) one
    ∙ ap (λ f. with_calls (gone_on place forgets f (all_changed es t0)) (moved calls before) blocks allocs slot) (fun_ext stack)
    ∙ ap (λ p. with_calls (gone_on p forgets (is_in_stack slot) (all_changed es t0)) (moved calls before) blocks allocs slot) cut
    ∙ sym (ap (λ (t : State). record t { eip = place % 2 ^ 32; activations = moved calls before; blocks = blocks; allocs = allocs; memory = cleared (λ a. is_in_stack slot a && is_below forgets a) t.memory }) (changed_with es t0 before blocks allocs slot))

-- -- What the memory knows

pub knows_after : (image : Image) (old new : Mapped) → KnowsOpen image old → shapes new ≡ shapes old → ((a : ℕ) → is_some (bytes_of new a) ≡ is_some (bytes_of old a)) → KnowsOpen image new
knows_after image old new knows same maps = record {
  opens = λ a. same_open new old same a ∙ knows.opens a ∙ ap (λ b. b && (not (is_in_segment image a) || is_writable image a)) (sym (maps a));
}

pub performed_maps : (image : Image) (done : Outcome) (s : State) (a : ℕ) → effects_fit image s.memory done.effects ≡ true → is_some ((performed done s).memory a) ≡ is_some (s.memory a)
performed_maps image done s a fits =
    cleared_maps (λ x. is_in_stack s.slot x && is_below done.forgets x) (made done s).memory a ∙ (effects_map image done.effects s fits).same a
