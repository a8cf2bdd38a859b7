-- Externs that return: what they leave in EAX, ECX, EDX and the flags may be anything, and control goes on behind the call.
use Rattle.std.proofs.Common.{◌≡◌, ℕ, ◌+◌, ◌%◌, ◌^◌, ◌<◌, ◌≤◌, ◌&&◌, Bool, true, false, not, cond, List, [], ◌∷◌, ◌++◌, Some, None, refl, sym, ◌∙◌, ap, subst, arith, lit<}
use Rattle.std.specs.Prelude.{nat_lt, is_some}
use Rattle.std.proofs.lemmas.Bool.{false≢true, true≢false, and_parts}
use Rattle.image_map.specs.declared.image.Image.{Image}
use Rattle.image_map.specs.declared.region.Activation.{Activation}
use Rattle.image_map.specs.declared.region.Kind.{Kind}
use Rattle.image_map.specs.declared.region.Kind.TheVariants as kind
use Rattle.image_map.specs.declared.region.Settings.{Settings}
use Rattle.image_map.specs.CallModel.{IsKind}
use Rattle.ia32_semantics.specs.CallModel.{IsWhole}
use Rattle.ia32_semantics.specs.Effects.{Effect, Whole, sets, changed, all_changed, with_part, effects_fit}
use Rattle.ia32_semantics.specs.Externs as externs
use Rattle.ia32_semantics.specs.Externs.{Results, result_effects}
use Rattle.ia32_semantics.specs.Machine.{Occurrence}
use Rattle.ia32_semantics.specs.Operands.{flag_effects}
use Rattle.ia32_semantics.specs.Outcome as outcomes
use Rattle.ia32_semantics.specs.Outcome.{Outcome, Given, made, can_move, is_any, is_given, is_in_stack, with_block, with_allocation, is_forgotten}
use Rattle.ia32_semantics.specs.Reading.{outcome}
use Rattle.ia32_semantics.specs.Rows as rows
use Rattle.ia32_semantics.specs.State.{State, newest_site, word_at, AtByte}
use Rattle.ia32_semantics.specs.Step.{Act, act_row, returns_to_halt, forgets}
use Rattle.ia32_semantics.proofs.EffectLemmas.{and_left, changed_append, fit_append}
use Rattle.ia32_semantics.proofs.StepLemmas.{steps_stay_laid_out, forgets_are}
use Rattle.alocs.specs.Cells.{Division}
use Rattle.vset.specs.Values.{Top}
use Rattle.call_strings.specs.declared.context.Node.{Node}
use Rattle.abs_semantics.specs.States.{AbsState, HasCanonical}
use Rattle.abs_semantics.specs.StandsFor.{StandsFor}
use Rattle.abs_steps.specs.Accesses.{extern_writes}
use Rattle.abs_steps.specs.Effects.{puts, all_done}
use Rattle.abs_steps.specs.Externs as abs_externs
use Rattle.abs_steps.specs.Places.{Extern, content_at}
use Rattle.abs_steps.specs.Rows.{view_of}
use Rattle.abs_steps.specs.Successors.{States, is_at_slot, returned_each, extern_successors, successors_by, successors}
use Rattle.abs_steps.specs.Warnings.{warnings, has_warning, extern_warns, extern_loses_stack}
use Rattle.step_soundness.proofs.EndLaws.{flags_freed}
use Rattle.step_soundness.proofs.FlagLaws.{flags_changed}
use Rattle.step_soundness.proofs.QuietLaws.{no_warnings, writes_quiet}
use Rattle.step_soundness.proofs.SinceLaws.{Since}
use Rattle.step_soundness.proofs.WriteLaws.{AreQuiet, sets_since}
use Rattle.ia32_types.specs.declared.Width.TheVariants.{D32}
use Rattle.call_soundness.specs.Calls.{IsReturned}
use Rattle.call_soundness.specs.Externs.{returns_from, IsAnswered}
use Rattle.call_soundness.proofs.AnswerLaws.{Does, first_effects, extern_gives, sp_is}
use Rattle.call_soundness.proofs.BackLaws.{Leaves, HasCaller, has_caller, kept_above, goes_back}

-- a state with other flags is as whole
whole_flagged : (image : Image) (t : State) (flags : ℕ → Bool) → IsWhole image t → IsWhole image (record t { flags = flags })
whole_flagged image t flags w =
    record {
      laid_out = record {
        slot = w.laid_out.slot;
        sized = record { registers = w.laid_out.sized.registers; eip = w.laid_out.sized.eip; memory = w.laid_out.sized.memory };
        mapped = w.laid_out.mapped;
        apart = w.laid_out.apart;
        placed = w.laid_out.placed;
        given = w.laid_out.given;
      };
      activations = w.activations;
    }

-- The stack pointer of an extern that returns is that with which the activation began.
pub extern_at_slot : (image : Image) (a : AbsState) (p : ℕ) (d : Division) (k : Kind) → returns_from k ≡ true → warnings (Extern k) image (view_of a d p) ≡ [] → is_at_slot p a ≡ true
unfolding has_warning extern_warns extern_loses_stack
extern_at_slot image a p d k returns quiet = by k returns (no_warnings (Extern k) image (view_of a d p) quiet).stack
  where
    yes : (b : Bool) → not b ≡ false → b ≡ true
    yes true e = refl
    yes false e = absurd (true≢false e)

    by : (c : Kind) → returns_from c ≡ true → extern_loses_stack c (view_of a d p) ≡ false → is_at_slot p a ≡ true
    by (kind.Pure m) e f = yes (is_at_slot p a) f
    by (kind.Reader m) e f = yes (is_at_slot p a) f
    by kind.Alloc e f = yes (is_at_slot p a) f
    by kind.Stop e f = absurd (false≢true e)
    by kind.Unknown e f = absurd (false≢true e)
    by (kind.Fills b l) e f = yes (is_at_slot p a) f

-- no warning stands at what it writes
pub extern_quiet : (image : Image) (a : AbsState) (p : ℕ) (d : Division) (k : Kind) → warnings (Extern k) image (view_of a d p) ≡ [] → AreQuiet a p (extern_writes (view_of a d p) k)
unfolding has_warning extern_warns
extern_quiet image a p d k quiet =
    let none = no_warnings (Extern k) image (view_of a d p) quiet in
    writes_quiet a d p (extern_writes (view_of a d p) k) none.unknown none.out_of none.overrun none.slot

module _ (image : Image) (settings : Settings) (states : States) (n : Node) (a : AbsState) (at : ℕ) (k : Kind) (o : Occurrence Act)
    (h : IsAnswered image states.lane a n.context.proc states.cells at k o) (content : content_at image settings n.at ≡ Extern k) (returns : returns_from k ≡ true) (fits : IsKind k) (not_last : returns_to_halt o ≡ false) where
  abbrev pub p : ℕ
  p = n.context.proc

  abbrev pub up : ℕ
  up = rows.risen (o.before.registers 4) 4

  pub at_slot : is_at_slot n.context.proc a ≡ true
  at_slot = extern_at_slot image a n.context.proc states.cells k returns h.quiet

  row_is : outcome (externs.extern_row at k) o.before o.choices ≡ Some (h.step.done, [])
  row_is = subst (λ (c : Act). outcome (act_row c) o.before o.choices ≡ Some (h.step.done, [])) h.act h.step.row

  pub does : Does image states.lane n.context.proc a o.before states.cells h.known h.canonical at_slot at k h.step.done
  does =
      (extern_gives image states.lane n.context.proc a o.before states.cells h.known h.canonical at_slot at k returns fits (extern_quiet image a n.context.proc states.cells k h.quiet)).given
      o.choices [] h.step.done row_is

  sp_base : o.before.registers 4 ≡ h.known.newest.base
  sp_base = sp_is image states.lane n.context.proc a o.before states.cells h.known h.canonical at_slot

  -- -- The results

  abbrev others : List Effect
  others = result_effects does.results

  first_fits : effects_fit image o.before.memory does.first ≡ true
  first_fits =
      let all : effects_fit image o.before.memory ((does.first ++ result_effects does.results) ++ (sets Whole 4 up ∷ [])) ≡ true =
      sym (ap (λ (x : Outcome). effects_fit image o.before.memory x.effects) does.is) ∙ and_left (effects_fit image o.before.memory h.step.done.effects) (can_move h.step.done.calls o.before.activations) h.step.possible in
      let front = and_parts (effects_fit image o.before.memory (does.first ++ result_effects does.results)) (effects_fit image o.before.memory (sets Whole 4 up ∷ []))
      (sym (fit_append image o.before.memory (does.first ++ result_effects does.results) (sets Whole 4 up ∷ [])) ∙ all) in
      (and_parts (effects_fit image o.before.memory does.first) (effects_fit image o.before.memory (result_effects does.results)) (sym (fit_append image o.before.memory does.first (result_effects does.results)) ∙ front.0)).0

  abbrev pub m_first : State
  m_first = all_changed does.first o.before

  abbrev pub b_first : AbsState
  b_first = all_done states.cells image n.context.proc (first_effects image states.lane n.context.proc a o.before states.cells h.known h.canonical at_slot k) a

  pub start : Since image states.lane n.context.proc a o.before b_first m_first
  start = does.since first_fits

  abbrev three : List Effect
  three = sets Whole 0 does.results.eax ∷ sets Whole 1 does.results.ecx ∷ sets Whole 2 does.results.edx ∷ []

  abbrev three_abs : AbsState
  three_abs = all_done states.cells image n.context.proc (puts Whole 0 Top ∷ puts Whole 1 Top ∷ puts Whole 2 Top ∷ []) b_first

  abbrev three_state : State
  three_state = all_changed three m_first

  pub since : Since image states.lane n.context.proc a o.before three_abs three_state
  since =
      sets_since image states.lane n.context.proc a o.before states.cells h.known h.canonical D32 2 does.results.edx Top (lit< tt) tt tt _ _
      (sets_since image states.lane n.context.proc a o.before states.cells h.known h.canonical D32 1 does.results.ecx Top (lit< tt) tt tt _ _
      (sets_since image states.lane n.context.proc a o.before states.cells h.known h.canonical D32 0 does.results.eax Top (lit< tt) tt tt _ _ start))

  -- the state with the results
  abbrev pub m_done : State
  m_done = all_changed (flag_effects does.results.flags) three_state

  abbrev pub b_done : AbsState
  b_done = all_done states.cells image n.context.proc abs_externs.result_effects b_first

  pub done_stands : StandsFor states.lane b_done m_done
  done_stands = (flags_freed image states.lane n.context.proc a o.before states.cells does.results.flags).stands three_abs three_state since

  pub done_form : HasCanonical b_done
  done_form = record { registers = since.form.registers; cells = since.form.cells; links = since.form.links }

  pub done_is : m_done ≡ record three_state { flags = m_done.flags }
  done_is = flags_changed does.results.flags three_state ∙ (λ i. record three_state { flags = (ap (λ (t : State). t.flags) (sym (flags_changed does.results.flags three_state))) i })

  pub done_whole : IsWhole image m_done
  done_whole = subst (IsWhole image) (sym done_is) (whole_flagged image three_state m_done.flags since.known.whole)

  pub done_activations : m_done.activations ≡ o.before.activations
  done_activations = ap (λ (t : State). t.activations) done_is ∙ since.activations

  pub done_allocs : m_done.allocs ≡ o.before.allocs
  done_allocs = ap (λ (t : State). t.allocs) done_is ∙ since.allocs

  pub done_slot : m_done.slot ≡ o.before.slot
  done_slot = ap (λ (t : State). t.slot) done_is ∙ since.slot

  -- the same bytes are mapped
  pub done_maps : (y : ℕ) → is_some (m_done.memory y) ≡ is_some (o.before.memory y)
  done_maps y = ap (λ (t : State). is_some (t.memory y)) done_is ∙ since.maps.same y

  -- -- The step

  changed_is : all_changed ((does.first ++ result_effects does.results) ++ (sets Whole 4 up ∷ [])) o.before ≡ changed (sets Whole 4 up) m_done
  changed_is =
      changed_append (does.first ++ result_effects does.results) (sets Whole 4 up ∷ []) o.before
      ∙ ap (changed (sets Whole 4 up)) (changed_append does.first (result_effects does.results) o.before ∙ changed_append three (flag_effects does.results.flags) m_first)

  pub made_is : made h.step.done o.before ≡ record (changed (sets Whole 4 up) m_done) {
    eip = does.place % 2 ^ 32;
    activations = outcomes.moved outcomes.leaves o.before.activations;
    blocks = with_block (newest_site o.before.activations) does.given o.before.blocks;
    allocs = with_allocation (newest_site o.before.activations) does.given o.before.allocs;
  }
  made_is =
      ap (λ (x : Outcome). made x o.before) does.is
      ∙ ap (λ (t : State). record t {
        eip = does.place % 2 ^ 32;
        activations = outcomes.moved outcomes.leaves o.before.activations;
        blocks = with_block (newest_site o.before.activations) does.given o.before.blocks;
        allocs = with_allocation (newest_site o.before.activations) does.given o.before.allocs;
      }) changed_is

  pub rest_is : {A : Type 0} (f : State → A) → f (record (made h.step.done o.before) { memory = o.after.memory }) ≡ f o.after
  rest_is f = ap f (sym h.step.after)

  pub any_is : (y : ℕ) → is_any h.step.done o.before y ≡ cond (is_some (o.before.memory y)) (is_in_stack o.before.slot y && nat_lt y up) (is_given does.given y)
  any_is y = ap (λ (x : Outcome). is_any x o.before y) does.is

  -- bytes that may not be any are those with the results
  pub memory_others : (y : ℕ) → is_any h.step.done o.before y ≡ false → o.after.memory y ≡ m_done.memory y
  memory_others y kept = h.step.memory.others y kept ∙ ap (λ (t : State). t.memory y) made_is

  pub eip_after : o.after.eip ≡ does.place % 4294967296
  eip_after = ap (λ (t : State). t.eip) h.step.after ∙ ap (λ (t : State). t.eip) made_is

  pub slot_place : word_at m_first.memory h.known.newest.base ≡ Some does.place
  slot_place = sym (ap (word_at m_first.memory) sp_base) ∙ does.slot_word

  abbrev Caller : Type 0
  Caller = HasCaller image o m_first start.known.whole start.activations h.known.newest h.known.others h.known.activations does.place slot_place eip_after

  pub caller : Caller
  caller = has_caller image o m_first start.known.whole start.activations h.known.newest h.known.others h.known.activations does.place slot_place eip_after not_last

  -- -- A return from a state with the results, in which a block may be given

  module _ (m : State) (b : AbsState) (whole : IsWhole image m) (stands : StandsFor states.lane b m) (same : m.activations ≡ o.before.activations) (slot : m.slot ≡ o.before.slot) (registers : m.registers ≡ m_done.registers)
      (flags : m.flags ≡ m_done.flags) (allocs : m.allocs ≡ with_allocation (newest_site o.before.activations) does.given o.before.allocs)
      (bytes : (y : ℕ) → (is_in_stack o.before.slot y ≡ true → up ≤ y) → o.after.memory y ≡ m.memory y) (all : successors image settings states n a ≡ returned_each image settings states n 0 b) where
    abbrev ending : Activation
    ending = h.known.newest

    split : o.before.activations ≡ h.known.newest ∷ caller.parent ∷ caller.older
    split = h.known.activations ∙ ap (λ ys. h.known.newest ∷ ys) caller.are

    below : h.known.newest.base + 4 + 0 ≤ caller.parent.base
    below = let above = caller.above in omega (arith, above)

    up_is : up ≡ h.known.newest.base + 4 + 0
    up_is =
        let limit = below in
        let high : caller.parent.base ≤ m_first.slot = caller.high in
        let there : m_first.slot ≡ o.before.slot = start.slot in
        let under : o.before.slot + 2 ^ 16 ≤ 0xC0000000 = h.known.whole.laid_out.slot.below in
        let sp : o.before.registers 4 ≡ h.known.newest.base = sp_base in
        let same : o.before.registers 4 + 4 ≡ h.known.newest.base + 4 + 0 = omega (arith, sp) in
        let small : h.known.newest.base + 4 + 0 < 4294967296 = omega (arith, limit, high, there, under) in
        ap (λ k. k % 4294967296) same ∙ (let once : (h.known.newest.base + 4 + 0) % 4294967296 ≡ h.known.newest.base + 4 + 0 = omega (arith, small) in once)

    is_returned : IsReturned m o.after h.known.newest caller.parent caller.older 0
    unfolding with_part
    is_returned =
        record {
          before = same ∙ split;
          activations = sym (rest_is (λ (t : State). t.activations)) ∙ ap (λ (t : State). t.activations) made_is ∙ ap (outcomes.moved outcomes.leaves) split;
          allocs = sym (rest_is (λ (t : State). t.allocs)) ∙ ap (λ (t : State). t.allocs) made_is ∙ sym allocs;
          slot = sym (rest_is (λ (t : State). t.slot)) ∙ ap (λ (t : State). t.slot) made_is ∙ done_slot ∙ sym slot;
          flags = sym (rest_is (λ (t : State). t.flags)) ∙ ap (λ (t : State). t.flags) made_is ∙ sym flags;
          registers = λ j other.
              sym (rest_is (λ (t : State). t.registers j)) ∙ ap (λ (t : State). t.registers j) made_is ∙ ap (λ b. cond b (up % 4294967296) (m_done.registers j)) other ∙ ap (λ f. f j) (sym registers);
          esp = sym (rest_is (λ (t : State). t.registers 4)) ∙ ap (λ (t : State). t.registers 4) made_is ∙ (let once : up % 4294967296 ≡ up = omega arith in once) ∙ up_is;
          bytes = λ y above. bytes y (λ f. subst (λ j. j ≤ y) (sym up_is) (above (subst (λ j. is_in_stack j y ≡ true) (sym slot) f)));
        }

    forgotten : (y : ℕ) → forgets o (AtByte y) ≡ (is_in_stack o.before.slot y && nat_lt y (h.known.newest.base + 4 + 0))
    forgotten y = forgets_are image o h.step y ∙ ap (λ (x : Outcome). is_forgotten x o.before y) does.is ∙ ap (λ k. is_in_stack o.before.slot y && nat_lt y k) up_is

    pub leaves_from : Leaves image settings states n a o
    leaves_from =
        goes_back image settings states n a b o m h.known.newest caller.parent caller.older 0 h.known.image_is whole stands h.known.runs split is_returned
        (steps_stay_laid_out image o h.step h.known.whole.laid_out) below caller.behind forgotten all

  -- -- Where no block is given

  pub all_successors : successors image settings states n a ≡ returned_each image settings states n 0 (abs_externs.answered (view_of a states.cells n.context.proc) image (abs_externs.block_key states.lane n) k)
  unfolding successors successors_by extern_successors
  all_successors = ap (λ c. successors_by c image settings states n a) content ∙ by k returns
    where
      by : (c : Kind) → returns_from c ≡ true
          → extern_successors image settings states n c a ≡ returned_each image settings states n 0 (abs_externs.answered (view_of a states.cells n.context.proc) image (abs_externs.block_key states.lane n) c)
      by (kind.Pure j) e = ap (λ t. cond t (returned_each image settings states n 0 (abs_externs.answered (view_of a states.cells n.context.proc) image (abs_externs.block_key states.lane n) (kind.Pure j))) []) at_slot
      by (kind.Reader j) e = ap (λ t. cond t (returned_each image settings states n 0 (abs_externs.answered (view_of a states.cells n.context.proc) image (abs_externs.block_key states.lane n) (kind.Reader j))) []) at_slot
      by kind.Alloc e = ap (λ t. cond t (returned_each image settings states n 0 (abs_externs.answered (view_of a states.cells n.context.proc) image (abs_externs.block_key states.lane n) kind.Alloc)) []) at_slot
      by kind.Stop e = absurd (false≢true e)
      by kind.Unknown e = absurd (false≢true e)
      by (kind.Fills x l) e = ap (λ t. cond t (returned_each image settings states n 0 (abs_externs.answered (view_of a states.cells n.context.proc) image (abs_externs.block_key states.lane n) (kind.Fills x l))) []) at_slot

  module _ (none : does.given ≡ None) (answered_is : abs_externs.answered (view_of a states.cells n.context.proc) image (abs_externs.block_key states.lane n) k ≡ b_done) where
    kept_bytes : (y : ℕ) → (is_in_stack o.before.slot y ≡ true → up ≤ y) → o.after.memory y ≡ m_done.memory y
    kept_bytes y above =
        memory_others y (any_is y ∙ ap (λ g. cond (is_some (o.before.memory y)) (is_in_stack o.before.slot y && nat_lt y up) (is_given g y)) none ∙ kept_above o.before.slot up y (is_some (o.before.memory y)) above)

    pub plain_leaves : Leaves image settings states n a o
    plain_leaves =
        leaves_from m_done b_done done_whole done_stands done_activations done_slot refl refl
        (done_allocs ∙ ap (λ g. with_allocation (newest_site o.before.activations) g o.before.allocs) (sym none)) kept_bytes
        (all_successors ∙ ap (returned_each image settings states n 0) answered_is)
