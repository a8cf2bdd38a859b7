-- The answer of an extern that returns goes on behind the newest call.
use Rattle.std.proofs.Common.{◌≡◌, ◌⊎◌, inl, inr, ℕ, zero, suc, ◌%◌, ◌≤◌, ◌==◌, ◌&&◌, Bool, true, false, cond, List, [], ◌∷◌, ◌++◌, Some, refl, sym, ◌∙◌, ap, subst, arith}
use Rattle.std.specs.Prelude.{nat_lt, is_some, take}
use Rattle.std.proofs.lemmas.Bool.{false≢true, true≢false}
use Rattle.image_map.specs.declared.image.Image.{Image}
use Rattle.image_map.specs.declared.region.Activation.{Activation}
use Rattle.image_map.specs.declared.region.Kind.{Kind}
use Rattle.image_map.specs.declared.region.Kind.TheVariants as kind
use Rattle.image_map.specs.declared.region.Settings.{Settings}
use Rattle.image_map.specs.CallModel.{IsKind}
use Rattle.ia32_semantics.specs.CallModel.{IsLaidOut}
use Rattle.ia32_semantics.specs.Effects.{Whole, with_part}
use Rattle.ia32_semantics.specs.Machine.{Occurrence}
use Rattle.ia32_semantics.specs.Outcome.{Outcome, Given, IsBlock, LiesWell, is_any, is_given, is_in_stack, block_given, allocation_of, with_allocation}
use Rattle.ia32_semantics.specs.State.{State, pending, newest_site}
use Rattle.ia32_semantics.specs.Step.{Act, returns_to_halt}
use Rattle.ia32_semantics.proofs.StepLemmas.{steps_stay_laid_out}
use Rattle.vset.specs.Members.{HasValue}
use Rattle.vset.specs.World.{key_of}
use Rattle.call_strings.specs.declared.context.Node.{Node}
use Rattle.abs_semantics.specs.States.{AbsState}
use Rattle.abs_semantics.specs.StandsFor.{world_of}
use Rattle.abs_semantics.specs.Operands.{with_register}
use Rattle.abs_steps.specs.Accesses.{argument, filled_count}
use Rattle.abs_steps.specs.Calls.{allocated, block_or_none}
use Rattle.abs_steps.specs.Externs as abs_externs
use Rattle.abs_steps.specs.Externs.{newest_of, block_key, fill_effects}
use Rattle.abs_steps.specs.Places.{Extern, content_at}
use Rattle.abs_steps.specs.Rows.{view_of}
use Rattle.abs_steps.specs.Successors.{States, returned_each}
use Rattle.slice_soundness.specs.Nodes.{sites_of}
use Rattle.step_soundness.proofs.EndLaws.{done_append}
use Rattle.step_soundness.proofs.SinceLaws.{same_world}
use Rattle.call_soundness.specs.Externs.{returns_from, IsAnswered}
use Rattle.call_soundness.specs.Maps.{IsUnaligned}
use Rattle.call_soundness.proofs.AllocRows.{with_new, base_word, new_whole, new_stands}
use Rattle.call_soundness.proofs.AnswerLaws.{Does}
use Rattle.call_soundness.proofs.BackLaws.{Leaves, kept_above}
use Rattle.call_soundness.proofs.ExternLaws.{up, at_slot, does, m_done, b_done, done_stands, done_form, done_is, done_whole, done_activations, done_allocs, done_slot, done_maps, made_is, rest_is, any_is, memory_others, leaves_from, all_successors, plain_leaves}

-- the newest of so many sites, where some are kept
newest_kept : (lane : ℕ) (xs : List Activation) → (lane == 0) ≡ false → newest_of (take lane (sites_of xs)) ≡ newest_site xs
unfolding pending
newest_kept zero xs e = absurd (true≢false e)
newest_kept (suc lane) [] e = refl
newest_kept (suc lane) (oldest ∷ []) e = refl
newest_kept (suc lane) (newest ∷ before ∷ others) e = refl

-- the key of a block that is given at a node
pub key_here : (lane : ℕ) (n : Node) (xs : List Activation) (at : ℕ) (g : Given) → n.context.sites ≡ take lane (sites_of xs) → n.at ≡ at → g.extern_at ≡ at → block_key lane n ≡ key_of lane (allocation_of (newest_site xs) g)
key_here lane n xs at g sites here extern = by (lane == 0) refl
  where
    by : (t : Bool) → (lane == 0) ≡ t → cond t n.at (newest_of n.context.sites) ≡ cond t g.extern_at (newest_site xs)
    by true e = here ∙ sym extern
    by false e = ap newest_of sites ∙ newest_kept lane xs e

-- -- An extern that allocates

module _ (image : Image) (settings : Settings) (states : States) (n : Node) (a : AbsState) (at : ℕ) (o : Occurrence Act)
    (h : IsAnswered image states.lane a n.context.proc states.cells at kind.Alloc o) (content : content_at image settings n.at ≡ Extern kind.Alloc) (not_last : returns_to_halt o ≡ false)
    (sites : n.context.sites ≡ take states.lane (sites_of o.before.activations)) (here : n.at ≡ at) (unaligned : IsUnaligned a.aligns) where
  abbrev Doing : Type 0
  Doing = Does image states.lane n.context.proc a o.before states.cells h.known h.canonical (at_slot image settings states n a at kind.Alloc o h content refl tt not_last) at kind.Alloc h.step.done

  abbrev d : Doing
  d = does image settings states n a at kind.Alloc o h content refl tt not_last

  abbrev g : Given
  g = record { extern_at = at; base = d.results.eax; size = d.block.0 }

  given_is : d.given ≡ Some g
  given_is = d.block.1

  abbrev m : State
  m = m_done image settings states n a at kind.Alloc o h content refl tt not_last

  abbrev b : AbsState
  b = b_done image settings states n a at kind.Alloc o h content refl tt not_last

  abbrev site : ℕ
  site = newest_site o.before.activations

  lies : (d.results.eax ≡ 0) ⊎ IsBlock m.slot o.before.blocks (block_given site g)
  lies = by (subst (LiesWell o.before) (ap (λ (x : Outcome). x.given) d.is ∙ given_is) h.step.given)
    where
      by : (d.results.eax ≡ 0) ⊎ IsBlock o.before.slot o.before.blocks (block_given site g) → (d.results.eax ≡ 0) ⊎ IsBlock m.slot o.before.blocks (block_given site g)
      by (inl none) = inl none
      by (inr block) = inr (subst (λ k. IsBlock k o.before.blocks (block_given site g)) (sym (done_slot image settings states n a at kind.Alloc o h content refl tt not_last)) block)

  laid : IsLaidOut image o.after
  laid = steps_stay_laid_out image o h.step h.known.whole.laid_out

  slot_is : o.after.slot ≡ m.slot
  slot_is = sym (rest_is image settings states n a at kind.Alloc o h content refl tt not_last (λ (t : State). t.slot)) ∙ ap (λ (t : State). t.slot) (made_is image settings states n a at kind.Alloc o h content refl tt not_last)

  before_allocs : with_allocation site d.given o.before.allocs ≡ m.allocs ++ (allocation_of site g ∷ [])
  before_allocs = ap (λ x. with_allocation site x o.before.allocs) given_is ∙ ap (λ xs. xs ++ (allocation_of site g ∷ [])) (sym (done_allocs image settings states n a at kind.Alloc o h content refl tt not_last))

  allocs_are : o.after.allocs ≡ m.allocs ++ (allocation_of site g ∷ [])
  allocs_are = sym (rest_is image settings states n a at kind.Alloc o h content refl tt not_last (λ (t : State). t.allocs)) ∙ ap (λ (t : State). t.allocs) (made_is image settings states n a at kind.Alloc o h content refl tt not_last) ∙ before_allocs

  any_here : (y : ℕ) → is_any h.step.done o.before y ≡ cond (is_some (o.before.memory y)) (is_in_stack o.before.slot y && nat_lt y (up image settings states n a at kind.Alloc o h content refl tt not_last)) (is_given (Some g) y)
  any_here y = any_is image settings states n a at kind.Alloc o h content refl tt not_last y ∙ ap (λ x. cond (is_some (o.before.memory y)) (is_in_stack o.before.slot y && nat_lt y (up image settings states n a at kind.Alloc o h content refl tt not_last)) (is_given x y)) given_is

  agrees : (y : ℕ) → is_given (Some g) y ≡ false → is_some (o.after.memory y) ≡ is_some (m.memory y)
  agrees y none = by (is_any h.step.done o.before y) refl
    where
      was : (t c : Bool) → cond t c false ≡ true → t ≡ true
      was true c e = refl
      was false c e = e

      by : (t : Bool) → is_any h.step.done o.before y ≡ t → is_some (o.after.memory y) ≡ is_some (m.memory y)
      by false e = ap is_some (memory_others image settings states n a at kind.Alloc o h content refl tt not_last y e)
      by true e =
          let byte = h.step.memory.free y e in
          let mapped : is_some (o.before.memory y) ≡ true =
          was (is_some (o.before.memory y)) (is_in_stack o.before.slot y && nat_lt y (up image settings states n a at kind.Alloc o h content refl tt not_last))
          (sym (any_here y ∙ ap (cond (is_some (o.before.memory y)) (is_in_stack o.before.slot y && nat_lt y (up image settings states n a at kind.Alloc o h content refl tt not_last))) none) ∙ e) in
          ap is_some byte.2 ∙ sym (done_maps image settings states n a at kind.Alloc o h content refl tt not_last y ∙ mapped)

  abbrev grown : State
  grown = with_new image states.lane h.known.image_is m o.after b (done_whole image settings states n a at kind.Alloc o h content refl tt not_last) (done_stands image settings states n a at kind.Alloc o h content refl tt not_last) (done_form image settings states n a at kind.Alloc o h content refl tt not_last) g site o.before.blocks lies laid slot_is allocs_are agrees

  kept_bytes : (y : ℕ) → (is_in_stack o.before.slot y ≡ true → up image settings states n a at kind.Alloc o h content refl tt not_last ≤ y) → o.after.memory y ≡ cond (is_given (Some g) y) (o.after.memory y) (m.memory y)
  kept_bytes y above = by (is_given (Some g) y) refl
    where
      by : (t : Bool) → is_given (Some g) y ≡ t → o.after.memory y ≡ cond t (o.after.memory y) (m.memory y)
      by true e = refl
      by false e =
          memory_others image settings states n a at kind.Alloc o h content refl tt not_last y
          (any_here y ∙ ap (cond (is_some (o.before.memory y)) (is_in_stack o.before.slot y && nat_lt y (up image settings states n a at kind.Alloc o h content refl tt not_last))) e ∙ kept_above o.before.slot (up image settings states n a at kind.Alloc o h content refl tt not_last) y (is_some (o.before.memory y)) above)

  eax_is : m.registers 0 ≡ d.results.eax
  unfolding with_part
  eax_is =
      let low = base_word image states.lane h.known.image_is m o.after b (done_whole image settings states n a at kind.Alloc o h content refl tt not_last) (done_stands image settings states n a at kind.Alloc o h content refl tt not_last) (done_form image settings states n a at kind.Alloc o h content refl tt not_last) g site o.before.blocks lies laid slot_is allocs_are agrees in
      ap (λ (t : State). t.registers 0) (done_is image settings states n a at kind.Alloc o h content refl tt not_last) ∙ (let cut : d.results.eax % 4294967296 ≡ d.results.eax = omega (arith, low) in cut)

  size_has : HasValue states.lane (world_of m) d.block.0 (argument (view_of a states.cells n.context.proc) 1)
  size_has = subst (λ w. HasValue states.lane w d.block.0 (argument (view_of a states.cells n.context.proc) 1)) (same_world o.before m (done_activations image settings states n a at kind.Alloc o h content refl tt not_last) (done_allocs image settings states n a at kind.Alloc o h content refl tt not_last)) d.block.2

  answered_is : abs_externs.answered (view_of a states.cells n.context.proc) image (block_key states.lane n) kind.Alloc
      ≡ with_register (allocated (block_key states.lane n) (argument (view_of a states.cells n.context.proc) 1) b) Whole 0 (block_or_none (block_key states.lane n))
  unfolding abs_externs.answered abs_externs.extern_row
  answered_is = refl

  pub alloc_leaves : Leaves image settings states n a o
  alloc_leaves =
      leaves_from image settings states n a at kind.Alloc o h content refl tt not_last grown
      (with_register (allocated (block_key states.lane n) (argument (view_of a states.cells n.context.proc) 1) b) Whole 0 (block_or_none (block_key states.lane n)))
      (new_whole image states.lane h.known.image_is m o.after b (done_whole image settings states n a at kind.Alloc o h content refl tt not_last) (done_stands image settings states n a at kind.Alloc o h content refl tt not_last) (done_form image settings states n a at kind.Alloc o h content refl tt not_last) g site o.before.blocks lies laid slot_is allocs_are agrees)
      (new_stands image states.lane h.known.image_is m o.after b (done_whole image settings states n a at kind.Alloc o h content refl tt not_last) (done_stands image settings states n a at kind.Alloc o h content refl tt not_last) (done_form image settings states n a at kind.Alloc o h content refl tt not_last) g site o.before.blocks lies laid slot_is allocs_are agrees
      (argument (view_of a states.cells n.context.proc) 1) size_has d.block.3 refl (block_key states.lane n) (key_here states.lane n o.before.activations at g sites here refl) (unaligned (block_key states.lane n)) eax_is states.cells n.context.proc)
      (done_activations image settings states n a at kind.Alloc o h content refl tt not_last) (done_slot image settings states n a at kind.Alloc o h content refl tt not_last) refl refl (allocs_are ∙ sym before_allocs) kept_bytes
      (all_successors image settings states n a at kind.Alloc o h content refl tt not_last ∙ ap (returned_each image settings states n 0) answered_is)

-- -- All that return

module _ (image : Image) (settings : Settings) (states : States) (n : Node) (a : AbsState) (at : ℕ) (o : Occurrence Act) (not_last : returns_to_halt o ≡ false)
    (sites : n.context.sites ≡ take states.lane (sites_of o.before.activations)) (here : n.at ≡ at) (unaligned : IsUnaligned a.aligns) where
  pub answer_leaves : (k : Kind) → returns_from k ≡ true → IsKind k → IsAnswered image states.lane a n.context.proc states.cells at k o → content_at image settings n.at ≡ Extern k → Leaves image settings states n a o
  unfolding abs_externs.answered abs_externs.extern_row
  answer_leaves (kind.Pure j) returns fits h content =
      plain_leaves image settings states n a at (kind.Pure j) o h content returns fits not_last (does image settings states n a at (kind.Pure j) o h content returns fits not_last).block refl
  answer_leaves (kind.Reader j) returns fits h content =
      plain_leaves image settings states n a at (kind.Reader j) o h content returns fits not_last (does image settings states n a at (kind.Reader j) o h content returns fits not_last).block refl
  answer_leaves kind.Alloc returns fits h content = alloc_leaves image settings states n a at o h content not_last sites here unaligned
  answer_leaves kind.Stop returns fits h content = absurd (false≢true returns)
  answer_leaves kind.Unknown returns fits h content = absurd (false≢true returns)
  answer_leaves (kind.Fills buffer len) returns fits h content =
      let v = view_of a states.cells n.context.proc in
      plain_leaves image settings states n a at (kind.Fills buffer len) o h content returns fits not_last (does image settings states n a at (kind.Fills buffer len) o h content returns fits not_last).block
      (done_append states.cells image n.context.proc (fill_effects (argument v buffer) (filled_count v len)) abs_externs.result_effects a)
