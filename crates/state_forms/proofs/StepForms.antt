-- Wherever control goes from a state of the form that the analysis keeps, it comes with such a state.
use Rattle.std.proofs.Common.{◌≡◌, ℕ, ◌*◌, ◌<◌, ◌==◌, ◌&&◌, Bool, true, false, cond, not, List, [], ◌∷◌, map, Option, Some, None, refl, subst, arith, ℤ, pos, ◌+ℤ◌}
use Rattle.std.specs.Prelude.{IfSome, FitsSigned, int_le, filter}
use Rattle.std.specs.Int.{w32}
use Rattle.std.specs.List.{flat_map}
use Rattle.std.proofs.lemmas.Bool.{cond_both}
use Rattle.std.proofs.lemmas.Int.{ints}
use Rattle.std.proofs.lemmas.Option.{none-some, same_Some}
use Rattle.image_map.specs.declared.image.Image.{Image}
use Rattle.image_map.specs.declared.region.Kind.{Kind}
use Rattle.image_map.specs.declared.region.Kind.TheVariants as kind
use Rattle.image_map.specs.declared.region.RegionId.TheVariants.{Frame}
use Rattle.image_map.specs.declared.region.Settings.{Settings}
use Rattle.image_map.specs.Regions.{same_region}
use Rattle.ia32_types.specs.declared.Instr.{Instr}
use Rattle.ia32_types.specs.declared.Op.{Op}
use Rattle.ia32_types.specs.declared.Op.TheVariants as op
use Rattle.ia32_types.specs.declared.Operand.{Operand}
use Rattle.ia32_types.specs.declared.Operand.TheVariants as operand
use Rattle.ia32_types.specs.Operands.{IsInstruction}
use Rattle.ia32_semantics.specs.Effects.{Whole}
use Rattle.ia32_semantics.specs.Rows.{next_place}
use Rattle.ia32_fetch.specs.Fetched.{instruction_at}
use Rattle.strided.specs.Interval.{Interval, IsCanonical, one}
use Rattle.strided.specs.Operations.{only, sub}
use Rattle.strided.proofs.MemberLemmas.{one_canonical}
use Rattle.strided.proofs.SumLemmas.{sub_canonical}
use Rattle.si_bits.proofs.SignLemmas.{fits_between}
use Rattle.vset.specs.Values.{Values, Top, Parts, CanonicalValues}
use Rattle.call_strings.specs.declared.context.Node.{Node}
use Rattle.abs_semantics.specs.declared.parts.Link.{Link}
use Rattle.abs_semantics.specs.declared.parts.RangeValue.TheVariants as range
use Rattle.abs_semantics.specs.States.{AbsState, LinksAreCanonical}
use Rattle.abs_steps.specs.Accesses.{argument, filled_count}
use Rattle.abs_steps.specs.Calls.{called, returned, allocated, block_or_none}
use Rattle.abs_steps.specs.Effects.{fills}
use Rattle.abs_steps.specs.Externs.{result_effects, fill_effects, extern_row, with_block, answered, block_key}
use Rattle.abs_steps.specs.Places.{Content, Extern, Instruction, Nothing, content_of, content_at, kind_at, followed}
use Rattle.abs_steps.specs.Rows.{view_of}
use Rattle.abs_steps.specs.Strings.{bytes_of}
use Rattle.abs_steps.specs.Successors.{Placed, States, at_node, moved_to, side, if_goes, branched, frame_offset, stack_offset, jumped, callee_node, slot_below, called_each, called_at, extra_of, goes_back_to, gone_back_to, returned_by, young_links, returned_each, is_at_slot, takes_too_much, returned_from, answered_from, extern_successors, instruction_successors, successors_by, successors}
use Rattle.transfer_flow.proofs.ControlLemmas.{ret_takes}
use Rattle.sweeps.proofs.EnterLemmas.{all_append}
use Rattle.call_soundness.specs.Maps.{HasForm}
use Rattle.state_forms.specs.Images.{HasBytes}
use Rattle.state_forms.specs.Formed.{AreFormedEffects, ArePlacedFormed}
use Rattle.state_forms.proofs.BranchForms.{side_formed}
use Rattle.state_forms.proofs.CallForms.{links_left, called_formed, returned_formed, allocated_formed, block_or_none_form}
use Rattle.state_forms.proofs.EffectForms.{register_formed, all_formed, effects_both}
use Rattle.state_forms.proofs.OperandForms.{stands_spelt}
use Rattle.state_forms.proofs.RowForms.{post_formed}

-- -- The stack pointer

-- the ends of an interval are words
ends_fit : (x : Interval) → IsCanonical x → FitsSigned w32 x.lo
ends_fit x form =
    let low = form.low in
    let high = form.high in
    let reached : x.hi ≡ x.lo +ℤ pos (form.last.turns * x.stride) = form.last.reached in
    fits_between x.lo low (omega (arith, ints))

slot_fits : (p : ℕ) (v : Values) (offset : ℤ) → CanonicalValues v → frame_offset p v ≡ Some offset → FitsSigned w32 (slot_below offset)
unfolding only
slot_fits p Top offset form e = absurd (none-some offset e)
slot_fits p (Parts []) offset form e = absurd (none-some offset e)
slot_fits p (Parts (x ∷ y ∷ rest)) offset form e = absurd (none-some offset e)
slot_fits p (Parts (x ∷ [])) offset form e = ends_fit (sub (one offset) (one (pos 4))) (sub_canonical (one offset) (one (pos 4)) (one_canonical offset fits) (one_canonical (pos 4) (fits_between (pos 4) (omega (arith, ints)) (omega (arith, ints)))))
  where
    is_low : (t : Bool) → cond t (cond (x.si.stride == 0) (Some x.si.lo) None) None ≡ Some offset → x.si.lo ≡ offset
    is_low true f = by (x.si.stride == 0) f
      where
        by : (t : Bool) → cond t (Some x.si.lo) None ≡ Some offset → x.si.lo ≡ offset
        by true f = same_Some x.si.lo offset f
        by false f = absurd (none-some offset f)
    is_low false f = absurd (none-some offset f)

    fits : FitsSigned w32 offset
    fits = subst (FitsSigned w32) (is_low (same_region x.region (Frame p)) e) (ends_fit x.si form.0)

-- -- Lists of nodes

each_at : (f : ℕ → Node) (g : ℕ → AbsState) → ((t : ℕ) → HasForm (g t)) → (ts : List ℕ) → ArePlacedFormed (map (λ t. at_node (f t) (g t)) ts)
each_at f g forms [] = tt
each_at f g forms (t ∷ ts) = (forms t, each_at f g forms ts)

each_back : (image : Image) (settings : Settings) (b : AbsState) → HasForm b → (ps : List Placed) → ArePlacedFormed (map (gone_back_to image settings b) ps)
each_back image settings b form [] = tt
each_back image settings b form (p ∷ ps) = (form, each_back image settings b form ps)

goes_formed : (at : ℕ) (n : Node) (o : Option AbsState) → IfSome o HasForm → ArePlacedFormed (if_goes at n o)
goes_formed at n None form = tt
goes_formed at n (Some a) form = (form, tt)

-- -- Externs

results_formed : AreFormedEffects result_effects
results_formed = (tt, (tt, (tt, (tt, tt))))

fill_formed : (at : Values) (o : Option Interval) → AreFormedEffects (fill_effects at o)
fill_formed at None = (tt, tt)
fill_formed at (Some c) = cond_both (bytes_of 1 c == 0) [] (fills at (Some (bytes_of 1 c)) range.Any ∷ []) AreFormedEffects (λ _. tt) (λ _. (tt, tt))

module _ (image : Image) (settings : Settings) (states : States) (n : Node) (a : AbsState) (form : HasForm a) where
  abbrev p : ℕ
  p = n.context.proc

  extern_formed : (k : Kind) → AreFormedEffects (extern_row k (view_of a states.cells p))
  unfolding extern_row
  extern_formed (kind.Pure m) = results_formed
  extern_formed (kind.Reader m) = results_formed
  extern_formed kind.Alloc = results_formed
  extern_formed kind.Stop = tt
  extern_formed kind.Unknown = results_formed
  extern_formed (kind.Fills buffer len) =
      effects_both (fill_effects (argument (view_of a states.cells p) buffer) (filled_count (view_of a states.cells p) len)) result_effects
      (fill_formed (argument (view_of a states.cells p) buffer) (filled_count (view_of a states.cells p) len)) results_formed

  block_formed : (k : Kind) (key : ℕ) (asked : Values) (b : AbsState) → HasForm b → HasForm (with_block k key asked b)
  block_formed kind.Alloc key asked b fb = register_formed (allocated key asked b) Whole 0 (block_or_none key) (allocated_formed key asked b fb) (block_or_none_form key)
  block_formed (kind.Pure m) key asked b fb = fb
  block_formed (kind.Reader m) key asked b fb = fb
  block_formed kind.Stop key asked b fb = fb
  block_formed kind.Unknown key asked b fb = fb
  block_formed (kind.Fills buffer len) key asked b fb = fb

  answered_formed : (k : Kind) (key : ℕ) → HasForm (answered (view_of a states.cells p) image key k)
  unfolding answered
  answered_formed k key =
      block_formed k key (argument (view_of a states.cells p) 1) _ (all_formed states.cells image p (extern_row k (view_of a states.cells p)) a form (extern_formed k))

  -- -- Returns

  module _ (b : AbsState) (fb : HasForm b) (extra : ℕ) (few : extra < 65536) where
    all_back : (ls : List Link) → LinksAreCanonical ls → ArePlacedFormed (flat_map (returned_by image settings states n extra b) ls)
    all_back [] forms = tt
    all_back (l ∷ ls) forms =
        all_append (λ (x : Placed). HasForm x.state) (returned_by image settings states n extra b l) (flat_map (returned_by image settings states n extra b) ls)
        (each_back image settings (returned p l.parent l.off extra b) (returned_formed p l.parent l.off extra b fb forms.0 few) (filter (goes_back_to image settings states n l) states.placed)) (all_back ls forms.1)

    each_returned : ArePlacedFormed (returned_each image settings states n extra b)
    each_returned = all_back (young_links p b.links) (links_left (λ (l : Link). l.child == p && not l.aged) b.links fb.canonical.links)

  returned_formed_all : (extra : ℕ) → extra < 65536 → ArePlacedFormed (returned_from image settings states n extra a)
  returned_formed_all extra few =
      cond_both (is_at_slot p a && not (takes_too_much p extra a)) (returned_each image settings states n extra a) [] ArePlacedFormed (λ _. each_returned a form extra few) (λ _. tt)

  answers_formed : (k : Kind) → ArePlacedFormed (answered_from image settings states n k a)
  answers_formed k =
      cond_both (is_at_slot p a) (returned_each image settings states n 0 (answered (view_of a states.cells p) image (block_key states.lane n) k)) [] ArePlacedFormed
      (λ _. each_returned (answered (view_of a states.cells p) image (block_key states.lane n) k) (answered_formed k (block_key states.lane n)) 0 (omega arith)) (λ _. tt)

  externs_formed : (k : Kind) → ArePlacedFormed (extern_successors image settings states n k a)
  unfolding extern_successors
  externs_formed kind.Stop = tt
  externs_formed (kind.Pure m) = answers_formed (kind.Pure m)
  externs_formed (kind.Reader m) = answers_formed (kind.Reader m)
  externs_formed kind.Alloc = answers_formed kind.Alloc
  externs_formed kind.Unknown = answers_formed kind.Unknown
  externs_formed (kind.Fills buffer len) = answers_formed (kind.Fills buffer len)

  -- -- Instructions

  branched_formed : (c : ℕ) (o : Option Operand) (i : Instr) → ArePlacedFormed (branched c o i n a)
  unfolding branched
  branched_formed c (Some (operand.Imm target)) i =
      all_append (λ (x : Placed). HasForm x.state) (if_goes target n (side a c true)) (if_goes (next_place i) n (side a c false))
      (goes_formed target n (side a c true) (side_formed a form c true)) (goes_formed (next_place i) n (side a c false) (side_formed a form c false))
  branched_formed c (Some (operand.Reg r)) i = tt
  branched_formed c (Some (operand.High r)) i = tt
  branched_formed c (Some (operand.Mem m)) i = tt
  branched_formed c None i = tt

  jumped_formed : (i : Instr) → ArePlacedFormed (jumped image (view_of a states.cells p) i n)
  jumped_formed i = each_at (λ t. moved_to t n) (λ t. a) (λ t. form) (followed image (view_of a states.cells p) i.dst)

  call_formed : (i : Instr) (o : Option ℤ) → stack_offset p a ≡ o → ArePlacedFormed (called_at image states.lane (view_of a states.cells p) i n o)
  call_formed i None e = tt
  call_formed i (Some offset) e =
      cond_both (int_le offset (pos 0)) (called_each states.lane (view_of a states.cells p) i n offset (followed image (view_of a states.cells p) i.dst)) [] ArePlacedFormed
      (λ _. each_at (λ t. callee_node states.lane i.at t n) (λ t. called states.cells p (slot_below offset) t (next_place i) a)
      (λ t. called_formed states.cells p (slot_below offset) t (next_place i) a form (slot_fits p (a.registers 4) offset (form.canonical.registers 4) e) (omega arith)) (followed image (view_of a states.cells p) i.dst)) (λ _. tt)

  instruction_formed : (o : Op) (i : Instr) → i.op ≡ o → IsInstruction i → ArePlacedFormed (instruction_successors o image settings states n i a)
  unfolding instruction_successors
  instruction_formed (op.Jcc c) i e is = branched_formed c i.dst i
  instruction_formed op.Jmp i e is = jumped_formed i
  instruction_formed op.Call i e is = call_formed i (stack_offset p a) refl
  instruction_formed op.Ret i e is = returned_formed_all (extra_of i.dst) (ret_takes i e is)
  instruction_formed op.Hlt i e is = tt
  instruction_formed op.Int3 i e is = tt
  instruction_formed op.Ud2 i e is = tt
  instruction_formed _ i e is = (post_formed image a i states.cells p form is, tt)

  -- -- All

  abbrev IsSpeltContent : Content → Type 0
  IsSpeltContent (Extern k) = Unit {0}
  IsSpeltContent (Instruction i) = IsInstruction i
  IsSpeltContent Nothing = Unit {0}

  content_spelt : HasBytes image → (at : ℕ) → IsSpeltContent (content_at image settings at)
  unfolding content_at
  content_spelt bytes at = by (kind_at image settings at) (instruction_at image at) refl
    where
      by : (k : Option Kind) (o : Option Instr) → instruction_at image at ≡ o → IsSpeltContent (content_of k o)
      by (Some k) o e = tt
      by None None e = tt
      by None (Some i) e = stands_spelt image bytes at i e

  by_content : (c : Content) → IsSpeltContent c → ArePlacedFormed (successors_by c image settings states n a)
  unfolding successors_by
  by_content (Extern k) spelt = externs_formed k
  by_content (Instruction i) spelt = instruction_formed i.op i refl spelt
  by_content Nothing spelt = tt

  pub successors_formed : HasBytes image → ArePlacedFormed (successors image settings states n a)
  unfolding successors
  successors_formed bytes = by_content (content_at image settings n.at) (content_spelt bytes n.at)
