-- What it means for the accesses of an instruction that no warning stands there.
use Rattle.std.proofs.Common.{◌≡◌, ℕ, ◌&&◌, Bool, true, false, not, cond, List, [], ◌∷◌, Option, Some, None, refl, sym, ◌∙◌, ap}
use Rattle.std.specs.Prelude.{filter}
use Rattle.std.specs.List.{list_any}
use Rattle.std.proofs.lemmas.Bool.{true≢false}
use Rattle.image_map.specs.declared.image.Image.{Image}
use Rattle.ia32_types.specs.declared.Instr.{Instr}
use Rattle.ia32_semantics.proofs.EffectLemmas.{or_false_left, or_false_right}
use Rattle.alocs.specs.Cells.{Division}
use Rattle.abs_semantics.specs.declared.parts.Reason.{Reason}
use Rattle.abs_semantics.specs.declared.parts.Reason.TheVariants as reason
use Rattle.abs_semantics.specs.Resolve.{same_reason}
use Rattle.abs_semantics.specs.States.{AbsState}
use Rattle.abs_steps.specs.declared.accesses.Access.{Access}
use Rattle.abs_steps.specs.declared.warnings.WarnName.{WarnName}
use Rattle.abs_steps.specs.declared.warnings.WarnName.TheVariants as name
use Rattle.abs_steps.specs.Accesses.{writes}
use Rattle.abs_steps.specs.Places.{Content, Instruction}
use Rattle.abs_steps.specs.Rows.{view_of}
use Rattle.abs_steps.specs.Successors.{is_call}
use Rattle.abs_steps.specs.Views.{View}
use Rattle.abs_steps.specs.Warnings.{resolved_to, has_reason, writes_slot_in, writes_slot, loses_stack, has_unresolved, instruction_warns, has_warning, names, warnings}
use Rattle.step_soundness.proofs.WriteLaws.{IsQuiet, AreQuiet}

-- a test that picks none of a list fails on each
none_first : {A : Type 0} (test : A → Bool) (x : A) (xs : List A) → filter test (x ∷ xs) ≡ [] → (test x ≡ false) × (filter test xs ≡ [])
none_first test x xs e = by (test x) refl e
  where
    by : (b : Bool) → test x ≡ b → cond b (x ∷ filter test xs) (filter test xs) ≡ [] → (test x ≡ false) × (filter test xs ≡ [])
    by true f e = cc
    by false f e = (f, e)

-- none of the eight warnings
pub record AreNone (test : WarnName → Bool) : Type 0 where
  pub unresolved : test name.UnresolvedJump ≡ false
  pub unknown : test name.UnknownWrite ≡ false
  pub out_of : test name.OutOfRegion ≡ false
  pub overrun : test name.HeapOverrun ≡ false
  pub slot : test name.ReturnSlot ≡ false
  pub stack : test name.StackLost ≡ false
  pub extern : test name.UnknownExtern ≡ false

are_none : (test : WarnName → Bool) → filter test names ≡ [] → AreNone test
are_none test e =
    let a = none_first test name.Undecoded (name.UnresolvedJump ∷ name.UnknownWrite ∷ name.OutOfRegion ∷ name.HeapOverrun ∷ name.ReturnSlot ∷ name.StackLost ∷ name.UnknownExtern ∷ []) e in
    let b = none_first test name.UnresolvedJump (name.UnknownWrite ∷ name.OutOfRegion ∷ name.HeapOverrun ∷ name.ReturnSlot ∷ name.StackLost ∷ name.UnknownExtern ∷ []) a.1 in
    let c = none_first test name.UnknownWrite (name.OutOfRegion ∷ name.HeapOverrun ∷ name.ReturnSlot ∷ name.StackLost ∷ name.UnknownExtern ∷ []) b.1 in
    let f = none_first test name.OutOfRegion (name.HeapOverrun ∷ name.ReturnSlot ∷ name.StackLost ∷ name.UnknownExtern ∷ []) c.1 in
    let g = none_first test name.HeapOverrun (name.ReturnSlot ∷ name.StackLost ∷ name.UnknownExtern ∷ []) f.1 in
    let h = none_first test name.ReturnSlot (name.StackLost ∷ name.UnknownExtern ∷ []) g.1 in
    let k = none_first test name.StackLost (name.UnknownExtern ∷ []) h.1 in
    let l = none_first test name.UnknownExtern [] k.1 in
    record { unresolved = b.0; unknown = c.0; out_of = f.0; overrun = g.0; slot = h.0; stack = k.0; extern = l.0 }

pub no_warnings : (content : Content) (image : Image) (v : View) → warnings content image v ≡ [] → AreNone (has_warning content image v)
unfolding warnings
no_warnings content image v e = are_none (has_warning content image v) e

-- no reason is left
pub no_reasons : (rs : List Reason) → list_any (same_reason reason.UnknownWrite) rs ≡ false → list_any (same_reason reason.OutOfRegion) rs ≡ false → list_any (same_reason reason.HeapOverrun) rs ≡ false → rs ≡ []
no_reasons [] e f g = refl
no_reasons (reason.UnknownWrite ∷ rs) e f g = absurd (true≢false e)
no_reasons (reason.OutOfRegion ∷ rs) e f g = absurd (true≢false f)
no_reasons (reason.HeapOverrun ∷ rs) e f g = absurd (true≢false g)

module _ (a : AbsState) (d : Division) (p : ℕ) where
  one_quiet : (x : Access) (l : Option ℕ) → list_any (same_reason reason.UnknownWrite) (resolved_to a p x l).reasons ≡ false → list_any (same_reason reason.OutOfRegion) (resolved_to a p x l).reasons ≡ false
      → list_any (same_reason reason.HeapOverrun) (resolved_to a p x l).reasons ≡ false → writes_slot_in (resolved_to a p x l).entries l ≡ false → IsQuiet a p x.addr l
  one_quiet x None e f g h = true≢false e
  one_quiet x (Some len) e f g h = (no_reasons _ e f g, h)

  pub writes_quiet : (xs : List Access) → has_reason reason.UnknownWrite (view_of a d p) xs ≡ false → has_reason reason.OutOfRegion (view_of a d p) xs ≡ false → has_reason reason.HeapOverrun (view_of a d p) xs ≡ false
      → writes_slot (view_of a d p) xs ≡ false → AreQuiet a p xs
  writes_quiet [] e f g h = tt
  writes_quiet (x ∷ xs) e f g h = (
    one_quiet x x.len (or_false_left _ _ e) (or_false_left _ _ f) (or_false_left _ _ g) (or_false_left _ _ h),
    writes_quiet xs (or_false_right _ _ e) (or_false_right _ _ f) (or_false_right _ _ g) (or_false_right _ _ h),
  )

  module _ (image : Image) (i : Instr) (none : warnings (Instruction i) image (view_of a d p) ≡ []) where
    ours : AreNone (has_warning (Instruction i) image (view_of a d p))
    ours = no_warnings (Instruction i) image (view_of a d p) none

    -- the writes of an instruction that is no call
    pub instruction_quiet : is_call i.op ≡ false → AreQuiet a p (writes i.op a i)
    unfolding has_warning instruction_warns
    instruction_quiet other =
        writes_quiet (writes i.op a i) ours.unknown ours.out_of ours.overrun
        (sym (ap (λ b. not b && writes_slot (view_of a d p) (writes i.op a i)) other) ∙ ours.slot)

    pub stack_kept : loses_stack i.op (view_of a d p) i.dst ≡ false
    unfolding has_warning instruction_warns
    stack_kept = ours.stack

    pub target_known : has_unresolved i.op image (view_of a d p) i.dst ≡ false
    unfolding has_warning instruction_warns
    target_known = ours.unresolved
