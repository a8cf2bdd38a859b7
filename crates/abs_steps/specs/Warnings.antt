-- What can't be followed at a node. The rules are the project's own.
use Rattle.std.specs.Prelude.{ℕ, ◌&&◌, ◌||◌, not, Bool, true, false, ℤ, pos, int_lt, List, [], ◌∷◌, filter, Option, Some, None, is_some}
use Rattle.std.specs.List.{list_any, list_all}
use Rattle.image_map.specs.declared.image.Image.{Image}
use Rattle.image_map.specs.declared.region.Cell.{Cell}
use Rattle.image_map.specs.declared.region.Kind.{Kind}
use Rattle.image_map.specs.declared.region.Kind.TheVariants as kind
use Rattle.image_map.specs.declared.region.RegionId.{RegionId}
use Rattle.image_map.specs.declared.region.RegionId.TheVariants.{Frame, OldFrame}
use Rattle.ia32_types.specs.declared.Operand.{Operand}
use Rattle.ia32_types.specs.declared.Op.{Op}
use Rattle.ia32_types.specs.declared.Op.TheVariants as op
use Rattle.ia32_types.specs.declared.Instr.{Instr}
use Rattle.vset.specs.declared.part.Part.{Part}
use Rattle.abs_semantics.specs.declared.parts.Reason.{Reason}
use Rattle.abs_semantics.specs.declared.parts.Reason.TheVariants as reason
use Rattle.abs_semantics.specs.States.{AbsState}
use Rattle.abs_semantics.specs.Resolve.{Resolved, resolve, same_reason}
use Rattle.abs_semantics.specs.Touching.{touches_slot}
use Rattle.abs_steps.specs.declared.accesses.Access.{Access}
use Rattle.abs_steps.specs.declared.warnings.WarnName.{WarnName}
use Rattle.abs_steps.specs.declared.warnings.WarnName.TheVariants as name
use Rattle.abs_steps.specs.Views.{View}
use Rattle.abs_steps.specs.Accesses.{writes, extern_writes}
use Rattle.abs_steps.specs.Places.{Content, Extern, Instruction, Nothing, is_place, is_indirect, known_targets}
use Rattle.abs_steps.specs.Successors.{frame_offset, stack_offset, is_at_slot, takes_too_much, extra_of, is_call}

-- -- What is written

-- an access whose length isn't known may be anywhere
abbrev pub resolved_to : AbsState → ℕ → Access → Option ℕ → Resolved
resolved_to a p x None = record { entries = []; reasons = reason.UnknownWrite ∷ [] }
resolved_to a p x (Some len) = resolve a p x.addr len

abbrev pub resolved : View → Access → Resolved
resolved v x = resolved_to v.state v.procedure x x.len

abbrev pub has_reason : Reason → View → List Access → Bool
has_reason r v xs = list_any (λ (x : Access). list_any (same_reason r) (resolved v x).reasons) xs

-- -- Return slots

abbrev pub writes_slot_in : List Part → Option ℕ → Bool
writes_slot_in xs None = false
writes_slot_in xs (Some len) = list_any (touches_slot len) xs

abbrev pub writes_slot : View → List Access → Bool
writes_slot v xs = list_any (λ (x : Access). writes_slot_in (resolved v x).entries x.len) xs

-- -- The stack pointer

abbrev pub is_above : Option ℤ → Bool
is_above None = true
is_above (Some offset) = int_lt (pos 0) offset

-- the stack pointer, or the frame pointer at leave, isn't where the instruction needs it
unfoldable pub loses_stack : Op → View → Option Operand → Bool
loses_stack op.Push v o = not (is_some (stack_offset v.procedure v.state))
loses_stack op.Pop v o = not (is_some (stack_offset v.procedure v.state))
loses_stack op.Leave v o = not (is_some (frame_offset v.procedure (v.state.registers 5)))
loses_stack op.Call v o = is_above (stack_offset v.procedure v.state)
loses_stack op.Ret v o = not (is_at_slot v.procedure v.state) || takes_too_much v.procedure (extra_of o) v.state
loses_stack _ v o = false

unfoldable pub extern_loses_stack : Kind → View → Bool
extern_loses_stack kind.Stop v = false
extern_loses_stack _ v = not (is_at_slot v.procedure v.state)

-- -- Jumps and calls

abbrev pub are_places : Image → Option (List ℕ) → Bool
are_places image None = false
are_places image (Some []) = false
are_places image (Some (t ∷ ts)) = list_all (is_place image) (t ∷ ts)

-- an indirect target isn't known, has no value, or may be no place
abbrev pub is_unresolved : Image → View → Option Operand → Bool
is_unresolved image v o = is_indirect o && not (are_places image (known_targets v o))

unfoldable pub has_unresolved : Op → Image → View → Option Operand → Bool
has_unresolved op.Jmp image v o = is_unresolved image v o
has_unresolved op.Call image v o = is_unresolved image v o
has_unresolved _ image v o = false

-- -- By name

abbrev pub is_unknown : Kind → Bool
is_unknown kind.Unknown = true
is_unknown _ = false

-- of the memory that is written
abbrev pub warns_of_writes : WarnName → View → List Access → Bool
warns_of_writes name.UnknownWrite v xs = has_reason reason.UnknownWrite v xs
warns_of_writes name.OutOfRegion v xs = has_reason reason.OutOfRegion v xs
warns_of_writes name.HeapOverrun v xs = has_reason reason.HeapOverrun v xs
warns_of_writes name.ReturnSlot v xs = writes_slot v xs
warns_of_writes _ v xs = false

unfoldable pub instruction_warns : WarnName → Image → View → Instr → Bool
instruction_warns name.UnresolvedJump image v i = has_unresolved i.op image v i.dst
instruction_warns name.ReturnSlot image v i = not (is_call i.op) && writes_slot v (writes i.op v.state i)
instruction_warns name.StackLost image v i = loses_stack i.op v i.dst
instruction_warns other image v i = warns_of_writes other v (writes i.op v.state i)

unfoldable pub extern_warns : WarnName → View → Kind → Bool
extern_warns name.StackLost v k = extern_loses_stack k v
extern_warns name.UnknownExtern v k = is_unknown k
extern_warns other v k = warns_of_writes other v (extern_writes v k)

abbrev pub is_undecoded : WarnName → Bool
is_undecoded name.Undecoded = true
is_undecoded _ = false

unfoldable pub has_warning : Content → Image → View → WarnName → Bool
has_warning (Extern k) image v other = extern_warns other v k
has_warning (Instruction i) image v other = instruction_warns other image v i
has_warning Nothing image v other = is_undecoded other

-- those that a node may have, in their order
abbrev pub names : List WarnName
names =
    name.Undecoded ∷ name.UnresolvedJump ∷ name.UnknownWrite ∷ name.OutOfRegion ∷ name.HeapOverrun ∷ name.ReturnSlot ∷ name.StackLost
    ∷ name.UnknownExtern ∷ []

-- what can't be followed at a node where this stands
unfoldable pub warnings : Content → Image → View → List WarnName
warnings content image v = filter (has_warning content image v) names
