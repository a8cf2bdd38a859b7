-- The names that are put one after the other are those that the definition keeps.
use Rattle.std.proofs.Common.{◌≡◌, Bool, true, false, cond, not, ◌&&◌, ◌||◌, List, [], ◌∷◌, ◌++◌, refl, sym, ◌∙◌, ap, append_assoc, append-nil}
use Rattle.std.specs.Prelude.{map, filter}
use Rattle.std.specs.List.{list_any}
use Rattle.image_map.specs.declared.image.Image.{Image}
use Rattle.image_map.specs.declared.region.Kind.{Kind}
use Rattle.ia32_types.specs.declared.Instr.{Instr}
use Rattle.abs_semantics.specs.declared.parts.Reason.{Reason}
use Rattle.abs_semantics.specs.declared.parts.Reason.TheVariants as reason
use Rattle.abs_semantics.specs.Resolve.{same_reason}
use Rattle.abs_steps.specs.declared.accesses.Access.{Access}
use Rattle.abs_steps.specs.declared.warnings.WarnName.{WarnName}
use Rattle.abs_steps.specs.declared.warnings.WarnName.TheVariants as name
use Rattle.abs_steps.specs.Views.{View}
use Rattle.abs_steps.specs.Places.{Extern, Instruction, Nothing}
use Rattle.abs_steps.specs.Successors.{is_call}
use Rattle.abs_steps.specs.Accesses.{writes, extern_writes}
use Rattle.abs_steps.specs.Warnings.{has_warning, instruction_warns, extern_warns, has_unresolved, loses_stack, extern_loses_stack, is_unknown, has_reason, writes_slot, writes_slot_in, names, warnings}
use Rattle.transfer_flow.specs.Written.{Met, met, with_reason, with_slot}
use Rattle.transfer_flow.specs.Names.{only, with_reasons}

pub any_map : {A B : Type 0} (p : B → Bool) (f : A → B) (xs : List A) → list_any p (map f xs) ≡ list_any (λ x. p (f x)) xs
any_map p f [] = refl
any_map p f (x ∷ xs) = ap (λ t. p (f x) || t) (any_map p f xs)

pub reason_met : (r : Reason) (v : View) (xs : List Access) → with_reason r (map (met v) xs) ≡ has_reason r v xs
reason_met r v xs = any_map (λ (m : Met). list_any (same_reason r) m.places.reasons) (met v) xs

pub slot_met : (v : View) (xs : List Access) → with_slot (map (met v) xs) ≡ writes_slot v xs
slot_met v xs = any_map (λ (m : Met). writes_slot_in m.places.entries m.len) (met v) xs

-- each name behind those that are kept of the ones before it
abbrev added : (WarnName → Bool) → List WarnName → List WarnName → List WarnName
added p [] out = out
added p (x ∷ xs) out = added p xs (out ++ only (p x) x)

kept : (b : Bool) (x : WarnName) (xs out : List WarnName) → out ++ cond b (x ∷ xs) xs ≡ (out ++ only b x) ++ xs
kept true x xs out = sym (append_assoc out (x ∷ []) xs)
kept false x xs out = ap (λ t. t ++ xs) (sym (append-nil out))

all_kept : (p : WarnName → Bool) (xs out : List WarnName) → out ++ filter p xs ≡ added p xs out
all_kept p [] out = append-nil out
all_kept p (x ∷ xs) out = kept (p x) x (filter p xs) out ∙ all_kept p xs (out ++ only (p x) x)

-- the names of an instruction
pub instruction_names : (image : Image) (v : View) (i : Instr) (u s l : Bool) (ms : List Met) → u ≡ has_unresolved i.op image v i.dst → ms ≡ map (met v) (writes i.op v.state i)
    → s ≡ (not (is_call i.op) && with_slot ms) → l ≡ loses_stack i.op v i.dst
    → (with_reasons ([] ++ only u name.UnresolvedJump) ms ++ only s name.ReturnSlot) ++ only l name.StackLost ≡ warnings (Instruction i) image v
unfolding warnings has_warning instruction_warns
instruction_names image v i u s l ms unresolved written slot lost =
    let xs = writes i.op v.state i in
    (λ k. (with_reasons ([] ++ only (unresolved k) name.UnresolvedJump) (written k) ++ only ((slot ∙ ap (λ n. not (is_call i.op) && with_slot n) written) k) name.ReturnSlot) ++ only (lost k) name.StackLost)
    ∙ (λ k. ((([] ++ only (has_unresolved i.op image v i.dst) name.UnresolvedJump ++ only (reason_met reason.UnknownWrite v xs k) name.UnknownWrite ++ only (reason_met reason.OutOfRegion v xs k) name.OutOfRegion
    ++ only (reason_met reason.HeapOverrun v xs k) name.HeapOverrun) ++ only (not (is_call i.op) && slot_met v xs k) name.ReturnSlot) ++ only (loses_stack i.op v i.dst) name.StackLost))
    ∙ sym (append-nil _)
    ∙ sym (all_kept (has_warning (Instruction i) image v) names [])

pub extern_names : (image : Image) (v : View) (k : Kind) (s l u : Bool) (ms : List Met) → ms ≡ map (met v) (extern_writes v k) → s ≡ with_slot ms → l ≡ extern_loses_stack k v → u ≡ is_unknown k
    → ((with_reasons [] ms ++ only s name.ReturnSlot) ++ only l name.StackLost) ++ only u name.UnknownExtern ≡ warnings (Extern k) image v
unfolding warnings has_warning extern_warns
extern_names image v k s l u ms written slot lost unknown =
    let xs = extern_writes v k in
    (λ j. ((with_reasons [] (written j) ++ only ((slot ∙ ap with_slot written) j) name.ReturnSlot) ++ only (lost j) name.StackLost) ++ only (unknown j) name.UnknownExtern)
    ∙ (λ j. ((([] ++ only (reason_met reason.UnknownWrite v xs j) name.UnknownWrite ++ only (reason_met reason.OutOfRegion v xs j) name.OutOfRegion
    ++ only (reason_met reason.HeapOverrun v xs j) name.HeapOverrun) ++ only (slot_met v xs j) name.ReturnSlot) ++ only (extern_loses_stack k v) name.StackLost) ++ only (is_unknown k) name.UnknownExtern)
    ∙ sym (all_kept (has_warning (Extern k) image v) names [])

-- nothing stands at the place
pub nothing_warns : (image : Image) (v : View) → name.Undecoded ∷ [] ≡ warnings Nothing image v
unfolding warnings has_warning
nothing_warns image v = refl
