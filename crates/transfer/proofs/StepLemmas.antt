-- What lists of effects leave of a state, where operands lie, and flags as sets.
use Rattle.std.proofs.Common.{◌≡◌, ℕ, Bool, true, false, List, [], ◌∷◌, ◌++◌, refl, sym, ◌∙◌, ap}
use Rattle.std.specs.Prelude.{if◌then◌else◌, Option, Some, None}
use Rattle.ia32_types.specs.declared.Width.{Width}
use Rattle.ia32_types.specs.declared.Operand.{Operand}
use Rattle.ia32_types.specs.declared.Operand.TheVariants as operand
use Rattle.ia32_types.specs.Numbers.{size}
use Rattle.vset.specs.declared.facts.AbsFlags.{AbsFlags}
use Rattle.vset.specs.declared.facts.CmpPlace.{CmpPlace}
use Rattle.vset.specs.Values.{Values}
use Rattle.ia32_types.specs.Sets.{flag_set}
use Rattle.abs_semantics.specs.States.{AbsState}
use Rattle.abs_semantics.specs.Operands.{address}
use Rattle.abs_steps.specs.Effects.{AbsEffect, saves, done}
use Rattle.abs_alu.specs.Results.{flags}
use Rattle.abs_steps.specs.Flags.{allows, sets_of, may_hold, even_condition}
use Rattle.abs_steps.specs.Results.{truth_of, chosen_by}
use Rattle.abs_steps.specs.Views.{store, store_to}
use Rattle.abs_steps.specs.Rows.{learned, flag_effects}
use Rattle.abs_state.specs.declared.writes.Memory.{Memory}
use Rattle.abs_state.specs.Views.{flag_in}
use Rattle.ia32_types.specs.declared.Instr.{Instr}
use Rattle.ia32_semantics.specs.Operands.{bits}
use Rattle.transfer.specs.declared.stores.Target.{Target}
use Rattle.transfer.specs.declared.stores.Place.TheVariants.{Nowhere, Bytes}
use Rattle.transfer.specs.Steps.{view_in, after, operand_place, stored_in, turned}

-- -- Lists of effects

pub after_both : (m : Memory) (xs ys : List AbsEffect) (a : AbsState) → after m (xs ++ ys) a ≡ after m ys (after m xs a)
after_both m [] ys a = refl
after_both m (x ∷ xs) ys a = after_both m xs ys (done m.cells.now m.image.now m.procedure x a)

pub both_done : (m : Memory) (xs xs' ys ys' : List AbsEffect) (a b c : AbsState) → xs' ≡ xs → b ≡ after m xs' a → ys' ≡ ys → c ≡ after m ys' b → c ≡ after m (xs ++ ys) a
both_done m xs xs' ys ys' a b c one first other second =
    second ∙ (λ k. after m (other k) ((first ∙ ap (λ (es : List AbsEffect). after m es a) one) k)) ∙ sym (after_both m xs ys a)

-- -- Stores

written_unless : (gs : Bool) (at : Values) (w : Width) (v : Values) → stored_in (if gs then Nowhere else Bytes at) w v ≡ (if gs then [] else saves at (size w) v ∷ [])
written_unless true at w v = refl
written_unless false at w v = refl

pub stored_is : (m : Memory) (a : AbsState) (o : Option Operand) (w : Width) (v : Values) → stored_in (operand_place a o) w v ≡ store_to (view_in m a) w o v
unfolding store_to store
stored_is m a None w v = refl
stored_is m a (Some (operand.Reg r)) w v = refl
stored_is m a (Some (operand.High r)) w v = refl
stored_is m a (Some (operand.Imm n)) w v = refl
stored_is m a (Some (operand.Mem x)) w v = written_unless x.gs (address a x) w v

-- a value stored into one operand, and then one where another lay
pub stored_twice : (m : Memory) (s b : AbsState) (w : Width) (first second : Option Operand) (x x' y y' : Values) (t : Target)
    → t ≡ record { width = w; place = operand_place s second } → x' ≡ x → y' ≡ y → b ≡ after m (store_to (view_in m s) w first x') s
    → after m (stored_in t.place t.width y') b ≡ after m (store_to (view_in m s) w first x ++ store_to (view_in m s) w second y) s
stored_twice m s b w first second x x' y y' t target one other before =
    (λ i. after m (((λ j. stored_in (target j).place (target j).width (other j)) ∙ stored_is m s second w y) i)
    ((before ∙ ap (λ (v : Values). after m (store_to (view_in m s) w first v) s) one) i))
    ∙ sym (after_both m (store_to (view_in m s) w first x) (store_to (view_in m s) w second y) s)

-- what an operation gives stored into the first operand, and then its flags
pub operation_done : (m : Memory) (i : Instr) (s b c : AbsState) (r r' x y count : Values) (f : AbsFlags)
    → r' ≡ r → b ≡ after m (store_to (view_in m s) i.width i.dst r') s → count ≡ y → f ≡ flags (bits i.width) i.op x y (sets_of s.flags)
    → c ≡ after m (turned i count f) b → c ≡ after m (store_to (view_in m s) i.width i.dst r ++ flag_effects (view_in m s) (bits i.width) i.op x y) s
operation_done m i s b c r r' x y count f value before same told turned_is =
    turned_is
    ∙ (λ k. after m (turned i (same k) (told k)) ((before ∙ ap (λ (v : Values). after m (store_to (view_in m s) i.width i.dst v) s) value) k))
    ∙ sym (after_both m (store_to (view_in m s) i.width i.dst r) (flag_effects (view_in m s) (bits i.width) i.op x y) s)

-- -- Flags

pub truth_told : (c : ℕ) (f : AbsFlags) → truth_of c (flag_in f) ≡ truth_of c (allows f)
unfolding truth_of may_hold even_condition
truth_told c f = refl

pub choice_told : (c : ℕ) (f : AbsFlags) (x y : Values) → chosen_by c (flag_in f) x y ≡ chosen_by c (allows f) x y
unfolding chosen_by may_hold even_condition
choice_told c f x y = refl

pub sets_seen : (f : AbsFlags) → sets_of (flag_in f) ≡ sets_of (allows f)
unfolding flag_set
sets_seen f = refl

pub nothing_learned : (p : Option CmpPlace) → learned p None ≡ []
nothing_learned None = refl
nothing_learned (Some p) = refl
