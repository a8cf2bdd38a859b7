-- Storing into an operand, and moves: the abstract state after them stands for the machine's.
use Rattle.std.proofs.Common.{◌≡◌, ℕ, ◌^◌, ◌<◌, ◌≤◌, ◌&&◌, Bool, true, false, cond, List, [], ◌∷◌, Option, Some, None, sym, ◌∙◌, ap, subst, arith}
use Rattle.std.proofs.lemmas.Bool.{and_parts}
use Rattle.image_map.specs.declared.image.Image.{Image}
use Rattle.ia32_types.specs.declared.Mem.{Mem}
use Rattle.ia32_types.specs.declared.Width.{Width}
use Rattle.ia32_types.specs.declared.Width.TheVariants.{B8, W16, D32}
use Rattle.ia32_types.specs.declared.Operand.{Operand}
use Rattle.ia32_types.specs.declared.Operand.TheVariants as operand
use Rattle.ia32_types.specs.Numbers.{reg_number, size}
use Rattle.ia32_types.specs.Operands.{IsTarget}
use Rattle.ia32_types.proofs.NumberLemmas.{reg_number_below}
use Rattle.ia32_semantics.specs.Effects.{Effect, stores, all_changed, effects_fit, effect_fits, High as HighPart}
use Rattle.ia32_semantics.specs.Operands.{bits, part_of, number_bytes, store as store_reading, address as address_reading}
use Rattle.ia32_semantics.specs.Reading.{gives, faults, outcome, ◌>>=◌}
use Rattle.ia32_semantics.specs.State.{State}
use Rattle.alocs.specs.Cells.{Division}
use Rattle.vset.specs.Values.{Values, CanonicalValues}
use Rattle.vset.specs.Members.{HasValue}
use Rattle.abs_semantics.specs.States.{AbsState, HasCanonical}
use Rattle.abs_semantics.specs.StandsFor.{StandsFor, world_of}
use Rattle.abs_semantics.specs.Ownership.{IsKnown}
use Rattle.abs_semantics.specs.Operands.{address}
use Rattle.abs_steps.specs.Effects.{puts, saves, all_done}
use Rattle.abs_steps.specs.Rows.{view_of}
use Rattle.abs_steps.specs.Views.{store}
use Rattle.step_soundness.specs.Terms.{IsOperand, address_in}
use Rattle.step_soundness.proofs.PointerLaws.{address_has, address_form}
use Rattle.step_soundness.proofs.CoreLaws.{puts_stands}
use Rattle.step_soundness.proofs.OperandLaws.{address_outcome, registers_hold}
use Rattle.step_soundness.proofs.StoreLaws.{saves_stand}
use Rattle.step_soundness.proofs.WidthLaws.{fits_part, fits_word}

abbrev effects_in : Option (List Effect × List ℕ) → List Effect
effects_in None = []
effects_in (Some given) = given.0

module _ (image : Image) (lane : ℕ) (a : AbsState) (p : ℕ) (s : State) (d : Division) (known_ : IsKnown image lane a p s) (form : HasCanonical a) where
  memory_stands : (width : Width) (m : Mem) (gs : Bool) → gs ≡ false → (m.scale ≤ 8) × (m.disp < 4294967296) → (n : ℕ) (w : Values) → n < 2 ^ bits width → CanonicalValues w → HasValue lane (world_of s) n w
      → (words rest : List ℕ) (effects : List Effect) → outcome (cond gs faults (address_reading m >>= (λ at. gives (stores at (number_bytes (size width) n) ∷ [])))) s words ≡ Some (effects, rest)
      → effects_fit image s.memory effects ≡ true
      → StandsFor lane (all_done d image p (cond gs [] (saves (address a m) (size width) w ∷ [])) a) (all_changed effects s)
  memory_stands width m true is spelt n w lt fw has words rest effects e fits = cc
  memory_stands width m false is spelt n w lt fw has words rest effects e fits =
      let same : stores (address_in s m) (number_bytes (size width) n) ∷ [] ≡ effects = ap effects_in (sym (address_outcome m (λ at. gives (stores at (number_bytes (size width) n) ∷ [])) s words) ∙ e) in
      let fit : (effect_fits image s.memory (stores (address_in s m) (number_bytes (size width) n)) && true) ≡ true = ap (effects_fit image s.memory) same ∙ fits in
      subst (λ es. StandsFor lane (all_done d image p (saves (address a m) (size width) w ∷ []) a) (all_changed es s)) same
      (saves_stand image lane a p s d known_ form width (address_in s m) n (address a m) w
      (address_form lane (world_of s) a s (registers_hold image lane a p s d known_ form) m (omega (arith, spelt)) spelt.1) fw (omega arith) lt
      (address_has lane (world_of s) a s (registers_hold image lane a p s d known_ form) m (omega (arith, spelt)) spelt.1) has (and_parts _ _ fit).0)

  -- a number is stored into an operand
  pub store_stands : (width : Width) (o : Operand) → IsTarget width o → IsOperand o → (n : ℕ) (w : Values) → n < 2 ^ bits width → CanonicalValues w → HasValue lane (world_of s) n w
      → (words rest : List ℕ) (effects : List Effect) → outcome (store_reading width o n) s words ≡ Some (effects, rest) → effects_fit image s.memory effects ≡ true
      → StandsFor lane (all_done d image p (store (view_of a d p) width o w) a) (all_changed effects s)
  unfolding store store_reading
  store_stands width (operand.Reg r) target spelt n w lt fw has words rest effects e fits =
      subst (λ es. StandsFor lane (all_done d image p (puts (part_of width) (reg_number r) w ∷ []) a) (all_changed es s)) (ap effects_in e)
      (puts_stands lane d image p a s known_.stands (part_of width) (reg_number r) n w (form.registers (reg_number r)) (reg_number_below r)
      (known_.whole.laid_out.sized.registers (reg_number r)) (fits_part width n lt) (fits_word width n lt) has)
  store_stands B8 (operand.High r) target spelt n w lt fw has words rest effects e fits =
      subst (λ es. StandsFor lane (all_done d image p (puts HighPart (reg_number r) w ∷ []) a) (all_changed es s)) (ap effects_in e)
      (puts_stands lane d image p a s known_.stands HighPart (reg_number r) n w (form.registers (reg_number r)) (reg_number_below r)
      (known_.whole.laid_out.sized.registers (reg_number r)) lt (omega (arith, lt)) has)
  store_stands W16 (operand.High r) target spelt n w lt fw has words rest effects e fits = absurd target
  store_stands D32 (operand.High r) target spelt n w lt fw has words rest effects e fits = absurd target
  store_stands width (operand.Imm k) target spelt n w lt fw has words rest effects e fits = absurd target
  store_stands width (operand.Mem m) target spelt n w lt fw has words rest effects e fits = memory_stands width m m.gs target.1 spelt n w lt fw has words rest effects e fits
