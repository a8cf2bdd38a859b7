use Rattle.std.proofs.Common.{◌≡◌, List, length, refl, sym, ◌∙◌, ap}
use Rattle.std.specs.Prelude.{◌↔◌, IsTrue}
use Rattle.vset.specs.Values.{Values}
use Rattle.vset.specs.Operations.{same_values}
use Rattle.vset.proofs.SameLemmas.{same_values-equal, equal-same_values}
use Rattle.cell_map.specs.Lists.{same_lists}
use Rattle.cell_map.proofs.SameLemmas.{same_lists-equal, equal-same_lists}
use Rattle.abs_state.specs.Registers.{register_in}
use Rattle.abs_state.proofs.RegisterLemmas.{same_registers}
use Rattle.abs_state.proofs.registers.Registers.equals.Goals as goal

pub returns-clause-list : goal.returns-clause-list
returns-clause-list c =
    let told = c.are_same.ensures ∙ ap (λ xs. same_lists same_values xs c.values-2.result.now) c.values.ensures.value ∙ ap (same_lists same_values c.args.self.now) c.values-2.ensures.value in (
      (λ h. same_lists-equal same_values same_values-equal c.args.self.now c.args.other.now (sym told ∙ h)),
      (λ h. told ∙ equal-same_lists same_values (λ x. equal-same_values x x refl) c.args.self.now c.args.other.now h),
    )

pub returns-clause-values : goal.returns-clause-values
returns-clause-values c =
    let xs = c.args.self.now in
    let ys = c.args.other.now in
    let told : IsTrue c.are_same.result ↔ (xs ≡ ys) = returns-clause-list c in
    let some : length xs ≡ 8 = sym (ap length c.values.ensures.value) ∙ c.values.ensures.eight in
    let others : length ys ≡ 8 = sym (ap length c.values-2.ensures.value) ∙ c.values-2.ensures.eight in (
      (λ h. ap (λ (vs : List Values). register_in vs) (told.0 h)),
      (λ h. told.1 (same_registers xs ys some others h)),
    )
