-- The machine of the 32-bit Intel architecture is as the argument asks of a machine.
use Rattle.std.proofs.Common.{◌≡◌, refl, subst}
use Rattle.std.specs.Prelude.{true, false, Option}
use Rattle.std.proofs.lemmas.Bool.{false≢true}
use Rattle.ia32_types.specs.declared.Op.{Op}
use Rattle.ia32_types.specs.declared.Op.TheVariants as op
use Rattle.ia32_types.specs.declared.Operand.{Operand}
use Rattle.ia32_semantics.specs.Machine.{Occurrence}
use Rattle.ia32_semantics.specs.Step.{Act, Executes, Answers, IsActAt, operation_completes, act_completes, is_branch_operation, is_branch}
use Rattle.ia32_semantics.specs.CallModel.{entry_activation}
use Rattle.ia32_semantics.proofs.ActLaws.{acts_are}
use Rattle.slice_soundness.specs.Laws.{ArchitectureMeetsLaws}

-- -- A branch goes on

operation_goes_on : (operation : Op) (target : Option Operand) (o : Occurrence Act) → is_branch_operation operation target ≡ true → operation_completes operation o ≡ false
operation_goes_on op.Ret target o branch = absurd (false≢true branch)
operation_goes_on op.Hlt target o branch = absurd (false≢true branch)
operation_goes_on _ target o branch = refl

act_goes_on : (act : Act) (o : Occurrence Act) → is_branch act ≡ true → act_completes act o ≡ false
act_goes_on (Executes i) o branch = operation_goes_on i.op i.dst o branch
act_goes_on (Answers at k) o branch = absurd (false≢true branch)

pub architecture_meets_laws : ArchitectureMeetsLaws
architecture_meets_laws image settings is = record {
  starts_at = λ s start. start.eip;
  starts_in = λ s start. (entry_activation settings s.slot, start.activations, refl);
  one_act = λ o p one two same.
      acts_are image settings p.before.eip o.act p.act is (subst (λ a. IsActAt image settings a o.act) same one.act) two.act;
  goes_on = λ o happens branch. act_goes_on o.act o branch;
}
