use Rattle.std.proofs.Common.{sym, subst, ap}
use Rattle.ia32_machine.specs.Machines.{state_of}
use Rattle.ia32_run.specs.Acts.{act_of}
use Rattle.ia32_run.specs.Steps.{IsDone, CantBeDone}
use Rattle.ia32_run.proofs.RangeLemmas.{if_ok, executed_is_done, fault_cant}
use Rattle.ia32_run.proofs.stepping.perform_act.Goals as goal

pub returns-in-Executes-clause-done : goal.returns-in-Executes-clause-done
returns-in-Executes-clause-done c = λ image whole runs.
    if_ok c.step.result _ _
    (λ out e. subst (λ a. IsDone image a c.args.words.now out (state_of c.args.machine.now) (state_of c.step.new.self)) (sym (ap (act_of c.args.machine.now.core.eip) c.in-Executes.is))
    (executed_is_done image c.in-Executes.i c.args.words.now out (state_of c.args.machine.now) (state_of c.step.new.self) e))
    (c.step.ensures.executed image whole runs)

pub returns-in-Executes-clause-fault : goal.returns-in-Executes-clause-fault
returns-in-Executes-clause-fault c = λ image whole runs same.
    subst (λ a. CantBeDone image a c.args.words.now (state_of c.args.machine.now)) (sym (ap (act_of c.args.machine.now.core.eip) c.in-Executes.is))
    (fault_cant image c.in-Executes.i c.args.words.now (state_of c.args.machine.now) c.told-words (c.step.ensures.fault image runs same))

pub returns-in-Answers-clause-fault : goal.returns-in-Answers-clause-fault
returns-in-Answers-clause-fault c = λ image whole runs same.
    subst (λ a. CantBeDone image a c.args.words.now (state_of c.args.machine.now)) (sym (ap (act_of c.args.machine.now.core.eip) c.in-Answers.is)) (c.answer.ensures.fault image whole runs same)
