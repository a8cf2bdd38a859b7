use Rattle.std.proofs.Common.{sym, subst, arith}
use Rattle.image_map.specs.declared.region.Kind.{Kind}
use Rattle.ia32_semantics.specs.Step.{Answers}
use Rattle.ia32_machine.specs.Machines.{state_of}
use Rattle.ia32_run.specs.Steps.{IsDone, CantBeDone}
use Rattle.ia32_run.proofs.StopLemmas.{stop_is_done, unknown_cant}
use Rattle.ia32_run.proofs.externs.answer.Goals as goal

pub returns-in-Pure-clause-fault : goal.returns-in-Pure-clause-fault
returns-in-Pure-clause-fault c = λ image whole runs same.
    subst (λ (k : Kind). CantBeDone image (Answers c.args.machine.now.core.eip k) c.args.words.now (state_of c.args.machine.now)) (sym c.in-Pure.is) (c.answer_plain.ensures.fault image c.args.machine.now.core.eip runs same)

pub returns-in-Reader-clause-fault : goal.returns-in-Reader-clause-fault
returns-in-Reader-clause-fault c = λ image whole runs same.
    subst (λ (k : Kind). CantBeDone image (Answers c.args.machine.now.core.eip k) c.args.words.now (state_of c.args.machine.now)) (sym c.in-Reader.is) (c.answer_plain-in-Reader.ensures.fault image c.args.machine.now.core.eip runs same)

pub returns-in-Alloc-clause-fault : goal.returns-in-Alloc-clause-fault
returns-in-Alloc-clause-fault c = λ image whole runs same.
    subst (λ (k : Kind). CantBeDone image (Answers c.args.machine.now.core.eip k) c.args.words.now (state_of c.args.machine.now)) (sym c.in-Alloc.is) (c.answer_alloc.ensures.fault image whole runs same)

pub returns-in-Stop-clause-done : goal.returns-in-Stop-clause-done
returns-in-Stop-clause-done c = λ image whole runs.
    subst (λ (k : Kind). IsDone image (Answers c.args.machine.now.core.eip k) c.args.words.now c.told_nothing.result (state_of c.args.machine.now) (state_of c.args.machine.now)) (sym c.in-Stop.is)
    (stop_is_done image c.args.words.now c.told_nothing.result (state_of c.args.machine.now) (omega arith) c.told_nothing.ensures)

pub returns-in-Unknown-clause-fault : goal.returns-in-Unknown-clause-fault
returns-in-Unknown-clause-fault c = λ image whole runs same.
    subst (λ (k : Kind). CantBeDone image (Answers c.args.machine.now.core.eip k) c.args.words.now (state_of c.args.machine.now)) (sym c.in-Unknown.is) (unknown_cant image c.args.machine.now.core.eip c.args.words.now (state_of c.args.machine.now))

pub returns-in-Fills-clause-fault : goal.returns-in-Fills-clause-fault
returns-in-Fills-clause-fault c = λ image whole runs same.
    subst (λ (k : Kind). CantBeDone image (Answers c.args.machine.now.core.eip k) c.args.words.now (state_of c.args.machine.now)) (sym c.in-Fills.is) (c.answer_fills.ensures.fault image c.args.machine.now.core.eip whole runs same)
