use Rattle.std.proofs.Common.{◌∙◌, ap, sym, List, [], ℕ}
use Rattle.ia32_semantics.specs.Rows.{row}
use Rattle.ia32_plan.specs.declared.words.Reads.{Reads}
use Rattle.ia32_plan.specs.Plans.{outcome_of}
use Rattle.ia32_plan.specs.Told.{told}
use Rattle.ia32_plan.specs.Views.{state_of, words_left, addresses_read}
use Rattle.ia32_plan.proofs.ReadLemmas.{plan_outcome, plan_reads}
use Rattle.ia32_plan.proofs.rows.plan.Goals as goal

pub returns-clause-outcome : goal.returns-clause-outcome
returns-clause-outcome c =
    plan_outcome (row c.args.i.now.op c.args.i.now) (state_of c.args.core.now) (words_left c.args.words.now) (addresses_read c.forget_reads.new.self.reads)
    outcome_of c.row.result c.row.new.words
    (ap (λ (ws : List ℕ). told (row c.args.i.now.op c.args.i.now) (state_of c.args.core.now) ws (addresses_read c.forget_reads.new.self.reads)) (sym c.forget_reads.ensures.words)
    ∙ c.row.ensures)

pub returns-clause-reads : goal.returns-clause-reads
returns-clause-reads c =
    plan_reads (row c.args.i.now.op c.args.i.now) (state_of c.args.core.now) (words_left c.args.words.now) outcome_of c.row.result c.row.new.words
    (ap (λ (ws : List ℕ). told (row c.args.i.now.op c.args.i.now) (state_of c.args.core.now) ws []) (sym c.forget_reads.ensures.words)
    ∙ ap (λ (r : Reads). told (row c.args.i.now.op c.args.i.now) (state_of c.args.core.now) (words_left c.forget_reads.new.self) (addresses_read r)) (sym c.forget_reads.ensures.reads)
    ∙ c.row.ensures)
