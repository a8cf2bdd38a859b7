use Rattle.std.proofs.Common.{sym, subst}
use Rattle.vset.specs.Members.{HasValue}
use Rattle.ia32_types.specs.declared.Flag.TheVariants.{Df}
use Rattle.vset.specs.declared.facts.AbsFlags.{AbsFlags}
use Rattle.abs_alu.specs.Runs.{Allows, AllowsAll, given}
use Rattle.abs_alu.proofs.ResultLemmas.{value_holds, flags_hold, flags_keep_direction, width_fits}
use Rattle.abs_alu.proofs.results.abs.Goals as goal

pub returns-clause-holds : goal.returns-clause-holds
returns-clause-holds g c = λ lane world done is.
    subst (HasValue lane world (given done)) (sym c.in_ok-value.ensures)
    (value_holds lane world c.args.a.now c.args.b.now c.args.f.now c.form.ensures c.form-2.ensures g.row.W c.requires c.args.op.now done is)

pub returns-clause-allows : goal.returns-clause-allows
returns-clause-allows g c = λ lane world done is.
    subst (λ (v : AbsFlags). AllowsAll v done.now) (sym c.flags.ensures)
    (flags_hold lane world g.row.W c.args.op.now c.args.a.now c.args.b.now c.args.f.now (width_fits g.row.W c.requires) done is)

pub returns-clause-keeps_direction : goal.returns-clause-keeps_direction
returns-clause-keeps_direction g c = λ v may.
    subst (λ (f : AbsFlags). Allows f Df v) (sym c.flags.ensures)
    (flags_keep_direction g.row.W c.args.op.now c.args.a.now c.args.b.now c.args.f.now v may)
