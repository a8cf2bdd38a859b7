use Rattle.std.proofs.Common.{◌+◌, ◌*◌, ◌∙◌, List, ℕ, length, sym, ap, subst, arith}
use Rattle.ia32_run.specs.declared.log.Occurrence.{Occurrence}
use Rattle.dynamic_slices.specs.Slices.{DependOnEarlier}
use Rattle.dynamic_slices.proofs.SliceLaws.{told_slices_are_dynamic}
use Rattle.surf_prog.proofs.SettingsLaws.{are_known}
use Rattle.surf_prog.proofs.TracingLaws.{seeds_long, few_steps}
use Rattle.surf_prog.proofs.tracing.tracing.Goals as goal

pub trace-requires-clause-known : goal.trace-requires-clause-known
trace-requires-clause-known c = are_known c.args.image.now c.args.place 1 c.as_slice.result.now c.in_ok-settings.settings c.in_ok-settings.ensures

pub trace-requires-clause-enough : goal.trace-requires-clause-enough
trace-requires-clause-enough c =
    let long = ap (λ (xs : List ℕ). length xs) (c.deref.ensures.value ∙ c.in_ok-words.ensures) ∙ seeds_long (8 * (c.args.options.now.steps + 2)) c.args.options.now.seed in
    omega arith

pub trace_text-requires : goal.trace_text-requires
trace_text-requires c =
    let short = few_steps c.args.image.now c.in_ok-settings.settings c.deref.result.now c.args.options.now.steps c.in_ok-log.log c.in_ok-log.ensures in
    omega arith

pub dynamic_lines-requires-clause-short : goal.dynamic_lines-requires-clause-short
dynamic_lines-requires-clause-short c =
    let short = few_steps c.args.image.now c.in_ok-settings.settings c.deref.result.now c.args.options.now.steps c.in_ok-log.log c.in_ok-log.ensures in
    let long = ap (λ (steps : List Occurrence). length steps) c.as_slice-2.ensures in
    omega arith

pub dynamic_lines-requires-clause-earlier : goal.dynamic_lines-requires-clause-earlier
dynamic_lines-requires-clause-earlier c =
    let skip_sp = c.args.options.now.skip_sp in
    let told = told_slices_are_dynamic c.args.image.now c.in_ok-settings.settings skip_sp c.in_ok-log.ensures.run c.in_ok-log.log.steps c.in_ok-log.ensures.tells in
    subst (λ (steps : List Occurrence). DependOnEarlier skip_sp steps) (sym c.as_slice-2.ensures) told.earlier
