use Rattle.std.proofs.Common.{inr, sym, refl, ◌∙◌, length, true, false}
use Rattle.std.proofs.lemmas.Result.{err_from_is_err_and}
use Rattle.elf32.specs.declared.error.ElfError.TheVariants as errors
use Rattle.elf32.specs.Programs.{shown}
use Rattle.elf32.proofs.Failing.{the_segments, segments_fail, the_sections, sections_fail, the_outcome, relocations_fail, none_fails}
use Rattle.elf32.proofs.Folding.{cause}
use Rattle.elf32.proofs.Whole.{shown_image}
use Rattle.elf32.proofs.read.read_image.Goals as goal

pub returns-in-Some-segments_cause-clause-err : goal.returns-in-Some-segments_cause-clause-err
returns-in-Some-segments_cause-clause-err c =
    let f = c.args.bytes.now in
    let headers = sym c.header_failure.ensures ∙ c.in_default.is in
    let segments = the_segments f (length f) c.bias-bias.result c.as_slice.result.now c.segments_cause.result refl c.bias-bias.ensures.bias (c.as_slice.ensures.value ∙ c.in_ok-loads.ensures) c.segments_cause.ensures in
    inr (segments_fail f c.in-Some-segments_cause.cause headers (segments ∙ c.in-Some-segments_cause.is))

pub returns-then-sections_end_outside-clause-err : goal.returns-then-sections_end_outside-clause-err
returns-then-sections_end_outside-clause-err c =
    let f = c.args.bytes.now in
    let headers = sym c.header_failure.ensures ∙ c.in_default.is in
    let segments = the_segments f (length f) c.bias-bias.result c.as_slice.result.now c.segments_cause.result refl c.bias-bias.ensures.bias (c.as_slice.ensures.value ∙ c.in_ok-loads.ensures) c.segments_cause.ensures ∙ c.in_default-segments_cause.is in
    let sections = the_sections f c.as_slice-2.result.now true (c.as_slice-2.ensures.value ∙ c.in_ok-sections.ensures) (sym c.sections_end_outside.ensures ∙ c.if-sections_end_outside.true) in
    inr (sections_fail f (errors.Short (length f)) headers segments sections)

pub returns-in_err-program-clause-err : goal.returns-in_err-program-clause-err
returns-in_err-program-clause-err c =
    let f = c.args.bytes.now in
    let headers = sym c.header_failure.ensures ∙ c.in_default.is in
    let segments = the_segments f (length f) c.bias-bias.result c.as_slice.result.now c.segments_cause.result refl c.bias-bias.ensures.bias (c.as_slice.ensures.value ∙ c.in_ok-loads.ensures) c.segments_cause.ensures ∙ c.in_default-segments_cause.is in
    let sections = the_sections f c.as_slice-2.result.now false (c.as_slice-2.ensures.value ∙ c.in_ok-sections.ensures) (sym c.sections_end_outside.ensures ∙ c.if-sections_end_outside.false) in
    let p = err_from_is_err_and c.from_residual-in_err-program.result c.from_residual-in_err-program.ensures.1 in
    rw (p.1, p.2)
    (cause (λ h. relocations_fail f c.in_err-program.field-0.0 headers segments sections
    (the_outcome f c.bias-bias.result c.as_slice-3.result.now c.as_slice-4.result.now _ c.bias-bias.ensures.bias (c.as_slice-3.ensures.value ∙ c.in_ok-loads.ensures) (c.as_slice-4.ensures.value ∙ c.in_ok-sections.ensures) h))
    c.in_err-program.ensures.err)

pub returns-clause-ok : goal.returns-clause-ok
returns-clause-ok c =
    let f = c.args.bytes.now in
    let headers = sym c.header_failure.ensures ∙ c.in_default.is in
    let segments = the_segments f (length f) c.bias-bias.result c.as_slice.result.now c.segments_cause.result refl c.bias-bias.ensures.bias (c.as_slice.ensures.value ∙ c.in_ok-loads.ensures) c.segments_cause.ensures ∙ c.in_default-segments_cause.is in
    let sections = the_sections f c.as_slice-2.result.now false (c.as_slice-2.ensures.value ∙ c.in_ok-sections.ensures) (sym c.sections_end_outside.ensures ∙ c.if-sections_end_outside.false) in
    let done = the_outcome f c.bias-bias.result c.as_slice-3.result.now c.as_slice-4.result.now _ c.bias-bias.ensures.bias (c.as_slice-3.ensures.value ∙ c.in_ok-loads.ensures) (c.as_slice-4.ensures.value ∙ c.in_ok-sections.ensures) c.in_ok-program.ensures.ok in
    record {
      passes = none_fails f (shown c.in_ok-program.program) headers segments sections done;
      shows = rw done c.in_ok-image.ensures;
    }

pub returns-clause-image : goal.returns-clause-image
returns-clause-image c =
    let f = c.args.bytes.now in
    let segments = the_segments f (length f) c.bias-bias.result c.as_slice.result.now c.segments_cause.result refl c.bias-bias.ensures.bias (c.as_slice.ensures.value ∙ c.in_ok-loads.ensures) c.segments_cause.ensures ∙ c.in_default-segments_cause.is in
    let done = the_outcome f c.bias-bias.result c.as_slice-3.result.now c.as_slice-4.result.now _ c.bias-bias.ensures.bias (c.as_slice-3.ensures.value ∙ c.in_ok-loads.ensures) (c.as_slice-4.ensures.value ∙ c.in_ok-sections.ensures) c.in_ok-program.ensures.ok in
    shown_image f (shown c.in_ok-program.program) c.in_ok-image.image segments done c.in_ok-image.ensures
