use Rattle.std.proofs.Common.{◌||◌, ◌∙◌}
use Rattle.vsa.specs.Topped.{is_flag_kept}
use Rattle.vsa.proofs.ToppedLemmas.{among_all}
use Rattle.vsa.proofs.topped.changed_flags.Goals as goal

pub returns : goal.returns
returns c x =
    let low = c.with-low.ensures.members x ∙ (λ i. c.only_changed-5.ensures x i || c.only_changed-6.ensures x i) in
    let signs = c.with-signs.ensures.members x ∙ (λ i. c.only_changed-3.ensures x i || c.only_changed-4.ensures x i) in
    let high = c.with-high.ensures.members x ∙ (λ i. c.only_changed.ensures x i || c.only_changed-2.ensures x i) in
    let behind = c.with.ensures.members x ∙ (λ i. signs i || high i) in
    c.with-2.ensures.members x ∙ (λ i. low i || behind i) ∙ among_all (is_flag_kept c.args.old.now c.args.new.now) x
