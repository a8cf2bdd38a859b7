use Rattle.std.proofs.Common.{◌∙◌, ap}
use Rattle.image_map.specs.declared.region.RegionId.TheVariants.{Frame}
use Rattle.vset.specs.Operations.{drop_region}
use Rattle.abs_steps.specs.Calls.{with_values, ended_or_revived, gone_back, returned}
use Rattle.abs_state.specs.Views.{seen}
use Rattle.call_states.proofs.returns.returned.Goals as goal

pub returns : goal.returns
unfolding returned
returns c =
    let l = c.args.link.now in
    let renamed = c.in_ok-rename.ensures ∙ ap (λ (x : _). with_values (drop_region (Frame l.child)) (seen x)) c.in_ok-out.ensures.cases in
    c.in_ok-go_back.ensures
    ∙ ap (gone_back l.parent l.off c.args.extra) (c.in_ok-end_or_revive.ensures ∙ ap (ended_or_revived l.child) renamed)
