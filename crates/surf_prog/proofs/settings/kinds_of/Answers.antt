use Rattle.std.proofs.Common.{ap, map, ◌∙◌}
use Rattle.std.proofs.lemmas.List.{take_all}
use Rattle.surf_prog.specs.Settings.{kind_of}
use Rattle.surf_prog.proofs.SettingsLaws.{kinds_more}
use Rattle.surf_prog.proofs.settings.kinds_of.Goals as goal

pub loop-named-preserved : goal.loop-named-preserved
loop-named-preserved c =
    kinds_more c.args.parts.now c.args.externs.now c.loop-named.named-index c.named-item.result c.loop-named.kinds _ c.kind_of.result c.loop-named.invariant c.loop-named-test.true
    (c.kind_of.ensures ∙ ap (kind_of c.args.parts.now) c.named-item.is) c.in_ok-push.ensures.ok

pub returns : goal.returns
returns c = c.loop-named.invariant ∙ ap (map (kind_of c.args.parts.now)) (take_all c.loop-named.named-index c.args.externs.now c.loop-named-test.false)
