use Rattle.surf_prog.proofs.SettingsLaws.{kind_more, kind_none}
use Rattle.surf_prog.proofs.settings.kind_named.Goals as goal

pub parts_left-preserved : goal.parts_left-preserved
parts_left-preserved c =
    kind_more c.args.name.now c.parts_left.rest.now c.in-Some.after.now c.in-Some.part.now c.parts_left.found c.kind_by-found.result _ c.parts_left.invariant c.in-Some.ensures.cases.0 c.kind_by-found.ensures

pub returns : goal.returns
returns c = kind_none c.args.name.now c.parts_left.rest.now c.parts_left.found _ c.parts_left.invariant c.in_default.ensures.cases
