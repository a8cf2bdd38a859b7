use Rattle.std.proofs.Common.{◌≡◌, take, map}
use Rattle.surf_prog.specs.Settings.{kind_of}
use Rattle.surf_prog.proofs.settings.kinds_of.Given as goal

abbrev pub invariant-loop-named : goal.invariant-loop-named
invariant-loop-named l = l.kinds ≡ map (kind_of l.fn.parts) (take l.named-index l.externs)
