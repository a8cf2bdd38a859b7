use Rattle.std.proofs.Common.{◌≡◌, length}
use Rattle.surf_prog.specs.Settings.{kind_after, kind_named}
use Rattle.surf_prog.proofs.settings.kind_named.Given as goal

abbrev pub invariant-parts_left : goal.invariant-parts_left
invariant-parts_left l = kind_after l.fn.name l.found l.rest ≡ kind_named l.fn.name l.fn.parts

abbrev pub decreases-parts_left : goal.decreases-parts_left
decreases-parts_left l = length l.rest
