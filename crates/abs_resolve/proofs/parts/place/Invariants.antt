use Rattle.std.proofs.Common.{◌≡◌, ◌++◌, take, drop}
use Rattle.abs_semantics.specs.Resolve.{put_part}
use Rattle.abs_resolve.proofs.parts.place.Given as goal

abbrev pub invariant-loop-i : goal.invariant-loop-i
invariant-loop-i l = put_part l.x l.parts ≡ take l.i l.parts ++ put_part l.x (drop l.i l.parts)
