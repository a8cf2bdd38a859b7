use Rattle.std.proofs.Common.{arith}
use Rattle.std.proofs.lemmas.Int.{ints, clamps}
use Rattle.alocs.proofs.FirstLemmas.{first_none, first_some}
use Rattle.alocs.proofs.touching.first_from.Goals as goal

pub returns-in-None : goal.returns-in-None
returns-in-None c = first_none c.args.offsets.now c.args.bound _ _ c.clip.result (omega (arith, ints, clamps)) (omega (arith, ints)) c.in-None.is c.clip.ensures.exact

pub returns-in-Some : goal.returns-in-Some
returns-in-Some c = first_some c.args.offsets.now c.in-Some.above c.args.bound _ _ _ c.clip.result (omega (arith, ints, clamps)) (omega (arith, ints)) c.in-Some.is (omega (arith, ints)) c.clip.ensures.exact
