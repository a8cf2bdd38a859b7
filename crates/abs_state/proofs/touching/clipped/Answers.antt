use Rattle.std.proofs.Common.{inr, arith}
use Rattle.std.specs.Prelude.{pos, ◌-ℤ◌}
use Rattle.std.proofs.lemmas.Int.{ints}
use Rattle.abs_state.proofs.TouchLemmas.{nothing_met, same_clip}
use Rattle.abs_state.proofs.touching.clipped.Goals as goal

pub returns-in-None : goal.returns-in-None
returns-in-None c =
    let form = c.requires in
    nothing_met c.args.si.now c.args.low (c.args.end -ℤ pos 1) form (inr (omega (arith, ints, c.last_before.ensures.none c.in-None.is, form.low)))

pub returns-in-Some : goal.returns-in-Some
returns-in-Some c =
    same_clip c.clip.result c.args.si.now c.clip.ensures.value c.args.low (c.args.end -ℤ pos 1) (omega (arith, ints)) (omega (arith, ints, c.in-Some.ensures.some))
