use Rattle.std.proofs.Common.{inl, arith}
use Rattle.std.specs.Prelude.{ℤ, pos, ◌+ℤ◌, ◌-ℤ◌}
use Rattle.std.specs.Int.{int_max}
use Rattle.std.proofs.lemmas.Int.{ints, clamps}
use Rattle.abs_state.proofs.TouchLemmas.{nothing_met, same_clip}
use Rattle.abs_state.proofs.touching.meeting.Goals as goal

pub returns-in-None : goal.returns-in-None
returns-in-None c =
    let a = c.args.si.now in
    let d = c.args.cell.now in
    let low : ℤ = int_max a.lo ((d.start -ℤ pos c.args.len) +ℤ pos 1) in
    nothing_met a low (d.end -ℤ pos 1) c.lo.ensures.canonical (inl (omega (arith, ints, clamps, c.narrowed.ensures.none c.in-None.is, c.least.ensures.value, c.lo.ensures.value, c.hi.ensures.value)))

pub returns-in-Some : goal.returns-in-Some
returns-in-Some c =
    let a = c.args.si.now in
    let d = c.args.cell.now in
    let low : ℤ = int_max a.lo ((d.start -ℤ pos c.args.len) +ℤ pos 1) in
    same_clip c.clipped.result a c.clipped.ensures low (d.end -ℤ pos 1) (omega (arith, ints, clamps, c.in-Some.ensures.some, c.least.ensures.value, c.lo.ensures.value)) (omega (arith, ints))
