use Rattle.std.proofs.Common.{◌+◌, ◌≤◌, length, sym, subst}
use Rattle.program_shelf.proofs.PartLemmas.{Done, goes_on, whole}
use Rattle.program_shelf.proofs.parts.part.Goals as goal

pub loop-i-preserved : goal.loop-i-preserved
loop-i-preserved c =
    let same = c.as_slice-all.ensures in
    subst (λ all. Done c.args.program all c.keep.new.lines (c.loop-i.i + 1)) same
    (goes_on c.args.program c.as_slice-all.result.now c.loop-i.lines c.keep.new.lines c.loop-i.i _ c.is_of-wanted.result c.loop-i-test.true c.is_of-wanted.ensures c.in_ok-keep.ensures
    (subst (λ all. Done c.args.program all c.loop-i.lines c.loop-i.i) (sym same) c.loop-i.invariant))

pub returns : goal.returns
returns c = record { part = whole c.args.program c.args.script.now.lines c.loop-i.lines c.loop-i.i (subst (λ xs. length xs ≤ c.loop-i.i) c.as_slice-all.ensures c.loop-i-test.false) c.loop-i.invariant }
