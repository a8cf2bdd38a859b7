use Rattle.std.proofs.Common.{◌≡◌, ◌∙◌, arith, length, take}
use Rattle.slicer.proofs.ListLemmas.{once-more, among-all}
use Rattle.slicer.proofs.list.list_once.Goals as goal

pub loop-place-preserved : goal.loop-place-preserved
loop-place-preserved c =
    let few = c.loop-place.invariant.few in
    let more = c.put_first-count.ensures.within in
    record {
      len = c.put_first-count.auto.list ∙ c.loop-place.invariant.len;
      few = omega (arith, few, more);
      once = once-more c.args.sorted.now (take c.loop-place.count c.loop-place.list) (take c.put_first-count.result c.put_first-count.new.list) c.loop-place.place
          c.requires.sorted c.loop-place-test.true c.put_first-count.ensures.first c.put_first-count.ensures.again c.loop-place.invariant.once;
    }

pub returns-clause-listed : goal.returns-clause-listed
returns-clause-listed c = λ a.
    let all : c.loop-place.place ≡ length c.args.sorted.now = omega arith in
    let by = c.loop-place.invariant.once.listed a in
    let whole = among-all c.args.sorted.now c.loop-place.place a all in
    (λ has. whole.0 (by.0 has), λ among. by.1 (whole.1 among))
