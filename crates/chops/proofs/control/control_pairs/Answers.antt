use Rattle.std.proofs.Common.{◌≡◌, ◌∙◌, ℕ, List, ap, length, subst, sym, arith}
use Rattle.std.proofs.lemmas.Grind.{common_steps}
use Rattle.chops.specs.Following.{AreNumbers}
use Rattle.chops.specs.Pairs.{AddsPairs, ControlsAny}
use Rattle.dep_graph.proofs.SpreadLemmas.{inside-part}
use Rattle.chops.proofs.AlongLemmas.{inside_some}
use Rattle.chops.proofs.PairSetLemmas.{controls_all, controls_end, controls_later, numbers_all, numbers_inside}
use Rattle.chops.proofs.control.control_pairs.Goals as goal

pub loop-rest-init : goal.loop-rest-init
loop-rest-init c =
    let held = ap (λ (xs : List ℕ). length xs) c.as_slice-rest.ensures.value in
    let all = c.in_ok-numbers.ensures.many in
    let count = c.len-count.ensures in
    let many : length c.as_slice-rest.result.now ≡ length c.args.graph.now.nodes = omega (arith, held, all, count) in
    let are : AreNumbers c.as_slice-rest.result.now = subst (λ (xs : List ℕ). AreNumbers xs) (sym c.as_slice-rest.ensures.value) c.in_ok-numbers.ensures.numbers in record {
      size = c.in_ok-walks.ensures;
      inside = numbers_inside c.as_slice-rest.result.now (length c.args.graph.now.nodes) many are;
      later = λ final adds. subst (λ (old : List (ℕ × ℕ)). AddsPairs (ControlsAny c.args.graph.now.nodes c.as_slice-rest.result.now) old final) c.new-pairs.ensures.items adds;
    }

pub add_controlled-requires-clause-inside : goal.add_controlled-requires-clause-inside
add_controlled-requires-clause-inside c = inside_some c.args.graph.now.nodes c.loop-rest.rest.now c.split_at.result.0.now c.min.result c.split_at.ensures.front c.loop-rest.invariant.inside

pub add_controlled-requires-clause-made : goal.add_controlled-requires-clause-made
add_controlled-requires-clause-made c = let size = c.loop-rest.invariant.size in omega (arith, size)

pub loop-rest-preserved : goal.loop-rest-preserved
loop-rest-preserved c = record {
  size = c.in_ok-add_controlled.ensures.walks ∙ c.loop-rest.invariant.size;
  inside = inside-part c.args.graph.now.nodes c.loop-rest.rest.now c.split_at.result.1.now c.min.result c.split_at.ensures.back c.loop-rest.invariant.inside;
  later = λ final after. c.loop-rest.invariant.later final
      (controls_later c.args.graph.now.nodes c.loop-rest.rest.now c.split_at.result.0.now c.split_at.result.1.now c.min.result c.loop-rest.pairs.items c.add_controlled.new.pairs.items final
      c.split_at.ensures.front c.split_at.ensures.back c.in_ok-add_controlled.ensures.adds after);
}

pub returns : goal.returns
returns c =
    let none : length c.loop-rest.rest.now ≡ 0 = grind (arith, common_steps) in
    let held = ap (λ (xs : List ℕ). length xs) c.as_slice-rest.ensures.value in
    let all = c.in_ok-numbers.ensures.many in
    let count = c.len-count.ensures in
    let many : length c.as_slice-rest.result.now ≡ length c.args.graph.now.nodes = omega (arith, held, all, count) in
    let are : AreNumbers c.as_slice-rest.result.now = subst (λ (xs : List ℕ). AreNumbers xs) (sym c.as_slice-rest.ensures.value) c.in_ok-numbers.ensures.numbers in
    controls_all c.args.graph.now.nodes c.as_slice-rest.result.now c.loop-rest.pairs.items (numbers_all c.as_slice-rest.result.now (length c.args.graph.now.nodes) many are)
    (c.loop-rest.invariant.later c.loop-rest.pairs.items (controls_end c.args.graph.now.nodes c.loop-rest.rest.now c.loop-rest.pairs.items none))
