use Rattle.std.proofs.Common.{arith, refl, length, ◌≡◌, ⊎_elim, inl, inr}
use Rattle.flow_graph.proofs.WalkLemmas.{below-contains}
use Rattle.dep_graph.proofs.PlaceLemmas.{uses-more}
use Rattle.dep_graph.proofs.edges.add_uses.Goals as goal

pub loop-place-preserved : goal.loop-place-preserved
loop-place-preserved c =
    uses-more c.args.places.now.items c.args.uses.now c.loop-place.places.items c.push_if.new.list.items c.loop-place.place-index _ refl c.in_ok-push_if.ensures c.loop-place.invariant

pub returns : goal.returns
returns c = λ place.
    let all : c.loop-place.place-index ≡ length c.args.uses.now = omega arith in
    let by = c.loop-place.invariant place in
    let below = below-contains c.args.uses.now c.loop-place.place-index place all in (
      λ among. ⊎_elim (λ was. inl was) (λ low. inr (low.0, below.0 low.1)) (by.0 among),
      λ either. by.1 (⊎_elim (λ was. inl was) (λ low. inr (low.0, below.1 low.1)) either),
    )
