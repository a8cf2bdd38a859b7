use Rattle.std.proofs.Common.{◌≡◌, ◌∙◌, ℕ, List, ap, arith, length, refl, sym}
use Rattle.std.proofs.lemmas.Grind.{common_steps}
use Rattle.slicer.specs.Slicer.{ListedEdge}
use Rattle.slicer.proofs.SliceLaws.{slice-empty, slice-present}
use Rattle.slicer.proofs.scratch.backward.Goals as goal

pub returns-then-is_empty-clause-absent : goal.returns-then-is_empty-clause-absent
returns-then-is_empty-clause-absent c =
    let none : length c.addresses.result.now ≡ 0 = grind (arith, common_steps) in
    let empty : length c.make_slice.new.s.addresses ≡ 0 = sym (ap (λ (xs : List ℕ). length xs) c.addresses.ensures.listed) ∙ none in (
      λ _ n. slice-present (ListedEdge c.args.graph.now.edges.ordinary c.args.graph.now.edges.sp c.args.skip_sp) c.args.graph.now.flow.nodes c.args.at n c.make_slice.new.s.addresses c.make_slice.ensures.slice empty,
      λ _. refl,
    )

pub returns-clause-absent : goal.returns-clause-absent
returns-clause-absent c = (
  λ never. absurd (cc),
  λ absent.
      let empty = slice-empty (ListedEdge c.args.graph.now.edges.ordinary c.args.graph.now.edges.sp c.args.skip_sp) c.args.graph.now.flow.nodes c.args.at c.make_slice.new.s.addresses c.make_slice.ensures.slice absent in
      let none : length c.addresses.result.now ≡ 0 = ap (λ (xs : List ℕ). length xs) c.addresses.ensures.listed ∙ empty in
      absurd (grind (arith, common_steps)),
)
