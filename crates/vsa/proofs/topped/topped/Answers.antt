use Rattle.std.proofs.Common.{◌∙◌, ap, map}
use Rattle.std.specs.Prelude.{filter}
use Rattle.abs_semantics.specs.States.{value_in, rebuilt}
use Rattle.abs_state.specs.Registers.{register_in}
use Rattle.vsa.specs.Topped.{topped, topped_value, topped_link, has_known, topped_size}
use Rattle.vsa.proofs.topped.topped.Goals as goal

pub returns : goal.returns
unfolding topped
returns c =
    let old = c.args.old.now in
    let new = c.args.new.now in
    let registers = ap register_in c.registers-2.view_is ∙ c.in_ok-registers.ensures in
    let cells = c.cells.view_is ∙ c.in_ok-change.ensures ∙ (λ i. rebuilt (λ d. topped_value (value_in d old.cells) (value_in d (c.in_ok-cells.ensures.cases i))) (c.in_ok-cells.ensures.cases i)) in
    let links = c.from_vec.ensures ∙ c.in_ok-links.ensures ∙ (λ i. map (topped_link (c.as_slice.ensures i)) (c.as_slice-2.ensures i)) in
    let aligns = c.from_vec-2.ensures ∙ c.in_ok-aligns.ensures ∙ (λ i. filter (has_known (c.as_slice-3.ensures i)) (c.as_slice-4.ensures i)) in
    let blocks = c.from_vec-3.ensures ∙ c.in_ok-blocks.ensures ∙ (λ i. map (topped_size (c.as_slice-5.ensures i)) (c.as_slice-6.ensures i)) in
    λ i. record {
      registers = registers i;
      flags = c.flags.ensures i;
      cells = cells i;
      live = c.in_ok-clone.ensures.cases.1 (λ x y e. e) i;
      older = c.in_ok-clone-2.ensures.cases.1 (λ x y e. e) i;
      links = links i;
      aligns = aligns i;
      blocks = blocks i;
      fact = c.fact_of.ensures i;
      root = new.root;
    }
