use Rattle.std.proofs.Common.{◌≡◌, ◌++◌, ◌∙◌}
use Rattle.abs_semantics.specs.States.{rebuilt}
use Rattle.abs_semantics.specs.Joins.{numbers_of, links_of, sizes_of, joined_value}
use Rattle.abs_state.specs.Views.{seen}
use Rattle.abs_state.proofs.ViewLemmas.{registers_joined, cells_joined}
use Rattle.abs_state.proofs.state.AbsState.join.Goals as goal

pub returns : goal.returns
returns c =
    let a = seen c.args.self.now in
    let b = seen c.args.other.now in
    let registers = registers_joined c.in_ok-registers.registers c.args.self.now.registers c.args.other.now.registers c.in_ok-registers.ensures in
    let cells : c.in_ok-cells.cells ≡ rebuilt (joined_value a b) (a.cells ++ b.cells) = cells_joined a b c.in_ok-cells.cells c.regions.result c.regions-2.result c.regions.ensures c.regions-2.ensures c.in_ok-cells.ensures in
    let live = c.from_vec.ensures ∙ c.in_ok-live.ensures ∙ (λ i. numbers_of (c.as_slice.ensures i) (c.as_slice-2.ensures i)) in
    let older = c.from_vec-2.ensures ∙ c.in_ok-older.ensures ∙ (λ i. numbers_of (c.as_slice-3.ensures i) (c.as_slice-4.ensures i)) in
    let links = c.from_vec-3.ensures ∙ c.in_ok-links.ensures ∙ (λ i. links_of (c.as_slice-5.ensures i) (c.as_slice-6.ensures i)) in
    let blocks = c.from_vec-4.ensures ∙ c.in_ok-blocks.ensures ∙ (λ i. sizes_of (c.as_slice-7.ensures i) (c.as_slice-8.ensures i)) in
    λ i. record {
      registers = registers i;
      flags = c.flags_of_both.ensures i;
      cells = cells i;
      live = live i;
      older = older i;
      links = links i;
      aligns = c.in_ok-aligns.ensures i;
      blocks = blocks i;
      fact = c.fact_of.ensures i;
      root = a.root;
    }
