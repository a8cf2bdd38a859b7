use Rattle.std.proofs.Common.{◌≡◌, ◌++◌, ◌∙◌}
use Rattle.std.specs.Prelude.{map}
use Rattle.abs_semantics.specs.States.{rebuilt}
use Rattle.abs_semantics.specs.Joins.{widened_value, widened_link}
use Rattle.abs_state.specs.Views.{seen}
use Rattle.abs_state.proofs.ViewLemmas.{registers_widened, cells_widened}
use Rattle.abs_state.proofs.state.AbsState.widen.Goals as goal

pub returns : goal.returns
returns c =
    let a = seen c.args.self.now in
    let b = seen c.args.other.now in
    let registers = registers_widened c.in_ok-registers.registers c.args.self.now.registers c.args.other.now.registers c.in_ok-registers.ensures in
    let cells : c.in_ok-cells.cells ≡ rebuilt (widened_value a b) (a.cells ++ b.cells) = cells_widened a b c.in_ok-cells.cells c.regions.result c.regions-2.result c.regions.ensures c.regions-2.ensures c.in_ok-cells.ensures in
    let links = c.from_vec.ensures ∙ c.in_ok-links.ensures ∙ (λ i. map (widened_link (c.as_slice.ensures i)) (c.as_slice-2.ensures i)) in
    let live = c.in_ok-live.ensures ∙ c.as_slice-3.ensures in
    let older = c.in_ok-older.ensures ∙ c.as_slice-4.ensures in
    let aligns = c.in_ok-aligns.ensures ∙ c.as_slice-5.ensures in
    let blocks = c.in_ok-blocks.ensures ∙ c.as_slice-6.ensures in
    λ i. record {
      registers = registers i;
      flags = b.flags;
      cells = cells i;
      live = live i;
      older = older i;
      links = links i;
      aligns = aligns i;
      blocks = blocks i;
      fact = b.fact;
      root = b.root;
    }
