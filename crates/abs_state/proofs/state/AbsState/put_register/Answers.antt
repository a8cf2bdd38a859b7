use Rattle.abs_semantics.specs.Operands.{with_part_value}
use Rattle.abs_state.specs.Views.{seen}
use Rattle.abs_state.proofs.state.AbsState.put_register.Goals as goal

pub returns : goal.returns
unfolding with_part_value
returns c =
    let a = seen c.args.self.now in
    λ i. record {
      registers = c.set.ensures.values i;
      flags = a.flags;
      cells = a.cells;
      live = a.live;
      older = a.older;
      links = a.links;
      aligns = a.aligns;
      blocks = a.blocks;
      fact = c.fact_without-self.ensures i;
      root = a.root;
    }
