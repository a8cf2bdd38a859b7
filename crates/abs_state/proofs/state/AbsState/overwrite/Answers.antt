use Rattle.std.proofs.Common.{◌∙◌, ap}
use Rattle.image_map.specs.declared.region.Cell.{Cell}
use Rattle.abs_semantics.specs.States.{value_at}
use Rattle.abs_state.specs.Puts.{folded}
use Rattle.abs_state.specs.Writes.{put_value}
use Rattle.abs_state.specs.Views.{seen}
use Rattle.abs_state.proofs.WriteLemmas.{overwritten_cells}
use Rattle.abs_state.proofs.state.AbsState.overwrite.Goals as goal

pub returns : goal.returns
returns g c =
    let a = seen c.args.self.now in
    let w = c.args.write.now in
    let put = c.in_ok-put_all.ensures ∙ ap (λ ns. folded put_value ns c.change.new.self) c.as_slice.ensures.value in
    let cells = overwritten_cells c.args.image.now a (g.W.Write.touched w) (λ (d : Cell). g.W.Write.given w d (value_at a d)) c.args.more.now c.in_ok-news.news.items c.change.new.self c.put_all.new.cells c.in_ok-news.ensures c.in_ok-change.ensures put in
    λ i. record {
      registers = a.registers;
      flags = a.flags;
      cells = cells i;
      live = a.live;
      older = a.older;
      links = a.links;
      aligns = a.aligns;
      blocks = a.blocks;
      fact = c.untouched_fact-self.ensures i;
      root = a.root;
    }
