use Rattle.std.proofs.Common.{sym, ◌∙◌, ap, ◌&&◌}
use Rattle.image_map.specs.declared.region.Cell.{Cell}
use Rattle.abs_semantics.specs.States.{value_at}
use Rattle.abs_semantics.specs.Accesses.{may_change}
use Rattle.abs_state.specs.Views.{seen}
use Rattle.abs_state.proofs.WriteLemmas.{news_more, news_less, news_end}
use Rattle.abs_state.proofs.state.AbsState.news.Goals as goal

pub loop-i-preserved-then-not-changes : goal.loop-i-preserved-then-not-changes
loop-i-preserved-then-not-changes g c =
    let w = c.args.write.now in
    news_less (λ (d : Cell). g.W.Write.touched w d && may_change c.args.image.now d) (λ (d : Cell). g.W.Write.given w d (value_at (seen c.args.self.now) d)) c.args.more.now c.loop-i.i c.element-cell.result
    c.loop-i.out.items _ c.loop-i-test.true c.element-cell.ensures (sym c.changes.ensures ∙ c.if-not-changes.true) c.loop-i.invariant

pub loop-i-preserved : goal.loop-i-preserved
loop-i-preserved g c =
    let w = c.args.write.now in
    news_more (λ (d : Cell). g.W.Write.touched w d && may_change c.args.image.now d) (λ (d : Cell). g.W.Write.given w d (value_at (seen c.args.self.now) d)) c.args.more.now c.loop-i.i c.element-cell.result
    c.loop-i.out.items c.push.new.self.items _ c.in_ok-value.value c.loop-i-test.true c.element-cell.ensures (sym c.changes.ensures ∙ c.if-not-changes.false)
    (c.in_ok-value.ensures ∙ ap (λ v. g.W.Write.given w c.element-cell.result v) c.in_ok-value_at.ensures) c.in_ok-push.ensures.items c.loop-i.invariant

pub returns : goal.returns
returns g c =
    let w = c.args.write.now in
    news_end (λ (d : Cell). g.W.Write.touched w d && may_change c.args.image.now d) (λ (d : Cell). g.W.Write.given w d (value_at (seen c.args.self.now) d)) c.args.more.now c.loop-i.i c.loop-i.out.items _ c.loop-i-test.false c.loop-i.invariant
