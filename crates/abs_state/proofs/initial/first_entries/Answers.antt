use Rattle.std.proofs.Common.{true, refl, sym, subst}
use Rattle.std.specs.Prelude.{Contains}
use Rattle.std.proofs.lemmas.List.Elements.{Contains-get_or}
use Rattle.image_map.specs.declared.region.Cell.{Cell}
use Rattle.abs_semantics.specs.Start.{first_value}
use Rattle.abs_state.proofs.WriteLemmas.{news_more, news_end}
use Rattle.abs_state.proofs.initial.first_entries.Goals as goal

pub first_value-value-requires : goal.first_value-value-requires
first_value-value-requires c =
    let x = c.element-cell.result in
    c.requires x (subst (λ (y : Cell). Contains c.args.found.now y) (sym c.element-cell.ensures) (Contains-get_or c.args.found.now c.loop-i.i x c.loop-i-test.true))

pub loop-i-preserved : goal.loop-i-preserved
loop-i-preserved c =
    news_more (λ (d : Cell). true) (first_value c.args.image.now c.args.entry) c.args.found.now c.loop-i.i c.element-cell.result c.loop-i.out.items c.push.new.self.items _ c.first_value-value.result c.loop-i-test.true c.element-cell.ensures
    refl c.first_value-value.ensures c.in_ok-push.ensures.items c.loop-i.invariant

pub returns : goal.returns
returns c = news_end (λ (d : Cell). true) (first_value c.args.image.now c.args.entry) c.args.found.now c.loop-i.i c.loop-i.out.items _ c.loop-i-test.false c.loop-i.invariant
