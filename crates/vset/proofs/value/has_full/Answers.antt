use Rattle.std.proofs.Common.{sym, ◌∙◌}
use Rattle.std.specs.List.{list_any}
use Rattle.vset.specs.declared.part.Part.{Part}
use Rattle.vset.specs.Values.{is_full}
use Rattle.vset.proofs.PartLemmas.{canonical_more, canonical_all, any_here, any_later}
use Rattle.vset.proofs.value.has_full.Goals as goal
use Rattle.item_list.proofs.ListLaws.{any_none}

pub loop-p-preserved : goal.loop-p-preserved
loop-p-preserved c = record {
  none = any_later (λ (p : Part). is_full p.si) c.args.parts.now c.loop-p.p-index c.p-item.result (list_any (λ (p : Part). is_full p.si) c.args.parts.now) c.loop-p-test.true c.p-item.is (sym c.is_full.ensures.value ∙ c.if-is_full.false) c.loop-p.invariant.none;
  canonical = canonical_more c.args.parts.now c.loop-p.p-index c.p-item.result c.loop-p-test.true c.p-item.is c.loop-p.invariant.canonical c.is_full.ensures.canonical;
}

pub returns : goal.returns
returns c = record {
  value = any_none (λ (p : Part). is_full p.si) c.args.parts.now c.loop-p.p-index (list_any (λ (p : Part). is_full p.si) c.args.parts.now) c.loop-p-test.false c.loop-p.invariant.none;
  canonical = λ _. canonical_all c.args.parts.now c.loop-p.p-index c.loop-p-test.false c.loop-p.invariant.canonical;
}

pub returns-then-is_full-clause-value : goal.returns-then-is_full-clause-value
returns-then-is_full-clause-value c =
    any_here (λ (p : Part). is_full p.si) c.args.parts.now c.loop-p.p-index c.p-item.result (list_any (λ (p : Part). is_full p.si) c.args.parts.now) c.loop-p-test.true c.p-item.is (sym c.is_full.ensures.value ∙ c.if-is_full.true) c.loop-p.invariant.none
