use Rattle.std.proofs.Common.{◌≡◌, ◌+◌, List, ap, sym, subst, ◌∙◌, drop, length, arith}
use Rattle.std.proofs.lemmas.List.{map-id}
use Rattle.std.proofs.lemmas.Iterator.{items_from_drains}
use Rattle.std.proofs.lemmas.Iterator.Adapters.{YieldsList-from_vec}
use Rattle.last_writers.specs.declared.spans.Written.{Written}
use Rattle.last_writers.specs.Cuts.{passed}
use Rattle.last_writers.proofs.CutLemmas.{passed_more, replaced_there}
use Rattle.last_writers.proofs.spans.replace.Goals as goal

pub splice-requires-clause-start_le_end : goal.splice-requires-clause-start_le_end
splice-requires-clause-start_le_end c =
    let more = passed_more c.args.start c.args.end c.args.spans.now.items (omega (arith, c.requires.range)) in
    let first = c.passed-first.ensures.value ∙ ap (passed c.args.start) c.as_slice.ensures.value in
    let last = c.passed-last.ensures.value ∙ ap (passed c.args.end) c.as_slice-2.ensures.value in
    let after = c.behind-behind.ensures.after in
    omega (arith, more, first, last, after)

pub splice-requires-clause-in_bounds : goal.splice-requires-clause-in_bounds
splice-requires-clause-in_bounds c =
    let all = ap length c.as_slice-2.ensures.value in
    let len = c.as_slice-4.ensures.len in
    let same = ap length c.as_slice-4.ensures.value in
    let within = c.behind-behind.ensures.within (omega (arith, c.passed-last.ensures.within, all, same)) in
    omega (arith, within, len)

pub returns-clause-ok : goal.returns-clause-ok
returns-clause-ok c =
    let ss = c.args.spans.now.items in
    let pieces = c.in_ok-pieces.pieces in
    let spliced = c.in_ok-splice.ensures.items in
    let drained = items_from_drains spliced.1 (spliced.3.1.0, spliced.3.1.1, λ _. (spliced.3.0, spliced.3.1.2)) (YieldsList-from_vec {s = spliced.0} pieces.items spliced.2.0 (spliced.2.1 ∙ pieces.ok.0)) in
    replaced_there c.args.start c.args.end c.args.step c.passed-first.result c.passed-last.result c.behind-behind.result ss c.as_slice-3.result.now pieces.items spliced.1 c.splice.new.self.items
    c.requires.rising c.as_slice-3.ensures.value
    (c.passed-first.ensures.value ∙ ap (passed c.args.start) c.as_slice.ensures.value)
    (c.passed-last.ensures.value ∙ ap (passed c.args.end) c.as_slice-2.ensures.value)
    c.in_ok-pieces.ensures (sym (map-id spliced.1) ∙ drained)
    (subst (λ (v : List Written). drop c.behind-behind.result v ≡ drop (c.passed-last.result + 1) v) c.as_slice-4.ensures.value c.behind-behind.ensures.rest)
    spliced.4
