use Rattle.std.proofs.Common.{◌≡◌, ◌+◌, ◌∙◌, sym, ap, subst, true, [], arith, rules}
use Rattle.std.specs.Prelude.{IfOk, MatchOption, length}
use Rattle.abs_semantics.specs.Resolve.{Resolved, levels, most_links, rising_onto, told_of_few}
use Rattle.abs_resolve.specs.Forms.{AreTold}
use Rattle.abs_resolve.specs.Owned.{state_of}
use Rattle.abs_resolve.specs.Search.{Noted, is_crowd}
use Rattle.abs_resolve.proofs.LevelLemmas.{risen_next}
use Rattle.abs_resolve.proofs.SearchLemmas.{starts, ends_empty, ends_crowded, ends_last, ends_too_many, goes_on}
use Rattle.abs_resolve.proofs.search.search.Goals as goal

pub loop-findings-init : goal.loop-findings-init
loop-findings-init c = record {
  within = omega arith;
  few = ap (λ (n : Noted). is_crowd n.seen) c.new-findings.ensures;
  told = starts (state_of c.args.owners.now) c.args.access.now.procedure c.args.access.now.len c.most_links-most.result c.new-findings.result c.in_ok-level.level.items c.args.parts.now c.new-findings.ensures c.in_ok-level.ensures c.most_links-most.ensures;
}

pub returns-then-is_crowded : goal.returns-then-is_crowded
returns-then-is_crowded c =
    let a = state_of c.args.owners.now in
    let p = c.args.access.now.procedure in
    let len = c.args.access.now.len in
    let whole = told_of_few a p len (levels a p len (most_links a + 1) 0 (rising_onto [] c.args.parts.now)) in
    let same = ends_crowded a p len c.most_links-most.result c.loop-findings.followed c.loop-findings.findings c.note_level.new.self c.loop-findings.level.items c.as_slice.result.now whole
    c.in_ok-note_level.ensures c.as_slice.ensures.value (sym c.is_crowded.ensures ∙ c.if-is_crowded.true) c.loop-findings.invariant.told in
    subst (λ (r : Resolved). IfOk c.refused.result (λ places. AreTold places r)) same c.refused.ensures

pub returns-then-most-followed : goal.returns-then-most-followed
returns-then-most-followed c =
    let a = state_of c.args.owners.now in
    let p = c.args.access.now.procedure in
    let len = c.args.access.now.len in
    let whole = told_of_few a p len (levels a p len (most_links a + 1) 0 (rising_onto [] c.args.parts.now)) in
    let same = ends_last a p len c.most_links-most.result c.loop-findings.followed c.loop-findings.findings c.note_level.new.self c.loop-findings.level.items c.as_slice.result.now whole
    c.in_ok-note_level.ensures c.as_slice.ensures.value c.if-most-followed.true c.loop-findings.invariant.told in
    subst (λ (r : Resolved). IfOk c.finish.result (λ places. AreTold places r)) same (c.finish.ensures (sym c.is_crowded.ensures ∙ c.if-is_crowded.false))

pub returns-in-None : goal.returns-in-None
returns-in-None c =
    let a = state_of c.args.owners.now in
    let p = c.args.access.now.procedure in
    let len = c.args.access.now.len in
    let whole = told_of_few a p len (levels a p len (most_links a + 1) 0 (rising_onto [] c.args.parts.now)) in
    let crowd : is_crowd (risen_next a p len c.loop-findings.followed c.as_slice-in-loop-findings.result.now) ≡ true =
    subst (λ o. MatchOption o (is_crowd (risen_next a p len c.loop-findings.followed c.as_slice-in-loop-findings.result.now) ≡ true) (λ v. v.items ≡ risen_next a p len c.loop-findings.followed c.as_slice-in-loop-findings.result.now)) c.in-None.is c.in_ok-next.ensures in
    let same = ends_too_many a p len c.most_links-most.result c.loop-findings.followed c.loop-findings.findings c.loop-findings.level.items c.as_slice-in-loop-findings.result.now whole
    c.as_slice-in-loop-findings.ensures.value (omega arith) crowd c.loop-findings.invariant.told in
    subst (λ (r : Resolved). IfOk c.refused-in-None.result (λ places. AreTold places r)) same c.refused-in-None.ensures

pub loop-findings-preserved : goal.loop-findings-preserved
loop-findings-preserved c =
    let a = state_of c.args.owners.now in
    let p = c.args.access.now.procedure in
    let len = c.args.access.now.len in
    let whole = told_of_few a p len (levels a p len (most_links a + 1) 0 (rising_onto [] c.args.parts.now)) in
    let risen : c.in-Some.next.items ≡ risen_next a p len c.loop-findings.followed c.as_slice-in-loop-findings.result.now =
    subst (λ o. MatchOption o (is_crowd (risen_next a p len c.loop-findings.followed c.as_slice-in-loop-findings.result.now) ≡ true) (λ v. v.items ≡ risen_next a p len c.loop-findings.followed c.as_slice-in-loop-findings.result.now)) c.in-Some.is c.in_ok-next.ensures in
    record {
      within = omega arith;
      few = sym c.is_crowded.ensures ∙ c.if-is_crowded.false;
      told = goes_on a p len c.most_links-most.result c.loop-findings.followed c.loop-findings.findings c.note_level.new.self c.loop-findings.level.items c.as_slice.result.now c.as_slice-in-loop-findings.result.now c.in-Some.next.items whole
          c.in_ok-note_level.ensures c.as_slice.ensures.value (omega arith) c.as_slice-in-loop-findings.ensures.value risen c.loop-findings.invariant.told;
    }

pub returns : goal.returns
returns c =
    let a = state_of c.args.owners.now in
    let p = c.args.access.now.procedure in
    let len = c.args.access.now.len in
    let whole = told_of_few a p len (levels a p len (most_links a + 1) 0 (rising_onto [] c.args.parts.now)) in
    let none : length c.loop-findings.level.items ≡ 0 = search rules in
    let same = ends_empty a p len c.most_links-most.result c.loop-findings.followed c.loop-findings.findings c.loop-findings.level.items whole none c.loop-findings.invariant.told in
    subst (λ (r : Resolved). IfOk c.finish-2.result (λ places. AreTold places r)) same (c.finish-2.ensures c.loop-findings.invariant.few)
