use Rattle.std.proofs.Common.{◌≤◌, ◌∙◌, List, length, sym, subst, arith}
use Rattle.asi_cuts.specs.declared.set.Cut.{Cut}
use Rattle.asi_cuts.specs.Adding.{IsForced, IsKept, IsMade}
use Rattle.asi_cuts.proofs.AddLemmas.{first_stops, second_stops}
use Rattle.asi_cuts.proofs.ClosingLemmas.{follow_begin, follow_end, follow_more, follow_stop, forced_kept, forced_made, found_there}
use Rattle.asi_cuts.proofs.spread.add_forced.Goals as goal

pub returns-in-Err : goal.returns-in-Err
returns-in-Err c =
    let segments = c.args.segments.now in let kept = c.args.kept.now in let facts = c.args.facts.now in
    first_stops (IsForced segments kept facts) (IsKept segments kept) c.args.set.now c.add_kept.new.set c.in-Err.halt (subst (λ (l : List Cut). length l ≤ 1024) (sym c.requires.none) (omega arith)) c.in-Err.ensures (forced_kept segments kept facts)

pub returns-in-Err-add_all_made : goal.returns-in-Err-add_all_made
returns-in-Err-add_all_made c =
    let segments = c.args.segments.now in let kept = c.args.kept.now in let facts = c.args.facts.now in
    second_stops (IsForced segments kept facts) (IsKept segments kept) (IsMade segments facts) c.args.set.now c.add_kept.new.set c.add_all_made.new.set c.in-Err-add_all_made.halt (subst (λ (l : List Cut). length l ≤ 1024) (sym c.requires.none) (omega arith))
    c.in-Ok.ensures c.in-Err-add_all_made.ensures (forced_kept segments kept facts) (forced_made segments kept facts)

pub loop-cut-init : goal.loop-cut-init
loop-cut-init c = follow_begin c.args.segments.now c.args.kept.now c.args.facts.now c.args.set.now c.add_kept.new.set c.add_all_made.new.set c.requires.none c.in-Ok.ensures c.in-Ok-add_all_made.ensures

pub carry_all-requires-clause-there : goal.carry_all-requires-clause-there
carry_all-requires-clause-there c = found_there c.loop-cut.set c.loop-cut.followed c.in-Some.cut (sym c.nth.ensures ∙ c.in-Some.is)

pub returns-in-Err-carry_all : goal.returns-in-Err-carry_all
returns-in-Err-carry_all c =
    follow_stop c.args.segments.now c.args.kept.now c.args.facts.now c.loop-cut.followed c.in-Some.cut c.args.set.now c.loop-cut.set c.carry_all.new.set c.in-Err-carry_all.halt c.requires.none (sym c.nth.ensures ∙ c.in-Some.is) c.loop-cut.invariant c.in-Err-carry_all.ensures

pub loop-cut-preserved : goal.loop-cut-preserved
loop-cut-preserved c =
    follow_more c.args.segments.now c.args.kept.now c.args.facts.now c.loop-cut.followed c.in-Some.cut c.loop-cut.set c.carry_all.new.set (sym c.nth.ensures ∙ c.in-Some.is) c.loop-cut.invariant c.in-Ok-carry_all.ensures

pub returns : goal.returns
returns c = follow_end c.args.segments.now c.args.kept.now c.args.facts.now c.loop-cut.followed c.args.set.now c.loop-cut.set c.requires.none (sym c.nth.ensures ∙ c.in_default.is) c.loop-cut.invariant
