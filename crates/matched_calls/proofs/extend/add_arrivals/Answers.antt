use Rattle.std.proofs.Common.{◌∙◌, ap, get_or, refl, List, ℕ, ◌++◌, ◌∷◌, [], arith}
use Rattle.matched_calls.proofs.ExtendLemmas.{arriving_all, arriving_more}
use Rattle.matched_calls.proofs.extend.add_arrivals.Goals as goal

pub loop-pair-preserved : goal.loop-pair-preserved
loop-pair-preserved c =
    arriving_more c.args.count c.loop-pair.pair-index c.args.after.now c.args.extended.now.items c.loop-pair.extended.items c.push-in-loop-pair.new.self.items c.bare.result c.push.new.self.items (get_or c.args.after.now c.loop-pair.pair-index (0, 0))
    c.in_ok-push-2.ensures.items c.bare.ensures (c.in_ok-push.ensures.items ∙ ap (λ (xs : List ℕ). xs ++ (get_or c.args.after.now c.loop-pair.pair-index (0, 0)).1 ∷ []) c.new-next.ensures.items) refl c.loop-pair.invariant

pub returns-clause-steps : goal.returns-clause-steps
returns-clause-steps c = arriving_all c.args.count c.loop-pair.pair-index c.args.after.now c.args.extended.now.items c.loop-pair.extended.items (omega arith) c.loop-pair.invariant
