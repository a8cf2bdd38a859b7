use Rattle.std.proofs.Common.{ℕ, List, set, true, subst, sym, arith}
use Rattle.std.specs.Prelude.{◌≡◌}
use Rattle.std.proofs.lemmas.Grind.{common_steps}
use Rattle.flow_graph.specs.Walks.{Follows}
use Rattle.flow_graph.proofs.WalkLemmas.{follows-new}
use Rattle.flow_graph.proofs.walks.mark.Goals as goal

pub returns-in_ok-push : goal.returns-in_ok-push
returns-in_ok-push c =
    subst (λ (work : List ℕ). Follows (λ n. n ≡ c.args.node) c.args.marks.now c.args.work.now.items (set c.args.marks.now c.args.node true) work) (sym c.in_ok-push.ensures.items)
    (follows-new c.args.marks.now c.args.work.now.items c.args.node c.if-place-marks.true (grind (arith, common_steps)))
