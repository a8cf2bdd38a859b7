use Rattle.std.proofs.Common.{ℕ, List, subst}
use Rattle.slicer.specs.Search.{Follows, Grows}
use Rattle.chops.specs.Following.{IsAfter}
use Rattle.chops.proofs.AlongLemmas.{both_edges, first_edges, followed_edges, skipped_edges}
use Rattle.chops.proofs.search.follow_edges.Goals as goal

pub returns-then-not-skip_sp-clause-grows : goal.returns-then-not-skip_sp-clause-grows
returns-then-not-skip_sp-clause-grows c =
    both_edges c.args.edges.now.ordinary c.args.edges.now.sp c.args.skip_sp c.args.queue.now.nodes c.sweep.new.queue.nodes c.sweep-then-not-skip_sp.new.queue.nodes
    (λ skip. let kept = c.if-not-skip_sp.true in absurd (cc))
    (subst (λ (pairs : List (ℕ × ℕ)). Grows (IsAfter pairs) c.args.queue.now.nodes c.sweep.new.queue.nodes) c.as_slice.ensures c.sweep.ensures.grows)
    (subst (λ (pairs : List (ℕ × ℕ)). Grows (IsAfter pairs) c.sweep.new.queue.nodes c.sweep-then-not-skip_sp.new.queue.nodes) c.as_slice-then-not-skip_sp.ensures c.sweep-then-not-skip_sp.ensures.grows)

pub returns-then-not-skip_sp-clause-follows : goal.returns-then-not-skip_sp-clause-follows
returns-then-not-skip_sp-clause-follows c =
    followed_edges c.args.edges.now.ordinary c.args.edges.now.sp c.args.skip_sp c.args.queue.now.nodes c.sweep.new.queue.nodes c.sweep-then-not-skip_sp.new.queue.nodes
    (subst (λ (pairs : List (ℕ × ℕ)). Grows (IsAfter pairs) c.args.queue.now.nodes c.sweep.new.queue.nodes) c.as_slice.ensures c.sweep.ensures.grows)
    (subst (λ (pairs : List (ℕ × ℕ)). Grows (IsAfter pairs) c.sweep.new.queue.nodes c.sweep-then-not-skip_sp.new.queue.nodes) c.as_slice-then-not-skip_sp.ensures c.sweep-then-not-skip_sp.ensures.grows)
    (subst (λ (pairs : List (ℕ × ℕ)). Follows (IsAfter pairs) c.args.queue.now.nodes c.sweep.new.queue.nodes) c.as_slice.ensures c.sweep.ensures.follows)
    (subst (λ (pairs : List (ℕ × ℕ)). Follows (IsAfter pairs) c.sweep.new.queue.nodes c.sweep-then-not-skip_sp.new.queue.nodes) c.as_slice-then-not-skip_sp.ensures c.sweep-then-not-skip_sp.ensures.follows)

pub returns-else-not-skip_sp-clause-grows : goal.returns-else-not-skip_sp-clause-grows
returns-else-not-skip_sp-clause-grows c =
    first_edges c.args.edges.now.ordinary c.args.edges.now.sp c.args.skip_sp c.args.queue.now.nodes c.sweep.new.queue.nodes
    (subst (λ (pairs : List (ℕ × ℕ)). Grows (IsAfter pairs) c.args.queue.now.nodes c.sweep.new.queue.nodes) c.as_slice.ensures c.sweep.ensures.grows)

pub returns-else-not-skip_sp-clause-follows : goal.returns-else-not-skip_sp-clause-follows
returns-else-not-skip_sp-clause-follows c =
    skipped_edges c.args.edges.now.ordinary c.args.edges.now.sp c.args.skip_sp c.args.queue.now.nodes c.sweep.new.queue.nodes c.if-not-skip_sp.false
    (subst (λ (pairs : List (ℕ × ℕ)). Follows (IsAfter pairs) c.args.queue.now.nodes c.sweep.new.queue.nodes) c.as_slice.ensures c.sweep.ensures.follows)
