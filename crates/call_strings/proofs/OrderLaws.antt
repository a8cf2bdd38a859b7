-- The order of nodes.
use Rattle.std.proofs.Common.{◌≡◌, ℕ, Bool, true, false, cond, reverse, nat_lt, refl, ap, sym, subst, ◌∙◌, arith, eq-eqb}
use Rattle.std.specs.Prelude.{◌==◌}
use Rattle.std.specs.Cmp.{IsTotalOrder, nat_cmp_total, on_total, then_total, tied_itself}
use Rattle.std.specs.Cmp.Lexicographic.{nat_list_cmp_total}
use Rattle.std.specs.declared.cmp.Ordering.{Ordering}
use Rattle.std.specs.declared.cmp.Ordering.TheVariants.{Less, Equal, Greater}
use Rattle.std.specs.Ordering.{nat_cmp, ordering_then, is_lt}
use Rattle.call_strings.specs.declared.context.Node.{Node}
use Rattle.call_strings.specs.Nodes.{place_cmp, node_cmp, node_before}

pub node_total : IsTotalOrder node_cmp
unfolding node_cmp
node_total =
    then_total (on_total (λ n. n.context.proc) nat_cmp_total) (then_total (on_total (λ n. reverse n.context.sites) nat_list_cmp_total) (on_total (λ n. n.at) nat_cmp_total))

pub before_in_one : (a b : Node) → a.context.proc ≡ b.context.proc → is_lt (place_cmp a b) ≡ node_before a b
unfolding node_cmp
before_in_one a b e =
    let same : nat_cmp a.context.proc b.context.proc ≡ Equal = subst (λ p. nat_cmp a.context.proc p ≡ Equal) e (tied_itself nat_cmp_total a.context.proc) in
    ap (λ o. is_lt (ordering_then o (place_cmp a b))) (sym same)

go : (below same : Bool) (x : Ordering) → same ≡ false → below ≡ is_lt (ordering_then (cond below Less (cond same Equal Greater)) x)
go true same x e = refl
go false true x e = absurd (cc)
go false false x e = refl

pub before_in_others : (a b : Node) → (a.context.proc ≡ b.context.proc → ⊥) → nat_lt a.context.proc b.context.proc ≡ node_before a b
unfolding node_cmp
before_in_others a b h = go (nat_lt a.context.proc b.context.proc) (a.context.proc == b.context.proc) (place_cmp a b) (grind arith)
