-- What the sweeps ask of the order of nodes.
use Rattle.std.proofs.Common.{◌≡◌, ℕ, Bool, true, false, List, reverse, refl, sym, ap, ◌∙◌}
use Rattle.std.proofs.lemmas.Bool.{true≢false}
use Rattle.std.proofs.lemmas.List.{reverse-reverse}
use Rattle.std.specs.Cmp.Lexicographic.{slice_cmp, same_text, texts_ties}
use Rattle.std.specs.Ordering.{is_eq, nat_cmp}
use Rattle.call_strings.specs.declared.context.Node.{Node}
use Rattle.call_strings.specs.Nodes.{place_cmp, node_cmp, node_before}
use Rattle.call_strings.proofs.OrderLaws.{node_total}
use Rattle.image_map.proofs.OrderLemmas.{before-trans, before-irreflexive, before-total}
use Rattle.image_map.proofs.OrderLaws.{both_tied, number_equal}

same_sites : (xs ys : List ℕ) → is_eq (slice_cmp nat_cmp xs ys) ≡ true → xs ≡ ys
same_sites xs ys h = same_text xs ys (sym (texts_ties xs ys ∙ h))

pub node_equal : (a b : Node) → is_eq (node_cmp a b) ≡ true → a ≡ b
unfolding node_cmp
node_equal a b h =
    let outer = both_tied (nat_cmp a.context.proc b.context.proc) (place_cmp a b) h in
    let inner = both_tied (slice_cmp nat_cmp (reverse a.context.sites) (reverse b.context.sites)) (nat_cmp a.at b.at) outer.1 in
    let proc : a.context.proc ≡ b.context.proc = number_equal a.context.proc b.context.proc outer.0 in
    let sites : a.context.sites ≡ b.context.sites = sym (reverse-reverse a.context.sites) ∙ ap reverse (same_sites (reverse a.context.sites) (reverse b.context.sites) inner.0) ∙ reverse-reverse b.context.sites in
    let at : a.at ≡ b.at = number_equal a.at b.at inner.1 in
    λ i. record { context = record { proc = proc i; sites = sites i }; at = at i }

pub nodes_irreflexive : (a : Node) → node_before a a ≡ false
nodes_irreflexive a = before-irreflexive node_total a

pub nodes_transitive : (a b c : Node) → node_before a b ≡ true → node_before b c ≡ true → node_before a c ≡ true
nodes_transitive a b c h k = before-trans node_total a b c h k

pub nodes_total : (a b : Node) → node_before a b ≡ false → node_before b a ≡ false → a ≡ b
nodes_total a b h k = by (is_eq (node_cmp a b)) refl
  where
    by : (t : Bool) → is_eq (node_cmp a b) ≡ t → a ≡ b
    by true e = node_equal a b e
    by false e = absurd (true≢false (sym (before-total node_total a b e h) ∙ k))
