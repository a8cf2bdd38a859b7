-- Places at which an analysis keeps states apart: a procedure, the newest call sites that led to it, and an address. The project's own.
use Rattle.std.specs.Prelude.{ℕ, ◌∷◌, ◌++◌, [], List, take, reverse, Bool, if◌then◌else◌, nat_eq}
use Rattle.std.specs.declared.cmp.Ordering.{Ordering}
use Rattle.std.specs.Ordering.{nat_cmp, on, then_cmp, is_lt}
use Rattle.std.specs.Cmp.Lexicographic.{pointwise, slice_cmp}
use Rattle.std.specs.List.{list_any}
use Rattle.call_strings.specs.declared.context.Context.{Context}
use Rattle.call_strings.specs.declared.context.Node.{Node}

-- the context after a call at a site, with the newest k sites
abbrev pub pushed : ℕ → ℕ → ℕ → Context → Context
pushed k site callee c = record { proc = callee; sites = take k (site ∷ c.sites) }

-- all that a node holds, as numbers: equal numbers make equal nodes
abbrev pub numbers_of : Node → List ℕ
numbers_of n = n.at ∷ n.context.proc ∷ n.context.sites

abbrev pub same_node : Node → Node → Bool
same_node = on numbers_of (pointwise nat_eq)

-- the nodes of a table after a node has come
abbrev pub with_node : List Node → Node → List Node
with_node nodes n = (if list_any (same_node n) nodes then nodes else nodes ++ n ∷ [])

-- -- The order of nodes: by procedure, then by sites from the oldest on, then by address

abbrev pub place_cmp : Node → Node → Ordering
place_cmp a b = then_cmp (on (λ n. reverse n.context.sites) (slice_cmp nat_cmp)) (on (λ n. n.at) nat_cmp) a b

unfoldable pub node_cmp : Node → Node → Ordering
node_cmp a b = then_cmp (on (λ n. n.context.proc) nat_cmp) place_cmp a b

abbrev pub node_before : Node → Node → Bool
node_before a b = is_lt (node_cmp a b)
