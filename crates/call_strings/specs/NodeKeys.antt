-- Nodes that hold the same numbers are the same, and are hashed alike: what a table of nodes by hash has to know of them.
use Rattle.std.specs.Prelude.{◌≡◌, ℕ, List, [], ◌∷◌, ◌++◌, true, IsTrue}
use Rattle.std.proofs.Common.{sym, ap}
use Rattle.std.specs.Hash as fed
use Rattle.std.specs.Cmp.Lexicographic.{same_text}
use Rattle.call_strings.specs.declared.context.Node.{Node}
use Rattle.call_strings.specs.Nodes.{same_node, numbers_of}

-- the node of such numbers
abbrev node_of : List ℕ → Node
node_of [] = record { context = record { proc = 0; sites = [] }; at = 0 }
node_of (at ∷ []) = record { context = record { proc = 0; sites = [] }; at = at }
node_of (at ∷ proc ∷ sites) = record { context = record { proc = proc; sites = sites }; at = at }

pub same_is : (a b : Node) → same_node a b ≡ true → a ≡ b
same_is a b e = ap node_of (same_text (numbers_of a) (numbers_of b) (sym e))

pub same_hash : (a b : Node) → IsTrue (same_node a b) → (fed.u32 a.at ++ fed.u32 a.context.proc ++ fed.slice fed.u32 a.context.sites) ≡ (fed.u32 b.at ++ fed.u32 b.context.proc ++ fed.slice fed.u32 b.context.sites)
same_hash a b e = ap (λ n. fed.u32 n.at ++ fed.u32 n.context.proc ++ fed.slice fed.u32 n.context.sites) (same_is a b e)
