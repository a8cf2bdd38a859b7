-- Nodes in a list without repeats.
use Rattle.std.proofs.Common.{◌≡◌, ◌≢◌, ℕ, List, Bool, true, false, Some, sym, ◌∙◌, ap, subst, position, slice_get, get_or}
use Rattle.std.specs.Bool.{Decides}
use Rattle.std.specs.Cmp.{IsEquivalence}
use Rattle.std.specs.List.{AllPairs, IsDistinct, Contains, list_any}
use Rattle.std.proofs.lemmas.Cmp.{on_equiv, nat_list_eq_equiv}
use Rattle.std.proofs.lemmas.Map.Made.{AllPairs-from_IsDistinct}
use Rattle.std.proofs.lemmas.Map.Views.{list_any-from_Contains, Contains-from_any}
use Rattle.std.proofs.lemmas.List.Quantifiers.{position-Some}
use Rattle.std.proofs.lemmas.Option.{slice_get-get_or}
use Rattle.call_strings.specs.declared.context.Node.{Node}
use Rattle.call_strings.specs.Nodes.{same_node, numbers_of}
use Rattle.call_strings.specs.NodeKeys.{same_is}

node_equiv : IsEquivalence same_node
node_equiv = on_equiv numbers_of nat_list_eq_equiv

same_decides : (a b : Node) → Decides (same_node a b) (a ≡ b)
same_decides a b = (same_is a b, λ e. subst (λ m. same_node a m ≡ true) e (node_equiv.refl a))

pub different : (nodes : List Node) → IsDistinct same_node nodes → AllPairs (λ x y. x ≢ y) nodes
different nodes d = AllPairs-from_IsDistinct same_decides nodes d

-- the place at which a node is found has it
pub found_at : (nodes : List Node) (n : Node) (i : ℕ) → position (same_node n) nodes ≡ Some i → slice_get nodes i ≡ Some n
found_at nodes n i e =
    let p = position-Some (same_node n) nodes i n e in
    slice_get-get_or nodes i n p.0 ∙ ap Some (sym (same_is n (get_or nodes i n) p.1))

pub is_there : (nodes : List Node) (n : Node) → list_any (same_node n) nodes ≡ true → Contains nodes n
is_there nodes n e = Contains-from_any same_is n nodes e

pub not_there : (nodes : List Node) (n : Node) → list_any (same_node n) nodes ≡ false → Contains nodes n → ⊥
not_there nodes n e has = clash (list_any (same_node n) nodes) e (list_any-from_Contains node_equiv n nodes has)
  where
    clash : (b : Bool) → b ≡ false → b ≡ true → ⊥
    clash true e f = cc
    clash false e f = cc
