-- The hops along the shortest path are one list.
use Rattle.std.proofs.Common.{◌≡◌, ⊎_elim, ℕ, Option, Some, None, List, [], ◌∷◌, reverse, refl, sym, subst, ap, ◌∙◌}
use Rattle.std.proofs.lemmas.List.{reverse-reverse}
use Rattle.flow_graph.specs.declared.graph.FlowNode.{FlowNode}
use Rattle.flow_graph.specs.FlowGraph.{IsAt}
use Rattle.slicer.specs.Slicer.{Arrow}
use Rattle.chops.specs.declared.hops.Hop.{Hop}
use Rattle.chops.specs.declared.hops.HopKind.{HopKind}
use Rattle.chops.specs.declared.hops.HopKind.TheVariants.{First, ByPlace, ByBranch}
use Rattle.chops.specs.Hops.{AreHops, IsHop, IsKind, IsPath, IsWhy, first_of}
use Rattle.chops.proofs.PathLemmas.{one_shortest}
use Rattle.slice_soundness.proofs.ControlLemmas.{one_address}

one_kind : (Edge : ℕ → ℕ → Type 0) (before : Option ℕ) (n : ℕ) (a b : HopKind) → IsKind Edge before n a → IsKind Edge before n b → a ≡ b
one_kind Edge None n First First h k = refl
one_kind Edge None n First ByPlace h k = absurd k
one_kind Edge None n First ByBranch h k = absurd k
one_kind Edge None n ByPlace b h k = absurd h
one_kind Edge None n ByBranch b h k = absurd h
one_kind Edge (Some m) n First b h k = absurd h
one_kind Edge (Some m) n ByPlace First h k = absurd k
one_kind Edge (Some m) n ByPlace ByPlace h k = refl
one_kind Edge (Some m) n ByPlace ByBranch h k = absurd (k h)
one_kind Edge (Some m) n ByBranch First h k = absurd k
one_kind Edge (Some m) n ByBranch ByPlace h k = absurd (h k)
one_kind Edge (Some m) n ByBranch ByBranch h k = refl

one_hop : (Edge : ℕ → ℕ → Type 0) (g : List FlowNode) (before : Option ℕ) (n : ℕ) (a b : Hop) → IsHop Edge g before n a → IsHop Edge g before n b → a ≡ b
one_hop Edge g before n a b h k =
    let at : a.at ≡ b.at = one_address g n a.at b.at h.stands k.stands in
    let kind : a.kind ≡ b.kind = one_kind Edge before n a.kind b.kind h.comes k.comes in
    λ i. record { at = at i; kind = kind i }

one_hops : (Edge : ℕ → ℕ → Type 0) (g : List FlowNode) (ns : List ℕ) (xs ys : List Hop) → AreHops Edge g ns xs → AreHops Edge g ns ys → xs ≡ ys
one_hops Edge g [] [] [] h k = refl
one_hops Edge g [] [] (y ∷ ys) h k = absurd k
one_hops Edge g [] (x ∷ xs) ys h k = absurd h
one_hops Edge g (n ∷ ns) [] ys h k = absurd h
one_hops Edge g (n ∷ ns) (x ∷ xs) [] h k = absurd k
one_hops Edge g (n ∷ ns) (x ∷ xs) (y ∷ ys) h k =
    let first : x ≡ y = one_hop Edge g (first_of ns) n x y h.0 k.0 in
    let rest : xs ≡ ys = one_hops Edge g ns xs ys h.1 k.1 in
    λ i. first i ∷ rest i

one_path : (Edge : ℕ → ℕ → Type 0) (g : List FlowNode) (from to : ℕ) (ms ns : List ℕ) → IsPath Edge g from to ms → IsPath Edge g from to ns → reverse ms ≡ reverse ns
one_path Edge g from to ms ns a b =
    ⊎_elim
    (λ shortest.
    ⊎_elim
    (λ other. one_shortest (Arrow Edge g) (IsAt g from) (IsAt g to) (reverse ms) (reverse ns) shortest other)
    (λ none. absurd (none.1 (reverse ms) shortest.path)) b)
    (λ none.
    ⊎_elim
    (λ shortest. absurd (none.1 (reverse ns) shortest.path))
    (λ other. ap (λ (xs : List ℕ). reverse xs) (none.0 ∙ sym other.0)) b)
    a

pub one_why : (Edge : ℕ → ℕ → Type 0) (g : List FlowNode) (from to : ℕ) (xs ys : List Hop) → IsWhy Edge g from to xs → IsWhy Edge g from to ys → xs ≡ ys
one_why Edge g from to xs ys a b =
    let path : reverse a.0 ≡ reverse b.0 = one_path Edge g from to a.0 b.0 a.1 b.1 in
    let same : reverse xs ≡ reverse ys = one_hops Edge g (reverse b.0) (reverse xs) (reverse ys) (subst (λ (ns : List ℕ). AreHops Edge g ns (reverse xs)) path a.2) b.2 in
    sym (reverse-reverse xs) ∙ ap (λ (hs : List Hop). reverse hs) same ∙ reverse-reverse ys
