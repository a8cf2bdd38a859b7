-- Hops along a path.
use Rattle.std.proofs.Common.{◌≡◌, ℕ, Option, Some, None, List, [], ◌∷◌, ◌++◌, reverse, refl, sym, ◌∙◌, ap, subst}
use Rattle.std.proofs.lemmas.List.{reverse-append, append_assoc}
use Rattle.flow_graph.specs.declared.graph.FlowNode.{FlowNode}
use Rattle.chops.specs.declared.hops.Hop.{Hop}
use Rattle.chops.specs.Hops.{IsHop, AreHops, first_of}

-- the rest of a trace has no hops yet
pub record Hopping (Edge : ℕ → ℕ → Type 0) (g : List FlowNode) (trace rest : List ℕ) (before : Option ℕ) (hops : List Hop) : Type 0 where
  pub done : List ℕ
  pub whole : trace ≡ rest ++ done
  pub last : before ≡ first_of done
  pub hop : AreHops Edge g done (reverse hops)

pub hopping_none : (Edge : ℕ → ℕ → Type 0) (g : List FlowNode) (trace : List ℕ) → trace ≡ trace ++ [] → Hopping Edge g trace trace None []
hopping_none Edge g trace whole = record { done = []; whole = whole; last = refl; hop = tt }

pub hopping_more : (Edge : ℕ → ℕ → Type 0) (g : List FlowNode) (trace rest others : List ℕ) (n : ℕ) (before : Option ℕ) (hops : List Hop) (hop : Hop) → rest ≡ others ++ n ∷ [] → IsHop Edge g before n hop → Hopping Edge g trace rest before hops → Hopping Edge g trace others (Some n) (hops ++ hop ∷ [])
hopping_more Edge g trace rest others n before hops hop split is h = record {
  done = n ∷ h.done;
  whole = h.whole ∙ ap (λ (xs : List ℕ). xs ++ h.done) split ∙ append_assoc others (n ∷ []) h.done;
  last = refl;
  hop = subst (λ (hs : List Hop). AreHops Edge g (n ∷ h.done) hs) (sym (reverse-append hops (hop ∷ []))) (subst (λ o. IsHop Edge g o n hop) h.last is, h.hop);
}

pub hopping_all : (Edge : ℕ → ℕ → Type 0) (g : List FlowNode) (trace rest : List ℕ) (before : Option ℕ) (hops : List Hop) → rest ≡ [] → Hopping Edge g trace rest before hops → AreHops Edge g trace (reverse hops)
hopping_all Edge g trace rest before hops none h = subst (λ (xs : List ℕ). AreHops Edge g xs (reverse hops)) (sym (h.whole ∙ ap (λ (xs : List ℕ). xs ++ h.done) none)) h.hop
