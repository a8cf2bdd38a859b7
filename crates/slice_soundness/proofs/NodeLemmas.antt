-- Nodes of states and of calls.
use Rattle.std.proofs.Common.{◌≡◌, ℕ, zero, suc, List, [], ◌∷◌, take, map, refl, sym, ap, ◌∙◌}
use Rattle.image_map.specs.declared.region.Activation.{Activation}
use Rattle.ia32_semantics.specs.State.{pending}
use Rattle.call_strings.specs.declared.context.Context.{Context}
use Rattle.call_strings.specs.declared.context.Node.{Node}
use Rattle.slice_soundness.specs.Nodes.{running, sites_of, node_at, IsRooted}

-- nodes with the same parts are the same
pub node_is : (p q : ℕ) (s t : List ℕ) (a b : ℕ) → p ≡ q → s ≡ t → a ≡ b → ◌≡◌ {A = Node} (record { context = record { proc = p; sites = s }; at = a }) (record { context = record { proc = q; sites = t }; at = b })
node_is p q s t a b e f g = λ i. record { context = record { proc = e i; sites = f i }; at = g i }

pub context_is : (p : ℕ) (s t : List ℕ) → s ≡ t → ◌≡◌ {A = Context} (record { proc = p; sites = s }) (record { proc = p; sites = t })
context_is p s t e = λ i. record { proc = p; sites = e i }

take_more : (k : ℕ) (sites : List ℕ) → take k (take (suc k) sites) ≡ take k sites
take_more zero sites = refl
take_more (suc k) [] = refl
take_more (suc k) (x ∷ sites) = ap (λ rest. x ∷ rest) (take_more k sites)

-- of what is pushed no more than the newest sites count
pub pushed_taken : (k site : ℕ) (sites : List ℕ) → take k (site ∷ take k sites) ≡ take k (site ∷ sites)
pushed_taken zero site sites = refl
pushed_taken (suc k) site sites = ap (λ rest. site ∷ rest) (take_more k sites)

-- the sites above some activations, by theirs
pub sites_above : (k : ℕ) (new before : Activation) (others : List Activation) → take k (sites_of (new ∷ before ∷ others)) ≡ take k (new.site ∷ take k (sites_of (before ∷ others)))
unfolding pending
sites_above k new before others = sym (pushed_taken k new.site (sites_of (before ∷ others)))

-- the sites after a call, by those before it
pub sites_pushed : (entry k : ℕ) (new : Activation) (activations : List Activation) → IsRooted entry activations → take k (sites_of (new ∷ activations)) ≡ take k (new.site ∷ take k (sites_of activations))
sites_pushed entry k new [] rooted = absurd rooted
sites_pushed entry k new (x ∷ xs) rooted = sites_above k new x xs

pub rooted_more : (entry : ℕ) (new : Activation) (activations : List Activation) → IsRooted entry activations → IsRooted entry (new ∷ activations)
rooted_more entry new [] rooted = absurd rooted
rooted_more entry new (x ∷ xs) rooted = rooted

-- -- Equal pending lists give equal nodes

-- the running procedure by the pending calls
called : ℕ → List (ℕ × ℕ) → ℕ
called entry [] = entry
called entry (call ∷ rest) = call.1

running_by : (entry : ℕ) (activations : List Activation) → IsRooted entry activations → running activations ≡ called entry (pending activations)
unfolding pending called
running_by entry [] rooted = absurd rooted
running_by entry (oldest ∷ []) rooted = rooted
running_by entry (newest ∷ before ∷ others) rooted = refl

pub same_calls : (entry k : ℕ) (xs ys : List Activation) (x y : ℕ) → IsRooted entry xs → IsRooted entry ys → pending xs ≡ pending ys → x ≡ y → node_at k xs x ≡ node_at k ys y
same_calls entry k xs ys x y one two same at =
    node_is (running xs) (running ys) (take k (sites_of xs)) (take k (sites_of ys)) x y
    (running_by entry xs one ∙ ap (called entry) same ∙ sym (running_by entry ys two))
    (ap (λ calls. take k (map (λ call. call.0) calls)) same)
    at
