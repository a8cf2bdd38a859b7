-- The nodes that states of a run, and its calls, have: an address in a context, which is the running procedure and the sites of its
-- newest calls. The project's own, after call strings of bounded length.
use Rattle.std.specs.Prelude.{◌≡◌, ℕ, List, [], ◌∷◌, map, take}
use Rattle.image_map.specs.declared.region.Activation.{Activation}
use Rattle.call_strings.specs.declared.context.Context.{Context}
use Rattle.call_strings.specs.declared.context.Node.{Node}
use Rattle.ia32_semantics.specs.State.{State, pending}

-- the procedure of the newest activation
abbrev pub running : List Activation → ℕ
running [] = 0
running (newest ∷ older) = newest.callee

-- the sites of the calls that haven't returned, the newest first
abbrev pub sites_of : List Activation → List ℕ
sites_of activations = map (λ call. call.0) (pending activations)

-- the context of these activations, with the sites of the newest so many calls
abbrev pub context_of : ℕ → List Activation → Context
context_of depth activations = record { proc = running activations; sites = take depth (sites_of activations) }

-- the node of a place that these activations have come to
abbrev pub node_at : ℕ → List Activation → ℕ → Node
node_at depth activations place = record { context = context_of depth activations; at = place }

-- a state and the call of each activation have a node
abbrev pub node_of : ℕ → State → Node
node_of depth s = node_at depth s.activations s.eip

-- the node at which a run starts
abbrev pub entry_node : ℕ → Node
entry_node entry = record { context = record { proc = entry; sites = [] }; at = entry }

-- the oldest activation is of this procedure
abbrev pub IsRooted : ℕ → List Activation → Type 0
IsRooted entry [] = ⊥
IsRooted entry (oldest ∷ []) = oldest.callee ≡ entry
IsRooted entry (newest ∷ before ∷ others) = IsRooted entry (before ∷ others)
