-- About which addresses a question asks. The project's own.
use Rattle.std.specs.Prelude.{◌≡◌, ◌⊎◌, ℕ, List, [], ◌∷◌, Option, Some, None}
use Rattle.flow_graph.specs.declared.graph.FlowNode.{FlowNode}
use Rattle.chops.specs.Answers.{IsPresent}
use Rattle.rounds.specs.declared.round.Round.{Round}
use Rattle.round_answers.specs.declared.question.Question.{Question}
use Rattle.round_answers.specs.declared.question.Question.TheVariants as asks
use Rattle.round_answers.specs.declared.answer.NoAnswer.{NoAnswer}
use Rattle.round_answers.specs.declared.answer.NoAnswer.TheVariants.{Absent, Memory}

-- the addresses that a question names, where something influences before where something depends
abbrev pub addresses_of : Question → List ℕ
addresses_of (asks.Slice at skip_sp) = at ∷ []
addresses_of (asks.Values at) = at ∷ []
addresses_of asks.Locations = []
addresses_of asks.Graph = []
addresses_of (asks.Forward at skip_sp) = at ∷ []
addresses_of (asks.Chop from at skip_sp) = from ∷ at ∷ []
addresses_of (asks.Why from at skip_sp) = from ∷ at ∷ []
addresses_of (asks.Matched at skip_sp) = at ∷ []

-- a node stands at each of these addresses
abbrev pub ArePresent : List FlowNode → List ℕ → Type 0
ArePresent g [] = Unit {0}
ArePresent g (a ∷ others) = IsPresent g a × ArePresent g others

-- it is the first of these addresses at which no node stands
abbrev pub IsFirstAbsent : List FlowNode → List ℕ → ℕ → Type 0
IsFirstAbsent g [] at = ⊥
IsFirstAbsent g (a ∷ others) at = ((at ≡ a) × ¬ IsPresent g a) ⊎ (IsPresent g a × IsFirstAbsent g others at)

-- it is the first address of the question at which the round has no node
abbrev pub IsAbsentIn : Round → Question → ℕ → Type 0
IsAbsentIn r question at = IsFirstAbsent r.graph.flow.nodes (addresses_of question) at

-- the round has a node at each address of the question
abbrev pub HasAll : Round → Question → Type 0
HasAll r question = ArePresent r.graph.flow.nodes (addresses_of question)

-- the first absent one of these addresses, or none where all are present
abbrev pub TellsAbsent : List FlowNode → List ℕ → Option ℕ → Type 0
TellsAbsent g asked None = ArePresent g asked
TellsAbsent g asked (Some at) = IsFirstAbsent g asked at

-- why there is no answer: an address has no node, or each has one and memory is wanting
abbrev pub IsNoAnswer : Round → Question → NoAnswer → Type 0
IsNoAnswer r question (Absent at) = IsAbsentIn r question at
IsNoAnswer r question Memory = HasAll r question
