-- What a domain of abstract states means. The project's own.
use Rattle.std.specs.Prelude.{◌≡◌, ℕ, Bool, true, false, List}

pub record Meaning (P S : Type 0) : Type 0 where
  -- the order of places
  pub before : P → P → Bool
  pub address : P → ℕ
  -- the successors of the first place are made of the second's state too
  pub concerns : P → P → Bool
  -- Where control may go from a place that has this state, with which states. The others are the places that concern it, in their
  -- order, with their states.
  pub successors : P → S → List (P × S) → List (P × S)
  pub join : S → S → S
  -- the old state widened by the new one
  pub widen : S → S → S
  -- the new state, with everything allowed wherever it differs from the old one
  pub topped : S → S → S
  pub below : S → S → Bool
  pub same : S → S → Bool

-- What is asked of a domain: its places are in one strict order, and a state is the same as itself.
pub record IsLawful {P S : Type 0} (m : Meaning P S) : Type 0 where
  pub irreflexive : (p : P) → m.before p p ≡ false
  pub transitive : (p q r : P) → m.before p q ≡ true → m.before q r ≡ true → m.before p r ≡ true
  pub total : (p q : P) → m.before p q ≡ false → m.before q p ≡ false → p ≡ q
  pub same_as_itself : (s : S) → m.same s s ≡ true
