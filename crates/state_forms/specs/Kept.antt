-- What holds of each state of a map. The project's own.
use Rattle.std.specs.Prelude.{List}
use Rattle.std.specs.List.{AllByRecursion}
use Rattle.sweeps.specs.Meaning.{Meaning}

-- a fact that holds of all states that a domain makes of states of which it holds
pub record IsPreserved {P S : Type 0} (m : Meaning P S) (Holds : S → Type 0) : Type 0 where
  pub joins : (s t : S) → Holds s → Holds t → Holds (m.join s t)
  pub widens : (old new : S) → Holds old → Holds new → Holds (m.widen old new)
  pub tops : (old new : S) → Holds old → Holds new → Holds (m.topped old new)
  pub steps : (p : P) (s : S) (others : List (P × S)) → Holds s → AllByRecursion (λ e. Holds e.1) (m.successors p s others)
