-- What is kept by states that two become one of: the one form of all intervals, and that lists rise. The project's own.
use Rattle.std.specs.Prelude.{◌≡◌, ℕ, nat_lt, Bool, true, List, [], ◌∷◌}
use Rattle.image_map.specs.Regions.{region_before}
use Rattle.abs_semantics.specs.declared.parts.Known.{Known}
use Rattle.abs_semantics.specs.declared.parts.Link.{Link}
use Rattle.abs_semantics.specs.States.{AbsState, HasCanonical}
use Rattle.abs_semantics.specs.Joins.{link_before, joined_state, widened_state}

abbrev pub JoinsKeepForm : Type 0
JoinsKeepForm = (a b : AbsState) → HasCanonical a → HasCanonical b → HasCanonical (joined_state a b)

abbrev pub WideningsKeepForm : Type 0
WideningsKeepForm = (old new : AbsState) → HasCanonical old → HasCanonical new → HasCanonical (widened_state old new)

-- one stands before each of some
abbrev pub IsBeforeAll : {A : Type 0} → (A → A → Bool) → A → List A → Type 0
IsBeforeAll before x [] = Unit {0}
IsBeforeAll before x (y ∷ ys) = (before x y ≡ true) × IsBeforeAll before x ys

-- each stands before those that follow
abbrev pub Rise : {A : Type 0} → (A → A → Bool) → List A → Type 0
Rise before [] = Unit {0}
Rise before (x ∷ xs) = IsBeforeAll before x xs × Rise before xs

abbrev pub number_before : ℕ → ℕ → Bool
number_before m n = nat_lt m n

-- procedures that run, in both states and in the join
abbrev pub JoinsKeepRising : Type 0
JoinsKeepRising =
    (a b : AbsState) → Rise number_before a.live → Rise number_before a.older → Rise number_before (joined_state a b).live × Rise number_before (joined_state a b).older
