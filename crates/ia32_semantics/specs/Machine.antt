-- A machine whose runs can be sliced: where a run starts, which steps it may make, and which locations a step reads, writes
-- and forgets. The laws of dependence are stated over any such machine; that of the 32-bit Intel architecture is one. The
-- project's own.
use Rattle.std.specs.Prelude.{ℕ, Bool, List}
use Rattle.ia32_semantics.specs.State.{State, Location}

-- A step that a run made. The words of choice stand for all that may be any in it.
pub record Occurrence (Act : Type 0) : Type 0 where
  pub before : State
  pub act : Act
  pub choices : List ℕ
  pub after : State

pub record Machine : Type 1 where
  -- what a machine does in a step
  pub Act : Type 0
  -- the address at which a run starts
  pub entry : ℕ
  pub IsStart : State → Type 0
  -- the machine may make this step
  pub Happens : Occurrence Act → Type 0
  -- after this step there is none
  pub completes : Occurrence Act → Bool
  -- a jump on a condition, or an indirect jump or call
  pub is_branch : Act → Bool
  pub reads : Occurrence Act → Location → Bool
  pub writes : Occurrence Act → Location → Bool
  -- after the step the location has no last writer, and may hold anything
  pub forgets : Occurrence Act → Location → Bool
  -- a call stands at this site, and this is the place after it
  pub IsPlaceAfter : ℕ → ℕ → Type 0
