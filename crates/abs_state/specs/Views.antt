-- How the code's state is seen. The project's own.
use Rattle.std.specs.Prelude.{ℕ, nat_lt, Bool, true, if◌then◌else◌}
use Rattle.vset.specs.declared.facts.AbsFlags.{AbsFlags}
use Rattle.abs_semantics.specs.States.{AbsState as State}
use Rattle.abs_steps.specs.Flags.{allows}
use Rattle.abs_state.specs.declared.state.AbsState.{AbsState}
use Rattle.abs_state.specs.Registers.{register_in}

-- flags by their numbers: whether the flag may be so
abbrev pub flag_in : AbsFlags → ℕ → Bool → Bool
flag_in f n t = if nat_lt n 6 then allows f n t else true

-- the state that the code's lists tell
abbrev pub seen : AbsState → State
seen s =
    record {
      registers = register_in s.registers;
      flags = flag_in s.flags;
      cells = s.cells;
      live = s.live;
      older = s.older;
      links = s.links;
      aligns = s.aligns;
      blocks = s.blocks;
      fact = s.fact;
      root = s.root;
    }
