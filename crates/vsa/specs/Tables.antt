-- Abstract states as tables: the registers and flags of a state by their numbers. The project's own.
use Rattle.std.specs.Prelude.{ℕ, Bool, true, false, if◌then◌else◌, List, map, get_or, Option}
use Rattle.vset.specs.declared.facts.CmpFact.{CmpFact}
use Rattle.vset.specs.Values.{Values, Top}
use Rattle.abs_semantics.specs.declared.parts.CellValue.{CellValue}
use Rattle.abs_semantics.specs.declared.parts.Known.{Known}
use Rattle.abs_semantics.specs.declared.parts.Link.{Link}
use Rattle.abs_semantics.specs.States.{AbsState}
use Rattle.abs_semantics.specs.Below.{register_numbers, flag_numbers}

pub record Table : Type 0 where
  pub registers : List Values
  -- whether each flag may be set, and whether it may be clear
  pub one : List Bool
  pub zero : List Bool
  pub cells : List CellValue
  pub live : List ℕ
  pub older : List ℕ
  pub links : List Link
  pub aligns : List Known
  pub blocks : List Known
  pub fact : Option CmpFact
  pub root : ℕ

abbrev pub table_of : AbsState → Table
table_of a =
    record {
      registers = map a.registers register_numbers;
      one = map (λ n. a.flags n true) flag_numbers;
      zero = map (λ n. a.flags n false) flag_numbers;
      cells = a.cells;
      live = a.live;
      older = a.older;
      links = a.links;
      aligns = a.aligns;
      blocks = a.blocks;
      fact = a.fact;
      root = a.root;
    }

-- the state of a table; there is no other register and no other flag
abbrev pub state_of : Table → AbsState
state_of t =
    record {
      registers = λ n. get_or t.registers n Top;
      flags = λ n set. get_or (if set then t.one else t.zero) n true;
      cells = t.cells;
      live = t.live;
      older = t.older;
      links = t.links;
      aligns = t.aligns;
      blocks = t.blocks;
      fact = t.fact;
      root = t.root;
    }
