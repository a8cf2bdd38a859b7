-- A state in which some cells may hold every value stands for no less.
use Rattle.std.proofs.Common.{cond}
use Rattle.std.proofs.lemmas.Bool.{cond_both}
use Rattle.ia32_semantics.specs.State.{little_endian}
use Rattle.vset.specs.Values.{Top}
use Rattle.vset.specs.Members.{HasValue}
use Rattle.abs_semantics.specs.States.{value_at}
use Rattle.abs_semantics.specs.StandsFor.{world_of}
use Rattle.abs_semantics.specs.Laws.{ClearedCellsStandForMore}
use Rattle.abs_semantics.proofs.CellLemmas.{rebuilt_value}

pub cleared_cells : ClearedCellsStandForMore
cleared_cells lane is_lost a s h =
    record {
      registers = h.registers;
      flags = h.flags;
      cells = λ t c at len bytes lies read.
          rebuilt_value (HasValue lane (world_of s) (little_endian bytes)) c (λ d. cond (is_lost d) Top (value_at a d)) a.cells tt
          (cond_both (is_lost c) Top (value_at a c) (HasValue lane (world_of s) (little_endian bytes)) (λ _. tt) (λ _. h.cells t c at len bytes lies read));
      root = h.root;
      live = h.live;
      older = h.older;
      links = h.links;
      aligns = h.aligns;
      blocks = h.blocks;
      fact = h.fact;
    }
