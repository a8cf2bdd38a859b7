-- What steps do at the edges of the rules, computed.
use Rattle.std.proofs.Common.{◌≡◌, ℕ, Bool, true, false, List, [], ◌∷◌, Option, Some, None, refl, ℤ}
use Rattle.std.specs.Prelude.{◌==◌, if◌then◌else◌, pos, negsuc}
use Rattle.std.specs.Int.{int_wrap}
use Rattle.image_map.specs.declared.region.RegionId.{RegionId}
use Rattle.image_map.specs.declared.region.RegionId.TheVariants.{Global, Frame, OldFrame, Heap, OldHeap}
use Rattle.image_map.specs.Regions.{region_cmp, cell_cmp}
use Rattle.ia32_types.specs.declared.Reg.TheVariants.{Eax, Ecx, Esp}
use Rattle.ia32_types.specs.declared.Width.TheVariants.{D32}
use Rattle.ia32_types.specs.declared.Operand.{Operand}
use Rattle.ia32_types.specs.declared.Operand.TheVariants as operand
use Rattle.ia32_types.specs.declared.Op.{Op}
use Rattle.ia32_types.specs.declared.Op.TheVariants as op
use Rattle.ia32_types.specs.declared.Instr.{Instr}
use Rattle.ia32_semantics.specs.Effects.{Whole}
use Rattle.strided.specs.Gcd.{gcd, gcd_within}
use Rattle.strided.specs.Interval.{interval, one}
use Rattle.strided.specs.Operations as strided
use Rattle.alocs.specs.Cells.{Division}
use Rattle.vset.specs.declared.facts.CmpFact.{CmpFact}
use Rattle.vset.specs.declared.facts.CmpPlace.TheVariants as place
use Rattle.vset.specs.Values.{Values, Top, Parts, settled}
use Rattle.vset.specs.Operations.{part, age, also, drop_region, with_renamed, with_part, sub, gathered}
use Rattle.abs_semantics.specs.declared.parts.CellValue.{CellValue}
use Rattle.abs_semantics.specs.declared.parts.Link.{Link}
use Rattle.abs_semantics.specs.declared.parts.Known.{Known}
use Rattle.abs_semantics.specs.declared.parts.RangeValue.TheVariants as range
use Rattle.abs_semantics.specs.States.{AbsState, rebuilt}
use Rattle.abs_semantics.specs.Joins.{links_of}
use Rattle.abs_semantics.specs.Operands.{operand_value}
use Rattle.abs_alu.specs.Operands.{known as known_word}
use Rattle.si_bits.specs.Operations as bits
use Rattle.si_bits.specs.Concrete.{low_of}
use Rattle.abs_cmp.specs.Refine.{refine}
use Rattle.abs_cmp.specs.Rows as compared
use Rattle.abs_steps.specs.Flags.{even_condition, may_hold}
use Rattle.abs_steps.specs.Calls.{called, returned, allocated}
use Rattle.abs_steps.specs.Effects.{AbsEffect, puts, fills, learns}
use Rattle.abs_steps.specs.Strings.{stored}
use Rattle.abs_steps.specs.Views.{value_of, store_to, store}
use Rattle.abs_steps.specs.Results.{is_zero, aligned_or, keeps_flags}
use Rattle.abs_steps.specs.Rows.{row, view_of, learned_by}
use Rattle.abs_steps.specs.Successors.{side, takes_too_much}

-- -- States

-- activations of procedure 2 are cut at both ends of the return slot
abbrev slot_cells : Division
slot_cells = record { lists = record { region = Frame 2; cuts = pos 0 ∷ pos 4 ∷ [] } ∷ []; image = [] }

abbrev cell : RegionId → ℤ → ℤ → Values → CellValue
cell r start end v = record { cell = record { region = r; start = start; end = end }; value = v }

abbrev link : ℕ → Bool → ℕ → ℤ → Link
link child aged parent off = record { child = child; aged = aged; parent = parent; off = one off }

abbrev at : RegionId → ℤ → Values
at r z = Parts (part r (one z) ∷ [])

abbrev known : RegionId → ℕ → Known
known r n = record { region = r; number = n }

-- EAX and a cell point into the newest activation of procedure 2, which runs twice.
abbrev recursive : AbsState
recursive =
    record {
      registers = λ n. at (Frame 2) (pos 0);
      flags = λ n t. true;
      cells = cell (Frame 2) (negsuc 3) (pos 0) (at (Frame 2) (pos 0)) ∷ cell (Frame 2) (pos 0) (pos 4) (at Global (pos 7)) ∷ [];
      live = 1 ∷ 2 ∷ [];
      older = [];
      links = link 2 false 1 (negsuc 15) ∷ [];
      aligns = known (Frame 2) 12 ∷ [];
      blocks = [];
      fact = None;
      root = 1;
    }

-- -- Calls

-- a call of itself, with the stack pointer at 0: its return slot is at -4
abbrev again : AbsState
again = called slot_cells 2 (negsuc 3) 2 100 recursive

callers_value_grows_old : again.registers 0 ≡ at (OldFrame 2) (pos 0)
unfolding called age settled with_renamed with_part region_cmp
callers_value_grows_old = refl

link_grows_old : again.links ≡ link 2 false 2 (negsuc 3) ∷ link 2 true 1 (negsuc 15) ∷ []
unfolding called links_of
link_grows_old = refl

-- The return slot holds the place after the call, and that of the older activation what it held; the bytes below the new one's end are
-- lost.
cells_grow_old : again.cells ≡ cell (Frame 2) (pos 0) (pos 4) (at Global (pos 100)) ∷ cell (OldFrame 2) (pos 0) (pos 4) (at Global (pos 7)) ∷ []
unfolding called age settled with_renamed with_part region_cmp cell_cmp rebuilt
cells_grow_old = refl

aligns_grow_old : again.aligns ≡ known (Frame 2) 8 ∷ known (OldFrame 2) 12 ∷ []
unfolding called region_cmp
aligns_grow_old = refl

-- -- Returns

-- procedure 2 called 3, which points to its own slot and to its caller's bytes
abbrev returning : List ℕ → List Link → AbsState
returning older links =
    record {
      registers = λ n. if n == 0 then at (OldFrame 3) (pos 8) else at (Frame 3) (pos 0);
      flags = λ n t. true;
      cells = cell (Frame 2) (negsuc 19) (negsuc 15) (at Global (pos 5)) ∷ cell (Frame 2) (negsuc 7) (negsuc 3) (at Global (pos 6)) ∷ cell (OldFrame 3) (pos 0) (pos 4) (at Global (pos 7)) ∷ [];
      live = 1 ∷ 2 ∷ 3 ∷ [];
      older = older;
      links = links;
      aligns = known (OldFrame 3) 4 ∷ [];
      blocks = [];
      fact = None;
      root = 1;
    }

abbrev once : AbsState
once = returned 3 2 (one (negsuc 15)) 0 (returning [] (link 3 false 2 (negsuc 15) ∷ link 4 false 3 (pos 0) ∷ []))

abbrev twice : AbsState
twice = returned 3 2 (one (negsuc 15)) 0 (returning (3 ∷ []) (link 3 false 2 (negsuc 15) ∷ link 3 true 3 (negsuc 31) ∷ []))

-- the stack pointer is 4 above the slot, and what lies below it is lost
caller_goes_on : once.registers 4 ≡ at (Frame 2) (negsuc 11)
unfolding returned settled strided.add strided.wrap strided.fitted strided.spaced strided.stepped gcd gcd_within int_wrap
caller_goes_on = refl

below_is_lost : once.cells ≡ cell (Frame 2) (negsuc 7) (negsuc 3) (at Global (pos 6)) ∷ cell (OldFrame 3) (pos 0) (pos 4) (at Global (pos 7)) ∷ []
unfolding returned drop_region region_cmp cell_cmp rebuilt
below_is_lost = refl

-- the links of what ended end; those of its callees stay
own_links_end : once.links ≡ link 4 false 3 (pos 0) ∷ []
unfolding returned
own_links_end = refl

procedure_ends : once.live ≡ 1 ∷ 2 ∷ []
unfolding returned
procedure_ends = refl

-- of an older activation one is the newest now: its values have both ages
value_gets_young : twice.registers 0 ≡ Parts (part (Frame 3) (one (pos 8)) ∷ part (OldFrame 3) (one (pos 8)) ∷ [])
unfolding returned also settled with_renamed with_part drop_region region_cmp
value_gets_young = refl

links_get_young : twice.links ≡ link 3 false 3 (negsuc 31) ∷ link 3 true 3 (negsuc 31) ∷ []
unfolding returned links_of
links_get_young = refl

align_gets_young : twice.aligns ≡ known (Frame 3) 4 ∷ known (OldFrame 3) 4 ∷ []
unfolding returned region_cmp
align_gets_young = refl

-- an old link counts too where a return would take bytes of the caller's caller
old_link_counts : takes_too_much 3 12 (returning (3 ∷ []) (link 3 false 2 (negsuc 31) ∷ link 3 true 3 (negsuc 14) ∷ [])) ≡ true
old_link_counts = refl

old_link_fits : takes_too_much 3 12 (returning (3 ∷ []) (link 3 false 2 (negsuc 31) ∷ link 3 true 3 (negsuc 15) ∷ [])) ≡ false
old_link_fits = refl

-- -- Allocations

-- key 5 has a block of 12 bytes
abbrev holding : List Known → AbsState
holding blocks =
    record {
      registers = λ n. at (Heap 5) (pos 0);
      flags = λ n t. true;
      cells = cell (Heap 5) (pos 0) (pos 4) (at Global (pos 1)) ∷ cell (OldHeap 5) (pos 0) (pos 4) (at Global (pos 3)) ∷ [];
      live = 1 ∷ [];
      older = [];
      links = [];
      aligns = [];
      blocks = blocks;
      fact = None;
      root = 1;
    }

block_grows_old : (allocated 5 (Parts (part Global (interval 4 (pos 8) (pos 16)) ∷ [])) (holding (known (Heap 5) 12 ∷ []))).blocks ≡ known (Heap 5) 8 ∷ known (OldHeap 5) 12 ∷ []
unfolding allocated region_cmp
block_grows_old = refl

lesser_size_stays : (allocated 5 (at Global (negsuc 0)) (holding (known (Heap 5) 12 ∷ known (OldHeap 5) 4 ∷ []))).blocks ≡ known (Heap 5) 0 ∷ known (OldHeap 5) 4 ∷ []
unfolding allocated region_cmp
lesser_size_stays = refl

-- without older blocks the cells are those of the block, whatever stood there
cells_move : (allocated 5 Top (holding (known (Heap 5) 12 ∷ []))).cells ≡ cell (OldHeap 5) (pos 0) (pos 4) (at Global (pos 1)) ∷ []
unfolding allocated age settled with_renamed with_part region_cmp cell_cmp rebuilt
cells_move = refl

block_value_ages : (allocated 5 Top (holding (known (Heap 5) 12 ∷ []))).registers 0 ≡ at (OldHeap 5) (pos 0)
unfolding allocated age settled with_renamed with_part region_cmp
block_value_ages = refl

-- -- Rows

-- EAX is some number, ECX a count, ESP an offset whose base leaves 12; DF is clear
abbrev counting : Values → CmpFact → AbsState
counting count fact =
    record {
      registers = λ n. if n == 1 then count else (if n == 4 then at (Frame 2) (negsuc 19) else Parts (part Global (interval 1 (pos 0) (pos 9)) ∷ []));
      flags = λ n t. if n == 5 then (if t then false else true) else true;
      cells = [];
      live = 2 ∷ [];
      older = [];
      links = [];
      aligns = known (Frame 2) 12 ∷ [];
      blocks = [];
      fact = Some fact;
      root = 2;
    }

abbrev below_five : CmpFact
below_five = record { place = place.Reg Eax; bound = one (pos 5) }

abbrev instruction : Op → Operand → Operand → Instr
instruction o a b = record { at = 100; len = 3; op = o; width = D32; dst = Some a; src = Some b; imm = None }

abbrev row_of : Op → Operand → Operand → List AbsEffect
row_of o a b = row o (view_of (counting (at Global (pos 32)) below_five) slot_cells 2) (instruction o a b)

abbrev first_put : List AbsEffect → Option Values
first_put (puts Whole n v ∷ rest) = Some v
first_put _ = None

abbrev rest_of : List AbsEffect → List AbsEffect
rest_of [] = []
rest_of (effect ∷ rest) = rest

cleared_by_itself : first_put (row_of op.Xor (operand.Reg Eax) (operand.Reg Eax)) ≡ Some (at Global (pos 0))
unfolding row value_of store_to store operand_value is_zero settled keeps_flags
cleared_by_itself = refl

-- -20 above a base that leaves 12 is 8 above a multiple of 16
stack_is_aligned : first_put (row_of op.And (operand.Reg Esp) (operand.Imm 4294967280)) ≡ Some (at (Frame 2) (negsuc 27))
unfolding row value_of store_to store operand_value is_zero settled keeps_flags aligned_or sub gathered with_part region_cmp strided.sub strided.wrap strided.fitted strided.spaced strided.stepped gcd gcd_within int_wrap strided.only
stack_is_aligned = refl

-- by CL, which is 32: no flag is written
kept_by_shift : rest_of (row_of op.Shl (operand.Reg Eax) (operand.Reg Ecx)) ≡ []
unfolding row value_of store_to store operand_value is_zero settled keeps_flags aligned_or bits.low low_of known_word strided.only region_cmp
kept_by_shift = refl

compared_with_number : rest_of (row_of op.Cmp (operand.Reg Ecx) (operand.Imm 5)) ≡ learns (record { place = place.Reg Ecx; bound = one (pos 5) }) ∷ []
unfolding row value_of operand_value settled keeps_flags learned_by region_cmp
compared_with_number = refl

-- the offset of a frame is no bound
compared_with_frame : rest_of (row_of op.Cmp (operand.Reg Ecx) (operand.Reg Esp)) ≡ []
unfolding row value_of operand_value settled keeps_flags learned_by region_cmp
compared_with_frame = refl

abbrev repeated : Values → List AbsEffect
repeated count = stored true (view_of (counting count below_five) slot_cells 2) D32

abbrev digits : Values
digits = Parts (part Global (interval 1 (pos 0) (pos 9)) ∷ [])

-- one element more than 2^20 bytes
too_many : repeated (at Global (pos 262145)) ≡ fills digits None range.Any ∷ puts Whole 6 digits ∷ puts Whole 7 Top ∷ puts Whole 1 (at Global (pos 0)) ∷ []
unfolding settled region_cmp
too_many = refl

never_repeated : repeated (at Global (pos 0)) ≡ puts Whole 6 digits ∷ puts Whole 7 digits ∷ puts Whole 1 (at Global (pos 0)) ∷ []
unfolding settled region_cmp
never_repeated = refl

-- -- Branches

abbrev value_on : ℕ → Option AbsState → Option Values
value_on register None = None
value_on register (Some a) = Some (a.registers register)

-- EAX is less than 5, or it isn't
taken_side : value_on 0 (side (counting Top below_five) 12 true) ≡ Some (Parts (part Global (interval 1 (pos 0) (pos 4)) ∷ []))
unfolding side may_hold even_condition refine compared.row compared.opposite compared.less strided.clip strided.span strided.first_from strided.spaced strided.stepped settled region_cmp
taken_side = refl

failing_side : value_on 0 (side (counting Top below_five) 12 false) ≡ Some (Parts (part Global (interval 1 (pos 5) (pos 9)) ∷ []))
unfolding side may_hold even_condition refine compared.row compared.opposite compared.at_least strided.clip strided.span strided.first_from strided.spaced strided.stepped settled region_cmp
failing_side = refl

-- no value is at least 10
abbrev below_ten : CmpFact
below_ten = record { place = place.Reg Eax; bound = one (pos 10) }

never_comes : side (counting Top below_ten) 12 false ≡ None
unfolding side may_hold even_condition refine compared.row compared.opposite compared.at_least strided.clip strided.span strided.first_from strided.spaced strided.stepped settled region_cmp
never_comes = refl
