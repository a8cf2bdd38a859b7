-- The sets and facts of nodes, computed.
use Rattle.std.proofs.Common.{◌≡◌, ℕ, true, false, List, [], ◌∷◌, refl, ℤ}
use Rattle.std.specs.Prelude.{◌==◌, if◌then◌else◌, pos, negsuc, Some, None, Option}
use Rattle.std.specs.Int.{int_wrap}
use Rattle.std.specs.List.{flat_map}
use Rattle.image_map.specs.declared.image.Image.{Image}
use Rattle.image_map.specs.declared.region.Cell.{Cell}
use Rattle.image_map.specs.declared.region.Kind.TheVariants as kind
use Rattle.image_map.specs.declared.region.RegionId.{RegionId}
use Rattle.image_map.specs.declared.region.RegionId.TheVariants.{Global, Frame}
use Rattle.image_map.specs.Regions.{region_cmp}
use Rattle.ia32_types.specs.declared.Reg.TheVariants.{Eax, Ecx, Ebp}
use Rattle.ia32_types.specs.declared.Width.{Width}
use Rattle.ia32_types.specs.declared.Width.TheVariants.{W16, D32}
use Rattle.ia32_types.specs.declared.Mem.{Mem}
use Rattle.ia32_types.specs.declared.Operand.{Operand}
use Rattle.ia32_types.specs.declared.Operand.TheVariants as operand
use Rattle.ia32_types.specs.declared.Op.{Op}
use Rattle.ia32_types.specs.declared.Op.TheVariants as op
use Rattle.ia32_types.specs.Places.{op_reads, op_writes, op_flag_reads, op_flag_writes}
use Rattle.strided.specs.Interval.{Interval, interval, one}
use Rattle.strided.specs.Gcd.{gcd, gcd_within}
use Rattle.strided.specs.Operations.{clip, span, first_from, spaced, stepped, count, add, sub, wrap, fitted}
use Rattle.alocs.specs.Cells.{Division, cells_of}
use Rattle.vset.specs.Values.{Values, Top, Parts, settled}
use Rattle.vset.specs.Operations as vset
use Rattle.vset.specs.Operations.{part}
use Rattle.asi_cuts.specs.declared.facts.Constraint.TheVariants.{Bounds, Elements, Same}
use Rattle.abs_semantics.specs.Resolve.{verdict, rising_onto, levels, resolve}
use Rattle.abs_semantics.specs.Operands.{address}
use Rattle.abs_steps.specs.Views.{View}
use Rattle.abs_steps.specs.Accesses.{accesses, reads, writes, extern_reads, extern_writes}
use Rattle.abs_steps.specs.Places.{Content, Extern, Instruction, targets, followed, known_targets}
use Rattle.abs_steps.specs.Rows.{view_of}
use Rattle.access_facts.specs.Places.{picked, register_places, flag_places, regions_of}
use Rattle.access_facts.specs.Reach.{reach}
use Rattle.access_facts.specs.Cores.{registers_used, registers_defined, registers_always, flags_used, flags_defined, flags_always, is_repeated, is_shift, extern_reads_registers, extern_writes_registers, extern_writes_flags}
use Rattle.access_facts.specs.Sets.{may_use, may_def, must_def, read_reaches, write_reaches, sure_reaches, writes_surely, older_behind}
use Rattle.access_facts.specs.Facts.{facts_at, facts_of_parts, copies}

-- -- Procedure 1, whose frame is cut at -8, -4, 0 and 4; a procedure 2, whose return slot is a cell; and sixteen bytes of Global

abbrev division : Division
division =
    record {
      lists =
          record { region = Global; cuts = pos 4100 ∷ pos 4104 ∷ pos 4108 ∷ [] } ∷ record { region = Frame 1; cuts = negsuc 7 ∷ negsuc 3 ∷ pos 0 ∷ pos 4 ∷ [] }
          ∷ record { region = Frame 2; cuts = pos 0 ∷ pos 4 ∷ [] } ∷ [];
      image = record { start = pos 4096; end = pos 4112 } ∷ [];
    }

-- Global has the places 14 to 17, procedure 1 has 18 to 22, and procedure 2 has 23 to 25
abbrev cells : List Cell
cells = flat_map (cells_of division) (regions_of (1 ∷ 2 ∷ []) [])

abbrev image : Image
image = record { segments = []; entry = 4096; symbols = []; externs = []; any_bytes = []; words = []; bias = 0 }

abbrev at : RegionId → ℤ → Values
at r z = Parts (part r (one z) ∷ [])

abbrev numbers : Interval → Values
numbers si = Parts (part Global si ∷ [])

-- EAX has one of three addresses of words, ECX a count, and EDI an address; ESP is at the return slot, and EBP too
abbrev held : Interval → ℕ → Values
held times n =
    if n == 0 then numbers (interval 4 (pos 4096) (pos 4104)) else
    (if n == 1 then numbers times else
    (if n == 4 then at (Frame 1) (pos 0) else
    (if n == 5 then at (Frame 1) (pos 0) else
    (if n == 7 then at Global (pos 4096) else Top))))

abbrev here : List ℕ → Interval → View
here live times =
    view_of
    (record {
      registers = held times;
      flags = λ n t. if n == 5 then (if t then false else true) else true;
      cells = [];
      live = live;
      older = [];
      links = [];
      aligns = [];
      blocks = [];
      fact = None;
      root = 1;
    })
    division 1

abbrev twice : View
twice = here (1 ∷ []) (one (pos 2))

abbrev instruction : Op → Width → Option Operand → Option Operand → Content
instruction o width dst src = Instruction (record { at = 4096; len = 1; op = o; width = width; dst = dst; src = src; imm = None })

abbrev memory : Mem → Option Operand
memory m = Some (operand.Mem m)

-- -- A push

abbrev push : Content
push = instruction op.Push D32 (Some (operand.Reg Eax)) None

push_uses : may_use cells twice push ≡ 0 ∷ 4 ∷ []
unfolding may_use may_def must_def registers_used registers_defined registers_always op_reads op_writes register_places picked flags_used flags_defined flags_always op_flag_reads op_flag_writes flag_places is_repeated is_shift read_reaches write_reaches sure_reaches writes_surely older_behind reads writes reach resolve levels verdict rising_onto region_cmp clip span first_from spaced stepped address vset.add vset.sub vset.gathered vset.with_part settled add sub wrap fitted gcd gcd_within int_wrap
push_uses = refl

push_defines : may_def image cells twice push true ≡ 4 ∷ 20 ∷ []
unfolding may_use may_def must_def registers_used registers_defined registers_always op_reads op_writes register_places picked flags_used flags_defined flags_always op_flag_reads op_flag_writes flag_places is_repeated is_shift read_reaches write_reaches sure_reaches writes_surely older_behind reads writes reach resolve levels verdict rising_onto region_cmp clip span first_from spaced stepped address vset.add vset.sub vset.gathered vset.with_part settled add sub wrap fitted gcd gcd_within int_wrap
push_defines = refl

push_must : must_def image cells twice push true ≡ 4 ∷ 20 ∷ []
unfolding may_use may_def must_def registers_used registers_defined registers_always op_reads op_writes register_places picked flags_used flags_defined flags_always op_flag_reads op_flag_writes flag_places is_repeated is_shift read_reaches write_reaches sure_reaches writes_surely older_behind reads writes reach resolve levels verdict rising_onto region_cmp clip span first_from spaced stepped address vset.add vset.sub vset.gathered vset.with_part settled add sub wrap fitted gcd gcd_within int_wrap
push_must = refl

-- where the procedure has an older activation the word may be one of another's
abbrev again : View
again = record twice { state = record twice.state { older = 1 ∷ [] } }

push_of_older : must_def image cells again push true ≡ 4 ∷ []
unfolding may_use may_def must_def registers_used registers_defined registers_always op_reads op_writes register_places picked flags_used flags_defined flags_always op_flag_reads op_flag_writes flag_places is_repeated is_shift read_reaches write_reaches sure_reaches writes_surely older_behind reads writes reach resolve levels verdict rising_onto region_cmp clip span first_from spaced stepped address vset.add vset.sub vset.gathered vset.with_part settled add sub wrap fitted gcd gcd_within int_wrap
push_of_older = refl

-- -- A store through a member of the frame

abbrev local : ℕ → Option Operand
local disp = memory (record { base = Some Ebp; index = None; scale = 1; disp = disp; gs = false })

abbrev store : Width → ℕ → Content
store width disp = instruction op.Mov width (local disp) (Some (operand.Reg Ecx))

store_uses : may_use cells twice (store D32 4294967288) ≡ 1 ∷ 5 ∷ []
unfolding may_use may_def must_def registers_used registers_defined registers_always op_reads op_writes register_places picked flags_used flags_defined flags_always op_flag_reads op_flag_writes flag_places is_repeated is_shift read_reaches write_reaches sure_reaches writes_surely older_behind reads writes reach resolve levels verdict rising_onto region_cmp clip span first_from spaced stepped address vset.add vset.sub vset.gathered vset.with_part settled add sub wrap fitted gcd gcd_within int_wrap
store_uses = refl

store_must : must_def image cells twice (store D32 4294967288) true ≡ 19 ∷ []
unfolding may_use may_def must_def registers_used registers_defined registers_always op_reads op_writes register_places picked flags_used flags_defined flags_always op_flag_reads op_flag_writes flag_places is_repeated is_shift read_reaches write_reaches sure_reaches writes_surely older_behind reads writes reach resolve levels verdict rising_onto region_cmp clip span first_from spaced stepped address vset.add vset.sub vset.gathered vset.with_part settled add sub wrap fitted gcd gcd_within int_wrap
store_must = refl

-- two bytes of a cell of four
half_defines : may_def image cells twice (store W16 4294967288) true ≡ 19 ∷ []
unfolding may_use may_def must_def registers_used registers_defined registers_always op_reads op_writes register_places picked flags_used flags_defined flags_always op_flag_reads op_flag_writes flag_places is_repeated is_shift read_reaches write_reaches sure_reaches writes_surely older_behind reads writes reach resolve levels verdict rising_onto region_cmp clip span first_from spaced stepped address vset.add vset.sub vset.gathered vset.with_part settled add sub wrap fitted gcd gcd_within int_wrap
half_defines = refl

half_must : must_def image cells twice (store W16 4294967288) true ≡ []
unfolding may_use may_def must_def registers_used registers_defined registers_always op_reads op_writes register_places picked flags_used flags_defined flags_always op_flag_reads op_flag_writes flag_places is_repeated is_shift read_reaches write_reaches sure_reaches writes_surely older_behind reads writes reach resolve levels verdict rising_onto region_cmp clip span first_from spaced stepped address vset.add vset.sub vset.gathered vset.with_part settled add sub wrap fitted gcd gcd_within int_wrap
half_must = refl

-- -- A store to one of three words

abbrev strided_store : Content
strided_store = instruction op.Mov D32 (memory (record { base = Some Eax; index = None; scale = 1; disp = 0; gs = false })) (Some (operand.Reg Ecx))

strided_defines : may_def image cells twice strided_store true ≡ 14 ∷ 15 ∷ 16 ∷ []
unfolding may_use may_def must_def registers_used registers_defined registers_always op_reads op_writes register_places picked flags_used flags_defined flags_always op_flag_reads op_flag_writes flag_places is_repeated is_shift read_reaches write_reaches sure_reaches writes_surely older_behind reads writes reach resolve levels verdict rising_onto region_cmp clip span first_from spaced stepped address vset.add vset.sub vset.gathered vset.with_part settled add sub wrap fitted gcd gcd_within int_wrap
strided_defines = refl

strided_must : must_def image cells twice strided_store true ≡ []
unfolding may_use may_def must_def registers_used registers_defined registers_always op_reads op_writes register_places picked flags_used flags_defined flags_always op_flag_reads op_flag_writes flag_places is_repeated is_shift read_reaches write_reaches sure_reaches writes_surely older_behind reads writes reach resolve levels verdict rising_onto region_cmp clip span first_from spaced stepped address vset.add vset.sub vset.gathered vset.with_part settled add sub wrap fitted gcd gcd_within int_wrap
strided_must = refl

strided_facts : facts_at twice strided_store ≡ Bounds Global (pos 4096) (pos 4108) ∷ Elements Global (pos 4096) 4 3 4 ∷ []
unfolding facts_at facts_of_parts copies accesses count read_reaches write_reaches sure_reaches writes_surely older_behind reads writes reach resolve levels verdict rising_onto region_cmp clip span first_from spaced stepped address vset.add vset.sub vset.gathered vset.with_part settled add sub wrap fitted gcd gcd_within int_wrap
strided_facts = refl

-- -- An extern that reads everything

reader_uses : may_use cells twice (Extern (kind.Reader 1)) ≡ 4 ∷ 14 ∷ 15 ∷ 16 ∷ 17 ∷ 18 ∷ 19 ∷ 20 ∷ 21 ∷ 22 ∷ 23 ∷ 24 ∷ 25 ∷ []
unfolding may_use may_def must_def registers_used registers_defined registers_always op_reads op_writes register_places picked flags_used flags_defined flags_always op_flag_reads op_flag_writes flag_places is_repeated is_shift read_reaches write_reaches sure_reaches writes_surely older_behind reads writes reach resolve levels verdict rising_onto region_cmp clip span first_from spaced stepped address vset.add vset.sub vset.gathered vset.with_part settled add sub wrap fitted gcd gcd_within int_wrap extern_reads extern_writes extern_reads_registers extern_writes_registers extern_writes_flags
reader_uses = refl

pure_uses : may_use cells twice (Extern (kind.Pure 1)) ≡ 4 ∷ 21 ∷ 22 ∷ []
unfolding may_use may_def must_def registers_used registers_defined registers_always op_reads op_writes register_places picked flags_used flags_defined flags_always op_flag_reads op_flag_writes flag_places is_repeated is_shift read_reaches write_reaches sure_reaches writes_surely older_behind reads writes reach resolve levels verdict rising_onto region_cmp clip span first_from spaced stepped address vset.add vset.sub vset.gathered vset.with_part settled add sub wrap fitted gcd gcd_within int_wrap extern_reads extern_writes extern_reads_registers extern_writes_registers extern_writes_flags
pure_uses = refl

reader_must : must_def image cells twice (Extern (kind.Reader 1)) true ≡ 0 ∷ 1 ∷ 2 ∷ 4 ∷ 8 ∷ 9 ∷ 10 ∷ 11 ∷ 12 ∷ []
unfolding may_use may_def must_def registers_used registers_defined registers_always op_reads op_writes register_places picked flags_used flags_defined flags_always op_flag_reads op_flag_writes flag_places is_repeated is_shift read_reaches write_reaches sure_reaches writes_surely older_behind reads writes reach resolve levels verdict rising_onto region_cmp clip span first_from spaced stepped address vset.add vset.sub vset.gathered vset.with_part settled add sub wrap fitted gcd gcd_within int_wrap extern_reads extern_writes extern_reads_registers extern_writes_registers extern_writes_flags
reader_must = refl

-- -- A call with one target

abbrev call : Content
call = instruction op.Call D32 (Some (operand.Imm 2)) None

call_defines : may_def image cells twice call true ≡ 4 ∷ 24 ∷ []
unfolding may_use may_def must_def registers_used registers_defined registers_always op_reads op_writes register_places picked flags_used flags_defined flags_always op_flag_reads op_flag_writes flag_places is_repeated is_shift read_reaches write_reaches sure_reaches writes_surely older_behind reads writes reach resolve levels verdict rising_onto region_cmp clip span first_from spaced stepped address vset.add vset.sub vset.gathered vset.with_part settled add sub wrap fitted gcd gcd_within int_wrap targets followed known_targets
call_defines = refl

call_must : must_def image cells twice call true ≡ 4 ∷ 24 ∷ []
unfolding may_use may_def must_def registers_used registers_defined registers_always op_reads op_writes register_places picked flags_used flags_defined flags_always op_flag_reads op_flag_writes flag_places is_repeated is_shift read_reaches write_reaches sure_reaches writes_surely older_behind reads writes reach resolve levels verdict rising_onto region_cmp clip span first_from spaced stepped address vset.add vset.sub vset.gathered vset.with_part settled add sub wrap fitted gcd gcd_within int_wrap targets followed known_targets
call_must = refl

-- a target that runs already has an older activation behind the call
call_of_live : must_def image cells (here (1 ∷ 2 ∷ []) (one (pos 2))) call true ≡ 4 ∷ []
unfolding may_use may_def must_def registers_used registers_defined registers_always op_reads op_writes register_places picked flags_used flags_defined flags_always op_flag_reads op_flag_writes flag_places is_repeated is_shift read_reaches write_reaches sure_reaches writes_surely older_behind reads writes reach resolve levels verdict rising_onto region_cmp clip span first_from spaced stepped address vset.add vset.sub vset.gathered vset.with_part settled add sub wrap fitted gcd gcd_within int_wrap targets followed known_targets
call_of_live = refl

-- a call that goes nowhere writes where its address lies
call_to_nowhere : may_def image cells twice call false ≡ 4 ∷ 20 ∷ []
unfolding may_use may_def must_def registers_used registers_defined registers_always op_reads op_writes register_places picked flags_used flags_defined flags_always op_flag_reads op_flag_writes flag_places is_repeated is_shift read_reaches write_reaches sure_reaches writes_surely older_behind reads writes reach resolve levels verdict rising_onto region_cmp clip span first_from spaced stepped address vset.add vset.sub vset.gathered vset.with_part settled add sub wrap fitted gcd gcd_within int_wrap targets followed known_targets
call_to_nowhere = refl

-- -- Words stored over and over

abbrev fill : Content
fill = instruction (op.Stos true) D32 None None

fill_must : must_def image cells twice fill true ≡ 1 ∷ 7 ∷ 14 ∷ 15 ∷ []
unfolding may_use may_def must_def registers_used registers_defined registers_always op_reads op_writes register_places picked flags_used flags_defined flags_always op_flag_reads op_flag_writes flag_places is_repeated is_shift read_reaches write_reaches sure_reaches writes_surely older_behind reads writes reach resolve levels verdict rising_onto region_cmp clip span first_from spaced stepped address vset.add vset.sub vset.gathered vset.with_part settled add sub wrap fitted gcd gcd_within int_wrap
fill_must = refl

-- none to three words
fill_defines : may_def image cells (here (1 ∷ []) (interval 1 (pos 0) (pos 3))) fill true ≡ 1 ∷ 7 ∷ 14 ∷ 15 ∷ 16 ∷ []
unfolding may_use may_def must_def registers_used registers_defined registers_always op_reads op_writes register_places picked flags_used flags_defined flags_always op_flag_reads op_flag_writes flag_places is_repeated is_shift read_reaches write_reaches sure_reaches writes_surely older_behind reads writes reach resolve levels verdict rising_onto region_cmp clip span first_from spaced stepped address vset.add vset.sub vset.gathered vset.with_part settled add sub wrap fitted gcd gcd_within int_wrap
fill_defines = refl

fill_of_none : must_def image cells (here (1 ∷ []) (interval 1 (pos 0) (pos 3))) fill true ≡ []
unfolding may_use may_def must_def registers_used registers_defined registers_always op_reads op_writes register_places picked flags_used flags_defined flags_always op_flag_reads op_flag_writes flag_places is_repeated is_shift read_reaches write_reaches sure_reaches writes_surely older_behind reads writes reach resolve levels verdict rising_onto region_cmp clip span first_from spaced stepped address vset.add vset.sub vset.gathered vset.with_part settled add sub wrap fitted gcd gcd_within int_wrap
fill_of_none = refl

-- -- Words copied over and over, from one of three places

abbrev copy : Content
copy = instruction (op.Movs true) D32 None None

copied_facts : facts_at (record twice { state = record twice.state { registers = λ n. if n == 6 then held (one (pos 2)) 0 else held (one (pos 2)) n } }) copy
    ≡ Bounds Global (pos 4096) (pos 4112) ∷ Bounds Global (pos 4096) (pos 4104) ∷ Same Global (pos 4096) Global (pos 4096) 8 ∷ []
unfolding facts_at facts_of_parts copies accesses count read_reaches write_reaches sure_reaches writes_surely older_behind reads writes reach resolve levels verdict rising_onto region_cmp clip span first_from spaced stepped address vset.add vset.sub vset.gathered vset.with_part settled add sub wrap fitted gcd gcd_within int_wrap
copied_facts = refl
