-- The places that a node may use, may define, and must define. The project's own.
use Rattle.std.specs.Prelude.{ℕ, ◌==◌, ◌&&◌, Bool, true, false, pos, if◌then◌else◌, List, [], ◌∷◌, ◌++◌, length, map, Option, Some, None}
use Rattle.image_map.specs.declared.image.Image.{Image}
use Rattle.image_map.specs.declared.region.Cell.{Cell}
use Rattle.image_map.specs.declared.region.Kind.TheVariants as kind
use Rattle.image_map.specs.declared.region.RegionId.TheVariants.{Frame}
use Rattle.ia32_types.specs.declared.Instr.{Instr}
use Rattle.ia32_types.specs.Numbers.{size}
use Rattle.strided.specs.Interval.{Interval, one}
use Rattle.vset.specs.Operations.{part}
use Rattle.abs_semantics.specs.States.{AbsState}
use Rattle.abs_steps.specs.Views.{View}
use Rattle.abs_steps.specs.Strings.{count_of}
use Rattle.abs_steps.specs.Accesses.{reads, writes, extern_reads, extern_writes}
use Rattle.abs_steps.specs.Calls.{grown_old_if_live}
use Rattle.abs_steps.specs.Places.{Content, Extern, Instruction, Nothing, targets, followed}
use Rattle.abs_steps.specs.Successors.{is_call}
use Rattle.access_facts.specs.Places.{register_places, flag_places, cell_places}
use Rattle.access_facts.specs.declared.reach.Reach.{Reach}
use Rattle.access_facts.specs.declared.reach.Reach.TheVariants.{Anywhere, Within}
use Rattle.access_facts.specs.Reach.{reaches}
use Rattle.access_facts.specs.CellSets.{is_read, is_written, is_filled}
use Rattle.access_facts.specs.Cores.{registers_used, registers_defined, registers_always, flags_used, flags_defined, flags_always, is_repeated}

-- -- What is read

-- an extern that may read every byte, or of which nothing is known
abbrev pub reads_anything : Content → Bool
reads_anything (Extern (kind.Reader n)) = true
reads_anything (Extern kind.Unknown) = true
reads_anything _ = false

abbrev pub words_and_operands_read : View → Content → List Reach
words_and_operands_read v (Extern k) = reaches v (extern_reads v.state k)
words_and_operands_read v (Instruction i) = reaches v (reads i.op v.state i)
words_and_operands_read v Nothing = []

unfoldable pub read_reaches : View → Content → List Reach
read_reaches v content = (if reads_anything content then Anywhere ∷ [] else []) ++ words_and_operands_read v content

-- -- What may be written

-- the return slot of the newest activation of a procedure
abbrev pub slot_reach : ℕ → Reach
slot_reach t = Within 4 (part (Frame t) (one (pos 0)) ∷ [])

abbrev pub calls : Content → Bool
calls (Instruction i) = is_call i.op
calls _ = false

-- the return slots of the targets that are followed
abbrev pub slots_written : Image → View → Content → List Reach
slots_written image v (Instruction i) = map slot_reach (followed image v i.dst)
slots_written image v _ = []

abbrev pub accesses_written : View → Content → List Reach
accesses_written v (Extern k) = reaches v (extern_writes v k)
accesses_written v (Instruction i) = reaches v (writes i.op v.state i)
accesses_written v Nothing = []

-- a call that has a successor writes return slots, whatever its address resolves to
unfoldable pub write_reaches : Image → View → Content → Bool → List Reach
write_reaches image v content goes_on = if calls content && goes_on then slots_written image v content else accesses_written v content

-- -- What is written for certain

abbrev pub is_one_number : Option Interval → Bool
is_one_number None = false
is_one_number (Some c) = c.stride == 0

-- an instruction that is repeated writes so many bytes where its count is one number
abbrev pub writes_a_known_count : AbsState → Instr → Bool
writes_a_known_count a i = if is_repeated i.op then is_one_number (count_of a (size i.width)) else true

-- whether a call has one target, followed or not
abbrev pub has_one_target : View → Instr → Bool
has_one_target v i = length (targets v i.dst) == 1

-- whether what is written is written always; an extern may write fewer bytes than it is asked for
unfoldable pub writes_surely : View → Content → Bool → Bool
writes_surely v (Instruction i) goes_on = if is_call i.op && goes_on then has_one_target v i else writes_a_known_count v.state i
writes_surely v _ goes_on = false

unfoldable pub sure_reaches : Image → View → Content → Bool → List Reach
sure_reaches image v content goes_on = if writes_surely v content goes_on then write_reaches image v content goes_on else []

-- the procedures that have an older activation after a call of some, and after anything else
abbrev pub older_after : AbsState → List ℕ → List ℕ
older_after a [] = a.older
older_after a (t ∷ ts) = (grown_old_if_live t a).older

abbrev pub callees : View → Content → List ℕ
callees v (Instruction i) = targets v i.dst
callees v _ = []

unfoldable pub older_behind : View → Content → Bool → List ℕ
older_behind v content goes_on = if calls content && goes_on then older_after v.state (callees v content) else v.state.older

-- -- The sets

unfoldable pub may_use : List Cell → View → Content → List ℕ
may_use cs v content = register_places (registers_used content) ++ flag_places (flags_used content) ++ cell_places (is_read (read_reaches v content)) cs

unfoldable pub may_def : Image → List Cell → View → Content → Bool → List ℕ
may_def image cs v content goes_on =
    register_places (registers_defined content) ++ flag_places (flags_defined content) ++ cell_places (is_written image (write_reaches image v content goes_on)) cs

unfoldable pub must_def : Image → List Cell → View → Content → Bool → List ℕ
must_def image cs v content goes_on =
    register_places (registers_always v.state content) ++ flag_places (flags_always content)
    ++ cell_places (is_filled (older_behind v content goes_on) (sure_reaches image v content goes_on)) cs
