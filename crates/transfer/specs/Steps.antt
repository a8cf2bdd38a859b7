-- How instructions change the code's state, and where they store. The project's own.
use Rattle.std.specs.Prelude.{if◌then◌else◌, List, [], ◌∷◌, Option, Some, None, pos}
use Rattle.ia32_types.specs.declared.Width.{Width}
use Rattle.ia32_types.specs.declared.Operand.{Operand}
use Rattle.ia32_types.specs.declared.Operand.TheVariants as operand
use Rattle.ia32_types.specs.declared.Instr.{Instr}
use Rattle.ia32_types.specs.Numbers.{reg_number, size}
use Rattle.ia32_semantics.specs.Effects.{Whole, High}
use Rattle.ia32_semantics.specs.Operands.{bits, part_of}
use Rattle.vset.specs.declared.facts.AbsFlags.{AbsFlags}
use Rattle.vset.specs.declared.facts.CmpFact.{CmpFact}
use Rattle.vset.specs.Values.{Values}
use Rattle.abs_alu.specs.Words.{number}
use Rattle.abs_semantics.specs.declared.parts.Known.{Known}
use Rattle.abs_semantics.specs.States.{AbsState}
use Rattle.abs_semantics.specs.Operands.{address, with_register}
use Rattle.abs_steps.specs.Effects.{AbsEffect, puts, turns, saves, learns, all_done}
use Rattle.abs_steps.specs.Views.{View}
use Rattle.abs_steps.specs.Rows.{view_of}
use Rattle.abs_steps.specs.Results.{is_zero, aligned_or, keeps_flags}
use Rattle.abs_state.specs.declared.writes.Memory.{Memory}
use Rattle.transfer.specs.declared.stores.Place.{Place}
use Rattle.transfer.specs.declared.stores.Place.TheVariants.{Nowhere, Register, SecondByte, Bytes}

-- a state as memory is seen
abbrev pub view_in : Memory → AbsState → View
view_in m a = view_of a m.cells.now m.procedure

-- the state after some effects
abbrev pub after : Memory → List AbsEffect → AbsState → AbsState
after m es a = all_done m.cells.now m.image.now m.procedure es a

-- -- Stores

-- where an operand lies; memory that counts from GS is never written
abbrev pub operand_place : AbsState → Option Operand → Place
operand_place a None = Nowhere
operand_place a (Some (operand.Reg r)) = Register r
operand_place a (Some (operand.High r)) = SecondByte r
operand_place a (Some (operand.Imm n)) = Nowhere
operand_place a (Some (operand.Mem m)) = if m.gs then Nowhere else Bytes (address a m)

-- what storing there does
abbrev pub stored_in : Place → Width → Values → List AbsEffect
stored_in Nowhere width v = []
stored_in (Register r) width v = puts (part_of width) (reg_number r) v ∷ []
stored_in (SecondByte r) width v = puts High (reg_number r) v ∷ []
stored_in (Bytes at) width v = saves at (size width) v ∷ []

-- -- Flags

-- an operation writes these flags, if any
abbrev pub turned : Instr → Values → AbsFlags → List AbsEffect
turned i count f = if keeps_flags (bits i.width) i.op count then [] else turns f ∷ []

-- what an operation gives, where its own rule gives `other`
abbrev pub result_or : List Known → Instr → Values → Values → Values → Values
result_or aligns i x y other =
    if is_zero i.op i.width i.dst i.src then number (pos 0) else aligned_or aligns i.op i.width x y other

-- what a comparison tells, if anything
abbrev pub noted : Option CmpFact → List AbsEffect
noted None = []
noted (Some f) = learns f ∷ []

-- -- Strings

-- the pointers after a repeated instruction, of which none is left to do
abbrev pub with_pointers : Values → Values → AbsState → AbsState
with_pointers from to a = with_register (with_register (with_register a Whole 6 from) Whole 7 to) Whole 1 (number (pos 0))
