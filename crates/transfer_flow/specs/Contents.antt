-- What the code's contents of addresses mean. The project's own.
use Rattle.transfer_flow.specs.declared.contents.Content as code
use Rattle.transfer_flow.specs.declared.contents.Content.TheVariants as content
use Rattle.image_map.specs.CallModel.{IsKind}
use Rattle.ia32_types.specs.Operands.{IsInstruction}
use Rattle.abs_steps.specs.Places.{Content, Extern, Instruction, Nothing}

abbrev pub meant : code.Content → Content
meant (content.Extern k) = Extern k
meant (content.Instruction i) = Instruction i
meant content.Nothing = Nothing

-- an instruction that can be spelled, and an extern's kind whose numbers are those of argument words
abbrev pub IsContent : Content → Type 0
IsContent (Extern k) = IsKind k
IsContent (Instruction i) = IsInstruction i
IsContent Nothing = Unit {0}
