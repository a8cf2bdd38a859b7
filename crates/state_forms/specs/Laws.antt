-- That the states of a map have the form that the argument on slices asks for. The laws are the project's own.
use Rattle.std.specs.Prelude.{◌≡◌, ℕ, Some}
use Rattle.image_map.specs.declared.image.Image.{Image}
use Rattle.image_map.specs.declared.region.Settings.{Settings}
use Rattle.ia32_types.specs.declared.Instr.{Instr}
use Rattle.ia32_types.specs.Operands.{IsInstruction}
use Rattle.ia32_semantics.specs.CallModel.{IsStart}
use Rattle.ia32_semantics.specs.State.{State}
use Rattle.ia32_fetch.specs.Fetched.{instruction_at}
use Rattle.call_strings.specs.declared.context.Node.{Node}
use Rattle.alocs.specs.Cells.{Division}
use Rattle.abs_semantics.specs.States.{AbsState}
use Rattle.abs_semantics.specs.Joins.{joined_state, widened_state}
use Rattle.abs_semantics.specs.Start.{initial_state}
use Rattle.abs_steps.specs.Rows.{post}
use Rattle.abs_steps.specs.Successors.{States, successors}
use Rattle.vsa.specs.Analysis.{Analysis}
use Rattle.vsa.specs.Swept.{analysed, placed_in}
use Rattle.vsa.specs.Topped.{topped}
use Rattle.call_soundness.specs.Maps.{HasForm, state_in}
use Rattle.state_forms.specs.Formed.{ArePlacedFormed}
use Rattle.state_forms.specs.Images.{HasBytes}

-- An image from which a run starts has bytes.
abbrev pub StartsHaveBytes : Type 0
StartsHaveBytes = (image : Image) (settings : Settings) (s : State) → IsStart image settings s → HasBytes image

-- What stands at an address of such an image is spelled as the processor's manual has it.
abbrev pub InstructionsAreSpelled : Type 0
InstructionsAreSpelled = (image : Image) (a : ℕ) (i : Instr) → HasBytes image → instruction_at image a ≡ Some i → IsInstruction i

-- The state in which runs start has the form.
abbrev pub StartsHaveForm : Type 0
StartsHaveForm = (image : Image) (d : Division) (entry : ℕ) → HasBytes image → HasForm (initial_state image d entry)

-- What two states of the form are joined to has it, and so have widened states and states of which differences became everything.
abbrev pub JoinsHaveForm : Type 0
JoinsHaveForm = (a b : AbsState) → HasForm a → HasForm b → HasForm (joined_state a b)

abbrev pub WideningsHaveForm : Type 0
WideningsHaveForm = (old new : AbsState) → HasForm old → HasForm new → HasForm (widened_state old new)

abbrev pub ToppedStatesHaveForm : Type 0
ToppedStatesHaveForm = (old new : AbsState) → HasForm old → HasForm new → HasForm (topped old new)

-- An instruction keeps the form of a state.
abbrev pub InstructionsKeepForm : Type 0
InstructionsKeepForm = (image : Image) (a : AbsState) (i : Instr) (d : Division) (p : ℕ) → HasForm a → IsInstruction i → HasForm (post a i d image p)

-- Wherever control goes from a state of the form, it comes with one.
abbrev pub SuccessorsHaveForm : Type 0
SuccessorsHaveForm =
    (image : Image) (settings : Settings) (states : States) (n : Node) (a : AbsState) → HasBytes image → HasForm a → ArePlacedFormed (successors image settings states n a)

-- So each state of the map that the sweeps make of a program has it.
abbrev pub MapsHaveForms : Type 0
MapsHaveForms = (x : Analysis) → HasBytes x.image → (n : Node) (a : AbsState) → state_in n (placed_in (analysed x)) ≡ Some a → HasForm a
