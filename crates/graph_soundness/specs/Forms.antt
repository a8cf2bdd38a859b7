-- What is asked of the abstract states and of the cells of a map. The project's own.
use Rattle.std.specs.Prelude.{◌≡◌, ℕ, Bool, true, false, pos, ◌-ℤ◌, Some}
use Rattle.image_map.specs.declared.image.Image.{Image}
use Rattle.image_map.specs.declared.region.Settings.{Settings}
use Rattle.ia32_semantics.specs.Ia32.{machine}
use Rattle.ia32_semantics.specs.Machine.{Occurrence}
use Rattle.ia32_semantics.specs.State.{AtByte}
use Rattle.ia32_semantics.specs.Step.{Act, writes as step_writes, forgets as step_forgets}
use Rattle.vset.specs.World.{key_of}
use Rattle.call_strings.specs.declared.context.Node.{Node}
use Rattle.abs_semantics.specs.States.{AbsState}
use Rattle.abs_steps.specs.Places.{Content, content_at}
use Rattle.abs_steps.specs.Rows.{view_of}
use Rattle.abs_steps.specs.Successors.{States}
use Rattle.abs_steps.specs.Views.{View}
use Rattle.slice_soundness.specs.Located.{Spot, spot_of}
use Rattle.slice_soundness.specs.Premises.{GoesOn}
use Rattle.call_soundness.specs.Maps.{state_in}
use Rattle.access_facts.specs.Forms.{AreFormed}
use Rattle.access_facts.specs.Sets.{read_reaches, write_reaches}
use Rattle.graph_soundness.specs.Drawn.{map_drawn, division_of}

-- all intervals of the reaches have the one form of their members
pub record AreFormedAt (image : Image) (v : View) (content : Content) : Type 0 where
  pub reads : AreFormed (read_reaches v content)
  pub writes : (goes_on : Bool) → AreFormed (write_reaches image v content goes_on)

abbrev pub AreAllFormed : Image → Settings → States → Type 0
AreAllFormed image settings states =
    (n : Node) (a : AbsState) → state_in n states.placed ≡ Some a → AreFormedAt image (view_of a states.cells n.context.proc) (content_at image settings n.at)

-- the graph has a cell wherever a byte lies that was written
abbrev pub HaveCells : Image → Settings → States → Type 0
HaveCells image settings states =
    (o : Occurrence Act) → GoesOn (machine image settings) (map_drawn image settings states) o → (byte : ℕ) (spot : Spot) → step_writes o (AtByte byte) ≡ true → step_forgets o (AtByte byte) ≡ false
    → spot_of (key_of states.lane) o.after byte ≡ Some spot → (division_of states).IsDivided spot.region (pos byte -ℤ pos spot.base)
