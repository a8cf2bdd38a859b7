-- The graph of a round without warnings describes each run.
use Rattle.std.proofs.Common.{ℕ, zero, suc, List, sym, subst, ◌∙◌}
use Rattle.image_map.specs.declared.image.Image.{Image}
use Rattle.image_map.specs.declared.region.Settings.{Settings}
use Rattle.ia32_semantics.specs.Ia32.{machine}
use Rattle.ia32_semantics.specs.Machine.{Occurrence}
use Rattle.ia32_semantics.specs.Runs.{IsRun}
use Rattle.ia32_semantics.specs.Step.{Act}
use Rattle.alocs.specs.Cells.{Division}
use Rattle.alocs.specs.Extents.{AreOfImage}
use Rattle.abs_steps.specs.Successors.{States}
use Rattle.slice_soundness.specs.Laws.{KnowsStates, StatesAreWhole, RunsKeepSlots, ReturnsHome}
use Rattle.slice_soundness.specs.Premises.{IsClean, Describes}
use Rattle.slice_soundness.proofs.RunLemmas.{knows_states}
use Rattle.slice_soundness.proofs.ReturnLemmas.{states_are_whole, runs_keep_slots, returns_home}
use Rattle.vsa.specs.Analysis.{analysis_of}
use Rattle.vsa.specs.Swept.{analysed, placed_in}
use Rattle.vsa.specs.Views.{told}
use Rattle.state_forms.specs.Images.{HasBytes}
use Rattle.state_forms.proofs.MapForms.{map_formed, state_formed}
use Rattle.state_forms.proofs.StartForms.{bytes_of_start}
use Rattle.call_soundness.proofs.SlotLaws.{slots_stay}
use Rattle.graph_soundness.specs.Checks.{HaveForms}
use Rattle.graph_soundness.specs.Drawn.{drawn_of}
use Rattle.graph_soundness.proofs.CellLaws.{have_cells}
use Rattle.graph_soundness.proofs.FormedLaws.{all_formed}
use Rattle.graph_soundness.proofs.PlaceLaws.{graph_describes}
use Rattle.rounds.specs.declared.round.Round.{Round}
use Rattle.rounds.specs.Rounds.{HasCells}
use Rattle.round_soundness.specs.Quiet.{IsQuietRound, map_in}
use Rattle.round_soundness.proofs.BridgeLaws.{clean_unwarned}

-- the cells of a round divide its image
of_image : (image : Image) (settings : Settings) (lane n : ℕ) (d : Division) → HasCells image settings lane n d → AreOfImage image.segments d.image
of_image image settings lane zero d has = has.0
of_image image settings lane (suc n) d has = has.0

module _ (image : Image) (settings : Settings) (r : Round) (quiet : IsQuietRound image settings r) where
  abbrev S : States
  S = told r.states

  cells_are : AreOfImage image.segments S.cells.image
  cells_are = subst (λ (s : States). AreOfImage image.segments s.cells.image) (sym quiet.round_is.states) (of_image image settings r.lane r.number r.cells quiet.round_is.cells)

  forms : HasBytes image → HaveForms S
  forms bytes =
      let x = analysis_of image settings r.cells r.lane in
      subst HaveForms (sym quiet.round_is.states) (λ n a e. state_formed (placed_in (analysed x)) (map_formed x bytes) n a e)

  clean : HasBytes image → IsClean (machine image settings) (map_in image settings r)
  clean bytes = clean_unwarned image settings S r.states.full (sym quiet.round_is.warnings ∙ quiet.none) (forms bytes)

  pub round_describes : HasBytes image → Describes (machine image settings) (map_in image settings r)
  round_describes bytes =
      let c = clean bytes in
      graph_describes image settings S quiet.image_is quiet.settings_are c (have_cells image settings S quiet.image_is quiet.settings_are c cells_are)
      (all_formed image settings S bytes quiet.settings_are (forms bytes))

  -- an image from which a run starts has bytes
  pub run_described : (run : List (Occurrence Act)) → IsRun (machine image settings) run → Describes (machine image settings) (map_in image settings r)
  run_described run is_run = round_describes (bytes_of_start image settings is_run.start is_run.starts)

  pub states_known : KnowsStates (machine image settings) (map_in image settings r)
  states_known =
      record {
        starts = λ s start. (knows_states (machine image settings) (map_in image settings r) (round_describes (bytes_of_start image settings s start)).follows).starts s start;
        steps = λ run is_run k o at. (knows_states (machine image settings) (map_in image settings r) (run_described run is_run).follows).steps run is_run k o at;
      }

  pub states_whole : StatesAreWhole (machine image settings) (map_in image settings r)
  states_whole run is_run k o at = states_are_whole (machine image settings) (map_in image settings r) (run_described run is_run).follows run is_run k o at

  pub slots_kept : RunsKeepSlots (machine image settings)
  slots_kept run is_run k o at =
      runs_keep_slots (machine image settings) (map_in image settings r) (run_described run is_run).follows
      (slots_stay image settings S (drawn_of image settings S) quiet.image_is quiet.settings_are) run is_run k o at

  pub home_again : ReturnsHome (machine image settings)
  home_again run is_run k o at = returns_home (machine image settings) (map_in image settings r) (run_described run is_run).follows run is_run k o at
