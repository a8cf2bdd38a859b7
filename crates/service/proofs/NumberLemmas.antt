-- How great the number of a round may be.
use Rattle.std.proofs.Common.{ℕ, ◌+◌, ◌<◌, ◌≤◌, arith}
use Rattle.image_map.specs.declared.image.Image.{Image}
use Rattle.image_map.specs.declared.region.Settings.{Settings}
use Rattle.image_map.specs.CallModel.{AreSettings}
use Rattle.rounds.specs.declared.round.Round.{Round}
use Rattle.rounds.specs.Rounds.{IsRound}
use Rattle.rounds.proofs.RoundLemmas.{within_rounds}

pub few_rounds : (image : Image) (settings : Settings) (externs : ℕ) (r : Round) → AreSettings externs settings → IsRound image settings r → r.number + 1 ≤ 8
few_rounds image settings externs r given h =
    let few = within_rounds image settings externs r.lane r.number r.cells given h.cells in
    let most = given.few_rounds in
    omega (arith, few, most)

pub small_number : (image : Image) (settings : Settings) (externs : ℕ) (r : Round) → AreSettings externs settings → IsRound image settings r → r.number < 4294967295
small_number image settings externs r given h = let few = few_rounds image settings externs r given h in omega (arith, few)
