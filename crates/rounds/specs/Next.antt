-- Which cuts the round behind another has, and which round is the last. The project's own.
use Rattle.std.specs.Prelude.{ℕ, ◌+◌, ◌≡◌, ◌⊎◌, List}
use Rattle.image_map.specs.declared.image.Image.{Image}
use Rattle.image_map.specs.declared.region.Settings.{Settings}
use Rattle.alocs.specs.declared.cells.CutList.{CutList}
use Rattle.asi_cuts.specs.Closed.{AreLeast, AreTooMany}
use Rattle.abs_steps.specs.Successors.{States}
use Rattle.access_facts.specs.Facts.{constraints}
use Rattle.access_facts.specs.Kept.{kept_lists}

-- The lists of the round behind round n, which has this map: the least ones that hold what is kept, and that follow what accesses say.
abbrev pub AreNext : Image → Settings → ℕ → States → List CutList → Type 0
AreNext image settings n s lists = AreLeast (kept_lists image n s) (constraints image settings s) image.segments lists

-- the round behind it would have more than 1,024 cuts
abbrev pub WouldHaveTooMany : Image → Settings → ℕ → States → Type 0
WouldHaveTooMany image settings n s = AreTooMany (kept_lists image n s) (constraints image settings s) image.segments

-- Round n, which has this map, is the last: the settings allow no more rounds, or the one behind it would have the same lists, or too many
-- cuts.
abbrev pub IsLast : Image → Settings → ℕ → States → Type 0
IsLast image settings n s = (n + 1 ≡ settings.rounds) ⊎ (AreNext image settings n s s.cells.lists ⊎ WouldHaveTooMany image settings n s)
