-- What is settled about a program before it is looked at. The project's own.
use Rattle.std.specs.Prelude.{ℕ, ◌≡◌, ◌≤◌, All, length}
use Rattle.image_map.specs.declared.region.Kind.{Kind}
use Rattle.image_map.specs.declared.region.Kind.TheVariants.{Pure, Reader, Alloc, Stop, Unknown, Fills}
use Rattle.image_map.specs.declared.region.Settings.{Settings}

-- an extern has at most 8 argument words, which are counted from 1
abbrev pub IsKind : Kind → Type 0
IsKind (Pure words) = words ≤ 8
IsKind (Reader words) = words ≤ 8
IsKind Alloc = Unit {0}
IsKind Stop = Unit {0}
IsKind Unknown = Unit {0}
IsKind (Fills buffer len) = (1 ≤ buffer) × (buffer ≤ 8) × (1 ≤ len) × (len ≤ 8)

-- settings of an image with so many externs: a kind for each, and 1 to 8 rounds
pub record AreSettings (externs : ℕ) (settings : Settings) : Type 0 where
  pub one_each : length settings.kinds ≡ externs
  pub kinds : All IsKind settings.kinds
  pub some_round : 1 ≤ settings.rounds
  pub few_rounds : settings.rounds ≤ 8
