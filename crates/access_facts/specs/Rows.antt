-- The cells of a graph as they are kept: a row for each region. The project's own.
use Rattle.std.specs.Prelude.{ℕ, ◌+◌, ◌<◌, ◌^◌, ◌≡◌, ◌<ℤ◌, List, [], ◌∷◌, length, Bool, true, ◌||◌, pos, ◌≤ℤ◌, Contains}
use Rattle.std.specs.List.{flat_map, list_any}
use Rattle.image_map.specs.declared.region.Cell.{Cell}
use Rattle.image_map.specs.declared.region.RegionId.{RegionId}
use Rattle.image_map.specs.Regions.{same_region}
use Rattle.alocs.specs.declared.extents.Extent.{Extent}
use Rattle.alocs.specs.Extents.{home, RiseFrom}
use Rattle.strided.specs.Interval.{greatest}
use Rattle.vset.specs.declared.part.Part.{Part}
use Rattle.access_facts.specs.declared.reach.Reach.{Reach}
use Rattle.access_facts.specs.declared.reach.Reach.TheVariants.{Anywhere, Within}
use Rattle.access_facts.specs.declared.rows.Row.{Row}
use Rattle.access_facts.specs.declared.rows.Test.{Test}
use Rattle.access_facts.specs.declared.rows.Test.TheVariants.{Read, Written, Filled}
use Rattle.access_facts.specs.CellSets.{is_read, is_written, is_filled}

-- no cell is empty
abbrev pub AreSome : List Cell → Type 0
AreSome [] = Unit {0}
AreSome (c ∷ cs) = (c.start <ℤ c.end) × AreSome cs

-- the cells are of the region
abbrev pub AreOf : RegionId → List Cell → Type 0
AreOf r [] = Unit {0}
AreOf r (c ∷ cs) = (c.region ≡ r) × AreOf r cs

-- each row begins with the number behind those of the row before it, the first with this one
abbrev pub AreRows : ℕ → List Row → Type 0
AreRows first [] = Unit {0}
AreRows first (r ∷ rs) = (r.first ≡ first) × (first + length r.cells < 2 ^ 32) × AreSome r.cells × AreOf r.region r.cells × AreRows (first + length r.cells) rs

abbrev pub cells_in_rows : List Row → List Cell
cells_in_rows rs = flat_map (λ (r : Row). r.cells) rs

-- what a cell is picked for
abbrev pub picks : Test → Cell → Bool
picks (Read rs) c = is_read rs.now c
picks (Written image rs) c = is_written image.now rs.now c
picks (Filled older rs) c = is_filled older.now rs.now c

-- the number behind those of the rows
abbrev pub end_of_rows : ℕ → List Row → ℕ
end_of_rows first [] = first
end_of_rows first (r ∷ rs) = end_of_rows (first + length r.cells) rs

-- a part's cells are of the region, by the part's own region or by that of the newest activation or block
abbrev pub is_for : RegionId → Part → Bool
is_for r x = same_region (home x.region) r || same_region x.region r

-- an access may touch cells of the region
abbrev pub comes_to : RegionId → Reach → Bool
comes_to r Anywhere = true
comes_to r (Within len xs) = list_any (is_for r) xs

abbrev pub any_comes_to : RegionId → Test → Bool
any_comes_to r (Read rs) = list_any (comes_to r) rs.now
any_comes_to r (Written image rs) = list_any (comes_to r) rs.now
any_comes_to r (Filled older rs) = list_any (comes_to r) rs.now

-- places of cells begin with 14, and the rows end before this number
abbrev pub AreNumbered : List Row → ℕ → Type 0
AreNumbered rs next = AreRows 14 rs × (next ≡ end_of_rows 14 rs)

-- extents of an image, which rise and end below 2^31
abbrev pub AreInside : List Extent → Type 0
AreInside xs = RiseFrom (pos 0) xs × ((x : Extent) → Contains xs x → x.end ≤ℤ greatest)
