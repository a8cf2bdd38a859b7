-- What the accesses of a map say of the cuts of regions. The project's own.
use Rattle.std.specs.Prelude.{ℕ, ◌&&◌, nat_le, Bool, true, false, if◌then◌else◌, List, [], ◌∷◌, ◌++◌, map}
use Rattle.std.specs.Int.{int_min}
use Rattle.std.specs.List.{flat_map}
use Rattle.image_map.specs.declared.image.Image.{Image}
use Rattle.image_map.specs.declared.region.Settings.{Settings}
use Rattle.ia32_types.specs.declared.Op.{Op}
use Rattle.ia32_types.specs.declared.Width.{Width}
use Rattle.abs_semantics.specs.States.{AbsState}
use Rattle.ia32_types.specs.declared.Op.TheVariants as op
use Rattle.ia32_types.specs.declared.Instr.{Instr}
use Rattle.ia32_types.specs.Numbers.{size}
use Rattle.strided.specs.Interval.{greatest}
use Rattle.strided.specs.Operations.{count}
use Rattle.alocs.specs.Extents.{home}
use Rattle.vset.specs.declared.part.Part.{Part}
use Rattle.asi_cuts.specs.declared.facts.Constraint.{Constraint}
use Rattle.asi_cuts.specs.declared.facts.Constraint.TheVariants.{Bounds, Elements, Same}
use Rattle.abs_semantics.specs.Resolve.{end_of}
use Rattle.abs_steps.specs.Views.{View}
use Rattle.abs_steps.specs.Strings.{count_of}
use Rattle.abs_steps.specs.Accesses.{accesses, extern_accesses, reads, writes}
use Rattle.abs_steps.specs.Rows.{view_of}
use Rattle.abs_steps.specs.Places.{Content, Extern, Instruction, Nothing, content_at}
use Rattle.abs_steps.specs.Successors.{Placed, States}
use Rattle.access_facts.specs.declared.reach.Reach.{Reach}
use Rattle.access_facts.specs.declared.reach.Reach.TheVariants.{Anywhere, Within}
use Rattle.access_facts.specs.Reach.{reaches}
use Rattle.access_facts.specs.Sets.{is_one_number}

-- -- Of one place

-- the range is cut at its ends; no offset lies above 2^31 - 1
abbrev pub bounds : ℕ → Part → Constraint
bounds len x = Bounds (home x.region) x.si.lo (int_min (end_of x.si len) greatest)

-- 2 to 64 members, so far apart that their ranges don't overlap
abbrev pub are_elements : ℕ → Part → Bool
are_elements len x = nat_le 2 (count x.si) && (nat_le (count x.si) 64 && nat_le len x.si.stride)

abbrev pub elements : ℕ → Part → Constraint
elements len x = Elements (home x.region) x.si.lo x.si.stride (count x.si) len

abbrev pub facts_of_part : ℕ → Part → List Constraint
facts_of_part len x = bounds len x ∷ (if are_elements len x then elements len x ∷ [] else [])

-- so many bytes from the first members of two are divided alike
abbrev pub same : ℕ → Part → Part → Constraint
same len x y = Same (home x.region) x.si.lo (home y.region) y.si.lo len

-- -- Of an access

abbrev pub same_as_next : ℕ → Part → List Part → List Constraint
same_as_next len x [] = []
same_as_next len x (y ∷ ys) = same len x y ∷ []

-- each place, and each with the next
unfoldable pub facts_of_parts : ℕ → List Part → List Constraint
facts_of_parts len [] = []
facts_of_parts len (x ∷ xs) = facts_of_part len x ++ same_as_next len x xs ++ facts_of_parts len xs

-- nothing is said of an access that may reach anywhere
abbrev pub facts_of_reach : Reach → List Constraint
facts_of_reach Anywhere = []
facts_of_reach (Within len xs) = facts_of_parts len xs

-- -- Of a copy

-- each place of the source with each of the target
abbrev pub facts_of_copy : Reach → Reach → List Constraint
facts_of_copy Anywhere to = []
facts_of_copy (Within len xs) Anywhere = []
facts_of_copy (Within len xs) (Within bytes ys) = flat_map (λ x. map (same len x) ys) xs

abbrev pub facts_of_copies : List Reach → List Reach → List Constraint
facts_of_copies from to = flat_map (λ r. flat_map (facts_of_copy r) to) from

-- movs, and rep movs where its count is one number
unfoldable pub copies : Op → AbsState → Width → Bool
copies (op.Movs rep) a width = if rep then is_one_number (count_of a (size width)) else true
copies _ a width = false

abbrev pub facts_copied : View → Instr → List Constraint
facts_copied v i = if copies i.op v.state i.width then facts_of_copies (reaches v (reads i.op v.state i)) (reaches v (writes i.op v.state i)) else []

-- -- Of a node, and of all

unfoldable pub facts_at : View → Content → List Constraint
facts_at v (Extern k) = flat_map facts_of_reach (reaches v (extern_accesses v k))
facts_at v (Instruction i) = flat_map facts_of_reach (reaches v (accesses v.state i)) ++ facts_copied v i
facts_at v Nothing = []

abbrev pub facts_of_placed : Image → Settings → States → Placed → List Constraint
facts_of_placed image settings s p = facts_at (view_of p.state s.cells p.node.context.proc) (content_at image settings p.node.at)

unfoldable pub constraints : Image → Settings → States → List Constraint
constraints image settings s = flat_map (facts_of_placed image settings s) s.placed
