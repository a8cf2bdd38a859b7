-- Which steps of a map's graph are calls and returns, and where calls come back. The project's own, after matched walks.
use Rattle.std.specs.Prelude.{ℕ, ◌+◌, Bool, true, false, if◌then◌else◌, List, [], ◌∷◌, ◌++◌, map}
use Rattle.image_map.specs.declared.image.Image.{Image}
use Rattle.image_map.specs.declared.region.Settings.{Settings}
use Rattle.ia32_types.specs.declared.Op.{Op}
use Rattle.ia32_types.specs.declared.Op.TheVariants as op
use Rattle.abs_steps.specs.Places.{Content, Extern, Instruction, Nothing, content_at}
use Rattle.abs_steps.specs.Successors.{Placed, States, moved_to, place_behind}
use Rattle.matched_calls.specs.declared.kinds.StepKinds.{StepKinds}
use Rattle.access_facts.specs.declared.kinds.Told.{Told}
use Rattle.access_facts.specs.declared.kinds.Told.TheVariants.{Callees, Returned, Behind}
use Rattle.access_facts.specs.Flow.{next_of}
use Rattle.access_facts.specs.Next.{numbers_of}
use Rattle.access_facts.specs.Sets.{calls}

-- -- Nodes by what stands there

abbrev pub is_ret : Op → Bool
is_ret op.Ret = true
is_ret _ = false

-- a ret, and an extern, which returns as a ret does
abbrev pub returns : Content → Bool
returns (Extern k) = true
returns (Instruction i) = is_ret i.op
returns Nothing = false

-- -- Steps

-- the number of a thing, counted from one on, with each number that it tells
unfoldable pub paired : {A : Type 0} → (A → List ℕ) → ℕ → List A → List (ℕ × ℕ)
paired tells first [] = []
paired tells first (x ∷ xs) = map (λ n. (first, n)) (tells x) ++ paired tells (first + 1) xs

abbrev pub content_of : Image → Settings → Placed → Content
content_of image settings p = content_at image settings p.node.at

-- from a call to the callees
unfoldable pub callees_of : Image → Settings → States → Placed → List ℕ
callees_of image settings s p = if calls (content_of image settings p) then next_of image settings s p else []

-- from a return to the places after calls
unfoldable pub returned_to : Image → Settings → States → Placed → List ℕ
returned_to image settings s p = if returns (content_of image settings p) then next_of image settings s p else []

-- the node of the same context at the place after the call, where the map has it
unfoldable pub place_after : Image → Settings → States → Placed → List ℕ
place_after image settings s p =
    if calls (content_of image settings p)
    then numbers_of (moved_to (place_behind (content_of image settings p)) p.node) s.placed
    else []

abbrev pub tells : Told → Image → Settings → States → Placed → List ℕ
tells Callees image settings s p = callees_of image settings s p
tells Returned image settings s p = returned_to image settings s p
tells Behind image settings s p = place_after image settings s p

unfoldable pub step_kinds : Image → Settings → States → StepKinds
step_kinds image settings s =
    record {
      calls = paired (callees_of image settings s) 0 s.placed;
      returns = paired (returned_to image settings s) 0 s.placed;
      after = paired (place_after image settings s) 0 s.placed;
    }
