-- What follows from the shapes of segments alone: which bytes may be written, and which are the stack's.
use Rattle.std.proofs.Common.{◌≡◌, ℕ, ◌-◌, List, [], ◌∷◌, refl, sym, ap, ◌∙◌}
use Rattle.std.specs.Prelude.{Bool, true, false, cond, ◌&&◌, ◌==◌, nat_le, nat_lt, bit_and, Option, Some}
use Rattle.std.specs.List.{find}
use Rattle.std.specs.Option.{option_map_or}
use Rattle.image_map.specs.declared.image.Segment.{Segment}
use Rattle.image_map.specs.Memory.{holds, has_flag}
use Rattle.image_map.specs.Shapes.{Shape, shapes}
use Rattle.ia32_memory.specs.Mapped.{is_open_at, is_in_first}

abbrev in_shape : ℕ → Shape → Bool
in_shape a s = nat_le s.start a && nat_lt (a - s.start) s.len

abbrev open_in : List Shape → ℕ → Bool
open_in [] a = false
open_in (s ∷ ss) a = cond (in_shape a s) (bit_and s.flags 2 == 2) (open_in ss a)

abbrev first_in : List Shape → ℕ → Bool
first_in [] a = false
first_in (s ∷ ss) a = in_shape a s

open_go : (h : Bool) (s : Segment) (rest : Option Segment) → option_map_or (has_flag 2) (cond h (Some s) rest) false ≡ cond h (has_flag 2 s) (option_map_or (has_flag 2) rest false)
open_go true s rest = refl
open_go false s rest = refl

pub open_head : (s : Segment) (ss : List Segment) (a : ℕ) → is_open_at (s ∷ ss) a ≡ cond (holds a s) (has_flag 2 s) (is_open_at ss a)
open_head s ss a = open_go (holds a s) s (find (holds a) ss)

open_by : (ss : List Segment) (a : ℕ) → is_open_at ss a ≡ open_in (shapes ss) a
open_by [] a = refl
open_by (s ∷ ss) a = open_head s ss a ∙ ap (λ r. cond (holds a s) (has_flag 2 s) r) (open_by ss a)

first_by : (ss : List Segment) (a : ℕ) → is_in_first ss a ≡ first_in (shapes ss) a
first_by [] a = refl
first_by (s ∷ ss) a = refl

-- segments of the same shapes are open at the same addresses
pub same_open : (ss ts : List Segment) → shapes ss ≡ shapes ts → (a : ℕ) → is_open_at ss a ≡ is_open_at ts a
same_open ss ts same a = open_by ss a ∙ ap (λ l. open_in l a) same ∙ sym (open_by ts a)

pub same_first : (ss ts : List Segment) → shapes ss ≡ shapes ts → (a : ℕ) → is_in_first ss a ≡ is_in_first ts a
same_first ss ts same a = first_by ss a ∙ ap (λ l. first_in l a) same ∙ sym (first_by ts a)
