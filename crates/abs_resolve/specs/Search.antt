-- What a search along links has noted so far.
use Rattle.std.specs.Prelude.{◌≡◌, ℕ, ◌||◌, not, nat_lt, Bool, true, false, if◌then◌else◌, List, [], ◌∷◌, length}
use Rattle.vset.specs.declared.part.Part.{Part}
use Rattle.vset.specs.Operations.{same_part}
use Rattle.abs_semantics.specs.declared.parts.Reason.{Reason}
use Rattle.abs_semantics.specs.declared.parts.Reason.TheVariants.{UnknownWrite, OutOfRegion, HeapOverrun}
use Rattle.abs_semantics.specs.States.{AbsState}
use Rattle.abs_semantics.specs.Resolve.{Verdict, Met, Resolved, is_listed, is_refused_by, part_before, put_part, verdict_on}

pub record Noted : Type 0 where
  -- the intervals that were met
  pub seen : List Part
  -- those that are listed
  pub entries : List Part
  -- the reasons for which others aren't
  pub unknown_write : Bool
  pub out_of_region : Bool
  pub heap_overrun : Bool

abbrev pub nothing : Noted
nothing = record { seen = []; entries = []; unknown_write = false; out_of_region = false; heap_overrun = false }

abbrev pub put_if : Bool → Part → List Part → List Part
put_if true x xs = put_part x xs
put_if false x xs = xs

abbrev pub noted : Verdict → Part → Noted → Noted
noted v x n =
    record {
      seen = put_part x n.seen;
      entries = put_if (is_listed v) x n.entries;
      unknown_write = n.unknown_write || is_refused_by UnknownWrite v;
      out_of_region = n.out_of_region || is_refused_by OutOfRegion v;
      heap_overrun = n.heap_overrun || is_refused_by HeapOverrun v;
    }

unfoldable pub all_noted : AbsState → ℕ → ℕ → Noted → List Met → Noted
all_noted a p len n [] = n
all_noted a p len n (m ∷ ms) = all_noted a p len (noted (verdict_on a p len m) m.place n) ms

-- a part at the head of a list
abbrev pub begins_with : Part → List Part → Bool
begins_with x [] = false
begins_with x (y ∷ ys) = same_part y x

-- A list's head is the part, or doesn't stand before it: here the part is put.
abbrev pub IsPlaceOf : Part → List Part → Type 0
IsPlaceOf x [] = Unit {0}
IsPlaceOf x (y ∷ ys) = (same_part y x || not (part_before y x)) ≡ true

abbrev pub is_crowd : List Part → Bool
is_crowd xs = nat_lt 1024 (length xs)

abbrev pub with_reason : Bool → Reason → List Reason → List Reason
with_reason true r rs = r ∷ rs
with_reason false r rs = rs

abbrev pub reasons_of : Noted → List Reason
reasons_of n = with_reason n.unknown_write UnknownWrite (with_reason n.out_of_region OutOfRegion (with_reason n.heap_overrun HeapOverrun []))

abbrev pub crowded : Resolved
crowded = record { entries = []; reasons = OutOfRegion ∷ [] }

-- what is told in the end
abbrev pub finished : Noted → Resolved
finished n = if is_crowd n.seen then crowded else record { entries = n.entries; reasons = reasons_of n }
