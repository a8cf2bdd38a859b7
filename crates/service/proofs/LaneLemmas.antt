-- Which lanes a shop's store has.
use Rattle.std.proofs.Common.{◌≡◌, ℕ, zero, suc, ◌+◌, ◌<◌, ◌≤◌, ◌==◌, true, Option, Some, None, List, [], ◌∷◌, get_or, refl, ap, arith}
use Rattle.std.proofs.lemmas.Bool.{eqb-true, and_parts}
use Rattle.std.proofs.lemmas.Option.{none-some, same_Some}
use Rattle.service.specs.Lanes.{are_numbered}

numbered_up : (next count : ℕ) (lanes : List (Option ℕ)) → are_numbered next count lanes ≡ true → next ≤ count
numbered_up next count [] e = let same = eqb-true next count e in omega (arith, same)
numbered_up next count (None ∷ lanes) e = numbered_up next count lanes e
numbered_up next count (Some lane ∷ lanes) e = let more = numbered_up (next + 1) count lanes (and_parts (lane == next) (are_numbered (next + 1) count lanes) e).1 in omega (arith, more)

-- the store has each lane that there is
pub numbered_within : (next count : ℕ) (lanes : List (Option ℕ)) (k lane : ℕ) → are_numbered next count lanes ≡ true → get_or lanes k None ≡ Some lane → (next ≤ lane) × (lane < count)
numbered_within next count [] k lane e is = absurd (none-some lane is)
numbered_within next count (None ∷ lanes) zero lane e is = absurd (none-some lane is)
numbered_within next count (None ∷ lanes) (suc k) lane e is = numbered_within next count lanes k lane e is
numbered_within next count (Some other ∷ lanes) zero lane e is =
    let both = and_parts (other == next) (are_numbered (next + 1) count lanes) e in
    let first = eqb-true other next both.0 in
    let same : other ≡ lane = same_Some other lane is in
    let up = numbered_up (next + 1) count lanes both.1 in
    (omega (arith, first, same), omega (arith, first, same, up))
numbered_within next count (Some other ∷ lanes) (suc k) lane e is =
    let h = numbered_within (next + 1) count lanes k lane (and_parts (other == next) (are_numbered (next + 1) count lanes) e).1 is in
    (omega (arith, h.0), h.1)

-- a lane is of one number of call sites
pub one_sites : (next count : ℕ) (lanes : List (Option ℕ)) (j k lane : ℕ) → are_numbered next count lanes ≡ true → get_or lanes j None ≡ Some lane → get_or lanes k None ≡ Some lane → j ≡ k
one_sites next count [] j k lane e a b = absurd (none-some lane a)
one_sites next count (None ∷ lanes) zero k lane e a b = absurd (none-some lane a)
one_sites next count (None ∷ lanes) (suc j) zero lane e a b = absurd (none-some lane b)
one_sites next count (None ∷ lanes) (suc j) (suc k) lane e a b = ap suc (one_sites next count lanes j k lane e a b)
one_sites next count (Some other ∷ lanes) zero zero lane e a b = refl
one_sites next count (Some other ∷ lanes) zero (suc k) lane e a b =
    let both = and_parts (other == next) (are_numbered (next + 1) count lanes) e in
    let first = eqb-true other next both.0 in
    let same : other ≡ lane = same_Some other lane a in
    let up = (numbered_within (next + 1) count lanes k lane both.1 b).0 in
    absurd (omega (arith, first, same, up))
one_sites next count (Some other ∷ lanes) (suc j) zero lane e a b =
    let both = and_parts (other == next) (are_numbered (next + 1) count lanes) e in
    let first = eqb-true other next both.0 in
    let same : other ≡ lane = same_Some other lane b in
    let up = (numbered_within (next + 1) count lanes j lane both.1 a).0 in
    absurd (omega (arith, first, same, up))
one_sites next count (Some other ∷ lanes) (suc j) (suc k) lane e a b = ap suc (one_sites (next + 1) count lanes j k lane (and_parts (other == next) (are_numbered (next + 1) count lanes) e).1 a b)
