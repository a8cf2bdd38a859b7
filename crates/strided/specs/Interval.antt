-- Strided intervals and their members. The definitions are the project's own.
use Rattle.std.specs.Int.{◌∣◌}
use Rattle.std.specs.Prelude.{◌≡◌, ℕ, ◌*◌, ◌<◌, ◌↔◌, ℤ, pos, negsuc, ◌+ℤ◌, ◌≤ℤ◌, Option, MatchOption}

-- the numbers from lo up to hi that lie whole strides above lo
pub record Interval : Type 0 where
  pub stride : ℕ
  pub lo : ℤ
  pub hi : ℤ

abbrev pub interval : ℕ → ℤ → ℤ → Interval
interval stride lo hi = record { stride = stride; lo = lo; hi = hi }

-- v is lo, lo + stride and so on, up to hi
pub record IsMember (v : ℤ) (a : Interval) : Type 0 where
  pub turns : ℕ
  pub reached : v ≡ a.lo +ℤ pos (turns * a.stride)
  pub in_range : v ≤ℤ a.hi

-- -2^31 and 2^31 - 1, the ends of a signed word
abbrev pub least : ℤ
least = negsuc 2147483647

abbrev pub greatest : ℤ
greatest = pos 2147483647

-- The one form of a set of members: within a signed word, with a last member as the upper end, and the stride
-- is 0 exactly where there is one member. So else hi lies above lo, by a multiple of the stride.
pub record IsCanonical (a : Interval) : Type 0 where
  pub low : least ≤ℤ a.lo
  pub high : a.hi ≤ℤ greatest
  pub alone : (a.stride ≡ 0) ↔ (a.lo ≡ a.hi)
  pub last : IsMember a.hi a

-- the same of the stride and the distance of the ends
abbrev pub IsSpan : ℕ → ℕ → Type 0
IsSpan stride gap = (gap ≡ 0 → stride ≡ 0) × (stride ∣ gap)

-- every signed word
abbrev pub full : Interval
full = interval 1 least greatest

-- v alone
abbrev pub one : ℤ → Interval
one v = interval 0 v v

-- each member of a is a member of b
abbrev pub IsBelow : Interval → Interval → Type 0
IsBelow a b = (v : ℤ) → IsMember v a → IsMember v b

-- v is a member of a from lo up to hi
abbrev pub IsWithin : ℤ → Interval → ℤ → ℤ → Type 0
IsWithin v a lo hi = IsMember v a × (lo ≤ℤ v) × (v ≤ℤ hi)

-- the members of a from lo up to hi, or None exactly where there is none
abbrev pub IsClipped : Interval → ℤ → ℤ → Option Interval → Type 0
IsClipped a lo hi r =
    MatchOption r ((v : ℤ) → ¬ IsWithin v a lo hi)
    (λ c. IsMember c.lo c × ((v : ℤ) → IsMember v c ↔ IsWithin v a lo hi))

-- the member that so many strides reach
abbrev pub member_after : Interval → ℕ → ℤ
member_after a turns = a.lo +ℤ pos (turns * a.stride)

-- a has n members: the first n steps reach members, each member, and none twice
pub record HasMembers (a : Interval) (n : ℕ) : Type 0 where
  pub reached : (k : ℕ) → k < n → IsMember (member_after a k) a
  pub all : (v : ℤ) → IsMember v a → (k : ℕ) × (k < n) × (v ≡ member_after a k)
  pub apart : (j k : ℕ) → j < n → k < n → member_after a j ≡ member_after a k → j ≡ k
