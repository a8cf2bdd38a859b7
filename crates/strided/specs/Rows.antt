-- What the formulas of `Operations` come to, said without them. The definitions are the project's own.
use Rattle.std.specs.Prelude.{◌≡◌, ℕ, ℤ, pos, ◌+ℤ◌, ◌*ℤ◌, ◌≤ℤ◌, ◌<ℤ◌}
use Rattle.std.specs.Int.{int_min, int_max}
use Rattle.strided.specs.Interval.{Interval, interval, IsMember, least, greatest, full}
use Rattle.strided.specs.Operations.{spaced, joint_stride}

-- z and so many times 2^32
abbrev pub turned : ℤ → ℤ → ℤ
turned z turns = z +ℤ (turns *ℤ pos 4294967296)

-- r is the interval of the two ends, both moved into the signed words by one multiple of 2^32 where one does
-- so, and else of all words
pub record IsWrapped (stride : ℕ) (lo hi : ℤ) (r : Interval) : Type 0 where
  pub moved : (k : ℤ) → least ≤ℤ turned lo k → turned hi k ≤ℤ greatest → r ≡ spaced stride (turned lo k) (turned hi k)
  pub unmoved : ((k : ℤ) → least ≤ℤ turned lo k → greatest <ℤ turned hi k) → r ≡ full

-- the ends of the join: lowering leaves the greater upper end, since it is a member
pub record HasJoinedEnds (a b r : Interval) : Type 0 where
  pub lo : r.lo ≡ int_min a.lo b.lo
  pub hi : r.hi ≡ int_max a.hi b.hi

-- The ends of the old interval a widened by b: kept where b doesn't pass them, and else the least and the
-- greatest signed word that lie whole joint strides from a's lower end.
pub record HasWidenedEnds (a b r : Interval) : Type 0 where
  pub lo_kept : a.lo ≤ℤ b.lo → r.lo ≡ a.lo
  pub lo_whole : b.lo <ℤ a.lo → IsMember a.lo (interval (joint_stride a b) r.lo a.lo)
  pub lo_least : b.lo <ℤ a.lo → (least ≤ℤ r.lo) × (r.lo <ℤ (least +ℤ pos (joint_stride a b)))
  pub hi_kept : b.hi ≤ℤ a.hi → r.hi ≡ a.hi
  pub hi_whole : a.hi <ℤ b.hi → IsMember r.hi (interval (joint_stride a b) a.lo r.hi)
  pub hi_greatest : a.hi <ℤ b.hi → (r.hi ≤ℤ greatest) × (greatest <ℤ (r.hi +ℤ pos (joint_stride a b)))
