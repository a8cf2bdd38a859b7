-- The flags after an operation are among those that may be.

use Rattle.std.proofs.Common.{◌≡◌, ℕ, ◌||◌, Bool, true, false, cond, refl, sym, ◌∙◌, ap}
use Rattle.ia32_types.specs.declared.Flag.{Flag}
use Rattle.ia32_types.specs.declared.Flag.TheVariants.{Cf, Pf, Zf, Sf, Of, Df}
use Rattle.ia32_types.specs.Numbers.{is_same_flag}
use Rattle.ia32_types.specs.Sets.{has_flag}
use Rattle.ia32_types.proofs.NumberLemmas.{each_flag}
use Rattle.ia32_types.proofs.SetLemmas.{flag_set_has}
use Rattle.ia32_semantics.specs.declared.flags.Flags.{Flags}
use Rattle.ia32_semantics.specs.declared.flags.FlagsOut.{FlagsOut}
use Rattle.ia32_semantics.specs.declared.flags.FlagOut.{FlagOut}
use Rattle.ia32_semantics.specs.declared.flags.FlagOut.TheVariants as flag
use Rattle.vset.specs.declared.facts.AbsFlags.{AbsFlags}
use Rattle.abs_alu.specs.Flags.{may_be, done_to, flags_after, after}
use Rattle.abs_alu.specs.Runs.{Allows, AllowsAll, IsFlagAfter, AreAfter}

-- -- One flag

-- a flag that may have had a value may have the one that it has afterwards
kept_or_set : (out : FlagOut) (value : Bool) (has : Bool → Bool) (before : Bool) → has before ≡ true → IsFlagAfter out before value → may_be out value (has value) ≡ true
kept_or_set flag.Kept value has before may is = ap has is ∙ may
kept_or_set (flag.Set true) true has before may is = refl
kept_or_set (flag.Set true) false has before may is = is
kept_or_set (flag.Set false) true has before may is = sym is
kept_or_set (flag.Set false) false has before may is = refl
kept_or_set flag.Undefined value has before may is = refl

-- whether a flag may have a value
abbrev has_value : AbsFlags → Flag → Bool → Bool
has_value f x true = has_flag f.one x
has_value f x false = has_flag f.zero x

allowed_has : (f : AbsFlags) (x : Flag) (v : Bool) → Allows f x v → has_value f x v ≡ true
allowed_has f x true h = h
allowed_has f x false h = h

flag_allowed : (out : FlagsOut) (f : AbsFlags) (x : Flag) (before now : Bool) → Allows f x before → IsFlagAfter (done_to out x) before now → Allows (after out f) x now
unfolding flags_after
flag_allowed out f x before true may is =
    flag_set_has (λ y. may_be (done_to out y) true (has_flag f.one y)) x
    ∙ kept_or_set (done_to out x) true (has_value f x) before (allowed_has f x before may) is
flag_allowed out f x before false may is =
    flag_set_has (λ y. may_be (done_to out y) false (has_flag f.zero y)) x
    ∙ kept_or_set (done_to out x) false (has_value f x) before (allowed_has f x before may) is

pub after_allows : (out : FlagsOut) (f : AbsFlags) (before now : Flags) → AllowsAll f before → AreAfter out before now → AllowsAll (after out f) now
after_allows out f before now may is = (
  flag_allowed out f Cf before.cf now.cf may.0 is.0,
  flag_allowed out f Pf before.pf now.pf may.1 is.1,
  flag_allowed out f Zf before.zf now.zf may.2 is.2,
  flag_allowed out f Sf before.sf now.sf may.3 is.3,
  flag_allowed out f Of before.of now.of may.4 is.4,
)

-- what may be said of DF stays
pub direction_stays : (out : FlagsOut) (f : AbsFlags) (v : Bool) → Allows f Df v → Allows (after out f) Df v
direction_stays out f v may = flag_allowed out f Df v v may refl
