-- What an operation does in a run to words and flags that value-sets and sets of flags hold. The relation is the project's own.

use Rattle.std.specs.Prelude.{◌≡◌, ℕ, ◌^◌, ◌<◌, Bool, true, false}
use Rattle.ia32_types.specs.declared.Flag.{Flag}
use Rattle.ia32_types.specs.declared.Flag.TheVariants.{Cf, Pf, Zf, Sf, Of}
use Rattle.ia32_types.specs.declared.Op.{Op}
use Rattle.ia32_types.specs.Sets.{has_flag}
use Rattle.ia32_semantics.specs.declared.flags.Flags.{Flags}
use Rattle.ia32_semantics.specs.declared.flags.FlagsOut.{FlagsOut}
use Rattle.ia32_semantics.specs.declared.flags.FlagOut.{FlagOut}
use Rattle.ia32_semantics.specs.declared.flags.FlagOut.TheVariants as flag
use Rattle.vset.specs.declared.facts.AbsFlags.{AbsFlags}
use Rattle.vset.specs.Members.{HasValue}
use Rattle.vset.specs.Values.{Values}
use Rattle.vset.specs.World.{World}
use Rattle.abs_alu.specs.Computed.{computed, computed_flags}
use Rattle.abs_alu.specs.Operands.{takes_second}

-- a flag may have a value
abbrev pub Allows : AbsFlags → Flag → Bool → Type 0
Allows f x true = has_flag f.one x ≡ true
Allows f x false = has_flag f.zero x ≡ true

abbrev pub AllowsAll : AbsFlags → Flags → Type 0
AllowsAll f flags = Allows f Cf flags.cf × Allows f Pf flags.pf × Allows f Zf flags.zf × Allows f Sf flags.sf × Allows f Of flags.of

-- a flag after what is done to it
abbrev pub IsFlagAfter : FlagOut → Bool → Bool → Type 0
IsFlagAfter flag.Kept before now = now ≡ before
IsFlagAfter (flag.Set value) before now = now ≡ value
IsFlagAfter flag.Undefined before now = Unit {0}

abbrev pub AreAfter : FlagsOut → Flags → Flags → Type 0
AreAfter out before now =
    IsFlagAfter out.cf before.cf now.cf × IsFlagAfter out.pf before.pf now.pf × IsFlagAfter out.zf before.zf now.zf × IsFlagAfter out.sf before.sf now.sf × IsFlagAfter out.of before.of now.of

-- The operation on words of w bits that the value-sets hold, with flags that may be so, and the flags that it leaves. Where one
-- operand alone is taken, the second may be any word.
pub record IsDone (lane : ℕ) (world : World) (w : ℕ) (o : Op) (a b : Values) (f : AbsFlags) : Type 0 where
  pub first : ℕ
  pub second : ℕ
  pub before : Flags
  pub now : Flags
  pub first_below : first < 2 ^ w
  pub second_below : second < 2 ^ w
  pub first_held : HasValue lane world first a
  pub second_held : takes_second o ≡ true → HasValue lane world second b
  pub flags_allowed : AllowsAll f before
  pub flags_after : AreAfter (computed_flags w o first second before.cf) before now

-- the word that it gives
abbrev pub given : {lane : ℕ} {world : World} {w : ℕ} {o : Op} {a b : Values} {f : AbsFlags} → IsDone lane world w o a b f → ℕ
given {lane} {world} {w} {o} done = computed w o done.first done.second done.before.cf
