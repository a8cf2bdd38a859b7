-- What an extern leaves: any bytes where it writes, and then its results.
use Rattle.std.proofs.Common.{◌≡◌, ℕ, ◌==◌, Bool, true, false, cond, List, [], ◌∷◌, ◌++◌, Option, Some, None, zero, suc, refl, sym, ap, arith}
use Rattle.std.proofs.lemmas.Bool.{false≢true, eqb-false}
use Rattle.image_map.specs.declared.image.Image.{Image}
use Rattle.image_map.specs.declared.region.Kind.{Kind}
use Rattle.image_map.specs.declared.region.Kind.TheVariants as kind
use Rattle.strided.specs.Interval.{Interval}
use Rattle.alocs.specs.Cells.{Division}
use Rattle.vset.specs.Values.{Values}
use Rattle.abs_semantics.specs.declared.parts.RangeValue.TheVariants as range
use Rattle.abs_semantics.specs.States.{AbsState}
use Rattle.abs_semantics.specs.Operands.{with_register}
use Rattle.ia32_semantics.specs.Effects.{Whole}
use Rattle.image_map.specs.declared.region.Settings.{Settings}
use Rattle.call_strings.specs.declared.context.Node.{Node}
use Rattle.abs_steps.specs.declared.accesses.Access.{Access}
use Rattle.abs_steps.specs.Effects.{AbsEffect, fills, all_done}
use Rattle.abs_steps.specs.Views.{View}
use Rattle.abs_steps.specs.Strings.{bytes_of}
use Rattle.abs_steps.specs.Accesses.{access, argument, filled_count, range_of, extern_writes}
use Rattle.abs_steps.specs.Externs.{result_effects, fill_effects, extern_row, with_block}
use Rattle.abs_steps.specs.Calls.{allocated, block_or_none}
use Rattle.abs_steps.specs.Successors.{States, answered_from, extern_successors}
use Rattle.transfer_flow.specs.Externs.{fills_of, comes_back, gives_block, left_by, IsOfBytes}

module _ (at : Values) where
  fill_if : (b : Bool) (n : ℕ) → fills_of (cond b [] (access true at (Some n) ∷ [])) ≡ cond b [] (fills at (Some n) range.Any ∷ [])
  fill_if true n = refl
  fill_if false n = refl

  fill_told : (c : Option Interval) → fills_of (range_of true at 1 c) ≡ fill_effects at c
  fill_told None = refl
  fill_told (Some c) = fill_if (bytes_of 1 c == 0) (bytes_of 1 c)

  bytes_if : (b : Bool) (n : ℕ) → (n == 0) ≡ b → IsOfBytes (cond b [] (access true at (Some n) ∷ []))
  bytes_if true n is = tt
  bytes_if false zero is = absurd (eqb-false 0 0 is refl)
  bytes_if false (suc n) is = omega arith

  of_bytes : (c : Option Interval) → IsOfBytes (range_of true at 1 c)
  of_bytes None = tt
  of_bytes (Some c) = bytes_if (bytes_of 1 c == 0) (bytes_of 1 c) refl

pub writes_bytes : (v : View) (k : Kind) → IsOfBytes (extern_writes v k)
unfolding extern_writes
writes_bytes v (kind.Pure n) = tt
writes_bytes v (kind.Reader n) = tt
writes_bytes v kind.Alloc = tt
writes_bytes v kind.Stop = tt
writes_bytes v kind.Unknown = tt
writes_bytes v (kind.Fills buffer len) = of_bytes (argument v buffer) (filled_count v len)

pub row_told : (v : View) (k : Kind) → fills_of (extern_writes v k) ++ left_by k ≡ extern_row k v
unfolding extern_writes extern_row
row_told v (kind.Pure n) = refl
row_told v (kind.Reader n) = refl
row_told v kind.Alloc = refl
row_told v kind.Stop = refl
row_told v kind.Unknown = refl
row_told v (kind.Fills buffer len) = ap (λ es. es ++ result_effects) (fill_told (argument v buffer) (filled_count v len))

module _ (d : Division) (image : Image) (p : ℕ) where
  pub filled_first : (xs : List Access) (es : List AbsEffect) (a : AbsState) → all_done d image p es (all_done d image p (fills_of xs) a) ≡ all_done d image p (fills_of xs ++ es) a
  filled_first [] es a = refl
  filled_first (x ∷ []) es a = refl
  filled_first (x ∷ y ∷ xs) es a = refl

-- -- By kind

module _ (key : ℕ) (asked : Values) (a : AbsState) where
  pub block_given : (k : Kind) → gives_block k ≡ true → with_register (allocated key asked a) Whole 0 (block_or_none key) ≡ with_block k key asked a
  block_given (kind.Pure n) is = absurd (false≢true is)
  block_given (kind.Reader n) is = absurd (false≢true is)
  block_given kind.Alloc is = refl
  block_given kind.Stop is = absurd (false≢true is)
  block_given kind.Unknown is = absurd (false≢true is)
  block_given (kind.Fills buffer len) is = absurd (false≢true is)

  pub no_block : (k : Kind) → gives_block k ≡ false → a ≡ with_block k key asked a
  no_block (kind.Pure n) is = refl
  no_block (kind.Reader n) is = refl
  no_block kind.Alloc is = absurd (false≢true (sym is))
  no_block kind.Stop is = refl
  no_block kind.Unknown is = refl
  no_block (kind.Fills buffer len) is = refl

module _ (image : Image) (settings : Settings) (s : States) (n : Node) (a : AbsState) where
  pub come_back : (k : Kind) → comes_back k ≡ true → answered_from image settings s n k a ≡ extern_successors image settings s n k a
  unfolding extern_successors
  come_back (kind.Pure n) is = refl
  come_back (kind.Reader n) is = refl
  come_back kind.Alloc is = refl
  come_back kind.Stop is = absurd (false≢true is)
  come_back kind.Unknown is = refl
  come_back (kind.Fills buffer len) is = refl

  pub stay_away : (k : Kind) → comes_back k ≡ false → [] ≡ extern_successors image settings s n k a
  unfolding extern_successors
  stay_away (kind.Pure n) is = absurd (false≢true (sym is))
  stay_away (kind.Reader n) is = absurd (false≢true (sym is))
  stay_away kind.Alloc is = absurd (false≢true (sym is))
  stay_away kind.Stop is = refl
  stay_away kind.Unknown is = absurd (false≢true (sym is))
  stay_away (kind.Fills buffer len) is = absurd (false≢true (sym is))
