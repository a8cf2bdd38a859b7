-- Numbers of a width.
use Rattle.std.proofs.Common.{◌≡◌, ℕ, ◌%◌, ◌^◌, ◌<◌, arith}
use Rattle.ia32_types.specs.declared.Width.{Width}
use Rattle.ia32_types.specs.declared.Width.TheVariants.{B8, W16, D32}
use Rattle.ia32_semantics.specs.Operands.{bits, part_of}
use Rattle.step_soundness.specs.Terms.{IsPart}

pub fits_word : (width : Width) (n : ℕ) → n < 2 ^ bits width → n < 4294967296
fits_word B8 n lt = omega (arith, lt)
fits_word W16 n lt = omega (arith, lt)
fits_word D32 n lt = lt

pub fits_part : (width : Width) (n : ℕ) → n < 2 ^ bits width → IsPart (part_of width) n
fits_part B8 n lt = lt
fits_part W16 n lt = lt
fits_part D32 n lt = lt

pub cut_same : (width : Width) (n : ℕ) → n < 2 ^ bits width → n ≡ n % 2 ^ bits width
cut_same B8 n lt = omega (arith, lt)
cut_same W16 n lt = omega (arith, lt)
cut_same D32 n lt = omega (arith, lt)
