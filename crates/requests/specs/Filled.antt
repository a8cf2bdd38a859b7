-- A text that stands at the front of some bytes. The project's own.
use Rattle.std.specs.Prelude.{◌≡◌, ℕ, List, length, take, drop}

-- the first bytes, so many, are the text; those behind it are as they were before
pub record Filled (before now : List ℕ) (end : ℕ) (text : List ℕ) : Type 0 where
  pub text_is : take end now ≡ text
  pub rest_is : drop end now ≡ drop end before
  pub end_is : end ≡ length text
