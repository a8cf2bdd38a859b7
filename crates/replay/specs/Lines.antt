-- The lines of a file that tells a run: the words of its start, and of each step the address and the words that it takes. The
-- project's own.
use Rattle.std.specs.Prelude.{◌≡◌, ℕ, ◌+◌, ◌*◌, ◌-◌, ◌&&◌, ◌==◌, nat_le, List, [], ◌∷◌, length, take, drop, codes, Option, Some, None, if◌then◌else◌}
use Rattle.std.specs.Option.{option_map, option_and_then}
use Rattle.requests.specs.Lines.{content}

-- -- Words: eight lower-case hexadecimal digits

-- '0' to '9' are 48 to 57, and 'a' to 'f' are 97 to 102
abbrev pub digit : ℕ → Option ℕ
digit byte = if nat_le 48 byte && nat_le byte 57 then Some (byte - 48) else (if nat_le 97 byte && nat_le byte 102 then Some (byte - 87) else None)

abbrev pub two_digits : ℕ → ℕ → Option ℕ
two_digits a b = option_and_then (λ high. option_map (λ low. high * 16 + low) (digit b)) (digit a)

abbrev pub four_digits : ℕ → ℕ → ℕ → ℕ → Option ℕ
four_digits a b c d = option_and_then (λ high. option_map (λ low. high * 256 + low) (two_digits c d)) (two_digits a b)

abbrev pub word_of : List ℕ → Option ℕ
word_of (a ∷ b ∷ c ∷ d ∷ e ∷ f ∷ g ∷ h ∷ []) = option_and_then (λ high. option_map (λ low. high * 65536 + low) (four_digits e f g h)) (four_digits a b c d)
word_of other = None

-- a space (32) and a word
abbrev pub spaced_word : List ℕ → Option ℕ
spaced_word [] = None
spaced_word (byte ∷ digits) = if byte == 32 then word_of digits else None

-- the text is these words, each after a space
abbrev pub AreWords : List ℕ → List ℕ → Type 0
AreWords text [] = text ≡ []
AreWords text (word ∷ words) = (spaced_word (take 9 text) ≡ Some word) × AreWords (drop 9 text) words

-- -- Lines

-- the line has these words for EAX, ECX, EDX, EBX, EBP, ESI, EDI, CF, PF, ZF, SF and OF
pub record IsStartLine (line words : List ℕ) : Type 0 where
  pub begins : take 5 (content line) ≡ codes "start"
  pub are_words : AreWords (drop 5 (content line)) words
  pub twelve : length words ≡ 12

-- the line has an address and the words that a step takes
pub record IsStepLine (line : List ℕ) (at : ℕ) (words : List ℕ) : Type 0 where
  pub address : word_of (take 8 (content line)) ≡ Some at
  pub are_words : AreWords (drop 8 (content line)) words
