-- What a call appends to a text, where the text is told.
use Rattle.std.specs.Prelude.{◌≡◌, ℕ, ◌==◌, if◌then◌else◌, Option, Some, None, List, [], ◌∷◌, ◌++◌}
use Rattle.surf_base.specs.Faults.{Rose}

-- where the text is told, the new one is the old one with this piece behind it
abbrev pub Appends : Option (List ℕ) → Option (List ℕ) → List ℕ → Type 0
Appends None new piece = Unit {0}
Appends (Some old) new piece = new ≡ Some (old ++ piece)

-- some beginning of the piece was appended
pub record AppendsPart (old new : Option (List ℕ)) (piece : List ℕ) : Type 0 where
  pub part : List ℕ
  pub rest : List ℕ
  pub piece_is : piece ≡ part ++ rest
  pub appended : Appends old new part

-- a byte before a text: it begins the first line
unfoldable pub on_first : ℕ → List (List ℕ) → List (List ℕ)
on_first byte [] = (byte ∷ []) ∷ []
on_first byte (line ∷ more) = (byte ∷ line) ∷ more

-- the lines of a text, each with its LF (10); the last may lack it
unfoldable pub lines_of : List ℕ → List (List ℕ)
lines_of [] = []
lines_of (byte ∷ text) = if byte == 10 then (10 ∷ []) ∷ lines_of text else on_first byte (lines_of text)

-- -- Calls, one after another

-- a call of `write` that answers Ok, by the sink before and after it: the piece was appended, and no fault was counted
pub record Writes {K : Type 0} (written : K → Option (List ℕ)) (faults : K → ℕ) (before : K) (piece : List ℕ) (after : K) : Type 0 where
  pub appended : Appends (written before) (written after) piece
  pub counted : faults after ≡ faults before

-- a call that fails: some beginning of the piece was appended, and the count of faults rose
pub record Fails {K : Type 0} (written : K → Option (List ℕ)) (faults : K → ℕ) (before : K) (piece : List ℕ) (after : K) : Type 0 where
  pub part : AppendsPart (written before) (written after) piece
  pub cause : Rose (faults before) (faults after)

-- a call for each piece, in order, and the sink as it stood after each
abbrev pub WritesEach : {K : Type 0} → (K → Option (List ℕ)) → (K → ℕ) → K → List (List ℕ) → K → Type 0
WritesEach written faults old [] new = new ≡ old
WritesEach {K} written faults old (piece ∷ pieces) new =
    (next : K) × Writes written faults old piece next × WritesEach written faults next pieces new

-- a call for each line of the text
abbrev pub WritesLines : {K : Type 0} → (K → Option (List ℕ)) → (K → ℕ) → K → List ℕ → K → Type 0
WritesLines written faults old text new = WritesEach written faults old (lines_of text) new

-- a call for each of the first lines of the text, as many as there are before some line, and then one for that line, which failed
pub record StopsInLine {K : Type 0} (written : K → Option (List ℕ)) (faults : K → ℕ) (old : K) (text : List ℕ) (new : K) : Type 0 where
  pub whole : List (List ℕ)
  pub line : List ℕ
  pub more : List (List ℕ)
  pub lines_are : lines_of text ≡ whole ++ line ∷ more
  pub before : K
  pub each : WritesEach written faults old whole before
  pub fails : Fails written faults before line new
