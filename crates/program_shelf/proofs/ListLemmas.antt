-- The names of a list, line by line.
use Rattle.std.proofs.Common.{◌≡◌, ℕ, ◌+◌, ◌<◌, ◌≤◌, nat_lt, get_or, true, false, cond, Ok, Err, List, [], ◌∷◌, ◌++◌, length, map, refl, sym, ap, subst, ◌∙◌, arith, append_assoc, append-nil}
use Rattle.std.proofs.lemmas.Bool.{cond-true, cond-false}
use Rattle.std.proofs.lemmas.List.{map-append}
use Rattle.std.specs.List.{concat}
use Rattle.std.specs.Str.{IsUtf8}
use Rattle.std.proofs.lemmas.Bool.{and_parts, ltb-true}
use Rattle.std.proofs.lemmas.Str.{IsUtf8-from_ascii}
use Rattle.std.proofs.lemmas.Str.Ascii.{IsAscii-from_all}
use Rattle.std.proofs.lemmas.List.Sums.{AllPass-from_list_all}
use Rattle.surf_base.proofs.TextLines.{concat-lines_of}
use Rattle.surf_base.specs.Sink.{lines_of}
use Rattle.program_shelf.specs.declared.list.ListError.{ListError}
use Rattle.program_shelf.specs.declared.list.ListError.TheVariants as errors
use Rattle.requests.specs.Lines.{content}
use Rattle.program_shelf.specs.Listed.{is_name, may_stand, Listing, name_before, names_from, some_names, listing, TellsLine, Tells}

abbrev pub resumed : List (List ℕ) → Listing → Listing
resumed front (Ok more) = Ok (front ++ more)
resumed front (Err number) = Err number

resumed_more : (front : List (List ℕ)) (name : List ℕ) (r : Listing) → resumed front (name_before name r) ≡ resumed (front ++ name ∷ []) r
resumed_more front name (Ok more) = ap Ok (sym (append_assoc front (name ∷ []) more))
resumed_more front name (Err number) = refl

-- bytes have a line
lines_are_some : (bytes : List ℕ) → 0 < length bytes → listing bytes ≡ names_from 1 (lines_of bytes)
lines_are_some bytes has = by_lines (lines_of bytes) (concat-lines_of bytes)
  where
    by_lines : (lines : List (List ℕ)) → concat lines ≡ bytes → some_names lines ≡ names_from 1 lines
    by_lines [] e = absurd (omega (arith, ap length e))
    by_lines (line ∷ lines) e = refl

module _ (bytes : List ℕ) where
  -- so many lines are read, and what is left makes them the list
  pub record Resumes (rest : List ℕ) (done : List (List ℕ)) (number : ℕ) : Type 0 where
    pub reading : resumed done (names_from (number + 1) (lines_of rest)) ≡ resumed [] (names_from 1 (lines_of bytes))
    pub room : number + length rest ≤ length bytes
    pub some : number ≡ 0 → rest ≡ bytes

  pub begun : Resumes bytes [] 0
  begun = record { reading = refl; room = omega arith; some = λ _. refl }

  unchanged : (r : Listing) → resumed [] r ≡ r
  unchanged (Ok more) = refl
  unchanged (Err number) = refl

  -- where there is a line, the list is that of all lines
  with_lines : (lines : List (List ℕ)) (line : List ℕ) (more : List (List ℕ)) → lines ≡ line ∷ more → some_names lines ≡ names_from 1 lines
  with_lines lines line more is = rw is refl

  next : (rest line after : List ℕ) (number : ℕ) → lines_of rest ≡ line ∷ lines_of after
      → names_from (number + 1) (lines_of rest) ≡ cond (may_stand (number + 1) line) (name_before (content line) (names_from (number + 1 + 1) (lines_of after))) (Err (number + 1))
  unfolding names_from
  next rest line after number split = rw split refl

  pub one_more : (rest line after : List ℕ) (done : List (List ℕ)) (number : ℕ) → lines_of rest ≡ line ∷ lines_of after
      → number + 1 + length after ≤ length bytes → may_stand (number + 1) line ≡ true → Resumes rest done number → Resumes after (done ++ content line ∷ []) (number + 1)
  one_more rest line after done number split room may r = record {
    reading = sym (resumed_more done (content line) _)
        ∙ ap (resumed done) (sym (next rest line after number split ∙ cond-true _ _ _ may)) ∙ r.reading;
    room = room;
    some = λ z. absurd (omega (arith, z));
  }

  -- whatever was read, there is a line
  some_lines : (rest line after : List ℕ) (done : List (List ℕ)) (number : ℕ) → lines_of rest ≡ line ∷ lines_of after → Resumes rest done number
      → length rest ≤ length bytes
  some_lines rest line after done number split r = let room = r.room in omega arith

  pub bad_line : (rest line after : List ℕ) (done : List (List ℕ)) (number : ℕ) → lines_of rest ≡ line ∷ lines_of after
      → 0 < length bytes → may_stand (number + 1) line ≡ false → Resumes rest done number → listing bytes ≡ Err (number + 1)
  bad_line rest line after done number split has may r =
      lines_are_some bytes has ∙ sym (unchanged _) ∙ sym r.reading
      ∙ ap (resumed done) (next rest line after number split ∙ cond-false _ _ _ may)

  pub all_lines : (rest : List ℕ) (done : List (List ℕ)) (number : ℕ) → length rest ≡ 0 → 0 < length bytes → Resumes rest done number → listing bytes ≡ Ok done
  unfolding lines_of names_from
  all_lines [] done number none has r = lines_are_some bytes has ∙ sym (unchanged _) ∙ sym r.reading ∙ ap Ok (append-nil done)
  all_lines (byte ∷ rest) done number none has r = absurd (omega arith)

-- one more name behind the others
pub one_name : {A : Type 0} (text : A → List ℕ) (bytes rest line after : List ℕ) (names more : List A) (name : A) (number : ℕ) → lines_of rest ≡ line ∷ lines_of after
    → 0 < length rest → length rest ≡ length line + length after → 1 ≤ length line → may_stand (number + 1) line ≡ true → text name ≡ content line
    → more ≡ names ++ name ∷ [] → Resumes bytes rest (map text names) number → Resumes bytes after (map text more) (number + 1)
one_name text bytes rest line after names more name number split has sum some may is added r =
    let room = r.room in
    subst (λ done. Resumes bytes after done (number + 1)) (sym (ap (map text) added ∙ map-append text names (name ∷ []) ∙ ap (λ t. map text names ++ t ∷ []) is))
    (one_more bytes rest line after (map text names) number split (omega arith) may r)

pub no_line : (bytes : List ℕ) → length bytes ≡ 0 → listing bytes ≡ Err 1
unfolding lines_of
no_line [] none = refl
no_line (byte ∷ rest) none = absurd (omega arith)

-- a name is UTF-8
pub name_is_utf8 : (line : List ℕ) → is_name line ≡ true → IsUtf8 line
name_is_utf8 line is = IsUtf8-from_ascii line (IsAscii-from_all line (λ k d lt. ltb-true (get_or line k d) 128 (AllPass-from_list_all (λ byte. nat_lt byte 128) line (and_parts _ _ is).1 k d lt)))

-- what a refused line tells of the list
pub refused : (bytes rest line after : List ℕ) (done : List (List ℕ)) (number : ℕ) (error : ListError) → lines_of rest ≡ line ∷ lines_of after
    → 0 < length rest → Resumes bytes rest done number → TellsLine (number + 1) line (Err error) → Tells bytes (Err error)
refused bytes rest line after done number errors.Memory split has r told = tt
refused bytes rest line after done number (errors.Line other) split has r told =
    let room = r.room in
    bad_line bytes rest line after done number split (omega arith) told.0 r ∙ ap Err (sym told.1)
