-- Lines read one after another.
use Rattle.std.proofs.Common.{◌≡◌, ◌⊎◌, ℕ, ◌+◌, ◌<◌, ◌≤◌, Option, Some, None, Ok, Err, Result, List, [], ◌∷◌, ◌++◌, length, refl, sym, ap, ◌∙◌, subst, inl, inr, arith, append_assoc, append-nil, eq-eqb}
use Rattle.std.proofs.lemmas.Bool.{ne_eqb, cond-true, cond-false}
use Rattle.std.proofs.lemmas.List.{length-append}
use Rattle.surf_base.specs.Sink.{lines_of}
use Rattle.requests.specs.declared.request.Request.{Request}
use Rattle.requests.specs.declared.request.LineCause.{LineCause}
use Rattle.requests.specs.declared.request.ScriptError.TheVariants as errors
use Rattle.requests.specs.Lines.{content, line_request}
use Rattle.requests.specs.Script.{Reading, before_others, line_then, lines_read, script}

-- requests before those of the lines that are left
abbrev pub resumed : List (ℕ × Request) → Reading → Reading
resumed front (Ok more) = Ok (front ++ more)
resumed front (Err error) = Err error

resumed_more : (front : List (ℕ × Request)) (asked : ℕ × Request) (r : Reading) → resumed front (before_others asked r) ≡ resumed (front ++ asked ∷ []) r
resumed_more front asked (Ok more) = ap Ok (sym (append_assoc front (asked ∷ []) more))
resumed_more front asked (Err error) = refl

module _ (sessions : ℕ) (programs : Option ℕ) (bytes : List ℕ) where
  abbrev left : List ℕ → ℕ → ℕ → Reading
  left rest number count = lines_read sessions programs (lines_of rest) (number + 1) count

  -- so many lines are read, and what is left makes them the script
  pub record Resumes (rest : List ℕ) (done : List (ℕ × Request)) (number : ℕ) : Type 0 where
    pub reading : resumed done (left rest number (length done)) ≡ script sessions programs bytes
    pub room : number + length rest ≤ length bytes

  unchanged : (r : Reading) → resumed [] r ≡ r
  unchanged (Ok more) = refl
  unchanged (Err error) = refl

  pub resumes_first : Resumes bytes [] 0
  resumes_first = record { reading = unchanged _; room = omega arith }

  next_line : (rest line after : List ℕ) (number count : ℕ) → lines_of rest ≡ line ∷ lines_of after
      → left rest number count ≡ line_then (line_request sessions programs (content line)) (number + 1) count (λ more. left after (number + 1) more)
  unfolding lines_read
  next_line rest line after number count split = rw split refl

  pub bad_line : (rest line after : List ℕ) (done : List (ℕ × Request)) (number : ℕ) (cause : LineCause) → lines_of rest ≡ line ∷ lines_of after
      → Resumes rest done number → Err cause ≡ line_request sessions programs (content line) → script sessions programs bytes ≡ Err (errors.Line (number + 1) cause)
  bad_line rest line after done number cause split r is =
      sym r.reading ∙ ap (resumed done) (next_line rest line after number (length done) split
      ∙ ap (λ x. line_then x (number + 1) (length done) (λ more. left after (number + 1) more)) (sym is))

  pub no_request : (rest line after : List ℕ) (done : List (ℕ × Request)) (number : ℕ) → lines_of rest ≡ line ∷ lines_of after
      → number + 1 + length after ≤ length bytes → Resumes rest done number → Ok None ≡ line_request sessions programs (content line) → Resumes after done (number + 1)
  no_request rest line after done number split room r is = record {
    reading = ap (resumed done) (sym (next_line rest line after number (length done) split
        ∙ ap (λ x. line_then x (number + 1) (length done) (λ more. left after (number + 1) more)) (sym is))) ∙ r.reading;
    room = room;
  }

  pub too_many : (rest line after : List ℕ) (done : List (ℕ × Request)) (number : ℕ) (asked : ℕ × Request) → lines_of rest ≡ line ∷ lines_of after
      → length done ≡ 1024 → Resumes rest done number → Ok (Some asked) ≡ line_request sessions programs (content line) → script sessions programs bytes ≡ Err (errors.TooLong 1024)
  too_many rest line after done number asked split full r is =
      sym r.reading ∙ ap (resumed done) (next_line rest line after number (length done) split
      ∙ ap (λ x. line_then x (number + 1) (length done) (λ more. left after (number + 1) more)) (sym is)
      ∙ cond-true _ _ _ (eq-eqb (length done) 1024 full))

  pub one_more : (rest line after : List ℕ) (done : List (ℕ × Request)) (number : ℕ) (asked : ℕ × Request) → lines_of rest ≡ line ∷ lines_of after
      → number + 1 + length after ≤ length bytes → ¬ (length done ≡ 1024) → Resumes rest done number → Ok (Some asked) ≡ line_request sessions programs (content line)
      → Resumes after (done ++ asked ∷ []) (number + 1)
  one_more rest line after done number asked split room few r is = record {
    reading = subst (λ n. resumed (done ++ asked ∷ []) (left after (number + 1) n) ≡ script sessions programs bytes) (sym count)
        (sym (resumed_more done asked _)
        ∙ ap (resumed done) (sym (next_line rest line after number (length done) split
        ∙ ap (λ x. line_then x (number + 1) (length done) (λ more. left after (number + 1) more)) (sym is)
        ∙ cond-false _ _ _ (ne_eqb (length done) 1024 few))) ∙ r.reading);
    room = room;
  } where
    count : length (done ++ asked ∷ []) ≡ length done + 1
    count = length-append done (asked ∷ [])

  pub whole_script : (rest : List ℕ) (done : List (ℕ × Request)) (number : ℕ) → length rest ≡ 0 → Resumes rest done number → script sessions programs bytes ≡ Ok done
  unfolding lines_of lines_read
  whole_script [] done number none r = sym r.reading ∙ ap Ok (append-nil done)
  whole_script (byte ∷ rest) done number none r = absurd (omega arith)
