-- The lines of a text, one after another.
use Rattle.std.proofs.Common.{◌≡◌, ℕ, suc, ◌+◌, ◌<◌, min, Bool, true, false, cond, not, eqb, Option, List, [], ◌∷◌, ◌++◌, length, take, drop, refl, sym, ap, subst, ◌∙◌, arith, append_assoc, append-nil, eqb-true}
use Rattle.std.specs.List.{concat, position_or_len}
use Rattle.std.proofs.lemmas.List.Folds.{concat-append}
use Rattle.surf_base.specs.Sink.{lines_of, on_first, Appends, AppendsPart, Writes, Fails, WritesEach, WritesLines, StopsInLine}
use Rattle.surf_base.proofs.Appending.{appends_nothing, appends_then, appends_same}

concat-on_first : (byte : ℕ) (lines : List (List ℕ)) → concat (on_first byte lines) ≡ byte ∷ concat lines
unfolding on_first
concat-on_first byte [] = refl
concat-on_first byte (line ∷ more) = refl

concat-cond : (byte : ℕ) (text : List ℕ) (b : Bool) → eqb byte 10 ≡ b → concat (lines_of text) ≡ text
    → concat (cond b ((10 ∷ []) ∷ lines_of text) (on_first byte (lines_of text))) ≡ byte ∷ text
concat-cond byte text true is same = rw (same, eqb-true byte 10 is) refl
concat-cond byte text false is same = rw (concat-on_first, same) refl

-- the lines together are the text
pub concat-lines_of : (text : List ℕ) → concat (lines_of text) ≡ text
unfolding lines_of
concat-lines_of [] = refl
concat-lines_of (byte ∷ text) = concat-cond byte text (eqb byte 10) refl (concat-lines_of text)

-- how many bytes the first line has
abbrev pub first_len : List ℕ → ℕ
first_len text = min (position_or_len (λ byte. eqb byte 10) text + 1) (length text)

on_first-line : (byte : ℕ) (lines : List (List ℕ)) (line : List ℕ) (more : List (List ℕ)) → lines ≡ line ∷ more → on_first byte lines ≡ (byte ∷ line) ∷ more
unfolding on_first
on_first-line byte lines line more is = rw is refl

split_cond : (byte : ℕ) (text : List ℕ) (b : Bool) → eqb byte 10 ≡ b
    → (0 < length text → lines_of text ≡ take (first_len text) text ∷ lines_of (drop (first_len text) text))
    → (n : ℕ) → n ≡ min (cond (not b) (1 + position_or_len (λ byte. eqb byte 10) text) 0 + 1) (suc (length text))
    → cond b ((10 ∷ []) ∷ lines_of text) (on_first byte (lines_of text)) ≡ take n (byte ∷ text) ∷ lines_of (drop n (byte ∷ text))
split_cond byte text true is more n n_is = let one : n ≡ suc 0 = omega arith in rw (one, eqb-true byte 10 is) refl
split_cond byte [] false is more n n_is = let one : n ≡ suc 0 = omega arith in rw one (unfold lines_of on_first in refl)
split_cond byte (next ∷ text) false is more n n_is =
    let next_is : n ≡ suc (first_len (next ∷ text)) = omega arith in
    let split : lines_of (next ∷ text) ≡ take (first_len (next ∷ text)) (next ∷ text) ∷ lines_of (drop (first_len (next ∷ text)) (next ∷ text)) = more (omega arith) in
    rw next_is (on_first-line byte (lines_of (next ∷ text)) _ _ split)

-- the first line, and the lines of what follows it
pub lines_of-split : (text : List ℕ) → 0 < length text → lines_of text ≡ take (first_len text) text ∷ lines_of (drop (first_len text) text)
unfolding lines_of
lines_of-split [] some = absurd (omega arith)
lines_of-split (byte ∷ text) some = split_cond byte text (eqb byte 10) refl (lines_of-split text) _ refl

-- the same of the parts that `split_at` gives
pub line_split : (rest line after : List ℕ) (n : ℕ) → 0 < length rest → n ≡ first_len rest → line ≡ take n rest → after ≡ drop n rest
    → lines_of rest ≡ line ∷ lines_of after
line_split rest line after n some n_is line_is after_is = rw (line_is, after_is, n_is) (lines_of-split rest some)

-- -- Calls, one for each line

module _ {K : Type 0} (written : K → Option (List ℕ)) (faults : K → ℕ) where
  -- one call more
  each_then : (old now new : K) (pieces : List (List ℕ)) (piece : List ℕ) → WritesEach written faults old pieces now
      → Writes written faults now piece new → WritesEach written faults old (pieces ++ piece ∷ []) new
  each_then old now new [] piece each last = (new, subst (λ k. Writes written faults k piece new) each last, refl)
  each_then old now new (first ∷ pieces) piece each last = (each.0, each.1, each_then each.0 now new pieces piece each.2 last)

  -- together they append all the pieces, and count no fault
  pub each_appends : (old new : K) (pieces : List (List ℕ)) → WritesEach written faults old pieces new → Appends (written old) (written new) (concat pieces)
  each_appends old new [] each = subst (λ k. Appends (written old) (written k) []) (sym each) (appends_nothing (written old))
  each_appends old new (piece ∷ pieces) each =
      appends_then (written old) (written each.0) (written new) piece (concat pieces) each.1.appended (each_appends each.0 new pieces each.2)

  pub each_counts : (old new : K) (pieces : List (List ℕ)) → WritesEach written faults old pieces new → faults new ≡ faults old
  each_counts old new [] each = ap faults each
  each_counts old new (piece ∷ pieces) each = each_counts each.0 new pieces each.2 ∙ each.1.counted

  -- a call for each line appends the text
  pub lines_append : (old new : K) (text : List ℕ) → WritesLines written faults old text new → Appends (written old) (written new) text
  lines_append old new text each = appends_same (written old) (written new) _ text (concat-lines_of text) (each_appends old new (lines_of text) each)

  -- whole lines and a part of the next are a part of the text
  pub part_from_lines : (old new : K) (text : List ℕ) → StopsInLine written faults old text new → AppendsPart (written old) (written new) text
  part_from_lines old new text stops = record {
    part = concat stops.whole ++ stops.fails.part.part;
    rest = stops.fails.part.rest ++ concat stops.more;
    piece_is = sym (concat-lines_of text) ∙ ap concat stops.lines_are ∙ concat-append stops.whole (stops.line ∷ stops.more)
        ∙ ap (λ t. concat stops.whole ++ (t ++ concat stops.more)) stops.fails.part.piece_is ∙ simp append_assoc;
    appended = appends_then (written old) (written stops.before) (written new) _ _ (each_appends old stops.before stops.whole stops.each) stops.fails.part.appended;
  }

  -- the lines before the rest have been written
  pub record Written (old now : K) (text rest : List ℕ) : Type 0 where
    pub whole : List (List ℕ)
    pub lines_are : lines_of text ≡ whole ++ lines_of rest
    pub each : WritesEach written faults old whole now

  pub written_none : (old : K) (text : List ℕ) → Written old old text text
  written_none old text = record { whole = []; lines_are = refl; each = refl }

  pub written_line : (old now new : K) (text rest line after : List ℕ) → lines_of rest ≡ line ∷ lines_of after
      → Written old now text rest → Writes written faults now line new → Written old new text after
  written_line old now new text rest line after split w last = record {
    whole = w.whole ++ line ∷ [];
    lines_are = rw (w.lines_are, split, append_assoc) refl;
    each = each_then old now new w.whole line w.each last;
  }

  pub written_all : (old now : K) (text rest : List ℕ) → length rest ≡ 0 → Written old now text rest → WritesLines written faults old text now
  unfolding lines_of
  written_all old now text [] none w =
      let lines : lines_of text ≡ w.whole = w.lines_are ∙ append-nil w.whole in
      subst (λ lines. WritesEach written faults old lines now) (sym lines) w.each
  written_all old now text (byte ∷ rest) none w = absurd (omega arith)

  pub written_part : (old now new : K) (text rest line after : List ℕ) → lines_of rest ≡ line ∷ lines_of after
      → Written old now text rest → Fails written faults now line new → StopsInLine written faults old text new
  written_part old now new text rest line after split w fails = record {
    whole = w.whole;
    line = line;
    more = lines_of after;
    lines_are = w.lines_are ∙ ap (λ lines. w.whole ++ lines) split;
    before = now;
    each = w.each;
    fails = fails;
  }
