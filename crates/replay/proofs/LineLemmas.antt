-- A text is some words in one way at most, and read word by word.
use Rattle.std.proofs.Common.{◌≡◌, ℕ, zero, suc, ◌<◌, List, [], ◌∷◌, ◌++◌, length, take, drop, refl, sym, ap, ◌∙◌, subst, arith, append_assoc}
use Rattle.std.specs.Prelude.{◌==◌, false, Some, None}
use Rattle.std.proofs.lemmas.Bool.{false≢true}
use Rattle.std.proofs.lemmas.List.{append-nil}
use Rattle.std.proofs.lemmas.Option.{none-some, same_Some}
use Rattle.requests.specs.Lines.{content}
use Rattle.replay.specs.Lines.{spaced_word, AreWords, IsStartLine, IsStepLine}

pub one_words : (text words others : List ℕ) → AreWords text words → AreWords text others → words ≡ others
one_words text [] [] p q = refl
one_words text [] (o ∷ others) p q = absurd (none-some o (ap (λ l. spaced_word (take 9 l)) (sym p) ∙ q.0))
one_words text (w ∷ words) [] p q = absurd (none-some w (ap (λ l. spaced_word (take 9 l)) (sym q) ∙ p.0))
one_words text (w ∷ words) (o ∷ others) p q = ap (λ x. x ∷ words) (same_Some w o (sym p.0 ∙ q.0)) ∙ ap (λ l. o ∷ l) (one_words (drop 9 text) words others p.1 q.1)

pub one_start : (line words others : List ℕ) → IsStartLine line words → IsStartLine line others → words ≡ others
one_start line words others p q = one_words (drop 5 (content line)) words others p.are_words q.are_words

pub one_step : (line : List ℕ) (at : ℕ) (words others : List ℕ) → IsStepLine line at words → IsStepLine line at others → words ≡ others
one_step line at words others p q = one_words (drop 8 (content line)) words others p.are_words q.are_words

-- -- The loop

-- a list that isn't empty has an element
pub some_left : (n : ℕ) → false ≡ (n == 0) → 0 < n
some_left zero e = absurd (false≢true e)
some_left (suc n) e = omega arith

-- so many words were read, and what is left are the others
pub record Read (text rest words : List ℕ) : Type 0 where
  pub forth : (others : List ℕ) → AreWords rest others → AreWords text (words ++ others)
  pub back : (all : List ℕ) → AreWords text all → (others : List ℕ) × AreWords rest others

pub read_none : (text words : List ℕ) → words ≡ [] → Read text text words
read_none text words none = record { forth = λ others are. subst (λ w. AreWords text (w ++ others)) (sym none) are; back = λ all are. (all, are) }

pub read_more : (text rest front after words more : List ℕ) (word : ℕ) → front ≡ take 9 rest → after ≡ drop 9 rest → Some word ≡ spaced_word front → more ≡ words ++ word ∷ [] → 0 < length rest → Read text rest words → Read text after more
read_more text rest front after words more word front_is after_is reads push some read =
    let here : spaced_word (take 9 rest) ≡ Some word = ap spaced_word (sym front_is) ∙ sym reads in
    record {
      forth = λ others are. subst (λ l. AreWords text l) (sym (ap (λ l. l ++ others) push ∙ append_assoc words (word ∷ []) others))
          (read.forth (word ∷ others) (here, subst (λ r. AreWords r others) after_is are));
      back = λ all are. let left = read.back all are in behind left.0 left.1;
    }
  where
    behind : (others : List ℕ) → AreWords rest others → (later : List ℕ) × AreWords after later
    behind [] none = absurd (let empty : length rest ≡ 0 = ap length none in omega arith)
    behind (o ∷ others) are = (others, subst (λ r. AreWords r others) (sym after_is) are.1)

pub read_all : (text rest words : List ℕ) → length rest ≡ 0 → Read text rest words → AreWords text words
read_all text [] words none read = subst (λ l. AreWords text l) (append-nil words) (read.forth [] refl)
read_all text (r ∷ rest) words none read = absurd (omega arith)

pub read_stops : (text rest front words : List ℕ) → front ≡ take 9 rest → None ≡ spaced_word front → 0 < length rest → Read text rest words → (all : List ℕ) → ¬ AreWords text all
read_stops text rest front words front_is none some read all are = let left = read.back all are in stuck left.0 left.1
  where
    stuck : (others : List ℕ) → ¬ AreWords rest others
    stuck [] empty = let e : length rest ≡ 0 = ap length empty in absurd (omega arith)
    stuck (o ∷ others) more = none-some o (none ∙ ap spaced_word front_is ∙ more.0)
