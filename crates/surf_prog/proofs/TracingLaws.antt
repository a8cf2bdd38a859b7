-- The text of a run, piece by piece.
use Rattle.std.proofs.Common.{◌≡◌, inl, inr, ℕ, zero, suc, ◌+◌, ◌-◌, ◌<◌, ◌≤◌, List, [], ◌∷◌, ◌++◌, length, refl, sym, ap, ◌∙◌, append_assoc, arith}
use Rattle.std.specs.Prelude.{Bool}
use Rattle.std.proofs.lemmas.List.{append-nil}
use Rattle.std.specs.Fmt.{decimal}
use Rattle.image_map.specs.declared.image.Image.{Image}
use Rattle.image_map.specs.declared.region.Settings.{Settings}
use Rattle.ia32_semantics.specs.State.{State}
use Rattle.ia32_semantics.specs.Machine.{Occurrence as Step}
use Rattle.ia32_semantics.specs.Step.{Act}
use Rattle.ia32_run.specs.declared.log.Occurrence.{Occurrence}
use Rattle.ia32_run.specs.declared.log.RunLog.{RunLog}
use Rattle.ia32_run.specs.declared.log.Finish.{Finish}
use Rattle.ia32_run.specs.Traces.{Goes, IsTrace}
use Rattle.requests.specs.Texts.{address_line}
use Rattle.std.specs.List.{flat_map}
use Rattle.surf_prog.specs.Tracing.{next_word, seed_words, spaced, step_line, step_lines}

-- -- Words of choice

-- so many were made, and the others follow from the last
pub words_start : (n x : ℕ) (words : List ℕ) → words ≡ [] → words ++ seed_words (n - 0) x ≡ seed_words n x
words_start n x words none = let same : n - 0 ≡ n = omega arith in ap (λ l. l ++ seed_words (n - 0) x) none ∙ ap (λ m. seed_words m x) same

pub words_more : (n k x y : ℕ) (words more whole : List ℕ) → words ++ seed_words (n - k) x ≡ whole → k < n → y ≡ next_word x → more ≡ words ++ y ∷ [] → more ++ seed_words (n - (k + 1)) y ≡ whole
unfolding seed_words
words_more n k x y words more whole kept lt is push =
    let left : n - k ≡ suc (n - (k + 1)) = omega arith in
    ap (λ l. l ++ seed_words (n - (k + 1)) y) push ∙ append_assoc words (y ∷ []) (seed_words (n - (k + 1)) y)
    ∙ ap (λ z. words ++ (z ∷ seed_words (n - (k + 1)) z)) is ∙ ap (λ m. words ++ seed_words m x) (sym left) ∙ kept

pub words_all : (n k x : ℕ) (words whole : List ℕ) → words ++ seed_words (n - k) x ≡ whole → n ≤ k → words ≡ whole
unfolding seed_words
words_all n k x words whole kept all = let none : n - k ≡ 0 = omega arith in sym (append-nil words) ∙ ap (λ m. words ++ seed_words m x) (sym none) ∙ kept

pub seeds_long : (n x : ℕ) → length (seed_words n x) ≡ n
unfolding seed_words
seeds_long zero x = refl
seeds_long (suc n) x = ap suc (seeds_long n (next_word x))

-- -- The text

pub spaced_more : (old new : List ℕ) (numbers after whole : List ℕ) (n : ℕ) → old ++ spaced numbers ≡ whole → numbers ≡ n ∷ after → new ≡ old ++ (32 ∷ decimal n) → new ++ spaced after ≡ whole
spaced_more old new numbers after whole n kept is push =
    ap (λ l. l ++ spaced after) push ∙ append_assoc old (32 ∷ decimal n) (spaced after) ∙ ap (λ l. old ++ spaced l) (sym is) ∙ kept

pub spaced_none : (old numbers whole : List ℕ) → old ++ spaced numbers ≡ whole → length numbers ≡ 0 → old ≡ whole
spaced_none old [] whole kept none = sym (append-nil old) ∙ kept
spaced_none old (n ∷ numbers) whole kept none = absurd (omega arith)

pub addresses_more : (old new : List ℕ) (addresses after whole : List ℕ) (a : ℕ) → old ++ flat_map address_line addresses ≡ whole → addresses ≡ a ∷ after → new ≡ old ++ address_line a → new ++ flat_map address_line after ≡ whole
addresses_more old new addresses after whole a kept is push =
    ap (λ l. l ++ flat_map address_line after) push ∙ append_assoc old (address_line a) (flat_map address_line after) ∙ ap (λ l. old ++ flat_map address_line l) (sym is) ∙ kept

pub addresses_none : (old addresses whole : List ℕ) → old ++ flat_map address_line addresses ≡ whole → length addresses ≡ 0 → old ≡ whole
addresses_none old [] whole kept none = sym (append-nil old) ∙ kept
addresses_none old (a ∷ addresses) whole kept none = absurd (omega arith)

pub steps_more : (skip_sp : Bool) (k next : ℕ) (old new : List ℕ) (steps after : List Occurrence) (step : Occurrence) (whole : List ℕ) → old ++ step_lines skip_sp k steps ≡ whole → steps ≡ step ∷ after
    → new ≡ old ++ step_line skip_sp k step → next ≡ k + 1 → new ++ step_lines skip_sp next after ≡ whole
unfolding step_lines
steps_more skip_sp k next old new steps after step whole kept is push more =
    ap (λ l. l ++ step_lines skip_sp next after) push ∙ append_assoc old (step_line skip_sp k step) (step_lines skip_sp next after)
    ∙ ap (λ m. old ++ (step_line skip_sp k step ++ step_lines skip_sp m after)) more ∙ ap (λ l. old ++ step_lines skip_sp k l) (sym is) ∙ kept

pub steps_none : (skip_sp : Bool) (k : ℕ) (old : List ℕ) (steps : List Occurrence) (whole : List ℕ) → old ++ step_lines skip_sp k steps ≡ whole → length steps ≡ 0 → old ≡ whole
unfolding step_lines
steps_none skip_sp k old [] whole kept none = sym (append-nil old) ∙ kept
steps_none skip_sp k old (step ∷ steps) whole kept none = absurd (omega arith)

-- -- No run has more steps than it may have

goes_short : (image : Image) (settings : Settings) (most : ℕ) (words : List ℕ) (run : List (Step Act)) (s : State) (end : Finish) → Goes image settings most s words run end → length run ≤ most
goes_short image settings most words [] s end goes = omega arith
goes_short image settings most words (o ∷ rest) s end (some, is, left, makes, inl (done, none, ends)) = let short : length rest ≡ 0 = ap length none in omega arith
goes_short image settings most words (o ∷ rest) s end (some, is, left, makes, inr (on, goes)) = let short = goes_short image settings (most - 1) left rest o.after end goes in omega arith

pub few_steps : (image : Image) (settings : Settings) (words : List ℕ) (most : ℕ) (log : RunLog) → IsTrace image settings words most log → length log.steps ≤ most
few_steps image settings words most log trace =
    let short = goes_short image settings most _ trace.run _ log.finish trace.goes in let long = trace.tells.long in omega arith
