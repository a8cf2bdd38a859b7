-- The part of a script, line by line.
use Rattle.std.proofs.Common.{◌≡◌, ℕ, ◌+◌, ◌<◌, ◌≤◌, Bool, cond, List, [], ◌∷◌, ◌++◌, length, take, drop, get_or, refl, sym, ap, ◌∙◌, append_assoc, append-nil}
use Rattle.std.proofs.lemmas.List.{take_more, drop_more, drop_all}
use Rattle.requests.specs.declared.request.Request.{Request}
use Rattle.program_shelf.specs.Part.{is_of, part_after, part}

module _ (program : ℕ) (all : List (ℕ × Request)) where
  -- the lines before i are done
  abbrev pub Done : List (ℕ × Request) → ℕ → Type 0
  Done kept i = (kept ++ part_after program (take i all) (drop i all)) ≡ part program all

  pub begun : Done [] 0
  begun = refl

  next : (i : ℕ) (d : ℕ × Request) → i < length all
      → part_after program (take i all) (drop i all)
      ≡ cond (is_of program (take i all) (get_or all i d)) (get_or all i d ∷ []) [] ++ part_after program (take (i + 1) all) (drop (i + 1) all)
  unfolding part_after
  next i d lt = rw (drop_more all i d lt, take_more all i d lt) refl

  pub goes_on : (kept kept' : List (ℕ × Request)) (i : ℕ) (d : ℕ × Request) (wanted : Bool) → i < length all → wanted ≡ is_of program (take i all) (get_or all i d)
      → kept' ≡ kept ++ cond wanted (get_or all i d ∷ []) [] → Done kept i → Done kept' (i + 1)
  goes_on kept kept' i d wanted lt is kept_is done =
      ap (λ t. t ++ part_after program (take (i + 1) all) (drop (i + 1) all)) kept_is
      ∙ append_assoc kept _ _
      ∙ ap (λ t. kept ++ t) (ap (λ b. cond b (get_or all i d ∷ []) [] ++ part_after program (take (i + 1) all) (drop (i + 1) all)) is ∙ sym (next i d lt))
      ∙ done

  pub whole : (kept : List (ℕ × Request)) (i : ℕ) → length all ≤ i → Done kept i → kept ≡ part program all
  unfolding part_after
  whole kept i past done = sym (append-nil kept) ∙ ap (λ t. kept ++ part_after program (take i all) t) (sym (drop_all i all past)) ∙ done
