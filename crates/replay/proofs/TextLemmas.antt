-- The text of a reply, address by address.
use Rattle.std.proofs.Common.{◌≡◌, ℕ, ◌+◌, List, [], ◌∷◌, ◌++◌, length, sym, ap, ◌∙◌, arith, append_assoc}
use Rattle.std.specs.List.{flat_map}
use Rattle.std.proofs.lemmas.List.{append-nil}
use Rattle.replay.specs.Texts.{verdict_line, is_missing, missing}

pub verdicts_more : (slice old new addresses after whole : List ℕ) (a : ℕ) → old ++ flat_map (verdict_line slice) addresses ≡ whole → addresses ≡ a ∷ after → new ≡ old ++ verdict_line slice a → new ++ flat_map (verdict_line slice) after ≡ whole
verdicts_more slice old new addresses after whole a kept is push =
    ap (λ l. l ++ flat_map (verdict_line slice) after) push ∙ append_assoc old (verdict_line slice a) (flat_map (verdict_line slice) after) ∙ ap (λ l. old ++ flat_map (verdict_line slice) l) (sym is) ∙ kept

pub verdicts_none : (slice old addresses whole : List ℕ) → old ++ flat_map (verdict_line slice) addresses ≡ whole → length addresses ≡ 0 → old ≡ whole
verdicts_none slice old [] whole kept none = sym (append-nil old) ∙ kept
verdicts_none slice old (a ∷ addresses) whole kept none = absurd (omega arith)

pub missing_more : (slice addresses after : List ℕ) (a count one whole : ℕ) → count + missing slice addresses ≡ whole → addresses ≡ a ∷ after → one ≡ is_missing slice a → count + one + missing slice after ≡ whole
unfolding missing
missing_more slice addresses after a count one whole kept is same =
    let here : missing slice addresses ≡ is_missing slice a + missing slice after = ap (missing slice) is in omega arith

pub missing_none : (slice addresses : List ℕ) (count whole : ℕ) → count + missing slice addresses ≡ whole → length addresses ≡ 0 → count ≡ whole
unfolding missing
missing_none slice [] count whole kept none = let same : count + 0 ≡ whole = kept in omega arith
missing_none slice (a ∷ addresses) count whole kept none = absurd (omega arith)
