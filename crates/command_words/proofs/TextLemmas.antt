-- What follows some text at the front.
use Rattle.std.proofs.Common.{◌≡◌, true, false, Option, Some, None, MatchOption, length, drop, refl, sym, ◌∙◌, ap, subst}
use Rattle.std.specs.Option.{option_map}
use Rattle.std.specs.Borrow.{Bor}
use Rattle.std.specs.Str.{IsCharBoundary}
use Rattle.std.specs.Str.Pattern.{FindsTextPrefix, StripsPrefix}
use Rattle.std.proofs.lemmas.Str.Pattern.{starts_text}
use Rattle.clap.specs.Walk.{Text}
use Rattle.command_words.specs.Values.{after}

-- what `strip_prefix` leaves
pub after_is : (front text : Text) (rest : Option (Bor Text)) → MatchOption rest (FindsTextPrefix front text None) (λ x. StripsPrefix (FindsTextPrefix front) text x.now) → option_map (λ x. x.now) rest ≡ after front text
after_is front text None lacks =
    let starts = starts_text false front text lacks in
    rw (← starts) refl
after_is front text (Some rest) strips =
    let n = strips.0 in
    let found = strips.1 in
    let boundary : IsCharBoundary text n = subst (λ k. IsCharBoundary text k) (sym found.0) found.2 in
    let starts = starts_text true front text (n, found, boundary) in
    let same : rest.now ≡ drop (length front) text = strips.2 ∙ ap (λ k. drop k text) found.0 in
    rw (← starts, same) refl
