-- The two cases of the formula.
use Rattle.std.proofs.Common.{ap₂, sym, ◌∙◌, rules}
use Rattle.std.proofs.lemmas.Int.{to_z-of_z}
use Rattle.std.specs.Prelude.{FitsSigned}
use Rattle.std.specs.Int.{w64}
use Rattle.strided.specs.Operations.{spaced}
use Rattle.si_bits.proofs.ShapeLemmas.{bounded-words, bounded-full}
use Rattle.si_bits.proofs.SignLemmas.{plain_32}
use Rattle.si_bits.proofs.shape.bounded.Goals as goal

pub returns-then-are_words : goal.returns-then-are_words
returns-then-are_words c =
    let low : FitsSigned w64 c.args.ends.lo = search rules in
    let high : FitsSigned w64 c.args.ends.hi = search rules in
    c.spaced.ensures
    ∙ ap₂ (spaced c.args.stride) (plain_32 c.narrow.type_inv (c.narrow.ensures ∙ to_z-of_z w64 c.args.ends.lo low)) (plain_32 c.narrow-then-are_words.type_inv (c.narrow-then-are_words.ensures ∙ to_z-of_z w64 c.args.ends.hi high))
    ∙ sym (bounded-words c.args.stride c.args.ends.lo c.args.ends.hi (sym c.are_words.ensures ∙ c.if-are_words.true))

pub returns-else-are_words : goal.returns-else-are_words
returns-else-are_words c =
    c.full.ensures ∙ sym (bounded-full c.args.stride c.args.ends.lo c.args.ends.hi (sym c.are_words.ensures ∙ c.if-are_words.false))
