use Rattle.std.proofs.Common.{ap, sym, ◌∙◌}
use Rattle.image_map.specs.Texts.{is_end}
use Rattle.image_map.proofs.TextLemmas.{text_unlike, text_nul, text_like}
use Rattle.image_map.proofs.name.is_text.Goals as goal

pub returns-in-None : goal.returns-in-None
returns-in-None c = text_unlike c.args.bytes.now c.args.text.now c.in-None.ensures.cases

pub returns-then-has_nul : goal.returns-then-has_nul
returns-then-has_nul c = text_nul c.args.bytes.now c.args.text.now (sym c.has_nul.ensures ∙ c.if-has_nul.true)

pub returns-else-has_nul : goal.returns-else-has_nul
returns-else-has_nul c =
    c.is_end.ensures ∙ (ap is_end c.in-Some.ensures.cases.1 ∙ text_like c.args.bytes.now c.args.text.now c.in-Some.ensures.cases.0 (sym c.has_nul.ensures ∙ c.if-has_nul.false))
