use Rattle.std.proofs.Common.{◌≢◌, ◌<◌, ◌^◌, get_or, sym, ◌∙◌, lit<, arith, subst}
use Rattle.std.specs.Option.{IfSome}
use Rattle.std.proofs.lemmas.Bool.{false≢true}
use Rattle.std.proofs.lemmas.Str.Pattern.{starts_char}
use Rattle.command_words.proofs.NumeralLemmas.{read_numeral, numeral_below}
use Rattle.command_words.proofs.values.numeral.Goals as goal

pub returns-clause-value : goal.returns-clause-value
returns-clause-value c =
    let plain : get_or c.args.digits.now 0 0 ≢ 43 = λ plus. false≢true (sym c.if-starts_with.false ∙ (starts_char 43 c.args.digits.now c.starts_with.result c.starts_with.ensures.cases (lit< tt) (lit< tt)).1 plus) in
    c.ok.ensures.value ∙ read_numeral c.args.base c.args.most c.args.digits.now c.from_str_radix.result c.requires.high c.requires.most (omega arith) plain c.from_str_radix.ensures.value

pub returns-clause-below : goal.returns-clause-below
returns-clause-below c = subst (λ o. IfSome o (λ value. value < 16 ^ c.args.most)) (sym (returns-clause-value c)) (numeral_below c.args.base c.args.most c.args.digits.now c.requires.high)
