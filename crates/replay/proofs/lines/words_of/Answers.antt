use Rattle.std.proofs.Common.{◌<◌, length, sym, ◌∙◌, rules}
use Rattle.replay.proofs.LineLemmas.{some_left, read_more, read_stops, read_all}
use Rattle.replay.proofs.lines.words_of.Goals as goal

pub returns-in-None : goal.returns-in-None
returns-in-None c =
    let some : 0 < length c.words_left.rest.now = some_left (length c.words_left.rest.now) c.words_left-test.ensures in
    read_stops c.args.text.now c.words_left.rest.now c.cut.result.0.now c.words_left.words.items c.cut.ensures.front (sym c.in-None.is ∙ c.spaced_word.ensures) some c.words_left.invariant

pub words_left-preserved : goal.words_left-preserved
words_left-preserved c =
    let some : 0 < length c.words_left.rest.now = some_left (length c.words_left.rest.now) c.words_left-test.ensures in
    read_more c.args.text.now c.words_left.rest.now c.cut.result.0.now c.cut.result.1.now c.words_left.words.items c.push.new.self.items c.in-Some.word c.cut.ensures.front c.cut.ensures.rest
    (sym c.in-Some.is ∙ c.spaced_word.ensures) c.in_ok-push-in-Some.ensures.items some c.words_left.invariant

pub returns : goal.returns
returns c = read_all c.args.text.now c.words_left.rest.now c.words_left.words.items (search rules) c.words_left.invariant
