use Rattle.std.proofs.Common.{◌≡◌, List, ℕ, length, ap, subst, arith, Vec, Global}
use Rattle.std.specs.Prelude.{Option, MatchOption}
use Rattle.replay.specs.Lines.{AreWords}
use Rattle.replay.proofs.LineLemmas.{one_words}
use Rattle.replay.proofs.lines.twelve_words.Goals as goal

pub returns-then-len-ne12 : goal.returns-then-len-ne12
returns-then-len-ne12 c = λ words are twelve.
    let text = c.args.text.now in
    let own : AreWords text c.in-Some.words.items
    = subst (λ (o : Option (Vec ℕ Global)). MatchOption o ((ws : List ℕ) → ¬ AreWords text ws) (λ ws. AreWords text ws.items)) c.in-Some.is c.in_ok-words_of.ensures in
    let same = one_words text words c.in-Some.words.items are own in
    let long : length words ≡ length c.in-Some.words.items = ap (λ (l : List ℕ). length l) same in
    let len = c.len.ensures in
    let off = c.if-len-ne12.true in
    absurd (omega arith)
