use Rattle.std.proofs.Common.{◌≡◌, ◌∷◌, ◌<◌, List, ℕ, length, sym, subst, rules, Vec, Global}
use Rattle.std.specs.Prelude.{Option, MatchOption}
use Rattle.std.proofs.lemmas.Result.{IfOk-weaker}
use Rattle.surf_base.specs.Sink.{lines_of}
use Rattle.surf_base.proofs.TextLines.{line_split}
use Rattle.replay.specs.Lines.{IsStartLine}
use Rattle.replay.specs.Replayed.{FailsAt}
use Rattle.replay.proofs.FileLemmas.{fails_empty, fails_start, same_line}
use Rattle.replay.proofs.file.replay.Goals as goal

pub returns-then-is_empty-clause-line : goal.returns-then-is_empty-clause-line
returns-then-is_empty-clause-line c = λ number is.
    subst (λ n. FailsAt c.args.image.now c.args.settings.now (lines_of c.args.bytes.now) n) (same_line 1 number is) (fails_empty c.args.image.now c.args.settings.now c.args.bytes.now (search rules))

pub returns-in-None-clause-line : goal.returns-in-None-clause-line
returns-in-None-clause-line c = λ number is.
    let some : 0 < length c.args.bytes.now = search rules in
    let split : lines_of c.args.bytes.now ≡ c.split_at.result.0.now ∷ lines_of c.split_at.result.1.now = line_split _ _ _ _ some c.first_line_len.ensures c.split_at.ensures.front c.split_at.ensures.back in
    subst (λ n. FailsAt c.args.image.now c.args.settings.now (lines_of c.args.bytes.now) n) (same_line 1 number is)
    (fails_start c.args.image.now c.args.settings.now c.args.bytes.now c.split_at.result.0.now (lines_of c.split_at.result.1.now) split
    (subst (λ (o : Option (Vec ℕ Global)). MatchOption o ((ws : List ℕ) → ¬ IsStartLine c.split_at.result.0.now ws) (λ ws. IsStartLine c.split_at.result.0.now ws.items)) c.in-None.is c.in_ok-read_start.ensures))

pub returns-in-Some-clause-log : goal.returns-in-Some-clause-log
returns-in-Some-clause-log c =
    let some : 0 < length c.args.bytes.now = search rules in
    let split : lines_of c.args.bytes.now ≡ c.split_at.result.0.now ∷ lines_of c.split_at.result.1.now = line_split _ _ _ _ some c.first_line_len.ensures c.split_at.ensures.front c.split_at.ensures.back in
    let form : IsStartLine c.split_at.result.0.now c.in-Some.words.items
    = subst (λ (o : Option (Vec ℕ Global)). MatchOption o ((ws : List ℕ) → ¬ IsStartLine c.split_at.result.0.now ws) (λ ws. IsStartLine c.split_at.result.0.now ws.items)) c.in-Some.is c.in_ok-read_start.ensures in
    IfOk-weaker c.replay_lines.result _ _ (λ log f. f c.split_at.result.0.now c.args.bytes.now (subst (λ ws. IsStartLine c.split_at.result.0.now ws) (sym c.deref.ensures.value) form) split) c.replay_lines.ensures.log

pub returns-in-Some-clause-line : goal.returns-in-Some-clause-line
returns-in-Some-clause-line c = λ number is.
    let some : 0 < length c.args.bytes.now = search rules in
    let split : lines_of c.args.bytes.now ≡ c.split_at.result.0.now ∷ lines_of c.split_at.result.1.now = line_split _ _ _ _ some c.first_line_len.ensures c.split_at.ensures.front c.split_at.ensures.back in
    let form : IsStartLine c.split_at.result.0.now c.in-Some.words.items
    = subst (λ (o : Option (Vec ℕ Global)). MatchOption o ((ws : List ℕ) → ¬ IsStartLine c.split_at.result.0.now ws) (λ ws. IsStartLine c.split_at.result.0.now ws.items)) c.in-Some.is c.in_ok-read_start.ensures in
    c.replay_lines.ensures.line number is c.split_at.result.0.now c.args.bytes.now (subst (λ ws. IsStartLine c.split_at.result.0.now ws) (sym c.deref.ensures.value) form) split
