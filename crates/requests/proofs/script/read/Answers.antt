use Rattle.std.proofs.Common.{◌≡◌, ◌+◌, ◌<◌, ◌≤◌, ◌∷◌, Ok, Err, None, Some, length, sym, ap, ◌∙◌, subst, inr, rules, arith}
use Rattle.surf_base.specs.Sink.{lines_of}
use Rattle.surf_base.proofs.TextLines.{line_split}
use Rattle.requests.specs.Lines.{line_request, content}
use Rattle.requests.proofs.ReadLemmas.{Resumes, bad_line, no_request, too_many, one_more, whole_script}
use Rattle.requests.proofs.script.read.Goals as goal

pub returns-in-Err : goal.returns-in-Err
returns-in-Err c =
    let some : 0 < length c.lines.rest.now = search rules in
    let split : lines_of c.lines.rest.now ≡ c.split_at.result.0.now ∷ lines_of c.split_at.result.1.now =
    line_split _ _ _ _ some c.first_line_len.ensures c.split_at.ensures.front c.split_at.ensures.back in
    inr (bad_line c.args.sessions c.args.programs c.args.bytes.now c.lines.rest.now c.split_at.result.0.now c.split_at.result.1.now c.lines.lines c.lines.number c.in-Err.cause split c.lines.invariant
    (c.in-Err.ensures ∙ ap (λ line. line_request c.args.sessions c.args.programs line) c.content.ensures))

pub returns-then-len-eq-MOST_REQUESTS : goal.returns-then-len-eq-MOST_REQUESTS
returns-then-len-eq-MOST_REQUESTS c =
    let some : 0 < length c.lines.rest.now = search rules in
    let split : lines_of c.lines.rest.now ≡ c.split_at.result.0.now ∷ lines_of c.split_at.result.1.now =
    line_split _ _ _ _ some c.first_line_len.ensures c.split_at.ensures.front c.split_at.ensures.back in
    inr (too_many c.args.sessions c.args.programs c.args.bytes.now c.lines.rest.now c.split_at.result.0.now c.split_at.result.1.now c.lines.lines c.lines.number c.in-Ok-Some.asked split
    (sym c.len.ensures ∙ c.if-len-eq-MOST_REQUESTS.true) c.lines.invariant
    (cc (c.in-Ok-Some.ensures, c.in-Ok-Some.field-0-is, c.content.ensures)))

pub lines-preserved-in-Ok-None : goal.lines-preserved-in-Ok-None
lines-preserved-in-Ok-None c =
    let some : 0 < length c.lines.rest.now = search rules in
    let split : lines_of c.lines.rest.now ≡ c.split_at.result.0.now ∷ lines_of c.split_at.result.1.now =
    line_split _ _ _ _ some c.first_line_len.ensures c.split_at.ensures.front c.split_at.ensures.back in
    let before = c.lines.invariant.room in
    no_request c.args.sessions c.args.programs c.args.bytes.now c.lines.rest.now c.split_at.result.0.now c.split_at.result.1.now c.lines.lines c.lines.number split
    (omega (arith, c.first_line_len.ensures, c.split_at.ensures.back_len)) c.lines.invariant
    (cc (c.in-Ok-None.ensures, c.in-Ok-None.field-0-is, c.content.ensures))

pub lines-preserved : goal.lines-preserved
lines-preserved c =
    let some : 0 < length c.lines.rest.now = search rules in
    let split : lines_of c.lines.rest.now ≡ c.split_at.result.0.now ∷ lines_of c.split_at.result.1.now =
    line_split _ _ _ _ some c.first_line_len.ensures c.split_at.ensures.front c.split_at.ensures.back in
    let before = c.lines.invariant.room in
    let more = one_more c.args.sessions c.args.programs c.args.bytes.now c.lines.rest.now c.split_at.result.0.now c.split_at.result.1.now c.lines.lines c.lines.number c.in-Ok-Some.asked split
    (omega (arith, c.first_line_len.ensures, c.split_at.ensures.back_len)) (λ full. c.if-len-eq-MOST_REQUESTS.false (c.len.ensures ∙ full)) c.lines.invariant
    (cc (c.in-Ok-Some.ensures, c.in-Ok-Some.field-0-is, c.content.ensures)) in
    subst (λ done. Resumes c.args.sessions c.args.programs c.args.bytes.now c.split_at.result.1.now done (c.lines.number + 1)) (sym c.in_ok-push-in-Ok-Some.ensures.ok) more

pub returns : goal.returns
returns c =
    let none : length c.lines.rest.now ≡ 0 = search rules in
    whole_script c.args.sessions c.args.programs c.args.bytes.now c.lines.rest.now c.lines.lines c.lines.number none c.lines.invariant
