use Rattle.std.proofs.Common.{◌≡◌, length, ◌∙◌, rules}
use Rattle.service.specs.Requests.{IsAskable}
use Rattle.service.proofs.RunLemmas.{lane_after, all_tail, all_head, passes_line, answers_line, answers_end}
use Rattle.service.proofs.session.Session.run.Goals as goal

pub lines-preserved-in_ok-extend_from_slice : goal.lines-preserved-in_ok-extend_from_slice
lines-preserved-in_ok-extend_from_slice g c =
    let shop = c.args.shop.now in
    let i = c.lines.invariant in
    let line = c.in-Some.line.now in
    let e = c.in-Some.ensures.cases.0 in
    let askable = all_head (λ l. IsAskable shop l.1) c.lines.rest.now c.in-Some.after.now line e i.3 in (
      c.answer.ensures.ready,
      lane_after shop c.lines.self c.answer.new.self line.1 c.in_ok-answer.field-0 i.1 askable c.in_ok-answer.ensures.answers,
      c.answer.ensures.number ∙ i.2,
      all_tail (λ l. IsAskable shop l.1) c.lines.rest.now c.in-Some.after.now line e i.3,
      answers_line shop c.args.self.now.number c.args.script.now.lines c.lines.rest.now c.in-Some.after.now line c.args.self.now c.lines.self c.lines.text.items e
          c.lines.self.number c.answer.new.self c.in_ok-answer.field-0 c.text.result.now c.extend_from_slice.new.self.items i.2 c.if-line-self.true c.in_ok-answer.ensures.answers c.text.ensures c.in_ok-extend_from_slice.ensures.items i.4,
    )

pub lines-preserved : goal.lines-preserved
lines-preserved g c =
    let shop = c.args.shop.now in
    let i = c.lines.invariant in
    let line = c.in-Some.line.now in
    let e = c.in-Some.ensures.cases.0 in (
      i.0,
      i.1,
      i.2,
      all_tail (λ l. IsAskable shop l.1) c.lines.rest.now c.in-Some.after.now line e i.3,
      passes_line shop c.args.self.now.number c.args.script.now.lines c.lines.rest.now c.in-Some.after.now line c.args.self.now c.lines.self c.lines.text.items e c.lines.self.number i.2 c.if-line-self.false i.4,
    )

pub returns-clause-answers : goal.returns-clause-answers
returns-clause-answers g c =
    let none : length c.lines.rest.now ≡ 0 = search rules in
    answers_end c.args.shop.now c.args.self.now.number c.args.script.now.lines c.lines.rest.now c.args.self.now c.lines.self c.lines.text.items none c.lines.invariant.4
