use Rattle.std.proofs.Common.{sym, subst}
use Rattle.requests.specs.declared.request.Request.{Request}
use Rattle.service.specs.Answers.{AnswersTo}
use Rattle.service.specs.Seats.{IsNoOlder}
use Rattle.service.proofs.session.Session.answer.Goals as goal

pub returns-in-Slice-clause-answers : goal.returns-in-Slice-clause-answers
returns-in-Slice-clause-answers g c =
    let came = c.slice.ensures.answers in
    subst (λ (q : Request). AnswersTo c.args.shop.now c.args.self.now c.slice.new.self q c.slice.result) (sym c.in-Slice.is)
    (record {
      same_lane = c.slice.ensures.same.1;
      pinned = came.0;
      is_pinned = came.1;
      no_older = subst (IsNoOlder c.args.shop.now c.args.self.now.lane c.args.self.now.seat.place) came.3 c.slice.ensures.no_older;
      text_is = came.2;
      round_is = came.3;
    })
