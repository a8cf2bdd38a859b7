-- A question on a round is answered in one way at most.
use Rattle.std.proofs.Common.{◌≡◌, inl, inr, ℕ, List, [], ◌∷◌, Option, Some, true, sym, ◌∙◌, ap, subst}
use Rattle.image_map.specs.declared.image.Image.{Image}
use Rattle.flow_graph.specs.declared.graph.FlowNode.{FlowNode}
use Rattle.vsa.specs.declared.warning.Warning.{Warning}
use Rattle.rounds.specs.declared.round.Round.{Round}
use Rattle.rounds.proofs.RoundLemmas.{one_flow, one_warnings}
use Rattle.round_answers.specs.declared.question.Question.{Question}
use Rattle.round_answers.specs.Asked.{IsChosen, IsBehindLast}
use Rattle.round_answers.specs.Questions.{addresses_of, ArePresent, IsFirstAbsent}
use Rattle.round_answers.specs.Replies.{has_some, is_warned}
use Rattle.surf_prog.specs.declared.words.Plan.{Plan}
use Rattle.surf_prog.specs.declared.words.Task.TheVariants as task
use Rattle.round_answers.proofs.AskedLemmas.{one_asked, none_behind}
use Rattle.round_answers.proofs.ReplyLemmas.{one_reply}
use Rattle.surf_prog.specs.Once.{planned, IsPlanned, IsRoundReply, HasAnswer, BehindAt, AbsentAt}

-- -- Which round is asked for

chosen_number : (o : Option ℕ) (n : ℕ) (r : Round) → o ≡ Some n → IsChosen o r → r.number ≡ n
chosen_number o n r is chosen = subst (λ (o : Option ℕ). IsChosen o r) is chosen

in_time : (image : Image) (place : ℕ) (plan : Plan) (question : Question) (r : Round) (n : ℕ) → IsPlanned image place plan r → ¬ BehindAt image place (task.Ask plan question) n
in_time image place plan question r n is behind =
    let number = chosen_number plan.choice.round n r behind.0 is.chosen in
    none_behind image (planned image place plan) r is.round
    (subst (λ (m : ℕ). IsBehindLast image (planned image place plan) r.lane m) (sym number) (subst (λ (l : ℕ). IsBehindLast image (planned image place plan) l n) (sym is.lane) behind.1))

pub round_in_time : (image : Image) (place : ℕ) (plan : Plan) (question : Question) (n : ℕ) → HasAnswer image place plan question → ¬ BehindAt image place (task.Ask plan question) n
round_in_time image place plan question n has behind = in_time image place plan question has.round n has.is_planned behind

pub absent_in_time : (image : Image) (place : ℕ) (plan : Plan) (question : Question) (n at : ℕ) → AbsentAt image place (task.Ask plan question) at → ¬ BehindAt image place (task.Ask plan question) n
absent_in_time image place plan question n at absent behind = in_time image place plan question absent.0 n absent.1 behind

-- -- What it has at addresses

present_or_absent : (g : List FlowNode) (asked : List ℕ) (at : ℕ) → ArePresent g asked → ¬ IsFirstAbsent g asked at
present_or_absent g [] at there absent = absent
present_or_absent g (a ∷ others) at there (inl none) = none.1 there.0
present_or_absent g (a ∷ others) at there (inr later) = present_or_absent g others at there.1 later.1

one_first : (g : List FlowNode) (asked : List ℕ) (one other : ℕ) → IsFirstAbsent g asked one → IsFirstAbsent g asked other → one ≡ other
one_first g [] one other p q = absurd p
one_first g (a ∷ others) one other (inl p) (inl q) = p.0 ∙ sym q.0
one_first g (a ∷ others) one other (inl p) (inr q) = absurd (p.1 q.0)
one_first g (a ∷ others) one other (inr p) (inl q) = absurd (q.1 p.0)
one_first g (a ∷ others) one other (inr p) (inr q) = one_first g others one other p.1 q.1

-- rounds that are asked for have one graph
same_nodes : (image : Image) (place : ℕ) (plan : Plan) (r q : Round) → IsPlanned image place plan r → IsPlanned image place plan q → r.graph.flow.nodes ≡ q.graph.flow.nodes
same_nodes image place plan r q p s =
    let same = one_asked image (planned image place plan) plan.choice r q p s in
    one_flow image (planned image place plan) r q p.round s.round same.0 same.1

pub round_present : (image : Image) (place : ℕ) (plan : Plan) (question : Question) (at : ℕ) → HasAnswer image place plan question → ¬ AbsentAt image place (task.Ask plan question) at
round_present image place plan question at has absent =
    let nodes = same_nodes image place plan has.round absent.0 has.is_planned absent.1 in
    present_or_absent absent.0.graph.flow.nodes (addresses_of question) at (subst (λ (g : List FlowNode). ArePresent g (addresses_of question)) nodes has.present) absent.2

pub one_absence : (image : Image) (place : ℕ) (plan : Plan) (question : Question) (one other : ℕ) → AbsentAt image place (task.Ask plan question) one → AbsentAt image place (task.Ask plan question) other → one ≡ other
one_absence image place plan question one other p q =
    let nodes = same_nodes image place plan p.0 q.0 p.1 q.1 in
    one_first q.0.graph.flow.nodes (addresses_of question) one other (subst (λ (g : List FlowNode). IsFirstAbsent g (addresses_of question) one) nodes p.2) q.2

-- -- Its reply and its warnings

pub round_replies : (image : Image) (place : ℕ) (plan : Plan) (question : Question) (text : List ℕ) → IsRoundReply image place plan question text → HasAnswer image place plan question
round_replies image place plan question text reply = record { round = reply.round; is_planned = reply.is_planned; present = reply.told.present }

pub one_round_reply : (image : Image) (place : ℕ) (plan : Plan) (question : Question) (one other : List ℕ) → IsRoundReply image place plan question one → IsRoundReply image place plan question other → one ≡ other
one_round_reply image place plan question one other p q =
    let settings = planned image place plan in
    let same = one_asked image settings plan.choice p.round q.round p.is_planned q.is_planned in
    one_reply image settings p.round q.round question one other p.is_planned.round q.is_planned.round same.0 same.1 p.told q.told

-- the round that is asked for has warnings where any has that is
pub one_round_warns : (image : Image) (place : ℕ) (plan : Plan) (r q : Round) → IsPlanned image place plan r → IsPlanned image place plan q → is_warned q ≡ true → is_warned r ≡ true
one_round_warns image place plan r q p s warns =
    let same = one_asked image (planned image place plan) plan.choice r q p s in
    ap (λ (ws : List Warning). has_some ws) (one_warnings image (planned image place plan) r q p.round s.round same.0 same.1) ∙ warns
