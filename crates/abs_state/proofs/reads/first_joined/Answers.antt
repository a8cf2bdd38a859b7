use Rattle.std.proofs.Common.{◌≡◌, [], ◌∙◌, ap, subst}
use Rattle.std.specs.Prelude.{IfOk}
use Rattle.vset.specs.Values.{Values, settled}
use Rattle.vset.specs.Operations.{join}
use Rattle.abs_state.proofs.ReadLemmas.{top_to_none, joined_to_none, lone_part, none_settled}
use Rattle.abs_state.proofs.reads.first_joined.Goals as goal

pub returns-in-None : goal.returns-in-None
returns-in-None c = top_to_none c.args.value c.in-None.ensures.value

pub returns-in-Some-len1 : goal.returns-in-Some-len1
returns-in-Some-len1 c =
    c.one.ensures
    ∙ joined_to_none c.args.value c.only-item.result (lone_part c.args.value c.in-Some-len1.field-0.now c.only-item.result c.in-Some-len1.ensures.value c.in-Some-len1.len_at_least c.in-Some-len1.len_below c.only-item.is)

pub returns : goal.returns
returns c =
    subst (λ (w : Values). IfOk c.join-in-Some.result (λ v. v ≡ join w c.args.value)) (c.from_parts.ensures ∙ ap settled c.new.ensures.items ∙ none_settled) c.join-in-Some.ensures.value
