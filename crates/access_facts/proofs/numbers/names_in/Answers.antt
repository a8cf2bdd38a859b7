use Rattle.std.proofs.Common.{◌∙◌, ap, sym, []}
use Rattle.std.proofs.lemmas.List.Folds.{flat_map-map}
use Rattle.std.proofs.lemmas.Simd.{map-map}
use Rattle.call_strings.specs.declared.context.Node.{Node}
use Rattle.abs_semantics.specs.Joins.{numbers_of}
use Rattle.abs_steps.specs.Successors.{Placed}
use Rattle.transfer_flow.specs.Successors.{placed_of}
use Rattle.access_facts.specs.Maps.{all_of}
use Rattle.access_facts.specs.Places.{keys, keys_in, procedures}
use Rattle.access_facts.proofs.numbers.names_in.Goals as goal

pub returns-clause-procedures : goal.returns-clause-procedures
unfolding procedures
returns-clause-procedures c =
    c.in_ok-procedures.ensures
    ∙ ap (λ t. numbers_of t [])
    (c.as_slice.ensures.value ∙ c.in_ok-told.ensures ∙ sym (map-map (λ (p : Placed). p.node.context.proc) placed_of c.args.placed.now)
    ∙ sym (map-map (λ (n : Node). n.context.proc) (λ (p : Placed). p.node) (all_of c.args.placed.now)))

pub returns-clause-keys : goal.returns-clause-keys
unfolding keys
returns-clause-keys c =
    c.in_ok-keys.ensures
    ∙ ap (λ t. numbers_of t [])
    (c.as_slice-2.ensures.value ∙ c.in_ok-found.ensures ∙ sym (flat_map-map (λ (p : Placed). keys_in p.state) placed_of c.args.placed.now)
    ∙ sym (flat_map-map keys_in (λ (p : Placed). p.state) (all_of c.args.placed.now)))
