use Rattle.std.proofs.Common.{◌≡◌, ◌⊎◌, inl, inr, sym, ◌∙◌, ap, [], List}
use Rattle.std.specs.List.{flat_map}
use Rattle.vset.specs.declared.part.Part.{Part}
use Rattle.abs_semantics.specs.declared.parts.Reason.{Reason}
use Rattle.abs_semantics.specs.Resolve as meaning
use Rattle.abs_semantics.specs.Resolve.{links_of_region, next_by, through}
use Rattle.abs_resolve.specs.declared.verdicts.Verdict.{Verdict}
use Rattle.abs_resolve.specs.declared.verdicts.Verdict.TheVariants.{Refuses, Stays}
use Rattle.abs_resolve.specs.Forms.{verdict_of}
use Rattle.abs_resolve.specs.Owned.{state_of}
use Rattle.abs_resolve.proofs.StepLemmas.{not_followed}
use Rattle.abs_resolve.proofs.levels.put_next.Goals as goal

stops : (v : Verdict) (w : meaning.Verdict) (xs : List Part) → verdict_of v ≡ w → ((r : Reason) × (v ≡ Refuses r)) ⊎ (v ≡ Stays) → next_by w xs ≡ []
stops v w xs same (inl is) = ap (λ u. next_by u xs) (sym same ∙ ap verdict_of is.1)
stops v w xs same (inr is) = ap (λ u. next_by u xs) (sym same ∙ ap verdict_of is)

pub returns-in-Refuses : goal.returns-in-Refuses
returns-in-Refuses c =
    let a = state_of c.args.owners.now in
    let p = c.args.access.now.procedure in
    let x = c.args.x.now in
    not_followed a p c.args.access.now.len c.args.followed x c.args.parts.now.items
    (stops c.verdict_at.result (meaning.verdict a p c.args.access.now.len c.args.followed x) (flat_map (through a p x) (links_of_region a x.region)) c.verdict_at.ensures c.in-Refuses.is)
