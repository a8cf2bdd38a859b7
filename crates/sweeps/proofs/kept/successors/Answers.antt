use Rattle.std.proofs.Common.{◌∙◌, ap, subst, map, ◌≡◌}
use Rattle.std.specs.Prelude.{IfOk}
use Rattle.sweeps.specs.Kept.{table_of, unaimed}
use Rattle.sweeps.proofs.kept.successors.Goals as goal

pub returns : goal.returns
returns g c =
    let m = g.D.Domain.meaning c.args.domain.now in
    let r = c.args.row.now in
    let e = c.in_ok-pairs.ensures ∙ ap (m.successors r.place r.state) (ap table_of c.as_slice.ensures.value ∙ c.in_ok-others.ensures) in
    subst (λ pairs. IfOk c.list.result (λ list. list ≡ map unaimed pairs)) e c.list.ensures
