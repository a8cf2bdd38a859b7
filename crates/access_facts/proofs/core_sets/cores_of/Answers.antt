use Rattle.std.proofs.Common.{sym, subst}
use Rattle.abs_state.specs.Views.{seen}
use Rattle.transfer_flow.specs.Contents.{meant}
use Rattle.transfer_flow.specs.declared.contents.Content.{Content}
use Rattle.access_facts.specs.CoreSets.{AreCores}
use Rattle.access_facts.proofs.CoreLemmas.{cores_nothing}
use Rattle.access_facts.proofs.core_sets.cores_of.Goals as goal

pub returns-in-Extern : goal.returns-in-Extern
returns-in-Extern c =
    let a = seen c.args.state.now in
    subst (λ (k : Content). AreCores a (meant k) c.extern_cores.result) (sym c.in-Extern.is) (c.extern_cores.ensures a)

pub returns-in-Nothing : goal.returns-in-Nothing
returns-in-Nothing c =
    let a = seen c.args.state.now in
    subst (λ (k : Content). AreCores a (meant k) c.no_cores.result) (sym c.in-Nothing.is) (cores_nothing a c.no_cores.result c.no_cores.ensures)
