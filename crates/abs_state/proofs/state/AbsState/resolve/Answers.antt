use Rattle.std.proofs.Common.{◌≡◌, ◌∙◌, ap, subst}
use Rattle.std.specs.Prelude.{IfOk}
use Rattle.abs_semantics.specs.Resolve.{Resolved, resolve}
use Rattle.abs_resolve.specs.Forms.{AreTold}
use Rattle.abs_resolve.specs.Owned.{owned, state_of}
use Rattle.abs_resolve.proofs.OwnerLaws.{same_owners}
use Rattle.abs_state.specs.Views.{seen}
use Rattle.abs_state.proofs.state.AbsState.resolve.Goals as goal

pub returns : goal.returns
returns c =
    let s = c.args.self.now in
    let p = c.args.procedure in
    let v = c.args.address.now in
    let len = c.args.len in
    let same = c.new-owners.ensures ∙ (λ i. owned (c.as_slice.ensures i) (c.as_slice-2.ensures i) (c.as_slice-3.ensures i) (c.as_slice-4.ensures i) s.root) in
    let told : resolve (state_of c.new-owners.result) p v len ≡ resolve (seen s) p v len = ap (λ a. resolve a p v len) same ∙ same_owners (seen s) p v len in
    subst (λ (r : Resolved). IfOk c.resolve.result (λ places. AreTold places r)) told c.resolve.ensures
