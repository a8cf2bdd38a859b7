use Rattle.std.proofs.Common.{◌≡◌, ◌∙◌, ℕ, List, length, take, sym, subst, ap}
use Rattle.std.specs.Prelude.{Contains}
use Rattle.std.proofs.lemmas.List.{with_items_is}
use Rattle.chops.specs.Chops.{AreAddresses}
use Rattle.chops.proofs.ChopLemmas.{are_listed}
use Rattle.chops.proofs.listing.Listing.list.Goals as goal

pub returns-clause-listed : goal.returns-clause-listed
returns-clause-listed c =
    let list : length c.list_slice-self-inside.new.list ≡ c.self.inside.list.len = c.list_slice-self-inside.auto.list ∙ ap (λ (xs : List ℕ). length xs) c.deref_mut-2.ensures.value ∙ sym c.self.inside.list.ok.0 in
    subst (λ (xs : List ℕ). AreAddresses c.args.nodes.now (Contains c.args.met.now) (take c.list_slice-self-inside.result xs)) (sym (with_items_is c.self.inside.list c.list_slice-self-inside.new.list list))
    (are_listed c.args.nodes.now c.args.met.now (take c.list_slice-self-inside.result c.list_slice-self-inside.new.list) c.list_slice-self-inside.ensures.rising c.list_slice-self-inside.ensures.listed)
