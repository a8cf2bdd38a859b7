use Rattle.std.proofs.Common.{length, take}
use Rattle.std.proofs.lemmas.List.Sorted.{IsNonDecreasingBy-from_sort, Contains-permutation, IsPermutation-sym}
use Rattle.slicer.proofs.list.list_slice.Goals as goal

pub list_once-requires-clause-sorted : goal.list_once-requires-clause-sorted
list_once-requires-clause-sorted c = IsNonDecreasingBy-from_sort (λ x. x) c.sort_unstable.new.self c.sort_unstable.ensures.sorted

pub returns-clause-listed : goal.returns-clause-listed
returns-clause-listed c = λ a.
    let once = c.list_once.ensures.listed a in
    let addresses = c.list_addresses.ensures a in
    let sorts = c.sort_unstable.ensures.permutation in
    let front = take (length c.args.met.now) c.list_addresses.new.list in (
      λ has. addresses.0 (Contains-permutation c.sort_unstable.new.self front a (IsPermutation-sym front c.sort_unstable.new.self sorts) (once.0 has)),
      λ some. once.1 (Contains-permutation front c.sort_unstable.new.self a sorts (addresses.1 some)),
    )
