use Rattle.std.proofs.Common.{◌≡◌, ◌≤◌, length, take}
use Rattle.slicer.proofs.ListLemmas.{Once}
use Rattle.slicer.proofs.list.list_once.Given as goal

abbrev pub invariant-loop-place : goal.invariant-loop-place
invariant-loop-place l = record {
  len : length l.list ≡ length l.initial.list;
  few : l.count ≤ l.place;
  once : Once l.sorted (take l.count l.list) l.place;
}
