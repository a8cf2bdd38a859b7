use Rattle.std.proofs.Common.{◌≡◌, ℕ, length, take}
use Rattle.std.specs.Prelude.{◌↔◌, Contains}
use Rattle.slicer.proofs.ListLemmas.{IsAddress}
use Rattle.slicer.proofs.list.list_addresses.Given as goal

abbrev pub invariant-loop-place : goal.invariant-loop-place
invariant-loop-place l = record {
  len : length l.list ≡ length l.initial.list;
  listed : (a : ℕ) → Contains (take l.place l.list) a ↔ IsAddress l.nodes l.met l.place a;
}
