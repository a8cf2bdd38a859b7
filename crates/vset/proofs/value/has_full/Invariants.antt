use Rattle.std.proofs.Common.{◌≡◌, take, drop}
use Rattle.std.specs.List.{list_any}
use Rattle.vset.specs.declared.part.Part.{Part}
use Rattle.vset.specs.Values.{is_full, AreCanonical}
use Rattle.vset.proofs.value.has_full.Given as goal

abbrev pub invariant-loop-p : goal.invariant-loop-p
invariant-loop-p l = record {
  none : list_any (λ (p : Part). is_full p.si) (drop l.p-index l.parts) ≡ list_any (λ (p : Part). is_full p.si) l.parts;
  canonical : AreCanonical (take l.p-index l.parts);
}
