use Rattle.std.proofs.Common.{◌≡◌, ◌≤◌, ◌+◌, ◌-◌, false, []}
use Rattle.abs_semantics.specs.Resolve.{levels, most_links, rising_onto, told_of_few}
use Rattle.abs_resolve.specs.Owned.{state_of}
use Rattle.abs_resolve.specs.Search.{all_noted, finished, is_crowd}
use Rattle.abs_resolve.proofs.search.search.Given as goal

abbrev pub invariant-loop-findings : goal.invariant-loop-findings
invariant-loop-findings l = record {
  within : l.followed ≤ l.most + 1;
  few : is_crowd l.findings.seen ≡ false;
  told : finished (all_noted (state_of l.owners) l.access.procedure l.access.len l.findings (levels (state_of l.owners) l.access.procedure l.access.len (l.most + 1 - l.followed) l.followed l.level.items))
      ≡ told_of_few (state_of l.owners) l.access.procedure l.access.len (levels (state_of l.owners) l.access.procedure l.access.len (most_links (state_of l.owners) + 1) 0 (rising_onto [] l.parts));
}

abbrev pub decreases-loop-findings : goal.decreases-loop-findings
decreases-loop-findings l = l.most + 2 - l.followed
