-- The lists of a state after a call and after a return. The project's own.
use Rattle.std.specs.Prelude.{ℕ, ◌==◌, not, true, false, List, filter, Option, Some, None, if◌then◌else◌}
use Rattle.image_map.specs.declared.region.RegionId.TheVariants.{Frame, OldFrame}
use Rattle.abs_semantics.specs.declared.parts.Link.{Link}
use Rattle.abs_semantics.specs.States.{AbsState, has_procedure}
use Rattle.abs_semantics.specs.Joins.{with_number, with_link, links_of}
use Rattle.abs_steps.specs.Calls.{with_only, links_as, without_young, new_link, moved_align}
use Rattle.call_states.specs.declared.moving.Taking.{Taking}
use Rattle.call_states.specs.declared.moving.Taking.TheVariants as taking
use Rattle.call_states.specs.declared.calls.Call.{Call}

-- the newest activation of a procedure is one of the older ones
abbrev pub with_aged_lists : ℕ → Option ℕ → AbsState → AbsState
with_aged_lists t align s =
    record s {
      older = with_number t s.older;
      links = links_of (links_as t false true s.links) (without_young t s.links);
      aligns = with_only (OldFrame t) align s.aligns;
    }

-- a procedure is entered by a call
abbrev pub with_entered_lists : Call → Option ℕ → AbsState → AbsState
with_entered_lists k align s =
    record s {
      live = with_number k.callee s.live;
      links = with_link (new_link k.callee k.caller k.offset) (without_young k.callee s.links);
      aligns = with_only (Frame k.callee) (moved_align k.offset align) s.aligns;
    }

-- the only activation of a procedure ends
abbrev pub with_ended_lists : ℕ → AbsState → AbsState
with_ended_lists q s =
    record s {
      live = filter (λ (t : ℕ). not (t == q)) s.live;
      links = filter (λ (l : Link). not (l.child == q)) s.links;
      aligns = with_only (Frame q) None s.aligns;
    }

-- one of the older activations of a procedure is the newest
abbrev pub with_revived_lists : ℕ → Option ℕ → AbsState → AbsState
with_revived_lists q align s =
    record s {
      links = links_of (links_as q true false s.links) (without_young q s.links);
      aligns = with_only (Frame q) align s.aligns;
    }

-- what older activations take over from the newest
abbrev pub taken_by_older : ℕ → List ℕ → Taking
taken_by_older t older = if has_procedure t older then taking.Joined else taking.Replaced

abbrev pub taken_by_blocks : Option ℕ → Option ℕ → Taking
taken_by_blocks None old = taking.Kept
taken_by_blocks (Some m) None = taking.Replaced
taken_by_blocks (Some m) (Some n) = taking.Joined
