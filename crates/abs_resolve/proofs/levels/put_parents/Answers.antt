use Rattle.std.proofs.Common.{◌∙◌, sym, not, ◌&&◌}
use Rattle.std.specs.Prelude.{◌==◌, if◌then◌else◌}
use Rattle.std.specs.List.{flat_map}
use Rattle.abs_semantics.specs.declared.parts.Link.{Link}
use Rattle.abs_semantics.specs.Resolve.{rising_onto, links_from, through}
use Rattle.abs_resolve.specs.Owned.{state_of}
use Rattle.abs_resolve.proofs.StepLemmas.{link_taken, links_all}
use Rattle.abs_resolve.proofs.levels.put_parents.Goals as goal

pub loop-link-preserved : goal.loop-link-preserved
loop-link-preserved c =
    let a = state_of c.args.owners.now in
    let f = through a c.args.procedure c.args.x.now in
    let whole = rising_onto c.args.parts.now.items (flat_map f (links_from a c.args.of.now.procedure c.args.of.now.aged)) in
    link_taken f (λ (k : Link). k.child == c.args.of.now.procedure && (if c.args.of.now.aged then k.aged else not k.aged)) c.links-link-items.result.now c.loop-link.link-index c.link-item.result c.loop-link.parts.items c.put_through.new.parts.items whole
    c.loop-link-test.true c.link-item.is (sym c.is_link_of.ensures ∙ c.if-not-is_link_of.false) c.in_ok-put_through.ensures c.loop-link.invariant

pub returns : goal.returns
returns c =
    let a = state_of c.args.owners.now in
    let f = through a c.args.procedure c.args.x.now in
    let whole = rising_onto c.args.parts.now.items (flat_map f (links_from a c.args.of.now.procedure c.args.of.now.aged)) in
    links_all f (λ (k : Link). k.child == c.args.of.now.procedure && (if c.args.of.now.aged then k.aged else not k.aged)) c.links-link-items.result.now c.loop-link.link-index c.loop-link.parts.items whole c.loop-link-test.false c.loop-link.invariant
