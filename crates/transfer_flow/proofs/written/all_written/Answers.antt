use Rattle.std.proofs.Common.{◌≡◌, ◌++◌, ◌∷◌, [], ◌∙◌, ap}
use Rattle.std.specs.Prelude.{map}
use Rattle.std.proofs.lemmas.List.{map-append}
use Rattle.transfer.specs.Views.{view_by}
use Rattle.transfer_flow.specs.Written.{met_by, met}
use Rattle.call_states.proofs.LoopLemmas.{map_step, map_end}
use Rattle.transfer_flow.proofs.written.all_written.Goals as goal

pub loop-access-preserved : goal.loop-access-preserved
loop-access-preserved c =
    let put : map met_by c.push.new.self.items ≡ map met_by c.loop-access.out.items ++ met (view_by c.args.view.now) c.access-item.result ∷ [] =
    ap (map met_by) c.in_ok-push.ensures.items ∙ map-append met_by c.loop-access.out.items _ ∙ ap (λ (p : _). map met_by c.loop-access.out.items ++ record { places = p; len = c.access-item.result.len } ∷ []) c.in_ok-places.ensures in
    map_step (met (view_by c.args.view.now)) c.args.accesses.now c.loop-access.access-index c.access-item.result (map met_by c.loop-access.out.items) _ _ c.loop-access-test.true c.access-item.is put c.loop-access.invariant

pub returns : goal.returns
returns c = map_end (met (view_by c.args.view.now)) c.args.accesses.now c.loop-access.access-index (map met_by c.loop-access.out.items) _ c.loop-access-test.false c.loop-access.invariant
