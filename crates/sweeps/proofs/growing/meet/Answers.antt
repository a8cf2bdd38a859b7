use Rattle.std.proofs.Common.{◌∙◌, ap, sym, set, ◌≡◌, true, false}
use Rattle.std.specs.List.{insert}
use Rattle.sweeps.specs.Kept.{rank_by}
use Rattle.sweeps.proofs.StepLemmas.{read_same}
use Rattle.sweeps.proofs.CodeLemmas.{joins_there, enters_there, stands, stands_within}
use Rattle.sweeps.proofs.growing.meet.Goals as goal

pub returns-then-is_at : goal.returns-then-is_at
returns-then-is_at g c =
    let m = g.D.Domain.meaning c.args.domain.now in
    let rows = c.args.rows.now.items in
    let p = c.args.place.now in
    let s = c.args.state.now in
    let x = c.index_mut.result.now in
    let n = c.rank_new-at.result in
    let at : n ≡ rank_by (λ r. m.before r.place p) rows = c.rank_new-at.ensures.rank ∙ ap (rank_by (λ r. m.before r.place p)) c.as_slice.ensures.value in
    let stand : stands m p rows n ≡ true = ap (λ l. stands m p l n) (sym c.as_slice-2.ensures.value) ∙ sym c.is_at.ensures ∙ c.if-is_at.true in
    let same = read_same rows n c.index.result.now x (stands_within m p rows n stand) c.index.ensures c.index_mut.ensures.value in
    ap (λ t. set rows n (record x { state = t })) (c.in_ok-joined.ensures ∙ ap (λ r. m.join r.state s) same) ∙ joins_there m rows p s n x at stand c.index_mut.ensures.value

pub returns : goal.returns
returns g c =
    let m = g.D.Domain.meaning c.args.domain.now in
    let rows = c.args.rows.now.items in
    let p = c.args.place.now in
    let s = c.args.state.now in
    let n = c.rank_new-at.result in
    let at : n ≡ rank_by (λ r. m.before r.place p) rows = c.rank_new-at.ensures.rank ∙ ap (rank_by (λ r. m.before r.place p)) c.as_slice.ensures.value in
    let stand : stands m p rows n ≡ false = ap (λ l. stands m p l n) (sym c.as_slice-2.ensures.value) ∙ sym c.is_at.ensures ∙ c.if-is_at.false in
    c.in_ok-insert.ensures.items ∙ ap (λ q. insert rows n (record { place = q; state = c.in_ok-copy_state.field-0; changes = 1 })) c.in_ok-copy_place.ensures
    ∙ ap (λ t. insert rows n (record { place = p; state = t; changes = 1 })) c.in_ok-copy_state.ensures ∙ enters_there m rows p s n at stand
