use Rattle.std.proofs.Common.{◌≤◌, arith, sym, subst}
use Rattle.round_slots.specs.declared.view.Key.{Key}
use Rattle.round_slots.specs.Ends.{AreAdmitted}
use Rattle.round_slots.proofs.EndLemmas.{first_words, opens, first_possible, first_admitted, fresh_ready}
use Rattle.round_slots.proofs.store.Store.make.Goals as goal

pub of_words-requires : goal.of_words-requires
of_words-requires g c =
    let tag = c.args.tag.now in
    let few : c.len-lanes.result ≤ 4 = omega (arith, c.len-lanes.ensures, c.requires.few_lanes) in
    opens g.T.Numbered.possible _ _ (first_words c.len-lanes.result few)
    (λ l h. subst (λ t. g.T.Numbered.possible t l 0) (sym c.of.ensures)
    (first_possible g.T.Numbered.belongs g.T.Numbered.number g.T.Numbered.possible tag (λ lane x b. g.met.T.Numbered.belongs_to_possible tag lane x b) c.args.first.items l c.requires.first (omega (arith, h, c.len-lanes.ensures))))

pub put_firsts-requires : goal.put_firsts-requires
put_firsts-requires g c =
    let f = c.in_ok-rows.ensures in
    let key : Key g.row.T-Tag.Denot = record { tag = c.of.result; seats = c.args.seats; lanes = c.len-lanes.result } in
    subst (AreAdmitted g.T.Numbered.belongs c.args.first.items) (sym c.as_slice.ensures.value)
    (first_admitted g.T.Numbered.belongs g.T.Numbered.number key c.args.tag.now (sym c.of.ensures) c.args.first.items c.in_ok-rows.rows.items 0 c.requires.first f.1 (omega (arith, f.0, c.len-lanes.ensures)))

pub returns-clause-fresh : goal.returns-clause-fresh
returns-clause-fresh g c = fresh_ready (λ s. s.place) (λ s. s.pinned) g.T.Numbered.possible _ _ c.in_ok-seats.seats.items c.in_ok-seats.ensures.1
