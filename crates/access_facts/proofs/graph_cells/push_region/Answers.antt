use Rattle.std.proofs.Common.{◌∙◌, ◌++◌, sym, ap, subst, refl, length, arith}
use Rattle.access_facts.specs.Rows.{AreOf, AreSome, cells_in_rows}
use Rattle.access_facts.proofs.RowLemmas.{cells_more, numbered_more}
use Rattle.access_facts.proofs.graph_cells.push_region.Goals as goal

pub returns-clause-rows : goal.returns-clause-rows
returns-clause-rows c =
    numbered_more c.args.growing.now.rows.items c.push.new.self.items (record { region = c.args.region; first = c.args.growing.now.next; cells = c.from_vec.result }) c.args.growing.now.next c.in-Some.next c.requires.rows
    c.in_ok-push-in-Some.ensures.items refl (omega (arith, c.in-Some.ensures.0, c.len.ensures, ap length c.from_vec.ensures)) c.in-Some.ensures.1 (subst AreSome (sym c.from_vec.ensures) c.in_ok-found.ensures.some)
    (subst (AreOf c.args.region) (sym c.from_vec.ensures) c.in_ok-found.ensures.of)

pub returns-clause-cells : goal.returns-clause-cells
returns-clause-cells c =
    ap cells_in_rows c.in_ok-push-in-Some.ensures.items
    ∙ cells_more c.args.growing.now.rows.items (record { region = c.args.region; first = c.args.growing.now.next; cells = c.from_vec.result })
    ∙ ap (λ t. cells_in_rows c.args.growing.now.rows.items ++ t) (c.from_vec.ensures ∙ c.in_ok-found.ensures.value)
