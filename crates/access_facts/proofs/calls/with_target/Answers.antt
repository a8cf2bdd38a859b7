use Rattle.std.proofs.Common.{◌∙◌, sym, ap}
use Rattle.abs_semantics.specs.Joins.{with_number}
use Rattle.abs_semantics.specs.States.{has_procedure}
use Rattle.access_facts.proofs.SetLemmas.{kept_if, put_if_there}
use Rattle.access_facts.proofs.calls.with_target.Goals as goal

pub returns-then-not-has_number : goal.returns-then-not-has_number
returns-then-not-has_number c =
    kept_if (has_procedure c.args.target c.args.state.now.live) c.in_ok-older.older.items c.args.state.now.older (with_number c.args.target c.args.state.now.older)
    (ap (has_procedure c.args.target) (sym c.as_slice-2.ensures) ∙ sym c.has_number.ensures ∙ c.if-not-has_number.true) (c.in_ok-older.ensures ∙ c.as_slice.ensures)

pub returns : goal.returns
returns c =
    put_if_there (has_procedure c.args.target c.args.state.now.live) c.put_number.new.xs.items c.args.state.now.older (with_number c.args.target c.args.state.now.older)
    (ap (has_procedure c.args.target) (sym c.as_slice-2.ensures) ∙ sym c.has_number.ensures ∙ c.if-not-has_number.false) (c.in_ok-put_number.ensures ∙ ap (with_number c.args.target) (c.in_ok-older.ensures ∙ c.as_slice.ensures))
