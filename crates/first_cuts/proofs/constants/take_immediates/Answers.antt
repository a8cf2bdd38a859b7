use Rattle.std.proofs.Common.{sym, ◌∙◌, ap}
use Rattle.std.proofs.lemmas.Bool.{and_left, and_right, and_from}
use Rattle.std.specs.Prelude.{option_to_list}
use Rattle.first_cuts.specs.Constants.{has_constant, is_dword}
use Rattle.first_cuts.specs.Taking.{taken_from}
use Rattle.first_cuts.proofs.ScanLemmas.{immediates_none, immediates_taken}
use Rattle.first_cuts.proofs.constants.take_immediates.Goals as goal

pub returns-then-not-has_constant : goal.returns-then-not-has_constant
returns-then-not-has_constant c =
    immediates_none c.args.image.now c.args.instr.now c.args.taken.now.items (and_left (has_constant c.args.instr.now.op) (is_dword c.args.instr.now.width) (sym c.has_constant.ensures ∙ c.if-not-has_constant.true))

pub returns-then-not-is_dword : goal.returns-then-not-is_dword
returns-then-not-is_dword c =
    immediates_none c.args.image.now c.args.instr.now c.args.taken.now.items (and_right (has_constant c.args.instr.now.op) (is_dword c.args.instr.now.width) (sym c.is_dword.ensures ∙ c.if-not-is_dword.true))

pub returns : goal.returns
returns c =
    let image = c.args.image.now in
    immediates_taken image c.args.instr.now c.args.taken.now.items c.take_if_some.new.taken.items c.take_if_some-2.new.taken.items c.take_if_some-3.new.taken.items
    (and_from (has_constant c.args.instr.now.op) (is_dword c.args.instr.now.width) (sym c.has_constant.ensures ∙ c.if-not-has_constant.false) (sym c.is_dword.ensures ∙ c.if-not-is_dword.false))
    (c.in_ok-take_if_some.ensures ∙ ap (λ o. taken_from image c.args.taken.now.items (option_to_list o)) c.immediate.ensures)
    (c.in_ok-take_if_some-2.ensures ∙ ap (λ o. taken_from image c.take_if_some.new.taken.items (option_to_list o)) c.immediate-2.ensures)
    c.in_ok-take_if_some-3.ensures
