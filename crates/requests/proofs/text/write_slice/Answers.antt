use Rattle.std.proofs.Common.{[], ◌∷◌, length, decimal, codes, append_assoc}
use Rattle.std.specs.List.{flat_map}
use Rattle.requests.specs.Texts.{address_line, first_line, last_line}
use Rattle.requests.proofs.FilledLemmas.{filled_same}
use Rattle.requests.proofs.text.write_slice.Goals as goal

pub returns-clause-text : goal.returns-clause-text
returns-clause-text c =
    let before = c.args.into.now in
    let first = first_line (codes "slice") (c.args.at ∷ []) c.args.round c.args.lane in
    let lines = flat_map address_line c.args.addresses.now in
    let last = last_line (decimal (length c.args.addresses.now)) (codes " addresses ") c.args.warnings in
    filled_same before c.put_last_line.new.into c.put_last_line.result _ _ (append_assoc first lines last)
    (c.put_last_line.ensures.text before _ (c.put_addresses-listed.ensures.text before _ c.put_first_line-first.ensures.text))
