use Rattle.std.proofs.Common.{◌≡◌, sym, ◌∙◌, ap, length}
use Rattle.sweeps.specs.Kept.{zip_with}
use Rattle.vsa.specs.Topped.{topped_value}
use Rattle.vsa.proofs.ToppedLemmas.{pairs_length, registers_topped}
use Rattle.vsa.proofs.topped.registers.Goals as goal

pub new-requires : goal.new-requires
new-requires c =
    let xs = c.values.result.now in
    let ys = c.values-2.result.now in
    ap length c.in_ok-values.ensures ∙ pairs_length topped_value xs ys (c.values.ensures.eight ∙ sym c.values-2.ensures.eight) ∙ c.values.ensures.eight

pub returns : goal.returns
returns c =
    let xs = c.values.result.now in
    let ys = c.values-2.result.now in
    let as_many : length c.args.old.now ≡ length c.args.new.now = sym (ap length c.values.ensures.value) ∙ c.values.ensures.eight ∙ sym c.values-2.ensures.eight ∙ ap length c.values-2.ensures.value in
    registers_topped c.new.result c.args.old.now c.args.new.now
    (c.new.ensures ∙ c.in_ok-values.ensures ∙ (λ i. zip_with topped_value (c.values.ensures.value i) (c.values-2.ensures.value i))) as_many
