use Rattle.std.proofs.Common.{sym, ◌∙◌, ap}
use Rattle.ia32_types.specs.Numbers.{size}
use Rattle.ia32_semantics.specs.State.{little_endian}
use Rattle.abs_semantics.specs.Ranges.{repeated}
use Rattle.abs_state.proofs.RangeLemmas.{one_byte, two_bytes, four_bytes, four_left}
use Rattle.abs_state.proofs.ranges.repeated_word.Goals as goal

pub returns-then-bytes-eq1 : goal.returns-then-bytes-eq1
returns-then-bytes-eq1 c =
    one_byte (size c.args.width) c.args.number c.args.distance c.byte_of-first.result c.byte_of-first.ensures.value
    ∙ ap (λ n. little_endian (repeated (size c.args.width) c.args.number c.args.distance n)) (sym c.if-bytes-eq1.true)

pub returns-then-bytes-eq2 : goal.returns-then-bytes-eq2
returns-then-bytes-eq2 c =
    two_bytes (size c.args.width) c.args.number c.args.distance c.byte_of-first.result c.byte_of-second.result c.byte_of-first.ensures.value c.byte_of-second.ensures.value
    ∙ ap (λ n. little_endian (repeated (size c.args.width) c.args.number c.args.distance n)) (sym c.if-bytes-eq2.true)

pub returns : goal.returns
returns c =
    four_bytes (size c.args.width) c.args.number c.args.distance c.byte_of-first.result c.byte_of-second.result c.byte_of-third.result c.byte_of-fourth.result
    c.byte_of-first.ensures.value c.byte_of-second.ensures.value c.byte_of-third.ensures.value c.byte_of-fourth.ensures.value
    ∙ ap (λ n. little_endian (repeated (size c.args.width) c.args.number c.args.distance n)) (sym (four_left c.args.bytes c.requires.few c.if-bytes-eq1.false c.if-bytes-eq2.false))
