use Rattle.std.proofs.Common.{◌||◌, not, length, sym, ◌∙◌, ap, arith}
use Rattle.std.specs.List.{position_or_len}
use Rattle.vsa.specs.Warned.{same_warning, warning_before}
use Rattle.vsa.proofs.NoteLemmas.{warning_within, warning_there, warning_new}
use Rattle.vsa.proofs.warning.note.Goals as goal
use Rattle.vsa.proofs.warning.note.Goals.{else-place-len-via-then-place-len+else-is_same, else-place-len-via-else-place-len}

pub returns-then-is_same : goal.returns-then-is_same
returns-then-is_same c =
    let w = c.args.w in
    let is = c.place_of-place.ensures ∙ ap (position_or_len (λ x. same_warning x w || not (warning_before x w))) c.as_slice.ensures.value in
    warning_there w c.index.result.now c.place_of-place.result c.args.ws.now.items is (omega (arith, c.if-place-len.true, c.len.ensures))
    (ap (λ x. same_warning x w) (sym c.index.ensures) ∙ sym c.is_same.ensures ∙ c.if-is_same.true)

pub insert-requires : goal.insert-requires
insert-requires c =
    let w = c.args.w in
    let is = c.place_of-place.ensures ∙ ap (position_or_len (λ x. same_warning x w || not (warning_before x w))) c.as_slice.ensures.value in
    let few = warning_within w w c.place_of-place.result c.args.ws.now.items is in
    omega (arith, few, c.as_slice.ensures.len, ap length c.as_slice.ensures.value)

pub returns : goal.returns
returns c =
    let w = c.args.w in
    let i = c.place_of-place.result in
    let ws = c.args.ws.now.items in
    let is = c.place_of-place.ensures ∙ ap (position_or_len (λ x. same_warning x w || not (warning_before x w))) c.as_slice.ensures.value in
    c.in_ok-insert.ensures.items ∙
    elim c.else-place-len.branch [
      | else-place-len-via-then-place-len+else-is_same v ↦
          warning_new w v.index.result.now i ws is (λ lt. ap (λ x. same_warning x w) (sym v.index.ensures) ∙ sym v.is_same.ensures ∙ v.if-is_same.false)
      | else-place-len-via-else-place-len v ↦ warning_new w w i ws is (λ lt. absurd (omega (arith, lt, v.if-place-len.false, c.len.ensures)))
    ]
