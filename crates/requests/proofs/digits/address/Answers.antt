use Rattle.std.proofs.Common.{◌≡◌, ℕ, ◌<◌, ◌≤◌, ◌∷◌, length, sym, ◌∙◌, subst, rules, arith}
use Rattle.requests.proofs.DigitLemmas.{Reads, reads_first, digit_fits, reads_next, reads_stop, reads_all, address_of, no_digits, many_digits}
use Rattle.requests.proofs.digits.address.Goals as goal

pub returns-then-is_empty : goal.returns-then-is_empty
returns-then-is_empty c =
    let none : length c.args.digits.now ≡ 0 = search rules in
    no_digits c.args.digits.now none

pub returns-then-digits-gt8 : goal.returns-then-digits-gt8
returns-then-digits-gt8 c = many_digits c.args.digits.now c.if-digits-gt8.true

pub digits-init : goal.digits-init
digits-init c = reads_first c.args.digits.now (omega arith)

pub returns-in-None : goal.returns-in-None
returns-in-None c =
    let some : 0 < length c.args.digits.now = search rules in
    let short : length c.args.digits.now ≤ 8 = omega arith in
    let split : c.digits.rest.now ≡ c.in-Some.digit.now ∷ c.in-Some.after.now = search rules in
    let reads = subst (λ rest. Reads c.args.digits.now rest c.digits.value) split c.digits.invariant in
    reads_stop c.args.digits.now c.in-Some.digit.now c.in-Some.after.now c.digits.value c.from.result reads c.from.ensures c.in-None.ensures.value
    ∙ address_of c.args.digits.now some short

pub overflow_mul-value : goal.overflow_mul-value
overflow_mul-value c =
    let split : c.digits.rest.now ≡ c.in-Some.digit.now ∷ c.in-Some.after.now = search rules in
    let reads = subst (λ rest. Reads c.args.digits.now rest c.digits.value) split c.digits.invariant in
    let fits = digit_fits c.args.digits.now c.in-Some.digit.now c.in-Some.after.now c.digits.value 0 reads (omega arith) in
    omega arith

pub overflow_add-value : goal.overflow_add-value
overflow_add-value c =
    let split : c.digits.rest.now ≡ c.in-Some.digit.now ∷ c.in-Some.after.now = search rules in
    let reads = subst (λ rest. Reads c.args.digits.now rest c.digits.value) split c.digits.invariant in
    let small : c.in-Some-to_digit.digit < 16 = subst (λ n. n < 16) (sym c.in-Some-to_digit.ensures.value.1) c.in-Some-to_digit.ensures.value.0 in
    let fits = digit_fits c.args.digits.now c.in-Some.digit.now c.in-Some.after.now c.digits.value c.in-Some-to_digit.digit reads small in
    omega arith

pub digits-preserved : goal.digits-preserved
digits-preserved c =
    let split : c.digits.rest.now ≡ c.in-Some.digit.now ∷ c.in-Some.after.now = search rules in
    let reads = subst (λ rest. Reads c.args.digits.now rest c.digits.value) split c.digits.invariant in
    let small : c.in-Some-to_digit.digit < 16 = subst (λ n. n < 16) (sym c.in-Some-to_digit.ensures.value.1) c.in-Some-to_digit.ensures.value.0 in
    reads_next c.args.digits.now c.in-Some.digit.now c.in-Some.after.now c.digits.value c.in-Some-to_digit.digit c.from.result reads small c.in-Some-to_digit.ensures.value.1 c.from.ensures

pub returns : goal.returns
returns c =
    let some : 0 < length c.args.digits.now = search rules in
    let short : length c.args.digits.now ≤ 8 = omega arith in
    let none : length c.digits.rest.now ≡ 0 = search rules in
    reads_all c.args.digits.now c.digits.rest.now c.digits.value none c.digits.invariant ∙ address_of c.args.digits.now some short
