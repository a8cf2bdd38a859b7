use Rattle.std.proofs.Common.{◌∙◌, refl, ap, take, arith}
use Rattle.std.specs.Prelude.{map}
use Rattle.si_bits.specs.Concrete.{word}
use Rattle.abs_semantics.specs.Joins.{numbers_of}
use Rattle.abs_semantics.specs.Touching.{members}
use Rattle.transfer_flow.proofs.TargetLemmas.{words_start, words_step, words_end}
use Rattle.transfer_flow.proofs.target_lists.put_words.Goals as goal

pub members-init : goal.members-init
members-init c =
    let x = c.args.x.now in
    let out = c.args.words.now.items in
    (omega (arith, c.member_count-left.ensures), ap (λ n. numbers_of (map word (take n (members x))) out) c.member_count-left.ensures ∙ words_start x out)

pub members-preserved : goal.members-preserved
members-preserved c = (
  omega (arith, c.members-test.true, c.members.invariant.0),
  words_step c.args.x.now c.members.left _ c.member_word.result _ c.members.words.items _ _ (omega (arith, c.members-test.true)) (omega (arith, c.members-test.true, c.members.invariant.0)) refl c.member_word.ensures c.in_ok-put_number.ensures c.members.invariant.1,
)

pub returns : goal.returns
returns c = words_end c.args.x.now c.members.left c.members.words.items _ (omega (arith, c.members-test.false)) c.members.invariant.1
