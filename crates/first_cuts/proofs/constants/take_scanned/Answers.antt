use Rattle.std.proofs.Common.{◌∙◌, sym, ◌+◌, arith, refl}
use Rattle.first_cuts.specs.Constants.{scanned}
use Rattle.first_cuts.specs.Taking.{taken_from}
use Rattle.first_cuts.proofs.ScanLemmas.{scan_full, scan_byte, scan_instruction, scan_end}
use Rattle.first_cuts.proofs.constants.take_scanned.Goals as goal

pub returns-then-is_full : goal.returns-then-is_full
returns-then-is_full c =
    scan_full c.args.image.now c.args.start c.args.count c.loop-passed.passed c.loop-passed.taken.items c.as_slice.result.now (taken_from c.args.image.now c.args.taken.now.items (scanned c.args.image.now 0 c.args.count c.args.start))
    (sym c.is_full.ensures ∙ c.if-is_full.true) c.as_slice.ensures.value c.loop-passed.invariant.1

pub loop-passed-preserved-in-None : goal.loop-passed-preserved-in-None
loop-passed-preserved-in-None c = (
  omega (arith, c.loop-passed-test.true),
  scan_byte c.args.image.now c.args.start c.args.count c.loop-passed.passed (c.loop-passed.passed + 1) c.loop-passed.taken.items (taken_from c.args.image.now c.args.taken.now.items (scanned c.args.image.now 0 c.args.count c.args.start))
      c.loop-passed-test.true (sym c.in-None.is ∙ c.fetched.ensures.value) refl c.loop-passed.invariant.1,
)

pub loop-passed-preserved : goal.loop-passed-preserved
loop-passed-preserved c = (
  omega (arith, c.loop-passed-test.true, c.length_of-passed.ensures.few),
  scan_instruction c.args.image.now c.args.start c.args.count c.loop-passed.passed (c.loop-passed.passed + c.length_of-passed.result) c.length_of-passed.result c.in-Some.instr c.loop-passed.taken.items c.take_constants_in.new.taken.items
      (taken_from c.args.image.now c.args.taken.now.items (scanned c.args.image.now 0 c.args.count c.args.start))
      c.loop-passed-test.true (sym c.in-Some.is ∙ c.fetched.ensures.value) c.length_of-passed.ensures.value refl c.in_ok-take_constants_in-in-Some.ensures c.loop-passed.invariant.1,
)

pub returns : goal.returns
returns c =
    scan_end c.args.image.now c.args.start c.args.count c.loop-passed.passed c.loop-passed.taken.items (taken_from c.args.image.now c.args.taken.now.items (scanned c.args.image.now 0 c.args.count c.args.start))
    c.loop-passed-test.false c.loop-passed.invariant.1
