use Rattle.std.proofs.Common.{ℕ, ◌⊎◌, ◌↔◌, subst}
use Rattle.std.specs.Prelude.{Contains}
use Rattle.ia32_run.specs.Writers.{WritesNumbers}
use Rattle.ia32_run.proofs.KnownLemmas.{listed_sources}
use Rattle.ia32_run.proofs.writers.Writers.sources.Goals as goal

pub returns : goal.returns
returns c = λ run o is knows.
    let places = c.args.self.now.places in
    let f0 = c.new-found.result.items in let f1 = c.add_numbers.new.found.items in let f2 = c.add_numbers-2.new.found.items in
    listed_sources c.args.reads.now c.args.skip_sp c.left_out-skip.result c.args.self.now f0 f1 f2 c.add_spans.new.found.items c.listed.result.items _
    c.left_out-skip.ensures c.new-found.ensures.items c.as_slice.ensures.value
    (subst (λ k. (i : ℕ) → Contains f1 i ↔ (Contains f0 i ⊎ WritesNumbers places k c.left_out-skip.result 0 8 i)) c.numbers.ensures c.in_ok-add_numbers.ensures)
    (subst (λ k. (i : ℕ) → Contains f2 i ↔ (Contains f1 i ⊎ WritesNumbers places k 8 8 6 i)) c.numbers-2.ensures c.in_ok-add_numbers-2.ensures)
    c.in_ok-add_spans.ensures c.listed.ensures.rising c.listed.ensures.same run o is knows
