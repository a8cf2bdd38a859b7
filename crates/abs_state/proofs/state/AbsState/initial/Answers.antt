use Rattle.std.proofs.Common.{◌≡◌, ◌==◌, cond, true, List, None, sym, ◌∙◌, ap, subst}
use Rattle.std.specs.Prelude.{pos, ◌≤ℤ◌, Contains}
use Rattle.image_map.specs.declared.region.Cell.{Cell}
use Rattle.image_map.specs.declared.region.RegionId.TheVariants.{Global}
use Rattle.image_map.specs.Regions.{same_region}
use Rattle.vset.specs.Values.{Top}
use Rattle.abs_semantics.specs.Start.{first_value, first_cells, initial_state}
use Rattle.abs_state.specs.Puts.{folded}
use Rattle.abs_state.specs.Writes.{news_of, put_value}
use Rattle.abs_state.proofs.StartLemmas.{first_flags, first_registers, first_listed, first_same}
use Rattle.abs_state.proofs.state.AbsState.initial.Goals as goal

pub first_entries-requires : goal.first_entries-requires
first_entries-requires c =
    subst (λ (l : List Cell). (d : Cell) → Contains l d → same_region d.region Global ≡ true → pos 0 ≤ℤ d.start) (sym c.as_slice.ensures.value) c.in_ok-found.ensures.low

pub returns : goal.returns
unfolding initial_state
returns c =
    let f = first_value c.args.image.now c.args.entry in
    let found = c.in_ok-found.found.items in
    let items = c.as_slice-2.ensures.value ∙ c.in_ok-entries.ensures ∙ ap (λ (l : List Cell). news_of (λ (d : Cell). true) f l) c.as_slice.ensures.value in
    let cells = c.in_ok-put_all.ensures ∙ (λ i. folded put_value (items i) (c.new-first.ensures i)) ∙ first_listed f found ∙ first_same f found (first_cells c.args.cells.now c.args.entry) c.in_ok-found.ensures.same in
    let registers = c.set.ensures.values ∙ first_registers c.in_ok-registers.registers c.stack_start.result c.in_ok-registers.ensures ∙ (λ i n. cond (n == 4) (c.stack_start.ensures i) Top) in
    λ i. record {
      registers = registers i;
      flags = first_flags c.all.result c.arithmetic.result c.all.ensures.members c.arithmetic.ensures.members i;
      cells = cells i;
      live = c.in_ok-live.ensures i;
      older = c.new.ensures i;
      links = c.new-2.ensures i;
      aligns = c.in_ok-aligns.ensures i;
      blocks = c.new-3.ensures i;
      fact = None;
      root = c.args.entry;
    }
