use Rattle.std.proofs.Common.{◌<◌, ℕ, List, length, subst, sym}
use Rattle.std.specs.Prelude.{All}
use Rattle.matched_calls.proofs.kinds.are_kinds_of.Goals as goal

pub returns : goal.returns
returns c = (
  λ is.
      let all = c.all_three.ensures.0 is in
      record {
        calls = subst (λ (xs : List (ℕ × ℕ)). All (λ pair. (pair.0 < length c.args.nodes.now) × (pair.1 < length c.args.nodes.now)) xs) c.as_slice.ensures (c.are_below-calls.ensures.0 all.0);
        returns = subst (λ (xs : List (ℕ × ℕ)). All (λ pair. (pair.0 < length c.args.nodes.now) × (pair.1 < length c.args.nodes.now)) xs) c.as_slice-2.ensures (c.are_below-returns.ensures.0 all.1);
        after = subst (λ (xs : List (ℕ × ℕ)). All (λ pair. (pair.0 < length c.args.nodes.now) × (pair.1 < length c.args.nodes.now)) xs) c.as_slice-3.ensures (c.are_below-after.ensures.0 all.2);
      },
  λ has. c.all_three.ensures.1 (
    c.are_below-calls.ensures.1 (subst (λ (xs : List (ℕ × ℕ)). All (λ pair. (pair.0 < length c.args.nodes.now) × (pair.1 < length c.args.nodes.now)) xs) (sym c.as_slice.ensures) has.calls),
    c.are_below-returns.ensures.1 (subst (λ (xs : List (ℕ × ℕ)). All (λ pair. (pair.0 < length c.args.nodes.now) × (pair.1 < length c.args.nodes.now)) xs) (sym c.as_slice-2.ensures) has.returns),
    c.are_below-after.ensures.1 (subst (λ (xs : List (ℕ × ℕ)). All (λ pair. (pair.0 < length c.args.nodes.now) × (pair.1 < length c.args.nodes.now)) xs) (sym c.as_slice-3.ensures) has.after),
  ),
)
