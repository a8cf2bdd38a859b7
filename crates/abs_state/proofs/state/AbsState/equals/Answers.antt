use Rattle.std.proofs.Common.{sym, ◌∙◌, ap, ◌≡◌, Bool, true, false}
use Rattle.std.proofs.lemmas.Bool.{true≢false}
use Rattle.abs_semantics.specs.States.{AbsState as State}
use Rattle.abs_state.specs.Same.{same_but_values}
use Rattle.abs_state.specs.Views.{seen}
use Rattle.abs_state.proofs.EqualLemmas.{seen_equal, equal_seen}
use Rattle.abs_state.proofs.state.AbsState.equals.Goals as goal

pub returns-then-not-are_same_but_values : goal.returns-then-not-are_same_but_values
returns-then-not-are_same_but_values c =
    let other : same_but_values c.args.self.now c.args.other.now ≡ false = sym c.are_same_but_values.ensures ∙ c.if-not-are_same_but_values.true in (
      (λ h. absurd (true≢false (sym h))),
      (λ e. absurd (true≢false (sym (equal_seen c.args.self.now c.args.other.now e) ∙ other))),
    )

pub returns-then-not-equals : goal.returns-then-not-equals
returns-then-not-equals c = (
  (λ h. absurd (true≢false (sym h))),
  (λ e. absurd (true≢false (sym (c.equals.ensures.values.1 (ap (λ (s : State). s.registers) e)) ∙ c.if-not-equals.true))),
)

pub returns : goal.returns
returns c =
    let same : same_but_values c.args.self.now c.args.other.now ≡ true = sym c.are_same_but_values.ensures ∙ c.if-not-are_same_but_values.false in (
      (λ h. seen_equal c.args.self.now c.args.other.now same (c.equals.ensures.values.0 c.if-not-equals.false) (c.equals-2.ensures.0 h)),
      (λ e. c.equals-2.ensures.1 (ap (λ (s : State). s.cells) e)),
    )
