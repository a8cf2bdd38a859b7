-- Arguments that are read one after the other.
use Rattle.std.proofs.Common.{◌≡◌, ℕ, ◌+◌, ◌-◌, ◌<◌, ◌≤◌, suc, false, List, [], ◌∷◌, ◌++◌, sym, ◌∙◌, ap, append_assoc, append-nil, arith}
use Rattle.abs_semantics.specs.States.{AbsState as State}
use Rattle.abs_steps.specs.declared.accesses.Access.{Access}
use Rattle.abs_steps.specs.Accesses.{word_at, argument_at, arguments_read, words_read}

module _ (a : State) (n k : ℕ) where
  pub words_start : (out : List Access) → out ≡ word_at false (a.registers 4) ∷ [] → out ++ arguments_read a (n - 0) (0 + 1) ≡ words_read a n
  words_start out is =
      let e : n - 0 ≡ n = omega arith in
      ap (λ t. t ++ arguments_read a (n - 0) (0 + 1)) is ∙ ap (λ m. word_at false (a.registers 4) ∷ arguments_read a m 1) e

  pub words_step : (out word next whole : List Access) → k < n → word ≡ word_at false (argument_at a (k + 1)) ∷ [] → next ≡ out ++ word
      → out ++ arguments_read a (n - k) (k + 1) ≡ whole → next ++ arguments_read a (n - (k + 1)) (k + 1 + 1) ≡ whole
  words_step out word next whole lt here is h =
      let e : n - k ≡ suc (n - (k + 1)) = omega arith in
      let rest = arguments_read a (n - (k + 1)) (k + 1 + 1) in
      ap (λ t. t ++ rest) (is ∙ ap (λ t. out ++ t) here)
      ∙ append_assoc out (word_at false (argument_at a (k + 1)) ∷ []) rest
      ∙ ap (λ m. out ++ arguments_read a m (k + 1)) (sym e)
      ∙ h

  pub words_end : (out whole : List Access) → n ≤ k → out ++ arguments_read a (n - k) (k + 1) ≡ whole → out ≡ whole
  words_end out whole le h =
      let e : n - k ≡ 0 = omega arith in
      sym (append-nil out) ∙ ap (λ m. out ++ arguments_read a m (k + 1)) (sym e) ∙ h
