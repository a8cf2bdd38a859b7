-- What replies tell.
use Rattle.std.proofs.Common.{◌≡◌, ℕ, List, ap, ◌∙◌}
use Rattle.std.specs.Prelude.{Result, Ok, Err, IfOk}
use Rattle.requests.specs.Texts.{listed}
use Rattle.rounds.specs.declared.round.Round.{Round}
use Rattle.round_texts.specs.Warnings.{warning_count}
use Rattle.round_answers.specs.Replies.{Lists}

pub ok_told : {A E : Type 0} {P Q : A → Type 0} (result : Result A E) → ((x : A) → P x → Q x) → IfOk result P → IfOk result Q
ok_told (Ok x) like h = like x h
ok_told (Err e) like h = h

-- the text lists these addresses, which the code holds by another name
pub list_told : {A E : Type 0} (items : A → List ℕ) (r : Round) (word asked held addresses : List ℕ) (Are : List ℕ → Type 0) (result : Result A E) → held ≡ addresses → Are addresses
    → IfOk result (λ text. items text ≡ listed word asked r.number r.lane held (warning_count r)) → IfOk result (λ text. Lists r word asked Are (items text))
list_told items r word asked held addresses Are result same are told =
    ok_told result
    (λ text is. record { addresses = addresses; are = are; text_is = is ∙ ap (λ (xs : List ℕ). listed word asked r.number r.lane xs (warning_count r)) same })
    told
