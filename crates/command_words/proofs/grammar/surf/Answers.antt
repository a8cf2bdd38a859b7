use Rattle.std.proofs.Common.{◌≡◌, ◌∙◌, ap₂, rules, codes}
use Rattle.std.proofs.lemmas.Result.{IfOk-weaker}
use Rattle.clap.specs.Walk.{rule_of, texts}
use Rattle.clap.specs.Simple.{app_of, new_rule, with_rule}
use Rattle.command_words.specs.Grammar.{surf, plain, option, flag, with_rules, positional_names, option_names}
use Rattle.command_words.proofs.grammar.surf.Goals as goal

pub returns : goal.returns
unfolding surf
returns c =
    let positionals_are : texts c.as_slice.result.now ≡ positional_names = search rules in
    let options_are : texts c.as_slice-2.result.now ≡ option_names = search rules in
    let with_positionals : app_of c.in_ok-positional.positional ≡ with_rules new_rule plain positional_names = c.in_ok-positional.ensures ∙ ap₂ (with_rules new_rule) c.plain.ensures positionals_are in
    let with_options = c.in_ok-options.ensures ∙ ap₂ (with_rules option) with_positionals options_are in
    let skip_sp : rule_of c.action-skip_sp.result ≡ flag (codes "skip-sp") = search rules in
    IfOk-weaker c.arg.result _ _ (λ command added. added.shape (search rules) ∙ ap₂ with_rule with_options skip_sp) c.arg.ensures
