use Rattle.std.proofs.Common.{◌≡◌, ◌∙◌, Some, None, lit<, sym}
use Rattle.std.proofs.lemmas.Str.Pattern.{split_once_first}
use Rattle.command_words.specs.Values.{kind}
use Rattle.command_words.proofs.ExternLemmas.{no_colon, at_colon, named_empty, named_none, named_some}
use Rattle.command_words.proofs.values.extern_kind.Goals as goal

pub returns-in-None : goal.returns-in-None
returns-in-None c = no_colon c.args.text.now (split_once_first 58 c.args.text.now None c.in-None.ensures.cases (lit< tt))

pub returns-then-is_empty : goal.returns-then-is_empty
returns-then-is_empty c =
    let cut = split_once_first 58 c.args.text.now (Some (c.in-Some.name, c.in-Some.kind)) c.in-Some.ensures.cases (lit< tt) in
    at_colon c.args.text.now c.in-Some.name.now c.in-Some.kind.now cut.0 cut.1 cut.2 ∙ named_empty c.in-Some.name.now (kind c.in-Some.kind.now) (sym c.is_empty.ensures ∙ c.if-is_empty.true)

pub returns-in-None-kind_of : goal.returns-in-None-kind_of
returns-in-None-kind_of c =
    let cut = split_once_first 58 c.args.text.now (Some (c.in-Some.name, c.in-Some.kind)) c.in-Some.ensures.cases (lit< tt) in
    let none : kind c.in-Some.kind.now ≡ None = sym c.in-None-kind_of.ensures in
    at_colon c.args.text.now c.in-Some.name.now c.in-Some.kind.now cut.0 cut.1 cut.2 ∙ named_none c.in-Some.name.now (kind c.in-Some.kind.now) none

pub returns-in_ok-name-in-Some-kind_of : goal.returns-in_ok-name-in-Some-kind_of
returns-in_ok-name-in-Some-kind_of c =
    let cut = split_once_first 58 c.args.text.now (Some (c.in-Some.name, c.in-Some.kind)) c.in-Some.ensures.cases (lit< tt) in
    let found : kind c.in-Some.kind.now ≡ Some c.in-Some-kind_of.kind = sym c.in-Some-kind_of.ensures in
    at_colon c.args.text.now c.in-Some.name.now c.in-Some.kind.now cut.0 cut.1 cut.2 ∙ named_some c.in-Some.name.now c.in_ok-name-in-Some-kind_of.name (kind c.in-Some.kind.now) c.in-Some-kind_of.kind (sym c.is_empty.ensures ∙ c.if-is_empty.false) (sym c.in_ok-name-in-Some-kind_of.ensures) found
