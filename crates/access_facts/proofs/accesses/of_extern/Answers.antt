use Rattle.std.proofs.Common.{◌∙◌, ◌++◌, [], ◌∷◌, ap, cond, refl}
use Rattle.abs_steps.specs.Places.{Extern}
use Rattle.transfer.specs.Views.{view_by}
use Rattle.access_facts.specs.declared.reach.Reach.TheVariants.{Anywhere}
use Rattle.access_facts.specs.Reach.{reaches}
use Rattle.access_facts.specs.Sets.{reads_anything}
use Rattle.access_facts.proofs.NodeLemmas.{extern_accesses_are}
use Rattle.access_facts.proofs.accesses.of_extern.Goals as goal

pub returns : goal.returns
returns c = λ image goes_on.
    let v = view_by c.args.view.now in
    let k = c.args.kind.now in
    extern_accesses_are image v k goes_on _
    (c.in_ok-reads.ensures ∙ ap (λ b. cond b (Anywhere ∷ []) [] ++ c.in_ok-read.read.items) c.reads_anything.ensures
    ∙ ap (λ t. cond (reads_anything (Extern k)) (Anywhere ∷ []) [] ++ t) (c.in_ok-read.ensures ∙ ap (reaches v) (c.as_slice.ensures.value ∙ c.in_ok-words.ensures)))
    (c.in_ok-writes.ensures ∙ ap (reaches v) (c.as_slice-2.ensures.value ∙ c.in_ok-filled.ensures)) refl c.in_ok-older.ensures
