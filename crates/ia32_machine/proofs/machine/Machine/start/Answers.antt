use Rattle.std.proofs.Common.{List, [], ◌∷◌, ◌++◌, refl, subst, ap, sym, ◌∙◌, arith}
use Rattle.std.specs.Prelude.{ℕ, reverse, slice_index}
use Rattle.image_map.specs.declared.region.Activation.{Activation}
use Rattle.ia32_semantics.specs.CallModel.{entry_activation}
use Rattle.ia32_semantics.proofs.RunLemmas.{starts_are_whole}
use Rattle.ia32_memory.specs.Mapped.{Mapped, bytes_of, is_in_first}
use Rattle.ia32_machine.specs.Opens.{KnowsOpen}
use Rattle.ia32_machine.proofs.StartLemmas.{is_start, is_start_state}
use Rattle.ia32_machine.proofs.machine.Machine.start.Goals as goal

pub returns-clause-start : goal.returns-clause-start
returns-clause-start c =
    is_start c.args.image.now c.args.settings.now _ c.in_ok-memory.memory c.requires c.in_ok-memory.ensures
    (ap (λ (m : Mapped). bytes_of m) c.start_core.ensures.memory) c.start_core.ensures.sized (omega arith) c.start_core.ensures.eip c.start_core.ensures.df refl (ap (λ (l : List ℕ). slice_index l 4) c.start_core.ensures.words.registers)
    (ap (λ (l : List Activation). reverse l) (c.in_ok-push.ensures.items ∙ ap (λ (l : List Activation). l ++ (entry_activation c.args.settings.now 0xBFF0000C ∷ [])) c.new-frames.ensures.items))
    c.new.ensures.items c.new-2.ensures.items

pub returns-clause-runs : goal.returns-clause-runs
returns-clause-runs c = record {
  laid_out = (starts_are_whole c.args.image.now c.args.settings.now _ (
      is_start c.args.image.now c.args.settings.now _ c.in_ok-memory.memory c.requires c.in_ok-memory.ensures
      (ap (λ (m : Mapped). bytes_of m) c.start_core.ensures.memory) c.start_core.ensures.sized (omega arith) c.start_core.ensures.eip c.start_core.ensures.df refl (ap (λ (l : List ℕ). slice_index l 4) c.start_core.ensures.words.registers)
      (ap (λ (l : List Activation). reverse l) (c.in_ok-push.ensures.items ∙ ap (λ (l : List Activation). l ++ (entry_activation c.args.settings.now 0xBFF0000C ∷ [])) c.new-frames.ensures.items))
      c.new.ensures.items c.new-2.ensures.items)).laid_out;
  knows = subst (KnowsOpen c.args.image.now) (sym c.start_core.ensures.memory) c.in_ok-memory.ensures.knows;
  stack = λ a. ap (λ (m : Mapped). is_in_first m a) c.start_core.ensures.memory ∙ c.in_ok-memory.ensures.stack a;
}

pub returns-clause-state : goal.returns-clause-state
returns-clause-state c =
    is_start_state c.args.image.now c.args.settings.now c.args.words.now c.start_core.result c.in_ok-memory.memory _ _ _
    c.start_core.ensures.words c.start_core.ensures.eip c.start_core.ensures.df c.start_core.ensures.memory c.in_ok-memory.ensures
    (ap (λ (l : List Activation). reverse l) (c.in_ok-push.ensures.items ∙ ap (λ (l : List Activation). l ++ (entry_activation c.args.settings.now 0xBFF0000C ∷ [])) c.new-frames.ensures.items))
    c.new.ensures.items c.new-2.ensures.items
