-- Steps from states that a map knows, as rows of the map.
use Rattle.std.proofs.Common.{◌≡◌, ◌⊎◌, inl, inr, ℕ, Bool, true, false, not, List, [], ◌∷◌, length, None, refl, sym, ◌∙◌, ap, subst}
use Rattle.std.proofs.lemmas.Bool.{false≢true, true≢false}
use Rattle.std.proofs.lemmas.Option.{none-some, get_or_from_slice_get, slice_get_within}
use Rattle.image_map.specs.declared.image.Image.{Image}
use Rattle.image_map.specs.declared.region.Activation.{Activation}
use Rattle.image_map.specs.declared.region.Kind.{Kind}
use Rattle.image_map.specs.declared.region.Kind.TheVariants as kind
use Rattle.image_map.specs.declared.region.Settings.{Settings}
use Rattle.image_map.specs.CallModel.{AreSettings, IsKind}
use Rattle.image_map.specs.Whole.{IsImage}
use Rattle.ia32_types.specs.declared.Instr.{Instr}
use Rattle.ia32_types.specs.declared.Op.{Op}
use Rattle.ia32_types.specs.declared.Op.TheVariants as op
use Rattle.ia32_types.proofs.InstructionLemmas.{spelled_instruction}
use Rattle.ia32_semantics.specs.CallModel.{IsWhole}
use Rattle.ia32_semantics.specs.Fetch.{IsFetched}
use Rattle.ia32_semantics.specs.Ia32.{machine}
use Rattle.ia32_semantics.specs.Machine.{Occurrence}
use Rattle.ia32_semantics.specs.Externs as externs
use Rattle.ia32_semantics.specs.Reading.{outcome}
use Rattle.ia32_semantics.specs.Rows as rows
use Rattle.ia32_semantics.specs.Step.{act_row, Act, Executes, Answers, Step, IsActAt, IsExternAt, completes, act_completes, operation_completes, kind_completes, returns_to_halt}
use Rattle.abs_semantics.specs.States.{AbsState}
use Rattle.abs_semantics.proofs.BelowLemmas.{below_stands}
use Rattle.abs_semantics.proofs.FirstLemmas.{starts_have_states}
use Rattle.ia32_semantics.proofs.RunLemmas.{starts_are_whole}
use Rattle.abs_semantics.specs.Ownership.{IsKnown}
use Rattle.abs_steps.specs.declared.warnings.WarnName.{WarnName}
use Rattle.abs_steps.specs.Places.{Content, Extern, Instruction, content_at}
use Rattle.abs_steps.specs.Rows.{view_of}
use Rattle.abs_steps.specs.Successors.{States, at_node, successors}
use Rattle.abs_steps.specs.Warnings.{warnings}
use Rattle.call_strings.specs.declared.context.Node.{Node}
use Rattle.call_strings.specs.Nodes.{pushed}
use Rattle.slice_soundness.specs.Nodes.{running, IsRooted}
use Rattle.slice_soundness.specs.Maps.{here}
use Rattle.slice_soundness.specs.Premises.{IsReady, GoesOn, Stays, Calls, Returns, Row}
use Rattle.step_soundness.specs.Steps.{is_plain, IsExecuted}
use Rattle.call_soundness.specs.Maps.{IsListed, is_empty, warned_by, Drawn, map_of}
use Rattle.call_soundness.specs.Externs.{returns_from, IsAnswered}
use Rattle.call_soundness.specs.Laws.{is_staying, AbstractStepsAreMet}
use Rattle.call_soundness.proofs.ContentLaws.{fetched_stands, extern_stands}
use Rattle.call_soundness.proofs.EnterLaws.{Enters, call_enters}
use Rattle.call_soundness.proofs.BackLaws.{Leaves}
use Rattle.call_soundness.proofs.AnswerRows.{answer_leaves}
use Rattle.call_soundness.proofs.LeaveLaws.{return_leaves}
use Rattle.call_soundness.proofs.StayLaws.{Moves, plain_moves, jump_moves, branch_moves}

none_left : (ws : List WarnName) → is_empty ws ≡ true → ws ≡ []
none_left [] e = refl
none_left (w ∷ ws) e = absurd (false≢true e)

staying_cases : (o : Op) → is_staying o ≡ true → (is_plain o ≡ true) ⊎ ((o ≡ op.Jmp) ⊎ ((c : ℕ) × (o ≡ op.Jcc c)))
staying_cases op.Jmp e = inr (inl refl)
staying_cases (op.Jcc c) e = inr (inr (c, refl))
staying_cases _ e = inl e

module _ (image : Image) (settings : Settings) (states : States) (drawn : Drawn) (is : IsImage image) (o : Occurrence Act)
    (ready : IsReady (machine image settings) (map_of image settings states drawn) o.before) where
  abbrev n : Node
  n = here (map_of image settings states drawn) o.before

  abbrev a : AbsState
  a = ready.value

  known_by : (xs : List Activation) → o.before.activations ≡ xs → IsRooted settings.entry xs → IsKnown image states.lane a n.context.proc o.before
  known_by [] e rooted = absurd rooted
  known_by (newest ∷ others) e rooted =
      record { image_is = is; whole = ready.whole; stands = ready.stands; newest = newest; others = others; activations = e; runs = sym (ap running e) }

  pub known : IsKnown image states.lane a n.context.proc o.before
  known = known_by o.before.activations refl ready.rooted

  pub no_warning : (content : Content) → content_at image settings n.at ≡ content → warnings content image (view_of a states.cells n.context.proc) ≡ []
  no_warning content e =
      none_left (warnings content image (view_of a states.cells n.context.proc))
      (quiet_is (is_empty (warnings content image (view_of a states.cells n.context.proc)))
      (sym (ap (λ c. not (is_empty (warnings c image (view_of a states.cells n.context.proc)))) e)
      ∙ sym (ap (warned_by image settings states n) ready.has_value) ∙ ready.quiet))
    where
      quiet_is : (b : Bool) → not b ≡ false → b ≡ true
      quiet_is true f = refl
      quiet_is false f = absurd (true≢false f)

  module _ (i : Instr) (act : o.act ≡ Executes i) (at : IsActAt image settings o.before.eip o.act) (st : Step image o) where
    fetched : IsFetched image o.before.eip i
    fetched = subst (λ c. IsActAt image settings o.before.eip c) act at

    pub content : content_at image settings n.at ≡ Instruction i
    content = fetched_stands image settings o.before.eip i is fetched

    pub executed : IsExecuted image states.lane a n.context.proc states.cells i o
    executed =
        record {
          known = known;
          canonical = ready.canonical.canonical;
          spelt = (spelled_instruction _ o.before.eip i fetched.spelled).is;
          act = act;
          step = st;
          quiet = no_warning (Instruction i) content;
        }

    pub moves : is_staying i.op ≡ true → Moves image settings states n a o
    moves staying = by (staying_cases i.op staying)
      where
        by : (is_plain i.op ≡ true) ⊎ ((i.op ≡ op.Jmp) ⊎ ((c : ℕ) × (i.op ≡ op.Jcc c))) → Moves image settings states n a o
        by (inl plain) = plain_moves image settings states n a i o executed content plain
        by (inr (inl jump)) = jump_moves image settings states n a i o executed content jump
        by (inr (inr branch)) = branch_moves image settings states n a i o executed content branch.0 branch.1 ready.canonical.fact

    pub enters : i.op ≡ op.Call → Enters image settings states n a o
    enters calls = call_enters image settings states n a i o executed content calls (spelled_instruction _ o.before.eip i fetched.spelled).here fetched

    pub leaves : i.op ≡ op.Ret → completes o ≡ false → Leaves image settings states n a o
    leaves returns not_last =
        return_leaves image settings states n a i o executed content returns
        (sym (ap (λ c. act_completes c o) act ∙ ap (λ c. operation_completes c o) returns) ∙ not_last)

  module _ (at : ℕ) (k : Kind) (act : o.act ≡ Answers at k) (is_at : IsActAt image settings o.before.eip o.act) (st : Step image o) where
    extern_here : (at ≡ o.before.eip) × IsExternAt image settings o.before.eip k
    extern_here = subst (λ c. IsActAt image settings o.before.eip c) act is_at

    extern_content : content_at image settings n.at ≡ Extern k
    extern_content = extern_stands image settings o.before.eip k extern_here.1

    pub answered_here : IsAnswered image states.lane a n.context.proc states.cells at k o
    answered_here = record { known = known; canonical = ready.canonical.canonical; act = act; step = st; quiet = no_warning (Extern k) extern_content }

    pub answered_kind : AreSettings (length image.externs) settings → IsKind k
    answered_kind are =
        subst IsKind (get_or_from_slice_get settings.kinds extern_here.1.number k k extern_here.1.kind) (are.kinds extern_here.1.number k (slice_get_within settings.kinds extern_here.1.number k extern_here.1.kind))

    pub answers : AreSettings (length image.externs) settings → returns_from k ≡ true → completes o ≡ false → Leaves image settings states n a o
    answers are returns not_last =
        answer_leaves image settings states n a at o (by k returns (sym (ap (λ c. act_completes c o) act) ∙ not_last)) refl (sym extern_here.0) ready.canonical.unaligned k returns (answered_kind are) answered_here extern_content
      where
        by : (c : Kind) → returns_from c ≡ true → kind_completes c o ≡ false → returns_to_halt o ≡ false
        by (kind.Pure j) e f = f
        by (kind.Reader j) e f = f
        by kind.Alloc e f = f
        by kind.Stop e f = absurd (false≢true e)
        by kind.Unknown e f = absurd (false≢true e)
        by (kind.Fills x l) e f = f

  pub stays : Moves image settings states n a o → Stays (machine image settings) (map_of image settings states drawn) o
  stays m =
      record {
        same = m.same;
        leads = record {
          next = m.next;
          is_successor = record { state = a; has_state = ready.has_value; listed = m.listed };
          stands = m.stands;
        };
      }

  pub calls : Enters image settings states n a o → Calls (machine image settings) (map_of image settings states drawn) o
  calls m =
      record {
        new = m.new;
        grown = m.grown;
        site = m.site;
        callee = m.callee;
        target = record { state = a; has_state = ready.has_value; calls = m.target };
        leads = record {
          next = m.next;
          is_successor = record {
            state = a;
            has_state = ready.has_value;
            listed = subst (λ x. IsListed (at_node (record { context = pushed states.lane o.before.eip m.new.callee n.context; at = x }) m.next) (successors image settings states n a)) m.callee m.listed;
          };
          stands = m.stands;
        };
      }

  pub returns : Leaves image settings states n a o → Returns (machine image settings) (map_of image settings states drawn) o
  returns m =
      record {
        ending = m.ending;
        parent = m.parent;
        older = m.older;
        were = m.were;
        are = m.are;
        place = m.place;
        next = m.next;
        stands = m.stands;
        leads = λ call is. record {
          state = a;
          has_state = ready.has_value;
          listed = m.leads call is.is_target.state is.is_target.has_state is.is_target.calls is.context is.at is.procedure;
        };
      }

-- A step that stays in its context is a row, and leaves a whole state.
pub staying_row : (image : Image) (settings : Settings) (states : States) (drawn : Drawn) (o : Occurrence Act) (i : Instr) → IsImage image → GoesOn (machine image settings) (map_of image settings states drawn) o
    → o.act ≡ Executes i → is_staying i.op ≡ true → Stays (machine image settings) (map_of image settings states drawn) o × IsWhole image o.after
staying_row image settings states drawn o i is goes act staying =
    let ready = goes.comes.ready in
    let m = moves image settings states drawn is o ready i act goes.comes.happens.act goes.comes.happens.step staying in
    (stays image settings states drawn is o ready m, m.whole)

-- So is a call.
pub calling_row : (image : Image) (settings : Settings) (states : States) (drawn : Drawn) (o : Occurrence Act) (i : Instr) → IsImage image → GoesOn (machine image settings) (map_of image settings states drawn) o
    → o.act ≡ Executes i → i.op ≡ op.Call → Calls (machine image settings) (map_of image settings states drawn) o × IsWhole image o.after
calling_row image settings states drawn o i is goes act call =
    let ready = goes.comes.ready in
    let m = enters image settings states drawn is o ready i act goes.comes.happens.act goes.comes.happens.step call in
    (calls image settings states drawn is o ready m, m.whole)

-- And so is a return that isn't the last step of a run.
pub returning_row : (image : Image) (settings : Settings) (states : States) (drawn : Drawn) (o : Occurrence Act) (i : Instr) → IsImage image → GoesOn (machine image settings) (map_of image settings states drawn) o
    → o.act ≡ Executes i → i.op ≡ op.Ret → Returns (machine image settings) (map_of image settings states drawn) o × IsWhole image o.after
returning_row image settings states drawn o i is goes act return =
    let ready = goes.comes.ready in
    let m = leaves image settings states drawn is o ready i act goes.comes.happens.act goes.comes.happens.step return goes.not_last in
    (returns image settings states drawn is o ready m, m.whole)

-- So is the answer of an extern that returns.
pub answering_row : (image : Image) (settings : Settings) (states : States) (drawn : Drawn) (o : Occurrence Act) (at : ℕ) (k : Kind) → IsImage image → AreSettings (length image.externs) settings
    → GoesOn (machine image settings) (map_of image settings states drawn) o → o.act ≡ Answers at k → returns_from k ≡ true → Returns (machine image settings) (map_of image settings states drawn) o × IsWhole image o.after
answering_row image settings states drawn o at k is are goes act returns_ =
    let ready = goes.comes.ready in
    let m = answers image settings states drawn is o ready at k act goes.comes.happens.act goes.comes.happens.step are returns_ goes.not_last in
    (returns image settings states drawn is o ready m, m.whole)

-- All of them.
module _ (image : Image) (settings : Settings) (states : States) (drawn : Drawn) (o : Occurrence Act) (is : IsImage image) (are : AreSettings (length image.externs) settings)
    (goes : GoesOn (machine image settings) (map_of image settings states drawn) o) where
  abbrev Told : Type 0
  Told = Row (machine image settings) (map_of image settings states drawn) o × IsWhole image o.after

  ends_here : (c : Act) → o.act ≡ c → act_completes c o ≡ true → Told
  ends_here c e t = absurd (true≢false (sym t ∙ sym (ap (λ x. act_completes x o) e) ∙ goes.not_last))

  no_outcome : (c : Act) → o.act ≡ c → outcome (act_row c) o.before o.choices ≡ None → Told
  no_outcome c e none =
      let step = goes.comes.happens.step in
      absurd (none-some _ (sym none ∙ ap (λ x. outcome (act_row x) o.before o.choices) (sym e) ∙ step.row))

  instruction_row : (i : Instr) → o.act ≡ Executes i → (c : Op) → i.op ≡ c → Told
  unfolding is_plain rows.row
  instruction_row i act op.Call e = let row = calling_row image settings states drawn o i is goes act e in (inr (inl row.0), row.1)
  instruction_row i act op.Ret e = let row = returning_row image settings states drawn o i is goes act e in (inr (inr row.0), row.1)
  instruction_row i act op.Hlt e = ends_here (Executes i) act (ap (λ c. operation_completes c o) e)
  instruction_row i act op.Int3 e = no_outcome (Executes i) act (ap (λ c. outcome (rows.row c i) o.before o.choices) e)
  instruction_row i act op.Ud2 e = no_outcome (Executes i) act (ap (λ c. outcome (rows.row c i) o.before o.choices) e)
  instruction_row i act _ e = let row = staying_row image settings states drawn o i is goes act (ap is_staying e) in (inl row.0, row.1)

  answer_row : (at : ℕ) (k : Kind) → o.act ≡ Answers at k → Told
  unfolding externs.extern_row
  answer_row at kind.Stop act = ends_here (Answers at kind.Stop) act refl
  answer_row at kind.Unknown act = no_outcome (Answers at kind.Unknown) act refl
  answer_row at (kind.Pure j) act = let row = answering_row image settings states drawn o at (kind.Pure j) is are goes act refl in (inr (inr row.0), row.1)
  answer_row at (kind.Reader j) act = let row = answering_row image settings states drawn o at (kind.Reader j) is are goes act refl in (inr (inr row.0), row.1)
  answer_row at kind.Alloc act = let row = answering_row image settings states drawn o at kind.Alloc is are goes act refl in (inr (inr row.0), row.1)
  answer_row at (kind.Fills b l) act = let row = answering_row image settings states drawn o at (kind.Fills b l) is are goes act refl in (inr (inr row.0), row.1)

  pub each_row : Told
  each_row = by o.act refl
    where
      by : (c : Act) → o.act ≡ c → Told
      by (Executes i) e = instruction_row i e i.op refl
      by (Answers at k) e = answer_row at k e

-- All that the argument on slices asks of single steps.
pub abstract_steps : AbstractStepsAreMet
abstract_steps image settings states drawn is are =
    record {
      start_whole = λ s start. starts_are_whole image settings s start;
      start_stands = λ s start. starts_have_states image settings states.lane s states.cells start;
      below = λ a b s less form whole stands. below_stands states.lane a b s less stands;
      whole = λ o goes. (each_row image settings states drawn o is are goes).1;
      row = λ o goes. (each_row image settings states drawn o is are goes).0;
    }
