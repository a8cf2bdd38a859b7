-- Each byte that an occurrence reads is among the reads of its node.
use Rattle.std.proofs.Common.{◌≡◌, inl, ℕ, Bool, true, false, ◌||◌, List, length, Some, ℤ, pos, refl, sym, ap, subst, ◌∙◌}
use Rattle.std.specs.Prelude.{◌-ℤ◌}
use Rattle.std.proofs.lemmas.Bool.{true≢false}
use Rattle.std.proofs.lemmas.Option.{get_or_from_slice_get, slice_get_within}
use Rattle.image_map.specs.declared.image.Image.{Image}
use Rattle.image_map.specs.declared.region.Kind.{Kind}
use Rattle.image_map.specs.declared.region.Kind.TheVariants as kind
use Rattle.image_map.specs.declared.region.RegionId.{RegionId}
use Rattle.image_map.specs.declared.region.Settings.{Settings}
use Rattle.image_map.specs.CallModel.{AreSettings, IsKind}
use Rattle.image_map.specs.Whole.{IsImage}
use Rattle.ia32_types.specs.declared.Instr.{Instr}
use Rattle.ia32_types.specs.declared.Op.{Op}
use Rattle.ia32_types.specs.declared.Op.TheVariants as op
use Rattle.ia32_semantics.specs.Ia32.{machine}
use Rattle.ia32_semantics.specs.Machine.{Occurrence}
use Rattle.ia32_semantics.specs.Reading.{outcome, asks}
use Rattle.ia32_semantics.specs.Rows as rows
use Rattle.ia32_semantics.specs.State.{State, AtByte}
use Rattle.ia32_semantics.specs.Step.{Act, Executes, Answers, IsActAt, IsExternAt, act_row, reads as step_reads, writes as step_writes, outcome_takes, outcome_writes}
use Rattle.alocs.specs.Cells.{Division}
use Rattle.alocs.specs.Extents.{home}
use Rattle.vset.specs.World.{key_of, base_of, region_of}
use Rattle.call_strings.specs.declared.context.Node.{Node}
use Rattle.abs_semantics.specs.States.{AbsState}
use Rattle.abs_semantics.specs.Ownership.{IsKnown}
use Rattle.abs_steps.specs.Accesses.{reads, writes, extern_reads}
use Rattle.abs_steps.specs.Places.{Extern, Instruction, content_at}
use Rattle.abs_steps.specs.Rows.{view_of}
use Rattle.abs_steps.specs.Successors.{States}
use Rattle.abs_steps.specs.Views.{View}
use Rattle.slice_soundness.specs.Located.{Spot, spot_of, OfRegion}
use Rattle.slice_soundness.specs.Maps.{here}
use Rattle.slice_soundness.specs.Premises.{Comes}
use Rattle.step_soundness.specs.Accessed.{IsAccessed}
use Rattle.step_soundness.specs.Steps.{is_plain, IsExecuted, KeepsToAccesses}
use Rattle.step_soundness.proofs.StepLaws.{plain_keeps}
use Rattle.call_soundness.specs.Externs.{is_reader, IsAnswered, KeepsAnswer}
use Rattle.call_soundness.specs.Laws.{is_control}
use Rattle.call_soundness.specs.Maps.{Drawn, map_of}
use Rattle.call_soundness.proofs.AccessLaws.{control_keeps}
use Rattle.call_soundness.proofs.AnswerAccesses.{answer_keeps}
use Rattle.call_soundness.proofs.ContentLaws.{fetched_stands, extern_stands}
use Rattle.call_soundness.proofs.RowLaws.{known, no_warning, executed}
use Rattle.access_facts.specs.Reach.{reaches}
use Rattle.access_facts.specs.Sets.{read_reaches}
use Rattle.graph_soundness.specs.Reached.{IsReadBy, MayRead}
use Rattle.graph_soundness.proofs.ReachLaws.{each_read}
use Rattle.graph_soundness.proofs.SpotLaws.{thing_spot, spot_region, spot_base, HasOwner, spot_owner}

-- -- What neither moves numbers nor control reads and writes nothing

quiet_reads : (c : Op) (i : Instr) (s : State) (words : List ℕ) (byte : ℕ) → is_plain c ≡ false → is_control c ≡ false
    → (asks (rows.row c i) s words (AtByte byte) || outcome_takes (outcome (rows.row c i) s words) s (AtByte byte)) ≡ false
unfolding rows.row is_plain
quiet_reads op.Hlt i s words byte e f = refl
quiet_reads op.Int3 i s words byte e f = refl
quiet_reads op.Ud2 i s words byte e f = refl
quiet_reads op.Call i s words byte e f = absurd (true≢false f)
quiet_reads op.Ret i s words byte e f = absurd (true≢false f)
quiet_reads op.Jmp i s words byte e f = absurd (true≢false f)
quiet_reads (op.Jcc c) i s words byte e f = absurd (true≢false f)
quiet_reads _ i s words byte e f = absurd (true≢false e)

quiet_writes : (c : Op) (i : Instr) (s : State) (words : List ℕ) (byte : ℕ) → is_plain c ≡ false → is_control c ≡ false → outcome_writes (outcome (rows.row c i) s words) (AtByte byte) ≡ false
unfolding rows.row is_plain
quiet_writes op.Hlt i s words byte e f = refl
quiet_writes op.Int3 i s words byte e f = refl
quiet_writes op.Ud2 i s words byte e f = refl
quiet_writes op.Call i s words byte e f = absurd (true≢false f)
quiet_writes op.Ret i s words byte e f = absurd (true≢false f)
quiet_writes op.Jmp i s words byte e f = absurd (true≢false f)
quiet_writes (op.Jcc c) i s words byte e f = absurd (true≢false f)
quiet_writes _ i s words byte e f = absurd (true≢false e)

-- -- What is accessed

module _ (image : Image) (lane p : ℕ) (a : AbsState) (d : Division) (i : Instr) (o : Occurrence Act) (h : IsExecuted image lane a p d i o) where
  by_kind : {P : Type 0} → (KeepsToAccesses lane a i o → P) → (is_plain i.op ≡ false → is_control i.op ≡ false → P) → P
  by_kind {P} keeps other = by_plain (is_plain i.op) refl
    where
      by_control : (b : Bool) → is_control i.op ≡ b → is_plain i.op ≡ false → P
      by_control true e f = keeps (control_keeps image lane p a d i o h e)
      by_control false e f = other f e

      by_plain : (b : Bool) → is_plain i.op ≡ b → P
      by_plain true e = keeps (plain_keeps image lane a p d i o h e)
      by_plain false e = by_control (is_control i.op) refl e

  pub instruction_reads : (byte : ℕ) → step_reads o (AtByte byte) ≡ true → IsAccessed lane o.before (reads i.op a i) byte
  instruction_reads byte e =
      by_kind (λ keeps. keeps.reads byte e)
      (λ f g. absurd (true≢false (sym e ∙ ap (λ c. asks (act_row c) o.before o.choices (AtByte byte) || outcome_takes (outcome (act_row c) o.before o.choices) o.before (AtByte byte)) h.act
      ∙ quiet_reads i.op i o.before o.choices byte f g)))

  pub instruction_writes : (byte : ℕ) → step_writes o (AtByte byte) ≡ true → IsAccessed lane o.before (writes i.op a i) byte
  instruction_writes byte e =
      by_kind (λ keeps. keeps.writes byte e)
      (λ f g. absurd (true≢false (sym e ∙ ap (λ c. outcome_writes (outcome (act_row c) o.before o.choices) (AtByte byte)) h.act ∙ quiet_writes i.op i o.before o.choices byte f g)))

-- -- At a node

module _ (image : Image) (settings : Settings) (states : States) (drawn : Drawn) (is : IsImage image) (are : AreSettings (length image.externs) settings) (o : Occurrence Act)
    (comes : Comes (machine image settings) (map_of image settings states drawn) o) where
  abbrev pub n : Node
  n = here (map_of image settings states drawn) o.before

  abbrev pub V : View
  V = view_of comes.ready.value states.cells n.context.proc

  pub known_here : IsKnown image states.lane comes.ready.value n.context.proc o.before
  known_here = known image settings states drawn is o comes.ready

  pub content_of_instruction : (i : Instr) → o.act ≡ Executes i → content_at image settings n.at ≡ Instruction i
  content_of_instruction i act = fetched_stands image settings o.before.eip i is (subst (λ c. IsActAt image settings o.before.eip c) act comes.happens.act)

  pub executed_here : (i : Instr) → o.act ≡ Executes i → IsExecuted image states.lane comes.ready.value n.context.proc states.cells i o
  executed_here i act = executed image settings states drawn is o comes.ready i act comes.happens.act comes.happens.step

  extern_here : (at : ℕ) (k : Kind) → o.act ≡ Answers at k → (at ≡ o.before.eip) × IsExternAt image settings o.before.eip k
  extern_here at k act = subst (λ c. IsActAt image settings o.before.eip c) act comes.happens.act

  pub content_of_extern : (at : ℕ) (k : Kind) → o.act ≡ Answers at k → content_at image settings n.at ≡ Extern k
  content_of_extern at k act = extern_stands image settings o.before.eip k (extern_here at k act).1

  pub kind_here : (at : ℕ) (k : Kind) → o.act ≡ Answers at k → IsKind k
  kind_here at k act =
      let there = (extern_here at k act).1 in
      subst IsKind (get_or_from_slice_get settings.kinds there.number k k there.kind) (are.kinds there.number k (slice_get_within settings.kinds there.number k there.kind))

  pub answered_here : (at : ℕ) (k : Kind) → o.act ≡ Answers at k → IsAnswered image states.lane comes.ready.value n.context.proc states.cells at k o
  answered_here at k act =
      record {
        known = known_here;
        canonical = comes.ready.canonical.canonical;
        act = act;
        step = comes.happens.step;
        quiet = no_warning image settings states drawn is o comes.ready (Extern k) (content_of_extern at k act);
      }

  pub answer_here : (at : ℕ) (k : Kind) → o.act ≡ Answers at k → KeepsAnswer states.lane comes.ready.value n.context.proc states.cells k o
  answer_here at k act = answer_keeps image states.lane comes.ready.value n.context.proc states.cells at k o (answered_here at k act) (kind_here at k act)

  reaches_extern : (k : Kind) (r : RegionId) (offset : ℤ) → (is_reader k ≡ false → IsReadBy (reaches V (extern_reads comes.ready.value k)) r offset) → IsReadBy (read_reaches V (Extern k)) r offset
  unfolding read_reaches
  reaches_extern (kind.Reader m) r offset f = inl tt
  reaches_extern kind.Unknown r offset f = inl tt
  reaches_extern (kind.Pure m) r offset f = f refl
  reaches_extern kind.Alloc r offset f = f refl
  reaches_extern kind.Stop r offset f = f refl
  reaches_extern (kind.Fills b l) r offset f = f refl

  module _ (byte : ℕ) (read : step_reads o (AtByte byte) ≡ true) (spot : Spot) (lies : spot_of (key_of states.lane) o.before byte ≡ Some spot) where
    owner : HasOwner states.lane o.before byte spot
    owner = spot_owner states.lane o.before byte spot lies

    abbrev region : RegionId
    region = home (region_of states.lane owner.thing)

    abbrev offset : ℤ
    offset = pos byte -ℤ pos (base_of owner.thing)

    reached : (c : Act) → o.act ≡ c → IsReadBy (read_reaches V (content_at image settings n.at)) region offset
    unfolding read_reaches
    reached (Executes i) act =
        subst (λ content. IsReadBy (read_reaches V content) region offset) (sym (content_of_instruction i act))
        (each_read image states.lane n.context.proc comes.ready.value o.before known_here byte owner.thing owner.is_in owner.owns (reads i.op comes.ready.value i)
        (instruction_reads image states.lane n.context.proc comes.ready.value states.cells i o (executed_here i act) byte read))
    reached (Answers at k) act =
        subst (λ content. IsReadBy (read_reaches V content) region offset) (sym (content_of_extern at k act))
        (reaches_extern k region offset (λ other.
        each_read image states.lane n.context.proc comes.ready.value o.before known_here byte owner.thing owner.is_in owner.owns (extern_reads comes.ready.value k) ((answer_here at k act).reads byte other read)))

    pub read_covered : MayRead V (content_at image settings n.at) (OfRegion spot.region (pos byte -ℤ pos spot.base))
    read_covered =
        let same : spot ≡ thing_spot states.lane owner.thing = owner.is in
        let of_region : spot.region ≡ region = ap (λ (x : Spot). x.region) same ∙ spot_region states.lane owner.thing in
        let of_base : spot.base ≡ base_of owner.thing = ap (λ (x : Spot). x.base) same ∙ spot_base states.lane owner.thing in
        subst (λ (b : ℕ). MayRead V (content_at image settings n.at) (OfRegion spot.region (pos byte -ℤ pos b))) (sym of_base)
        (subst (λ r. MayRead V (content_at image settings n.at) (OfRegion r offset)) (sym of_region) (reached o.act refl))
