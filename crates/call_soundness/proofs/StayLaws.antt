-- Steps that stay in their context: plain instructions, jumps and branches.
use Rattle.std.proofs.Common.{◌≡◌, inl, inr, ℕ, ◌%◌, ◌^◌, ◌<◌, Bool, true, false, cond, List, [], ◌∷◌, ◌++◌, Option, Some, None, refl, sym, ◌∙◌, ap, subst, arith}
use Rattle.std.specs.Prelude.{map}
use Rattle.std.proofs.lemmas.Bool.{false≢true}
use Rattle.std.proofs.lemmas.Option.{none-some, same_Some}
use Rattle.image_map.specs.declared.image.Image.{Image}
use Rattle.image_map.specs.declared.region.Settings.{Settings}
use Rattle.ia32_types.specs.declared.Instr.{Instr}
use Rattle.ia32_types.specs.declared.Op.{Op}
use Rattle.ia32_types.specs.declared.Op.TheVariants as op
use Rattle.ia32_types.specs.declared.Operand.{Operand}
use Rattle.ia32_types.specs.declared.Operand.TheVariants as operand
use Rattle.ia32_types.specs.declared.Width.{Width}
use Rattle.ia32_types.specs.declared.Width.TheVariants.{D32}
use Rattle.ia32_types.specs.Operands.{HasOperands, IsValue, IsBelow, HasOne}
use Rattle.ia32_semantics.specs.CallModel.{IsWhole, AreActivations}
use Rattle.ia32_semantics.specs.Condition.{holds}
use Rattle.ia32_semantics.specs.Effects.{all_changed}
use Rattle.ia32_semantics.specs.Machine.{Occurrence}
use Rattle.ia32_semantics.specs.Operands as machine_operands
use Rattle.ia32_semantics.specs.Outcome.{Outcome, going}
use Rattle.ia32_semantics.specs.Reading.{gives, ◌>>=◌, outcome}
use Rattle.ia32_semantics.specs.Rows as rows
use Rattle.ia32_semantics.specs.Rows.{next_place}
use Rattle.ia32_semantics.specs.State.{State}
use Rattle.ia32_semantics.specs.Step.{Act, Step, act_row}
use Rattle.ia32_semantics.proofs.StepLemmas.{steps_stay_laid_out}
use Rattle.call_strings.specs.declared.context.Node.{Node}
use Rattle.abs_semantics.specs.States.{AbsState}
use Rattle.abs_semantics.specs.StandsFor.{StandsFor, flags_of}
use Rattle.abs_semantics.proofs.LevelLemmas.{IsAmong}
use Rattle.abs_steps.specs.Places.{Instruction, content_at, followed}
use Rattle.abs_steps.specs.Rows.{post, view_of}
use Rattle.abs_steps.specs.Successors.{States, at_node, moved_to, if_goes, side, branched_to, branched, jumped, next_to, instruction_successors, successors_by, successors}
use Rattle.abs_steps.specs.Warnings.{is_unresolved, has_unresolved}
use Rattle.step_soundness.specs.Steps.{is_plain, IsExecuted}
use Rattle.step_soundness.proofs.AdvanceLaws.{elsewhere_stands, after_is, place_word}
use Rattle.step_soundness.proofs.GivenLaws.{Gives, gives_bind, gives_this}
use Rattle.step_soundness.proofs.MoveRows.{condition_gives}
use Rattle.step_soundness.proofs.QuietLaws.{target_known}
use Rattle.step_soundness.proofs.RowLaws.{Has, read_gives, spelt_value}
use Rattle.step_soundness.proofs.StepLaws.{plain_advances}
use Rattle.call_soundness.specs.Maps.{IsListed, IsOfOne}
use Rattle.call_soundness.proofs.BranchLaws.{side_stands}
use Rattle.call_soundness.proofs.TargetLaws.{target_followed}

-- a plain instruction has the next place as its one successor
plain_next : (o : Op) → is_plain o ≡ true → (image : Image) (settings : Settings) (states : States) (n : Node) (i : Instr) (a : AbsState)
    → instruction_successors o image settings states n i a ≡ next_to image states n i a
unfolding is_plain instruction_successors
plain_next op.Call e image settings states n i a = absurd (false≢true e)
plain_next op.Ret e image settings states n i a = absurd (false≢true e)
plain_next op.Jmp e image settings states n i a = absurd (false≢true e)
plain_next (op.Jcc c) e image settings states n i a = absurd (false≢true e)
plain_next op.Hlt e image settings states n i a = absurd (false≢true e)
plain_next op.Int3 e image settings states n i a = absurd (false≢true e)
plain_next op.Ud2 e image settings states n i a = absurd (false≢true e)
plain_next _ e image settings states n i a = refl

-- -- Lists

pub listed_among : {A : Type 0} (x : A) (xs : List A) → IsAmong x xs → IsListed x xs
listed_among x [] h = absurd h
listed_among x (y ∷ ys) (inl e) = inl e
listed_among x (y ∷ ys) (inr h) = inr (listed_among x ys h)

pub listed_left : {A : Type 0} (x : A) (xs ys : List A) → IsListed x xs → IsListed x (xs ++ ys)
listed_left x [] ys h = absurd h
listed_left x (y ∷ xs) ys (inl e) = inl e
listed_left x (y ∷ xs) ys (inr h) = inr (listed_left x xs ys h)

pub listed_right : {A : Type 0} (x : A) (xs ys : List A) → IsListed x ys → IsListed x (xs ++ ys)
listed_right x [] ys h = h
listed_right x (y ∷ xs) ys h = inr (listed_right x xs ys h)

pub listed_map : {A B : Type 0} (f : A → B) (x : A) (xs : List A) → IsAmong x xs → IsListed (f x) (map f xs)
listed_map f x [] h = absurd h
listed_map f x (y ∷ ys) (inl e) = inl (ap f e)
listed_map f x (y ∷ ys) (inr h) = inr (listed_map f x ys h)

-- -- A step that changes the place alone

module _ (image : Image) (lane : ℕ) (a : AbsState) (o : Occurrence Act) (whole : IsWhole image o.before) (st : Step image o) (n : ℕ) (is : st.done ≡ going [] n) where
  none_changed : st.done.effects ≡ []
  none_changed = ap (λ (x : Outcome). x.effects) is

  pub still_after : o.after ≡ record o.before { eip = n % 2 ^ 32 }
  still_after =
      after_is image o st n (is ∙ ap (λ es. going es n) (sym none_changed))
      ∙ ap (λ es. record (all_changed es o.before) { eip = n % 2 ^ 32 }) none_changed

  pub still_same : o.after.activations ≡ o.before.activations
  still_same = ap (λ (t : State). t.activations) still_after

  pub still_eip : o.after.eip ≡ n % 2 ^ 32
  still_eip = ap (λ (t : State). t.eip) still_after

  pub still_whole : IsWhole image o.after
  still_whole =
      record {
        laid_out = steps_stay_laid_out image o st whole.laid_out;
        activations = subst (λ (t : State). AreActivations image t.memory t.slot t.activations) (sym still_after) whole.activations;
      }

  pub still_stands : StandsFor lane a o.before → StandsFor lane a o.after
  still_stands stands = subst (StandsFor lane a) (sym still_after) (elsewhere_stands lane a o.before stands (n % 2 ^ 32) o.before.blocks)

-- -- The steps

-- A step that leads from a node with an abstract state to another place in the same context, with an abstract state for it.
pub record Moves (image : Image) (settings : Settings) (states : States) (n : Node) (a : AbsState) (o : Occurrence Act) : Type 0 where
  pub whole : IsWhole image o.after
  pub same : o.after.activations ≡ o.before.activations
  pub next : AbsState
  pub listed : IsListed (at_node (moved_to o.after.eip n) next) (successors image settings states n a)
  pub stands : StandsFor states.lane next o.after

module _ (image : Image) (settings : Settings) (states : States) (n : Node) (a : AbsState) (i : Instr) (o : Occurrence Act)
    (h : IsExecuted image states.lane a n.context.proc states.cells i o) (content : content_at image settings n.at ≡ Instruction i) where
  these : successors image settings states n a ≡ instruction_successors i.op image settings states n i a
  unfolding successors successors_by
  these = ap (λ c. successors_by c image settings states n a) content

  row_is : outcome (rows.row i.op i) o.before o.choices ≡ Some (h.step.done, [])
  row_is = subst (λ (c : Act). outcome (act_row c) o.before o.choices ≡ Some (h.step.done, [])) h.act h.step.row

  pub plain_moves : is_plain i.op ≡ true → Moves image settings states n a o
  plain_moves plain =
      let went = plain_advances image states.lane a n.context.proc states.cells i o h plain in
      record {
        whole = went.whole;
        same = went.same;
        next = post a i states.cells image n.context.proc;
        listed = subst (IsListed (at_node (moved_to o.after.eip n) (post a i states.cells image n.context.proc))) (sym (these ∙ plain_next i.op plain image settings states n i a))
            (inl (ap (λ e. at_node (moved_to e n) (post a i states.cells image n.context.proc)) (sym went.eip)));
        stands = went.stands;
      }

  -- -- Jumps

  abbrev lane : ℕ
  lane = states.lane

  abbrev p : ℕ
  p = n.context.proc

  -- where a jump goes
  pub record Jumps (dst : Option Operand) (done : Outcome) : Type 0 where
    pub to : ℕ
    pub is : done ≡ going [] to
    pub word : to < 4294967296
    pub among : IsAmong to (followed image (view_of a states.cells p) dst)

  jump_gives : (R : ℕ → Type 0) → ((byte : ℕ) → R byte) → (width : Width) → width ≡ D32 → (dst src : Option Operand) (imm : Option ℕ) → HasOne (IsValue D32) dst src imm → is_unresolved image (view_of a states.cells p) dst ≡ false
      → Gives o.before R (Jumps dst) (machine_operands.value_of width dst >>= (λ target. gives (going [] target)))
  jump_gives R any width wide (Some t) None None fits resolved =
      subst (λ w. Gives o.before R (Jumps (Some t)) (machine_operands.value_of w (Some t) >>= (λ target. gives (going [] target)))) (sym wide)
      (gives_bind o.before R (Has image lane p a o.before states.cells h.known h.canonical D32 t) _ (machine_operands.value_of D32 (Some t)) _
      (read_gives image lane p a o.before states.cells h.known h.canonical R D32 t (spelt_value D32 t fits) (λ byte r. any byte)) (λ to has.
      let f = target_followed image lane p a o.before states.cells h.known h.canonical t (spelt_value D32 t fits) to has resolved in
      gives_this o.before R _ (going [] to) (record { to = to; is = refl; word = f.word; among = f.is_followed })))
  jump_gives R any width wide None src imm fits resolved = absurd fits
  jump_gives R any width wide (Some t) (Some y) imm fits resolved = absurd fits
  jump_gives R any width wide (Some t) None (Some k) fits resolved = absurd fits

  jumps_to : (j : Jumps i.dst h.step.done) → instruction_successors i.op image settings states n i a ≡ jumped image (view_of a states.cells p) i n → Moves image settings states n a o
  jumps_to j jumps =
      let lt = j.word in
      let place_is : j.to ≡ j.to % 4294967296 = omega (arith, lt) in
      let eip : o.after.eip ≡ j.to = still_eip image lane a o h.known.whole h.step j.to j.is ∙ sym place_is in
      record {
        whole = still_whole image lane a o h.known.whole h.step j.to j.is;
        same = still_same image lane a o h.known.whole h.step j.to j.is;
        next = a;
        listed = subst (IsListed (at_node (moved_to o.after.eip n) a)) (sym (these ∙ jumps))
            (subst (λ e. IsListed (at_node (moved_to e n) a) (jumped image (view_of a states.cells p) i n)) (sym eip)
            (listed_map (λ t. at_node (moved_to t n) a) j.to (followed image (view_of a states.cells p) i.dst) j.among));
        stands = still_stands image lane a o h.known.whole h.step j.to j.is h.known.stands;
      }

  -- what an operation's operands are, and that its target is known
  of_jump : (c : Op) → i.op ≡ op.Jmp → (i.width ≡ D32) × HasOne (IsValue D32) i.dst i.src i.imm
  of_jump c e = subst (λ c. HasOperands c i.width i.dst i.src i.imm) e h.spelt.operands

  pub jump_moves : i.op ≡ op.Jmp → Moves image settings states n a o
  unfolding rows.row instruction_successors has_unresolved
  jump_moves e =
      let fits = of_jump i.op e in
      let resolved : is_unresolved image (view_of a states.cells p) i.dst ≡ false =
      subst (λ c. has_unresolved c image (view_of a states.cells p) i.dst ≡ false) e (target_known a states.cells p image i h.quiet) in
      jumps_to
      ((jump_gives (λ byte. Unit {0}) (λ byte. tt) i.width fits.0 i.dst i.src i.imm fits.1 resolved).given o.choices [] h.step.done (subst (λ c. outcome (rows.row c i) o.before o.choices ≡ Some (h.step.done, [])) e row_is))
      (ap (λ c. instruction_successors c image settings states n i a) e)

  -- -- Branches

  pub record Branches (c : ℕ) (dst : Option Operand) (done : Outcome) : Type 0 where
    pub target : ℕ
    pub is_target : dst ≡ Some (operand.Imm target)
    pub word : target < 4294967296
    pub taken : Bool
    pub holds_so : holds c (flags_of o.before) ≡ taken
    pub is : done ≡ going [] (cond taken target (next_place i))

  branch_gives : (c : ℕ) → c < 16 → (dst src : Option Operand) (imm : Option ℕ) → HasOne (IsBelow 4294967296) dst src imm
      → Gives o.before (λ byte. Unit {0}) (Branches c dst) (machine_operands.condition c >>= (λ taken. rows.immediate dst >>= (λ target. gives (going [] (cond taken target (next_place i))))))
  unfolding rows.immediate
  branch_gives c lt (Some (operand.Imm t)) None None fits =
      gives_bind o.before (λ byte. Unit {0}) (λ b. b ≡ holds c (flags_of o.before)) _ (machine_operands.condition c) _ (condition_gives o.before (λ byte. Unit {0}) c lt) (λ b e.
      gives_this o.before (λ byte. Unit {0}) _ (going [] (cond b t (next_place i))) (record { target = t; is_target = refl; word = fits; taken = b; holds_so = sym e; is = refl }))
  branch_gives c lt (Some (operand.Reg r)) None None fits = absurd fits
  branch_gives c lt (Some (operand.High r)) None None fits = absurd fits
  branch_gives c lt (Some (operand.Mem m)) None None fits = absurd fits
  branch_gives c lt None src imm fits = absurd fits
  branch_gives c lt (Some t) (Some y) imm fits = absurd fits
  branch_gives c lt (Some t) None (Some k) fits = absurd fits

  goes_listed : (at : ℕ) (o : Option AbsState) (b : AbsState) → o ≡ Some b → IsListed (at_node (moved_to at n) b) (if_goes at n o)
  goes_listed at None b e = absurd (none-some b e)
  goes_listed at (Some c) b e = inl (ap (λ x. at_node (moved_to at n) x) (same_Some c b e))

  side_listed : (c target : ℕ) (taken : Bool) (b : AbsState) → side a c taken ≡ Some b → IsListed (at_node (moved_to (cond taken target (next_place i)) n) b) (branched_to c target i n a)
  side_listed c target true b e = listed_left _ (if_goes target n (side a c true)) (if_goes (next_place i) n (side a c false)) (goes_listed target (side a c true) b e)
  side_listed c target false b e = listed_right _ (if_goes target n (side a c true)) (if_goes (next_place i) n (side a c false)) (goes_listed (next_place i) (side a c false) b e)

  place_cut : (taken : Bool) (target : ℕ) → target < 4294967296 → cond taken target (next_place i) % 4294967296 ≡ cond taken target (next_place i)
  place_cut true target lt = omega (arith, lt)
  place_cut false target lt = place_word i

  branch_to : (c : ℕ) → IsOfOne a.fact → Branches c i.dst h.step.done → instruction_successors i.op image settings states n i a ≡ branched c i.dst i n a → Moves image settings states n a o
  unfolding branched
  branch_to c one j branches =
      let left = side_stands image lane p a o.before h.known h.canonical c j.taken j.holds_so one in
      let to = cond j.taken j.target (next_place i) in
      let eip : o.after.eip ≡ to = still_eip image lane a o h.known.whole h.step to j.is ∙ place_cut j.taken j.target j.word in
      record {
        whole = still_whole image lane a o h.known.whole h.step to j.is;
        same = still_same image lane a o h.known.whole h.step to j.is;
        next = left.state;
        listed = subst (IsListed (at_node (moved_to o.after.eip n) left.state)) (sym (these ∙ branches ∙ ap (λ t. branched c t i n a) j.is_target))
            (subst (λ e. IsListed (at_node (moved_to e n) left.state) (branched_to c j.target i n a)) (sym eip) (side_listed c j.target j.taken left.state left.is));
        stands = still_stands image lane left.state o h.known.whole h.step to j.is left.stands;
      }

  pub branch_moves : (c : ℕ) → i.op ≡ op.Jcc c → IsOfOne a.fact → Moves image settings states n a o
  unfolding rows.row instruction_successors
  branch_moves c e one =
      let fits : (c < 16) × (i.width ≡ D32) × HasOne (IsBelow 4294967296) i.dst i.src i.imm = subst (λ c. HasOperands c i.width i.dst i.src i.imm) e h.spelt.operands in
      branch_to c one
      ((branch_gives c fits.0 i.dst i.src i.imm fits.2).given o.choices [] h.step.done (subst (λ c. outcome (rows.row c i) o.before o.choices ≡ Some (h.step.done, [])) e row_is))
      (ap (λ c. instruction_successors c image settings states n i a) e)
