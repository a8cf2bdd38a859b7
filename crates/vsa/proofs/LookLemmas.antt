-- A return looks at the calls that may have led to it, and at no other node.
use Rattle.std.proofs.Common.{◌≡◌, ℕ, ◌&&◌, ◌==◌, Bool, true, false, cond, List, [], ◌∷◌, ◌++◌, map, refl, ap, sym, ◌∙◌}
use Rattle.std.specs.Prelude.{filter, not, if◌then◌else◌}
use Rattle.std.specs.List.{flat_map}
use Rattle.std.proofs.lemmas.Bool.{and_parts, true≢false, cond-true, cond-false}
use Rattle.image_map.specs.declared.region.Kind.{Kind}
use Rattle.image_map.specs.declared.region.Kind.TheVariants as kind
use Rattle.ia32_types.specs.declared.Op.{Op}
use Rattle.ia32_types.specs.declared.Op.TheVariants as op
use Rattle.ia32_types.specs.declared.Instr.{Instr}
use Rattle.call_strings.specs.declared.context.Node.{Node}
use Rattle.call_strings.specs.Nodes.{same_node}
use Rattle.abs_semantics.specs.declared.parts.Link.{Link}
use Rattle.abs_semantics.specs.States.{AbsState}
use Rattle.abs_steps.specs.Calls.{returned}
use Rattle.abs_steps.specs.Externs.{answered, block_key}
use Rattle.abs_steps.specs.Rows.{view_of}
use Rattle.abs_steps.specs.Places.{Content, Extern, Instruction, Nothing, content_at}
use Rattle.abs_steps.specs.Successors.{Placed, States, at_node, is_at_slot, takes_too_much, extra_of, callee_node, goes_back_to, gone_back_to, young_links, returned_by, returned_each, returned_from, extern_successors, instruction_successors, successors_by, successors}
use Rattle.vsa.specs.Tables.{Table, state_of}
use Rattle.vsa.specs.Analysis.{Analysis, placed_of, states_of, is_ret, returns_by, may_return_to}

-- what a test lets through is let through by a weaker one
module _ {A B : Type 0} (f : A → B) (strong : B → Bool) (weak : A → Bool) (weaker : (a : A) → strong (f a) ≡ true → weak a ≡ true) where
  pub filtered_first : (xs : List A) → filter strong (map f xs) ≡ filter strong (map f (filter weak xs))
  filtered_first [] = refl
  filtered_first (x ∷ xs) = by (filtered_first xs) (weak x) (strong (f x)) refl refl
    where
      by : filter strong (map f xs) ≡ filter strong (map f (filter weak xs)) → (w s : Bool) → weak x ≡ w → strong (f x) ≡ s → filter strong (map f (x ∷ xs)) ≡ filter strong (map f (filter weak (x ∷ xs)))
      by rest true s ew es = ap (λ ys. cond (strong (f x)) (f x ∷ ys) ys) rest ∙ ap (λ ys. filter strong (map f ys)) (sym (cond-true (weak x) (x ∷ filter weak xs) (filter weak xs) ew))
      by rest false true ew es = absurd (true≢false (sym (weaker x es) ∙ ew))
      by rest false false ew es =
          cond-false (strong (f x)) _ _ es ∙ rest ∙ ap (λ ys. filter strong (map f ys)) (sym (cond-false (weak x) (x ∷ filter weak xs) (filter weak xs) ew))

abbrev placed_at : Node × Table → Placed
placed_at e = at_node e.0 (state_of e.1)

module _ (x : Analysis) (n : Node) (table : List (Node × Table)) where
  -- the calls from which the procedure of the node may have been entered in its context
  abbrev near : Node × Table → Bool
  near e = same_node (callee_node x.lane e.0.at n.context.proc e.0) (record n { at = n.context.proc })

  abbrev all : States
  all = states_of x table

  abbrev few : States
  few = states_of x (filter near table)

  back : (l : Link) → filter (goes_back_to x.image x.settings all n l) (placed_of table) ≡ filter (goes_back_to x.image x.settings few n l) (placed_of (filter near table))
  back l = filtered_first placed_at (goes_back_to x.image x.settings all n l) near near_if table
    where
      near_if : (e : Node × Table) → goes_back_to x.image x.settings all n l (placed_at e) ≡ true → near e ≡ true
      near_if e h = (and_parts (near e) _ (and_parts (e.0.context.proc == l.parent) _ h).1).0

  each : (extra : ℕ) (a : AbsState) (ls : List Link) → flat_map (returned_by x.image x.settings all n extra a) ls ≡ flat_map (returned_by x.image x.settings few n extra a) ls
  each extra a [] = refl
  each extra a (l ∷ ls) =
      ap (λ cs. map (gone_back_to x.image x.settings (returned n.context.proc l.parent l.off extra a)) cs ++ flat_map (returned_by x.image x.settings all n extra a) ls) (back l)
      ∙ ap (λ ps. map (gone_back_to x.image x.settings (returned n.context.proc l.parent l.off extra a)) (filter (goes_back_to x.image x.settings few n l) few.placed) ++ ps) (each extra a ls)

  each_of : (extra : ℕ) (a : AbsState) → returned_each x.image x.settings all n extra a ≡ returned_each x.image x.settings few n extra a
  each_of extra a = each extra a (young_links n.context.proc a.links)

  by_extern : (k : Kind) (a : AbsState) → extern_successors x.image x.settings all n k a ≡ extern_successors x.image x.settings few n k a
  unfolding extern_successors
  by_extern kind.Stop a = refl
  by_extern k a = ap (λ ps. if is_at_slot n.context.proc a then ps else []) (each_of 0 (answered (view_of a x.cells n.context.proc) x.image (block_key x.lane n) k))

  by_ret : (extra : ℕ) (a : AbsState) → returned_from x.image x.settings all n extra a ≡ returned_from x.image x.settings few n extra a
  by_ret extra a = ap (λ ps. if is_at_slot n.context.proc a && not (takes_too_much n.context.proc extra a) then ps else []) (each_of extra a)

  other_op : (others : List (Node × Table)) (o : Op) (i : Instr) (a : AbsState) → is_ret o ≡ false
      → instruction_successors o x.image x.settings all n i a ≡ instruction_successors o x.image x.settings (states_of x others) n i a
  unfolding instruction_successors
  other_op others op.Add i a other = refl
  other_op others op.Or i a other = refl
  other_op others op.Adc i a other = refl
  other_op others op.Sbb i a other = refl
  other_op others op.And i a other = refl
  other_op others op.Sub i a other = refl
  other_op others op.Xor i a other = refl
  other_op others op.Cmp i a other = refl
  other_op others op.Mov i a other = refl
  other_op others op.Lea i a other = refl
  other_op others op.Push i a other = refl
  other_op others op.Pop i a other = refl
  other_op others op.Xchg i a other = refl
  other_op others op.Test i a other = refl
  other_op others op.Inc i a other = refl
  other_op others op.Dec i a other = refl
  other_op others op.Not i a other = refl
  other_op others op.Neg i a other = refl
  other_op others op.Mul i a other = refl
  other_op others op.Imul i a other = refl
  other_op others op.Shl i a other = refl
  other_op others op.Shr i a other = refl
  other_op others op.Sar i a other = refl
  other_op others (op.Movzx w) i a other = refl
  other_op others (op.Movsx w) i a other = refl
  other_op others op.Cwde i a other = refl
  other_op others op.Cdq i a other = refl
  other_op others op.Leave i a other = refl
  other_op others (op.Setcc c) i a other = refl
  other_op others op.Call i a other = refl
  other_op others op.Jmp i a other = refl
  other_op others (op.Jcc c) i a other = refl
  other_op others op.Nop i a other = refl
  other_op others op.Endbr32 i a other = refl
  other_op others op.Hlt i a other = refl
  other_op others op.Int3 i a other = refl
  other_op others op.Ud2 i a other = refl
  other_op others (op.Cmov c) i a other = refl
  other_op others op.Rol i a other = refl
  other_op others op.Ror i a other = refl
  other_op others op.Div i a other = refl
  other_op others op.Idiv i a other = refl
  other_op others (op.Movs rep) i a other = refl
  other_op others (op.Stos rep) i a other = refl
  other_op others op.Cld i a other = refl
  other_op others op.Std i a other = refl
  other_op others op.Ret i a other = absurd (true≢false other)

  ret_op : (o : Op) (i : Instr) (a : AbsState) → is_ret o ≡ true → instruction_successors o x.image x.settings all n i a ≡ instruction_successors o x.image x.settings few n i a
  unfolding instruction_successors
  ret_op op.Ret i a ret = by_ret (extra_of i.dst) a
  ret_op o i a ret = absurd (true≢false (sym ret))

  -- the calls that the node may return to, where this stands at it
  abbrev chosen : Content → List (Node × Table)
  chosen c = filter (λ e. returns_by c && near e) table

  by_content : (c : Content) (a : AbsState) → successors_by c x.image x.settings all n a ≡ successors_by c x.image x.settings (states_of x (chosen c)) n a
  unfolding successors_by extern_successors
  by_content (Extern kind.Stop) a = refl
  by_content (Extern k) a = by_extern k a
  by_content (Instruction i) a = by (is_ret i.op) refl
    where
      by : (t : Bool) → is_ret i.op ≡ t → instruction_successors i.op x.image x.settings all n i a ≡ instruction_successors i.op x.image x.settings (states_of x (chosen (Instruction i))) n i a
      by true ret = ret_op i.op i a ret ∙ ap (λ t. instruction_successors i.op x.image x.settings (states_of x (filter (λ e. t && near e) table)) n i a) (sym ret)
      by false other = other_op (filter (λ e. is_ret i.op && near e) table) i.op i a other
  by_content Nothing a = refl

  -- the nodes that a node's successors are made of are enough
  pub looks_near : (a : AbsState) → successors x.image x.settings all n a ≡ successors x.image x.settings (states_of x (filter (λ e. may_return_to x n e.0) table)) n a
  unfolding successors
  looks_near a = by_content (content_at x.image x.settings n.at) a
