-- The accesses of a node by what stands there.
use Rattle.std.proofs.Common.{◌≡◌, ℕ, Bool, true, false, cond, ◌&&◌, List, [], ◌∷◌, ◌++◌, map, refl, sym, ◌∙◌, ap, append_assoc}
use Rattle.std.specs.List.{flat_map}
use Rattle.abs_semantics.specs.States.{AbsState}
use Rattle.abs_steps.specs.declared.accesses.Access.{Access}
use Rattle.asi_cuts.specs.declared.facts.Constraint.{Constraint}
use Rattle.access_facts.specs.Facts.{copies, facts_at, facts_copied, facts_of_copies, facts_of_reach}
use Rattle.image_map.specs.declared.image.Image.{Image}
use Rattle.image_map.specs.declared.region.Kind.{Kind}
use Rattle.ia32_types.specs.declared.Instr.{Instr}
use Rattle.abs_steps.specs.Views.{View}
use Rattle.abs_steps.specs.Accesses.{accesses, reads, writes, extern_accesses, extern_reads, extern_writes}
use Rattle.abs_steps.specs.Places.{Extern, Instruction, Nothing, targets, followed}
use Rattle.abs_steps.specs.Successors.{is_call}
use Rattle.access_facts.specs.declared.reach.Reach.{Reach}
use Rattle.access_facts.specs.declared.reach.Reach.TheVariants.{Anywhere}
use Rattle.access_facts.specs.declared.node.NodeAccesses.{NodeAccesses}
use Rattle.access_facts.specs.NodeSets.{AreAccesses}
use Rattle.access_facts.specs.Reach.{reach, reaches}
use Rattle.access_facts.specs.Sets.{read_reaches, write_reaches, writes_surely, older_behind, reads_anything, slot_reach, has_one_target, writes_a_known_count, older_after}

by_test : {A : Type 0} (b t : Bool) (x y z : A) → b ≡ t → z ≡ cond t x y → z ≡ cond b x y
by_test b t x y z is e = e ∙ sym (ap (λ c. cond c x y) is)

-- an instruction that is no call, or a call that goes nowhere
pub plain_accesses : (image : Image) (v : View) (i : Instr) (goes_on : Bool) (n : NodeAccesses) → (is_call i.op && goes_on) ≡ false → n.reads.items ≡ reaches v (reads i.op v.state i) → n.writes.items ≡ reaches v (writes i.op v.state i)
    → n.is_sure ≡ writes_a_known_count v.state i → n.older.items ≡ v.state.older → AreAccesses image v (Instruction i) goes_on n
unfolding read_reaches write_reaches writes_surely older_behind
plain_accesses image v i goes_on n plain read written sure older =
    record {
      reads = read;
      writes = by_test (is_call i.op && goes_on) false (map slot_reach (followed image v i.dst)) (reaches v (writes i.op v.state i)) n.writes.items plain written;
      sure = by_test (is_call i.op && goes_on) false (has_one_target v i) (writes_a_known_count v.state i) n.is_sure plain sure;
      older = by_test (is_call i.op && goes_on) false (older_after v.state (targets v i.dst)) v.state.older n.older.items plain older;
    }

-- a call that goes on
pub call_accesses : (image : Image) (v : View) (i : Instr) (goes_on : Bool) (n : NodeAccesses) → (is_call i.op && goes_on) ≡ true → n.reads.items ≡ reaches v (reads i.op v.state i) → n.writes.items ≡ map slot_reach (followed image v i.dst)
    → n.is_sure ≡ has_one_target v i → n.older.items ≡ older_after v.state (targets v i.dst) → AreAccesses image v (Instruction i) goes_on n
unfolding read_reaches write_reaches writes_surely older_behind
call_accesses image v i goes_on n on read written sure older =
    record {
      reads = read;
      writes = by_test (is_call i.op && goes_on) true (map slot_reach (followed image v i.dst)) (reaches v (writes i.op v.state i)) n.writes.items on written;
      sure = by_test (is_call i.op && goes_on) true (has_one_target v i) (writes_a_known_count v.state i) n.is_sure on sure;
      older = by_test (is_call i.op && goes_on) true (older_after v.state (targets v i.dst)) v.state.older n.older.items on older;
    }

pub extern_accesses_are : (image : Image) (v : View) (k : Kind) (goes_on : Bool) (n : NodeAccesses) → n.reads.items ≡ cond (reads_anything (Extern k)) (Anywhere ∷ []) [] ++ reaches v (extern_reads v.state k) → n.writes.items ≡ reaches v (extern_writes v k)
    → n.is_sure ≡ false → n.older.items ≡ v.state.older → AreAccesses image v (Extern k) goes_on n
unfolding read_reaches write_reaches writes_surely older_behind
extern_accesses_are image v k goes_on n read written sure older = record { reads = read; writes = written; sure = sure; older = older }

pub no_accesses : (image : Image) (v : View) (goes_on : Bool) (n : NodeAccesses) → n.reads.items ≡ [] → n.writes.items ≡ [] → n.is_sure ≡ false → n.older.items ≡ v.state.older → AreAccesses image v Nothing goes_on n
unfolding read_reaches write_reaches writes_surely older_behind
no_accesses image v goes_on n read written sure older = record { reads = read; writes = written; sure = sure; older = older }

-- -- Lists of accesses

pub list_reached : (a : AbsState) (p : ℕ) (v : View) (xs ys : List Access) (rs : List Reach) → (v.state ≡ a) × (v.procedure ≡ p) → xs ≡ ys → rs ≡ map (reach a p) xs → rs ≡ reaches v ys
list_reached a p v xs ys rs is same e =
    e ∙ ap (map (reach a p)) same ∙ sym (ap (λ (b : AbsState). map (reach b p) ys) is.0) ∙ sym (ap (λ q. map (reach v.state q) ys) is.1)

-- -- Facts

flat_both : {A B : Type 0} (f : A → List B) (xs ys : List A) → flat_map f (xs ++ ys) ≡ flat_map f xs ++ flat_map f ys
flat_both f [] ys = refl
flat_both f (x ∷ xs) ys = ap (λ t. f x ++ t) (flat_both f xs ys) ∙ sym (append_assoc (f x) (flat_map f xs) (flat_map f ys))

map_both : {A B : Type 0} (f : A → B) (xs ys : List A) → map f (xs ++ ys) ≡ map f xs ++ map f ys
map_both f [] ys = refl
map_both f (x ∷ xs) ys = ap (λ t. f x ∷ t) (map_both f xs ys)

two_facts : (v : View) (xs ys : List Access) (rs ws : List Reach) (old one two : List Constraint) → rs ≡ reaches v xs → ws ≡ reaches v ys → one ≡ old ++ flat_map facts_of_reach rs → two ≡ one ++ flat_map facts_of_reach ws
    → two ≡ old ++ flat_map facts_of_reach (reaches v (xs ++ ys))
two_facts v xs ys rs ws old one two read written first second =
    second ∙ ap (λ t. t ++ flat_map facts_of_reach ws) first ∙ append_assoc old (flat_map facts_of_reach rs) (flat_map facts_of_reach ws)
    ∙ ap (λ t. old ++ t)
    (ap (λ t. flat_map facts_of_reach t ++ flat_map facts_of_reach ws) read ∙ ap (λ t. flat_map facts_of_reach (reaches v xs) ++ flat_map facts_of_reach t) written
    ∙ sym (flat_both facts_of_reach (reaches v xs) (reaches v ys)) ∙ ap (flat_map facts_of_reach) (sym (map_both (reach v.state v.procedure) xs ys)))

pub extern_facts : (v : View) (k : Kind) (rs ws : List Reach) (old one two : List Constraint) → rs ≡ reaches v (extern_reads v.state k) → ws ≡ reaches v (extern_writes v k) → one ≡ old ++ flat_map facts_of_reach rs
    → two ≡ one ++ flat_map facts_of_reach ws → two ≡ old ++ facts_at v (Extern k)
unfolding facts_at extern_accesses
extern_facts v k rs ws old one two read written first second = two_facts v (extern_reads v.state k) (extern_writes v k) rs ws old one two read written first second

-- a copy says more
copied_facts : (v : View) (i : Instr) (b : Bool) (rs ws : List Reach) (two all : List Constraint) → copies i.op v.state i.width ≡ b → rs ≡ reaches v (reads i.op v.state i) → ws ≡ reaches v (writes i.op v.state i)
    → all ≡ two ++ cond b (facts_of_copies rs ws) [] → all ≡ two ++ facts_copied v i
copied_facts v i b rs ws two all is read written put =
    put ∙ ap (λ t. two ++ cond b (facts_of_copies t ws) []) read ∙ ap (λ t. two ++ cond b (facts_of_copies (reaches v (reads i.op v.state i)) t) []) written
    ∙ sym (ap (λ c. two ++ cond c (facts_of_copies (reaches v (reads i.op v.state i)) (reaches v (writes i.op v.state i))) []) is)

pub instruction_facts : (v : View) (a : AbsState) (i : Instr) (b : Bool) (rs ws : List Reach) (old one two all : List Constraint) → v.state ≡ a → rs ≡ reaches v (reads i.op v.state i) → ws ≡ reaches v (writes i.op v.state i)
    → one ≡ old ++ flat_map facts_of_reach rs → two ≡ one ++ flat_map facts_of_reach ws → b ≡ copies i.op a i.width → all ≡ two ++ cond b (facts_of_copies rs ws) [] → all ≡ old ++ facts_at v (Instruction i)
unfolding facts_at accesses
instruction_facts v a i b rs ws old one two all same read written first second is put =
    copied_facts v i b rs ws two all (ap (λ (s : AbsState). copies i.op s i.width) same ∙ sym is) read written put
    ∙ ap (λ t. t ++ facts_copied v i) (two_facts v (reads i.op v.state i) (writes i.op v.state i) rs ws old one two read written first second)
    ∙ append_assoc old (flat_map facts_of_reach (reaches v (reads i.op v.state i ++ writes i.op v.state i))) (facts_copied v i)
