-- A program has one run with given words of choice, whichever of two images of it is run that show the same.
use Rattle.std.proofs.Common.{◌≡◌, inl, inr, ℕ, zero, suc, ◌-◌, ◌<◌, List, [], ◌∷◌, ◌++◌, length, take, drop, replicate, refl, sym, ap, ◌∙◌, subst, length-append, arith}
use Rattle.std.specs.Prelude.{Bool, true, false, not, ◌&&◌, ◌||◌, if◌then◌else◌, slice_get, slice_index, Some, None, is_some}
use Rattle.std.proofs.lemmas.Bool.{false≢true}
use Rattle.std.proofs.lemmas.Option.{none-some, same_Some}
use mathlib.Core.Path.{fun_ext}
use Rattle.image_map.specs.declared.image.Image.{Image}
use Rattle.image_map.specs.declared.region.Kind.TheVariants as kind
use Rattle.image_map.specs.declared.region.Settings.{Settings}
use Rattle.image_map.specs.Names.{extern_number}
use Rattle.image_map.specs.Queries.{byte_at, is_in_segment, is_writable}
use Rattle.image_map.specs.Whole.{IsImage}
use Rattle.ia32_types.specs.Spells.{Spells}
use Rattle.ia32_semantics.specs.State.{State, Bytes, Location}
use Rattle.ia32_semantics.specs.Machine.{Occurrence}
use Rattle.ia32_semantics.specs.Dependence.{DataDependence}
use Rattle.ia32_semantics.specs.Fetch.{code_run}
use Rattle.ia32_semantics.specs.Reading.{outcome}
use Rattle.ia32_semantics.specs.Effects.{Effect, sets, turns, stores, copies, is_open, is_mapped, all_among, all_of_bytes, effects_fit, byte_or_zero}
use Rattle.ia32_semantics.specs.Outcome.{Outcome, made, is_possible, can_move}
use Rattle.ia32_semantics.specs.Outcome as out
use Rattle.ia32_semantics.specs.Step.{Act, Executes, Answers, IsActAt, act_row, completes}
use Rattle.ia32_semantics.specs.Ia32.{machine}
use Rattle.ia32_semantics.proofs.EffectLemmas.{by_test}
use Rattle.ia32_semantics.proofs.ActLaws.{acts_are}
use Rattle.ia32_memory.specs.Changes.{with_bytes}
use Rattle.ia32_machine.specs.Machines.{start_state}
use Rattle.ia32_machine.proofs.WordLemmas.{more_words}
use Rattle.ia32_run.specs.declared.log.Occurrence.{Occurrence as Told}
use Rattle.ia32_run.specs.declared.log.RunLog.{RunLog}
use Rattle.ia32_run.specs.declared.log.Finish.{Finish}
use Rattle.ia32_run.specs.Choices.{Spreads, Makes, base_given, fill_byte}
use Rattle.ia32_run.specs.Steps.{occurrence}
use Rattle.ia32_run.specs.Traces.{finish_of, Goes, ListsDirect, TellsRun, IsTrace}
use Rattle.ia32_run.proofs.FillLemmas.{same_front}
use Rattle.ia32_run.proofs.RisingLists.{same_rising}
use Rattle.ia32_run.proofs.SettledLemmas.{settled}

-- two images that show the same
pub record ShowSame (i j : Image) : Type 0 where
  pub code : (a n : ℕ) → code_run i a n ≡ code_run j a n
  pub bytes : (a : ℕ) → byte_at i a ≡ byte_at j a
  pub segments : (a : ℕ) → is_in_segment i a ≡ is_in_segment j a
  pub writable : (a : ℕ) → is_writable i a ≡ is_writable j a
  pub externs : length i.externs ≡ length j.externs

-- -- What is a step of one is a step of the other

moved_act : (i j : Image) (settings : Settings) (a : ℕ) (act : Act) → ShowSame i j → IsActAt i settings a act → IsActAt j settings a act
moved_act i j settings a (Executes x) same f = record { count = f.count; spelled = subst (λ (w : List ℕ). Spells (take f.count w) a x) (same.code a 15) f.spelled }
moved_act i j settings a (Answers at k) same e = (e.0, record { number = e.1.number; stands = ap (λ n. extern_number n a) (sym same.externs) ∙ e.1.stands; kind = e.1.kind })

open_alike : (i j : Image) → ShowSame i j → (m : Bytes) → is_open i m ≡ is_open j m
open_alike i j same m = fun_ext (λ a. ap (λ b. is_some (m a) && (not b || is_writable i a)) (same.segments a) ∙ ap (λ b. is_some (m a) && (not (is_in_segment j a) || b)) (same.writable a))

fit_alike : (i j : Image) → ShowSame i j → (m : Bytes) (es : List Effect) → effects_fit i m es ≡ effects_fit j m es
fit_alike i j same m [] = refl
fit_alike i j same m (sets part n value ∷ es) = fit_alike i j same m es
fit_alike i j same m (turns n value ∷ es) = fit_alike i j same m es
fit_alike i j same m (stores a bytes ∷ es) = ap (λ f. all_of_bytes f a bytes && effects_fit i m es) (open_alike i j same m) ∙ ap (λ b. all_of_bytes (is_open j m) a bytes && b) (fit_alike i j same m es)
fit_alike i j same m (copies to from n ∷ es) =
    ap (λ f. (all_among (is_mapped m) from n && all_among f to n) && effects_fit i m es) (open_alike i j same m)
    ∙ ap (λ b. (all_among (is_mapped m) from n && all_among (is_open j m) to n) && b) (fit_alike i j same m es)

moved_makes : (i j : Image) (settings : Settings) (words left : List ℕ) (o : Occurrence Act) → ShowSame i j → Makes i settings words left o → Makes j settings words left o
moved_makes i j settings words left o same m =
    let st = m.happens.step in
    record {
      happens = record {
        act = moved_act i j settings o.before.eip o.act same m.happens.act;
        step = record {
          done = st.done;
          row = st.row;
          possible = ap (λ b. b && can_move st.done.calls o.before.activations) (sym (fit_alike i j same o.before.memory st.done.effects)) ∙ st.possible;
          given = st.given;
          after = st.after;
          memory = st.memory;
        };
      };
      spread = m.spread;
      zeros = m.zeros;
    }

swapped : (i j : Image) → ShowSame i j → ShowSame j i
swapped i j same = record {
  code = λ a n. sym (same.code a n);
  bytes = λ a. sym (same.bytes a);
  segments = λ a. sym (same.segments a);
  writable = λ a. sym (same.writable a);
  externs = sym same.externs;
}

moved_goes : (i j : Image) (settings : Settings) (most : ℕ) (s : State) (words : List ℕ) (run : List (Occurrence Act)) (end : Finish) → ShowSame i j → Goes i settings most s words run end → Goes j settings most s words run end
moved_goes i j settings most s words [] end same (inl full) = inl full
moved_goes i j settings most s words [] end same (inr (some, is, none)) = inr (some, is, (none.0, λ left o before makes. none.1 left o before (moved_makes j i settings words left o (swapped i j same) makes)))
moved_goes i j settings most s words (o ∷ rest) end same (some, is, left, makes, inl done) = (some, is, left, moved_makes i j settings words left o same makes, inl done)
moved_goes i j settings most s words (o ∷ rest) end same (some, is, left, makes, inr (on, goes)) =
    (some, is, left, moved_makes i j settings words left o same makes, inr (on, moved_goes i j settings (most - 1) o.after left rest end same goes))

moved_depends : (i j : Image) (settings : Settings) (skip_sp : Bool) (run : List (Occurrence Act)) (l : Location) (a b : ℕ) → DataDependence (machine i settings) skip_sp run l a b → DataDependence (machine j settings) skip_sp run l a b
moved_depends i j settings skip_sp run l a b d = record {
  earlier = d.earlier;
  reader = d.reader;
  writer = d.writer;
  reader_is = d.reader_is;
  writer_is = d.writer_is;
  reads = d.reads;
  writes = d.writes;
  kept = d.kept;
  last = d.last;
}

moved_lists : (i j : Image) (settings : Settings) (skip_sp : Bool) (run : List (Occurrence Act)) (k : ℕ) (steps : List ℕ) → ListsDirect i settings skip_sp run k steps → ListsDirect j settings skip_sp run k steps
moved_lists i j settings skip_sp run k steps lists = record {
  rising = lists.rising;
  all = λ n. (
    (λ c. let d = (lists.all n).0 c in (d.0, moved_depends i j settings skip_sp run d.0 k n d.1)),
    (λ d. (lists.all n).1 (d.0, moved_depends j i settings skip_sp run d.0 k n d.1)),
  );
}

-- -- One step

-- lists with one end have one front
pub cut_end : (xs ys zs : List ℕ) → xs ++ zs ≡ ys ++ zs → xs ≡ ys
cut_end xs ys zs e =
    let one = length-append xs zs in let two = length-append ys zs in let long : length (xs ++ zs) ≡ length (ys ++ zs) = ap length e in
    same_front xs ys zs zs (omega arith) e

after_front : (xs ys zs ws : List ℕ) → xs ≡ ys → xs ++ zs ≡ ys ++ ws → zs ≡ ws
after_front xs ys zs ws same e = cut_front xs zs ws (e ∙ ap (λ l. l ++ ws) (sym same))
  where
    cut_front : (xs zs ws : List ℕ) → xs ++ zs ≡ xs ++ ws → zs ≡ ws
    cut_front [] zs ws e = e
    cut_front (x ∷ xs) zs ws e = cut_front xs zs ws (ap (drop 1) e)

record OneSpread (choices more left rest : List ℕ) : Type 0 where
  choices_are : choices ≡ more
  left_is : left ≡ rest

taken_alike : (act : Act) (s : State) (words left rest choices more : List ℕ) (done other : Outcome) → words ≡ choices ++ left → words ≡ more ++ rest
    → outcome (act_row act) s choices ≡ Some (done, []) → outcome (act_row act) s more ≡ Some (other, []) → OneSpread choices more left rest
taken_alike act s words left rest choices more done other p q row also =
    let one : outcome (act_row act) s words ≡ Some (done, left) = ap (outcome (act_row act) s) p ∙ more_words (act_row act) s choices left [] done row in
    let two : outcome (act_row act) s words ≡ Some (other, rest) = ap (outcome (act_row act) s) q ∙ more_words (act_row act) s more rest [] other also in
    let same : left ≡ rest = ap (λ (r : Outcome × List ℕ). r.1) (same_Some (done, left) (other, rest) (sym one ∙ two)) in
    record { choices_are = cut_end choices more left (sym p ∙ q ∙ ap (λ l. more ++ l) (sym same)); left_is = same }

seven_alike : (first second : ℕ) (others more left rest words : List ℕ) → length others ≡ 7 → length more ≡ 7 → words ≡ (first ∷ others) ++ left → words ≡ (second ∷ more) ++ rest
    → ((first ∷ others) ≡ (second ∷ more)) × (left ≡ rest)
seven_alike first second others more left rest words seven eight p q =
    let front = same_front (first ∷ others) (second ∷ more) left rest (ap (λ n. suc n) (seven ∙ sym eight)) (sym p ∙ q) in
    (front, after_front (first ∷ others) (second ∷ more) left rest front (sym p ∙ q))

one_spread : (act : Act) (s : State) (words left rest choices more : List ℕ) (done other : Outcome) → Spreads act s words left choices → Spreads act s words rest more
    → outcome (act_row act) s choices ≡ Some (done, []) → outcome (act_row act) s more ≡ Some (other, []) → OneSpread choices more left rest
one_spread (Executes i) s words left rest choices more done other p q row also = taken_alike (Executes i) s words left rest choices more done other p q row also
one_spread (Answers at (kind.Pure n)) s words left rest choices more done other p q row also = taken_alike (Answers at (kind.Pure n)) s words left rest choices more done other p q row also
one_spread (Answers at (kind.Reader n)) s words left rest choices more done other p q row also = taken_alike (Answers at (kind.Reader n)) s words left rest choices more done other p q row also
one_spread (Answers at kind.Stop) s words left rest choices more done other p q row also = taken_alike (Answers at kind.Stop) s words left rest choices more done other p q row also
one_spread (Answers at kind.Unknown) s words left rest choices more done other p q row also = taken_alike (Answers at kind.Unknown) s words left rest choices more done other p q row also
one_spread (Answers at kind.Alloc) s words left rest choices more done other (first, others, size, is_size, seven, are, spread) (second, later, length_, is_length, eight, also_are, also_spread) row also =
    let both = seven_alike first second others later left rest words seven eight are also_are in
    let same : size ≡ length_ = same_Some size length_ (sym is_size ∙ is_length) in
    record {
      choices_are = spread ∙ ap (λ (l : List ℕ). base_given s.blocks (slice_index l 0) size ∷ drop 1 l) both.0 ∙ ap (λ n. base_given s.blocks second n ∷ later) same ∙ sym also_spread;
      left_is = both.1;
    }
one_spread (Answers at (kind.Fills buffer len)) s words left rest choices more done other (first, others, count, is_count, seven, are, spread) (second, later, number, is_number, eight, also_are, also_spread) row also =
    let both = seven_alike first second others later left rest words seven eight are also_are in
    let same : count ≡ number = same_Some count number (sym is_count ∙ is_number) in
    record {
      choices_are = spread ∙ ap (λ (l : List ℕ). l ++ (count ∷ replicate count (fill_byte (slice_index l 0)))) both.0 ∙ ap (λ n. (second ∷ later) ++ (n ∷ replicate n (fill_byte second))) same ∙ sym also_spread;
      left_is = both.1;
    }

-- the state after a step follows from its outcome
after_settled : (i : Image) (settings : Settings) (words left : List ℕ) (o : Occurrence Act) → (m : Makes i settings words left o) → o.after ≡ settled m.happens.step.done o.before
after_settled i settings words left o m =
    let st = m.happens.step in
    st.after ∙ ap (λ memory. record (made st.done o.before) { memory = memory })
    (fun_ext (λ a. by_test (out.is_any st.done o.before a)
    (λ any. m.zeros a any ∙ sym (ap (λ b. if b then Some 0 else (made st.done o.before).memory a) any))
    (λ bound. st.memory.others a bound ∙ sym (ap (λ b. if b then Some 0 else (made st.done o.before).memory a) bound))))

pub record OneMake (o p : Occurrence Act) (left rest : List ℕ) : Type 0 where
  pub same : o ≡ p
  pub left_is : left ≡ rest

same_occurrence : (before before_ after after_ : State) (act act_ : Act) (choices choices_ : List ℕ) → before ≡ before_ → act ≡ act_ → choices ≡ choices_ → after ≡ after_
    → occurrence act choices before after ≡ occurrence act_ choices_ before_ after_
same_occurrence before before_ after after_ act act_ choices choices_ b a c d =
    ap (λ x. occurrence x choices before after) a ∙ ap (λ x. occurrence act_ x before after) c ∙ ap (λ x. occurrence act_ choices_ x after) b ∙ ap (λ x. occurrence act_ choices_ before_ x) d

pub one_make : (i : Image) (settings : Settings) (words left rest : List ℕ) (o p : Occurrence Act) → IsImage i → Makes i settings words left o → Makes i settings words rest p → o.before ≡ p.before → OneMake o p left rest
one_make i settings words left rest o p whole m n start =
    let act : o.act ≡ p.act = acts_are i settings p.before.eip o.act p.act whole (subst (λ (s : State). IsActAt i settings s.eip o.act) start m.happens.act) n.happens.act in
    let row : outcome (act_row p.act) p.before o.choices ≡ Some (m.happens.step.done, [])
    = subst (λ (s : State). outcome (act_row p.act) s o.choices ≡ Some (m.happens.step.done, [])) start
    (subst (λ a. outcome (act_row a) o.before o.choices ≡ Some (m.happens.step.done, [])) act m.happens.step.row) in
    let spread : Spreads p.act p.before words left o.choices
    = subst (λ (s : State). Spreads p.act s words left o.choices) start (subst (λ a. Spreads a o.before words left o.choices) act m.spread) in
    let one = one_spread p.act p.before words left rest o.choices p.choices m.happens.step.done n.happens.step.done spread n.spread row n.happens.step.row in
    let done : m.happens.step.done ≡ n.happens.step.done
    = ap (λ (r : Outcome × List ℕ). r.0) (same_Some (m.happens.step.done, []) (n.happens.step.done, []) (sym row ∙ ap (outcome (act_row p.act) p.before) one.choices_are ∙ n.happens.step.row)) in
    let after : o.after ≡ p.after
    = after_settled i settings words left o m ∙ ap (λ s. settled m.happens.step.done s) start ∙ ap (λ d. settled d p.before) done ∙ sym (after_settled i settings words rest p n) in
    record { same = same_occurrence o.before p.before o.after p.after o.act p.act o.choices p.choices start act one.choices_are after; left_is = one.left_is }

-- -- One run

record OneGo (run other : List (Occurrence Act)) (end finish_ : Finish) : Type 0 where
  same : run ≡ other
  end_is : end ≡ finish_

one_go : (i : Image) (settings : Settings) (most : ℕ) (s : State) (words : List ℕ) (run other : List (Occurrence Act)) (end finish_ : Finish) → IsImage i → Goes i settings most s words run end → Goes i settings most s words other finish_
    → OneGo run other end finish_
one_go i settings most s words [] [] end finish_ whole (inl p) (inl q) = record { same = refl; end_is = p.1 ∙ sym q.1 }
one_go i settings most s words [] [] end finish_ whole (inl p) (inr q) = absurd (let a = p.0 in let b = q.0 in omega arith)
one_go i settings most s words [] [] end finish_ whole (inr p) (inl q) = absurd (let a = p.0 in let b = q.0 in omega arith)
one_go i settings most s words [] [] end finish_ whole (inr p) (inr q) = record { same = refl; end_is = p.1 ∙ sym q.1 }
one_go i settings most s words [] (o ∷ rest) end finish_ whole (inl p) q = absurd (let a = p.0 in let b = q.0 in omega arith)
one_go i settings most s words [] (o ∷ rest) end finish_ whole (inr (some, is, none)) (more, before, left, makes, on) = absurd (none.1 left o before makes)
one_go i settings most s words (o ∷ rest) [] end finish_ whole p (inl q) = absurd (let a = p.0 in let b = q.0 in omega arith)
one_go i settings most s words (o ∷ rest) [] end finish_ whole (more, before, left, makes, on) (inr (some, is, none)) = absurd (none.1 left o before makes)
one_go i settings most s words (o ∷ rest) (p ∷ later) end finish_ whole (some, before, left, makes, inl (done, none, ends)) (more, start, left_, also, inl (done_, none_, ends_)) =
    let one = one_make i settings words left left_ o p whole makes also (before ∙ sym start) in
    record {
      same = ap (λ l. o ∷ l) (none ∙ sym none_) ∙ ap (λ q. q ∷ later) one.same;
      end_is = ends ∙ ap (λ (q : Occurrence Act). finish_of q.act) one.same ∙ sym ends_;
    }
one_go i settings most s words (o ∷ rest) (p ∷ later) end finish_ whole (some, before, left, makes, inl (done, none, ends)) (more, start, left_, also, inr (on, goes)) =
    absurd (let one = one_make i settings words left left_ o p whole makes also (before ∙ sym start) in false≢true (sym on ∙ sym (ap (λ (q : Occurrence Act). completes q) one.same) ∙ done))
one_go i settings most s words (o ∷ rest) (p ∷ later) end finish_ whole (some, before, left, makes, inr (on, goes)) (more, start, left_, also, inl (done, none, ends)) =
    absurd (let one = one_make i settings words left left_ o p whole makes also (before ∙ sym start) in false≢true (sym on ∙ ap (λ (q : Occurrence Act). completes q) one.same ∙ done))
one_go i settings most s words (o ∷ rest) (p ∷ later) end finish_ whole (some, before, left, makes, inr (on, goes)) (more, start, left_, also, inr (on_, goes_)) =
    let one = one_make i settings words left left_ o p whole makes also (before ∙ sym start) in
    let after : p.after ≡ o.after = ap (λ (q : Occurrence Act). q.after) (sym one.same) in
    let rest_ = one_go i settings (most - 1) o.after left rest later end finish_ whole goes
    (subst (λ (t : State). Goes i settings (most - 1) t left later finish_) after (subst (λ l. Goes i settings (most - 1) p.after l later finish_) (sym one.left_is) goes_)) in
    record { same = ap (λ l. o ∷ l) rest_.same ∙ ap (λ q. q ∷ later) one.same; end_is = rest_.end_is }

-- -- What is told of it

lists_alike : (i : Image) (settings : Settings) (skip_sp : Bool) (run : List (Occurrence Act)) (k : ℕ) (xs ys : List ℕ) → ListsDirect i settings skip_sp run k xs → ListsDirect i settings skip_sp run k ys → xs ≡ ys
lists_alike i settings skip_sp run k xs ys p q = same_rising xs ys p.rising q.rising (λ a c. (q.all a).1 ((p.all a).0 c)) (λ a c. (p.all a).1 ((q.all a).0 c))

same_told : (t u : Told) → t.at ≡ u.at → t.depends ≡ u.depends → t.depends_skip ≡ u.depends_skip → t ≡ u
same_told t u at depends skip =
    ap (λ x. record t { at = x }) at ∙ ap (λ x. record t { at = u.at; depends = x }) depends ∙ ap (λ x. record t { at = u.at; depends = u.depends; depends_skip = x }) skip

list_alike : {A : Type 0} (xs ys : List A) → length xs ≡ length ys → ((k : ℕ) (x y : A) → slice_get xs k ≡ Some x → slice_get ys k ≡ Some y → x ≡ y) → xs ≡ ys
list_alike [] [] long same = refl
list_alike [] (y ∷ ys) long same = absurd (omega arith)
list_alike (x ∷ xs) [] long same = absurd (omega arith)
list_alike (x ∷ xs) (y ∷ ys) long same = ap (λ z. z ∷ xs) (same 0 x y refl refl) ∙ ap (λ l. y ∷ l) (list_alike xs ys (omega arith) (λ k a b p q. same (suc k) a b p q))

pub some_at : {A : Type 0} (xs : List A) (k : ℕ) → k < length xs → (x : A) × (slice_get xs k ≡ Some x)
some_at [] k lt = absurd (omega arith)
some_at (x ∷ xs) zero lt = (x, refl)
some_at (x ∷ xs) (suc k) lt = some_at xs k (omega arith)

in_range : {A : Type 0} (xs : List A) (k : ℕ) (x : A) → slice_get xs k ≡ Some x → k < length xs
in_range [] k x e = absurd (none-some x e)
in_range (y ∷ xs) zero x e = omega arith
in_range (y ∷ xs) (suc k) x e = let lt = in_range xs k x e in omega arith

told_alike : (i : Image) (settings : Settings) (run : List (Occurrence Act)) (ts us : List Told) → TellsRun i settings run ts → TellsRun i settings run us → ts ≡ us
told_alike i settings run ts us p q =
    list_alike ts us (p.long ∙ sym q.long) (λ k t u is_t is_u.
    let lt = in_range ts k t is_t in
    let long = p.long in
    let o = some_at run k (omega arith) in
    let one = p.each k o.0 t o.1 is_t in
    let two = q.each k o.0 u o.1 is_u in
    same_told t u (one.at ∙ sym two.at) (lists_alike i settings false run k t.depends u.depends one.depends two.depends) (lists_alike i settings true run k t.depends_skip u.depends_skip one.depends_skip two.depends_skip))

starts_alike : (i j : Image) (settings : Settings) (words : List ℕ) → ShowSame i j → start_state i settings words ≡ start_state j settings words
starts_alike i j settings words same =
    ap (λ (m : Bytes). record (start_state i settings words) { memory = with_bytes m 0xBFF0000C (0 ∷ 0 ∷ 255 ∷ 255 ∷ []) })
    (fun_ext (λ a. ap (λ b. if out.is_in_stack 0xBFF0000C a then Some 0 else (if b then Some (byte_or_zero (byte_at i a)) else None)) (same.segments a)
    ∙ ap (λ o. if out.is_in_stack 0xBFF0000C a then Some 0 else (if is_in_segment j a then Some (byte_or_zero o) else None)) (same.bytes a)))

moved_tells : (i j : Image) (settings : Settings) (run : List (Occurrence Act)) (ts : List Told) → TellsRun i settings run ts → TellsRun j settings run ts
moved_tells i j settings run ts p = record {
  long = p.long;
  each = λ k o t is_o is_t. let one = p.each k o t is_o is_t in record {
    at = one.at;
    depends = moved_lists i j settings false run k t.depends one.depends;
    depends_skip = moved_lists i j settings true run k t.depends_skip one.depends_skip;
  };
}

-- a program has one trace
pub one_trace : (i j : Image) (settings : Settings) (words : List ℕ) (most : ℕ) (log other : RunLog) → IsImage i → ShowSame i j → IsTrace i settings words most log → IsTrace j settings words most other → log ≡ other
one_trace i j settings words most log other whole same p q =
    let goes : Goes i settings most (start_state i settings words) (drop 12 words) q.run other.finish
    = subst (λ s. Goes i settings most s (drop 12 words) q.run other.finish) (sym (starts_alike i j settings words same)) (moved_goes j i settings most (start_state j settings words) (drop 12 words) q.run other.finish (swapped i j same) q.goes) in
    let one = one_go i settings most (start_state i settings words) (drop 12 words) p.run q.run log.finish other.finish whole p.goes goes in
    let steps : log.steps ≡ other.steps
    = told_alike i settings q.run log.steps other.steps (subst (λ r. TellsRun i settings r log.steps) one.same p.tells) (moved_tells j i settings q.run other.steps q.tells) in
    ap (λ x. record log { steps = x }) steps ∙ ap (λ x. record log { steps = other.steps; finish = x }) one.end_is
