-- What an occurrence depends on directly by data are the last writers of what it reads.
use Rattle.std.proofs.Common.{◌≡◌, ◌⊎◌, inl, inr, ⊎_elim, ℕ, zero, suc, ◌+◌, ◌<◌, List, [], ◌∷◌, ◌++◌, length, take, refl, sym, ap, ◌∙◌, arith}
use Rattle.std.specs.Prelude.{Bool, true, false, ◌&&◌, if◌then◌else◌, Option, Some, None, slice_get}
use Rattle.std.proofs.lemmas.Bool.{false≢true}
use Rattle.std.proofs.lemmas.Option.{none-some, same_Some}
use Rattle.ia32_semantics.specs.State.{Location, is_location}
use Rattle.ia32_semantics.specs.Machine.{Occurrence}
use Rattle.ia32_semantics.specs.Step.{Act, reads, writes, forgets}
use Rattle.image_map.specs.declared.image.Image.{Image}
use Rattle.image_map.specs.declared.region.Settings.{Settings}
use Rattle.ia32_semantics.specs.Dependence.{DataDependence}
use Rattle.ia32_semantics.specs.Ia32.{machine}
use Rattle.ia32_semantics.proofs.EffectLemmas.{by_test, and_left, and_right}
use Rattle.ia32_run.specs.LastWrites.{next_writer, writer_after, last_writer, ReadsFrom, SourcesAreDependences}

-- one occurrence more
pub writer_more : (k : ℕ) (before : Option ℕ) (run : List (Occurrence Act)) (o : Occurrence Act) (l : Location)
    → writer_after k before (run ++ o ∷ []) l ≡ next_writer (k + length run) (writer_after k before run l) o l
writer_more k before [] o l = let none : k ≡ k + 0 = omega arith in ap (λ n. next_writer n before o l) none
writer_more k before (p ∷ run) o l =
    let more : k + 1 + length run ≡ k + suc (length run) = omega arith in
    writer_more (k + 1) (next_writer k before p l) run o l ∙ ap (λ n. next_writer n (writer_after (k + 1) (next_writer k before p l) run l) o l) more

pub last_more : (run : List (Occurrence Act)) (o : Occurrence Act) (l : Location) → last_writer (run ++ o ∷ []) l ≡ next_writer (length run) (last_writer run l) o l
last_more run o l = let none : 0 + length run ≡ length run = omega arith in writer_more 0 None run o l ∙ ap (λ n. next_writer n (last_writer run l) o l) none

-- no occurrence writes or forgets the location
abbrev pub IsLeft : List (Occurrence Act) → Location → Type 0
IsLeft run l = (d : ℕ) (o : Occurrence Act) → slice_get run d ≡ Some o → (writes o l ≡ false) × (forgets o l ≡ false)

-- occurrence d of some writes the location, and none forgets it from then on nor writes it later
pub record IsLast (run : List (Occurrence Act)) (l : Location) (d : ℕ) : Type 0 where
  pub writer : Occurrence Act
  pub is_there : slice_get run d ≡ Some writer
  pub writes_it : writes writer l ≡ true
  pub keeps_it : forgets writer l ≡ false
  pub later : (e : ℕ) (o : Occurrence Act) → d < e → slice_get run e ≡ Some o → (writes o l ≡ false) × (forgets o l ≡ false)

-- -- From the map to the run

abbrev Found : ℕ → Option ℕ → List (Occurrence Act) → Location → ℕ → Type 0
Found k before run l i = ((before ≡ Some i) × IsLeft run l) ⊎ ((d : ℕ) × (i ≡ k + d) × IsLast run l d)

left_more : (p : Occurrence Act) (run : List (Occurrence Act)) (l : Location) → writes p l ≡ false → forgets p l ≡ false → IsLeft run l → IsLeft (p ∷ run) l
left_more p run l w f left zero o e = let same : p ≡ o = same_Some p o e in (ap (λ q. writes q l) (sym same) ∙ w, ap (λ q. forgets q l) (sym same) ∙ f)
left_more p run l w f left (suc d) o e = left d o e

later_more : (p : Occurrence Act) (run : List (Occurrence Act)) (l : Location) (d : ℕ) → IsLast run l d → IsLast (p ∷ run) l (suc d)
later_more p run l d last = record {
  writer = last.writer;
  is_there = last.is_there;
  writes_it = last.writes_it;
  keeps_it = last.keeps_it;
  later = later;
}
  where
    later : (e : ℕ) (o : Occurrence Act) → suc d < e → slice_get (p ∷ run) e ≡ Some o → (writes o l ≡ false) × (forgets o l ≡ false)
    later zero o lt e = absurd (omega arith)
    later (suc n) o lt e = last.later n o (omega arith) e

first_last : (p : Occurrence Act) (run : List (Occurrence Act)) (l : Location) → writes p l ≡ true → forgets p l ≡ false → IsLeft run l → IsLast (p ∷ run) l 0
first_last p run l w f left = record {
  writer = p;
  is_there = refl;
  writes_it = w;
  keeps_it = f;
  later = later;
}
  where
    later : (e : ℕ) (o : Occurrence Act) → 0 < e → slice_get (p ∷ run) e ≡ Some o → (writes o l ≡ false) × (forgets o l ≡ false)
    later zero o lt e = absurd (omega arith)
    later (suc n) o lt e = left n o e

pub found : (k : ℕ) (before : Option ℕ) (run : List (Occurrence Act)) (l : Location) (i : ℕ) → writer_after k before run l ≡ Some i → Found k before run l i
found k before [] l i e = inl (e, λ d o none. absurd (none-some o none))
found k before (p ∷ run) l i e =
    ⊎_elim
    (λ both. by_test (forgets p l)
    (λ f. absurd (none-some i (sym (ap (λ b. if b then None else (if writes p l then Some k else before)) f) ∙ both.0)))
    (λ f. by_test (writes p l)
    (λ w.
    let is : k ≡ i = same_Some k i (sym (ap (λ b. if b then Some k else before) w) ∙ sym (ap (λ b. if b then None else (if writes p l then Some k else before)) f) ∙ both.0) in
    let none : i ≡ k + 0 = omega arith in
    inr (0, none, first_last p run l w f both.1))
    (λ w. inl (sym (ap (λ b. if b then Some k else before) w) ∙ sym (ap (λ b. if b then None else (if writes p l then Some k else before)) f) ∙ both.0, left_more p run l w f both.1))))
    (λ rest. let more : i ≡ k + suc rest.0 = omega arith in inr (suc rest.0, more, later_more p run l rest.0 rest.2))
    (found (k + 1) (next_writer k before p l) run l i e)

-- -- From the run to the map

pub kept : (k : ℕ) (before : Option ℕ) (run : List (Occurrence Act)) (l : Location) → IsLeft run l → writer_after k before run l ≡ before
kept k before [] l left = refl
kept k before (p ∷ run) l left =
    let here = left 0 p refl in
    kept (k + 1) (next_writer k before p l) run l (λ d o e. left (suc d) o e)
    ∙ ap (λ b. if b then None else (if writes p l then Some k else before)) here.1 ∙ ap (λ b. if b then Some k else before) here.0

pub written : (k : ℕ) (before : Option ℕ) (run : List (Occurrence Act)) (l : Location) (d : ℕ) → IsLast run l d → writer_after k before run l ≡ Some (k + d)
written k before [] l d last = absurd (none-some last.writer last.is_there)
written k before (p ∷ run) l zero last =
    let same : p ≡ last.writer = same_Some p last.writer last.is_there in
    let none : k ≡ k + 0 = omega arith in
    kept (k + 1) (next_writer k before p l) run l (λ d o e. last.later (suc d) o (omega arith) e)
    ∙ ap (λ b. if b then None else (if writes p l then Some k else before)) (ap (λ q. forgets q l) same ∙ last.keeps_it)
    ∙ ap (λ b. if b then Some k else before) (ap (λ q. writes q l) same ∙ last.writes_it) ∙ ap Some none
written k before (p ∷ run) l (suc d) last =
    let more : k + 1 + d ≡ k + suc d = omega arith in
    written (k + 1) (next_writer k before p l) run l d (record {
      writer = last.writer;
      is_there = last.is_there;
      writes_it = last.writes_it;
      keeps_it = last.keeps_it;
      later = λ e o lt is. last.later (suc e) o (omega arith) is;
    })
    ∙ ap Some more

-- -- Dependences by data

get_taken : {A : Type 0} (xs : List A) (n k : ℕ) → k < n → slice_get (take n xs) k ≡ slice_get xs k
get_taken xs zero k lt = absurd (omega arith)
get_taken [] (suc n) k lt = refl
get_taken (x ∷ xs) (suc n) zero lt = refl
get_taken (x ∷ xs) (suc n) (suc k) lt = get_taken xs n k (omega arith)

taken_within : {A : Type 0} (xs : List A) (n k : ℕ) (x : A) → slice_get (take n xs) k ≡ Some x → k < n
taken_within xs zero k x e = absurd (none-some x e)
taken_within [] (suc n) k x e = absurd (none-some x e)
taken_within (y ∷ xs) (suc n) zero x e = omega arith
taken_within (y ∷ xs) (suc n) (suc k) x e = let lt = taken_within xs n k x e in omega arith

is_false : (b : Bool) → ¬ (b ≡ true) → b ≡ false
is_false true no_ = absurd (no_ refl)
is_false false no_ = refl

not_both : (a b : Bool) → a ≡ true → ¬ ((a && b) ≡ true) → b ≡ false
not_both true b e no_ = is_false b no_
not_both false b e no_ = absurd (false≢true e)

both_false : (a b : Bool) → b ≡ false → ¬ ((a && b) ≡ true)
both_false true b e f = false≢true (sym e ∙ f)
both_false false b e f = false≢true f

never : (b : Bool) → b ≡ false → ¬ (b ≡ true)
never b e f = false≢true (sym e ∙ f)

to_source : (image : Image) (settings : Settings) (skip_sp : Bool) (run : List (Occurrence Act)) (j i : ℕ) (o : Occurrence Act) (l : Location)
    → slice_get run j ≡ Some o → DataDependence (machine image settings) skip_sp run l j i → ReadsFrom skip_sp (take j run) o i
to_source image settings skip_sp run j i o l is d =
    let same : d.reader ≡ o = same_Some d.reader o (sym d.reader_is ∙ is) in
    let place : is_location skip_sp l ≡ true = and_left (is_location skip_sp l) (reads d.reader l) d.reads in (
      l,
      ap (λ q. is_location skip_sp l && reads q l) (sym same) ∙ d.reads,
      written 0 None (take j run) l i (record {
        writer = d.writer;
        is_there = get_taken run j i d.earlier ∙ d.writer_is;
        writes_it = and_right (is_location skip_sp l) (writes d.writer l) d.writes;
        keeps_it = is_false (forgets d.writer l) d.kept;
        later = λ e p lt there.
            let low = taken_within run j e p there in
            let none = d.last e p lt low (sym (get_taken run j e low) ∙ there) in
            (not_both (is_location skip_sp l) (writes p l) place none.0, is_false (forgets p l) none.1);
      }) ∙ ap Some (let z : 0 + i ≡ i = omega arith in z),
    )

to_dependence : (image : Image) (settings : Settings) (skip_sp : Bool) (run : List (Occurrence Act)) (j i : ℕ) (o : Occurrence Act) (l : Location)
    → slice_get run j ≡ Some o → (is_location skip_sp l && reads o l) ≡ true → (d : ℕ) → i ≡ 0 + d → IsLast (take j run) l d → DataDependence (machine image settings) skip_sp run l j i
to_dependence image settings skip_sp run j i o l is read d i_is last =
    let low = taken_within run j d last.writer last.is_there in
    let place : is_location skip_sp l ≡ true = and_left (is_location skip_sp l) (reads o l) read in
    let at : d ≡ i = omega arith in
    record {
      earlier = omega arith;
      reader = o;
      writer = last.writer;
      reader_is = is;
      writer_is = ap (slice_get run) (sym at) ∙ sym (get_taken run j d low) ∙ last.is_there;
      reads = read;
      writes = ap (λ b. b && writes last.writer l) place ∙ last.writes_it;
      kept = never (forgets last.writer l) last.keeps_it;
      last = λ k p above below there.
          let none = last.later k p (omega arith) (get_taken run j k below ∙ there) in
          (both_false (is_location skip_sp l) (writes p l) none.0, never (forgets p l) none.1);
    }

pub sources_are_dependences : SourcesAreDependences
sources_are_dependences image settings skip_sp run j i o is = (
  λ d. to_source image settings skip_sp run j i o d.0 is d.1,
  λ from. ⊎_elim
      (λ none. absurd (none-some i none.0))
      (λ some. (from.0, to_dependence image settings skip_sp run j i o from.0 is from.1 some.0 some.1 some.2))
      (found 0 None (take j run) from.0 i from.2),
)
