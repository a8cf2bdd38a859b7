-- Dynamic slices are what a step depends on by data, and what is told of a run has those of the run.
use Rattle.std.proofs.Common.{◌≡◌, ◌≢◌, ◌⊎◌, inl, inr, ⊎_elim, ℕ, zero, suc, Bool, true, false, List, [], ◌∷◌, length, map, refl, sym, ◌∙◌, ap, subst, arith}
use Rattle.std.specs.Prelude.{slice_get, Some}
use Rattle.std.proofs.lemmas.Bool.{cases_eq}
use Rattle.std.proofs.lemmas.Bool.Decides.{leb_tells}
use Rattle.std.proofs.lemmas.Option.{slice_get_within}
use Rattle.image_map.specs.declared.image.Image.{Image}
use Rattle.image_map.specs.declared.region.Settings.{Settings}
use Rattle.flow_graph.specs.Marked.{Marked}
use Rattle.flow_graph.specs.Marked.Marked.{seed, step}
use Rattle.flow_graph.proofs.MarkedLaws.{marked_all}
use Rattle.ia32_semantics.specs.Machine.{Occurrence}
use Rattle.ia32_semantics.specs.Runs.{stands_at}
use Rattle.ia32_semantics.specs.Step.{Act}
use Rattle.ia32_semantics.specs.Dependence.{Chain}
use Rattle.ia32_semantics.specs.Ia32.{machine}
use Rattle.ia32_run.specs.declared.log.Occurrence.{Occurrence as Told}
use Rattle.ia32_run.specs.Traces.{ListsDirect, TellsRun}
use Rattle.ia32_run.proofs.OneTraceLemmas.{some_at}
use Rattle.ia32_run.proofs.RisingLists.{same_rising}
use Rattle.dynamic_slices.specs.Slices.{IsLastAt, IsInSlice, IsDynamicSlice, places_of, IsDirect, depends_of, places_told, IsToldToDepend}
use Rattle.dynamic_slices.specs.Laws.{SlicesAreClosures, TellsSlices, ToldSlicesAreDynamic, SlicesAreOne}

-- -- Chains

-- a chain goes on at its end
chain_end : (Direct : ℕ → ℕ → Type 0) (n j k i : ℕ) → Chain Direct n j k → Direct k i → Chain Direct (suc n) j i
chain_end Direct zero j k i c d = (k, c, d)
chain_end Direct (suc n) j k i (m, first, rest) d = (m, first, chain_end Direct n m k i rest d)

chain_marked : (Direct Seed_ : ℕ → ℕ → Type 0) (s n j i : ℕ) → Chain Direct n j i → Marked (Seed_ s) Direct j → Marked (Seed_ s) Direct i
chain_marked Direct Seed_ s zero j i c from = step c from
chain_marked Direct Seed_ s (suc n) j i (k, first, rest) from = chain_marked Direct Seed_ s n k i rest (step first from)

pub slices_are_closures : SlicesAreClosures
slices_are_closures image settings skip_sp run last i = (
  λ there. marked_all (λ n. n ≡ last) Direct (λ n. (n ≡ last) ⊎ ((k : ℕ) × Chain Direct k last n)) (λ n same. inl same)
      (λ j n d before. inr (⊎_elim (λ same. (0, subst (λ m. Direct m n) same d)) (λ chain. (suc chain.0, chain_end Direct chain.0 last j n chain.1 d)) before)) there,
  λ either. ⊎_elim (λ same. seed same) (λ chain. chain_marked Direct (λ s n. n ≡ s) last chain.0 last i chain.1 (seed refl)) either,
)
  where
    Direct : ℕ → ℕ → Type 0
    Direct = IsDirect (machine image settings) skip_sp run

-- -- What is told of a run

slice_alike : (D E : ℕ → ℕ → Type 0) (places others : List ℕ) (last : ℕ) (addresses : List ℕ) → ((j i : ℕ) → D j i → E j i) → ((j i : ℕ) → E j i → D j i) → places ≡ others
    → IsDynamicSlice D places last addresses → IsDynamicSlice E others last addresses
slice_alike D E places others last addresses forth back same slice = record {
  rising = slice.rising;
  listed = λ a. (
    λ has. let i = (slice.listed a).0 has in
        (i.0, ap (λ (l : List ℕ). slice_get l i.0) (sym same) ∙ i.1, marked_all (λ n. n ≡ last) D (IsInSlice E last) (λ n is. seed is) (λ j n d there. step (forth j n d) there) i.2),
    λ i. (slice.listed a).1
        (i.0, ap (λ (l : List ℕ). slice_get l i.0) same ∙ i.1, marked_all (λ n. n ≡ last) E (IsInSlice D last) (λ n is. seed is) (λ j n d there. step (back j n d) there) i.2),
  );
}

maps_alike : {A B : Type 0} (f : A → ℕ) (g : B → ℕ) (xs : List A) (ys : List B) → length xs ≡ length ys → ((k : ℕ) (x : A) (y : B) → slice_get xs k ≡ Some x → slice_get ys k ≡ Some y → f x ≡ g y) → map f xs ≡ map g ys
maps_alike f g [] [] long same = refl
maps_alike f g [] (y ∷ ys) long same = absurd (omega arith)
maps_alike f g (x ∷ xs) [] long same = absurd (omega arith)
maps_alike f g (x ∷ xs) (y ∷ ys) long same = ap (λ n. n ∷ map f xs) (same 0 x y refl refl) ∙ ap (λ l. g y ∷ l) (maps_alike f g xs ys (omega arith) (λ k a b p q. same (suc k) a b p q))

module _ (image : Image) (settings : Settings) (skip_sp : Bool) (run : List (Occurrence Act)) (steps : List Told) (tells : TellsRun image settings run steps) where
  lists : (b : Bool) (j : ℕ) (o : Occurrence Act) (t : Told) → slice_get run j ≡ Some o → slice_get steps j ≡ Some t → ListsDirect image settings b run j (depends_of b t)
  lists true j o t is_o is_t = (tells.each j o t is_o is_t).depends_skip
  lists false j o t is_o is_t = (tells.each j o t is_o is_t).depends

  direct_of_told : (j i : ℕ) → IsToldToDepend skip_sp steps j i → IsDirect (machine image settings) skip_sp run j i
  direct_of_told j i (t, is_t, has) =
      let within = slice_get_within steps j t is_t in
      let long = tells.long in
      let o = some_at run j (omega arith) in
      ((lists skip_sp j o.0 t o.1 is_t).all i).0 has

  told_of_direct : (j i : ℕ) → IsDirect (machine image settings) skip_sp run j i → IsToldToDepend skip_sp steps j i
  told_of_direct j i (l, d) =
      let within = slice_get_within run j d.reader d.reader_is in
      let long = tells.long in
      let t = some_at steps j (omega arith) in
      (t.0, t.1, ((lists skip_sp j d.reader t.0 d.reader_is t.1).all i).1 (l, d))

  told_places : places_told steps ≡ places_of run
  told_places = maps_alike (λ (t : Told). t.at) stands_at steps run tells.long (λ k t o is_t is_o. (tells.each k o t is_o is_t).at)

  told_slices : TellsSlices image settings skip_sp run steps
  told_slices = record {
    places = told_places;
    earlier = λ j i told. (direct_of_told j i told).1.earlier;
    slices = λ last addresses. (
      slice_alike (IsToldToDepend skip_sp steps) (IsDirect (machine image settings) skip_sp run) (places_told steps) (places_of run) last addresses direct_of_told told_of_direct told_places,
      slice_alike (IsDirect (machine image settings) skip_sp run) (IsToldToDepend skip_sp steps) (places_of run) (places_told steps) last addresses told_of_direct direct_of_told (sym told_places),
    );
  }

pub told_slices_are_dynamic : ToldSlicesAreDynamic
told_slices_are_dynamic image settings skip_sp run steps tells = told_slices image settings skip_sp run steps tells

-- -- There is one

pub one_slice : (Direct : ℕ → ℕ → Type 0) (places : List ℕ) (last : ℕ) (one other : List ℕ) → IsDynamicSlice Direct places last one → IsDynamicSlice Direct places last other → one ≡ other
one_slice Direct places last one other p q = same_rising one other p.rising q.rising (λ a c. (q.listed a).1 ((p.listed a).0 c)) (λ a c. (p.listed a).1 ((q.listed a).0 c))

pub one_last : (places : List ℕ) (at one other : ℕ) → IsLastAt places at one → IsLastAt places at other → one ≡ other
one_last places at one other p q =
    ⊎_elim (λ same. same)
    (λ off. let differs : one ≢ other = off in
    absurd (⊎_elim
    (λ above. let le = above.1 in q.later one (omega (arith, le, differs)) p.stands)
    (λ below. let lt = below.1 in p.later other lt q.stands)
    (leb_tells other one)))
    (cases_eq one other)

pub slices_are_one : SlicesAreOne
slices_are_one = (λ skip_sp steps last one other p q. one_slice (IsToldToDepend skip_sp steps) (places_told steps) last one other p q, one_last)
