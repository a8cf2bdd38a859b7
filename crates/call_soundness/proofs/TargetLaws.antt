-- Where a jump or a call goes is among the targets of its node, where no warning stands there.
use Rattle.std.proofs.Common.{◌≡◌, ◌⊎◌, inl, inr, ℕ, ◌+◌, ◌<◌, ◌==◌, ◌&&◌, Bool, true, false, not, cond, List, [], ◌∷◌, Option, Some, None, refl, sym, ◌∙◌, ap, subst, arith, pos}
use Rattle.std.specs.Prelude.{nat_lt, map, filter, length, ◌+ℤ◌}
use Rattle.std.specs.Option.{option_map}
use Rattle.std.specs.List.{list_any, list_all}
use Rattle.std.proofs.lemmas.Int.{ints}
use Rattle.std.proofs.lemmas.Bool.{false≢true, cond_both, and_parts, eqb-true}
use Rattle.std.proofs.lemmas.Option.{none-some, same_Some}
use Rattle.image_map.specs.declared.image.Image.{Image}
use Rattle.image_map.specs.declared.region.Cell.{Cell}
use Rattle.ia32_types.specs.declared.Mem.{Mem}
use Rattle.ia32_types.specs.declared.Operand.{Operand}
use Rattle.ia32_types.specs.declared.Operand.TheVariants as operand
use Rattle.ia32_types.specs.declared.Width.TheVariants.{D32}
use Rattle.ia32_semantics.specs.State.{State, bytes_at, little_endian}
use Rattle.alocs.specs.Cells.{Division}
use Rattle.strided.specs.Interval.{Interval, IsMember}
use Rattle.strided.specs.Operations.{count}
use Rattle.si_bits.specs.Concrete as concrete
use Rattle.si_bits.proofs.SignLemmas.{word-number}
use Rattle.vset.specs.Members.{HasValue}
use Rattle.vset.specs.Values.{Values, Top, only_number}
use Rattle.abs_alu.proofs.WordLemmas.{only_has}
use Rattle.abs_semantics.specs.States.{AbsState, HasCanonical, value_at}
use Rattle.abs_semantics.specs.StandsFor.{world_of}
use Rattle.abs_semantics.specs.Ownership.{IsKnown, IsRange}
use Rattle.abs_semantics.specs.Joins.{with_number, numbers_of}
use Rattle.abs_semantics.specs.Touching.{members, cells_of_parts}
use Rattle.abs_semantics.specs.Resolve.{resolve}
use Rattle.abs_semantics.specs.Accesses.{has_no_reason, number_of_members, cells_of_few, cells_read}
use Rattle.abs_semantics.specs.Operands.{address}
use Rattle.abs_semantics.proofs.EntryLemmas.{one_owned, no_reason}
use Rattle.abs_semantics.proofs.FirstLemmas.{bytes_mapped}
use Rattle.abs_semantics.proofs.LevelLemmas.{IsAmong, among_map, among_filter}
use Rattle.abs_semantics.proofs.OwnerLemmas.{resolved_bytes}
use Rattle.abs_semantics.proofs.ReadLemmas.{cell_at_is, member_among, cell_of_parts, cell_has}
use Rattle.abs_steps.specs.Places.{values_of, target_values, number_before, all_numbers, words_in, all_words, if_few, few_words, is_indirect, known_targets, or_none, targets, followed, is_place}
use Rattle.abs_steps.specs.Rows.{view_of}
use Rattle.abs_steps.specs.Views.{value_of}
use Rattle.abs_steps.specs.Warnings.{are_places, is_unresolved}
use Rattle.step_soundness.specs.Terms.{IsOperand, address_in}
use Rattle.step_soundness.proofs.OperandLaws.{number_below, registers_hold}
use Rattle.step_soundness.proofs.PointerLaws.{address_has}
use Rattle.step_soundness.proofs.ReadLaws.{IsRead}
use Rattle.step_soundness.proofs.RowLaws.{Has}

-- -- Lists of words

number_there : (n : ℕ) (xs : List ℕ) → IsAmong n (with_number n xs)
number_there n [] = inl refl
number_there n (x ∷ xs) =
    cond_both (x == n) (x ∷ xs) _ (IsAmong n) (λ e. inl (eqb-true x n e))
    (λ _. cond_both (nat_lt x n) (x ∷ with_number n xs) (n ∷ x ∷ xs) (IsAmong n) (λ _. inr (number_there n xs)) (λ _. inl refl))

number_kept : (m n : ℕ) (xs : List ℕ) → IsAmong m xs → IsAmong m (with_number n xs)
number_kept m n [] h = absurd h
number_kept m n (x ∷ xs) h =
    cond_both (x == n) (x ∷ xs) _ (IsAmong m) (λ _. h)
    (λ _. cond_both (nat_lt x n) (x ∷ with_number n xs) (n ∷ x ∷ xs) (IsAmong m) (λ _. later (number_kept m n xs) h) (λ _. inr h))
  where
    later : (IsAmong m xs → IsAmong m (with_number n xs)) → (x ≡ m) ⊎ IsAmong m xs → IsAmong m (x ∷ with_number n xs)
    later rest (inl e) = inl e
    later rest (inr k) = inr (rest k)

numbers_first : (m : ℕ) (xs ys : List ℕ) → IsAmong m xs → IsAmong m (numbers_of xs ys)
unfolding numbers_of
numbers_first m [] ys h = absurd h
numbers_first m (x ∷ xs) ys (inl e) = subst (λ k. IsAmong k (with_number x (numbers_of xs ys))) e (number_there x (numbers_of xs ys))
numbers_first m (x ∷ xs) ys (inr h) = number_kept m x (numbers_of xs ys) (numbers_first m xs ys h)

numbers_later : (m : ℕ) (xs ys : List ℕ) → IsAmong m ys → IsAmong m (numbers_of xs ys)
unfolding numbers_of
numbers_later m [] ys h = h
numbers_later m (x ∷ xs) ys h = number_kept m x (numbers_of xs ys) (numbers_later m xs ys h)

words_have : (m : ℕ) (x : Interval) (xs : List Interval) → IsAmong x xs → IsAmong m (words_in x) → IsAmong m (all_words xs)
unfolding all_words
words_have m x [] h k = absurd h
words_have m x (y ∷ ys) (inl e) k = numbers_first m (words_in y) (all_words ys) (subst (λ z. IsAmong m (words_in z)) (sym e) k)
words_have m x (y ∷ ys) (inr h) k = numbers_later m (words_in y) (all_words ys) (words_have m x ys h k)

-- the numbers of one of some values
one_numbers : (v : Values) (vs : List Values) (xs : List Interval) → IsAmong v vs → all_numbers vs ≡ Some xs → (x : Interval) × (only_number v ≡ Some x) × IsAmong x xs
unfolding all_numbers
one_numbers v [] xs h e = absurd h
one_numbers v (w ∷ ws) xs h e = by (λ ys later g. one_numbers v ws ys later g) (only_number w) refl (all_numbers ws) refl e
  where
    by : ((ys : List Interval) → IsAmong v ws → all_numbers ws ≡ Some ys → (x : Interval) × (only_number v ≡ Some x) × IsAmong x ys) → (o : Option Interval) → only_number w ≡ o → (r : Option (List Interval)) → all_numbers ws ≡ r → number_before o r ≡ Some xs → (x : Interval) × (only_number v ≡ Some x) × IsAmong x xs
    by rest None f r g k = absurd (none-some xs k)
    by rest (Some x) f None g k = absurd (none-some xs k)
    by rest (Some x) f (Some ys) g k = of h
      where
        same : x ∷ ys ≡ xs
        same = same_Some (x ∷ ys) xs k

        of : (w ≡ v) ⊎ IsAmong v ws → (z : Interval) × (only_number v ≡ Some z) × IsAmong z xs
        of (inl e) = (x, ap only_number (sym e) ∙ f, subst (IsAmong x) same (inl refl))
        of (inr later) = let found = rest ys later g in (found.0, found.1, subst (IsAmong found.0) same (inr found.2))

few_are : (o : Option (List Interval)) (ws : List ℕ) → few_words o ≡ Some ws → (xs : List Interval) × (o ≡ Some xs) × (all_words xs ≡ ws)
few_are None ws e = absurd (none-some ws e)
few_are (Some xs) ws e =
    cond_both (list_any (λ (x : Interval). nat_lt 1024 (count x)) xs) None (if_few (all_words xs)) (λ o. o ≡ Some ws → (ys : List Interval) × (Some xs ≡ Some ys) × (all_words ys ≡ ws))
    (λ _ f. absurd (none-some ws f))
    (λ _. cond_both (nat_lt 1024 (length (all_words xs))) None (Some (all_words xs)) (λ o. o ≡ Some ws → (ys : List Interval) × (Some xs ≡ Some ys) × (all_words ys ≡ ws))
    (λ _ f. absurd (none-some ws f)) (λ _ f. (xs, refl, same_Some (all_words xs) ws f)))
    e

module _ (image : Image) (lane p : ℕ) (a : AbsState) (s : State) (d : Division) (known_ : IsKnown image lane a p s) (form : HasCanonical a) where
  -- a word of one of the values is among the words
  value_word : (n : ℕ) → n < 4294967296 → (v : Values) (vs : List Values) → IsAmong v vs → HasValue lane (world_of s) n v → (ws : List ℕ) → few_words (all_numbers vs) ≡ Some ws → IsAmong n ws
  value_word n lt v vs among has ws e =
      let few = few_are (all_numbers vs) ws e in
      let one = one_numbers v vs few.0 among few.1 in
      let member : IsMember (concrete.number n) one.0 = only_has lane (world_of s) n lt v one.0 one.1 has in
      subst (IsAmong n) few.2
      (words_have n one.0 few.0 one.2 (subst (λ k. IsAmong k (words_in one.0)) (word-number n lt) (among_map concrete.word (concrete.number n) (members one.0) (member_among (concrete.number n) one.0 member))))

  -- a cell that is read has what the machine reads
  module _ (m : Mem) (spelt : IsOperand (operand.Mem m)) (bytes : List ℕ) (is : bytes_at s.memory (address_in s m) 4 ≡ Some bytes) where
    abbrev at : ℕ
    at = address_in s m

    abbrev v : Values
    v = address a m

    range : IsRange lane s v at 4 4
    range =
        record {
          word = omega arith;
          member = address_has lane (world_of s) a s (registers_hold image lane a p s d known_ form) m (omega (arith, spelt)) spelt.1;
          some = omega arith;
          within = omega arith;
          mapped = bytes_mapped s.memory at 4 bytes is;
        }

    cell_value : (cs : List Cell) → cells_read a d p v 4 ≡ Some cs → (c : Cell) × IsAmong c cs × HasValue lane (world_of s) (little_endian bytes) (value_at a c)
    unfolding cells_read
    cell_value cs e = by_reasons (has_no_reason (resolve a p v 4).reasons) refl e
      where
        of_cells : (resolve a p v 4).reasons ≡ [] → cells_of_parts d 4 (resolve a p v 4).entries ≡ Some cs → (c : Cell) × IsAmong c cs × HasValue lane (world_of s) (little_endian bytes) (value_at a c)
        of_cells quiet f =
            let one = one_owned lane s at 4 (resolve a p v 4).entries (resolved_bytes image lane a p s v at 4 4 known_ range quiet) in
            let x = one.2 in
            let found = cell_of_parts d 4 (resolve a p v 4).entries cs one.0 x.offset f one.1 x.within in
            let at_cell = cell_at_is d one.0.region x.offset 4 found.0 found.2 in (
              found.0,
              found.1,
              cell_has image lane a p s known_ at 4 one.0 x 0 4 bytes found.0 (omega arith)
                  (record { region = at_cell.region; start = at_cell.start ∙ (let e : x.offset ≡ x.offset +ℤ pos 0 = omega (arith, ints) in e); end = at_cell.end })
                  (subst (λ n. bytes_at s.memory n 4 ≡ Some bytes) (let e : at ≡ at + 0 = omega arith in e) is),
            )

        by_reasons : (t : Bool) → has_no_reason (resolve a p v 4).reasons ≡ t → cells_of_few d 4 (cond t (Some (resolve a p v 4).entries) None) ≡ Some cs
            → (c : Cell) × IsAmong c cs × HasValue lane (world_of s) (little_endian bytes) (value_at a c)
        by_reasons true quiet f =
            cond_both (nat_lt 64 (number_of_members (resolve a p v 4).entries)) None (cells_of_parts d 4 (resolve a p v 4).entries)
            (λ o. o ≡ Some cs → (c : Cell) × IsAmong c cs × HasValue lane (world_of s) (little_endian bytes) (value_at a c))
            (λ many g. absurd (none-some cs g)) (λ few g. of_cells (no_reason (resolve a p v 4).reasons quiet) g) f
        by_reasons false warned f = absurd (none-some cs f)

    cells_word : (o : Option (List Cell)) → cells_read a d p v 4 ≡ o → (ws : List ℕ) → few_words (all_numbers (values_of a o)) ≡ Some ws → (little_endian bytes < 4294967296) × IsAmong (little_endian bytes) ws
    unfolding all_numbers
    cells_word None f ws e = absurd (none-some ws e)
    cells_word (Some cs) f ws e =
        let one = cell_value cs f in
        let below = number_below image lane a p s d known_ form D32 at bytes is in
        (below, value_word (little_endian bytes) below (value_at a one.0) (map (value_at a) cs) (among_map (value_at a) one.0 cs one.1) one.2 ws e)

  -- -- Targets

  memory_word : (m : Mem) → IsOperand (operand.Mem m) → (n : ℕ) (gs : Bool) → (gs ≡ false → option_map little_endian (bytes_at s.memory (address_in s m) 4) ≡ Some n) → (ws : List ℕ)
      → few_words (all_numbers (cond gs (Top ∷ []) (values_of a (cells_read a d p (address a m) 4)))) ≡ Some ws → (n < 4294967296) × IsAmong n ws
  unfolding all_numbers
  memory_word m spelt n true self ws e = absurd (none-some ws e)
  memory_word m spelt n false self ws e = by (bytes_at s.memory (address_in s m) 4) refl (self refl)
    where
      by : (b : Option (List ℕ)) → bytes_at s.memory (address_in s m) 4 ≡ b → option_map little_endian b ≡ Some n → (n < 4294967296) × IsAmong n ws
      by None f g = absurd (none-some n g)
      by (Some bytes) f g = subst (λ k. (k < 4294967296) × IsAmong k ws) (same_Some (little_endian bytes) n g) (cells_word m spelt bytes f (cells_read a d p (address a m) 4) refl ws e)

  -- one value, which isn't any
  lone_word : (o : Operand) (n : ℕ) → IsRead lane (world_of s) D32 (value_of (view_of a d p) D32 (Some o)) n → (ws : List ℕ) → few_words (all_numbers (value_of (view_of a d p) D32 (Some o) ∷ [])) ≡ Some ws → (n < 4294967296) × IsAmong n ws
  unfolding all_numbers
  lone_word o n hn ws e = by hn.sure
    where
      by : (n < 4294967296) ⊎ ((value_of (view_of a d p) D32 (Some o) ≡ Top) × (D32 ≡ D32)) → (n < 4294967296) × IsAmong n ws
      by (inl lt) = (lt, value_word n lt (value_of (view_of a d p) D32 (Some o)) (value_of (view_of a d p) D32 (Some o) ∷ []) (inl refl) hn.has ws e)
      by (inr top) = absurd (none-some ws (subst (λ u. few_words (number_before (only_number u) (Some [])) ≡ Some ws) top.0 e))

  -- what is read of an operand is among its known targets
  pub known_target : (o : Operand) → IsOperand o → (n : ℕ) → Has image lane p a s d known_ form D32 o n → (ws : List ℕ) → known_targets (view_of a d p) (Some o) ≡ Some ws → (n < 4294967296) × IsAmong n ws
  unfolding known_targets target_values
  known_target (operand.Reg r) spelt n hn ws e = lone_word (operand.Reg r) n hn.0 ws e
  known_target (operand.High r) spelt n hn ws e = lone_word (operand.High r) n hn.0 ws e
  known_target (operand.Imm k) spelt n hn ws e = (subst (λ j. j < 4294967296) (sym hn.1) spelt, subst (IsAmong n) (same_Some (k ∷ []) ws e) (inl (sym hn.1)))
  known_target (operand.Mem m) spelt n hn ws e = memory_word m spelt n m.gs hn.1 ws e

  all_pass : {A : Type 0} (test : A → Bool) (xs : List A) (x : A) → list_all test xs ≡ true → IsAmong x xs → test x ≡ true
  all_pass test [] x e h = absurd h
  all_pass test (y ∷ ys) x e (inl same) = subst (λ z. test z ≡ true) same (and_parts (test y) (list_all test ys) e).0
  all_pass test (y ∷ ys) x e (inr later) = all_pass test ys x (and_parts (test y) (list_all test ys) e).1 later

  direct : (k n : ℕ) → n ≡ k → IsAmong n (or_none (known_targets (view_of a d p) (Some (operand.Imm k))))
  unfolding known_targets
  direct k n e = inl (sym e)

  -- a jump or a call goes to a target that is followed, and is one of all targets
  pub record IsFollowed (o : Operand) (n : ℕ) : Type 0 where
    pub word : n < 4294967296
    pub target : IsAmong n (targets (view_of a d p) (Some o))
    pub is_followed : IsAmong n (followed image (view_of a d p) (Some o))

  pub target_followed : (o : Operand) → IsOperand o → (n : ℕ) → Has image lane p a s d known_ form D32 o n → is_unresolved image (view_of a d p) (Some o) ≡ false → IsFollowed o n
  unfolding targets followed
  target_followed o spelt n hn resolved = by_kind (is_indirect (Some o)) refl resolved
    where
      by_places : (ws : Option (List ℕ)) → known_targets (view_of a d p) (Some o) ≡ ws → are_places image ws ≡ true → (n < 4294967296) × IsAmong n (or_none ws) × IsAmong n (filter (is_place image) (or_none ws))
      by_places None e places = absurd (false≢true places)
      by_places (Some []) e places = absurd (false≢true places)
      by_places (Some (t ∷ ts)) e places =
          let among = known_target o spelt n hn (t ∷ ts) e in
          (among.0, among.1, among_filter (is_place image) n (t ∷ ts) among.1 (all_pass (is_place image) (t ∷ ts) n places among.1))

      yes_places : (b : Bool) → not b ≡ false → b ≡ true
      yes_places true e = refl
      yes_places false e = absurd (false≢true (sym e))

      direct_known : (o : Operand) → is_indirect (Some o) ≡ false → IsOperand o → Has image lane p a s d known_ form D32 o n → (n < 4294967296) × IsAmong n (or_none (known_targets (view_of a d p) (Some o)))
      direct_known (operand.Imm k) e is h = (subst (λ j. j < 4294967296) (sym h.1) is, direct k n h.1)
      direct_known (operand.Reg r) e is h = absurd (false≢true (sym e))
      direct_known (operand.High r) e is h = absurd (false≢true (sym e))
      direct_known (operand.Mem m) e is h = absurd (false≢true (sym e))

      by_kind : (t : Bool) → is_indirect (Some o) ≡ t → (t && not (are_places image (known_targets (view_of a d p) (Some o)))) ≡ false → IsFollowed o n
      by_kind true e res =
          let both = by_places (known_targets (view_of a d p) (Some o)) refl (yes_places (are_places image (known_targets (view_of a d p) (Some o))) res) in
          record { word = both.0; target = both.1; is_followed = subst (λ b. IsAmong n (cond b (filter (is_place image) (or_none (known_targets (view_of a d p) (Some o)))) (or_none (known_targets (view_of a d p) (Some o))))) (sym e) both.2 }
      by_kind false e res =
          let among = direct_known o e spelt hn in
          record { word = among.0; target = among.1; is_followed = subst (λ b. IsAmong n (cond b (filter (is_place image) (or_none (known_targets (view_of a d p) (Some o)))) (or_none (known_targets (view_of a d p) (Some o))))) (sym e) among.1 }
