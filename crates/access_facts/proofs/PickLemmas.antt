-- The places of what a test picks, one after the other.
use Rattle.std.proofs.Common.{◌≡◌, ◌≤◌, ◌<◌, ℕ, zero, suc, ◌+◌, ◌^◌, Bool, true, false, cond, List, [], ◌∷◌, ◌++◌, length, drop, map, get_or, refl, sym, subst, ◌∙◌, ap, append_assoc, append-nil, arith}
use Rattle.std.specs.Prelude.{◌<ℤ◌}
use Rattle.std.proofs.lemmas.List.{drop_more, drop_all}
use Rattle.image_map.specs.declared.region.Cell.{Cell}
use Rattle.access_facts.specs.declared.rows.Row.{Row}
use Rattle.access_facts.specs.Places.{picked}
use Rattle.image_map.specs.declared.region.RegionId.{RegionId}
use Rattle.access_facts.specs.Rows.{AreRows, AreSome, AreOf, cells_in_rows}

picked_one : {A : Type 0} (test : A → Bool) (n : ℕ) (x : A) (xs : List A) (b : Bool) → cond b (n ∷ picked test (n + 1) xs) (picked test (n + 1) xs) ≡ cond b (n ∷ []) [] ++ picked test (n + 1) xs
picked_one test n x xs true = refl
picked_one test n x xs false = refl

picked_cons : {A : Type 0} (test : A → Bool) (n : ℕ) (x : A) (xs : List A) → picked test n (x ∷ xs) ≡ cond (test x) (n ∷ []) [] ++ picked test (n + 1) xs
unfolding picked
picked_cons test n x xs = picked_one test n x xs (test x)

pub picked_append : {A : Type 0} (test : A → Bool) (n m : ℕ) (xs ys : List A) → m ≡ n + length xs → picked test n (xs ++ ys) ≡ picked test n xs ++ picked test m ys
unfolding picked
picked_append test n m [] ys is = let e : n ≡ m = omega (arith, is) in ap (λ k. picked test k ys) e
picked_append {A} test n m (x ∷ xs) ys is =
    let rest : picked test (n + 1) (xs ++ ys) ≡ picked test (n + 1) xs ++ picked test m ys = picked_append test (n + 1) m xs ys (omega (arith, is)) in
    by_test (test x) rest
  where
    by_test : (b : Bool) → picked test (n + 1) (xs ++ ys) ≡ picked test (n + 1) xs ++ picked test m ys
        → cond b (n ∷ picked test (n + 1) (xs ++ ys)) (picked test (n + 1) (xs ++ ys)) ≡ cond b (n ∷ picked test (n + 1) xs) (picked test (n + 1) xs) ++ picked test m ys
    by_test true rest = ap (λ t. n ∷ t) rest
    by_test false rest = rest

-- -- One list, gone through

abbrev pub IsPicked : {A : Type 0} → (A → Bool) → ℕ → List A → ℕ → List ℕ → List ℕ → Type 0
IsPicked test n xs i out whole = out ++ picked test n (drop i xs) ≡ whole

pub pick_step : {A : Type 0} (test : A → Bool) (n more : ℕ) (xs : List A) (i : ℕ) (x : A) (wanted : Bool) (out next whole : List ℕ) → i < length xs → x ≡ get_or xs i x → wanted ≡ test x
    → next ≡ out ++ cond wanted (n ∷ []) [] → more ≡ n + 1 → IsPicked test n xs i out whole → IsPicked test more xs (i + 1) next whole
pick_step {A} test n more xs i x wanted out next whole lt is asked put on e =
    let rest : List A = drop (i + 1) xs in
    let head : drop i xs ≡ x ∷ rest = drop_more xs i x lt ∙ ap (λ y. y ∷ rest) (sym is) in
    let cons : picked test n (drop i xs) ≡ cond wanted (n ∷ []) [] ++ picked test (n + 1) rest =
    ap (picked test n) head ∙ picked_cons test n x rest ∙ ap (λ b. cond b (n ∷ []) [] ++ picked test (n + 1) rest) (sym asked) in
    ap (λ t. t ++ picked test more rest) put ∙ ap (λ k. (out ++ cond wanted (n ∷ []) []) ++ picked test k rest) on
    ∙ append_assoc out (cond wanted (n ∷ []) []) (picked test (n + 1) rest) ∙ sym (ap (λ t. out ++ t) cons) ∙ e

pub pick_end : {A : Type 0} (test : A → Bool) (n : ℕ) (xs : List A) (i : ℕ) (out whole : List ℕ) → length xs ≤ i → IsPicked test n xs i out whole → out ≡ whole
unfolding picked
pick_end {A} test n xs i out whole le e = sym (append-nil out) ∙ sym (ap (λ (ys : List A). out ++ picked test n ys) (drop_all i xs le)) ∙ e

-- -- Rows

pub sound_at : (cs : List Cell) (i : ℕ) (c : Cell) → AreSome cs → i < length cs → c ≡ get_or cs i c → c.start <ℤ c.end
sound_at [] i c sound lt is = absurd (omega arith)
sound_at (x ∷ xs) zero c sound lt is = subst (λ (y : Cell). y.start <ℤ y.end) (sym is) sound.0
sound_at (x ∷ xs) (suc i) c sound lt is = sound_at xs i c sound.1 (omega arith) is

record HasRow (row : Row) (n : ℕ) (rest : List Row) : Type 0 where
  pub first : row.first ≡ n
  pub few : n + length row.cells < 2 ^ 32
  pub sound : AreSome row.cells
  pub of : AreOf row.region row.cells
  pub behind : AreRows (n + length row.cells) rest

-- some rows are done
pub record AreDone (test : Cell → Bool) (rows : List Row) (i : ℕ) (out whole : List ℕ) : Type 0 where
  pub number : ℕ
  pub left : AreRows number (drop i rows)
  pub are : out ++ picked test number (cells_in_rows (drop i rows)) ≡ whole

row_here : (rows : List Row) (i n : ℕ) (row : Row) → i < length rows → row ≡ get_or rows i row → AreRows n (drop i rows) → HasRow row n (drop (i + 1) rows)
row_here rows i n row lt is left =
    let head : drop i rows ≡ row ∷ drop (i + 1) rows = drop_more rows i row lt ∙ ap (λ (r : Row). r ∷ drop (i + 1) rows) (sym is) in
    let h : AreRows n (row ∷ drop (i + 1) rows) = subst (AreRows n) head left in
    record { first = h.0; few = h.1; sound = h.2; of = h.3; behind = h.4 }

pub row_alone : (test : Cell → Bool) (rows : List Row) (i : ℕ) (row : Row) (out whole : List ℕ) → i < length rows → row ≡ get_or rows i row → AreDone test rows i out whole → AreRows row.first (row ∷ [])
row_alone test rows i row out whole lt is done =
    let h = row_here rows i done.number row lt is done.left in
    let f = h.first in let few = h.few in
    (refl, omega arith, h.sound, h.of, tt)

pub row_done : (test : Cell → Bool) (rows : List Row) (i : ℕ) (row : Row) (out next whole : List ℕ) → i < length rows → row ≡ get_or rows i row → next ≡ out ++ picked test row.first row.cells
    → AreDone test rows i out whole → AreDone test rows (i + 1) next whole
row_done test rows i row out next whole lt is put done =
    let n : ℕ = done.number in
    let h = row_here rows i n row lt is done.left in
    let rest : List Cell = cells_in_rows (drop (i + 1) rows) in
    let head : drop i rows ≡ row ∷ drop (i + 1) rows = drop_more rows i row lt ∙ ap (λ (r : Row). r ∷ drop (i + 1) rows) (sym is) in
    record {
      number = n + length row.cells;
      left = h.behind;
      are =
          ap (λ t. t ++ picked test (n + length row.cells) rest) (put ∙ ap (λ k. out ++ picked test k row.cells) h.first)
          ∙ append_assoc out (picked test n row.cells) (picked test (n + length row.cells) rest)
          ∙ sym (ap (λ t. out ++ t) (ap (λ (rs : List Row). picked test n (cells_in_rows rs)) head ∙ picked_append test n (n + length row.cells) row.cells rest refl)) ∙ done.are;
    }

pub rows_done : (test : Cell → Bool) (rows : List Row) (i : ℕ) (out whole : List ℕ) → length rows ≤ i → AreDone test rows i out whole → out ≡ whole
unfolding picked
rows_done test rows i out whole le done =
    sym (append-nil out) ∙ sym (ap (λ (rs : List Row). out ++ picked test done.number (cells_in_rows rs)) (drop_all i rows le)) ∙ done.are

-- a row whose cells aren't picked
pub row_passed : (test : Cell → Bool) (n : ℕ) (region : RegionId) (cs : List Cell) → AreOf region cs → ((c : Cell) → c.region ≡ region → test c ≡ false) → picked test n cs ≡ []
unfolding picked
row_passed test n region [] are none = refl
row_passed test n region (c ∷ cs) are none = ap (λ b. cond b (n ∷ picked test (n + 1) cs) (picked test (n + 1) cs)) (none c are.0) ∙ row_passed test (n + 1) region cs are.1 none

pub nothing_put : (out ns : List ℕ) → ns ≡ [] → out ≡ out ++ ns
nothing_put out ns is = sym (append-nil out) ∙ sym (ap (λ t. out ++ t) is)

-- one thing more
pub one_more : {A : Type 0} (test : A → Bool) (n : ℕ) (x : A) (xs : List A) (wanted : Bool) (out next whole : List ℕ) → wanted ≡ test x → next ≡ out ++ cond wanted (n ∷ []) [] → out ++ picked test n (x ∷ xs) ≡ whole → next ++ picked test (n + 1) xs ≡ whole
one_more test n x xs wanted out next whole asked put e =
    ap (λ t. t ++ picked test (n + 1) xs) put ∙ append_assoc out (cond wanted (n ∷ []) []) (picked test (n + 1) xs)
    ∙ ap (λ b. out ++ (cond b (n ∷ []) [] ++ picked test (n + 1) xs)) asked ∙ sym (ap (λ t. out ++ t) (picked_cons test n x xs)) ∙ e

pub no_more : {A : Type 0} (test : A → Bool) (n : ℕ) (out whole : List ℕ) → out ++ picked test n [] ≡ whole → out ≡ whole
unfolding picked
no_more test n out whole e = sym (append-nil out) ∙ e

-- -- Elements as the code reads them

pub read_picked : {A : Type 0} (test : A → Bool) (n : ℕ) (xs view : List A) (i : ℕ) (d : A) (wanted : Bool) (out next whole : List ℕ) → view ≡ xs → i < length view → wanted ≡ test (get_or view i d) → next ≡ out ++ cond wanted (n ∷ []) []
    → IsPicked test n xs i out whole → IsPicked test (n + 1) xs (i + 1) next whole
read_picked {A} test n xs view i d wanted out next whole seen lt asked put e =
    let e' : out ++ picked test n (drop i view) ≡ whole = ap (λ (ys : List A). out ++ picked test n (drop i ys)) seen ∙ e in
    let head : out ++ picked test n (get_or view i d ∷ drop (i + 1) view) ≡ whole = sym (ap (λ ys. out ++ picked test n ys) (drop_more view i d lt)) ∙ e' in
    sym (ap (λ (ys : List A). next ++ picked test (n + 1) (drop (i + 1) ys)) seen) ∙ one_more test n (get_or view i d) (drop (i + 1) view) wanted out next whole asked put head

pub read_all_picked : {A : Type 0} (test : A → Bool) (n : ℕ) (xs view : List A) (i : ℕ) (out whole : List ℕ) → view ≡ xs → length view ≤ i → IsPicked test n xs i out whole → out ≡ whole
unfolding picked
read_all_picked {A} test n xs view i out whole seen le e =
    sym (append-nil out) ∙ sym (ap (λ (ys : List A). out ++ picked test n ys) (drop_all i view le)) ∙ ap (λ (ys : List A). out ++ picked test n (drop i ys)) seen ∙ e

-- what is picked of things that are seen otherwise
pub picked_map : {A B : Type 0} (test : B → Bool) (f : A → B) (n : ℕ) (xs : List A) → picked (λ x. test (f x)) n xs ≡ picked test n (map f xs)
unfolding picked
picked_map test f n [] = refl
picked_map test f n (x ∷ xs) = ap (λ t. cond (test (f x)) (n ∷ t) t) (picked_map test f (n + 1) xs)
