-- A queue of marked nodes.
use Rattle.std.proofs.Common.{◌≡◌, inl, inr, ⊎_elim, ℕ, ◌+◌, ◌<◌, ◌≤◌, Bool, true, false, cond, List, [], ◌∷◌, ◌++◌, length, get_or, set, take, replicate, sym, ◌∙◌, ap, subst, arith, IsTrue, length-set}
use Rattle.std.specs.Prelude.{Contains}
use Rattle.std.proofs.lemmas.List.{append-nil, take_more_set, get_or-replicate, length-replicate}
use Rattle.std.proofs.lemmas.List.Folds.{sum_by-replicate}
use Rattle.std.proofs.lemmas.List.Elements.{Contains-append_left, Contains-push, Contains-push_cases}
use Rattle.flow_graph.specs.Walks.{IsOn, unmarked}
use Rattle.flow_graph.proofs.WalkLemmas.{on-within, on-set, on-kept, on-why, unmarked-set}
use Rattle.slicer.specs.Search.{IsQueue, Adds}

unmarked-none : (n : ℕ) → unmarked (replicate n false) ≡ n
unfolding unmarked
unmarked-none n = let all = sum_by-replicate (λ mark. cond mark 0 1) n false in omega (arith, all)

pub queue-none : (marks : List Bool) (list : List ℕ) (size : ℕ) → marks ≡ replicate size false → length list ≡ size → IsQueue marks list 0
queue-none marks list size none len =
    let size_is : length marks ≡ size = ap (λ (ms : List Bool). length ms) none ∙ length-replicate size false in
    let left_is : unmarked marks ≡ size = ap unmarked none ∙ unmarked-none size in
    record {
      room = len ∙ sym size_is;
      left = omega (arith, left_is, size_is);
      marked = λ n. (
        λ on.
            let is : IsOn (replicate size false) n = subst (λ (ms : List Bool). IsOn ms n) none on in
            let within : n < size = subst (λ l. n < l) (length-replicate size false) (on-within (replicate size false) n is) in
            let off = get_or-replicate size n false false within in
            absurd (cc),
        λ among. let never : among.0 < 0 = among.1 in absurd (omega (arith, never)),
      );
    }

-- a node that isn't marked has room in the list
pub room-left : (marks : List Bool) (list : List ℕ) (count place : ℕ) → IsQueue marks list count → place < length marks → get_or marks place false ≡ false → count < length list
room-left marks list count place q within off =
    let more = unmarked-set marks place within off in
    let left = q.left in
    let room = q.room in
    omega (arith, more, left, room)

pub count-within : (marks : List Bool) (list : List ℕ) (count : ℕ) → IsQueue marks list count → count ≤ length list
count-within marks list count q = let left = q.left in let room = q.room in omega (arith, left, room)

pub queue-mark : (marks : List Bool) (list : List ℕ) (count node : ℕ) → IsQueue marks list count → node < length marks → get_or marks node false ≡ false → IsQueue (set marks node true) (set list count node) (count + 1)
queue-mark marks list count node q within off =
    let taken = take_more_set list count node (room-left marks list count node q within off) in
    record {
      room = length-set list count node ∙ q.room ∙ sym (length-set marks node true);
      left =
          let more = unmarked-set marks node within off in
          let left = q.left in
          omega (arith, more, left, length-set marks node true);
      marked = λ n. (
        λ on. subst (λ xs. Contains xs n) (sym taken)
            (⊎_elim (λ was. Contains-append_left (take count list) (node ∷ []) n ((q.marked n).0 was))
            (λ same. subst (λ m. Contains (take count list ++ node ∷ []) m) (sym same) (Contains-push (take count list) node))
            (on-why marks node n on)),
        λ among. ⊎_elim (λ was. on-kept marks node n within ((q.marked n).1 was))
            (λ same. subst (λ m. IsOn (set marks node true) m) same (on-set marks node within))
            (Contains-push_cases (take count list) node n (subst (λ xs. Contains xs n) taken among)),
      );
    }

-- what a mark adds where it is wished
abbrev pub IsNode : Bool → ℕ → ℕ → ℕ → Type 0
IsNode is_wished node size n = IsTrue is_wished × (n ≡ node) × (n < size)

pub adds-mark : (marks : List Bool) (list : List ℕ) (count node : ℕ) (is_wished : Bool) → is_wished ≡ true → IsQueue marks list count → node < length marks → get_or marks node false ≡ false → Adds (IsNode is_wished node (length marks)) (take count list) (take (count + 1) (set list count node))
adds-mark marks list count node is_wished wished q within off =
    let taken = take_more_set list count node (room-left marks list count node q within off) in
    record {
      rest = node ∷ [];
      goes_on = taken;
      why = λ n among.
          ⊎_elim (λ was. inl was) (λ same. inr (wished, sym same, subst (λ m. m < length marks) same within))
          (Contains-push_cases (take count list) node n (subst (λ xs. Contains xs n) taken among));
      has = λ n new. subst (λ xs. Contains xs n) (sym taken) (subst (λ m. Contains (take count list ++ node ∷ []) m) (sym new.1) (Contains-push (take count list) node));
    }

adds-nothing : (P : ℕ → Type 0) (xs : List ℕ) → ((n : ℕ) → P n → Contains xs n) → Adds P xs xs
adds-nothing P xs there = record { rest = []; goes_on = sym (append-nil xs); why = λ n among. inl among; has = there }

pub adds-unwished : (xs : List ℕ) (size node : ℕ) (is_wished : Bool) → ¬ IsTrue is_wished → Adds (IsNode is_wished node size) xs xs
adds-unwished xs size node is_wished not_wished = adds-nothing (IsNode is_wished node size) xs (λ n new. absurd (not_wished new.0))

pub adds-past : (list : List ℕ) (size count node : ℕ) (is_wished : Bool) → size ≤ node → Adds (IsNode is_wished node size) (take count list) (take count list)
adds-past list size count node is_wished past =
    adds-nothing (IsNode is_wished node size) (take count list) (λ n new. let same : n ≡ node = new.1 in let within : n < size = new.2 in absurd (omega (arith, past, same, within)))

pub adds-marked : (marks : List Bool) (list : List ℕ) (count node : ℕ) (is_wished : Bool) → IsQueue marks list count → get_or marks node false ≡ true → Adds (IsNode is_wished node (length marks)) (take count list) (take count list)
adds-marked marks list count node is_wished q on =
    adds-nothing (IsNode is_wished node (length marks)) (take count list) (λ n new. subst (λ m. Contains (take count list) m) (sym new.1) ((q.marked node).0 on))
