-- Callers that are found once serve every link, and those of a link's parent are enough.
use Rattle.std.proofs.Common.{◌≡◌, ℕ, ◌==◌, Bool, true, false, cond, not, ◌&&◌, ◌||◌, List, [], ◌∷◌, ◌++◌, refl, sym, ◌∙◌, ap}
use Rattle.std.specs.Prelude.{map, filter}
use Rattle.std.specs.List.{flat_map}
use Rattle.std.proofs.lemmas.Grind.{flat_map-append}
use Rattle.std.proofs.lemmas.Bool.{false≢true, false_from_ne_true}
use Rattle.std.proofs.Math.Bool.{or-true}
use Rattle.image_map.specs.declared.image.Image.{Image}
use Rattle.image_map.specs.declared.region.Settings.{Settings}
use Rattle.call_strings.specs.declared.context.Node.{Node}
use Rattle.abs_semantics.specs.declared.parts.Link.{Link}
use Rattle.abs_semantics.specs.States.{AbsState as State}
use Rattle.abs_steps.specs.Calls.{returned}
use Rattle.abs_steps.specs.Places.{content_at}
use Rattle.abs_steps.specs.Successors.{Placed, States, at_node, moved_to, place_behind, goes_back_to, gone_back_to, young_links, returned_each}
use Rattle.transfer_flow.specs.Successors.{Caller, is_caller, is_parent, if_caller, if_near, behind, by_link}

module _ (image : Image) (settings : Settings) (s : States) (n : Node) where
  -- one that is no caller, one of another procedure, and one of the parent
  one : (parent : ℕ) (a : State) (c : Placed) (cs : List Placed) (p q : Bool)
      → map (gone_back_to image settings a) (cond (p && q) (c ∷ cs) cs)
      ≡ flat_map (λ (k : Caller). cond p (at_node (moved_to k.next k.node) a ∷ []) []) (cond q (record { node = c.node; next = place_behind (content_at image settings c.node.at) } ∷ []) []) ++ map (gone_back_to image settings a) cs
  one parent a c cs true true = refl
  one parent a c cs true false = refl
  one parent a c cs false true = refl
  one parent a c cs false false = refl

  of_one : (parent : ℕ) (a : State) (c : Placed) (q : Bool)
      → flat_map (λ (k : Caller). cond (c.node.context.proc == parent) (at_node (moved_to k.next k.node) a ∷ []) []) (cond q (record { node = c.node; next = place_behind (content_at image settings c.node.at) } ∷ []) [])
      ≡ flat_map (behind parent a) (cond q (record { node = c.node; next = place_behind (content_at image settings c.node.at) } ∷ []) [])
  of_one parent a c true = refl
  of_one parent a c false = refl

  by_callers : (l : Link) (a : State) (cs : List Placed)
      → map (gone_back_to image settings a) (filter (goes_back_to image settings s n l) cs) ≡ flat_map (behind l.parent a) (flat_map (if_caller image settings s n) cs)
  by_callers l a [] = refl
  by_callers l a (c ∷ cs) =
      one l.parent a c (filter (goes_back_to image settings s n l) cs) (c.node.context.proc == l.parent) (is_caller image settings s n c)
      ∙ ap (λ t. t ++ map (gone_back_to image settings a) (filter (goes_back_to image settings s n l) cs)) (of_one l.parent a c (is_caller image settings s n c))
      ∙ ap (λ t. flat_map (behind l.parent a) (if_caller image settings s n c) ++ t) (by_callers l a cs)
      ∙ sym (flat_map-append (behind l.parent a) (if_caller image settings s n c) (flat_map (if_caller image settings s n) cs))

  young_only : {B : Type 0} (g : Link → List B) (q : ℕ) (ls : List Link) → flat_map g (young_links q ls) ≡ flat_map (λ (l : Link). cond (l.child == q && not l.aged) (g l) []) ls
  young_only g q [] = refl
  young_only g q (l ∷ ls) = by_test (l.child == q && not l.aged) (young_only g q ls)
    where
      by_test : (b : Bool) → flat_map g (young_links q ls) ≡ flat_map (λ (m : Link). cond (m.child == q && not m.aged) (g m) []) ls
          → flat_map g (cond b (l ∷ young_links q ls) (young_links q ls)) ≡ cond b (g l) [] ++ flat_map (λ (m : Link). cond (m.child == q && not m.aged) (g m) []) ls
      by_test true h = ap (λ t. g l ++ t) h
      by_test false h = h

  each_link : (extra : ℕ) (a : State) → flat_map (by_link (flat_map (if_caller image settings s n) s.placed) n.context.proc extra a) a.links ≡ returned_each image settings s n extra a
  each_link extra a =
      sym (young_only (λ (l : Link). flat_map (behind l.parent (returned n.context.proc l.parent l.off extra a)) (flat_map (if_caller image settings s n) s.placed)) n.context.proc a.links)
      ∙ (λ i. flat_map (λ (l : Link). sym (by_callers l (returned n.context.proc l.parent l.off extra a) s.placed) i) (young_links n.context.proc a.links))

  -- -- Callers of a link's parent

  -- a caller of another procedure isn't gone back to
  passed : (parent : ℕ) (b : State) (c : Placed) → (c.node.context.proc == parent) ≡ false → (q : Bool)
      → [] ≡ flat_map (behind parent b) (cond q (record { node = c.node; next = place_behind (content_at image settings c.node.at) } ∷ []) [])
  passed parent b c other true = ap (λ t. cond t (at_node (moved_to (place_behind (content_at image settings c.node.at)) c.node) b ∷ []) [] ++ []) (sym other)
  passed parent b c other false = refl

  module _ (ls : List Link) where
    near_one : (parent : ℕ) (b : State) (c : Placed) → ((c.node.context.proc == parent) ≡ true → is_parent n.context.proc ls c.node.context.proc ≡ true)
        → flat_map (behind parent b) (if_near image settings s n ls c) ≡ flat_map (behind parent b) (if_caller image settings s n c)
    near_one parent b c told = by_test (is_parent n.context.proc ls c.node.context.proc) refl
      where
        by_test : (t : Bool) → is_parent n.context.proc ls c.node.context.proc ≡ t
            → flat_map (behind parent b) (cond t (if_caller image settings s n c) []) ≡ flat_map (behind parent b) (if_caller image settings s n c)
        by_test true is = refl
        by_test false is =
            passed parent b c (false_from_ne_true (c.node.context.proc == parent) (λ yes. false≢true (sym is ∙ told yes))) (is_caller image settings s n c)

    near_all : (parent : ℕ) (b : State) → ((p : ℕ) → (p == parent) ≡ true → is_parent n.context.proc ls p ≡ true) → (cs : List Placed)
        → flat_map (behind parent b) (flat_map (if_near image settings s n ls) cs) ≡ flat_map (behind parent b) (flat_map (if_caller image settings s n) cs)
    near_all parent b told [] = refl
    near_all parent b told (c ∷ cs) =
        flat_map-append (behind parent b) (if_near image settings s n ls c) (flat_map (if_near image settings s n ls) cs)
        ∙ (λ i. near_one parent b c (told c.node.context.proc) i ++ near_all parent b told cs i)
        ∙ sym (flat_map-append (behind parent b) (if_caller image settings s n c) (flat_map (if_caller image settings s n) cs))

    near_link : (extra : ℕ) (a : State) (l : Link) (t : Bool) → (t ≡ true → (p : ℕ) → (p == l.parent) ≡ true → is_parent n.context.proc ls p ≡ true)
        → cond t (flat_map (behind l.parent (returned n.context.proc l.parent l.off extra a)) (flat_map (if_near image settings s n ls) s.placed)) []
        ≡ cond t (flat_map (behind l.parent (returned n.context.proc l.parent l.off extra a)) (flat_map (if_caller image settings s n) s.placed)) []
    near_link extra a l true told = near_all l.parent (returned n.context.proc l.parent l.off extra a) (told refl) s.placed
    near_link extra a l false told = refl

    near_links : (extra : ℕ) (a : State) (xs : List Link) → ((p : ℕ) → is_parent n.context.proc xs p ≡ true → is_parent n.context.proc ls p ≡ true)
        → flat_map (by_link (flat_map (if_near image settings s n ls) s.placed) n.context.proc extra a) xs
        ≡ flat_map (by_link (flat_map (if_caller image settings s n) s.placed) n.context.proc extra a) xs
    near_links extra a [] told = refl
    near_links extra a (l ∷ xs) told =
        let here = λ (is : (l.child == n.context.proc && not l.aged) ≡ true) (p : ℕ) (yes : (p == l.parent) ≡ true). told p (λ i. (is i && yes i) || is_parent n.context.proc xs p) in
        let later = λ (p : ℕ) (yes : is_parent n.context.proc xs p ≡ true). told p (ap (λ t. ((l.child == n.context.proc && not l.aged) && p == l.parent) || t) yes ∙ or-true ((l.child == n.context.proc && not l.aged) && p == l.parent)) in
        λ i. near_link extra a l (l.child == n.context.proc && not l.aged) here i ++ near_links extra a xs later i

  pub each_near : (extra : ℕ) (a : State)
      → flat_map (by_link (flat_map (if_near image settings s n a.links) s.placed) n.context.proc extra a) a.links ≡ returned_each image settings s n extra a
  each_near extra a = near_links a.links extra a a.links (λ p yes. yes) ∙ each_link extra a
