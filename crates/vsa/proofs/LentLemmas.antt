-- Nodes and states that are lent, as lists of both.
use Rattle.std.proofs.Common.{◌≡◌, List, [], ◌∷◌, ◌++◌, length, map, refl, sym, ◌∙◌, ap, arith}
use Rattle.std.specs.Borrow.{Bor}
use Rattle.call_strings.specs.declared.context.Node.{Node}
use Rattle.abs_state.specs.declared.state.AbsState.{AbsState as Held}
use Rattle.abs_state.specs.Views.{seen}
use Rattle.abs_steps.specs.Successors.{Placed, at_node}
use Rattle.transfer_flow.specs.Successors.{all_placed}
use Rattle.sweeps.specs.declared.row.Row.{Row}
use Rattle.sweeps.specs.Kept.{zip_with}
use Rattle.sweeps.specs.Sweeps.{AreRising, entry_of}
use Rattle.vsa.specs.Tables.{Table, table_of, state_of}
use Rattle.vsa.specs.Analysis.{Analysis, meaning_of, placed_of}
use Rattle.vsa.specs.Views.{tables_of, lent_tables, placed_with, NodesRise}

abbrev pub placed_at : Bor Node × Bor Table → Placed
placed_at o = at_node o.0.now (state_of o.1.now)

abbrev pub beside : Node → Table → Node × Table
beside n t = (n, t)

pub lent_placed : (xs : List (Bor Node × Bor Table)) → map placed_at xs ≡ placed_of (lent_tables xs)
lent_placed [] = refl
lent_placed (x ∷ xs) = ap (λ t. placed_at x ∷ t) (lent_placed xs)

pub tables_more : (xs : List (Node × Held)) (x : Node × Held) → tables_of (all_placed (xs ++ x ∷ [])) ≡ tables_of (all_placed xs) ++ (x.0, table_of (seen x.1)) ∷ []
tables_more [] x = refl
tables_more (y ∷ ys) x = ap (λ t. (y.0, table_of (seen y.1)) ∷ t) (tables_more ys x)

-- -- Rows that are split, and put side by side

zip_mapped : {A B C D : Type 0} (g : A → C → D) (f : B → C) (xs : List A) (ys : List B) → zip_with (λ x y. g x (f y)) xs ys ≡ zip_with g xs (map f ys)
zip_mapped g f [] ys = refl
zip_mapped g f (x ∷ xs) [] = refl
zip_mapped g f (x ∷ xs) (y ∷ ys) = ap (λ t. g x (f y) ∷ t) (zip_mapped g f xs ys)

rows_split : (rows : List (Row Node Table)) → zip_with at_node (map {B = Node} (λ r. r.place) rows) (map (λ r. state_of r.state) rows) ≡ placed_of (map entry_of rows)
rows_split [] = refl
rows_split (r ∷ rows) = ap (λ t. at_node r.place (state_of r.state) ∷ t) (rows_split rows)

pub split_placed : (nodes : List Node) (values : List Held) (rows : List (Row Node Table)) → nodes ≡ map {B = Node} (λ r. r.place) rows → map seen values ≡ map (λ r. state_of r.state) rows
    → placed_with nodes values ≡ placed_of (map entry_of rows)
split_placed nodes values rows ns vs = zip_mapped at_node seen nodes values ∙ (λ i. zip_with at_node (ns i) (vs i)) ∙ rows_split rows

tables_split : (nodes : List Node) (tables : List Table) → zip_with at_node nodes (map state_of tables) ≡ placed_of (zip_with beside nodes tables)
tables_split [] tables = refl
tables_split (n ∷ nodes) [] = refl
tables_split (n ∷ nodes) (t ∷ tables) = ap (λ l. at_node n (state_of t) ∷ l) (tables_split nodes tables)

pub beside_placed : (nodes : List Node) (values : List Held) (tables : List Table) → map state_of tables ≡ map seen values → placed_with nodes values ≡ placed_of (zip_with beside nodes tables)
beside_placed nodes values tables same = zip_mapped at_node seen nodes values ∙ ap (zip_with at_node nodes) (sym same) ∙ tables_split nodes tables

pub nodes_beside : (nodes : List Node) (tables : List Table) → length nodes ≡ length tables → map {B = Node} (λ e. e.0) (zip_with beside nodes tables) ≡ nodes
nodes_beside [] tables e = refl
nodes_beside (n ∷ nodes) [] e = absurd (omega (arith, e))
nodes_beside (n ∷ nodes) (t ∷ tables) e = ap (λ l. n ∷ l) (nodes_beside nodes tables (omega arith))

pub lent_nodes : (xs : List (Bor Node × Bor Table)) → map {B = Node} (λ e. e.0.now) xs ≡ map {B = Node} (λ e. e.0) (lent_tables xs)
lent_nodes [] = refl
lent_nodes (x ∷ xs) = ap (λ l. x.0.now ∷ l) (lent_nodes xs)

-- -- The order of nodes

pub nodes_rise : (x : Analysis) (ns : List Node) → AreRising (meaning_of x) ns → NodesRise ns
nodes_rise x [] r = tt
nodes_rise x (n ∷ ns) r = (r.0, nodes_rise x ns r.1)

pub rising_nodes : (x : Analysis) (ns : List Node) → NodesRise ns → AreRising (meaning_of x) ns
rising_nodes x [] r = tt
rising_nodes x (n ∷ ns) r = (r.0, rising_nodes x ns r.1)
