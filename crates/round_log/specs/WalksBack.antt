use Rattle.std.specs.Prelude.{ℕ, suc, if◌then◌else◌, ◌==◌, nat_le, List, [], ◌∷◌, ◌++◌, map, reverse, take, drop}
use Rattle.std.specs.List.{list_any, list_all}
use Rattle.cons_graph.specs.{declared.edges.Edge.Edge, EdgeNumbers.edge_at}
use Rattle.round_log.specs.{declared.log.Entry.Entry, Looks.{latest, chain}}

-- the walk of a variable: the edges of the raises from its latest one back along `prev`, in reverse
abbrev pub walk_of : List Entry → ℕ → List ℕ
walk_of rs v = reverse (map (λ r. r.edge) (chain rs (latest rs v)))

-- the raises from the front up to the first one of a variable
abbrev pub up_to : ℕ → List Entry → List Entry
up_to v [] = []
up_to v (r ∷ rs) = if r.var == v then r ∷ [] else r ∷ up_to v rs

-- Going back along a chain, the first variable that is met a second time closes a loop: the raises between, in the
-- order of the walk. `met` are the raises met so far, the last one first.
abbrev pub loop_back : List Entry → List Entry → List Entry
loop_back met [] = []
loop_back met (r ∷ rs) = if list_any (λ q. q.var == r.var) met then up_to r.var met else loop_back (r ∷ met) rs

-- the place of the first least number
abbrev pub least_place : List ℕ → ℕ
least_place [] = 0
least_place (x ∷ xs) = if list_all (λ y. nat_le x y) xs then 0 else suc (least_place xs)

-- the list turned so that it begins at a place
abbrev pub turned_to : ℕ → List ℕ → List ℕ
turned_to p ks = drop p ks ++ take p ks

-- the edges of a closed walk, turned so that it begins at its variable of least number
abbrev pub turned : List Edge → List ℕ → List ℕ
turned edges ks = turned_to (least_place (map (λ k. (edge_at edges k).from) ks)) ks

-- the cycle of a log: the loop that the chain of its newest raise closes
abbrev pub cycle_of : List Edge → List Entry → List ℕ
cycle_of edges [] = []
cycle_of edges (r ∷ rs) = turned edges (map (λ q. q.edge) (loop_back [] (r ∷ chain rs r.prev)))
