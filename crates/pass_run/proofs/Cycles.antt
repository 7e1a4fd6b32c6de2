-- Of one master: a walk along inequalities of kept pairs, and along extents of the items between, implies the
-- inequality of each candidate.
use Rattle.std.proofs.Common.{◌≡◌, ℕ, ◌<◌, Bool, true, false, cond, eqb, ℤ, ◌+ℤ◌, ◌-ℤ◌, ◌≤ℤ◌, List, [], ◌∷◌, ◌++◌}
use Rattle.std.proofs.Common.{length, map, Some, refl, ap, inl, inr, arith, All, Contains, flat_map}
use Rattle.std.proofs.lemmas.{Int.ints, Bool.{cases_eq, ne_eqb, eqb-true}, List.Elements.{All-nil, All-cons}}
use Rattle.std.proofs.lemmas.List.Elements.{All-append, All-contains, All-contains_itself, recursion_from_All}
use Rattle.std.specs.List.{AllByRecursion}
use Rattle.lam_geom.specs.declared.boxes.Axis.{Axis}
use Rattle.rule_table.specs.declared.technology.Tech.{Tech}
use Rattle.cons_graph.specs.{declared.edges.{Edge.Edge, Why.{Why, TheVariants.{Extent, Space}}}, Walks.IsWalk}
use Rattle.cons_graph.{specs.Walks.walk_length, proofs.Tests.walk_length-append}
use Rattle.round_log.{specs.Implied.IsImpliedBy, proofs.Walking.IsWalk-append}
use Rattle.sym_items.specs.{declared.items.{End.End, Item.Item, Coords.Coords}, Boxes.HasBox, Transposed.item_along}
use Rattle.sym_items.specs.{Transposed.values_along, Values.{value_of, end_under}}
use Rattle.cell_model.specs.declared.cell.Cell.{Cell}
use Rattle.list_facts.proofs.Elements.{all_of, all_parts, all_unmap, all_flat, all_pieces}
use Rattle.expand.specs.{declared.master.Master.Master, Structure.{at_least, between, extent_edges, structure_of}}
use Rattle.expand.specs.{Bounds.FitsOn, Laws.IsLawful}
use Rattle.pair_rules.specs.{declared.pairs.Pair.Pair, Bound.{item_at, no_item}, Candidates.{spacing_at, candidates_of}}
use Rattle.pair_rules.specs.{Candidates.{high_end, low_end, Keeps}, Kept.{is_kept, kept_of}}
use Rattle.pair_rules.proofs.{PairLists.{of_filtered, all_candidates, is_candidate}, Pruning.shows_of_candidates}
use Rattle.pair_rules.proofs.Pruning.{candidates_apart}
use Rattle.pitch_join.specs.Joined.{space_edges, space_edge}

-- the structure of a master, and the inequalities of its kept pairs, over its own variables
abbrev pub own_list : Axis → Tech → Master → Coords → List Edge
own_list axis tech master c = structure_of axis tech master.cell master.items.list
    ++ map (space_edge axis master.items.list) (kept_of axis tech c master.items.list)

-- ---- walks between ends

-- A walk among some inequalities keeps one end at least so far below another. It may be empty, where both lie on one
-- variable.
record IsKeptApart (edges : List Edge) (low high : End) (len : ℤ) : Type 0 where
  pub walk : List Edge
  pub of_these : All (Contains edges) walk
  pub leads : IsWalk low.var walk high.var
  pub long : (len +ℤ low.off) ≤ℤ (walk_length walk +ℤ high.off)

on_one_variable : (edges : List Edge) (low high : End) (len : ℤ) → low.var ≡ high.var → (low.off +ℤ len) ≤ℤ high.off
    → IsKeptApart edges low high len
on_one_variable edges low high len same fits =
    record { walk = []; of_these = All-nil (Contains edges); leads = same; long = omega (arith, ints, fits) }

by_inequality : (edges : List Edge) (low high : End) (len : ℤ) (why : Why)
    → (let e : Edge = at_least low.var high.var ((len -ℤ high.off) +ℤ low.off) why in Contains edges e)
    → IsKeptApart edges low high len
by_inequality edges low high len why among =
    let e : Edge = at_least low.var high.var ((len -ℤ high.off) +ℤ low.off) why in
    record {
      walk = e ∷ [];
      of_these = All-cons (Contains edges) e [] among (All-nil (Contains edges));
      leads = (refl, refl);
      long = omega (arith, ints);
    }

-- two walks, one after the other
joined : (edges : List Edge) (a b c : End) (first second both : ℤ) → IsKeptApart edges a b first
    → IsKeptApart edges b c second → both ≤ℤ (first +ℤ second) → IsKeptApart edges a c both
joined edges a b c first second both u v far =
    let u_long = u.long in
    let v_long = v.long in
    let sum = walk_length-append u.walk v.walk in
    record {
      walk = u.walk ++ v.walk;
      of_these = All-append (Contains edges) u.walk v.walk u.of_these v.of_these;
      leads = IsWalk-append a.var u.walk b.var v.walk c.var u.leads v.leads;
      long = omega (arith, ints, u_long, v_long, sum, far);
    }

-- what holds of the inequality between two ends, which is there where they lie on different variables alone
pub the_one : (P : Edge → Type 0) (same : Bool) (e : Edge) → AllByRecursion P (cond same [] (e ∷ [])) → same ≡ false
    → P e
the_one P true e h differ = cc
the_one P false e h differ = h.0

-- what holds of the inequality between two ends, if there is one
at_most_one : (P : Edge → Type 0) (same : Bool) (e : Edge) → P e → AllByRecursion P (cond same [] (e ∷ []))
at_most_one P true e h = tt
at_most_one P false e h = (h, tt)

-- a walk stands for the inequality between two ends, and it for a walk
by_between : (edges : List Edge) (low high : End) (len : ℤ) (why : Why)
    → AllByRecursion (Contains edges) (between low high len why) → FitsOn low high len
    → IsKeptApart edges low high len
by_between edges low high len why among fits =
    elim (cases_eq low.var high.var) [
      | inl same ↦ on_one_variable edges low high len same (fits same)
      | inr differ ↦ by_inequality edges low high len why
          (the_one (Contains edges) (eqb low.var high.var) _ among (ne_eqb low.var high.var differ))
    ]

implies_between : (edges : List Edge) (low high : End) (len : ℤ) (why : Why) → IsKeptApart edges low high len
    → AllByRecursion (IsImpliedBy edges) (between low high len why)
implies_between edges low high len why w =
    let long = w.long in
    at_most_one (IsImpliedBy edges) (eqb low.var high.var) _
    (record { walk = w.walk; of_these = w.of_these; leads = w.leads; long = omega (arith, ints, long) })

-- ---- the list

-- the extents are part of the structure
extents_of : (edges : List Edge) (axis : Axis) (tech : Tech) (cell : Cell) (items : List Item)
    → AllByRecursion (Contains edges) (structure_of axis tech cell items)
    → All (λ (i : Item). AllByRecursion (Contains edges) (extent_edges (item_along axis i))) items
unfolding structure_of
extents_of edges axis tech cell items h =
    let f : Item → List Edge = λ i. extent_edges (item_along axis i) in
    all_of _ items (all_pieces (Contains edges) f items (all_parts (Contains edges) (flat_map f items) _ h.1).0)

-- What some inequalities have of a pass: walks that keep the ends of each item apart, and the inequalities of the
-- kept pairs.
record HasItsWalks (axis : Axis) (tech : Tech) (c : Coords) (items : List Item) (edges : List Edge) : Type 0 where
  pub long : All
      (λ (i : Item). IsKeptApart edges (item_along axis i).xl (item_along axis i).xh (item_along axis i).least_x)
      items
  pub spaces : All (λ (p : Pair). Contains edges (space_edge axis items p)) (kept_of axis tech c items)

has_its_walks : (axis : Axis) (tech : Tech) (master : Master) (c : Coords) → IsLawful tech master
    → HasItsWalks axis tech c master.items.list (own_list axis tech master c)
has_its_walks axis tech master c lawful =
    let items : List Item = master.items.list in
    let edges : List Edge = own_list axis tech master c in
    let kept : List Pair = kept_of axis tech c items in
    let L : Edge → Type 0 = Contains edges in
    let parts = all_parts L (structure_of axis tech master.cell items) (map (space_edge axis items) kept)
    (recursion_from_All L edges (All-contains_itself edges)) in
    let extents = extents_of edges axis tech master.cell items parts.0 in
    record {
      long = λ k d lt. by_between edges _ _ _ Extent (extents k d lt) (lawful.lie axis k d lt).fits;
      spaces = all_of _ kept (all_unmap L (space_edge axis items) kept parts.1);
    }

-- ends on one variable are as far apart as under any values
constants_apart : (x : ℕ → ℤ) (high low : End) (s : ℤ) → high.var ≡ low.var
    → s ≤ℤ (end_under x low -ℤ end_under x high) → (high.off +ℤ s) ≤ℤ low.off
constants_apart x high low s same apart = let at : x high.var ≡ x low.var = ap x same in omega (arith, ints, at, apart)

-- a walk keeps the ends of each candidate apart
candidate_walk : (axis : Axis) (tech : Tech) (c : Coords) (items : List Item) (edges : List Edge)
    → All (HasBox c) items → HasItsWalks axis tech c items edges → (i j : ℕ) (s : ℤ) → i < length items
    → j < length items → spacing_at axis tech c items i j ≡ Some s
    → IsKeptApart edges (high_end axis items i) (low_end axis items j) s
candidate_walk axis tech c items edges boxes walks =
    let x : ℕ → ℤ = value_of (values_along axis c) in
    let pairs : List Pair = candidates_of axis tech c items in
    let high : ℕ → End = high_end axis items in
    let low : ℕ → End = low_end axis items in
    let S : Pair → Type 0 = λ p. Contains edges (space_edge axis items p) in
    let K : Pair → Type 0 = λ p. is_kept axis tech c items p ≡ true → S p in
    shows_of_candidates axis tech c items (λ i j s. IsKeptApart edges (high i) (low j) s) boxes
    (λ i k j a b s k_lt first second far.
    let item : Item = item_along axis (item_at items k) in
    joined edges (high i) item.xh (low j) (a +ℤ item.least_x) b s
    (joined edges (high i) item.xl item.xh a item.least_x (a +ℤ item.least_x) first (walks.long k no_item k_lt)
    (omega (arith, ints))) second far)
    (λ i j s i_lt j_lt e constant.
    let same = eqb-true (high i).var (low j).var constant in
    let apart = All-contains (Keeps axis x items) pairs (record { i = i; j = j; s = s })
    (candidates_apart axis tech c items) (is_candidate axis tech c items i j s i_lt j_lt e) in
    on_one_variable edges (high i) (low j) s same (constants_apart x (high i) (low j) s same apart))
    (λ i j s i_lt j_lt e is. by_inequality edges (high i) (low j) s Space
    (All-contains K pairs (record { i = i; j = j; s = s })
    (of_filtered S (is_kept axis tech c items) pairs walks.spaces)
    (is_candidate axis tech c items i j s i_lt j_lt e) is))

-- so its list implies the inequality of each candidate
pub own_implied : (axis : Axis) (tech : Tech) (master : Master) (c : Coords) → IsLawful tech master
    → All (HasBox c) master.items.list
    → All (IsImpliedBy (own_list axis tech master c))
    (flat_map (space_edges axis master.items.list) (candidates_of axis tech c master.items.list))
own_implied axis tech master c lawful boxes =
    let items : List Item = master.items.list in
    let edges : List Edge = own_list axis tech master c in
    let pairs : List Pair = candidates_of axis tech c items in
    let I : Edge → Type 0 = IsImpliedBy edges in
    let P : Pair → Type 0 = λ p. AllByRecursion I (space_edges axis items p) in
    let implied : All P pairs = all_candidates axis tech c items P (λ i j s i_lt j_lt e.
    implies_between edges (high_end axis items i) (low_end axis items j) s Space
    (candidate_walk axis tech c items edges boxes (has_its_walks axis tech master c lawful) i j s i_lt j_lt e)) in
    all_of I (flat_map (space_edges axis items) pairs)
    (all_flat I (space_edges axis items) pairs (recursion_from_All P pairs implied))
