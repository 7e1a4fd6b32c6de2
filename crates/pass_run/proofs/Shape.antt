-- A constraint graph can be made of the list of a pass.
use Rattle.std.proofs.Common.{◌≡◌, ◌≢◌, ℕ, ℤ, pos, ◌≤ℤ◌, List, ◌++◌, length, map, get_or, All, ap, arith, flat_map}
use Rattle.std.proofs.lemmas.{Int.ints, List.Elements.{All-append, All-map, All-weaker}}
use Rattle.lam_geom.specs.declared.boxes.Axis.{Axis}
use Rattle.rule_table.specs.declared.technology.Tech.{Tech}
use Rattle.cons_graph.specs.{declared.edges.Edge.Edge, Constraints.{IsEdgeAmong, LeadsFromOrigin, IsConstraintGraph}}
use Rattle.cons_graph.specs.Solutions.{value_of}
use Rattle.sym_items.specs.{declared.items.{Item.Item, Coords.Coords}, Layouts.layout_at, Transposed.values_along}
use Rattle.sym_items.specs.Values.{end_under}
use Rattle.cell_model.specs.declared.cell.Cell.{Cell}
use Rattle.expand.specs.{declared.master.Master.Master, Variables.variables_of, Bounds.LiesAlong, Laws.IsLawful}
use Rattle.list_facts.proofs.Some.{any_left}
use Rattle.pair_rules.specs.{declared.pairs.Pair.Pair, Bound.{item_at, no_item}, Candidates.{high_end, low_end, Keeps}}
use Rattle.pair_rules.{specs.Kept.kept_of, proofs.Pruning.{kept_among, kept_differs, candidates_apart}}
use Rattle.pitch_join.specs.{Masters.{master_at, master_numbers, no_master}, Joined.{base_of, system_variables}}
use Rattle.pitch_join.specs.Joined.{shifted, space_edge, kept_edges_at}
use Rattle.pitch_join.proofs.{Lists.of_numbered, Shape.shifted_among}
use Rattle.pass_run.{specs.Laid.{IsLaidOut, AreLaidOut}, proofs.Pairs.{IsSpaced, kept_pairs_among, kept_spaced}}

-- ---- the kept pairs of a master

-- the inequality of a pair that stands apart under values at which the first item ends at or above the origin
edge_among : (axis : Axis) (cell : Cell) (items : List Item) (x : ℕ → ℤ) (p : Pair) → x 0 ≡ pos 0
    → LiesAlong axis cell (item_at items p.i) → LiesAlong axis cell (item_at items p.j)
    → pos 0 ≤ℤ end_under x (high_end axis items p.i) → IsSpaced p
    → (high_end axis items p.i).var ≢ (low_end axis items p.j).var → Keeps axis x items p
    → IsEdgeAmong (variables_of axis cell) (space_edge axis items p)
edge_among axis cell items x p zero_there a b above spaced differ keeps =
    let high_low = a.high_among.near.low in
    let high_high = a.high_among.near.high in
    let low_low = b.low_among.near.low in
    let low_high = b.low_among.near.high in
    let s_low = spaced.0 in
    let s_high = spaced.1 in
    record {
      from_in_range = a.high_among.among;
      to_in_range = b.low_among.among;
      ends_differ = differ;
      not_into_origin = λ e.
          let off = b.at_origin e in
          let value : x (low_end axis items p.j).var ≡ x 0 = ap x e in
          omega (arith, ints, zero_there, above, keeps, s_low, off, value);
      length_low = omega (arith, ints, high_low, low_high, s_low);
      length_high = omega (arith, ints, high_high, low_low, s_high);
    }

own_among : (axis : Axis) (tech : Tech) (master : Master) (c : Coords) → IsLawful tech master → IsLaidOut tech master c
    → All (IsEdgeAmong (variables_of axis master.cell))
    (map (space_edge axis master.items.list) (kept_of axis tech c master.items.list))
own_among axis tech master c lawful laid =
    let items : List Item = master.items.list in
    let x : ℕ → ℤ = value_of (values_along axis c) in
    let pairs : List Pair = kept_of axis tech c items in
    let two = kept_pairs_among axis tech c items in
    let spaced = kept_spaced axis tech c items in
    let apart = kept_among axis tech c items (Keeps axis x items) (candidates_apart axis tech c items) in
    let lie = lawful.lie axis in
    All-map (IsEdgeAmong (variables_of axis master.cell)) (space_edge axis items) pairs (λ k d lt.
    let pair = two k d lt in
    edge_among axis master.cell items x (get_or pairs k d) (laid.of_master.origin axis)
    (lie (get_or pairs k d).i no_item pair.0) (lie (get_or pairs k d).j no_item pair.1)
    (laid.of_master.ends_above axis (get_or pairs k d).i no_item pair.0) (spaced k d lt)
    (kept_differs axis tech c items k d lt) (apart k d lt))

-- ---- the list

kept_edges_among : (axis : Axis) (tech : Tech) (masters : List Master) (layouts : List Coords)
    → All (IsLawful tech) masters → AreLaidOut tech masters layouts
    → All (IsEdgeAmong (system_variables axis masters))
    (flat_map (kept_edges_at axis tech masters layouts) (master_numbers masters))
kept_edges_among axis tech masters layouts lawful laid =
    let E : Edge → Type 0 = IsEdgeAmong (system_variables axis masters) in
    (of_numbered E (kept_edges_at axis tech masters layouts) (length masters)).1 (λ m lt.
    let master : Master = master_at masters m in
    let base : ℕ = base_of axis masters m in
    let own : List Edge = map (space_edge axis master.items.list)
    (kept_of axis tech (layout_at layouts m) master.items.list) in
    let S : Edge → Type 0 = λ e. E (shifted base e) in
    All-map E (shifted base) own
    (All-weaker (IsEdgeAmong (variables_of axis master.cell)) S (λ e h. shifted_among axis masters m e lt h) own
    (own_among axis tech master (layout_at layouts m) (lawful m no_master lt) (laid.each m lt))))

-- more inequalities among the variables
more_edges : (vars : ℕ) (edges more : List Edge) → IsConstraintGraph (record { vars = vars; edges = edges })
    → All (IsEdgeAmong vars) more → IsConstraintGraph (record { vars = vars; edges = edges ++ more })
more_edges vars edges more shape among = record {
  has_origin = shape.has_origin;
  few_vars = shape.few_vars;
  edges_among = All-append (IsEdgeAmong vars) edges more shape.edges_among among;
  all_from_origin = λ v from lt. any_left (LeadsFromOrigin v) edges more (shape.all_from_origin v from lt);
}

-- of what the code has
pub graph_shape : (axis : Axis) (tech : Tech) (masters : List Master) (layouts : List Coords) (vars : ℕ)
    (edges now : List Edge) → All (IsLawful tech) masters → AreLaidOut tech masters layouts
    → vars ≡ system_variables axis masters → IsConstraintGraph (record { vars = vars; edges = edges })
    → now ≡ edges ++ flat_map (kept_edges_at axis tech masters layouts) (master_numbers masters)
    → IsConstraintGraph (record { vars = vars; edges = now })
graph_shape axis tech masters layouts vars edges now lawful laid v shape is =
    rw is (more_edges vars edges _ shape (rw v (kept_edges_among axis tech masters layouts lawful laid)))
