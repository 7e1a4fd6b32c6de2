-- Under the numbers that the program ships with, the inequalities of plain cells are short.
use Rattle.std.proofs.Common.{◌≡◌, ℕ, ◌<◌, Bool, true, false, cond, ℤ, pos, negsuc, ◌+ℤ◌, ◌-ℤ◌, ◌≤ℤ◌, List, [], ◌∷◌}
use Rattle.std.proofs.{Common.{◌++◌, length, map, get_or, Some, sym, ap, subst, arith}, lemmas.Int.ints}
use Rattle.std.proofs.lemmas.List.Elements.{All-append, All-map}
use Rattle.std.specs.{Prelude.{◌==◌, IfSome, Option}, List.{All, AllByRecursion, flat_map, range_with_len}}
use Rattle.list_facts.proofs.Elements.{all_append, all_flat, all_numbers, all_map, all_of, all_at}
use Rattle.lam_geom.specs.declared.boxes.Axis.{Axis}
use Rattle.rule_table.specs.{declared.{classes.{Class.Class, Rule.Rule}, technology.Tech.Tech}, Keys.has_buried}
use Rattle.rule_table.specs.{Spacing.{spacing_in, greatest, margin_in, widest_in}, Technology.{numbers_of, spacing_of}}
use Rattle.rule_table.{specs.Technology.{margin_of, widest_of}, proofs.Margins.{margin_above, widest_above}}
use Rattle.cons_graph.specs.declared.edges.{Edge.Edge, Why.{Why, TheVariants.{Extent, Margin, Pitch, Port}}}
use Rattle.cell_model.specs.{declared.cell.{Cell.Cell, Limit.Limit, Wire.Wire, WireEnd.WireEnd}, Sound.node_at}
use Rattle.cell_model.specs.{Sound.{wire_at, IsWire, IsSound, IsWithinPad}, Wiring.{is_same_axis, node_pad}}
use Rattle.cell_model.specs.declared.cell.WireEnd.TheVariants as ends
use Rattle.sym_items.specs.{declared.items.{End.End, Item.Item, Coords.Coords}, Layouts.layout_at}
use Rattle.sym_items.specs.Transposed.{item_along}
use Rattle.expand.specs.{declared.master.Master.Master, Masters.IsMaster, Structure.{at_least, between, extent_edges}}
use Rattle.expand.specs.Structure.{margin_edges, end_edges, wire_edges, overlap_edges, limit_edges, extents_of}
use Rattle.expand.specs.{Structure.{overlaps_of, margins_of, limits_of, structure_of}, Variables.{half, cross_of}}
use Rattle.expand.{specs.Variables.{crossing, at_origin, at_far_border}, proofs.Cells.wire_sound}
use Rattle.pair_rules.specs.{declared.pairs.Pair.Pair, Bound.{item_at, no_item}, Candidates.facing_spacing}
use Rattle.pair_rules.{specs.Kept.kept_of, proofs.{BoundItems.out_of_bound, FacingItems.out_of_facing}}
use Rattle.pair_rules.proofs.{PairLists.all_candidates, Pruning.kept_among}
use Rattle.plan_model.specs.{declared.plan.{Match.Match, Plan.Plan, Same.Same}, Plan.{pitch_in, matches_in}}
use Rattle.pitch_join.specs.{Masters.{master_at, master_numbers, no_master}, Joined.{base_of, far_of, shifted}}
use Rattle.pitch_join.specs.Joined.{structure_at, equal_edges, pitch_edges, tied_edges, wire_var, port_edges}
use Rattle.pitch_join.specs.Joined.{structures_of, pitches_of, ports_of, fixed_of, space_edge, kept_edges_at}
use Rattle.pitch_join.{specs.Joined.pruned_system, proofs.Lists.of_numbered}
use Rattle.made_designs.proofs.{Plain.IsPlain, Tight.{IsShipped, IsTight, IsTightSpan, tight_along, items_tight}}

abbrev pub IsShort : Edge → Type 0
IsShort e = e.len ≤ℤ pos 32

-- ---- the numbers

widest_is : (tech : Tech) → IsShipped tech → widest_of tech ≡ pos 6
unfolding widest_in margin_in spacing_in greatest has_buried
widest_is tech shipped = ap widest_in shipped

margin_small : (tech : Tech) (class : Class) → IsShipped tech → margin_of tech class ≤ℤ pos 6
margin_small tech class shipped =
    (let above = widest_above (numbers_of tech) class in omega (arith, ints, above, widest_is tech shipped))

rule_small : (tech : Tech) (a b : Class) (o : Option Rule) (rule : Rule) → IsShipped tech → o ≡ Some rule
    → IfSome o (λ r. r.s ≤ℤ margin_of tech a) → rule.s ≤ℤ pos 6
rule_small tech a b o rule shipped is h =
    let here : rule.s ≤ℤ margin_of tech a = subst (λ (p : Option Rule). IfSome p (λ r. r.s ≤ℤ margin_of tech a)) is h in
    omega (arith, ints, here, margin_small tech a shipped)

-- the spacing of a candidate
spacing_small : (axis : Axis) (tech : Tech) (c : Coords) (a b : Item) (s : ℤ) → IsShipped tech
    → facing_spacing axis tech c a b ≡ Some s → s ≤ℤ pos 6
spacing_small axis tech c a b s shipped faces =
    let bound = out_of_bound tech a b s (out_of_facing axis tech c a b s faces).bound in
    subst (λ (z : ℤ). z ≤ℤ pos 6) bound.spacing
    (rule_small tech a.class b.class (spacing_of tech a.class b.class) bound.rule shipped bound.ruled
    (margin_above (numbers_of tech) a.class b.class))

-- ---- the structure

between_short : (low high : End) (len : ℤ) (why : Why) → ((len -ℤ high.off) +ℤ low.off) ≤ℤ pos 32
    → AllByRecursion IsShort (between low high len why)
between_short low high len why h = by (low.var == high.var)
  where
    by : (same : Bool)
        → AllByRecursion IsShort (cond same [] (at_least low.var high.var ((len -ℤ high.off) +ℤ low.off) why ∷ []))
    by true = tt
    by false = (h, tt)

extent_short : (i : Item) → IsTightSpan i.xl i.xh i.least_x → AllByRecursion IsShort (extent_edges i)
extent_short i tight =
    let a = tight.low_below in
    let b = tight.high_above in
    let c = tight.least_below in
    between_short i.xl i.xh i.least_x Extent (omega (arith, ints, a, b, c))

margin_short : (tech : Tech) (i : Item) → IsShipped tech → IsTightSpan i.xl i.xh i.least_x
    → AllByRecursion IsShort (margin_edges tech i)
margin_short tech i shipped tight =
    let a = tight.low_above in
    let b = tight.high_below in
    let m = margin_small tech i.class shipped in
    all_append IsShort (between at_origin i.xl (margin_of tech i.class) Margin)
    (between i.xh at_far_border (margin_of tech i.class) Margin)
    (between_short at_origin i.xl (margin_of tech i.class) Margin (omega (arith, ints, a, m)))
    (between_short i.xh at_far_border (margin_of tech i.class) Margin (omega (arith, ints, b, m)))

half_low : (z : ℤ) → pos 0 ≤ℤ z → pos 0 ≤ℤ half z
half_low (pos n) low = omega (arith, ints)
half_low (negsuc n) low = absurd (omega (arith, ints, low))

end_short : (tech : Tech) (cell : Cell) (wire : Wire) (cross : ℕ) (end : WireEnd) → IsWithinPad tech cell wire end
    → AllByRecursion IsShort (end_edges tech cell wire cross end)
end_short tech cell wire cross (ends.Port j) wide = tt
end_short tech cell wire cross (ends.Node j) wide =
    let slack : ℤ = node_pad tech wire.layer (node_at cell.nodes j).kind -ℤ wire.width in
    let within : wire.width ≤ℤ node_pad tech wire.layer (node_at cell.nodes j).kind = wide in
    let low : pos 0 ≤ℤ half slack = half_low slack (omega (arith, ints, within)) in
    (omega (arith, ints, low), (omega (arith, ints, low), tt))

wire_short : (axis : Axis) (tech : Tech) (cell : Cell) (wire : Wire) (cross : ℕ) → IsWire tech cell wire
    → AllByRecursion IsShort (wire_edges axis tech cell wire cross)
wire_short axis tech cell wire cross is = by (is_same_axis wire.along (crossing axis))
  where
    by : (same : Bool)
        → AllByRecursion IsShort
        (cond same (end_edges tech cell wire cross wire.low ++ end_edges tech cell wire cross wire.high) [])
    by true = all_append IsShort (end_edges tech cell wire cross wire.low) (end_edges tech cell wire cross wire.high)
        (end_short tech cell wire cross wire.low is.low_pad) (end_short tech cell wire cross wire.high is.high_pad)
    by false = tt

-- from each of some things
short_from : {A : Type 0} (f : A → List Edge) (P : A → Type 0) → ((a : A) → P a → AllByRecursion IsShort (f a))
    → (xs : List A) → AllByRecursion P xs → AllByRecursion IsShort (flat_map f xs)
short_from f P each [] all = tt
short_from f P each (x ∷ xs) all =
    all_append IsShort (f x) (flat_map f xs) (each x all.0) (short_from f P each xs all.1)

structure_short : (axis : Axis) (tech : Tech) (cell : Cell) (items : List Item) (most_nodes most_wires : ℕ)
    → IsShipped tech → IsSound tech cell → IsPlain tech most_nodes most_wires cell → AllByRecursion IsTight items
    → AllByRecursion IsShort (structure_of axis tech cell items)
unfolding structure_of
structure_short axis tech cell items most_nodes most_wires shipped sound plain tight =
    let extents = short_from (λ i. extent_edges (item_along axis i)) IsTight
    (λ i h. extent_short (item_along axis i) (tight_along axis i h)) items tight in
    let margins = short_from (λ i. margin_edges tech (item_along axis i)) IsTight
    (λ i h. margin_short tech (item_along axis i) shipped (tight_along axis i h)) items tight in
    let overlaps = all_flat IsShort (overlap_edges axis tech cell) (range_with_len 0 (length cell.wires))
    (all_numbers (λ k. AllByRecursion IsShort (overlap_edges axis tech cell k)) 0 (length cell.wires)
    (λ k le lt. wire_short axis tech cell (wire_at cell.wires k) (cross_of cell k)
    (wire_sound tech cell k sound (omega (arith, lt))))) in
    let limits = subst (λ (ls : List Limit). AllByRecursion IsShort (flat_map (limit_edges axis) ls))
    (sym plain.limits) tt in
    let size = widest_is tech shipped in (
      omega (arith, ints, size),
      all_append IsShort (extents_of axis items)
          (overlaps_of axis tech cell ++ (margins_of axis tech items ++ limits_of axis cell)) extents
          (all_append IsShort (overlaps_of axis tech cell) (margins_of axis tech items ++ limits_of axis cell)
          overlaps (all_append IsShort (margins_of axis tech items) (limits_of axis cell) margins limits)),
    )

-- ---- a plan

equal_short : (a b : ℕ) (why : Why) → AllByRecursion IsShort (equal_edges a b why)
equal_short a b why = (omega (arith, ints), (omega (arith, ints), tt))

tied_short : (a b : ℕ) → AllByRecursion IsShort (tied_edges a b)
tied_short a b = by (a == b)
  where
    by : (same : Bool) → AllByRecursion IsShort (cond same [] (equal_edges a b Port))
    by true = tt
    by false = equal_short a b Port

any_of : {A : Type 0} (xs : List A) → AllByRecursion (λ _. Unit {0}) xs
any_of [] = tt
any_of (x ∷ xs) = (tt, any_of xs)

-- masters of plain cells, all of the shipped numbers
pub record ArePlain (tech : Tech) (most_nodes most_wires : ℕ) (masters : List Master) : Type 0 where
  pub shipped : IsShipped tech
  pub are : All (IsMaster tech) masters
  pub plain : All (λ (master : Master). IsPlain tech most_nodes most_wires master.cell) masters

module _ (axis : Axis) (tech : Tech) (plan : Plan) (masters : List Master) (layouts : List Coords)
    (most_nodes most_wires : ℕ) (h : ArePlain tech most_nodes most_wires masters) where
  is_master : (m : ℕ) → m < length masters → IsMaster tech (master_at masters m)
  is_master m lt = h.are m no_master lt

  tight : (m : ℕ) → m < length masters → AllByRecursion IsTight (master_at masters m).items.list
  tight m lt =
      let master : Master = master_at masters m in
      let is = is_master m lt in
      items_tight tech master.cell master.items most_nodes most_wires h.shipped is.sound (h.plain m no_master lt)
      is.items

  structures_short : AllByRecursion IsShort (structures_of axis tech masters)
  structures_short =
      all_flat IsShort (structure_at axis tech masters) (master_numbers masters)
      (all_numbers (λ m. AllByRecursion IsShort (structure_at axis tech masters m)) 0 (length masters) (λ m le lt. (
      let among : m < length masters = omega (arith, lt) in
      let master : Master = master_at masters m in
      all_map IsShort (shifted (base_of axis masters m)) (structure_of axis tech master.cell master.items.list)
      (structure_short axis tech master.cell master.items.list most_nodes most_wires h.shipped
      (is_master m among).sound (h.plain m no_master among) (tight m among)))))

  fixed_short : AllByRecursion IsShort (fixed_of axis tech plan masters)
  unfolding fixed_of
  fixed_short =
      all_append IsShort (structures_of axis tech masters)
      (pitches_of axis plan masters ++ ports_of axis plan masters) structures_short
      (all_append IsShort (pitches_of axis plan masters) (ports_of axis plan masters)
      (short_from (pitch_edges axis masters) (λ (s : Same). Unit {0})
      (λ same _. equal_short (far_of axis masters same.a) (far_of axis masters same.b) Pitch) (pitch_in axis plan)
      (any_of (pitch_in axis plan)))
      (short_from (port_edges axis masters) (λ (m : Match). Unit {0})
      (λ met _. tied_short (wire_var axis masters met.a met.a_wire) (wire_var axis masters met.b met.b_wire))
      (matches_in axis plan) (any_of (matches_in axis plan))))

  -- the two items of a pair, and its spacing
  record IsSmallPair (items : List Item) (p : Pair) : Type 0 where
    first : p.i < length items
    second : p.j < length items
    spacing : p.s ≤ℤ pos 6

  kept_short : (m : ℕ) → m < length masters → All IsShort (kept_edges_at axis tech masters layouts m)
  kept_short m lt =
      let items : List Item = (master_at masters m).items.list in
      let c : Coords = layout_at layouts m in
      let pairs : List Pair = kept_of axis tech c items in
      let small : All (IsSmallPair items) pairs =
      kept_among axis tech c items (IsSmallPair items)
      (all_candidates axis tech c items (IsSmallPair items)
      (λ i j s i_lt j_lt faces.
      record {
        first = i_lt;
        second = j_lt;
        spacing = spacing_small axis tech c (item_at items i) (item_at items j) s h.shipped faces;
      })) in
      All-map IsShort (shifted (base_of axis masters m)) (map (space_edge axis items) pairs)
      (All-map IsShort (space_edge axis items) pairs (λ k d k_lt. (
      let pair = small k d k_lt in
      let p : Pair = get_or pairs k d in
      let a = tight_along axis (item_at items p.i) (all_at IsTight items no_item p.i (tight m lt) pair.first) in
      let b = tight_along axis (item_at items p.j) (all_at IsTight items no_item p.j (tight m lt) pair.second) in
      let high = a.high_below in
      let low = b.low_above in
      let s = pair.spacing in
      omega (arith, ints, high, low, s))))

  pub list_short : All IsShort (pruned_system axis tech plan masters layouts)
  list_short =
      All-append IsShort (fixed_of axis tech plan masters)
      (flat_map (kept_edges_at axis tech masters layouts) (master_numbers masters))
      (all_of IsShort (fixed_of axis tech plan masters) fixed_short)
      ((of_numbered IsShort (kept_edges_at axis tech masters layouts) (length masters)).1 kept_short)
