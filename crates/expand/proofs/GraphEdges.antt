-- A constraint graph can be made of the structure of a cell.
use Rattle.std.proofs.Common.{◌≡◌, ◌≢◌, ℕ, ◌+◌, ◌<◌, ◌≤◌, false, eqb, ℤ, pos, negsuc, ◌+ℤ◌, ◌-ℤ◌, ◌≤ℤ◌, List, [], ◌∷◌}
use Rattle.std.proofs.Common.{◌++◌, length, refl, sym, ap, ◌∙◌, subst, arith, ◌⊎◌, inl, inr}
use Rattle.std.proofs.lemmas.{Bool.{eq-eqb, Decides.nat_tests}, List.Sums.count_by-le-length}
use Rattle.std.proofs.lemmas.{List.Elements.{All-from_recursion, recursion_from_All}, Int.ints}
use Rattle.std.specs.{Prelude.neg_ℤ, List.{range_with_len, AllByRecursion, Any}}
use Rattle.lam_geom.specs.declared.boxes.Axis.{Axis}
use Rattle.rule_table.specs.declared.{technology.Tech.Tech, classes.{Class.Class, Layer.{Layer, TheVariants.Diffusion}}}
use Rattle.rule_table.specs.declared.classes.Layer.TheVariants.{Poly, Metal}
use Rattle.rule_table.specs.{Technology.{numbers_of, margin_of, widest_of}, Bounds.IsSize}
use Rattle.rule_table.proofs.{Margins.{margin_low, margin_below, widest_positive, widest_below}, Widths.pad_bounds}
use Rattle.sym_items.specs.{declared.items.{End.End, Item.Item, Items.Items}, Transposed.item_along}
use Rattle.cons_graph.specs.declared.edges.{Edge.Edge, Why.{Why, TheVariants.{Extent, Margin, Limit as Limit_}}}
use Rattle.cons_graph.specs.Constraints.{IsEdgeAmong, LeadsFromOrigin, IsConstraintGraph}
use Rattle.stick_lex.specs.Numbers.{IsNumber}
use Rattle.cell_model.specs.declared.cell.{Axis2.Axis2, NodeKind.{NodeKind, TheVariants.{Joint, Contact, Buried, Fet}}}
use Rattle.cell_model.specs.declared.cell.{WireEnd.WireEnd, Wire.Wire, Limit.Limit, Nets.Nets, Cell.Cell}
use Rattle.cell_model.specs.{Wiring.{is_same_axis, node_pad}, Sound.{IsKind, IsEnd, IsWithinPad, IsWire, IsLimit}}
use Rattle.cell_model.specs.Sound.{IsSound, IsLight, node_at, wire_at}
use Rattle.cell_model.specs.declared.cell.WireEnd.TheVariants as ends
use Rattle.expand.specs.Variables.{half, centre, running, cross_of, crossing, variables_of, at_origin, at_far_border}
use Rattle.expand.specs.{Items.{item_list, AreItems}, Structure.{at_least, between, extent_edges, margin_edges, tied}}
use Rattle.expand.specs.Structure.{end_edges, wire_edges, overlap_edges, is_limit_of, limit_edge, limit_edges}
use Rattle.expand.specs.Structure.{size_edge, extents_of, overlaps_of, margins_of, limits_of, structure_of}
use Rattle.expand.specs.Bounds.{IsSmall, IsNear, IsSpanAmong, LiesAlong}
use Rattle.expand.proofs.{Cells.{node_sound, wire_sound}, Among.{sound_numbers, buried_size, list_lies, small_near}}
use Rattle.expand.proofs.{Among.cross_among, Reached.{by_test, BeginsBefore, items_begin, same_is}}
use Rattle.list_facts.proofs.{Elements.{all_append, all_flat, all_numbers, all_weaker}, Some.{any_here, any_there}}
use Rattle.list_facts.proofs.Some.{any_left, any_right, any_flat_map}

-- ---- inequalities between ends

-- the inequality of two ends, if they lie on different variables, of which the second is not the origin
between_among : (vars : ℕ) (low high : End) (len : ℤ) (why : Why) → low.var < vars → high.var < vars → IsNear low.off
    → IsNear high.off → IsNear len → (high.var ≡ 0 → low.var ≡ high.var)
    → AllByRecursion (IsEdgeAmong vars) (between low high len why)
between_among vars low high len why l h nl nh nn origin =
    let P : List Edge → Type 0 = AllByRecursion (IsEdgeAmong vars) in
    let a = nl.low in
    let b = nl.high in
    let c = nh.low in
    let d = nh.high in
    let e = nn.low in
    let f = nn.high in
    by_test (eqb low.var high.var)
    (λ t. let is : between low high len why ≡ [] = rw t refl in subst P (sym is) tt)
    (λ t.
    let is : between low high len why ≡ at_least low.var high.var ((len -ℤ high.off) +ℤ low.off) why ∷ [] = rw t refl in
    let differ : low.var ≢ high.var = λ same. let s = eq-eqb low.var high.var same in cc in
    subst P (sym is) (
      record {
        from_in_range = l;
        to_in_range = h;
        ends_differ = differ;
        not_into_origin = λ o. differ (origin o);
        length_low = omega (arith, ints);
        length_high = omega (arith, ints);
      },
      tt,
    ))

zero_near : IsNear (pos 0)
zero_near = record { low = omega (arith, ints); high = omega (arith, ints) }

margin_near : (tech : Tech) (class : Class) → IsNear (margin_of tech class)
margin_near tech class =
    let low : pos 0 ≤ℤ margin_of tech class = margin_low (numbers_of tech) class in
    let high : margin_of tech class ≤ℤ pos 4096 = margin_below (numbers_of tech) (sound_numbers tech) class in
    record { low = omega (arith, ints); high = omega (arith, ints) }

extent_among : (vars : ℕ) (i : Item) → IsSpanAmong vars i.xl i.xh i.least_x
    → AllByRecursion (IsEdgeAmong vars) (extent_edges i)
extent_among vars i s =
    between_among vars i.xl i.xh i.least_x Extent s.low_among.among s.high_among.among s.low_among.near
    s.high_among.near (small_near _ s.small) (λ o. absurd (s.after_origin o))

margin_among : (vars : ℕ) (tech : Tech) (i : Item) → 2 ≤ vars → IsSpanAmong vars i.xl i.xh i.least_x
    → AllByRecursion (IsEdgeAmong vars) (margin_edges tech i)
margin_among vars tech i two s =
    let m = margin_near tech i.class in
    all_append (IsEdgeAmong vars) (between at_origin i.xl (margin_of tech i.class) Margin)
    (between i.xh at_far_border (margin_of tech i.class) Margin)
    (between_among vars at_origin i.xl (margin_of tech i.class) Margin (omega arith) s.low_among.among zero_near
    s.low_among.near m (λ o. sym o))
    (between_among vars i.xh at_far_border (margin_of tech i.class) Margin s.high_among.among (omega arith)
    s.high_among.near zero_near m (λ o. absurd (let f : 1 ≡ 0 = o in omega arith)))

-- ---- the pads

node_pad_bounds : (tech : Tech) (layer : Layer) (kind : NodeKind) → IsKind tech kind
    → node_pad tech layer kind ≤ℤ pos 12288
node_pad_bounds tech layer (Joint own width) h = let a = h.0.high in omega (arith, ints)
node_pad_bounds tech layer (Contact lower) h = (pad_bounds (numbers_of tech) (sound_numbers tech)).1
node_pad_bounds tech layer Buried h = let a = (buried_size tech).high in omega (arith, ints)
node_pad_bounds tech Poly (Fet depletion gate w l) h = let a = h.1.high in omega (arith, ints)
node_pad_bounds tech Diffusion (Fet depletion gate w l) h = let a = h.0.high in omega (arith, ints)
node_pad_bounds tech Metal (Fet depletion gate w l) h = let a = h.0.high in omega (arith, ints)

half_small : (z : ℤ) → pos 0 ≤ℤ z → z ≤ℤ pos 12288 → IsSmall (half z)
half_small (pos n) l h = record { low = omega (arith, ints); high = omega (arith, ints) }
half_small (negsuc n) l h = absurd (omega (arith, ints))

tied_among : (vars terminal cross : ℕ) (slack : ℤ) → terminal < vars → cross < vars → (terminal ≡ cross → ⊥)
    → (terminal ≡ 0 → ⊥) → (cross ≡ 0 → ⊥) → IsSmall slack
    → AllByRecursion (IsEdgeAmong vars) (tied terminal cross slack)
tied_among vars terminal cross slack t c differ t0 c0 s =
    let a = s.low in
    let b = s.high in (
      record {
        from_in_range = t;
        to_in_range = c;
        ends_differ = differ;
        not_into_origin = c0;
        length_low = omega (arith, ints);
        length_high = omega (arith, ints);
      },
      (
        record {
          from_in_range = c;
          to_in_range = t;
          ends_differ = λ e. differ (sym e);
          not_into_origin = t0;
          length_low = omega (arith, ints);
          length_high = omega (arith, ints);
        },
        tt,
      ),
    )

end_among : (vars : ℕ) (tech : Tech) (cell : Cell) (wire : Wire) (cross : ℕ) (end : WireEnd) → IsSound tech cell
    → IsSize wire.width → IsEnd cell end → IsWithinPad tech cell wire end → 2 + length cell.nodes ≤ cross
    → cross < vars
    → AllByRecursion (IsEdgeAmong vars) (end_edges tech cell wire cross end)
end_among vars tech cell wire cross (ends.Port j) s w e p from lt = tt
end_among vars tech cell wire cross (ends.Node j) s w e p from lt =
    let kind = (node_at cell.nodes j).kind in
    let pad = node_pad_bounds tech wire.layer kind (node_sound tech cell j s e).kind in
    let j_lt : j < length cell.nodes = e in
    let wide : wire.width ≤ℤ node_pad tech wire.layer kind = p in
    let pad_high : node_pad tech wire.layer kind ≤ℤ pos 12288 = pad in
    let low = w.low in
    tied_among vars (centre j) cross (half (node_pad tech wire.layer kind -ℤ wire.width)) (omega arith) lt
    (λ same. omega arith) (λ same. omega arith) (λ same. omega arith)
    (half_small (node_pad tech wire.layer kind -ℤ wire.width) (omega (arith, ints)) (omega (arith, ints)))

wire_edges_among : (vars : ℕ) (axis : Axis) (tech : Tech) (cell : Cell) (wire : Wire) (cross : ℕ) → IsSound tech cell
    → IsWire tech cell wire → 2 + length cell.nodes ≤ cross → (wire.along ≡ crossing axis → cross < vars)
    → AllByRecursion (IsEdgeAmong vars) (wire_edges axis tech cell wire cross)
wire_edges_among vars axis tech cell wire cross s w from lt =
    let P : List Edge → Type 0 = AllByRecursion (IsEdgeAmong vars) in
    by_test (is_same_axis wire.along (crossing axis))
    (λ t.
    let is : wire_edges axis tech cell wire cross ≡ end_edges tech cell wire cross wire.low
    ++ end_edges tech cell wire cross wire.high = rw t refl in
    let c = lt (same_is wire.along (crossing axis) t) in
    subst P (sym is)
    (all_append (IsEdgeAmong vars) (end_edges tech cell wire cross wire.low)
    (end_edges tech cell wire cross wire.high)
    (end_among vars tech cell wire cross wire.low s w.size w.low w.low_pad from c)
    (end_among vars tech cell wire cross wire.high s w.size w.high w.high_pad from c)))
    (λ t. let is : wire_edges axis tech cell wire cross ≡ [] = rw t refl in subst P (sym is) tt)

overlap_among : (axis : Axis) (tech : Tech) (cell : Cell) (k : ℕ) → IsSound tech cell → k < length cell.wires
    → AllByRecursion (IsEdgeAmong (variables_of axis cell)) (overlap_edges axis tech cell k)
overlap_among axis tech cell k s lt =
    let C : Axis2 → Type 0 = λ a. cross_of cell k < 2 + length cell.nodes + running a cell.wires in
    wire_edges_among (variables_of axis cell) axis tech cell (wire_at cell.wires k) (cross_of cell k) s
    (wire_sound tech cell k s lt) (omega arith) (λ e. subst C e (cross_among cell k lt))

-- ---- limits

number_bounds : (n : ℤ) → IsNumber n → (neg_ℤ (pos 1000000) ≤ℤ n) × (n ≤ℤ pos 1000000)
number_bounds (pos n) h = let a : n ≤ 1000000 = h in (omega (arith, ints), omega (arith, ints))
number_bounds (negsuc n) h = let a : n < 1000000 = h in (omega (arith, ints), omega (arith, ints))

limit_edge_among : (vars : ℕ) (cell : Cell) (limit : Limit) → IsLimit cell limit → 2 + length cell.nodes ≤ vars
    → IsEdgeAmong vars (limit_edge limit)
limit_edge_among vars cell limit h le =
    let b = number_bounds limit.n h.number in
    let low : neg_ℤ (pos 1000000) ≤ℤ limit.n = b.0 in
    let high : limit.n ≤ℤ pos 1000000 = b.1 in
    let a_lt = h.a in
    let b_lt = h.b in
    let apart : limit.a ≡ limit.b → ⊥ = h.apart in
    by_test limit.at_most
    (λ t.
    let is : limit_edge limit ≡ at_least (centre limit.b) (centre limit.a) (neg_ℤ limit.n) Limit_ = rw t refl in
    subst (IsEdgeAmong vars) (sym is)
    (record {
      from_in_range = omega arith;
      to_in_range = omega arith;
      ends_differ = λ e. apart (omega arith);
      not_into_origin = λ e. omega arith;
      length_low = omega (arith, ints);
      length_high = omega (arith, ints);
    }))
    (λ t.
    let is : limit_edge limit ≡ at_least (centre limit.a) (centre limit.b) limit.n Limit_ = rw t refl in
    subst (IsEdgeAmong vars) (sym is)
    (record {
      from_in_range = omega arith;
      to_in_range = omega arith;
      ends_differ = λ e. apart (omega arith);
      not_into_origin = λ e. omega arith;
      length_low = omega (arith, ints);
      length_high = omega (arith, ints);
    }))

limit_among : (vars : ℕ) (axis : Axis) (cell : Cell) (limit : Limit) → IsLimit cell limit
    → 2 + length cell.nodes ≤ vars → AllByRecursion (IsEdgeAmong vars) (limit_edges axis limit)
limit_among vars axis cell limit h le =
    let P : List Edge → Type 0 = AllByRecursion (IsEdgeAmong vars) in
    by_test (is_limit_of axis limit.axis)
    (λ t. let is : limit_edges axis limit ≡ limit_edge limit ∷ [] = rw t refl in subst P (sym is)
    (limit_edge_among vars cell limit h le, tt))
    (λ t. let is : limit_edges axis limit ≡ [] = rw t refl in subst P (sym is) tt)

-- ---- the structure

size_among : (vars : ℕ) (tech : Tech) → 2 ≤ vars → IsEdgeAmong vars (size_edge tech)
size_among vars tech two =
    let a : pos 1 ≤ℤ widest_of tech = widest_positive (numbers_of tech) (sound_numbers tech) in
    let b : widest_of tech ≤ℤ pos 4096 = widest_below (numbers_of tech) (sound_numbers tech) in
    record {
      from_in_range = omega arith;
      to_in_range = omega arith;
      ends_differ = λ e. omega arith;
      not_into_origin = λ e. omega arith;
      length_low = omega (arith, ints);
      length_high = omega (arith, ints);
    }

structure_among : (axis : Axis) (tech : Tech) (cell : Cell) (nets : Nets) → IsSound tech cell
    → AllByRecursion (IsEdgeAmong (variables_of axis cell)) (structure_of axis tech cell (item_list tech cell nets))
unfolding structure_of
structure_among axis tech cell nets s =
    let vars : ℕ = variables_of axis cell in
    let E : Edge → Type 0 = IsEdgeAmong vars in
    let items : List Item = item_list tech cell nets in
    let overlaps = overlaps_of axis tech cell in
    let margins = margins_of axis tech items in
    let limits = limits_of axis cell in
    let I : Item → Type 0 = LiesAlong axis cell in
    let among = recursion_from_All I items (list_lies tech cell nets s axis) in (
      size_among vars tech (omega arith),
      all_append E (extents_of axis items) (overlaps ++ (margins ++ limits))
          (all_flat E (λ (i : Item). extent_edges (item_along axis i)) items
          (all_weaker I (λ i. AllByRecursion E (extent_edges (item_along axis i)))
          (λ i h. extent_among vars (item_along axis i) h) items among))
          (all_append E overlaps (margins ++ limits)
          (all_flat E (overlap_edges axis tech cell) (range_with_len 0 (length cell.wires))
          (all_numbers (λ k. AllByRecursion E (overlap_edges axis tech cell k)) 0 (length cell.wires)
          (λ k le lt. overlap_among axis tech cell k s (omega arith))))
          (all_append E margins limits
          (all_flat E (λ (i : Item). margin_edges tech (item_along axis i)) items
          (all_weaker I (λ i. AllByRecursion E (margin_edges tech (item_along axis i)))
          (λ i h. margin_among vars tech (item_along axis i) (omega arith) h) items among))
          (all_flat E (limit_edges axis) cell.limits
          (all_weaker (IsLimit cell) (λ l. AllByRecursion E (limit_edges axis l))
          (λ l h. limit_among vars axis cell l h (omega arith)) cell.limits s.limits)))),
    )

-- a variable that is not the origin is the far border, or comes after it
after_origin_cases : (v : ℕ) → 1 ≤ v → (v ≡ 1) ⊎ (2 ≤ v)
after_origin_cases v h = grind arith

-- the margin of an item that begins at a variable leads from the origin to it
margin_leads : (tech : Tech) (v : ℕ) (i : Item) → 2 ≤ v → i.xl.var ≡ v → Any (LeadsFromOrigin v) (margin_edges tech i)
margin_leads tech v i from e =
    let low : List Edge = between at_origin i.xl (margin_of tech i.class) Margin in
    let high : List Edge = between i.xh at_far_border (margin_of tech i.class) Margin in
    let differ : eqb 0 i.xl.var ≡ false = grind (arith, nat_tests) in
    let edge : Edge = at_least 0 i.xl.var ((margin_of tech i.class -ℤ i.xl.off) +ℤ pos 0) Margin in
    let is : low ≡ edge ∷ [] = rw differ refl in
    let P : List Edge → Type 0 = Any (LeadsFromOrigin v) in
    any_left (LeadsFromOrigin v) low high (subst P (sym is) (any_here (LeadsFromOrigin v) edge [] (refl, e)))

-- an inequality leads from the origin to each other variable
structure_leads : (axis : Axis) (tech : Tech) (cell : Cell) (nets : Nets) (v : ℕ) → IsSound tech cell → 1 ≤ v
    → v < variables_of axis cell → Any (LeadsFromOrigin v) (structure_of axis tech cell (item_list tech cell nets))
unfolding structure_of
structure_leads axis tech cell nets v s from lt =
    let L : Edge → Type 0 = LeadsFromOrigin v in
    let items : List Item = item_list tech cell nets in
    let margins = margins_of axis tech items in
    let limits = limits_of axis cell in
    let rest = overlaps_of axis tech cell ++ (margins ++ limits) in
    elim (after_origin_cases v from) [
      | inl far ↦ any_here L (size_edge tech) (extents_of axis items ++ rest) (refl, sym far)
      | inr more ↦ any_there L (size_edge tech) (extents_of axis items ++ rest)
          (any_right L (extents_of axis items) rest
          (any_right L (overlaps_of axis tech cell) (margins ++ limits) (any_left L margins limits
          (any_flat_map (BeginsBefore axis v) L (λ (i : Item). margin_edges tech (item_along axis i)) items
          (λ i begins. margin_leads tech v (item_along axis i) more begins.on)
          (items_begin axis tech cell nets v s more lt)))))
    ]

-- a constraint graph can be made of the structure of a cell
pub structure_shape : (axis : Axis) (tech : Tech) (cell : Cell) (nets : Nets) → IsSound tech cell → IsLight cell
    → IsConstraintGraph
    (record { vars = variables_of axis cell; edges = structure_of axis tech cell (item_list tech cell nets) })
structure_shape axis tech cell nets s light =
    let few = count_by-le-length (λ (wire : Wire). is_same_axis wire.along (crossing axis)) cell.wires in
    let l : length cell.nodes + length cell.wires + length cell.limits ≤ 65536 = light in
    record {
      has_origin = omega arith;
      few_vars = omega arith;
      edges_among = All-from_recursion (IsEdgeAmong (variables_of axis cell))
          (structure_of axis tech cell (item_list tech cell nets)) (structure_among axis tech cell nets s);
      all_from_origin = λ v from lt. structure_leads axis tech cell nets v s from lt;
    }

-- the same of edges and items that are known to be those of the cell
pub shape_of : (axis : Axis) (tech : Tech) (cell : Cell) (items : Items) (edges : List Edge) → IsSound tech cell
    → IsLight cell → AreItems tech cell items → edges ≡ structure_of axis tech cell items.list
    → IsConstraintGraph (record { vars = variables_of axis cell; edges = edges })
shape_of axis tech cell items edges s light are e =
    let P : List Edge → Type 0 = λ es. IsConstraintGraph (record { vars = variables_of axis cell; edges = es }) in
    subst P (sym (e ∙ ap (λ (i : Items). structure_of axis tech cell i.list) are.are))
    (structure_shape axis tech cell are.nets s light)
