-- The structure of a cell on an axis: the inequalities that hold in every layout of it. All is said of axis x; on y
-- the items are transposed, and wires that run across have their cross coordinates there.
use Rattle.std.specs.Prelude.{ℕ, ◌==◌, ℤ, ◌+ℤ◌, ◌-ℤ◌, neg_ℤ, Bool, List, [], ◌∷◌, ◌++◌, length, flat_map, if◌then◌else◌}
use Rattle.std.specs.List.{range_with_len}
use Rattle.lam_geom.specs.declared.boxes.Axis.{Axis, TheVariants.{X, Y}}
use Rattle.rule_table.specs.{declared.technology.Tech.Tech, Technology.{margin_of, widest_of}}
use Rattle.sym_items.specs.{declared.items.{End.End, Item.Item}, Transposed.item_along}
use Rattle.cons_graph.specs.declared.edges.{Edge.Edge, Why.{Why, TheVariants.{Size, Extent, Overlap, Margin, Limit}}}
use Rattle.cell_model.specs.declared.cell.{Axis2.{Axis2, TheVariants.{Across, Up}}, WireEnd.WireEnd, Wire.Wire}
use Rattle.cell_model.specs.{declared.cell.Cell.Cell, Wiring.{is_same_axis, node_pad}, Sound.{node_at, wire_at}}
use Rattle.cell_model.specs.declared.cell.WireEnd.TheVariants as ends
use Rattle.cell_model.specs.declared.cell.Limit as limits
use Rattle.expand.specs.Variables.{half, centre, cross_of, crossing, at_origin, at_far_border}

-- the inequality: the value of the head less that of the tail is at least len
abbrev pub at_least : ℕ → ℕ → ℤ → Why → Edge
at_least tail head len why = record { from = tail; to = head; len = len; why = why }

-- the inequality: the high end less the low end is at least len. Where both lie on one variable it compares constants
abbrev pub between : End → End → ℤ → Why → List Edge
between low high len why = if low.var == high.var then []
    else at_least low.var high.var ((len -ℤ high.off) +ℤ low.off) why ∷ []

-- an item has its least extent
abbrev pub extent_edges : Item → List Edge
extent_edges i = between i.xl i.xh i.least_x Extent

-- an item keeps the margin of its class to the origin and to the far border, but for an end that lies on the border
abbrev pub margin_edges : Tech → Item → List Edge
margin_edges tech i = between at_origin i.xl (margin_of tech i.class) Margin
    ++ between i.xh at_far_border (margin_of tech i.class) Margin

-- two variables differ by at most the slack
abbrev pub tied : ℕ → ℕ → ℤ → List Edge
tied terminal cross slack = at_least terminal cross (neg_ℤ slack) Overlap ∷ at_least cross terminal (neg_ℤ slack)
    Overlap ∷ []

-- the cross coordinate of a wire leaves that of the node at which it ends by no more than it may move on the node's
-- pad; a port has none
abbrev pub end_edges : Tech → Cell → Wire → ℕ → WireEnd → List Edge
end_edges tech cell wire cross (ends.Node j) =
    tied (centre j) cross (half (node_pad tech wire.layer (node_at cell.nodes j).kind -ℤ wire.width))
end_edges tech cell wire cross (ends.Port j) = []

abbrev pub wire_edges : Axis → Tech → Cell → Wire → ℕ → List Edge
wire_edges axis tech cell wire cross =
    if is_same_axis wire.along (crossing axis) then end_edges tech cell wire cross wire.low
    ++ end_edges tech cell wire cross wire.high else []

-- the same of wire k, if it has its cross coordinate on this axis
abbrev pub overlap_edges : Axis → Tech → Cell → ℕ → List Edge
overlap_edges axis tech cell k = wire_edges axis tech cell (wire_at cell.wires k) (cross_of cell k)

-- the axis of a limit is this one
abbrev pub is_limit_of : Axis → Axis2 → Bool
is_limit_of X along = is_same_axis along Across
is_limit_of Y along = is_same_axis along Up

-- a limit of the user's: b less a is at least n, or at most n
abbrev pub limit_edge : limits.Limit → Edge
limit_edge limit = if limit.at_most then at_least (centre limit.b) (centre limit.a) (neg_ℤ limit.n) Limit
    else at_least (centre limit.a) (centre limit.b) limit.n Limit

abbrev pub limit_edges : Axis → limits.Limit → List Edge
limit_edges axis limit = if is_limit_of axis limit.axis then limit_edge limit ∷ [] else []

-- the cell is at least as wide as the widest spacing
abbrev pub size_edge : Tech → Edge
size_edge tech = at_least 0 1 (widest_of tech) Size

-- those of the items, of the wires on their pads, and of the limits
abbrev pub extents_of : Axis → List Item → List Edge
extents_of axis items = flat_map (λ i. extent_edges (item_along axis i)) items

abbrev pub overlaps_of : Axis → Tech → Cell → List Edge
overlaps_of axis tech cell = flat_map (overlap_edges axis tech cell) (range_with_len 0 (length cell.wires))

abbrev pub margins_of : Axis → Tech → List Item → List Edge
margins_of axis tech items = flat_map (λ i. margin_edges tech (item_along axis i)) items

abbrev pub limits_of : Axis → Cell → List Edge
limits_of axis cell = flat_map (limit_edges axis) cell.limits

-- all inequalities of a cell, in the order of the five parts
unfoldable pub structure_of : Axis → Tech → Cell → List Item → List Edge
structure_of axis tech cell items =
    size_edge tech ∷
    (extents_of axis items ++ (overlaps_of axis tech cell ++ (margins_of axis tech items ++ limits_of axis cell)))
