-- The ports of wires that end on a border, and what meets there.
use Rattle.std.proofs.Common.{◌≡◌, ℕ, zero, suc, ◌<◌, ◌≤◌, Bool, true, false, not, List, [], ◌∷◌, length, cond, Option}
use Rattle.std.proofs.{Common.{Some, None, refl, sym, ap, ◌∙◌, subst, arith, inl, inr}, lemmas.Bool.{and_parts, eq-eqb}}
use Rattle.std.proofs.lemmas.{Bool.Decides.Decides-int_eq, List.{get_or_default, Elements.Contains-get_or}}
use Rattle.std.specs.{Prelude.option_map, Ordering.int_eq, List.{Contains, filter, flat_map, zip}}
use Rattle.list_facts.proofs.Some.{contains_map}
use Rattle.lam_geom.specs.declared.boxes.{Axis.{Axis, TheVariants.{X, Y}}, Side.{Side, TheVariants.{Left, Right}}}
use Rattle.lam_geom.specs.declared.boxes.Side.TheVariants.{Bottom, Top}
use Rattle.rule_table.specs.declared.{technology.Tech.Tech, classes.Layer.{Layer, TheVariants.{Diffusion, Poly, Metal}}}
use Rattle.cell_model.specs.declared.cell.{Cell.Cell, CellPort.CellPort, Port.Port, Wire.Wire, WireEnd.WireEnd}
use Rattle.cell_model.specs.{Ports.{seen_port, ports_of_cell}, Sound.{wire_at, port_at, no_port, IsEnd, Takes, EndsAt}}
use Rattle.cell_model.specs.{Sound.{IsOnLowSide, IsOnHighSide, IsWire, IsSound}, Wiring.{axis_of, is_low_side}}
use Rattle.cell_model.specs.Wiring.{is_same_layer}
use Rattle.cell_model.specs.declared.cell.WireEnd.TheVariants as ends
use Rattle.expand.proofs.Cells.{wire_sound}
use Rattle.plan_model.specs.Borders.{is_same_side, layer_rank, port_rank, port_ranks, has_rank, in_order, is_on_side}
use Rattle.plan_model.specs.Borders.{side_ports, side_before, side_after, may_meet, misfit}
use Rattle.instance_laws.proofs.Lists.{in_flat_map, in_filter, in_range, out_of_flat_map, out_of_map}
use Rattle.instance_laws.proofs.{Lists.out_of_filter, OnBorder.{runs_along, other, wire_end}}
use Rattle.pitch_join.proofs.Planned.{same_side}

-- ---- sides and layers

-- the side at which wires along the axis have their low ends, and that of their high ends
abbrev pub side_at : Axis → Bool → Side
side_at axis true = side_after (other axis)
side_at axis false = side_before (other axis)

side_is : (axis : Axis) (is_low : Bool) (side : Side) → axis_of side ≡ runs_along axis → is_low_side side ≡ is_low
    → side ≡ side_at axis is_low
side_is X true Left a l = refl
side_is X false Right a l = refl
side_is Y true Bottom a l = refl
side_is Y false Top a l = refl
side_is _ _ _ a l = absurd cc

side_faces : (axis : Axis) (is_low : Bool) → (axis_of (side_at axis is_low) ≡ runs_along axis)
    × (is_low_side (side_at axis is_low) ≡ is_low)
side_faces X true = (refl, refl)
side_faces X false = (refl, refl)
side_faces Y true = (refl, refl)
side_faces Y false = (refl, refl)

side_itself : (side : Side) → is_same_side side side ≡ true
side_itself Left = refl
side_itself Right = refl
side_itself Bottom = refl
side_itself Top = refl

pub same_layer : (a b : Layer) → is_same_layer a b ≡ true → a ≡ b
same_layer Diffusion Diffusion e = refl
same_layer Poly Poly e = refl
same_layer Metal Metal e = refl
same_layer _ _ e = absurd cc

-- ---- the ports of a side

layer_low : (layer : Layer) → layer_rank layer ≤ 2
layer_low Diffusion = omega arith
layer_low Poly = omega arith
layer_low Metal = omega arith

in_ranks : (ranks : List ℕ) (ports : List CellPort) (port : CellPort) → Contains ranks (port_rank port)
    → Contains ports port → Contains (flat_map (λ rank. filter (has_rank rank) ports) ranks) port
in_ranks ranks ports port ranked among =
    in_flat_map (λ rank. filter (has_rank rank) ports) ranks (port_rank port) port ranked
    (in_filter (has_rank (port_rank port)) ports port among (eq-eqb (port_rank port) (port_rank port) refl))

in_side : (side : Side) (ports : List CellPort) (port : CellPort) → port.place ≤ 4095 → port.side ≡ side
    → Contains ports port → Contains (side_ports side ports) port
unfolding in_order
in_side side ports port near is among =
    let low = layer_low port.layer in
    let on : is_on_side side port ≡ true = ap (λ s. is_same_side s side) is ∙ side_itself side in
    in_ranks port_ranks (filter (is_on_side side) ports) port
    (in_range 12288 (port_rank port) (omega (arith, near, low))) (in_filter (is_on_side side) ports port among on)

out_of_side : (side : Side) (ports : List CellPort) (port : CellPort) → Contains (side_ports side ports) port
    → Contains ports port × (port.side ≡ side)
unfolding in_order
out_of_side side ports port h =
    let chosen : List CellPort = filter (is_on_side side) ports in
    let ranked = out_of_flat_map (λ rank. filter (has_rank rank) chosen) port_ranks port h in
    let own = out_of_filter (is_on_side side) ports port (out_of_filter (has_rank ranked.0) chosen port ranked.2).0 in
    (own.0, same_side port.side side own.1)

-- ---- ports of wires

-- a port lies on a low side, or on a high one
abbrev IsOnSide : Cell → Bool → WireEnd → Type 0
IsOnSide cell is_low (ends.Node k) = Unit {0}
IsOnSide cell is_low (ends.Port k) = is_low_side (port_at cell.ports k).side ≡ is_low

-- what an end of a wire meets
record IsSoundEnd (cell : Cell) (wire : Wire) (is_low : Bool) (end : WireEnd) : Type 0 where
  own : IsEnd cell end
  takes : Takes cell wire.layer wire.along end
  side : IsOnSide cell is_low end

end_sound : (tech : Tech) (cell : Cell) (wire : Wire) (is_low : Bool) → IsWire tech cell wire
    → IsSoundEnd cell wire is_low (wire_end is_low wire)
end_sound tech cell wire true h = record { own = h.low; takes = h.takes_low; side = on_low wire.low h.low_side }
  where
    on_low : (end : WireEnd) → IsOnLowSide cell end → IsOnSide cell true end
    on_low (ends.Node k) h = tt
    on_low (ends.Port k) h = h
end_sound tech cell wire false h = record { own = h.high; takes = h.takes_high; side = on_high wire.high h.high_side }
  where
    turned : (b : Bool) → not b ≡ true → b ≡ false
    turned false e = refl
    turned true e = absurd cc

    on_high : (end : WireEnd) → IsOnHighSide cell end → IsOnSide cell false end
    on_high (ends.Node k) h = tt
    on_high (ends.Port k) h = turned (is_low_side (port_at cell.ports k).side) h

-- a port as neighbours see it is that of a wire which runs along the axis and ends there
pub record IsPortOf (axis : Axis) (cell : Cell) (is_low : Bool) (w : ℕ) (port : CellPort) : Type 0 where
  pub among : w < length cell.wires
  pub seen : Contains (side_ports (side_at axis is_low) (ports_of_cell cell)) port
  pub wire : port.wire ≡ w
  pub width : port.width ≡ (wire_at cell.wires w).width
  pub layer : port.layer ≡ (wire_at cell.wires w).layer
  pub along : (wire_at cell.wires w).along ≡ runs_along axis
  pub number : ℕ
  pub ends : wire_end is_low (wire_at cell.wires w) ≡ ends.Port number

ends_at : (is_low : Bool) (wire : Wire) (end : WireEnd) → wire_end is_low wire ≡ end → EndsAt end wire
ends_at true wire end e = inl e
ends_at false wire end e = inr e

-- each such wire has a port
pub port_of_wire : (axis : Axis) (tech : Tech) (cell : Cell) (is_low : Bool) (w j : ℕ) → IsSound tech cell
    → w < length cell.wires → (wire_at cell.wires w).along ≡ runs_along axis
    → wire_end is_low (wire_at cell.wires w) ≡ ends.Port j
    → (port : CellPort) × IsPortOf axis cell is_low w port
port_of_wire axis tech cell is_low w j s lt along e =
    let wire : Wire = wire_at cell.wires w in
    let own : IsSoundEnd cell wire is_low (ends.Port j) =
    subst (IsSoundEnd cell wire is_low) e (end_sound tech cell wire is_low (wire_sound tech cell w s lt)) in
    let among : j < length cell.ports = own.own in
    let port : Port = port_at cell.ports j in
    let is_port = s.ports j among in
    let wire_is : w ≡ port.wire = is_port.only w lt (ends_at is_low wire (ends.Port j) e) in
    let side = side_is axis is_low port.side (own.takes.1 ∙ along) own.side in
    let listed : Contains (ports_of_cell cell) (seen_port cell.wires port) =
    contains_map (seen_port cell.wires) cell.ports port (Contains-get_or cell.ports j no_port among) in (
      seen_port cell.wires port,
      record {
        among = lt;
        seen = in_side (side_at axis is_low) (ports_of_cell cell) (seen_port cell.wires port) is_port.place side listed;
        wire = sym wire_is;
        width = ap (λ (k : ℕ). (wire_at cell.wires k).width) (sym wire_is);
        layer = same_layer port.layer wire.layer own.takes.0;
        along = along;
        number = j;
        ends = e;
      },
    )

-- the end of a wire that lies at a port of a low side is its low end, and of a high side its high one
end_there : (tech : Tech) (cell : Cell) (is_low : Bool) (wire : Wire) (j : ℕ) → IsWire tech cell wire
    → is_low_side (port_at cell.ports j).side ≡ is_low → EndsAt (ends.Port j) wire
    → wire_end is_low wire ≡ ends.Port j
end_there tech cell true wire j h side (inl e) = e
end_there tech cell false wire j h side (inr e) = e
end_there tech cell true wire j h side (inr e) = let k : IsSoundEnd cell wire false (ends.Port j) =
    subst (IsSoundEnd cell wire false) e (end_sound tech cell wire false h) in absurd
    (let both : true ≡ false = sym side ∙ k.side in cc)
end_there tech cell false wire j h side (inl e) = let k : IsSoundEnd cell wire true (ends.Port j) =
    subst (IsSoundEnd cell wire true) e (end_sound tech cell wire true h) in absurd
    (let both : true ≡ false = sym k.side ∙ side in cc)

-- each port of a side has such a wire
pub wire_of_port : (axis : Axis) (tech : Tech) (cell : Cell) (is_low : Bool) (port : CellPort) → IsSound tech cell
    → Contains (side_ports (side_at axis is_low) (ports_of_cell cell)) port
    → IsPortOf axis cell is_low port.wire port
wire_of_port axis tech cell is_low port s seen =
    let own = out_of_side (side_at axis is_low) (ports_of_cell cell) port seen in
    let source = out_of_map (seen_port cell.wires) cell.ports port own.0 in
    let j : ℕ = source.1.0 in
    let among : j < length cell.ports = source.1.1 in
    let at : port_at cell.ports j ≡ source.0 = get_or_default cell.ports j no_port source.0 among ∙ source.1.2 in
    let is : seen_port cell.wires (port_at cell.ports j) ≡ port = ap (seen_port cell.wires) at ∙ source.2 in
    subst (λ (z : CellPort). IsPortOf axis cell is_low z.wire z) is
    (of_port j among (ap (λ (z : CellPort). z.side) is ∙ own.1)
    (subst (Contains (side_ports (side_at axis is_low) (ports_of_cell cell))) (sym is) seen))
  where
    of_port : (j : ℕ) → j < length cell.ports → (port_at cell.ports j).side ≡ side_at axis is_low
        → Contains (side_ports (side_at axis is_low) (ports_of_cell cell))
        (seen_port cell.wires (port_at cell.ports j))
        → IsPortOf axis cell is_low (port_at cell.ports j).wire (seen_port cell.wires (port_at cell.ports j))
    of_port j lt side seen =
        let is_port = s.ports j lt in
        let w : ℕ = (port_at cell.ports j).wire in
        let wire : Wire = wire_at cell.wires w in
        let is_wire = wire_sound tech cell w s is_port.wire in
        let faces = side_faces axis is_low in
        let ends_there = end_there tech cell is_low wire j is_wire (ap is_low_side side ∙ faces.1) is_port.wired in
        let own : IsSoundEnd cell wire is_low (ends.Port j) =
        subst (IsSoundEnd cell wire is_low) ends_there (end_sound tech cell wire is_low is_wire) in
        record {
          among = is_port.wire;
          seen = seen;
          wire = refl;
          width = refl;
          layer = same_layer (port_at cell.ports j).layer wire.layer own.takes.0;
          along = sym own.takes.1 ∙ (ap axis_of side ∙ faces.0);
          number = j;
          ends = ends_there;
        }

-- ---- what meets

pub no_fault : (o : Option ℕ) → option_map suc o ≡ None → o ≡ None
no_fault None e = refl
no_fault (Some k) e = absurd cc

-- where two lists of ports fit, each of the second meets one of the first
pub port_met : (xs ys : List CellPort) (b : CellPort) → misfit xs ys ≡ None → Contains ys b
    → (a : CellPort) × Contains xs a × Contains (zip xs ys) (a, b) × (may_meet a b ≡ true)
port_met [] [] b e h = absurd (omega (arith, h.1))
port_met [] (y ∷ ys) b e h = absurd cc
port_met (x ∷ xs) [] b e h = absurd (omega (arith, h.1))
port_met (x ∷ xs) (y ∷ ys) b e h =
    let fits = by (may_meet x y) (misfit xs ys) e in
    first fits.0 h (λ k. port_met xs ys b (no_fault (misfit xs ys) fits.1) k)
  where
    by : (t : Bool) (rest : Option ℕ) → cond t (option_map suc rest) (Some 0) ≡ None
        → (t ≡ true) × (option_map suc rest ≡ None)
    by true rest e = (refl, e)
    by false rest e = absurd cc

    first : may_meet x y ≡ true → Contains (y ∷ ys) b
        → (Contains ys b → (a : CellPort) × Contains xs a × Contains (zip xs ys) (a, b) × (may_meet a b ≡ true))
        → (a : CellPort) × Contains (x ∷ xs) a × Contains ((x, y) ∷ zip xs ys) (a, b) × (may_meet a b ≡ true)
    first meet (zero, lt, e) rest = (
      x,
      (zero, omega arith, refl),
      (zero, omega arith, ap (λ (z : CellPort). (x, z)) e),
      ap (may_meet x) (sym e)
          ∙ meet,
    )
    first meet (suc n, lt, e) rest = let r =
        rest (n, omega (arith, lt), e) in
        (r.0, (suc r.1.0, omega (arith, r.1.1), r.1.2), (suc r.2.0, omega (arith, r.2.1), r.2.2), r.3)

-- ports that may meet have one layer, and wires of one width
pub met_alike : (a b : CellPort) → may_meet a b ≡ true → (a.layer ≡ b.layer) × (a.width ≡ b.width)
met_alike a b e = let parts =
    and_parts (is_same_layer a.layer b.layer) (int_eq a.width b.width) e in
    (same_layer a.layer b.layer parts.0, (Decides-int_eq a.width b.width).0 parts.1)
