-- Which items have an end on a border: the boxes of wires that end at a port there, and no others.
use Rattle.std.proofs.Common.{◌≡◌, ◌≢◌, ℕ, zero, suc, ◌+◌, ◌<◌, ℤ, Bool, true, false, List, [], ◌∷◌, length, map, cond}
use Rattle.std.proofs.Common.{refl, sym, ap, ◌∙◌, subst, arith, inl, inr, ◌⊎◌}
use Rattle.std.proofs.lemmas.List.Elements.{All-contains, Contains-append_right}
use Rattle.std.specs.List.{AllByRecursion, Contains, flat_map, range_with_len}
use Rattle.lam_geom.specs.declared.boxes.Axis.{Axis, TheVariants.{X, Y}}
use Rattle.rule_table.specs.declared.{technology.Tech.Tech, classes.Class.{Class, TheVariants.{M, P, Dc, Dm}}}
use Rattle.rule_table.specs.declared.classes.Layer.{Layer}
use Rattle.sym_items.specs.{declared.items.{End.End, Item.Item, Items.Items}, Transposed.item_along}
use Rattle.cell_model.specs.declared.cell.{Axis2.{Axis2, TheVariants.{Across, Up}}, NodeKind.NodeKind}
use Rattle.cell_model.specs.declared.cell.{NodeKind.TheVariants.{Joint, Contact, Buried, Fet}, NodeNets.NodeNets}
use Rattle.cell_model.specs.{declared.cell.{Nets.Nets, Cell.Cell, Wire.Wire, WireEnd.WireEnd}, Sound.{node_at, wire_at}}
use Rattle.cell_model.specs.declared.cell.WireEnd.TheVariants as ends
use Rattle.list_facts.proofs.Elements.{all_of, all_weaker}
use Rattle.instance_laws.proofs.{Lists.{in_flat_map, in_range}, InCell.{BeginsOnBorder, EndsOnBorder}}
use Rattle.expand.specs.{declared.master.Master.Master, Masters.IsMaster, Variables.{half, past, cross_of}}
use Rattle.expand.specs.{NodeItems.{item_running, on_layer, channel_items, kind_items}, WireItems.terminal}
use Rattle.expand.specs.Items.{nets_at, items_of_node, items_of_wire, item_list}
use Rattle.buried_contacts.proofs.Owners.{LayerHas, IsBoxOfWire, all_items, layer_boxes, run_of, wire_box}

-- ---- items of nodes

-- no side of an item lies on a border
pub record IsOff (i : Item) : Type 0 where
  pub left : i.xl.var ≢ 0
  pub right : i.xh.var ≢ 1
  pub bottom : i.yl.var ≢ 0
  pub top : i.yh.var ≢ 1

-- none of a box round the centre of a node
round_off : (k : ℕ) (i : Item) → i.xl.var ≡ 2 + k → i.xh.var ≡ 2 + k → i.yl.var ≡ 2 + k → i.yh.var ≡ 2 + k → IsOff i
round_off k i l r b t =
    record {
      left = λ e. omega (arith, e, l);
      right = λ e. omega (arith, e, r);
      bottom = λ e. omega (arith, e, b);
      top = λ e. omega (arith, e, t);
    }

turned_off : (items : List Item) (gate : Axis2) → AllByRecursion IsOff items
    → AllByRecursion IsOff (map (item_running gate) items)
turned_off [] gate h = tt
turned_off (i ∷ items) Across h = (h.0, turned_off items Across h.1)
turned_off (i ∷ items) Up h =
    (record { left = h.0.bottom; right = h.0.top; bottom = h.0.left; top = h.0.right }, turned_off items Up h.1)

implant_off : (depletion : Bool) (i : Item) → IsOff i → AllByRecursion IsOff (cond depletion (i ∷ []) [])
implant_off true i h = (h, tt)
implant_off false i h = tt

channel_off : (tech : Tech) (k : ℕ) (nets : NodeNets) (depletion : Bool) (x y : ℤ)
    → AllByRecursion IsOff (channel_items tech k nets depletion x y)
channel_off tech k nets depletion x y = (
  round_off k _ refl refl refl refl,
  (
    round_off k _ refl refl refl refl,
    (
      round_off k _ refl refl refl refl,
      (
        round_off k _ refl refl refl refl,
        (round_off k _ refl refl refl refl, implant_off depletion _ (round_off k _ refl refl refl refl)),
      ),
    ),
  ),
)

kind_off : (tech : Tech) (k : ℕ) (kind : NodeKind) (nets : NodeNets)
    → AllByRecursion IsOff (kind_items tech k kind nets)
kind_off tech k (Joint layer width) nets = layer_boxes IsOff layer _ (λ c h. round_off k _ refl refl refl refl)
kind_off tech k (Contact lower) nets = (
  round_off k _ refl refl refl refl,
  (round_off k _ refl refl refl refl, layer_boxes IsOff lower _ (λ c h. round_off k _ refl refl refl refl)),
)
kind_off tech k Buried nets = (
  round_off k _ refl refl refl refl,
  (round_off k _ refl refl refl refl, (round_off k _ refl refl refl refl, (round_off k _ refl refl refl refl, tt))),
)
kind_off tech k (Fet depletion gate w l) nets =
    turned_off (channel_items tech k nets depletion (half w) (half l)) gate
    (channel_off tech k nets depletion (half w) (half l))

-- ---- items of wires

-- how a wire runs along an axis, and the other axis
abbrev pub runs_along : Axis → Axis2
runs_along X = Across
runs_along Y = Up

abbrev pub other : Axis → Axis
other X = Y
other Y = X

-- a box of a run lies along an axis as the run does that runs across
pub record LiesAsRun (axis : Axis) (along : Axis2) (i run : Item) : Type 0 where
  pub along_is : along ≡ runs_along axis
  pub low : (item_along axis i).xl ≡ run.xl
  pub high : (item_along axis i).xh ≡ run.xh
  pub cross_low : (item_along (other axis) i).xl ≡ run.yl
  pub cross_high : (item_along (other axis) i).xh ≡ run.yh

-- it lies along its run, or across it
pub lies_as_run : (axis : Axis) (along : Axis2) (run : Item) (c : Class)
    → let i : Item = record (item_running along run) { class = c } in LiesAsRun axis along i run
    ⊎ LiesAsRun (other axis) along i run
lies_as_run X Across run c =
    inl (record { along_is = refl; low = refl; high = refl; cross_low = refl; cross_high = refl })
lies_as_run X Up run c = inr (record { along_is = refl; low = refl; high = refl; cross_low = refl; cross_high = refl })
lies_as_run Y Across run c =
    inr (record { along_is = refl; low = refl; high = refl; cross_low = refl; cross_high = refl })
lies_as_run Y Up run c = inl (record { along_is = refl; low = refl; high = refl; cross_low = refl; cross_high = refl })

-- ---- which items end at a port

-- the low or the high end of a wire
abbrev pub wire_end : Bool → Wire → WireEnd
wire_end true wire = wire.low
wire_end false wire = wire.high

-- an item is a box of a wire that runs along the axis and has this end at a port
pub record EndsAtPort (axis : Axis) (tech : Tech) (cell : Cell) (nets : Nets) (is_low : Bool) (i : Item) : Type 0 where
  pub wire : ℕ
  pub box : IsBoxOfWire tech cell nets i wire
  pub lies : LiesAsRun axis (wire_at cell.wires wire).along i (run_of tech cell nets wire)
  pub port : ℕ
  pub ends : wire_end is_low (wire_at cell.wires wire) ≡ ends.Port port

terminal_low : (end : WireEnd) → terminal 0 end ≡ 0 → (j : ℕ) × (end ≡ ends.Port j)
terminal_low (ends.Port j) e = (j, refl)
terminal_low (ends.Node j) e = let f : 2 + j ≡ 0 = e in absurd (omega (arith, f))

terminal_high : (end : WireEnd) → terminal 1 end ≡ 1 → (j : ℕ) × (end ≡ ends.Port j)
terminal_high (ends.Port j) e = (j, refl)
terminal_high (ends.Node j) e = let f : 2 + j ≡ 1 = e in absurd (omega (arith, f))

-- what an item is that has an end on a border of the axis
pub record BordersAtPorts (axis : Axis) (tech : Tech) (cell : Cell) (nets : Nets) (i : Item) : Type 0 where
  pub low : BeginsOnBorder axis i → EndsAtPort axis tech cell nets true i
  pub high : EndsOnBorder axis i → EndsAtPort axis tech cell nets false i

off_borders : (axis : Axis) (tech : Tech) (cell : Cell) (nets : Nets) (i : Item) → IsOff i
    → BordersAtPorts axis tech cell nets i
off_borders X tech cell nets i h = record { low = λ e. absurd (h.left e); high = λ e. absurd (h.right e) }
off_borders Y tech cell nets i h = record { low = λ e. absurd (h.bottom e); high = λ e. absurd (h.top e) }

-- no cross coordinate is a border
pub cross_off : (cell : Cell) (w : ℕ) (off : ℤ) (end : End) → end ≡ past (cross_of cell w) off
    → (end.var ≡ 0) ⊎ (end.var ≡ 1) → ⊥
cross_off cell w off end is (inl at) = let f : end.var ≡ cross_of cell w =
    ap (λ (z : End). z.var) is in omega (arith, f, at)
cross_off cell w off end is (inr at) = let f : end.var ≡ cross_of cell w =
    ap (λ (z : End). z.var) is in omega (arith, f, at)

box_borders : (axis : Axis) (tech : Tech) (cell : Cell) (nets : Nets) (w : ℕ) (c : Class) → w < length cell.wires
    → LayerHas (wire_at cell.wires w).layer c → BordersAtPorts axis tech cell nets (wire_box tech cell nets w c)
box_borders axis tech cell nets w c lt has =
    let wire : Wire = wire_at cell.wires w in
    let i : Item = wire_box tech cell nets w c in
    elim (lies_as_run axis wire.along (run_of tech cell nets w) c) [
      | inl lies ↦ record {
        low = λ e. (
            let r = terminal_low wire.low (sym (ap (λ (z : End). z.var) lies.low) ∙ e) in
            record {
              wire = w;
              box = record { among = lt; class = has; is = refl };
              lies = lies;
              port = r.0;
              ends = r.1;
            }
            );
        high = λ e. (
            let r = terminal_high wire.high (sym (ap (λ (z : End). z.var) lies.high) ∙ e) in
            record {
              wire = w;
              box = record { among = lt; class = has; is = refl };
              lies = lies;
              port = r.0;
              ends = r.1;
            }
            );
      }
      | inr across ↦ crossing_borders axis i across
    ]
  where
    crossing_borders : (axis : Axis) (i : Item)
        → LiesAsRun (other axis) (wire_at cell.wires w).along i (run_of tech cell nets w)
        → BordersAtPorts axis tech cell nets i
    crossing_borders X i lies =
        record {
          low = λ e. absurd (cross_off cell w _ _ lies.cross_low (inl e));
          high = λ e. absurd (cross_off cell w _ _ lies.cross_high (inr e));
        }
    crossing_borders Y i lies =
        record {
          low = λ e. absurd (cross_off cell w _ _ lies.cross_low (inl e));
          high = λ e. absurd (cross_off cell w _ _ lies.cross_high (inr e));
        }

-- of each item of a master
pub items_border : (axis : Axis) (tech : Tech) (master : Master) (i : Item) → (m : IsMaster tech master)
    → Contains master.items.list i → BordersAtPorts axis tech master.cell m.items.nets i
items_border axis tech master i m among =
    let nets : Nets = m.items.nets in
    let cell : Cell = master.cell in
    let Q : Item → Type 0 = BordersAtPorts axis tech cell nets in
    let all = all_items tech cell nets Q
    (λ k lt. all_weaker IsOff Q (λ j h. off_borders axis tech cell nets j h) (items_of_node tech cell nets k)
    (kind_off tech k (node_at cell.nodes k).kind (nets_at nets.node k)))
    (λ w lt c has. box_borders axis tech cell nets w c lt has) in
    let listed : Contains (item_list tech cell nets) i =
    subst (λ (items : Items). Contains items.list i) m.items.are among in
    All-contains Q (item_list tech cell nets) i (all_of Q (item_list tech cell nets) all) listed

-- each box of a wire is an item
box_listed : (tech : Tech) (cell : Cell) (nets : Nets) (w : ℕ) (c : Class) → w < length cell.wires
    → LayerHas (wire_at cell.wires w).layer c → Contains (item_list tech cell nets) (wire_box tech cell nets w c)
unfolding item_list
box_listed tech cell nets w c lt has =
    Contains-append_right (flat_map (items_of_node tech cell nets) (range_with_len 0 (length cell.nodes)))
    (flat_map (items_of_wire tech cell nets) (range_with_len 0 (length cell.wires))) (wire_box tech cell nets w c)
    (in_flat_map (items_of_wire tech cell nets) (range_with_len 0 (length cell.wires)) w (wire_box tech cell nets w c)
    (in_range (length cell.wires) w lt)
    (in_layer (wire_at cell.wires w).layer c (item_running (wire_at cell.wires w).along (run_of tech cell nets w)) has))
  where
    in_layer : (layer : Layer) (c : Class) (i : Item) → LayerHas layer c
        → Contains (on_layer layer i) (record i { class = c })
    in_layer layer M i h = rw h (zero, omega arith, refl)
    in_layer layer P i h = rw h (zero, omega arith, refl)
    in_layer layer Dm i h = rw h (zero, omega arith, refl)
    in_layer layer Dc i h = rw h (suc zero, omega arith, refl)
    in_layer layer _ i h = absurd h

pub box_among : (tech : Tech) (master : Master) (w : ℕ) (c : Class) → (m : IsMaster tech master)
    → w < length master.cell.wires → LayerHas (wire_at master.cell.wires w).layer c
    → Contains master.items.list (wire_box tech master.cell m.items.nets w c)
box_among tech master w c m lt has =
    let box : Item = wire_box tech master.cell m.items.nets w c in
    subst (λ (items : Items). Contains items.list box) (sym m.items.are)
    (box_listed tech master.cell m.items.nets w c lt has)
