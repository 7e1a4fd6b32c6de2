-- Whose each item is: a node's, by its kind, or a wire's.
use Rattle.std.proofs.Common.{◌≡◌, ℕ, ◌+◌, ◌<◌, ℤ, ◌+ℤ◌, Bool, true, false, List, [], ◌∷◌, length, map, cond, refl, sym}
use Rattle.std.proofs.Common.{ap, ◌∙◌, subst, arith, inl, inr, ◌⊎◌}
use Rattle.std.specs.{Prelude.slice_index, List.{AllByRecursion, All, flat_map, range_with_len}}
use Rattle.rule_table.specs.declared.{technology.Tech.Tech, classes.Class.{Class, TheVariants.{M, P, Dc, Dm, C, I, G}}}
use Rattle.rule_table.specs.declared.classes.{Class.TheVariants.B, Layer.{Layer, TheVariants.{Diffusion, Poly, Metal}}}
use Rattle.rule_table.specs.Technology.{numbers_of}
use Rattle.sym_items.specs.{declared.items.{Item.Item, Items.Items}, Standing.nowhere}
use Rattle.cell_model.specs.declared.cell.{Axis2.{Axis2, TheVariants.{Across, Up}}, NodeKind.NodeKind}
use Rattle.cell_model.specs.declared.cell.{NodeKind.TheVariants.{Joint, Contact, Buried, Fet}, NodeNets.NodeNets}
use Rattle.cell_model.specs.{declared.cell.{Nets.Nets, Cell.Cell}, Wiring.buried_pad, Sound.{node_at, wire_at}}
use Rattle.list_facts.proofs.Elements.{all_append, all_flat, all_numbers, all_weaker, all_of}
use Rattle.expand.specs.{declared.master.Master.Master, Masters.IsMaster, Variables.{half, cross_of}}
use Rattle.expand.specs.NodeItems.{item_running, on_layer, square_round, standing_at, channel_items, kind_items}
use Rattle.expand.specs.{WireItems.{low_end_of, high_end_of, contact_at, run_item}, Items.{nets_at, items_of_node}}
use Rattle.expand.specs.Items.{items_of_wire, item_list}

-- ---- the classes of boxes

-- of a layer, of a contact, of the pad of a buried contact, and of a transistor
abbrev pub LayerHas : Layer → Class → Type 0
LayerHas layer M = layer ≡ Metal
LayerHas layer P = layer ≡ Poly
LayerHas layer Dm = layer ≡ Diffusion
LayerHas layer Dc = layer ≡ Diffusion
LayerHas layer C = ⊥
LayerHas layer I = ⊥
LayerHas layer G = ⊥
LayerHas layer B = ⊥

abbrev pub ContactHas : Layer → Class → Type 0
ContactHas lower M = Unit {0}
ContactHas lower P = lower ≡ Poly
ContactHas lower Dm = lower ≡ Diffusion
ContactHas lower Dc = lower ≡ Diffusion
ContactHas lower C = Unit {0}
ContactHas lower I = ⊥
ContactHas lower G = ⊥
ContactHas lower B = ⊥

abbrev pub PadHas : Class → Type 0
PadHas M = ⊥
PadHas P = Unit {0}
PadHas Dm = Unit {0}
PadHas Dc = Unit {0}
PadHas C = ⊥
PadHas I = ⊥
PadHas G = ⊥
PadHas B = ⊥

abbrev pub TransistorHas : Class → Type 0
TransistorHas M = ⊥
TransistorHas P = Unit {0}
TransistorHas Dm = Unit {0}
TransistorHas Dc = Unit {0}
TransistorHas C = ⊥
TransistorHas I = Unit {0}
TransistorHas G = Unit {0}
TransistorHas B = ⊥

-- ---- items of nodes

-- an item stands at no buried contact
pub record StandsNowhere (i : Item) : Type 0 where
  pub low : i.at_low ≡ nowhere
  pub high : i.at_high ≡ nowhere

-- an item is the square of its class round the centre of buried contact k, and stands at it
abbrev pub IsSquareAt : ℕ → ℤ → Item → Type 0
IsSquareAt k reach i = i ≡ standing_at k (square_round k i.class i.net reach)

-- what an item is that node k of this kind has
abbrev pub IsOfKind : Tech → ℕ → NodeKind → Item → Type 0
IsOfKind tech k (Joint layer width) i = StandsNowhere i × LayerHas layer i.class
IsOfKind tech k (Contact lower) i = StandsNowhere i × ContactHas lower i.class
IsOfKind tech k Buried i =
    (PadHas i.class × IsSquareAt k (half (buried_pad tech)) i)
    ⊎ ((i.class ≡ B) × IsSquareAt k (half (buried_pad tech) +ℤ (numbers_of tech).extension_buried) i)
IsOfKind tech k (Fet depletion gate w l) i = StandsNowhere i × TransistorHas i.class

pub record HasOwner (tech : Tech) (k : ℕ) (kind : NodeKind) (i : Item) : Type 0 where
  pub owner : i.owner ≡ k
  pub is : IsOfKind tech k kind i

-- an item of node k that stands nowhere and is of some class
record IsPlain (k : ℕ) (Has : Class → Type 0) (i : Item) : Type 0 where
  owner : i.owner ≡ k
  stands : StandsNowhere i
  class : Has i.class

layer_plain : (k : ℕ) (layer : Layer) (i : Item) → i.owner ≡ k → StandsNowhere i
    → AllByRecursion (IsPlain k (LayerHas layer)) (on_layer layer i)
layer_plain k Metal i e s = (record { owner = e; stands = record { low = s.low; high = s.high }; class = refl }, tt)
layer_plain k Poly i e s = (record { owner = e; stands = record { low = s.low; high = s.high }; class = refl }, tt)
layer_plain k Diffusion i e s = (
  record { owner = e; stands = record { low = s.low; high = s.high }; class = refl },
  (record { owner = e; stands = record { low = s.low; high = s.high }; class = refl }, tt),
)

of_lower : (lower : Layer) (c : Class) → LayerHas lower c → ContactHas lower c
of_lower lower M h = tt
of_lower lower P h = h
of_lower lower Dm h = h
of_lower lower Dc h = h
of_lower lower C h = tt
of_lower lower I h = h
of_lower lower G h = h
of_lower lower B h = h

running_plain : (k : ℕ) (gate : Axis2) (is : List Item) → AllByRecursion (IsPlain k TransistorHas) is
    → AllByRecursion (IsPlain k TransistorHas) (map (item_running gate) is)
running_plain k gate [] h = tt
running_plain k Across (i ∷ is) h = (h.0, running_plain k Across is h.1)
running_plain k Up (i ∷ is) h = (
  record {
    owner = h.0.owner;
    stands = record { low = h.0.stands.low; high = h.0.stands.high };
    class = h.0.class;
  },
  running_plain k Up is h.1,
)

implant_plain : (k : ℕ) (depletion : Bool) (i : Item) → IsPlain k TransistorHas i
    → AllByRecursion (IsPlain k TransistorHas) (cond depletion (i ∷ []) [])
implant_plain k true i h = (h, tt)
implant_plain k false i h = tt

channel_plain : (tech : Tech) (k : ℕ) (nets : NodeNets) (depletion : Bool) (x y : ℤ)
    → AllByRecursion (IsPlain k TransistorHas) (channel_items tech k nets depletion x y)
channel_plain tech k nets depletion x y = (
  record { owner = refl; stands = record { low = refl; high = refl }; class = tt },
  (
    record { owner = refl; stands = record { low = refl; high = refl }; class = tt },
    (
      record { owner = refl; stands = record { low = refl; high = refl }; class = tt },
      (
        record { owner = refl; stands = record { low = refl; high = refl }; class = tt },
        (
          record { owner = refl; stands = record { low = refl; high = refl }; class = tt },
          implant_plain k depletion _
              (record { owner = refl; stands = record { low = refl; high = refl }; class = tt }),
        ),
      ),
    ),
  ),
)

kind_owns : (tech : Tech) (k : ℕ) (kind : NodeKind) (nets : NodeNets)
    → AllByRecursion (HasOwner tech k kind) (kind_items tech k kind nets)
kind_owns tech k (Joint layer width) nets =
    all_weaker (IsPlain k (LayerHas layer)) (HasOwner tech k (Joint layer width))
    (λ i h. record { owner = h.owner; is = (h.stands, h.class) })
    (kind_items tech k (Joint layer width) nets) (layer_plain k layer _ refl (record { low = refl; high = refl }))
kind_owns tech k (Contact lower) nets = (
  record { owner = refl; is = (record { low = refl; high = refl }, tt) },
  (
    record { owner = refl; is = (record { low = refl; high = refl }, tt) },
    all_weaker (IsPlain k (LayerHas lower)) (HasOwner tech k (Contact lower))
        (λ i h. record { owner = h.owner; is = (h.stands, of_lower lower i.class h.class) })
        _ (layer_plain k lower _ refl (record { low = refl; high = refl })),
  ),
)
kind_owns tech k Buried nets = (
  record { owner = refl; is = inl (tt, refl) },
  (
    record { owner = refl; is = inl (tt, refl) },
    (record { owner = refl; is = inl (tt, refl) }, (record { owner = refl; is = inr (refl, refl) }, tt)),
  ),
)
kind_owns tech k (Fet depletion gate w l) nets =
    all_weaker (IsPlain k TransistorHas) (HasOwner tech k (Fet depletion gate w l))
    (λ i h. record { owner = h.owner; is = (h.stands, h.class) })
    (kind_items tech k (Fet depletion gate w l) nets)
    (running_plain k gate (channel_items tech k nets depletion (half w) (half l))
    (channel_plain tech k nets depletion (half w) (half l)))

-- ---- items of wires

-- the run of wire w, as if it ran across, and its box of a class
abbrev pub run_of : Tech → Cell → Nets → ℕ → Item
run_of tech cell nets w =
    let wire = wire_at cell.wires w in
    run_item (length cell.nodes + w) (slice_index nets.wire w) (cross_of cell w) wire.width
    (low_end_of tech cell wire wire.low) (high_end_of tech cell wire wire.high) (contact_at cell wire.low)
    (contact_at cell wire.high)

abbrev pub wire_box : Tech → Cell → Nets → ℕ → Class → Item
wire_box tech cell nets w c = record (item_running (wire_at cell.wires w).along (run_of tech cell nets w)) { class = c }

-- a box keeps the owner of its run, and the buried contacts at which it stands
pub record Keeps (i run : Item) : Type 0 where
  pub owner : i.owner ≡ run.owner
  pub at_low : i.at_low ≡ run.at_low
  pub at_high : i.at_high ≡ run.at_high

box_keeps : (along : Axis2) (run : Item) (c : Class) → Keeps (record (item_running along run) { class = c }) run
box_keeps Across run c = record { owner = refl; at_low = refl; at_high = refl }
box_keeps Up run c = record { owner = refl; at_low = refl; at_high = refl }

-- ---- owners

-- an item is one of node k, or of wire w
pub record IsOfNode (tech : Tech) (cell : Cell) (i : Item) (k : ℕ) : Type 0 where
  pub among : k < length cell.nodes
  pub owner : i.owner ≡ k
  pub is : IsOfKind tech k (node_at cell.nodes k).kind i

pub record IsBoxOfWire (tech : Tech) (cell : Cell) (nets : Nets) (i : Item) (w : ℕ) : Type 0 where
  pub among : w < length cell.wires
  pub class : LayerHas (wire_at cell.wires w).layer i.class
  pub is : i ≡ wire_box tech cell nets w i.class

abbrev pub IsOwned : Tech → Cell → Nets → Item → Type 0
IsOwned tech cell nets i = ((k : ℕ) × IsOfNode tech cell i k) ⊎ ((w : ℕ) × IsBoxOfWire tech cell nets i w)

pub item_keeps : (tech : Tech) (cell : Cell) (nets : Nets) (i : Item) (w : ℕ) → IsBoxOfWire tech cell nets i w
    → Keeps i (run_of tech cell nets w)
item_keeps tech cell nets i w h =
    let own = box_keeps (wire_at cell.wires w).along (run_of tech cell nets w) i.class in
    record {
      owner = ap (λ (j : Item). j.owner) h.is ∙ own.owner;
      at_low = ap (λ (j : Item). j.at_low) h.is
          ∙ own.at_low;
      at_high = ap (λ (j : Item). j.at_high) h.is ∙ own.at_high;
    }

-- an item with the owner of wire w is a box of it
pub box_of_owner : (tech : Tech) (cell : Cell) (nets : Nets) (i : Item) (w : ℕ) → IsOwned tech cell nets i
    → i.owner ≡ length cell.nodes + w → IsBoxOfWire tech cell nets i w
box_of_owner tech cell nets i w (inl (k, h)) e = let lt = h.among in let own =
    h.owner in absurd (omega (arith, lt, own, e))
box_of_owner tech cell nets i w (inr (v, h)) e =
    let own = (item_keeps tech cell nets i v h).owner in
    let same : v ≡ w = omega (arith, own, e) in
    subst (IsBoxOfWire tech cell nets i) same h

pub layer_boxes : (Q : Item → Type 0) (layer : Layer) (i : Item)
    → ((c : Class) → LayerHas layer c → Q (record i { class = c })) → AllByRecursion Q (on_layer layer i)
layer_boxes Q Metal i h = (h M refl, tt)
layer_boxes Q Poly i h = (h P refl, tt)
layer_boxes Q Diffusion i h = (h Dm refl, (h Dc refl, tt))

-- what holds of the items of each node and of the boxes of each wire, of all items
pub all_items : (tech : Tech) (cell : Cell) (nets : Nets) (Q : Item → Type 0)
    → ((k : ℕ) → k < length cell.nodes → AllByRecursion Q (items_of_node tech cell nets k))
    → ((w : ℕ) → w < length cell.wires → (c : Class) → LayerHas (wire_at cell.wires w).layer c
    → Q (wire_box tech cell nets w c)) → AllByRecursion Q (item_list tech cell nets)
unfolding item_list
all_items tech cell nets Q of_node of_wire =
    let n : ℕ = length cell.nodes in
    let w : ℕ = length cell.wires in
    all_append Q (flat_map (items_of_node tech cell nets) (range_with_len 0 n))
    (flat_map (items_of_wire tech cell nets) (range_with_len 0 w))
    (all_flat Q (items_of_node tech cell nets) (range_with_len 0 n)
    (all_numbers (λ k. AllByRecursion Q (items_of_node tech cell nets k)) 0 n
    (λ k le lt. of_node k (omega (arith, lt)))))
    (all_flat Q (items_of_wire tech cell nets) (range_with_len 0 w)
    (all_numbers (λ k. AllByRecursion Q (items_of_wire tech cell nets k)) 0 w
    (λ k le lt. layer_boxes Q (wire_at cell.wires k).layer
    (item_running (wire_at cell.wires k).along (run_of tech cell nets k))
    (λ c e. of_wire k (omega (arith, lt)) c e))))

all_owned : (tech : Tech) (cell : Cell) (nets : Nets)
    → AllByRecursion (IsOwned tech cell nets) (item_list tech cell nets)
all_owned tech cell nets =
    let Q = IsOwned tech cell nets in
    all_items tech cell nets Q
    (λ k lt. all_weaker (HasOwner tech k (node_at cell.nodes k).kind) Q
    (λ i h. inl (k, record { among = lt; owner = h.owner; is = h.is })) (items_of_node tech cell nets k)
    (kind_owns tech k (node_at cell.nodes k).kind (nets_at nets.node k)))
    (λ w lt c e. inr (w, record { among = lt; class = e; is = refl }))

-- each item of a master has an owner
pub items_owned : (tech : Tech) (master : Master) → (m : IsMaster tech master)
    → All (IsOwned tech master.cell m.items.nets) master.items.list
items_owned tech master m =
    let Q = IsOwned tech master.cell m.items.nets in
    subst (All Q) (sym (ap (λ (i : Items). i.list) m.items.are))
    (all_of Q (item_list tech master.cell m.items.nets) (all_owned tech master.cell m.items.nets))
