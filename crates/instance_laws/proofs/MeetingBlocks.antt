-- The items of a node or a wire of a master: which classes they have, and where they stand in its list.
use Rattle.std.proofs.Common.{◌≡◌, ℕ, ◌+◌, ◌<◌, ℤ, Bool, true, false, List, [], ◌∷◌, length, map, cond, refl, sym, ap}
use Rattle.std.{proofs.Common.{◌∙◌, subst, arith, inl, inr, ◌⊎◌}, specs.List.AllByRecursion}
use Rattle.rule_table.specs.declared.{technology.Tech.Tech, classes.Class.{Class, TheVariants.{M, P, Dc, Dm}}}
use Rattle.rule_table.specs.declared.classes.Layer.{Layer, TheVariants.{Diffusion, Poly, Metal}}
use Rattle.sym_items.specs.declared.items.{Item.Item, Items.Items}
use Rattle.cell_model.specs.declared.cell.{Axis2.{Axis2, TheVariants.{Across, Up}}, NodeKind.NodeKind}
use Rattle.cell_model.specs.declared.cell.{NodeKind.TheVariants.{Joint, Contact, Buried, Fet}, NodeNets.NodeNets}
use Rattle.cell_model.specs.{declared.cell.{Nets.Nets, Cell.Cell}, Sound.{node_at, wire_at, IsKind}}
use Rattle.pair_rules.specs.Bound.{no_item, item_at}
use Rattle.expand.specs.{declared.master.Master.Master, Masters.IsMaster, Variables.half, NodeItems.item_running}
use Rattle.expand.specs.{NodeItems.{on_layer, channel_items, kind_items}, Items.{nets_at, items_of_node, items_of_wire}}
use Rattle.expand.{specs.Items.item_list, proofs.Cells.node_sound}
use Rattle.buried_contacts.proofs.Owners.{layer_boxes, run_of, items_owned, item_keeps, IsOwned}
use Rattle.instance_laws.proofs.MeetingRuns.{IsRun, HasOwner, run_first, run_second, places, IsIn, IsSingle, found}

-- ---- owners

pub owner_running : (along : Axis2) (i : Item) → (item_running along i).owner ≡ i.owner
owner_running Across i = refl
owner_running Up i = refl

all_running : (k : ℕ) (gate : Axis2) (is : List Item) → AllByRecursion (HasOwner k) is
    → AllByRecursion (HasOwner k) (map (item_running gate) is)
all_running k gate [] h = tt
all_running k gate (i ∷ is) h = (owner_running gate i ∙ h.0, all_running k gate is h.1)

implant_owner : (k : ℕ) (depletion : Bool) (i : Item) → HasOwner k i
    → AllByRecursion (HasOwner k) (cond depletion (i ∷ []) [])
implant_owner k true i h = (h, tt)
implant_owner k false i h = tt

kind_owner : (tech : Tech) (k : ℕ) (kind : NodeKind) (nets : NodeNets)
    → AllByRecursion (HasOwner k) (kind_items tech k kind nets)
kind_owner tech k (Joint layer width) nets = layer_boxes (HasOwner k) layer _ (λ c h. refl)
kind_owner tech k (Contact lower) nets = (refl, (refl, layer_boxes (HasOwner k) lower _ (λ c h. refl)))
kind_owner tech k Buried nets = (refl, (refl, (refl, (refl, tt))))
kind_owner tech k (Fet depletion gate w l) nets =
    all_running k gate (channel_items tech k nets depletion (half w) (half l))
    (refl, (refl, (refl, (refl, (refl, implant_owner k depletion _ refl)))))

wire_owner : (tech : Tech) (cell : Cell) (nets : Nets) (w : ℕ)
    → AllByRecursion (HasOwner (length cell.nodes + w)) (items_of_wire tech cell nets w)
wire_owner tech cell nets w =
    layer_boxes (HasOwner (length cell.nodes + w)) (wire_at cell.wires w).layer
    (item_running (wire_at cell.wires w).along (run_of tech cell nets w))
    (λ c h. owner_running (wire_at cell.wires w).along (run_of tech cell nets w))

-- ---- runs in the list of a master

list_run_node : (tech : Tech) (cell : Cell) (nets : Nets) (k : ℕ) → k < length cell.nodes
    → IsRun (item_list tech cell nets) (items_of_node tech cell nets k) k
unfolding item_list
list_run_node tech cell nets k lt =
    run_first (items_of_node tech cell nets) (items_of_wire tech cell nets) (length cell.nodes) (length cell.wires) k
    (λ k. kind_owner tech k (node_at cell.nodes k).kind (nets_at nets.node k)) (wire_owner tech cell nets) lt

list_run_wire : (tech : Tech) (cell : Cell) (nets : Nets) (w : ℕ) → w < length cell.wires
    → IsRun (item_list tech cell nets) (items_of_wire tech cell nets w) (length cell.nodes + w)
unfolding item_list
list_run_wire tech cell nets w lt =
    run_second (items_of_node tech cell nets) (items_of_wire tech cell nets) (length cell.nodes) (length cell.wires) w
    (λ k. kind_owner tech k (node_at cell.nodes k).kind (nets_at nets.node k)) (wire_owner tech cell nets) lt

pub run_node : (tech : Tech) (master : Master) (m : IsMaster tech master) (k : ℕ) → k < length master.cell.nodes
    → IsRun master.items.list (items_of_node tech master.cell m.items.nets k) k
run_node tech master m k lt =
    subst (λ (l : List Item). IsRun l (items_of_node tech master.cell m.items.nets k) k)
    (sym (ap (λ (i : Items). i.list) m.items.are)) (list_run_node tech master.cell m.items.nets k lt)

pub run_wire : (tech : Tech) (master : Master) (m : IsMaster tech master) (w : ℕ) → w < length master.cell.wires
    → IsRun master.items.list (items_of_wire tech master.cell m.items.nets w) (length master.cell.nodes + w)
run_wire tech master m w lt =
    subst (λ (l : List Item). IsRun l (items_of_wire tech master.cell m.items.nets w) (length master.cell.nodes + w))
    (sym (ap (λ (i : Items). i.list) m.items.are)) (list_run_wire tech master.cell m.items.nets w lt)

-- an item of a list stands in the block of its owner
pub record StandsIn (list block : List Item) (owner : ℕ) (run : IsRun list block owner) (n : ℕ) : Type 0 where
  pub j : ℕ
  pub among : j < length block
  pub place : n ≡ run.first + j
  pub is : item_at list n ≡ item_at block j

pub stands_in : (list block : List Item) (owner n : ℕ) (run : IsRun list block owner) → n < length list
    → (item_at list n).owner ≡ owner → StandsIn list block owner run n
stands_in list block owner n run lt e =
    let found = run.only n lt e in
    record { j = found.0; among = found.1; place = found.2; is = ap (item_at list) found.2 ∙ run.at found.0 found.1 }

-- the owner of an item: a node, or a wire
pub data OwnerOf (cell : Cell) (owner : ℕ) : Type 0 where
  a_node : (k : ℕ) → k < length cell.nodes → owner ≡ k → OwnerOf cell owner
  a_wire : (w : ℕ) → w < length cell.wires → owner ≡ length cell.nodes + w → OwnerOf cell owner

pub owner_of : (tech : Tech) (master : Master) → IsMaster tech master → (n : ℕ) → n < length master.items.list
    → OwnerOf master.cell (item_at master.items.list n).owner
owner_of tech master m n lt = by (items_owned tech master m n no_item lt)
  where
    by : IsOwned tech master.cell m.items.nets (item_at master.items.list n)
        → OwnerOf master.cell (item_at master.items.list n).owner
    by (inl (k, h)) = a_node k h.among h.owner
    by (inr (w, h)) =
        a_wire w h.among (item_keeps tech master.cell m.items.nets (item_at master.items.list n) w h).owner

-- ---- the classes in a block

abbrev pub class_in : List Item → ℕ → Class
class_in block j = (item_at block j).class

-- diffusion of the mask in a block is one piece
pub record IsOnePieceIn (block : List Item) (j : ℕ) : Type 0 where
  pub piece : ℕ
  pub among : piece < length block
  pub is : item_at block piece ≡ record (item_at block j) { class = Dc }
  pub one_chunk : (n : ℕ) → n < length block → class_in block n ≡ Dc → n ≡ piece
  pub one_mask : (n : ℕ) → n < length block → class_in block n ≡ Dm → n ≡ j

-- what holds of the classes of a block, which may be that of a transistor
pub record IsLawfulBlock (block : List Item) (T : Type 0) : Type 0 where
  pub metal : IsSingle (places M 0 block)
  pub poly : IsSingle (places P 0 block)
  pub masks : (j : ℕ) → j < length block → class_in block j ≡ Dc
      → (n : ℕ) × (n < length block) × (class_in block n ≡ Dm)
  pub pieces : (j : ℕ) → j < length block → class_in block j ≡ Dm → IsOnePieceIn block j ⊎ T

-- the one place of a class
pub only_place : (n k : ℕ) → IsIn n (k ∷ []) → n ≡ k
only_place n k (inl e) = e
only_place n k (inr h) = absurd h

-- a block in which diffusion of the mask and its piece stand at two places
one_chunk : (block : List Item) (mask piece j : ℕ) → mask < length block → piece < length block
    → places Dm 0 block ≡ mask ∷ [] → places Dc 0 block ≡ piece ∷ []
    → item_at block piece ≡ record (item_at block mask) { class = Dc } → j < length block → class_in block j ≡ Dm
    → IsOnePieceIn block j
one_chunk block mask piece j in_mask in_piece masks pieces is lt e =
    let only_mask : (n : ℕ) → n < length block → class_in block n ≡ Dm
    → n ≡ mask = λ n lt e. only_place n mask (subst (IsIn n) masks (found Dm block n lt e)) in
    subst (IsOnePieceIn block) (sym (only_mask j lt e)) (record {
      piece = piece;
      among = in_piece;
      is = is;
      one_chunk = λ n lt e. only_place n piece (subst (IsIn n) pieces (found Dc block n lt e));
      one_mask = only_mask;
    })

pub layer_lawful : (layer : Layer) (i : Item) (T : Type 0) → IsLawfulBlock (on_layer layer i) T
layer_lawful Metal i T =
    record {
      metal = tt;
      poly = tt;
      masks = λ j lt e. absurd (found Dc (on_layer Metal i) j lt e);
      pieces = λ j lt e. absurd (found Dm (on_layer Metal i) j lt e);
    }
layer_lawful Poly i T =
    record {
      metal = tt;
      poly = tt;
      masks = λ j lt e. absurd (found Dc (on_layer Poly i) j lt e);
      pieces = λ j lt e. absurd (found Dm (on_layer Poly i) j lt e);
    }
layer_lawful Diffusion i T = record {
  metal = tt;
  poly = tt;
  masks = λ j lt e. (0, omega arith, refl);
  pieces = λ j lt e. inl (one_chunk (on_layer Diffusion i) 0 1 j (omega arith) (omega arith) refl refl refl lt e);
}

-- the kind of a transistor
pub record IsTransistorKind (kind : NodeKind) : Type 0 where
  pub depletion : Bool
  pub gate : Axis2
  pub w : ℤ
  pub l : ℤ
  pub is : kind ≡ Fet depletion gate w l

contact_lawful : (tech : Tech) (k : ℕ) (lower : Layer) (nets : NodeNets) (T : Type 0) → (lower ≡ Metal → ⊥)
    → IsLawfulBlock (kind_items tech k (Contact lower) nets) T
contact_lawful tech k Metal nets T h = absurd (h refl)
contact_lawful tech k Poly nets T h = record {
  metal = tt;
  poly = tt;
  masks = λ j lt e. absurd (found Dc (kind_items tech k (Contact Poly) nets) j lt e);
  pieces = λ j lt e. absurd (found Dm (kind_items tech k (Contact Poly) nets) j lt e);
}
contact_lawful tech k Diffusion nets T h = record {
  metal = tt;
  poly = tt;
  masks = λ j lt e. (2, omega arith, refl);
  pieces =
      λ j lt e.
      inl (one_chunk (kind_items tech k (Contact Diffusion) nets) 2 3 j (omega arith) (omega arith) refl refl refl lt
      e);
}

pub class_running : (along : Axis2) (i : Item) → (item_running along i).class ≡ i.class
class_running Across i = refl
class_running Up i = refl

fet_lawful : (tech : Tech) (k : ℕ) (depletion : Bool) (gate : Axis2) (w l : ℤ) (nets : NodeNets) (T : Type 0) → T
    → IsLawfulBlock (kind_items tech k (Fet depletion gate w l) nets) T
fet_lawful tech k true Across w l nets T t =
    record { metal = tt; poly = tt; masks = λ j lt e. (1, omega arith, refl); pieces = λ j lt e. inr t }
fet_lawful tech k true Up w l nets T t =
    record { metal = tt; poly = tt; masks = λ j lt e. (1, omega arith, refl); pieces = λ j lt e. inr t }
fet_lawful tech k false Across w l nets T t =
    record { metal = tt; poly = tt; masks = λ j lt e. (1, omega arith, refl); pieces = λ j lt e. inr t }
fet_lawful tech k false Up w l nets T t =
    record { metal = tt; poly = tt; masks = λ j lt e. (1, omega arith, refl); pieces = λ j lt e. inr t }

pub kind_lawful : (tech : Tech) (k : ℕ) (kind : NodeKind) (nets : NodeNets) → IsKind tech kind
    → IsLawfulBlock (kind_items tech k kind nets) (IsTransistorKind kind)
kind_lawful tech k (Joint layer width) nets h = layer_lawful layer _ _
kind_lawful tech k (Contact lower) nets h = contact_lawful tech k lower nets _ h
kind_lawful tech k Buried nets h = record {
  metal = tt;
  poly = tt;
  masks = λ j lt e. (1, omega arith, refl);
  pieces =
      λ j lt e. inl (one_chunk (kind_items tech k Buried nets) 1 2 j (omega arith) (omega arith) refl refl refl lt e);
}
kind_lawful tech k (Fet depletion gate w l) nets h =
    fet_lawful tech k depletion gate w l nets _
    (record { depletion = depletion; gate = gate; w = w; l = l; is = refl })

-- ---- the same in a master

-- the block in which an item stands, and what holds of it
pub record IsPlaced (list : List Item) (T : Type 0) (n : ℕ) : Type 0 where
  pub block : List Item
  pub lawful : IsLawfulBlock block T
  pub run : IsRun list block (item_at list n).owner
  pub stands : StandsIn list block (item_at list n).owner run n

-- an owner that is a transistor
abbrev pub IsOfTransistor : Cell → ℕ → Type 0
IsOfTransistor cell owner = (k : ℕ) × (k < length cell.nodes) × (owner ≡ k)
    × IsTransistorKind (node_at cell.nodes k).kind

weaker : (block : List Item) (S T : Type 0) → (S → T) → IsLawfulBlock block S → IsLawfulBlock block T
weaker block S T f h =
    record {
      metal = h.metal;
      poly = h.poly;
      masks = h.masks;
      pieces = λ j lt e.
          elim (h.pieces j lt e) [ inl one ↦ inl one | inr t ↦ inr (f t) ];
    }

pub placed : (tech : Tech) (master : Master) → IsMaster tech master → (n : ℕ) → n < length master.items.list
    → IsPlaced master.items.list (IsOfTransistor master.cell (item_at master.items.list n).owner) n
placed tech master m n lt = by (owner_of tech master m n lt)
  where
    owner : ℕ
    owner = (item_at master.items.list n).owner

    turned : (block : List Item) (k : ℕ) → IsRun master.items.list block k → owner ≡ k
        → IsRun master.items.list block owner
    turned block k run e = subst (IsRun master.items.list block) (sym e) run

    by : OwnerOf master.cell owner → IsPlaced master.items.list (IsOfTransistor master.cell owner) n
    by (a_node k among e) =
        let block : List Item = items_of_node tech master.cell m.items.nets k in
        record {
          block = block;
          lawful = weaker block (IsTransistorKind (node_at master.cell.nodes k).kind)
              (IsOfTransistor master.cell owner) (λ t. (k, among, e, t))
              (kind_lawful tech k (node_at master.cell.nodes k).kind (nets_at m.items.nets.node k)
              (node_sound tech master.cell k m.sound among).kind);
          run = turned block k (run_node tech master m k among) e;
          stands = stands_in master.items.list block owner n (turned block k (run_node tech master m k among) e) lt
              refl;
        }
    by (a_wire w among e) =
        let block : List Item = items_of_wire tech master.cell m.items.nets w in
        record {
          block = block;
          lawful = layer_lawful (wire_at master.cell.wires w).layer
              (item_running (wire_at master.cell.wires w).along (run_of tech master.cell m.items.nets w)) _;
          run = turned block (length master.cell.nodes + w) (run_wire tech master m w among) e;
          stands = stands_in master.items.list block owner n
              (turned block (length master.cell.nodes + w) (run_wire tech master m w among) e) lt refl;
        }
