-- Items of one owner, by their classes: a contact's cut, a transistor's channel and a buried contact's window are
-- never of one owner; a transistor's implant goes past its channel; and poly and diffusion of one owner overlap.
use Rattle.std.proofs.Common.{◌≡◌, ℕ, ◌+◌, ◌<◌, ℤ, pos, ◌+ℤ◌, ◌*ℤ◌, ◌<ℤ◌, ◌≤ℤ◌, Bool, true, false, List, [], ◌∷◌}
use Rattle.std.proofs.{Common.{length, sym, ◌∙◌, subst, arith, refl}, lemmas.Int.{ints, clamps}}
use Rattle.rule_table.specs.declared.{technology.Tech.Tech, classes.Class.{Class, TheVariants.{P, Dm, C, I, G, B}}}
use Rattle.rule_table.specs.{declared.classes.Layer.{Layer, TheVariants.{Diffusion, Poly, Metal}}, Bounds.IsSize}
use Rattle.rule_table.specs.Technology.{numbers_of}
use Rattle.sym_items.specs.{declared.items.{Coords.Coords, Item.Item}, Sides.{Sides, sides_in, gap_of_sides}}
use Rattle.cell_model.specs.declared.cell.{Axis2.{Axis2, TheVariants.{Across, Up}}, NodeKind.NodeKind}
use Rattle.cell_model.specs.declared.cell.{NodeKind.TheVariants.{Joint, Contact, Buried, Fet}, NodeNets.NodeNets}
use Rattle.cell_model.specs.{Sound.{node_at, wire_at, IsKind}, Wiring.buried_pad}
use Rattle.pair_rules.specs.Bound.{item_at}
use Rattle.expand.specs.{declared.master.Master.Master, Masters.IsMaster, Items.{nets_at, items_of_node, items_of_wire}}
use Rattle.expand.specs.{NodeItems.{item_running, on_layer, box_round, kind_items}, Variables.half}
use Rattle.expand.proofs.{Among.{sound_numbers, buried_size}, Cells.node_sound}
use Rattle.instance_laws.specs.{Rules.shifted_sides, Meetings.EnclosesBy}
use Rattle.instance_laws.proofs.{MeetingRuns.{IsRun, places, IsIn, found}, MeetingBlocks.{run_node, run_wire}}
use Rattle.instance_laws.proofs.MeetingBlocks.{stands_in, OwnerOf, a_node, a_wire, owner_of, only_place}

-- ---- two items of one owner stand in one block

-- what holds of every two items in the blocks of nodes and of wires
pub record HoldsInBlocks (tech : Tech) (Q : Item → Item → Type 0) : Type 0 where
  pub nodes : (k : ℕ) (kind : NodeKind) (nets : NodeNets) → IsKind tech kind → (i j : ℕ)
      → i < length (kind_items tech k kind nets) → j < length (kind_items tech k kind nets)
      → Q (item_at (kind_items tech k kind nets) i) (item_at (kind_items tech k kind nets) j)
  pub wires : (layer : Layer) (box : Item) (i j : ℕ) → i < length (on_layer layer box)
      → j < length (on_layer layer box) → Q (item_at (on_layer layer box) i) (item_at (on_layer layer box) j)

pub of_one_owner : (tech : Tech) (Q : Item → Item → Type 0) → HoldsInBlocks tech Q → (master : Master)
    → IsMaster tech master → (m n : ℕ) → m < length master.items.list → n < length master.items.list
    → (item_at master.items.list m).owner ≡ (item_at master.items.list n).owner
    → Q (item_at master.items.list m) (item_at master.items.list n)
of_one_owner tech Q holds master is m n lt less same = by (owner_of tech master is m lt)
  where
    in_block : (block : List Item) (owner : ℕ) → IsRun master.items.list block owner
        → (item_at master.items.list m).owner ≡ owner
        → ((i j : ℕ) → i < length block → j < length block → Q (item_at block i) (item_at block j))
        → Q (item_at master.items.list m) (item_at master.items.list n)
    in_block block owner run e h =
        let a = stands_in master.items.list block owner m run lt e in
        let b = stands_in master.items.list block owner n run less (sym same ∙ e) in
        subst (λ (i : Item). Q i (item_at master.items.list n)) (sym a.is)
        (subst (λ (j : Item). Q (item_at block a.j) j) (sym b.is) (h a.j b.j a.among b.among))

    by : OwnerOf master.cell (item_at master.items.list m).owner
        → Q (item_at master.items.list m) (item_at master.items.list n)
    by (a_node k among e) =
        in_block (items_of_node tech master.cell is.items.nets k) k (run_node tech master is k among) e
        (holds.nodes k (node_at master.cell.nodes k).kind (nets_at is.items.nets.node k)
        (node_sound tech master.cell k is.sound among).kind)
    by (a_wire w among e) =
        in_block (items_of_wire tech master.cell is.items.nets w) (length master.cell.nodes + w)
        (run_wire tech master is w among) e
        (holds.wires (wire_at master.cell.wires w).layer _)

-- ---- blocks with and without items of classes

-- what holds of two items of these classes
abbrev pub OfClasses : Class → Class → (Item → Item → Type 0) → Item → Item → Type 0
OfClasses c d R a b = a.class ≡ c → b.class ≡ d → R a b

-- it does of every two items in a block
abbrev HoldIn : Class → Class → (Item → Item → Type 0) → List Item → Type 0
HoldIn c d R block =
    (i j : ℕ) → i < length block → j < length block → OfClasses c d R (item_at block i) (item_at block j)

module _ (c d : Class) (R : Item → Item → Type 0) (block : List Item) where
  without_first : places c 0 block ≡ [] → HoldIn c d R block
  without_first none i j lt less e f = absurd (subst (IsIn i) none (found c block i lt e))

  without_second : places d 0 block ≡ [] → HoldIn c d R block
  without_second none i j lt less e f = absurd (subst (IsIn j) none (found d block j less f))

  -- one of each, at these places
  at_places : (m n : ℕ) → places c 0 block ≡ m ∷ [] → places d 0 block ≡ n ∷ []
      → R (item_at block m) (item_at block n) → HoldIn c d R block
  at_places m n firsts seconds holds i j lt less e f =
      let at_i : i ≡ m = only_place i m (subst (IsIn i) firsts (found c block i lt e)) in
      let at_j : j ≡ n = only_place j n (subst (IsIn j) seconds (found d block j less f)) in
      subst (λ (k : ℕ). R (item_at block k) (item_at block j)) (sym at_i)
      (subst (λ (k : ℕ). R (item_at block m) (item_at block k)) (sym at_j) holds)

-- ---- classes beside channels, which transistors alone have

beside_channels : (tech : Tech) (c : Class) (R : Item → Item → Type 0)
    → ((k : ℕ) (nets : NodeNets) (depletion : Bool) (gate : Axis2) (w l : ℤ)
    → HoldIn c G R (kind_items tech k (Fet depletion gate w l) nets))
    → HoldsInBlocks tech (OfClasses c G R)
beside_channels tech c R fet = record { nodes = λ k kind nets sound. kinds k kind nets; wires = layers } where
  layers : (layer : Layer) (box : Item) → HoldIn c G R (on_layer layer box)
  layers Metal box = without_second c G R (on_layer Metal box) refl
  layers layer box = without_second c G R (on_layer layer box) refl

  kinds : (k : ℕ) (kind : NodeKind) (nets : NodeNets) → HoldIn c G R (kind_items tech k kind nets)
  kinds k (Fet depletion gate w l) nets = fet k nets depletion gate w l
  kinds k (Joint layer width) nets = layers layer _
  kinds k (Contact Metal) nets = without_second c G R (kind_items tech k (Contact Metal) nets) refl
  kinds k kind nets = without_second c G R (kind_items tech k kind nets) refl

-- a transistor has no cut and no window
fet_plain : (tech : Tech) (k : ℕ) (nets : NodeNets) (depletion : Bool) (gate : Axis2) (w l : ℤ)
    → (places C 0 (kind_items tech k (Fet depletion gate w l) nets) ≡ [])
    × (places B 0 (kind_items tech k (Fet depletion gate w l) nets) ≡ [])
fet_plain tech k nets true Across w l = (refl, refl)
fet_plain tech k nets false Across w l = (refl, refl)
fet_plain tech k nets depletion gate w l = (refl, refl)

pub no_cut_with_channel : (tech : Tech) → HoldsInBlocks tech (OfClasses C G (λ a b. ⊥))
no_cut_with_channel tech = beside_channels tech C (λ a b. ⊥) (λ k nets depletion gate w l.
    without_first C G (λ a b. ⊥) (kind_items tech k (Fet depletion gate w l) nets)
    (fet_plain tech k nets depletion gate w l).0)

pub no_window_with_channel : (tech : Tech) → HoldsInBlocks tech (OfClasses B G (λ a b. ⊥))
no_window_with_channel tech = beside_channels tech B (λ a b. ⊥) (λ k nets depletion gate w l.
    without_first B G (λ a b. ⊥) (kind_items tech k (Fet depletion gate w l) nets)
    (fet_plain tech k nets depletion gate w l).1)

-- ---- in instances, wherever they stand

module _ (tech : Tech) (x y : ℤ) (layout : Coords) where
  abbrev Lies : Item → Sides
  Lies i = shifted_sides x y (sides_in layout i)

  -- an implant goes past a channel of its owner
  abbrev pub GoesPast : Item → Item → Type 0
  GoesPast a b = EnclosesBy (Lies a) (Lies b) (numbers_of tech).extension_implant

  own_encloses : (gate : Axis2) (k net main : ℕ) (a b e : ℤ)
      → EnclosesBy (Lies (item_running gate (box_round k I net (a +ℤ e) (b +ℤ e))))
      (Lies (item_running gate (box_round k G main a b))) e
  own_encloses Across k net main a b e =
      record {
        left = omega (arith, ints);
        right = omega (arith, ints);
        bottom = omega (arith, ints);
        top = omega (arith, ints);
      }
  own_encloses Up k net main a b e =
      record {
        left = omega (arith, ints);
        right = omega (arith, ints);
        bottom = omega (arith, ints);
        top = omega (arith, ints);
      }

  pub implant_past_channel : HoldsInBlocks tech (OfClasses I G GoesPast)
  implant_past_channel = beside_channels tech I GoesPast fet where
    fet : (k : ℕ) (nets : NodeNets) (depletion : Bool) (gate : Axis2) (w l : ℤ)
        → HoldIn I G GoesPast (kind_items tech k (Fet depletion gate w l) nets)
    fet k nets true Across w l = at_places I G GoesPast (kind_items tech k (Fet true Across w l) nets) 5 4 refl refl
        (own_encloses Across k nets.main nets.main (half w) (half l) (numbers_of tech).extension_implant)
    fet k nets true Up w l = at_places I G GoesPast (kind_items tech k (Fet true Up w l) nets) 5 4 refl refl
        (own_encloses Up k nets.main nets.main (half w) (half l) (numbers_of tech).extension_implant)
    fet k nets false Across w l = without_first I G GoesPast (kind_items tech k (Fet false Across w l) nets) refl
    fet k nets false Up w l = without_first I G GoesPast (kind_items tech k (Fet false Up w l) nets) refl

  -- poly and diffusion of one owner overlap
  abbrev pub DoCross : Item → Item → Type 0
  DoCross a b = gap_of_sides (Lies a) (Lies b) <ℤ pos 0

  -- boxes round one centre that have an inside overlap
  round_overlap : (gate : Axis2) (k net main : ℕ) (a b c d : ℤ) → pos 1 ≤ℤ a → pos 1 ≤ℤ b → pos 1 ≤ℤ c → pos 1 ≤ℤ d
      → DoCross (item_running gate (box_round k P net a b)) (item_running gate (box_round k Dm main c d))
  round_overlap Across k net main a b c d low_a low_b low_c low_d = omega
      (arith, ints, clamps, low_a, low_b, low_c, low_d)
  round_overlap Up k net main a b c d low_a low_b low_c low_d = omega (arith, ints, clamps, low_a, low_b, low_c, low_d)

  -- half of a size
  half_low : (z : ℤ) → IsSize z → pos 1 ≤ℤ half z
  half_low z h = let low = h.low in let even : (pos 2 *ℤ half z) ≡ z = h.even in omega (arith, ints, low, even)

  longer : (a e : ℤ) → pos 1 ≤ℤ a → pos 0 ≤ℤ e → pos 1 ≤ℤ (a +ℤ e)
  longer a e low h = omega (arith, ints, low, h)

  fet_lies : (gate : Axis2) (k net main : ℕ) (w l : ℤ) → IsSize w → IsSize l
      → DoCross (item_running gate (box_round k P net (half w +ℤ (numbers_of tech).extension_poly) (half l)))
      (item_running gate (box_round k Dm main (half w) (half l +ℤ (numbers_of tech).extension_diffusion)))
  fet_lies gate k net main w l size_w size_l =
      let wide = half_low w size_w in let long = half_low l size_l in
      let ranges = (sound_numbers tech).in_range in
      round_overlap gate k net main (half w +ℤ (numbers_of tech).extension_poly) (half l) (half w)
      (half l +ℤ (numbers_of tech).extension_diffusion)
      (longer (half w) (numbers_of tech).extension_poly wide ranges.extension_poly.0) long
      wide (longer (half l) (numbers_of tech).extension_diffusion long ranges.extension_diffusion.0)

  -- a layer has one of them at most
  layer_cross : (layer : Layer) (box : Item) → HoldIn P Dm DoCross (on_layer layer box)
  layer_cross Poly box = without_second P Dm DoCross (on_layer Poly box) refl
  layer_cross layer box = without_first P Dm DoCross (on_layer layer box) refl

  -- of a transistor and a buried contact poly stands first, and diffusion after it
  poly_kinds : (k : ℕ) (kind : NodeKind) (nets : NodeNets) → IsKind tech kind
      → HoldIn P Dm DoCross (kind_items tech k kind nets)
  poly_kinds k (Joint layer width) nets sound = layer_cross layer _
  poly_kinds k (Contact Poly) nets sound = without_second P Dm DoCross (kind_items tech k (Contact Poly) nets) refl
  poly_kinds k (Contact lower) nets sound = without_first P Dm DoCross (kind_items tech k (Contact lower) nets) refl
  poly_kinds k Buried nets sound =
      let pad = half (buried_pad tech) in let low = half_low (buried_pad tech) (buried_size tech) in
      at_places P Dm DoCross (kind_items tech k Buried nets) 0 1 refl refl
      (round_overlap Across k nets.main nets.main pad pad pad pad low low low low)
  poly_kinds k (Fet true Across w l) nets sound = at_places P Dm DoCross
      (kind_items tech k (Fet true Across w l) nets) 0 1 refl refl
      (fet_lies Across k nets.main nets.low w l sound.0 sound.1)
  poly_kinds k (Fet false Across w l) nets sound = at_places P Dm DoCross
      (kind_items tech k (Fet false Across w l) nets) 0 1 refl refl
      (fet_lies Across k nets.main nets.low w l sound.0 sound.1)
  poly_kinds k (Fet depletion gate w l) nets sound = at_places P Dm DoCross
      (kind_items tech k (Fet depletion gate w l) nets) 0 1 refl refl
      (fet_lies gate k nets.main nets.low w l sound.0 sound.1)

  pub poly_crosses_diffusion : HoldsInBlocks tech (OfClasses P Dm DoCross)
  poly_crosses_diffusion = record { nodes = poly_kinds; wires = layer_cross }
