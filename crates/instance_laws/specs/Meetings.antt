-- What lies where in a layout of all instances: poly over diffusion in transistors and at buried contacts alone; the
-- boxes of a transistor; and channels, implants and windows.
use Rattle.std.specs.Prelude.{◌≡◌, ◌↔◌, ℕ, ◌<◌, ◌⊎◌, ℤ, pos, ◌+ℤ◌, ◌-ℤ◌, ◌≤ℤ◌, ◌<ℤ◌, Bool, IsTrue, List, length}
use Rattle.rule_table.specs.declared.{technology.Tech.Tech, classes.Class.{Class, TheVariants.{P, Dc, Dm, I, G, B}}}
use Rattle.rule_table.specs.Technology.{numbers_of, has_buried_of}
use Rattle.cell_model.specs.declared.cell.{Axis2.Axis2, NodeKind.TheVariants.Fet}
use Rattle.sym_items.specs.{declared.items.Coords.Coords, Sides.Sides, Transposed.sides_along, Standing.StandTogether}
use Rattle.expand.specs.declared.master.Master.{Master}
use Rattle.buried_contacts.specs.Contacts.{axis_along, common, kind_of}
use Rattle.plan_model.specs.{declared.plan.Plan.Plan, Instances.{InstancePlace, IsInstancePlace, master_at_spot}}
use Rattle.plan_model.specs.Plan.{grids_of}
use Rattle.pitch_join.specs.Masters.{master_at}
use Rattle.instance_laws.specs.Conductors.{InstanceItem, IsInstanceItem, item_of, sides_of_drawn, gap_of_drawn}

abbrev pub master_of : Plan → List Master → InstancePlace → Master
master_of plan masters spot = master_at masters (master_at_spot (grids_of plan) spot)

-- item number n of an instance
abbrev pub at : InstancePlace → ℕ → InstanceItem
at spot n = record { spot = spot; item = n }

-- an item of this class
pub record IsOfClass (plan : Plan) (masters : List Master) (class : Class) (a : InstanceItem) : Type 0 where
  pub drawn : IsInstanceItem plan masters a
  pub of_class : (item_of plan masters a).class ≡ class

-- and of this owner
pub record IsOwned (plan : Plan) (masters : List Master) (class : Class) (k : ℕ) (a : InstanceItem) : Type 0 where
  pub drawn : IsInstanceItem plan masters a
  pub of_class : (item_of plan masters a).class ≡ class
  pub owned : (item_of plan masters a).owner ≡ k

-- each side of the inner box lies so far inside the same side of the outer one
pub record EnclosesBy (outer inner : Sides) (margin : ℤ) : Type 0 where
  pub left : (outer.left +ℤ margin) ≤ℤ inner.left
  pub right : (inner.right +ℤ margin) ≤ℤ outer.right
  pub bottom : (outer.bottom +ℤ margin) ≤ℤ inner.bottom
  pub top : (inner.top +ℤ margin) ≤ℤ outer.top

-- ---- transistors

-- node number k of an instance is a transistor of this kind: whether it is a depletion one, how its gate runs, and
-- how wide and long its channel is
pub record IsTransistorAt (plan : Plan) (masters : List Master) (spot : InstancePlace) (k : ℕ) (depletion : Bool)
    (gate : Axis2) (w l : ℤ) : Type 0 where
  pub there : IsInstancePlace (grids_of plan) spot
  pub node : k < length (master_of plan masters spot).cell.nodes
  pub kind : kind_of (master_of plan masters spot) k ≡ Fet depletion gate w l

-- Poly and diffusion of a transistor whose gate runs from left to right, and its channel: poly goes past diffusion to
-- the left and right by its extension, and diffusion past poly below and above; the channel is what they have in
-- common, and so wide and so long.
pub record CrossAt (tech : Tech) (w l : ℤ) (poly diffusion channel : Sides) : Type 0 where
  pub left : (poly.left +ℤ (numbers_of tech).extension_poly) ≡ diffusion.left
  pub right : (diffusion.right +ℤ (numbers_of tech).extension_poly) ≡ poly.right
  pub bottom : (diffusion.bottom +ℤ (numbers_of tech).extension_diffusion) ≡ poly.bottom
  pub top : (poly.top +ℤ (numbers_of tech).extension_diffusion) ≡ diffusion.top
  pub shared : channel ≡ common poly diffusion
  pub wide : (channel.right -ℤ channel.left) ≡ w
  pub long : (channel.top -ℤ channel.bottom) ≡ l

-- the piece of diffusion below the channel, and the one above it
abbrev pub below : Sides → Sides → Sides
below diffusion channel =
    record { left = diffusion.left; right = diffusion.right; bottom = diffusion.bottom; top = channel.bottom }

abbrev pub above : Sides → Sides → Sides
above diffusion channel =
    record { left = diffusion.left; right = diffusion.right; bottom = channel.top; top = diffusion.top }

-- item n of an instance, seen so that the gate runs from left to right
abbrev pub seen : Tech → Plan → List Master → List Coords → Axis2 → InstancePlace → ℕ → Sides
seen tech plan masters layouts gate spot n =
    sides_along (axis_along gate) (sides_of_drawn tech plan masters layouts (at spot n))

-- The boxes of a transistor: one of poly, one of diffusion, a conducting piece on either side of the channel, and the
-- channel; and no others of these classes.
pub record HasBoxes (tech : Tech) (plan : Plan) (masters : List Master) (layouts : List Coords) (spot : InstancePlace)
    (k : ℕ) (gate : Axis2) (w l : ℤ) : Type 0 where
  pub poly : ℕ
  pub diffusion : ℕ
  pub low : ℕ
  pub high : ℕ
  pub channel : ℕ
  pub is_poly : IsOwned plan masters P k (at spot poly)
  pub is_diffusion : IsOwned plan masters Dm k (at spot diffusion)
  pub is_low : IsOwned plan masters Dc k (at spot low)
  pub is_high : IsOwned plan masters Dc k (at spot high)
  pub is_channel : IsOwned plan masters G k (at spot channel)
  pub one_poly : (n : ℕ) → IsOwned plan masters P k (at spot n) → n ≡ poly
  pub one_diffusion : (n : ℕ) → IsOwned plan masters Dm k (at spot n) → n ≡ diffusion
  pub two_chunks : (n : ℕ) → IsOwned plan masters Dc k (at spot n) → (n ≡ low) ⊎ (n ≡ high)
  pub one_channel : (n : ℕ) → IsOwned plan masters G k (at spot n) → n ≡ channel
  pub cross : CrossAt tech w l (seen tech plan masters layouts gate spot poly)
      (seen tech plan masters layouts gate spot diffusion) (seen tech plan masters layouts gate spot channel)
  pub lies_below : seen tech plan masters layouts gate spot low
      ≡ below (seen tech plan masters layouts gate spot diffusion) (seen tech plan masters layouts gate spot channel)
  pub lies_above : seen tech plan masters layouts gate spot high
      ≡ above (seen tech plan masters layouts gate spot diffusion) (seen tech plan masters layouts gate spot channel)

abbrev pub TransistorsHaveBoxes : Tech → Plan → List Master → List Coords → Type 0
TransistorsHaveBoxes tech plan masters layouts =
    (spot : InstancePlace) (k : ℕ) (depletion : Bool) (gate : Axis2) (w l : ℤ)
    → IsTransistorAt plan masters spot k depletion gate w l
    → HasBoxes tech plan masters layouts spot k gate w l

-- A transistor is a depletion one exactly where an implant, of whatever instance, goes past its channel by the
-- extension on all sides.
abbrev pub ImplantsTellDepletion : Tech → Plan → List Master → List Coords → Type 0
ImplantsTellDepletion tech plan masters layouts =
    (spot : InstancePlace) (k : ℕ) (depletion : Bool) (gate : Axis2) (w l : ℤ)
    → IsTransistorAt plan masters spot k depletion gate w l
    → (channel : ℕ) → IsOwned plan masters G k (at spot channel)
    → IsTrue depletion ↔ ((a : InstanceItem) × IsOfClass plan masters I a
    × EnclosesBy (sides_of_drawn tech plan masters layouts a)
    (sides_of_drawn tech plan masters layouts (at spot channel)) (numbers_of tech).extension_implant)

-- ---- poly over diffusion

-- two items are of one transistor of an instance
pub record AreOfOneTransistor (plan : Plan) (masters : List Master) (a b : InstanceItem) : Type 0 where
  pub k : ℕ
  pub depletion : Bool
  pub gate : Axis2
  pub w : ℤ
  pub l : ℤ
  pub spot : a.spot ≡ b.spot
  pub transistor : IsTransistorAt plan masters a.spot k depletion gate w l
  pub first : (item_of plan masters a).owner ≡ k
  pub second : (item_of plan masters b).owner ≡ k

-- two items stand at one buried contact of an instance
pub record StandAtOne (plan : Plan) (masters : List Master) (a b : InstanceItem) : Type 0 where
  pub spot : a.spot ≡ b.spot
  pub together : StandTogether (item_of plan masters a) (item_of plan masters b)

-- Poly overlaps diffusion only where both are of one transistor, or stand at one buried contact.
abbrev pub PolyMeetsDiffusion : Tech → Plan → List Master → List Coords → Type 0
PolyMeetsDiffusion tech plan masters layouts =
    (a b : InstanceItem) → IsOfClass plan masters P a → IsOfClass plan masters Dm b
    → gap_of_drawn tech plan masters layouts a b <ℤ pos 0
    → AreOfOneTransistor plan masters a b ⊎ StandAtOne plan masters a b

-- At a buried contact poly and diffusion overlap, and a window goes past what they have in common by the extension on
-- all sides.
pub record IsBuriedContact (tech : Tech) (plan : Plan) (masters : List Master) (layouts : List Coords)
    (a b : InstanceItem) : Type 0 where
  pub has_buried : IsTrue (has_buried_of tech)
  pub overlap : gap_of_drawn tech plan masters layouts a b <ℤ pos 0
  pub window : InstanceItem
  pub is_window : IsOfClass plan masters B window
  pub covered : EnclosesBy (sides_of_drawn tech plan masters layouts window)
      (common (sides_of_drawn tech plan masters layouts a) (sides_of_drawn tech plan masters layouts b))
      (numbers_of tech).extension_buried

abbrev pub ContactsAreBuried : Tech → Plan → List Master → List Coords → Type 0
ContactsAreBuried tech plan masters layouts =
    (a b : InstanceItem) → IsOfClass plan masters P a → IsOfClass plan masters Dm b → StandAtOne plan masters a b
    → IsBuriedContact tech plan masters layouts a b

-- A window keeps off each channel.
abbrev pub WindowsKeepOff : Tech → Plan → List Master → List Coords → Type 0
WindowsKeepOff tech plan masters layouts =
    (a b : InstanceItem) → IsTrue (has_buried_of tech) → IsOfClass plan masters B a → IsOfClass plan masters G b
    → pos 1 ≤ℤ gap_of_drawn tech plan masters layouts a b

-- ---- diffusion that conducts

-- Diffusion that is of no transistor is one conducting piece: the one of its owner, which lies where it lies and
-- stands where it stands.
pub record IsOnePiece (tech : Tech) (plan : Plan) (masters : List Master) (layouts : List Coords)
    (a : InstanceItem) : Type 0 where
  pub piece : ℕ
  pub is_piece : IsOwned plan masters Dc (item_of plan masters a).owner (at a.spot piece)
  pub one_chunk : (n : ℕ) → IsOwned plan masters Dc (item_of plan masters a).owner (at a.spot n) → n ≡ piece
  pub one_mask : (n : ℕ) → IsOwned plan masters Dm (item_of plan masters a).owner (at a.spot n) → n ≡ a.item
  pub lies_there : sides_of_drawn tech plan masters layouts (at a.spot piece)
      ≡ sides_of_drawn tech plan masters layouts a
  pub stands_low : (item_of plan masters (at a.spot piece)).at_low ≡ (item_of plan masters a).at_low
  pub stands_high : (item_of plan masters (at a.spot piece)).at_high ≡ (item_of plan masters a).at_high

abbrev pub DiffusionConducts : Tech → Plan → List Master → List Coords → Type 0
DiffusionConducts tech plan masters layouts =
    (a : InstanceItem) → IsOfClass plan masters Dm a
    → IsOnePiece tech plan masters layouts a
    ⊎ ((k : ℕ) × (depletion : Bool) × (gate : Axis2) × (w : ℤ) × (l : ℤ)
    × IsTransistorAt plan masters a.spot k depletion gate w l × ((item_of plan masters a).owner ≡ k))

-- Each conducting piece has diffusion of the mask: that of its owner.
abbrev pub PiecesHaveMasks : Plan → List Master → Type 0
PiecesHaveMasks plan masters =
    (a : InstanceItem) → IsOfClass plan masters Dc a
    → (n : ℕ) × IsOwned plan masters Dm (item_of plan masters a).owner (at a.spot n)

-- an owner has one item of poly at most, and one of metal
abbrev pub OwnersHaveOne : Plan → List Master → Class → Type 0
OwnersHaveOne plan masters class =
    (spot : InstancePlace) (k m n : ℕ) → IsOwned plan masters class k (at spot m)
    → IsOwned plan masters class k (at spot n) → m ≡ n
