-- The items of a node lie round its centre, no further than the half extent.
use Rattle.std.proofs.Common.{◌≡◌, ℕ, Bool, true, false, ℤ, pos, neg_ℤ, ◌+ℤ◌, ◌≤ℤ◌, [], ◌∷◌, refl, arith}
use Rattle.std.{proofs.lemmas.Int.{ints, clamps}, specs.{Prelude.if◌then◌else◌, Int.int_max, List.AllByRecursion}}
use Rattle.rule_table.specs.{Bounds.IsSize, Technology.{numbers_of, pad_of}}
use Rattle.rule_table.specs.declared.{technology.Tech.Tech, classes.Class.{Class, TheVariants.{M, P, Dc, Dm, C, I, G}}}
use Rattle.rule_table.specs.declared.classes.Layer.{Layer, TheVariants.{Diffusion, Poly, Metal}}
use Rattle.rule_table.proofs.{Sound.sound, Widths.pad_bounds}
use Rattle.sym_items.specs.declared.items.Item.{Item}
use Rattle.cell_model.specs.declared.cell.{Axis2.{Axis2, TheVariants.{Across, Up}}, NodeKind.NodeKind}
use Rattle.cell_model.specs.declared.cell.{NodeKind.TheVariants.{Joint, Contact, Buried, Fet}, NodeNets.NodeNets}
use Rattle.cell_model.specs.{Wiring.buried_pad, Sound.IsKind}
use Rattle.list_facts.proofs.Elements.{all_weaker, all_map}
use Rattle.expand.specs.{Variables.{half, centre}, NodeItems.{item_running, on_layer, box_at, box_round, square_round}}
use Rattle.expand.{specs.NodeItems.{standing_at, channel_items, kind_items}, proofs.Among.half_buried}
use Rattle.coarse_grid.{specs.Extent.{implant_past, fet_reach, reach_of}, proofs.{Extents.half_bounds, Grid.IsRoundOn}}

-- an item of node k lies round its centre
pub record IsRound (k : ℕ) (extent : ℤ) (item : Item) : Type 0 where
  pub owner : item.owner ≡ k
  pub x : IsRoundOn (centre k) extent item.xl item.xh
  pub y : IsRoundOn (centre k) extent item.yl item.yh

-- two sides of a box, so far past the centre
record AreSides (extent low high : ℤ) : Type 0 where
  from : neg_ℤ extent ≤ℤ low
  ordered : low ≤ℤ high
  to : high ≤ℤ extent

sides_round : (extent size : ℤ) → pos 0 ≤ℤ size → size ≤ℤ extent → AreSides extent (neg_ℤ size) size
sides_round extent size low high = record { from = omega (arith, ints); ordered = omega (arith, ints); to = high }

box_is_round : (k : ℕ) (class : Class) (net : ℕ) (extent left right bottom top : ℤ) → AreSides extent left right
    → AreSides extent bottom top → IsRound k extent (box_at k class net left right bottom top)
box_is_round k class net extent left right bottom top a b = record {
  owner = refl;
  x = record { low_var = refl; high_var = refl; low_off = a.from; ordered = a.ordered; high_off = a.to };
  y = record { low_var = refl; high_var = refl; low_off = b.from; ordered = b.ordered; high_off = b.to };
}

-- the boxes of a layer lie where the item does
layered : (k : ℕ) (extent : ℤ) (layer : Layer) (item : Item) → IsRound k extent item
    → AllByRecursion (IsRound k extent) (on_layer layer item)
layered k extent Metal item h = (record { owner = h.owner; x = h.x; y = h.y }, tt)
layered k extent Poly item h = (record { owner = h.owner; x = h.x; y = h.y }, tt)
layered k extent Diffusion item h =
    (record { owner = h.owner; x = h.x; y = h.y }, (record { owner = h.owner; x = h.x; y = h.y }, tt))

-- an item that stands at a contact, or is turned, lies round the centre too
standing : (k : ℕ) (extent : ℤ) (item : Item) → IsRound k extent item → IsRound k extent (standing_at k item)
standing k extent item h = record { owner = h.owner; x = h.x; y = h.y }

turned : (k : ℕ) (extent : ℤ) (gate : Axis2) (item : Item) → IsRound k extent item
    → IsRound k extent (item_running gate item)
turned k extent Across item h = h
turned k extent Up item h = record { owner = h.owner; x = h.y; y = h.x }

-- the sides of a transistor's boxes
pub record AreLimits (tech : Tech) (depletion : Bool) (x y extent : ℤ) : Type 0 where
  pub x_low : pos 0 ≤ℤ x
  pub y_low : pos 0 ≤ℤ y
  pub poly_low : pos 0 ≤ℤ (numbers_of tech).extension_poly
  pub diffusion_low : pos 0 ≤ℤ (numbers_of tech).extension_diffusion
  pub implant_low : pos 0 ≤ℤ implant_past tech depletion
  pub poly : (x +ℤ (numbers_of tech).extension_poly) ≤ℤ extent
  pub diffusion : (y +ℤ (numbers_of tech).extension_diffusion) ≤ℤ extent
  pub implant_x : (x +ℤ implant_past tech depletion) ≤ℤ extent
  pub implant_y : (y +ℤ implant_past tech depletion) ≤ℤ extent

sum_low : (a b : ℤ) → pos 0 ≤ℤ a → pos 0 ≤ℤ b → pos 0 ≤ℤ (a +ℤ b)
sum_low a b h k = omega (arith, ints)

less : (a b extent : ℤ) → pos 0 ≤ℤ b → (a +ℤ b) ≤ℤ extent → a ≤ℤ extent
less a b extent h k = omega (arith, ints)

-- a piece of diffusion, before and after the channel
before : (extent a b : ℤ) → pos 0 ≤ℤ a → pos 0 ≤ℤ b → (a +ℤ b) ≤ℤ extent → AreSides extent (neg_ℤ (a +ℤ b)) (neg_ℤ a)
before extent a b h k le =
    record { from = omega (arith, ints); ordered = omega (arith, ints); to = omega (arith, ints) }

after : (extent a b : ℤ) → pos 0 ≤ℤ a → pos 0 ≤ℤ b → (a +ℤ b) ≤ℤ extent → AreSides extent a (a +ℤ b)
after extent a b h k le = record { from = omega (arith, ints); ordered = omega (arith, ints); to = le }

implant_round : (tech : Tech) (k : ℕ) (nets : NodeNets) (depletion : Bool) (x y extent : ℤ)
    → AreLimits tech depletion x y extent
    → AllByRecursion (IsRound k extent)
    (if depletion then box_round k I nets.main (x +ℤ (numbers_of tech).extension_implant)
    (y +ℤ (numbers_of tech).extension_implant) ∷ [] else [])
implant_round tech k nets true x y extent l = (
  box_is_round k I nets.main extent _ _ _ _ (sides_round extent _ (sum_low _ _ l.x_low l.implant_low) l.implant_x)
      (sides_round extent _ (sum_low _ _ l.y_low l.implant_low) l.implant_y),
  tt,
)
implant_round tech k nets false x y extent l = tt

channel_round : (tech : Tech) (k : ℕ) (nets : NodeNets) (depletion : Bool) (x y extent : ℤ)
    → AreLimits tech depletion x y extent
    → AllByRecursion (IsRound k extent) (channel_items tech k nets depletion x y)
channel_round tech k nets depletion x y extent l =
    let x_most = less x _ extent l.poly_low l.poly in
    let y_most = less y _ extent l.diffusion_low l.diffusion in
    let across = sides_round extent x l.x_low x_most in
    let up = sides_round extent y l.y_low y_most in (
      box_is_round k P nets.main extent _ _ _ _ (sides_round extent _ (sum_low _ _ l.x_low l.poly_low) l.poly) up,
      (
        box_is_round k Dm nets.low extent _ _ _ _ across
            (sides_round extent _ (sum_low _ _ l.y_low l.diffusion_low) l.diffusion),
        (
          box_is_round k Dc nets.low extent _ _ _ _ across (before extent y _ l.y_low l.diffusion_low l.diffusion),
          (
            box_is_round k Dc nets.high extent _ _ _ _ across (after extent y _ l.y_low l.diffusion_low l.diffusion),
            (box_is_round k G nets.main extent _ _ _ _ across up, implant_round tech k nets depletion x y extent l),
          ),
        ),
      ),
    )

-- what the greatest half size of a transistor bounds
max_parts : (a b c d e extent : ℤ) → int_max (a +ℤ int_max b c) (d +ℤ int_max e c) ≤ℤ extent
    → ((a +ℤ b) ≤ℤ extent) × ((a +ℤ c) ≤ℤ extent) × ((d +ℤ e) ≤ℤ extent) × ((d +ℤ c) ≤ℤ extent)
max_parts a b c d e extent h = (
  omega (arith, ints, clamps),
  omega (arith, ints, clamps),
  omega (arith, ints, clamps),
  omega (arith, ints, clamps),
)

implant_low : (tech : Tech) (depletion : Bool) → pos 0 ≤ℤ implant_past tech depletion
implant_low tech true = (sound tech.numbers tech.sound).in_range.extension_implant.0
implant_low tech false = omega (arith, ints)

pub half_low : (z : ℤ) → IsSize z → pos 0 ≤ℤ half z
half_low z s = let low : pos 2 ≤ℤ z = s.low in (half_bounds z (omega (arith, ints))).0

pub limits : (tech : Tech) (depletion : Bool) (w l extent : ℤ) → IsSize w → IsSize l
    → fet_reach tech depletion w l ≤ℤ extent → AreLimits tech depletion (half w) (half l) extent
limits tech depletion w l extent sw sl h =
    let n = (sound tech.numbers tech.sound).in_range in
    let parts = max_parts (half w) (numbers_of tech).extension_poly (implant_past tech depletion) (half l)
    (numbers_of tech).extension_diffusion extent h in
    record {
      x_low = half_low w sw;
      y_low = half_low l sl;
      poly_low = n.extension_poly.0;
      diffusion_low = n.extension_diffusion.0;
      implant_low = implant_low tech depletion;
      poly = parts.0;
      diffusion = parts.2;
      implant_x = parts.1;
      implant_y = parts.3;
    }

max_both : (a b extent : ℤ) → int_max a b ≤ℤ extent → (a ≤ℤ extent) × (b ≤ℤ extent)
max_both a b extent h = (omega (arith, ints, clamps), omega (arith, ints, clamps))

square_is_round : (k : ℕ) (class : Class) (net : ℕ) (extent size : ℤ) → pos 0 ≤ℤ size → size ≤ℤ extent
    → IsRound k extent (square_round k class net size)
square_is_round k class net extent size low high =
    box_is_round k class net extent _ _ _ _ (sides_round extent size low high) (sides_round extent size low high)

-- the items of a node
pub kind_round : (tech : Tech) (k : ℕ) (kind : NodeKind) (nets : NodeNets) (extent : ℤ) → IsKind tech kind
    → reach_of tech kind ≤ℤ extent → AllByRecursion (IsRound k extent) (kind_items tech k kind nets)
kind_round tech k (Joint layer width) nets extent h le =
    layered k extent layer _ (square_is_round k M nets.main extent (half width) (half_low width h.0) le)
kind_round tech k (Contact lower) nets extent h le =
    let n = sound tech.numbers tech.sound in
    let pad = pad_bounds tech.numbers n in
    let pad_low = (half_bounds (pad_of tech) (omega (arith, ints, pad.0))).0 in
    let cut_low = half_low (numbers_of tech).cut_size n.cut_size in
    let both = max_both _ _ extent le in (
      square_is_round k M nets.main extent _ pad_low both.0,
      (
        square_is_round k C nets.main extent _ cut_low both.1,
        layered k extent lower _ (square_is_round k M nets.main extent _ pad_low both.0),
      ),
    )
kind_round tech k Buried nets extent h le =
    let pad : ℤ = half (buried_pad tech) in
    let past : ℤ = (numbers_of tech).extension_buried in
    let low = (half_buried tech).0 in
    let past_low = (sound tech.numbers tech.sound).in_range.extension_buried.0 in
    let square : (class : Class) → IsRound k extent (standing_at k (square_round k class nets.main pad)) =
    λ class.
    standing k extent _ (square_is_round k class nets.main extent pad low (less pad past extent past_low le)) in (
      square _,
      (
        square _,
        (
          square _,
          (
            standing k extent _ (square_is_round k _ nets.main extent (pad +ℤ past) (sum_low pad past low past_low) le),
            tt,
          ),
        ),
      ),
    )
kind_round tech k (Fet depletion gate w l) nets extent h le =
    all_map (IsRound k extent) (item_running gate) (channel_items tech k nets depletion (half w) (half l))
    (all_weaker (IsRound k extent) (λ item. IsRound k extent (item_running gate item)) (turned k extent gate)
    (channel_items tech k nets depletion (half w) (half l))
    (channel_round tech k nets depletion (half w) (half l) extent (limits tech depletion w l extent h.0 h.1 le)))
