-- The item of a node that a wire meets which ends there, seen so that the wire runs from left to right.
use Rattle.std.proofs.Common.{◌≡◌, ℕ, ◌<◌, ℤ, pos, ◌+ℤ◌, ◌-ℤ◌, ◌*ℤ◌, ◌≤ℤ◌, true, false, Bool, length, refl, sym, subst}
use Rattle.std.{proofs.{Common.arith, lemmas.Int.ints}, specs.Prelude.{IsTrue, neg_ℤ}}
use Rattle.rule_table.specs.{Bounds.IsSize, Technology.{numbers_of, pad_of}}
use Rattle.rule_table.specs.declared.{technology.Tech.Tech, classes.Layer.{Layer, TheVariants.{Diffusion, Poly, Metal}}}
use Rattle.rule_table.proofs.Widths.{pad_even}
use Rattle.sym_items.specs.{declared.items.Item.Item, Transposed.item_along}
use Rattle.cell_model.specs.declared.cell.{Axis2.{Axis2, TheVariants.{Across, Up}}, NodeKind.NodeKind}
use Rattle.cell_model.specs.declared.cell.{NodeKind.TheVariants.{Joint, Contact, Buried, Fet}, NodeNets.NodeNets}
use Rattle.cell_model.specs.{Nets.joined_part, Sound.IsKind, Wiring.{node_takes, node_takes_along, node_pad}}
use Rattle.cell_model.specs.Wiring.{buried_pad}
use Rattle.pair_rules.specs.Bound.{item_at}
use Rattle.expand.specs.{Variables.{half, centre, past}, NodeItems.kind_items, WireItems.{half_channel, reach}}
use Rattle.expand.proofs.Among.{half_size, half_pad, half_buried, buried_size, sound_numbers}
use Rattle.buried_contacts.specs.Contacts.{axis_along}
use Rattle.instance_laws.proofs.{OnBorder.other, ChainConductors.{class_on, part_in}}

-- ---- lengths

-- A box that goes so far to the left and to the right of a centre meets a wire that reaches so far past it with its
-- low end, or its high one, and is at least as long as it is wide.
abbrev pub MeetsEnd : Bool → ℤ → ℤ → ℤ → ℤ → Type 0
MeetsEnd true left right reach width = (neg_ℤ reach ≤ℤ right) × (left ≤ℤ (neg_ℤ reach +ℤ width))
MeetsEnd false left right reach width = (left ≤ℤ reach) × (reach ≤ℤ (right +ℤ width))

twice_half : (z : ℤ) → pos 0 ≤ℤ z → (pos 2 *ℤ half z) ≤ℤ z
twice_half (pos n) h = omega (arith, ints)
twice_half z h = absurd (omega (arith, ints, h))

-- a wire that may move by the slack on a pad still lies on it
slack_fits : (pad width side : ℤ) → (pos 2 *ℤ side) ≡ pad → IsSize width → width ≤ℤ pad
    → half (pad -ℤ width) ≤ℤ (side +ℤ half width)
slack_fits pad width side even size le =
    let left = twice_half (pad -ℤ width) (omega (arith, ints, le)) in
    let own : (pos 2 *ℤ half width) ≡ width = size.even in
    let low = size.low in
    omega (arith, ints, left, own, even, low)

square_meets : (is_low : Bool) (width side : ℤ) → IsSize width → pos 0 ≤ℤ side
    → MeetsEnd is_low (neg_ℤ side) side (half width) width
square_meets true width side size low =
    let own : (pos 2 *ℤ half width) ≡ width = size.even in
    let least = size.low in
    (omega (arith, ints, own, least, low), omega (arith, ints, own, least, low))
square_meets false width side size low =
    let own : (pos 2 *ℤ half width) ≡ width = size.even in
    let least = size.low in
    (omega (arith, ints, own, least, low), omega (arith, ints, own, least, low))

-- a gate goes past where its wires end, on both sides; so does diffusion, each piece on its own side
gate_meets : (is_low : Bool) (width x spacing extension : ℤ) → IsSize width → pos 0 ≤ℤ x → pos 0 ≤ℤ spacing
    → spacing ≤ℤ extension
    → MeetsEnd is_low (neg_ℤ (x +ℤ extension)) (x +ℤ extension) (neg_ℤ (x +ℤ spacing)) width
gate_meets true width x spacing extension size low from less = let least =
    size.low in (omega (arith, ints, least, low, from, less), omega (arith, ints, least, low, from, less))
gate_meets false width x spacing extension size low from less = let least =
    size.low in (omega (arith, ints, least, low, from, less), omega (arith, ints, least, low, from, less))

high_piece_meets : (width y spacing extension : ℤ) → IsSize width → pos 0 ≤ℤ spacing → spacing ≤ℤ extension
    → MeetsEnd true y (y +ℤ extension) (neg_ℤ (y +ℤ spacing)) width
high_piece_meets width y spacing extension size from less = let least =
    size.low in (omega (arith, ints, least, from, less), omega (arith, ints, least, from, less))

low_piece_meets : (width y spacing extension : ℤ) → IsSize width → pos 0 ≤ℤ spacing → spacing ≤ℤ extension
    → MeetsEnd false (neg_ℤ (y +ℤ extension)) (neg_ℤ y) (neg_ℤ (y +ℤ spacing)) width
low_piece_meets width y spacing extension size from less = let least =
    size.low in (omega (arith, ints, least, from, less), omega (arith, ints, least, from, less))

-- ---- boxes round a centre

-- how a box lies round the centre of node k, for a wire that runs along this axis
pub record LiesRound (along : Axis2) (k : ℕ) (left right side : ℤ) (i : Item) : Type 0 where
  pub left_is : (item_along (axis_along along) i).xl ≡ past (centre k) left
  pub right_is : (item_along (axis_along along) i).xh ≡ past (centre k) right
  pub bottom_is : (item_along (other (axis_along along)) i).xl ≡ past (centre k) (neg_ℤ side)
  pub top_is : (item_along (other (axis_along along)) i).xh ≡ past (centre k) side

-- a square
record IsSquare (k : ℕ) (side : ℤ) (i : Item) : Type 0 where
  xl : i.xl ≡ past (centre k) (neg_ℤ side)
  xh : i.xh ≡ past (centre k) side
  yl : i.yl ≡ past (centre k) (neg_ℤ side)
  yh : i.yh ≡ past (centre k) side

square_round : (along : Axis2) (k : ℕ) (side : ℤ) (i : Item) → IsSquare k side i
    → LiesRound along k (neg_ℤ side) side side i
square_round Across k side i h = record { left_is = h.xl; right_is = h.xh; bottom_is = h.yl; top_is = h.yh }
square_round Up k side i h = record { left_is = h.yl; right_is = h.yh; bottom_is = h.xl; top_is = h.xh }

-- ---- the item that a wire meets

-- An item of a node conducts on the layer of a wire that ends there, is of the part that the wire joins, and lies
-- where the wire meets it.
pub record IsMet (tech : Tech) (k : ℕ) (kind : NodeKind) (nets : NodeNets) (layer : Layer) (along : Axis2) (width : ℤ)
    (is_low : Bool) : Type 0 where
  pub r : ℕ
  pub within : r < length (kind_items tech k kind nets)
  pub class : (item_at (kind_items tech k kind nets) r).class ≡ class_on layer
  pub part : part_in kind r ≡ joined_part kind layer is_low
  pub left : ℤ
  pub right : ℤ
  pub side : ℤ
  pub lies : LiesRound along k left right side (item_at (kind_items tech k kind nets) r)
  pub meets : MeetsEnd is_low left right (reach tech kind width along) width
  pub slack : half (node_pad tech layer kind -ℤ width) ≤ℤ (side +ℤ half width)

-- what a wire is that ends at a node of this kind
pub record EndsAtKind (tech : Tech) (kind : NodeKind) (layer : Layer) (along : Axis2) (width : ℤ) : Type 0 where
  pub sound : IsKind tech kind
  pub takes : IsTrue (node_takes kind layer)
  pub takes_along : IsTrue (node_takes_along kind layer along)
  pub size : IsSize width
  pub fits : width ≤ℤ node_pad tech layer kind

module _ (tech : Tech) (k : ℕ) (nets : NodeNets) (along : Axis2) (width : ℤ) (is_low : Bool) where
  abbrev Met : NodeKind → Layer → Type 0
  Met kind layer = IsMet tech k kind nets layer along width is_low

  -- a square
  square_met : (kind : NodeKind) (layer : Layer) (r : ℕ) (side : ℤ) → r < length (kind_items tech k kind nets)
      → (item_at (kind_items tech k kind nets) r).class ≡ class_on layer
      → part_in kind r ≡ joined_part kind layer is_low
      → IsSquare k side (item_at (kind_items tech k kind nets) r) → reach tech kind width along ≡ half width
      → (pos 2 *ℤ side) ≡ node_pad tech layer kind → pos 0 ≤ℤ side → IsSize width → width ≤ℤ node_pad tech layer kind
      → Met kind layer
  square_met kind layer r side within class part square reaches even low size fits = record {
    r = r;
    within = within;
    class = class;
    part = part;
    left = neg_ℤ side;
    right = side;
    side = side;
    lies = square_round along k side (item_at (kind_items tech k kind nets) r) square;
    meets = subst (λ z. MeetsEnd is_low (neg_ℤ side) side z width) (sym reaches)
        (square_meets is_low width side size low);
    slack = slack_fits (node_pad tech layer kind) width side even size fits;
  }

  square : (side : ℤ) (i : Item) → i.xl ≡ past (centre k) (neg_ℤ side) → i.xh ≡ past (centre k) side
      → i.yl ≡ past (centre k) (neg_ℤ side) → i.yh ≡ past (centre k) side → IsSquare k side i
  square side i a b c d = record { xl = a; xh = b; yl = c; yh = d }

  at_joint : (own layer : Layer) (wide : ℤ) → EndsAtKind tech (Joint own wide) layer along width
      → Met (Joint own wide) layer
  at_joint Metal Metal wide h =
      square_met (Joint Metal wide) Metal 0 (half wide) (omega arith) refl refl
      (square (half wide) _ refl refl refl refl) refl h.sound.0.even (half_size wide h.sound.0).0 h.size h.fits
  at_joint Poly Poly wide h = square_met (Joint Poly wide) Poly 0 (half wide) (omega arith) refl refl
      (square (half wide) _ refl refl refl refl) refl h.sound.0.even (half_size wide h.sound.0).0 h.size h.fits
  at_joint Diffusion Diffusion wide h =
      square_met (Joint Diffusion wide) Diffusion 1 (half wide) (omega arith) refl refl
      (square (half wide) _ refl refl refl refl) refl h.sound.0.even (half_size wide h.sound.0).0 h.size h.fits
  at_joint _ _ wide h = absurd (let e = h.takes in cc)

  at_contact : (lower layer : Layer) → EndsAtKind tech (Contact lower) layer along width → Met (Contact lower) layer
  at_contact lower Metal h =
      square_met (Contact lower) Metal 0 (half (pad_of tech)) (omega arith) refl refl
      (square (half (pad_of tech)) _ refl refl refl refl) refl (pad_even (numbers_of tech) (sound_numbers tech))
      (half_pad tech).0 h.size h.fits
  at_contact Poly Poly h =
      square_met (Contact Poly) Poly 2 (half (pad_of tech)) (omega arith) refl refl
      (square (half (pad_of tech)) _ refl refl refl refl) refl (pad_even (numbers_of tech) (sound_numbers tech))
      (half_pad tech).0 h.size h.fits
  at_contact Diffusion Diffusion h =
      square_met (Contact Diffusion) Diffusion 3 (half (pad_of tech)) (omega arith) refl refl
      (square (half (pad_of tech)) _ refl refl refl refl) refl (pad_even (numbers_of tech) (sound_numbers tech))
      (half_pad tech).0 h.size h.fits
  at_contact _ _ h = absurd (let e = h.takes in cc)

  at_buried : (layer : Layer) → EndsAtKind tech Buried layer along width → Met Buried layer
  at_buried Poly h = square_met Buried Poly 0 (half (buried_pad tech)) (omega arith) refl refl
      (square (half (buried_pad tech)) _ refl refl refl refl) refl (buried_size tech).even (half_buried tech).0 h.size
      h.fits
  at_buried Diffusion h = square_met Buried Diffusion 2 (half (buried_pad tech)) (omega arith) refl refl
      (square (half (buried_pad tech)) _ refl refl refl refl) refl (buried_size tech).even (half_buried tech).0 h.size
      h.fits
  at_buried Metal h = absurd (let e = h.takes in cc)

-- the gate of a transistor, and its pieces of diffusion
gate_met : (tech : Tech) (k : ℕ) (nets : NodeNets) (along : Axis2) (width : ℤ) (is_low depletion : Bool)
    (gate : Axis2) (w l : ℤ)
    → (let i : Item = item_at (kind_items tech k (Fet depletion gate w l) nets) 0 in
    (i.class ≡ class_on Poly) × LiesRound along k (neg_ℤ (half w +ℤ (numbers_of tech).extension_poly))
    (half w +ℤ (numbers_of tech).extension_poly) (half l) i)
    → half_channel gate w l along ≡ half w → EndsAtKind tech (Fet depletion gate w l) Poly along width
    → IsMet tech k (Fet depletion gate w l) nets Poly along width is_low
gate_met tech k nets along width is_low depletion gate w l (class, lies) channel h =
    let n = sound_numbers tech in
    let spacing : ℤ = (numbers_of tech).spacing_poly_diffusion in
    let extension : ℤ = (numbers_of tech).extension_poly in
    let reaches = n.gate_reaches in
    record {
      r = 0;
      within = omega arith;
      class = class;
      part = refl;
      left = neg_ℤ (half w +ℤ extension);
      right = half w +ℤ extension;
      side = half l;
      lies = lies;
      meets = subst
          (λ z. MeetsEnd is_low (neg_ℤ (half w +ℤ extension)) (half w +ℤ extension) (neg_ℤ (z +ℤ spacing)) width)
          (sym channel)
          (gate_meets is_low width (half w) spacing extension h.size (half_size w h.sound.0).0
          n.in_range.spacing_poly_diffusion.0 (omega (arith, ints, reaches)));
      slack = slack_fits l width (half l) h.sound.1.even h.size h.fits;
    }

high_met : (tech : Tech) (k : ℕ) (nets : NodeNets) (along : Axis2) (width : ℤ) (depletion : Bool) (gate : Axis2)
    (w l : ℤ)
    → (let i : Item = item_at (kind_items tech k (Fet depletion gate w l) nets) 3 in (i.class ≡ class_on Diffusion)
    × LiesRound along k (half l) (half l +ℤ (numbers_of tech).extension_diffusion) (half w) i)
    → half_channel gate w l along ≡ half l → EndsAtKind tech (Fet depletion gate w l) Diffusion along width
    → IsMet tech k (Fet depletion gate w l) nets Diffusion along width true
high_met tech k nets along width depletion gate w l (class, lies) channel h =
    let n = sound_numbers tech in
    let spacing : ℤ = (numbers_of tech).spacing_poly_diffusion in
    let extension : ℤ = (numbers_of tech).extension_diffusion in
    let reaches = n.diffusion_reaches in
    record {
      r = 3;
      within = omega arith;
      class = class;
      part = refl;
      left = half l;
      right = half l +ℤ extension;
      side = half w;
      lies = lies;
      meets = subst (λ z. MeetsEnd true (half l) (half l +ℤ extension) (neg_ℤ (z +ℤ spacing)) width) (sym channel)
          (high_piece_meets width (half l) spacing extension h.size n.in_range.spacing_poly_diffusion.0
          (omega (arith, ints, reaches)));
      slack = slack_fits w width (half w) h.sound.0.even h.size h.fits;
    }

low_met : (tech : Tech) (k : ℕ) (nets : NodeNets) (along : Axis2) (width : ℤ) (depletion : Bool) (gate : Axis2)
    (w l : ℤ)
    → (let i : Item = item_at (kind_items tech k (Fet depletion gate w l) nets) 2 in (i.class ≡ class_on Diffusion)
    × LiesRound along k (neg_ℤ (half l +ℤ (numbers_of tech).extension_diffusion)) (neg_ℤ (half l)) (half w) i)
    → half_channel gate w l along ≡ half l → EndsAtKind tech (Fet depletion gate w l) Diffusion along width
    → IsMet tech k (Fet depletion gate w l) nets Diffusion along width false
low_met tech k nets along width depletion gate w l (class, lies) channel h =
    let n = sound_numbers tech in
    let spacing : ℤ = (numbers_of tech).spacing_poly_diffusion in
    let extension : ℤ = (numbers_of tech).extension_diffusion in
    let reaches = n.diffusion_reaches in
    record {
      r = 2;
      within = omega arith;
      class = class;
      part = refl;
      left = neg_ℤ (half l +ℤ extension);
      right = neg_ℤ (half l);
      side = half w;
      lies = lies;
      meets = subst (λ z. MeetsEnd false (neg_ℤ (half l +ℤ extension)) (neg_ℤ (half l)) (neg_ℤ (z +ℤ spacing)) width)
          (sym channel)
          (low_piece_meets width (half l) spacing extension h.size n.in_range.spacing_poly_diffusion.0
          (omega (arith, ints, reaches)));
      slack = slack_fits w width (half w) h.sound.0.even h.size h.fits;
    }

round : (along : Axis2) (k : ℕ) (left right side : ℤ) (i : Item)
    → (item_along (axis_along along) i).xl ≡ past (centre k) left
    → (item_along (axis_along along) i).xh ≡ past (centre k) right
    → (item_along (other (axis_along along)) i).xl ≡ past (centre k) (neg_ℤ side)
    → (item_along (other (axis_along along)) i).xh ≡ past (centre k) side → LiesRound along k left right side i
round along k left right side i a b c d = record { left_is = a; right_is = b; bottom_is = c; top_is = d }

at_transistor : (tech : Tech) (k : ℕ) (nets : NodeNets) (along : Axis2) (width : ℤ) (is_low depletion : Bool)
    (gate : Axis2) (w l : ℤ) (layer : Layer) → EndsAtKind tech (Fet depletion gate w l) layer along width
    → IsMet tech k (Fet depletion gate w l) nets layer along width is_low
at_transistor tech k nets Across width is_low depletion Across w l Poly h =
    gate_met tech k nets Across width is_low depletion Across w l (refl, round Across k _ _ _ _ refl refl refl refl)
    refl h
at_transistor tech k nets Up width is_low depletion Up w l Poly h =
    gate_met tech k nets Up width is_low depletion Up w l (refl, round Up k _ _ _ _ refl refl refl refl) refl h
at_transistor tech k nets Up width true depletion Across w l Diffusion h =
    high_met tech k nets Up width depletion Across w l (refl, round Up k _ _ _ _ refl refl refl refl) refl h
at_transistor tech k nets Across width true depletion Up w l Diffusion h =
    high_met tech k nets Across width depletion Up w l (refl, round Across k _ _ _ _ refl refl refl refl) refl h
at_transistor tech k nets Up width false depletion Across w l Diffusion h =
    low_met tech k nets Up width depletion Across w l (refl, round Up k _ _ _ _ refl refl refl refl) refl h
at_transistor tech k nets Across width false depletion Up w l Diffusion h =
    low_met tech k nets Across width depletion Up w l (refl, round Across k _ _ _ _ refl refl refl refl) refl h
at_transistor tech k nets _ width is_low depletion _ w l _ h = absurd (let e = h.takes in let f = h.takes_along in cc)

-- each wire meets an item of the node at which it ends
pub met_by : (tech : Tech) (k : ℕ) (nets : NodeNets) (along : Axis2) (width : ℤ) (is_low : Bool) (kind : NodeKind)
    (layer : Layer) → EndsAtKind tech kind layer along width → IsMet tech k kind nets layer along width is_low
met_by tech k nets along width is_low (Joint own wide) layer h =
    at_joint tech k nets along width is_low own layer wide h
met_by tech k nets along width is_low (Contact lower) layer h = at_contact tech k nets along width is_low lower layer h
met_by tech k nets along width is_low Buried layer h = at_buried tech k nets along width is_low layer h
met_by tech k nets along width is_low (Fet depletion gate w l) layer h =
    at_transistor tech k nets along width is_low depletion gate w l layer h
