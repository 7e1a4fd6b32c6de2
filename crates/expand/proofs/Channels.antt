-- The items of transistors and contacts, box by box.
use Rattle.std.proofs.Common.{◌≡◌, ℕ, ℤ, ◌+ℤ◌, Bool, true, false, List, [], ◌∷◌, ◌++◌, map, refl, ap, ◌∙◌, subst}
use Rattle.std.{proofs.Common.append_assoc, specs.Prelude.neg_ℤ}
use Rattle.rule_table.specs.declared.{technology.Tech.Tech, classes.Class.TheVariants.{M, P, Dc, Dm, C, I, G}}
use Rattle.rule_table.specs.{declared.classes.Layer.Layer, Technology.{numbers_of, pad_of}}
use Rattle.sym_items.specs.declared.items.Item.{Item}
use Rattle.cell_model.specs.declared.cell.{Axis2.Axis2, NodeNets.NodeNets, NodeKind.TheVariants.Contact}
use Rattle.expand.specs.{Variables.half, NodeItems.{item_running, on_layer, box_at, box_round, square_round}}
use Rattle.expand.specs.NodeItems.{channel_items, kind_items}

-- the five boxes that each transistor has
pub record AreChannelBoxes (tech : Tech) (k : ℕ) (nets : NodeNets) (x y : ℤ)
    (poly mask low high channel : Item) : Type 0 where
  pub is_poly : poly ≡ box_round k P nets.main (x +ℤ (numbers_of tech).extension_poly) y
  pub is_mask : mask ≡ box_round k Dm nets.low x (y +ℤ (numbers_of tech).extension_diffusion)
  pub is_low : low ≡ box_at k Dc nets.low (neg_ℤ x) x (neg_ℤ (y +ℤ (numbers_of tech).extension_diffusion)) (neg_ℤ y)
  pub is_high : high ≡ box_at k Dc nets.high (neg_ℤ x) x y (y +ℤ (numbers_of tech).extension_diffusion)
  pub is_channel : channel ≡ box_round k G nets.main x y

-- a transistor without an implant
pub channel_plain : (tech : Tech) (k : ℕ) (nets : NodeNets) (x y : ℤ) (gate : Axis2) (depletion : Bool)
    (poly mask low high channel : Item) (xs next : List Item) → depletion ≡ false
    → AreChannelBoxes tech k nets x y poly mask low high channel
    → next ≡ xs ++ map (item_running gate) (poly ∷ mask ∷ low ∷ high ∷ channel ∷ [])
    → next ≡ xs ++ map (item_running gate) (channel_items tech k nets depletion x y)
channel_plain tech k nets x y gate depletion poly mask low high channel xs next d h e =
    let same : poly ∷ mask ∷ low ∷ high ∷ channel ∷ [] ≡ channel_items tech k nets depletion x y =
    rw (d, h.is_poly, h.is_mask, h.is_low, h.is_high, h.is_channel) refl in
    e ∙ ap (λ (is : List Item). xs ++ map (item_running gate) is) same

-- a depletion one
pub channel_implanted : (tech : Tech) (k : ℕ) (nets : NodeNets) (x y : ℤ) (gate : Axis2) (depletion : Bool)
    (poly mask low high channel implant : Item) (xs now next : List Item) → depletion ≡ true
    → AreChannelBoxes tech k nets x y poly mask low high channel
    → implant ≡ box_round k I nets.main (x +ℤ (numbers_of tech).extension_implant)
    (y +ℤ (numbers_of tech).extension_implant)
    → now ≡ xs ++ map (item_running gate) (poly ∷ mask ∷ low ∷ high ∷ channel ∷ [])
    → next ≡ now ++ map (item_running gate) (implant ∷ [])
    → next ≡ xs ++ map (item_running gate) (channel_items tech k nets depletion x y)
channel_implanted tech k nets x y gate depletion poly mask low high channel implant xs now next d h i e f =
    let five : List Item = map (item_running gate) (poly ∷ mask ∷ low ∷ high ∷ channel ∷ []) in
    let one : List Item = map (item_running gate) (implant ∷ []) in
    let same : poly ∷ mask ∷ low ∷ high ∷ channel ∷ implant ∷ [] ≡ channel_items tech k nets depletion x y =
    rw (d, h.is_poly, h.is_mask, h.is_low, h.is_high, h.is_channel, i) refl in
    f ∙ ap (λ (is : List Item). is ++ one) e ∙ append_assoc xs five one
    ∙ ap (λ (is : List Item). xs ++ map (item_running gate) is) same

-- the same of the half sizes as the code passes them
pub channel_boxes_passed : (tech : Tech) (k : ℕ) (nets : NodeNets) (px py x y : ℤ) (poly mask low high channel : Item)
    → px ≡ x → py ≡ y
    → AreChannelBoxes tech k nets px py poly mask low high channel
    → AreChannelBoxes tech k nets x y poly mask low high channel
channel_boxes_passed tech k nets px py x y poly mask low high channel ex ey h =
    let Py : ℤ → Type 0 = λ z. AreChannelBoxes tech k nets px z poly mask low high channel in
    let Px : ℤ → Type 0 = λ z. AreChannelBoxes tech k nets z y poly mask low high channel in
    subst Px ex (subst Py ey h)

pub implant_passed : (tech : Tech) (k net : ℕ) (px py x y : ℤ) (implant : Item) → px ≡ x → py ≡ y
    → implant ≡ box_round k I net (px +ℤ (numbers_of tech).extension_implant)
    (py +ℤ (numbers_of tech).extension_implant)
    → implant ≡ box_round k I net (x +ℤ (numbers_of tech).extension_implant) (y +ℤ (numbers_of tech).extension_implant)
implant_passed tech k net px py x y implant ex ey h =
    let Py : ℤ → Type 0 = λ z. implant ≡ box_round k I net (px +ℤ (numbers_of tech).extension_implant)
    (z +ℤ (numbers_of tech).extension_implant) in
    let Px : ℤ → Type 0 = λ z. implant ≡ box_round k I net (z +ℤ (numbers_of tech).extension_implant)
    (y +ℤ (numbers_of tech).extension_implant) in
    subst Px ex (subst Py ey h)

-- the boxes of a contact, one after another
pub contact_pushed : (tech : Tech) (k net : ℕ) (lower : Layer) (pad cut : Item) (xs one two three : List Item)
    → pad ≡ square_round k M net (half (pad_of tech)) → cut ≡ square_round k C net (half (numbers_of tech).cut_size)
    → one ≡ xs ++ pad ∷ [] → two ≡ one ++ cut ∷ [] → three ≡ two ++ on_layer lower pad
    → three ≡ xs ++ kind_items tech k (Contact lower) (record { main = net; low = net; high = net })
contact_pushed tech k net lower pad cut xs one two three ip ic e f g =
    let same : pad ∷ cut ∷ on_layer lower pad ≡ kind_items tech k (Contact lower)
    (record { main = net; low = net; high = net }) = rw (ip, ic) refl in
    g ∙ ap (λ (is : List Item). is ++ on_layer lower pad)
    (f ∙ ap (λ (is : List Item). is ++ cut ∷ []) e ∙ append_assoc xs (pad ∷ []) (cut ∷ []))
    ∙ append_assoc xs (pad ∷ cut ∷ []) (on_layer lower pad) ∙ ap (λ (is : List Item). xs ++ is) same
