-- The masks of a layer, one item after another.
use Rattle.std.proofs.Common.{◌≡◌, ℕ, ◌+◌, ◌<◌, true, false, All, cond, get_or, List, subst, [], ◌∷◌, ◌++◌, length, map}
use Rattle.std.proofs.Common.{filter, take, sym, ap, ◌∙◌, append_assoc}
use Rattle.std.proofs.lemmas.List.{append-nil, map-append, Elements.{filter_more, All-push}}
use Rattle.lam_geom.specs.declared.boxes.{MaskLayer.MaskLayer, MaskBox.MaskBox}
use Rattle.sym_items.specs.{declared.items.{Item.Item, Coords.Coords}, Sides.{sides_of, sides_in}}
use Rattle.mask_out.specs.Masks.{Mask, mask_of, is_drawn, masks_on}

-- the mask of an item on a layer
abbrev mask_in : Coords → MaskLayer → Item → Mask
mask_in c layer i = record { layer = layer; sides = sides_in c i }

-- the masks of one item more
masks_more : (c : Coords) (items : List Item) (layer : MaskLayer) (i : ℕ) (d : Item) → i < length items
    → masks_on c (take (i + 1) items) layer ≡ masks_on c (take i items) layer
    ++ map (mask_in c layer) (cond (is_drawn layer (get_or items i d).class) (get_or items i d ∷ []) [])
masks_more c items layer i d lt =
    let p = λ (k : Item). is_drawn layer k.class in
    let f = mask_in c layer in
    ap (map f) (filter_more p items i d lt)
    ∙ map-append f (filter p (take i items)) (cond (p (get_or items i d)) (get_or items i d ∷ []) [])

-- an item that is drawn
pub item_drawn : (c : Coords) (items : List Item) (layer : MaskLayer) (i : ℕ) (d : Item) (box : MaskBox)
    (before now next : List MaskBox) → i < length items
    → is_drawn layer (get_or items i d).class ≡ true
    → box.layer ≡ layer → sides_of box.area ≡ sides_in c (get_or items i d)
    → map mask_of now ≡ map mask_of before ++ masks_on c (take i items) layer → next ≡ now ++ (box ∷ [])
    → map mask_of next ≡ map mask_of before ++ masks_on c (take (i + 1) items) layer
item_drawn c items layer i d box before now next lt drawn on sides was is =
    let k = get_or items i d in
    let f = mask_in c layer in
    let mask : mask_of box ≡ f k = ap (λ l. let m : Mask = record { layer = l; sides = sides_of box.area } in m) on
    ∙ ap (λ s. let m : Mask = record { layer = layer; sides = s } in m) sides in
    let more : masks_on c (take (i + 1) items) layer ≡ masks_on c (take i items) layer ++ (f k ∷ []) =
    masks_more c items layer i d lt ∙ ap (λ b. masks_on c (take i items) layer ++ map f (cond b (k ∷ []) [])) drawn in
    ap (map mask_of) is ∙ map-append mask_of now (box ∷ []) ∙ ap (λ zs. zs ++ (mask_of box ∷ [])) was
    ∙ ap (λ m. (map mask_of before ++ masks_on c (take i items) layer) ++ (m ∷ [])) mask
    ∙ append_assoc (map mask_of before) (masks_on c (take i items) layer) (f k ∷ [])
    ∙ ap (λ zs. map mask_of before ++ zs) (sym more)

-- an item that is not
pub item_passed : (c : Coords) (items : List Item) (layer : MaskLayer) (i : ℕ) (d : Item) (before now : List MaskBox)
    → i < length items
    → is_drawn layer (get_or items i d).class ≡ false
    → map mask_of now ≡ map mask_of before ++ masks_on c (take i items) layer
    → map mask_of now ≡ map mask_of before ++ masks_on c (take (i + 1) items) layer
item_passed c items layer i d before now lt passed was =
    let f = mask_in c layer in
    let more : masks_on c (take (i + 1) items) layer ≡ masks_on c (take i items) layer =
    masks_more c items layer i d lt
    ∙ ap (λ b. masks_on c (take i items) layer ++ map f (cond b (get_or items i d ∷ []) [])) passed
    ∙ append-nil (masks_on c (take i items) layer) in
    was ∙ ap (λ zs. map mask_of before ++ zs) (sym more)

-- one element more of which it holds
pub one_more : {X : Type 0} (P : X → Type 0) (now next : List X) (x : X) → All P now → P x → next ≡ now ++ (x ∷ [])
    → All P next
one_more P now next x all holds is = subst (All P) (sym is) (All-push P now x all holds)
