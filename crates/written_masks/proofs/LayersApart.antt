-- The masks of a layout stand layer by layer.
use Rattle.std.proofs.Common.{◌≡◌, Bool, true, false, cond, List, [], ◌∷◌, ◌++◌, map, filter, flat_map, refl, sym, ap}
use Rattle.std.proofs.{Common.{◌∙◌, append-nil}, lemmas.List.Elements.filter-append}
use Rattle.lam_geom.specs.declared.boxes.MaskLayer.{MaskLayer, TheVariants.{ND, NP, NC, NM, NI, NB}}
use Rattle.sym_items.specs.{declared.items.{Item.Item, Coords.Coords}, Sides.sides_in}
use Rattle.mask_out.specs.Masks.{Mask, is_same_layer, is_drawn, masks_on, mask_layers, masks_in}
use Rattle.written_masks.proofs.Commands.{on_layer}

same_each : {X Y : Type 0} (f g : X → List Y) → ((x : X) → f x ≡ g x) → (xs : List X) → flat_map f xs ≡ flat_map g xs
same_each f g e [] = refl
same_each f g e (x ∷ xs) = ap (λ ys. ys ++ flat_map f xs) (e x) ∙ ap (λ ys. g x ++ ys) (same_each f g e xs)

-- of what is joined, those of a layer are those of each part
on_joined : {X : Type 0} (f : X → List Mask) (layer : MaskLayer) (xs : List X)
    → on_layer (flat_map f xs) layer ≡ flat_map (λ x. on_layer (f x) layer) xs
on_joined f layer [] = refl
on_joined f layer (x ∷ xs) =
    filter-append (λ (m : Mask). is_same_layer layer m.layer) (f x) (flat_map f xs)
    ∙ ap (λ (ms : List Mask). on_layer (f x) layer ++ ms) (on_joined f layer xs)

abbrev drawn_on : Coords → MaskLayer → List Item → List Mask
drawn_on c other items = map (λ (i : Item). record { layer = other; sides = sides_in c i }) items

all_or_none : (b : Bool) (m : Mask) (ms : List Mask) → cond b (m ∷ cond b ms []) (cond b ms []) ≡ cond b (m ∷ ms) []
all_or_none true m ms = refl
all_or_none false m ms = refl

-- masks of one layer are all of a layer, or none is
sifted : (c : Coords) (layer other : MaskLayer) (items : List Item)
    → on_layer (drawn_on c other items) layer ≡ cond (is_same_layer layer other) (drawn_on c other items) []
sifted c layer other [] = none (is_same_layer layer other)
  where
    none : (b : Bool) → (let no : List Mask = [] in no) ≡ cond b [] []
    none true = refl
    none false = refl
sifted c layer other (i ∷ items) =
    let m : Mask = record { layer = other; sides = sides_in c i } in
    ap (λ (ms : List Mask). cond (is_same_layer layer other) (m ∷ ms) ms) (sifted c layer other items)
    ∙ all_or_none (is_same_layer layer other) m (drawn_on c other items)

picked : (f : MaskLayer → List Mask) (layer : MaskLayer)
    → flat_map (λ other. cond (is_same_layer layer other) (f other) []) mask_layers ≡ f layer
picked f ND = append-nil (f ND)
picked f NP = append-nil (f NP)
picked f NC = append-nil (f NC)
picked f NM = append-nil (f NM)
picked f NI = append-nil (f NI)
picked f NB = append-nil (f NB)

own_masks : (c : Coords) (items : List Item) (layer : MaskLayer)
    → on_layer (masks_in c items) layer ≡ masks_on c items layer
unfolding masks_in
own_masks c items layer =
    on_joined (masks_on c items) layer mask_layers
    ∙ (same_each (λ other. on_layer (masks_on c items other) layer)
    (λ other. cond (is_same_layer layer other) (masks_on c items other) [])
    (λ other. sifted c layer other (filter (λ (i : Item). is_drawn other i.class) items)) mask_layers
    ∙ picked (masks_on c items) layer)

pub masks_by_layer : (c : Coords) (items : List Item)
    → masks_in c items ≡ flat_map (λ layer. filter (λ (m : Mask). is_same_layer layer m.layer) (masks_in c items))
    mask_layers
unfolding masks_in
masks_by_layer c items =
    sym (same_each (on_layer (masks_in c items)) (masks_on c items) (own_masks c items) mask_layers)
