-- The text of a layer and of a symbol, one box and one layer after another.
use Rattle.std.proofs.Common.{◌≡◌, ℕ, ◌+◌, ◌<◌, Bool, true, false, cond, get_or, List, [], ◌∷◌, ◌++◌, length, map}
use Rattle.std.proofs.Common.{filter, take, refl, sym, ap, ◌∙◌, append_assoc}
use Rattle.std.proofs.lemmas.List.{take_more, append-nil, map-append, Elements.filter-append, Concat.flat_map-append}
use Rattle.std.specs.Prelude.{codes, flat_map, if◌then◌else◌}
use Rattle.lam_geom.specs.declared.boxes.MaskLayer.{MaskLayer}
use Rattle.mask_out.specs.Masks.{Mask, is_same_layer}
use Rattle.cif_text.specs.Cif.{box_text, layer_name, layer_text}

-- whether a list has an element
abbrev pub is_some : {A : Type 0} → List A → Bool
is_some [] = false
is_some (x ∷ xs) = true

-- the boxes of a layer
abbrev pub masks_of : MaskLayer → List Mask → List Mask
masks_of layer masks = filter (λ (m : Mask). is_same_layer layer m.layer) masks

abbrev pub name_line : MaskLayer → List ℕ
name_line layer = codes "L " ++ (layer_name layer ++ codes ";\n")

-- the text of a layer with one box more
pub text_grows : (layer : MaskLayer) (masks : List Mask) (m : Mask)
    → layer_text layer (masks ++ (m ∷ []))
    ≡ (layer_text layer masks ++ (if is_some masks then [] else name_line layer)) ++ box_text m
text_grows layer [] m =
    let one : flat_map box_text (m ∷ []) ≡ box_text m = append-nil (box_text m) in
    ap (λ zs. codes "L " ++ (layer_name layer ++ (codes ";\n" ++ zs))) one
    ∙ (let moved : (codes "L " ++ (layer_name layer ++ codes ";\n")) ++ box_text m ≡ codes "L "
    ++ (layer_name layer ++ (codes ";\n" ++ box_text m)) = simp append_assoc in sym moved)
text_grows layer (x ∷ xs) m =
    let g : List ℕ = flat_map box_text (x ∷ xs) in
    let more : flat_map box_text ((x ∷ xs) ++ (m ∷ [])) ≡ g ++ box_text m =
    flat_map-append box_text (x ∷ xs) (m ∷ []) ∙ ap (λ zs. g ++ zs) (append-nil (box_text m)) in
    let moved : (a b c d e : List ℕ) → (a ++ (b ++ (c ++ d))) ++ e ≡ a ++ (b ++ (c ++ (d ++ e))) =
    λ a b c d e. simp append_assoc in
    ap (λ zs. codes "L " ++ (layer_name layer ++ (codes ";\n" ++ zs))) more
    ∙ sym (ap (λ zs. zs ++ box_text m) (append-nil (layer_text layer (x ∷ xs)))
    ∙ moved (codes "L ") (layer_name layer) (codes ";\n") g (box_text m))

-- the boxes of a layer among one box more
masks_more : {A : Type 0} (f : A → Mask) (xs : List A) (layer : MaskLayer) (i : ℕ) (d : A) → i < length xs
    → masks_of layer (map f (take (i + 1) xs)) ≡ masks_of layer (map f (take i xs))
    ++ cond (is_same_layer layer (f (get_or xs i d)).layer) (f (get_or xs i d) ∷ []) []
masks_more f xs layer i d lt =
    ap (λ ys. masks_of layer (map f ys)) (take_more xs i d lt)
    ∙ ap (masks_of layer) (map-append f (take i xs) (get_or xs i d ∷ []))
    ∙ filter-append (λ (m : Mask). is_same_layer layer m.layer) (map f (take i xs)) (f (get_or xs i d) ∷ [])

-- a box of another layer
pub box_passed : {A : Type 0} (f : A → Mask) (xs : List A) (layer : MaskLayer) (i : ℕ) (d : A) → i < length xs
    → is_same_layer layer (f (get_or xs i d)).layer ≡ false
    → masks_of layer (map f (take (i + 1) xs)) ≡ masks_of layer (map f (take i xs))
box_passed f xs layer i d lt other =
    masks_more f xs layer i d lt ∙ ap (λ b. masks_of layer (map f (take i xs)) ++ cond b (f (get_or xs i d) ∷ []) [])
    other ∙ append-nil (masks_of layer (map f (take i xs)))

-- a box of the layer
pub box_taken : {A : Type 0} (f : A → Mask) (xs : List A) (layer : MaskLayer) (i : ℕ) (d : A) → i < length xs
    → is_same_layer layer (f (get_or xs i d)).layer ≡ true
    → masks_of layer (map f (take (i + 1) xs)) ≡ masks_of layer (map f (take i xs)) ++ (f (get_or xs i d) ∷ [])
box_taken f xs layer i d lt same =
    masks_more f xs layer i d lt ∙ ap (λ b. masks_of layer (map f (take i xs)) ++ cond b (f (get_or xs i d) ∷ []) [])
    same

some_more : {A : Type 0} (xs : List A) (x : A) → is_some (xs ++ (x ∷ [])) ≡ true
some_more [] x = refl
some_more (y ∷ ys) x = refl

pub some_taken : {A : Type 0} (f : A → Mask) (xs : List A) (layer : MaskLayer) (i : ℕ) (d : A) → i < length xs
    → is_same_layer layer (f (get_or xs i d)).layer ≡ true
    → is_some (masks_of layer (map f (take (i + 1) xs))) ≡ true
some_taken f xs layer i d lt same = ap is_some (box_taken f xs layer i d lt same)
    ∙ some_more (masks_of layer (map f (take i xs))) (f (get_or xs i d))

-- what is written of a layer, with one box more
pub layer_grows : {A : Type 0} (f : A → Mask) (xs : List A) (layer : MaskLayer) (i : ℕ) (d : A) (is_named : Bool)
    (before now named next : List ℕ) → i < length xs
    → is_same_layer layer (f (get_or xs i d)).layer ≡ true
    → now ≡ before ++ layer_text layer (masks_of layer (map f (take i xs)))
    → is_named ≡ is_some (masks_of layer (map f (take i xs)))
    → named ≡ now ++ (if is_named then [] else name_line layer) → next ≡ named ++ box_text (f (get_or xs i d))
    → next ≡ before ++ layer_text layer (masks_of layer (map f (take (i + 1) xs)))
layer_grows f xs layer i d is_named before now named next lt same was flag name is =
    let ms = masks_of layer (map f (take i xs)) in
    let m = f (get_or xs i d) in
    let moved : (a b c e : List ℕ) → ((a ++ b) ++ c) ++ e ≡ a ++ ((b ++ c) ++ e) = λ a b c e. simp append_assoc in
    is ∙ ap (λ zs. zs ++ box_text m) (name ∙ ap (λ b. now ++ (if b then [] else name_line layer)) flag
    ∙ ap (λ zs. zs ++ (if is_some ms then [] else name_line layer)) was)
    ∙ moved before (layer_text layer ms) (if is_some ms then [] else name_line layer) (box_text m)
    ∙ ap (λ zs. before ++ zs) (sym (ap (layer_text layer) (box_taken f xs layer i d lt same) ∙ text_grows layer ms m))

-- one chunk more
pub chunk_added : {A : Type 0} (f : A → List ℕ) (xs : List A) (i : ℕ) (d : A) (before now next : List ℕ) → i < length xs
    → now ≡ before ++ flat_map f (take i xs) → next ≡ now ++ f (get_or xs i d)
    → next ≡ before ++ flat_map f (take (i + 1) xs)
chunk_added f xs i d before now next lt was is =
    let text : List ℕ = f (get_or xs i d) in
    let more : flat_map f (take (i + 1) xs) ≡ flat_map f (take i xs) ++ text =
    ap (flat_map f) (take_more xs i d lt) ∙ flat_map-append f (take i xs) (get_or xs i d ∷ [])
    ∙ ap (λ zs. flat_map f (take i xs) ++ zs) (append-nil text) in
    is ∙ ap (λ zs. zs ++ text) was ∙ append_assoc before (flat_map f (take i xs)) text
    ∙ ap (λ zs. before ++ zs) (sym more)

-- the lines of a symbol, one after another
pub symbol_joined : (scale nine name ending layers end a b c d e f : List ℕ) → a ≡ scale → b ≡ a ++ nine
    → c ≡ b ++ name → d ≡ c ++ ending → e ≡ d ++ layers → f ≡ e ++ end
    → f ≡ scale ++ (nine ++ (name ++ (ending ++ (layers ++ end))))
symbol_joined scale nine name ending layers end a b c d e f first second third fourth fifth sixth =
    let moved : ((((scale ++ nine) ++ name) ++ ending) ++ layers) ++ end ≡ scale
    ++ (nine ++ (name ++ (ending ++ (layers ++ end)))) = simp append_assoc in
    sixth ∙ ap (λ zs. zs ++ end)
    (fifth ∙ ap (λ zs. zs ++ layers)
    (fourth ∙ ap (λ zs. zs ++ ending)
    (third ∙ ap (λ zs. zs ++ name) (second ∙ ap (λ zs. zs ++ nine) first)))) ∙ moved
