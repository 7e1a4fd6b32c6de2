-- The boxes of all instances by number: each item of a class that is drawn has exactly one number.
use Rattle.std.proofs.Common.{◌≡◌, ℕ, ◌<◌, true, List, [], ◌∷◌, length, Some, refl, sym, ap, ◌∙◌, subst, arith, inl}
use Rattle.std.{proofs.{Common.inr, lemmas.Option.slice_get_within}, specs.{List.range_with_len, Option.unwrap_or}}
use Rattle.lam_geom.specs.declared.boxes.MaskLayer.{MaskLayer, TheVariants.{ND, NP, NC, NM, NI, NB}}
use Rattle.rule_table.specs.declared.classes.Class.{Class, TheVariants.{M, P, Dc, Dm, C, I, G, B}}
use Rattle.sym_items.specs.declared.items.Item.{Item}
use Rattle.pair_rules.specs.Bound.{item_at}
use Rattle.expand.specs.declared.master.Master.{Master}
use Rattle.plan_model.specs.{declared.plan.Plan.Plan, Instances.{InstancePlace, IsInstancePlace, grid_at, spot}}
use Rattle.plan_model.specs.{Instances.{spots_in_row, spots_in_grid, spots_of}, Plan.grids_of, Rows.row_at}
use Rattle.mask_out.specs.Masks.{layer_drawn, is_same_layer, is_drawn, mask_layers}
use Rattle.instance_laws.specs.{Rules.items_at, Conductors.{InstanceItem, IsInstanceItem, item_of}, Meetings.at}
use Rattle.instance_laws.specs.Shapes.{items_on, drawn_items, shapes_at, shapes_of, Shows, layer_of}
use Rattle.instance_laws.proofs.NetlistLists.{Has, Unique, has_map, from_map, has_flat, from_flat, has_filter}
use Rattle.instance_laws.proofs.NetlistLists.{from_filter, has_range, from_range, number_of, has_at, at_below}
use Rattle.instance_laws.proofs.NetlistLists.{same_number, unique_map, unique_flat, unique_filter, unique_range}

-- ---- layers and classes

-- the class of the items that are boxes of a layer
abbrev pub class_of_layer : MaskLayer → Class
class_of_layer ND = Dm
class_of_layer NP = P
class_of_layer NC = C
class_of_layer NM = M
class_of_layer NI = I
class_of_layer NB = B

pub class_back : (c : Class) (layer : MaskLayer) → layer_drawn c ≡ Some layer → c ≡ class_of_layer layer
class_back Dm layer e = (let k : ND ≡ layer = cc in ap class_of_layer k)
class_back P layer e = (let k : NP ≡ layer = cc in ap class_of_layer k)
class_back C layer e = (let k : NC ≡ layer = cc in ap class_of_layer k)
class_back M layer e = (let k : NM ≡ layer = cc in ap class_of_layer k)
class_back I layer e = (let k : NI ≡ layer = cc in ap class_of_layer k)
class_back B layer e = (let k : NB ≡ layer = cc in ap class_of_layer k)
class_back Dc layer e = absurd cc
class_back G layer e = absurd cc

pub layer_there : (c : Class) (layer : MaskLayer) → c ≡ class_of_layer layer → layer_drawn c ≡ Some layer
layer_there c ND e = ap layer_drawn e
layer_there c NP e = ap layer_drawn e
layer_there c NC e = ap layer_drawn e
layer_there c NM e = ap layer_drawn e
layer_there c NI e = ap layer_drawn e
layer_there c NB e = ap layer_drawn e

same_layer : (a b : MaskLayer) → is_same_layer a b ≡ true → a ≡ b
same_layer ND ND e = refl
same_layer NP NP e = refl
same_layer NC NC e = refl
same_layer NM NM e = refl
same_layer NI NI e = refl
same_layer NB NB e = refl
same_layer a b e = absurd cc

drawn_on : (layer : MaskLayer) (c : Class) → is_drawn layer c ≡ true → layer_drawn c ≡ Some layer
drawn_on layer Dm e = ap Some (sym (same_layer layer ND e))
drawn_on layer P e = ap Some (sym (same_layer layer NP e))
drawn_on layer C e = ap Some (sym (same_layer layer NC e))
drawn_on layer M e = ap Some (sym (same_layer layer NM e))
drawn_on layer I e = ap Some (sym (same_layer layer NI e))
drawn_on layer B e = ap Some (sym (same_layer layer NB e))
drawn_on layer Dc e = absurd cc
drawn_on layer G e = absurd cc

is_drawn_on : (layer : MaskLayer) (c : Class) → c ≡ class_of_layer layer → is_drawn layer c ≡ true
is_drawn_on ND c e = ap (is_drawn ND) e
is_drawn_on NP c e = ap (is_drawn NP) e
is_drawn_on NC c e = ap (is_drawn NC) e
is_drawn_on NM c e = ap (is_drawn NM) e
is_drawn_on NI c e = ap (is_drawn NI) e
is_drawn_on NB c e = ap (is_drawn NB) e

among_layers : (layer : MaskLayer) → Has mask_layers layer
among_layers ND = inl refl
among_layers NP = inr (inl refl)
among_layers NC = inr (inr (inl refl))
among_layers NM = inr (inr (inr (inl refl)))
among_layers NI = inr (inr (inr (inr (inl refl))))
among_layers NB = inr (inr (inr (inr (inr (inl refl)))))

-- a number for each layer
abbrev layer_number : MaskLayer → ℕ
layer_number ND = 0
layer_number NP = 1
layer_number NC = 2
layer_number NM = 3
layer_number NI = 4
layer_number NB = 5

-- lists that grow have no element twice
abbrev Above : ℕ → List MaskLayer → Type 0
Above n [] = Unit {0}
Above n (x ∷ xs) = (n < layer_number x) × Above (layer_number x) xs

above_more : (n m : ℕ) (xs : List MaskLayer) → n < m → Above m xs → Above n xs
above_more n m [] lt h = tt
above_more n m (x ∷ xs) lt h = (let k = h.0 in omega (arith, lt, k), h.1)

above_has : (n : ℕ) (xs : List MaskLayer) (x : MaskLayer) → Above n xs → Has xs x → n < layer_number x
above_has n [] x h k = absurd k
above_has n (y ∷ xs) x h (inl e) = subst (λ z. n < layer_number z) e h.0
above_has n (y ∷ xs) x h (inr k) = above_has n xs x (above_more n (layer_number y) xs h.0 h.1) k

above_unique : (n : ℕ) (xs : List MaskLayer) → Above n xs → Unique xs
above_unique n [] h = tt
above_unique n (x ∷ xs) h =
    (λ k. (let lt = above_has (layer_number x) xs x h.1 k in omega (arith, lt)), above_unique (layer_number x) xs h.1)

unique_layers : Unique mask_layers
unique_layers = (
  λ h. none ND (NP ∷ NC ∷ NM ∷ NI ∷ NB ∷ [])
      (omega arith, (omega arith, (omega arith, (omega arith, (omega arith, tt))))) h,
  above_unique 0
      (NP ∷ NC ∷ NM ∷ NI ∷ NB ∷ []) (omega arith, (omega arith, (omega arith, (omega arith, (omega arith, tt))))),
)
  where
    none : (x : MaskLayer) (xs : List MaskLayer) → Above (layer_number x) xs → Has xs x → ⊥
    none x xs h k = (let lt = above_has (layer_number x) xs x h k in omega (arith, lt))

-- ---- the items of a list that are drawn

unique_on : (items : List Item) (layer : MaskLayer) → Unique (items_on items layer)
unique_on items layer = unique_filter (λ n. is_drawn layer (item_at items n).class) (range_with_len 0 (length items))
    (unique_range 0 (length items))

record IsOnLayer (items : List Item) (layer : MaskLayer) (n : ℕ) : Type 0 where
  among : n < length items
  drawn : layer_drawn (item_at items n).class ≡ Some layer

on_layer : (items : List Item) (layer : MaskLayer) (n : ℕ) → Has (items_on items layer) n → IsOnLayer items layer n
on_layer items layer n h =
    let f = from_filter (λ n. is_drawn layer (item_at items n).class) (range_with_len 0 (length items)) n h in
    let r = from_range 0 (length items) n f.0 in
    let lt = r.1 in
    record { among = omega (arith, lt); drawn = drawn_on layer (item_at items n).class f.1 }

unique_drawn : (items : List Item) → Unique (drawn_items items)
unique_drawn items = unique_flat (items_on items) (unique_on items) (λ a b n h k. (
    let l = (on_layer items a n h).drawn in
    let r = (on_layer items b n k).drawn in
    cc
    )) mask_layers unique_layers

has_drawn : (items : List Item) (n : ℕ) (layer : MaskLayer) → n < length items
    → (item_at items n).class ≡ class_of_layer layer → Has (drawn_items items) n
has_drawn items n layer lt e =
    has_flat (items_on items) mask_layers layer n (among_layers layer)
    (has_filter (λ n. is_drawn layer (item_at items n).class) (range_with_len 0 (length items)) n
    (has_range 0 (length items) n (omega arith) (omega (arith, lt)))
    (is_drawn_on layer (item_at items n).class e))

-- ---- instances

unique_row : (g : ℕ) (rows : List (List ℕ)) (r : ℕ) → Unique (spots_in_row g rows r)
unique_row g rows r = unique_map (spot g r) (λ a b e. ap (λ (s : InstancePlace). s.col) e)
    (range_with_len 0 (length (row_at rows r))) (unique_range 0 (length (row_at rows r)))

in_row : (g : ℕ) (rows : List (List ℕ)) (r : ℕ) (s : InstancePlace) → Has (spots_in_row g rows r) s
    → (c : ℕ) × (c < length (row_at rows r)) × (spot g r c ≡ s)
in_row g rows r s h =
    let f = from_map (spot g r) (range_with_len 0 (length (row_at rows r))) s h in
    let l = (from_range 0 (length (row_at rows r)) f.0 f.1).1 in
    (f.0, omega (arith, l), f.2)

unique_grid : (grids : List (List (List ℕ))) (g : ℕ) → Unique (spots_in_grid grids g)
unique_grid grids g = unique_flat (spots_in_row g (grid_at grids g)) (unique_row g (grid_at grids g)) (λ a b s h k. (
    let l = ap (λ (s : InstancePlace). s.row) (in_row g (grid_at grids g) a s h).2 in
    let r = ap (λ (s : InstancePlace). s.row) (in_row g (grid_at grids g) b s k).2 in
    l ∙ sym r
    )) (range_with_len 0 (length (grid_at grids g))) (unique_range 0 (length (grid_at grids g)))

in_grid : (grids : List (List (List ℕ))) (g : ℕ) (s : InstancePlace) → Has (spots_in_grid grids g) s
    → (r : ℕ) × (c : ℕ) × (r < length (grid_at grids g)) × (c < length (row_at (grid_at grids g) r))
    × (spot g r c ≡ s)
in_grid grids g s h =
    let f = from_flat (spots_in_row g (grid_at grids g)) (range_with_len 0 (length (grid_at grids g))) s h in
    let l = (from_range 0 (length (grid_at grids g)) f.0 f.1).1 in
    let k = in_row g (grid_at grids g) f.0 s f.2 in
    (f.0, k.0, omega (arith, l), k.1, k.2)

unique_spots : (grids : List (List (List ℕ))) → Unique (spots_of grids)
unique_spots grids = unique_flat (spots_in_grid grids) (unique_grid grids) (λ a b s h k. (
    let l = ap (λ (s : InstancePlace). s.grid) (in_grid grids a s h).4 in
    let r = ap (λ (s : InstancePlace). s.grid) (in_grid grids b s k).4 in
    l ∙ sym r
    )) (range_with_len 0 (length grids)) (unique_range 0 (length grids))

spot_there : (grids : List (List (List ℕ))) (s : InstancePlace) → Has (spots_of grids) s → IsInstancePlace grids s
spot_there grids s h =
    let f = from_flat (spots_in_grid grids) (range_with_len 0 (length grids)) s h in
    let l = (from_range 0 (length grids) f.0 f.1).1 in
    let k = in_grid grids f.0 s f.2 in
    subst (IsInstancePlace grids) k.4 (record { grid = omega (arith, l); row = k.2; col = k.3 })

has_spot : (grids : List (List (List ℕ))) (s : InstancePlace) → IsInstancePlace grids s → Has (spots_of grids) s
has_spot grids s there =
    let rows : List (List ℕ) = grid_at grids s.grid in
    let lt_grid = there.grid in
    let lt_row = there.row in
    let lt_col = there.col in
    has_flat (spots_in_grid grids) (range_with_len 0 (length grids)) s.grid s
    (has_range 0 (length grids) s.grid (omega arith) (omega (arith, lt_grid)))
    (has_flat (spots_in_row s.grid rows) (range_with_len 0 (length rows)) s.row s
    (has_range 0 (length rows) s.row (omega arith) (omega (arith, lt_row)))
    (has_map (spot s.grid s.row) (range_with_len 0 (length (row_at rows s.row))) s.col
    (has_range 0 (length (row_at rows s.row)) s.col (omega arith) (omega (arith, lt_col)))))

-- ---- the boxes of all instances

-- an item that is drawn, on its layer
pub record IsBoxed (plan : Plan) (masters : List Master) (a : InstanceItem) : Type 0 where
  pub drawn : IsInstanceItem plan masters a
  pub layer : layer_drawn (item_of plan masters a).class ≡ Some (layer_of plan masters a)

module _ (plan : Plan) (masters : List Master) where
  unique_at : (s : InstancePlace) → Unique (shapes_at plan masters s)
  unique_at s = unique_map (at s) (λ a b e. ap (λ (d : InstanceItem). d.item) e)
      (drawn_items (items_at plan masters s)) (unique_drawn (items_at plan masters s))

  unique_shapes : Unique (shapes_of plan masters)
  unique_shapes = unique_flat (shapes_at plan masters) unique_at (λ a b d h k. (
      let l = ap (λ (d : InstanceItem). d.spot) (from_map (at a) (drawn_items (items_at plan masters a)) d h).2 in
      let r = ap (λ (d : InstanceItem). d.spot) (from_map (at b) (drawn_items (items_at plan masters b)) d k).2 in
      l ∙ sym r
      )) (spots_of (grids_of plan)) (unique_spots (grids_of plan))

  boxed : (a : InstanceItem) → Has (shapes_of plan masters) a → IsBoxed plan masters a
  boxed a h =
      let f = from_flat (shapes_at plan masters) (spots_of (grids_of plan)) a h in
      let s : InstancePlace = f.0 in
      let items : List Item = items_at plan masters s in
      let g = from_map (at s) (drawn_items items) a f.2 in
      let n : ℕ = g.0 in
      let l = from_flat (items_on items) mask_layers n g.1 in
      let o = on_layer items l.0 n l.2 in
      let is : layer_drawn (item_at items n).class ≡ Some (unwrap_or (layer_drawn (item_at items n).class) ND) =
      o.drawn ∙ ap Some (sym (ap (λ z. unwrap_or z ND) o.drawn)) in
      let here : IsBoxed plan masters (at s n) =
      record { drawn = record { spot = spot_there (grids_of plan) s f.1; among = o.among }; layer = is } in
      subst (IsBoxed plan masters) g.2 here

  has_shape : (a : InstanceItem) (layer : MaskLayer) → IsInstanceItem plan masters a
      → (item_of plan masters a).class ≡ class_of_layer layer → Has (shapes_of plan masters) a
  has_shape a layer drawn e =
      has_flat (shapes_at plan masters) (spots_of (grids_of plan)) a.spot a (has_spot (grids_of plan) a.spot drawn.spot)
      (has_map (at a.spot) (drawn_items (items_at plan masters a.spot)) a.item
      (has_drawn (items_at plan masters a.spot) a.item layer drawn.among e))

  pub shown : (k : ℕ) (a : InstanceItem) → Shows plan masters k a → IsBoxed plan masters a
  shown k a h = boxed a (has_at (shapes_of plan masters) k a h)

  pub number : (a : InstanceItem) (layer : MaskLayer) → IsInstanceItem plan masters a
      → (item_of plan masters a).class ≡ class_of_layer layer → (k : ℕ) × Shows plan masters k a
  number a layer drawn e = number_of (shapes_of plan masters) a (has_shape a layer drawn e)

  pub one_number : (i j : ℕ) (a : InstanceItem) → Shows plan masters i a → Shows plan masters j a → i ≡ j
  one_number i j a h k = same_number (shapes_of plan masters) i j a unique_shapes h k

  pub one_item : (k : ℕ) (a b : InstanceItem) → Shows plan masters k a → Shows plan masters k b → a ≡ b
  one_item k a b h g = cc

  pub each_shown : (k : ℕ) → k < length (shapes_of plan masters) → (a : InstanceItem) × Shows plan masters k a
  each_shown k lt = at_below (shapes_of plan masters) k lt

  pub shown_below : (k : ℕ) (a : InstanceItem) → Shows plan masters k a → k < length (shapes_of plan masters)
  shown_below k a h = slice_get_within (shapes_of plan masters) k a h
