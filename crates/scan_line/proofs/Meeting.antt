-- Which lanes an item meets, and where items lie across the axis.
use Rattle.std.proofs.Common.{◌≡◌, ℕ, ◌+◌, ◌-◌, ◌<◌, Bool, cond, leb, ◌&&◌, List, [], ◌∷◌, ◌++◌, length, take, get_or}
use Rattle.std.proofs.{Common.{map, sym, ap, ◌∙◌, arith}, lemmas.{Bool.Decides.nat_tests, List.get_or-map}}
use Rattle.std.{proofs.lemmas.List.{length-map, Elements.filter_more}, specs.List.filter}
use Rattle.lam_geom.specs.declared.boxes.{Axis.Axis, Span.Span}
use Rattle.sym_items.specs.{declared.items.{Item.Item, Coords.Coords}, Sides.Sides}
use Rattle.pair_rules.specs.{Bound.item_at, Candidates.sides_at}
use Rattle.scan_line.specs.{declared.stretches.Stretches.Stretches, Stretches.stretch_of, Levels.{meets_lane, lane_of}}
use Rattle.scan_line.specs.Levels.{ArePlaces}

one_lower : (n t : ℕ) → leb (n - 1) t ≡ leb n (t + 1)
one_lower n t = grind (arith, nat_tests)

-- the lanes from the first to the last that a box meets
pub met_between : (s : Stretches) (a : Sides) (first last t : ℕ) → first ≡ stretch_of s a.bottom - 1
    → last ≡ stretch_of s a.top → (leb first t && leb t last) ≡ meets_lane s t a
met_between s a first last t e f =
    ap (λ (n : ℕ). leb n t && leb t last) e ∙ (ap (λ (n : ℕ). leb (stretch_of s a.bottom - 1) t && leb t n) f
    ∙ ap (λ (b : Bool). b && leb t (stretch_of s a.top)) (one_lower (stretch_of s a.bottom) t))

-- the value at one index of two lists that agree
read_at : {X Y Z : Type 0} (f : X → Z) (g : Y → Z) (xs : List X) (ys : List Y) (i : ℕ) (d : X) (e : Y)
    → i < length xs → map g ys ≡ map f xs → g (get_or ys i e) ≡ f (get_or xs i d)
read_at f g xs ys i d e lt is =
    let counted : length ys ≡ length xs = sym (length-map ys g) ∙ (ap length is ∙ length-map xs f) in
    sym (get_or-map g ys i e (g e) (omega (arith, counted, lt)))
    ∙ (ap (λ zs. get_or zs i (g e)) is ∙ get_or-map f xs i d (g e) lt)

-- each item has its place
pub places_len : (axis : Axis) (c : Coords) (items : List Item) (order : List ℕ) (spans : List Span)
    → ArePlaces axis c items order spans → length spans ≡ length order
places_len axis c items order spans are =
    sym (length-map spans (λ t. t.lo))
    ∙ (ap length are.lows ∙ length-map order (λ k. (sides_at axis c (item_at items k)).bottom))

-- the place of an item stands where the item does
place_at : (axis : Axis) (c : Coords) (items : List Item) (order : List ℕ) (spans : List Span) (i : ℕ) (d : Span)
    → i < length order → ArePlaces axis c items order spans
    → (let a = sides_at axis c (item_at items (get_or order i 0)) in ((get_or spans i d).lo ≡ a.bottom)
    × ((get_or spans i d).hi ≡ a.top))
place_at axis c items order spans i d lt are = (
  read_at (λ k. (sides_at axis c (item_at items k)).bottom) (λ t. t.lo) order spans i 0 d lt are.lows,
  read_at (λ k. (sides_at axis c (item_at items k)).top) (λ t. t.hi) order spans i 0 d lt are.highs,
)

-- a lane with one more item of the order
pub lane_more : (axis : Axis) (c : Coords) (items : List Item) (s : Stretches) (order : List ℕ) (spans : List Span)
    (a d : Span) (k t first last : ℕ) (old new : List ℕ) → k < length order → ArePlaces axis c items order spans
    → a ≡ get_or spans k d → (first ≡ stretch_of s a.lo - 1) × (last ≡ stretch_of s a.hi)
    → old ≡ lane_of axis c items s (take k order) t
    → new ≡ old ++ cond (leb first t && leb t last) (get_or order k 0 ∷ []) []
    → new ≡ lane_of axis c items s (take (k + 1) order) t
lane_more axis c items s order spans a d k t first last old new lt are this met was is =
    let meets = λ (i : ℕ). meets_lane s t (sides_at axis c (item_at items i)) in
    let i : ℕ = get_or order k 0 in
    let place = place_at axis c items order spans k d lt are in
    let low : first ≡ stretch_of s (sides_at axis c (item_at items i)).bottom - 1 =
    met.0 ∙ ap (λ z. stretch_of s z - 1) (ap (λ b. b.lo) this ∙ place.0) in
    let high : last ≡ stretch_of s (sides_at axis c (item_at items i)).top =
    met.1 ∙ ap (stretch_of s) (ap (λ b. b.hi) this ∙ place.1) in
    is ∙ (ap (λ (l : List ℕ). l ++ cond (leb first t && leb t last) (i ∷ []) []) was
    ∙ (ap (λ (b : Bool). filter meets (take k order) ++ cond b (i ∷ []) [])
    (met_between s (sides_at axis c (item_at items i)) first last t low high)
    ∙ sym (filter_more meets order k 0 lt)))
