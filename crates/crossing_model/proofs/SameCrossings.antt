-- Boxes have one list of crossings.
use Rattle.std.proofs.Common.{◌≡◌, ℕ, zero, suc, ◌*◌, ◌<◌, ◌≤◌, ◌↔◌, ℤ, pos, negsuc, ◌*ℤ◌, ◌≤ℤ◌, Bool, IsTrue, List, []}
use Rattle.std.proofs.Common.{◌∷◌, length, map, get_or, refl, sym, subst, ap, ◌∙◌, arith, All, Contains}
use Rattle.std.proofs.{Math.Nat.mul-le-mul, lemmas.{Bool.Decides.same_from_decides, Int.ints, List.length-map}}
use Rattle.std.proofs.lemmas.List.{get_or-map, Elements.All-contains}
use Rattle.lam_geom.specs.declared.boxes.{Axis.{Axis, TheVariants.{X, Y}}, BoxXY.BoxXY, MaskBox.MaskBox, Span.Span}
use Rattle.lam_geom.proofs.Spans.{same_span}
use Rattle.rule_table.{specs.{declared.technology.Tech.Tech, Technology.numbers_of}, proofs.Sound.sound}
use Rattle.crossing_model.specs.{Boxes.{area_at, grains, IsCommon}, Crossings.{IsIncreasing, CrossAlong, IsCrossing}}
use Rattle.crossing_model.specs.{Crossings.{IsImplanted, AreCrossings}, declared.crossing.Crossing.Crossing}

-- ---- lists in order of their keys that have the same elements are the same

-- the first has the least key
above_head : {X : Type 0} (key : X → ℕ) (x : X) (xs : List X) → IsIncreasing (map key (x ∷ xs)) → (j : ℕ) (d : X)
    → j < length xs → key x < key (get_or xs j d)
above_head key x xs h j d lt =
    let size = length-map xs key in
    let later : key x < get_or (map key xs) j 0 = h zero (suc j) (omega arith) (omega arith) in
    omega (arith, later, get_or-map key xs j d 0 lt)

rest_increasing : {X : Type 0} (key : X → ℕ) (x : X) (xs : List X) → IsIncreasing (map key (x ∷ xs))
    → IsIncreasing (map key xs)
rest_increasing key x xs h i j lt within = h (suc i) (suc j) (omega arith) (omega arith)

-- the first of each of two lists is the first of the other
head_same : {X : Type 0} (key : X → ℕ) (x y : X) (xs ys : List X) → IsIncreasing (map key (x ∷ xs))
    → IsIncreasing (map key (y ∷ ys)) → Contains (y ∷ ys) x → Contains (x ∷ xs) y → x ≡ y
head_same key x y xs ys hx hy (zero, lt, e) back = sym e
head_same key x y xs ys hx hy (suc j, lt, e) (zero, lb, f) = f
head_same key x y xs ys hx hy (suc j, lt, e) (suc i, lb, f) =
    let above_y = above_head key y ys hy j x (omega arith) in
    let above_x = above_head key x xs hx i y (omega arith) in
    absurd (omega (arith, above_y, above_x, ap key e, ap key f))

-- what stands after the first of one list stands after the first of the other
rest_among : {X : Type 0} (key : X → ℕ) (x y : X) (xs ys : List X) → IsIncreasing (map key (x ∷ xs)) → x ≡ y
    → All (Contains (y ∷ ys)) (x ∷ xs) → All (Contains ys) xs
rest_among key x y xs ys hx same all k d lt = go (all (suc k) d (omega arith)) where
  go : Contains (y ∷ ys) (get_or xs k d) → Contains ys (get_or xs k d)
  go (zero, lb, e) = absurd (omega (arith, above_head key x xs hx k d lt, ap key same, ap key e))
  go (suc j, lb, e) = (j, omega arith, e)

same_by_order : {X : Type 0} (key : X → ℕ) (xs ys : List X) → IsIncreasing (map key xs) → IsIncreasing (map key ys)
    → All (Contains ys) xs → All (Contains xs) ys → xs ≡ ys
same_by_order key [] [] hx hy ax ay = refl
same_by_order key [] (y ∷ ys) hx hy ax ay = let found = ay zero y (omega arith) in absurd (omega (arith, found.1))
same_by_order key (x ∷ xs) [] hx hy ax ay = let found = ax zero x (omega arith) in absurd (omega (arith, found.1))
same_by_order {X} key (x ∷ xs) (y ∷ ys) hx hy ax ay =
    let same : x ≡ y = head_same key x y xs ys hx hy (ax zero x (omega arith)) (ay zero y (omega arith)) in
    let rest : xs ≡ ys = same_by_order key xs ys (rest_increasing key x xs hx) (rest_increasing key y ys hy)
    (rest_among key x y xs ys hx same ax) (rest_among key y x ys xs hy (sym same) ay) in
    ap (λ (z : X). z ∷ xs) same ∙ ap (λ (zs : List X). y ∷ zs) rest

-- ---- along one axis

positive_product : (a b : ℤ) → pos 1 ≤ℤ a → pos 1 ≤ℤ b → pos 1 ≤ℤ (a *ℤ (pos 2 *ℤ b))
positive_product (pos a) (pos b) h k =
    let first : 1 ≤ a = omega (arith, ints, h) in
    let second : 1 ≤ 2 * b = omega (arith, ints, k) in
    let below : 1 * 1 ≤ a * (2 * b) = mul-le-mul first second in
    omega (arith, ints, below)
positive_product (negsuc a) b h k = absurd (omega (arith, ints, h))
positive_product (pos a) (negsuc b) h k = absurd (omega (arith, ints, k))

poly_goes_past : (tech : Tech) → pos 1 ≤ℤ grains tech (numbers_of tech).extension_poly
poly_goes_past tech =
    let is = sound (numbers_of tech) tech.sound in
    let reaches = is.gate_reaches in
    let spaced = is.spacings.poly_diffusion in
    let unit = is.unit.low in
    positive_product (numbers_of tech).extension_poly (numbers_of tech).unit (omega (arith, ints, reaches, spaced))
    (omega (arith, ints, unit))

diffusion_goes_past : (tech : Tech) → pos 1 ≤ℤ grains tech (numbers_of tech).extension_diffusion
diffusion_goes_past tech =
    let is = sound (numbers_of tech) tech.sound in
    let reaches = is.diffusion_reaches in
    let spaced = is.spacings.poly_diffusion in
    let unit = is.unit.low in
    positive_product (numbers_of tech).extension_diffusion (numbers_of tech).unit
    (omega (arith, ints, reaches, spaced)) (omega (arith, ints, unit))

-- on the axis on which poly goes past diffusion, diffusion does not go past poly
not_both : (tech : Tech) (poly diffusion : BoxXY) → CrossAlong tech X poly diffusion
    → CrossAlong tech Y poly diffusion → ⊥
not_both tech poly diffusion x y =
    let e = poly_goes_past tech in
    let f = diffusion_goes_past tech in
    let past = x.gate.0 in
    let back = y.channel.0 in
    omega (arith, ints, e, f, past, back)

axis_same : (tech : Tech) (poly diffusion : BoxXY) (a b : Axis) → CrossAlong tech a poly diffusion
    → CrossAlong tech b poly diffusion → a ≡ b
axis_same tech poly diffusion X X h k = refl
axis_same tech poly diffusion Y Y h k = refl
axis_same tech poly diffusion X Y h k = absurd (not_both tech poly diffusion h k)
axis_same tech poly diffusion Y X h k = absurd (not_both tech poly diffusion k h)

-- ---- one crossing

same_area : (a b : BoxXY) → a.x ≡ b.x → a.y ≡ b.y → a ≡ b
same_area a b x y = ap (λ (s : Span). record a { x = s }) x ∙ ap (λ (s : Span). record b { y = s }) y

-- boxes have one box in common
pub common_same : (p d s t : BoxXY) → IsCommon p d s → IsCommon p d t → s ≡ t
common_same p d s t h k = same_area s t (same_span s.x t.x (h.x.lo ∙ sym k.x.lo) (h.x.hi ∙ sym k.x.hi))
    (same_span s.y t.y (h.y.lo ∙ sym k.y.lo) (h.y.hi ∙ sym k.y.hi))

-- what a crossing's boxes have in common, by those of another with the same boxes
pub common_of : (boxes : List MaskBox) (p q d e : ℕ) (s : BoxXY) → p ≡ q → d ≡ e
    → IsCommon (area_at boxes p) (area_at boxes d) s → IsCommon (area_at boxes q) (area_at boxes e) s
common_of boxes p q d e s poly diffusion h =
    subst (λ (n : ℕ). IsCommon (area_at boxes q) (area_at boxes n) s) diffusion
    (subst (λ (n : ℕ). IsCommon (area_at boxes n) (area_at boxes d) s) poly h)

crossing_same : (tech : Tech) (boxes : List MaskBox) (a b : Crossing) → IsCrossing tech boxes a
    → IsCrossing tech boxes b → a.poly ≡ b.poly → a.diffusion ≡ b.diffusion → a ≡ b
crossing_same tech boxes a b h k p d =
    let poly : area_at boxes b.poly ≡ area_at boxes a.poly = ap (area_at boxes) (sym p) in
    let diffusion : area_at boxes b.diffusion ≡ area_at boxes a.diffusion = ap (area_at boxes) (sym d) in
    let along : CrossAlong tech b.axis (area_at boxes a.poly) (area_at boxes a.diffusion) =
    subst (λ (s : BoxXY). CrossAlong tech b.axis (area_at boxes a.poly) s) diffusion
    (subst (λ (s : BoxXY). CrossAlong tech b.axis s (area_at boxes b.diffusion)) poly k.along) in
    let common : IsCommon (area_at boxes a.poly) (area_at boxes a.diffusion) b.channel =
    common_of boxes b.poly a.poly b.diffusion a.diffusion b.channel (sym p) (sym d) k.channel in
    let axis : a.axis ≡ b.axis = axis_same tech (area_at boxes a.poly) (area_at boxes a.diffusion) a.axis b.axis
    h.along along in
    let channel : a.channel ≡ b.channel =
    common_same (area_at boxes a.poly) (area_at boxes a.diffusion) a.channel b.channel h.channel common in
    let kind : a.depletion ≡ b.depletion =
    same_from_decides a.depletion b.depletion h.depletion (subst
    (λ (s : BoxXY). IsTrue b.depletion ↔ IsImplanted tech boxes s) (sym channel) k.depletion) in
    ap (λ (n : ℕ). record a { poly = n }) p
    ∙ (ap (λ (n : ℕ). record a { poly = b.poly; diffusion = n }) d
    ∙ (ap (λ (x : Axis). record a { poly = b.poly; diffusion = b.diffusion; axis = x }) axis
    ∙ (ap (λ (s : BoxXY). record b { channel = s; depletion = a.depletion }) channel
    ∙ ap (λ (x : Bool). record b { depletion = x }) kind)))

-- ---- all crossings

-- those of one list are among those of another
among_same : (tech : Tech) (boxes : List MaskBox) (xs ys : List Crossing) → AreCrossings tech boxes xs
    → AreCrossings tech boxes ys → All (Contains ys) xs
among_same tech boxes xs ys h k i d lt =
    let c : Crossing = get_or xs i d in
    let is : IsCrossing tech boxes c = h.each i d lt in
    let found = k.complete c.poly c.diffusion is.meeting in
    let other : IsCrossing tech boxes found.0 = All-contains (IsCrossing tech boxes) ys found.0 k.each found.1 in
    subst (Contains ys) (crossing_same tech boxes found.0 c other is found.2 found.3) found.1

pub crossings_same : (tech : Tech) (boxes : List MaskBox) (xs ys : List Crossing) → AreCrossings tech boxes xs
    → AreCrossings tech boxes ys → xs ≡ ys
crossings_same tech boxes xs ys h k =
    same_by_order (λ (c : Crossing). c.diffusion) xs ys h.in_order k.in_order (among_same tech boxes xs ys h k)
    (among_same tech boxes ys xs k h)
