-- Halves of sizes and the greater of two lengths, as 64 bits hold them.
use Rattle.std.proofs.{Common.{◌≡◌, ℤ, pos, negsuc, ◌+ℤ◌, ◌*ℤ◌, ◌≤ℤ◌, to_z, of_z, w64, ap, ◌∙◌, arith}, lemmas.Int.ints}
use Rattle.std.{proofs.lemmas.Int.clamps, specs.Int.{int_max, RustNames.FitsSigned}}
use Rattle.rule_table.specs.Bounds.{IsSize, IsLength}
use Rattle.expand.specs.Variables.{half}

-- twice the half is no more than the whole
pub half_bounds : (z : ℤ) → pos 0 ≤ℤ z → (pos 0 ≤ℤ half z) × ((pos 2 *ℤ half z) ≤ℤ z)
half_bounds (pos n) h = (omega (arith, ints), omega (arith, ints))
half_bounds (negsuc n) h = absurd (omega (arith, ints, h))

-- a number as 64 bits hold it
abbrev pub held : ℤ → ℤ
held z = to_z w64 (of_z w64 z)

pub holds : (z : ℤ) → pos 0 ≤ℤ z → z ≤ℤ pos 12288 → held z ≡ z
holds z low high = omega (arith, ints)

max_low : (a b : ℤ) → pos 0 ≤ℤ a → pos 0 ≤ℤ int_max a b
max_low a b h = omega (arith, ints, clamps)

max_high : (a b top : ℤ) → a ≤ℤ top → b ≤ℤ top → int_max a b ≤ℤ top
max_high a b top h k = omega (arith, ints, clamps)

-- the greater of two lengths is no longer than both may be
pub max_within : (top a b : ℤ) → (pos 0 ≤ℤ a) × (a ≤ℤ top) → (pos 0 ≤ℤ b) × (b ≤ℤ top)
    → (pos 0 ≤ℤ int_max a b) × (int_max a b ≤ℤ top)
max_within top a b h k = (max_low a b h.0, max_high a b top h.1 k.1)

-- the greater of two held numbers
pub greater : (a b top m : ℤ) → pos 0 ≤ℤ a → a ≤ℤ top → pos 0 ≤ℤ b → b ≤ℤ top → top ≤ℤ pos 12288
    → m ≡ int_max (held a) (held b)
    → (m ≡ int_max a b) × (held m ≡ int_max a b) × (pos 0 ≤ℤ int_max a b) × (int_max a b ≤ℤ top)
greater a b top m a_low a_high b_low b_high few e =
    let is : m ≡ int_max a b = e
    ∙ (ap (λ z. int_max z (held b)) (holds a a_low (omega (arith, ints)))
    ∙ ap (λ z. int_max a z) (holds b b_low (omega (arith, ints)))) in
    let low = max_low a b a_low in
    let high = max_high a b top a_high b_high in
    (is, ap held is ∙ holds (int_max a b) low (omega (arith, ints)), low, high)

-- the halves of two numbers, and the greater of them
pub halves : (p q hp hq m : ℤ) → pos 0 ≤ℤ p → p ≤ℤ pos 12288 → pos 0 ≤ℤ q → q ≤ℤ pos 12288
    → hp ≡ half (held p) → hq ≡ half (held q) → m ≡ int_max (held hp) (held hq)
    → (held m ≡ int_max (half p) (half q)) × (int_max (half p) (half q) ≤ℤ pos 6144)
halves p q hp hq m p_low p_high q_low q_high ep eq e =
    let hp_is : hp ≡ half p = ep ∙ ap half (holds p p_low p_high) in
    let hq_is : hq ≡ half q = eq ∙ ap half (holds q q_low q_high) in
    let is : m ≡ int_max (held (half p)) (held (half q)) = e
    ∙ (ap (λ z. int_max (held z) (held hq)) hp_is ∙ ap (λ z. int_max (held (half p)) (held z)) hq_is) in
    let p_half = half_bounds p p_low in
    let q_half = half_bounds q q_low in
    let g = greater (half p) (half q) (pos 6144) m p_half.0 (omega (arith, ints)) q_half.0 (omega (arith, ints))
    (omega (arith, ints)) is in
    (g.1, g.3)

fits : (z : ℤ) → pos 0 ≤ℤ z → z ≤ℤ pos 6144 → FitsSigned w64 z
fits z low high = omega (arith, ints)

-- half a size
held_half : (size h : ℤ) → IsSize size → h ≡ half (held size) → held h ≡ half size
held_half size h s e =
    let low : pos 2 ≤ℤ size = s.low in
    let high : size ≤ℤ pos 4096 = s.high in
    let whole = half_bounds size (omega (arith, ints)) in
    ap held (e ∙ ap half (holds size (omega (arith, ints)) (omega (arith, ints))))
    ∙ holds (half size) whole.0 (omega (arith, ints))

-- and a length past it
pub past : (size a h : ℤ) → IsSize size → IsLength a → h ≡ half (held size) → held (held h +ℤ held a) ≡ half size +ℤ a
past size a h s la e =
    let low : pos 2 ≤ℤ size = s.low in
    let high : size ≤ℤ pos 4096 = s.high in
    let whole = half_bounds size (omega (arith, ints)) in
    let a_low : pos 0 ≤ℤ a = la.0 in
    let a_high : a ≤ℤ pos 4096 = la.1 in
    ap held (ap (λ z. z +ℤ held a) (held_half size h s e)
    ∙ ap (λ z. half size +ℤ z) (holds a a_low (omega (arith, ints))))
    ∙ holds (half size +ℤ a) (omega (arith, ints)) (omega (arith, ints))

-- half a size and the greater of two lengths
pub side : (size a b h m : ℤ) → IsSize size → IsLength a → IsLength b → h ≡ half (held size)
    → m ≡ int_max (held a) (held b)
    → FitsSigned w64 (held h +ℤ held m) × (held (held h +ℤ held m) ≡ half size +ℤ int_max a b)
    × (pos 0 ≤ℤ (half size +ℤ int_max a b)) × ((half size +ℤ int_max a b) ≤ℤ pos 6144)
side size a b h m s la lb eh em =
    let low : pos 2 ≤ℤ size = s.low in
    let high : size ≤ℤ pos 4096 = s.high in
    let whole = half_bounds size (omega (arith, ints)) in
    let g = greater a b (pos 4096) m la.0 la.1 lb.0 lb.1 (omega (arith, ints)) em in
    let h_is = held_half size h s eh in
    let sum_low : pos 0 ≤ℤ (half size +ℤ int_max a b) = omega (arith, ints, g.2) in
    let sum_high : (half size +ℤ int_max a b) ≤ℤ pos 6144 = omega (arith, ints, g.3) in
    let is : (held h +ℤ held m) ≡ (half size +ℤ int_max a b) = ap (λ z. z +ℤ held m) h_is
    ∙ ap (λ z. half size +ℤ z) g.1 in
    (rw is (fits _ sum_low sum_high), ap held is ∙ holds _ sum_low (omega (arith, ints)), sum_low, sum_high)

-- the greater of two such sides, the same numbers as another pair
pub greatest_side : (u v a b m : ℤ) → held u ≡ a → held v ≡ b → pos 0 ≤ℤ a → a ≤ℤ pos 6144 → pos 0 ≤ℤ b
    → b ≤ℤ pos 6144 → m ≡ int_max (held u) (held v)
    → (held m ≡ int_max a b) × (pos 0 ≤ℤ held m) × (held m ≤ℤ pos 6144)
greatest_side u v a b m eu ev a_low a_high b_low b_high e =
    let is : m ≡ int_max a b = e ∙ (ap (λ z. int_max z (held v)) eu ∙ ap (λ z. int_max a z) ev) in
    let low = max_low a b a_low in
    let high = max_high a b (pos 6144) a_high b_high in
    let held_is : held m ≡ int_max a b = ap held is ∙ holds _ low (omega (arith, ints)) in
    (held_is, rw held_is low, rw held_is high)

-- one more half width
pub widened : (now width h m : ℤ) → pos 0 ≤ℤ now → now ≤ℤ pos 6144 → IsSize width → h ≡ half (held width)
    → m ≡ int_max now (held h)
    → (held m ≡ int_max now (half width)) × (pos 0 ≤ℤ held m) × (held m ≤ℤ pos 6144)
widened now width h m low high s eh e =
    let wide : pos 2 ≤ℤ width = s.low in
    let narrow : width ≤ℤ pos 4096 = s.high in
    let whole = half_bounds width (omega (arith, ints)) in
    let h_is = held_half width h s eh in
    let is : m ≡ int_max now (half width) = e ∙ ap (λ z. int_max now z) h_is in
    let m_low = max_low now (half width) low in
    let m_high = max_high now (half width) (pos 6144) high (omega (arith, ints)) in
    let held_is : held m ≡ int_max now (half width) = ap held is ∙ holds _ m_low (omega (arith, ints)) in
    (held_is, rw held_is m_low, rw held_is m_high)
