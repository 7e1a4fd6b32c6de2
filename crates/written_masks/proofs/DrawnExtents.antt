-- Masks and calls within an extent have numbers that fit into a text.
use Rattle.std.proofs.Common.{ℕ, ◌*◌, ◌^◌, ◌<◌, ◌≤◌, ℤ, pos, negsuc, ◌+ℤ◌, ◌-ℤ◌, ◌*ℤ◌, ◌≤ℤ◌, ◌<ℤ◌, int_div, sym, arith}
use Rattle.std.proofs.{lemmas.Int.ints, Math.Nat.mul-le-mul}
use Rattle.rule_table.specs.Bounds.{IsSize}
use Rattle.mask_out.specs.{declared.drawing.Call.Call, Masks.Mask}
use Rattle.written_masks.specs.TextMeanings.{IsNumber, IsUnit, IsWritableMask, IsWritableCall}

pub unit_of_size : (unit : ℤ) → IsSize unit → IsUnit unit
unit_of_size unit is =
    let even = is.even in
    let low = is.low in
    let high = is.high in
    record { half = int_div unit (pos 2); even = sym even; least = omega (arith, ints); greatest = omega (arith, ints) }

-- a length of so many hundredths of a micron at most
abbrev pub IsWithinExtent : ℤ → ℤ → Type 0
IsWithinExtent unit length = (length *ℤ unit) ≤ℤ pos (2 ^ 30)

-- u has two hundredths of a micron at least
twice_small : (unit z : ℤ) → pos 2 ≤ℤ unit → pos 0 ≤ℤ z → IsWithinExtent unit z → (pos 2 *ℤ z) ≤ℤ pos (2 ^ 30)
twice_small (pos b) (pos a) two low within =
    let more : 2 ≤ b = omega (arith, ints, two) in
    let same : a ≤ a = omega arith in
    let product : a * 2 ≤ a * b = mul-le-mul same more in
    omega (arith, ints, product, within)
twice_small (negsuc b) z two low within = absurd (omega (arith, ints, two))
twice_small (pos b) (negsuc a) two low within = absurd (omega (arith, ints, low))

two_at_least : (unit : ℤ) → IsUnit unit → pos 2 ≤ℤ unit
two_at_least unit is = let even = is.even in let least = is.least in omega (arith, ints)

-- a mask that has an inside and lies between 0 and such a width and height
pub record LiesInside (width height : ℤ) (m : Mask) : Type 0 where
  pub left : pos 0 ≤ℤ m.sides.left
  pub wide : m.sides.left <ℤ m.sides.right
  pub right : m.sides.right ≤ℤ width
  pub bottom : pos 0 ≤ℤ m.sides.bottom
  pub high : m.sides.bottom <ℤ m.sides.top
  pub top : m.sides.top ≤ℤ height

-- an extent and a centre in halves of u
extent_number : (a b size : ℤ) → pos 0 ≤ℤ a → a <ℤ b → b ≤ℤ size → (pos 2 *ℤ size) ≤ℤ pos (2 ^ 30)
    → IsNumber (pos 2 *ℤ (b -ℤ a))
extent_number a b size low lt high small = (omega (arith, ints), omega (arith, ints))

centre_number : (a b size : ℤ) → pos 0 ≤ℤ a → a <ℤ b → b ≤ℤ size → (pos 2 *ℤ size) ≤ℤ pos (2 ^ 30) → IsNumber (a +ℤ b)
centre_number a b size low lt high small = (omega (arith, ints), omega (arith, ints))

above_zero : (a b size : ℤ) → pos 0 ≤ℤ a → a <ℤ b → b ≤ℤ size → pos 0 ≤ℤ size
above_zero a b size low lt high = omega (arith, ints)

pub mask_inside : (unit width height : ℤ) (m : Mask) → IsUnit unit → IsWithinExtent unit width
    → IsWithinExtent unit height → LiesInside width height m → IsWritableMask m
mask_inside unit width height m is across up lies =
    let two = two_at_least unit is in
    let wide = twice_small unit width two (above_zero m.sides.left m.sides.right width lies.left lies.wide lies.right)
    across in
    let high =
    twice_small unit height two (above_zero m.sides.bottom m.sides.top height lies.bottom lies.high lies.top)
    up in
    record {
      wide = lies.wide;
      high = lies.high;
      width = extent_number m.sides.left m.sides.right width lies.left lies.wide lies.right wide;
      height = extent_number m.sides.bottom m.sides.top height lies.bottom lies.high lies.top high;
      x = centre_number m.sides.left m.sides.right width lies.left lies.wide lies.right wide;
      y = centre_number m.sides.bottom m.sides.top height lies.bottom lies.high lies.top high;
    }

shift_number : (unit z size : ℤ) → pos 2 ≤ℤ unit → pos 0 ≤ℤ z → z ≤ℤ size → IsWithinExtent unit size
    → IsNumber (z *ℤ unit)
shift_number (pos b) (pos a) (pos s) two low high within =
    let le : a ≤ s = omega (arith, ints, high) in
    let same : b ≤ b = omega arith in
    let product : a * b ≤ s * b = mul-le-mul le same in
    (omega (arith, ints), omega (arith, ints, product, within))
shift_number (pos b) (pos a) (negsuc s) two low high within = absurd (omega (arith, ints, high))
shift_number (pos b) (negsuc a) size two low high within = absurd (omega (arith, ints, low))
shift_number (negsuc b) z size two low high within = absurd (omega (arith, ints, two))

-- a call that shifts by no more than such a width and height
pub record StaysInside (width height : ℤ) (call : Call) : Type 0 where
  pub left : pos 0 ≤ℤ call.x
  pub right : call.x ≤ℤ width
  pub bottom : pos 0 ≤ℤ call.y
  pub top : call.y ≤ℤ height

pub call_inside : (unit width height : ℤ) (count : ℕ) (call : Call) → IsUnit unit → IsWithinExtent unit width
    → IsWithinExtent unit height → call.symbol < count → StaysInside width height call
    → IsWritableCall unit count call
call_inside unit width height count call is across up symbol stays =
    let two = two_at_least unit is in
    record {
      symbol = symbol;
      x = shift_number unit call.x width two stays.left stays.right across;
      y = shift_number unit call.y height two stays.bottom stays.top up;
    }
