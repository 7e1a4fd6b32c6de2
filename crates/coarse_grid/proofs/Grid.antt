-- The lines of a coarse grid: border, lines and far border, a pitch apart, and ends that lie near one of them.
use Rattle.std.proofs.Common.{◌≡◌, ℕ, suc, ◌+◌, ◌*◌, ◌<◌, ◌≤◌, ℤ, pos, negsuc, neg_ℤ, ◌+ℤ◌, ◌-ℤ◌, ◌*ℤ◌, ◌≤ℤ◌, List}
use Rattle.std.proofs.{Common.{length, refl, sym, ap, ◌∙◌, inl, inr, arith}, lemmas.Int.ints, Math.Nat.mul-le-mul}
use Rattle.std.{proofs.Math.Nat.mul-suc, specs.Prelude.{◌^◌, ◌⊎◌}}
use Rattle.sym_items.specs.{declared.items.End.End, Values.{value_of, value_at}, Boxes.HasSpan}
use Rattle.coarse_grid.specs.{Near.IsPitch, Start.place, Ranges.{Lines, only}}

-- the border is 0, a line one more than its number, the far border one more than the last
pub grid_at : ℤ → ℕ → ℤ
grid_at pitch n = pitch *ℤ pos n

pub at_line : (pitch : ℤ) (line : ℕ) → place pitch line ≡ grid_at pitch (line + 1)
unfolding place grid_at
at_line pitch line = refl

pub at_border : (pitch : ℤ) → IsPitch pitch → pos 0 ≡ grid_at pitch 0
unfolding grid_at
at_border (pos p) h = omega (arith, ints)
at_border (negsuc p) h = absurd (omega (arith, ints, h.0))

pub grid_step : (pitch : ℤ) (m n : ℕ) → IsPitch pitch → m < n → (grid_at pitch m +ℤ pitch) ≤ℤ grid_at pitch n
unfolding grid_at
grid_step (pos p) m n h lt =
    let more : m + 1 ≤ n = omega arith in
    let same : p ≤ p = omega arith in
    let product : p * (m + 1) ≤ p * n = mul-le-mul same more in
    let e : p * (m + 1) ≡ p * m + p = let next : m + 1 ≡ suc m = omega arith in rw next (mul-suc p m) in
    omega (arith, ints, product, e)
grid_step (negsuc p) m n h lt = absurd (omega (arith, ints, h.0))

pub grid_low : (pitch : ℤ) (n : ℕ) → IsPitch pitch → pos 0 ≤ℤ grid_at pitch n
unfolding grid_at
grid_low (pos p) n h = omega (arith, ints)
grid_low (negsuc p) n h = absurd (omega (arith, ints, h.0))

pub grid_high : (pitch : ℤ) (n : ℕ) → IsPitch pitch → n ≤ 4097 → grid_at pitch n ≤ℤ pos (2 ^ 27)
unfolding grid_at
grid_high (pos p) n h le =
    let small : p ≤ 16384 = omega (arith, ints, h.1) in
    let product : p * n ≤ 16384 * 4097 = mul-le-mul small le in
    omega (arith, ints, product)
grid_high (negsuc p) n h le = absurd (omega (arith, ints, h.0))

-- a pitch is twice an extent and a spacing
pub record IsWide (pitch extent spacing : ℤ) : Type 0 where
  pub is_pitch : IsPitch pitch
  pub extent_low : pos 0 ≤ℤ extent
  pub extent_high : extent ≤ℤ pos 6144
  pub spacing_low : pos 1 ≤ℤ spacing
  pub is : pitch ≡ (pos 2 *ℤ extent) +ℤ spacing

-- an end lies no further than the extent from number n of the grid
pub record IsNearGrid (pitch extent : ℤ) (values : List ℤ) (n : ℕ) (e : End) : Type 0 where
  pub among : e.var < length values
  pub from : (grid_at pitch n -ℤ extent) ≤ℤ value_at e values
  pub to : value_at e values ≤ℤ (grid_at pitch n +ℤ extent)

-- two ends span something between the borders, from number `from` of the grid to number `to`; it takes up these
-- lines, but for what lies between a border and the line next to it
pub record IsSpan (pitch extent : ℤ) (values : List ℤ) (last : ℕ) (lines : Lines) (low high : End) : Type 0 where
  pub from : ℕ
  pub to : ℕ
  pub low_near : IsNearGrid pitch extent values from low
  pub high_near : IsNearGrid pitch extent values to high
  pub low_inside : pos 0 ≤ℤ value_at low values
  pub high_inside : value_at high values ≤ℤ pos (2 ^ 27)
  pub ordered : value_at low values ≤ℤ value_at high values
  pub begins : (from ≡ lines.first + 1) ⊎ ((from ≡ 0) × (lines.first ≡ 0))
  pub stops : (to ≡ lines.last + 1) ⊎ ((to ≡ last + 2) × (lines.last ≡ last))
  pub proper : lines.first ≤ lines.last
  pub within : lines.last ≤ last

-- such ends are those of a box
pub span_has : (pitch extent : ℤ) (values : List ℤ) (last : ℕ) (lines : Lines) (low high : End)
    → IsSpan pitch extent values last lines low high → HasSpan values low high
span_has pitch extent values last lines low high s =
    let a : pos 0 ≤ℤ value_at low values = s.low_inside in
    let b : value_at high values ≤ℤ pos (2 ^ 27) = s.high_inside in
    let c : value_at low values ≤ℤ value_at high values = s.ordered in
    record {
      low_placed = record { among = s.low_near.among; placed = (omega (arith, ints), omega (arith, ints)) };
      high_placed = record { among = s.high_near.among; placed = (omega (arith, ints), omega (arith, ints)) };
      ordered = c;
    }

-- where one takes up lines below those of another, it ends at a lesser number of the grid than the other begins
numbers_apart : (to last from first end : ℕ) → ((to ≡ last + 1) ⊎ ((to ≡ end + 2) × (last ≡ end)))
    → ((from ≡ first + 1) ⊎ ((from ≡ 0) × (first ≡ 0))) → first ≤ end → last < first → to < from
numbers_apart to last from first end (inl a) (inl b) within lt = omega arith
numbers_apart to last from first end (inl a) (inr b) within lt =
    absurd (let zero_first : first ≡ 0 = b.1 in omega arith)
numbers_apart to last from first end (inr a) b within lt = absurd (let at_end : last ≡ end = a.1 in omega arith)

-- and then they lie the spacing apart
pub spans_apart : (pitch extent spacing : ℤ) (values : List ℤ) (last : ℕ) (here there : Lines)
    (low high low2 high2 : End) → IsWide pitch extent spacing
    → IsSpan pitch extent values last here low high → IsSpan pitch extent values last there low2 high2
    → here.last < there.first
    → spacing ≤ℤ (value_at low2 values -ℤ value_at high values)
spans_apart pitch extent spacing values last here there low high low2 high2 w s t lt =
    let proper : there.first ≤ there.last = t.proper in
    let within : there.last ≤ last = t.within in
    let numbers = numbers_apart s.to here.last t.from there.first last s.stops t.begins (omega arith) lt in
    let step : (grid_at pitch s.to +ℤ pitch) ≤ℤ grid_at pitch t.from = grid_step pitch s.to t.from w.is_pitch numbers in
    let high_to : value_at high values ≤ℤ (grid_at pitch s.to +ℤ extent) = s.high_near.to in
    let low_from : (grid_at pitch t.from -ℤ extent) ≤ℤ value_at low2 values = t.low_near.from in
    let is : pitch ≡ (pos 2 *ℤ extent) +ℤ spacing = w.is in
    omega (arith, ints)

-- an end so far past a variable that stands on the grid
pub near_of : (pitch extent : ℤ) (values : List ℤ) (n v : ℕ) (e : End) → value_of values v ≡ grid_at pitch n
    → v < length values → e.var ≡ v → neg_ℤ extent ≤ℤ e.off → e.off ≤ℤ extent
    → IsNearGrid pitch extent values n e
near_of pitch extent values n v e at lt var low high =
    let value : value_of values e.var ≡ grid_at pitch n = ap (value_of values) var ∙ at in
    record { among = omega arith; from = omega (arith, ints); to = omega (arith, ints) }

-- near a line an end lies between the borders
pub low_in : (pitch extent spacing : ℤ) (values : List ℤ) (n : ℕ) (e : End) → IsWide pitch extent spacing → 0 < n
    → IsNearGrid pitch extent values n e → pos 0 ≤ℤ value_at e values
low_in pitch extent spacing values n e w lt near =
    let step : (grid_at pitch 0 +ℤ pitch) ≤ℤ grid_at pitch n = grid_step pitch 0 n w.is_pitch lt in
    let zero_low : pos 0 ≤ℤ grid_at pitch 0 = grid_low pitch 0 w.is_pitch in
    let a : pos 0 ≤ℤ extent = w.extent_low in
    let b : pos 1 ≤ℤ spacing = w.spacing_low in
    let is : pitch ≡ (pos 2 *ℤ extent) +ℤ spacing = w.is in
    let from : (grid_at pitch n -ℤ extent) ≤ℤ value_at e values = near.from in
    omega (arith, ints)

pub high_in : (pitch extent spacing : ℤ) (values : List ℤ) (n : ℕ) (e : End) → IsWide pitch extent spacing → n ≤ 4096
    → IsNearGrid pitch extent values n e → value_at e values ≤ℤ pos (2 ^ 27)
high_in pitch extent spacing values n e w le near =
    let lt : n < n + 1 = omega arith in
    let step : (grid_at pitch n +ℤ pitch) ≤ℤ grid_at pitch (n + 1) = grid_step pitch n (n + 1) w.is_pitch lt in
    let top : grid_at pitch (n + 1) ≤ℤ pos (2 ^ 27) = grid_high pitch (n + 1) w.is_pitch (omega arith) in
    let a : pos 0 ≤ℤ extent = w.extent_low in
    let b : pos 1 ≤ℤ spacing = w.spacing_low in
    let is : pitch ≡ (pos 2 *ℤ extent) +ℤ spacing = w.is in
    let to : value_at e values ≤ℤ (grid_at pitch n +ℤ extent) = near.to in
    omega (arith, ints)

-- ends near different lines are in order
pub in_order : (pitch extent spacing : ℤ) (values : List ℤ) (m n : ℕ) (low high : End) → IsWide pitch extent spacing
    → m < n → IsNearGrid pitch extent values m low → IsNearGrid pitch extent values n high
    → value_at low values ≤ℤ value_at high values
in_order pitch extent spacing values m n low high w lt below above =
    let step : (grid_at pitch m +ℤ pitch) ≤ℤ grid_at pitch n = grid_step pitch m n w.is_pitch lt in
    let b : pos 1 ≤ℤ spacing = w.spacing_low in
    let is : pitch ≡ (pos 2 *ℤ extent) +ℤ spacing = w.is in
    let to : value_at low values ≤ℤ (grid_at pitch m +ℤ extent) = below.to in
    let from : (grid_at pitch n -ℤ extent) ≤ℤ value_at high values = above.from in
    omega (arith, ints)

-- two ends round a variable, no further from it than the extent
pub record IsRoundOn (v : ℕ) (extent : ℤ) (low high : End) : Type 0 where
  pub low_var : low.var ≡ v
  pub high_var : high.var ≡ v
  pub low_off : neg_ℤ extent ≤ℤ low.off
  pub ordered : low.off ≤ℤ high.off
  pub high_off : high.off ≤ℤ extent

-- where the variable starts at a line, they take up that line alone
pub round_span : (pitch extent spacing : ℤ) (values : List ℤ) (last v line : ℕ) (low high : End)
    → IsWide pitch extent spacing → value_of values v ≡ place pitch line → v < length values → line ≤ last
    → last ≤ 4095
    → IsRoundOn v extent low high → IsSpan pitch extent values last (only line) low high
round_span pitch extent spacing values last v line low high w at lt within few r =
    let where_at : value_of values v ≡ grid_at pitch (line + 1) = at ∙ at_line pitch line in
    let a : low.off ≤ℤ high.off = r.ordered in
    let b : neg_ℤ extent ≤ℤ low.off = r.low_off in
    let c : high.off ≤ℤ extent = r.high_off in
    let low_near = near_of pitch extent values (line + 1) v low where_at lt r.low_var b (omega (arith, ints)) in
    let high_near = near_of pitch extent values (line + 1) v high where_at lt r.high_var (omega (arith, ints)) c in
    let same : value_of values low.var ≡ value_of values high.var = ap (value_of values) (r.low_var ∙ sym r.high_var) in
    record {
      from = line + 1;
      to = line + 1;
      low_near = low_near;
      high_near = high_near;
      low_inside = low_in pitch extent spacing values (line + 1) low w (omega arith) low_near;
      high_inside = high_in pitch extent spacing values (line + 1) high w (omega arith) high_near;
      ordered = omega (arith, ints);
      begins = inl refl;
      stops = inl refl;
      proper = omega arith;
      within = within;
    }
