-- Rows of bars, and the pairs that see each other.
use Rattle.std.specs.Prelude.{◌≢◌, ◌≡◌, ℕ, ◌<◌, ◌^◌, pos, neg_ℤ, ◌≤ℤ◌, Bool, true, false, List, length, slice_index_or}
use Rattle.bar_rows.specs.{declared.bars.{Bar.Bar}, Facing.{Faces, Screens}}

-- what is read past the end of a row
abbrev pub no_bar : Bar
no_bar =
    record {
      start = pos 0;
      end = pos 0;
      key = 0;
      owner = 0;
      contacts = record { low = 0; high = 0 };
      item = 0;
      low = 0;
      high = 0;
      is_main = false;
      is_solid = false;
    }

-- the bar at a place
abbrev pub bar_at : List Bar → ℕ → Bar
bar_at bars p = slice_index_or bars p no_bar

-- a bar that lies within 2^62 of the origin
pub record IsPlacedBar (b : Bar) : Type 0 where
  pub starts_after : neg_ℤ (pos (2 ^ 62)) ≤ℤ b.start
  pub starts_before : b.start ≤ℤ pos (2 ^ 62)
  pub ends_after : neg_ℤ (pos (2 ^ 62)) ≤ℤ b.end
  pub ends_before : b.end ≤ℤ pos (2 ^ 62)

-- the bars at places p and q see each other: q comes later, they face each other, and no bar between screens them
pub record Sees (self_rule : Bool) (bars : List Bar) (p q : ℕ) : Type 0 where
  pub in_order : p < q
  pub among : q < length bars
  pub faces : Faces self_rule (bar_at bars p) (bar_at bars q)
  pub clear : (k : ℕ) → p < k → k < q → Screens self_rule (bar_at bars p) (bar_at bars q) (bar_at bars k) → ⊥

-- the ends of two bars that lie toward each other stand on different variables
abbrev pub Varies : List Bar → ℕ → ℕ → Type 0
Varies bars p q = (bar_at bars p).high ≢ (bar_at bars q).low

-- the numbers of the items of two bars, the one that is later on the axis first; in a row that is turned round this is
-- the first bar
abbrev pub numbers_of : Bool → List Bar → ℕ → ℕ → ℕ × ℕ
numbers_of false bars p q = ((bar_at bars q).item, (bar_at bars p).item)
numbers_of true bars p q = ((bar_at bars p).item, (bar_at bars q).item)

-- a pair of items whose bars see each other, with ends on different variables
pub record IsSeen (self_rule turned : Bool) (bars : List Bar) (pair : ℕ × ℕ) : Type 0 where
  pub first : ℕ
  pub second : ℕ
  pub sees : Sees self_rule bars first second
  pub varies : Varies bars first second
  pub numbers : numbers_of turned bars first second ≡ pair
