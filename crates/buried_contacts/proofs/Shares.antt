-- What two boxes on a pad have in common: each covers the pad and is exact on all sides but one, that on which it
-- runs on.
use Rattle.std.proofs.Common.{◌≡◌, ◌≢◌, ℤ, ◌≤ℤ◌, Bool, true, false, not, refl, sym, ap, ◌∙◌, arith, inl, inr, ◌⊎◌}
use Rattle.std.{proofs.lemmas.Int.{ints, clamps}, specs.Int.{int_max, int_min}}
use Rattle.lam_geom.specs.declared.boxes.Side.{Side, TheVariants.{Left, Right, Bottom, Top}}
use Rattle.sym_items.specs.{Sides.Sides, Transposed.sides_along}
use Rattle.cell_model.specs.{declared.cell.Axis2.{Axis2, TheVariants.{Across, Up}}, Wiring.{axis_of, is_low_side}}
use Rattle.buried_contacts.specs.Contacts.{common, axis_along, CoversFrom}

-- a box covers a pad, and no side lies past the pad's but this one
pub record RunsOn (side : Side) (box pad : Sides) : Type 0 where
  pub left : box.left ≤ℤ pad.left
  pub right : pad.right ≤ℤ box.right
  pub bottom : box.bottom ≤ℤ pad.bottom
  pub top : pad.top ≤ℤ box.top
  pub at_left : (side ≡ Left) ⊎ (box.left ≡ pad.left)
  pub at_right : (side ≡ Right) ⊎ (box.right ≡ pad.right)
  pub at_bottom : (side ≡ Bottom) ⊎ (box.bottom ≡ pad.bottom)
  pub at_top : (side ≡ Top) ⊎ (box.top ≡ pad.top)

-- the pad itself runs on nowhere
pub pad_runs : (side : Side) (box pad : Sides) → box ≡ pad → RunsOn side box pad
pad_runs side box pad e =
    let left : box.left ≡ pad.left = ap (λ (s : Sides). s.left) e in
    let right : box.right ≡ pad.right = ap (λ (s : Sides). s.right) e in
    let bottom : box.bottom ≡ pad.bottom = ap (λ (s : Sides). s.bottom) e in
    let top : box.top ≡ pad.top = ap (λ (s : Sides). s.top) e in
    record {
      left = omega (arith, ints, left);
      right = omega (arith, ints, right);
      bottom = omega (arith, ints, bottom);
      top = omega (arith, ints, top);
      at_left = inr left;
      at_right = inr right;
      at_bottom = inr bottom;
      at_top = inr top;
    }

-- the side on which a wire runs on from a terminal: of its low end to the right or up, of its high end to the left or
-- down
abbrev pub leaves : Axis2 → Bool → Side
leaves Across true = Right
leaves Across false = Left
leaves Up true = Top
leaves Up false = Bottom

pub along_of : (along : Axis2) (is_low : Bool) → axis_of (leaves along is_low) ≡ along
along_of Across true = refl
along_of Across false = refl
along_of Up true = refl
along_of Up false = refl

pub end_of : (along : Axis2) (is_low : Bool) → not (is_low_side (leaves along is_low)) ≡ is_low
end_of Across true = refl
end_of Across false = refl
end_of Up true = refl
end_of Up false = refl

-- a box that covers a pad from an end of its wire on runs on to that side
pub covers_runs : (along : Axis2) (is_low : Bool) (box pad : Sides)
    → CoversFrom is_low (sides_along (axis_along along) box) (sides_along (axis_along along) pad)
    → RunsOn (leaves along is_low) box pad
covers_runs Across true box pad h =
    let bottom = h.bottom in
    let top = h.top in
    record {
      left = h.left;
      right = h.right;
      bottom = omega (arith, ints, bottom);
      top = omega (arith, ints, top);
      at_left = inr h.ends_with;
      at_right = inl refl;
      at_bottom = inr h.bottom;
      at_top = inr h.top;
    }
covers_runs Across false box pad h =
    let bottom = h.bottom in
    let top = h.top in
    record {
      left = h.left;
      right = h.right;
      bottom = omega (arith, ints, bottom);
      top = omega (arith, ints, top);
      at_left = inl refl;
      at_right = inr h.ends_with;
      at_bottom = inr h.bottom;
      at_top = inr h.top;
    }
covers_runs Up true box pad h =
    let left = h.bottom in
    let right = h.top in
    record {
      left = omega (arith, ints, left);
      right = omega (arith, ints, right);
      bottom = h.left;
      top = h.right;
      at_left = inr h.bottom;
      at_right = inr h.top;
      at_bottom = inr h.ends_with;
      at_top = inl refl;
    }
covers_runs Up false box pad h =
    let left = h.bottom in
    let right = h.top in
    record {
      left = omega (arith, ints, left);
      right = omega (arith, ints, right);
      bottom = h.left;
      top = h.right;
      at_left = inr h.bottom;
      at_right = inr h.top;
      at_bottom = inl refl;
      at_top = inr h.ends_with;
    }

-- ---- two boxes

-- the one or the other is exact where they run on to different sides
either : (A B : Type 0) (a b side : Side) → a ≢ b → (a ≡ side) ⊎ A → (b ≡ side) ⊎ B → A ⊎ B
either A B a b side ne (inr h) k = inl h
either A B a b side ne (inl e) (inr k) = inr k
either A B a b side ne (inl e) (inl f) = absurd (ne (e ∙ sym f))

greater : (a b z : ℤ) → a ≤ℤ z → b ≤ℤ z → (a ≡ z) ⊎ (b ≡ z) → int_max a b ≡ z
greater a b z h k (inl e) = omega (arith, ints, clamps, h, k, e)
greater a b z h k (inr e) = omega (arith, ints, clamps, h, k, e)

less : (a b z : ℤ) → z ≤ℤ a → z ≤ℤ b → (a ≡ z) ⊎ (b ≡ z) → int_min a b ≡ z
less a b z h k (inl e) = omega (arith, ints, clamps, h, k, e)
less a b z h k (inr e) = omega (arith, ints, clamps, h, k, e)

pub same_sides : (s t : Sides) → s.left ≡ t.left → s.right ≡ t.right → s.bottom ≡ t.bottom → s.top ≡ t.top → s ≡ t
same_sides s t l r b u =
    ap (λ (z : ℤ). let k : Sides = record { left = z; right = s.right; bottom = s.bottom; top = s.top } in k) l
    ∙ (ap (λ (z : ℤ). let k : Sides = record { left = t.left; right = z; bottom = s.bottom; top = s.top } in k) r
    ∙ (ap (λ (z : ℤ). let k : Sides = record { left = t.left; right = t.right; bottom = z; top = s.top } in k) b
    ∙ ap (λ (z : ℤ). let k : Sides = record { left = t.left; right = t.right; bottom = t.bottom; top = z } in k) u))

-- two boxes that run on to different sides have the pad in common
pub share_pad : (a b : Side) (box other pad : Sides) → a ≢ b → RunsOn a box pad → RunsOn b other pad
    → common box other ≡ pad
share_pad a b box other pad ne h k =
    same_sides (common box other) pad
    (greater box.left other.left pad.left h.left k.left (either _ _ a b Left ne h.at_left k.at_left))
    (less box.right other.right pad.right h.right k.right (either _ _ a b Right ne h.at_right k.at_right))
    (greater box.bottom other.bottom pad.bottom h.bottom k.bottom (either _ _ a b Bottom ne h.at_bottom k.at_bottom))
    (less box.top other.top pad.top h.top k.top (either _ _ a b Top ne h.at_top k.at_top))

-- a side and another one
abbrev pub beside : Side → Side
beside Left = Right
beside Right = Left
beside Bottom = Left
beside Top = Left

pub is_beside : (side : Side) → beside side ≢ side
is_beside Left = λ e. absurd cc
is_beside Right = λ e. absurd cc
is_beside Bottom = λ e. absurd cc
is_beside Top = λ e. absurd cc
