-- The sides that are kept, with one more.
use Rattle.std.proofs.Common.{◌≡◌, ℕ, Bool, true, false, cond, List, Option, Some, refl, sym, ap, ◌∙◌}
use Rattle.std.proofs.{Math.Bool.{or-true, or-false}, lemmas.Slice.Eq.bytes_eq-Decides}
use Rattle.std.specs.Prelude.{◌&&◌, ◌||◌, bytes_eq}
use Rattle.rule_table.specs.declared.classes.Layer.{Layer, TheVariants.{Diffusion, Poly, Metal}}
use Rattle.cell_model.specs.{declared.cell.Axis2.{Axis2, TheVariants.{Across, Up}}, Wiring.is_same_layer}
use Rattle.checked_cells.specs.{declared.sides.{Sides.Sides, Taken.Taken}, Sides.{has_side, with_side, has, with_taken}}
use Rattle.checked_cells.specs.Sides.{is_same_side, TakenAt, taken_or_none, taken_at, IsMarked, IsMarkedIf}
use Rattle.checked_cells.proofs.Entries.{under}

-- a side that is marked, among those that were
side_with : (sides : Sides) (along : Axis2) (is_low : Bool) (other : Axis2) (its_low : Bool)
    → has_side (with_side sides along is_low) other its_low
    ≡ (has_side sides other its_low || is_same_side along is_low other its_low)
side_with sides Across true Across true = sym (or-true sides.right)
side_with sides Across true Across false = sym (or-false sides.left)
side_with sides Across true Up true = sym (or-false sides.top)
side_with sides Across true Up false = sym (or-false sides.bottom)
side_with sides Across false Across true = sym (or-false sides.right)
side_with sides Across false Across false = sym (or-true sides.left)
side_with sides Across false Up true = sym (or-false sides.top)
side_with sides Across false Up false = sym (or-false sides.bottom)
side_with sides Up true Across true = sym (or-false sides.right)
side_with sides Up true Across false = sym (or-false sides.left)
side_with sides Up true Up true = sym (or-true sides.top)
side_with sides Up true Up false = sym (or-false sides.bottom)
side_with sides Up false Across true = sym (or-false sides.right)
side_with sides Up false Across false = sym (or-false sides.left)
side_with sides Up false Up true = sym (or-false sides.top)
side_with sides Up false Up false = sym (or-true sides.bottom)

taken_with : (taken : Taken) (layer : Layer) (along : Axis2) (is_low : Bool) (other : Layer) (its_along : Axis2)
    (its_low : Bool) → (other ≡ Metal → ⊥)
    → has (with_taken taken layer along is_low) other its_along its_low
    ≡ (has taken other its_along its_low || is_same_layer layer other
    && is_same_side along is_low its_along its_low)
taken_with taken Diffusion along is_low Diffusion its_along its_low no_metal =
    side_with taken.diffusion along is_low its_along its_low
taken_with taken Diffusion along is_low Poly its_along its_low no_metal =
    sym (or-false (has_side taken.poly its_along its_low))
taken_with taken Poly along is_low Diffusion its_along its_low no_metal =
    sym (or-false (has_side taken.diffusion its_along its_low))
taken_with taken Poly along is_low Poly its_along its_low no_metal = side_with taken.poly along is_low its_along its_low
taken_with taken Metal along is_low Diffusion its_along its_low no_metal =
    sym (or-false (has_side taken.diffusion its_along its_low))
taken_with taken Metal along is_low Poly its_along its_low no_metal =
    sym (or-false (has_side taken.poly its_along its_low))
taken_with taken layer along is_low Metal its_along its_low no_metal = absurd (no_metal refl)

-- the sides at a path are marked with one more
pub marked : (old new : TakenAt) (path : List ℕ) (layer : Layer) (along : Axis2) (is_low : Bool)
    → ((other : List ℕ)
    → under other new ≡ cond (bytes_eq other path) (Some (with_taken (taken_at old path) layer along is_low))
    (under other old))
    → IsMarked old new path layer along is_low
marked old new path layer along is_low put = λ other its_layer its_along its_low no_metal.
    ap (λ (found : Option Taken). has (taken_or_none found) its_layer its_along its_low) (put other)
    ∙ by other its_layer its_along its_low no_metal (bytes_eq other path) refl
  where
    by : (other : List ℕ) (its_layer : Layer) (its_along : Axis2) (its_low : Bool) → (its_layer ≡ Metal → ⊥)
        → (b : Bool) → bytes_eq other path ≡ b
        → has (taken_or_none (cond b (Some (with_taken (taken_at old path) layer along is_low)) (under other old)))
        its_layer its_along its_low
        ≡ (has (taken_at old other) its_layer its_along its_low || b
        && (is_same_layer layer its_layer && is_same_side along is_low its_along its_low))
    by other its_layer its_along its_low no_metal true same =
        let one : other ≡ path = (bytes_eq-Decides other path).0 same in
        taken_with (taken_at old path) layer along is_low its_layer its_along its_low no_metal
        ∙ ap (λ (text : List ℕ). has (taken_at old text) its_layer its_along its_low || is_same_layer layer its_layer
        && is_same_side along is_low its_along its_low) (sym one)
    by other its_layer its_along its_low no_metal false apart =
        sym (or-false (has (taken_at old other) its_layer its_along its_low))

-- or not, where nothing is marked
pub marked_if : (b : Bool) (old new : TakenAt) (path : List ℕ) (layer : Layer) (along : Axis2) (is_low : Bool)
    → IsMarkedIf b old new path layer along is_low
    → (other : List ℕ) (its_layer : Layer) (its_along : Axis2) (its_low : Bool) → (its_layer ≡ Metal → ⊥)
    → has (taken_at new other) its_layer its_along its_low
    ≡ (has (taken_at old other) its_layer its_along its_low || b
    && (bytes_eq other path && (is_same_layer layer its_layer && is_same_side along is_low its_along its_low)))
marked_if true old new path layer along is_low is other its_layer its_along its_low no_metal =
    is other its_layer its_along its_low no_metal
marked_if false old new path layer along is_low is other its_layer its_along its_low no_metal =
    ap (λ (entries : TakenAt). has (taken_at entries other) its_layer its_along its_low) is
    ∙ sym (or-false (has (taken_at old other) its_layer its_along its_low))
