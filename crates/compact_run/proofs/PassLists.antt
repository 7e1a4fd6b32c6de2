-- The axes of a list of passes.
use Rattle.std.proofs.Common.{◌≡◌, ℕ, ◌≤◌, Bool, true, false, List, length, get_or, refl, sym, ap, ◌∙◌, subst, arith}
use Rattle.std.proofs.lemmas.{Bool.Decides.nat_tests, List.{length-map, get_or-map, Elements.Contains-get_or}}
use Rattle.std.proofs.lemmas.List.Folds.{Any-from_list_any}
use Rattle.std.specs.{Prelude.{nat_le, ◌&&◌, ◌||◌, Contains, if◌then◌else◌}, List.{list_any, list_all}}
use Rattle.lam_geom.specs.declared.boxes.Axis.{Axis, TheVariants.{X, Y}}
use Rattle.design_layouts.specs.Designs.{HasBothAxes}
use Rattle.run_words.specs.Values.{is_x, is_y, is_pass_list, axis_of, axes_in}

-- a letter of an axis is one of its passes
letter_is_pass : (is_letter : ℕ → Bool) (axis : Axis) → ((b : ℕ) → is_letter b ≡ true → axis_of b ≡ axis)
    → (list : List ℕ) → list_any is_letter list ≡ true → Contains (axes_in list) axis
letter_is_pass is_letter axis step list any =
    let found = Any-from_list_any is_letter list any in
    let k = found.0 in
    let b = found.1 in
    let lt = found.2 in
    let count : length (axes_in list) ≡ length list = length-map list axis_of in
    let at : get_or (axes_in list) k (axis_of b) ≡ axis = get_or-map axis_of list k b (axis_of b) lt
    ∙ (ap axis_of found.3 ∙ step b found.4) in
    subst (Contains (axes_in list)) at (Contains-get_or (axes_in list) k (axis_of b) (omega (arith, count, lt)))

letter_x : (b : ℕ) → is_x b ≡ true → axis_of b ≡ X
letter_x b e = ap (λ t. if t then X else Y) e

letter_y : (b : ℕ) → is_y b ≡ true → axis_of b ≡ Y
letter_y b e = ap (λ t. if t then X else Y) (not_x b e)
  where
    not_x : (c : ℕ) → is_y c ≡ true → is_x c ≡ false
    not_x c t = grind (arith, nat_tests, t)

-- the parts of four tests
four : (a b c d : Bool) → (a && (b && (c && d))) ≡ true → (a ≡ true) × (c ≡ true) × (d ≡ true)
four true true true true e = (refl, refl, refl)
four true true true false e = cc
four true true false d e = cc
four true false c d e = cc
four false b c d e = cc

-- a list of passes has both axes, and few
pass_list_means : (list : List ℕ) → is_pass_list list ≡ true → HasBothAxes (axes_in list) × (length (axes_in list) ≤ 16)
pass_list_means list e =
    let parts = four (nat_le (length list) 16) (list_all (λ b. is_x b || is_y b) list) (list_any is_x list)
    (list_any is_y list) e in
    let few : length list ≤ 16 = grind (arith, nat_tests, parts.0) in
    let count : length (axes_in list) ≡ length list = length-map list axis_of in
    (λ axis. both axis parts.1 parts.2, omega (arith, few, count))
  where
    both : (axis : Axis) → list_any is_x list ≡ true → list_any is_y list ≡ true → Contains (axes_in list) axis
    both X p q = letter_is_pass is_x X letter_x list p
    both Y p q = letter_is_pass is_y Y letter_y list q

-- and so have the axes of a command
pub passes_mean : (axes : List Axis) → (list : List ℕ) × (is_pass_list list ≡ true) × (axes ≡ axes_in list)
    → HasBothAxes axes × (length axes ≤ 16)
passes_mean axes (list, is, e) = let P : List Axis → Type 0 =
    λ z. HasBothAxes z × (length z ≤ 16) in subst P (sym e) (pass_list_means list is)
