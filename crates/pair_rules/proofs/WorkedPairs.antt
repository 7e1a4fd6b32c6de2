-- Candidates and kept pairs of small layouts, checked against lists worked by hand.
use Rattle.std.proofs.Common.{◌≡◌, ℕ, pos, List, [], ◌∷◌, refl}
use Rattle.lam_geom.specs.declared.boxes.Axis.TheVariants.{X, Y}
use Rattle.rule_table.specs.{declared.technology.Tech.Tech, Technology.shipped_numbers, Spacing.spacing_in}
use Rattle.rule_table.proofs.Shipped.{shipped_sound}
use Rattle.sym_items.specs.declared.items.Item.{Item}
use Rattle.pair_rules.specs.{declared.pairs.Pair.Pair, Bound.bound_spacing, Candidates.{facing_spacing, candidates_of}}
use Rattle.pair_rules.specs.{Kept.kept_of, Worked.{joint, metal, row_of_three, row_start, two_columns, columns_start}}

shipped : Tech
shipped = record { numbers = shipped_numbers; sound = shipped_sound }

abbrev apart : ℕ → ℕ → Pair
apart i j = record { i = i; j = j; s = pos 6 }

-- of three joints in a row the pair of the outer ones is shadowed by the middle one
row_candidates : candidates_of X shipped row_start row_of_three ≡ apart 0 1 ∷ apart 0 2 ∷ apart 1 2 ∷ []
unfolding shipped bound_spacing facing_spacing spacing_in
row_candidates = refl

row_kept : kept_of X shipped row_start row_of_three ≡ apart 0 1 ∷ apart 1 2 ∷ []
unfolding shipped bound_spacing facing_spacing spacing_in
row_kept = refl

row_upwards : candidates_of Y shipped row_start row_of_three ≡ []
unfolding shipped bound_spacing facing_spacing spacing_in
row_upwards = refl

-- a wire between the first two joints makes them one net with it: none of them faces another, and none shadows another
wired_row : List Item
wired_row = joint 0 0 ∷ joint 1 0 ∷ joint 2 1 ∷ metal 3 0 2 3 2 2 ∷ []

wired_kept : kept_of X shipped row_start wired_row ≡ apart 0 2 ∷ apart 1 2 ∷ apart 3 2 ∷ []
unfolding shipped wired_row bound_spacing facing_spacing spacing_in
wired_kept = refl

-- two columns: across from each joint and each wire lie two boxes or three, seven pairs in all, of which none is
-- shadowed
columns_candidates : candidates_of X shipped columns_start two_columns
    ≡ apart 0 2 ∷ apart 4 2 ∷ apart 1 3 ∷ apart 4 3 ∷ apart 0 5 ∷ apart 1 5 ∷ apart 4 5 ∷ []
unfolding shipped bound_spacing facing_spacing spacing_in
columns_candidates = refl

columns_kept : kept_of X shipped columns_start two_columns ≡ candidates_of X shipped columns_start two_columns
unfolding shipped bound_spacing facing_spacing spacing_in
columns_kept = refl
