-- Calls and boxes of pictures, against places worked by hand.
use Rattle.std.proofs.Common.{◌≡◌, ℤ, pos, List, [], ◌∷◌, refl}
use Rattle.lam_geom.specs.declared.boxes.MaskLayer.TheVariants.{ND, NM}
use Rattle.sym_items.specs.Values.{value_of}
use Rattle.mask_out.specs.{Pictures.{calls_of, flat_of}, Worked.{mask, call, drawings, calls}}

-- two masters, 30 and 42 wide and 18 high, where the widest spacing is 6
abbrev widths : List ℤ
widths = pos 30 ∷ pos 42 ∷ []

abbrev heights : List ℤ
heights = pos 18 ∷ pos 18 ∷ []

-- one beside the other in one grid, and each in a grid of its own
one_grid : calls_of (value_of widths) (value_of heights) (pos 6) (((0 ∷ 1 ∷ []) ∷ []) ∷ [])
    ≡ call 0 (pos 0) (pos 0) ∷ call 1 (pos 30) (pos 0) ∷ []
one_grid = refl

two_grids : calls_of (value_of widths) (value_of heights) (pos 6) (((0 ∷ []) ∷ []) ∷ ((1 ∷ []) ∷ []) ∷ [])
    ≡ call 0 (pos 0) (pos 0) ∷ call 1 (pos 36) (pos 0) ∷ []
two_grids = refl

-- both 42 wide: a grid of one row, and one of two
two_rows : calls_of (λ _. pos 42) (value_of heights) (pos 6) (((0 ∷ []) ∷ []) ∷ ((0 ∷ []) ∷ (1 ∷ []) ∷ []) ∷ [])
    ≡ call 0 (pos 0) (pos 0) ∷ call 0 (pos 48) (pos 0) ∷ call 1 (pos 48) (pos 18) ∷ []
two_rows = refl

-- ---- the picture that the tests type in

worked_flat : flat_of drawings calls
    ≡ mask NM (pos 0) (pos 6) (pos 0) (pos 6)
    ∷ mask ND (pos 39) (pos 43) (pos 2) (pos 4)
    ∷ mask NM (pos 38) (pos 44) (pos 0) (pos 8)
    ∷ mask NM (pos 6) (pos 12) (pos 27) (pos 33)
    ∷ []
worked_flat = refl
