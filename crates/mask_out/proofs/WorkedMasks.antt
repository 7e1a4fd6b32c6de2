-- The masks of the items that the tests type in, against sides worked by hand.
use Rattle.std.proofs.Common.{◌≡◌, pos, [], ◌∷◌, refl}
use Rattle.lam_geom.specs.declared.boxes.MaskLayer.TheVariants.{ND, NC, NM, NI, NB}
use Rattle.mask_out.specs.{Masks.masks_in, Worked.{squares, layout, mask}}

worked_masks : masks_in layout squares
    ≡ mask ND (pos 8) (pos 16) (pos 8) (pos 16)
    ∷ mask NC (pos 10) (pos 14) (pos 10) (pos 14)
    ∷ mask NM (pos 8) (pos 16) (pos 8) (pos 16)
    ∷ mask NM (pos 27) (pos 33) (pos 9) (pos 15)
    ∷ mask NI (pos 25) (pos 35) (pos 7) (pos 17)
    ∷ mask NB (pos 6) (pos 18) (pos 6) (pos 18)
    ∷ []
unfolding masks_in
worked_masks = refl
