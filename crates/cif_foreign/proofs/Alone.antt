-- Files whose top has boxes alone.
use Rattle.std.proofs.Common.{◌≡◌, ℕ, ◌^◌, List, [], ◌∷◌, All, map, refl, sym, ap, ◌∙◌, subst}
use Rattle.std.{proofs.lemmas.List.Elements.{All-from_recursion, recursion_from_All}, specs.List.AllByRecursion}
use Rattle.lam_geom.specs.declared.boxes.MaskBox.{MaskBox}
use Rattle.cif_read.specs.declared.file.{ForeignFile.ForeignFile, ForeignStep.{ForeignStep, TheVariants.Own}}
use Rattle.cif_read.specs.Hierarchies.{Drawn, boxes_of_steps, boxes_of_symbols, flattened}
use Rattle.cif_read.specs.{Files.{drawn_of, IsSolidWithin}, Foreign.{foreign_step, foreign_symbol, IsForeignStep}}
use Rattle.cif_foreign.specs.Files.{hierarchy_of}

own_steps : (all : List (List Drawn)) (boxes : List MaskBox)
    → boxes_of_steps all (map foreign_step (map Own boxes)) ≡ map drawn_of boxes
own_steps all [] = refl
own_steps all (box ∷ boxes) = ap (λ (bs : List Drawn). drawn_of box ∷ bs) (own_steps all boxes)

pub alone_flat : (file : ForeignFile) (boxes : List MaskBox) → file.top ≡ map Own boxes
    → map drawn_of boxes ≡ flattened (hierarchy_of file)
alone_flat file boxes e =
    let all = boxes_of_symbols (map foreign_symbol file.symbols) in
    sym (ap (λ (top : List ForeignStep). boxes_of_steps all (map foreign_step top)) e ∙ own_steps all boxes)

each_solid : (n : ℕ) (boxes : List MaskBox) → AllByRecursion (IsForeignStep n) (map Own boxes)
    → AllByRecursion (IsSolidWithin (2 ^ 50)) (map drawn_of boxes)
each_solid n [] h = tt
each_solid n (box ∷ boxes) h = (h.0, each_solid n boxes h.1)

pub alone_solid : (n : ℕ) (top : List ForeignStep) (boxes : List MaskBox) → top ≡ map Own boxes
    → All (IsForeignStep n) top → All (IsSolidWithin (2 ^ 50)) (map drawn_of boxes)
alone_solid n top boxes e all =
    All-from_recursion (IsSolidWithin (2 ^ 50)) (map drawn_of boxes)
    (each_solid n boxes (recursion_from_All (IsForeignStep n) (map Own boxes) (subst (All (IsForeignStep n)) e all)))
