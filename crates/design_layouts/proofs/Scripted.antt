-- What the commands with a script have in common: what a new design keeps, and how a line is put.
use Rattle.std.proofs.Common.{◌≡◌, ℕ, ◌≤◌, List, [], ◌∷◌, ◌++◌, map, refl, ap, ◌∙◌, arith}
use Rattle.std.{proofs.lemmas.List.{append_assoc, Sums.sum_by-cons}, specs.List.sum_by}
use Rattle.lam_io.specs.Io.{Bytes}
use Rattle.stick_text.specs.declared.design.{RowText.RowText, GridText.GridText, Design.Design}
use Rattle.stick_print.specs.ReadBack.{without_line}
use Rattle.design_sizes.specs.Sizes.{names_in, names_in_grid, names_in_row}

-- ---- what a new design keeps

one_less : (a b : GridText) (as_ bs : List GridText) → map without_line (a ∷ as_) ≡ map without_line (b ∷ bs)
    → (a.rows ≡ b.rows) × (map without_line as_ ≡ map without_line bs)
one_less a b as_ bs e =
    let first : without_line a ≡ without_line b = cc in
    (ap (λ (g : GridText). g.rows) first, cc)

same_grids : (as_ bs : List GridText) → map without_line as_ ≡ map without_line bs
    → sum_by names_in_grid as_ ≡ sum_by names_in_grid bs
same_grids [] [] e = refl
same_grids [] (b ∷ bs) e = cc
same_grids (a ∷ as_) [] e = cc
same_grids (a ∷ as_) (b ∷ bs) e =
    let less = one_less a b as_ bs e in
    let row : names_in_grid a ≡ names_in_grid b = ap (λ (rows : List RowText). sum_by names_in_row rows) less.0 in
    let rest = same_grids as_ bs less.1 in
    omega (arith, row, rest, sum_by-cons names_in_grid a as_, sum_by-cons names_in_grid b bs)

-- with the same grids a design has no more names
pub few_names : (old new : Design) (most : ℕ) → map without_line new.grids ≡ map without_line old.grids
    → names_in old ≤ most → names_in new ≤ most
few_names old new most e few = let same = same_grids new.grids old.grids e in omega (arith, same, few)

-- ---- what is told

-- a line that is put piece by piece
pub put_in_six : (out head a b c d e o p q r s t : Bytes) → o ≡ out ++ head → p ≡ o ++ a → q ≡ p ++ b → r ≡ q ++ c
    → s ≡ r ++ d → t ≡ s ++ e
    → t ≡ out ++ (head ++ (a ++ (b ++ (c ++ (d ++ e)))))
put_in_six out head a b c d e o p q r s t first second third fourth fifth sixth =
    let all : t ≡ ((((((out ++ head) ++ a) ++ b) ++ c) ++ d) ++ e) = cc in
    all ∙ simp append_assoc
