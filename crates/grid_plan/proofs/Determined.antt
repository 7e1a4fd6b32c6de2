-- Two plans of the same grids are one.
use Rattle.std.proofs.Common.{◌≡◌, List, [], ◌∷◌, map, refl, ap, sym, ◌∙◌}
use Rattle.lam_geom.specs.declared.boxes.Axis.TheVariants.{X, Y}
use Rattle.stick_text.specs.declared.design.GridText.{GridText}
use Rattle.checked_cells.specs.CheckedCell.{CheckedCell}
use Rattle.plan_model.specs.declared.plan.{PlanGrid.PlanGrid, PlanRow.PlanRow}
use Rattle.plan_model.specs.{Plan.{grids_of, pitch_of, ports_matched}, Rows.rows_of}
use Rattle.grid_plan.specs.{Numbered.ports_of_chosen, Planned.PlanIsDetermined}

-- images by a function that takes no two to one
same_origins : {A B : Type 0} (f : A → B) → ((x y : A) → f x ≡ f y → x ≡ y) → (xs ys : List A) → map f xs ≡ map f ys
    → xs ≡ ys
same_origins f one [] [] e = refl
same_origins f one [] (y ∷ ys) e = cc
same_origins f one (x ∷ xs) [] e = cc
same_origins f one (x ∷ xs) (y ∷ ys) e =
    let first : f x ≡ f y = cc in
    let rest : map f xs ≡ map f ys = cc in
    let head = one x y first in
    let tail = same_origins f one xs ys rest in
    ap (λ z. z ∷ xs) head ∙ ap (λ zs. y ∷ zs) tail

same_row : (a b : PlanRow) → a.cells ≡ b.cells → a ≡ b
same_row a b e = ap (λ cells. record { cells = cells }) e

same_grid : (a b : PlanGrid) → rows_of a ≡ rows_of b → a ≡ b
same_grid a b e =
    let rows = same_origins (λ (row : PlanRow). row.cells) same_row a.rows b.rows e in
    ap (λ rows. record { rows = rows }) rows

pub determined : (cells : List CheckedCell) (grids : List GridText) → PlanIsDetermined cells grids
determined cells grids a b p q =
    let masters : a.masters ≡ b.masters = p.masters ∙ sym q.masters in
    let rows : grids_of a ≡ grids_of b = p.rows ∙ sym q.rows in
    let same : a.grids ≡ b.grids = same_origins rows_of same_grid a.grids b.grids rows in
    let pitch_x : a.pitch_x ≡ b.pitch_x = p.over.pitch X ∙ (ap (pitch_of X) rows ∙ sym (q.over.pitch X)) in
    let pitch_y : a.pitch_y ≡ b.pitch_y = p.over.pitch Y ∙ (ap (pitch_of Y) rows ∙ sym (q.over.pitch Y)) in
    let port_x : a.port_x ≡ b.port_x =
    p.over.matched X
    ∙ (ap (λ ms. ports_matched X (ports_of_chosen cells ms) (grids_of a)) masters
    ∙ (ap (ports_matched X (ports_of_chosen cells b.masters)) rows ∙ sym (q.over.matched X))) in
    let port_y : a.port_y ≡ b.port_y =
    p.over.matched Y
    ∙ (ap (λ ms. ports_matched Y (ports_of_chosen cells ms) (grids_of a)) masters
    ∙ (ap (ports_matched Y (ports_of_chosen cells b.masters)) rows ∙ sym (q.over.matched Y))) in
    ap (λ v. record a { masters = v }) masters
    ∙ (ap (λ v. record a { masters = b.masters; grids = v }) same
    ∙ (ap (λ v. record a { masters = b.masters; grids = b.grids; pitch_x = v }) pitch_x
    ∙ (ap (λ v. record a { masters = b.masters; grids = b.grids; pitch_x = b.pitch_x; pitch_y = v }) pitch_y
    ∙ (ap (λ v. record b { port_x = v; port_y = a.port_y }) port_x ∙ ap (λ v. record b { port_y = v }) port_y))))
