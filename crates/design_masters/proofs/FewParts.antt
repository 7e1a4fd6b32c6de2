-- A design with few names in its grids has masters of few parts, and few boxes in all instances.
use Rattle.std.proofs.{Common.{◌≡◌, ℕ, ◌^◌, ◌≤◌, List, All, length, map, sym, ap, ◌∙◌, arith}, lemmas.List.length-map}
use Rattle.std.{proofs.lemmas.{List.Sums.sum_by-le-sum_by, Simd.map-map}, specs.List.sum_by}
use Rattle.rule_table.specs.declared.technology.Tech.{Tech}
use Rattle.cell_model.specs.Counts.{boxes_in}
use Rattle.stick_text.specs.declared.design.{RowText.RowText, GridText.GridText, Design.Design}
use Rattle.checked_cells.specs.{Counts.{weight_of, boxes_of}, CheckedCell.{CheckedCell, cell_of, known_at}}
use Rattle.expand.specs.declared.master.Master.{Master}
use Rattle.plan_model.specs.declared.plan.Plan.{Plan}
use Rattle.grid_plan.specs.{Numbered.{numbers_in_row, numbers_in_grid, masters_in, master_of}, Planned.IsPlanOf}
use Rattle.design_sizes.specs.Sizes.{names_in_row, names_in_grid, names_in}
use Rattle.master_counts.specs.Parts.{boxes_of_master, boxes_of_instances, instances_in, HasShortName, HasFewParts}
use Rattle.master_counts.proofs.{Listed.{instances_listed, masters_listed}, Sums.{sum_every, sum_images}}
use Rattle.design_masters.specs.{Limits.most_boxes, Plans.{boxes_of_masters, boxes_of_all, IsLightPlan, HaveCells}}
use Rattle.design_masters.{specs.Plans.AreMastersOf, proofs.Weights.fewer_boxes}

-- ---- instances

row_planned : (cells : List CheckedCell) (masters : List ℕ) (row : RowText)
    → length (map (master_of masters) (numbers_in_row cells row)) ≡ names_in_row row
row_planned cells masters row = length-map (numbers_in_row cells row) (master_of masters) ∙ length-map row.names _

grid_planned : (cells : List CheckedCell) (masters : List ℕ) (grid : GridText)
    → sum_by length (map (map (master_of masters)) (numbers_in_grid cells grid)) ≡ names_in_grid grid
grid_planned cells masters grid =
    sum_images (length {A = ℕ}) (map (master_of masters)) (numbers_in_grid cells grid)
    ∙ (sum_images (λ (numbers : List ℕ). length (map (master_of masters) numbers)) (numbers_in_row cells) grid.rows
    ∙ sum_every (λ row. length (map (master_of masters) (numbers_in_row cells row))) names_in_row grid.rows
    (row_planned cells masters))

-- an instance for each name
instances_planned : (cells : List CheckedCell) (grids : List GridText) (plan : Plan) → IsPlanOf cells grids plan
    → instances_in plan ≡ sum_by names_in_grid grids
instances_planned cells grids plan is =
    let masters : List ℕ = masters_in cells grids in
    ap (sum_by (sum_by length)) is.rows
    ∙ (sum_images (sum_by length) (λ grid. map (map (master_of masters)) (numbers_in_grid cells grid)) grids
    ∙ sum_every (λ grid. sum_by length (map (map (master_of masters)) (numbers_in_grid cells grid))) names_in_grid
    grids (grid_planned cells masters))

-- ---- boxes

-- what is counted before the masters are made is what they have
boxes_agree : (cells : List CheckedCell) (chosen : List ℕ) (masters : List Master)
    → map (λ (m : Master). m.cell) masters ≡ map (λ k. cell_of (known_at cells k)) chosen
    → boxes_of_masters cells chosen ≡ map boxes_of_master masters
unfolding boxes_of
boxes_agree cells chosen masters are =
    sym (map-map boxes_in (λ k. cell_of (known_at cells k)) chosen)
    ∙ (ap (map boxes_in) (sym are) ∙ map-map boxes_in (λ (m : Master). m.cell) masters)

instances_agree : (tech : Tech) (cells : List CheckedCell) (plan : Plan) (masters : List Master)
    → HaveCells tech cells plan masters → boxes_of_all cells plan ≡ boxes_of_instances plan masters
instances_agree tech cells plan masters have =
    instances_listed plan masters (boxes_of_masters cells plan.masters)
    (boxes_agree cells plan.masters masters have.are)

few_boxes : (tech : Tech) (cells : List CheckedCell) (plan : Plan) (masters : List Master) → IsLightPlan cells plan
    → HaveCells tech cells plan masters → sum_by boxes_of_master masters ≤ 65536
few_boxes tech cells plan masters light have =
    let agree = masters_listed masters (boxes_of_masters cells plan.masters)
    (boxes_agree cells plan.masters masters have.are) in
    let images = sum_images (λ n. n) (λ k. boxes_of (known_at cells k)) plan.masters in
    let less = sum_by-le-sum_by (λ k. boxes_of (known_at cells k)) (λ k. weight_of (known_at cells k)) plan.masters
    (λ k. fewer_boxes (known_at cells k)) in
    let items = light.items in
    omega (arith, agree, images, less, items)

-- ---- masters of a design

pub few_parts : (tech : Tech) (design : Design) (plan : Plan) (masters : List Master)
    → AreMastersOf tech design plan masters → names_in design ≤ 2 ^ 19 → All HasShortName masters
    → HasFewParts plan masters
few_parts tech design plan masters are few named =
    record {
      named = named;
      boxes = few_boxes tech are.cells plan masters are.light are.made;
      instances = omega (arith, instances_planned are.cells design.grids plan are.planned.planned, few);
    }

pub few_in_all : (tech : Tech) (design : Design) (plan : Plan) (masters : List Master)
    → AreMastersOf tech design plan masters → boxes_of_instances plan masters ≤ most_boxes
few_in_all tech design plan masters are = let boxes =
    are.light.boxes in omega (arith, instances_agree tech are.cells plan masters are.made, boxes)
