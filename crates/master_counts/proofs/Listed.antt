-- The sums over masters and instances, where the boxes of each master stand in a list.
use Rattle.std.proofs.Common.{◌≡◌, ℕ, zero, suc, List, [], ◌∷◌, map, refl, ap, ◌∙◌}
use Rattle.std.specs.{Prelude.slice_index, List.sum_by}
use Rattle.cell_model.specs.Counts.{boxes_in}
use Rattle.expand.specs.declared.master.Master.{Master}
use Rattle.plan_model.specs.{declared.plan.Plan.Plan, Plan.grids_of}
use Rattle.master_counts.specs.Parts.{boxes_of_master, boxes_at, boxes_of_instances}
use Rattle.master_counts.proofs.Sums.{sum_every, sum_images}

-- past the last there is a master without boxes
boxes_listed : (masters : List Master) (m : ℕ) → slice_index (map boxes_of_master masters) m ≡ boxes_at masters m
unfolding boxes_in
boxes_listed [] m = refl
boxes_listed (master ∷ masters) zero = refl
boxes_listed (master ∷ masters) (suc m) = boxes_listed masters m

-- of all instances
pub instances_listed : (plan : Plan) (masters : List Master) (sizes : List ℕ) → sizes ≡ map boxes_of_master masters
    → sum_by (sum_by (sum_by (slice_index sizes))) (grids_of plan) ≡ boxes_of_instances plan masters
instances_listed plan masters sizes is =
    let listed : ℕ → ℕ = slice_index (map boxes_of_master masters) in
    let row : (r : List ℕ) → sum_by listed r ≡ sum_by (boxes_at masters) r =
    λ r. sum_every listed (boxes_at masters) r (boxes_listed masters) in
    let rows : (g : List (List ℕ)) → sum_by (sum_by listed) g ≡ sum_by (sum_by (boxes_at masters)) g =
    λ g. sum_every (sum_by listed) (sum_by (boxes_at masters)) g row in
    ap (λ (ns : List ℕ). sum_by (sum_by (sum_by (slice_index ns))) (grids_of plan)) is
    ∙ sum_every (sum_by (sum_by listed)) (sum_by (sum_by (boxes_at masters))) (grids_of plan) rows

-- of all masters
pub masters_listed : (masters : List Master) (sizes : List ℕ) → sizes ≡ map boxes_of_master masters
    → sum_by (λ n. n) sizes ≡ sum_by boxes_of_master masters
masters_listed masters sizes is = ap (sum_by (λ n. n)) is ∙ sum_images (λ n. n) boxes_of_master masters
