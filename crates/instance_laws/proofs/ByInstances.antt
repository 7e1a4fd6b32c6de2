-- What the lists of a plan say of masters, they say of every two instances.
use Rattle.std.proofs.Common.{◌≡◌, ℕ, suc, ◌<◌, ℤ, List, [], length, get_or, slice_index, refl, sym, subst, arith}
use Rattle.std.proofs.lemmas.List.{get_or-map, length-map, Elements.{recursion_from_All, All-contains, Contains-get_or}}
use Rattle.std.specs.List.{AllByRecursion, All, filter, flat_map, range_with_len}
use Rattle.lam_geom.specs.declared.boxes.Axis.{Axis, TheVariants.{X, Y}}
use Rattle.rule_table.specs.declared.technology.Tech.{Tech}
use Rattle.list_facts.proofs.Elements.{all_flat, all_map, all_numbers, all_of, by_number}
use Rattle.cell_model.specs.declared.cell.CellPort.{CellPort}
use Rattle.expand.specs.declared.master.Master.{Master}
use Rattle.plan_model.specs.{declared.plan.{Match.Match, Plan.Plan}, Borders.{match_of, matches_at, meeting_ports}}
use Rattle.plan_model.specs.{GridNets.{IsNextInstance, MeetAt}, Instances.{InstancePlace, IsInstancePlace, spot}}
use Rattle.plan_model.specs.{Instances.{grid_at, master_at_spot}, Plan.{grids_of, is_of_two, same_of, sharing, meeting}}
use Rattle.plan_model.specs.{Plan.{borders_of, pitch_in, pitch_of, matches_in, ports_matched}, Rows.neighbours}
use Rattle.plan_model.specs.Rows.{zipped_rows, row_at, column_at, columns_of, first_row, firsts, is_pair}
use Rattle.plan_model.specs.Rows.{is_pair_either_way, IsRectangular}
use Rattle.pitch_join.specs.{Joined.far_of, Masters.ports_of_masters, Meeting.HasOneLine}
use Rattle.pitch_join.proofs.Lists.{all_firsts, all_kept}
use Rattle.instance_laws.specs.{Planned.AreOfPlan, InstanceSystem.{InstancesMeet, StandInLine, ListsSpeakOfInstances}}
use Rattle.instance_laws.{specs.InstanceSystem.line_at, proofs.{Lists.{neighbours_at, zip_at}, Aligned.IsLevel}}
use Rattle.instance_laws.proofs.{Aligned.{AreEqual, level_in_line, row_long}, Meeting.match_listed}

-- ---- pairs of masters next to one another are those of instances

-- a fact of the masters of each two instances of which the second stands after the first
abbrev OfEachNext : Axis → List (List (List ℕ)) → (ℕ × ℕ → Type 0) → Type 0
OfEachNext axis grids P = (p q : InstancePlace) → IsInstancePlace grids p → IsInstancePlace grids q
    → IsNextInstance axis p q → P (master_at_spot grids p, master_at_spot grids q)

-- where it holds, it does of each two next to one another in a row, and of each two in a column
of_rows : (grids : List (List (List ℕ))) (P : ℕ × ℕ → Type 0) → OfEachNext Y grids P → (g : ℕ) → g < length grids
    → AllByRecursion P (sharing Y (grid_at grids g))
of_rows grids P each g gl =
    let rows : List (List ℕ) = grid_at grids g in
    all_flat P neighbours rows (
    by_number (λ row. AllByRecursion P (neighbours row)) rows [] (
    λ r rl.
    neighbours_at P (row_at rows r) 0 (
    λ c cl.
    each (spot g r c) (spot g r (suc c)) (record { grid = gl; row = rl; col = omega (arith, cl) })
    (record { grid = gl; row = rl; col = cl }) (refl, refl, omega arith)
    )
    )
    )

of_columns : (grids : List (List (List ℕ))) (P : ℕ × ℕ → Type 0) → OfEachNext X grids P → (g : ℕ) → g < length grids
    → IsRectangular (grid_at grids g) → AllByRecursion P (sharing X (grid_at grids g))
of_columns grids P each g gl rect =
    let rows : List (List ℕ) = grid_at grids g in
    let count : ℕ = length (first_row rows) in
    let Q : List ℕ → Type 0 = λ column. AllByRecursion P (neighbours column) in
    all_flat P neighbours (columns_of rows)
    (all_map Q (column_at rows) (range_with_len 0 count)
    (all_numbers (λ c. Q (column_at rows c)) 0 count (λ c ge cl. of_column c (omega (arith, cl)))))
  where
    of_column : (c : ℕ) → c < length (first_row (grid_at grids g))
        → AllByRecursion P (neighbours (column_at (grid_at grids g) c))
    of_column c cl =
        let rows : List (List ℕ) = grid_at grids g in
        let high = length-map rows (λ row. slice_index row c) in
        neighbours_at P (column_at rows c) 0 (
        λ r lt.
        let above : suc r < length rows = omega (arith, high, lt) in
        let below : r < length rows = omega (arith, above) in
        let at : (k : ℕ) → k < length rows → get_or (column_at rows c) k 0 ≡ slice_index (row_at rows k) c =
        λ k l. get_or-map (λ row. slice_index row c) rows k [] 0 l in
        let inside : (k : ℕ) → k < length rows → IsInstancePlace grids (spot g k c) = λ k l. let wide =
        row_long rows k rect l in record { grid = gl; row = l; col = omega (arith, wide, cl) } in
        let held : P (slice_index (row_at rows r) c, slice_index (row_at rows (suc r)) c) =
        each (spot g r c) (spot g (suc r) c) (inside r below) (inside (suc r) above) (refl, omega arith, refl) in
        subst (λ (z : ℕ). P (z, get_or (column_at rows c) (suc r) 0)) (sym (at r below))
        (subst (λ (z : ℕ). P (slice_index (row_at rows r) c, z)) (sym (at (suc r) above)) held)
        )

of_stacks : (grids : List (List (List ℕ))) (P : ℕ × ℕ → Type 0) → OfEachNext X grids P → (g : ℕ) → g < length grids
    → AllByRecursion P (meeting X (grid_at grids g))
of_stacks grids P each g gl =
    let rows : List (List ℕ) = grid_at grids g in
    all_flat P zipped_rows (neighbours rows) (
    neighbours_at (λ two. AllByRecursion P (zipped_rows two)) rows [] (
    λ r rl.
    zip_at P (row_at rows r) (row_at rows (suc r)) 0 0 (
    λ c cl dl.
    each (spot g r c) (spot g (suc r) c) (record { grid = gl; row = omega (arith, rl); col = cl })
    (record { grid = gl; row = rl; col = dl }) (refl, omega arith, refl)
    )
    )
    )

-- so it does of all that share a column or a row, and of all that meet at a border
of_sharing : (axis : Axis) (grids : List (List (List ℕ))) (P : ℕ × ℕ → Type 0) → All IsRectangular grids
    → OfEachNext axis grids P → AllByRecursion P (flat_map (sharing axis) grids)
of_sharing axis grids P rect each =
    all_flat P (sharing axis) grids (by_number (λ rows. AllByRecursion P (sharing axis rows)) grids [] (by axis each))
  where
    by : (axis : Axis) → OfEachNext axis grids P → (g : ℕ) → g < length grids
        → AllByRecursion P (sharing axis (grid_at grids g))
    by X each = λ g gl. of_columns grids P each g gl (rect g [] gl)
    by Y each = of_rows grids P each

of_borders : (axis : Axis) (grids : List (List (List ℕ))) (P : ℕ × ℕ → Type 0) → OfEachNext axis grids P
    → AllByRecursion P (borders_of axis grids)
of_borders axis grids P each =
    all_flat P (meeting axis) grids (by_number (λ rows. AllByRecursion P (meeting axis rows)) grids [] (by axis each))
  where
    by : (axis : Axis) → OfEachNext axis grids P → (g : ℕ) → g < length grids
        → AllByRecursion P (meeting axis (grid_at grids g))
    by X each = of_stacks grids P each
    by Y each = of_rows grids P each

-- ---- from instances to the lists

-- one that stands after another stands in line with it
in_line : (axis : Axis) (p q : InstancePlace) → IsNextInstance axis p q → StandInLine axis p q
in_line X p q next = (sym next.0, sym next.2)
in_line Y p q next = (sym next.0, sym next.1)

-- what is equal for any two instances in line is for the masters that the plan names
to_pitch : (axis : Axis) (plan : Plan) (f : ℕ → ℤ) → pitch_in axis plan ≡ pitch_of axis (grids_of plan)
    → All IsRectangular (grids_of plan) → OfEachNext axis (grids_of plan) (IsLevel f)
    → All (AreEqual f) (pitch_in axis plan)
to_pitch axis plan f is rect each =
    let pairs : List (ℕ × ℕ) = flat_map (sharing axis) (grids_of plan) in
    let two : List (ℕ × ℕ) = filter is_of_two pairs in
    let level : AllByRecursion (IsLevel f) two =
    all_kept (IsLevel f) (IsLevel f) is_of_two pairs (λ p h t. h)
    (of_sharing axis (grids_of plan) (IsLevel f) rect each) in
    let listed = all_map (AreEqual f) same_of (firsts is_pair_either_way two)
    (all_firsts (IsLevel f) is_pair_either_way two level) in
    subst (All (AreEqual f)) (sym is) (all_of (AreEqual f) (pitch_of axis (grids_of plan)) listed)

to_matches : (axis : Axis) (tech : Tech) (plan : Plan) (masters : List Master) (x : ℕ → ℤ)
    → AreOfPlan tech plan masters → InstancesMeet axis tech plan masters x
    → All (HasOneLine axis masters x) (matches_in axis plan)
to_matches axis tech plan masters x planned h =
    let grids : List (List (List ℕ)) = grids_of plan in
    let ports : List (List CellPort) = ports_of_masters masters in
    let Q : Match → Type 0 = HasOneLine axis masters x in
    let P : ℕ × ℕ → Type 0 = λ pair. AllByRecursion Q (matches_at axis ports pair) in
    let each : OfEachNext axis grids P = λ p q at_p at_q next.
    let pair : ℕ × ℕ = (master_at_spot grids p, master_at_spot grids q) in
    let R : CellPort × CellPort → Type 0 = λ met. Q (match_of pair met) in
    let met : List (CellPort × CellPort) = meeting_ports axis ports pair in
    let one_line : All R met = λ k d lt.
    let two : CellPort × CellPort = get_or met k d in
    h.lines p q two.0 two.1 (record { before = at_p; after = at_q; next = next; met = Contains-get_or met k d lt }) in
    all_map Q (match_of pair) met (recursion_from_All R met one_line) in
    let chosen : List (ℕ × ℕ) = firsts is_pair (borders_of axis grids) in
    let matched = all_flat Q (matches_at axis ports) chosen
    (all_firsts P is_pair (borders_of axis grids) (of_borders axis grids P each)) in
    subst (All Q) (sym (planned.planned.matched axis)) (all_of Q (ports_matched axis ports grids) matched)

-- ---- from the lists to instances

-- the wires of two ports that meet lie on one line
to_line : (axis : Axis) (tech : Tech) (plan : Plan) (masters : List Master) (x : ℕ → ℤ) → AreOfPlan tech plan masters
    → All (HasOneLine axis masters x) (matches_in axis plan) → (p q : InstancePlace) (a b : CellPort)
    → MeetAt axis (ports_of_masters masters) (grids_of plan) p q a b
    → line_at axis plan masters x p a ≡ line_at axis plan masters x q b
to_line axis tech plan masters x planned h p q a b meets =
    let pair : ℕ × ℕ = (master_at_spot (grids_of plan) p, master_at_spot (grids_of plan) q) in
    All-contains (HasOneLine axis masters x) (matches_in axis plan) (match_of pair (a, b)) h
    (match_listed axis (ports_of_masters masters) plan p q a b planned.planned meets)

-- ---- both

pub instances_meet : (tech : Tech) (plan : Plan) (masters : List Master) → AreOfPlan tech plan masters
    → ListsSpeakOfInstances tech plan masters
instances_meet tech plan masters planned = λ axis x.
    let far : ℕ → ℤ = λ m. x (far_of axis masters m) in (
      λ h. record {
        origin = h.origin;
        structures = h.structures;
        borders = level_in_line axis (ports_of_masters masters) plan far planned.planned h.borders;
        lines = to_line axis tech plan masters x planned h.lines;
      },
      λ h. record {
        origin = h.origin;
        structures = h.structures;
        borders = to_pitch axis plan far (planned.planned.pitch axis) planned.planned.rectangular
            (λ p q at_p at_q next. h.borders p q at_p at_q (in_line axis p q next));
        lines = to_matches axis tech plan masters x planned h;
      },
    )
