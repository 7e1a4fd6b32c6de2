-- The plan that is built is that of the grids.
use Rattle.std.proofs.Common.{◌≡◌, ℕ, ◌<◌, ◌≤◌, None, List, [], length, map, get_or, inl, inr, ap, sym, subst, ◌∙◌}
use Rattle.std.proofs.{Common.arith, lemmas.{Simd.map-map, List.length-map}}
use Rattle.std.specs.List.{All, AllByRecursion, flat_map}
use Rattle.lam_geom.specs.declared.boxes.Axis.{Axis, TheVariants.{X, Y}}
use Rattle.stick_text.specs.{declared.design.GridText.GridText, Writable.{IsGrid, AreGridsOf}}
use Rattle.checked_cells.specs.{CheckedCell.{CheckedCell, known_at}, Ports.ports_of}
use Rattle.plan_model.specs.declared.plan.Plan.{Plan}
use Rattle.plan_model.specs.{Borders.FitsAt, Plan.{borders_of, grids_of, pitch_of, pitch_in, matches_in, ports_matched}}
use Rattle.plan_model.specs.{Plan.AreOfMasters, Rows.{firsts, is_pair, IsRectangular, rows_of}}
use Rattle.grid_plan.specs.{declared.scan.Scan.Scan, Building.IsBuilt, Faults.plan_fault, Numbered.is_same_number}
use Rattle.grid_plan.specs.{Numbered.{master_of, numbers_in_grid, ports_of_cells, ports_of_chosen}, Planned.IsPlanOf}
use Rattle.grid_plan.{specs.{Scan.IsScanOf, Small.{IsGridOf, IsWithin}}, proofs.GoodGrids.{IsGood, good_grids}}
use Rattle.grid_plan.proofs.{Mapped.rectangular_map, MasterPlaces.{HasPlace, all_placed, all_numbers_of, firsts_of}}
use Rattle.grid_plan.proofs.{MasterPlaces.same_masters, PairsWithin.{above_within, beside_within, firsts_all, rec_of}}
use Rattle.grid_plan.proofs.PlanMade.{IsMaster, AreMasters, both_facts, placed_rows, fits_moved, matches_moved}
use Rattle.list_facts.proofs.Elements.{all_map, all_of, all_flat, all_weaker, by_number}

-- the grids by the places of their masters
abbrev pub places_of : List ℕ → List (List (List ℕ)) → List (List (List ℕ))
places_of masters grids = map (map (map (master_of masters))) grids

-- ---- cells and masters

AllNumbers : (ℕ → Type 0) → List (List (List ℕ)) → Type 0
AllNumbers P grids = AllByRecursion (λ rows. AllByRecursion (λ row. AllByRecursion P row) rows) grids

numbers_all : (P : ℕ → Type 0) (grids : List (List (List ℕ))) → All (All (All P)) grids → AllNumbers P grids
unfolding AllNumbers
numbers_all P grids h =
    by_number (λ rows. AllByRecursion (λ row. AllByRecursion P row) rows) grids []
    (λ g lg. by_number (λ row. AllByRecursion P row) (get_or grids g []) []
    (λ r lr. by_number P (get_or (get_or grids g []) r []) 0 (λ c lc. h g [] lg r [] lr c 0 lc)))

are_masters : (cells : List CheckedCell) (grids : List (List (List ℕ)))
    → All (All (All (λ k. k < length cells))) grids → AllByRecursion (AreMasters cells (firsts_of grids)) grids
unfolding AllNumbers
are_masters cells grids within =
    let masters = firsts_of grids in
    both_facts (λ rows. AllByRecursion (λ row. AllByRecursion (λ k. k < length cells) row) rows)
    (λ rows. AllByRecursion (λ row. AllByRecursion (HasPlace masters) row) rows) (AreMasters cells masters)
    (λ rows h k.
    both_facts (λ row. AllByRecursion (λ k. k < length cells) row) (λ row. AllByRecursion (HasPlace masters) row)
    (λ row. AllByRecursion (IsMaster cells masters) row)
    (λ row a b. both_facts (λ k. k < length cells) (HasPlace masters) (IsMaster cells masters)
    (λ x known placed. record { known = known; placed = placed }) row a b) rows h k)
    grids (numbers_all (λ k. k < length cells) grids within) (all_placed grids)

pub masters_known : (n : ℕ) (grids : List (List (List ℕ))) → All (All (All (λ k. k < n))) grids
    → All (λ k. k < n) (firsts_of grids)
unfolding AllNumbers
masters_known n grids within =
    firsts_all (λ k. k < n) is_same_number (all_numbers_of grids) 0
    (all_of (λ k. k < n) (all_numbers_of grids) (all_flat (λ k. k < n) (flat_map (λ row. row)) grids
    (all_weaker (λ rows. AllByRecursion (λ row. AllByRecursion (λ k. k < n) row) rows)
    (λ rows. AllByRecursion (λ k. k < n) (flat_map (λ row. row) rows))
    (λ rows h. all_flat (λ k. k < n) (λ row. row) rows h) grids (numbers_all (λ k. k < n) grids within))))

-- ---- the grids of masters

grids_placed : (cells : List CheckedCell) (masters : List ℕ) (grids : List (List (List ℕ)))
    → AllByRecursion (IsGood cells) grids → AllByRecursion (AreMasters cells masters) grids
    → All (IsGridOf (length masters)) (places_of masters grids)
grids_placed cells masters grids good are =
    all_of (IsGridOf (length masters)) (places_of masters grids)
    (all_map (IsGridOf (length masters)) (map (map (master_of masters))) grids
    (both_facts (IsGood cells) (AreMasters cells masters)
    (λ rows. IsGridOf (length masters) (map (map (master_of masters)) rows))
    (λ rows is of.
    (let whole = rectangular_map (master_of masters) rows is.rectangular in
    record {
      some_rows = whole.some_rows;
      are = record { within = placed_rows cells masters rows of; equal = whole.equal };
    }))
    grids good are))

pub grids_of_masters : (cells : List CheckedCell) (grids : List GridText) → AllByRecursion IsGrid grids
    → plan_fault cells grids ≡ None → All (All (All (λ k. k < length cells))) (map (numbers_in_grid cells) grids)
    → All (IsGridOf (length (firsts_of (map (numbers_in_grid cells) grids))))
    (places_of (firsts_of (map (numbers_in_grid cells) grids)) (map (numbers_in_grid cells) grids))
grids_of_masters cells grids are none within =
    let numbers = map (numbers_in_grid cells) grids in
    grids_placed cells (firsts_of numbers) numbers (good_grids cells grids are none) (are_masters cells numbers within)

pub some_grids : (version : ℕ) (grids : List GridText) → AreGridsOf version grids → 0 < length grids
some_grids version grids (inl one) = (let e : length grids ≡ 1 = ap length one.1.1 in omega arith)
some_grids version grids (inr many) = many.1.0

-- ---- the whole

all_rectangular : (n : ℕ) (grids : List (List (List ℕ))) (cells : List CheckedCell) (masters : List ℕ)
    → AllByRecursion (IsGood cells) grids → All IsRectangular (places_of masters grids)
all_rectangular n grids cells masters good =
    all_of IsRectangular (places_of masters grids) (all_map IsRectangular (map (map (master_of masters))) grids
    (all_weaker (IsGood cells) (λ rows. IsRectangular (map (map (master_of masters)) rows))
    (λ rows is. rectangular_map (master_of masters) rows is.rectangular) grids good))

pitch_made : (axis : Axis) (scan : Scan) (masters : List ℕ) (rows : List (List (List ℕ))) (plan : Plan)
    → IsBuilt scan masters rows plan → pitch_in axis plan ≡ pitch_of axis rows
pitch_made X scan masters rows plan built = built.pitch_x
pitch_made Y scan masters rows plan built = built.pitch_y

ports_made : (axis : Axis) (cells : List CheckedCell) (scan : Scan) (masters : List ℕ) (rows : List (List (List ℕ)))
    (plan : Plan) → IsScanOf (ports_of_cells cells) scan → IsBuilt scan masters rows plan
    → All (λ k. k < length cells) masters → All (IsGridOf (length masters)) rows
    → matches_in axis plan ≡ ports_matched axis (ports_of_chosen cells masters) rows
ports_made X cells scan masters rows plan is built known grids =
    let pairs = firsts is_pair (borders_of X rows) in
    built.port_x ∙ matches_moved X cells masters scan.above.before.items scan.above.after.items pairs is.above.before
    is.above.after known
    (rec_of (IsWithin (length masters)) pairs (0, 0)
    (firsts_all (IsWithin (length masters)) is_pair (borders_of X rows) (0, 0)
    (above_within (length masters) rows grids)))
ports_made Y cells scan masters rows plan is built known grids =
    let pairs = firsts is_pair (borders_of Y rows) in
    built.port_y ∙ matches_moved Y cells masters scan.beside.before.items scan.beside.after.items pairs
    is.beside.before is.beside.after known
    (rec_of (IsWithin (length masters)) pairs (0, 0)
    (firsts_all (IsWithin (length masters)) is_pair (borders_of Y rows) (0, 0)
    (beside_within (length masters) rows grids)))

pub plan_made : (cells : List CheckedCell) (grids : List GridText) (scan : Scan) (plan : Plan)
    → AllByRecursion IsGrid grids → 0 < length grids → plan_fault cells grids ≡ None
    → All (All (All (λ k. k < length cells))) (map (numbers_in_grid cells) grids)
    → length (firsts_of (map (numbers_in_grid cells) grids)) ≤ 256 → IsScanOf (ports_of_cells cells) scan
    → IsBuilt scan (firsts_of (map (numbers_in_grid cells) grids))
    (places_of (firsts_of (map (numbers_in_grid cells) grids)) (map (numbers_in_grid cells) grids)) plan
    → IsPlanOf cells grids plan
plan_made cells grids scan plan are some none within few is built =
    let numbers = map (numbers_in_grid cells) grids in
    let masters = firsts_of numbers in
    let rows = places_of masters numbers in
    let good = good_grids cells grids are none in
    let of = are_masters cells numbers within in
    let placed = grids_placed cells masters numbers good of in
    let known = masters_known (length cells) numbers within in
    let as_many : length (ports_of_chosen cells plan.masters) ≡ length masters =
    length-map plan.masters (λ k. ports_of (known_at cells k)) ∙ ap length built.masters in
    let many : length plan.grids ≡ length grids =
    sym (length-map plan.grids rows_of)
    ∙ (ap length built.grids
    ∙ (length-map numbers (map (map (master_of masters))) ∙ length-map grids (numbers_in_grid cells))) in
    let G : List (List (List ℕ)) → Type 0 = All IsRectangular in
    let M : ℕ → List (List (List ℕ)) → Type 0 = λ n gs. All (AreOfMasters n) gs in
    let F : Axis → List ℕ → List (List (List ℕ)) → Type 0 =
    λ axis ms gs. All (FitsAt axis (ports_of_chosen cells ms)) (borders_of axis gs) in
    record {
      no_fault = none;
      masters = built.masters ∙ same_masters cells grids;
      rows = built.grids ∙ (map-map (map (map (master_of masters))) (numbers_in_grid cells) grids
          ∙ ap (λ ms. map (λ grid. map (map (master_of ms)) (numbers_in_grid cells grid)) grids)
          (same_masters cells grids));
      over = record {
        masters = sym (length-map plan.masters (λ k. ports_of (known_at cells k)));
        few_masters = omega arith;
        some_grids = omega arith;
        rectangular = subst G (sym built.grids) (all_rectangular 0 numbers cells masters good);
        of_masters = subst (λ n. M n (grids_of plan)) (sym as_many)
            (subst (λ gs. M (length masters) gs) (sym built.grids) (λ g d lg. (placed g d lg).are.within));
        fits = λ axis. subst (λ ms. F axis ms (grids_of plan)) (sym built.masters)
            (subst (λ gs. F axis masters gs) (sym built.grids) (fits_moved axis cells masters numbers good of));
        pitch = λ axis. pitch_made axis scan masters rows plan built ∙ ap (pitch_of axis) (sym built.grids);
        matched = λ axis. ports_made axis cells scan masters rows plan is built known placed
            ∙ (ap (λ ms. ports_matched axis (ports_of_chosen cells ms) rows) (sym built.masters)
            ∙ ap (ports_matched axis (ports_of_chosen cells plan.masters)) (sym built.grids));
      };
    }

-- ---- as the code has them

pub grids_built : (cells : List CheckedCell) (grids : List GridText) (numbers placed : List (List (List ℕ)))
    (masters : List ℕ) → AllByRecursion IsGrid grids → plan_fault cells grids ≡ None
    → All (All (All (λ k. k < length cells))) numbers → numbers ≡ map (numbers_in_grid cells) grids
    → masters ≡ firsts_of numbers → placed ≡ places_of masters numbers → All (IsGridOf (length masters)) placed
grids_built cells grids numbers placed masters are none within e f g =
    let N = map (numbers_in_grid cells) grids in
    let W : List (List (List ℕ)) → Type 0 = All (All (All (λ k. k < length cells))) in
    let whole : masters ≡ firsts_of N = f ∙ ap firsts_of e in
    let rows : placed ≡ places_of (firsts_of N) N = g
    ∙ (ap (λ ms. places_of ms numbers) whole ∙ ap (places_of (firsts_of N)) e) in
    let G : List ℕ → Type 0 = λ ms. All (IsGridOf (length ms)) placed in
    let H : List (List (List ℕ)) → Type 0 = All (IsGridOf (length (firsts_of N))) in
    subst G (sym whole) (subst H (sym rows) (grids_of_masters cells grids are none (subst W e within)))

pub plan_built : (cells : List CheckedCell) (grids : List GridText) (scan : Scan) (plan : Plan)
    (numbers placed : List (List (List ℕ))) (masters : List ℕ) → AllByRecursion IsGrid grids → 0 < length grids
    → plan_fault cells grids ≡ None → All (All (All (λ k. k < length cells))) numbers
    → numbers ≡ map (numbers_in_grid cells) grids → masters ≡ firsts_of numbers → placed ≡ places_of masters numbers
    → length masters ≤ 256 → IsScanOf (ports_of_cells cells) scan → IsBuilt scan masters placed plan
    → IsPlanOf cells grids plan
plan_built cells grids scan plan numbers placed masters are some none within e f g few is built =
    let N = map (numbers_in_grid cells) grids in
    let W : List (List (List ℕ)) → Type 0 = All (All (All (λ k. k < length cells))) in
    let whole : masters ≡ firsts_of N = f ∙ ap firsts_of e in
    let rows : placed ≡ places_of (firsts_of N) N = g
    ∙ (ap (λ ms. places_of ms numbers) whole ∙ ap (places_of (firsts_of N)) e) in
    plan_made cells grids scan plan are some none (subst W e within) (subst (λ ms. length ms ≤ 256) whole few) is
    (subst (λ gs. IsBuilt scan (firsts_of N) gs plan) rows (subst (λ ms. IsBuilt scan ms placed plan) whole built))
