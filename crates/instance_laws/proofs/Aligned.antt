-- Masters that share a column or a row have one size on the axis across it, or any other value that is equal where a
-- plan says so.
use Rattle.std.proofs.Common.{◌≡◌, ℕ, ◌<◌, ℤ, true, not, List, [], length, map, get_or, refl, sym, ap, ◌∙◌, subst}
use Rattle.std.proofs.{Common.{arith, inl, inr, ◌&&◌, ◌==◌, eq-eqb}, lemmas.Bool.{cases_eq, and_from, and_parts}}
use Rattle.std.proofs.lemmas.{Bool.{or_cases, eqb-true, ne_eqb}, List.{get_or-map, length-map}}
use Rattle.std.proofs.lemmas.List.Elements.{recursion_from_All, All-contains, Contains-get_or}
use Rattle.std.specs.{Prelude.slice_index, List.{AllByRecursion, All, Contains, filter, flat_map, range_with_len}}
use Rattle.lam_geom.specs.declared.boxes.Axis.{Axis, TheVariants.{X, Y}}
use Rattle.sym_items.specs.{declared.items.Coords.Coords, Layouts.size_in}
use Rattle.list_facts.proofs.{Elements.{all_unmap, all_pieces, all_of}, Some.contains_map}
use Rattle.cell_model.specs.declared.cell.CellPort.{CellPort}
use Rattle.plan_model.specs.{declared.plan.{Plan.Plan, Same.Same}, Instances.{IsAligned, InstancePlace}}
use Rattle.plan_model.specs.{Instances.{IsInstancePlace, grid_at, master_at_spot}, Plan.{grids_of, is_of_two, same_of}}
use Rattle.plan_model.specs.{Plan.{sharing, pitch_in, pitch_of, IsPlanOver}, Rows.{neighbours, row_at, column_at}}
use Rattle.plan_model.specs.Rows.{first_row, columns_of, firsts, is_pair, is_pair_either_way, IsRectangular}
use Rattle.instance_laws.{specs.InstanceSystem.StandInLine, proofs.Lists.{in_filter, in_firsts, in_range, as_first}}

-- the two of a pair have one value
abbrev pub IsLevel : (ℕ → ℤ) → ℕ × ℕ → Type 0
IsLevel f p = f p.0 ≡ f p.1

pair_itself : (p : ℕ × ℕ) → is_pair_either_way p p ≡ true
pair_itself p =
    let a : (p.0 == p.0) ≡ true = eq-eqb p.0 p.0 refl in
    let b : (p.1 == p.1) ≡ true = eq-eqb p.1 p.1 refl in
    let both : is_pair p p ≡ true = and_from (p.0 == p.0) (p.1 == p.1) a b in
    rw both refl

-- a pair that is another one, either way round, is level where that is
level_either_way : (f : ℕ → ℤ) (p q : ℕ × ℕ) → is_pair_either_way p q ≡ true → IsLevel f q → IsLevel f p
level_either_way f p q e h = elim (or_cases (is_pair p q) ((p.0 == q.1) && (p.1 == q.0)) e) [
  | inl so ↦ let k = and_parts (p.0 == q.0) (p.1 == q.1) so in ap f (eqb-true p.0 q.0 k.0) ∙ h
      ∙ sym (ap f (eqb-true p.1 q.1 k.1))
  | inr crossed ↦ let k = and_parts (p.0 == q.1) (p.1 == q.0) crossed in ap f (eqb-true p.0 q.1 k.0) ∙ sym h
      ∙ sym (ap f (eqb-true p.1 q.0 k.1))
]

-- where the pairs of two masters are level that are listed, each at its first place, all are
all_level : (f : ℕ → ℤ) (pairs : List (ℕ × ℕ)) → All (IsLevel f) (firsts is_pair_either_way (filter is_of_two pairs))
    → All (IsLevel f) pairs
all_level f pairs h = λ k d lt. level (get_or pairs k d) (Contains-get_or pairs k d lt)
  where
    level : (p : ℕ × ℕ) → Contains pairs p → IsLevel f p
    level p among = elim (cases_eq p.0 p.1) [
      | inl same ↦ ap f same
      | inr differ ↦
          let two : is_of_two p ≡ true = ap not (ne_eqb p.0 p.1 differ) in
          let one = in_firsts is_pair_either_way (filter is_of_two pairs) p (pair_itself p)
          (in_filter is_of_two pairs p among two) in
          level_either_way f p one.0 one.2
          (All-contains (IsLevel f) (firsts is_pair_either_way (filter is_of_two pairs)) one.0 h one.1)
    ]

-- two masters that a plan names have one value
abbrev pub AreEqual : (ℕ → ℤ) → Same → Type 0
AreEqual f same = f same.a ≡ f same.b

-- the masters that share a column, or a row, of any grid are level
shared_level : (axis : Axis) (plan : Plan) (f : ℕ → ℤ) → pitch_in axis plan ≡ pitch_of axis (grids_of plan)
    → All (AreEqual f) (pitch_in axis plan)
    → All (λ rows. AllByRecursion (IsLevel f) (sharing axis rows)) (grids_of plan)
shared_level axis plan f is h =
    let pairs : List (ℕ × ℕ) = flat_map (sharing axis) (grids_of plan) in
    let chosen : List (ℕ × ℕ) = firsts is_pair_either_way (filter is_of_two pairs) in
    let listed : All (AreEqual f) (map same_of chosen) = subst (All (AreEqual f)) is h in
    let level : All (IsLevel f) chosen =
    all_of (IsLevel f) chosen
    (all_unmap (AreEqual f) same_of chosen (recursion_from_All (AreEqual f) (map same_of chosen) listed)) in
    all_of _ (grids_of plan)
    (all_pieces (IsLevel f) (sharing axis) (grids_of plan)
    (recursion_from_All (IsLevel f) pairs (all_level f pairs level)))

-- the master of the first instance in the column, or in the row, of the one of this row and column
abbrev first_in : Axis → List (List ℕ) → ℕ → ℕ → ℕ
first_in X rows r c = slice_index (first_row rows) c
first_in Y rows r c = slice_index (row_at rows r) 0

-- a row of a grid is as long as the first
pub row_long : (rows : List (List ℕ)) (r : ℕ) → IsRectangular rows → r < length rows
    → length (row_at rows r) ≡ length (first_row rows)
row_long rows r h lt = h.equal r [] lt

-- one grid: each instance is level with the first of its column, or of its row
level_at : (axis : Axis) (f : ℕ → ℤ) (rows : List (List ℕ)) → IsRectangular rows
    → AllByRecursion (IsLevel f) (sharing axis rows) → (r c : ℕ) → r < length rows → c < length (row_at rows r)
    → f (slice_index (row_at rows r) c) ≡ f (first_in axis rows r c)
level_at X f rows rect h r c rl cl =
    let P : List ℕ → Type 0 = λ column. AllByRecursion (IsLevel f) (neighbours column) in
    let columns : All P (columns_of rows) =
    all_of P (columns_of rows) (all_pieces (IsLevel f) neighbours (columns_of rows) h) in
    let wide = row_long rows r rect rl in
    let own = All-contains P (columns_of rows) (column_at rows c) columns
    (contains_map (column_at rows) (range_with_len 0 (length (first_row rows))) c
    (in_range (length (first_row rows)) c (omega (arith, wide, cl)))) in
    let at : (k : ℕ) → k < length rows → slice_index (column_at rows c) k ≡ slice_index (row_at rows k) c =
    λ k l. get_or-map (λ row. slice_index row c) rows k [] 0 l in
    let high = length-map rows (λ row. slice_index row c) in
    let lt : r < length (column_at rows c) = omega (arith, high, rl) in
    ap f (sym (at r rl)) ∙ as_first f (column_at rows c) own r lt ∙ ap f (at 0 (omega (arith, rl)))
level_at Y f rows rect h r c rl cl =
    let own : All (λ row. AllByRecursion (IsLevel f) (neighbours row)) rows =
    all_of _ rows (all_pieces (IsLevel f) neighbours rows h) in
    as_first f (row_at rows r) (own r [] rl) c cl

-- two instances that stand in line have one value
pub level_in_line : (axis : Axis) (ports : List (List CellPort)) (plan : Plan) (f : ℕ → ℤ) → IsPlanOver ports plan
    → All (AreEqual f) (pitch_in axis plan) → (p q : InstancePlace)
    → IsInstancePlace (grids_of plan) p → IsInstancePlace (grids_of plan) q → StandInLine axis p q
    → f (master_at_spot (grids_of plan) p) ≡ f (master_at_spot (grids_of plan) q)
level_in_line axis ports plan f planned equal p q at_p at_q line = as_first_of p at_p ∙ ap f (one_first axis line)
    ∙ sym (as_first_of q at_q)
  where
    grids : List (List (List ℕ))
    grids = grids_of plan

    as_first_of : (s : InstancePlace) → IsInstancePlace grids s
        → f (master_at_spot grids s) ≡ f (first_in axis (grid_at grids s.grid) s.row s.col)
    as_first_of s at =
        let shared = shared_level axis plan f (planned.pitch axis) equal in
        level_at axis f (grid_at grids s.grid) (planned.rectangular s.grid [] at.grid) (shared s.grid [] at.grid)
        s.row s.col at.row at.col

    one_first : (axis : Axis) → StandInLine axis p q
        → first_in axis (grid_at grids p.grid) p.row p.col ≡ first_in axis (grid_at grids q.grid) q.row q.col
    one_first X line = ap (λ g. slice_index (first_row (grid_at grids g)) p.col) line.0
        ∙ ap (λ c. slice_index (first_row (grid_at grids q.grid)) c) line.1
    one_first Y line = ap (λ g. slice_index (row_at (grid_at grids g) p.row) 0) line.0
        ∙ ap (λ r. slice_index (row_at (grid_at grids q.grid) r) 0) line.1

pub all_aligned : (ports : List (List CellPort)) (plan : Plan) (layouts : List Coords) → IsPlanOver ports plan
    → ((axis : Axis) → All (AreEqual (size_in axis layouts)) (pitch_in axis plan))
    → All (IsAligned (size_in X layouts) (size_in Y layouts)) (grids_of plan)
all_aligned ports plan layouts planned equal =
    let on_x = shared_level X plan (size_in X layouts) (planned.pitch X) (equal X) in
    let on_y = shared_level Y plan (size_in Y layouts) (planned.pitch Y) (equal Y) in
    λ k d lt.
    let rows : List (List ℕ) = get_or (grids_of plan) k d in
    let rect = planned.rectangular k d lt in
    record {
      columns = level_at X (size_in X layouts) rows rect (on_x k d lt);
      rows = level_at Y (size_in Y layouts) rows rect (on_y k d lt);
    }
