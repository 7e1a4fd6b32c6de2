-- A family has no more bars than there are items.
use Rattle.std.proofs.Common.{◌≡◌, ◌≢◌, ℕ, ◌<◌, ◌≤◌, inl, inr, true, ℤ, ◌<ℤ◌, List, [], ◌∷◌, length, eqb, arith}
use Rattle.std.proofs.lemmas.{Int.ints, Bool.{cases_Bool, eqb-true, false≢true, Decides.Decides-eqb}}
use Rattle.std.proofs.lemmas.List.{length-map, Sums.{length-filter, count_by-le-length}, Elements.{All-head, All-tail}}
use Rattle.std.proofs.lemmas.Map.{Steps.length-le_from_distinct_below, Made.IsDistinct-from_AllPairs}
use Rattle.std.specs.List.{All, list_any}
use Rattle.lam_geom.specs.declared.boxes.Axis.{Axis}
use Rattle.rule_table.specs.declared.technology.Tech.{Tech}
use Rattle.sym_items.specs.{declared.items.{Item.Item, Coords.Coords}, Values.value_of}
use Rattle.scan_line.specs.Begins.{begin_at, begins_of, BeginsBefore, IsOrderOf}
use Rattle.shadow_prune.specs.declared.families.Family.{Family}
use Rattle.shadow_prune.specs.Families.{is_of, members_of, bar_of, bars_of}
use Rattle.shadow_prune.proofs.SameLists.{all_pairs_weaker}

-- a number that equals one of some is below what they are below
one_of_them : (n q : ℕ) (xs : List ℕ) → All (λ k. k < n) xs → list_any (eqb q) xs ≡ true → q < n
one_of_them n q [] h e = absurd (false≢true e)
one_of_them n q (x ∷ xs) h e =
    elim (cases_Bool (eqb q x)) as (λ _. q < n) [
      | inl same ↦ omega (arith, eqb-true q x same, All-head (λ k. k < n) x xs h)
      | inr differs ↦ one_of_them n q xs (All-tail (λ k. k < n) x xs h) (rw differs at e)
    ]

differ : (begins : List ℤ) (a b : ℕ) → BeginsBefore begins a b → a ≢ b
differ begins a b (inl before) same =
    let lt : value_of begins b <ℤ value_of begins b = rw same at before in
    absurd (omega (arith, ints, lt))
differ begins a b (inr parts) same = let lt = parts.1 in omega (arith, lt, same)

all_within : (begins : List ℤ) (order : List ℕ) → IsOrderOf begins order → length order ≤ length begins
all_within begins order are =
    length-le_from_distinct_below order (length begins)
    (IsDistinct-from_AllPairs Decides-eqb order
    (all_pairs_weaker (BeginsBefore begins) (λ a b. a ≢ b) (differ begins) order are.in_order))
    (λ q e. one_of_them (length begins) q order are.in_range e)

pub few_bars : (axis : Axis) (t : Tech) (c : Coords) (items : List Item) (f : Family) (order : List ℕ)
    → IsOrderOf (begins_of axis c items) order → length (bars_of axis t c items f order) ≤ length items
few_bars axis t c items f order are =
    let all = all_within (begins_of axis c items) order are in
    omega (
      arith,
      all,
      length-map items (begin_at axis c),
      length-map (members_of items f order) (bar_of axis t c items f),
      length-filter (is_of items f) order,
      count_by-le-length (is_of items f) order,
    )
