-- A clean layout stays clean where its candidates keep their inequalities.
use Rattle.std.proofs.Common.{◌≡◌, ℕ, ◌<◌, ℤ, ◌+ℤ◌, ◌-ℤ◌, ◌≤ℤ◌, ◌<ℤ◌, List, length, All, Option, Some, None, refl, sym}
use Rattle.std.proofs.{Common.{◌∙◌, subst, arith}, lemmas.{Int.{ints, clamps, by_lt_z}, List.Elements.All-contains}}
use Rattle.std.specs.Prelude.{IfSome, Contains}
use Rattle.lam_geom.specs.declared.boxes.Axis.{Axis, TheVariants.{X, Y}}
use Rattle.rule_table.specs.declared.technology.Tech.{Tech}
use Rattle.sym_items.specs.{declared.items.{Item.Item, Coords.Coords}, Values.{value_of, value_at}, Sides.Sides}
use Rattle.sym_items.specs.{Sides.{gap_on_y, gap_of_sides, gap_in}, Transposed.item_along}
use Rattle.pair_rules.specs.{declared.pairs.Pair.Pair, Bound.{item_at, bound_spacing}, Candidates.IsCandidate}
use Rattle.pair_rules.specs.Candidates.{sides_at, spacing_at, pairs_at, candidates_to, candidates_of, Keeps}
use Rattle.pair_rules.{specs.Laws.{moved, StaysClean}, proofs.EitherOrder.bound_symmetric}
use Rattle.pair_rules.proofs.{FacingItems.candidate_faces, Pieces.{contains_piece_of, contains_pair}}

-- boxes that lie so far apart: on y, or the one stands before the other, or the other before the one
by_cases : {P : Type 0} (s : ℤ) (a b : Sides) → s ≤ℤ gap_of_sides a b → (s ≤ℤ gap_on_y a b → P)
    → (gap_on_y a b <ℤ s → (a.right +ℤ s) ≤ℤ b.left → P) → (gap_on_y b a <ℤ s → (b.right +ℤ s) ≤ℤ a.left → P) → P
by_cases s a b apart across first second =
    by_lt_z (gap_on_y a b) s
    (λ near. by_lt_z (b.left -ℤ a.right) s
    (λ below. second (omega (arith, ints, clamps, near)) (omega (arith, ints, clamps, near, below, apart)))
    (λ above. first near (omega (arith, ints, above))))
    across

-- the gap where each pair keeps its spacing on one of the axes
across_x : (s : ℤ) (a b : Sides) → s ≤ℤ (b.left -ℤ a.right) → s ≤ℤ gap_of_sides a b
across_x s a b h = omega (arith, ints, clamps, h)

across_x_back : (s : ℤ) (a b : Sides) → s ≤ℤ (a.left -ℤ b.right) → s ≤ℤ gap_of_sides a b
across_x_back s a b h = omega (arith, ints, clamps, h)

across_y : (s : ℤ) (a b : Sides) → s ≤ℤ gap_on_y a b → s ≤ℤ gap_of_sides a b
across_y s a b h = omega (arith, ints, clamps, h)

-- the sides of an item along an axis once the axis has other values
abbrev with_ends : Axis → List ℤ → Item → Sides → Sides
with_ends axis values a s =
    record s { left = value_at (item_along axis a).xl values; right = value_at (item_along axis a).xh values }

moved_gap : (axis : Axis) (c : Coords) (values : List ℤ) (a b : Item)
    → gap_of_sides (with_ends axis values a (sides_at axis c a)) (with_ends axis values b (sides_at axis c b))
    ≡ gap_in (moved axis c values) a b
moved_gap X c values a b = refl
moved_gap Y c values a b = omega (arith, ints, clamps)

turned_gap : (axis : Axis) (c : Coords) (a b : Item)
    → gap_of_sides (sides_at axis c a) (sides_at axis c b) ≡ gap_in c a b
turned_gap X c a b = refl
turned_gap Y c a b = omega (arith, ints, clamps)

-- two bound items that keep their spacing keep it where they are a candidate, if they are, and across the axis
stay_apart : (axis : Axis) (t : Tech) (c : Coords) (a b : Item) (s : ℤ) (values : List ℤ)
    → bound_spacing t a b ≡ Some s → s ≤ℤ gap_in c a b
    → (IsCandidate axis t c a b s
    → s ≤ℤ (value_at (item_along axis b).xl values -ℤ value_at (item_along axis a).xh values))
    → (IsCandidate axis t c b a s
    → s ≤ℤ (value_at (item_along axis a).xl values -ℤ value_at (item_along axis b).xh values))
    → s ≤ℤ gap_in (moved axis c values) a b
stay_apart axis t c a b s values bound apart first second =
    let G : ℤ → Type 0 = λ z. s ≤ℤ z in
    let u = with_ends axis values a (sides_at axis c a) in
    let v = with_ends axis values b (sides_at axis c b) in
    subst G (moved_gap axis c values a b)
    (by_cases s (sides_at axis c a) (sides_at axis c b) (subst G (sym (turned_gap axis c a b)) apart)
    (λ far. across_y s u v far)
    (λ near before. across_x s u v (first (record { bound = bound; near_across = near; apart = before })))
    (λ near before.
    across_x_back s u v
    (second (record { bound = bound_symmetric t b a ∙ bound; near_across = near; apart = before }))))

-- the inequality of a candidate, out of those of all
kept_at : (axis : Axis) (t : Tech) (c : Coords) (items : List Item) (values : List ℤ) (i j : ℕ) (s : ℤ)
    → All (Keeps axis (value_of values) items) (candidates_of axis t c items) → i < length items → j < length items
    → spacing_at axis t c items i j ≡ Some s
    → Keeps axis (value_of values) items (record { i = i; j = j; s = s })
kept_at axis t c items values i j s keeps i_among j_among faces =
    let p : Pair = record { i = i; j = j; s = s } in
    let of_j : Contains (candidates_to axis t c items j) p =
    contains_piece_of (pairs_at axis t c items j) (length items) i p i_among
    (contains_pair (spacing_at axis t c items i j) s i j faces) in
    All-contains (Keeps axis (value_of values) items) (candidates_of axis t c items) p keeps
    (contains_piece_of (candidates_to axis t c items) (length items) j p j_among of_j)

at_some : (o : Option ℤ) (P : ℤ → Type 0) (s : ℤ) → o ≡ Some s → IfSome o P → P s
at_some o P s e h = let Q : Option ℤ → Type 0 = λ q. IfSome q P in subst Q e h

if_some : (o : Option ℤ) (P : ℤ → Type 0) → ((s : ℤ) → o ≡ Some s → P s) → IfSome o P
if_some None P h = tt
if_some (Some s) P h = h s refl

-- one pair of items
pair_stays : (axis : Axis) (t : Tech) (c : Coords) (items : List Item) (values : List ℤ) (i j : ℕ) (s : ℤ)
    → All (Keeps axis (value_of values) items) (candidates_of axis t c items) → i < length items → j < length items
    → bound_spacing t (item_at items i) (item_at items j) ≡ Some s → s ≤ℤ gap_in c (item_at items i) (item_at items j)
    → s ≤ℤ gap_in (moved axis c values) (item_at items i) (item_at items j)
pair_stays axis t c items values i j s keeps i_among j_among bound apart =
    let a = item_at items i in
    let b = item_at items j in
    stay_apart axis t c a b s values bound apart
    (λ faces. kept_at axis t c items values i j s keeps i_among j_among (candidate_faces axis t c a b s faces))
    (λ faces. kept_at axis t c items values j i s keeps j_among i_among (candidate_faces axis t c b a s faces))

pub stays_clean : (axis : Axis) (t : Tech) (c : Coords) (items : List Item) → StaysClean axis t c items
stays_clean axis t c items values clean keeps i j i_among j_among =
    let a = item_at items i in
    let b = item_at items j in
    if_some (bound_spacing t a b) (λ s. s ≤ℤ gap_in (moved axis c values) a b)
    (λ s bound. pair_stays axis t c items values i j s keeps i_among j_among bound
    (at_some (bound_spacing t a b) (λ z. z ≤ℤ gap_in c a b) s bound (clean i j i_among j_among)))
