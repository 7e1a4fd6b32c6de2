-- The values of the joint variables in some layouts, and what a master has of values of theirs.
use Rattle.std.proofs.Common.{◌≡◌, ℕ, zero, suc, ◌+◌, ◌-◌, ◌<◌, ◌≤◌, ℤ, pos, ◌≤ℤ◌, List, [], ◌∷◌, ◌++◌, length, take}
use Rattle.std.proofs.Common.{drop, map, get_or, refl, sym, ap, ◌∙◌, subst, arith, inl, inr, take_all, ext_get_or}
use Rattle.std.proofs.{Common.{length-take-le, get_or-take, get_or-drop, flat_map, sum_by}, lemmas.List.length-drop}
use Rattle.std.proofs.lemmas.List.{Concat.{get_or-flat_map, length-flat_map}, FromFn.get_or-map-range_with_len}
use Rattle.std.proofs.lemmas.{List.{FromFn.length-map-range_with_len, Sums.sum_by_more}, Grind.get_or_after_one}
use Rattle.std.specs.List.{range_with_len}
use Rattle.lam_geom.specs.declared.boxes.Axis.{Axis}
use Rattle.rule_table.specs.declared.technology.Tech.{Tech}
use Rattle.cons_graph.specs.Solutions.{value_of}
use Rattle.sym_items.specs.{declared.items.Coords.Coords, Layouts.{layout_at, no_layout, value_in}}
use Rattle.sym_items.specs.Transposed.{values_along}
use Rattle.expand.specs.{declared.master.Master.Master, Variables.variables_of}
use Rattle.pair_rules.specs.Laws.{moved}
use Rattle.pitch_join.specs.{Masters.master_at, Joined.{own_variables, base_of, system_variables, var_of, local_of}}
use Rattle.pitch_join.{specs.Variables.VariablesAreJoined, proofs.Bases.{base_next, base_end}}
use Rattle.pass_run.specs.{Laid.AreLaidOut, OneMaster.{part_from, own_part}, Layouts.{own_values, system_values}}
use Rattle.pass_run.specs.Layouts.{local_values, with_values_at, with_values}

-- ---- the values of some layouts

abbrev own_count : Axis → Coords → ℕ
own_count axis layout = length (own_values axis layout)

without_first : (vs : List ℤ) (n : ℕ) → length vs ≡ suc n → length (drop 1 vs) ≡ n
without_first [] n e = absurd (omega arith)
without_first (v ∷ vs) n e = omega arith

own_counted : (axis : Axis) (tech : Tech) (masters : List Master) (layouts : List Coords) (m : ℕ)
    → AreLaidOut tech masters layouts → m < length masters
    → own_count axis (layout_at layouts m) ≡ own_variables axis (master_at masters m)
own_counted axis tech masters layouts m laid lt =
    without_first (values_along axis (layout_at layouts m)) (own_variables axis (master_at masters m))
    (let n = (laid.each m lt).of_master.counted axis in omega arith)

-- the values of the masters before come first
before_counted : (axis : Axis) (tech : Tech) (masters : List Master) (layouts : List Coords) (m : ℕ)
    → AreLaidOut tech masters layouts → m ≤ length masters
    → 1 + sum_by (own_count axis) (take m layouts) ≡ base_of axis masters m
before_counted axis tech masters layouts zero laid le = refl
before_counted axis tech masters layouts (suc m) laid le =
    let e : m + 1 ≡ suc m = omega arith in
    let counted = laid.counted in
    let sums = sum_by_more (own_count axis) layouts m no_layout (omega arith) in
    let sums_at : sum_by (own_count axis) (take (m + 1) layouts) ≡ sum_by (own_count axis) (take (suc m) layouts) =
    ap (λ k. sum_by (own_count axis) (take k layouts)) e in
    let next = base_next axis masters m (omega arith) in
    let next_at : base_of axis masters (m + 1) ≡ base_of axis masters (suc m) = ap (base_of axis masters) e in
    let own = own_counted axis tech masters layouts m laid (omega arith) in
    let before = before_counted axis tech masters layouts m laid (omega arith) in
    omega arith

pub system_length : (axis : Axis) (tech : Tech) (masters : List Master) (layouts : List Coords)
    → AreLaidOut tech masters layouts → length (system_values axis layouts) ≡ system_variables axis masters
system_length axis tech masters layouts laid =
    let counted = laid.counted in
    let all : take (length masters) layouts ≡ layouts = take_all (length masters) layouts (omega arith) in
    let sums : sum_by (own_count axis) (take (length masters) layouts) ≡ sum_by (own_count axis) layouts =
    ap (sum_by (own_count axis)) all in
    let flat : length (flat_map (own_values axis) layouts) ≡ sum_by (own_count axis) layouts =
    length-flat_map (own_values axis) layouts in
    let before = before_counted axis tech masters layouts (length masters) laid (omega arith) in
    let end = base_end axis masters in
    omega arith

-- each has the value of the master's own variable
pub system_at : (axis : Axis) (tech : Tech) (masters : List Master) (layouts : List Coords) (m v : ℕ)
    → AreLaidOut tech masters layouts → m < length masters
    → v < variables_of axis (master_at masters m).cell
    → value_of (system_values axis layouts) (var_of axis masters m v) ≡ value_in axis layouts m v
system_at axis tech masters layouts m zero laid lt own = sym ((laid.each m lt).of_master.origin axis)
system_at axis tech masters layouts m (suc v) laid lt own =
    let counted = laid.counted in
    let values : List ℤ = values_along axis (layout_at layouts m) in
    let before = before_counted axis tech masters layouts m laid (omega arith) in
    let flat : length (flat_map (own_values axis) (take m layouts)) ≡ sum_by (own_count axis) (take m layouts) =
    length-flat_map (own_values axis) (take m layouts) in
    let at : base_of axis masters m + v ≡ suc (length (flat_map (own_values axis) (take m layouts)) + v) =
    omega arith in
    let count = own_counted axis tech masters layouts m laid lt in
    let piece = get_or-flat_map (own_values axis) layouts m v no_layout (pos 0) (omega arith) (omega arith) in
    let next : 1 + v ≡ suc v = omega arith in
    ap (value_of (system_values axis layouts)) at
    ∙ (piece ∙ (get_or_after_one values v (pos 0) ∙ ap (value_of values) next))

-- none is below the origin's
pub system_above : (axis : Axis) (tech : Tech) (masters : List Master) (layouts : List Coords) (u : ℕ)
    → VariablesAreJoined masters → AreLaidOut tech masters layouts
    → u < system_variables axis masters → pos 0 ≤ℤ value_of (system_values axis layouts) u
system_above axis tech masters layouts u variables laid lt =
    let A : ℤ → Type 0 = λ z. pos 0 ≤ℤ z in
    let V : ℕ → Type 0 = λ k. A (value_of (system_values axis layouts) k) in
    elim (variables.covered axis u lt) [
      | inl origin ↦ subst V (sym origin) (omega arith)
      | inr o ↦
          let each = (laid.each o.master o.among).of_master in
          let count = each.counted axis in
          let own = o.own in
          subst V (sym o.is)
          (subst A (sym (system_at axis tech masters layouts o.master o.local laid o.among o.own))
          (each.values_above axis o.local (pos 0) (omega arith)))
    ]

-- ---- the part of a master

pub local_length : (axis : Axis) (masters : List Master) (m : ℕ) (x : List ℤ)
    → length (local_values axis masters m x) ≡ variables_of axis (master_at masters m).cell
local_length axis masters m x =
    length-map-range_with_len (local_of axis masters m (value_of x)) 0 (variables_of axis (master_at masters m).cell)

pub local_at : (axis : Axis) (masters : List Master) (m v : ℕ) (x : List ℤ)
    → v < variables_of axis (master_at masters m).cell
    → value_of (local_values axis masters m x) v ≡ value_of x (var_of axis masters m v)
local_at axis masters m v x lt =
    let e : 0 + v ≡ v = omega arith in
    get_or-map-range_with_len (local_of axis masters m (value_of x)) 0 (variables_of axis (master_at masters m).cell)
    v v (pos 0) lt e

-- the layout of a master with values on an axis
pub layout_with : (axis : Axis) (masters : List Master) (before : List Coords) (x : List ℤ) (m : ℕ)
    → m < length masters → layout_at (with_values axis masters before x) m ≡ with_values_at axis masters before x m
layout_with axis masters before x m lt =
    let e : 0 + m ≡ m = omega arith in
    get_or-map-range_with_len (with_values_at axis masters before x) 0 (length masters) m m no_layout lt e

pub layouts_counted : (axis : Axis) (masters : List Master) (before : List Coords) (x : List ℤ)
    → length (with_values axis masters before x) ≡ length masters
layouts_counted axis masters before x =
    length-map-range_with_len (with_values_at axis masters before x) 0 (length masters)

-- ---- what the code has of them

-- the first value, and a slice of those from the base on
part_is : (x : List ℤ) (base vars n : ℕ) (first : ℤ) → 1 ≤ vars → base + vars ≤ length x + 1 → n ≡ vars - 1
    → first ≡ value_of x 0
    → (first ∷ []) ++ take n (drop base x) ≡ map (part_from base x) (range_with_len 0 vars)
part_is x base vars n first some within n_is is =
    let part : List ℤ = first ∷ take n (drop base x) in
    let value : ℕ → ℤ = part_from base x in
    let rest = length-drop base x in
    let taken = length-take-le n (drop base x) (omega arith) in
    let counted = length-map-range_with_len value 0 vars in
    ext_get_or (pos 0) part (map value (range_with_len 0 vars)) (omega arith) (λ k lt.
    let e : 0 + k ≡ k = omega arith in
    part_at k (omega arith) ∙ sym (get_or-map-range_with_len value 0 vars k k (pos 0) (omega arith) e))
  where
    part_at : (k : ℕ) → k < suc n → get_or (first ∷ take n (drop base x)) k (pos 0) ≡ part_from base x k
    part_at zero lt = is
    part_at (suc k) lt = get_or-take n (drop base x) k (pos 0) (omega arith) ∙ get_or-drop base x k (pos 0)

pub part_built : (x : List ℤ) (base vars n : ℕ) (none first all : List ℤ) → 1 ≤ vars → 1 ≤ length x
    → base + vars ≤ length x + 1 → n ≡ vars - 1
    → none ≡ [] → first ≡ none ++ take 1 x → all ≡ first ++ take n (drop base x)
    → all ≡ map (part_from base x) (range_with_len 0 vars)
part_built [] base vars n none first all some origin within n_is empty begins ends = absurd (omega arith)
part_built (z ∷ zs) base vars n none first all some origin within n_is empty begins ends =
    rw (ends, begins, empty) (part_is (z ∷ zs) base vars n z some within n_is refl)

-- the part of a master, and the layout with it
pub part_own : (axis : Axis) (base vars : ℕ) (master : Master) (x read values : List ℤ)
    → vars ≡ variables_of axis master.cell → read ≡ x → values ≡ map (part_from base read) (range_with_len 0 vars)
    → values ≡ own_part axis base master x
part_own axis base vars master x read values v is are = rw (is, v) at are

pub part_moved : (axis : Axis) (masters : List Master) (before : List Coords) (x : List ℤ) (m base : ℕ)
    (master : Master) (layout moved_layout : Coords) → master ≡ master_at masters m → layout ≡ layout_at before m
    → base ≡ base_of axis masters m → moved_layout ≡ moved axis layout (own_part axis base master x)
    → moved_layout ≡ with_values_at axis masters before x m
part_moved axis masters before x m base master layout moved_layout is at b are = rw (b, at, is) at are
