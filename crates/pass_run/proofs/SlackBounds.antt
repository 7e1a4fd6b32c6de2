-- How far the values of a pass lie from the origin: none is below it, the far borders are no farther than the walks
-- to them are long, and no other value is much farther than the far border of its master. So it is with every
-- solution of the pass' system that has the same far borders.
use Rattle.std.proofs.Common.{◌≡◌, ℕ, suc, ◌+◌, ◌*◌, ◌<◌, ◌≤◌, ◌^◌, ℤ, pos, ◌+ℤ◌, ◌≤ℤ◌, List, [], ◌∷◌, length, get_or}
use Rattle.std.proofs.{Common.{map, inl, inr, refl, sym, ap, ◌∙◌, subst, arith}, Math.Nat.{mul-zero, mul-suc}}
use Rattle.std.proofs.lemmas.{Int.ints, Bool.{cases_eq, eqb-true, Decides.Decides-eqb}, List.get_or_default}
use Rattle.std.proofs.lemmas.List.{length-map, Elements.{All-append, All-cons, All-contains, All-from_get_or, All-map}}
use Rattle.std.proofs.lemmas.{List.Elements.{All-tail, All-weaker}, Map.Made.IsDistinct-from_AllPairs}
use Rattle.std.proofs.lemmas.Map.{Steps.length-le_from_distinct_below, Views.Contains-from_any}
use Rattle.std.specs.{Prelude.Contains, List.{All, Any, flat_map}}
use Rattle.lam_geom.specs.{declared.boxes.Axis.Axis, Places.IsPlace}
use Rattle.rule_table.specs.{declared.technology.Tech.Tech, Technology.{numbers_of, margin_of}}
use Rattle.rule_table.proofs.Margins.{margin_low}
use Rattle.cons_graph.specs.{declared.edges.{Edge.Edge, Why.TheVariants.{Margin, Size}}, Constraints.IsEdgeAmong}
use Rattle.cons_graph.specs.{EdgeNumbers.edge_at, SimpleWalks.{heads_of, length_of, HasNoRepeat}, Solutions.IsSolution}
use Rattle.cons_graph.specs.Solutions.{Meets, value_of}
use Rattle.sym_items.specs.{declared.items.{Item.Item, Coords.Coords}, Extents.IsLongUnder, Layouts.layout_at}
use Rattle.sym_items.specs.{Transposed.item_along, Values.end_under}
use Rattle.expand.specs.{declared.master.Master.Master, Bounds.LiesAlong, Laws.MeetsStructure, Masters.IsMaster}
use Rattle.expand.specs.{Structure.between, Variables.{at_origin, at_far_border, variables_of}}
use Rattle.expand.proofs.{Among.items_lie, Between.between_means, Reached.{BeginsBefore, items_begin}}
use Rattle.expand.proofs.Standing.{KeepsMargins, parts_of, stands}
use Rattle.list_facts.proofs.Elements.{all_parts}
use Rattle.pair_rules.specs.{declared.pairs.Pair.Pair, Bound.no_item, Kept.kept_of}
use Rattle.plan_model.specs.declared.plan.Plan.{Plan}
use Rattle.pitch_join.specs.{Masters.{ArePlanned, master_at, master_numbers, no_master}, Joined.{base_of, bases_of}}
use Rattle.pitch_join.specs.Joined.{candidate_edges_at, far_of, fixed_of, system_variables, kept_edges_at}
use Rattle.pitch_join.specs.Joined.{pruned_system, local_of, shifted, space_edge, full_system}
use Rattle.pitch_join.proofs.{Bases.{bases_counted, system_few, own_of, planned_few, var_within}, Listed.far_is}
use Rattle.pitch_join.proofs.{Lists.{of_both, of_numbered}, Shape.fixed_shape, Solving.joining_meets}
use Rattle.pass_run.specs.{declared.step.Step.Step, Passes.IsLeastPass, Report.walk_at, Slack.IsMostAfter}
use Rattle.pass_run.{specs.Theorems.HasCriticalPath, proofs.Pairs.{kept_pairs_among, kept_spaced}}

-- ---- within a master

-- an item begins at or below the far border, or a little past it
item_within : (axis : Axis) (tech : Tech) (v : ℕ) (x : ℕ → ℤ) (master : Master) (i : Item)
    → LiesAlong axis master.cell i → BeginsBefore axis v i → IsLongUnder axis x i → KeepsMargins axis tech x i
    → x v ≤ℤ (x 1 +ℤ pos (2 ^ 14))
item_within axis tech v x master i lies begins long keeps =
    let m : ℤ = margin_of tech (item_along axis i).class in
    let not_below : pos 0 ≤ℤ m = margin_low (numbers_of tech) (item_along axis i).class in
    let on : x (item_along axis i).xl.var ≡ x v = ap x begins.on in
    let low = lies.low_among.near.low in
    let least = lies.small.low in
    elim (cases_eq (item_along axis i).xh.var 1) [
      | inl far ↦
          let at_far : x (item_along axis i).xh.var ≡ x 1 = ap x far in
          let off = lies.at_far_border far in
          omega (arith, ints, on, low, least, long, at_far, off)
      | inr before ↦
          let high =
          (all_parts (Meets x) (between at_origin (item_along axis i).xl m Margin)
          (between (item_along axis i).xh at_far_border m Margin) keeps).1 in
          let h : (end_under x (item_along axis i).xh +ℤ m) ≤ℤ (x 1 +ℤ pos 0) =
          (between_means (item_along axis i).xh at_far_border m Margin x).0 high before in
          omega (arith, ints, on, low, least, long, h, not_below)
    ]

-- values that meet the structure of a master lie at or above the origin, and not far past the far border
own_within : (axis : Axis) (tech : Tech) (master : Master) (x : ℕ → ℤ) (v : ℕ) → IsMaster tech master
    → MeetsStructure axis tech master x → v < variables_of axis master.cell
    → (pos 0 ≤ℤ x v) × (x v ≤ℤ (x 1 +ℤ pos (2 ^ 14)))
own_within axis tech master x v m met lt =
    let stand = stands axis tech master x m met in
    let above = stand.values_above v lt in
    let far = stand.values_above 1 (omega arith) in
    let origin = met.origin in
    let S : List Item → Type 0 = Any (BeginsBefore axis v) in
    elim (cases_eq v 0) [
      | inl first ↦ let same : x v ≡ x 0 = ap x first in (above, omega (arith, ints, same, origin, far))
      | inr after ↦ elim (cases_eq v 1) [
        | inl second ↦ let same : x v ≡ x 1 = ap x second in (above, omega (arith, ints, same))
        | inr more ↦
            let some = subst S (sym (ap (λ i. i.list) m.items.are))
            (items_begin axis tech master.cell m.items.nets v m.sound (omega (arith, after, more)) lt) in
            let parts = parts_of axis tech master.cell x master.items.list met.meets in
            let lies = subst (LiesAlong axis master.cell) some.3
            (items_lie tech master.cell master.items m.sound m.items axis some.0 some.1 some.2) in
            let long = subst (IsLongUnder axis x) some.3 (stand.long some.0 some.1 some.2) in
            let keeps = subst (KeepsMargins axis tech x) some.3 (parts.margins some.0 some.1 some.2) in
            (above, item_within axis tech v x master some.1 lies some.4 long keeps)
      ]
    ]

-- ---- the joint variables

-- every far border is at most so far
abbrev FarAtMost : Axis → List Master → (ℕ → ℤ) → ℤ → Type 0
FarAtMost axis masters x most = (m : ℕ) → m < length masters → x (far_of axis masters m) ≤ℤ most

abbrev IsBetween : ℤ → ℤ → Type 0
IsBetween most z = (pos 0 ≤ℤ z) × (z ≤ℤ (most +ℤ pos (2 ^ 14)))

solution_within : (axis : Axis) (tech : Tech) (plan : Plan) (masters : List Master) (layouts : List Coords)
    (x : ℕ → ℤ) (most : ℤ) (u : ℕ) → ArePlanned tech plan masters
    → IsSolution (full_system axis tech plan masters layouts) x → FarAtMost axis masters x most → pos 0 ≤ℤ most
    → u < system_variables axis masters → IsBetween most (x u)
solution_within axis tech plan masters layouts x most u planned solves far from lt =
    let meets =
    ((of_both (Meets x) (fixed_of axis tech plan masters)
    (flat_map (candidate_edges_at axis tech masters layouts) (master_numbers masters))).0 solves.meets).0 in
    let met = ((joining_meets tech plan masters).of_fixed axis x).0
    (record { origin = solves.origin; meets = meets }) in
    let origin = solves.origin in
    elim (cases_eq u 0) [
      | inl first ↦ let same : x u ≡ x 0 =
          ap x first in (omega (arith, ints, same, origin), omega (arith, ints, same, origin, from))
      | inr after ↦
          let o = own_of axis masters u (omega (arith, after)) lt in
          let among = o.among in
          let own = o.own in
          let same : x u ≡ x (base_of axis masters o.master + o.number) = ap x o.is in
          let h = own_within axis tech (master_at masters o.master) (local_of axis masters o.master x) (suc o.number)
          (planned.each o.master no_master among) (met.structures o.master among) (omega (arith, own)) in
          let above : pos 0 ≤ℤ x (base_of axis masters o.master + o.number) = h.0 in
          let below : x (base_of axis masters o.master + o.number) ≤ℤ
          (x (far_of axis masters o.master) +ℤ pos (2 ^ 14)) = h.1 in
          let border = far o.master among in
          (omega (arith, ints, same, above), omega (arith, ints, same, below, border))
    ]

-- ---- the far borders

-- an inequality leads to one of so many variables, and is short
pub record IsFit (vars : ℕ) (e : Edge) : Type 0 where
  pub among : e.to < vars
  pub short : e.len ≤ℤ pos (2 ^ 21)

-- the inequalities of the kept pairs of a master
own_fit : (axis : Axis) (tech : Tech) (masters : List Master) (layouts : List Coords) (m : ℕ)
    → IsMaster tech (master_at masters m) → m < length masters
    → All (IsFit (system_variables axis masters)) (kept_edges_at axis tech masters layouts m)
own_fit axis tech masters layouts m is lt =
    let master : Master = master_at masters m in
    let base : ℕ = base_of axis masters m in
    let items : List Item = master.items.list in
    let pairs : List Pair = kept_of axis tech (layout_at layouts m) items in
    let F : Edge → Type 0 = IsFit (system_variables axis masters) in
    let S : Edge → Type 0 = λ e. F (shifted base e) in
    let lie = items_lie tech master.cell master.items is.sound is.items axis in
    All-map F (shifted base) (map (space_edge axis items) pairs)
    (All-map S (space_edge axis items) pairs (λ k d k_lt.
    let p : Pair = get_or pairs k d in
    let two = kept_pairs_among axis tech (layout_at layouts m) items k d k_lt in
    let spaced = (kept_spaced axis tech (layout_at layouts m) items k d k_lt).1 in
    let head = (lie p.j no_item two.1).low_among in
    let low = head.near.low in
    let high = (lie p.i no_item two.0).high_among.near.high in
    record {
      among = var_within axis masters m (item_along axis (get_or items p.j no_item)).xl.var lt head.among;
      short = omega (arith, ints, spaced, low, high);
    }))

-- and all that are listed
list_fit : (axis : Axis) (tech : Tech) (plan : Plan) (masters : List Master) (layouts : List Coords)
    → ArePlanned tech plan masters
    → All (IsFit (system_variables axis masters)) (pruned_system axis tech plan masters layouts)
list_fit axis tech plan masters layouts planned =
    let vars : ℕ = system_variables axis masters in
    let fixed : List Edge = fixed_of axis tech plan masters in
    All-append (IsFit vars) fixed (flat_map (kept_edges_at axis tech masters layouts) (master_numbers masters))
    (All-weaker (IsEdgeAmong vars) (IsFit vars) (λ e h. record { among = h.to_in_range; short = h.length_high }) fixed
    (fixed_shape axis tech plan masters planned).edges_among)
    ((of_numbered (IsFit vars) (kept_edges_at axis tech masters layouts) (length masters)).1
    (λ m lt. own_fit axis tech masters layouts m (planned.each m no_master lt) lt))

-- a walk of inequalities that are at most so long is not longer than they are many
walk_long : (most : ℕ) (edges : List Edge) (walk : List ℕ) → All (λ (e : Edge). e.len ≤ℤ pos most) edges
    → All (λ k. k < length edges) walk → length_of edges walk ≤ℤ pos (most * length walk)
walk_long most edges [] short in_range = omega (arith, ints, mul-zero most)
walk_long most edges (k ∷ ks) short in_range =
    let R : ℕ → Type 0 = λ i. i < length edges in
    let first : (edge_at edges k).len ≤ℤ pos most =
    short k (record { from = 0; to = 0; len = pos 0; why = Size }) (in_range 0 0 (omega arith)) in
    let rest = walk_long most edges ks short (All-tail R k ks in_range) in
    let sum : length_of edges (k ∷ ks) ≡ (edge_at edges k).len +ℤ length_of edges ks = refl in
    omega (arith, ints, first, rest, sum, mul-suc most (length ks))

-- and these are few where it meets no variable twice
walk_few : (vars : ℕ) (edges : List Edge) (walk : List ℕ) → 1 ≤ vars → All (IsFit vars) edges
    → All (λ k. k < length edges) walk → HasNoRepeat (0 ∷ heads_of edges walk) → length walk ≤ vars
walk_few vars edges walk from fit in_range once =
    let head : ℕ → ℕ = λ k. (edge_at edges k).to in
    let all : List ℕ = 0 ∷ heads_of edges walk in
    let B : ℕ → Type 0 = λ v. v < vars in
    let below : All B all = All-cons B 0 (heads_of edges walk) (omega (arith, from))
    (All-map B head walk
    (λ i d lt.
    (fit (get_or walk i d) (record { from = 0; to = 0; len = pos 0; why = Size }) (in_range i d lt)).among)) in
    let few = length-le_from_distinct_below all vars (IsDistinct-from_AllPairs Decides-eqb all once)
    (λ q t. All-contains B all q below (Contains-from_any eqb-true q all t)) in
    let counted : length (heads_of edges walk) ≡ length walk = length-map walk head in
    omega (arith, few, counted)

-- a far border is no farther than the walk to it is long, which has at most an inequality for each variable
pub size_under : (most : ℕ) (tech : Tech) (plan : Plan) (masters : List Master) (before : List Coords) (step : Step)
    (m : ℕ) → ArePlanned tech plan masters → HasCriticalPath tech plan masters before step m
    → All (λ (e : Edge). e.len ≤ℤ pos most) (pruned_system step.axis tech plan masters before)
    → (n : ℕ) × (n ≤ system_variables step.axis masters)
    × (value_of step.x (far_of step.axis masters m) ≤ℤ pos (most * n))
size_under most tech plan masters before step m planned path short =
    let edges : List Edge = pruned_system step.axis tech plan masters before in
    let walk : List ℕ = (walk_at step m).edges in
    let in_range = path.passes.in_range in
    let few = walk_few (system_variables step.axis masters) edges walk (omega arith)
    (list_fit step.axis tech plan masters before planned) in_range path.simple in
    let long : length_of edges walk ≤ℤ pos (most * length walk) = walk_long most edges walk short in_range in
    (length walk, few, subst (λ z. z ≤ℤ pos (most * length walk)) path.as_long long)

size_within : (tech : Tech) (plan : Plan) (masters : List Master) (before : List Coords) (step : Step) (m : ℕ)
    → ArePlanned tech plan masters → HasCriticalPath tech plan masters before step m
    → value_of step.x (far_of step.axis masters m) ≤ℤ pos (2 ^ 38)
size_within tech plan masters before step m planned path =
    let F : Edge → Type 0 = IsFit (system_variables step.axis masters) in
    let short = All-weaker F (λ e. e.len ≤ℤ pos (2 ^ 21)) (λ e h. h.short)
    (pruned_system step.axis tech plan masters before) (list_fit step.axis tech plan masters before planned) in
    let few = system_few step.axis masters (planned_few tech plan masters planned) planned.few_parts in
    let size = size_under (2 ^ 21) tech plan masters before step m planned path short in
    let walk = size.1 in
    let long = size.2 in
    omega (arith, ints, few, walk, long)

-- ---- all values of a pass

place_between : (z : ℤ) → IsBetween (pos (2 ^ 38)) z → IsPlace z
place_between z h = let low = h.0 in let high = h.1 in (omega (arith, ints, low), omega (arith, ints, high))

far_among : (axis : Axis) (masters : List Master) (m : ℕ) → m < length masters
    → Contains (bases_of axis masters) (far_of axis masters m)
far_among axis masters m lt =
    let all : List ℕ = bases_of axis masters in
    let count = bases_counted axis masters all refl in
    let among : m < length all = omega (arith, count, lt) in
    (m, among, get_or_default all m (far_of axis masters m) 0 among ∙ far_is axis masters all m refl lt)

abbrev HasPaths : Tech → Plan → List Master → List Coords → Step → Type 0
HasPaths tech plan masters before step = (m : ℕ) → m < length masters → HasCriticalPath tech plan masters before step m

-- the values of some solution with far borders that a pass has found
places_of : (tech : Tech) (plan : Plan) (masters : List Master) (before : List Coords) (step : Step) (values : List ℤ)
    → ArePlanned tech plan masters → HasPaths tech plan masters before step
    → length values ≡ system_variables step.axis masters
    → IsSolution (full_system step.axis tech plan masters before) (value_of values)
    → ((m : ℕ) → m < length masters
    → value_of values (far_of step.axis masters m) ≡ value_of step.x
    (far_of step.axis masters m)) → All IsPlace values
places_of tech plan masters before step values planned paths counted solves same =
    let far : FarAtMost step.axis masters (value_of values) (pos (2 ^ 38)) = λ m lt.
    let here = same m lt in
    let size = size_within tech plan masters before step m planned (paths m lt) in
    omega (arith, ints, here, size) in
    All-from_get_or IsPlace values (pos 0) (λ u lt.
    place_between (value_of values u)
    (solution_within step.axis tech plan masters before (value_of values) (pos (2 ^ 38)) u planned solves far
    (omega (arith, ints)) (omega (arith, lt, counted))))

pub least_places : (tech : Tech) (plan : Plan) (masters : List Master) (before : List Coords) (step : Step)
    → ArePlanned tech plan masters → HasPaths tech plan masters before step
    → IsLeastPass tech plan masters before step → All IsPlace step.x
least_places tech plan masters before step planned paths least =
    places_of tech plan masters before step step.x planned paths least.one_each least.least.solves (λ m lt. refl)

pub most_places : (tech : Tech) (plan : Plan) (masters : List Master) (before : List Coords) (step : Step)
    (values : List ℤ) → ArePlanned tech plan masters → HasPaths tech plan masters before step
    → IsMostAfter tech plan masters before step values → All IsPlace values
most_places tech plan masters before step values planned paths most =
    let held = most.most.is_held in
    places_of tech plan masters before step values planned paths most.one_each held.solves
    (λ m lt. held.held (far_of step.axis masters m) (far_among step.axis masters m lt))
