-- The inequalities of borders and ports, as the lists of bases and cross coordinates give them.
use Rattle.std.proofs.Common.{◌≡◌, ℕ, ◌+◌, ◌<◌, ◌≤◌, List, [], ◌++◌, length, sym, ap, ◌∙◌, subst, arith, append_assoc}
use Rattle.std.proofs.lemmas.List.Elements.{All-weaker, recursion_from_All}
use Rattle.std.specs.{Prelude.{◌^◌, slice_index, slice_index_or}, List.{All, flat_map}}
use Rattle.lam_geom.specs.declared.boxes.Axis.{Axis}
use Rattle.rule_table.specs.declared.technology.Tech.{Tech}
use Rattle.cons_graph.specs.declared.edges.{Edge.Edge, Why.TheVariants.Pitch}
use Rattle.cell_model.specs.declared.cell.Cell.{Cell}
use Rattle.expand.specs.{declared.master.Master.Master, Masters.IsMaster, Variables.cross_of}
use Rattle.plan_model.specs.{declared.plan.{Match.Match, Plan.Plan, Same.Same}, Plan.{IsPlanOver, matches_in, pitch_in}}
use Rattle.pitch_join.specs.{Masters.{master_at, ports_of_masters}, Among.{AreAllCrosses, IsCrossWire, IsListedMatch}}
use Rattle.pitch_join.specs.Among.{IsListedWire, IsMatchAmong, IsSameAmong, listed_pitch, listed_ports, listed_wire}
use Rattle.pitch_join.specs.Joined.{base_of, bases_of, equal_edges, far_of, fixed_of, joined, system_variables}
use Rattle.pitch_join.specs.Joined.{pitch_edges, pitches_of, port_edges, ports_of, structures_of, tied_edges, wire_var}
use Rattle.pitch_join.proofs.{Bases.{base_at, base_within, bases_counted, few_of_plan, system_small}, Lists.flat_same}
use Rattle.pitch_join.proofs.{Planned.{matches_of_plan, pitch_of_plan}, Shape.cross_own}

-- ---- borders

pub pitch_listed : (axis : Axis) (plan : Plan) (masters : List Master) (bases : List ℕ) (pairs : List Same)
    → IsPlanOver (ports_of_masters masters) plan → bases ≡ bases_of axis masters → pairs ≡ pitch_in axis plan
    → All (IsSameAmong (length bases)) pairs
pitch_listed axis plan masters bases pairs planned e is =
    let N : ℕ → Type 0 = λ n. All (IsSameAmong n) pairs in
    let S : List Same → Type 0 = All (IsSameAmong (length masters)) in
    subst N (sym (bases_counted axis masters bases e)) (subst S (sym is) (pitch_of_plan axis plan masters planned))

pub far_is : (axis : Axis) (masters : List Master) (bases : List ℕ) (m : ℕ) → bases ≡ bases_of axis masters
    → m < length masters → slice_index bases m ≡ far_of axis masters m
far_is axis masters bases m e lt =
    let at = base_at axis masters bases m e lt in
    let add : base_of axis masters m ≡ base_of axis masters m + 0 = omega arith in
    at ∙ add

pitch_is : (axis : Axis) (masters : List Master) (bases : List ℕ) (same : Same) → bases ≡ bases_of axis masters
    → IsSameAmong (length masters) same → listed_pitch bases same ≡ pitch_edges axis masters same
pitch_is axis masters bases same e h =
    ap (λ a. equal_edges a (slice_index bases same.b) Pitch) (far_is axis masters bases same.a e h.a)
    ∙ ap (λ b. equal_edges (far_of axis masters same.a) b Pitch) (far_is axis masters bases same.b e h.b)

pub pitches_are : (axis : Axis) (plan : Plan) (masters : List Master) (bases : List ℕ) (pairs : List Same)
    → IsPlanOver (ports_of_masters masters) plan → bases ≡ bases_of axis masters → pairs ≡ pitch_in axis plan
    → flat_map (listed_pitch bases) pairs ≡ pitches_of axis plan masters
pitches_are axis plan masters bases pairs planned e is =
    let S : Same → Type 0 = λ same. listed_pitch bases same ≡ pitch_edges axis masters same in
    ap (λ ps. flat_map (listed_pitch bases) ps) is
    ∙ flat_same (listed_pitch bases) (pitch_edges axis masters) (pitch_in axis plan)
    (recursion_from_All S (pitch_in axis plan)
    (All-weaker (IsSameAmong (length masters)) S (λ same h. pitch_is axis masters bases same e h)
    (pitch_in axis plan) (pitch_of_plan axis plan masters planned)))

-- ---- ports

cross_at : (axis : Axis) (masters : List Master) (crosses : List (List ℕ)) (m wire : ℕ)
    → AreAllCrosses masters crosses → IsCrossWire axis masters m wire
    → slice_index (slice_index_or crosses m []) wire ≡ cross_of (master_at masters m).cell wire
cross_at axis masters crosses m wire all h = (all.each m h.master).each wire h.wire_among

wire_listed : (axis : Axis) (masters : List Master) (bases : List ℕ) (crosses : List (List ℕ)) (m wire : ℕ)
    → system_variables axis masters ≤ 2 ^ 25 → bases ≡ bases_of axis masters → AreAllCrosses masters crosses
    → IsCrossWire axis masters m wire → IsListedWire bases crosses m wire
wire_listed axis masters bases crosses m wire small e all h =
    let cell : Cell = (master_at masters m).cell in
    let lt = h.master in
    let among = h.wire_among in
    let n = bases_counted axis masters bases e in
    let k = all.counted in
    let own = (all.each m h.master).counted in
    let base = base_at axis masters bases m e h.master in
    let cross = cross_at axis masters crosses m wire all h in
    let below = cross_own axis masters m wire h in
    let within = base_within axis masters m h.master in
    record { based = omega arith; crossed = omega arith; wire_among = omega arith; small = omega arith }

wire_is : (axis : Axis) (masters : List Master) (bases : List ℕ) (crosses : List (List ℕ)) (m wire : ℕ)
    → bases ≡ bases_of axis masters → AreAllCrosses masters crosses → IsCrossWire axis masters m wire
    → listed_wire bases crosses m wire ≡ wire_var axis masters m wire
wire_is axis masters bases crosses m wire e all h =
    ap (λ b. joined b (slice_index (slice_index_or crosses m []) wire)) (base_at axis masters bases m e h.master)
    ∙ ap (joined (base_of axis masters m)) (cross_at axis masters crosses m wire all h)

ports_is : (axis : Axis) (masters : List Master) (bases : List ℕ) (crosses : List (List ℕ)) (met : Match)
    → bases ≡ bases_of axis masters → AreAllCrosses masters crosses → IsMatchAmong axis masters met
    → listed_ports bases crosses met ≡ port_edges axis masters met
ports_is axis masters bases crosses met e all h =
    ap (λ a. tied_edges a (listed_wire bases crosses met.b met.b_wire))
    (wire_is axis masters bases crosses met.a met.a_wire e all h.a)
    ∙ ap (tied_edges (wire_var axis masters met.a met.a_wire))
    (wire_is axis masters bases crosses met.b met.b_wire e all h.b)

pub ports_listed : (axis : Axis) (tech : Tech) (plan : Plan) (masters : List Master) (bases : List ℕ)
    (crosses : List (List ℕ)) (matches : List Match) → All (IsMaster tech) masters
    → IsPlanOver (ports_of_masters masters) plan → bases ≡ bases_of axis masters
    → AreAllCrosses masters crosses → matches ≡ matches_in axis plan → All (IsListedMatch bases crosses) matches
ports_listed axis tech plan masters bases crosses matches each planned e all is =
    let small = system_small axis tech masters each (few_of_plan plan masters planned) in
    let P : List Match → Type 0 = All (IsListedMatch bases crosses) in
    subst P (sym is) (All-weaker (IsMatchAmong axis masters) (IsListedMatch bases crosses)
    (λ met h.
    record {
      a = wire_listed axis masters bases crosses met.a met.a_wire small e all h.a;
      b = wire_listed axis masters bases crosses met.b met.b_wire small e all h.b;
    })
    (matches_in axis plan) (matches_of_plan axis tech plan masters each planned))

pub ports_are : (axis : Axis) (tech : Tech) (plan : Plan) (masters : List Master) (bases : List ℕ)
    (crosses : List (List ℕ)) (matches : List Match) → All (IsMaster tech) masters
    → IsPlanOver (ports_of_masters masters) plan → bases ≡ bases_of axis masters
    → AreAllCrosses masters crosses → matches ≡ matches_in axis plan
    → flat_map (listed_ports bases crosses) matches ≡ ports_of axis plan masters
ports_are axis tech plan masters bases crosses matches each planned e all is =
    let M : Match → Type 0 = λ met. listed_ports bases crosses met ≡ port_edges axis masters met in
    ap (λ ms. flat_map (listed_ports bases crosses) ms) is
    ∙ flat_same (listed_ports bases crosses) (port_edges axis masters) (matches_in axis plan)
    (recursion_from_All M (matches_in axis plan)
    (All-weaker (IsMatchAmong axis masters) M (λ met h. ports_is axis masters bases crosses met e all h)
    (matches_in axis plan) (matches_of_plan axis tech plan masters each planned)))

-- ---- the three parts, one after the other

pub fixed_pushed : (axis : Axis) (tech : Tech) (plan : Plan) (masters : List Master)
    (pitches ports none first second third : List Edge) → pitches ≡ pitches_of axis plan masters
    → ports ≡ ports_of axis plan masters
    → none ≡ [] → first ≡ none ++ structures_of axis tech masters → second ≡ first ++ pitches
    → third ≡ second ++ ports → third ≡ fixed_of axis tech plan masters
unfolding fixed_of
fixed_pushed axis tech plan masters pitches ports none first second third p q e0 e1 e2 e3 =
    let s : List Edge = structures_of axis tech masters in
    let begun : first ≡ s = e1 ∙ ap (λ es. es ++ s) e0 in
    let more : second ≡ s ++ pitches_of axis plan masters = e2
    ∙ (ap (λ es. es ++ pitches) begun ∙ ap (λ es. s ++ es) p) in
    e3 ∙ (ap (λ es. es ++ ports) more
    ∙ (ap (λ es. (s ++ pitches_of axis plan masters) ++ es) q
    ∙ append_assoc s (pitches_of axis plan masters) (ports_of axis plan masters)))
