-- What masters without their limits have in common with the masters, and the list of a pass over them.
use Rattle.std.proofs.Common.{◌≡◌, ℕ, zero, suc, ◌+◌, ◌≤◌, List, [], ◌∷◌, ◌++◌, length, map, take, refl, sym, ap, ◌∙◌}
use Rattle.std.proofs.{Common.{subst, arith, ◌↔◌, All, flat_map, sum_by}, lemmas.List.{length-append, length-map}}
use Rattle.std.proofs.lemmas.List.{map-append, take-map, Elements.{All-weaker, All-map}, Sums.sum_by-cons}
use Rattle.std.specs.List.{range_with_len}
use Rattle.lam_geom.specs.declared.boxes.Axis.{Axis}
use Rattle.rule_table.specs.declared.technology.Tech.{Tech}
use Rattle.cons_graph.specs.{Constraints.IsEdgeAmong, declared.edges.{Edge.Edge, Why.TheVariants.Pitch}}
use Rattle.sym_items.specs.{declared.items.Coords.Coords, Layouts.layout_at}
use Rattle.cell_model.specs.declared.cell.CellPort.{CellPort}
use Rattle.expand.specs.{declared.master.Master.Master, Masters.IsMaster, Structure.{structure_of, limits_of}}
use Rattle.expand.specs.Variables.{cross_of}
use Rattle.pair_rules.specs.Kept.{kept_of}
use Rattle.plan_model.specs.{declared.plan.{Match.Match, Plan.Plan, Same.Same}, Plan.{pitch_in, matches_in, IsPlanOver}}
use Rattle.pitch_join.specs.Masters.{ArePlanned, master_at, master_numbers, parts_in, ports_of_masters}
use Rattle.pitch_join.specs.Joined.{base_of, bases_of, equal_edges, fixed_of, joined, system_variables, kept_edges_at}
use Rattle.pitch_join.specs.Joined.{pruned_system, own_variables, pitches_of, port_edges, ports_of, shifted, space_edge}
use Rattle.pitch_join.specs.Joined.{structure_at, structures_of, tied_edges}
use Rattle.pitch_join.proofs.{Lists.{of_both, of_numbered}, Shape.fixed_shape}
use Rattle.first_pass.specs.{Bare.{bare, bare_of, AskAlike}, Limits.{limits_at, system_limits}}
use Rattle.first_pass.proofs.Cells.{master_kept, structure_kept}

-- ---- the plan of some masters

ports_kept : (masters : List Master) → ports_of_masters (bare_of masters) ≡ ports_of_masters masters
ports_kept [] = refl
ports_kept (m ∷ ms) = ap (λ (ps : List (List CellPort)). ports_of_masters (m ∷ []) ++ ps) (ports_kept ms)

fewer_parts : (masters : List Master) → sum_by parts_in (bare_of masters) ≤ sum_by parts_in masters
fewer_parts [] = omega arith
fewer_parts (m ∷ ms) =
    let a : sum_by parts_in (bare m ∷ bare_of ms) ≡ parts_in (bare m) + sum_by parts_in (bare_of ms) =
    sum_by-cons parts_in (bare m) (bare_of ms) in
    let b : sum_by parts_in (m ∷ ms) ≡ parts_in m + sum_by parts_in ms = sum_by-cons parts_in m ms in
    let rest = fewer_parts ms in
    omega arith

pub planned_kept : (tech : Tech) (plan : Plan) (masters : List Master) → ArePlanned tech plan masters
    → ArePlanned tech plan (bare_of masters)
planned_kept tech plan masters planned =
    let B : Master → Type 0 = λ m. IsMaster tech (bare m) in
    let few = planned.few_parts in
    let fewer = fewer_parts masters in
    record {
      each = All-map (IsMaster tech) bare masters
          (All-weaker (IsMaster tech) B (λ m h. master_kept tech m h) masters planned.each);
      few_parts = omega arith;
      planned = subst (λ (ps : List (List CellPort)). IsPlanOver ps plan) (sym (ports_kept masters)) planned.planned;
    }

-- ---- variables

at_kept : (masters : List Master) (m : ℕ) → master_at (bare_of masters) m ≡ bare (master_at masters m)
at_kept [] m = refl
at_kept (x ∷ xs) zero = refl
at_kept (x ∷ xs) (suc m) = at_kept xs m

own_kept : (axis : Axis) (masters : List Master)
    → sum_by (own_variables axis) (bare_of masters) ≡ sum_by (own_variables axis) masters
own_kept axis [] = refl
own_kept axis (m ∷ ms) =
    let a : sum_by (own_variables axis) (bare m ∷ bare_of ms) ≡ own_variables axis m + sum_by (own_variables axis)
    (bare_of ms) = sum_by-cons (own_variables axis) (bare m) (bare_of ms) in
    let b : sum_by (own_variables axis) (m ∷ ms) ≡ own_variables axis m + sum_by (own_variables axis) ms =
    sum_by-cons (own_variables axis) m ms in
    a ∙ (ap (λ n. own_variables axis m + n) (own_kept axis ms) ∙ sym b)

pub system_kept : (axis : Axis) (masters : List Master)
    → system_variables axis (bare_of masters) ≡ system_variables axis masters
system_kept axis masters = ap (λ n. 1 + n) (own_kept axis masters)

base_kept : (axis : Axis) (masters : List Master) (m : ℕ) → base_of axis (bare_of masters) m ≡ base_of axis masters m
base_kept axis masters m = ap (λ (xs : List Master). 1 + sum_by (own_variables axis) xs) (take-map bare m masters)
    ∙ ap (λ n. 1 + n) (own_kept axis (take m masters))

-- the same as functions
bases_same : (axis : Axis) (masters : List Master) → base_of axis (bare_of masters) ≡ base_of axis masters
bases_same axis masters = λ i. λ m. base_kept axis masters m i

at_same : (masters : List Master) → master_at (bare_of masters) ≡ (λ m. bare (master_at masters m))
at_same masters = λ i. λ m. at_kept masters m i

numbers_same : (masters : List Master) → master_numbers (bare_of masters) ≡ master_numbers masters
numbers_same masters = ap (range_with_len 0) (length-map masters bare)

pub bases_kept : (axis : Axis) (masters : List Master) → bases_of axis (bare_of masters) ≡ bases_of axis masters
bases_kept axis masters =
    ap (λ (f : ℕ → ℕ). map f (master_numbers (bare_of masters))) (bases_same axis masters)
    ∙ ap (λ (ns : List ℕ). map (base_of axis masters) ns) (numbers_same masters)

-- ---- inequalities of the plan and of kept pairs

pitches_kept : (axis : Axis) (plan : Plan) (masters : List Master)
    → pitches_of axis plan (bare_of masters) ≡ pitches_of axis plan masters
pitches_kept axis plan masters =
    ap (λ (base : ℕ → ℕ).
    flat_map (λ (same : Same). equal_edges (joined (base same.a) 1) (joined (base same.b) 1) Pitch)
    (pitch_in axis plan)) (bases_same axis masters)

match_ports_kept : (axis : Axis) (plan : Plan) (masters : List Master)
    → ports_of axis plan (bare_of masters) ≡ ports_of axis plan masters
match_ports_kept axis plan masters =
    let M : (ℕ → ℕ) → (ℕ → Master) → List Edge =
    λ base at.
    flat_map
    (λ (met : Match). tied_edges (joined (base met.a) (cross_of (at met.a).cell met.a_wire))
    (joined (base met.b) (cross_of (at met.b).cell met.b_wire))) (matches_in axis plan) in
    ap (λ (base : ℕ → ℕ). M base (master_at (bare_of masters))) (bases_same axis masters)
    ∙ ap (λ (at : ℕ → Master). M (base_of axis masters) at) (at_same masters)

pairs_kept : (axis : Axis) (tech : Tech) (masters : List Master) (layouts : List Coords)
    → flat_map (kept_edges_at axis tech (bare_of masters) layouts) (master_numbers (bare_of masters))
    ≡ flat_map (kept_edges_at axis tech masters layouts) (master_numbers masters)
pairs_kept axis tech masters layouts =
    let K : (ℕ → ℕ) → (ℕ → Master) → List ℕ → List Edge =
    λ base at ns.
    flat_map
    (λ m. map (shifted (base m))
    (map (space_edge axis (at m).items.list) (kept_of axis tech (layout_at layouts m) (at m).items.list))) ns in
    ap (λ (base : ℕ → ℕ). K base (master_at (bare_of masters)) (master_numbers (bare_of masters)))
    (bases_same axis masters)
    ∙ (ap (λ (at : ℕ → Master). K (base_of axis masters) at (master_numbers (bare_of masters))) (at_same masters)
    ∙ ap (λ (ns : List ℕ). K (base_of axis masters) (master_at masters) ns) (numbers_same masters))

-- ---- structures

-- the structure of a master is that without limits, and then its limits
structure_split : (axis : Axis) (tech : Tech) (masters : List Master) (m : ℕ)
    → structure_at axis tech masters m ≡ structure_at axis tech (bare_of masters) m ++ limits_at axis masters m
structure_split axis tech masters m =
    let own : Master = master_at masters m in
    let base : ℕ = base_of axis masters m in
    let limits : List Edge = limits_at axis masters m in
    let without : Master → List Edge = λ z. structure_of axis tech z.cell z.items.list in
    let bare_is : structure_at axis tech (bare_of masters) m ≡ map (shifted base) (without (bare own)) =
    ap (λ n. map (shifted n) (without (master_at (bare_of masters) m))) (base_kept axis masters m)
    ∙ ap (λ (z : Master). map (shifted base) (without z)) (at_kept masters m) in
    ap (map (shifted base)) (structure_kept axis tech own.cell own.items.list)
    ∙ (map-append (shifted base) (without (bare own)) (limits_of axis own.cell)
    ∙ ap (λ (es : List Edge). es ++ limits) (sym bare_is))

-- where each piece is two others, what holds of all pieces holds of all of both kinds, and back
pieces_split : (P : Edge → Type 0) (f g h : ℕ → List Edge) (n : ℕ) → ((m : ℕ) → f m ≡ g m ++ h m)
    → All P (flat_map f (range_with_len 0 n))
    ↔ (All P (flat_map g (range_with_len 0 n)) × All P (flat_map h (range_with_len 0 n)))
pieces_split P f g h n is =
    let A : List Edge → Type 0 = All P in
    let fs = of_numbered P f n in
    let gs = of_numbered P g n in
    let hs = of_numbered P h n in (
      λ all. (
        gs.1 (λ k lt. ((of_both P (g k) (h k)).0 (subst A (is k) (fs.0 all k lt))).0),
        hs.1
            (λ k lt. ((of_both P (g k) (h k)).0 (subst A (is k) (fs.0 all k lt))).1),
      ),
      λ both. fs.1 (λ k lt. subst A (sym (is k)) ((of_both P (g k) (h k)).1 (gs.0 both.0 k lt, hs.0 both.1 k lt))),
    )

pieces_counted : (f g h : ℕ → List Edge) (ns : List ℕ) → ((m : ℕ) → f m ≡ g m ++ h m)
    → length (flat_map f ns) ≡ length (flat_map g ns) + length (flat_map h ns)
pieces_counted f g h [] is = refl
pieces_counted f g h (m ∷ ms) is =
    let a = length-append (f m) (flat_map f ms) in
    let b = length-append (g m) (flat_map g ms) in
    let c = length-append (h m) (flat_map h ms) in
    let d : length (f m) ≡ length (g m ++ h m) = ap (λ (es : List Edge). length es) (is m) in
    let e = length-append (g m) (h m) in
    let rest = pieces_counted f g h ms is in
    omega arith

-- ---- the list of a pass

-- the structures of masters without limits, over the numbers of the masters
abbrev bare_structures : Axis → Tech → List Master → List Edge
bare_structures axis tech masters = flat_map (structure_at axis tech (bare_of masters)) (master_numbers masters)

-- the list of a pass over masters without limits
bare_list : (axis : Axis) (tech : Tech) (plan p : Plan) (masters : List Master) (layouts : List Coords)
    → AskAlike axis plan p
    → pruned_system axis tech p (bare_of masters) layouts
    ≡ (bare_structures axis tech masters ++ (pitches_of axis plan masters ++ ports_of axis plan masters))
    ++ flat_map (kept_edges_at axis tech masters layouts) (master_numbers masters)
unfolding fixed_of
bare_list axis tech plan p masters layouts ask =
    let bared : List Master = bare_of masters in
    let B : List Edge → List Edge → List Edge → List Edge → List Edge = λ s a b k. (s ++ (a ++ b)) ++ k in
    let structures : structures_of axis tech bared ≡ bare_structures axis tech masters =
    ap (λ (ns : List ℕ). flat_map (structure_at axis tech bared) ns) (numbers_same masters) in
    let pitches : pitches_of axis p bared ≡ pitches_of axis plan masters =
    ap (λ (ps : List Same).
    flat_map
    (λ (same : Same). equal_edges (joined (base_of axis bared same.a) 1) (joined (base_of axis bared same.b) 1)
    Pitch) ps) (sym ask.pitches) ∙ pitches_kept axis plan masters in
    let ports : ports_of axis p bared ≡ ports_of axis plan masters =
    ap (λ (ms : List Match). flat_map (port_edges axis bared) ms) (sym ask.lines)
    ∙ match_ports_kept axis plan masters in
    let kept = pairs_kept axis tech masters layouts in
    let bared_kept : List Edge = flat_map (kept_edges_at axis tech bared layouts) (master_numbers bared) in
    ap (λ (es : List Edge). B es (pitches_of axis p bared) (ports_of axis p bared) bared_kept) structures
    ∙ (ap (λ (es : List Edge). B (bare_structures axis tech masters) es (ports_of axis p bared) bared_kept) pitches
    ∙ (ap (λ (es : List Edge). B (bare_structures axis tech masters) (pitches_of axis plan masters) es bared_kept) ports
    ∙ ap (λ (es : List Edge). B (bare_structures axis tech masters) (pitches_of axis plan masters)
    (ports_of axis plan masters) es) kept))

-- what holds of each inequality of the list of a pass holds of each of the list without limits, and of each of the
-- limits, and back
pub list_split : (P : Edge → Type 0) (axis : Axis) (tech : Tech) (plan p : Plan) (masters : List Master)
    (layouts : List Coords) → AskAlike axis plan p
    → All P (pruned_system axis tech plan masters layouts)
    ↔ All P (pruned_system axis tech p (bare_of masters) layouts ++ system_limits axis masters)
unfolding fixed_of
list_split P axis tech plan p masters layouts ask =
    let A : List Edge → Type 0 = All P in
    let structures : List Edge = structures_of axis tech masters in
    let without : List Edge = bare_structures axis tech masters in
    let plans : List Edge = pitches_of axis plan masters ++ ports_of axis plan masters in
    let kept : List Edge = flat_map (kept_edges_at axis tech masters layouts) (master_numbers masters) in
    let limits : List Edge = system_limits axis masters in
    let is = bare_list axis tech plan p masters layouts ask in
    let whole = of_both P (structures ++ plans) kept in
    let fixed = of_both P structures plans in
    let split = pieces_split P (structure_at axis tech masters) (structure_at axis tech (bare_of masters))
    (limits_at axis masters) (length masters) (structure_split axis tech masters) in
    let listed = of_both P (pruned_system axis tech p (bare_of masters) layouts) limits in
    let bare_whole = of_both P (without ++ plans) kept in
    let bare_fixed = of_both P without plans in (
      λ h.
          let a = whole.0 h in
          let b = fixed.0 a.0 in
          let c = split.0 b.0 in
          listed.1 (subst A (sym is) (bare_whole.1 (bare_fixed.1 (c.0, b.1), a.1)), c.1),
      λ h.
          let a = listed.0 h in
          let b = bare_whole.0 (subst A is a.0) in
          let c = bare_fixed.0 b.0 in
          whole.1 (fixed.1 (split.1 (c.0, a.1), c.1), b.1),
    )

pub list_counted : (axis : Axis) (tech : Tech) (plan p : Plan) (masters : List Master) (layouts : List Coords)
    → AskAlike axis plan p
    → length (pruned_system axis tech plan masters layouts)
    ≡ length (pruned_system axis tech p (bare_of masters) layouts ++ system_limits axis masters)
unfolding fixed_of
list_counted axis tech plan p masters layouts ask =
    let structures : List Edge = structures_of axis tech masters in
    let without : List Edge = bare_structures axis tech masters in
    let plans : List Edge = pitches_of axis plan masters ++ ports_of axis plan masters in
    let kept : List Edge = flat_map (kept_edges_at axis tech masters layouts) (master_numbers masters) in
    let limits : List Edge = system_limits axis masters in
    let is : length (pruned_system axis tech p (bare_of masters) layouts) ≡ length ((without ++ plans) ++ kept) =
    ap (λ (es : List Edge). length es) (bare_list axis tech plan p masters layouts ask) in
    let split = pieces_counted (structure_at axis tech masters) (structure_at axis tech (bare_of masters))
    (limits_at axis masters) (master_numbers masters) (structure_split axis tech masters) in
    let a = length-append (structures ++ plans) kept in
    let b = length-append structures plans in
    let c = length-append (without ++ plans) kept in
    let d = length-append without plans in
    let e = length-append (pruned_system axis tech p (bare_of masters) layouts) limits in
    omega arith

-- the limits are among the joint variables
pub limits_among : (axis : Axis) (tech : Tech) (plan : Plan) (masters : List Master) → ArePlanned tech plan masters
    → All (IsEdgeAmong (system_variables axis masters)) (system_limits axis masters)
unfolding fixed_of
limits_among axis tech plan masters planned =
    let E : Edge → Type 0 = IsEdgeAmong (system_variables axis masters) in
    let all = (fixed_shape axis tech plan masters planned).edges_among in
    let parts =
    (of_both E (structures_of axis tech masters) (pitches_of axis plan masters ++ ports_of axis plan masters)).0
    all in
    ((pieces_split E (structure_at axis tech masters) (structure_at axis tech (bare_of masters))
    (limits_at axis masters) (length masters) (structure_split axis tech masters)).0 parts.0).1
