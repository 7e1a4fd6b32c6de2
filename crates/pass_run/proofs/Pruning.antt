-- The list of a pass has the solutions of its system, and a positive cycle exactly where the system has one.
use Rattle.std.proofs.{Common.{ℕ, ◌<◌, ℤ, List, length, map, ◌++◌, Contains, All, flat_map}, lemmas.Bool.ne_eqb}
use Rattle.std.proofs.lemmas.List.Elements.{All-append, All-map, All-weaker, All-contains_itself, recursion_from_All}
use Rattle.std.specs.List.{AllByRecursion}
use Rattle.lam_geom.specs.declared.boxes.Axis.{Axis}
use Rattle.rule_table.specs.declared.technology.Tech.{Tech}
use Rattle.cons_graph.specs.{declared.edges.Edge.Edge, Solutions.IsLeastSolution}
use Rattle.round_log.{specs.Implied.IsImpliedBy, proofs.Implied.{cycles_alike, implied_by_itself}}
use Rattle.sym_items.specs.{declared.items.{Item.Item, Coords.Coords}, Layouts.layout_at}
use Rattle.expand.specs.{declared.master.Master.Master, Laws.IsLawful}
use Rattle.list_facts.proofs.Elements.{all_of, all_pieces}
use Rattle.pair_rules.specs.{declared.pairs.Pair.Pair, Candidates.{candidates_of, Keeps}, Kept.kept_of}
use Rattle.pair_rules.proofs.Pruning.{pruning_loses_nothing, kept_among, kept_differs}
use Rattle.plan_model.specs.declared.plan.Plan.{Plan}
use Rattle.pitch_join.specs.{Masters.{master_at, master_numbers, no_master}, Joined.{base_of, local_of, shifted}}
use Rattle.pitch_join.specs.Joined.{space_edge, space_edges, structure_at, structures_of, pitches_of, ports_of}
use Rattle.pitch_join.specs.Joined.{fixed_of, kept_edges_at, candidate_edges_at, full_system, pruned_system}
use Rattle.pitch_join.specs.Meeting.{MeetsPlan, KeepsKept, KeepsCandidates, HaveBoxes}
use Rattle.pitch_join.proofs.{Lists.{of_both, of_images, of_numbered}, Solving.joining_meets}
use Rattle.pass_run.specs.{Alike.HaveSameSolutions, Pruning.PruningLosesNothing}
use Rattle.pass_run.proofs.{Cycles.{the_one, own_list, own_implied}, Shifted.{implied_shifted, implied_more}}

-- ---- solutions

-- values that meet a plan and keep the kept pairs apart keep all candidates apart
candidates_kept : (axis : Axis) (tech : Tech) (plan : Plan) (masters : List Master) (layouts : List Coords)
    (x : ℕ → ℤ) → All (IsLawful tech) masters → HaveBoxes masters layouts
    → MeetsPlan axis tech plan masters x → KeepsKept axis tech masters layouts x
    → KeepsCandidates axis tech masters layouts x
candidates_kept axis tech plan masters layouts x lawful boxes met kept = λ m lt.
    let own : ℕ → ℤ = local_of axis masters m x in
    pruning_loses_nothing axis tech (layout_at layouts m) (master_at masters m).items.list (boxes m lt) own
    ((lawful m no_master lt).stands axis own (met.structures m lt)).long (kept m lt)

some_kept : (axis : Axis) (tech : Tech) (masters : List Master) (layouts : List Coords) (x : ℕ → ℤ)
    → KeepsCandidates axis tech masters layouts x → KeepsKept axis tech masters layouts x
some_kept axis tech masters layouts x keeps = λ m lt.
    let items : List Item = (master_at masters m).items.list in
    kept_among axis tech (layout_at layouts m) items (Keeps axis (local_of axis masters m x) items) (keeps m lt)

pub solutions_kept : (tech : Tech) (plan : Plan) (masters : List Master) → All (IsLawful tech) masters
    → (axis : Axis) (layouts : List Coords) → HaveBoxes masters layouts
    → HaveSameSolutions (pruned_system axis tech plan masters layouts) (full_system axis tech plan masters layouts)
solutions_kept tech plan masters lawful axis layouts boxes x =
    let law = joining_meets tech plan masters in
    let of_list = law.of_list axis layouts x in
    let of_system = law.of_system axis layouts x boxes in (
      λ solves. let met =
          of_list.0 solves in of_system.1
          (met.0, candidates_kept axis tech plan masters layouts x lawful boxes met.0 met.1),
      λ solves. let met = of_system.0 solves in of_list.1 (met.0, some_kept axis tech masters layouts x met.1),
    )

-- ---- each listed inequality is one of the system's

-- what holds of the inequality of each candidate of a master holds of each kept pair's
own_kept : (Q : Edge → Type 0) (axis : Axis) (tech : Tech) (c : Coords) (items : List Item)
    → All Q (flat_map (space_edges axis items) (candidates_of axis tech c items))
    → All Q (map (space_edge axis items) (kept_of axis tech c items))
own_kept Q axis tech c items h =
    let pairs : List Pair = candidates_of axis tech c items in
    let kept : List Pair = kept_of axis tech c items in
    let P : Pair → Type 0 = λ p. AllByRecursion Q (space_edges axis items p) in
    let of_kept : All P kept =
    kept_among axis tech c items P
    (all_of P pairs (all_pieces Q (space_edges axis items) pairs (recursion_from_All Q _ h))) in
    let differ = kept_differs axis tech c items in
    All-map Q (space_edge axis items) kept (λ k d lt. the_one Q _ _ (of_kept k d lt) (ne_eqb _ _ (differ k d lt)))

pub listed_among : (axis : Axis) (tech : Tech) (plan : Plan) (masters : List Master) (layouts : List Coords)
    → All (Contains (full_system axis tech plan masters layouts)) (pruned_system axis tech plan masters layouts)
listed_among axis tech plan masters layouts =
    let system : List Edge = full_system axis tech plan masters layouts in
    let S : Edge → Type 0 = Contains system in
    let fixed : List Edge = fixed_of axis tech plan masters in
    let parts = (of_both S fixed (flat_map (candidate_edges_at axis tech masters layouts) (master_numbers masters))).0
    (All-contains_itself system) in
    let candidates = (of_numbered S (candidate_edges_at axis tech masters layouts) (length masters)).0 parts.1 in
    All-append S fixed (flat_map (kept_edges_at axis tech masters layouts) (master_numbers masters)) parts.0
    ((of_numbered S (kept_edges_at axis tech masters layouts) (length masters)).1 (λ m lt.
    let items : List Item = (master_at masters m).items.list in
    let shift : Edge → Edge = shifted (base_of axis masters m) in
    let Q : Edge → Type 0 = λ e. S (shift e) in
    (of_images S shift (map (space_edge axis items) (kept_of axis tech (layout_at layouts m) items))).1
    (own_kept Q axis tech (layout_at layouts m) items
    ((of_images S shift
    (flat_map (space_edges axis items) (candidates_of axis tech (layout_at layouts m) items))).0 (candidates m
    lt)))))

-- ---- the list implies each inequality of the system

-- what holds of each inequality that holds whatever the layouts holds of the structure of each master
pub structure_part : (P : Edge → Type 0) (axis : Axis) (tech : Tech) (plan : Plan) (masters : List Master) (m : ℕ)
    → All P (fixed_of axis tech plan masters) → m < length masters
    → All P (structure_at axis tech masters m)
unfolding fixed_of
structure_part P axis tech plan masters m h lt =
    let structures =
    ((of_both P (structures_of axis tech masters) (pitches_of axis plan masters ++ ports_of axis plan masters)).0
    h).0 in
    (of_numbered P (structure_at axis tech masters) (length masters)).0 structures m lt

-- the inequalities of one master are listed
own_listed : (axis : Axis) (tech : Tech) (plan : Plan) (masters : List Master) (layouts : List Coords) (m : ℕ)
    → m < length masters
    → All (Contains (pruned_system axis tech plan masters layouts))
    (map (shifted (base_of axis masters m)) (own_list axis tech (master_at masters m) (layout_at layouts m)))
own_listed axis tech plan masters layouts m lt =
    let list : List Edge = pruned_system axis tech plan masters layouts in
    let L : Edge → Type 0 = Contains list in
    let shift : Edge → Edge = shifted (base_of axis masters m) in
    let Q : Edge → Type 0 = λ e. L (shift e) in
    let parts =
    (of_both L (fixed_of axis tech plan masters)
    (flat_map (kept_edges_at axis tech masters layouts) (master_numbers masters))).0 (All-contains_itself list) in
    let structure = (of_images L shift _).0 (structure_part L axis tech plan masters m parts.0 lt) in
    let kept =
    (of_images L shift _).0
    ((of_numbered L (kept_edges_at axis tech masters layouts) (length masters)).0 parts.1 m lt) in
    (of_images L shift (own_list axis tech (master_at masters m) (layout_at layouts m))).1
    (All-append Q _ _ structure kept)

system_implied : (axis : Axis) (tech : Tech) (plan : Plan) (masters : List Master) (layouts : List Coords)
    → All (IsLawful tech) masters → HaveBoxes masters layouts
    → All (IsImpliedBy (pruned_system axis tech plan masters layouts)) (full_system axis tech plan masters layouts)
system_implied axis tech plan masters layouts lawful boxes =
    let list : List Edge = pruned_system axis tech plan masters layouts in
    let I : Edge → Type 0 = IsImpliedBy list in
    let fixed : List Edge = fixed_of axis tech plan masters in
    let listed : All I list = All-weaker (Contains list) I (implied_by_itself list) list (All-contains_itself list) in
    All-append I fixed (flat_map (candidate_edges_at axis tech masters layouts) (master_numbers masters))
    ((of_both I fixed (flat_map (kept_edges_at axis tech masters layouts) (master_numbers masters))).0 listed).0
    ((of_numbered I (candidate_edges_at axis tech masters layouts) (length masters)).1 (λ m lt.
    let master : Master = master_at masters m in
    let base : ℕ = base_of axis masters m in
    let own : List Edge = own_list axis tech master (layout_at layouts m) in
    let candidates : List Edge =
    flat_map (space_edges axis master.items.list)
    (candidates_of axis tech (layout_at layouts m) master.items.list) in
    let J : Edge → Type 0 = λ e. I (shifted base e) in
    (of_images I (shifted base) candidates).1
    (All-weaker (IsImpliedBy own) J
    (λ e h. implied_more (map (shifted base) own) list (shifted base e)
    (own_listed axis tech plan masters layouts m lt) (implied_shifted base own e h)) candidates
    (own_implied axis tech master (layout_at layouts m) (lawful m no_master lt) (boxes m lt)))))

-- pruning loses nothing
pub pruning : (tech : Tech) (plan : Plan) (masters : List Master) → All (IsLawful tech) masters
    → PruningLosesNothing tech plan masters
pruning tech plan masters lawful = record {
  same_solutions = solutions_kept tech plan masters lawful;
  same_cycles = λ axis layouts boxes. cycles_alike _ _ (listed_among axis tech plan masters layouts)
      (system_implied axis tech plan masters layouts lawful boxes);
}

-- the same solutions, the same least one
pub least_alike : (vars : ℕ) (es fs : List Edge) (x : ℕ → ℤ) → HaveSameSolutions es fs → IsLeastSolution vars es x
    → IsLeastSolution vars fs x
least_alike vars es fs x same least = record {
  solves = (same x).0 least.solves;
  below = λ y solves v lt. least.below y ((same y).1 solves) v lt;
}
