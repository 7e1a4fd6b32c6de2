-- From each variable of a plan a walk of listed inequalities leads to a far border: within its master, by the extent
-- of an item that begins there, and by the margin of that item.
use Rattle.std.proofs.Common.{◌≡◌, ℕ, suc, ◌<◌, ◌≤◌, eqb, List, [], ◌∷◌, ◌++◌, length, map, refl, sym, ap, ◌∙◌, subst}
use Rattle.std.proofs.Common.{arith, inl, inr, ℤ, All, Any, Contains, flat_map}
use Rattle.std.proofs.lemmas.{Bool.{cases_eq, ne_eqb}, List.{get_or_default, Elements.{All-nil, All-cons, All-append}}}
use Rattle.std.proofs.lemmas.List.Elements.{All-contains, All-map, All-weaker, All-contains_itself, recursion_from_All}
use Rattle.std.specs.List.{AllByRecursion}
use Rattle.lam_geom.specs.declared.boxes.Axis.{Axis}
use Rattle.rule_table.specs.{declared.technology.Tech.Tech, Technology.margin_of}
use Rattle.cons_graph.specs.declared.edges.{Edge.Edge, Why.{Why, TheVariants.{Extent, Margin}}}
use Rattle.cons_graph.specs.Walks.{IsWalk, walk_length}
use Rattle.round_log.proofs.Walking.{IsWalk-append}
use Rattle.slack_pack.specs.Most.{HasWalk}
use Rattle.sym_items.specs.{declared.items.{End.End, Item.Item, Items.Items, Coords.Coords}, Transposed.item_along}
use Rattle.cell_model.specs.declared.cell.Cell.{Cell}
use Rattle.list_facts.proofs.Elements.{all_of, all_parts, all_pieces}
use Rattle.expand.specs.{declared.master.Master.Master, Masters.IsMaster, Structure.{between, extent_edges}}
use Rattle.expand.specs.Structure.{margin_edges, extents_of, overlaps_of, margins_of, limits_of, structure_of}
use Rattle.expand.{specs.Variables.{at_origin, at_far_border, variables_of}, proofs.Reached.{BeginsBefore, items_begin}}
use Rattle.plan_model.specs.declared.plan.Plan.{Plan}
use Rattle.pitch_join.specs.{Masters.{ArePlanned, master_at, no_master, master_numbers}, Joined.{base_of, bases_of}}
use Rattle.pitch_join.specs.Joined.{far_of, fixed_of, joined, system_variables, kept_edges_at, pruned_system, shifted}
use Rattle.pitch_join.proofs.{Bases.{bases_counted, own_of}, Listed.far_is, Lists.{of_both, of_images}}
use Rattle.pass_run.{specs.OneStep.ReachFar, proofs.{Cycles.the_one, Pruning.structure_part, Shifted.walk_shifted}}

-- ---- walks of any length

pub record Leads (edges : List Edge) (a b : ℕ) : Type 0 where
  pub walk : List Edge
  pub of_these : All (Contains edges) walk
  pub leads : IsWalk a walk b

stays : (edges : List Edge) (a b : ℕ) → a ≡ b → Leads edges a b
stays edges a b same = record { walk = []; of_these = All-nil (Contains edges); leads = same }

goes_on : (edges : List Edge) (a b c : ℕ) → Leads edges a b → Leads edges b c → Leads edges a c
goes_on edges a b c u v = record {
  walk = u.walk ++ v.walk;
  of_these = All-append (Contains edges) u.walk v.walk u.of_these v.of_these;
  leads = IsWalk-append a u.walk b v.walk c u.leads v.leads;
}

by_edge : (edges : List Edge) (e : Edge) → Contains edges e → Leads edges e.from e.to
by_edge edges e among =
    record {
      walk = e ∷ [];
      of_these = All-cons (Contains edges) e [] among (All-nil (Contains edges));
      leads = (refl, refl);
    }

-- the inequality between two ends leads from one variable to the other, if it is there; else they lie on one
by_between : (edges : List Edge) (low high : End) (len : ℤ) (why : Why)
    → AllByRecursion (Contains edges) (between low high len why) → Leads edges low.var high.var
by_between edges low high len why among =
    elim (cases_eq low.var high.var) [
      | inl same ↦ stays edges low.var high.var same
      | inr differ ↦
          by_edge edges _ (the_one (Contains edges) (eqb low.var high.var) _ among (ne_eqb low.var high.var differ))
    ]

pub walk_of : (edges : List Edge) (a b : ℕ) → Leads edges a b → (long : ℤ) × HasWalk edges a b long
walk_of edges a b h =
    (walk_length h.walk, record { walk = h.walk; of_these = h.of_these; leads = h.leads; as_long = refl })

-- ---- within a master

record HasEnds (edges : List Edge) (axis : Axis) (tech : Tech) (items : List Item) : Type 0 where
  pub extents : All (λ (i : Item). AllByRecursion (Contains edges) (extent_edges (item_along axis i))) items
  pub margins : All (λ (i : Item). AllByRecursion (Contains edges) (margin_edges tech (item_along axis i))) items

ends_of : (edges : List Edge) (axis : Axis) (tech : Tech) (cell : Cell) (items : List Item)
    → AllByRecursion (Contains edges) (structure_of axis tech cell items) → HasEnds edges axis tech items
unfolding structure_of
ends_of edges axis tech cell items h =
    let C : Edge → Type 0 = Contains edges in
    let margins : List Edge = margins_of axis tech items in
    let limits : List Edge = limits_of axis cell in
    let first = all_parts C (extents_of axis items) (overlaps_of axis tech cell ++ (margins ++ limits)) h.1 in
    let rest = all_parts C (overlaps_of axis tech cell) (margins ++ limits) first.1 in
    record {
      extents = all_of _ items (all_pieces C (λ (i : Item). extent_edges (item_along axis i)) items first.0);
      margins =
          all_of _ items
          (all_pieces C (λ (i : Item). margin_edges tech (item_along axis i)) items
          (all_parts C margins limits rest.1).0);
    }

-- an item leads from the variable on which it begins to the far border
item_leads : (edges : List Edge) (tech : Tech) (i : Item) → AllByRecursion (Contains edges) (extent_edges i)
    → AllByRecursion (Contains edges) (margin_edges tech i) → Leads edges i.xl.var 1
item_leads edges tech i extent margin =
    let high =
    (all_parts (Contains edges) (between at_origin i.xl (margin_of tech i.class) Margin)
    (between i.xh at_far_border (margin_of tech i.class) Margin) margin).1 in
    goes_on edges i.xl.var i.xh.var 1 (by_between edges i.xl i.xh i.least_x Extent extent)
    (by_between edges i.xh at_far_border (margin_of tech i.class) Margin high)

own_leads : (axis : Axis) (tech : Tech) (master : Master) (v : ℕ) → IsMaster tech master → 1 ≤ v
    → v < variables_of axis master.cell → Leads (structure_of axis tech master.cell master.items.list) v 1
own_leads axis tech master v m from lt =
    let edges : List Edge = structure_of axis tech master.cell master.items.list in
    let items : List Item = master.items.list in
    let ends : HasEnds edges axis tech items =
    ends_of edges axis tech master.cell items
    (recursion_from_All (Contains edges) edges (All-contains_itself edges)) in
    let S : List Item → Type 0 = Any (BeginsBefore axis v) in
    elim (cases_eq v 1) [
      | inl far ↦ stays edges v 1 far
      | inr more ↦
          let some = subst S (sym (ap (λ (i : Items). i.list) m.items.are))
          (items_begin axis tech master.cell m.items.nets v m.sound (omega arith) lt) in
          let E : Item → Type 0 = λ i. AllByRecursion (Contains edges) (extent_edges (item_along axis i)) in
          let M : Item → Type 0 = λ i. AllByRecursion (Contains edges) (margin_edges tech (item_along axis i)) in
          let V : ℕ → Type 0 = λ u. Leads edges u 1 in
          subst V some.4.on
          (item_leads edges tech (item_along axis some.1) (subst E some.3 (ends.extents some.0 some.1 some.2))
          (subst M some.3 (ends.margins some.0 some.1 some.2)))
    ]

-- ---- over the joint variables

-- what leads within a master leads over the joint variables
leads_shifted : (edges all : List Edge) (base a b : ℕ) → All (Contains all) (map (shifted base) edges)
    → Leads edges a b → Leads all (joined base a) (joined base b)
leads_shifted edges all base a b among h =
    let C : Edge → Type 0 = λ e. Contains all (shifted base e) in
    let each : All C edges = (of_images (Contains all) (shifted base) edges).0 among in
    record {
      walk = map (shifted base) h.walk;
      of_these = All-map (Contains all) (shifted base) h.walk
          (All-weaker (Contains edges) C (λ e here. All-contains C edges e each here) h.walk h.of_these);
      leads = walk_shifted base a h.walk b h.leads;
    }

far_among : (axis : Axis) (masters : List Master) (m : ℕ) → m < length masters
    → Contains (bases_of axis masters) (far_of axis masters m)
far_among axis masters m lt =
    let all : List ℕ = bases_of axis masters in
    let count = bases_counted axis masters all refl in
    let among : m < length all = omega arith in
    (m, among, get_or_default all m (far_of axis masters m) 0 among ∙ far_is axis masters all m refl lt)

list_leads : (axis : Axis) (tech : Tech) (plan : Plan) (masters : List Master) (layouts : List Coords) (m v : ℕ)
    → ArePlanned tech plan masters → m < length masters
    → v < variables_of axis (master_at masters m).cell → 1 ≤ v
    → Leads (pruned_system axis tech plan masters layouts) (joined (base_of axis masters m) v) (far_of axis masters m)
list_leads axis tech plan masters layouts m v planned lt own from =
    let all : List Edge = pruned_system axis tech plan masters layouts in
    let fixed =
    ((of_both (Contains all) (fixed_of axis tech plan masters)
    (flat_map (kept_edges_at axis tech masters layouts) (master_numbers masters))).0 (All-contains_itself
    all)).0 in
    leads_shifted (structure_of axis tech (master_at masters m).cell (master_at masters m).items.list) all
    (base_of axis masters m) v 1
    (structure_part (Contains all) axis tech plan masters m fixed lt)
    (own_leads axis tech (master_at masters m) v (planned.each m no_master lt) from own)

pub reach_far : (axis : Axis) (tech : Tech) (plan : Plan) (masters : List Master) (layouts : List Coords)
    → ArePlanned tech plan masters
    → ReachFar (system_variables axis masters) (pruned_system axis tech plan masters layouts) (bases_of axis masters)
reach_far axis tech plan masters layouts planned u from lt =
    let all : List Edge = pruned_system axis tech plan masters layouts in
    let o = own_of axis masters u from lt in
    let own = o.own in
    let far : ℕ = far_of axis masters o.master in
    let L : ℕ → Type 0 = λ a. Leads all a far in (
      far,
      far_among axis masters o.master o.among,
      walk_of all u far
          (subst L (sym o.is)
          (list_leads axis tech plan masters layouts o.master (suc o.number) planned o.among (omega arith)
          (omega arith))),
    )
