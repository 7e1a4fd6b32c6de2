-- The joint variables of some masters on an axis, and the inequalities over them.
use Rattle.std.specs.Prelude.{ℕ, zero, suc, ◌+◌, ◌==◌, ℤ, pos, ◌+ℤ◌, ◌-ℤ◌, List, [], ◌∷◌, ◌++◌, length, map, flat_map}
use Rattle.std.specs.Prelude.{take, sum_by, if◌then◌else◌}
use Rattle.lam_geom.specs.declared.boxes.Axis.{Axis}
use Rattle.rule_table.specs.declared.technology.Tech.{Tech}
use Rattle.cons_graph.specs.declared.edges.{Edge.Edge, Why.{Why, TheVariants.{Pitch, Port, Space}}}
use Rattle.sym_items.specs.{declared.items.{Item.Item, Coords.Coords}, Layouts.layout_at}
use Rattle.expand.specs.declared.master.Master.{Master}
use Rattle.expand.specs.{Variables.{running, crossing, cross_of}, Structure.{at_least, between, structure_of}}
use Rattle.pair_rules.specs.{declared.pairs.Pair.Pair, Candidates.{candidates_of, high_end, low_end}, Kept.kept_of}
use Rattle.plan_model.specs.{declared.plan.{Match.Match, Plan.Plan, Same.Same}, Plan.{pitch_in, matches_in}}
use Rattle.pitch_join.specs.Masters.{master_at, master_numbers}

-- ---- variables

-- how many variables a master has beside the origin
abbrev pub own_variables : Axis → Master → ℕ
own_variables axis master = 1 + length master.cell.nodes + running (crossing axis) master.cell.wires

-- the number of the first of them: those of the masters before, and the origin, come first
abbrev pub base_of : Axis → List Master → ℕ → ℕ
base_of axis masters m = 1 + sum_by (own_variables axis) (take m masters)

abbrev pub bases_of : Axis → List Master → List ℕ
bases_of axis masters = map (base_of axis masters) (master_numbers masters)

-- how many there are of all masters, with the origin
abbrev pub system_variables : Axis → List Master → ℕ
system_variables axis masters = 1 + sum_by (own_variables axis) masters

-- the joint variable that a local one is, of a master whose first is this
abbrev pub joined : ℕ → ℕ → ℕ
joined base zero = 0
joined base (suc v) = base + v

abbrev pub var_of : Axis → List Master → ℕ → ℕ → ℕ
var_of axis masters m v = joined (base_of axis masters m) v

-- the far border of a master
abbrev pub far_of : Axis → List Master → ℕ → ℕ
far_of axis masters m = var_of axis masters m 1

-- what values of the joint variables give to the variables of one master
abbrev pub local_of : Axis → List Master → ℕ → (ℕ → ℤ) → ℕ → ℤ
local_of axis masters m x v = x (var_of axis masters m v)

-- ---- inequalities

-- an inequality of a master over its joint variables
abbrev pub shifted : ℕ → Edge → Edge
shifted base edge = record edge { from = joined base edge.from; to = joined base edge.to }

abbrev pub structure_at : Axis → Tech → List Master → ℕ → List Edge
structure_at axis tech masters m =
    map (shifted (base_of axis masters m))
    (structure_of axis tech (master_at masters m).cell (master_at masters m).items.list)

-- two variables are equal
abbrev pub equal_edges : ℕ → ℕ → Why → List Edge
equal_edges a b why = at_least a b (pos 0) why ∷ at_least b a (pos 0) why ∷ []

-- the far borders of two masters are equal
abbrev pub pitch_edges : Axis → List Master → Same → List Edge
pitch_edges axis masters same = equal_edges (far_of axis masters same.a) (far_of axis masters same.b) Pitch

-- the wires of two ports that meet have one cross coordinate; where they are one wire's, there is no inequality
abbrev pub wire_var : Axis → List Master → ℕ → ℕ → ℕ
wire_var axis masters m wire = var_of axis masters m (cross_of (master_at masters m).cell wire)

abbrev pub tied_edges : ℕ → ℕ → List Edge
tied_edges a b = if a == b then [] else equal_edges a b Port

abbrev pub port_edges : Axis → List Master → Match → List Edge
port_edges axis masters met =
    tied_edges (wire_var axis masters met.a met.a_wire) (wire_var axis masters met.b met.b_wire)

abbrev pub structures_of : Axis → Tech → List Master → List Edge
structures_of axis tech masters = flat_map (structure_at axis tech masters) (master_numbers masters)

abbrev pub pitches_of : Axis → Plan → List Master → List Edge
pitches_of axis plan masters = flat_map (pitch_edges axis masters) (pitch_in axis plan)

abbrev pub ports_of : Axis → Plan → List Master → List Edge
ports_of axis plan masters = flat_map (port_edges axis masters) (matches_in axis plan)

-- what holds whatever the layouts: the structure of each master, equal borders, and equal ports
unfoldable pub fixed_of : Axis → Tech → Plan → List Master → List Edge
fixed_of axis tech plan masters = structures_of axis tech masters
    ++ (pitches_of axis plan masters ++ ports_of axis plan masters)

-- ---- spacings

-- the inequality of a kept pair, whose ends lie on different variables
abbrev pub space_edge : Axis → List Item → Pair → Edge
space_edge axis items p =
    at_least (high_end axis items p.i).var (low_end axis items p.j).var
    ((p.s -ℤ (low_end axis items p.j).off) +ℤ (high_end axis items p.i).off) Space

-- that of a candidate; where both ends lie on one variable it compares constants, and there is none
abbrev pub space_edges : Axis → List Item → Pair → List Edge
space_edges axis items p = between (high_end axis items p.i) (low_end axis items p.j) p.s Space

-- those of the kept pairs, and of the candidates, of master m in its layout
abbrev pub kept_at : Axis → Tech → List Master → List Coords → ℕ → List Pair
kept_at axis tech masters layouts m = kept_of axis tech (layout_at layouts m) (master_at masters m).items.list

abbrev pub candidates_at : Axis → Tech → List Master → List Coords → ℕ → List Pair
candidates_at axis tech masters layouts m =
    candidates_of axis tech (layout_at layouts m) (master_at masters m).items.list

abbrev pub kept_edges_at : Axis → Tech → List Master → List Coords → ℕ → List Edge
kept_edges_at axis tech masters layouts m =
    map (shifted (base_of axis masters m))
    (map (space_edge axis (master_at masters m).items.list) (kept_at axis tech masters layouts m))

abbrev pub candidate_edges_at : Axis → Tech → List Master → List Coords → ℕ → List Edge
candidate_edges_at axis tech masters layouts m =
    map (shifted (base_of axis masters m))
    (flat_map (space_edges axis (master_at masters m).items.list) (candidates_at axis tech masters layouts m))

-- The system of a pass over some layouts: what holds whatever they are, and the inequalities of all candidates of
-- each master.
abbrev pub full_system : Axis → Tech → Plan → List Master → List Coords → List Edge
full_system axis tech plan masters layouts =
    fixed_of axis tech plan masters ++ flat_map (candidate_edges_at axis tech masters layouts)
    (master_numbers masters)

-- The list of a pass, which stands for its system: the inequalities of the kept pairs alone.
abbrev pub pruned_system : Axis → Tech → Plan → List Master → List Coords → List Edge
pruned_system axis tech plan masters layouts =
    fixed_of axis tech plan masters ++ flat_map (kept_edges_at axis tech masters layouts) (master_numbers masters)
