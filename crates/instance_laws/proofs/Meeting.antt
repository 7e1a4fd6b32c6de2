-- What meets at the border of two instances that stand beside or above one another.
use Rattle.std.proofs.Common.{◌≡◌, ℕ, suc, ◌<◌, true, false, List, [], length, refl, sym, ap, ◌∙◌, subst, arith, ◌==◌}
use Rattle.std.proofs.{Common.{inl, inr, ◌⊎◌, ◌≢◌}, lemmas.Bool.{and_from, and_parts, eqb-true, eq-eqb, cases_eq}}
use Rattle.std.{proofs.lemmas.List.Elements.{All-contains, Contains-get_or}, specs.List.{All, Contains}}
use Rattle.list_facts.proofs.Some.{contains_map}
use Rattle.lam_geom.specs.declared.boxes.Axis.{Axis, TheVariants.{X, Y}}
use Rattle.rule_table.specs.declared.technology.Tech.{Tech}
use Rattle.sym_items.specs.declared.items.Coords.{Coords}
use Rattle.cell_model.specs.{declared.cell.CellPort.CellPort, Ports.ports_of_cell}
use Rattle.expand.specs.{declared.master.Master.Master, Masters.IsMaster}
use Rattle.plan_model.specs.{declared.plan.{Match.Match, Plan.Plan}, Borders.{side_ports, side_before, side_after}}
use Rattle.plan_model.specs.Borders.{ports_before, ports_after, FitsAt, meeting_ports, match_of, matches_at}
use Rattle.plan_model.specs.{GridNets.{IsNextInstance, MeetAt}, Instances.{InstancePlace, IsInstancePlace, grid_at}}
use Rattle.plan_model.specs.{Instances.master_at_spot, Plan.{grids_of, meeting, borders_of, ports_matched, matches_in}}
use Rattle.plan_model.specs.{Plan.IsPlanOver, Rows.{neighbours, zipped_rows, row_at, firsts, is_pair}}
use Rattle.pitch_join.specs.{Layouts.{line_in, LieOnOneLine}, Masters.{master_at, no_master, ports_of_masters}}
use Rattle.pitch_join.proofs.Planned.{master_count, ports_at}
use Rattle.instance_laws.{specs.Planned.AreOfPlan, proofs.Lists.{in_flat_map, in_zip, in_neighbours, in_firsts}}
use Rattle.instance_laws.proofs.{OnBorder.other, Ports.{IsPortOf, wire_of_port, port_met, met_alike}}

-- ---- masters of instances

-- an instance is of a master of the plan
pub master_among : (tech : Tech) (plan : Plan) (masters : List Master) (p : InstancePlace)
    → AreOfPlan tech plan masters → IsInstancePlace (grids_of plan) p
    → master_at_spot (grids_of plan) p < length masters
master_among tech plan masters p planned at =
    let lt = planned.planned.of_masters p.grid [] at.grid p.row [] at.row p.col 0 at.col in
    let counted = master_count masters in
    omega (arith, lt, counted)

pub master_is : (tech : Tech) (plan : Plan) (masters : List Master) (p : InstancePlace) → AreOfPlan tech plan masters
    → IsInstancePlace (grids_of plan) p → IsMaster tech (master_at masters (master_at_spot (grids_of plan) p))
master_is tech plan masters p planned at =
    planned.each (master_at_spot (grids_of plan) p) no_master (master_among tech plan masters p planned at)

-- ---- the border

pub spot_is : (q : InstancePlace) (g r c : ℕ) → q.grid ≡ g → q.row ≡ r → q.col ≡ c
    → q ≡ record { grid = g; row = r; col = c }
spot_is q g r c eg er ec =
    ap (λ z. let s : InstancePlace = record { grid = z; row = q.row; col = q.col } in s) eg
    ∙ ap (λ z. let s : InstancePlace = record { grid = g; row = z; col = q.col } in s) er
    ∙ ap (λ z. let s : InstancePlace = record { grid = g; row = r; col = z } in s) ec

pub spots_differ : (p q : InstancePlace) → (p ≡ q) ⊎ (p ≢ q)
spots_differ p q = elim (cases_eq p.grid q.grid) [
  | inr grids ↦ inr (λ e. grids (ap (λ (z : InstancePlace). z.grid) e))
  | inl grid ↦ elim (cases_eq p.row q.row) [
    | inr rows ↦ inr (λ e. rows (ap (λ (z : InstancePlace). z.row) e))
    | inl row ↦ elim (cases_eq p.col q.col) [
      | inr columns ↦ inr (λ e. columns (ap (λ (z : InstancePlace). z.col) e))
      | inl column ↦ inl (spot_is p q.grid q.row q.col grid row column)
    ]
  ]
]

-- two instances that share a border are listed
in_borders : (axis : Axis) (grids : List (List (List ℕ))) (p q : InstancePlace) → IsInstancePlace grids p
    → IsInstancePlace grids q → IsNextInstance axis p q
    → Contains (borders_of axis grids) (master_at_spot grids p, master_at_spot grids q)
in_borders X grids p q at_p at_q next =
    let rows : List (List ℕ) = grid_at grids p.grid in
    let r : InstancePlace = record { grid = p.grid; row = suc p.row; col = p.col } in
    let is : q ≡ r = spot_is q p.grid (suc p.row) p.col next.0 (let e = next.1 in omega (arith, e)) next.2 in
    let at : IsInstancePlace grids r = subst (IsInstancePlace grids) is at_q in
    let pair : ℕ × ℕ = (master_at_spot grids p, master_at_spot grids r) in
    let two : List ℕ × List ℕ = (row_at rows p.row, row_at rows (suc p.row)) in
    let zipped : Contains (zipped_rows two) pair =
    in_zip (row_at rows p.row) (row_at rows (suc p.row)) p.col 0 0 at_p.col at.col in
    let above = in_flat_map zipped_rows (neighbours rows) two pair (in_neighbours rows p.row [] at.row) zipped in
    let listed : Contains (borders_of X grids) pair =
    in_flat_map (meeting X) grids rows pair (Contains-get_or grids p.grid [] at_p.grid) above in
    subst (λ (z : InstancePlace). Contains (borders_of X grids) (master_at_spot grids p, master_at_spot grids z))
    (sym is) listed
in_borders Y grids p q at_p at_q next =
    let rows : List (List ℕ) = grid_at grids p.grid in
    let r : InstancePlace = record { grid = p.grid; row = p.row; col = suc p.col } in
    let is : q ≡ r = spot_is q p.grid p.row (suc p.col) next.0 next.1 (let e = next.2 in omega (arith, e)) in
    let at : IsInstancePlace grids r = subst (IsInstancePlace grids) is at_q in
    let pair : ℕ × ℕ = (master_at_spot grids p, master_at_spot grids r) in
    let beside = in_flat_map neighbours rows (row_at rows p.row) pair (Contains-get_or rows p.row [] at_p.row)
    (in_neighbours (row_at rows p.row) p.col 0 at.col) in
    let listed : Contains (borders_of Y grids) pair =
    in_flat_map (meeting Y) grids rows pair (Contains-get_or grids p.grid [] at_p.grid) beside in
    subst (λ (z : InstancePlace). Contains (borders_of Y grids) (master_at_spot grids p, master_at_spot grids z))
    (sym is) listed

pair_itself : (p : ℕ × ℕ) → is_pair p p ≡ true
pair_itself p = and_from (p.0 == p.0) (p.1 == p.1) (eq-eqb p.0 p.0 refl) (eq-eqb p.1 p.1 refl)

pair_is : (p y : ℕ × ℕ) → is_pair p y ≡ true → y ≡ p
pair_is p y e =
    let k = and_parts (p.0 == y.0) (p.1 == y.1) e in
    ap (λ (z : ℕ). (z, y.1)) (sym (eqb-true p.0 y.0 k.0)) ∙ ap (λ (z : ℕ). (p.0, z)) (sym (eqb-true p.1 y.1 k.1))

-- ports that meet are matched
in_matches : (axis : Axis) (ports : List (List CellPort)) (grids : List (List (List ℕ))) (pair : ℕ × ℕ)
    (met : CellPort × CellPort) → Contains (borders_of axis grids) pair → Contains (meeting_ports axis ports pair) met
    → Contains (ports_matched axis ports grids) (match_of pair met)
in_matches axis ports grids pair met shared meets =
    let one = in_firsts is_pair (borders_of axis grids) pair (pair_itself pair) shared in
    let first : Contains (firsts is_pair (borders_of axis grids)) pair =
    subst (Contains (firsts is_pair (borders_of axis grids))) (pair_is pair one.0 one.2) one.1 in
    in_flat_map (matches_at axis ports) (firsts is_pair (borders_of axis grids)) pair (match_of pair met) first
    (contains_map (match_of pair) (meeting_ports axis ports pair) met meets)

-- ports of two instances that meet are matched by the plan
pub match_listed : (axis : Axis) (ports : List (List CellPort)) (plan : Plan) (p q : InstancePlace) (a b : CellPort)
    → IsPlanOver ports plan → MeetAt axis ports (grids_of plan) p q a b
    → Contains (matches_in axis plan)
    (match_of (master_at_spot (grids_of plan) p, master_at_spot (grids_of plan) q) (a, b))
match_listed axis ports plan p q a b planned meets =
    let grids : List (List (List ℕ)) = grids_of plan in
    let pair : ℕ × ℕ = (master_at_spot grids p, master_at_spot grids q) in
    let listed = in_matches axis ports grids pair (a, b)
    (in_borders axis grids p q meets.before meets.after meets.next) meets.met in
    subst (λ (l : List Match). Contains l (match_of pair (a, b))) (sym (planned.matched axis)) listed

-- ---- the port that meets another

-- a port of the instance before, which meets one of the instance after; axis is that on which the two are separated
pub record Meets (axis : Axis) (plan : Plan) (masters : List Master) (layouts : List Coords) (p q : InstancePlace)
    (v : ℕ) (b : CellPort) : Type 0 where
  pub a : CellPort
  pub own : IsPortOf axis (master_at masters (master_at_spot (grids_of plan) p)).cell false a.wire a
  pub met : MeetAt (other axis) (ports_of_masters masters) (grids_of plan) p q a b
  pub layer : a.layer ≡ b.layer
  pub width : a.width ≡ b.width
  pub line : line_in (other axis) masters layouts (master_at_spot (grids_of plan) p) a.wire
      ≡ line_in (other axis) masters layouts (master_at_spot (grids_of plan) q) v

pub port_meets : (axis : Axis) (tech : Tech) (plan : Plan) (masters : List Master) (layouts : List Coords)
    (p q : InstancePlace) (v : ℕ) (b : CellPort) → AreOfPlan tech plan masters
    → All (LieOnOneLine (other axis) masters layouts) (matches_in (other axis) plan)
    → IsInstancePlace (grids_of plan) p → IsInstancePlace (grids_of plan) q → IsNextInstance (other axis) p q
    → IsPortOf axis (master_at masters (master_at_spot (grids_of plan) q)).cell true v b
    → Meets axis plan masters layouts p q v b
port_meets axis tech plan masters layouts p q v b planned lines at_p at_q next port =
    let along : Axis = other axis in
    let grids : List (List (List ℕ)) = grids_of plan in
    let ports : List (List CellPort) = ports_of_masters masters in
    let m : ℕ = master_at_spot grids p in
    let n : ℕ = master_at_spot grids q in
    let pair : ℕ × ℕ = (m, n) in
    let shared : Contains (borders_of along grids) pair = in_borders along grids p q at_p at_q next in
    let fits : FitsAt along ports pair =
    All-contains (FitsAt along ports) (borders_of along grids) pair (planned.planned.fits along) shared in
    let seen : Contains (ports_after along ports pair) b =
    subst (λ (l : List CellPort). Contains (side_ports (side_after along) l) b)
    (sym (ports_at masters n (master_among tech plan masters q planned at_q))) port.seen in
    let one = port_met (ports_before along ports pair) (ports_after along ports pair) b fits seen in
    let a : CellPort = one.0 in
    let before : Contains (side_ports (side_before along) (ports_of_cell (master_at masters m).cell)) a =
    subst (λ (l : List CellPort). Contains (side_ports (side_before along) l) a)
    (ports_at masters m (master_among tech plan masters p planned at_p)) one.1 in
    let alike = met_alike a b one.3 in
    let met : MeetAt along ports grids p q a b = record { before = at_p; after = at_q; next = next; met = one.2 } in
    let matched = match_listed along ports plan p q a b planned.planned met in
    let line : line_in along masters layouts m a.wire ≡ line_in along masters layouts n b.wire =
    All-contains (LieOnOneLine along masters layouts) (matches_in along plan) (match_of pair (a, b)) lines
    matched in
    record {
      a = a;
      own = wire_of_port axis tech (master_at masters m).cell false a
          (master_is tech plan masters p planned at_p).sound before;
      met = met;
      layer = alike.0;
      width = alike.1;
      line = line ∙ ap (line_in along masters layouts n) port.wire;
    }
