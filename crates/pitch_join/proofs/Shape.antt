-- A constraint graph can be made of the inequalities that hold whatever the layouts.
use Rattle.std.proofs.Common.{◌≡◌, ◌≢◌, ℕ, zero, suc, ◌+◌, ◌<◌, ◌≤◌, eqb, pos, List, [], ◌++◌, length, refl, sym, ap}
use Rattle.std.proofs.Common.{subst, arith, inl, inr}
use Rattle.std.proofs.lemmas.{Bool.{cases_Bool, eq-eqb}, Int.ints, List.Elements.{All-append, All-map, All-weaker}}
use Rattle.std.specs.{Prelude.{◌^◌, neg_ℤ, ◌≤ℤ◌}, List.{AllByRecursion, All, Any}}
use Rattle.lam_geom.specs.declared.boxes.Axis.{Axis}
use Rattle.rule_table.specs.declared.technology.Tech.{Tech}
use Rattle.cons_graph.specs.declared.edges.{Edge.Edge, Why.{Why, TheVariants.{Pitch, Port}}}
use Rattle.cons_graph.specs.Constraints.{IsEdgeAmong, LeadsFromOrigin, IsConstraintGraph}
use Rattle.cell_model.specs.declared.cell.{Axis2.Axis2, Cell.Cell}
use Rattle.expand.specs.{declared.master.Master.Master, Masters.IsMaster, Structure.structure_of, Variables.cross_of}
use Rattle.expand.{specs.Variables.{running, variables_of}, proofs.{Among.cross_among, GraphEdges.shape_of}}
use Rattle.list_facts.proofs.{Elements.all_of, Some.{any_flat_map, any_left, any_range}}
use Rattle.plan_model.specs.{declared.plan.{Match.Match, Plan.Plan, Same.Same}, Plan.{matches_in, pitch_in}}
use Rattle.pitch_join.specs.{Masters.{ArePlanned, master_at, master_numbers, no_master}, Among.IsCrossWire}
use Rattle.pitch_join.specs.{Among.{IsMatchAmong, IsSameAmong}, Joined.{base_of, equal_edges, far_of, fixed_of, joined}}
use Rattle.pitch_join.specs.Joined.{system_variables, pitch_edges, pitches_of, port_edges, ports_of, shifted}
use Rattle.pitch_join.specs.Joined.{structure_at, structures_of, tied_edges, wire_var}
use Rattle.pitch_join.proofs.Bases.{joined_apart, joined_origin, system_few, own_of, planned_few, var_apart, var_within}
use Rattle.pitch_join.proofs.{Lists.{any_map, of_numbered, of_pieces}, Planned.{matches_among, pitch_among}}

-- ---- the structure of a master

master_shape : (axis : Axis) (tech : Tech) (masters : List Master) (m : ℕ) → All (IsMaster tech) masters
    → m < length masters
    → IsConstraintGraph
    (record {
      vars = variables_of axis (master_at masters m).cell;
      edges = structure_of axis tech (master_at masters m).cell (master_at masters m).items.list;
    })
master_shape axis tech masters m each lt =
    let is : IsMaster tech (master_at masters m) = each m no_master lt in
    shape_of axis tech (master_at masters m).cell (master_at masters m).items _ is.sound is.light is.items refl

pub shifted_among : (axis : Axis) (masters : List Master) (m : ℕ) (e : Edge) → m < length masters
    → IsEdgeAmong (variables_of axis (master_at masters m).cell) e
    → IsEdgeAmong (system_variables axis masters) (shifted (base_of axis masters m) e)
shifted_among axis masters m e lt h =
    let base : ℕ = base_of axis masters m in
    record {
      from_in_range = var_within axis masters m e.from lt h.from_in_range;
      to_in_range = var_within axis masters m e.to lt h.to_in_range;
      ends_differ = λ same. h.ends_differ (joined_apart base e.from e.to (omega arith) same);
      not_into_origin = λ origin. h.not_into_origin (joined_origin base e.to (omega arith) origin);
      length_low = h.length_low;
      length_high = h.length_high;
    }

structures_among : (axis : Axis) (tech : Tech) (masters : List Master) → All (IsMaster tech) masters
    → All (IsEdgeAmong (system_variables axis masters)) (structures_of axis tech masters)
structures_among axis tech masters each =
    let E : Edge → Type 0 = IsEdgeAmong (system_variables axis masters) in
    (of_numbered E (structure_at axis tech masters) (length masters)).1 (λ m lt.
    let own : List Edge = structure_of axis tech (master_at masters m).cell (master_at masters m).items.list in
    let S : Edge → Type 0 = λ e. E (shifted (base_of axis masters m) e) in
    All-map E (shifted (base_of axis masters m)) own
    (All-weaker (IsEdgeAmong (variables_of axis (master_at masters m).cell)) S
    (λ e h. shifted_among axis masters m e lt h) own (master_shape axis tech masters m each lt).edges_among))

-- an inequality of some master leads from the origin to each variable
leads_shifted : (base v : ℕ) (e : Edge) → LeadsFromOrigin (suc v) e → LeadsFromOrigin (base + v) (shifted base e)
leads_shifted base v e h = (ap (joined base) h.0, ap (joined base) h.1)

structures_lead : (axis : Axis) (tech : Tech) (masters : List Master) (u : ℕ) → All (IsMaster tech) masters → 1 ≤ u
    → u < system_variables axis masters → Any (LeadsFromOrigin u) (structures_of axis tech masters)
structures_lead axis tech masters u each from lt =
    let o = own_of axis masters u from lt in
    let m : ℕ = o.master in
    let base : ℕ = base_of axis masters m in
    let own : List Edge = structure_of axis tech (master_at masters m).cell (master_at masters m).items.list in
    let number = o.own in
    let among = o.among in
    let L : ℕ → Type 0 = λ k. Any (LeadsFromOrigin k) (structure_at axis tech masters m) in
    let leads = (master_shape axis tech masters m each o.among).all_from_origin (suc o.number) (omega arith)
    (omega arith) in
    let here : L u =
    subst L (sym o.is)
    (any_map (LeadsFromOrigin (suc o.number)) (LeadsFromOrigin (base + o.number)) (shifted base) own
    (leads_shifted base o.number) leads) in
    let P : ℕ → Type 0 = λ k. Any (LeadsFromOrigin u) (structure_at axis tech masters k) in
    any_flat_map P (LeadsFromOrigin u) (structure_at axis tech masters) (master_numbers masters) (λ k h. h)
    (any_range P 0 (length masters) m (omega arith) (omega arith) here)

-- ---- equal variables

zero_low : neg_ℤ (pos (2 ^ 21)) ≤ℤ pos 0
zero_low = omega (arith, ints)

zero_high : pos 0 ≤ℤ pos (2 ^ 21)
zero_high = omega (arith, ints)

equal_among : (vars a b : ℕ) (why : Why) → a < vars → b < vars → a ≢ b → a ≢ 0 → b ≢ 0
    → AllByRecursion (IsEdgeAmong vars) (equal_edges a b why)
equal_among vars a b why a_lt b_lt apart a_own b_own = (
  record {
    from_in_range = a_lt;
    to_in_range = b_lt;
    ends_differ = apart;
    not_into_origin = b_own;
    length_low = zero_low;
    length_high = zero_high;
  },
  (
    record {
      from_in_range = b_lt;
      to_in_range = a_lt;
      ends_differ = λ e. apart (sym e);
      not_into_origin = a_own;
      length_low = zero_low;
      length_high = zero_high;
    },
    tt,
  ),
)

far_apart : (axis : Axis) (masters : List Master) (a b : ℕ) → a < length masters → b < length masters → a ≢ b
    → far_of axis masters a ≢ far_of axis masters b
far_apart axis masters a b a_lt b_lt apart e =
    elim (var_apart axis masters a b 1 1 a_lt b_lt (omega arith) (omega arith) e) [
      | inl origin ↦ let one : suc zero ≡ zero = origin.0 in omega arith
      | inr same ↦ apart same.0
    ]

far_own : (axis : Axis) (masters : List Master) (m : ℕ) → far_of axis masters m ≢ 0
far_own axis masters m e = let f : base_of axis masters m + 0 ≡ 0 = e in omega arith

pitch_edges_among : (axis : Axis) (masters : List Master) (same : Same) → IsSameAmong (length masters) same
    → All (IsEdgeAmong (system_variables axis masters)) (pitch_edges axis masters same)
pitch_edges_among axis masters same h =
    all_of (IsEdgeAmong (system_variables axis masters)) (pitch_edges axis masters same)
    (equal_among (system_variables axis masters) (far_of axis masters same.a) (far_of axis masters same.b) Pitch
    (var_within axis masters same.a 1 h.a (omega arith)) (var_within axis masters same.b 1 h.b (omega arith))
    (far_apart axis masters same.a same.b h.a h.b h.apart) (far_own axis masters same.a) (far_own axis masters same.b))

-- the cross coordinate of a wire is a local variable of the axis
pub cross_own : (axis : Axis) (masters : List Master) (m wire : ℕ) → IsCrossWire axis masters m wire
    → cross_of (master_at masters m).cell wire < variables_of axis (master_at masters m).cell
cross_own axis masters m wire h =
    let cell : Cell = (master_at masters m).cell in
    let C : Axis2 → Type 0 = λ a. cross_of cell wire < 2 + length cell.nodes + running a cell.wires in
    subst C h.along (cross_among cell wire h.wire_among)

wire_own : (axis : Axis) (masters : List Master) (m wire : ℕ) → wire_var axis masters m wire ≢ 0
wire_own axis masters m wire e =
    let c : cross_of (master_at masters m).cell wire ≡ 0 = joined_origin (base_of axis masters m) _ (omega arith) e in
    omega arith

tied_among : (vars a b : ℕ) → a < vars → b < vars → a ≢ 0 → b ≢ 0 → All (IsEdgeAmong vars) (tied_edges a b)
tied_among vars a b a_lt b_lt a_own b_own =
    let P : List Edge → Type 0 = All (IsEdgeAmong vars) in
    elim (cases_Bool (eqb a b)) [
      | inl t ↦ let is : tied_edges a b ≡ [] = rw t refl in subst P (sym is) (all_of (IsEdgeAmong vars) [] tt)
      | inr f ↦
          let is : tied_edges a b ≡ equal_edges a b Port = rw f refl in
          let apart : a ≢ b = λ same. let t = eq-eqb a b same in cc in
          subst P (sym is)
          (all_of (IsEdgeAmong vars) (equal_edges a b Port)
          (equal_among vars a b Port a_lt b_lt apart a_own b_own))
    ]

port_edges_among : (axis : Axis) (masters : List Master) (met : Match) → IsMatchAmong axis masters met
    → All (IsEdgeAmong (system_variables axis masters)) (port_edges axis masters met)
port_edges_among axis masters met h =
    tied_among (system_variables axis masters) (wire_var axis masters met.a met.a_wire)
    (wire_var axis masters met.b met.b_wire)
    (var_within axis masters met.a _ h.a.master (cross_own axis masters met.a met.a_wire h.a))
    (var_within axis masters met.b _ h.b.master (cross_own axis masters met.b met.b_wire h.b))
    (wire_own axis masters met.a met.a_wire) (wire_own axis masters met.b met.b_wire)

-- ---- the whole

fixed_among : (axis : Axis) (tech : Tech) (plan : Plan) (masters : List Master) → ArePlanned tech plan masters
    → All (IsEdgeAmong (system_variables axis masters)) (fixed_of axis tech plan masters)
unfolding fixed_of
fixed_among axis tech plan masters planned =
    let E : Edge → Type 0 = IsEdgeAmong (system_variables axis masters) in
    let S : Same → Type 0 = λ same. All E (pitch_edges axis masters same) in
    let M : Match → Type 0 = λ met. All E (port_edges axis masters met) in
    All-append E (structures_of axis tech masters) (pitches_of axis plan masters ++ ports_of axis plan masters)
    (structures_among axis tech masters planned.each)
    (All-append E (pitches_of axis plan masters) (ports_of axis plan masters)
    ((of_pieces E (pitch_edges axis masters) (pitch_in axis plan)).1
    (All-weaker (IsSameAmong (length masters)) S (pitch_edges_among axis masters) (pitch_in axis plan)
    (pitch_among axis tech plan masters planned)))
    ((of_pieces E (port_edges axis masters) (matches_in axis plan)).1
    (All-weaker (IsMatchAmong axis masters) M (port_edges_among axis masters) (matches_in axis plan)
    (matches_among axis tech plan masters planned))))

fixed_leads : (axis : Axis) (tech : Tech) (plan : Plan) (masters : List Master) (u : ℕ) → All (IsMaster tech) masters
    → 1 ≤ u → u < system_variables axis masters → Any (LeadsFromOrigin u) (fixed_of axis tech plan masters)
unfolding fixed_of
fixed_leads axis tech plan masters u each from lt =
    any_left (LeadsFromOrigin u) (structures_of axis tech masters)
    (pitches_of axis plan masters ++ ports_of axis plan masters)
    (structures_lead axis tech masters u each from lt)

pub fixed_shape : (axis : Axis) (tech : Tech) (plan : Plan) (masters : List Master) → ArePlanned tech plan masters
    → IsConstraintGraph (record { vars = system_variables axis masters; edges = fixed_of axis tech plan masters })
fixed_shape axis tech plan masters planned = record {
  has_origin = omega arith;
  few_vars = system_few axis masters (planned_few tech plan masters planned) planned.few_parts;
  edges_among = fixed_among axis tech plan masters planned;
  all_from_origin = λ u from lt. fixed_leads axis tech plan masters u planned.each from lt;
}

-- the same of what the code has
pub system_shape : (axis : Axis) (tech : Tech) (plan : Plan) (masters : List Master) (vars : ℕ) (edges : List Edge)
    → ArePlanned tech plan masters
    → vars ≡ system_variables axis masters → edges ≡ fixed_of axis tech plan masters
    → IsConstraintGraph (record { vars = vars; edges = edges })
system_shape axis tech plan masters vars edges planned v e =
    let V : ℕ → Type 0 = λ n. IsConstraintGraph (record { vars = n; edges = edges }) in
    let E : List Edge → Type 0 =
    λ es. IsConstraintGraph (record { vars = system_variables axis masters; edges = es }) in
    subst V (sym v) (subst E (sym e) (fixed_shape axis tech plan masters planned))
