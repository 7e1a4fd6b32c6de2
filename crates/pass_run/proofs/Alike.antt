-- Values that agree on the variables of a master meet it alike; and values of the joint variables meet a plan where
-- the layouts that agree with them do.
use Rattle.std.proofs.{Common.{◌≡◌, ℕ, ◌<◌, ℤ, pos, List, length, get_or, sym, ◌∙◌, arith, All}, lemmas.Int.ints}
use Rattle.lam_geom.specs.declared.boxes.Axis.{Axis}
use Rattle.rule_table.specs.declared.technology.Tech.{Tech}
use Rattle.cons_graph.specs.{declared.edges.Edge.Edge, Constraints.IsEdgeAmong, Solutions.Meets}
use Rattle.sym_items.specs.{declared.items.Coords.Coords, Layouts.value_in}
use Rattle.expand.specs.{declared.master.Master.Master, Laws.{MeetsStructure, IsLawful}, Variables.variables_of}
use Rattle.pair_rules.specs.{declared.pairs.Pair.Pair, Bound.no_item, Candidates.Keeps}
use Rattle.plan_model.specs.{declared.plan.{Match.Match, Plan.Plan, Same.Same}, Plan.{pitch_in, matches_in}}
use Rattle.pitch_join.specs.{Masters.{ArePlanned, master_at, no_master}, Joined.var_of, Layouts.LayoutsMeet}
use Rattle.pitch_join.{specs.Meeting.MeetsPlan, proofs.{Planned.{pitch_among, matches_among}, Shape.cross_own}}
use Rattle.pass_run.proofs.Pairs.{IsAmong}

-- ---- one master

abbrev pub Agree : ℕ → (ℕ → ℤ) → (ℕ → ℤ) → Type 0
Agree vars x y = (v : ℕ) → v < vars → x v ≡ y v

meets_alike : (vars : ℕ) (x y : ℕ → ℤ) (e : Edge) → Agree vars x y → IsEdgeAmong vars e → Meets x e → Meets y e
meets_alike vars x y e agree among meets =
    let from = agree e.from among.from_in_range in
    let to = agree e.to among.to_in_range in
    omega (arith, ints, from, to, meets)

pub structure_alike : (axis : Axis) (tech : Tech) (master : Master) (x y : ℕ → ℤ) → IsLawful tech master
    → Agree (variables_of axis master.cell) x y
    → MeetsStructure axis tech master x → MeetsStructure axis tech master y
structure_alike axis tech master x y lawful agree met = record {
  origin = sym (agree 0 (omega arith)) ∙ met.origin;
  meets = λ k d lt. meets_alike (variables_of axis master.cell) x y _ agree ((lawful.shape axis).edges_among k d lt)
      (met.meets k d lt);
}

keeps_alike : (axis : Axis) (tech : Tech) (master : Master) (x y : ℕ → ℤ) (p : Pair) → IsLawful tech master
    → Agree (variables_of axis master.cell) x y
    → IsAmong master.items.list p → Keeps axis x master.items.list p → Keeps axis y master.items.list p
keeps_alike axis tech master x y p lawful agree among keeps =
    let high = agree _ (lawful.lie axis p.i no_item among.0).high_among.among in
    let low = agree _ (lawful.lie axis p.j no_item among.1).low_among.among in
    omega (arith, ints, high, low, keeps)

pub pairs_alike : (axis : Axis) (tech : Tech) (master : Master) (x y : ℕ → ℤ) (pairs : List Pair)
    → IsLawful tech master → Agree (variables_of axis master.cell) x y
    → All (IsAmong master.items.list) pairs → All (Keeps axis x master.items.list) pairs
    → All (Keeps axis y master.items.list) pairs
pairs_alike axis tech master x y pairs lawful agree among keeps =
    λ k d lt. keeps_alike axis tech master x y (get_or pairs k d) lawful agree (among k d lt) (keeps k d lt)

-- ---- a plan

-- values of the joint variables give each master's own variables the values of its layout
abbrev pub AgreeOn : Axis → List Master → List Coords → (ℕ → ℤ) → Type 0
AgreeOn axis masters layouts x = (m v : ℕ) → m < length masters → v < variables_of axis (master_at masters m).cell
    → x (var_of axis masters m v) ≡ value_in axis layouts m v

pub layouts_meet : (axis : Axis) (tech : Tech) (plan : Plan) (masters : List Master) (layouts : List Coords)
    (x : ℕ → ℤ) → ArePlanned tech plan masters → All (IsLawful tech) masters
    → AgreeOn axis masters layouts x → MeetsPlan axis tech plan masters x → LayoutsMeet axis tech plan masters layouts
layouts_meet axis tech plan masters layouts x planned lawful agree met =
    let sames = pitch_among axis tech plan masters planned in
    let meets = matches_among axis tech plan masters planned in
    record {
      structures = λ m lt. structure_alike axis tech (master_at masters m) _ (value_in axis layouts m)
          (lawful m no_master lt) (λ v own. agree m v lt own) (met.structures m lt);
      borders = λ k d lt.
          let same : Same = get_or (pitch_in axis plan) k d in
          let among = sames k d lt in
          sym (agree same.a 1 among.a (omega arith)) ∙ (met.borders k d lt ∙ agree same.b 1 among.b (omega arith));
      lines = λ k d lt.
          let pair : Match = get_or (matches_in axis plan) k d in
          let among = meets k d lt in
          sym (agree pair.a _ among.a.master (cross_own axis masters pair.a pair.a_wire among.a))
          ∙ (met.lines k d lt
          ∙ agree pair.b _ among.b.master (cross_own axis masters pair.b pair.b_wire among.b));
    }

pub plan_met : (axis : Axis) (tech : Tech) (plan : Plan) (masters : List Master) (layouts : List Coords) (x : ℕ → ℤ)
    → ArePlanned tech plan masters → All (IsLawful tech) masters
    → AgreeOn axis masters layouts x → x 0 ≡ pos 0 → LayoutsMeet axis tech plan masters layouts
    → MeetsPlan axis tech plan masters x
plan_met axis tech plan masters layouts x planned lawful agree origin met =
    let sames = pitch_among axis tech plan masters planned in
    let meets = matches_among axis tech plan masters planned in
    record {
      origin = origin;
      structures = λ m lt. structure_alike axis tech (master_at masters m) (value_in axis layouts m) _
          (lawful m no_master lt) (λ v own. sym (agree m v lt own)) (met.structures m lt);
      borders = λ k d lt.
          let same : Same = get_or (pitch_in axis plan) k d in
          let among = sames k d lt in
          agree same.a 1 among.a (omega arith) ∙ (met.borders k d lt ∙ sym (agree same.b 1 among.b (omega arith)));
      lines = λ k d lt.
          let pair : Match = get_or (matches_in axis plan) k d in
          let among = meets k d lt in
          agree pair.a _ among.a.master (cross_own axis masters pair.a pair.a_wire among.a)
          ∙ (met.lines k d lt
          ∙ sym (agree pair.b _ among.b.master (cross_own axis masters pair.b pair.b_wire among.b)));
    }
