-- The wires of two ports that meet are linked.
use Rattle.std.proofs.Common.{◌≡◌, ℕ, zero, suc, ◌+◌, ℤ, ◌+ℤ◌, true, false, Bool, List, [], ◌∷◌, cond, Option, Some}
use Rattle.std.proofs.{Common.{None, refl, sym, ap, ◌∙◌, subst, arith}, lemmas.{Int.ints, List.Elements.All-contains}}
use Rattle.std.{proofs.lemmas.List.Elements.recursion_from_All, specs.{Prelude.option_map, List.{Contains, zip}}}
use Rattle.lam_geom.specs.declared.boxes.Axis.{Axis, TheVariants.{X, Y}}
use Rattle.rule_table.specs.declared.technology.Tech.{Tech}
use Rattle.sym_items.specs.declared.items.Coords.{Coords}
use Rattle.cell_model.specs.declared.cell.CellPort.{CellPort}
use Rattle.expand.specs.declared.master.Master.{Master}
use Rattle.list_facts.proofs.Elements.{all_of}
use Rattle.plan_model.specs.{declared.plan.{Match.Match, Plan.Plan}, Borders.{side_ports, side_before, side_after}}
use Rattle.plan_model.specs.Borders.{ports_before, ports_after, may_meet, misfit, FitsAt, meeting_ports, match_of}
use Rattle.plan_model.specs.{Borders.matches_at, GridNets.{IsNextInstance, MeetAt}, Instances.InstancePlace}
use Rattle.plan_model.specs.{Instances.{IsInstancePlace, grid_at, master_at_spot}, Plan.{grids_of, borders_of}}
use Rattle.plan_model.specs.{Plan.{matches_in, IsPlanOver}, Rows.{firsts, is_pair}}
use Rattle.pitch_join.specs.{Layouts.{line_in, LieOnOneLine}, Masters.{master_at, ports_of_masters}}
use Rattle.pitch_join.proofs.{Lists.all_firsts, Planned.ports_at}
use Rattle.instance_laws.proofs.{Gaps.IsDone, Lists.{out_of_flat_map, out_of_map}, Meeting.{master_among, master_is}}
use Rattle.instance_laws.proofs.{Meeting.match_listed, OnBorder.other, Places.{place_of, low_of, begin_of, line_of}}
use Rattle.instance_laws.proofs.{Places.{AreLaid, on_line, size_on_line, lines_of, place_among}, Ports.IsPortOf}
use Rattle.instance_laws.proofs.Ports.{wire_of_port, met_alike, no_fault}

-- ---- ports that meet

-- two ports that meet where two lists of ports fit
record AreMet (xs ys : List CellPort) (a b : CellPort) : Type 0 where
  first : Contains xs a
  second : Contains ys b
  may : may_meet a b ≡ true

zip_met : (xs ys : List CellPort) (a b : CellPort) → misfit xs ys ≡ None → Contains (zip xs ys) (a, b)
    → AreMet xs ys a b
zip_met [] ys a b e h = absurd (omega (arith, h.1))
zip_met (x ∷ xs) [] a b e h = absurd (omega (arith, h.1))
zip_met (x ∷ xs) (y ∷ ys) a b e h =
    let fits = by (may_meet x y) (misfit xs ys) e in
    first fits.0 h (λ k. zip_met xs ys a b (no_fault (misfit xs ys) fits.1) k)
  where
    by : (t : Bool) (rest : Option ℕ) → cond t (option_map suc rest) (Some 0) ≡ None
        → (t ≡ true) × (option_map suc rest ≡ None)
    by true rest e = (refl, e)
    by false rest e = absurd cc

    first : may_meet x y ≡ true → Contains ((x, y) ∷ zip xs ys) (a, b)
        → (Contains (zip xs ys) (a, b) → AreMet xs ys a b) → AreMet (x ∷ xs) (y ∷ ys) a b
    first meet (zero, lt, e) rest =
        let left : x ≡ a = ap (λ (z : CellPort × CellPort). z.0) e in
        let right : y ≡ b = ap (λ (z : CellPort × CellPort). z.1) e in
        record {
          first = (zero, omega arith, left);
          second = (zero, omega arith, right);
          may = ap (λ z. may_meet z b) (sym left) ∙ (ap (may_meet x) (sym right) ∙ meet);
        }
    first meet (suc n, lt, e) rest =
        let r = rest (n, omega (arith, lt), e) in
        record {
          first = (suc r.first.0, omega (arith, r.first.1), r.first.2);
          second = (suc r.second.0, omega (arith, r.second.1), r.second.2);
          may = r.may;
        }

-- masters of two instances whose ports meet fit at their border
fits_there : (axis : Axis) (ports : List (List CellPort)) (plan : Plan) (p q : InstancePlace) (a b : CellPort)
    → IsPlanOver ports plan → MeetAt axis ports (grids_of plan) p q a b
    → FitsAt axis ports (master_at_spot (grids_of plan) p, master_at_spot (grids_of plan) q)
fits_there axis ports plan p q a b planned meets =
    let grids : List (List (List ℕ)) = grids_of plan in
    let pair : ℕ × ℕ = (master_at_spot grids p, master_at_spot grids q) in
    let matched = subst (λ (l : List Match). Contains l (match_of pair (a, b))) (planned.matched axis)
    (match_listed axis ports plan p q a b planned meets) in
    let chosen : List (ℕ × ℕ) = firsts is_pair (borders_of axis grids) in
    let source = out_of_flat_map (matches_at axis ports) chosen (match_of pair (a, b)) matched in
    let met = out_of_map (match_of source.0) (meeting_ports axis ports source.0) (match_of pair (a, b)) source.2 in
    let left : source.0.0 ≡ pair.0 = ap (λ (z : Match). z.a) met.2 in
    let right : source.0.1 ≡ pair.1 = ap (λ (z : Match). z.b) met.2 in
    let same : source.0 ≡ pair = ap (λ (z : ℕ). (z, source.0.1)) left ∙ ap (λ (z : ℕ). (pair.0, z)) right in
    let all =
    all_of (FitsAt axis ports) chosen
    (all_firsts (FitsAt axis ports) is_pair (borders_of axis grids)
    (recursion_from_All (FitsAt axis ports) (borders_of axis grids) (planned.fits axis))) in
    subst (FitsAt axis ports) same (All-contains (FitsAt axis ports) chosen source.0 all source.1)

-- The ports of two instances that meet; axis is that on which the two are separated.
pub record AreBeside (axis : Axis) (masters : List Master) (layouts : List Coords) (m n : ℕ) (a b : CellPort) : Type
    0 where
  pub before : IsPortOf axis (master_at masters m).cell false a.wire a
  pub after : IsPortOf axis (master_at masters n).cell true b.wire b
  pub layer : a.layer ≡ b.layer
  pub width : a.width ≡ b.width
  pub line : line_in (other axis) masters layouts m a.wire ≡ line_in (other axis) masters layouts n b.wire

pub are_beside : (axis : Axis) (tech : Tech) (plan : Plan) (masters : List Master) (layouts : List Coords)
    (p q : InstancePlace) (a b : CellPort) → IsDone tech plan masters layouts
    → MeetAt (other axis) (ports_of_masters masters) (grids_of plan) p q a b
    → AreBeside axis masters layouts (master_at_spot (grids_of plan) p) (master_at_spot (grids_of plan) q) a b
are_beside axis tech plan masters layouts p q a b done meets =
    let along : Axis = other axis in
    let grids : List (List (List ℕ)) = grids_of plan in
    let ports : List (List CellPort) = ports_of_masters masters in
    let m : ℕ = master_at_spot grids p in
    let n : ℕ = master_at_spot grids q in
    let pair : ℕ × ℕ = (m, n) in
    let met = zip_met (ports_before along ports pair) (ports_after along ports pair) a b
    (fits_there along ports plan p q a b done.planned.planned meets) meets.met in
    let alike = met_alike a b met.may in
    let before = subst (λ (l : List CellPort). Contains (side_ports (side_before along) l) a)
    (ports_at masters m (master_among tech plan masters p done.planned meets.before)) met.first in
    let after = subst (λ (l : List CellPort). Contains (side_ports (side_after along) l) b)
    (ports_at masters n (master_among tech plan masters q done.planned meets.after)) met.second in
    let matched = match_listed along ports plan p q a b done.planned.planned meets in
    record {
      before = wire_of_port axis tech (master_at masters m).cell false a
          (master_is tech plan masters p done.planned meets.before).sound before;
      after = wire_of_port axis tech (master_at masters n).cell true b
          (master_is tech plan masters q done.planned meets.after).sound after;
      layer = alike.0;
      width = alike.1;
      line = All-contains (LieOnOneLine along masters layouts) (matches_in along plan) (match_of pair (a, b))
          (done.finished.meet along).lines matched;
    }

-- ---- places of instances next to one another

-- how the places of two instances differ of which one stands after the other
pub record IsNext (axis : Axis) (p q : InstancePlace) : Type 0 where
  pub one : p.grid ≡ q.grid
  pub next : place_of axis q ≡ place_of axis p + 1
  pub level : place_of (other axis) p ≡ place_of (other axis) q

pub is_next : (axis : Axis) (p q : InstancePlace) → IsNextInstance (other axis) p q → IsNext axis p q
is_next X p q h = record { one = sym h.0; next = h.2; level = sym h.1 }
is_next Y p q h = record { one = sym h.0; next = h.1; level = sym h.2 }

-- it begins where the other one ends
pub begins_after : (axis : Axis) (size : ℕ → ℤ) (widest : ℤ) (grids : List (List (List ℕ))) (p q : InstancePlace)
    → IsInstancePlace grids p → IsInstancePlace grids q → AreLaid axis size widest grids → IsNext axis p q
    → low_of axis size widest grids q ≡ (low_of axis size widest grids p +ℤ size (master_at_spot grids p))
begins_after axis size widest grids p q at_p at_q laid h =
    let own = laid p.grid at_p.grid in
    let rows : List (List ℕ) = grid_at grids p.grid in
    let low_p = on_line axis size widest grids p at_p own in
    let long_p = size_on_line axis size widest grids p at_p own in
    let there = on_line axis size widest grids q at_q (laid q.grid at_q.grid) in
    let low_q =
    subst (λ (g : ℕ). low_of axis size widest grids q
    ≡ (begin_of axis size widest grids g +ℤ line_of axis size (grid_at grids g) (place_of axis q))) (sym
    h.one) there in
    let next = h.next in
    let after : place_of axis q ≡ suc (place_of axis p) = omega (arith, next) in
    let line_q = ap (line_of axis size rows) after in
    let line = (lines_of axis size widest rows own).next (place_of axis p)
    (place_among axis grids p at_p own.rectangular) in
    omega (arith, ints, low_p, long_p, low_q, line_q, line)
