-- The ports that a plan matches are those that meet, so nets that its matches join are one net of the grids.
use Rattle.std.proofs.Common.{◌≡◌, ℕ, ◌<◌, List, length, Contains, refl, sym, ap, ◌∙◌, subst, arith}
use Rattle.std.{proofs.lemmas.List.{get_or_default, Elements.{All-from_get_or, All-weaker}}, specs.List.All}
use Rattle.lam_geom.specs.declared.boxes.Axis.{Axis}
use Rattle.rule_table.specs.declared.technology.Tech.{Tech}
use Rattle.cell_model.specs.declared.cell.{CellPort.CellPort, Nets.Nets}
use Rattle.expand.specs.declared.master.Master.{Master}
use Rattle.plan_model.specs.{declared.plan.{Match.Match, Plan.Plan}, Borders.{meeting_ports, match_of, matches_at}}
use Rattle.plan_model.specs.GridNets.{IsNextInstance, MeetAt, net_of_port, IsOneNet, the_same, met_before, met_after}
use Rattle.plan_model.specs.{Instances.{InstancePlace, IsInstancePlace, master_at_spot}, Plan.{grids_of, borders_of}}
use Rattle.plan_model.specs.{Plan.matches_in, Rows.{firsts, is_pair}}
use Rattle.pitch_join.specs.{Among.IsMatchAmong, Masters.{master_at, ports_of_masters}}
use Rattle.pitch_join.proofs.Planned.{matches_of_plan}
use Rattle.instance_laws.specs.Planned.{AreOfPlan}
use Rattle.instance_laws.proofs.{Lists.{out_of_flat_map, out_of_map}, Meeting.{master_among, match_listed}}
use Rattle.design_nets.specs.declared.{instances.Instance.Instance, meetings.Meeting.Meeting, owners.OwnNet.OwnNet}
use Rattle.design_nets.specs.{Instances.{instances_of, no_instance, spot_no}, Joining.{own_net, HaveNets, Meet}}
use Rattle.design_nets.specs.{Joining.{AreJoined, same, forth, back}, Meetings.{wire_net, IsMatchIn}, Nets.no_nets}
use Rattle.design_nets.{specs.Nets.{nets_no, AreNetsOfAll}, proofs.Counted.{wire_count, wire_below}}
use Rattle.design_nets.proofs.Spots.{number_of_spot, spot_there, instance_stands, instance_at_spot}

-- ---- the nets of the masters of a plan

pub have_nets : (tech : Tech) (plan : Plan) (masters : List Master) (nets : List Nets) (instances : List Instance)
    → AreOfPlan tech plan masters → AreNetsOfAll masters nets → instances ≡ instances_of (grids_of plan)
    → HaveNets plan nets instances
have_nets tech plan masters nets instances planned all are =
    let counted = all.counted in
    record {
      are = are;
      rectangular = planned.planned.rectangular;
      among = All-from_get_or (λ (i : Instance). i.master < length nets) instances no_instance (λ s lt.
          (let i = instance_stands (grids_of plan) instances s are lt in
          let among = master_among tech plan masters (spot_no instances s) planned i.spot in
          let own = i.master in
          omega (arith, among, own, counted)));
      counted = λ m d lt. (let few : m < length masters = omega (arith, lt, counted) in
          subst (λ (n : Nets). All (λ k. k < n.count) n.wire) (sym (get_or_default nets m d no_nets lt))
          (wire_below (master_at masters m).cell (nets_no nets m) (all.each m few)));
      matches = λ axis. All-weaker (IsMatchAmong axis masters) (IsMatchIn nets) (λ met h.
          (let first = h.a.master in
          let second = h.b.master in
          let first_wire = h.a.wire_among in
          let second_wire = h.b.wire_among in
          let first_counted = wire_count (master_at masters met.a).cell (nets_no nets met.a) (all.each met.a first) in
          let second_counted = wire_count (master_at masters met.b).cell (nets_no nets met.b) (all.each met.b second) in
          record {
            first = omega (arith, first, counted);
            second = omega (arith, second, counted);
            first_wire = omega (arith, first_wire, first_counted);
            second_wire = omega (arith, second_wire, second_counted);
          })) (matches_in axis plan) (matches_of_plan axis tech plan masters planned.each planned.planned);
    }

-- ---- ports that meet, and matches of the plan

module _ (tech : Tech) (plan : Plan) (masters : List Master) (nets : List Nets) (instances : List Instance)
    (planned : AreOfPlan tech plan masters) (are : instances ≡ instances_of (grids_of plan)) where
  abbrev Grids : List (List (List ℕ))
  Grids = grids_of plan

  abbrev Ports : List (List CellPort)
  Ports = ports_of_masters masters

  -- two nets of instances are one net of the grids
  abbrev pub AreOneNet : OwnNet → OwnNet → Type 0
  AreOneNet a b = IsOneNet (ports_of_masters masters) (nets_no nets) (grids_of plan) (spot_no instances a.instance)
      a.net (spot_no instances b.instance) b.net

  -- the ports that a meeting is of
  record HasPorts (axis : Axis) (a b : OwnNet) : Type 0 where
    first : CellPort
    second : CellPort
    met : MeetAt axis Ports Grids (spot_no instances a.instance) (spot_no instances b.instance) first second
    before : net_of_port (nets_no nets) (master_at_spot Grids (spot_no instances a.instance)) first ≡ a.net
    after : net_of_port (nets_no nets) (master_at_spot Grids (spot_no instances b.instance)) second ≡ b.net

  ports_of_meet : (axis : Axis) (a b : OwnNet) → Meet axis plan nets instances a b → HasPorts axis a b
  ports_of_meet axis a b meet =
      let i = instance_stands Grids instances a.instance are meet.before in
      let j = instance_stands Grids instances b.instance are meet.after in
      let k = meet.meeting in
      let met : Match = k.met in
      let matched = subst (λ (ms : List Match). Contains ms met) (planned.planned.matched axis) k.matched in
      let source = out_of_flat_map (matches_at axis Ports) (firsts is_pair (borders_of axis Grids)) met matched in
      let pair : ℕ × ℕ = source.0 in
      let two = out_of_map (match_of pair) (meeting_ports axis Ports pair) met source.2 in
      let p : InstancePlace = spot_no instances a.instance in
      let q : InstancePlace = spot_no instances b.instance in
      let left : pair.0 ≡ master_at_spot Grids p = ap (λ (z : Match). z.a) two.2 ∙ (k.first ∙ i.master) in
      let right : pair.1 ≡ master_at_spot Grids q = ap (λ (z : Match). z.b) two.2 ∙ (k.second ∙ j.master) in
      let own : pair ≡ (master_at_spot Grids p, master_at_spot Grids q) = ap (λ (z : ℕ). (z, pair.1)) left
      ∙ ap (λ (z : ℕ). (master_at_spot Grids p, z)) right in
      let one : CellPort = two.0.0 in
      let other : CellPort = two.0.1 in
      let first_net : wire_net nets (master_at_spot Grids p) one.wire ≡ a.net =
      ap (λ (m : ℕ). wire_net nets m one.wire) (sym left)
      ∙ (ap (λ (z : Match). wire_net nets z.a z.a_wire) two.2 ∙ ap (λ (z : Meeting). z.before) k.nets_are) in
      let second_net : wire_net nets (master_at_spot Grids q) other.wire ≡ b.net =
      ap (λ (m : ℕ). wire_net nets m other.wire) (sym right)
      ∙ (ap (λ (z : Match). wire_net nets z.b z.b_wire) two.2 ∙ ap (λ (z : Meeting). z.after) k.nets_are) in
      record {
        first = one;
        second = other;
        met = record {
          before = i.spot;
          after = j.spot;
          next = meet.next;
          met = subst (λ (z : ℕ × ℕ). Contains (meeting_ports axis Ports z) (one, other)) own two.1;
        };
        before = first_net;
        after = second_net;
      }

  -- the number of a spot's instance
  record IsNumber (s : ℕ) (p : InstancePlace) : Type 0 where
    among : s < length instances
    spot : spot_no instances s ≡ p

  number_there : (p : InstancePlace) → IsInstancePlace Grids p → IsNumber (number_of_spot Grids p) p
  number_there p is =
      (let h = instance_at_spot Grids instances (number_of_spot Grids p) p are (spot_there Grids p is) in
      record { among = h.0; spot = h.1 })

  one_number : (s t : ℕ) (p : InstancePlace) → IsNumber s p → IsNumber t p → s ≡ t
  one_number s t p h k =
      let i = instance_stands Grids instances s are h.among in
      let j = instance_stands Grids instances t are k.among in
      i.number ∙ (ap (number_of_spot Grids) (h.spot ∙ sym k.spot) ∙ sym j.number)

  meet_of_ports : (axis : Axis) (p q : InstancePlace) (a b : CellPort) (s t : ℕ) → MeetAt axis Ports Grids p q a b
      → IsNumber s p → IsNumber t q
      → Meet axis plan nets instances (own_net s (net_of_port (nets_no nets) (master_at_spot Grids p) a))
      (own_net t (net_of_port (nets_no nets) (master_at_spot Grids q) b))
  meet_of_ports axis p q a b s t met h k =
      let i = instance_stands Grids instances s are h.among in
      let j = instance_stands Grids instances t are k.among in
      record {
        before = h.among;
        after = k.among;
        next = subst (λ (z : InstancePlace). IsNextInstance axis z (spot_no instances t)) (sym h.spot)
            (subst (λ (z : InstancePlace). IsNextInstance axis p z) (sym k.spot) met.next);
        meeting = record {
          met = match_of (master_at_spot Grids p, master_at_spot Grids q) (a, b);
          matched = match_listed axis Ports plan p q a b planned.planned met;
          first = ap (master_at_spot Grids) (sym h.spot) ∙ sym i.master;
          second = ap (master_at_spot Grids) (sym k.spot) ∙ sym j.master;
          nets_are = refl;
        };
      }

  -- ---- nets that are joined, and one net

  pub joined_one : (a b : OwnNet) → AreJoined plan nets instances a b → AreOneNet a b
  joined_one a b same = the_same
  joined_one a b (forth axis d e chain meet) =
      let h = ports_of_meet axis d e meet in
      let before = joined_one a d chain in
      let P : ℕ → Type 0 = λ n. IsOneNet Ports (nets_no nets) Grids (spot_no instances a.instance) a.net
      (spot_no instances d.instance) n in
      let Q : ℕ → Type 0 = λ n. IsOneNet Ports (nets_no nets) Grids (spot_no instances a.instance) a.net
      (spot_no instances e.instance) n in
      subst Q h.after
      (met_before axis (spot_no instances d.instance) (spot_no instances e.instance) h.first h.second
      (subst P (sym h.before) before) h.met)
  joined_one a b (back axis d e chain meet) =
      let h = ports_of_meet axis d e meet in
      let before = joined_one a e chain in
      let P : ℕ → Type 0 = λ n. IsOneNet Ports (nets_no nets) Grids (spot_no instances a.instance) a.net
      (spot_no instances e.instance) n in
      let Q : ℕ → Type 0 = λ n. IsOneNet Ports (nets_no nets) Grids (spot_no instances a.instance) a.net
      (spot_no instances d.instance) n in
      subst Q h.before
      (met_after axis (spot_no instances d.instance) (spot_no instances e.instance) h.first h.second
      (subst P (sym h.after) before) h.met)

  one_joined_at : (p : InstancePlace) (n : ℕ) (q : InstancePlace) (m : ℕ)
      → IsOneNet Ports (nets_no nets) Grids p n q m → (s t : ℕ) → IsNumber s p → IsNumber t q
      → AreJoined plan nets instances (own_net s n) (own_net t m)
  one_joined_at p n q m the_same s t h k =
      (let e = one_number s t p h k in subst (λ (z : ℕ). AreJoined plan nets instances (own_net s n) (own_net z n)) e
      same)
  one_joined_at p n q m (met_before axis r u a b chain met) s t h k =
      let i = number_there r met.before in
      let d : ℕ = number_of_spot Grids r in
      let at : ℕ = net_of_port (nets_no nets) (master_at_spot Grids r) a in
      forth axis (own_net d at) (own_net t (net_of_port (nets_no nets) (master_at_spot Grids u) b))
      (one_joined_at p n r at chain s d h i) (meet_of_ports axis r u a b d t met i k)
  one_joined_at p n q m (met_after axis r u a b chain met) s t h k =
      let j = number_there u met.after in
      let e : ℕ = number_of_spot Grids u in
      let at : ℕ = net_of_port (nets_no nets) (master_at_spot Grids u) b in
      back axis (own_net t (net_of_port (nets_no nets) (master_at_spot Grids r) a)) (own_net e at)
      (one_joined_at p n u at chain s e h j) (meet_of_ports axis r u a b t e met k j)

  pub one_joined : (a b : OwnNet) → a.instance < length instances → b.instance < length instances → AreOneNet a b
      → AreJoined plan nets instances a b
  one_joined a b lt_a lt_b h =
      one_joined_at (spot_no instances a.instance) a.net (spot_no instances b.instance) b.net h a.instance b.instance
      (record { among = lt_a; spot = refl }) (record { among = lt_b; spot = refl })
