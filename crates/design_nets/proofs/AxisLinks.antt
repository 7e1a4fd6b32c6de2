-- The links of the nets of one more instance with those of the instance above it (on x) or on its right (on y).
use Rattle.smallvec.specs.SmallVec.{SmallVec}
use Rattle.std.proofs.Common.{◌≡◌, ℕ, ◌+◌, ◌<◌, List, length, get_or, Contains, Vec, Global, ◌⊎◌, inl, inr, sym, ap}
use Rattle.std.proofs.{Common.{◌∙◌, subst, arith}, lemmas.{Bool.cases_lt, List.Elements.All-contains}}
use Rattle.lam_geom.specs.declared.boxes.Axis.{Axis, TheVariants.{X, Y}}
use Rattle.cell_model.specs.declared.cell.Nets.{Nets}
use Rattle.plan_model.specs.{declared.plan.Plan.Plan, GridNets.IsNextInstance, Instances.InstancePlace, Plan.grids_of}
use Rattle.plan_model.specs.Plan.{matches_in}
use Rattle.design_nets.specs.{declared.{instances.Instance.Instance, meetings.Meeting.Meeting}, Instances.no_instance}
use Rattle.design_nets.specs.{Instances.{spot_no, master_no}, Joining.{own_net, IsOwn, HaveNets}, Linking.AreAdded}
use Rattle.design_nets.specs.{Linking.{IsListedLink, IsMeetLink}, Listing.list_in, Meetings.{row_of, meetings_at}}
use Rattle.design_nets.specs.{Meetings.{IsSquare, IsMatchIn, IsMeeting, AreMeetings}, Nets.{no_nets, nets_no}}
use Rattle.design_nets.proofs.{Added.{added_then, added_same}, Spots.{number_of_spot, instance_stands}, Table.row_read}
use Rattle.design_nets.proofs.Listing.{list_read}

-- ---- what is read in a table

pub read_row : (table : List (Vec (SmallVec Meeting) Global)) (count a : ℕ) (d : Vec (SmallVec Meeting) Global)
    (row : List (SmallVec Meeting)) → IsSquare count table → a < count → row ≡ (get_or table a d).items
    → (row ≡ row_of table a) × (length row ≡ count)
read_row table count a d row square lt is =
    let rows = square.rows in
    let same : row ≡ row_of table a = is ∙ row_read table a d (omega (arith, lt, rows)) in
    (same, ap (λ (r : List (SmallVec Meeting)). length r) same ∙ square.columns a lt)

pub read_list : (table : List (Vec (SmallVec Meeting) Global)) (a b : ℕ) (d : SmallVec Meeting)
    (row : List (SmallVec Meeting)) (list : List Meeting) → row ≡ row_of table a → b < length row
    → list ≡ (get_or row b d).items
    → list ≡ meetings_at table a b
read_list table a b d row list same lt is = is
    ∙ (list_read row b d lt ∙ ap (λ (r : List (SmallVec Meeting)). list_in r b) same)

-- ---- nets that meet

module _ (axis : Axis) (plan : Plan) (nets : List Nets) (instances : List Instance)
    (have : HaveNets plan nets instances) where
  pub master_lt : (s : ℕ) → s < length instances → master_no instances s < length nets
  master_lt s lt = have.among s no_instance lt

  -- the net of a wire is among those of its master
  wire_counted : (m wire : ℕ) → m < length nets → wire < length (nets_no nets m).wire
      → get_or (nets_no nets m).wire wire 0 < (nets_no nets m).count
  wire_counted m wire lt among = have.counted m no_nets lt wire 0 among

  pub meeting_before : (s t : ℕ) (m : Meeting) → s < length instances
      → IsMeeting nets (matches_in axis plan) (master_no instances s) (master_no instances t) m
      → IsOwn nets instances (own_net s m.before)
  meeting_before s t m lt k =
      let is = All-contains (IsMatchIn nets) (matches_in axis plan) k.met (have.matches axis) k.matched in
      let below = wire_counted k.met.a k.met.a_wire is.first is.first_wire in
      let same : get_or (nets_no nets k.met.a).wire k.met.a_wire 0 ≡ m.before =
      ap (λ (z : Meeting). z.before) k.nets_are in
      record {
        instance = lt;
        net = subst (λ (a : ℕ). m.before < (nets_no nets a).count) k.first
            (subst (λ (n : ℕ). n < (nets_no nets k.met.a).count) same below);
      }

  pub meeting_after : (s t : ℕ) (m : Meeting) → t < length instances
      → IsMeeting nets (matches_in axis plan) (master_no instances s) (master_no instances t) m
      → IsOwn nets instances (own_net t m.after)
  meeting_after s t m lt k =
      let is = All-contains (IsMatchIn nets) (matches_in axis plan) k.met (have.matches axis) k.matched in
      let below = wire_counted k.met.b k.met.b_wire is.second is.second_wire in
      let same : get_or (nets_no nets k.met.b).wire k.met.b_wire 0 ≡ m.after =
      ap (λ (z : Meeting). z.after) k.nets_are in
      record {
        instance = lt;
        net = subst (λ (b : ℕ). m.after < (nets_no nets b).count) k.second
            (subst (λ (n : ℕ). n < (nets_no nets k.met.b).count) same below);
      }

  -- at most one instance lies above an instance (on x), or on its right (on y)
  spot_same : (p q r : InstancePlace) → IsNextInstance axis p q → IsNextInstance axis p r → q ≡ r
  spot_same p q r h k = by axis h k
    where
      all : (q r : InstancePlace) → q.grid ≡ r.grid → q.row ≡ r.row → q.col ≡ r.col → q ≡ r
      all q r g w c =
          ap (λ z. let s : InstancePlace = record { grid = z; row = q.row; col = q.col } in s) g
          ∙ (ap (λ z. let s : InstancePlace = record { grid = r.grid; row = z; col = q.col } in s) w
          ∙ ap (λ z. let s : InstancePlace = record { grid = r.grid; row = r.row; col = z } in s) c)

      by : (axis : Axis) → IsNextInstance axis p q → IsNextInstance axis p r → q ≡ r
      by X h k = all q r (h.0 ∙ sym k.0) (h.1 ∙ sym k.1) (h.2 ∙ sym k.2)
      by Y h k = all q r (h.0 ∙ sym k.0) (h.1 ∙ sym k.1) (h.2 ∙ sym k.2)

  one_after : (s t u : ℕ) → t < length instances → u < length instances
      → IsNextInstance axis (spot_no instances s) (spot_no instances t)
      → IsNextInstance axis (spot_no instances s) (spot_no instances u) → t ≡ u
  one_after s t u lt lu h k =
      let grids = grids_of plan in
      let i = instance_stands grids instances t have.are lt in
      let j = instance_stands grids instances u have.are lu in
      i.number
      ∙ (ap (number_of_spot grids)
      (spot_same (spot_no instances s) (spot_no instances t) (spot_no instances u) h k) ∙ sym j.number)

  -- ---- one more instance

  module _ (firsts : List ℕ) (s : ℕ) (lt : s < length instances) where
    more : (u v : ℕ) → IsMeetLink axis plan nets instances firsts s u v
        → IsMeetLink axis plan nets instances firsts (s + 1) u v
    more u v l =
        (let passed = l.passed in record {
          a = l.a;
          b = l.b;
          meet = l.meet;
          passed = omega (arith, passed);
          first = l.first;
          second = l.second;
        })

    at_last : (u v : ℕ) (l : IsMeetLink axis plan nets instances firsts (s + 1) u v)
        → IsMeetLink axis plan nets instances firsts s u v ⊎ (l.a.instance ≡ s)
    at_last u v l = elim (cases_lt l.a.instance s) [
      | inl passed ↦
          inl (record { a = l.a; b = l.b; meet = l.meet; passed = passed; first = l.first; second = l.second })
      | inr past ↦ (let passed = l.passed in inr (omega (arith, passed, past)))
    ]

    pub none_linked : (old new : List (ℕ × ℕ))
        → ((t : ℕ) → t < length instances → IsNextInstance axis (spot_no instances s) (spot_no instances t) → ⊥)
        → AreAdded (IsMeetLink axis plan nets instances firsts s) old new
        → AreAdded (IsMeetLink axis plan nets instances firsts (s + 1)) old new
    none_linked old new none h =
        added_same (IsMeetLink axis plan nets instances firsts s) (IsMeetLink axis plan nets instances firsts (s + 1))
        old new h more
        (λ u v l. elim (at_last u v l) [
          | inl before ↦ before
          | inr e ↦
              absurd (none l.b.instance l.meet.after
              (subst (λ (k : ℕ). IsNextInstance axis (spot_no instances k) (spot_no instances l.b.instance)) e
              l.meet.next))
        ])

    pub axis_linked : (table : List (Vec (SmallVec Meeting) Global)) (t : ℕ) (list : List Meeting)
        (old now new : List (ℕ × ℕ)) → AreMeetings nets (matches_in axis plan) table → t < length instances
        → IsNextInstance axis (spot_no instances s) (spot_no instances t)
        → list ≡ meetings_at table (master_no instances s) (master_no instances t)
        → AreAdded (IsMeetLink axis plan nets instances firsts s) old now
        → AreAdded (IsListedLink list (get_or firsts s 0) (get_or firsts t 0)) now new
        → AreAdded (IsMeetLink axis plan nets instances firsts (s + 1)) old new
    axis_linked table t list old now new is lt_t next read h k =
        let first : ℕ = get_or firsts s 0 in
        let second : ℕ = get_or firsts t 0 in
        let L : ℕ → ℕ → Type 0 = IsListedLink list first second in
        let to : (u v : ℕ) → L u v → IsMeetLink axis plan nets instances firsts (s + 1) u v =
        λ u v l. (
        let met = is.sound (master_no instances s) (master_no instances t) l.m
        (subst (λ (ms : List Meeting). Contains ms l.m) read l.listed) in
        record {
          a = own_net s l.m.before;
          b = own_net t l.m.after;
          meet = record { before = lt; after = lt_t; next = next; meeting = met };
          passed = omega arith;
          first = l.before;
          second = l.after;
        }) in
        let last : (u v : ℕ) (l : IsMeetLink axis plan nets instances firsts (s + 1) u v) → l.a.instance ≡ s → L u v =
        λ u v l e. (
        let t_same : l.b.instance ≡ t =
        one_after s l.b.instance t l.meet.after lt_t
        (subst (λ (n : ℕ). IsNextInstance axis (spot_no instances n) (spot_no instances l.b.instance)) e
        l.meet.next) next in
        let m : Meeting = record { before = l.a.net; after = l.b.net } in
        let k = l.meet.meeting in
        let found : Contains (meetings_at table k.met.a k.met.b) m =
        subst (λ (z : Meeting). Contains (meetings_at table k.met.a k.met.b) z) k.nets_are
        (is.complete k.met k.matched) in
        let a_same : k.met.a ≡ master_no instances s = k.first ∙ ap (master_no instances) e in
        let b_same : k.met.b ≡ master_no instances t = k.second ∙ ap (master_no instances) t_same in
        let there : Contains (meetings_at table (master_no instances s) (master_no instances t)) m =
        subst (λ (z : ℕ). Contains (meetings_at table z (master_no instances t)) m) a_same
        (subst (λ (z : ℕ). Contains (meetings_at table k.met.a z) m) b_same found) in
        record {
          m = m;
          listed = subst (λ (ms : List Meeting). Contains ms m) (sym read) there;
          before = l.first ∙ ap (λ (z : ℕ). get_or firsts z 0 + l.a.net) e;
          after = l.second ∙ ap (λ (z : ℕ). get_or firsts z 0 + l.b.net) t_same;
        }) in
        added_then (IsMeetLink axis plan nets instances firsts s) L
        (IsMeetLink axis plan nets instances firsts (s + 1)) old now new h k more to
        (λ u v l. elim (at_last u v l) [ inl before ↦ inl before | inr e ↦ inr (last u v l e) ])
