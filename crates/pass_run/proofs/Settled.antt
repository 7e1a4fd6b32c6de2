-- The layouts after a pass of a plan.
use Rattle.std.proofs.Common.{◌≡◌, ℕ, zero, suc, ◌+◌, ◌<◌, ℤ, pos, List, ◌∷◌, length, refl, sym, ap, ◌∙◌, subst, arith}
use Rattle.std.proofs.{Common.{◌⊎◌, inl, inr, Contains, All}, lemmas.List.FromFn.get_or-map-range_with_len}
use Rattle.lam_geom.specs.declared.boxes.Axis.{Axis, TheVariants.{X, Y}}
use Rattle.rule_table.specs.declared.technology.Tech.{Tech}
use Rattle.cons_graph.specs.{Solutions.{IsSolution, value_of}, Walks.HasPositiveCycle}
use Rattle.round_log.proofs.Least.{positive_cycle_excludes}
use Rattle.liao_wong.specs.Answers.{IsWithinLimit}
use Rattle.sym_items.specs.{declared.items.Coords.Coords, Layouts.{layout_at, value_in}, Transposed.values_along}
use Rattle.expand.specs.{declared.master.Master.Master, Laws.IsLawful, Variables.variables_of}
use Rattle.pair_rules.{specs.{Candidates.candidates_of, Kept.kept_of, Laws.moved}, proofs.Pruning.candidates_apart}
use Rattle.plan_model.specs.declared.plan.Plan.{Plan}
use Rattle.pitch_join.specs.{Masters.{ArePlanned, master_at, no_master}, Joined.{system_variables, var_of, local_of}}
use Rattle.pitch_join.specs.{Joined.{pruned_system, full_system}, Layouts.LayoutsMeet, Meeting.{MeetsPlan, HaveBoxes}}
use Rattle.pitch_join.proofs.{Bases.var_within, Solving.joining_meets}
use Rattle.pass_run.specs.{Laid.{AreLaidOut, AreSettled}, Layouts.{system_values, local_values, with_values}}
use Rattle.pass_run.specs.{Meeting.IsNextFor, Theorems.AreWellPlaced, Least.StaySettled}
use Rattle.pass_run.proofs.{Alike.{AgreeOn, structure_alike, pairs_alike, layouts_meet, plan_met}, Moved.stays}
use Rattle.pass_run.proofs.{Pairs.{candidates_among, kept_pairs_among}, Values.{system_at, local_length, local_at}}
use Rattle.pass_run.proofs.Values.{layout_with, layouts_counted}

-- ---- the values of a solution

-- Values for a pass on an axis over some layouts: one for each joint variable, within 2^55 of 0, that solve its list.
pub record SolvesPass (axis : Axis) (tech : Tech) (plan : Plan) (masters : List Master) (before : List Coords)
    (x : List ℤ) : Type 0 where
  pub counted : length x ≡ system_variables axis masters
  pub small : All IsWithinLimit x
  pub solves : IsSolution (pruned_system axis tech plan masters before) (value_of x)

pub boxes_of : (tech : Tech) (masters : List Master) (layouts : List Coords) → AreLaidOut tech masters layouts
    → HaveBoxes masters layouts
boxes_of tech masters layouts laid = λ m lt. (laid.each m lt).of_master.boxes

local_small : (axis : Axis) (masters : List Master) (m : ℕ) (x : List ℤ) → length x ≡ system_variables axis masters
    → All IsWithinLimit x → m < length masters
    → All IsWithinLimit (local_values axis masters m x)
local_small axis masters m x counted small lt = λ k d k_lt.
    let count = local_length axis masters m x in
    let within = var_within axis masters m k lt (omega arith) in
    let e : 0 + k ≡ k = omega arith in
    let at = get_or-map-range_with_len (local_of axis masters m (value_of x)) 0
    (variables_of axis (master_at masters m).cell) k k d (omega arith) e in
    subst IsWithinLimit (sym at) (small (var_of axis masters m k) (pos 0) (omega arith))

-- the values of the axis of a pass, and of the other
along_moved : (axis : Axis) (c : Coords) (values : List ℤ) → values_along axis (moved axis c values) ≡ values
along_moved X c values = refl
along_moved Y c values = refl

along_other : (axis a : Axis) (c : Coords) (values : List ℤ) → (axis ≡ a → ⊥)
    → values_along a (moved axis c values) ≡ values_along a c
along_other X X c values differ = absurd (differ refl)
along_other X Y c values differ = refl
along_other Y X c values differ = refl
along_other Y Y c values differ = absurd (differ refl)

-- an axis that has had a pass is that of the last one, or has had one before
pub same_axis : (a b : Axis) → (a ≡ b) ⊎ (a ≡ b → ⊥)
same_axis X X = inl refl
same_axis X Y = inr (λ e. cc)
same_axis Y X = inr (λ e. cc)
same_axis Y Y = inl refl

had_before : (axis a : Axis) (had : List Axis) → (axis ≡ a → ⊥) → Contains (axis ∷ had) a → Contains had a
had_before axis a had differ (zero, lt, e) = absurd (differ e)
had_before axis a had differ (suc k, lt, e) = (k, omega arith, e)

-- the values of some layouts agree with them, and meet the plan where they do
system_meets : (axis : Axis) (tech : Tech) (plan : Plan) (masters : List Master) (before : List Coords)
    → ArePlanned tech plan masters → All (IsLawful tech) masters
    → AreLaidOut tech masters before → LayoutsMeet axis tech plan masters before
    → MeetsPlan axis tech plan masters (value_of (system_values axis before))
system_meets axis tech plan masters before planned lawful laid met =
    plan_met axis tech plan masters before (value_of (system_values axis before)) planned lawful
    (λ m v lt own. system_at axis tech masters before m v laid lt own) refl met

-- ---- after a pass

module _ {axis : Axis} {tech : Tech} {plan : Plan} {masters : List Master} {before : List Coords} {x : List ℤ}
    (planned : ArePlanned tech plan masters) (lawful : All (IsLawful tech) masters)
    (laid : AreLaidOut tech masters before) (values : SolvesPass axis tech plan masters before x) where
  abbrev now : List Coords
  now = with_values axis masters before x

  -- the part of each master meets it
  next_of : (m : ℕ) → m < length masters
      → IsNextFor axis tech (master_at masters m) (layout_at before m) (local_values axis masters m x)
  next_of m lt =
      let master : Master = master_at masters m in
      let c : Coords = layout_at before m in
      let met = ((joining_meets tech plan masters).of_list axis before (value_of x)).0 values.solves in
      let own = lawful m no_master lt in
      let local : ℕ → ℤ = local_of axis masters m (value_of x) in
      record {
        counted = local_length axis masters m x;
        small = local_small axis masters m x values.counted values.small lt;
        meets = record {
          structure = structure_alike axis tech master local _ own (λ v v_lt. sym (local_at axis masters m v x v_lt))
              (met.0.structures m lt);
          kept = pairs_alike axis tech master local _ (kept_of axis tech c master.items.list) own
              (λ v v_lt. sym (local_at axis masters m v x v_lt))
              (kept_pairs_among axis tech c master.items.list) (met.1 m lt);
        };
      }

  laid_next : AreLaidOut tech masters now
  laid_next = record {
    counted = layouts_counted axis masters before x;
    each = λ m lt. rw (layout_with axis masters before x m lt)
        (stays axis tech (master_at masters m) (layout_at before m) _ (lawful m no_master lt) (laid.each m lt)
        (next_of m lt)).laid;
  }

  met_next : LayoutsMeet axis tech plan masters now
  met_next =
      let met = ((joining_meets tech plan masters).of_list axis before (value_of x)).0 values.solves in
      let agree : AgreeOn axis masters now (value_of x) = λ m v lt own.
      let own_are : values_along axis (layout_at now m) ≡ local_values axis masters m x =
      ap (values_along axis) (layout_with axis masters before x m lt)
      ∙ along_moved axis (layout_at before m) (local_values axis masters m x) in
      sym (local_at axis masters m v x own) ∙ ap (λ vs. value_of vs v) (sym own_are) in
      layouts_meet axis tech plan masters now (value_of x) planned lawful agree met.0

  met_still : (a : Axis) → (axis ≡ a → ⊥) → LayoutsMeet a tech plan masters before → LayoutsMeet a tech plan masters now
  met_still a differ met =
      let agree : AgreeOn a masters now (value_of (system_values a before)) = λ m v lt own.
      let still : values_along a (layout_at now m) ≡ values_along a (layout_at before m) =
      ap (values_along a) (layout_with axis masters before x m lt)
      ∙ along_other axis a (layout_at before m) (local_values axis masters m x) differ in
      system_at a tech masters before m v laid lt own ∙ ap (λ vs. value_of vs v) (sym still) in
      layouts_meet a tech plan masters now (value_of (system_values a before)) planned lawful agree
      (system_meets a tech plan masters before planned lawful laid met)

  met_on : (had : List Axis) → AreSettled tech plan masters had before → (a : Axis) → Contains (axis ∷ had) a
      → LayoutsMeet a tech plan masters now
  met_on had settled a among =
      elim (same_axis axis a) [
        | inl same ↦ rw (← same) met_next
        | inr differ ↦ met_still a differ (settled.met a (had_before axis a had differ among))
      ]

  -- another pass may be made over the layouts, which meet the plan on each axis that has had a pass
  pub settles : StaySettled tech plan masters before axis now
  settles = record {
    laid = laid_next;
    settled = λ had settled. record {
      met = met_on had settled;
      long = λ a among m lt. ((lawful m no_master lt).stands a (value_in a now m)
          ((met_on had settled a among).structures m lt)).long;
    };
  }

pub placed_of : (tech : Tech) (plan : Plan) (masters : List Master) (layouts : List Coords) (had : List Axis)
    → AreLaidOut tech masters layouts → AreSettled tech plan masters had layouts
    → AreWellPlaced tech masters layouts had
placed_of tech plan masters layouts had laid settled = λ m lt. record {
  boxes = (laid.each m lt).of_master.boxes;
  long = λ a among. settled.long a among m lt;
  clean = (laid.each m lt).clean;
}

-- ---- a pass on an axis that has had one

module _ {axis : Axis} {tech : Tech} {plan : Plan} {masters : List Master} {had : List Axis} {before : List Coords}
    (planned : ArePlanned tech plan masters) (lawful : All (IsLawful tech) masters)
    (laid : AreLaidOut tech masters before) (settled : AreSettled tech plan masters had before)
    (among : Contains had axis) where
  -- the values before solve the system
  pub stays_solved : IsSolution (full_system axis tech plan masters before) (value_of (system_values axis before))
  stays_solved =
      let x : ℕ → ℤ = value_of (system_values axis before) in
      ((joining_meets tech plan masters).of_system axis before x (boxes_of tech masters before laid)).1 (
        system_meets axis tech plan masters before planned lawful laid (settled.met axis among),
        λ m lt.
            let master : Master = master_at masters m in
            let c : Coords = layout_at before m in
            let agree = λ (v : ℕ) (own : v < variables_of axis master.cell). sym
            (system_at axis tech masters before m v laid lt own) in
            pairs_alike axis tech master (value_in axis before m) (local_of axis masters m x)
            (candidates_of axis tech c master.items.list) (lawful m no_master lt)
            agree (candidates_among axis tech c master.items.list) (candidates_apart axis tech c master.items.list),
      )

  -- so it has no positive cycle
  pub no_cycle_again : HasPositiveCycle (full_system axis tech plan masters before) → ⊥
  no_cycle_again cycle = positive_cycle_excludes (full_system axis tech plan masters before) cycle.0
      (value_of (system_values axis before)) cycle.1 stays_solved
