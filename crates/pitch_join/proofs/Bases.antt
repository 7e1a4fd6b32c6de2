-- Where the joint variables of each master begin.
use Rattle.std.proofs.Common.{◌≡◌, ℕ, zero, suc, ◌+◌, ◌-◌, ◌*◌, ◌<◌, ◌≤◌, List, [], ◌∷◌, ◌++◌, length, get_or, map}
use Rattle.std.proofs.{Common.{refl, sym, ap, ◌∙◌, subst, arith, ◌⊎◌, inl, inr}, Math.Seq.take-length}
use Rattle.std.proofs.lemmas.{Bool.cases_lt, List.{get_or_default, length-map, Elements.All-weaker, Sums.sum_by_more}}
use Rattle.std.proofs.lemmas.List.Sums.{sum_by_more_le, sum_by-le, count_by-le-length}
use Rattle.std.proofs.lemmas.List.FromFn.{get_or-map-range_with_len, length-map-range_with_len, map-range_with_len_more}
use Rattle.std.specs.{List.{All, range_with_len, sum_by}, Prelude.{◌^◌, slice_index}}
use Rattle.rule_table.specs.declared.technology.Tech.{Tech}
use Rattle.lam_geom.specs.declared.boxes.Axis.{Axis}
use Rattle.cell_model.specs.{declared.cell.Wire.Wire, Wiring.is_same_axis}
use Rattle.expand.specs.{declared.master.Master.Master, Masters.IsMaster, Variables.{crossing, variables_of}}
use Rattle.plan_model.specs.{declared.plan.Plan.Plan, Plan.IsPlanOver}
use Rattle.pitch_join.specs.Masters.{master_at, no_master, parts_in, master_ports, ports_of_masters, ArePlanned}
use Rattle.pitch_join.specs.Joined.{own_variables, base_of, bases_of, joined, system_variables, var_of}
use Rattle.pitch_join.{specs.Variables.{IsOfMaster, VariablesAreJoined}, proofs.Lists.sum_by_one_more}

-- ---- how many there are

pub own_few : (axis : Axis) (master : Master) → own_variables axis master ≤ 1 + parts_in master
own_few axis master =
    let few = count_by-le-length (λ (wire : Wire). is_same_axis wire.along (crossing axis)) master.cell.wires in
    omega arith

pub system_few : (axis : Axis) (masters : List Master) → length masters ≤ 256 → sum_by parts_in masters ≤ 65536
    → system_variables axis masters ≤ 2 ^ 17
system_few axis masters few parts =
    let h = sum_by_one_more (own_variables axis) parts_in masters (own_few axis) in
    omega arith

-- however many parts they have: each of so few masters has few
pub system_small : (axis : Axis) (tech : Tech) (masters : List Master) → All (IsMaster tech) masters
    → length masters ≤ 256 → system_variables axis masters ≤ 2 ^ 25
system_small axis tech masters each few =
    let F : Master → Type 0 = λ master. own_variables axis master ≤ 65537 in
    let own : All F masters =
    All-weaker (IsMaster tech) F
    (λ master is. let light = is.light in let own = own_few axis master in omega arith) masters each in
    let sum : sum_by (own_variables axis) masters ≤ length masters * 65537 =
    sum_by-le (own_variables axis) 65537 masters own in
    omega arith

-- ---- one master after the other

pub base_next : (axis : Axis) (masters : List Master) (m : ℕ) → m < length masters
    → base_of axis masters (m + 1) ≡ base_of axis masters m + own_variables axis (master_at masters m)
base_next axis masters m lt = let e = sum_by_more (own_variables axis) masters m no_master lt in omega arith

pub base_within : (axis : Axis) (masters : List Master) (m : ℕ) → m < length masters
    → base_of axis masters m + own_variables axis (master_at masters m) ≤ system_variables axis masters
base_within axis masters m lt = let e = sum_by_more_le (own_variables axis) masters m no_master lt in omega arith

pub base_end : (axis : Axis) (masters : List Master)
    → base_of axis masters (length masters) ≡ system_variables axis masters
base_end axis masters = ap (λ (xs : List Master). 1 + sum_by (own_variables axis) xs) (take-length masters)

-- all variables of a master come before those of a later one
base_after : (axis : Axis) (masters : List Master) (m d : ℕ) → m + suc d < length masters
    → base_of axis masters m + own_variables axis (master_at masters m) ≤ base_of axis masters (m + suc d)
base_after axis masters m zero lt =
    let next = base_next axis masters m (omega arith) in
    let e : m + 1 ≡ m + suc zero = omega arith in
    let at : base_of axis masters (m + 1) ≡ base_of axis masters (m + suc zero) = ap (base_of axis masters) e in
    omega arith
base_after axis masters m (suc d) lt =
    let rest = base_after axis masters m d (omega arith) in
    let next = base_next axis masters (m + suc d) (omega arith) in
    let e : (m + suc d) + 1 ≡ m + suc (suc d) = omega arith in
    let at : base_of axis masters ((m + suc d) + 1) ≡ base_of axis masters (m + suc (suc d)) =
    ap (base_of axis masters) e in
    omega arith

pub base_later : (axis : Axis) (masters : List Master) (m k : ℕ) → m < k → k < length masters
    → base_of axis masters m + own_variables axis (master_at masters m) ≤ base_of axis masters k
base_later axis masters m k lt among =
    let d : ℕ = k - suc m in
    let e : m + suc d ≡ k = omega arith in
    let P : ℕ → Type 0 = λ j. base_of axis masters m + own_variables axis (master_at masters m) ≤ base_of axis masters
    j in
    subst P e (base_after axis masters m d (omega arith))

-- ---- the master that a variable is of

-- u is number v of the own variables of a master
pub record IsOwn (axis : Axis) (masters : List Master) (u : ℕ) : Type 0 where
  pub master : ℕ
  pub number : ℕ
  pub among : master < length masters
  pub own : number < own_variables axis (master_at masters master)
  pub is : u ≡ base_of axis masters master + number

own_below : (axis : Axis) (masters : List Master) (n u : ℕ) → n ≤ length masters → 1 ≤ u → u < base_of axis masters n
    → IsOwn axis masters u
own_below axis masters zero u le from lt =
    let first : base_of axis masters zero ≡ 1 = refl in
    absurd (omega arith)
own_below axis masters (suc n) u le from lt = elim (cases_lt u (base_of axis masters n)) [
  | inl before ↦ own_below axis masters n u (omega arith) from before
  | inr here ↦
      let e : n + 1 ≡ suc n = omega arith in
      let at : base_of axis masters (n + 1) ≡ base_of axis masters (suc n) = ap (base_of axis masters) e in
      let next = base_next axis masters n (omega arith) in
      record {
        master = n;
        number = u - base_of axis masters n;
        among = omega arith;
        own = omega arith;
        is = omega arith;
      }
]

pub own_of : (axis : Axis) (masters : List Master) (u : ℕ) → 1 ≤ u → u < system_variables axis masters
    → IsOwn axis masters u
own_of axis masters u from lt =
    let end = base_end axis masters in
    own_below axis masters (length masters) u (omega arith) from (omega arith)

-- ---- local variables

-- of one master only one local variable is a joint one
pub joined_apart : (base v w : ℕ) → 1 ≤ base → joined base v ≡ joined base w → v ≡ w
joined_apart base zero zero from e = refl
joined_apart base zero (suc w) from e = absurd (let f : 0 ≡ base + w = e in omega arith)
joined_apart base (suc v) zero from e = absurd (let f : base + v ≡ 0 = e in omega arith)
joined_apart base (suc v) (suc w) from e = let f : base + v ≡ base + w = e in omega arith

-- only the origin is joined to the origin
pub joined_origin : (base v : ℕ) → 1 ≤ base → joined base v ≡ 0 → v ≡ 0
joined_origin base v from e = joined_apart base v zero from e

pub var_within : (axis : Axis) (masters : List Master) (m v : ℕ) → m < length masters
    → v < variables_of axis (master_at masters m).cell → var_of axis masters m v < system_variables axis masters
var_within axis masters m zero lt own = omega arith
var_within axis masters m (suc v) lt own =
    let w = base_within axis masters m lt in
    let is : var_of axis masters m (suc v) ≡ base_of axis masters m + v = refl in
    omega arith

var_covered : (axis : Axis) (masters : List Master) (u : ℕ) → u < system_variables axis masters
    → (u ≡ 0) ⊎ IsOfMaster axis masters u
var_covered axis masters zero lt = inl refl
var_covered axis masters (suc u) lt =
    let o = own_of axis masters (suc u) (omega arith) lt in
    let own = o.own in
    inr (record { master = o.master; local = suc o.number; among = o.among; own = omega arith; is = o.is })

-- a variable of a master is not one of a later one, unless both are the origin
var_later : (axis : Axis) (masters : List Master) (m k v w : ℕ) → m < k → k < length masters
    → v < variables_of axis (master_at masters m).cell → var_of axis masters m v ≡ var_of axis masters k w
    → (v ≡ 0) × (w ≡ 0)
var_later axis masters m k zero zero lt among own e = (refl, refl)
var_later axis masters m k zero (suc w) lt among own e =
    absurd (let f : 0 ≡ base_of axis masters k + w = e in omega arith)
var_later axis masters m k (suc v) zero lt among own e =
    absurd (let f : base_of axis masters m + v ≡ 0 = e in omega arith)
var_later axis masters m k (suc v) (suc w) lt among own e =
    let f : base_of axis masters m + v ≡ base_of axis masters k + w = e in
    let later = base_later axis masters m k lt among in
    absurd (omega arith)

pub var_apart : (axis : Axis) (masters : List Master) (m k v w : ℕ) → m < length masters → k < length masters
    → v < variables_of axis (master_at masters m).cell → w < variables_of axis (master_at masters k).cell
    → var_of axis masters m v ≡ var_of axis masters k w → ((v ≡ 0) × (w ≡ 0)) ⊎ ((m ≡ k) × (v ≡ w))
var_apart axis masters m k v w m_lt k_lt v_own w_own e = elim (cases_lt m k) [
  | inl before ↦ inl (var_later axis masters m k v w before k_lt v_own e)
  | inr from ↦
      elim (cases_lt k m) [
        | inl after ↦ let both = var_later axis masters k m w v after m_lt w_own (sym e) in inl (both.1, both.0)
        | inr to ↦
            let same : m ≡ k = omega arith in
            let f : var_of axis masters m v ≡ var_of axis masters m w = e
            ∙ ap (λ j. var_of axis masters j w) (sym same) in
            inr (same, joined_apart (base_of axis masters m) v w (omega arith) f)
      ]
]

pub variables_joined : (masters : List Master) → length masters ≤ 256 → sum_by parts_in masters ≤ 65536
    → VariablesAreJoined masters
variables_joined masters few parts = record {
  few = λ axis. system_few axis masters few parts;
  within = λ axis m v. var_within axis masters m v;
  covered = λ axis u. var_covered axis masters u;
  apart = λ axis m k v w. var_apart axis masters m k v w;
}

-- the masters of a plan are few
pub few_of_plan : (plan : Plan) (masters : List Master) → IsPlanOver (ports_of_masters masters) plan
    → length masters ≤ 256
few_of_plan plan masters planned =
    let few = planned.few_masters in
    let n : length (ports_of_masters masters) ≡ length masters = length-map masters master_ports in
    omega arith

pub planned_few : (tech : Tech) (plan : Plan) (masters : List Master) → ArePlanned tech plan masters
    → length masters ≤ 256
planned_few tech plan masters planned = few_of_plan plan masters planned.planned

pub planned_joined : (tech : Tech) (plan : Plan) (masters : List Master) → ArePlanned tech plan masters
    → VariablesAreJoined masters
planned_joined tech plan masters planned =
    variables_joined masters (planned_few tech plan masters planned) planned.few_parts

-- the count of the master that a loop reads
pub own_read : (axis : Axis) (masters : List Master) (k own : ℕ) (master : Master) → master ≡ get_or masters k master
    → k < length masters → own ≡ own_variables axis master → own ≡ own_variables axis (master_at masters k)
own_read axis masters k own master at lt e = e
    ∙ ap (own_variables axis) (at ∙ get_or_default masters k master no_master lt)

-- one more base of the list
pub bases_push : (axis : Axis) (masters : List Master) (k next : ℕ) (old new : List ℕ)
    → old ≡ map (base_of axis masters) (range_with_len 0 k) → next ≡ base_of axis masters k → new ≡ old ++ next ∷ []
    → new ≡ map (base_of axis masters) (range_with_len 0 (k + 1))
bases_push axis masters k next old new was is e =
    let zero_k : 0 + k ≡ k = omega arith in
    e ∙ (ap (λ xs. xs ++ next ∷ []) was
    ∙ (ap (λ n. map (base_of axis masters) (range_with_len 0 k) ++ n ∷ []) is
    ∙ sym (map-range_with_len_more (base_of axis masters) 0 k k zero_k)))

-- what the list of bases has
pub base_at : (axis : Axis) (masters : List Master) (bases : List ℕ) (m : ℕ) → bases ≡ bases_of axis masters
    → m < length masters → slice_index bases m ≡ base_of axis masters m
base_at axis masters bases m e lt =
    let zero_m : 0 + m ≡ m = omega arith in
    ap (λ (xs : List ℕ). slice_index xs m) e
    ∙ get_or-map-range_with_len (base_of axis masters) 0 (length masters) m m 0 lt zero_m

pub bases_counted : (axis : Axis) (masters : List Master) (bases : List ℕ) → bases ≡ bases_of axis masters
    → length bases ≡ length masters
bases_counted axis masters bases e = ap (λ (xs : List ℕ). length xs) e
    ∙ length-map-range_with_len (base_of axis masters) 0 (length masters)
