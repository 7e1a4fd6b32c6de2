-- The nets of instances: which of them ports join, and numbers for them.
use Rattle.std.specs.Prelude.{◌≡◌, ◌↔◌, ℕ, ◌<◌, All, Some, List, length, map, slice_get, slice_index}
use Rattle.std.specs.List.{range_with_len}
use Rattle.lam_geom.specs.declared.boxes.Axis.{Axis}
use Rattle.cell_model.specs.declared.cell.Nets.{Nets}
use Rattle.graph_search.specs.Netting.{IsNumberedInOrder}
use Rattle.plan_model.specs.{declared.plan.Plan.Plan, GridNets.IsNextInstance, Plan.{grids_of, matches_in}}
use Rattle.plan_model.specs.Rows.{IsRectangular}
use Rattle.design_nets.specs.{declared.{instances.Instance.Instance, owners.OwnNet.OwnNet}, Instances.instances_of}
use Rattle.design_nets.specs.{Instances.{spot_no, master_no}, Meetings.{IsMatchIn, IsMeeting}, Nets.nets_no}

-- ---- nets of instances

abbrev pub own_net : ℕ → ℕ → OwnNet
own_net s n = record { instance = s; net = n }

-- how many nets instance number s has, and these nets
abbrev pub net_count : List Nets → List Instance → ℕ → ℕ
net_count nets instances s = (nets_no nets (master_no instances s)).count

abbrev pub nets_in : List Nets → List Instance → ℕ → List OwnNet
nets_in nets instances s = map (own_net s) (range_with_len 0 (net_count nets instances s))

pub record IsOwn (nets : List Nets) (instances : List Instance) (own : OwnNet) : Type 0 where
  pub instance : own.instance < length instances
  pub net : own.net < net_count nets instances own.instance

-- the nets of wires are among those that are counted
abbrev pub AreCounted : Nets → Type 0
AreCounted nets = All (λ n. n < nets.count) nets.wire

-- The instances of a plan, and nets of their masters.
pub record HaveNets (plan : Plan) (nets : List Nets) (instances : List Instance) : Type 0 where
  pub are : instances ≡ instances_of (grids_of plan)
  pub rectangular : All IsRectangular (grids_of plan)
  pub among : All (λ (i : Instance). i.master < length nets) instances
  pub counted : All AreCounted nets
  pub matches : (axis : Axis) → All (IsMatchIn nets) (matches_in axis plan)

-- ---- which ports join

-- ports join a net of an instance and one of the instance after it
pub record Meet (axis : Axis) (plan : Plan) (nets : List Nets) (instances : List Instance) (a b : OwnNet) : Type 0 where
  pub before : a.instance < length instances
  pub after : b.instance < length instances
  pub next : IsNextInstance axis (spot_no instances a.instance) (spot_no instances b.instance)
  pub meeting : IsMeeting nets (matches_in axis plan) (master_no instances a.instance)
      (master_no instances b.instance) (record { before = a.net; after = b.net })

-- a chain of ports joins two nets of instances
pub data AreJoined (plan : Plan) (nets : List Nets) (instances : List Instance) (a : OwnNet) : OwnNet → Type 0 where
  same : AreJoined plan nets instances a a
  forth : (axis : Axis) (b c : OwnNet) → AreJoined plan nets instances a b → Meet axis plan nets instances b c
      → AreJoined plan nets instances a c
  back : (axis : Axis) (b c : OwnNet) → AreJoined plan nets instances a c → Meet axis plan nets instances b c
      → AreJoined plan nets instances a b

-- numbers for some nets of instances, equal exactly where ports join these, in order of the first of each
pub record AreNetNumbers (plan : Plan) (nets : List Nets) (instances : List Instance) (owners : List OwnNet)
    (numbers : List ℕ) : Type 0 where
  pub counted : length numbers ≡ length owners
  pub joined : (i j : ℕ) (a b : OwnNet) → slice_get owners i ≡ Some a → slice_get owners j ≡ Some b
      → slice_index numbers i ≡ slice_index numbers j ↔ AreJoined plan nets instances a b
  pub in_order : IsNumberedInOrder numbers
