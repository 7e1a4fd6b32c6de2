-- The links between pieces and nets of instances. Pieces are numbered first, and then the nets of the instances, one
-- instance after another.
use Rattle.std.specs.Prelude.{◌≡◌, ℕ, ◌+◌, ◌^◌, ◌<◌, ◌⊎◌, Contains, Some, List, length, slice_get, slice_index}
use Rattle.lam_geom.specs.declared.boxes.Axis.{Axis}
use Rattle.cell_model.specs.declared.cell.Nets.{Nets}
use Rattle.plan_model.specs.declared.plan.Plan.{Plan}
use Rattle.design_nets.specs.declared.{instances.Instance.Instance, meetings.Meeting.Meeting, owners.OwnNet.OwnNet}
use Rattle.design_nets.specs.{Firsts.AreFirsts, Joining.{nets_in, Meet}}

-- the number of a net of an instance, from the number of the first net of each instance
abbrev pub number_of : List ℕ → OwnNet → ℕ
number_of firsts own = slice_index firsts own.instance + own.net

-- to some links have been added exactly those of a kind
pub record AreAdded (Link : ℕ → ℕ → Type 0) (old new : List (ℕ × ℕ)) : Type 0 where
  pub sound : (u v : ℕ) → Contains new (u, v) → Contains old (u, v) ⊎ Link u v
  pub kept : (u v : ℕ) → Contains old (u, v) → Contains new (u, v)
  pub complete : (u v : ℕ) → Link u v → Contains new (u, v)

-- piece number u is of net number v
pub record IsPieceLink (firsts : List ℕ) (owners : List OwnNet) (u v : ℕ) : Type 0 where
  pub own : OwnNet
  pub there : slice_get owners u ≡ Some own
  pub is : v ≡ number_of firsts own

-- nets number u and v are of two instances, whose first nets have these numbers, and stand in a list of nets that are
-- joined
pub record IsListedLink (list : List Meeting) (first second u v : ℕ) : Type 0 where
  pub m : Meeting
  pub listed : Contains list m
  pub before : u ≡ first + m.before
  pub after : v ≡ second + m.after

-- nets number u and v are joined on an axis; the first is of an instance with a number below this one
pub record IsMeetLink (axis : Axis) (plan : Plan) (nets : List Nets) (instances : List Instance) (firsts : List ℕ)
    (below u v : ℕ) : Type 0 where
  pub a : OwnNet
  pub b : OwnNet
  pub meet : Meet axis plan nets instances a b
  pub passed : a.instance < below
  pub first : u ≡ number_of firsts a
  pub second : v ≡ number_of firsts b

-- the first nets of instances have these numbers, and no net has a great one
pub record AreNetFirsts (nets : List Nets) (instances : List Instance) (firsts : List ℕ) : Type 0 where
  pub first : ℕ
  pub are : AreFirsts (nets_in nets instances) (length instances) first firsts
  pub few : slice_index firsts (length instances) < 2 ^ 31

-- all links: of pieces, and of nets that are joined on either axis
pub data IsLink (plan : Plan) (nets : List Nets) (instances : List Instance) (firsts : List ℕ) (owners : List OwnNet)
    (u v : ℕ) : Type 0 where
  of_piece : IsPieceLink firsts owners u v → IsLink plan nets instances firsts owners u v
  of_ports : (axis : Axis) → IsMeetLink axis plan nets instances firsts (length instances) u v
      → IsLink plan nets instances firsts owners u v

pub record AreAllLinks (plan : Plan) (nets : List Nets) (instances : List Instance) (firsts : List ℕ)
    (owners : List OwnNet) (links : List (ℕ × ℕ)) : Type 0 where
  pub sound : (u v : ℕ) → Contains links (u, v) → IsLink plan nets instances firsts owners u v
  pub complete : (u v : ℕ) → IsLink plan nets instances firsts owners u v → Contains links (u, v)
