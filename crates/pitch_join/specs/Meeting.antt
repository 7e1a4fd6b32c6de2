-- What the solutions of a joint list are, master by master.
use Rattle.std.specs.Prelude.{◌≡◌, ◌↔◌, ℕ, ◌<◌, ℤ, pos, All, List, length}
use Rattle.lam_geom.specs.declared.boxes.Axis.{Axis}
use Rattle.rule_table.specs.declared.technology.Tech.{Tech}
use Rattle.cons_graph.specs.Solutions.{IsSolution}
use Rattle.sym_items.specs.{declared.items.Coords.Coords, Boxes.HasBox, Layouts.layout_at}
use Rattle.expand.specs.{declared.master.Master.Master, Laws.MeetsStructure}
use Rattle.pair_rules.specs.{Candidates.{candidates_of, Keeps}, Kept.kept_of}
use Rattle.plan_model.specs.{declared.plan.{Match.Match, Plan.Plan, Same.Same}, Plan.{pitch_in, matches_in}}
use Rattle.pitch_join.specs.Masters.{master_at}
use Rattle.pitch_join.specs.Joined.{far_of, wire_var, local_of, fixed_of, pruned_system, full_system}

-- two masters have one far border
abbrev pub HasOneBorder : Axis → List Master → (ℕ → ℤ) → Same → Type 0
HasOneBorder axis masters x same = x (far_of axis masters same.a) ≡ x (far_of axis masters same.b)

-- the wires of two ports that meet have one cross coordinate
abbrev pub HasOneLine : Axis → List Master → (ℕ → ℤ) → Match → Type 0
HasOneLine axis masters x met = x (wire_var axis masters met.a met.a_wire) ≡ x (wire_var axis masters met.b met.b_wire)

-- values of the joint variables with the origin at 0, whose own parts meet the structure of each master, with equal
-- borders and ports
pub record MeetsPlan (axis : Axis) (tech : Tech) (plan : Plan) (masters : List Master) (x : ℕ → ℤ) : Type 0 where
  pub origin : x 0 ≡ pos 0
  pub structures : (m : ℕ) → m < length masters
      → MeetsStructure axis tech (master_at masters m) (local_of axis masters m x)
  pub borders : All (HasOneBorder axis masters x) (pitch_in axis plan)
  pub lines : All (HasOneLine axis masters x) (matches_in axis plan)

-- their own parts keep the kept pairs of each master apart, and all candidates
abbrev pub KeepsKept : Axis → Tech → List Master → List Coords → (ℕ → ℤ) → Type 0
KeepsKept axis tech masters layouts x =
    (m : ℕ) → m < length masters
    → All (Keeps axis (local_of axis masters m x) (master_at masters m).items.list)
    (kept_of axis tech (layout_at layouts m) (master_at masters m).items.list)

abbrev pub KeepsCandidates : Axis → Tech → List Master → List Coords → (ℕ → ℤ) → Type 0
KeepsCandidates axis tech masters layouts x =
    (m : ℕ) → m < length masters
    → All (Keeps axis (local_of axis masters m x) (master_at masters m).items.list)
    (candidates_of axis tech (layout_at layouts m) (master_at masters m).items.list)

-- each item of each master has a box in its layout
abbrev pub HaveBoxes : List Master → List Coords → Type 0
HaveBoxes masters layouts = (m : ℕ) → m < length masters
    → All (HasBox (layout_at layouts m)) (master_at masters m).items.list

-- The solutions of what holds whatever the layouts, of the list of a pass, and of its system where each item has a box.
pub record JoiningIsMeeting (tech : Tech) (plan : Plan) (masters : List Master) : Type 0 where
  pub of_fixed : (axis : Axis) (x : ℕ → ℤ)
      → IsSolution (fixed_of axis tech plan masters) x ↔ MeetsPlan axis tech plan masters x
  pub of_list : (axis : Axis) (layouts : List Coords) (x : ℕ → ℤ)
      → IsSolution (pruned_system axis tech plan masters layouts) x
      ↔ (MeetsPlan axis tech plan masters x × KeepsKept axis tech masters layouts x)
  pub of_system : (axis : Axis) (layouts : List Coords) (x : ℕ → ℤ) → HaveBoxes masters layouts
      → IsSolution (full_system axis tech plan masters layouts) x
      ↔ (MeetsPlan axis tech plan masters x × KeepsCandidates axis tech masters layouts x)
