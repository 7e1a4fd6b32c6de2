-- Layouts of the masters of a plan, one each, that meet the plan.
use Rattle.std.specs.Prelude.{◌≡◌, ℕ, ◌<◌, ℤ, All, List, length}
use Rattle.lam_geom.specs.declared.boxes.Axis.{Axis}
use Rattle.rule_table.specs.declared.technology.Tech.{Tech}
use Rattle.sym_items.specs.{declared.items.Coords.Coords, Layouts.{value_in, size_in}}
use Rattle.expand.specs.{declared.master.Master.Master, Laws.MeetsStructure, Variables.cross_of}
use Rattle.plan_model.specs.{declared.plan.{Match.Match, Plan.Plan, Same.Same}, Plan.{pitch_in, matches_in}}
use Rattle.pitch_join.specs.Masters.{master_at}

-- two masters are equally wide, or on y equally high
abbrev pub AreEquallyLong : Axis → List Coords → Same → Type 0
AreEquallyLong axis layouts same = size_in axis layouts same.a ≡ size_in axis layouts same.b

-- the cross coordinate of a wire of master m
abbrev pub line_in : Axis → List Master → List Coords → ℕ → ℕ → ℤ
line_in axis masters layouts m wire = value_in axis layouts m (cross_of (master_at masters m).cell wire)

-- the wires of two ports that meet lie on one line
abbrev pub LieOnOneLine : Axis → List Master → List Coords → Match → Type 0
LieOnOneLine axis masters layouts met =
    line_in axis masters layouts met.a met.a_wire ≡ line_in axis masters layouts met.b met.b_wire

-- Layouts that meet a plan on an axis: each the structure of its master, with equal far borders and lines.
pub record LayoutsMeet (axis : Axis) (tech : Tech) (plan : Plan) (masters : List Master)
    (layouts : List Coords) : Type 0 where
  pub structures : (m : ℕ) → m < length masters
      → MeetsStructure axis tech (master_at masters m) (value_in axis layouts m)
  pub borders : All (AreEquallyLong axis layouts) (pitch_in axis plan)
  pub lines : All (LieOnOneLine axis masters layouts) (matches_in axis plan)
