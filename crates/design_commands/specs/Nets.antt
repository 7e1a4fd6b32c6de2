-- What `nets` writes: the nets and transistors of a design, with the names of their parts.
use Rattle.std.specs.Prelude.{ℕ, List, [], ◌∷◌, flat_map, Option, Some, None}
use Rattle.lam_io.specs.Io.{Bytes}
use Rattle.rule_table.specs.declared.technology.Tech.{Tech}
use Rattle.stick_text.specs.declared.design.{Design.Design, GridText.GridText}
use Rattle.expand.specs.declared.master.Master.{Master}
use Rattle.plan_model.specs.declared.plan.Plan.{Plan}
use Rattle.design_nets.specs.NamedNets.{IsNamedText}
use Rattle.design_masters.specs.Plans.{AreMastersOf}

-- the names of the grids, of those that have one
abbrev pub name_if : Option (List ℕ) → List (List ℕ)
name_if None = []
name_if (Some name) = name ∷ []

abbrev pub names_of_grids : List GridText → List (List ℕ)
names_of_grids grids = flat_map (λ (grid : GridText). name_if grid.name) grids

-- The output of `nets` over a design: the text of the nets of its plan and its masters, by their names. Nothing is
-- laid out.
pub record NetsTo (tech : Tech) (design : Design) (output : Bytes) : Type 0 where
  pub plan : Plan
  pub masters : List Master
  pub are_masters : AreMastersOf tech design plan masters
  pub named : IsNamedText (names_of_grids design.grids) plan masters output
