-- The passes so far.
use Rattle.std.specs.Prelude.{◌≡◌, ◌↔◌, ℕ, suc, ℤ, Bool, false, IsTrue, Contains, List, [], ◌∷◌, ◌++◌, map, flat_map}
use Rattle.lam_geom.specs.declared.boxes.Axis.{Axis}
use Rattle.rule_table.specs.declared.technology.Tech.{Tech}
use Rattle.sym_items.specs.declared.items.Coords.{Coords}
use Rattle.expand.specs.declared.master.Master.{Master}
use Rattle.plan_model.specs.declared.plan.Plan.{Plan}
use Rattle.pass_run.specs.{declared.{pass.Made.Made, passes.SoFar.SoFar, step.Step.Step}, Laid.AreLaidOut}
use Rattle.pass_run.specs.{Layouts.{starts_of, moved_by, layouts_after}, OnePass.IsPassMade, Passes.axes_of}

abbrev pub steps_of : List Made → List Step
steps_of mades = map (λ (made : Made). made.step) mades

abbrev pub text_of : List Made → List ℕ
text_of mades = flat_map (λ (made : Made). made.text.items) mades

abbrev pub greatest_values_of : List Made → List (List ℤ)
greatest_values_of mades = map (λ (made : Made). made.most) mades

-- if anything is to be told, a pass on this axis is told where it is the last one, before passes on the axes that come
abbrev pub IsCheckedOrExtractedIfLast : Bool → List Axis → Axis → Bool → Type 0
IsCheckedOrExtractedIfLast with_most coming axis told = IsTrue with_most → IsTrue told ↔ (Contains coming axis → ⊥)

-- Passes are made over some layouts, one after another, counted from this number on, before those on axes that come.
abbrev pub AreMade : Tech → Plan → List Master → Bool → List Axis → ℕ → List Coords → List Made → Type 0
AreMade tech plan masters with_most coming pass before [] = Unit {0}
AreMade tech plan masters with_most coming pass before (made ∷ mades) =
    (told : Bool) × IsCheckedOrExtractedIfLast with_most (axes_of (steps_of mades) ++ coming) made.step.axis told
    × IsPassMade tech plan masters before pass told made
    × AreMade tech plan masters with_most coming (suc pass) (moved_by masters before made.step) mades

-- Passes are made over the start layouts of the masters. These are their steps, the layouts that they leave, their
-- report, and what is told.
pub record IsGoing (tech : Tech) (plan : Plan) (masters : List Master) (with_most : Bool) (coming : List Axis)
    (so_far : SoFar) : Type 0 where
  pub laid : AreLaidOut tech masters (starts_of tech masters)
  pub mades : List Made
  pub made : AreMade tech plan masters with_most coming 1 (starts_of tech masters) mades
  pub steps : so_far.steps.items ≡ steps_of mades
  pub layouts : so_far.layouts.items ≡ layouts_after masters (starts_of tech masters) (steps_of mades)
  pub report : so_far.report.items ≡ text_of mades
  pub told : IsTrue with_most → so_far.greatest_values.items ≡ greatest_values_of mades
  pub untold : with_most ≡ false → so_far.greatest_values.items ≡ []
