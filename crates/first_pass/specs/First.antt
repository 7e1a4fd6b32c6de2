-- What a first pass keeps true of its fields.
use Rattle.std.specs.Prelude.{◌≡◌, ◌≤◌, All, List, length, take}
use Rattle.rule_table.specs.declared.technology.Tech.{Tech}
use Rattle.expand.specs.declared.master.Master.{Master}
use Rattle.plan_model.specs.declared.plan.Plan.{Plan}
use Rattle.pitch_join.specs.{Masters.ArePlanned, Joined.{bases_of, system_variables, pruned_system}}
use Rattle.pass_run.specs.{Laid.StartsClean, Layouts.starts_of}
use Rattle.first_pass.specs.{Bare.{bare_of, AskAlike}, declared.first.FirstPass.FirstPass}

-- Its masters have no limits, and are those of its plan, with clean start layouts. The session is over their joint
-- variables, and its first edges are the list of their pass. What edges follow is not told: they are tested when its
-- values are used.
pub record IsFirstPass (tech : Tech) (first : FirstPass) : Type 0 where
  pub planned : ArePlanned tech first.plan first.masters.items
  pub are_bare : bare_of first.masters.items ≡ first.masters.items
  pub clean : All (StartsClean tech) first.masters.items
  pub starts : first.starts.items ≡ starts_of tech first.masters.items
  pub bases : first.base ≡ bases_of first.axis first.masters.items
  pub vars : first.session.vars ≡ system_variables first.axis first.masters.items
  pub within : first.listed ≤ length first.session.edges
  pub begins : take first.listed first.session.edges ≡ pruned_system first.axis tech first.plan first.masters.items
      first.starts.items

-- These masters of a plan differ from those of a first pass in their limits alone, and the plan asks the same.
pub record AreMore (tech : Tech) (plan : Plan) (masters : List Master) (first : FirstPass) : Type 0 where
  pub is_first : IsFirstPass tech first
  pub planned : ArePlanned tech plan masters
  pub ask : AskAlike first.axis plan first.plan
  pub bared : bare_of masters ≡ first.masters.items
