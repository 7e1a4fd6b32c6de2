-- What is found in the start layouts of masters before the first pass.
use Rattle.std.specs.Prelude.{◌≡◌, ℕ, ◌<◌, Option, Some, None, List, length, slice_index_or}
use Rattle.rule_table.specs.declared.technology.Tech.{Tech}
use Rattle.expand.specs.declared.master.Master.{Master}
use Rattle.coarse_grid.specs.Clash.{IsFirstClash}
use Rattle.pitch_join.specs.Masters.{master_at}
use Rattle.pass_run.specs.{Laid.StartsClean, Layouts.start_of_master}

-- the first clash in the start layout of a master, or none where that is clean
abbrev pub IsStartClash : Tech → Master → Option (ℕ × ℕ) → Type 0
IsStartClash tech master None = StartsClean tech master
IsStartClash tech master (Some p) = IsFirstClash tech (start_of_master tech master) master.items.list p.0 p.1

-- and that of each master
pub record AreStartClashes (tech : Tech) (masters : List Master) (clashes : List (Option (ℕ × ℕ))) : Type 0 where
  pub one_each : length clashes ≡ length masters
  pub each : (m : ℕ) (d : Option (ℕ × ℕ)) → m < length masters
      → IsStartClash tech (master_at masters m) (slice_index_or clashes m d)
