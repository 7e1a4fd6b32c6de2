-- What `breaks` lists, beside what `check` tells.
use Rattle.std.specs.Prelude.{◌≡◌, ◌↔◌, ℕ, ◌≤◌, codes}
use Rattle.lam_io.specs.Io.{Bytes, Files}
use Rattle.rule_table.specs.declared.technology.Tech.{Tech}
use Rattle.rule_breaks.specs.declared.rule.Break.{Break}
use Rattle.cif_answers.specs.Texts.{BeginsWith}
use Rattle.compact_run.specs.declared.cif.CifJob.TheVariants.{Check, Breaks}
use Rattle.compact_run.specs.Answers.{IsCheckedOrExtracted, cif_steps}
use Rattle.command_files.specs.{StepLists.{Refuses, Says}, Readers.{IsTechnology, cif_file}}
use Rattle.command_files.specs.declared.status.Status.TheVariants as statuses

-- A list of breaks of the CIF text in a file begins with this one.
pub record BeginsOver (cif tech : Bytes) (files : Files) (first : Break) (output : Bytes) : Type 0 where
  pub technology : Tech
  pub is_technology : IsTechnology files tech technology
  pub text : Bytes
  pub is_text : Says cif_file files cif text
  pub begins : BeginsWith technology text first output

pub record BreaksAreThoseOfCheck : Type 0 where
  -- `breaks` has no line exactly where `check` of the same files is `ok`
  pub none : (cif tech : Bytes) (most : ℕ) (files : Files) (output : Bytes) → 1 ≤ most → most ≤ 65536
      → IsCheckedOrExtracted (Breaks most) cif tech files output
      → (output ≡ codes "breaks 0\n") ↔ IsCheckedOrExtracted Check cif tech files (codes "ok\n")
  -- where `check` is refused for a break, that is the first one of the list
  pub first : (cif tech : Bytes) (most : ℕ) (files : Files) (output message : Bytes) (rule a b : ℕ) → 1 ≤ most
      → most ≤ 65536
      → IsCheckedOrExtracted (Breaks most) cif tech files output
      → Refuses (cif_steps Check cif tech) files (statuses.RuleBroken rule a b) message
      → BeginsOver cif tech files (record { rule = rule; a = a; b = b }) output
