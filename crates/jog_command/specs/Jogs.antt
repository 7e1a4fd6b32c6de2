-- What `jog` writes: the design after a script of jogs, each of which is kept where it makes its cell narrower and no
-- cell wider.
use Rattle.std.specs.Prelude.{◌≡◌, ℕ, suc, ◌≤◌, ◌==◌, ℤ, ◌<ℤ◌, ◌≤ℤ◌, Some, List, [], ◌∷◌, ◌++◌, length, map, position}
use Rattle.std.specs.{Prelude.{Ok, codes, decimal}, Fmt.signed_decimal}
use Rattle.lam_geom.specs.declared.boxes.Axis.{Axis, TheVariants.X}
use Rattle.lam_io.specs.Io.{Bytes}
use Rattle.cons_graph.specs.Solutions.{value_of}
use Rattle.rule_table.specs.declared.technology.Tech.{Tech}
use Rattle.sym_items.specs.Layouts.{size_in}
use Rattle.stick_text.specs.declared.design.Design.{Design}
use Rattle.stick_print.specs.Canonical.{canonical}
use Rattle.checked_cells.specs.{CheckedCell.{CheckedCell, cell_of, known_at}, Lines.number_of, Grids.resolved_cells}
use Rattle.expand.specs.declared.master.Master.{Master}
use Rattle.plan_model.specs.declared.plan.Plan.{Plan}
use Rattle.pitch_join.specs.Masters.{master_numbers}
use Rattle.pass_run.specs.declared.step.Step.{Step}
use Rattle.jog_lines.specs.declared.script.JogLine.{JogLine}
use Rattle.jog_insert.specs.Jogs.{IsJogged}
use Rattle.jog_command.specs.declared.jog.Bent.{Bent}
use Rattle.command_files.specs.Limits.{most_design_bytes}
use Rattle.design_layouts.specs.Designs.{ArePlaced, last_layouts}
use Rattle.design_masters.specs.Plans.{AreMastersOf}

-- the width of each master after passes
abbrev pub widths_after : Tech → List Master → List Step → List ℤ
widths_after tech masters steps = map (size_in X (last_layouts tech masters steps)) (master_numbers masters)

-- A design that `compact` lays out: the cells that are its masters, by number, and their widths.
pub record IsLaidOutAs (tech : Tech) (axes : List Axis) (design : Design) (numbers : List ℕ) (widths : List ℤ) : Type
    0 where
  pub plan : Plan
  pub masters : List Master
  pub are_masters : AreMastersOf tech design plan masters
  pub steps : List Step
  pub laid_out : ArePlaced tech plan masters axes steps
  pub are_numbers : numbers ≡ plan.masters
  pub are_widths : widths ≡ widths_after tech masters steps

-- ---- one jog

-- no master is wider than it was
abbrev pub IsNoWider : List ℤ → List ℤ → Type 0
IsNoWider widths after = (m : ℕ) → value_of after m ≤ℤ value_of widths m

-- The new design of a jog is kept: its canonical text is not too long, `compact` lays it out, with masters of these
-- numbers and widths, the jog's master is narrower, and none is wider.
pub record IsKept (tech : Tech) (axes : List Axis) (widths : List ℤ) (m : ℕ) (new : Design) (after_numbers : List ℕ)
    (after : List ℤ) : Type 0 where
  pub short : length (canonical new) ≤ most_design_bytes
  pub laid_out : IsLaidOutAs tech axes new after_numbers after
  pub narrower : value_of after m <ℤ value_of widths m
  pub no_wider : IsNoWider widths after

-- a line names a cell that is a master
pub record NamesMaster (cells : List CheckedCell) (numbers : List ℕ) (line : JogLine) : Type 0 where
  pub cell : ℕ
  pub named : number_of cells line.cell ≡ Some cell
  pub m : ℕ
  pub master : position (λ n. n == cell) numbers ≡ Some m

-- A jog that is accepted: its cell is a master, it applies in the design, whose masters have these numbers and
-- widths, and the new design is kept.
pub record Accepts (tech : Tech) (axes : List Axis) (design : Design) (numbers : List ℕ) (widths : List ℤ)
    (line : JogLine) (m : ℕ) (new : Design) (after_numbers : List ℕ) (after : List ℤ)
    : Type 0 where
  pub cells : List CheckedCell
  pub resolved : resolved_cells tech design ≡ Ok cells
  pub cell : ℕ
  pub named : number_of cells line.cell ≡ Some cell
  pub master : position (λ n. n == cell) numbers ≡ Some m
  pub jogged : IsJogged design (cell_of (known_at cells cell)) numbers cell line.k line.r line.left new
  pub kept : IsKept tech axes widths m new after_numbers after

-- no new design is accepted for it
abbrev pub IsRejected : Tech → List Axis → Design → List ℕ → List ℤ → JogLine → Type 0
IsRejected tech axes design numbers widths line =
    (m : ℕ) (new : Design) (after_numbers : List ℕ) (after : List ℤ)
    → Accepts tech axes design numbers widths line m new after_numbers after → ⊥

-- ---- a script of jogs

-- `jog I CELL`
abbrev pub jog_head : ℕ → JogLine → Bytes
jog_head i line = codes "jog " ++ (decimal i ++ (codes " " ++ line.cell))

-- `jog I CELL accepted A -> B`, with the widths before and after
abbrev pub accepted_line : ℕ → JogLine → ℤ → ℤ → Bytes
accepted_line i line old new =
    jog_head i line
    ++ (codes " accepted " ++ (signed_decimal old ++ (codes " -> " ++ (signed_decimal new ++ codes "\n"))))

-- `jog I CELL rejected`
abbrev pub rejected_line : ℕ → JogLine → Bytes
rejected_line i line = jog_head i line ++ codes " rejected\n"

-- What becomes of the design at a line, which has this number: the new design where a jog is accepted, and else the
-- old one; and the line that is reported.
pub data IsTried (tech : Tech) (axes : List Axis) (i : ℕ) (line : JogLine) (design : Design) (numbers : List ℕ)
    (widths : List ℤ) (new : Design) (after_numbers : List ℕ) (after : List ℤ)
    (message : Bytes) : Type 0 where
  accepted : (m : ℕ) → Accepts tech axes design numbers widths line m new after_numbers after
      → message ≡ accepted_line i line (value_of widths m) (value_of after m)
      → IsTried tech axes i line design numbers widths new after_numbers after message
  rejected : IsRejected tech axes design numbers widths line → new ≡ design → after_numbers ≡ numbers → after ≡ widths
      → message ≡ rejected_line i line
      → IsTried tech axes i line design numbers widths new after_numbers after message

-- The lines of a script, counted from a number on, one after the other, from a design to the last one; and what they
-- report.
abbrev pub AreJogs : Tech → List Axis → ℕ → List JogLine → Design → List ℕ → List ℤ → Design → List ℕ → List ℤ → Bytes
    → Type 0
AreJogs tech axes i [] design numbers widths last last_numbers at_last report =
    (last ≡ design) × (last_numbers ≡ numbers) × (at_last ≡ widths) × (report ≡ [])
AreJogs tech axes i (line ∷ lines) design numbers widths last last_numbers at_last report =
    (new : Design) × (after_numbers : List ℕ) × (after : List ℤ) × (message : Bytes) × (rest : Bytes)
    × IsTried tech axes i line design numbers widths new after_numbers after message
    × AreJogs tech axes (suc i) lines new after_numbers after last last_numbers at_last rest
    × (report ≡ message ++ rest)

-- one line more: what it reports is put after the rest
pub record IsNextJog (tech : Tech) (axes : List Axis) (i : ℕ) (line : JogLine) (old new : Bent) : Type 0 where
  pub message : Bytes
  pub told : new.report.items ≡ old.report.items ++ message
  pub tried : IsTried tech axes i line old.design old.sizes.numbers.items old.sizes.widths.items new.design
      new.sizes.numbers.items new.sizes.widths.items message

-- What `jog` writes over a design and the lines of a script: the canonical text of the last design, and a line for
-- each jog.
pub record JogsTo (tech : Tech) (axes : List Axis) (design : Design) (lines : List JogLine)
    (output report : Bytes) : Type 0 where
  pub numbers : List ℕ
  pub widths : List ℤ
  pub laid_out : IsLaidOutAs tech axes design numbers widths
  pub last : Design
  pub last_numbers : List ℕ
  pub at_last : List ℤ
  pub jogs : AreJogs tech axes 0 lines design numbers widths last last_numbers at_last report
  pub written : output ≡ canonical last
