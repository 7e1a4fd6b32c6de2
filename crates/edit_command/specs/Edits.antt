-- What `edit` writes: after each line of a script, what the design so far comes to, in a word.
use Rattle.std.specs.Prelude.{◌≡◌, ◌≢◌, ℕ, suc, ◌<◌, ◌≤◌, All, List, [], ◌∷◌, ◌++◌, length, flat_map, Bool, true, false}
use Rattle.std.specs.{Prelude.{Option, Some, None, Result, Ok, Err, codes, decimal}, Fmt.signed_decimal}
use Rattle.lam_geom.specs.declared.boxes.Axis.{Axis, TheVariants.{X, Y}}
use Rattle.lam_io.specs.Io.{Bytes}
use Rattle.rule_table.specs.declared.technology.Tech.{Tech}
use Rattle.sym_items.specs.{declared.items.Coords.Coords, Layouts.size_in}
use Rattle.stick_text.specs.declared.{design.Design.Design, fault.ParseFault.ParseFault}
use Rattle.stick_text.specs.declared.fault.ParseFault.TheVariants as resolving
use Rattle.stick_print.specs.Canonical.{canonical}
use Rattle.checked_cells.specs.{CheckedCell.CheckedCell, Grids.resolved_cells}
use Rattle.edit_lines.specs.declared.script.EditLine.{EditLine}
use Rattle.limit_edits.specs.Edits.{IsEdited}
use Rattle.expand.specs.declared.master.Master.{Master}
use Rattle.plan_model.specs.declared.plan.Plan.{Plan}
use Rattle.pitch_join.specs.Masters.{master_at, master_numbers}
use Rattle.pass_run.specs.{Laid.StartsClean, Layouts.starts_of, Least.LeadTo}
use Rattle.edit_command.specs.declared.edit.Stepped.{Stepped}
use Rattle.command_files.specs.{declared.status.Status.Status, Limits.most_design_bytes, Status.code_of}
use Rattle.design_layouts.specs.Designs.{RefusesDesign, RefusesMasters}
use Rattle.extents.specs.Extents.{IsWithin}
use Rattle.design_masters.specs.Plans.{AreMastersOf}
use Rattle.command_files.specs.declared.status.File.TheVariants as file
use Rattle.command_files.specs.declared.status.Status.TheVariants as statuses

-- ---- the word

-- ` CELL W H`: a master, with its width and its height in u
abbrev pub size_word : List Master → List Coords → ℕ → Bytes
size_word masters layouts m =
    codes " "
    ++ ((master_at masters m).cell.name
    ++ (codes " "
    ++ (signed_decimal (size_in X layouts m) ++ (codes " " ++ signed_decimal (size_in Y layouts m)))))

-- `done`, and each master
abbrev pub done_word : List Master → List Coords → Bytes
done_word masters layouts = codes "done" ++ flat_map (size_word masters layouts) (master_numbers masters)

-- `code N`, with the number of a cause
abbrev pub code_word : Status → Bytes
code_word status = codes "code " ++ decimal (code_of status)

abbrev pub refused_word : Bytes
refused_word = codes "refused"

-- The layouts to which passes on these axes lead from the clean start layouts of all masters, and which are not too
-- large together. Each pass gives its axis the least values that any solution of its system has; nothing else is said
-- of how they are found.
pub record AreLeastLayouts (tech : Tech) (plan : Plan) (masters : List Master) (axes : List Axis)
    (layouts : List Coords) : Type 0 where
  pub clean : All (StartsClean tech) masters
  pub lead : LeadTo tech plan masters axes (starts_of tech masters) layouts
  pub within : IsWithin tech plan layouts

-- What a design comes to, whose canonical text is not too long: the sizes of its masters in their least layouts, or
-- why it is refused, which is not for want of memory.
pub data IsAnswered (tech : Tech) (axes : List Axis) (design : Design) (word : Bytes) : Type 0 where
  done : length (canonical design) ≤ most_design_bytes → (plan : Plan) (masters : List Master)
      → AreMastersOf tech design plan masters → (layouts : List Coords)
      → AreLeastLayouts tech plan masters axes layouts → word ≡ done_word masters layouts
      → IsAnswered tech axes design word
  too_long : most_design_bytes < length (canonical design) → word ≡ code_word (statuses.TooLong file.Design)
      → IsAnswered tech axes design word
  no_masks : length (canonical design) ≤ most_design_bytes → (status : Status) (message : Bytes)
      → RefusesDesign tech axes design status message → status ≢ statuses.OutOfMemory
      → word ≡ code_word status → IsAnswered tech axes design word

-- What masters come to: their sizes in their least layouts, or why they are not laid out, which is not for want of
-- memory.
pub data AreAnswered (tech : Tech) (plan : Plan) (masters : List Master) (axes : List Axis) (word : Bytes) : Type
    0 where
  laid_out : (layouts : List Coords) → AreLeastLayouts tech plan masters axes layouts
      → word ≡ done_word masters layouts → AreAnswered tech plan masters axes word
  without : (status : Status) (message : Bytes) → RefusesMasters tech plan masters axes status message
      → status ≢ statuses.OutOfMemory → word ≡ code_word status
      → AreAnswered tech plan masters axes word

-- ---- one line

-- whether a design was resolved; None where memory ran out
abbrev pub was_resolved : {A : Type 0} → Result A ParseFault → Option Bool
was_resolved (Ok cells) = Some true
was_resolved (Err (resolving.Stick fault)) = Some false
was_resolved (Err resolving.OutOfMemory) = None

-- A line changes a design, whose masters have these numbers, into another one: that is its edit, and has no fault of
-- names or sizes.
pub record Changes (tech : Tech) (design : Design) (numbers : List ℕ) (line : EditLine) (new : Design) : Type 0 where
  pub edited : IsEdited design numbers line new
  pub cells : List CheckedCell
  pub resolved : resolved_cells tech new ≡ Ok cells

-- What becomes of the design at a line, and the word on it: what the new design comes to, or that the line is refused
-- and the design stays.
pub data IsStep (tech : Tech) (axes : List Axis) (numbers : List ℕ) (line : EditLine) (design new : Design)
    (word : Bytes) : Type 0 where
  changed : Changes tech design numbers line new → IsAnswered tech axes new word
      → IsStep tech axes numbers line design new word
  refused : ((other : Design) → Changes tech design numbers line other → ⊥) → new ≡ design → word ≡ refused_word
      → IsStep tech axes numbers line design new word

-- ---- a script

-- `step I`, and the word on it
abbrev pub step_line : ℕ → Bytes → Bytes
step_line i word = codes "step " ++ (decimal i ++ (codes " " ++ (word ++ codes "\n")))

-- The lines of a script, counted from a number on, one after the other, from a design to the last one; and what is
-- written.
abbrev pub AreSteps : Tech → List Axis → List ℕ → ℕ → List EditLine → Design → Design → Bytes → Type 0
AreSteps tech axes numbers i [] design last output = (last ≡ design) × (output ≡ [])
AreSteps tech axes numbers i (line ∷ lines) design last output =
    (new : Design) × (word : Bytes) × (rest : Bytes) × IsStep tech axes numbers line design new word
    × AreSteps tech axes numbers (suc i) lines new last rest × (output ≡ step_line i word ++ rest)

-- one line more, which has this number: what is written of it is put after the rest
pub record IsNextStep (tech : Tech) (axes : List Axis) (numbers : List ℕ) (i : ℕ) (line : EditLine)
    (old new : Stepped) : Type 0 where
  pub word : Bytes
  pub told : new.text.items ≡ old.text.items ++ step_line i word
  pub step : IsStep tech axes numbers line old.design new.design word

-- What `edit` writes over a design, whose masters have these numbers, and the lines of a script. No edit changes a
-- grid, so these are the numbers throughout.
pub record EditsTo (tech : Tech) (axes : List Axis) (numbers : List ℕ) (design : Design) (lines : List EditLine)
    (output : Bytes) : Type 0 where
  pub last : Design
  pub steps : AreSteps tech axes numbers 0 lines design last output
