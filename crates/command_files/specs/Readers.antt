-- What the files of a command are read as.
use Rattle.std.specs.Prelude.{◌≡◌, ℕ, Result, Ok, Err, List}
use Rattle.lam_io.specs.Io.{Bytes, Files}
use Rattle.rule_table.specs.{declared.technology.Tech.Tech, Technology.numbers_of}
use Rattle.tech_file.specs.Technology.{technology_of}
use Rattle.stick_text.specs.{declared.design.Design.Design as Sticks, Order.design_of}
use Rattle.command_files.specs.declared.status.{File.TheVariants.{Design, Technology, Cif, Script}, Status.Status}
use Rattle.command_files.specs.StepLists.{Reader, Says}
use Rattle.fault_lines.specs.FaultLines.{stick_line, tech_line, script_line}
use Rattle.command_files.specs.declared.status.Status.TheVariants as statuses

-- the first fault of a text that is no technology, and its line
abbrev pub is_no_technology : Bytes → Status → Bytes → Type 0
is_no_technology text (statuses.BadTech fault) message = (technology_of text ≡ Err fault) × (message ≡ tech_line fault)
is_no_technology text other message = ⊥

abbrev pub technology_file : Reader Tech
technology_file =
    record {
      file = Technology;
      says = λ text tech. technology_of text ≡ Ok (numbers_of tech);
      fails = is_no_technology;
    }

-- that of a text that is no design
abbrev pub is_no_design : Bytes → Status → Bytes → Type 0
is_no_design text (statuses.BadSticks fault) message = (design_of text ≡ Err fault) × (message ≡ stick_line fault)
is_no_design text other message = ⊥

abbrev pub design_file : Reader Sticks
design_file = record { file = Design; says = λ text sticks. design_of text ≡ Ok sticks; fails = is_no_design }

-- what a script is read as: its lines, or the number of the first that is none
abbrev pub Reading : Type 0 → Type 0
Reading Line = Bytes → Result (List Line) ℕ

abbrev pub is_no_script : {Line : Type 0} → Reading Line → Bytes → Status → Bytes → Type 0
is_no_script lines_of text (statuses.BadScript line) message = (lines_of text ≡ Err line) × (message ≡ script_line line)
is_no_script lines_of text other message = ⊥

abbrev pub script_file : {Line : Type 0} → Reading Line → Reader (List Line)
script_file lines_of =
    record { file = Script; says = λ text lines. lines_of text ≡ Ok lines; fails = is_no_script lines_of }

-- a CIF text is taken as it is
abbrev pub cif_file : Reader Bytes
cif_file = record { file = Cif; says = λ text message. message ≡ text; fails = λ text status message. ⊥ }

-- A file of the shelf is this technology, or the text of this design.
abbrev pub IsTechnology : Files → Bytes → Tech → Type 0
IsTechnology = Says technology_file

abbrev pub IsDesign : Files → Bytes → Sticks → Type 0
IsDesign = Says design_file
