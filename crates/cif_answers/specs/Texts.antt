-- The netlist of a CIF text, the verdict on it and its breaks, or why it has none.
use Rattle.std.specs.Prelude.{◌≡◌, ◌↔◌, ℕ, ◌<◌, ◌≤◌, Bool, List, ◌++◌, length, map, codes}
use Rattle.lam_geom.specs.declared.boxes.MaskBox.{MaskBox}
use Rattle.rule_table.specs.declared.technology.Tech.{Tech}
use Rattle.cif_read.specs.{Files.{drawn_of, most_boxes}, Hierarchies.{Hierarchy, flattened}}
use Rattle.cif_foreign.specs.Meaning.{Means, IsFirstFault}
use Rattle.crossing_model.specs.Crossings.{IsFirstBadPair}
use Rattle.net_model.specs.{declared.netlist.Netlist.Netlist, Extraction.IsExtracted}
use Rattle.rule_breaks.specs.{declared.rule.Break.Break, Breaks.{KeepRules, IsFirstBreak}, Lists.AreFirstBreaks}
use Rattle.net_list.specs.Lines.{text_of_netlist}
use Rattle.cif_answers.specs.BreakLines.{count_line, line_of_break, text_of_breaks}
use Rattle.cif_answers.specs.declared.fault.TextFault.{TextFault, TheVariants.{Cif, TooMany, NotProper, Broken}}
use Rattle.cif_answers.specs.declared.fault.TextFault.TheVariants.{OutOfMemory}

-- the boxes of a text, one by one, which are not too many
pub record HasBoxes (text : List ℕ) (boxes : List MaskBox) : Type 0 where
  pub hierarchy : Hierarchy
  pub means : Means text hierarchy
  pub drawn : map drawn_of boxes ≡ flattened hierarchy
  pub few : length boxes ≤ most_boxes

-- too many
pub record HasTooManyBoxes (text : List ℕ) : Type 0 where
  pub hierarchy : Hierarchy
  pub means : Means text hierarchy
  pub many : most_boxes < length (flattened hierarchy)

-- a text has this netlist: this is the text of what is extracted from its boxes
pub record HasNetlist (tech : Tech) (text output : List ℕ) : Type 0 where
  pub boxes : List MaskBox
  pub are_boxes : HasBoxes text boxes
  pub list : Netlist
  pub extracted : IsExtracted tech boxes list
  pub written : output ≡ text_of_netlist boxes list

-- the first pair of its boxes that does not cross properly
pub record IsNotProper (tech : Tech) (text : List ℕ) (a b : ℕ) : Type 0 where
  pub boxes : List MaskBox
  pub are_boxes : HasBoxes text boxes
  pub pair : IsFirstBadPair tech boxes a b

-- a text keeps the rules: its boxes do, and this is what is said of it
pub record HasVerdict (tech : Tech) (text output : List ℕ) : Type 0 where
  pub boxes : List MaskBox
  pub are_boxes : HasBoxes text boxes
  pub keep : KeepRules tech boxes
  pub written : output ≡ codes "ok\n"

-- the first break of the rules by its boxes
pub record IsFirstBreakOf (tech : Tech) (text : List ℕ) (first : Break) : Type 0 where
  pub boxes : List MaskBox
  pub are_boxes : HasBoxes text boxes
  pub first_break : IsFirstBreak tech boxes first

-- the first breaks of a text, as many as asked for, in order: this is the text of those of its boxes
pub record HasBreaks (tech : Tech) (most : ℕ) (text output : List ℕ) : Type 0 where
  pub boxes : List MaskBox
  pub are_boxes : HasBoxes text boxes
  pub list : List Break
  pub more : Bool
  pub first : AreFirstBreaks tech boxes most list more
  pub written : output ≡ text_of_breaks tech boxes list more

-- why its boxes are not given: it has no meaning, or too many boxes
abbrev pub RefusesBoxes : List ℕ → TextFault → Type 0
RefusesBoxes text (Cif fault) = IsFirstFault text fault
RefusesBoxes text TooMany = HasTooManyBoxes text
RefusesBoxes text (NotProper a b) = ⊥
RefusesBoxes text (Broken first) = ⊥
RefusesBoxes text OutOfMemory = Unit {0}

-- Why a text has no netlist: it has no meaning, too many boxes, or a pair that does not cross properly.
abbrev pub RefusesNetlist : Tech → List ℕ → TextFault → Type 0
RefusesNetlist tech text (Cif fault) = IsFirstFault text fault
RefusesNetlist tech text TooMany = HasTooManyBoxes text
RefusesNetlist tech text (NotProper a b) = IsNotProper tech text a b
RefusesNetlist tech text (Broken first) = ⊥
RefusesNetlist tech text OutOfMemory = Unit {0}

-- Why a text does not keep the rules: it has no meaning, too many boxes, or a break.
abbrev pub RefusesVerdict : Tech → List ℕ → TextFault → Type 0
RefusesVerdict tech text (Cif fault) = IsFirstFault text fault
RefusesVerdict tech text TooMany = HasTooManyBoxes text
RefusesVerdict tech text (NotProper a b) = ⊥
RefusesVerdict tech text (Broken first) = IsFirstBreakOf tech text first
RefusesVerdict tech text OutOfMemory = Unit {0}

-- Why a text has no list of breaks: it has no meaning, or too many boxes.
abbrev pub RefusesBreaks : Tech → List ℕ → TextFault → Type 0
RefusesBreaks tech text fault = RefusesBoxes text fault

-- Want of memory aside, a text comes to one output, or to one cause why it has none, and never to both.
pub record AnswersAreDetermined (Gives : Tech → List ℕ → List ℕ → Type 0)
    (Refuses : Tech → List ℕ → TextFault → Type 0) (tech : Tech) (text : List ℕ) : Type 0 where
  pub one_output : (a b : List ℕ) → Gives tech text a → Gives tech text b → a ≡ b
  pub one_cause : (a b : TextFault) → (a ≡ OutOfMemory → ⊥) → (b ≡ OutOfMemory → ⊥) → Refuses tech text a
      → Refuses tech text b → a ≡ b
  pub not_both : (output : List ℕ) (fault : TextFault) → (fault ≡ OutOfMemory → ⊥) → Gives tech text output
      → Refuses tech text fault → ⊥

-- ---- lists of breaks and verdicts

-- the first line after the number of lines is that of this break
pub record BeginsWith (tech : Tech) (text : List ℕ) (first : Break) (output : List ℕ) : Type 0 where
  pub boxes : List MaskBox
  pub are_boxes : HasBoxes text boxes
  pub count : ℕ
  pub rest : List ℕ
  pub written : output ≡ count_line count ++ (line_of_break tech boxes first ++ rest)

-- A list is `breaks 0` exactly where the text keeps the rules, and begins with the first break where there is one.
pub record TellsVerdict (tech : Tech) (text output : List ℕ) : Type 0 where
  pub kept : output ≡ codes "breaks 0\n" ↔ HasVerdict tech text (codes "ok\n")
  pub broken : (first : Break) → IsFirstBreakOf tech text first → BeginsWith tech text first output
