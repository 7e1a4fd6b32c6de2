-- That `nets` tells of a design what `extract` tells of its masks.
use Rattle.std.specs.{Prelude.{◌≡◌, List, [], Some}, FinMap.get}
use Rattle.lam_geom.specs.declared.boxes.{Axis.Axis, MaskBox.MaskBox}
use Rattle.lam_io.specs.Io.{Bytes, Files}
use Rattle.net_model.specs.declared.netlist.Netlist.{Netlist}
use Rattle.net_list.specs.Lines.{text_of_netlist}
use Rattle.design_nets.specs.NamedLaws.{TellsNetlist}
use Rattle.run_words.specs.Words.{extract, nets}
use Rattle.compact_run.specs.declared.cif.CifJob.TheVariants.{Extract}
use Rattle.compact_run.specs.Answers.{IsCompacted, IsCheckedOrExtracted, NothingRefuses, steps_of}
use Rattle.command_files.specs.StepLists.{StepsWrite}

-- The one is the text of a netlist, and the other has as many nets and devices, on each net's line the same counts,
-- and on each device's the same kind, gate, low and high.
pub record TellAlike (extracted named : Bytes) : Type 0 where
  pub boxes : List MaskBox
  pub list : Netlist
  pub written : extracted ≡ text_of_netlist boxes list
  pub told : TellsNetlist boxes list named

-- Where `compact` is done, and `nets` of the same files, nothing refuses `extract` of what `compact` wrote, under the
-- same technology, whatever the names on the shelf are; and what it writes tells what `nets` has told.
abbrev pub NetsTellOfMasks : Type 0
NetsTellOfMasks =
    (design tech : Bytes) (axes : List Axis) (files : Files) (output report named : Bytes)
    → IsCompacted design tech axes files output report → StepsWrite (steps_of (nets design tech)) files named []
    → (others : Files) (cif rules : Bytes) → get others cif ≡ Some output → get others rules ≡ get files tech
    → NothingRefuses (Some (extract cif rules)) others
    × ((extracted : Bytes) → IsCheckedOrExtracted Extract cif rules others extracted → TellAlike extracted named)
