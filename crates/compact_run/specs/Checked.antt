-- That masks pass the program's own check.
use Rattle.std.specs.{Prelude.{◌≡◌, List, Some, codes}, FinMap.get}
use Rattle.lam_geom.specs.declared.boxes.Axis.{Axis}
use Rattle.lam_io.specs.Io.{Bytes, Files}
use Rattle.compact_run.specs.{declared.cif.CifJob.TheVariants.Check, Answers.{IsCompacted, IsCheckedOrExtracted}}

-- What `compact` writes, put on a shelf with the same technology, under whatever names, is answered `ok` by `check`.
abbrev pub MasksPassTheCheck : Type 0
MasksPassTheCheck =
    (design tech : Bytes) (axes : List Axis) (files : Files) (output report : Bytes)
    → IsCompacted design tech axes files output report
    → (others : Files) (cif rules : Bytes) → get others cif ≡ Some output → get others rules ≡ get files tech
    → IsCheckedOrExtracted Check cif rules others (codes "ok\n")
