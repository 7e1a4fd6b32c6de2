use Rattle.std.proofs.Common.{◌≡◌, IfOk, List, map, sym, ap, ◌∙◌, subst}
use Rattle.cif_read.specs.{Hierarchies.{Drawn, flattened}, Files.drawn_of, declared.file.ForeignFile.ForeignFile}
use Rattle.cif_foreign.{specs.Files.{hierarchy_of, CanBeFlattened}, proofs.Filling.{filled_flat, filled_boxes}}
use Rattle.cif_foreign.proofs.flattening.counted_boxes.Goals as goal

pub file_boxes-requires-2 : goal.file_boxes-requires-2
file_boxes-requires-2 c =
    subst CanBeFlattened (sym c.in_ok-filled.ensures.file)
    (filled_flat c.args.counts.now c.args.file.now c.requires.flat)

pub returns-clause-boxes : goal.returns-clause-boxes
returns-clause-boxes c =
    let counts = c.args.counts.now in
    let file = c.args.file.now in
    let same : flattened (hierarchy_of c.in_ok-filled.filled) ≡ flattened (hierarchy_of file) =
    ap (λ (f : ForeignFile). flattened (hierarchy_of f)) c.in_ok-filled.ensures.file
    ∙ filled_boxes counts file c.requires.flat c.requires.counted c.requires.all in
    subst (λ (all : List Drawn). IfOk c.file_boxes-2.result (λ boxes. map drawn_of boxes.items ≡ all)) same
    c.file_boxes-2.ensures.boxes
