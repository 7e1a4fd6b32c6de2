use Rattle.std.proofs.Common.{◌≡◌, ◌^◌, List, map, length, ap, arith}
use Rattle.std.proofs.lemmas.List.{length-map}
use Rattle.cif_read.specs.{Hierarchies.{Drawn, boxes_of_symbols, flattened}, Files.drawn_of, Foreign.foreign_symbol}
use Rattle.cif_read.proofs.Solid.{all_placed, all_solid}
use Rattle.cif_foreign.{specs.{Counts.counted, Files.hierarchy_of}, proofs.Alone.{alone_flat, alone_solid}}
use Rattle.cif_foreign.proofs.flattening.flatten_counted.Goals as goal

pub returns-in-Ok-clause-boxes : goal.returns-in-Ok-clause-boxes
returns-in-Ok-clause-boxes c = alone_flat c.args.file c.in-Ok.boxes.items c.in-Ok.ensures.boxes

pub returns-in-Ok-clause-few : goal.returns-in-Ok-clause-few
returns-in-Ok-clause-few c =
    let file = c.args.file in
    let boxes = c.in-Ok.boxes.items in
    let total : c.count_steps-total.result ≡ counted (flattened (hierarchy_of file)) =
    c.count_steps-total.ensures.value (boxes_of_symbols (map foreign_symbol file.symbols)) c.requires.counted in
    omega (
      arith,
      c.if-total-gt-MOST_BOXES.false,
      total,
      length-map boxes drawn_of,
      ap (λ (all : List Drawn). length all) (alone_flat file boxes c.in-Ok.ensures.boxes),
    )

pub returns-in-Ok-clause-placed : goal.returns-in-Ok-clause-placed
returns-in-Ok-clause-placed c =
    let file = c.args.file in
    let boxes = c.in-Ok.boxes.items in
    all_placed (2 ^ 50) boxes (omega arith)
    (alone_solid (length file.symbols) file.top boxes c.in-Ok.ensures.boxes c.requires.flat.top)

pub returns-in-Ok-clause-solid : goal.returns-in-Ok-clause-solid
returns-in-Ok-clause-solid c =
    let file = c.args.file in
    let boxes = c.in-Ok.boxes.items in
    all_solid (2 ^ 50) boxes
    (alone_solid (length file.symbols) file.top boxes c.in-Ok.ensures.boxes c.requires.flat.top)

pub returns-in_ok-boxes-in-Err-clause-placed : goal.returns-in_ok-boxes-in-Err-clause-placed
returns-in_ok-boxes-in-Err-clause-placed c =
    all_placed (2 ^ 55) c.in_ok-boxes-in-Err.boxes.items (omega arith) c.in_ok-boxes-in-Err.ensures.solid

pub returns-in_ok-boxes-in-Err-clause-solid : goal.returns-in_ok-boxes-in-Err-clause-solid
returns-in_ok-boxes-in-Err-clause-solid c =
    all_solid (2 ^ 55) c.in_ok-boxes-in-Err.boxes.items c.in_ok-boxes-in-Err.ensures.solid
