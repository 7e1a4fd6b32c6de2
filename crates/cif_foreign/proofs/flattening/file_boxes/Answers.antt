use Rattle.std.proofs.Common.{◌≡◌, ◌^◌, List, [], ◌++◌, map, length, refl, ap, ◌∙◌}
use Rattle.std.{proofs.lemmas.List.Elements.recursion_from_All, specs.List.AllByRecursion}
use Rattle.lam_geom.specs.declared.boxes.MaskBox.{MaskBox}
use Rattle.cif_lex.specs.declared.placement.Placement.{Placement}
use Rattle.cif_read.specs.{Hierarchies.{Drawn, placed_box, boxes_of_symbols, depths_of, flattened}, Files.drawn_of}
use Rattle.cif_read.specs.{Foreign.{foreign_symbol, IsForeignStep}}
use Rattle.cif_read.proofs.{Solid.none_solid, Symbols.length_depths, Flat.IsSorted}
use Rattle.cif_foreign.{specs.Files.hierarchy_of, proofs.Flat.{still, called_within, boxes_stay, steps_sorted}}
use Rattle.cif_foreign.proofs.flattening.file_boxes.Goals as goal

pub push_steps-requires-clause-deep : goal.push_steps-requires-clause-deep
push_steps-requires-clause-deep c =
    let file = c.args.file.now in
    let n = length file.symbols in
    called_within 64 n (depths_of (map foreign_symbol file.symbols)) file.top c.requires.shallow
    (length_depths file.symbols)
    (recursion_from_All (IsForeignStep n) file.top c.requires.top)

nothing_first : (before now boxes : List Drawn) (out : List MaskBox) (place : Placement) → out ≡ []
    → before ≡ map drawn_of out → place ≡ still → AllByRecursion IsSorted boxes
    → now ≡ before ++ map (placed_box place) boxes → now ≡ boxes
nothing_first before now boxes out place none is e sorted added =
    added ∙ (ap (λ (zs : List Drawn). zs ++ map (placed_box place) boxes) (is ∙ ap (map drawn_of) none)
    ∙ (ap (λ (p : Placement). map (placed_box p) boxes) e ∙ boxes_stay boxes sorted))

pub returns-clause-boxes : goal.returns-clause-boxes
returns-clause-boxes c =
    let file = c.args.file.now in
    let n = length file.symbols in
    let boxes = boxes_of_symbols (map foreign_symbol file.symbols) in
    let sorted = steps_sorted n boxes file.top (recursion_from_All (IsForeignStep n) file.top c.requires.top) in
    nothing_first (map drawn_of c.in_ok-out.out.items) (map drawn_of c.push_steps.new.out.items)
    (flattened (hierarchy_of file)) c.in_ok-out.out.items c.still-still.result c.in_ok-out.ensures.items refl
    c.still-still.ensures sorted c.in_ok-push_steps.ensures.boxes

pub returns-clause-solid : goal.returns-clause-solid
returns-clause-solid c =
    c.in_ok-push_steps.ensures.solid (none_solid (2 ^ 55) c.in_ok-out.out.items c.in_ok-out.ensures.items)
