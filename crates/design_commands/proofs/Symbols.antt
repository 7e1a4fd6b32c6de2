-- The symbols of masters, as they are drawn.
use Rattle.std.proofs.{Common.{◌≡◌, ◌<◌, ◌≤◌, ◌^◌, List, [], ◌∷◌, length, map, ap, arith}, lemmas.List.length-map}
use Rattle.std.proofs.lemmas.{List.Elements.All-get_or, Slice.Zip.length-zip}
use Rattle.std.specs.{Prelude.All, List.{AllByRecursion, zip}}
use Rattle.list_facts.proofs.Elements.{by_number, all_of}
use Rattle.lam_geom.specs.Places.{IsPlacedBox}
use Rattle.sym_items.specs.declared.items.Coords.{Coords}
use Rattle.expand.specs.declared.master.Master.{Master}
use Rattle.pitch_join.specs.Masters.{no_master}
use Rattle.mask_out.specs.{declared.drawing.Symbol.Symbol, Pictures.{Drawing, drawing_of, drawing_in}}
use Rattle.cif_text.specs.Calls.{CanBeWritten}
use Rattle.master_counts.specs.Parts.{HasShortName}

abbrev ArePlaced : Symbol → Type 0
ArePlaced symbol = All (λ box. IsPlacedBox box.area) symbol.boxes

drawn : (symbols : List Symbol) (masters : List Master) (layouts : List Coords)
    → map drawing_of symbols ≡ map drawing_in (zip masters layouts) → AllByRecursion HasShortName masters
    → AllByRecursion ArePlaced symbols → AllByRecursion CanBeWritten symbols
drawn [] masters layouts same short placed = tt
drawn (s ∷ symbols) [] layouts same short placed = cc
drawn (s ∷ symbols) (m ∷ masters) [] same short placed = cc
drawn (s ∷ symbols) (m ∷ masters) (layout ∷ layouts) same short placed =
    let drawing : drawing_of s ≡ drawing_in (m, layout) = cc in
    let others : map drawing_of symbols ≡ map drawing_in (zip masters layouts) = cc in
    let long = ap (λ (d : Drawing). length d.name) drawing in
    let first = short.0 in (
      record { placed = placed.0; named = omega (arith, long, first) },
      drawn symbols masters layouts others short.1
          placed.1,
    )

-- symbols that are drawn of masters with short names can be written
pub can_be_written : (symbols : List Symbol) (masters : List Master) (layouts : List Coords)
    → map drawing_of symbols ≡ map drawing_in (zip masters layouts) → All HasShortName masters
    → All ArePlaced symbols → All CanBeWritten symbols
can_be_written symbols masters layouts same short placed =
    all_of CanBeWritten symbols
    (drawn symbols masters layouts same
    (by_number HasShortName masters no_master (λ i lt. All-get_or HasShortName masters i no_master lt short))
    (by_number ArePlaced symbols no_symbol (λ i lt. All-get_or ArePlaced symbols i no_symbol lt placed)))
  where
    no_symbol : Symbol
    no_symbol = record { name = []; boxes = [] }

-- there are as many as masters
pub few_symbols : (symbols : List Symbol) (masters : List Master) (layouts : List Coords)
    → map drawing_of symbols ≡ map drawing_in (zip masters layouts) → length masters ≤ 256 → length symbols < 2 ^ 32
few_symbols symbols masters layouts same few =
    let count = length-map symbols drawing_of in
    let drawings = ap (λ (ds : List Drawing). length ds) same in
    let zipped = length-map (zip masters layouts) drawing_in in
    let both = length-zip masters layouts in
    omega (arith, count, drawings, zipped, both, few)
