-- The symbols of masters, one after another.
use Rattle.std.proofs.Common.{◌≡◌, ℕ, suc, ◌<◌, get_or, List, [], ◌∷◌, length, map, ap, ◌∙◌, refl, arith}
use Rattle.std.proofs.lemmas.List.{get_or_default}
use Rattle.sym_items.specs.{declared.items.Coords.Coords}
use Rattle.expand.specs.declared.master.Master.{Master}
use Rattle.mask_out.specs.declared.drawing.Symbol.{Symbol}
use Rattle.mask_out.specs.Masks.{Mask, mask_of, masks_in}
use Rattle.mask_out.specs.Pictures.{Drawing, IsDrawingAt, drawing_of, drawing_in, drawings_in}

-- what is drawn of a master
pub drawn_at : (masters : List Master) (layouts : List Coords) (m : ℕ) (master : Master) (layout : Coords)
    (symbol : Symbol) → m < length masters → m < length layouts → master ≡ get_or masters m master
    → layout ≡ get_or layouts m layout → symbol.name ≡ master.cell.name
    → map mask_of symbol.boxes ≡ masks_in layout master.items.list
    → IsDrawingAt masters layouts m (drawing_of symbol)
drawn_at masters layouts m master layout symbol lt laid_lt is laid name boxes = λ d.
    let made = λ (n : List ℕ) (ms : List Mask). (let d : Drawing = record { name = n; masks = ms } in d) in
    ap (λ n. made n (map mask_of symbol.boxes)) name ∙ ap (made master.cell.name) boxes
    ∙ ap (λ (one : Master). drawing_in (one, layout)) (is ∙ get_or_default masters m master d lt)
    ∙ ap (λ (one : Coords). drawing_in (get_or masters m d, one)) (laid ∙ get_or_default layouts m layout _ laid_lt)

-- and of all
pub all_drawn : (masters : List Master) (layouts : List Coords) (symbols : List Symbol)
    → length layouts ≡ length masters → length symbols ≡ length masters
    → ((m : ℕ) (d : Symbol) → m < length masters → IsDrawingAt masters layouts m (drawing_of (get_or symbols m d)))
    → map drawing_of symbols ≡ drawings_in masters layouts
all_drawn [] [] [] laid counted each = refl
all_drawn [] [] (symbol ∷ symbols) laid counted each = absurd (omega (arith, counted))
all_drawn [] (layout ∷ layouts) symbols laid counted each = absurd (omega (arith, laid))
all_drawn (master ∷ masters) [] symbols laid counted each = absurd (omega (arith, laid))
all_drawn (master ∷ masters) (layout ∷ layouts) [] laid counted each = absurd (omega (arith, counted))
all_drawn (master ∷ masters) (layout ∷ layouts) (symbol ∷ symbols) laid counted each =
    ap (λ d. d ∷ map drawing_of symbols) (each 0 symbol (omega arith) master)
    ∙ ap (λ ds. drawing_in (master, layout) ∷ ds)
    (all_drawn masters layouts symbols (omega (arith, laid)) (omega (arith, counted))
    (λ m d lt. each (suc m) d (omega (arith, lt))))
