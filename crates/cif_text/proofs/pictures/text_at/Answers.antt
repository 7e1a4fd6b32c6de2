use Rattle.std.proofs.{Common.{◌+◌, subst, sym, ap, ◌∙◌, arith}, lemmas.{List.get_or-map, Result.IfOk-weaker}}
use Rattle.rule_table.specs.Technology.{numbers_of}
use Rattle.mask_out.specs.Pictures.{Drawing, no_drawing, drawing_of}
use Rattle.cif_text.specs.{Cif.symbol_text, Calls.CanBeWritten, Cutting.IsOfLines}
use Rattle.cif_text.proofs.PictureLines.{symbol_lines, unit_size}
use Rattle.cif_text.proofs.pictures.text_at.Goals as goal

pub returns-clause-text : goal.returns-clause-text
returns-clause-text c =
    let unit = (numbers_of c.args.tech.now).unit in
    let symbols = c.args.symbols.now in
    let symbol = c.index-symbols-k.result in
    let drawn = get_or-map drawing_of symbols c.args.k symbol no_drawing c.requires.among
    ∙ ap drawing_of (sym c.index-symbols-k.is) in
    let text = ap (λ (d : Drawing). symbol_text (c.args.k + 1) unit d.name d.masks) drawn in
    IfOk-weaker c.symbol_text.result _ _ (λ made is. is ∙ sym text) c.symbol_text.ensures

pub returns-clause-lines : goal.returns-clause-lines
returns-clause-lines c =
    let few = c.requires.few in
    let symbol = c.index-symbols-k.result in
    let can = subst CanBeWritten (sym c.index-symbols-k.is) (c.requires.drawn c.args.k symbol c.requires.among) in
    let lines = symbol_lines (c.args.k + 1) (numbers_of c.args.tech.now).unit symbol (omega arith)
    (unit_size c.args.tech.now) can in
    IfOk-weaker c.symbol_text.result _ _ (λ made is. subst IsOfLines (sym is) lines) c.symbol_text.ensures
