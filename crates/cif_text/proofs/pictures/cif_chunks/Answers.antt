use Rattle.std.proofs.{Common.{Vec, Global, ℕ, length, map, subst, sym, ap, ◌∙◌}, lemmas.List.Folds.flat_map-map}
use Rattle.rule_table.specs.Technology.{numbers_of}
use Rattle.mask_out.specs.Pictures.{drawing_of}
use Rattle.cif_text.specs.{Calls.{texts_of, calls_text, parts_of}, Cutting.{IsOfLines, IsCut, AreCut}}
use Rattle.cif_text.proofs.{AllCut.{text_cut, all_joined}, PictureLines.{calls_lines, unit_size}}
use Rattle.cif_text.proofs.pictures.cif_chunks.Goals as goal

pub push_cut-requires : goal.push_cut-requires
push_cut-requires g c =
    let picture = c.args.picture.now in
    let unit = (numbers_of c.args.tech.now).unit in
    subst IsOfLines
    (sym (c.deref.ensures.value ∙ (c.in_ok-calls.ensures ∙ ap (calls_text unit) c.as_slice.ensures)))
    (calls_lines (length picture.symbols) unit picture.calls c.requires.writable.few (unit_size c.args.tech.now)
    c.requires.writable.called)

pub returns-clause-chunks : goal.returns-clause-chunks
returns-clause-chunks g c =
    let unit = (numbers_of c.args.tech.now).unit in
    let text = c.deref.ensures.value ∙ (c.in_ok-calls.ensures ∙ ap (calls_text unit) c.as_slice.ensures) in
    let symbols =
    subst (λ ss. AreCut (texts_of unit (map drawing_of ss))
    (map (λ (chunk : Vec ℕ Global). chunk.items)
    c.in_ok-chunks.chunks.items)) c.as_slice-symbols.ensures c.in_ok-chunks.ensures in
    let cut = c.in_ok-push_cut.ensures in
    text_cut _ _ (calls_text unit c.args.picture.now.calls) cut.0 _ symbols (subst (λ t. IsCut t cut.0) text cut.2)
    cut.1

pub returns-clause-text : goal.returns-clause-text
returns-clause-text g c =
    sym (flat_map-map (λ chunk. chunk) (λ (chunk : Vec ℕ Global). chunk.items) c.push_cut.new.chunks.items)
    ∙ all_joined
    (parts_of (numbers_of c.args.tech.now).unit (map drawing_of c.args.picture.now.symbols)
    c.args.picture.now.calls) _ (returns-clause-chunks g c)
