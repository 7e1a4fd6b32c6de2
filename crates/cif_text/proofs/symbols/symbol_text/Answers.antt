use Rattle.std.{proofs.{Common.{rules, ◌≡◌, map, ap, ◌++◌, ◌∙◌, to_z, of_z, w64}, lemmas.Int.ints}, specs.Prelude.codes}
use Rattle.mask_out.specs.Masks.{mask_of}
use Rattle.rule_table.specs.Technology.{numbers_of}
use Rattle.cif_text.{specs.Cif.{scale_line, layers_text, symbol_text}, proofs.Chunks.symbol_joined}
use Rattle.cif_text.proofs.symbols.symbol_text.Goals as goal

pub returns : goal.returns
unfolding symbol_text
returns c =
    let s = c.args.symbol.now in
    let u : to_z w64 (of_z w64 c.numbers.result.unit) ≡ c.numbers.result.unit =
    search (rules, ints, c.numbers.ensures.sound) in
    symbol_joined (scale_line c.args.number (numbers_of c.args.tech.now).unit) (codes "9 ") s.name (codes ";\n")
    (layers_text (map mask_of s.boxes)) (codes "DF;\n") _ _ _ _ _ _
    (c.in_ok-out.ensures.items
    ∙ (c.as_bytes.ensures.value
    ∙ (c.in_ok-scale.ensures ∙ ap (scale_line c.args.number) (u ∙ ap (λ n. n.unit) c.numbers.ensures.value))))
    c.in_ok-extend_from_slice.ensures.items
    (c.in_ok-extend_from_slice-2.ensures.items ∙ ap (λ zs. c.extend_from_slice.new.self.items ++ zs) c.bytes.ensures)
    c.in_ok-extend_from_slice-3.ensures.items
    (c.in_ok-push_layers.ensures
    ∙ ap (λ boxes. c.extend_from_slice-3.new.self.items ++ layers_text (map mask_of boxes)) c.as_slice.ensures)
    c.in_ok-extend_from_slice-4.ensures.items
