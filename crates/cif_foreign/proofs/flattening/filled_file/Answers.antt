use Rattle.std.proofs.Common.{◌≡◌, ℕ, ◌+◌, ◌<◌, List, [], ◌∷◌, ◌++◌, map, length, take, get_or, refl, sym, ap, ◌∙◌}
use Rattle.std.proofs.{Common.arith, lemmas.List.{take_all, take_more, map_push}}
use Rattle.cif_read.specs.declared.file.{ForeignFile.ForeignFile, ForeignStep.ForeignStep, ForeignSymbol.ForeignSymbol}
use Rattle.cif_foreign.{specs.Counts.filled_symbol, proofs.Filling.steps_there}
use Rattle.cif_foreign.proofs.flattening.filled_file.Goals as goal

pub filled_steps-requires : goal.filled_steps-requires
filled_steps-requires c =
    let file = c.args.file.now in
    let i = c.loop-symbol.symbol-index in
    let symbol = c.symbol-item.result in
    let items = c.as_slice-symbol-items.ensures in
    let lt : i < length file.symbols = omega (arith, c.loop-symbol-test.true, ap length items) in
    steps_there file.symbols i symbol symbol.steps (length c.args.counts.now) c.requires.flat.symbols lt
    (c.symbol-item.is ∙ ap (λ list. get_or list i symbol) items) refl c.requires.all

-- one more symbol
symbols_filled : (counts : List ℕ) (all filled new : List ForeignSymbol) (i : ℕ) (symbol one : ForeignSymbol)
    → i < length all → symbol ≡ get_or all i symbol → filled ≡ map (filled_symbol counts) (take i all)
    → one ≡ filled_symbol counts symbol → new ≡ filled ++ one ∷ []
    → new ≡ map (filled_symbol counts) (take (i + 1) all)
symbols_filled counts all filled new i symbol one lt at so_far is pushed =
    let F = filled_symbol counts in
    pushed ∙ ap (λ zs. zs ++ one ∷ []) so_far ∙ ap (λ s. map F (take i all) ++ s ∷ []) is
    ∙ sym (map_push F (take i all) symbol)
    ∙ ap (map F) (ap (λ s. take i all ++ s ∷ []) at ∙ sym (take_more all i symbol lt))

with_steps : (symbol : ForeignSymbol) (a b : List ForeignStep) → a ≡ b
    → record symbol { steps = a } ≡ record symbol { steps = b }
with_steps symbol a b e = ap (λ (x : List ForeignStep). record symbol { steps = x }) e

pub loop-symbol-preserved : goal.loop-symbol-preserved
loop-symbol-preserved c =
    let file = c.args.file.now in
    let i = c.loop-symbol.symbol-index in
    let symbol = c.symbol-item.result in
    let items = c.as_slice-symbol-items.ensures in
    let lt : i < length file.symbols = omega (arith, c.loop-symbol-test.true, ap length items) in
    symbols_filled c.args.counts.now file.symbols c.loop-symbol.symbols.items c.push.new.self.items i symbol _ lt
    (c.symbol-item.is ∙ ap (λ list. get_or list i symbol) items) c.loop-symbol.invariant
    (with_steps symbol _ _ c.in_ok-steps.ensures.steps) c.in_ok-push.ensures.items

abbrev file_of : List ForeignSymbol → List ForeignStep → ForeignFile
file_of symbols top = record { symbols = symbols; top = top }

same_file : (s t : List ForeignSymbol) (a b : List ForeignStep) → s ≡ t → a ≡ b → file_of s a ≡ file_of t b
same_file s t a b e f = cc

pub returns-clause-file : goal.returns-clause-file
returns-clause-file c =
    let all = c.args.file.now.symbols in
    let items = ap length c.as_slice-symbol-items.ensures in
    let end = c.loop-symbol-test.false in
    same_file c.from_vec.result _ c.in_ok-top.top _
    (c.from_vec.ensures ∙ c.loop-symbol.invariant
    ∙ ap (map (filled_symbol c.args.counts.now))
    (take_all c.loop-symbol.symbol-index all (omega (arith, items, end)))) c.in_ok-top.ensures.steps
