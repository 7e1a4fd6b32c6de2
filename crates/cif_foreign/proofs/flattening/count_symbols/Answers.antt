use Rattle.std.proofs.Common.{◌≡◌, ℕ, ◌+◌, ◌<◌, ◌≤◌, List, [], ◌∷◌, ◌++◌, All, map, length, take, get_or, refl, sym, ap}
use Rattle.std.proofs.Common.{◌∙◌, subst, arith}
use Rattle.std.proofs.lemmas.List.{take_all, take_more, map_push, length_push, Elements.All-push, Sums.fold_push}
use Rattle.cif_read.specs.{Files.most_boxes, Foreign.foreign_symbol, declared.file.ForeignSymbol.ForeignSymbol}
use Rattle.cif_read.specs.Hierarchies.{Drawn, boxes_of_symbols, then_boxes}
use Rattle.cif_foreign.{specs.Counts.{counted, AreCounts}, proofs.Walking.steps_here}
use Rattle.cif_foreign.proofs.flattening.count_symbols.Goals as goal

pub count_steps-count-requires-clause-steps : goal.count_steps-count-requires-clause-steps
count_steps-count-requires-clause-steps c =
    let file = c.args.file.now in
    let i = c.loop-symbol.symbol-index in
    let symbol = c.symbol-item.result in
    let items = c.as_slice-symbol-items.ensures in
    let lt : i < length file.symbols = omega (arith, c.loop-symbol-test.true, ap length items) in
    steps_here file.symbols i symbol symbol.steps (length c.deref.result.now) c.requires.symbols lt
    (c.symbol-item.is ∙ ap (λ list. get_or list i symbol) items) refl
    (ap length c.deref.ensures.value ∙ c.loop-symbol.invariant.all)

abbrev boxes_of : List ForeignSymbol → List (List Drawn)
boxes_of symbols = boxes_of_symbols (map foreign_symbol symbols)

boxes_more : (all : List ForeignSymbol) (i : ℕ) (symbol : ForeignSymbol) → i < length all
    → symbol ≡ get_or all i symbol
    → boxes_of (take (i + 1) all) ≡ then_boxes (boxes_of (take i all)) (foreign_symbol symbol)
boxes_more all i symbol lt at =
    ap boxes_of (take_more all i symbol lt ∙ ap (λ s. take i all ++ s ∷ []) (sym at))
    ∙ ap boxes_of_symbols (map_push foreign_symbol (take i all) symbol)
    ∙ fold_push then_boxes [] (map foreign_symbol (take i all)) (foreign_symbol symbol)

-- the count of one more symbol
counts_more : (done : List (List Drawn)) (own : List Drawn) (counts new : List ℕ) (count : ℕ) → AreCounts counts done
    → count ≡ counted own → new ≡ counts ++ count ∷ [] → AreCounts new (done ++ own ∷ [])
counts_more done own counts new count are is pushed =
    pushed ∙ ap (λ zs. zs ++ count ∷ []) are ∙ ap (λ n. map counted done ++ n ∷ []) is ∙ sym (map_push counted done own)

pub loop-symbol-preserved : goal.loop-symbol-preserved
loop-symbol-preserved c =
    let all = c.args.file.now.symbols in
    let i = c.loop-symbol.symbol-index in
    let symbol = c.symbol-item.result in
    let items = c.as_slice-symbol-items.ensures in
    let lt : i < length all = omega (arith, c.loop-symbol-test.true, ap length items) in
    let counts = c.loop-symbol.counts.items in
    let count = c.count_steps-count.result in
    let are = c.loop-symbol.invariant.counts in
    let pushed = c.in_ok-push.ensures.items in
    let done = boxes_of (take i all) in
    record {
      counts = counts_more done _ counts c.push.new.self.items count are
          (c.count_steps-count.ensures.value done (c.deref.ensures.value ∙ are)) pushed
          ∙ ap (map counted)
          (sym (boxes_more all i symbol lt (c.symbol-item.is ∙ ap (λ list. get_or list i symbol) items)));
      few = subst (All (λ n. n ≤ most_boxes + 1)) (sym pushed)
          (All-push (λ n. n ≤ most_boxes + 1) counts count c.loop-symbol.invariant.few
          c.count_steps-count.ensures.few);
      all = ap length pushed ∙ length_push counts count ∙ ap (λ n. n + 1) c.loop-symbol.invariant.all;
    }

pub returns-clause-counts : goal.returns-clause-counts
returns-clause-counts c =
    let all = c.args.file.now.symbols in
    let items = ap length c.as_slice-symbol-items.ensures in
    let end = c.loop-symbol-test.false in
    c.loop-symbol.invariant.counts
    ∙ ap (λ s. map counted (boxes_of s)) (take_all c.loop-symbol.symbol-index all (omega (arith, items, end)))
