-- The first items of pairs, one pair after the other.
use Rattle.std.proofs.Common.{◌≡◌, ℕ, ◌+◌, ◌<◌, List, [], ◌∷◌, ◌++◌, length, get_or, take, map, sym, ap, ◌∙◌}
use Rattle.std.proofs.lemmas.List.{take_more, map-append, Elements.{All-nil, All-push}}
use Rattle.sym_items.specs.declared.items.Item.{Item}
use Rattle.pair_rules.specs.{declared.pairs.Pair.Pair, Bound.item_at}
use Rattle.scan_line.specs.{declared.scan.Near.Near, Scan.AreFirstOf}

pub none_yet : (items : List Item) (pairs : List Pair) (near : List Near) → near ≡ []
    → AreFirstOf items (take 0 pairs) near
none_yet items pairs near e =
    record {
      numbers = ap (map (λ (n : Near). n.number)) e;
      spacings = ap (map (λ (n : Near). n.s)) e;
      each = rw e (All-nil (λ (n : Near). n.item.now ≡ item_at items n.number));
    }

more_of : {X : Type 0} (f : Near → X) (g : Pair → X) (pairs : List Pair) (k : ℕ) (p : Pair) (near next : List Near)
    (n : Near) → k < length pairs → p ≡ get_or pairs k p → next ≡ near ++ n ∷ []
    → f n ≡ g p → map f near ≡ map g (take k pairs) → map f next ≡ map g (take (k + 1) pairs)
more_of f g pairs k p near next n lt is added same was =
    let grown : take (k + 1) pairs ≡ take k pairs ++ p ∷ [] = take_more pairs k p lt
    ∙ ap (λ (q : Pair). take k pairs ++ q ∷ []) (sym is) in
    ap (map f) added
    ∙ (map-append f near (n ∷ [])
    ∙ (ap (λ ys. ys ++ f n ∷ []) was
    ∙ (ap (λ y. map g (take k pairs) ++ y ∷ []) same
    ∙ (sym (map-append g (take k pairs) (p ∷ [])) ∙ ap (map g) (sym grown)))))

-- that of one pair more
pub one_more_first : (items : List Item) (pairs : List Pair) (k : ℕ) (p : Pair) (near next : List Near) (n : Near)
    → k < length pairs → p ≡ get_or pairs k p → next ≡ near ++ n ∷ []
    → n.number ≡ p.i → n.s ≡ p.s → n.item.now ≡ item_at items n.number → AreFirstOf items (take k pairs) near
    → AreFirstOf items (take (k + 1) pairs) next
one_more_first items pairs k p near next n lt is added number spacing item h = record {
  numbers = more_of (λ (m : Near). m.number) (λ (q : Pair). q.i) pairs k p near next n lt is added number h.numbers;
  spacings = more_of (λ (m : Near). m.s) (λ (q : Pair). q.s) pairs k p near next n lt is added spacing h.spacings;
  each = rw added (All-push (λ (m : Near). m.item.now ≡ item_at items m.number) near n h.each item);
}
