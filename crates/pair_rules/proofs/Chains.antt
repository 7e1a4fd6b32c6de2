-- A chain of kept and of rigid pairs stands for each candidate.
use Rattle.std.proofs.Common.{◌≡◌, ℕ, ℤ, ◌+ℤ◌, ◌≤ℤ◌, List, [], ◌∷◌, ◌++◌, refl, sym, subst, inl, inr, arith}
use Rattle.std.proofs.lemmas.{Int.ints, Bool.eqb-true, List.Elements.{All-nil, All-cons, All-append}}
use Rattle.lam_geom.specs.declared.boxes.Axis.{Axis}
use Rattle.rule_table.specs.declared.technology.Tech.{Tech}
use Rattle.sym_items.specs.declared.items.{Item.Item, Coords.Coords}
use Rattle.pair_rules.specs.{declared.pairs.Pair.Pair, Bound.item_at, Candidates.{high_end, low_end}, Kept.least_of}
use Rattle.pair_rules.specs.Chains.{IsChainLink, LeadsTo, reach_of, IsChained, LeavesChains}
use Rattle.pair_rules.proofs.{FacingItems.out_of_facing, PairLists.all_candidates, Pruning.shows_of_candidates}
use Rattle.pair_rules.proofs.KeptPairs.{kept_by_test}

one_link : (axis : Axis) (t : Tech) (c : Coords) (items : List Item) (p : Pair) → IsChainLink axis t c items p
    → IsChained axis t c items p.i p.j p.s
one_link axis t c items p link =
    record {
      chain = p ∷ [];
      links = All-cons (IsChainLink axis t c items) p [] link
          (All-nil (IsChainLink axis t c items));
      leads = (refl, refl);
      far = omega (arith, ints);
    }

leads_on : (i k j : ℕ) (ps qs : List Pair) → LeadsTo i ps k → LeadsTo k qs j → LeadsTo i (ps ++ qs) j
leads_on i k j [] qs here rest = subst (λ m. LeadsTo m qs j) (sym here) rest
leads_on i k j (p ∷ ps) qs first rest = (first.0, leads_on p.j k j ps qs first.1 rest)

reach_on : (axis : Axis) (items : List Item) (ps qs : List Pair)
    → reach_of axis items (ps ++ qs) ≡ reach_of axis items ps +ℤ reach_of axis items qs
reach_on axis items [] qs = omega (arith, ints)
reach_on axis items (p ∷ ps) qs = let rest = reach_on axis items ps qs in omega (arith, ints, rest)

far_on : (s l a m b x y z : ℤ) → z ≡ x +ℤ y → (a +ℤ m) ≤ℤ x → (b +ℤ l) ≤ℤ y → s ≤ℤ ((a +ℤ m) +ℤ b) → (s +ℤ l) ≤ℤ z
far_on s l a m b x y z both first second far = omega (arith, ints, both, first, second, far)

-- two chains, one after the other
joined : (axis : Axis) (t : Tech) (c : Coords) (items : List Item) (i k j : ℕ) (a b s : ℤ)
    → IsChained axis t c items i k a → IsChained axis t c items k j b
    → s ≤ℤ ((a +ℤ least_of axis items k) +ℤ b) → IsChained axis t c items i j s
joined axis t c items i k j a b s u v far =
    record {
      chain = u.chain ++ v.chain;
      links = All-append (IsChainLink axis t c items) u.chain v.chain u.links v.links;
      leads = leads_on i k j u.chain v.chain u.leads v.leads;
      far = far_on s (least_of axis items j) a (least_of axis items k) b (reach_of axis items u.chain)
          (reach_of axis items v.chain) _ (reach_on axis items u.chain v.chain) u.far v.far far;
    }

pub leaves_chains : (axis : Axis) (t : Tech) (c : Coords) (items : List Item) → LeavesChains axis t c items
leaves_chains axis t c items boxes =
    all_candidates axis t c items (λ (p : Pair). IsChained axis t c items p.i p.j p.s)
    (shows_of_candidates axis t c items (IsChained axis t c items) boxes
    (λ i k j a b s k_lt first second far. joined axis t c items i k j a b s first second far)
    (λ i j s i_lt j_lt e constant. one_link axis t c items (record { i = i; j = j; s = s }) (inr (record {
      i_among = i_lt;
      j_among = j_lt;
      candidate = out_of_facing axis t c (item_at items i) (item_at items j) s e;
      one_variable = eqb-true (high_end axis items i).var (low_end axis items j).var constant;
    })))
    (λ i j s i_lt j_lt e kept. one_link axis t c items (record { i = i; j = j; s = s })
    (inl (kept_by_test axis t c items i j s i_lt j_lt e kept))))
