-- The items of nodes that are found one by one.
use Rattle.std.proofs.Common.{◌≡◌, ℕ, ◌+◌, ◌<◌, ◌≤◌, Bool, true, false, cond, filter, List, [], ◌∷◌, ◌++◌, length, set}
use Rattle.std.proofs.Common.{Some, sym, ap, ◌∙◌, subst, arith, inl, inr, get_or-set_same, get_or-set_other}
use Rattle.std.proofs.lemmas.{Bool.{cases_eq, cases_lt}, List.{length-set, length_push, get_or_append_left}}
use Rattle.std.proofs.lemmas.{List.get_or_push, Option.{slice_get_within, slice_get-get_or, get_or_from_slice_get}}
use Rattle.std.specs.{Prelude.{slice_get, slice_index}, List.{All, AllByRecursion, range_with_len}}
use Rattle.lam_geom.specs.declared.boxes.MaskLayer.{MaskLayer, TheVariants.{ND, NP, NC, NM, NI, NB}}
use Rattle.rule_table.specs.declared.classes.Class.{Class}
use Rattle.sym_items.specs.declared.items.Item.{Item}
use Rattle.list_facts.proofs.Elements.{all_flat, all_numbers, all_of}
use Rattle.pair_rules.specs.Bound.{item_at}
use Rattle.expand.specs.declared.master.Master.{Master}
use Rattle.pitch_join.specs.Masters.{master_at}
use Rattle.mask_out.specs.Masks.{is_drawn, mask_layers}
use Rattle.instance_laws.specs.Shapes.{items_on, drawn_items}
use Rattle.design_nets.specs.{declared.node_items.NodeItems.NodeItems, Transistors.{IsOf, AreOfOwners, AreNodeItems}}

-- for each of the first owners that has an item among the first, the position of one
pub record AreFound (items : List Item) (among : List ℕ) (class : Class) (count passed : ℕ) (places : List ℕ) : Type
    0 where
  pub counted : length places ≡ count
  pub each : (k j : ℕ) → k < count → j < passed → IsOf items among class k j
      → IsOf items among class k (slice_index places k)

pub place_set : (items : List Item) (among : List ℕ) (class : Class) (count passed owner : ℕ) (places : List ℕ)
    → AreFound items among class count passed places → owner < count → IsOf items among class owner passed
    → AreFound items among class count (passed + 1) (set places owner passed)
place_set items among class count passed owner places h lt here =
    let n = h.counted in
    record {
      counted = length-set places owner passed ∙ n;
      each = λ k j lk lj is. elim (cases_eq k owner) [
        | inl e ↦
            (let at : slice_index (set places owner passed) k ≡ passed = ap (slice_index (set places owner passed)) e
            ∙ get_or-set_same places owner passed 0 (omega (arith, lt, n)) in
            subst (IsOf items among class k) (sym at) (subst (λ (o : ℕ). IsOf items among class o passed) (sym e) here))
        | inr ne ↦
            (let at = get_or-set_other places owner k passed 0 ne in
            elim (cases_lt j passed) [
              | inl before ↦ subst (IsOf items among class k) (sym at) (h.each k j lk before is)
              | inr past ↦
                  (let e : j ≡ passed = omega (arith, lj, past) in
                  absurd (ne
                  (sym is.owned ∙ (ap (λ (i : ℕ). (item_at items (slice_index among i)).owner) e ∙ here.owned))))
            ])
      ];
    }

pub place_passed : (items : List Item) (among : List ℕ) (class : Class) (count passed : ℕ) (places : List ℕ)
    → AreFound items among class count passed places → ((k : ℕ) → k < count → IsOf items among class k passed → ⊥)
    → AreFound items among class count (passed + 1) places
place_passed items among class count passed places h none = record {
  counted = h.counted;
  each = λ k j lk lj is. elim (cases_lt j passed) [
    | inl before ↦ h.each k j lk before is
    | inr past ↦
        (let e : j ≡ passed = omega (arith, lj, past) in absurd (none k lk (subst (IsOf items among class k) e is)))
  ];
}

pub found_all : (items : List Item) (among : List ℕ) (class : Class) (count passed : ℕ) (places : List ℕ)
    → AreFound items among class count passed places → length among ≤ passed
    → AreOfOwners items among class count places
found_all items among class count passed places h all =
    record {
      counted = h.counted;
      each = λ k j lt is.
          h.each k j lt (let within = is.within in omega (arith, within, all)) is;
    }

-- ---- which items are looked at

-- those that are boxes are items
pub drawn_within : (all items : List Item) (drawn : List ℕ) → items ≡ all → drawn ≡ drawn_items all
    → All (λ n. n < length items) drawn
drawn_within all items drawn same are =
    let Q : ℕ → Type 0 = λ n. n < length items in
    let on : (layer : MaskLayer) → AllByRecursion Q (items_on all layer) =
    λ layer. filtered Q (λ n. is_drawn layer (item_at all n).class) (range_with_len 0 (length all))
    (all_numbers Q 0 (length all)
    (λ k low high. (let e = ap (λ (is : List Item). length is) same in omega (arith, high, e)))) in
    subst (All Q) (sym are)
    (all_of Q (drawn_items all)
    (all_flat Q (items_on all) mask_layers (on ND, (on NP, (on NC, (on NM, (on NI, (on NB, tt))))))))
  where
    filtered : (Q : ℕ → Type 0) (p : ℕ → Bool) (ns : List ℕ) → AllByRecursion Q ns → AllByRecursion Q (filter p ns)
    filtered Q p [] h = tt
    filtered Q p (n ∷ ns) h = by (p n) (filtered Q p ns h.1)
      where
        by : (b : Bool) → AllByRecursion Q (filter p ns) → AllByRecursion Q (cond b (n ∷ filter p ns) (filter p ns))
        by true rest = (h.0, rest)
        by false rest = rest

pub numbers_within : (count : ℕ) (numbers : List ℕ) → numbers ≡ range_with_len 0 count → All (λ n. n < count) numbers
numbers_within count numbers e =
    subst (All (λ n. n < count)) (sym e)
    (all_of (λ n. n < count) (range_with_len 0 count)
    (all_numbers (λ n. n < count) 0 count (λ k low high. omega (arith, high))))

-- the same of the lists that these are
pub of_owners_at : (given items : List Item) (some among : List ℕ) (class : Class) (n count : ℕ) (places : List ℕ)
    → given ≡ items → some ≡ among → n ≡ count → AreOfOwners given some class n places
    → AreOfOwners items among class count places
of_owners_at given items some among class n count places e f g h =
    subst (λ (k : ℕ). AreOfOwners items among class k places) g
    (subst (λ (ns : List ℕ). AreOfOwners items ns class n places) f
    (subst (λ (is : List Item). AreOfOwners is some class n places) e h))

-- ---- master by master

pub record AreFirstItems (masters : List Master) (m : ℕ) (all : List NodeItems) : Type 0 where
  pub counted : length all ≡ m
  pub each : (k : ℕ) (found : NodeItems) → slice_get all k ≡ Some found → AreNodeItems (master_at masters k) found

pub items_more : (masters : List Master) (m : ℕ) (all : List NodeItems) (found : NodeItems)
    → AreFirstItems masters m all → AreNodeItems (master_at masters m) found
    → AreFirstItems masters (m + 1) (all ++ found ∷ [])
items_more masters m all found h own =
    let n = h.counted in
    record {
      counted = omega (arith, length_push all found, n);
      each = λ k other there. (
          let lt = slice_get_within (all ++ found ∷ []) k other there in
          elim (cases_lt k (length all)) [
            | inl before ↦
                (let same = get_or_append_left all (found ∷ []) other k before in
                h.each k other (slice_get-get_or all k other before
                ∙ ap Some (sym same ∙ get_or_from_slice_get (all ++ found ∷ []) k other other there)))
            | inr past ↦
                (let e : k ≡ length all = omega (arith, lt, past, length_push all found) in
                let is : found ≡ other = sym (get_or_push all found other k (sym e))
                ∙ get_or_from_slice_get (all ++ found ∷ []) k other other there in
                subst (AreNodeItems (master_at masters k)) is
                (subst (λ (i : ℕ). AreNodeItems (master_at masters i) found) (sym (e ∙ n)) own))
          ]);
    }
