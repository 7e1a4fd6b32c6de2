-- The set holds the numbers of exactly the kept pairs in the end.
use Rattle.std.proofs.Common.{◌≡◌, ◌<◌, List, length, flat_map, get_or, ℤ, refl, sym, subst, ap, map, ◌∙◌, inl, inr, arith, below_more}
use Rattle.std.proofs.lemmas.List.{length-map, Folds.flat_map-map}
use Rattle.pair_set.specs.Sets.{pair_of}
use Rattle.pair_rules.{proofs.KeptPairs.are_kept}
use Rattle.scan_line.specs.Begins.{IsOrderOf}
use Rattle.shadow_prune.specs.declared.families.Family.TheVariants.{Metal}
use Rattle.shadow_prune.specs.Families.{families}
use Rattle.shadow_prune.specs.KeptNumbers.{IsKeptNumbers, pairs_of_numbers}
use Rattle.shadow_prune.proofs.Found.{seen_in_order, has_all_kept, kept_among, each_kept, refuses_kept}
use Rattle.shadow_prune.proofs.KeptLists.{few_listed, is_kept_list}
use Rattle.shadow_prune.proofs.Listed.{all_keys}
use Rattle.shadow_prune.proofs.keeping.kept.Goals as goal

pub loop-family-preserved : goal.loop-family-preserved
loop-family-preserved c =
    let invariant = c.loop-family.invariant in
    let e = c.add_family-added.ensures in
    record {
      families_are = refl;
      limit = e.limit ∙ invariant.limit;
      room = omega (arith, c.in_default.ensures.few, e.limit, invariant.limit);
      sound = λ pair w. elim (e.added pair w) [ inl old ↦ invariant.sound pair old | inr kept ↦ kept ];
      all = below_more _ _ (λ k lt pair has seen. e.kept pair (invariant.all k lt pair has seen))
          (seen_in_order c.args.axis c.args.tech.now c.args.coords.now c.args.items.now
          c.deref-in-loop-family.result.now c.in_ok-order.order.items c.add_family-added.new.found
          (get_or families c.loop-family.family-index Metal)
          c.deref-in-loop-family.ensures.value c.in_default.ensures.all);
    }

pub returns-in-Err-clause-fault : goal.returns-in-Err-clause-fault
returns-in-Err-clause-fault c =
    let invariant = c.loop-family.invariant in
    let e = c.add_family-added.ensures in
    rw c.no_list.ensures (refuses_kept c.args.axis c.args.tech.now c.args.coords.now c.args.items.now c.args.limit
    c.add_family-added.new.found c.in-Err.fault (e.limit ∙ invariant.limit) c.in-Err.ensures.fault
    (λ pair w. elim (e.added pair w) [ inl old ↦ invariant.sound pair old | inr kept ↦ kept ]))

pub with_spacings-requires-clause-among : goal.with_spacings-requires-clause-among
with_spacings-requires-clause-among c =
    let items = c.args.items.now in
    rw c.deref-2.ensures.value (all_keys (λ n. (n.0 < length items) × (n.1 < length items))
    c.into_sorted-keys.result.items
    (kept_among c.args.axis c.args.tech.now c.args.coords.now c.args.items.now
    (map pair_of c.into_sorted-keys.result.items)
    (λ n w. c.loop-family.invariant.sound n ((c.into_sorted-keys.ensures.same n).0 w))))

pub with_spacings-requires-clause-kept : goal.with_spacings-requires-clause-kept
with_spacings-requires-clause-kept c =
    rw c.deref-2.ensures.value
    (all_keys (IsKeptNumbers c.args.axis c.args.tech.now c.args.coords.now c.args.items.now)
    c.into_sorted-keys.result.items
    (each_kept c.args.axis c.args.tech.now c.args.coords.now c.args.items.now
    (map pair_of c.into_sorted-keys.result.items)
    (λ n w. c.loop-family.invariant.sound n ((c.into_sorted-keys.ensures.same n).0 w))))

pub returns-clause-value : goal.returns-clause-value
returns-clause-value c =
    let axis = c.args.axis in
    let t = c.args.tech.now in
    let coords = c.args.coords.now in
    let items = c.args.items.now in
    let keys = c.into_sorted-keys.result.items in
    rw c.deref-2.ensures.value at c.in_ok-with_spacings.ensures
    ∙ (sym (flat_map-map (pairs_of_numbers axis t coords items) pair_of keys)
    ∙ is_kept_list axis t coords items (map pair_of keys)
    (λ n w. c.loop-family.invariant.sound n ((c.into_sorted-keys.ensures.same n).0 w))
    c.into_sorted-keys.ensures.in_order
    (λ p kept. (c.into_sorted-keys.ensures.same (p.j, p.i)).1
    (has_all_kept axis t coords items c.in_ok-order.order.items c.requires.boxes c.requires.clean
    (subst (λ (begins : List ℤ). IsOrderOf begins c.in_ok-order.order.items)
    (c.deref.ensures.value ∙ c.in_ok-begins.ensures) c.in_ok-order.ensures) c.loop-family.found
    (λ k lt. c.loop-family.invariant.all k (omega arith)) p kept)))

pub returns-clause-few : goal.returns-clause-few
returns-clause-few c =
    let axis = c.args.axis in
    let t = c.args.tech.now in
    let coords = c.args.coords.now in
    let items = c.args.items.now in
    let keys = c.into_sorted-keys.result.items in
    let listed = few_listed axis t coords items (map pair_of keys) in
    let as_many = length-map keys pair_of in
    let is : length c.in_ok-with_spacings.field-0.items
    ≡ length (flat_map (pairs_of_numbers axis t coords items) (map pair_of keys)) =
    ap length (rw c.deref-2.ensures.value at c.in_ok-with_spacings.ensures
    ∙ sym (flat_map-map (pairs_of_numbers axis t coords items) pair_of keys)) in
    omega (arith, is, listed, as_many, c.into_sorted-keys.ensures.few, c.loop-family.invariant.room)

pub returns-clause-each : goal.returns-clause-each
returns-clause-each c = (are_kept c.args.axis c.args.tech.now c.args.coords.now c.args.items.now
    c.in_ok-with_spacings.field-0.items (returns-clause-value c)).each

pub returns-clause-all : goal.returns-clause-all
returns-clause-all c = (are_kept c.args.axis c.args.tech.now c.args.coords.now c.args.items.now
    c.in_ok-with_spacings.field-0.items (returns-clause-value c)).all

pub returns-clause-spacings : goal.returns-clause-spacings
returns-clause-spacings c = (are_kept c.args.axis c.args.tech.now c.args.coords.now c.args.items.now
    c.in_ok-with_spacings.field-0.items (returns-clause-value c)).spacings

pub returns-clause-apart : goal.returns-clause-apart
returns-clause-apart c = (are_kept c.args.axis c.args.tech.now c.args.coords.now c.args.items.now
    c.in_ok-with_spacings.field-0.items (returns-clause-value c)).apart
