use Rattle.std.proofs.{Common.{◌≡◌, ℕ, List, length, ap, subst, ◌∙◌, arith, rules}, lemmas.Fn.always_returns_same}
use Rattle.std.specs.List.{range_with_len, Sorted.IsPermutation}
use Rattle.round_log.specs.Orders.{NamesEachOnce}
use Rattle.liao_wong.proofs.InOrder.{key_of, in_order, names_sorted, range_ends}
use Rattle.liao_wong.proofs.sorting.sort_order.Goals as goal

pub loop-v-init : goal.loop-v-init
loop-v-init c = c.new-order.ensures.items

pub loop-v-preserved : goal.loop-v-preserved
loop-v-preserved c = range_ends c.loop-v.v c.loop-v.order.items c.push.new.self.items c.loop-v.invariant
    c.in_ok-push.ensures.items

sorted_names : (xs ys : List ℕ) (v n : ℕ) → xs ≡ range_with_len 0 v → v ≡ n → IsPermutation xs ys → NamesEachOnce n ys
sorted_names xs ys v n e f same =
    let P : List ℕ → Type 0 = λ l. IsPermutation l ys in
    names_sorted n ys (subst P (e ∙ ap (range_with_len 0) f) same)

pub returns-clause-names : goal.returns-clause-names
returns-clause-names c = sorted_names c.loop-v.order.items c.sort_unstable_by_key.new.self.items c.loop-v.v
    (length c.args.x.now) c.loop-v.invariant (omega arith) c.sort_unstable_by_key.ensures.permutation

pub returns-clause-in_order : goal.returns-clause-in_order
returns-clause-in_order c =
    let names = sorted_names c.loop-v.order.items c.sort_unstable_by_key.new.self.items c.loop-v.v
    (length c.args.x.now) c.loop-v.invariant (omega arith) c.sort_unstable_by_key.ensures.permutation in
    in_order c.args.x.now c.sort_unstable_by_key.new.self.items names.once
    (c.sort_unstable_by_key.ensures.sorted (key_of c.args.x.now)
    (always_returns_same _ _ _ (λ a r f' k. search rules)))
