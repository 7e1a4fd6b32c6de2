use Rattle.std.proofs.Common.{◌≡◌, ℕ, ◌+◌, ◌<◌, Bool, true, false, cond, ◌⊎◌, inl, inr, List, [], ◌∷◌, ◌++◌, length}
use Rattle.std.proofs.{Common.{take, get_or, sym, ap, ◌∙◌, Vec, Global}, lemmas.List.{append-nil, get_or-map}}
use Rattle.std.{proofs.lemmas.List.Elements.filter_more, specs.{List.filter, Prelude.◌==◌}}
use Rattle.rule_table.specs.declared.classes.Class.{Class}
use Rattle.sym_items.specs.declared.items.Item.{Item}
use Rattle.pair_rules.specs.Bound.{item_at}
use Rattle.scan_line.specs.Groups.{classes_of, group_of, is_of_group}
use Rattle.scan_line.proofs.group.members_of.Goals.{then-are_of_one_group+in_ok-push, else-are_of_one_group}
use Rattle.scan_line.proofs.group.members_of.Goals as goal

-- one more that is kept or not
kept_more : (p : ℕ → Bool) (xs ns next : List ℕ) (i : ℕ) (r : Bool) → i < length xs → r ≡ p (get_or xs i 0)
    → ns ≡ filter p (take i xs)
    → ((r ≡ true) × (next ≡ ns ++ get_or xs i 0 ∷ [])) ⊎ ((r ≡ false) × (next ≡ ns)) → next ≡ filter p (take (i + 1) xs)
kept_more p xs ns next i r lt is e way =
    let Kept : Bool → List ℕ = λ q. filter p (take i xs) ++ cond q (get_or xs i 0 ∷ []) [] in
    let more : filter p (take (i + 1) xs) ≡ Kept (p (get_or xs i 0)) = filter_more p xs i 0 lt in
    elim way [
      | inl (t, added) ↦ added ∙ (ap (λ (ms : List ℕ). ms ++ get_or xs i 0 ∷ []) e ∙ sym (more ∙ ap Kept (sym is ∙ t)))
      | inr (f, same) ↦ same ∙ (e ∙ sym (more ∙ (ap Kept (sym is ∙ f) ∙ append-nil (filter p (take i xs)))))
    ]

-- the class of an item stands where the item does
class_at : (items : List Item) (order : List ℕ) (classes : List Class) (i : ℕ) (d : Class) → i < length order
    → classes ≡ classes_of items order → get_or classes i d ≡ (item_at items (get_or order i 0)).class
class_at items order classes i d lt is =
    ap (λ cs. get_or cs i d) is ∙ get_or-map (λ k. (item_at items k).class) order i 0 d lt

pub loop-p-preserved : goal.loop-p-preserved
loop-p-preserved c = λ items is.
    let this = class_at items c.args.order.now c.args.classes.now c.loop-p.p _ c.loop-p-test.true is in
    kept_more (λ k. is_of_group c.args.class (item_at items k)) c.args.order.now c.loop-p.members.items _
    c.loop-p.p c.are_of_one_group.result c.loop-p-test.true
    (c.are_of_one_group.ensures ∙ ap (λ b. group_of b == group_of c.args.class) this)
    (c.loop-p.invariant items is) (elim c.if-are_of_one_group.branch [
      | then-are_of_one_group+in_ok-push w ↦
          inl (w.if-are_of_one_group.true, ap (λ (v : Vec ℕ Global). v.items) w.members-is ∙ w.in_ok-push.ensures.items)
      | else-are_of_one_group w ↦ inr (w.if-are_of_one_group.false, ap (λ (v : Vec ℕ Global). v.items) w.members-is)
    ])
