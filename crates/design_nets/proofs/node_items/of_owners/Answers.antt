use Rattle.std.proofs.Common.{ℕ, ◌+◌, List, get_or, refl, ap, ◌∙◌, sym, subst, arith, rules, Vec, Global}
use denote.Enum.Bare.{same_true, same_false}
use Rattle.rule_table.specs.contracts.classes.Class.{the_type}
use Rattle.sym_items.specs.declared.items.Item.{Item}
use Rattle.pair_rules.specs.Bound.{item_at}
use Rattle.design_nets.proofs.NodeItems.{AreFound, place_set, place_passed}
use Rattle.design_nets.proofs.node_items.of_owners.Goals.{then-eq+then-owner-count, else-eq}
use Rattle.design_nets.proofs.node_items.of_owners.Goals.{else-eq-via-then-eq+else-owner-count, else-eq-via-else-eq}
use Rattle.design_nets.proofs.node_items.of_owners.Goals as goal

pub loop-j-preserved : goal.loop-j-preserved
loop-j-preserved c =
    let items = c.args.items.now in
    let among = c.args.among.now in
    let class = c.args.class in
    let j = c.loop-j.j in
    let own : Item = item_at items (get_or among j 0) in
    let P : List ℕ → Type 0 = λ places. AreFound items among class c.args.count (j + 1) places in
    elim c.if-eq.branch [
      | then-eq+then-owner-count w ↦
          (let alike = same_true the_type (search rules) own.class class (sym c.eq.ensures ∙ w.if-eq.true) in
          subst P (sym (ap (λ (v : Vec ℕ Global). v.items) w.places-is))
          (place_set items among class c.args.count j own.owner c.loop-j.places.items c.loop-j.invariant
          w.if-owner-count.true (record { within = c.loop-j-test.true; of_class = alike; owned = refl })))
      | else-eq w ↦
          subst P (sym (ap (λ (v : Vec ℕ Global). v.items) w.places-is))
          (place_passed items among class c.args.count j c.loop-j.places.items c.loop-j.invariant
          (λ k lt is. elim w.else-eq.branch [
            | else-eq-via-then-eq+else-owner-count v ↦
                (let past = v.if-owner-count.false in let e = is.owned in absurd (omega (arith, lt, past, e)))
            | else-eq-via-else-eq v ↦ same_false the_type own.class class (sym c.eq.ensures ∙ v.if-eq.false) is.of_class
          ]))
    ]
