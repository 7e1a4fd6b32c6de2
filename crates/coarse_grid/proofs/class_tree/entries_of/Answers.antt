use Rattle.std.proofs.Common.{◌∙◌, ◌+◌, ◌<◌, List, length, Vec, Global, refl, sym, ap, subst, arith}
use Rattle.box_tree.specs.declared.entries.Entry.{Entry}
use Rattle.pair_rules.specs.Bound.{item_at}
use Rattle.coarse_grid.{specs.Nearby.AreItemEntries, proofs.ClassTrees.{entries_more, entries_past}}
use Rattle.coarse_grid.proofs.class_tree.entries_of.Goals.{then-is_of+in_ok-push, else-is_of}
use Rattle.coarse_grid.proofs.class_tree.entries_of.Goals as goal

pub loop-i-preserved : goal.loop-i-preserved
loop-i-preserved c =
    let items = c.args.items.now in
    let i = c.loop-i.i in
    let T : List Entry → Type 0 = AreItemEntries c.args.coords.now items c.args.class (i + 1) in
    let lt : i < length items = omega arith in
    elim c.if-is_of.branch [
      | then-is_of+in_ok-push w ↦
          (let own : Entry = record { area = w.box_of-area.result; owner = i; tag = (item_at items i).net } in
          subst T (sym (ap (λ (v : Vec Entry Global). v.items) w.entries-is ∙ w.in_ok-push.ensures.items))
          (entries_more c.args.coords.now items c.args.class i c.loop-i.entries.items own c.loop-i.invariant refl
          w.box_of-area.ensures.placed
          (record {
            among = lt;
            class_is = c.is_of.ensures.0 w.if-is_of.true;
            tag = refl;
            sides = w.box_of-area.ensures.sides;
          })))
      | else-is_of w ↦ subst T (sym (ap (λ (v : Vec Entry Global). v.items) w.entries-is))
          (entries_past c.args.coords.now items c.args.class i c.loop-i.entries.items c.loop-i.invariant
          (λ is. let t = c.is_of.ensures.1 is in let f = w.if-is_of.false in let no : ⊥ = cc in no))
    ]
