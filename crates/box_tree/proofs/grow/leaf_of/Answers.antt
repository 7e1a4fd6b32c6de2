use Rattle.std.proofs.{Common.{◌≡◌, ℕ, inl, inr, ◌∙◌, subst, arith}, lemmas.Bool.cases_lt}
use Rattle.box_tree.{specs.{declared.entries.Entry.Entry, Tree.{IsBounded, entry_of}}, proofs.Trees.entry_read}
use Rattle.box_tree.proofs.grow.leaf_of.Goals as goal

pub loop-place-init : goal.loop-place-init
loop-place-init c =
    let sorted = c.args.sorted.now in
    let entries = sorted.entries.now in
    let start = c.args.start in
    let leaf = c.of_entry-leaf.result in let first = c.of_entry-leaf.ensures in
    let read = entry_read entries start c.index-entries-start.result (omega arith) c.index-entries-start.is in
    record {
      placed = first.placed;
      starts = first.run.0;
      ends = omega (arith, first.run.1);
      inside = first.run.2;
      within = λ p low high.
          let at : start ≡ p = omega arith in
          subst (λ (n : ℕ). IsBounded leaf (entry_of entries n)) at
          (subst (λ (s : Entry). IsBounded leaf s) read first.bounded);
    }

pub loop-place-preserved : goal.loop-place-preserved
loop-place-preserved c =
    let sorted = c.args.sorted.now in
    let entries = sorted.entries.now in
    let place = c.loop-place.place in
    let leaf = c.joined-leaf.result in let more = c.joined-leaf.ensures in let one = c.of_entry.ensures in let now =
    c.loop-place.invariant in
    let entry = c.index-entries-place in
    let read = entry_read entries place entry.result (omega arith) entry.is in
    record {
      placed = more.placed;
      starts = more.run.0 ∙ now.starts;
      ends = omega (arith, more.run.1, one.run.1, now.ends);
      inside = more.run.2;
      within = λ p low high. elim (cases_lt p place) [
        | inl less ↦ more.first (entry_of entries p) (now.within p low less)
        | inr past ↦
            let at : place ≡ p = omega arith in
            subst (λ (n : ℕ). IsBounded leaf (entry_of entries n)) at
            (more.second (entry_of entries place)
            (subst (λ (s : Entry). IsBounded c.of_entry.result s) read one.bounded))
      ];
    }
