use Rattle.std.proofs.Common.{◌≡◌, ℕ, Some, inl, inr, true, false, sym, ap, ◌∙◌, subst, arith}
use Rattle.std.proofs.lemmas.{Bool.cases_lt, Option.slice_get-get_or}
use Rattle.box_tree.{specs.{Queries.Holds, Tree.entry_of}, proofs.Trees.entry_read}
use Rattle.box_tree.proofs.search.search_run.Goals as goal

pub returns-then-holds : goal.returns-then-holds
returns-then-holds c =
    let entries = c.args.entries.now in let place = c.loop-place.place in
    let entry = c.index-entries-place in
    record {
      entry = entry.result;
      there = slice_get-get_or entries place entry.result (omega arith)
          ∙ ap Some (sym entry.is);
      holds = c.holds.ensures.0 c.if-holds.true;
    }

pub loop-place-preserved : goal.loop-place-preserved
loop-place-preserved c = λ p low high holds.
    let entries = c.args.entries.now in let place = c.loop-place.place in
    let entry = c.index-entries-place in
    elim (cases_lt p place) [
      | inl less ↦ c.loop-place.invariant p low less holds
      | inr past ↦
          let at : p ≡ place = omega arith in
          let read = entry_read entries place entry.result (omega arith) entry.is in
          let here = subst (Holds c.args.query.now) (sym read)
          (subst (λ (n : ℕ). Holds c.args.query.now (entry_of entries n)) at holds) in
          let t : c.holds.result ≡ true = c.holds.ensures.1 here in
          let f : c.holds.result ≡ false = c.if-holds.false in cc
    ]
