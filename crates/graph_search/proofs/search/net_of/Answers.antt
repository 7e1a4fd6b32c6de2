use Rattle.std.{proofs.{Common.{◌≡◌, ℕ, ◌+◌, None, sym, ◌∙◌, subst, arith}, lemmas.List.get_or_read}, specs.Prelude.max}
use Rattle.graph_search.{specs.Search.{IsBeside, AreWhole}, proofs.Spreading.whole_more}
use Rattle.graph_search.proofs.search.net_of.Goals as goal

pub returns-in-Some-clause-below : goal.returns-in-Some-clause-below
returns-in-Some-clause-below c =
    let marks = c.args.marks.now.items in
    let n = c.requires.counted in
    let r = c.requires.in_range in
    let b = c.requires.whole.below c.args.part c.in-Some.net
    (sym (get_or_read marks c.args.part c.index.result.now (omega arith) c.index.ensures None) ∙ c.in-Some.is) in
    omega arith

pub returns-clause-whole : goal.returns-clause-whole
returns-clause-whole c =
    let marks = c.spread.new.marks.items in
    let P : ℕ → Type 0 = λ n. AreWhole (IsBeside c.args.neighbours.now) n marks in
    let e : c.args.next + 1 ≡ max c.args.next (c.args.next + 1) = omega arith in
    subst P e
    (whole_more (IsBeside c.args.neighbours.now) c.args.part c.args.next c.args.marks.now.items marks
    c.requires.both_ways.back c.requires.whole c.in_ok-spread.ensures)
