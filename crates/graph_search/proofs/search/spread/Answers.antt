use Rattle.std.proofs.Common.{◌≡◌, ℕ, ◌<◌, Some, Option, List, [], ◌∷◌, ◌++◌, length, get_or, set, sym, ◌∙◌, ap, subst}
use Rattle.std.proofs.{Common.{arith, Contains}, lemmas.List.Elements.Contains-get_or}
use Rattle.graph_search.specs.Search.{neighbours_of, IsBeside, AreReached, AreVisited}
use Rattle.graph_search.proofs.{Neighbours.{read_list, read_queue}, Marks.reached_one, Spreading.spreading_begun}
use Rattle.graph_search.proofs.Spreading.{spreading_more, spreading_done}
use Rattle.graph_search.proofs.search.spread.Goals as goal

pub loop-passed-init : goal.loop-passed-init
loop-passed-init c =
    let start = c.args.start in let net = c.args.net in let old = c.args.marks.now.items in
    let new : List (Option ℕ) = set old start (Some net) in
    let pushed = c.in_ok-push.ensures.items ∙ ap (λ (q : List ℕ). q ++ start ∷ []) c.new-reached.ensures.items in
    let within = subst (λ (n : ℕ). start < n) (sym c.requires.counted) c.requires.in_range in
    let P : List ℕ → Type 0 = λ q. AreReached (λ k. k ≡ start) net old new [] q in
    spreading_begun (IsBeside c.args.neighbours.now) start net old new c.push.new.self.items c.requires.unmarked
    (subst P (sym pushed) (reached_one start net old [] within c.requires.unmarked))

pub bounds-neighbours-part : goal.bounds-neighbours-part
bounds-neighbours-part c =
    (read_queue _ _ _ _ _ _ _ c.index-part.result.now c.requires.counted c.loop-passed.invariant (omega arith)
    c.index-part.ensures).1

pub visit-requires : goal.visit-requires
visit-requires c =
    let lists = c.args.neighbours.now in
    let q = read_queue _ _ _ _ _ _ _ c.index-part.result.now c.requires.counted c.loop-passed.invariant (omega arith)
    c.index-part.ensures in
    let e = c.as_slice.ensures ∙ read_list lists c.index-part.result.now c.index-neighbours-part.result q.1
    c.index-neighbours-part.is in
    λ k d lt.
    let P : List ℕ → Type 0 = λ xs. Contains xs (get_or c.as_slice.result.now k d) in
    let n = c.loop-passed.invariant.counted in
    let m = c.requires.counted in
    let w = c.requires.both_ways.within c.index-part.result.now (get_or c.as_slice.result.now k d)
    (subst P e (Contains-get_or c.as_slice.result.now k d lt)) in
    omega arith

pub loop-passed-preserved : goal.loop-passed-preserved
loop-passed-preserved c =
    let lists = c.args.neighbours.now in
    let old = c.loop-passed.marks.items in
    let queue = c.loop-passed.reached.items in
    let lt : c.loop-passed.passed < length queue = omega arith in
    let q = read_queue _ _ _ _ _ _ _ c.index-part.result.now c.requires.counted c.loop-passed.invariant lt
    c.index-part.ensures in
    let e = c.as_slice.ensures ∙ read_list lists c.index-part.result.now c.index-neighbours-part.result q.1
    c.index-neighbours-part.is in
    let P : List ℕ → Type 0 = λ xs. AreVisited xs c.args.net old c.visit.new.marks.items queue
    c.visit.new.queue.items in
    spreading_more (IsBeside lists) c.args.start c.args.net c.args.marks.now.items old c.visit.new.marks.items queue
    c.visit.new.queue.items c.loop-passed.passed lt c.loop-passed.invariant
    (subst P (e ∙ ap (neighbours_of lists) q.0) c.in_ok-visit.ensures)

pub returns : goal.returns
returns c = spreading_done (IsBeside c.args.neighbours.now) c.args.start c.args.net c.args.marks.now.items
    c.loop-passed.marks.items c.loop-passed.reached.items c.loop-passed.passed (omega arith) c.loop-passed.invariant
