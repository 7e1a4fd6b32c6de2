use Rattle.std.proofs.Common.{ℕ, ◌<◌, Option, Some, List, [], length, take, get_or, set, sym, ◌∙◌, ap, subst, arith}
use Rattle.std.{proofs.{Common.{Vec, Global, ◌+◌}, lemmas.List.take_all}, specs.List.Contains}
use Rattle.graph_search.{specs.Search.AreVisited, proofs.Marks.{reached_none, visited_seen, visited_new, read_none}}
use Rattle.graph_search.proofs.{Marks.read_marked, search.visit.Goals.{then-is_none+in_ok-push, else-is_none}}
use Rattle.graph_search.proofs.search.visit.Goals as goal

pub loop-part-preserved : goal.loop-part-preserved
loop-part-preserved c =
    let parts = c.args.parts.now in
    let i = c.loop-part.part-index in
    let old = c.args.marks.now.items in
    let marks = c.loop-part.marks.items in
    let before = c.args.queue.now.items in
    let queue = c.loop-part.queue.items in
    let v = c.loop-part.invariant in
    let lt : i < length parts = omega arith in
    let within : get_or parts i 0 < length marks = (let r = c.requires i 0 lt in let n = v.counted in omega arith) in
    elim c.if-is_none.branch [
      | then-is_none+in_ok-push w ↦
          (let none = read_none marks (get_or parts i 0) c.index.result.now c.is_none.result within c.index.ensures
          c.is_none.ensures w.if-is_none.true in
          let new = visited_new parts c.args.net old marks before queue i lt within none v in
          let P : List (Option ℕ) → Type 0 =
          λ m. AreVisited (take (i + 1) parts) c.args.net old m before c.if-is_none.queue.items in
          let Q : List ℕ → Type 0 =
          λ q. AreVisited (take (i + 1) parts) c.args.net old (set marks (get_or parts i 0) (Some c.args.net))
          before q in
          subst P (sym (ap (λ (x : Vec (Option ℕ) Global). x.items) w.marks-is))
          (subst Q (sym (ap (λ (x : Vec ℕ Global). x.items) w.queue-is ∙ w.in_ok-push.ensures.items)) new))
      | else-is_none w ↦
          (let seen = read_marked marks (get_or parts i 0) c.index.result.now c.is_none.result within c.index.ensures
          c.is_none.ensures w.if-is_none.false in
          let same = visited_seen parts c.args.net old marks before queue i lt seen v in
          let P : List (Option ℕ) → Type 0 =
          λ m. AreVisited (take (i + 1) parts) c.args.net old m before c.if-is_none.queue.items in
          let Q : List ℕ → Type 0 = λ q. AreVisited (take (i + 1) parts) c.args.net old marks before q in
          subst P (sym (ap (λ (x : Vec (Option ℕ) Global). x.items) w.marks-is))
          (subst Q (sym (ap (λ (x : Vec ℕ Global). x.items) w.queue-is)) same))
    ]

pub loop-part-init : goal.loop-part-init
loop-part-init c = reached_none (Contains []) c.args.net c.args.marks.now.items c.args.queue.now.items
    (λ k h. omega (arith, h.1))

pub returns : goal.returns
returns c =
    let P : List ℕ → Type 0 = λ xs. AreVisited xs c.args.net c.args.marks.now.items c.loop-part.marks.items
    c.args.queue.now.items c.loop-part.queue.items in
    subst P (take_all c.loop-part.part-index c.args.parts.now c.loop-part-test.false) c.loop-part.invariant
