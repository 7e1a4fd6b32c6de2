use Rattle.std.proofs.{Common.{◌≡◌, ℕ, ◌+◌, Some, List, length, sym, ◌∙◌, ap, subst, arith}, lemmas.List.length_push}
use Rattle.std.specs.Prelude.{max}
use Rattle.graph_search.specs.Search.{mark_of, IsBeside, AreNumbers}
use Rattle.graph_search.proofs.{Neighbours.{netting_numbers, numbers_made}, Numbering.{IsNumbering, numbering_more}}
use Rattle.graph_search.proofs.search.numbers.Goals as goal

pub returns-clause-numbers : goal.returns-clause-numbers
returns-clause-numbers c =
    let n = c.loop-part.invariant.counted in
    numbers_made c.args.neighbours.now c.loop-part.marks.items c.loop-part.nets.items c.loop-part.count
    c.requires.both_ways (omega arith) c.loop-part.invariant.numbering

pub returns-clause-netting : goal.returns-clause-netting
returns-clause-netting c = λ links h.
    let n = c.loop-part.invariant.counted in
    let numbers : AreNumbers c.args.neighbours.now c.loop-part.nets.items =
    numbers_made c.args.neighbours.now c.loop-part.marks.items c.loop-part.nets.items c.loop-part.count
    c.requires.both_ways (omega arith) c.loop-part.invariant.numbering in
    netting_numbers (length c.args.neighbours.now) links c.args.neighbours.now c.loop-part.nets.items h numbers

pub loop-part-preserved : goal.loop-part-preserved
loop-part-preserved c =
    let v = c.loop-part.invariant in
    let marks = c.net_of.new.marks.items in
    let nets = c.loop-part.nets.items in
    let net = c.in_ok-net.net in
    let e = c.in_ok-net.ensures in
    let pushed = c.in_ok-push.ensures.items in
    let P : ℕ → Type 0 = λ k. mark_of marks k ≡ Some net in
    let more = numbering_more (IsBeside c.args.neighbours.now) c.loop-part.marks.items marks nets c.loop-part.count
    net v.numbering e.kept (subst P (sym v.counted) e.net) e.whole e.below in
    let Q : List ℕ → Type 0 = λ ns. IsNumbering (IsBeside c.args.neighbours.now) marks ns
    (max c.loop-part.count (net + 1)) in
    let R : ℕ → Type 0 = λ n. IsNumbering (IsBeside c.args.neighbours.now) marks c.push.new.self.items n in
    record {
      marked = e.counted ∙ v.marked;
      numbering = subst R (sym c.max-count.ensures) (subst Q (sym pushed) more);
      counted = ap length pushed ∙ length_push nets net ∙ ap (λ (k : ℕ). k + 1) v.counted;
    }
