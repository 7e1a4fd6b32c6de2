use Rattle.std.proofs.Common.{◌≡◌, ℕ, suc, ◌+◌, ◌*◌, ◌^◌, ◌<◌, ◌≤◌, Bool, w64, rules, ℤ, pos, neg_ℤ, ◌+ℤ◌, ◌≤ℤ◌, ◌<ℤ◌}
use Rattle.std.proofs.Common.{FitsSigned, to_z, of_z, List, length, set, sym, subst, ◌∙◌, arith}
use Rattle.std.proofs.lemmas.Int.{ints, to_z-of_z}
use Rattle.cons_graph.specs.declared.edges.Edge.{Edge}
use Rattle.cons_graph.specs.{Constraints.IsEdgeAmong, EdgeNumbers.edge_at, Solutions.{Meets, value_of}}
use Rattle.round_log.proofs.Least.{edge_among}
use Rattle.edit_session.specs.Raised.{IsRaised, room_left}
use Rattle.edit_session.proofs.Rises.{look_met, look_cycle, look_raised, within, room_less}
use Rattle.edit_session.proofs.raising.look.Goals as goal

-- the tail's value is small
tail_small : (vars tail : ℕ) (edges : List Edge) (x y : List ℤ) (marks : List Bool) (v n k : ℕ)
    → IsRaised vars tail edges x marks v n → k < length edges → y ≡ x
    → (neg_ℤ (pos (2 ^ 60)) ≤ℤ value_of y (edge_at edges k).from)
    × (value_of y (edge_at edges k).from ≤ℤ pos (2 ^ 60))
tail_small vars tail edges x y marks v n k h lt e =
    let among : IsEdgeAmong vars (edge_at edges k) = edge_among (record { vars = vars; edges = edges }) h.shape k lt in
    let w = within vars tail edges x marks v n h (edge_at edges k).from among.from_in_range in
    let a : neg_ℤ (pos (2 ^ 55)) ≤ℤ value_of x (edge_at edges k).from = w.0 in
    let b : value_of x (edge_at edges k).from ≤ℤ pos (2 ^ 59) = w.1 in
    let P : List ℤ → Type 0 = λ l. (neg_ℤ (pos (2 ^ 60)) ≤ℤ value_of l (edge_at edges k).from)
    × (value_of l (edge_at edges k).from ≤ℤ pos (2 ^ 60)) in
    subst P (sym e) (omega (arith, ints), omega (arith, ints))

-- the room that a raise takes
raise_less : (vars tail : ℕ) (edges : List Edge) (x y : List ℤ) (marks : List Bool) (v n k before after : ℕ)
    (asked a : ℤ) → IsRaised vars tail edges x marks v n → k < length edges → y ≡ x → asked ≡ a
    → a ≡ value_of y (edge_at edges k).from +ℤ (edge_at edges k).len → value_of y (edge_at edges k).to <ℤ a
    → after ≤ before + 1 → 2 * room_left (set x (edge_at edges k).to asked) + after ≤ 2 * room_left x + before
raise_less vars tail edges x y marks v n k before after asked a h lt e s is less count =
    let among : IsEdgeAmong vars (edge_at edges k) = edge_among (record { vars = vars; edges = edges }) h.shape k lt in
    let w = within vars tail edges x marks v n h (edge_at edges k).from among.from_in_range in
    let b : value_of x (edge_at edges k).from ≤ℤ pos (2 ^ 59) = w.1 in
    let P : List ℤ → Type 0 = λ l. a ≡ value_of l (edge_at edges k).from +ℤ (edge_at edges k).len in
    let Q : List ℤ → Type 0 = λ l. value_of l (edge_at edges k).to <ℤ a in
    let is' : a ≡ value_of x (edge_at edges k).from +ℤ (edge_at edges k).len = subst P e is in
    let less' : value_of x (edge_at edges k).to <ℤ a = subst Q e less in
    let long : (edge_at edges k).len ≤ℤ pos (2 ^ 21) = among.length_high in
    let inside : (edge_at edges k).to < length x =
    (let o : length x ≡ vars = h.one_each in let r : (edge_at edges k).to < vars = among.to_in_range in
    omega (arith, o, r)) in
    let R : ℤ → Type 0 = λ z. suc (room_left (set x (edge_at edges k).to z)) ≤ room_left x in
    let r : suc (room_left (set x (edge_at edges k).to asked)) ≤ room_left x =
    subst R (sym s) (room_less x (edge_at edges k).to a inside less' (omega (arith, ints))) in
    omega (arith, r, count)

pub asked-requires-clause-low : goal.asked-requires-clause-low
asked-requires-clause-low c =
    (tail_small (length c.args.x.now.items) c.args.tail c.args.edges.now c.args.x.now.items c.deref.result.now
    c.args.waiting.now.marks (edge_at c.args.edges.now c.args.k).from (c.args.k + 1) c.args.k c.requires.raised
    c.requires.in_range c.deref.ensures.value).0

pub asked-requires-clause-high : goal.asked-requires-clause-high
asked-requires-clause-high c =
    (tail_small (length c.args.x.now.items) c.args.tail c.args.edges.now c.args.x.now.items c.deref.result.now
    c.args.waiting.now.marks (edge_at c.args.edges.now c.args.k).from (c.args.k + 1) c.args.k c.requires.raised
    c.requires.in_range c.deref.ensures.value).1

pub returns-in_default-clause-raised : goal.returns-in_default-clause-raised
returns-in_default-clause-raised c = λ _.
    let edges : List Edge = c.args.edges.now in
    let x : List ℤ = c.args.x.now.items in
    let k : ℕ = c.args.k in
    let P : List ℤ → Type 0 = λ l. Meets (value_of l) (edge_at edges k) in
    let H : ℕ → Type 0 = λ n. IsRaised (length x) c.args.tail edges x c.args.waiting.now.marks (edge_at edges k).from
    n in
    let one : k + 1 ≡ suc k = omega arith in
    look_met (length x) c.args.tail edges x c.args.waiting.now.marks (edge_at edges k).from k
    (subst H one c.requires.raised) (subst P c.deref.ensures.value c.in_default.ensures.met)

pub returns-then-edge-tail-clause-cycle : goal.returns-then-edge-tail-clause-cycle
returns-then-edge-tail-clause-cycle c = λ _.
    let edges : List Edge = c.args.edges.now in
    let x : List ℤ = c.args.x.now.items in
    let e : Edge = edge_at edges c.args.k in
    let Q : List ℤ → Type 0 = λ l. value_of l e.to <ℤ (value_of l e.from +ℤ e.len) in
    let R : ℤ → Type 0 = λ a. value_of c.deref.result.now e.to <ℤ a in
    let less : value_of x e.to <ℤ (value_of x e.from +ℤ e.len) =
    subst Q c.deref.ensures.value (subst R c.in-Some.ensures.value c.in-Some.ensures.higher) in
    look_cycle (length x) c.args.tail edges x c.args.waiting.now.marks e.from (c.args.k + 1) c.args.k
    c.requires.raised c.requires.in_range c.if-edge-tail.true less

pub returns-clause-raised : goal.returns-clause-raised
returns-clause-raised c = λ _.
    let edges : List Edge = c.args.edges.now in
    let x : List ℤ = c.args.x.now.items in
    let k : ℕ = c.args.k in
    let e : Edge = edge_at edges k in
    let fits : FitsSigned w64 c.in-Some.value = search rules in
    let plain : to_z w64 (of_z w64 c.in-Some.value) ≡ c.in-Some.value = to_z-of_z w64 c.in-Some.value fits in
    let H : ℕ → Type 0 = λ n. IsRaised (length x) c.args.tail edges x c.args.waiting.now.marks e.from n in
    let one : k + 1 ≡ suc k = omega arith in
    let P : List ℤ → Type 0 = λ l. c.in-Some.value ≡ value_of l e.from +ℤ e.len in
    let Q : List ℤ → Type 0 = λ l. value_of l e.to <ℤ c.in-Some.value in
    let R : ℤ → Type 0 = λ a. value_of x e.to <ℤ a in
    look_raised (length x) c.args.tail edges x c.args.waiting.now.marks c.push.new.self.marks k
    (to_z w64 (of_z w64 c.in-Some.value)) (subst H one c.requires.raised) c.requires.in_range c.if-edge-tail.false
    (plain ∙ subst P c.deref.ensures.value c.in-Some.ensures.value)
    (subst R (sym plain) (subst Q c.deref.ensures.value c.in-Some.ensures.higher)) c.push.ensures.one_each
    c.push.ensures.waits c.push.ensures.still

pub returns-clause-less : goal.returns-clause-less
returns-clause-less c = λ _.
    let fits : FitsSigned w64 c.in-Some.value = search rules in
    raise_less (length c.args.x.now.items) c.args.tail c.args.edges.now c.args.x.now.items c.deref.result.now
    c.args.waiting.now.marks (edge_at c.args.edges.now c.args.k).from (c.args.k + 1) c.args.k
    c.args.waiting.now.count c.push.new.self.count (to_z w64 (of_z w64 c.in-Some.value)) c.in-Some.value
    c.requires.raised c.requires.in_range c.deref.ensures.value (to_z-of_z w64 c.in-Some.value fits)
    c.in-Some.ensures.value c.in-Some.ensures.higher c.push.ensures.count
