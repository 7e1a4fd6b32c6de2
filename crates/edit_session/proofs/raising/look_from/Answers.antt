use Rattle.std.proofs.Common.{◌≡◌, ℕ, suc, ◌+◌, ◌-◌, ◌<◌, ◌≤◌, Bool, ℤ, List, length, get_or, sym, subst, ◌∙◌, refl}
use Rattle.std.proofs.{Common.arith, lemmas.List.get_or_read}
use Rattle.cons_graph.specs.{declared.edges.Edge.Edge, EdgeNumbers.edge_at}
use Rattle.edit_session.{specs.{Links.IsLatest, Raised.IsRaised}, proofs.Rises.look_on}
use Rattle.edit_session.proofs.raising.look_from.Goals as goal

-- what the loop keeps, from what the links say
record Is_on (vars tail : ℕ) (edges : List Edge) (x : List ℤ) (marks : List Bool) (v older : ℕ) : Type 0 where
  within : older ≤ length edges
  leaves : (k : ℕ) → older ≡ suc k → (edge_at edges k).from ≡ v
  raised : IsRaised vars tail edges x marks v older

on : (vars tail : ℕ) (edges : List Edge) (x : List ℤ) (marks : List Bool) (v n older link : ℕ) → n ≤ length edges
    → IsRaised vars tail edges x marks v n → IsLatest edges v n link → older ≡ link
    → Is_on vars tail edges x marks v older
on vars tail edges x marks v n older link le h latest e =
    let w : link ≤ n = latest.within in
    let P : ℕ → Type 0 = λ l. IsRaised vars tail edges x marks v l in
    record {
      within = omega arith;
      leaves = λ k s. latest.leaves k (sym e ∙ s);
      raised = subst P (sym e) (look_on vars tail edges x marks v n link h latest);
    }

pub loop-older-init : goal.loop-older-init
loop-older-init c =
    let edges : List Edge = c.args.edges.now in
    let x : List ℤ = c.args.x.now.items in
    let latest : List ℕ = c.args.links.now.latest.items in
    let inside : c.args.v < length latest =
    (let a : length latest ≡ length x = c.requires.links.one_each in omega (arith, a, c.requires.in_range)) in
    let read : c.index-older.result.now ≡ get_or latest c.args.v 0 =
    get_or_read latest c.args.v c.index-older.result.now inside c.index-older.ensures 0 in
    let h = on (length x) c.args.tail edges x c.args.waiting.now.marks c.args.v (length edges)
    c.index-older.result.now (get_or latest c.args.v 0) (omega arith) c.requires.raised
    (c.requires.links.newest c.args.v c.requires.in_range) read in
    record { within = h.within; leaves = h.leaves; raised = h.raised; less = omega arith }

pub look-requires-clause-raised : goal.look-requires-clause-raised
look-requires-clause-raised c =
    let edges : List Edge = c.args.edges.now in
    let k : ℕ = c.loop-older.older - 1 in
    let some : c.loop-older.older ≡ suc k = omega arith in
    let v_is : (edge_at edges k).from ≡ c.args.v = c.loop-older.invariant.leaves k some in
    let n : length c.loop-older.x.items ≡ length c.args.x.now.items = c.loop-older.invariant.raised.one_each in
    let V : ℕ → Type 0 = λ v. IsRaised (length c.args.x.now.items) c.args.tail edges c.loop-older.x.items
    c.loop-older.waiting.marks v c.loop-older.older in
    let N : ℕ → Type 0 = λ o. IsRaised (length c.args.x.now.items) c.args.tail edges c.loop-older.x.items
    c.loop-older.waiting.marks (edge_at edges k).from o in
    let L : ℕ → Type 0 = λ l. IsRaised l c.args.tail edges c.loop-older.x.items c.loop-older.waiting.marks
    (edge_at edges k).from (k + 1) in
    subst L (sym n) (subst N (omega arith) (subst V (sym v_is) c.loop-older.invariant.raised))

pub loop-older-preserved : goal.loop-older-preserved
loop-older-preserved c =
    let edges : List Edge = c.args.edges.now in
    let vars : ℕ = length c.args.x.now.items in
    let before : List ℕ = c.args.links.now.before.items in
    let k : ℕ = c.loop-older.older - 1 in
    let w : c.loop-older.older ≤ length edges = c.loop-older.invariant.within in
    let some : c.loop-older.older ≡ suc k = omega arith in
    let lt : k < length edges = omega (arith, w) in
    let v_is : (edge_at edges k).from ≡ c.args.v = c.loop-older.invariant.leaves k some in
    let n : length c.loop-older.x.items ≡ vars = c.loop-older.invariant.raised.one_each in
    let V : ℕ → Type 0 = λ v. IsRaised vars c.args.tail edges c.look.new.x.items c.look.new.waiting.marks v k in
    let L : ℕ → Type 0 = λ l. IsRaised l c.args.tail edges c.look.new.x.items c.look.new.waiting.marks
    (edge_at edges k).from k in
    let inside : k < length before =
    (let a : length before ≡ length edges = c.requires.links.one_each_edge in omega (arith, a, lt)) in
    let read : c.index-older-in-loop-older.result.now ≡ get_or before k 0 =
    get_or_read before k c.index-older-in-loop-older.result.now inside c.index-older-in-loop-older.ensures 0 in
    let I : ℕ → Type 0 = λ v. IsLatest edges v k (get_or before k 0) in
    let h = on vars c.args.tail edges c.look.new.x.items c.look.new.waiting.marks c.args.v k
    c.index-older-in-loop-older.result.now (get_or before k 0) (omega (arith, lt))
    (subst V v_is (subst L n (c.if-not-look.ensures.raised refl))) (subst I v_is (c.requires.links.older k lt))
    read in
    let now = c.if-not-look.ensures.less refl in
    let old = c.loop-older.invariant.less in
    record { within = h.within; leaves = h.leaves; raised = h.raised; less = omega (arith, now, old) }
