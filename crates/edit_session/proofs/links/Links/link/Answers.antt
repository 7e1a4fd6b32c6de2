use Rattle.std.proofs.Common.{◌≡◌, ℕ, suc, ◌+◌, ◌<◌, List, length, get_or, set, subst, sym, ap, ◌∙◌, arith}
use Rattle.std.proofs.lemmas.List.{get_or_read}
use Rattle.cons_graph.specs.{declared.edges.Edge.Edge, EdgeNumbers.edge_at}
use Rattle.edit_session.{specs.Links.AreLinksUpTo, proofs.Linked.{links_none, links_one, none}}
use Rattle.edit_session.proofs.links.Links.link.Goals as goal

pub loop-k-init : goal.loop-k-init
loop-k-init c =
    let n : length c.loop-v.self.latest.items ≡ length c.args.self.now.latest.items = c.loop-v.invariant.one_each in
    links_none (length c.args.self.now.latest.items) c.args.edges.now c.loop-v.self.latest.items
    c.loop-v.self.before.items n (ap (λ b. length b.items) c.loop-v.invariant.same ∙ c.requires.one_each)
    (λ v lt. c.loop-v.invariant.empty v (omega (arith, n, lt)))

pub loop-k-preserved : goal.loop-k-preserved
loop-k-preserved c =
    let vars : ℕ = length c.args.self.now.latest.items in
    let edges : List Edge = c.args.edges.now in
    let k : ℕ = c.loop-k.k in
    let latest : List ℕ = c.loop-k.self.latest.items in
    let before : List ℕ = c.loop-k.self.before.items in
    let h : AreLinksUpTo vars edges k latest before = c.loop-k.invariant in
    let lt : k < length edges = omega arith in
    let low : (edge_at edges k).from < vars = c.requires.tails_in_range k none lt in
    let inside : (edge_at edges k).from < length latest =
    (let a : length latest ≡ vars = h.one_each in omega (arith, a, low)) in
    let read : c.index.result.now ≡ get_or latest (edge_at edges k).from 0 =
    get_or_read latest (edge_at edges k).from c.index.result.now inside c.index.ensures 0 in
    let P : ℕ → Type 0 = λ a. AreLinksUpTo vars edges (k + 1) (set latest (edge_at edges k).from (k + 1))
    (set before k a) in
    let one : suc k ≡ k + 1 = omega arith in
    let Q : ℕ → Type 0 = λ n. AreLinksUpTo vars edges n (set latest (edge_at edges k).from n)
    (set before k (get_or latest (edge_at edges k).from 0)) in
    subst P (sym read) (subst Q one (links_one vars edges k latest before h lt low))

pub returns : goal.returns
returns c =
    let edges : List Edge = c.args.edges.now in
    let all : c.loop-k.k ≡ length edges = omega arith in
    let P : ℕ → Type 0 = λ n. AreLinksUpTo (length c.args.self.now.latest.items) edges n c.loop-k.self.latest.items
    c.loop-k.self.before.items in
    subst P all c.loop-k.invariant
