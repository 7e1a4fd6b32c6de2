use Rattle.std.proofs.{Common.{◌≡◌, ℕ, ℤ, ◌<◌, arith, List, length, get_or, sym, subst, ◌∙◌}, lemmas.List.get_or_read}
use Rattle.std.specs.List.{All}
use Rattle.cons_graph.specs.{declared.edges.Edge.Edge, Solutions.value_of, EdgeNumbers.leaving}
use Rattle.liao_wong.proofs.Steps.{leaving_in_range}
use Rattle.slack_pack.{specs.Slacks.IsLeastAllowed, proofs.Falls.{falls, stays}}
use Rattle.slack_pack.proofs.lowering.lower_at.Goals as goal

pub least_allowed-least-requires-clause-in_range : goal.least_allowed-least-requires-clause-in_range
least_allowed-least-requires-clause-in_range c =
    let A : List ℕ → Type 0 = λ ns. All (λ k. k < length c.edges.result.now) ns in
    let B : List Edge → Type 0 = λ es. All (λ k. k < length es) (leaving c.args.g.now.edges c.args.v) in
    subst A (sym (c.out_of.ensures ∙ c.requires.index.leave c.args.v c.requires.in_range))
    (subst B (sym c.edges.ensures.value) (leaving_in_range c.args.g.now.edges c.args.v))

-- what the search says of the edges of the graph that leave the variable
least_is : (edges es : List Edge) (xs : List ℤ) (slacks ss numbers ns : List ℕ) (v start least : ℕ) → es ≡ edges
    → ss ≡ slacks → ns ≡ numbers → start ≡ get_or slacks v 0
    → IsLeastAllowed es (value_of xs) ss ns (length ns) start least
    → IsLeastAllowed edges (value_of xs) slacks numbers (length numbers) (get_or slacks v 0) least
least_is edges es xs slacks ss numbers ns v start least a b d e h =
    let P : List Edge → Type 0 =
    λ l. IsLeastAllowed l (value_of xs) slacks numbers (length numbers) (get_or slacks v 0) least in
    let Q : List ℕ → Type 0 = λ l. IsLeastAllowed es (value_of xs) l numbers (length numbers) (get_or slacks v 0)
    least in
    let R : List ℕ → Type 0 = λ l. IsLeastAllowed es (value_of xs) ss l (length l) (get_or slacks v 0) least in
    let S : ℕ → Type 0 = λ n. IsLeastAllowed es (value_of xs) ss ns (length ns) n least in
    subst P a (subst Q b (subst R d (subst S e h)))

pub returns-then-least-start-clause-quiet : goal.returns-then-least-start-clause-quiet
returns-then-least-start-clause-quiet c = λ f.
    let slacks : List ℕ = c.args.slacks.now.items in
    let inside : c.args.v < length slacks =
    (let n = c.requires.counted in let r = c.requires.in_range in omega (arith, n, r)) in
    let start : c.index-start.result.now ≡ get_or slacks c.args.v 0 =
    get_or_read slacks c.args.v c.index-start.result.now inside c.index-start.ensures 0 in
    let least = least_is c.args.g.now.edges c.edges.result.now c.args.x.now slacks c.deref.result.now
    (leaving c.args.g.now.edges c.args.v) c.out_of.result.now c.args.v c.index-start.result.now
    c.least_allowed-least.result c.edges.ensures.value c.deref.ensures.value
    (c.out_of.ensures ∙ c.requires.index.leave c.args.v c.requires.in_range) start
    c.least_allowed-least.ensures in
    let le = c.if-least-start.true in
    stays c.args.g.now.edges (value_of c.args.x.now) slacks c.args.v c.least_allowed-least.result least
    (omega (arith, start, le))

pub returns-clause-lowered : goal.returns-clause-lowered
returns-clause-lowered c =
    let slacks : List ℕ = c.args.slacks.now.items in
    let inside : c.args.v < length slacks =
    (let n = c.requires.counted in let r = c.requires.in_range in omega (arith, n, r)) in
    let start : c.index-start.result.now ≡ get_or slacks c.args.v 0 =
    get_or_read slacks c.args.v c.index-start.result.now inside c.index-start.ensures 0 in
    let least = least_is c.args.g.now.edges c.edges.result.now c.args.x.now slacks c.deref.result.now
    (leaving c.args.g.now.edges c.args.v) c.out_of.result.now c.args.v c.index-start.result.now
    c.least_allowed-least.result c.edges.ensures.value c.deref.ensures.value
    (c.out_of.ensures ∙ c.requires.index.leave c.args.v c.requires.in_range) start
    c.least_allowed-least.ensures in
    let less = c.if-least-start.false in
    falls c.args.g.now (value_of c.args.x.now) slacks c.args.v c.least_allowed-least.result c.edges.ensures.shape
    c.requires.counted c.requires.capped c.requires.in_range least (omega (arith, start, less))
