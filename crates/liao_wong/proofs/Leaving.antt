-- What an index tells of the edges that leave one variable.
use Rattle.std.proofs.Common.{◌≡◌, ℕ, ◌<◌, ℤ, pos, Option, Some, None, List, length, get_or, refl, sym, ap, subst, ◌∙◌}
use Rattle.std.proofs.{Common.{map, ◌+◌, Bool, true, false, below_more}, lemmas.List.get_or-map}
use Rattle.cons_graph.specs.{declared.edges.{Edge.Edge, Why.TheVariants.Size}, EdgeNumbers.{edge_at, leaving}}
use Rattle.cons_graph.specs.Constraints.{IsConstraintGraph, IsEdgeAmong}
use Rattle.edge_index.specs.{declared.index.Head.Head, Runs.head_at}
use Rattle.round_log.specs.{declared.log.Entry.Entry, Looks.{raise_by, raise_of, is_forward, latest, label}}
use Rattle.round_log.proofs.Least.{edge_among}
use Rattle.liao_wong.specs.{Leaving.{edge_of, LeaveFrom}, Marked.is_marked}
use Rattle.liao_wong.proofs.Worklists.{all_in_range, leaving_tails}

-- an edge that is the one with a number, but for why it is there
abbrev pub IsSeen : List Edge → ℕ → Edge → Type 0
IsSeen edges k e = e ≡ edge_of (edge_at edges k).from (head_at edges k)

-- the edge at a place among those that leave a variable
pub seen_at : (edges : List Edge) (tail : ℕ) (numbers : List ℕ) (heads : List Head) (i : ℕ) (e : Edge)
    → LeaveFrom edges tail numbers heads → i < length numbers
    → e ≡ edge_of tail (get_or heads i (record { to = 0; len = pos 0 })) → IsSeen edges (get_or numbers i 0) e
seen_at edges tail numbers heads i e l lt is =
    let none : Head = record { to = 0; len = pos 0 } in
    let head : get_or heads i none ≡ head_at edges (get_or numbers i 0) = ap (λ hs. get_or hs i none) l.heads_are
    ∙ get_or-map (head_at edges) numbers i 0 none lt in
    is ∙ ap (edge_of tail) head
    ∙ ap (λ t. edge_of t (head_at edges (get_or numbers i 0))) (sym (l.tails i 0 lt))

pub seen_forward : (edges : List Edge) (order : List ℕ) (k : ℕ) (e : Edge) → IsSeen edges k e
    → is_forward order e ≡ is_forward order (edge_at edges k)
seen_forward edges order k e s = ap (is_forward order) s

-- a raise does not depend on why its edge is there
same_raise : (e : Edge) (k prev : ℕ) (tail head : Option ℤ)
    → raise_by (record { from = e.from; to = e.to; len = e.len; why = Size }) k prev tail head
    ≡ raise_by e k prev tail head
same_raise e k prev None head = refl
same_raise e k prev (Some a) None = refl
same_raise e k prev (Some a) (Some b) = refl

pub seen_raise : (edges : List Edge) (rs : List Entry) (k : ℕ) (e : Edge) → IsSeen edges k e
    → raise_of (λ _. e) rs k ≡ raise_of (edge_at edges) rs k
seen_raise edges rs k e s =
    let f : Edge = edge_at edges k in
    ap (λ x. raise_by x k (latest rs x.from) (label rs x.from) (label rs x.to)) s
    ∙ same_raise f k (latest rs f.from) (label rs f.from) (label rs f.to)

pub seen_among : (vars : ℕ) (edges : List Edge) (k : ℕ) (e : Edge)
    → IsConstraintGraph (record { vars = vars; edges = edges }) → k < length edges → IsSeen edges k e
    → IsEdgeAmong vars e
seen_among vars edges k e g lt s =
    let a = edge_among (record { vars = vars; edges = edges }) g k lt in
    subst (IsEdgeAmong vars) (sym s) (record {
      from_in_range = a.from_in_range;
      to_in_range = a.to_in_range;
      ends_differ = a.ends_differ;
      not_into_origin = a.not_into_origin;
      length_low = a.length_low;
      length_high = a.length_high;
    })

-- one edge more that waits if it is backward
pub waits_or_up : (edges : List Edge) (order numbers : List ℕ) (i : ℕ) (waiting : List Bool)
    → ((j : ℕ) → j < i → is_forward order (edge_at edges (get_or numbers j 0)) ≡ false
    → is_marked waiting (get_or numbers j 0) ≡ true) → (is_forward order (edge_at edges (get_or numbers i 0)) ≡ false
    → is_marked waiting (get_or numbers i 0) ≡ true) → (j : ℕ) → j < i + 1 → is_forward order (edge_at edges
    (get_or numbers j 0)) ≡ false → is_marked waiting (get_or numbers j 0) ≡ true
waits_or_up edges order numbers i waiting before here =
    below_more (λ j. is_forward order (edge_at edges (get_or numbers j 0)) ≡ false
    → is_marked waiting (get_or numbers j 0) ≡ true) i before here

-- the edges that leave a variable of a list that is the graph's
pub all_leave : (edges es : List Edge) (v : ℕ) (ns : List ℕ) (hs : List Head) → es ≡ edges → ns ≡ leaving edges v
    → hs ≡ map (head_at edges) (leaving edges v) → LeaveFrom es v ns hs
all_leave edges es v ns hs same is heads =
    let N : List ℕ → Type 0 = λ l. LeaveFrom es v l hs in
    let E : List Edge → Type 0 = λ l. LeaveFrom l v (leaving edges v) hs in
    subst N (sym is) (subst E (sym same) (record {
      in_range = all_in_range edges edges v (leaving edges v) refl refl;
      tails = leaving_tails edges v;
      heads_are = heads;
    }))
