use Rattle.std.specs.Prelude.{ℕ, suc, ℤ, pos, ◌+ℤ◌, Bool, not, if◌then◌else◌, ◌==◌, nat_lt, Option, Some, None, List}
use Rattle.std.specs.{Prelude.{[], ◌∷◌, length, filter, int_lt}, List.{flat_map, list_any}}
use Rattle.cons_graph.specs.{declared.edges.Edge.Edge, EdgeNumbers.{edge_at, all_numbers, leaving}}
use Rattle.round_log.specs.declared.log.Entry.{Entry}

-- A log is kept as the list of its raises, the newest first. A raise's number is how many raises there are up to it,
-- itself included; 0 is the number of the origin, which is no raise.

-- the label of a variable: the value of its latest raise; the origin has the label 0 before any
abbrev pub label : List Entry → ℕ → Option ℤ
label [] v = if v == 0 then Some (pos 0) else None
label (r ∷ rs) v = if r.var == v then Some r.value else label rs v

-- the number of a variable's latest raise, or 0
abbrev pub latest : List Entry → ℕ → ℕ
latest [] v = 0
latest (r ∷ rs) v = if r.var == v then length (r ∷ rs) else latest rs v

-- the raise that edge k makes of its head, by the labels of its tail and its head: there is one where the tail has a
-- label, and the head has none or a smaller one than the tail's plus the edge's length
abbrev pub raise_by : Edge → ℕ → ℕ → Option ℤ → Option ℤ → Option Entry
raise_by e k prev None head = None
raise_by e k prev (Some a) None = Some (record { var = e.to; value = a +ℤ e.len; edge = k; prev = prev })
raise_by e k prev (Some a) (Some b) = if int_lt b (a +ℤ e.len)
    then Some (record { var = e.to; value = a +ℤ e.len; edge = k; prev = prev }) else None

-- the raise that a look at edge k makes, coming from the latest raise of its tail
abbrev pub raise_of : (ℕ → Edge) → List Entry → ℕ → Option Entry
raise_of edge rs k = raise_by (edge k) k (latest rs (edge k).from) (label rs (edge k).from) (label rs (edge k).to)

-- a raise, if there is one, put on top of the log
abbrev pub with_raise : Option Entry → List Entry → List Entry
with_raise None rs = rs
with_raise (Some r) rs = r ∷ rs

-- a look at edge k: from log to log
abbrev pub look : (ℕ → Edge) → List Entry → ℕ → List Entry
look edge rs k = with_raise (raise_of edge rs k) rs

-- the raises from number n back along `prev` to the origin, newest first
abbrev pub chain : List Entry → ℕ → List Entry
chain [] n = []
chain (r ∷ rs) n = if n == length (r ∷ rs) then r ∷ chain rs r.prev else chain rs n

-- whether a raise's variable stands earlier in the raise's own chain
abbrev pub comes_back : List Entry → Entry → Bool
comes_back rs r = list_any (λ q. q.var == r.var) (chain rs r.prev)

-- the place of a variable in an order
abbrev pub place_in : List ℕ → ℕ → ℕ
place_in [] v = 0
place_in (u ∷ us) v = if u == v then 0 else suc (place_in us v)

-- an edge is forward where it goes up in the order, else backward
abbrev pub is_forward : List ℕ → Edge → Bool
is_forward order e = nat_lt (place_in order e.from) (place_in order e.to)

-- the forward edges in order of their tails, those of one tail in list order
abbrev pub forward_numbers : List Edge → List ℕ → List ℕ
forward_numbers edges order = flat_map (λ v. filter (λ k. is_forward order (edge_at edges k)) (leaving edges v)) order

-- the backward edges in list order
abbrev pub backward_numbers : List Edge → List ℕ → List ℕ
backward_numbers edges order = filter (λ k. not (is_forward order (edge_at edges k))) (all_numbers edges)
