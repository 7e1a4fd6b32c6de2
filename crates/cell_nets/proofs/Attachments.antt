-- The lists of neighbours that the wires of a cell make, and the nets of its parts.
use Rattle.std.proofs.Common.{◌≡◌, ℕ, ◌+◌, ◌*◌, ◌<◌, ◌≤◌, List, [], ◌∷◌, ◌++◌, length, take, get_or, Contains, ◌⊎◌, inl}
use Rattle.std.proofs.{Common.{inr, refl, sym, ◌∙◌, ap, subst, arith, append_assoc}, lemmas.List.{take_more, take_all}}
use Rattle.std.proofs.lemmas.List.{length_push, get_or_append_left, get_or_push, get_or_read, append-nil}
use Rattle.std.proofs.lemmas.List.{length-take-le, Elements.{Contains-append_left, Contains-push, Contains-push_cases}}
use Rattle.std.proofs.lemmas.{List.Sums.{sum_by-cons, sum_by_push, sum_by-le}, Bool.{cases_eq, cases_order}}
use Rattle.std.specs.Prelude.{true, false}
use Rattle.smallvec.specs.SmallVec.{SmallVec}
use Rattle.cell_model.specs.declared.cell.{NodeKind.{NodeKind, TheVariants.{Joint, Contact, Buried, Fet}}, Node.Node}
use Rattle.cell_model.specs.{declared.cell.{Wire.Wire, NodeNets.NodeNets}, Nets.{kind_parts, node_parts, end_parts}}
use Rattle.cell_model.specs.Nets.{with_each, attachments, nets_of_kind, nets_of_nodes}
use Rattle.graph_search.specs.{Netting.Attached, Search.{no_neighbours, neighbours_of, IsBeside, AreNeighbours}}
use Rattle.graph_search.proofs.Neighbours.{none_in_empty, beside_within, attached_back}
use Rattle.cell_nets.specs.Attaching.{AreAttached, IsAdded, AreFirstParts}

-- ---- parts

-- a kind has at most three parts
kind_parts_few : (kind : NodeKind) → kind_parts kind ≤ 3
kind_parts_few (Joint layer width) = omega arith
kind_parts_few (Contact lower) = omega arith
kind_parts_few Buried = omega arith
kind_parts_few (Fet depletion gate w l) = omega arith

-- a node has at most three parts
pub node_parts_few : (nodes : List Node) → node_parts nodes ≤ length nodes * 3
node_parts_few nodes = sum_by-le (λ (node : Node). kind_parts node.kind) 3 nodes
    (λ k d lt. kind_parts_few (get_or nodes k d).kind)

-- the parts of one more node
pub node_parts_push : (nodes : List Node) (node : Node)
    → node_parts (nodes ++ node ∷ []) ≡ node_parts nodes + kind_parts node.kind
node_parts_push nodes node = sum_by_push (λ (node : Node). kind_parts node.kind) nodes node

-- the last number, read, is that of all parts
pub first_parts_end : (nodes of at : List Node) (firsts : List ℕ) (n : ℕ) → of ≡ nodes → AreFirstParts of firsts
    → at ≡ nodes → n ≡ get_or firsts (length at) n → n ≡ node_parts nodes
first_parts_end nodes of at firsts n same h there read =
    let c = h.counted in
    let e : length at ≡ length of = ap (λ (ns : List Node). length ns) (there ∙ sym same) in
    get_or_read firsts (length at) n (omega arith) read 0 ∙ ap (λ (k : ℕ). get_or firsts k 0) e
    ∙ h.each (length of) (omega arith) ∙ ap node_parts (take_all (length of) of (omega arith) ∙ same)

-- ---- lists

-- one more list, with nothing in it
pub empty_more : (count : ℕ) (lists : List (SmallVec ℕ)) (list : SmallVec ℕ) → list.items ≡ []
    → AreNeighbours count [] lists → AreNeighbours (count + 1) [] (lists ++ list ∷ [])
empty_more count lists list e h =
    let l = length_push lists list in
    let n = h.counted in
    record {
      counted = omega arith;
      attached = λ a b c. elim (cases_order a (length lists)) [
        | inl at ↦
            absurd (none_in_empty b (neighbours_of (lists ++ list ∷ []) a)
            (ap (λ (v : SmallVec ℕ). v.items) (get_or_push lists list no_neighbours a (sym at)) ∙ e) c)
        | inr (inl lt) ↦
            (let P : SmallVec ℕ
            → Type 0 = λ v. Contains v.items b in h.attached a b
            (subst P (get_or_append_left lists (list ∷ []) no_neighbours a lt) c))
        | inr (inr past) ↦ absurd (let lt = beside_within (lists ++ list ∷ []) a b c in omega arith)
      ];
      beside = λ a b h. elim h [ inl (k, lt, _) ↦ absurd (omega arith) | inr (k, lt, _) ↦ absurd (omega arith) ];
    }

-- ---- links

-- what one put adds
added_cases : (a b : ℕ) (old new : List (SmallVec ℕ)) (x y : ℕ) → IsAdded a b old new → IsBeside new x y
    → IsBeside old x y ⊎ ((x ≡ a) × (b ≡ y))
added_cases a b old new x y h c = elim (cases_eq x a) [
  | inl e ↦
      (let P : List ℕ → Type 0 = λ xs. Contains xs y in
      let d : Contains (neighbours_of old a) y ⊎ (b ≡ y) =
      Contains-push_cases (neighbours_of old a) b y (subst P (ap (neighbours_of new) e ∙ h.grown) c) in
      elim d [ inl c ↦ inl (subst P (ap (neighbours_of old) (sym e)) c) | inr f ↦ inr (e, f) ])
  | inr ne ↦ (let P : List ℕ → Type 0 = λ xs. Contains xs y in inl (subst P (h.kept x ne) c))
]

-- what one put keeps
added_keeps : (a b : ℕ) (old new : List (SmallVec ℕ)) (x y : ℕ) → IsAdded a b old new → IsBeside old x y
    → IsBeside new x y
added_keeps a b old new x y h c = elim (cases_eq x a) [
  | inl e ↦
      (let P : List ℕ → Type 0 = λ xs. Contains xs y in
      subst P (sym (ap (neighbours_of new) e ∙ h.grown))
      (Contains-append_left (neighbours_of old a) (b ∷ []) y (subst P (ap (neighbours_of old) e) c)))
  | inr ne ↦ (let P : List ℕ → Type 0 = λ xs. Contains xs y in subst P (sym (h.kept x ne)) c)
]

-- what one put puts
added_new : (a b : ℕ) (old new : List (SmallVec ℕ)) → IsAdded a b old new → IsBeside new a b
added_new a b old new h = let P : List ℕ → Type 0 =
    λ xs. Contains xs b in subst P (sym h.grown) (Contains-push (neighbours_of old a) b)

-- what some links attach, more attach
attached_left : (links more : List (ℕ × ℕ)) (a b : ℕ) → Attached links a b → Attached (links ++ more) a b
attached_left links more a b h =
    elim h [
      | inl c ↦ inl (Contains-append_left links more (a, b) c)
      | inr c ↦
          inr (Contains-append_left links more (b, a) c)
    ]

-- two parts put into each other's lists
pub neighbours_push : (count : ℕ) (links : List (ℕ × ℕ)) (a b : ℕ) (old middle new : List (SmallVec ℕ))
    → IsAdded a b old middle → IsAdded b a middle new
    → AreNeighbours count links old → AreNeighbours count (links ++ (a, b) ∷ []) new
neighbours_push count links a b old middle new first second h =
    let all : List (ℕ × ℕ) = links ++ (a, b) ∷ [] in
    let here : Attached all a b = inl (Contains-push links (a, b)) in
    let forth : IsBeside new a b = added_keeps b a middle new a b second (added_new a b old middle first) in
    let back : IsBeside new b a = added_new b a middle new second in
    let keep : (x y : ℕ) → IsBeside old x y → IsBeside new x y =
    λ x y c. added_keeps b a middle new x y second (added_keeps a b old middle x y first c) in
    record {
      counted = second.counted ∙ first.counted ∙ h.counted;
      attached = λ x y c. elim (added_cases b a middle new x y second c) [
        | inl c ↦ elim (added_cases a b old middle x y first c) [
          | inl c ↦ attached_left links ((a, b) ∷ []) x y (h.attached x y c)
          | inr (ex, ey) ↦ (let Q : ℕ → Type 0 = λ u. Attached all u y in let R : ℕ
              → Type 0 = λ v. Attached all a v in subst Q (sym ex) (subst R ey here))
        ]
        | inr (ex, ey) ↦ (let Q : ℕ → Type 0 = λ u. Attached all u y in let R : ℕ
            → Type 0 = λ v. Attached all b v in subst Q (sym ex) (subst R ey (attached_back all a b here)))
      ];
      beside = λ x y s. elim s [
        | inl c ↦ elim (Contains-push_cases links (a, b) (x, y) c) [
          | inl c ↦ keep x y (h.beside x y (inl c))
          | inr e ↦ (let Q : ℕ × ℕ → Type 0 = λ p. IsBeside new p.0 p.1 in subst Q e forth)
        ]
        | inr c ↦ elim (Contains-push_cases links (a, b) (y, x) c) [
          | inl c ↦ keep x y (h.beside x y (inr c))
          | inr e ↦ (let Q : ℕ × ℕ → Type 0 = λ p. IsBeside new p.1 p.0 in subst Q e back)
        ]
      ];
    }

-- a wire's part and the part at its end
pub attached_one : (wire part : ℕ) (old middle new : List (SmallVec ℕ)) → IsAdded wire part old middle
    → IsAdded part wire middle new → AreAttached wire (part ∷ []) old new
attached_one wire part old middle new first second =
    λ links h. neighbours_push (length old) links wire part old middle new first second h

-- a wire's part with each of two lists
with_each-append : (wire : ℕ) (low high : List ℕ)
    → with_each wire (low ++ high) ≡ with_each wire low ++ with_each wire high
with_each-append wire [] high = refl
with_each-append wire (part ∷ low) high =
    ap (λ (rest : List (ℕ × ℕ)). (wire, part) ∷ rest) (with_each-append wire low high)

-- the links of one wire
abbrev links_of : List Node → ℕ → Wire → List (ℕ × ℕ)
links_of nodes k wire =
    with_each k (end_parts nodes wire.layer true wire.low ++ end_parts nodes wire.layer false wire.high)

-- the links of one more wire
attachments_push : (nodes : List Node) (k : ℕ) (wires : List Wire) (wire : Wire)
    → attachments nodes k (wires ++ wire ∷ []) ≡ attachments nodes k wires ++ links_of nodes (k + length wires) wire
attachments_push nodes k [] wire =
    let e : k ≡ k + length {A = Wire} [] = omega arith in
    append-nil (links_of nodes k wire) ∙ ap (λ (n : ℕ). links_of nodes n wire) e
attachments_push nodes k (w ∷ wires) wire =
    let e : (k + 1) + length wires ≡ k + length (w ∷ wires) = omega arith in
    ap (λ (rest : List (ℕ × ℕ)). links_of nodes k w ++ rest)
    (attachments_push nodes (k + 1) wires wire
    ∙ ap (λ (n : ℕ). attachments nodes (k + 1) wires ++ links_of nodes n wire) e)
    ∙ sym (append_assoc (links_of nodes k w) (attachments nodes (k + 1) wires)
    (links_of nodes (k + length (w ∷ wires)) wire))

-- the attachments of one more wire
pub neighbours_wire : (nodes : List Node) (first : ℕ) (wires : List Wire) (i : ℕ) (d : Wire) (low high : List ℕ)
    (old middle new : List (SmallVec ℕ)) (count : ℕ)
    → i < length wires → low ≡ end_parts nodes (get_or wires i d).layer true (get_or wires i d).low
    → high ≡ end_parts nodes (get_or wires i d).layer false (get_or wires i d).high
    → AreAttached (first + i) low old middle → AreAttached (first + i) high middle new
    → AreNeighbours count (attachments nodes first (take i wires)) old
    → AreNeighbours count (attachments nodes first (take (i + 1) wires)) new
neighbours_wire nodes first wires i d low high old middle new count lt el eh a b h =
    let links : List (ℕ × ℕ) = attachments nodes first (take i wires) in
    let one : AreNeighbours (length old) (links ++ with_each (first + i) low) middle =
    a links (let Q : ℕ → Type 0 = λ n. AreNeighbours n links old in subst Q (sym h.counted) h) in
    let two : AreNeighbours (length middle) ((links ++ with_each (first + i) low) ++ with_each (first + i) high) new =
    b (links ++ with_each (first + i) low)
    (let Q : ℕ → Type 0 = λ n. AreNeighbours n (links ++ with_each (first + i) low) middle in subst Q
    (sym one.counted) one) in
    let counts : length middle ≡ count = one.counted ∙ h.counted in
    let e : attachments nodes first (take (i + 1) wires) ≡ (links ++ with_each (first + i) low)
    ++ with_each (first + i) high =
    ap (attachments nodes first) (take_more wires i d lt)
    ∙ attachments_push nodes first (take i wires) (get_or wires i d)
    ∙ ap (λ (n : ℕ). links ++ links_of nodes (first + n) (get_or wires i d)) (length-take-le i wires (omega arith))
    ∙ ap (λ (ls : List (ℕ × ℕ)). links ++ ls)
    (with_each-append (first + i) (end_parts nodes (get_or wires i d).layer true (get_or wires i d).low)
    (end_parts nodes (get_or wires i d).layer false (get_or wires i d).high)
    ∙ ap (λ (ps : List ℕ). with_each (first + i) ps ++ with_each (first + i)
    (end_parts nodes (get_or wires i d).layer false (get_or wires i d).high)) (sym el)
    ∙ ap (λ (ps : List ℕ). with_each (first + i) low ++ with_each (first + i) ps) (sym eh))
    ∙ sym (append_assoc links (with_each (first + i) low) (with_each (first + i) high)) in
    let Q : List (ℕ × ℕ) → Type 0 = λ ls. AreNeighbours count ls new in
    let R : ℕ → Type 0 = λ n. AreNeighbours n ((links ++ with_each (first + i) low) ++ with_each (first + i) high)
    new in
    subst Q (sym e) (subst R counts two)

-- the same, of a wire read
pub neighbours_read : (nodes : List Node) (wires of : List Wire) (n i : ℕ) (d : Wire) (low high : List ℕ)
    (old middle new : List (SmallVec ℕ)) (count : ℕ)
    → i < length of → of ≡ wires → n ≡ node_parts nodes
    → low ≡ end_parts nodes (get_or of i d).layer true (get_or of i d).low
    → high ≡ end_parts nodes (get_or of i d).layer false (get_or of i d).high
    → AreAttached (n + i) low old middle → AreAttached (n + i) high middle new
    → AreNeighbours count (attachments nodes (node_parts nodes) (take i wires)) old
    → AreNeighbours count (attachments nodes (node_parts nodes) (take (i + 1) wires)) new
neighbours_read nodes wires of n i d low high old middle new count lt same first el eh a b =
    let P : List Wire → Type 0 = λ ws. AreNeighbours count (attachments nodes (node_parts nodes) (take i ws)) old
    → AreNeighbours count (attachments nodes (node_parts nodes) (take (i + 1) ws)) new in
    let Q : ℕ → Type 0 = λ m. AreNeighbours count (attachments nodes m (take i of)) old
    → AreNeighbours count (attachments nodes m (take (i + 1) of)) new in
    subst P same (subst Q first (λ h. neighbours_wire nodes n of i d low high old middle new count lt el eh a b h))

-- ---- the nets

-- the nets of one more node
pub nets_of_nodes_push : (parts : List ℕ) (k : ℕ) (nodes : List Node) (node : Node)
    → nets_of_nodes parts k (nodes ++ node ∷ []) ≡ nets_of_nodes parts k nodes
    ++ nets_of_kind node.kind parts (k + node_parts nodes) ∷ []
nets_of_nodes_push parts k [] node =
    let e : k ≡ k + node_parts [] = omega arith in
    ap (λ (n : ℕ). nets_of_kind node.kind parts n ∷ []) e
nets_of_nodes_push parts k (n ∷ nodes) node =
    let s : node_parts (n ∷ nodes) ≡ kind_parts n.kind + node_parts nodes =
    sum_by-cons (λ (node : Node). kind_parts node.kind) n nodes in
    let e : (k + kind_parts n.kind) + node_parts nodes ≡ k + node_parts (n ∷ nodes) = omega arith in
    ap (λ (rest : List NodeNets). nets_of_kind n.kind parts k ∷ rest)
    (nets_of_nodes_push parts (k + kind_parts n.kind) nodes node
    ∙ ap (λ (m : ℕ). nets_of_nodes parts (k + kind_parts n.kind) nodes ++ nets_of_kind node.kind parts m ∷ []) e)

-- the same, of a node read
pub nets_of_nodes_read : (parts : List ℕ) (nodes : List Node) (i part : ℕ) (node : Node) (net : NodeNets)
    (old new : List NodeNets) → i < length nodes → node ≡ get_or nodes i node
    → part ≡ node_parts (take i nodes) → net ≡ nets_of_kind node.kind parts part
    → old ≡ nets_of_nodes parts 0 (take i nodes) → new ≡ old ++ net ∷ []
    → (part + kind_parts node.kind ≡ node_parts (take (i + 1) nodes))
    × (new ≡ nets_of_nodes parts 0 (take (i + 1) nodes))
nets_of_nodes_read parts nodes i part node net old new lt read sum given before pushed =
    let more : take (i + 1) nodes ≡ take i nodes ++ node ∷ [] = take_more nodes i node lt
    ∙ ap (λ (n : Node). take i nodes ++ n ∷ []) (sym read) in
    let e : node_parts (take (i + 1) nodes) ≡ node_parts (take i nodes) + kind_parts node.kind = ap node_parts more
    ∙ node_parts_push (take i nodes) node in
    let at : net ≡ nets_of_kind node.kind parts (0 + node_parts (take i nodes)) = given
    ∙ ap (nets_of_kind node.kind parts) (omega arith) in (
      omega arith,
      pushed ∙ ap (λ (ns : List NodeNets). ns ++ net ∷ []) before
          ∙ ap (λ (n : NodeNets). nets_of_nodes parts 0 (take i nodes) ++ n ∷ []) at
          ∙ sym (ap (nets_of_nodes parts 0) more ∙ nets_of_nodes_push parts 0 (take i nodes) node),
    )
