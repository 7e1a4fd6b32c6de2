-- Lists of neighbours that some links make, and the netting that their numbers are.
use Rattle.std.proofs.Common.{◌≡◌, ℕ, ◌<◌, Option, List, [], length, get_or, Contains, inl, inr, ◌∙◌, ap, subst, arith}
use Rattle.std.proofs.lemmas.{List.{get_or_past, get_or_read, Elements.Contains-get_or}, Bool.cases_lt}
use Rattle.smallvec.specs.SmallVec.{SmallVec}
use Rattle.graph_search.specs.{Netting.{Attached, IsNetting}, Search.{no_neighbours, neighbours_of, IsBeside}}
use Rattle.graph_search.specs.Search.{AreMutual, AreNeighbours, AreNumbers}
use Rattle.graph_search.proofs.{Chains.{reaches_one, reaches_weaker, reaches_same}, Marks.marked_within}
use Rattle.graph_search.proofs.{Numbering.{IsNumbering, numbering_joined, numbering_same}, Spreading.IsSpreading}

-- an empty list has nothing in it
pub none_in_empty : (k : ℕ) (xs : List ℕ) → xs ≡ [] → Contains xs k → ⊥
none_in_empty k xs e c = let P : List ℕ → Type 0 = λ ys. Contains ys k in let d : Contains [] k =
    subst P e c in (let lt = d.1 in omega arith)

-- a part with a neighbour has a list
pub beside_within : (lists : List (SmallVec ℕ)) (a b : ℕ) → IsBeside lists a b → a < length lists
beside_within lists a b c = elim (cases_lt a (length lists)) [
  | inl lt ↦ lt
  | inr le ↦
      absurd (none_in_empty b (neighbours_of lists a)
      (ap (λ (v : SmallVec ℕ). v.items) (get_or_past lists a no_neighbours le)) c)
]

-- links attach both ways
pub attached_back : (links : List (ℕ × ℕ)) (a b : ℕ) → Attached links a b → Attached links b a
attached_back links a b h = elim h [ inl c ↦ inr c | inr c ↦ inl c ]

-- lists of neighbours tell of both sides
pub mutual_neighbours : (count : ℕ) (links : List (ℕ × ℕ)) (lists : List (SmallVec ℕ))
    → AreNeighbours count links lists → AreMutual lists
mutual_neighbours count links lists h =
    let back : (a b : ℕ) → IsBeside lists a b → IsBeside lists b a =
    λ a b c. h.beside b a (attached_back links a b (h.attached a b c)) in
    record {
      within = λ a b c. beside_within lists b a (back a b c);
      back = back;
    }

-- numbers by neighbours are a netting by links
pub netting_numbers : (count : ℕ) (links : List (ℕ × ℕ)) (lists : List (SmallVec ℕ)) (nets : List ℕ)
    → AreNeighbours count links lists → AreNumbers lists nets → IsNetting count links nets
netting_numbers count links lists nets h n =
    let c = h.counted in
    record {
      counted = n.counted ∙ h.counted;
      joined = λ a b la lb e. reaches_weaker (IsBeside lists) (Attached links) h.attached a b
          (n.joined a b (omega arith) (omega arith) e);
      same = λ a b la lb r. reaches_same (Attached links) (λ k. get_or nets k 0)
          (λ x y s.
          (let beside : IsBeside lists x y = h.beside x y s in n.beside x y (beside_within lists x y beside)
          beside)) a b r;
    }

-- the numbers of all parts, over lists of neighbours
pub numbers_made : (lists : List (SmallVec ℕ)) (marks : List (Option ℕ)) (nets : List ℕ) (count : ℕ) → AreMutual lists
    → length nets ≡ length lists
    → IsNumbering (IsBeside lists) marks nets count → AreNumbers lists nets
numbers_made lists marks nets count both_ways counted h = record {
  counted = counted;
  joined = λ a b la lb e. numbering_joined (IsBeside lists) marks nets count a b h (omega arith) (omega arith) e;
  beside =
      λ a b la s.
      (let lb = both_ways.within a b s in numbering_same (IsBeside lists) marks nets count a b h (omega arith)
      (omega arith) (reaches_one (IsBeside lists) a b s));
  in_order = h.in_order;
}

-- ---- what the code reads

-- a list of neighbours read
pub read_list : (lists : List (SmallVec ℕ)) (k : ℕ) (list : SmallVec ℕ) → k < length lists
    → list ≡ get_or lists k list → list.items ≡ neighbours_of lists k
read_list lists k list lt read = ap (λ (v : SmallVec ℕ). v.items) (get_or_read lists k list lt read no_neighbours)

-- the part of the queue that is next, within the lists
pub read_queue : (lists : List (SmallVec ℕ)) (start net : ℕ) (old new : List (Option ℕ)) (queue : List ℕ)
    (passed part : ℕ) → length old ≡ length lists
    → IsSpreading (IsBeside lists) start net old new queue passed → passed < length queue
    → part ≡ get_or queue passed part → (part ≡ get_or queue passed 0) × (part < length lists)
read_queue lists start net old new queue passed part counted s lt read =
    let e : part ≡ get_or queue passed 0 = get_or_read queue passed part lt read 0 in
    let w : get_or queue passed 0 < length new =
    marked_within new (get_or queue passed 0) net
    (s.queued (get_or queue passed 0) (Contains-get_or queue passed 0 lt)).1 in
    let c = s.counted in
    (e, omega arith)
