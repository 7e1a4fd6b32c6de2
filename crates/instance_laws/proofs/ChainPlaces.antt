-- At which number of the list of items each item of a node and of a wire stands.
use Rattle.std.proofs.Common.{◌≡◌, ℕ, zero, suc, ◌+◌, ◌-◌, ◌<◌, List, length, get_or, refl, sym, ap, ◌∙◌, subst, arith}
use Rattle.std.proofs.{Common.{inl, inr, ◌⊎◌, length-append, zero-add}, lemmas.{Bool.cases_lt, List.get_or_append_left}}
use Rattle.std.{proofs.lemmas.List.get_or-append-add, specs.List.{flat_map, range_with_len}}
use Rattle.rule_table.specs.declared.technology.Tech.{Tech}
use Rattle.sym_items.specs.declared.items.Item.{Item}
use Rattle.cell_model.specs.declared.cell.{Nets.Nets, Cell.Cell}
use Rattle.pair_rules.specs.Bound.{no_item, item_at}
use Rattle.expand.specs.Items.{items_of_node, items_of_wire, item_list}

-- ---- in a joined list

-- where element r of the piece of number a + q stands, among the pieces of the numbers from a on
place_in : {X : Type 0} → (ℕ → List X) → ℕ → ℕ → ℕ → ℕ
place_in f a zero r = r
place_in f a (suc q) r = length (f a) + place_in f (a + 1) q r

-- a place is that of an element of a piece
record IsInPiece {X : Type 0} (f : ℕ → List X) (a n i : ℕ) : Type 0 where
  q : ℕ
  r : ℕ
  piece : q < n
  within : r < length (f (a + q))
  is : i ≡ place_in f a q r

located : {X : Type 0} (f : ℕ → List X) (a n i : ℕ) → i < length (flat_map f (range_with_len a n)) → IsInPiece f a n i
unfolding place_in
located f a zero i lt = absurd (omega arith)
located f a (suc n) i lt = elim (cases_lt i (length (f a))) [
  | inl here ↦
      (let same : a ≡ a + 0 = omega arith in
      record { q = 0; r = i; piece = omega arith; within = subst (λ (k : ℕ). i < length (f k)) same here; is = refl })
  | inr after ↦
      let whole = length-append (f a) (flat_map f (range_with_len (a + 1) n)) in
      let rest = located f (a + 1) n (i - length (f a)) (omega (arith, whole, lt, after)) in
      let same : (a + 1) + rest.q ≡ a + suc rest.q = omega arith in
      let is = rest.is in
      let first = rest.piece in
      record {
        q = suc rest.q;
        r = rest.r;
        piece = omega (arith, first);
        within = subst (λ (k : ℕ). rest.r < length (f k)) same rest.within;
        is = omega (arith, is, after);
      }
]

-- what stands there
record ReadsPiece {X : Type 0} (f : ℕ → List X) (a n q r : ℕ) (d : X) : Type 0 where
  among : place_in f a q r < length (flat_map f (range_with_len a n))
  read : get_or (flat_map f (range_with_len a n)) (place_in f a q r) d ≡ get_or (f (a + q)) r d

reads : {X : Type 0} (f : ℕ → List X) (a n q r : ℕ) (d : X) → q < n → r < length (f (a + q)) → ReadsPiece f a n q r d
unfolding place_in
reads f a zero q r d lt within = absurd (omega arith)
reads f a (suc n) zero r d lt within =
    let same : a + 0 ≡ a = omega arith in
    let own : r < length (f a) = subst (λ (k : ℕ). r < length (f k)) same within in
    let whole = length-append (f a) (flat_map f (range_with_len (a + 1) n)) in
    record {
      among = omega (arith, whole, own);
      read = get_or_append_left (f a) (flat_map f (range_with_len (a + 1) n)) d r own
          ∙ ap (λ (k : ℕ). get_or (f k) r d) (sym same);
    }
reads f a (suc n) (suc q) r d lt within =
    let same : (a + 1) + q ≡ a + suc q = omega arith in
    let rest = reads f (a + 1) n q r d (omega (arith, lt)) (subst (λ (k : ℕ). r < length (f k)) (sym same) within) in
    let among = rest.among in
    let whole = length-append (f a) (flat_map f (range_with_len (a + 1) n)) in
    record {
      among = omega (arith, whole, among);
      read = get_or-append-add (f a) (flat_map f (range_with_len (a + 1) n)) (place_in f (a + 1) q r) d
          ∙ (rest.read ∙ ap (λ (k : ℕ). get_or (f k) r d) same);
    }

-- ---- in the list of items

-- the number of item r of node k, and of item r of wire w
pub place_of_node : Tech → Cell → Nets → ℕ → ℕ → ℕ
place_of_node tech cell nets k r = place_in (items_of_node tech cell nets) 0 k r

pub place_of_wire : Tech → Cell → Nets → ℕ → ℕ → ℕ
place_of_wire tech cell nets w r =
    length (flat_map (items_of_node tech cell nets) (range_with_len 0 (length cell.nodes))) + place_in
    (items_of_wire tech cell nets) 0 w r

-- a number is that of an item of a node, or of a wire
pub record IsNodePlace (tech : Tech) (cell : Cell) (nets : Nets) (i : ℕ) : Type 0 where
  pub k : ℕ
  pub r : ℕ
  pub node : k < length cell.nodes
  pub within : r < length (items_of_node tech cell nets k)
  pub is : i ≡ place_of_node tech cell nets k r

pub record IsWirePlace (tech : Tech) (cell : Cell) (nets : Nets) (i : ℕ) : Type 0 where
  pub w : ℕ
  pub r : ℕ
  pub wire : w < length cell.wires
  pub within : r < length (items_of_wire tech cell nets w)
  pub is : i ≡ place_of_wire tech cell nets w r

pub places_are : (tech : Tech) (cell : Cell) (nets : Nets) (i : ℕ) → i < length (item_list tech cell nets)
    → IsNodePlace tech cell nets i ⊎ IsWirePlace tech cell nets i
unfolding item_list place_of_node place_of_wire
places_are tech cell nets i lt =
    let nodes : List Item = flat_map (items_of_node tech cell nets) (range_with_len 0 (length cell.nodes)) in
    let wires : List Item = flat_map (items_of_wire tech cell nets) (range_with_len 0 (length cell.wires)) in
    let whole = length-append nodes wires in
    elim (cases_lt i (length nodes)) [
      | inl here ↦
          let p = located (items_of_node tech cell nets) 0 (length cell.nodes) i here in
          inl (record {
            k = p.q;
            r = p.r;
            node = p.piece;
            within = subst (λ (k : ℕ). p.r < length (items_of_node tech cell nets k)) (zero-add p.q) p.within;
            is =
                p.is;
          })
      | inr after ↦
          let p = located (items_of_wire tech cell nets) 0 (length cell.wires) (i - length nodes)
          (omega (arith, whole, lt, after)) in
          let is = p.is in
          inr (record {
            w = p.q;
            r = p.r;
            wire = p.piece;
            within = subst (λ (w : ℕ). p.r < length (items_of_wire tech cell nets w)) (zero-add p.q) p.within;
            is =
                omega (arith, is, after);
          })
    ]

-- an item stands at a number
pub record StandsAtPlace (items : List Item) (i : ℕ) (item : Item) : Type 0 where
  pub among : i < length items
  pub read : item_at items i ≡ item

pub node_item_stands : (tech : Tech) (cell : Cell) (nets : Nets) (k r : ℕ) → k < length cell.nodes
    → r < length (items_of_node tech cell nets k)
    → StandsAtPlace (item_list tech cell nets) (place_of_node tech cell nets k r)
    (item_at (items_of_node tech cell nets k) r)
unfolding item_list place_of_node
node_item_stands tech cell nets k r node within =
    let nodes : List Item = flat_map (items_of_node tech cell nets) (range_with_len 0 (length cell.nodes)) in
    let wires : List Item = flat_map (items_of_wire tech cell nets) (range_with_len 0 (length cell.wires)) in
    let there = reads (items_of_node tech cell nets) 0 (length cell.nodes) k r no_item node
    (subst (λ (q : ℕ). r < length (items_of_node tech cell nets q)) (sym (zero-add k)) within) in
    let among = there.among in
    let whole = length-append nodes wires in
    record {
      among = omega (arith, whole, among);
      read = get_or_append_left nodes wires no_item _ among
          ∙ (there.read ∙ ap (λ (q : ℕ). item_at (items_of_node tech cell nets q) r) (zero-add k));
    }

pub wire_item_stands : (tech : Tech) (cell : Cell) (nets : Nets) (w r : ℕ) → w < length cell.wires
    → r < length (items_of_wire tech cell nets w)
    → StandsAtPlace (item_list tech cell nets) (place_of_wire tech cell nets w r)
    (item_at (items_of_wire tech cell nets w) r)
unfolding item_list place_of_wire
wire_item_stands tech cell nets w r wire within =
    let nodes : List Item = flat_map (items_of_node tech cell nets) (range_with_len 0 (length cell.nodes)) in
    let wires : List Item = flat_map (items_of_wire tech cell nets) (range_with_len 0 (length cell.wires)) in
    let there = reads (items_of_wire tech cell nets) 0 (length cell.wires) w r no_item wire
    (subst (λ (q : ℕ). r < length (items_of_wire tech cell nets q)) (sym (zero-add w)) within) in
    let among = there.among in
    let whole = length-append nodes wires in
    record {
      among = omega (arith, whole, among);
      read = get_or-append-add nodes wires _ no_item
          ∙ (there.read ∙ ap (λ (q : ℕ). item_at (items_of_wire tech cell nets q) r) (zero-add w));
    }
