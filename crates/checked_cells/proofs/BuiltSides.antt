-- No poly wire leaves a buried contact where a diffusion wire does: in more nodes, in a copy, and with a new wire
-- whose sides are free.
use Rattle.std.proofs.Common.{◌≡◌, ℕ, zero, suc, ◌+◌, ◌<◌, ◌≤◌, Bool, true, false, List, [], ◌∷◌, ◌++◌, length, map}
use Rattle.std.proofs.{Common.{get_or, refl, sym, ap, subst, ◌∙◌, inl, inr, arith}, lemmas.List.length-map}
use Rattle.std.proofs.lemmas.{List.get_or-map, Bool.Decides.Decides-eqb}
use Rattle.std.specs.{Prelude.{IsTrue, not, ◌&&◌, ◌||◌, ◌⊎◌, if◌then◌else◌}, List.{AllByRecursion, list_all}}
use Rattle.rule_table.specs.declared.{technology.Tech.Tech, classes.Layer.{Layer, TheVariants.{Diffusion, Poly, Metal}}}
use Rattle.cell_model.specs.declared.cell.{Axis2.{Axis2, TheVariants.{Across, Up}}, Node.Node, WireEnd.WireEnd}
use Rattle.cell_model.specs.{declared.cell.{Wire.Wire, Cell.Cell}, Wiring.{is_same_axis, is_same_layer}, Sound.wire_at}
use Rattle.cell_model.specs.Sound.{no_wire, IsEnd, IsWire, IsBuriedEnd, LeaveOneSide}
use Rattle.cell_model.specs.declared.cell.WireEnd.TheVariants as ends
use Rattle.list_facts.proofs.Elements.{all_at}
use Rattle.checked_cells.specs.{declared.names.{Terminal.Terminal, Run.Run}, CheckedCell.{copied_end, copied_wire}}
use Rattle.checked_cells.specs.Wires.{is_buried, is_node, leaves, is_side_free, are_sides_free, end_of}
use Rattle.checked_cells.proofs.{Accepted.both, BuiltNames.MoreNodes, BuiltWires.Holds, BuiltRuns.IsTerminalOf}
use Rattle.checked_cells.proofs.PathsApart.{IsOfFirst, IsOfSecond, of_either}
use Rattle.checked_cells.specs.declared.names.Terminal.TheVariants as terminals

-- where one of the first wires and one of the others leave a buried contact on one side, they are of one layer
abbrev pub AreSidesApart : Cell → List Wire → List Wire → Type 0
AreSidesApart cell wires others = (j k : ℕ) → j < length wires → k < length others
    → LeaveOneSide cell (wire_at wires j) (wire_at others k) → (wire_at wires j).layer ≡ (wire_at others k).layer

-- ---- two lists of wires

leave_swapped : (cell : Cell) (a b : Wire) → LeaveOneSide cell a b → LeaveOneSide cell b a
leave_swapped cell a b (along, inl (same, buried)) = (sym along, inl (sym same, subst (IsBuriedEnd cell) same buried))
leave_swapped cell a b (along, inr (same, buried)) = (sym along, inr (sym same, subst (IsBuriedEnd cell) same buried))

-- the same two wires
of_same : (cell : Cell) (a b c d : Wire) → a ≡ c → b ≡ d → (LeaveOneSide cell c d → c.layer ≡ d.layer)
    → LeaveOneSide cell a b → a.layer ≡ b.layer
of_same cell a b c d first second apart leave =
    ap (λ (w : Wire). w.layer) first
    ∙ apart (subst (LeaveOneSide cell c) second (subst (λ (w : Wire). LeaveOneSide cell w b) first leave))
    ∙ ap (λ (w : Wire). w.layer) (sym second)

pub sides_append : (cell : Cell) (wires more : List Wire) → AreSidesApart cell wires wires
    → AreSidesApart cell wires more → AreSidesApart cell more more
    → AreSidesApart cell (wires ++ more) (wires ++ more)
sides_append cell wires more old mixed new = λ j k lj lk leave.
    by j k leave (of_either wires more no_wire j lj) (of_either wires more no_wire k lk)
  where
    by : (j k : ℕ) → LeaveOneSide cell (wire_at (wires ++ more) j) (wire_at (wires ++ more) k)
        → IsOfFirst wires more no_wire j ⊎ IsOfSecond wires more no_wire j
        → IsOfFirst wires more no_wire k ⊎ IsOfSecond wires more no_wire k
        → (wire_at (wires ++ more) j).layer ≡ (wire_at (wires ++ more) k).layer
    by j k leave (inl (lj, at_j)) (inl (lk, at_k)) =
        of_same cell _ _ (wire_at wires j) (wire_at wires k) at_j at_k (old j k lj lk) leave
    by j k leave (inl (lj, at_j)) (inr (i, lk, is_k, at_k)) =
        of_same cell _ _ (wire_at wires j) (wire_at more i) at_j at_k (mixed j i lj lk) leave
    by j k leave (inr (i, lj, is_j, at_j)) (inl (lk, at_k)) =
        of_same cell _ _ (wire_at more i) (wire_at wires k) at_j at_k
        (λ swapped. sym (mixed k i lk lj (leave_swapped cell (wire_at more i) (wire_at wires k) swapped))) leave
    by j k leave (inr (i, lj, is_j, at_j)) (inr (l, lk, is_k, at_k)) =
        of_same cell _ _ (wire_at more i) (wire_at more l) at_j at_k (new i l lj lk) leave

-- ---- more nodes

buried_before : (old new : Cell) (end : WireEnd) → MoreNodes old.nodes new.nodes → IsEnd old end → IsBuriedEnd new end
    → IsBuriedEnd old end
buried_before old new (ends.Node k) more is buried = sym (ap (λ (node : Node). node.kind) (more.same k is)) ∙ buried
buried_before old new (ends.Port k) more is buried = buried

leave_before : (tech : Tech) (old new : Cell) (a b : Wire) → MoreNodes old.nodes new.nodes → IsWire tech old a
    → LeaveOneSide new a b → LeaveOneSide old a b
leave_before tech old new a b more is (along, inl (same, buried)) =
    (along, inl (same, buried_before old new a.low more is.low buried))
leave_before tech old new a b more is (along, inr (same, buried)) =
    (along, inr (same, buried_before old new a.high more is.high buried))

pub sides_more : (tech : Tech) (old new : Cell) (wires : List Wire) → MoreNodes old.nodes new.nodes
    → AllByRecursion (IsWire tech old) wires → AreSidesApart old wires wires → AreSidesApart new wires wires
sides_more tech old new wires more are apart = λ j k lj lk leave.
    apart j k lj lk
    (leave_before tech old new (wire_at wires j) (wire_at wires k) more
    (all_at (IsWire tech old) wires no_wire j are lj) leave)

-- ---- a copy

-- two copied ends that are one buried contact are one in the used cell
end_copied : (used new : Cell) (name : List ℕ) (first col row : ℕ) (end other : WireEnd)
    → Holds used new name first col row → IsEnd used end → copied_end first end ≡ copied_end first other
    → IsBuriedEnd new (copied_end first end) → (end ≡ other) × IsBuriedEnd used end
end_copied used new name first col row (ends.Node i) (ends.Node j) holds is same buried =
    let numbers : first + i ≡ first + j = cc in
    (ap ends.Node (omega (arith, numbers)), sym (ap (λ (node : Node). node.kind) (holds.node i is)) ∙ buried)
end_copied used new name first col row (ends.Node i) (ends.Port j) holds is same buried = absurd cc
end_copied used new name first col row (ends.Port i) other holds is same buried = absurd buried

leave_copied : (tech : Tech) (used new : Cell) (name : List ℕ) (first col row : ℕ) (a b : Wire)
    → Holds used new name first col row → IsWire tech used a
    → LeaveOneSide new (copied_wire first a) (copied_wire first b) → LeaveOneSide used a b
leave_copied tech used new name first col row a b holds is (along, inl (same, buried)) =
    (along, inl (end_copied used new name first col row a.low b.low holds is.low same buried))
leave_copied tech used new name first col row a b holds is (along, inr (same, buried)) =
    (along, inr (end_copied used new name first col row a.high b.high holds is.high same buried))

copied_at : (first : ℕ) (wires : List Wire) (k : ℕ) → k < length (map (copied_wire first) wires)
    → (k < length wires) × (wire_at (map (copied_wire first) wires) k ≡ copied_wire first (wire_at wires k))
copied_at first wires k lt =
    let within : k < length wires = omega (arith, lt, length-map wires (copied_wire first)) in
    (within, get_or-map (copied_wire first) wires k no_wire no_wire within)

pub sides_copied : (tech : Tech) (used new : Cell) (name : List ℕ) (first col row : ℕ)
    → Holds used new name first col row → AllByRecursion (IsWire tech used) used.wires
    → AreSidesApart used used.wires used.wires
    → AreSidesApart new (map (copied_wire first) used.wires) (map (copied_wire first) used.wires)
sides_copied tech used new name first col row holds are apart = λ j k lj lk leave.
    let of_j = copied_at first used.wires j lj in
    let of_k = copied_at first used.wires k lk in
    of_same new _ _ (copied_wire first (wire_at used.wires j)) (copied_wire first (wire_at used.wires k)) of_j.1 of_k.1
    (λ copied. apart j k of_j.0 of_k.0
    (leave_copied tech used new name first col row (wire_at used.wires j) (wire_at used.wires k) holds
    (all_at (IsWire tech used) used.wires no_wire j are of_j.0) copied))
    leave

-- an end before the copy is none of the copy
end_elsewhere : (old new : Cell) (first : ℕ) (end other : WireEnd) → length old.nodes ≤ first → IsEnd old end
    → end ≡ copied_end first other → IsBuriedEnd new end → ⊥
end_elsewhere old new first (ends.Node i) (ends.Node j) past is same buried = let numbers : i ≡ first + j =
    cc in omega (arith, past, is, numbers)
end_elsewhere old new first (ends.Node i) (ends.Port j) past is same buried = cc
end_elsewhere old new first (ends.Port i) other past is same buried = buried

pub sides_elsewhere : (tech : Tech) (old new : Cell) (first : ℕ) (wires copied : List Wire) → length old.nodes ≤ first
    → AllByRecursion (IsWire tech old) wires
    → AreSidesApart new wires (map (copied_wire first) copied)
sides_elsewhere tech old new first wires copied past are = λ j k lj lk leave.
    let of_k = copied_at first copied k lk in
    of_same new (wire_at wires j) _ (wire_at wires j) (copied_wire first (wire_at copied k)) refl of_k.1
    (λ leave. absurd (never j (wire_at copied k) (all_at (IsWire tech old) wires no_wire j are lj) leave)) leave
  where
    never : (j : ℕ) (b : Wire) → IsWire tech old (wire_at wires j)
        → LeaveOneSide new (wire_at wires j) (copied_wire first b) → ⊥
    never j b is (along, inl (same, buried)) =
        end_elsewhere old new first (wire_at wires j).low b.low past is.low same buried
    never j b is (along, inr (same, buried)) =
        end_elsewhere old new first (wire_at wires j).high b.high past is.high same buried

-- ---- a new wire

-- a test that all pass is passed by each
pub passes_at : {X : Type 0} (test : X → Bool) (xs : List X) (d : X) (k : ℕ) → IsTrue (list_all test xs)
    → k < length xs → IsTrue (test (get_or xs k d))
passes_at test [] d k all lt = absurd (omega arith)
passes_at test (x ∷ xs) d zero all lt = (both (test x) (list_all test xs) all).0
passes_at test (x ∷ xs) d (suc k) all lt = passes_at test xs d k (both (test x) (list_all test xs) all).1 (omega arith)

pub layer_same : (a b : Layer) → IsTrue (is_same_layer a b) → a ≡ b
layer_same Diffusion Diffusion h = refl
layer_same Poly Poly h = refl
layer_same Metal Metal h = refl
layer_same Diffusion Poly h = absurd cc
layer_same Diffusion Metal h = absurd cc
layer_same Poly Diffusion h = absurd cc
layer_same Poly Metal h = absurd cc
layer_same Metal Diffusion h = absurd cc
layer_same Metal Poly h = absurd cc

axis_itself : (along : Axis2) → is_same_axis along along ≡ true
axis_itself Across = refl
axis_itself Up = refl

-- a wire that ends there along that axis leaves node k
leaves_there : (k : ℕ) (along : Axis2) (is_low : Bool) (wire : Wire) → wire.along ≡ along
    → (if is_low then wire.low else wire.high) ≡ ends.Node k → leaves k along is_low wire ≡ true
leaves_there k along is_low wire same end =
    ap (λ (axis : Axis2). is_same_axis axis along && is_node k (if is_low then wire.low else wire.high)) same
    ∙ ap (λ (b : Bool). b && is_node k (if is_low then wire.low else wire.high)) (axis_itself along)
    ∙ ap (is_node k) end ∙ (Decides-eqb k k).1 refl

-- where the side is free, the wires that leave the terminal there are of the layer
of_layer : (cell : Cell) (wires : List Wire) (layer : Layer) (along : Axis2) (is_low : Bool) (t : Terminal) (k : ℕ)
    → IsTerminalOf cell t → IsTrue (is_side_free wires layer along is_low t) → k < length wires
    → (wire_at wires k).along ≡ along → (if is_low then (wire_at wires k).low else (wire_at wires k).high) ≡ end_of t
    → IsBuriedEnd cell (end_of t) → (wire_at wires k).layer ≡ layer
of_layer cell wires layer along is_low (terminals.Port pin) k is free lt same end buried = absurd buried
of_layer cell wires layer along is_low (terminals.Node node_place) k is free lt same end buried =
    let test : Wire → Bool = λ wire. not (leaves node_place.number along is_low wire)
    || is_same_layer wire.layer layer in
    let here : is_buried node_place.kind ≡ true = ap is_buried (sym is.kind ∙ buried) in
    let all : IsTrue (list_all test wires) = subst (λ (b : Bool). IsTrue (not b || list_all test wires)) here free in
    let passed : IsTrue (test (wire_at wires k)) = passes_at test wires no_wire k all lt in
    layer_same (wire_at wires k).layer layer
    (subst (λ (b : Bool). IsTrue (not b || is_same_layer (wire_at wires k).layer layer))
    (leaves_there node_place.number along is_low (wire_at wires k) same end) passed)

pub sides_new : (cell : Cell) (wires : List Wire) (layer : Layer) (run : Run) (wire : Wire)
    → IsTerminalOf cell run.low → IsTerminalOf cell run.high → IsTrue (are_sides_free wires layer run)
    → wire.layer ≡ layer → wire.along ≡ run.along → wire.low ≡ end_of run.low → wire.high ≡ end_of run.high
    → AreSidesApart cell wires (wire ∷ [])
sides_new cell wires layer run wire is_low is_high free its_layer its_along its_low its_high = by
  where
    sides : IsTrue (is_side_free wires layer run.along true run.low)
        × IsTrue (is_side_free wires layer run.along false run.high)
    sides = both (is_side_free wires layer run.along true run.low) (is_side_free wires layer run.along false run.high)
        free

    by : AreSidesApart cell wires (wire ∷ [])
    by j (suc k) lj lk leave = absurd (omega arith)
    by j zero lj lk (along, inl (same, buried)) =
        of_layer cell wires layer run.along true run.low j is_low sides.0 lj (along ∙ its_along) (same ∙ its_low)
        (subst (IsBuriedEnd cell) (same ∙ its_low) buried) ∙ sym its_layer
    by j zero lj lk (along, inr (same, buried)) =
        of_layer cell wires layer run.along false run.high j is_high sides.1 lj (along ∙ its_along) (same ∙ its_high)
        (subst (IsBuriedEnd cell) (same ∙ its_high) buried) ∙ sym its_layer

pub sides_one : (cell : Cell) (wire : Wire) → AreSidesApart cell (wire ∷ []) (wire ∷ [])
sides_one cell wire zero zero lj lk leave = refl
sides_one cell wire (suc j) k lj lk leave = absurd (omega arith)
sides_one cell wire zero (suc k) lj lk leave = absurd (omega arith)
