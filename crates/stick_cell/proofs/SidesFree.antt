-- Where the code finds the sides of a run's ends open, they are free; and the sides that are kept with a wire along
-- the run.
use Rattle.std.proofs.Common.{◌≡◌, ℕ, ◌==◌, Bool, true, false, List, [], ◌∷◌, refl, sym, ap, subst, ◌∙◌}
use Rattle.std.proofs.lemmas.{Bool.{false_from_ne_true, Decides.Decides-eqb}, Slice.Eq.bytes_eq-Decides}
use Rattle.std.specs.Prelude.{IsTrue, not, ◌&&◌, ◌||◌, ℤ, bytes_eq, if◌then◌else◌}
use Rattle.std.specs.List.{AllByRecursion, list_all, list_any}
use Rattle.rule_table.specs.declared.{technology.Tech.Tech, classes.Layer.{Layer, TheVariants.{Diffusion, Poly, Metal}}}
use Rattle.cell_model.specs.declared.cell.{Axis2.Axis2, Node.Node, NodeKind.NodeKind, WireEnd.WireEnd, Wire.Wire}
use Rattle.cell_model.specs.{declared.cell.Cell.Cell, Wiring.{is_same_axis, is_same_layer, node_takes}, Sound.node_at}
use Rattle.cell_model.specs.Sound.{IsEnd, Takes, IsWire}
use Rattle.cell_model.specs.declared.cell.NodeKind.TheVariants as kinds
use Rattle.cell_model.specs.declared.cell.WireEnd.TheVariants as ends
use Rattle.checked_cells.specs.declared.names.{NodePlace.NodePlace, Run.Run, Terminal.Terminal}
use Rattle.checked_cells.specs.{CheckedCell.{CheckedCell, cell_of, with_wire}, Built.{IsNodePlace, ArePathsApart}}
use Rattle.checked_cells.specs.{Built.IsBuilt, Wires.{is_buried, is_node, leaves, is_side_free, are_sides_free}}
use Rattle.checked_cells.specs.{Wires.wire_along, Sides.{is_buried_at, leaves_at, is_taken, is_buried_end, is_open}}
use Rattle.checked_cells.specs.Sides.{are_open, TakenAt, IsMarkedIf, AreMarked, AreSidesOf}
use Rattle.checked_cells.proofs.{Accepted.eq_from_test, BuiltNames.IsAt, BuiltRuns.IsRunBetween}
use Rattle.stick_cell.proofs.{KeptWires.{capped_terminal, capped_run}, SidesKept.{and_false, sides_wire}}
use Rattle.checked_cells.specs.declared.names.Terminal.TheVariants as terminals

-- ---- one wire

pub is_kind : (kind : NodeKind) → is_buried kind ≡ true → kind ≡ kinds.Buried
is_kind (kinds.Joint layer width) is = absurd cc
is_kind (kinds.Contact lower) is = absurd cc
is_kind kinds.Buried is = refl
is_kind (kinds.Fet depletion gate w l) is = absurd cc

-- an end is the buried contact of a name where it is the node of its number
buried_is_node : (known : CheckedCell) (path : List ℕ) (node_place : NodePlace) (end : WireEnd)
    → IsNodePlace known.nodes path node_place → is_buried node_place.kind ≡ true
    → ArePathsApart known.names known.nodes → IsEnd (cell_of known) end
    → is_buried_at known.nodes path end ≡ is_node node_place.number end
buried_is_node known path node_place (ends.Port j) is buried apart within = refl
buried_is_node known path node_place (ends.Node j) is buried apart within = by (j == node_place.number) refl
  where
    by : (b : Bool) → (j == node_place.number) ≡ b
        → (is_buried (node_at known.nodes j).kind && bytes_eq path (node_at known.nodes j).name) ≡ b
    by true same =
        let node : node_at known.nodes j
        ≡ record { name = path; kind = node_place.kind; col = node_place.col; row = node_place.row } =
        ap (node_at known.nodes) (eq_from_test j node_place.number same) ∙ is.node in
        ap (λ (n : Node). is_buried n.kind && bytes_eq path n.name) node
        ∙ ap (λ (b : Bool). b && bytes_eq path path) buried ∙ (bytes_eq-Decides path path).1 refl
    by false other =
        ap (λ (b : Bool). is_buried (node_at known.nodes j).kind && b)
        (false_from_ne_true (bytes_eq path (node_at known.nodes j).name)
        (λ e. differs (sym ((bytes_eq-Decides path (node_at known.nodes j).name).0 e))))
        ∙ and_false (is_buried (node_at known.nodes j).kind)
      where
        differs : (node_at known.nodes j).name ≡ path → ⊥
        differs name =
            let number : j ≡ node_place.number =
            apart.apart j node_place.number within is.within (name ∙ ap (λ (n : Node). n.name) (sym is.node)) in
            let same : (j == node_place.number) ≡ true = (Decides-eqb j node_place.number).1 number in
            cc

-- no metal wire ends at a buried contact
no_metal_end : (cell : Cell) (layer : Layer) (along : Axis2) (number : ℕ) (end : WireEnd) → Takes cell layer along end
    → is_buried (node_at cell.nodes number).kind ≡ true → is_node number end ≡ true → layer ≡ Metal → ⊥
no_metal_end cell layer along number (ends.Port j) takes buried here metal = cc
no_metal_end cell layer along number (ends.Node j) takes buried here metal =
    let same : j ≡ number = eq_from_test j number here in
    let kind : (node_at cell.nodes j).kind ≡ kinds.Buried = ap (λ (n : ℕ). (node_at cell.nodes n).kind) same
    ∙ is_kind (node_at cell.nodes number).kind buried in
    let taken : IsTrue (node_takes kinds.Buried Metal) =
    subst (λ (l : Layer). IsTrue (node_takes kinds.Buried l)) metal
    (subst (λ (k : NodeKind). IsTrue (node_takes k layer)) kind takes.0) in
    cc

-- of two layers, whether the one is another than a wire's that leaves there
of_layers : (its layer : Layer) (leaves : Bool) → (leaves ≡ true → its ≡ Metal → ⊥)
    → (not leaves || is_same_layer its layer)
    ≡ not ((not (is_same_layer Poly layer) && (is_same_layer its Poly && leaves))
    || (not (is_same_layer Diffusion layer) && (is_same_layer its Diffusion && leaves)))
of_layers Diffusion Diffusion true never = refl
of_layers Diffusion Poly true never = refl
of_layers Diffusion Metal true never = refl
of_layers Poly Diffusion true never = refl
of_layers Poly Poly true never = refl
of_layers Poly Metal true never = refl
of_layers Metal layer true never = absurd (never refl refl)
of_layers Diffusion Diffusion false never = refl
of_layers Diffusion Poly false never = refl
of_layers Diffusion Metal false never = refl
of_layers Poly Diffusion false never = refl
of_layers Poly Poly false never = refl
of_layers Poly Metal false never = refl
of_layers Metal Diffusion false never = refl
of_layers Metal Poly false never = refl
of_layers Metal Metal false never = refl

-- ---- all wires

-- one more wire
one_more : (n m p q r s : Bool) → (not ((n && p) || (m && r)) && not ((n && q) || (m && s)))
    ≡ not ((n && (p || q)) || (m && (r || s)))
one_more false false p q r s = refl
one_more false true p q true s = refl
one_more false true p q false s = refl
one_more true false true q r s = refl
one_more true false false q r s = refl
one_more true true true q r s = refl
one_more true true false true true s = refl
one_more true true false true false s = refl
one_more true true false false true s = refl
one_more true true false false false s = refl

none_left : (n m : Bool) → true ≡ not ((n && false) || (m && false))
none_left true true = refl
none_left true false = refl
none_left false true = refl
none_left false false = refl

wire_free : (tech : Tech) (cells : List CheckedCell) (known : CheckedCell) (path : List ℕ) (node_place : NodePlace)
    (layer : Layer) (along : Axis2) (is_low : Bool) → IsBuilt tech cells known
    → IsNodePlace known.nodes path node_place
    → is_buried node_place.kind ≡ true → (wire : Wire) → IsWire tech (cell_of known) wire
    → (not (leaves node_place.number along is_low wire) || is_same_layer wire.layer layer)
    ≡ not ((not (is_same_layer Poly layer) && leaves_at known.nodes path Poly along is_low wire)
    || (not (is_same_layer Diffusion layer) && leaves_at known.nodes path Diffusion along is_low wire))
wire_free tech cells known path node_place layer along is_low built is buried wire is_wire =
    of_layers wire.layer layer (leaves node_place.number along is_low wire) (never is_low)
    ∙ ap (λ (b : Bool).
    not ((not (is_same_layer Poly layer)
    && (is_same_layer wire.layer Poly && (is_same_axis wire.along along && b))) || (not
    (is_same_layer Diffusion layer)
    && (is_same_layer wire.layer Diffusion && (is_same_axis wire.along along && b)))))
    (sym (buried_is_node known path node_place (if is_low then wire.low else wire.high) is buried built.apart
    (within is_low)))
  where
    within : (low : Bool) → IsEnd (cell_of known) (if low then wire.low else wire.high)
    within true = is_wire.low
    within false = is_wire.high

    takes : (low : Bool) → Takes (cell_of known) wire.layer wire.along (if low then wire.low else wire.high)
    takes true = is_wire.takes_low
    takes false = is_wire.takes_high

    right : (a b : Bool) → (a && b) ≡ true → b ≡ true
    right true b e = e
    right false b e = absurd cc

    never : (low : Bool) → leaves node_place.number along low wire ≡ true → wire.layer ≡ Metal → ⊥
    never low there = no_metal_end (cell_of known) wire.layer wire.along node_place.number
        (if low then wire.low else wire.high) (takes low)
        (ap (λ (node : Node). is_buried node.kind) is.node ∙ buried)
        (right (is_same_axis wire.along along) (is_node node_place.number (if low then wire.low else wire.high))
        there)

-- the side of a buried contact is free where no wire of another layer leaves it there
wires_free : (tech : Tech) (cells : List CheckedCell) (known : CheckedCell) (path : List ℕ) (node_place : NodePlace)
    (layer : Layer) (along : Axis2) (is_low : Bool) → IsBuilt tech cells known
    → IsNodePlace known.nodes path node_place
    → is_buried node_place.kind ≡ true → (wires : List Wire) → AllByRecursion (IsWire tech (cell_of known)) wires
    → list_all (λ wire. not (leaves node_place.number along is_low wire) || is_same_layer wire.layer layer) wires
    ≡ not ((not (is_same_layer Poly layer) && list_any (leaves_at known.nodes path Poly along is_low) wires)
    || (not (is_same_layer Diffusion layer) && list_any (leaves_at known.nodes path Diffusion along is_low)
    wires))
wires_free tech cells known path node_place layer along is_low built is buried [] are =
    none_left (not (is_same_layer Poly layer)) (not (is_same_layer Diffusion layer))
wires_free tech cells known path node_place layer along is_low built is buried (wire ∷ wires) are =
    let test : Wire → Bool = λ wire. not (leaves node_place.number along is_low wire)
    || is_same_layer wire.layer layer in
    let poly : Wire → Bool = leaves_at known.nodes path Poly along is_low in
    let diffusion : Wire → Bool = leaves_at known.nodes path Diffusion along is_low in
    ap (λ (b : Bool). b && list_all test wires)
    (wire_free tech cells known path node_place layer along is_low built is buried wire are.0)
    ∙ ap (λ (b : Bool).
    not ((not (is_same_layer Poly layer) && poly wire) || (not (is_same_layer Diffusion layer) && diffusion wire))
    && b) (wires_free tech cells known path node_place layer along is_low built is buried wires are.1)
    ∙ one_more (not (is_same_layer Poly layer)) (not (is_same_layer Diffusion layer)) (poly wire)
    (list_any poly wires) (diffusion wire) (list_any diffusion wires)

is_open-free : (tech : Tech) (cells : List CheckedCell) (known : CheckedCell) (path : List ℕ) (t : Terminal)
    (layer : Layer) (along : Axis2) (is_low : Bool) → IsBuilt tech cells known → IsAt known.nodes known.plugs path t
    → is_open known t path layer along is_low ≡ is_side_free known.wires layer along is_low t
is_open-free tech cells known path (terminals.Port pin) layer along is_low built is = refl
is_open-free tech cells known path (terminals.Node node_place) layer along is_low built is =
    by (is_buried node_place.kind) refl
  where
    by : (b : Bool) → is_buried node_place.kind ≡ b
        → (not b || not (is_taken known path layer along is_low))
        ≡ (not b
        || list_all (λ wire. not (leaves node_place.number along is_low wire) || is_same_layer wire.layer layer)
        known.wires)
    by false other = refl
    by true buried =
        sym (wires_free tech cells known path node_place layer along is_low built is buried known.wires built.wires)

-- ---- both ends of a run

buried_end-capped : (t : Terminal) → is_buried_end (capped_terminal t) ≡ is_buried_end t
buried_end-capped (terminals.Node node_place) = refl
buried_end-capped (terminals.Port pin) = refl

-- the sides at a run's ends are free where the code finds them open
pub open-free : (tech : Tech) (cells : List CheckedCell) (known : CheckedCell) (a b low high : List ℕ) (layer : Layer)
    (real run : Run) → IsBuilt tech cells known → IsRunBetween known a b real → run ≡ capped_run real
    → low ≡ (if run.forward then a else b) → high ≡ (if run.forward then b else a)
    → are_open known run low high layer ≡ are_sides_free known.wires layer real
open-free tech cells known a b low high layer real run built between is its_low its_high =
    let at_low : IsAt known.nodes known.plugs low real.low = rw (its_low, is) between.low in
    let at_high : IsAt known.nodes known.plugs high real.high = rw (its_high, is) between.high in
    ap (λ (r : Run). are_open known r low high layer) is
    ∙ ap (λ (b : Bool). (not b || not (is_taken known low layer real.along true))
    && is_open known (capped_terminal real.high) high layer real.along false) (buried_end-capped real.low)
    ∙ ap (λ (b : Bool). is_open known real.low low layer real.along true
    && (not b || not (is_taken known high layer real.along false))) (buried_end-capped real.high)
    ∙ ap (λ (b : Bool). b && is_open known real.high high layer real.along false)
    (is_open-free tech cells known low real.low layer real.along true built at_low)
    ∙ ap (λ (b : Bool). is_side_free known.wires layer real.along true real.low && b)
    (is_open-free tech cells known high real.high layer real.along false built at_high)

-- the sides that are kept with a wire along the run tell of the cell with it
pub sides_marked : (cells : List CheckedCell) (known : CheckedCell) (a b low high : List ℕ) (layer : Layer)
    (real run : Run) (size : ℤ) (old new : TakenAt) → IsRunBetween known a b real → run ≡ capped_run real
    → low ≡ (if run.forward then a else b) → high ≡ (if run.forward then b else a)
    → AreMarked old new run low high layer → AreSidesOf cells known old
    → AreSidesOf cells (with_wire known (wire_along layer real size)) new
sides_marked cells known a b low high layer real run size old new between is its_low its_high marked are =
    let at_low : IsAt known.nodes known.plugs low real.low = rw (its_low, is) between.low in
    let at_high : IsAt known.nodes known.plugs high real.high = rw (its_high, is) between.high in
    let Low : Run → Type 0 = λ r. IsMarkedIf (is_buried_end r.low) old marked.between low layer r.along true in
    let High : Run → Type 0 = λ r. IsMarkedIf (is_buried_end r.high) marked.between new high layer r.along false in
    let first : IsMarkedIf (is_buried_end real.low) old marked.between low layer real.along true =
    subst (λ (b : Bool). IsMarkedIf b old marked.between low layer real.along true) (buried_end-capped real.low)
    (subst Low is marked.at_low) in
    let second : IsMarkedIf (is_buried_end real.high) marked.between new high layer real.along false =
    subst (λ (b : Bool). IsMarkedIf b marked.between new high layer real.along false) (buried_end-capped real.high)
    (subst High is marked.at_high) in
    sides_wire cells known (wire_along layer real size) old marked.between new low high real.low real.high at_low
    at_high refl refl first second are
