-- Wires and limits over what the code keeps of the things that are found: for things that lie near, they are those of
-- the definition, with the numbers of nodes capped.
use Rattle.std.proofs.Common.{◌≡◌, ℕ, ◌≤◌, nat_lt, Bool, true, false, not, cond, ◌==◌, ◌&&◌, ◌||◌, ℤ, List, Option}
use Rattle.std.proofs.Common.{Some, None, option_map, Result, Ok, Err, refl, ap, ◌∙◌, arith}
use Rattle.rule_table.specs.declared.{technology.Tech.Tech, classes.Layer.Layer}
use Rattle.stick_text.specs.declared.fault.StickKind.{StickKind, TheVariants.{WrongLayer, WrongSide, PortWires}}
use Rattle.stick_text.specs.{declared.fault.StickKind.TheVariants.{NarrowWire, WideWire}, Reading.{◌>>=◌, demand}}
use Rattle.cell_model.specs.declared.cell.{Axis2.{Axis2, TheVariants.{Across, Up}}, Wire.Wire}
use Rattle.cell_model.specs.Wiring.{axis_of, is_low_side, is_same_axis}
use Rattle.checked_cells.specs.declared.names.{Pin.Pin, NodePlace.NodePlace, Terminal.{Terminal, TheVariants.Node}}
use Rattle.checked_cells.specs.declared.names.{Terminal.TheVariants.Port, Found.{Found, TheVariants.{At, AtCopy}}}
use Rattle.checked_cells.specs.{declared.names.{Found.TheVariants.Through, Run.Run}, Checks.sized, Wires.terminal}
use Rattle.checked_cells.specs.Wires.{line_of, run_along, run_from_port, run_to_port, run_between, straight, run_of}
use Rattle.checked_cells.specs.Wires.{takes_layer, takes_along, is_free, fills_pad, is_within_pad, end_of, at_both}
use Rattle.checked_cells.specs.{Wires.{wire_along, wire_where, limited}, Kept.{ended, kept_node_place, kept_found}}
use Rattle.checked_cells.specs.Kept.{capped_place, capped_end, capped_wire, IsNearFound}

-- an `Ok` seen by view
abbrev pub result_map : {A B E : Type 0} → (A → B) → Result A E → Result B E
result_map view (Ok x) = Ok (view x)
result_map view (Err e) = Err e

-- ---- things that lie near

abbrev pub capped_terminal : Terminal → Terminal
capped_terminal (Node node_place) = Node (capped_place node_place)
capped_terminal (Port pin) = Port pin

abbrev pub capped_found : Found → Found
capped_found (At end) = At (capped_terminal end)
capped_found AtCopy = AtCopy
capped_found Through = Through

-- the columns and rows of a node that lies near are kept
kept_near : (node_place : NodePlace) → node_place.col ≤ 4095 → node_place.row ≤ 4095
    → kept_node_place node_place ≡ capped_place node_place
kept_near node_place near_col near_row =
    let col : ended node_place.col ≡ node_place.col = omega arith in
    let row : ended node_place.row ≡ node_place.row = omega arith in
    cc

-- what is kept of a thing that lies near is the thing, with the number of its node capped
pub kept_found-near : (found : Found) → IsNearFound found → kept_found found ≡ capped_found found
kept_found-near (At (Node node_place)) near = ap (λ (s : NodePlace). At (Node s)) (kept_near node_place near.0 near.1)
kept_found-near (At (Port pin)) near = refl
kept_found-near AtCopy near = refl
kept_found-near Through near = refl

-- ---- names and limits

-- a limit's end, from what is kept of it
pub limited-kept : (found : Found) → IsNearFound found
    → limited (kept_found found) ≡ result_map capped_place (limited found)
limited-kept (At (Node node_place)) near = ap Ok (kept_near node_place near.0 near.1)
limited-kept (At (Port pin)) near = refl
limited-kept AtCopy near = refl
limited-kept Through near = refl

-- ---- runs

abbrev pub capped_run : Run → Run
capped_run run = record run { low = capped_terminal run.low; high = capped_terminal run.high }

-- the run between two ends does not hang on the numbers of nodes
run_along-capped : (along : Axis2) (is_low : Bool) (a b : Terminal)
    → run_along along is_low (capped_terminal a) (capped_terminal b) ≡ capped_run (run_along along is_low a b)
run_along-capped along true a b = refl
run_along-capped along false a b = refl

run_if : (test : Bool) (along : Axis2) (is_low : Bool) (a b : Terminal)
    → cond test (Some (run_along along is_low (capped_terminal a) (capped_terminal b))) None
    ≡ option_map capped_run (cond test (Some (run_along along is_low a b)) None)
run_if true along is_low a b = ap Some (run_along-capped along is_low a b)
run_if false along is_low a b = refl

run_either : (in_row in_col is_left is_below : Bool) (a b : Terminal)
    → cond in_row (Some (run_along Across is_left (capped_terminal a) (capped_terminal b)))
    (cond in_col (Some (run_along Up is_below (capped_terminal a) (capped_terminal b))) None)
    ≡ option_map capped_run
    (cond in_row (Some (run_along Across is_left a b)) (cond in_col (Some (run_along Up is_below a b)) None))
run_either true in_col is_left is_below a b = ap Some (run_along-capped Across is_left a b)
run_either false in_col is_left is_below a b = run_if in_col Up is_below a b

-- the line of a node does not hang on its number
line_of-capped : (along : Axis2) (node_place : NodePlace)
    → line_of along (capped_place node_place) ≡ line_of along node_place
line_of-capped Across node_place = refl
line_of-capped Up node_place = refl

-- nor does the run from a port to a node
run_from_port-capped : (p : Pin) (b : NodePlace)
    → run_from_port p (capped_place b) ≡ option_map capped_run (run_from_port p b)
run_from_port-capped p b =
    ap (λ (line : ℕ). cond (line == p.place)
    (Some (run_along (axis_of p.side) (is_low_side p.side) (Port p) (Node (capped_place b))))
    None) (line_of-capped (axis_of p.side) b)
    ∙ run_if (line_of (axis_of p.side) b == p.place) (axis_of p.side) (is_low_side p.side) (Port p) (Node b)

-- or from a node to a port
run_to_port-capped : (a : NodePlace) (q : Pin)
    → run_to_port (capped_place a) q ≡ option_map capped_run (run_to_port a q)
run_to_port-capped a q =
    ap (λ (line : ℕ). cond (line == q.place)
    (Some (run_along (axis_of q.side) (not (is_low_side q.side)) (Node (capped_place a)) (Port q)))
    None) (line_of-capped (axis_of q.side) a)
    ∙ run_if (line_of (axis_of q.side) a == q.place) (axis_of q.side) (not (is_low_side q.side)) (Node a) (Port q)

-- or between two terminals
run_between-capped : (a b : Terminal)
    → run_between (capped_terminal a) (capped_terminal b) ≡ option_map capped_run (run_between a b)
run_between-capped (Node a) (Node b) =
    run_either ((a.row == b.row) && not (a.col == b.col)) ((a.col == b.col) && not (a.row == b.row))
    (nat_lt a.col b.col) (nat_lt a.row b.row) (Node a) (Node b)
run_between-capped (Node a) (Port q) = run_to_port-capped a q
run_between-capped (Port p) (Node b) = run_from_port-capped p b
run_between-capped (Port p) (Port q) =
    run_if (is_same_axis (axis_of p.side) (axis_of q.side)
    && (not (is_low_side p.side) && is_low_side q.side || is_low_side p.side && not (is_low_side q.side))
    && (p.place == q.place)) (axis_of p.side) (is_low_side p.side) (Port p) (Port q)

straight-capped : (run : Option Run) → straight (option_map capped_run run) ≡ result_map capped_run (straight run)
straight-capped None = refl
straight-capped (Some run) = refl

terminal-capped : (found : Found) → terminal (capped_found found) ≡ result_map capped_terminal (terminal found)
terminal-capped (At end) = refl
terminal-capped AtCopy = refl
terminal-capped Through = refl

-- ---- the tests at the ends

takes_layer-capped : (layer : Layer) (end : Terminal) → takes_layer layer (capped_terminal end) ≡ takes_layer layer end
takes_layer-capped layer (Node node_place) = refl
takes_layer-capped layer (Port pin) = refl

takes_along-capped : (layer : Layer) (along : Axis2) (end : Terminal)
    → takes_along layer along (capped_terminal end) ≡ takes_along layer along end
takes_along-capped layer along (Node node_place) = refl
takes_along-capped layer along (Port pin) = refl

is_free-capped : (wired : List Bool) (end : Terminal) → is_free wired (capped_terminal end) ≡ is_free wired end
is_free-capped wired (Node node_place) = refl
is_free-capped wired (Port pin) = refl

is_within_pad-capped : (tech : Tech) (layer : Layer) (width : ℤ) (end : Terminal)
    → is_within_pad tech layer width (capped_terminal end) ≡ is_within_pad tech layer width end
is_within_pad-capped tech layer width (Node node_place) = refl
is_within_pad-capped tech layer width (Port pin) = refl

fills_pad-capped : (tech : Tech) (width : ℤ) (end : Terminal)
    → fills_pad tech width (capped_terminal end) ≡ fills_pad tech width end
fills_pad-capped tech width (Node node_place) = refl
fills_pad-capped tech width (Port pin) = refl

end_of-capped : (end : Terminal) → end_of (capped_terminal end) ≡ capped_end (end_of end)
end_of-capped (Node node_place) = refl
end_of-capped (Port pin) = refl

-- a test that does not hang on the numbers of nodes passes at both ends of a run or of the capped run
at_both-capped : (test : Terminal → Bool) → ((end : Terminal) → test (capped_terminal end) ≡ test end) → (run : Run)
    → at_both test (capped_run run) ≡ at_both test run
at_both-capped test same run = ap (λ (b : Bool). b && test (capped_terminal run.high)) (same run.low)
    ∙ ap (λ (b : Bool). test run.low && b) (same run.high)

-- ---- the wire of a run

-- the wire that is made after the tests
abbrev pub tested : Bool → Bool → Bool → Result ℤ StickKind → (ℤ → Bool) → (ℤ → Bool) → (ℤ → Wire)
    → Result Wire StickKind
tested layers sides free width fills pads make = do
  layer ← demand layers WrongLayer
  side ← demand sides WrongSide
  one ← demand free PortWires
  size ← width
  filled ← demand (fills size) NarrowWire
  pad ← demand (pads size) WideWire
  Ok (make size)

within_pads : (fills pads : Bool) (wire other : Wire) → other ≡ capped_wire wire
    → (demand fills NarrowWire >>= λ filled. demand pads WideWire >>= λ pad. Ok other)
    ≡ result_map capped_wire (demand fills NarrowWire >>= λ filled. demand pads WideWire >>= λ pad. Ok wire)
within_pads true true wire other same = ap Ok same
within_pads true false wire other same = refl
within_pads false pads wire other same = refl

tested-capped : (layers sides free : Bool) (width : Result ℤ StickKind) (fills filled pads others : ℤ → Bool)
    (make made : ℤ → Wire) → ((n : ℤ) → filled n ≡ fills n) → ((n : ℤ) → others n ≡ pads n)
    → ((n : ℤ) → made n ≡ capped_wire (make n))
    → tested layers sides free width filled others made ≡ result_map capped_wire
    (tested layers sides free width fills pads make)
tested-capped false sides free width fills filled pads others make made same_fills same_pads same_wires = refl
tested-capped true false free width fills filled pads others make made same_fills same_pads same_wires = refl
tested-capped true true false width fills filled pads others make made same_fills same_pads same_wires = refl
tested-capped true true true (Err kind) fills filled pads others make made same_fills same_pads same_wires = refl
tested-capped true true true (Ok n) fills filled pads others make made same_fills same_pads same_wires =
    ap (λ (b : Bool). demand b NarrowWire >>= (λ f. demand (others n) WideWire >>= (λ pad. Ok (made n)))) (same_fills n)
    ∙ ap (λ (b : Bool). demand (fills n) NarrowWire >>= (λ f. demand b WideWire >>= (λ pad. Ok (made n))))
    (same_pads n) ∙ within_pads (fills n) (pads n) (make n) (made n) (same_wires n)

wire_along-capped : (layer : Layer) (run : Run) (size : ℤ)
    → wire_along layer (capped_run run) size ≡ capped_wire (wire_along layer run size)
wire_along-capped layer run size =
    let low = end_of-capped run.low in
    let high = end_of-capped run.high in
    cc

-- the wire along what is kept of a run is the wire along the run, with the numbers of nodes capped
pub wire_where-capped : (are_free : Bool) (tech : Tech) (wired : List Bool) (layer : Layer) (width : Option ℕ)
    (run : Run)
    → wire_where are_free tech wired layer width (capped_run run)
    ≡ result_map capped_wire (wire_where are_free tech wired layer width run)
wire_where-capped are_free tech wired layer width run =
    let end = capped_run run in
    let layers = at_both-capped (takes_layer layer) (takes_layer-capped layer) run in
    let sides = at_both-capped (takes_along layer run.along) (takes_along-capped layer run.along) run in
    let free = at_both-capped (is_free wired) (is_free-capped wired) run in
    let fills = λ (size : ℤ). at_both (fills_pad tech size) end in
    let pads = λ (size : ℤ). at_both (is_within_pad tech layer size) end in
    let size = sized tech layer width in
    ap (λ (b : Bool). tested b (at_both (takes_along layer run.along) end && are_free) (at_both (is_free wired) end)
    size fills pads (wire_along layer end)) layers
    ∙ ap (λ (b : Bool). tested (at_both (takes_layer layer) run) (b && are_free) (at_both (is_free wired) end) size
    fills pads (wire_along layer end)) sides
    ∙ ap (λ (b : Bool). tested (at_both (takes_layer layer) run)
    (at_both (takes_along layer run.along) run && are_free) b size fills pads (wire_along layer end)) free
    ∙ tested-capped (at_both (takes_layer layer) run) (at_both (takes_along layer run.along) run && are_free)
    (at_both (is_free wired) run) size (λ n. at_both (fills_pad tech n) run) fills
    (λ n. at_both (is_within_pad tech layer n) run) pads (wire_along layer run) (wire_along layer end)
    (λ n. at_both-capped (fills_pad tech n) (fills_pad-capped tech n) run)
    (λ n. at_both-capped (is_within_pad tech layer n) (is_within_pad-capped tech layer n) run)
    (wire_along-capped layer run)

-- ---- the wire between two things

-- steps that agree at each outcome agree after it
after-capped : {A B C D : Type 0} (view : A → B) (look : C → D) (read : Result A StickKind)
    (other : Result B StickKind) (next : A → Result C StickKind) (following : B → Result D StickKind)
    → other ≡ result_map view read → ((x : A) → following (view x) ≡ result_map look (next x))
    → (other >>= following) ≡ result_map look (read >>= next)
after-capped view look (Ok x) other next following same agree = ap (λ r. r >>= following) same ∙ agree x
after-capped view look (Err e) other next following same agree = ap (λ r. r >>= following) same

run_of-capped : (a b : Found) → run_of (capped_found a) (capped_found b) ≡ result_map capped_run (run_of a b)
run_of-capped a b =
    after-capped capped_terminal capped_run (terminal a) (terminal (capped_found a)) _ _ (terminal-capped a) (λ from.
    after-capped capped_terminal capped_run (terminal b) (terminal (capped_found b)) _ _ (terminal-capped b) (λ to.
    ap straight (run_between-capped from to) ∙ straight-capped (run_between from to)))

-- the run between what is kept of two things that lie near is the run between the things, with the numbers of nodes
-- capped
pub run_of-kept : (a b : Found) → IsNearFound a → IsNearFound b
    → run_of (kept_found a) (kept_found b) ≡ result_map capped_run (run_of a b)
run_of-kept a b near_a near_b =
    ap (λ (f : Found). run_of f (kept_found b)) (kept_found-near a near_a)
    ∙ ap (λ (f : Found). run_of (capped_found a) f) (kept_found-near b near_b) ∙ run_of-capped a b
