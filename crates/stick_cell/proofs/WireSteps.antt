-- What the lines of wires and limits give, by what their paths come to.
use Rattle.std.proofs.Common.{◌≡◌, ℕ, zero, suc, ◌<◌, ◌≤◌, ℤ, Bool, true, not, ◌==◌, List, [], ◌∷◌, length, map, get_or}
use Rattle.std.proofs.Common.{set, Option, Some, None, option_map, Result, Ok, Err, refl, sym, ap, subst, ◌∙◌, arith}
use Rattle.std.proofs.lemmas.List.{map-set}
use Rattle.std.specs.{Prelude.bytes_eq, List.AllByRecursion, Option.ok_or, Result.IsErrAnd}
use Rattle.stick_text.specs.declared.fault.StickKind.{StickKind, TheVariants.{UnknownName, BadLimit}}
use Rattle.stick_text.specs.declared.fault.LineFault.{LineFault, TheVariants.{Kind, OutOfMemory}}
use Rattle.stick_text.specs.{declared.design.Layer.Layer as DrawnLayer, Reading.{◌>>=◌, demand}, Writable.IsPath}
use Rattle.cell_model.specs.declared.cell.{Wire.Wire, WireEnd.WireEnd, CellPort.CellPort, Limit.Limit, Axis2.Axis2}
use Rattle.cell_model.specs.{declared.cell.Cell.Cell, Sound.{IsEnd, IsWire}, Nets.HasEnds}
use Rattle.cell_model.specs.declared.cell.WireEnd.TheVariants as ends
use Rattle.checked_cells.specs.declared.names.{Found.{Found, TheVariants.At}, Run.Run, Terminal.Terminal}
use Rattle.checked_cells.specs.declared.{names.{Terminal.TheVariants.Node, NodePlace.NodePlace}, sides.SideMap.SideMap}
use Rattle.checked_cells.specs.{Checks.layer_of, Wires.{known_name, run_of, are_sides_free, wire_where, wire_between}}
use Rattle.checked_cells.specs.{Wires.limited, Paths.found_at, Lines.{axis_where, wired_of, after_wire, after_limit}}
use Rattle.checked_cells.specs.{Built.{IsBuilt, AreBuilt}, CheckedCell.{CheckedCell, Plug, cell_of}}
use Rattle.checked_cells.specs.{CheckedCell.{no_plug, plug_at, plugged, with_wire, with_limit}, Counts.weight_of}
use Rattle.checked_cells.specs.{Counts.capped, Kept.{kept_found, capped_end, capped_wire, capped_place, IsNearFound}}
use Rattle.checked_cells.proofs.{Accepted.limited_ok, Built.{node_place-found_at, light-cell_of}, BuiltNames.at_end_of}
use Rattle.checked_cells.proofs.BuiltRuns.{IsRunBetween, run_between_paths}
use Rattle.stick_cell.specs.{declared.builder.CellBuilder.CellBuilder, CellBuilder.{IsCellBuilder, GrowsWith}}
use Rattle.stick_cell.specs.CellBuilder.{port_so_far, IsWiredBelow, plugged_ports, plugged_marks, found_or_unknown}
use Rattle.stick_cell.proofs.{Finishing.tells_still, FoundNodes.{IsNodeOf, near-found, same_number}}
use Rattle.stick_cell.proofs.LineSteps.{bind_assoc, is_err}
use Rattle.stick_cell.proofs.KeptWires.{result_map, capped_run, run_of-kept, wire_where-capped, limited-kept}
use Rattle.rule_table.specs.declared.{classes.Layer.Layer, technology.Tech.Tech}
use Rattle.list_facts.proofs.Elements.{all_parts}

-- what a path comes to, or that its name is unknown
pub found-known : (found : Option Found) (kept : Option Found) (r : Result Found StickKind)
    → r ≡ ok_or kept UnknownName → kept ≡ option_map kept_found found → r ≡ found_or_unknown found
found-known None kept r e is = e ∙ ap (λ o. ok_or o UnknownName) is
found-known (Some found) kept r e is = e ∙ ap (λ o. ok_or o UnknownName) is

so_far_at : (plugs : List Plug) (k : ℕ)
    → get_or (map port_so_far plugs) k (port_so_far no_plug) ≡ port_so_far (plug_at plugs k)
so_far_at [] k = refl
so_far_at (plug ∷ plugs) zero = refl
so_far_at (plug ∷ plugs) (suc k) = so_far_at plugs k

-- the ports after a wire has ended at one of them
pub plugged-so_far : (number : ℕ) (width : ℤ) (plugs : List Plug) (end : WireEnd)
    → plugged_ports (capped number) width (map port_so_far plugs) (capped_end end)
    ≡ map port_so_far (plugged number width plugs end)
plugged-so_far number width plugs (ends.Node k) = refl
plugged-so_far number width plugs (ends.Port k) =
    ap (λ (port : CellPort). set (map port_so_far plugs) k (record port { width = width; wire = capped number }))
    (so_far_at plugs k)
    ∙ sym (map-set port_so_far plugs k
    (record { port = record (plug_at plugs k).port { wire = number }; width = width; wired = true }))

pub marked-so_far : (number : ℕ) (width : ℤ) (plugs : List Plug) (end : WireEnd)
    → plugged_marks (map (λ (plug : Plug). plug.wired) plugs) (capped_end end)
    ≡ map (λ (plug : Plug). plug.wired) (plugged number width plugs end)
marked-so_far number width plugs (ends.Node k) = refl
marked-so_far number width plugs (ends.Port k) =
    sym (map-set (λ (plug : Plug). plug.wired) plugs k
    (record { port = record (plug_at plugs k).port { wire = number }; width = width; wired = true }))

below-set : (count : ℕ) (plugs : List Plug) (k : ℕ) (plug : Plug) → AllByRecursion (IsWiredBelow count) plugs
    → IsWiredBelow count plug → AllByRecursion (IsWiredBelow count) (set plugs k plug)
below-set count [] k plug all one = tt
below-set count (p ∷ plugs) zero plug all one = (one, all.1)
below-set count (p ∷ plugs) (suc k) plug all one = (all.0, below-set count plugs k plug all.1 one)

pub below-plugged : (count number : ℕ) (width : ℤ) (plugs : List Plug) (end : WireEnd) → number ≤ count
    → AllByRecursion (IsWiredBelow count) plugs → AllByRecursion (IsWiredBelow count) (plugged number width plugs end)
below-plugged count number width plugs (ends.Node k) le all = all
below-plugged count number width plugs (ends.Port k) le all =
    below-set count plugs k
    (record { port = record (plug_at plugs k).port { wire = number }; width = width; wired = true }) all le

-- a wire that ends at one of them, by what is kept of it
pub plug-step : (number kept : ℕ) (width held : ℤ) (plugs : List Plug) (end at : WireEnd)
    (before after : List CellPort) → kept ≡ capped number → held ≡ width → at ≡ capped_end end
    → before ≡ map port_so_far plugs → after ≡ plugged_ports kept held before at
    → after ≡ map port_so_far (plugged number width plugs end)
plug-step number kept width held plugs end at before after numbered wide ends_at so_far e =
    e ∙ ap (λ n. plugged_ports n held before at) numbered ∙ ap (λ w. plugged_ports (capped number) w before at) wide
    ∙ ap (λ ports. plugged_ports (capped number) width ports at) so_far
    ∙ ap (λ to. plugged_ports (capped number) width (map port_so_far plugs) to) ends_at
    ∙ plugged-so_far number width plugs end

pub mark-step : (number : ℕ) (width : ℤ) (plugs : List Plug) (end at : WireEnd) (before after : List Bool)
    → at ≡ capped_end end
    → before ≡ map (λ (plug : Plug). plug.wired) plugs → after ≡ plugged_marks before at
    → after ≡ map (λ (plug : Plug). plug.wired) (plugged number width plugs end)
mark-step number width plugs end at before after ends_at so_far e =
    e ∙ ap (λ marks. plugged_marks marks at) so_far
    ∙ ap (λ to. plugged_marks (map (λ (plug : Plug). plug.wired) plugs) to) ends_at
    ∙ marked-so_far number width plugs end

-- ---- what paths come to

-- a path that is known, or not
pub unknown_from : (found : Option Found) (kind : StickKind) → found_or_unknown found ≡ Err kind
    → known_name found ≡ Err kind
unknown_from None kind e = cc
unknown_from (Some found) kind e = absurd cc

pub known_from : (found : Option Found) (kept : Found) → found_or_unknown found ≡ Ok kept
    → (it : Found) × (found ≡ Some it) × (kept ≡ kept_found it)
known_from None kept e = absurd cc
known_from (Some found) kept e = (found, refl, cc)

pub node_found : (tech : Tech) (cells : List CheckedCell) (known : CheckedCell) (path : List ℕ) (found : Found)
    → AreBuilt tech cells → IsPath path → IsBuilt tech cells known
    → found_at cells known path ≡ Some found → (node_place : NodePlace) → found ≡ At (Node node_place)
    → IsNodeOf known.nodes path node_place
node_found tech cells known path found are is built e node_place at =
    let law = node_place-found_at tech cells known path node_place are is built (e ∙ ap Some at) in
    record { within = law.0; is = law.1 }

-- what a path comes to lies near
pub near_path : (tech : Tech) (cells : List CheckedCell) (known : CheckedCell) (path : List ℕ) (found : Found)
    → AreBuilt tech cells → IsPath path → IsBuilt tech cells known
    → found_at cells known path ≡ Some found → IsNearFound found
near_path tech cells known path found are is built e =
    near-found tech known.nodes path found built.nodes (node_found tech cells known path found are is built e)

-- ---- wires

-- the wire along a run, and the cell with it
abbrev pub wired_along : Tech → CheckedCell → Layer → Option ℕ → Run → Result CheckedCell StickKind
wired_along tech known layer width run =
    wire_where (are_sides_free known.wires layer run) tech (wired_of known) layer width run
    >>= (λ wire. Ok (with_wire known wire))

pub wire-unknown : (tech : Tech) (cells : List CheckedCell) (known : CheckedCell) (layer : DrawnLayer) (a b : List ℕ)
    (width : Option ℕ) (kind : StickKind)
    → found_or_unknown (found_at cells known a) ≡ Err kind → after_wire tech cells known layer a b width ≡ Err kind
unfolding after_wire
wire-unknown tech cells known layer a b width kind e = rw (unknown_from (found_at cells known a) kind e) refl

wire-by : (tech : Tech) (cells : List CheckedCell) (known : CheckedCell) (layer : DrawnLayer) (a b : List ℕ)
    (width : Option ℕ) (from : Found) (r : Result Found StickKind)
    → found_at cells known a ≡ Some from → known_name (found_at cells known b) ≡ r
    → after_wire tech cells known layer a b width
    ≡ (r >>= (λ to. wire_between tech (wired_of known) known.wires (layer_of layer) from to width
    >>= (λ wire. Ok (with_wire known wire))))
unfolding after_wire
wire-by tech cells known layer a b width from r found e = rw (found, e) refl

pub wire-unknown_end : (tech : Tech) (cells : List CheckedCell) (known : CheckedCell) (layer : DrawnLayer)
    (a b : List ℕ) (width : Option ℕ) (kept : Found) (kind : StickKind)
    → found_or_unknown (found_at cells known a) ≡ Ok kept → found_or_unknown (found_at cells known b) ≡ Err kind
    → after_wire tech cells known layer a b width ≡ Err kind
wire-unknown_end tech cells known layer a b width kept kind known_a e =
    let from = known_from (found_at cells known a) kept known_a in
    wire-by tech cells known layer a b width from.0 (Err kind) from.1 (unknown_from (found_at cells known b) kind e)

-- the wire between two things is that along the run between them
between-run : (tech : Tech) (known : CheckedCell) (layer : Layer) (from to : Found) (width : Option ℕ)
    → (wire_between tech (wired_of known) known.wires layer from to width >>= (λ wire. Ok (with_wire known wire)))
    ≡ (run_of from to >>= wired_along tech known layer width)
unfolding wire_between
between-run tech known layer from to width =
    bind_assoc (run_of from to)
    (λ run. wire_where (are_sides_free known.wires layer run) tech (wired_of known) layer width run)
    (λ wire. Ok (with_wire known wire))

-- the wire between two paths, from what is kept of the things that they come to
pub wire-run : (tech : Tech) (cells : List CheckedCell) (known : CheckedCell) (layer : DrawnLayer) (a b : List ℕ)
    (width : Option ℕ) (from to : Found) (r : Result Run StickKind)
    → AreBuilt tech cells → IsPath a → IsPath b → IsBuilt tech cells known
    → found_or_unknown (found_at cells known a) ≡ Ok from → found_or_unknown (found_at cells known b) ≡ Ok to
    → r ≡ run_of from to
    → (read : Result Run StickKind)
    × (after_wire tech cells known layer a b width ≡ (read >>= wired_along tech known (layer_of layer) width))
    × (r ≡ result_map capped_run read)
    × ((run : Run) → read ≡ Ok run → IsRunBetween known a b run)
wire-run tech cells known layer a b width from to r are path_a path_b built known_a known_b e =
    let low = known_from (found_at cells known a) from known_a in
    let high = known_from (found_at cells known b) to known_b in
    let near_a = near_path tech cells known a low.0 are path_a built low.1 in
    let near_b = near_path tech cells known b high.0 are path_b built high.1 in (
      run_of low.0 high.0,
      wire-by tech cells known layer a b width low.0 (Ok high.0) low.1 (ap known_name high.1)
          ∙ between-run tech known (layer_of layer) low.0 high.0 width,
      e ∙ ap (λ f. run_of f to) low.2 ∙ ap (λ f. run_of (kept_found low.0) f) high.2
          ∙ run_of-kept low.0 high.0 near_a near_b,
      λ run is. run_between_paths known a b low.0 high.0 run
          (λ (t : Terminal) same. at_end_of tech cells known a t are built.names (low.1 ∙ ap Some same))
          (λ (t : Terminal) same. at_end_of tech cells known b t are built.names (high.1 ∙ ap Some same)) is,
    )

-- the wire along a run, from what is kept of the run
pub wire-along : (tech : Tech) (known : CheckedCell) (layer its : Layer) (width : Option ℕ) (real run : Run)
    (are_free : Bool) (wired : List Bool) (r : Result Wire StickKind)
    → run ≡ capped_run real → are_free ≡ are_sides_free known.wires layer real → wired ≡ wired_of known → its ≡ layer
    → r ≡ wire_where are_free tech wired its width run
    → r ≡ result_map capped_wire
    (wire_where (are_sides_free known.wires layer real) tech (wired_of known) layer width real)
wire-along tech known layer its width real run are_free wired r is free held same e =
    rw (e, free, held, same, is)
    (wire_where-capped (are_sides_free known.wires layer real) tech (wired_of known) layer width real)

-- the same cell, whatever is kept of its sides
pub other_sides : (cells : List CheckedCell) (known : CheckedCell) (builder : CellBuilder) (sides : SideMap)
    → IsCellBuilder cells known builder
    → IsCellBuilder cells known (record builder { table = record builder.table { sides = sides } })
other_sides cells known builder sides is =
    record {
      tells = tells_still known builder.table sides builder.table.ports is.tells;
      ports = is.ports;
      wired = is.wired;
      steps = is.steps;
      below = is.below;
    }

-- the fault of a line, passed on
pub with-residual : {X : Type 0} (cells : List CheckedCell) (result : Result X LineFault) (builder : CellBuilder)
    (read : Result CheckedCell StickKind) (kind : StickKind)
    → IsErrAnd result (λ e. e ≡ Kind kind) → read ≡ Err kind → GrowsWith cells result builder read
with-residual cells result builder read kind is refused =
    subst (λ one. GrowsWith cells one builder read) (sym (is_err result (Kind kind) is)) refused

pub with-memory : {X : Type 0} (cells : List CheckedCell) (result : Result X LineFault) (builder : CellBuilder)
    (read : Result CheckedCell StickKind) (next : CheckedCell)
    → IsErrAnd result (λ e. e ≡ OutOfMemory) → read ≡ Ok next → GrowsWith cells result builder read
with-memory cells result builder read next is told =
    subst (λ one. GrowsWith cells one builder read) (sym (is_err result OutOfMemory is)) (next, told)

-- an `Ok` or an `Err` that is seen by view
pub result_map-err : {A B E : Type 0} (view : A → B) (read : Result A E) (kind : E) → result_map view read ≡ Err kind
    → read ≡ Err kind
result_map-err view (Ok x) kind e = absurd cc
result_map-err view (Err k) kind e = cc

pub result_map-ok : {A B E : Type 0} (view : A → B) (read : Result A E) (seen : B) → result_map view read ≡ Ok seen
    → (x : A) × (read ≡ Ok x) × (seen ≡ view x)
result_map-ok view (Ok x) seen e = (x, refl, cc)
result_map-ok view (Err k) seen e = absurd cc

-- ---- limits

abbrev pub limit_of : Bool → Bool → ℤ → NodePlace → NodePlace → Limit
limit_of vertical at_most n low high =
    record { axis = axis_where vertical; a = low.number; b = high.number; at_most = at_most; n = n }

abbrev pub limits_of : CheckedCell → Bool → Bool → ℤ → NodePlace → NodePlace → Result CheckedCell StickKind
limits_of known vertical at_most n low high =
    demand (not (low.number == high.number)) BadLimit
    >>= (λ _. Ok (with_limit known (limit_of vertical at_most n low high)))

pub limit-unknown : (cells : List CheckedCell) (known : CheckedCell) (vertical : Bool) (a b : List ℕ) (at_most : Bool)
    (n : ℤ) (kind : StickKind)
    → found_or_unknown (found_at cells known a) ≡ Err kind → after_limit cells known vertical a b at_most n ≡ Err kind
unfolding after_limit
limit-unknown cells known vertical a b at_most n kind e = rw (unknown_from (found_at cells known a) kind e) refl

limit-by : (cells : List CheckedCell) (known : CheckedCell) (vertical : Bool) (a b : List ℕ) (at_most : Bool) (n : ℤ)
    (from : Found) (r : Result Found StickKind)
    → found_at cells known a ≡ Some from → known_name (found_at cells known b) ≡ r
    → after_limit cells known vertical a b at_most n
    ≡ (r >>= (λ to.
    limited from >>= (λ low. limited to >>= (λ high. limits_of known vertical at_most n low high))))
unfolding after_limit
limit-by cells known vertical a b at_most n from r found e = rw (found, e) refl

pub limit-unknown_end : (cells : List CheckedCell) (known : CheckedCell) (vertical : Bool) (a b : List ℕ)
    (at_most : Bool) (n : ℤ) (kept : Found) (kind : StickKind)
    → found_or_unknown (found_at cells known a) ≡ Ok kept → found_or_unknown (found_at cells known b) ≡ Err kind
    → after_limit cells known vertical a b at_most n ≡ Err kind
limit-unknown_end cells known vertical a b at_most n kept kind known_a e =
    let from = known_from (found_at cells known a) kept known_a in
    limit-by cells known vertical a b at_most n from.0 (Err kind) from.1 (unknown_from (found_at cells known b) kind e)

-- the limit where both of its ends are nodes
pub limit-between : (known : CheckedCell) (vertical at_most : Bool) (n : ℤ) {r s : Result NodePlace StickKind}
    {low high : NodePlace} {same : Bool} → r ≡ Ok low → s ≡ Ok high → (low.number == high.number) ≡ same
    → (r >>= (λ low. s >>= (λ high. limits_of known vertical at_most n low high)))
    ≡ (demand (not same) BadLimit >>= (λ _. Ok (with_limit known (limit_of vertical at_most n low high))))
limit-between known vertical at_most n is_low is_high is_same = rw (is_low, is_high, is_same) refl

-- the limit between two things, from what is kept of the first and the second
pub limit-ends : (tech : Tech) (cells : List CheckedCell) (known : CheckedCell) (vertical : Bool) (a b : List ℕ)
    (at_most : Bool) (n : ℤ) (from to : Found) (r s : Result NodePlace StickKind)
    → AreBuilt tech cells → IsPath a → IsPath b → IsBuilt tech cells known
    → found_or_unknown (found_at cells known a) ≡ Ok from → found_or_unknown (found_at cells known b) ≡ Ok to
    → r ≡ limited from → s ≡ limited to
    → (low high : Result NodePlace StickKind)
    × (after_limit cells known vertical a b at_most n
    ≡ (low >>= (λ low. high >>= (λ high. limits_of known vertical at_most n low high))))
    × (r ≡ result_map capped_place low) × (s ≡ result_map capped_place high)
    × ((p q : NodePlace) → low ≡ Ok p → high ≡ Ok q → (p.number == q.number) ≡ bytes_eq a b)
    × ((p : NodePlace) → low ≡ Ok p → p.number < length known.nodes)
    × ((q : NodePlace) → high ≡ Ok q → q.number < length known.nodes)
limit-ends tech cells known vertical a b at_most n from to r s are path_a path_b built known_a known_b e f =
    let low = known_from (found_at cells known a) from known_a in
    let high = known_from (found_at cells known b) to known_b in
    let near_a = near_path tech cells known a low.0 are path_a built low.1 in
    let near_b = near_path tech cells known b high.0 are path_b built high.1 in (
      limited low.0,
      limited high.0,
      limit-by cells known vertical a b at_most n low.0 (Ok high.0) low.1 (ap known_name high.1),
      e ∙ ap limited low.2 ∙ limited-kept low.0 near_a,
      f ∙ ap limited high.2 ∙ limited-kept high.0 near_b,
      λ p q is_p is_q.
          let at_p = limited_ok low.0 p is_p in
          let at_q = limited_ok high.0 q is_q in
          same_number known.nodes a b p q (node_found tech cells known a low.0 are path_a built low.1 p at_p)
          (node_found tech cells known b high.0 are path_b built high.1 q at_q)
          (λ same. let one : Some (At (Node p)) ≡ Some (At (Node q)) = sym (low.1 ∙ ap Some at_p)
          ∙ ap (found_at cells known) same ∙ high.1 ∙ ap Some at_q in cc),
      λ p is. (node_found tech cells known a low.0 are path_a built low.1 p (limited_ok low.0 p is)).within,
      λ q is. (node_found tech cells known b high.0 are path_b built high.1 q (limited_ok high.0 q is)).within,
    )

-- ---- what is kept of wires and limits is the thing itself, where the cell may be inlined

few_nodes : (known : CheckedCell) → weight_of known ≤ 65536 → length known.nodes ≤ 65536
few_nodes known light = omega (arith, light-cell_of known light)

exact_end : (cell : Cell) (end : WireEnd) → length cell.nodes ≤ 65536 → IsEnd cell end → capped_end end ≡ end
exact_end cell (ends.Node k) few is = ap ends.Node (omega (arith, few, is))
exact_end cell (ends.Port k) few is = refl

pub exact_wire : (known : CheckedCell) (wire : Wire) → weight_of known ≤ 65536 → HasEnds (cell_of known) wire
    → capped_wire wire ≡ wire
exact_wire known wire light is =
    let low = exact_end (cell_of known) wire.low (few_nodes known light) is.low in
    let high = exact_end (cell_of known) wire.high (few_nodes known light) is.high in
    ap (λ (end : WireEnd). record wire { low = end; high = capped_end wire.high }) low
    ∙ ap (λ (end : WireEnd). record wire { low = wire.low; high = end }) high

-- the ends of a wire that is added
pub ends_of_added : (tech : Tech) (cells : List CheckedCell) (known : CheckedCell) (wire : Wire)
    → IsBuilt tech cells (with_wire known wire) → HasEnds (cell_of (with_wire known wire)) wire
ends_of_added tech cells known wire built =
    let is : IsWire tech (cell_of (with_wire known wire)) wire =
    (all_parts (IsWire tech (cell_of (with_wire known wire))) known.wires (wire ∷ []) built.wires).1.0 in
    record { low = is.low; high = is.high }

pub limit-exact : (known next : CheckedCell) (p q low high : NodePlace) (vertical at_most : Bool) (n held : ℤ)
    (axis : Axis2) → weight_of next ≤ 65536 → next ≡ with_limit known (limit_of vertical at_most n p q)
    → p.number < length known.nodes → q.number < length known.nodes → low ≡ capped_place p → high ≡ capped_place q
    → axis ≡ axis_where vertical → held ≡ n
    → with_limit known (record { axis = axis; a = low.number; b = high.number; at_most = at_most; n = held }) ≡ next
limit-exact known next p q low high vertical at_most n held axis light is within there same_low same_high along whole =
    let few : length known.nodes ≤ 65536 =
    omega (arith, few_nodes next light, ap (λ (k : CheckedCell). length k.nodes) is) in
    let a : low.number ≡ p.number = ap (λ (s : NodePlace). s.number) same_low ∙ omega (arith, few, within) in
    let b : high.number ≡ q.number = ap (λ (s : NodePlace). s.number) same_high ∙ omega (arith, few, there) in
    rw (along, a, b, whole) (sym is)

-- the same limit, whose axis and length are told
pub other_limit : (known next : CheckedCell) (a b : ℕ) (at_most : Bool) (axis its : Axis2) (n held : ℤ) → axis ≡ its
    → held ≡ n → with_limit known (record { axis = its; a = a; b = b; at_most = at_most; n = n }) ≡ next
    → with_limit known (record { axis = axis; a = a; b = b; at_most = at_most; n = held }) ≡ next
other_limit known next a b at_most axis its n held along whole is = rw (along, whole) is
