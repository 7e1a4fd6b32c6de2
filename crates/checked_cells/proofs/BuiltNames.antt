-- Names stand for what is there, and still do where there is more; a path that comes to a node is the node's name.
use Rattle.std.proofs.Common.{◌≡◌, ℕ, ◌+◌, ◌<◌, ◌≤◌, Bool, true, false, cond, List, [], ◌∷◌, ◌++◌, length, take, map}
use Rattle.std.proofs.{Common.{Option, Some, None, refl, sym, ap, subst, ◌∙◌, arith}, Math.ListN.get_or-map}
use Rattle.std.proofs.lemmas.List.{get_or_append_left, get_or-take, length-append, length-take}
use Rattle.std.proofs.lemmas.{List.Splits.join_with_byte-slice_split, Slice.Eq.bytes_eq-Decides}
use Rattle.std.specs.{Prelude.{option_map, option_and_then, bytes_eq}, List.{AllByRecursion, join_with_byte}}
use Rattle.rule_table.specs.declared.technology.Tech.{Tech}
use Rattle.stick_lex.specs.Tokens.{names}
use Rattle.cell_model.specs.{declared.cell.Node.Node, Sound.{node_at, no_node}}
use Rattle.checked_cells.specs.declared.names.{Binding.Binding, Terminal.Terminal, Found.{Found, TheVariants.At}}
use Rattle.checked_cells.specs.declared.names.{Found.TheVariants.{AtCopy, Through}, NodePlace.NodePlace, Pin.Pin}
use Rattle.checked_cells.specs.declared.names.Copied.{Copied}
use Rattle.checked_cells.specs.CheckedCell.{CheckedCell, Plug, known_at, plug_at, begun, prefixed, copied_node}
use Rattle.checked_cells.specs.Paths.{Names, named, names_at, place_in_copy, seen_through, walk_on, walk, found_at}
use Rattle.checked_cells.specs.Built.{IsNodePlace, IsPin, IsCopy, IsRight, AreBuilt}
use Rattle.checked_cells.specs.declared.names.Binding.TheVariants as bindings
use Rattle.checked_cells.specs.declared.names.Terminal.TheVariants as terminals

-- ---- more nodes and ports

-- these nodes, and maybe more after them
pub record MoreNodes (old new : List Node) : Type 0 where
  pub long : length old ≤ length new
  pub same : (k : ℕ) → k < length old → node_at new k ≡ node_at old k

-- these ports, with wires or not, and maybe more after them
pub record MorePlugs (old new : List Plug) : Type 0 where
  pub long : length old ≤ length new
  pub side : (k : ℕ) → k < length old → (plug_at new k).port.side ≡ (plug_at old k).port.side
  pub layer : (k : ℕ) → k < length old → (plug_at new k).port.layer ≡ (plug_at old k).port.layer
  pub place : (k : ℕ) → k < length old → (plug_at new k).port.place ≡ (plug_at old k).port.place

-- the same nodes
pub same_nodes : (nodes : List Node) → MoreNodes nodes nodes
same_nodes nodes = record { long = omega arith; same = λ k lt. refl }

-- nodes with more after them
pub more_nodes : (old more : List Node) → MoreNodes old (old ++ more)
more_nodes old more =
    record { long = omega (arith, length-append old more); same = λ k lt. get_or_append_left old more no_node k lt }

-- the same ports
pub same_plugs : (plugs : List Plug) → MorePlugs plugs plugs
same_plugs plugs = record { long = omega arith; side = λ k lt. refl; layer = λ k lt. refl; place = λ k lt. refl }

-- ports with more after them
pub more_plugs : (old more : List Plug) → MorePlugs old (old ++ more)
more_plugs old more =
    let same : (k : ℕ) → k < length old → plug_at (old ++ more) k ≡ plug_at old k =
    λ k lt. get_or_append_left old more _ k lt in
    record {
      long = omega (arith, length-append old more);
      side = λ k lt. ap (λ (plug : Plug). plug.port.side) (same k lt);
      layer = λ k lt. ap (λ (plug : Plug). plug.port.layer) (same k lt);
      place = λ k lt. ap (λ (plug : Plug). plug.port.place) (same k lt);
    }

-- ---- more cells

-- these cells, and maybe more after them
pub record MoreCells (old new : List CheckedCell) : Type 0 where
  pub long : length old ≤ length new
  pub same : (k : ℕ) → k < length old → known_at new k ≡ known_at old k

-- the same cells
pub same_cells : (cells : List CheckedCell) → MoreCells cells cells
same_cells cells = record { long = omega arith; same = λ k lt. refl }

-- the first of some cells, and the rest after them
pub prefix_cells : (cells : List CheckedCell) (n : ℕ) → n ≤ length cells → MoreCells (take n cells) cells
prefix_cells cells n le =
    record {
      long = omega (arith, length-take n cells);
      same = λ k lt.
          sym (get_or-take n cells k (begun []) (omega (arith, length-take n cells)));
    }

-- ---- names

-- a node is still there
pub node_place_kept : (old new : List Node) (name : List ℕ) (node_place : NodePlace) → MoreNodes old new
    → IsNodePlace old name node_place → IsNodePlace new name node_place
node_place_kept old new name node_place more is =
    record { within = omega (arith, more.long, is.within); node = more.same node_place.number is.within ∙ is.node }

-- a port is still there
pub pin_kept : (old new : List Plug) (pin : Pin) → MorePlugs old new → IsPin old pin → IsPin new pin
pin_kept old new pin more is =
    record {
      within = omega (arith, more.long, is.within);
      side = more.side pin.number is.within ∙ is.side;
      layer = more.layer pin.number is.within ∙ is.layer;
      place = more.place pin.number is.within ∙ is.place;
    }

-- a copy is still there
copy_in_more_nodes : (cells : List CheckedCell) (old new : List Node) (name : List ℕ) (copy : Copied)
    → MoreNodes old new → IsCopy cells old name copy → IsCopy cells new name copy
copy_in_more_nodes cells old new name copy more is =
    record {
      earlier = is.earlier;
      closed = is.closed;
      within = omega (arith, more.long, is.within);
      node = λ j lt. more.same (copy.first + j) (omega (arith, is.within, lt)) ∙ is.node j lt;
    }

-- the copied cell is the same one
pub copy_of_same : (used : CheckedCell) (cells : List CheckedCell) (nodes : List Node) (name : List ℕ) (copy : Copied)
    → copy.cell < length cells → known_at cells copy.cell ≡ used
    → used.plugs ≡ [] → copy.first + length used.nodes ≤ length nodes
    → ((j : ℕ) → j < length used.nodes
    → node_at nodes (copy.first + j) ≡ copied_node name copy.col copy.row (node_at used.nodes j))
    → IsCopy cells nodes name copy
copy_of_same used cells nodes name copy earlier e closed within node =
    record {
      earlier = earlier;
      closed = ap (λ (cell : CheckedCell). cell.plugs) e ∙ closed;
      within = subst (λ (cell : CheckedCell). copy.first + length cell.nodes ≤ length nodes) (sym e) within;
      node = subst (λ (cell : CheckedCell). (j : ℕ) → j < length cell.nodes
          → node_at nodes (copy.first + j) ≡ copied_node name copy.col copy.row (node_at cell.nodes j)) (sym e) node;
    }

-- a copy of a cell that has more cells after it
copy_of_more_cells : (old new : List CheckedCell) (nodes : List Node) (name : List ℕ) (copy : Copied)
    → MoreCells old new → IsCopy old nodes name copy → IsCopy new nodes name copy
copy_of_more_cells old new nodes name copy more is =
    copy_of_same (known_at old copy.cell) new nodes name copy (omega (arith, more.long, is.earlier))
    (more.same copy.cell is.earlier) is.closed is.within is.node

-- a name stands for the same where there are more cells, nodes and ports
pub right_kept : (cells others : List CheckedCell) (nodes new_nodes : List Node) (plugs new_plugs : List Plug)
    (name : List ℕ) (binding : Binding) → MoreCells cells others → MoreNodes nodes new_nodes
    → MorePlugs plugs new_plugs → IsRight cells nodes plugs name binding
    → IsRight others new_nodes new_plugs name binding
right_kept cells others nodes new_nodes plugs new_plugs name (bindings.Node node_place) mc mn mp is =
    node_place_kept nodes new_nodes name node_place mn is
right_kept cells others nodes new_nodes plugs new_plugs name (bindings.Port pin) mc mn mp is =
    pin_kept plugs new_plugs pin mp is
right_kept cells others nodes new_nodes plugs new_plugs name (bindings.Copy copy) mc mn mp is =
    copy_of_more_cells cells others new_nodes name copy mc (copy_in_more_nodes cells nodes new_nodes name copy mn is)

-- each name of a table stands for what is there
abbrev pub AreRight : List CheckedCell → List Node → List Plug → Names → Type 0
AreRight cells nodes plugs table = AllByRecursion (λ entry. IsRight cells nodes plugs entry.0 entry.1) table

-- and so does each name
pub all_right_kept : (cells others : List CheckedCell) (nodes new_nodes : List Node) (plugs new_plugs : List Plug)
    (table : Names) → MoreCells cells others → MoreNodes nodes new_nodes
    → MorePlugs plugs new_plugs → AreRight cells nodes plugs table → AreRight others new_nodes new_plugs table
all_right_kept cells others nodes new_nodes plugs new_plugs [] mc mn mp are = tt
all_right_kept cells others nodes new_nodes plugs new_plugs (entry ∷ table) mc mn mp are = (
  right_kept cells others nodes new_nodes plugs new_plugs entry.0 entry.1 mc mn mp are.0,
  all_right_kept cells
      others nodes new_nodes plugs new_plugs table mc mn mp are.1,
)

-- ---- paths

-- the terminal is the one of this name
abbrev pub IsAt : List Node → List Plug → List ℕ → Terminal → Type 0
IsAt nodes plugs name (terminals.Node node_place) = IsNodePlace nodes name node_place
IsAt nodes plugs name (terminals.Port pin) = IsPin plugs pin

-- what is found under a name is right
named_here : (cells : List CheckedCell) (nodes : List Node) (plugs : List Plug) (name other : List ℕ)
    (here found : Binding) (same : Bool) (rest : Option Binding) → bytes_eq name other ≡ same
    → IsRight cells nodes plugs other here → (rest ≡ Some found → IsRight cells nodes plugs name found)
    → cond same (Some here) rest ≡ Some found → IsRight cells nodes plugs name found
named_here cells nodes plugs name other here found true rest e is after h =
    let same : other ≡ name = sym ((bytes_eq-Decides name other).0 e) in
    let this : here ≡ found = cc in
    subst (λ (binding : Binding). IsRight cells nodes plugs name binding) this
    (subst (λ (n : List ℕ). IsRight cells nodes plugs n here) same is)
named_here cells nodes plugs name other here found false rest e is after h = after h

-- what a name stands for is right
pub right_named : (cells : List CheckedCell) (nodes : List Node) (plugs : List Plug) (name : List ℕ) (found : Binding)
    (table : Names) → AreRight cells nodes plugs table → named table name ≡ Some found
    → IsRight cells nodes plugs name found
right_named cells nodes plugs name found [] are h = absurd (cc)
right_named cells nodes plugs name found (entry ∷ table) are h =
    named_here cells nodes plugs name entry.0 entry.1 found (bytes_eq name entry.0) (named table name) refl are.0
    (right_named cells nodes plugs name found table are.1) h

-- what is seen through a copy is right in the cell that holds it
through_copy : (cells : List CheckedCell) (nodes : List Node) (plugs : List Plug) (name rest : List ℕ) (copy : Copied)
    (found : Found) (t : Terminal) → IsCopy cells nodes name copy
    → ((inner : Terminal) → found ≡ At inner
    → IsAt (known_at cells copy.cell).nodes (known_at cells copy.cell).plugs rest
    inner) → seen_through copy found ≡ At t
    → IsAt nodes plugs (prefixed name rest) t
through_copy cells nodes plugs name rest copy (At (terminals.Node node_place)) t is inner e =
    let there : IsNodePlace (known_at cells copy.cell).nodes rest node_place = inner (terminals.Node node_place) refl in
    let same : terminals.Node (place_in_copy copy node_place) ≡ t = cc in
    subst (λ (x : Terminal). IsAt nodes plugs (prefixed name rest) x) same (record {
      within = omega (arith, is.within, there.within);
      node = is.node node_place.number there.within ∙ ap (copied_node name copy.col copy.row) there.node;
    })
through_copy cells nodes plugs name rest copy (At (terminals.Port pin)) t is inner e =
    let there : IsPin (known_at cells copy.cell).plugs pin = inner (terminals.Port pin) refl in
    absurd (omega (arith, there.within, ap {B = ℕ} (λ (ps : List Plug). length ps) is.closed))
through_copy cells nodes plugs name rest copy AtCopy t is inner e = absurd (cc)
through_copy cells nodes plugs name rest copy Through t is inner e = absurd (cc)

-- the same, where nothing may be found
found_through : (cells : List CheckedCell) (nodes : List Node) (plugs : List Plug) (name rest : List ℕ)
    (copy : Copied) (found : Option Found) (t : Terminal) → IsCopy cells nodes name copy
    → ((inner : Terminal) → found ≡ Some (At inner)
    → IsAt (known_at cells copy.cell).nodes (known_at cells copy.cell).plugs rest inner) → option_map (seen_through
    copy) found ≡ Some (At t)
    → IsAt nodes plugs (prefixed name rest) t
found_through cells nodes plugs name rest copy None t is inner e = absurd (cc)
found_through cells nodes plugs name rest copy (Some found) t is inner e =
    through_copy cells nodes plugs name rest copy found t is
    (λ (x : Terminal) (same : found ≡ At x). inner x (ap (λ (f : Found). Some f) same)) (cc)

-- what the names of a path say of the terminal that they come to
abbrev Walks : List CheckedCell → List (List ℕ) → Type 0
Walks cells path = (table : Names) (nodes : List Node) (plugs : List Plug) (t : Terminal)
    → AreRight cells nodes plugs table
    → walk (map (λ cell. cell.names) cells) table path ≡ Some (At t) → IsAt nodes plugs (join_with_byte 46 path) t

-- the names of each cell are right
abbrev pub CellsAreRight : List CheckedCell → Type 0
CellsAreRight cells = (k : ℕ) → k < length cells
    → AreRight cells (known_at cells k).nodes (known_at cells k).plugs (known_at cells k).names

-- what is found after a thing is right
after_binding : (cells : List CheckedCell) (nodes : List Node) (plugs : List Plug) (name : List ℕ)
    (path : List (List ℕ)) (binding : Binding) (t : Terminal) → CellsAreRight cells → Walks cells path
    → IsRight cells nodes plugs name binding
    → walk_on binding path
    (λ k. walk (map (λ cell. cell.names) cells) (names_at (map (λ cell. cell.names) cells) k) path) ≡ Some (At t)
    → IsAt nodes plugs (join_with_byte 46 (name ∷ path)) t
after_binding cells nodes plugs name [] (bindings.Node node_place) t all on is e =
    let same : terminals.Node node_place ≡ t = cc in subst (λ (x : Terminal). IsAt nodes plugs name x) same is
after_binding cells nodes plugs name (next ∷ path) (bindings.Node node_place) t all on is e = absurd (cc)
after_binding cells nodes plugs name [] (bindings.Port pin) t all on is e =
    let same : terminals.Port pin ≡ t = cc in subst (λ (x : Terminal). IsAt nodes plugs name x) same is
after_binding cells nodes plugs name (next ∷ path) (bindings.Port pin) t all on is e = absurd (cc)
after_binding cells nodes plugs name [] (bindings.Copy copy) t all on is e = absurd (cc)
after_binding cells nodes plugs name (next ∷ path) (bindings.Copy copy) t all on is e =
    let tables : List Names = map (λ (cell : CheckedCell). cell.names) cells in
    let its_names : names_at tables copy.cell ≡ (known_at cells copy.cell).names =
    get_or-map (λ (cell : CheckedCell). cell.names) cells copy.cell (begun []) in
    found_through cells nodes plugs name (join_with_byte 46 (next ∷ path)) copy
    (walk tables (names_at tables copy.cell) (next ∷ path)) t is
    (λ (inner : Terminal) (came : walk tables (names_at tables copy.cell) (next ∷ path) ≡ Some (At inner)).
    on (known_at cells copy.cell).names (known_at cells copy.cell).nodes (known_at cells copy.cell).plugs inner
    (all copy.cell is.earlier)
    (subst (λ (names : Names). walk tables names (next ∷ path) ≡ Some (At inner)) its_names came))
    e

-- what is found after a name is right
under_name : (cells : List CheckedCell) (nodes : List Node) (plugs : List Plug) (name : List ℕ) (path : List (List ℕ))
    (binding : Option Binding) (t : Terminal) → CellsAreRight cells → Walks cells path
    → ((found : Binding) → binding ≡ Some found → IsRight cells nodes plugs name found)
    → option_and_then
    (λ found.
    walk_on found path
    (λ k. walk (map (λ cell. cell.names) cells) (names_at (map (λ cell. cell.names) cells) k)
    path)) binding ≡ Some (At t)
    → IsAt nodes plugs (join_with_byte 46 (name ∷ path)) t
under_name cells nodes plugs name path None t all on right e = absurd (cc)
under_name cells nodes plugs name path (Some binding) t all on right e =
    after_binding cells nodes plugs name path binding t all on (right binding refl) e

-- what is found after the names of a path is right
walked : (cells : List CheckedCell) (path : List (List ℕ)) → CellsAreRight cells → Walks cells path
walked cells [] all table nodes plugs t are e = absurd (cc)
walked cells (name ∷ path) all table nodes plugs t are e =
    under_name cells nodes plugs name path (named table name) t all (walked cells path all)
    (λ (found : Binding) (h : named table name ≡ Some found).
    right_named cells nodes plugs name found table are h) e

-- the names of the cells of a design are right
pub cells_are_right : (tech : Tech) (cells : List CheckedCell) → AreBuilt tech cells → CellsAreRight cells
cells_are_right tech cells are k lt =
    all_right_kept (take k cells) cells (known_at cells k).nodes (known_at cells k).nodes (known_at cells k).plugs
    (known_at cells k).plugs (known_at cells k).names
    (prefix_cells cells k (omega arith)) (same_nodes (known_at cells k).nodes) (same_plugs (known_at cells k).plugs)
    (are.built k lt).names

-- the terminal that a path comes to, whose name is the path
pub at_end_of : (tech : Tech) (cells : List CheckedCell) (known : CheckedCell) (path : List ℕ) (t : Terminal)
    → AreBuilt tech cells → AreRight cells known.nodes known.plugs known.names
    → found_at cells known path ≡ Some (At t) → IsAt known.nodes known.plugs path t
unfolding found_at
at_end_of tech cells known path t are right e =
    subst (λ (name : List ℕ). IsAt known.nodes known.plugs name t) (join_with_byte-slice_split 46 path)
    (walked cells (names path) (cells_are_right tech cells are) known.names known.nodes known.plugs t right e)
