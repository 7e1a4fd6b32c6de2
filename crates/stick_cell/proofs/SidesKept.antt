-- The sides that are kept tell of a cell's wires after each form of line.
use Rattle.std.proofs.Common.{◌≡◌, ℕ, ◌+◌, ◌<◌, ◌==◌, Bool, true, false, List, [], ◌∷◌, ◌++◌, length, map, Option, Some}
use Rattle.std.proofs.{Common.{None, refl, sym, ap, subst, ◌∙◌, arith}, Math.Bool.{or-true, or-false}}
use Rattle.std.proofs.lemmas.{Bool.{false_from_ne_true, Decides.same_from_decides}, List.Folds.list_any-append}
use Rattle.std.proofs.lemmas.{List.Splits.{join_with_byte-slice_split, length-slice_split}, Slice.Eq.bytes_eq-Decides}
use Rattle.std.specs.{Prelude.{IsTrue, ◌&&◌, ◌||◌, bytes_eq}, List.{AllByRecursion, list_any, join_with_byte}}
use Rattle.rule_table.specs.declared.{technology.Tech.Tech, classes.Layer.{Layer, TheVariants.Metal}}
use Rattle.rule_table.specs.declared.classes.Layer.TheVariants as layers
use Rattle.cell_model.specs.declared.cell.{Axis2.{Axis2, TheVariants.{Across, Up}}, Node.Node, WireEnd.WireEnd}
use Rattle.cell_model.specs.{declared.cell.{Wire.Wire, Cell.Cell}, Wiring.{is_same_axis, is_same_layer}, Sound.node_at}
use Rattle.cell_model.specs.Sound.{IsEnd, IsWire}
use Rattle.stick_lex.specs.Tokens.{names}
use Rattle.stick_text.specs.Writable.{IsName}
use Rattle.cell_model.specs.declared.cell.WireEnd.TheVariants as ends
use Rattle.checked_cells.specs.declared.names.{Binding.Binding, Copied.Copied, Terminal.Terminal}
use Rattle.checked_cells.specs.CheckedCell.{CheckedCell, Plug, begun, cell_of, known_at, with_wire, prefixed}
use Rattle.checked_cells.specs.{CheckedCell.{copied_node, copied_end, copied_wire}, Paths.{Names, named, copy_of}}
use Rattle.checked_cells.specs.{Checks.is_fresh, Wires.{is_buried, end_of}, Sides.{is_buried_at, leaves_at, is_left}}
use Rattle.checked_cells.specs.Sides.{is_left_in, is_left_inside, is_buried_end, is_same_side, has, none_taken, TakenAt}
use Rattle.checked_cells.{specs.Sides.{taken_at, IsMarkedIf, AreSidesOf}, proofs.BuiltNames.{MoreNodes, IsAt}}
use Rattle.checked_cells.proofs.PathsApart.{names_prefixed, rest_same, none_from, named_other, named_new}
use Rattle.checked_cells.proofs.SideMarks.{marked_if}
use Rattle.checked_cells.specs.declared.names.Binding.TheVariants as bindings
use Rattle.checked_cells.specs.declared.names.Terminal.TheVariants as terminals

-- ---- tests

or_assoc : (a b c : Bool) → ((a || b) || c) ≡ (a || (b || c))
or_assoc true b c = refl
or_assoc false b c = refl

pub and_false : (b : Bool) → (b && false) ≡ false
and_false true = refl
and_false false = refl

-- tests that agree on each element
any_same : {X : Type 0} (P : X → Type 0) (test other : X → Bool) → ((x : X) → P x → test x ≡ other x) → (xs : List X)
    → AllByRecursion P xs → list_any test xs ≡ list_any other xs
any_same P test other same [] are = refl
any_same P test other same (x ∷ xs) are = ap (λ (b : Bool). b || list_any test xs) (same x are.0)
    ∙ ap (λ (b : Bool). other x || b) (any_same P test other same xs are.1)

any_none : {X : Type 0} (test : X → Bool) → ((x : X) → test x ≡ false) → (xs : List X) → list_any test xs ≡ false
any_none test none [] = refl
any_none test none (x ∷ xs) = ap (λ (b : Bool). b || list_any test xs) (none x) ∙ any_none test none xs

any_map : {X Y : Type 0} (test : Y → Bool) (f : X → Y) (xs : List X)
    → list_any test (map f xs) ≡ list_any (λ x. test (f x)) xs
any_map test f [] = refl
any_map test f (x ∷ xs) = ap (λ (b : Bool). test (f x) || b) (any_map test f xs)

-- ---- more nodes

buried_at_more : (nodes more : List Node) (path : List ℕ) (end : WireEnd) (cell : Cell) → cell.nodes ≡ nodes
    → MoreNodes nodes more → IsEnd cell end → is_buried_at more path end ≡ is_buried_at nodes path end
buried_at_more nodes more path (ends.Node k) cell its new is =
    ap (λ (node : Node). is_buried node.kind && bytes_eq path node.name)
    (new.same k (subst (λ (ns : List Node). k < length ns) its is))
buried_at_more nodes more path (ends.Port k) cell its new is = refl

leaves_more : (tech : Tech) (cell : Cell) (more : List Node) (path : List ℕ) (layer : Layer) (along : Axis2)
    (is_low : Bool) → MoreNodes cell.nodes more → (wire : Wire) → IsWire tech cell wire
    → leaves_at more path layer along is_low wire ≡ leaves_at cell.nodes path layer along is_low wire
leaves_more tech cell more path layer along true new wire is =
    ap (λ (b : Bool). is_same_layer wire.layer layer && (is_same_axis wire.along along && b))
    (buried_at_more cell.nodes more path wire.low cell refl new is.low)
leaves_more tech cell more path layer along false new wire is =
    ap (λ (b : Bool). is_same_layer wire.layer layer && (is_same_axis wire.along along && b))
    (buried_at_more cell.nodes more path wire.high cell refl new is.high)

-- the old wires leave the same contacts
left_more : (tech : Tech) (known : CheckedCell) (more : List Node) (path : List ℕ) (layer : Layer) (along : Axis2)
    (is_low : Bool) → MoreNodes known.nodes more
    → AllByRecursion (IsWire tech (cell_of known)) known.wires
    → list_any (leaves_at more path layer along is_low) known.wires ≡ is_left known path layer along is_low
left_more tech known more path layer along is_low new are =
    any_same (IsWire tech (cell_of known)) (leaves_at more path layer along is_low)
    (leaves_at known.nodes path layer along is_low)
    (leaves_more tech (cell_of known) more path layer along is_low new) known.wires are

-- ---- more names

-- the first name of a path is the new one, which stands for a copy in which the rest is left
abbrev is_left_new : List CheckedCell → List ℕ → Binding → List (List ℕ) → Layer → Axis2 → Bool → Bool
is_left_new cells name binding [] layer along is_low = false
is_left_new cells name binding (first ∷ []) layer along is_low = false
is_left_new cells name binding (first ∷ next ∷ path) layer along is_low =
    bytes_eq first name && is_left_in cells (copy_of (Some binding)) (join_with_byte 46 (next ∷ path)) layer along
    is_low

left_named : (cells : List CheckedCell) (table : Names) (name : List ℕ) (binding : Binding) (first rest : List ℕ)
    (layer : Layer) (along : Axis2) (is_low : Bool) → IsTrue (is_fresh table name)
    → is_left_in cells (copy_of (named (table ++ (name, binding) ∷ []) first)) rest layer along is_low
    ≡ (is_left_in cells (copy_of (named table first)) rest layer along is_low || bytes_eq first name
    && is_left_in cells (copy_of (Some binding)) rest layer along is_low)
left_named cells table name binding first rest layer along is_low fresh = by (bytes_eq first name) refl
  where
    left : Option Binding → Bool
    left found = is_left_in cells (copy_of found) rest layer along is_low

    by : (b : Bool) → bytes_eq first name ≡ b
        → left (named (table ++ (name, binding) ∷ []) first) ≡ (left (named table first) || b && left (Some binding))
    by true same =
        let one : first ≡ name = (bytes_eq-Decides first name).0 same in
        let none : named table name ≡ None = none_from (named table name) fresh in
        ap (λ (text : List ℕ). left (named (table ++ (name, binding) ∷ []) text)) one
        ∙ ap left (named_new table name binding none)
        ∙ ap (λ (found : Option Binding). left found || left (Some binding)) (sym (ap (named table) one ∙ none))
    by false apart = ap left (named_other table name binding first apart) ∙ sym (or-false (left (named table first)))

left_inside_named : (cells : List CheckedCell) (table : Names) (name : List ℕ) (binding : Binding)
    (parts : List (List ℕ)) (layer : Layer) (along : Axis2) (is_low : Bool) → IsTrue (is_fresh table name)
    → is_left_inside cells (table ++ (name, binding) ∷ []) parts layer along is_low
    ≡ (is_left_inside cells table parts layer along is_low
    || is_left_new cells name binding parts layer along is_low)
left_inside_named cells table name binding [] layer along is_low fresh = refl
left_inside_named cells table name binding (first ∷ []) layer along is_low fresh = refl
left_inside_named cells table name binding (first ∷ next ∷ path) layer along is_low fresh =
    left_named cells table name binding first (join_with_byte 46 (next ∷ path)) layer along is_low fresh

-- with a new name, the wires that leave it inside are those of the copy that it stands for
pub sides_added : (cells : List CheckedCell) (known next : CheckedCell) (entries : TakenAt) (name : List ℕ)
    (binding : Binding) → IsTrue (is_fresh known.names name) → next.names ≡ known.names ++ (name, binding) ∷ []
    → ((path : List ℕ) (layer : Layer) (along : Axis2) (is_low : Bool)
    → is_left next path layer along is_low
    ≡ (is_left known path layer along is_low || is_left_new cells name binding (names path) layer along is_low))
    → AreSidesOf cells known entries → AreSidesOf cells next entries
sides_added cells known next entries name binding fresh its left are = λ path layer along is_low no_metal.
    let own : Bool = has (taken_at entries path) layer along is_low in
    let new : Bool = is_left_new cells name binding (names path) layer along is_low in
    ap (λ (table : Names). own || is_left_inside cells table (names path) layer along is_low) its
    ∙ ap (λ (b : Bool). own || b)
    (left_inside_named cells known.names name binding (names path) layer along is_low fresh)
    ∙ sym (or_assoc own (is_left_inside cells known.names (names path) layer along is_low) new)
    ∙ ap (λ (b : Bool). b || new) (are path layer along is_low no_metal)
    ∙ sym (left path layer along is_low)

-- a thing that is no copy
new_no_copy : (cells : List CheckedCell) (name : List ℕ) (binding : Binding) (parts : List (List ℕ)) (layer : Layer)
    (along : Axis2) (is_low : Bool) → copy_of (Some binding) ≡ None
    → is_left_new cells name binding parts layer along is_low ≡ false
new_no_copy cells name binding [] layer along is_low no_copy = refl
new_no_copy cells name binding (first ∷ []) layer along is_low no_copy = refl
new_no_copy cells name binding (first ∷ next ∷ path) layer along is_low no_copy =
    ap (λ (copy : Option Copied). bytes_eq first name && is_left_in cells copy (join_with_byte 46 (next ∷ path)) layer
    along is_low) no_copy ∙ and_false (bytes_eq first name)

-- a node or a port
pub sides_with : (tech : Tech) (cells : List CheckedCell) (known next : CheckedCell) (entries : TakenAt)
    (name : List ℕ) (binding : Binding) → IsTrue (is_fresh known.names name) → copy_of (Some binding) ≡ None
    → next.names ≡ known.names ++ (name, binding) ∷ [] → next.wires ≡ known.wires → MoreNodes known.nodes next.nodes
    → AllByRecursion (IsWire tech (cell_of known)) known.wires
    → AreSidesOf cells known entries → AreSidesOf cells next entries
sides_with tech cells known next entries name binding fresh no_copy its same new wires are =
    sides_added cells known next entries name binding fresh its (λ path layer along is_low.
    ap (list_any (leaves_at next.nodes path layer along is_low)) same
    ∙ left_more tech known next.nodes path layer along is_low new wires
    ∙ sym (ap (λ (b : Bool). is_left known path layer along is_low || b)
    (new_no_copy cells name binding (names path) layer along is_low no_copy)
    ∙ or-false (is_left known path layer along is_low))) are

-- ---- a copy

-- the names after one name
same_rest : (name a b : List ℕ) → bytes_eq (prefixed name a) (prefixed name b) ≡ bytes_eq a b
same_rest name a b =
    let outer = bytes_eq-Decides (prefixed name a) (prefixed name b) in
    same_from_decides (bytes_eq (prefixed name a) (prefixed name b)) (bytes_eq a b)
    ((λ e. rest_same name a b (outer.0 e)), (λ e. outer.1 (ap (prefixed name) e))) (bytes_eq-Decides a b)

-- an end of the copied wire, at a path into the copy
buried_copied : (used : Cell) (nodes : List Node) (name rest : List ℕ) (first col row : ℕ) (end : WireEnd)
    → ((j : ℕ) → j < length used.nodes → node_at nodes (first + j) ≡ copied_node name col row (node_at used.nodes j))
    → IsEnd used end
    → is_buried_at nodes (prefixed name rest) (copied_end first end) ≡ is_buried_at used.nodes rest end
buried_copied used nodes name rest first col row (ends.Node j) at is =
    ap (λ (node : Node). is_buried node.kind && bytes_eq (prefixed name rest) node.name) (at j is)
    ∙ ap (λ (b : Bool). is_buried (node_at used.nodes j).kind && b) (same_rest name rest (node_at used.nodes j).name)
buried_copied used nodes name rest first col row (ends.Port j) at is = refl

-- and at another path
buried_elsewhere : (used : Cell) (nodes : List Node) (name path : List ℕ) (first col row : ℕ) (end : WireEnd)
    → ((j : ℕ) → j < length used.nodes → node_at nodes (first + j) ≡ copied_node name col row (node_at used.nodes j))
    → ((rest : List ℕ) → path ≡ prefixed name rest → ⊥) → IsEnd used end
    → is_buried_at nodes path (copied_end first end) ≡ false
buried_elsewhere used nodes name path first col row (ends.Node j) at never is =
    ap (λ (node : Node). is_buried node.kind && bytes_eq path node.name) (at j is)
    ∙ ap (λ (b : Bool). is_buried (node_at used.nodes j).kind && b)
    (false_from_ne_true (bytes_eq path (prefixed name (node_at used.nodes j).name))
    (λ e. never (node_at used.nodes j).name
    ((bytes_eq-Decides path (prefixed name (node_at used.nodes j).name)).0 e)))
    ∙ and_false (is_buried (node_at used.nodes j).kind)
buried_elsewhere used nodes name path first col row (ends.Port j) at never is = refl

-- the wires of the copy leave a path as those of the used cell leave the rest of it
copied_left : (tech : Tech) (used : CheckedCell) (nodes : List Node) (name : List ℕ) (first col row : ℕ)
    (path : List ℕ) (layer : Layer) (along : Axis2) (is_low : Bool)
    → ((j : ℕ) → j < length used.nodes → node_at nodes (first + j) ≡ copied_node name col row (node_at used.nodes j))
    → AllByRecursion (IsWire tech (cell_of used)) used.wires
    → (rest : List ℕ) → path ≡ prefixed name rest
    → list_any (λ wire. leaves_at nodes path layer along is_low (copied_wire first wire)) used.wires
    ≡ is_left used rest layer along is_low
copied_left tech used nodes name first col row path layer along is_low at are rest is =
    ap (λ (text : List ℕ). list_any (λ wire. leaves_at nodes text layer along is_low (copied_wire first wire))
    used.wires) is
    ∙ any_same (IsWire tech (cell_of used))
    (λ wire. leaves_at nodes (prefixed name rest) layer along is_low (copied_wire first wire))
    (leaves_at used.nodes rest layer along is_low) (same is_low) used.wires are
  where
    same : (low : Bool) (wire : Wire) → IsWire tech (cell_of used) wire
        → leaves_at nodes (prefixed name rest) layer along low (copied_wire first wire)
        ≡ leaves_at used.nodes rest layer along low wire
    same true wire is = ap (λ (b : Bool). is_same_layer wire.layer layer && (is_same_axis wire.along along && b))
        (buried_copied (cell_of used) nodes name rest first col row wire.low at is.low)
    same false wire is = ap (λ (b : Bool). is_same_layer wire.layer layer && (is_same_axis wire.along along && b))
        (buried_copied (cell_of used) nodes name rest first col row wire.high at is.high)

copied_apart : (tech : Tech) (used : CheckedCell) (nodes : List Node) (name : List ℕ) (first col row : ℕ)
    (path : List ℕ) (layer : Layer) (along : Axis2) (is_low : Bool)
    → ((j : ℕ) → j < length used.nodes → node_at nodes (first + j) ≡ copied_node name col row (node_at used.nodes j))
    → AllByRecursion (IsWire tech (cell_of used)) used.wires
    → ((rest : List ℕ) → path ≡ prefixed name rest → ⊥)
    → list_any (λ wire. leaves_at nodes path layer along is_low (copied_wire first wire)) used.wires ≡ false
copied_apart tech used nodes name first col row path layer along is_low at are never =
    any_same (IsWire tech (cell_of used)) (λ wire. leaves_at nodes path layer along is_low (copied_wire first wire))
    (λ wire. false) (none is_low) used.wires are ∙ any_none (λ wire. false) (λ wire. refl) used.wires
  where
    off : (a b c : Bool) → c ≡ false → (a && (b && c)) ≡ false
    off true true c e = e
    off true false c e = refl
    off false b c e = refl

    none : (low : Bool) (wire : Wire) → IsWire tech (cell_of used) wire
        → leaves_at nodes path layer along low (copied_wire first wire) ≡ false
    none true wire is = off (is_same_layer wire.layer layer) (is_same_axis wire.along along)
        (is_buried_at nodes path (copied_end first wire.low))
        (buried_elsewhere (cell_of used) nodes name path first col row wire.low at never is.low)
    none false wire is = off (is_same_layer wire.layer layer) (is_same_axis wire.along along)
        (is_buried_at nodes path (copied_end first wire.high))
        (buried_elsewhere (cell_of used) nodes name path first col row wire.high at never is.high)

one_name : (name first : List ℕ) (rest others : List (List ℕ))
    → ◌≡◌ {A = List (List ℕ)} (name ∷ rest) (first ∷ others) → name ≡ first
one_name name first rest others e = cc

-- the wires of a copy leave what the new name tells
copied_new : (tech : Tech) (cells : List CheckedCell) (nodes : List Node) (name : List ℕ) (copy : Copied)
    (path : List ℕ) (parts : List (List ℕ)) (layer : Layer) (along : Axis2) (is_low : Bool) → IsName name
    → ((j : ℕ) → j < length (known_at cells copy.cell).nodes
    → node_at nodes (copy.first + j) ≡ copied_node name copy.col copy.row
    (node_at (known_at cells copy.cell).nodes j))
    → AllByRecursion (IsWire tech (cell_of (known_at cells copy.cell))) (known_at cells copy.cell).wires
    → names path ≡ parts
    → list_any (λ wire. leaves_at nodes path layer along is_low (copied_wire copy.first wire))
    (known_at cells copy.cell).wires ≡ is_left_new cells name (bindings.Copy copy) parts layer along is_low
copied_new tech cells nodes name copy path [] layer along is_low is at are split =
    copied_apart tech (known_at cells copy.cell) nodes name copy.first copy.col copy.row path layer along is_low at are
    (λ rest e. let both_ways : name ∷ names rest ≡ [] = sym (ap names e ∙ names_prefixed name rest is) ∙ split in cc)
copied_new tech cells nodes name copy path (first ∷ []) layer along is_low is at are split =
    copied_apart tech (known_at cells copy.cell) nodes name copy.first copy.col copy.row path layer along is_low at
    are (λ rest e. single rest (sym (ap names e ∙ names_prefixed name rest is) ∙ split))
  where
    some_name : (rest : List ℕ) → names rest ≡ [] → ⊥
    some_name rest e =
        omega (arith, length-slice_split (λ b. b == 46) rest, ap (λ (parts : List (List ℕ)). length parts) e)

    single : (rest : List ℕ) → ◌≡◌ {A = List (List ℕ)} (name ∷ names rest) (first ∷ []) → ⊥
    single rest e = some_name rest cc
copied_new tech cells nodes name copy path (first ∷ next ∷ more) layer along is_low is at are split =
    by (bytes_eq first name) refl
  where
    used : CheckedCell
    used = known_at cells copy.cell

    rest : List ℕ
    rest = join_with_byte 46 (next ∷ more)

    whole : path ≡ prefixed first rest
    whole = sym (join_with_byte-slice_split 46 path) ∙ ap (join_with_byte 46) split

    by : (b : Bool) → bytes_eq first name ≡ b
        → list_any (λ wire. leaves_at nodes path layer along is_low (copied_wire copy.first wire)) used.wires
        ≡ (b && is_left used rest layer along is_low)
    by true same =
        copied_left tech used nodes name copy.first copy.col copy.row path layer along is_low at are rest
        (whole ∙ ap (λ (text : List ℕ). prefixed text rest) ((bytes_eq-Decides first name).0 same))
    by false apart =
        copied_apart tech used nodes name copy.first copy.col copy.row path layer along is_low at are
        (λ other e.
        let head : name ≡ first =
        one_name name first (names other) (next ∷ more)
        (sym (ap names e ∙ names_prefixed name other is) ∙ split) in
        let same : bytes_eq first name ≡ true = (bytes_eq-Decides first name).1 (sym head) in
        cc)

-- a copy
pub sides_copy : (tech : Tech) (cells : List CheckedCell) (known next : CheckedCell) (entries : TakenAt)
    (name : List ℕ) (copy : Copied) → IsName name → IsTrue (is_fresh known.names name)
    → next.names ≡ known.names ++ (name, bindings.Copy copy) ∷ []
    → next.wires ≡ known.wires ++ map (copied_wire copy.first) (known_at cells copy.cell).wires
    → MoreNodes known.nodes next.nodes
    → ((j : ℕ) → j < length (known_at cells copy.cell).nodes
    → node_at next.nodes (copy.first + j) ≡ copied_node name copy.col copy.row
    (node_at (known_at cells copy.cell).nodes j))
    → AllByRecursion (IsWire tech (cell_of known)) known.wires
    → AllByRecursion (IsWire tech (cell_of (known_at cells copy.cell))) (known_at cells copy.cell).wires
    → AreSidesOf cells known entries → AreSidesOf cells next entries
sides_copy tech cells known next entries name copy is fresh its more new at wires of_used are =
    sides_added cells known next entries name (bindings.Copy copy) fresh its (λ path layer along is_low.
    let test : Wire → Bool = leaves_at next.nodes path layer along is_low in
    let copied : List Wire = map (copied_wire copy.first) (known_at cells copy.cell).wires in
    ap (list_any test) more ∙ list_any-append test known.wires copied
    ∙ ap (λ (b : Bool). b || list_any test copied) (left_more tech known next.nodes path layer along is_low new wires)
    ∙ ap (λ (b : Bool). is_left known path layer along is_low || b)
    (any_map test (copied_wire copy.first) (known_at cells copy.cell).wires
    ∙ copied_new tech cells next.nodes name copy path (names path) layer along is_low is at of_used refl)) are

-- ---- a wire

-- the terminal of a name is left by a wire that ends there
buried_end : (nodes : List Node) (plugs : List Plug) (path name : List ℕ) (t : Terminal) → IsAt nodes plugs name t
    → is_buried_at nodes path (end_of t) ≡ (is_buried_end t && bytes_eq path name)
buried_end nodes plugs path name (terminals.Node node_place) is =
    ap (λ (node : Node). is_buried node.kind && bytes_eq path node.name) is.node
buried_end nodes plugs path name (terminals.Port pin) is = refl

-- a mark on the side at which the wire leaves, and one on the other
on_side : (b e s a : Bool) → (b && (e && (s && (a && true)))) ≡ (s && (a && (b && e)))
on_side true true true true = refl
on_side true true true false = refl
on_side true true false a = refl
on_side true false true true = refl
on_side true false true false = refl
on_side true false false a = refl
on_side false e true true = refl
on_side false e true false = refl
on_side false e false a = refl

off_side : (b e s a : Bool) → (b && (e && (s && (a && false)))) ≡ false
off_side true true true true = refl
off_side true true true false = refl
off_side true true false a = refl
off_side true false s a = refl
off_side false e s a = refl

-- what is kept with two marks, beside what is inside
with_marks : (own low high inside left new : Bool) → (own || inside) ≡ left → (low || high) ≡ new
    → (((own || low) || high) || inside) ≡ (left || (new || false))
with_marks true low high inside left new is its = ap (λ (b : Bool). b || (new || false)) is
with_marks false true high inside left new is its =
    sym (ap (λ (b : Bool). left || (b || false)) (sym its) ∙ or-true left)
with_marks false false true inside left new is its =
    sym (ap (λ (b : Bool). left || (b || false)) (sym its) ∙ or-true left)
with_marks false false false inside left new is its = is
    ∙ sym (ap (λ (b : Bool). left || (b || false)) (sym its) ∙ or-false left)

-- one more wire, which is marked at both ends
pub sides_wire : (cells : List CheckedCell) (known : CheckedCell) (wire : Wire) (entries one two : TakenAt)
    (low high : List ℕ) (s t : Terminal)
    → IsAt known.nodes known.plugs low s → IsAt known.nodes known.plugs high t → wire.low ≡ end_of s
    → wire.high ≡ end_of t
    → IsMarkedIf (is_buried_end s) entries one low wire.layer wire.along true
    → IsMarkedIf (is_buried_end t) one two high wire.layer wire.along false
    → AreSidesOf cells known entries → AreSidesOf cells (with_wire known wire) two
sides_wire cells known wire entries one two low high s t at_low at_high its_low its_high first second are =
    λ path layer along is_low no_metal.
    let own : Bool = has (taken_at entries path) layer along is_low in
    let inside : Bool = is_left_inside cells known.names (names path) layer along is_low in
    let mark : Bool → List ℕ → Bool → Bool =
    λ is name side.
    is && (bytes_eq path name && (is_same_layer wire.layer layer && is_same_side wire.along side along is_low)) in
    ap (λ (b : Bool). b || inside)
    (marked_if (is_buried_end t) one two high wire.layer wire.along false second path layer along is_low no_metal
    ∙ ap (λ (b : Bool). b || mark (is_buried_end t) high false)
    (marked_if (is_buried_end s) entries one low wire.layer wire.along true first path layer along is_low
    no_metal))
    ∙ with_marks own (mark (is_buried_end s) low true) (mark (is_buried_end t) high false) inside
    (is_left known path layer along is_low) (leaves_at known.nodes path layer along is_low wire)
    (are path layer along is_low no_metal) (new path layer along is_low)
    ∙ sym (list_any-append (leaves_at known.nodes path layer along is_low) known.wires (wire ∷ []))
  where
    new : (path : List ℕ) (layer : Layer) (along : Axis2) (is_low : Bool)
        → (is_buried_end s
        && (bytes_eq path low && (is_same_layer wire.layer layer && is_same_side wire.along true along is_low))
        || is_buried_end t
        && (bytes_eq path high && (is_same_layer wire.layer layer && is_same_side wire.along false along is_low)))
        ≡ leaves_at known.nodes path layer along is_low wire
    new path layer along true =
        ap (λ (b : Bool). b || is_buried_end t
        && (bytes_eq path high && (is_same_layer wire.layer layer && (is_same_axis wire.along along && false))))
        (on_side (is_buried_end s) (bytes_eq path low) (is_same_layer wire.layer layer) (is_same_axis wire.along along))
        ∙ ap (λ (b : Bool). is_same_layer wire.layer layer
        && (is_same_axis wire.along along && (is_buried_end s && bytes_eq path low)) || b)
        (off_side (is_buried_end t) (bytes_eq path high) (is_same_layer wire.layer layer)
        (is_same_axis wire.along along))
        ∙ or-false
        (is_same_layer wire.layer layer
        && (is_same_axis wire.along along && (is_buried_end s && bytes_eq path low)))
        ∙ ap (λ (b : Bool). is_same_layer wire.layer layer && (is_same_axis wire.along along && b))
        (sym (ap (is_buried_at known.nodes path) its_low ∙ buried_end known.nodes known.plugs path low s at_low))
    new path layer along false =
        ap (λ (b : Bool). b || is_buried_end t
        && (bytes_eq path high && (is_same_layer wire.layer layer && (is_same_axis wire.along along && true))))
        (off_side (is_buried_end s) (bytes_eq path low) (is_same_layer wire.layer layer)
        (is_same_axis wire.along along))
        ∙ on_side (is_buried_end t) (bytes_eq path high) (is_same_layer wire.layer layer)
        (is_same_axis wire.along along)
        ∙ ap (λ (b : Bool). is_same_layer wire.layer layer && (is_same_axis wire.along along && b))
        (sym (ap (is_buried_at known.nodes path) its_high
        ∙ buried_end known.nodes known.plugs path high t at_high))

-- a cell before its first line
pub sides_none : (cells : List CheckedCell) (name : List ℕ) (entries : TakenAt) → entries ≡ []
    → AreSidesOf cells (begun name) entries
sides_none cells name entries is = λ path layer along is_low no_metal.
    ap (λ (es : TakenAt). has (taken_at es path) layer along is_low
    || is_left_inside cells [] (names path) layer along is_low) is ∙ none (names path) layer along is_low
  where
    inside : (parts : List (List ℕ)) (layer : Layer) (along : Axis2) (is_low : Bool)
        → is_left_inside cells [] parts layer along is_low ≡ false
    inside [] layer along is_low = refl
    inside (first ∷ []) layer along is_low = refl
    inside (first ∷ next ∷ rest) layer along is_low = refl

    none : (parts : List (List ℕ)) (layer : Layer) (along : Axis2) (is_low : Bool)
        → (has none_taken layer along is_low || is_left_inside cells [] parts layer along is_low) ≡ false
    none parts layers.Diffusion Across true = inside parts layers.Diffusion Across true
    none parts layers.Diffusion Across false = inside parts layers.Diffusion Across false
    none parts layers.Diffusion Up true = inside parts layers.Diffusion Up true
    none parts layers.Diffusion Up false = inside parts layers.Diffusion Up false
    none parts layers.Poly Across true = inside parts layers.Poly Across true
    none parts layers.Poly Across false = inside parts layers.Poly Across false
    none parts layers.Poly Up true = inside parts layers.Poly Up true
    none parts layers.Poly Up false = inside parts layers.Poly Up false
    none parts layers.Metal along is_low = inside parts layers.Metal along is_low
