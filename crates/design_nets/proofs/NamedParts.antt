-- The named parts of instances, put into the lists of their nets.
use Rattle.smallvec.specs.SmallVec.{SmallVec}
use Rattle.std.proofs.Common.{◌≡◌, ℕ, ◌+◌, ◌<◌, cond, eqb, List, [], ◌∷◌, ◌++◌, length, map, get_or, refl, sym, ap, ◌∙◌}
use Rattle.std.proofs.{Common.{subst, arith, append_assoc}, lemmas.List.{get_or_default, map-append}}
use Rattle.std.proofs.lemmas.List.Elements.{filter-append, All-filter}
use Rattle.std.specs.{Prelude.slice_index, List.{All, AllByRecursion, flat_map, range_with_len}}
use Rattle.list_facts.proofs.Elements.{all_append, all_flat, all_map, all_numbers, all_weaker, all_of}
use Rattle.cell_model.specs.declared.cell.{Cell.Cell, Nets.Nets, NodeKind.{NodeKind, TheVariants.{Joint, Contact}}}
use Rattle.cell_model.specs.declared.cell.{NodeKind.TheVariants.{Buried, Fet}, NodeNets.NodeNets}
use Rattle.cell_model.specs.{declared.cell.Port.Port as CellsPort, Nets.AreNets, Sound.{node_at, no_port, port_at}}
use Rattle.expand.specs.{declared.master.Master.Master, Items.{no_nets, nets_at}}
use Rattle.design_nets.specs.declared.{instances.Instance.Instance, named_parts.NamedPart.NamedPart}
use Rattle.design_nets.specs.declared.named_parts.CellPart.{CellPart, TheVariants.{Node, Gate, Low, High, Port}}
use Rattle.design_nets.specs.{declared.numbering.NetNumbers.NetNumbers, Firsts.together, Instances.no_instance}
use Rattle.design_nets.specs.{Listing.list_in, NamedParts.{parts_of_kind, parts_of_node, parts_of_cell, net_in}}
use Rattle.design_nets.specs.NamedParts.{IsCellPart, cell_no, part_of, parts_in, named_parts, IsNamedPart, is_of_net}
use Rattle.design_nets.specs.NamedParts.{parts_of_net, AreListed, number_by, IsNumbered}
use Rattle.design_nets.proofs.{Counted.{node_count, wire_count, wire_below}, ItemNets.node_below, Lists.numbers_more}
use Rattle.design_nets.proofs.Lists.{together_more}

-- ---- lists of nets

pub listed_more : (number : NamedPart → ℕ) (xs ys : List NamedPart) (a b c : List (SmallVec NamedPart))
    → AreListed number xs a b → AreListed number ys b c → AreListed number (xs ++ ys) a c
listed_more number xs ys a b c h k = record {
  counted = k.counted ∙ h.counted;
  each = λ net lt. (
      let counted = h.counted in
      k.each net (omega (arith, lt, counted))
      ∙ (ap (λ (zs : List NamedPart). zs ++ parts_of_net number ys net) (h.each net lt)
      ∙ (append_assoc (list_in a net) (parts_of_net number xs net) (parts_of_net number ys net)
      ∙ ap (λ (zs : List NamedPart). list_in a net ++ zs) (sym (filter-append (is_of_net number net) xs ys)))));
}

-- parts whose numbers are the same
pub parts_like : (f g : NamedPart → ℕ) (net : ℕ) (xs : List NamedPart)
    → AllByRecursion (λ (p : NamedPart). f p ≡ g p) xs → parts_of_net f xs net ≡ parts_of_net g xs net
parts_like f g net [] same = refl
parts_like f g net (p ∷ xs) same =
    ap (λ (n : ℕ). cond (eqb n net) (p ∷ parts_of_net f xs net) (parts_of_net f xs net)) same.0
    ∙ ap (λ (zs : List NamedPart). cond (eqb (g p) net) (p ∷ zs) zs) (parts_like f g net xs same.1)

pub listed_like : (f g : NamedPart → ℕ) (xs : List NamedPart) (a b : List (SmallVec NamedPart))
    → AllByRecursion (λ (p : NamedPart). f p ≡ g p) xs → AreListed f xs a b → AreListed g xs a b
listed_like f g xs a b same h =
    record {
      counted = h.counted;
      each = λ net lt. h.each net lt
          ∙ ap (λ (zs : List NamedPart). list_in a net ++ zs) (parts_like f g net xs same);
    }

-- one part by its number
pub part_numbered : (number : NamedPart → ℕ) (net : ℕ) (p : NamedPart) (a b : List (SmallVec NamedPart))
    → net ≡ number p → AreListed (λ (q : NamedPart). net) (p ∷ []) a b → AreListed number (p ∷ []) a b
part_numbered number net p a b is h = listed_like (λ (q : NamedPart). net) number (p ∷ []) a b (is, tt) h

-- the parts of one more node
pub nodes_more : (number : NamedPart → ℕ) (s k : ℕ) (lists : ℕ → List CellPart) (a b c : List (SmallVec NamedPart))
    → AreListed number (map (part_of s) (together lists k)) a b
    → AreListed number (map (part_of s) (lists k)) b c → AreListed number (map (part_of s) (together lists (k + 1))) a c
nodes_more number s k lists a b c h more =
    subst (λ (ps : List NamedPart). AreListed number ps a c)
    (sym (ap (map (part_of s)) (together_more lists k) ∙ map-append (part_of s) (together lists k) (lists k)))
    (listed_more number (map (part_of s) (together lists k)) (map (part_of s) (lists k)) a b c h more)

-- ---- the parts of a cell

kind_parts : (cell : Cell) (k : ℕ) → k < length cell.nodes → (kind : NodeKind)
    → AllByRecursion (IsCellPart cell) (parts_of_kind kind k)
kind_parts cell k lt (Joint layer width) = (lt, tt)
kind_parts cell k lt (Contact lower) = (lt, tt)
kind_parts cell k lt Buried = (lt, tt)
kind_parts cell k lt (Fet depletion gate w l) = (lt, (lt, (lt, tt)))

pub cell_parts : (cell : Cell) → AllByRecursion (IsCellPart cell) (parts_of_cell cell)
cell_parts cell =
    let n : ℕ = length cell.nodes in
    let m : ℕ = length cell.ports in
    all_append (IsCellPart cell) (flat_map (parts_of_node cell) (range_with_len 0 n)) (map Port (range_with_len 0 m))
    (all_flat (IsCellPart cell) (parts_of_node cell) (range_with_len 0 n)
    (all_numbers (λ k. AllByRecursion (IsCellPart cell) (parts_of_node cell k)) 0 n
    (λ k le lt. kind_parts cell k (omega (arith, lt)) (node_at cell.nodes k).kind)))
    (all_map (IsCellPart cell) Port (range_with_len 0 m) (all_numbers (λ k. k < m) 0 m (λ k le lt. omega (arith, lt))))

-- they are of nets of the cell
pub part_below : (cell : Cell) (nets : Nets) → AreNets cell nets
    → ((k : ℕ) → k < length cell.ports → (port_at cell.ports k).wire < length cell.wires) → (part : CellPart)
    → IsCellPart cell part → net_in cell nets part < nets.count
part_below cell nets own wired (Node k) lt = (node_below cell nets own k lt).main
part_below cell nets own wired (Gate k) lt = (node_below cell nets own k lt).main
part_below cell nets own wired (Low k) lt = (node_below cell nets own k lt).low
part_below cell nets own wired (High k) lt = (node_below cell nets own k lt).high
part_below cell nets own wired (Port k) lt =
    (let among = wired k lt in
    let counted = wire_count cell nets own in
    wire_below cell nets own (port_at cell.ports k).wire 0 (omega (arith, among, counted)))

-- ---- the numbers of nets of an instance

module _ (s : ℕ) (cell : Cell) (nets : Nets) (numbers : NetNumbers) (is : IsNumbered s cell nets numbers) where
  -- the nets of a node that is read
  pub node_long : (k : ℕ) (list : List NodeNets) → k < length cell.nodes → list ≡ nets.node → k < length list
  node_long k list lt same =
      let counted = node_count cell nets is.nets_are in
      let long = ap (λ (ns : List NodeNets). length ns) same in
      omega (arith, lt, counted, long)

  pub node_read : (k : ℕ) (list : List NodeNets) (d : NodeNets) → k < length cell.nodes → list ≡ nets.node
      → get_or list k d ≡ nets_at nets.node k
  node_read k list d lt same = get_or_default list k d no_nets (node_long k list lt same)
      ∙ ap (λ (ns : List NodeNets). get_or ns k no_nets) same

  pub number_within : (net : ℕ) → net < nets.count → slice_index numbers.firsts.items s + net < length numbers.all.items
  number_within net lt = (let within = is.within in omega (arith, lt, within))

  pub node_within : (k : ℕ) (list : List NodeNets) (d : NodeNets) → k < length cell.nodes → list ≡ nets.node
      → (slice_index numbers.firsts.items s + (get_or list k d).main < length numbers.all.items)
      × (slice_index numbers.firsts.items s + (get_or list k d).low < length numbers.all.items)
      × (slice_index numbers.firsts.items s + (get_or list k d).high < length numbers.all.items)
  node_within k list d lt same =
      let below = node_below cell nets is.nets_are k lt in
      let P : NodeNets → Type 0 = λ n. (slice_index numbers.firsts.items s + n.main < length numbers.all.items)
      × (slice_index numbers.firsts.items s + n.low < length numbers.all.items)
      × (slice_index numbers.firsts.items s + n.high < length numbers.all.items) in
      subst P (sym (node_read k list d lt same)) (
        number_within (nets_at nets.node k).main below.main,
        number_within (nets_at nets.node k).low
            below.low,
        number_within (nets_at nets.node k).high below.high,
      )

  -- the net of a port that is read
  pub port_read : (k : ℕ) (wires : List ℕ) (ports : List CellsPort) (d : CellsPort) (e : ℕ) → k < length ports
      → ports ≡ cell.ports → wires ≡ nets.wire
      → (get_or wires (get_or ports k d).wire e ≡ net_in cell nets (Port k)) × ((get_or ports k d).wire < length wires)
  port_read k wires ports d e lt same own =
      let few : k < length cell.ports = subst (λ (ps : List CellsPort). k < length ps) same lt in
      let port : get_or ports k d ≡ port_at cell.ports k = ap (λ (ps : List CellsPort). get_or ps k d) same
      ∙ get_or_default cell.ports k d no_port few in
      let wire : (get_or ports k d).wire ≡ (port_at cell.ports k).wire = ap (λ (p : CellsPort). p.wire) port in
      let among = is.wired k few in
      let counted = wire_count cell nets is.nets_are in
      let long = ap (λ (ws : List ℕ). length ws) own in
      let within : (get_or ports k d).wire < length wires = omega (arith, wire, among, counted, long) in (
        get_or_default wires (get_or ports k d).wire e 0 within
            ∙ (ap (λ (ws : List ℕ). get_or ws (get_or ports k d).wire 0) own
            ∙ ap (λ (w : ℕ). get_or nets.wire w 0) wire),
        within,
      )

  pub port_within : (k : ℕ) (wires : List ℕ) (ports : List CellsPort) (d : CellsPort) (e : ℕ) → k < length ports
      → ports ≡ cell.ports → wires ≡ nets.wire
      → slice_index numbers.firsts.items s + get_or wires (get_or ports k d).wire e < length numbers.all.items
  port_within k wires ports d e lt same own =
      let few : k < length cell.ports = subst (λ (ps : List CellsPort). k < length ps) same lt in
      let below = part_below cell nets is.nets_are is.wired (Port k) few in
      let read = (port_read k wires ports d e lt same own).0 in
      number_within (get_or wires (get_or ports k d).wire e) (omega (arith, below, read))

  -- one more port
  pub ports_more : (k : ℕ) (net : ℕ) (a b c : List (SmallVec NamedPart))
      → net ≡ number_by numbers s cell nets (part_of s (Port k))
      → AreListed (number_by numbers s cell nets) (map (part_of s) (map Port (range_with_len 0 k))) a b
      → AreListed (λ (q : NamedPart). net) (part_of s (Port k) ∷ []) b c
      → AreListed (number_by numbers s cell nets) (map (part_of s) (map Port (range_with_len 0 (k + 1)))) a c
  ports_more k net a b c is_net h one =
      let number = number_by numbers s cell nets in
      let before : List NamedPart = map (part_of s) (map Port (range_with_len 0 k)) in
      let more : map (part_of s) (map Port (range_with_len 0 (k + 1))) ≡ before ++ part_of s (Port k) ∷ [] =
      ap (λ (ks : List ℕ). map (part_of s) (map Port ks)) (numbers_more k)
      ∙ (ap (map (part_of s)) (map-append Port (range_with_len 0 k) (k ∷ []))
      ∙ map-append (part_of s) (map Port (range_with_len 0 k)) (Port k ∷ [])) in
      subst (λ (ps : List NamedPart). AreListed number ps a c) (sym more)
      (listed_more number before (part_of s (Port k) ∷ []) a b c h
      (part_numbered number net (part_of s (Port k)) b c is_net one))

-- ---- the parts of instances

module _ (masters : List Master) (instances : List Instance)
    (among : All (λ (i : Instance). i.master < length masters) instances) where
  pub instance_parts : (s : ℕ) → s < length instances
      → AllByRecursion (IsNamedPart masters instances) (parts_in masters instances s)
  instance_parts s lt =
      let cell : Cell = cell_no masters instances s in
      all_map (IsNamedPart masters instances) (part_of s) (parts_of_cell cell)
      (all_weaker (IsCellPart cell) (λ (part : CellPart). IsNamedPart masters instances (part_of s part))
      (λ part h. record { instance = lt; master = among s no_instance lt; part = h }) (parts_of_cell cell)
      (cell_parts cell))

  pub parts_named : AllByRecursion (IsNamedPart masters instances) (named_parts masters instances)
  parts_named =
      let n : ℕ = length instances in
      all_flat (IsNamedPart masters instances) (parts_in masters instances) (range_with_len 0 n)
      (all_numbers (λ s. AllByRecursion (IsNamedPart masters instances) (parts_in masters instances s)) 0 n
      (λ s le lt. instance_parts s (omega (arith, lt))))

  pub net_parts_named : (number : NamedPart → ℕ) (net : ℕ)
      → All (IsNamedPart masters instances) (parts_of_net number (named_parts masters instances) net)
  net_parts_named number net =
      All-filter (is_of_net number net) (IsNamedPart masters instances) (named_parts masters instances)
      (all_of (IsNamedPart masters instances) (named_parts masters instances) parts_named)
