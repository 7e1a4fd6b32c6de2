-- The numbers of the nets of all instances, as they are read.
use Rattle.smallvec.specs.SmallVec.{SmallVec}
use Rattle.std.proofs.Common.{◌≡◌, ℕ, ◌+◌, ◌<◌, List, [], ◌∷◌, ◌++◌, length, map, get_or, refl, sym, ap, ◌∙◌, subst}
use Rattle.std.proofs.{Common.arith, lemmas.List.{get_or_default, get_or_read, length-append, Elements.filter-append}}
use Rattle.std.specs.{Prelude.slice_index, List.AllByRecursion}
use Rattle.cell_model.specs.declared.cell.{Cell.Cell, Nets.Nets, NodeNets.NodeNets}
use Rattle.expand.specs.{declared.master.Master.Master, Items.nets_at}
use Rattle.pitch_join.specs.Masters.{master_at, no_master}
use Rattle.design_nets.specs.declared.{connections.Connections.Connections, instances.Instance.Instance}
use Rattle.design_nets.specs.declared.{named_parts.{CellPart.CellPart, NamedPart.NamedPart}, fet_nodes.FetAt.FetAt}
use Rattle.design_nets.specs.{declared.owners.OwnNet.OwnNet, Connections.number_in, Firsts.together}
use Rattle.design_nets.specs.{Instances.{no_instance, instance_no, master_no}, Joining.nets_in, Listing.list_in}
use Rattle.design_nets.specs.{NamedLines.IsFet, NamedParts.{cell_no, parts_of_cell, part_of, parts_in, own_net_of}}
use Rattle.design_nets.specs.NamedParts.{is_of_net, parts_of_net, AreListed, number_by, IsNumbered, AreNumbered}
use Rattle.design_nets.{specs.Nets.{no_nets, nets_no}, proofs.Lists.{together_more, together_longer}}
use Rattle.design_nets.proofs.{NamedParts.{listed_like, node_long, node_read, node_within}, NetNumbers.nets_counted}

module _ (masters : List Master) (sticks : Connections) (is : AreNumbered masters sticks) where
  abbrev Cell_no : ℕ → Cell
  Cell_no s = cell_no masters sticks.instances.items s

  abbrev Nets_no : ℕ → Nets
  Nets_no s = nets_no sticks.nets.items (master_no sticks.instances.items s)

  pub instance_numbered : (s : ℕ) → s < length sticks.instances.items
      → IsNumbered s (cell_no masters sticks.instances.items s)
      (nets_no sticks.nets.items (master_no sticks.instances.items s)) sticks.numbers
  instance_numbered s lt =
      let instances : List Instance = sticks.instances.items in
      let lists : ℕ → List OwnNet = nets_in sticks.nets.items instances in
      let m : ℕ = master_no instances s in
      let among = is.among s no_instance lt in
      let here = is.firsts.each s (omega (arith, lt)) in
      let ends = is.firsts.each (length instances) (omega arith) in
      let longer = together_longer lists (s + 1) (length instances) (omega (arith, lt)) in
      let more = ap (λ (xs : List OwnNet). length xs) (together_more lists s)
      ∙ length-append (together lists s) (lists s) in
      let own = nets_counted sticks.nets.items instances s in
      let counted = is.counted in
      let firsts = is.firsts.counted in
      record {
        nets_are = is.nets.each m among;
        instance = omega (arith, lt, firsts);
        within = omega (arith, here, ends, longer, more, own, counted);
        wired = λ k few. is.wired m k among few;
      }

  -- the nets, and the cell, that are read for an instance
  pub nets_read : (s : ℕ) (i : Instance) (n : Nets) → s < length sticks.instances.items
      → i ≡ get_or sticks.instances.items s i → n ≡ get_or sticks.nets.items i.master n
      → n ≡ nets_no sticks.nets.items (master_no sticks.instances.items s)
  nets_read s i n lt is_i is_n =
      let same : i ≡ instance_no sticks.instances.items s =
      get_or_read sticks.instances.items s i lt is_i no_instance in
      let master : i.master ≡ master_no sticks.instances.items s = ap (λ (z : Instance). z.master) same in
      let among = is.among s no_instance lt in
      let counted = is.nets.counted in
      get_or_read sticks.nets.items i.master n (omega (arith, master, among, counted)) is_n no_nets
      ∙ ap (nets_no sticks.nets.items) master

  pub cell_read : (s : ℕ) (i : Instance) (d : Master) → s < length sticks.instances.items
      → i ≡ get_or sticks.instances.items s i
      → (get_or masters i.master d).cell ≡ cell_no masters sticks.instances.items s
  cell_read s i d lt is_i =
      let same : i ≡ instance_no sticks.instances.items s =
      get_or_read sticks.instances.items s i lt is_i no_instance in
      let master : i.master ≡ master_no sticks.instances.items s = ap (λ (z : Instance). z.master) same in
      let among = is.among s no_instance lt in
      ap (λ (z : Master). z.cell) (get_or_default masters i.master d no_master (omega (arith, master, among)))
      ∙ ap (λ (n : ℕ). (master_at masters n).cell) master

  pub numbered_moved : (s : ℕ) (cell : Cell) (nets : Nets) → cell ≡ cell_no masters sticks.instances.items s
      → nets ≡ nets_no sticks.nets.items (master_no sticks.instances.items s) → s < length sticks.instances.items
      → IsNumbered s cell nets sticks.numbers
  numbered_moved s cell nets e f lt =
      subst (λ (z : Cell). IsNumbered s z nets sticks.numbers) (sym e)
      (subst (λ (z : Nets). IsNumbered s (Cell_no s) z sticks.numbers) (sym f) (instance_numbered s lt))

  -- the nets of a node of an instance, where they are read
  pub record ReadsNode (s k : ℕ) (list : List NodeNets) : Type 0 where
    pub long : k < length list
    pub read : (d : NodeNets)
        → get_or list k d ≡ nets_at (nets_no sticks.nets.items (master_no sticks.instances.items s)).node k
    pub main : (d : NodeNets)
        → slice_index sticks.numbers.firsts.items s + (get_or list k d).main < length sticks.numbers.all.items
    pub low : (d : NodeNets)
        → slice_index sticks.numbers.firsts.items s + (get_or list k d).low < length sticks.numbers.all.items
    pub high : (d : NodeNets)
        → slice_index sticks.numbers.firsts.items s + (get_or list k d).high < length sticks.numbers.all.items

  pub fet_read : (f : FetAt) (i : Instance) (n : Nets) (list : List NodeNets) → IsFet masters sticks.instances.items f
      → i ≡ get_or sticks.instances.items f.instance i → n ≡ get_or sticks.nets.items i.master n → list ≡ n.node
      → ReadsNode f.instance f.node list
  fet_read f i n list fet is_i is_n are =
      let s : ℕ = f.instance in
      let numbered = instance_numbered s fet.instance in
      let same : list ≡ (Nets_no s).node = are ∙ ap (λ (z : Nets). z.node) (nets_read s i n fet.instance is_i is_n) in
      record {
        long = node_long s (Cell_no s) (Nets_no s) sticks.numbers numbered f.node list fet.node same;
        read = λ d. node_read s (Cell_no s) (Nets_no s) sticks.numbers numbered f.node list d fet.node same;
        main = λ d. (node_within s (Cell_no s) (Nets_no s) sticks.numbers numbered f.node list d fet.node same).0;
        low = λ d. (node_within s (Cell_no s) (Nets_no s) sticks.numbers numbered f.node list d fet.node same).1;
        high = λ d. (node_within s (Cell_no s) (Nets_no s) sticks.numbers numbered f.node list d fet.node same).2;
      }

  -- ---- lists of parts

  abbrev pub Number : NamedPart → ℕ
  Number p = number_in sticks.numbers (own_net_of masters sticks.nets.items sticks.instances.items p)

  same_numbers : (s : ℕ) (parts : List CellPart)
      → AllByRecursion (λ (p : NamedPart). number_by sticks.numbers s (Cell_no s) (Nets_no s) p ≡ Number p)
      (map (part_of s) parts)
  same_numbers s [] = tt
  same_numbers s (part ∷ parts) = (refl, same_numbers s parts)

  pub instance_listed : (s : ℕ) (cell : Cell) (nets : Nets) (old new : List (SmallVec NamedPart))
      → cell ≡ cell_no masters sticks.instances.items s
      → nets ≡ nets_no sticks.nets.items (master_no sticks.instances.items s)
      → AreListed (number_by sticks.numbers s cell nets) (map (part_of s) (parts_of_cell cell)) old new
      → AreListed Number (parts_in masters sticks.instances.items s) old new
  instance_listed s cell nets old new e f h =
      listed_like (number_by sticks.numbers s (Cell_no s) (Nets_no s)) Number
      (parts_in masters sticks.instances.items s) old new (same_numbers s (parts_of_cell (Cell_no s)))
      (subst (λ (z : Nets). AreListed (number_by sticks.numbers s (Cell_no s) z)
      (parts_in masters sticks.instances.items s) old new) f
      (subst (λ (z : Cell). AreListed (number_by sticks.numbers s z nets) (map (part_of s) (parts_of_cell z)) old new)
      e h))

-- the parts of one more instance
pub parts_more : (number : NamedPart → ℕ) (lists : ℕ → List NamedPart) (s count : ℕ)
    (old new : List (SmallVec NamedPart)) → length old ≡ count
    → ((net : ℕ) → net < count → list_in old net ≡ parts_of_net number (together lists s) net)
    → AreListed number (lists s) old new → (net : ℕ) → net < count
    → list_in new net ≡ parts_of_net number (together lists (s + 1)) net
parts_more number lists s count old new counted was h net lt =
    h.each net (omega (arith, lt, counted))
    ∙ (ap (λ (ps : List NamedPart). ps ++ parts_of_net number (lists s) net) (was net lt)
    ∙ (sym (filter-append (is_of_net number net) (together lists s) (lists s))
    ∙ ap (λ (ps : List NamedPart). parts_of_net number ps net) (sym (together_more lists s))))
