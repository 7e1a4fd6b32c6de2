-- The wires beside a bent one end where they did, and attach what they did.
use Rattle.std.proofs.Common.{◌≡◌, ℕ, suc, ◌+◌, ◌<◌, Bool, true, false, List, [], ◌∷◌, ◌++◌, length, map, Option, Some}
use Rattle.std.proofs.{Common.{None, inl, inr, refl, sym, ap, ◌∙◌, arith}, lemmas.List.{append_assoc, map-append}}
use Rattle.std.specs.{Prelude.◌⊎◌, List.{AllByRecursion, AllZip}}
use Rattle.lam_geom.specs.declared.boxes.Side.{Side}
use Rattle.rule_table.specs.declared.{technology.Tech.Tech, classes.Layer.Layer}
use Rattle.cell_model.specs.declared.cell.{NodeKind.NodeKind, Node.Node, WireEnd.WireEnd, Wire.Wire}
use Rattle.cell_model.specs.{Sound.{node_at, IsWire}, Nets.{node_parts, first_part, joined_part, end_parts, with_each}}
use Rattle.cell_model.specs.Nets.{attachments}
use Rattle.cell_model.specs.declared.cell.WireEnd.TheVariants as ends
use Rattle.checked_cells.specs.CheckedCell.{CheckedCell, cell_of, plug_at}
use Rattle.jog_insert.specs.{Bends.Bend, Nets.wire_ends}
use Rattle.jog_nets.{specs.Parts.node_after, proofs.Lines.{Joining, sides, side_named, IsEndOf, IsJoined}}
use Rattle.jog_nets.proofs.{Links.both_moved, Turned.{IsMovedEnd, run_of_wire, not_turned}, Parts.AreInserted}
use Rattle.jog_nets.proofs.Parts.{node_moved, moved_number, joined_within, part_moved}

-- no two nodes have one name
abbrev pub AreApart : CheckedCell → Type 0
AreApart known = (j k : ℕ) → j < length known.nodes → k < length known.nodes
    → (node_at known.nodes j).name ≡ (node_at known.nodes k).name → j ≡ k

-- the new cell has the nodes of the old one, moved, and two more, and the names of the old one
pub record IsBentOf (bend : Bend) (prefix back : List Node) (lower upper : Node) (old new : CheckedCell) : Type 0 where
  pub inserted : AreInserted bend prefix back lower upper old.nodes new.nodes
  pub named : (name : List ℕ) (side : Option Side) → side_named (sides old.names) name ≡ Some side
      → side_named (sides new.names) name ≡ Some side
  pub apart : AreApart new

-- ---- ends

-- the end of a name is the one node of this name
pub one_end : (known : CheckedCell) (name : List ℕ) (i : ℕ) (end : WireEnd) → AreApart known
    → IsEndOf known name (ends.Node i) → IsEndOf known name end → end ≡ ends.Node i
one_end known name i (ends.Node j) apart here is = ap (λ n. ends.Node n) (apart j i is.0 here.0 (is.1 ∙ sym here.1))
one_end known name i (ends.Port j) apart here is =
    let none : ◌≡◌ {A = Option (Option Side)} (Some None) (Some (Some (plug_at known.plugs j).port.side)) = sym here.2
    ∙ is.1 in absurd (cc)

-- a node that is the end of a name still is
pub node_end : (bend : Bend) (prefix back : List Node) (lower upper : Node) (old new : CheckedCell)
    → IsBentOf bend prefix back lower upper old new → (name : List ℕ) (i : ℕ)
    → IsEndOf old name (ends.Node i) → IsEndOf new name (ends.Node (node_after (length prefix) i))
node_end bend prefix back lower upper old new h name i is =
    let there = node_moved bend prefix back lower upper old.nodes new.nodes h.inserted i is.0 in
    (there.0, ap (λ (node : Node). node.name) there.1 ∙ is.1, h.named name None is.2)

-- the ends of one name are one end
moved_end : (bend : Bend) (prefix back : List Node) (lower upper : Node) (old new : CheckedCell)
    → IsBentOf bend prefix back lower upper old new → (name : List ℕ) (end its : WireEnd)
    → IsEndOf old name end → IsEndOf new name its → IsMovedEnd (length prefix) old new end its
moved_end bend prefix back lower upper old new h name (ends.Node i) (ends.Node j) is its =
    let there = node_end bend prefix back lower upper old new h name i is in
    (is.0, h.apart j (node_after (length prefix) i) its.0 there.0 (its.1 ∙ sym there.1))
moved_end bend prefix back lower upper old new h name (ends.Port i) (ends.Port j) is its =
    let same : ◌≡◌ {A = Option (Option Side)} (Some (Some (plug_at old.plugs i).port.side))
    (Some (Some (plug_at new.plugs j).port.side)) =
    sym (h.named name (Some (plug_at old.plugs i).port.side) is.1) ∙ its.1 in
    cc
moved_end bend prefix back lower upper old new h name (ends.Node i) (ends.Port j) is its =
    let same : ◌≡◌ {A = Option (Option Side)} (Some None) (Some (Some (plug_at new.plugs j).port.side)) =
    sym (h.named name None is.2) ∙ its.1 in absurd (cc)
moved_end bend prefix back lower upper old new h name (ends.Port i) (ends.Node j) is its =
    let same : ◌≡◌ {A = Option (Option Side)} (Some (Some (plug_at old.plugs i).port.side)) (Some None) =
    sym (h.named name (Some (plug_at old.plugs i).port.side) is.1) ∙ its.2 in absurd (cc)

-- ---- wires

pub record IsMovedWire (at : ℕ) (old new : CheckedCell) (wire its : Wire) : Type 0 where
  pub layer : its.layer ≡ wire.layer
  pub low : IsMovedEnd at old new wire.low its.low
  pub high : IsMovedEnd at old new wire.high its.high

-- the wires between two names are one wire
moved_wire : (tech : Tech) (bend : Bend) (prefix back : List Node) (lower upper : Node) (old new : CheckedCell)
    → IsBentOf bend prefix back lower upper old new → (joining : Joining) (wire its : Wire)
    → IsJoined old joining wire → IsJoined new joining its → IsWire tech (cell_of old) wire
    → IsWire tech (cell_of new) its → IsMovedWire (length prefix) old new wire its
moved_wire tech bend prefix back lower upper old new h joining wire its joined its_joined is its_is =
    by joined.ends its_joined.ends
  where
    layers : its.layer ≡ wire.layer
    layers = its_joined.layer ∙ sym joined.layer

    same : (name : List ℕ) (end other : WireEnd) → IsEndOf old name end → IsEndOf new name other
        → IsMovedEnd (length prefix) old new end other
    same name end other = moved_end bend prefix back lower upper old new h name end other

    turned : IsMovedEnd (length prefix) old new wire.low its.high
        → IsMovedEnd (length prefix) old new wire.high its.low → ⊥
    turned low high =
        not_turned bend (length prefix) old new
        (λ i lt. (node_moved bend prefix back lower upper old.nodes new.nodes h.inserted i lt).1) wire.along
        its.along wire.low its.high wire.high its.low low high
        (run_of_wire tech (cell_of old) wire is) (run_of_wire tech (cell_of new) its its_is)

    by : (IsEndOf old joining.a wire.low × IsEndOf old joining.b wire.high)
        ⊎ (IsEndOf old joining.b wire.low × IsEndOf old joining.a wire.high)
        → (IsEndOf new joining.a its.low × IsEndOf new joining.b its.high)
        ⊎ (IsEndOf new joining.b its.low × IsEndOf new joining.a its.high)
        → IsMovedWire (length prefix) old new wire its
    by (inl e) (inl g) =
        record {
          layer = layers;
          low = same joining.a wire.low its.low e.0 g.0;
          high = same joining.b wire.high its.high e.1 g.1;
        }
    by (inr e) (inr g) =
        record {
          layer = layers;
          low = same joining.b wire.low its.low e.0 g.0;
          high = same joining.a wire.high its.high e.1 g.1;
        }
    by (inl e) (inr g) =
        absurd (turned (same joining.a wire.low its.high e.0 g.1) (same joining.b wire.high its.low e.1 g.0))
    by (inr e) (inl g) =
        absurd (turned (same joining.b wire.low its.high e.0 g.1) (same joining.a wire.high its.low e.1 g.0))

pub moved_wires : (tech : Tech) (bend : Bend) (prefix back : List Node) (lower upper : Node) (old new : CheckedCell)
    → IsBentOf bend prefix back lower upper old new → (joinings : List Joining) (wires its : List Wire)
    → AllZip (IsJoined old) joinings wires → AllZip (IsJoined new) joinings its
    → AllByRecursion (IsWire tech (cell_of old)) wires → AllByRecursion (IsWire tech (cell_of new)) its
    → AllZip (IsMovedWire (length prefix) old new) wires its
moved_wires tech bend prefix back lower upper old new h [] [] [] joined its_joined is its_is = tt
moved_wires tech bend prefix back lower upper old new h [] (wire ∷ wires) its joined its_joined is its_is =
    absurd joined
moved_wires tech bend prefix back lower upper old new h [] [] (other ∷ its) joined its_joined is its_is =
    absurd its_joined
moved_wires tech bend prefix back lower upper old new h (joining ∷ joinings) [] its joined its_joined is its_is =
    absurd joined
moved_wires tech bend prefix back lower upper old new h (joining ∷ joinings) (wire ∷ wires) [] joined its_joined is
    its_is = absurd its_joined
moved_wires tech bend prefix back lower upper old new h (joining ∷ joinings) (wire ∷ wires) (other ∷ its) joined
    its_joined is its_is = (
      moved_wire tech bend prefix back lower upper old new h joining wire other joined.0 its_joined.0 is.0 its_is.0,
      moved_wires tech bend prefix back lower upper old new h joinings wires its joined.1 its_joined.1 is.1 its_is.1,
    )

-- one wire of the old cell has become three, and each other one ends where it did
pub record AreWiresBent (at k : ℕ) (old new : CheckedCell) : Type 0 where
  pub before : List Wire
  pub wire : Wire
  pub after : List Wire
  pub its_before : List Wire
  pub first : Wire
  pub middle : Wire
  pub last : Wire
  pub its_after : List Wire
  pub old_wires : old.wires ≡ before ++ wire ∷ after
  pub new_wires : new.wires ≡ its_before ++ first ∷ middle ∷ last ∷ its_after
  pub count : length before ≡ k
  pub before_moved : AllZip (IsMovedWire at old new) before its_before
  pub after_moved : AllZip (IsMovedWire at old new) after its_after

-- ---- what they attach

-- the part of a node at an end
pub part_at_end : (bend : Bend) (prefix back : List Node) (lower upper : Node) (old new : List Node)
    → AreInserted bend prefix back lower upper old new → (k i : ℕ) (layer : Layer) (is_low : Bool) → i < length old
    → first_part new (node_after (length prefix) i) + joined_part (node_at new (node_after (length prefix) i)).kind
    layer is_low
    ≡ moved_number (first_part old (length prefix)) (node_parts old) k
    (first_part old i + joined_part (node_at old i).kind layer is_low)
part_at_end bend prefix back lower upper old new are k i layer is_low lt =
    let kind : (node_at new (node_after (length prefix) i)).kind ≡ (node_at old i).kind =
    ap (λ (node : Node). node.kind) (node_moved bend prefix back lower upper old new are i lt).1 in
    ap (λ (kind : NodeKind). first_part new (node_after (length prefix) i) + joined_part kind layer is_low) kind
    ∙ part_moved bend prefix back lower upper old new are k i (joined_part (node_at old i).kind layer is_low) lt
    (joined_within (node_at old i).kind layer is_low)

end_parts_moved : (bend : Bend) (prefix back : List Node) (lower upper : Node) (old new : CheckedCell)
    → AreInserted bend prefix back lower upper old.nodes new.nodes → (k : ℕ) (layer : Layer) (is_low : Bool)
    (end its : WireEnd) → IsMovedEnd (length prefix) old new end its
    → end_parts new.nodes layer is_low its
    ≡ map (moved_number (first_part old.nodes (length prefix)) (node_parts old.nodes) k)
    (end_parts old.nodes layer is_low end)
end_parts_moved bend prefix back lower upper old new are k layer is_low (ends.Node i) (ends.Node j) e =
    ap (λ n. (first_part new.nodes n + joined_part (node_at new.nodes n).kind layer is_low) ∷ []) e.1
    ∙ ap (λ part. part ∷ []) (part_at_end bend prefix back lower upper old.nodes new.nodes are k i layer is_low e.0)
end_parts_moved bend prefix back lower upper old new are k layer is_low (ends.Port i) (ends.Port j) e = refl
end_parts_moved bend prefix back lower upper old new are k layer is_low (ends.Node i) (ends.Port j) e = absurd e
end_parts_moved bend prefix back lower upper old new are k layer is_low (ends.Port i) (ends.Node j) e = absurd e

ends_moved : (bend : Bend) (prefix back : List Node) (lower upper : Node) (old new : CheckedCell)
    → AreInserted bend prefix back lower upper old.nodes new.nodes → (k : ℕ) (wire its : Wire)
    → IsMovedWire (length prefix) old new wire its
    → wire_ends new.nodes its ≡ map (moved_number (first_part old.nodes (length prefix)) (node_parts old.nodes) k)
    (wire_ends old.nodes wire)
ends_moved bend prefix back lower upper old new are k wire its moved =
    let m : ℕ → ℕ = moved_number (first_part old.nodes (length prefix)) (node_parts old.nodes) k in
    let low : end_parts new.nodes wire.layer true its.low ≡ map m (end_parts old.nodes wire.layer true wire.low) =
    end_parts_moved bend prefix back lower upper old new are k wire.layer true wire.low its.low moved.low in
    let high : end_parts new.nodes wire.layer false its.high
    ≡ map m (end_parts old.nodes wire.layer false wire.high) =
    end_parts_moved bend prefix back lower upper old new are k wire.layer false wire.high its.high moved.high in
    ap (λ (layer : Layer). end_parts new.nodes layer true its.low ++ end_parts new.nodes layer false its.high)
    moved.layer
    ∙ ap (λ parts. parts ++ end_parts new.nodes wire.layer false its.high) low
    ∙ ap (λ parts. map m (end_parts old.nodes wire.layer true wire.low) ++ parts) high
    ∙ sym (map-append m (end_parts old.nodes wire.layer true wire.low) (end_parts old.nodes wire.layer false wire.high))

with_each_moved : (m : ℕ → ℕ) (k its : ℕ) (parts : List ℕ) → m k ≡ its
    → with_each its (map m parts) ≡ map (both_moved m) (with_each k parts)
with_each_moved m k its [] e = refl
with_each_moved m k its (part ∷ parts) e = ap (λ n. (n, m part) ∷ with_each its (map m parts)) (sym e)
    ∙ ap (λ (links : List (ℕ × ℕ)). (m k, m part) ∷ links) (with_each_moved m k its parts e)

-- the links of wires that end where they did
pub links_moved : (bend : Bend) (prefix back : List Node) (lower upper : Node) (old new : CheckedCell)
    → AreInserted bend prefix back lower upper old.nodes new.nodes → (k first its_first : ℕ) (wires its : List Wire)
    → ((t : ℕ) → t < length wires
    → moved_number (first_part old.nodes (length prefix)) (node_parts old.nodes) k (first + t) ≡ its_first + t)
    → AllZip (IsMovedWire (length prefix) old new) wires its
    → attachments new.nodes its_first its
    ≡ map (both_moved (moved_number (first_part old.nodes (length prefix)) (node_parts old.nodes) k))
    (attachments old.nodes first wires)
links_moved bend prefix back lower upper old new are k first its_first [] [] each moved = refl
links_moved bend prefix back lower upper old new are k first its_first [] (other ∷ its) each moved = absurd moved
links_moved bend prefix back lower upper old new are k first its_first (wire ∷ wires) [] each moved = absurd moved
links_moved bend prefix back lower upper old new are k first its_first (wire ∷ wires) (other ∷ its) each moved =
    let m : ℕ → ℕ = moved_number (first_part old.nodes (length prefix)) (node_parts old.nodes) k in
    let unit : (a b : ℕ) → a + 0 ≡ a = λ a b. omega arith in
    let here : m first ≡ its_first = ap m (sym (unit first 0)) ∙ each 0 (omega arith) ∙ unit its_first 0 in
    let later : (t : ℕ) → t < length wires → m ((first + 1) + t) ≡ (its_first + 1) + t =
    λ t lt. let same : (first + 1) + t ≡ first + suc t = omega arith in ap m same ∙ each (suc t) (omega (arith, lt))
    ∙ omega arith in
    let one : with_each its_first (wire_ends new.nodes other)
    ≡ map (both_moved m) (with_each first (wire_ends old.nodes wire)) =
    ap (with_each its_first) (ends_moved bend prefix back lower upper old new are k wire other moved.0)
    ∙ with_each_moved m first its_first (wire_ends old.nodes wire) here in
    ap (λ (links : List (ℕ × ℕ)). links ++ attachments new.nodes (its_first + 1) its) one
    ∙ ap (λ (links : List (ℕ × ℕ)). map (both_moved m) (with_each first (wire_ends old.nodes wire)) ++ links)
    (links_moved bend prefix back lower upper old new are k (first + 1) (its_first + 1) wires its later moved.1)
    ∙ sym (map-append (both_moved m) (with_each first (wire_ends old.nodes wire))
    (attachments old.nodes (first + 1) wires))

-- the links of some wires, and of more after them
pub attachments_append : (nodes : List Node) (first : ℕ) (wires more : List Wire)
    → attachments nodes first (wires ++ more) ≡ attachments nodes first wires
    ++ attachments nodes (first + length wires) more
attachments_append nodes first [] more = let same : first ≡ first + 0 =
    omega arith in ap (λ n. attachments nodes n more) same
attachments_append nodes first (wire ∷ wires) more =
    let same : (first + 1) + length wires ≡ first + suc (length wires) = omega arith in
    ap (λ (links : List (ℕ × ℕ)). with_each first (wire_ends nodes wire) ++ links)
    (attachments_append nodes (first + 1) wires more
    ∙ ap (λ n. attachments nodes (first + 1) wires ++ attachments nodes n more) same)
    ∙ sym (append_assoc (with_each first (wire_ends nodes wire)) (attachments nodes (first + 1) wires)
    (attachments nodes (first + suc (length wires)) more))

-- the parts at the two ends of a wire between two nodes
pub ends_between : (nodes : List Node) (wire : Wire) (layer : Layer) (i j : ℕ) → wire.layer ≡ layer
    → wire.low ≡ ends.Node i → wire.high ≡ ends.Node j
    → wire_ends nodes wire ≡ (first_part nodes i + joined_part (node_at nodes i).kind layer true) ∷
    (first_part nodes j + joined_part (node_at nodes j).kind layer false) ∷ []
ends_between nodes wire layer i j own low high =
    ap (λ (l : Layer). end_parts nodes l true wire.low ++ end_parts nodes l false wire.high) own
    ∙ ap (λ (end : WireEnd). end_parts nodes layer true end ++ end_parts nodes layer false wire.high) low
    ∙ ap (λ (end : WireEnd). end_parts nodes layer true (ends.Node i) ++ end_parts nodes layer false end) high

-- its links, and those of the wires after it
pub attached_first : (nodes : List Node) (first n : ℕ) (wire : Wire) (wires : List Wire) (p q : ℕ) → n ≡ first
    → wire_ends nodes wire ≡ p ∷ q ∷ []
    → attachments nodes first (wire ∷ wires) ≡ (n, p) ∷ (n, q) ∷ attachments nodes (n + 1) wires
attached_first nodes first n wire wires p q same e =
    ap (λ (parts : List ℕ). with_each first parts ++ attachments nodes (first + 1) wires) e
    ∙ ap (λ (x : ℕ). (x, p) ∷ (x, q) ∷ attachments nodes (x + 1) wires) (sym same)
