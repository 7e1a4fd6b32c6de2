-- The links of a cell with a bent wire.
use Rattle.std.proofs.Common.{◌≡◌, ℕ, zero, suc, ◌+◌, ◌<◌, ◌≤◌, Bool, true, false, List, [], ◌∷◌, ◌++◌, length, map}
use Rattle.std.proofs.{Common.{inl, inr, refl, sym, ap, subst, ◌∙◌, arith}, lemmas.List.{append_assoc, length-append}}
use Rattle.std.proofs.lemmas.List.{length-map, get_or_at, Elements.length_all_zip, Sums.sum_by-take-le}
use Rattle.std.specs.{Prelude.{◌⊎◌, Contains}, List.{AllByRecursion, AllZip}}
use Rattle.list_facts.proofs.Elements.{all_parts}
use Rattle.rule_table.specs.declared.{technology.Tech.Tech, classes.Layer.Layer}
use Rattle.stick_text.specs.declared.design.Layer.{Layer as DrawnLayer}
use Rattle.cell_model.specs.{declared.cell.{Node.Node, WireEnd.WireEnd, Wire.Wire}, Sound.{node_at, no_node, IsWire}}
use Rattle.cell_model.specs.Nets.{kind_parts, node_parts, first_part, joined_part, attachments, attachments_of}
use Rattle.cell_model.specs.declared.cell.WireEnd.TheVariants as ends
use Rattle.checked_cells.specs.{CheckedCell.{CheckedCell, cell_of}, Checks.layer_of}
use Rattle.jog_insert.specs.{Bends.Bend, Nets.wire_ends}
use Rattle.jog_nets.specs.Parts.{node_after}
use Rattle.jog_nets.proofs.{Lines.{Joining, IsEndOf, IsJoined}, Links.{both_moved, Five, AreBentLinks}}
use Rattle.jog_nets.proofs.{Turned.{moved_node, IsRunOf, run_of_wire, upward}, Parts.{AreInserted, node_parts_inserted}}
use Rattle.jog_nets.proofs.Parts.{parts_before, moved_number, number_back, number_returns, moved_between, moved_above}
use Rattle.jog_nets.proofs.{Parts.{back_joints, back_wires}, Moved.{AreApart, one_end, IsMovedWire, AreWiresBent}}
use Rattle.jog_nets.proofs.Moved.{part_at_end, links_moved, attachments_append, ends_between, attached_first}

-- ---- wires between two nodes

pub record IsBetween (wire : Wire) (layer : Layer) (i j : ℕ) : Type 0 where
  pub own : wire.layer ≡ layer
  pub low : wire.low ≡ ends.Node i
  pub high : wire.high ≡ ends.Node j

-- a wire between the names of two nodes
pub between_names : (known : CheckedCell) (layer : DrawnLayer) (a b : List ℕ) (wire : Wire) (i j : ℕ) → AreApart known
    → IsEndOf known a (ends.Node i) → IsEndOf known b (ends.Node j)
    → IsJoined known (record { layer = layer; a = a; b = b }) wire
    → IsBetween wire (layer_of layer) i j ⊎ IsBetween wire (layer_of layer) j i
between_names known layer a b wire i j apart at_a at_b joined = by joined.ends
  where
    by : (IsEndOf known a wire.low × IsEndOf known b wire.high) ⊎ (IsEndOf known b wire.low × IsEndOf known a wire.high)
        → IsBetween wire (layer_of layer) i j ⊎ IsBetween wire (layer_of layer) j i
    by (inl e) =
        inl (record {
          own = joined.layer;
          low = one_end known a i wire.low apart at_a e.0;
          high = one_end known b j wire.high apart at_b e.1;
        })
    by (inr e) =
        inr (record {
          own = joined.layer;
          low = one_end known b j wire.low apart at_b e.0;
          high = one_end known a i wire.high apart at_a e.1;
        })

-- of which the second lies higher
pub upward_names : (tech : Tech) (known : CheckedCell) (layer : DrawnLayer) (a b : List ℕ) (wire : Wire) (i j : ℕ)
    → AreApart known → IsEndOf known a (ends.Node i) → IsEndOf known b (ends.Node j)
    → (node_at known.nodes i).row < (node_at known.nodes j).row
    → IsJoined known (record { layer = layer; a = a; b = b }) wire → IsWire tech (cell_of known) wire
    → IsBetween wire (layer_of layer) i j
upward_names tech known layer a b wire i j apart at_a at_b lt joined is =
    by (between_names known layer a b wire i j apart at_a at_b joined)
  where
    by : IsBetween wire (layer_of layer) i j ⊎ IsBetween wire (layer_of layer) j i → IsBetween wire (layer_of layer) i j
    by (inl h) = h
    by (inr h) = absurd (upward (cell_of known) wire.along i j lt
        (subst (λ (high : WireEnd). IsRunOf (cell_of known) wire.along (ends.Node j) high) h.high
        (subst (λ (low : WireEnd). IsRunOf (cell_of known) wire.along low wire.high) h.low
        (run_of_wire tech (cell_of known) wire is))))

-- ---- the links

-- the bent wire and the three in its place
pub record AreThree (at low high : ℕ) (layer : Layer) (wire first middle last : Wire) : Type 0 where
  pub of_wire : IsBetween wire layer low high
  pub of_first : IsBetween first layer (node_after at low) at
  pub of_middle : IsBetween middle layer at (at + 1) ⊎ IsBetween middle layer (at + 1) at
  pub of_last : IsBetween last layer (at + 1) (node_after at high)

-- a joint has one part
pub record IsOnePart (node : Node) : Type 0 where
  pub one : kind_parts node.kind ≡ 1
  pub first : (layer : Layer) (is_low : Bool) → joined_part node.kind layer is_low ≡ 0

-- a wire joins the only part of a joint
only_part : (nodes : List Node) (i part : ℕ) (node : Node) (layer : Layer) (is_low : Bool) → node_at nodes i ≡ node
    → IsOnePart node → first_part nodes i ≡ part
    → first_part nodes i + joined_part (node_at nodes i).kind layer is_low ≡ part
only_part nodes i part node layer is_low same is first =
    let none : joined_part (node_at nodes i).kind layer is_low ≡ 0 =
    ap (λ (n : Node). joined_part n.kind layer is_low) same ∙ is.first layer is_low in
    omega (arith, none, first)

two_parts : (p q r s : ℕ) → p ≡ r → q ≡ s → ◌≡◌ {A = List ℕ} (p ∷ q ∷ []) (r ∷ s ∷ [])
two_parts p q r s e g = ap (λ x. x ∷ q ∷ []) e ∙ ap (λ x. r ∷ x ∷ []) g

-- where the two new nodes stand
pub lower_at : (bend : Bend) (prefix back : List Node) (lower upper : Node) (old new : List Node)
    → AreInserted bend prefix back lower upper old new → node_at new (length prefix) ≡ lower
lower_at bend prefix back lower upper old new are =
    ap (λ (nodes : List Node). node_at nodes (length prefix)) are.new_nodes
    ∙ get_or_at (map (moved_node bend) prefix) lower (upper ∷ map (moved_node bend) back) no_node (length prefix)
    (length-map prefix (moved_node bend))

pub upper_at : (bend : Bend) (prefix back : List Node) (lower upper : Node) (old new : List Node)
    → AreInserted bend prefix back lower upper old new → node_at new (length prefix + 1) ≡ upper
upper_at bend prefix back lower upper old new are =
    ap (λ (nodes : List Node). node_at nodes (length prefix + 1))
    (are.new_nodes
    ∙ sym (append_assoc (map (moved_node bend) prefix) (lower ∷ []) (upper ∷ map (moved_node bend) back)))
    ∙ get_or_at (map (moved_node bend) prefix ++ lower ∷ []) upper (map (moved_node bend) back) no_node
    (length prefix + 1)
    (omega (arith, length-append (map (moved_node bend) prefix) (lower ∷ []), length-map prefix (moved_node bend)))

-- the two joints, in some order
abbrev ArePair : ℕ → ℕ → ℕ → Type 0
ArePair place p q = ((p ≡ place) × (q ≡ place + 1)) ⊎ ((p ≡ place + 1) × (q ≡ place))

pair_has : (middle place p q : ℕ) → ArePair place p q
    → Contains {X = ℕ × ℕ} ((middle, p) ∷ (middle, q) ∷ []) (middle, place)
    × Contains {X = ℕ × ℕ} ((middle, p) ∷ (middle, q) ∷ []) (middle, place + 1)
pair_has middle place p q (inl e) =
    ((zero, omega arith, ap (λ x. (middle, x)) e.0), (suc zero, omega arith, ap (λ x. (middle, x)) e.1))
pair_has middle place p q (inr e) =
    ((suc zero, omega arith, ap (λ x. (middle, x)) e.1), (zero, omega arith, ap (λ x. (middle, x)) e.0))

pair_back : (place n k p q : ℕ) → ArePair place p q → (number_back place n k p ≡ n + k)
    × (number_back place n k q ≡ n + k)
pair_back place n k p q (inl e) =
    (back_joints place n k p (omega arith) (omega arith), back_joints place n k q (omega arith) (omega arith))
pair_back place n k p q (inr e) =
    (back_joints place n k p (omega arith) (omega arith), back_joints place n k q (omega arith) (omega arith))

-- the two parts at the ends of the wire between the joints
middle_ends : (nodes : List Node) (at place : ℕ) (lower upper : Node) (layer : Layer) (wire : Wire)
    → node_at nodes at ≡ lower → node_at nodes (at + 1) ≡ upper → IsOnePart lower → IsOnePart upper
    → first_part nodes at ≡ place → first_part nodes (at + 1) ≡ place + 1
    → IsBetween wire layer at (at + 1) ⊎ IsBetween wire layer (at + 1) at
    → (p : ℕ) × (q : ℕ) × ArePair place p q × (wire_ends nodes wire ≡ p ∷ q ∷ [])
middle_ends nodes at place lower upper layer wire is_lower is_upper one_lower one_upper first second (inl h) = (
  place,
  place + 1,
  inl (refl, refl),
  ends_between nodes wire layer at (at + 1) h.own h.low h.high
      ∙ two_parts (first_part nodes at + joined_part (node_at nodes at).kind layer true)
      (first_part nodes (at + 1) + joined_part (node_at nodes (at + 1)).kind layer false) place (place + 1)
      (only_part nodes at place lower layer true is_lower one_lower first)
      (only_part nodes (at + 1) (place + 1) upper layer false is_upper one_upper second),
)
middle_ends nodes at place lower upper layer wire is_lower is_upper one_lower one_upper first second (inr h) = (
  place + 1,
  place,
  inr (refl, refl),
  ends_between nodes wire layer (at + 1) at h.own h.low h.high
      ∙ two_parts (first_part nodes (at + 1) + joined_part (node_at nodes (at + 1)).kind layer true)
      (first_part nodes at + joined_part (node_at nodes at).kind layer false) (place + 1) place
      (only_part nodes (at + 1) (place + 1) upper layer true is_upper one_upper second)
      (only_part nodes at place lower layer false is_lower one_lower first),
)

-- the bent wire, and the joints and wires after its first piece
abbrev pub five_of : ℕ → ℕ → ℕ → Five
five_of place n k =
    record {
      part = n + k;
      lower = place;
      middle = moved_number place n k (n + k) + 1;
      upper = place + 1;
      last = moved_number place n k (n + k) + 1 + 1;
    }

-- the links of both cells, where the other wires end where they did, and the ends of the bent one
pub bent_links : (bend : Bend) (prefix back : List Node) (lower upper : Node) (old new : CheckedCell)
    → AreInserted bend prefix back lower upper old.nodes new.nodes → IsOnePart lower → IsOnePart upper
    → (k low high : ℕ) (layer : Layer) (wires : AreWiresBent (length prefix) k old new) → low < length old.nodes
    → high < length old.nodes
    → AreThree (length prefix) low high layer wires.wire wires.first wires.middle wires.last
    → (links : AreBentLinks (attachments_of (cell_of old)) (attachments_of (cell_of new))
    (moved_number (first_part old.nodes (length prefix)) (node_parts old.nodes) k)
    (number_back (first_part old.nodes (length prefix)) (node_parts old.nodes) k)
    (five_of (first_part old.nodes (length prefix)) (node_parts old.nodes) k))
    × (wire_ends old.nodes wires.wire ≡ links.low ∷ links.high ∷ [])
bent_links bend prefix back lower upper old new are one_lower one_upper k low high layer wires lt_low lt_high three =
    let at : ℕ = length prefix in
    let place : ℕ = first_part old.nodes at in
    let n : ℕ = node_parts old.nodes in
    let base : ℕ = node_parts new.nodes in
    let m : ℕ → ℕ = moved_number place n k in
    let more : base ≡ n + 2 = node_parts_inserted bend prefix back lower upper old.nodes new.nodes are in
    let few : place ≤ n = sum_by-take-le (λ (node : Node). kind_parts node.kind) old.nodes at in
    let where_joints = parts_before bend prefix back lower upper old.nodes new.nodes are in
    let place_lower : first_part new.nodes at ≡ place = where_joints.1 ∙ sym where_joints.0 in
    let place_upper : first_part new.nodes (at + 1) ≡ place + 1 = where_joints.2
    ∙ ap (λ x. x + 1) (sym where_joints.0) in
    let is_lower : node_at new.nodes at ≡ lower = lower_at bend prefix back lower upper old.nodes new.nodes are in
    let is_upper : node_at new.nodes (at + 1) ≡ upper = upper_at bend prefix back lower upper old.nodes new.nodes are in
    let part_low : ℕ = first_part old.nodes low + joined_part (node_at old.nodes low).kind layer true in
    let part_high : ℕ = first_part old.nodes high + joined_part (node_at old.nodes high).kind layer false in
    let ends_wire : wire_ends old.nodes wires.wire ≡ part_low ∷ part_high ∷ [] =
    ends_between old.nodes wires.wire layer low high three.of_wire.own three.of_wire.low three.of_wire.high in
    let ends_first : wire_ends new.nodes wires.first ≡ m part_low ∷ place ∷ [] =
    ends_between new.nodes wires.first layer (node_after at low) at three.of_first.own three.of_first.low
    three.of_first.high
    ∙ two_parts
    (first_part new.nodes (node_after at low) + joined_part (node_at new.nodes (node_after at low)).kind layer
    true) (first_part new.nodes at + joined_part (node_at new.nodes at).kind layer false)
    (m part_low) place (part_at_end bend prefix back lower upper old.nodes new.nodes are k low layer true lt_low)
    (only_part new.nodes at place lower layer false is_lower one_lower place_lower) in
    let ends_last : wire_ends new.nodes wires.last ≡ (place + 1) ∷ m part_high ∷ [] =
    ends_between new.nodes wires.last layer (at + 1) (node_after at high) three.of_last.own three.of_last.low
    three.of_last.high
    ∙ two_parts (first_part new.nodes (at + 1) + joined_part (node_at new.nodes (at + 1)).kind layer true)
    (first_part new.nodes (node_after at high) + joined_part (node_at new.nodes (node_after at high)).kind layer
    false)
    (place + 1) (m part_high)
    (only_part new.nodes (at + 1) (place + 1) upper layer true is_upper one_upper place_upper)
    (part_at_end bend prefix back lower upper old.nodes new.nodes are k high layer false lt_high) in
    let (p, q, pair, ends_middle) =
    middle_ends new.nodes at place lower upper layer wires.middle is_lower is_upper one_lower one_upper
    place_lower place_upper three.of_middle in
    let part : ℕ = n + k in
    let part_moved : m part ≡ n + k + 2 = moved_between place n k part (omega (arith, few)) (omega arith) in
    let its_count : length wires.its_before ≡ k =
    sym (length_all_zip (IsMovedWire at old new) wires.before wires.its_before wires.before_moved)
    ∙ wires.count in
    let links_before : List (ℕ × ℕ) = attachments old.nodes n wires.before in
    let links_after : List (ℕ × ℕ) = attachments old.nodes (part + 1) wires.after in
    let second : ℕ = m part + 1 in
    let third : ℕ = m part + 1 + 1 in
    let number : n + length wires.before ≡ part = omega (arith, wires.count) in
    let its_number : m part ≡ base + length wires.its_before = omega (arith, part_moved, more, its_count) in
    let each_before : (t : ℕ) → t < length wires.before → m (n + t) ≡ base + t =
    λ t lt. moved_between place n k (n + t) (omega (arith, few)) (omega (arith, lt, wires.count))
    ∙ omega (arith, more) in
    let each_after : (t : ℕ) → t < length wires.after → m (part + 1 + t) ≡ (third + 1) + t =
    λ t lt. moved_above place n k (part + 1 + t) few (omega arith) ∙ omega (arith, part_moved) in
    let rest : List (ℕ × ℕ) = attachments new.nodes (third + 1) wires.its_after in
    let old_links : attachments old.nodes n old.wires ≡ links_before
    ++ (part, part_low) ∷ (part, part_high) ∷ links_after =
    ap (attachments old.nodes n) wires.old_wires
    ∙ attachments_append old.nodes n wires.before (wires.wire ∷ wires.after)
    ∙ ap (λ (links : List (ℕ × ℕ)). links_before ++ links)
    (attached_first old.nodes (n + length wires.before) part wires.wire wires.after part_low part_high
    (sym number) ends_wire) in
    let new_links : attachments new.nodes base new.wires
    ≡ map (both_moved m) links_before ++ (m part, m part_low) ∷ (m part, place) ∷ (second, p) ∷ (second, q) ∷
    (third, place + 1) ∷ (third, m part_high) ∷ map (both_moved m) links_after =
    ap (attachments new.nodes base) wires.new_wires
    ∙ attachments_append new.nodes base wires.its_before
    (wires.first ∷ wires.middle ∷ wires.last ∷ wires.its_after)
    ∙ ap (λ (links : List (ℕ × ℕ)). links ++ attachments new.nodes (base + length wires.its_before)
    (wires.first ∷ wires.middle ∷ wires.last ∷ wires.its_after))
    (links_moved bend prefix back lower upper old new are k n base wires.before wires.its_before each_before
    wires.before_moved)
    ∙ ap (λ (links : List (ℕ × ℕ)). map (both_moved m) links_before ++ links)
    (attached_first new.nodes (base + length wires.its_before) (m part) wires.first
    (wires.middle ∷ wires.last ∷ wires.its_after) (m part_low) place its_number ends_first
    ∙ ap (λ (links : List (ℕ × ℕ)). (m part, m part_low) ∷ (m part, place) ∷ links)
    (attached_first new.nodes second second wires.middle (wires.last ∷ wires.its_after) p q refl ends_middle
    ∙ ap (λ (links : List (ℕ × ℕ)). (second, p) ∷ (second, q) ∷ links)
    (attached_first new.nodes third third wires.last wires.its_after (place + 1) (m part_high) refl ends_last
    ∙ ap (λ (links : List (ℕ × ℕ)). (third, place + 1) ∷ (third, m part_high) ∷ links)
    (links_moved bend prefix back lower upper old new are k (part + 1) (third + 1) wires.after wires.its_after
    each_after wires.after_moved)))) in
    let backs = pair_back place n k p q pair in
    let second_back : number_back place n k second ≡ part =
    back_wires place n k second few (omega (arith, part_moved)) (omega (arith, part_moved)) in (
      record {
        before = links_before;
        after = links_after;
        low = part_low;
        high = part_high;
        between = (second, p) ∷ (second, q) ∷ [];
        old_links = old_links;
        new_links = new_links;
        to_lower = (pair_has second place p q pair).0;
        to_upper = (pair_has second place p q pair).1;
        only = ((second_back, backs.0), ((second_back, backs.1), tt));
        inverse = λ x. number_returns place n k x few;
        lower_back = back_joints place n k place (omega arith) (omega arith);
        middle_back = second_back;
        upper_back = back_joints place n k (place + 1) (omega arith) (omega arith);
        last_back = back_wires place n k third few (omega (arith, part_moved)) (omega (arith, part_moved));
      },
      ends_wire,
    )

-- ---- from the names of the wires' ends

zip_split : {A B : Type 0} (R : A → B → Type 0) (xs ys : List A) (zs : List B) → AllZip R (xs ++ ys) zs
    → (us : List B) × (vs : List B) × (zs ≡ us ++ vs) × AllZip R xs us × AllZip R ys vs
zip_split R [] ys zs h = ([], zs, refl, tt, h)
zip_split R (x ∷ xs) ys [] h = absurd h
zip_split R (x ∷ xs) ys (z ∷ zs) h = let (us, vs, e, prefix, back) =
    zip_split R xs ys zs h.1 in (z ∷ us, vs, ap (λ ws. z ∷ ws) e, (h.0, prefix), back)

zip_first : {A B : Type 0} (R : A → B → Type 0) (x : A) (xs : List A) (zs : List B) → AllZip R (x ∷ xs) zs
    → (y : B) × (ys : List B) × (zs ≡ y ∷ ys) × R x y × AllZip R xs ys
zip_first R x xs [] h = absurd h
zip_first R x xs (y ∷ ys) h = (y, ys, refl, h.0, h.1)

-- the wires of a cell, with one in the middle
pub record HasOne (tech : Tech) (known : CheckedCell) (before : List Joining) (joining : Joining)
    (after : List Joining) : Type 0 where
  pub prefix : List Wire
  pub wire : Wire
  pub back : List Wire
  pub wires : known.wires ≡ prefix ++ wire ∷ back
  pub prefix_joined : AllZip (IsJoined known) before prefix
  pub joined : IsJoined known joining wire
  pub back_joined : AllZip (IsJoined known) after back
  pub prefix_are : AllByRecursion (IsWire tech (cell_of known)) prefix
  pub back_are : AllByRecursion (IsWire tech (cell_of known)) back

pub has_one : (tech : Tech) (known : CheckedCell) (before : List Joining) (joining : Joining) (after : List Joining)
    → AllZip (IsJoined known) (before ++ joining ∷ after) known.wires
    → AllByRecursion (IsWire tech (cell_of known)) known.wires → HasOne tech known before joining after
has_one tech known before joining after h are =
    let (prefix, rest, e, prefix_joined, rest_joined) =
    zip_split (IsJoined known) before (joining ∷ after) known.wires h in
    let (wire, back, g, joined, back_joined) = zip_first (IsJoined known) joining after rest rest_joined in
    let whole : known.wires ≡ prefix ++ wire ∷ back = e ∙ ap (λ (ws : List Wire). prefix ++ ws) g in
    let parts = all_parts (IsWire tech (cell_of known)) prefix (wire ∷ back)
    (subst (AllByRecursion (IsWire tech (cell_of known))) whole are) in
    record {
      prefix = prefix;
      wire = wire;
      back = back;
      wires = whole;
      prefix_joined = prefix_joined;
      joined = joined;
      back_joined = back_joined;
      prefix_are = parts.0;
      back_are = parts.1.1;
    }

-- and with three
pub record HasThree (tech : Tech) (known : CheckedCell) (before : List Joining) (a b c : Joining)
    (after : List Joining) : Type 0 where
  pub prefix : List Wire
  pub first : Wire
  pub middle : Wire
  pub last : Wire
  pub back : List Wire
  pub wires : known.wires ≡ prefix ++ first ∷ middle ∷ last ∷ back
  pub prefix_joined : AllZip (IsJoined known) before prefix
  pub first_joined : IsJoined known a first
  pub middle_joined : IsJoined known b middle
  pub last_joined : IsJoined known c last
  pub back_joined : AllZip (IsJoined known) after back
  pub prefix_are : AllByRecursion (IsWire tech (cell_of known)) prefix
  pub first_is : IsWire tech (cell_of known) first
  pub last_is : IsWire tech (cell_of known) last
  pub back_are : AllByRecursion (IsWire tech (cell_of known)) back

whole_of_three : (wires prefix rest others ends back : List Wire) (first middle last : Wire) → wires ≡ prefix ++ rest
    → rest ≡ first ∷ others → others ≡ middle ∷ ends → ends ≡ last ∷ back
    → wires ≡ prefix ++ first ∷ middle ∷ last ∷ back
whole_of_three wires prefix rest others ends back first middle last e g i j = e
    ∙ ap (λ (ws : List Wire). prefix ++ ws)
    (g ∙ ap (λ (ws : List Wire). first ∷ ws) (i ∙ ap (λ (ws : List Wire). middle ∷ ws) j))

pub has_three : (tech : Tech) (known : CheckedCell) (before : List Joining) (a b c : Joining) (after : List Joining)
    → AllZip (IsJoined known) (before ++ a ∷ b ∷ c ∷ after) known.wires
    → AllByRecursion (IsWire tech (cell_of known)) known.wires → HasThree tech known before a b c after
has_three tech known before a b c after h are =
    let (prefix, rest, e, prefix_joined, rest_joined) =
    zip_split (IsJoined known) before (a ∷ b ∷ c ∷ after) known.wires h in
    let (first, others, g, first_joined, others_joined) =
    zip_first (IsJoined known) a (b ∷ c ∷ after) rest rest_joined in
    let (middle, ends, i, middle_joined, ends_joined) = zip_first (IsJoined known) b (c ∷ after) others others_joined in
    let (last, back, j, last_joined, back_joined) = zip_first (IsJoined known) c after ends ends_joined in
    let whole : known.wires ≡ prefix ++ first ∷ middle ∷ last ∷ back =
    whole_of_three known.wires prefix rest others ends back first middle last e g i j in
    let parts = all_parts (IsWire tech (cell_of known)) prefix (first ∷ middle ∷ last ∷ back)
    (subst (AllByRecursion (IsWire tech (cell_of known))) {y = prefix ++ first ∷ middle ∷ last ∷ back} whole
    are) in
    record {
      prefix = prefix;
      first = first;
      middle = middle;
      last = last;
      back = back;
      wires = whole;
      prefix_joined = prefix_joined;
      first_joined = first_joined;
      middle_joined = middle_joined;
      last_joined = last_joined;
      back_joined = back_joined;
      prefix_are = parts.0;
      first_is = parts.1.0;
      last_is = parts.1.1.1.0;
      back_are = parts.1.1.1.1;
    }
