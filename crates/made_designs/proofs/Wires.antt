-- Each wire of the cell is accepted: it runs from a metal joint to the next one of its row.
use Rattle.std.proofs.Common.{◌≡◌, ℕ, zero, suc, ◌+◌, ◌-◌, ◌*◌, ◌/◌, ◌%◌, ◌<◌, ◌≤◌, ℤ, Bool, true, false, ◌&&◌, List}
use Rattle.std.proofs.Common.{[], ◌∷◌, Option, Some, None, Ok, refl, sym, ap, subst, ◌∙◌, add-zero, arith}
use Rattle.std.proofs.lemmas.{List.length-append, Bool.{and_parts, Decides.nat_tests}, Int.ints, Nat.div-add-mod'}
use Rattle.std.{proofs.lemmas.Nat.{div-mul-add, mod-mul-add}, specs.Prelude.{◌==◌, nat_lt, int_le, option_and_then}}
use Rattle.std.specs.{Prelude.if◌then◌else◌, List.{filter_map, cons_option, range_with_len}}
use Rattle.list_facts.proofs.Elements.{all_append}
use Rattle.rule_table.specs.{declared.technology.Tech.Tech, Technology.width_of}
use Rattle.rule_table.specs.declared.classes.Layer.TheVariants as layers
use Rattle.cell_model.specs.declared.cell.{Axis2.TheVariants.Across, Wire.Wire}
use Rattle.cell_model.specs.declared.cell.NodeKind.TheVariants as kinds
use Rattle.cell_model.specs.declared.cell.WireEnd.TheVariants as ends
use Rattle.checked_cells.specs.declared.names.{NodePlace.NodePlace, Found.{Found, TheVariants.At}, Run.Run}
use Rattle.checked_cells.specs.{CheckedCell.{CheckedCell, cell_of, with_wire}, Paths.{named, names_at, walk_on, walk}}
use Rattle.checked_cells.specs.{Paths.found_at, Checks.sized, Lines.{wired_of, after_form, after_wire, after_lines}}
use Rattle.checked_cells.specs.Wires.{known_name, run_between, straight, are_sides_free, wire_where, wire_between}
use Rattle.checked_cells.proofs.Accepted.{less_from_test}
use Rattle.checked_cells.specs.declared.names.Terminal.TheVariants as terminals
use Rattle.stick_text.specs.{declared.fault.StickKind.TheVariants.WideWire, Reading.◌>>=◌, Order.at_line}
use Rattle.stick_text.specs.declared.design.Form.TheVariants as forms
use Rattle.stick_text.specs.declared.design.Layer.TheVariants as drawn
use Rattle.checked_cells.specs.declared.names.Binding.TheVariants as bindings
use Rattle.design_gen.specs.{Draws.point_at, Made.{name_at, is_metal, are_joined, is_wired, wire_at, lines_from}}
use Rattle.made_designs.proofs.{Names.{IsPoint, col_below, one_name}, Passing.one_passes, Plain.{IsPlainWire, IsPlain}}
use Rattle.made_designs.proofs.Nodes.{joint_at, StandsForJoint, IsAfter}

-- ---- two metal joints in one row

abbrev joint : Tech → ℕ → ℕ → ℕ → NodePlace
joint tech number col row =
    record { number = number; kind = kinds.Joint layers.Metal (width_of tech layers.Metal); col = col; row = row }

abbrev run : Tech → ℕ → ℕ → ℕ → ℕ → ℕ → Run
run tech i j from to row =
    record {
      along = Across;
      low = terminals.Node (joint tech i from row);
      high = terminals.Node (joint tech j to row);
      forward = true;
    }

runs_across : (tech : Tech) (i j from to row : ℕ) → from < to
    → run_between (terminals.Node (joint tech i from row)) (terminals.Node (joint tech j to row))
    ≡ Some (run tech i j from to row)
runs_across tech i j from to row lt =
    let same : (row == row) ≡ true = grind (arith, nat_tests) in
    let apart : (from == to) ≡ false = grind (arith, nat_tests) in
    let before : nat_lt from to ≡ true = grind (arith, nat_tests) in
    rw (same, apart, before) refl

abbrev wire : Tech → ℕ → ℕ → Wire
wire tech i j =
    record {
      layer = layers.Metal;
      width = width_of tech layers.Metal;
      low = ends.Node i;
      high = ends.Node j;
      along = Across;
    }

fits : (w : ℤ) → int_le w w ≡ true
fits w = grind (arith, ints)

pub wire_taken : (tech : Tech) (wired : List Bool) (wires : List Wire) (i j from to row : ℕ) → from < to
    → wire_between tech wired wires layers.Metal (At (terminals.Node (joint tech i from row)))
    (At (terminals.Node (joint tech j to row))) None ≡ Ok (wire tech i j)
unfolding wire_between sized
wire_taken tech wired wires i j from to row lt =
    let width : ℤ = width_of tech layers.Metal in
    ap (λ found. straight found >>= λ along. wire_where (are_sides_free wires layers.Metal along) tech wired
    layers.Metal None along) (runs_across tech i j from to row lt)
    ∙ one_passes (int_le width width && int_le width width) WideWire (Ok (wire tech i j))
    (ap (λ b. b && int_le width width) (fits width) ∙ fits width)

-- ---- the left neighbour

pub left_of : (n k : ℕ) → IsPoint n k → 0 < k % n → ((k - 1) % n + 1 ≡ k % n) × ((k - 1) / n ≡ k / n)
left_of n k p some =
    let col : ℕ = k % n - 1 in
    let below : col < n = omega (arith, col_below n k p, some) in
    let before : k - 1 ≡ k / n * n + col = omega (arith, div-add-mod' k n, some) in
    let same_col : (k - 1) % n ≡ col = ap (λ x. x % n) before ∙ mod-mul-add (k / n) n col below in
    (omega (arith, same_col, some), ap (λ x. x / n) before ∙ div-mul-add (k / n) n col below)

-- ---- the lines of wires

-- after the wires to the points below k: each metal joint is there, and the cell has plain nodes and wires and
-- nothing else
pub record HasJoints (tech : Tech) (n k : ℕ) (known : CheckedCell) : Type 0 where
  pub joints : (j : ℕ) → IsPoint n j → is_metal (point_at n j).stand ≡ true → StandsForJoint tech n known.names j
  pub closed : known.plugs ≡ []
  pub plain : IsPlain tech (n * n) k (cell_of known)

pub has_joints : (tech : Tech) (n : ℕ) (known : CheckedCell) → IsAfter tech n (n * n) known → HasJoints tech n 0 known
has_joints tech n known after =
    record { joints = λ j p metal. after.joints j p p.within metal; closed = after.closed; plain = after.plain }

-- no wire leads to a point
no_wire_joints : (tech : Tech) (n k : ℕ) (known : CheckedCell) → HasJoints tech n k known
    → HasJoints tech n (k + 1) known
no_wire_joints tech n k known has = record {
  joints = has.joints;
  closed = has.closed;
  plain = record {
    nodes = has.plain.nodes;
    few_nodes = has.plain.few_nodes;
    wires = has.plain.wires;
    few_wires = (let few = has.plain.few_wires in omega (arith, few));
    limits = has.plain.limits;
  };
}

-- a path that is the name of a metal joint
found_joint : (tech : Tech) (n j i : ℕ) (known : CheckedCell) → IsPoint n j
    → named known.names (name_at n j) ≡ Some (bindings.Node (joint_at tech n j i))
    → found_at [] known (name_at n j) ≡ Some (At (terminals.Node (joint_at tech n j i)))
unfolding found_at
found_joint tech n j i known p there =
    ap (walk [] known.names) (one_name n j p)
    ∙ ap (option_and_then (λ binding. walk_on binding [] (λ k. walk [] (names_at [] k) []))) there

-- one more wire changes no names and no ports
with_wire_joints : (tech : Tech) (n k i j : ℕ) (known : CheckedCell) → HasJoints tech n k known
    → HasJoints tech n (k + 1) (with_wire known (wire tech i j))
with_wire_joints tech n k i j known has = record {
  joints = has.joints;
  closed = has.closed;
  plain = record {
    nodes = has.plain.nodes;
    few_nodes = has.plain.few_nodes;
    wires = all_append (IsPlainWire tech) known.wires (wire tech i j ∷ []) has.plain.wires (refl, tt);
    few_wires = (let few = has.plain.few_wires in omega (arith, few, length-append known.wires (wire tech i j ∷ [])));
    limits = has.plain.limits;
  };
}

-- a wire between what two paths come to
between : (tech : Tech) (known : CheckedCell) (from to : Option Found) (a b : Found) (taken : Wire) → from ≡ Some a
    → to ≡ Some b → wire_between tech (wired_of known) known.wires layers.Metal a b None ≡ Ok taken → (do
      first ← known_name from
      second ← known_name to
      made ← wire_between tech (wired_of known) known.wires layers.Metal first second None
      Ok (with_wire known made)) ≡ Ok (with_wire known taken)
between tech known from to a b taken e f g =
    ap (λ found. known_name found >>= λ first. known_name to >>= λ second.
    wire_between tech (wired_of known) known.wires layers.Metal first second None >>= λ made.
    Ok (with_wire known made)) e
    ∙ ap (λ found. known_name found >>= λ second. wire_between tech (wired_of known) known.wires layers.Metal a second
    None >>= λ made. Ok (with_wire known made)) f
    ∙ ap (λ found. found >>= λ made. Ok (with_wire known made)) g

-- the wire to a point is accepted
abbrev IsTaken : Tech → ℕ → ℕ → CheckedCell → Type 0
IsTaken tech n k known = (next : CheckedCell)
    × (after_form tech [] known (forms.Wire drawn.Metal (name_at n (k - 1)) (name_at n k) None) ≡ Ok next)
    × HasJoints tech n (k + 1) next

wire_accepted : (tech : Tech) (n k : ℕ) (known : CheckedCell) → IsPoint n k → HasJoints tech n k known
    → is_wired n k ≡ true → IsTaken tech n k known
unfolding after_wire
wire_accepted tech n k known p has wired =
    let apart = and_parts (nat_lt 0 (k % n)) (are_joined (point_at n (k - 1)) (point_at n k)) wired in
    let joined = and_parts (is_metal (point_at n (k - 1)).stand)
    (is_metal (point_at n k).stand && (point_at n k).is_joined) apart.1 in
    let right = and_parts (is_metal (point_at n k).stand) (point_at n k).is_joined joined.1 in
    let left = left_of n k p (less_from_test 0 (k % n) apart.0) in
    let q : IsPoint n (k - 1) = record { few = p.few; within = omega (arith, p.within) } in
    let a = has.joints (k - 1) q joined.0 in
    let b = has.joints k p right.0 in
    let from : found_at [] known (name_at n (k - 1))
    ≡ Some (At (terminals.Node (joint tech a.0 ((k - 1) % n) (k / n)))) =
    found_joint tech n (k - 1) a.0 known q a.1
    ∙ ap (λ row. Some (At (terminals.Node (joint tech a.0 ((k - 1) % n) row)))) left.1 in
    let to = found_joint tech n k b.0 known p b.1 in
    let taken = wire_taken tech (wired_of known) known.wires a.0 b.0 ((k - 1) % n) (k % n) (k / n)
    (omega (arith, left.0)) in (
      with_wire known (wire tech a.0 b.0),
      between tech known _ _ _ _ (wire tech a.0 b.0) from to
          taken,
      with_wire_joints tech n k a.0 b.0 known has,
    )

-- ---- all wires

pub record Ends (tech : Tech) (n k m : ℕ) (known : CheckedCell) : Type 0 where
  pub last : CheckedCell
  pub has : HasJoints tech n (k + m) last
  pub on : (number : ℕ) → after_lines tech [] known (lines_from number (filter_map (wire_at n) (range_with_len k m)))
      ≡ Ok last

counted : (tech : Tech) (n k m : ℕ) (last : CheckedCell) → HasJoints tech n (k + 1 + m) last
    → HasJoints tech n (k + suc m) last
counted tech n k m last has = let same : k + 1 + m ≡ k + suc m =
    omega arith in subst (λ i. HasJoints tech n i last) same has

one_more : (tech : Tech) (n k m : ℕ) (known : CheckedCell) (wired : Bool) → is_wired n k ≡ wired
    → HasJoints tech n k known → (is_wired n k ≡ true → IsTaken tech n k known)
    → ((next : CheckedCell) → HasJoints tech n (k + 1) next → Ends tech n (k + 1) m next) → Ends tech n k (suc m) known
unfolding wire_at
one_more tech n k m known false e has taken rest =
    let after = rest known (no_wire_joints tech n k known has) in
    let later = filter_map (wire_at n) (range_with_len (k + 1) m) in
    record {
      last = after.last;
      has = counted tech n k m after.last after.has;
      on = λ number.
          ap (λ b. after_lines tech [] known
          (lines_from number
          (cons_option (if b then Some (forms.Wire drawn.Metal (name_at n (k - 1)) (name_at n k) None) else None)
          later))) e ∙ after.on number;
    }
one_more tech n k m known true e has taken rest =
    let next = taken e in
    let after = rest next.0 next.2 in
    let later = filter_map (wire_at n) (range_with_len (k + 1) m) in
    record {
      last = after.last;
      has = counted tech n k m after.last after.has;
      on = λ number.
          ap (λ b. after_lines tech [] known
          (lines_from number
          (cons_option (if b then Some (forms.Wire drawn.Metal (name_at n (k - 1)) (name_at n k) None) else None)
          later))) e
          ∙ ap (λ found. at_line number found >>= λ now. after_lines tech [] now (lines_from (number + 1) later)) next.1
          ∙ after.on (number + 1);
    }

pub all_wires : (tech : Tech) (n m k : ℕ) (known : CheckedCell) → n ≤ 64 → k + m ≤ n * n → HasJoints tech n k known
    → Ends tech n k m known
all_wires tech n zero k known few within has =
    record { last = known; has = subst (λ i. HasJoints tech n i known) (sym (add-zero k)) has; on = λ number. refl }
all_wires tech n (suc m) k known few within has =
    let here : k < n * n = omega (arith, within) in
    let after : k + 1 + m ≤ n * n = omega (arith, within) in
    one_more tech n k m known (is_wired n k) refl has
    (wire_accepted tech n k known (record { few = few; within = here }) has)
    (λ next joints. all_wires tech n m (k + 1) next few after joints)
