-- A line or a cell that is refused breaks the rule of its kind, and one that is not refused breaks none.
use Rattle.std.proofs.Common.{◌≡◌, ◌≢◌, ℕ, ◌+◌, ◌==◌, ◌%◌, nat_lt, nat_le, Bool, true, false, not, ◌&&◌, ◌||◌, cond, ℤ}
use Rattle.std.proofs.Common.{pos, List, [], ◌∷◌, ◌++◌, Option, Some, None, Result, Ok, Err, refl, sym, ap, subst, ◌∙◌}
use Rattle.std.{proofs.Common.{inl, inr}, specs.{Prelude.{◌⊎◌, IsTrue, int_le, ◌<ℤ◌, bytes_eq}, List.list_all}}
use Rattle.rule_table.specs.declared.{technology.Tech.Tech, classes.Layer.{Layer, TheVariants.{Diffusion, Poly, Metal}}}
use Rattle.rule_table.specs.Technology.{width_of, has_buried_of}
use Rattle.lam_geom.specs.declared.boxes.Side.{Side, TheVariants.{Left, Right, Bottom, Top}}
use Rattle.stick_text.specs.declared.fault.StickKind.{StickKind, TheVariants.{WrongTerminal, NotStraight, WrongLayer}}
use Rattle.stick_text.specs.declared.fault.StickKind.TheVariants.{WrongSide, PortWires, BadSize, NarrowWire, WideWire}
use Rattle.stick_text.specs.declared.fault.StickKind.TheVariants.{RepeatedName, UnknownName, UseCycle, UseDepth}
use Rattle.stick_text.specs.declared.fault.StickKind.TheVariants.{UsedPorts, FarPlace, BadLimit, NoBuried}
use Rattle.stick_text.specs.declared.{fault.StickFault.StickFault, design.{Form.Form, Line.Line, CellText.CellText}}
use Rattle.stick_text.specs.{Reading.{◌>>=◌, demand}, Order.at_line}
use Rattle.stick_text.specs.declared.design.Form.TheVariants as forms
use Rattle.cell_model.specs.{declared.cell.{Axis2.Axis2, Wire.Wire}, Wiring.{axis_of, is_low_side, is_same_axis}}
use Rattle.cell_model.specs.{Wiring.is_same_layer, Sound.{wire_at, no_wire}}
use Rattle.checked_cells.specs.declared.names.{NodePlace.NodePlace, Terminal.{Terminal, TheVariants.{Node, Port}}}
use Rattle.checked_cells.specs.declared.names.{Found.{Found, TheVariants.{At, AtCopy, Through}}, Run.Run}
use Rattle.checked_cells.specs.{CheckedCell.{CheckedCell, begun, known_at, greatest_col, greatest_row}, Paths.found_at}
use Rattle.checked_cells.specs.Checks.{is_fresh, is_place, is_even_size, is_channel, layer_of, sized}
use Rattle.checked_cells.specs.Wires.{known_name, line_of, run_between, straight, takes_layer, takes_along, is_buried}
use Rattle.checked_cells.specs.Wires.{leaves, is_side_free, are_sides_free, is_free, fills_pad, is_within_pad, at_both}
use Rattle.checked_cells.specs.{Wires.{wire_where, wire_between, limited}, Lines.{number_of, known_number, is_empty}}
use Rattle.checked_cells.specs.Lines.{wired_of, is_wired, is_new_cell, with_use, after_joint, after_contact}
use Rattle.checked_cells.specs.Lines.{after_buried, after_fet, after_port, after_use, after_wire, after_limit}
use Rattle.checked_cells.specs.Lines.{after_form, after_lines, after_cell}
use Rattle.checked_cells.proofs.Accepted.{bound, ok_same, at_line_ok, eq_from_test, apart_from_test, known_number_ok}
use Rattle.checked_cells.proofs.{Accepted.straight_ok, BuiltSides.{passes_at, layer_same}}
use Rattle.stick_cell.specs.Refusals.{IsTaken, IsFar, IsOddOrLarge, IsWrongWidth, IsWrongChannel, IsOpposite}
use Rattle.stick_cell.specs.Refusals.{IsNotStraight, IsRefusedAtEnd, IsTakenSide, IsWrongRun, IsRefusedWire}
use Rattle.stick_cell.specs.Refusals.{IsWrongLimit, IsWrongCopy, IsWrongUse, IsWrongBetween, IsWrongLine, IsAt}
use Rattle.stick_cell.specs.Refusals.{IsWrongAmong, IsWrongCell}
use Rattle.stick_cell.proofs.{SidesFree.is_kind, Judged.{Denies, Judges, fails_at, both_deny, test_denies, not_denies}}
use Rattle.stick_cell.proofs.Judged.{even_denies, at_most_denies, below_denies, some_denies, apart_denies, wide_denies}
use Rattle.stick_cell.proofs.Judged.{empty_denies, fails, passes, tested, then, then_with, last}

-- ---- names, places and sizes

fresh : (known : CheckedCell) (name : List ℕ)
    → Judges (demand (is_fresh known.names name) RepeatedName) (IsTaken known name)
fresh known name = tested (is_fresh known.names name) RepeatedName (test_denies (is_fresh known.names name))

near : (col row : ℕ) → Judges (demand (is_place col && is_place row) FarPlace) (IsFar col row)
near col row = tested (is_place col && is_place row) FarPlace
    (both_deny (is_place col) (is_place row) (at_most_denies col 4095) (at_most_denies row 4095))

even_size : (n : ℕ) → Denies (is_even_size n) (IsOddOrLarge n)
even_size n = both_deny (n % 2 == 0) (nat_le n 4096) (even_denies n) (at_most_denies n 4096)

channel : (tech : Tech) (w l : ℕ) → Judges (demand (is_channel tech w l) BadSize) (IsWrongChannel tech w l)
channel tech w l =
    tested (is_channel tech w l) BadSize
    (both_deny (is_even_size w && is_even_size l)
    (int_le (width_of tech Diffusion) (pos w) && int_le (width_of tech Poly) (pos l))
    (both_deny (is_even_size w) (is_even_size l) (even_size w) (even_size l))
    (both_deny (int_le (width_of tech Diffusion) (pos w)) (int_le (width_of tech Poly) (pos l))
    (wide_denies (width_of tech Diffusion) (pos w)) (wide_denies (width_of tech Poly) (pos l))))

some_same : (m n : ℕ) → Some m ≡ Some n → m ≡ n
some_same m n e = cc

width : (tech : Tech) (layer : Layer) (given : Option ℕ)
    → Judges (sized tech layer given) (IsWrongWidth tech layer given)
unfolding sized
width tech layer None = passes (width_of tech layer) (λ kind wrong. absurd (cc))
width tech layer (Some w) =
    record {
      refused = λ kind is. (w, refl, given.refused kind is);
      accepted = λ size is kind wrong. same_width size kind is wrong;
    }
  where
    given : Judges (sized tech layer (Some w))
        (λ kind. ((kind ≡ BadSize) × (IsOddOrLarge w ⊎ (w ≡ 0)))
        ⊎ ((kind ≡ NarrowWire) × (pos w <ℤ width_of tech layer)))
    given = then (demand (is_even_size w && nat_lt 0 w) BadSize) _
        (tested (is_even_size w && nat_lt 0 w) BadSize
        (both_deny (is_even_size w) (nat_lt 0 w) (even_size w) (some_denies w))) λ u.
        last (demand (int_le (width_of tech layer) (pos w)) NarrowWire) _
        (tested (int_le (width_of tech layer) (pos w)) NarrowWire (wide_denies (width_of tech layer) (pos w)))

    same_width : (size : ℤ) (kind : StickKind) → sized tech layer (Some w) ≡ Ok size
        → IsWrongWidth tech layer (Some w) kind → ⊥
    same_width size kind is (n, same, wrong) =
        given.accepted size is kind
        (subst (λ m. ((kind ≡ BadSize) × (IsOddOrLarge m ⊎ (m ≡ 0)))
        ⊎ ((kind ≡ NarrowWire) × (pos m <ℤ width_of tech layer))) (sym (some_same w n same)) wrong)

-- ---- wires

-- equal numbers make a run
if_same : {Wrong : Type 0} (m n : ℕ) (run : Run) → (m ≢ n → Wrong) → (m ≡ n → Wrong → ⊥)
    → Judges (straight (cond (m == n) (Some run) None)) (λ kind. (kind ≡ NotStraight) × Wrong)
if_same {Wrong = Wrong} m n run bad good = by (m == n) refl
  where
    by : (b : Bool) → (m == n) ≡ b → Judges (straight (cond b (Some run) None)) (λ kind. (kind ≡ NotStraight) × Wrong)
    by true is = passes run (λ kind wrong. good (eq_from_test m n is) wrong.1)
    by false is = fails NotStraight (refl, bad (apart_from_test m n (ap not is)))

of_line : (m n : ℕ) (run : Run)
    → Judges (straight (cond (m == n) (Some run) None)) (λ kind. (kind ≡ NotStraight) × (m ≢ n))
of_line m n run = if_same m n run (λ apart. apart) (λ same apart. apart same)

of_nodes : (a b c d : ℕ) (across up : Run)
    → Judges
    (straight (cond ((c == d) && not (a == b)) (Some across) (cond ((a == b) && not (c == d)) (Some up) None)))
    (λ kind. (kind ≡ NotStraight) × (((a ≡ b) × (c ≡ d)) ⊎ ((a ≢ b) × (c ≢ d))))
of_nodes a b c d across up = by (a == b) (c == d) refl refl
  where
    by : (x y : Bool) → (a == b) ≡ x → (c == d) ≡ y
        → Judges (straight (cond (y && not x) (Some across) (cond (x && not y) (Some up) None)))
        (λ kind. (kind ≡ NotStraight) × (((a ≡ b) × (c ≡ d)) ⊎ ((a ≢ b) × (c ≢ d))))
    by true true x y = fails NotStraight (refl, inl (eq_from_test a b x, eq_from_test c d y))
    by false false x y = fails NotStraight (refl, inr (apart_from_test a b (ap not x), apart_from_test c d (ap not y)))
    by true false x y = passes up (λ kind wrong. one (apart_from_test c d (ap not y)) wrong.1)
      where
        one : c ≢ d → ((a ≡ b) × (c ≡ d)) ⊎ ((a ≢ b) × (c ≢ d)) → ⊥
        one apart (inl both) = apart both.1
        one apart (inr neither) = neither.0 (eq_from_test a b x)
    by false true x y = passes across (λ kind wrong. one (apart_from_test a b (ap not x)) wrong.1)
      where
        one : a ≢ b → ((a ≡ b) × (c ≡ d)) ⊎ ((a ≢ b) × (c ≢ d)) → ⊥
        one apart (inl both) = apart both.0
        one apart (inr neither) = neither.1 (eq_from_test c d y)

of_opposite : (m n : ℕ) (run : Run)
    → Judges (straight (cond (m == n) (Some run) None)) (λ kind. (kind ≡ NotStraight) × (Unit {0} → m ≢ n))
of_opposite m n run = if_same m n run (λ apart is. apart) (λ same wrong. wrong tt same)

of_ports : (s t : Side) (m n : ℕ) (run : Run)
    → Judges
    (straight
    (cond (is_same_axis (axis_of s) (axis_of t)
    && (not (is_low_side s) && is_low_side t || is_low_side s && not (is_low_side t)) && (m == n)) (Some run) None))
    (λ kind. (kind ≡ NotStraight) × (IsOpposite s t → m ≢ n))
of_ports Left Right m n run = of_opposite m n run
of_ports Right Left m n run = of_opposite m n run
of_ports Left Left m n run = fails NotStraight (refl, λ is. absurd is)
of_ports Left Bottom m n run = fails NotStraight (refl, λ is. absurd is)
of_ports Left Top m n run = fails NotStraight (refl, λ is. absurd is)
of_ports Right Right m n run = fails NotStraight (refl, λ is. absurd is)
of_ports Bottom Top m n run = of_opposite m n run
of_ports Right Bottom m n run = fails NotStraight (refl, λ is. absurd is)
of_ports Right Top m n run = fails NotStraight (refl, λ is. absurd is)
of_ports Top Bottom m n run = of_opposite m n run
of_ports Bottom Left m n run = fails NotStraight (refl, λ is. absurd is)
of_ports Bottom Right m n run = fails NotStraight (refl, λ is. absurd is)
of_ports Bottom Bottom m n run = fails NotStraight (refl, λ is. absurd is)
of_ports Top Left m n run = fails NotStraight (refl, λ is. absurd is)
of_ports Top Right m n run = fails NotStraight (refl, λ is. absurd is)
of_ports Top Top m n run = fails NotStraight (refl, λ is. absurd is)

of_run : (a b : Terminal) → Judges (straight (run_between a b)) (λ kind. (kind ≡ NotStraight) × IsNotStraight a b)
of_run (Node a) (Node b) = of_nodes a.col b.col a.row b.row _ _
of_run (Node a) (Port q) = of_line (line_of (axis_of q.side) a) q.place _
of_run (Port p) (Node b) = of_line (line_of (axis_of p.side) b) p.place _
of_run (Port p) (Port q) = of_ports p.side q.side p.place q.place _

at_ends : (test : Terminal → Bool) (run : Run) (kind : StickKind)
    → Judges (demand (at_both test run) kind) (λ k. (k ≡ kind) × IsRefusedAtEnd test run)
at_ends test run kind =
    tested (at_both test run) kind
    (both_deny (test run.low) (test run.high) (test_denies (test run.low)) (test_denies (test run.high)))

-- a buried contact's side is free where no wire of another layer leaves it there
side_denies : (wires : List Wire) (layer : Layer) (along : Axis2) (is_low : Bool) (t : Terminal)
    → Denies (is_side_free wires layer along is_low t) (IsTakenSide wires layer along is_low t)
side_denies wires layer along is_low (Port pin) = record { bad = λ e. absurd cc; good = λ e wrong. wrong }
side_denies wires layer along is_low (Node node_place) = by (is_buried node_place.kind) refl
  where
    test : Wire → Bool
    test wire = not (leaves node_place.number along is_low wire) || is_same_layer wire.layer layer

    other : (a b : Bool) → (not a || b) ≡ false → (a ≡ true) × (b ≡ false)
    other true b e = (refl, e)
    other false b e = absurd cc

    layer_itself : (l : Layer) → is_same_layer l l ≡ true
    layer_itself Diffusion = refl
    layer_itself Poly = refl
    layer_itself Metal = refl

    by : (b : Bool) → is_buried node_place.kind ≡ b
        → Denies (not b || list_all test wires) (IsTakenSide wires layer along is_low (Node node_place))
    by false plain =
        record {
          bad = λ e. absurd cc;
          good = λ e wrong. let both_ways : true ≡ false = sym (ap is_buried wrong.0)
              ∙ plain in absurd cc;
        }
    by true buried = record {
      bad = λ e.
          let at = fails_at test wires no_wire e in
          let parts = other (leaves node_place.number along is_low (wire_at wires at.0))
          (is_same_layer (wire_at wires at.0).layer layer) at.2 in (
            is_kind node_place.kind buried,
            (
              at.0,
              at.1,
              parts.0,
              λ same. let both_ways : true
                  ≡ false = sym (ap (λ (l : Layer). is_same_layer l layer) same ∙ layer_itself layer) ∙ parts.1 in cc,
            ),
          );
      good = λ e wrong.
          let passed : IsTrue (test (wire_at wires wrong.1.0)) = passes_at test wires no_wire wrong.1.0 e wrong.1.1 in
          let there : leaves node_place.number along is_low (wire_at wires wrong.1.0) ≡ true = wrong.1.2 in
          wrong.1.3
          (layer_same (wire_at wires wrong.1.0).layer layer
          (subst (λ (b : Bool). IsTrue (not b || is_same_layer (wire_at wires wrong.1.0).layer layer)) there
          passed));
    }

free_sides : (wires : List Wire) (layer : Layer) (run : Run)
    → Denies (are_sides_free wires layer run)
    (IsTakenSide wires layer run.along true run.low ⊎ IsTakenSide wires layer run.along false run.high)
free_sides wires layer run =
    both_deny (is_side_free wires layer run.along true run.low) (is_side_free wires layer run.along false run.high)
    (side_denies wires layer run.along true run.low) (side_denies wires layer run.along false run.high)

taken_sides : (wires : List Wire) (layer : Layer) (run : Run)
    → Judges (demand (at_both (takes_along layer run.along) run && are_sides_free wires layer run) WrongSide)
    (λ kind. (kind ≡ WrongSide)
    × (IsRefusedAtEnd (takes_along layer run.along) run
    ⊎ (IsTakenSide wires layer run.along true run.low ⊎ IsTakenSide wires layer run.along false run.high)))
taken_sides wires layer run = tested (at_both (takes_along layer run.along) run && are_sides_free wires layer run)
    WrongSide
    (both_deny (at_both (takes_along layer run.along) run) (are_sides_free wires layer run)
    (both_deny (takes_along layer run.along run.low) (takes_along layer run.along run.high)
    (test_denies (takes_along layer run.along run.low)) (test_denies (takes_along layer run.along run.high)))
    (free_sides wires layer run))

along_run : (tech : Tech) (wired : List Bool) (wires : List Wire) (layer : Layer) (given : Option ℕ) (run : Run)
    → Judges (wire_where (are_sides_free wires layer run) tech wired layer given run)
    (IsWrongRun tech wired wires layer given run)
along_run tech wired wires layer given run =
    then (demand (at_both (takes_layer layer) run) WrongLayer) _ (at_ends (takes_layer layer) run WrongLayer) λ u.
    then (demand (at_both (takes_along layer run.along) run && are_sides_free wires layer run) WrongSide) _
    (taken_sides wires layer run) λ u.
    then (demand (at_both (is_free wired) run) PortWires) _ (at_ends (is_free wired) run PortWires) λ u.
    then_with (sized tech layer given) _ (width tech layer given) (λ size is. is) (λ size is. is) λ size is.
    then (demand (at_both (fills_pad tech size) run) NarrowWire) _ (at_ends (fills_pad tech size) run NarrowWire) λ u.
    last (demand (at_both (is_within_pad tech layer size) run) WideWire) _
    (at_ends (is_within_pad tech layer size) run WideWire)

pub wire : (tech : Tech) (wired : List Bool) (wires : List Wire) (layer : Layer) (a b : Found) (given : Option ℕ)
    → Judges (wire_between tech wired wires layer a b given) (IsRefusedWire tech wired wires layer a b given)
unfolding wire_between
wire tech wired wires layer AtCopy b given = fails WrongTerminal refl
wire tech wired wires layer Through b given = fails WrongTerminal refl
wire tech wired wires layer (At a) AtCopy given = fails WrongTerminal refl
wire tech wired wires layer (At a) Through given = fails WrongTerminal refl
wire tech wired wires layer (At a) (At b) given =
    then_with (straight (run_between a b))
    (λ run. wire_where (are_sides_free wires layer run) tech wired layer given run) (of_run a b)
    (λ run is. straight_ok (run_between a b) run is) (λ run is. ap straight is)
    (λ run is. along_run tech wired wires layer given run)

-- ---- uses

copy : (known : CheckedCell) (name : List ℕ) (k : ℕ) (used : CheckedCell) (col row : ℕ)
    → Judges (with_use known name k used col row) (IsWrongCopy used col row)
unfolding with_use
copy known name k used col row =
    then (demand (is_empty used.plugs) UsedPorts) _ (tested (is_empty used.plugs) UsedPorts (empty_denies used.plugs))
    λ u.
    then (demand (nat_lt used.depth 16) UseDepth) _
    (tested (nat_lt used.depth 16) UseDepth (below_denies used.depth 16)) λ u.
    last (demand (is_place (col + greatest_col used.nodes) && is_place (row + greatest_row used.nodes)) FarPlace) _
    (near (col + greatest_col used.nodes) (row + greatest_row used.nodes))

numbered : (found : Option ℕ) → Judges (known_number found) (λ kind. (kind ≡ UnknownName) × (found ≡ None))
numbered None = fails UnknownName (refl, refl)
numbered (Some k) = passes k (λ kind wrong. absurd (cc))

pub use_of : (cells : List CheckedCell) (known : CheckedCell) (name cell : List ℕ) (col row : ℕ)
    → Judges (after_use cells known name cell col row) (IsWrongUse cells known name cell col row)
unfolding after_use
use_of cells known name cell col row =
    then (demand (is_fresh known.names name) RepeatedName) _ (fresh known name) λ u.
    then (demand (not (bytes_eq cell known.name)) UseCycle) _
    (tested (not (bytes_eq cell known.name)) UseCycle (not_denies (bytes_eq cell known.name))) λ u.
    then_with (known_number (number_of cells cell)) _ (numbered (number_of cells cell))
    (λ k is. known_number_ok (number_of cells cell) k is) (λ k is. ap known_number is)
    λ k is. copy known name k (known_at cells k) col row

-- ---- lines

between : {A : Type 0} {Wrong : Found → Found → StickKind → Type 0} (a b : Option Found)
    (f : Found → Found → Result A StickKind) → ((from to : Found) → Judges (f from to) (Wrong from to))
    → Judges (known_name a >>= λ from. known_name b >>= λ to. f from to) (IsWrongBetween a b Wrong)
between None b f judged = fails UnknownName refl
between (Some from) None f judged = fails UnknownName refl
between (Some from) (Some to) f judged = judged from to

limit : {A : Type 0} (a b : Found) (f : NodePlace → NodePlace → A)
    → Judges (limited a >>= λ first. limited b >>= λ second.
    demand (not (first.number == second.number)) BadLimit >>= λ u. Ok (f first second)) (IsWrongLimit a b)
limit (At (Node a)) (At (Node b)) f =
    last (demand (not (a.number == b.number)) BadLimit) _
    (tested (not (a.number == b.number)) BadLimit (apart_denies a.number b.number))
limit (At (Node a)) (At (Port q)) f = fails BadLimit refl
limit (At (Node a)) AtCopy f = fails BadLimit refl
limit (At (Node a)) Through f = fails BadLimit refl
limit (At (Port p)) b f = fails BadLimit refl
limit AtCopy b f = fails BadLimit refl
limit Through b f = fails BadLimit refl

pub line : (tech : Tech) (cells : List CheckedCell) (known : CheckedCell) (form : Form)
    → Judges (after_form tech cells known form) (IsWrongLine tech cells known form)
unfolding after_joint after_contact after_buried after_fet after_port after_wire after_limit
line tech cells known (forms.Joint name layer col row given) =
    then (demand (is_fresh known.names name) RepeatedName) _ (fresh known name) λ u.
    then (demand (is_place col && is_place row) FarPlace) _ (near col row) λ u.
    last (sized tech (layer_of layer) given) _ (width tech (layer_of layer) given)
line tech cells known (forms.Contact name lower col row) =
    then (demand (is_fresh known.names name) RepeatedName) _ (fresh known name) λ u.
    last (demand (is_place col && is_place row) FarPlace) _ (near col row)
line tech cells known (forms.Buried name col row) =
    then (demand (is_fresh known.names name) RepeatedName) _ (fresh known name) λ u.
    then (demand (is_place col && is_place row) FarPlace) _ (near col row) λ u.
    last (demand (has_buried_of tech) NoBuried) _
    (tested (has_buried_of tech) NoBuried (test_denies (has_buried_of tech)))
line tech cells known (forms.Fet name depletion vertical col row w l) =
    then (demand (is_fresh known.names name) RepeatedName) _ (fresh known name) λ u.
    then (demand (is_place col && is_place row) FarPlace) _ (near col row) λ u.
    last (demand (is_channel tech w l) BadSize) _ (channel tech w l)
line tech cells known (forms.Port name side layer place) =
    then (demand (is_fresh known.names name) RepeatedName) _ (fresh known name) λ u.
    last (demand (is_place place) FarPlace) _ (tested (is_place place) FarPlace (at_most_denies place 4095))
line tech cells known (forms.Inst name cell col row) = use_of cells known name cell col row
line tech cells known (forms.Wire layer a b given) =
    between (found_at cells known a) (found_at cells known b) _ (λ from to.
    last (wire_between tech (wired_of known) known.wires (layer_of layer) from to given) _
    (wire tech (wired_of known) known.wires (layer_of layer) from to given))
line tech cells known (forms.Limit vertical a b at_most n) =
    between (found_at cells known a) (found_at cells known b) _ (λ from to. limit from to _)

-- ---- cells

located : {A : Type 0} {Wrong : StickKind → Type 0} (number : ℕ) (r : Result A StickKind) → Judges r Wrong
    → Judges (at_line number r) (IsAt number Wrong)
located number (Ok x) judged = passes x (λ fault wrong. judged.accepted x refl fault.kind wrong.1)
located number (Err kind) judged = fails (record { line = number; kind = kind }) (refl, judged.refused kind refl)

err_same : {A E : Type 0} (x y : E) → ◌≡◌ {A = Result A E} (Err x) (Err y) → x ≡ y
err_same x y e = cc

-- the line after some lines that are read is read too
read_after : (tech : Tech) (cells : List CheckedCell) (known : CheckedCell) (before : List Line) (line : Line)
    (later : List Line) (next last : CheckedCell) → after_lines tech cells known before ≡ Ok next
    → after_lines tech cells known (before ++ line ∷ later) ≡ Ok last
    → (m : CheckedCell) × (after_form tech cells next line.form ≡ Ok m)
read_after tech cells known [] line later next last is all =
    let step = bound (at_line line.number (after_form tech cells known line.form))
    (λ m. after_lines tech cells m later) last all in (
      step.0,
      ap (λ k. after_form tech cells k line.form) (sym (ok_same known next is))
          ∙ at_line_ok line.number (after_form tech cells known line.form) step.0 step.1,
    )
read_after tech cells known (first ∷ before) line later next last is all =
    let step = bound (at_line first.number (after_form tech cells known first.form))
    (λ m. after_lines tech cells m before) next is in
    read_after tech cells step.0 before line later next last step.2
    (sym (ap (λ r. r >>= λ m. after_lines tech cells m (before ++ line ∷ later)) step.1) ∙ all)

refused_among : (tech : Tech) (cells : List CheckedCell) (known : CheckedCell) (lines : List Line)
    (fault : StickFault) → after_lines tech cells known lines ≡ Err fault → IsWrongAmong tech cells known lines fault
refused_among tech cells known [] fault is = absurd (cc)
refused_among tech cells known (one ∷ lines) fault is =
    by (after_form tech cells known one.form) refl (λ m. refused_among tech cells m lines fault) is
  where
    then_lines : Result CheckedCell StickKind → Result CheckedCell StickFault
    then_lines r = at_line one.number r >>= λ m. after_lines tech cells m lines

    by : (r : Result CheckedCell StickKind) → after_form tech cells known one.form ≡ r
        → ((m : CheckedCell) → after_lines tech cells m lines ≡ Err fault → IsWrongAmong tech cells m lines fault)
        → then_lines r ≡ Err fault → IsWrongAmong tech cells known (one ∷ lines) fault
    by (Err kind) at inner is =
        subst (IsWrongAmong tech cells known (one ∷ lines))
        (err_same (record { line = one.number; kind = kind }) fault is)
        ([], one, lines, known, refl, refl, (refl, (line tech cells known one.form).refused kind at))
    by (Ok m) at inner is =
        let (before, wrong, later, next, split, after, there) = inner m is in (
          one ∷ before,
          wrong,
          later,
          next,
          ap (λ ls. one ∷ ls) split,
          ap
              (λ r. at_line one.number r >>= λ m. after_lines tech cells m before) at ∙ after,
          there,
        )

among : (tech : Tech) (cells : List CheckedCell) (known : CheckedCell) (lines : List Line)
    → Judges (after_lines tech cells known lines) (IsWrongAmong tech cells known lines)
among tech cells known lines = record { refused = refused_among tech cells known lines; accepted = none }
  where
    none : (last : CheckedCell) → after_lines tech cells known lines ≡ Ok last → (fault : StickFault)
        → IsWrongAmong tech cells known lines fault → ⊥
    none last is fault (before, wrong, later, next, split, after, there) =
        let read = read_after tech cells known before wrong later next last after
        (sym (ap (after_lines tech cells known) split) ∙ is) in
        (line tech cells next wrong.form).accepted read.0 read.1 fault.kind there.1

pub cell : (tech : Tech) (cells : List CheckedCell) (text : CellText)
    → Judges (after_cell tech cells text) (IsWrongCell tech cells text)
unfolding after_cell
cell tech cells text =
    then (at_line text.line (demand (is_new_cell cells text.name) RepeatedName)) _
    (located text.line _
    (tested (is_new_cell cells text.name) RepeatedName (test_denies (is_new_cell cells text.name)))) λ u.
    then_with (after_lines tech cells (begun text.name) text.lines) _ (among tech cells (begun text.name) text.lines)
    (λ known is. is) (λ known is. is) λ known is.
    last (at_line text.end_line (demand (is_wired known) PortWires)) _
    (located text.end_line _ (tested (is_wired known) PortWires (test_denies (is_wired known))))
