-- The pitch and the start layout of the cells typed in, worked by hand; that these cells meet the checks, and that
-- the boxes are such.
use Rattle.std.proofs.Common.{◌≡◌, ℕ, zero, suc, ◌<◌, ◌≤◌, Bool, true, false, ◌≤ℤ◌, ℤ, pos, None, List, [], ◌∷◌, length}
use Rattle.std.proofs.{Common.{All, refl, ap, inl, inr, arith}, lemmas.Int.ints}
use Rattle.lam_geom.specs.Places.{IsPlace}
use Rattle.rule_table.specs.declared.{technology.Tech.Tech, keys.Numbers.Numbers, classes.Layer.TheVariants.Diffusion}
use Rattle.rule_table.specs.{declared.classes.Layer.TheVariants.{Poly, Metal}, Bounds.IsSize, Faults.fault_of}
use Rattle.rule_table.specs.{Keys.has_buried, Spacing.{spacing_in, greatest, margin_in, widest_in, width_in, pad_in}}
use Rattle.rule_table.specs.Technology.{numbers_of, width_of, shipped_numbers, shipped2_numbers}
use Rattle.sym_items.specs.declared.items.{End.End, Coords.Coords}
use Rattle.sym_items.specs.{Values.value_at, Boxes.{IsPlacedEnd, HasSpan, HasBox}}
use Rattle.cell_model.specs.declared.cell.{Axis2.TheVariants.{Across, Up}, Cell.Cell, NodeKind.NodeKind}
use Rattle.cell_model.specs.declared.cell.NodeKind.TheVariants.{Contact, Buried}
use Rattle.cell_model.specs.Sound.{IsKind, IsPort, IsSound, LeaveOneSide, port_at, wire_at}
use Rattle.coarse_grid.specs.{Extent.{half_extent_of, pitch_of}, Start.{last_line, place, far_border, start_of}}
use Rattle.coarse_grid.specs.Worked.{IsShipped, IsShipped2, node, fet, cell_of, joints, transistor, long_transistor}
use Rattle.coarse_grid.specs.Worked.{window, buried, empty, side_to_side, inverter, bare_inverter, below, above, three}
use Rattle.coarse_grid.specs.Worked.{close, spaced}
use Rattle.list_facts.proofs.Elements.{all_of}

-- ---- pitches and layouts

-- the shipped technology
abbrev shipped : fault_of shipped_numbers ≡ None → Tech
shipped sound = record { numbers = shipped_numbers; sound = sound }

-- the one with buried contacts
abbrev shipped2 : fault_of shipped2_numbers ≡ None → Tech
shipped2 sound = record { numbers = shipped2_numbers; sound = sound }

joints_pitch : (s : fault_of shipped_numbers ≡ None) → pitch_of (shipped s) joints ≡ pos 12
unfolding pitch_of half_extent_of widest_in margin_in spacing_in greatest has_buried
joints_pitch s = refl

joints_start : (s : fault_of shipped_numbers ≡ None) → let c : Coords = record {
  x = pos 0 ∷ pos 24 ∷ pos 12 ∷ pos 12 ∷ pos 12 ∷ [];
  y = pos 0 ∷ pos 36 ∷ pos 12 ∷ pos 24 ∷ [];
} in start_of (shipped s) joints ≡ c
unfolding pitch_of half_extent_of widest_in margin_in spacing_in greatest has_buried last_line place
joints_start s = refl

transistor_pitch : (s : fault_of shipped_numbers ≡ None) → pitch_of (shipped s) transistor ≡ pos 18
unfolding pitch_of half_extent_of widest_in margin_in spacing_in greatest has_buried
transistor_pitch s = refl

-- L/2 and the extension of diffusion are 10
long_transistor_pitch : (s : fault_of shipped_numbers ≡ None) → pitch_of (shipped s) long_transistor ≡ pos 26
unfolding pitch_of half_extent_of widest_in margin_in spacing_in greatest has_buried
long_transistor_pitch s = refl

-- the borders of an empty cell lie twice the widest spacing apart
empty_start : (s : fault_of shipped_numbers ≡ None) → let c : Coords =
    record { x = pos 0 ∷ pos 12 ∷ []; y = pos 0 ∷ pos 12 ∷ [] } in start_of (shipped s) empty ≡ c
unfolding pitch_of half_extent_of widest_in margin_in spacing_in greatest has_buried last_line place
empty_start s = refl

side_to_side_start : (s : fault_of shipped_numbers ≡ None) → let c : Coords =
    record { x = pos 0 ∷ pos 24 ∷ []; y = pos 0 ∷ pos 48 ∷ pos 36 ∷ [] } in start_of (shipped s) side_to_side ≡ c
unfolding pitch_of half_extent_of widest_in margin_in spacing_in greatest has_buried last_line place
side_to_side_start s = refl

-- a window goes 4 past a pad that is 4 wide
buried_extent : (s : fault_of shipped2_numbers ≡ None) → half_extent_of (shipped2 s) buried ≡ pos 6
unfolding half_extent_of
buried_extent s = refl

buried_pitch : (s : fault_of shipped2_numbers ≡ None) → pitch_of (shipped2 s) buried ≡ pos 18
unfolding pitch_of half_extent_of widest_in margin_in spacing_in greatest has_buried
buried_pitch s = refl

-- two columns and five rows, a pitch of 22 apart
inverter_pitch : (s : fault_of shipped_numbers ≡ None) → pitch_of (shipped s) inverter ≡ pos 22
unfolding pitch_of half_extent_of widest_in margin_in spacing_in greatest has_buried pad_in
inverter_pitch s = refl

inverter_width : far_border (pos 22) Across inverter ≡ pos 66
unfolding last_line place
inverter_width = refl

inverter_height : far_border (pos 22) Up inverter ≡ pos 132
unfolding last_line place
inverter_height = refl

-- ---- cells that meet the checks

six : IsSize (pos 6)
six = record { low = omega (arith, ints); high = omega (arith, ints); even = refl }

four : IsSize (pos 4)
four = record { low = omega (arith, ints); high = omega (arith, ints); even = refl }

twelve : IsSize (pos 12)
twelve = record { low = omega (arith, ints); high = omega (arith, ints); even = refl }

no_port : (cell : Cell) (k : ℕ) → k < 0 → IsPort cell k (port_at cell.ports k)
no_port cell k lt = absurd (omega arith)

-- one wire is on one side of a buried contact alone
one_side : (cell : Cell) → length cell.wires ≤ 1 → (j k : ℕ) → j < length cell.wires → k < length cell.wires
    → LeaveOneSide cell (wire_at cell.wires j) (wire_at cell.wires k)
    → (wire_at cell.wires j).layer ≡ (wire_at cell.wires k).layer
one_side cell few j k j_among k_among side =
    let same : j ≡ k = omega arith in
    ap (λ (n : ℕ). (wire_at cell.wires n).layer) same

-- a cell of one node
one_node : (tech : Tech) (kind : NodeKind) (col row : ℕ) → col ≤ 4095 → row ≤ 4095 → IsKind tech kind
    → IsSound tech (cell_of (node kind col row ∷ []) [] [])
one_node tech kind col row few_cols few_rows is_kind = record {
  nodes = (record { col = few_cols; row = few_rows; kind = is_kind }, tt);
  wires = tt;
  sides = one_side (cell_of (node kind col row ∷ []) [] []) (omega arith);
  ports = no_port (cell_of (node kind col row ∷ []) [] []);
  limits = tt;
}

-- the channel of a transistor is no narrower than 4
shipped_fet : (tech : Tech) (depletion : Bool) (w l : ℤ) → numbers_of tech ≡ shipped_numbers → IsSize w → IsSize l
    → pos 4 ≤ℤ w → pos 4 ≤ℤ l → IsKind tech (fet depletion w l)
shipped_fet tech depletion w l e w_size l_size wide long =
    let diffusion : width_of tech Diffusion ≡ pos 4 = ap (λ (n : Numbers). width_in n Diffusion) e in
    let poly : width_of tech Poly ≡ pos 4 = ap (λ (n : Numbers). width_in n Poly) e in
    (w_size, l_size, omega (arith, ints), omega (arith, ints))

pub joints_sound : IsShipped joints
joints_sound tech e =
    let metal : width_of tech Metal ≡ pos 6 = ap (λ (n : Numbers). width_in n Metal) e in
    record {
      nodes = (
        record { col = omega arith; row = omega arith; kind = (six, omega (arith, ints)) },
        (record { col = omega arith; row = omega arith; kind = (six, omega (arith, ints)) }, tt),
      );
      wires = (
        record {
          low = omega arith;
          high = omega arith;
          takes_low = (refl, refl);
          takes_high = (refl, refl);
          low_side = tt;
          high_side = tt;
          straight = refl;
          ordered = omega arith;
          size = six;
          wide = omega (arith, ints);
          low_pad = omega (arith, ints);
          high_pad = omega (arith, ints);
          low_filled = tt;
          high_filled = tt;
        },
        tt,
      );
      sides = one_side joints (omega arith);
      ports = no_port joints;
      limits = tt;
    }

pub transistor_sound : IsShipped transistor
transistor_sound tech e =
    one_node tech _ 0 0 (omega arith) (omega arith)
    (shipped_fet tech false _ _ e four four (omega (arith, ints)) (omega (arith, ints)))

pub long_transistor_sound : IsShipped long_transistor
long_transistor_sound tech e =
    one_node tech _ 3 0 (omega arith) (omega arith)
    (shipped_fet tech true _ _ e four twelve (omega (arith, ints)) (omega (arith, ints)))

pub window_sound : IsShipped2 window
unfolding has_buried
window_sound tech e = one_node tech Buried 0 0 (omega arith) (omega arith) (ap has_buried e)

eight : IsSize (pos 8)
eight = record { low = omega (arith, ints); high = omega (arith, ints); even = refl }

pub bare_inverter_sound : IsShipped bare_inverter
bare_inverter_sound tech e =
    let metal : width_of tech Metal ≡ pos 6 = ap (λ (n : Numbers). width_in n Metal) e in
    let contact_of_diffusion : IsKind tech (Contact Diffusion) = λ is. cc in
    let contact_of_poly : IsKind tech (Contact Poly) = λ is. cc in
    record {
      nodes = (
        record { col = omega arith; row = omega arith; kind = contact_of_diffusion },
        (
          record {
            col = omega arith;
            row = omega arith;
            kind = shipped_fet tech false _ _ e eight four (omega (arith, ints)) (omega (arith, ints));
          },
          (
            record { col = omega arith; row = omega arith; kind = contact_of_diffusion },
            (
              record {
                col = omega arith;
                row = omega arith;
                kind = shipped_fet tech true _ _ e four eight (omega (arith, ints)) (omega (arith, ints));
              },
              (
                record { col = omega arith; row = omega arith; kind = contact_of_diffusion },
                (
                  record { col = omega arith; row = omega arith; kind = contact_of_poly },
                  (
                    record { col = omega arith; row = omega arith; kind = (six, omega (arith, ints)) },
                    (record { col = omega arith; row = omega arith; kind = contact_of_poly }, tt),
                  ),
                ),
              ),
            ),
          ),
        ),
      );
      wires = tt;
      sides = one_side bare_inverter (omega arith);
      ports = no_port bare_inverter;
      limits = tt;
    }

pub empty_sound : IsShipped empty
empty_sound tech e =
    record { nodes = tt; wires = tt; sides = one_side empty (omega arith); ports = no_port empty; limits = tt }

two_ports : (k : ℕ) → k < 2 → IsPort side_to_side k (port_at side_to_side.ports k)
two_ports zero lt =
    record { place = omega arith; wire = omega arith; wired = inl refl; only = λ j among h. omega arith }
two_ports (suc zero) lt =
    record { place = omega arith; wire = omega arith; wired = inr refl; only = λ j among h. omega arith }
two_ports (suc (suc k)) lt = absurd (omega arith)

pub side_to_side_sound : IsShipped side_to_side
side_to_side_sound tech e =
    let metal : width_of tech Metal ≡ pos 6 = ap (λ (n : Numbers). width_in n Metal) e in
    record {
      nodes = tt;
      wires = (
        record {
          low = omega arith;
          high = omega arith;
          takes_low = (refl, refl);
          takes_high = (refl, refl);
          low_side = refl;
          high_side = refl;
          straight = refl;
          ordered = tt;
          size = six;
          wide = omega (arith, ints);
          low_pad = tt;
          high_pad = tt;
          low_filled = tt;
          high_filled = tt;
        },
        tt,
      );
      sides = one_side side_to_side (omega arith);
      ports = two_ports;
      limits = tt;
    }

-- ---- boxes

placed : (values : List ℤ) (e : End) → e.var < length values → IsPlace (value_at e values) → IsPlacedEnd values e
placed values e among place = record { among = among; placed = place }

span : (values : List ℤ) (v : ℕ) → v < length values → IsPlace (value_at (below v) values)
    → IsPlace (value_at (above v) values) → value_at (below v) values ≤ℤ value_at (above v) values
    → HasSpan values (below v) (above v)
span values v among low high le =
    record {
      low_placed = placed values (below v) among low;
      high_placed = placed values (above v) among high;
      ordered = le;
    }

pub close_boxes : All (HasBox close) three
close_boxes =
    let up = span close.y 2 (omega arith) (omega (arith, ints), omega (arith, ints))
    (omega (arith, ints), omega (arith, ints)) (omega (arith, ints)) in
    all_of (HasBox close) three (
      record {
        x = span close.x 2 (omega arith) (omega (arith, ints), omega (arith, ints))
            (omega (arith, ints), omega (arith, ints)) (omega (arith, ints));
        y = up;
      },
      (
        record {
          x = span close.x 3 (omega arith) (omega (arith, ints), omega (arith, ints))
              (omega (arith, ints), omega (arith, ints)) (omega (arith, ints));
          y = up;
        },
        (
          record {
            x = span close.x 4 (omega arith) (omega (arith, ints), omega (arith, ints))
                (omega (arith, ints), omega (arith, ints)) (omega (arith, ints));
            y = up;
          },
          tt,
        ),
      ),
    )

pub spaced_boxes : All (HasBox spaced) three
spaced_boxes =
    let up = span spaced.y 2 (omega arith) (omega (arith, ints), omega (arith, ints))
    (omega (arith, ints), omega (arith, ints)) (omega (arith, ints)) in
    all_of (HasBox spaced) three (
      record {
        x = span spaced.x 2 (omega arith) (omega (arith, ints), omega (arith, ints))
            (omega (arith, ints), omega (arith, ints)) (omega (arith, ints));
        y = up;
      },
      (
        record {
          x = span spaced.x 3 (omega arith) (omega (arith, ints), omega (arith, ints))
              (omega (arith, ints), omega (arith, ints)) (omega (arith, ints));
          y = up;
        },
        (
          record {
            x = span spaced.x 4 (omega arith) (omega (arith, ints), omega (arith, ints))
                (omega (arith, ints), omega (arith, ints)) (omega (arith, ints));
            y = up;
          },
          tt,
        ),
      ),
    )
