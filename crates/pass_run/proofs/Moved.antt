-- The layout of one master after a pass.
use Rattle.std.proofs.Common.{◌≡◌, ℕ, ℤ, pos, ◌+ℤ◌, ◌≤ℤ◌, List, length, arith, All}
use Rattle.std.proofs.lemmas.{Int.ints, List.Elements.All-from_get_or}
use Rattle.lam_geom.specs.declared.boxes.Axis.{Axis, TheVariants.{X, Y}}
use Rattle.rule_table.specs.declared.technology.Tech.{Tech}
use Rattle.liao_wong.specs.Answers.{IsWithinLimit}
use Rattle.sym_items.specs.{declared.items.{End.End, Item.Item, Coords.Coords}, Boxes.{IsPlacedEnd, HasSpan, HasBox}}
use Rattle.sym_items.specs.{Transposed.{item_along, values_along}, Values.{value_of, value_at}}
use Rattle.expand.specs.{declared.master.Master.Master, Variables.variables_of, Bounds.{IsEndAmong, IsSpanAmong}}
use Rattle.expand.specs.Laws.{EndsAbove, IsLawful}
use Rattle.pair_rules.specs.{Laws.moved, Candidates.{candidates_of, Keeps}}
use Rattle.pair_rules.proofs.{Staying.stays_clean, Pruning.pruning_loses_nothing}
use Rattle.pass_run.specs.{Laid.IsLaidOut, Meeting.{MeetsMaster, IsNextFor, StaysLaidOut}}

-- ---- the axes of a layout with other values on one of them

-- what holds of the values of each axis, and of the new ones
each_axis : (P : Axis → List ℤ → Type 0) (axis : Axis) (c : Coords) (x : List ℤ)
    → ((a : Axis) → P a (values_along a c)) → P axis x → (a : Axis) → P a (values_along a (moved axis c x))
each_axis P X c x old new X = new
each_axis P X c x old new Y = old Y
each_axis P Y c x old new X = old X
each_axis P Y c x old new Y = new

-- ---- boxes

-- an item on an axis, between places
abbrev SpansOn : List Item → Axis → List ℤ → Type 0
SpansOn items a values = All (λ i. HasSpan values (item_along a i).xl (item_along a i).xh) items

spans_of : (c : Coords) (items : List Item) → All (HasBox c) items → (a : Axis) → SpansOn items a (values_along a c)
spans_of c items boxes X = λ k d lt. (boxes k d lt).x
spans_of c items boxes Y = λ k d lt. (boxes k d lt).y

boxes_from : (c : Coords) (items : List Item) → ((a : Axis) → SpansOn items a (values_along a c)) → All (HasBox c) items
boxes_from c items spans = λ k d lt. record { x = spans X k d lt; y = spans Y k d lt }

end_placed : (values : List ℤ) (vars : ℕ) (e : End) → length values ≡ vars → All IsWithinLimit values
    → IsEndAmong vars e → IsPlacedEnd values e
end_placed values vars e count small among =
    let lt = among.among in
    let inside = small e.var (pos 0) (omega (arith, count, lt)) in
    let a = inside.0 in
    let b = inside.1 in
    let l = among.near.low in
    let h = among.near.high in
    record { among = omega (arith, count, lt); placed = (omega (arith, ints, a, l), omega (arith, ints, b, h)) }

has_span : (values : List ℤ) (vars : ℕ) (low high : End) (least : ℤ) → length values ≡ vars → All IsWithinLimit values
    → IsSpanAmong vars low high least → (value_at low values +ℤ least) ≤ℤ value_at high values
    → HasSpan values low high
has_span values vars low high least count small among long =
    let positive = among.small.low in
    record {
      low_placed = end_placed values vars low count small among.low_among;
      high_placed = end_placed values vars high count small among.high_among;
      ordered = omega (arith, ints, long, positive);
    }

-- values that meet a master keep the candidates apart that are not kept too
met_apart : (axis : Axis) (tech : Tech) (master : Master) (c : Coords) (x : ℕ → ℤ) → IsLawful tech master
    → All (HasBox c) master.items.list → MeetsMaster axis tech master c x
    → All (Keeps axis x master.items.list) (candidates_of axis tech c master.items.list)
met_apart axis tech master c x lawful boxes met =
    pruning_loses_nothing axis tech c master.items.list boxes x (lawful.stands axis x met.structure).long met.kept

-- ---- the layout after a pass

pub stays : (axis : Axis) (tech : Tech) (master : Master) (c : Coords) (values : List ℤ) → IsLawful tech master
    → IsLaidOut tech master c → IsNextFor axis tech master c values → StaysLaidOut axis tech master c values
stays axis tech master c values lawful laid next =
    let items : List Item = master.items.list in
    let vars : ℕ = variables_of axis master.cell in
    let x : ℕ → ℤ = value_of values in
    let count = next.counted in
    let stands = lawful.stands axis x next.meets.structure in
    let apart = met_apart axis tech master c x lawful laid.of_master.boxes next.meets in
    let span : SpansOn items axis values =
    λ k d lt. has_span values vars _ _ _ count next.small (lawful.lie axis k d lt) (stands.long k d lt) in
    record {
      laid = record {
        of_master = record {
          counted = each_axis (λ a vs. length vs ≡ variables_of a master.cell) axis c values laid.of_master.counted
              count;
          origin = each_axis (λ a vs. value_of vs 0 ≡ pos 0) axis c values laid.of_master.origin
              next.meets.structure.origin;
          values_above = each_axis (λ a vs. All (λ z. pos 0 ≤ℤ z) vs) axis c values laid.of_master.values_above
              (All-from_get_or (λ z. pos 0 ≤ℤ z) values (pos 0)
              (λ k lt. stands.values_above k (omega (arith, count, lt))));
          ends_above = each_axis (λ a vs. All (EndsAbove a (value_of vs)) items) axis c values
              laid.of_master.ends_above stands.ends_above;
          boxes = boxes_from (moved axis c values) items
              (each_axis (SpansOn items) axis c values (spans_of c items laid.of_master.boxes) span);
        };
        clean = stays_clean axis tech c items values laid.clean apart;
      };
      apart = apart;
      long = stands.long;
    }
