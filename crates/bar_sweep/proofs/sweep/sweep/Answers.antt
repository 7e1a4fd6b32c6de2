use Rattle.std.proofs.Common.{Bool, Vec, Global, ◌≡◌, ℕ, ◌<◌, ℤ, List, length, get_or, sym, ap, subst, ◌∙◌, arith}
use Rattle.std.proofs.Common.{w64, to_z, of_z}
use Rattle.std.proofs.lemmas.{Int.{ints, to_z-of_z}, List.{get_or_default, Elements.All-get_or}}
use Rattle.bar_rows.specs.{declared.bars.Bar.Bar, Rows.{bar_at, no_bar, IsPlacedBar}}
use Rattle.bar_sight.specs.{declared.row.Row.Row, Sight.IsSameRow}
use Rattle.bar_sweep.specs.Sweeps.{ArePlaces, AreStarts, HaveBegun}
use Rattle.bar_sweep.proofs.Swept.{IsRowOf, row_again, swept_none, adds_from, all_from, swept_more, swept_all}
use Rattle.bar_sweep.proofs.Turned.{adds_both}
use Rattle.bar_sweep.proofs.sweep.sweep.Goals as goal

-- the same places of a row, and the same order of where its bars start
places_of : (bars shown : List Bar) (places now : List ℕ) → shown ≡ bars → now ≡ places
    → ArePlaces (length shown) places → ArePlaces (length bars) now
places_of bars shown places now e f h = rw f (subst (λ (l : List Bar). ArePlaces (length l) places) e h)

starts_of : (bars shown : List Bar) (starts now : List ℕ) → shown ≡ bars → now ≡ starts → AreStarts shown starts
    → AreStarts bars now
starts_of bars shown starts now e f h = rw f (subst (λ (l : List Bar). AreStarts l starts) e h)

begun_of : (starts now : List ℕ) (row : Row) (k : ℕ) → now ≡ starts → HaveBegun row starts k → HaveBegun row now k
begun_of starts now row k e h = subst (λ (l : List ℕ). HaveBegun row l k) (sym e) h

place_among : (s t : Bool) (bars : List Bar) (row : Row) (ends : List ℕ) (k : ℕ) → IsRowOf s t bars row
    → ArePlaces (length bars) ends → k < length ends → get_or ends k 0 < length row.bars.items
place_among s t bars row ends k h are lt =
    subst (λ (l : List Bar). get_or ends k 0 < length l) (sym h.bars_are) (are.in_range k 0 lt)

end_again : (old new : Row) (place : ℕ) (e : ℤ) → IsSameRow old new → e ≡ (bar_at old.bars.items place).end
    → e ≡ (bar_at new.bars.items place).end
end_again old new place e same is = is ∙ ap (λ (v : Vec Bar Global). (bar_at v.items place).end) (sym same.bars)

pub loop-place-init : goal.loop-place-init
loop-place-init c =
    let made = c.in_ok-row.ensures in
    record {
      row = record { bars_are = made.bars; self_rule_is = made.self_rule; turned_is = made.turned };
      begun = record { is_row = made.row; among = omega arith; begun = λ k d below. absurd (omega (arith, below)) };
      swept = swept_none c.args.self_rule c.args.turned c.args.bars.items c.deref-place-items.result.now
          c.args.found.now c.requires.room;
    }

pub end_of-now-requires : goal.end_of-now-requires
end_of-now-requires c =
    let are = places_of c.args.bars.items c.deref-2.result.now c.in_ok-ends.ends.items c.deref-place-items.result.now
    c.deref-2.ensures.value c.deref-place-items.ensures.value c.in_ok-ends.ensures.places in
    place_among c.args.self_rule c.args.turned c.args.bars.items c.loop-place.row c.deref-place-items.result.now
    c.loop-place.place-index c.loop-place.invariant.row are c.loop-place-test.true

pub start_before-next-requires-clause-starts : goal.start_before-next-requires-clause-starts
start_before-next-requires-clause-starts c =
    starts_of c.loop-place.row.bars.items c.deref.result.now c.in_ok-starts.starts.items
    c.deref-in-loop-place.result.now (c.deref.ensures.value ∙ sym c.loop-place.invariant.row.bars_are)
    c.deref-in-loop-place.ensures.value
    (record { places = c.in_ok-starts.ensures.places; in_order = c.in_ok-starts.ensures.in_order })

pub start_before-next-requires-clause-begun : goal.start_before-next-requires-clause-begun
start_before-next-requires-clause-begun c =
    begun_of c.in_ok-starts.starts.items c.deref-in-loop-place.result.now c.loop-place.row c.loop-place.next
    c.deref-in-loop-place.ensures.value c.loop-place.invariant.begun

pub above_of-requires : goal.above_of-requires
above_of-requires c =
    let ends = c.deref-place-items.result.now in
    let k = c.loop-place.place-index in
    let place : ℕ = get_or ends k 0 in
    let bars = c.args.bars.items in
    let are = places_of bars c.deref-2.result.now c.in_ok-ends.ends.items ends c.deref-2.ensures.value
    c.deref-place-items.ensures.value c.in_ok-ends.ensures.places in
    let e = c.end_of-now.result in
    let bits : to_z w64 (of_z w64 e) ≡ e = to_z-of_z w64 e (record { sfits = c.end_of-now.type_inv }) in
    let row = c.loop-place.row in
    let lt = place_among c.args.self_rule c.args.turned bars row ends k c.loop-place.invariant.row are
    c.loop-place-test.true in
    let low = (All-get_or IsPlacedBar row.bars.items place no_bar lt
    c.loop-place.invariant.begun.is_row.placed).ends_after in
    let is = c.end_of-now.ensures in
    rw bits (omega (arith, ints, low, is))

pub look_from-requires-clause-among : goal.look_from-requires-clause-among
look_from-requires-clause-among c =
    let ends = c.deref-place-items.result.now in
    let k = c.loop-place.place-index in
    let place : ℕ = get_or ends k 0 in
    let bars = c.args.bars.items in
    let are = places_of bars c.deref-2.result.now c.in_ok-ends.ends.items ends c.deref-2.ensures.value
    c.deref-place-items.ensures.value c.in_ok-ends.ensures.places in
    let e = c.end_of-now.result in
    let bits : to_z w64 (of_z w64 e) ≡ e = to_z-of_z w64 e (record { sfits = c.end_of-now.type_inv }) in
    let old = c.loop-place.row in
    let new = c.start_before-next.new.row in
    let row = row_again c.args.self_rule c.args.turned bars old new c.loop-place.invariant.row
    c.start_before-next.ensures.same in
    let is : e ≡ (bar_at new.bars.items place).end =
    end_again old new place e c.start_before-next.ensures.same c.end_of-now.ensures in
    place_among c.args.self_rule c.args.turned bars new ends k row are c.loop-place-test.true

pub look_from-requires-clause-begun : goal.look_from-requires-clause-begun
look_from-requires-clause-begun c = λ p lt early.
    let ends = c.deref-place-items.result.now in
    let k = c.loop-place.place-index in
    let place : ℕ = get_or ends k 0 in
    let bars = c.args.bars.items in
    let are = places_of bars c.deref-2.result.now c.in_ok-ends.ends.items ends c.deref-2.ensures.value
    c.deref-place-items.ensures.value c.in_ok-ends.ensures.places in
    let e = c.end_of-now.result in
    let bits : to_z w64 (of_z w64 e) ≡ e = to_z-of_z w64 e (record { sfits = c.end_of-now.type_inv }) in
    let old = c.loop-place.row in
    let new = c.start_before-next.new.row in
    let row = row_again c.args.self_rule c.args.turned bars old new c.loop-place.invariant.row
    c.start_before-next.ensures.same in
    let is : e ≡ (bar_at new.bars.items place).end =
    end_again old new place e c.start_before-next.ensures.same c.end_of-now.ensures in
    c.start_before-next.ensures.all p lt (omega (arith, ints, early, is, bits))

pub look_from-requires-clause-above : goal.look_from-requires-clause-above
look_from-requires-clause-above c =
    let ends = c.deref-place-items.result.now in
    let k = c.loop-place.place-index in
    let place : ℕ = get_or ends k 0 in
    let bars = c.args.bars.items in
    let are = places_of bars c.deref-2.result.now c.in_ok-ends.ends.items ends c.deref-2.ensures.value
    c.deref-place-items.ensures.value c.in_ok-ends.ensures.places in
    let e = c.end_of-now.result in
    let bits : to_z w64 (of_z w64 e) ≡ e = to_z-of_z w64 e (record { sfits = c.end_of-now.type_inv }) in
    let old = c.loop-place.row in
    let new = c.start_before-next.new.row in
    let row = row_again c.args.self_rule c.args.turned bars old new c.loop-place.invariant.row
    c.start_before-next.ensures.same in
    let is : e ≡ (bar_at new.bars.items place).end =
    end_again old new place e c.start_before-next.ensures.same c.end_of-now.ensures in
    let above = c.above_of.result in
    let same : to_z w64 (of_z w64 above) ≡ above = to_z-of_z w64 above (record { sfits = c.above_of.type_inv }) in
    let near = c.above_of.ensures.near in
    omega (arith, ints, near, is, bits, same)

pub look_from-requires-clause-few : goal.look_from-requires-clause-few
look_from-requires-clause-few c = c.loop-place.invariant.swept.few

pub returns-in_err-look_from-clause-adds : goal.returns-in_err-look_from-clause-adds
returns-in_err-look_from-clause-adds c =
    let h = c.loop-place.invariant in
    let row = row_again c.args.self_rule c.args.turned c.args.bars.items c.loop-place.row c.start_before-next.new.row
    h.row c.start_before-next.ensures.same in
    adds_both c.args.self_rule c.args.turned c.args.bars.items c.args.found.now c.loop-place.found c.look_from.new.found
    h.swept.adds
    (adds_from c.args.self_rule c.args.turned c.args.bars.items c.start_before-next.new.row _ c.loop-place.found
    c.look_from.new.found row c.look_from.ensures.adds)

pub loop-place-preserved : goal.loop-place-preserved
loop-place-preserved c =
    let ends = c.deref-place-items.result.now in
    let k = c.loop-place.place-index in
    let place : ℕ = get_or ends k 0 in
    let bars = c.args.bars.items in
    let are = places_of bars c.deref-2.result.now c.in_ok-ends.ends.items ends c.deref-2.ensures.value
    c.deref-place-items.ensures.value c.in_ok-ends.ensures.places in
    let e = c.end_of-now.result in
    let bits : to_z w64 (of_z w64 e) ≡ e = to_z-of_z w64 e (record { sfits = c.end_of-now.type_inv }) in
    let old = c.loop-place.row in
    let new = c.start_before-next.new.row in
    let row = row_again c.args.self_rule c.args.turned bars old new c.loop-place.invariant.row
    c.start_before-next.ensures.same in
    let is : e ≡ (bar_at new.bars.items place).end =
    end_again old new place e c.start_before-next.ensures.same c.end_of-now.ensures in
    let above = c.above_of.result in
    let same : to_z w64 (of_z w64 above) ≡ above = to_z-of_z w64 above (record { sfits = c.above_of.type_inv }) in
    let lt = c.loop-place-test.true in
    let now = to_z w64 (of_z w64 e) in
    let at : now ≡ (bar_at bars place).end = bits ∙ is ∙ ap (λ (l : List Bar). (bar_at l place).end) row.bars_are in
    record {
      row = row;
      begun = subst (λ (l : List ℕ). HaveBegun new l c.start_before-next.result) c.deref-in-loop-place.ensures.value
          c.start_before-next.ensures.begun;
      swept = swept_more c.args.self_rule c.args.turned bars ends k place c.args.found.now c.loop-place.found
          c.look_from.new.found c.loop-place.invariant.swept
          (adds_from c.args.self_rule c.args.turned bars new place c.loop-place.found c.look_from.new.found row
          c.look_from.ensures.adds)
          c.in_ok-look_from.ensures.few (λ d. get_or_default ends k d 0 lt)
          (all_from c.args.self_rule c.args.turned bars new place now above c.look_from.new.found row at
          c.above_of.ensures.in_time
          (λ q sees varies behind. c.in_ok-look_from.ensures.all q sees varies (rw same behind)));
    }

pub returns-clause-adds : goal.returns-clause-adds
returns-clause-adds c = c.loop-place.invariant.swept.adds

pub returns-clause-few : goal.returns-clause-few
returns-clause-few c = c.loop-place.invariant.swept.few

pub returns-clause-all : goal.returns-clause-all
returns-clause-all c =
    let are = places_of c.args.bars.items c.deref-2.result.now c.in_ok-ends.ends.items c.deref-place-items.result.now
    c.deref-2.ensures.value c.deref-place-items.ensures.value c.in_ok-ends.ensures.places in
    let past = c.loop-place-test.false in
    swept_all c.args.self_rule c.args.turned c.args.bars.items c.deref-place-items.result.now c.loop-place.place-index
    c.args.found.now c.loop-place.found are c.loop-place.invariant.swept (omega (arith, past))
