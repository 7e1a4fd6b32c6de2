use Rattle.std.proofs.Common.{◌≡◌, ◌↔◌, ℕ, ◌+◌, ◌<◌, false, true, IsTrue, length, get_or, refl, sym, ap, ◌∙◌, subst}
use Rattle.std.proofs.{Common.arith, lemmas.List.get_or_default}
use Rattle.lam_geom.specs.{declared.boxes.MaskBox.MaskBox, Places.IsPlacedBox}
use Rattle.box_tree.{specs.declared.entries.Entry.Entry, proofs.Trees.entry_read}
use Rattle.crossing_model.specs.Boxes.{no_box}
use Rattle.crossings.specs.declared.partners.Partners.TheVariants.{Nothing, One}
use Rattle.crossings.specs.Pairs.{DoOverlap}
use Rattle.crossings.proofs.EntryBoxes.{entries_placed}
use Rattle.crossings.proofs.PartnerLists.{Counted, counted_again, counted_all, counted_first, counted_skip, counted_two}
use Rattle.crossings.proofs.PartnerLists.{counted_none, counted_several, overlaps_entry}
use Rattle.crossings.proofs.partner_lists.partners_among.Goals.{then-overlaps+in-Nothing, else-overlaps}
use Rattle.crossings.proofs.partner_lists.partners_among.Goals.{then-overlaps+in-One+else-known-other}
use Rattle.crossings.proofs.partner_lists.partners_among.Goals as goal

pub overlaps-requires-clause-second : goal.overlaps-requires-clause-second
overlaps-requires-clause-second c =
    let near : ℕ = get_or c.args.nearby.now c.loop-near.near-index 0 in
    let lt : near < length c.args.entries.now =
    c.requires.nearby.among c.loop-near.near-index 0 c.loop-near-test.true in
    let P : Entry → Type 0 = λ s. IsPlacedBox s.area in
    subst P (sym c.index-entries-near.is)
    (entries_placed c.args.boxes.now c.requires.entries.layer c.args.entries.now c.requires.searchable
    c.requires.entries.entries_of near c.index-entries-near.result lt)

pub loop-near-init : goal.loop-near-init
loop-near-init c = counted_none c.args.boxes.now c.args.number c.args.entries.now c.args.nearby.now

pub returns-then-known-other : goal.returns-then-known-other
returns-then-known-other c =
    let boxes = c.args.boxes.now in
    let number = c.args.number in
    let entries = c.args.entries.now in
    let nearby = c.args.nearby.now in
    let n = c.loop-near.near-index in
    let near : ℕ = get_or nearby n 0 in
    let lt : near < length entries = c.requires.nearby.among n 0 c.loop-near-test.true in
    let other : Entry = c.index-entries-near.result in
    let own = get_or_default boxes number c.index-boxes-number.result no_box c.requires.entries.among in
    let says : IsTrue true ↔ DoOverlap boxes number other.owner =
    overlaps_entry boxes number near entries other _ true c.requires.entries lt c.index-entries-near.is
    (ap (λ (b : MaskBox). b.area) own) c.if-overlaps.ensures in
    counted_two boxes number entries nearby n c.in-One.known other.owner (says.0 refl) c.if-known-other.true
    (subst (Counted boxes number entries nearby n) c.in-One.is c.loop-near.invariant)

pub returns-in-Several : goal.returns-in-Several
returns-in-Several c =
    let now = Counted c.args.boxes.now c.args.number c.args.entries.now c.args.nearby.now c.loop-near.near-index in
    counted_several c.args.boxes.now c.args.number c.args.entries.now c.args.nearby.now c.loop-near.near-index
    (subst now c.in-Several.is c.loop-near.invariant)

pub loop-near-preserved : goal.loop-near-preserved
loop-near-preserved c =
    let boxes = c.args.boxes.now in
    let number = c.args.number in
    let entries = c.args.entries.now in
    let nearby = c.args.nearby.now in
    let n = c.loop-near.near-index in
    let near : ℕ = get_or nearby n 0 in
    let lt : near < length entries = c.requires.nearby.among n 0 c.loop-near-test.true in
    let other : Entry = c.index-entries-near.result in
    let read = entry_read entries near other lt c.index-entries-near.is in
    let own = get_or_default boxes number c.index-boxes-number.result no_box c.requires.entries.among in
    let says : IsTrue c.overlaps.result ↔ DoOverlap boxes number other.owner =
    overlaps_entry boxes number near entries other _ c.overlaps.result c.requires.entries lt c.index-entries-near.is
    (ap (λ (b : MaskBox). b.area) own) c.overlaps.ensures in
    let now = Counted boxes number entries nearby in
    elim c.if-overlaps.branch [
      | then-overlaps+in-Nothing w ↦
          let before : now n Nothing = subst (now n) w.in-Nothing.is c.loop-near.invariant in
          subst (now (n + 1)) (sym w.partners-is)
          (counted_first boxes number entries nearby n other read (says.0 w.if-overlaps.true) before)
      | then-overlaps+in-One+else-known-other w ↦
          let before : now n (One w.in-One.known) = subst (now n) w.in-One.is c.loop-near.invariant in
          subst (now (n + 1)) (sym w.partners-is)
          (counted_again boxes number entries nearby n other w.in-One.known read w.if-known-other.false before)
      | else-overlaps w ↦
          subst (now (n + 1)) (sym w.partners-is)
          (counted_skip boxes number entries nearby n other c.loop-near.partners read
          (λ over. (let t : true ≡ false = sym (says.1 over) ∙ w.if-overlaps.false in cc)) c.loop-near.invariant)
    ]

pub returns : goal.returns
returns c =
    let boxes = c.args.boxes.now in
    let nearby = c.args.nearby.now in
    let all : c.loop-near.near-index ≡ length nearby =
    omega (arith, c.loop-near-test.false, c.loop-near.auto.near-index-end) in
    let P : ℕ → Type 0 = λ n. Counted boxes c.args.number c.args.entries.now nearby n c.loop-near.partners in
    counted_all boxes c.args.number c.args.entries.now nearby c.loop-near.partners c.requires.nearby
    (subst P all c.loop-near.invariant)
