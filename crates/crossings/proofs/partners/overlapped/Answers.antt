use Rattle.std.proofs.Common.{◌≡◌, ◌≢◌, ℕ, negsuc, List, get_or, sym, ap, ◌∙◌, subst}
use Rattle.std.proofs.lemmas.{List.get_or_default, Option.get_or_from_slice_get}
use Rattle.lam_geom.specs.declared.boxes.MaskBox.{MaskBox}
use Rattle.box_tree.specs.{declared.{query.Question.TheVariants.NearOfOther, entries.Entry.Entry}, Queries.HoldsAt}
use Rattle.crossing_model.specs.Boxes.{no_box}
use Rattle.crossings.{specs.Pairs.DoOverlap, proofs.Overlapped.{found_overlaps, none_overlaps}}
use Rattle.crossings.proofs.partners.overlapped.Goals as goal

pub find-requires : goal.find-requires
find-requires c =
    record {
      placed = c.requires.searchable.placed c.args.number c.index-boxes-number.result c.requires.tree.among;
      question = tt;
    }

pub returns-in-Some : goal.returns-in-Some
returns-in-Some c =
    let boxes = c.args.boxes.now in
    let number = c.args.number in
    let known = c.args.known in
    let entries = c.args.tree.now in
    let place = c.in-Some.place in
    let read = c.index-entries-place.result in
    let own_is = get_or_default boxes number c.index-boxes-number.result no_box c.requires.tree.among in
    let held =
    subst (λ (b : MaskBox). HoldsAt entries (record { area = b.area; question = NearOfOther (negsuc 0) known })
    place) own_is c.in-Some.ensures in
    let at : get_or c.entries.result.now place read ≡ held.entry =
    ap (λ (ss : List Entry). get_or ss place read) c.entries.ensures
    ∙ get_or_from_slice_get entries place held.entry read held.there in
    subst (λ (n : ℕ). DoOverlap boxes number n × (n ≢ known)) (sym (ap (λ (s : Entry). s.owner) at))
    (found_overlaps boxes number known place entries c.requires.tree held)

pub returns-in-None : goal.returns-in-None
returns-in-None c =
    let boxes = c.args.boxes.now in
    let number = c.args.number in
    let known = c.args.known in
    let entries = c.args.tree.now in
    let own_is = get_or_default boxes number c.index-boxes-number.result no_box c.requires.tree.among in
    none_overlaps boxes number known entries c.requires.tree
    (λ k held.
    c.in-None.ensures k
    (subst (λ (b : MaskBox). HoldsAt entries (record { area = b.area; question = NearOfOther (negsuc 0) known })
    k) (sym own_is) held))
