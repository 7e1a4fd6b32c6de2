use Rattle.std.proofs.Common.{◌≡◌, ℕ, ◌<◌, Bool, true, [], rules, sym, subst, ◌∙◌}
use Rattle.std.proofs.lemmas.{Bool.iff_false}
use denote.Enum.Bare.{same_true, same_false}
use Rattle.box_tree.specs.{Found.AreGathered}
use Rattle.net_extract.specs.contracts.lists.Kind.{the_type}
use Rattle.net_extract.specs.declared.lists.Kind.{Kind, TheVariants.Over}
use Rattle.net_extract.specs.{Grounds.placed_on, Linking.IsJoining, Lists.{IsIn, tags_of}, Listing.{count_in, near_in, number_of}}
use Rattle.net_extract.specs.Nearby.{AreFound, AreOfTwo, IsInSome, query_of}
use Rattle.net_extract.proofs.Owning.{gathered_base, gathered_in, joins_two, none_in, over_own, own_below, two_joins}
use Rattle.net_extract.proofs.listing.add_own.Goals as goal
use Rattle.net_extract.proofs.listing.add_own.Goals.{else-eq-via-then-eq+else-not-is_of_two, else-eq-via-else-eq}

pub returns-then-not-is_of_two-clause-noted : goal.returns-then-not-is_of_two-clause-noted
returns-then-not-is_of_two-clause-noted c =
    let sides = c.args.sides.now in
    let s = c.requires.sides in
    let B : ℕ → Type 0 = λ n. n < count_in sides in
    c.add_list.ensures.noted (count_in sides)
    (subst B (sym c.number_of-owner.ensures)
    (own_below sides.kind sides.ground.boxes.now (placed_on sides.ground) s.layers sides.own.entries.now c.args.own.now
    s.owners c.requires.own)) c.requires.noted

pub returns-then-not-is_of_two-clause-portion : goal.returns-then-not-is_of_two-clause-portion
returns-then-not-is_of_two-clause-portion c =
    let sides = c.args.sides.now in
    let own = c.args.own.now in
    let boxes = sides.ground.boxes.now in
    let pieces = placed_on sides.ground in
    let n : ℕ = number_of sides.kind own in
    let is : sides.kind ≡ Over = same_true the_type (search rules) sides.kind Over (sym c.eq.ensures ∙ c.if-eq.true) in
    let found = c.args.found.now in
    let over = over_own sides own c.args.all found c.requires.sides c.requires.own is c.requires.found in
    let crossings = sides.ground.pieces.now.crossings.items in
    let starts = sides.ground.pieces.now.starts.items in
    let N : Kind → Type 0 = λ kind. IsJoining boxes pieces (number_of kind own) → AreOfTwo found in
    let joins : IsJoining boxes pieces n → AreOfTwo found =
    subst N (sym is) (joins_two boxes crossings pieces starts sides.facing.now own.owner c.args.all found
    c.requires.sides.ground.pieces over.0 over.2) in
    let none = none_in sides.kind boxes pieces n is
    (λ j. iff_false c.is_of_two.ensures c.if-not-is_of_two.true (joins j)) in
    let G : ℕ → Type 0 = λ m. AreGathered (IsIn sides.kind boxes pieces m) [] [] in
    c.add_list.ensures.portion sides.kind boxes pieces (subst G (sym c.number_of-owner.ensures) none) c.requires.portion

pub returns-then-found-le-LISTED-clause-noted : goal.returns-then-found-le-LISTED-clause-noted
returns-then-found-le-LISTED-clause-noted c =
    let sides = c.args.sides.now in
    let s = c.requires.sides in
    let B : ℕ → Type 0 = λ n. n < count_in sides in
    c.add_list-then-found-le-LISTED.ensures.noted (count_in sides)
    (subst B (sym c.number_of-owner.ensures)
    (own_below sides.kind sides.ground.boxes.now (placed_on sides.ground) s.layers sides.own.entries.now c.args.own.now
    s.owners c.requires.own)) c.requires.noted

pub returns-then-found-le-LISTED-clause-portion : goal.returns-then-found-le-LISTED-clause-portion
returns-then-found-le-LISTED-clause-portion c =
    let sides = c.args.sides.now in
    let own = c.args.own.now in
    let boxes = sides.ground.boxes.now in
    let pieces = placed_on sides.ground in
    let n : ℕ = number_of sides.kind own in
    let found = c.args.found.now in
    let A : Bool → Type 0 = λ all. AreFound (IsInSome sides.facing.now) (query_of (near_in sides.kind own))
    all [] found in
    let f = subst A c.if-all.true c.requires.found in
    let base = gathered_base sides own found c.requires.sides c.requires.own f in
    let joins : sides.kind ≡ Over → IsJoining boxes pieces n = λ is.
    (let over = over_own sides own true found c.requires.sides c.requires.own is f in
    let two : AreOfTwo found = elim c.else-eq.branch [
      | else-eq-via-then-eq+else-not-is_of_two w ↦ w.is_of_two.ensures.0 w.if-not-is_of_two.false
      | else-eq-via-else-eq w ↦
          absurd (same_false the_type sides.kind Over (sym c.eq.ensures ∙ w.if-eq.false) is)
    ] in
    let N : Kind → Type 0 = λ kind. IsJoining boxes pieces (number_of kind own) in
    subst N (sym is) (two_joins boxes pieces sides.facing.now own.owner true found over.0 over.1 over.2 two)) in
    let G : ℕ → Type 0 = λ m. AreGathered (IsIn sides.kind boxes pieces m) [] (tags_of found) in
    c.add_list-then-found-le-LISTED.ensures.portion sides.kind boxes pieces
    (subst G (sym c.number_of-owner.ensures) (gathered_in sides.kind boxes pieces n (tags_of found) joins base))
    c.requires.portion
