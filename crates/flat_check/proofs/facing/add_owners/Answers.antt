use Rattle.std.proofs.Common.{◌≡◌, ℕ, ◌+◌, ◌<◌, ◌++◌, ◌∷◌, [], List, length, map, take, get_or, sym, ap, ◌∙◌, subst}
use Rattle.std.proofs.{Common.append_assoc, lemmas.{List.{get_or_default, map_more, take_all}, Option.slice_get_within}}
use Rattle.box_tree.specs.{declared.{entries.Entry.Entry, query.Query.Query}, Found.{AreGathered, AreHolding}}
use Rattle.box_tree.specs.Tree.{no_entry}
use Rattle.flat_check.{specs.Partners.IsOwner, proofs.Rows.{owner_at, owners_gathered}}
use Rattle.flat_check.proofs.facing.add_owners.Goals as goal

one_listed : (f : ℕ → ℕ) (places old found : List ℕ) (i : ℕ) → i < length places
    → found ≡ old ++ map f (take i places) → found ++ f (get_or places i 0) ∷ [] ≡ old ++ map f (take (i + 1) places)
one_listed f places old found i lt is =
    ap (λ (xs : List ℕ). xs ++ f (get_or places i 0) ∷ []) is
    ∙ (append_assoc old (map f (take i places)) (f (get_or places i 0) ∷ [])
    ∙ ap (λ (xs : List ℕ). old ++ xs) (sym (map_more f places i 0 lt)))

-- what is found at a place is a place among the entries
held_within : (tree entries : List Entry) (query : Query) (places given : List ℕ) (i : ℕ) → entries ≡ tree
    → given ≡ places → AreHolding tree query places → i < length given → get_or given i 0 < length entries
held_within tree entries query places given i same is are lt =
    let k = get_or given i 0 in
    let held = (subst (AreHolding tree query) (sym is) are).sound k (i, lt, get_or_default given i k 0 lt) in
    rw same (slice_get_within tree k held.entry held.there)

pub bounds-entries-place : goal.bounds-entries-place
bounds-entries-place c =
    held_within c.args.tree.now c.entries-entries.result.now c.args.query.now _
    c.as_slice-place-items.result.now c.loop-place.place-index c.entries-entries.ensures
    c.as_slice-place-items.ensures.value c.in_ok-all.ensures c.loop-place-test.true

pub bounds-entries-place-in-loop-place : goal.bounds-entries-place-in-loop-place
bounds-entries-place-in-loop-place c =
    held_within c.args.tree.now c.entries-entries.result.now c.args.query.now _
    c.as_slice-place-items.result.now c.loop-place.place-index c.entries-entries.ensures
    c.as_slice-place-items.ensures.value c.in_ok-all.ensures c.loop-place-test.true

pub loop-place-preserved : goal.loop-place-preserved
loop-place-preserved c =
    let places = c.as_slice-place-items.result.now in let entries = c.entries-entries.result.now in
    let i = c.loop-place.place-index in
    let within = held_within c.args.tree.now entries c.args.query.now _ places i c.entries-entries.ensures
    c.as_slice-place-items.ensures.value c.in_ok-all.ensures c.loop-place-test.true in
    let read = get_or_default entries (get_or places i 0) c.index-entries-place.result no_entry within in
    c.in_ok-push.ensures.items
    ∙ (ap (λ (s : Entry). c.loop-place.found.items ++ s.owner ∷ []) read
    ∙ one_listed (owner_at entries) places c.args.found.now.items c.loop-place.found.items i c.loop-place-test.true
    c.loop-place.invariant)

pub returns : goal.returns
returns c =
    let places = c.as_slice-place-items.result.now in let entries = c.entries-entries.result.now in
    let are = subst (λ (ps : List ℕ). AreHolding c.args.tree.now c.args.query.now ps)
    (sym c.as_slice-place-items.ensures.value) c.in_ok-all.ensures in
    let all : take c.loop-place.place-index places ≡ places =
    take_all c.loop-place.place-index places c.loop-place-test.false in
    let listed = c.loop-place.invariant
    ∙ (ap (λ (ps : List ℕ). c.args.found.now.items ++ map (owner_at entries) ps) all
    ∙ ap (λ (ss : List Entry). c.args.found.now.items ++ map (owner_at ss) places) c.entries-entries.ensures) in
    subst (AreGathered (IsOwner c.args.tree.now c.args.query.now) c.args.found.now.items) (sym listed)
    (owners_gathered c.args.tree.now c.args.query.now places c.args.found.now.items are)
