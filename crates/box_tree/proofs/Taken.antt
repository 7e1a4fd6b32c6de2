-- The walk that takes all entries with a property.
use Rattle.std.proofs.Common.{◌≡◌, ℕ, ◌+◌, ◌<◌, ◌≤◌, List, [], ◌∷◌, ◌++◌, length, get_or, drop, Contains, inl, inr, sym}
use Rattle.std.proofs.{Common.{ap, ◌∙◌, subst, arith, length-drop}, lemmas.{Bool.cases_lt, List.{drop_all, drop-drop}}}
use Rattle.std.proofs.lemmas.List.{get_or_append_left, get_or_default, get_or_push, length_push}
use Rattle.std.proofs.lemmas.List.Elements.{Contains-append_left, Contains-push, Contains-push_cases}
use Rattle.std.proofs.lemmas.Option.{get_or_from_slice_get, slice_get-get_or, slice_get_within}
use Rattle.box_tree.specs.{declared.{query.Query.Query, entries.{Group.Group, Entry.Entry}}, Queries.Holds}
use Rattle.box_tree.specs.{Found.{AreHolding, AreSomeHolding, IsBefore, IsTaken}, Orders.AreDistinct}
use Rattle.box_tree.specs.Tree.{IsTreeOf, begin_of, no_entry, entry_of}
use Rattle.box_tree.proofs.Trees.{IsBarren, begin_here, group_here}

-- ---- one place after another

-- no number is taken twice
distinct_push : (xs : List ℕ) (y : ℕ) → AreDistinct xs → (Contains xs y → ⊥) → AreDistinct (xs ++ y ∷ [])
distinct_push xs y d new i j lt_i lt_j e =
    let n = length_push xs y in
    let old : (k : ℕ) → k < length xs → get_or (xs ++ y ∷ []) k 0 ≡ get_or xs k 0 =
    λ k lt. get_or_append_left xs (y ∷ []) 0 k lt in
    let last : (k : ℕ) → length xs ≡ k → get_or (xs ++ y ∷ []) k 0 ≡ y = λ k is. get_or_push xs y 0 k is in
    elim (cases_lt i (length xs)) [
      | inl a ↦ elim (cases_lt j (length xs)) [
        | inl b ↦ d i j a b (sym (old i a) ∙ e ∙ old j b)
        | inr b ↦ absurd (new (i, a, get_or_default xs i y 0 a ∙ sym (old i a) ∙ e ∙ last j (omega arith)))
      ]
      | inr a ↦ elim (cases_lt j (length xs)) [
        | inl b ↦ absurd (new (j, b, get_or_default xs j y 0 b ∙ sym (old j b) ∙ sym e ∙ last i (omega arith)))
        | inr b ↦ omega arith
      ]
    ]

-- one entry more
pub taken_push : (entries : List Entry) (P : Entry → Type 0) (p : ℕ) (found new : List ℕ) → p < length entries
    → P (entry_of entries p) → new ≡ found ++ p ∷ [] → IsTaken entries P p found → IsTaken entries P (p + 1) new
taken_push entries P p found new lt holds pushed t =
    let T : List ℕ → Type 0 = IsTaken entries P (p + 1) in
    let apart : Contains found p → ⊥ = λ c. (let b = (t.sound p c).0 in omega arith) in
    subst T (sym pushed) (record {
      within = omega arith;
      sound = λ k c. elim (Contains-push_cases found p k c) [
        | inl old ↦ (let h : IsBefore entries P p k = t.sound k old in let b = h.0 in (omega arith, h.1))
        | inr e ↦ (omega (arith, e), subst (λ (n : ℕ). P (entry_of entries n)) e holds)
      ];
      complete = λ k h. elim (cases_lt k p) [
        | inl before ↦ Contains-append_left found (p ∷ []) k (t.complete k (before, h.1))
        | inr past ↦
            (let b = h.0 in
            let at : p ≡ k = omega arith in
            let C : ℕ → Type 0 = λ x. Contains (found ++ p ∷ []) x in
            subst C at (Contains-push found p))
      ];
      once = distinct_push found p t.once apart;
    })

-- one that has not the property, or none of a run
pub taken_past : (entries : List Entry) (P : Entry → Type 0) (p end : ℕ) (found : List ℕ) → p ≤ end
    → end ≤ length entries → ((q : ℕ) → p ≤ q → q < end → P (entry_of entries q) → ⊥)
    → IsTaken entries P p found → IsTaken entries P end found
taken_past entries P p end found le within none t = record {
  within = within;
  sound = λ k c. (let h : IsBefore entries P p k = t.sound k c in let b = h.0 in (omega arith, h.1));
  complete = λ k h. elim (cases_lt k p) [
    | inl before ↦ t.complete k (before, h.1)
    | inr past ↦ absurd (none k past h.0 h.1)
  ];
  once = t.once;
}

-- ---- the walk

-- all entries before the run of the group at a place have been looked at
pub record IsTakenTo (entries : List Entry) (groups : List Group) (P : Entry → Type 0) (at : ℕ)
    (found : List ℕ) : Type 0 where
  pub within : at ≤ length groups
  pub taken : IsTaken entries P (begin_of (drop at groups) (length entries)) found

-- past a group of which the run has been looked at
pub taken_group : (entries : List Entry) (groups : List Group) (P : Entry → Type 0) (at next : ℕ)
    (group : Group) (found : List ℕ) → IsTreeOf entries groups → at < length groups
    → group ≡ get_or groups at group
    → next ≡ at + 1 + group.inside → IsTaken entries P (group.start + group.count) found
    → IsTakenTo entries groups P next found
taken_group entries groups P at next group found t lt is is_next taken =
    let g = group_here entries (length entries) at groups group t.groups_of lt is in
    let left : length (drop (at + 1) groups) + (at + 1) ≡ length groups = omega (arith, length-drop (at + 1) groups) in
    let inside = g.inside in
    let begins : begin_of (drop next groups) (length entries) ≡ group.start + group.count =
    ap (λ (n : ℕ). begin_of (drop n groups) (length entries)) is_next
    ∙ (ap (λ (gs : List Group). begin_of gs (length entries)) (sym (drop-drop group.inside (at + 1) groups))
    ∙ g.closes) in
    let B : ℕ → Type 0 = λ b. IsTaken entries P b found in
    record { within = omega arith; taken = subst B (sym begins) taken }

-- before it
pub taken_here : (entries : List Entry) (groups : List Group) (P : Entry → Type 0) (at : ℕ)
    (group : Group) (found : List ℕ) → at < length groups → group ≡ get_or groups at group
    → IsTakenTo entries groups P at found → IsTaken entries P group.start found
taken_here entries groups P at group found lt is t = let B : ℕ
    → Type 0 = λ b. IsTaken entries P b found in subst B (begin_here groups at (length entries) group lt is)
    t.taken

-- past one that has nothing
pub taken_barren : (entries : List Entry) (groups : List Group) (P : Entry → Type 0) (at next : ℕ)
    (group : Group) (found : List ℕ) → IsTreeOf entries groups → at < length groups
    → group ≡ get_or groups at group
    → next ≡ at + 1 + group.inside → IsBarren entries group P → IsTakenTo entries groups P at found
    → IsTakenTo entries groups P next found
taken_barren entries groups P at next group found t lt is is_next barren h =
    let g = group_here entries (length entries) at groups group t.groups_of lt is in
    taken_group entries groups P at next group found t lt is is_next
    (taken_past entries P group.start (group.start + group.count) found (omega arith) g.ends
    (λ q low high. barren q low high) (taken_here entries groups P at group found lt is h))

-- into a group with others inside
pub taken_into : (entries : List Entry) (groups : List Group) (P : Entry → Type 0) (at : ℕ)
    (group : Group) (found : List ℕ) → IsTreeOf entries groups → at < length groups
    → group ≡ get_or groups at group
    → 0 < group.inside → IsTakenTo entries groups P at found → IsTakenTo entries groups P (at + 1) found
taken_into entries groups P at group found t lt is some h =
    let g = group_here entries (length entries) at groups group t.groups_of lt is in
    let B : ℕ → Type 0 = λ b. IsTaken entries P b found in
    record {
      within = omega arith;
      taken = subst B (sym (g.opens some))
          (taken_here entries groups P at group found lt is h);
    }

-- what is taken holds the query
pub taken_some : (entries : List Entry) (query : Query) (end : ℕ) (found : List ℕ)
    → IsTaken entries (Holds query) end found → AreSomeHolding entries query found
taken_some entries query end found taken = record {
  sound = λ k c.
      (let h : IsBefore entries (Holds query) end k = taken.sound k c in
      let within = taken.within in
      let before = h.0 in
      record {
        entry = entry_of entries k;
        there = slice_get-get_or entries k no_entry (omega arith);
        holds = h.1;
      });
  once = taken.once;
}

-- past all groups
pub taken_all : (entries : List Entry) (groups : List Group) (query : Query) (at : ℕ) (found : List ℕ)
    → length groups ≤ at → IsTakenTo entries groups (Holds query) at found → AreHolding entries query found
taken_all entries groups query at found ge h =
    let P : Entry → Type 0 = Holds query in
    let end : begin_of (drop at groups) (length entries) ≡ length entries =
    ap (λ (gs : List Group). begin_of gs (length entries)) (drop_all at groups ge) in
    let B : ℕ → Type 0 = λ b. IsTaken entries P b found in
    let all : IsTaken entries P (length entries) found = subst B end h.taken in
    let some = taken_some entries query (length entries) found all in
    record {
      sound = some.sound;
      complete = λ k held.
          (let entry : entry_of entries k ≡ held.entry =
          get_or_from_slice_get entries k held.entry no_entry held.there in
          all.complete k (slice_get_within entries k held.entry held.there, subst P (sym entry) held.holds));
      once = some.once;
    }
