-- Groups one after another, and the walk over them.
use Rattle.std.proofs.Common.{◌≡◌, ℕ, zero, suc, ◌+◌, ◌-◌, ◌<◌, ◌≤◌, inl, inr, Some, List, [], ◌∷◌, ◌++◌}
use Rattle.std.proofs.Common.{length, set, get_or, drop, slice_get, refl, sym, ap, ◌∙◌, subst, arith}
use Rattle.std.proofs.Common.{length-append, length-drop, append_assoc, take}
use Rattle.std.proofs.lemmas.{Bool.cases_lt, List.{drop-append-le, drop_more, drop_all, drop-drop, get_or_default}}
use Rattle.std.proofs.lemmas.{List.{set_at, take_all, take_more}, Option.{get_or_from_slice_get, slice_get_within}}
use Rattle.box_tree.specs.{declared.{entries.{Group.Group, Entry.Entry}, grow.Subtree.Subtree}}
use Rattle.box_tree.specs.{Tree.{AreGroups, IsBounded, IsGroupOf}}
use Rattle.box_tree.specs.{Tree.{IsPlacedGroup, IsTreeOf, begin_of, no_entry, entry_of}, Grown.{IsGrown, IsSubtree}}

-- an entry that was read is the one at its place
pub entry_read : (entries : List Entry) (p : ℕ) (entry : Entry) → p < length entries → entry ≡ get_or entries p entry
    → entry ≡ entry_of entries p
entry_read entries p entry lt is = is ∙ get_or_default entries p entry no_entry lt

-- ---- groups after others

begin_append : (xs ys : List Group) (mid end : ℕ) → begin_of ys end ≡ mid → begin_of (xs ++ ys) end ≡ begin_of xs mid
begin_append [] ys mid end e = e
begin_append (x ∷ xs) ys mid end e = refl

groups_append : (entries : List Entry) (xs ys : List Group) (mid end : ℕ) → mid ≤ end
    → begin_of ys end ≡ mid → AreGroups entries mid xs → AreGroups entries end ys
    → AreGroups entries end (xs ++ ys)
groups_append entries [] ys mid end le e h k = k
groups_append entries (x ∷ xs) ys mid end le e h k =
    let g = h.0 in (
      record {
        placed = g.placed;
        inside = omega (arith, g.inside, length-append xs ys);
        opens = λ lt. begin_append xs ys mid end e ∙ g.opens lt;
        closes = ap (λ (gs : List Group). begin_of gs end) (drop-append-le x.inside xs ys g.inside)
            ∙ (begin_append (drop x.inside xs) ys mid end e ∙ g.closes);
        ends = omega (arith, g.ends);
        within = g.within;
      },
      groups_append entries xs ys mid end le e h.1 k,
    )

-- a leaf
pub grown_leaf : (entries : List Entry) (start end : ℕ) (before after : List Group) (leaf : Group)
    → after ≡ before ++ leaf ∷ [] → IsPlacedGroup leaf
    → leaf.start ≡ start → start + leaf.count ≡ end → leaf.inside ≡ 0
    → ((p : ℕ) → start ≤ p → p < end → IsBounded leaf (entry_of entries p)) → start < end
    → IsGrown entries start end before after leaf
grown_leaf entries start end before after leaf after_is placed starts ends inside within some = record {
  inner = [];
  after_is = after_is;
  groups = (
    record {
      placed = placed;
      inside = omega (arith, inside);
      opens = λ some. absurd (omega (arith, inside));
      closes = rw inside (omega (arith, starts, ends));
      ends = omega (arith, starts, ends);
      within = λ p from to. within p (omega (arith, starts)) (omega (arith, starts, ends));
    },
    tt,
  );
  starts = starts;
  ends = ends;
  inside = inside;
  few = omega (arith, some, ap length after_is, length-append before (leaf ∷ []));
}

-- groups that were made apart stand after others
pub grown_after : (entries : List Entry) (start end : ℕ) (before made after : List Group)
    (group : Group) → after ≡ before ++ made → IsGrown entries start end [] made group
    → IsGrown entries start end before after group
grown_after entries start end before made after group after_is h = record {
  inner = h.inner;
  after_is = after_is ∙ ap (λ (gs : List Group). before ++ gs) h.after_is;
  groups = h.groups;
  starts = h.starts;
  ends = h.ends;
  inside = h.inside;
  few = omega (arith, h.few, ap length after_is, length-append before made);
}

-- groups with no place free before them
nothing_before : (before : List Group) → length before ≡ 0 → before ≡ []
nothing_before [] e = refl
nothing_before (x ∷ xs) e = absurd (omega (arith, e))

pub grown_alone : (entries : List Entry) (start end : ℕ) (made : Subtree) → IsSubtree entries start end 0 made
    → IsGrown entries start end [] made.groups.items made.top
grown_alone entries start end made h =
    subst (λ (gs : List Group). IsGrown entries start end gs made.groups.items made.top)
    (nothing_before h.before h.are_free) h.grown

-- the last of the places that are free
pub last_free : (before : List Group) (at : ℕ) (empty : Group) → length before ≡ at + 1
    → before ≡ take at before ++ get_or before at empty ∷ []
last_free before at empty many = sym (take_all (at + 1) before (omega (arith, many)))
    ∙ take_more before at empty (omega (arith, many))

pub stands_after : (entries : List Entry) (start end free : ℕ) (made : Subtree)
    → IsSubtree entries start end free made → free < length made.groups.items
stands_after entries start end free made h = omega (
  arith,
  h.are_free,
  ap length h.grown.after_is,
  length-append h.before (made.top ∷ h.grown.inner),
)

-- a group that was opened before two others is put round them
pub grown_both : (entries : List Entry) (start middle end place : ℕ)
    (before opened mid after final : List Group) (empty left right group : Group)
    → opened ≡ before ++ empty ∷ [] → place ≡ length before → IsGrown entries start middle opened mid left
    → IsGrown entries middle end mid after right
    → IsPlacedGroup group → group.start ≡ left.start → group.count ≡ left.count + right.count
    → ((s : Entry) → IsBounded left s → IsBounded group s) → ((s : Entry) → IsBounded right s → IsBounded group s)
    → group.inside ≡ length after - 1 - place → final ≡ set after place group
    → IsGrown entries start end before final group
grown_both entries start middle end place before opened mid after final empty left right group open_is there h k
    placed starts count first second inside closed =
    let both = (left ∷ h.inner) ++ (right ∷ k.inner) in
    let after_is : after ≡ before ++ (empty ∷ both) =
    k.after_is
    ∙ (ap (λ (gs : List Group). gs ++ right ∷ k.inner)
    (h.after_is ∙ ap (λ (gs : List Group). gs ++ left ∷ h.inner) open_is)
    ∙ (append_assoc (before ++ empty ∷ []) (left ∷ h.inner) (right ∷ k.inner)
    ∙ append_assoc before (empty ∷ []) both)) in
    let len : length after ≡ length before + 1 + length both =
    omega (arith, ap length after_is, length-append before (empty ∷ both)) in
    let many : group.inside ≡ length both = omega (arith, len, inside, there) in
    let le : middle ≤ end = omega (arith, k.ends) in
    let groups = groups_append entries (left ∷ h.inner) (right ∷ k.inner) middle end le k.starts h.groups
    k.groups in
    let run : start + group.count ≡ end = omega (arith, h.ends, k.ends, count) in
    let begins : group.start ≡ start = starts ∙ h.starts in
    let final_is : final ≡ before ++ (group ∷ both) = closed
    ∙ (ap (λ (gs : List Group). set gs place group) after_is
    ∙ set_at before empty both group place (sym there)) in
    record {
      inner = both;
      after_is = final_is;
      groups = (
        record {
          placed = placed;
          inside = omega (arith, many);
          opens = λ lt. sym starts;
          closes = ap (λ (gs : List Group). begin_of gs end) (drop_all group.inside both (omega (arith, many)))
              ∙ omega (arith, run, begins);
          ends = omega (arith, run, begins);
          within = λ p low high. elim (cases_lt p middle) [
            | inl less ↦ first (entry_of entries p)
                (h.groups.0.within p (omega (arith, low, begins, h.starts)) (omega (arith, less, h.starts, h.ends)))
            | inr more ↦ second (entry_of entries p)
                (k.groups.0.within p (omega (arith, more, k.starts))
                (omega (arith, high, run, begins, k.starts, k.ends)))
          ];
        },
        groups,
      );
      starts = begins;
      ends = run;
      inside = many;
      few = omega (
        arith,
        h.few,
        k.few,
        len,
        ap length final_is,
        length-append before (group ∷ both),
        ap length open_is,
        length-append before (empty ∷ []),
      );
    }

-- ---- a walk over the groups

-- groups from a place on
groups_drop : (entries : List Entry) (end n : ℕ) (xs : List Group) → AreGroups entries end xs
    → AreGroups entries end (drop n xs)
groups_drop entries end zero xs h = h
groups_drop entries end (suc n) [] h = tt
groups_drop entries end (suc n) (x ∷ xs) h = groups_drop entries end n xs h.1

-- the group at a place
pub group_here : (entries : List Entry) (end at : ℕ) (groups : List Group) (group : Group)
    → AreGroups entries end groups → at < length groups → group ≡ get_or groups at group
    → IsGroupOf entries end group (drop (at + 1) groups)
group_here entries end at groups group h lt is =
    let here = subst (AreGroups entries end) (drop_more groups at group lt)
    (groups_drop entries end at groups h) in
    subst (λ (g : Group). IsGroupOf entries end g (drop (at + 1) groups)) (sym is) here.0

-- no entry before the run of the group at a place has a property
pub record IsPassed (entries : List Entry) (groups : List Group) (P : Entry → Type 0) (at : ℕ) : Type
    0 where
  pub within : at ≤ length groups
  pub none : (p : ℕ) → p < begin_of (drop at groups) (length entries) → P (entry_of entries p) → ⊥

pub passed_none : (entries : List Entry) (groups : List Group) (P : Entry → Type 0)
    → IsTreeOf entries groups → IsPassed entries groups P 0
passed_none entries groups P t =
    record { within = omega arith; none = λ p lt _. absurd (omega (arith, t.first, lt)) }

-- no entry of the run of a group has it
abbrev pub IsBarren : List Entry → Group → (Entry → Type 0) → Type 0
IsBarren entries group P = (p : ℕ) → group.start ≤ p → p < group.start + group.count
    → P (entry_of entries p) → ⊥

pub barren_bounds : (entries : List Entry) (end : ℕ) (group : Group) (rest : List Group)
    (P : Entry → Type 0) → IsGroupOf entries end group rest → ((s : Entry) → IsBounded group s → P s → ⊥)
    → IsBarren entries group P
barren_bounds entries end group rest P g none =
    λ p low high holds. none (entry_of entries p) (g.within p low high) holds

pub begin_here : (groups : List Group) (at end : ℕ) (group : Group) → at < length groups
    → group ≡ get_or groups at group → begin_of (drop at groups) end ≡ group.start
begin_here groups at end group lt is = ap (λ (gs : List Group). begin_of gs end) (drop_more groups at group lt)
    ∙ ap (λ (g : Group). g.start) (sym is)

-- past a group none of whose entries holds it
pub passed_group : (entries : List Entry) (groups : List Group) (P : Entry → Type 0) (at : ℕ)
    (group : Group) → IsTreeOf entries groups → at < length groups → group ≡ get_or groups at group
    → IsBarren entries group P → IsPassed entries groups P at
    → IsPassed entries groups P (at + 1 + group.inside)
passed_group entries groups P at group t lt is barren h =
    let g = group_here entries (length entries) at groups group t.groups_of lt is in
    let left : length (drop (at + 1) groups) + (at + 1) ≡ length groups = omega (arith, length-drop (at + 1) groups) in
    let begins = begin_here groups at (length entries) group lt is in
    let next : begin_of (drop (at + 1 + group.inside) groups) (length entries) ≡ group.start + group.count =
    ap (λ (gs : List Group). begin_of gs (length entries)) (sym (drop-drop group.inside (at + 1) groups)) ∙ g.closes in
    record {
      within = omega (arith, left, g.inside);
      none = λ p low holds. elim (cases_lt p group.start) [
        | inl less ↦ h.none p (omega (arith, less, begins)) holds
        | inr more ↦ barren p more (omega (arith, low, next)) holds
      ];
    }

-- into a group with others inside
pub passed_into : (entries : List Entry) (groups : List Group) (P : Entry → Type 0) (at : ℕ)
    (group : Group) → IsTreeOf entries groups → at < length groups → group ≡ get_or groups at group
    → 0 < group.inside → IsPassed entries groups P at → IsPassed entries groups P (at + 1)
passed_into entries groups P at group t lt is some h =
    let g = group_here entries (length entries) at groups group t.groups_of lt is in
    let same : begin_of (drop (at + 1) groups) (length entries) ≡ begin_of (drop at groups) (length entries) =
    g.opens some ∙ sym (begin_here groups at (length entries) group lt is) in
    record { within = omega arith; none = λ p low holds. h.none p (omega (arith, low, same)) holds }

-- past all groups
pub passed_all : (entries : List Entry) (groups : List Group) (P : Entry → Type 0) (at : ℕ)
    → length groups ≤ at → IsPassed entries groups P at → (k : ℕ) (s : Entry) → slice_get entries k ≡ Some s → P s → ⊥
passed_all entries groups P at ge h k s is holds =
    let among = slice_get_within entries k s is in
    let entry : entry_of entries k ≡ s = get_or_from_slice_get entries k s no_entry is in
    let end : begin_of (drop at groups) (length entries) ≡ length entries =
    ap (λ (gs : List Group). begin_of gs (length entries)) (drop_all at groups ge) in
    h.none k (omega (arith, among, end)) (subst P (sym entry) holds)
