-- What is found near an entry: from the entries of trees to all that are near it, or to entries of two boxes.
use Rattle.std.proofs.Common.{◌≡◌, ℕ, ◌+◌, ◌<◌, ◌≤◌, Bool, true, false, List, [], ◌∷◌, ◌++◌, length, take, get_or}
use Rattle.std.proofs.Common.{Contains, ◌⊎◌, inl, inr, refl, sym, ◌∙◌, ap, subst, arith, length-take}
use Rattle.std.proofs.lemmas.Int.{clamps}
use Rattle.std.proofs.lemmas.List.{get_or-map, get_or-take, get_or_default, length-map, map-append, take_more}
use Rattle.std.proofs.lemmas.List.Elements.{Contains-append_left, Contains-get_or, Contains-push, Contains-push_cases}
use Rattle.std.specs.{Borrow.Bor, Prelude.IsTrue}
use Rattle.box_tree.specs.declared.{query.Query.Query, entries.{Group.Group, Entry.Entry}, tree.OwnedParts.OwnedParts}
use Rattle.box_tree.specs.{Queries.Holds, Tree.no_entry, UnvisitedTrees.{IsOf, IsRead}, Found.AreGathered}
use Rattle.box_tree.specs.UnvisitedTrees.{IsUnvisitedWithin}
use Rattle.box_tree.proofs.Walk.{IsWalked, walked_leaf, walked_all}
use Rattle.net_extract.specs.{Lists.tags_of, Nearby.{AreFound, AreFrom, AreOfTwo, IsInSome}}

-- ---- tags of entries

pub tags_push : (xs : List Entry) (x : Entry) → tags_of (xs ++ x ∷ []) ≡ tags_of xs ++ x.tag ∷ []
tags_push xs x = map-append (λ (e : Entry). e.tag) xs (x ∷ [])

pub tag_in : (xs : List Entry) (x : Entry) → Contains xs x → Contains (tags_of xs) x.tag
tag_in xs x (i, lt, is) =
    let tag : Entry → ℕ = λ e. e.tag in
    let len = length-map xs tag in
    (i, omega arith, get_or-map tag xs i x x.tag lt ∙ ap tag is)

pub tag_from : (xs : List Entry) (y : ℕ) → Contains (tags_of xs) y → (x : Entry) × Contains xs x × (x.tag ≡ y)
tag_from xs y (i, lt, is) =
    let tag : Entry → ℕ = λ e. e.tag in
    let len = length-map xs tag in
    let within : i < length xs = omega arith in (
      get_or xs i no_entry,
      Contains-get_or xs i no_entry within,
      sym (get_or-map tag xs i no_entry y within) ∙ is,
    )

-- ---- an element more

pub taken_earlier : {X : Type 0} (xs : List X) (i : ℕ) (d x : X) → i < length xs → Contains (take i xs) x
    → Contains (take (i + 1) xs) x
taken_earlier {X = X} xs i d x lt c = let P : List X → Type 0 =
    λ ys. Contains ys x in subst P (sym (take_more xs i d lt)) (Contains-append_left (take i xs) (get_or xs i d ∷ []) x c)

pub taken_last : {X : Type 0} (xs : List X) (i : ℕ) (d : X) → i < length xs → Contains (take (i + 1) xs) (get_or xs i d)
taken_last {X = X} xs i d lt = let P : List X → Type 0 =
    λ ys. Contains ys (get_or xs i d) in subst P (sym (take_more xs i d lt)) (Contains-push (take i xs) (get_or xs i d))

pub taken_cases : {X : Type 0} (xs : List X) (i : ℕ) (d x : X) → i < length xs → Contains (take (i + 1) xs) x
    → Contains (take i xs) x ⊎ (get_or xs i d ≡ x)
taken_cases {X = X} xs i d x lt c = let P : List X → Type 0 =
    λ ys. Contains ys x in Contains-push_cases (take i xs) (get_or xs i d) x (subst P (take_more xs i d lt) c)

pub taken_from : {X : Type 0} (xs : List X) (n : ℕ) (x : X) → Contains (take n xs) x → Contains xs x
taken_from xs n x (k, lt, is) =
    let len = length-take n xs in
    let before : k < n = omega (arith, clamps) in
    (k, omega (arith, clamps), sym (get_or-take n xs k x before) ∙ is)

-- ---- where entries are from

pub from_more : (From : Entry → Type 0) (query : Query) (old middle new : List Entry) → AreFrom From query old middle
    → AreFrom From query middle new → AreFrom From query old new
from_more From query old middle new f g =
    λ b c. elim (g b c) [ inl m ↦ f b m | inr is ↦ inr is ]

pub from_push : (From : Entry → Type 0) (query : Query) (xs : List Entry) (x : Entry) → From x → Holds query x
    → AreFrom From query xs (xs ++ x ∷ [])
from_push From query xs x from holds = λ b c.
    elim (Contains-push_cases xs x b c) [
      | inl old ↦ inl old
      | inr e ↦ (let P : Entry → Type 0 = λ s. From s × Holds query s in inr (subst P e (from, holds)))
    ]

-- one entry more, if it holds the query
pub from_if : (From : Entry → Type 0) (query : Query) (old middle new : List Entry) (x : Entry) → From x
    → (Holds query x × (new ≡ middle ++ x ∷ [])) ⊎ ((Holds query x → ⊥) × (new ≡ middle))
    → AreFrom From query old middle → AreFrom From query old new
from_if From query old middle new x from case f =
    let P : List Entry → Type 0 = AreFrom From query old in
    elim case [
      | inl (holds, is) ↦
          subst P (sym is)
          (from_more From query old middle (middle ++ x ∷ []) f (from_push From query middle x from holds))
      | inr (not, is) ↦ subst P (sym is) f
    ]

-- ---- in one tree

-- an entry of a tree, by its tag
of_entry : (entries : List Entry) (query : Query) (b : Entry) → Contains entries b → Holds query b
    → IsOf entries (Holds query) b.tag
of_entry entries query b (k, lt, is) holds =
    let at : get_or entries k no_entry ≡ b = get_or_default entries k no_entry b lt ∙ is in
    record {
      k = k;
      among = lt;
      tag = ap (λ (e : Entry). e.tag) at;
      is = (let P : Entry → Type 0 = Holds query in subst P (sym at) holds);
    }

-- how far a walk has come
pub record IsSought (parts : OwnedParts) (query : Query) (before : List Entry) (at : ℕ) (found : List Entry) : Type 0 where
  pub walked : IsWalked parts query [] (tags_of before) at (tags_of found)
  pub from : AreFrom (Contains parts.entries.items) query before found

-- enough has been found in a leaf
pub found_enough : (parts : OwnedParts) (query : Query) (at : ℕ) (group : Group) (end : ℕ)
    (before found new : List Entry) → IsRead parts at group → group.inside ≡ 0 → end ≡ group.start + group.count
    → AreOfTwo new → AreGathered (IsUnvisitedWithin parts query [] group.start end) (tags_of found) (tags_of new)
    → AreFrom (Contains parts.entries.items) query found new → IsSought parts query before at found
    → AreFound (Contains parts.entries.items) query false before new
found_enough parts query at group end before found new g leaf is_end two some from w = record {
  sound = from_more (Contains parts.entries.items) query before found new w.from from;
  kept = λ y c. some.kept y (w.walked.gathered.kept y c);
  complete = λ t. absurd (cc);
  two = λ _. two;
}

pub sought_leaf : (parts : OwnedParts) (query : Query) (at : ℕ) (group : Group) (end : ℕ)
    (before found new : List Entry) → IsRead parts at group → group.inside ≡ 0 → end ≡ group.start + group.count
    → AreGathered (IsUnvisitedWithin parts query [] group.start end) (tags_of found) (tags_of new)
    → AreFrom (Contains parts.entries.items) query found new → IsSought parts query before at found
    → IsSought parts query before (at + 1) new
sought_leaf parts query at group end before found new g leaf is_end some from w = record {
  walked = walked_leaf parts query [] (tags_of before) at group end (tags_of found) (tags_of new) g leaf is_end some
      w.walked;
  from = from_more (Contains parts.entries.items) query before found new w.from from;
}

-- all has been found
pub found_all : (parts : OwnedParts) (query : Query) (at : ℕ) (before found : List Entry)
    → length parts.groups.items ≤ at → IsSought parts query before at found
    → AreFound (Contains parts.entries.items) query true before found
found_all parts query at before found past w =
    let g = walked_all parts query [] (tags_of before) at (tags_of found) past w.walked in
    record {
      sound = w.from;
      kept = g.kept;
      complete = λ _ b c h. g.complete b.tag (record { of = of_entry parts.entries.items query b c h; left = refl });
      two = λ t. absurd (cc);
    }

-- ---- one after another

pub found_more : (P Q R : Entry → Type 0) (query : Query) (all : Bool) (old middle new : List Entry)
    → ((b : Entry) → P b ⊎ Q b → R b) → (IsTrue all → (b : Entry) → R b → P b ⊎ Q b)
    → AreFound P query true old middle → AreFound Q query all middle new → AreFound R query all old new
found_more P Q R query all old middle new forth back f g = record {
  sound = λ b c. elim (g.sound b c) [
    | inl m ↦ elim (f.sound b m) [ inl o ↦ inl o | inr p ↦ inr (forth b (inl p.0), p.1) ]
    | inr q ↦ inr (forth b (inr q.0), q.1)
  ];
  kept = λ y c. g.kept y (f.kept y c);
  complete = λ t b r h. elim (back t b r) [
    | inl p ↦ g.kept b.tag (f.complete refl b p h)
    | inr q ↦ g.complete t b q h
  ];
  two = g.two;
}

-- one tree more
pub found_tree : (trees : List (Bor OwnedParts)) (i : ℕ) (query : Query) (all : Bool) (old middle new : List Entry)
    (tree : Bor OwnedParts) → i < length trees → get_or trees i tree ≡ tree
    → AreFound (IsInSome (take i trees)) query true old middle
    → AreFound (Contains tree.now.entries.items) query all middle new
    → AreFound (IsInSome (take (i + 1) trees)) query all old new
found_tree trees i query all old middle new tree lt is =
    let Last : Bor OwnedParts → Type 0 = Contains (take (i + 1) trees) in
    found_more (IsInSome (take i trees)) (Contains tree.now.entries.items) (IsInSome (take (i + 1) trees)) query all old
    middle new
    (λ b h. elim h [
      | inl o ↦
          record { tree = o.tree; among = taken_earlier trees i tree o.tree lt o.among; «in» = o.«in» }
      | inr c ↦ record { tree = tree; among = subst Last is (taken_last trees i tree lt); «in» = c }
    ])
    (λ _ b h. elim (taken_cases trees i tree h.tree lt h.among) [
      | inl o ↦ inl (record { tree = h.tree; among = o; «in» = h.«in» })
      | inr e ↦
          (let In : Bor OwnedParts → Type 0 = λ t. Contains t.now.entries.items b in
          inr (subst In (sym (sym is ∙ e)) h.«in»))
    ])

-- some of the trees are trees of all
pub found_some : (trees some : List (Bor OwnedParts)) (query : Query) (old new : List Entry)
    → ((t : Bor OwnedParts) → Contains some t → Contains trees t) → AreFound (IsInSome some) query false old new
    → AreFound (IsInSome trees) query false old new
found_some trees some query old new within f = record {
  sound = λ b c. elim (f.sound b c) [
    | inl o ↦ inl o
    | inr h ↦ inr (record { tree = h.0.tree; among = within h.0.tree h.0.among; «in» = h.0.«in» }, h.1)
  ];
  kept = f.kept;
  complete = λ t. absurd (cc);
  two = f.two;
}

-- ---- among some entries

-- one entry more
pub found_entry : (nearby : List Entry) (i : ℕ) (query : Query) (x : Entry) (old middle new : List Entry)
    → i < length nearby → get_or nearby i x ≡ x
    → (Holds query x × (new ≡ middle ++ x ∷ [])) ⊎ ((Holds query x → ⊥) × (new ≡ middle))
    → AreFound (Contains (take i nearby)) query true old middle
    → AreFound (Contains (take (i + 1) nearby)) query true old new
found_entry nearby i query x old middle new lt is case =
    let Same : Entry → Type 0 = λ b. b ≡ x in
    let Last : Entry → Type 0 = Contains (take (i + 1) nearby) in
    let H : Entry → Type 0 = Holds query in
    let N : List Entry → Type 0 = λ xs. AreFound Same query true middle xs in
    let one : AreFound Same query true middle new = elim case [
      | inl (holds, e) ↦
          subst N (sym e) (record {
            sound = from_push Same query middle x refl holds;
            kept = λ y c.
                (let T : List ℕ → Type 0 = λ ts. Contains ts y in
                subst T (sym (tags_push middle x)) (Contains-append_left (tags_of middle) (x.tag ∷ []) y c));
            complete = λ _ b same h.
                (let T : Entry → Type 0 = λ s. Contains (tags_of (middle ++ x ∷ [])) s.tag in
                subst T (sym same) (tag_in (middle ++ x ∷ []) x (Contains-push middle x)));
            two = λ t. absurd (cc);
          })
      | inr (not, e) ↦
          subst N (sym e) (record {
            sound = λ b c. inl c;
            kept = λ y c. c;
            complete = λ _ b same h. absurd (not (subst H same h));
            two = λ t. absurd (cc);
          })
    ] in
    λ f. found_more (Contains (take i nearby)) Same (Contains (take (i + 1) nearby)) query true old middle new
    (λ b h. elim h [
      | inl o ↦ taken_earlier nearby i x b lt o
      | inr e ↦ subst Last (is ∙ sym e) (taken_last nearby i x lt)
    ])
    (λ _ b h. elim (taken_cases nearby i x b lt h) [ inl o ↦ inl o | inr e ↦ inr (sym e ∙ is) ])
    f one
