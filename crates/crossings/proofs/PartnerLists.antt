-- What is found of partners for all boxes of a group at once.
use Rattle.std.proofs.Common.{◌≡◌, ◌≢◌, ◌↔◌, ℕ, ◌+◌, ◌<◌, pos, negsuc, ◌≤ℤ◌, ◌⊎◌, inl, inr, Bool, IsTrue, Option, Some}
use Rattle.std.proofs.Common.{None, IfSome, List, Contains, length, get_or, set, replicate, sym, ap, ◌∙◌, subst, Bor}
use Rattle.std.proofs.{Common.{arith, drop, length-set, slice_get}, lemmas.Bool.{cases_eq, cases_lt}}
use Rattle.std.proofs.lemmas.{Int.{ints, clamps}, List.{get_or-replicate, get_or-set_other, get_or-set_same}}
use Rattle.std.proofs.lemmas.List.{Elements.Contains-get_or, length-replicate, get_or_default}
use Rattle.std.proofs.lemmas.Option.{get_or_from_slice_get, slice_get-get_or, slice_get_within}
use Rattle.lam_geom.specs.declared.boxes.{BoxXY.BoxXY, MaskBox.MaskBox, MaskLayer.MaskLayer}
use Rattle.lam_geom.specs.Gaps.{Encloses, Overlaps, gap_of_boxes}
use Rattle.box_tree.specs.declared.{query.{Query.Query, Question.TheVariants.NearOfOther}, entries.Entry.Entry}
use Rattle.box_tree.specs.{declared.{entries.Group.Group, tree.Parts.Parts}, Found.AreHolding, Queries.HoldsAt}
use Rattle.box_tree.{specs.Tree.{IsGroupOf, IsTreeOf, entry_of, no_entry}, proofs.Trees.group_here}
use Rattle.crossing_model.specs.Boxes.{area_at}
use Rattle.crossings.specs.declared.partners.Partners.{Partners, TheVariants.{Nothing, One, Several}}
use Rattle.crossings.specs.declared.partner_lists.{BoxPartners.BoxPartners, LayerTrees.LayerTrees}
use Rattle.crossings.specs.Entries.{AreBoxesOn, AreEntriesFacing, ArePartnersOf, box_entry}
use Rattle.crossings.specs.{Pairs.{DoOverlap, HowMany, facing_of}, PartnerLists.{HaveOverlapped, IsFound}}
use Rattle.crossings.specs.PartnerLists.{IsOwnerBefore, AreLayerTrees, OverlapsBefore, numbered_entry}
use Rattle.crossings.proofs.EntryBoxes.{entry_area, entry_overlaps, overlapped_there}
use Rattle.crossings.proofs.{Facing.{area_overlap, overlap_faces}, Overlapped.two_overlap}

-- ---- the list of what is known

pub known_none : (boxes : List MaskBox) (count : ℕ) (known : List (Option Partners)) → count ≡ length boxes
    → known ≡ replicate count None → ArePartnersOf boxes known
known_none boxes count known counted is =
    let none : Option Partners = None in
    record {
      counted = ap (λ (xs : List (Option Partners)). length xs) is ∙ length-replicate count none ∙ counted;
      each = λ a lt.
          (let at : get_or known a None ≡ None = ap (λ (xs : List (Option Partners)). get_or xs a None) is
          ∙ get_or-replicate count a none none (omega arith) in
          subst (λ (o : Option Partners). IfSome o (HowMany (DoOverlap boxes a))) (sym at) tt);
    }

-- one more was noted
pub known_more : (boxes : List MaskBox) (own : BoxPartners) (old new : List (Option Partners)) → IsFound boxes own
    → new ≡ set old own.number (Some own.partners) → ArePartnersOf boxes old → ArePartnersOf boxes new
known_more boxes own old new found is h =
    let some : Option Partners = Some own.partners in
    let counted = h.counted in
    let among = found.among in
    record {
      counted = ap (λ (xs : List (Option Partners)). length xs) is ∙ length-set old own.number some ∙ h.counted;
      each = λ a lt. elim (cases_eq a own.number) [
        | inl same ↦
            (let at : get_or new a None ≡ some = ap (λ (xs : List (Option Partners)). get_or xs a None) is
            ∙ ap (λ (k : ℕ). get_or (set old own.number some) k None) same
            ∙ get_or-set_same old own.number some None (omega arith) in
            let P : ℕ → Type 0 = λ k. HowMany (DoOverlap boxes k) own.partners in
            subst (λ (o : Option Partners). IfSome o (HowMany (DoOverlap boxes a))) (sym at)
            (subst P (sym same) found.partners))
        | inr other ↦
            (let at : get_or new a None ≡ get_or old a None = ap (λ (xs : List (Option Partners)). get_or xs a None) is
            ∙ get_or-set_other old own.number a some None other in
            subst (λ (o : Option Partners). IfSome o (HowMany (DoOverlap boxes a))) (sym at) (h.each a lt))
      ];
    }

-- ---- partners that are counted one after another

-- the same numbers by other words
pub counted_same : (P Q : ℕ → Type 0) (p : Partners) → ((k : ℕ) → P k → Q k) → ((k : ℕ) → Q k → P k) → HowMany P p
    → HowMany Q p
counted_same P Q Nothing forth back h = λ k q. h k (back k q)
counted_same P Q (One a) forth back h = (forth a h.0, λ k q. h.1 k (back k q))
counted_same P Q Several forth back h =
    record { a = h.a; b = h.b; apart = h.apart; at_a = forth h.a h.at_a; at_b = forth h.b h.at_b }

module _ (boxes : List MaskBox) (a : ℕ) (entries : List Entry) (numbers : List ℕ) where
  -- so far
  abbrev pub Counted : ℕ → Partners → Type 0
  Counted n p = HowMany (OverlapsBefore boxes a entries numbers n) p

  later : (n b : ℕ) → OverlapsBefore boxes a entries numbers n b → OverlapsBefore boxes a entries numbers (n + 1) b
  later n b h =
      let o = h.1 in
      let lt = o.before in
      (h.0, record { place = o.place; before = omega arith; owner = o.owner })

  last_or_earlier : (n b : ℕ) → OverlapsBefore boxes a entries numbers (n + 1) b
      → OverlapsBefore boxes a entries numbers n b ⊎ (b ≡ (numbered_entry entries numbers n).owner)
  last_or_earlier n b h =
      let o = h.1 in
      let lt = o.before in
      elim (cases_lt o.place n) [
        | inl less ↦ inl (h.0, record { place = o.place; before = less; owner = o.owner })
        | inr more ↦
            (let e : o.place ≡ n = omega arith in
            inr (sym o.owner ∙ ap (λ (k : ℕ). (numbered_entry entries numbers k).owner) e))
      ]

  pub counted_none : Counted 0 Nothing
  counted_none = λ k h. (let lt = h.1.before in absurd (omega arith))

  -- one more, which it does not overlap
  pub counted_skip : (n : ℕ) (s : Entry) (p : Partners) → s ≡ numbered_entry entries numbers n
      → (DoOverlap boxes a s.owner → ⊥) → Counted n p → Counted (n + 1) p
  counted_skip n s p read apart h =
      counted_same (OverlapsBefore boxes a entries numbers n) (OverlapsBefore boxes a entries numbers (n + 1)) p
      (later n)
      (λ k q. elim (last_or_earlier n k q) [
        | inl o ↦ o
        | inr e ↦
            let D : ℕ → Type 0 = λ m. DoOverlap boxes a m in
            absurd (apart (subst D (e ∙ sym (ap (λ (x : Entry). x.owner) read)) q.0))
      ])
      h

  -- the first that it overlaps
  pub counted_first : (n : ℕ) (s : Entry) → s ≡ numbered_entry entries numbers n → DoOverlap boxes a s.owner
      → Counted n Nothing → Counted (n + 1) (One s.owner)
  counted_first n s read over h =
      let own = sym (ap (λ (x : Entry). x.owner) read) in (
        (over, record { place = n; before = omega arith; owner = own }),
        λ k q. elim (last_or_earlier n k q) [ inl o ↦ absurd (h k o) | inr e ↦ e ∙ own ],
      )

  -- the same as before
  pub counted_again : (n : ℕ) (s : Entry) (known : ℕ) → s ≡ numbered_entry entries numbers n → known ≡ s.owner
      → Counted n (One known) → Counted (n + 1) (One known)
  counted_again n s known read same h = (
    later n known h.0,
    λ k q. elim (last_or_earlier n k q) [
      | inl o ↦ h.1 k o
      | inr e ↦
          e ∙ sym (same ∙ ap (λ (x : Entry). x.owner) read)
    ],
  )

  -- all of them
  pub counted_all : (p : Partners) → HaveOverlapped boxes a entries numbers → Counted (length numbers) p
      → HowMany (DoOverlap boxes a) p
  counted_all p have h =
      counted_same (OverlapsBefore boxes a entries numbers (length numbers)) (DoOverlap boxes a) p (λ k q. q.0)
      (λ k over. (over, have.complete k over))
      h

  -- several, as soon as there are two
  pub counted_two : (n known other : ℕ) → DoOverlap boxes a other → known ≢ other → Counted n (One known)
      → HowMany (DoOverlap boxes a) Several
  counted_two n known other over apart h =
      two_overlap boxes a known other h.0.0 over (λ e. apart (sym e))

  pub counted_several : (n : ℕ) → Counted n Several → HowMany (DoOverlap boxes a) Several
  counted_several n h = record { a = h.a; b = h.b; apart = h.apart; at_a = h.at_a.0; at_b = h.at_b.0 }

-- ---- the boxes over those of a group

-- whether a box overlaps that of an entry that was read
pub overlaps_entry : (boxes : List MaskBox) (a k : ℕ) (entries : List Entry) (s : Entry) (own : BoxXY) (r : Bool)
    → AreEntriesFacing boxes a entries → k < length entries → s ≡ get_or entries k s → own ≡ area_at boxes a
    → IsTrue r ↔ Overlaps own s.area → IsTrue r ↔ DoOverlap boxes a s.owner
overlaps_entry boxes a k entries s own r facing lt read is says =
    let there : slice_get entries k ≡ Some s = slice_get-get_or entries k s lt ∙ ap Some (sym read) in
    let area = entry_area boxes a entries k s facing there in (
      λ t. (let O : BoxXY → Type 0 = λ x. Overlaps x s.area in
          entry_overlaps boxes a entries k s facing there (subst O is (says.0 t))),
      λ over.
          (let O : BoxXY → Type 0 = λ x. Overlaps x s.area in
          let A : BoxXY → Type 0 = λ x. Overlaps (area_at boxes a) x in
          says.1 (subst O (sym is) (subst A (sym area) (area_overlap boxes a s.owner over)))),
    )

near_outer : (outer own other : BoxXY) → Encloses outer own (pos 0) → Overlaps own other
    → gap_of_boxes outer other ≤ℤ negsuc 0
near_outer outer own other e t = omega (arith, ints, clamps, e, t)

owner_listed : (boxes : List MaskBox) (entries : List Entry) (numbers : List ℕ) (k b : ℕ)
    → slice_get entries k ≡ Some (box_entry boxes b) → Contains numbers k
    → IsOwnerBefore entries numbers (length numbers) b
owner_listed boxes entries numbers k b there (i, lt, is) =
    let number : get_or numbers i 0 ≡ k = get_or_default numbers i 0 k lt ∙ is in
    let entry = ap (λ (n : ℕ). get_or entries n no_entry) number
    ∙ get_or_from_slice_get entries k (box_entry boxes b) no_entry there in
    record { place = i; before = lt; owner = ap (λ (s : Entry). s.owner) entry }

-- a tree as it stands, beside another
pub trees_made : (boxes : List MaskBox) (layer other : MaskLayer) (own : Parts) (facing : Bor (List Entry))
    (entries : List Entry) → facing_of layer ≡ Some other → own.entries.now ≡ entries
    → IsTreeOf entries own.groups.now → AreBoxesOn boxes layer entries
    → AreBoxesOn boxes other facing.now → AreLayerTrees boxes (record { own = own; facing = facing })
trees_made boxes layer other own facing entries crosses is tree on others =
    let T : List Entry → Type 0 = λ ss. IsTreeOf ss own.groups.now in
    record {
      layer = layer;
      other = other;
      crosses = crosses;
      tree = subst T (sym is) tree;
      own = subst (AreBoxesOn boxes layer) (sym is) on;
      others = others;
    }

-- a group that was read
pub group_read : (boxes : List MaskBox) (trees : LayerTrees) (at : ℕ) (d : Group) → AreLayerTrees boxes trees
    → at < length trees.own.groups.now
    → IsGroupOf trees.own.entries.now (length trees.own.entries.now) (get_or trees.own.groups.now at d)
    (drop (at + 1) trees.own.groups.now)
group_read boxes trees at d h lt =
    let groups = trees.own.groups.now in
    group_here trees.own.entries.now (length trees.own.entries.now) at groups (get_or groups at d)
    h.tree.groups_of lt (get_or_default groups at d (get_or groups at d) lt)

-- the box of an entry that was read
pub owner_among : (boxes : List MaskBox) (trees : LayerTrees) (p : ℕ) (s : Entry) → AreLayerTrees boxes trees
    → p < length trees.own.entries.now → s ≡ entry_of trees.own.entries.now p → s.owner < length boxes
owner_among boxes trees p s h lt is =
    let own = h.own.sound p no_entry lt in
    subst (λ (k : ℕ). k < length boxes) (sym (ap (λ (x : Entry). x.owner) (is ∙ own.2))) own.1.among

-- all that overlap a box of a group are among those over the group
pub overlapped_near : (boxes : List MaskBox) (trees : LayerTrees) (outer : BoxXY) (p number : ℕ) (query : Query)
    (numbers : List ℕ) → AreLayerTrees boxes trees → p < length trees.own.entries.now
    → Encloses outer (entry_of trees.own.entries.now p).area (pos 0)
    → number ≡ (entry_of trees.own.entries.now p).owner
    → query ≡ record { area = outer; question = NearOfOther (negsuc 0) (length boxes) }
    → AreHolding trees.facing.now query numbers
    → AreEntriesFacing boxes number trees.facing.now × HaveOverlapped boxes number trees.facing.now numbers
overlapped_near boxes trees outer p number query numbers h lt within is asked held =
    let entries = trees.facing.now in
    let own = h.own.sound p no_entry lt in
    let a : ℕ = own.0 in
    let facing : AreEntriesFacing boxes a entries = record {
      among = own.1.among;
      layer = h.other;
      facing = ap facing_of own.1.on ∙ h.crosses;
      entries_of = h.others;
    } in
    let inside : Encloses outer (area_at boxes a) (pos 0) =
    subst (λ (s : Entry). Encloses outer s.area (pos 0)) own.2 within in
    let have : HaveOverlapped boxes a entries numbers = record {
      among = λ i d short.
          (let at = held.sound (get_or numbers i d) (Contains-get_or numbers i d short) in
          slice_get_within entries (get_or numbers i d) at.entry at.there);
      complete = λ b over.
          (let there = overlapped_there boxes a b entries facing over in
          let faces = overlap_faces boxes a b over in
          let low = faces.b_among in
          let H : Query → Type 0 = λ q. HoldsAt entries q there.0 in
          let listed = held.complete there.0 (subst H (sym asked) (record {
            entry = box_entry boxes b;
            there = there.1;
            holds = (
              near_outer outer (area_at boxes a) (area_at boxes b) inside (area_overlap boxes a b over),
              λ e. absurd (omega arith),
            );
          })) in
          owner_listed boxes entries numbers there.0 b there.1 listed);
    } in
    let same : a ≡ number = sym (is ∙ ap (λ (s : Entry). s.owner) own.2) in
    let F : ℕ → Type 0 = λ n. AreEntriesFacing boxes n entries × HaveOverlapped boxes n entries numbers in
    subst F same (facing, have)
