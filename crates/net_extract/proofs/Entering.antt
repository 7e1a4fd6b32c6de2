-- The cuts over each piece, as chains of entries.
use Rattle.std.proofs.Common.{◌≡◌, ℕ, ◌+◌, ◌-◌, ◌<◌, ◌≤◌, List, [], ◌∷◌, ◌++◌, length, replicate, set, get_or, take}
use Rattle.std.proofs.Common.{Contains, ◌⊎◌, inl, inr, refl, sym, ◌∙◌, ap, subst, arith, length-set}
use Rattle.std.proofs.Common.{get_or-set_other, get_or-set_same}
use Rattle.std.proofs.lemmas.{Bool.{cases_lt, cases_eq}, List.{get_or_append_left, get_or_push}}
use Rattle.std.proofs.lemmas.List.{get_or-replicate, length-replicate, length_push}
use Rattle.box_tree.{specs.Found.AreGathered, proofs.Growth.{gathered_more, gathered_push}}
use Rattle.graph_search.proofs.{Marks.below_cases, Neighbours.none_in_empty}
use Rattle.net_extract.specs.declared.{cut_lists.Chains.Chains, lists.Lists.Lists}
use Rattle.net_extract.specs.{CutLists.{AreChains, AreLinked, IsLastOf, IsListedBefore, IsListedOver}}
use Rattle.net_extract.specs.Lists.{HasList, IsListed}
use Rattle.net_extract.proofs.{Nearby.{taken_cases, taken_earlier, taken_last}, Runs.has_below}

-- ---- chains

-- one entry more, of piece a
pub chains_more : (count : ℕ) (nodes : List ℕ) (n a : ℕ) (heads nexts new_heads new_nexts : List ℕ)
    → get_or nodes n 0 ≡ a → a < count → new_heads ≡ set heads a (n + 1) → new_nexts ≡ nexts ++ get_or heads a 0 ∷ []
    → AreLinked count nodes n heads nexts → AreLinked count nodes (n + 1) new_heads new_nexts
chains_more count nodes n a heads nexts new_heads new_nexts of lt heads_are nexts_are h =
    let l = h.one_head_each in
    let long = length_push nexts (get_or heads a 0) in
    let n_is = h.one_next_each in
    let P : List ℕ → List ℕ → Type 0 = λ xs ys. AreLinked count nodes (n + 1) xs ys in
    let made : P (set heads a (n + 1)) (nexts ++ get_or heads a 0 ∷ []) = record {
      one_head_each = length-set heads a (n + 1) ∙ h.one_head_each;
      one_next_each = omega arith;
      heads_are = λ b below. elim (cases_eq b a) [
        | inl same ↦
            (let Q : ℕ → Type 0 = λ x. IsLastOf nodes x (n + 1) (get_or (set heads a (n + 1)) x 0) in
            let R : ℕ → Type 0 = λ x. IsLastOf nodes a (n + 1) x in
            subst Q (sym same) (subst R (sym (get_or-set_same heads a (n + 1) 0 (omega arith)))
            (record {
              within = omega arith;
              is = λ some. (let z : n + 1 - 1 ≡ n = omega arith in ap (λ (x : ℕ). get_or nodes x 0) z ∙ of);
              none = λ e le under. absurd (omega arith);
            })))
        | inr other ↦
            (let R : ℕ → Type 0 = λ x. IsLastOf nodes b (n + 1) x in
            let g : IsLastOf nodes b n (get_or heads b 0) = h.heads_are b below in
            let w = g.within in
            subst R (sym (get_or-set_other heads a b (n + 1) 0 other))
            (record {
              within = omega arith;
              is = g.is;
              none = λ e le under. elim (below_cases e n under) [
                | inl before ↦ g.none e le before
                | inr at ↦ (λ is. other (sym is ∙ ap (λ (x : ℕ). get_or nodes x 0) at ∙ of))
              ];
            }))
      ];
      nexts_are = λ e below. elim (below_cases e n below) [
        | inl before ↦
            (let R : ℕ → Type 0 = λ x. IsLastOf nodes (get_or nodes e 0) e x in
            subst R (sym (get_or_append_left nexts (get_or heads a 0 ∷ []) 0 e (omega arith))) (h.nexts_are e before))
        | inr at ↦
            (let R : ℕ → Type 0 = λ x. IsLastOf nodes (get_or nodes x 0) x
            (get_or (nexts ++ get_or heads a 0 ∷ []) x 0) in
            let S : ℕ → Type 0 = λ x. IsLastOf nodes (get_or nodes n 0) n x in
            let T : ℕ → Type 0 = λ x. IsLastOf nodes x n (get_or heads a 0) in
            subst R (sym at)
            (subst S (sym (get_or_push nexts (get_or heads a 0) 0 n n_is)) (subst T (sym of) (h.heads_are a lt))))
      ];
    } in
    subst (λ (xs : List ℕ). P xs new_nexts) (sym heads_are)
    (subst (λ (ys : List ℕ). P (set heads a (n + 1)) ys) (sym nexts_are) made)

-- entries that come later change nothing
last_kept : (nodes more : List ℕ) (a n last : ℕ) → n ≤ length nodes → IsLastOf nodes a n last
    → IsLastOf (nodes ++ more) a n last
last_kept nodes more a n last le l =
    let w = l.within in
    record {
      within = l.within;
      is = λ some. get_or_append_left nodes more 0 (last - 1) (omega arith) ∙ l.is some;
      none = λ e from before is. l.none e from before (sym (get_or_append_left nodes more 0 e (omega arith)) ∙ is);
    }

linked_more : (count : ℕ) (nodes : List ℕ) (a : ℕ) (heads nexts new_heads new_nexts : List ℕ) → a < count
    → new_heads ≡ set heads a (length nodes + 1) → new_nexts ≡ nexts ++ get_or heads a 0 ∷ []
    → AreLinked count nodes (length nodes) heads nexts
    → AreLinked count (nodes ++ a ∷ []) (length (nodes ++ a ∷ [])) new_heads new_nexts
linked_more count nodes a heads nexts new_heads new_nexts lt heads_are nexts_are h =
    let all = nodes ++ a ∷ [] in
    let n : ℕ = length nodes in
    let kept : AreLinked count all n heads nexts = record {
      one_head_each = h.one_head_each;
      one_next_each = h.one_next_each;
      heads_are = λ b below. last_kept nodes (a ∷ []) b n (get_or heads b 0) (omega arith) (h.heads_are b below);
      nexts_are = λ e below.
          (let L : ℕ → Type 0 = λ x. IsLastOf all x e (get_or nexts e 0) in
          subst L (sym (get_or_append_left nodes (a ∷ []) 0 e below))
          (last_kept nodes (a ∷ []) (get_or nodes e 0) e (get_or nexts e 0) (omega arith) (h.nexts_are e below)));
    } in
    let P : ℕ → Type 0 = λ m. AreLinked count all m new_heads new_nexts in
    subst P (sym (length_push nodes a))
    (chains_more count all n a heads nexts new_heads new_nexts (get_or_push nodes a 0 n refl) lt heads_are nexts_are
    kept)

-- the same pairs in other words
pub chains_as : (P Q : ℕ → ℕ → Type 0) (count : ℕ) (chains : Chains) → ((k a : ℕ) → P k a → Q k a)
    → ((k a : ℕ) → Q k a → P k a) → AreChains P count chains → AreChains Q count chains
chains_as P Q count chains forth back h = record {
  of = h.of;
  counted = h.counted;
  linked = h.linked;
  sound = λ e lt. forth (get_or chains.cuts.items e 0) (get_or h.of e 0) (h.sound e lt);
  complete = λ k a q. h.complete k a (back k a q);
}

pub chains_none : (P : ℕ → ℕ → Type 0) (count : ℕ) (chains : Chains) → ((k a : ℕ) → P k a → ⊥)
    → chains.heads.items ≡ replicate count 0 → chains.nexts.items ≡ [] → chains.cuts.items ≡ []
    → AreChains P count chains
chains_none P count chains none heads nexts cuts = record {
  of = [];
  counted = ap (λ (xs : List ℕ). length xs) cuts;
  linked = record {
    one_head_each = ap (λ (xs : List ℕ). length xs) heads ∙ length-replicate count 0;
    one_next_each = ap (λ (xs : List ℕ). length xs) nexts;
    heads_are = λ a lt.
        (let L : ℕ → Type 0 = λ x. IsLastOf [] a 0 x in
        subst L (sym (ap (λ (xs : List ℕ). get_or xs a 0) heads ∙ get_or-replicate count a 0 0 lt))
        (record {
          within = omega arith;
          is = λ some. absurd (omega arith);
          none = λ e from before. absurd (omega arith);
        }));
    nexts_are = λ e lt. absurd (omega arith);
  };
  sound = λ e lt. absurd (omega arith);
  complete = λ k a p. absurd (none k a p);
}

-- a pair more
pub chains_push : (P Q : ℕ → ℕ → Type 0) (count k a : ℕ) (old new : Chains) → a < count
    → ((j x : ℕ) → P j x ⊎ ((j ≡ k) × (x ≡ a)) → Q j x) → ((j x : ℕ) → Q j x → P j x ⊎ ((j ≡ k) × (x ≡ a)))
    → new.heads.items ≡ set old.heads.items a (length old.cuts.items + 1)
    → new.nexts.items ≡ old.nexts.items ++ get_or old.heads.items a 0 ∷ []
    → new.cuts.items ≡ old.cuts.items ++ k ∷ [] → AreChains P count old → AreChains Q count new
chains_push P Q count k a old new lt forth back heads nexts cuts h =
    let of = h.of in
    let all : List ℕ = of ++ a ∷ [] in
    let n : ℕ = length of in
    let counted : length new.cuts.items ≡ length all = ap (λ (xs : List ℕ). length xs) cuts
    ∙ (length_push old.cuts.items k ∙ (ap (λ (m : ℕ). m + 1) h.counted ∙ sym (length_push of a))) in
    let grown = length_push of a in
    let one = h.counted in
    let cut_old : (e : ℕ) → e < n → get_or new.cuts.items e 0 ≡ get_or old.cuts.items e 0 = λ e below.
    ap (λ (xs : List ℕ). get_or xs e 0) cuts ∙ get_or_append_left old.cuts.items (k ∷ []) 0 e (omega arith) in
    let cut_new : get_or new.cuts.items n 0 ≡ k =
    ap (λ (xs : List ℕ). get_or xs n 0) cuts ∙ get_or_push old.cuts.items k 0 n h.counted in
    let of_old : (e : ℕ) → e < n → get_or all e 0 ≡ get_or of e 0 = λ e below.
    get_or_append_left of (a ∷ []) 0 e below in
    let of_new : get_or all n 0 ≡ a = get_or_push of a 0 n refl in
    record {
      of = all;
      counted = counted;
      linked = linked_more count of a old.heads.items old.nexts.items new.heads.items new.nexts.items lt
          (heads ∙ ap (λ (m : ℕ). set old.heads.items a (m + 1)) h.counted) nexts h.linked;
      sound = λ e below. elim (below_cases e n (omega arith)) [
        | inl before ↦
            forth (get_or new.cuts.items e 0) (get_or all e 0)
            (let C : ℕ → Type 0 = λ j. P j (get_or all e 0) in
            let O : ℕ → Type 0 = λ x. P (get_or old.cuts.items e 0) x in
            inl (subst C (sym (cut_old e before)) (subst O (sym (of_old e before)) (h.sound e before))))
        | inr at ↦
            forth (get_or new.cuts.items e 0) (get_or all e 0)
            (inr (
              ap (λ (i : ℕ). get_or new.cuts.items i 0) at ∙ cut_new,
              ap (λ (i : ℕ). get_or all i 0) at ∙ of_new,
            ))
      ];
      complete = λ j x q. elim (back j x q) [
        | inl p ↦
            (let entry = h.complete j x p in
            let below = entry.1.among in (
              entry.0,
              record {
                among = omega arith;
                piece = of_old entry.0 entry.1.among ∙ entry.1.piece;
                cut = cut_old entry.0 entry.1.among ∙ entry.1.cut;
              },
            ))
        | inr last ↦
            (n, record { among = omega arith; piece = of_new ∙ sym last.1; cut = cut_new ∙ sym last.0 })
      ];
    }

-- ---- the entries of a cut

-- the cuts before one, and of that one some of the pieces
abbrev pub IsEntered : Lists → ℕ → List ℕ → ℕ → ℕ → Type 0
IsEntered over cut some k a = IsListedBefore over cut k a ⊎ ((k ≡ cut) × Contains some a)

pub entered_more : (over : Lists) (cut : ℕ) (pieces : List ℕ) (i a : ℕ) → i < length pieces → get_or pieces i 0 ≡ a
    → (k x : ℕ) → IsEntered over cut (take i pieces) k x ⊎ ((k ≡ cut) × (x ≡ a))
    → IsEntered over cut (take (i + 1) pieces) k x
entered_more over cut pieces i a lt is k x (inl (inl b)) = inl b
entered_more over cut pieces i a lt is k x (inl (inr h)) = inr (h.0, taken_earlier pieces i 0 x lt h.1)
entered_more over cut pieces i a lt is k x (inr h) =
    let C : ℕ → Type 0 = Contains (take (i + 1) pieces) in
    inr (h.0, subst C (is ∙ sym h.1) (taken_last pieces i 0 lt))

pub entered_back : (over : Lists) (cut : ℕ) (pieces : List ℕ) (i a : ℕ) → i < length pieces → get_or pieces i 0 ≡ a
    → (k x : ℕ) → IsEntered over cut (take (i + 1) pieces) k x
    → IsEntered over cut (take i pieces) k x ⊎ ((k ≡ cut) × (x ≡ a))
entered_back over cut pieces i a lt is k x (inl b) = inl (inl b)
entered_back over cut pieces i a lt is k x (inr h) = elim (taken_cases pieces i 0 x lt h.1) [
  | inl o ↦ inl (inr (h.0, o))
  | inr e ↦ inr (h.0, sym e ∙ is)
]

-- with all its pieces it is one of those before the next
pub entered_all : (over : Lists) (cut : ℕ) (pieces : List ℕ) → AreGathered (IsListed over cut) [] pieces → (k a : ℕ)
    → IsEntered over cut pieces k a → IsListedBefore over (cut + 1) k a
entered_all over cut pieces g k a (inl b) = (let lt = b.0 in (omega arith, b.1))
entered_all over cut pieces g k a (inr h) =
    let L : ℕ → Type 0 = λ j. IsListed over j a in
    let at = h.0 in
    elim (g.sound a h.1) [
      | inl none ↦ absurd (none_in_empty a [] refl none)
      | inr is ↦ (omega arith, subst L (sym h.0) is)
    ]

pub all_entered : (over : Lists) (cut : ℕ) (pieces : List ℕ) → AreGathered (IsListed over cut) [] pieces → (k a : ℕ)
    → IsListedBefore over (cut + 1) k a → IsEntered over cut pieces k a
all_entered over cut pieces g k a h = elim (below_cases k cut h.0) [
  | inl before ↦ inl (before, h.1)
  | inr at ↦ (let L : ℕ → Type 0 = λ j. IsListed over j a in inr (at, g.complete a (subst L at h.1)))
]

-- a cut without a list
pub none_entered : (over : Lists) (cut k a : ℕ) → (HasList over cut → ⊥) → IsListedBefore over (cut + 1) k a
    → IsListedBefore over cut k a
none_entered over cut k a none h = elim (below_cases k cut h.0) [
  | inl before ↦ (before, h.1)
  | inr at ↦ absurd (none (subst (HasList over) at h.1.0))
]

-- ---- down a chain

-- the same of the entries from one on
pub record IsListedFrom (nodes cuts : List ℕ) (count a from y : ℕ) : Type 0 where
  pub e : ℕ
  pub not_before : from ≤ e
  pub among : e < length nodes
  pub of : get_or nodes e 0 ≡ a
  pub node : y ≡ count + get_or cuts e 0

-- how far down a walk has come: the next entry is number at - 1, and those from there on have been seen
pub record IsDown (nodes cuts : List ℕ) (count a at : ℕ) (found : List ℕ) : Type 0 where
  pub within : at ≤ length nodes
  pub is : 0 < at → get_or nodes (at - 1) 0 ≡ a
  pub gathered : AreGathered (IsListedFrom nodes cuts count a at) [] found

pub down_more : (nodes cuts : List ℕ) (count a at next : ℕ) (heads nexts found new : List ℕ) → 0 < at
    → AreLinked count nodes (length nodes) heads nexts → next ≡ get_or nexts (at - 1) 0
    → new ≡ found ++ (count + get_or cuts (at - 1) 0) ∷ []
    → IsDown nodes cuts count a at found → IsDown nodes cuts count a next new
down_more nodes cuts count a at next heads nexts found new some chains is pushed d =
    let e : ℕ = at - 1 in
    let w = d.within in
    let of : get_or nodes e 0 ≡ a = d.is some in
    let R : ℕ → Type 0 = λ x. IsLastOf nodes x e (get_or nexts e 0) in
    let S : ℕ → Type 0 = λ x. IsLastOf nodes a e x in
    let l : IsLastOf nodes a e next = subst S (sym is) (subst R of (chains.nexts_are e (omega arith))) in
    let lw = l.within in
    let y : ℕ = count + get_or cuts e 0 in
    let P : List ℕ → Type 0 = λ xs. AreGathered (IsListedFrom nodes cuts count a next) [] xs in
    record {
      within = omega arith;
      is = l.is;
      gathered =
          subst P (sym pushed)
          (gathered_more (IsListedFrom nodes cuts count a at) (λ x. x ≡ y) (IsListedFrom nodes cuts count a next) []
          found (found ++ y ∷ [])
          (λ x h. elim h [
            | inl g ↦
                (let b = g.not_before in record {
                  e = g.e;
                  not_before = omega arith;
                  among = g.among;
                  of = g.of;
                  node = g.node;
                })
            | inr here ↦ record { e = e; not_before = omega arith; among = omega arith; of = of; node = here }
          ])
          (λ x h. elim (cases_lt h.e at) [
            | inr after ↦ inl (record { e = h.e; not_before = after; among = h.among; of = h.of; node = h.node })
            | inl lt ↦ elim (cases_lt h.e e) [
              | inl before ↦ absurd (l.none h.e h.not_before before h.of)
              | inr not ↦
                  (let here : h.e ≡ e = omega arith in inr (h.node ∙ ap (λ (j : ℕ). count + get_or cuts j 0) here))
            ]
          ])
          d.gathered (gathered_push found y));
    }

-- the same in chains of lists
pub record IsDownIn (over : Lists) (count : ℕ) (chains : Chains) (a at : ℕ) (found : List ℕ) : Type 0 where
  pub are : AreChains (IsListed over) count chains
  pub down : IsDown are.of chains.cuts.items count a at found

pub down_begin : (over : Lists) (count : ℕ) (chains : Chains) (a at : ℕ) (found : List ℕ) → a < count
    → at ≡ get_or chains.heads.items a 0 → found ≡ [] → AreChains (IsListed over) count chains
    → IsDownIn over count chains a at found
down_begin over count chains a at found lt is none h =
    let R : ℕ → Type 0 = IsLastOf h.of a (length h.of) in
    let l : IsLastOf h.of a (length h.of) at = subst R (sym is) (h.linked.heads_are a lt) in
    let G : List ℕ → Type 0 = λ xs. AreGathered (IsListedFrom h.of chains.cuts.items count a at) [] xs in
    record {
      are = h;
      down = record {
        within = l.within;
        is = l.is;
        gathered = subst G (sym none) (record {
          sound = λ y c. inl c;
          kept = λ y c. c;
          complete = λ y f. absurd (l.none f.e f.not_before f.among f.of);
        });
      };
    }

-- what the next entry is
pub down_next : (over : Lists) (count : ℕ) (chains : Chains) (a at : ℕ) (found : List ℕ) → 0 < at
    → IsDownIn over count chains a at found
    → (at - 1 < length chains.cuts.items) × (at - 1 < length chains.nexts.items)
    × (get_or chains.cuts.items (at - 1) 0 < length over.runs.items) × (get_or chains.nexts.items (at - 1) 0 < at)
down_next over count chains a at found some d =
    let h = d.are in
    let w = d.down.within in
    let one = h.counted in
    let each = h.linked.one_next_each in
    let lt : at - 1 < length h.of = omega arith in
    let next = (h.linked.nexts_are (at - 1) lt).within in (
      omega arith,
      omega arith,
      has_below over (get_or chains.cuts.items (at - 1) 0) (h.sound (at - 1) lt).0,
      omega arith,
    )

pub down_step : (over : Lists) (count : ℕ) (chains : Chains) (a at next : ℕ) (found new : List ℕ) → 0 < at
    → next ≡ get_or chains.nexts.items (at - 1) 0
    → new ≡ found ++ (count + get_or chains.cuts.items (at - 1) 0) ∷ [] → IsDownIn over count chains a at found
    → IsDownIn over count chains a next new
down_step over count chains a at next found new some is pushed d = record {
  are = d.are;
  down = down_more d.are.of chains.cuts.items count a at next chains.heads.items chains.nexts.items found new some
      d.are.linked is pushed d.down;
}

pub down_all : (over : Lists) (count : ℕ) (chains : Chains) (a at : ℕ) (found : List ℕ) → at ≡ 0
    → IsDownIn over count chains a at found → AreGathered (IsListedOver over count a) [] found
down_all over count chains a at found bottom in_chains =
    let h = in_chains.are in
    let d = in_chains.down in
    let cuts = chains.cuts.items in
    record {
      sound = λ y c. elim (d.gathered.sound y c) [
        | inl o ↦ inl o
        | inr f ↦
            (let L : ℕ → Type 0 = λ x. IsListed over (get_or cuts f.e 0) x in
            inr (record { cut = get_or cuts f.e 0; node = f.node; is = subst L f.of (h.sound f.e f.among) }))
      ];
      kept = d.gathered.kept;
      complete = λ y o.
          (let entry = h.complete o.cut a o.is in
          d.gathered.complete y (record {
            e = entry.0;
            not_before = omega arith;
            among = entry.1.among;
            of = entry.1.piece;
            node = o.node ∙ ap (λ (k : ℕ). count + k) (sym entry.1.cut);
          }));
    }
