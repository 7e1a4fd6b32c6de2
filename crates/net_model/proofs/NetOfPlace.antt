-- The net of a piece by its place, and pieces with their nets.
use Rattle.std.proofs.Common.{◌≡◌, ℕ, zero, suc, ◌+◌, ◌<◌, ◌≤◌, true, false, List, [], ◌∷◌, length, get_or, inl}
use Rattle.std.proofs.Common.{inr, refl, sym, ◌∙◌, subst, arith, eq-eqb}
use Rattle.std.proofs.lemmas.Bool.{cases_lt, cond-true, cond-false, ne_eqb, and_from, and_left, and_right}
use Rattle.box_pieces.specs.{declared.placing.Part.Part, Places.{Place, place}}
use Rattle.net_model.specs.{declared.netlist.Piece.Piece, Netlists.{is_same_part, stands_at, net_at}, Devices.no_netted}
use Rattle.net_model.specs.Devices.{box_of_netted, ArePieceRanges}

-- the first piece that stands at a place
pub net_found : (pieces : List Piece) (p : Place) (j : ℕ) → j < length pieces
    → stands_at p (get_or pieces j no_netted) ≡ true
    → ((i : ℕ) → i < j → stands_at p (get_or pieces i no_netted) ≡ false)
    → net_at pieces p ≡ (get_or pieces j no_netted).net
net_found [] p j lt there others = absurd (omega arith)
net_found (x ∷ xs) p zero lt there others = cond-true (stands_at p x) x.net (net_at xs p) there
net_found (x ∷ xs) p (suc j) lt there others =
    cond-false (stands_at p x) x.net (net_at xs p) (others zero (omega arith))
    ∙ net_found xs p j (omega arith) there (λ i l. others (suc i) (omega arith))

-- no piece does
pub net_missing : (pieces : List Piece) (p : Place)
    → ((i : ℕ) → i < length pieces → stands_at p (get_or pieces i no_netted) ≡ false) → net_at pieces p ≡ 0
net_missing [] p others = refl
net_missing (x ∷ xs) p others = cond-false (stands_at p x) x.net (net_at xs p) (others zero (omega arith))
    ∙ net_missing xs p (λ i l. others (suc i) (omega arith))

-- the pieces with these numbers are other parts
abbrev pub AreOtherParts : List Piece → Part → ℕ → ℕ → Type 0
AreOtherParts pieces part first end = (i : ℕ) → first ≤ i → i < end
    → is_same_part (get_or pieces i no_netted).part part ≡ false

-- so pieces before the next of a box stand elsewhere
not_there : (pieces : List Piece) (starts : List ℕ) (k : ℕ) (part : Part) (first j : ℕ) → ArePieceRanges pieces starts
    → first ≡ get_or starts k 0 → AreOtherParts pieces part first j
    → (i : ℕ) → i < length pieces → i < j → stands_at (place k part) (get_or pieces i no_netted) ≡ false
not_there pieces starts k part first j ranges e others i within lt =
    let piece : Piece = get_or pieces i no_netted in
    elim (cases_lt i first) [
      | inl before ↦ and_left _ (is_same_part piece.part part)
          (ne_eqb piece.box_no k (λ of. (let own = ranges.own k i within of in let low = own.0 in omega arith)))
      | inr from ↦ and_right _ (is_same_part piece.part part) (others i from lt)
    ]

-- the net of a part of a box
pub net_of_part : (pieces : List Piece) (starts : List ℕ) (k : ℕ) (part : Part) (first end j : ℕ)
    → ArePieceRanges pieces starts → k + 1 < length starts → first ≡ get_or starts k 0 → end ≡ get_or starts (k + 1) 0
    → first ≤ j → j < end → AreOtherParts pieces part first j
    → is_same_part (get_or pieces j no_netted).part part ≡ true
    → (get_or pieces j no_netted).net ≡ net_at pieces (place k part)
net_of_part pieces starts k part first end j ranges lt ef ee low high others same =
    let w = ranges.within k lt in
    let within : j < length pieces = omega arith in
    let of : box_of_netted pieces j ≡ k = ranges.of_box k j lt (omega arith) (omega arith) in
    sym (net_found pieces (place k part) j within
    (and_from _ (is_same_part (get_or pieces j no_netted).part part) (eq-eqb (box_of_netted pieces j) k of) same)
    (λ i l. not_there pieces starts k part first j ranges ef others i (omega arith) l))

-- a box without that part
pub net_of_none : (pieces : List Piece) (starts : List ℕ) (k : ℕ) (part : Part) (first end j : ℕ)
    → ArePieceRanges pieces starts → first ≡ get_or starts k 0 → end ≡ get_or starts (k + 1) 0
    → end ≤ j → AreOtherParts pieces part first j → 0 ≡ net_at pieces (place k part)
net_of_none pieces starts k part first end j ranges ef ee past others =
    sym (net_missing pieces (place k part)
    (λ i within. (let piece : Piece = get_or pieces i no_netted in
    elim (cases_lt i j) [
      | inl lt ↦ not_there pieces starts k part first j ranges ef others i within lt
      | inr after ↦ and_left _ (is_same_part piece.part part)
          (ne_eqb piece.box_no k (λ of. (let own = ranges.own k i within of in let high = own.1 in omega arith)))
    ])))

pub others_more : (pieces : List Piece) (part : Part) (first j : ℕ)
    → is_same_part (get_or pieces j no_netted).part part ≡ false → AreOtherParts pieces part first j
    → AreOtherParts pieces part first (j + 1)
others_more pieces part first j not_same others = λ i le lt. elim (cases_lt i j) [
  | inl before ↦ others i le before
  | inr at ↦
      (let e : j ≡ i = omega arith in let P : ℕ
      → Type 0 = λ n. is_same_part (get_or pieces n no_netted).part part ≡ false in subst P e not_same)
]
