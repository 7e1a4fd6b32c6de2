-- Lists of entries: one more, and what lies over a cut.
use Rattle.std.proofs.Common.{◌≡◌, ◌≢◌, ℕ, ◌+◌, ◌<◌, ◌≤◌, pos, List, [], ◌∷◌, ◌++◌, length, get_or, ◌⊎◌, inl, inr, refl}
use Rattle.std.proofs.{Common.{sym, ◌∙◌, ap, subst, arith}, lemmas.{Int.ints, List.{get_or_default, get_or_read}}}
use Rattle.std.specs.Prelude.{negsuc, ◌<ℤ◌, ◌≤ℤ◌, ℤ}
use Rattle.box_tree.specs.declared.{query.{Query.Query, Question.TheVariants.NearOfOther}, entries.Entry.Entry}
use Rattle.lam_geom.specs.declared.boxes.{BoxXY.BoxXY, MaskBox.MaskBox, MaskLayer.{MaskLayer, TheVariants.{ND, NP, NC}}}
use Rattle.lam_geom.specs.declared.boxes.MaskLayer.TheVariants.{NM, NI, NB}
use Rattle.crossing_model.specs.{declared.crossing.Crossing.Crossing, Boxes.{layer_at, box_at, no_box}}
use Rattle.box_pieces.specs.declared.placing.Placed.{Placed}
use Rattle.box_pieces.specs.Pieces.{Conducts, box_of, no_piece, piece_at, IsPiece, ArePieces}
use Rattle.net_extract.specs.Entries.{AreEntries}
use Rattle.crossings.{specs.Entries.AreEntriesBelow, proofs.EntryLists.{entries_push, entries_skip}}

-- ---- lists that grow

-- the same entries by another property of the numbers below n
pub shown_as : (P Q : ℕ → Type 0) (show : ℕ → Entry) (m n : ℕ) (entries : List Entry) → n ≤ m
    → ((a : ℕ) → a < n → P a → Q a) → ((a : ℕ) → a < n → Q a → P a) → AreEntries n P show entries
    → AreEntriesBelow (λ a. (a < m) × Q a) show n entries
shown_as P Q show m n entries le forth back s = record {
  sound = λ k d lt. (let f = s.sound k d lt in let b = f.1.0 in (f.0, (omega arith, forth f.0 f.1.0 f.1.1), f.2));
  complete = λ a lt h. s.complete a lt (lt, back a lt h.1);
  few = s.few;
}

pub shown_push : (P : ℕ → Type 0) (show : ℕ → Entry) (n : ℕ) (entries new : List Entry) (entry : Entry) → P n
    → entry ≡ show n
    → new ≡ entries ++ entry ∷ [] → AreEntries n P show entries → AreEntries (n + 1) P show new
shown_push P show n entries new entry p is pushed h =
    let Q : List Entry → Type 0 = AreEntries (n + 1) P show in
    let old = shown_as P P show (n + 1) n entries (omega arith) (λ a lt x. x) (λ a lt x. x) h in
    subst Q (sym pushed) (entries_push (λ a. (a < n + 1) × P a) show n entries entry old (omega arith, p) is)

pub shown_skip : (P : ℕ → Type 0) (show : ℕ → Entry) (n : ℕ) (entries : List Entry) → (P n → ⊥)
    → AreEntries n P show entries → AreEntries (n + 1) P show entries
shown_skip P show n entries none h =
    let old = shown_as P P show (n + 1) n entries (omega arith) (λ a lt x. x) (λ a lt x. x) h in
    entries_skip (λ a. (a < n + 1) × P a) show n entries old (λ x. none x.1)

-- ---- what lies over an area

-- a piece that conducts is on one of three layers
pub on_layers : (layer : MaskLayer) → Conducts layer → (layer ≡ ND) ⊎ ((layer ≡ NP) ⊎ (layer ≡ NM))
on_layers ND c = inl refl
on_layers NP c = inr (inl refl)
on_layers NM c = inr (inr refl)
on_layers NC c = absurd c
on_layers NI c = absurd c
on_layers NB c = absurd c

pub not_a_cut : (boxes : List MaskBox) (k j : ℕ) → Conducts (layer_at boxes k) → layer_at boxes j ≡ NC → k ≢ j
not_a_cut boxes k j c cut e = let P : MaskLayer → Type 0 = Conducts in subst P (ap (layer_at boxes) e ∙ cut) c

-- what lies over an area, as a query
abbrev pub over_query : BoxXY → ℕ → Query
over_query area owner = record { area = area; question = NearOfOther (negsuc 0) owner }

pub below_zero : (z : ℤ) → z <ℤ pos 0 → z ≤ℤ negsuc 0
below_zero z lt = omega (arith, ints, lt)

pub at_most_below : (z : ℤ) → z ≤ℤ negsuc 0 → z <ℤ pos 0
at_most_below z le = omega (arith, ints, le)

-- ---- what the code reads

-- the layer of a piece that was read
pub piece_read : (pieces : List Placed) (a : ℕ) (piece : Placed) → a < length pieces → piece ≡ get_or pieces a piece
    → piece ≡ piece_at pieces a
piece_read pieces a piece lt read = get_or_read pieces a piece lt read no_piece

pub box_read : (boxes : List MaskBox) (pieces : List Placed) (a : ℕ) (piece : Placed) (own : MaskBox)
    → piece ≡ piece_at pieces a → piece.box_no < length boxes
    → get_or boxes piece.box_no own ≡ box_at boxes (box_of pieces a)
box_read boxes pieces a piece own is lt = get_or_default boxes piece.box_no own no_box lt
    ∙ ap (λ (p : Placed). box_at boxes p.box_no) is

pub in_boxes : (boxes : List MaskBox) (crossings : List Crossing) (pieces : List Placed) (starts : List ℕ) (a : ℕ)
    (piece : Placed) → ArePieces boxes crossings pieces starts → a < length pieces → piece ≡ piece_at pieces a
    → piece.box_no < length boxes
in_boxes boxes crossings pieces starts a piece p lt is =
    let of : IsPiece boxes crossings (piece_at pieces a) = p.each a no_piece lt in
    let P : Placed → Type 0 = λ x. x.box_no < length boxes in
    subst P (sym is) of.of_box

-- the box of a piece that was read
pub own_box : (boxes : List MaskBox) (crossings : List Crossing) (pieces : List Placed) (starts : List ℕ) (a : ℕ)
    (piece : Placed) (own : MaskBox) → ArePieces boxes crossings pieces starts → a < length pieces
    → piece ≡ get_or pieces a piece → get_or boxes piece.box_no own ≡ box_at boxes (box_of pieces a)
own_box boxes crossings pieces starts a piece own p lt read =
    let is = piece_read pieces a piece lt read in
    box_read boxes pieces a piece own is (in_boxes boxes crossings pieces starts a piece p lt is)

abbrev pub new_entry : BoxXY → ℕ → ℕ → Entry
new_entry area owner tag = record { area = area; owner = owner; tag = tag }

pub entry_is : (area other : BoxXY) (owner second tag third : ℕ) → area ≡ other → owner ≡ second → tag ≡ third
    → new_entry area owner tag ≡ new_entry other second third
entry_is area other owner second tag third ea eo et = ap (λ (x : BoxXY). new_entry x owner tag) ea
    ∙ ap (λ (x : ℕ). new_entry other x tag) eo ∙ ap (λ (x : ℕ). new_entry other second x) et
