-- The pieces of boxes, box by box.
use Rattle.std.proofs.Common.{◌≡◌, ℕ, ◌+◌, ◌-◌, ◌*◌, ◌<◌, ◌≤◌, Bool, true, false, List, [], ◌∷◌, ◌++◌, All, Option}
use Rattle.std.proofs.Common.{Some, pos, length, map, get_or, inl, inr, refl, sym, ◌∙◌, ap, subst, arith, append_assoc}
use Rattle.std.proofs.{Common.length-append, lemmas.{Bool.{cases_lt, cases_order, ne_eqb}, List.get_or_append_left}}
use Rattle.std.proofs.lemmas.List.{get_or-append_right, get_or_push, length_push, length-map, map-append}
use Rattle.std.proofs.lemmas.List.{Elements.{All-append, All-cons, All-nil}, Folds.list_any_none}
use Rattle.std.specs.{Prelude.{is_some, IfSome, flat_map}, List.range_with_len}
use Rattle.list_facts.proofs.Pieces.{piece_added}
use Rattle.lam_geom.specs.declared.boxes.{BoxXY.BoxXY, MaskBox.MaskBox, MaskLayer.{MaskLayer, TheVariants.ND}}
use Rattle.lam_geom.specs.Gaps.{Encloses}
use Rattle.lam_geom.specs.declared.boxes.MaskLayer.TheVariants as layers
use Rattle.crossing_model.specs.{declared.crossing.Crossing.Crossing, Boxes.{area_at, layer_at}, Crossings.AreInOrder}
use Rattle.box_pieces.specs.declared.placing.{Part.{Part, TheVariants.{Whole, Low, High}}, Placed.Placed}
use Rattle.box_pieces.specs.{Places.{Place, place, parts_on, crosses_box, is_crossed, places_at}, Areas.IsCrossingOf}
use Rattle.box_pieces.specs.{Areas.{IsAreaOfPart, IsLowPiece, IsHighPiece}, Pieces.{no_piece, box_of, stand_of}}
use Rattle.box_pieces.specs.Pieces.{Conducts, IsPiece, AreStarts, IsPartOf, IsCursor, diffusion_at}
use Rattle.box_pieces.{specs.Placing.{IsPieceOfBox, AreOfBox}, proofs.Areas.diffusion_read}
use Rattle.graph_search.proofs.Marks.{below_cases}

-- ---- the crossing of a box

-- no crossing is of this box, if the next one is not
none_is_next : (crossings : List Crossing) (next k : ℕ) → AreInOrder crossings → IsCursor crossings next k
    → (next < length crossings → diffusion_at crossings next ≡ k → ⊥)
    → (i : ℕ) → i < length crossings → diffusion_at crossings i ≡ k → ⊥
none_is_next crossings next k ordered cursor not_next i lt e = elim (cases_order i next) [
  | inl at ↦
      (let P : ℕ → Type 0 = λ n. diffusion_at crossings n ≡ k in let l : next < length crossings = omega arith in
      not_next l (subst P at e))
  | inr (inl before) ↦ (let p = cursor.passed i before in omega arith)
  | inr (inr after) ↦
      (let n : length (map (λ (d : Crossing). d.diffusion) crossings)
      ≡ length crossings = length-map crossings (λ (d : Crossing). d.diffusion) in
      let less = ordered next i after (omega arith) in
      let ahead = cursor.ahead next (omega arith) (omega arith) in
      omega arith)
]

pub not_crossed : (crossings : List Crossing) (next k : ℕ) → AreInOrder crossings → IsCursor crossings next k
    → (next < length crossings → diffusion_at crossings next ≡ k → ⊥) → false ≡ is_crossed crossings k
not_crossed crossings next k ordered cursor not_next =
    sym (list_any_none (crosses_box k) crossings
    (λ i d lt. ne_eqb (get_or crossings i d).diffusion k
    (λ e. none_is_next crossings next k ordered cursor not_next i lt (diffusion_read crossings i d lt ∙ e))))

pub cursor_stays : (crossings : List Crossing) (next k : ℕ) → AreInOrder crossings → IsCursor crossings next k
    → (next < length crossings → diffusion_at crossings next ≡ k → ⊥) → IsCursor crossings (next + 0) (k + 1)
cursor_stays crossings next k ordered cursor not_next =
    let w = cursor.within in
    record {
      within = omega arith;
      passed = λ i lt. (let p = cursor.passed i (omega arith) in omega arith);
      ahead = λ i le lt.
          (let a = cursor.ahead i (omega arith) lt in let ne = none_is_next crossings next k ordered cursor not_next i
          lt in omega arith);
    }

-- ---- the pieces of a box

-- the two pieces of crossed diffusion
pub crossed_added : (boxes : List MaskBox) (k : ℕ) (crossing : Option Crossing) (c : Crossing) (low high : Placed)
    (s t : BoxXY) (old middle new : List Placed) → layer_at boxes k ≡ ND → crossing ≡ Some c
    → low ≡ record { box_no = k; part = Low; area = s } → high ≡ record { box_no = k; part = High; area = t }
    → IsLowPiece c (area_at boxes k) s → Encloses (area_at boxes k) s (pos 0)
    → IsHighPiece c (area_at boxes k) t → Encloses (area_at boxes k) t (pos 0) → middle ≡ old ++ low ∷ []
    → new ≡ middle ++ high ∷ []
    → (added : List Placed) × (new ≡ old ++ added) × AreOfBox boxes k crossing added
crossed_added boxes k crossing c low high s t old middle new on e el eh is_low in_low is_high in_high first second =
    let lower : Placed = record { box_no = k; part = Low; area = s } in
    let higher : Placed = record { box_no = k; part = High; area = t } in
    let L : MaskLayer → Type 0 = Conducts in
    let conducts : Conducts (layer_at boxes k) = subst L (sym on) tt in
    let Of : Placed → Type 0 = IsPieceOfBox boxes k crossing in
    let a : Of lower = record { box = refl; conducts = conducts; area = (c, e, is_low); inside = in_low } in
    let b : Of higher = record { box = refl; conducts = conducts; area = (c, e, is_high); inside = in_high } in (
      lower ∷ higher ∷ [],
      second ∙ ap (λ (ps : List Placed). ps ++ high ∷ []) first ∙ append_assoc old (low ∷ []) (high ∷ [])
          ∙ ap (λ (p : Placed). old ++ p ∷ high ∷ []) el ∙ ap (λ (p : Placed). old ++ lower ∷ p ∷ []) eh,
      record {
        places =
            sym (ap (λ (l : MaskLayer). map (place k) (parts_on l (is_some crossing))) on
            ∙ ap (λ (o : Option Crossing). map (place k) (parts_on ND (is_some o))) e);
        each = All-cons Of lower (higher ∷ []) a (All-cons Of higher [] b (All-nil Of));
      },
    )

-- ---- one box more

-- what the pieces of the first boxes are
pub record ArePiecesBelow (boxes : List MaskBox) (crossings : List Crossing) (k : ℕ) (pieces : List Placed)
    (starts : List ℕ) : Type 0 where
  pub places : map stand_of pieces ≡ flat_map (places_at crossings boxes) (range_with_len 0 k)
  pub each : All (IsPiece boxes crossings) pieces
  pub ranges : AreStarts (box_of pieces) (length pieces) k starts
  pub last : get_or starts k 0 ≡ length pieces
  pub few : length pieces ≤ 2 * k

-- the piece with this number, of pieces to which some have been added
box_new : (pieces added : List Placed) (k a : ℕ) → All (λ (p : Placed). p.box_no ≡ k) added → length pieces ≤ a
    → a < length (pieces ++ added) → box_of (pieces ++ added) a ≡ k
box_new pieces added k a all le lt =
    let n = length-append pieces added in
    ap (λ (p : Placed). p.box_no) (get_or-append_right pieces added (length pieces) a no_piece refl le)
    ∙ all (a - length pieces) no_piece (omega arith)

-- the entries of one box more
pub starts_more : (old new : ℕ → ℕ) (m n k : ℕ) (starts : List ℕ) → m ≤ n → AreStarts old m k starts
    → get_or starts k 0 ≡ m → ((a : ℕ) → a < m → new a ≡ old a) → ((a : ℕ) → m ≤ a → a < n → new a ≡ k)
    → AreStarts new n (k + 1) (starts ++ n ∷ [])
starts_more old new m n k starts le s last before after =
    let next : List ℕ = starts ++ n ∷ [] in
    let c = s.counted in
    let same : (j : ℕ) → j ≤ k → get_or next j 0 ≡ get_or starts j 0 =
    λ j below. get_or_append_left starts (n ∷ []) 0 j (omega arith) in
    let end : get_or next (k + 1) 0 ≡ n = get_or_push starts n 0 (k + 1) c in
    let first : get_or next k 0 ≡ m = same k (omega arith) ∙ last in
    record {
      counted = length_push starts n ∙ ap (λ (i : ℕ). i + 1) c;
      within = λ j below. elim (below_cases j (k + 1) (omega arith)) [
        | inl lt ↦ (let e = same j (omega arith) in let w = s.within j (omega arith) in omega arith)
        | inr e ↦ (let P : ℕ → Type 0 = λ i. get_or next i 0 ≤ n in subst P (sym e) (omega arith))
      ];
      of_box = λ j a lt low high. elim (below_cases j k lt) [
        | inl earlier ↦
            (let e = same j (omega arith) in
            let f = same (j + 1) (omega arith) in
            let w = s.within (j + 1) (omega arith) in
            before a (omega arith) ∙ s.of_box j a earlier (omega arith) (omega arith))
        | inr e ↦
            (let P : ℕ → Type 0 = λ i. get_or next i 0 ≤ a in
            let Q : ℕ → Type 0 = λ i. a < get_or next (i + 1) 0 in
            let lo : get_or next k 0 ≤ a = subst P e low in
            let hi : a < get_or next (k + 1) 0 = subst Q e high in
            after a (omega arith) (omega arith) ∙ sym e)
      ];
      own = λ a lt.
          (let P : ℕ → Type 0 = λ i. (i < k + 1) × (get_or next i 0 ≤ a) × (a < get_or next (i + 1) 0) in
          elim (cases_lt a m) [
            | inl inside ↦
                (let o = s.own a inside in
                let below = o.0 in
                let low = o.1 in
                let high = o.2 in
                let e = same (old a) (omega arith) in
                let f = same (old a + 1) (omega arith) in
                subst P (sym (before a inside)) (omega arith, omega arith, omega arith))
            | inr past ↦ subst P (sym (after a past lt)) (omega arith, omega arith, omega arith)
          ]);
    }

-- the area of a part
area_of_part : (boxes : List MaskBox) (crossings : List Crossing) (k : ℕ) (crossing : Option Crossing) (part : Part)
    (area : BoxXY) → IfSome crossing (IsCrossingOf crossings k)
    → IsPartOf (area_at boxes k) crossing part area → IsAreaOfPart boxes crossings k part area
area_of_part boxes crossings k crossing Whole area of h = h
area_of_part boxes crossings k crossing Low area of (c, e, low) = let P : Option Crossing
    → Type 0 = λ o. IfSome o (IsCrossingOf crossings k) in (c, subst P e of, low)
area_of_part boxes crossings k crossing High area of (c, e, high) = let P : Option Crossing
    → Type 0 = λ o. IfSome o (IsCrossingOf crossings k) in (c, subst P e of, high)

piece_from : (boxes : List MaskBox) (crossings : List Crossing) (k : ℕ) (crossing : Option Crossing) (piece : Placed)
    → k < length boxes → IfSome crossing (IsCrossingOf crossings k)
    → IsPieceOfBox boxes k crossing piece → IsPiece boxes crossings piece
piece_from boxes crossings k crossing piece lt of h =
    let A : ℕ → Type 0 = λ m. m < length boxes in
    let B : ℕ → Type 0 = λ m. Conducts (layer_at boxes m) in
    let C : ℕ → Type 0 = λ m. IsAreaOfPart boxes crossings m piece.part piece.area in
    let D : ℕ → Type 0 = λ m. Encloses (area_at boxes m) piece.area (pos 0) in
    let e : k ≡ piece.box_no = sym h.box in
    record {
      of_box = subst A e lt;
      conducts = subst B e h.conducts;
      area = subst C e (area_of_part boxes crossings k crossing piece.part piece.area of h.area);
      inside = subst D e h.inside;
    }

pub parts_few : (layer : MaskLayer) (crossed : Bool) → length (parts_on layer crossed) ≤ 2
parts_few ND true = omega arith
parts_few ND false = omega arith
parts_few layers.NP crossed = omega arith
parts_few layers.NM crossed = omega arith
parts_few layers.NC crossed = omega arith
parts_few layers.NI crossed = omega arith
parts_few layers.NB crossed = omega arith

pub pieces_more : (boxes : List MaskBox) (crossings : List Crossing) (k end : ℕ) (crossing : Option Crossing)
    (pieces next : List Placed) (starts more : List ℕ) → k < length boxes
    → is_some crossing ≡ is_crossed crossings k → IfSome crossing (IsCrossingOf crossings k)
    → ((added : List Placed) × (next ≡ pieces ++ added) × AreOfBox boxes k crossing added)
    → end ≡ length next → more ≡ starts ++ end ∷ [] → ArePiecesBelow boxes crossings k pieces starts
    → ArePiecesBelow boxes crossings (k + 1) next more
pieces_more boxes crossings k end crossing pieces next starts more lt crossed of (added, grown, are) e pushed p =
    let all : List Placed = pieces ++ added in
    let at : map stand_of added ≡ places_at crossings boxes k = are.places
    ∙ ap (λ (b : Bool). map (place k) (parts_on (layer_at boxes k) b)) crossed in
    let n : length added ≡ length (parts_on (layer_at boxes k) (is_crossed crossings k)) =
    sym (length-map added stand_of) ∙ ap (λ (ps : List Place). length ps) at
    ∙ length-map (parts_on (layer_at boxes k) (is_crossed crossings k)) (place k) in
    let two = parts_few (layer_at boxes k) (is_crossed crossings k) in
    let l = length-append pieces added in
    let f = p.few in
    let done : ArePiecesBelow boxes crossings (k + 1) all (starts ++ length all ∷ []) = record {
      places = piece_added (places_at crossings boxes) k [] (map stand_of pieces) (map stand_of all) p.places
          (map-append stand_of pieces added ∙ ap (λ (ps : List Place). map stand_of pieces ++ ps) at);
      each = All-append (IsPiece boxes crossings) pieces added p.each
          (λ i d l. piece_from boxes crossings k crossing (get_or added i d) lt of (are.each i d l));
      ranges = starts_more (box_of pieces) (box_of all) (length pieces) (length all) k starts (omega arith) p.ranges
          p.last (λ a l. ap (λ (x : Placed). x.box_no) (get_or_append_left pieces added no_piece a l))
          (λ a. box_new pieces added k a (λ i d l. (are.each i d l).box));
      last = get_or_push starts (length all) 0 (k + 1) p.ranges.counted;
      few = omega arith;
    } in
    let P : List Placed → Type 0 = λ ps. ArePiecesBelow boxes crossings (k + 1) ps (starts ++ length ps ∷ []) in
    let Q : List ℕ → Type 0 = λ ss. ArePiecesBelow boxes crossings (k + 1) next ss in
    subst Q (ap (λ (m : ℕ). starts ++ m ∷ []) (sym e) ∙ sym pushed) (subst P (sym grown) done)
