-- Counts of pieces, one piece after another.
use Rattle.std.proofs.Common.{◌≡◌, ℕ, zero, suc, ◌+◌, ◌<◌, ◌≤◌, ◌&&◌, Bool, true, false, cond, eqb, get_or, List, []}
use Rattle.std.proofs.Common.{◌∷◌, ◌++◌, length, map, take, refl, sym, ap, ◌∙◌, add-zero, arith, inl, inr, set}
use Rattle.std.proofs.{Common.{get_or-set_same, get_or-set_other, eq-eqb}, lemmas.Bool.{cases_eq, ne_eqb}}
use Rattle.std.proofs.lemmas.List.{length-take-le, Sums.{sum_by-cons, sum_by_more, count_by-le-length}}
use Rattle.std.specs.List.{flat_map, range_with_len, AllByRecursion}
use Rattle.lam_geom.specs.declared.boxes.{MaskBox.MaskBox, MaskLayer.{MaskLayer, TheVariants.{ND, NP, NC, NM, NI, NB}}}
use Rattle.crossing_model.specs.Boxes.{layer_at}
use Rattle.net_model.specs.declared.netlist.Piece.{Piece}
use Rattle.net_list.specs.declared.counting.PieceCounts.{PieceCounts}
use Rattle.net_list.specs.Lines.{is_diffusion, is_poly, is_metal, pieces_on, line_of_net}
use Rattle.net_list.specs.Counts.{no_pieces, one_more, layer_in, counts_of, counts_line, counts_lines}

-- counts with equal parts are equal
same_counts : (a b : PieceCounts) → a.diffusion ≡ b.diffusion → a.poly ≡ b.poly → a.metal ≡ b.metal → a ≡ b
same_counts a b d p m =
    ap (λ n. (let c : PieceCounts = record { diffusion = n; poly = a.poly; metal = a.metal } in c)) d
    ∙ (ap (λ n. (let c : PieceCounts = record { diffusion = b.diffusion; poly = n; metal = a.metal } in c)) p
    ∙ ap (λ n. (let c : PieceCounts = record { diffusion = b.diffusion; poly = b.poly; metal = n } in c)) m)

-- ---- one piece more

-- a piece of the net counts where its box is on the layer, and one of another net not
same_net : (is_layer : MaskLayer → Bool) (layer : ℕ → MaskLayer) (pieces : List Piece) (i : ℕ) (x : Piece) (net : ℕ)
    → i < length pieces → eqb (get_or pieces i x).net net ≡ true
    → pieces_on is_layer layer (take (i + 1) pieces) net ≡ pieces_on is_layer layer (take i pieces) net + cond
    (is_layer (layer (get_or pieces i x).box_no)) 1 0
same_net is_layer layer pieces i x net lt same =
    sum_by_more (λ (p : Piece). cond (eqb p.net net && is_layer (layer p.box_no)) 1 0) pieces i x lt
    ∙ ap (λ b. pieces_on is_layer layer (take i pieces) net + cond (b && is_layer (layer (get_or pieces i x).box_no))
    1 0) same

other_net : (is_layer : MaskLayer → Bool) (layer : ℕ → MaskLayer) (pieces : List Piece) (i : ℕ) (x : Piece) (net : ℕ)
    → i < length pieces → eqb (get_or pieces i x).net net ≡ false
    → pieces_on is_layer layer (take (i + 1) pieces) net ≡ pieces_on is_layer layer (take i pieces) net
other_net is_layer layer pieces i x net lt other =
    sum_by_more (λ (p : Piece). cond (eqb p.net net && is_layer (layer p.box_no)) 1 0) pieces i x lt
    ∙ (ap (λ b. pieces_on is_layer layer (take i pieces) net + cond (b && is_layer (layer (get_or pieces i x).box_no))
    1 0) other ∙ add-zero (pieces_on is_layer layer (take i pieces) net))

-- the layer tells which of the three counts rises
by_layer : (a b : PieceCounts) (layer : MaskLayer) → b.diffusion ≡ a.diffusion + cond (is_diffusion layer) 1 0
    → b.poly ≡ a.poly + cond (is_poly layer) 1 0 → b.metal ≡ a.metal + cond (is_metal layer) 1 0
    → b ≡ one_more a layer
by_layer a b ND d p m = same_counts b (one_more a ND) d (p ∙ add-zero a.poly) (m ∙ add-zero a.metal)
by_layer a b NP d p m = same_counts b (one_more a NP) (d ∙ add-zero a.diffusion) p (m ∙ add-zero a.metal)
by_layer a b NC d p m = same_counts b a (d ∙ add-zero a.diffusion) (p ∙ add-zero a.poly) (m ∙ add-zero a.metal)
by_layer a b NM d p m = same_counts b (one_more a NM) (d ∙ add-zero a.diffusion) (p ∙ add-zero a.poly) m
by_layer a b NI d p m = same_counts b a (d ∙ add-zero a.diffusion) (p ∙ add-zero a.poly) (m ∙ add-zero a.metal)
by_layer a b NB d p m = same_counts b a (d ∙ add-zero a.diffusion) (p ∙ add-zero a.poly) (m ∙ add-zero a.metal)

counted_here : (layer : ℕ → MaskLayer) (pieces : List Piece) (i : ℕ) (x : Piece) (net : ℕ) → i < length pieces
    → eqb (get_or pieces i x).net net ≡ true
    → counts_of layer (take (i + 1) pieces) net ≡ one_more (counts_of layer (take i pieces) net)
    (layer (get_or pieces i x).box_no)
counted_here layer pieces i x net lt same =
    by_layer (counts_of layer (take i pieces) net) (counts_of layer (take (i + 1) pieces) net)
    (layer (get_or pieces i x).box_no)
    (same_net is_diffusion layer pieces i x net lt same) (same_net is_poly layer pieces i x net lt same)
    (same_net is_metal layer pieces i x net lt same)

counted_elsewhere : (layer : ℕ → MaskLayer) (pieces : List Piece) (i : ℕ) (x : Piece) (net : ℕ) → i < length pieces
    → eqb (get_or pieces i x).net net ≡ false
    → counts_of layer (take (i + 1) pieces) net ≡ counts_of layer (take i pieces) net
counted_elsewhere layer pieces i x net lt other =
    same_counts (counts_of layer (take (i + 1) pieces) net) (counts_of layer (take i pieces) net)
    (other_net is_diffusion layer pieces i x net lt other) (other_net is_poly layer pieces i x net lt other)
    (other_net is_metal layer pieces i x net lt other)

-- layers that are the same for all pieces make the same counts
same_on : (is_layer : MaskLayer → Bool) (f g : ℕ → MaskLayer) (pieces : List Piece) (net : ℕ)
    → AllByRecursion (λ (p : Piece). f p.box_no ≡ g p.box_no) pieces
    → pieces_on is_layer f pieces net ≡ pieces_on is_layer g pieces net
same_on is_layer f g [] net same = refl
same_on is_layer f g (p ∷ pieces) net same =
    let of : (ℕ → MaskLayer) → Piece → ℕ = λ layer x. cond (eqb x.net net && is_layer (layer x.box_no)) 1 0 in
    sum_by-cons (of f) p pieces
    ∙ (ap (λ l. cond (eqb p.net net && is_layer l) 1 0 + pieces_on is_layer f pieces net) same.0
    ∙ (ap (λ n. of g p + n) (same_on is_layer f g pieces net same.1) ∙ sym (sum_by-cons (of g) p pieces)))

pub counts_same : (f g : ℕ → MaskLayer) (pieces : List Piece)
    → AllByRecursion (λ (p : Piece). f p.box_no ≡ g p.box_no) pieces → (net : ℕ)
    → counts_of f pieces net ≡ counts_of g pieces net
counts_same f g pieces same net =
    same_counts (counts_of f pieces net) (counts_of g pieces net) (same_on is_diffusion f g pieces net same)
    (same_on is_poly f g pieces net same) (same_on is_metal f g pieces net same)

by_recursion : (P : Piece → Type 0) → ((p : Piece) → P p) → (pieces : List Piece) → AllByRecursion P pieces
by_recursion P h [] = tt
by_recursion P h (p ∷ pieces) = (h p, by_recursion P h pieces)

-- no more pieces than there are
pub few_counted : (layer : ℕ → MaskLayer) (pieces : List Piece) (i net : ℕ) (c : PieceCounts) → i < length pieces
    → c ≡ counts_of layer (take i pieces) net
    → (c.diffusion ≤ i) × (c.poly ≤ i) × (c.metal ≤ i)
few_counted layer pieces i net c lt is =
    let few = length-take-le i pieces (omega (arith, lt)) in
    let on : (is_layer : MaskLayer → Bool) → pieces_on is_layer layer (take i pieces) net ≤ i =
    λ is_layer.
    (let le = count_by-le-length (λ (p : Piece). eqb p.net net && is_layer (layer p.box_no)) (take i pieces) in
    omega (arith, le, few)) in
    let d = on is_diffusion in
    let p = on is_poly in
    let m = on is_metal in
    let ed = ap (λ (z : PieceCounts). z.diffusion) is in
    let ep = ap (λ (z : PieceCounts). z.poly) is in
    let em = ap (λ (z : PieceCounts). z.metal) is in
    (omega (arith, d, ed), omega (arith, p, ep), omega (arith, m, em))

-- ---- a table of counts

-- the counts of the first so many pieces, for each net
abbrev pub AreCounted : (ℕ → MaskLayer) → List Piece → List PieceCounts → ℕ → Type 0
AreCounted layer pieces counts nets = (net : ℕ) → net < nets → get_or counts net no_pieces ≡ counts_of layer pieces net

-- a piece p whose net is in the table
pub table_here : (layer : ℕ → MaskLayer) (pieces : List Piece) (i : ℕ) (x p : Piece) (counts next : List PieceCounts)
    (nets : ℕ) → i < length pieces → p ≡ get_or pieces i x
    → length counts ≡ nets → p.net < nets
    → next ≡ set counts p.net (one_more (get_or counts p.net no_pieces) (layer p.box_no))
    → AreCounted layer (take i pieces) counts nets → AreCounted layer (take (i + 1) pieces) next nets
table_here layer pieces i x p counts next nets lt is long among e was = λ net small.
    ap (λ cs. get_or cs net no_pieces) e
    ∙ elim (cases_eq net p.net) [
      | inl same ↦ (
          let at : get_or (set counts p.net (one_more (get_or counts p.net no_pieces) (layer p.box_no))) net no_pieces
          ≡ one_more (get_or counts p.net no_pieces) (layer p.box_no)
          = ap (λ n. get_or (set counts p.net (one_more (get_or counts p.net no_pieces) (layer p.box_no))) n
          no_pieces) same ∙ get_or-set_same counts p.net (one_more (get_or counts p.net no_pieces)
          (layer p.box_no)) no_pieces (omega arith) in
          at ∙ ap (λ c. one_more c (layer p.box_no))
          (was p.net among ∙ ap (λ n. counts_of layer (take i pieces) n) (sym same))
          ∙ ap (λ q. one_more (counts_of layer (take i pieces) net) (layer q.box_no)) is
          ∙ sym (counted_here layer pieces i x net lt
          (eq-eqb (get_or pieces i x).net net (ap (λ q. q.net) (sym is) ∙ sym same))))
      | inr other ↦
          get_or-set_other counts p.net net (one_more (get_or counts p.net no_pieces) (layer p.box_no)) no_pieces other
          ∙ was net small
          ∙ sym (counted_elsewhere layer pieces i x net lt
          (ne_eqb (get_or pieces i x).net net (λ same. other (sym (ap (λ q. q.net) is ∙ same)))))
    ]

-- a piece whose net is not
pub table_elsewhere : (layer : ℕ → MaskLayer) (pieces : List Piece) (i : ℕ) (x p : Piece) (counts : List PieceCounts)
    (nets : ℕ) → i < length pieces → p ≡ get_or pieces i x → nets ≤ p.net
    → AreCounted layer (take i pieces) counts nets → AreCounted layer (take (i + 1) pieces) counts nets
table_elsewhere layer pieces i x p counts nets lt is beyond was = λ net small.
    was net small
    ∙ sym (counted_elsewhere layer pieces i x net lt
    (ne_eqb (get_or pieces i x).net net
    (λ same. (let e : p.net ≡ net = ap (λ q. q.net) is ∙ same in absurd (omega arith)))))

-- ---- lines

-- the lines of counts that are made number by number
lines_by_number : (f g : ℕ → PieceCounts) → ((k : ℕ) → f k ≡ g k) → (a n : ℕ)
    → counts_lines a (map f (range_with_len a n)) ≡ flat_map (λ k. counts_line k (g k)) (range_with_len a n)
lines_by_number f g same a zero = refl
lines_by_number f g same a (suc n) =
    ap (λ c. counts_line a c ++ counts_lines (a + 1) (map f (range_with_len (a + 1) n))) (same a)
    ∙ ap (λ text. counts_line a (g a) ++ text) (lines_by_number f g same (a + 1) n)

-- by the layer of each box
layer_read : (boxes : List MaskBox) (k : ℕ) → layer_in (map (λ (b : MaskBox). b.layer) boxes) k ≡ layer_at boxes k
layer_read [] k = refl
layer_read (b ∷ boxes) zero = refl
layer_read (b ∷ boxes) (suc k) = layer_read boxes k

pub lines_by_layer : (boxes : List MaskBox) (layers : List MaskLayer) (pieces : List Piece) (nets : ℕ)
    → layers ≡ map (λ (b : MaskBox). b.layer) boxes
    → counts_lines 0 (map (counts_of (layer_in layers) pieces) (range_with_len 0 nets))
    ≡ flat_map (line_of_net boxes pieces) (range_with_len 0 nets)
lines_by_layer boxes layers pieces nets e =
    lines_by_number (counts_of (layer_in layers) pieces) (counts_of (layer_at boxes) pieces)
    (counts_same (layer_in layers) (layer_at boxes) pieces
    (by_recursion (λ (p : Piece). layer_in layers p.box_no ≡ layer_at boxes p.box_no)
    (λ p. ap (λ ls. layer_in ls p.box_no) e ∙ layer_read boxes p.box_no) pieces)) 0 nets
