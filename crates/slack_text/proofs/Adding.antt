-- Lines of variables, put together.
use Rattle.std.proofs.Common.{◌≡◌, ℕ, suc, zero, ◌+◌, ◌<◌, ◌≤◌, ◌^◌, ℤ, pos, negsuc, neg_ℤ, ◌-ℤ◌, ◌≤ℤ◌, codes, List, []}
use Rattle.std.proofs.Common.{◌∷◌, ◌++◌, length, get_or, map, take, refl, sym, ap, ◌∙◌, append_assoc, add-zero}
use Rattle.std.proofs.{Common.{zero-add, arith}, lemmas.{Result.on_ok_weaker, Int.{ints, to_z-of_z}, List.append-nil}}
use Rattle.std.proofs.lemmas.List.{length-append, length-map, length-take-le, map_more}
use Rattle.std.specs.{Fmt.signed_decimal, List.{flat_map, range_with_len}, Prelude.{Result, OnOk}}
use mir.Syntax.{w64}
use mir.Val.{to_z, of_z, SFits}
use Rattle.lam_geom.specs.Places.{IsPlace}
use Rattle.cons_graph.specs.Solutions.{value_of}
use Rattle.cell_model.specs.declared.cell.{Node.Node, Cell.Cell}
use Rattle.list_facts.proofs.Pieces.{piece_added}
use Rattle.pitch_join.specs.Names.{within_cell}
use Rattle.slack_text.specs.Slack.{places_text, slack_line, slack_lines}

-- ---- numbers in machine words

small_fits : (z : ℤ) → neg_ℤ (pos (2 ^ 61)) ≤ℤ z → z ≤ℤ pos (2 ^ 61) → SFits w64 z
small_fits (pos n) low high = record { sfits = omega (arith, ints, high) }
small_fits (negsuc n) low high = record { sfits = omega (arith, ints, low) }

pub place_back : (z is : ℤ) → IsPlace z → z ≡ is → to_z w64 (of_z w64 z) ≡ is
place_back z is place e = let low = place.0 in let high =
    place.1 in to_z-of_z w64 z (small_fits z (omega (arith, ints)) (omega (arith, ints))) ∙ e

slack_back : (a b : ℤ) → IsPlace a → IsPlace b
    → to_z w64 (of_z w64 (to_z w64 (of_z w64 b) -ℤ to_z w64 (of_z w64 a))) ≡ b -ℤ a
slack_back a b a_place b_place =
    let a_low = a_place.0 in
    let a_high = a_place.1 in
    let b_low = b_place.0 in
    let b_high = b_place.1 in
    ap (λ x. to_z w64 (of_z w64 (x -ℤ to_z w64 (of_z w64 a)))) (place_back b b b_place refl)
    ∙ (ap (λ x. to_z w64 (of_z w64 (b -ℤ x))) (place_back a a a_place refl)
    ∙ to_z-of_z w64 (b -ℤ a) (small_fits (b -ℤ a) (omega (arith, ints)) (omega (arith, ints))))

-- ---- one line

-- three words, each with a number after it, and an end
numbers_added : (a b x d f g z start one two three end : List ℕ) → one ≡ start ++ (a ++ b) → two ≡ one ++ (x ++ d)
    → three ≡ two ++ (f ++ g) → end ≡ three ++ z
    → end ≡ start ++ (a ++ (b ++ (x ++ (d ++ (f ++ (g ++ z))))))
numbers_added a b x d f g z start one two three end e1 e2 e3 e4 =
    let all : end ≡ (((start ++ (a ++ b)) ++ (x ++ d)) ++ (f ++ g)) ++ z = cc in
    all ∙ simp append_assoc

-- the places of a part, from the numbers that are written
pub places_added : (least most l m d : ℤ) (start one two three end : List ℕ) → IsPlace least → IsPlace most
    → l ≡ to_z w64 (of_z w64 least) → m ≡ to_z w64 (of_z w64 most)
    → d ≡ to_z w64 (of_z w64 (to_z w64 (of_z w64 most) -ℤ to_z w64 (of_z w64 least)))
    → one ≡ start ++ (codes " least " ++ signed_decimal l) → two ≡ one ++ (codes " most " ++ signed_decimal m)
    → three ≡ two ++ (codes " slack " ++ signed_decimal d) → end ≡ three ++ codes "\n"
    → end ≡ start ++ places_text least most
places_added least most l m d start one two three end l_place m_place l_is m_is d_is e1 e2 e3 e4 =
    let T : ℤ → ℤ → ℤ → List ℕ =
    λ x y z.
    start ++ (codes " least "
    ++ (signed_decimal x
    ++ (codes " most " ++ (signed_decimal y ++ (codes " slack " ++ (signed_decimal z ++ codes "\n")))))) in
    numbers_added (codes " least ") (signed_decimal l) (codes " most ") (signed_decimal m) (codes " slack ")
    (signed_decimal d) (codes "\n") start one two three end e1 e2 e3 e4
    ∙ (ap (λ x. T x m d) (l_is ∙ place_back least least l_place refl)
    ∙ (ap (λ y. T least y d) (m_is ∙ place_back most most m_place refl)
    ∙ ap (λ z. T least most z) (d_is ∙ slack_back least most l_place m_place)))

-- a name in three parts, and the places after it
name_added : (name mark inner places start one two three four : List ℕ) → one ≡ start ++ name → two ≡ one ++ mark
    → three ≡ two ++ inner → four ≡ three ++ places
    → four ≡ start ++ ((name ++ (mark ++ inner)) ++ places)
name_added name mark inner places start one two three four e1 e2 e3 e4 =
    let all : four ≡ (((start ++ name) ++ mark) ++ inner) ++ places = cc in
    all ∙ simp append_assoc

pub line_added : {T E : Type 0} (r : Result T E) (name mark inner : List ℕ) (l m : ℤ)
    (start one two three four : List ℕ) → IsPlace l → IsPlace m
    → one ≡ start ++ name → two ≡ one ++ mark → three ≡ two ++ inner
    → OnOk r (four ≡ three ++ places_text (to_z w64 (of_z w64 l)) (to_z w64 (of_z w64 m)))
    → OnOk r (four ≡ start ++ slack_line (name ++ (mark ++ inner)) l m)
line_added r name mark inner l m start one two three four l_place m_place e1 e2 e3 done =
    let P : Type 0 = four ≡ three ++ places_text (to_z w64 (of_z w64 l)) (to_z w64 (of_z w64 m)) in
    let Q : Type 0 = four ≡ start ++ slack_line (name ++ (mark ++ inner)) l m in
    let l_is = place_back l l l_place refl in
    let m_is = place_back m m m_place refl in
    on_ok_weaker {P = P} {Q = Q} r
    (λ e. name_added name mark inner (places_text l m) start one two three four e1 e2 e3
    (e ∙ (ap (λ z. three ++ places_text z (to_z w64 (of_z w64 m))) l_is ∙ ap (λ z. three ++ places_text l z) m_is)))
    done

-- ---- one line after another

-- the lines of some variables, and of those that follow
pub slack_lines-append : (xs ys : List (List ℕ)) (v w : ℕ) (least most : List ℤ) → w ≡ v + length xs
    → slack_lines (xs ++ ys) v least most ≡ slack_lines xs v least most ++ slack_lines ys w least most
slack_lines-append [] ys v w least most e =
    let at : v ≡ w = omega arith in
    ap (λ k. slack_lines ys k least most) at
slack_lines-append (x ∷ xs) ys v w least most e =
    let line : List ℕ = slack_line x (value_of least v) (value_of most v) in
    ap (λ ns. line ++ ns) (slack_lines-append xs ys (suc v) w least most (omega arith))
    ∙ sym (append_assoc line (slack_lines xs (suc v) least most) (slack_lines ys w least most))

-- more lines after those that a text has already
pub lines_added : (xs ys : List (List ℕ)) (v w : ℕ) (least most : List ℤ) (start now next : List ℕ) → w ≡ v + length xs
    → now ≡ start ++ slack_lines xs v least most → next ≡ now ++ slack_lines ys w least most
    → next ≡ start ++ slack_lines (xs ++ ys) v least most
lines_added xs ys v w least most start now next e was is =
    is
    ∙ (ap (λ ns. ns ++ slack_lines ys w least most) was
    ∙ (append_assoc start (slack_lines xs v least most) (slack_lines ys w least most)
    ∙ ap (λ ns. start ++ ns) (sym (slack_lines-append xs ys v w least most e))))

-- the line of one more node
pub node_added : (cell : Cell) (nodes : List Node) (first k : ℕ) (least most : List ℤ) (node : Node) (l m : ℤ)
    (start now next : List ℕ) → k < length nodes → node ≡ get_or nodes k node
    → l ≡ value_of least (first + k) → m ≡ value_of most (first + k)
    → now ≡ start ++ slack_lines (map (λ (n : Node). within_cell cell n.name) (take k nodes)) first least most
    → next ≡ now ++ slack_line (within_cell cell node.name) l m
    → next ≡ start ++ slack_lines (map (λ (n : Node). within_cell cell n.name) (take (k + 1) nodes)) first least most
node_added cell nodes first k least most node l m start now next lt at l_is m_is was is =
    let f : Node → List ℕ = λ n. within_cell cell n.name in
    let xs : List (List ℕ) = map f (take k nodes) in
    let line : List ℕ = slack_line (f node) (value_of least (first + k)) (value_of most (first + k)) in
    let count : length xs ≡ k = length-map (take k nodes) f ∙ length-take-le k nodes (omega arith) in
    let more : map f (take (k + 1) nodes) ≡ xs ++ f node ∷ [] = map_more f nodes k node lt
    ∙ ap (λ n. xs ++ f n ∷ []) (sym at) in
    let one : next ≡ now ++ slack_lines (f node ∷ []) (first + k) least most =
    is ∙ (ap (λ z. now ++ slack_line (f node) z m) l_is
    ∙ (ap (λ z. now ++ slack_line (f node) (value_of least (first + k)) z) m_is
    ∙ ap (λ ns. now ++ ns) (sym (append-nil line)))) in
    lines_added xs (f node ∷ []) first (first + k) least most start now next (ap (λ n. first + n) (sym count)) was one
    ∙ ap (λ names. start ++ slack_lines names first least most) (sym more)

-- ---- pieces of the first numbers

-- those before number k, and that of k, are some of them
pieces_within_from : {A : Type 0} (f : ℕ → List A) (a k n : ℕ) → k < n
    → length (flat_map f (range_with_len a k)) + length (f (a + k)) ≤ length (flat_map f (range_with_len a n))
pieces_within_from f a k zero lt = absurd (omega arith)
pieces_within_from f a zero (suc n) lt =
    let at : length (f (a + 0)) ≡ length (f a) = ap (λ j. length (f j)) (add-zero a) in
    let parts : length (flat_map f (range_with_len a (suc n)))
    ≡ length (f a) + length (flat_map f (range_with_len (a + 1) n)) =
    length-append (f a) (flat_map f (range_with_len (a + 1) n)) in
    omega arith
pieces_within_from f a (suc k) (suc n) lt =
    let step : (a + 1) + k ≡ a + suc k = omega arith in
    let at : length (f ((a + 1) + k)) ≡ length (f (a + suc k)) = ap (λ j. length (f j)) step in
    let rest = pieces_within_from f (a + 1) k n (omega arith) in
    let prefix : length (flat_map f (range_with_len a (suc k)))
    ≡ length (f a) + length (flat_map f (range_with_len (a + 1) k)) =
    length-append (f a) (flat_map f (range_with_len (a + 1) k)) in
    let parts : length (flat_map f (range_with_len a (suc n)))
    ≡ length (f a) + length (flat_map f (range_with_len (a + 1) n)) =
    length-append (f a) (flat_map f (range_with_len (a + 1) n)) in
    omega arith

pub pieces_within : {A : Type 0} (f : ℕ → List A) (k n : ℕ) → k < n
    → length (flat_map f (range_with_len 0 k)) + length (f k) ≤ length (flat_map f (range_with_len 0 n))
pieces_within f k n lt =
    let at : length (f (0 + k)) ≡ length (f k) = ap (λ j. length (f j)) (zero-add k) in
    let h = pieces_within_from f 0 k n lt in
    omega arith

-- one more piece
pieces_more : {A : Type 0} (f : ℕ → List A) (k : ℕ)
    → flat_map f (range_with_len 0 k) ++ f k ≡ flat_map f (range_with_len 0 (k + 1))
pieces_more f k = piece_added f k [] (flat_map f (range_with_len 0 k)) (flat_map f (range_with_len 0 k) ++ f k) refl
    refl

pub pieces_counted : {A : Type 0} (f : ℕ → List A) (k first now next : ℕ)
    → now ≡ first + length (flat_map f (range_with_len 0 k)) → next ≡ now + length (f k)
    → next ≡ first + length (flat_map f (range_with_len 0 (k + 1)))
pieces_counted f k first now next was is =
    let more : length (flat_map f (range_with_len 0 k) ++ f k) ≡ length (flat_map f (range_with_len 0 (k + 1))) =
    ap length (pieces_more f k) in
    let parts = length-append (flat_map f (range_with_len 0 k)) (f k) in
    omega arith

-- the lines of the names of one more number
pub piece_lines_added : (f : ℕ → List (List ℕ)) (k first w : ℕ) (least most : List ℤ) (start now next : List ℕ)
    → w ≡ first + length (flat_map f (range_with_len 0 k))
    → now ≡ start ++ slack_lines (flat_map f (range_with_len 0 k)) first least most
    → next ≡ now ++ slack_lines (f k) w least most
    → next ≡ start ++ slack_lines (flat_map f (range_with_len 0 (k + 1))) first least most
piece_lines_added f k first w least most start now next e was is =
    lines_added (flat_map f (range_with_len 0 k)) (f k) first w least most start now next e was is
    ∙ ap (λ names. start ++ slack_lines names first least most) (pieces_more f k)
