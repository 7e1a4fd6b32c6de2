-- What one more point adds to what is drawn and to the forms, and how many forms there are.
use Rattle.std.proofs.Common.{◌≡◌, ℕ, ◌+◌, ◌*◌, ◌<◌, ◌≤◌, List, [], ◌∷◌, ◌++◌, length, get_or, map, Option, Some, None}
use Rattle.std.proofs.Common.{refl, sym, ap, ◌∙◌, add-one, zero-add, append_assoc, suc, arith}
use Rattle.std.proofs.lemmas.List.{map-id, append-nil, length-append, FromFn.length-range_with_len}
use Rattle.std.proofs.lemmas.List.FromFn.{map-range_with_len_more, length-map-range_with_len, get_or-map-range_with_len}
use Rattle.std.proofs.{lemmas.List.Elements.filter_map-append, Math.Nat.mul-le-mul}
use Rattle.std.specs.List.{range_with_len, filter_map, cons_option, zip}
use Rattle.stick_text.specs.declared.design.Form.{Form}
use Rattle.design_gen.specs.Draws.{next_number, number_after, bits_of, draw, point_at, points}
use Rattle.design_gen.specs.{declared.draws.Point.Point, Made.{node_at, wire_at, forms_of, lines_from}}

pub number_more : (n k : ℕ) → number_after n (k + 1) ≡ next_number (number_after n k)
unfolding number_after
number_more n k = rw add-one refl

pub draw_here : (n k : ℕ) → draw n k ≡ bits_of (next_number (number_after n k))
unfolding draw
draw_here n k = ap bits_of (number_more n k)

-- the numbers below the next one
pub range_more : (k : ℕ) → range_with_len 0 (k + 1) ≡ range_with_len 0 k ++ k ∷ []
range_more k = sym (map-id (range_with_len 0 (k + 1))) ∙ map-range_with_len_more (λ (j : ℕ). j) 0 k k (zero-add k)
    ∙ ap (λ ks. ks ++ k ∷ []) (map-id (range_with_len 0 k))

points_ahead : (f : ℕ → Option Form) (k : ℕ)
    → filter_map f (range_with_len 0 (k + 1)) ≡ filter_map f (range_with_len 0 k) ++ filter_map f (k ∷ [])
points_ahead f k = ap (filter_map f) (range_more k) ∙ filter_map-append f (range_with_len 0 k) (k ∷ [])

-- one more point for which there is a form, and one for which there is none
pub some_more : (f : ℕ → Option Form) (k : ℕ) (x : Form) (prefix now next : List Form)
    → now ≡ prefix ++ filter_map f (range_with_len 0 k) → f k ≡ Some x → next ≡ now ++ x ∷ []
    → next ≡ prefix ++ filter_map f (range_with_len 0 (k + 1))
some_more f k x prefix now next before here after =
    let own : filter_map f (k ∷ []) ≡ x ∷ [] = ap (λ o. cons_option o []) here in
    after ∙ ap (λ xs. xs ++ x ∷ []) before ∙ append_assoc prefix (filter_map f (range_with_len 0 k)) (x ∷ [])
    ∙ ap (λ xs. prefix ++ xs) (sym (points_ahead f k ∙ ap (λ xs. filter_map f (range_with_len 0 k) ++ xs) own))

pub none_more : (f : ℕ → Option Form) (k : ℕ) (prefix now : List Form)
    → now ≡ prefix ++ filter_map f (range_with_len 0 k) → f k ≡ None
    → now ≡ prefix ++ filter_map f (range_with_len 0 (k + 1))
none_more f k prefix now before here =
    let own : filter_map f (k ∷ []) ≡ [] = ap (λ o. cons_option o []) here in
    before ∙ ap (λ xs. prefix ++ xs)
    (sym (points_ahead f k ∙ ap (λ xs. filter_map f (range_with_len 0 k) ++ xs) own
    ∙ append-nil (filter_map f (range_with_len 0 k))))

-- forms beside numbers that follow one another
pub numbered : (number : ℕ) (forms : List Form)
    → map (λ pair. record { number = pair.0; form = pair.1 }) (zip (range_with_len number (length forms)) forms)
    ≡ lines_from number forms
numbered number [] = refl
numbered number (form ∷ forms) =
    ap (λ lines. record { number = number; form = form } ∷ lines) (numbered (number + 1) forms)

pub length_lines : (number : ℕ) (forms : List Form) → length (lines_from number forms) ≡ length forms
length_lines number [] = refl
length_lines number (form ∷ forms) = ap suc (length_lines (number + 1) forms)

-- ---- what is drawn for each point

pub length_drawn : (n : ℕ) (drawn : List Point) → drawn ≡ map (point_at n) (points n) → length drawn ≡ n * n
length_drawn n drawn same = ap length same ∙ length-map-range_with_len (point_at n) 0 (n * n)

pub drawn_at : (n k : ℕ) (drawn : List Point) (d : Point) → drawn ≡ map (point_at n) (points n) → k < n * n
    → get_or drawn k d ≡ point_at n k
drawn_at n k drawn d same lt = ap (λ points. get_or points k d) same
    ∙ get_or-map-range_with_len (point_at n) 0 (n * n) k k d lt (zero-add k)

-- ---- how many forms there are

fewer : (f : ℕ → Option Form) (xs : List ℕ) → length (filter_map f xs) ≤ length xs
fewer f [] = omega arith
fewer f (x ∷ xs) = with_option (f x) (filter_map f xs) (length xs) (fewer f xs)
  where
    with_option : (o : Option Form) (forms : List Form) (n : ℕ) → length forms ≤ n
        → length (cons_option o forms) ≤ suc n
    with_option None forms n h = omega (arith, h)
    with_option (Some form) forms n h = omega (arith, h)

-- a wire and a node for each point, at most
pub few_forms : (n : ℕ) → n ≤ 64 → length (forms_of n) ≤ 8192
unfolding forms_of
few_forms n h =
    let nodes = fewer (node_at n) (points n) in
    let wires = fewer (wire_at n) (points n) in
    let square : n * n ≤ 64 * 64 = mul-le-mul h h in
    omega (
      arith,
      nodes,
      wires,
      square,
      length-range_with_len 0 (n * n),
      length-append
          (filter_map (node_at n) (points n)) (filter_map (wire_at n) (points n)),
    )
