-- The calls of a row, of a grid and of all grids, with one more instance, row or grid.
use Rattle.std.proofs.Common.{◌≡◌, ℕ, ◌+◌, ◌<◌, ℤ, ◌+ℤ◌, get_or, zero-add, List, [], ◌∷◌, ◌++◌, length, map, sym, ap}
use Rattle.std.proofs.{Common.{◌∙◌, append_assoc}, lemmas.List.{get_or-map, FromFn.map-range_with_len_more}}
use Rattle.std.specs.{Prelude.slice_index, List.{flat_map, range_with_len}}
use Rattle.list_facts.proofs.Pieces.{piece_added}
use Rattle.plan_model.specs.{Instances.{left_in_row, bottom_in_grid}, Rows.row_at}
use Rattle.mask_out.specs.{declared.drawing.Call.Call, RowCalls.{call_in_row, calls_in_row, calls_in_row_at}}

-- what stands at a place of the images, from the element there
pub image_at : {X Y : Type 0} (f : X → Y) (xs : List X) (i : ℕ) (x : X) (y d : Y) → i < length xs → x ≡ get_or xs i x
    → y ≡ f x → get_or (map f xs) i d ≡ y
image_at f xs i x y d lt is image = get_or-map f xs i x d lt ∙ sym (image ∙ ap f is)

pub call_pushed : (width : ℕ → ℤ) (left bottom : ℤ) (row : List ℕ) (i symbol : ℕ) (x : ℤ) (prefix now next : List Call)
    → now ≡ prefix ++ map (call_in_row width left bottom row) (range_with_len 0 i)
    → symbol ≡ slice_index row i → x ≡ left +ℤ left_in_row width row i
    → next ≡ now ++ (let call : Call = record { symbol = symbol; x = x; y = bottom } in call) ∷ []
    → next ≡ prefix ++ map (call_in_row width left bottom row) (range_with_len 0 (i + 1))
call_pushed width left bottom row i symbol x prefix now next was of at is =
    let f = call_in_row width left bottom row in
    let made = λ (n : ℕ) (z : ℤ). (let call : Call = record { symbol = n; x = z; y = bottom } in call) in
    is ∙ (ap (λ zs. zs ++ made symbol x ∷ []) was
    ∙ (append_assoc prefix (map f (range_with_len 0 i)) (made symbol x ∷ [])
    ∙ (ap (λ n. prefix ++ (map f (range_with_len 0 i) ++ made n x ∷ [])) of
    ∙ (ap (λ z. prefix ++ (map f (range_with_len 0 i) ++ made (slice_index row i) z ∷ [])) at
    ∙ ap (λ zs. prefix ++ zs) (sym (map-range_with_len_more f 0 i i (zero-add i)))))))

pub row_pushed : (width height : ℕ → ℤ) (left bottom : ℤ) (rows : List (List ℕ)) (i : ℕ) (row : List ℕ)
    (prefix now next : List Call)
    → now ≡ prefix ++ flat_map (calls_in_row_at width height left rows) (range_with_len 0 i)
    → row_at rows i ≡ row → bottom ≡ bottom_in_grid height rows i
    → next ≡ now ++ calls_in_row width left bottom row
    → next ≡ prefix ++ flat_map (calls_in_row_at width height left rows) (range_with_len 0 (i + 1))
row_pushed width height left bottom rows i row prefix now next was here at is =
    piece_added (calls_in_row_at width height left rows) i prefix now next was
    (is ∙ (ap (λ b. now ++ calls_in_row width left b row) at
    ∙ ap (λ r. now ++ calls_in_row width left (bottom_in_grid height rows i) r) (sym here)))
