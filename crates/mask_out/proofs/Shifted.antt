-- The boxes of a call, one after another, and those of all calls.
use Rattle.std.proofs.Common.{◌≡◌, ℕ, ◌+◌, ◌^◌, ◌<◌, pos, get_or, List, [], ◌∷◌, ◌++◌, All, length, map, take, refl}
use Rattle.std.proofs.Common.{sym, ap, subst, ◌∙◌, arith, append_assoc}
use Rattle.std.proofs.lemmas.List.{take_more, map-append, length-map, append-nil, Concat.flat_map-append}
use Rattle.lam_geom.specs.declared.boxes.MaskBox.{MaskBox}
use Rattle.mask_out.specs.{declared.drawing.{Call.Call, Symbol.Symbol}, Masks.{Mask, mask_of}, Pictures.Drawing}
use Rattle.mask_out.specs.Pictures.{drawing_of, no_drawing, shifted, masks_at, masks_called, flat_of, LiesWithin}
use Rattle.mask_out.{specs.Pictures.CanBeFlattened, proofs.Pushed.image_at}

-- a box of a symbol lies within so much of the origin
pub box_within : (boxes : List MaskBox) (i : ℕ) (box : MaskBox) → All (LiesWithin (2 ^ 40)) (map mask_of boxes)
    → i < length boxes → box ≡ get_or boxes i box → LiesWithin (2 ^ 40) (mask_of box)
box_within boxes i box all lt is =
    subst (LiesWithin (2 ^ 40)) (image_at mask_of boxes i box (mask_of box) (mask_of box) lt is refl)
    (all i (mask_of box) (omega (arith, length-map boxes mask_of, lt)))

-- one box more of a call
pub box_pushed : (call : Call) (boxes : List MaskBox) (i : ℕ) (box made : MaskBox) (prefix : List Mask)
    (now next : List MaskBox) → i < length boxes → box ≡ get_or boxes i box
    → mask_of made ≡ shifted call (mask_of box)
    → map mask_of now ≡ prefix ++ map (shifted call) (map mask_of (take i boxes)) → next ≡ now ++ made ∷ []
    → map mask_of next ≡ prefix ++ map (shifted call) (map mask_of (take (i + 1) boxes))
box_pushed call boxes i box made prefix now next lt is mask was grown =
    let f = λ (ms : List MaskBox). map (shifted call) (map mask_of ms) in
    let more : f (take (i + 1) boxes) ≡ f (take i boxes) ++ shifted call (mask_of box) ∷ [] =
    ap f (take_more boxes i box lt ∙ ap (λ b. take i boxes ++ b ∷ []) (sym is))
    ∙ (ap (map (shifted call)) (map-append mask_of (take i boxes) (box ∷ []))
    ∙ map-append (shifted call) (map mask_of (take i boxes)) (mask_of box ∷ [])) in
    ap (map mask_of) grown ∙ (map-append mask_of now (made ∷ [])
    ∙ (ap (λ zs. zs ++ mask_of made ∷ []) was ∙ (append_assoc prefix (f (take i boxes)) (mask_of made ∷ [])
    ∙ (ap (λ m. prefix ++ (f (take i boxes) ++ m ∷ [])) mask ∙ ap (λ zs. prefix ++ zs) (sym more)))))

-- ---- calls

-- what reads of a list of calls past its end give
abbrev pub no_call : Call
no_call = record { symbol = 0; x = pos 0; y = pos 0 }

-- a call of a picture and the boxes of its symbol
pub record Calls (symbols : List Symbol) (calls : List Call) (i : ℕ) (call : Call) (boxes : List MaskBox) : Type 0 where
  pub among : i < length calls
  pub is : call ≡ get_or calls i no_call
  pub here : masks_at (map drawing_of symbols) call.symbol ≡ map mask_of boxes
  pub within : All (LiesWithin (2 ^ 40)) (map mask_of boxes)

pub calls_at : (symbols listed : List Symbol) (calls items : List Call) (i : ℕ) (symbol : Symbol)
    (boxes : List MaskBox) → listed ≡ symbols → items ≡ calls → i < length items
    → CanBeFlattened (map drawing_of symbols) calls → symbol ≡ get_or listed (get_or items i no_call).symbol symbol
    → boxes ≡ symbol.boxes
    → Calls symbols calls i (get_or items i no_call) boxes
calls_at symbols listed calls items i symbol boxes all every lt can at own =
    let call = get_or items i no_call in
    let n = call.symbol in
    let among : i < length calls = omega (arith, ap length every) in
    let is : call ≡ get_or calls i no_call = ap (λ xs. get_or xs i no_call) every in
    let counted = length-map symbols drawing_of in
    let called : n < length symbols =
    omega (arith, counted, ap (λ (k : Call). k.symbol) is, (can.called i no_call among).symbol) in
    let here : masks_at (map drawing_of symbols) n ≡ map mask_of boxes =
    ap (λ (d : Drawing). d.masks)
    (image_at drawing_of symbols n symbol (drawing_of symbol) no_drawing called
    (at ∙ ap (λ xs. get_or xs n symbol) all) refl) ∙ ap (map mask_of) (sym own) in
    record {
      among = among;
      is = is;
      here = here;
      within = subst (All (LiesWithin (2 ^ 40))) here (can.near n no_drawing (omega (arith, counted, called)));
    }

-- one call more
pub call_flattened : (symbols : List Symbol) (calls : List Call) (i : ℕ) (call : Call) (boxes : List MaskBox)
    (now next : List Mask) → Calls symbols calls i call boxes
    → now ≡ flat_of (map drawing_of symbols) (take i calls) → next ≡ now ++ map (shifted call) (map mask_of boxes)
    → next ≡ flat_of (map drawing_of symbols) (take (i + 1) calls)
call_flattened symbols calls i call boxes now next at was grown =
    let drawings = map drawing_of symbols in
    let more : flat_of drawings (take (i + 1) calls) ≡ flat_of drawings (take i calls) ++ masks_called drawings call =
    ap (flat_of drawings) (take_more calls i no_call at.among ∙ ap (λ k. take i calls ++ k ∷ []) (sym at.is))
    ∙ (flat_map-append (masks_called drawings) (take i calls) (call ∷ [])
    ∙ ap (λ zs. flat_of drawings (take i calls) ++ zs) (append-nil (masks_called drawings call))) in
    grown ∙ (ap (λ zs. zs ++ map (shifted call) (map mask_of boxes)) was
    ∙ (ap (λ ms. flat_of drawings (take i calls) ++ map (shifted call) ms) (sym at.here) ∙ sym more))
