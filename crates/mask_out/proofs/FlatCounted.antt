-- How many boxes a picture has.
use Rattle.std.proofs.{Common.{◌≡◌, List, [], ◌∷◌, length, refl, ◌∙◌, arith}, lemmas.List.length-map}
use Rattle.std.{proofs.lemmas.List.{Concat.length-flat_map, Sums.sum_by-cons}, specs.List.sum_by}
use Rattle.mask_out.specs.declared.drawing.Call.{Call}
use Rattle.mask_out.specs.Pictures.{Drawing, shifted, masks_at, masks_called, flat_of, boxes_called}

shifting_keeps : (drawings : List Drawing) (calls : List Call)
    → sum_by (λ (call : Call). length (masks_called drawings call)) calls ≡ boxes_called drawings calls
shifting_keeps drawings [] = refl
shifting_keeps drawings (call ∷ calls) =
    omega (
      arith,
      sum_by-cons (λ (one : Call). length (masks_called drawings one)) call calls,
      sum_by-cons (λ (one : Call). length (masks_at drawings one.symbol)) call calls,
      length-map (masks_at drawings call.symbol) (shifted call),
      shifting_keeps drawings calls,
    )

pub flat_counted : (drawings : List Drawing) (calls : List Call)
    → length (flat_of drawings calls) ≡ boxes_called drawings calls
flat_counted drawings calls = length-flat_map (masks_called drawings) calls ∙ shifting_keeps drawings calls
