-- The text of finished layouts is short where their parts are few.
use Rattle.std.proofs.Common.{◌≡◌, ℕ, ◌+◌, ◌*◌, ◌^◌, ◌<◌, ◌≤◌, ℤ, List, [], ◌∷◌, ◌++◌, length, flat_map, get_or, sym}
use Rattle.std.proofs.Common.{ap, ◌∙◌, subst, append-nil, arith, codes}
use Rattle.std.proofs.lemmas.List.{get_or-map, length-map, Concat.flat_map-append, Elements.recursion_from_All}
use Rattle.std.proofs.lemmas.{List.Folds.flat_map-map, Slice.Zip.{get_or-zip, length-zip}}
use Rattle.std.specs.List.{AllByRecursion, range_with_len, sum_by, zip}
use Rattle.list_facts.proofs.Elements.{all_weaker, all_numbers}
use Rattle.lam_geom.specs.declared.boxes.Axis.TheVariants.{X, Y}
use Rattle.rule_table.specs.{declared.technology.Tech.Tech, Technology.widest_of}
use Rattle.sym_items.specs.{declared.items.Coords.Coords, Layouts.{layout_at, no_layout, size_in}}
use Rattle.expand.specs.declared.master.Master.{Master}
use Rattle.plan_model.specs.{declared.plan.Plan.Plan, Instances.spots_of, Plan.grids_of}
use Rattle.pitch_join.specs.Masters.{master_at, no_master, ports_of_masters, master_ports}
use Rattle.mask_out.specs.declared.drawing.Call.{Call}
use Rattle.mask_out.specs.Pictures.{Drawing, no_drawing, drawing_in, drawings_in, call_at, calls_of}
use Rattle.cif_text.specs.Calls.{call_text, calls_text, text_at, texts_of}
use Rattle.written_masks.specs.{TextMeanings.{IsWritableCall, IsWritablePicture}, Written.{unit_of, text_of_layouts}}
use Rattle.written_masks.proofs.{Pictures.{drawings_counted, picture_writable}, Symbols.FitFinished}
use Rattle.written_masks.proofs.{InstanceBoxes.symbol_counted, InstanceSums.spots_counted, ShortLines.after}
use Rattle.written_masks.proofs.{ShortLines.call_line_short, ShortSymbols.symbol_short, Sums.pieces_short}
use Rattle.written_masks.proofs.Sums.{sum_numbers, sum_of_parts, sum_ones}
use Rattle.master_counts.specs.Parts.{boxes_of_master, HasFewParts}

-- ---- calls

call_short : (unit : ℤ) (count : ℕ) → count ≤ 256 → (call : Call) → IsWritableCall unit count call
    → length (call_text unit call) ≤ 33
call_short unit count few call is =
    let among = is.symbol in
    call_line_short (call.symbol + 1) _ _ (omega (arith, few, among)) is.x is.y

calls_short : (unit : ℤ) (count : ℕ) (calls : List Call) → count ≤ 256
    → AllByRecursion (IsWritableCall unit count) calls → length (calls_text unit calls) ≤ length calls * 33 + 2
calls_short unit count calls few h =
    let all = pieces_short (call_text unit) (λ call. 0 + 1 * 33) calls
    (all_weaker (IsWritableCall unit count) (λ call. length (call_text unit call) ≤ 33)
    (call_short unit count few) calls h) in
    let sums = sum_of_parts (λ (call : Call). 1) 0 33 calls in
    let ones = sum_ones calls in
    let some : length (flat_map (call_text unit) calls) ≤ length calls * 33 = omega (arith, all, sums, ones) in
    after (flat_map (call_text unit) calls) (codes "E\n") (length calls * 33) 2 some (omega arith)

-- ---- symbols

-- the symbol of a master
drawing_there : (masters : List Master) (layouts : List Coords) (k : ℕ) → length layouts ≡ length masters
    → k < length masters
    → get_or (drawings_in masters layouts) k no_drawing ≡ drawing_in (master_at masters k, layout_at layouts k)
drawing_there masters layouts k counted lt =
    let pair : Master × Coords = (no_master, no_layout) in
    let few : k < length (zip masters layouts) = omega (arith, length-zip masters layouts, counted, lt) in
    get_or-map drawing_in (zip masters layouts) k pair no_drawing few
    ∙ ap drawing_in (get_or-zip masters layouts k pair lt (omega (arith, counted, lt)))

module _ (tech : Tech) (plan : Plan) (masters : List Master) (layouts : List Coords)
    (h : FitFinished tech plan masters layouts) (few : HasFewParts plan masters) where
  few_masters : length masters ≤ 256
  few_masters =
      let ported : length (ports_of_masters masters) ≡ length masters = length-map masters master_ports in
      let most = h.planned.planned.few_masters in
      omega (arith, ported, most)

  writable : IsWritablePicture (unit_of tech) (drawings_in masters layouts)
      (calls_of (size_in X layouts) (size_in Y layouts) (widest_of tech) (grids_of plan))
  writable = picture_writable tech plan masters layouts h

  -- so many bytes for each master, and so many for each of its boxes
  text_short : (k : ℕ) → k < length masters
      → length (text_at (unit_of tech) (drawings_in masters layouts) k) ≤ 65066 + boxes_of_master
      (master_at masters k) * 51
  text_short k lt =
      let drawings : List Drawing = drawings_in masters layouts in
      let drawing : Drawing = get_or drawings k no_drawing in
      let counted = drawings_counted masters layouts h.fit.counted in
      let among : k < length drawings = omega (arith, counted, lt) in
      let name : drawing.name ≡ (master_at masters k).cell.name =
      ap (λ (d : Drawing). d.name) (drawing_there masters layouts k h.fit.counted lt) in
      let short : length drawing.name ≤ 65000 =
      subst (λ (n : List ℕ). length n ≤ 65000) (sym name) (few.named k no_master lt) in
      let most = few_masters in
      let number : k + 1 ≤ 256 = omega (arith, most, lt) in
      let all = symbol_short (k + 1) (unit_of tech) drawing number writable.is_unit
      (writable.drawn k no_drawing among) short in
      let boxes : length drawing.masks * 51 ≡ boxes_of_master (master_at masters k) * 51 =
      ap (λ n. n * 51) (symbol_counted tech plan masters layouts h.planned h.fit.counted k lt) in
      omega (arith, all, boxes)

  symbols_short : length (flat_map (λ part. part) (texts_of (unit_of tech) (drawings_in masters layouts))) ≤ length
      masters * 65066 + sum_by boxes_of_master masters * 51
  symbols_short =
      let drawings : List Drawing = drawings_in masters layouts in
      let numbers : List ℕ = range_with_len 0 (length masters) in
      let text : ℕ → List ℕ = text_at (unit_of tech) drawings in
      let most : ℕ → ℕ = λ k. 65066 + boxes_of_master (master_at masters k) * 51 in
      let all : length (flat_map text numbers) ≤ sum_by most numbers =
      pieces_short text most numbers
      (all_numbers (λ k. length (text k) ≤ most k) 0 (length masters)
      (λ k _ lt. text_short k (omega (arith, lt)))) in
      let sums : sum_by most numbers ≡ length masters * 65066 + sum_by boxes_of_master masters * 51 =
      sum_numbers (λ m. 65066 + boxes_of_master m * 51) no_master masters
      ∙ sum_of_parts boxes_of_master 65066 51 masters in
      let joined : flat_map (λ part. part) (texts_of (unit_of tech) drawings) ≡ flat_map text numbers =
      flat_map-map (λ part. part) text (range_with_len 0 (length drawings))
      ∙ ap (λ n. flat_map text (range_with_len 0 n)) (drawings_counted masters layouts h.fit.counted) in
      omega (arith, all, sums, ap length joined)

  pub layouts_text_short : length (text_of_layouts tech plan masters layouts) ≤ 2 ^ 26
  layouts_text_short =
      let unit : ℤ = unit_of tech in
      let drawings : List Drawing = drawings_in masters layouts in
      let calls : List Call = calls_of (size_in X layouts) (size_in Y layouts) (widest_of tech) (grids_of plan) in
      let called : length calls ≡ length (spots_of (grids_of plan)) =
      length-map (spots_of (grids_of plan))
      (call_at (size_in X layouts) (size_in Y layouts) (widest_of tech) (grids_of plan)) in
      let counted = drawings_counted masters layouts h.fit.counted in
      let most = few_masters in
      let last : length (calls_text unit calls) ≤ length calls * 33 + 2 =
      calls_short unit (length drawings) calls (omega (arith, counted, most))
      (recursion_from_All (IsWritableCall unit (length drawings)) calls writable.called) in
      let parts : text_of_layouts tech plan masters layouts ≡ flat_map (λ part. part) (texts_of unit drawings)
      ++ calls_text unit calls =
      flat_map-append (λ part. part) (texts_of unit drawings) (calls_text unit calls ∷ [])
      ∙ ap (λ t. flat_map (λ part. part) (texts_of unit drawings) ++ t) (append-nil (calls_text unit calls)) in
      let all = after (flat_map (λ part. part) (texts_of unit drawings)) (calls_text unit calls) _ _ symbols_short
      last in
      let boxes = few.boxes in
      let instances = few.instances in
      omega (arith, ap length parts, all, called, spots_counted (grids_of plan), most, boxes, instances)
