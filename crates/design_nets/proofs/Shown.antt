-- The boxes of all instances, one by one, show the items that they are said to show.
use Rattle.std.proofs.Common.{◌≡◌, ℕ, zero, suc, ◌+◌, ◌<◌, ◌≤◌, List, ◌∷◌, length, map, get_or, Option, Some, refl, sym}
use Rattle.std.proofs.{Common.{ap, ◌∙◌, arith}, lemmas.{List.{length-map, Folds.flat_map-map}, Option.slice_get-map}}
use Rattle.std.proofs.lemmas.{Option.get_or_from_slice_get, Simd.map-map}
use Rattle.std.specs.{Prelude.{slice_get, slice_index, flat_map, option_map}, List.range_with_len}
use Rattle.sym_items.specs.declared.items.Item.{Item}
use Rattle.expand.specs.declared.master.Master.{Master}
use Rattle.plan_model.specs.{declared.plan.Plan.Plan, Instances.{InstancePlace, spot, spots_of}, Plan.grids_of}
use Rattle.pitch_join.specs.Masters.{master_at}
use Rattle.instance_laws.specs.{Rules.items_at, Conductors.InstanceItem, Meetings.at, Shapes.{drawn_items, shapes_at}}
use Rattle.instance_laws.{specs.Shapes.{shapes_of, Shows}, proofs.PictureLists.{image_of_pieces, by_numbers}}
use Rattle.design_nets.specs.{declared.{instances.Instance.Instance, shapes.Shape.Shape}, Firsts.together}
use Rattle.design_nets.specs.{Instances.{instance_at, instances_of, spot_no, master_no}, Shapes.{shape, drawn_by}}
use Rattle.design_nets.specs.Shapes.{drawn_in, shapes_in, AreShapesOf}
use Rattle.design_nets.proofs.{Lists.{together_get, together_same}, Spots.instance_stands}

module _ (plan : Plan) (masters : List Master) (instances : List Instance)
    (are : instances ≡ instances_of (grids_of plan)) where
  -- the items of an instance are those of its master
  pub own_items : (s : ℕ) → s < length instances
      → items_at plan masters (spot_no instances s) ≡ (master_at masters (master_no instances s)).items.list
  own_items s lt = ap (λ (m : ℕ). (master_at masters m).items.list)
      (sym (instance_stands (grids_of plan) instances s are lt).master)

  shapes_there : (s : ℕ) → s < length instances
      → map (drawn_by instances) (shapes_in masters instances s) ≡ shapes_at plan masters (spot_no instances s)
  shapes_there s lt =
      map-map (drawn_by instances) (shape s) (drawn_in (master_at masters (master_no instances s)))
      ∙ ap (λ (items : List Item). map (at (spot_no instances s)) (drawn_items items)) (sym (own_items s lt))

  -- the spots of the instances, by number
  spots_by_number : map (spot_no instances) (range_with_len 0 (length instances)) ≡ spots_of (grids_of plan)
  spots_by_number =
      let spots : List InstancePlace = spots_of (grids_of plan) in
      let none : InstancePlace = spot 0 0 0 in
      let counted : length instances ≡ length spots = ap (λ (is : List Instance). length is) are
      ∙ length-map spots (instance_at (grids_of plan)) in
      map_same (spot_no instances) (λ s. get_or spots s none) (length instances)
      (λ s lt.
      sym (get_or_from_slice_get spots s (spot_no instances s) none
      (instance_stands (grids_of plan) instances s are lt).there))
      ∙ (ap (λ (n : ℕ). map (λ s. get_or spots s none) (range_with_len 0 n)) counted ∙ by_numbers spots none)
    where
      map_from : (f g : ℕ → InstancePlace) (a n : ℕ) → ((k : ℕ) → a ≤ k → k < a + n → f k ≡ g k)
          → map f (range_with_len a n) ≡ map g (range_with_len a n)
      map_from f g a zero h = refl
      map_from f g a (suc n) h =
          ap (λ (p : InstancePlace). p ∷ map f (range_with_len (a + 1) n)) (h a (omega arith) (omega arith))
          ∙ ap (λ (ps : List InstancePlace). g a ∷ ps)
          (map_from f g (a + 1) n (λ k low high. h k (omega (arith, low)) (omega (arith, high))))

      map_same : (f g : ℕ → InstancePlace) (n : ℕ) → ((k : ℕ) → k < n → f k ≡ g k)
          → map f (range_with_len 0 n) ≡ map g (range_with_len 0 n)
      map_same f g n h = map_from f g 0 n (λ k low high. h k (omega (arith, high)))

  -- all shapes, as items
  pub all_shown : map (drawn_by instances) (together (shapes_in masters instances) (length instances))
      ≡ shapes_of plan masters
  all_shown =
      let numbers : List ℕ = range_with_len 0 (length instances) in
      image_of_pieces (drawn_by instances) (shapes_in masters instances) numbers
      ∙ (together_same (λ s. map (drawn_by instances) (shapes_in masters instances s))
      (λ s. shapes_at plan masters (spot_no instances s)) (length instances) shapes_there
      ∙ (sym (flat_map-map (shapes_at plan masters) (spot_no instances) numbers)
      ∙ ap (flat_map (shapes_at plan masters)) spots_by_number))

  module _ (shapes : List Shape) (firsts : List ℕ) (made : AreShapesOf masters instances shapes firsts) where
    pub shapes_shown : map (drawn_by instances) shapes ≡ shapes_of plan masters
    shapes_shown = ap (map (drawn_by instances)) made.all ∙ all_shown

    pub shapes_counted : length shapes ≡ length (shapes_of plan masters)
    shapes_counted = sym (length-map shapes (drawn_by instances))
        ∙ ap (λ (ds : List InstanceItem). length ds) shapes_shown

    -- a box shows what its shape says
    pub shape_shows : (k : ℕ) (one : Shape) → slice_get shapes k ≡ Some one
        → Shows plan masters k (drawn_by instances one)
    shape_shows k one h = ap (λ (ds : List InstanceItem). slice_get ds k) (sym shapes_shown)
        ∙ (slice_get-map (drawn_by instances) shapes k
        ∙ ap (λ (o : Option Shape). option_map (drawn_by instances) o) h)

    -- the item in this position among those of an instance that are boxes is shown by this box
    pub item_shows : (s j n : ℕ) → s < length instances
        → slice_get (drawn_in (master_at masters (master_no instances s))) j ≡ Some n
        → Shows plan masters (slice_index firsts s + j) (at (spot_no instances s) n)
    item_shows s j n lt h =
        let there : slice_get (shapes_in masters instances s) j ≡ Some (shape s n) =
        slice_get-map (shape s) (drawn_in (master_at masters (master_no instances s))) j
        ∙ ap (λ (o : Option ℕ). option_map (shape s) o) h in
        let begins = made.begins.each s (omega (arith, lt)) in
        let e : length (together (shapes_in masters instances) s) + j ≡ slice_index firsts s + j =
        omega (arith, begins) in
        let in_all : slice_get shapes (slice_index firsts s + j) ≡ Some (shape s n) =
        ap (λ (xs : List Shape). slice_get xs (slice_index firsts s + j)) made.all
        ∙ (ap (slice_get (together (shapes_in masters instances) (length instances))) (sym e)
        ∙ together_get (shapes_in masters instances) (length instances) s j (shape s n) lt there) in
        shape_shows (slice_index firsts s + j) (shape s n) in_all
