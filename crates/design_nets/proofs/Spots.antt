-- Instances one by one: that they stand at the spots of the grids, no two at one, and which number each has.
use Rattle.std.proofs.Common.{◌≡◌, ℕ, ◌+◌, ◌<◌, List, [], ◌∷◌, ◌++◌, length, map, get_or, Option, Some, refl, sym, ap}
use Rattle.std.proofs.{Common.{◌∙◌, subst, arith, zero-add}, lemmas.List.{length-map, FromFn.length-map-range_with_len}}
use Rattle.std.proofs.lemmas.{List.FromFn.get_or-map-range_with_len, Option.{slice_get_within, slice_get-get_or}}
use Rattle.std.proofs.lemmas.{Option.{slice_get-map, get_or_from_slice_get}, Simd.map-map}
use Rattle.std.specs.{Prelude.{slice_get, option_map}, List.{flat_map, range_with_len}}
use Rattle.plan_model.specs.Instances.{InstancePlace, IsInstancePlace, spot, grid_at, master_at_spot, spots_in_row}
use Rattle.plan_model.specs.{Instances.{spots_in_grid, spots_of}, Rows.row_at}
use Rattle.design_nets.specs.{declared.instances.Instance.Instance, Firsts.together, Instances.instance_at}
use Rattle.design_nets.specs.Instances.{instances_of, spot_of, no_instance, instance_no, spot_no, master_no}
use Rattle.design_nets.specs.Instances.{instances_in_row_at, instances_in_grid}
use Rattle.design_nets.proofs.Lists.{together_get, together_split}
use Rattle.instance_laws.proofs.PictureLists.{image_of_pieces}

flat_like : {X Y : Type 0} (f g : X → List Y) → ((x : X) → f x ≡ g x) → (xs : List X) → flat_map f xs ≡ flat_map g xs
flat_like f g same [] = refl
flat_like f g same (x ∷ xs) = ap (λ z. z ++ flat_map f xs) (same x) ∙ ap (λ z. g x ++ z) (flat_like f g same xs)

-- those of a row, and of a grid
row_stands : (grids : List (List (List ℕ))) (g r : ℕ)
    → map (instance_at grids) (spots_in_row g (grid_at grids g) r) ≡ instances_in_row_at g (grid_at grids g) r
row_stands grids g r = map-map (instance_at grids) (spot g r) (range_with_len 0 (length (row_at (grid_at grids g) r)))

grid_stands : (grids : List (List (List ℕ))) (g : ℕ)
    → map (instance_at grids) (spots_in_grid grids g) ≡ instances_in_grid g (grid_at grids g)
grid_stands grids g =
    let rows : List (List ℕ) = grid_at grids g in
    image_of_pieces (instance_at grids) (spots_in_row g rows) (range_with_len 0 (length rows))
    ∙ flat_like (λ r. map (instance_at grids) (spots_in_row g rows r)) (instances_in_row_at g rows)
    (row_stands grids g) (range_with_len 0 (length rows))

-- all of them, grid by grid
pub instances_by_grid : (grids : List (List (List ℕ)))
    → instances_of grids ≡ flat_map (λ g. instances_in_grid g (grid_at grids g)) (range_with_len 0 (length grids))
instances_by_grid grids =
    image_of_pieces (instance_at grids) (spots_in_grid grids) (range_with_len 0 (length grids))
    ∙ flat_like (λ g. map (instance_at grids) (spots_in_grid grids g)) (λ g. instances_in_grid g (grid_at grids g))
    (grid_stands grids) (range_with_len 0 (length grids))

-- ---- by number

module _ (grids : List (List (List ℕ))) where
  -- the number of a spot
  abbrev pub number_of_spot : InstancePlace → ℕ
  number_of_spot p = length (together (spots_in_grid grids) p.grid) +
      (length (together (spots_in_row p.grid (grid_at grids p.grid)) p.row) + p.col)

  pub spot_there : (p : InstancePlace) → IsInstancePlace grids p
      → slice_get (spots_of grids) (number_of_spot p) ≡ Some p
  spot_there p is =
      let rows : List (List ℕ) = grid_at grids p.grid in
      let row : List ℕ = row_at rows p.row in
      let in_row : slice_get (spots_in_row p.grid rows p.row) p.col ≡ Some p =
      slice_get-get_or (spots_in_row p.grid rows p.row) p.col p
      (omega (arith, is.col, length-map-range_with_len (spot p.grid p.row) 0 (length row)))
      ∙ ap Some (get_or-map-range_with_len (spot p.grid p.row) 0 (length row) p.col p.col p is.col (zero-add p.col)) in
      together_get (spots_in_grid grids) (length grids) p.grid
      (length (together (spots_in_row p.grid rows) p.row) + p.col) p is.grid
      (together_get (spots_in_row p.grid rows) (length rows) p.row p.col p is.row in_row)

  pub record StandsAt (s : ℕ) (p : InstancePlace) : Type 0 where
    pub spot : IsInstancePlace grids p
    pub number : s ≡ number_of_spot p

  pub spot_back : (s : ℕ) (p : InstancePlace) → slice_get (spots_of grids) s ≡ Some p → StandsAt s p
  spot_back s p h =
      let of_grid = together_split (spots_in_grid grids) (length grids) s (slice_get_within (spots_of grids) s p h) in
      let g : ℕ = of_grid.i in
      let rows : List (List ℕ) = grid_at grids g in
      let of_row = together_split (spots_in_row g rows) (length rows) of_grid.j of_grid.element in
      let r : ℕ = of_row.i in
      let c : ℕ = of_row.j in
      let col : c < length (row_at rows r) =
      (let lt = of_row.element in
      omega (arith, lt, length-map-range_with_len (spot g r) 0 (length (row_at rows r)))) in
      let q : InstancePlace = spot g r c in
      let is : IsInstancePlace grids q = record { grid = of_grid.list; row = of_row.list; col = col } in
      let e : s ≡ number_of_spot q = of_grid.is
      ∙ ap (λ (k : ℕ). length (together (spots_in_grid grids) g) + k) of_row.is in
      let both : Some p ≡ Some q = sym h ∙ (ap (slice_get (spots_of grids)) e ∙ spot_there q is) in
      let same : q ≡ p = cc in
      subst (StandsAt s) same (record { spot = is; number = e })

  -- ---- instances

  pub instance_get : (s : ℕ) (p : InstancePlace) → slice_get (spots_of grids) s ≡ Some p
      → slice_get (instances_of grids) s ≡ Some (instance_at grids p)
  instance_get s p h = slice_get-map (instance_at grids) (spots_of grids) s
      ∙ ap (λ (o : Option InstancePlace). option_map (instance_at grids) o) h

  pub record IsInstance (instances : List Instance) (s : ℕ) : Type 0 where
    pub there : slice_get (spots_of grids) s ≡ Some (spot_no instances s)
    pub spot : IsInstancePlace grids (spot_no instances s)
    pub number : s ≡ number_of_spot (spot_no instances s)
    pub master : master_no instances s ≡ master_at_spot grids (spot_no instances s)

  pub instance_stands : (instances : List Instance) (s : ℕ) → instances ≡ instances_of grids → s < length instances
      → IsInstance instances s
  instance_stands instances s e lt =
      let spots : List InstancePlace = spots_of grids in
      let none : InstancePlace = spot 0 0 0 in
      let counted = ap (λ (is : List Instance). length is) e ∙ length-map spots (instance_at grids) in
      let p : InstancePlace = get_or spots s none in
      let there : slice_get spots s ≡ Some p = slice_get-get_or spots s none (omega (arith, lt, counted)) in
      let here : instance_no instances s ≡ instance_at grids p =
      ap (λ (is : List Instance). get_or is s no_instance) e
      ∙ get_or_from_slice_get (instances_of grids) s (instance_at grids p) no_instance (instance_get s p there) in
      let same : spot_no instances s ≡ p = ap spot_of here in
      let at = spot_back s p there in
      record {
        there = there ∙ ap Some (sym same);
        spot = subst (IsInstancePlace grids) (sym same) at.spot;
        number = at.number ∙ ap number_of_spot (sym same);
        master = ap (λ (i : Instance). i.master) here ∙ ap (master_at_spot grids) (sym same);
      }

  pub instance_at_spot : (instances : List Instance) (s : ℕ) (p : InstancePlace) → instances ≡ instances_of grids
      → slice_get (spots_of grids) s ≡ Some p → (s < length instances) × (spot_no instances s ≡ p)
  instance_at_spot instances s p e h =
      let there = subst (λ (is : List Instance). slice_get is s ≡ Some (instance_at grids p)) (sym e)
      (instance_get s p h) in (
        slice_get_within instances s (instance_at grids p) there,
        ap spot_of
            (get_or_from_slice_get instances s (instance_at grids p) no_instance there),
      )
