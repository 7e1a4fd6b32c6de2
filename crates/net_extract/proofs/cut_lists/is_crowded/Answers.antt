use Rattle.std.proofs.Common.{◌≡◌, Bool, true, false, Option, Some, None, List, [], get_or, ap, subst, sym}
use Rattle.std.proofs.{Common.{◌∙◌, rules, refl}, lemmas.List.get_or_default}
use Rattle.std.specs.{Option.MatchOption, Prelude.{is_some, not}}
use denote.Enum.Bare.{same_true}
use Rattle.lam_geom.specs.contracts.boxes.MaskLayer.{the_type}
use Rattle.box_tree.specs.declared.entries.Entry.{Entry}
use Rattle.lam_geom.specs.declared.boxes.{BoxXY.BoxXY, MaskBox.MaskBox, MaskLayer.TheVariants.NC}
use Rattle.lam_geom.specs.Places.{IsPlacedBox}
use Rattle.crossing_model.specs.Boxes.{IsOn, area_at, no_box}
use Rattle.net_extract.specs.{Grounds.placed_on, Nearby.{AreFound, AreOfTwo, IsInSome, conducting}}
use Rattle.net_extract.proofs.{Owning.{all_trees, joins_two, two_joins}, Shown.over_query}
use Rattle.net_extract.proofs.cut_lists.is_crowded.Goals as goal

-- where there is none, what is said of none holds
none_told : {X : Type 0} (o : Option X) (P : Type 0) (Q : X → Type 0) → MatchOption o P Q → false ≡ is_some o → P
none_told None P Q told none = told
none_told (Some x) P Q told none = absurd (cc)

not_told : (b : Bool) → not b ≡ false → b ≡ true
not_told true e = refl
not_told false e = absurd (cc)

pub find_near-requires : goal.find_near-requires
find_near-requires c =
    let boxes = c.args.ground.now.boxes.now in
    let k = c.args.k in
    let P : MaskBox → Type 0 = λ m. IsPlacedBox m.area in
    record {
      trees = all_trees boxes (placed_on c.args.ground.now) conducting c.args.facing.now c.requires.facing;
      near = subst P (sym (get_or_default boxes k c.index-ground-k.result no_box c.requires.in_range))
          (c.requires.ground.searchable.placed k no_box c.requires.in_range);
    }

pub returns : goal.returns
returns c =
    let boxes = c.args.ground.now.boxes.now in
    let pieces = placed_on c.args.ground.now in
    let facing = c.args.facing.now in
    let k = c.args.k in
    let all = c.in_ok-find_near.field-0 in
    let found = c.find_near.new.found.items in
    let own : MaskBox = get_or boxes k c.index-ground-k.result in
    let read = get_or_default boxes k c.index-ground-k.result no_box c.requires.in_range in
    let A : BoxXY → Type 0 = λ area. AreFound (IsInSome facing) (over_query area k) all [] found in
    let N : List Entry → Type 0 = λ xs. AreFound (IsInSome facing) (over_query own.area k) all xs found in
    let on : IsOn boxes NC k = record {
      among = c.requires.in_range;
      on = ap (λ (m : MaskBox). m.layer) (sym read)
          ∙ same_true the_type (search rules) own.layer NC (not_told _ (sym c.ne.ensures ∙ c.if-ne.false));
    } in
    let f : AreFound (IsInSome facing) (over_query (area_at boxes k) k) all [] found =
    subst A (ap (λ (m : MaskBox). m.area) read)
    (subst N c.new-found.ensures.items c.in_ok-find_near.ensures) in
    let Two : List Entry → Type 0 = AreOfTwo in
    let none = none_told c.list_of.result _ _ c.list_of.ensures c.if-is_some.ensures in (
      λ t. (
        two_joins boxes pieces facing k all found c.requires.facing on f
            (subst Two c.deref.ensures.value (c.is_of_two.ensures.0 t)),
        none,
      ),
      λ h. c.is_of_two.ensures.1
          (subst Two (sym c.deref.ensures.value)
          (joins_two boxes c.args.ground.now.pieces.now.crossings.items pieces
          c.args.ground.now.pieces.now.starts.items facing k all found c.requires.ground.pieces c.requires.facing f h.0)),
    )
