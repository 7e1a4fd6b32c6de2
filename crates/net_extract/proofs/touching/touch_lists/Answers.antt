use Rattle.std.proofs.Common.{arith, ◌≡◌, ℕ, length, subst}
use Rattle.lam_geom.specs.declared.boxes.MaskLayer.TheVariants.{NP, NM}
use Rattle.net_extract.specs.declared.lists.Kind.TheVariants.{Touching}
use Rattle.net_extract.specs.{Grounds.placed_on, Linking.IsTouch, Lists.AreLists}
use Rattle.net_extract.proofs.touching.touch_lists.Goals as goal

pub put_touching-requires-clause-lists : goal.put_touching-requires-clause-lists
put_touching-requires-clause-lists g c = λ κs le.
    let boxes = c.args.ground.now.boxes.now in
    let pieces = placed_on c.args.ground.now in
    let L : ℕ → Type 0 = λ count. AreLists (IsTouch boxes pieces) count c.in_ok-lists.lists in
    let count : c.len.result ≡ length pieces = omega (arith, c.len.ensures, c.args.ground.now.pieces.now.placed.ok.0) in
    subst L count (c.in_ok-lists.ensures Touching boxes pieces)

pub put_touching-requires-2-clause-parts : goal.put_touching-requires-2-clause-parts
put_touching-requires-2-clause-parts g c = λ κs le.
    (NP, record { stands = c.requires.trees.poly.new.parts; shows = c.requires.trees.poly.shows })

pub put_touching-requires-3-clause-parts : goal.put_touching-requires-3-clause-parts
put_touching-requires-3-clause-parts g c = λ κs le.
    (NM, record { stands = c.requires.trees.metal.new.parts; shows = c.requires.trees.metal.shows })
