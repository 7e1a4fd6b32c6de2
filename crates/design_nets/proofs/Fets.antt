-- The transistor of which a box shows the diffusion: its instance, its poly and its channel.
use Rattle.std.proofs.{Common.{◌≡◌, ℕ, ◌<◌, List, length, refl, sym, ap, ◌∙◌, subst, arith}, lemmas.List.length-map}
use Rattle.std.{proofs.lemmas.List.get_or-map, specs.{Prelude.slice_index, List.All}}
use Rattle.sym_items.specs.declared.items.Item.{Item}
use Rattle.expand.specs.declared.master.Master.{Master}
use Rattle.pitch_join.specs.Masters.{master_at}
use Rattle.design_nets.specs.{declared.{instances.Instance.Instance, shapes.Shape.Shape}, Firsts.together}
use Rattle.design_nets.specs.{Instances.{no_instance, master_no}, Pieces.IsShapeOf, Shapes.{shape, drawn_in, shapes_in}}
use Rattle.design_nets.specs.Shapes.{no_shape, shape_no, AreShapesOf}
use Rattle.design_nets.proofs.{Lists.{together_split, together_read}, NodeItems.drawn_within}

-- ---- shapes are items of instances

-- where a shape stands among those of its instance
pub record IsAmong (masters : List Master) (instances : List Instance) (one : Shape) : Type 0 where
  pub instance : one.instance < length instances
  pub place : ℕ
  pub within : place < length (drawn_in (master_at masters (master_no instances one.instance)))
  pub item : slice_index (drawn_in (master_at masters (master_no instances one.instance))) place ≡ one.item

pub shape_among : (masters : List Master) (instances : List Instance) (shapes : List Shape) (firsts : List ℕ)
    → AreShapesOf masters instances shapes firsts → (k : ℕ) → k < length shapes
    → IsAmong masters instances (shape_no shapes k)
shape_among masters instances shapes firsts made k lt =
    let lists : ℕ → List Shape = shapes_in masters instances in
    let counted = ap (λ (xs : List Shape). length xs) made.all in
    let s = together_split lists (length instances) k (omega (arith, lt, counted)) in
    let drawn : List ℕ = drawn_in (master_at masters (master_no instances s.i)) in
    let element = s.element in
    let within : s.j < length drawn = omega (arith, element, length-map drawn (shape s.i)) in
    let here : shape_no shapes k ≡ shape s.i (slice_index drawn s.j) =
    ap (λ (xs : List Shape). shape_no xs k) made.all
    ∙ (ap (shape_no (together lists (length instances))) s.is
    ∙ (together_read lists (length instances) s.i s.j no_shape s.list s.element
    ∙ get_or-map (shape s.i) drawn s.j 0 no_shape within)) in
    let own : IsAmong masters instances (shape s.i (slice_index drawn s.j)) =
    record { instance = s.list; place = s.j; within = within; item = refl } in
    subst (IsAmong masters instances) (sym here) own

pub shape_of : (masters : List Master) (instances : List Instance) (shapes : List Shape) (firsts : List ℕ)
    → All (λ (i : Instance). i.master < length masters) instances → AreShapesOf masters instances shapes firsts
    → (k : ℕ) → k < length shapes → IsShapeOf masters instances (shape_no shapes k)
shape_of masters instances shapes firsts among made k lt =
    let a = shape_among masters instances shapes firsts made k lt in
    let one : Shape = shape_no shapes k in
    let m : ℕ = master_no instances one.instance in
    let drawn : List ℕ = drawn_in (master_at masters m) in
    let items : List Item = (master_at masters m).items.list in
    let within : slice_index drawn a.place < length items =
    drawn_within items items drawn refl refl a.place 0 a.within in
    record {
      instance = a.instance;
      master = among one.instance no_instance a.instance;
      item = subst (λ (n : ℕ). n < length items) a.item within;
    }
