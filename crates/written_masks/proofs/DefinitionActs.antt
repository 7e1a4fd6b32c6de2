-- What the commands of a symbol's boxes make of a definition that has begun.
use Rattle.std.proofs.Common.{◌≡◌, ℤ, pos, ◌+ℤ◌, ◌-ℤ◌, ◌*ℤ◌, ◌≤ℤ◌, ◌<ℤ◌, int_lt, int_eq, Bool, false, not, ◌||◌, cond}
use Rattle.std.proofs.Common.{Option, Some, None, Result, Ok, Err, List, [], ◌∷◌, ◌++◌, map, flat_map, fold, refl, sym}
use Rattle.std.proofs.{Common.{ap, ◌∙◌, append_assoc, append-nil, arith}, lemmas.{Int.ints, List.map-append}}
use Rattle.std.{proofs.lemmas.List.{map_push, Sums.fold-append}, specs.List.AllByRecursion}
use Rattle.lam_geom.specs.declared.boxes.MaskLayer.{MaskLayer}
use Rattle.mask_out.specs.Masks.{Mask}
use Rattle.cif_lex.specs.{declared.command.Command.{Command, TheVariants.{Layer, Area}}, Commands.is_far, Shifts.is_odd}
use Rattle.cif_read.specs.declared.{fault.CifKind.{CifKind, TheVariants.OddScale}, dialect.Dialect.TheVariants.Plain}
use Rattle.cif_read.specs.{Hierarchies.{Drawn, Symbol, Step, own}, Acts.{Named, State, Level, empty, drawn_on}}
use Rattle.cif_read.specs.{Acts.{is_bad_length, is_bad_area, scaled, is_odd_area, drawn_box, act}, Meaning.then_act}
use Rattle.written_masks.specs.TextMeanings.{IsNumber, IsUnit, IsWritableMask, drawn_mask}
use Rattle.written_masks.proofs.{Numbers.{over_one, left_by_one, not_below, lower, upper}, Spelled.not_far}
use Rattle.written_masks.proofs.Commands.{box_command, layer_commands, on_layer, layers_commands}

-- ---- commands one after another, from a state

abbrev pub going : State → List Command → Result State CifKind
going state commands = fold then_act (Ok state) commands

pub then_goes : (s t : State) (c : Command) (commands : List Command) (r : Result State CifKind)
    → act Plain s c ≡ Ok t → going t commands ≡ r → going s (c ∷ commands) ≡ r
then_goes s t c commands r e h = ap (λ (x : Result State CifKind). fold then_act x commands) e ∙ h

pub goes_on : (s t : State) (a b : List Command) (r : Result State CifKind) → going s a ≡ Ok t → going t b ≡ r
    → going s (a ++ b) ≡ r
goes_on s t a b r e h = fold-append then_act (Ok s) a b ∙ (ap (λ (x : Result State CifKind). fold then_act x b) e ∙ h)

pub if_not : {A : Type 0} (b : Bool) (x y : A) → b ≡ false → cond b x y ≡ y
if_not b x y e = ap (λ c. cond c x y) e

pub not_odd : (s : State) (odd : Bool) (answer : Result Level CifKind) → odd ≡ false
    → drawn_on s (cond odd (Err OddScale) answer) ≡ drawn_on s answer
not_odd s odd answer e = ap (λ b. drawn_on s (cond b (Err OddScale) answer)) e

-- ---- states

-- nothing has been drawn outside of symbols but such steps
abbrev pub outside : List Symbol → List Step → State
outside symbols steps =
    record {
      symbols = symbols;
      level = record { above = pos 1; below = pos 1; layer = None; steps = steps };
      begun = None;
    }

-- in the definition of a symbol
abbrev pub inside : List Symbol → ℤ → ℤ → Option Named → List Drawn → State
inside symbols number half layer boxes =
    record {
      symbols = symbols;
      level = record { above = half; below = pos 1; layer = layer; steps = map own boxes };
      begun = Some (record { number = number; top = empty (pos 1) (pos 1) });
    }

-- ---- a box

pub none_of_four : (a b c d : Bool) → a ≡ false → b ≡ false → c ≡ false → d ≡ false → (a || b || c || d) ≡ false
none_of_four a b c d p q r s = rw (p, q, r, s)

pub none_of_two : (a b : Bool) → a ≡ false → b ≡ false → (a || b) ≡ false
none_of_two a b p q = rw (p, q)

fine_length : (a b : ℤ) → a <ℤ b → IsNumber (pos 2 *ℤ (b -ℤ a)) → is_bad_length (pos 2 *ℤ (b -ℤ a)) ≡ false
fine_length a b lt is =
    let some : pos 1 ≤ℤ (pos 2 *ℤ (b -ℤ a)) = omega (arith, ints, lt) in
    none_of_two (int_lt (pos 2 *ℤ (b -ℤ a)) (pos 1)) (is_far (pos 2 *ℤ (b -ℤ a)))
    (not_below (pos 2 *ℤ (b -ℤ a)) (pos 1) some) (not_far (pos 2 *ℤ (b -ℤ a)) is)

pub never_odd : (half z : ℤ) → is_odd half (pos 1) z ≡ false
never_odd half z = ap (λ (r : ℤ). not (int_eq r (pos 0))) (left_by_one (z *ℤ half))

no_area_odd : (half l w x y : ℤ) → is_odd_area half (pos 1) l w x y ≡ false
no_area_odd half l w x y =
    none_of_four (is_odd half (pos 1) l) (is_odd half (pos 1) w) (is_odd half (pos 1) x) (is_odd half (pos 1) y)
    (never_odd half l) (never_odd half w) (never_odd half x) (never_odd half y)

same_drawn : (layer other : MaskLayer) (a b c d e f g h : ℤ) → other ≡ layer → a ≡ e → b ≡ f → c ≡ g → d ≡ h
    → (let x : Drawn = record { layer = layer; left = a; right = b; bottom = c; top = d } in x)
    ≡ (record { layer = other; left = e; right = f; bottom = g; top = h })
same_drawn layer other a b c d e f g h o p q r s = cc

-- a box in grains, by its centre and extents in halves of u
scaled_box : (unit : ℤ) (is : IsUnit unit) (layer : MaskLayer) (m : Mask) → m.layer ≡ layer
    → drawn_box layer ((pos 2 *ℤ (m.sides.right -ℤ m.sides.left)) *ℤ is.half)
    ((pos 2 *ℤ (m.sides.top -ℤ m.sides.bottom)) *ℤ is.half) ((m.sides.left +ℤ m.sides.right) *ℤ is.half)
    ((m.sides.bottom +ℤ m.sides.top) *ℤ is.half)
    ≡ drawn_mask unit m
scaled_box unit is layer m same =
    same_drawn layer m.layer _ _ _ _ _ _ _ _ same (lower m.sides.left m.sides.right is.half unit is.even)
    (upper m.sides.left m.sides.right is.half unit is.even)
    (lower m.sides.bottom m.sides.top is.half unit is.even) (upper m.sides.bottom m.sides.top is.half unit is.even)

abbrev with_box : List Symbol → ℤ → ℤ → MaskLayer → List Drawn → Drawn → Result State CifKind
with_box symbols number half layer boxes box = Ok (inside symbols number half (Some (Some layer)) (boxes ++ (box ∷ [])))

area_acts : (symbols : List Symbol) (number half : ℤ) (layer : MaskLayer) (boxes : List Drawn) (l w x y : ℤ)
    → is_bad_area l w x y ≡ false
    → act Plain (inside symbols number half (Some (Some layer)) boxes) (Area l w x y)
    ≡ with_box symbols number half layer boxes (drawn_box layer (l *ℤ half) (w *ℤ half) (x *ℤ half) (y *ℤ half))
unfolding act
area_acts symbols number half layer boxes l w x y fine =
    let state : State = inside symbols number half (Some (Some layer)) boxes in
    let level = λ (steps : List Step). let d : Level =
    record { above = half; below = pos 1; layer = Some (Some layer); steps = steps } in d in
    let drawn = λ (a b c d : ℤ). let r : Result State CifKind =
    drawn_on state (Ok (level (map own boxes ++ own (drawn_box layer a b c d) ∷ []))) in r in
    let box = drawn_box layer (l *ℤ half) (w *ℤ half) (x *ℤ half) (y *ℤ half) in
    if_not (is_bad_area l w x y) _ _ fine
    ∙ (not_odd state (is_odd_area half (pos 1) l w x y) _ (no_area_odd half l w x y)
    ∙ (ap (λ (n : ℤ). drawn n (scaled half (pos 1) w) (scaled half (pos 1) x) (scaled half (pos 1) y))
    (over_one (l *ℤ half))
    ∙ (ap (λ (n : ℤ). drawn (l *ℤ half) n (scaled half (pos 1) x) (scaled half (pos 1) y)) (over_one (w *ℤ half))
    ∙ (ap (λ (n : ℤ). drawn (l *ℤ half) (w *ℤ half) n (scaled half (pos 1) y)) (over_one (x *ℤ half))
    ∙ (ap (λ (n : ℤ). drawn (l *ℤ half) (w *ℤ half) (x *ℤ half) n) (over_one (y *ℤ half))
    ∙ ap (λ (steps : List Step). drawn_on state (Ok (level steps))) (sym (map_push own boxes box)))))))

fine_area : (m : Mask) → IsWritableMask m
    → is_bad_area (pos 2 *ℤ (m.sides.right -ℤ m.sides.left)) (pos 2 *ℤ (m.sides.top -ℤ m.sides.bottom))
    (m.sides.left +ℤ m.sides.right) (m.sides.bottom +ℤ m.sides.top) ≡ false
fine_area m is =
    none_of_four _ _ _ _ (fine_length m.sides.left m.sides.right is.wide is.width)
    (fine_length m.sides.bottom m.sides.top is.high is.height) (not_far (m.sides.left +ℤ m.sides.right) is.x)
    (not_far (m.sides.bottom +ℤ m.sides.top) is.y)

box_acts : (unit : ℤ) (is : IsUnit unit) (symbols : List Symbol) (number : ℤ) (layer : MaskLayer) (boxes : List Drawn)
    (m : Mask) → IsWritableMask m → m.layer ≡ layer
    → act Plain (inside symbols number is.half (Some (Some layer)) boxes) (box_command m)
    ≡ with_box symbols number is.half layer boxes (drawn_mask unit m)
box_acts unit is symbols number layer boxes m writable same =
    area_acts symbols number is.half layer boxes _ _ _ _ (fine_area m writable)
    ∙ ap (with_box symbols number is.half layer boxes) (scaled_box unit is layer m same)

-- ---- the boxes of a layer, and of all layers

-- a mask that can be written, on this layer
pub record IsMaskOn (layer : MaskLayer) (m : Mask) : Type 0 where
  pub writable : IsWritableMask m
  pub same : m.layer ≡ layer

boxes_act : (unit : ℤ) (is : IsUnit unit) (symbols : List Symbol) (number : ℤ) (layer : MaskLayer) (masks : List Mask)
    (boxes : List Drawn) → AllByRecursion (IsMaskOn layer) masks
    → going (inside symbols number is.half (Some (Some layer)) boxes) (map box_command masks)
    ≡ Ok (inside symbols number is.half (Some (Some layer)) (boxes ++ map (drawn_mask unit) masks))
boxes_act unit is symbols number layer [] boxes h =
    ap (λ (b : List Drawn). Ok (inside symbols number is.half (Some (Some layer)) b)) (sym (append-nil boxes))
boxes_act unit is symbols number layer (m ∷ masks) boxes h =
    then_goes (inside symbols number is.half (Some (Some layer)) boxes)
    (inside symbols number is.half (Some (Some layer)) (boxes ++ (drawn_mask unit m ∷ []))) (box_command m)
    (map box_command masks) _
    (box_acts unit is symbols number layer boxes m h.0.writable h.0.same)
    (boxes_act unit is symbols number layer masks (boxes ++ (drawn_mask unit m ∷ [])) h.1
    ∙ ap (λ (b : List Drawn). Ok (inside symbols number is.half (Some (Some layer)) b))
    (append_assoc boxes (drawn_mask unit m ∷ []) (map (drawn_mask unit) masks)))

-- commands add boxes to a definition, and leave some layer named
pub record AddBoxes (symbols : List Symbol) (number half : ℤ) (named : Option Named) (boxes : List Drawn)
    (commands : List Command) (added : List Drawn) : Type 0 where
  pub named_after : Option Named
  pub goes : going (inside symbols number half named boxes) commands
      ≡ Ok (inside symbols number half named_after (boxes ++ added))

name_acts : (symbols : List Symbol) (number half : ℤ) (named : Option Named) (boxes : List Drawn) (layer : MaskLayer)
    → act Plain (inside symbols number half named boxes) (Layer (Some layer))
    ≡ Ok (inside symbols number half (Some (Some layer)) boxes)
unfolding act
name_acts symbols number half named boxes layer = refl

layer_adds : (unit : ℤ) (is : IsUnit unit) (symbols : List Symbol) (number : ℤ) (named : Option Named)
    (boxes : List Drawn) (layer : MaskLayer) (masks : List Mask) → AllByRecursion (IsMaskOn layer) masks
    → AddBoxes symbols number is.half named boxes (layer_commands layer masks) (map (drawn_mask unit) masks)
layer_adds unit is symbols number named boxes layer [] h =
    record {
      named_after = named;
      goes = ap (λ (b : List Drawn). Ok (inside symbols number is.half named b))
          (sym (append-nil boxes));
    }
layer_adds unit is symbols number named boxes layer (m ∷ masks) h = record {
  named_after = Some (Some layer);
  goes = then_goes (inside symbols number is.half named boxes)
      (inside symbols number is.half (Some (Some layer)) boxes) (Layer (Some layer)) (map box_command (m ∷ masks)) _
      (name_acts symbols number is.half named boxes layer)
      (boxes_act unit is symbols number layer (m ∷ masks) boxes h);
}

pub layers_add : (unit : ℤ) (is : IsUnit unit) (symbols : List Symbol) (number : ℤ) (masks : List Mask)
    (layers : List MaskLayer) (named : Option Named) (boxes : List Drawn)
    → ((layer : MaskLayer) → AllByRecursion (IsMaskOn layer) (on_layer masks layer))
    → AddBoxes symbols number is.half named boxes (layers_commands masks layers)
    (map (drawn_mask unit) (flat_map (on_layer masks) layers))
layers_add unit is symbols number masks [] named boxes h =
    record {
      named_after = named;
      goes = ap (λ (b : List Drawn). Ok (inside symbols number is.half named b))
          (sym (append-nil boxes));
    }
layers_add unit is symbols number masks (layer ∷ layers) named boxes h =
    let own : List Drawn = map (drawn_mask unit) (on_layer masks layer) in
    let others : List Mask = flat_map (on_layer masks) layers in
    let first = layer_adds unit is symbols number named boxes layer (on_layer masks layer) (h layer) in
    let rest = layers_add unit is symbols number masks layers first.named_after (boxes ++ own) h in
    record {
      named_after = rest.named_after;
      goes = goes_on (inside symbols number is.half named boxes)
          (inside symbols number is.half first.named_after (boxes ++ own))
          (layer_commands layer (on_layer masks layer)) (layers_commands masks layers) _ first.goes
          (rest.goes ∙ ap (λ (b : List Drawn). Ok (inside symbols number is.half rest.named_after b))
          (append_assoc boxes own (map (drawn_mask unit) others)
          ∙ ap (λ (b : List Drawn). boxes ++ b)
          (sym (map-append (drawn_mask unit) (on_layer masks layer) others))));
    }
