-- What a reader keeps stays sound.
use Rattle.std.proofs.Common.{◌≡◌, ℕ, unsigned_abs, FitsSigned, of_z, to_z, w64, ◌+◌, ◌<◌, ◌≤◌, ◌^◌, max, ℤ, pos}
use Rattle.std.proofs.Common.{int_lt, ◌*ℤ◌, Result, Ok, Err, OnOk, nat_le, ◌&&◌, Bool, true, false, Option, Some, None}
use Rattle.std.proofs.Common.{IfSome, is_some, List, [], ◌∷◌, ◌++◌, All, map, fold, length, get_or, refl, sym, ap, ◌∙◌}
use Rattle.std.proofs.{Common.{subst, arith, nat_lt, ◌⊎◌, inl, inr}, lemmas.{Int.{ints, to_z-of_z}, List.map_push}}
use Rattle.std.proofs.lemmas.List.{length_push, length-map, get_or_append_left, get_or_at, get_or_default}
use Rattle.std.proofs.lemmas.List.{Elements.{All-push, All-weaker, recursion_from_All}, Sums.fold-append}
use Rattle.std.{proofs.lemmas.Bool.Decides.nat_tests, specs.{Ordering.nat_cmp, BTreeMap.{BTreeMap, Updates}}}
use Rattle.cif_lex.specs.declared.command.Command.{Command, TheVariants.{Nothing, Define, Finish, Layer, Area, Call}}
use Rattle.cif_lex.specs.declared.{command.Command.TheVariants.Extension, placement.Placement.Placement}
use Rattle.cif_lex.specs.{Commands.{IsBody, is_far}, Shifts.is_odd}
use Rattle.cif_read.specs.declared.fault.{CifKind.CifKind, Stop.{Stop, TheVariants.{Refused, OutOfMemory}}}
use Rattle.cif_read.specs.declared.file.{ForeignSymbol.ForeignSymbol, ForeignStep.{ForeignStep, TheVariants.Own}}
use Rattle.cif_read.specs.declared.{file.ForeignStep.TheVariants.Called, state.{Drawing.Drawing, Begun.Begun}}
use Rattle.cif_read.specs.{declared.{state.Reading.Reading, dialect.Dialect.Dialect}, Readers.IsCauseOfStop}
use Rattle.cif_read.specs.{Scales.IsScale, Readings.{HasPlaces, begun_of, definition_of, symbols_of, state_of}}
use Rattle.cif_read.specs.Readings.{level_from, called_depth, HasTurn, IsSoundLevel, AreSoundSymbols, IsSound}
use Rattle.cif_read.specs.{Files.IsWithin, Acts.{Named, is_bad_symbol, is_bad_factor, is_bad_call, is_odd_area, scaled}}
use Rattle.cif_read.specs.Acts.{drawn_box, State, Level, empty, is_known, place_of, boxed, scaled_place, called_on}
use Rattle.cif_read.specs.{Acts.{is_too_deep, drawn_on, defined, call, is_barred}, Hierarchies.{Step, Symbol, own}}
use Rattle.cif_read.specs.{Hierarchies.{called, depth_of_step, depth_of_steps, depths_of}, Foreign.foreign_step}
use Rattle.cif_read.specs.Foreign.{foreign_symbol, no_foreign_symbol, IsForeignStep}
use Rattle.cif_read.proofs.{Scales.neither, Beginnings.seen_begun, Calling.number_same, Places.places_added}
use Rattle.cif_read.proofs.{Building.built_push, Symbols.{depths_same, AreInOrder}}
use Rattle.lam_geom.specs.declared.boxes.MaskLayer.{MaskLayer}

-- ---- the turn of a command

pub turn_of : (command : Command) (body : List ℕ) → IsBody command body → HasTurn command
turn_of Nothing body is = tt
turn_of (Define n above below) body is = tt
turn_of Finish body is = tt
turn_of (Layer layer) body is = tt
turn_of (Area l w x y) body is = tt
turn_of (Call n place bad is_turned divisor) body (inl is) = is.1.2.turn
turn_of (Call n place bad is_turned divisor) body (inr is) = let e = is.0 in absurd cc
turn_of Extension body is = tt

-- ---- more

pub symbols_more : (count more : ℕ) (symbols : List ForeignSymbol) (depths : List ℕ) → count ≤ more
    → AreSoundSymbols count symbols depths → AreSoundSymbols more symbols depths
symbols_more count more symbols depths le h =
    record {
      few = omega (arith, h.few);
      counted = h.counted;
      told = h.told;
      shallow = h.shallow;
      in_order = h.in_order;
    }

pub sound_more : (count more : ℕ) (r : Reading) → count ≤ more → IsSound count r → IsSound more r
sound_more count more r le h = record {
  symbols = symbols_more count more r.symbols.items r.depths.items le h.symbols;
  places = h.places;
  drawing = h.drawing;
  top = h.top;
  fresh = h.fresh;
  not_deep = h.not_deep;
}

pub step_later : (m n : ℕ) (step : ForeignStep) → m ≤ n → IsForeignStep m step → IsForeignStep n step
step_later m n (Own box) le h = h
step_later m n (Called symbol turn x y) le h = (omega (arith, le, h.0), h.1, h.2, h.3)

-- a level is what it was where one symbol more is known
pub level_later : (depths : List ℕ) (depth : ℕ) (d : Drawing) → IsSoundLevel depths d
    → IsSoundLevel (depths ++ depth ∷ []) d
level_later depths depth d h = record {
  scale = h.scale;
  steps = All-weaker (IsForeignStep (length depths)) (IsForeignStep (length (depths ++ depth ∷ [])))
      (λ step is. step_later (length depths) (length (depths ++ depth ∷ [])) step
      (omega (arith, length_push depths depth)) is) d.steps h.steps;
  called = h.called ∙ depths_same (length depths) depths (depths ++ depth ∷ []) d.steps
      (recursion_from_All (IsForeignStep (length depths)) d.steps h.steps)
      (λ k below. sym (get_or_append_left depths (depth ∷ []) 0 k below));
}

-- ---- one step more

depths_push : (depths : List ℕ) (steps : List ForeignStep) (step : ForeignStep)
    → called_depth depths (map foreign_step (steps ++ step ∷ []))
    ≡ max (called_depth depths (map foreign_step steps)) (depth_of_step depths (foreign_step step))
depths_push depths steps step =
    ap (λ (ss : List Step). fold max 0 (map (depth_of_step depths) ss)) (map_push foreign_step steps step)
    ∙ (ap (fold max 0) (map_push (depth_of_step depths) (map foreign_step steps) (foreign_step step))
    ∙ fold-append max 0 (map (depth_of_step depths) (map foreign_step steps))
    (depth_of_step depths (foreign_step step) ∷ []))

pub level_step : (depths : List ℕ) (d e : Drawing) (step : ForeignStep) → IsSoundLevel depths d → e.scale ≡ d.scale
    → e.steps ≡ d.steps ++ step ∷ [] → IsForeignStep (length depths) step
    → e.called ≡ max d.called (depth_of_step depths (foreign_step step)) → IsSoundLevel depths e
level_step depths d e step h scale steps is deepest = record {
  scale = subst IsScale (sym scale) h.scale;
  steps = subst (All (IsForeignStep (length depths))) (sym steps)
      (All-push (IsForeignStep (length depths)) d.steps step h.steps is);
  called = deepest
      ∙ (ap (λ (n : ℕ). max n (depth_of_step depths (foreign_step step))) h.called
      ∙ sym (ap (λ (ss : List ForeignStep). called_depth depths (map foreign_step ss)) steps
      ∙ depths_push depths d.steps step));
}

-- ---- one symbol more

below_or : (k n : ℕ) → (k < n) ⊎ (n ≤ k)
below_or k n = by (nat_lt k n) refl
  where
    by : (t : Bool) → nat_lt k n ≡ t → (k < n) ⊎ (n ≤ k)
    by true e = inl (grind (arith, nat_tests, e))
    by false e = inr (grind (arith, nat_tests, e))

in_order_push : (symbols : List ForeignSymbol) (symbol : ForeignSymbol) → AreInOrder symbols
    → All (IsForeignStep (length symbols)) symbol.steps → AreInOrder (symbols ++ symbol ∷ [])
in_order_push symbols symbol h is k below = elim (below_or k (length symbols)) [
  | inl lt ↦ subst (λ (s : ForeignSymbol). All (IsForeignStep k) s.steps)
      (sym (get_or_append_left symbols (symbol ∷ []) no_foreign_symbol k lt)) (h k lt)
  | inr le ↦
      let same : k ≡ length symbols = omega (arith, le, below, length_push symbols symbol) in
      subst (λ (n : ℕ). All (IsForeignStep n) (get_or (symbols ++ symbol ∷ []) n no_foreign_symbol).steps) (sym same)
      (subst (λ (s : ForeignSymbol). All (IsForeignStep (length symbols)) s.steps)
      (sym (get_or_at symbols symbol [] no_foreign_symbol (length symbols) refl)) is)
]

depths_more : (symbols : List ForeignSymbol) (symbol : ForeignSymbol) (depths : List ℕ) (deepest : ℕ)
    → depths ≡ depths_of (map foreign_symbol symbols) → deepest ≡ called_depth depths (map foreign_step symbol.steps)
    → depths ++ (deepest + 1) ∷ [] ≡ depths_of (map foreign_symbol (symbols ++ symbol ∷ []))
depths_more symbols symbol depths deepest is same =
    sym (ap depths_of (map_push foreign_symbol symbols symbol)
    ∙ (built_push (λ (ds : List ℕ) (s : Symbol). depth_of_steps ds s.steps) (map foreign_symbol symbols)
    (foreign_symbol symbol)
    ∙ (ap (λ (ds : List ℕ). ds ++ (depth_of_steps ds (map foreign_step symbol.steps) ∷ [])) (sym is)
    ∙ ap (λ (d : ℕ). depths ++ (d + 1) ∷ []) (sym same))))

pub symbol_added : (count : ℕ) (symbols : List ForeignSymbol) (more : List ForeignSymbol) (depths deeper : List ℕ)
    (symbol : ForeignSymbol) (drawing : Drawing)
    → more ≡ symbols ++ symbol ∷ [] → deeper ≡ depths ++ (drawing.called + 1) ∷ [] → symbol.steps ≡ drawing.steps
    → IsSoundLevel depths drawing → drawing.called < 64
    → AreSoundSymbols count symbols depths → AreSoundSymbols (count + 1) more deeper
symbol_added count symbols more depths deeper symbol drawing e f same level shallow h =
    let steps : All (IsForeignStep (length symbols)) symbol.steps =
    subst (λ (n : ℕ). All (IsForeignStep n) symbol.steps) h.counted
    (subst (All (IsForeignStep (length depths))) (sym same) level.steps) in
    let deepest : drawing.called ≡ called_depth depths (map foreign_step symbol.steps) = level.called
    ∙ ap (λ (ss : List ForeignStep). called_depth depths (map foreign_step ss)) (sym same) in
    subst (λ (ss : List ForeignSymbol). AreSoundSymbols (count + 1) ss deeper) (sym e)
    (subst (AreSoundSymbols (count + 1) (symbols ++ symbol ∷ [])) (sym f) (record {
      few = omega (arith, h.few, length_push symbols symbol);
      counted = omega (arith, h.counted, length_push symbols symbol, length_push depths (drawing.called + 1));
      told = depths_more symbols symbol depths drawing.called h.told deepest;
      shallow = All-push (λ (d : ℕ). d ≤ 64) depths (drawing.called + 1) h.shallow (omega (arith, shallow));
      in_order = in_order_push symbols symbol h.in_order steps;
    }))

-- ---- numbers

pub places_pushed : (places after : BTreeMap ℕ ℕ) (symbols more : List ForeignSymbol) (symbol : ForeignSymbol)
    (value : ℕ) → more ≡ symbols ++ symbol ∷ [] → value ≡ length symbols
    → HasPlaces places (map foreign_symbol symbols)
    → is_known (pos symbol.number) (map foreign_symbol symbols) ≡ false
    → Updates nat_cmp places after symbol.number (Some value)
    → HasPlaces after (map foreign_symbol more)
places_pushed places after symbols more symbol value e same h fresh updates =
    let place : value ≡ length (map foreign_symbol symbols) = same ∙ sym (length-map symbols foreign_symbol) in
    subst (HasPlaces after) (sym (ap (map foreign_symbol) e ∙ map_push foreign_symbol symbols symbol))
    (places_added places after (map foreign_symbol symbols) (foreign_symbol symbol) symbol.number h fresh refl
    (subst (λ v. Updates nat_cmp places after symbol.number (Some v)) place updates))

-- ---- what a level gains

pub twice_back : (z m : ℤ) → IsWithin (2 ^ 46) z → z ≡ m
    → to_z w64 (of_z w64 (pos 2 *ℤ to_z w64 (of_z w64 z))) ≡ pos 2 *ℤ m
twice_back z m near e =
    let back : to_z w64 (of_z w64 z) ≡ z = omega (arith, ints, near.0, near.1) in
    let two : to_z w64 (of_z w64 (pos 2 *ℤ z)) ≡ pos 2 *ℤ z = omega (arith, ints, near.0, near.1) in
    ap (λ (k : ℤ). to_z w64 (of_z w64 (pos 2 *ℤ k))) back ∙ (two ∙ ap (λ (k : ℤ). pos 2 *ℤ k) e)

pub boxed_done : (level : Level) (named : Option Named) (layer : MaskLayer) (l w x y : ℤ) (steps : List Step)
    → named ≡ Some (Some layer) → false ≡ is_odd_area level.above level.below l w x y
    → steps ≡ level.steps
    ++ own (drawn_box layer (scaled level.above level.below l) (scaled level.above level.below w)
    (scaled level.above level.below x) (scaled level.above level.below y)) ∷ []
    → boxed level named l w x y ≡ Ok (record level { steps = steps })
boxed_done level named layer l w x y steps e even added = rw (e, ← even, added) refl

pub steps_more : (before after : List ForeignStep) (step : ForeignStep) (drawn : Step) → after ≡ before ++ step ∷ []
    → foreign_step step ≡ drawn → map foreign_step after ≡ map foreign_step before ++ drawn ∷ []
steps_more before after step drawn e same = ap (map foreign_step) e
    ∙ (map_push foreign_step before step ∙ ap (λ d. map foreign_step before ++ d ∷ []) same)

-- ---- a call

pub word_is : (z : ℤ) → IsWithin (2 ^ 47) z → to_z w64 (of_z w64 z) ≡ z
word_is z near = omega (arith, ints, near.0, near.1)

pub farther : (z : ℤ) → IsWithin (2 ^ 30) z → IsWithin (2 ^ 47) z
farther z near = (omega (arith, ints, near.0), omega (arith, ints, near.1))

pub divisor_word : (n : ℕ) → n < 2 ^ 32 → to_z w64 n ≡ pos n
divisor_word n h = omega (arith, ints, h)

-- a number of a shift by machine words, as it is seen
pub seen_shift : (above below z r : ℤ) → IsWithin (2 ^ 30) z → IsWithin (2 ^ 47) r
    → r ≡ pos 2 *ℤ scaled above below (to_z w64 (of_z w64 z)) → to_z w64 (of_z w64 r) ≡ pos 2 *ℤ scaled above below z
seen_shift above below z r near small e = word_is r small
    ∙ (e ∙ ap (λ (k : ℤ). pos 2 *ℤ scaled above below k) (word_is z (farther z near)))

pub called_done : (level : Level) (divisor : ℕ) (too_deep : Bool) (symbol : ℕ) (place : Placement) (steps : List Step)
    → is_odd level.above level.below (pos divisor) ≡ false → too_deep ≡ false
    → steps ≡ level.steps ++ called symbol (scaled_place level place) ∷ []
    → called_on level divisor too_deep symbol place ≡ Ok (record level { steps = steps })
called_done level divisor too_deep symbol place steps even deep e = rw (even, deep, e) refl

pub steps_called : (before after : List ForeignStep) (level : Level) (symbol : ℕ) (place : Placement) (x y : ℤ)
    → after ≡ before ++ Called symbol place.turn x y ∷ [] → x ≡ (scaled_place level place).x
    → y ≡ (scaled_place level place).y
    → map foreign_step after ≡ map foreign_step before ++ called symbol (scaled_place level place) ∷ []
steps_called before after level symbol place x y e ex ey =
    let at = λ (a b : ℤ). let p : Placement = record { turn = place.turn; x = a; y = b } in called symbol p in
    steps_more before after (Called symbol place.turn x y) (called symbol (scaled_place level place)) e
    (ap (λ (a : ℤ). at a y) ex ∙ ap (λ (b : ℤ). at (scaled_place level place).x b) ey)

pub still_within : (r z : ℤ) → IsWithin (2 ^ 47) r → IsWithin (2 ^ 47) (to_z w64 (of_z w64 r))
still_within r z near = subst (IsWithin (2 ^ 47)) (sym (word_is r near)) near

-- ---- definitions

pub defined_done : (state : State) (n above below : ℤ) → is_bad_symbol n ≡ false → is_bad_factor above ≡ false
    → is_bad_factor below ≡ false → is_some state.begun ≡ false → is_known n state.symbols ≡ false
    → defined state n above below
    ≡ Ok (record state { level = empty above below; begun = Some (record { number = n; top = state.level }) })
defined_done state n above below a b c d e = rw (a, b, c, d, e) refl

-- a definition that has begun stays fresh, and not deep
pub if_same : {X : Type 0} (o : Option X) (P Q : X → Type 0) → ((x : X) → P x → Q x) → IfSome o P → IfSome o Q
if_same None P Q imp h = tt
if_same (Some x) P Q imp h = imp x h

-- ---- a call that finds its symbol

pub call_found : (state : State) (n : ℤ) (place : Placement) (bad : Bool) (divisor at : ℕ)
    → is_bad_call n place.x place.y bad ≡ false → is_known n state.symbols ≡ true → place_of n state.symbols ≡ at
    → call state n place bad divisor ≡ drawn_on state (called_on state.level divisor (is_too_deep state at) at place)
call_found state n place bad divisor at good known here = rw (good, known, here) refl

pub deep_is : (r : Reading) (at depth : ℕ) (deep : Bool) → r.depths.items ≡ depths_of (symbols_of r)
    → at < length r.depths.items → depth ≡ get_or r.depths.items at depth
    → deep ≡ (is_some r.begun && nat_le 64 depth)
    → deep ≡ is_too_deep (state_of r) at
deep_is r at depth deep told below e is =
    let zero_else : depth ≡ get_or (depths_of (symbols_of r)) at 0 = e
    ∙ (get_or_default r.depths.items at depth 0 below ∙ ap (λ (ds : List ℕ). get_or ds at 0) told) in
    is ∙ (ap (λ (b : Bool). b && nat_le 64 depth) (sym (seen_begun definition_of r.begun))
    ∙ ap (λ (d : ℕ). is_some (begun_of r.begun) && nat_le 64 d) zero_else)

pub stop_stays : (state : State) (answer : Result Level CifKind) (stop : Stop) → IsCauseOfStop answer stop
    → IsCauseOfStop (drawn_on state answer) stop
stop_stays state answer (Refused kind) h = ap (drawn_on state) h
stop_stays state answer OutOfMemory h = tt

pub ok_both : {T E : Type 0} (r : Result T E) (P Q : Type 0) → OnOk r P → OnOk r Q → OnOk r (P × Q)
ok_both (Ok x) P Q h k = (h, k)
ok_both (Err e) P Q h k = tt

pub not_deep_after : (begun : Option Begun) (old new depth : ℕ) (deep : Bool)
    → deep ≡ (is_some begun && nat_le 64 depth) → deep ≡ false → new ≡ max old depth → IfSome begun (λ b. old < 64)
    → IfSome begun (λ b. new < 64)
not_deep_after None old new depth deep e f g h = tt
not_deep_after (Some b) old new depth deep e f g h =
    let low : depth < 64 = let t : nat_le 64 depth ≡ false = sym e ∙ f in grind (arith, nat_tests, t) in
    omega (arith, g, h, low)

pub defined_by_words : (r : Reading) (n above below : ℤ) (dest top : Drawing) → FitsSigned w64 n
    → FitsSigned w64 above → FitsSigned w64 below → false ≡ is_bad_symbol (to_z w64 (of_z w64 n))
    → false ≡ is_bad_factor (to_z w64 (of_z w64 above))
    → false ≡ is_bad_factor (to_z w64 (of_z w64 below)) → is_some (begun_of r.begun) ≡ false
    → is_known (pos (unsigned_abs (to_z w64 (of_z w64 n)))) (symbols_of r) ≡ false
    → level_from dest ≡ empty (to_z w64 (of_z w64 above)) (to_z w64 (of_z w64 below)) → top ≡ r.drawing
    → defined (state_of r) n above below
    ≡ Ok (record {
      symbols = symbols_of r;
      level = level_from dest;
      begun = Some (record { number = pos (unsigned_abs (to_z w64 (of_z w64 n))); top = level_from top });
    })
defined_by_words r n above below dest top fn fa fb bad_n bad_a bad_b closed fresh e f =
    let wn = to_z-of_z w64 n fn in
    let wa = to_z-of_z w64 above fa in
    let wb = to_z-of_z w64 below fb in
    let number : pos (unsigned_abs (to_z w64 (of_z w64 n))) ≡ n = ap (λ (z : ℤ). pos (unsigned_abs z)) wn
    ∙ number_same n (neither (int_lt n (pos 0)) (is_far n) (ap is_bad_symbol (sym wn) ∙ sym bad_n)).0 in
    let ending = λ (l : Level) (m : ℤ) (t : Level). let s : State =
    record { symbols = symbols_of r; level = l; begun = Some (record { number = m; top = t }) } in s in
    defined_done (state_of r) n above below (ap is_bad_symbol (sym wn) ∙ sym bad_n)
    (ap is_bad_factor (sym wa) ∙ sym bad_a) (ap is_bad_factor (sym wb) ∙ sym bad_b) closed
    (subst (λ (m : ℤ). is_known m (symbols_of r) ≡ false) number fresh)
    ∙ sym (ap (λ (l : Level). Ok (ending l (pos (unsigned_abs (to_z w64 (of_z w64 n)))) (level_from top)))
    (e ∙ (ap (λ (z : ℤ). empty z (to_z w64 (of_z w64 below))) wa ∙ ap (empty above) wb))
    ∙ (ap (λ (m : ℤ). Ok (ending (empty above below) m (level_from top))) number
    ∙ ap (λ (d : Drawing). Ok (ending (empty above below) n (level_from d))) f))

-- ---- a call that is no form

pub barred_by : (dialect : Dialect) (turned inside : Bool) (begun : Option Begun) (answer : Bool)
    → inside ≡ is_some begun → answer ≡ is_barred dialect turned inside
    → is_barred dialect turned (is_some (begun_of begun)) ≡ answer
barred_by dialect turned inside begun answer e f =
    ap (is_barred dialect turned) (seen_begun definition_of begun ∙ sym e) ∙ sym f
