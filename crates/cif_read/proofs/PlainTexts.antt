-- What commands of the plain dialect make: symbols of boxes alone, and at the top calls that only shift.
use Rattle.std.proofs.Common.{◌≡◌, ℕ, suc, ◌+◌, ◌≤◌, ◌^◌, ℤ, pos, negsuc, neg_ℤ, ◌*ℤ◌, div-one, int_div, Bool, true}
use Rattle.std.proofs.Common.{false, cond, ◌||◌, Option, Some, None, is_some, Result, Ok, Err, List, [], ◌∷◌, ◌++◌, map}
use Rattle.std.proofs.Common.{length, fold, inl, inr, refl, sym, ap, ◌∙◌, subst, arith, length-append}
use Rattle.std.{proofs.lemmas.Int.ints, specs.List.{AllByRecursion, AllZip}}
use Rattle.cif_lex.specs.declared.command.Command.{Command, TheVariants.{Nothing, Define, Finish, Layer, Area, Call}}
use Rattle.cif_lex.specs.declared.{command.Command.TheVariants.Extension, placement.Placement.Placement}
use Rattle.cif_lex.{specs.Commands.{IsWholeCommand, IsBody, is_far}, proofs.Turning.no_turn}
use Rattle.cif_read.specs.declared.{dialect.Dialect.TheVariants.Plain, fault.CifKind.{CifKind, TheVariants.BadCommand}}
use Rattle.cif_read.specs.declared.fault.CifKind.TheVariants.{BadNumber, NestedDefinition, RepeatedSymbol}
use Rattle.cif_read.specs.declared.fault.CifKind.TheVariants.{UnknownSymbol, OddScale, TooDeep}
use Rattle.cif_read.specs.{Hierarchies.{Symbol, Step, Hierarchy, own, called}, Acts.{State, Level, Definition, Named}}
use Rattle.cif_read.specs.Acts.{is_bad_symbol, is_bad_factor, is_bad_area, is_bad_call, is_known, place_of, scaled}
use Rattle.cif_read.specs.Acts.{kept, with_steps, boxed, is_odd_area, is_odd_call, is_too_deep, scaled_place, drawn_on}
use Rattle.cif_read.specs.{Acts.{defined, finished, call, act, start}, Readers.{then_act_by, joined}, Meaning.reader}
use Rattle.cif_read.specs.{Meaning.Means, Files.IsWithin, Narrow.{IsOwn, IsShift, AreFew, IsPlain}}
use Rattle.cif_read.proofs.{Scales.{neither, near_from}, Beginnings.chunk_length, Walks.err_stays}

-- ---- steps

few_more : (n m : ℕ) (Is : Step → Type 0) (steps : List Step) → n ≤ m → AreFew n Is steps → AreFew m Is steps
few_more n m Is steps le h = record { each = h.each; few = omega (arith, le, h.few) }

all_append : {X : Type 0} (P : X → Type 0) (xs ys : List X) → AllByRecursion P xs → AllByRecursion P ys
    → AllByRecursion P (xs ++ ys)
all_append P [] ys h k = k
all_append P (x ∷ xs) ys h k = (h.0, all_append P xs ys h.1 k)

few_added : (n : ℕ) (Is : Step → Type 0) (steps more : List Step) → length more ≤ 1 → AreFew n Is steps
    → AllByRecursion Is more → AreFew (n + 1) Is (steps ++ more)
few_added n Is steps more one h is =
    record { each = all_append Is steps more h.each is; few = omega (arith, one, h.few, length-append steps more) }

few_none : (n : ℕ) (Is : Step → Type 0) → AreFew n Is []
few_none n Is = record { each = tt; few = omega arith }

-- ---- states

-- the top has no scale
record IsTop (n : ℕ) (level : Level) : Type 0 where
  above : level.above ≡ pos 1
  below : level.below ≡ pos 1
  steps : AreFew n IsShift level.steps

abbrev AreLevels : ℕ → Level → Option Definition → Type 0
AreLevels n level None = IsTop n level
AreLevels n level (Some d) = AreFew n IsOwn level.steps × IsTop n d.top

abbrev AreSymbols : ℕ → List Symbol → Type 0
AreSymbols n symbols = AllByRecursion (λ (s : Symbol). AreFew n IsOwn s.steps) symbols

record IsPlainState (n : ℕ) (s : State) : Type 0 where
  symbols : AreSymbols n s.symbols
  levels : AreLevels n s.level s.begun

top_more : (n m : ℕ) (level : Level) → n ≤ m → IsTop n level → IsTop m level
top_more n m level le h =
    record { above = h.above; below = h.below; steps = few_more n m IsShift level.steps le h.steps }

levels_more : (n m : ℕ) (level : Level) (begun : Option Definition) → n ≤ m → AreLevels n level begun
    → AreLevels m level begun
levels_more n m level None le h = top_more n m level le h
levels_more n m level (Some d) le h = (few_more n m IsOwn level.steps le h.0, top_more n m d.top le h.1)

symbols_more : (n m : ℕ) (symbols : List Symbol) → n ≤ m → AreSymbols n symbols → AreSymbols m symbols
symbols_more n m [] le h = tt
symbols_more n m (s ∷ symbols) le h = (few_more n m IsOwn s.steps le h.0, symbols_more n m symbols le h.1)

state_more : (n m : ℕ) (s : State) → n ≤ m → IsPlainState n s → IsPlainState m s
state_more n m s le h =
    record { symbols = symbols_more n m s.symbols le h.symbols; levels = levels_more n m s.level s.begun le h.levels }

top_of : (n : ℕ) (level : Level) (begun : Option Definition) → is_some begun ≡ false → AreLevels n level begun
    → IsTop n level
top_of n level None e h = h
top_of n level (Some d) e h = absurd cc

levels_added : (n : ℕ) (level : Level) (begun : Option Definition) (more : List Step) → length more ≤ 1
    → AllByRecursion IsOwn more → AllByRecursion IsShift more → AreLevels n level begun
    → AreLevels (n + 1) (with_steps level more) begun
levels_added n level None more one own_alone shifts h =
    record { above = h.above; below = h.below; steps = few_added n IsShift level.steps more one h.steps shifts }
levels_added n level (Some d) more one own_alone shifts h =
    (few_added n IsOwn level.steps more one h.0 own_alone, top_more n (n + 1) d.top (omega arith) h.1)

levels_named : (n : ℕ) (level : Level) (begun : Option Definition) (layer : Named) → AreLevels n level begun
    → AreLevels n (record level { layer = Some layer }) begun
levels_named n level None layer h = record { above = h.above; below = h.below; steps = h.steps }
levels_named n level (Some d) layer h = (h.0, h.1)

-- ---- what a command makes of a state

abbrev Keeps : ℕ → Result State CifKind → Type 0
Keeps n (Ok s) = IsPlainState n s
Keeps n (Err kind) = Unit {0}

keeps_if : (n : ℕ) (b : Bool) (kind : CifKind) (answer : Result State CifKind) → (b ≡ false → Keeps n answer)
    → Keeps n (cond b (Err kind) answer)
keeps_if n true kind answer h = tt
keeps_if n false kind answer h = h refl

keeps_known : (n : ℕ) (b : Bool) (kind : CifKind) (answer : Result State CifKind) → Keeps n answer
    → Keeps n (cond b answer (Err kind))
keeps_known n true kind answer h = h
keeps_known n false kind answer h = tt

drawn_if : (n : ℕ) (s : State) (b : Bool) (kind : CifKind) (answer : Result Level CifKind)
    → Keeps n (drawn_on s answer) → Keeps n (drawn_on s (cond b (Err kind) answer))
drawn_if n s true kind answer h = tt
drawn_if n s false kind answer h = h

defined_keeps : (n : ℕ) (s : State) (number above below : ℤ) → IsPlainState n s
    → Keeps (n + 1) (defined s number above below)
defined_keeps n s number above below h =
    keeps_if (n + 1) (is_bad_symbol number || is_bad_factor above || is_bad_factor below) BadNumber _ (λ good.
    keeps_if (n + 1) (is_some s.begun) NestedDefinition _ (λ closed.
    keeps_if (n + 1) (is_known number s.symbols) RepeatedSymbol _ (λ fresh. record {
      symbols = symbols_more n (n + 1) s.symbols (omega arith) h.symbols;
      levels = (
        few_none (n + 1) IsOwn,
        top_more n (n + 1) s.level (omega arith)
            (top_of n s.level s.begun closed h.levels),
      );
    })))

finished_keeps : (n : ℕ) (symbols : List Symbol) (level : Level) (begun : Option Definition) → AreSymbols n symbols
    → AreLevels n level begun
    → Keeps (n + 1) (finished (record { symbols = symbols; level = level; begun = begun }) begun)
finished_keeps n symbols level None h k = tt
finished_keeps n symbols level (Some d) h k = record {
  symbols = all_append (λ (s : Symbol). AreFew (n + 1) IsOwn s.steps) symbols _
      (symbols_more n (n + 1) symbols (omega arith) h) (few_more n (n + 1) IsOwn level.steps (omega arith) k.0, tt);
  levels = top_more n (n + 1) d.top (omega arith) k.1;
}

kept_few : (layer : Named) (l w x y : ℤ) → length (map own (kept layer l w x y)) ≤ 1
kept_few None l w x y = omega arith
kept_few (Some layer) l w x y = omega arith

kept_own : (layer : Named) (l w x y : ℤ) → AllByRecursion IsOwn (map own (kept layer l w x y))
kept_own None l w x y = tt
kept_own (Some layer) l w x y = (tt, tt)

kept_shift : (layer : Named) (l w x y : ℤ) → AllByRecursion IsShift (map own (kept layer l w x y))
kept_shift None l w x y = tt
kept_shift (Some layer) l w x y = (tt, tt)

boxed_keeps : (n : ℕ) (s : State) (layer : Option Named) (l w x y : ℤ) → IsPlainState n s
    → Keeps (n + 1) (drawn_on s (boxed s.level layer l w x y))
boxed_keeps n s None l w x y h = tt
boxed_keeps n s (Some layer) l w x y h =
    let f = scaled s.level.above s.level.below in
    drawn_if (n + 1) s (is_odd_area s.level.above s.level.below l w x y) OddScale _ (record {
      symbols = symbols_more n (n + 1) s.symbols (omega arith) h.symbols;
      levels = levels_added n s.level s.begun _ (kept_few layer (f l) (f w) (f x) (f y))
          (kept_own layer (f l) (f w) (f x) (f y)) (kept_shift layer (f l) (f w) (f x) (f y)) h.levels;
    })

-- ---- a call

times_one : (n : ℤ) → n *ℤ pos 1 ≡ n
times_one n = omega (arith, ints)

over_one : (z : ℤ) → int_div z (pos 1) ≡ z
over_one (pos n) = ap pos (div-one n)
over_one (negsuc n) = ap (λ (m : ℕ). neg_ℤ (pos m)) (div-one (suc n))

pub scaled_one : (n : ℤ) → scaled (pos 1) (pos 1) n ≡ n
scaled_one n = ap (λ (z : ℤ). int_div z (pos 1)) (times_one n) ∙ over_one n

doubled : (z : ℤ) → IsWithin (2 ^ 30) z → IsWithin (2 ^ 31) (pos 2 *ℤ z)
doubled z near = (omega (arith, ints, near.0), omega (arith, ints, near.1))

shift_near : (level : Level) (n : ℕ) (z : ℤ) → IsTop n level → is_far z ≡ false
    → IsWithin (2 ^ 31) (pos 2 *ℤ scaled level.above level.below z)
shift_near level n z top near =
    let same : scaled level.above level.below z ≡ z = rw (top.above, top.below) (scaled_one z) in
    subst (λ (k : ℤ). IsWithin (2 ^ 31) (pos 2 *ℤ k)) (sym same) (doubled z (near_from z near))

call_keeps : (n : ℕ) (s : State) (number : ℤ) (place : Placement) (bad : Bool) (divisor : ℕ) → place.turn ≡ 0
    → is_some s.begun ≡ false → IsPlainState n s → Keeps (n + 1) (call s number place bad divisor)
call_keeps n s number place bad divisor still closed h =
    keeps_if (n + 1) (is_bad_call number place.x place.y bad) BadNumber _ (λ good.
    let all = neither (is_bad_symbol number || bad || is_far place.x) (is_far place.y) good in
    let rest = neither (is_bad_symbol number || bad) (is_far place.x) all.0 in
    let top = top_of n s.level s.begun closed h.levels in
    let at = place_of number s.symbols in
    let step : Step = called at (scaled_place s.level place) in
    let shifts : AllByRecursion IsShift (step ∷ []) =
    ((still, shift_near s.level n place.x top rest.1, shift_near s.level n place.y top all.1), tt) in
    let levels : IsTop (n + 1) (with_steps s.level (step ∷ [])) =
    record {
      above = top.above;
      below = top.below;
      steps = few_added n IsShift s.level.steps (step ∷ []) (omega arith) top.steps shifts;
    } in
    keeps_known (n + 1) (is_known number s.symbols) UnknownSymbol _
    (drawn_if (n + 1) s (is_odd_call s.level divisor) OddScale _
    (drawn_if (n + 1) s (is_too_deep s at) TooDeep _ (record {
      symbols = symbols_more n (n + 1) s.symbols (omega arith) h.symbols;
      levels = levels_from s.begun closed levels;
    }))))
  where
    levels_from : {m : ℕ} {level : Level} (begun : Option Definition) → is_some begun ≡ false → IsTop m level
        → AreLevels m level begun
    levels_from None e t = t
    levels_from (Some d) e t = absurd cc

barred_keeps : (n : ℕ) (s : State) (number : ℤ) (place : Placement) (bad turned : Bool) (divisor : ℕ) (inside : Bool)
    → (turned ≡ false → place.turn ≡ 0) → is_some s.begun ≡ inside → IsPlainState n s
    → Keeps (n + 1) (cond (turned || inside) (Err BadCommand) (call s number place bad divisor))
barred_keeps n s number place bad true divisor inside still e h = tt
barred_keeps n s number place bad false divisor true still e h = tt
barred_keeps n s number place bad false divisor false still e h =
    call_keeps n s number place bad divisor (still refl) e h

-- ---- any command

-- a call that does not turn has no turn
abbrev HasNoTurn : Command → Type 0
HasNoTurn (Call n place bad turned divisor) = turned ≡ false → place.turn ≡ 0
HasNoTurn command = Unit {0}

turn_of_body : (command : Command) (body : List ℕ) → IsBody command body → HasNoTurn command
turn_of_body Nothing body is = tt
turn_of_body (Define n above below) body is = tt
turn_of_body Finish body is = tt
turn_of_body (Layer layer) body is = tt
turn_of_body (Area l w x y) body is = tt
turn_of_body (Call n place bad turned divisor) body (inl is) = λ plain. no_turn is.1.0 place is.1.2 (sym is.1.4 ∙ plain)
turn_of_body (Call n place bad turned divisor) body (inr is) = let e = is.0 in absurd cc
turn_of_body Extension body is = tt

keeps : (n : ℕ) (s : State) (command : Command) → HasNoTurn command → IsPlainState n s
    → Keeps (n + 1) (act Plain s command)
unfolding act
keeps n s Nothing turn h = state_more n (n + 1) s (omega arith) h
keeps n s (Define number above below) turn h = defined_keeps n s number above below h
keeps n s Finish turn h = finished_keeps n s.symbols s.level s.begun h.symbols h.levels
keeps n s (Layer layer) turn h =
    record {
      symbols = symbols_more n (n + 1) s.symbols (omega arith) h.symbols;
      levels = levels_more n (n + 1) _ s.begun (omega arith) (levels_named n s.level s.begun layer h.levels);
    }
keeps n s (Area l w x y) turn h =
    keeps_if (n + 1) (is_bad_area l w x y) BadNumber _ (λ good. boxed_keeps n s s.level.layer l w x y h)
keeps n s (Call number place bad turned divisor) turn h =
    barred_keeps n s number place bad turned divisor (is_some s.begun) turn refl h
keeps n s Extension turn h = state_more n (n + 1) s (omega arith) h

-- ---- commands one after another, and a text

all_keep : (n : ℕ) (s : State) (commands : List Command) (chunks : List (List ℕ)) (done : State)
    → AllZip IsWholeCommand commands chunks → IsPlainState n s → fold (then_act_by reader) (Ok s) commands ≡ Ok done
    → IsPlainState (n + length (joined chunks)) done
all_keep n s [] [] done all h e = let same : s ≡ done =
    cc in subst (IsPlainState (n + 0)) same (state_more n (n + 0) s (omega arith) h)
all_keep n s [] (p ∷ chunks) done all h e = absurd all
all_keep n s (c ∷ commands) [] done all h e = absurd all
all_keep n s (c ∷ commands) (p ∷ chunks) done all h e =
    by (act Plain s c) refl (keeps n s c (turn_of_body c all.0.body all.0.is_body) h)
    (λ next good f. all_keep (n + length p) next commands chunks done all.1 good f)
  where
    size : length p ≡ length all.0.gap + (length all.0.body + 1)
    size = ap length all.0.joined ∙ chunk_length all.0.gap all.0.body

    sum : n + length p + length (joined chunks) ≡ n + length (p ++ joined chunks)
    sum = omega (arith, length-append p (joined chunks))

    by : (answer : Result State CifKind) → act Plain s c ≡ answer → Keeps (n + 1) answer
        → ((next : State) → IsPlainState (n + length p) next → fold (then_act_by reader) (Ok next) commands ≡ Ok done
        → IsPlainState (n + length p + length (joined chunks)) done)
        → IsPlainState (n + length (p ++ joined chunks)) done
    by (Err kind) is kept goes_on =
        let failed : Err kind ≡ Ok done = sym (err_stays reader kind commands)
        ∙ (ap (λ (a : Result State CifKind). fold (then_act_by reader) a commands) (sym is) ∙ e) in
        absurd cc
    by (Ok next) is kept goes_on =
        subst (λ (m : ℕ). IsPlainState m done) sum
        (goes_on next (state_more (n + 1) (n + length p) next (omega (arith, size)) kept)
        (ap (λ (a : Result State CifKind). fold (then_act_by reader) a commands) (sym is) ∙ e))

pub plain_hierarchy : (text : List ℕ) (hierarchy : Hierarchy) → Means text hierarchy → IsPlain (length text) hierarchy
plain_hierarchy text hierarchy is =
    let s = is.state in
    let n = 0 + length (joined is.chunks) in
    let first : IsPlainState 0 start =
    record { symbols = tt; levels = record { above = refl; below = refl; steps = few_none 0 IsShift } } in
    let all = all_keep 0 start is.commands is.chunks s is.spelled first is.done in
    let le : n ≤ length text =
    omega (arith, ap length is.whole, length-append (joined is.chunks) (is.gap ++ (69 ∷ is.after))) in
    let more = state_more n (length text) s le all in
    subst (IsPlain (length text)) (sym is.drawn)
    (record { symbols = more.symbols; top = (top_of (length text) s.level s.begun is.closed more.levels).steps })
