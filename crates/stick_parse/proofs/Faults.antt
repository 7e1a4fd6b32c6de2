-- A text is refused with its first fault.
use Rattle.std.proofs.Common.{◌≡◌, ◌≢◌, ℕ, ◌+◌, ◌≤◌, ◌⊎◌, inl, inr, Bool, true, false, cond, eqb, List, [], ◌∷◌, ◌++◌}
use Rattle.std.proofs.Common.{Option, Some, None, Result, Ok, Err, refl, sym, ap, subst, ◌∙◌, arith}
use Rattle.std.proofs.lemmas.List.{append-nil, Sums.sum_by-append}
use Rattle.std.specs.{Prelude.{IfSome, IfErr}, Option.option_and_then}
use Rattle.stick_text.specs.declared.fault.StickKind.{StickKind, TheVariants.{BadLine, Unended, TooManyCells}}
use Rattle.stick_text.specs.declared.{fault.{StickFault.StickFault, ParseFault.ParseFault}, design.Design.Design}
use Rattle.stick_text.specs.declared.design.Statement.{Statement, TheVariants.{Version, Cell, Item, Grid, Row, End}}
use Rattle.stick_text.specs.{Reading.{◌>>=◌, Gives}, Lines.Entry, Order.{Place, AtHead, AfterCells, InCell, InGrid}}
use Rattle.stick_text.specs.Order.{AtEnd, after_header, place_after, Rest, with_line, at_line, at_end, rest_from}
use Rattle.stick_text.specs.{Order.{last_line, design_in, design_of}, Says.{said_lines, SaysDesign}}
use Rattle.stick_text.specs.FirstFault.{says_cell, cell_lines, BeginDesign, AreSound, IsUnreadable, IsMisplaced}
use Rattle.stick_text.specs.FirstFault.{IsOneTooMany, BreaksAt, IsUnended, IsFirstFault, Tells}
use Rattle.stick_text.proofs.{Written.Holds, Shapes.{LineState, Head, Inside, state_of, turn_head, turn, turns}}
use Rattle.stick_text.proofs.Shapes.{room_left, design_said, design_read}
use Rattle.stick_parse.proofs.Begun.{turn_on, walk, turned, then_some, some_mono, walk-append, begun_walks, walk_begins}
use Rattle.stick_text.specs.declared.fault.ParseFault.TheVariants as faults

-- ---- places that lines lead to, and how many `cell` lines stand in front

abbrev Reaches : Place → List Entry → Place → Type 0
Reaches p [] q = p ≡ q
Reaches p (e ∷ es) q = (s : Statement) × (m : Place) × (e.said ≡ Ok s) × (place_after p s ≡ Ok m) × Reaches m es q

abbrev one : Statement → ℕ
one s = cond (says_cell (Ok s)) 1 0

abbrev At : Place → ℕ → Type 0
At AtHead c = c ≡ 0
At (AfterCells named n) c = (c ≡ n) × (n ≤ 256)
At (InCell named n) c = (c ≡ n) × (n ≤ 256)
At (InGrid named) c = c ≤ 256
At (AtEnd named) c = c ≤ 256

few_at : (p : Place) (c : ℕ) → At p c → c ≤ 256
few_at AtHead c h = omega (arith, h)
few_at (AfterCells named n) c h = omega (arith, h.0, h.1)
few_at (InCell named n) c h = omega (arith, h.0, h.1)
few_at (InGrid named) c h = h
few_at (AtEnd named) c h = h

-- where one more `cell` line has room, a line that may follow is taken
abbrev Placed : Place → Statement → ℕ → LineState → Type 0
Placed p s c m = (q : Place) × (place_after p s ≡ Ok q) × (state_of q ≡ m) × At q (c + one s)

head_placed : (first second : Bool) (version c : ℕ)
    → after_header version ≡ cond first (Ok (AfterCells false 0)) (cond second (Ok (AfterCells true 0)) (Err BadLine))
    → c ≡ 0
    → IfSome (turn_head first second) (Placed AtHead (Version version) c)
head_placed true second version c is h = (AfterCells false 0, is, refl, (omega (arith, h), omega arith))
head_placed false true version c is h = (AfterCells true 0, is, refl, (omega (arith, h), omega arith))
head_placed false false version c is h = tt

placed : (p : Place) (s : Statement) (c : ℕ) → At p c → c + one s ≤ 256 → IfSome (turn (state_of p) s) (Placed p s c)
placed AtHead (Version version) c h few = head_placed (eqb version 1) (eqb version 2) version c refl h
placed (AfterCells named n) (Cell name) c h few =
    (InCell named (n + 1), room_left n named (omega (arith, h.0)), refl, (omega (arith, h.0), omega (arith, h.0)))
placed (InCell named n) (Item form) c h few = (InCell named n, refl, refl, (omega (arith, h.0), h.1))
placed (InCell named n) End c h few = (AfterCells named n, refl, refl, (omega (arith, h.0), h.1))
placed (AfterCells false n) (Grid None) c h few = (InGrid false, refl, refl, few)
placed (AfterCells true n) (Grid (Some name)) c h few = (InGrid true, refl, refl, few)
placed (InGrid named) (Row row) c h few = (InGrid named, refl, refl, few)
placed (InGrid named) End c h few = (AtEnd named, refl, refl, few)
placed (AtEnd true) (Grid (Some name)) c h few = (InGrid true, refl, refl, few)
placed p s c h few = tt

cell_counts : (b named : Bool) (n c : ℕ) → eqb n 256 ≡ b → c ≡ n → n ≤ 256
    → Holds {E = StickKind} (λ m. At m (c + 1)) (cond b (Err TooManyCells) (Ok (InCell named (n + 1))))
cell_counts true named n c is h few = tt
cell_counts false named n c is h few = let other : n ≢ 256 =
    borrow.Author.Tests.false-eqb _ _ (sym is) in (omega (arith, h), omega arith)

head_counts : (first second : Bool) (c : ℕ) → c ≡ 0
    → Holds {E = StickKind} (λ m. At m (c + 0))
    (cond first (Ok (AfterCells false 0)) (cond second (Ok (AfterCells true 0)) (Err BadLine)))
head_counts true second c h = (omega (arith, h), omega arith)
head_counts false true c h = (omega (arith, h), omega arith)
head_counts false false c h = tt

counts : (p : Place) (s : Statement) (c : ℕ) → At p c → Holds (λ m. At m (c + one s)) (place_after p s)
counts AtHead (Version version) c h = head_counts (eqb version 1) (eqb version 2) c h
counts (AfterCells named n) (Cell name) c h = cell_counts (eqb n 256) named n c refl h.0 h.1
counts (InCell named n) (Item form) c h = (omega (arith, h.0), h.1)
counts (InCell named n) End c h = (omega (arith, h.0), h.1)
counts (AfterCells false n) (Grid None) c h = omega (arith, h.0, h.1)
counts (AfterCells true n) (Grid (Some name)) c h = omega (arith, h.0, h.1)
counts (InGrid named) (Row row) c h = omega (arith, h)
counts (InGrid named) End c h = omega (arith, h)
counts (AtEnd true) (Grid (Some name)) c h = omega (arith, h)
counts p s c h = tt

said_one : (c : ℕ) (e : Entry) (s : Statement) (es : List Entry) → e.said ≡ Ok s
    → c + one s + cell_lines es ≡ c + cell_lines (e ∷ es)
said_one c e s es said =
    let same : one s ≡ cond (says_cell e.said) 1 0 =
    ap (λ (r : Result Statement StickKind). cond (says_cell r) 1 0) (sym said) in
    let first : cell_lines (e ∷ es) ≡ 0 + cond (says_cell e.said) 1 0 + cell_lines es =
    sum_by-append (λ (x : Entry). cond (says_cell x.said) 1 0) (e ∷ []) es in
    omega (arith, same, first)

reach_counts : (p q : Place) (es : List Entry) (c : ℕ) → At p c → Reaches p es q → At q (c + cell_lines es)
reach_counts p q [] c h r = let none : c ≡ c + 0 = omega arith in subst (At q) none (subst (λ x. At x c) r h)
reach_counts p q (e ∷ es) c h r =
    let here : At r.1 (c + one r.0) = subst (Holds (λ m. At m (c + one r.0))) r.3 (counts p r.0 c h) in
    subst (At q) (said_one c e r.0 es r.2) (reach_counts r.1 q es (c + one r.0) here r.4)

reach_walks : (p q : Place) (es : List Entry) → Reaches p es q → walk (state_of p) es ≡ Some (state_of q)
reach_walks p q [] r = ap (λ x. Some (state_of x)) r
reach_walks p q (e ∷ es) r =
    let to : turn (state_of p) r.0 ≡ Some (state_of r.1) =
    subst (Holds (λ next. turn (state_of p) r.0 ≡ Some (state_of next))) r.3 (turns p r.0) in
    ap (option_and_then (λ m. walk m es)) (ap (turn_on (state_of p)) r.2 ∙ to) ∙ reach_walks r.1 q es r.4

abbrev Followed : Place → List Entry → LineState → Type 0
Followed p es m = (q : Place) × (state_of q ≡ m) × Reaches p es q

follow : (es : List Entry) (p : Place) (c : ℕ) → At p c → c + cell_lines es ≤ 256
    → IfSome (walk (state_of p) es) (Followed p es)
follow [] p c h few = (p, refl, refl)
follow (e ∷ es) p c h few = then_some (Followed p (e ∷ es)) (turn_on (state_of p) e.said) (λ m. walk m es) (λ m to.
    let t = turned (state_of p) e.said m to in
    let count : c + one t.0 + cell_lines es ≡ c + cell_lines (e ∷ es) = said_one c e t.0 es t.1 in
    let on = subst (λ (o : Option LineState). IfSome o (Placed p t.0 c)) t.2
    (placed p t.0 c h (omega (arith, count, few))) in
    let others : IfSome (walk m es) (Followed on.0 es) =
    subst (λ n. IfSome (walk n es) (Followed on.0 es)) on.2
    (follow es on.0 (c + one t.0) on.3 (omega (arith, count, few))) in
    some_mono (walk m es) (Followed on.0 es) (Followed p (e ∷ es)) (λ n f. (f.0, f.1, (t.0, on.0, t.1, on.1, f.2)))
    others)

-- lines are sound exactly where they lead somewhere
sound_at : (prefix : List Entry) (q : Place) → Reaches AtHead prefix q → AreSound prefix
sound_at prefix q r = record {
  begin = walk_begins prefix (state_of q) (reach_walks AtHead q prefix r);
  few_cells = omega (arith, few_at q (0 + cell_lines prefix) (reach_counts AtHead q prefix 0 refl r));
}

reached_by : (prefix : List Entry) → AreSound prefix → (q : Place) × Reaches AtHead prefix q
reached_by prefix h =
    let w = begun_walks prefix h.begin in
    let f = subst (λ (o : Option LineState). IfSome o (Followed AtHead prefix)) w.1
    (follow prefix AtHead 0 refl (omega (arith, h.few_cells))) in
    (f.0, f.2)

-- the walk of one line more
one_more : (prefix : List Entry) (next : Entry) (q : Place) (s : Statement) → Reaches AtHead prefix q
    → next.said ≡ Ok s → walk Head (prefix ++ next ∷ []) ≡ option_and_then (λ m. Some m) (turn (state_of q) s)
one_more prefix next q s r said =
    walk-append Head prefix (next ∷ []) ∙ ap (option_and_then (λ m. walk m (next ∷ []))) (reach_walks AtHead q prefix r)
    ∙ ap (λ (x : Result Statement StickKind). option_and_then (λ m. Some m) (turn_on (state_of q) x)) said

-- ---- reading stops at the first fault

abbrev Refuses : Place → Entry → StickKind → Type 0
Refuses q next kind = IsUnreadable next kind ⊎ ((s : Statement) × (next.said ≡ Ok s) × (place_after q s ≡ Err kind))

record Stop (p : Place) (es : List Entry) (f : StickFault) : Type 0 where
  prefix : List Entry
  next : Entry
  after : List Entry
  place : Place
  parts : es ≡ prefix ++ next ∷ after
  reach : Reaches p prefix place
  cause : Refuses place next f.kind
  line : f.line ≡ next.number

abbrev Stops : ℕ → Place → List Entry → StickFault → Type 0
Stops last p es f = Stop p es f ⊎ ((q : Place) × Reaches p es q × (at_end last q ≡ Err f))

stops_on : (last : ℕ) (p m : Place) (e : Entry) (s : Statement) (es : List Entry) (f : StickFault) → e.said ≡ Ok s
    → place_after p s ≡ Ok m → Stops last m es f → Stops last p (e ∷ es) f
stops_on last p m e s es f said to (inl x) = inl (record {
  prefix = e ∷ x.prefix;
  next = x.next;
  after = x.after;
  place = x.place;
  parts = ap (λ (ys : List Entry). e ∷ ys) x.parts;
  reach = (s, m, said, to, x.reach);
  cause = x.cause;
  line = x.line;
})
stops_on last p m e s es f said to (inr x) = inr (x.0, (s, m, said, to, x.1), x.2)

then_fault : {A B E : Type 0} (P : E → Type 0) (r : Result A E) (f : A → Result B E) → IfErr r P
    → ((x : A) → r ≡ Ok x → IfErr (f x) P) → IfErr (r >>= f) P
then_fault P (Ok x) f h k = k x refl
then_fault P (Err e) f h k = h

line_fault : {A : Type 0} (P : StickFault → Type 0) (n : ℕ) (r : Result A StickKind)
    → ((kind : StickKind) → r ≡ Err kind → P (record { line = n; kind = kind })) → IfErr (at_line n r) P
line_fault P n (Ok x) k = tt
line_fault P n (Err kind) k = k kind refl

line_ok : {A : Type 0} (n : ℕ) (r : Result A StickKind) (x : A) → at_line n r ≡ Ok x → r ≡ Ok x
line_ok n (Ok y) x e = cc
line_ok n (Err kind) x e = absurd cc

err_mono : {A E : Type 0} (P Q : E → Type 0) (r : Result A E) → ((e : E) → P e → Q e) → IfErr r P → IfErr r Q
err_mono P Q (Ok x) k h = tt
err_mono P Q (Err e) k h = k e h

err_as : {A E : Type 0} (r : Result A E) → IfErr r (λ e. r ≡ Err e)
err_as (Ok x) = tt
err_as (Err e) = refl

stops : (last : ℕ) (p : Place) (es : List Entry) → IfErr (rest_from last p es) (Stops last p es)
stops last p [] = err_mono (λ f. at_end last p ≡ Err f) (Stops last p []) (at_end last p) (λ f e. inr (p, refl, e))
    (err_as (at_end last p))
stops last p (x ∷ xs) =
    then_fault (Stops last p (x ∷ xs)) (at_line x.number x.said) _
    (line_fault (Stops last p (x ∷ xs)) x.number x.said
    (λ kind is.
    inl (record {
      prefix = [];
      next = x;
      after = xs;
      place = p;
      parts = refl;
      reach = refl;
      cause = inl is;
      line = refl;
    }))) (λ s is.
    let said : x.said ≡ Ok s = line_ok x.number x.said s is in
    then_fault (Stops last p (x ∷ xs)) (at_line x.number (place_after p s)) _
    (line_fault (Stops last p (x ∷ xs)) x.number (place_after p s)
    (λ kind never.
    inl (record {
      prefix = [];
      next = x;
      after = xs;
      place = p;
      parts = refl;
      reach = refl;
      cause = inr (s, said, never);
      line = refl;
    }))) (λ m to.
    then_fault (Stops last p (x ∷ xs)) (rest_from last m xs) _
    (err_mono (Stops last m xs) (Stops last p (x ∷ xs)) (rest_from last m xs)
    (λ f. stops_on last p m x s xs f said (line_ok x.number (place_after p s) m to)) (stops last m xs)) (λ rest e.
    tt)))

-- why a place takes no such line
abbrev Refusal : Place → Statement → StickKind → Type 0
Refusal q s kind = ((kind ≡ BadLine) × (turn (state_of q) s ≡ None))
    ⊎ ((named : Bool) × (name : List ℕ) × (kind ≡ TooManyCells) × (q ≡ AfterCells named 256) × (s ≡ Cell name))

full_refusal : (b named : Bool) (n : ℕ) (name : List ℕ) → eqb n 256 ≡ b
    → IfErr (cond b (Err TooManyCells) (Ok (InCell named (n + 1)))) (Refusal (AfterCells named n) (Cell name))
full_refusal true named n name is =
    inr (named, name, refl, ap (AfterCells named) (borrow.Author.Tests.eqb-true _ _ is), refl)
full_refusal false named n name is = tt

head_refusal : (first second : Bool) (version : ℕ) → turn Head (Version version) ≡ turn_head first second
    → IfErr (cond first (Ok (AfterCells false 0)) (cond second (Ok (AfterCells true 0)) (Err BadLine)))
    (Refusal AtHead (Version version))
head_refusal true second version is = tt
head_refusal false true version is = tt
head_refusal false false version is = inl (refl, is)

refusal : (q : Place) (s : Statement) → IfErr (place_after q s) (Refusal q s)
refusal AtHead (Version version) = head_refusal (eqb version 1) (eqb version 2) version refl
refusal (AfterCells named n) (Cell name) = full_refusal (eqb n 256) named n name refl
refusal (InCell named n) (Item form) = tt
refusal (InCell named n) End = tt
refusal (AfterCells false n) (Grid None) = tt
refusal (AfterCells true n) (Grid (Some name)) = tt
refusal (InGrid named) (Row row) = tt
refusal (InGrid named) End = tt
refusal (AtEnd true) (Grid (Some name)) = tt
refusal q s = inl (refl, refl)

abbrev Cause : List Entry → Entry → StickKind → Type 0
Cause prefix next kind = IsUnreadable next kind ⊎ (IsMisplaced prefix next kind ⊎ IsOneTooMany prefix next kind)

no_turn : (prefix : List Entry) (next : Entry) (q : Place) (s : Statement) → Reaches AtHead prefix q
    → next.said ≡ Ok s → turn (state_of q) s ≡ None → ¬ BeginDesign (prefix ++ next ∷ [])
no_turn prefix next q s r said never b =
    let w = begun_walks (prefix ++ next ∷ []) b in
    let none : walk Head (prefix ++ next ∷ []) ≡ None = one_more prefix next q s r said
    ∙ ap (option_and_then (λ m. Some m)) never in
    absurd cc

by_refusal : (prefix : List Entry) (next : Entry) (q : Place) (s : Statement) (kind : StickKind)
    → Reaches AtHead prefix q → next.said ≡ Ok s → Refusal q s kind → Cause prefix next kind
by_refusal prefix next q s kind r said (inl bad) =
    inr (inl (record { statement = s; said = said; none = no_turn prefix next q s r said bad.1; told = bad.0 }))
by_refusal prefix next q s kind r said (inr many) =
    let reach : Reaches AtHead prefix (AfterCells many.0 256) = subst (Reaches AtHead prefix) many.3 r in
    let is_cell : next.said ≡ Ok (Cell many.1) = said ∙ ap (λ (x : Statement). Ok x) many.4 in
    let count = reach_counts AtHead (AfterCells many.0 256) prefix 0 refl reach in
    inr (inr (record {
      name = many.1;
      said = is_cell;
      begin = walk_begins (prefix ++ next ∷ []) (Inside many.0)
          (one_more prefix next (AfterCells many.0 256) (Cell many.1) reach is_cell);
      full = omega (arith, count.0);
      told = many.2;
    }))

cause_of : (prefix : List Entry) (next : Entry) (q : Place) (kind : StickKind) → Reaches AtHead prefix q
    → Refuses q next kind → Cause prefix next kind
cause_of prefix next q kind r (inl own) = inl own
cause_of prefix next q kind r (inr x) =
    by_refusal prefix next q x.0 kind r x.1
    (subst (λ (y : Result Place StickKind). IfErr y (Refusal q x.0)) x.2 (refusal q x.0))

unended_as : (last : ℕ) (q : Place) (f : StickFault) → at_end last q ≡ Err f
    → f ≡ record { line = last; kind = Unended }
unended_as last AtHead f e = cc
unended_as last (AfterCells named n) f e = cc
unended_as last (InCell named n) f e = cc
unended_as last (InGrid named) f e = cc
unended_as last (AtEnd named) f e = absurd cc

first_of_stop : (text : List ℕ) (f : StickFault) → design_of text ≡ Err f
    → Stops (last_line text) AtHead (said_lines text) f → IsFirstFault text f
first_of_stop text f e (inl x) = inl (record {
  prefix = x.prefix;
  next = x.next;
  after = x.after;
  parts = x.parts;
  sound = sound_at x.prefix x.place x.reach;
  line = x.line;
  cause = cause_of x.prefix x.next x.place f.kind x.reach x.cause;
})
first_of_stop text f e (inr x) = inr (record {
  sound = sound_at (said_lines text) x.0 x.1;
  none = λ design h. let read = design_read text design h in absurd cc;
  told = unended_as (last_line text) x.0 f x.2;
})

pub first_fault : (text : List ℕ) (f : StickFault) → design_of text ≡ Err f → IsFirstFault text f
unfolding design_of
first_fault text f e =
    let last = last_line text in
    let found : IfErr (design_of text) (Stops last AtHead (said_lines text)) =
    then_fault (Stops last AtHead (said_lines text)) (rest_from last AtHead (said_lines text))
    (λ rest. Ok (design_in rest)) (stops last AtHead (said_lines text)) (λ rest is. tt) in
    first_of_stop text f e
    (subst (λ (r : Result Design StickFault). IfErr r (Stops last AtHead (said_lines text))) e found)

-- ---- the first fault is told

then_ok : {A E : Type 0} (r : Result A E) → r ≡ (r >>= λ x. Ok x)
then_ok (Ok x) = refl
then_ok (Err e) = refl

then_twice : {A B C E : Type 0} (r : Result A E) (f : A → B) (g : B → C)
    → ((r >>= λ x. Ok (f x)) >>= λ y. Ok (g y)) ≡ (r >>= λ x. Ok (g (f x)))
then_twice (Ok x) f g = refl
then_twice (Err e) f g = refl

-- what stands after lines that lead somewhere is read from there
reads_on : (last : ℕ) (p q : Place) (es more : List Entry) → Reaches p es q
    → (f : Rest → Rest) × (rest_from last p (es ++ more) ≡ (rest_from last q more >>= λ rest. Ok (f rest)))
reads_on last p q [] more r = (λ rest. rest, ap (λ x. rest_from last x more) r ∙ then_ok (rest_from last q more))
reads_on last p q (e ∷ es) more r =
    let others = reads_on last r.1 q es more r.4 in
    let after : Result Place StickKind → Result Rest StickFault =
    λ place. at_line e.number place >>= λ next. rest_from last next (es ++ more) >>= λ rest.
    Ok (with_line e.number r.0 rest) in (
      λ rest. with_line e.number r.0 (others.0 rest),
      ap (λ (said : Result Statement StickKind). at_line e.number said >>= λ s.
          at_line e.number (place_after p s) >>= λ next. rest_from last next (es ++ more) >>= λ rest.
          Ok (with_line e.number s rest)) r.2
          ∙ ap after r.3
          ∙ ap (λ (read : Result Rest StickFault). read >>= λ rest. Ok (with_line e.number r.0 rest)) others.1
          ∙ then_twice (rest_from last q more) others.0 (λ rest. with_line e.number r.0 rest),
    )

some_or_none : (o : Option LineState) → (o ≡ None) ⊎ ((m : LineState) × (o ≡ Some m))
some_or_none None = inl refl
some_or_none (Some m) = inr (m, refl)

bad_head : (first second : Bool) → turn_head first second ≡ None
    → cond first (Ok (AfterCells false 0)) (cond second (Ok (AfterCells true 0)) (Err BadLine)) ≡ Err BadLine
bad_head true second e = absurd cc
bad_head false true e = absurd cc
bad_head false false e = refl

bad_after : (q : Place) (s : Statement) → turn (state_of q) s ≡ None → place_after q s ≡ Err BadLine
bad_after AtHead (Version version) e = bad_head (eqb version 1) (eqb version 2) e
bad_after (AfterCells named n) (Cell name) e = absurd cc
bad_after (InCell named n) (Item form) e = absurd cc
bad_after (InCell named n) End e = absurd cc
bad_after (AfterCells false n) (Grid None) e = absurd cc
bad_after (AfterCells true n) (Grid (Some name)) e = absurd cc
bad_after (InGrid named) (Row row) e = absurd cc
bad_after (InGrid named) End e = absurd cc
bad_after (AtEnd true) (Grid (Some name)) e = absurd cc
bad_after q s e = refl

full_after : (q : Place) (name : List ℕ) (c : ℕ) (m : LineState) → At q c → c ≡ 256
    → option_and_then (λ n. Some n) (turn (state_of q) (Cell name)) ≡ Some m
    → place_after q (Cell name) ≡ Err TooManyCells
full_after AtHead name c m h full e = absurd cc
full_after (AfterCells named n) name c m h full e =
    ap (λ (k : ℕ). cond (eqb k 256) (Err TooManyCells) (Ok (InCell named (n + 1)))) (sym h.0 ∙ full)
full_after (InCell named n) name c m h full e = absurd cc
full_after (InGrid named) name c m h full e = absurd cc
full_after (AtEnd false) name c m h full e = absurd cc
full_after (AtEnd true) name c m h full e = absurd cc

no_turn_of : (prefix : List Entry) (next : Entry) (q : Place) (s : Statement) → Reaches AtHead prefix q
    → next.said ≡ Ok s → ¬ BeginDesign (prefix ++ next ∷ [])
    → (turn (state_of q) s ≡ None) ⊎ ((m : LineState) × (turn (state_of q) s ≡ Some m)) → turn (state_of q) s ≡ None
no_turn_of prefix next q s r said never (inl e) = e
no_turn_of prefix next q s r said never (inr x) =
    absurd (never
    (walk_begins (prefix ++ next ∷ []) x.0 (one_more prefix next q s r said
    ∙ ap (option_and_then (λ m. Some m)) x.1)))

refused_by : (prefix : List Entry) (next : Entry) (q : Place) (kind : StickKind) → Reaches AtHead prefix q
    → Cause prefix next kind → Refuses q next kind
refused_by prefix next q kind r (inl own) = inl own
refused_by prefix next q kind r (inr (inl bad)) = inr (
  bad.statement,
  bad.said,
  bad_after q bad.statement
      (no_turn_of prefix next q bad.statement r bad.said bad.none (some_or_none (turn (state_of q) bad.statement)))
      ∙ ap (λ (k : StickKind). Err k) (sym bad.told),
)
refused_by prefix next q kind r (inr (inr many)) =
    let w = begun_walks (prefix ++ next ∷ []) many.begin in
    let count = reach_counts AtHead q prefix 0 refl r in
    inr (
      Cell many.name,
      many.said,
      full_after q many.name (0 + cell_lines prefix) w.0 count
          (omega (arith, many.full)) (sym (one_more prefix next q (Cell many.name) r many.said) ∙ w.1)
          ∙ ap (λ (k : StickKind). Err k) (sym many.told),
    )

refuses_next : (last : ℕ) (q : Place) (next : Entry) (after : List Entry) (kind : StickKind) → Refuses q next kind
    → rest_from last q (next ∷ after) ≡ Err (record { line = next.number; kind = kind })
refuses_next last q next after kind (inl own) =
    ap (λ (said : Result Statement StickKind). at_line next.number said >>= λ s.
    at_line next.number (place_after q s) >>= λ to. rest_from last to after >>= λ rest.
    Ok (with_line next.number s rest)) own
refuses_next last q next after kind (inr x) =
    ap (λ (said : Result Statement StickKind). at_line next.number said >>= λ s.
    at_line next.number (place_after q s) >>= λ to. rest_from last to after >>= λ rest.
    Ok (with_line next.number s rest)) x.1
    ∙ ap (λ (place : Result Place StickKind). at_line next.number place >>= λ to. rest_from last to after >>= λ rest.
    Ok (with_line next.number x.0 rest)) x.2

break_told : (last : ℕ) (text : List ℕ) (f : StickFault) → BreaksAt text f
    → rest_from last AtHead (said_lines text) ≡ Err f
break_told last text f h =
    let to = reached_by h.prefix h.sound in
    let on = reads_on last AtHead to.0 h.prefix (h.next ∷ h.after) to.1 in
    let stop = refuses_next last to.0 h.next h.after f.kind (refused_by h.prefix h.next to.0 f.kind to.1 h.cause) in
    ap (rest_from last AtHead) h.parts ∙ on.1
    ∙ ap (λ (read : Result Rest StickFault). read >>= λ rest. Ok (on.0 rest)) stop
    ∙ ap (λ (n : ℕ). Err (record { line = n; kind = f.kind })) (sym h.line)

ends_or : (last : ℕ) (q : Place) → (at_end last q ≡ Err (record { line = last; kind = Unended }))
    ⊎ ((rest : Rest) × (at_end last q ≡ Ok rest))
ends_or last AtHead = inl refl
ends_or last (AfterCells named n) = inl refl
ends_or last (InCell named n) = inl refl
ends_or last (InGrid named) = inl refl
ends_or last (AtEnd named) = inr (Rattle.stick_text.specs.Order.nothing, refl)

all_read : (last : ℕ) (text : List ℕ) (q : Place) (r : Reaches AtHead (said_lines text) q)
    (end : Result Rest StickFault) → at_end last q ≡ end → (f : Rest → Rest)
    × (rest_from last AtHead (said_lines text) ≡ (end >>= λ rest. Ok (f rest)))
all_read last text q r end e =
    let on = reads_on last AtHead q (said_lines text) [] r in (
      on.0,
      ap (rest_from last AtHead) (sym (append-nil (said_lines text))) ∙ on.1
          ∙ ap (λ (read : Result Rest StickFault). read >>= λ rest. Ok (on.0 rest)) e,
    )

design_by : (text : List ℕ) (read : Result Rest StickFault)
    → rest_from (last_line text) AtHead (said_lines text) ≡ read
    → design_of text ≡ (read >>= λ rest. Ok (design_in rest))
unfolding design_of
design_by text read e = ap (λ (r : Result Rest StickFault). r >>= λ rest. Ok (design_in rest)) e

end_told : (text : List ℕ) (f : StickFault) (q : Place) → IsUnended text f → Reaches AtHead (said_lines text) q
    → (at_end (last_line text) q ≡ Err (record { line = last_line text; kind = Unended }))
    ⊎ ((rest : Rest) × (at_end (last_line text) q ≡ Ok rest)) → design_of text ≡ Err f
end_told text f q h r (inl e) = design_by text _ (all_read (last_line text) text q r _ e).1
    ∙ ap (λ (g : StickFault). Err g) (sym h.told)
end_told text f q h r (inr x) =
    let all = all_read (last_line text) text q r _ x.1 in
    absurd (h.none (design_in (all.0 x.0)) (design_said text (design_in (all.0 x.0)) (design_by text _ all.1)))

pub fault_told : (text : List ℕ) (f : StickFault) → IsFirstFault text f → design_of text ≡ Err f
fault_told text f (inl h) = design_by text (Err f) (break_told (last_line text) text f h)
fault_told text f (inr h) = let to =
    reached_by (said_lines text) h.sound in end_told text f to.0 h to.1 (ends_or (last_line text) to.0)

-- ---- one answer

pub some_answer : (text : List ℕ) (r : Result Design StickFault) → design_of text ≡ r
    → ((design : Design) × SaysDesign text design) ⊎ ((fault : StickFault) × IsFirstFault text fault)
some_answer text (Ok design) e = inl (design, design_said text design e)
some_answer text (Err fault) e = inr (fault, first_fault text fault e)

abbrev read_as : Design → Result Design StickFault
read_as design = Ok design

abbrev refused_as : StickFault → Result Design StickFault
refused_as fault = Err fault

same_design : (a b : Design) → read_as a ≡ read_as b → a ≡ b
same_design a b e = cc

same_fault : (a b : StickFault) → refused_as a ≡ refused_as b → a ≡ b
same_fault a b e = cc

pub one_design : (text : List ℕ) (a b : Design) → SaysDesign text a → SaysDesign text b → a ≡ b
one_design text a b h k = same_design a b (sym (design_read text a h) ∙ design_read text b k)

pub one_fault : (text : List ℕ) (a b : StickFault) → IsFirstFault text a → IsFirstFault text b → a ≡ b
one_fault text a b h k = same_fault a b (sym (fault_told text a h) ∙ fault_told text b k)

pub not_both : (text : List ℕ) (design : Design) (fault : StickFault) → SaysDesign text design
    → ¬ IsFirstFault text fault
not_both text design fault h k =
    let read : read_as design ≡ refused_as fault = sym (design_read text design h) ∙ fault_told text fault k in
    absurd cc

pub tells : (text : List ℕ) (r : Result Design ParseFault) → Gives (λ design. design) r (design_of text) → Tells text r
tells text (Ok design) e = design_said text design e
tells text (Err (faults.Stick fault)) e = first_fault text fault e
tells text (Err faults.OutOfMemory) e = tt
