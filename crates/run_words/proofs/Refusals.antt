-- A line in which a name stands twice is refused.
use Rattle.std.proofs.Common.{◌≡◌, ◌∙◌, ◌⊎◌, ◌&&◌, ◌||◌, ℕ, Bool, true, false, not, codes, refl, sym, ap, subst, List}
use Rattle.std.proofs.{Common.{[], ◌∷◌, ◌++◌, map, fold, Option, None, inl, inr, true≢false}, Math.Bool.or-false}
use Rattle.std.proofs.lemmas.{Slice.Eq.bytes_eq-Decides, List.Folds.list_any-append}
use Rattle.std.specs.{Prelude.{flat_map, if◌then◌else◌}, List.{list_all, list_any}, Option.option_map_or, Str.bytes_eq}
use Rattle.clap.specs.{Words.{App, Kinds, Row, Rule, Text, fault_of}, Walk.{Held, Step, Walk, has_row, idle}}
use Rattle.clap.specs.{Walk.{nothing_held, option, value, walk, walk_from, walked}, Simple.{Shape, argument_words}}
use Rattle.clap.specs.{Simple.built, Kinds.or_else, Faults.{built_fault, level_fault, positional_fault, react_fault}}
use Rattle.clap.specs.Faults.{settle_fault, step_fault, stray_fault, turn_fault, use_fault, walk_fault, word_fault}
use Rattle.clap.specs.declared.error.kind.ErrorKind.TheVariants.{InvalidSubcommand as subcommand}
use Rattle.clap.specs.declared.error.kind.ErrorKind.TheVariants.{UnknownArgument as unknown}
use Rattle.clap.proofs.{FaultLemmas.leaf_fault, WalkLemmas.{both, list_any-map}}
use Rattle.run_words.specs.{Lines.{found_in, without_fault}, PlainLines.{Part, alone, apart, joined, are_new}}
use Rattle.run_words.specs.PlainLines.{begins_with_dash, is_plain, name_of, words_of}
use Rattle.run_words.proofs.Steps.{Settles, TakesOne, alone_passes, alone_walks, between, free, free_settles}
use Rattle.run_words.proofs.Steps.{held_settles, holding, joined_passes, joined_walks, name_passes, name_walks}
use Rattle.run_words.proofs.{Steps.{plain_met, row_for, state, value_walks}, Parts.{Fits, IsLine, is_operand_part}}
use Rattle.run_words.proofs.Parts.{not_true, once_only, row_of_part, rows_more, still_first}

-- some kind of error comes
abbrev pub fails : Kinds → Bool
fails [] = false
fails (k ∷ ks) = true

fails_first : (a b : Kinds) → fails a ≡ true → fails (or_else a b) ≡ true
fails_first [] b e = absurd (true≢false (sym e))
fails_first (k ∷ ks) b e = refl

fails_later : (a b : Kinds) → fails b ≡ true → fails (or_else a b) ≡ true
fails_later [] b e = e
fails_later (k ∷ ks) b e = refl

fails_stray : (s : Shape) → fails (stray_fault s) ≡ true
fails_stray s = go s.is_leaf
  where
    go : (b : Bool) → fails (if b then unknown ∷ [] else unknown ∷ subcommand ∷ []) ≡ true
    go true = refl
    go false = refl

fails_twice : (rules : List Rule) (name : Text) (a : Rule) (v : Text) (rows : List Row) → TakesOne rules name a
    → has_row name rows ≡ true
    → fails (use_fault false a (v ∷ []) rows) ≡ true
fails_twice rules name a v rows t some = rw (t.range, t.action, t.id, some) refl

-- the walk over the words meets a fault, or what is pending at its end is one
abbrev pub Refuses : Shape → Walk → List Text → Type 0
Refuses s w words = (fails (walk_fault s [] w words) ≡ true)
    ⊎ (fails (settle_fault s.rules s.args_override_self (fold (walked s.rules []) w words).held) ≡ true)

refuses_here : (s : Shape) (w : Walk) (word : Text) (words : List Text) → fails (turn_fault s [] w word) ≡ true
    → Refuses s w (word ∷ words)
unfolding walk_fault
refuses_here s w word words e = inl (fails_first _ (walk_fault s [] (walked s.rules [] w word) words) e)

refuses_later : (s : Shape) (w next_w : Walk) (word : Text) (words : List Text) → walked s.rules [] w word ≡ next_w
    → Refuses s next_w words → Refuses s w (word ∷ words)
unfolding walk_fault
refuses_later s w next_w word words step r = elim (subst (λ (x : Walk). Refuses s x words) (sym step) r) [
  | inl walk ↦ inl (fails_later (turn_fault s [] w word) _ walk)
  | inr end ↦ inr end
]

-- ---- a part whose use is a fault

-- a fault of the word itself
word_refused : (s : Shape) (h : Held) (p : ℕ) (word : Text) (words : List Text)
    → fails (word_fault s [] false idle word h) ≡ true → Refuses s (between h p) (word ∷ words)
word_refused s h p word words e = refuses_here s (between h p) word words (fails_first _ _ e)

-- a fault of the place where the word stands
place_refused : (s : Shape) (h : Held) (p : ℕ) (v : Text) (words : List Text) → begins_with_dash v ≡ false
    → fails (step_fault s p h value) ≡ true → Refuses s (between h p) (v ∷ words)
place_refused s h p v words plain e =
    refuses_here s (between h p) v words
    (fails_later (word_fault s [] false idle v h) _
    (subst (λ (x : Held × Step). fails (step_fault s p x.0 x.1) ≡ true) (sym (plain_met s.rules p v h plain)) e))

module _ (s : Shape) (names : List Text) (f : Fits s names) where
  stray_refused : (h : Held) (p : ℕ) → p ≡ 2 → fails (step_fault s p h value) ≡ true
  stray_refused h p second =
      ap (λ q. fails (step_fault s q h value)) second
      ∙ ap (λ (a : Option Rule).
      fails (option_map_or (λ (x : Rule). positional_fault s.rules s.args_override_self x h) a
      (stray_fault s))) f.second ∙ fails_stray s

  clash : (parts : List Part) (h : Held) (p : ℕ) → (p ≡ 1) ⊎ (p ≡ 2)
      → fails (settle_fault s.rules s.args_override_self h) ≡ true → list_all (is_plain names) parts ≡ true
      → Refuses s (between h p) (flat_map words_of parts)
  clash [] h p at e plain = inr e
  clash (alone v ∷ ps) h p at e plain =
      let dash = not_true _ (both _ (list_all (is_plain names) ps) plain).0 in
      place_refused s h p v (flat_map words_of ps) dash (elim at [
        | inl first ↦ ap (λ q. fails (step_fault s q h value)) first
            ∙ ap fails (alone_passes s f.operand h f.is_operand) ∙ e
        | inr second ↦ stray_refused h p second
      ])
  clash (apart name v ∷ ps) h p at e plain =
      let looks = both (not (begins_with_dash v)) (list_any (bytes_eq name) names)
      (both _ (list_all (is_plain names) ps) plain).0 in
      let o = f.options name looks.1 in
      word_refused s h p (45 ∷ 45 ∷ name) (v ∷ flat_map words_of ps) (ap fails (name_passes s name o.0 h o.1) ∙ e)
  clash (joined name v ∷ ps) h p at e plain =
      let o = f.options name (both _ (list_all (is_plain names) ps) plain).0 in
      word_refused s h p (45 ∷ 45 ∷ (name ++ 61 ∷ v)) (flat_map words_of ps)
      (ap fails (joined_passes s name o.0 v h o.1) ∙ fails_first _ _ e)

  held_clashes : (name : Text) (a : Rule) (v : Text) (rows : List Row) → TakesOne s.rules name a
      → has_row name rows ≡ true
      → fails (settle_fault s.rules s.args_override_self (holding rows name (v ∷ []))) ≡ true
  held_clashes name a v rows t some =
      ap (λ (o : Option Rule).
      fails (option_map_or (λ (x : Rule). use_fault s.args_override_self x (v ∷ []) rows) o [])) t.here
      ∙ ap (λ b. fails (use_fault b a (v ∷ []) rows)) f.once ∙ fails_twice s.rules name a v rows t some

  reacted_clashes : (name : Text) (a : Rule) (v : Text) (h : Held) (rows : List Row) → TakesOne s.rules name a
      → has_row name rows ≡ true → Settles s h rows
      → fails (react_fault s.rules s.args_override_self a (v ∷ []) h) ≡ true
  reacted_clashes name a v h rows t some st =
      fails_later (settle_fault s.rules s.args_override_self h) _
      (ap (λ (x : Held). fails (use_fault s.args_override_self a (v ∷ []) x.rows)) st.to
      ∙ ap (λ b. fails (use_fault b a (v ∷ []) rows)) f.once
      ∙ fails_twice s.rules name a v rows t some)

  -- where the operand stands next
  abbrev Place : List Part → ℕ → Type 0
  Place before p = (list_any is_operand_part before ≡ false → p ≡ 1) × (list_any is_operand_part before ≡ true → p ≡ 2)

  in_place : (before : List Part) (p : ℕ) → Place before p → (p ≡ 1) ⊎ (p ≡ 2)
  in_place before p place = go (list_any is_operand_part before) refl
    where
      go : (b : Bool) → list_any is_operand_part before ≡ b → (p ≡ 1) ⊎ (p ≡ 2)
      go true e = inr (place.1 e)
      go false e = inl (place.0 e)

  no_operand : (name : Text) → list_any (bytes_eq name) names ≡ true → bytes_eq name (codes "operand") ≡ false
  no_operand name known = go (bytes_eq name (codes "operand")) refl
    where
      go : (b : Bool) → bytes_eq name (codes "operand") ≡ b → bytes_eq name (codes "operand") ≡ false
      go true e =
          let is : name ≡ codes "operand" = (bytes_eq-Decides name (codes "operand")).0 e in
          absurd (true≢false (sym (subst (λ (n : Text). list_any (bytes_eq n) names ≡ true) is known) ∙ f.others))
      go false e = e

  option_keeps : (before : List Part) (part : Part) (p : ℕ) → bytes_eq (name_of part) (codes "operand") ≡ false
      → Place before p → Place (before ++ part ∷ []) p
  option_keeps before part p other place = (
    still_first before part p place.0,
    (λ some.
        place.1 (sym (list_any-append is_operand_part before (part ∷ [])
        ∙ ap (λ b. list_any is_operand_part before || (b || false)) other ∙ or-false _) ∙ some)),
  )

  has_it : (before : List Part) (name : Text) → list_any (λ old. bytes_eq (name_of old) name) before ≡ true
      → has_row name (map row_of_part before) ≡ true
  has_it before name e = sym (list_any-map (λ (r : Row). bytes_eq r.id name) row_of_part before) ∙ e

  is_new_or : (b c : Bool) → (not b && c) ≡ false → b ≡ false → c ≡ false
  is_new_or true c e fresh = absurd (true≢false fresh)
  is_new_or false c e fresh = e

  twice : (parts before : List Part) (h : Held) (p : ℕ) → Settles s h (map row_of_part before) → Place before p
      → list_all (is_plain names) parts ≡ true → are_new before parts ≡ false
      → Refuses s (between h p) (flat_map words_of parts)
  twice [] before h p st place plain new = absurd (true≢false new)
  twice (alone v ∷ ps) before h p st place plain new =
      go (list_any is_operand_part before) refl (λ held fresh. twice ps (before ++ alone v ∷ []) _ 2 held
      ((λ none. absurd (once_only before v none)), (λ some. refl)) (both _ _ plain).1
      (is_new_or _ (are_new (before ++ alone v ∷ []) ps) new fresh))
    where
      dash : begins_with_dash v ≡ false
      dash = not_true _ (both _ (list_all (is_plain names) ps) plain).0

      go : (b : Bool) → list_any is_operand_part before ≡ b
          → (Settles s (holding (map row_of_part before) (codes "operand") (v ∷ []))
          (map row_of_part (before ++ alone v ∷ [])) → list_any is_operand_part before ≡ false
          → Refuses s (between (holding (map row_of_part before) (codes "operand") (v ∷ [])) 2) (flat_map words_of ps))
          → Refuses s (between h p) (v ∷ flat_map words_of ps)
      go true e more = place_refused s h p v (flat_map words_of ps) dash (stray_refused h p (place.1 e))
      go false e more =
          let none = sym (list_any-map (λ (r : Row). bytes_eq r.id (codes "operand")) row_of_part before) ∙ e in
          let held = subst (Settles s _) (rows_more before (alone v))
          (held_settles s (codes "operand") f.operand v (map row_of_part before) f.is_operand.takes none) in
          subst (λ q. Refuses s (between h q) (v ∷ flat_map words_of ps)) (sym (place.0 e))
          (refuses_later s (between h 1) _ v (flat_map words_of ps)
          (alone_walks s f.operand v h (map row_of_part before) f.is_operand dash st) (more held e))
  twice (apart name v ∷ ps) before h p st place plain new =
      go (list_any (λ old. bytes_eq (name_of old) name) before) refl
      (λ held fresh. twice ps (before ++ apart name v ∷ []) _ p held
      (option_keeps before (apart name v) p (no_operand name looks.1) place) (both _ _ plain).1
      (is_new_or _ (are_new (before ++ apart name v ∷ []) ps) new fresh))
    where
      looks : (not (begins_with_dash v) ≡ true) × (list_any (bytes_eq name) names ≡ true)
      looks = both (not (begins_with_dash v)) (list_any (bytes_eq name) names)
          (both _ (list_all (is_plain names) ps) plain).0

      rows : List Row
      rows = map row_of_part before

      passed : Refuses s (between (holding rows name (v ∷ [])) p) (flat_map words_of ps)
          → Refuses s (between h p) ((45 ∷ 45 ∷ name) ∷ v ∷ flat_map words_of ps)
      passed r =
          let o = f.options name looks.1 in
          refuses_later s (between h p) _ (45 ∷ 45 ∷ name) (v ∷ flat_map words_of ps)
          (name_walks s name o.0 h p rows o.1 st)
          (refuses_later s (state (holding rows name []) (option name) p) _ v (flat_map words_of ps)
          (value_walks s name o.0 v p rows o.1 (not_true _ looks.0)) r)

      go : (b : Bool) → list_any (λ old. bytes_eq (name_of old) name) before ≡ b
          → (Settles s (holding rows name (v ∷ [])) (map row_of_part (before ++ apart name v ∷ []))
          → list_any (λ old. bytes_eq (name_of old) name) before ≡ false
          → Refuses s (between (holding rows name (v ∷ [])) p) (flat_map words_of ps))
          → Refuses s (between h p) ((45 ∷ 45 ∷ name) ∷ v ∷ flat_map words_of ps)
      go true e more =
          let o = f.options name looks.1 in
          passed (clash ps (holding rows name (v ∷ [])) p (in_place before p place)
          (held_clashes name o.0 v rows o.1.takes (has_it before name e)) (both _ _ plain).1)
      go false e more =
          let o = f.options name looks.1 in
          let none = sym (list_any-map (λ (r : Row). bytes_eq r.id name) row_of_part before) ∙ e in
          passed (more
          (subst (Settles s _) (rows_more before (apart name v)) (held_settles s name o.0 v rows o.1.takes none))
          e)
  twice (joined name v ∷ ps) before h p st place plain new =
      go (list_any (λ old. bytes_eq (name_of old) name) before) refl
      (λ held fresh. twice ps (before ++ joined name v ∷ []) _ p held
      (option_keeps before (joined name v) p (no_operand name known) place) (both _ _ plain).1
      (is_new_or _ (are_new (before ++ joined name v ∷ []) ps) new fresh))
    where
      known : list_any (bytes_eq name) names ≡ true
      known = (both _ (list_all (is_plain names) ps) plain).0

      rows : List Row
      rows = map row_of_part before

      go : (b : Bool) → list_any (λ old. bytes_eq (name_of old) name) before ≡ b
          → (Settles s (free (rows ++ row_for name v ∷ [])) (map row_of_part (before ++ joined name v ∷ []))
          → list_any (λ old. bytes_eq (name_of old) name) before ≡ false
          → Refuses s (between (free (rows ++ row_for name v ∷ [])) p) (flat_map words_of ps))
          → Refuses s (between h p) ((45 ∷ 45 ∷ (name ++ 61 ∷ v)) ∷ flat_map words_of ps)
      go true e more =
          let o = f.options name known in
          word_refused s h p (45 ∷ 45 ∷ (name ++ 61 ∷ v)) (flat_map words_of ps)
          (ap fails (joined_passes s name o.0 v h o.1)
          ∙ reacted_clashes name o.0 v h rows o.1.takes (has_it before name e) st)
      go false e more =
          let o = f.options name known in
          let none = sym (list_any-map (λ (r : Row). bytes_eq r.id name) row_of_part before) ∙ e in
          refuses_later s (between h p) _ (45 ∷ 45 ∷ (name ++ 61 ∷ v)) (flat_map words_of ps)
          (joined_walks s name o.0 v h p rows o.1 none st)
          (more (subst (Settles s _) (rows_more before (joined name v))
          (free_settles s (rows ++ row_for name v ∷ []))) e)

-- ---- the whole line

none_found : (k : Kinds) (rows : List Row) → fails k ≡ true → without_fault k rows ≡ None
none_found [] rows e = absurd (true≢false (sym e))
none_found (x ∷ xs) rows e = refl

pub line_refused : (app : App) (names : List Text) → IsLine app names → (word : Text) (parts : List Part)
    → list_all (is_plain names) parts ≡ true → are_new [] parts ≡ false
    → found_in app (word ∷ flat_map words_of parts) ≡ None
unfolding found_in
line_refused app names line word parts plain new =
    none_found (fault_of app (word ∷ flat_map words_of parts)) _
    (ap fails (ap (built_fault (built app) nothing_held) given
    ∙ leaf_fault (built app) nothing_held words line.subs) ∙ fails_there)
  where
    words : List Text
    words = flat_map words_of parts

    s : Shape
    s = (built app).top

    given : argument_words app (word ∷ words) ≡ words
    given = rw line.named refl

    fails_there : fails (level_fault s [] nothing_held words false []) ≡ true
    fails_there =
        elim (twice s names line.fits parts [] nothing_held 1 (free_settles s [])
        ((λ none. refl), (λ some. absurd (true≢false (sym some)))) plain new) [
          | inl walk ↦ fails_first _ _ walk
          | inr end ↦ fails_later (walk_fault s [] (walk_from nothing_held) words) _ (fails_first _ _ end)
        ]
