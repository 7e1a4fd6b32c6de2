-- How a symbol begins and ends, as the code reads it.
use Rattle.std.proofs.Common.{◌≡◌, ℕ, ◌+◌, ◌≤◌, ℤ, pos, ◌⊎◌, inl, inr, List, [], ◌∷◌, ◌++◌, length, drop, refl, sym, ap}
use Rattle.std.proofs.{Common.{◌∙◌, subst, arith}, lemmas.{Bool.eqb-false, List.{drop-drop, length-drop}}}
use Rattle.cif_lex.specs.declared.{command.Command.{Command, TheVariants.{Define, Finish}}, numbers.Number.Number}
use Rattle.cif_lex.specs.{declared.numbers.Pair.Pair, Words.{Word, letter, number}, Reading.{IsRead, AreRead}}
use Rattle.cif_lex.specs.{Reading.{IsNumberRead, IsPairRead}, Forms.{IsLedBy, Ends, Takes, IsForm}}
use Rattle.cif_lex.proofs.{OneWord.{same_letter, same_number, no_word_ends}, CommandWords.{begins, AreBracketWords}}
use Rattle.cif_lex.proofs.{CommandWords.bracket_words, AreaForm.same_pair}

-- ---- after D and S

-- a number, and after it two more or none
record IsDefinition (mid s : List ℕ) : Type 0 where
  n : ℤ
  between : List ℕ
  symbol : IsRead (number n) mid between
  scale : (between ≡ s) ⊎ ((a b : ℤ) × AreRead (number a ∷ number b ∷ []) between s)

-- after D and F
abbrev IsBracket : List ℕ → List ℕ → Type 0
IsBracket mid s = ((after : List ℕ) × IsRead (letter 83) mid after × IsDefinition after s) ⊎ IsRead (letter 70) mid s

bracket_of : (c : Command) (text mid s : List ℕ) → IsRead (letter 68) text mid → Takes c text s → Ends s
    → IsBracket mid s
bracket_of c text mid s is takes ends =
    let b = begins c text mid s 68 refl is takes ends in
    by_words b.0 (bracket_words c b.0 b.1) b.2
  where
    by_words : (more : List Word) → AreBracketWords more → AreRead more mid s → IsBracket mid s
    by_words more (inl (n, x, y, e)) read =
        let r : AreRead (letter 83 ∷ number n ∷ number x ∷ number y ∷ []) mid s =
        subst (λ (ws : List Word). AreRead ws mid s) e read in
        inl (r.0, r.1, record { n = n; between = r.2.0; symbol = r.2.1; scale = inr (x, y, r.2.2) })
    by_words more (inr (inl (n, e))) read =
        let r : AreRead (letter 83 ∷ number n ∷ []) mid s = subst (λ (ws : List Word). AreRead ws mid s) e read in
        inl (r.0, r.1, record { n = n; between = r.2.0; symbol = r.2.1; scale = inl r.2.2 })
    by_words more (inr (inr e)) read =
        let r : AreRead (letter 70 ∷ []) mid s = subst (λ (ws : List Word). AreRead ws mid s) e read in
        inr (subst (λ (t : List ℕ). IsRead (letter 70) mid t) r.2 r.1)

definition_of : (c : Command) (text mid after s : List ℕ) → IsRead (letter 68) text mid → IsRead (letter 83) mid after
    → Takes c text s → Ends s → IsDefinition after s
definition_of c text mid after s is it takes ends = go (bracket_of c text mid s is takes ends)
  where
    go : IsBracket mid s → IsDefinition after s
    go (inl (other, read, def)) =
        subst (λ (t : List ℕ). IsDefinition t s) (same_letter 83 83 mid other after read it).1 def
    go (inr read) = absurd (eqb-false 70 83 refl (same_letter 70 83 mid s after read it).0)

pub no_symbol : (text mid after : List ℕ) → IsRead (letter 68) text mid → IsRead (letter 83) mid after
    → ((n : ℤ) (rest : List ℕ) → IsRead (number n) after rest → ⊥)
    → (c : Command) (rest : List ℕ) → Takes c text rest → Ends rest → ⊥
no_symbol text mid after is it none c rest takes ends = let d =
    definition_of c text mid after rest is it takes ends in none d.n d.between d.symbol

symbol_at : (text : List ℕ) (begin : ℕ) (symbol : Number) → IsNumberRead (drop begin text) symbol
    → IsRead (number symbol.value) (drop begin text) (drop (begin + symbol.length) text)
symbol_at text begin symbol is =
    subst (λ (t : List ℕ). IsRead (number symbol.value) (drop begin text) t) (drop-drop symbol.length begin text)
    is.is_read

pub definition_scaled : (text mid : List ℕ) (begin : ℕ) (symbol : Number) (scale : Pair) → begin ≤ length text
    → IsRead (letter 68) text mid → IsRead (letter 83) mid (drop begin text)
    → IsNumberRead (drop begin text) symbol → IsPairRead (drop (begin + symbol.length) text) scale
    → IsForm text
    (record {
      command = Define symbol.value scale.first scale.second;
      length = begin + symbol.length + scale.length;
    })
definition_scaled text mid begin symbol scale le is it first second = record {
  within = omega (arith, length-drop begin text, length-drop (begin + symbol.length) text, first.within, second.within);
  takes = (
    letter 68 ∷ letter 83 ∷ number symbol.value ∷ number scale.first ∷ number scale.second ∷ [],
    inl refl,
    (mid, is, (drop begin text, it, (drop end text, one, pair))),
  );
  only = λ c rest takes ends. by_scale rest (definition_of c text mid (drop begin text) rest is it takes ends) ends;
}
  where
    end : ℕ
    end = begin + symbol.length

    one : IsRead (number symbol.value) (drop begin text) (drop (begin + symbol.length) text)
    one = symbol_at text begin symbol first

    pair : AreRead (number scale.first ∷ number scale.second ∷ []) (drop (begin + symbol.length) text)
        (drop (begin + symbol.length + scale.length) text)
    pair = subst
        (λ (t : List ℕ). AreRead (number scale.first ∷ number scale.second ∷ []) (drop (begin + symbol.length) text)
        t) (drop-drop scale.length (begin + symbol.length) text) second.are_read

    by_scale : (rest : List ℕ) → IsDefinition (drop begin text) rest → Ends rest
        → rest ≡ drop (begin + symbol.length + scale.length) text
    by_scale rest d ends = go d.scale
      where
        same : d.between ≡ drop (begin + symbol.length) text
        same = (same_number d.n symbol.value (drop begin text) d.between (drop (begin + symbol.length) text) d.symbol
            one).1

        go : (d.between ≡ rest) ⊎ ((a b : ℤ) × AreRead (number a ∷ number b ∷ []) d.between rest)
            → rest ≡ drop (begin + symbol.length + scale.length) text
        go (inl e) =
            absurd (no_word_ends (number scale.first) (drop (begin + symbol.length) text) pair.0 tt pair.1
            (subst Ends (sym e ∙ same) ends))
        go (inr (a, b, read)) = same_pair a b scale.first scale.second (drop (begin + symbol.length) text) rest
            (drop (begin + symbol.length + scale.length) text)
            (subst (λ (t : List ℕ). AreRead (number a ∷ number b ∷ []) t rest) same read) pair

pub definition_alone : (text mid : List ℕ) (begin : ℕ) (symbol : Number) → begin ≤ length text
    → IsRead (letter 68) text mid → IsRead (letter 83) mid (drop begin text)
    → IsNumberRead (drop begin text) symbol
    → ((m n : ℤ) (rest : List ℕ) → AreRead (number m ∷ number n ∷ []) (drop (begin + symbol.length) text) rest → ⊥)
    → IsForm text (record { command = Define symbol.value (pos 1) (pos 1); length = begin + symbol.length })
definition_alone text mid begin symbol le is it first none = record {
  within = omega (arith, length-drop begin text, first.within);
  takes = (
    letter 68 ∷ letter 83 ∷ number symbol.value ∷ [],
    inr
        (refl, refl, refl),
    (mid, is, (drop begin text, it, (drop (begin + symbol.length) text, one, refl))),
  );
  only = λ c rest takes ends. let d =
      definition_of c text mid (drop begin text) rest is it takes ends in go rest d d.scale;
}
  where
    one : IsRead (number symbol.value) (drop begin text) (drop (begin + symbol.length) text)
    one = symbol_at text begin symbol first

    go : (rest : List ℕ) (d : IsDefinition (drop begin text) rest)
        → (d.between ≡ rest) ⊎ ((a b : ℤ) × AreRead (number a ∷ number b ∷ []) d.between rest)
        → rest ≡ drop (begin + symbol.length) text
    go rest d (inl e) = sym e
        ∙ (same_number d.n symbol.value (drop begin text) d.between (drop (begin + symbol.length) text) d.symbol
        one).1
    go rest d (inr (a, b, read)) =
        let same =
        (same_number d.n symbol.value (drop begin text) d.between (drop (begin + symbol.length) text) d.symbol
        one).1 in
        absurd (none a b rest (subst (λ (t : List ℕ). AreRead (number a ∷ number b ∷ []) t rest) same read))

-- ---- after D and F, and after D alone

pub led_by_letter : (b : ℕ) (text rest : List ℕ) → IsRead (letter b) text rest → IsLedBy b text
led_by_letter b text rest is =
    record { more = is.after; begun = is.joined ∙ ap (λ (t : List ℕ). t ++ is.after) is.is_spelled }

pub finish_form : (text mid : List ℕ) (n : ℕ) → n ≤ length text → IsRead (letter 68) text mid
    → IsRead (letter 70) mid (drop n text) → IsForm text (record { command = Finish; length = n })
finish_form text mid n le is it = record {
  within = le;
  takes = (letter 68 ∷ letter 70 ∷ [], refl, (mid, is, (drop n text, it, refl)));
  only = λ c rest takes ends. go rest (bracket_of c text mid rest is takes ends);
}
  where
    go : (rest : List ℕ) → IsBracket mid rest → rest ≡ drop n text
    go rest (inl (after, read, def)) =
        absurd (eqb-false 83 70 refl (same_letter 83 70 mid after (drop n text) read it).0)
    go rest (inr read) = (same_letter 70 70 mid rest (drop n text) read it).1

pub no_bracket : (text mid : List ℕ) → IsRead (letter 68) text mid → (IsLedBy 83 mid → ⊥) → (IsLedBy 70 mid → ⊥)
    → (c : Command) (rest : List ℕ) → Takes c text rest → Ends rest → ⊥
no_bracket text mid is no_s no_f c rest takes ends = go (bracket_of c text mid rest is takes ends)
  where
    go : IsBracket mid rest → ⊥
    go (inl (after, read, def)) = no_s (led_by_letter 83 mid after read)
    go (inr read) = no_f (led_by_letter 70 mid rest read)
