-- What one byte tells of the command that it begins.
use Rattle.std.proofs.Common.{◌≡◌, ℕ, zero, suc, ◌-◌, ◌<◌, ◌≤◌, ◌≢◌, true, false, ◌⊎◌, inl, inr, Option, Some, None}
use Rattle.std.proofs.Common.{List, [], ◌∷◌, ◌++◌, length, get_or, take, drop, refl, sym, ap, ◌∙◌, subst, arith}
use Rattle.std.proofs.lemmas.{Bool.{both_ways, false≢true, cases_lt}, List.{take-append-drop, drop_all}}
use Rattle.std.specs.{List.All, Char.is_ascii_digit}
use Rattle.cif_lex.specs.declared.{command.Command.{Command, TheVariants.{Nothing, Extension}}, forms.Form.Form}
use Rattle.cif_lex.specs.{Blanks.{IsCutOff, IsFilled}, Words.{Word, letter}, Commands.{HasWords, IsExtension}}
use Rattle.cif_lex.specs.{Reading.{IsStop, AreRead}, Forms.{IsLedBy, Ends, MayEnd, Takes, Reaches, IsFormAnswer}}
use Rattle.cif_lex.{specs.Forms.{IsBodyForm, IsBodyAnswer}, proofs.CommandWords.{IsHeaded, has_head, four_letters}}
use Rattle.cif_lex.proofs.{BracketForm.led_by_letter, Bodies.{may_end_ends, led_filled, filled_or_cut, takes_reaches}}
use Rattle.cif_lex.proofs.Bodies.{read_stop, IsExtensionOf, reaches_takes}

-- ---- the first byte of a command

-- a semicolon after no words, one of four letters, or a digit
abbrev pub IsFirstByte : ℕ → Type 0
IsFirstByte b = (b ≡ 59) ⊎ (((b ≡ 66) ⊎ ((b ≡ 67) ⊎ ((b ≡ 68) ⊎ (b ≡ 76)))) ⊎ (is_ascii_digit b ≡ true))

-- what a filled text begins with, if a command does
abbrev IsBegunBy : Command → ℕ → List ℕ → List ℕ → Type 0
IsBegunBy c b text rest = ((b ≡ 59) × (text ≡ rest))
    ⊎ (((b ≡ 66) ⊎ ((b ≡ 67) ⊎ ((b ≡ 68) ⊎ (b ≡ 76)))) ⊎ ((is_ascii_digit b ≡ true) × IsExtensionOf c text rest))

begun_by : (c : Command) (text rest more : List ℕ) (b : ℕ) → text ≡ b ∷ more → IsFilled text → Reaches c text rest
    → Ends rest → IsBegunBy c b text rest
begun_by c text rest more b e is reaches ends = by_words (reaches_takes c text rest reaches ends)
  where
    none : text ≡ rest → Ends rest → (b ≡ 59) × (text ≡ rest)
    none same (inl led) = (let d = led.begun in let both : b ∷ more ≡ 59 ∷ led.more = sym e ∙ (same ∙ d) in cc, same)
    none same (inr cut) = absurd (filled_or_cut text is (subst IsCutOff (sym same) cut))

    by_head : (words : List Word) → HasWords c words → AreRead words text rest → (words ≡ []) ⊎ IsHeaded words
        → IsBegunBy c b text rest
    by_head words has read (inl empty) = inl (none (subst (λ (ws : List Word). AreRead ws text rest) empty read) ends)
    by_head words has read (inr head) =
        let r : AreRead (letter head.first ∷ head.more) text rest =
        subst (λ (ws : List Word). AreRead ws text rest) head.begun read in
        let led = led_by_letter head.first text r.0 r.1 in
        let first : head.first ≡ b = let both : head.first ∷ led.more ≡ b ∷ more = sym led.begun ∙ e in cc in
        inr (inl
        (four_letters c b head.more
        (subst (HasWords c) (head.begun ∙ ap (λ (f : ℕ). letter f ∷ head.more) first) has)))

    by_words : Takes c text rest ⊎ IsExtensionOf c text rest → IsBegunBy c b text rest
    by_words (inl (words, has, read)) = by_head words has read (has_head c words has)
    by_words (inr it) =
        let first : it.extension.first ≡ b = let both : it.extension.first ∷ it.extension.more ++ rest ≡ b ∷ more =
        sym (ap (λ (t : List ℕ). t ++ rest) it.extension.begun) ∙ (sym it.joined ∙ e) in cc in
        inr (inr (subst (λ (k : ℕ). is_ascii_digit k ≡ true) first it.extension.digit, it))

-- no command begins with another byte
pub none_begins : (text more : List ℕ) (b : ℕ) → text ≡ b ∷ more → IsFilled text → (IsFirstByte b → ⊥)
    → (c : Command) (rest : List ℕ) → Reaches c text rest → MayEnd c rest → ⊥
none_begins text more b e is never c rest reaches may =
    go (begun_by c text rest more b e is reaches (may_end_ends c rest may))
  where
    go : IsBegunBy c b text rest → ⊥
    go (inl h) = never (inl h.0)
    go (inr (inl h)) = never (inr (inl h))
    go (inr (inr h)) = never (inr (inr h.0))

-- ---- letters

-- at one of the four letters the words are all there is
only_words : (c : Command) (text rest more : List ℕ) (b : ℕ) → text ≡ b ∷ more → is_ascii_digit b ≡ false
    → Reaches c text rest → Ends rest → Takes c text rest
only_words c text rest more b e no_digit reaches ends = go (reaches_takes c text rest reaches ends)
  where
    go : Takes c text rest ⊎ IsExtensionOf c text rest → Takes c text rest
    go (inl takes) = takes
    go (inr it) =
        let first : it.extension.first ≡ b = let both : it.extension.first ∷ it.extension.more ++ rest ≡ b ∷ more =
        sym (ap (λ (t : List ℕ). t ++ rest) it.extension.begun) ∙ (sym it.joined ∙ e) in cc in
        absurd (both_ways (is_ascii_digit b) no_digit
        (subst (λ (k : ℕ). is_ascii_digit k ≡ true) first it.extension.digit))

no_words : (c : Command) (words : List Word) → HasWords c words → c ≡ Extension → ⊥
no_words c words has e = subst (λ (d : Command). HasWords d words) e has

pub letter_answer : (text : List ℕ) (b : ℕ) (answer : Option Form) → IsLedBy b text → is_ascii_digit b ≡ false
    → IsFilled text → IsFormAnswer text answer → IsBodyAnswer text answer
letter_answer text b None led no_digit is none =
    λ c rest reaches may. let ends =
    may_end_ends c rest may in none c rest (only_words c text rest led.more b led.begun no_digit reaches ends)
    ends
letter_answer text b (Some form) led no_digit is it = record {
  within = it.within;
  reaches = takes_reaches form.command text (drop form.length text) it.takes;
  stop = read_stop it.takes.0 text (drop form.length text) (inr is) it.takes.2;
  extension_ends = λ e. absurd (no_words form.command it.takes.0 it.takes.1 e);
  only = λ c rest reaches may. let ends =
      may_end_ends c rest may in it.only c rest (only_words c text rest led.more b led.begun no_digit reaches ends)
      ends;
}

-- ---- no words

pub nothing_form : (text : List ℕ) → IsLedBy 59 text → IsBodyForm text (record { command = Nothing; length = 0 })
nothing_form text led = record {
  within = omega arith;
  reaches = ([], inl ([], refl, refl), refl);
  stop = inr (led_filled text led);
  extension_ends = λ e. absurd cc;
  only = λ c rest reaches may.
      go (begun_by c text rest led.more 59 led.begun (led_filled text led) reaches (may_end_ends c rest may));
}
  where
    go : {c : Command} {rest : List ℕ} → IsBegunBy c 59 text rest → rest ≡ text
    go (inl h) = sym h.1
    go (inr (inl (inl h))) = absurd (omega (arith, h))
    go (inr (inl (inr (inl h)))) = absurd (omega (arith, h))
    go (inr (inl (inr (inr (inl h))))) = absurd (omega (arith, h))
    go (inr (inl (inr (inr (inr h))))) = absurd (omega (arith, h))
    go (inr (inr h)) = absurd (false≢true h.0)

-- ---- user extensions

-- text up to the first semicolon, or up to the end
same_up_to : (a b x y : List ℕ) → All (λ k. k ≢ 59) a → All (λ k. k ≢ 59) b → IsLedBy 59 x ⊎ (x ≡ [])
    → IsLedBy 59 y ⊎ (y ≡ []) → a ++ x ≡ b ++ y → (a ≡ b) × (x ≡ y)
same_up_to [] [] x y ha hb hx hy e = (refl, e)
same_up_to [] (k ∷ b) x y ha hb (inl led) hy e =
    absurd (hb 0 0 (omega arith) (let both : k ∷ b ++ y ≡ 59 ∷ led.more = sym e ∙ led.begun in cc))
same_up_to [] (k ∷ b) x y ha hb (inr none) hy e = absurd (let both : k ∷ b ++ y ≡ [] = sym e ∙ none in cc)
same_up_to (k ∷ a) [] x y ha hb hx (inl led) e =
    absurd (ha 0 0 (omega arith) (let both : k ∷ a ++ x ≡ 59 ∷ led.more = e ∙ led.begun in cc))
same_up_to (k ∷ a) [] x y ha hb hx (inr none) e = absurd (let both : k ∷ a ++ x ≡ [] = e ∙ none in cc)
same_up_to (k ∷ a) (m ∷ b) x y ha hb hx hy e =
    let first : k ≡ m = cc in
    let rest : a ++ x ≡ b ++ y = cc in
    let same = same_up_to a b x y (λ i d lt. ha (suc i) d (omega arith)) (λ i d lt. hb (suc i) d (omega arith)) hx hy
    rest in
    (ap (λ (t : ℕ). t ∷ a) first ∙ ap (λ (t : List ℕ). m ∷ t) same.0, same.1)

-- no semicolon stands in a user extension
pub no_semicolon : (text : List ℕ) → IsExtension text → All (λ k. k ≢ 59) text
no_semicolon text is = subst (All (λ k. k ≢ 59)) (sym is.begun) (λ i d lt. at i d lt)
  where
    first : is.first ≢ 59
    first e = false≢true (subst (λ (k : ℕ). is_ascii_digit k ≡ true) e is.digit)

    at : (i d : ℕ) → i < length (is.first ∷ is.more) → get_or (is.first ∷ is.more) i d ≢ 59
    at zero d lt = first
    at (suc i) d lt = is.inside i d (omega arith)

may_end_extension : (c : Command) (rest : List ℕ) → c ≡ Extension → MayEnd c rest → IsLedBy 59 rest ⊎ (rest ≡ [])
may_end_extension c rest e (inl led) = inl led
may_end_extension c rest e (inr cut) = inr (cut.1 e)

pub same_extension : (c d : Command) (text r s : List ℕ) → IsExtensionOf c text r → IsExtensionOf d text s
    → MayEnd c r → MayEnd d s → r ≡ s
same_extension c d text r s is it may can =
    (same_up_to is.body it.body r s (no_semicolon is.body is.extension) (no_semicolon it.body it.extension)
    (may_end_extension c r is.is may) (may_end_extension d s it.is can) (sym is.joined ∙ it.joined)).1

pub extension_form : (text : List ℕ) (b n : ℕ) → IsLedBy b text → is_ascii_digit b ≡ true → IsFilled text
    → n ≤ length text → All (λ k. k ≢ 59) (take n text) → (n < length text → IsLedBy 59 (drop n text))
    → IsBodyForm text (record { command = Extension; length = n })
extension_form text b n led digit is le inside longest = record {
  within = le;
  reaches = (take n text, inr (refl, extension (cases_lt 0 n)), sym (take-append-drop n text));
  stop = stops end;
  extension_ends = λ _. turned end;
  only = λ c rest reaches may.
      go c rest may (begun_by c text rest led.more b led.begun is reaches (may_end_ends c rest may));
}
  where
    end : IsLedBy 59 (drop n text) ⊎ (drop n text ≡ [])
    end = by_length (cases_lt n (length text))
      where
        by_length : (n < length text) ⊎ (length text ≤ n) → IsLedBy 59 (drop n text) ⊎ (drop n text ≡ [])
        by_length (inl more) = inl (longest more)
        by_length (inr all) = inr (drop_all n text all)

    turned : IsLedBy 59 (drop n text) ⊎ (drop n text ≡ []) → (drop n text ≡ []) ⊎ IsLedBy 59 (drop n text)
    turned (inl l) = inr l
    turned (inr none) = inl none

    stops : IsLedBy 59 (drop n text) ⊎ (drop n text ≡ []) → IsStop (drop n text)
    stops (inl l) = inr (led_filled (drop n text) l)
    stops (inr none) = inl (inl none)

    begins : (m : ℕ) → m ≡ n → 0 < m → take n text ≡ b ∷ take (m - 1) led.more
    begins zero e some = absurd (omega arith)
    begins (suc m) e some = ap (λ (k : ℕ). take k text) (sym e)
        ∙ (ap (λ (t : List ℕ). take (suc m) t) led.begun
        ∙ (let same : m ≡ suc m - 1 = omega arith in ap (λ (k : ℕ). b ∷ take k led.more) same))

    extension : (0 < n) ⊎ (n ≤ 0) → IsExtension (take n text)
    extension (inl some) =
        let begun = begins n refl some in
        record {
          first = b;
          more = take (n - 1) led.more;
          begun = begun;
          digit = digit;
          inside = λ i d lt. subst (All (λ k. k ≢ 59)) begun inside (suc i) d (omega arith);
        }
    extension (inr none) =
        let zero_is : n ≡ 0 = omega arith in
        let first = longest (omega (arith, ap (λ (t : List ℕ). length t) led.begun)) in
        let same : 59 ∷ first.more ≡ b ∷ led.more = sym first.begun
        ∙ (ap (λ (k : ℕ). drop k text) zero_is ∙ led.begun) in
        let e : 59 ≡ b = cc in
        absurd (false≢true (subst (λ (k : ℕ). is_ascii_digit k ≡ true) (sym e) digit))

    no_letter : (k : ℕ) → is_ascii_digit k ≡ false → b ≡ k → ⊥
    no_letter k not_digit e =
        both_ways (is_ascii_digit k) not_digit (subst (λ (m : ℕ). is_ascii_digit m ≡ true) e digit)

    own : IsExtensionOf Extension text (drop n text)
    own = record {
      is = refl;
      body = take n text;
      extension = extension (cases_lt 0 n);
      joined = sym (take-append-drop n text);
    }

    own_end : IsLedBy 59 (drop n text) ⊎ (drop n text ≡ []) → MayEnd Extension (drop n text)
    own_end (inl l) = inl l
    own_end (inr none) = inr (inl none, λ _. none)

    go : (c : Command) (rest : List ℕ) → MayEnd c rest → IsBegunBy c b text rest → rest ≡ drop n text
    go c rest may (inl h) = absurd (no_letter 59 refl h.0)
    go c rest may (inr (inl (inl h))) = absurd (no_letter 66 refl h)
    go c rest may (inr (inl (inr (inl h)))) = absurd (no_letter 67 refl h)
    go c rest may (inr (inl (inr (inr (inl h))))) = absurd (no_letter 68 refl h)
    go c rest may (inr (inl (inr (inr (inr h))))) = absurd (no_letter 76 refl h)
    go c rest may (inr (inr h)) = same_extension c Extension text rest (drop n text) h.1 own may (own_end end)

-- the byte that a filled text has at its front
pub led_at : (text : List ℕ) (b : ℕ) → IsFilled text → get_or text 0 0 ≡ b → IsLedBy b text
led_at text b is at =
    record {
      more = is.more;
      begun = is.begun
          ∙ ap (λ (k : ℕ). k ∷ is.more) (sym (ap (λ (t : List ℕ). get_or t 0 0) is.begun) ∙ at);
    }
