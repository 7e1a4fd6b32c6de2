-- Bodies of commands as they are spelled, and their words as they are read.
use Rattle.std.proofs.Common.{◌≡◌, ℕ, ◌<◌, Bool, true, false, ◌⊎◌, inl, inr, List, [], ◌∷◌, ◌++◌, length, refl, sym, ap}
use Rattle.std.proofs.{Common.{◌∙◌, subst, append_assoc, arith}, lemmas.Bool.false≢true}
use Rattle.std.specs.{List.{AllByRecursion, flat_map}, Char.is_ascii_digit}
use Rattle.cif_lex.specs.declared.command.Command.{Command, TheVariants.{Nothing, Define, Finish, Layer, Area, Call}}
use Rattle.cif_lex.specs.declared.{command.Command.TheVariants.Extension, placement.Transformation.Transformation}
use Rattle.cif_lex.specs.declared.placement.Transformation.TheVariants.{Shift, MirrorX, MirrorY, Turn}
use Rattle.cif_lex.specs.{Blanks.{is_blank, IsCutOff, IsFilled}, Words.{Word, letter, number, name, is_name_byte}}
use Rattle.cif_lex.specs.{Words.{IsWhole, StopsAt, AreSpelled}, Transformations.words_of, Commands.{HasWords, IsBody}}
use Rattle.cif_lex.specs.{Commands.IsExtension, Reading.{IsStop, AreRead}, Forms.{IsLedBy, Ends, MayEnd, Takes}}
use Rattle.cif_lex.{specs.Forms.Reaches, proofs.{OneGap.filled, OneWord.{IsVisible, word_fills}}}

-- ---- where a command may end

abbrev pub IsQuiet : List ℕ → Type 0
IsQuiet rest = StopsAt is_ascii_digit rest × StopsAt is_name_byte rest

pub ends_quiet : (rest : List ℕ) → Ends rest → IsQuiet rest
ends_quiet rest (inl led) = subst IsQuiet (sym led.begun) (refl, refl)
ends_quiet rest (inr (inl none)) = subst IsQuiet (sym none) (tt, tt)
ends_quiet rest (inr (inr unclosed)) = subst IsQuiet (sym unclosed.begun) (refl, refl)

pub led_filled : (text : List ℕ) → IsLedBy 59 text → IsFilled text
led_filled text led = filled text led.more 59 led.begun refl (λ e. absurd (omega (arith, e)))

pub ends_stop : (rest : List ℕ) → Ends rest → IsStop rest
ends_stop rest (inl led) = inr (led_filled rest led)
ends_stop rest (inr cut) = inl cut

pub may_end_ends : (c : Command) (rest : List ℕ) → MayEnd c rest → Ends rest
may_end_ends c rest (inl led) = inl led
may_end_ends c rest (inr cut) = inr cut.0

pub filled_or_cut : (text : List ℕ) → IsFilled text → IsCutOff text → ⊥
filled_or_cut text is (inl none) = let e = is.begun in absurd cc
filled_or_cut text is (inr unclosed) = is.no_opening (let e = is.begun in let d = unclosed.begun in cc)

pub led_or_cut : (text : List ℕ) → IsLedBy 59 text → IsCutOff text → ⊥
led_or_cut text led cut = filled_or_cut text (led_filled text led) cut

-- ---- from words that are read to their spelling

prefix_stops : (p : ℕ → Bool) (a b : List ℕ) → StopsAt p (a ++ b) → StopsAt p a
prefix_stops p [] b h = tt
prefix_stops p (x ∷ a) b h = h

prefix_whole : (w : Word) (a b : List ℕ) → IsWhole w (a ++ b) → IsWhole w a
prefix_whole (letter x) a b h = tt
prefix_whole (number n) a b h = prefix_stops is_ascii_digit a b h
prefix_whole (name bytes) a b h = prefix_stops is_name_byte a b h

read_spelled : (words : List Word) (text rest : List ℕ) → AreRead words text rest
    → (body : List ℕ) × (text ≡ body ++ rest) × AreSpelled words body
read_spelled [] text rest is = ([], is, refl)
read_spelled (w ∷ words) text rest is =
    let more = read_spelled words is.0 rest is.2 in
    let own = is.1.own in
    let gap = is.1.is_after.gap in
    let after : is.1.after ≡ (gap ++ more.0) ++ rest = is.1.is_after.joined
    ∙ (ap (λ (t : List ℕ). gap ++ t) more.1 ∙ sym (append_assoc gap more.0 rest)) in (
      own ++ (gap ++ more.0),
      is.1.joined ∙ (ap (λ (t : List ℕ). own ++ t) after ∙ sym (append_assoc own (gap ++ more.0) rest)),
      (
        own,
        gap,
        more.0,
        refl,
        is.1.is_spelled,
        is.1.is_after.is_gap,
        prefix_whole w (gap ++ more.0) rest
            (subst (IsWhole w) after is.1.is_whole),
        more.2,
      ),
    )

pub takes_reaches : (c : Command) (text rest : List ℕ) → Takes c text rest → Reaches c text rest
takes_reaches c text rest (words, has, read) = let is =
    read_spelled words text rest read in (is.0, inl (words, has, is.2), is.1)

-- after words there is a gap, up to where it ends
pub read_stop : (words : List Word) (text rest : List ℕ) → IsStop text → AreRead words text rest → IsStop rest
read_stop [] text rest stop is = subst IsStop is stop
read_stop (w ∷ words) text rest stop is = read_stop words is.0 rest is.1.is_after.stop is.2

-- ---- from the spelling to words that are read

longer_stops : (p : ℕ → Bool) (a b : List ℕ) → StopsAt p a → StopsAt p b → StopsAt p (a ++ b)
longer_stops p [] b h k = k
longer_stops p (x ∷ a) b h k = h

longer_whole : (w : Word) (a b : List ℕ) → IsWhole w a → IsQuiet b → IsWhole w (a ++ b)
longer_whole (letter x) a b h k = tt
longer_whole (number n) a b h k = longer_stops is_ascii_digit a b h k.0
longer_whole (name bytes) a b h k = longer_stops is_name_byte a b h k.1

spelled_stop : (words : List Word) (body rest : List ℕ) → AllByRecursion IsVisible words → AreSpelled words body
    → IsStop rest → IsStop (body ++ rest)
spelled_stop [] body rest visible is stop = subst (λ (t : List ℕ). IsStop (t ++ rest)) (sym is) stop
spelled_stop (w ∷ words) body rest visible is stop =
    let own = is.0 in
    let whole : own ++ ((is.1 ++ is.2) ++ rest) ≡ body ++ rest =
    sym (ap (λ (t : List ℕ). t ++ rest) is.3 ∙ append_assoc own (is.1 ++ is.2) rest) in
    inr (subst IsFilled whole (word_fills w own ((is.1 ++ is.2) ++ rest) visible.0 is.4))

spelled_read : (words : List Word) (body rest : List ℕ) → AllByRecursion IsVisible words → AreSpelled words body
    → IsStop rest → IsQuiet rest → AreRead words (body ++ rest) rest
spelled_read [] body rest visible is stop quiet = ap (λ (t : List ℕ). t ++ rest) is
spelled_read (w ∷ words) body rest visible is stop quiet =
    let own = is.0 in let gap = is.1 in let more = is.2 in (
      more ++ rest,
      record {
        own = own;
        after = (gap ++ more) ++ rest;
        joined = ap (λ (t : List ℕ). t ++ rest) is.3 ∙ append_assoc own (gap ++ more) rest;
        is_spelled = is.4;
        is_whole = longer_whole w (gap ++ more) rest is.6 quiet;
        is_after =
            record {
              gap = gap;
              is_gap = is.5;
              joined = append_assoc gap more rest;
              stop = spelled_stop words more rest visible.1 is.7 stop;
            };
      },
      spelled_read words more rest visible.1 is.7 stop quiet,
    )

visible_transformations : (ts : List Transformation) → AllByRecursion IsVisible (flat_map words_of ts)
visible_transformations [] = tt
visible_transformations (Shift x y ∷ ts) = (refl, (tt, (tt, visible_transformations ts)))
visible_transformations (MirrorX ∷ ts) = (refl, (refl, visible_transformations ts))
visible_transformations (MirrorY ∷ ts) = (refl, (refl, visible_transformations ts))
visible_transformations (Turn a b ∷ ts) = (refl, (tt, (tt, visible_transformations ts)))

visible_words : (c : Command) (words : List Word) → HasWords c words → AllByRecursion IsVisible words
visible_words Nothing words h = subst (AllByRecursion IsVisible) (sym h) tt
visible_words (Define n a b) words (inl e) =
    subst (AllByRecursion IsVisible) (sym e) (refl, (refl, (tt, (tt, (tt, tt)))))
visible_words (Define n a b) words (inr h) = subst (AllByRecursion IsVisible) (sym h.0) (refl, (refl, (tt, tt)))
visible_words Finish words h = subst (AllByRecursion IsVisible) (sym h) (refl, (refl, tt))
visible_words (Layer layer) words h = subst (AllByRecursion IsVisible) (sym h.1) (refl, (tt, tt))
visible_words (Area l w x y) words h = subst (AllByRecursion IsVisible) (sym h) (refl, (tt, (tt, (tt, (tt, tt)))))
visible_words (Call n place bad is_turned divisor) words h =
    subst (AllByRecursion IsVisible) (sym h.1) (refl, (tt, visible_transformations h.0))
visible_words Extension words h = absurd h

-- a user extension in its text
pub record IsExtensionOf (c : Command) (text rest : List ℕ) : Type 0 where
  pub is : c ≡ Extension
  pub body : List ℕ
  pub extension : IsExtension body
  pub joined : text ≡ body ++ rest

pub reaches_takes : (c : Command) (text rest : List ℕ) → Reaches c text rest → Ends rest
    → Takes c text rest ⊎ IsExtensionOf c text rest
reaches_takes c text rest (body, inl (words, has, is), e) ends =
    inl (
      words,
      has,
      subst (λ (t : List ℕ). AreRead words t rest) (sym e)
          (spelled_read words body rest (visible_words c words has) is (ends_stop rest ends) (ends_quiet rest ends)),
    )
reaches_takes c text rest (body, inr (is, extension), e) ends =
    inr (record { is = is; body = body; extension = extension; joined = e })

-- ---- first bytes

digit_fills : (text more : List ℕ) (b : ℕ) → is_ascii_digit b ≡ true → text ≡ b ∷ more → IsFilled text
digit_fills text more b digit e =
    filled text more b e (not_blank b digit)
    (λ same. false≢true (subst (λ (c : ℕ). is_ascii_digit c ≡ true) same digit))
  where
    not_blank : (d : ℕ) → is_ascii_digit d ≡ true → is_blank d ≡ false
    not_blank d h = grind arith

-- a body that has some bytes begins with no gap
pub body_fills : (c : Command) (body rest : List ℕ) → 0 < length body → IsBody c body → IsFilled (body ++ rest)
body_fills c body rest some (inl ([], has, is)) = absurd (omega (arith, some, ap (λ (t : List ℕ). length t) is))
body_fills c body rest some (inl (w ∷ words, has, is)) =
    let own = is.0 in
    let visible : AllByRecursion IsVisible (w ∷ words) = visible_words c (w ∷ words) has in
    let whole : own ++ ((is.1 ++ is.2) ++ rest) ≡ body ++ rest =
    sym (ap (λ (t : List ℕ). t ++ rest) is.3 ∙ append_assoc own (is.1 ++ is.2) rest) in
    subst IsFilled whole (word_fills w own ((is.1 ++ is.2) ++ rest) visible.0 is.4)
body_fills c body rest some (inr (is, extension)) =
    digit_fills (body ++ rest) (extension.more ++ rest) extension.first extension.digit
    (ap (λ (t : List ℕ). t ++ rest) extension.begun)
