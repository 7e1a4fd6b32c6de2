-- A text begins with one command only, which ends at one place.
use Rattle.std.proofs.Common.{◌≡◌, ℕ, true, false, ◌⊎◌, inl, inr, List, [], ◌∷◌, ◌++◌, refl, sym, ap, ◌∙◌, subst, arith}
use Rattle.std.proofs.lemmas.{Bool.both_ways, List.append-nil}
use Rattle.std.specs.{List.AllByRecursion, Char.{is_ascii_digit, is_ascii_uppercase}}
use Rattle.cif_lex.specs.{declared.command.Command.Command, Words.{Word, letter, name}, Commands.HasWords}
use Rattle.cif_lex.{specs.{Reading.AreRead, Forms.{Ends, MayEnd, Takes, Reaches}}, proofs.OneWord.{IsPlain, goes_on}}
use Rattle.cif_lex.proofs.{OneWord.{none_more, no_word_ends, same_name}, CommandWords.{IsHeaded, has_head, begins}}
use Rattle.cif_lex.proofs.{CommandWords.{plain_words, layer_words, same_command}, BracketForm.led_by_letter}
use Rattle.cif_lex.proofs.{Bodies.{may_end_ends, IsExtensionOf, reaches_takes}, AnyForm.same_extension}

-- ---- by words

-- after the first letter
same_more : (c d : Command) (b : ℕ) (us vs : List Word) (mid r s : List ℕ) → HasWords c (letter b ∷ us)
    → HasWords d (letter b ∷ vs) → AreRead us mid r → AreRead vs mid s → Ends r → Ends s → (us ≡ vs) × (r ≡ s)
same_more c d b us vs mid r s h k is it er es = by_kind (plain_words c b us h) (plain_words d b vs k)
  where
    by_name : b ≡ 76 → (us ≡ vs) × (r ≡ s)
    by_name e =
        let a = layer_words c us (subst (λ (n : ℕ). HasWords c (letter n ∷ us)) e h) in
        let z = layer_words d vs (subst (λ (n : ℕ). HasWords d (letter n ∷ vs)) e k) in
        let p : AreRead (name a.0 ∷ []) mid r = subst (λ (ws : List Word). AreRead ws mid r) a.1 is in
        let q : AreRead (name z.0 ∷ []) mid s = subst (λ (ws : List Word). AreRead ws mid s) z.1 it in
        let same = same_name a.0 z.0 mid p.0 q.0 p.1 q.1 in
        (a.1 ∙ (ap (λ (n : List ℕ). name n ∷ []) same.0 ∙ sym z.1), sym p.2 ∙ (same.1 ∙ q.2))

    by_kind : (b ≡ 76) ⊎ AllByRecursion IsPlain us → (b ≡ 76) ⊎ AllByRecursion IsPlain vs → (us ≡ vs) × (r ≡ s)
    by_kind (inl e) other = by_name e
    by_kind (inr p) (inl e) = by_name e
    by_kind (inr p) (inr q) =
        let more = goes_on us vs mid r s p q is it es in
        let none = none_more more.0 r s more.2 more.3 er in
        (sym (more.1 ∙ (ap (λ (ws : List Word). us ++ ws) none.0 ∙ append-nil us)), none.1)

takes_same : (c d : Command) (text r s : List ℕ) → Takes c text r → Takes d text s → Ends r → Ends s → (c ≡ d) × (r ≡ s)
takes_same c d text r s takes also er es = by_head (has_head c takes.0 takes.1) (has_head d also.0 also.1)
  where
    reads : (ws us : List Word) (t : List ℕ) → AreRead ws text t → ws ≡ us → AreRead us text t
    reads ws us t is e = subst (λ (vs : List Word). AreRead vs text t) e is

    headed : (e : Command) (x t : List ℕ) (head : List Word) (b : ℕ) (more : List Word) → text ≡ x → Ends x
        → is_ascii_uppercase b ≡ true → AreRead (letter b ∷ more) text t → ⊥
    headed e x t head b more same ends capital is =
        no_word_ends (letter b) text is.0 capital is.1 (subst Ends (sym same) ends)

    by_head : (takes.0 ≡ []) ⊎ IsHeaded takes.0 → (also.0 ≡ []) ⊎ IsHeaded also.0 → (c ≡ d) × (r ≡ s)
    by_head (inl e) (inl f) = (
      same_command c d [] (subst (HasWords c) e takes.1) (subst (HasWords d) f also.1),
      sym
          (reads takes.0 [] r takes.2 e) ∙ reads also.0 [] s also.2 f,
    )
    by_head (inl e) (inr head) =
        absurd (headed d r s also.0 head.first head.more (reads takes.0 [] r takes.2 e) er head.capital
        (reads also.0 (letter head.first ∷ head.more) s also.2 head.begun))
    by_head (inr head) (inl f) =
        absurd (headed c s r takes.0 head.first head.more (reads also.0 [] s also.2 f) es head.capital
        (reads takes.0 (letter head.first ∷ head.more) r takes.2 head.begun))
    by_head (inr head) (inr other) =
        let first = reads takes.0 (letter head.first ∷ head.more) r takes.2 head.begun in
        let a = begins c text first.0 r head.first head.capital first.1 takes er in
        let z = begins d text first.0 s head.first head.capital first.1 also es in
        let same = same_more c d head.first a.0 z.0 first.0 r s a.1 z.1 a.2 z.2 er es in (
          same_command c d (letter head.first ∷ a.0) a.1
              (subst (λ (ws : List Word). HasWords d (letter head.first ∷ ws)) (sym same.0) z.1),
          same.1,
        )

-- ---- user extensions too

words_or_extension : (c d : Command) (text r s : List ℕ) → Takes c text r → Ends r → IsExtensionOf d text s → ⊥
words_or_extension c d text r s takes er it = by_head (has_head c takes.0 takes.1)
  where
    first : text ≡ it.extension.first ∷ it.extension.more ++ s
    first = it.joined ∙ ap (λ (t : List ℕ). t ++ s) it.extension.begun

    no_capital : (b : ℕ) → is_ascii_digit b ≡ true → is_ascii_uppercase b ≡ false
    no_capital b h = grind arith

    ended : (b : ℕ) (more : List ℕ) → text ≡ b ∷ more → is_ascii_digit b ≡ true → Ends text → ⊥
    ended b more e digit (inl led) = let same : b ∷ more ≡ 59 ∷ led.more = sym e ∙ led.begun in let k : b ≡ 59 =
        cc in both_ways (is_ascii_digit 59) refl (subst (λ (x : ℕ). is_ascii_digit x ≡ true) k digit)
    ended b more e digit (inr (inl none)) = absurd (let same : b ∷ more ≡ [] = sym e ∙ none in cc)
    ended b more e digit (inr (inr open_one)) = let same : b ∷ more ≡ 40 ∷ open_one.inside = sym e
        ∙ open_one.begun in let k : b ≡ 40 =
        cc in both_ways (is_ascii_digit 40) refl (subst (λ (x : ℕ). is_ascii_digit x ≡ true) k digit)

    by_head : (takes.0 ≡ []) ⊎ IsHeaded takes.0 → ⊥
    by_head (inl e) =
        let same : text ≡ r = subst (λ (vs : List Word). AreRead vs text r) e takes.2 in
        ended it.extension.first (it.extension.more ++ s) first it.extension.digit (subst Ends (sym same) er)
    by_head (inr head) =
        let is : AreRead (letter head.first ∷ head.more) text r =
        subst (λ (vs : List Word). AreRead vs text r) head.begun takes.2 in
        let led = led_by_letter head.first text is.0 is.1 in
        let both : head.first ∷ led.more ≡ it.extension.first ∷ it.extension.more ++ s = sym led.begun ∙ first in
        let k : head.first ≡ it.extension.first = cc in
        both_ways (is_ascii_uppercase it.extension.first) (no_capital it.extension.first it.extension.digit)
        (subst (λ (x : ℕ). is_ascii_uppercase x ≡ true) k head.capital)

pub reaches_same : (c d : Command) (text r s : List ℕ) → Reaches c text r → Reaches d text s → MayEnd c r → MayEnd d s
    → (c ≡ d) × (r ≡ s)
reaches_same c d text r s is it may can =
    let er = may_end_ends c r may in let es = may_end_ends d s can in
    by_kind (reaches_takes c text r is er) (reaches_takes d text s it es) er es
  where
    by_kind : Takes c text r ⊎ IsExtensionOf c text r → Takes d text s ⊎ IsExtensionOf d text s → Ends r → Ends s
        → (c ≡ d) × (r ≡ s)
    by_kind (inl takes) (inl also) er es = takes_same c d text r s takes also er es
    by_kind (inl takes) (inr ext) er es = absurd (words_or_extension c d text r s takes er ext)
    by_kind (inr ext) (inl also) er es = absurd (words_or_extension d c text s r also es ext)
    by_kind (inr ext) (inr also) er es = (ext.is ∙ sym also.is, same_extension c d text r s ext also may can)
