-- What follows the bytes that have been read.
use Rattle.std.proofs.Common.{◌≡◌, ℕ, ◌+◌, ◌<◌, ◌≤◌, ◌⊎◌, inl, inr, List, [], ◌∷◌, ◌++◌, length, drop, refl, sym, ap}
use Rattle.std.proofs.{Common.{◌∙◌, subst, arith, length-append}, lemmas.List.{drop-drop, length-drop}}
use Rattle.cif_lex.specs.{declared.{command.Command.Command, forms.Form.Form}, Blanks.{IsCutOff, IsFilled}}
use Rattle.cif_lex.specs.{Commands.{IsCutCommand, IsNoCommand, Follows}, Reading.IsAfterGap, Forms.{IsLedBy, MayEnd}}
use Rattle.cif_lex.{specs.Forms.{Reaches, IsBodyForm}, proofs.Bodies.{filled_or_cut, led_or_cut}}

-- how many bytes a gap has, by what it leaves
gap_length : (text : List ℕ) (n : ℕ) (is : IsAfterGap text (drop n text)) → n ≤ length text → length is.gap ≡ n
gap_length text n is le =
    omega (arith, ap (λ (t : List ℕ). length t) is.joined, length-append is.gap (drop n text), length-drop n text)

follows : (bytes : List ℕ) (read n : ℕ) → n ≤ length (drop read bytes)
    → IsAfterGap (drop read bytes) (drop n (drop read bytes)) → Follows bytes read (read + n) (drop (read + n) bytes)
follows bytes read n le is = record {
  gap = is.gap;
  is_gap = is.is_gap;
  joined = is.joined ∙ ap (λ (t : List ℕ). is.gap ++ t) (drop-drop n read bytes);
  begins = ap (λ (k : ℕ). read + k) (sym (gap_length (drop read bytes) n is le));
}

-- the same for what the code passes by
pub follows_after : (bytes rest : List ℕ) (read n : ℕ) → rest ≡ drop read bytes → n ≤ length rest
    → IsAfterGap rest (drop n rest) → Follows bytes read (read + n) (drop (read + n) bytes)
follows_after bytes rest read n e le is =
    follows bytes read n (subst (λ (t : List ℕ). n ≤ length t) e le)
    (subst (λ (t : List ℕ). IsAfterGap t (drop n t)) e is)

-- ---- no command

pub none_read : (text : List ℕ) → IsFilled text → (IsLedBy 69 text → ⊥)
    → ((c : Command) (rest : List ℕ) → Reaches c text rest → MayEnd c rest → ⊥) → IsNoCommand text
none_read text is no_e none = record {
  filled = is;
  no_end = λ rest e. no_e (record { more = rest; begun = e });
  no_whole = λ c begins. none c (59 ∷ begins.rest) (begins.body, begins.is_body, begins.joined)
      (inl (record { more = begins.rest; begun = refl }));
  no_cut = λ c cut. none c cut.rest (cut.body, cut.is_body, cut.joined) (inr (cut.cut, cut.extension_takes_all));
}

-- the words of the only command that may be meant do not end where a command may
pub none_ends : (text : List ℕ) (form : Form) → IsFilled text → (IsLedBy 69 text → ⊥) → IsBodyForm text form
    → IsFilled (drop form.length text) → (IsLedBy 59 (drop form.length text) → ⊥) → IsNoCommand text
none_ends text form is no_e it goes_on no_semicolon =
    none_read text is no_e (λ c rest reaches may. go rest (it.only c rest reaches may) may)
  where
    go : {c : Command} (rest : List ℕ) → rest ≡ drop form.length text → MayEnd c rest → ⊥
    go rest e (inl led) = no_semicolon (subst (IsLedBy 59) e led)
    go rest e (inr cut) = filled_or_cut (drop form.length text) goes_on (subst IsCutOff e cut.0)

-- ---- a command

pub cut_read : (text : List ℕ) (form : Form) → IsFilled text → IsBodyForm text form → IsCutOff (drop form.length text)
    → IsCutCommand form.command text
cut_read text form is it cut = record {
  body = it.reaches.0;
  rest = drop form.length text;
  some = some it.reaches.0 it.reaches.2;
  is_body = it.reaches.1;
  joined = it.reaches.2;
  cut = cut;
  extension_takes_all = λ e. whole (it.extension_ends e);
}
  where
    some : (body : List ℕ) → text ≡ body ++ drop form.length text → 0 < length body
    some [] e = absurd (filled_or_cut (drop form.length text) (subst IsFilled e is) cut)
    some (b ∷ body) e = omega arith

    whole : (drop form.length text ≡ []) ⊎ IsLedBy 59 (drop form.length text) → drop form.length text ≡ []
    whole (inl none) = none
    whole (inr led) = absurd (led_or_cut (drop form.length text) led cut)

-- how many bytes a body has, by what it leaves
pub body_length : (text : List ℕ) (form : Form) (it : IsBodyForm text form) → length it.reaches.0 ≡ form.length
body_length text form it =
    omega (
      arith,
      it.within,
      ap (λ (t : List ℕ). length t) it.reaches.2,
      length-append it.reaches.0
          (drop form.length text),
      length-drop form.length text,
    )

pub whole_read : (text : List ℕ) (form : Form) (it : IsBodyForm text form) (led : IsLedBy 59 (drop form.length text))
    → text ≡ it.reaches.0 ++ (59 ∷ led.more)
whole_read text form it led = it.reaches.2 ∙ ap (λ (t : List ℕ). it.reaches.0 ++ t) led.begun

pub follows_same : (bytes : List ℕ) (read begin : ℕ) (text other : List ℕ) → Follows bytes read begin text
    → text ≡ other → Follows bytes read begin other
follows_same bytes read begin text other f e = subst (λ (t : List ℕ). Follows bytes read begin t) e f
