-- At each place of a text there is one answer.
use Rattle.std.proofs.Common.{◌≡◌, ℕ, ◌+◌, inl, inr, List, [], ◌∷◌, ◌++◌, length, drop, refl, sym, ap, ◌∙◌, subst}
use Rattle.std.proofs.{Common.{arith, length-append}, lemmas.{Bool.false≢true, List.append-nil}}
use Rattle.cif_lex.specs.declared.command.{Command.Command, Next.{Next, TheVariants.{Whole, Cut, Bad, End, Missing}}}
use Rattle.cif_lex.specs.{Blanks.{IsGap, IsUnclosed, IsCutOff, IsFilled}, Commands.{IsBody, IsCutCommand, IsNoCommand}}
use Rattle.cif_lex.specs.{Commands.{Follows, IsNext, NextIsDetermined, TailIsDetermined}, Reading.IsStop, Forms.IsLedBy}
use Rattle.cif_lex.specs.Forms.{MayEnd, Reaches}
use Rattle.cif_lex.proofs.{OneGap.{same_gap, filled}, Bodies.{filled_or_cut, led_filled, led_or_cut, body_fills}}
use Rattle.cif_lex.proofs.{AnyForm.{IsFirstByte, none_begins}, OneCommand.reaches_same}
use Rattle.cif_lex.specs.declared.command.Tail.TheVariants as tails

-- ---- where it stands

same_place : (bytes : List ℕ) (read b d : ℕ) (t u : List ℕ) → Follows bytes read b t → Follows bytes read d u
    → IsStop t → IsStop u → (b ≡ d) × (t ≡ u)
same_place bytes read b d t u f g st su =
    let same = same_gap (drop read bytes) f.gap g.gap t u f.is_gap g.is_gap f.joined g.joined st su in
    (f.begins ∙ (ap (λ (x : List ℕ). read + length x) same.0 ∙ sym g.begins), same.1)

-- ---- what is said of a text that begins at a place

abbrev Says : Next → ℕ → List ℕ → Type 0
Says (Whole b c after) begin text = (b ≡ begin) × (body rest : List ℕ) × IsBody c body × (text ≡ body ++ (59 ∷ rest))
    × (after ≡ begin + length body + 1) × IsFilled text
Says (Cut b c) begin text = (b ≡ begin) × IsCutCommand c text × IsFilled text
Says (Bad b) begin text = (b ≡ begin) × IsNoCommand text
Says (End b) begin text = (b ≡ begin) × IsLedBy 69 text
Says Missing begin text = IsCutOff text

record IsSaid (bytes : List ℕ) (read : ℕ) (a : Next) : Type 0 where
  begin : ℕ
  text : List ℕ
  place : Follows bytes read begin text
  stop : IsStop text
  says : Says a begin text

whole_filled : (c : Command) (body rest : List ℕ) → IsBody c body → IsFilled (body ++ (59 ∷ rest))
whole_filled c [] rest is = led_filled (59 ∷ rest) (record { more = rest; begun = refl })
whole_filled c (b ∷ body) rest is = body_fills c (b ∷ body) (59 ∷ rest) (omega arith) is

cut_filled : (c : Command) (text : List ℕ) → IsCutCommand c text → IsFilled text
cut_filled c text is = subst IsFilled (sym is.joined) (body_fills c is.body is.rest is.some is.is_body)

end_filled : (text : List ℕ) → IsLedBy 69 text → IsFilled text
end_filled text led = filled text led.more 69 led.begun refl (λ e. absurd (omega (arith, e)))

said : (bytes : List ℕ) (read : ℕ) (a : Next) → IsNext bytes read a → IsSaid bytes read a
said bytes read (Whole b c after) (body, rest, is, f, e, le) =
    record {
      begin = b;
      text = body ++ (59 ∷ rest);
      place = f;
      stop = inr (whole_filled c body rest is);
      says = (refl, body, rest, is, refl, e, whole_filled c body rest is);
    }
said bytes read (Cut b c) (text, f, is) =
    record {
      begin = b;
      text = text;
      place = f;
      stop = inr (cut_filled c text is);
      says = (refl, is, cut_filled c text is);
    }
said bytes read (Bad b) (text, f, is) =
    record { begin = b; text = text; place = f; stop = inr is.filled; says = (refl, is) }
said bytes read (End b) (rest, f, lt) =
    let led : IsLedBy 69 (69 ∷ rest) = record { more = rest; begun = refl } in
    record { begin = b; text = 69 ∷ rest; place = f; stop = inr (end_filled (69 ∷ rest) led); says = (refl, led) }
said bytes read Missing (b, text, f, cut) = record { begin = b; text = text; place = f; stop = inl cut; says = cut }

-- ---- one at a time

no_command_at_end : (c : Command) (text rest : List ℕ) → IsLedBy 69 text → Reaches c text rest → MayEnd c rest → ⊥
no_command_at_end c text rest led reaches may =
    none_begins text led.more 69 led.begun (end_filled text led) never c rest reaches may
  where
    never : IsFirstByte 69 → ⊥
    never (inl e) = omega (arith, e)
    never (inr (inl (inl e))) = omega (arith, e)
    never (inr (inl (inr (inl e)))) = omega (arith, e)
    never (inr (inl (inr (inr (inl e))))) = omega (arith, e)
    never (inr (inl (inr (inr (inr e))))) = omega (arith, e)
    never (inr (inr e)) = false≢true e

semicolon_ends : (c : Command) (rest : List ℕ) → MayEnd c (59 ∷ rest)
semicolon_ends c rest = inl (record { more = rest; begun = refl })

cut_reaches : (c : Command) (text : List ℕ) (is : IsCutCommand c text) → Reaches c text is.rest
cut_reaches c text is = (is.body, is.is_body, is.joined)

cut_ends : (c : Command) (text : List ℕ) (is : IsCutCommand c text) → MayEnd c is.rest
cut_ends c text is = inr (is.cut, is.extension_takes_all)

-- whole commands: the same one, up to the same place
same_whole : (c d : Command) (body it rest more text : List ℕ) (begin : ℕ) → IsBody c body → IsBody d it
    → text ≡ body ++ (59 ∷ rest) → text ≡ it ++ (59 ∷ more)
    → (c ≡ d) × (begin + length body + 1 ≡ begin + length it + 1)
same_whole c d body it rest more text begin is also e f =
    let same = reaches_same c d text (59 ∷ rest) (59 ∷ more) (body, is, e) (it, also, f) (semicolon_ends c rest)
    (semicolon_ends d more) in (
      same.0,
      omega (
        arith,
        ap (λ (t : List ℕ). length t) e,
        ap (λ (t : List ℕ). length t) f,
        ap (λ (t : List ℕ). length t)
            same.1,
        length-append body (59 ∷ rest),
        length-append it (59 ∷ more),
      ),
    )

whole_or_cut : (c d : Command) (body rest text : List ℕ) → IsBody c body → text ≡ body ++ (59 ∷ rest)
    → IsCutCommand d text → ⊥
whole_or_cut c d body rest text is e cut =
    let same = reaches_same c d text (59 ∷ rest) cut.rest (body, is, e) (cut_reaches d text cut)
    (semicolon_ends c rest) (cut_ends d text cut) in
    led_or_cut (59 ∷ rest) (record { more = rest; begun = refl }) (subst IsCutOff (sym same.1) cut.cut)

-- two answers that are said of one text are one
same_says : (a b : Next) (begin : ℕ) (text : List ℕ) → Says a begin text → Says b begin text → a ≡ b
same_says (Whole p c after) (Whole q d later) begin text (e, body, rest, is, j, g, _) (f, it, more, also, k, h, _) =
    let same = same_whole c d body it rest more text begin is also j k in
    let place : p ≡ q = e ∙ sym f in
    let end : after ≡ later = g ∙ (same.1 ∙ sym h) in
    let command : c ≡ d = same.0 in
    cc
same_says (Cut p c) (Cut q d) begin text (e, is, _) (f, it, _) =
    let same = reaches_same c d text is.rest it.rest (cut_reaches c text is) (cut_reaches d text it)
    (cut_ends c text is) (cut_ends d text it) in
    let place : p ≡ q = e ∙ sym f in
    let command : c ≡ d = same.0 in
    cc
same_says (Bad p) (Bad q) begin text h k = ap Bad (h.0 ∙ sym k.0)
same_says (End p) (End q) begin text h k = ap End (h.0 ∙ sym k.0)
same_says Missing Missing begin text h k = refl
same_says (Whole p c after) (Cut q d) begin text (e, body, rest, is, j, g, _) k =
    absurd (whole_or_cut c d body rest text is j k.1)
same_says (Cut q d) (Whole p c after) begin text k (e, body, rest, is, j, g, _) =
    absurd (whole_or_cut c d body rest text is j k.1)
same_says (Whole p c after) (Bad q) begin text (e, body, rest, is, j, g, _) k =
    absurd (k.1.no_whole c (record { body = body; rest = rest; is_body = is; joined = j }))
same_says (Bad q) (Whole p c after) begin text k (e, body, rest, is, j, g, _) =
    absurd (k.1.no_whole c (record { body = body; rest = rest; is_body = is; joined = j }))
same_says (Whole p c after) (End q) begin text (e, body, rest, is, j, g, _) k =
    absurd (no_command_at_end c text (59 ∷ rest) k.1 (body, is, j) (semicolon_ends c rest))
same_says (End q) (Whole p c after) begin text k (e, body, rest, is, j, g, _) =
    absurd (no_command_at_end c text (59 ∷ rest) k.1 (body, is, j) (semicolon_ends c rest))
same_says (Whole p c after) Missing begin text (e, body, rest, is, j, g, fills) k = absurd (filled_or_cut text fills k)
same_says Missing (Whole p c after) begin text k (e, body, rest, is, j, g, fills) = absurd (filled_or_cut text fills k)
same_says (Cut p c) (Bad q) begin text h k = absurd (k.1.no_cut c h.1)
same_says (Bad q) (Cut p c) begin text k h = absurd (k.1.no_cut c h.1)
same_says (Cut p c) (End q) begin text h k =
    absurd (no_command_at_end c text h.1.rest k.1 (cut_reaches c text h.1) (cut_ends c text h.1))
same_says (End q) (Cut p c) begin text k h =
    absurd (no_command_at_end c text h.1.rest k.1 (cut_reaches c text h.1) (cut_ends c text h.1))
same_says (Cut p c) Missing begin text h k = absurd (filled_or_cut text h.2 k)
same_says Missing (Cut p c) begin text k h = absurd (filled_or_cut text h.2 k)
same_says (Bad p) (End q) begin text h k = absurd (h.1.no_end k.1.more k.1.begun)
same_says (End q) (Bad p) begin text k h = absurd (h.1.no_end k.1.more k.1.begun)
same_says (Bad p) Missing begin text h k = absurd (filled_or_cut text h.1.filled k)
same_says Missing (Bad p) begin text k h = absurd (filled_or_cut text h.1.filled k)
same_says (End p) Missing begin text h k = absurd (filled_or_cut text (end_filled text h.1) k)
same_says Missing (End p) begin text k h = absurd (filled_or_cut text (end_filled text h.1) k)

pub one_next : NextIsDetermined
one_next bytes read a b is it =
    let h = said bytes read a is in let k = said bytes read b it in
    let same = same_place bytes read h.begin k.begin h.text k.text h.place k.place h.stop k.stop in
    same_says a b h.begin h.text h.says
    (subst (λ (n : ℕ). Says b n h.text) (sym same.0)
    (subst (λ (t : List ℕ). Says b k.begin t) (sym same.1) k.says))

-- ---- after the end

gap_alone : (bytes : List ℕ) (read : ℕ) → IsGap (drop read bytes)
    → Follows bytes read (read + length (drop read bytes)) []
gap_alone bytes read is =
    record { gap = drop read bytes; is_gap = is; joined = sym (append-nil (drop read bytes)); begins = refl }

no_rest : (bytes text : List ℕ) (read begin : ℕ) → IsGap (drop read bytes) → Follows bytes read begin text
    → IsStop text → text ≡ []
no_rest bytes text read begin is f stop =
    sym (same_place bytes read (read + length (drop read bytes)) begin [] text (gap_alone bytes read is) f
    (inl (inl refl)) stop).1

clean_or_filled : (bytes text : List ℕ) (read begin : ℕ) → IsGap (drop read bytes) → Follows bytes read begin text
    → IsFilled text → ⊥
clean_or_filled bytes text read begin is f fills =
    filled_or_cut text fills (inl (no_rest bytes text read begin is f (inr fills)))

clean_or_unclosed : (bytes text : List ℕ) (read begin : ℕ) → IsGap (drop read bytes) → Follows bytes read begin text
    → IsUnclosed text → ⊥
clean_or_unclosed bytes text read begin is f open_one = let e =
    no_rest bytes text read begin is f (inl (inr open_one)) in let d = open_one.begun in absurd cc

filled_or_unclosed : (bytes t u : List ℕ) (read b d : ℕ) → Follows bytes read b t → IsFilled t
    → Follows bytes read d u → IsUnclosed u → ⊥
filled_or_unclosed bytes t u read b d f fills g open_one =
    let same = same_place bytes read b d t u f g (inr fills) (inl (inr open_one)) in filled_or_cut t fills
    (inr (subst IsUnclosed (sym same.1) open_one))

pub one_tail : TailIsDetermined
one_tail bytes read tails.Clean tails.Clean h k = refl
one_tail bytes read tails.Unclosed tails.Unclosed h k = refl
one_tail bytes read (tails.Filled p) (tails.Filled q) (t, f, fills) (u, g, also) =
    ap tails.Filled (same_place bytes read p q t u f g (inr fills) (inr also)).0
one_tail bytes read tails.Clean (tails.Filled q) h (u, g, also) = absurd (clean_or_filled bytes u read q h g also)
one_tail bytes read (tails.Filled q) tails.Clean (u, g, also) h = absurd (clean_or_filled bytes u read q h g also)
one_tail bytes read tails.Clean tails.Unclosed h (q, u, g, also) = absurd (clean_or_unclosed bytes u read q h g also)
one_tail bytes read tails.Unclosed tails.Clean (q, u, g, also) h = absurd (clean_or_unclosed bytes u read q h g also)
one_tail bytes read (tails.Filled p) tails.Unclosed (t, f, fills) (q, u, g, also) =
    absurd (filled_or_unclosed bytes t u read p q f fills g also)
one_tail bytes read tails.Unclosed (tails.Filled p) (q, u, g, also) (t, f, fills) =
    absurd (filled_or_unclosed bytes t u read p q f fills g also)
