-- A text means one hierarchy or has one first fault.
use Rattle.std.proofs.Common.{◌≡◌, ℕ, ◌+◌, ◌⊎◌, inl, inr, true, false, Ok, Err, List, [], ◌∷◌, ◌++◌, length, drop, refl}
use Rattle.std.proofs.{Common.{sym, ap, ◌∙◌, subst, arith, length-append}, lemmas.{Bool.false≢true, List.drop_at}}
use Rattle.cif_lex.specs.declared.command.{Next.{Next, TheVariants.{Whole, Cut, Bad, End, Missing}}, Tail.Tail}
use Rattle.cif_lex.specs.{Blanks.IsGap, Commands.{IsNext, IsTail, NextIsDetermined, TailIsDetermined}}
use Rattle.cif_lex.specs.declared.command.Tail.TheVariants as tails
use Rattle.cif_read.specs.declared.fault.{CifFault.CifFault, CifKind.{CifKind, TheVariants.BadCommand}}
use Rattle.cif_read.specs.{declared.fault.CifKind.TheVariants.{NestedDefinition, NoEnd, AfterEnd}, Readers.Reader}
use Rattle.cif_read.specs.Readers.{joined, BeginsWellBy, MeansBy, IsFaultBy, no_command, refused, cut_and_refused, cut}
use Rattle.cif_read.specs.Readers.{missing, end_inside, filled, unclosed, IsFirstFaultBy, IsDeterminedBy}
use Rattle.cif_read.proofs.{Beginnings.{end_left, end_length}, Walks.{walks_well, GoesOn, Compared, compared}}

-- ---- where a reading of a meaning ends

-- at the letter E, outside of a definition, with nothing but a gap after it
record EndsWell {S D : Type 0} (reader : Reader S D) (text : List ℕ) (read : ℕ) (state : S) : Type 0 where
  well : BeginsWellBy reader text read state
  begin : ℕ
  ended : IsNext text read (End begin)
  closed : reader.is_open state ≡ false
  after : IsGap (drop (begin + 1) text)

ends_well : {S D : Type 0} (reader : Reader S D) (text : List ℕ) (hierarchy : D)
    (means : MeansBy reader text hierarchy) → EndsWell reader text (length (joined means.chunks)) means.state
ends_well reader text hierarchy means =
    let read = length (joined means.chunks) in
    let rest = means.gap ++ (69 ∷ means.after) in
    let left : drop read text ≡ rest = ap (drop read) means.whole ∙ drop_at (joined means.chunks) rest read refl in
    let prefix = joined means.chunks ++ (means.gap ++ (69 ∷ [])) in
    let begin = read + length means.gap in
    let size : length prefix ≡ begin + 1 = omega (arith, end_length (joined means.chunks) means.gap) in
    let whole : text ≡ prefix ++ means.after = means.whole ∙ end_left (joined means.chunks) means.gap means.after in
    let after : drop (begin + 1) text ≡ means.after = ap (drop (begin + 1)) whole
    ∙ drop_at prefix means.after (begin + 1) size in
    record {
      well = record {
        chunks = means.chunks;
        commands = means.commands;
        spelled = means.spelled;
        rest = rest;
        cut = means.whole;
        counted = refl;
        done = means.done;
      };
      begin = begin;
      ended = (
        means.after,
        record { gap = means.gap; is_gap = means.is_gap; joined = left; begins = refl },
        omega (arith, ap length whole, size, length-append prefix means.after),
      );
      closed = means.closed;
      after = subst IsGap (sym after) means.is_after;
    }

-- nothing goes on there
end_stops : {S D : Type 0} (reader : Reader S D) (one : NextIsDetermined) (text : List ℕ) (read : ℕ) (state : S)
    → EndsWell reader text read state → GoesOn reader text read state → ⊥
end_stops reader one text read state e g = let same =
    one text read (End e.begin) (Whole g.begin g.command g.after) e.ended g.found in absurd cc

-- ---- what comes next at a fault, and what it makes of the fault

abbrev SaysTail : List ℕ → Tail → ℕ → CifKind → Type 0
SaysTail text tails.Clean offset kind = ⊥
SaysTail text (tails.Filled place) offset kind = (offset ≡ place) × (kind ≡ AfterEnd)
SaysTail text tails.Unclosed offset kind = (offset ≡ length text) × (kind ≡ NoEnd)

record IsAfterEnd {S D : Type 0} (reader : Reader S D) (text : List ℕ) (state : S) (begin offset : ℕ)
    (kind : CifKind) : Type 0 where
  closed : reader.is_open state ≡ false
  tail : Tail
  found : IsTail text (begin + 1) tail
  says : SaysTail text tail offset kind

abbrev Says : {S D : Type 0} → Reader S D → List ℕ → S → Next → ℕ → CifKind → Type 0
Says reader text state (Whole begin command after) offset kind =
    (offset ≡ begin) × (reader.act state command ≡ Err kind)
Says {S = S} reader text state (Cut begin command) offset kind =
    ((offset ≡ begin) × (reader.act state command ≡ Err kind))
    ⊎ ((done : S) × (reader.act state command ≡ Ok done) × (offset ≡ length text) × (kind ≡ NoEnd))
Says reader text state (Bad begin) offset kind = (offset ≡ begin) × (kind ≡ BadCommand)
Says reader text state (End begin) offset kind =
    ((reader.is_open state ≡ true) × (offset ≡ begin) × (kind ≡ NestedDefinition))
    ⊎ IsAfterEnd reader text state begin offset kind
Says reader text state Missing offset kind = (offset ≡ length text) × (kind ≡ NoEnd)

record IsSaid {S D : Type 0} (reader : Reader S D) (text : List ℕ) (state : S) (read offset : ℕ)
    (kind : CifKind) : Type 0 where
  next : Next
  found : IsNext text read next
  says : Says reader text state next offset kind

said : {S D : Type 0} (reader : Reader S D) (text : List ℕ) (state : S) (read offset : ℕ) (kind : CifKind)
    → IsFaultBy reader text state read offset kind → IsSaid reader text state read offset kind
said reader text state read offset kind (no_command begin next) =
    record { next = Bad begin; found = next; says = (refl, refl) }
said reader text state read offset kind (refused begin after command k next acted) =
    record { next = Whole begin command after; found = next; says = (refl, acted) }
said reader text state read offset kind (cut_and_refused begin command k next acted) =
    record { next = Cut begin command; found = next; says = inl (refl, acted) }
said reader text state read offset kind (cut begin command done next acted) =
    record { next = Cut begin command; found = next; says = inr (done, acted, refl, refl) }
said reader text state read offset kind (missing next) = record { next = Missing; found = next; says = (refl, refl) }
said reader text state read offset kind (end_inside begin next begun) =
    record { next = End begin; found = next; says = inl (begun, refl, refl) }
said reader text state read offset kind (filled begin place next closed tail) =
    record {
      next = End begin;
      found = next;
      says = inr (record { closed = closed; tail = tails.Filled place; found = tail; says = (refl, refl) });
    }
said reader text state read offset kind (unclosed begin next closed tail) =
    record {
      next = End begin;
      found = next;
      says = inr (record { closed = closed; tail = tails.Unclosed; found = tail; says = (refl, refl) });
    }

-- nothing goes on there
fault_stops : {S D : Type 0} (reader : Reader S D) (one : NextIsDetermined) (text : List ℕ) (state : S)
    (read offset : ℕ) (kind : CifKind) → IsSaid reader text state read offset kind → GoesOn reader text read state → ⊥
fault_stops reader one text state read offset kind s g =
    no_way s.next (one text read s.next (Whole g.begin g.command g.after) s.found g.found) s.says
  where
    no_way : (next : Next) → next ≡ Whole g.begin g.command g.after → Says reader text state next offset kind → ⊥
    no_way (Whole begin command after) e h = let same : command ≡ g.command = cc in let acted = g.acted in let err =
        h.1 in cc
    no_way (Cut begin command) e h = cc
    no_way (Bad begin) e h = cc
    no_way (End begin) e h = cc
    no_way Missing e h = cc

-- ---- one fault at one place

same_tail : (text : List ℕ) (tail : Tail) (o p : ℕ) (k l : CifKind) → SaysTail text tail o k → SaysTail text tail p l
    → (o ≡ p) × (k ≡ l)
same_tail text tails.Clean o p k l a b = absurd a
same_tail text (tails.Filled place) o p k l a b = (a.0 ∙ sym b.0, a.1 ∙ sym b.1)
same_tail text tails.Unclosed o p k l a b = (a.0 ∙ sym b.0, a.1 ∙ sym b.1)

same_after : {S D : Type 0} (reader : Reader S D) (one : TailIsDetermined) (text : List ℕ) (state : S) (begin o p : ℕ)
    (k l : CifKind) → IsAfterEnd reader text state begin o k → IsAfterEnd reader text state begin p l
    → (o ≡ p) × (k ≡ l)
same_after reader one text state begin o p k l a b =
    same_tail text a.tail o p k l a.says
    (subst (λ t. SaysTail text t p l) (one text (begin + 1) b.tail a.tail b.found a.found) b.says)

same_says : {S D : Type 0} (reader : Reader S D) (one : TailIsDetermined) (text : List ℕ) (state : S) (next : Next)
    (o p : ℕ) (k l : CifKind) → Says reader text state next o k → Says reader text state next p l → (o ≡ p) × (k ≡ l)
same_says reader one text state (Whole begin command after) o p k l (a, e) (b, f) = (a ∙ sym b, cc)
same_says reader one text state (Cut begin command) o p k l (inl (a, e)) (inl (b, f)) = (a ∙ sym b, cc)
same_says reader one text state (Cut begin command) o p k l (inl (a, e)) (inr (done, f, _, _)) = absurd cc
same_says reader one text state (Cut begin command) o p k l (inr (done, f, _, _)) (inl (a, e)) = absurd cc
same_says reader one text state (Cut begin command) o p k l (inr (done, e, a, c)) (inr (done', f, b, d)) =
    (a ∙ sym b, c ∙ sym d)
same_says reader one text state (Bad begin) o p k l a b = (a.0 ∙ sym b.0, a.1 ∙ sym b.1)
same_says reader one text state (End begin) o p k l (inl (e, a, c)) (inl (f, b, g)) = (a ∙ sym b, c ∙ sym g)
same_says reader one text state (End begin) o p k l (inl (e, a, c)) (inr b) = absurd (false≢true (sym b.closed ∙ e))
same_says reader one text state (End begin) o p k l (inr a) (inl (e, b, c)) = absurd (false≢true (sym a.closed ∙ e))
same_says reader one text state (End begin) o p k l (inr a) (inr b) = same_after reader one text state begin o p k l a b
same_says reader one text state Missing o p k l a b = (a.0 ∙ sym b.0, a.1 ∙ sym b.1)

same_said : {S D : Type 0} (reader : Reader S D) (one : NextIsDetermined) (tail : TailIsDetermined) (text : List ℕ)
    (state : S) (read o p : ℕ) (k l : CifKind) → IsSaid reader text state read o k → IsSaid reader text state read p l
    → (o ≡ p) × (k ≡ l)
same_said reader one tail text state read o p k l a b =
    same_says reader tail text state a.next o p k l a.says
    (subst (λ n. Says reader text state n p l) (one text read b.next a.next b.found a.found) b.says)

-- ---- none where a meaning ends

clean_says : (text : List ℕ) (tail : Tail) (o : ℕ) (k : CifKind) → tail ≡ tails.Clean → SaysTail text tail o k → ⊥
clean_says text tail o k e says = subst (λ t. SaysTail text t o k) e says

no_says : {S D : Type 0} (reader : Reader S D) (tail : TailIsDetermined) (text : List ℕ) (read : ℕ) (state : S)
    (e : EndsWell reader text read state) (o : ℕ) (k : CifKind) → Says reader text state (End e.begin) o k → ⊥
no_says reader tail text read state e o k (inl (begun, _, _)) = absurd (false≢true (sym e.closed ∙ begun))
no_says reader tail text read state e o k (inr b) =
    clean_says text b.tail o k (tail text (e.begin + 1) b.tail tails.Clean b.found e.after) b.says

no_fault : {S D : Type 0} (reader : Reader S D) (one : NextIsDetermined) (tail : TailIsDetermined) (text : List ℕ)
    (read : ℕ) (state : S) (o : ℕ) (k : CifKind) → EndsWell reader text read state → IsSaid reader text state read o k
    → ⊥
no_fault reader one tail text read state o k e s =
    no_says reader tail text read state e o k
    (subst (λ n. Says reader text state n o k) (one text read s.next (End e.begin) s.found e.ended) s.says)

-- ---- the law

walked : {S D : Type 0} (reader : Reader S D) (one : NextIsDetermined) (text : List ℕ) (r q : ℕ) (s t : S)
    → BeginsWellBy reader text r s → BeginsWellBy reader text q t → Compared reader text r s q t
walked reader one text r q s t a b =
    compared reader one (length a.commands) (length b.commands) text 0 _ r s q t (walks_well reader text r s a)
    (walks_well reader text q t b)

one_hierarchy : {S D : Type 0} (reader : Reader S D) (one : NextIsDetermined) (text : List ℕ) (a b : D)
    → MeansBy reader text a → MeansBy reader text b → a ≡ b
one_hierarchy reader one text a b m n =
    let e = ends_well reader text a m in
    let f = ends_well reader text b n in
    elim (walked reader one text (length (joined m.chunks)) (length (joined n.chunks)) m.state n.state e.well f.well) [
      | inl same ↦ m.drawn ∙ (ap reader.drawn same.1 ∙ sym n.drawn)
      | inr (inl g) ↦ absurd (end_stops reader one text (length (joined m.chunks)) m.state e g)
      | inr (inr g) ↦ absurd (end_stops reader one text (length (joined n.chunks)) n.state f g)
    ]

said_at : {S D : Type 0} (reader : Reader S D) (text : List ℕ) (r q : ℕ) (s t : S) (o : ℕ) (k : CifKind) → r ≡ q
    → s ≡ t → IsSaid reader text t q o k → IsSaid reader text s r o k
said_at reader text r q s t o k e f h =
    subst (λ n. IsSaid reader text s n o k) (sym e) (subst (λ u. IsSaid reader text u q o k) (sym f) h)

same_fault : (x y : CifFault) → (x.offset ≡ y.offset) × (x.kind ≡ y.kind) → x ≡ y
same_fault x y h =
    let at : ℕ → CifFault = λ o. record { offset = o; kind = x.kind } in
    let of : CifKind → CifFault = λ k. record { offset = y.offset; kind = k } in
    ap at h.0 ∙ ap of h.1

one_fault : {S D : Type 0} (reader : Reader S D) (one : NextIsDetermined) (tail : TailIsDetermined) (text : List ℕ)
    (a b : CifFault) → IsFirstFaultBy reader text a → IsFirstFaultBy reader text b → a ≡ b
one_fault reader one tail text a b m n =
    let e = said reader text m.state m.read a.offset a.kind m.is_fault in
    let f = said reader text n.state n.read b.offset b.kind n.is_fault in
    elim (walked reader one text m.read n.read m.state n.state m.well n.well) [
      | inl same ↦
          same_fault a b
          (same_said reader one tail text m.state m.read a.offset b.offset a.kind b.kind e
          (said_at reader text m.read n.read m.state n.state b.offset b.kind same.0 same.1 f))
      | inr (inl g) ↦ absurd (fault_stops reader one text m.state m.read a.offset a.kind e g)
      | inr (inr g) ↦ absurd (fault_stops reader one text n.state n.read b.offset b.kind f g)
    ]

not_both : {S D : Type 0} (reader : Reader S D) (one : NextIsDetermined) (tail : TailIsDetermined) (text : List ℕ)
    (hierarchy : D) (fault : CifFault) → MeansBy reader text hierarchy → IsFirstFaultBy reader text fault → ⊥
not_both reader one tail text hierarchy fault m n =
    let e = ends_well reader text hierarchy m in
    let f = said reader text n.state n.read fault.offset fault.kind n.is_fault in
    let read = length (joined m.chunks) in
    elim (walked reader one text read n.read m.state n.state e.well n.well) [
      | inl same ↦ no_fault reader one tail text read m.state fault.offset fault.kind e
          (said_at reader text read n.read m.state n.state fault.offset fault.kind same.0 same.1 f)
      | inr (inl g) ↦ end_stops reader one text read m.state e g
      | inr (inr g) ↦ fault_stops reader one text n.state n.read fault.offset fault.kind f g
    ]

pub determined : {S D : Type 0} (reader : Reader S D) → NextIsDetermined → TailIsDetermined → IsDeterminedBy reader
determined reader one tail = record {
  one_hierarchy = λ text a b _ m n. one_hierarchy reader one text a b m n;
  one_fault = λ text a b _ m n. one_fault reader one tail text a b m n;
  not_both = λ text hierarchy fault _ m n. not_both reader one tail text hierarchy fault m n;
}
