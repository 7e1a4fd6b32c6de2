-- Two readings of one text go the same way.
use Rattle.std.proofs.Common.{◌≡◌, ℕ, zero, suc, ◌+◌, ◌≤◌, ◌⊎◌, inl, inr, Result, Ok, Err, List, [], ◌∷◌, ◌++◌, length}
use Rattle.std.proofs.Common.{drop, fold, refl, sym, ap, ◌∙◌, subst, arith, length-append, length-drop}
use Rattle.std.{proofs.lemmas.List.{append_assoc, drop-drop, drop_at}, specs.List.AllZip}
use Rattle.cif_lex.specs.{declared.command.{Command.Command, Next.TheVariants.Whole}, Blanks.semicolon}
use Rattle.cif_lex.specs.Commands.{IsWholeCommand, IsNext, NextIsDetermined}
use Rattle.cif_read.specs.{declared.fault.CifKind.CifKind, Readers.{Reader, then_act_by, joined, BeginsWellBy}}
use Rattle.cif_read.proofs.Beginnings.{chunk_left, chunk_length}

-- ---- from a place and a state to others, in so many commands

abbrev pub WalksIn : {S D : Type 0} → Reader S D → ℕ → List ℕ → ℕ → S → ℕ → S → Type 0
WalksIn reader zero text read state end done = (end ≡ read) × (done ≡ state)
WalksIn reader (suc n) text read state end done =
    (begin after : ℕ) × (command : Command) × (next : _) × IsNext text read (Whole begin command after)
    × (reader.act state command ≡ Ok next) × WalksIn reader n text after next end done

pub err_stays : {S D : Type 0} (reader : Reader S D) (kind : CifKind) (commands : List Command)
    → fold (then_act_by reader) (Err kind) commands ≡ Err kind
err_stays reader kind [] = refl
err_stays reader kind (c ∷ cs) = err_stays reader kind cs

ok_first : {S D : Type 0} (reader : Reader S D) (answer : Result S CifKind) (commands : List Command) (done : S)
    → fold (then_act_by reader) answer commands ≡ Ok done → (state : S) × (answer ≡ Ok state)
ok_first reader (Ok state) commands done e = (state, refl)
ok_first reader (Err kind) commands done e = let stays = err_stays reader kind commands in absurd cc

walks_of : {S D : Type 0} (reader : Reader S D) (text : List ℕ) (read : ℕ) (state : S) (commands : List Command)
    (chunks : List (List ℕ)) (rest : List ℕ) (end : ℕ) (done : S) → read ≤ length text
    → AllZip IsWholeCommand commands chunks
    → drop read text ≡ joined chunks ++ rest → end ≡ read + length (joined chunks)
    → fold (then_act_by reader) (Ok state) commands ≡ Ok done
    → WalksIn reader (length commands) text read state end done
walks_of reader text read state [] [] rest end done within all cut ends acted = (omega arith, cc)
walks_of reader text read state [] (p ∷ ps) rest end done within all cut ends acted = absurd all
walks_of reader text read state (c ∷ cs) [] rest end done within all cut ends acted = absurd all
walks_of reader text read state (c ∷ cs) (p ∷ ps) rest end done within all cut ends acted =
    let one = all.0 in
    let later = joined ps ++ rest in
    let apart : drop read text ≡ p ++ later = cut ∙ append_assoc p (joined ps) rest in
    let at : drop read text ≡ one.gap ++ (one.body ++ (semicolon ∷ later)) = apart
    ∙ (ap (λ zs. zs ++ later) one.joined ∙ chunk_left one.gap one.body later) in
    let size : length p ≡ length one.gap + (length one.body + 1) = ap length one.joined
    ∙ chunk_length one.gap one.body in
    let fits : read + length p ≤ length text =
    omega (arith, ap length apart, length-append p later, length-drop read text) in
    let first = ok_first reader (reader.act state c) cs done acted in
    let after : drop (read + length p) text ≡ later = sym (drop-drop (length p) read text)
    ∙ (ap (drop (length p)) apart ∙ drop_at p later (length p) refl) in (
      read + length one.gap,
      read + length p,
      c,
      first.0,
      (
        one.body,
        later,
        one.is_body,
        record { gap = one.gap; is_gap = one.is_gap; joined = at; begins = refl },
        omega arith,
        fits,
      ),
      first.1,
      walks_of reader text (read + length p) first.0 cs ps rest end done fits all.1 after
          (omega (arith, length-append p (joined ps)))
          (ap (λ answer. fold (then_act_by reader) answer cs) (sym first.1) ∙ acted),
    )

pub walks_well : {S D : Type 0} (reader : Reader S D) (text : List ℕ) (read : ℕ) (state : S)
    (well : BeginsWellBy reader text read state)
    → WalksIn reader (length well.commands) text 0 reader.start read state
walks_well reader text read state well =
    walks_of reader text 0 reader.start well.commands well.chunks well.rest read state (omega arith) well.spelled
    well.cut (omega (arith, well.counted)) well.done

-- ---- two of them

-- a command stands there that may follow
pub record GoesOn {S D : Type 0} (reader : Reader S D) (text : List ℕ) (read : ℕ) (state : S) : Type 0 where
  pub begin : ℕ
  pub after : ℕ
  pub command : Command
  pub next : S
  pub found : IsNext text read (Whole begin command after)
  pub acted : reader.act state command ≡ Ok next

-- they end at the same place in the same state, or one of them might have gone on
abbrev pub Compared : {S D : Type 0} → Reader S D → List ℕ → ℕ → S → ℕ → S → Type 0
Compared reader text r s q t = ((r ≡ q) × (s ≡ t)) ⊎ (GoesOn reader text r s ⊎ GoesOn reader text q t)

pub compared : {S D : Type 0} (reader : Reader S D) (one : NextIsDetermined) (n m : ℕ) (text : List ℕ) (read : ℕ)
    (state : S) (r : ℕ) (s : S) (q : ℕ) (t : S)
    → WalksIn reader n text read state r s → WalksIn reader m text read state q t → Compared reader text r s q t
compared reader one zero zero text read state r s q t a b = inl (omega (arith, a.0, b.0), a.1 ∙ sym b.1)
compared reader one zero (suc m) text read state r s q t a (begin, after, command, next, found, acted, walk) =
    inr (inl
    (subst (λ n. GoesOn reader text n s) (sym a.0)
    (subst (GoesOn reader text read) (sym a.1)
    (record { begin = begin; after = after; command = command; next = next; found = found; acted = acted }))))
compared reader one (suc n) zero text read state r s q t (begin, after, command, next, found, acted, walk) b =
    inr (inr
    (subst (λ k. GoesOn reader text k t) (sym b.0)
    (subst (GoesOn reader text read) (sym b.1)
    (record { begin = begin; after = after; command = command; next = next; found = found; acted = acted }))))
compared reader one (suc n) (suc m) text read state r s q t (begin, after, command, next, found, acted, walk)
    (begin', after', command', next', found', acted', walk') =
    let same = one text read (Whole begin command after) (Whole begin' command' after') found found' in
    let end : after' ≡ after = cc in
    let which : command' ≡ command = cc in
    let state_after : next' ≡ next = cc in
    compared reader one n m text after next r s q t walk
    (subst (λ k. WalksIn reader m text k next q t) end
    (subst (λ u. WalksIn reader m text after' u q t) state_after walk'))
