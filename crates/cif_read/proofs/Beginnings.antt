-- What has been read of a text.
use Rattle.std.proofs.Common.{◌≡◌, ℕ, ◌+◌, ◌≤◌, Bool, false, Option, Some, None, is_some, option_map, Result, Ok, List}
use Rattle.std.proofs.Common.{[], ◌∷◌, ◌++◌, length, drop, fold, refl, sym, ap, ◌∙◌, subst, arith, length-append}
use Rattle.std.proofs.{Common.length-drop, lemmas.List.{append-nil, append_assoc, drop_at, Concat.flat_map-append}}
use Rattle.std.specs.List.{AllZip}
use Rattle.cif_lex.specs.declared.command.{Command.Command, Next.TheVariants.{Whole, Cut, End}}
use Rattle.cif_lex.specs.{Blanks.{semicolon, IsGap}, Commands.{IsWholeCommand, IsNext, Follows}}
use Rattle.cif_read.specs.declared.fault.{CifKind.CifKind, Stop.{Stop, TheVariants.{Refused, OutOfMemory}}}
use Rattle.cif_read.specs.Readers.{Reader, then_act_by, acts_by, BeginsWellBy, MeansBy, joined, refused}
use Rattle.cif_read.specs.Readers.{cut_and_refused, IsCauseBy, cause_of, IsCauseOfStop}
use Rattle.cif_read.specs.{declared.{dialect.Dialect.Dialect, state.Reading.Reading}, Acts.start, Meaning.reader_of}
use Rattle.cif_read.specs.Readings.{state_of, IsSound, HasRead}

pub begins_none : {S D : Type 0} (reader : Reader S D) (text : List ℕ) → BeginsWellBy reader text 0 reader.start
begins_none reader text =
    record { chunks = []; commands = []; spelled = tt; rest = text; cut = refl; counted = refl; done = refl }

-- nothing has been read
pub read_none : (dialect : Dialect) (text : List ℕ) (r : Reading) → state_of r ≡ start → IsSound 0 r
    → HasRead dialect text 0 r
read_none dialect text r is_start sound =
    let reader = reader_of dialect in
    record {
      within = omega arith;
      well = subst (BeginsWellBy reader text 0) (sym is_start) (begins_none reader text);
      sound = sound;
    }

-- what is left after so many bytes
pub left_of : {S D : Type 0} (reader : Reader S D) (text : List ℕ) (read : ℕ) (state : S)
    (well : BeginsWellBy reader text read state) → drop read text ≡ well.rest
left_of reader text read state well = ap (drop read) well.cut
    ∙ drop_at (joined well.chunks) well.rest read (sym well.counted)

pub begin_within : (text rest : List ℕ) (read begin : ℕ) → read ≤ length text → Follows text read begin rest
    → begin + length rest ≤ length text
begin_within text rest read begin h f =
    omega (arith, f.begins, ap length f.joined, length-drop read text, length-append f.gap rest)

joined_push : (chunks : List (List ℕ)) (chunk : List ℕ) → joined (chunks ++ chunk ∷ []) ≡ joined chunks ++ chunk
joined_push chunks chunk = flat_map-append (λ p. p) chunks (chunk ∷ [])
    ∙ ap (λ zs. joined chunks ++ zs) (append-nil chunk)

acts_push_from : {S D : Type 0} (reader : Reader S D) (answer : Result S CifKind) (commands : List Command)
    (command : Command)
    → fold (then_act_by reader) answer (commands ++ command ∷ [])
    ≡ then_act_by reader (fold (then_act_by reader) answer commands) command
acts_push_from reader answer [] command = refl
acts_push_from reader answer (first ∷ commands) command =
    acts_push_from reader (then_act_by reader answer first) commands command

-- whether a definition is open, as it is seen
pub seen_begun : {A B : Type 0} (f : A → B) (begun : Option A) → is_some (option_map f begun) ≡ is_some begun
seen_begun f None = refl
seen_begun f (Some b) = refl

pub begun_from : {A B : Type 0} (f : A → B) (begun : Option A) (is_open : Bool) → is_open ≡ is_some begun
    → is_some (option_map f begun) ≡ is_open
begun_from f begun is_open e = seen_begun f begun ∙ sym e

pub acts_push : {S D : Type 0} (reader : Reader S D) (commands : List Command) (command : Command) (state : S)
    → acts_by reader commands ≡ Ok state → acts_by reader (commands ++ command ∷ []) ≡ reader.act state command
acts_push reader commands command state e = acts_push_from reader (Ok reader.start) commands command
    ∙ ap (λ answer. then_act_by reader answer command) e

spelled_push : (commands : List Command) (chunks : List (List ℕ)) (command : Command) (chunk : List ℕ)
    → AllZip IsWholeCommand commands chunks → IsWholeCommand command chunk
    → AllZip IsWholeCommand (commands ++ command ∷ []) (chunks ++ chunk ∷ [])
spelled_push [] [] command chunk all one = (one, tt)
spelled_push [] (p ∷ ps) command chunk all one = absurd all
spelled_push (c ∷ cs) [] command chunk all one = absurd all
spelled_push (c ∷ cs) (p ∷ ps) command chunk all one = (all.0, spelled_push cs ps command chunk all.1 one)

pub chunk_left : (gap body rest : List ℕ)
    → (gap ++ (body ++ (semicolon ∷ []))) ++ rest ≡ gap ++ (body ++ (semicolon ∷ rest))
chunk_left gap body rest = append_assoc gap (body ++ (semicolon ∷ [])) rest
    ∙ ap (λ zs. gap ++ zs) (append_assoc body (semicolon ∷ []) rest)

pub chunk_length : (gap body : List ℕ) → length (gap ++ (body ++ (semicolon ∷ []))) ≡ length gap + (length body + 1)
chunk_length gap body = length-append gap (body ++ (semicolon ∷ []))
    ∙ ap (λ n. length gap + n) (length-append body (semicolon ∷ []))

-- one more command
pub begins_more : {S D : Type 0} (reader : Reader S D) (text : List ℕ) (read begin after : ℕ) (state done : S)
    (command : Command) → BeginsWellBy reader text read state → IsNext text read (Whole begin command after)
    → reader.act state command ≡ Ok done → BeginsWellBy reader text after done
begins_more reader text read begin after state done command well (body, rest, is_body, follows, end, within) acted =
    let chunk = follows.gap ++ (body ++ (semicolon ∷ [])) in
    let left : well.rest ≡ chunk ++ rest = sym (left_of reader text read state well)
    ∙ (follows.joined ∙ sym (chunk_left follows.gap body rest)) in
    let size = ap length (joined_push well.chunks chunk) ∙ length-append (joined well.chunks) chunk in
    record {
      chunks = well.chunks ++ chunk ∷ [];
      commands = well.commands ++ command ∷ [];
      spelled = spelled_push well.commands well.chunks command chunk well.spelled
          (record { gap = follows.gap; body = body; is_gap = follows.is_gap; is_body = is_body; joined = refl });
      rest = rest;
      cut = well.cut
          ∙ (ap (λ zs. joined well.chunks ++ zs) left
          ∙ (sym (append_assoc (joined well.chunks) chunk rest)
          ∙ ap (λ zs. zs ++ rest) (sym (joined_push well.chunks chunk))));
      counted = omega (arith, size, chunk_length follows.gap body, well.counted, follows.begins, end);
      done = acts_push reader well.commands command state well.done ∙ acted;
    }

pub end_left : (prefix gap rest : List ℕ) → prefix ++ (gap ++ (69 ∷ rest)) ≡ (prefix ++ (gap ++ (69 ∷ []))) ++ rest
end_left prefix gap rest =
    sym (append_assoc prefix (gap ++ (69 ∷ [])) rest ∙ ap (λ zs. prefix ++ zs) (append_assoc gap (69 ∷ []) rest))

pub end_length : (prefix gap : List ℕ) → length (prefix ++ (gap ++ (69 ∷ []))) ≡ length prefix + (length gap + 1)
end_length prefix gap = length-append prefix (gap ++ (69 ∷ []))
    ∙ ap (λ n. length prefix + n) (length-append gap (69 ∷ []))

-- the end, and what stands after it
pub means_whole : {S D : Type 0} (reader : Reader S D) (text : List ℕ) (read begin : ℕ) (state : S)
    → BeginsWellBy reader text read state → IsNext text read (End begin) → IsGap (drop (begin + 1) text)
    → reader.is_open state ≡ false
    → MeansBy reader text (reader.drawn state)
means_whole reader text read begin state well (rest, follows, within) after closed =
    let whole : text ≡ joined well.chunks ++ (follows.gap ++ (69 ∷ rest)) = well.cut
    ∙ ap (λ zs. joined well.chunks ++ zs) (sym (left_of reader text read state well) ∙ follows.joined) in
    let prefix = joined well.chunks ++ (follows.gap ++ (69 ∷ [])) in
    let size : length prefix ≡ begin + 1 =
    omega (arith, end_length (joined well.chunks) follows.gap, well.counted, follows.begins) in
    let left : drop (begin + 1) text ≡ rest =
    ap (drop (begin + 1)) (whole ∙ end_left (joined well.chunks) follows.gap rest)
    ∙ drop_at prefix rest (begin + 1) size in
    record {
      chunks = well.chunks;
      commands = well.commands;
      spelled = well.spelled;
      gap = follows.gap;
      is_gap = follows.is_gap;
      after = rest;
      is_after = subst IsGap left after;
      whole = whole;
      state = state;
      done = well.done;
      closed = closed;
      drawn = refl;
    }

-- ---- why there is none

pub cause_of_whole : {S D : Type 0} (reader : Reader S D) (text : List ℕ) (read begin after : ℕ) (state : S)
    (command : Command) (stop : Stop) → BeginsWellBy reader text read state
    → IsNext text read (Whole begin command after)
    → IsCauseOfStop (reader.act state command) stop → IsCauseBy reader text (cause_of begin stop)
cause_of_whole reader text read begin after state command (Refused kind) well next h =
    record { read = read; state = state; well = well; is_fault = refused begin after command kind next h }
cause_of_whole reader text read begin after state command OutOfMemory well next h = tt

pub cause_of_cut : {S D : Type 0} (reader : Reader S D) (text : List ℕ) (read begin : ℕ) (state : S)
    (command : Command) (stop : Stop) → BeginsWellBy reader text read state → IsNext text read (Cut begin command)
    → IsCauseOfStop (reader.act state command) stop → IsCauseBy reader text (cause_of begin stop)
cause_of_cut reader text read begin state command (Refused kind) well next h =
    record { read = read; state = state; well = well; is_fault = cut_and_refused begin command kind next h }
cause_of_cut reader text read begin state command OutOfMemory well next h = tt
