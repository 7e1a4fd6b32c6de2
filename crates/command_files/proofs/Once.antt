-- Steps come to one end at most.
use Rattle.std.proofs.Common.{◌≡◌, ◌≤◌, length, inl, inr, sym, ap, ◌∙◌, subst, arith}
use Rattle.lam_io.specs.Io.{Bytes, Files}
use Rattle.command_files.specs.{declared.{refusal.Refusal.Refusal, status.{File.File, Status.Status}}, Refusal.line_of}
use Rattle.command_files.specs.{Refusal.message_text, Fetches.{HasFile, IsLongFile, limit_of, IsDecided}}
use Rattle.command_files.specs.StepLists.{Reader, Says, Fails, RefusesFile, Steps, writes, reads, makes, StepsWrite}
use Rattle.command_files.specs.StepLists.{StepsRefuse, Refuses}
use Rattle.command_files.specs.declared.status.Status.TheVariants as statuses

-- the same status and the same line
abbrev pub AreOne : Status → Status → Bytes → Bytes → Type 0
AreOne status other message told = (status ≡ other) × (line_of status message ≡ line_of other told)

-- ---- one file

-- a text says one thing at most, or has one first fault
pub record ReadsOnce {A : Type 0} (reader : Reader A) : Type 0 where
  pub one : (text : Bytes) (x y : A) → reader.says text x → reader.says text y → x ≡ y
  pub not_both : (text : Bytes) (x : A) (status : Status) (message : Bytes) → reader.says text x
      → reader.fails text status message → ⊥
  pub one_fault : (text : Bytes) (status other : Status) (message told : Bytes) → reader.fails text status message
      → reader.fails text other told → (status ≡ other) × (message ≡ told)

pub one_text : (files : Files) (file : File) (name s t : Bytes) → HasFile files file name s
    → HasFile files file name t → s ≡ t
one_text files file name s t a b = let p = sym a.there ∙ b.there in cc

not_long : (files : Files) (file : File) (name s : Bytes) → HasFile files file name s → IsLongFile files file name → ⊥
not_long files file name s a l =
    let e : s ≡ l.text = let p = sym a.there ∙ l.there in cc in
    let short = a.short in
    let long = l.long in
    let n = ap length e in
    omega (arith, short, long, n)

pub says_once : {A : Type 0} (reader : Reader A) → ReadsOnce reader → (files : Files) (name : Bytes) (x y : A)
    → Says reader files name x → Says reader files name y → x ≡ y
says_once reader law files name x y a b =
    law.one a.text x y a.read
    (subst (λ (t : Bytes). reader.says t y) (one_text files reader.file name b.text a.text b.file a.file) b.read)

-- a file that has been read is not refused
pub read_not_refused : {A : Type 0} (reader : Reader A) → ReadsOnce reader
    → (files : Files) (name : Bytes) (x : A) (status : Status) (message : Bytes) → Says reader files name x
    → RefusesFile reader name files status message → IsDecided status → ⊥
read_not_refused reader law files name x statuses.OutOfMemory message a why d = d
read_not_refused reader law files name x (statuses.ReadFault f) message a why d = d
read_not_refused reader law files name x (statuses.TooLong f) message a why d =
    not_long files reader.file name a.text a.file why.1
read_not_refused reader law files name x other message a why d =
    law.not_both a.text x other message a.read
    (subst (λ (t : Bytes). reader.fails t other message)
    (one_text files reader.file name why.text a.text why.file a.file) why.read)

fails_once : {A : Type 0} (reader : Reader A) → ReadsOnce reader
    → (files : Files) (name : Bytes) (status other : Status) (message told : Bytes)
    → Fails reader files name status message
    → Fails reader files name other told → AreOne status other message told
fails_once reader law files name status other message told a b =
    let same = law.one_fault a.text status other message told a.read
    (subst (λ (t : Bytes). reader.fails t other told)
    (one_text files reader.file name b.text a.text b.file a.file) b.read) in
    (same.0, ap (λ (s : Status). line_of s message) same.0 ∙ ap (line_of other) same.1)

-- a refusal of a file that the words and the files decide
data Unread {A : Type 0} (reader : Reader A) (files : Files) (name : Bytes) (status : Status) (message : Bytes) : Type
    0 where
  long : IsLongFile files reader.file name → status ≡ statuses.TooLong reader.file
      → Unread reader files name status message
  faulty : Fails reader files name status message → Unread reader files name status message

unread : {A : Type 0} (reader : Reader A) (files : Files) (name : Bytes) (status : Status) (message : Bytes)
    → RefusesFile reader name files status message → IsDecided status → Unread reader files name status message
unread reader files name statuses.OutOfMemory message why d = absurd d
unread reader files name (statuses.ReadFault f) message why d = absurd d
unread reader files name (statuses.TooLong f) message why d = long why.1 (ap (λ (z : File). statuses.TooLong z) why.0)
unread reader files name other message why d = faulty why

file_once : {A : Type 0} (reader : Reader A) → ReadsOnce reader
    → (files : Files) (name : Bytes) (status other : Status) (message told : Bytes)
    → Unread reader files name status message
    → Unread reader files name other told → AreOne status other message told
file_once reader law files name status other message told (long l e) (long k f) =
    (e ∙ sym f, ap (λ (s : Status). line_of s message) e ∙ sym (ap (λ (s : Status). line_of s told) f))
file_once reader law files name status other message told (long l e) (faulty b) =
    absurd (not_long files reader.file name b.text b.file l)
file_once reader law files name status other message told (faulty a) (long k f) =
    absurd (not_long files reader.file name a.text a.file k)
file_once reader law files name status other message told (faulty a) (faulty b) =
    fails_once reader law files name status other message told a b

-- ---- all steps

-- what is made is one, and is not refused then; and what is refused is so in one way
pub record MakesOnce {A : Type 0} (Is : A → Type 0) (why : Status → Bytes → Type 0) : Type 0 where
  pub one_made : (x y : A) → Is x → Is y → x ≡ y
  pub not_both : (status : Status) (message : Bytes) (x : A) → Is x → why status message → IsDecided status → ⊥
  pub one : (status other : Status) (message told : Bytes) → why status message → why other told → IsDecided status
      → IsDecided other → AreOne status other message told

-- a cause as a fault that is not want of memory, and comes to a refusal
abbrev pub IsFault : {F : Type 0} → (F → Type 0) → F → (F → Refusal) → Status → Bytes → Type 0
IsFault {F} Has none refusal status message =
    (f : F) × Has f × (f ≡ none → ⊥) × (status ≡ (refusal f).status)
    × (line_of status message ≡ line_of (refusal f).status (message_text (refusal f).line))

-- where there is one fault
pub once_by : {A F : Type 0} {Is : A → Type 0} {why : Status → Bytes → Type 0} (Has : F → Type 0) (none : F)
    (refusal : F → Refusal)
    → ((f g : F) → Has f → Has g → (f ≡ none → ⊥) → (g ≡ none → ⊥) → f ≡ g)
    → ((status : Status) (message : Bytes) → why status message → IsFault Has none refusal status message)
    → ((x y : A) → Is x → Is y → x ≡ y)
    → ((status : Status) (message : Bytes) (x : A) → Is x → why status message → ⊥) → MakesOnce Is why
once_by Has none refusal one as_fault one_made both = record {
  one_made = one_made;
  not_both = λ status message x is reason d. both status message x is reason;
  one = λ status other message told a b d g.
      (let f = as_fault status message a in
      let h = as_fault other told b in
      let same = one f.0 h.0 f.1 h.1 f.2 h.2 in (
        f.3 ∙ (ap (λ z. (refusal z).status) same ∙ sym h.3),
        f.4
            ∙ (ap (λ z. line_of (refusal z).status (message_text (refusal z).line)) same ∙ sym h.4),
      ));
}

-- each step comes to one end at most
abbrev pub ComeOnce : Steps → Type 0
ComeOnce (writes texts) = (o p r s : Bytes) → texts o r → texts p s → (o ≡ p) × (r ≡ s)
ComeOnce (reads {A} reader name rest) = ReadsOnce reader
    × ((x : A) (text : Bytes) → length text ≤ limit_of reader.file → reader.says text x → ComeOnce (rest x))
ComeOnce (makes {A} Is why rest) = MakesOnce Is why × ((x : A) → Is x → ComeOnce (rest x))

pub writes_once : (steps : Steps) → ComeOnce steps → (files : Files) (o p r s : Bytes) → StepsWrite steps files o r
    → StepsWrite steps files p s → (o ≡ p) × (r ≡ s)
writes_once (writes texts) law files o p r s a b = law o p r s a b
writes_once (reads {A} reader name rest) law files o p r s (x, is, a) (y, are, b) =
    let same : y ≡ x = says_once reader law.0 files name y x are is in
    writes_once (rest x) (law.1 x is.text is.file.short is.read) files o p r s a
    (subst (λ (z : A). StepsWrite (rest z) files p s) same b)
writes_once (makes {A} Is why rest) law files o p r s (x, is, a) (y, are, b) =
    let same : y ≡ x = law.0.one_made y x are is in
    writes_once (rest x) (law.1 x is) files o p r s a (subst (λ (z : A). StepsWrite (rest z) files p s) same b)

steps_not_both : (steps : Steps) → ComeOnce steps → (files : Files) (o r : Bytes) (status : Status) (message : Bytes)
    → StepsWrite steps files o r → StepsRefuse steps files status message → IsDecided status → ⊥
steps_not_both (writes texts) law files o r status message a b d = b
steps_not_both (reads {A} reader name rest) law files o r status message (x, is, a) (inl why) d =
    read_not_refused reader law.0 files name x status message is why d
steps_not_both (reads {A} reader name rest) law files o r status message (x, is, a) (inr (y, are, b)) d =
    let same : y ≡ x = says_once reader law.0 files name y x are is in
    steps_not_both (rest x) (law.1 x is.text is.file.short is.read) files o r status message a
    (subst (λ (z : A). StepsRefuse (rest z) files status message) same b) d
steps_not_both (makes {A} Is why rest) law files o r status message (x, is, a) (inl reason) d =
    law.0.not_both status message x is reason.1 d
steps_not_both (makes {A} Is why rest) law files o r status message (x, is, a) (inr (y, are, b)) d =
    let same : y ≡ x = law.0.one_made y x are is in
    steps_not_both (rest x) (law.1 x is) files o r status message a
    (subst (λ (z : A). StepsRefuse (rest z) files status message) same b) d

steps_refused_once : (steps : Steps) → ComeOnce steps → (files : Files) (e f : Status) (message told : Bytes)
    → StepsRefuse steps files e message → StepsRefuse steps files f told → IsDecided e → IsDecided f
    → AreOne e f message told
steps_refused_once (writes texts) law files e f message told a b d g = absurd a
steps_refused_once (reads {A} reader name rest) law files e f message told (inl a) (inl b) d g =
    file_once reader law.0 files name e f message told (unread reader files name e message a d)
    (unread reader files name f told b g)
steps_refused_once (reads {A} reader name rest) law files e f message told (inl a) (inr (y, are, b)) d g =
    absurd (read_not_refused reader law.0 files name y e message are a d)
steps_refused_once (reads {A} reader name rest) law files e f message told (inr (x, is, a)) (inl b) d g =
    absurd (read_not_refused reader law.0 files name x f told is b g)
steps_refused_once (reads {A} reader name rest) law files e f message told (inr (x, is, a)) (inr (y, are, b)) d g =
    let same : y ≡ x = says_once reader law.0 files name y x are is in
    steps_refused_once (rest x) (law.1 x is.text is.file.short is.read) files e f message told a
    (subst (λ (z : A). StepsRefuse (rest z) files f told) same b) d g
steps_refused_once (makes {A} Is why rest) law files e f message told (inl a) (inl b) d g =
    law.0.one e f message told a.1 b.1 d g
steps_refused_once (makes {A} Is why rest) law files e f message told (inl a) (inr (y, are, b)) d g =
    absurd (law.0.not_both e message y are a.1 d)
steps_refused_once (makes {A} Is why rest) law files e f message told (inr (x, is, a)) (inl b) d g =
    absurd (law.0.not_both f told x is b.1 g)
steps_refused_once (makes {A} Is why rest) law files e f message told (inr (x, is, a)) (inr (y, are, b)) d g =
    let same : y ≡ x = law.0.one_made y x are is in
    steps_refused_once (rest x) (law.1 x is) files e f message told a
    (subst (λ (z : A). StepsRefuse (rest z) files f told) same b) d g

pub not_both : (steps : Steps) → ComeOnce steps → (files : Files) (o r : Bytes) (status : Status) (message : Bytes)
    → StepsWrite steps files o r → Refuses steps files status message → IsDecided status → ⊥
not_both steps law files o r status message a (inl none) d = subst IsDecided none d
not_both steps law files o r status message a (inr why) d = steps_not_both steps law files o r status message a why d

pub refused_once : (steps : Steps) → ComeOnce steps → (files : Files) (e f : Status) (message told : Bytes)
    → Refuses steps files e message → Refuses steps files f told → IsDecided e → IsDecided f
    → AreOne e f message told
refused_once steps law files e f message told (inl none) b d g = absurd (subst IsDecided none d)
refused_once steps law files e f message told (inr a) (inl none) d g = absurd (subst IsDecided none g)
refused_once steps law files e f message told (inr a) (inr b) d g =
    steps_refused_once steps law files e f message told a b d g
