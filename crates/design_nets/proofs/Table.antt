-- A table of lists, and how one of its lists grows.
use Rattle.smallvec.specs.SmallVec.{SmallVec}
use Rattle.std.proofs.Common.{◌≡◌, ◌≢◌, ℕ, ◌<◌, List, [], ◌∷◌, ◌++◌, length, map, get_or, set, Contains, Vec, Global}
use Rattle.std.proofs.Common.{sym, ap, ◌∙◌, subst, arith, inl, inr, ◌⊎◌, get_or-set_same, get_or-set_other}
use Rattle.std.proofs.lemmas.{Bool.cases_eq, List.{map-set, length-map, length-set, get_or-map}}
use Rattle.std.proofs.lemmas.List.Elements.{Contains-append_left, Contains-push, Contains-push_cases}
use Rattle.cell_model.specs.declared.cell.Nets.{Nets}
use Rattle.plan_model.specs.declared.plan.Match.{Match}
use Rattle.design_nets.specs.{declared.meetings.Meeting.Meeting, Listing.list_in, Meetings.{row_of, meetings_at}}
use Rattle.design_nets.specs.Meetings.{meeting_of, IsMeeting, AreMeetings}

-- ---- a row of a table

pub row_here : (table : List (Vec (SmallVec Meeting) Global)) (a : ℕ) (v : Vec (SmallVec Meeting) Global)
    → a < length table → row_of (set table a v) a ≡ v.items
row_here table a v lt =
    let items = λ (x : Vec (SmallVec Meeting) Global). x.items in
    ap (λ (xs : List (List (SmallVec Meeting))). get_or xs a []) (map-set items table a v)
    ∙ get_or-set_same (map items table) a v.items [] (omega (arith, length-map table items))

pub row_other : (table : List (Vec (SmallVec Meeting) Global)) (a k : ℕ) (v : Vec (SmallVec Meeting) Global) → k ≢ a
    → row_of (set table a v) k ≡ row_of table k
row_other table a k v ne =
    let items = λ (x : Vec (SmallVec Meeting) Global). x.items in
    ap (λ (xs : List (List (SmallVec Meeting))). get_or xs k []) (map-set items table a v)
    ∙ get_or-set_other (map items table) a k v.items [] ne

pub row_read : (table : List (Vec (SmallVec Meeting) Global)) (a : ℕ) (d : Vec (SmallVec Meeting) Global)
    → a < length table → (get_or table a d).items ≡ row_of table a
row_read table a d lt = sym (get_or-map (λ (x : Vec (SmallVec Meeting) Global). x.items) table a d [] lt)

-- ---- one more meeting

-- a row whose list number b has grown by a meeting
pub record IsGrown (old new : List (SmallVec Meeting)) (b : ℕ) (m : Meeting) : Type 0 where
  pub counted : length new ≡ length old
  pub grown : list_in new b ≡ list_in old b ++ m ∷ []
  pub kept : (k : ℕ) → k ≢ b → list_in new k ≡ list_in old k

-- the lists of a table with such a row in place of its own
pub record IsTableGrown (old new : List (Vec (SmallVec Meeting) Global)) (a b : ℕ) (m : Meeting) : Type 0 where
  pub rows : length new ≡ length old
  pub columns : (k : ℕ) → length (row_of new k) ≡ length (row_of old k)
  pub grown : meetings_at new a b ≡ meetings_at old a b ++ m ∷ []
  pub kept : (k l : ℕ) → (k ≢ a) ⊎ (l ≢ b) → meetings_at new k l ≡ meetings_at old k l

pub table_grown : (table : List (Vec (SmallVec Meeting) Global)) (a b : ℕ) (row : Vec (SmallVec Meeting) Global)
    (m : Meeting) → a < length table → IsGrown (row_of table a) row.items b m
    → IsTableGrown table (set table a row) a b m
table_grown table a b row m lt h =
    let here = row_here table a row lt in
    record {
      rows = length-set table a row;
      columns = λ k. elim (cases_eq k a) [
        | inl e ↦ ap (λ (n : ℕ). length (row_of (set table a row) n)) e
            ∙ (ap (λ (r : List (SmallVec Meeting)). length r) here
            ∙ (h.counted ∙ ap (λ (n : ℕ). length (row_of table n)) (sym e)))
        | inr ne ↦ ap (λ (r : List (SmallVec Meeting)). length r) (row_other table a k row ne)
      ];
      grown = ap (λ (r : List (SmallVec Meeting)). list_in r b) here ∙ h.grown;
      kept = λ k l apart. elim (cases_eq k a) [
        | inr ne ↦ ap (λ (r : List (SmallVec Meeting)). list_in r l) (row_other table a k row ne)
        | inl e ↦ elim apart [
          | inl ne ↦ absurd (ne e)
          | inr ne ↦ ap (λ (n : ℕ). meetings_at (set table a row) n l) e
              ∙ (ap (λ (r : List (SmallVec Meeting)). list_in r l) here
              ∙ (h.kept l ne ∙ ap (λ (n : ℕ). meetings_at table n l) (sym e)))
        ]
      ];
    }

-- the ports of one more match
pub meetings_more : (nets : List Nets) (matches : List Match) (met : Match)
    (old new : List (Vec (SmallVec Meeting) Global)) → AreMeetings nets matches old
    → IsTableGrown old new met.a met.b (meeting_of nets met)
    → AreMeetings nets (matches ++ met ∷ []) new
meetings_more nets matches met old new h g =
    let one : Meeting = meeting_of nets met in
    let all : List Match = matches ++ met ∷ [] in
    let wider : (a b : ℕ) (m : Meeting) → IsMeeting nets matches a b m → IsMeeting nets all a b m =
    λ a b m k.
    record {
      met = k.met;
      matched = Contains-append_left matches (met ∷ []) k.met k.matched;
      first = k.first;
      second = k.second;
      nets_are = k.nets_are;
    } in
    let here : (a b : ℕ) (m : Meeting) → met.a ≡ a → met.b ≡ b → one ≡ m → IsMeeting nets all a b m =
    λ a b m ea eb em.
    record { met = met; matched = Contains-push matches met; first = ea; second = eb; nets_are = em } in
    let keeps : (a b : ℕ) (m : Meeting) → Contains (meetings_at old a b) m → Contains (meetings_at new a b) m =
    λ a b m c. elim (cases_eq a met.a) [
      | inr ne ↦ subst (λ (ms : List Meeting). Contains ms m) (sym (g.kept a b (inl ne))) c
      | inl ea ↦ elim (cases_eq b met.b) [
        | inr ne ↦ subst (λ (ms : List Meeting). Contains ms m) (sym (g.kept a b (inr ne))) c
        | inl eb ↦
            (let same : meetings_at old a b ≡ meetings_at old met.a met.b = ap (λ (x : ℕ). meetings_at old x b) ea
            ∙ ap (λ (y : ℕ). meetings_at old met.a y) eb in
            let more : meetings_at new a b ≡ meetings_at old a b ++ one ∷ [] =
            ap (λ (x : ℕ). meetings_at new x b) ea
            ∙ (ap (λ (y : ℕ). meetings_at new met.a y) eb
            ∙ (g.grown ∙ ap (λ (ms : List Meeting). ms ++ one ∷ []) (sym same))) in
            subst (λ (ms : List Meeting). Contains ms m) (sym more)
            (Contains-append_left (meetings_at old a b) (one ∷ []) m c))
      ]
    ] in
    record {
      square = record { rows = g.rows ∙ h.square.rows; columns = λ a lt. g.columns a ∙ h.square.columns a lt };
      sound = λ a b m c. elim (cases_eq a met.a) [
        | inr ne ↦ wider a b m (h.sound a b m (subst (λ (ms : List Meeting). Contains ms m) (g.kept a b (inl ne)) c))
        | inl ea ↦ elim (cases_eq b met.b) [
          | inr ne ↦ wider a b m (h.sound a b m (subst (λ (ms : List Meeting). Contains ms m) (g.kept a b (inr ne)) c))
          | inl eb ↦
              (let more : meetings_at new a b ≡ meetings_at old met.a met.b
              ++ one ∷ [] = ap (λ (x : ℕ). meetings_at new x b) ea
              ∙ (ap (λ (y : ℕ). meetings_at new met.a y) eb ∙ g.grown) in
              let same : meetings_at old met.a met.b ≡ meetings_at old a b =
              ap (λ (x : ℕ). meetings_at old x met.b) (sym ea) ∙ ap (λ (y : ℕ). meetings_at old a y) (sym eb) in
              elim (Contains-push_cases (meetings_at old met.a met.b) one m
              (subst (λ (ms : List Meeting). Contains ms m) more c)) [
                | inl was ↦ wider a b m (h.sound a b m (subst (λ (ms : List Meeting). Contains ms m) same was))
                | inr is ↦ here a b m (sym ea) (sym eb) is
              ])
        ]
      ];
      complete = λ other c. elim (Contains-push_cases matches met other c) [
        | inl was ↦ keeps other.a other.b (meeting_of nets other) (h.complete other was)
        | inr is ↦
            (let Q : Match → Type 0 = λ z. Contains (meetings_at new z.a z.b) (meeting_of nets z) in
            subst Q is
            (subst (λ (ms : List Meeting). Contains ms one) (sym g.grown)
            (Contains-push (meetings_at old met.a met.b) one)))
      ];
    }
