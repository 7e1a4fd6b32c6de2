-- One more link of a piece, or of a list.
use Rattle.std.proofs.Common.{◌≡◌, ℕ, ◌+◌, ◌<◌, List, [], ◌∷◌, ◌++◌, length, get_or, take, Contains, Some, inl, inr}
use Rattle.std.proofs.{Common.{refl, sym, ap, ◌∙◌, subst, arith}, lemmas.{Bool.cases_lt, List.take_more}}
use Rattle.std.proofs.lemmas.List.Elements.{Contains-append_left, Contains-push, Contains-push_cases}
use Rattle.std.{proofs.lemmas.Option.slice_get_within, specs.Prelude.slice_get}
use Rattle.design_nets.specs.{declared.{meetings.Meeting.Meeting, owners.OwnNet.OwnNet}, Linking.{number_of, AreAdded}}
use Rattle.design_nets.{specs.Linking.{IsPieceLink, IsListedLink}, proofs.Added.{added_push, added_same}}

-- ---- pieces

abbrev pub IsPassed : List ℕ → List OwnNet → ℕ → ℕ → ℕ → Type 0
IsPassed firsts owners i u v = (u < i) × IsPieceLink firsts owners u v

pub piece_linked : (firsts : List ℕ) (owners : List OwnNet) (i : ℕ) (own : OwnNet) (old now new : List (ℕ × ℕ))
    → slice_get owners i ≡ Some own → AreAdded (IsPassed firsts owners i) old now
    → new ≡ now ++ (i, number_of firsts own) ∷ [] → AreAdded (IsPassed firsts owners (i + 1)) old new
piece_linked firsts owners i own old now new there h e =
    added_push (IsPassed firsts owners i) (IsPassed firsts owners (i + 1)) old now new i (number_of firsts own) h e
    (λ u v l. (let lt = l.0 in omega (arith, lt), l.1))
    (omega arith, record { own = own; there = there; is = refl })
    (λ u v m. elim (cases_lt u i) [
      | inl lt ↦ inl (lt, m.1)
      | inr past ↦
          (let lt = m.0 in
          let same : u ≡ i = omega (arith, lt) in
          let both : Some m.1.own ≡ Some own = sym m.1.there ∙ (ap (slice_get owners) same ∙ there) in
          let one : m.1.own ≡ own = cc in
          inr (same, m.1.is ∙ ap (number_of firsts) one))
    ])

pub pieces_linked : (firsts : List ℕ) (owners : List OwnNet) (i : ℕ) (old new : List (ℕ × ℕ)) → i ≡ length owners
    → AreAdded (IsPassed firsts owners i) old new → AreAdded (IsPieceLink firsts owners) old new
pieces_linked firsts owners i old new all h =
    added_same (IsPassed firsts owners i) (IsPieceLink firsts owners) old new h (λ u v l. l.1)
    (λ u v l. (let lt = slice_get_within owners u l.own l.there in omega (arith, lt, all), l))

-- ---- lists

pub listed_linked : (list : List Meeting) (first second i : ℕ) (d : Meeting) (old now new : List (ℕ × ℕ))
    → i < length list → AreAdded (IsListedLink (take i list) first second) old now
    → new ≡ now ++ (first + (get_or list i d).before, second + (get_or list i d).after) ∷ []
    → AreAdded (IsListedLink (take (i + 1) list) first second) old new
listed_linked list first second i d old now new lt h e =
    let m : Meeting = get_or list i d in
    let more = take_more list i d lt in
    added_push (IsListedLink (take i list) first second) (IsListedLink (take (i + 1) list) first second) old now new
    (first + m.before) (second + m.after) h e
    (λ u v l. record {
      m = l.m;
      listed = subst (λ (ms : List Meeting). Contains ms l.m) (sym more)
          (Contains-append_left (take i list) (m ∷ []) l.m l.listed);
      before = l.before;
      after = l.after;
    })
    (record {
      m = m;
      listed = subst (λ (ms : List Meeting). Contains ms m) (sym more) (Contains-push (take i list) m);
      before = refl;
      after = refl;
    })
    (λ u v l.
    elim (Contains-push_cases (take i list) m l.m (subst (λ (ms : List Meeting). Contains ms l.m) more l.listed)) [
      | inl before ↦ inl (record { m = l.m; listed = before; before = l.before; after = l.after })
      | inr is ↦ inr (
        l.before ∙ ap (λ (n : Meeting). first + n.before) (sym is),
        l.after
            ∙ ap (λ (n : Meeting). second + n.after) (sym is),
      )
    ])
