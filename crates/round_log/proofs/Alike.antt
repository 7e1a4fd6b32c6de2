-- Logs that tell alike: what is read of them is the same, and the rounds go on alike from them.
use Rattle.std.proofs.Common.{◌≡◌, ℕ, ◌+◌, ℤ, Bool, true, eqb, if◌then◌else◌, Option, Some, None, List, [], ◌∷◌, ◌||◌}
use Rattle.std.proofs.Common.{map, fold, reverse, inl, inr, length, refl, sym, ap, subst, ◌∙◌, arith}
use Rattle.std.{proofs.lemmas.Bool.{cases_eq, cond-true, cond-false, cases_Bool, true≢false}, specs.List.list_any}
use Rattle.cons_graph.specs.declared.edges.Edge.{Edge}
use Rattle.round_log.specs.{declared.log.Entry.Entry, Looks.{label, latest, chain, raise_of, with_raise, look}}
use Rattle.round_log.specs.{Looks.comes_back, Rounds.{Progress, after_look, backward_part, Schedule, forward_part}}
use Rattle.round_log.specs.{Rounds.round, Told.{said, told_by, TellAlike}, WalksBack.{walk_of, up_to, loop_back}}
use Rattle.round_log.{specs.WalksBack.{turned, cycle_of}, proofs.Raises.{IsRaise, label-same, label-other, raise_of-is}}
use Rattle.round_log.proofs.{Raises.raise_of-from, Chains.{trace, trace-same, trace-other, chain-newest}}
use Rattle.round_log.proofs.{Members.cases_option, Ends.{map-map, numbers}}

abbrev pub Said : Type 0
Said = ℕ × ℤ × ℕ

-- ---- what is read of a log

-- the label of a variable, by what its chain tells
abbrev told_label : ℕ → List Said → Option ℤ
told_label v [] = label [] v
told_label v (s ∷ ss) = Some s.1

label_told : (rs : List Entry) (v : ℕ) → label rs v ≡ told_label v (told_by rs (latest rs v))
label_told [] v = refl
label_told (r ∷ rs) v =
    elim (cases_eq r.var v) [
      | inl e ↦ label-same r rs v e ∙ sym (ap (λ cs. told_label v (map said cs)) (trace-same r rs v e))
      | inr n ↦ label-other r rs v n ∙ label_told rs v
          ∙ sym (ap (λ cs. told_label v (map said cs)) (trace-other r rs v n))
    ]

-- a variable of which two logs tell the same has one label
pub same_label : (some all : List Entry) (v : ℕ) → told_by some (latest some v) ≡ told_by all (latest all v)
    → label some v ≡ label all v
same_label some all v h = label_told some v ∙ ap (told_label v) h ∙ sym (label_told all v)

numbers_told : (cs : List Entry) → numbers cs ≡ map (λ (s : Said). s.2) (map said cs)
numbers_told cs = sym (map-map (λ (s : Said). s.2) said cs)

pub same_numbers : (cs ds : List Entry) → map said cs ≡ map said ds → numbers cs ≡ numbers ds
same_numbers cs ds h = numbers_told cs ∙ ap (map (λ (s : Said). s.2)) h ∙ sym (numbers_told ds)

any_told : (cs : List Entry) (v : ℕ) → list_any (λ q. eqb q.var v) cs ≡ list_any (λ (s : Said). eqb s.0 v) (map said cs)
any_told [] v = refl
any_told (c ∷ cs) v = ap (λ b. eqb c.var v || b) (any_told cs v)

pub same_any : (cs ds : List Entry) (v : ℕ) → map said cs ≡ map said ds
    → list_any (λ q. eqb q.var v) cs ≡ list_any (λ q. eqb q.var v) ds
same_any cs ds v h = any_told cs v ∙ ap (list_any (λ (s : Said). eqb s.0 v)) h ∙ sym (any_told ds v)

-- ---- one raise

-- raises of two logs that say the same and come from chains that tell the same
pub record RaiseAlike (some all : List Entry) (r s : Entry) : Type 0 where
  pub says : said r ≡ said s
  pub comes_from : told_by some r.prev ≡ told_by all s.prev

pub alike_raised : (some all : List Entry) (r s : Entry) → TellAlike some all → RaiseAlike some all r s
    → TellAlike (r ∷ some) (s ∷ all)
alike_raised some all r s h a v =
    let var : r.var ≡ s.var = ap (λ (x : Said). x.0) a.says in
    elim (cases_eq r.var v) [
      | inl e ↦ ap (map said) (trace-same r some v e) ∙ ap (λ x. x ∷ told_by some r.prev) a.says
          ∙ ap (λ l. said s ∷ l) a.comes_from ∙ sym (ap (map said) (trace-same s all v (sym var ∙ e)))
      | inr n ↦ ap (map said) (trace-other r some v n) ∙ h v
          ∙ sym (ap (map said) (trace-other s all v (λ e. n (var ∙ e))))
    ]

-- a look that raises in one log raises alike in the other
pub record RaisesToo (edge : ℕ → Edge) (some all : List Entry) (k : ℕ) (r : Entry) : Type 0 where
  pub other : Entry
  pub raise : raise_of edge all k ≡ Some other
  pub alike : RaiseAlike some all r other

pub raises_too : (edge : ℕ → Edge) (some all : List Entry) (k : ℕ) (r : Entry) → TellAlike some all
    → raise_of edge some k ≡ Some r → RaisesToo edge some all k r
raises_too edge some all k r h e =
    let m : IsRaise edge some k r = raise_of-is edge some k r e in
    let from : ℕ = (edge k).from in
    let to : ℕ = (edge k).to in
    let s : Entry = record { var = r.var; value = r.value; edge = r.edge; prev = latest all from } in
    let i : IsRaise edge all k s = record {
      var_is = m.var_is;
      edge_is = m.edge_is;
      prev_is = refl;
      tail = m.tail;
      tail_is = sym (same_label some all from (h from)) ∙ m.tail_is;
      value_is = m.value_is;
      higher = λ b l. m.higher b (same_label some all to (h to) ∙ l);
    } in
    record {
      other = s;
      raise = raise_of-from edge all k s i;
      alike = record { says = refl; comes_from = ap (told_by some) m.prev_is ∙ h from };
    }

alike_back : (some all : List Entry) → TellAlike some all → TellAlike all some
alike_back some all h v = sym (h v)

pub leaves_too : (edge : ℕ → Edge) (some all : List Entry) (k : ℕ) → TellAlike some all → raise_of edge some k ≡ None
    → raise_of edge all k ≡ None
leaves_too edge some all k h e =
    elim (cases_option (raise_of edge all k)) [
      | inl n ↦ n
      | inr w ↦
          absurd (let t = raises_too edge all some k w.0 (alike_back some all h) w.1 in let same : None
          ≡ Some t.other = sym e ∙ t.raise in cc)
    ]

pub comes_back_too : (some all : List Entry) (r s : Entry) → RaiseAlike some all r s
    → comes_back some r ≡ comes_back all s
comes_back_too some all r s a =
    let var : r.var ≡ s.var = ap (λ (x : Said). x.0) a.says in
    same_any (chain some r.prev) (chain all s.prev) r.var a.comes_from
    ∙ ap (λ v. list_any (λ q. eqb q.var v) (chain all s.prev)) var

-- ---- the parts of a round

-- two logs that have grown by as many raises and tell alike
pub record GrowAlike (some all some' all' : List Entry) : Type 0 where
  pub alike : TellAlike some' all'
  pub grown : length some' + length all ≡ length all' + length some

grow_none : (some all : List Entry) → TellAlike some all → GrowAlike some all some all
grow_none some all h = record { alike = h; grown = omega arith }

grow_more : (some all some' all' some'' all'' : List Entry) → GrowAlike some all some' all'
    → GrowAlike some' all' some'' all'' → GrowAlike some all some'' all''
grow_more some all some' all' some'' all'' a b =
    record { alike = b.alike; grown = (let x = a.grown in let y = b.grown in omega (arith, x, y)) }

grow_one : (some all : List Entry) (r s : Entry) → TellAlike some all → RaiseAlike some all r s
    → GrowAlike some all (r ∷ some) (s ∷ all)
grow_one some all r s h a = record { alike = alike_raised some all r s h a; grown = omega arith }

look_alike : (edge : ℕ → Edge) (some all : List Entry) (k : ℕ) → TellAlike some all
    → GrowAlike some all (look edge some k) (look edge all k)
look_alike edge some all k h =
    let P : List Entry → Type 0 = λ x. GrowAlike some all x (look edge all k) in
    elim (cases_option (raise_of edge some k)) [
      | inl n ↦ (
          let Q : List Entry → Type 0 = λ x. GrowAlike some all some x in
          subst P (sym (ap (λ o. with_raise o some) n))
          (subst Q (sym (ap (λ o. with_raise o all) (leaves_too edge some all k h n))) (grow_none some all h)))
      | inr w ↦ (
          let t = raises_too edge some all k w.0 h w.1 in
          let Q : List Entry → Type 0 = λ x. GrowAlike some all (w.0 ∷ some) x in
          subst P (sym (ap (λ o. with_raise o some) w.1))
          (subst Q (sym (ap (λ o. with_raise o all) t.raise)) (grow_one some all w.0 t.other h t.alike)))
    ]

pub looks_alike : (edge : ℕ → Edge) (some all : List Entry) (ks : List ℕ) → TellAlike some all
    → GrowAlike some all (fold (look edge) some ks) (fold (look edge) all ks)
looks_alike edge some all [] h = grow_none some all h
looks_alike edge some all (k ∷ ks) h =
    let one = look_alike edge some all k h in
    grow_more some all (look edge some k) (look edge all k) _ _ one
    (looks_alike edge (look edge some k) (look edge all k) ks one.alike)

-- the newest raises have the same chains
abbrev pub NewestAlike : List Entry → List Entry → Type 0
NewestAlike some all = told_by some (length some) ≡ told_by all (length all)

newest_alike : (some all : List Entry) (r s : Entry) → RaiseAlike some all r s → NewestAlike (r ∷ some) (s ∷ all)
newest_alike some all r s a =
    ap (map said) (chain-newest r some (length (r ∷ some)) refl) ∙ ap (λ x. x ∷ told_by some r.prev) a.says
    ∙ ap (λ l. said s ∷ l) a.comes_from ∙ sym (ap (map said) (chain-newest s all (length (s ∷ all)) refl))

-- the rounds go on or stop alike
pub record ProgressAlike (some all : List Entry) (p q : Progress) : Type 0 where
  pub stopped : p.stopped ≡ q.stopped
  pub grow : GrowAlike some all p.raises q.raises
  pub newest : p.stopped ≡ true → NewestAlike p.raises q.raises

progress_more : (some all some' all' : List Entry) (p q : Progress) → GrowAlike some all some' all'
    → ProgressAlike some' all' p q → ProgressAlike some all p q
progress_more some all some' all' p q a b =
    record { stopped = b.stopped; grow = grow_more some all some' all' p.raises q.raises a b.grow; newest = b.newest }

pub backward_alike : (edge : ℕ → Edge) (some all : List Entry) (ks : List ℕ) → TellAlike some all
    → ProgressAlike some all (backward_part edge ks some) (backward_part edge ks all)
backward_alike edge some all [] h =
    record { stopped = refl; grow = grow_none some all h; newest = λ t. absurd (true≢false (sym t)) }
backward_alike edge some all (k ∷ ks) h =
    let go_on : List Entry → Progress = backward_part edge ks in
    let P : Progress → Type 0 = λ p. ProgressAlike some all p (backward_part edge (k ∷ ks) all) in
    elim (cases_option (raise_of edge some k)) [
      | inl n ↦ (
          let Q : Progress → Type 0 = λ q. ProgressAlike some all (go_on some) q in
          subst P (sym (ap (λ o. after_look o some go_on) n))
          (subst Q (sym (ap (λ o. after_look o all go_on) (leaves_too edge some all k h n)))
          (backward_alike edge some all ks h)))
      | inr w ↦ (
          let r : Entry = w.0 in
          let t = raises_too edge some all k r h w.1 in
          let s : Entry = t.other in
          let Q : Progress → Type 0 = λ q. ProgressAlike some all (after_look (Some r) some go_on) q in
          subst P (sym (ap (λ o. after_look o some go_on) w.1))
          (subst Q (sym (ap (λ o. after_look o all go_on) t.raise))
          (raised_alike edge some all ks r s h t.alike (λ a. backward_alike edge (r ∷ some) (s ∷ all) ks a))))
    ]
  where
    raised_alike : (edge : ℕ → Edge) (some all : List Entry) (ks : List ℕ) (r s : Entry) → TellAlike some all
        → RaiseAlike some all r s
        → (TellAlike (r ∷ some) (s ∷ all)
        → ProgressAlike (r ∷ some) (s ∷ all) (backward_part edge ks (r ∷ some))
        (backward_part edge ks (s ∷ all))) → ProgressAlike some all (after_look (Some r) some
        (backward_part edge ks)) (after_look (Some s) all (backward_part edge ks))
    raised_alike edge some all ks r s h a more =
        let go_on : List Entry → Progress = backward_part edge ks in
        let stop : Progress = record { raises = r ∷ some; stopped = true } in
        let stop' : Progress = record { raises = s ∷ all; stopped = true } in
        let grow = grow_one some all r s h a in
        let P : Progress → Type 0 = λ p. ProgressAlike some all p (after_look (Some s) all go_on) in
        let back : comes_back some r ≡ comes_back all s = comes_back_too some all r s a in
        elim (cases_Bool (comes_back some r)) [
          | inl t ↦ (
              let Q : Progress → Type 0 = λ q. ProgressAlike some all stop q in
              subst P (sym (cond-true (comes_back some r) stop (go_on (r ∷ some)) t))
              (subst Q (sym (cond-true (comes_back all s) stop' (go_on (s ∷ all)) (sym back ∙ t)))
              (record { stopped = refl; grow = grow; newest = λ _. newest_alike some all r s a })))
          | inr f ↦ (
              let Q : Progress → Type 0 = λ q. ProgressAlike some all (go_on (r ∷ some)) q in
              subst P (sym (cond-false (comes_back some r) stop (go_on (r ∷ some)) f))
              (subst Q (sym (cond-false (comes_back all s) stop' (go_on (s ∷ all)) (sym back ∙ f)))
              (progress_more some all (r ∷ some) (s ∷ all) _ _ grow (more grow.alike))))
        ]

-- one round
pub round_alike : (p : Schedule) (some all : List Entry) → TellAlike some all
    → ProgressAlike (forward_part p some) (forward_part p all) (round p some) (round p all)
round_alike p some all h = backward_alike p.edge (forward_part p some) (forward_part p all) p.backward
    (looks_alike p.edge some all p.forward h).alike

-- ---- walks and cycles

pub same_walk : (some all : List Entry) (v : ℕ) → TellAlike some all → walk_of some v ≡ walk_of all v
same_walk some all v h = ap reverse (same_numbers (trace some v) (trace all v) (h v))

-- the loop that a chain closes, by what the chain tells
abbrev told_up_to : ℕ → List Said → List Said
told_up_to v [] = []
told_up_to v (s ∷ ss) = if eqb s.0 v then s ∷ [] else s ∷ told_up_to v ss

abbrev told_loop : List Said → List Said → List Said
told_loop met [] = []
told_loop met (s ∷ ss) = if list_any (λ (q : Said). eqb q.0 s.0) met then told_up_to s.0 met else told_loop (s ∷ met) ss

up_to_told : (v : ℕ) (cs : List Entry) → map said (up_to v cs) ≡ told_up_to v (map said cs)
up_to_told v [] = refl
up_to_told v (c ∷ cs) =
    elim (cases_Bool (eqb c.var v)) [
      | inl t ↦ ap (map said) (cond-true (eqb c.var v) (c ∷ []) (c ∷ up_to v cs) t)
          ∙ sym (cond-true (eqb c.var v) (said c ∷ []) (said c ∷ told_up_to v (map said cs)) t)
      | inr f ↦ ap (map said) (cond-false (eqb c.var v) (c ∷ []) (c ∷ up_to v cs) f)
          ∙ ap (λ l. said c ∷ l) (up_to_told v cs)
          ∙ sym (cond-false (eqb c.var v) (said c ∷ []) (said c ∷ told_up_to v (map said cs)) f)
    ]

loop_told : (met cs : List Entry) → map said (loop_back met cs) ≡ told_loop (map said met) (map said cs)
loop_told met [] = refl
loop_told met (c ∷ cs) =
    let here : Bool = list_any (λ q. eqb q.var c.var) met in
    let there : Bool = list_any (λ (s : Said). eqb s.0 c.var) (map said met) in
    let same : here ≡ there = any_told met c.var in
    elim (cases_Bool here) [
      | inl t ↦ ap (map said) (cond-true here (up_to c.var met) (loop_back (c ∷ met) cs) t) ∙ up_to_told c.var met
          ∙ sym (cond-true there (told_up_to c.var (map said met)) (told_loop (map said (c ∷ met)) (map said cs))
          (sym same ∙ t))
      | inr f ↦ ap (map said) (cond-false here (up_to c.var met) (loop_back (c ∷ met) cs) f) ∙ loop_told (c ∷ met) cs
          ∙ sym (cond-false there (told_up_to c.var (map said met)) (told_loop (map said (c ∷ met)) (map said cs))
          (sym same ∙ f))
    ]

same_loop : (edges : List Edge) (cs ds : List Entry) → map said cs ≡ map said ds
    → turned edges (numbers (loop_back [] cs)) ≡ turned edges (numbers (loop_back [] ds))
same_loop edges cs ds h =
    ap (turned edges)
    (same_numbers (loop_back [] cs) (loop_back [] ds) (loop_told [] cs ∙ ap (told_loop []) h ∙ sym (loop_told [] ds)))

-- newest raises with the same chains close one cycle
pub same_cycle : (edges : List Edge) (some all : List Entry) → NewestAlike some all
    → cycle_of edges some ≡ cycle_of edges all
same_cycle edges [] [] h = refl
same_cycle edges [] (s ∷ all) h =
    absurd (let e : [] ≡ map said (s ∷ chain all s.prev) = h
    ∙ ap (map said) (chain-newest s all (length (s ∷ all)) refl) in cc)
same_cycle edges (r ∷ some) [] h =
    absurd (let e : map said (r ∷ chain some r.prev)
    ≡ [] = sym (ap (map said) (chain-newest r some (length (r ∷ some)) refl)) ∙ h in cc)
same_cycle edges (r ∷ some) (s ∷ all) h =
    same_loop edges (r ∷ chain some r.prev) (s ∷ chain all s.prev)
    (sym (ap (map said) (chain-newest r some (length (r ∷ some)) refl)) ∙ h
    ∙ ap (map said) (chain-newest s all (length (s ∷ all)) refl))
