use Rattle.std.proofs.Common.{◌≡◌, ℕ, ◌+◌, ◌*◌, ◌<◌, ◌≤◌, Bool, true, false, not, is_some, Option, None, Some, List, [], length, get_or, take, drop, sym, ap, ◌∙◌, subst, inl, inr, ◌⊎◌, refl, arith, take-append-drop}
use Rattle.std.proofs.lemmas.List.{length-map, get_or-map, get_or_append_left, take_more}
use Rattle.std.proofs.lemmas.List.Elements.{All-from_get_or}
use Rattle.std.proofs.lemmas.Bool.{cases_lt}
use Rattle.heesch_cnf.specs.declared.literal.Lit.{Lit}
use Rattle.heesch_cnf.specs.Literals.{lit_value, signed, opposite}
use Rattle.heesch_trail.specs.declared.pair.Pair.{Pair}
use Rattle.heesch_trail.specs.declared.step.Step.{Step}
use Rattle.heesch_trail.specs.declared.propagation.Visit.{Visit}
use Rattle.heesch_trail.specs.declared.propagation.Visit.TheVariants.{HasTrue as TrueVisit, Watched, AllFalse}
use Rattle.heesch_trail.specs.Fixpoint.{IsSettled, IsFixpoint}
use Rattle.heesch_trail.specs.State.{State, IsTrail, StepsHold, Continues, made_by, values_of}
use Rattle.heesch_cnf.specs.Flat.{code_of}
use Rattle.heesch_trail.specs.Watches.{Watching, pair_of, AreWhole}
use Rattle.heesch_trail.specs.Seen.{IsAlert, AreAlert, IsSeen, AreSeen, GoesOn, IsVisit, AreVisitedBy, StaySeen}
use Rattle.heesch_trail.proofs.Visits.{true-pushed, Value-push, Steps-more, same_clauses, more_steps}
use Rattle.heesch_trail.proofs.Guards.{Code-fits, Alert-up, AreSeen-goes_on, Seen-guarded, Guarded-settled}

pub none_of : (o : Option ℕ) → is_some o ≡ false → o ≡ None
none_of None e = refl
none_of (Some n) e = absurd (let bad : true ≡ false = e in cc)

-- a literal that was made is true
pub Made-true : (vars : ℕ) (clauses : List (List Lit)) (steps : List Step) (i : ℕ) (d : Step) → StepsHold vars clauses steps → i < length steps → lit_value (values_of steps) (get_or steps i d).lit ≡ Some true
Made-true vars clauses steps i d hold lt =
    let s = get_or steps i d in
    let P : List Step → Type 0 = λ ss. lit_value (values_of ss) s.lit ≡ Some true in
    let holds = hold i d lt in
    let whole = take-append-drop (i + 1) steps in
    subst P whole
    (Steps-more P vars clauses 0 (drop (i + 1) steps) (take (i + 1) steps) (subst (StepsHold vars clauses) (sym whole) hold) (omega arith) (λ ss x none le here. Value-push ss x s.lit true none here)
    (subst P (sym (take_more steps i d lt)) (true-pushed (take i steps) s holds.was_open)))

-- and its opposite is false
pub Opposite-false : (steps : List Step) (l : Lit) → lit_value (values_of steps) l ≡ Some true → lit_value (values_of steps) (opposite l) ≡ Some false
Opposite-false steps l is = by_sign l.positive (values_of steps l.var) is
  where
    by_sign : (p : Bool) (o : Option Bool) → signed p o ≡ Some true → signed (not p) o ≡ Some false
    by_sign true (Some true) e = refl
    by_sign true (Some false) e = absurd (let bad : Some false ≡ Some true = e in cc)
    by_sign true None e = absurd (let bad : None ≡ Some true = e in cc)
    by_sign false (Some true) e = absurd (let bad : Some false ≡ Some true = e in cc)
    by_sign false (Some false) e = refl
    by_sign false None e = absurd (let bad : None ≡ Some true = e in cc)

-- the literal that was made at a place
pub Made-at : (steps : List Step) (made : List Lit) (i : ℕ) (e : Lit) (d : Step) → made ≡ made_by steps → i < length made → get_or made i e ≡ (get_or steps i d).lit
Made-at steps made i e d is lt =
    let count = ap length is ∙ length-map steps (λ (s : Step). s.lit) in
    ap (λ ls. get_or ls i e) is ∙ get_or-map (λ (s : Step). s.lit) steps i d e (omega (arith, lt, count))

pub Made-few : (steps : List Step) (made : List Lit) → made ≡ made_by steps → length made ≡ length steps
Made-few steps made is = ap length is ∙ length-map steps (λ (s : Step). s.lit)

-- the opposite of a literal that was made is false, and has a list
pub Turned-at : (trail : State) (i : ℕ) (l : Lit) → IsTrail trail → i < length trail.steps → ((d : Step) → l ≡ opposite (get_or trail.steps i d).lit) → lit_value (values_of trail.steps) l ≡ Some false
Turned-at trail i l valid lt is =
    let d : Step = record { lit = l; level = 0; reason = None } in
    subst (λ m. lit_value (values_of trail.steps) m ≡ Some false) (sym (is d)) (Opposite-false trail.steps (get_or trail.steps i d).lit (Made-true trail.vars trail.clauses trail.steps i d valid.steps lt))

pub Fits-opposite : (trail : State) (n i : ℕ) (l : Lit) → IsTrail trail → i < length trail.steps → n ≡ 2 * trail.vars + 2 → ((d : Step) → l ≡ opposite (get_or trail.steps i d).lit) → code_of l < n
Fits-opposite trail n i l valid lt room is =
    let d : Step = record { lit = l; level = 0; reason = None } in
    let holds = valid.steps i d lt in
    let var : l.var ≡ (get_or trail.steps i d).lit.var = ap (λ (m : Lit). m.var) (is d) in
    let high = holds.high in
    Code-fits trail.vars n l (omega (arith, var, high)) room

-- the clauses of one assignment more were visited
pub Seen-next : (mid new : State) (watched watching : Watching) (head n : ℕ) (l : Lit) → GoesOn mid watched new watching → head < length mid.steps → AreSeen head mid watched n →
    ((d : Step) → l ≡ opposite (get_or mid.steps head d).lit) → AreVisitedBy new watching l None → AreSeen (head + 1) new watching n
Seen-next mid new watched watching head n l go lt seen is visited k below =
    elim (AreSeen-goes_on mid new watched watching head n go (omega (arith, lt)) seen k below) [
      | inl t ↦ inl t
      | inr alert ↦ by_pair (pair_of watching.pairs k) refl alert
    ]
  where
    -- the literal of a place stays
    same_at : (d : Step) → get_or new.steps head d ≡ get_or mid.steps head d
    same_at d = ap (λ (st : State). get_or st.steps head d) go.steps.1.0 ∙ get_or_append_left mid.steps go.steps.0 d head lt

    later : (m : Lit) → IsAlert head new.steps m → IsAlert (head + 1) new.steps m ⊎ (m ≡ l)
    later m (inl up) = inl (inl up)
    later m (inr waits) = elim (cases_lt head waits.at) [
      | inl past ↦ inl (inr (record { at = waits.at; later = omega (arith, past); within = waits.within; is = waits.is }))
      | inr now ↦
          let d : Step = record { lit = l; level = 0; reason = None } in
          let from = waits.later in
          let at : waits.at ≡ head = omega (arith, now, from) in
          inr (waits.is d ∙ ap (λ i. opposite (get_or new.steps i d).lit) at ∙ ap (λ (s : Step). opposite s.lit) (same_at d) ∙ sym (is d))
    ]

    by_pair : (pair : Option Pair) → pair_of watching.pairs k ≡ pair → AreAlert head new.steps pair → IsSeen (head + 1) new.steps (get_or new.clauses k []) pair
    by_pair None e alert = absurd alert
    by_pair (Some p) e alert = elim (later p.one alert.0) [
      | inr here ↦ inl (visited k p e (inl here))
      | inl one ↦ elim (later p.other alert.1) [
        | inr here ↦ inl (visited k p e (inr here))
        | inl other ↦ inr (one, other)
      ]
    ]

-- where nothing waits, all clauses are settled
pub Seen-fixpoint : (trail : State) (watching : Watching) (head : ℕ) → AreWhole trail.vars trail.clauses watching → length trail.steps ≤ head → AreSeen head trail watching (length trail.clauses) → IsFixpoint (values_of trail.steps) trail.clauses
Seen-fixpoint trail watching head whole le seen =
    All-from_get_or (IsSettled (values_of trail.steps)) trail.clauses [] (λ k lt.
    Guarded-settled watching.lists k (values_of trail.steps) (get_or trail.clauses k []) (pair_of watching.pairs k) (λ p is. whole.watched k p is)
    (Seen-guarded head trail.steps (get_or trail.clauses k []) (pair_of watching.pairs k) le (seen k lt)))

-- a clause that a visit left without a conflict was seen
pub Visit-seen : (trail : State) (watching : Watching) (head k : ℕ) (found : Visit) → ((n : ℕ) → found ≡ AllFalse n → ⊥) → IsVisit trail watching k found → IsSeen head trail.steps (get_or trail.clauses k []) (pair_of watching.pairs k)
Visit-seen trail watching head k TrueVisit not_false h = inl h
Visit-seen trail watching head k Watched not_false h = inr (Alert-up head trail.steps (pair_of watching.pairs k) h)
Visit-seen trail watching head k (AllFalse n) not_false h = absurd (not_false n refl)

-- the first reading goes on over what was made meanwhile
pub StaySeen-goes_on : (old mid new : State) (a b c : Watching) (first fresh : ℕ) → GoesOn old a mid b → GoesOn mid b new c → StaySeen old a first mid b fresh → StaySeen old a first new c fresh
StaySeen-goes_on old mid new a b c first fresh go on stay head le seen =
    AreSeen-goes_on mid new b c head fresh on (let more = more_steps old mid go.steps in omega (arith, le, more)) (stay head le seen)

-- and over one clause more
pub StaySeen-more : (old mid new : State) (a b c : Watching) (first fresh : ℕ) (found : Visit) → GoesOn old a mid b → GoesOn mid b new c → StaySeen old a first mid b fresh → ((n : ℕ) → found ≡ AllFalse n → ⊥) → IsVisit new c fresh found →
    StaySeen old a first new c (fresh + 1)
StaySeen-more old mid new a b c first fresh found go on stay not_false visit head le seen k lt = elim (cases_lt k fresh) [
  | inl before ↦ StaySeen-goes_on old mid new a b c first fresh go on stay head le seen k before
  | inr past ↦
      let at : fresh ≡ k = omega (arith, lt, past) in
      subst (λ j. IsSeen head new.steps (get_or new.clauses j []) (pair_of c.pairs j)) at (Visit-seen new c head fresh found not_false visit)
]

-- as many clauses, after more assignments
pub AreSeen-as_many : (old new : State) (watching : Watching) (head : ℕ) → Continues old new → AreSeen head new watching (length old.clauses) → AreSeen head new watching (length new.clauses)
AreSeen-as_many old new watching head go seen = subst (λ (cs : List (List Lit)). AreSeen head new watching (length cs)) (sym (same_clauses old new go)) seen

-- all clauses stay seen
pub AreSeen-all : (old new : State) (watched watching : Watching) (head : ℕ) → GoesOn old watched new watching → head ≤ length old.steps → AreSeen head old watched (length old.clauses) → AreSeen head new watching (length new.clauses)
AreSeen-all old new watched watching head go le seen = AreSeen-as_many old new watching head go.steps (AreSeen-goes_on old new watched watching head (length old.clauses) go le seen)
