use Rattle.std.proofs.Common.{◌≡◌, ◌≢◌, ℕ, ◌+◌, ◌<◌, ◌≤◌, Bool, true, false, eqb, Decides, Option, None, Some, List, [], length, get_or, Contains, sym, ap, ◌∙◌, subst, inl, inr, refl, arith}
use Rattle.std.proofs.lemmas.List.{get_or-take, get_or_default}
use Rattle.std.proofs.lemmas.Bool.{cases_lt}
use Rattle.std.proofs.lemmas.Bool.Decides.{Decides-eqb}
use Rattle.heesch_cnf.specs.declared.literal.Lit.{Lit}
use Rattle.heesch_cnf.specs.Literals.{Values, lit_value}
use Rattle.heesch_trail.specs.declared.pair.Pair.{Pair}
use Rattle.heesch_trail.specs.declared.entry.Entry.{Entry}
use Rattle.heesch_trail.specs.Fixpoint.{HasTrue}
use Rattle.heesch_trail.specs.State.{State, IsTrail, values_of}
use Rattle.heesch_cnf.specs.Flat.{code_of}
use Rattle.heesch_trail.specs.Watches.{Watching, list_of, pair_of, index_of, index_at, Names, OthersStay, IsWithout, AreWhole, MayWatch, IsNext}
use Rattle.heesch_trail.specs.Seen.{GoesOn, IsUnwatched, IsVisitBy, IsPassed, AreVisitedBy}
use Rattle.heesch_trail.specs.declared.propagation.Visit.TheVariants.{HasTrue as TrueVisit}
use Rattle.heesch_trail.proofs.Visits.{HasTrue-continues}
use Rattle.heesch_trail.proofs.Guards.{Code-same}
use Rattle.heesch_trail.proofs.Rewatch.{GoesOn-still}

-- a false literal that isn't of a pair isn't of the next
Unwatched-may : (values : Values) (l m : Lit) (pair : Option Pair) → lit_value values l ≡ Some false → ((q : Pair) → pair ≡ Some q → (q.one ≢ l) × (q.other ≢ l)) → MayWatch values pair m → m ≢ l
Unwatched-may values l m pair turned un (inl up) = λ e. up (subst (λ x. lit_value values x ≡ Some false) (sym e) turned)
Unwatched-may values l m None turned un (inr of) = absurd of
Unwatched-may values l m (Some q) turned un (inr (inl e)) = λ f. (un q refl).0 (e ∙ f)
Unwatched-may values l m (Some q) turned un (inr (inr e)) = λ f. (un q refl).1 (e ∙ f)

Unwatched-next : (values : Values) (l : Lit) (old new : Option Pair) → lit_value values l ≡ Some false → ((q : Pair) → old ≡ Some q → (q.one ≢ l) × (q.other ≢ l)) → IsNext values old new → (p : Pair) → new ≡ Some p → (p.one ≢ l) × (p.other ≢ l)
Unwatched-next values l old new turned un next p is =
    let now = subst (IsNext values old) is next in
    (Unwatched-may values l p.one old turned un now.0, Unwatched-may values l p.other old turned un now.1)

-- a clause that was passed stays so
pub Passed-goes_on : (old new : State) (watched watching : Watching) (l : Lit) (k : ℕ) → GoesOn old watched new watching → lit_value (values_of old.steps) l ≡ Some false → IsPassed old watched l k → IsPassed new watching l k
Passed-goes_on old new watched watching l k go turned (inl t) = inl (HasTrue-continues old new k go.valid go.steps t)
Passed-goes_on old new watched watching l k go turned (inr un) = inr (elim (go.moved k) [
  | inl same ↦ λ p is. un p (sym same ∙ is)
  | inr next ↦ Unwatched-next (values_of old.steps) l (pair_of watched.pairs k) (pair_of watching.pairs k) turned un next
])

-- one place of the list more was passed
pub Passed-more : (trail : State) (watching : Watching) (l : Lit) (place : ℕ) → ((i : ℕ) → i < place → IsPassed trail watching l (index_at (list_of watching.lists l) i)) → IsPassed trail watching l (index_at (list_of watching.lists l) place) →
    (i : ℕ) → i < place + 1 → IsPassed trail watching l (index_at (list_of watching.lists l) i)
Passed-more trail watching l place before here i lt = elim (cases_lt i place) [
  | inl less ↦ before i less
  | inr past ↦ let at : place ≡ i = omega (arith, lt, past) in subst (λ j. IsPassed trail watching l (index_at (list_of watching.lists l) j)) at here
]

-- where the whole list was passed, each clause that the literal watches has a true literal
pub Passed-whole : (trail : State) (watching : Watching) (l : Lit) (place : ℕ) → AreWhole trail.vars trail.clauses watching → length (list_of watching.lists l) ≤ place →
    ((i : ℕ) → i < place → IsPassed trail watching l (index_at (list_of watching.lists l) i)) → AreVisitedBy trail watching l None
Passed-whole trail watching l place whole le passed k p is which =
    by_passed (subst (IsPassed trail watching l) at (passed named.1.0.0 (let lt = named.1.0.1 in omega (arith, lt, le))))
  where
    named : Names (list_of watching.lists l) k
    named = let w = whole.watched k p is in elim which [
      | inl e ↦ subst (λ m. Names (list_of watching.lists m) k) e w.one_lists
      | inr e ↦ subst (λ m. Names (list_of watching.lists m) k) e w.other_lists
    ]

    at : index_at (list_of watching.lists l) named.1.0.0 ≡ k
    at = ap index_of (get_or_default (list_of watching.lists l) named.1.0.0 (record { mark = 0; blocker = record { var = 0; positive = false } }) named.0 named.1.0.1 ∙ named.1.0.2) ∙ named.1.1

    by_passed : IsPassed trail watching l k → HasTrue (values_of trail.steps) (get_or trail.clauses k [])
    by_passed (inl t) = t
    by_passed (inr un) = let apart = un p is in elim which [ inl e ↦ absurd (apart.0 e) | inr e ↦ absurd (apart.1 e) ]

-- the places before one that was taken out
pub Front-same : (old new : List Entry) (place i : ℕ) → IsWithout place old new → i < place → index_at new i ≡ index_at old i
Front-same old new place i without lt =
    let d : Entry = record { mark = 0; blocker = record { var = 0; positive = false } } in
    ap index_of (sym (get_or-take place new i d lt) ∙ ap (λ xs. get_or xs i d) without.front ∙ get_or-take place old i d lt)

-- an entry of a clause that the literal doesn't watch is taken out of its list
pub GoesOn-without : (trail : State) (old new : Watching) (l : Lit) (place : ℕ) → IsTrail trail → AreWhole trail.vars trail.clauses old → IsUnwatched old l (index_at (list_of old.lists l) place) → place < length (list_of old.lists l) →
    new.pairs ≡ old.pairs → length new.lists ≡ length old.lists → IsWithout place (list_of old.lists l) (list_of new.lists l) → OthersStay l old.lists new.lists → GoesOn trail old trail new
GoesOn-without trail old new l place valid whole un below pairs room without others =
    GoesOn-still trail old new valid whole pairs room
    (λ k p is names. (still k p p.one is (λ un e. un.0 e) names.0, still k p p.other is (λ un e. un.1 e) names.1))
    (λ m e has. whole.sound m e (before m e has))
  where
    still : (k : ℕ) (p : Pair) (m : Lit) → pair_of old.pairs k ≡ Some p → ((p.one ≢ l) × (p.other ≢ l) → m ≢ l) → Names (list_of old.lists m) k → Names (list_of new.lists m) k
    still k p m is apart names = by_test (eqb (code_of m) (code_of l)) (Decides-eqb (code_of m) (code_of l))
      where
        by_test : (t : Bool) → Decides t (code_of m ≡ code_of l) → Names (list_of new.lists m) k
        by_test true d =
            let same : m ≡ l = Code-same m l (d.0 refl) in
            let blank : Entry = record { mark = 0; blocker = record { var = 0; positive = false } } in
            let other : names.0 ≢ get_or (list_of old.lists l) place names.0 = λ q.
            let at : index_at (list_of old.lists l) place ≡ k = ap index_of (get_or_default (list_of old.lists l) place blank names.0 below ∙ sym q) ∙ names.1.1 in
            apart (un p (subst (λ j. pair_of old.pairs j ≡ Some p) (sym at) is)) same in
            (names.0, (subst (λ x. Contains (list_of new.lists x) names.0) (sym same) (without.kept names.0 (subst (λ x. Contains (list_of old.lists x) names.0) same names.1.0) other), names.1.1))
        by_test false d = subst (λ xs. Names xs k) (sym (others (code_of m) (λ q. let bad : false ≡ true = d.1 q in cc))) names

    before : (m : Lit) (e : Entry) → Contains (list_of new.lists m) e → Contains (list_of old.lists m) e
    before m e has = by_test (eqb (code_of m) (code_of l)) (Decides-eqb (code_of m) (code_of l))
      where
        by_test : (t : Bool) → Decides t (code_of m ≡ code_of l) → Contains (list_of old.lists m) e
        by_test true d =
            let same : m ≡ l = Code-same m l (d.0 refl) in
            subst (λ x. Contains (list_of old.lists x) e) (sym same) (without.within e (subst (λ x. Contains (list_of new.lists x) e) same has))
        by_test false d = subst (λ xs. Contains xs e) (others (code_of m) (λ q. let bad : false ≡ true = d.1 q in cc)) has

-- the places passed before stay so, in a list that stays
pub Passed-before : (old new : State) (watched watching : Watching) (l : Lit) (place : ℕ) → GoesOn old watched new watching → lit_value (values_of old.steps) l ≡ Some false → list_of watching.lists l ≡ list_of watched.lists l →
    ((i : ℕ) → i < place → IsPassed old watched l (index_at (list_of watched.lists l) i)) → (i : ℕ) → i < place → IsPassed new watching l (index_at (list_of watching.lists l) i)
Passed-before old new watched watching l place go turned stays before i lt =
    subst (λ xs. IsPassed new watching l (index_at xs i)) (sym stays) (Passed-goes_on old new watched watching l (index_at (list_of watched.lists l) i) go turned (before i lt))

-- a visit that found a true literal passes its place
pub Passed-true : (old new : State) (watched watching : Watching) (l : Lit) (place : ℕ) (list : List Entry) → GoesOn old watched new watching → lit_value (values_of old.steps) l ≡ Some false → list ≡ list_of watched.lists l →
    list_of watching.lists l ≡ list_of watched.lists l → ((i : ℕ) → i < place → IsPassed old watched l (index_at (list_of watched.lists l) i)) → IsVisitBy new watching l (index_at list place) TrueVisit →
    (i : ℕ) → i < place + 1 → IsPassed new watching l (index_at (list_of watching.lists l) i)
Passed-true old new watched watching l place list go turned is stays before found =
    Passed-more new watching l place (Passed-before old new watched watching l place go turned stays before)
    (subst (λ xs. IsPassed new watching l (index_at xs place)) (is ∙ sym stays) (inl found))

-- taking out what stands at the next place leaves the places passed before
pub Passed-without : (trail : State) (old new : Watching) (l : Lit) (place : ℕ) → new.pairs ≡ old.pairs → IsWithout place (list_of old.lists l) (list_of new.lists l) →
    ((i : ℕ) → i < place → IsPassed trail old l (index_at (list_of old.lists l) i)) → (i : ℕ) → i < place → IsPassed trail new l (index_at (list_of new.lists l) i)
Passed-without trail old new l place pairs without before i lt =
    subst (IsPassed trail new l) (sym (Front-same (list_of old.lists l) (list_of new.lists l) place i without lt)) (same (index_at (list_of old.lists l) i) (before i lt))
  where
    same : (k : ℕ) → IsPassed trail old l k → IsPassed trail new l k
    same k (inl t) = inl t
    same k (inr un) = inr (λ p is. un p (ap (λ ps. pair_of ps k) (sym pairs) ∙ is))

-- the entry that was read at a place
pub index-read : (list : List Entry) (place : ℕ) (e : Entry) → place < length list → e ≡ get_or list place e → index_of e ≡ index_at list place
index-read list place e below is = ap index_of (is ∙ get_or_default list place e (record { mark = 0; blocker = record { var = 0; positive = false } }) below)
