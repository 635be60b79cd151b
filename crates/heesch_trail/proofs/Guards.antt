use Rattle.std.proofs.Common.{◌≡◌, ℕ, ◌+◌, ◌*◌, ◌<◌, ◌≤◌, Bool, true, false, cond, eqb, not, Decides, Option, None, Some, List, [], ◌∷◌, ◌++◌, length, get_or, Contains, sym, ap, ◌∙◌, subst, inl, inr, ◌⊎◌, refl, arith, length-append}
use Rattle.std.proofs.lemmas.List.{get_or_append_left, get_or_at}
use Rattle.std.proofs.lemmas.List.Elements.{All-contains}
use Rattle.std.proofs.lemmas.Bool.Decides.{Decides-eqb}
use Rattle.heesch_cnf.specs.declared.literal.Lit.{Lit}
use Rattle.heesch_cnf.specs.Literals.{Values, lit_value, opposite}
use Rattle.heesch_cnf.specs.Clauses.{AreClauses}
use Rattle.heesch_trail.specs.declared.pair.Pair.{Pair}
use Rattle.heesch_trail.specs.declared.entry.Entry.{Entry}
use Rattle.heesch_trail.specs.declared.step.Step.{Step}
use Rattle.heesch_trail.specs.Fixpoint.{IsSettled}
use Rattle.heesch_trail.specs.State.{State, IsTrail, Continues, values_of}
use Rattle.heesch_cnf.specs.Flat.{code_of}
use Rattle.heesch_trail.specs.Watches.{Watching, pair_of, IsWatch, IsNotFalse, AreNotFalse, IsOf, MayWatch, IsNext}
use Rattle.heesch_trail.specs.Seen.{IsGuarded, IsAlert, AreAlert, IsSeen, AreSeen, GoesOn}
use Rattle.heesch_trail.proofs.Settled.{true_or_open}
use Rattle.heesch_trail.proofs.Visits.{true-pushed, other-pushed, kinds, Value-push, Value-continues, Continues-keeps, Continues-both, same_clauses}

-- a literal over the variables has a list
pub Code-fits : (vars n : ℕ) (l : Lit) → l.var ≤ vars → n ≡ 2 * vars + 2 → code_of l < n
Code-fits vars n l le room = by_sign l.positive
  where
    by_sign : (p : Bool) → 2 * l.var + cond p 1 0 < n
    by_sign true = omega (arith, le, room)
    by_sign false = omega (arith, le, room)

-- the variable of a clause's literal
pub Var-fits : (trail : State) (k : ℕ) (l : Lit) → AreClauses trail.vars trail.clauses → k < length trail.clauses → Contains (get_or trail.clauses k []) l → l.var ≤ trail.vars
Var-fits trail k l forms lt has =
    let form = forms k [] lt in
    let range = All-contains (λ (m : Lit). (1 ≤ m.var) × (m.var ≤ trail.vars)) (get_or trail.clauses k []) l form.in_range has in
    range.1

-- different literals have different lists
pub Code-same : (a b : Lit) → code_of a ≡ code_of b → a ≡ b
Code-same a b e = by_signs a.var b.var a.positive b.positive e
  where
    by_signs : (v w : ℕ) (p q : Bool) → 2 * v + cond p 1 0 ≡ 2 * w + cond q 1 0 → (let x : Lit = record { var = v; positive = p } in let y : Lit = record { var = w; positive = q } in x ≡ y)
    by_signs v w true true e = ap (λ n. let x : Lit = record { var = n; positive = true } in x) (let same : v ≡ w = omega (arith, e) in same)
    by_signs v w false false e = ap (λ n. let x : Lit = record { var = n; positive = false } in x) (let same : v ≡ w = omega (arith, e) in same)
    by_signs v w true false e = absurd (omega (arith, e))
    by_signs v w false true e = absurd (omega (arith, e))

-- literals that don't differ
pub Same-lit : (a b : Lit) → not (eqb (code_of a) (code_of b)) ≡ false → a ≡ b
Same-lit a b e = by_test (eqb (code_of a) (code_of b)) (Decides-eqb (code_of a) (code_of b)) e
  where
    by_test : (t : Bool) → Decides t (code_of a ≡ code_of b) → not t ≡ false → a ≡ b
    by_test true d e = Code-same a b (d.0 refl)
    by_test false d e = absurd (let no : true ≡ false = e in cc)

-- a literal that isn't false now wasn't false before
Up-before : (old new : State) (l : Lit) → IsTrail new → Continues old new → IsNotFalse (values_of new.steps) l → IsNotFalse (values_of old.steps) l
Up-before old new l valid go up e = up (Value-continues old new l false valid go e)

-- what watches after two moves could watch after one
May-both : (old mid : State) (a b : Option Pair) (l : Lit) → IsTrail mid → Continues old mid → (b ≡ a) ⊎ IsNext (values_of old.steps) a b → MayWatch (values_of mid.steps) b l → MayWatch (values_of old.steps) a l
May-both old mid a b l valid go moved (inl up) = inl (Up-before old mid l valid go up)
May-both old mid a b l valid go (inl same) (inr of) = inr (subst (λ p. IsOf p l) same of)
May-both old mid a None l valid go (inr next) (inr of) = absurd of
May-both old mid a (Some q) l valid go (inr next) (inr (inl e)) = subst (MayWatch (values_of old.steps) a) e next.0
May-both old mid a (Some q) l valid go (inr next) (inr (inr e)) = subst (MayWatch (values_of old.steps) a) e next.1

Next-both : (old mid : State) (a b c : Option Pair) → IsTrail mid → Continues old mid → (b ≡ a) ⊎ IsNext (values_of old.steps) a b → IsNext (values_of mid.steps) b c → IsNext (values_of old.steps) a c
Next-both old mid a b None valid go moved next = next
Next-both old mid a b (Some p) valid go moved next = (May-both old mid a b p.one valid go moved next.0, May-both old mid a b p.other valid go moved next.1)

-- a literal that isn't false stays so, or waits
Alert-push : (head : ℕ) (steps : List Step) (s : Step) (l : Lit) → values_of steps s.lit.var ≡ None → head ≤ length steps → IsAlert head steps l → IsAlert head (steps ++ s ∷ []) l
Alert-push head steps s l none le (inl up) = elim (kinds l s.lit) [
  | inl other ↦ inl (λ e. up (sym (other-pushed steps s l none other) ∙ e))
  | inr same ↦ elim same [
    | inl here ↦ inl (λ e. let bad : Some true ≡ Some false = sym (true-pushed steps s none) ∙ subst (λ m. lit_value (values_of (steps ++ s ∷ [])) m ≡ Some false) here e in cc)
    | inr turned ↦ inr (record {
      at = length steps;
      later = le;
      within = omega (arith, length-append steps (s ∷ []));
      is = λ d. turned ∙ sym (ap (λ (x : Step). opposite x.lit) (get_or_at steps s [] d (length steps) refl));
    })
  ]
]
Alert-push head steps s l none le (inr waits) = inr (record {
  at = waits.at;
  later = waits.later;
  within = let lt = waits.within in omega (arith, lt, length-append steps (s ∷ []));
  is = λ d. waits.is d ∙ sym (ap (λ (x : Step). opposite x.lit) (get_or_append_left steps (s ∷ []) d waits.at waits.within));
})

Alerts-push : (head : ℕ) (steps : List Step) (s : Step) (pair : Option Pair) → values_of steps s.lit.var ≡ None → head ≤ length steps → AreAlert head steps pair → AreAlert head (steps ++ s ∷ []) pair
Alerts-push head steps s None none le a = a
Alerts-push head steps s (Some p) none le a = (Alert-push head steps s p.one none le a.0, Alert-push head steps s p.other none le a.1)

-- a clause that was seen stays so, with one more assignment
pub Seen-push : (head : ℕ) (steps : List Step) (s : Step) (clause : List Lit) (pair : Option Pair) → values_of steps s.lit.var ≡ None → head ≤ length steps → IsSeen head steps clause pair → IsSeen head (steps ++ s ∷ []) clause pair
Seen-push head steps s clause pair none le (inl t) = inl (t.0, (t.1.0, Value-push steps s t.0 true none t.1.1))
Seen-push head steps s clause pair none le (inr a) = inr (Alerts-push head steps s pair none le a)

-- watched literals that aren't false need no visit
pub Alert-up : (head : ℕ) (steps : List Step) (pair : Option Pair) → AreNotFalse (values_of steps) pair → AreAlert head steps pair
Alert-up head steps None up = up
Alert-up head steps (Some p) up = (inl up.0, inl up.1)

pub Guarded-seen : (head : ℕ) (steps : List Step) (clause : List Lit) (pair : Option Pair) → IsGuarded (values_of steps) clause pair → IsSeen head steps clause pair
Guarded-seen head steps clause pair (inl t) = inl t
Guarded-seen head steps clause pair (inr up) = inr (Alert-up head steps pair up)

-- the literals of a pair that moved are alert where those of the pair were
Of-alert : (head : ℕ) (steps : List Step) (pair : Option Pair) (l : Lit) → IsOf pair l → AreAlert head steps pair → IsAlert head steps l
Of-alert head steps None l of a = absurd of
Of-alert head steps (Some p) l (inl e) a = subst (IsAlert head steps) e a.0
Of-alert head steps (Some p) l (inr e) a = subst (IsAlert head steps) e a.1

May-alert : (head : ℕ) (steps : List Step) (pair : Option Pair) (l : Lit) → MayWatch (values_of steps) pair l → AreAlert head steps pair → IsAlert head steps l
May-alert head steps pair l (inl up) a = inl up
May-alert head steps pair l (inr of) a = Of-alert head steps pair l of a

Next-alert : (head : ℕ) (steps : List Step) (old new : Option Pair) → IsNext (values_of steps) old new → AreAlert head steps old → AreAlert head steps new
Next-alert head steps old None next a = next
Next-alert head steps old (Some p) next a = (May-alert head steps old p.one next.0 a, May-alert head steps old p.other next.1 a)

-- where nothing waits, what was seen is guarded
Alert-guarded : (head : ℕ) (steps : List Step) (l : Lit) → length steps ≤ head → IsAlert head steps l → IsNotFalse (values_of steps) l
Alert-guarded head steps l le (inl up) = up
Alert-guarded head steps l le (inr waits) = let from = waits.later in let lt = waits.within in absurd (omega (arith, le, from, lt))

Alerts-guarded : (head : ℕ) (steps : List Step) (pair : Option Pair) → length steps ≤ head → AreAlert head steps pair → AreNotFalse (values_of steps) pair
Alerts-guarded head steps None le a = a
Alerts-guarded head steps (Some p) le a = (Alert-guarded head steps p.one le a.0, Alert-guarded head steps p.other le a.1)

pub Seen-guarded : (head : ℕ) (steps : List Step) (clause : List Lit) (pair : Option Pair) → length steps ≤ head → IsSeen head steps clause pair → IsGuarded (values_of steps) clause pair
Seen-guarded head steps clause pair le (inl t) = inl t
Seen-guarded head steps clause pair le (inr a) = inr (Alerts-guarded head steps pair le a)

-- a guarded clause whose pair is of two of its literals is settled
pub Guarded-settled : (lists : List (List Entry)) (k : ℕ) (values : Values) (clause : List Lit) (pair : Option Pair) → ((p : Pair) → pair ≡ Some p → IsWatch lists k clause p) → IsGuarded values clause pair → IsSettled values clause
Guarded-settled lists k values clause pair watch (inl t) = inl t
Guarded-settled lists k values clause None watch (inr up) = absurd up
Guarded-settled lists k values clause (Some p) watch (inr up) =
    let w = watch p refl in
    elim (true_or_open (lit_value values p.one) up.0) [
      | inl t ↦ inl (p.one, (w.has_one, t))
      | inr o ↦ elim (true_or_open (lit_value values p.other) up.1) [
        | inl t ↦ inl (p.other, (w.has_other, t))
        | inr q ↦ inr (record { one = p.one; other = p.other; has_one = w.has_one; has_other = w.has_other; differ = w.differ; one_open = o; other_open = q })
      ]
    ]

-- a clause that was seen stays so, as assignments are made and pairs move
pub Seen-goes_on : (old new : State) (watched watching : Watching) (head k : ℕ) → GoesOn old watched new watching → head ≤ length old.steps →
    IsSeen head old.steps (get_or old.clauses k []) (pair_of watched.pairs k) → IsSeen head new.steps (get_or new.clauses k []) (pair_of watching.pairs k)
Seen-goes_on old new watched watching head k go le seen =
    let pair = pair_of watching.pairs k in
    let clause = get_or old.clauses k [] in
    let P : List Step → Type 0 = λ ss. IsSeen head ss clause pair in
    let before : IsSeen head old.steps clause pair = elim (go.moved k) [
      | inl same ↦ subst (IsSeen head old.steps clause) (sym same) seen
      | inr next ↦ elim seen [
        | inl t ↦ inl t
        | inr a ↦ inr (Next-alert head old.steps (pair_of watched.pairs k) pair next a)
      ]
    ] in
    subst (λ (cs : List (List Lit)). IsSeen head new.steps (get_or cs k []) pair) (sym (same_clauses old new go.steps))
    (Continues-keeps P old new head go.valid go.steps le (λ ss s none low here. Seen-push head ss s clause pair none low here) before)

pub AreSeen-goes_on : (old new : State) (watched watching : Watching) (head n : ℕ) → GoesOn old watched new watching → head ≤ length old.steps → AreSeen head old watched n → AreSeen head new watching n
AreSeen-goes_on old new watched watching head n go le seen k lt = Seen-goes_on old new watched watching head k go le (seen k lt)

pub GoesOn-both : (old mid new : State) (a b c : Watching) → GoesOn old a mid b → GoesOn mid b new c → GoesOn old a new c
GoesOn-both old mid new a b c go on = record {
  valid = on.valid;
  steps = Continues-both old mid new go.steps on.steps;
  moved = λ k. elim (on.moved k) [
    | inl same ↦ elim (go.moved k) [
      | inl first ↦ inl (same ∙ first)
      | inr next ↦ inr (subst (IsNext (values_of old.steps) (pair_of a.pairs k)) (sym same) next)
    ]
    | inr next ↦ inr (Next-both old mid (pair_of a.pairs k) (pair_of b.pairs k) (pair_of c.pairs k) go.valid go.steps (go.moved k) next)
  ];
  whole = on.whole;
}
