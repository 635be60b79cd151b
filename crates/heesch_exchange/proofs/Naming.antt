-- Which variables literals name, and the marks and values that say so.
use Rattle.std.proofs.Common.{◌≡◌, ◌≢◌, ℕ, zero, suc, ◌+◌, ◌-◌, ◌<◌, ◌≤◌, ◌⊎◌, inl, inr, Bool, true, false, List, [], ◌∷◌, ◌++◌, length, get_or, set, replicate, refl, sym, ap, subst, ◌∙◌, append_assoc, length-set, take, drop, take-append-drop, take-suc, drop-cons, add-one, arith}
use Rattle.std.specs.Prelude.{Contains}
use Rattle.std.specs.List.{AllByRecursion}
use Rattle.std.proofs.lemmas.List.{get_or-set_other, get_or-replicate, length-replicate}
use Rattle.std.proofs.lemmas.Grind.{get_or-set_at}
use Rattle.std.proofs.lemmas.List.Elements.{Contains-append_left, Contains-append_right, Contains-append_cases}
use Rattle.heesch_cnf.specs.declared.literal.Lit.{Lit}
use Rattle.heesch_cnf.proofs.Lists.{Contains-none, Contains-here, Contains-there, Contains-cases}
use Rattle.heesch_line.specs.Forms.{IsLiteral}
use Rattle.heesch_exchange.specs.Models.{Names, AreOver, IsAssignment, positive_of}
use Rattle.heesch_exchange.specs.Lines.{AreNamed, IsFresh}

-- ---- variables that are named

pub names_none : (var : ℕ) → Names [] var → ⊥
names_none var h = Contains-none h.0 h.1.0

single : (l m : Lit) → Contains (l ∷ []) m → l ≡ m
single l m h = elim (Contains-cases l [] m h) [
  | inl e ↦ e
  | inr t ↦ absurd (Contains-none m t)
]

pub names_more : (x : List Lit) (l : Lit) (var : ℕ) → Names (x ++ l ∷ []) var → (Names x var) ⊎ (l.var ≡ var)
names_more x l var h = elim (Contains-append_cases x (l ∷ []) h.0 h.1.0) [
  | inl a ↦ inl (h.0, (a, h.1.1))
  | inr b ↦ inr (ap (λ (m : Lit). m.var) (single l h.0 b) ∙ h.1.1)
]

pub names_kept : (x y : List Lit) (var : ℕ) → Names x var → Names (x ++ y) var
names_kept x y var h = (h.0, (Contains-append_left x y h.0 h.1.0, h.1.1))

pub names_last : (x y : List Lit) (l : Lit) → Names (x ++ l ∷ y) l.var
names_last x y l = (l, (Contains-append_right x (l ∷ y) l (Contains-here l y), refl))

names_head : (m : Lit) (x : List Lit) (var : ℕ) → Names (m ∷ x) var → (m.var ≡ var) ⊎ Names x var
names_head m x var h = elim (Contains-cases m x h.0 h.1.0) [
  | inl e ↦ inl (ap (λ (k : Lit). k.var) e ∙ h.1.1)
  | inr t ↦ inr (h.0, (t, h.1.1))
]

names_tail : (m : Lit) (x : List Lit) (var : ℕ) → Names x var → Names (m ∷ x) var
names_tail m x var h = (h.0, (Contains-there m x h.0 h.1.0, h.1.1))

-- ---- literals over the variables

-- one more literal
pub over_more : (vars : ℕ) (x : List Lit) (l : Lit) → AreOver vars x → IsFresh vars x l → AreOver vars (x ++ l ∷ [])
over_more vars [] l over fresh = (fresh.most, names_none l.var, tt)
over_more vars (m ∷ x) l over fresh =
    let other : ¬ (Names (x ++ l ∷ []) m.var) = λ h. elim (names_more x l m.var h) [
      | inl a ↦ over.1 a
      | inr e ↦ fresh.unnamed (m, (Contains-here m x, sym e))
    ] in
    let tail : IsFresh vars x l = record { most = fresh.most; unnamed = λ h. fresh.unnamed (names_tail m x l.var h) } in
    (over.0, other, over_more vars x l over.2 tail)

-- each literal is new where it stands
pub over_at : (vars : ℕ) (x y : List Lit) (l : Lit) → AreOver vars (x ++ l ∷ y) → IsFresh vars x l
over_at vars [] y l over = record { most = over.0; unnamed = names_none l.var }
over_at vars (m ∷ x) y l over =
    let more = over_at vars x y l over.2 in
    record {
      most = more.most;
      unnamed = λ h. elim (names_head m x l.var h) [
        | inl e ↦ over.1 (subst (λ (v : ℕ). Names (x ++ l ∷ y) v) (sym e) (names_last x y l))
        | inr t ↦ more.unnamed t
      ];
    }

pub over_front : (vars : ℕ) (x y : List Lit) → AreOver vars (x ++ y) → AreOver vars x
over_front vars [] y over = tt
over_front vars (m ∷ x) y over = (over.0, (λ h. over.1 (names_kept x y m.var h)), over_front vars x y over.2)

-- each variable is at most `vars`
pub over_most : (vars : ℕ) (x : List Lit) (i : ℕ) (d : Lit) → AreOver vars x → i < length x → (get_or x i d).var ≤ vars
over_most vars [] i d over lt = absurd (omega arith)
over_most vars (m ∷ x) zero d over lt = over.0
over_most vars (m ∷ x) (suc i) d over lt = over_most vars x i d over.2 (omega arith)

pub literal_at : (x : List Lit) (i : ℕ) (d : Lit) → AllByRecursion IsLiteral x → i < length x → IsLiteral (get_or x i d)
literal_at [] i d form lt = absurd (omega arith)
literal_at (m ∷ x) zero d form lt = form.0
literal_at (m ∷ x) (suc i) d form lt = literal_at x i d form.1 (omega arith)

-- ---- marks

at_mark : (named : List Bool) (v w : ℕ) → 1 ≤ v → 1 ≤ w → v ≢ w → get_or (set named (w - 1) true) (v - 1) false ≡ get_or named (v - 1) false
at_mark named v w low one other =
    let apart : v - 1 ≢ w - 1 = λ e. other (omega arith) in
    get_or-set_other named (w - 1) (v - 1) true false apart

mark_here : (named : List Bool) (v : ℕ) → 1 ≤ v → v ≤ length named → get_or (set named (v - 1) true) (v - 1) false ≡ true
mark_here named v low fits = get_or-set_at named (v - 1) (v - 1) true false refl (omega arith)

same_or_not : (v w : ℕ) → (v ≡ w) ⊎ (v ≢ w)
same_or_not zero zero = inl refl
same_or_not zero (suc w) = inr (λ e. absurd (omega arith))
same_or_not (suc v) zero = inr (λ e. absurd (omega arith))
same_or_not (suc v) (suc w) = elim (same_or_not v w) [
  | inl e ↦ inl (ap suc e)
  | inr n ↦ inr (λ e. n (omega arith))
]

pub named_more : (x : List Lit) (named : List Bool) (l : Lit) → AreNamed x named → 1 ≤ l.var → l.var ≤ length named → AreNamed (x ++ l ∷ []) (set named (l.var - 1) true)
named_more x named l marks one fits = record {
  marks = λ var low high.
      let within : var ≤ length named = omega (arith, length-set named (l.var - 1) true) in
      elim (same_or_not var l.var) [
        | inl e ↦ (λ _. subst (λ (v : ℕ). Names (x ++ l ∷ []) v) (sym e) (names_last x [] l), λ _. ap (λ (v : ℕ). get_or (set named (l.var - 1) true) (v - 1) false) e ∙ mark_here named l.var one fits)
        | inr n ↦ (
          λ t. names_kept x (l ∷ []) var ((marks.marks var low within).0 (sym (at_mark named var l.var low one n) ∙ t)),
          λ h. at_mark named var l.var low one n ∙ (marks.marks var low within).1 (elim (names_more x l var h) [
            | inl a ↦ a
            | inr e ↦ absurd (n (sym e))
          ]),
        )
      ];
}

pub none_named : (count : ℕ) → AreNamed [] (replicate count false)
none_named count = record {
  marks = λ var low high.
      let fits : var - 1 < count = omega (arith, length-replicate {A = Bool} count false) in
      let unset : get_or (replicate count false) (var - 1) false ≡ false = get_or-replicate count (var - 1) false false fits in
      (λ t. absurd cc, λ h. absurd (names_none var h));
}

pub is_fresh : (x : List Lit) (named : List Bool) (l : Lit) → AreNamed x named → 1 ≤ l.var → l.var ≤ length named → get_or named (l.var - 1) false ≡ false → IsFresh (length named) x l
is_fresh x named l marks one fits off = record { most = fits; unnamed = λ h. let on : get_or named (l.var - 1) false ≡ true = (marks.marks l.var one fits).1 h in absurd cc }

-- ---- values

positive_more : (x : List Lit) (l : Lit) (var : ℕ) → Contains (x ++ l ∷ []) (positive_of var) → Contains x (positive_of var) ⊎ (l ≡ positive_of var)
positive_more x l var h = elim (Contains-append_cases x (l ∷ []) (positive_of var) h) [
  | inl a ↦ inl a
  | inr b ↦ inr (single l (positive_of var) b)
]

positive_is : (l : Lit) → l.positive ≡ true → l ≡ positive_of l.var
positive_is l e =
    let made : Bool → Lit = λ positive. record { var = l.var; positive = positive } in
    ap made e

pub true_more : (vars : ℕ) (x : List Lit) (values : List Bool) (l : Lit) → IsAssignment vars x values → l.positive ≡ true → 1 ≤ l.var → l.var ≤ vars → IsAssignment vars (x ++ l ∷ []) (set values (l.var - 1) true)
true_more vars x values l so positive one fits =
    let many = so.count in
    let is = positive_is l positive in
    record {
      count = length-set values (l.var - 1) true ∙ so.count;
      value = λ var low high. elim (same_or_not var l.var) [
        | inl e ↦ (
          λ _. Contains-append_right x (l ∷ []) (positive_of var) (subst (λ (m : Lit). Contains (l ∷ []) m) (is ∙ ap positive_of (sym e)) (Contains-here l [])),
          λ _. ap (λ (v : ℕ). get_or (set values (l.var - 1) true) (v - 1) false) e ∙ mark_here values l.var one (omega arith),
        )
        | inr n ↦ (
          λ t. Contains-append_left x (l ∷ []) (positive_of var) ((so.value var low high).0 (sym (at_mark values var l.var low one n) ∙ t)),
          λ h. at_mark values var l.var low one n ∙ (so.value var low high).1 (elim (positive_more x l var h) [
            | inl a ↦ a
            | inr e ↦ absurd (n (sym (ap (λ (m : Lit). m.var) e)))
          ]),
        )
      ];
    }

-- ---- literals taken one by one

split_at : (x : List Lit) (i : ℕ) (d : Lit) → i < length x → x ≡ take i x ++ get_or x i d ∷ drop (i + 1) x
split_at x i d lt =
    let back : drop i x ≡ get_or x i d ∷ drop (i + 1) x = rw (add-one, drop-cons x i d) refl in
    sym (take-append-drop i x) ∙ ap (λ (t : List Lit). take i x ++ t) back

pub goes_over : (vars : ℕ) (before x : List Lit) (i : ℕ) (d : Lit) → i < length x → AreOver vars (before ++ take i x) → IsFresh vars (before ++ take i x) (get_or x i d) → AreOver vars (before ++ take (i + 1) x)
goes_over vars before x i d lt over fresh =
    let regroup : (before ++ take i x) ++ get_or x i d ∷ [] ≡ before ++ take (i + 1) x = append_assoc before (take i x) (get_or x i d ∷ []) ∙ ap (λ (t : List Lit). before ++ t) (sym (more_taken x i d lt)) in
    subst (AreOver vars) regroup (over_more vars (before ++ take i x) (get_or x i d) over fresh)
  where
    more_taken : (x : List Lit) (i : ℕ) (d : Lit) → i < length x → take (i + 1) x ≡ take i x ++ get_or x i d ∷ []
    more_taken x i d lt = rw (add-one, take-suc x i d) refl

pub goes_named : (before x : List Lit) (i : ℕ) (d : Lit) (named : List Bool) → i < length x → AreNamed ((before ++ take i x) ++ get_or x i d ∷ []) named → AreNamed (before ++ take (i + 1) x) named
goes_named before x i d named lt marks =
    let taken : take (i + 1) x ≡ take i x ++ get_or x i d ∷ [] = rw (add-one, take-suc x i d) refl in
    let regroup : (before ++ take i x) ++ get_or x i d ∷ [] ≡ before ++ take (i + 1) x = append_assoc before (take i x) (get_or x i d ∷ []) ∙ ap (λ (t : List Lit). before ++ t) (sym taken) in
    subst (λ (t : List Lit). AreNamed t named) regroup marks

pub stops_over : (vars : ℕ) (before x : List Lit) (i : ℕ) (d : Lit) → i < length x → ¬ (IsFresh vars (before ++ take i x) (get_or x i d)) → ¬ (AreOver vars (before ++ x))
stops_over vars before x i d lt stale over =
    let whole : before ++ x ≡ (before ++ take i x) ++ get_or x i d ∷ drop (i + 1) x = ap (λ (t : List Lit). before ++ t) (split_at x i d lt) ∙ sym (append_assoc before (take i x) (get_or x i d ∷ drop (i + 1) x)) in
    stale (over_at vars (before ++ take i x) (drop (i + 1) x) (get_or x i d) (subst (AreOver vars) whole over))

pub goes_assigned : (vars : ℕ) (x : List Lit) (i : ℕ) (d : Lit) (values : List Bool) → i < length x → IsAssignment vars (take i x ++ get_or x i d ∷ []) values → IsAssignment vars (take (i + 1) x) values
goes_assigned vars x i d values lt so =
    let taken : take (i + 1) x ≡ take i x ++ get_or x i d ∷ [] = rw (add-one, take-suc x i d) refl in
    subst (λ (t : List Lit). IsAssignment vars t values) (sym taken) so
