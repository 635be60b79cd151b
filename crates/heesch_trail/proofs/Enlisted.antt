-- Entries that are put into lists.
use Rattle.std.proofs.Common.{◌≡◌, ◌≢◌, ℕ, zero, suc, ◌+◌, ◌-◌, ◌≤◌, take, arith, length-set, ◌<◌, Bool, true, false, eqb, Decides, Result, Ok, Err, OnOk, OnErr, List, [], ◌∷◌, ◌++◌, length, get_or, set, Contains, sym, ap, ◌∙◌, subst, inl, inr, ◌⊎◌, refl, get_or-set_same}
use Rattle.std.proofs.lemmas.List.Elements.{All-nil, All-cons, All-contains, Contains-append_cases, Contains-append_right}
use Rattle.std.proofs.lemmas.List.{get_or_default, length-take-le}
use Rattle.std.specs.Prelude.{IsPermutation}
use Rattle.std.proofs.lemmas.List.Sorted.{Contains-permutation, IsPermutation-sym}
use Rattle.std.proofs.lemmas.Bool.Decides.{Decides-eqb}
use Rattle.heesch_cnf.specs.declared.literal.Lit.{Lit}
use Rattle.heesch_cnf.specs.Flat.{code_of}
use Rattle.heesch_trail.specs.declared.pair.Pair.{Pair}
use Rattle.heesch_trail.specs.declared.entry.Entry.{Entry}
use Rattle.heesch_trail.specs.Watches.{Watching, list_of, pair_of, Names, AreKept, AreMore, OthersStay, IsListed, IsEntry}
use Rattle.heesch_trail.proofs.Guards.{Code-same}

-- a clause that a list names is named there after more came
pub Names-kept : (old new : List (List Entry)) (l : Lit) (k : ℕ) → AreKept old new → Names (list_of old l) k → Names (list_of new l) k
Names-kept old new l k kept names = (names.0, (kept (code_of l) names.0 names.1.0, names.1.1))

pub Listed-kept : (old new : Watching) (k : ℕ) → new.pairs ≡ old.pairs → AreKept old.lists new.lists → IsListed old k → IsListed new k
Listed-kept old new k pairs kept listed p is =
    let names = listed p (ap (λ ps. pair_of ps k) (sym pairs) ∙ is) in
    (Names-kept old.lists new.lists p.one k kept names.0, Names-kept old.lists new.lists p.other k kept names.1)

-- a list with one entry more, or as it was
pub More-entry : {A E : Type 0} (r : Result A E) (old new : Watching) (l : Lit) (e : Entry) (index : ℕ) (blocker : Lit) (binary : Bool) → code_of l < length old.lists → IsEntry index blocker binary e →
    OnOk r (new ≡ record old { lists = set old.lists (code_of l) (list_of old.lists l ++ e ∷ []) }) → OnErr r (new ≡ old) →
    (x : Entry) → Contains (list_of new.lists l) x → Contains (list_of old.lists l) x ⊎ IsEntry index blocker binary x
More-entry (Ok a) old new l e index blocker binary fits entry ok err x has =
    let lists = ap (λ (w : Watching). list_of w.lists l) ok ∙ get_or-set_same old.lists (code_of l) (list_of old.lists l ++ e ∷ []) [] fits in
    elim (Contains-append_cases (list_of old.lists l) (e ∷ []) x (subst (λ xs. Contains xs x) lists has)) [
      | inl before ↦ inl before
      | inr fresh ↦
          let same : x ≡ e = All-contains (λ (y : Entry). y ≡ e) (e ∷ []) x (All-cons (λ (y : Entry). y ≡ e) e [] refl (All-nil (λ (y : Entry). y ≡ e))) fresh in
          inr (subst (IsEntry index blocker binary) (sym same) entry)
    ]
More-entry (Err b) old new l e index blocker binary fits entry ok err x has = inl (subst (λ (w : Watching). Contains (list_of w.lists l) x) err has)

-- the lists of both literals have maybe one entry more
pub More-both : (pair : Pair) (index : ℕ) (binary : Bool) (a b c : List (List Entry)) → OthersStay pair.one a b →
    ((e : Entry) → Contains (list_of b pair.one) e → Contains (list_of a pair.one) e ⊎ IsEntry index pair.other binary e) → OthersStay pair.other b c →
    ((e : Entry) → Contains (list_of c pair.other) e → Contains (list_of b pair.other) e ⊎ IsEntry index pair.one binary e) → AreMore pair index binary a c
More-both pair index binary a b c first one second other l e has = elim (last (eqb (code_of l) (code_of pair.other)) (Decides-eqb (code_of l) (code_of pair.other))) [
  | inl before ↦ elim (start (eqb (code_of l) (code_of pair.one)) (Decides-eqb (code_of l) (code_of pair.one)) before) [
    | inl old ↦ inl old
    | inr fresh ↦ inr (inl fresh)
  ]
  | inr fresh ↦ inr (inr fresh)
]
  where
    last : (t : Bool) → Decides t (code_of l ≡ code_of pair.other) → Contains (list_of b l) e ⊎ ((l ≡ pair.other) × IsEntry index pair.one binary e)
    last true d =
        let same : l ≡ pair.other = Code-same l pair.other (d.0 refl) in
        elim (other e (subst (λ m. Contains (list_of c m) e) same has)) [
          | inl before ↦ inl (subst (λ m. Contains (list_of b m) e) (sym same) before)
          | inr fresh ↦ inr (same, fresh)
        ]
    last false d = inl (subst (λ xs. Contains xs e) (second (code_of l) (λ q. let bad : false ≡ true = d.1 q in cc)) has)

    start : (t : Bool) → Decides t (code_of l ≡ code_of pair.one) → Contains (list_of b l) e → Contains (list_of a l) e ⊎ ((l ≡ pair.one) × IsEntry index pair.other binary e)
    start true d here =
        let same : l ≡ pair.one = Code-same l pair.one (d.0 refl) in
        elim (one e (subst (λ m. Contains (list_of b m) e) same here)) [
          | inl before ↦ inl (subst (λ m. Contains (list_of a m) e) (sym same) before)
          | inr fresh ↦ inr (same, fresh)
        ]
    start false d here = inl (subst (λ xs. Contains xs e) (first (code_of l) (λ q. let bad : false ≡ true = d.1 q in cc)) here)

-- what taking out the entry at a place leaves, in any order
pub Without-swapped : (old new : List Entry) (place : ℕ) (x : Entry) → place < length old → x ≡ get_or old place x → IsPermutation old (x ∷ new) →
    ((e : Entry) → Contains old e → e ≢ get_or old place e → Contains new e) × ((e : Entry) → Contains new e → Contains old e)
Without-swapped old new place x lt is mixed = (
  (λ e has other. elim (Contains-append_cases (x ∷ []) new e (Contains-permutation old (x ∷ new) e mixed has)) [
    | inl here ↦
        let same : e ≡ x = All-contains (λ (y : Entry). y ≡ x) (x ∷ []) e (All-cons (λ (y : Entry). y ≡ x) x [] refl (All-nil (λ (y : Entry). y ≡ x))) here in
        absurd (other (same ∙ is ∙ get_or_default old place x e lt))
    | inr there ↦ there
  ]),
  (λ e has. Contains-permutation (x ∷ new) old e (IsPermutation-sym old (x ∷ new) mixed) (Contains-append_right (x ∷ []) new e has)),
)

front-set : (xs : List Entry) (i : ℕ) (y : Entry) → take i (set xs i y) ≡ take i xs
front-set [] zero y = refl
front-set [] (suc i) y = refl
front-set (x ∷ xs) zero y = refl
front-set (x ∷ xs) (suc i) y = ap (λ ys. x ∷ ys) (front-set xs i y)

front-take : (xs : List Entry) (i n : ℕ) → i ≤ n → take i (take n xs) ≡ take i xs
front-take xs zero n le = refl
front-take [] (suc i) zero le = absurd (omega arith)
front-take [] (suc i) (suc n) le = refl
front-take (x ∷ xs) (suc i) zero le = absurd (omega arith)
front-take (x ∷ xs) (suc i) (suc n) le = ap (λ ys. x ∷ ys) (front-take xs i n (omega arith))

-- the front stays where the last entry takes the place of one
pub Front-swapped : (old : List Entry) (place : ℕ) (y : Entry) → place < length old →
    (take place (take (length old - 1) (set old place y)) ≡ take place old) × (length (take (length old - 1) (set old place y)) + 1 ≡ length old)
Front-swapped old place y lt = (
  front-take (set old place y) place (length old - 1) (omega arith) ∙ front-set old place y,
  omega (arith, length-take-le (length old - 1) (set old place y) (omega (arith, length-set old place y))),
)
