use Rattle.std.proofs.Common.{◌≡◌, ℕ, ◌+◌, ◌-◌, ◌<◌, ◌≤◌, Bool, not, ◌&&◌, IsTrue, ◌↔◌, List, [], ◌∷◌, ◌++◌, length, get_or, take, drop, All, is_none, refl, sym, ap, ◌∙◌, subst, arith, get_or-take, length-take-le}
use Rattle.std.proofs.lemmas.List.{drop_more, get_or-append-add}
use Rattle.std.proofs.lemmas.List.Elements.{All-weaker, All-filter, All-head, All-tail}
use Rattle.heesch_cnf.specs.declared.literal.Lit.{Lit}
use Rattle.heesch_cnf.specs.Literals.{Values, lit_value, is_false_value, with_true, opposite}
use Rattle.heesch_cnf.specs.Clauses.{IsClause, AreClauses, left_of}
use Rattle.heesch_cnf.specs.Lines.{numbered, after_hint, is_empty, reaches_conflict, refuting, IsNumber, AreNumbers, IsShown}
use Rattle.heesch_rup.specs.Hints.{IsNumberUpTo}

-- the variables of a clause have places in a list that is longer than their number
pub have_places : (vars n : ℕ) (clause : List Lit) → vars < n → IsClause vars clause → All (λ l. l.var < n) clause
have_places vars n clause room form = All-weaker (λ l. (1 ≤ l.var) × (l.var ≤ vars)) (λ l. l.var < n) (λ l h. omega (arith, h.1)) clause form.in_range

pub have_places_numbered : (vars n : ℕ) (clauses : List (List Lit)) (h : ℕ) → vars < n → AreClauses vars clauses → IsNumber clauses h → All (λ l. l.var < n) (numbered clauses h)
have_places_numbered vars n clauses h room form number = have_places vars n (numbered clauses h) room (form (h - 1) [] (omega (arith, number.0, number.1)))

-- the clause of a number among two lists that stands behind the first
pub numbered_behind : (clauses more : List (List Lit)) (n k : ℕ) → n - 1 ≡ length clauses + k → get_or more k [] ≡ numbered (clauses ++ more) n
numbered_behind clauses more n k is = sym (ap (λ (m : ℕ). get_or (clauses ++ more) m []) is ∙ get_or-append-add clauses more k [])

-- what isn't false of a clause is a part of it
pub has_place : (n : ℕ) (values : Values) (clause : List Lit) (l : Lit) → All (λ m. m.var < n) clause → left_of values clause ≡ l ∷ [] → l.var < n
has_place n values clause l fits one =
    let P : Lit → Type 0 = λ m. m.var < n in
    All-head P l [] (subst (All P) one (All-filter (λ m. not (is_false_value (lit_value values m))) P clause fits))

-- the values that refute a clause, one literal more
pub refuting-drop_more : (clause : List Lit) (i : ℕ) (d : Lit) → i < length clause → with_true (opposite (get_or clause i d)) (refuting (drop (i + 1) clause)) ≡ refuting (drop i clause)
refuting-drop_more clause i d lt = ap refuting (sym (drop_more clause i d lt))

after_same : (values : Values) (left : List Lit) (last : Bool) (f g : Lit → Bool) → ((l : Lit) → f l ≡ g l) → after_hint values left last f ≡ after_hint values left last g
after_same values [] last f g same = refl
after_same values (l ∷ []) last f g same = ap (λ b. is_none (lit_value values l) && b) (same l)
after_same values (l ∷ m ∷ ls) last f g same = refl

-- where hints are numbers of the first clauses, they end in a conflict over these as over all
front_conflict : (clauses : List (List Lit)) (count : ℕ) (values : Values) (hints : List ℕ) → All (IsNumberUpTo count) hints → reaches_conflict (take count clauses) values hints ≡ reaches_conflict clauses values hints
front_conflict clauses count values [] numbers = refl
front_conflict clauses count values (h ∷ hs) numbers =
    let here = All-head (IsNumberUpTo count) h hs numbers in
    let rest = All-tail (IsNumberUpTo count) h hs numbers in
    let first : Lit → Bool = λ l. reaches_conflict (take count clauses) (with_true l values) hs in
    let next : Lit → Bool = λ l. reaches_conflict clauses (with_true l values) hs in
    ap (λ (c : List Lit). after_hint values (left_of values c) (is_empty hs) first) (get_or-take count clauses (h - 1) [] (omega (arith, here.0, here.1)))
    ∙ after_same values (left_of values (numbered clauses h)) (is_empty hs) first next (λ l. front_conflict clauses count (with_true l values) hs rest)

module _ (clauses : List (List Lit)) (count : ℕ) (few : count ≤ length clauses) (hints : List ℕ) where
  pub numbers_of_front : All (IsNumberUpTo count) hints → AreNumbers (take count clauses) hints
  numbers_of_front h = All-weaker (IsNumberUpTo count) (IsNumber (take count clauses)) (λ n is. (is.0, omega (arith, is.1, length-take-le count clauses few))) hints h

  pub numbers_up_to : AreNumbers (take count clauses) hints → All (IsNumberUpTo count) hints
  numbers_up_to h = All-weaker (IsNumber (take count clauses)) (IsNumberUpTo count) (λ n is. (is.0, omega (arith, is.1, length-take-le count clauses few))) hints h

  pub numbers_of_all : All (IsNumberUpTo count) hints → AreNumbers clauses hints
  numbers_of_all h = All-weaker (IsNumberUpTo count) (IsNumber clauses) (λ n is. (is.0, omega (arith, is.1))) hints h

  -- whether hints show that a clause follows from the first clauses
  pub shown_by_front : (clause : List Lit) (shows : Bool) → All (IsNumberUpTo count) hints → shows ≡ reaches_conflict clauses (refuting clause) hints → IsTrue shows ↔ IsShown (take count clauses) clause hints
  shown_by_front clause shows numbers same =
      let front = same ∙ sym (front_conflict clauses count (refuting clause) hints numbers) in
      (λ e. record { numbers = numbers_of_front numbers; conflict = sym front ∙ e }, λ s. front ∙ s.conflict)
