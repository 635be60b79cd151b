-- Pairs that move, and entries that come and go.
use Rattle.std.proofs.Common.{◌≡◌, ◌≢◌, ℕ, ◌<◌, Bool, true, false, eqb, Decides, Option, None, Some, List, [], ◌∷◌, ◌++◌, length, get_or, set, Contains, sym, ap, ◌∙◌, subst, inl, inr, ◌⊎◌, refl, arith, length-set, get_or-set_same, get_or-set_other}
use Rattle.std.proofs.lemmas.List.{get_or_default}
use Rattle.std.proofs.lemmas.List.Elements.{All-nil, All-cons, All-weaker, All-contains, All-contains_itself, Contains-append_left, Contains-append_right, Contains-append_cases}
use Rattle.std.proofs.lemmas.Bool.Decides.{Decides-eqb}
use Rattle.heesch_cnf.specs.declared.literal.Lit.{Lit}
use Rattle.heesch_cnf.specs.Literals.{lit_value}
use Rattle.heesch_cnf.specs.Flat.{code_of}
use Rattle.heesch_trail.specs.declared.pair.Pair.{Pair}
use Rattle.heesch_trail.specs.declared.entry.Entry.{Entry}
use Rattle.heesch_trail.specs.State.{State, IsTrail, values_of}
use Rattle.heesch_trail.specs.Watches.{Watching, list_of, pair_of, index_of, is_binary, Names, AreKept, AreMore, HasPushed, IsBeside, IsEntry, IsWatch, IsSound, AreWhole, AreMoved, IsNext, IsOf}
use Rattle.heesch_trail.specs.Readings.{AreLeft, IsOther}
use Rattle.heesch_trail.specs.Seen.{GoesOn}
use Rattle.heesch_trail.proofs.Levels.{Continues-none}
use Rattle.heesch_trail.proofs.Enlisted.{Names-kept}
use Rattle.heesch_trail.proofs.Guards.{Code-fits, Code-same, Var-fits}

-- the pairs stay, and the lists of both literals of each name its clause still
pub GoesOn-still : (trail : State) (old new : Watching) → IsTrail trail → AreWhole trail.vars trail.clauses old → new.pairs ≡ old.pairs → length new.lists ≡ length old.lists →
    ((k : ℕ) (p : Pair) → pair_of old.pairs k ≡ Some p → Names (list_of old.lists p.one) k × Names (list_of old.lists p.other) k → Names (list_of new.lists p.one) k × Names (list_of new.lists p.other) k) →
    ((l : Lit) (e : Entry) → Contains (list_of new.lists l) e → IsSound trail.clauses l e) → GoesOn trail old trail new
GoesOn-still trail old new valid whole pairs room still sound = record {
  valid = valid;
  steps = Continues-none trail;
  moved = λ k. inl (ap (λ ps. pair_of ps k) pairs);
  whole = record {
    room = room ∙ whole.room;
    places = let places = whole.places in omega (arith, places, ap length pairs);
    within = λ k p is. whole.within k p (ap (λ ps. pair_of ps k) (sym pairs) ∙ is);
    watched = λ k p is.
        let before = ap (λ ps. pair_of ps k) (sym pairs) ∙ is in
        let w = whole.watched k p before in
        let names = still k p before (w.one_lists, w.other_lists) in
        record { has_one = w.has_one; has_other = w.has_other; differ = w.differ; one_lists = names.0; other_lists = names.1 };
    sound = sound;
  };
}

-- lists that grow, while the pairs stay
pub GoesOn-lists : (trail : State) (old new : Watching) → IsTrail trail → AreWhole trail.vars trail.clauses old → new.pairs ≡ old.pairs → length new.lists ≡ length old.lists → AreKept old.lists new.lists →
    ((l : Lit) (e : Entry) → Contains (list_of new.lists l) e → IsSound trail.clauses l e) → GoesOn trail old trail new
GoesOn-lists trail old new valid whole pairs room kept sound =
    GoesOn-still trail old new valid whole pairs room (λ k p is names. (Names-kept old.lists new.lists p.one k kept names.0, Names-kept old.lists new.lists p.other k kept names.1)) sound

-- nothing moved
pub GoesOn-same : (trail : State) (old new : Watching) → IsTrail trail → AreWhole trail.vars trail.clauses old → new ≡ old → GoesOn trail old trail new
GoesOn-same trail old new valid whole same =
    subst (GoesOn trail old trail) (sym same) (GoesOn-lists trail old old valid whole refl refl (λ place e has. has) whole.sound)

-- a binary clause in a false literal's list: its other literals but the blocker are false
pub Binary-others : (trail : State) (l : Lit) (e : Entry) → IsSound trail.clauses l e → is_binary e ≡ true → lit_value (values_of trail.steps) l ≡ Some false → IsOther (values_of trail.steps) (get_or trail.clauses (index_of e) []) e.blocker None
Binary-others trail l e sound two turned =
    let clause = get_or trail.clauses (index_of e) [] in
    All-weaker (Contains clause) (λ x. x ≢ e.blocker → lit_value (values_of trail.steps) x ≡ Some false)
    (λ x inside out. subst (λ m. lit_value (values_of trail.steps) m ≡ Some false) (sym (sound.both two x inside out)) turned) clause (All-contains_itself clause)

-- a pair that moved
GoesOn-pair : (trail : State) (old new : Watching) (index : ℕ) (pair : Pair) → IsTrail trail → AreWhole trail.vars trail.clauses old → index < length trail.clauses →
    Contains (get_or trail.clauses index []) pair.one → Contains (get_or trail.clauses index []) pair.other → pair.one ≢ pair.other → IsNext (values_of trail.steps) (pair_of old.pairs index) (Some pair) →
    new.pairs ≡ set old.pairs index (Some pair) → length new.lists ≡ length old.lists → AreKept old.lists new.lists → Names (list_of new.lists pair.one) index → Names (list_of new.lists pair.other) index →
    ((l : Lit) (e : Entry) → Contains (list_of new.lists l) e → IsSound trail.clauses l e) → GoesOn trail old trail new
GoesOn-pair trail old new index pair valid whole lt has_one has_other differ next pairs room kept one other sound =
    record {
      valid = valid;
      steps = Continues-none trail;
      moved = moved;
      whole = record {
        room = room ∙ whole.room;
        places = let places = whole.places in omega (arith, places, ap length pairs, length-set old.pairs index (Some pair));
        within = λ k p is. within k p (at k) is;
        watched = λ k p is. watched k p (at k) is;
        sound = sound;
      };
    }
  where
    -- the pair of an index is the new one, or as it was
    at : (k : ℕ) → ((k ≡ index) × (pair_of new.pairs k ≡ Some pair)) ⊎ (pair_of new.pairs k ≡ pair_of old.pairs k)
    at k = by_test (eqb k index) (Decides-eqb k index)
      where
        by_test : (t : Bool) → Decides t (k ≡ index) → ((k ≡ index) × (pair_of new.pairs k ≡ Some pair)) ⊎ (pair_of new.pairs k ≡ pair_of old.pairs k)
        by_test true d =
            let here : k ≡ index = d.0 refl in
            let room_here : index < length old.pairs = (let places = whole.places in omega (arith, places, lt)) in
            inl (here, ap (pair_of new.pairs) here ∙ ap (λ ps. pair_of ps index) pairs ∙ get_or-set_same old.pairs index (Some pair) None room_here)
        by_test false d = inr (ap (λ ps. pair_of ps k) pairs ∙ get_or-set_other old.pairs index k (Some pair) None (λ q. let bad : false ≡ true = d.1 q in cc))

    moved : AreMoved (values_of trail.steps) old.pairs new.pairs
    moved k = elim (at k) [
      | inl here ↦ inr (subst (IsNext (values_of trail.steps) (pair_of old.pairs k)) (sym here.1) (subst (λ i. IsNext (values_of trail.steps) (pair_of old.pairs i) (Some pair)) (sym here.0) next))
      | inr same ↦ inl same
    ]

    within : (k : ℕ) (p : Pair) → ((k ≡ index) × (pair_of new.pairs k ≡ Some pair)) ⊎ (pair_of new.pairs k ≡ pair_of old.pairs k) → pair_of new.pairs k ≡ Some p → k < length trail.clauses
    within k p (inl here) is = subst (λ i. i < length trail.clauses) (sym here.0) lt
    within k p (inr same) is = whole.within k p (sym same ∙ is)

    watched : (k : ℕ) (p : Pair) → ((k ≡ index) × (pair_of new.pairs k ≡ Some pair)) ⊎ (pair_of new.pairs k ≡ pair_of old.pairs k) → pair_of new.pairs k ≡ Some p → IsWatch new.lists k (get_or trail.clauses k []) p
    watched k p (inl here) is =
        let same : pair ≡ p = let both : Some pair ≡ Some p = sym here.1 ∙ is in cc in
        subst (λ i. IsWatch new.lists i (get_or trail.clauses i []) p) (sym here.0)
        (subst (IsWatch new.lists index (get_or trail.clauses index [])) same (record { has_one = has_one; has_other = has_other; differ = differ; one_lists = one; other_lists = other }))
    watched k p (inr same) is =
        let w = whole.watched k p (sym same ∙ is) in
        record { has_one = w.has_one; has_other = w.has_other; differ = w.differ; one_lists = Names-kept old.lists new.lists p.one k kept w.one_lists; other_lists = Names-kept old.lists new.lists p.other k kept w.other_lists }

-- an entry with a literal of its clause
Sound-new : (clauses : List (List Lit)) (index : ℕ) (l b : Lit) (binary : Bool) (e : Entry) → index < length clauses → Contains (get_or clauses index []) b →
    (binary ≡ true → (x : Lit) → Contains (get_or clauses index []) x → x ≢ b → x ≡ l) → IsEntry index b binary e → IsSound clauses l e
Sound-new clauses index l b binary e lt has both is = record {
  within = subst (λ i. i < length clauses) (sym is.index_is) lt;
  has = subst (λ i. Contains (get_or clauses i []) e.blocker) (sym is.index_is) (subst (Contains (get_or clauses index [])) (sym is.blocker_is) has);
  both = λ t x inside out. both (sym is.binary_is ∙ t) x (subst (λ i. Contains (get_or clauses i []) x) is.index_is inside) (λ q. out (q ∙ sym is.blocker_is));
}

-- what stands at one place
same-at : (clause : List Lit) (x y : Lit) (a : Contains clause x) (b : Contains clause y) → a.0 ≡ b.0 → x ≡ y
same-at clause x y a b e = sym a.2 ∙ ap (λ n. get_or clause n x) e ∙ get_or_default clause b.0 x y b.1 ∙ b.2

-- a clause of two literals has no others
Two-only : (clause : List Lit) (one other x : Lit) → length clause ≡ 2 → Contains clause one → Contains clause other → one ≢ other → Contains clause x → x ≢ other → x ≡ one
Two-only clause one other x two has_one has_other differ has out =
    let i = has.0 in
    let j = has_one.0 in
    let k = has_other.0 in
    let below_i : i < length clause = has.1 in
    let below_j : j < length clause = has_one.1 in
    let below_k : k < length clause = has_other.1 in
    let apart_i : i ≢ k = λ q. out (same-at clause x other has has_other q) in
    let apart_j : j ≢ k = λ q. differ (same-at clause one other has_one has_other q) in
    same-at clause x one has has_one (omega (arith, two, below_i, below_j, below_k, apart_i, apart_j))

-- entries that are old, or for the pair
Sound-more : (clauses : List (List Lit)) (old new : List (List Entry)) (index : ℕ) (pair : Pair) (binary : Bool) → index < length clauses → Contains (get_or clauses index []) pair.one → Contains (get_or clauses index []) pair.other → pair.one ≢ pair.other →
    (binary ≡ true → length (get_or clauses index []) ≡ 2) → ((l : Lit) (e : Entry) → Contains (list_of old l) e → IsSound clauses l e) → AreMore pair index binary old new → (l : Lit) (e : Entry) → Contains (list_of new l) e → IsSound clauses l e
Sound-more clauses old new index pair binary lt one other differ two sound more l e has = elim (more l e has) [
  | inl before ↦ sound l e before
  | inr fresh ↦ elim fresh [
    | inl h ↦ subst (λ m. IsSound clauses m e) (sym h.0) (Sound-new clauses index pair.one pair.other binary e lt other (λ t x inside out. Two-only (get_or clauses index []) pair.one pair.other x (two t) one other differ inside out) h.1)
    | inr h ↦ subst (λ m. IsSound clauses m e) (sym h.0) (Sound-new clauses index pair.other pair.one binary e lt one (λ t x inside out. Two-only (get_or clauses index []) pair.other pair.one x (two t) other one (λ q. differ (sym q)) inside out) h.1)
  ]
]

-- a pair that moved to two literals that aren't false
pub GoesOn-watch : (trail : State) (old new : Watching) (index : ℕ) (pair : Pair) (binary : Bool) → IsTrail trail → AreWhole trail.vars trail.clauses old → index < length trail.clauses → AreLeft (values_of trail.steps) (get_or trail.clauses index []) pair →
    (binary ≡ true → length (get_or trail.clauses index []) ≡ 2) → new.pairs ≡ set old.pairs index (Some pair) → length new.lists ≡ length old.lists → AreKept old.lists new.lists → AreMore pair index binary old.lists new.lists →
    Names (list_of new.lists pair.one) index → Names (list_of new.lists pair.other) index → GoesOn trail old trail new
GoesOn-watch trail old new index pair binary valid whole lt left two pairs room kept more one other =
    GoesOn-pair trail old new index pair valid whole lt left.has_one left.has_other left.differ (inl left.one, inl left.other) pairs room kept one other
    (Sound-more trail.clauses old.lists new.lists index pair binary lt left.has_one left.has_other left.differ two whole.sound more)

-- at want of memory the lists may have grown
pub GoesOn-wanting : (trail : State) (old new : Watching) (index : ℕ) (pair : Pair) (binary : Bool) → IsTrail trail → AreWhole trail.vars trail.clauses old → index < length trail.clauses → AreLeft (values_of trail.steps) (get_or trail.clauses index []) pair →
    (binary ≡ true → length (get_or trail.clauses index []) ≡ 2) → new.pairs ≡ old.pairs → length new.lists ≡ length old.lists → AreKept old.lists new.lists → AreMore pair index binary old.lists new.lists → GoesOn trail old trail new
GoesOn-wanting trail old new index pair binary valid whole lt left two pairs room kept more =
    GoesOn-lists trail old new valid whole pairs room kept
    (Sound-more trail.clauses old.lists new.lists index pair binary lt left.has_one left.has_other left.differ two whole.sound more)

-- one entry more in one list
Kept-pushed : (lists : List (List Entry)) (i : ℕ) (e : Entry) → i < length lists → AreKept lists (set lists i (get_or lists i [] ++ e ∷ []))
Kept-pushed lists i e lt place x has = by_test (eqb place i) (Decides-eqb place i)
  where
    by_test : (t : Bool) → Decides t (place ≡ i) → Contains (get_or (set lists i (get_or lists i [] ++ e ∷ [])) place []) x
    by_test true d =
        let here : place ≡ i = d.0 refl in
        subst (λ p. Contains (get_or (set lists i (get_or lists i [] ++ e ∷ [])) p []) x) (sym here)
        (subst (λ ys. Contains ys x) (sym (get_or-set_same lists i (get_or lists i [] ++ e ∷ []) [] lt)) (Contains-append_left (get_or lists i []) (e ∷ []) x (subst (λ p. Contains (get_or lists p []) x) here has)))
    by_test false d = subst (λ ys. Contains ys x) (sym (get_or-set_other lists i place (get_or lists i [] ++ e ∷ []) [] (λ q. let bad : false ≡ true = d.1 q in cc))) has

More-pushed : (lists : List (List Entry)) (i : ℕ) (e : Entry) → i < length lists → (place : ℕ) (x : Entry) → Contains (get_or (set lists i (get_or lists i [] ++ e ∷ [])) place []) x → Contains (get_or lists place []) x ⊎ ((place ≡ i) × (x ≡ e))
More-pushed lists i e lt place x has = by_test (eqb place i) (Decides-eqb place i)
  where
    by_test : (t : Bool) → Decides t (place ≡ i) → Contains (get_or lists place []) x ⊎ ((place ≡ i) × (x ≡ e))
    by_test true d =
        let here : place ≡ i = d.0 refl in
        let inside = subst (λ ys. Contains ys x) (get_or-set_same lists i (get_or lists i [] ++ e ∷ []) [] lt) (subst (λ p. Contains (get_or (set lists i (get_or lists i [] ++ e ∷ [])) p []) x) here has) in
        elim (Contains-append_cases (get_or lists i []) (e ∷ []) x inside) [
          | inl before ↦ inl (subst (λ p. Contains (get_or lists p []) x) (sym here) before)
          | inr fresh ↦ inr (here, All-contains (λ (y : Entry). y ≡ e) (e ∷ []) x (All-cons (λ (y : Entry). y ≡ e) e [] refl (All-nil (λ (y : Entry). y ≡ e))) fresh)
        ]
    by_test false d = inl (subst (λ ys. Contains ys x) (get_or-set_other lists i place (get_or lists i [] ++ e ∷ []) [] (λ q. let bad : false ≡ true = d.1 q in cc)) has)

There-pushed : (lists : List (List Entry)) (i : ℕ) (e : Entry) → i < length lists → Contains (get_or (set lists i (get_or lists i [] ++ e ∷ [])) i []) e
There-pushed lists i e lt = subst (λ ys. Contains ys e) (sym (get_or-set_same lists i (get_or lists i [] ++ e ∷ []) [] lt)) (Contains-append_right (get_or lists i []) (e ∷ []) e (0, omega arith, refl))

-- the clause's pair has the literal with one beside it, and another literal of the clause may watch
pub record IsMoving (trail : State) (old : Watching) (index : ℕ) (q : Pair) (l found beside : Lit) : Type 0 where
  pub pair_is : pair_of old.pairs index ≡ Some q
  pub side : IsBeside q l (Some beside)
  pub other : IsOther (values_of trail.steps) (get_or trail.clauses index []) beside (Some found)

-- as it was read
pub moving : (trail : State) (old : Watching) (index : ℕ) (pair : Option Pair) (q : Pair) (l : Lit) (side : Option Lit) (beside : Lit) (other : Option Lit) (found : Lit) → pair ≡ pair_of old.pairs index → pair ≡ Some q → IsBeside q l side → side ≡ Some beside →
    IsOther (values_of trail.steps) (get_or trail.clauses index []) beside other → other ≡ Some found → IsMoving trail old index q l found beside
moving trail old index pair q l side beside other found pair_is is side_is beside_is other_is found_is = record {
  pair_is = sym pair_is ∙ is;
  side = subst (IsBeside q l) beside_is side_is;
  other = subst (IsOther (values_of trail.steps) (get_or trail.clauses index []) beside) found_is other_is;
}

-- a pair of which one literal moved
pub GoesOn-replace : (trail : State) (old new : Watching) (index : ℕ) (q : Pair) (l found beside : Lit) → IsTrail trail → AreWhole trail.vars trail.clauses old → IsMoving trail old index q l found beside →
    (let pair : Pair = record { one = found; other = beside } in (new.pairs ≡ set old.pairs index (Some pair)) × HasPushed pair index old.lists new.lists) → GoesOn trail old trail new
GoesOn-replace trail old new index q l found beside valid whole moves moved =
    GoesOn-pair trail old new index pair valid whole lt moves.other.0 (held.0) moves.other.1.0 (inl moves.other.1.1, inr (subst (λ o. IsOf o beside) (sym moves.pair_is) held.1.0)) moved.0
    (ap length lists ∙ length-set old.lists (code_of found) (list_of old.lists found ++ e ∷ []))
    kept (e, (subst (λ ls. Contains (list_of ls found) e) (sym lists) (There-pushed old.lists (code_of found) e fits), pushed.1.0.index_is)) (Names-kept old.lists new.lists beside index kept held.1.1) sound
  where
    pair : Pair
    pair = record { one = found; other = beside }

    lt : index < length trail.clauses
    lt = whole.within index q moves.pair_is

    pushed : HasPushed pair index old.lists new.lists
    pushed = moved.1

    e : Entry
    e = pushed.0

    lists : new.lists ≡ set old.lists (code_of found) (list_of old.lists found ++ e ∷ [])
    lists = pushed.1.1

    fits : code_of found < length old.lists
    fits = Code-fits trail.vars (length old.lists) found (Var-fits trail index found valid.clauses lt moves.other.0) whole.room

    kept : AreKept old.lists new.lists
    kept = subst (AreKept old.lists) (sym lists) (Kept-pushed old.lists (code_of found) e fits)

    held : Contains (get_or trail.clauses index []) beside × (IsOf (Some q) beside × Names (list_of old.lists beside) index)
    held = let w = whole.watched index q moves.pair_is in elim moves.side [
      | inl s ↦ (subst (Contains (get_or trail.clauses index [])) (sym s.1) w.has_other, (inr (sym s.1), subst (λ m. Names (list_of old.lists m) index) (sym s.1) w.other_lists))
      | inr s ↦ (subst (Contains (get_or trail.clauses index [])) (sym s.1) w.has_one, (inl (sym s.1), subst (λ m. Names (list_of old.lists m) index) (sym s.1) w.one_lists))
    ]

    sound : (m : Lit) (x : Entry) → Contains (list_of new.lists m) x → IsSound trail.clauses m x
    sound m x has = elim (More-pushed old.lists (code_of found) e fits (code_of m) x (subst (λ ls. Contains (list_of ls m) x) lists has)) [
      | inl before ↦ whole.sound m x before
      | inr fresh ↦
          let same : m ≡ found = Code-same m found fresh.0 in
          subst (λ y. IsSound trail.clauses m y) (sym fresh.1) (subst (λ y. IsSound trail.clauses y e) (sym same)
          (Sound-new trail.clauses index found beside false e lt held.0 (λ t. let bad : false ≡ true = t in cc) pushed.1.0))
    ]

-- a literal that watches no more
pub Unwatched-replaced : (trail : State) (old new : Watching) (index : ℕ) (q : Pair) (l found beside : Lit) → AreWhole trail.vars trail.clauses old → IsMoving trail old index q l found beside → lit_value (values_of trail.steps) l ≡ Some false →
    (let pair : Pair = record { one = found; other = beside } in new.pairs ≡ set old.pairs index (Some pair)) → index < length old.pairs →
    (p : Pair) → pair_of new.pairs index ≡ Some p → (p.one ≢ l) × (p.other ≢ l)
Unwatched-replaced trail old new index q l found beside whole moves turned pairs lt p now =
    let pair : Pair = record { one = found; other = beside } in
    let same : pair ≡ p = let both : Some pair ≡ Some p = sym (ap (λ ps. pair_of ps index) pairs ∙ get_or-set_same old.pairs index (Some pair) None lt) ∙ now in cc in
    subst (λ (x : Pair). (x.one ≢ l) × (x.other ≢ l)) same (
      (λ e. moves.other.1.1 (subst (λ m. lit_value (values_of trail.steps) m ≡ Some false) (sym e) turned)),
      (let w = whole.watched index q moves.pair_is in elim moves.side [
        | inl s ↦ λ e. w.differ (s.0 ∙ sym e ∙ s.1)
        | inr s ↦ λ e. w.differ (sym s.1 ∙ e ∙ sym s.0)
      ]),
    )
