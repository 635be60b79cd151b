use Rattle.std.proofs.Common.{Contains, ◌≡◌, ℕ, zero, suc, ◌+◌, ◌*◌, ◌<◌, ◌≤◌, Bool, true, false, cond, eqb, nat_le, Decides, Result, Ok, Err, OnOk, OnErr, Option, Some, None, List, [], ◌∷◌, ◌++◌, length, get_or, take, replicate, All, IsSome, append-nil, append_assoc, sym, ap, ◌∙◌, subst, inl, inr, refl, arith, add-one, length-append}
use Rattle.std.proofs.lemmas.List.{get_or_append_left, get_or_at, get_or_past, get_or-take, length-take-le, length-replicate, take_more, take_all}
use Rattle.std.proofs.lemmas.List.Elements.{All-head, All-tail, All-weaker, filter-append}
use Rattle.std.proofs.lemmas.Bool.{cases_lt}
use Rattle.std.proofs.lemmas.Bool.Decides.{Decides-eqb, nat_tests}
use Rattle.heesch_cnf.specs.declared.literal.Lit.{Lit}
use Rattle.heesch_cnf.specs.Flat.{code_of}
use Rattle.heesch_cnf.proofs.Lists.{Contains-none}
use Rattle.heesch_cnf.specs.Literals.{lit_value, signed}
use Rattle.heesch_trail.specs.declared.pair.Pair.{Pair}
use Rattle.heesch_trail.specs.declared.step.Step.{Step}
use Rattle.heesch_trail.specs.State.{State, IsTrail, StepsHold, values_of, level_of, up_to, decision}
use Rattle.heesch_trail.specs.Watches.{Watching, pair_of, index_of, IsWatch, IsSound, IsNotFalse, AreNotFalse, MayWatch, IsNext}
use Rattle.heesch_trail.specs.declared.entry.Entry.{Entry}
use Rattle.heesch_trail.specs.Seen.{IsGuarded, AreGuarded, IsSeen, AreSeen, GoesOn, StaySeen, IsWatched}
use Rattle.heesch_trail.proofs.Inner.{with_value, level_from-push}
use Rattle.heesch_trail.proofs.Undo.{up_to-all, up_to-drop, levels-below_whole, held-replicate}
use Rattle.heesch_trail.proofs.Levels.{Continues-level}
use Rattle.heesch_trail.proofs.Visits.{values-push, same_clauses, more_steps}
use Rattle.heesch_trail.proofs.Guards.{Seen-push, Guarded-seen, Seen-guarded}

-- one assignment more, above the level or not
value-more : (m : ℕ) (front : List Step) (s : Step) (v : ℕ) (a : Bool) → values_of front s.lit.var ≡ None → ((u : ℕ) (b : Bool) → values_of (up_to m front) u ≡ Some b → values_of front u ≡ Some b) →
    values_of (up_to m (front ++ s ∷ [])) v ≡ Some a → values_of (front ++ s ∷ []) v ≡ Some a
value-more m front s v a none rest is =
    ap (λ (f : ℕ → Option Bool). f v) (values-push front s none)
    ∙ by_level (nat_le s.level m) (ap (λ ss. values_of ss v) (sym (filter-append (λ (t : Step). nat_le t.level m) front (s ∷ []))) ∙ is)
  where
    still_open : (o : Option Bool) → values_of (up_to m front) s.lit.var ≡ o → values_of (up_to m front) s.lit.var ≡ None
    still_open None e = e
    still_open (Some b) e = absurd (let bad : None ≡ Some b = sym none ∙ rest s.lit.var b e in cc)

    by_var : (t : Bool) → cond t (Some s.lit.positive) (values_of (up_to m front) v) ≡ Some a → cond t (Some s.lit.positive) (values_of front v) ≡ Some a
    by_var true h = h
    by_var false h = rest v a h

    elsewhere : (t : Bool) → Decides t (s.lit.var ≡ v) → values_of front v ≡ Some a → cond t (Some s.lit.positive) (values_of front v) ≡ Some a
    elsewhere true d h = absurd (let bad : None ≡ Some a = sym none ∙ ap (values_of front) (d.0 refl) ∙ h in cc)
    elsewhere false d h = h

    by_level : (t : Bool) → values_of (up_to m front ++ cond t (s ∷ []) []) v ≡ Some a → with_value s.lit.var (Some s.lit.positive) (values_of front) v ≡ Some a
    by_level true h = by_var (eqb s.lit.var v) (ap (λ (f : ℕ → Option Bool). f v) (sym (values-push (up_to m front) s (still_open (values_of (up_to m front) s.lit.var) refl))) ∙ h)
    by_level false h = elsewhere (eqb s.lit.var v) (Decides-eqb s.lit.var v) (rest v a (ap (λ ss. values_of ss v) (sym (append-nil (up_to m front))) ∙ h))

-- the values of the assignments up to a level are those of all of them, where they are there
value-take : (vars : ℕ) (clauses : List (List Lit)) (steps : List Step) (m : ℕ) → StepsHold vars clauses steps → (n : ℕ) → n ≤ length steps → (v : ℕ) (a : Bool) → values_of (up_to m (take n steps)) v ≡ Some a → values_of (take n steps) v ≡ Some a
value-take vars clauses steps m hold zero le v a is = is
value-take vars clauses [] m hold (suc n) le v a is = absurd (omega arith)
value-take vars clauses (x ∷ xs) m hold (suc n) le v a is =
    let P : List Step → Type 0 = λ ss. values_of (up_to m ss) v ≡ Some a → values_of ss v ≡ Some a in
    let lt : n < length (x ∷ xs) = omega arith in
    let holds = hold n x lt in
    subst (λ j. P (take j (x ∷ xs))) (add-one n)
    (subst P (sym (take_more (x ∷ xs) n x lt))
    (value-more m (take n (x ∷ xs)) (get_or (x ∷ xs) n x) v a holds.was_open (λ u b h. value-take vars clauses (x ∷ xs) m hold n (omega arith) u b h))) is

pub Value-up_to : (vars : ℕ) (clauses : List (List Lit)) (steps : List Step) (m : ℕ) (l : Lit) (b : Bool) → StepsHold vars clauses steps → lit_value (values_of (up_to m steps)) l ≡ Some b → lit_value (values_of steps) l ≡ Some b
Value-up_to vars clauses steps m l b hold is = by_value (values_of (up_to m steps) l.var) refl is
  where
    whole : (v : ℕ) (a : Bool) → values_of (up_to m steps) v ≡ Some a → values_of steps v ≡ Some a
    whole v a = subst (λ ss. values_of (up_to m ss) v ≡ Some a → values_of ss v ≡ Some a) (take_all (length steps) steps (omega arith)) (value-take vars clauses steps m hold (length steps) (omega arith) v a)

    none_signed : (p : Bool) → signed p None ≡ Some b → ⊥
    none_signed true e = let bad : None ≡ Some b = e in cc
    none_signed false e = let bad : None ≡ Some b = e in cc

    by_value : (o : Option Bool) → values_of (up_to m steps) l.var ≡ o → signed l.positive (values_of (up_to m steps) l.var) ≡ Some b → signed l.positive (values_of steps l.var) ≡ Some b
    by_value None e h = absurd (none_signed l.positive (subst (λ o. signed l.positive o ≡ Some b) e h))
    by_value (Some a) e h = ap (signed l.positive) (whole l.var a e ∙ sym e) ∙ h

-- a pair that moved under values that are there now, seen at a level
Up-up_to : (vars : ℕ) (clauses : List (List Lit)) (steps : List Step) (m : ℕ) (old : Option Pair) (l : Lit) → StepsHold vars clauses steps → MayWatch (values_of steps) old l → AreNotFalse (values_of (up_to m steps)) old → IsNotFalse (values_of (up_to m steps)) l
Up-up_to vars clauses steps m old l hold (inl up) before = λ e. up (Value-up_to vars clauses steps m l false hold e)
Up-up_to vars clauses steps m None l hold (inr of) before = absurd of
Up-up_to vars clauses steps m (Some q) l hold (inr (inl e)) before = subst (IsNotFalse (values_of (up_to m steps))) e before.0
Up-up_to vars clauses steps m (Some q) l hold (inr (inr e)) before = subst (IsNotFalse (values_of (up_to m steps))) e before.1

Next-up_to : (vars : ℕ) (clauses : List (List Lit)) (steps : List Step) (m : ℕ) (old new : Option Pair) → StepsHold vars clauses steps → IsNext (values_of steps) old new → AreNotFalse (values_of (up_to m steps)) old → AreNotFalse (values_of (up_to m steps)) new
Next-up_to vars clauses steps m old None hold next before = next
Next-up_to vars clauses steps m old (Some p) hold next before = (Up-up_to vars clauses steps m old p.one hold next.0 before, Up-up_to vars clauses steps m old p.other hold next.1 before)

pub Watched-decide : (t new : State) (w : Watching) (head fresh : ℕ) (marks : List ℕ) (l : Lit) (n : ℕ) → IsWatched t w head fresh marks → values_of t.steps l.var ≡ None → n ≤ fresh →
    (0 < n → length t.steps ≤ head) → IsTrail new → new ≡ record t { steps = t.steps ++ decision l (level_of t.steps + 1) ∷ [] } → IsWatched new w head fresh (marks ++ n ∷ [])
Watched-decide t new w head fresh marks l n parts none few idle valid is =
    let d = decision l (level_of t.steps + 1) in
    let visited = parts.visited in
    let few_read = parts.few_read in
    subst (λ (st : State). IsWatched st w head fresh (marks ++ n ∷ [])) (sym is) (record {
      valid = subst IsTrail is valid;
      whole = parts.whole;
      visited = omega (arith, visited, length-append t.steps (d ∷ []));
      few_read = parts.few_read;
      seen = λ k lt. Seen-push head t.steps d (get_or t.clauses k []) (pair_of w.pairs k) none parts.visited (parts.seen k lt);
      levels = let levels = parts.levels in omega (arith, levels, level_from-push 0 t.steps d, length-append marks (n ∷ []));
      few_marked = λ m lt. few_at m lt;
      marked = λ m lt. marked_at m lt;
    })
  where
    few_at : (m : ℕ) → m < length (marks ++ n ∷ []) → get_or (marks ++ n ∷ []) m 0 ≤ length t.clauses
    few_at m lt = elim (cases_lt m (length marks)) [
      | inl before ↦ subst (λ k. k ≤ length t.clauses) (sym (get_or_append_left marks (n ∷ []) 0 m before)) (parts.few_marked m before)
      | inr past ↦
          let at : length marks ≡ m = omega (arith, lt, past, length-append marks (n ∷ [])) in
          let few_read = parts.few_read in
          subst (λ k. k ≤ length t.clauses) (sym (get_or_at marks n [] 0 m at)) (omega (arith, few, few_read))
    ]

    guarded : AreGuarded (values_of t.steps) t.clauses w.pairs n
    guarded k lt = Seen-guarded head t.steps (get_or t.clauses k []) (pair_of w.pairs k) (idle (omega (arith, lt))) (parts.seen k (omega (arith, lt, few)))

    marked_at : (m : ℕ) → m < length (marks ++ n ∷ []) → AreGuarded (values_of (up_to m (t.steps ++ decision l (level_of t.steps + 1) ∷ []))) t.clauses w.pairs (get_or (marks ++ n ∷ []) m 0)
    marked_at m lt =
        let levels = parts.levels in
        let below : m < level_of t.steps + 1 = omega (arith, lt, levels, length-append marks (n ∷ [])) in
        let dropped = up_to-drop m t.steps (decision l (level_of t.steps + 1)) below in
        subst (λ (ss : List Step). AreGuarded (values_of ss) t.clauses w.pairs (get_or (marks ++ n ∷ []) m 0)) (sym dropped)
        (elim (cases_lt m (length marks)) [
          | inl before ↦ subst (AreGuarded (values_of (up_to m t.steps)) t.clauses w.pairs) (sym (get_or_append_left marks (n ∷ []) 0 m before)) (parts.marked m before)
          | inr past ↦
              let at : length marks ≡ m = omega (arith, lt, past, length-append marks (n ∷ [])) in
              let level : level_of t.steps ≡ m = sym levels ∙ at in
              let all = up_to-all (level_of t.steps) t.steps (levels-below_whole t.vars t.clauses t.steps parts.valid.steps) in
              subst (AreGuarded (values_of (up_to m t.steps)) t.clauses w.pairs) (sym (get_or_at marks n [] 0 m at))
              (subst (λ (ss : List Step). AreGuarded (values_of ss) t.clauses w.pairs n) (sym (ap (λ j. up_to j t.steps) (sym level) ∙ all)) guarded)
        ])

-- assignments above a level don't change those up to it
up_to-more : (m n : ℕ) (made steps : List Step) → All (λ (s : Step). (s.level ≡ n) × IsSome s.reason) made → m < n → up_to m (steps ++ made) ≡ up_to m steps
up_to-more m n [] steps all lt = ap (up_to m) (append-nil steps)
up_to-more m n (x ∷ xs) steps all lt =
    let P : Step → Type 0 = λ s. (s.level ≡ n) × IsSome s.reason in
    let here = (All-head P x xs all).0 in
    ap (up_to m) (sym (append_assoc steps (x ∷ []) xs)) ∙ up_to-more m n xs (steps ++ x ∷ []) (All-tail P x xs all) lt ∙ up_to-drop m steps x (omega (arith, lt, here))

-- a clause that was guarded at a lower level stays so, as pairs move to literals that aren't false now
Guarded-moved : (t new : State) (w watching : Watching) (m k : ℕ) → IsTrail t → GoesOn t w new watching → m < level_of t.steps → IsGuarded (values_of (up_to m t.steps)) (get_or t.clauses k []) (pair_of w.pairs k) →
    IsGuarded (values_of (up_to m new.steps)) (get_or new.clauses k []) (pair_of watching.pairs k)
Guarded-moved t new w watching m k valid go lt guarded =
    let steps = ap (λ (st : State). st.steps) go.steps.1.0 in
    let same = ap (up_to m) steps ∙ up_to-more m (level_of t.steps) go.steps.0 t.steps go.steps.1.1 lt in
    subst (λ (ss : List Step). IsGuarded (values_of ss) (get_or new.clauses k []) (pair_of watching.pairs k)) (sym same)
    (subst (λ (cs : List (List Lit)). IsGuarded (values_of (up_to m t.steps)) (get_or cs k []) (pair_of watching.pairs k)) (sym (same_clauses t new go.steps))
    (moved guarded))
  where
    moved : IsGuarded (values_of (up_to m t.steps)) (get_or t.clauses k []) (pair_of w.pairs k) → IsGuarded (values_of (up_to m t.steps)) (get_or t.clauses k []) (pair_of watching.pairs k)
    moved (inl true_one) = inl true_one
    moved (inr up) = inr (elim (go.moved k) [
      | inl same ↦ subst (AreNotFalse (values_of (up_to m t.steps))) (sym same) up
      | inr next ↦ Next-up_to t.vars t.clauses t.steps m (pair_of w.pairs k) (pair_of watching.pairs k) valid.steps next up
    ])

-- assignments at the present level, moved pairs, and what was seen since
pub Watched-goes_on : (t new : State) (w watching : Watching) (head fresh head_now fresh_now : ℕ) (marks : List ℕ) → IsWatched t w head fresh marks → GoesOn t w new watching →
    head_now ≤ length new.steps → fresh_now ≤ length new.clauses → AreSeen head_now new watching fresh_now → IsWatched new watching head_now fresh_now marks
Watched-goes_on t new w watching head fresh head_now fresh_now marks parts go visited few seen =
    let clauses = same_clauses t new go.steps in
    record {
      valid = go.valid;
      whole = go.whole;
      visited = visited;
      few_read = few;
      seen = seen;
      levels = parts.levels ∙ sym (Continues-level t new go.steps);
      few_marked = λ m lt. subst (λ (cs : List (List Lit)). get_or marks m 0 ≤ length cs) (sym clauses) (parts.few_marked m lt);
      marked = λ m lt k below. let levels = parts.levels in Guarded-moved t new w watching m k parts.valid go (omega (arith, lt, levels)) (parts.marked m lt k below);
    }

-- the first clauses were read, as many as now
pub Watched-read : (t new : State) (w watching : Watching) (head fresh read : ℕ) (marks : List ℕ) → IsWatched t w head fresh marks → GoesOn t w new watching → read ≤ length new.clauses → StaySeen t w fresh new watching read → IsWatched new watching head read marks
Watched-read t new w watching head fresh read marks parts go few stay =
    let more = more_steps t new go.steps in
    let visited = parts.visited in
    Watched-goes_on t new w watching head fresh head read marks parts go (omega (arith, more, visited)) few (stay head parts.visited parts.seen)

-- the assignments up to a level of those up to a higher one
pub up_to-up_to : (j k : ℕ) (steps : List Step) → j ≤ k → up_to j (up_to k steps) ≡ up_to j steps
up_to-up_to j k [] le = refl
up_to-up_to j k (x ∷ xs) le = by_test (nat_le x.level k) refl (up_to-up_to j k xs le)
  where
    below : (a : ℕ) → nat_le a k ≡ false → nat_le a j ≡ false
    below a h = grind (arith, nat_tests)

    by_test : (t : Bool) → nat_le x.level k ≡ t → up_to j (up_to k xs) ≡ up_to j xs → up_to j (cond t (x ∷ up_to k xs) (up_to k xs)) ≡ cond (nat_le x.level j) (x ∷ up_to j xs) (up_to j xs)
    by_test true e rest = ap (λ ys. cond (nat_le x.level j) (x ∷ ys) ys) rest
    by_test false e rest = rest ∙ sym (ap (λ t. cond t (x ∷ up_to j xs) (up_to j xs)) (below x.level e))

-- back at a level, as many clauses as its mark are guarded
pub Watched-back : (t new : State) (w : Watching) (head fresh : ℕ) (marks : List ℕ) (level now : ℕ) → IsWatched t w head fresh marks → level < level_of t.steps → new ≡ record t { steps = up_to level t.steps } →
    level_of new.steps ≡ level → IsTrail new → now ≡ length new.steps → IsWatched new w now (get_or marks level 0) (take level marks)
Watched-back t new w head fresh marks level now parts above is at valid all =
    let low : State = record t { steps = up_to level t.steps } in
    let levels = parts.levels in
    let short : length (take level marks) ≡ level = length-take-le level marks (omega (arith, levels, above)) in
    subst (λ (st : State). IsWatched st w now (get_or marks level 0) (take level marks)) (sym is) (record {
      valid = subst IsTrail is valid;
      whole = parts.whole;
      visited = let count = ap (λ (st : State). length st.steps) is in omega (arith, all, count);
      few_read = parts.few_marked level (omega (arith, levels, above));
      seen = λ k lt. Guarded-seen now (up_to level t.steps) (get_or t.clauses k []) (pair_of w.pairs k) (parts.marked level (omega (arith, levels, above)) k lt);
      levels = short ∙ sym at ∙ ap (λ (st : State). level_of st.steps) is;
      few_marked = λ m lt. subst (λ k. k ≤ length t.clauses) (sym (get_or-take level marks m 0 (omega (arith, lt, short)))) (parts.few_marked m (omega (arith, lt, short, levels, above)));
      marked = λ m lt k below.
          let mark = get_or-take level marks m 0 (omega (arith, lt, short)) in
          subst (λ (ss : List Step). IsGuarded (values_of ss) (get_or t.clauses k []) (pair_of w.pairs k)) (sym (up_to-up_to m level t.steps (omega (arith, lt, short))))
          (parts.marked m (omega (arith, lt, short, levels, above)) k (subst (λ j. k < j) mark below));
    })

-- a place more that no clause has watches nothing
Pair-grown : (pairs : List (Option Pair)) (k : ℕ) → pair_of (pairs ++ None ∷ []) k ≡ pair_of pairs k
Pair-grown pairs k = elim (cases_lt k (length pairs)) [
  | inl before ↦ get_or_append_left pairs (None ∷ []) None k before
  | inr past ↦ elim (cases_lt (length pairs) k) [
    | inl beyond ↦ get_or_past (pairs ++ None ∷ []) k None (omega (arith, beyond, length-append {A = Option Pair} pairs (None ∷ []))) ∙ sym (get_or_past pairs k None past)
    | inr low ↦ get_or_at pairs None [] None k (omega (arith, past, low)) ∙ sym (get_or_past pairs k None past)
  ]
]

-- an entry stays sound as clauses are added
Sound-more : (clauses more : List (List Lit)) (l : Lit) (e : Entry) → IsSound clauses l e → IsSound (clauses ++ more) l e
Sound-more clauses more l e sound =
    let same = get_or_append_left clauses more [] (index_of e) sound.within in
    let within = sound.within in
    record {
      within = omega (arith, within, length-append clauses more);
      has = subst (λ clause. Contains clause e.blocker) (sym same) sound.has;
      both = λ t x inside out. sound.both t x (subst (λ clause. Contains clause x) same inside) out;
    }

-- a clause that stands last, and isn't watched
pub Watched-add : (t new : State) (w watching : Watching) (head fresh : ℕ) (marks : List ℕ) (more : List (List Lit)) → IsWatched t w head fresh marks → IsTrail new → watching ≡ record w { pairs = w.pairs ++ None ∷ [] } →
    length more ≤ 1 → new ≡ record t { clauses = t.clauses ++ more } → IsWatched new watching head fresh marks
Watched-add t new w watching head fresh marks more parts valid grown one is =
    let count = length-append t.clauses more in
    let few_read = parts.few_read in
    subst (λ (st : State). IsWatched st watching head fresh marks) (sym is)
    (subst (λ (x : Watching). IsWatched (record t { clauses = t.clauses ++ more }) x head fresh marks) (sym grown) (record {
      valid = subst IsTrail is valid;
      whole = record {
        room = parts.whole.room;
        places = let places = parts.whole.places in omega (arith, places, count, one, length-append {A = Option Pair} w.pairs (None ∷ []));
        within = λ k p e. let lt = parts.whole.within k p (sym (Pair-grown w.pairs k) ∙ e) in omega (arith, lt, count);
        watched = λ k p e.
            let before = sym (Pair-grown w.pairs k) ∙ e in
            subst (λ clause. IsWatch w.lists k clause p) (sym (get_or_append_left t.clauses more [] k (parts.whole.within k p before))) (parts.whole.watched k p before);
        sound = λ l e has. Sound-more t.clauses more l e (parts.whole.sound l e has);
      };
      visited = parts.visited;
      few_read = omega (arith, few_read, count);
      seen = λ k lt.
          subst (IsSeen head t.steps (get_or (t.clauses ++ more) k [])) (sym (Pair-grown w.pairs k))
          (subst (λ clause. IsSeen head t.steps clause (pair_of w.pairs k)) (sym (get_or_append_left t.clauses more [] k (omega (arith, lt, few_read)))) (parts.seen k lt));
      levels = parts.levels;
      few_marked = λ m lt. let few = parts.few_marked m lt in omega (arith, few, count);
      marked = λ m lt k below.
          let few = parts.few_marked m lt in
          subst (IsGuarded (values_of (up_to m t.steps)) (get_or (t.clauses ++ more) k [])) (sym (Pair-grown w.pairs k))
          (subst (λ clause. IsGuarded (values_of (up_to m t.steps)) clause (pair_of w.pairs k)) (sym (get_or_append_left t.clauses more [] k (omega (arith, below, few)))) (parts.marked m lt k below));
    }))

-- no assignments, and no clause is watched
pub Watched-open : (t : State) (w : Watching) (n : ℕ) (marks : List ℕ) → IsTrail t → t.steps ≡ [] → n ≡ length t.clauses → w ≡ record { pairs = replicate n None; lists = replicate (2 * t.vars + 2) [] } → marks ≡ [] → IsWatched t w 0 0 marks
Watched-open t w n marks valid none count is empty =
    subst (λ (ms : List ℕ). IsWatched t w 0 0 ms) (sym empty)
    (subst (λ (x : Watching). IsWatched t x 0 0 []) (sym is) (record {
      valid = valid;
      whole = record {
        room = length-replicate (2 * t.vars + 2) [];
        places = omega (arith, count, length-replicate {A = Option Pair} n None);
        within = λ k p e. absurd (blank k p e);
        watched = λ k p e. absurd (blank k p e);
        sound = λ l e has. absurd (Contains-none e (subst (λ xs. Contains xs e) (no_entries (2 * t.vars + 2) (code_of l)) has));
      };
      visited = omega arith;
      few_read = omega arith;
      seen = λ k lt. absurd (omega (arith, lt));
      levels = sym (ap level_of none);
      few_marked = λ m lt. absurd (omega (arith, lt));
      marked = λ m lt. absurd (omega (arith, lt));
    }))
  where
    no_entries : (n i : ℕ) → get_or {A = List Entry} (replicate n []) i [] ≡ []
    no_entries zero i = refl
    no_entries (suc n) zero = refl
    no_entries (suc n) (suc i) = no_entries n i

    blank : (k : ℕ) (p : Pair) → pair_of (replicate n None) k ≡ Some p → ⊥
    blank k p e = let bad : None ≡ Some p = sym (held-replicate {A = Pair} n k) ∙ e in cc

-- a clause was added, or memory was wanting
pub Watched-added : {E : Type 0} (r : Result ℕ E) (t new : State) (w watching : Watching) (head fresh : ℕ) (marks : List ℕ) (clause : List Lit) → IsWatched t w head fresh marks → IsTrail new → watching ≡ record w { pairs = w.pairs ++ None ∷ [] } →
    OnOk r (new ≡ record t { clauses = t.clauses ++ clause ∷ [] }) → OnErr r (new ≡ t) → IsWatched new watching head fresh marks
Watched-added (Ok n) t new w watching head fresh marks clause parts valid grown ok err = Watched-add t new w watching head fresh marks (clause ∷ []) parts valid grown (omega arith) ok
Watched-added (Err e) t new w watching head fresh marks clause parts valid grown ok err =
    Watched-add t new w watching head fresh marks [] parts valid grown (omega arith) (err ∙ ap (λ (cs : List (List Lit)). record t { clauses = cs }) (sym (append-nil t.clauses)))

-- back at the present level nothing changes
pub Back-same : (t : State) (level : ℕ) → IsTrail t → level_of t.steps ≤ level → t ≡ record t { steps = up_to level t.steps }
Back-same t level valid le =
    let all = All-weaker (λ (s : Step). s.level ≤ level_of t.steps) (λ (s : Step). s.level ≤ level) (λ s h. omega (arith, h, le)) t.steps (levels-below_whole t.vars t.clauses t.steps valid.steps) in
    ap (λ (ss : List Step). record t { steps = ss }) (sym (up_to-all level t.steps all))
