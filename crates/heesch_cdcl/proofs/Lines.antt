use Rattle.std.proofs.Common.{◌≡◌, ◌≢◌, ℕ, ◌-◌, ◌<◌, List, [], ◌∷◌, ◌++◌, length, get_or, take, map, sym, ap, ◌∙◌, subst, inl, inr, refl, arith, append_assoc, length-append}
use Rattle.std.specs.List.{Contains}
use Rattle.std.proofs.lemmas.Bool.{cases_lt}
use Rattle.std.proofs.lemmas.List.{take-append-le, take_at, get_or_append_left, get_or_at, map-append, length-map}
use Rattle.std.proofs.lemmas.List.Elements.{All-push}
use Rattle.heesch_cnf.specs.declared.literal.Lit.{Lit}
use Rattle.heesch_cnf.specs.declared.log.Line.{Line}
use Rattle.heesch_cnf.specs.declared.log.Line.TheVariants.{Learn, Given}
use Rattle.heesch_cnf.specs.Clauses.{IsClause, IsNew}
use Rattle.heesch_cnf.specs.Lines.{clauses_with, clause_of, LineHolds}
use Rattle.heesch_cnf.proofs.Lists.{Contains-none}
use Rattle.heesch_trail.specs.Fixpoint.{IsSettled, IsFixpoint}
use Rattle.heesch_trail.specs.State.{State, IsTrail, values_of, level_of, up_to}
use Rattle.heesch_cdcl.specs.declared.analysis.Learnt.{Learnt}
use Rattle.heesch_cdcl.specs.Search.{LowerFixpoints, SameClauses}
use Rattle.heesch_cnf.specs.Meaning.{IsLearn}
use Rattle.heesch_cdcl.specs.Learning.{IsLearnt, IsNext, LearnsOne, LearnsMore}
use Rattle.heesch_cdcl.specs.Searching.{IsSearching, Searches, SameFormula, formula_in, NoFinal}
use Rattle.heesch_cdcl.proofs.Newness.{learnt_is_new, no_final}
use Rattle.heesch_cdcl.proofs.Lower.{Lower-back, Lower-add, up_to-up_to}

-- the formula is what the lines continue
pub formula_is : (vars : ℕ) (clauses : List (List Lit)) (lines : List Line) (trail : State) → IsSearching vars clauses lines trail → formula_in trail.clauses lines ≡ clauses
formula_is vars clauses lines trail s =
    let short : length clauses ≡ length trail.clauses - length lines = omega (arith, ap length s.same_clauses, length-append clauses (map clause_of lines), length-map lines clause_of) in
    ap (take (length trail.clauses - length lines)) s.same_clauses ∙ take_at clauses (map clause_of lines) (length trail.clauses - length lines) short

pub Searches-own : (vars : ℕ) (clauses : List (List Lit)) (lines : List Line) (trail : State) → IsSearching vars clauses lines trail → Searches lines trail
Searches-own vars clauses lines trail s =
    subst (λ cs. IsSearching trail.vars cs lines trail) (sym (formula_is vars clauses lines trail s)) (subst (λ v. IsSearching v clauses lines trail) (sym s.same_vars) s)

-- the search goes on with other assignments
pub Searching-moves : (vars : ℕ) (clauses : List (List Lit)) (lines : List Line) (old new : State) → IsSearching vars clauses lines old → SameClauses old new → IsTrail new → LowerFixpoints new → IsSearching vars clauses lines new
Searching-moves vars clauses lines old new s same valid lower =
    record { form = s.form; valid = valid; same_vars = same.vars ∙ s.same_vars; same_clauses = same.clauses ∙ s.same_clauses; lower = lower; hold = s.hold; fresh = s.fresh }

pub Searches-moves : (lines : List Line) (old new : State) → Searches lines old → SameClauses old new → IsTrail new → LowerFixpoints new → Searches lines new
Searches-moves lines old new s same valid lower = Searches-own old.vars (formula_in old.clauses lines) lines new (Searching-moves old.vars (formula_in old.clauses lines) lines old new s same valid lower)

-- with the same clauses the formula is the same
pub Formula-moves : (first : List Line) (begin : State) (lines : List Line) (old new : State) → SameFormula first begin lines old → SameClauses old new → SameFormula first begin lines new
Formula-moves first begin lines old new f same = record { vars = same.vars ∙ f.vars; clauses = ap (λ cs. formula_in cs lines) same.clauses ∙ f.clauses }

pub Formula-own : (old_lines : List Line) (old : State) (lines : List Line) (new : State) → IsSearching old.vars (formula_in old.clauses old_lines) lines new → SameFormula old_lines old lines new
Formula-own old_lines old lines new s = record { vars = s.same_vars; clauses = formula_is old.vars (formula_in old.clauses old_lines) lines new s }

pub Formula-on : (first mid last : List Line) (begin middle end : State) → SameFormula first begin mid middle → SameFormula mid middle last end → SameFormula first begin last end
Formula-on first mid last begin middle end one other = record { vars = other.vars ∙ one.vars; clauses = other.clauses ∙ one.clauses }

pub Lower-zero : (new : State) → level_of new.steps ≡ 0 → LowerFixpoints new
Lower-zero new zero j below = absurd (omega arith)

pub NoFinal-fixpoint : (trail : State) → IsFixpoint (values_of trail.steps) trail.clauses → NoFinal trail.clauses
NoFinal-fixpoint trail fixpoint hints final = no_final (values_of trail.steps) trail.clauses hints fixpoint final

clauses_with-push : (clauses : List (List Lit)) (lines : List Line) (line : Line) → clauses_with clauses (lines ++ line ∷ []) ≡ clauses_with clauses lines ++ clause_of line ∷ []
clauses_with-push clauses lines line = ap (λ cs. clauses ++ cs) (map-append clause_of lines (line ∷ [])) ∙ sym (append_assoc clauses (map clause_of lines) (clause_of line ∷ []))

-- what holds of each line after those before it holds with one line more
lines-push : (P : List (List Lit) → Line → Type 0) (clauses : List (List Lit)) (lines : List Line) (line : Line) →
    ((i : ℕ) (d : Line) → i < length lines → P (clauses_with clauses (take i lines)) (get_or lines i d)) → P (clauses_with clauses lines) line →
    (i : ℕ) (d : Line) → i < length (lines ++ line ∷ []) → P (clauses_with clauses (take i (lines ++ line ∷ []))) (get_or (lines ++ line ∷ []) i d)
lines-push P clauses lines line before here i d lt = elim (cases_lt i (length lines)) [
  | inl less ↦
      subst (λ ls. P (clauses_with clauses ls) (get_or (lines ++ line ∷ []) i d)) (sym (take-append-le i lines (line ∷ []) (omega arith)))
      (subst (P (clauses_with clauses (take i lines))) (sym (get_or_append_left lines (line ∷ []) d i less)) (before i d less))
  | inr past ↦
      let at : length lines ≡ i = omega (arith, lt, length-append lines (line ∷ [])) in
      subst (λ ls. P (clauses_with clauses ls) (get_or (lines ++ line ∷ []) i d)) (sym (take_at lines (line ∷ []) i at))
      (subst (P (clauses_with clauses lines)) (sym (get_or_at lines line [] d i at)) here)
]

-- the clause of a line that holds
pub clause_form : (vars : ℕ) (clauses : List (List Lit)) (line : Line) → LineHolds vars clauses line → IsClause vars (clause_of line)
clause_form vars clauses (Learn clause hints) holds = holds.1.0
clause_form vars clauses (Given clause) holds = holds

-- what was learnt is a line to go on with
pub Next-learnt : (trail : State) (learnt : Learnt) → LowerFixpoints trail → IsLearnt trail learnt → IsNext trail (Learn learnt.clause learnt.hints) learnt.back
Next-learnt trail learnt lower l =
    let below = l.back_below in
    let fixpoint = lower (level_of trail.steps - 1) (omega arith) in
    let some : learnt.clause ≢ [] = λ e. Contains-none l.top (subst (λ ls. Contains ls l.top) e l.asserting.has_top) in
    record {
      holds = (some, (l.form, l.shown));
      fresh = learnt_is_new (values_of (up_to (level_of trail.steps - 1) trail.steps)) trail.clauses learnt.clause l.top fixpoint l.asserting;
      back = omega (arith, below);
      settled = l.settled;
    }

-- the search goes on with one line more
pub Searching-adds : (vars : ℕ) (clauses : List (List Lit)) (lines : List Line) (old mid new : State) (line : Line) (level : ℕ) (c : List Lit) → IsSearching vars clauses lines old → IsNext old line level → c ≡ clause_of line →
    mid ≡ record old { clauses = old.clauses ++ c ∷ [] } → new ≡ record mid { steps = up_to level mid.steps } → level_of new.steps ≡ level → IsTrail new →
    IsSearching vars clauses (lines ++ line ∷ []) new
Searching-adds vars clauses lines old mid new line level c s next same add back at valid =
    let low : State = record old { steps = up_to level old.steps } in
    let steps : new.steps ≡ up_to level old.steps = ap (λ (t : State). t.steps) back ∙ ap (λ (t : State). up_to level t.steps) add in
    let is : new ≡ record low { clauses = low.clauses ++ clause_of line ∷ [] } =
    back ∙ ap (λ (t : State). record t { steps = up_to level t.steps }) add ∙ ap (λ (cl : List Lit). record low { clauses = old.clauses ++ cl ∷ [] }) same in
    let low_level : level_of low.steps ≡ level = sym (ap level_of steps) ∙ at in
    let lower_low = Lower-back old low level next.back refl low_level s.lower in
    let settled : (j : ℕ) → j < level_of low.steps → IsSettled (values_of (up_to j low.steps)) (clause_of line) =
    λ j lt. subst (λ ss. IsSettled (values_of ss) (clause_of line)) (sym (up_to-up_to j level old.steps (omega (arith, lt, low_level)))) (next.settled j (omega (arith, lt, low_level))) in
    let holds = subst (λ cs. LineHolds vars cs line) s.same_clauses (subst (λ v. LineHolds v old.clauses line) s.same_vars next.holds) in
    let hold = lines-push (LineHolds vars) clauses lines line (λ i d lt. s.hold i lt d) holds in
    record {
      form = s.form;
      valid = valid;
      same_vars = ap (λ (t : State). t.vars) is ∙ s.same_vars;
      same_clauses = ap (λ (t : State). t.clauses) is ∙ ap (λ cs. cs ++ clause_of line ∷ []) s.same_clauses ∙ sym (clauses_with-push clauses lines line);
      lower = Lower-add low new (clause_of line) is settled lower_low;
      hold = λ i lt d. hold i d lt;
      fresh = lines-push (λ cs x. IsNew cs (clause_of x)) clauses lines line s.fresh (subst (λ cs. IsNew cs (clause_of line)) s.same_clauses next.fresh);
    }

-- what `pop` leaves after a push
pub pop-push : {X : Type 0} (before pushed left : List X) (x : X) → pushed ≡ before ++ x ∷ [] → left ≡ take (length pushed - 1) pushed → left ≡ before
pop-push before pushed left x push pop =
    let short : length before ≡ length pushed - 1 = omega (arith, ap length push, length-append before (x ∷ [])) in
    pop ∙ ap (take (length pushed - 1)) push ∙ take_at before (x ∷ []) (length pushed - 1) short

pub LearnsMore-one : (first old new : List Line) → LearnsMore first old → LearnsOne old new → LearnsMore first new
LearnsMore-one first old new more one =
    (more.0 ++ one.0 ∷ [], (one.1.0 ∙ ap (λ ls. ls ++ one.0 ∷ []) more.1.0 ∙ append_assoc first more.0 (one.0 ∷ []), All-push IsLearn more.0 one.0 more.1.1 one.1.1))
