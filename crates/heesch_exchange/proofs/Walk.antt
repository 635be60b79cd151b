-- The text read line by line: what was read, and the fault that ends it.
use Rattle.std.proofs.Common.{◌≡◌, ◌≢◌, ℕ, ◌+◌, ◌-◌, ◌<◌, ◌≤◌, ◌⊎◌, inl, inr, Bool, true, false, List, [], ◌∷◌, ◌++◌, map, length, take, drop, eqb, take_at, take_all, drop_at, replicate, refl, sym, ap, subst, ◌∙◌, append_assoc, length-append, arith}
use Rattle.std.proofs.lemmas.List.{append-nil, length-replicate}
use Rattle.std.proofs.lemmas.Bool.{eqb-true}
use Rattle.heesch_cnf.specs.declared.literal.Lit.{Lit}
use Rattle.heesch_exchange.specs.declared.lines.Place.{Place}
use Rattle.heesch_exchange.specs.declared.lines.Place.TheVariants.{Start, Values, End}
use Rattle.heesch_text.specs.Fields.{spaced, lit_text}
use Rattle.heesch_line.specs.Forms.{IsLiteral, HasNoNewline}
use Rattle.heesch_exchange.specs.Models.{is_comment, answers, status_line, values_line, last_line, joined, ended, text_of, IsModelText, AreOver, IsAssignment, IsModel}
use Rattle.heesch_exchange.specs.Lines.{words_text, Answers, Leads, AreNamed, ReadsLine}
use Rattle.heesch_exchange.specs.Stops.{GoesOn, IsReached, EndsEarly, HasLine, IsOtherLine, IsStrangerLine}
use Rattle.heesch_exchange.proofs.Bytes.{all_append, all_back}
use Rattle.heesch_exchange.proofs.WordLists.{AreLiterals}
use Rattle.heesch_exchange.proofs.Splits.{AreWhole, first_line, no_lines, text_push}
use Rattle.heesch_exchange.proofs.Groups.{AreGroups, joined_append, answer_first}
use Rattle.heesch_exchange.proofs.Progress.{IsBegun, begun_more, leads_form, completes, completed, Follows, follows, values_follow, end_follows}
use Rattle.heesch_exchange.proofs.Naming.{over_front, none_named}

-- what the lines up to the rest gave
pub record HasRead (vars : ℕ) (text : List ℕ) (literals : List Lit) (named : List Bool) (place : Place) (line : ℕ) (rest : List ℕ) : Type 0 where
  pub lines : List (List ℕ)
  pub whole : AreWhole lines
  pub number_is : line ≡ length lines + 1
  pub text_is : text ≡ text_of lines ++ rest
  pub begun : IsBegun place lines literals
  pub form : AreLiterals literals
  pub over : AreOver vars literals
  pub marks : AreNamed literals named
  pub count : length named ≡ vars

pub starts : (vars : ℕ) (text : List ℕ) (named : List Bool) → named ≡ replicate vars false → HasRead vars text [] named Start 1 text
starts vars text named is = record {
  lines = [];
  whole = tt;
  number_is = refl;
  text_is = refl;
  begun = record { answers_are = refl; literals_are = refl };
  form = tt;
  over = tt;
  marks = subst (AreNamed []) (sym is) (none_named vars);
  count = ap length is ∙ length-replicate vars false;
}

-- ---- numbers of lines

long_enough : (lines : List (List ℕ)) → length lines ≤ length (text_of lines)
long_enough [] = omega arith
long_enough (a ∷ lines) =
    let more = long_enough lines in
    let first = length-append (ended a) (text_of lines) in
    let line = length-append a (10 ∷ []) in
    omega arith

pub line_fits : (vars : ℕ) (text : List ℕ) (literals : List Lit) (named : List Bool) (place : Place) (line : ℕ) (rest first after : List ℕ) → HasRead vars text literals named place line rest → rest ≡ first ++ 10 ∷ after → line ≤ length text
line_fits vars text literals named place line rest first after so is =
    let number = so.number_is in
    let long = long_enough so.lines in
    let whole = ap length so.text_is ∙ length-append (text_of so.lines) rest in
    let parts = ap length is ∙ length-append first (10 ∷ after) in
    omega arith

pub shorter : (rest first after : List ℕ) → rest ≡ first ++ 10 ∷ after → length after < length rest
shorter rest first after is =
    let parts = ap length is ∙ length-append first (10 ∷ after) in
    omega arith

-- ---- where the text stands

goes : (vars : ℕ) (text : List ℕ) (literals : List Lit) (named : List Bool) (place : Place) (line : ℕ) (rest : List ℕ) → (so : HasRead vars text literals named place line rest) → GoesOn vars (text_of so.lines)
goes vars text literals named place line rest so =
    let c = completes place so.lines literals so.begun in
    record { more = text_of c.back; literals = literals; text_is = completed so.lines literals so.whole so.form c; over = so.over }

reached : (vars : ℕ) (text : List ℕ) (literals : List Lit) (named : List Bool) (place : Place) (line : ℕ) (rest other : List ℕ) → (so : HasRead vars text literals named place line rest) → rest ≡ other → IsReached vars text line (text_of so.lines) other
reached vars text literals named place line rest other so is = record {
  lines = so.lines;
  whole = so.whole;
  front_is = refl;
  number_is = so.number_is;
  text_is = so.text_is ∙ ap (λ (t : List ℕ). text_of so.lines ++ t) is;
  goes_on = goes vars text literals named place line rest so;
}

line_is : (rest first after : List ℕ) → rest ≡ first ++ 10 ∷ after → rest ≡ ended first ++ after
line_is rest first after is = is ∙ sym (append_assoc first (10 ∷ []) after)

has_line : (vars : ℕ) (text : List ℕ) (literals : List Lit) (named : List Bool) (place : Place) (line : ℕ) (rest first after : List ℕ) → (so : HasRead vars text literals named place line rest) → rest ≡ first ++ 10 ∷ after → HasNoNewline first → HasLine vars text line (text_of so.lines) first
has_line vars text literals named place line rest first after so is free = record { rest = after; reached = reached vars text literals named place line rest (ended first ++ after) so (line_is rest first after is); whole = free }

-- ---- one line more

pub goes_on : (vars : ℕ) (text : List ℕ) (literals new : List Lit) (named marked : List Bool) (place next : Place) (line : ℕ) (rest first after : List ℕ) → HasRead vars text literals named place line rest → rest ≡ first ++ 10 ∷ after → HasNoNewline first → Leads place first new next
    → AreNamed (literals ++ new) marked → AreOver vars (literals ++ new) → length marked ≡ vars → HasRead vars text (literals ++ new) marked next (line + 1) after
goes_on vars text literals new named marked place next line rest first after so is free leads marks over count =
    let number = so.number_is in
    let longer = length-append so.lines (first ∷ []) in
    let text_whole : text ≡ text_of (so.lines ++ first ∷ []) ++ after = so.text_is ∙ ap (λ (t : List ℕ). text_of so.lines ++ t) (line_is rest first after is) ∙ sym (append_assoc (text_of so.lines) (ended first) after) ∙ ap (λ (t : List ℕ). t ++ after) (sym (text_push so.lines first)) in
    record {
      lines = so.lines ++ first ∷ [];
      whole = all_append HasNoNewline so.lines (first ∷ []) so.whole (free, tt);
      number_is = omega arith;
      text_is = text_whole;
      begun = begun_more place next so.lines literals new first leads so.begun;
      form = all_append IsLiteral literals new so.form (leads_form place next new first leads);
      over = over;
      marks = marks;
      count = count;
    }

-- ---- a line that can't stand there

no_start : (line : List ℕ) (back rest : List (List ℕ)) (none : List (List ℕ)) → none ≡ [] → none ++ line ∷ back ≡ status_line ∷ rest → line ≡ status_line
no_start line back rest [] h e = cc
no_start line back rest (x ∷ none) h e = absurd cc

-- the first line behind lines of literals
first_behind : (line : List ℕ) (others : List (List ℕ)) (groups : List (List Lit)) (last : List Lit) → AreGroups groups → AreLiterals last → line ∷ others ≡ map values_line groups ++ last_line last ∷ [] → ((literals : List Lit) (next : Place) → ¬ (Answers Values line literals next)) → ⊥
first_behind line others [] last form fits e none =
    let is : line ≡ last_line last = cc in
    none last End (words_text last true, true, is, record { words_are = refl; form = fits }, refl)
first_behind line others (h ∷ groups) last form fits e none =
    let is : line ≡ values_line h = cc in
    none h Values (spaced lit_text h, false, is, record { words_are = sym (append-nil (spaced lit_text h)); form = form.0 }, refl)

none_behind : (place : Place) (lines : List (List ℕ)) (line more : List ℕ) (literals others : List Lit) → AreLiterals literals → IsBegun place lines literals → (f : Follows lines more others) → (back : List (List ℕ)) → answers f.back ≡ line ∷ back
    → ((new : List Lit) (next : Place) → ¬ (Answers place line new next)) → ⊥
none_behind Start lines line more literals others form b f back is none =
    let both : answers lines ++ line ∷ back ≡ status_line ∷ (map values_line f.groups ++ last_line f.last ∷ []) = ap (λ (t : List (List ℕ)). answers lines ++ t) (sym is) ∙ f.answers_are in
    none [] Values (no_start line back _ (answers lines) b.answers_are both, refl, refl)
none_behind Values lines line more literals others form b f back is none =
    let rest = values_follow lines more literals others form b f in
    let all = subst AreGroups rest.groups_are f.group_form in
    first_behind line back rest.back f.last (all_back AreLiterals b.groups rest.back all) f.last_form (sym is ∙ rest.rest_is) none
none_behind End lines line more literals others form b f back is none =
    let ends = end_follows lines more literals others form b f in
    let both : line ∷ back ≡ [] = sym is ∙ ends.none in
    absurd cc

other_line : (place : Place) (lines : List (List ℕ)) (line more : List ℕ) (literals others : List Lit) (comment : Bool) → is_comment line ≡ comment → AreWhole lines → HasNoNewline line → AreLiterals literals → IsBegun place lines literals
    → ((new : List Lit) (next : Place) → ¬ (Leads place line new next)) → IsModelText (text_of lines ++ (ended line ++ more)) others → ⊥
other_line place lines line more literals others true h whole free form b none m = none [] place (inl (h, refl, refl))
other_line place lines line more literals others false h whole free form b none m =
    let f = follows lines (ended line ++ more) others whole m in
    let first = first_line line more f.back free f.whole f.more_is in
    let is : answers f.back ≡ line ∷ answers first.back = ap answers first.lines_are ∙ answer_first line first.back h in
    none_behind place lines line (ended line ++ more) literals others form b f (answers first.back) is (λ new next a. none new next (inr (h, a)))

pub other : (vars : ℕ) (text : List ℕ) (literals : List Lit) (named : List Bool) (place : Place) (line : ℕ) (rest first after : List ℕ) → HasRead vars text literals named place line rest → rest ≡ first ++ 10 ∷ after → HasNoNewline first
    → ((new : List Lit) (next : Place) → ¬ (Leads place first new next)) → IsOtherLine vars text line
other vars text literals named place line rest first after so is free none = record {
  front = text_of so.lines;
  line = first;
  has_line = has_line vars text literals named place line rest first after so is free;
  other = λ may.
      let regroup = append_assoc (text_of so.lines) (ended first) may.more in
      other_line place so.lines first may.more literals may.literals (is_comment first) refl so.whole free so.form so.begun none (subst (λ (t : List ℕ). IsModelText t may.literals) regroup may.text_is);
}

-- ---- a stranger

-- the literals of a model text go on from those of its first lines
pub record GoOn (literals others : List Lit) : Type 0 where
  pub back : List Lit
  pub is : others ≡ literals ++ back

go_on : (place : Place) (lines : List (List ℕ)) (more : List ℕ) (literals others : List Lit) → AreLiterals literals → IsBegun place lines literals → Follows lines more others → GoOn literals others
go_on Start lines more literals others form b f = record { back = others; is = ap (λ (t : List Lit). t ++ others) (sym b.literals_are) }
go_on Values lines more literals others form b f =
    let rest = values_follow lines more literals others form b f in
    record {
      back = joined rest.back ++ f.last;
      is = f.literals_are ∙ ap (λ (t : List (List Lit)). joined t ++ f.last) rest.groups_are ∙ ap (λ (t : List Lit). t ++ f.last) (joined_append b.groups rest.back) ∙ append_assoc (joined b.groups) (joined rest.back) f.last ∙ ap (λ (t : List Lit). t ++ (joined rest.back ++ f.last)) (sym b.literals_are);
    }
go_on End lines more literals others form b f =
    let ends = end_follows lines more literals others form b f in
    record { back = []; is = ends.same ∙ sym (append-nil literals) }

pub stranger : (vars : ℕ) (text : List ℕ) (literals new : List Lit) (named : List Bool) (place next : Place) (line : ℕ) (rest first after : List ℕ) → HasRead vars text literals named place line rest → rest ≡ first ++ 10 ∷ after → HasNoNewline first → Leads place first new next
    → ¬ (AreOver vars (literals ++ new)) → IsStrangerLine vars text line
stranger vars text literals new named place next line rest first after so is free leads not_over =
    let lines = so.lines ++ first ∷ [] in
    let whole = all_append HasNoNewline so.lines (first ∷ []) so.whole (free, tt) in
    let form = all_append IsLiteral literals new so.form (leads_form place next new first leads) in
    let begun = begun_more place next so.lines literals new first leads so.begun in
    let c = completes next lines (literals ++ new) begun in
    let front = text_push so.lines first in
    record {
      front = text_of so.lines;
      line = first;
      has_line = has_line vars text literals named place line rest first after so is free;
      in_form = record { more = text_of c.back; literals = literals ++ new; text_is = subst (λ (t : List ℕ). IsModelText (t ++ text_of c.back) (literals ++ new)) front (completed lines (literals ++ new) whole form c) };
      stranger = λ goes.
          let model = subst (λ (t : List ℕ). IsModelText (t ++ goes.more) goes.literals) (sym front) goes.text_is in
          let more = go_on next lines goes.more (literals ++ new) goes.literals form begun (follows lines goes.more goes.literals whole model) in
          not_over (over_front vars (literals ++ new) more.back (subst (AreOver vars) more.is goes.over));
    }

-- ---- the end of the text

some_answers : (groups : List (List Lit)) (last : List Lit) → [] ≢ map values_line groups ++ last_line last ∷ []
some_answers [] last e = absurd cc
some_answers (g ∷ groups) last e = absurd cc

no_end : (place : Place) (lines : List (List ℕ)) (more : List ℕ) (literals others : List Lit) → AreLiterals literals → IsBegun place lines literals → place ≢ End → (f : Follows lines more others) → f.back ≡ [] → ⊥
no_end Start lines more literals others form b early f none =
    let both : [] ≡ status_line ∷ (map values_line f.groups ++ last_line f.last ∷ []) = sym (ap (λ (t : List (List ℕ)). answers lines ++ answers t) none ∙ ap (λ (t : List (List ℕ)). t ++ []) b.answers_are) ∙ f.answers_are in
    absurd cc
no_end Values lines more literals others form b early f none =
    let rest = values_follow lines more literals others form b f in
    some_answers rest.back f.last (sym (ap answers none) ∙ rest.rest_is)
no_end End lines more literals others form b early f none = early refl

pub early : (vars : ℕ) (text : List ℕ) (literals : List Lit) (named : List Bool) (place : Place) (line : ℕ) (rest : List ℕ) → HasRead vars text literals named place line rest → HasNoNewline rest → (rest ≢ []) ⊎ (place ≢ End) → EndsEarly vars text line
early vars text literals named place line rest so free why = record {
  front = text_of so.lines;
  rest = rest;
  reached = reached vars text literals named place line rest rest so refl;
  unended = free;
  other = λ others m.
      let model = subst (λ (t : List ℕ). IsModelText t others) so.text_is m in
      let f = follows so.lines rest others so.whole model in
      let none = no_lines rest f.back free f.more_is in
      elim why [
        | inl some ↦ some none.0
        | inr place_early ↦ no_end place so.lines rest literals others so.form so.begun place_early f none.1
      ];
}

pub ends : (vars : ℕ) (text : List ℕ) (literals : List Lit) (named : List Bool) (place : Place) (line : ℕ) (rest : List ℕ) (values : List Bool) → HasRead vars text literals named place line rest → rest ≡ [] → place ≡ End → IsAssignment vars literals values → IsModel vars text values
ends vars text literals named place line rest values so none at_end assigned =
    let begun = subst (λ (p : Place). IsBegun p so.lines literals) at_end so.begun in
    record {
      literals = literals;
      text_is = record { lines = so.lines; whole = so.whole; text_is = so.text_is ∙ ap (λ (t : List ℕ). text_of so.lines ++ t) none ∙ append-nil (text_of so.lines); answer = begun; form = so.form };
      over = so.over;
      values_are = assigned;
    }

-- ---- the literals of a line among those that were read

behind_old : (old new now whole : List Lit) (n : ℕ) → n ≡ length old → whole ≡ now → now ≡ old ++ new → drop n whole ≡ new
behind_old old new now whole n count same appended = ap (λ (k : ℕ). drop k whole) count ∙ ap (λ (t : List Lit). drop (length old) t) (same ∙ appended) ∙ drop_at old new (length old) refl

-- the items from this index on, as a range to the end gives them
abbrev pub from_index : ℕ → List Lit → List Lit
from_index n whole = take (length whole - n) (drop n whole)

new_is : (old new now whole : List Lit) (n : ℕ) → n ≡ length old → whole ≡ now → now ≡ old ++ new → from_index n whole ≡ new
new_is old new now whole n count same appended =
    let size = ap length (same ∙ appended) ∙ length-append old new in
    let enough : length new ≤ length whole - n = omega arith in
    ap (λ (t : List Lit). take (length whole - n) t) (behind_old old new now whole n count same appended) ∙ take_all (length whole - n) new enough

-- what naming them answers where it goes well
abbrev pub NamesAll : List Bool → List Bool → List Lit → Type 0
NamesAll named marked new = (before : List Lit) → AreNamed before named → AreOver (length named) before → AreNamed (before ++ new) marked × AreOver (length named) (before ++ new)

-- and where it doesn't
abbrev pub NamesNot : List Bool → List Lit → Type 0
NamesNot named new = (before : List Lit) → AreNamed before named → AreOver (length named) before → AreOver (length named) (before ++ new) → ⊥

pub goes_on_named : (vars : ℕ) (text : List ℕ) (literals now whole : List Lit) (named same_named marked back : List Bool) (place next : Place) (line : ℕ) (rest first after : List ℕ) (n len : ℕ) → HasRead vars text literals named place line rest → (rest ≡ first ++ 10 ∷ after) × HasNoNewline first
    → ReadsLine place first literals now next → n ≡ length literals → whole ≡ now → same_named ≡ named → NamesAll same_named marked (from_index n whole) → length marked ≡ length same_named → length same_named ≡ len
    → HasRead vars text now (take len (marked ++ back)) next (line + 1) after
goes_on_named vars text literals now whole named same_named marked back place next line rest first after n len so cut reads count same named_is names kept size =
    let new = new_is literals reads.literals now whole n count same reads.appended in
    let marks = subst (λ (t : List Bool). AreNamed literals t) (sym named_is) so.marks in
    let vars_are : length same_named ≡ vars = ap length named_is ∙ so.count in
    let over = subst (λ (k : ℕ). AreOver k literals) (sym vars_are) so.over in
    let answer = names literals marks over in
    let marked_new = subst (λ (t : List Lit). AreNamed (literals ++ t) marked) new answer.0 in
    let over_new = subst (λ (t : List Lit). AreOver (length same_named) (literals ++ t)) new answer.1 in
    let over_vars = subst (λ (k : ℕ). AreOver k (literals ++ reads.literals)) vars_are over_new in
    let front : take len (marked ++ back) ≡ marked = ap (λ (k : ℕ). take k (marked ++ back)) (sym (kept ∙ size)) ∙ take_at marked back (length marked) refl in
    let made = goes_on vars text literals reads.literals named marked place next line rest first after so cut.0 cut.1 reads.leads marked_new over_vars (kept ∙ vars_are) in
    let all = subst (λ (t : List Lit). HasRead vars text t marked next (line + 1) after) (sym reads.appended) made in
    subst (λ (t : List Bool). HasRead vars text now t next (line + 1) after) (sym front) all

pub stranger_named : (vars : ℕ) (text : List ℕ) (literals now whole : List Lit) (named same_named : List Bool) (place next : Place) (line : ℕ) (rest first after : List ℕ) (n : ℕ) → HasRead vars text literals named place line rest → (rest ≡ first ++ 10 ∷ after) × HasNoNewline first
    → ReadsLine place first literals now next → n ≡ length literals → whole ≡ now → same_named ≡ named → NamesNot same_named (from_index n whole) → IsStrangerLine vars text line
stranger_named vars text literals now whole named same_named place next line rest first after n so cut reads count same named_is names =
    let new = new_is literals reads.literals now whole n count same reads.appended in
    let marks = subst (λ (t : List Bool). AreNamed literals t) (sym named_is) so.marks in
    let vars_are : length same_named ≡ vars = ap length named_is ∙ so.count in
    let over = subst (λ (k : ℕ). AreOver k literals) (sym vars_are) so.over in
    let stale : AreOver vars (literals ++ reads.literals) → ⊥ = λ bad.
    let back = subst (λ (k : ℕ). AreOver k (literals ++ reads.literals)) (sym vars_are) bad in
    names literals marks over (subst (λ (t : List Lit). AreOver (length same_named) (literals ++ t)) (sym new) back) in
    stranger vars text literals reads.literals named place next line rest first after so cut.0 cut.1 reads.leads stale

-- what the test for no bytes says
pub no_bytes : (bytes : List ℕ) → true ≡ eqb (length bytes) 0 → bytes ≡ []
no_bytes [] e = refl
no_bytes (b ∷ bytes) e = absurd (let size : length (b ∷ bytes) ≡ 0 = eqb-true _ _ (sym e) in omega arith)

-- a place with further answers is not the last one
pub is_early : (place : Place) → (place ≡ Start) ⊎ (place ≡ Values) → place ≢ End
is_early place (inl is) e = let both : Start ≡ End = sym is ∙ e in cc
is_early place (inr is) e = let both : Values ≡ End = sym is ∙ e in cc
