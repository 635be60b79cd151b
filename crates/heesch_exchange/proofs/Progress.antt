-- What the lines that were read say: where they stand, and with what they may go on.
use Rattle.std.proofs.Common.{◌≡◌, ◌≢◌, ℕ, inl, inr, Bool, true, false, not, ◌&&◌, eqb, List, [], ◌∷◌, ◌++◌, map, refl, sym, ap, subst, ◌∙◌, append_assoc, arith}
use Rattle.std.proofs.lemmas.Bool.Decides.{nat_tests}
use Rattle.std.proofs.lemmas.List.{append-nil}
use Rattle.heesch_cnf.specs.declared.literal.Lit.{Lit}
use Rattle.heesch_exchange.specs.declared.lines.Place.{Place}
use Rattle.heesch_exchange.specs.declared.lines.Place.TheVariants.{Start, Values, End}
use Rattle.heesch_text.specs.Fields.{spaced, lit_text}
use Rattle.heesch_line.specs.Forms.{IsLiteral, HasNoNewline}
use Rattle.heesch_exchange.specs.Models.{is_comment, answers, status_line, values_line, last_line, joined, text_of, AreAnswers, IsModelText}
use Rattle.heesch_exchange.specs.Lines.{words_text, AreWords, place_after, Answers, Leads}
use Rattle.heesch_exchange.proofs.Bytes.{all_append, all_front, all_back}
use Rattle.heesch_exchange.proofs.WordLists.{AreLiterals}
use Rattle.heesch_exchange.proofs.Splits.{AreWhole, begins, text_append}
use Rattle.heesch_exchange.proofs.Groups.{AreGroups, groups_form, values_not_last, last_same, RestOf, rest_of, joined_append, map_push, answers_append, answer_first, comment_first}

-- the lines have the status, and some lines of literals
pub record HasValues (lines : List (List ℕ)) (literals : List Lit) : Type 0 where
  pub groups : List (List Lit)
  pub answers_are : answers lines ≡ status_line ∷ map values_line groups
  pub literals_are : literals ≡ joined groups

-- the lines have no answer
pub record HasNone (lines : List (List ℕ)) (literals : List Lit) : Type 0 where
  pub answers_are : answers lines ≡ []
  pub literals_are : literals ≡ []

-- behind these lines, with these literals, an answer stands at this place
abbrev pub IsBegun : Place → List (List ℕ) → List Lit → Type 0
IsBegun Start lines literals = HasNone lines literals
IsBegun Values lines literals = HasValues lines literals
IsBegun End lines literals = AreAnswers lines literals

-- ---- one line more

one_answer : (lines : List (List ℕ)) (line : List ℕ) → is_comment line ≡ false → answers (lines ++ line ∷ []) ≡ answers lines ++ line ∷ []
one_answer lines line h = answers_append lines (line ∷ []) ∙ ap (λ (t : List (List ℕ)). answers lines ++ t) (answer_first line [] h)

no_answer : (lines : List (List ℕ)) (line : List ℕ) → is_comment line ≡ true → answers (lines ++ line ∷ []) ≡ answers lines
no_answer lines line h = answers_append lines (line ∷ []) ∙ ap (λ (t : List (List ℕ)). answers lines ++ t) (comment_first line [] h) ∙ append-nil (answers lines)

begun_comment : (place : Place) (lines : List (List ℕ)) (literals : List Lit) (line : List ℕ) → is_comment line ≡ true → IsBegun place lines literals → IsBegun place (lines ++ line ∷ []) (literals ++ [])
begun_comment Start lines literals line h b = record { answers_are = no_answer lines line h ∙ b.answers_are; literals_are = append-nil literals ∙ b.literals_are }
begun_comment Values lines literals line h b = record { groups = b.groups; answers_are = no_answer lines line h ∙ b.answers_are; literals_are = append-nil literals ∙ b.literals_are }
begun_comment End lines literals line h b = record { groups = b.groups; last = b.last; answers_are = no_answer lines line h ∙ b.answers_are; literals_are = append-nil literals ∙ b.literals_are }

-- a line of literals
words_line : (words : List ℕ) (new : List Lit) → words ≡ words_text new false → 118 ∷ words ≡ values_line new
words_line words new e = ap (λ (t : List ℕ). 118 ∷ t) (e ∙ append-nil (spaced lit_text new))

begun_values : (lines : List (List ℕ)) (literals new : List Lit) (line words : List ℕ) (last : Bool) → is_comment line ≡ false → line ≡ 118 ∷ words → AreWords words new last → HasValues lines literals → IsBegun (place_after last) (lines ++ line ∷ []) (literals ++ new)
begun_values lines literals new line words false h is are b =
    let line_is : line ≡ values_line new = is ∙ words_line words new are.words_are in
    record {
      groups = b.groups ++ new ∷ [];
      answers_are = one_answer lines line h ∙ ap (λ (t : List (List ℕ)). t ++ line ∷ []) b.answers_are ∙ ap (λ (t : List ℕ). status_line ∷ (map values_line b.groups ++ t ∷ [])) line_is ∙ ap (λ (t : List (List ℕ)). status_line ∷ t) (sym (map_push b.groups new));
      literals_are = ap (λ (t : List Lit). t ++ new) b.literals_are ∙ ap (λ (t : List Lit). joined b.groups ++ t) (sym (append-nil new)) ∙ sym (joined_append b.groups (new ∷ []));
    }
begun_values lines literals new line words true h is are b =
    let line_is : line ≡ last_line new = is ∙ ap (λ (t : List ℕ). 118 ∷ t) are.words_are in
    record {
      groups = b.groups;
      last = new;
      answers_are = one_answer lines line h ∙ ap (λ (t : List (List ℕ)). t ++ line ∷ []) b.answers_are ∙ ap (λ (t : List ℕ). status_line ∷ (map values_line b.groups ++ t ∷ [])) line_is;
      literals_are = ap (λ (t : List Lit). t ++ new) b.literals_are;
    }

begun_answer : (place next : Place) (lines : List (List ℕ)) (literals new : List Lit) (line : List ℕ) → is_comment line ≡ false → Answers place line new next → IsBegun place lines literals → IsBegun next (lines ++ line ∷ []) (literals ++ new)
begun_answer Start next lines literals new line h a b =
    let made : HasValues (lines ++ line ∷ []) (literals ++ new) = record {
      groups = [];
      answers_are = one_answer lines line h ∙ ap (λ (t : List (List ℕ)). t ++ line ∷ []) b.answers_are ∙ ap (λ (t : List ℕ). t ∷ []) a.0;
      literals_are = ap (λ (t : List Lit). t ++ new) b.literals_are ∙ a.1;
    } in
    subst (λ (p : Place). IsBegun p (lines ++ line ∷ []) (literals ++ new)) (sym a.2) made
begun_answer Values next lines literals new line h (words, last, is, are, place_is) b =
    subst (λ (p : Place). IsBegun p (lines ++ line ∷ []) (literals ++ new)) (sym place_is) (begun_values lines literals new line words last h is are b)
begun_answer End next lines literals new line h a b = absurd a

pub begun_more : (place next : Place) (lines : List (List ℕ)) (literals new : List Lit) (line : List ℕ) → Leads place line new next → IsBegun place lines literals → IsBegun next (lines ++ line ∷ []) (literals ++ new)
begun_more place next lines literals new line (inl (h, none, same)) b =
    let made = begun_comment place lines literals line h b in
    let at_place = subst (λ (t : List Lit). IsBegun place (lines ++ line ∷ []) (literals ++ t)) (sym none) made in
    subst (λ (p : Place). IsBegun p (lines ++ line ∷ []) (literals ++ new)) (sym same) at_place
begun_more place next lines literals new line (inr (h, a)) b = begun_answer place next lines literals new line h a b

answer_form : (place next : Place) (new : List Lit) (line : List ℕ) → Answers place line new next → AreLiterals new
answer_form Start next new line a = subst AreLiterals (sym a.1) tt
answer_form Values next new line (words, last, is, are, place_is) = are.form
answer_form End next new line a = absurd a

pub leads_form : (place next : Place) (new : List Lit) (line : List ℕ) → Leads place line new next → AreLiterals new
leads_form place next new line (inl (h, none, same)) = subst AreLiterals (sym none) tt
leads_form place next new line (inr (h, a)) = answer_form place next new line a

-- ---- what completes the lines

-- lines that complete the ones that were read
pub record Completes (lines : List (List ℕ)) (literals : List Lit) : Type 0 where
  pub back : List (List ℕ)
  pub whole : AreWhole back
  pub answer : AreAnswers (lines ++ back) literals

free : List ℕ → Bool
free [] = true
free (b ∷ bytes) = not (eqb b 10) && free bytes

test_parts : (a b : Bool) → (a && b) ≡ true → (a ≡ true) × (b ≡ true)
test_parts true b h = (refl, h)
test_parts false b h = absurd cc

other : (b : ℕ) → not (eqb b 10) ≡ true → b ≢ 10
other b h e = absurd (grind (arith, nat_tests))

from_test : (bytes : List ℕ) → free bytes ≡ true → HasNoNewline bytes
unfolding free
from_test [] h = tt
from_test (b ∷ bytes) h =
    let parts = test_parts (not (eqb b 10)) (free bytes) h in
    (other b parts.0, from_test bytes parts.1)

last_whole : HasNoNewline (last_line [])
unfolding free
last_whole = from_test (last_line []) refl

status_whole : HasNoNewline status_line
unfolding free
status_whole = from_test status_line refl

pub completes : (place : Place) (lines : List (List ℕ)) (literals : List Lit) → IsBegun place lines literals → Completes lines literals
completes Start lines literals b = record {
  back = status_line ∷ last_line [] ∷ [];
  whole = (status_whole, (last_whole, tt));
  answer = record { groups = []; last = []; answers_are = answers_append lines (status_line ∷ last_line [] ∷ []) ∙ ap (λ (t : List (List ℕ)). t ++ (status_line ∷ last_line [] ∷ [])) b.answers_are; literals_are = b.literals_are };
}
completes Values lines literals b = record {
  back = last_line [] ∷ [];
  whole = (last_whole, tt);
  answer = record { groups = b.groups; last = []; answers_are = answers_append lines (last_line [] ∷ []) ∙ ap (λ (t : List (List ℕ)). t ++ (last_line [] ∷ [])) b.answers_are; literals_are = b.literals_are ∙ sym (append-nil (joined b.groups)) };
}
completes End lines literals b = record {
  back = [];
  whole = tt;
  answer = record { groups = b.groups; last = b.last; answers_are = ap answers (append-nil lines) ∙ b.answers_are; literals_are = b.literals_are };
}

pub completed : (lines : List (List ℕ)) (literals : List Lit) → AreWhole lines → AreLiterals literals → (c : Completes lines literals) → IsModelText (text_of lines ++ text_of c.back) literals
completed lines literals whole form c = record {
  lines = lines ++ c.back;
  whole = all_append HasNoNewline lines c.back whole c.whole;
  text_is = sym (text_append lines c.back);
  answer = c.answer;
  form = form;
}

-- ---- what may follow

-- a model text that begins with the lines: its further lines
pub record Follows (lines : List (List ℕ)) (more : List ℕ) (literals : List Lit) : Type 0 where
  pub groups : List (List Lit)
  pub last : List Lit
  pub back : List (List ℕ)
  pub more_is : more ≡ text_of back
  pub whole : AreWhole back
  pub answers_are : answers lines ++ answers back ≡ status_line ∷ (map values_line groups ++ last_line last ∷ [])
  pub literals_are : literals ≡ joined groups ++ last
  pub group_form : AreGroups groups
  pub last_form : AreLiterals last

pub follows : (lines : List (List ℕ)) (more : List ℕ) (literals : List Lit) → AreWhole lines → IsModelText (text_of lines ++ more) literals → Follows lines more literals
follows lines more literals whole m =
    let parts = begins lines m.lines more whole m.whole m.text_is in
    let form = subst AreLiterals m.answer.literals_are m.form in
    let all = subst AreWhole parts.whole_is m.whole in
    record {
      groups = m.answer.groups;
      last = m.answer.last;
      back = parts.back;
      more_is = parts.more_is;
      whole = all_back HasNoNewline lines parts.back all;
      answers_are = sym (ap answers parts.whole_is ∙ answers_append lines parts.back) ∙ m.answer.answers_are;
      literals_are = m.answer.literals_are;
      group_form = groups_form m.answer.groups (all_front IsLiteral (joined m.answer.groups) m.answer.last form);
      last_form = all_back IsLiteral (joined m.answer.groups) m.answer.last form;
    }

tail_of : (x y : List ℕ) (xs ys : List (List ℕ)) → x ∷ xs ≡ y ∷ ys → xs ≡ ys
tail_of x y xs ys e = cc

-- behind lines of literals
pub values_follow : (lines : List (List ℕ)) (more : List ℕ) (literals others : List Lit) → AreLiterals literals → (b : HasValues lines literals) → (f : Follows lines more others) → RestOf b.groups f.groups f.last (answers f.back)
values_follow lines more literals others form b f =
    let both : status_line ∷ (map values_line b.groups ++ answers f.back) ≡ status_line ∷ (map values_line f.groups ++ last_line f.last ∷ []) = ap (λ (t : List (List ℕ)). t ++ answers f.back) (sym b.answers_are) ∙ f.answers_are in
    rest_of b.groups f.groups f.last (answers f.back) (groups_form b.groups (subst AreLiterals b.literals_are form)) f.group_form f.last_form (tail_of status_line status_line _ _ both)

-- behind the last line
pub record Ended (back : List (List ℕ)) (literals others : List Lit) : Type 0 where
  pub none : answers back ≡ []
  pub same : others ≡ literals

last_rest : (l last : List Lit) (back : List (List Lit)) (rest : List (List ℕ)) → AreLiterals l → AreLiterals last → AreGroups back → last_line l ∷ rest ≡ map values_line back ++ last_line last ∷ [] → (rest ≡ []) × (l ≡ last) × (back ≡ [])
last_rest l last [] rest fits fit form e =
    let first : last_line l ≡ last_line last = cc in
    let others : rest ≡ [] = cc in
    (others, last_same l last fits fit first, refl)
last_rest l last (h ∷ back) rest fits fit form e =
    let first : values_line h ≡ last_line l = cc in
    absurd (values_not_last h l form.0 fits first)

pub end_follows : (lines : List (List ℕ)) (more : List ℕ) (literals others : List Lit) → AreLiterals literals → (b : AreAnswers lines literals) → (f : Follows lines more others) → Ended f.back literals others
end_follows lines more literals others form b f =
    let own = subst AreLiterals b.literals_are form in
    let both : status_line ∷ ((map values_line b.groups ++ last_line b.last ∷ []) ++ answers f.back) ≡ status_line ∷ (map values_line f.groups ++ last_line f.last ∷ []) = ap (λ (t : List (List ℕ)). t ++ answers f.back) (sym b.answers_are) ∙ f.answers_are in
    let regroup : map values_line b.groups ++ (last_line b.last ∷ answers f.back) ≡ (map values_line b.groups ++ last_line b.last ∷ []) ++ answers f.back = sym (append_assoc (map values_line b.groups) (last_line b.last ∷ []) (answers f.back)) in
    let rest = rest_of b.groups f.groups f.last (last_line b.last ∷ answers f.back) (groups_form b.groups (all_front IsLiteral (joined b.groups) b.last own)) f.group_form f.last_form (regroup ∙ tail_of status_line status_line _ _ both) in
    let form_too = subst AreGroups rest.groups_are f.group_form in
    let ends = last_rest b.last f.last rest.back (answers f.back) (all_back IsLiteral (joined b.groups) b.last own) f.last_form (all_back AreLiterals b.groups rest.back form_too) rest.rest_is in
    let groups : f.groups ≡ b.groups = rest.groups_are ∙ ap (λ (t : List (List Lit)). b.groups ++ t) ends.2 ∙ append-nil b.groups in
    record {
      none = ends.0;
      same = f.literals_are ∙ ap (λ (t : List (List Lit)). joined t ++ f.last) groups ∙ ap (λ (t : List Lit). joined b.groups ++ t) (sym ends.1) ∙ sym b.literals_are;
    }
