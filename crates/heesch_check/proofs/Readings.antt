-- What reading came to, and the answer of the whole input.
use Rattle.std.proofs.Common.{◌≡◌, ◌≢◌, ◌⊎◌, inl, inr, ℕ, ◌≤◌, arith, codes, ◌+◌, true, false, List, [], ◌∷◌, ◌++◌, length, Option, Some, None, refl, sym, ap, subst, ◌∙◌, append_assoc}
use Rattle.std.specs.List.{AllByRecursion}
use Rattle.std.specs.Io.KnownBytes.{Consumes}
use Rattle.std.proofs.lemmas.Bool.{false≢true}
use Rattle.std.proofs.lemmas.List.{append-nil}
use Rattle.heesch_cert.specs.declared.header.Header.{Header}
use Rattle.heesch_text.specs.declared.line.Line.{Line}
use Rattle.heesch_text.specs.declared.line.Line.TheVariants as lines
use Rattle.heesch_text.specs.Lines.{text_of}
use Rattle.heesch_line.specs.Forms.{IsLine}
use Rattle.heesch_reader.specs.declared.item.Item.{Item}
use Rattle.heesch_reader.specs.declared.item.Item.TheVariants as items
use Rattle.heesch_reader.specs.declared.item.Part.{Part}
use Rattle.heesch_reader.specs.declared.item.Part.TheVariants as parts
use Rattle.heesch_reader.specs.declared.progress.Progress.{Progress}
use Rattle.heesch_reader.specs.declared.progress.Progress.TheVariants as stages
use Rattle.heesch_reader.specs.Progress.{Lead}
use Rattle.heesch_reader.specs.Items.{IsItemAt, item_lines, lines_of, AreItemsAt, with_items, none_appended}
use Rattle.heesch_reader.specs.declared.progress.AtHand.{AtHand}
use Rattle.heesch_reader.specs.declared.progress.AtHand.TheVariants as hands
use Rattle.heesch_reader.specs.Endings.{ending_of}
use Rattle.heesch_reader.specs.Faults.{begins}
use Rattle.heesch_reader.specs.Feeding.{Refuses, FallsShort}
use Rattle.heesch_io.specs.Input.{IsAllOf}
use Rattle.heesch_reader.specs.Input.{IsWholeCatalogue}
use Rattle.heesch_reader.specs.Taking.{Streamed, HasRead, Begins, HasFault, HasTooMany}
use Rattle.heesch_check.specs.declared.answers.Checked.{Checked}
use Rattle.heesch_check.specs.declared.answers.Checked.TheVariants as answers
use Rattle.heesch_check.specs.declared.reading.Reading.{Reading}
use Rattle.heesch_check.specs.declared.reading.Reading.TheVariants as readings
use Rattle.heesch_check.specs.Answers.{HasNoHeader, IsTooLong, IsDecided, IsChecked}
use Rattle.heesch_check.specs.Catalogues.{AreAll}
use Rattle.heesch_check.specs.Judging.{IsFit, HoldsLines, AreJudged}
use Rattle.heesch_check.specs.Reading.{AnswersLong, IsAnswerOf, IsReading, BeginWith, IsOpened}
use Rattle.heesch_check.proofs.Leading.{IsBounded, IsBoundedTo, up_to}
use Rattle.heesch_check.proofs.Seen.{IsRead}
use Rattle.heesch_check.proofs.Stopping.{StopsAt, refused, fallen}
use Rattle.heesch_check.proofs.Stopped.{stops_in_entry, stops_at_end, stops_behind_header, ends_valid, goes_on_open}
use Rattle.heesch_check.proofs.Deciding.{Fronted, RefusedIn, stands_read, shown_on}
use Rattle.heesch_check.proofs.Early.{early_end, early_entry, fault_decided, inside_ends, next_ends, other_ends}
use Rattle.heesch_check.proofs.OneAnswer.{no_header_decided, short_decided}
use Rattle.heesch_check.proofs.Headers.{brief_header, first_is_header, stops_before, long_before}

-- ---- what was read of the whole input

-- the whole input, as far as it was read
pub record AsRead (first : Option (List ℕ)) (all : List Item) : Type 0 where
  pub input : List ℕ
  pub all_of : IsAllOf first input
  pub held : List Line
  pub tail : List ℕ
  pub reached : Progress
  pub read : IsRead input all held tail reached
  pub within : (length input ≤ 1099511627776) ⊎ Fronted input all

begins_read : (bytes behind : List ℕ) (all : List Item) → (b : Begins bytes all) → IsRead (bytes ++ behind) all b.held (b.left ++ behind) b.reached
begins_read bytes behind all b = stands_read bytes behind all b.held b.left b.reached b.stands (shown_on all b.held b.left behind b.shown)

-- the bytes that were read, and those that are left, are the whole input
left_over : (first now : Option (List ℕ)) (bytes : List ℕ) → Consumes first now bytes → (behind : List ℕ) × IsAllOf first (bytes ++ behind)
left_over None now bytes c = ([], tt)
left_over (Some xs) None bytes c = absurd c
left_over (Some xs) (Some ys) bytes c = (ys, sym c)

more_read : (first now : Option (List ℕ)) (all : List Item) (s : Streamed) → HasRead first now all s → AsRead first all
more_read first now all s h =
    let l = left_over first now h.bytes h.consumed in
    record {
      input = h.bytes ++ l.0;
      all_of = l.1;
      held = h.begins.held;
      tail = h.begins.left ++ l.0;
      reached = h.begins.reached;
      read = begins_read h.bytes l.0 all h.begins;
      within = inr (record { front = h.bytes; behind = l.0; held = h.begins.held; left = h.begins.left; reached = h.begins.reached; split = refl; few = h.at_most; stands = h.begins.stands; shown = h.begins.shown });
    }

catalogue_read : (input : List ℕ) (all : List Item) → (c : IsWholeCatalogue input all) → IsRead input all [] [] c.reached
catalogue_read input all c = record {
  text = c.text ∙ sym (append-nil (text_of (lines_of all ++ [])) ∙ ap text_of (append-nil (lines_of all)));
  lead = subst (λ (x : List Line). Lead stages.Start x c.reached) (sym (append-nil (lines_of all))) c.lead;
  numbered = c.numbered;
  one_entry = tt;
  shown = λ some going. inl refl;
}

-- ---- a fault

-- where a line is at fault, behind these items
pub record FaultRead (first : Option (List ℕ)) (all : List Item) (part : Part) : Type 0 where
  pub as_read : AsRead first all
  pub stops : StopsAt as_read.held as_read.tail as_read.reached part
  pub behind_end : (with_items none_appended all).ended ≡ true → as_read.tail ≢ []
  pub refusal : (length as_read.input ≤ 1099511627776) ⊎ RefusedIn as_read.input

pub some_left : (words more : List ℕ) → words ++ 10 ∷ more ≡ [] → ⊥
some_left [] more e = absurd cc
some_left (b ∷ words) more e = absurd cc

unfoldable pub refusal_read : (first : Option (List ℕ)) (front behind : List ℕ) (all : List Item) (line : ℕ) (part : Part) → IsAllOf first (front ++ behind) → length front ≤ 1099511627776 → (r : Refuses none_appended [] all front line part) → FaultRead first r.found part
refusal_read first front behind all line part all_of few r = record {
  as_read = record {
    input = front ++ behind;
    all_of = all_of;
    held = r.held;
    tail = r.left ++ behind;
    reached = r.reached;
    read = stands_read front behind r.found r.held r.left r.reached r.stands (shown_on r.found r.held r.left behind r.shown);
    within = inr (record { front = front; behind = behind; held = r.held; left = r.left; reached = r.reached; split = refl; few = few; stands = r.stands; shown = r.shown });
  };
  stops = refused r.held r.left behind r.reached part r.fault r.prompt;
  behind_end = λ ended none. some_left r.fault.words (r.fault.back ++ behind) (sym (ap (λ (x : List ℕ). x ++ behind) r.fault.split ∙ append_assoc r.fault.words (10 ∷ r.fault.back) behind) ∙ none);
  refusal = inr (record { front = front; behind = behind; ls = lines_of r.found ++ r.held; left = r.left; reached = r.reached; part = part; split = refl; few = few; text = r.stands.text; lead = r.stands.lead; fault = r.fault });
}

unfoldable pub fall_read : (first : Option (List ℕ)) (input : List ℕ) (all : List Item) (line : ℕ) (part : Part) → IsAllOf first input → length input ≤ 1099511627776 → (f : FallsShort none_appended [] all input line part) → FaultRead first f.found part
fall_read first input all line part all_of few f = record {
  as_read = record {
    input = input;
    all_of = all_of;
    held = f.held;
    tail = f.left;
    reached = f.reached;
    read = record { text = f.stands.text; lead = f.stands.lead; numbered = f.stands.numbered; one_entry = f.stands.one_entry; shown = f.shown };
    within = inl few;
  };
  stops = fallen f.held f.left f.reached part f.one_line f.prompt f.part_is;
  behind_end = λ ended none. elim f.short [
    | inl some ↦ some none
    | inr going ↦ false≢true (sym going ∙ ended)
  ];
  refusal = inl few;
}

fault_read : (first : Option (List ℕ)) (all : List Item) (line : ℕ) (part : Part) → HasFault first all line part → FaultRead first all part
fault_read first all line part h = elim h.fault [
  | inl r ↦ subst (λ (x : List Item). FaultRead first x part) (sym r.after_is) (refusal_read first h.front h.behind all line part (subst (IsAllOf first) h.split h.all_of) h.few r)
  | inr f ↦ subst (λ (x : List Item). FaultRead first x part) (sym f.0.after_is) (fall_read first h.front all line part (subst (IsAllOf first) (h.split ∙ ap (λ (x : List ℕ). h.front ++ x) f.1 ∙ append-nil h.front) h.all_of) h.few f.0)
]

long_read : (first : Option (List ℕ)) (all : List Item) (line : ℕ) → HasTooMany first all line → AsRead first all
long_read first all line h = record {
  input = h.input;
  all_of = h.all_of;
  held = h.begins.held;
  tail = h.begins.left ++ h.byte ∷ h.behind;
  reached = h.begins.reached;
  read = subst (λ (x : List ℕ). IsRead x all h.begins.held (h.begins.left ++ h.byte ∷ h.behind) h.begins.reached) (sym h.split) (begins_read h.front (h.byte ∷ h.behind) all h.begins);
  within = inr (record { front = h.front; behind = h.byte ∷ h.behind; held = h.begins.held; left = h.begins.left; reached = h.begins.reached; split = h.split; few = omega (arith, h.most); stands = h.begins.stands; shown = h.begins.shown });
}

-- whatever reading came to, so far as the items go the input was read
pub as_reading : (first now : Option (List ℕ)) (all : List Item) (s : Streamed) (reading : Reading) → IsReading first now all s reading → AsRead first all
as_reading first now all s readings.More h = more_read first now all s h
as_reading first now all s readings.End h = record { input = h.input; all_of = h.all_of; held = []; tail = []; reached = h.catalogue.reached; read = catalogue_read h.input all h.catalogue; within = inl h.few }
as_reading first now all s (readings.Fault part) h = (fault_read first all h.0 part h.1).as_read
as_reading first now all s (readings.TooLong line at_hand) h = long_read first all line h.0

-- ---- the items are fit to be judged

pub all_right : {X : Type 0} (P : X → Type 0) (xs ys : List X) → AllByRecursion P (xs ++ ys) → AllByRecursion P ys
all_right P [] ys h = h
all_right P (x ∷ xs) ys h = all_right P xs ys h.1

all_left : {X : Type 0} (P : X → Type 0) (xs ys : List X) → AllByRecursion P (xs ++ ys) → AllByRecursion P xs
all_left P [] ys h = tt
all_left P (x ∷ xs) ys h = (h.0, all_left P xs ys h.1)

holds_of : (before : ℕ) (item : Item) → IsItemAt before item → HoldsLines item
holds_of before (items.Header header) h = tt
holds_of before (items.Entry line entry) h = h.1
holds_of before (items.Brief line cells verdict) h = tt
holds_of before (items.End count) h = tt

all_fit : (before : ℕ) (all : List Item) → AllByRecursion IsLine (lines_of all) → AreItemsAt before all → AllByRecursion IsFit all
all_fit before [] forms numbered = tt
all_fit before (item ∷ all) forms numbered = (
  record { forms = all_left IsLine (item_lines item) (lines_of all) forms; holds = holds_of before item numbered.0 },
  all_fit (before + length (item_lines item)) all (all_right IsLine (item_lines item) (lines_of all) forms) numbered.1,
)

pub batch_fits : (first now : Option (List ℕ)) (found batch : List Item) (s : Streamed) (reading : Reading) → IsReading first now (found ++ batch) s reading → AllByRecursion IsFit batch
batch_fits first now found batch s reading h =
    let a = as_reading first now (found ++ batch) s reading h in
    all_right IsFit found batch (all_fit 0 (found ++ batch) (all_left IsLine (lines_of (found ++ batch)) a.held a.read.lead.forms) a.read.numbered)

-- ---- the answer

-- the answer of the whole input
abbrev pub Answers : Option (List ℕ) → Checked → Type 0
Answers first c = (input : List ℕ) × IsAllOf first input × IsChecked input c

pub fault_answers : (first : Option (List ℕ)) (header : Header) (all : List Item) (n : ℕ) (part : Part) (answer : Checked) → IsBoundedTo header n → header.brief ≡ false → AreJudged header all n → (f : FaultRead first all part)
    → IsDecided f.as_read.input → IsAnswerOf header n (readings.Fault part) (Some answer) → Answers first answer
fault_answers first header all n part answer bound full j f decided e = by_part part f decided e
  where
    by_part : (part : Part) → (f : FaultRead first all part) → IsDecided f.as_read.input → IsAnswerOf header n (readings.Fault part) (Some answer) → Answers first answer
    by_part parts.Header f decided e = absurd (stops_behind_header f.as_read.input header all n f.as_read.held f.as_read.tail f.as_read.reached bound full j f.as_read.read f.stops)
    by_part parts.Entry f decided e =
        let is : answers.InvalidEntry (n + 1) ≡ answer = cc in
        (f.as_read.input, f.as_read.all_of, subst (IsChecked f.as_read.input) is (stops_in_entry f.as_read.input header all n f.as_read.held f.as_read.tail f.as_read.reached bound full j f.as_read.read f.stops, decided))
    by_part parts.End f decided e =
        let is : answers.InvalidEnd ≡ answer = cc in
        (f.as_read.input, f.as_read.all_of, subst (IsChecked f.as_read.input) is (stops_at_end f.as_read.input header all n f.as_read.held f.as_read.tail f.as_read.reached bound full j f.as_read.read f.stops f.behind_end, decided))

begins_alone : (front : List ℕ) (all : List Item) → (b : Begins front all) → IsRead front all b.held b.left b.reached
begins_alone front all b = record {
  text = b.stands.text;
  lead = b.stands.lead;
  numbered = b.stands.numbered;
  one_entry = b.stands.one_entry;
  shown = λ some going. inr (b.shown some going);
}

-- the input is too long
long_answers : (first : Option (List ℕ)) (header : Header) (all : List Item) (n line : ℕ) (at_hand : AtHand) (told : Checked) → IsBounded header → header.brief ≡ false → AreJudged header all n
    → (h : HasTooMany first all line) → at_hand ≡ ending_of h.begins.held h.begins.left → AnswersLong header n line at_hand told → Answers first told
long_answers first header all n line at_hand told bound full j h is a = (h.input, h.all_of, by_hand at_hand is a)
  where
    read : IsRead h.front all h.begins.held h.begins.left h.begins.reached
    read = begins_alone h.front all h.begins

    open_front : (begins h.begins.left (codes "end ") ≡ true → AreAll header header.subject n) → IsTooLong h.input line
    open_front in_time = record {
      front = h.front;
      byte = h.byte;
      behind = h.behind;
      text = h.split;
      length_is = h.most;
      line_is = h.line_is;
      goes_on = goes_on_open h.front header all n h.begins.held h.begins.left h.begins.reached (up_to header n bound) full j read h.begins.one_line h.begins.prompt in_time;
    }

    by_hand : (at_hand : AtHand) → at_hand ≡ ending_of h.begins.held h.begins.left → AnswersLong header n line at_hand told → IsChecked h.input told
    by_hand hands.Other is a = subst (IsChecked h.input) (sym a) (open_front (λ ends. absurd (other_ends h.begins.held h.begins.left (sym is) ends)), tt)
    by_hand hands.Next is (inl all_are) = subst (IsChecked h.input) (sym all_are.1) (open_front (λ ends. all_are.0), tt)
    by_hand hands.Next is (inr early) =
        let e = next_ends h.begins.held h.begins.left (sym is) in
        subst (IsChecked h.input) (sym early.1) (early_end h.input header all n line bound full j h.front (h.byte ∷ h.behind) h.begins.held h.begins.left h.begins.reached h.split h.most read h.begins.one_line e.0 e.1 early.0)
    by_hand hands.Inside is (inl all_are) = subst (IsChecked h.input) (sym all_are.1) (open_front (λ ends. all_are.0), tt)
    by_hand hands.Inside is (inr early) =
        let e = inside_ends h.begins.held h.begins.left (sym is) in
        subst (IsChecked h.input) (sym early.1) (early_entry h.input header all n line bound full j h.front (h.byte ∷ h.behind) h.begins.held h.begins.left h.begins.reached h.split h.most read h.begins.one_line h.begins.prompt e.0 e.1 early.0)

-- the answer where reading stops behind items that were judged
pub reading_answers : (first now : Option (List ℕ)) (header : Header) (all : List Item) (n : ℕ) (s : Streamed) (reading : Reading) (answer : Checked) → IsBounded header → header.brief ≡ false → AreJudged header all n
    → IsReading first now all s reading → IsAnswerOf header n reading (Some answer) → Answers first answer
reading_answers first now header all n s readings.More answer bound full j h e = absurd cc
reading_answers first now header all n s readings.End answer bound full j h e =
    let is : answers.Valid n ≡ answer = cc in
    (h.input, h.all_of, subst (IsChecked h.input) is (ends_valid h.input header all n h.catalogue.reached (up_to header n bound) full j (catalogue_read h.input all h.catalogue) h.catalogue.ended, short_decided h.input h.few))
reading_answers first now header all n s (readings.Fault part) answer bound full j h e =
    let f = fault_read first all h.0 part h.1 in
    fault_answers first header all n part answer (up_to header n bound) full j f (fault_decided f.as_read.input header all n f.as_read.held f.as_read.tail f.as_read.reached bound full j f.as_read.read f.refusal) e
reading_answers first now header all n s (readings.TooLong line at_hand) answer bound full j h e =
    let is : e.0 ≡ answer = cc in
    subst (Answers first) is (long_answers first header all n line at_hand e.0 bound full j h.0 h.1 e.2)

-- an input without a header
headless : (first : Option (List ℕ)) (input : List ℕ) → IsAllOf first input → HasNoHeader input → Answers first answers.InvalidHeader
headless first input all_of none = (input, all_of, (none, no_header_decided input none))

-- no header was read
pub none_answers : (first now : Option (List ℕ)) (s : Streamed) (reading : Reading) → IsReading first now [] s reading → (reading ≡ readings.More → ⊥) → Answers first answers.InvalidHeader
none_answers first now s readings.More h stop = absurd (stop refl)
none_answers first now s readings.End h stop = let e = h.catalogue.ended in absurd cc
none_answers first now s (readings.Fault part) h stop =
    let f = fault_read first [] h.0 part h.1 in
    headless first f.as_read.input f.as_read.all_of (stops_before f.as_read.input f.as_read.held f.as_read.tail f.as_read.reached part f.as_read.read f.stops)
none_answers first now s (readings.TooLong line at_hand) h stop =
    let t = h.0 in
    headless first t.input t.all_of (long_before t.input t.front t.behind t.byte t.begins.held t.begins.left t.begins.reached t.split t.most (begins_alone t.front [] t.begins) t.begins.one_line)

-- a brief header was read
pub brief_answers : (first now : Option (List ℕ)) (header : Header) (back : List Item) (s : Streamed) (reading : Reading) → IsReading first now (items.Header header ∷ back) s reading → header.brief ≡ true → Answers first answers.InvalidHeader
brief_answers first now header back s reading h brief =
    let a = as_reading first now (items.Header header ∷ back) s reading h in
    headless first a.input a.all_of (brief_header a.input header back a.held a.tail a.reached a.read brief)

-- the first item is a header
pub header_first : (first now : Option (List ℕ)) (item : Item) (back : List Item) (s : Streamed) (reading : Reading) → IsReading first now (item ∷ back) s reading → ((header : Header) → item ≡ items.Header header → ⊥) → ⊥
header_first first now item back s reading h none =
    let a = as_reading first now (item ∷ back) s reading h in
    first_is_header a.input item back a.held a.tail a.reached a.read none

-- and has the form of one
pub header_form : (first now : Option (List ℕ)) (header : Header) (back : List Item) (s : Streamed) (reading : Reading) → IsReading first now (items.Header header ∷ back) s reading → IsLine (lines.Header header)
header_form first now header back s reading h = (as_reading first now (items.Header header ∷ back) s reading h).read.lead.forms.0

-- there is no header
pub no_header_answers : (first now : Option (List ℕ)) (all : List Item) (s : Streamed) (reading : Reading) → IsReading first now all s reading → (reading ≡ readings.More → all ≢ []) → ((header : Header) → BeginWith header all → ⊥) → Answers first answers.InvalidHeader
no_header_answers first now [] s reading h some none = none_answers first now s reading h (λ more. some more refl)
no_header_answers first now (item ∷ back) s reading h some none = absurd (header_first first now item back s reading h (λ header e. none header (back, ap (λ (x : Item). x ∷ back) e)))

-- a header that isn't brief was read
pub opened : (first now : Option (List ℕ)) (header : Header) (all : List Item) (s : Streamed) (reading : Reading) → IsReading first now all s reading → BeginWith header all → header.brief ≡ false → IsOpened now header all s reading
opened first now header all s reading h b full = record {
  form = header_form first now header b.0 s reading (subst (λ (x : List Item). IsReading first now x s reading) b.1 h);
  full = full;
  begin = b;
  underway = (first, h);
}

pub brief_opened : (first now : Option (List ℕ)) (header : Header) (all : List Item) (s : Streamed) (reading : Reading) → IsReading first now all s reading → BeginWith header all → header.brief ≡ true → Answers first answers.InvalidHeader
brief_opened first now header all s reading h b brief = brief_answers first now header b.0 s reading (subst (λ (x : List Item). IsReading first now x s reading) b.1 h) brief
