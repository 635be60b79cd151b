-- The answer of an input where what stands first behind the header is at fault: no free list is needed for it.
use Rattle.std.proofs.Common.{◌≡◌, ◌⊎◌, inl, inr, ℕ, ◌≤◌, false, List, [], ◌∷◌, ◌++◌, length, Option, Some, refl, sym, ap, subst, ◌∙◌, arith}
use Rattle.std.specs.Prelude.{slice_get}
use Rattle.std.proofs.lemmas.List.{append-nil, nil_from_length}
use Rattle.heesch_grid.specs.declared.Cell.{Cell}
use Rattle.heesch_cert.specs.declared.entry.Entry.{Entry}
use Rattle.heesch_cert.specs.declared.header.Header.{Header}
use Rattle.heesch_cert.specs.declared.verdict.Verdict.{Verdict}
use Rattle.heesch_text.specs.Lines.{text_of}
use Rattle.heesch_reader.specs.declared.item.Item.{Item}
use Rattle.heesch_reader.specs.declared.item.Item.TheVariants as items
use Rattle.heesch_reader.specs.declared.item.Part.{Part}
use Rattle.heesch_reader.specs.Items.{none_appended}
use Rattle.heesch_reader.specs.Feeding.{Refuses, FallsShort}
use Rattle.heesch_io.specs.Input.{IsAllOf}
use Rattle.heesch_reader.specs.Taking.{Streamed, HasFault}
use Rattle.heesch_check.specs.declared.answers.Checked.{Checked}
use Rattle.heesch_check.specs.declared.answers.Checked.TheVariants as answers
use Rattle.heesch_check.specs.declared.reading.Reading.{Reading}
use Rattle.heesch_check.specs.declared.reading.Reading.TheVariants as readings
use Rattle.heesch_check.specs.Answers.{IsOpen, IsTooLong, IsDecided}
use Rattle.heesch_check.specs.Catalogues.{block_of, IsGoodEntry, AreBlocks}
use Rattle.heesch_check.specs.Reading.{FaultsAlone, FaultsFirst, IsAnswerOf, IsReading, BeginWith}
use Rattle.heesch_check.proofs.Answering.{brief_fault}
use Rattle.heesch_check.proofs.Behind.{first_judged}
use Rattle.heesch_check.proofs.Early.{item_decides}
use Rattle.heesch_check.proofs.Deciding.{Fronted, RefusedIn, open_leads, reads_on, refused_leads, shown_on, stands_read}
use Rattle.heesch_check.proofs.Leading.{IsBoundedTo, up_to_none}
use Rattle.heesch_check.proofs.OneAnswer.{same_header, short_decided}
use Rattle.heesch_check.proofs.Readings.{Answers, FaultRead, as_reading, refusal_read, fall_read, fault_answers}
use Rattle.heesch_check.proofs.Seen.{IsRead}
use Rattle.heesch_check.proofs.Stopping.{Held, StopsAt, refused, no_good}
use Rattle.heesch_check.proofs.Stopped.{held_at, behind_all}

-- the header alone
abbrev alone : Header → List Item
alone header = items.Header header ∷ []

-- bytes with such a fault, and maybe more behind it, aren't the beginning of a catalogue
no_entry_first : (bytes : List ℕ) (header : Header) (part : Part) → header.brief ≡ false → (o : IsOpen bytes) → (e : Entry) (es : List Entry) → o.es ≡ e ∷ es
    → (held : List _) (tail : List ℕ) (reached : _) → Held bytes header [] held tail reached → StopsAt held tail reached part → ⊥
no_entry_first bytes header part full o e es is held tail reached h stop =
    let c = o.checked in
    let body = text_of held ++ tail in
    let s = same_header bytes body c.body header o.header (record { text = h.stand.text; form = h.stand.form; full = full }) c.headed in
    let b : AreBlocks o.header 0 c.body (e ∷ es) o.rest = subst (λ (x : List Entry). AreBlocks o.header 0 c.body x o.rest) is c.blocks in
    no_good bytes header [] held tail reached part (up_to_none header) h stop e (subst (λ (x : Header). IsGoodEntry x 0 e) (sym s.0) b.0) (ap block_of s.1 ∙ b.1)

refusal_decided : (header : Header) (front behind : List ℕ) (line : ℕ) (part : Part) → header.brief ≡ false → length front ≤ 1099511627776 → Refuses none_appended [] (alone header) front line part → IsDecided (front ++ behind)
unfolding first_judged
refusal_decided header front behind line part full few r = λ at t. by_entries at t t.goes_on.es refl
  where
    refused_in : RefusedIn (front ++ behind)
    refused_in = record { front = front; behind = behind; ls = _; left = r.left; reached = r.reached; part = part; split = refl; few = few; text = r.stands.text; lead = r.stands.lead; fault = r.fault }

    here : (more : List ℕ) → IsRead (front ++ more) (alone header) r.held (r.left ++ more) r.reached
    here more = subst (λ (x : List Item). IsRead (front ++ more) x r.held (r.left ++ more) r.reached) (sym r.after_is) (stands_read front more r.found r.held r.left r.reached r.stands (shown_on r.found r.held r.left more r.shown))

    held_first : (more : List ℕ) → Held (front ++ more) header [] r.held (r.left ++ more) r.reached
    held_first more = held_at (front ++ more) header (alone header) 0 r.held (r.left ++ more) r.reached (first_judged header) refl (here more) (behind_all (front ++ more) header (alone header) 0 r.held (r.left ++ more) r.reached (up_to_none header) full (first_judged header) (here more))

    by_entries : (at : ℕ) (t : IsTooLong (front ++ behind) at) (es : List Entry) → t.goes_on.es ≡ es → ⊥
    by_entries at t [] is = refused_leads (front ++ behind) at refused_in t (open_leads t.front t.goes_on (subst (λ (x : List Entry). IsBoundedTo t.goes_on.header (length x)) (sym is) (up_to_none t.goes_on.header)))
    by_entries at t (e ∷ es) is =
        let more = reads_on (front ++ behind) at front behind t refl few in
        no_entry_first t.front header part full t.goes_on e es is r.held (r.left ++ more.0) r.reached (subst (λ (x : List ℕ). Held x header [] r.held (r.left ++ more.0) r.reached) (sym more.1) (held_first more.0)) (refused r.held r.left more.0 r.reached part r.fault r.prompt)

-- such a fault, and the whole input, which it decides
Decided : Option (List ℕ) → Header → Part → Type 0
Decided first header part = (f : FaultRead first (alone header) part) × IsDecided f.as_read.input

refusal_first : (first : Option (List ℕ)) (header : Header) (front behind : List ℕ) (line : ℕ) (part : Part) → header.brief ≡ false → IsAllOf first (front ++ behind) → length front ≤ 1099511627776 → (r : Refuses none_appended [] (alone header) front line part) → Decided first header part
unfolding Decided refusal_read
refusal_first first header front behind line part full all_of few r =
    subst (λ (x : List Item). (f : FaultRead first x part) × IsDecided f.as_read.input) (sym r.after_is) (refusal_read first front behind (alone header) line part all_of few r, refusal_decided header front behind line part full few r)

fall_first : (first : Option (List ℕ)) (header : Header) (input : List ℕ) (line : ℕ) (part : Part) → IsAllOf first input → length input ≤ 1099511627776 → (f : FallsShort none_appended [] (alone header) input line part) → Decided first header part
unfolding Decided fall_read
fall_first first header input line part all_of few f =
    subst (λ (x : List Item). (f : FaultRead first x part) × IsDecided f.as_read.input) (sym f.after_is) (fall_read first input (alone header) line part all_of few f, short_decided input few)

fault_first : (first : Option (List ℕ)) (header : Header) (line : ℕ) (part : Part) → header.brief ≡ false → HasFault first (alone header) line part → Decided first header part
fault_first first header line part full h = elim h.fault [
  | inl r ↦ refusal_first first header h.front h.behind line part full (subst (IsAllOf first) h.split h.all_of) h.few r
  | inr f ↦ fall_first first header h.front line part (subst (IsAllOf first) (h.split ∙ ap (λ (x : List ℕ). h.front ++ x) f.1 ∙ append-nil h.front) h.all_of) h.few f.0
]

-- the answer to a fault behind the header
pub first_fault_answers : (first now : Option (List ℕ)) (header : Header) (s : Streamed) (part : Part) (answer : Checked) → header.brief ≡ false → IsReading first now (alone header) s (readings.Fault part) → IsAnswerOf header 0 (readings.Fault part) (Some answer) → Answers first answer
unfolding Decided
first_fault_answers first now header s part answer full h e =
    let d = fault_first first header h.0 part full h.1 in
    fault_answers first header (alone header) 0 part answer (up_to_none header) full (first_judged header) d.0 d.1 e

alone_answers : (first now : Option (List ℕ)) (header : Header) (all : List Item) (s : Streamed) (reading : Reading) (answer : Checked) → header.brief ≡ false → BeginWith header all → IsReading first now all s reading → FaultsAlone all reading answer → Answers first answer
alone_answers first now header all s reading answer full b h f =
    let many : length all ≡ length (items.Header header ∷ b.0) = ap length b.1 in
    let low = f.alone in
    let none : b.0 ≡ [] = nil_from_length b.0 (omega (arith, many, low)) in
    let only : all ≡ alone header = b.1 ∙ ap (λ (x : List Item). items.Header header ∷ x) none in
    first_fault_answers first now header s f.part answer full (subst (IsReading first now (alone header) s) f.fault (subst (λ (x : List Item). IsReading first now x s reading) only h)) (f.tells header)

-- ---- a brief entry

brief_decided : (input : List ℕ) (header : Header) (back : List Item) (line : ℕ) (cells : List Cell) (verdict : Verdict) → header.brief ≡ false
    → (length input ≤ 1099511627776) ⊎ Fronted input (items.Header header ∷ items.Brief line cells verdict ∷ back) → IsDecided input
unfolding first_judged
brief_decided input header back line cells verdict full (inl few) = short_decided input few
brief_decided input header back line cells verdict full (inr f) = λ at t.
    let all = items.Header header ∷ items.Brief line cells verdict ∷ back in
    let more = reads_on input at f.front f.behind t f.split f.few in
    let read : IsRead t.front all f.held (f.left ++ more.0) f.reached =
    subst (λ (x : List ℕ). IsRead x all f.held (f.left ++ more.0) f.reached) (sym more.1) (stands_read f.front more.0 all f.held f.left f.reached f.stands (shown_on all f.held f.left more.0 f.shown)) in
    item_decides t.front f.front more.0 header (alone header) back (items.Brief line cells verdict) 0 0 f.held f.left f.reached (answers.InvalidEntry 1) (up_to_none header) full (first_judged header) f.stands f.shown more.1 read refl t.goes_on

brief_answers : (first now : Option (List ℕ)) (header : Header) (back : List Item) (line : ℕ) (cells : List Cell) (verdict : Verdict) (s : Streamed) (reading : Reading) → header.brief ≡ false
    → IsReading first now (items.Header header ∷ items.Brief line cells verdict ∷ back) s reading → Answers first (answers.InvalidEntry 1)
brief_answers first now header back line cells verdict s reading full h =
    let a = as_reading first now (items.Header header ∷ items.Brief line cells verdict ∷ back) s reading h in
    (a.input, a.all_of, (brief_fault a.input header (alone header) back line cells verdict 0 a.held a.tail a.reached (up_to_none header) full (first_judged header) a.read, brief_decided a.input header back line cells verdict full a.within))

second_is : (xs : List Item) (item : Item) → slice_get xs 0 ≡ Some item → (back : List Item) × (xs ≡ item ∷ back)
second_is [] item e = absurd cc
second_is (x ∷ xs) item e = (xs, ap (λ (y : Item). y ∷ xs) (one_some e))
  where
    one_some : {a b : Item} → Some a ≡ Some b → a ≡ b
    one_some e = cc

-- what stands first behind the header is at fault
pub faults_first : (first now : Option (List ℕ)) (header : Header) (all : List Item) (s : Streamed) (reading : Reading) (answer : Checked) → header.brief ≡ false → BeginWith header all → IsReading first now all s reading → FaultsFirst all reading answer → Answers first answer
faults_first first now header all s reading answer full b h (inl f) = alone_answers first now header all s reading answer full b h f
faults_first first now header all s reading answer full b h (inr f) =
    let item = items.Brief f.line f.cells f.verdict in
    let at : slice_get b.0 0 ≡ Some item = ap (λ (x : List Item). slice_get x 1) (sym b.1) ∙ f.second in
    let second = second_is b.0 item at in
    let whole : all ≡ items.Header header ∷ item ∷ second.0 = b.1 ∙ ap (λ (x : List Item). items.Header header ∷ x) second.1 in
    subst (Answers first) (sym f.tells) (brief_answers first now header second.0 f.line f.cells f.verdict s reading full (subst (λ (x : List Item). IsReading first now x s reading) whole h))
