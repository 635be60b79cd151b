-- A batch of items behind those that were judged, and how far reading came with it.
use Rattle.std.proofs.Common.{◌≡◌, ◌⊎◌, inl, inr, ℕ, ◌+◌, ◌-◌, ◌*◌, ◌<◌, ◌≤◌, arith, min, false, List, [], ◌∷◌, ◌++◌, length, drop, Option, Some, None, refl, sym, ap, subst, ◌∙◌, append_assoc}
use Rattle.std.specs.List.{AllByRecursion}
use Rattle.std.proofs.lemmas.List.{append-nil, length-append}
use Rattle.heesch_cert.specs.declared.header.Header.{Header}
use Rattle.heesch_reader.specs.declared.item.Item.{Item}
use Rattle.heesch_reader.specs.declared.item.Item.TheVariants as items
use Rattle.heesch_reader.specs.declared.item.Part.TheVariants as parts
use Rattle.heesch_reader.specs.Taking.{Streamed, HasRead, Begins, TakesPiece, TakesEnd, TellsFault, TellsTooLong, TakesOnePiece}
use Rattle.heesch_io.proofs.KnownBytes.{consumes_both}
use Rattle.heesch_reader.specs.declared.item.Part.{Part}
use Rattle.heesch_reader.specs.declared.progress.AtHand.{AtHand}
use Rattle.heesch_reader.specs.Endings.{ending_of, TellsEnding}
use Rattle.heesch_reader.specs.Items.{Kept, lines_of}
use Rattle.heesch_line.specs.Forms.{IsLine}
use Rattle.heesch_check.specs.declared.answers.Checked.{Checked}
use Rattle.heesch_check.specs.declared.reading.Reading.{Reading}
use Rattle.heesch_check.specs.declared.reading.Reading.TheVariants as readings
use Rattle.heesch_check.specs.Judging.{IsFit, AreJudged}
use Rattle.heesch_io.specs.Input.{ReadsNoFurther}
use Rattle.heesch_check.specs.declared.ahead.Pending.{Pending}
use Rattle.heesch_check.specs.declared.ahead.Round.{Round}
use Rattle.heesch_check.specs.Reading.{IsAnswerOf, IsReading, IsRound, Reads, Gathers, LacksItems, StopsGathering, StopsInTime, MayGather, LackRound, JudgesRound, IsPending, BeginWith, DecideNothing}
use Rattle.heesch_check.proofs.Leading.{IsBounded}
use Rattle.heesch_check.proofs.Batches.{batch_settled, stop_settled, stop_decided}
use Rattle.heesch_check.proofs.Readings.{Answers, all_right, as_reading, reading_answers, batch_fits}

-- ---- one step of reading

pub piece_reads : (before now : Option (List ℕ)) (old new : Streamed) (items after : List Item) → TakesPiece before now old new items after → Reads before now old new items after readings.More
piece_reads before now old new items after t = record { more = t.more; after_is = t.after_is; grows = λ e. t.grows; goes_on = t.has_read }

pub end_reads : (before now : Option (List ℕ)) (old new : Streamed) (items after : List Item) → TakesEnd before old items after → Reads before now old new items after readings.End
end_reads before now old new items after t = record { more = t.more; after_is = t.after_is; grows = λ e. absurd cc; goes_on = t.catalogue }

pub fault_reads : (before now : Option (List ℕ)) (old new : Streamed) (items after : List Item) (line : ℕ) (part : Part) → TellsFault before old items after line part → Reads before now old new items after (readings.Fault part)
fault_reads before now old new items after line part t = record { more = t.more; after_is = t.after_is; grows = λ e. absurd cc; goes_on = λ first found h. (line, t.fault first found h) }

pub long_reads : (before now : Option (List ℕ)) (old new : Streamed) (items after : List Item) (line : ℕ) (ending : AtHand) → TellsTooLong before old new items after line → TellsEnding new.kept ending → Reads before now old new items after (readings.TooLong line ending)
long_reads before now old new items after line ending t told = record {
  more = [];
  after_is = t.after_is ∙ sym (append-nil items);
  grows = λ e. absurd cc;
  goes_on = λ first found h.
      let n = t.too_many first found h in
      let b = n.0.begins in
      let is : ending ≡ ending_of b.held b.left = told b.held b.left (ap (λ (k : Kept). k.refusal) n.1) (all_right IsLine (lines_of found) b.held b.stands.lead.forms) b.one_line (ap (λ (k : Kept). k.rest) n.1) in
      subst (λ (x : List Item). IsReading first now x new (readings.TooLong line ending)) (sym (append-nil found)) (n.0, is);
}

-- a piece is read within the bound
pub piece_counts : (before now : Option (List ℕ)) (old new : Streamed) (items after : List Item) (reading : Reading) → Reads before now old new items after reading → reading ≡ readings.More
    → (first : Option (List ℕ)) (found : List Item) → HasRead first before found old → 1099511627776 - new.count < 1099511627776 - old.count
piece_counts before now old new items after reading r more first found h =
    let further : HasRead first now (found ++ r.more) new = subst (λ (x : Reading). IsReading first now (found ++ r.more) new x) more (r.goes_on first found h) in
    let grows = r.grows more in
    let count = further.count_is in
    let most = further.at_most in
    omega (arith, grows, count, most)

-- ---- items gathered over pieces

-- the items of one more piece stand behind those that were gathered
pub gathered_on : (first before now : Option (List ℕ)) (found gathered after : List Item) (old new : Streamed) (reading : Reading) → HasRead first before (found ++ gathered) old → Reads before now old new gathered after reading → IsReading first now (found ++ after) new reading
gathered_on first before now found gathered after old new reading h r =
    subst (λ (x : List Item). IsReading first now x new reading) (append_assoc found gathered r.more ∙ ap (λ (x : List Item). found ++ x) (sym r.after_is)) (r.goes_on first (found ++ gathered) h)

pub gathered_more : (before now : Option (List ℕ)) (old new : Streamed) (front gathered after : List Item) (reading : Reading) → (more : List Item) × (gathered ≡ front ++ more) → Reads before now old new gathered after reading → (more : List Item) × (after ≡ front ++ more)
gathered_more before now old new front gathered after reading m r = (m.0 ++ r.more, r.after_is ∙ ap (λ (x : List Item). x ++ r.more) m.1 ∙ append_assoc front m.0 r.more)

-- before one more piece there weren't enough items
pub lacks_items : (first before now : Option (List ℕ)) (found front gathered : List Item) (s : Streamed) (enough : ℕ) → HasRead first before (found ++ gathered) s → (more : List Item) × (gathered ≡ front ++ more) → length gathered < enough → TakesOnePiece before now
    → LacksItems first now found front enough
lacks_items first before now found front gathered s enough h m few piece = record {
  bytes = h.bytes;
  last = piece.0;
  consumed = consumes_both first before now h.bytes piece.0 h.consumed piece.1;
  at_most = h.at_most;
  one_piece = piece.2;
  more = m.0;
  begins = subst (λ (x : List Item). Begins h.bytes (found ++ x)) m.1 h.begins;
  few = subst (λ (x : List Item). length x < enough) m.1 few;
}

-- ---- what is gathered in two steps

-- nothing more is gathered
pub gathers_none : (now : Option (List ℕ)) (s : Streamed) (items : List Item) (reading : Reading) → items ≡ [] → Gathers now now s s [] items 0 reading reading
gathers_none now s items reading none = record {
  more = [];
  after_is = none;
  are_enough = λ e. omega arith;
  from_more = λ e. (e, omega arith);
  grown = λ e. inl none;
  goes_on = λ first found h. subst (λ (x : List Item). IsReading first now (found ++ x) s reading) (sym none) h;
}

-- more may be gathered behind items that were gathered
pub may_gather_on : (before now : Option (List ℕ)) (old new : Streamed) (items after : List Item) (enough : ℕ) (from to : Reading) → MayGather before old items from → Gathers before now old new items after enough from to → MayGather now new after to
may_gather_on before now old new items after enough from to (first, found, h) r = (first, found, r.goes_on first found h)

-- and these are fit
pub gathered_fits : (before now : Option (List ℕ)) (old new : Streamed) (items after : List Item) (enough : ℕ) (from to : Reading) → MayGather before old items from → Gathers before now old new items after enough from to → AllByRecursion IsFit after
gathered_fits before now old new items after enough from to (first, found, h) r = batch_fits first now found after new to (r.goes_on first found h)

-- where more may follow, others may be gathered by themselves
pub may_go_on : (now : Option (List ℕ)) (items : List Item) (s : Streamed) (reading : Reading) → MayGather now s items reading → reading ≡ readings.More → MayGather now s [] readings.More
may_go_on now items s reading m more =
    let read : IsReading m.0 now (m.1 ++ items) s readings.More = subst (λ (x : Reading). IsReading m.0 now (m.1 ++ items) s x) more m.2 in
    (m.0, m.1 ++ items, subst (λ (x : List Item). IsReading m.0 now x s readings.More) (sym (append-nil (m.1 ++ items))) read)

-- fewer items would have been enough
pub stops_before : (first before now : Option (List ℕ)) (found items : List Item) (some enough : ℕ) → some ≤ enough → StopsGathering first before now found items some → StopsGathering first before now found items enough
stops_before first before now found items some enough fit stops = elim stops [
  | inl same ↦ inl same
  | inr l ↦
      let few = l.few in
      inr (record { bytes = l.bytes; last = l.last; consumed = l.consumed; at_most = l.at_most; one_piece = l.one_piece; more = l.more; begins = l.begins; few = omega (arith, few, fit) })
]

-- reading went on behind the items that were gathered
pub stops_on : (first before middle now : Option (List ℕ)) (found items front : List Item) (some enough : ℕ) → some ≤ enough → (more : List Item) × (front ≡ items ++ more) → StopsGathering first before middle found items some → StopsGathering first middle now found front enough
    → StopsGathering first before now found items enough
stops_on first before middle now found items front some enough fit m stops on = elim on [
  | inl same ↦ subst (λ (x : Option (List ℕ)). StopsGathering first before x found items enough) (sym same) (stops_before first before middle found items some enough fit stops)
  | inr l ↦
      let all : front ++ l.more ≡ items ++ (m.0 ++ l.more) = ap (λ (x : List Item). x ++ l.more) m.1 ∙ append_assoc items m.0 l.more in
      inr (record {
        bytes = l.bytes;
        last = l.last;
        consumed = l.consumed;
        at_most = l.at_most;
        one_piece = l.one_piece;
        more = m.0 ++ l.more;
        begins = subst (λ (x : List Item). Begins l.bytes (found ++ x)) all l.begins;
        few = subst (λ (x : List Item). length x < enough) all l.few;
      })
]

-- items that were gathered by themselves stand behind those before them
pub stops_behind : (first before now : Option (List ℕ)) (found front : List Item) (left enough : ℕ) → length front + left ≤ enough → StopsGathering first before now (found ++ front) [] left → StopsGathering first before now found front enough
stops_behind first before now found front left enough fit stops = elim stops [
  | inl same ↦ inl same
  | inr l ↦
      let few = l.few in
      let both = length-append front l.more in
      inr (record {
        bytes = l.bytes;
        last = l.last;
        consumed = l.consumed;
        at_most = l.at_most;
        one_piece = l.one_piece;
        more = l.more;
        begins = subst (Begins l.bytes) (append_assoc found front l.more) l.begins;
        few = omega (arith, few, both, fit);
      })
]

-- what is gathered beside them stands behind the first items, of which fewer would have been enough
pub stops_beside : (before middle now : Option (List ℕ)) (old mid : Streamed) (items front : List Item) (some enough left : ℕ) (from step : Reading) → step ≡ readings.More → some ≤ enough → length front + left ≤ enough → Gathers before middle old mid items front some from step
    → ((first : Option (List ℕ)) (found : List Item) → IsReading first before (found ++ items) old from → StopsGathering first before middle found items some) → StopsInTime middle now mid [] readings.More left → StopsInTime before now old items from enough
stops_beside before middle now old mid items front some enough left from step more fit room r stops rest = record {
  stops = λ first found h.
      let on : IsReading first middle (found ++ front) mid readings.More = subst (λ (x : Reading). IsReading first middle (found ++ front) mid x) more (r.goes_on first found h) in
      let alone : IsReading first middle ((found ++ front) ++ []) mid readings.More = subst (λ (x : List Item). IsReading first middle x mid readings.More) (sym (append-nil (found ++ front))) on in
      stops_on first before middle now found items front some enough fit (r.more, r.after_is) (stops first found h) (stops_behind first middle now found front left enough room (rest.stops first (found ++ front) alone));
}

-- ---- the judgement of items behind others

-- a header alone was judged
unfoldable pub first_judged : (header : Header) → AreJudged header (items.Header header ∷ []) 0
first_judged header = record { es = []; body = []; ends = []; split = refl; are = tt; good = tt; count = refl; ends_all = inl refl }

none_more : (header : Header) (n : ℕ) (reading : Reading) → IsAnswerOf header n reading None → reading ≡ readings.More
none_more header n readings.More e = refl
none_more header n readings.End e = absurd cc
none_more header n (readings.Fault parts.Header) e = absurd cc
none_more header n (readings.Fault parts.Entry) e = absurd cc
none_more header n (readings.Fault parts.End) e = absurd cc
none_more header n (readings.TooLong line ending) e = let bad = e.1 in absurd cc

-- the answer of a batch is that of the input
pub batch_answers : (first now : Option (List ℕ)) (header : Header) (found batch : List Item) (before after : ℕ) (s : Streamed) (reading : Reading) (answer : Checked) → IsBounded header → header.brief ≡ false
    → AreJudged header found before → IsReading first now (found ++ batch) s reading → JudgesRound header before after batch reading (Some answer) → Answers first answer
batch_answers first now header found batch before after s reading answer bound full j h judges =
    let a = as_reading first now (found ++ batch) s reading h in
    elim judges [
      | inl stop ↦ (a.input, a.all_of, (stop_settled a.input header found batch before after a.held a.tail a.reached answer bound full j a.read stop, stop_decided a.input header found batch before after answer bound full j a.within stop))
      | inr all ↦ reading_answers first now header (found ++ batch) after s reading answer bound full (batch_settled a.input header found batch before after a.held a.tail a.reached bound full j a.read all.0) h all.1
    ]

-- ---- a round that was read behind items that were judged

pub pending_fits : (first now : Option (List ℕ)) (header : Header) (round : List Item) (s : Streamed) (n : ℕ) (reading : Reading) → IsPending header first now round s n reading → AllByRecursion IsFit round
pending_fits first now header round s n reading p = batch_fits first now p.found round s reading p.reads

-- its answer is that of the input
pub pending_answers : (first now : Option (List ℕ)) (header : Header) (round : List Item) (n m : ℕ) (s : Streamed) (reading : Reading) (result : Option Checked) (answer : Checked) → IsBounded header → header.brief ≡ false
    → IsPending header first now round s n reading → JudgesRound header n m round reading result → result ≡ Some answer → Answers first answer
pending_answers first now header round n m s reading result answer bound full p judges is =
    batch_answers first now header p.found round n m s reading answer bound full p.judged p.reads (subst (JudgesRound header n m round reading) is judges)

-- without an answer, more may follow
pub pending_more : (header : Header) (round : List Item) (n m : ℕ) (reading : Reading) (result : Option Checked) → JudgesRound header n m round reading result → result ≡ None → reading ≡ readings.More
pending_more header round n m reading result judges is = none_more header m reading (subst (JudgesRound header n m round reading) is judges).1

-- and it is judged good
pub pending_judged : (first now : Option (List ℕ)) (header : Header) (round : List Item) (n m : ℕ) (s : Streamed) (reading : Reading) (result : Option Checked) → IsBounded header → header.brief ≡ false
    → (p : IsPending header first now round s n reading) → JudgesRound header n m round reading result → result ≡ None → AreJudged header (p.found ++ round) m
pending_judged first now header round n m s reading result bound full p judges is =
    let a = as_reading first now (p.found ++ round) s reading p.reads in
    batch_settled a.input header p.found round n m a.held a.tail a.reached bound full p.judged a.read (subst (JudgesRound header n m round reading) is judges).0

-- more of it is gathered
pub pending_gathered : (first before now : Option (List ℕ)) (header : Header) (items after : List Item) (n enough : ℕ) (old new : Streamed) (from to : Reading) → IsPending header first before items old n from → Gathers before now old new items after enough from to → IsPending header first now after new n to
pending_gathered first before now header items after n enough old new from to p r = record { found = p.found; judged = p.judged; reads = r.goes_on first p.found p.reads }

-- it was judged good, more may follow, and nothing is read behind it yet
pub pending_goes_on : (first now : Option (List ℕ)) (header : Header) (round none : List Item) (n m : ℕ) (s : Streamed) (reading : Reading) (result : Option Checked) → IsBounded header → header.brief ≡ false → none ≡ []
    → IsPending header first now round s n reading → JudgesRound header n m round reading result → result ≡ None → IsPending header first now none s m readings.More
pending_goes_on first now header round none n m s reading result bound full empty p judges is =
    let more : IsReading first now (p.found ++ round) s readings.More = subst (λ (x : Reading). IsReading first now (p.found ++ round) s x) (pending_more header round n m reading result judges is) p.reads in
    record {
      found = p.found ++ round;
      judged = pending_judged first now header round n m s reading result bound full p judges is;
      reads = subst (λ (x : List Item). IsReading first now x s readings.More) (sym (ap (λ (x : List Item). (p.found ++ round) ++ x) empty ∙ append-nil (p.found ++ round))) more;
    }

-- and those ahead of the next round are pending behind it
pub pending_ahead : (first middle now : Option (List ℕ)) (header : Header) (round ahead : List Item) (n m left : ℕ) (s new : Streamed) (reading to : Reading) (result : Option Checked) → IsBounded header → header.brief ≡ false
    → IsPending header first middle round s n reading → JudgesRound header n m round reading result → result ≡ None → Gathers middle now s new [] ahead left reading to → IsPending header first now ahead new m to
pending_ahead first middle now header round ahead n m left s new reading to result bound full p judges is q =
    let more = pending_more header round n m reading result judges is in
    let behind = pending_goes_on first middle header round [] n m s reading result bound full refl p judges is in
    pending_gathered first middle now header [] ahead m left s new readings.More to behind (subst (λ (x : Reading). Gathers middle now s new [] ahead left x to) more q)

-- how much is left to read and to judge, at most so many bytes and whether there are items: nothing where no more may follow
abbrev pub left_to_judge : Reading → (bytes items : ℕ) → ℕ
left_to_judge readings.More bytes items = 2 * bytes + min 1 items + 1
left_to_judge readings.End bytes items = 0
left_to_judge (readings.Fault part) bytes items = 0
left_to_judge (readings.TooLong line ending) bytes items = 0

-- what was so much is less where nothing more may follow, and where fewer are left
smaller_by : (from to : Reading) (bytes items then ahead : ℕ) → from ≡ readings.More → (to ≡ readings.More → 2 * then + min 1 ahead < 2 * bytes + min 1 items) → left_to_judge to then ahead < left_to_judge from bytes items
smaller_by readings.More readings.More bytes items then ahead more less = let lt = less refl in omega (arith, lt)
smaller_by readings.More readings.End bytes items then ahead more less = omega arith
smaller_by readings.More (readings.Fault part) bytes items then ahead more less = omega arith
smaller_by readings.More (readings.TooLong line ending) bytes items then ahead more less = omega arith
smaller_by readings.End to bytes items then ahead more less = absurd cc
smaller_by (readings.Fault part) to bytes items then ahead more less = absurd cc
smaller_by (readings.TooLong line ending) to bytes items then ahead more less = absurd cc

-- fewer bytes are left behind a round and the items ahead of the next, or none of these but items of the round, where more may follow
fewer_left : (first before now : Option (List ℕ)) (header : Header) (n : ℕ) (old new : Streamed) (at_hand : Pending) (round : Round) → round.reading ≡ readings.More → round.ahead.reading ≡ readings.More → IsPending header first before at_hand.items old n at_hand.reading
    → IsRound before now old new at_hand round → 2 * (1099511627776 - new.count) + min 1 (length round.ahead.items) < 2 * (1099511627776 - old.count) + min 1 (length at_hand.items)
fewer_left first before now header n old new at_hand round more on p r =
    let alone : IsReading first r.middle ((p.found ++ round.items) ++ []) r.between round.reading = subst (λ (x : List Item). IsReading first r.middle x r.between round.reading) (sym (append-nil (p.found ++ round.items))) (r.gathers.goes_on first p.found p.reads) in
    let all = (p.found ++ round.items) ++ round.ahead.items in
    let read : HasRead first now all new = subst (λ (x : Reading). IsReading first now all new x) on (r.ahead.goes_on first (p.found ++ round.items) alone) in
    let count = read.count_is in
    let most = read.at_most in
    let at_first = (r.gathers.from_more more).1 in
    let then = (r.ahead.from_more on).1 in
    elim (r.ahead.grown on) [
      | inr grows ↦ omega (arith, count, most, at_first, grows)
      | inl none ↦
          let nothing : length round.ahead.items ≡ 0 = ap length none in
          elim (r.gathers.grown more) [
            | inr grows ↦ omega (arith, count, most, then, grows, nothing)
            | inl same ↦
                let many = r.gathers.are_enough more in
                let here = ap length same in
                let some = r.some in
                omega (arith, count, most, then, at_first, nothing, many, here, some)
          ]
    ]

-- behind a round that was judged good less is left than before
pub pending_smaller : (first before now : Option (List ℕ)) (header : Header) (n : ℕ) (old new : Streamed) (at_hand : Pending) (round : Round) → round.reading ≡ readings.More → IsPending header first before at_hand.items old n at_hand.reading → IsRound before now old new at_hand round
    → left_to_judge round.ahead.reading (1099511627776 - new.count) (length round.ahead.items) < left_to_judge at_hand.reading (1099511627776 - old.count) (length at_hand.items)
pending_smaller first before now header n old new at_hand round more p r =
    smaller_by at_hand.reading round.ahead.reading (1099511627776 - old.count) (length at_hand.items) (1099511627776 - new.count) (length round.ahead.items) (r.gathers.from_more more).0 (λ on. fewer_left first before now header n old new at_hand round more on p r)

-- ---- the first batch, whose first item is the header

pub start_pending : (first now : Option (List ℕ)) (header : Header) (batch behind : List Item) (s : Streamed) (n : ℕ) (reading : Reading) → behind ≡ drop 1 batch → BeginWith header batch → n ≡ 0 → IsReading first now batch s reading → IsPending header first now behind s n reading
start_pending first now header batch behind s n reading is b none h = record {
  found = items.Header header ∷ [];
  judged = subst (AreJudged header (items.Header header ∷ [])) (sym none) (first_judged header);
  reads = subst (λ (x : List Item). IsReading first now ((items.Header header ∷ []) ++ x) s reading) (sym (is ∙ ap (drop 1) b.1)) (subst (λ (x : List Item). IsReading first now x s reading) b.1 h);
}

-- it has an item
pub start_some : (header : Header) (batch : List Item) → BeginWith header batch → 0 < length batch
start_some header batch b = let many = ap length b.1 in omega (arith, many)

-- ---- what is read of the source

-- what was read before one more piece decides nothing
pub reads_no_further : (first before now : Option (List ℕ)) (all : List Item) (s : Streamed) → HasRead first before all s → (all ≡ []) ⊎ LackRound all → TakesOnePiece before now → ReadsNoFurther DecideNothing first now
reads_no_further first before now all s h judged piece = record {
  bytes = h.bytes;
  last = piece.0;
  consumed = consumes_both first before now h.bytes piece.0 h.consumed piece.1;
  one_piece = piece.2;
  undecided = record { few = h.at_most; all = all; begins = h.begins; judged = judged };
}

lacking : (first now : Option (List ℕ)) (found front : List Item) (enough : ℕ) → (l : LacksItems first now found front enough) → LackRound (found ++ (front ++ l.more)) → ReadsNoFurther DecideNothing first now
lacking first now found front enough l lack = record {
  bytes = l.bytes;
  last = l.last;
  consumed = l.consumed;
  one_piece = l.one_piece;
  undecided = record { few = l.at_most; all = found ++ (front ++ l.more); begins = l.begins; judged = inr lack };
}

-- items that were gathered behind a header still begin with it
pub begin_on : (header : Header) (front after more : List Item) → after ≡ front ++ more → BeginWith header front → BeginWith header after
begin_on header front after more is b = (b.0 ++ more, is ∙ ap (λ (x : List Item). x ++ more) b.1)

-- of the first round, with the header
pub start_no_further : (first before now : Option (List ℕ)) (header : Header) (front : List Item) → header.brief ≡ false → BeginWith header front → StopsGathering first before now [] front 65 → ReadsNoFurther DecideNothing first before → ReadsNoFurther DecideNothing first now
start_no_further first before now header front full b stops none = elim stops [
  | inl same ↦ subst (ReadsNoFurther DecideNothing first) (sym same) none
  | inr l ↦
      let all : front ++ l.more ≡ items.Header header ∷ (b.0 ++ l.more) = ap (λ (x : List Item). x ++ l.more) b.1 in
      let few : length (items.Header header ∷ (b.0 ++ l.more)) < 65 = subst (λ (x : List Item). length x < 65) all l.few in
      lacking first now [] front 65 l (record {
        header = header;
        entries = 0;
        front = items.Header header ∷ [];
        round = b.0 ++ l.more;
        split = all;
        full = full;
        judged = first_judged header;
        few = omega (arith, few);
      })
]

-- of a round behind items that were judged
pub pending_no_further : (first before now : Option (List ℕ)) (header : Header) (round : List Item) (s : Streamed) (n enough : ℕ) (reading : Reading) → header.brief ≡ false → enough ≤ 256 → (p : IsPending header first before round s n reading) → StopsInTime before now s round reading enough → ReadsNoFurther DecideNothing first before → ReadsNoFurther DecideNothing first now
pending_no_further first before now header round s n enough reading full small p stops none = elim (stops.stops first p.found p.reads) [
  | inl same ↦ subst (ReadsNoFurther DecideNothing first) (sym same) none
  | inr l ↦
      let few = l.few in
      lacking first now p.found round enough l (record {
        header = header;
        entries = n;
        front = p.found;
        round = round ++ l.more;
        split = refl;
        full = full;
        judged = p.judged;
        few = omega (arith, few, small);
      })
]
