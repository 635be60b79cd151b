-- What the reader's answers say of the whole input.
use Rattle.std.proofs.Common.{◌≡◌, ◌⊎◌, inl, inr, ℕ, ◌+◌, ◌<◌, ◌≤◌, ◌==◌, List, [], ◌∷◌, ◌++◌, length, Option, Some, None, Result, Ok, Err, refl, sym, ap, subst, ◌∙◌, append_assoc, arith}
use Rattle.std.specs.Prelude.{if◌then◌else◌}
use Rattle.std.specs.Io.KnownBytes.{Consumes, IsAtEnd}
use Rattle.heesch_io.proofs.KnownBytes.{consumes_both, consumes_none}
use Rattle.heesch_io.specs.Input.{IsAllOf}
use Rattle.std.proofs.lemmas.Bool.{false≢true}
use Rattle.std.proofs.lemmas.List.{append-nil, length-append}
use Rattle.std.proofs.lemmas.List.Sums.{sum_by-append, count_by-le-length}
use Rattle.heesch_reader.specs.declared.item.Item.{Item}
use Rattle.heesch_reader.specs.declared.item.Part.{Part}
use Rattle.heesch_line.specs.declared.stops.LineStop.{LineStop}
use Rattle.heesch_line.specs.declared.stops.LineStop.TheVariants as line_stops
use Rattle.heesch_reader.specs.declared.progress.Progress.TheVariants as stages
use Rattle.heesch_reader.specs.Items.{Kept, none_appended}
use Rattle.heesch_reader.specs.Feeding.{Takes, Finishes, Refuses, FallsShort, RunsOut, FeedFrom, FeedResult, FinishFrom, FinishResult}
use Rattle.heesch_reader.proofs.Following.{takes_room}
use Rattle.heesch_reader.specs.declared.answers.Taken.{Taken}
use Rattle.heesch_reader.specs.declared.answers.Taken.TheVariants as takens
use Rattle.heesch_reader.specs.declared.answers.StreamStop.{StreamStop}
use Rattle.heesch_reader.specs.declared.answers.StreamStop.TheVariants as stops
use Rattle.heesch_reader.specs.Answers.{stop_of}
use Rattle.heesch_reader.specs.Input.{newlines}
use Rattle.heesch_reader.specs.Taking.{Streamed, Begins, HasFault, HasRead, HasWhole, IsSplit, TakesPiece, TakesEnd, TellsFault, TellsTooLong, RunsOutOfMemory, TakeResult, FeedsPiece, FinishesAll}
use Rattle.heesch_reader.proofs.Joining.{takes_on, refuses_on, falls_short_on, finishes_on, runs_out_on, none_on}

-- ---- known bytes

unread : Option (List ℕ) → List ℕ
unread None = []
unread (Some bytes) = bytes

all_of_both : (first between now : Option (List ℕ)) (xs ys : List ℕ) → Consumes first between xs → Consumes between now ys → IsAllOf first ((xs ++ ys) ++ unread now)
unfolding unread
all_of_both None between now xs ys c d = tt
all_of_both (Some all) None now xs ys c d = absurd c
all_of_both (Some all) (Some rest) None xs ys c d = absurd d
all_of_both (Some all) (Some rest) (Some left) xs ys c d = append_assoc xs ys left ∙ ap (λ (x : List ℕ). xs ++ x) (sym d) ∙ sym c

all_at_end : (first now : Option (List ℕ)) (xs : List ℕ) → Consumes first now xs → IsAtEnd now → IsAllOf first (xs ++ [])
all_at_end None now xs c e = tt
all_at_end (Some all) None xs c e = absurd c
all_at_end (Some all) (Some left) xs c e = ap (λ (x : List ℕ). xs ++ x) (sym e) ∙ sym c

-- ---- the start

pub begins_empty : Begins [] []
begins_empty = record {
  held = [];
  left = [];
  reached = stages.Start;
  stands = record { text = refl; lead = record { forms = tt; reached = refl }; numbered = tt; one_entry = tt; items_lead = record { behind = stages.Start; walked = refl; alike = inl refl } };
  one_line = tt;
  prompt = λ w b. refl;
  shown = λ some unended. absurd (omega arith);
}

pub nothing_read : (left : Option (List ℕ)) → HasRead left left [] (record { kept = record { refusal = None; appended = none_appended; rest = [] }; count = 0; line = 1 })
unfolding begins_empty
nothing_read left = record {
  bytes = [];
  consumed = consumes_none left;
  begins = begins_empty;
  kept_is = refl;
  count_is = refl;
  at_most = omega arith;
  line_is = refl;
}

-- ---- a piece

newlines_append : (xs ys : List ℕ) → newlines (xs ++ ys) ≡ newlines xs + newlines ys
newlines_append xs ys = sum_by-append (λ (b : ℕ). if b == 10 then 1 else 0) xs ys

pub newlines_within : (xs : List ℕ) → newlines xs ≤ length xs
newlines_within xs = count_by-le-length (λ (b : ℕ). b == 10) xs

none_again : (r : Option (LineStop Part)) (old new : Kept) (items after : List Item) (bytes : List ℕ) (res : Result (Unit {0}) (LineStop Part)) → r ≡ None → FeedFrom r old new items after bytes res → FeedFrom None old new items after bytes res
none_again r old new items after bytes res e f = subst (λ (x : Option (LineStop Part)). FeedFrom x old new items after bytes res) e f

pub fed : (old new : Kept) (items after : List Item) (piece : List ℕ) (u : Unit {0}) → old.refusal ≡ None → FeedResult old new items after piece (Ok u) → Takes old new items after (old.rest ++ piece)
fed old new items after piece u e f = none_again old.refusal old new items after (old.rest ++ piece) (Ok u) e f

pub took_piece : (old new : Streamed) (items after : List Item) (piece : List ℕ) (before now : Option (List ℕ)) → (t : Takes old.kept new.kept items after (old.kept.rest ++ piece))
    → new.count ≡ old.count + length piece → new.count ≤ 1099511627776 → new.line ≡ old.line + newlines piece → 0 < length piece → Consumes before now piece
    → TakesPiece before now old new items after
took_piece old new items after piece before now t count most line some c = record {
  more = t.found;
  after_is = t.after_is;
  grows = omega (arith, count, some);
  has_read = λ first found h.
      let n = takes_on h.bytes piece found h.begins old.kept new.kept items after h.kept_is t in
      record {
        bytes = h.bytes ++ piece;
        consumed = consumes_both first before now h.bytes piece h.consumed c;
        begins = n.0;
        kept_is = n.1;
        count_is = omega (arith, count, h.count_is, length-append h.bytes piece);
        at_most = omega (arith, count, most, h.count_is, length-append h.bytes piece);
        line_is = omega (arith, line, h.line_is, newlines_append h.bytes piece);
      };
}

with_fault : (first : Option (List ℕ)) (front behind : List ℕ) (all : List Item) (line : ℕ) (part : Part) → IsSplit first front behind
    → Refuses none_appended [] all front line part ⊎ (FallsShort none_appended [] all front line part × (behind ≡ [])) → HasFault first all line part
with_fault first front behind all line part i fault = record { input = front ++ behind; all_of = i.all_of; front = front; behind = behind; split = refl; few = i.few; fault = fault }

with_whole : (first : Option (List ℕ)) (front behind : List ℕ) (all : List Item) → IsSplit first front behind → RunsOut none_appended [] all front → HasWhole first all
with_whole first front behind all i whole = record { front = front; behind = behind; split = i; whole = whole }

-- up to a piece, or to the end
piece_split : (first before now : Option (List ℕ)) (found : List Item) (old : Streamed) (piece : List ℕ) → (h : HasRead first before found old) → Consumes before now piece → old.count + length piece ≤ 1099511627776 → IsSplit first (h.bytes ++ piece) (unread now)
piece_split first before now found old piece h c few = record {
  all_of = all_of_both first before now h.bytes piece h.consumed c;
  few = omega (arith, few, h.count_is, length-append h.bytes piece);
}

end_split : (first before : Option (List ℕ)) (found : List Item) (old : Streamed) → (h : HasRead first before found old) → IsAtEnd before → IsSplit first (h.bytes ++ []) []
end_split first before found old h end = record {
  all_of = subst (IsAllOf first) (sym (append-nil (h.bytes ++ []))) (all_at_end first before h.bytes h.consumed end);
  few = omega (arith, h.at_most, length-append h.bytes []);
}

pub refused_piece : (old : Streamed) (new : Kept) (items after : List Item) (piece : List ℕ) (line : ℕ) (part : Part) (before now : Option (List ℕ)) → old.kept.refusal ≡ None
    → FeedResult old.kept new items after piece (Err (line_stops.Fault line part)) → Consumes before now piece → old.count + length piece ≤ 1099511627776 → TellsFault before old items after line part
refused_piece old new items after piece line part before now e f c few =
    let t = (none_again old.kept.refusal old.kept new items after (old.kept.rest ++ piece) (Err (line_stops.Fault line part)) e f).0 in
    record {
      more = t.found;
      after_is = t.after_is;
      fault = λ first found h. with_fault first (h.bytes ++ piece) (unread now) (found ++ t.found) line part (piece_split first before now found old piece h c few) (inl (refuses_on h.bytes piece found h.begins old.kept items after line part h.kept_is t));
    }

pub starved_piece : (old : Streamed) (new : Kept) (items after : List Item) (piece : List ℕ) (before now : Option (List ℕ)) → old.kept.refusal ≡ None
    → FeedResult old.kept new items after piece (Err line_stops.NoMemory) → Consumes before now piece → old.count + length piece ≤ 1099511627776 → RunsOutOfMemory before old items after
starved_piece old new items after piece before now e f c few =
    let t = (none_again old.kept.refusal old.kept new items after (old.kept.rest ++ piece) (Err line_stops.NoMemory) e f).0 in
    record {
      more = t.found;
      after_is = t.after_is;
      whole = λ first found h. with_whole first (h.bytes ++ piece) (unread now) (found ++ t.found) (piece_split first before now found old piece h c few) (runs_out_on h.bytes piece found h.begins old.kept items after h.kept_is t);
    }

-- ---- the end

finish_again : (r : Option (LineStop Part)) (old new : Kept) (items after : List Item) (bytes : List ℕ) (res : Result (Unit {0}) (LineStop Part)) → r ≡ None → FinishFrom r old new items after bytes res → FinishFrom None old new items after bytes res
finish_again r old new items after bytes res e f = subst (λ (x : Option (LineStop Part)). FinishFrom x old new items after bytes res) e f

pub took_end : (old : Streamed) (new : Kept) (items after : List Item) (u : Unit {0}) (before : Option (List ℕ)) → old.kept.refusal ≡ None → FinishResult old.kept new items after (Ok u) → IsAtEnd before → TakesEnd before old items after
took_end old new items after u before e f end =
    let t = finish_again old.kept.refusal old.kept new items after old.kept.rest (Ok u) e f in
    record {
      more = t.found;
      after_is = t.after_is;
      catalogue = λ first found h.
          record {
            input = h.bytes ++ [];
            all_of = all_at_end first before h.bytes h.consumed end;
            few = omega (arith, h.at_most, length-append h.bytes []);
            catalogue = finishes_on h.bytes found h.begins old.kept new items after h.kept_is t;
          };
    }

pub fell_short : (old : Streamed) (new : Kept) (items after : List Item) (line : ℕ) (part : Part) (before : Option (List ℕ)) → old.kept.refusal ≡ None
    → FinishResult old.kept new items after (Err (line_stops.Fault line part)) → IsAtEnd before → TellsFault before old items after line part
fell_short old new items after line part before e f end =
    let t = (finish_again old.kept.refusal old.kept new items after old.kept.rest (Err (line_stops.Fault line part)) e f).0 in
    record {
      more = t.found;
      after_is = t.after_is;
      fault = λ first found h. with_fault first (h.bytes ++ []) [] (found ++ t.found) line part (end_split first before found old h end) (inr (falls_short_on h.bytes found h.begins old.kept items after line part h.kept_is t, refl));
    }

pub starved_end : (old : Streamed) (new : Kept) (items after : List Item) (before : Option (List ℕ)) → old.kept.refusal ≡ None
    → FinishResult old.kept new items after (Err line_stops.NoMemory) → IsAtEnd before → RunsOutOfMemory before old items after
starved_end old new items after before e f end =
    let same = (finish_again old.kept.refusal old.kept new items after old.kept.rest (Err line_stops.NoMemory) e f).0 in
    record {
      more = [];
      after_is = same ∙ sym (append-nil items);
      whole = λ first found h. with_whole first (h.bytes ++ []) [] (found ++ []) (end_split first before found old h end) (none_on h.bytes found h.begins old.kept h.kept_is);
    }

-- ---- the answers

-- a stream that was refused said nothing of what was read
pub refused_again : (before now : Option (List ℕ)) (failed fails : ℕ) (old new : Streamed) (items : List Item) (stop : LineStop Part) → old.kept.refusal ≡ Some stop → TakeResult before now failed fails old new items items (Err (stop_of stop))
refused_again before now failed fails old new items (line_stops.Fault line part) e = record {
  more = [];
  after_is = sym (append-nil items);
  fault = λ first found h. let bad : Some (line_stops.Fault line part) ≡ None = sym e ∙ ap (λ (k : Kept). k.refusal) h.kept_is in absurd cc;
}
refused_again before now failed fails old new items line_stops.NoMemory e = record {
  more = [];
  after_is = sym (append-nil items);
  whole = λ first found h. let bad : Some line_stops.NoMemory ≡ None = sym e ∙ ap (λ (k : Kept). k.refusal) h.kept_is in absurd cc;
}

at_end_before : (before now : Option (List ℕ)) → Consumes before now [] → IsAtEnd now → IsAtEnd before
at_end_before None now c e = tt
at_end_before (Some xs) None c e = absurd c
at_end_before (Some xs) (Some ys) c e = c ∙ e

-- no byte was read
pub finish_takes : (before now : Option (List ℕ)) (failed fails : ℕ) (old new : Streamed) (items after : List Item) (result : Result Taken StreamStop) → FinishesAll old items after result → Consumes before now [] → IsAtEnd now
    → TakeResult before now failed fails old new items after result
finish_takes before now failed fails old new items after (Ok takens.Piece) f c e = absurd f
finish_takes before now failed fails old new items after (Ok takens.End) f c e = f before (at_end_before before now c e)
finish_takes before now failed fails old new items after (Err (stops.NotText line part)) f c e = f before (at_end_before before now c e)
finish_takes before now failed fails old new items after (Err (stops.TooLong line)) f c e = absurd f
finish_takes before now failed fails old new items after (Err stops.Failed) f c e = absurd f
finish_takes before now failed fails old new items after (Err stops.NoMemory) f c e = f before (at_end_before before now c e)

-- a piece was refused
pub feed_stops : (before now : Option (List ℕ)) (failed fails : ℕ) (old new : Streamed) (items after : List Item) (piece : List ℕ) (stop : StreamStop) → FeedsPiece old new items after piece (Err stop) → Consumes before now piece
    → TakeResult before now failed fails old new items after (Err stop)
feed_stops before now failed fails old new items after piece (stops.NotText line part) f c = f before now c
feed_stops before now failed fails old new items after piece (stops.TooLong line) f c = absurd f
feed_stops before now failed fails old new items after piece stops.Failed f c = absurd f
feed_stops before now failed fails old new items after piece stops.NoMemory f c = f before now c

-- the reader's refusal of a piece, as the stream tells it
pub feed_refuses : (old new : Streamed) (items after : List Item) (piece : List ℕ) (stop : LineStop Part) → old.kept.refusal ≡ None → FeedResult old.kept new.kept items after piece (Err stop) → old.count + length piece ≤ 1099511627776 → FeedsPiece old new items after piece (Err (stop_of stop))
feed_refuses old new items after piece (line_stops.Fault line part) e f few = λ before now c. refused_piece old new.kept items after piece line part before now e f c few
feed_refuses old new items after piece line_stops.NoMemory e f few = λ before now c. starved_piece old new.kept items after piece before now e f c few

-- and of the end
pub finish_refuses : (old : Streamed) (new : Kept) (items after : List Item) (stop : LineStop Part) → old.kept.refusal ≡ None → FinishResult old.kept new items after (Err stop) → FinishesAll old items after (Err (stop_of stop))
finish_refuses old new items after (line_stops.Fault line part) e f = λ before end. fell_short old new items after line part before e f end
finish_refuses old new items after line_stops.NoMemory e f = λ before end. starved_end old new items after before e f end

-- one byte more than may be read
pub too_long : (before now : Option (List ℕ)) (old new : Streamed) (items : List Item) (byte : ℕ) → new ≡ old → Consumes before now (byte ∷ []) → old.count ≡ 1099511627776 → TellsTooLong before old new items items old.line
too_long before now old new items byte same c count = record {
  after_is = refl;
  same = same;
  too_many = λ first found h. (
    record {
      input = (h.bytes ++ byte ∷ []) ++ unread now;
      all_of = all_of_both first before now h.bytes (byte ∷ []) h.consumed c;
      front = h.bytes;
      byte = byte;
      behind = unread now;
      split = append_assoc h.bytes (byte ∷ []) (unread now);
      most = sym h.count_is ∙ count;
      begins = h.begins;
      line_is = h.line_is;
    },
    ap (λ (s : Streamed). s.kept) same ∙ h.kept_is,
  );
}

-- ---- the room that a reader has

-- after a piece the reader keeps no more lines and bytes than were read
pub fed_room : (old new : Kept) (items after : List Item) (piece : List ℕ) (u : Unit {0}) (count : ℕ) → old.refusal ≡ None → FeedResult old new items after piece (Ok u) → old.appended.lines + length old.rest ≤ count
    → (new.refusal ≡ None) × (new.appended.lines + length new.rest ≤ count + length piece)
fed_room old new items after piece u count e f room =
    let t = fed old new items after piece u e f in
    (ap (λ (k : Kept). k.refusal) t.new_is, omega (arith, room, takes_room old new items after (old.rest ++ piece) t, length-append old.rest piece))

finish_taken : (old new : Kept) (items after : List Item) → (t : Finishes old new items after old.rest) → Takes old new items after old.rest
finish_taken old new items after t = record {
  found = t.found;
  held = [];
  left = [];
  reached = t.reached;
  stands = t.stands;
  one_line = tt;
  prompt = λ w b. refl;
  after_is = t.after_is;
  new_is = t.new_is;
  shown = λ some unended. absurd (false≢true (sym unended ∙ t.ended));
}

pub finished_room : (old new : Kept) (items after : List Item) (u : Unit {0}) (count : ℕ) → old.refusal ≡ None → FinishResult old new items after (Ok u) → old.appended.lines + length old.rest ≤ count
    → (new.refusal ≡ None) × (new.appended.lines + length new.rest ≤ count)
finished_room old new items after u count e f room =
    let t = finish_again old.refusal old new items after old.rest (Ok u) e f in
    (ap (λ (k : Kept). k.refusal) t.new_is, omega (arith, room, takes_room old new items after old.rest (finish_taken old new items after t)))

-- a refusal is kept
pub fed_refusal : (old new : Kept) (items after : List Item) (piece : List ℕ) (stop : LineStop Part) → old.refusal ≡ None → FeedResult old new items after piece (Err stop) → new.refusal ≡ Some stop
fed_refusal old new items after piece (line_stops.Fault line part) e f = (none_again old.refusal old new items after (old.rest ++ piece) (Err (line_stops.Fault line part)) e f).1
fed_refusal old new items after piece line_stops.NoMemory e f = (none_again old.refusal old new items after (old.rest ++ piece) (Err line_stops.NoMemory) e f).1

pub finished_refusal : (old new : Kept) (items after : List Item) (stop : LineStop Part) → old.refusal ≡ None → FinishResult old new items after (Err stop) → new.refusal ≡ Some stop
finished_refusal old new items after (line_stops.Fault line part) e f = (finish_again old.refusal old new items after old.rest (Err (line_stops.Fault line part)) e f).1
finished_refusal old new items after line_stops.NoMemory e f = (finish_again old.refusal old new items after old.rest (Err line_stops.NoMemory) e f).1

-- ---- refusals

one_stop : (a b : LineStop Part) → stop_of a ≡ stop_of b → a ≡ b
one_stop (line_stops.Fault line part) (line_stops.Fault at other) e = cc
one_stop (line_stops.Fault line part) line_stops.NoMemory e = absurd cc
one_stop line_stops.NoMemory (line_stops.Fault at other) e = absurd cc
one_stop line_stops.NoMemory line_stops.NoMemory e = refl

-- the stream tells the refusal that it keeps
pub told_refusal : {A : Type 0} (result : Result A StreamStop) (kept : Option (LineStop Part)) (told stop : LineStop Part) → kept ≡ Some told → result ≡ Err (stop_of told) → result ≡ Err (stop_of stop) → kept ≡ Some stop
told_refusal result kept told stop k is same = let both : stop_of told ≡ stop_of stop = cc in k ∙ ap Some (one_stop told stop both)

-- a failure of the source is no refusal
pub no_refusal : {A : Type 0} (result : Result A StreamStop) (kept : Option (LineStop Part)) (stop : LineStop Part) → result ≡ Err stops.Failed → result ≡ Err (stop_of stop) → kept ≡ Some stop
no_refusal result kept (line_stops.Fault line part) is same = absurd cc
no_refusal result kept line_stops.NoMemory is same = absurd cc

-- nor is an input that is too long
pub too_long_keeps : {A : Type 0} (result : Result A StreamStop) (kept : Option (LineStop Part)) (line : ℕ) (stop : LineStop Part) → result ≡ Err (stops.TooLong line) → result ≡ Err (stop_of stop) → kept ≡ Some stop
too_long_keeps result kept line (line_stops.Fault at part) is same = absurd cc
too_long_keeps result kept line line_stops.NoMemory is same = absurd cc
