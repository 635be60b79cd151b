-- Bytes that may end are those of shares; and bytes one after the other.
use Rattle.std.proofs.Common.{◌≡◌, ℕ, ◌+◌, ◌<◌, ◌==◌, Bool, true, false, List, [], ◌∷◌, ◌++◌, length, take, drop, get_or, Option, Some, None, Result, Ok, Err, if◌then◌else◌, refl, sym, ap, subst, ◌∙◌, append_assoc, arith}
use Rattle.std.specs.Prelude.{OnOk}
use Rattle.std.proofs.lemmas.Bool.{eqb-true}
use Rattle.std.proofs.lemmas.List.{length-append, append-nil, take_more, take-append-drop}
use Rattle.heesch_cert.specs.declared.header.Header.{Header}
use Rattle.heesch_cert.specs.declared.entry.Entry.{Entry}
use Rattle.heesch_reader.specs.declared.item.Item.{Item}
use Rattle.heesch_reader.specs.declared.item.Item.TheVariants as items
use Rattle.heesch_reader.specs.declared.progress.Progress.{Progress}
use Rattle.heesch_text.specs.declared.line.Line.{Line}
use Rattle.heesch_parts.specs.declared.part_line.PartLine.{PartLine}
use Rattle.heesch_parts.specs.PartLines.{parts_text}
use Rattle.heesch_parts.specs.Stages.{fault_at_end, end_fault}
use Rattle.heesch_parts.specs.Shares.{entries_of, items_behind, share_items, shares_from}
use Rattle.heesch_parts.specs.Faults.{HasFault}
use Rattle.heesch_parts.specs.Joining.{AreBuilt, Kept, IsFed, GoesTo, FeedsTo, IsFrontStop, AppendsUntil, Joins, HasRoom, LeavesRoom, MayGoOn, MayGoOnUnless, refusal_of, lines_before}
use Rattle.heesch_line.specs.declared.stops.LineStop.{LineStop}
use Rattle.heesch_line.specs.declared.stops.LineStop.TheVariants as stops
use Rattle.heesch_parts.proofs.Building.{stage_of}
use Rattle.heesch_parts.proofs.WholeShares.{full_header, whole_lines_text}

-- ---- the end

abbrev missing : Bool → Option ℕ
missing b = if b then None else Some 11

none_left : (b : Bool) → missing b ≡ None → b ≡ true
none_left true e = refl
none_left false e = absurd cc

-- bytes behind whole lines are those of shares, where they may end
joins_at : (shares : Option ℕ) (share : ℕ) (header : Option Header) (entries : ℕ) (p : Option Progress) (ls : List PartLine) (held : List Line) (given before after : List Item) (bytes : List ℕ)
    → AreBuilt ls (stage_of shares share header entries p) held given → fault_at_end p (stage_of shares share header entries p) ≡ None → bytes ≡ parts_text ls → after ≡ before ++ items.End entries ∷ [] → Joins bytes given before after
joins_at shares share header entries (Some progress) ls held given before after bytes b e text pushed = absurd cc
joins_at None share header entries None ls held given before after bytes b e text pushed = absurd cc
joins_at (Some k) share None entries None ls held given before after bytes b e text pushed =
    let none = ap length b.header.0 in
    absurd (omega (arith, none, b.counted.0, b.at_hand.0))
joins_at (Some k) share (Some header) entries None ls held given before after bytes b e text pushed =
    let all : share ≡ k = eqb-true share k (none_left (share == k) e) in
    let count : k ≡ length b.whole = sym all ∙ b.at_hand.0 in
    let full = full_header header b.header.joins in
    let entries_are : entries ≡ length (entries_of b.whole) = omega (arith, b.all) in
    let items_are : given ≡ items.Header header ∷ share_items 0 b.whole =
    b.given_are ∙ ap (λ (x : List Entry). items.Header header ∷ (share_items 0 b.whole ++ items_behind (lines_before b.whole + 2) x)) b.at_hand.1.no_entry ∙ ap (λ (x : List Item). items.Header header ∷ x) (append-nil (share_items 0 b.whole)) in
    record {
      header = header;
      shares = b.whole;
      are = record {
        text_is = text ∙ ap parts_text (b.lines ∙ append-nil _) ∙ whole_lines_text 1 k header b.whole full ∙ ap (λ (x : ℕ). shares_from 1 x header b.whole) count;
        some = omega (arith, b.counted.0, b.at_hand.0);
        most = omega (arith, b.counted, count);
        header_is = b.header;
        each = b.each;
        all = omega (arith, b.most, entries_are);
      };
      more = items.End entries ∷ [];
      after_is = pushed;
      joined = ap (λ (x : List Item). x ++ items.End entries ∷ []) items_are ∙ ap (λ (x : ℕ). items.Header header ∷ (share_items 0 b.whole ++ items.End x ∷ [])) entries_are;
    }

pub joins : (bytes : List ℕ) (given before after : List Item) (kept : Kept) → IsFed bytes given kept → kept.left ≡ [] → end_fault kept.stage ≡ None → after ≡ before ++ items.End kept.stage.entries ∷ [] → Joins bytes given before after
joins bytes given before after kept f none e pushed =
    let s = kept.stage in
    joins_at s.shares s.share s.header s.entries s.progress f.ended kept.held given before after bytes f.built e (f.text ∙ ap (λ (x : List ℕ). parts_text f.ended ++ x) none ∙ append-nil (parts_text f.ended)) pushed

-- ---- bytes one after the other

-- more bytes, behind those before
pub goes_on : (bytes more : List ℕ) (given before between after : List Item) (mid new : Kept) → (g : GoesTo bytes given before between mid) → GoesTo more (given ++ g.more) between after new → GoesTo more given before after new
goes_on bytes more given before between after mid new g h = record {
  more = g.more ++ h.more;
  after_is = h.after_is ∙ ap (λ (x : List Item). x ++ h.more) g.after_is ∙ append_assoc before g.more h.more;
  fed = subst (λ (x : List Item). IsFed more x new) (append_assoc given g.more h.more) h.fed;
}

pub byte_more : (before bytes : List ℕ) (i d : ℕ) → i < length bytes → (before ++ take i bytes) ++ get_or bytes i d ∷ [] ≡ before ++ take (i + 1) bytes
byte_more before bytes i d less = append_assoc before (take i bytes) (get_or bytes i d ∷ []) ∙ ap (λ (t : List ℕ). before ++ t) (sym (take_more bytes i d less))

all_bytes : (before bytes : List ℕ) (i : ℕ) → (before ++ take (i + 1) bytes) ++ drop (i + 1) bytes ≡ before ++ bytes
all_bytes before bytes i = append_assoc before (take (i + 1) bytes) (drop (i + 1) bytes) ∙ ap (λ (t : List ℕ). before ++ t) (take-append-drop (i + 1) bytes)

-- a fault at a front is one of a longer front
pub front_stop_later : (front more : List ℕ) (e : LineStop ℕ) → IsFrontStop front e → IsFrontStop (front ++ more) e
front_stop_later front more (stops.Fault line fault) h = λ most rest few.
    subst (λ (t : List ℕ). HasFault most t line fault) (sym (append_assoc front more rest)) (h most (more ++ rest) (omega (arith, few, length-append front more)))
front_stop_later front more stops.NoMemory h = tt

-- the fault of one byte is that of all
byte_stops : (before bytes : List ℕ) (i d : ℕ) (e : LineStop ℕ) → i < length bytes → IsFrontStop ((before ++ take i bytes) ++ get_or bytes i d ∷ []) e → IsFrontStop (before ++ bytes) e
byte_stops before bytes i d e less h =
    subst (λ (t : List ℕ). IsFrontStop t e) (all_bytes before bytes i) (front_stop_later (before ++ take (i + 1) bytes) (drop (i + 1) bytes) e (subst (λ (t : List ℕ). IsFrontStop t e) (byte_more before bytes i d less) h))

-- what was appended until then
appends_later : (bytes more : List ℕ) (given before between after : List Item) (mid new : Kept) (e : LineStop ℕ) → (g : GoesTo bytes given before between mid) → AppendsUntil more (given ++ g.more) between after new e → (back : List ℕ) → AppendsUntil (more ++ back) given before after new e
appends_later bytes more given before between after mid new (stops.Fault line fault) g h back = record {
  seen = h.seen;
  unseen = h.unseen ++ back;
  split = ap (λ (x : List ℕ). x ++ back) h.split ∙ append_assoc h.seen (10 ∷ h.unseen) back;
  goes = goes_on bytes h.seen given before between after mid new g h.goes;
}
appends_later bytes more given before between after mid new stops.NoMemory g h back = record {
  seen = h.seen;
  unseen = h.unseen ++ back;
  split = ap (λ (x : List ℕ). x ++ back) h.split ∙ append_assoc h.seen h.unseen back;
  kept = h.kept;
  goes = goes_on bytes h.seen given before between after mid h.kept g h.goes;
}

-- a byte stops the joiner, behind those before it
pub byte_ends : (r : Result (Unit {0}) (LineStop ℕ)) (before bytes : List ℕ) (i d : ℕ) (given items between after : List Item) (mid new : Kept) (e : LineStop ℕ) → i < length bytes → (g : GoesTo (before ++ take i bytes) given items between mid)
    → FeedsTo ((before ++ take i bytes) ++ get_or bytes i d ∷ []) (given ++ g.more) between after new (Err e) → r ≡ Err e → FeedsTo (before ++ bytes) given items after new r
byte_ends r before bytes i d given items between after mid new e less g h is =
    let appended = appends_later (before ++ take i bytes) ((before ++ take i bytes) ++ get_or bytes i d ∷ []) given items between after mid new e g h.1 (drop (i + 1) bytes) in
    let whole : ((before ++ take i bytes) ++ get_or bytes i d ∷ []) ++ drop (i + 1) bytes ≡ before ++ bytes = ap (λ (x : List ℕ). x ++ drop (i + 1) bytes) (byte_more before bytes i d less) ∙ all_bytes before bytes i in
    subst (λ (x : Result (Unit {0}) (LineStop ℕ)). FeedsTo (before ++ bytes) given items after new x) (sym is)
    (byte_stops before bytes i d e less h.0, subst (λ (x : List ℕ). AppendsUntil x given items after new e) whole appended)

-- a joiner that hasn't refused may go on
pub goes_unless : (r : Result (Unit {0}) (LineStop ℕ)) (refusal : Option (LineStop ℕ)) (old new : Kept) (piece : List ℕ) (items after : List Item) → refusal ≡ refusal_of r → MayGoOn old
    → ((before : List ℕ) (given : List Item) → IsFed before given old → FeedsTo (before ++ piece) given items after new r) → OnOk r (LeavesRoom old new (length piece) × HasRoom new) → MayGoOnUnless refusal new
goes_unless (Ok u) refusal old new piece items after e going told room =
    let g = told going.0 going.1 going.2 in
    subst (λ (x : Option (LineStop ℕ)). MayGoOnUnless x new) (sym e) (going.0 ++ piece, going.1 ++ g.more, g.fed, room.1)
goes_unless (Err stop) refusal old new piece items after e going told room = subst (λ (x : Option (LineStop ℕ)). MayGoOnUnless x new) (sym e) tt
