-- What bytes make of what a joiner keeps, and the faults that they show.
use Rattle.std.proofs.Common.{◌≡◌, ◌≢◌, ◌⊎◌, inl, inr, ℕ, ◌+◌, ◌<◌, ◌≤◌, ◌^◌, Bool, true, false, List, [], ◌∷◌, ◌++◌, length, map, Option, Some, None, Result, Ok, Err, refl, sym, ap, subst, ◌∙◌, append_assoc, arith}
use Rattle.std.specs.Prelude.{OnOk}
use Rattle.std.specs.List.{flat_map}
use Rattle.std.proofs.lemmas.List.{length-append, append-nil}
use Rattle.heesch_cert.specs.declared.header.Header.{Header}
use Rattle.heesch_cert.specs.declared.entry.Entry.{Entry}
use Rattle.heesch_text.specs.declared.line.Line.{Line}
use Rattle.heesch_text.specs.declared.line.Line.TheVariants as lines
use Rattle.heesch_line.specs.Forms.{HasNoNewline}
use Rattle.heesch_text.specs.Catalogue.{entry_lines}
use Rattle.heesch_grammar.specs.Entries.{AreEntryLines, HoldsItsLines}
use Rattle.heesch_grammar.proofs.Heading.{shape_step, end_step}
use Rattle.heesch_reader.specs.declared.item.Item.{Item}
use Rattle.heesch_reader.specs.declared.item.Item.TheVariants as items
use Rattle.heesch_reader.specs.declared.progress.Progress.{Progress}
use Rattle.heesch_reader.specs.declared.progress.Progress.TheVariants as stages
use Rattle.heesch_reader.proofs.Walking.{all_append}
use Rattle.heesch_reader.proofs.Walking.{has_words as line_has_words}
use Rattle.heesch_parts.specs.declared.part_line.PartLine.{PartLine}
use Rattle.heesch_parts.specs.declared.part_line.PartLine.TheVariants as parts
use Rattle.heesch_parts.specs.declared.stage.Stage.{Stage}
use Rattle.heesch_parts.specs.PartLines.{IsPartLine, part_words, part_text, parts_text}
use Rattle.heesch_parts.specs.Stages.{start, Step, Walk, end_fault}
use Rattle.heesch_parts.specs.Shares.{items_behind}
use Rattle.heesch_parts.specs.Faults.{HasFault, IsFaultBehind, IsLineFault, EndFault}
use Rattle.heesch_parts.specs.Joining.{AreBuilt, Gives, Settles, Holds, TakesLine, Kept, IsFed, GoesTo, IsFrontStop, StopsBefore, StopsWithin, AppendsUntil, IsWholeStop, IsStopBeyond, FeedsTo, Advances, HasRoom, LeavesRoom, ends_entry, new_header, shares_of, header_line, whole_lines}
use Rattle.heesch_line.specs.declared.stops.LineStop.{LineStop}
use Rattle.heesch_line.specs.declared.stops.LineStop.TheVariants as stops
use Rattle.heesch_parts.proofs.Growing.{mapped_long}
use Rattle.heesch_parts.proofs.SameParts.{parts_append}
use Rattle.heesch_parts.proofs.Stepping.{walk_push}
use Rattle.heesch_parts.proofs.Building.{stage_of, built_share, built_header}
use Rattle.heesch_parts.proofs.Taking.{line_stands, whole_entry, built_inner}
use Rattle.heesch_parts.proofs.Settling.{built_shape, built_end}

-- ---- one line

-- with what was given before
pub record Grows (ls : List PartLine) (s : Stage) (held : List Line) (given items after : List Item) : Type 0 where
  pub more : List Item
  pub after_is : after ≡ items ++ more
  pub built : AreBuilt ls s held (given ++ more)

at_progress : (ls : List PartLine) (s : Stage) (held : List Line) (given : List Item) (p : Option Progress) → s.progress ≡ p → AreBuilt ls s held given → AreBuilt ls (stage_of s.shares s.share s.header s.entries p) held given
at_progress ls s held given p e b = subst (λ (x : Option Progress). AreBuilt ls (stage_of s.shares s.share s.header s.entries x) held given) e b

nothing_more : (ls : List PartLine) (s : Stage) (held now : List Line) (given items between after : List Item) → now ≡ held → after ≡ items → AreBuilt ls s held given → Grows ls s now given items after
nothing_more ls s held now given items between after e f b = record {
  more = [];
  after_is = f ∙ sym (append-nil items);
  built = subst (λ (x : List Line). AreBuilt ls s x (given ++ [])) (sym e) (subst (λ (x : List Item). AreBuilt ls s held x) (sym (append-nil given)) b);
}

pub built_line : (ls : List PartLine) (s : Stage) (held middle now : List Line) (given items between after : List Item) (line : PartLine) (r : Stage) (before : ℕ) → AreBuilt ls s held given → IsPartLine line → Step s line (Ok r)
    → Settles (ends_entry line) before held middle items between → Holds line s.header middle now between after → before + length held ≡ length ls → Grows (ls ++ line ∷ []) r now given items after
built_line ls s held middle now given items between after (parts.Share i k) r before b form e settled holds long =
    nothing_more (ls ++ parts.Share i k ∷ []) r held now given items between after (holds.0 ∙ settled.0) (holds.1 ∙ settled.1) (built_share s.shares s.share s.header s.entries s.progress ls held given i k r b form e)
built_line ls s held middle now given items between after (parts.Catalogue (lines.Header header)) r before b form e settled holds long =
    let built = built_header s.shares s.share s.header s.entries s.progress ls held given header r b form e in
    record {
      more = new_header s.header header;
      after_is = holds.1 ∙ ap (λ (x : List Item). x ++ new_header s.header header) settled.1;
      built = subst (λ (x : List Line). AreBuilt (ls ++ parts.Catalogue (lines.Header header) ∷ []) r x (given ++ new_header s.header header)) (sym (holds.0 ∙ settled.0)) built;
    }
built_line ls s held middle now given items between after (parts.Catalogue (lines.Shape cells)) r before b form e settled holds long =
    let l = line_stands s.shares s.share s.header s.entries s.progress (lines.Shape cells) r tt e in
    let built = built_shape s.shares s.share s.header s.entries l.brief l.spot l.behind ls held middle given items between cells before r (at_progress ls s held given (Some (stages.Behind l.brief l.spot)) l.progress b) form l.step l.led settled long in
    record {
      more = items_behind before settled.more;
      after_is = holds.1 ∙ settled.after_is;
      built = subst (λ (x : List Line). AreBuilt (ls ++ parts.Catalogue (lines.Shape cells) ∷ []) r x (given ++ items_behind before settled.more)) (sym holds.0) built;
    }
built_line ls s held middle now given items between after (parts.Catalogue (lines.End count)) r before b form e settled holds long =
    let l = line_stands s.shares s.share s.header s.entries s.progress (lines.End count) r tt e in
    let built = built_end s.shares s.share s.header s.entries l.brief l.spot l.behind ls held middle given items between count before r (at_progress ls s held given (Some (stages.Behind l.brief l.spot)) l.progress b) l.step l.led settled long in
    record {
      more = items_behind before settled.more;
      after_is = holds.1 ∙ settled.after_is;
      built = subst (λ (x : List Line). AreBuilt (ls ++ parts.Catalogue (lines.End count) ∷ []) r x (given ++ items_behind before settled.more)) (sym holds.0) built;
    }
built_line ls s held middle now given items between after (parts.Catalogue line) r before b form e settled holds long =
    let l = line_stands s.shares s.share s.header s.entries s.progress line r tt e in
    let built = built_inner s.shares s.share s.header s.entries l.brief l.spot l.behind ls held given line (at_progress ls s held given (Some (stages.Behind l.brief l.spot)) l.progress b) form tt (λ n t f. absurd cc) l.step in
    let same : stage_of s.shares s.share s.header s.entries (Some (stages.Behind l.brief l.behind)) ≡ r = let f = l.led in cc in
    let at_r = subst (λ (x : Stage). AreBuilt (ls ++ parts.Catalogue line ∷ []) x (held ++ line ∷ []) given) same built in
    nothing_more (ls ++ parts.Catalogue line ∷ []) r (held ++ line ∷ []) now given items between after (holds.0 ∙ ap (λ (x : List Line). x ++ line ∷ []) settled.0) (holds.1 ∙ settled.1) at_r

-- the entry at hand is whole where the line ends it
pub may_settle : (ls : List PartLine) (s : Stage) (held : List Line) (given : List Item) (line : PartLine) (r : Stage) → AreBuilt ls s held given → Step s line (Ok r) → ends_entry line ≡ true → held ≢ [] → AreEntryLines false held
may_settle ls s held given (parts.Share i k) r b e ends some = absurd cc
may_settle ls s held given (parts.Catalogue (lines.Shape cells)) r b e ends some =
    let l = line_stands s.shares s.share s.header s.entries s.progress (lines.Shape cells) r tt e in
    let at = at_progress ls s held given (Some (stages.Behind l.brief l.spot)) l.progress b in
    whole_entry at.entries held (stage_of s.shares s.share s.header s.entries (Some (stages.Behind l.brief l.spot))) l.spot at.at_hand.2 (shape_step l.brief l.spot l.behind cells l.step).0 some
may_settle ls s held given (parts.Catalogue (lines.End count)) r b e ends some =
    let l = line_stands s.shares s.share s.header s.entries s.progress (lines.End count) r tt e in
    let at = at_progress ls s held given (Some (stages.Behind l.brief l.spot)) l.progress b in
    whole_entry at.entries held (stage_of s.shares s.share s.header s.entries (Some (stages.Behind l.brief l.spot))) l.spot at.at_hand.2 (end_step l.brief l.spot l.behind count l.step).0 some
may_settle ls s held given (parts.Catalogue line) r b e ends some = absurd cc

few_held : (shares : Option ℕ) (share : ℕ) (header : Option Header) (entries : ℕ) (p : Option Progress) (ls : List PartLine) (held : List Line) (given : List Item) → AreBuilt ls (stage_of shares share header entries p) held given → length held ≤ length ls
few_held shares share header entries None ls held given b = let none = ap length b.at_hand.1.no_line in omega (arith, none)
few_held shares share header entries (Some stages.Start) ls held given b = let none = ap length b.at_hand.1.no_line in omega (arith, none)
few_held shares share header entries (Some (stages.Behind brief spot)) ls held given b =
    let k = shares_of shares in
    let behind = header_line header ++ (flat_map entry_lines b.entries ++ held) in
    let all = ap length b.lines ∙ length-append (whole_lines 1 k header b.whole) (parts.Share share k ∷ map parts.Catalogue behind) in
    let hand = mapped_long behind in
    let both = length-append (header_line header) (flat_map entry_lines b.entries ++ held) in
    let body = length-append (flat_map entry_lines b.entries) held in
    omega (arith, all, hand, both, body)

-- no more lines are held than there were
pub held_few : (before : List ℕ) (given : List Item) (kept : Kept) → IsFed before given kept → length kept.held ≤ kept.lines
held_few before given kept f =
    let few = few_held kept.stage.shares kept.stage.share kept.stage.header kept.stage.entries kept.stage.progress f.ended kept.held given f.built in
    omega (arith, few, f.count)

-- ---- bytes

pub nothing_fed : (kept : Kept) → kept.stage ≡ start → kept.held ≡ [] → kept.left ≡ [] → kept.lines ≡ 0 → IsFed [] [] kept
nothing_fed kept stage held left lines =
    let none : AreBuilt [] start [] [] = record {
      whole = [];
      entries = [];
      lines = refl;
      given_are = refl;
      counted = (refl, refl);
      header = (refl, tt);
      at_hand = (refl, record { no_entry = refl; no_line = refl });
      each = tt;
      each_of_last = tt;
      held_forms = tt;
      all = omega arith;
      most = omega arith;
    } in
    record {
      ended = [];
      text = sym left;
      one_line = subst HasNoNewline (sym left) tt;
      forms = tt;
      walk = sym stage;
      count = lines;
      built = subst (λ (s : Stage). AreBuilt [] s kept.held []) (sym stage) (subst (λ (h : List Line). AreBuilt [] start h []) (sym held) none);
    }

line_more : (line : List ℕ) (b : ℕ) → HasNoNewline line → b ≢ 10 → HasNoNewline (line ++ b ∷ [])
line_more [] b h other = (other, tt)
line_more (c ∷ line) b h other = (h.0, line_more line b h.1 other)

-- no byte more
pub nothing_new : (bytes : List ℕ) (given items : List Item) (kept : Kept) → IsFed bytes given kept → GoesTo bytes given items items kept
nothing_new bytes given items kept f = record { more = []; after_is = sym (append-nil items); fed = subst (λ (x : List Item). IsFed bytes x kept) (sym (append-nil given)) f }

-- memory was refused before these bytes
pub refused_before : (before more : List ℕ) (given items : List Item) (kept : Kept) → IsFed before given kept → StopsWithin (before ++ more) given items items
refused_before before more given items kept f = record { seen = before; unseen = more; split = refl; kept = kept; goes = nothing_new before given items kept f }

-- a byte of the line
pub byte_fed : (before : List ℕ) (given items : List Item) (old new : Kept) (byte : ℕ) → IsFed before given old → byte ≢ 10 → new.stage ≡ old.stage → new.held ≡ old.held → new.lines ≡ old.lines → new.left ≡ old.left ++ byte ∷ []
    → GoesTo (before ++ byte ∷ []) given items items new
byte_fed before given items old new byte f other stage held lines left = record {
  more = [];
  after_is = sym (append-nil items);
  fed = record {
    ended = f.ended;
    text = ap (λ (x : List ℕ). x ++ byte ∷ []) f.text ∙ append_assoc (parts_text f.ended) old.left (byte ∷ []) ∙ ap (λ (x : List ℕ). parts_text f.ended ++ x) (sym left);
    one_line = subst HasNoNewline (sym left) (line_more old.left byte f.one_line other);
    forms = f.forms;
    walk = subst (λ (s : Stage). Walk start f.ended s) (sym stage) f.walk;
    count = lines ∙ f.count;
    built = subst (λ (s : Stage). AreBuilt f.ended s new.held (given ++ [])) (sym stage) (subst (λ (h : List Line). AreBuilt f.ended old.stage h (given ++ [])) (sym held) (subst (λ (x : List Item). AreBuilt f.ended old.stage old.held x) (sym (append-nil given)) f.built));
  };
}

-- the newline of a line that may stand
pub line_fed : (before : List ℕ) (given items after : List Item) (old new : Kept) (line : PartLine) (reached : Stage) → IsFed before given old → IsPartLine line → part_words line ≡ old.left → Step old.stage line (Ok reached)
    → TakesLine old new line reached items after → GoesTo (before ++ 10 ∷ []) given items after new
line_fed before given items after old new line reached f form words step t =
    let g = built_line f.ended old.stage old.held t.middle new.held given items t.between after line reached t.before f.built form step t.settled t.holds (t.before_is ∙ f.count) in
    let whole : parts_text f.ended ++ (old.left ++ 10 ∷ []) ≡ parts_text (f.ended ++ line ∷ []) ++ new.left =
    ap (λ (x : List ℕ). parts_text f.ended ++ (x ++ 10 ∷ [])) (sym words)
    ∙ ap (λ (x : List ℕ). parts_text f.ended ++ x) (sym (append-nil (part_text line)))
    ∙ sym (parts_append f.ended (line ∷ []))
    ∙ sym (append-nil (parts_text (f.ended ++ line ∷ [])))
    ∙ ap (λ (x : List ℕ). parts_text (f.ended ++ line ∷ []) ++ x) (sym t.left) in
    record {
      more = g.more;
      after_is = g.after_is;
      fed = record {
        ended = f.ended ++ line ∷ [];
        text = ap (λ (x : List ℕ). x ++ 10 ∷ []) f.text ∙ append_assoc (parts_text f.ended) old.left (10 ∷ []) ∙ whole;
        one_line = subst HasNoNewline (sym t.left) tt;
        forms = all_append IsPartLine f.ended (line ∷ []) f.forms (form, tt);
        walk = subst (λ (s : Stage). Walk start (f.ended ++ line ∷ []) s) (sym t.stage) (walk_push start old.stage reached f.ended line f.walk step);
        count = t.lines ∙ ap (λ (n : ℕ). n + 1) f.count ∙ sym (length-append f.ended (line ∷ []));
        built = subst (λ (s : Stage). AreBuilt (f.ended ++ line ∷ []) s new.held (given ++ g.more)) (sym t.stage) g.built;
      };
    }

-- memory was refused behind the entry at hand: where the line appends anything more, nothing was appended
pub held_until : (line : PartLine) (old : Kept) (reached : Stage) (before : ℕ) (middle : List Line) (items between after : List Item) → before + length old.held ≡ old.lines → Settles (ends_entry line) before old.held middle items between → after ≡ between
    → (after ≡ items) ⊎ ((taken : Kept) × TakesLine old taken line reached items after)
held_until (parts.Share i k) old reached before middle items between after long settled same = inl (same ∙ settled.1)
held_until (parts.Catalogue (lines.Shape cells)) old reached before middle items between after long settled same = inr (
  record { stage = reached; held = middle ++ lines.Shape cells ∷ []; left = []; lines = old.lines + 1 },
  record { middle = middle; between = between; before = before; before_is = long; settled = settled; holds = (refl, same); stage = refl; left = refl; lines = refl },
)
held_until (parts.Catalogue (lines.End count)) old reached before middle items between after long settled same = inr (
  record { stage = reached; held = middle; left = []; lines = old.lines + 1 },
  record { middle = middle; between = between; before = before; before_is = long; settled = settled; holds = (refl, same); stage = refl; left = refl; lines = refl },
)
held_until (parts.Catalogue line) old reached before middle items between after long settled same = inl (same ∙ settled.1)

-- the answer to it
pub advanced : (r : Result (Unit {0}) (LineStop ℕ)) (before : List ℕ) (given items after : List Item) (old new : Kept) (line : PartLine) (reached : Stage) → IsFed before given old → IsPartLine line → part_words line ≡ old.left → Step old.stage line (Ok reached)
    → Advances old new line reached items after r → FeedsTo (before ++ 10 ∷ []) given items after new r
advanced (Ok u) before given items after old new line reached f form words step a = line_fed before given items after old new line reached f form words step a
advanced (Err (stops.Fault at fault)) before given items after old new line reached f form words step a = absurd a
advanced (Err stops.NoMemory) before given items after old new line reached f form words step a = elim a [
  | inl same ↦ (tt, subst (λ (x : List Item). StopsWithin (before ++ 10 ∷ []) given items x) (sym same) (refused_before before (10 ∷ []) given items old f))
  | inr t ↦ (tt, record { seen = before ++ 10 ∷ []; unseen = []; split = sym (append-nil (before ++ 10 ∷ [])); kept = t.0; goes = line_fed before given items after old t.0 line reached f form words step t.1 })
]

-- a line has a byte
has_words : (line : PartLine) → 0 < length (part_words line)
has_words (parts.Share i k) = omega arith
has_words (parts.Catalogue line) = line_has_words line

-- the answer to it leaves room
pub leaves_room : (r : Result (Unit {0}) (LineStop ℕ)) (items after : List Item) (old new : Kept) (line : PartLine) (reached : Stage) → part_words line ≡ old.left → old.lines + length old.left + 1 < 2 ^ 64 → Advances old new line reached items after r
    → OnOk r (LeavesRoom old new 1 × HasRoom new)
leaves_room (Ok u) items after old new line reached words room a =
    let none = ap length a.left in
    let some = has_words line in
    let same = ap length words in
    (omega (arith, none, a.lines), omega (arith, some, same, room, a.lines))
leaves_room (Err e) items after old new line reached words room a = tt

-- ---- faults

bytes_long : (before : List ℕ) (given : List Item) (kept : Kept) → (f : IsFed before given kept) → length before ≡ length (parts_text f.ended) + length kept.left
bytes_long before given kept f = ap length f.text ∙ length-append (parts_text f.ended) kept.left

goes_on_as : (before more : List ℕ) (given : List Item) (kept : Kept) → (f : IsFed before given kept) → before ++ more ≡ parts_text f.ended ++ (kept.left ++ more)
goes_on_as before more given kept f = ap (λ (x : List ℕ). x ++ more) f.text ∙ append_assoc (parts_text f.ended) kept.left more

-- a fault behind the lines that ended
fault_behind : (most : ℕ) (text rest before : List ℕ) (given : List Item) (kept : Kept) (number : ℕ) → (f : IsFed before given kept) → text ≡ parts_text f.ended ++ rest → length (parts_text f.ended) ≤ most
    → IsFaultBehind most (parts_text f.ended) rest kept.stage number → HasFault most text (kept.lines + 1) number
fault_behind most text rest before given kept number f split in_time fault = record {
  front = f.ended;
  rest = rest;
  stage = kept.stage;
  split = split;
  forms = f.forms;
  walk = f.walk;
  in_time = in_time;
  fault = fault;
  line_is = ap (λ (n : ℕ). n + 1) f.count;
}

-- the line that ended
line_fault : (before : List ℕ) (given : List Item) (kept : Kept) (number : ℕ) (e : LineStop ℕ) → IsFed before given kept → IsLineFault kept.left kept.stage number → e ≡ stops.Fault (kept.lines + 1) number → IsFrontStop (before ++ 10 ∷ []) e
line_fault before given kept number e f fault is = subst (IsFrontStop (before ++ 10 ∷ [])) (sym is) told
  where
    told : IsFrontStop (before ++ 10 ∷ []) (stops.Fault (kept.lines + 1) number)
    told most rest few =
        let one = length-append before (10 ∷ []) in
        let long = bytes_long before given kept f in
        fault_behind most ((before ++ 10 ∷ []) ++ rest) (kept.left ++ 10 ∷ rest) before given kept number f (append_assoc before (10 ∷ []) rest ∙ goes_on_as before (10 ∷ rest) given kept f) (omega (arith, few, one, long))
        (inl (record { words = kept.left; back = rest; split = refl; one_line = f.one_line; in_time = omega (arith, few, one, long); fault = fault }))

-- nothing was appended in it
pub line_stops : (before : List ℕ) (given items : List Item) (kept : Kept) (number : ℕ) (e : LineStop ℕ) → IsFed before given kept → IsLineFault kept.left kept.stage number → e ≡ stops.Fault (kept.lines + 1) number → FeedsTo (before ++ 10 ∷ []) given items items kept (Err e)
line_stops before given items kept number e f fault is =
    let stopped : StopsBefore (before ++ 10 ∷ []) given items items kept = record { seen = before; unseen = []; split = refl; goes = nothing_new before given items kept f } in
    (line_fault before given kept number e f fault is, subst (AppendsUntil (before ++ 10 ∷ []) given items items kept) (sym is) stopped)

end_told : (before : List ℕ) (given : List Item) (kept : Kept) (number : ℕ) → IsFed before given kept → EndFault kept.left kept.stage number → IsWholeStop before (stops.Fault (kept.lines + 1) number)
end_told before given kept number f fault most few =
    let long = bytes_long before given kept f in
    fault_behind most before kept.left before given kept number f f.text (omega (arith, few, long)) (inr (inl (record { one_line = f.one_line; in_time = omega (arith, few, long); fault = fault })))

amid_line : (left : List ℕ) (s : Stage) → (left ≡ [] → ⊥) → EndFault left s 6
amid_line [] s some = absurd (some refl)
amid_line (b ∷ left) s some = refl

-- the input ends in a line
pub ends_amid : (before : List ℕ) (given : List Item) (kept : Kept) (e : LineStop ℕ) → IsFed before given kept → (kept.left ≡ [] → ⊥) → e ≡ stops.Fault (kept.lines + 1) 6 → IsWholeStop before e
ends_amid before given kept e f some is = subst (IsWholeStop before) (sym is) (end_told before given kept 6 f (amid_line kept.left kept.stage some))

-- the input ends behind a line
pub ends_behind : (before : List ℕ) (given : List Item) (kept : Kept) (number : ℕ) (e : LineStop ℕ) → IsFed before given kept → kept.left ≡ [] → end_fault kept.stage ≡ Some number → e ≡ stops.Fault (kept.lines + 1) number → IsWholeStop before e
ends_behind before given kept number e f none fault is = subst (IsWholeStop before) (sym is) (end_told before given kept number f (subst (λ (x : List ℕ). EndFault x kept.stage number) (sym none) fault))

-- the input goes on beyond what is read
pub goes_beyond : (before : List ℕ) (given : List Item) (kept : Kept) (e : LineStop ℕ) → IsFed before given kept → e ≡ stops.Fault (kept.lines + 1) 8 → IsStopBeyond before e
goes_beyond before given kept e f is = subst (IsStopBeyond before) (sym is) told
  where
    told : IsStopBeyond before (stops.Fault (kept.lines + 1) 8)
    told byte rest =
        let long = bytes_long before given kept f in
        fault_behind (length before) (before ++ byte ∷ rest) (kept.left ++ byte ∷ rest) before given kept 8 f (goes_on_as before (byte ∷ rest) given kept f) (omega (arith, long))
        (inr (inr (record { line = kept.left; byte = byte; back = rest; split = refl; one_line = f.one_line; all_read = sym long; number_is = refl })))

-- ---- the entry at hand

-- it is appended
pub settles : {E : Type 0} (r : Result (Unit {0}) E) (ends : Bool) (before : ℕ) (held now : List Line) (given after : List Item) (e : Entry) → ends ≡ true → entry_lines e ≡ held → HoldsItsLines e → AreEntryLines false held → now ≡ []
    → OnOk r (after ≡ given ++ items.Entry (before + 1) e ∷ []) → OnOk r (Settles ends before held now given after)
settles (Ok u) ends before held now given after e is lines holds made none pushed =
    let gives : Gives before held now given after = record {
      more = e ∷ [];
      lines = append-nil (entry_lines e) ∙ lines;
      made = ((subst (λ (x : List Line). AreEntryLines false x) (sym lines) made, holds), tt);
      one = inr refl;
      none_held = none;
      after_is = pushed;
    } in
    subst (λ (b : Bool). Settles b before held now given after) (sym is) gives
settles (Err x) ends before held now given after e is lines holds made none pushed = tt
