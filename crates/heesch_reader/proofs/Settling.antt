-- What settling makes of a scan, and what a move keeps.
use Rattle.std.proofs.Common.{◌≡◌, ℕ, ◌+◌, ◌<◌, ◌≤◌, ◌^◌, Bool, true, false, ◌&&◌, ◌||◌, ◌==◌, List, [], ◌∷◌, ◌++◌, length, Option, Some, None, refl, sym, ap, subst, ◌∙◌, append_assoc, arith, ◌⊎◌, inl, inr}
use Rattle.std.specs.Prelude.{not}
use Rattle.std.proofs.lemmas.Bool.{eqb-true}
use Rattle.std.proofs.lemmas.List.{append-nil, length-append, nil_from_length}
use Rattle.heesch_cert.specs.declared.header.Header.{Header}
use Rattle.heesch_text.specs.declared.line.Line.{Line}
use Rattle.heesch_text.specs.Lines.{words_of, line_text, text_of}
use Rattle.heesch_grammar.specs.declared.place.Place.TheVariants as places
use Rattle.heesch_grammar.specs.declared.spot.Spot.{Spot}
use Rattle.heesch_grammar.specs.Grammar.{is_whole}
use Rattle.heesch_grammar.specs.Statements.{between_entries}
use Rattle.heesch_reader.specs.declared.item.Item.{Item}
use Rattle.heesch_reader.specs.declared.progress.Progress.{Progress}
use Rattle.heesch_reader.specs.declared.progress.Progress.TheVariants as stages
use Rattle.heesch_reader.specs.declared.scan.Appended.{Appended}
use Rattle.heesch_reader.specs.declared.scan.Scan.{Scan}
use Rattle.heesch_reader.specs.Progress.{next, may_end, between}
use Rattle.heesch_reader.specs.Items.{lines_of, with_items, AreItemsAt, progress_behind, progress_of}
use Rattle.heesch_reader.specs.Faults.{begins_next, part_of}
use Rattle.heesch_reader.specs.Feeding.{IsBehindEntry, ItemsLead, Stands, BeginEntry, IsPrompt, IsPromptAtEnd, IsShown, IsShownAtEnd}
use Rattle.heesch_reader.specs.Scanning.{IsScan, Moves, GivesEntry, Settles, rest_of, shows_whole, shows_whole_at_end}
use Rattle.heesch_reader.proofs.Ending.{no_lines, is_none}
use Rattle.heesch_reader.proofs.Walking.{same_next, same_part, outer_words, shows_more}
use Rattle.heesch_reader.proofs.ItemLines.{with_items_append, lines_counted, items_append, lines_append}

-- ---- moves

-- what stood before a move, and the move
pub record Stood (first : Appended) (s : Scan) (before after : List Item) (found : List Item) : Type 0 where
  pub after_is : after ≡ before ++ found
  pub appended : s.appended ≡ with_items first found
  pub numbered : AreItemsAt first.lines found

pub stood_on : (first : Appended) (s t : Scan) (before middle after : List Item) (found : List Item) (read : List Line) → Stood first s before middle found → (m : Moves s t middle after read) → Stood first t before after (found ++ m.found)
stood_on first s t before middle after found read f m =
    let there : s.appended.lines ≡ first.lines + length (lines_of found) = ap (λ (a : Appended). a.lines) f.appended ∙ lines_counted first found in
    record {
      after_is = m.after_is ∙ ap (λ (x : List Item). x ++ m.found) f.after_is ∙ append_assoc before found m.found;
      appended = m.appended ∙ ap (λ (a : Appended). with_items a m.found) f.appended ∙ sym (with_items_append first found m.found);
      numbered = items_append first.lines found m.found f.numbered (subst (λ (n : ℕ). AreItemsAt n m.found) there m.numbered);
    }

pub same_lines : (s t : Scan) (before after : List Item) (found : List Item) (read : List Line) → (m : Moves s t before after read)
    → lines_of (found ++ m.found) ++ t.lines.items ≡ (lines_of found ++ s.lines.items) ++ read
same_lines s t before after found read m =
    ap (λ (x : List Line). x ++ t.lines.items) (lines_append found m.found) ∙ append_assoc (lines_of found) (lines_of m.found) t.lines.items
    ∙ ap (λ (x : List Line). lines_of found ++ x) (sym m.split) ∙ sym (append_assoc (lines_of found) s.lines.items read)

-- with none at hand
pub last_lines : (s t : Scan) (before after : List Item) (found : List Item) (read : List Line) → (m : Moves s t before after read) → t.lines.items ≡ []
    → lines_of (found ++ m.found) ≡ (lines_of found ++ s.lines.items) ++ read
last_lines s t before after found read m none =
    sym (append-nil (lines_of (found ++ m.found))) ∙ ap (λ (x : List Line). lines_of (found ++ m.found) ++ x) (sym none) ∙ same_lines s t before after found read m

-- the same lines, in other groups
pub regroup : (first : Appended) (bytes : List ℕ) (found other : List Item) (held more : List Line) (left line : List ℕ) (reached : Progress) → Stands first bytes found held left reached
    → lines_of other ++ more ≡ lines_of found ++ held → line ≡ left → AreItemsAt first.lines other → BeginEntry more → ItemsLead first other → Stands first bytes other more line reached
regroup first bytes found other held more left line reached s e f n b l = record {
  text = rw (e, f) s.text;
  lead = record { forms = rw e s.lead.forms; reached = rw e s.lead.reached };
  numbered = n;
  one_entry = b;
  items_lead = l;
}

-- ---- settling

-- the entry at hand was given or not, and nothing else
pub record Settled (s t : Scan) (before after : List Item) : Type 0 where
  pub moves : Moves s t before after []
  pub line : t.line.items ≡ s.line.items
  pub part : (bytes : List ℕ) → part_of s.progress bytes ≡ part_of t.progress bytes
  pub behind : (moves.found ≡ []) ⊎ ((t.lines.items ≡ []) × IsBehindEntry s.progress t.appended)

nothing_moves : (s : Scan) (items : List Item) → IsScan s → Moves s s items items []
nothing_moves s items i = record { found = []; after_is = sym (append-nil items); appended = refl; numbered = tt; split = append-nil s.lines.items; apart = inl refl; is = i }

-- behind an end no entry may end
not_ended : (p : Progress) (header : Option Header) (entries : ℕ) (ended : Bool) → may_end p ≡ true → between p ≡ progress_behind header entries ended → ended ≡ false
not_ended stages.Start header entries ended w e = absurd cc
not_ended (stages.Behind brief spot) None entries ended w e = absurd cc
not_ended (stages.Behind brief spot) (Some header) entries true w e =
    let f : between_entries spot ≡ record { shapes = entries; place = places.Ended } = cc in
    let g = ap (λ (s : Spot). is_whole s.place) f in
    absurd cc
not_ended (stages.Behind brief spot) (Some header) entries false w e = refl

behind_given : (s t : Scan) (before after : List Item) → may_end s.progress ≡ true → GivesEntry s t before after → IsBehindEntry s.progress t.appended
behind_given s t before after w g =
    let there : between s.progress ≡ progress_of t.appended = sym g.progress ∙ sym (no_lines (progress_of t.appended) t.progress t.lines.items g.none_held g.moves.is.lead.reached) in
    record {
      whole = w;
      between = there;
      some = omega (arith, g.one_more);
      unended = not_ended s.progress t.appended.header t.appended.entries t.appended.ended w there;
    }

pub settled : (b : Bool) (s t : Scan) (before after : List Item) → IsScan s → (b ≡ true → may_end s.progress ≡ true) → Settles b s t before after → Settled s t before after
unfolding nothing_moves
settled true s t before after i w g = record {
  moves = g.moves;
  line = g.line;
  part = λ bytes. same_part s.progress bytes (w refl) ∙ ap (λ (p : Progress). part_of p bytes) (sym g.progress);
  behind = inr (g.none_held, behind_given s t before after (w refl) g);
}
settled false s t before after i w g =
    let none : Settled s s before before = record { moves = nothing_moves s before i; line = refl; part = λ bytes. refl; behind = inl refl } in
    subst (λ (x : Scan). Settled s x before after) (sym g.0) (subst (λ (x : List Item). Settled s s before x) (sym g.1) none)

pub both : (a b : Bool) → (a && b) ≡ true → (a ≡ true) × (b ≡ true)
both true b e = (refl, e)
both false b e = absurd cc

-- the tests that come before
tests : (n : ℕ) (w b : Bool) → ((not (n == 0) && w) && b) ≡ true → (w ≡ true) × (b ≡ true)
tests n w b e = let f = both (not (n == 0) && w) b e in ((both (not (n == 0)) w f.0).1, f.1)

none_left : (b c : Bool) (s t : Scan) (before after : List Item) → Settles b s t before after → ((not (length s.lines.items == 0) && may_end s.progress) && c) ≡ b → may_end s.progress ≡ true → c ≡ true → t.lines.items ≡ []
none_left true c s t before after g e w f = g.none_held
none_left false c s t before after g e w f = rw g.0 (nil_from_length s.lines.items (is_none (length s.lines.items) (may_end s.progress) c e w f))

-- `settle` leaves nothing to settle
pub settles : (s t : Scan) (before after : List Item) → IsScan s → Settles (shows_whole s) s t before after → Settled s t before after
settles s t before after i g = settled (shows_whole s) s t before after i (λ e. (tests (length s.lines.items) (may_end s.progress) (begins_next s.line.items) e).0) g

pub prompt_after : (s t : Scan) (before after : List Item) → Settles (shows_whole s) s t before after → IsPrompt t.lines.items s.line.items s.progress
prompt_after s t before after g w b = none_left (shows_whole s) (begins_next s.line.items) s t before after g refl w b

pub settles_at_end : (s t : Scan) (before after : List Item) → IsScan s → Settles (shows_whole_at_end s) s t before after → Settled s t before after
settles_at_end s t before after i g =
    settled (shows_whole_at_end s) s t before after i (λ e. (tests (length s.lines.items) (may_end s.progress) (length s.line.items == 0 || begins_next s.line.items) e).0) g

or_true : (a : Bool) → (a || true) ≡ true
or_true true = refl
or_true false = refl

pub prompt_at_end : (s t : Scan) (before after : List Item) → Settles (shows_whole_at_end s) s t before after → IsPromptAtEnd t.lines.items s.line.items s.progress
prompt_at_end s t before after g =
    let test = length s.line.items == 0 || begins_next s.line.items in (
      λ w b. none_left (shows_whole_at_end s) test s t before after g refl w (ap (λ (x : Bool). length s.line.items == 0 || x) b ∙ or_true (length s.line.items == 0)),
      λ w e. none_left (shows_whole_at_end s) test s t before after g refl w (rw e refl),
    )

settled_again : (b : Bool) (s t : Scan) (before after : List Item) → shows_whole s ≡ b → Settles b s t before after → shows_whole t ≡ false
settled_again true s t before after e g = rw g.none_held refl
settled_again false s t before after e g = rw g.0 e

pub settled_once : (s t : Scan) (before after : List Item) → Settles (shows_whole s) s t before after → shows_whole t ≡ false
settled_once s t before after g = settled_again (shows_whole s) s t before after refl g

-- a line is judged as before
next_alike : (b : Bool) (s t : Scan) (before after : List Item) (line : Line) → shows_whole s ≡ b → Settles b s t before after → words_of line ≡ s.line.items → next s.progress line ≡ next t.progress line
next_alike true s t before after line e g w =
    let f = tests (length s.lines.items) (may_end s.progress) (begins_next s.line.items) e in
    same_next s.progress line f.0 (outer_words line (subst (λ (x : List ℕ). begins_next x ≡ true) (sym w) f.1)) ∙ ap (λ (p : Progress). next p line) (sym g.progress)
next_alike false s t before after line e g w = rw g.0 refl

pub judged_alike : (s t : Scan) (before after : List Item) (line : Line) → Settles (shows_whole s) s t before after → words_of line ≡ s.line.items → next s.progress line ≡ next t.progress line
judged_alike s t before after line g w = next_alike (shows_whole s) s t before after line refl g w

-- the bytes left go on showing what follows an entry
settled_shown : (b : Bool) (s t : Scan) (before after : List Item) → shows_whole s ≡ b → Settles b s t before after → IsShown s.appended (rest_of s) → IsShown t.appended (rest_of t)
settled_shown true s t before after e g shown = λ some unended. rw (g.none_held, g.line) (tests (length s.lines.items) (may_end s.progress) (begins_next s.line.items) e).1
settled_shown false s t before after e g shown = subst (λ (x : Scan). IsShown x.appended (rest_of x)) (sym g.0) shown

pub shown_after : (s t : Scan) (before after : List Item) → Settles (shows_whole s) s t before after → IsShown s.appended (rest_of s) → IsShown t.appended (rest_of t)
shown_after s t before after g shown = settled_shown (shows_whole s) s t before after refl g shown

none_or : (line : List ℕ) (b c : Bool) → (length line == 0) ≡ b → (b || c) ≡ true → (line ≡ []) ⊎ (c ≡ true)
none_or line true c e f = inl (nil_from_length line (eqb-true (length line) 0 e))
none_or line false c e f = inr f

settled_shown_at_end : (b : Bool) (s t : Scan) (before after : List Item) → shows_whole_at_end s ≡ b → Settles b s t before after → IsShown s.appended (rest_of s) → IsShownAtEnd t.appended (rest_of t)
settled_shown_at_end true s t before after e g shown = λ some unended.
    rw (g.none_held, g.line) (none_or s.line.items (length s.line.items == 0) (begins_next s.line.items) refl (tests (length s.lines.items) (may_end s.progress) (length s.line.items == 0 || begins_next s.line.items) e).1)
settled_shown_at_end false s t before after e g shown = subst (λ (x : Scan). IsShownAtEnd x.appended (rest_of x)) (sym g.0) (λ some unended. inr (shown some unended))

pub shown_at_end : (s t : Scan) (before after : List Item) → Settles (shows_whole_at_end s) s t before after → IsShown s.appended (rest_of s) → IsShownAtEnd t.appended (rest_of t)
shown_at_end s t before after g shown = settled_shown_at_end (shows_whole_at_end s) s t before after refl g shown

pub shown_more : (a : Appended) (front line back : List ℕ) → IsShown a (front ++ line) → IsShown a (front ++ (line ++ back))
shown_more a front line back shown = λ some unended. subst (λ (x : List ℕ). begins_next x ≡ true) (append_assoc front line back) (shows_more (front ++ line) back (shown some unended))

-- the text of lines is at least as long as their number
pub lines_short : (ls : List Line) → length ls ≤ length (text_of ls)
lines_short [] = omega arith
lines_short (line ∷ ls) = omega (arith, lines_short ls, length-append (line_text line) (text_of ls), length-append (words_of line) (10 ∷ []))

pub settled_room : (s t : Scan) (before after : List Item) → Settled s t before after → s.appended.lines + length (rest_of s) + 1 < 2 ^ 64 → t.appended.lines + length t.lines.items + length t.line.items + 1 < 2 ^ 64
settled_room s t before after g room =
    let told : t.appended.lines ≡ s.appended.lines + length (lines_of g.moves.found) = ap (λ (a : Appended). a.lines) g.moves.appended ∙ lines_counted s.appended g.moves.found in
    let split = ap length g.moves.split in
    omega (arith, room, told, split, length-append s.lines.items [], length-append (lines_of g.moves.found) t.lines.items, ap length g.line, lines_short s.lines.items, length-append (text_of s.lines.items) s.line.items)
