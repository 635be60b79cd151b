-- The lines of whole shares: where they lead, their forms and their text.
use Rattle.std.proofs.Common.{◌≡◌, ◌⊎◌, inl, inr, ℕ, suc, ◌+◌, ◌<◌, ◌≤◌, ◌==◌, ◌&&◌, Bool, true, false, not, List, [], ◌∷◌, ◌++◌, length, map, Option, Some, None, Result, Ok, Err, if◌then◌else◌, refl, sym, ap, subst, ◌∙◌, append_assoc, arith}
use Rattle.std.specs.Bool.{MatchBool}
use Rattle.std.specs.List.{AllByRecursion, flat_map}
use Rattle.std.proofs.lemmas.Bool.{eq-eqb}
use Rattle.std.proofs.lemmas.Bool.Decides.{nat_tests}
use Rattle.std.specs.Prelude.{option_map}
use Rattle.std.proofs.lemmas.List.{map-append, length-append, append-nil}
use Rattle.std.proofs.lemmas.List.Concat.{flat_map-append}
use Rattle.heesch_cert.specs.declared.header.Header.{Header}
use Rattle.heesch_cert.specs.declared.entry.Entry.{Entry}
use Rattle.heesch_text.specs.declared.line.Line.{Line}
use Rattle.heesch_text.specs.declared.line.Line.TheVariants as lines
use Rattle.heesch_text.specs.Lines.{line_text, text_of}
use Rattle.heesch_text.specs.Catalogue.{header_text, entry_lines, entries_text, end_text, catalogue_text}
use Rattle.heesch_line.specs.Forms.{IsLine}
use Rattle.heesch_grammar.specs.declared.spot.Spot.{Spot}
use Rattle.heesch_grammar.specs.Grammar.{step, steps}
use Rattle.heesch_grammar.specs.Statements.{catalogue_lines}
use Rattle.heesch_grammar.specs.Statements.{start as first_spot}
use Rattle.heesch_grammar.proofs.Heading.{bind_some, shape_step, inner_place}
use Rattle.heesch_reader.specs.declared.progress.Progress.{Progress}
use Rattle.heesch_reader.specs.declared.progress.Progress.TheVariants as stages
use Rattle.heesch_reader.specs.Feeding.{IsInside}
use Rattle.heesch_reader.proofs.Ending.{header_first}
use Rattle.heesch_reader.proofs.EntryLines.{body_lines, body_inside}
use Rattle.heesch_reader.proofs.EntryTexts.{entries_full}
use Rattle.heesch_reader.proofs.Walking.{all_append}
use Rattle.heesch_parts.specs.declared.part_line.PartLine.{PartLine}
use Rattle.heesch_parts.specs.declared.part_line.PartLine.TheVariants as parts
use Rattle.heesch_parts.specs.declared.stage.Stage.{Stage}
use Rattle.heesch_parts.specs.PartLines.{IsShare, IsPartLine, part_text, parts_text}
use Rattle.heesch_parts.specs.Stages.{may_join, has_size, may_be, share_behind, Agrees, with_header, led, led_to, line_step, Step, Walk}
use Rattle.heesch_parts.specs.Shares.{IsEntry, IsShareHeader, entries_of, share_text, shares_from}
use Rattle.heesch_parts.specs.Joining.{share_lines, whole_lines}
use Rattle.heesch_parts.proofs.EntrySteps.{rises, entries_on, end_stands}
use Rattle.heesch_parts.proofs.Stepping.{walk_append}

-- ---- the text

pub catalogue_parts : (ls : List Line) → parts_text (map parts.Catalogue ls) ≡ text_of ls
catalogue_parts [] = refl
catalogue_parts (line ∷ ls) = ap (λ (x : List ℕ). line_text line ++ x) (catalogue_parts ls)

one_line_text : (line : Line) → text_of (line ∷ []) ≡ line_text line
one_line_text line = append-nil (line_text line)

pub catalogue_lines_text : (header : Header) (es : List Entry) → header.brief ≡ false → text_of (lines.Header header ∷ catalogue_lines entry_lines es) ≡ catalogue_text header es
catalogue_lines_text header es full =
    let body : text_of (catalogue_lines entry_lines es) ≡ entries_text header es ++ end_text (length es) =
    flat_map-append line_text (flat_map entry_lines es) (lines.End (length es) ∷ [])
    ∙ ap (λ (x : List ℕ). text_of (flat_map entry_lines es) ++ x) (one_line_text (lines.End (length es)))
    ∙ ap (λ (x : List ℕ). x ++ end_text (length es)) (sym (entries_full header es full)) in
    ap (λ (x : List ℕ). header_text header ++ x) body ∙ sym (append_assoc (header_text header) (entries_text header es) (end_text (length es)))

share_lines_text : (i k : ℕ) (header : Header) (es : List Entry) → header.brief ≡ false → parts_text (share_lines i k (Some header) es) ≡ share_text i k header es
share_lines_text i k header es full =
    ap (λ (x : List ℕ). part_text (parts.Share i k) ++ x) (catalogue_parts (lines.Header header ∷ catalogue_lines entry_lines es) ∙ catalogue_lines_text header es full)

pub whole_lines_text : (i k : ℕ) (header : Header) (shares : List (List Entry)) → header.brief ≡ false → parts_text (whole_lines i k (Some header) shares) ≡ shares_from i k header shares
whole_lines_text i k header [] full = refl
whole_lines_text i k header (es ∷ shares) full =
    flat_map-append part_text (share_lines i k (Some header) es) (whole_lines (i + 1) k (Some header) shares)
    ∙ ap (λ (x : List ℕ). x ++ parts_text (whole_lines (i + 1) k (Some header) shares)) (share_lines_text i k header es full)
    ∙ ap (λ (x : List ℕ). share_text i k header es ++ x) (whole_lines_text (i + 1) k header shares full)

-- ---- the forms

catalogue_forms : (ls : List Line) → AllByRecursion IsLine ls → AllByRecursion IsPartLine (map parts.Catalogue ls)
catalogue_forms [] h = tt
catalogue_forms (line ∷ ls) h = (h.0, catalogue_forms ls h.1)

entries_forms : (es : List Entry) → AllByRecursion IsEntry es → AllByRecursion IsLine (flat_map entry_lines es)
entries_forms [] h = tt
entries_forms (e ∷ es) h = all_append IsLine (entry_lines e) (flat_map entry_lines es) h.0.forms (entries_forms es h.1)

pub whole_forms : (i k : ℕ) (header : Header) (shares : List (List Entry)) → IsShareHeader header → AllByRecursion (AllByRecursion IsEntry) shares → 1 ≤ i → i + length shares ≤ k + 1 → k ≤ 1000 → length (entries_of shares) ≤ 4294967295
    → AllByRecursion IsPartLine (whole_lines i k (Some header) shares)
whole_forms i k header [] h each first last most few = tt
whole_forms i k header (es ∷ shares) h each first last most few =
    let long : length (es ++ entries_of shares) ≡ length es + length (entries_of shares) = length-append es (entries_of shares) in
    let body = all_append IsLine (flat_map entry_lines es) (lines.End (length es) ∷ []) (entries_forms es each.0) (omega (arith, few, long), tt) in
    let share : IsShare i k = record { first = first; last = omega (arith, last); most = most } in
    all_append IsPartLine (share_lines i k (Some header) es) (whole_lines (i + 1) k (Some header) shares)
    (share, (h.form, catalogue_forms (catalogue_lines entry_lines es) body)) (whole_forms (i + 1) k header shares h each.1 (omega arith) (omega (arith, last)) most (omega (arith, few, long)))

-- ---- where they lead

both_false : (brief : Bool) (sized : Bool) → (not brief && sized) ≡ true → brief ≡ false
both_false true sized e = absurd cc
both_false false sized e = refl

pub full_header : (header : Header) → may_join header ≡ true → header.brief ≡ false
full_header header e = both_false header.brief (has_size header.subject) e

-- amid share i, behind so many shapes of the shares before
abbrev pub amid : (i k base : ℕ) → Header → Spot → Stage
amid i k base header spot = record { shares = Some k; share = i; header = Some header; entries = base + spot.shapes; progress = Some (stages.Behind false spot) }

-- no `end` line
abbrev pub NoEnd : Line → Type 0
NoEnd (lines.End count) = ⊥
NoEnd line = Unit {0}

not_most : (n : ℕ) (x y : Result Stage ℕ) → n < 4294967295 → (if n == 4294967295 then x else y) ≡ y
not_most n x y less = grind (arith, nat_tests)

abbrev amid_of : (i k : ℕ) → Header → ℕ → Progress → Stage
amid_of i k header n p = record { shares = Some k; share = i; header = Some header; entries = n; progress = Some p }

amid_at : (i k : ℕ) (header : Header) (n m : ℕ) (p : Progress) → n ≡ m → amid_of i k header n p ≡ amid_of i k header m p
amid_at i k header n m p e = ap (λ (x : ℕ). amid_of i k header x p) e

reached_by : (i k base : ℕ) (header : Header) (s b : Spot) (line : Line) → step false s line ≡ Some b → line_step (amid i k base header s) line ≡ led (amid i k base header s) line (stages.Behind false b)
reached_by i k base header s b line e = ap (λ (o : Option Spot). led_to (amid i k base header s) line (option_map (λ t. stages.Behind false t) o)) e

line_stands : (i k base : ℕ) (header : Header) (s b : Spot) (line : Line) → NoEnd line → step false s line ≡ Some b → base + b.shapes ≤ 4294967295 → Step (amid i k base header s) (parts.Catalogue line) (Ok (amid i k base header b))
line_stands i k base header s b (lines.Header other) none_end e few =
    let bad = (header_first (stages.Behind false s) (stages.Behind false b) other (ap (λ (o : Option Spot). option_map (λ t. stages.Behind false t) o) e)).0 in
    absurd cc
line_stands i k base header s b (lines.Shape cells) none_end e few =
    let one = (shape_step false s b cells e).1 in
    let next : Stage = amid_of i k header (base + s.shapes + 1) (stages.Behind false b) in
    let chosen : led (amid i k base header s) (lines.Shape cells) (stages.Behind false b) ≡ Ok next = not_most (base + s.shapes) (Err 12) (Ok next) (omega (arith, few, one)) in
    let same = amid_at i k header (base + s.shapes + 1) (base + b.shapes) (stages.Behind false b) (omega (arith, one)) in
    sym (reached_by i k base header s b (lines.Shape cells) e ∙ chosen ∙ ap (λ (x : Stage). Ok x) same)
line_stands i k base header s b (lines.End count) none_end e few = absurd none_end
line_stands i k base header s b line none_end e few =
    let none = (inner_place false s b line tt e).1 in
    let same = amid_at i k header (base + s.shapes) (base + b.shapes) (stages.Behind false b) (omega (arith, none)) in
    sym (reached_by i k base header s b line e ∙ ap (λ (x : Stage). Ok x) same)

lines_walk : (i k base : ℕ) (header : Header) (s t : Spot) (ls : List Line) → AllByRecursion NoEnd ls → steps false s ls ≡ Some t → base + t.shapes ≤ 4294967295 → Walk (amid i k base header s) (map parts.Catalogue ls) (amid i k base header t)
lines_walk i k base header s t [] none_end e few = let f : s ≡ t = cc in ap (amid i k base header) f
lines_walk i k base header s t (line ∷ ls) none_end e few =
    let b = bind_some (step false s line) (λ u. steps false u ls) t e in
    let le = rises b.0 t ls b.2 in (
      amid i k base header b.0,
      line_stands i k base header s b.0 line none_end.0 b.1 (omega (arith, le, few)),
      lines_walk i k base header b.0 t ls none_end.1 b.2 few,
    )

end_leads : (i k base : ℕ) (header : Header) (s : Spot) (count : ℕ) (b : Spot) → step false s (lines.End count) ≡ Some b
    → Step (amid i k base header s) (parts.Catalogue (lines.End count)) (Ok (record { shares = Some k; share = i; header = Some header; entries = base + s.shapes; progress = None }))
end_leads i k base header s count b e = sym (reached_by i k base header s b (lines.End count) e)

inside_no_end : (ls : List Line) → AllByRecursion IsInside ls → AllByRecursion NoEnd ls
inside_no_end [] h = tt
inside_no_end (lines.End count ∷ ls) h = absurd h.0
inside_no_end (line ∷ ls) h = (tt, inside_no_end ls h.1)

pub entries_no_end : (es : List Entry) → AllByRecursion NoEnd (flat_map entry_lines es)
entries_no_end [] = tt
entries_no_end (e ∷ es) = all_append NoEnd (entry_lines e) (flat_map entry_lines es) (tt, inside_no_end (body_lines e) (body_inside e)) (entries_no_end es)

-- ---- a share

-- share i of k may follow, under this header, behind so many entries
pub record Ready (s : Stage) (i k : ℕ) (header : Header) (n : ℕ) : Type 0 where
  pub progress : s.progress ≡ None
  pub may : may_be s.shares k ≡ true
  pub next : i ≡ s.share + 1
  pub agrees : Agrees s.header header
  pub entries : s.entries ≡ n

-- behind its `share` line
abbrev pub begun : Stage → (i k : ℕ) → Stage
begun s i k = record { shares = Some k; share = i; header = s.header; entries = s.entries; progress = Some stages.Start }

share_stands : (s : Stage) (i k n : ℕ) (header : Header) → Ready s i k header n → Step s (parts.Share i k) (Ok (begun s i k))
share_stands s i k n header r =
    let test : ((i == s.share + 1) && may_be s.shares k) ≡ true = ap (λ (b : Bool). b && may_be s.shares k) (eq-eqb i (s.share + 1) r.next) ∙ r.may in
    sym (ap (λ (p : Option Progress). share_behind p s i k) r.progress ∙ ap (λ (b : Bool). if b then Ok (begun s i k) else Err 9) test)

abbrev HeaderTests : Bool → (A : Type 0) → Result Stage ℕ → Stage → Type 0
HeaderTests join A result next = MatchBool join ((A × (result ≡ Ok next)) ⊎ ((A → ⊥) × (result ≡ Err 10))) (result ≡ Err 10)

header_stands : (s : Stage) (i k : ℕ) (header : Header) → may_join header ≡ true → Agrees s.header header → Step (begun s i k) (parts.Catalogue (lines.Header header)) (Ok (with_header (begun s i k) header))
header_stands s i k header joins agrees =
    let next = with_header (begun s i k) header in
    subst (λ (b : Bool). HeaderTests b (Agrees s.header header) (Ok next) next) (sym joins) (inl (agrees, refl))

first_amid : (s : Stage) (i k n : ℕ) (header : Header) → header.brief ≡ false → s.entries ≡ n → with_header (begun s i k) header ≡ amid i k n header first_spot
first_amid s i k n header full entries =
    ap (λ (b : Bool). amid_of i k header s.entries (stages.Behind b first_spot)) full
    ∙ amid_at i k header s.entries (n + 0) (stages.Behind false first_spot) (omega (arith, entries))

-- behind the share
abbrev pub behind_share : (i k : ℕ) → Header → ℕ → Stage
behind_share i k header n = record { shares = Some k; share = i; header = Some header; entries = n; progress = None }

share_walk : (s : Stage) (i k n : ℕ) (header : Header) (es : List Entry) → IsShareHeader header → Ready s i k header n → AllByRecursion IsEntry es → n + length es ≤ 4294967295
    → Walk s (share_lines i k (Some header) es) (behind_share i k header (n + length es))
share_walk s i k n header es h r each few =
    let on = entries_on es each first_spot refl (omega (arith, few)) in
    let count : on.behind.shapes ≡ length es = omega (arith, on.shapes) in
    let body = lines_walk i k n header first_spot on.behind (flat_map entry_lines es) (entries_no_end es) on.reached (omega (arith, count, few)) in
    let last = end_leads i k n header on.behind (length es) _ (end_stands on.behind (length es) on.whole (sym count)) in
    let all : Walk (amid i k n header first_spot) (map parts.Catalogue (flat_map entry_lines es) ++ parts.Catalogue (lines.End (length es)) ∷ []) (behind_share i k header (n + on.behind.shapes)) =
    walk_append (amid i k n header first_spot) (amid i k n header on.behind) (behind_share i k header (n + on.behind.shapes)) (map parts.Catalogue (flat_map entry_lines es)) (parts.Catalogue (lines.End (length es)) ∷ []) body
    (behind_share i k header (n + on.behind.shapes), last, refl) in
    let lines : map parts.Catalogue (flat_map entry_lines es) ++ parts.Catalogue (lines.End (length es)) ∷ [] ≡ map parts.Catalogue (catalogue_lines entry_lines es) = sym (map-append parts.Catalogue (flat_map entry_lines es) (lines.End (length es) ∷ [])) in
    let here : Walk (with_header (begun s i k) header) (map parts.Catalogue (catalogue_lines entry_lines es)) (behind_share i k header (n + length es)) =
    subst (λ (x : Stage). Walk x (map parts.Catalogue (catalogue_lines entry_lines es)) (behind_share i k header (n + length es))) (sym (first_amid s i k n header (full_header header h.joins) r.entries))
    (subst (λ (x : ℕ). Walk (amid i k n header first_spot) (map parts.Catalogue (catalogue_lines entry_lines es)) (behind_share i k header (n + x))) count
    (subst (λ (x : List PartLine). Walk (amid i k n header first_spot) x (behind_share i k header (n + on.behind.shapes))) lines all)) in
    (begun s i k, share_stands s i k n header r, (with_header (begun s i k) header, header_stands s i k header h.joins r.agrees, here))

-- ---- shares

-- whole shares lead there
pub record LeadThrough (s : Stage) (i k n : ℕ) (header : Header) (shares : List (List Entry)) : Type 0 where
  pub reached : Stage
  pub walk : Walk s (whole_lines i k (Some header) shares) reached
  pub ready : Ready reached (i + length shares) k header (n + length (entries_of shares))
  pub known : (shares ≡ []) ⊎ (reached.shares ≡ Some k)

next_ready : (i k n : ℕ) (header : Header) → Ready (behind_share i k header n) (i + 1) k header n
next_ready i k n header = record { progress = refl; may = eq-eqb k k refl; next = refl; agrees = refl; entries = refl }

pub shares_walk : (s : Stage) (i k n : ℕ) (header : Header) (shares : List (List Entry)) → IsShareHeader header → Ready s i k header n → AllByRecursion (AllByRecursion IsEntry) shares → n + length (entries_of shares) ≤ 4294967295 → LeadThrough s i k n header shares
shares_walk s i k n header [] h r each few =
    let same : i + 0 ≡ i = omega arith in
    let all : n + 0 ≡ n = omega arith in
    record { reached = s; walk = refl; ready = subst (λ (x : ℕ). Ready s x k header (n + 0)) (sym same) (subst (λ (x : ℕ). Ready s i k header x) (sym all) r); known = inl refl }
shares_walk s i k n header (es ∷ shares) h r each few =
    let long : length (es ++ entries_of shares) ≡ length es + length (entries_of shares) = length-append es (entries_of shares) in
    let first = share_walk s i k n header es h r each.0 (omega (arith, few, long)) in
    let rest = shares_walk (behind_share i k header (n + length es)) (i + 1) k (n + length es) header shares h (next_ready i k (n + length es) header) each.1 (omega (arith, few, long)) in
    let number : i + 1 + length shares ≡ i + suc (length shares) = omega arith in
    let all : n + length es + length (entries_of shares) ≡ n + length (es ++ entries_of shares) = omega (arith, long) in
    record {
      reached = rest.reached;
      walk = walk_append s (behind_share i k header (n + length es)) rest.reached (share_lines i k (Some header) es) (whole_lines (i + 1) k (Some header) shares) first rest.walk;
      ready = subst (λ (x : ℕ). Ready rest.reached (i + suc (length shares)) k header x) all (subst (λ (x : ℕ). Ready rest.reached x k header (n + length es + length (entries_of shares))) number rest.ready);
      known = inr (known_by shares rest.reached rest.known (λ none. nothing none rest));
    }
  where
    nothing : shares ≡ [] → (r : LeadThrough (behind_share i k header (n + length es)) (i + 1) k (n + length es) header shares) → r.reached.shares ≡ Some k
    nothing none r =
        let stays : behind_share i k header (n + length es) ≡ r.reached = subst (λ (x : List (List Entry)). Walk (behind_share i k header (n + length es)) (whole_lines (i + 1) k (Some header) x) r.reached) none r.walk in
        ap (λ (x : Stage). x.shares) (sym stays)

    known_by : (shares : List (List Entry)) (t : Stage) → (shares ≡ []) ⊎ (t.shares ≡ Some k) → (shares ≡ [] → t.shares ≡ Some k) → t.shares ≡ Some k
    known_by shares t (inl none) f = f none
    known_by shares t (inr known) f = known
