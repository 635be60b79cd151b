-- Where bytes decide an invalid part, an input that begins with them isn't too long.
use Rattle.std.proofs.Common.{◌≡◌, ◌⊎◌, inl, inr, ℕ, ◌+◌, ◌<◌, ◌≤◌, ◌||◌, Bool, true, false, List, [], ◌∷◌, ◌++◌, length, codes, Option, Some, refl, sym, ap, subst, ◌∙◌, append_assoc, arith}
use Rattle.std.specs.Prelude.{option_map, option_and_then}
use Rattle.std.specs.List.{AllByRecursion, flat_map}
use Rattle.std.proofs.lemmas.Bool.{false≢true, eq-eqb}
use Rattle.std.proofs.lemmas.List.{append-nil, length-append}
use Rattle.heesch_cert.specs.declared.entry.Entry.{Entry}
use Rattle.heesch_cert.specs.declared.header.Header.{Header}
use Rattle.heesch_grid.specs.declared.Cell.{Cell}
use Rattle.heesch_grid.specs.Names.{geometry_of}
use Rattle.heesch_text.specs.declared.line.Line.{Line}
use Rattle.heesch_text.specs.declared.line.Line.TheVariants as lines
use Rattle.heesch_text.specs.Lines.{words_of, text_of}
use Rattle.heesch_text.specs.Catalogue.{header_text, entry_lines, entry_text, end_text}
use Rattle.heesch_line.specs.Forms.{IsLine, HasNoNewline}
use Rattle.heesch_grammar.specs.declared.place.Place.TheVariants as places
use Rattle.heesch_grammar.specs.declared.spot.Spot.{Spot}
use Rattle.heesch_grammar.specs.Grammar.{step, steps, is_whole}
use Rattle.heesch_grammar.specs.Statements.{start}
use Rattle.heesch_grammar.proofs.Heading.{bind_some}
use Rattle.heesch_grammar.proofs.Truth.{may_stand}
use Rattle.heesch_grammar.proofs.Running.{steps_through, steps_between}
use Rattle.heesch_reader.specs.declared.item.Item.{Item}
use Rattle.heesch_reader.specs.declared.item.Part.{Part}
use Rattle.heesch_reader.specs.declared.progress.Progress.{Progress}
use Rattle.heesch_reader.specs.declared.progress.Progress.TheVariants as stages
use Rattle.heesch_reader.specs.Progress.{Lead, next, walk}
use Rattle.heesch_reader.specs.Items.{lines_of, with_items, none_appended}
use Rattle.heesch_reader.specs.Faults.{begins, begins_next, FaultsAt}
use Rattle.heesch_reader.specs.Feeding.{BeginEntry, IsInside, Stands, IsShown}
use Rattle.heesch_reader.proofs.FirstWords.{begins_next_cut, inside_begins}
use Rattle.heesch_reader.proofs.NoFault.{no_fault}
use Rattle.heesch_reader.proofs.SameLines.{along, line_front, no_first_line, front_on}
use Rattle.heesch_reader.proofs.EntryLines.{body_lines}
use Rattle.heesch_reader.proofs.ItemLines.{text_append}
use Rattle.heesch_reader.proofs.Walking.{all_append, shows_more}
use Rattle.heesch_check.specs.Answers.{IsBegun, IsEnded, IsOpen, IsTooLong, IsDecided}
use Rattle.heesch_check.specs.Catalogues.{block_of, behind_block, IsGoodEntry, AreBlocks, IsHeaded, AreChecked, AreAll}
use Rattle.heesch_check.specs.Judging.{AreGood}
use Rattle.heesch_check.proofs.Answering.{BadBlock, bad_checked, bad_none}
use Rattle.heesch_check.proofs.Blocks.{IsNext, block_split}
use Rattle.heesch_check.proofs.Leading.{IsBounded, IsBoundedTo, up_to, over_entries}
use Rattle.heesch_check.proofs.OneAnswer.{same_header, along_blocks, begins_entry, short_decided}
use Rattle.heesch_check.proofs.Seen.{IsRead}
use Rattle.heesch_check.proofs.Stopped.{few_entries}

-- ---- what was read at the front of the input

-- bytes at the front of the input were read, as many as may be or fewer
pub record Fronted (input : List ℕ) (all : List Item) : Type 0 where
  pub front : List ℕ
  pub behind : List ℕ
  pub held : List Line
  pub left : List ℕ
  pub reached : Progress
  pub split : input ≡ front ++ behind
  pub few : length front ≤ 1099511627776
  pub stands : Stands none_appended front all held left reached
  pub shown : IsShown (with_items none_appended all) (text_of held ++ left)

-- lines at the front of the input may stand, and behind them a line ends among the bytes that are read that may not
pub record RefusedIn (input : List ℕ) : Type 0 where
  pub front : List ℕ
  pub behind : List ℕ
  pub ls : List Line
  pub left : List ℕ
  pub reached : Progress
  pub part : Part
  pub split : input ≡ front ++ behind
  pub few : length front ≤ 1099511627776
  pub text : front ≡ text_of ls ++ left
  pub lead : Lead stages.Start ls reached
  pub fault : FaultsAt reached left part

-- the bytes stand, and more bytes follow
pub stands_read : (bytes behind : List ℕ) (all : List Item) (held : List Line) (left : List ℕ) (reached : Progress) → Stands none_appended bytes all held left reached
    → (0 < (with_items none_appended all).entries → (with_items none_appended all).ended ≡ false → IsNext (text_of held ++ (left ++ behind))) → IsRead (bytes ++ behind) all held (left ++ behind) reached
stands_read bytes behind all held left reached s shown = record {
  text = ap (λ (x : List ℕ). x ++ behind) s.text ∙ append_assoc (text_of (lines_of all ++ held)) left behind;
  lead = s.lead;
  numbered = s.numbered;
  one_entry = s.one_entry;
  shown = shown;
}

pub shown_on : (all : List Item) (held : List Line) (left behind : List ℕ) → IsShown (with_items none_appended all) (text_of held ++ left)
    → 0 < (with_items none_appended all).entries → (with_items none_appended all).ended ≡ false → IsNext (text_of held ++ (left ++ behind))
shown_on all held left behind shown some going =
    inr (subst (λ (x : List ℕ). begins_next x ≡ true) (append_assoc (text_of held) left behind) (shows_more (text_of held ++ left) behind (shown some going)))

-- what is read is as long as what was read, or longer
pub reads_on : (input : List ℕ) (line : ℕ) (front behind : List ℕ) → (t : IsTooLong input line) → input ≡ front ++ behind → length front ≤ 1099511627776 → (more : List ℕ) × (t.front ≡ front ++ more)
reads_on input line front behind t split few = let most = t.length_is in front_on t.front front (t.byte ∷ t.behind) behind (sym t.text ∙ split) (omega (arith, few, most))

-- ---- the lines of an open beginning

blocks_text : (header : Header) (before : ℕ) (bytes : List ℕ) (es : List Entry) (rest : List ℕ) → AreBlocks header before bytes es rest → bytes ≡ text_of (flat_map entry_lines es) ++ rest
blocks_text header before bytes [] rest b = b
blocks_text header before bytes (e ∷ es) rest b =
    block_split bytes ∙ ap (λ (x : List ℕ). x ++ behind_block bytes) b.1 ∙ ap (λ (x : List ℕ). entry_text e ++ x) (blocks_text header (before + 1) (behind_block bytes) es rest b.2)
    ∙ sym (append_assoc (entry_text e) (text_of (flat_map entry_lines es)) rest) ∙ ap (λ (x : List ℕ). x ++ rest) (sym (text_append (entry_lines e) (flat_map entry_lines es)))

blocks_good : (header : Header) (before : ℕ) (bytes : List ℕ) (es : List Entry) (rest : List ℕ) → AreBlocks header before bytes es rest → AreGood header before es
blocks_good header before bytes [] rest b = tt
blocks_good header before bytes (e ∷ es) rest b = (b.0, blocks_good header (before + 1) (behind_block bytes) es rest b.2)

good_forms : (header : Header) (before : ℕ) (es : List Entry) → AreGood header before es → AllByRecursion IsLine (flat_map entry_lines es)
good_forms header before [] g = tt
good_forms header before (e ∷ es) g = all_append IsLine (entry_lines e) (flat_map entry_lines es) g.0.forms (good_forms header (before + 1) es g.1)

-- steps are a walk
steps_walk : (brief : Bool) (s t : Spot) (ls : List Line) → steps brief s ls ≡ Some t → walk (stages.Behind brief s) ls ≡ Some (stages.Behind brief t)
steps_walk brief s t [] e = ap (option_map (λ u. stages.Behind brief u)) e
steps_walk brief s t (line ∷ ls) e =
    let b = bind_some (step brief s line) (λ u. steps brief u ls) t e in
    ap (λ (o : Option Spot). option_and_then (λ q. walk q ls) (option_map (λ u. stages.Behind brief u) o)) b.1 ∙ steps_walk brief b.0 t ls b.2

-- the lines that end in the bytes, and the bytes left
pub record Leads (bytes : List ℕ) : Type 0 where
  pub ls : List Line
  pub left : List ℕ
  pub reached : Progress
  pub lead : Lead stages.Start ls reached
  pub one_line : HasNoNewline left
  pub text : bytes ≡ text_of ls ++ left

begun_steps : (s t : Spot) (n : ℕ) (held : List Line) → BeginEntry held → is_whole s.place ≡ true → s.shapes ≡ n → steps false (record { shapes = n; place = places.Between }) held ≡ Some t → (u : Spot) × (steps false s held ≡ Some u)
begun_steps s t n [] b whole shapes e = (s, refl)
begun_steps s t n (lines.Shape cells ∷ held) b whole shapes e =
    (t, steps_between false s (lines.Shape cells) held whole tt ∙ subst (λ (x : ℕ). steps false (record { shapes = x; place = places.Between }) (lines.Shape cells ∷ held) ≡ Some t) (sym shapes) e)
begun_steps s t n (line ∷ held) b whole shapes e = absurd b.0

leads_by : (bytes : List ℕ) (header : Header) (es : List Entry) (rest left : List ℕ) (ms : List Line) (u : Spot) → AreChecked bytes header es rest → rest ≡ text_of ms ++ left → AllByRecursion IsLine ms → HasNoNewline left
    → (s : Spot) → steps false start (flat_map entry_lines es) ≡ Some s → steps false s ms ≡ Some u → Leads bytes
leads_by bytes header es rest left ms u c split forms one_line s through goes =
    let all = flat_map entry_lines es ++ ms in
    let walked : walk (stages.Behind false start) all ≡ Some (stages.Behind false u) = steps_walk false start u all (steps_through false start s (flat_map entry_lines es) ms through ∙ goes) in
    record {
      ls = lines.Header header ∷ all;
      left = left;
      reached = stages.Behind false u;
      lead = record {
        forms = (c.headed.form, all_append IsLine (flat_map entry_lines es) ms (good_forms header 0 es (blocks_good header 0 c.body es rest c.blocks)) forms);
        reached = subst (λ (b : Bool). walk (stages.Behind b start) all ≡ Some (stages.Behind false u)) (sym c.headed.full) walked;
      };
      one_line = one_line;
      text = c.headed.text ∙ ap (λ (x : List ℕ). header_text header ++ x) (blocks_text header 0 c.body es rest c.blocks ∙ ap (λ (x : List ℕ). text_of (flat_map entry_lines es) ++ x) split
          ∙ sym (append_assoc (text_of (flat_map entry_lines es)) (text_of ms) left) ∙ ap (λ (x : List ℕ). x ++ left) (sym (text_append (flat_map entry_lines es) ms)))
          ∙ sym (append_assoc (header_text header) (text_of all) left);
    }

end_goes : (s : Spot) (n : ℕ) → is_whole s.place ≡ true → s.shapes ≡ n → steps false s (lines.End n ∷ []) ≡ Some (record { shapes = s.shapes; place = places.Ended })
end_goes s n whole shapes = rw (whole, eq-eqb n s.shapes (sym shapes)) refl

pub open_leads : (bytes : List ℕ) → (o : IsOpen bytes) → IsBoundedTo o.header (length o.es) → Leads bytes
open_leads bytes o bound =
    let c = o.checked in
    let a = over_entries o.header 0 (length o.es) o.es start bound (omega arith) (blocks_good o.header 0 c.body o.es o.rest c.blocks) refl refl in
    let shapes : a.spot.shapes ≡ length o.es = a.shapes ∙ omega arith in
    elim o.goes_on [
      | inl g ↦
          let n = begun_steps a.spot g.reached (length o.es) g.held g.one_entry a.whole shapes g.may_stand in
          leads_by bytes o.header o.es o.rest g.left g.held n.0 c g.text g.forms g.one_line a.spot a.reached n.1
      | inr g ↦
          leads_by bytes o.header o.es o.rest g.left (lines.End (length o.es) ∷ []) _ c (g.text ∙ ap (λ (x : List ℕ). x ++ g.left) (sym (append-nil (end_text (length o.es)))))
          (few_entries o.header o.es bound (blocks_good o.header 0 c.body o.es o.rest c.blocks), tt) g.one_line a.spot a.reached (end_goes a.spot (length o.es) a.whole shapes)
    ]

-- ---- a line at fault

-- one input has one header
one_header : (input : List ℕ) (header : Header) (body : List ℕ) (line : ℕ) → IsHeaded input header body → (t : IsTooLong input line) → t.goes_on.header ≡ header
one_header input header body line h t =
    let k = t.goes_on.checked.headed in
    let whole : IsHeaded input t.goes_on.header (t.goes_on.checked.body ++ t.byte ∷ t.behind) = record {
      text = t.text ∙ ap (λ (x : List ℕ). x ++ t.byte ∷ t.behind) k.text ∙ append_assoc (header_text t.goes_on.header) t.goes_on.checked.body (t.byte ∷ t.behind);
      form = k.form;
      full = k.full;
    } in
    (same_header input (t.goes_on.checked.body ++ t.byte ∷ t.behind) body t.goes_on.header header whole h).0

-- a line at fault among the bytes that are read doesn't stand where all their lines lead
pub refused_leads : (input : List ℕ) (line : ℕ) → RefusedIn input → (t : IsTooLong input line) → Leads t.front → ⊥
refused_leads input line r t l =
    let more = reads_on input line r.front r.behind t r.split r.few in
    let f = r.fault in
    no_fault stages.Start l.reached r.reached l.ls r.ls l.left (r.left ++ more.0) r.part l.lead l.one_line r.lead
    (record { words = f.words; back = f.back ++ more.0; split = ap (λ (x : List ℕ). x ++ more.0) f.split ∙ append_assoc f.words (10 ∷ f.back) more.0; one_line = f.one_line; may_not = f.may_not; part_is = f.part_is })
    (sym l.text ∙ more.1 ∙ ap (λ (x : List ℕ). x ++ more.0) r.text ∙ append_assoc (text_of r.ls) r.left more.0)

-- a line at fault among the bytes that are read decides
pub refused_decided : (input : List ℕ) (header : Header) (body : List ℕ) → IsBounded header → IsHeaded input header body → (length input ≤ 1099511627776) ⊎ RefusedIn input → IsDecided input
refused_decided input header body bound h (inl few) = short_decided input few
refused_decided input header body bound h (inr r) = λ line t.
    refused_leads input line r t (open_leads t.front t.goes_on (up_to t.goes_on.header (length t.goes_on.es) (subst IsBounded (sym (one_header input header body line h t)) bound)))

-- ---- a block at fault

some_bytes : (words more : List ℕ) → words ++ 10 ∷ more ≡ [] → ⊥
some_bytes [] more e = absurd cc
some_bytes (b ∷ words) more e = absurd cc

same_spot : (s t u : Spot) (ls ms : List Line) → ls ≡ ms → steps false s ls ≡ Some t → steps false s ms ≡ Some u → t ≡ u
same_spot s t u ls ms e f g = let both : Some t ≡ Some u = sym f ∙ ap (steps false s) e ∙ g in cc

-- what goes on is no whole entry behind which the next one or the end begins
finished : (header : Header) (n : ℕ) (cells : List Cell) (inner : List Line) (behind : List ℕ) (t : Spot) → IsBegun header n (text_of (lines.Shape cells ∷ inner) ++ behind) ⊎ IsEnded header n (text_of (lines.Shape cells ∷ inner) ++ behind)
    → AllByRecursion IsLine (lines.Shape cells ∷ inner) → begins_next behind ≡ true → steps false (record { shapes = n; place = places.Between }) (lines.Shape cells ∷ inner) ≡ Some t → is_whole t.place ≡ true → ⊥
finished header n cells inner behind t (inr g) forms next goes whole = let c = subst (λ (x : List ℕ). begins x (codes "shape ") ≡ true) g.text refl in absurd cc
finished header n cells inner behind t (inl g) forms next goes whole = elim (along (lines.Shape cells ∷ inner) g.held behind g.left forms g.forms g.text) [
  | inl r ↦ longer r.more r.lines r.bytes
  | inr r ↦ shorter r.more r.lines r.bytes
]
  where
    exact : g.held ≡ lines.Shape cells ∷ inner → behind ≡ g.left → ⊥
    exact is left =
        let at : t ≡ g.reached = same_spot (record { shapes = n; place = places.Between }) t g.reached (lines.Shape cells ∷ inner) g.held (sym is) goes g.may_stand in
        let none = g.unfinished (ap (λ (x : Spot). is_whole x.place) (sym at) ∙ whole) (subst (λ (x : List ℕ). begins_next x ≡ true) left next) in
        let bad = sym is ∙ none in
        absurd cc

    inside_right : (xs ys : List Line) → AllByRecursion IsInside (xs ++ ys) → AllByRecursion IsInside ys
    inside_right [] ys h = h
    inside_right (x ∷ xs) ys h = inside_right xs ys h.1

    longer : (more : List Line) → g.held ≡ (lines.Shape cells ∷ inner) ++ more → behind ≡ text_of more ++ g.left → ⊥
    longer [] is left = exact (is ∙ append-nil (lines.Shape cells ∷ inner)) left
    longer (line ∷ more) is left =
        let begun : BeginEntry ((lines.Shape cells ∷ inner) ++ line ∷ more) = subst BeginEntry is g.one_entry in
        let inside = inside_right inner (line ∷ more) begun.1 in
        let front : behind ≡ words_of line ++ 10 ∷ (text_of more ++ g.left) = left ∙ line_front line more g.left in
        false≢true (sym (ap begins_next front ∙ begins_next_cut (words_of line) (text_of more ++ g.left) ∙ inside_begins line inside.0) ∙ next)

    shorter : (more : List Line) → lines.Shape cells ∷ inner ≡ g.held ++ more → g.left ≡ text_of more ++ behind → ⊥
    shorter [] is left = exact (sym (is ∙ append-nil g.held)) (sym left)
    shorter (line ∷ more) is left = no_first_line (words_of line) (text_of more ++ behind) g.left g.one_line (left ∙ line_front line more behind)

or_left : (a b : Bool) → a ≡ true → (a || b) ≡ true
or_left true b e = refl
or_left false b e = absurd cc

-- of one beginning, the good entries are the same where no good entry stands behind the first ones, and the next begins there
pub same_rest : (bytes : List ℕ) (header : Header) (es : List Entry) (rest : List ℕ) → IsBoundedTo header (length es) → IsOpen bytes → AreChecked bytes header es rest → ((e : Entry) → IsGoodEntry header (length es) e → block_of rest ≡ entry_text e → ⊥)
    → begins_next rest ≡ true → IsBegun header (length es) rest ⊎ IsEnded header (length es) rest
same_rest bytes header es rest bound o c none next =
    let s = same_header bytes c.body o.checked.body header o.header c.headed o.checked.headed in
    let over : AreBlocks header 0 c.body o.es o.rest = subst (λ (h : Header). AreBlocks h 0 c.body o.es o.rest) (sym s.0) (subst (λ (x : List ℕ). AreBlocks o.header 0 x o.es o.rest) (sym s.1) o.checked.blocks) in
    let goes : IsBegun header (length o.es) o.rest ⊎ IsEnded header (length o.es) o.rest = subst (λ (h : Header). IsBegun h (length o.es) o.rest ⊎ IsEnded h (length o.es) o.rest) (sym s.0) o.goes_on in
    elim (along_blocks header 0 c.body es o.es rest o.rest c.blocks over) [
      | inl r ↦ as_far r.more r.are r.blocks goes
      | inr r ↦ farther r.more r.are r.blocks goes
    ]
  where
    as_far : (more : List Entry) → o.es ≡ es ++ more → AreBlocks header (0 + length es) rest more o.rest → IsBegun header (length o.es) o.rest ⊎ IsEnded header (length o.es) o.rest → IsBegun header (length es) rest ⊎ IsEnded header (length es) rest
    as_far [] are blocks goes =
        subst (λ (x : List ℕ). IsBegun header (length es) x ⊎ IsEnded header (length es) x) (sym blocks) (subst (λ (x : List Entry). IsBegun header (length x) o.rest ⊎ IsEnded header (length x) o.rest) (are ∙ append-nil es) goes)
    as_far (e ∷ more) are blocks goes = absurd (none e (subst (λ (n : ℕ). IsGoodEntry header n e) (omega arith) blocks.0) blocks.1)

    next_block : (more : List Entry) (n : ℕ) (bytes : List ℕ) → AreBlocks header n bytes more rest → begins_next bytes ≡ true
    next_block [] n bytes blocks = subst (λ (x : List ℕ). begins_next x ≡ true) (sym blocks) next
    next_block (e ∷ more) n bytes blocks = or_left (begins bytes (codes "shape ")) (begins bytes (codes "end ")) (begins_entry bytes e blocks.1)

    farther : (more : List Entry) → es ≡ o.es ++ more → AreBlocks header (0 + length o.es) o.rest more rest → IsBegun header (length o.es) o.rest ⊎ IsEnded header (length o.es) o.rest → IsBegun header (length es) rest ⊎ IsEnded header (length es) rest
    farther [] are blocks goes =
        subst (λ (x : List ℕ). IsBegun header (length es) x ⊎ IsEnded header (length es) x) blocks (subst (λ (x : List Entry). IsBegun header (length x) o.rest ⊎ IsEnded header (length x) o.rest) (sym (are ∙ append-nil o.es)) goes)
    farther (e ∷ more) are blocks goes =
        let good : IsGoodEntry header (length o.es) e = subst (λ (n : ℕ). IsGoodEntry header n e) (omega arith) blocks.0 in
        let many : length es ≡ length o.es + length (e ∷ more) = ap length are ∙ length-append o.es (e ∷ more) in
        let low = bound.below (length o.es) e.cells (omega (arith, many)) good.in_place in
        let m = (may_stand (geometry_of header.grid) header.limits e good.is_true).full (record { shapes = length o.es; place = places.Between }) refl (omega (arith, low)) in
        let split : o.rest ≡ text_of (entry_lines e) ++ behind_block o.rest = block_split o.rest ∙ ap (λ (x : List ℕ). x ++ behind_block o.rest) blocks.1 in
        absurd (finished header (length o.es) e.cells (body_lines e) (behind_block o.rest) m.behind (subst (λ (x : List ℕ). IsBegun header (length o.es) x ⊎ IsEnded header (length o.es) x) split goes) good.forms
        (next_block more (0 + length o.es + 1) (behind_block o.rest) blocks.2) m.reached m.whole)

-- a block at fault, behind which the next entry or the end begins, decides
pub block_decides : (bytes : List ℕ) (header : Header) (es : List Entry) (cells : List Cell) (inner : List Line) (behind : List ℕ) (s t : Spot) → IsBoundedTo header (length es) → BadBlock bytes header es cells inner behind → begins_next behind ≡ true
    → is_whole s.place ≡ true → s.shapes ≡ length es → steps false s (lines.Shape cells ∷ inner) ≡ Some t → is_whole t.place ≡ true → IsOpen bytes → ⊥
block_decides bytes header es cells inner behind s t bound b next whole shapes goes ends o =
    let rest = text_of (lines.Shape cells ∷ inner) ++ behind in
    let g = same_rest bytes header es rest bound o (bad_checked bytes header es cells inner behind b) (bad_none bytes header es cells inner behind b) refl in
    let from : steps false (record { shapes = length es; place = places.Between }) (lines.Shape cells ∷ inner) ≡ Some t =
    subst (λ (x : ℕ). steps false (record { shapes = x; place = places.Between }) (lines.Shape cells ∷ inner) ≡ Some t) shapes (sym (steps_between false s (lines.Shape cells) inner whole tt) ∙ goes) in
    finished header (length es) cells inner behind t g b.forms next from ends

-- an end before all entries decides
pub end_decides : (bytes : List ℕ) (header : Header) (es : List Entry) (count : ℕ) (behind : List ℕ) → IsBoundedTo header (length es) → AreChecked bytes header es (text_of (lines.End count ∷ []) ++ behind) → (AreAll header header.subject (length es) → ⊥) → IsOpen bytes → ⊥
end_decides bytes header es count behind bound c bad o =
    let rest = text_of (lines.End count ∷ []) ++ behind in
    elim (same_rest bytes header es rest bound o c (λ e good same. let b = begins_entry rest e same in absurd cc) refl) [
      | inl g ↦ begun g.held g.left g.one_entry g.one_line g.text
      | inr g ↦ bad g.all
    ]
  where
    begun : (held : List Line) (left : List ℕ) → BeginEntry held → HasNoNewline left → text_of (lines.End count ∷ []) ++ behind ≡ text_of held ++ left → ⊥
    begun [] left one one_line e = no_first_line (words_of (lines.End count)) behind left one_line (sym e ∙ line_front (lines.End count) [] behind)
    begun (lines.Shape cells ∷ held) left one one_line e = let c = subst (λ (x : List ℕ). begins x (codes "end ") ≡ true) e refl in absurd cc
    begun (line ∷ held) left one one_line e = absurd one.0
