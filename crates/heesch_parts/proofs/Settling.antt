-- What the line of another shape, or the end of a share, makes of the lines and items so far.
use Rattle.std.proofs.Common.{◌≡◌, inr, ℕ, ◌+◌, ◌≤◌, ◌==◌, ◌&&◌, Bool, true, false, List, [], ◌∷◌, ◌++◌, length, map, Option, Some, None, Ok, Err, if◌then◌else◌, refl, sym, ap, subst, ◌∙◌, append_assoc, arith}
use Rattle.std.specs.List.{AllByRecursion, flat_map}
use Rattle.std.proofs.lemmas.Bool.{eqb-true}
use Rattle.std.proofs.lemmas.Bool.Decides.{nat_tests}
use Rattle.std.proofs.lemmas.List.{length-append, append-nil}
use Rattle.heesch_grid.specs.declared.Cell.{Cell}
use Rattle.heesch_cert.specs.declared.header.Header.{Header}
use Rattle.heesch_cert.specs.declared.entry.Entry.{Entry}
use Rattle.heesch_text.specs.declared.line.Line.{Line}
use Rattle.heesch_text.specs.declared.line.Line.TheVariants as lines
use Rattle.heesch_text.specs.Catalogue.{entry_lines}
use Rattle.heesch_line.specs.Forms.{IsLine}
use Rattle.heesch_grammar.specs.declared.place.Place.TheVariants as places
use Rattle.heesch_grammar.specs.declared.spot.Spot.{Spot}
use Rattle.heesch_grammar.specs.Grammar.{step, is_whole}
use Rattle.heesch_grammar.proofs.Heading.{shape_step}
use Rattle.heesch_grammar.proofs.Inside.{given_some}
use Rattle.heesch_grammar.proofs.Running.{step_between}
use Rattle.heesch_reader.specs.declared.item.Item.{Item}
use Rattle.heesch_reader.specs.declared.progress.Progress.TheVariants as stages
use Rattle.heesch_reader.proofs.Walking.{all_append}
use Rattle.heesch_parts.specs.declared.part_line.PartLine.{PartLine}
use Rattle.heesch_parts.specs.declared.part_line.PartLine.TheVariants as parts
use Rattle.heesch_parts.specs.declared.stage.Stage.{Stage}
use Rattle.heesch_parts.specs.Stages.{led}
use Rattle.heesch_parts.specs.Shares.{IsEntry, items_behind, share_items}
use Rattle.heesch_parts.specs.Joining.{AreBuilt, Gives, shares_of, header_line, header_item, whole_lines, begun_lines, share_lines, lines_before, IsCountOf, IsHeaderOf}
use Rattle.heesch_parts.proofs.Growing.{entries_append, whole_append, share_items_append, entries_of_append}
use Rattle.heesch_parts.proofs.Building.{stage_of, counted_on}
use Rattle.heesch_parts.proofs.Taking.{push_line, lines_so_far, counts, made_entries, given_more, header_on}

-- the lines of the entry at hand, among those of the entries
entries_settled : (entries more : List Entry) (held : List Line) → flat_map entry_lines more ≡ held → flat_map entry_lines (entries ++ more) ≡ flat_map entry_lines entries ++ held
entries_settled entries more held e = entries_append entries more ∙ ap (λ (x : List Line). flat_map entry_lines entries ++ x) e

-- a line more behind them
settled_line : (entries more : List Entry) (held : List Line) (line : Line) → flat_map entry_lines more ≡ held → flat_map entry_lines entries ++ (held ++ line ∷ []) ≡ flat_map entry_lines (entries ++ more) ++ line ∷ []
settled_line entries more held line e = sym (append_assoc (flat_map entry_lines entries) held (line ∷ [])) ∙ ap (λ (x : List Line). x ++ line ∷ []) (sym (entries_settled entries more held e))

-- the items so far, with the entry at hand
items_settled : (shares share : ℕ) (header : Option Header) (whole : List (List Entry)) (entries : List Entry) (held : List Line) (spot : Spot) (brief : Bool) (ls : List PartLine) (given : List Item) (before : ℕ) (more : List Entry)
    → IsHeaderOf header whole (Some (stages.Behind brief spot)) → ls ≡ whole_lines 1 shares header whole ++ begun_lines (Some (stages.Behind brief spot)) share shares header (flat_map entry_lines entries ++ held)
    → given ≡ header_item header ++ (share_items 0 whole ++ items_behind (lines_before whole + 2) entries) → before + length held ≡ length ls
    → given ++ items_behind before more ≡ header_item header ++ (share_items 0 whole ++ items_behind (lines_before whole + 2) (entries ++ more))
items_settled shares share None whole entries held spot brief ls given before more h l g b = absurd h.1
items_settled shares share (Some header) whole entries held spot brief ls given before more h l g b =
    given_more before 0 given (header_item (Some header)) (share_items 0 whole) (lines_before whole + 2) entries more g (lines_so_far shares share header whole spot brief entries held ls before l b)

-- ---- the line of another shape

not_ok : (b : Bool) (n : ℕ) (r next : Stage) → (if b then Err n else Ok next) ≡ Ok r → (b ≡ false) × (next ≡ r)
not_ok true n r next e = absurd cc
not_ok false n r next e = (refl, cc)

less_than_most : (n : ℕ) → (n == 4294967295) ≡ false → n ≤ 4294967295 → n + 1 ≤ 4294967295
less_than_most n e le = grind (arith, nat_tests)

pub built_shape : (shares : Option ℕ) (share : ℕ) (header : Option Header) (entries : ℕ) (brief : Bool) (spot t : Spot) (ls : List PartLine) (held now : List Line) (given items after : List Item) (cells : List Cell) (before : ℕ) (r : Stage)
    → AreBuilt ls (stage_of shares share header entries (Some (stages.Behind brief spot))) held given → IsLine (lines.Shape cells) → step brief spot (lines.Shape cells) ≡ Some t
    → led (stage_of shares share header entries (Some (stages.Behind brief spot))) (lines.Shape cells) (stages.Behind brief t) ≡ Ok r → (g : Gives before held now items after) → before + length held ≡ length ls
    → AreBuilt (ls ++ parts.Catalogue (lines.Shape cells) ∷ []) r (now ++ lines.Shape cells ∷ []) (given ++ items_behind before g.more)
built_shape shares share header entries brief spot t ls held now given items after cells before r b form e l g long =
    let line = lines.Shape cells in
    let hand = b.at_hand in
    let k = shares_of shares in
    let f = not_ok (entries == 4294967295) 12 r (stage_of shares share header (entries + 1) (Some (stages.Behind brief t))) l in
    let full : step false spot line ≡ Some t = subst (λ (x : Bool). step x spot line ≡ Some t) hand.1 e in
    let one = shape_step false spot t cells full in
    let all = counts before b.entries held now (stage_of shares share header entries (Some (stages.Behind brief spot))) spot items after hand.2 g in
    let from : step false (record { shapes = length (b.entries ++ g.more); place = places.Between }) line ≡ Some t =
    ap (λ (x : ℕ). step false (record { shapes = x; place = places.Between }) line) (sym all) ∙ sym (step_between false spot line one.0 tt) ∙ full in
    let held_is : now ++ line ∷ [] ≡ line ∷ [] = ap (λ (x : List Line). x ++ line ∷ []) g.none_held in
    subst (λ (x : Stage). AreBuilt (ls ++ parts.Catalogue line ∷ []) x (now ++ line ∷ []) (given ++ items_behind before g.more)) f.1
    (subst (λ (x : List Line). AreBuilt (ls ++ parts.Catalogue line ∷ []) (stage_of shares share header (entries + 1) (Some (stages.Behind brief t))) x (given ++ items_behind before g.more)) (sym held_is)
    (record {
      whole = b.whole;
      entries = b.entries ++ g.more;
      lines = ap (λ (x : List PartLine). x ++ parts.Catalogue line ∷ []) b.lines
          ∙ push_line (whole_lines 1 k header b.whole) (parts.Share share k) (header_line header) (flat_map entry_lines b.entries) held line
          ∙ ap (λ (x : List Line). whole_lines 1 k header b.whole ++ parts.Share share k ∷ map parts.Catalogue (header_line header ++ x)) (settled_line b.entries g.more held line g.lines);
      given_are = items_settled k share header b.whole b.entries held spot brief ls given before g.more b.header b.lines b.given_are long;
      counted = counted_on shares share b.whole (Some (stages.Behind brief spot)) (Some (stages.Behind brief t)) (λ f. absurd cc) b.counted;
      header = header_on header b.whole b.whole brief spot (Some (stages.Behind brief t)) b.header;
      at_hand = (
        hand.0,
        hand.1,
        record { reached = ap (λ (o : Option Spot). Rattle.std.specs.Option.option_and_then (λ x. Some x) o) from; shapes = inr (one.1 ∙ ap (λ (x : ℕ). x + 1) all) },
      );
      each = b.each;
      each_of_last = all_append IsEntry b.entries g.more b.each_of_last (made_entries g.more g.made (subst (λ (x : List Line). AllByRecursion IsLine x) (sym g.lines) b.held_forms));
      held_forms = (form, tt);
      all = omega (arith, b.all, one.1);
      most = less_than_most entries f.0 b.most;
    }))

-- ---- the end of a share

both : (a b : Bool) → (a && b) ≡ true → (a ≡ true) × (b ≡ true)
both true b e = (refl, e)
both false b e = absurd cc

end_count : (spot t : Spot) (count : ℕ) → step false spot (lines.End count) ≡ Some t → count ≡ spot.shapes
end_count spot t count e =
    let g = given_some (is_whole spot.place && count == spot.shapes) (record { shapes = spot.shapes; place = places.Ended }) t e in
    eqb-true count spot.shapes (both (is_whole spot.place) (count == spot.shapes) g.0).1

-- the lines of the whole share
ended_lines : (k share : ℕ) (header : Option Header) (whole : List (List Entry)) (entries : List Entry) (count : ℕ) → share ≡ length whole + 1 → count ≡ length entries
    → whole_lines 1 k header whole ++ parts.Share share k ∷ map parts.Catalogue (header_line header ++ (flat_map entry_lines entries ++ lines.End count ∷ [])) ≡ whole_lines 1 k header (whole ++ entries ∷ []) ++ []
ended_lines k share header whole entries count number counted =
    let same : share ≡ 1 + length whole = omega (arith, number) in
    ap (λ (x : ℕ). whole_lines 1 k header whole ++ parts.Share share k ∷ map parts.Catalogue (header_line header ++ (flat_map entry_lines entries ++ lines.End x ∷ []))) counted
    ∙ ap (λ (x : ℕ). whole_lines 1 k header whole ++ share_lines x k header entries) same
    ∙ sym (whole_append 1 k header whole entries)
    ∙ sym (append-nil (whole_lines 1 k header (whole ++ entries ∷ [])))

pub built_end : (shares : Option ℕ) (share : ℕ) (header : Option Header) (entries : ℕ) (brief : Bool) (spot t : Spot) (ls : List PartLine) (held now : List Line) (given items after : List Item) (count before : ℕ) (r : Stage)
    → AreBuilt ls (stage_of shares share header entries (Some (stages.Behind brief spot))) held given → step brief spot (lines.End count) ≡ Some t
    → led (stage_of shares share header entries (Some (stages.Behind brief spot))) (lines.End count) (stages.Behind brief t) ≡ Ok r → (g : Gives before held now items after) → before + length held ≡ length ls
    → AreBuilt (ls ++ parts.Catalogue (lines.End count) ∷ []) r now (given ++ items_behind before g.more)
built_end shares share header entries brief spot t ls held now given items after count before r b e l g long =
    let line = lines.End count in
    let hand = b.at_hand in
    let k = shares_of shares in
    let last = b.entries ++ g.more in
    let next : stage_of shares share header entries None ≡ r = cc in
    let full : step false spot line ≡ Some t = subst (λ (x : Bool). step x spot line ≡ Some t) hand.1 e in
    let all = counts before b.entries held now (stage_of shares share header entries (Some (stages.Behind brief spot))) spot items after hand.2 g in
    let counted : count ≡ length last = end_count spot t count full ∙ all in
    let more_whole = length-append b.whole (last ∷ []) in
    let more_entries = entries_of_append b.whole last in
    let given_is = items_settled k share header b.whole b.entries held spot brief ls given before g.more b.header b.lines b.given_are long in
    let shared : share_items 0 b.whole ++ items_behind (lines_before b.whole + 2) last ≡ share_items 0 (b.whole ++ last ∷ []) ++ [] = shares_with b.whole last in
    subst (λ (x : Stage). AreBuilt (ls ++ parts.Catalogue line ∷ []) x now (given ++ items_behind before g.more)) next
    (subst (λ (x : List Line). AreBuilt (ls ++ parts.Catalogue line ∷ []) (stage_of shares share header entries None) x (given ++ items_behind before g.more)) (sym g.none_held)
    (record {
      whole = b.whole ++ last ∷ [];
      entries = [];
      lines = ap (λ (x : List PartLine). x ++ parts.Catalogue line ∷ []) b.lines
          ∙ push_line (whole_lines 1 k header b.whole) (parts.Share share k) (header_line header) (flat_map entry_lines b.entries) held line
          ∙ ap (λ (x : List Line). whole_lines 1 k header b.whole ++ parts.Share share k ∷ map parts.Catalogue (header_line header ++ x)) (settled_line b.entries g.more held line g.lines)
          ∙ ended_lines k share header b.whole last count hand.0 counted;
      given_are = given_is ∙ ap (λ (x : List Item). header_item header ++ x) shared;
      counted = counted_end shares share b.whole (b.whole ++ last ∷ []) b.counted;
      header = header_on header b.whole (b.whole ++ last ∷ []) brief spot None b.header;
      at_hand = (omega (arith, hand.0, more_whole), record { no_entry = refl; no_line = refl });
      each = all_append (AllByRecursion IsEntry) b.whole (last ∷ []) b.each
          (all_append IsEntry b.entries g.more b.each_of_last (made_entries g.more g.made (subst (λ (x : List Line). AllByRecursion IsLine x) (sym g.lines) b.held_forms)), tt);
      each_of_last = tt;
      held_forms = tt;
      all = omega (arith, b.all, more_entries, all);
      most = b.most;
    }))
  where
    counted_end : (shares : Option ℕ) (share : ℕ) (whole more : List (List Entry)) → IsCountOf shares share whole (Some (stages.Behind brief spot)) → IsCountOf shares share more None
    counted_end None share whole more c = let bad = c.1 in absurd cc
    counted_end (Some k) share whole more c = c

    shares_with : (whole : List (List Entry)) (last : List Entry) → share_items 0 whole ++ items_behind (lines_before whole + 2) last ≡ share_items 0 (whole ++ last ∷ []) ++ []
    shares_with whole last =
        let same : lines_before whole + 2 ≡ 0 + lines_before whole + 2 = omega arith in
        ap (λ (x : ℕ). share_items 0 whole ++ items_behind x last) same ∙ sym (share_items_append 0 whole last) ∙ sym (append-nil (share_items 0 (whole ++ last ∷ [])))
