-- The lines and items of shares to which another entry or share is added.
use Rattle.std.proofs.Common.{◌≡◌, ℕ, suc, ◌+◌, List, [], ◌∷◌, ◌++◌, length, map, Option, Some, refl, sym, ap, ◌∙◌, append_assoc, arith}
use Rattle.std.specs.List.{flat_map}
use Rattle.std.proofs.lemmas.List.{length-append, length-map, append-nil}
use Rattle.std.proofs.lemmas.List.Concat.{flat_map-append}
use Rattle.heesch_cert.specs.declared.header.Header.{Header}
use Rattle.heesch_cert.specs.declared.entry.Entry.{Entry}
use Rattle.heesch_text.specs.declared.line.Line.{Line}
use Rattle.heesch_text.specs.declared.line.Line.TheVariants as lines
use Rattle.heesch_text.specs.Catalogue.{entry_lines}
use Rattle.heesch_grammar.specs.Statements.{catalogue_lines}
use Rattle.heesch_reader.specs.declared.item.Item.{Item}
use Rattle.heesch_parts.specs.declared.part_line.PartLine.{PartLine}
use Rattle.heesch_parts.specs.declared.part_line.PartLine.TheVariants as parts
use Rattle.heesch_parts.specs.Shares.{entries_of, items_behind, line_count, share_items}
use Rattle.heesch_parts.specs.Joining.{share_lines, whole_lines, lines_before}

-- ---- entries

pub entries_append : (a b : List Entry) → flat_map entry_lines (a ++ b) ≡ flat_map entry_lines a ++ flat_map entry_lines b
entries_append a b = flat_map-append entry_lines a b

pub items_append : (n : ℕ) (a b : List Entry) → items_behind n (a ++ b) ≡ items_behind n a ++ items_behind (n + length (flat_map entry_lines a)) b
items_append n [] b = let same : n + 0 ≡ n = omega arith in ap (λ (x : ℕ). items_behind x b) (sym same)
items_append n (e ∷ a) b =
    let long : length (entry_lines e ++ flat_map entry_lines a) ≡ length (entry_lines e) + length (flat_map entry_lines a) = length-append (entry_lines e) (flat_map entry_lines a) in
    let same : n + length (entry_lines e) + length (flat_map entry_lines a) ≡ n + length (flat_map entry_lines (e ∷ a)) = omega (arith, long) in
    let rest = items_append (n + length (entry_lines e)) a b ∙ ap (λ (x : ℕ). items_behind (n + length (entry_lines e)) a ++ items_behind x b) same in
    ap (λ (x : List Item). Rattle.heesch_reader.specs.declared.item.Item.TheVariants.Entry (n + 1) e ∷ x) rest

-- ---- shares

pub whole_append : (i k : ℕ) (header : Option Header) (whole : List (List Entry)) (entries : List Entry) → whole_lines i k header (whole ++ entries ∷ []) ≡ whole_lines i k header whole ++ share_lines (i + length whole) k header entries
whole_append i k header [] entries =
    let same : i + 0 ≡ i = omega arith in
    append-nil (share_lines i k header entries) ∙ ap (λ (x : ℕ). share_lines x k header entries) (sym same)
whole_append i k header (es ∷ whole) entries =
    let same : i + 1 + length whole ≡ i + suc (length whole) = omega arith in
    ap (λ (x : List PartLine). share_lines i k header es ++ x) (whole_append (i + 1) k header whole entries ∙ ap (λ (x : ℕ). whole_lines (i + 1) k header whole ++ share_lines x k header entries) same)
    ∙ sym (append_assoc (share_lines i k header es) (whole_lines (i + 1) k header whole) (share_lines (i + suc (length whole)) k header entries))

pub share_items_append : (n : ℕ) (whole : List (List Entry)) (entries : List Entry) → share_items n (whole ++ entries ∷ []) ≡ share_items n whole ++ items_behind (n + lines_before whole + 2) entries
share_items_append n [] entries =
    let same : n + 2 ≡ n + 0 + 2 = omega arith in
    append-nil (items_behind (n + 2) entries) ∙ ap (λ (x : ℕ). items_behind x entries) same
share_items_append n (es ∷ whole) entries =
    let same : n + line_count es + lines_before whole + 2 ≡ n + lines_before (es ∷ whole) + 2 = omega arith in
    ap (λ (x : List Item). items_behind (n + 2) es ++ x) (share_items_append (n + line_count es) whole entries ∙ ap (λ (x : ℕ). share_items (n + line_count es) whole ++ items_behind x entries) same)
    ∙ sym (append_assoc (items_behind (n + 2) es) (share_items (n + line_count es) whole) (items_behind (n + lines_before (es ∷ whole) + 2) entries))

pub entries_of_append : (whole : List (List Entry)) (entries : List Entry) → length (entries_of (whole ++ entries ∷ [])) ≡ length (entries_of whole) + length entries
entries_of_append whole entries =
    let all = ap length (flat_map-append (λ (x : List Entry). x) whole (entries ∷ []) ∙ ap (λ (x : List Entry). entries_of whole ++ x) (append-nil entries)) in
    all ∙ length-append (entries_of whole) entries

-- ---- how many

pub mapped_long : (ls : List Line) → length (map parts.Catalogue ls) ≡ length ls
mapped_long ls = length-map ls parts.Catalogue

share_long : (i k : ℕ) (header : Header) (es : List Entry) → length (share_lines i k (Some header) es) ≡ line_count es
share_long i k header es =
    let body = mapped_long (catalogue_lines entry_lines es) in
    let last = length-append (flat_map entry_lines es) (lines.End (length es) ∷ []) in
    omega (arith, body, last)

pub whole_long : (i k : ℕ) (header : Header) (whole : List (List Entry)) → length (whole_lines i k (Some header) whole) ≡ lines_before whole
whole_long i k header [] = refl
whole_long i k header (es ∷ whole) =
    let all = length-append (share_lines i k (Some header) es) (whole_lines (i + 1) k (Some header) whole) in
    omega (arith, all, share_long i k header es, whole_long (i + 1) k header whole)
