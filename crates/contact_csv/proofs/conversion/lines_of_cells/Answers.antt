use Rattle.std.proofs.Common.{◌≡◌, ◌∙◌, false, map, length, ap, subst, string_bytes}
use Rattle.csv.specs.Records.{fields_of}
use Rattle.std.proofs.lemmas.List.{length-map}
use Rattle.contact_columns.specs.Cells.{cell_text}
use Rattle.contact_csv.specs.RowUids.{IsRowUid, row_uid}
use Rattle.vcard_text.specs.Cards.{uid_of}
use Rattle.contact_csv.specs.internal.Keeping.{Keeps}
use Rattle.contact_csv.proofs.KeepLemmas.{row_kept}
use Rattle.contact_csv.proofs.ResultLemmas.{ok_then}
use Rattle.contact_csv.proofs.conversion.lines_of_cells.Goals as goal

pub returns-clause-contact : goal.returns-clause-contact
returns-clause-contact c =
    let uid = string_bytes c.in_ok-uid.uid in
    let fields = fields_of c.args.row.now in
    let columns = c.args.columns.now.columns in
    let texts : c.args.cells.now ≡ map cell_text fields = c.requires in
    let same : IsRowUid columns (map cell_text fields) uid =
    subst (λ ts. IsRowUid columns ts uid) texts
    (subst (λ cs. IsRowUid cs c.args.cells.now uid) c.as_slice-names.ensures
    c.in_ok-uid.ensures.row) in
    ok_then c.keep_row.result (λ made keeps. row_kept uid columns fields made same
    (subst (λ count. Keeps uid columns (map cell_text fields) count made)
    (length-map fields cell_text)
    (subst (λ ts. Keeps uid columns ts (length ts) made) texts
    (subst (λ cs. Keeps uid cs c.args.cells.now (length c.args.cells.now)
    made) c.as_slice-names.ensures keeps)))) c.keep_row.ensures

pub returns-clause-computed : goal.returns-clause-computed
returns-clause-computed c =
    let uid = string_bytes c.in_ok-uid.uid in
    let fields = fields_of c.args.row.now in
    let columns = c.args.columns.now.columns in
    let texts : c.args.cells.now ≡ map cell_text fields = c.requires in
    let same : c.args.may_own ≡ false → uid ≡ row_uid columns (map cell_text fields) =
    λ may. c.in_ok-uid.ensures.computed may ∙ ap (λ cs. row_uid cs c.args.cells.now)
    c.as_slice-names.ensures ∙ ap (row_uid columns) texts in
    ok_then c.keep_row.result (λ made keeps may. ap uid_of keeps.begins.lines_are
    ∙ same may) c.keep_row.ensures

pub returns-clause-upper : goal.returns-clause-upper
returns-clause-upper c = ok_then c.keep_row.result (λ made keeps. keeps.begins.upper)
    c.keep_row.ensures
