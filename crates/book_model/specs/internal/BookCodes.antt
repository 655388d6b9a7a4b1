-- Codes of rows and books, which distinguish the values of models.
use Rattle.std.specs.Prelude.{ℕ, Bool, List, Option, refl}
use Rattle.std.specs.FinMap as finite
use Rattle.std.specs.Coded.{Coded, code_by, coded×, coded_ℕ, coded_bool, coded_list, coded_option}
use Rattle.base_types.specs.TextMaps.{text_cmp, coded_text}
use Rattle.vcard_lines.specs.declared.line.Line.{Line}
use Rattle.vcard_lines.specs.declared.line.Param.{Param}
use Rattle.vcard_lines.specs.declared.line.ParamValue.{ParamValue}
use Rattle.book_model.specs.declared.answers.ImportTally.{ImportTally}
use Rattle.book_model.specs.declared.counts.Counts.{Counts}
use Rattle.book_model.specs.declared.row.Row.{Row}
use Rattle.book_model.specs.Books.{Book}

abbrev pub coded_value : Coded ParamValue
coded_value = code_by (Bool × List ℕ) (coded× coded_bool coded_text) (λ v. (v.quoted, v.text))
    (λ p. record { quoted = p.0; text = p.1 }) (λ _. refl)

abbrev pub coded_param : Coded Param
coded_param = code_by (List ℕ × List ParamValue) (coded× coded_text (coded_list coded_value))
    (λ a. (a.name, a.values)) (λ p. record { name = p.0; values = p.1 }) (λ _. refl)

abbrev pub coded_line : Coded Line
coded_line =
    code_by (Option (List ℕ) × (List ℕ × (List Param × List ℕ)))
    (coded× (coded_option coded_text)
    (coded× coded_text (coded× (coded_list coded_param) coded_text)))
    (λ l. (l.group, (l.name, (l.params, l.value))))
    (λ p. record { group = p.0; name = p.1.0; params = p.1.1.0; value = p.1.1.1 }) (λ _. refl)

abbrev pub coded_row : Coded Row
coded_row = code_by (ℕ × Option (List Line))
    (coded× coded_ℕ (coded_option (coded_list coded_line))) (λ r. (r.changed, r.card))
    (λ p. record { changed = p.0; card = p.1 }) (λ _. refl)

abbrev pub coded_counts : Coded Counts
coded_counts =
    code_by (ℕ × (ℕ × (ℕ × (ℕ × (ℕ × (ℕ × ℕ))))))
    (coded× coded_ℕ (coded× coded_ℕ (coded× coded_ℕ
    (coded× coded_ℕ (coded× coded_ℕ (coded× coded_ℕ coded_ℕ))))))
    (λ c. (
      c.created,
      (
        c.edited,
        (
          c.imported,
          (c.import_edited, (c.moved_in, (c.deleted, c.moved_out))),
        ),
      ),
    ))
    (λ p. record {
      created = p.0;
      edited = p.1.0;
      imported = p.1.1.0;
      import_edited = p.1.1.1.0;
      moved_in = p.1.1.1.1.0;
      deleted = p.1.1.1.1.1.0;
      moved_out = p.1.1.1.1.1.1;
    }) (λ _. refl)

abbrev pub coded_tally : Coded ImportTally
coded_tally =
    code_by (ℕ × (ℕ × (ℕ × ℕ))) (coded× coded_ℕ (coded× coded_ℕ (coded× coded_ℕ coded_ℕ)))
    (λ t. (t.added, (t.edited, (t.same, t.number))))
    (λ p. record { added = p.0; edited = p.1.0; same = p.1.1.0; number = p.1.1.1 }) (λ _. refl)

abbrev pub coded_book : Coded Book
coded_book =
    code_by (ℕ × (ℕ × (ℕ × (ℕ × (Counts × (finite.FinMap text_cmp Row
    × finite.FinMap text_cmp ImportTally))))))
    (coded× coded_ℕ (coded× coded_ℕ (coded× coded_ℕ (coded× coded_ℕ (coded× coded_counts
    (coded× (finite.code coded_text coded_row) (finite.code coded_text coded_tally)))))))
    (λ b. (b.id, (b.number, (b.horizon, (b.keep, (b.counts, (b.members, b.imports)))))))
    (λ p. record {
      id = p.0;
      number = p.1.0;
      horizon = p.1.1.0;
      keep = p.1.1.1.0;
      counts = p.1.1.1.1.0;
      members = p.1.1.1.1.1.0;
      imports = p.1.1.1.1.1.1;
    }) (λ _. refl)
