-- What the loop over the cells keeps, and the UID of the card.
use Rattle.std.proofs.Common.{◌≡◌, ◌≤◌, ◌+◌, ℕ, List, [], ◌∷◌, ◌++◌, get_or, length, true, Some, None}
use Rattle.std.proofs.Common.{◌&&◌, inl, inr, map, ap, refl, sym, subst, ◌∙◌, arith}
use Rattle.std.specs.Char.{to_ascii_uppercase}
use Rattle.std.specs.Str.{str_to_ascii_uppercase}
use Rattle.std.specs.List.{Contains, list_any}
use Rattle.std.proofs.Math.Nat.{eq-or-lt_of_le}
use Rattle.std.proofs.lemmas.Bool.Decides.{nat_tests}
use Rattle.std.proofs.lemmas.List.{map-append, append-nil, get_or-map}
use Rattle.contact_columns.specs.Cells.{cell_text}
use Rattle.contact_csv.specs.Contacts.{IsContact}
use Rattle.contact_csv.specs.RowUids.{IsRowUid}
use Rattle.std.proofs.lemmas.List.Elements.{Contains-append_right}
use Rattle.vcard_changes.specs.declared.change.Change.{Change}
use Rattle.vcard_lines.specs.declared.line.Line.{Line}
use Rattle.vcard_text.specs.Cards.{uid_of}
use Rattle.vcard_text.specs.Making.{upper_line, upper_lines}
use Rattle.vcard_changes.specs.declared.change_kind.ChangeKind.{ChangeKind}
use Rattle.vcard_changes.specs.declared.change_kind.ChangeKind.TheVariants.{Rewritten, KeptAside}
use Rattle.vcard_changes.specs.declared.change_kind.ChangeKind.TheVariants.{Unreadable}
use Rattle.contact_csv.specs.Carrying.{IsCarried, column_at, component_in, change, is_date_column}
use Rattle.contact_csv.specs.Carrying.{is_date_name, as_date, as_date_text, in_addresses}
use Rattle.contact_csv.specs.Carrying.{has_text, in_component, in_parts, kept_aside, whole}
use Rattle.contact_csv.specs.internal.Keeping.{BeginsWithUid, IsCarriedWhole, KeepsAside, KeepsCell}
use Rattle.contact_csv.specs.internal.Keeping.{IsComponentCarried}
use Rattle.contact_csv.specs.internal.Keeping.{Keeps, ReportsOnly}
use Rattle.contact_columns.specs.declared.columns.Column.{Column}
use Rattle.contact_csv.specs.declared.keeping.Kept.{Kept}
use Rattle.contact_csv.proofs.CarryLemmas.{carried_stays}

upper_stays : (b : ℕ) → to_ascii_uppercase (to_ascii_uppercase b) ≡ to_ascii_uppercase b
upper_stays b = grind (arith, nat_tests)

uppers_stay : (w : List ℕ) → str_to_ascii_uppercase (str_to_ascii_uppercase w)
    ≡ str_to_ascii_uppercase w
uppers_stay [] = λ _. []
uppers_stay (b ∷ w) = ap (λ c. c ∷ str_to_ascii_uppercase (str_to_ascii_uppercase w))
    (upper_stays b) ∙ ap (λ t. to_ascii_uppercase b ∷ t) (uppers_stay w)

pub line_stays : (line : Line) → upper_line (upper_line line) ≡ upper_line line
line_stays line = ap (λ name. record {
  group = line.group;
  name = name;
  params = line.params;
  value = line.value;
}) (uppers_stay line.name)

-- ---- lines after the UID

pub begins_stays : (uid : List ℕ) (lines more : List Line) → upper_lines more ≡ more
    → BeginsWithUid uid lines → BeginsWithUid uid (lines ++ more)
begins_stays uid lines more up begins = record {
  others = begins.others ++ more;
  lines_are = ap (λ l. l ++ more) begins.lines_are;
  upper = map-append upper_line lines more ∙ ap (λ l. l ++ upper_lines more) begins.upper
      ∙ ap (λ l. lines ++ l) up;
}

pub begins_more : (uid : List ℕ) (lines : List Line) (line : Line) → BeginsWithUid uid lines
    → BeginsWithUid uid (lines ++ upper_line line ∷ [])
begins_more uid lines line begins =
    begins_stays uid lines (upper_line line ∷ []) (ap (λ l. l ∷ []) (line_stays line)) begins

-- ---- cells

-- one more cell
pub keeps_more : (uid : List ℕ) (columns : List Column) (texts : List (List ℕ)) (place : ℕ)
    (old new : Kept) → Keeps uid columns texts place old
    → KeepsCell (column_at columns place) place (get_or texts place []) old new
    → Keeps uid columns texts (place + 1) new
keeps_more uid columns texts place old new keeps cell = record {
  begins = subst (BeginsWithUid uid) (sym cell.lines_are) (begins_stays uid old.lines cell.lines
      cell.upper keeps.begins);
  cells = λ other small. elim (eq-or-lt_of_le {n = other} {m = place} (omega (arith, small))) [
    | inr earlier ↦ subst (λ l. IsCarried (column_at columns other) other (get_or texts other []) l
        new.changes) (sym cell.lines_are)
        (subst (λ l. IsCarried (column_at columns other) other (get_or texts other []) (old.lines
        ++ cell.lines) l) (sym cell.changes_are)
        (carried_stays (column_at columns other) other (get_or texts other []) old.lines cell.lines
        old.changes cell.changes (keeps.cells other earlier)))
    | inl same ↦ subst (λ p. IsCarried (column_at columns p) p (get_or texts p []) new.lines
        new.changes) (sym same) cell.carried
  ];
}

last_is : {X : Type 0} (xs : List X) (x : X) → Contains (xs ++ x ∷ []) x
last_is xs x = Contains-append_right xs (x ∷ []) x (0, omega arith, refl)

-- ---- what is kept of a cell

-- a report, where the lines carry it and it is a date in words
pub report_keeps : (column : Column) (place : ℕ) (text : List ℕ) (old new : Kept)
    → IsCarried column place text old.lines old.changes → ReportsOnly old new
    → KeepsCell column place text old new
report_keeps column place text old new carried reports = record {
  lines = [];
  upper = refl;
  lines_are = reports.lines_are ∙ sym (append-nil old.lines);
  changes = reports.changes;
  changes_are = reports.changes_are;
  carried = subst (λ (ls : List Line). IsCarried column place text ls new.changes)
      (sym reports.lines_are)
      (subst (λ cs. IsCarried column place text old.lines cs) (sym reports.changes_are)
      (subst (λ (ls : List Line). IsCarried column place text ls (old.changes ++ reports.changes))
      (append-nil old.lines)
      (carried_stays column place text old.lines [] old.changes reports.changes carried)));
}

-- one report
pub reports_one : (place : ℕ) (kind : ChangeKind) (old new : Kept) → new.lines ≡ old.lines
    → new.changes ≡ old.changes ++ change place kind ∷ [] → ReportsOnly old new
reports_one place kind old new lines changes =
    record { lines_are = lines; changes = change place kind ∷ []; changes_are = changes }

-- no report
pub reports_none : (old : Kept) → ReportsOnly old old
reports_none old = record {
  lines_are = refl;
  changes = [];
  changes_are = sym (append-nil old.changes);
}

-- a report, where it is a date
pub date_keeps : (column : Column) (place : ℕ) (text : List ℕ) (old new : Kept)
    → is_date_column column.property ≡ true → list_any (λ line. is_date_name line.name) old.lines
    ≡ true → new.lines ≡ old.lines → new.changes ≡ old.changes ++ change place Rewritten ∷ []
    → KeepsCell column place text old new
date_keeps column place text old new dates line lines changes = record {
  lines = [];
  upper = refl;
  lines_are = lines ∙ sym (append-nil old.lines);
  changes = change place Rewritten ∷ [];
  changes_are = changes;
  carried = as_date dates (subst (λ (ls : List Line). list_any (λ l. is_date_name l.name) ls ≡ true)
      (sym lines) line)
      (subst (λ cs. Contains cs (change place Rewritten)) (sym changes)
      (last_is old.changes (change place Rewritten)));
}

-- a report of a date that isn't read
pub date_text_keeps : (column : Column) (place : ℕ) (text : List ℕ) (old new : Kept)
    → is_date_column column.property ≡ true
    → list_any (λ line. is_date_name line.name && has_text text line) old.lines ≡ true
    → new.lines ≡ old.lines → new.changes ≡ old.changes ++ change place Unreadable ∷ []
    → KeepsCell column place text old new
date_text_keeps column place text old new dates line lines changes = record {
  lines = [];
  upper = refl;
  lines_are = lines ∙ sym (append-nil old.lines);
  changes = change place Unreadable ∷ [];
  changes_are = changes;
  carried = as_date_text dates (subst (λ (ls : List Line). list_any (λ l. is_date_name l.name
      && has_text text l) ls ≡ true) (sym lines) line)
      (subst (λ cs. Contains cs (change place Unreadable)) (sym changes)
      (last_is old.changes (change place Unreadable)));
}

-- a line and a report
pub aside_keeps : (column : Column) (place : ℕ) (text : List ℕ) (old new : Kept)
    → KeepsAside place text old new → KeepsCell column place text old new
aside_keeps column place text old new kept = record {
  lines = kept.line ∷ [];
  upper = ap (λ l. l ∷ []) kept.upper;
  lines_are = kept.lines_are;
  changes = change place KeptAside ∷ [];
  changes_are = kept.changes_are;
  carried = kept_aside kept.line (subst (λ ls. Contains ls kept.line) (sym kept.lines_are)
      (last_is old.lines kept.line)) kept.name kept.value
      (subst (λ cs. Contains cs (change place KeptAside)) (sym kept.changes_are)
      (last_is old.changes (change place KeptAside)));
}

-- the contact of a row
pub row_kept : (uid : List ℕ) (columns : List Column) (row : List (List ℕ)) (made : Kept)
    → IsRowUid columns (map cell_text row) uid → Keeps uid columns (map cell_text row) (length row)
    made → IsContact columns row made.lines made.changes
row_kept uid columns row made is keeps = record {
  cells = λ place small. subst (λ text. IsCarried (column_at columns place) place text made.lines
      made.changes) (get_or-map cell_text row place [] [] small) (keeps.cells place small);
  uid = subst (IsRowUid columns (map cell_text row)) (sym (ap uid_of keeps.begins.lines_are)) is;
}

-- changes alone
pub keeps_reported : (uid : List ℕ) (columns : List Column) (texts : List (List ℕ)) (count : ℕ)
    (old new : Kept) → Keeps uid columns texts count old → ReportsOnly old new
    → Keeps uid columns texts count new
keeps_reported uid columns texts count old new keeps reports = record {
  begins = subst (BeginsWithUid uid) (sym reports.lines_are) keeps.begins;
  cells = λ place small. let kept = report_keeps (column_at columns place) place
      (get_or texts place []) old new (keeps.cells place small) reports in kept.carried;
}

-- fewer cells
pub keeps_fewer : (uid : List ℕ) (columns : List Column) (texts : List (List ℕ)) (count place : ℕ)
    (made : Kept) → count ≤ place → Keeps uid columns texts place made
    → Keeps uid columns texts count made
keeps_fewer uid columns texts count place made fewer keeps = record {
  begins = keeps.begins;
  cells = λ other small. keeps.cells other (omega (arith, small, fewer));
}

-- a text that is no component is carried as a value
pub carried_whole : (column : Column) (place : ℕ) (text : List ℕ) (lines : List Line) (changes :
    List Change) → component_in column ≡ None → IsCarriedWhole column.property text lines
    → IsCarried column place text lines changes
carried_whole column place text lines changes none (inl held) = whole none held
carried_whole column place text lines changes none (inr parts) =
    in_parts parts.0 none parts.1 parts.2

-- a text that is a component is carried as one, or as several addresses
pub component_carried : (column : Column) (place : ℕ) (text : List ℕ) (lines : List Line) (changes :
    List Change) (index : ℕ) → component_in column ≡ Some index
    → IsComponentCarried column.property index text lines
    → IsCarried column place text lines changes
component_carried column place text lines changes index some (inl held) =
    in_component index some held
component_carried column place text lines changes index some (inr parts) =
    in_addresses index some parts.0 parts.1
