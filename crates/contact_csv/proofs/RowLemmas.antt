-- The octets of a row's cells, one more after those before.
use Rattle.std.proofs.Common.{◌≡◌, ◌≤◌, ◌<◌, ◌+◌, ◌++◌, [], ℕ, List, length, drop, get_or, sym, ap}
use Rattle.std.proofs.Common.{append_assoc, append-nil, ◌∙◌}
use Rattle.std.proofs.lemmas.List.{drop_all, drop_more}
use Rattle.contact_columns.specs.declared.columns.Column.{Column}
use Rattle.contact_csv.specs.Carrying.{column_at}
use Rattle.contact_csv.specs.RowUids.{cell_octets, octets_from}

pub more_octets : (columns : List Column) (texts : List (List ℕ)) (place : ℕ) (octets all : List ℕ)
    → place < length texts → octets ++ octets_from columns place (drop place texts) ≡ all
    → (octets ++ cell_octets (column_at columns place) (get_or texts place []))
    ++ octets_from columns (place + 1) (drop (place + 1) texts) ≡ all
unfolding octets_from
more_octets columns texts place octets all small so_far =
    append_assoc octets (cell_octets (column_at columns place) (get_or texts place []))
    (octets_from columns (place + 1) (drop (place + 1) texts))
    ∙ ap (λ l. octets ++ octets_from columns place l) (sym (drop_more texts place [] small))
    ∙ so_far

pub all_octets : (columns : List Column) (texts : List (List ℕ)) (place : ℕ) (octets all : List ℕ)
    → length texts ≤ place → octets ++ octets_from columns place (drop place texts) ≡ all
    → octets ≡ all
unfolding octets_from
all_octets columns texts place octets all past so_far =
    sym (append-nil octets) ∙ ap (λ l. octets ++ octets_from columns place l)
    (sym (drop_all place texts past)) ∙ so_far
