-- Rows read one after another.
use Rattle.std.proofs.Common.{◌≡◌, ◌+◌, ◌-◌, ◌<◌, ℕ, List, [], ◌∷◌, ◌++◌, take, length, get_or}
use Rattle.std.proofs.Common.{slice_get, Option, Some, refl, sym, ap, subst, ◌∙◌, arith}
use Rattle.std.specs.FinMap as finite
use Rattle.std.specs.Option.{option_map_or}
use Rattle.std.proofs.lemmas.List.{take_more, map-append, length_push}
use Rattle.std.proofs.lemmas.List.Sums.{fold-append}
use Rattle.sqlite.specs.Order.{Row}
use Rattle.book_model.specs.declared.answers.BookLine.{BookLine}
use Rattle.book_model.specs.declared.page.Entry.{Entry}
use Rattle.book_model.specs.Books.{LiveCards}
use Rattle.book_model.specs.Pages.{MemberWithRow, entry_of_row, last_row_number, number_at_index}
use Rattle.book_model.specs.BookQueries.{with_live}
use Rattle.store_rows.specs.ReadLaws.{ShowsLine, ShowLines}
use Rattle.store_rows.specs.ShownRows.{ShowsMember, ShowMembers}
use Rattle.store_queries.specs.internal.RowLists.{ShowCards, ShowEntries}

taken : (rows : List Row) (i : ℕ) (row : Row) → i < length rows → row ≡ get_or rows i row
    → take (i + 1) rows ≡ take i rows ++ row ∷ []
taken rows i row within is = take_more rows i row within ∙ ap (λ r. take i rows ++ r ∷ []) (sym is)

lines_more : (rows : List Row) (lines : List BookLine) (row : Row) (line : BookLine)
    → ShowLines rows lines → ShowsLine row line → ShowLines (rows ++ row ∷ []) (lines ++ line ∷ [])
lines_more [] [] row line h is = (is, tt)
lines_more [] (l ∷ ls) row line h is = absurd h
lines_more (r ∷ rs) [] row line h is = absurd h
lines_more (r ∷ rs) (l ∷ ls) row line h is = (h.0, lines_more rs ls row line h.1 is)

-- one more line at the end
pub lines_step : (rows : List Row) (i : ℕ) (lines more : List BookLine) (row : Row) (line :
    BookLine) → i < length rows → row ≡ get_or rows i row → more ≡ lines ++ line ∷ []
    → ShowLines (take i rows) lines → ShowsLine row line → ShowLines (take (i + 1) rows) more
lines_step rows i lines more row line within is pushed h shows =
    subst (λ rs. ShowLines rs more) (sym (taken rows i row within is))
    (subst (ShowLines (take i rows ++ row ∷ [])) (sym pushed) (lines_more (take i rows) lines
    row line h shows))

members_more : (rows : List Row) (members : List MemberWithRow) (row : Row) (member : MemberWithRow)
    → ShowMembers rows members → ShowsMember row member
    → ShowMembers (rows ++ row ∷ []) (members ++ member ∷ [])
members_more [] [] row member h is = (is, tt)
members_more [] (m ∷ ms) row member h is = absurd h
members_more (r ∷ rs) [] row member h is = absurd h
members_more (r ∷ rs) (m ∷ ms) row member h is = (h.0, members_more rs ms row member h.1 is)

-- the card of one more member
pub cards_step : (rows : List Row) (i : ℕ) (cards more : LiveCards) (row : Row) (member :
    MemberWithRow) → i < length rows → row ≡ get_or rows i row → more ≡ with_live cards member
    → ShowCards (take i rows) cards → ShowsMember row member → ShowCards (take (i + 1) rows) more
cards_step rows i cards more row member within is put h shows = record {
  members = h.members ++ member ∷ [];
  shown = subst (λ rs. ShowMembers rs (h.members ++ member ∷ [])) (sym (taken rows i row within is))
      (members_more (take i rows) h.members row member h.shown shows);
  cards_are = put ∙ ap (λ c. with_live c member) h.cards_are
      ∙ sym (fold-append with_live finite.empty h.members (member ∷ []));
}

end_of : (members : List MemberWithRow) (member : MemberWithRow)
    → slice_get (members ++ member ∷ []) (length members) ≡ Some member
end_of [] member = refl
end_of (m ∷ ms) member = end_of ms member

before_end : (members : List MemberWithRow) (member : MemberWithRow)
    → length (members ++ member ∷ []) - 1 ≡ length members
before_end members member = ap (λ n. n - 1) (length_push members member) ∙ omega arith

last_is : (members : List MemberWithRow) (member : MemberWithRow)
    → last_row_number (members ++ member ∷ []) ≡ member.1.changed
last_is members member =
    ap (number_at_index (members ++ member ∷ [])) (before_end members member)
    ∙ ap (λ (o : Option MemberWithRow). option_map_or (λ (m : MemberWithRow). m.1.changed) o 0)
    (end_of members member)

-- one more entry at the end
pub entries_step : (rows : List Row) (i : ℕ) (entries more : List Entry) (last : ℕ) (row : Row)
    (member : MemberWithRow) → i < length rows → row ≡ get_or rows i row
    → more ≡ entries ++ entry_of_row member ∷ []
    → ShowEntries (take i rows) entries last → ShowsMember row member
    → ShowEntries (take (i + 1) rows) more member.1.changed
entries_step rows i entries more last row member within is pushed h shows = record {
  members = h.members ++ member ∷ [];
  shown = subst (λ rs. ShowMembers rs (h.members ++ member ∷ [])) (sym (taken rows i row within is))
      (members_more (take i rows) h.members row member h.shown shows);
  entries_are = pushed ∙ ap (λ es. es ++ entry_of_row member ∷ []) h.entries_are
      ∙ sym (map-append entry_of_row h.members (member ∷ []));
  last_is = sym (last_is h.members member);
}

pub no_entries : ShowEntries [] [] 0
no_entries = record { members = []; shown = tt; entries_are = refl; last_is = refl }

pub no_cards : ShowCards [] finite.empty
no_cards = record { members = []; shown = tt; cards_are = refl }
