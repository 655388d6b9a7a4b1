-- Due rows of the tables, as members in the order of their numbers.
use Rattle.std.proofs.Common.{◌≡◌, ℕ, ℤ, pos, zero, suc, ◌+◌, ◌<◌, ◌≤◌, min, ◌&&◌, ◌||◌, List, []}
use Rattle.std.proofs.Common.{◌∷◌, map, filter, length, take, Option, Some, None, int_eq}
use Rattle.std.proofs.Common.{IsPermutation, refl, sym, ap, ap₂, subst, ◌∙◌, arith}
use Rattle.std.specs.Option.{option_map}
use Rattle.std.specs.FinMap as finite
use Rattle.std.proofs.lemmas.List.{length-map, length-take, take-map}
use Rattle.std.proofs.lemmas.List.Sorted.{IsPermutation-map, IsPermutation-trans, IsPermutation-sym}
use Rattle.sqlite.specs.declared.types.Value.TheVariants.{Int, Text}
use Rattle.sqlite.specs.Order.{Row}
use Rattle.sqlite.specs.Values.{or_null}
use Rattle.vcard_lines.specs.declared.line.Line.{Line}
use Rattle.book_model.specs.declared.token.Mark.{Mark}
use Rattle.book_model.specs.Pages.{MemberWithRow, is_due_row, due_rows, IsOrderedByNumber}
use Rattle.store_tables.specs.Members.{MemberRow, AreMembers, is_in_book, is_member_due, by_changed}
use Rattle.store_tables.specs.Members.{member_shown}
use Rattle.store_rows.specs.Values.{text_or_empty, text_card, lines_or_none}
use Rattle.store_rows.specs.TableBooks.{model_row, member_entry, members_in}
use Rattle.store_rows.specs.ShownRows.{ShowsCard, ShowsMember, ShowMembers}
use Rattle.store_rows.specs.ReadLaws.{MoreAreFirst, NoMoreAreAll}
use Rattle.store_rows.proofs.RowLemmas.{once_members}
use Rattle.store_rows.proofs.LookupLemmas.{natural_of}
use Rattle.store_rows.proofs.RemovedLemmas.{above, has_card, passing_entries}
use Rattle.store_rows.proofs.OrderLemmas.{entries_rise}

-- ---- members read from result rows

card_is : (card : Option (List ℕ)) (read : Option (List Line)) (u c :
    Rattle.sqlite.specs.declared.types.Value.Value)
    → ShowsCard 2 (u ∷ c ∷ or_null Text card ∷ []) read → option_map text_card card ≡ read
card_is None None u c h = refl
card_is None (Some s) u c h = absurd (let e = h.1 in cc)
card_is (Some t) None u c h = absurd (let e = h in cc)
card_is (Some t) (Some s) u c h = ap Some (ap (λ v. text_card (text_or_empty v)) h.1
    ∙ ap lines_or_none h.2)

member_is : (m : MemberRow) (member : MemberWithRow) → ShowsMember (member_shown m) member
    → member_entry m ≡ member
member_is m member h =
    let uid : m.uid ≡ member.0 = ap text_or_empty h.uid in
    let changed = natural_of m.changed member.1.changed h.changed in
    let card = card_is m.card member.1.card (Text m.uid) (Int m.changed) h.card in
    λ i. (uid i, record { changed = changed i; card = card i })

pub members_are : (ms : List MemberRow) (members : List MemberWithRow)
    → ShowMembers (map member_shown ms) members → map member_entry ms ≡ members
members_are [] [] h = refl
members_are [] (member ∷ members) h = absurd h
members_are (m ∷ ms) [] h = absurd h
members_are (m ∷ ms) (member ∷ members) h =
    ap₂ (λ e l. e ∷ l) (member_is m member h.0) (members_are ms members h.1)

-- ---- due members

due_is : (book : ℤ) (mark : Mark) (m : MemberRow)
    → (is_in_book book m && is_due_row mark (model_row m)) ≡ is_member_due book (pos mark.at)
    (pos mark.base) m
due_is book mark m = ap₂ (λ a b. int_eq m.book book && (a && b)) (sym (above mark.at m.changed))
    (ap₂ (λ a b. a || b) (has_card m.card) (sym (above mark.base m.changed)))

by_number : (book : ℤ) (mark : Mark) (ms ordered : List MemberRow) → AreMembers ms
    → IsPermutation (filter (is_member_due book (pos mark.at) (pos mark.base)) ms) ordered
    → Rattle.std.specs.List.Sorted.IsSorted by_changed ordered
    → IsOrderedByNumber (due_rows (members_in book ms) mark) (map member_entry ordered)
by_number book mark ms ordered kept same rises = record {
  same = IsPermutation-trans _ _ _ (IsPermutation-sym _ _ (passing_entries book ms (is_due_row mark)
      (is_member_due book (pos mark.at) (pos mark.base)) (once_members book ms kept)
      (due_is book mark))) (IsPermutation-map member_entry _ _ same);
  rises = entries_rise ordered rises;
}

-- ---- the first due members

take_all : {X : Type 0} (k : ℕ) (xs : List X) → length xs ≤ k → take k xs ≡ xs
take_all k [] low = none k
  where
    none : {X : Type 0} (k : ℕ) → take {A = X} k [] ≡ []
    none zero = refl
    none (suc k) = refl
take_all zero (x ∷ xs) low = absurd (omega (arith, low))
take_all (suc k) (x ∷ xs) low = ap (λ l. x ∷ l) (take_all k xs (omega (arith, low)))

take_less : {X : Type 0} (k : ℕ) (xs : List X) → take k (take (suc k) xs) ≡ take k xs
take_less zero xs = refl
take_less (suc k) [] = refl
take_less (suc k) (x ∷ xs) = ap (λ l. x ∷ l) (take_less k xs)

pub more_first : MoreAreFirst
more_first rows name f mark size items members sound h some more shows =
    let one : size + 1 ≡ suc size = omega arith in
    let first : items ≡ take (suc size) (map member_shown h.ordered) =
    h.first ∙ ap (λ n. take n (map member_shown h.ordered)) one in
    let taken : take size items ≡ map member_shown (take size h.ordered) = ap (take size) first
    ∙ take_less size (map member_shown h.ordered) ∙ take-map member_shown size h.ordered in
    let are = members_are (take size h.ordered) members (subst (λ l. ShowMembers l members) taken
    shows) in
    let all = ap length first in
    let cut = length-take (suc size) (map member_shown h.ordered) in
    let long = length-map h.ordered member_shown in
    let entries = length-map h.ordered member_entry in
    record {
      ordered = map member_entry h.ordered;
      by_number = by_number (pos f.id) mark rows.members h.ordered sound.members h.same h.rises;
      first = sym are ∙ sym (take-map member_entry size h.ordered);
      some = some;
      more = longer size (length items) (length h.ordered) (length (map member_entry h.ordered))
          more (all ∙ cut ∙ ap (min (suc size)) long) entries;
    }
  where
    longer : (k a b c : ℕ) → k < a → a ≡ min (suc k) b → c ≡ b → k < c
    longer k a b c low is same = grind (arith, low, is, same)

pub no_more_all : NoMoreAreAll
no_more_all rows name f mark size items members sound h fit shows =
    let all = ap length h.first in
    let cut = length-take (size + 1) (map member_shown h.ordered) in
    let long = length-map h.ordered member_shown in
    let short : length h.ordered ≤ size = shorter size (length items) (length h.ordered) fit (all
    ∙ cut ∙ ap (min (size + 1)) long) in
    let whole : items ≡ map member_shown h.ordered =
    h.first ∙ take_all (size + 1) (map member_shown h.ordered) (omega (arith, long, short)) in
    let are = members_are h.ordered members (subst (λ l. ShowMembers l members) whole shows) in
    record {
      by_number = subst (IsOrderedByNumber (due_rows (members_in (pos f.id) rows.members) mark)) are
          (by_number (pos f.id) mark rows.members h.ordered sound.members h.same h.rises);
      fit = subst (λ l. length l ≤ size) are
          (subst (λ n. n ≤ size) (sym (length-map h.ordered member_entry)) short);
    }
  where
    shorter : (k a b : ℕ) → a ≤ k → a ≡ min (k + 1) b → b ≤ k
    shorter k a b low is = grind (arith, low, is)
