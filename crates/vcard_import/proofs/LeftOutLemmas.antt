-- Changes that don't say that a line is left out, or joined to another.
use Rattle.std.proofs.Common.{◌≡◌, ◌∙◌, Bool, true, false, cond, ◌||◌, ◌+◌, ℕ, List, [], ◌∷◌, ◌++◌}
use Rattle.std.proofs.Common.{map, refl, ap, arith, count_by, filter, Result, Ok, Err, true≢false}
use Rattle.std.specs.Prelude.{IfOk, ◌&&◌, ◌==◌}
use Rattle.std.specs.List.{list_any}
use Rattle.std.proofs.lemmas.Bool.{false≢true}
use Rattle.std.proofs.lemmas.List.Sums.{sum_by-cons}
use Rattle.vcard_lines.specs.declared.line.Line.{Line}
use Rattle.vcard_changes.specs.declared.change_kind.ChangeKind.{ChangeKind}
use Rattle.vcard_changes.specs.declared.change_kind.ChangeKind.TheVariants.{Rewritten, Renamed}
use Rattle.vcard_changes.specs.declared.change_kind.ChangeKind.TheVariants.{KeptAside, Unreadable}
use Rattle.vcard_changes.specs.declared.change_kind.ChangeKind.TheVariants.{Added, Joined, LeftOut}
use Rattle.vcard_changes.specs.declared.change_kind.ChangeKind.TheVariants.{Labelled, Shortened}
use Rattle.vcard_changes.specs.declared.change_kind.ChangeKind.TheVariants.{Cleaned}
use Rattle.vcard_import.specs.Conversions.{addition}
use Rattle.vcard_import.specs.Labels.{HaveAddresses, fits, is_joined, says_joined}
use Rattle.import_text.specs.declared.raw_line.RawLine.{RawLine}
use Rattle.vcard_import.specs.LeftOut.{has_left_out, is_left_out, is_left_out_at, is_media}
use Rattle.vcard_import.specs.LeftOut.{says_left_out}
use Rattle.vcard_import.specs.internal.Steps.{has_joined}
use Rattle.vcard_import.specs.declared.card_lines.CardLines.{CardLines}
use Rattle.vcard_changes.specs.declared.change.Change.{Change}

or_false : (s t : Bool) → (s || t) ≡ false → (s ≡ false) × (t ≡ false)
or_false true t e = absurd (true≢false e)
or_false false t e = (refl, e)

both_false : (s t : Bool) → s ≡ false → t ≡ false → (s || t) ≡ false
both_false s t x y = rw (x, y) refl

pub kind_stays : (kind : ChangeKind) (line : Line) → fits kind line ≡ true
    → says_left_out kind ≡ false
kind_stays Rewritten line e = refl
kind_stays Shortened line e = refl
kind_stays Cleaned line e = refl
kind_stays Renamed line e = refl
kind_stays KeptAside line e = refl
kind_stays Unreadable line e = refl
kind_stays Added line e = refl
kind_stays Joined line e = absurd (false≢true e)
kind_stays LeftOut line e = absurd (false≢true e)
kind_stays Labelled line e = refl

pub kind_is_unjoined : (kind : ChangeKind) (line : Line) → fits kind line ≡ true
    → says_joined kind ≡ false
kind_is_unjoined Rewritten line e = refl
kind_is_unjoined Shortened line e = refl
kind_is_unjoined Cleaned line e = refl
kind_is_unjoined Renamed line e = refl
kind_is_unjoined KeptAside line e = refl
kind_is_unjoined Unreadable line e = refl
kind_is_unjoined Added line e = refl
kind_is_unjoined Joined line e = absurd (false≢true e)
kind_is_unjoined LeftOut line e = absurd (false≢true e)
kind_is_unjoined Labelled line e = refl

pub none_in_both : (p : Change → Bool) (before after : List Change) → list_any p before ≡ false
    → list_any p after ≡ false → list_any p (before ++ after) ≡ false
none_in_both p [] after b a = a
none_in_both p (change ∷ before) after b a =
    let parts = or_false (p change) (list_any p before) b in
    both_false (p change) (list_any p (before ++ after)) parts.0 (none_in_both p before after
    parts.1 a)

pub none_more : (p : Change → Bool) (changes : List Change) (change : Change) → p change ≡ false
    → list_any p changes ≡ false → list_any p (changes ++ change ∷ []) ≡ false
none_more p changes change e n = none_in_both p changes (change ∷ []) n
    (both_false (p change) false e refl)

pub none_added : (lines : List Line) → has_left_out (map addition lines) ≡ false
none_added [] = refl
none_added (line ∷ lines) = none_added lines

none_counted : (p : Change → Bool) (changes : List Change) → list_any p changes ≡ false
    → count_by p changes ≡ 0
none_counted p [] e = refl
none_counted p (change ∷ changes) e =
    let parts = or_false (p change) (list_any p changes) e in
    let more : count_by p (change ∷ changes) ≡ cond (p change) 1 0 + count_by p changes =
    sum_by-cons (λ c. cond (p c) 1 0) change changes in
    let none : ◌≡◌ {A = ℕ} (cond (p change) 1 0) 0 = ap (λ t. cond t 1 0) parts.0 in
    let rest : count_by p changes ≡ 0 = none_counted p changes parts.1 in
    omega (arith, more, none, rest)

-- where no label is joined, none lacks an address
pub need_none : (changes : List Change) → has_joined changes ≡ false → HaveAddresses changes
need_none changes e =
    let none : count_by is_joined changes ≡ 0 = none_counted is_joined changes e in
    omega (arith, none)

pub ok_need_none : {E : Type 0} (made : Result CardLines E)
    → IfOk made (λ m. has_joined m.changes ≡ false) → IfOk made (λ m. HaveAddresses m.changes)
ok_need_none (Ok m) e = need_none m.changes e
ok_need_none (Err fault) e = tt

-- ---- the changes that leave a line out, alone

abbrev says_at : ℕ → Change → Bool
says_at place change = says_left_out change.kind && change.place == place

only_says : (place : ℕ) (changes : List Change)
    → list_any (says_at place) (filter is_left_out changes) ≡ list_any (says_at place) changes
only_says place [] = refl
only_says place (change ∷ changes) =
    cases_of (says_left_out change.kind) refl (only_says place changes)
  where
    cases_of : (is : Bool) → says_left_out change.kind ≡ is
        → list_any (says_at place) (filter is_left_out changes) ≡ list_any (says_at place) changes
        → list_any (says_at place) (filter is_left_out (change ∷ changes))
        ≡ list_any (says_at place) (change ∷ changes)
    cases_of true e rest = rw (e, e) (ap (λ told. (true && change.place == place) || told) rest)
    cases_of false e rest = rw e rest

filter_alike : {X : Type 0} (p q : X → Bool) → ((x : X) → p x ≡ q x) → (xs : List X)
    → filter p xs ≡ filter q xs
filter_alike p q same [] = refl
filter_alike p q same (x ∷ xs) = ap (λ b. cond b (x ∷ filter p xs) (filter p xs)) (same x)
    ∙ ap (λ rest. cond (q x) (x ∷ rest) rest) (filter_alike p q same xs)

-- they leave out the same lines
pub only_leave_out : (changes : List Change) (raws : List RawLine)
    → filter (is_left_out_at (filter is_left_out changes)) raws ≡ filter (is_left_out_at changes)
    raws
only_leave_out changes raws =
    filter_alike (is_left_out_at (filter is_left_out changes)) (is_left_out_at changes)
    (λ raw. ap (λ told. is_media raw && told) (only_says raw.place changes)) raws
