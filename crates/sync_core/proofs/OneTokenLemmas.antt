-- The slashes cut a token's text in one way, and each part is one number's.
use Rattle.std.proofs.Common.{ℕ, ◌≡◌, ◌<◌, ◌≢◌, suc, List, [], ◌∷◌, ◌++◌, length, get_or, refl}
use Rattle.std.proofs.Common.{arith, sym, ap, ◌∙◌, decimal}
use Rattle.std.proofs.lemmas.Fmt.{decimal_injective}
use Rattle.std.proofs.lemmas.List.{append_cancel_left}
use Rattle.book_model.specs.declared.token.Token.{Token}
use Rattle.sync_core.specs.TokenTextLaws.{TokenTextsAreUnique}
use Rattle.sync_core.proofs.TokenTextLemmas.{front, number_octets, mark_octets, no_slash}

abbrev HasNoSlash : List ℕ → Type 0
HasNoSlash xs = (i : ℕ) → i < length xs → get_or xs i 0 ≢ 47

-- the parts before and after a first slash
cut_once : (xs ys us vs : List ℕ) → HasNoSlash xs → HasNoSlash us → xs ++ 47 ∷ ys ≡ us ++ 47 ∷ vs
    → (xs ≡ us) × (ys ≡ vs)
cut_once [] ys [] vs a b e = (refl, cc)
cut_once [] ys (u ∷ us) vs a b e = let is : u ≡ 47 = cc in absurd (b 0 (omega arith) is)
cut_once (x ∷ xs) ys [] vs a b e = let is : x ≡ 47 = cc in absurd (a 0 (omega arith) is)
cut_once (x ∷ xs) ys (u ∷ us) vs a b e =
    let first : x ≡ u = cc in
    let others : xs ++ 47 ∷ ys ≡ us ++ 47 ∷ vs = cc in
    let rest = cut_once xs ys us vs (λ i l. a (suc i) (omega arith))
    (λ i l. b (suc i) (omega arith)) others in
    (ap (λ h. h ∷ xs) first ∙ ap (λ t. u ∷ t) rest.0, rest.1)

one_number : (m n : ℕ) → m < 10000000000000 → n < 10000000000000 → decimal m ≡ decimal n → m ≡ n
one_number m n p q e = decimal_injective m n (omega arith) (omega arith) e

pub token_texts_unique : TokenTextsAreUnique
token_texts_unique text a b is other =
    let numbers : number_octets a ≡ number_octets b =
    append_cancel_left front (number_octets a) (number_octets b) (sym is.spelled
    ∙ other.spelled) in
    let first = cut_once (decimal a.book) (mark_octets a) (decimal b.book) (mark_octets b)
    (no_slash a.book is.short_book) (no_slash b.book other.short_book) numbers in
    let second = cut_once (decimal a.mark.at) (decimal a.mark.base) (decimal b.mark.at)
    (decimal b.mark.base) (no_slash a.mark.at is.short_at) (no_slash b.mark.at other.short_at)
    first.1 in
    let book = one_number a.book b.book is.short_book other.short_book first.0 in
    let at = one_number a.mark.at b.mark.at is.short_at other.short_at second.0 in
    let base = one_number a.mark.base b.mark.base is.short_base other.short_base second.1 in
    ap (λ n. token n a.mark.at a.mark.base) book ∙ ap (λ n. token b.book n a.mark.base) at
    ∙ ap (λ n. token b.book b.mark.at n) base
  where
    token : ℕ → ℕ → ℕ → Token
    token book at base = record { book = book; mark = record { at = at; base = base } }
