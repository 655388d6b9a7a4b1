-- The least-numbered fault that passes a test: the first in the order of the numbers.
use Rattle.std.proofs.Common.{◌≡◌, ◌⊎◌, ℕ, ◌≤◌, Bool, true, false, cond, ◌==◌, ◌&&◌, nat_le, List}
use Rattle.std.proofs.Common.{[], ◌∷◌, find, Option, Some, None, inl, inr, ⊎_elim, refl, sym, ap}
use Rattle.std.proofs.Common.{subst, ◌∙◌, arith}
use Rattle.std.specs.List.{AllByRecursion, list_all}
use Rattle.std.proofs.lemmas.Bool.{and_parts, leb-true, both_ways}
use Rattle.vcard_lines.specs.declared.fault.CardFault.{CardFault}
use Rattle.vcard_lines.specs.declared.fault.CardFault.TheVariants.{TooLong, NotUtf8, BadChar}
use Rattle.vcard_lines.specs.declared.fault.CardFault.TheVariants.{BadLine, NoBegin, BadVersion}
use Rattle.vcard_lines.specs.declared.fault.CardFault.TheVariants.{NoEnd, NoName, NoUid, BadUid}
use Rattle.vcard_lines.specs.declared.fault.CardFault.TheVariants.{Twice, MemberOutsideGroup}
use Rattle.vcard_lines.specs.declared.fault.CardFault.TheVariants.{Memory}
use Rattle.vcard_lines.specs.FaultNumbers.{card_fault_number}
use Rattle.vcard_text.specs.FirstFaults.{IsLeastFault}

abbrev pub in_order : List CardFault
in_order = TooLong ∷ NotUtf8 ∷ BadChar ∷ BadLine ∷ NoBegin ∷ BadVersion ∷ NoEnd ∷ NoName ∷ NoUid ∷
    BadUid ∷ Twice ∷ MemberOutsideGroup ∷ Memory ∷ []

abbrev pub least_of : (CardFault → Bool) → Option CardFault
least_of test = find test in_order

-- ---- each fault has one number

abbrev fault_numbered : ℕ → CardFault
fault_numbered n = cond (n == 1) TooLong
    (cond (n == 2) NotUtf8 (cond (n == 3) BadChar
    (cond (n == 4) BadLine (cond (n == 5) NoBegin
    (cond (n == 6) BadVersion (cond (n == 7) NoEnd
    (cond (n == 8) NoName (cond (n == 9) NoUid
    (cond (n == 10) BadUid (cond (n == 11) Twice (cond (n == 12) MemberOutsideGroup
    Memory)))))))))))

numbered_back : (fault : CardFault) → fault_numbered (card_fault_number fault) ≡ fault
numbered_back TooLong = refl
numbered_back NotUtf8 = refl
numbered_back BadChar = refl
numbered_back BadLine = refl
numbered_back NoBegin = refl
numbered_back BadVersion = refl
numbered_back NoEnd = refl
numbered_back NoName = refl
numbered_back NoUid = refl
numbered_back BadUid = refl
numbered_back Twice = refl
numbered_back MemberOutsideGroup = refl
numbered_back Memory = refl

one_number : (f g : CardFault) → card_fault_number f ≡ card_fault_number g → f ≡ g
one_number f g e = sym (numbered_back f) ∙ ap fault_numbered e ∙ numbered_back g

-- ---- all faults are in order

everywhere : (P : CardFault → Type 0) → AllByRecursion P in_order → (fault : CardFault) → P fault
everywhere P a TooLong = a.0
everywhere P a NotUtf8 = a.1.0
everywhere P a BadChar = a.1.1.0
everywhere P a BadLine = a.1.1.1.0
everywhere P a NoBegin = a.1.1.1.1.0
everywhere P a BadVersion = a.1.1.1.1.1.0
everywhere P a NoEnd = a.1.1.1.1.1.1.0
everywhere P a NoName = a.1.1.1.1.1.1.1.0
everywhere P a NoUid = a.1.1.1.1.1.1.1.1.0
everywhere P a BadUid = a.1.1.1.1.1.1.1.1.1.0
everywhere P a Twice = a.1.1.1.1.1.1.1.1.1.1.0
everywhere P a MemberOutsideGroup = a.1.1.1.1.1.1.1.1.1.1.1.0
everywhere P a Memory = a.1.1.1.1.1.1.1.1.1.1.1.1.0

-- each has a number that is no less than those before it
abbrev are_ordered : List CardFault → Bool
are_ordered [] = true
are_ordered (f ∷ fs) = list_all (λ g. nat_le (card_fault_number f) (card_fault_number g)) fs
    && are_ordered fs

no_less : (f : CardFault) (fs : List CardFault)
    → list_all (λ g. nat_le (card_fault_number f) (card_fault_number g)) fs ≡ true
    → AllByRecursion (λ g. card_fault_number f ≤ card_fault_number g) fs
no_less f [] e = tt
no_less f (g ∷ gs) e = let p = and_parts (nat_le (card_fault_number f) (card_fault_number g)) _ e in
    (leb-true _ _ p.0, no_less f gs p.1)

module _ (test : CardFault → Bool) where
  -- no fault of these that passes has a smaller number
  abbrev IsLeastOf : List CardFault → CardFault → Type 0
  IsLeastOf fs fault = (test fault ≡ true) × AllByRecursion (λ other. test other ≡ true
      → card_fault_number fault ≤ card_fault_number other) fs

  weaker : (f : CardFault) (fs : List CardFault)
      → AllByRecursion (λ g. card_fault_number f ≤ card_fault_number g) fs
      → AllByRecursion (λ other. test other ≡ true → card_fault_number f ≤ card_fault_number other)
      fs
  weaker f [] a = tt
  weaker f (g ∷ gs) a = (λ _. a.0, weaker f gs a.1)

  least_in : (fs : List CardFault) → are_ordered fs ≡ true → (fault : CardFault)
      → find test fs ≡ Some fault → IsLeastOf fs fault
  least_in [] o fault e = absurd (cc)
  least_in (f ∷ fs) o fault e =
      let p = and_parts (list_all (λ g. nat_le (card_fault_number f) (card_fault_number g)) fs)
      (are_ordered fs) o in
      elim (test f) as (λ b. test f ≡ b → cond b (Some f) (find test fs) ≡ Some fault
      → IsLeastOf (f ∷ fs) fault) [
        | true ↦ λ t h. let same : f ≡ fault = cc in
            subst (λ g. IsLeastOf (f ∷ fs) g) same (
              t,
              ((λ _. omega arith), weaker f fs (no_less f fs p.0)),
            )
        | false ↦ λ t h. let more = least_in fs p.1 fault h in
            (more.0, ((λ is. absurd (both_ways (test f) t is)), more.1))
      ] refl e

  none_in : (fs : List CardFault) → find test fs ≡ None
      → AllByRecursion (λ other. test other ≡ false) fs
  none_in [] e = tt
  none_in (f ∷ fs) e = elim (test f) as (λ b. test f ≡ b → cond b (Some f) (find test fs) ≡ None
      → AllByRecursion (λ other. test other ≡ false) (f ∷ fs)) [
        | true ↦ λ t h. absurd (cc)
        | false ↦ λ t h. (t, none_in fs h)
      ] refl e

  pub least_found : (fault : CardFault) → least_of test ≡ Some fault
      → IsLeastFault (λ other. test other ≡ true) fault
  least_found fault e =
      let l = least_in in_order refl fault e in
      record {
        has_it = l.0;
        least = λ other is. everywhere (λ o. test o ≡ true
            → card_fault_number fault ≤ card_fault_number o) l.1 other is;
      }

  pub none_passes : least_of test ≡ None → (fault : CardFault) → test fault ≡ false
  none_passes e fault = everywhere (λ o. test o ≡ false) (none_in in_order e) fault

-- ---- there is at most one

pub one_least : (HasIt : CardFault → Type 0) (f g : CardFault) → IsLeastFault HasIt f
    → IsLeastFault HasIt g → f ≡ g
one_least HasIt f g a b =
    let below = a.least g b.has_it in
    let above = b.least f a.has_it in
    one_number f g (omega arith)

-- the same faults have the same least
pub least_along : (P Q : CardFault → Type 0) (fault : CardFault) → ((other : CardFault) → P other
    → Q other) → ((other : CardFault) → Q other → P other) → IsLeastFault P fault
    → IsLeastFault Q fault
least_along P Q fault to from l = record {
  has_it = to fault l.has_it;
  least = λ other q. l.least other (from other q);
}

pub found_or_none : (o : Option CardFault) → (o ≡ None) ⊎ ((fault : CardFault) × (o ≡ Some fault))
found_or_none None = inl refl
found_or_none (Some fault) = inr (fault, refl)

pub least_again : (test : CardFault → Bool) (fault : CardFault)
    → IsLeastFault (λ other. test other ≡ true) fault → least_of test ≡ Some fault
least_again test fault l = ⊎_elim
    (λ none. absurd (both_ways (test fault) (none_passes test none fault) l.has_it))
    (λ some. some.1 ∙ ap (λ f. Some f) (one_least (λ other. test other ≡ true) some.0 fault
    (least_found test some.0 some.1) l))
    (found_or_none (least_of test))
