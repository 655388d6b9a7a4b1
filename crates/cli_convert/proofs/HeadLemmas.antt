-- The first octets of a file.
use Rattle.std.proofs.Common.{◌≡◌, ◌≤◌, ◌<◌, ◌++◌, ◌∙◌, ◌⊎◌, [], ℕ, List, Option, Some, None, length}
use Rattle.std.proofs.Common.{take, drop, ap, arith, sym, subst, append-nil, inl, inr}
use Rattle.std.specs.Io.KnownBytes.{Consumes, IsAtEnd}
use Rattle.std.proofs.Math.Nat.{eq-or-lt_of_le}
use Rattle.std.proofs.Math.Seq.{take-append_seam, drop-append_seam}
use Rattle.std.proofs.lemmas.List.{take_all, drop_all}
use Rattle.cli_convert.specs.Readers.{ReadsHead}

-- they are as many as were wanted
whole : (size : ℕ) (head rest octets : List ℕ) → length head ≡ size → octets ≡ head ++ rest
    → (head ≡ take size octets) × (Some rest ≡ Some (drop size octets))
whole size head rest octets len is = (
  sym (ap (take size) is ∙ ap (λ n. take n (head ++ rest)) (sym len) ∙ take-append_seam head rest),
  ap Some (sym (ap (drop size) is ∙ ap (λ n. drop n (head ++ rest)) (sym len)
      ∙ drop-append_seam head rest)),
)

-- or the file has no more
short : (size : ℕ) (head rest octets : List ℕ) → length head ≤ size → rest ≡ []
    → octets ≡ head ++ rest → (head ≡ take size octets) × (Some rest ≡ Some (drop size octets))
short size head rest octets len none is =
    let same : octets ≡ head = is ∙ ap (λ xs. head ++ xs) none ∙ append-nil head in (
      sym (ap (take size) same ∙ take_all size head len),
      ap Some (none ∙ sym (ap (drop size) same ∙ drop_all size head len)),
    )

pub head_read : (size : ℕ) (old new : Option (List ℕ)) (head : List ℕ) → length head ≤ size
    → Consumes old new head → (length head < size → IsAtEnd new) → ReadsHead size old new head
head_read size None new head len read end = tt
head_read size (Some octets) None head len read end = absurd read
head_read size (Some octets) (Some rest) head len read end = elim (eq-or-lt_of_le len) [
  | inl same ↦ whole size head rest octets same read
  | inr less ↦ short size head rest octets len (end less) read
]
