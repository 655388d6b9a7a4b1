-- Combinators for reading from left to right, up to the first fault. Only one public contract, that
-- of `read_line`, cites any of them: `ResultIs`.
use Rattle.std.specs.Prelude.{◌≡◌, ℕ, zero, suc, List, [], ◌∷◌, Option, Some, None, Result, Ok, Err}
use Rattle.std.specs.Prelude.{◌==◌, if◌then◌else◌}
use Rattle.vcard_lines.specs.declared.fault.CardFault.{CardFault}
use Rattle.vcard_lines.specs.declared.fault.CardFault.TheVariants.{BadLine, Memory}

infixl 10 ◌>>=◌
abbrev pub ◌>>=◌ : {A B : Type 0} → Result A CardFault → (A → Result B CardFault)
    → Result B CardFault
(Ok x) >>= f = f x
(Err fault) >>= f = Err fault

-- The result of a call, seen through the view, is the expected one, unless memory ran out.
abbrev pub ResultIs : {X Y : Type 0} → (X → Y) → Result X CardFault → Result Y CardFault → Type 0
ResultIs view (Ok x) reading = reading ≡ Ok (view x)
ResultIs view (Err fault) reading = (fault ≡ Memory → ⊥) → reading ≡ Err fault

-- the text after a leading octet, or none if the text doesn't begin with it
abbrev pub strip_byte : ℕ → List ℕ → Option (List ℕ)
strip_byte octet [] = None
strip_byte octet (first ∷ rest) = if first == octet then Some rest else None

abbrev pub or_bad_line : {A : Type 0} → Option A → Result A CardFault
or_bad_line None = Err BadLine
or_bad_line (Some x) = Ok x

-- an item and those after it
abbrev pub parse_then_others : {X : Type 0} → Result (X × List ℕ) CardFault
    → (List ℕ → Result (List X × List ℕ) CardFault) → Result (List X × List ℕ) CardFault
parse_then_others first others = do
  x ← first
  xs ← others x.1
  Ok (x.0 ∷ xs.0, xs.1)

-- an item and those after it if a separator was read, and otherwise none
unfoldable pub parse_one_more : {X : Type 0} → Option (List ℕ) → List ℕ
    → (List ℕ → Result (X × List ℕ) CardFault) → (List ℕ → Result (List X × List ℕ) CardFault)
    → Result (List X × List ℕ) CardFault
parse_one_more None text item others = Ok ([], text)
parse_one_more (Some more) text item others = parse_then_others (item more) others

-- Items, each after the separator, and the text after the last. The number bounds how many are
-- read.
unfoldable pub parse_many : {X : Type 0} → ℕ → (List ℕ → Result (X × List ℕ) CardFault) → ℕ → List ℕ
    → Result (List X × List ℕ) CardFault
parse_many separator item zero text = Ok ([], text)
parse_many separator item (suc most) text =
    parse_one_more (strip_byte separator text) text item
    (λ rest. parse_many separator item most rest)
