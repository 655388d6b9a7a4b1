-- A reader of items and their spelling: what it reads is at the front of the text, and it reads
-- back what is spelled there. Items after separators are read by such a reader too.
use Rattle.std.proofs.Common.{◌≡◌, ℕ, zero, suc, ◌<◌, ◌≤◌, List, [], ◌∷◌, ◌++◌, length, flat_map}
use Rattle.std.proofs.Common.{Some, None, Result, Ok, Err, refl, sym, ap, subst, ◌∙◌, append_assoc}
use Rattle.std.proofs.Common.{arith}
use Rattle.std.specs.List.{AllByRecursion}
use Rattle.std.proofs.lemmas.List.{append-nil, length-append}
use Rattle.vcard_lines.specs.declared.fault.CardFault.{CardFault}
use Rattle.vcard_lines.specs.ParseSteps.{◌>>=◌, strip_byte, parse_then_others, parse_one_more}
use Rattle.vcard_lines.specs.ParseSteps.{parse_many}
use Rattle.vcard_lines.proofs.StepLemmas.{bind_ok, same_pair, was_stripped, is_stripped}
use Rattle.vcard_lines.proofs.StepLemmas.{stripped_shorter}

abbrev pub Reader : Type 0 → Type 0
Reader X = List ℕ → Result (X × List ℕ) CardFault

-- the reader reads exactly the items that are spelled so, whatever ends them
pub record IsReaderOf {X : Type 0} (item : Reader X) (spell : X → List ℕ) (IsItem : X
    → Type 0) (Ends : List ℕ → Type 0) : Type 0 where
  pub takes : (text : List ℕ) (x : X) (rest : List ℕ) → item text ≡ Ok (x, rest) → IsItem x
      × (text ≡ spell x ++ rest)
  pub again : (x : X) (rest : List ℕ) → IsItem x → Ends rest → item (spell x ++ rest) ≡ Ok (x, rest)

-- what follows an item is no longer than the text
abbrev pub Shrinks : {X : Type 0} → Reader X → Type 0
Shrinks {X} item = (text : List ℕ) (x : X) (rest : List ℕ) → item text ≡ Ok (x, rest)
    → length rest ≤ length text

pub shrinks : {X : Type 0} (item : Reader X) (spell : X → List ℕ) (IsItem : X
    → Type 0) (Ends : List ℕ → Type 0) → IsReaderOf item spell IsItem Ends → Shrinks item
shrinks item spell IsItem Ends r text x rest e = let t = r.takes text x rest e in
    omega (arith, simp length-append at (ap length t.1))

-- what was read before, and what is still read
abbrev pub after_items : {X : Type 0} → List X → Result (List X × List ℕ) CardFault
    → Result (List X × List ℕ) CardFault
after_items items reading = reading >>= λ read. Ok (items ++ read.0, read.1)

module _ {X : Type 0} (separator : ℕ) (item : Reader X) where
  -- ---- how a loop reads

  -- any number that is large enough gives the same
  enough : Shrinks item → (n m : ℕ) (text : List ℕ) → length text ≤ n → length text ≤ m
      → parse_many separator item n text ≡ parse_many separator item m text
  unfolding parse_many parse_one_more
  enough s zero zero text a b = refl
  enough s zero (suc m) [] a b = refl
  enough s zero (suc m) (o ∷ os) a b = absurd (omega arith)
  enough s (suc n) zero [] a b = refl
  enough s (suc n) zero (o ∷ os) a b = absurd (omega arith)
  enough s (suc n) (suc m) text a b =
      elim (strip_byte separator text) as (λ p. strip_byte separator text ≡ p
      → parse_one_more p text item (parse_many separator item n) ≡ parse_one_more p text item
      (parse_many separator item m)) [
        | None ↦ λ e. refl
        | Some more ↦ λ e. same (λ t k l. enough s n m t k l) more (stripped_shorter separator text
            more e) (item more) refl
      ] refl
    where
      same : ((t : List ℕ) → length t ≤ n → length t ≤ m → parse_many separator item n t
          ≡ parse_many separator item m t) → (more : List ℕ) → length more < length text
          → (r : Result (X × List ℕ) CardFault) → item more ≡ r
          → parse_then_others r (parse_many separator item n) ≡ parse_then_others r
          (parse_many separator item m)
      same shorter more lt (Err fault) h = refl
      same shorter more lt (Ok x) h = ap (λ (read : Result (List X × List ℕ) CardFault). read >>=
          λ xs. Ok (x.0 ∷ xs.0, xs.1)) (shorter x.1 (omega (arith, s more x.0 x.1 h))
          (omega (arith, s more x.0 x.1 h)))

  regroup : (items : List X) (x : X) (reading : Result (List X × List ℕ) CardFault)
      → after_items items (reading >>= λ xs. Ok (x ∷ xs.0, xs.1)) ≡ after_items (items ++ x ∷ [])
      reading
  regroup items x (Ok xs) = ap (λ (ys : List X). Ok (ys, xs.1))
      (sym (append_assoc items (x ∷ []) xs.0))
  regroup items x (Err fault) = refl

  at_more : (text more : List ℕ) → strip_byte separator text ≡ Some more
      → parse_many separator item (length text) text ≡ parse_then_others (item more)
      (parse_many separator item (length more))
  unfolding parse_many parse_one_more
  at_more text more e =
      ap (λ t. parse_many separator item (length t) t) (was_stripped separator text more e)
      ∙ ap (λ p. parse_one_more p (separator ∷ more) item (parse_many separator item (length more)))
      (is_stripped separator more)

  pub goes_on : Shrinks item → (items : List X) (text more after : List ℕ) (x : X) (total :
      Result (List X × List ℕ) CardFault) → strip_byte separator text ≡ Some more
      → item more ≡ Ok (x, after)
      → after_items items (parse_many separator item (length text) text) ≡ total
      → after_items (items ++ x ∷ []) (parse_many separator item (length after) after) ≡ total
  goes_on s items text more after x total e h so_far =
      sym (ap (after_items items) (at_more text more e
      ∙ ap (λ (r : Result (X × List ℕ) CardFault). parse_then_others r
      (parse_many separator item (length more))) h)
      ∙ regroup items x (parse_many separator item (length more) after)
      ∙ ap (after_items (items ++ x ∷ [])) (enough s (length more) (length after) after
      (s more x after h) (omega arith)))
      ∙ so_far

  pub fails : (items : List X) (text more : List ℕ) (fault : CardFault) (total :
      Result (List X × List ℕ) CardFault) → strip_byte separator text ≡ Some more
      → item more ≡ Err fault
      → after_items items (parse_many separator item (length text) text) ≡ total → total ≡ Err fault
  fails items text more fault total e h so_far =
      sym so_far ∙ ap (after_items items) (at_more text more e
      ∙ ap (λ (r : Result (X × List ℕ) CardFault). parse_then_others r
      (parse_many separator item (length more))) h)

  at_none : (n : ℕ) (text : List ℕ) → strip_byte separator text ≡ None
      → parse_many separator item n text ≡ Ok ([], text)
  unfolding parse_many parse_one_more
  at_none zero text e = refl
  at_none (suc n) text e = ap (λ p. parse_one_more p text item (parse_many separator item n)) e

  pub is_done : (items : List X) (text : List ℕ) (total : Result (List X × List ℕ) CardFault)
      → strip_byte separator text ≡ None
      → after_items items (parse_many separator item (length text) text) ≡ total
      → total ≡ Ok (items, text)
  is_done items text total e so_far =
      sym so_far ∙ ap (after_items items) (at_none (length text) text e)
      ∙ ap (λ (xs : List X). Ok (xs, text)) (append-nil items)

  -- ---- what is read is what is spelled

  module _ (spell : X → List ℕ) (IsItem : X → Type 0) (Ends : List ℕ
      → Type 0) (r : IsReaderOf item spell IsItem Ends) where
    -- each item after its separator
    abbrev pub repeated : List X → List ℕ
    repeated xs = flat_map (λ x. separator ∷ spell x) xs

    took_none : (text : List ℕ) (xs : List X) (rest : List ℕ)
        → ◌≡◌ {A = Result (List X × List ℕ) CardFault} (Ok ([], text)) (Ok (xs, rest))
        → AllByRecursion IsItem xs × (text ≡ repeated xs ++ rest)
    took_none text xs rest e =
        let none : List X = [] in
        let q = same_pair none xs text rest e in
        subst (λ ys. AllByRecursion IsItem ys × (text ≡ repeated ys ++ rest)) q.0 (tt, q.1)

    many_takes : (n : ℕ) (text : List ℕ) (xs : List X) (rest : List ℕ)
        → parse_many separator item n text ≡ Ok (xs, rest) → AllByRecursion IsItem xs
        × (text ≡ repeated xs ++ rest)
    unfolding parse_many parse_one_more
    many_takes zero text xs rest e = took_none text xs rest e
    many_takes (suc n) text xs rest e =
        elim (strip_byte separator text) as (λ p. strip_byte separator text ≡ p
        → parse_one_more p text item (parse_many separator item n) ≡ Ok (xs, rest)
        → AllByRecursion IsItem xs × (text ≡ repeated xs ++ rest)) [
          | None ↦ λ p h. took_none text xs rest h
          | Some more ↦ λ p h.
              let one = bind_ok (item more) _ _ h in
              let others = bind_ok (parse_many separator item n one.0.1) _ _ one.2 in
              let first = r.takes more one.0.0 one.0.1 one.1 in
              let later = many_takes n one.0.1 others.0.0 others.0.1 others.1 in
              let q = same_pair (one.0.0 ∷ others.0.0) xs others.0.1 rest others.2 in
              let is : text ≡ repeated (one.0.0 ∷ others.0.0) ++ rest =
              was_stripped separator text more p ∙ ap (λ t. separator ∷ t) (first.1
              ∙ ap (λ t. spell one.0.0 ++ t) (later.1 ∙ ap (λ t. repeated others.0.0 ++ t) q.1)
              ∙ sym (append_assoc (spell one.0.0) _ rest)) in
              subst (λ ys. AllByRecursion IsItem ys × (text ≡ repeated ys ++ rest)) q.0
              ((first.0, later.0), is)
        ] refl e

    -- no more items than octets
    count_le : (xs : List X) (rest : List ℕ) → length xs ≤ length (repeated xs ++ rest)
    count_le [] rest = omega arith
    count_le (x ∷ xs) rest = let more = count_le xs rest in
        simp (length-append, append_assoc) (omega (arith, simp length-append at more))

    many_again : ((more : List ℕ) → Ends (separator ∷ more)) → (xs : List X) (rest : List ℕ) (n : ℕ)
        → AllByRecursion IsItem xs → Ends rest → strip_byte separator rest ≡ None → length xs ≤ n
        → parse_many separator item n (repeated xs ++ rest) ≡ Ok (xs, rest)
    unfolding parse_many parse_one_more
    many_again on [] rest n each ends p le = at_none n rest p
    many_again on (x ∷ xs) rest zero each ends p le = absurd (omega arith)
    many_again on (x ∷ xs) rest (suc n) each ends p le =
        let others = repeated xs ++ rest in
        ap (λ p. parse_one_more p (separator ∷ ((spell x ++ repeated xs) ++ rest)) item
        (parse_many separator item n)) (is_stripped separator _)
        ∙ ap (λ (r : Result (X × List ℕ) CardFault). parse_then_others r
        (parse_many separator item n)) (ap item (append_assoc (spell x) _ rest)
        ∙ r.again x others each.0 (ends_next xs))
        ∙ ap (λ (r : Result (List X × List ℕ) CardFault). r >>= λ ys. Ok (x ∷ ys.0, ys.1))
        (many_again on xs rest n each.1 ends p (omega arith))
      where
        ends_next : (ys : List X) → Ends (repeated ys ++ rest)
        ends_next [] = ends
        ends_next (y ∷ ys) = on _

    pub many_reader : ((more : List ℕ) → Ends (separator ∷ more))
        → IsReaderOf (λ text. parse_many separator item (length text) text) repeated
        (AllByRecursion IsItem) (λ rest. Ends rest × (strip_byte separator rest ≡ None))
    many_reader on = record {
      takes = λ text xs rest e. many_takes (length text) text xs rest e;
      again = λ xs rest each ends. many_again on xs rest _ each ends.0 ends.1 (count_le xs rest);
    }
