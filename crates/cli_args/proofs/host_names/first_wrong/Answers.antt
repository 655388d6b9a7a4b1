use Rattle.std.proofs.Common.{◌≡◌, ◌∙◌, [], ◌∷◌, List, Option, None, Some, Bool, true, false}
use Rattle.std.proofs.Common.{Bor, ap, map, not, refl, sym, ℕ}
use Rattle.std.specs.Prelude.{cond, find, option_map, unwrap_or}
use Rattle.cli_args.specs.HostNames.{is_host_name}
use Rattle.cli_args.proofs.host_names.first_wrong.Goals as goal

found_first : {A B : Type 0} (f : A → B) (b : Bool) (x : A) (rest : Option A) (other : Option B)
    → other ≡ option_map f rest
    → cond b (Some (f x)) other ≡ option_map f (cond b (Some x) rest)
found_first f true x rest other same = refl
found_first f false x rest other same = same

-- what is found among images is the image of what is found
found_over : {A B : Type 0} (f : A → B) (p : B → Bool) (xs : List A)
    → find p (map f xs) ≡ option_map f (find (λ x. p (f x)) xs)
found_over f p [] = refl
found_over f p (x ∷ xs) = found_first f (p (f x)) x _ _ (found_over f p xs)

abbrev or_empty : Option (List ℕ) → List ℕ
or_empty found = unwrap_or found []

abbrev text_of : Bor (List ℕ) → List ℕ
text_of text = text.now

found_text : (xs : List (Bor (List ℕ))) (found : Option (Bor (List ℕ)))
    → found ≡ find (λ text. not (is_host_name text.now)) xs
    → or_empty (option_map text_of found)
    ≡ or_empty (find (λ text. not (is_host_name text)) (map text_of xs))
found_text xs found same =
    ap (λ it. or_empty (option_map text_of it)) same
    ∙ ap or_empty (sym (found_over text_of (λ text. not (is_host_name text)) xs))

pub returns-in-Some : goal.returns-in-Some
returns-in-Some c = found_text c.args.texts.now (Some c.in-Some.text.now) c.in-Some.ensures

pub returns-in-None : goal.returns-in-None
returns-in-None c = found_text c.args.texts.now None c.in-None.ensures
