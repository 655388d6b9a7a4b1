use Rattle.std.proofs.Common.{◌≡◌, ◌∙◌, ◌&&◌, [], ◌∷◌, List, Option, Bool, ap, map, refl, ℕ}
use Rattle.std.specs.Prelude.{unwrap_or}
use Rattle.std.specs.List.{list_all}
use Rattle.clap.specs.Words.{found_of}
use Rattle.clap.proofs.WalkLemmas.{raw_values-rows}
use Rattle.cli_args.specs.HostNames.{is_host_name}
use Rattle.cli_args.proofs.host_names.has_host_names.Goals as goal

-- whether each of the texts of an option is the name of a host
abbrev are_names : Option (List (List ℕ)) → Bool
are_names found = list_all is_host_name (unwrap_or found [])

all_over : {A B : Type 0} (p : B → Bool) (f : A → B) (xs : List A)
    → list_all (λ x. p (f x)) xs ≡ list_all p (map f xs)
all_over p f [] = refl
all_over p f (x ∷ xs) = ap (λ rest. p (f x) && rest) (all_over p f xs)

pub returns-in-Some : goal.returns-in-Some
returns-in-Some c =
    c.are_host_names.ensures ∙ all_over is_host_name (λ text. text.now) c.in-Some.texts.now
    ∙ ap are_names (c.in-Some.ensures
    ∙ raw_values-rows (found_of c.args.matches.now) c.args.id.now)

pub returns-in-None : goal.returns-in-None
returns-in-None c =
    ap are_names (c.in-None.ensures ∙ raw_values-rows (found_of c.args.matches.now) c.args.id.now)
