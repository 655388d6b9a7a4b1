-- The files that a conversion makes.
use Rattle.std.specs.Prelude.{◌≡◌, ℕ, List, [], Option, IfSome}

-- nothing was written yet, as far as is known
abbrev pub IsEmpty : Option (List ℕ) → Type 0
IsEmpty written = IfSome written (λ octets. octets ≡ [])

-- A file was made at the path, and once exactly these octets were written to it, as far as is
-- known. `place` is where a file was made, and `written` what was written to it.
pub record IsMade {T : Type 0} (place written : T → Option (List ℕ)) (path octets : List ℕ) : Type 0
  where
    pub file : T
    pub at : IfSome (place file) (λ made. made ≡ path)
    pub holds : IfSome (written file) (λ all. all ≡ octets)
