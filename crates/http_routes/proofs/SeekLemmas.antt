-- What a router's rows answer at one part of a path.
use Rattle.std.proofs.Common.{◌≡◌, ◌≢◌, ◌<◌, ◌∙◌, ℕ, zero, suc, ◌+◌, ◌-◌, ◌==◌, ◌&&◌, Bool, true}
use Rattle.std.proofs.Common.{false, cond, List, [], ◌∷◌, ◌++◌, Option, Some, None, length, drop}
use Rattle.std.proofs.Common.{ltb, nat_eq, refl, ap, arith, length-append}
use Rattle.std.specs.List.{list_all}
use Rattle.std.proofs.Math.Seq.{drop-append_seam}
use Rattle.std.specs.Cmp.Lexicographic.{pointwise}
use Rattle.std.proofs.Math.Bool.{and-false}
use Rattle.matchit.specs.Rows.{RowsOf, param_token, catch_all_token}
use Rattle.matchit.specs.Seek.{segment, slash, has_slash, cuts, better, own, step, or_else}
use Rattle.matchit.specs.Seek.{longest_from, longest_suffix, with_suffix, param_step, seek, first}

-- what is left of a row is nothing, or begins with a slash
pub data Ends : List ℕ → Type 0 where
  stops : Ends []
  continues : (rest : List ℕ) → Ends (slash ∷ rest)

keeps : (seg text : List ℕ) → Ends text → better seg (slash ∷ []) (segment text) ≡ slash ∷ []
keeps seg text stops = refl
keeps seg text (continues rest) = refl

better_cut : (seg text : List ℕ) → Ends text → cuts seg (slash ∷ []) ≡ true → text ≢ []
    → better seg [] (segment text) ≡ slash ∷ []
better_cut seg text stops cut some = absurd (some refl)
better_cut seg text (continues rest) cut some = rw cut refl

-- the slash that ends a part
pub segment-slash : (part rest : List ℕ) → has_slash part ≡ false → segment (part ++ slash ∷ rest)
    ≡ part ++ slash ∷ []
segment-slash [] rest none = refl
segment-slash (b ∷ part) rest none = by (b == slash) refl none (segment-slash part rest)
  where
    by : (v : Bool) → (b == slash) ≡ v → cond v true (has_slash part) ≡ false
        → (has_slash part ≡ false → segment (part ++ slash ∷ rest) ≡ part ++ slash ∷ [])
        → segment ((b ∷ part) ++ slash ∷ rest) ≡ (b ∷ part) ++ slash ∷ []
    by true is none ih = cc
    by false is none ih = rw (is, ih none) refl

pub segment-end : (part : List ℕ) → has_slash part ≡ false → segment part ≡ part
segment-end [] none = refl
segment-end (b ∷ part) none = by (b == slash) refl none (segment-end part)
  where
    by : (v : Bool) → (b == slash) ≡ v → cond v true (has_slash part) ≡ false
        → (has_slash part ≡ false → segment part ≡ part) → segment (b ∷ part) ≡ b ∷ part
    by true is none ih = cc
    by false is none ih = rw (is, ih none) refl

-- a part that isn't empty, followed by a slash, is cut before the slash
pub cuts-slash : (b : ℕ) (part : List ℕ) → cuts ((b ∷ part) ++ slash ∷ []) (slash ∷ []) ≡ true
cuts-slash b part =
    let long : length ((b ∷ part) ++ slash ∷ []) ≡ length part + 2 =
    omega (arith, length-append (b ∷ part) (slash ∷ [])) in
    let at : length ((b ∷ part) ++ slash ∷ []) - 1 ≡ length (b ∷ part) =
    omega (arith, length-append (b ∷ part) (slash ∷ [])) in
    let far : ltb 1 (length ((b ∷ part) ++ slash ∷ [])) ≡ true = grind arith in
    let rest : drop (length ((b ∷ part) ++ slash ∷ []) - 1) ((b ∷ part) ++ slash ∷ [])
    ≡ slash ∷ [] = ap (λ n. drop n ((b ∷ part) ++ slash ∷ [])) at
    ∙ drop-append_seam (b ∷ part) (slash ∷ []) in
    rw (far, rest) refl

-- a part with no slash after it isn't cut
ends_elsewhere : (n : ℕ) (part : List ℕ) → has_slash part ≡ false
    → pointwise nat_eq (slash ∷ []) (drop n part) ≡ false
ends_elsewhere zero [] none = refl
ends_elsewhere (suc n) [] none = refl
ends_elsewhere zero (b ∷ part) none = by (b == slash) refl none
  where
    by : (v : Bool) → (b == slash) ≡ v → cond v true (has_slash part) ≡ false
        → pointwise nat_eq (slash ∷ []) (b ∷ part) ≡ false
    by true is none = cc
    by false is none = let e : nat_eq slash b ≡ false = grind arith in rw e refl
ends_elsewhere (suc n) (b ∷ part) none = by (b == slash) refl none (ends_elsewhere n part)
  where
    by : (v : Bool) → (b == slash) ≡ v → cond v true (has_slash part) ≡ false
        → (has_slash part ≡ false → pointwise nat_eq (slash ∷ []) (drop n part) ≡ false)
        → pointwise nat_eq (slash ∷ []) (drop n part) ≡ false
    by true is none ih = cc
    by false is none ih = ih none

pub cuts-none : (part : List ℕ) → has_slash part ≡ false → cuts part (slash ∷ []) ≡ false
cuts-none part none = rw (ends_elsewhere (length part - 1) part none) (and-false _)

first_small : (b : ℕ) (text : List ℕ) → list_all (λ octet. ltb octet param_token) (b ∷ text) ≡ true
    → b < 256
first_small b text small = by (ltb b param_token) refl small
  where
    by : (v : Bool) → ltb b param_token ≡ v → (v && list_all (λ octet. ltb octet param_token) text)
        ≡ true → b < 256
    by true is all = grind arith
    by false is all = cc

others_small : (b : ℕ) (text : List ℕ) → list_all (λ octet. ltb octet param_token) (b ∷ text) ≡ true
    → list_all (λ octet. ltb octet param_token) text ≡ true
others_small b text small = by (ltb b param_token) small
  where
    by : (v : Bool) → (v && list_all (λ octet. ltb octet param_token) text) ≡ true
        → list_all (λ octet. ltb octet param_token) text ≡ true
    by true all = all
    by false all = cc

module _ {K : Type 0} where
  -- each row with a parameter in front
  abbrev pub after_param : RowsOf K → RowsOf K
  after_param [] = []
  after_param (row ∷ rows) = (param_token ∷ row.0, row.1) ∷ after_param rows

  pub step-param : (rows : RowsOf K) → step param_token (after_param rows) ≡ rows
  step-param [] = refl
  step-param (row ∷ rows) = ap (λ rest. row ∷ rest) (step-param rows)

  pub step-octet : (b : ℕ) (rows : RowsOf K) → b < 256 → step b (after_param rows) ≡ []
  step-octet b [] small = refl
  step-octet b (row ∷ rows) small =
      let ne : (param_token == b) ≡ false = grind arith in
      rw ne (step-octet b rows small)

  pub step-catch : (rows : RowsOf K) → own (step catch_all_token (after_param rows)) ≡ None
  step-catch [] = refl
  step-catch (row ∷ rows) = step-catch rows

  pub or_else-none : (a : Option K) → or_else a None ≡ a
  or_else-none None = refl
  or_else-none (Some key) = refl

  pub param_step-none : (path : List ℕ) → (param_step {K = K} [] path).1 ≡ []
  unfolding param_step
  param_step-none path =
      elim (has_slash path) as (λ v. (cond {A = ℕ × RowsOf K} v (0, []) (length path, [])).1 ≡ []) [
        | true ↦ refl
        | false ↦ refl
      ]

  pub seek-none : (skip : ℕ) (path : List ℕ) → seek {K = K} skip [] path ≡ None
  unfolding seek
  seek-none skip [] = refl
  seek-none (suc skip) (b ∷ path) = seek-none skip path
  seek-none zero (b ∷ path) = simp (
    seek-none 0 path,
    param_step-none (b ∷ path),
    seek-none (((param_step {K = K} [] (b ∷ path)).0) - 1) path,
  )

  pub seek-past : (front path : List ℕ) (rows : RowsOf K) → seek (length front) rows (front ++ path)
      ≡ seek 0 rows path
  unfolding seek
  seek-past [] path rows = refl
  seek-past (b ∷ front) path rows = seek-past front path rows

  pub seek-over : (path : List ℕ) (rows : RowsOf K) → seek (length path) rows path ≡ own rows
  unfolding seek
  seek-over [] rows = refl
  seek-over (b ∷ path) rows = seek-over path rows

  abbrev pub AllEnd : RowsOf K → Type 0
  AllEnd [] = Unit {0}
  AllEnd (row ∷ rows) = Ends row.0 × AllEnd rows

  longest-kept : (seg : List ℕ) (rows : RowsOf K) → AllEnd rows → longest_from seg (slash ∷ []) rows
      ≡ slash ∷ []
  longest-kept seg [] ends = refl
  longest-kept seg (row ∷ rows) ends = rw (keeps seg row.0 ends.0) (longest-kept seg rows ends.1)

  -- some row continues
  abbrev pub any_continues : RowsOf K → Bool
  any_continues [] = false
  any_continues (([], key) ∷ rows) = any_continues rows
  any_continues ((_ ∷ _, key) ∷ rows) = true

  pub longest-slash : (seg : List ℕ) (rows : RowsOf K) → cuts seg (slash ∷ []) ≡ true → AllEnd rows
      → any_continues rows ≡ true → longest_suffix seg rows ≡ slash ∷ []
  longest-slash seg [] cut ends some = cc
  longest-slash seg (([], key) ∷ rows) cut ends some = longest-slash seg rows cut ends.1 some
  longest-slash seg ((x ∷ text, key) ∷ rows) cut ends some =
      rw (better_cut seg (x ∷ text) ends.0 cut (λ e. cc)) (longest-kept seg rows ends.1)

  pub longest-none : (seg : List ℕ) (rows : RowsOf K) → cuts seg (slash ∷ []) ≡ false → AllEnd rows
      → longest_suffix seg rows ≡ []
  longest-none seg [] cut ends = refl
  longest-none seg (row ∷ rows) cut ends = rw (none row.0 ends.0) (longest-none seg rows cut ends.1)
    where
      none : (text : List ℕ) → Ends text → better seg [] (segment text) ≡ []
      none text stops = refl
      none text (continues rest) = rw cut refl

  pub param-slash : (b : ℕ) (part rest : List ℕ) (rows : RowsOf K) → has_slash (b ∷ part) ≡ false
      → longest_suffix ((b ∷ part) ++ slash ∷ []) rows ≡ slash ∷ []
      → param_step rows ((b ∷ part) ++ slash ∷ rest) ≡ (
        length (b ∷ part),
        with_suffix (slash ∷ []) rows,
      )
  unfolding param_step
  param-slash b part rest rows none longest =
      let long : length ((b ∷ part) ++ slash ∷ []) - 1 ≡ length (b ∷ part) =
      omega (arith, length-append (b ∷ part) (slash ∷ [])) in
      let seg : segment ((b ∷ part) ++ slash ∷ rest) ≡ (b ∷ part) ++ slash ∷ [] =
      segment-slash (b ∷ part) rest none in
      rw (seg, longest, long) refl

  pub param-end : (part : List ℕ) (rows : RowsOf K) → has_slash part ≡ false
      → longest_suffix part rows ≡ [] → param_step rows part ≡ (length part, rows)
  unfolding param_step
  param-end part rows none longest = rw (segment-end part none, longest, none) refl

  -- a part that isn't empty and no slash after it: the row that stops there
  pub first-end : (b : ℕ) (part : List ℕ) (rows : RowsOf K) → b < 256 → has_slash (b ∷ part) ≡ false
      → AllEnd rows → first (after_param rows) (b ∷ part) ≡ own rows
  unfolding seek
  first-end b part rows small none ends =
      let at = param-end (b ∷ part) rows none (longest-none (b ∷ part) rows
      (cuts-none (b ∷ part) none) ends) in
      let less : length (b ∷ part) - 1 ≡ length part = omega arith in
      simp (
        step-octet b rows small,
        seek-none 0 part,
        step-param rows,
        at,
        less,
        step-catch rows,
        seek-over part rows,
        or_else-none,
      ) refl

  -- a part that isn't empty and a slash after it: the rows that continue
  pub first-slash : (b : ℕ) (part rest : List ℕ) (rows : RowsOf K) → b < 256
      → has_slash (b ∷ part) ≡ false → longest_suffix ((b ∷ part) ++ slash ∷ []) rows ≡ slash ∷ []
      → first (after_param rows) ((b ∷ part) ++ slash ∷ rest)
      ≡ first (with_suffix (slash ∷ []) rows) (slash ∷ rest)
  unfolding seek
  first-slash b part rest rows small none longest =
      let at = param-slash b part rest rows none longest in
      let less : length (b ∷ part) - 1 ≡ length part = omega arith in
      simp (
        step-octet b rows small,
        seek-none 0 (part ++ slash ∷ rest),
        step-param rows,
        at,
        less,
        step-catch rows,
        seek-past part (slash ∷ rest) (with_suffix (slash ∷ []) rows),
        or_else-none,
      ) refl

  -- an empty part fits no name
  pub first-no_part : (rest : List ℕ) (rows : RowsOf K) → AllEnd rows
      → first (after_param rows) (slash ∷ rest) ≡ None
  unfolding seek param_step
  first-no_part rest rows ends =
      let cut : cuts (slash ∷ []) (slash ∷ []) ≡ false = refl in
      let small : slash < 256 = omega arith in
      simp (
        step-octet slash rows small,
        seek-none 0 rest,
        step-param rows,
        longest-none (slash ∷ []) rows cut ends,
        step-catch rows,
        seek-none 0 rest,
      ) refl

  pub first-nothing : (rows : RowsOf K) → first (after_param rows) [] ≡ None
  unfolding seek
  first-nothing [] = refl
  first-nothing (row ∷ rows) = first-nothing rows

  -- each row with a text in front
  abbrev pub after_text : List ℕ → RowsOf K → RowsOf K
  after_text text [] = []
  after_text text (row ∷ rows) = (text ++ row.0, row.1) ∷ after_text text rows

  step-text : (b : ℕ) (text : List ℕ) (rows : RowsOf K) → step b (after_text (b ∷ text) rows)
      ≡ after_text text rows
  step-text b text [] = refl
  step-text b text (row ∷ rows) =
      let same : (b == b) ≡ true = grind arith in
      rw (same, step-text b text rows) refl

  step-other : (x b : ℕ) (text : List ℕ) (rows : RowsOf K) → (x == b) ≡ false
      → step b (after_text (x ∷ text) rows) ≡ []
  step-other x b text [] other = refl
  step-other x b text (row ∷ rows) other = rw other (step-other x b text rows other)

  -- what a text leads to
  pub first-text : (text path : List ℕ) (rows : RowsOf K) → list_all (λ b. ltb b param_token) text
      ≡ true → first (after_text text rows) (text ++ path) ≡ first rows path
  unfolding seek
  first-text [] path rows small = ap (λ all. first all path) (nothing rows)
    where
      nothing : (all : RowsOf K) → after_text [] all ≡ all
      nothing [] = refl
      nothing (row ∷ rest) = ap (λ more. row ∷ more) (nothing rest)
  first-text (b ∷ text) path rows small =
      let octet : b < 256 = first_small b text small in
      let param : (b == param_token) ≡ false = grind arith in
      let catch : (b == catch_all_token) ≡ false = grind arith in
      simp (
        step-text b text rows,
        step-other b param_token text rows param,
        step-other b catch_all_token text rows catch,
        seek-none ((param_step {K = K} [] ((b ∷ text) ++ path)).0 - 1) (text ++ path),
        param_step-none ((b ∷ text) ++ path),
        or_else-none,
      )
      (first-text text path rows (others_small b text small))

  -- a row that stops here leads no further
  pub step-stop : (b : ℕ) (rows : RowsOf K) (key : K) → step b (rows ++ ([], key) ∷ [])
      ≡ step b rows
  step-stop b [] key = refl
  step-stop b (([], own) ∷ rows) key = step-stop b rows key
  step-stop b ((x ∷ text, own) ∷ rows) key =
      elim (x == b) as (λ v. cond v ((text, own) ∷ step b (rows ++ ([], key) ∷ []))
      (step b (rows ++ ([], key) ∷ [])) ≡ cond v ((text, own) ∷ step b rows) (step b rows)) [
        | true ↦ ap (λ rest. (text, own) ∷ rest) (step-stop b rows key)
        | false ↦ step-stop b rows key
      ]

  pub first-stop : (b : ℕ) (path : List ℕ) (rows : RowsOf K) (key : K)
      → first (rows ++ ([], key) ∷ []) (b ∷ path) ≡ first rows (b ∷ path)
  unfolding seek
  first-stop b path rows key =
      rw (step-stop b rows key, step-stop param_token rows key, step-stop catch_all_token rows key)
      refl

  -- an octet that every row needs
  pub first-octet : (b : ℕ) (path : List ℕ) (rows : RowsOf K) → step param_token rows ≡ []
      → step catch_all_token rows ≡ [] → first rows (b ∷ path) ≡ first (step b rows) path
  unfolding seek
  first-octet b path rows param catch =
      simp (
        param,
        catch,
        param_step-none (b ∷ path),
        seek-none ((param_step {K = K} [] (b ∷ path)).0 - 1) path,
        or_else-none,
      )
      refl
