-- Listing pages: the pages that are meant, each once, rising.
use Rattle.std.specs.Prelude.{◌≡◌, ℕ, zero, suc, ◌*◌, ◌<◌, ◌≤◌, cond, List, [], ◌∷◌, ◌++◌, length, drop, nat_lt, slice_index}
use Rattle.algebra.specs.Vectors.{Page}
use Rattle.scheme.specs.Farm.{Table, group}

-- xs lists the pages of 1 .. N of which Q holds
pub record Lists (N : ℕ) (Q : ℕ → Type 0) (xs : List ℕ) : Type 0 where
  pub each : (i : ℕ) → i < length xs → Page N (slice_index xs i) × Q (slice_index xs i)
  pub rising : (i j : ℕ) → i < j → j < length xs → slice_index xs i < slice_index xs j
  pub every : (n : ℕ) → Page N n → Q n → (i : ℕ) × (i < length xs) × (slice_index xs i ≡ n)

-- after is before, but that it begins with the list of those pages, of which there are count
pub record Listed (N : ℕ) (Q : ℕ → Type 0) (before after : List ℕ) (count : ℕ) : Type 0 where
  pub listed : List ℕ
  pub lists : Lists N Q listed
  pub size : length listed ≡ count
  pub room : count ≤ length before
  pub written : after ≡ listed ++ drop count before

-- there are more of those pages than places in before, and after is the same as before
pub record Crowded (N : ℕ) (Q : ℕ → Type 0) (before after : List ℕ) : Type 0 where
  pub listed : List ℕ
  pub lists : Lists N Q listed
  pub short : length before < length listed
  pub same : after ≡ before

-- the bad pages of row s, of 1 .. N
abbrev pub bad_pages : ℕ → Table → ℕ → ℕ → List ℕ
bad_pages M R s zero = []
bad_pages M R s (suc N) = bad_pages M R s N ++ cond (nat_lt M (2 * group M R (suc N) s)) [] (suc N ∷ [])
