-- Pages of a job, the bytes that a signature runs over, and signatures.
use Rattle.std.specs.Prelude.{ℕ, zero, suc, ◌+◌, ◌-◌, ◌*◌, ◌/◌, ◌%◌, min, List, [], ◌∷◌, ◌++◌, length, take, drop, replicate, fold}
use Rattle.field.specs.Field.{Ops, page_limit}
use Rattle.page.specs.declared.cut.TheConstants.{PAGE_LENGTH_LIMIT}
use Rattle.refusal.specs.Rules.{Rule, Within, unless}

-- how many pages of L bytes a job has: the whole ones, and a short last one for what is left
abbrev pub page_count : ℕ → ℕ → ℕ
page_count L bytes = bytes / L + min 1 (bytes % L)

-- where page n of a job of so many bytes begins, and how many bytes of its own it has; past the last page and for page 0, none
abbrev pub page_start : ℕ → (bytes : ℕ) → ℕ → ℕ
page_start L bytes n = min ((n - 1) * L) bytes

abbrev pub own_length : ℕ → (bytes : ℕ) → ℕ → ℕ
own_length L bytes zero = 0
own_length L bytes (suc k) = min (bytes - k * L) L

-- the job's own bytes of page n, n from 1
abbrev pub page_bytes : ℕ → List ℕ → ℕ → List ℕ
page_bytes L job zero = []
page_bytes L job (suc k) = take L (drop (k * L) job)

-- what a signature runs over: the page's own bytes, filled with zero bytes at the end
abbrev pub signed_bytes : ℕ → List ℕ → List ℕ
signed_bytes L own = own ++ replicate (L - length own) 0

-- one byte more: the signature is multiplied by alpha, then the byte is added
abbrev pub absorb : Ops → ℕ → ℕ → ℕ
absorb f s byte = f.plus (f.times s f.alpha) byte

abbrev pub signature : Ops → List ℕ → ℕ
signature f bytes = fold (absorb f) 0 bytes

abbrev pub page_signature : Ops → ℕ → List ℕ → ℕ → ℕ
page_signature f L job n = signature f (signed_bytes L (page_bytes L job n))

-- a number of pages that no job has is refused
abbrev pub page_range : Ops → ℕ → List Rule
page_range f N = unless (Within 1 (page_limit f) N) 1 3 ∷ []

-- what is refused of a job: a page length outside 1 to 4,096, then too few or too many pages
abbrev pub cutting : Ops → ℕ → ℕ → List Rule
cutting f L bytes = unless (Within 1 PAGE_LENGTH_LIMIT L) 1 7 ∷ unless (Within 1 (page_limit f) (page_count L bytes)) 1 3 ∷ []
